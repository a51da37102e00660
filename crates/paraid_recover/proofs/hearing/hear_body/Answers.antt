use Rattle.std.specs.Prelude.{false, true, is_ok}
use Rattle.std.proofs.Common.{refl, sym, ◌∙◌, ap, subst, arith, ◌≡◌, ◌+◌, length}
use Rattle.paraid_base.specs.Log.{batch_room, body_place}
use Rattle.paraid_rack.specs.Disks.{Disks}
use Rattle.paraid_rack.specs.Slots.{Slot}
use Rattle.paraid_rack.specs.Trail.{now}
use Rattle.paraid_record.specs.Targets.{targets_of}
use Rattle.paraid_image.specs.Sides.{AreBlocksLogged, stored_block, targets}
use Rattle.paraid_recover.proofs.BodyLemmas.{at_place, below_all, named_all, named_more, one_more, read_so_far}
use Rattle.paraid_recover.proofs.LogReadsLemmas.{log_fits, log_none, log_raised, log_then}
use Rattle.paraid_recover.proofs.RaisedLemmas.{none_done}
use Rattle.paraid_recover.proofs.UnchangedLemmas.{logged_more, unchanged_now}
use Rattle.paraid_recover.proofs.hearing.hear_body.Goals as goal

pub read_place-requires : goal.read_place-requires
read_place-requires g c =
    let read = c.loop-at.invariant.reads in
    record {
      exists = (let slots = read.slots in let there = c.requires.exists in omega arith);
      spinning = ap (λ (s : Slot). s.power) (read.same (refl {a = true}) c.args.disk) ∙ c.requires.spinning;
      low = (let few = c.requires.few in let below = c.loop-at-test.true in let from = c.from.ensures in omega arith);
    }

pub loop-at-preserved : goal.loop-at-preserved
loop-at-preserved g c =
    let ts = targets_of c.args.places.now in
    let n = c.loop-at.at in
    let target = c.target_at-target.result in
    let low = below_all c.args.places.now.count n c.args.places.now.list c.target_at-target.ensures.list c.loop-at-test.true in
    let at = c.target_at-target.ensures.value in
    let ok = c.in_default.ensures.ok in
    let size = read_so_far c.loop-at.batch ts n low c.loop-at.invariant.named in
    let more = one_more c.loop-at.batch ts n low c.loop-at.invariant.named c.add.new.self target c.read_place.new.into at c.requires.distinct ok in
    record {
      reads = log_then g.R.Rack c.args.disk n 1 (n + 1) (omega arith) c.args.rack.now c.loop-at.rack c.read_place.new.rack true c.loop-at.invariant.reads c.in_ok-read_place.ensures.reads;
      named = named_more c.loop-at.batch ts n low c.loop-at.invariant.named c.add.new.self target c.read_place.new.into at c.requires.distinct ok;
      logged = λ t tells.
          let u = unchanged_now (c.in_ok-read_place.ensures.reads.unchanged (refl {a = true})) t tells in
          let was = subst (λ (s : Disks). AreBlocksLogged (stored_block s c.args.disk) 4 c.loop-at.batch) (sym u.2) (c.loop-at.invariant.logged u.0 u.1) in
          let from = c.from.ensures in
          subst (AreBlocksLogged (stored_block (now t) c.args.disk) 4) (sym more)
          (logged_more (stored_block (now t) c.args.disk) 4 c.loop-at.batch (target, c.read_place.new.into) was
          (at_place (stored_block (now t) c.args.disk) (body_place (length c.loop-at.batch)) _ c.read_place.new.into (c.in_ok-read_place.ensures.block t tells) (omega arith)));
    }

pub returns-in_err-read_place : goal.returns-in_err-read_place
returns-in_err-read_place g c =
    let r = c.from_residual.result in
    let raised = c.from_residual.ensures.1 in
    record {
      reads =
          let few = c.requires.few in
          let below = c.loop-at-test.true in
          log_fits g.R.Rack c.args.disk (c.loop-at.at + 1) batch_room (omega arith) c.args.rack.now c.read_place.new.rack (is_ok r)
          (log_raised g.R.Rack c.args.disk (c.loop-at.at + 1) c.args.rack.now c.read_place.new.rack r _ raised
          (log_then g.R.Rack c.args.disk c.loop-at.at 1 (c.loop-at.at + 1) (omega arith) c.args.rack.now c.loop-at.rack c.read_place.new.rack false c.loop-at.invariant.reads c.in_err-read_place.ensures.reads));
      named = none_done _ r _ raised;
      logged = none_done _ r _ raised;
    }

-- there is room for each target
pub returns-in-Err : goal.returns-in-Err
returns-in-Err g c =
    let size = read_so_far c.loop-at.batch (targets_of c.args.places.now) c.loop-at.at (below_all c.args.places.now.count c.loop-at.at c.args.places.now.list c.target_at-target.ensures.list c.loop-at-test.true) c.loop-at.invariant.named in
    let full : length c.loop-at.batch ≡ batch_room = c.in-Err.ensures.full.1 in
    let few = c.requires.few in
    let at = c.loop-at-test.true in
    absurd (omega arith)

pub returns : goal.returns
returns g c =
    let count = c.args.places.now.count in
    let few = c.requires.few in
    let end = c.loop-at.auto.at-end in
    record {
      reads = log_fits g.R.Rack c.args.disk c.loop-at.at batch_room (omega arith) c.args.rack.now c.loop-at.rack true c.loop-at.invariant.reads;
      named = named_all c.loop-at.batch count c.loop-at.at c.args.places.now.list c.loop-at.invariant.named (omega arith);
      logged = c.loop-at.invariant.logged;
    }

pub loop-at-init : goal.loop-at-init
loop-at-init g c = record {
  reads = log_none g.R.Rack c.args.disk 0 c.args.rack.now;
  named = ap targets c.requires.empty;
  logged = λ t tells. subst (AreBlocksLogged (stored_block (now t) c.args.disk) 4) (sym c.requires.empty) tt;
}

pub target_at-target-requires : goal.target_at-target-requires
target_at-target-requires g c = record { low = c.loop-at-test.true; few = c.requires.few }
