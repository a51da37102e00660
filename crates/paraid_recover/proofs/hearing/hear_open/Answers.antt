use Rattle.std.proofs.lemmas.Bool.{true≢false}
use Rattle.std.specs.Prelude.{false, true, List, ◌+◌}
use Rattle.std.proofs.Common.{arith, refl, sym, ◌∙◌, ap, subst, ◌≡◌, Some}
use Rattle.paraid_rack.specs.Disks.{Disks, IsPresent, is_present}
use Rattle.paraid_rack.specs.Slots.{Slot}
use Rattle.paraid_rack.specs.Trail.{Trail, now}
use Rattle.paraid_record.specs.Targets.{AreTargets, targets_of}
use Rattle.paraid_record.specs.declared.targets.Target.{Target}
use Rattle.paraid_base.specs.Log.{batch_room}
use Rattle.paraid_recover.specs.HeardSides.{HasReadLog}
use Rattle.paraid_image.specs.Sides.{is_open, stored_block}
use Rattle.paraid_recover.proofs.HeardLemmas.{open_bad_list, open_bad_meta, open_formed}
use Rattle.paraid_recover.proofs.LogReadsLemmas.{log_fits, log_raised, log_then}
use Rattle.paraid_recover.proofs.RaisedLemmas.{none_done_if}
use Rattle.paraid_recover.proofs.UnchangedLemmas.{carried, unchanged_now}
use Rattle.paraid_recover.proofs.hearing.hear_open.Given.{Over}
use Rattle.paraid_recover.proofs.hearing.hear_open.Goals as goal
use Rattle.paraid_recover.proofs.hearing.hear_open.Goals.{In_ok-read_place-2}

both : (g : Over) (c : In_ok-read_place-2 g) → HasReadLog g.R.Rack c.args.disk 2 c.args.rack.now c.read_place-2.new.rack true
both g c = log_then g.R.Rack c.args.disk 1 1 2 (omega arith) c.args.rack.now c.read_place.new.rack c.read_place-2.new.rack true c.in_ok-read_place.ensures.reads c.in_ok-read_place-2.ensures.reads

fits : (g : Over) (c : In_ok-read_place-2 g) → HasReadLog g.R.Rack c.args.disk (batch_room + 2) c.args.rack.now c.read_place-2.new.rack true
fits g c = log_fits g.R.Rack c.args.disk 2 (batch_room + 2) (omega arith) c.args.rack.now c.read_place-2.new.rack true (both g c)

here : (g : Over) (c : In_ok-read_place-2 g) (t : Trail) → g.R.Rack.told c.read_place-2.new.rack ≡ Some t → IsPresent (now t) c.args.disk
here g c t tells =
    ap is_present ((g.met.R.Rack.agrees _ t tells).power c.args.disk ∙ ap (λ (s : Slot). s.power) ((both g c).same (refl {a = true}) c.args.disk) ∙ c.requires.spinning)

opened : (g : Over) (c : In_ok-read_place-2 g) (t : Trail) → g.R.Rack.told c.read_place-2.new.rack ≡ Some t → is_open (stored_block (now t) c.args.disk 0) ≡ true
opened g c t tells =
    let u = unchanged_now ((both g c).unchanged (refl {a = true})) t tells in
    ap (λ (s : Disks). is_open (stored_block s c.args.disk 0)) u.2 ∙ c.requires.opened u.0 u.1

first : (g : Over) (c : In_ok-read_place-2 g) (t : Trail) → g.R.Rack.told c.read_place-2.new.rack ≡ Some t → c.read_place.new.into ≡ stored_block (now t) c.args.disk 2
first g c t tells = carried c.read_place.new.into c.args.disk 2 (c.in_ok-read_place-2.ensures.reads.unchanged (refl {a = true})) c.in_ok-read_place.ensures.block t tells

pub read_place-requires : goal.read_place-requires
read_place-requires g c = record { exists = c.requires.exists; spinning = c.requires.spinning; low = omega arith }

pub read_place-requires-2 : goal.read_place-requires-2
read_place-requires-2 g c =
    let read = c.in_ok-read_place.ensures.reads in
    record {
      exists = (let slots = read.slots in let there = c.requires.exists in omega arith);
      spinning = ap (λ (s : Slot). s.power) (read.same (refl {a = true}) c.args.disk) ∙ c.requires.spinning;
      low = omega arith;
    }

pub hear_body-requires : goal.hear_body-requires
hear_body-requires g c =
    let read = c.in_ok-read_place.ensures.reads in
    let more = c.in_ok-read_place-2.ensures.reads in
    record {
      exists = (let slots = more.slots in let was = read.slots in let there = c.requires.exists in omega arith);
      spinning = ap (λ (s : Slot). s.power) (more.same (refl {a = true}) c.args.disk ∙ read.same (refl {a = true}) c.args.disk) ∙ c.requires.spinning;
      empty = c.requires.empty;
      few = c.in-Some-read_targets.ensures.rest.count;
      distinct = c.in-Some-read_targets.ensures.some.0.distinct;
    }

pub returns-in_err-read_place : goal.returns-in_err-read_place
returns-in_err-read_place g c =
    let r = c.from_residual.result in
    let raised = c.from_residual.ensures.1 in
    record {
      reads = log_raised g.R.Rack c.args.disk (batch_room + 2) c.args.rack.now c.read_place.new.rack r _ raised (log_fits g.R.Rack c.args.disk 1 (batch_room + 2) (omega arith) c.args.rack.now c.read_place.new.rack false c.in_err-read_place.ensures.reads);
      heard = none_done_if _ r _ raised;
      form = none_done_if _ r _ raised;
    }

pub returns-in_err-read_place-2 : goal.returns-in_err-read_place-2
returns-in_err-read_place-2 g c =
    let r = c.from_residual-in_err-read_place-2.result in
    let raised = c.from_residual-in_err-read_place-2.ensures.1 in
    record {
      reads = log_raised g.R.Rack c.args.disk (batch_room + 2) c.args.rack.now c.read_place-2.new.rack r _ raised
          (log_then g.R.Rack c.args.disk 1 1 (batch_room + 2) (omega arith) c.args.rack.now c.read_place.new.rack c.read_place-2.new.rack false c.in_ok-read_place.ensures.reads c.in_err-read_place-2.ensures.reads);
      heard = none_done_if _ r _ raised;
      form = none_done_if _ r _ raised;
    }

pub returns-in_default : goal.returns-in_default
returns-in_default g c =
    let at = (goal.at.returns-in_default g c).In_ok-read_place-2 in
    record {
      reads = fits g at;
      heard = λ t tells. open_bad_meta (now t) c.args.disk (here g at t tells) c.read_place.new.into (opened g at t tells) (first g at t tells) c.in_default.ensures.none;
      form = tt;
    }

pub returns-in_default-read_targets : goal.returns-in_default-read_targets
returns-in_default-read_targets g c =
    let at = (goal.at.returns-in_default-read_targets g c).In_ok-read_place-2 in
    record {
      reads = fits g at;
      heard = λ t tells.
          open_bad_list (now t) c.args.disk (here g at t tells) c.read_place.new.into c.read_place-2.new.into c.in-Some.meta (opened g at t tells) (first g at t tells)
          c.in-Some.ensures.some (c.in_ok-read_place-2.ensures.block t tells) c.in_default-read_targets.ensures.none;
      form = tt;
    }

pub returns-in_err-hear_body : goal.returns-in_err-hear_body
returns-in_err-hear_body g c =
    let at = (goal.at.returns-in_err-hear_body g c).In_ok-read_place-2 in
    let r = c.from_residual-in_err-hear_body.result in
    let raised = c.from_residual-in_err-hear_body.ensures.1 in
    record {
      reads = log_raised g.R.Rack c.args.disk (batch_room + 2) c.args.rack.now c.hear_body.new.rack r _ raised
          (log_then g.R.Rack c.args.disk 2 batch_room (batch_room + 2) (omega arith) c.args.rack.now c.read_place-2.new.rack c.hear_body.new.rack false (both g at) c.in_err-hear_body.ensures.reads);
      heard = none_done_if _ r _ raised;
      form = none_done_if _ r _ raised;
    }

pub returns : goal.returns
returns g c =
    let at = (goal.at.returns g c).In_ok-read_place-2 in
    record {
      reads = log_then g.R.Rack c.args.disk 2 batch_room (batch_room + 2) (omega arith) c.args.rack.now c.read_place-2.new.rack c.hear_body.new.rack true (both g at) c.in_ok-hear_body.ensures.reads;
      heard = λ t tells.
          let u = unchanged_now (c.in_ok-hear_body.ensures.reads.unchanged (refl {a = true})) t tells in
          let present = ap (λ (s : Disks). is_present (s.power c.args.disk)) u.2 ∙ here g at u.0 u.1 in
          let gate = ap (λ (s : Disks). is_open (stored_block s c.args.disk 0)) u.2 ∙ opened g at u.0 u.1 in
          open_formed (now t) c.args.disk present c.read_place.new.into c.read_place-2.new.into c.in-Some.meta (targets_of c.in-Some-read_targets.targets) c.hear_body.new.batch gate
          (first g at u.0 u.1 ∙ ap (λ (s : Disks). stored_block s c.args.disk 2) (sym u.2)) c.in-Some.ensures.some
          (carried c.read_place-2.new.into c.args.disk 3 (c.in_ok-hear_body.ensures.reads.unchanged (refl {a = true})) c.in_ok-read_place-2.ensures.block t tells) c.in-Some-read_targets.ensures.some
          c.in_ok-hear_body.ensures.named (c.in_ok-hear_body.ensures.logged t tells);
      form = (
        c.in-Some.ensures.some.0,
        subst (λ (ts : List Target). AreTargets c.in-Some.meta.setup.geometry ts) (sym c.in_ok-hear_body.ensures.named) c.in-Some-read_targets.ensures.some.0,
        λ is. absurd (true≢false is),
      );
    }
