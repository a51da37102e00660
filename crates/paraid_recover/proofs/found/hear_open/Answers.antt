use Rattle.std.specs.Prelude.{false, true}
use Rattle.std.proofs.Common.{arith, refl, ◌∙◌, ap, ◌≡◌, Some}
use Rattle.paraid_rack.specs.Disks.{Disks}
use Rattle.paraid_rack.specs.Slots.{Slot}
use Rattle.paraid_rack.specs.Trail.{Trail, now}
use Rattle.paraid_image.specs.Sides.{is_open, stored_block}
use Rattle.paraid_record.specs.Targets.{targets_of}
use Rattle.paraid_recover.specs.HeardSides.{HasReadLog}
use Rattle.paraid_recover.proofs.FoundLemmas.{open_meta, open_no_list, open_no_meta}
use Rattle.paraid_recover.proofs.HeadLemmas.{head_fits, head_then}
use Rattle.paraid_recover.proofs.LogReadsLemmas.{log_fits, log_raised, log_then}
use Rattle.paraid_recover.proofs.RaisedLemmas.{none_done_if}
use Rattle.paraid_recover.proofs.UnchangedLemmas.{carried, unchanged_now}
use Rattle.paraid_recover.proofs.found.hear_open.Given.{Over}
use Rattle.paraid_recover.proofs.found.hear_open.Goals as goal
use Rattle.paraid_recover.proofs.found.hear_open.Goals.{In_ok-read_place-2}

both : (g : Over) (c : In_ok-read_place-2 g) → HasReadLog g.R.Rack c.args.disk 2 c.args.rack.now c.read_place-2.new.rack true
both g c = log_then g.R.Rack c.args.disk 1 1 2 (omega arith) c.args.rack.now c.read_place.new.rack c.read_place-2.new.rack true c.in_ok-read_place.ensures.reads c.in_ok-read_place-2.ensures.reads

opened : (g : Over) (c : In_ok-read_place-2 g) (t : Trail) → g.R.Rack.told c.read_place-2.new.rack ≡ Some t → is_open (stored_block (now t) c.args.disk 0) ≡ true
opened g c t tells =
    let u = unchanged_now ((both g c).unchanged (refl {a = true})) t tells in
    ap (λ (s : Disks). is_open (stored_block s c.args.disk 0)) u.2 ∙ c.requires.opened u.0 u.1

first : (g : Over) (c : In_ok-read_place-2 g) (t : Trail) → g.R.Rack.told c.read_place-2.new.rack ≡ Some t → c.read_place.new.into ≡ stored_block (now t) c.args.disk 2
first g c t tells = carried c.read_place.new.into c.args.disk 2 (c.in_ok-read_place-2.ensures.reads.unchanged (refl {a = true})) c.in_ok-read_place.ensures.block t tells

pub read_place-requires : goal.read_place-requires
read_place-requires g c = record { exists = c.requires.exists; spinning = c.requires.spinning; low = omega arith }

pub read_place-requires-2 : goal.read_place-requires-2
read_place-requires-2 g c =
    let read = c.in_ok-read_place.ensures.reads in
    record {
      exists = (let slots = read.slots in let there = c.requires.exists in omega arith);
      spinning = ap (λ (s : Slot). s.power) (read.same (refl {a = true}) c.args.disk) ∙ c.requires.spinning;
      low = omega arith;
    }

pub returns-in_err-read_place : goal.returns-in_err-read_place
returns-in_err-read_place g c =
    let r = c.from_residual.result in
    let raised = c.from_residual.ensures.1 in
    record {
      reads = log_raised g.R.Rack c.args.disk 2 c.args.rack.now c.read_place.new.rack r _ raised (log_fits g.R.Rack c.args.disk 1 2 (omega arith) c.args.rack.now c.read_place.new.rack false c.in_err-read_place.ensures.reads);
      head = head_fits c.args.disk 1 2 (omega arith) (c.read_place.ensures.head (omega arith));
      heard = none_done_if _ r _ raised;
    }

pub returns-in_err-read_place-2 : goal.returns-in_err-read_place-2
returns-in_err-read_place-2 g c =
    let r = c.from_residual-in_err-read_place-2.result in
    let raised = c.from_residual-in_err-read_place-2.ensures.1 in
    record {
      reads = log_raised g.R.Rack c.args.disk 2 c.args.rack.now c.read_place-2.new.rack r _ raised
          (log_then g.R.Rack c.args.disk 1 1 2 (omega arith) c.args.rack.now c.read_place.new.rack c.read_place-2.new.rack false c.in_ok-read_place.ensures.reads c.in_err-read_place-2.ensures.reads);
      head = head_then c.args.disk 1 1 2 (omega arith) (c.read_place.ensures.head (omega arith)) (c.read_place-2.ensures.head (omega arith));
      heard = none_done_if _ r _ raised;
    }

pub returns-in_default : goal.returns-in_default
returns-in_default g c =
    let at = (goal.at.returns-in_default g c).In_ok-read_place-2 in
    record {
      reads = both g at;
      head = head_then c.args.disk 1 1 2 (omega arith) (c.read_place.ensures.head (omega arith)) (c.read_place-2.ensures.head (omega arith));
      heard = λ t tells. open_no_meta (now t) c.args.disk c.read_place.new.into (opened g at t tells) (first g at t tells) c.in_default.ensures.none;
    }

pub returns-in_default-read_targets : goal.returns-in_default-read_targets
returns-in_default-read_targets g c =
    let at = (goal.at.returns-in_default-read_targets g c).In_ok-read_place-2 in
    record {
      reads = both g at;
      head = head_then c.args.disk 1 1 2 (omega arith) (c.read_place.ensures.head (omega arith)) (c.read_place-2.ensures.head (omega arith));
      heard = λ t tells.
          open_no_list (now t) c.args.disk c.read_place.new.into c.read_place-2.new.into c.in-Some.meta (opened g at t tells) (first g at t tells)
          c.in-Some.ensures.some (c.in_ok-read_place-2.ensures.block t tells) c.in_default-read_targets.ensures.none;
    }

pub returns : goal.returns
returns g c =
    let at = (goal.at.returns g c).In_ok-read_place-2 in
    record {
      reads = both g at;
      head = head_then c.args.disk 1 1 2 (omega arith) (c.read_place.ensures.head (omega arith)) (c.read_place-2.ensures.head (omega arith));
      heard = λ t tells.
          open_meta (now t) c.args.disk c.read_place.new.into c.read_place-2.new.into c.in-Some.meta (targets_of c.in-Some-read_targets._targets) (opened g at t tells) (first g at t tells)
          c.in-Some.ensures.some (c.in_ok-read_place-2.ensures.block t tells) c.in-Some-read_targets.ensures.some;
    }
