use Rattle.std.specs.Prelude.{true}
use Rattle.std.proofs.Common.{arith, refl, sym, ◌∙◌, ap, ◌≡◌, Some, false}
use Rattle.paraid_base.specs.declared.block.Block.{Block}
use Rattle.paraid_base.proofs.XorLemmas.{same_block}
use Rattle.paraid_rack.specs.Disks.{Disks, IsPresent, is_present}
use Rattle.paraid_rack.specs.Slots.{Slot}
use Rattle.paraid_rack.specs.Trail.{Trail, now}
use Rattle.paraid_image.specs.Sides.{is_open, stored_block}
use Rattle.paraid_recover.proofs.HeardLemmas.{closed_bad, closed_formed}
use Rattle.paraid_recover.proofs.LogReadsLemmas.{empty_targets, log_raised}
use Rattle.paraid_recover.proofs.RaisedLemmas.{none_done_if}
use Rattle.paraid_recover.proofs.UnchangedLemmas.{unchanged_now}
use Rattle.paraid_recover.proofs.hearing.hear_closed.Given.{Over}
use Rattle.paraid_recover.proofs.hearing.hear_closed.Goals as goal
use Rattle.paraid_recover.proofs.hearing.hear_closed.Goals.{In_ok-read_place}

here : (g : Over) (c : In_ok-read_place g) (t : Trail) → g.R.Rack.told c.read_place.new.rack ≡ Some t → IsPresent (now t) c.args.disk
here g c t tells =
    ap is_present ((g.met.R.Rack.agrees _ t tells).power c.args.disk ∙ ap (λ (s : Slot). s.power) (c.in_ok-read_place.ensures.reads.same (refl {a = true}) c.args.disk) ∙ c.requires.spinning)

shut : (g : Over) (c : In_ok-read_place g) (t : Trail) → g.R.Rack.told c.read_place.new.rack ≡ Some t → is_open (stored_block (now t) c.args.disk 0) ≡ false
shut g c t tells =
    let u = unchanged_now (c.in_ok-read_place.ensures.reads.unchanged (refl {a = true})) t tells in
    ap (λ (s : Disks). is_open (stored_block s c.args.disk 0)) u.2 ∙ c.requires.shut u.0 u.1

pub read_place-requires : goal.read_place-requires
read_place-requires g c = record { exists = c.requires.exists; spinning = c.requires.spinning; low = omega arith }

pub returns-in_err-read_place : goal.returns-in_err-read_place
returns-in_err-read_place g c = record {
  reads = log_raised g.R.Rack c.args.disk 1 c.args.rack.now c.read_place.new.rack c.from_residual.result _ c.from_residual.ensures.1 c.in_err-read_place.ensures.reads;
  heard = none_done_if _ c.from_residual.result _ c.from_residual.ensures.1;
  form = none_done_if _ c.from_residual.result _ c.from_residual.ensures.1;
}

pub returns-in-Some : goal.returns-in-Some
returns-in-Some g c = record {
  reads = c.in_ok-read_place.ensures.reads;
  heard = λ t tells.
      let at = (goal.at.returns-in-Some g c).In_ok-read_place in
      closed_formed (now t) c.args.disk (here g at t tells) c.read_place.new.into c.in-Some.meta (shut g at t tells) (c.in_ok-read_place.ensures.block t tells) c.in-Some.ensures.some;
  form = (c.in-Some.ensures.some.0, empty_targets c.in-Some.meta.setup.geometry, λ is. refl);
}

pub returns-then-is_zero : goal.returns-then-is_zero
returns-then-is_zero g c = record {
  reads = c.in_ok-read_place.ensures.reads;
  heard = λ t tells.
      let at = (goal.at.returns-then-is_zero g c).In_ok-read_place in
      (here g at t tells, shut g at t tells, sym (c.in_ok-read_place.ensures.block t tells) ∙ same_block _ _ (c.is_zero.ensures.yes c.if-is_zero.true));
  form = tt;
}

pub returns : goal.returns
returns g c = record {
  reads = c.in_ok-read_place.ensures.reads;
  heard = λ t tells.
      let at = (goal.at.returns g c).In_ok-read_place in
      closed_bad (now t) c.args.disk (here g at t tells) c.read_place.new.into (shut g at t tells) (c.in_ok-read_place.ensures.block t tells) c.in_default.ensures.none
      (λ same. c.is_zero.ensures.no c.if-is_zero.false (ap (λ (b : Block). b.bytes) same));
  form = tt;
}
