use Rattle.std.specs.Prelude.{false, true, ◌≡◌, Some, IfOk, is_ok, ◌+◌}
use Rattle.std.proofs.Common.{arith, refl, sym, subst, ◌∙◌, ap}
use Rattle.paraid_rack.specs.Trail.{Trail, now}
use Rattle.paraid_rack.specs.Slots.{Slot}
use Rattle.paraid_image.specs.Sides.{Batch, is_open}
use Rattle.paraid_recover.specs.HeardSides.{IsHeard, IsInForm}
use Rattle.paraid_recover.proofs.LogReadsLemmas.{log_fits, log_raised, log_then}
use Rattle.paraid_recover.proofs.RaisedLemmas.{none_done_if}
use Rattle.paraid_recover.proofs.hearing.hear.Goals as goal
use Rattle.paraid_base.specs.Log.{batch_room}

pub read_place-requires : goal.read_place-requires
read_place-requires g c = record { exists = c.requires.exists; spinning = c.requires.spinning; low = omega arith }

pub hear_open-requires : goal.hear_open-requires
hear_open-requires g c =
    let read = c.in_ok-read_place.ensures.reads in
    record {
      exists = (let slots = read.slots in let there = c.requires.exists in omega arith);
      spinning = ap (λ (s : Slot). s.power) (read.same (refl {a = true}) c.args.disk) ∙ c.requires.spinning;
      empty = c.requires.empty;
      opened = λ t tells. ap is_open (sym (c.in_ok-read_place.ensures.block t tells)) ∙ sym c.opens.ensures ∙ c.if-opens.true;
    }

pub hear_closed-requires : goal.hear_closed-requires
hear_closed-requires g c =
    let read = c.in_ok-read_place.ensures.reads in
    record {
      exists = (let slots = read.slots in let there = c.requires.exists in omega arith);
      spinning = ap (λ (s : Slot). s.power) (read.same (refl {a = true}) c.args.disk) ∙ c.requires.spinning;
      shut = λ t tells. ap is_open (sym (c.in_ok-read_place.ensures.block t tells)) ∙ sym c.opens.ensures ∙ c.if-opens.false;
    }

pub returns-in_err-read_place : goal.returns-in_err-read_place
returns-in_err-read_place g c =
    let r = c.from_residual.result in
    let raised = c.from_residual.ensures.1 in
    record {
      reads = log_raised g.R.Rack c.args.disk (batch_room + 3) c.args.rack.now c.read_place.new.rack r _ raised (log_fits g.R.Rack c.args.disk 1 (batch_room + 3) (omega arith) c.args.rack.now c.read_place.new.rack false c.in_err-read_place.ensures.reads);
      heard = none_done_if _ r _ raised;
      form = none_done_if _ r _ raised;
    }

pub returns-then-opens : goal.returns-then-opens
returns-then-opens g c = record {
  reads = log_then g.R.Rack c.args.disk 1 (batch_room + 2) (batch_room + 3) (omega arith) c.args.rack.now c.read_place.new.rack c.hear_open.new.rack (is_ok c.hear_open.result) c.in_ok-read_place.ensures.reads c.hear_open.ensures.reads;
  heard = c.hear_open.ensures.heard;
  form = c.hear_open.ensures.form;
}

pub returns : goal.returns
returns g c = record {
  reads = log_then g.R.Rack c.args.disk 1 1 (batch_room + 3) (omega arith) c.args.rack.now c.read_place.new.rack c.hear_closed.new.rack (is_ok c.hear_closed.result) c.in_ok-read_place.ensures.reads c.hear_closed.ensures.reads;
  heard =
      subst (λ (b : Batch). IfOk c.hear_closed.result (λ heard. (t : Trail) → g.R.Rack.told c.hear_closed.new.rack ≡ Some t → IsHeard (now t) c.args.disk heard b)) (sym c.requires.empty)
      c.hear_closed.ensures.heard;
  form = subst (λ (b : Batch). IfOk c.hear_closed.result (λ heard. IsInForm (Some heard) b)) (sym c.requires.empty) c.hear_closed.ensures.form;
}
