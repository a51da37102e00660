use Rattle.std.specs.Prelude.{true, ◌≡◌, None, ◌+◌}
use Rattle.std.proofs.Common.{refl, sym, ap, ◌∙◌}
use Rattle.paraid_rack.specs.declared.call.Power.TheVariants.{Absent, Spinning}
use Rattle.paraid_rack.specs.Disks.{is_present}
use Rattle.paraid_rack.specs.Slots.{Slot}
use Rattle.paraid_recover.proofs.LogReadsLemmas.{log_none, log_raised, spins_by}
use Rattle.paraid_recover.proofs.RaisedLemmas.{some_not_none, handed, none_done_as, none_done_if}
use Rattle.paraid_recover.proofs.sides.hear_if_there.Goals as goal
use Rattle.paraid_base.specs.Log.{batch_room}

pub hear-requires : goal.hear-requires
hear-requires g c = record {
  exists = c.requires.exists;
  spinning = spins_by _ (λ gone. c.in_default.not-Absent (c.power.ensures ∙ gone)) c.requires.not_parked;
  empty = c.requires.empty;
}

pub returns-in-Absent : goal.returns-in-Absent
returns-in-Absent g c =
    let gone : (g.R.Rack.slot c.args.rack.now c.args.disk).power ≡ Absent = sym c.power.ensures ∙ c.in-Absent.is in
    record {
      reads = log_none g.R.Rack c.args.disk (batch_room + 3) c.args.rack.now;
      heard = λ t tells. ap is_present ((g.met.R.Rack.agrees _ t tells).power c.args.disk ∙ gone);
      form = tt;
      power = gone;
      silent = λ is. gone;
      was = tt;
    }

pub returns-in_err-heard : goal.returns-in_err-heard
returns-in_err-heard g c =
    let r = c.from_residual.result in
    let raised = c.from_residual.ensures.1 in
    let spins : (g.R.Rack.slot c.args.rack.now c.args.disk).power ≡ Spinning = spins_by _ (λ gone. c.in_default.not-Absent (c.power.ensures ∙ gone)) c.requires.not_parked in
    record {
      reads = log_raised g.R.Rack c.args.disk (batch_room + 3) c.args.rack.now c.hear.new.rack r _ raised c.in_err-heard.ensures.reads;
      heard = none_done_if _ r _ raised;
      form = none_done_if _ r _ raised;
      power = none_done_if _ r _ raised;
      silent = λ is. none_done_as _ r _ None raised is;
      was = handed (λ failed. (g.R.Rack.slot c.args.rack.now c.args.disk).power ≡ Spinning) r _ raised spins;
    }

pub returns : goal.returns
returns g c =
    let spins : (g.R.Rack.slot c.args.rack.now c.args.disk).power ≡ Spinning = spins_by _ (λ gone. c.in_default.not-Absent (c.power.ensures ∙ gone)) c.requires.not_parked in
    record {
      reads = c.in_ok-heard.ensures.reads;
      heard = c.in_ok-heard.ensures.heard;
      form = c.in_ok-heard.ensures.form;
      power = ap (λ (s : Slot). s.power) (c.in_ok-heard.ensures.reads.same (refl {a = true}) c.args.disk) ∙ spins;
      silent = λ is. absurd (some_not_none is);
      was = tt;
    }
