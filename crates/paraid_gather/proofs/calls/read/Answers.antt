use Rattle.std.proofs.Common.{◌≡◌, ◌||◌, refl, sym, ◌∙◌, ap, subst, true, IsSome, is_ok, Result, Ok, Err}
use Rattle.std.specs.Prelude.{OnOk}
use Rattle.std.proofs.lemmas.Bool.{false≢true}
use Rattle.paraid_base.proofs.XorLemmas.{same_block}
use Rattle.paraid_rack.specs.Disks.{is_present, step, with_at}
use Rattle.paraid_rack.specs.Trail.{now}
use Rattle.paraid_rack.specs.declared.call.Call.TheVariants.{Read}
use Rattle.paraid_rack.proofs.AtomsLemmas.{with_at_same}
use Rattle.paraid_gather.specs.Waiting.{Waiting, run_of, waiting, waits}
use Rattle.paraid_gather.proofs.AboveLemmas.{present_above, read_above, read_here}
use Rattle.paraid_gather.proofs.DoesLemmas.{does_call, does_none}
use Rattle.paraid_gather.proofs.PowerCallsLemmas.{power_calls_call, power_calls_none}
use Rattle.paraid_gather.proofs.calls.read.Goals as goal

on_ok : {A E : Type 0} {P : Type 0} (r : Result A E) → is_ok r ≡ true → OnOk r P → P
on_ok (Ok a) is h = h
on_ok (Err e) is h = absurd (false≢true is)

pub returns-in-Some-clause-does : goal.returns-in-Some-clause-does
returns-in-Some-clause-does g c =
    let d = c.args.disk in
    let run = run_of c.args.run.now in
    does_none g.R.Rack c.args.rack.now d run run _ _ (step (Read d c.args.place true)) c.requires.fits refl
    (λ w s t is a. read_here (now t) (with_at w d run) s a d (present_above (now t) (with_at w d run) s a d (ap is_present ((g.met.R.Rack.agrees c.args.rack.now t is).power d ∙ c.requires.spinning))) c.args.place)

pub returns-in-Some-clause-bytes : goal.returns-in-Some-clause-bytes
returns-in-Some-clause-bytes g c = λ ok t w s is a.
    let d = c.args.disk in
    let run = run_of c.args.run.now in
    let here = present_above (now t) (with_at w d run) s a d (ap is_present ((g.met.R.Rack.agrees c.args.rack.now t is).power d ∙ c.requires.spinning)) in
    same_block _ _ (c.from_array.ensures ∙ sym (a.bytes d c.args.place c.in-Some.bytes.now here (ap (λ (v : Waiting). waiting v c.args.place) (with_at_same w d run d refl) ∙ sym c.in-Some.ensures)))

pub returns : goal.returns
returns g c =
    let d = c.args.disk in
    let run = run_of c.args.run.now in
    let slot = g.R.Rack.slot c.args.rack.now d in
    let ok = is_ok c.read.result in
    record {
      does = does_call g.R.Rack c.args.rack.now c.read.new.self d run run slot _ slot.unsynced (slot.unsynced || waits run) ok (Read d c.args.place ok) (step (Read d c.args.place ok)) c.read.ensures.slots
          (λ _. c.requires.fits) (λ _. refl) (λ _. refl)
          (λ w s t is a. read_above (now t) (with_at w d run) s a d (present_above (now t) (with_at w d run) s a d (ap is_present ((g.met.R.Rack.agrees c.args.rack.now t is).power d ∙ c.requires.spinning))) c.args.place ok)
          c.read.ensures.slot c.read.ensures.told;
      bytes = λ is t w s told a.
          let here = present_above (now t) (with_at w d run) s a d (ap is_present ((g.met.R.Rack.agrees c.args.rack.now t told).power d ∙ c.requires.spinning)) in
          on_ok c.read.result is c.read.ensures.bytes t told ∙ sym (a.rests d c.args.place here (ap (λ (v : Waiting). waiting v c.args.place) (with_at_same w d run d refl) ∙ sym c.in_default.ensures));
      power_calls = power_calls_call (g.R.Rack.told c.args.rack.now) (g.R.Rack.told c.read.new.self) (Read d c.args.place ok) c.read.ensures.told;
      held = λ h. absurd (false≢true (subst IsSome (sym c.in_default.ensures) h));
    }

pub returns-in-Some-clause-power_calls : goal.returns-in-Some-clause-power_calls
returns-in-Some-clause-power_calls g c = power_calls_none (g.R.Rack.told c.args.rack.now)
