-- The events over a core as events of an array.
use Rattle.std.proofs.Common.{◌≡◌, ◌≢◌, ℕ, ◌<◌, ◌≤◌, Option, Some, None, sym, ap, ◌∙◌, subst}
use Rattle.paraid_base.specs.declared.event.Answer.{Answer}
use Rattle.paraid_base.specs.declared.event.Answer.TheVariants.{Halted}
use Rattle.paraid_base.specs.declared.event.Event.{Event}
use Rattle.paraid_base.specs.declared.event.Event.TheVariants.{Bad}
use Rattle.paraid_base.specs.declared.fault.Halt.TheVariants.{Two as HaltTwo}
use Rattle.paraid_base.specs.declared.fault.Two.{Two}
use Rattle.paraid_base.specs.Log.{worn_at}
use Rattle.paraid_gear.specs.declared.three_windows.Windows.{Windows}
use Rattle.paraid_gear.specs.ThreeWindows.{HoldLastSamples}
use Rattle.paraid_rack.specs.Told.{Ran}
use Rattle.paraid_rack.specs.Trail.{Trail}
use Rattle.paraid_image.specs.Power.{PowerState}
use Rattle.paraid_core.specs.Cores.{core_rack}
use Rattle.paraid_machine.specs.Energy.{energy_after}
use Rattle.paraid_session.specs.Turn.{GoesOn, Point, halt_told, point_wear}
use Rattle.paraid_event.specs.Lost.{IsHaltedFrom}
use Rattle.paraid_event.specs.Service.{Service, service_of}
use Rattle.paraid_event.specs.Stands.{StandsAt}
use Rattle.paraid_upkeep.specs.Turns.{CoreGoesOn, CoreHalts}
use Rattle.paraid_array.specs.declared.array.Array.{Array}
use Rattle.paraid_array.specs.Arrays.{GoesOnByEvent, ServesAt, told_of_array}
use Rattle.paraid_array.proofs.StandLemmas.{end_by, ended_on, served_on, wear_fits}

-- An event over the core takes no sample, and accepts no write.
module _ {R : Type 0} {g : _} (count : R → ℕ) (told : R → Option Trail) (a b : Array R g) (going : a.ended ≡ None) (epoch : a.core.meta.epoch < worn_at) (writes : a.core.meta.writes < worn_at) where
  -- it was answered
  pub core_on : (event : Event) (answer : Answer) → CoreGoesOn count told a.core b.core event answer → halt_told answer ≡ None → event ≢ Bad
      → b.ended ≡ None → b.setup ≡ a.setup → b.windows ≡ a.windows → b.served ≡ a.served
      → ((s : PowerState) → a.ledger.total ≤ 18446744073709551615 → b.ledger.total ≡ energy_after a.setup a.ledger.total s answer) → GoesOnByEvent count told a b event answer
  core_on event answer turn no_halt not_bad ended setup windows served energy p at =
      let s : ServesAt count told a p = at.serves going in
      let k : Service = service_of count a.core s.samples s.requests a.ledger.total in
      let fit : point_wear p < worn_at = wear_fits (told_of_array told a) k a.setup p s.stands epoch writes in
      let used : b.ledger.total ≡ energy_after a.setup a.ledger.total p.state answer = energy p.state s.stands.fits in
      served_on count told a b p event answer s.samples s.requests no_halt not_bad ended setup
      (subst (λ (w : Windows). HoldLastSamples w s.samples) (sym windows) s.windows) (served ∙ s.served)
      (subst (λ (n : ℕ). Ran (told_of_array told a) (told_of_array told b) (GoesOn (count (core_rack a.core)) a.setup p event answer (StandsAt (told_of_array told b) (service_of count b.core s.samples s.requests n) a.setup))) (sym used)
      (turn a.setup p s.samples s.requests a.ledger.total s.stands fit))

  -- a second disk was lost in it
  pub core_halts : (event : Event) (x : Two) → CoreHalts count told a.core b.core event x → b.ledger.total ≡ a.ledger.total → b.ended ≡ Some (end_by (HaltTwo x) a.core.meta.gear) → GoesOnByEvent count told a b event (Halted (HaltTwo x))
  core_halts event x halts energy ended p at =
      let s : ServesAt count told a p = at.serves going in
      let k : Service = service_of count a.core s.samples s.requests a.ledger.total in
      let fit : point_wear p < worn_at = wear_fits (told_of_array told a) k a.setup p s.stands epoch writes in
      ended_on count told a b p event (Halted (HaltTwo x)) (end_by (HaltTwo x) a.core.meta.gear) (IsHaltedFrom p (HaltTwo x)) ended
      (λ q is. record {
        halt = ap (λ (z : Point). z.halt) is;
        gear = ap (λ (z : Point). z.state.gear) is ∙ s.stands.state.gear;
        energy = ap (λ (z : Point). z.energy) is ∙ s.stands.energy ∙ sym energy;
      })
      (halts a.setup p s.samples s.requests a.ledger.total s.stands fit)
