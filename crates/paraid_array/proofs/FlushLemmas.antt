-- A flush of an array.
use Rattle.std.proofs.Common.{◌≡◌, ℕ, ◌<◌, true, List, [], length, Option, Some, None, refl, sym, ap, ◌∙◌, subst, arith}
use Rattle.std.proofs.lemmas.Bool.{false≢true}
use Rattle.paraid_base.specs.declared.event.Answer.TheVariants.{Flushed, Halted}
use Rattle.paraid_base.specs.declared.event.Event.TheVariants.{Bad, Flush}
use Rattle.paraid_base.specs.declared.fault.Halt.TheVariants.{Two as HaltTwo}
use Rattle.paraid_base.specs.declared.fault.Two.{Two}
use Rattle.paraid_base.specs.History.{History}
use Rattle.paraid_base.specs.Log.{worn_at}
use Rattle.paraid_gear.specs.declared.three_windows.Windows.{Windows}
use Rattle.paraid_gear.specs.ThreeWindows.{HoldLastSamples}
use Rattle.paraid_rack.specs.Slots.{Agrees, Slot}
use Rattle.paraid_rack.specs.Told.{CrashTriple, Ran}
use Rattle.paraid_rack.specs.Trail.{Trail, now}
use Rattle.paraid_core.specs.Calls.{CommitsWhole, MakesTransferCalls}
use Rattle.paraid_core.specs.CoreInvariant.{AreCopiesSynced}
use Rattle.paraid_core.specs.Cores.{CoreStandsFor, IsCoreHeld, IsCoreReady, core_rack}
use Rattle.paraid_image.specs.Sides.{Batch}
use Rattle.paraid_core.specs.Lost.{CoreMarksLost}
use Rattle.paraid_upkeep.proofs.TurnLemmas.{commits_none}
use Rattle.paraid_session.specs.Turn.{GoesOn, Point}
use Rattle.paraid_event.specs.Counts.{CountsFlushed}
use Rattle.paraid_event.specs.Lost.{IsHaltedFrom, TellsTwo}
use Rattle.paraid_event.specs.Service.{Service, service_of}
use Rattle.paraid_event.specs.Stands.{StandsAt}
use Rattle.paraid_event.proofs.EventLemmas.{flush_turn, told_turn}
use Rattle.paraid_event.proofs.LostLemmas.{flush_loses}
use Rattle.paraid_array.specs.declared.array.Array.{Array}
use Rattle.paraid_array.specs.Arrays.{GoesOnByEvent, ServesAt, told_of_array}
use Rattle.paraid_array.proofs.CoreLemmas.{loses_core, serves_core}
use Rattle.paraid_array.proofs.StandLemmas.{end_by, ended_on, served_on, wear_fits}

-- what is told of two losses rests on the disk alone that was out
pub tells_alike : {R : Type 0} {g : _} (count : R → ℕ) (told : R → Option Trail) (a b : Array R g) (samples : List ℕ) (requests : ℕ) (x : Two) → Ran (told_of_array told a) (told_of_array told b) (TellsTwo (service_of count a.core [] 0 0) x)
    → Ran (told_of_array told a) (told_of_array told b) (TellsTwo (service_of count a.core samples requests a.ledger.total) x)
tells_alike count told a b samples requests x ran t is =
    let r = ran t is in
    record { from = r.from; was = r.was; calls = r.calls; is = r.is; holds = record { apart = r.holds.apart; first = r.holds.first; ends = r.holds.ends } }

module _ {R : Type 0} {g : _} (count : R → ℕ) (slot : R → ℕ → Slot) (told : R → Option Trail) (agrees : (x : R) (t : Trail) → told x ≡ Some t → Agrees (now t) (slot x)) (a b : Array R g) (going : a.ended ≡ None)
    (epoch : a.core.meta.epoch < worn_at) (writes : a.core.meta.writes < worn_at) (calls : MakesTransferCalls told a.core b.core) (whole : CommitsWhole count told a.core b.core) where
  -- all that is staged was committed
  pub flush_on : (n : ℕ) → n ≡ a.core.meta.writes → b.ended ≡ None → b.setup ≡ a.setup → b.windows ≡ a.windows → b.served ≡ a.served → b.ledger.total ≡ a.ledger.total
      → ((h : History) (lo : ℕ) → Ran (told_of_array told a) (told_of_array told b) (CrashTriple (IsCoreHeld count a.core h lo) (CoreStandsFor count a.core h lo) (CoreStandsFor count b.core h (length h))))
      → CoreMarksLost slot a.core b.core → IsCoreReady count slot b.core → b.core.meta.setup ≡ a.core.meta.setup → count (core_rack b.core) ≡ count (core_rack a.core) → b.core.dirty ≡ a.core.dirty
      → AreCopiesSynced b.core.meta.setup.geometry.disks b.core.copied → b.core.batch ≡ [] → GoesOnByEvent count told a b Flush (Flushed n)
  flush_on n number ended setup windows served energy stands marks ready same slots table copies nothing p at =
      let s : ServesAt count told a p = at.serves going in
      let k : Service = service_of count a.core s.samples s.requests a.ledger.total in
      let k_then : Service = service_of count b.core s.samples s.requests b.ledger.total in
      let long : length p.history ≡ n = sym s.stands.stands.keeps.writes ∙ sym number in
      let counts : CountsFlushed k k_then = record { slots = slots; copies_synced = copies; samples = refl; served = refl; energy = energy; table = table; nothing_staged = nothing } in
      let fit = wear_fits (told_of_array told a) k a.setup p s.stands epoch writes in
      let ran = serves_core count slot told agrees a.core b.core s.samples s.requests a.ledger.total a.setup p s.stands true calls (λ no. absurd (false≢true (sym no))) (λ yes. whole) s.samples s.requests b.ledger.total p.history (length p.history) (stands p.history p.low) marks ready same in
      let law = told_turn (told_of_array told a) (told_of_array told b) k k_then a.setup p s.stands p.history (length p.history) Flush (Flushed (length p.history))
      (flush_turn (told_of_array told a) (told_of_array told b) k k_then a.setup p s.stands p.history (length p.history) fit counts refl (omega arith)) ran in
      served_on count told a b p Flush (Flushed n) s.samples s.requests refl (λ e. let z : Flush ≡ Bad = e in cc) ended setup
      (subst (λ (w : Windows). HoldLastSamples w s.samples) (sym windows) s.windows) (served ∙ s.served)
      (subst (λ (x : ℕ). Ran (told_of_array told a) (told_of_array told b) (GoesOn (count (core_rack a.core)) a.setup p Flush (Flushed x) (StandsAt (told_of_array told b) k_then a.setup))) long law)

  -- a second disk was lost in that
  pub flush_lost : (two : Two) → b.ledger.total ≡ a.ledger.total → b.ended ≡ Some (end_by (HaltTwo two) a.core.meta.gear)
      → ((h : History) (lo : ℕ) → Ran (told_of_array told a) (told_of_array told b) (CrashTriple (IsCoreHeld count a.core h lo) (CoreStandsFor count a.core h lo) (IsCoreHeld count a.core h lo)))
      → Ran (told_of_array told a) (told_of_array told b) (TellsTwo (service_of count a.core [] 0 0) two) → GoesOnByEvent count told a b Flush (Halted (HaltTwo two))
  flush_lost two energy ended moments tells p at =
      let s : ServesAt count told a p = at.serves going in
      let k : Service = service_of count a.core s.samples s.requests a.ledger.total in
      let fit = wear_fits (told_of_array told a) k a.setup p s.stands epoch writes in
      let same = tells_alike count told a b s.samples s.requests two tells in
      let loses = loses_core count slot told agrees a.core b.core s.samples s.requests a.ledger.total a.setup p s.stands true calls (λ no. absurd (false≢true (sym no))) (λ yes. whole) two (moments p.history p.low) same in
      ended_on count told a b p Flush (Halted (HaltTwo two)) (end_by (HaltTwo two) a.core.meta.gear) (IsHaltedFrom p (HaltTwo two)) ended
      (λ q is. record {
        halt = ap (λ (z : Point). z.halt) is;
        gear = ap (λ (z : Point). z.state.gear) is ∙ s.stands.state.gear;
        energy = ap (λ (z : Point). z.energy) is ∙ s.stands.energy ∙ sym energy;
      })
      (flush_loses (told_of_array told a) (told_of_array told b) k a.setup p s.stands two fit loses)

module _ {R : Type 0} {g : _} (count : R → ℕ) (slot : R → ℕ → Slot) (told : R → Option Trail) (agrees : (x : R) (t : Trail) → told x ≡ Some t → Agrees (now t) (slot x)) (a : Array R g) (going : a.ended ≡ None)
    (epoch : a.core.meta.epoch < worn_at) (writes : a.core.meta.writes < worn_at) (ready : IsCoreReady count slot a.core) (copies : AreCopiesSynced a.core.meta.setup.geometry.disks a.core.copied) (nothing : a.core.batch ≡ []) where
  -- where nothing is staged, the last commit has brought all writes to the disks
  pub flush_kept : (n : ℕ) → n ≡ a.core.meta.writes → GoesOnByEvent count told a a Flush (Flushed n)
  flush_kept n number p at =
      let s : ServesAt count told a p = at.serves going in
      let k : Service = service_of count a.core s.samples s.requests a.ledger.total in
      let long : length p.history ≡ n = sym s.stands.stands.keeps.writes ∙ sym number in
      let counts : CountsFlushed k k = record { slots = refl; copies_synced = copies; samples = refl; served = refl; energy = refl; table = refl; nothing_staged = nothing } in
      let fit = wear_fits (told_of_array told a) k a.setup p s.stands epoch writes in
      let law = told_turn (told_of_array told a) (told_of_array told a) k k a.setup p s.stands p.history (length p.history) Flush (Flushed (length p.history))
      (flush_turn (told_of_array told a) (told_of_array told a) k k a.setup p s.stands p.history (length p.history) fit counts refl (omega arith))
      (commits_none count slot told agrees a.core ready (ap (λ (b : Batch). length b) nothing) a.setup p s.samples s.requests a.ledger.total s.stands) in
      served_on count told a a p Flush (Flushed n) s.samples s.requests refl (λ e. let z : Flush ≡ Bad = e in cc) going refl s.windows s.served
      (subst (λ (x : ℕ). Ran (told_of_array told a) (told_of_array told a) (GoesOn (count (core_rack a.core)) a.setup p Flush (Flushed x) (StandsAt (told_of_array told a) k a.setup))) long law)
