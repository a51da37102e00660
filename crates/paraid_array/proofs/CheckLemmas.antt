-- A check of an array: a flush, and reads after it.
use Rattle.std.proofs.Common.{◌≡◌, ℕ, ◌<◌, ◌⊎◌, Bool, true, false, List, [], ◌∷◌, length, Option, Some, None, Result, Ok, Err, inl, inr, refl, sym, ap, ◌∙◌, subst, arith}
use Rattle.std.specs.Prelude.{IfOk, IsSome, IsTrue}
use Rattle.std.proofs.lemmas.Bool.{false≢true}
use Rattle.paraid_base.specs.declared.event.Answer.TheVariants.{Flushed, Halted}
use Rattle.paraid_base.specs.declared.event.Event.TheVariants.{Bad, Flush}
use Rattle.paraid_base.specs.declared.fault.Halt.TheVariants.{Two as HaltTwo}
use Rattle.paraid_base.specs.declared.fault.Two.{Two}
use Rattle.paraid_base.specs.History.{History}
use Rattle.paraid_base.specs.Log.{worn_at}
use Rattle.paraid_base.specs.States.{gone_out}
use Rattle.paraid_gear.specs.declared.three_windows.Windows.{Windows}
use Rattle.paraid_gear.specs.ThreeWindows.{HoldLastSamples}
use Rattle.paraid_rack.specs.declared.call.Call.{Call}
use Rattle.paraid_rack.specs.declared.call.Call.TheVariants.{Read, Write, Sync, Park, SpinUp, Attach}
use Rattle.paraid_rack.specs.Calls.{AreReads}
use Rattle.paraid_rack.specs.Disks.{Disks, step}
use Rattle.paraid_rack.specs.Slots.{Agrees, Slot}
use Rattle.paraid_rack.specs.Told.{CrashTriple, Ran}
use Rattle.paraid_rack.specs.Trail.{Trail, now}
use Rattle.paraid_core.specs.Calls.{MakesDataCalls, MakesTransferCalls}
use Rattle.paraid_core.specs.CoreInvariant.{AreCopiesSynced}
use Rattle.paraid_core.specs.Cores.{CoreStandsFor, IsCoreHeld, IsCoreReady, core_rack}
use Rattle.paraid_core.specs.Lost.{CoreLosesDisk, CoreMarksLost}
use Rattle.paraid_core.specs.declared.staged.Core.{Core}
use Rattle.paraid_rack.proofs.TrailsLemmas.{Ran-none}
use Rattle.paraid_recover.specs.Calls.{OnlyReads}
use Rattle.paraid_view.specs.Reads.{AreArrayReads}
use Rattle.paraid_base.specs.Told.{HasRisen}
use Rattle.paraid_image.specs.Spot.{View}
use Rattle.paraid_scrub.specs.Counts.{AreCounts, CountsByView, all_members}
use Rattle.paraid_scrub.specs.declared.kind.CheckReport.{CheckReport}
use Rattle.paraid_core.proofs.CommitLemmas.{both_of}
use Rattle.paraid_core.proofs.KindLemmas.{calls_milder, data_transfer}
use Rattle.paraid_core.proofs.WriteLemmas.{all_kept}
use Rattle.paraid_image.specs.Sides.{Batch}
use Rattle.paraid_txn.specs.Losses.{IsGoneSince}
use Rattle.paraid_txn.specs.Stores.{named_of}
use Rattle.paraid_session.specs.Turn.{GoesOn, Point}
use Rattle.paraid_event.specs.Counts.{CountsFlushed}
use Rattle.paraid_event.specs.Lost.{IsHaltedFrom, TellsTwo}
use Rattle.paraid_event.specs.Service.{Service, service_of}
use Rattle.paraid_event.specs.Stands.{StandsAt}
use Rattle.paraid_event.proofs.EventLemmas.{flush_turn, told_turn}
use Rattle.paraid_event.proofs.LostLemmas.{flush_loses}
use Rattle.paraid_array.specs.declared.array.Array.{Array}
use Rattle.paraid_array.specs.Arrays.{ArrayStandsAt, GoesOnByEvent, ServesAt, told_of_array}
use Rattle.paraid_array.proofs.CoreLemmas.{loses_core, serves_core}
use Rattle.paraid_array.proofs.FlushLemmas.{tells_alike}
use Rattle.paraid_array.proofs.StandLemmas.{end_by, ended_on, over_slots, served_on, wear_fits}

are_reads : (n : ℕ) (s : Disks) (cs : List Call) → AreArrayReads n s cs → AreReads cs
are_reads n s [] each = tt
are_reads n s (Read d p done ∷ cs) each = (tt, are_reads n (step (Read d p done) s) cs each.1)
are_reads n s (Write d p b done ∷ cs) each = absurd each.0
are_reads n s (Sync d done ∷ cs) each = absurd each.0
are_reads n s (Park d done ∷ cs) each = absurd each.0
are_reads n s (SpinUp d done ∷ cs) each = absurd each.0
are_reads n s (Attach d size done ∷ cs) each = absurd each.0

-- Reads of an array are reads.
pub only_reads : (n : ℕ) (old new : Option Trail) → Ran old new (AreArrayReads n) → OnlyReads old new
only_reads n old new ran t tells =
    let r = ran t tells in
    record { from = r.from; was = r.was; calls = r.calls; is = r.is; holds = are_reads n (now r.from) r.calls r.holds }

-- From a core to the same one no call was made.
pub no_calls : {R : Type 0} {g : _} (told : R → Option Trail) (old new : Core R g) → new ≡ old → OnlyReads (told (core_rack old)) (told (core_rack new))
no_calls {R} {g} told old new same = subst (λ (core : Core R g). OnlyReads (told (core_rack old)) (told (core_rack core))) (sym same) (Ran-none (λ s cs. AreReads cs) (λ s. tt) (told (core_rack old)))

-- From where more holds, calls that keep both end with the more of them.
pub ends_higher : (P A B Q C D : Disks → Type 0) (old new : Option Trail) → Ran old new (CrashTriple P A B) → Ran old new (CrashTriple Q C D) → ((t : Trail) → old ≡ Some t → C (now t)) → Ran old new (CrashTriple P A D)
ends_higher P A B Q C D old new low high there t tells =
    let r = both_of (CrashTriple P A B) (CrashTriple Q C D) old new low high t tells in
    record {
      from = r.from;
      was = r.was;
      calls = r.calls;
      is = r.is;
      holds = record { goes = λ a. ((r.holds.0.goes a).0, (r.holds.1.goes (there r.from r.was)).1) };
    }

-- where nothing is staged, the last commit has brought all writes to the disks
full_stands : {R : Type 0} {g : _} (count : R → ℕ) (told : R → Option Trail) (a : Array R g) → a.core.batch ≡ [] → (p : Point) → ServesAt count told a p → (t : Trail) → told_of_array told a ≡ Some t
    → CoreStandsFor count a.core p.history (length p.history) (now t)
full_stands count told a nothing p s t tells =
    (all_kept (count (core_rack a.core)) (named_of a.core.store) a.core.meta a.core.dirty a.core.batch a.core.copied p.history p.low (now t) (ap (λ (b : Batch). length b) nothing)
    (subst (CoreStandsFor count a.core p.history p.low) (sym (s.stands.disks t tells)) s.stands.stands.keeps)).0

module _ {R : Type 0} {g : _} (count : R → ℕ) (slot : R → ℕ → Slot) (told : R → Option Trail) (agrees : (x : R) (t : Trail) → told x ≡ Some t → Agrees (now t) (slot x)) (a b : Array R g) (going : a.ended ≡ None)
    (epoch : a.core.meta.epoch < worn_at) (writes : a.core.meta.writes < worn_at) (reads : MakesDataCalls told a.core b.core) where
  transfers : MakesTransferCalls told a.core b.core
  transfers = calls_milder _ _ (data_transfer a.core.meta.setup.geometry.disks (gone_out a.core.meta.out)) _ _ reads

  -- all writes were kept before these reads
  pub count_on : (n : ℕ) → n ≡ a.core.meta.writes → b.ended ≡ None → b.setup ≡ a.setup → b.windows ≡ a.windows → b.served ≡ a.served → b.ledger.total ≡ a.ledger.total → a.core.batch ≡ []
      → ((h : History) (lo : ℕ) → Ran (told_of_array told a) (told_of_array told b) (CrashTriple (IsCoreHeld count a.core h lo) (CoreStandsFor count a.core h lo) (CoreStandsFor count b.core h lo)))
      → CoreMarksLost slot a.core b.core → IsCoreReady count slot b.core → b.core.meta.setup ≡ a.core.meta.setup → count (core_rack b.core) ≡ count (core_rack a.core) → b.core.dirty ≡ a.core.dirty
      → AreCopiesSynced b.core.meta.setup.geometry.disks b.core.copied → b.core.batch ≡ [] → GoesOnByEvent count told a b Flush (Flushed n)
  count_on n number ended setup windows served energy nothing_before stands marks ready same slots table copies nothing p at =
      let s : ServesAt count told a p = at.serves going in
      let k : Service = service_of count a.core s.samples s.requests a.ledger.total in
      let k_then : Service = service_of count b.core s.samples s.requests b.ledger.total in
      let long : length p.history ≡ n = sym s.stands.stands.keeps.writes ∙ sym number in
      let counts : CountsFlushed k k_then = record { slots = slots; copies_synced = copies; samples = refl; served = refl; energy = energy; table = table; nothing_staged = nothing } in
      let fit = wear_fits (told_of_array told a) k a.setup p s.stands epoch writes in
      let higher = ends_higher (IsCoreHeld count a.core p.history p.low) (CoreStandsFor count a.core p.history p.low) (CoreStandsFor count b.core p.history p.low)
      (IsCoreHeld count a.core p.history (length p.history)) (CoreStandsFor count a.core p.history (length p.history)) (CoreStandsFor count b.core p.history (length p.history))
      (told_of_array told a) (told_of_array told b) (stands p.history p.low) (stands p.history (length p.history)) (full_stands count told a nothing_before p s) in
      let ran = serves_core count slot told agrees a.core b.core s.samples s.requests a.ledger.total a.setup p s.stands false transfers (λ no. reads) (λ yes. absurd (false≢true yes)) s.samples s.requests b.ledger.total p.history (length p.history) higher marks ready same in
      let law = told_turn (told_of_array told a) (told_of_array told b) k k_then a.setup p s.stands p.history (length p.history) Flush (Flushed (length p.history))
      (flush_turn (told_of_array told a) (told_of_array told b) k k_then a.setup p s.stands p.history (length p.history) fit counts refl (omega arith)) ran in
      served_on count told a b p Flush (Flushed n) s.samples s.requests refl (λ e. let z : Flush ≡ Bad = e in cc) ended setup
      (subst (λ (w : Windows). HoldLastSamples w s.samples) (sym windows) s.windows) (served ∙ s.served)
      (subst (λ (x : ℕ). Ran (told_of_array told a) (told_of_array told b) (GoesOn (count (core_rack a.core)) a.setup p Flush (Flushed x) (StandsAt (told_of_array told b) k_then a.setup))) long law)

  -- a second disk was lost in them
  pub count_lost : (two : Two) → b.ledger.total ≡ a.ledger.total → b.ended ≡ Some (end_by (HaltTwo two) a.core.meta.gear)
      → ((h : History) (lo : ℕ) → Ran (told_of_array told a) (told_of_array told b) (CrashTriple (IsCoreHeld count a.core h lo) (CoreStandsFor count a.core h lo) (IsCoreHeld count a.core h lo)))
      → Ran (told_of_array told a) (told_of_array told b) (TellsTwo (service_of count a.core [] 0 0) two) → GoesOnByEvent count told a b Flush (Halted (HaltTwo two))
  count_lost two energy ended moments tells p at =
      let s : ServesAt count told a p = at.serves going in
      let k : Service = service_of count a.core s.samples s.requests a.ledger.total in
      let fit = wear_fits (told_of_array told a) k a.setup p s.stands epoch writes in
      let same = tells_alike count told a b s.samples s.requests two tells in
      let loses = loses_core count slot told agrees a.core b.core s.samples s.requests a.ledger.total a.setup p s.stands false transfers (λ no. reads) (λ yes. absurd (false≢true yes)) two (moments p.history p.low) same in
      ended_on count told a b p Flush (Halted (HaltTwo two)) (end_by (HaltTwo two) a.core.meta.gear) (IsHaltedFrom p (HaltTwo two)) ended
      (λ q is. record {
        halt = ap (λ (z : Point). z.halt) is;
        gear = ap (λ (z : Point). z.state.gear) is ∙ s.stands.state.gear;
        energy = ap (λ (z : Point). z.energy) is ∙ s.stands.energy ∙ sym energy;
      })
      (flush_loses (told_of_array told a) (told_of_array told b) k a.setup p s.stands two fit loses)

module _ {R : Type 0} {g : _} (count : R → ℕ) (told : R → Option Trail) (a : Array R g) (going : a.ended ≡ None) where
  -- what holds wherever the core stands for a history holds at each point
  pub at_point : (V : Type 0) → ((h : History) (lo : ℕ) (t : Trail) → told_of_array told a ≡ Some t → CoreStandsFor count a.core h lo (now t) → V) → IsSome (told_of_array told a) → (p : Point) → ArrayStandsAt count told a p → V
  at_point V holds some p at = by (told_of_array told a) refl some
    where
      s : ServesAt count told a p
      s = at.serves going

      by : (o : Option Trail) → told_of_array told a ≡ o → IsSome o → V
      by None none is = absurd (false≢true is)
      by (Some t) tells is = holds p.history p.low t tells (subst (CoreStandsFor count a.core p.history p.low) (sym (s.stands.disks t tells)) s.stands.stands.keeps)

  -- the number that is told is that of the writes of the point
  pub flushed_all : (b : Array R g) → count (core_rack a.core) ≡ a.slots → GoesOnByEvent count told a b Flush (Flushed a.core.meta.writes) → (p : Point) → ArrayStandsAt count told a p
      → Ran (told_of_array told a) (told_of_array told b) (GoesOn a.slots a.setup p Flush (Flushed (length p.history)) (ArrayStandsAt count told b))
  flushed_all b same turn p at =
      subst (λ (n : ℕ). Ran (told_of_array told a) (told_of_array told b) (GoesOn a.slots a.setup p Flush (Flushed n) (ArrayStandsAt count told b))) (at.serves going).stands.stands.keeps.writes
      (over_slots count told a b Flush (Flushed a.core.meta.writes) same turn p at)

-- counts that were all made, or of which a disk that was lost has ended them
pub counts_by : (v : View) (old new : ℕ → Slot) (report : CheckReport) (whole : Bool) (seen : ℕ) → AreCounts v seen report → (IsTrue whole → seen ≡ all_members v) → (whole ≡ false → (d : ℕ) × IsGoneSince old new d × HasRisen (old d).faults (new d).faults)
    → CountsByView v old new report
counts_by v old new report whole seen counts all part = record { seen = seen; counts = counts; all = by whole all part }
  where
    by : (w : Bool) → (IsTrue w → seen ≡ all_members v) → (w ≡ false → (d : ℕ) × IsGoneSince old new d × HasRisen (old d).faults (new d).faults) → (seen ≡ all_members v) ⊎ ((d : ℕ) × IsGoneSince old new d × HasRisen (old d).faults (new d).faults)
    by true a b = inl (a refl)
    by false a b = inr (b refl)

pub failed_one : {R : Type 0} {g : _} (slot : R → ℕ → Slot) (old new : Core R g) → ((loses : CoreLosesDisk slot old new) × IsGoneSince (slot (core_rack old)) (slot (core_rack new)) loses.disk)
    → (d : ℕ) × IsGoneSince (slot (core_rack old)) (slot (core_rack new)) d × HasRisen (slot (core_rack old) d).faults (slot (core_rack new) d).faults
failed_one slot old new it = (it.0.disk, it.1, it.0.failed.risen)

-- what holds of each result holds of this one
pub unstaged : {A : Type 0} {E : Type 0} {P : A → Type 0} (r : Result A E) → ((x : A) → P x) → IfOk r P
unstaged (Ok x) all = all x
unstaged (Err e) all = tt
