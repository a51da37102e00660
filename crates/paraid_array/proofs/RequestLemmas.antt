-- Reads and writes of an array.
use Rattle.std.proofs.Common.{◌≡◌, ℕ, ◌+◌, ◌<◌, ◌≤◌, Bool, true, false, List, [], ◌∷◌, ◌++◌, length, Option, Some, None, refl, sym, ap, ◌∙◌, subst, arith, if◌then◌else◌}
use Rattle.std.specs.Prelude.{All, IsSome}
use Rattle.paraid_base.specs.declared.block.Block.{Block}
use Rattle.paraid_base.specs.declared.event.Answer.TheVariants.{Halted, Value, Wrote}
use Rattle.paraid_base.specs.declared.event.Event.{Event}
use Rattle.paraid_base.specs.declared.event.Event.TheVariants.{Bad, Read, Write}
use Rattle.paraid_base.specs.declared.fault.Halt.TheVariants.{Two as HaltTwo}
use Rattle.paraid_base.specs.declared.fault.Two.{Two}
use Rattle.paraid_base.specs.declared.pairs.Pairs.{Pairs}
use Rattle.paraid_base.specs.History.{History, after_all}
use Rattle.paraid_base.specs.Log.{worn_at}
use Rattle.paraid_base.specs.Pairs.{pairs_of}
use Rattle.paraid_gear.specs.declared.three_windows.Windows.{Windows}
use Rattle.paraid_gear.specs.ThreeWindows.{HoldLastSamples, sample_of}
use Rattle.paraid_rack.specs.Slots.{Agrees, Slot}
use Rattle.paraid_rack.specs.Told.{CrashTriple, Ran}
use Rattle.paraid_rack.specs.Trail.{Trail, now}
use Rattle.paraid_core.specs.Calls.{CommitsWhole, MakesDataCalls, MakesTransferCalls}
use Rattle.paraid_core.specs.CoreInvariant.{AreCopiesSynced}
use Rattle.paraid_core.specs.Cores.{CoreStandsFor, IsCoreHeld, IsCoreReady, core_rack}
use Rattle.paraid_core.specs.Cleaning.{CleansCell}
use Rattle.paraid_core.specs.Lost.{CoreMarksLost}
use Rattle.paraid_core.specs.declared.staged.Core.{Core}
use Rattle.paraid_serve.specs.Causes.{ChangesCells, Shown, state_shown}
use Rattle.paraid_dirty.specs.Table.{is_dirty}
use Rattle.paraid_base.specs.Cells.{home_disk, home_row}
use Rattle.paraid_record.specs.declared.meta.Setup.{Setup}
use Rattle.paraid_plan.specs.WrittenBits.{bits_after_writes}
use Rattle.paraid_event.proofs.CleanedLemmas.{read_bits}
use Rattle.paraid_event.proofs.WrittenLemmas.{writes_agree}
use Rattle.paraid_image.specs.Power.{PowerState}
use Rattle.paraid_machine.specs.Machine.{block_count, blocks_named}
use Rattle.paraid_machine.specs.Moves.{all_written, block_read}
use Rattle.paraid_session.specs.Turn.{GoesOn, Point}
use Rattle.paraid_event.specs.Counts.{CountsServed, with_counts_of}
use Rattle.paraid_event.specs.Lost.{IsHaltedFrom, TellsTwo}
use Rattle.paraid_event.specs.Parts.{LosesInEvent}
use Rattle.paraid_event.specs.Service.{IsStateOf, Service, service_of}
use Rattle.paraid_event.specs.Stands.{StandsAt}
use Rattle.paraid_event.proofs.EventLemmas.{read_turn, told_turn, write_turn}
use Rattle.paraid_event.proofs.LostLemmas.{read_loses, write_loses}
use Rattle.paraid_array.specs.declared.array.Array.{Array}
use Rattle.paraid_array.specs.Arrays.{ChangesCellsBy, GoesOnByEvent, ServesAt, shown_of_array, told_of_array}
use Rattle.paraid_array.specs.Lasting.{samples_held}
use Rattle.paraid_array.proofs.CauseLemmas.{shown_with}
use Rattle.paraid_array.proofs.CoreLemmas.{loses_core, serves_core}
use Rattle.paraid_array.proofs.FlushLemmas.{tells_alike}
use Rattle.paraid_array.proofs.StandLemmas.{end_by, ended_on, served_on, wear_fits}

-- The dirty cells that a read or a write leaves of a core are those of the machine.
module _ {R : Type 0} {g : _} (count : R → ℕ) (old new : Core R g) (own : Setup) (same : new.meta.setup ≡ old.meta.setup) (setup : old.meta.setup ≡ own) (samples : List ℕ) (requests energy energy_then : ℕ) (s : PowerState)
    (of : IsStateOf (with_counts_of (service_of count new samples requests energy_then) (service_of count old samples requests energy)) s) (r d : ℕ) (low : r < new.meta.setup.geometry.rows) where
  core_read : (block : ℕ) → CleansCell new.meta old.dirty new.dirty (home_row old.meta.setup.geometry.disks block) (home_disk old.meta.setup.geometry.disks block) → is_dirty new.dirty r d ≡ (block_read own block s).dirty r d
  core_read block cleans =
      subst (λ (z : Setup). is_dirty new.dirty r d ≡ (block_read z block s).dirty r d) (same ∙ setup)
      (read_bits (service_of count old samples requests energy) (service_of count new samples requests energy_then) block
      (subst (λ (z : Setup). CleansCell new.meta old.dirty new.dirty (home_row z.geometry.disks block) (home_disk z.geometry.disks block)) (sym same) cleans) s of r d low)

  core_write : (pairs : Pairs) → is_dirty new.dirty ≡ bits_after_writes new.meta (pairs_of pairs) (is_dirty old.dirty) → is_dirty new.dirty r d ≡ (all_written own.geometry.disks (blocks_named (pairs_of pairs)) s).dirty r d
  core_write pairs is =
      subst (λ (z : Setup). is_dirty new.dirty r d ≡ (all_written z.geometry.disks (blocks_named (pairs_of pairs)) s).dirty r d) (same ∙ setup)
      (ap (λ (f : ℕ → ℕ → Bool). f r d) is
      ∙ writes_agree new.meta.setup.geometry.rows new.meta (pairs_of pairs) (is_dirty old.dirty) s (record { gear = of.gear; phase = of.phase; out = of.out }) (λ q e l. sym (of.dirty q e l)) r d low)

-- They are seen so over every rack.
module _ {R : Type 0} {g : _} (count : R → ℕ) (slot : R → ℕ → Slot) (a : Array R g) (new : Core R g) (sum : ℕ) (served : ℕ) (same : new.meta.setup ≡ a.core.meta.setup) (setup : a.core.meta.setup ≡ a.setup) where
  -- what is seen of the array then
  abbrev after : Shown
  after = shown_with slot a.setup new sum (samples_held a.windows) served a.ended

  abbrev between : PowerState
  between = record (state_shown after) { dirty = is_dirty a.core.dirty }

  is_between : IsStateOf (with_counts_of (service_of count new (samples_held a.windows) served 0) (service_of count a.core (samples_held a.windows) served 0)) between
  is_between = record { gear = refl; phase = refl; fill = refl; out = refl; spins = refl; ticks = refl; dirty = λ r d low. refl; samples = refl; served = refl }

  row : (r : ℕ) → r < a.setup.geometry.rows → r < new.meta.setup.geometry.rows
  row r low = subst (λ (z : Setup). r < z.geometry.rows) (sym (same ∙ setup)) low

  pub seen_read : (block : ℕ) → CleansCell new.meta a.core.dirty new.dirty (home_row a.core.meta.setup.geometry.disks block) (home_disk a.core.meta.setup.geometry.disks block)
      → ChangesCells (block_read a.setup block) (shown_of_array slot a) (shown_with slot a.setup new sum (samples_held a.windows) served a.ended)
  seen_read block cleans r d low = core_read count a.core new a.setup same setup (samples_held a.windows) served 0 0 between is_between r d (row r low) block cleans

  pub seen_write : (pairs : Pairs) → is_dirty new.dirty ≡ bits_after_writes new.meta (pairs_of pairs) (is_dirty a.core.dirty)
      → ChangesCells (all_written a.setup.geometry.disks (blocks_named (pairs_of pairs))) (shown_of_array slot a) (shown_with slot a.setup new sum (samples_held a.windows) served a.ended)
  seen_write pairs is r d low = core_write count a.core new a.setup same setup (samples_held a.windows) served 0 0 between is_between r d (row r low) pairs is

-- They are those of each state that the array showed.
module _ {R : Type 0} {g : _} (count : R → ℕ) (a b : Array R g) (same : b.core.meta.setup ≡ a.core.meta.setup) (setup : a.core.meta.setup ≡ a.setup) where
  pub cells_read : (block : ℕ) → CleansCell b.core.meta a.core.dirty b.core.dirty (home_row a.core.meta.setup.geometry.disks block) (home_disk a.core.meta.setup.geometry.disks block) → ChangesCellsBy count a b (block_read a.setup block)
  cells_read block cleans samples requests s of r d low = core_read count a.core b.core a.setup same setup samples requests a.ledger.total b.ledger.total s of r d low block cleans

  pub cells_write : (pairs : Pairs) → is_dirty b.core.dirty ≡ bits_after_writes b.core.meta (pairs_of pairs) (is_dirty a.core.dirty) → ChangesCellsBy count a b (all_written a.setup.geometry.disks (blocks_named (pairs_of pairs)))
  cells_write pairs is samples requests s of r d low = core_write count a.core b.core a.setup same setup samples requests a.ledger.total b.ledger.total s of r d low pairs is

module _ {R : Type 0} {g : _} (count : R → ℕ) (slot : R → ℕ → Slot) (told : R → Option Trail) (agrees : (x : R) (t : Trail) → told x ≡ Some t → Agrees (now t) (slot x)) (a b : Array R g) (going : a.ended ≡ None)
    (epoch : a.core.meta.epoch < worn_at) (writes : a.core.meta.writes < worn_at) (flag : Bool) (calls : MakesTransferCalls told a.core b.core) (past : flag ≡ false → MakesDataCalls told a.core b.core)
    (whole : flag ≡ true → CommitsWhole count told a.core b.core) where
  low_by : (f : Bool) (low long : ℕ) → low ≤ long → low ≤ (if f then long else low)
  low_by true low long l = l
  low_by false low long l = omega arith

  module _ (ended : b.ended ≡ None) (setup : b.setup ≡ a.setup) (windows : b.windows ≡ a.windows) (served : (n : ℕ) → a.served ≡ sample_of n → b.served ≡ sample_of (n + 1)) (energy : b.ledger.total ≡ a.ledger.total)
      (marks : CoreMarksLost slot a.core b.core) (ready : IsCoreReady count slot b.core) (same : b.core.meta.setup ≡ a.core.meta.setup)
      (slots : count (core_rack b.core) ≡ count (core_rack a.core)) (copies : AreCopiesSynced b.core.meta.setup.geometry.disks b.core.copied) where
    counts_by : (p : Point) (s : ServesAt count told a p) (change : PowerState → PowerState) → ChangesCellsBy count a b change
        → CountsServed (service_of count a.core s.samples s.requests a.ledger.total) (service_of count b.core s.samples (s.requests + 1) b.ledger.total) change
    counts_by p s change cells = record { slots = slots; copies_synced = copies; samples = refl; served = refl; energy = energy; dirty = cells s.samples s.requests }

    -- a block was read
    pub read_on : (block : ℕ) (bytes : Block) → block < block_count a.setup
        → ((h : History) (lo : ℕ) → Ran (told_of_array told a) (told_of_array told b) (CrashTriple (IsCoreHeld count a.core h lo) (CoreStandsFor count a.core h lo) (CoreStandsFor count b.core h (if flag then length h else lo))))
        → ((h : History) (lo : ℕ) (t : Trail) → told_of_array told a ≡ Some t → CoreStandsFor count a.core h lo (now t) → IsSome (told_of_array told b) → bytes ≡ after_all h block)
        → a.core.meta.setup ≡ a.setup → CleansCell b.core.meta a.core.dirty b.core.dirty (home_row a.core.meta.setup.geometry.disks block) (home_disk a.core.meta.setup.geometry.disks block)
        → GoesOnByEvent count told a b (Read block) (Value block bytes)
    read_on block bytes there stands value configured cleans p at t tells =
        let cells : ChangesCellsBy count a b (block_read a.setup block) = cells_read count a b same configured block cleans in
        let s : ServesAt count told a p = at.serves going in
        let k : Service = service_of count a.core s.samples s.requests a.ledger.total in
        let k_then : Service = service_of count b.core s.samples (s.requests + 1) b.ledger.total in
        let lo_then : ℕ = if flag then length p.history else p.low in
        let fit = wear_fits (told_of_array told a) k a.setup p s.stands epoch writes in
        let short : p.low ≤ length p.history = (let l = s.stands.stands.keeps.copies.low in let m = s.stands.stands.keeps.copies.high in omega (arith, l, m)) in
        let r = calls t tells in
        let is : bytes ≡ after_all p.history block = value p.history p.low r.from r.was (subst (CoreStandsFor count a.core p.history p.low) (sym (s.stands.disks r.from r.was)) s.stands.stands.keeps) (subst (λ (o : Option Trail). IsSome o) (sym tells) refl) in
        let ran = serves_core count slot told agrees a.core b.core s.samples s.requests a.ledger.total a.setup p s.stands flag calls past whole s.samples (s.requests + 1) b.ledger.total p.history lo_then (stands p.history p.low) marks ready same in
        let law = told_turn (told_of_array told a) (told_of_array told b) k k_then a.setup p s.stands p.history lo_then (Read block) (Value block bytes)
        (read_turn (told_of_array told a) (told_of_array told b) k k_then a.setup p s.stands p.history lo_then block bytes fit there is (counts_by p s (block_read a.setup block) cells) refl (low_by flag p.low (length p.history) short)) ran in
        served_on count told a b p (Read block) (Value block bytes) s.samples (s.requests + 1) refl (λ e. let z : Read block ≡ Bad = e in cc) ended setup
        (subst (λ (w : Windows). HoldLastSamples w s.samples) (sym windows) s.windows) (served s.requests s.served)
        law t tells

    -- some blocks were written
    pub write_on : (pairs : Pairs) (n : ℕ) → n ≡ a.core.meta.writes + 1 → All (λ (pair : ℕ × Block). pair.0 < block_count a.setup) (pairs_of pairs)
        → ((h : History) (lo : ℕ) → Ran (told_of_array told a) (told_of_array told b) (CrashTriple (IsCoreHeld count a.core h lo) (CoreStandsFor count a.core h lo) (CoreStandsFor count b.core (h ++ pairs_of pairs ∷ []) (if flag then length h else lo))))
        → a.core.meta.setup ≡ a.setup → is_dirty b.core.dirty ≡ bits_after_writes b.core.meta (pairs_of pairs) (is_dirty a.core.dirty) → GoesOnByEvent count told a b (Write pairs) (Wrote n)
    write_on pairs n number there stands configured bits p at =
        let cells : ChangesCellsBy count a b (all_written a.setup.geometry.disks (blocks_named (pairs_of pairs))) = cells_write count a b same configured pairs bits in
        let s : ServesAt count told a p = at.serves going in
        let k : Service = service_of count a.core s.samples s.requests a.ledger.total in
        let k_then : Service = service_of count b.core s.samples (s.requests + 1) b.ledger.total in
        let h_then : History = p.history ++ pairs_of pairs ∷ [] in
        let lo_then : ℕ = if flag then length p.history else p.low in
        let fit = wear_fits (told_of_array told a) k a.setup p s.stands epoch writes in
        let short : p.low ≤ length p.history = (let l = s.stands.stands.keeps.copies.low in let m = s.stands.stands.keeps.copies.high in omega (arith, l, m)) in
        let long : length p.history + 1 ≡ n = ap (λ (x : ℕ). x + 1) (sym s.stands.stands.keeps.writes) ∙ sym number in
        let ran = serves_core count slot told agrees a.core b.core s.samples s.requests a.ledger.total a.setup p s.stands flag calls past whole s.samples (s.requests + 1) b.ledger.total h_then lo_then (stands p.history p.low) marks ready same in
        let law = told_turn (told_of_array told a) (told_of_array told b) k k_then a.setup p s.stands h_then lo_then (Write pairs) (Wrote (length p.history + 1))
        (write_turn (told_of_array told a) (told_of_array told b) k k_then a.setup p s.stands h_then lo_then pairs fit there (counts_by p s (all_written a.setup.geometry.disks (blocks_named (pairs_of pairs))) cells) refl (low_by flag p.low (length p.history) short)) ran in
        served_on count told a b p (Write pairs) (Wrote n) s.samples (s.requests + 1) refl (λ e. let z : Write pairs ≡ Bad = e in cc) ended setup
        (subst (λ (w : Windows). HoldLastSamples w s.samples) (sym windows) s.windows) (served s.requests s.served)
        (subst (λ (x : ℕ). Ran (told_of_array told a) (told_of_array told b) (GoesOn (count (core_rack a.core)) a.setup p (Write pairs) (Wrote x) (StandsAt (told_of_array told b) k_then a.setup))) long law)

  -- a second disk was lost in a read or a write
  module _ (two : Two) (energy : b.ledger.total ≡ a.ledger.total) (ended : b.ended ≡ Some (end_by (HaltTwo two) a.core.meta.gear))
      (moments : (h : History) (lo : ℕ) → Ran (told_of_array told a) (told_of_array told b) (CrashTriple (IsCoreHeld count a.core h lo) (CoreStandsFor count a.core h lo) (IsCoreHeld count a.core h lo)))
      (tells : Ran (told_of_array told a) (told_of_array told b) (TellsTwo (service_of count a.core [] 0 0) two)) where
    lost_on : (event : Event)
        → ((p : Point) (s : ServesAt count told a p) → Ran (told_of_array told a) (told_of_array told b) (λ s_start cs. LosesInEvent (service_of count a.core s.samples s.requests a.ledger.total) p.history p.low s_start cs × TellsTwo (service_of count a.core s.samples s.requests a.ledger.total) two s_start cs)
        → Ran (told_of_array told a) (told_of_array told b) (GoesOn (count (core_rack a.core)) a.setup p event (Halted (HaltTwo two)) (IsHaltedFrom p (HaltTwo two))))
        → GoesOnByEvent count told a b event (Halted (HaltTwo two))
    lost_on event law p at =
        let s : ServesAt count told a p = at.serves going in
        ended_on count told a b p event (Halted (HaltTwo two)) (end_by (HaltTwo two) a.core.meta.gear) (IsHaltedFrom p (HaltTwo two)) ended
        (λ q is. record {
          halt = ap (λ (z : Point). z.halt) is;
          gear = ap (λ (z : Point). z.state.gear) is ∙ s.stands.state.gear;
          energy = ap (λ (z : Point). z.energy) is ∙ s.stands.energy ∙ sym energy;
        })
        (law p s (loses_core count slot told agrees a.core b.core s.samples s.requests a.ledger.total a.setup p s.stands flag calls past whole two (moments p.history p.low)
        (tells_alike count told a b s.samples s.requests two tells)))

    pub read_lost : (block : ℕ) → block < block_count a.setup → GoesOnByEvent count told a b (Read block) (Halted (HaltTwo two))
    read_lost block there = lost_on (Read block) (λ p s loses. read_loses (told_of_array told a) (told_of_array told b) (service_of count a.core s.samples s.requests a.ledger.total) a.setup p s.stands two block there
        (wear_fits (told_of_array told a) (service_of count a.core s.samples s.requests a.ledger.total) a.setup p s.stands epoch writes) loses)

    pub write_lost : (pairs : Pairs) → All (λ (pair : ℕ × Block). pair.0 < block_count a.setup) (pairs_of pairs) → GoesOnByEvent count told a b (Write pairs) (Halted (HaltTwo two))
    write_lost pairs there = lost_on (Write pairs) (λ p s loses. write_loses (told_of_array told a) (told_of_array told b) (service_of count a.core s.samples s.requests a.ledger.total) a.setup p s.stands two pairs there
        (wear_fits (told_of_array told a) (service_of count a.core s.samples s.requests a.ledger.total) a.setup p s.stands epoch writes) loses)
