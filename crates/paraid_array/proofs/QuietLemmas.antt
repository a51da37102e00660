-- Questions and refusals of an array.
use Rattle.paraid_base.specs.History.{Entry}
use Rattle.std.specs.Prelude.{All, nat_lt}
use Rattle.std.proofs.lemmas.Bool.Decides.{nat_tests}
use Rattle.std.proofs.lemmas.List.Elements.{All-head, All-tail}
use Rattle.std.proofs.Common.{◌≡◌, ◌≢◌, ℕ, ◌<◌, ◌≤◌, List, [], ◌∷◌, ◌++◌, Bool, true, false, length, Option, Some, None, refl, sym, ap, ◌∙◌, subst, arith}
use Rattle.paraid_base.specs.declared.event.Answer.TheVariants.{Energy as EnergyUsed, NoBlock, NoDisk, NotOut, Out as IsOut, State as IsState}
use Rattle.paraid_base.specs.declared.event.Event.TheVariants.{Bad, Energy as AskEnergy, Fail, Read, Replace, State as AskState, Write}
use Rattle.paraid_base.specs.declared.pairs.Pairs.{Pairs}
use Rattle.paraid_base.specs.declared.state.Status.{Status}
use Rattle.paraid_base.specs.BlockAnswers.{IsFirstMissing}
use Rattle.paraid_base.specs.declared.block.Block.{Block}
use Rattle.paraid_base.specs.Log.{worn_at}
use Rattle.paraid_base.specs.Pairs.{pairs_of}
use Rattle.paraid_base.specs.States.{named_out}
use Rattle.paraid_dirty.specs.Table.{cell_count, dirty_count, is_dirty, row_count}
use Rattle.paraid_dirty.proofs.MaskLemmas.{sum_before_same}
use Rattle.paraid_base.specs.declared.state.Out.{Out}
use Rattle.paraid_base.specs.declared.state.Phase.{Phase}
use Rattle.paraid_record.specs.declared.meta.Meta.{Meta}
use Rattle.paraid_record.specs.declared.meta.Setup.{Setup}
use Rattle.paraid_rack.specs.Told.{Ran}
use Rattle.paraid_rack.specs.Trail.{Trail}
use Rattle.paraid_core.specs.Cores.{core_rack}
use Rattle.paraid_machine.specs.Machine.{block_count, blocks_named, first_missing, state_status}
use Rattle.paraid_session.specs.Turn.{GoesOn, Point}
use Rattle.paraid_event.specs.Service.{service_of}
use Rattle.paraid_event.specs.Stands.{StandsAt}
use Rattle.paraid_event.proofs.EventLemmas.{energy_turn, state_turn}
use Rattle.paraid_event.proofs.QuietLemmas.{fail_no_disk, fail_out, read_missing, replace_no_disk, replace_not_out, write_missing}
use Rattle.paraid_array.specs.declared.array.Array.{Array}
use Rattle.paraid_array.specs.Arrays.{ArrayStandsAt, GoesOnByEvent, shown_of_array, told_of_array}
use Rattle.paraid_rack.specs.Slots.{Slot}
use Rattle.paraid_serve.specs.Causes.{state_shown}
use Rattle.paraid_array.specs.Lasting.{halt_of_end}
use Rattle.paraid_array.proofs.StandLemmas.{none_ended, refuses, served_on, stays_on}

-- equal dirty bits count alike
dirty_same : (s t : ℕ → ℕ → Bool) (rows lo hi : ℕ) → ((r d : ℕ) → r < rows → s r d ≡ t r d) → dirty_count s rows lo hi ≡ dirty_count t rows lo hi
dirty_same s t rows lo hi same = sum_before_same (row_count s lo hi) (row_count t lo hi) rows
    (λ r low. sum_before_same (cell_count s lo r) (cell_count t lo r) hi (λ d d_low. rw (same r d low) refl))

module _ {R : Type 0} {g : _} (count : R → ℕ) (told : R → Option Trail) (a : Array R g) (going : halt_of_end a.ended ≡ None) where
  -- the energy and the state
  pub energy_asked : GoesOnByEvent count told a a AskEnergy (EnergyUsed a.ledger.total)
  energy_asked = stays_on count told a AskEnergy (EnergyUsed a.ledger.total) going refl (λ e. let z : AskEnergy ≡ Bad = e in cc) refl
      (λ p samples requests at. subst (λ (x : ℕ). Ran (told_of_array told a) (told_of_array told a) (GoesOn (count (core_rack a.core)) a.setup p AskEnergy (EnergyUsed x) (StandsAt (told_of_array told a) (service_of count a.core samples requests a.ledger.total) a.setup)))
      at.energy (energy_turn (told_of_array told a) (service_of count a.core samples requests a.ledger.total) a.setup p at))

  pub state_asked : (status : Status) → ((p : Point) → ArrayStandsAt count told a p → status ≡ state_status a.setup (length p.history) p.state) → GoesOnByEvent count told a a AskState (IsState status a.setup.geometry.disks)
  state_asked status is p at =
      let s = at.serves (none_ended a.ended going) in
      served_on count told a a p AskState (IsState status a.setup.geometry.disks) s.samples s.requests refl (λ e. let z : AskState ≡ Bad = e in cc) (none_ended a.ended going) refl s.windows s.served
      (subst (λ (x : Status). Ran (told_of_array told a) (told_of_array told a) (GoesOn (count (core_rack a.core)) a.setup p AskState (IsState x a.setup.geometry.disks) (StandsAt (told_of_array told a) (service_of count a.core s.samples s.requests a.ledger.total) a.setup))) (sym (is p at))
      (state_turn (told_of_array told a) (service_of count a.core s.samples s.requests a.ledger.total) a.setup p s.stands))

  pub state_told : (status : Status) (disks : ℕ) → disks ≡ a.setup.geometry.disks → ((p : Point) → ArrayStandsAt count told a p → status ≡ state_status a.setup (length p.history) p.state) → GoesOnByEvent count told a a AskState (IsState status disks)
  state_told status disks few is = subst (λ (n : ℕ). GoesOnByEvent count told a a AskState (IsState status n)) (sym few) (state_asked status is)

  module _ (epoch : a.core.meta.epoch < worn_at) (writes : a.core.meta.writes < worn_at) where
    -- blocks that there are not
    pub read_refused : (block : ℕ) → block_count a.setup ≤ block → GoesOnByEvent count told a a (Read block) (NoBlock block)
    read_refused block past = refuses count told a (Read block) (NoBlock block) going refl (λ e. let z : Read block ≡ Bad = e in cc) refl epoch writes
        (λ p samples requests at fit. read_missing (told_of_array told a) (service_of count a.core samples requests a.ledger.total) a.setup p at fit block past)

    pub write_refused : (pairs : Pairs) (block : ℕ) → first_missing (block_count a.setup) (blocks_named (pairs_of pairs)) ≡ Some block → GoesOnByEvent count told a a (Write pairs) (NoBlock block)
    write_refused pairs block missing = refuses count told a (Write pairs) (NoBlock block) going refl (λ e. let z : Write pairs ≡ Bad = e in cc) refl epoch writes
        (λ p samples requests at fit. write_missing (told_of_array told a) (service_of count a.core samples requests a.ledger.total) a.setup p at fit pairs block missing)

    -- disks that are not taken out or replaced
    pub fail_refused : (d : ℕ) → a.setup.geometry.disks ≤ d → GoesOnByEvent count told a a (Fail d) (NoDisk d)
    fail_refused d past = refuses count told a (Fail d) (NoDisk d) going refl (λ e. let z : Fail d ≡ Bad = e in cc) refl epoch writes
        (λ p samples requests at fit. fail_no_disk (told_of_array told a) (service_of count a.core samples requests a.ledger.total) a.setup p at fit d past)

    pub fail_beside : (d e : ℕ) → d < a.setup.geometry.disks → named_out a.core.meta.out ≡ Some e → GoesOnByEvent count told a a (Fail d) (IsOut e)
    fail_beside d e low out = refuses count told a (Fail d) (IsOut e) going refl (λ z. let y : Fail d ≡ Bad = z in cc) refl epoch writes
        (λ p samples requests at fit. fail_out (told_of_array told a) (service_of count a.core samples requests a.ledger.total) a.setup p at fit d e low (ap named_out at.state.out ∙ out))

    pub replace_refused : (d : ℕ) → a.setup.geometry.disks ≤ d → GoesOnByEvent count told a a (Replace d) (NoDisk d)
    replace_refused d past = refuses count told a (Replace d) (NoDisk d) going refl (λ e. let z : Replace d ≡ Bad = e in cc) refl epoch writes
        (λ p samples requests at fit. replace_no_disk (told_of_array told a) (service_of count a.core samples requests a.ledger.total) a.setup p at fit d past)

    pub replace_in : (d : ℕ) → d < a.setup.geometry.disks → named_out a.core.meta.out ≢ Some d → GoesOnByEvent count told a a (Replace d) (NotOut d)
    replace_in d low not = refuses count told a (Replace d) (NotOut d) going refl (λ e. let z : Replace d ≡ Bad = e in cc) refl epoch writes
        (λ p samples requests at fit. replace_not_out (told_of_array told a) (service_of count a.core samples requests a.ledger.total) a.setup p at fit d low (λ is. not (ap named_out (sym at.state.out) ∙ is)))

abbrev pub status_by : (writes ticks gear : ℕ) (phase : Phase) (dirty fill : ℕ) (out : Out) (spins : List ℕ) → Status
status_by writes ticks gear phase dirty fill out spins = record { writes = writes; ticks = ticks; gear = gear; phase = phase; dirty = dirty; fill = fill; out = out; spins = spins; halt = None }

same_status : (w t e : ℕ) (ph : Phase) (d f : ℕ) (o : Out) (sp : List ℕ) (w' t' e' : ℕ) (ph' : Phase) (d' f' : ℕ) (o' : Out) (sp' : List ℕ)
    → w ≡ w' → t ≡ t' → e ≡ e' → ph ≡ ph' → d ≡ d' → f ≡ f' → o ≡ o' → sp ≡ sp' → status_by w t e ph d f o sp ≡ status_by w' t' e' ph' d' f' o' sp'
same_status w t e ph d f o sp w' t' e' ph' d' f' o' sp' a1 a2 a3 a4 a5 a6 a7 a8 = rw (a1, a2, a3, a4, a5, a6, a7, a8) refl

-- the state that an array tells is that of the point
module _ {R : Type 0} {g : _} (count : R → ℕ) (told : R → Option Trail) (a : Array R g) (going : halt_of_end a.ended ≡ None) (p : Point) (at : ArrayStandsAt count told a p) (m : Meta) (is : m ≡ a.core.meta) (dirty disks : ℕ)
    (counts : dirty ≡ dirty_count (is_dirty a.core.dirty) (length a.core.dirty) m.gear disks) (rows : length a.core.dirty ≡ a.setup.geometry.rows) (few : disks ≡ a.setup.geometry.disks) where
  pub status_is : status_by m.writes m.ticks m.gear m.phase dirty m.fill m.out m.spins ≡ state_status a.setup (length p.history) p.state
  status_is =
      let s = at.serves (none_ended a.ended going) in
      same_status m.writes m.ticks m.gear m.phase dirty m.fill m.out m.spins (length p.history) p.state.ticks p.state.gear p.state.phase
      (dirty_count p.state.dirty a.setup.geometry.rows p.state.gear a.setup.geometry.disks) p.state.fill p.state.out p.state.spins
      (ap (λ (z : Meta). z.writes) is ∙ s.stands.stands.keeps.writes)
      (ap (λ (z : Meta). z.ticks) is ∙ sym s.stands.state.ticks)
      (ap (λ (z : Meta). z.gear) is ∙ sym s.stands.state.gear)
      (ap (λ (z : Meta). z.phase) is ∙ sym s.stands.state.phase)
      (counts
      ∙ ap (λ (n : ℕ). dirty_count (is_dirty a.core.dirty) n m.gear disks) rows
      ∙ ap (λ (n : ℕ). dirty_count (is_dirty a.core.dirty) a.setup.geometry.rows m.gear n) few
      ∙ ap (λ (n : ℕ). dirty_count (is_dirty a.core.dirty) a.setup.geometry.rows n a.setup.geometry.disks) (ap (λ (z : Meta). z.gear) is ∙ sym s.stands.state.gear)
      ∙ dirty_same (is_dirty a.core.dirty) p.state.dirty a.setup.geometry.rows p.state.gear a.setup.geometry.disks
      (λ r d low. sym (s.stands.state.dirty r d (subst (λ (z : Setup). r < z.geometry.rows) (sym s.stands.same_setup) low))))
      (ap (λ (z : Meta). z.fill) is ∙ sym s.stands.state.fill)
      (ap (λ (z : Meta). z.out) is ∙ sym s.stands.state.out)
      (ap (λ (z : Meta). z.spins) is ∙ sym s.stands.state.spins)

-- and that of its meta and its dirty cells, whatever the rack holds
pub status_shown : {R : Type 0} {g : _} (slot : R → ℕ → Slot) (a : Array R g) (m : Meta) → m ≡ a.core.meta → (dirty disks : ℕ) → dirty ≡ dirty_count (is_dirty a.core.dirty) (length a.core.dirty) m.gear disks → length a.core.dirty ≡ a.setup.geometry.rows
    → disks ≡ a.setup.geometry.disks → status_by m.writes m.ticks m.gear m.phase dirty m.fill m.out m.spins ≡ state_status a.setup a.core.meta.writes (state_shown (shown_of_array slot a))
status_shown slot a m is dirty disks counts rows few =
    let x = a.core.meta in
    same_status m.writes m.ticks m.gear m.phase dirty m.fill m.out m.spins x.writes x.ticks x.gear x.phase
    (dirty_count (is_dirty a.core.dirty) a.setup.geometry.rows x.gear a.setup.geometry.disks) x.fill x.out x.spins
    (ap (λ (z : Meta). z.writes) is) (ap (λ (z : Meta). z.ticks) is) (ap (λ (z : Meta). z.gear) is) (ap (λ (z : Meta). z.phase) is)
    (counts
    ∙ ap (λ (n : ℕ). dirty_count (is_dirty a.core.dirty) n m.gear disks) rows
    ∙ ap (λ (n : ℕ). dirty_count (is_dirty a.core.dirty) a.setup.geometry.rows m.gear n) few
    ∙ ap (λ (n : ℕ). dirty_count (is_dirty a.core.dirty) a.setup.geometry.rows n a.setup.geometry.disks) (ap (λ (z : Meta). z.gear) is))
    (ap (λ (z : Meta). z.fill) is) (ap (λ (z : Meta). z.out) is) (ap (λ (z : Meta). z.spins) is)

below_count : (a b : ℕ) → a < b → nat_lt a b ≡ true
below_count a b l = grind (arith, nat_tests)

past_count : (a b : ℕ) → b ≤ a → nat_lt a b ≡ false
past_count a b l = grind (arith, nat_tests)

missing_in : (count block : ℕ) (bytes : Block) (rest before : Entry) → All (λ (pair : ℕ × Block). pair.0 < count) before → count ≤ block → first_missing count (blocks_named (before ++ (block, bytes) ∷ rest)) ≡ Some block
missing_in count block bytes rest [] below past = rw (past_count block count past) refl
missing_in count block bytes rest (pair ∷ before) below past =
    rw (below_count pair.0 count (All-head (λ (x : ℕ × Block). x.0 < count) pair before below)) (missing_in count block bytes rest before (All-tail (λ (x : ℕ × Block). x.0 < count) pair before below) past)

-- the first block that is missing is that of the machine
pub missing_is : (count : ℕ) (entry : Entry) (block : ℕ) → IsFirstMissing count entry block → first_missing count (blocks_named entry) ≡ Some block
missing_is count entry block is = subst (λ (e : Entry). first_missing count (blocks_named e) ≡ Some block) (sym is.is) (missing_in count block is.bytes is.rest is.before is.below is.missing)
