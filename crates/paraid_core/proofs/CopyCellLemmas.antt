-- A cell is read by value and copied to its hard place.
use Rattle.std.specs.Prelude.{◌≡◌, ℕ, ◌<◌, ◌≤◌, ◌⊎◌, ◌==◌, ◌&&◌, ◌++◌, Bool, true, List, [], ◌∷◌, Option, Some, None, IsSome}
use Rattle.std.proofs.Common.{refl, sym, ◌∙◌, ap, subst, arith, inl, inr}
use Rattle.std.proofs.lemmas.Bool.{cases_Bool}
use Rattle.std.proofs.lemmas.Bool.Decides.{nat_tests}
use Rattle.std.proofs.lemmas.List.{append-nil}
use Rattle.paraid_base.specs.declared.block.Block.{Block}
use Rattle.paraid_base.specs.declared.state.Out.TheVariants.{No}
use Rattle.paraid_base.specs.History.{History}
use Rattle.paraid_base.specs.Regions.{hard_place_of}
use Rattle.paraid_base.specs.States.{rising_to}
use Rattle.paraid_dirty.specs.Table.{is_dirty}
use Rattle.paraid_image.specs.Content.{view_by}
use Rattle.paraid_image.specs.Out.{named_out, out_disk}
use Rattle.paraid_image.specs.Sides.{Batch, has_place}
use Rattle.paraid_image.specs.Standing.{Contents, contents}
use Rattle.paraid_image.specs.Value.{value}
use Rattle.paraid_image.specs.Mark.{meta_with_lost}
use Rattle.paraid_moves.specs.MoveMetas.{AreCellsCopied}
use Rattle.paraid_moves.proofs.CellLemmas.{copies_cell, write_is_written}
use Rattle.paraid_rack.specs.declared.call.Call.TheVariants.{Write}
use Rattle.paraid_rack.specs.declared.call.Power.TheVariants.{Absent, Spinning}
use Rattle.paraid_rack.specs.Disks.{Disks, is_present, step, with_at}
use Rattle.paraid_rack.specs.Slots.{Agrees, Slot}
use Rattle.paraid_rack.specs.Told.{CrashTriple, GrowsByCall, Ran}
use Rattle.paraid_rack.specs.Trail.{Trail, now, run}
use Rattle.paraid_rack.proofs.TrailsLemmas.{now-extend, weaker}
use Rattle.paraid_record.specs.declared.meta.Meta.{Meta}
use Rattle.paraid_record.specs.Range.{IsInRange}
use Rattle.paraid_txn.specs.declared.store.Store.{Store}
use Rattle.paraid_txn.specs.Stores.{disks_of, named_of, store_rack}
use Rattle.paraid_view.specs.Reads.{AreArrayReads, HaveRead, ShowsContents, seen_by}
use Rattle.paraid_core.specs.declared.staged.Core.{Core}
use Rattle.paraid_core.specs.CellCopies.{CellsCopied, CopyingCell, IsCopyingCell, KeepsCellCopies, copied_with}
use Rattle.paraid_core.specs.CoreInvariant.{HoldsBetweenCalls, IsHeldWithOneMissing, lost_in}
use Rattle.paraid_core.specs.Cores.{CoreStandsFor, IsCoreHeldSinceCommit, IsCoreReady}
use Rattle.paraid_core.specs.Steps.{IsMarkedAt, IsStillOut}
use Rattle.paraid_core.proofs.AfterLemmas.{rise_high}
use Rattle.paraid_core.proofs.CallLemmas.{failed_held, keeps_held}
use Rattle.paraid_core.proofs.FreeWriteLemmas.{free_base_cell, free_cell, keeps_free_write, write_free_is}
use Rattle.paraid_core.proofs.LostDiskLemmas.{out_all}
use Rattle.paraid_core.proofs.ReadyLemmas.{some_is}
use Rattle.paraid_core.proofs.ReadsLemmas.{cell_value, reads_moments, reads_same, reads_stand, reads_through, shows_contents, unchanged}

-- a disk that comes up is one of the array
pub disk_in : (m : Meta) (d : ℕ) → IsInRange m → d < rising_to m.phase → d < m.setup.geometry.disks
disk_in m d range rises = let high = rise_high m.setup.geometry m.gear m.phase range.phase in omega arith

cells_or : (cells : ℕ → ℕ → Bool) (r d q e : ℕ) → copied_with cells r d q e ≡ true → (cells q e ≡ true) ⊎ ((q ≡ r) × (e ≡ d))
cells_or cells r d q e is = elim (cases_Bool (q == r && e == d)) [
  | inl here ↦ inr (grind (arith, nat_tests), grind (arith, nat_tests))
  | inr off ↦ inl (rw off at is)
]

-- With no disk out, the value of a cell is written to its hard place.
module _ (slots : ℕ) (named : Option ℕ) (m : Meta) (table : List (List Bool)) (copied copied_then : List Bool) (h : History) (lo : ℕ) (cells : ℕ → ℕ → Bool) (r d : ℕ) (b : Block) (s : Disks)
    (in_range : IsInRange m) (no_out : m.out ≡ No) (none : out_disk s.power m ≡ None) (still : IsStillOut named m) (lr : r < m.setup.geometry.rows) (ld : d < m.setup.geometry.disks) (low : m.gear ≤ d) (dirty : is_dirty table r d ≡ true)
    (marks : IsMarkedAt copied copied_then d) where
  abbrev p : ℕ
  p = hard_place_of m.setup.geometry r

  abbrev u : Disks
  u = record s { block = with_at s.block d (with_at (s.block d) p b); loose = with_at s.loose d (with_at (s.loose d) p true) }

  keeps_written : (k : HoldsBetweenCalls slots named m table [] copied h lo s) → k.base.gear ≡ m.gear → HoldsBetweenCalls slots named m table [] copied_then h lo u
  keeps_written k gear =
      keeps_free_write slots named m table copied h lo s in_range no_out none k d p b copied_then ld (omega arith) marks
      (free_cell slots named m table copied h lo s in_range no_out none k r d lr low dirty)
      (free_base_cell slots named m table copied h lo s in_range no_out none k still r d gear lr low dirty)

  pub cell_kept : KeepsCellCopies slots named m table [] copied h lo cells s → HoldsBetweenCalls slots named m table [] copied_then h lo (step (Write d p b true) s)
  cell_kept kc = subst (HoldsBetweenCalls slots named m table [] copied_then h lo) (sym (write_free_is s d p b)) (keeps_written kc.keeps kc.shift.gear)

  written_then : has_place s d p ≡ true → IsCopyingCell slots named m table [] copied h lo cells r d b s → KeepsCellCopies slots named m table [] copied_then h lo (copied_with cells r d) u
  unfolding keeps_written keeps_free_write
  written_then there c = record {
    keeps = keeps_written c.before.keeps c.before.shift.gear;
    shift = c.before.shift;
    stored = subst (λ (t : Disks). AreCellsCopied (view_by m t.power (contents t [])) (copied_with cells r d)) (write_free_is s d p b)
        (copies_cell s (step (Write d p b true) s) d p b (write_is_written s d p b) m cells (copied_with cells r d) r in_range none lr low
        (sym (c.before.keeps.dirty r d (omega arith)) ∙ dirty) refl there c.is (λ q e is. cells_or cells r d q e is) c.before.stored);
  }

  pub cell_written : has_place s d p ≡ true → IsCopyingCell slots named m table [] copied h lo cells r d b s → KeepsCellCopies slots named m table [] copied_then h lo (copied_with cells r d) (step (Write d p b true) s)
  cell_written there c = subst (KeepsCellCopies slots named m table [] copied_then h lo (copied_with cells r d)) (sym (write_free_is s d p b)) (written_then there c)

-- where the record is told
module _ {R : Type 0} {g : _} (count : R → ℕ) (slot : R → ℕ → Slot) (told : R → Option Trail) (old : Core R g) (ready : IsCoreReady count slot old) (no_out : old.meta.out ≡ No)
    (agrees : (t : Trail) → told (store_rack old.store) ≡ Some t → Agrees (now t) (slot (store_rack old.store))) (nothing : old.batch ≡ []) (r d : ℕ) where
  abbrev m : Meta
  m = old.meta

  abbrev was : ℕ → Slot
  was = slot (store_rack old.store)

  abbrev slots_was : ℕ
  slots_was = count (store_rack old.store)

  abbrev name : Option ℕ
  name = named_of old.store

  none_at : (s : Disks) → Agrees s was → out_disk s.power m ≡ None
  none_at s a = out_all s.power m (λ x l gone. ready.absent x l (ap is_present (sym (a.power x)) ∙ gone)) ∙ ap named_out no_out

  -- its write
  module _ (told_then : Option Trail) (b : Block) (place : ℕ) (place_is : place ≡ hard_place_of m.setup.geometry r) (ok : Bool) (grows : GrowsByCall (told (store_rack old.store)) told_then (Write d place b ok)) (still : IsStillOut name m)
      (lr : r < m.setup.geometry.rows) (ld : d < m.setup.geometry.disks) (low : m.gear ≤ d) (dirty : is_dirty old.dirty r d ≡ true) (copied_then : List Bool) (marks : IsMarkedAt old.copied copied_then d) (h : History) (lo : ℕ) (cells : ℕ → ℕ → Bool) where
    P : Disks → Type 0
    P = IsHeldWithOneMissing slots_was m.setup.geometry.disks name h lo

    start : (s : Disks) → CopyingCell count old h lo cells r d b s → IsCopyingCell slots_was name m old.dirty [] old.copied h lo cells r d b s
    start s c = subst (λ (z : Batch). IsCopyingCell slots_was name m old.dirty z old.copied h lo cells r d b s) nothing c

    kept : (s : Disks) → Agrees s was → ok ≡ true → CopyingCell count old h lo cells r d b s → HoldsBetweenCalls slots_was name m old.dirty [] copied_then h lo (step (Write d place b ok) s)
    kept s a done c =
        subst (λ (x : Bool). HoldsBetweenCalls slots_was name m old.dirty [] copied_then h lo (step (Write d place b x) s)) (sym done)
        (subst (λ (q : ℕ). HoldsBetweenCalls slots_was name m old.dirty [] copied_then h lo (step (Write d q b true) s)) (sym place_is)
        (cell_kept slots_was name m old.dirty old.copied copied_then h lo cells r d b s ready.in_range no_out (none_at s a) still lr ld low dirty marks (start s c).before))

    -- whatever is answered
    pub cell_held : Ran (told (store_rack old.store)) told_then (CrashTriple (IsCoreHeldSinceCommit count old h lo) (CopyingCell count old h lo cells r d b) (IsCoreHeldSinceCommit count old h lo))
    cell_held t tells =
        let g = grows t tells in
        let s = now g.0 in
        record {
          from = g.0;
          was = g.1;
          calls = Write d place b ok ∷ [];
          is = g.2;
          holds = record {
            goes = λ c.
                let k = (start s c).before.keeps in
                let p_then : IsHeldWithOneMissing slots_was m.setup.geometry.disks name h lo (step (Write d place b ok) s) = elim (cases_Bool ok) [
                  | inr failed ↦ failed_held slots_was name m old.dirty [] old.copied h lo s (Write d place b ok) failed ld k
                  | inl done ↦ keeps_held slots_was name m old.dirty [] copied_then h lo (step (Write d place b ok) s) (kept s (agrees g.0 g.1) done c)
                ] in
                ((keeps_held slots_was name m old.dirty [] old.copied h lo s k, p_then), p_then);
          };
        }

    -- done
    pub cell_copied : (slots_then : ℕ) (named_then : Option ℕ) → slots_then ≡ slots_was → named_then ≡ name → ok ≡ true → (was d).power ≡ Spinning → hard_place_of m.setup.geometry r < (was d).size
        → Ran (told (store_rack old.store)) told_then (CrashTriple (IsCoreHeldSinceCommit count old h lo) (CopyingCell count old h lo cells r d b)
        (KeepsCellCopies slots_then named_then m old.dirty old.batch copied_then h lo (copied_with cells r d)))
    cell_copied slots_then named_then es en done spins within t tells =
        let g = grows t tells in
        let s = now g.0 in
        let a = agrees g.0 g.1 in
        let here : is_present (s.power d) ≡ true = ap is_present (a.power d ∙ spins) in
        let size = a.size d in
        let there : has_place s d (hard_place_of m.setup.geometry r) ≡ true = rw here (grind (arith, nat_tests)) in
        record {
          from = g.0;
          was = g.1;
          calls = Write d place b ok ∷ [];
          is = g.2;
          holds = record {
            goes = λ c.
                let next : KeepsCellCopies slots_was name m old.dirty [] copied_then h lo (copied_with cells r d) (step (Write d place b ok) s) =
                subst (λ (x : Bool). KeepsCellCopies slots_was name m old.dirty [] copied_then h lo (copied_with cells r d) (step (Write d place b x) s)) (sym done)
                (subst (λ (q : ℕ). KeepsCellCopies slots_was name m old.dirty [] copied_then h lo (copied_with cells r d) (step (Write d q b true) s)) (sym place_is)
                (cell_written slots_was name m old.dirty old.copied copied_then h lo cells r d b s ready.in_range no_out (none_at s a) still lr ld low dirty marks there (start s c))) in (
                  (keeps_held slots_was name m old.dirty [] old.copied h lo s (start s c).before.keeps, keeps_held slots_was name m old.dirty [] copied_then h lo (step (Write d place b ok) s) next.keeps),
                  subst (λ (z : ℕ). KeepsCellCopies z named_then m old.dirty old.batch copied_then h lo (copied_with cells r d) (step (Write d place b ok) s)) (sym es)
                      (subst (λ (z : Option ℕ). KeepsCellCopies slots_was z m old.dirty old.batch copied_then h lo (copied_with cells r d) (step (Write d place b ok) s)) (sym en)
                      (subst (λ (z : Batch). KeepsCellCopies slots_was name m old.dirty z copied_then h lo (copied_with cells r d) (step (Write d place b ok) s)) (sym nothing) next)),
                );
          };
        }

  -- its value is read
  pub cell_gathered : (store_then : Store R g) (b : Block) → HaveRead count slot told (disks_of old.store) None old.store store_then → old.draft ≡ []
      → ((t : Trail) → told (store_rack store_then) ≡ Some t → Agrees (now t) (slot (store_rack store_then)))
      → ((x : ℕ) → (slot (store_rack store_then) x).power ≡ Absent → (slot (store_rack store_then) x).size ≡ 0) → r < m.setup.geometry.rows
      → ((f : Contents) → ShowsContents (told (store_rack old.store)) (old.batch ++ old.draft) f → IsSome (told (store_rack store_then)) → b ≡ value (seen_by m old.dirty None f) r d)
      → (h : History) (lo : ℕ) (cells : ℕ → ℕ → Bool) → Ran (told (store_rack old.store)) (told (store_rack store_then)) (CrashTriple (IsCoreHeldSinceCommit count old h lo) (CellsCopied count old h lo cells)
      (IsCopyingCell (count (store_rack store_then)) (named_of store_then) m old.dirty old.batch old.copied h lo cells r d b))
  cell_gathered store_then b read no_draft agrees_then empty lr values h lo cells t tells =
      let ran = read.calls t tells in
      let s = now ran.from in
      let same = reads_same (disks_of old.store) s ran.calls ran.holds in
      let here : now t ≡ run s ran.calls = ap now ran.is ∙ now-extend ran.from ran.calls in
      let a = agrees ran.from ran.was in
      let stays : run s ran.calls ≡ s = unchanged s (run s ran.calls) was (slot (store_rack store_then)) a (subst (λ (u : Disks). Agrees u (slot (store_rack store_then))) here (agrees_then t tells)) None read.left empty same.0 same.1 refl in
      let none_staged : old.batch ++ old.draft ≡ old.batch = ap (λ (z : Batch). old.batch ++ z) no_draft ∙ append-nil old.batch in
      let shown = subst (λ (z : Batch). ShowsContents (told (store_rack old.store)) z (contents s old.batch)) (sym none_staged) (shows_contents _ old.batch ran.from ran.was) in
      record {
        from = ran.from;
        was = ran.was;
        calls = ran.calls;
        is = ran.is;
        holds = record {
          goes = λ kc.
              let copying : IsCopyingCell slots_was name m old.dirty old.batch old.copied h lo cells r d b s = (record {
                before = kc;
                is = cell_value slots_was name m old.dirty old.batch old.copied h lo s kc.keeps s.power refl r d b lr
                    (values (contents s old.batch) shown (subst IsSome (sym tells) refl) ∙ ap (λ (o : Option ℕ). value (seen_by m old.dirty o (contents s old.batch)) r d) (sym (none_at s a)));
              }) in (
                reads_through slots_was name m old.dirty old.batch old.copied h lo name (λ x is. is) s ran.calls (subst (λ (z : ℕ). AreArrayReads z s ran.calls) (sym ready.array_is) ran.holds) kc.keeps,
                subst (λ (z : ℕ). IsCopyingCell z (named_of store_then) m old.dirty old.batch old.copied h lo cells r d b (run s ran.calls)) (sym read.slots)
                    (subst (λ (z : Option ℕ). IsCopyingCell slots_was z m old.dirty old.batch old.copied h lo cells r d b (run s ran.calls)) (sym read.same.named)
                    (subst (IsCopyingCell slots_was name m old.dirty old.batch old.copied h lo cells r d b) (sym stays) copying)),
              );
        };
      }

-- whatever the reads answer
pub cell_reads_held : {R : Type 0} {g : _} (count : R → ℕ) (slot : R → ℕ → Slot) (told : R → Option Trail) (old : Core R g) → IsCoreReady count slot old → (told_then : Option Trail)
    → Ran (told (store_rack old.store)) told_then (AreArrayReads (disks_of old.store)) → (h : History) (lo : ℕ) (cells : ℕ → ℕ → Bool)
    → Ran (told (store_rack old.store)) told_then (CrashTriple (IsCoreHeldSinceCommit count old h lo) (CellsCopied count old h lo cells) (IsCoreHeldSinceCommit count old h lo))
cell_reads_held count slot told old ready told_then calls h lo cells =
    weaker (IsCoreHeldSinceCommit count old h lo) (CoreStandsFor count old h lo) (CellsCopied count old h lo cells) (IsCoreHeldSinceCommit count old h lo) (IsCoreHeldSinceCommit count old h lo) _ _
    (λ s k. k.keeps) (λ s p. p)
    (reads_moments (count (store_rack old.store)) (named_of old.store) old.meta old.dirty old.batch old.copied h lo (named_of old.store) (λ d is. is) (disks_of old.store) _ _ (sym ready.array_is) calls)

-- a disk fails in them
pub cell_lost : {R : Type 0} {g : _} (count : R → ℕ) (slot : R → ℕ → Slot) (told : R → Option Trail) (old : Core R g) → IsCoreReady count slot old → old.meta.out ≡ No
    → ((t : Trail) → told (store_rack old.store) ≡ Some t → Agrees (now t) (slot (store_rack old.store))) → (store_then : Store R g) (disk : ℕ) → HaveRead count slot told (disks_of old.store) (Some disk) old.store store_then
    → disk < disks_of old.store → IsStillOut (named_of old.store) old.meta → (m_then : Meta) → m_then ≡ meta_with_lost (lost_in old.meta (Some disk)) old.meta
    → ((t : Trail) → told (store_rack store_then) ≡ Some t → Agrees (now t) (slot (store_rack store_then)))
    → ((x : ℕ) → (slot (store_rack store_then) x).power ≡ Absent → (slot (store_rack store_then) x).size ≡ 0) → (h : History) (lo : ℕ) (cells : ℕ → ℕ → Bool)
    → Ran (told (store_rack old.store)) (told (store_rack store_then)) (CrashTriple (IsCoreHeldSinceCommit count old h lo) (CellsCopied count old h lo cells)
    (HoldsBetweenCalls (count (store_rack store_then)) (named_of store_then) m_then old.dirty old.batch old.copied h lo))
cell_lost count slot told old ready no_out agrees store_then disk read below still m_then is agrees_then empty h lo cells =
    let m = old.meta in
    let was = slot (store_rack old.store) in
    let low : disk < m.setup.geometry.disks = subst (λ (z : ℕ). disk < z) (sym ready.array_is) below in
    weaker (IsCoreHeldSinceCommit count old h lo) (CoreStandsFor count old h lo) (CellsCopied count old h lo cells)
    (HoldsBetweenCalls (count (store_rack store_then)) (named_of store_then) m_then old.dirty old.batch old.copied h lo) (HoldsBetweenCalls (count (store_rack store_then)) (named_of store_then) m_then old.dirty old.batch old.copied h lo) _ _
    (λ s k. k.keeps) (λ s k. k)
    (reads_stand (count (store_rack old.store)) (named_of old.store) m old.dirty old.batch old.copied h lo (named_of old.store) (λ d same. same) (disks_of old.store) _ _ was (slot (store_rack store_then)) (Some disk) ready.in_range (sym ready.array_is)
    agrees agrees_then read.left empty (λ d e. subst (λ (x : ℕ). x < m.setup.geometry.disks) (some_is disk d e) low)
    (λ d e. out_all (λ x. (was x).power) m ready.absent ∙ ap named_out no_out) still _ _ _ read.slots read.same.named is read.calls)
