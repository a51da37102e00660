-- A unit is read from the other disks, and written to the disk that is rebuilt.
use Rattle.std.specs.Prelude.{◌≡◌, ℕ, ◌+◌, ◌<◌, ◌≤◌, ◌++◌, Bool, true, List, [], ◌∷◌, Option, Some, None, IsSome}
use Rattle.std.proofs.Common.{refl, sym, ◌∙◌, ap, subst, arith, inl, inr}
use Rattle.std.proofs.lemmas.Bool.{cases_Bool}
use Rattle.std.proofs.lemmas.Bool.Decides.{nat_tests}
use Rattle.paraid_base.specs.declared.block.Block.{Block}
use Rattle.paraid_base.specs.History.{History}
use Rattle.paraid_base.specs.Log.{log_least}
use Rattle.paraid_base.specs.States.{rebuilt_count}
use Rattle.paraid_rack.specs.declared.call.Call.TheVariants.{Write}
use Rattle.paraid_rack.specs.declared.call.Power.TheVariants.{Absent, Spinning}
use Rattle.paraid_rack.specs.Disks.{Disks, is_present, step}
use Rattle.paraid_rack.specs.Slots.{Agrees, Slot}
use Rattle.paraid_rack.specs.Told.{CrashTriple, GrowsByCall, Ran}
use Rattle.paraid_rack.specs.Trail.{Trail, now, run}
use Rattle.paraid_rack.proofs.TrailsLemmas.{now-extend, stays, weaker}
use Rattle.paraid_record.specs.declared.meta.Meta.{Meta}
use Rattle.paraid_image.specs.Content.{view_by}
use Rattle.paraid_image.specs.Sides.{Batch, has_place}
use Rattle.paraid_image.specs.Standing.{Contents, contents}
use Rattle.paraid_image.specs.Value.{value}
use Rattle.paraid_image.proofs.OutLemmas.{named_below}
use Rattle.paraid_txn.specs.declared.store.Store.{Store}
use Rattle.paraid_txn.specs.Stores.{disks_of, named_of, store_rack}
use Rattle.paraid_view.specs.Reads.{AreArrayReads, HaveRead, ShowsContents, seen_by}
use Rattle.paraid_dirty.specs.Table.{is_dirty}
use Rattle.paraid_core.specs.declared.staged.Core.{Core}
use Rattle.paraid_core.specs.declared.units.RebuildUnit.{RebuildUnit}
use Rattle.paraid_core.specs.declared.units.RebuildUnit.TheVariants.{Row, Stripe, MapBlock}
use Rattle.paraid_core.specs.CoreInvariant.{HoldsBetweenCalls, IsHeldWithOneMissing}
use Rattle.paraid_core.specs.Cores.{IsCoreHeldSinceCommit, IsCoreReady}
use Rattle.paraid_core.specs.Steps.{IsMarkedAt}
use Rattle.paraid_core.specs.Units.{CopyingUnit, IsCopyingUnit, IsRebuilding, IsUnitNumber, KeepsRebuilt, UnitsRebuilt, rebuilt_block, rebuilt_place}
use Rattle.paraid_core.proofs.CallLemmas.{failed_held, keeps_held}
use Rattle.paraid_core.proofs.ReadsLemmas.{cell_value, reads_moments, reads_same, reads_through, shows_contents, unchanged}
use Rattle.paraid_core.proofs.UnitCopyLemmas.{rebuilding_named, rebuilding_out, unit_kept, unit_passed, unit_written}

-- the dirty bits of the table are those of the map
unit_seen : (slots : ℕ) (named : Option ℕ) (m : Meta) (table : List (List Bool)) (copied : List Bool) (h : History) (lo : ℕ) (number d : ℕ) (s : Disks) (b : Block)
    → HoldsBetweenCalls slots named m table [] copied h lo s → IsRebuilding m d → (unit : RebuildUnit) → IsUnitNumber m d number unit
    → b ≡ rebuilt_block (seen_by m table (Some d) (contents s [])) d unit → b ≡ rebuilt_block (view_by m s.power (contents s [])) d unit
unit_seen slots named m table copied h lo number d s b k fresh (Row r) is read =
    cell_value slots named m table [] copied h lo s k s.power refl r d b is.0 (read ∙ ap (λ (o : Option ℕ). value (seen_by m table o (contents s [])) r d) (sym (rebuilding_out m d s fresh)))
unit_seen slots named m table copied h lo number d s b k fresh (Stripe t) is read = read
unit_seen slots named m table copied h lo number d s b k fresh (MapBlock j) is read = read

-- where the record is told
module _ {R : Type 0} {g : _} (count : R → ℕ) (slot : R → ℕ → Slot) (told : R → Option Trail) (old : Core R g) (ready : IsCoreReady count slot old)
    (agrees : (t : Trail) → told (store_rack old.store) ≡ Some t → Agrees (now t) (slot (store_rack old.store))) (nothing : old.batch ≡ []) (number d : ℕ) (unit : RebuildUnit)
    (fresh : IsRebuilding old.meta d) (is_unit : IsUnitNumber old.meta d number unit) where
  abbrev m : Meta
  m = old.meta

  abbrev was : ℕ → Slot
  was = slot (store_rack old.store)

  abbrev slots_was : ℕ
  slots_was = count (store_rack old.store)

  abbrev name : Option ℕ
  name = named_of old.store

  pub rebuilding_below : d < m.setup.geometry.disks
  rebuilding_below = named_below m.setup.geometry m.gear m.out d ready.in_range.out (rebuilding_named m d fresh)

  -- its write
  module _ (told_then : Option Trail) (b : Block) (place : ℕ) (place_is : place ≡ rebuilt_place m unit) (past : log_least ≤ place) (ok : Bool) (grows : GrowsByCall (told (store_rack old.store)) told_then (Write d place b ok))
      (from : rebuilt_count m.out ≤ number) (copied_then : List Bool) (marks : IsMarkedAt old.copied copied_then d) (h : History) (lo : ℕ) where
    past_log : log_least ≤ rebuilt_place m unit
    past_log = subst (λ (z : ℕ). log_least ≤ z) place_is past

    kept : (s : Disks) → ok ≡ true → KeepsRebuilt slots_was name m old.dirty old.copied h lo number s → HoldsBetweenCalls slots_was name m old.dirty [] copied_then h lo (step (Write d place b ok) s)
    kept s done kr =
        subst (λ (x : Bool). HoldsBetweenCalls slots_was name m old.dirty [] copied_then h lo (step (Write d place b x) s)) (sym done)
        (subst (λ (q : ℕ). HoldsBetweenCalls slots_was name m old.dirty [] copied_then h lo (step (Write d q b true) s)) (sym place_is)
        (unit_kept slots_was name m old.dirty old.copied copied_then h lo number d unit b s ready.in_range fresh rebuilding_below is_unit from marks past_log kr))

    -- whatever is answered
    pub unit_held : Ran (told (store_rack old.store)) told_then (CrashTriple (IsCoreHeldSinceCommit count old h lo) (CopyingUnit count old h lo number d unit b) (IsCoreHeldSinceCommit count old h lo))
    unit_held t tells =
        let r = grows t tells in
        let s = now r.0 in
        record {
          from = r.0;
          was = r.1;
          calls = Write d place b ok ∷ [];
          is = r.2;
          holds = record {
            goes = λ c.
                let p_then : IsHeldWithOneMissing slots_was m.setup.geometry.disks name h lo (step (Write d place b ok) s) = elim (cases_Bool ok) [
                  | inr failed ↦ failed_held slots_was name m old.dirty [] old.copied h lo s (Write d place b ok) failed rebuilding_below c.before.keeps
                  | inl done ↦ keeps_held slots_was name m old.dirty [] copied_then h lo (step (Write d place b ok) s) (kept s done c.before)
                ] in
                ((keeps_held slots_was name m old.dirty [] old.copied h lo s c.before.keeps, p_then), p_then);
          };
        }

    -- done
    pub unit_copied : (slots_then : ℕ) (named_then : Option ℕ) → slots_then ≡ slots_was → named_then ≡ name → ok ≡ true → (was d).power ≡ Spinning → place < (was d).size
        → Ran (told (store_rack old.store)) told_then (CrashTriple (IsCoreHeldSinceCommit count old h lo) (CopyingUnit count old h lo number d unit b)
        (KeepsRebuilt slots_then named_then m old.dirty copied_then h lo (number + 1)))
    unit_copied slots_then named_then es en done spins within t tells =
        let r = grows t tells in
        let s = now r.0 in
        let a = agrees r.0 r.1 in
        let here : is_present (s.power d) ≡ true = ap is_present (a.power d ∙ spins) in
        let size = a.size d in
        let inside : rebuilt_place m unit < (was d).size = subst (λ (z : ℕ). z < (was d).size) place_is within in
        let there : has_place s d (rebuilt_place m unit) ≡ true = rw here (grind (arith, nat_tests)) in
        record {
          from = r.0;
          was = r.1;
          calls = Write d place b ok ∷ [];
          is = r.2;
          holds = record {
            goes = λ c.
                let next : KeepsRebuilt slots_was name m old.dirty copied_then h lo (number + 1) (step (Write d place b ok) s) =
                subst (λ (x : Bool). KeepsRebuilt slots_was name m old.dirty copied_then h lo (number + 1) (step (Write d place b x) s)) (sym done)
                (subst (λ (q : ℕ). KeepsRebuilt slots_was name m old.dirty copied_then h lo (number + 1) (step (Write d q b true) s)) (sym place_is)
                (unit_written slots_was name m old.dirty old.copied copied_then h lo number d unit b s ready.in_range fresh rebuilding_below is_unit from marks past_log c.before there here c.is)) in (
                  (keeps_held slots_was name m old.dirty [] old.copied h lo s c.before.keeps, keeps_held slots_was name m old.dirty [] copied_then h lo (step (Write d place b ok) s) next.keeps),
                  subst (λ (z : ℕ). KeepsRebuilt z named_then m old.dirty copied_then h lo (number + 1) (step (Write d place b ok) s)) (sym es)
                      (subst (λ (z : Option ℕ). KeepsRebuilt slots_was z m old.dirty copied_then h lo (number + 1) (step (Write d place b ok) s)) (sym en) next),
                );
          };
        }

  -- what it stores is read
  pub unit_gathered : (store_then : Store R g) (b : Block) → HaveRead count slot told (disks_of old.store) None old.store store_then → old.draft ≡ []
      → ((t : Trail) → told (store_rack store_then) ≡ Some t → Agrees (now t) (slot (store_rack store_then)))
      → ((x : ℕ) → (slot (store_rack store_then) x).power ≡ Absent → (slot (store_rack store_then) x).size ≡ 0)
      → ((f : Contents) → ShowsContents (told (store_rack old.store)) (old.batch ++ old.draft) f → IsSome (told (store_rack store_then)) → b ≡ rebuilt_block (seen_by m old.dirty (Some d) f) d unit)
      → (h : History) (lo : ℕ) → Ran (told (store_rack old.store)) (told (store_rack store_then)) (CrashTriple (IsCoreHeldSinceCommit count old h lo) (UnitsRebuilt count old h lo number)
      (IsCopyingUnit (count (store_rack store_then)) (named_of store_then) m old.dirty old.copied h lo number d unit b))
  unit_gathered store_then b read no_draft agrees_then empty values h lo t tells =
      let ran = read.calls t tells in
      let s = now ran.from in
      let same = reads_same (disks_of old.store) s ran.calls ran.holds in
      let here : now t ≡ run s ran.calls = ap now ran.is ∙ now-extend ran.from ran.calls in
      let a = agrees ran.from ran.was in
      let still : run s ran.calls ≡ s = unchanged s (run s ran.calls) was (slot (store_rack store_then)) a (subst (λ (u : Disks). Agrees u (slot (store_rack store_then))) here (agrees_then t tells)) None read.left empty same.0 same.1 refl in
      let none_staged : old.batch ++ old.draft ≡ [] = ap (λ (z : Batch). z ++ old.draft) nothing ∙ no_draft in
      let shown = subst (λ (z : Batch). ShowsContents (told (store_rack old.store)) z (contents s [])) (sym none_staged) (shows_contents _ [] ran.from ran.was) in
      record {
        from = ran.from;
        was = ran.was;
        calls = ran.calls;
        is = ran.is;
        holds = record {
          goes = λ kr.
              let copying : IsCopyingUnit slots_was name m old.dirty old.copied h lo number d unit b s = (record {
                before = kr;
                is = unit_seen slots_was name m old.dirty old.copied h lo number d s b kr.keeps fresh unit is_unit (values (contents s []) shown (subst IsSome (sym tells) refl));
              }) in (
                reads_through slots_was name m old.dirty [] old.copied h lo name (λ x is. is) s ran.calls (subst (λ (z : ℕ). AreArrayReads z s ran.calls) (sym ready.array_is) ran.holds) kr.keeps,
                subst (λ (z : ℕ). IsCopyingUnit z (named_of store_then) m old.dirty old.copied h lo number d unit b (run s ran.calls)) (sym read.slots)
                    (subst (λ (z : Option ℕ). IsCopyingUnit slots_was z m old.dirty old.copied h lo number d unit b (run s ran.calls)) (sym read.same.named)
                    (subst (IsCopyingUnit slots_was name m old.dirty old.copied h lo number d unit b) (sym still) copying)),
              );
        };
      }

-- whatever the reads answer
pub unit_reads_held : {R : Type 0} {g : _} (count : R → ℕ) (slot : R → ℕ → Slot) (told : R → Option Trail) (old : Core R g) → IsCoreReady count slot old → (told_then : Option Trail)
    → Ran (told (store_rack old.store)) told_then (AreArrayReads (disks_of old.store)) → (number : ℕ) (h : History) (lo : ℕ)
    → Ran (told (store_rack old.store)) told_then (CrashTriple (IsCoreHeldSinceCommit count old h lo) (UnitsRebuilt count old h lo number) (IsCoreHeldSinceCommit count old h lo))
unit_reads_held count slot told old ready told_then calls number h lo =
    weaker (IsCoreHeldSinceCommit count old h lo) (HoldsBetweenCalls (count (store_rack old.store)) (named_of old.store) old.meta old.dirty [] old.copied h lo) (UnitsRebuilt count old h lo number) (IsCoreHeldSinceCommit count old h lo) (IsCoreHeldSinceCommit count old h lo) _ _
    (λ s k. k.keeps) (λ s p. p)
    (reads_moments (count (store_rack old.store)) (named_of old.store) old.meta old.dirty [] old.copied h lo (named_of old.store) (λ x is. is) (disks_of old.store) _ _ (sym ready.array_is) calls)

-- a unit that is passed over
pub unit_passes : {R : Type 0} {g : _} (count : R → ℕ) (slot : R → ℕ → Slot) (told : R → Option Trail) (old : Core R g) → IsCoreReady count slot old → (number d : ℕ) → IsRebuilding old.meta d
    → IsUnitNumber old.meta d number (Row number) → old.meta.gear ≤ d → is_dirty old.dirty number d ≡ true → (h : History) (lo : ℕ)
    → Ran (told (store_rack old.store)) (told (store_rack old.store)) (CrashTriple (IsCoreHeldSinceCommit count old h lo) (UnitsRebuilt count old h lo number) (UnitsRebuilt count old h lo (number + 1)))
unit_passes count slot told old ready number d fresh is low dirty h lo =
    let m = old.meta in
    stays (IsCoreHeldSinceCommit count old h lo) (UnitsRebuilt count old h lo number) (UnitsRebuilt count old h lo (number + 1)) (told (store_rack old.store))
    (λ s kr. keeps_held (count (store_rack old.store)) (named_of old.store) m old.dirty [] old.copied h lo s kr.keeps)
    (λ t tells kr. unit_passed (count (store_rack old.store)) (named_of old.store) m old.dirty old.copied h lo number d (now t) ready.in_range fresh
    (named_below m.setup.geometry m.gear m.out d ready.in_range.out (rebuilding_named m d fresh)) is.0 low dirty kr)

pub unit_stays_held : {R : Type 0} {g : _} (count : R → ℕ) (told : R → Option Trail) (old : Core R g) (number : ℕ) (h : History) (lo : ℕ)
    → Ran (told (store_rack old.store)) (told (store_rack old.store)) (CrashTriple (IsCoreHeldSinceCommit count old h lo) (UnitsRebuilt count old h lo number) (IsCoreHeldSinceCommit count old h lo))
unit_stays_held count told old number h lo =
    stays (IsCoreHeldSinceCommit count old h lo) (UnitsRebuilt count old h lo number) (IsCoreHeldSinceCommit count old h lo) (told (store_rack old.store)) (λ s p. p)
    (λ t tells kr. keeps_held (count (store_rack old.store)) (named_of old.store) old.meta old.dirty [] old.copied h lo (now t) kr.keeps)
