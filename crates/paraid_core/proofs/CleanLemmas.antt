-- What the cleaning of a cell leaves of what a core stands for.
use Rattle.paraid_record.specs.Modes.{is_access}
use Rattle.std.specs.Prelude.{◌≡◌, ◌≢◌, ℕ, ◌+◌, ◌-◌, ◌*◌, ◌/◌, ◌<◌, ◌≤◌, ◌&&◌, not, nat_le, nat_lt, Bool, true, false, List, [], ◌∷◌, ◌++◌, length, Option, Some, None, IsSome, if◌then◌else◌}
use Rattle.std.proofs.Common.{refl, sym, ◌∙◌, ap, subst, arith, inl, inr}
use Rattle.std.proofs.lemmas.Bool.{cases_Bool, false≢true}
use Rattle.std.proofs.lemmas.Bool.Decides.{nat_tests}
use Rattle.paraid_base.specs.declared.block.Block.{Block}
use Rattle.paraid_base.specs.declared.geometry.Geometry.{Geometry}
use Rattle.paraid_base.specs.Log.{log_least}
use Rattle.paraid_base.specs.States.{has_out, phase_beside}
use Rattle.paraid_base.specs.declared.state.Out.{Out}
use Rattle.paraid_base.specs.declared.state.Out.TheVariants.{Fresh, Gone, No}
use Rattle.paraid_base.specs.Cells.{home_disk, home_row}
use Rattle.paraid_base.specs.History.{History, after_all}
use Rattle.paraid_base.specs.Regions.{disk_size, hard_place_of, map_count, map_place_of}
use Rattle.paraid_dirty.specs.Table.{ShowsBits, table_with_bit, is_dirty}
use Rattle.paraid_image.specs.Content.{view_by}
use Rattle.paraid_image.specs.Out.{named_out, out_disk}
use Rattle.paraid_image.specs.Sides.{Batch, has_place}
use Rattle.paraid_image.specs.Spot.{View, rising_to}
use Rattle.paraid_image.specs.Standing.{Contents, contents, overlaid_block}
use Rattle.paraid_image.specs.Value.{value}
use Rattle.paraid_image.specs.Mark.{meta_with_lost}
use Rattle.paraid_plan.specs.WriteTargets.{is_written, overlaid_blocks, soft_count, target_if}
use Rattle.paraid_plan.specs.StoredCells.{IsUnitKept}
use Rattle.paraid_plan.specs.StoredCells.IsUnitKept.{there, rebuilt}
use Rattle.paraid_plan.specs.Units.{IsSameHeld, clean_targets}
use Rattle.paraid_plan.proofs.LayLemmas.{cases_both, changed_at, changed_off}
use Rattle.paraid_plan.proofs.SyncLemmas.{sync_bits, sync_final}
use Rattle.paraid_rack.specs.declared.call.Call.{Call}
use Rattle.paraid_rack.specs.Disks.{Disks, is_present}
use Rattle.paraid_rack.specs.Told.{Ran, CrashTriple}
use Rattle.paraid_rack.specs.Trail.{Trail, now, run}
use Rattle.paraid_rack.proofs.TrailsLemmas.{now-extend}
use Rattle.paraid_record.specs.declared.meta.Meta.{Meta}
use Rattle.paraid_record.specs.declared.targets.Target.{Target}
use Rattle.paraid_record.specs.Range.{IsInRange}
use Rattle.paraid_core.specs.Cleaning.{cleaning, is_cleaned, read_commits_first}
use Rattle.paraid_core.specs.CoreInvariant.{HoldsBetweenCalls}
use Rattle.paraid_core.specs.Room.{commits_first}
use Rattle.paraid_core.proofs.CommitLemmas.{out_all}
use Rattle.paraid_core.proofs.WriteLemmas.{contents_laid, laid_there}

changed_same : (f g : ℕ → ℕ → Bool) (r d : ℕ) (bit : Bool) (q e : ℕ) → f q e ≡ g q e → table_with_bit f r d bit q e ≡ table_with_bit g r d bit q e
changed_same f g r d bit q e same = elim (cases_both q r e d) [
  | inl is ↦ changed_at f r d bit q e is.0 is.1 ∙ sym (changed_at g r d bit q e is.0 is.1)
  | inr differ ↦ changed_off f r d bit q e differ ∙ same ∙ sym (changed_off g r d bit q e differ)
]

none_no : (o : Out) → named_out o ≡ None → o ≡ No
none_no No is = refl
none_no (Gone d) is = let z : Some d ≡ None = is in cc
none_no (Fresh d u) is = let z : Some d ≡ None = is in cc

abbrev pub target : ℕ → ℕ → Target
target d p = record { disk = d; place = p }

-- three blocks are drafted
pub drafted : (a b c e : Batch) (r d p : ℕ) (x map : Block) (g : Geometry) → a ≡ [] → p ≡ hard_place_of g r → b ≡ a ++ (target d p, x) ∷ [] → c ≡ b ++ (target 0 (map_place_of g r), map) ∷ [] → e ≡ c ++ (target 1 (map_place_of g r), map) ∷ []
    → e ≡ (target d (hard_place_of g r), x) ∷ (target 0 (map_place_of g r), map) ∷ (target 1 (map_place_of g r), map) ∷ []
drafted a b c e r d p x map g none at first second third = rw (third, second, first, none, at) refl

-- what is drafted, where no disk is out
pub sync_drafted : (v : View) (r d : ℕ) (x map : Block) → named_out v.meta.out ≡ None → x ≡ value v r d
    → (target d (hard_place_of v.meta.setup.geometry r), x) ∷ (target 0 (map_place_of v.meta.setup.geometry r), map) ∷ (target 1 (map_place_of v.meta.setup.geometry r), map) ∷ [] ≡ clean_targets v r d map
sync_drafted v r d x map none is =
    let g = v.meta.setup.geometry in
    let unit : ℕ = g.rows + soft_count v.meta + r / 512 in
    ap (λ (y : Block). (target d (hard_place_of g r), y) ∷ (target 0 (map_place_of g r), map) ∷ (target 1 (map_place_of g r), map) ∷ []) is
    ∙ ap (λ (o : Out). target_if (is_written o d r) d (hard_place_of g r) (value v r d) ++ (target_if (is_written o 0 unit) 0 (map_place_of g r) map ++ target_if (is_written o 1 unit) 1 (map_place_of g r) map))
    (sym (none_no v.meta.out none))

module _ (slots : ℕ) (named : Option ℕ) (m : Meta) (table table_then : List (List Bool)) (batch batch_then draft : Batch) (copied : List Bool) (h : History) (lo : ℕ) (s : Disks)
    (in_range : IsInRange m) (absent : (d : ℕ) → d < m.setup.geometry.disks → is_present (s.power d) ≡ false → named_out m.out ≡ Some d)
    (k : HoldsBetweenCalls slots named m table batch copied h lo s) (r d : ℕ) (lr : r < m.setup.geometry.rows) (ld : d < m.setup.geometry.disks) (rises : d < rising_to m.phase) (none : named_out m.out ≡ None) (map : Block)
    (turned : (q e : ℕ) → is_dirty table_then q e ≡ table_with_bit (is_dirty table) r d false q e) (shows : ShowsBits map (r / 512) (is_dirty table_then))
    (draft_is : draft ≡ clean_targets (view_by m s.power (contents s batch)) r d map) (laid_same : (e p : ℕ) (x : Block) → overlaid_block batch_then e p x ≡ overlaid_block (batch ++ draft) e p x) (grows : length batch ≤ length batch_then) where
  abbrev f : Contents
  f = contents s batch

  abbrev g : Contents
  g = contents s batch_then

  abbrev v : View
  v = view_by m s.power f

  out_was : out_disk s.power m ≡ named_out m.out
  out_was = out_all s.power m absent

  apart : named_out m.out ≢ Some d
  apart is = let z : None ≡ Some d = sym none ∙ is in cc

  turned_v : (q e : ℕ) → q < 512 * map_count m.setup.geometry → is_dirty table_then q e ≡ table_with_bit v.dirty r d false q e
  turned_v q e l = turned q e ∙ changed_same (is_dirty table) v.dirty r d false q e (k.dirty q e l)

  shows_v : ShowsBits map (r / 512) (table_with_bit v.dirty r d false)
  shows_v = record { bits = λ i e l. shows.bits i e l ∙ turned_v (512 * (r / 512) + i) e (omega arith) }

  -- a place that is kept is there
  kept_place : (e u p : ℕ) → e < m.setup.geometry.disks → IsUnitKept s.power m (out_disk s.power m) e u → p < disk_size m.setup.geometry → has_place s e p ≡ true
  kept_place e u p le (there other) lp = elim (cases_Bool (is_present (s.power e))) [
    | inl here ↦ let large = k.staged.kept.disks.large e le here other in rw here (let l : p < s.size e = omega arith in grind (arith, nat_tests))
    | inr gone ↦ absurd (other (out_was ∙ absent e le gone))
  ]
  kept_place e u p le (rebuilt count fresh l) lp =
      let large = k.staged.kept.disks.fresh_large e count fresh in
      rw fresh.present (let l : p < s.size e = omega arith in grind (arith, nat_tests))

  agree : (e u p : ℕ) → e < m.setup.geometry.disks → IsUnitKept s.power m (out_disk s.power m) e u → log_least ≤ p → p < disk_size m.setup.geometry → g e p ≡ overlaid_blocks (clean_targets v r d map) f e p
  agree e u p le at far near =
      ap (λ (z : Contents). z e p) (contents_laid s batch_then (batch ++ draft) laid_same)
      ∙ laid_there s batch draft e p (kept_place e u p le at near) far
      ∙ ap (λ (z : Batch). overlaid_blocks z f e p) draft_is

  same : IsSameHeld slots s.power s.size v (view_by m s.power g)
  same = sync_final slots s.power s.size m f r d map in_range out_was k.staged.kept lr ld rises apart shows_v g agree

  pub cleaned_keeps : HoldsBetweenCalls slots named m table_then batch_then copied h lo s
  cleaned_keeps = record {
    base = k.base;
    held = k.held;
    copies = k.copies;
    synced = k.synced;
    named_by = k.named_by;
    borne = k.borne;
    epoch = k.epoch;
    next = k.next;
    writes = k.writes;
    brought = λ none. k.brought (omega (arith, none, grows));
    staged = record { kept = same.kept; blocks = λ b l. same.blocks b l ∙ k.staged.blocks b l };
    dirty = λ q e l. turned_v q e l ∙ sym (sync_bits slots s.power s.size m f r d map in_range out_was k.staged.kept lr ld rises apart shows_v g agree q e l);
  }

-- what is read is known by the disks with which the reads began
pub after_clean : (P Q A B : Disks → Type 0) (V : Type 0) (old new : Option Trail) → Ran old new (CrashTriple P A B) → ((t : Trail) → old ≡ Some t → A (now t) → IsSome new → V)
    → ((t : Trail) → new ≡ Some t → V → B (now t) → Q (now t)) → Ran old new (CrashTriple P A Q)
after_clean P Q A B V old new ran read clean t tells =
    let r = ran t tells in
    let here : now t ≡ run (now r.from) r.calls = ap now r.is ∙ now-extend r.from r.calls in
    record {
      from = r.from;
      was = r.was;
      calls = r.calls;
      is = r.is;
      holds = record {
        goes = λ a.
            let b = r.holds.goes a in
            (b.0, subst Q here (clean t tells (read r.from r.was a (subst IsSome (sym tells) refl)) (subst B (sym here) b.1)));
      };
    }

-- what was true as the first part began, once the second part tells
pub after_first : (P A B : Disks → Type 0) (C : Disks → List Call → Type 0) (V : Type 0) (old mid new : Option Trail) → Ran old mid (CrashTriple P A B) → Ran mid new C
    → ((t : Trail) → mid ≡ Some t → B (now t) → IsSome new → V) → (t : Trail) → old ≡ Some t → A (now t) → IsSome new → V
after_first P A B C V old mid new first second read t tells a some = by new refl some
  where
    by : (o : Option Trail) → new ≡ o → IsSome o → V
    by None is it = absurd (false≢true it)
    by (Some u) is it =
        let later = second u is in
        let r = first later.from later.was in
        let z : Some r.from ≡ Some t = sym r.was ∙ tells in
        let same : r.from ≡ t = cc in
        let here : now later.from ≡ run (now r.from) r.calls = ap now r.is ∙ now-extend r.from r.calls in
        read later.from later.was (subst B (sym here) (r.holds.goes (subst (λ (w : Trail). A (now w)) (sym same) a)).1) (subst IsSome (sym is) refl)

-- the block of the cell
pub cell_read : (slots : ℕ) (named : Option ℕ) (m : Meta) (table : List (List Bool)) (batch : Batch) (copied : List Bool) (h : History) (lo : ℕ) (s : Disks) (b r d n : ℕ) (x : Block) → HoldsBetweenCalls slots named m table batch copied h lo s
    → b < m.setup.geometry.rows * (m.setup.geometry.disks - 1) → n ≡ m.setup.geometry.disks → r ≡ home_row n b → d ≡ home_disk n b → x ≡ after_all h b
    → x ≡ value (view_by m s.power (contents s batch)) r d
cell_read slots named m table batch copied h lo s b r d n x k lb en er ed is =
    is ∙ sym (k.staged.blocks b lb)
    ∙ sym (ap (λ (y : ℕ). value (view_by m s.power (contents s batch)) y d) (er ∙ ap (λ (z : ℕ). home_row z b) en)
    ∙ ap (value (view_by m s.power (contents s batch)) (home_row m.setup.geometry.disks b)) (ed ∙ ap (λ (z : ℕ). home_disk z b) en))

-- whether a read cleans a cell

and_false : (a : Bool) → (a && false) ≡ false
and_false true = refl
and_false false = refl

-- a cell that is clean is not cleaned
pub clean_is_not : (m : Meta) (table : List (List Bool)) (r d : ℕ) → is_dirty table r d ≡ false → is_cleaned m table r d ≡ false
clean_is_not m table r d clean = rw clean (and_false _)

-- no more cells are cleaned once a disk is out, or under another epoch
pub cleans_marked : (o : Option ℕ) (m : Meta) (e : ℕ) (table : List (List Bool)) (r d : ℕ) → is_cleaned m table r d ≡ false → is_cleaned (meta_with_lost o (record m { epoch = e })) table r d ≡ false
cleans_marked None m e table r d is = is
cleans_marked (Some x) m e table r d is = by (is_access m.setup.mode)
  where
    by : (a : Bool) → (a && not (has_out (Gone x)) && nat_le m.gear d && nat_lt d (rising_to (phase_beside true m.phase)) && is_dirty table r d) ≡ false
    by true = refl
    by false = refl

-- no room is kept for a cell that is not cleaned
pub no_room : (b : Bool) (room : ℕ) → room ≡ (if b then 3 else 0) → room < 3 → b ≡ false
no_room true room is low = absurd (omega arith)
no_room false room is low = refl

pub room_none : (b : Bool) (room : ℕ) → room ≡ (if b then 3 else 0) → b ≡ false → room ≡ 0
room_none true room is never = absurd (false≢true (sym never))
room_none false room is never = is

-- a read commits first where its room is not left
pub first_by : (m : Meta) (table : List (List Bool)) (batch : Batch) (b r d room : ℕ) → room ≡ cleaning m table r d → r ≡ home_row m.setup.geometry.disks b → d ≡ home_disk m.setup.geometry.disks b
    → commits_first batch room ≡ read_commits_first m table batch b
first_by m table batch b r d room is row disk =
    ap (commits_first batch) (is ∙ ap (λ (z : ℕ). cleaning m table z d) row ∙ ap (λ (z : ℕ). cleaning m table (home_row m.setup.geometry.disks b) z) disk)
