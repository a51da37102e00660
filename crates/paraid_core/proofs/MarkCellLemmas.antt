-- A cell that is copied is marked as clean.
use Rattle.std.specs.Prelude.{◌≡◌, ◌≢◌, ℕ, ◌+◌, ◌*◌, ◌/◌, ◌<◌, ◌≤◌, Bool, true, false, List, [], ◌∷◌, ◌++◌, length, Option, Some, None}
use Rattle.std.proofs.Common.{suc, zero, refl, sym, ◌∙◌, ap, subst, arith, inl, inr}
use Rattle.std.proofs.lemmas.Bool.{cases_Bool, false≢true}
use Rattle.std.proofs.lemmas.Bool.Decides.{nat_tests}
use Rattle.paraid_base.specs.declared.block.Block.{Block}
use Rattle.paraid_base.specs.declared.geometry.Geometry.{Geometry}
use Rattle.paraid_base.specs.declared.state.Out.{Out}
use Rattle.paraid_base.specs.declared.state.Out.TheVariants.{No}
use Rattle.paraid_base.specs.History.{History}
use Rattle.paraid_base.specs.Log.{log_least, map_start}
use Rattle.paraid_base.specs.Regions.{disk_size, hard_place_of, map_count, map_place_of, soft_place_of}
use Rattle.paraid_base.specs.Soft.{soft_disk, soft_stripe}
use Rattle.paraid_dirty.specs.Table.{ShowsBits, is_dirty, table_with_bit}
use Rattle.paraid_image.specs.Content.{view_by}
use Rattle.paraid_image.specs.Neutral.{names_place}
use Rattle.paraid_image.specs.Out.{named_out, out_disk}
use Rattle.paraid_image.specs.Sides.{Batch, has_place}
use Rattle.paraid_image.specs.Spot.{View, rising_to}
use Rattle.paraid_image.specs.Standing.{Contents, contents, overlaid_block}
use Rattle.paraid_image.specs.Value.{value}
use Rattle.paraid_moves.specs.MoveMetas.{AreCellsCopied}
use Rattle.paraid_moves.proofs.ValuesLemmas.{soft_dirty, value_soft}
use Rattle.paraid_plan.specs.WriteTargets.{hard_targets, is_written, map_targets, overlaid_blocks, soft_count, target_if}
use Rattle.paraid_plan.specs.StoredCells.{IsUnitKept}
use Rattle.paraid_plan.specs.StoredCells.IsUnitKept.{there, rebuilt}
use Rattle.paraid_plan.specs.Units.{IsSameHeld, clean_targets}
use Rattle.paraid_plan.proofs.LayLemmas.{cases_both, changed_at, changed_off, lay_at, lay_off, overlaid_blocks-append}
use Rattle.paraid_plan.proofs.SyncLemmas.{sync_bits, sync_final}
use Rattle.paraid_rack.specs.Disks.{Disks, is_present}
use Rattle.paraid_record.specs.declared.meta.Meta.{Meta}
use Rattle.paraid_record.specs.Range.{IsInRange}
use Rattle.paraid_core.specs.CellCopies.{KeepsCellCopies}
use Rattle.paraid_core.specs.CoreInvariant.{HoldsBetweenCalls}
use Rattle.paraid_core.specs.Fills.{KeepsFilled}
use Rattle.paraid_core.specs.Taken.{AreStaged, HasRoomFor, HasRoomForMap}
use Rattle.paraid_core.proofs.CleanLemmas.{target}
use Rattle.paraid_core.proofs.LostDiskLemmas.{out_all}
use Rattle.paraid_core.proofs.WriteLemmas.{contents_laid, laid_there}

both_staged : (g : Geometry) (batch : Batch) (r : ℕ) (map : Block) → (names_place batch 0 (map_place_of g r) ≡ true) × (names_place batch 1 (map_place_of g r) ≡ true)
    → AreStaged batch ((target 0 (map_place_of g r), map) ∷ (target 1 (map_place_of g r), map) ∷ [])
both_staged g batch r map named zero low = named.0
both_staged g batch r map named (suc zero) low = named.1
both_staged g batch r map named (suc (suc k)) low = absurd (omega arith)

-- two blocks are drafted
pub map_drafted : (m : Meta) (a b c : Batch) (r : ℕ) (map : Block) → m.out ≡ No → a ≡ [] → b ≡ a ++ (target 0 (map_place_of m.setup.geometry r), map) ∷ [] → c ≡ b ++ (target 1 (map_place_of m.setup.geometry r), map) ∷ []
    → c ≡ map_targets m (r / 512) map
map_drafted m a b c r map no_out none first second =
    let unit : ℕ = m.setup.geometry.rows + soft_count m + r / 512 in
    let all : c ≡ (target 0 (map_place_of m.setup.geometry r), map) ∷ (target 1 (map_place_of m.setup.geometry r), map) ∷ [] = rw (second, first, none) refl in
    all ∙ ap (λ (o : Out). target_if (is_written o 0 unit) 0 (map_place_of m.setup.geometry r) map ++ target_if (is_written o 1 unit) 1 (map_place_of m.setup.geometry r) map) (sym no_out)

-- there is room for both, or both stand in the batch already
pub map_room : (g : Geometry) (batch a b c : Batch) (r : ℕ) (map : Block) → a ≡ [] → b ≡ a ++ (target 0 (map_place_of g r), map) ∷ [] → c ≡ b ++ (target 1 (map_place_of g r), map) ∷ []
    → HasRoomForMap g batch r → HasRoomFor batch c
map_room g batch a b c r map none first second room =
    let both : Batch = (target 0 (map_place_of g r), map) ∷ (target 1 (map_place_of g r), map) ∷ [] in
    let all : c ≡ both = rw (second, first, none) refl in
    subst (HasRoomFor batch) (sym all) (elim room [
      | inl few ↦ inl few
      | inr named ↦ inr (both_staged g batch r map named)
    ])

-- where there is no place nothing is seen
no_place : (s : Disks) (a b : Batch) (x q : ℕ) → has_place s x q ≡ false → contents s a x q ≡ contents s b x q
unfolding contents
no_place s a b x q gone = rw gone refl

module _ (slots : ℕ) (named : Option ℕ) (m : Meta) (table table_then : List (List Bool)) (batch batch_then draft : Batch) (copied : List Bool) (h : History) (lo : ℕ) (cells : ℕ → ℕ → Bool) (s : Disks)
    (in_range : IsInRange m) (no_out : m.out ≡ No) (absent : (d : ℕ) → d < m.setup.geometry.disks → is_present (s.power d) ≡ false → named_out m.out ≡ Some d)
    (kc : KeepsCellCopies slots named m table batch copied h lo cells s) (r d : ℕ) (lr : r < m.setup.geometry.rows) (ld : d < m.setup.geometry.disks) (rises : d < rising_to m.phase)
    (dirty : is_dirty table r d ≡ true) (is_copied : cells r d ≡ true) (map : Block)
    (turned : (q e : ℕ) → is_dirty table_then q e ≡ table_with_bit (is_dirty table) r d false q e) (shows : ShowsBits map (r / 512) (is_dirty table_then))
    (draft_is : draft ≡ map_targets m (r / 512) map) (laid_same : (e p : ℕ) (x : Block) → overlaid_block batch_then e p x ≡ overlaid_block (batch ++ draft) e p x) (grows : length batch ≤ length batch_then) where
  abbrev k : HoldsBetweenCalls slots named m table batch copied h lo s
  k = kc.keeps

  abbrev f : Contents
  f = contents s batch

  abbrev after : Contents
  after = contents s batch_then

  abbrev v : View
  v = view_by m s.power f

  abbrev w : View
  w = view_by m s.power after

  none_named : (x : ℕ) → named_out m.out ≢ Some x
  none_named x is = let z : None ≡ Some x = ap named_out (sym no_out) ∙ is in cc

  out_was : out_disk s.power m ≡ named_out m.out
  out_was = out_all s.power m absent

  none : out_disk s.power m ≡ None
  none = out_was ∙ ap named_out no_out

  changed_same : (q e : ℕ) → is_dirty table q e ≡ v.dirty q e → table_with_bit (is_dirty table) r d false q e ≡ table_with_bit v.dirty r d false q e
  changed_same q e same = elim (cases_both q r e d) [
    | inl is ↦ changed_at (is_dirty table) r d false q e is.0 is.1 ∙ sym (changed_at v.dirty r d false q e is.0 is.1)
    | inr differ ↦ changed_off (is_dirty table) r d false q e differ ∙ same ∙ sym (changed_off v.dirty r d false q e differ)
  ]

  turned_v : (q e : ℕ) → q < 512 * map_count m.setup.geometry → is_dirty table_then q e ≡ table_with_bit v.dirty r d false q e
  turned_v q e l = turned q e ∙ changed_same q e (k.dirty q e l)

  shows_v : ShowsBits map (r / 512) (table_with_bit v.dirty r d false)
  shows_v = record { bits = λ i e l. shows.bits i e l ∙ turned_v (512 * (r / 512) + i) e (omega arith) }

  -- a place that is kept is there
  kept_place : (e u p : ℕ) → e < m.setup.geometry.disks → IsUnitKept s.power m (out_disk s.power m) e u → p < disk_size m.setup.geometry → has_place s e p ≡ true
  kept_place e u p le (there other) lp = elim (cases_Bool (is_present (s.power e))) [
    | inl here ↦ let large = k.staged.kept.disks.large e le here other in rw here (let l : p < s.size e = omega arith in grind (arith, nat_tests))
    | inr gone ↦ absurd (none_named e (absent e le gone))
  ]
  kept_place e u p le (rebuilt count fresh l) lp = absurd (none_named e (ap named_out fresh.is))

  -- its hard place holds the value already
  value_there : f d (hard_place_of m.setup.geometry r) ≡ value v r d
  value_there = kc.stored r d lr ld (sym (k.dirty r d (omega arith)) ∙ dirty) is_copied

  hard_same : overlaid_blocks (hard_targets v r d (value v r d)) f ≡ f
  hard_same = λ i. λ x q. (at x q) i
    where
      at : (x q : ℕ) → overlaid_blocks (hard_targets v r d (value v r d)) f x q ≡ f x q
      at x q = elim (cases_both x d q (hard_place_of m.setup.geometry r)) [
        | inl is ↦
            lay_at (is_written m.out d r) d (hard_place_of m.setup.geometry r) (value v r d) f x q (ap (λ (o : Out). is_written o d r) no_out) is.0 is.1
            ∙ sym value_there ∙ ap (λ (y : ℕ). f y (hard_place_of m.setup.geometry r)) (sym is.0) ∙ ap (f x) (sym is.1)
        | inr off ↦ lay_off (is_written m.out d r) d (hard_place_of m.setup.geometry r) (value v r d) f x q off
      ]

  agree : (e u p : ℕ) → e < m.setup.geometry.disks → IsUnitKept s.power m (out_disk s.power m) e u → log_least ≤ p → p < disk_size m.setup.geometry → after e p ≡ overlaid_blocks (clean_targets v r d map) f e p
  agree e u p le at far near =
      ap (λ (z : Contents). z e p) (contents_laid s batch_then (batch ++ draft) laid_same)
      ∙ laid_there s batch draft e p (kept_place e u p le at near) far
      ∙ ap (λ (z : Batch). overlaid_blocks z f e p) draft_is
      ∙ ap (λ (z : Contents). overlaid_blocks (map_targets m (r / 512) map) z e p) (sym hard_same)
      ∙ sym (ap (λ (z : Contents). z e p) (overlaid_blocks-append (hard_targets v r d (value v r d)) (map_targets m (r / 512) map) f))

  same : IsSameHeld slots s.power s.size v w
  same = sync_final slots s.power s.size m f r d map in_range out_was k.staged.kept lr ld rises (none_named d) shows_v after agree

  dirty_then : (q e : ℕ) → q < 512 * map_count m.setup.geometry → is_dirty table_then q e ≡ w.dirty q e
  dirty_then q e l = turned_v q e l ∙ sym (sync_bits slots s.power s.size m f r d map in_range out_was k.staged.kept lr ld rises (none_named d) shows_v after agree q e l)

  marked_keeps : HoldsBetweenCalls slots named m table_then batch_then copied h lo s
  marked_keeps = record {
    base = k.base;
    held = k.held;
    copies = k.copies;
    synced = k.synced;
    named_by = k.named_by;
    borne = k.borne;
    epoch = k.epoch;
    next = k.next;
    writes = k.writes;
    brought = λ none. k.brought (omega (arith, none, grows));
    staged = record { kept = same.kept; blocks = λ b l. same.blocks b l ∙ k.staged.blocks b l };
    dirty = dirty_then;
  }

  -- past the map nothing changes
  map_off : (x q : ℕ) → q ≢ map_place_of m.setup.geometry r → overlaid_blocks (map_targets m (r / 512) map) f x q ≡ f x q
  map_off x q off =
      let unit : ℕ = m.setup.geometry.rows + soft_count m + r / 512 in
      let first : Batch = target_if (is_written m.out 0 unit) 0 (map_place_of m.setup.geometry r) map in
      let second : Batch = target_if (is_written m.out 1 unit) 1 (map_place_of m.setup.geometry r) map in
      ap (λ (z : Contents). z x q) (overlaid_blocks-append first second f)
      ∙ lay_off (is_written m.out 1 unit) 1 (map_place_of m.setup.geometry r) map (overlaid_blocks first f) x q (λ is. off)
      ∙ lay_off (is_written m.out 0 unit) 0 (map_place_of m.setup.geometry r) map f x q (λ is. off)

  past : (x q : ℕ) → map_start m.setup.geometry + map_count m.setup.geometry ≤ q → after x q ≡ f x q
  past x q far = ap (λ (z : Contents). z x q) (contents_laid s batch_then (batch ++ draft) laid_same) ∙ elim (cases_Bool (has_place s x q)) [
    | inl here ↦ laid_there s batch draft x q here (omega arith) ∙ ap (λ (z : Batch). overlaid_blocks z f x q) draft_is ∙ map_off x q (λ is. absurd (omega arith))
    | inr gone ↦ no_place s (batch ++ draft) batch x q gone
  ]

  -- a cell that is dirty still was dirty before, and its value is where it was
  stored_then : AreCellsCopied w cells
  stored_then q e lq le bit here =
      let l : q < 512 * map_count m.setup.geometry = omega arith in
      let was : v.dirty q e ≡ true = was_dirty q e l (dirty_then q e l ∙ bit) in
      let low : m.gear ≤ e = k.staged.kept.map.parked q e l was in
      let g = m.setup.geometry in
      past e (hard_place_of g q) (omega arith) ∙ kc.stored q e lq le was here
      ∙ value_soft v q e none (soft_dirty v q e low was)
      ∙ sym (past (soft_disk g.disks m.gear q e) (soft_place_of g m.gear (soft_stripe g.disks m.gear q e)) (omega arith))
      ∙ sym (value_soft w q e none (soft_dirty w q e low bit))
    where
      was_dirty : (q e : ℕ) → q < 512 * map_count m.setup.geometry → is_dirty table_then q e ≡ true → v.dirty q e ≡ true
      was_dirty q e l now = elim (cases_both q r e d) [
        | inl is ↦ absurd (false≢true (sym (changed_at (is_dirty table) r d false q e is.0 is.1) ∙ sym (turned q e) ∙ now))
        | inr differ ↦ sym (k.dirty q e l) ∙ sym (changed_off (is_dirty table) r d false q e differ) ∙ sym (turned q e) ∙ now
      ]

  pub cells_marked : KeepsCellCopies slots named m table_then batch_then copied h lo cells s
  unfolding marked_keeps
  cells_marked = record { keeps = marked_keeps; shift = kc.shift; stored = stored_then }

pub cells_begin : (slots : ℕ) (named : Option ℕ) (m : Meta) (table : List (List Bool)) (copied : List Bool) (h : History) (lo : ℕ) (s : Disks) → KeepsFilled slots named m table copied h lo m.fill s
    → KeepsCellCopies slots named m table [] copied h lo (λ r d. false) s
cells_begin slots named m table copied h lo s kf = record { keeps = kf.keeps; shift = kf.shift; stored = λ r d lr ld bit never. absurd (false≢true never) }

pub stripes_go_on : (slots : ℕ) (named : Option ℕ) (m : Meta) (table : List (List Bool)) (copied : List Bool) (h : History) (lo : ℕ) (cells : ℕ → ℕ → Bool) (s : Disks)
    → KeepsCellCopies slots named m table [] copied h lo cells s → KeepsFilled slots named m table copied h lo m.fill s
stripes_go_on slots named m table copied h lo cells s kc = record { keeps = kc.keeps; shift = kc.shift; filled = λ t from low. absurd (omega arith) }
