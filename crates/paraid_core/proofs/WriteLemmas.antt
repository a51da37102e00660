-- A planned write, taken into the batch.
use Rattle.std.specs.Prelude.{◌≡◌, ◌≢◌, ℕ, ◌+◌, ◌-◌, ◌*◌, ◌<◌, ◌≤◌, nat_lt, Bool, true, false, List, [], ◌∷◌, ◌++◌, Option, Some, length, if◌then◌else◌}
use Rattle.std.proofs.Common.{refl, sym, ◌∙◌, ap, subst, arith, inl, inr, length-append}
use Rattle.std.proofs.lemmas.Bool.{cases_Bool}
use Rattle.std.proofs.lemmas.Bool.Decides.{nat_tests}
use Rattle.paraid_base.specs.declared.block.Block.{Block}
use Rattle.paraid_base.specs.History.{Entry, History, after_all, last_of}
use Rattle.paraid_base.specs.Log.{log_least}
use Rattle.paraid_base.specs.Regions.{disk_size, map_count, map_place_of}
use Rattle.paraid_base.specs.Xor.{zero_block}
use Rattle.paraid_base.proofs.HistoryLemmas.{after-append, after_all-append}
use Rattle.paraid_dirty.specs.Table.{is_dirty}
use Rattle.paraid_plan.specs.Desk.{Desk, IsKeptDesk, sees}
use Rattle.paraid_plan.specs.RowWrites.{AddsTargets, StageAll}
use Rattle.paraid_plan.specs.WriteTargets.{overlaid_blocks}
use Rattle.paraid_plan.specs.StoredCells.{IsUnitKept}
use Rattle.paraid_plan.specs.StoredCells.IsUnitKept.{there, rebuilt}
use Rattle.paraid_plan.proofs.LayLemmas.{laid_append}
use Rattle.paraid_plan.proofs.MetaLemmas.{kept_writes, value_writes}
use Rattle.paraid_plan.proofs.KeptPlaceLemmas.{places_tell}
use Rattle.paraid_plan.proofs.WriteLemmas.{block_other, kept_other}
use Rattle.paraid_rack.specs.Disks.{Disks, is_present}
use Rattle.paraid_record.specs.declared.meta.Meta.{Meta}
use Rattle.paraid_record.specs.Range.{IsInRange}
use Rattle.paraid_image.specs.Content.{blocks_of, view_by}
use Rattle.paraid_image.specs.Out.{named_out, out_disk}
use Rattle.paraid_image.specs.Sides.{Batch, has_place}
use Rattle.paraid_image.specs.Sound.{ContentOk, IsWellKept}
use Rattle.paraid_image.specs.Spot.{View, map_bit, map_disk}
use Rattle.paraid_image.specs.Standing.{Contents, contents, overlaid_block}
use Rattle.paraid_image.proofs.ViewLemmas.{map_bit_same, map_disk_other}
use Rattle.paraid_moves.specs.Copying.{HoldsWithCopies}
use Rattle.paraid_moves.proofs.CopyCommitLemmas.{copying_from_rest}
use Rattle.paraid_moves.proofs.NextLemmas.{next_same}
use Rattle.paraid_core.specs.CoreInvariant.{HoldsBetweenCalls}
use Rattle.paraid_core.specs.Writes.{IsFirstDesk, IsTaken, RestKeeps, TakenWriteKeeps}
use Rattle.paraid_core.proofs.CommitLemmas.{map_disk_low, out_all}
use Rattle.paraid_base.specs.Cells.{home_disk, home_row}
use Rattle.paraid_base.proofs.CellsLemmas.{home_disk_below, home_row_below}
use Rattle.paraid_image.specs.Value.{value}

copies_more : (slots : ℕ) (base : Meta) (held_in : Contents) (h : History) (entry : Entry) (lo : ℕ) (s : Disks) → HoldsWithCopies slots base held_in h lo s → HoldsWithCopies slots base held_in (h ++ entry ∷ []) lo s
copies_more slots base held_in h entry lo s c =
    let longer = length-append h (entry ∷ []) in
    let high = c.high in
    record {
      copying = c.copying;
      low = c.low;
      high = omega arith;
      content = record {
        kept = c.content.kept;
        blocks = λ b l. c.content.blocks b l ∙ sym (after-append h entry base.writes b c.high);
      };
    }

pub contents_laid : (s : Disks) (a b : Batch) → ((d p : ℕ) (x : Block) → overlaid_block a d p x ≡ overlaid_block b d p x) → contents s a ≡ contents s b
unfolding contents
contents_laid s a b same = λ t. λ d p. (ap (λ (x : Block). if nat_lt p log_least then zero_block else (if has_place s d p then x else zero_block)) (same d p (s.block d p))) t

pub laid_there : (s : Disks) (batch more : Batch) (d p : ℕ) → has_place s d p ≡ true → log_least ≤ p → contents s (batch ++ more) d p ≡ overlaid_blocks more (contents s batch) d p
unfolding contents overlaid_blocks
laid_there s batch more d p here far =
    let past : nat_lt p log_least ≡ false = grind (arith, nat_tests) in
    rw (past, here) (laid_append batch more d p (s.block d p))

module _ (slots : ℕ) (named : Option ℕ) (m : Meta) (table table_then : List (List Bool)) (batch batch_then : Batch) (copied : List Bool) (h : History) (lo : ℕ) (s : Disks) (before later : Desk) (entry : Entry)
    (in_range : IsInRange m) (absent : (d : ℕ) → d < m.setup.geometry.disks → is_present (s.power d) ≡ false → named_out m.out ≡ Some d)
    (k : HoldsBetweenCalls slots named m table batch copied h lo s)
    (begins : IsFirstDesk m batch s before) (stage : StageAll m before later entry) (taken : IsTaken m batch batch_then table_then later) where
  abbrev f : Contents
  f = contents s batch

  abbrev g : Contents
  g = contents s batch_then

  abbrev v : View
  v = view_by m s.power f

  abbrev out : Option ℕ
  out = named_out m.out

  abbrev x : ℕ
  x = map_disk (named_out m.out)

  abbrev count : ℕ
  count = m.setup.geometry.rows * (m.setup.geometry.disks - 1)

  out_was : out_disk s.power m ≡ named_out m.out
  out_was = out_all s.power m absent

  -- what is seen of the desk, by the bits of the map
  abbrev seen_was : View
  seen_was = record { meta = m; dirty = map_bit m.setup.geometry (f (map_disk (named_out m.out))); out = named_out m.out; block = f }

  seen : seen_was ≡ v
  seen = λ i. record { meta = m; dirty = map_bit m.setup.geometry (f (map_disk (sym out_was i))); out = sym out_was i; block = f }

  abbrev seen_bits : View
  seen_bits = record { meta = m; dirty = before.dirty; out = named_out m.out; block = f }

  seen_desk : seen_bits ≡ sees m before
  seen_desk = λ i. record { meta = m; dirty = before.dirty; out = named_out m.out; block = sym begins.block i }

  was_kept : IsWellKept slots s.power s.size seen_was
  was_kept = subst (IsWellKept slots s.power s.size) (sym seen) k.staged.kept

  was_bits : (q e : ℕ) → q < 512 * map_count m.setup.geometry → before.dirty q e ≡ map_bit m.setup.geometry (f (map_disk (named_out m.out))) q e
  was_bits q e l = begins.dirty q e l ∙ ap (λ (z : Option ℕ). map_bit m.setup.geometry (f (map_disk z)) q e) out_was

  -- what was in view is kept well, and its dirty bits are those of the map
  kept : IsKeptDesk slots s.power s.size m before
  kept = record {
    shown = λ q e l. was_bits q e l ∙ ap (λ (z : Contents). map_bit m.setup.geometry (z (map_disk (named_out m.out))) q e) (sym begins.block);
    kept = subst (IsWellKept slots s.power s.size) seen_desk (kept_other slots s.power s.size seen_was before.dirty in_range refl was_bits was_kept);
  }

  blocks_was : (b : ℕ) → b < count → blocks_of (sees m before) b ≡ blocks_of v b
  blocks_was b l =
      ap (λ (z : View). blocks_of z b) (sym seen_desk) ∙ block_other slots s.power s.size seen_was before.dirty in_range refl was_bits was_kept b l ∙ ap (λ (z : View). blocks_of z b) seen

  kept_later : IsKeptDesk slots s.power s.size m later
  kept_later = stage.kept slots s.power s.size kept

  laid_now : AddsTargets m before later
  laid_now = stage.adds

  staged_is : later.staged ≡ laid_now.targets
  staged_is = laid_now.staged ∙ ap (λ (z : Batch). z ++ laid_now.targets) begins.staged

  -- a place that is kept is there
  kept_place : (d u p : ℕ) → d < m.setup.geometry.disks → IsUnitKept s.power m out d u → p < disk_size m.setup.geometry → has_place s d p ≡ true
  kept_place d u p ld (there apart) lp = elim (cases_Bool (is_present (s.power d))) [
    | inl here ↦ let large = k.staged.kept.disks.large d ld here (λ o. apart (sym out_was ∙ o)) in rw here (let l : p < s.size d = omega arith in grind (arith, nat_tests))
    | inr gone ↦ absurd (apart (absent d ld gone))
  ]
  kept_place d u p ld (rebuilt count fresh l) lp =
      let large = k.staged.kept.disks.fresh_large d count fresh in
      rw fresh.present (let l : p < s.size d = omega arith in grind (arith, nat_tests))

  agree : (d u p : ℕ) → d < m.setup.geometry.disks → IsUnitKept s.power m out d u → log_least ≤ p → p < disk_size m.setup.geometry → g d p ≡ later.block d p
  agree d u p ld at far near =
      ap (λ (z : Contents). z d p) (contents_laid s batch_then (batch ++ later.staged) taken.laid_same)
      ∙ ap (λ (z : Batch). contents s (batch ++ z) d p) staged_is
      ∙ laid_there s batch laid_now.targets d p (kept_place d u p ld at near) far
      ∙ ap (λ (z : Contents). overlaid_blocks laid_now.targets z d p) (sym begins.block)
      ∙ ap (λ (z : Contents). z d p) (sym laid_now.block)

  abbrev seen_then : View
  seen_then = record { meta = m; dirty = later.dirty; out = named_out m.out; block = g }

  placed : IsWellKept slots s.power s.size seen_then
      × ((r d : ℕ) → r < m.setup.geometry.rows → d < m.setup.geometry.disks → value seen_then r d ≡ value (sees m later) r d)
  placed = places_tell slots s.power s.size (sees m later) g in_range refl kept_later.kept agree

  low_x : x < m.setup.geometry.disks
  low_x = let two = map_disk_low (named_out m.out) in let three = m.setup.geometry.disks_low in omega arith

  not_out : named_out m.out ≢ Some x
  not_out o = map_disk_other x (ap map_disk (sym o))

  bits : (q e : ℕ) → q < 512 * map_count m.setup.geometry → map_bit m.setup.geometry (g x) q e ≡ later.dirty q e
  bits q e l =
      let near : map_place_of m.setup.geometry q < disk_size m.setup.geometry = omega arith in
      map_bit_same m.setup.geometry (g x) (later.block x) q e (agree x 0 (map_place_of m.setup.geometry q) low_x (there not_out) (omega arith) near)
      ∙ sym (kept_later.shown q e l)

  abbrev mapped : View
  mapped = record { meta = m; dirty = map_bit m.setup.geometry (g (map_disk (named_out m.out))); out = named_out m.out; block = g }

  mapped_kept : IsWellKept slots s.power s.size mapped
  mapped_kept = kept_other slots s.power s.size seen_then mapped.dirty in_range refl bits placed.0

  abbrev m_then : Meta
  m_then = record m { writes = m.writes + 1 }

  abbrev view_at : Option ℕ → View
  view_at o = record { meta = m_then; dirty = map_bit m.setup.geometry (g (map_disk o)); out = o; block = g }

  holds : (b : ℕ) → b < count → blocks_of (view_at (named_out m.out)) b ≡ after_all (h ++ entry ∷ []) b
  holds b l =
      let shape = m.setup.geometry in
      let low = shape.disks_low in
      value_writes mapped (m.writes + 1) (home_row shape.disks b) (home_disk shape.disks b)
      ∙ block_other slots s.power s.size seen_then mapped.dirty in_range refl bits placed.0 b l
      ∙ placed.1 (home_row shape.disks b) (home_disk shape.disks b) (home_row_below shape.disks b shape.rows (omega arith) l) (home_disk_below shape.disks b (omega arith))
      ∙ stage.blocks slots s.power s.size kept b l
      ∙ ap (λ (y : Block). last_of b y entry) (blocks_was b l ∙ k.staged.blocks b l)
      ∙ sym (after_all-append h entry b)

  staged_at : ContentOk slots s.power s.size (view_at (named_out m.out)) (h ++ entry ∷ []) (length (h ++ entry ∷ []))
  staged_at = record { kept = kept_writes slots s.power s.size mapped (m.writes + 1) mapped_kept; blocks = holds }

  staged_then : ContentOk slots s.power s.size (view_by m_then s.power g) (h ++ entry ∷ []) (length (h ++ entry ∷ []))
  staged_then = subst (λ (o : Option ℕ). ContentOk slots s.power s.size (view_at o) (h ++ entry ∷ []) (length (h ++ entry ∷ []))) (sym out_was) staged_at

  dirty_then : (r d : ℕ) → r < 512 * map_count m.setup.geometry → is_dirty table_then r d ≡ (view_by m_then s.power g).dirty r d
  dirty_then r d l = taken.bits r d l ∙ sym (bits r d l) ∙ ap (λ (z : Option ℕ). map_bit m.setup.geometry (g (map_disk z)) r d) (sym out_was)

  pub write_taken : HoldsBetweenCalls slots named m_then table_then batch_then copied (h ++ entry ∷ []) lo s
  write_taken = record {
    base = k.base;
    held = k.held;
    copies = copies_more slots k.base k.held h entry lo s k.copies;
    synced = k.synced;
    named_by = k.named_by;
    borne = k.borne;
    epoch = k.epoch;
    next = record { epoch = k.next.epoch; setup = k.next.setup; out = k.next.out; comes_in = k.next.comes_in; fresh_closed = λ d u fresh l. k.next.fresh_closed d u (record { is = fresh.is; present = fresh.present }) l };
    writes = (let e = k.writes in let longer = length-append h (entry ∷ []) in omega arith);
    brought = λ none. absurd (let some = taken.some in omega (arith, none, some));
    staged = staged_then;
    dirty = dirty_then;
  }

pub taken_write_keeps : TakenWriteKeeps
taken_write_keeps slots named m table table_then batch batch_then copied h lo s before later entry in_range absent k begins stage taken =
    write_taken slots named m table table_then batch batch_then copied h lo s before later entry in_range absent k begins stage taken

pub rest_keeps : RestKeeps
rest_keeps slots m table copied h lo s rest witnesses borne writes low ok dirty = record {
  base = m;
  held = contents s [];
  copies = record {
    copying = copying_from_rest s m rest witnesses;
    low = omega arith;
    high = omega arith;
    content = subst (λ (n : ℕ). ContentOk slots s.power s.size (view_by m s.power (contents s [])) h n) (sym writes) ok;
  };
  synced = λ x p here copies_synced. rest.synced x p here;
  named_by = refl;
  borne = borne;
  epoch = refl;
  next = next_same s m (record m { epoch = m.epoch + 1 }) refl refl rest refl;
  writes = writes;
  brought = λ none. refl;
  staged = ok;
  dirty = dirty;
}

-- where nothing is staged, the last commit has brought all writes
pub all_kept : (slots : ℕ) (named : Option ℕ) (m : Meta) (table : List (List Bool)) (batch : Batch) (copied : List Bool) (h : History) (lo : ℕ) (s : Disks) → length batch ≡ 0
    → (z : HoldsBetweenCalls slots named m table batch copied h lo s) → (y : HoldsBetweenCalls slots named m table batch copied h (length h) s) × (y.base ≡ z.base)
all_kept slots named m table batch copied h lo s none z = (
  record {
    base = z.base;
    held = z.held;
    copies = record { copying = z.copies.copying; low = (let all = z.brought none in let long = z.writes in omega (arith, all, long)); high = z.copies.high; content = z.copies.content };
    synced = z.synced;
    named_by = z.named_by;
    borne = z.borne;
    epoch = z.epoch;
    next = z.next;
    writes = z.writes;
    brought = z.brought;
    staged = z.staged;
    dirty = z.dirty;
  },
  refl,
)
