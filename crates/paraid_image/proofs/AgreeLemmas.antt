-- What blocks stand for depends only on the places that are looked at.
use Rattle.std.specs.Prelude.{◌≡◌, ◌≢◌, ℕ, ◌+◌, ◌-◌, ◌*◌, ◌/◌, ◌<◌, ◌≤◌, ◌==◌, ◌&&◌, ◌||◌, nat_lt, Bool, true, false, not, Option, Some, None, if◌then◌else◌}
use Rattle.std.proofs.Common.{refl, sym, ◌∙◌, ap, arith, inl, inr}
use Rattle.std.proofs.lemmas.Bool.{cases_Bool, false≢true, true≢false}
use Rattle.std.proofs.lemmas.Bool.Decides.{nat_tests}
use Rattle.paraid_base.specs.declared.geometry.Geometry.{Geometry}
use Rattle.paraid_base.specs.declared.state.Out.{Out}
use Rattle.paraid_base.specs.declared.state.Out.TheVariants.{No, Gone, Fresh}
use Rattle.paraid_base.specs.declared.state.Phase.{Phase}
use Rattle.paraid_base.specs.declared.state.Phase.TheVariants.{Steady, Down, Up}
use Rattle.paraid_base.specs.History.{History}
use Rattle.paraid_base.specs.Cells.{home_disk, home_row}
use Rattle.paraid_base.specs.Log.{map_block_place}
use Rattle.paraid_base.specs.Regions.{hard_place_of, map_count, soft_place_of}
use Rattle.paraid_base.specs.Skips.{skip}
use Rattle.paraid_base.specs.Soft.{soft_disk, soft_parity_disk, soft_stripe, stripe_count}
use Rattle.paraid_base.proofs.CellsLemmas.{home_disk_below, home_row_below}
use Rattle.paraid_base.proofs.SoftLemmas.{soft_disk_below, soft_stripe_below}
use Rattle.paraid_base.proofs.SkipsLemmas.{skip_below}
use Rattle.paraid_base.proofs.SumsLemmas.{others_same, xor_upto_same}
use Rattle.paraid_rack.specs.declared.call.Power.{Power}
use Rattle.paraid_record.specs.declared.meta.Meta.{Meta}
use Rattle.paraid_record.specs.Codes.{phase_to}
use Rattle.paraid_record.specs.Range.{IsInRange, IsOutInRange, IsPhaseInRange, fill_limit}
use Rattle.paraid_image.specs.Content.{blocks_of}
use Rattle.paraid_image.specs.Out.{is_out}
use Rattle.paraid_image.specs.Sound.{AreBlocks, ContentOk, IsFilled, IsFresh, IsWellKept, stripes_on}
use Rattle.paraid_image.specs.Spot.{View, is_hard, map_bit, map_disk, rising_to}
use Rattle.paraid_image.specs.Standing.{Contents, other_log}
use Rattle.paraid_image.specs.Value.{reconstructed_value, soft_value, stored_value, stripe, stripe_rest, value}
use Rattle.paraid_image.proofs.ViewLemmas.{map_bit_same, map_disk_other, not_below}

-- the places that are looked at hold the same
pub record AgreeSeen (v : View) (power : ℕ → Power) (after : Contents) : Type 0 where
  pub map_blocks : (x j : ℕ) → x < 2 → j < map_count v.meta.setup.geometry → v.out ≢ Some x → after x (map_block_place v.meta.setup.geometry j) ≡ v.block x (map_block_place v.meta.setup.geometry j)
  pub hard : (r e : ℕ) → r < v.meta.setup.geometry.rows → e < v.meta.setup.geometry.disks → v.out ≢ Some e → (v.meta.gear ≤ e → v.dirty r e ≡ false)
      → after e (hard_place_of v.meta.setup.geometry r) ≡ v.block e (hard_place_of v.meta.setup.geometry r)
  pub soft : (s e : ℕ) → s < stripe_count v.meta.setup.geometry.disks v.meta.setup.geometry.rows v.meta.gear → e < v.meta.gear → v.out ≢ Some e
      → after e (soft_place_of v.meta.setup.geometry v.meta.gear s) ≡ v.block e (soft_place_of v.meta.setup.geometry v.meta.gear s)
  pub filled : (s e : ℕ) → v.out ≡ None → s < v.meta.fill → e < phase_to v.meta.phase
      → after e (soft_place_of v.meta.setup.geometry (phase_to v.meta.phase) s) ≡ v.block e (soft_place_of v.meta.setup.geometry (phase_to v.meta.phase) s)
  pub fresh_rows : (e rebuilt r : ℕ) → IsFresh power v.meta e rebuilt → r < v.meta.setup.geometry.rows → r < rebuilt → (v.meta.gear ≤ e → v.dirty r e ≡ false)
      → after e (hard_place_of v.meta.setup.geometry r) ≡ v.block e (hard_place_of v.meta.setup.geometry r)
  pub fresh_stripes : (e rebuilt s : ℕ) → IsFresh power v.meta e rebuilt → s < stripes_on v e → v.meta.setup.geometry.rows + s < rebuilt
      → after e (soft_place_of v.meta.setup.geometry v.meta.gear s) ≡ v.block e (soft_place_of v.meta.setup.geometry v.meta.gear s)
  pub fresh_map : (e rebuilt j : ℕ) → IsFresh power v.meta e rebuilt → e < 2 → j < map_count v.meta.setup.geometry
      → v.meta.setup.geometry.rows + stripes_on v e + j < rebuilt → after e (map_block_place v.meta.setup.geometry j) ≡ v.block e (map_block_place v.meta.setup.geometry j)

hard_clean : (e a to : ℕ) (dirty : Bool) → (nat_lt e a || (nat_lt e to && not dirty)) ≡ true → a ≤ e → dirty ≡ false
hard_clean e a to true h l = grind (arith, nat_tests)
hard_clean e a to false h l = refl

is_out_some : (o : Option ℕ) (e : ℕ) → is_out o e ≡ true → o ≡ Some e
is_out_some None e h = absurd (false≢true h)
is_out_some (Some d) e h = let is : e ≡ d = grind (arith, nat_tests) in ap Some (sym is)

is_out_not : (o : Option ℕ) (e : ℕ) → is_out o e ≡ false → o ≢ Some e
is_out_not None e h k = cc
is_out_not (Some d) e h k = let is : e ≡ d = cc in let at : (e == d) ≡ true = grind (arith, nat_tests) in true≢false (sym at ∙ h)

map_disk_in : (o : Option ℕ) → o ≢ Some (map_disk o)
map_disk_in None e = cc
map_disk_in (Some d) e = let k : d ≡ map_disk (Some d) = cc in map_disk_other d (sym k)

map_disk_low : (o : Option ℕ) → map_disk o < 2
map_disk_low o = low (is_out o 0)
  where
    low : (b : Bool) → (if b then 1 else 0) < 2
    low true = omega arith
    low false = omega arith

pub stripes_gear : (d a count s : ℕ) → s < (if nat_lt d a then count else 0) → (d < a) × (s < count)
stripes_gear d a count s l = elim (cases_Bool (nat_lt d a)) [
  | inl is ↦ let below : d < a = grind (arith, nat_tests) in (below, rw is at l)
  | inr not ↦ let none : s < 0 = rw not at l in absurd (omega arith)
]

-- a stripe that is filled is of a gear
pub gear_of_fill : (g : Geometry) (gear fill s : ℕ) (phase : Phase) → IsPhaseInRange g gear phase → fill ≤ fill_limit g phase → s < fill → 3 ≤ phase_to phase
gear_of_fill g gear fill s Steady range limit l = absurd (omega arith)
gear_of_fill g gear fill s (Down to) range limit l = g.gears_low to range.lower_gear
gear_of_fill g gear fill s (Up to) range limit l = g.gears_low to range.higher_gear

-- and is of disks of the array
pub fill_in_array : (g : Geometry) (gear fill s : ℕ) (phase : Phase) → IsPhaseInRange g gear phase → fill ≤ fill_limit g phase → s < fill → phase_to phase ≤ g.disks
fill_in_array g gear fill s Steady range limit l = absurd (omega arith)
fill_in_array g gear fill s (Down to) range limit l = g.gears_high to range.lower_gear
fill_in_array g gear fill s (Up to) range limit l = g.gears_high to range.higher_gear

pub fresh_below : (g : Geometry) (gear e rebuilt : ℕ) (o : Out) → IsOutInRange g gear o → o ≡ Fresh e rebuilt → e < g.disks
fresh_below g gear e rebuilt No range is = cc
fresh_below g gear e rebuilt (Gone d) range is = cc
fresh_below g gear e rebuilt (Fresh d u) range is = let same : d ≡ e = cc in let l = range.0 in omega arith

module _ (m : Meta) (out : Option ℕ) (block after : Contents) (power : ℕ → Power) (in_range : IsInRange m)
    (fresh_out : (e rebuilt : ℕ) → IsFresh power m e rebuilt → out ≡ Some e) where
  abbrev pub before_view : View
  before_view = record { meta = m; dirty = map_bit m.setup.geometry (block (map_disk out)); out = out; block = block }

  abbrev pub after_view : View
  after_view = record { meta = m; dirty = map_bit m.setup.geometry (after (map_disk out)); out = out; block = after }

  module _ (agree : AgreeSeen before_view power after) where
    abbrev v : View
    v = before_view

    abbrev w : View
    w = after_view

    abbrev g : Geometry
    g = m.setup.geometry

    only_out : (x e : ℕ) → out ≡ Some e → x ≢ e → out ≢ Some x
    only_out x e o apart k = let z : Some e ≡ Some x = sym o ∙ k in let is : x ≡ e = cc in apart is

    dirty_same : (r e : ℕ) → r < 512 * map_count g → w.dirty r e ≡ v.dirty r e
    dirty_same r e l = map_bit_same g (after (map_disk out)) (block (map_disk out)) r e
        (agree.map_blocks (map_disk out) (r / 512) (map_disk_low out) (omega arith) (map_disk_in out))

    row_dirty : (r e : ℕ) → r < g.rows → w.dirty r e ≡ v.dirty r e
    row_dirty r e l = dirty_same r e (omega arith)

    hard_same : (r e : ℕ) → r < g.rows → is_hard w r e ≡ is_hard v r e
    unfolding is_hard
    hard_same r e l = ap (λ (t : Bool). nat_lt e m.gear || (nat_lt e (rising_to m.phase) && not t)) (row_dirty r e l)

    hard_is_clean : (r e : ℕ) → is_hard v r e ≡ true → m.gear ≤ e → v.dirty r e ≡ false
    unfolding is_hard
    hard_is_clean r e h l = hard_clean e m.gear (rising_to m.phase) (v.dirty r e) h l

    soft_parked : (r e : ℕ) → is_hard v r e ≡ false → m.gear ≤ e
    unfolding is_hard
    soft_parked r e h = not_below e m.gear _ h

    rest_same : (s x : ℕ) → s < stripe_count g.disks g.rows m.gear → out ≡ Some x → stripe_rest g after m.gear s x ≡ stripe_rest g block m.gear s x
    rest_same s x ls o = others_same (stripe g after m.gear s) (stripe g block m.gear s) x m.gear
        (λ y l apart. agree.soft s y ls l (only_out y x o apart))

    copy_same : (s x : ℕ) (here : Bool) → is_out out x ≡ here → x < m.gear → s < stripe_count g.disks g.rows m.gear
        → (if here then stripe_rest g after m.gear s x else stripe g after m.gear s x) ≡ (if here then stripe_rest g block m.gear s x else stripe g block m.gear s x)
    copy_same s x true is lx ls = rest_same s x ls (is_out_some out x is)
    copy_same s x false is lx ls = agree.soft s x ls lx (is_out_not out x is)

    soft_same : (r e : ℕ) → r < g.rows → e < g.disks → is_hard v r e ≡ false → soft_value w r e ≡ soft_value v r e
    unfolding soft_value
    soft_same r e lr le h =
        let low = g.gears_low m.gear in_range.gear in
        let parked = soft_parked r e h in
        copy_same (soft_stripe g.disks m.gear r e) (soft_disk g.disks m.gear r e) (is_out out (soft_disk g.disks m.gear r e)) refl
        (soft_disk_below g.disks m.gear r e low) (soft_stripe_below g.disks m.gear r e g.rows (omega arith) parked le lr)

    near_by : (r e : ℕ) (hard : Bool) → is_hard v r e ≡ hard → r < g.rows → e < g.disks → (hard ≡ true → out ≢ Some e) → stored_value w r e ≡ stored_value v r e
    unfolding stored_value
    near_by r e true h lr le there = rw (hard_same r e lr, h) (agree.hard r e lr le (there refl) (hard_is_clean r e h))
    near_by r e false h lr le there = rw (hard_same r e lr, h) (soft_same r e lr le h)

    near_same : (r e : ℕ) → r < g.rows → e < g.disks → (is_hard v r e ≡ true → out ≢ Some e) → stored_value w r e ≡ stored_value v r e
    near_same r e lr le there = near_by r e (is_hard v r e) refl lr le there

    far_same : (r e : ℕ) → r < g.rows → out ≡ Some e → reconstructed_value w r e ≡ reconstructed_value v r e
    unfolding reconstructed_value
    far_same r e lr o = others_same (stored_value w r) (stored_value v r) e g.disks (λ x l apart. near_same r x lr l (λ z. only_out x e o apart))

    value_by : (r e : ℕ) (hard here : Bool) → is_hard v r e ≡ hard → is_out out e ≡ here → r < g.rows → e < g.disks
        → (if hard && here then reconstructed_value w r e else stored_value w r e) ≡ (if hard && here then reconstructed_value v r e else stored_value v r e)
    value_by r e true true h is lr le = far_same r e lr (is_out_some out e is)
    value_by r e true false h is lr le = near_same r e lr le (λ z. is_out_not out e is)
    value_by r e false here h is lr le = near_same r e lr le (λ z. absurd (false≢true (sym h ∙ z)))

    value_same : (r e : ℕ) → r < g.rows → e < g.disks → value w r e ≡ value v r e
    unfolding value
    value_same r e lr le =
        ap (λ (t : Bool). if t && is_out out e then reconstructed_value w r e else stored_value w r e) (hard_same r e lr)
        ∙ value_by r e (is_hard v r e) (is_out out e) refl refl lr le

    filled_same : (s : ℕ) → out ≡ None → s < m.fill → IsFilled v (phase_to m.phase) s → IsFilled w (phase_to m.phase) s
    filled_same s none l f = let to_low = gear_of_fill g m.gear m.fill s m.phase in_range.phase in_range.shift.fill l in record {
      cells = λ r d lr low ld is. agree.filled s (soft_disk g.disks (phase_to m.phase) r d) none l (soft_disk_below g.disks (phase_to m.phase) r d to_low) ∙ f.cells r d lr low ld is ∙ sym (value_same r d lr ld);
      pads = λ at la pad. agree.filled s (skip (soft_parity_disk (phase_to m.phase) s) at) none l (let b = skip_below (soft_parity_disk (phase_to m.phase) s) at (phase_to m.phase - 1) la in omega arith) ∙ f.pads at la pad;
      zero = xor_upto_same (stripe g after (phase_to m.phase) s) (stripe g block (phase_to m.phase) s) (phase_to m.phase) (λ e le. agree.filled s e none l le) ∙ f.zero;
    }

    pub kept_agrees : (slots : ℕ) (size : ℕ → ℕ) → IsWellKept slots power size v → IsWellKept slots power size w
    kept_agrees slots size c = record {
      rows = λ r l. xor_upto_same (value w r) (value v r) g.disks (λ e le. value_same r e l le) ∙ c.rows r l;
      stripes = λ off s l. xor_upto_same (stripe g after m.gear s) (stripe g block m.gear s) m.gear
          (λ e le. agree.soft s e l le (λ o. let far_off = off e o in absurd (omega arith))) ∙ c.stripes off s l;
      filled = λ none s l. filled_same s none l (c.filled none s l);
      clean = λ r e lr low le in_array clean.
          let was : v.dirty r e ≡ false = sym (row_dirty r e lr) ∙ clean in
          agree.hard r e lr le in_array (λ z. was) ∙ c.clean r e lr low le in_array was ∙ sym (value_same r e lr le);
      rebuilt = λ e rebuilt fresh.
          let was = c.rebuilt e rebuilt fresh in
          let o = fresh_out e rebuilt fresh in
          let below = fresh_below g m.gear e rebuilt m.out in_range.out fresh.is in
          record {
            rows = λ r lr lu clean.
                let was_clean : m.gear ≤ e → v.dirty r e ≡ false = (λ z. sym (row_dirty r e lr) ∙ clean z) in
                agree.fresh_rows e rebuilt r fresh lr lu was_clean ∙ was.rows r lr lu was_clean ∙ sym (value_same r e lr below);
            stripes = λ s ls lu.
                let in_gear = stripes_gear e m.gear (stripe_count g.disks g.rows m.gear) s ls in
                agree.fresh_stripes e rebuilt s fresh ls lu ∙ was.stripes s ls lu ∙ sym (rest_same s e in_gear.1 o);
            map_blocks = λ j low lj lu.
                agree.fresh_map e rebuilt j fresh low lj lu ∙ was.map_blocks j low lj lu
                ∙ sym (agree.map_blocks (other_log e) j (omega arith) lj (only_out (other_log e) e o (λ z. absurd (omega arith))));
          };
      map = record {
        mirrored = λ j l first second. agree.map_blocks 0 j (omega arith) l first ∙ c.map.mirrored j l first second ∙ sym (agree.map_blocks 1 j (omega arith) l second);
        rows = λ r e l bit. c.map.rows r e l (sym (dirty_same r e l) ∙ bit);
        parked = λ r e l bit. c.map.parked r e l (sym (dirty_same r e l) ∙ bit);
        disks = λ r e l bit. c.map.disks r e l (sym (dirty_same r e l) ∙ bit);
      };
      disks = c.disks;
    }

    pub blocks_agree : AreBlocks w (blocks_of v)
    blocks_agree b l =
        let low = g.disks_low in
        value_same (home_row g.disks b) (home_disk g.disks b) (home_row_below g.disks b g.rows (omega arith) l) (home_disk_below g.disks b (omega arith))

    pub content_agrees : (slots : ℕ) (size : ℕ → ℕ) (h : History) (k : ℕ) → ContentOk slots power size v h k → ContentOk slots power size w h k
    content_agrees slots size h k c = record { kept = kept_agrees slots size c.kept; blocks = λ b l. blocks_agree b l ∙ c.blocks b l }
