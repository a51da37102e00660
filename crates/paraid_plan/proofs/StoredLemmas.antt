-- Disks that are kept well store the values that are read from them.
use Rattle.std.specs.Prelude.{◌≡◌, ◌≢◌, ℕ, ◌+◌, ◌<◌, ◌≤◌, nat_lt, Bool, true, false, not, Option, Some, None, if◌then◌else◌}
use Rattle.std.proofs.Common.{refl, sym, ◌∙◌, ap, arith, inl, inr}
use Rattle.std.proofs.lemmas.Bool.{cases_Bool, cases_eq, cases_lt, false≢true}
use Rattle.std.proofs.lemmas.Bool.Decides.{nat_tests}
use Rattle.paraid_base.specs.declared.block.Block.{Block}
use Rattle.paraid_base.specs.declared.geometry.Geometry.{Geometry}
use Rattle.paraid_base.specs.Log.{map_block_place}
use Rattle.paraid_base.specs.Regions.{hard_place_of, map_count, soft_place_of}
use Rattle.paraid_base.specs.Soft.{soft_disk, soft_stripe}
use Rattle.paraid_base.specs.Sums.{xor_upto}
use Rattle.paraid_base.specs.Xor.{xor, zero_block}
use Rattle.paraid_base.proofs.SumsLemmas.{others_same, whole_from_others, xor_upto_same}
use Rattle.paraid_base.proofs.XorLemmas.{xor_self}
use Rattle.paraid_image.specs.Sound.{IsWellKept, stripes_on}
use Rattle.paraid_plan.specs.WriteTargets.{soft_count, stripe_block_now}
use Rattle.paraid_plan.specs.StoredCells.{IsUnitKept, StoresCells, hard_at}
use Rattle.paraid_plan.specs.StoredCells.IsUnitKept.{there, rebuilt}
use Rattle.paraid_plan.proofs.OutsLemmas.{alone_by, map_disk_cases, not_out, only_out, some_out}
use Rattle.paraid_rack.specs.declared.call.Power.{Power}
use Rattle.paraid_record.specs.Codes.{phase_to}
use Rattle.paraid_record.specs.Range.{IsInRange}
use Rattle.paraid_image.specs.Out.{is_out, named_out}
use Rattle.paraid_image.specs.Spot.{View, is_hard, map_disk}
use Rattle.paraid_image.specs.Standing.{other_log}
use Rattle.paraid_image.specs.Value.{soft_value, stored_value, stripe, stripe_rest, value}

pub hard_is : (v : View) (r d : ℕ) → is_hard v r d ≡ hard_at v.meta (v.dirty r d) d
unfolding is_hard hard_at
hard_is v r d = refl

pub hard_below : (v : View) (r d : ℕ) → d < v.meta.gear → is_hard v r d ≡ true
unfolding is_hard
hard_below v r d l = grind (arith, nat_tests)

pub value_soft : (v : View) (r d : ℕ) → is_hard v r d ≡ false
    → value v r d ≡ stripe_block_now v (soft_stripe v.meta.setup.geometry.disks v.meta.gear r d) (soft_disk v.meta.setup.geometry.disks v.meta.gear r d)
unfolding value stored_value soft_value stripe_block_now
value_soft v r d h = rw h refl

pub value_hard : (v : View) (r d : ℕ) → is_hard v r d ≡ true → is_out v.out d ≡ false → value v r d ≡ v.block d (hard_place_of v.meta.setup.geometry r)
unfolding value stored_value
value_hard v r d h o = rw (h, o) refl

pub stripe_there : (v : View) (s e : ℕ) → v.out ≢ Some e → stripe_block_now v s e ≡ v.block e (soft_place_of v.meta.setup.geometry v.meta.gear s)
unfolding stripe_block_now
stripe_there v s e apart = rw (not_out v.out e apart) refl

pub stripe_gone : (v : View) (s e : ℕ) → v.out ≡ Some e → stripe_block_now v s e ≡ stripe_rest v.meta.setup.geometry v.block v.meta.gear s e
unfolding stripe_block_now
stripe_gone v s e is = rw (some_out v.out e is) refl

pub not_true : (b : Bool) → not b ≡ true → b ≡ false
not_true true h = absurd (false≢true h)
not_true false h = refl

pub below_stripes : (v : View) (s e : ℕ) → e < v.meta.gear → s < soft_count v.meta → s < stripes_on v e
below_stripes v s e l ls = let is : nat_lt e v.meta.gear ≡ true = grind (arith, nat_tests) in rw is ls

pub stripes_below : (v : View) (e : ℕ) → e < v.meta.gear → stripes_on v e ≡ soft_count v.meta
stripes_below v e l = let is : nat_lt e v.meta.gear ≡ true = grind (arith, nat_tests) in rw is refl

module _ (slots : ℕ) (power : ℕ → Power) (size : ℕ → ℕ) (v : View) (in_range : IsInRange v.meta) (named : v.out ≡ named_out v.meta.out)
    (kept : IsWellKept slots power size v) where
  abbrev g : Geometry
  g = v.meta.setup.geometry

  abbrev to : ℕ
  to = phase_to v.meta.phase

  abbrev hard_blocks : ℕ → ℕ → Block
  hard_blocks r d = if v.dirty r d then v.block d (hard_place_of g r) else value v r d

  abbrev filled_blocks : ℕ → ℕ → Block
  filled_blocks s e = v.block e (soft_place_of g to s)

  abbrev map_blocks : ℕ → Block
  map_blocks j = v.block (map_disk v.out) (map_block_place g j)

  sums_off : (s : ℕ) → s < soft_count v.meta → ((e : ℕ) → v.out ≡ Some e → v.meta.gear ≤ e) → xor_upto (stripe_block_now v s) v.meta.gear ≡ zero_block
  sums_off s ls off =
      xor_upto_same (stripe_block_now v s) (stripe g v.block v.meta.gear s) v.meta.gear (λ e le. stripe_there v s e (λ is. let k = off e is in absurd (omega arith)))
      ∙ kept.stripes off s ls

  sums_out : (s o : ℕ) → o < v.meta.gear → v.out ≡ Some o → xor_upto (stripe_block_now v s) v.meta.gear ≡ zero_block
  sums_out s o lo is =
      whole_from_others (stripe_block_now v s) o v.meta.gear lo
      ∙ ap (λ z. xor z (stripe_block_now v s o)) (others_same (stripe_block_now v s) (stripe g v.block v.meta.gear s) o v.meta.gear
      (λ e le apart. stripe_there v s e (only_out v.out o e is apart)))
      ∙ ap (xor (stripe_rest g v.block v.meta.gear s o)) (stripe_gone v s o is)
      ∙ xor_self (stripe_rest g v.block v.meta.gear s o)

  sums_by : (s : ℕ) (o : Option ℕ) → s < soft_count v.meta → v.out ≡ o → xor_upto (stripe_block_now v s) v.meta.gear ≡ zero_block
  sums_by s None ls is = sums_off s ls (λ e k. let z : None ≡ Some e = sym is ∙ k in cc)
  sums_by s (Some o) ls is = elim (cases_lt o v.meta.gear) [
    | inl below ↦ sums_out s o below is
    | inr above ↦ sums_off s ls (λ e k. let z : Some o ≡ Some e = sym is ∙ k in let same : o ≡ e = cc in omega arith)
  ]

  alone : (s : ℕ) → s < v.meta.fill → v.out ≡ None
  alone s l = named ∙ alone_by v.meta.out v.meta.fill s in_range.shift.still l

  hard_kept : (r d : ℕ) → r < g.rows → d < g.disks → v.dirty r d ≡ false → IsUnitKept power v.meta v.out d r → v.block d (hard_place_of g r) ≡ value v r d
  hard_kept r d lr ld clean (there apart) = elim (cases_lt d v.meta.gear) [
    | inl below ↦ sym (value_hard v r d (hard_below v r d below) (not_out v.out d apart))
    | inr above ↦ kept.clean r d lr above ld apart clean
  ]
  hard_kept r d lr ld clean (rebuilt count fresh l) = (kept.rebuilt d count fresh).rows r lr l (λ _. clean)

  soft_kept : (s e : ℕ) → s < soft_count v.meta → e < v.meta.gear → IsUnitKept power v.meta v.out e (g.rows + s)
      → v.block e (soft_place_of g v.meta.gear s) ≡ stripe_block_now v s e
  soft_kept s e ls le (there apart) = sym (stripe_there v s e apart)
  soft_kept s e ls le (rebuilt count fresh l) =
      (kept.rebuilt e count fresh).stripes s (below_stripes v s e le ls) l ∙ sym (stripe_gone v s e (named ∙ ap named_out fresh.is))

  map_kept : (j x : ℕ) → j < map_count g → x < 2 → IsUnitKept power v.meta v.out x (g.rows + soft_count v.meta + j)
      → v.block x (map_block_place g j) ≡ v.block (map_disk v.out) (map_block_place g j)
  map_kept j x lj lx (there apart) = elim (map_disk_cases v.out) [
    | inl at ↦ elim (cases_eq x 0) [
      | inl first ↦ ap (λ (y : ℕ). v.block y (map_block_place g j)) (first ∙ sym at.0)
      | inr second ↦
          let one : x ≡ 1 = omega arith in
          ap (λ (y : ℕ). v.block y (map_block_place g j)) one
          ∙ sym (kept.map.mirrored j lj at.1 (λ is. apart (is ∙ ap Some (sym one)))) ∙ ap (λ (y : ℕ). v.block y (map_block_place g j)) (sym at.0)
    ]
    | inr at ↦
        let one : x ≡ 1 = elim (cases_eq x 0) [ inl first ↦ absurd (apart (at.1 ∙ ap Some (sym first))) | inr second ↦ omega arith ] in
        ap (λ (y : ℕ). v.block y (map_block_place g j)) (one ∙ sym at.0)
  ]
  map_kept j x lj lx (rebuilt count fresh l) =
      let low = g.gears_low v.meta.gear in_range.gear in
      let units = stripes_below v x (omega arith) in
      let o : v.out ≡ Some x = named ∙ ap named_out fresh.is in
      let other : other_log x ≡ map_disk v.out = elim (map_disk_cases v.out) [
        | inl at ↦ elim (cases_eq x 0) [ inl first ↦ absurd (at.1 (o ∙ ap Some first)) | inr second ↦ let z = at.0 in omega arith ]
        | inr at ↦ let z : Some x ≡ Some 0 = sym o ∙ at.1 in let first : x ≡ 0 = cc in let one = at.0 in omega arith
      ] in
      (kept.rebuilt x count fresh).map_blocks j lx lj (omega arith) ∙ ap (λ (y : ℕ). v.block y (map_block_place g j)) other

  pub stored_of : StoresCells power v.meta v.out v.block v.dirty (value v) (λ j. v.block (map_disk v.out) (map_block_place g j))
  stored_of = record {
    hard = hard_blocks;
    soft = stripe_block_now v;
    filled = filled_blocks;
    lies = record {
      hard_blocks = λ r d lr ld k. elim (cases_Bool (v.dirty r d)) [
        | inl is ↦ rw is refl
        | inr clean ↦ rw clean (hard_kept r d lr ld clean k)
      ];
      soft_blocks = soft_kept;
      filled_blocks = λ s e ls le. refl;
      map_blocks = map_kept;
    };
    clean = λ r d lr ld c. rw c refl;
    copies = record {
      cells = λ r d lr low ld ls h. sym (value_soft v r d (hard_is v r d ∙ not_true (hard_at v.meta (v.dirty r d) d) h));
      sums = λ s ls. sums_by s v.out ls refl;
    };
    fills = record {
      cells = λ r d lr low ld ls h. (kept.filled (alone _ ls) _ ls).cells r d lr low ld refl;
      sums = λ s ls. (kept.filled (alone s ls) s ls).zero;
    };
    pads = record { zeros = λ s at ls la pad. (kept.filled (alone s ls) s ls).pads at la pad };
  }
