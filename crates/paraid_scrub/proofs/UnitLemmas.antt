-- Which unit of a rebuild is false.
use Rattle.std.specs.Prelude.{◌≡◌, ◌≢◌, ℕ, ◌-◌, ◌<◌, ◌≤◌, nat_lt, Bool, true, false, IsTrue, Some, if◌then◌else◌}
use Rattle.std.proofs.Common.{refl, sym, ◌∙◌, ap, subst, arith, inl, inr}
use Rattle.std.proofs.lemmas.Bool.{cases_eq, cases_lt, false≢true}
use Rattle.std.proofs.lemmas.Bool.Decides.{nat_tests}
use Rattle.paraid_base.specs.declared.block.Block.{Block}
use Rattle.paraid_base.specs.declared.state.Out.TheVariants.{Fresh}
use Rattle.paraid_base.specs.Log.{map_block_place}
use Rattle.paraid_base.specs.Regions.{hard_place_of, map_count}
use Rattle.paraid_base.specs.Soft.{stripe_count}
use Rattle.paraid_base.specs.States.{rebuilt_count}
use Rattle.paraid_base.specs.Sums.{without, xor_upto}
use Rattle.paraid_base.specs.Xor.{xor, zero_block}
use Rattle.paraid_base.proofs.SumsLemmas.{lost_member, whole_from_others}
use Rattle.paraid_base.proofs.XorLemmas.{xor_self}
use Rattle.paraid_record.specs.declared.meta.Meta.{Meta}
use Rattle.paraid_record.specs.Range.{IsInRange, IsOutInRange, rebuild_units}
use Rattle.paraid_image.specs.Out.{named_out}
use Rattle.paraid_image.specs.Sound.{stripes_on}
use Rattle.paraid_image.specs.Spot.{View}
use Rattle.paraid_image.specs.Standing.{other_log}
use Rattle.paraid_image.specs.Value.{stripe, stripe_rest, value}
use Rattle.paraid_scrub.specs.Counts.{IsUnitRight}
use Rattle.paraid_scrub.specs.Looks.{IsReadable}
use Rattle.paraid_scrub.specs.Looks.IsReadable.{fresh, powered}
use Rattle.paraid_scrub.proofs.FillLemmas.{none_off, off_as}

-- how many stripes a disk has to get back, by the meta
abbrev pub stripes_back : Meta → ℕ → ℕ
stripes_back m d = if nat_lt d m.gear then stripe_count m.setup.geometry.disks m.setup.geometry.rows m.gear else 0

pub back_below : (m : Meta) (d : ℕ) → d < m.gear → stripes_back m d ≡ stripe_count m.setup.geometry.disks m.setup.geometry.rows m.gear
back_below m d l = let t : nat_lt d m.gear ≡ true = grind (arith, nat_tests) in rw t refl

pub back_none : (m : Meta) (d : ℕ) → m.gear ≤ d → stripes_back m d ≡ 0
back_none m d l = let t : nat_lt d m.gear ≡ false = grind (arith, nat_tests) in rw t refl

-- a disk that has stripes to get back is below the gear
pub below_of : (m : Meta) (d at : ℕ) → at < stripes_back m d → d < m.gear
below_of m d at l = elim (cases_lt d m.gear) [
  | inl low ↦ low
  | inr high ↦ (let z = back_none m d high in absurd (omega (arith, l, z)))
]

-- the disk that is rebuilt is a disk of the array, and so many units of it are rebuilt at most
pub fresh_range : (m : Meta) (d : ℕ) → IsInRange m → m.out ≡ Fresh d (rebuilt_count m.out) → (d < m.setup.geometry.disks) × (rebuilt_count m.out ≤ rebuild_units m.setup.geometry m.gear d)
fresh_range m d range is = subst (IsOutInRange m.setup.geometry m.gear) is range.out

-- the disks below the gear can be read beside one that is rebuilt
pub beside_fresh : (m : Meta) (d e : ℕ) → m.out ≡ Fresh d (rebuilt_count m.out) → e < m.gear → IsReadable m e
beside_fresh m d e is low = elim (cases_eq e d) [
  | inl same ↦ fresh (rebuilt_count m.out) (subst (λ (x : ℕ). m.out ≡ Fresh x (rebuilt_count m.out)) (sym same) is)
  | inr apart ↦ powered (inl low) (λ named. let z : Some d ≡ Some e = sym (ap named_out is) ∙ named in let y : d ≡ e = cc in apart (sym y))
]

-- a stripe sums to zero just where one block of it is the sum of the others
pub stripe_unit_off : (f : ℕ → Block) (i n : ℕ) → i < n → (off : Bool) → (IsTrue off → xor_upto f n ≢ zero_block) × (xor_upto f n ≢ zero_block → IsTrue off)
    → (IsTrue off → f i ≢ xor_upto (without f i) n) × (f i ≢ xor_upto (without f i) n → IsTrue off)
stripe_unit_off f i n l off is = off_as {P = xor_upto f n ≡ zero_block} {Q = f i ≡ xor_upto (without f i) n} off (lost_member f i n l)
    (λ same. whole_from_others f i n l ∙ ap (λ (b : Block). xor b (f i)) (sym same) ∙ xor_self (f i)) is

-- a dirty cell of a parked disk is right whatever its hard place stores
pub row_alone : (v : View) (m : Meta) (d r : ℕ) → (m.gear ≤ d) × (v.dirty r d ≡ true)
    → (IsTrue false → ((m.gear ≤ d → v.dirty r d ≡ false) → v.block d (hard_place_of m.setup.geometry r) ≡ value v r d) → ⊥) × ((((m.gear ≤ d → v.dirty r d ≡ false) → v.block d (hard_place_of m.setup.geometry r) ≡ value v r d) → ⊥) → IsTrue false)
row_alone v m d r alone = none_off (λ clean. absurd (false≢true (sym (clean alone.0) ∙ alone.1)))

pub row_off : (v : View) (m : Meta) (d r : ℕ) (off : Bool) (stored read : Block) → (m.gear ≤ d → v.dirty r d ≡ false) → stored ≡ v.block d (hard_place_of m.setup.geometry r) → read ≡ value v r d → (IsTrue off → stored ≢ read) × (stored ≢ read → IsTrue off)
    → (IsTrue off → ((m.gear ≤ d → v.dirty r d ≡ false) → v.block d (hard_place_of m.setup.geometry r) ≡ value v r d) → ⊥) × ((((m.gear ≤ d → v.dirty r d ≡ false) → v.block d (hard_place_of m.setup.geometry r) ≡ value v r d) → ⊥) → IsTrue off)
row_off v m d r off stored read clean es ev is =
    off_as {P = stored ≡ read} {Q = (m.gear ≤ d → v.dirty r d ≡ false) → v.block d (hard_place_of m.setup.geometry r) ≡ value v r d} off
    (λ same any. sym es ∙ same ∙ ev) (λ q. es ∙ q clean ∙ sym ev) is

-- a unit of one kind is no unit of another
module _ (v : View) (m : Meta) (e : v.meta ≡ m) (d u : ℕ) where
  back_is : stripes_on v d ≡ stripes_back m d
  back_is = ap (λ (z : Meta). stripes_back z d) e

  rows_is : v.meta.setup.geometry.rows ≡ m.setup.geometry.rows
  rows_is = ap (λ (z : Meta). z.setup.geometry.rows) e

  pub row_unit : u < m.setup.geometry.rows → (off : Bool)
      → (IsTrue off → ((m.gear ≤ d → v.dirty u d ≡ false) → v.block d (hard_place_of m.setup.geometry u) ≡ value v u d) → ⊥) × ((((m.gear ≤ d → v.dirty u d ≡ false) → v.block d (hard_place_of m.setup.geometry u) ≡ value v u d) → ⊥) → IsTrue off)
      → (IsTrue off → IsUnitRight v d u → ⊥) × ((IsUnitRight v d u → ⊥) → IsTrue off)
  row_unit low off is =
      off_as {P = (m.gear ≤ d → v.dirty u d ≡ false) → v.block d (hard_place_of m.setup.geometry u) ≡ value v u d} {Q = IsUnitRight v d u} off
      (λ p. record {
        row = λ l clean. subst (λ (z : Meta). v.block d (hard_place_of z.setup.geometry u) ≡ value v u d) (sym e) (p (subst (λ (z : Meta). z.gear ≤ d → v.dirty u d ≡ false) e clean));
        stripe_of = λ s l here. absurd (omega (arith, low, here, rows_is));
        map_block = λ j low_disk l here. absurd (omega (arith, low, here, rows_is));
      })
      (λ q clean. subst (λ (z : Meta). v.block d (hard_place_of z.setup.geometry u) ≡ value v u d) e (q.row (subst (λ (z : Meta). u < z.setup.geometry.rows) (sym e) low) (subst (λ (z : Meta). z.gear ≤ d → v.dirty u d ≡ false) (sym e) clean)))
      is

  pub stripe_unit : (s : ℕ) → m.setup.geometry.rows ≤ u → s ≡ u - m.setup.geometry.rows → s < stripes_back m d → (off : Bool)
      → (IsTrue off → stripe m.setup.geometry v.block m.gear s d ≢ stripe_rest m.setup.geometry v.block m.gear s d) × (stripe m.setup.geometry v.block m.gear s d ≢ stripe_rest m.setup.geometry v.block m.gear s d → IsTrue off)
      → (IsTrue off → IsUnitRight v d u → ⊥) × ((IsUnitRight v d u → ⊥) → IsTrue off)
  stripe_unit s past at low off is =
      off_as {P = stripe m.setup.geometry v.block m.gear s d ≡ stripe_rest m.setup.geometry v.block m.gear s d} {Q = IsUnitRight v d u} off
      (λ p. record {
        row = λ l clean. absurd (omega (arith, past, l, rows_is));
        stripe_of = λ t l here.
            let same : s ≡ t = omega (arith, past, at, here, rows_is) in
            subst (λ (z : Meta). stripe z.setup.geometry v.block z.gear t d ≡ stripe_rest z.setup.geometry v.block z.gear t d) (sym e)
            (subst (λ (x : ℕ). stripe m.setup.geometry v.block m.gear x d ≡ stripe_rest m.setup.geometry v.block m.gear x d) same p);
        map_block = λ j low_disk l here. absurd (omega (arith, past, at, low, here, rows_is, back_is));
      })
      (λ q. subst (λ (z : Meta). stripe z.setup.geometry v.block z.gear s d ≡ stripe_rest z.setup.geometry v.block z.gear s d) e (q.stripe_of s (subst (λ (n : ℕ). s < n) (sym back_is) low) (omega (arith, past, at, rows_is))))
      is

  pub map_unit : (j : ℕ) → m.setup.geometry.rows ≤ u → stripes_back m d ≤ u - m.setup.geometry.rows → j ≡ u - m.setup.geometry.rows - stripes_back m d → d < 2 → j < map_count m.setup.geometry → (off : Bool)
      → (IsTrue off → v.block d (map_block_place v.meta.setup.geometry j) ≢ v.block (other_log d) (map_block_place v.meta.setup.geometry j)) × (v.block d (map_block_place v.meta.setup.geometry j) ≢ v.block (other_log d) (map_block_place v.meta.setup.geometry j) → IsTrue off)
      → (IsTrue off → IsUnitRight v d u → ⊥) × ((IsUnitRight v d u → ⊥) → IsTrue off)
  map_unit j past beyond at log low off is =
      off_as {P = v.block d (map_block_place v.meta.setup.geometry j) ≡ v.block (other_log d) (map_block_place v.meta.setup.geometry j)} {Q = IsUnitRight v d u} off
      (λ p. record {
        row = λ l clean. absurd (omega (arith, past, l, rows_is));
        stripe_of = λ t l here. absurd (omega (arith, past, beyond, l, here, rows_is, back_is));
        map_block = λ i low_disk l here.
            let same : j ≡ i = omega (arith, past, beyond, at, here, rows_is, back_is) in
            subst (λ (x : ℕ). v.block d (map_block_place v.meta.setup.geometry x) ≡ v.block (other_log d) (map_block_place v.meta.setup.geometry x)) same p;
      })
      (λ q. q.map_block j log (subst (λ (z : Meta). j < map_count z.setup.geometry) (sym e) low) (omega (arith, past, beyond, at, rows_is, back_is)))
      is

-- the units past the rows and the stripes are blocks of the map, on a log disk
pub map_units : (m : Meta) (d u : ℕ) → IsInRange m → m.out ≡ Fresh d (rebuilt_count m.out) → u < rebuilt_count m.out → m.setup.geometry.rows ≤ u → stripes_back m d ≤ u - m.setup.geometry.rows
    → (d < 2) × (u - m.setup.geometry.rows - stripes_back m d < map_count m.setup.geometry)
map_units m d u range is low past beyond = elim (cases_lt d 2) [
  | inl log ↦
      let t : nat_lt d 2 ≡ true = grind (arith, nat_tests) in
      let part : (if nat_lt d 2 then map_count m.setup.geometry else 0) ≡ map_count m.setup.geometry = rw t refl in
      let most = (fresh_range m d range is).1 in
      (log, omega (arith, most, low, past, beyond, part))
  | inr far ↦
      let t : nat_lt d 2 ≡ false = grind (arith, nat_tests) in
      let part : (if nat_lt d 2 then map_count m.setup.geometry else 0) ≡ 0 = rw t refl in
      let most = (fresh_range m d range is).1 in
      absurd (omega (arith, most, low, past, beyond, part))
]
