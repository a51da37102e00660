-- Extents and tables.
use Rattle.std.proofs.Common.{◌≡◌, ℕ, ◌+◌, ◌-◌, ◌*◌, ◌/◌, ◌%◌, ◌<◌, ◌≤◌, ◌∙◌, refl, sym, ap, arith, subst, slice_index, zero, suc}
use Rattle.std.specs.Prelude.{◌==◌, if◌then◌else◌, true}
use Rattle.std.proofs.Math.Nat.{div-le_of_le-mul, mul-div-le}
use Rattle.std.proofs.lemmas.Nat.{mod_below, mul-add-lt, div_below}
use Rattle.paraid_base.specs.declared.block.Block.{Block}
use Rattle.paraid_base.specs.Sums.{sum_before}
use Rattle.paraid_volume.specs.Names.{IsField, is_letter}
use Rattle.paraid_volume.specs.States.{IsPlace}
use Rattle.paraid_volume.specs.Tables.{IsExtent, IsLiveId, IsSameTable, IsVolumeTable, extent_count, extent_size, name_in, extents_owned, owner_in}

pub extent_some : (count : ℕ) → 7 ≤ count → 0 < extent_size count
extent_some count l = omega (arith, l)

pub extents_few : (count : ℕ) → 7 ≤ count → extent_count count ≤ 2048
extents_few count l = div-le_of_le-mul (extent_size count) {m = count - 6} {n = 2048} (omega (arith, l))

pub place_fits : (count e v : ℕ) → 7 ≤ count → e < extent_count count → 6 + e * extent_size count + v % extent_size count < count
place_fits count e v l below =
    let x = extent_size count in
    let some : 0 < extent_size count = extent_some count l in
    let within = mul-add-lt e (extent_size count) (v % extent_size count) (extent_count count) below (mod_below v (extent_size count) some) in
    let all = mul-div-le (count - 6) (extent_size count) in
    omega (arith, within, all, l)

pub sum_before-same : (f g : ℕ → ℕ) (n : ℕ) → ((k : ℕ) → k < n → f k ≡ g k) → sum_before f n ≡ sum_before g n
unfolding sum_before
sum_before-same f g zero same = refl
sum_before-same f g (suc n) same =
    let before = sum_before-same f g n (λ k l. same k (omega (arith, l))) in
    let here = same n (omega arith) in
    omega (arith, before, here)

pub field_same : (f g : ℕ → ℕ) → ((k : ℕ) → k < 16 → f k ≡ g k) → IsField f → IsField g
field_same f g same field k l =
    let is = field k l in record {
      letter = λ some. subst (λ (n : ℕ). is_letter n ≡ true) (same k l) (is.letter (subst (λ (n : ℕ). 0 < n) (sym (same k l)) some));
      follows = λ some past. subst (λ (n : ℕ). 0 < n) (same (k - 1) (omega (arith, l))) (is.follows (subst (λ (n : ℕ). 0 < n) (sym (same k l)) some) past);
    }

-- contents whose first six blocks are the same
module _ (a b : ℕ → Block) (same : IsSameTable a b) where
  pub same_name : (id k : ℕ) → name_in a id k ≡ name_in b id k
  same_name id k = ap (λ (x : Block). slice_index x.bytes (16 * (id - 1) + k)) (same 1 (omega arith))

  pub same_owner : (e : ℕ) → e < 2048 → owner_in a e ≡ owner_in b e
  same_owner e l =
      let low : e / 512 < 4 = div_below e 512 4 (omega arith) (omega (arith, l)) in
      ap (λ (x : Block). slice_index x.bytes (e % 512)) (same (2 + e / 512) (omega (arith, low)))

  pub same_owned : (id n : ℕ) → n ≤ 2048 → extents_owned (owner_in a) id n ≡ extents_owned (owner_in b) id n
  same_owned id n l =
      sum_before-same (λ e. if owner_in a e == id then 1 else 0) (λ e. if owner_in b e == id then 1 else 0) n
      (λ k below. ap (λ (o : ℕ). if o == id then 1 else 0) (same_owner k (omega (arith, below, l))))

  pub same_live : (id : ℕ) → IsLiveId a id → IsLiveId b id
  same_live id live = record { low = live.low; high = live.high; named = subst (λ (n : ℕ). 0 < n) (same_name id 0) live.named }

  pub same_extent : (id k e : ℕ) → e < 2048 → IsExtent (owner_in a) id k e → IsExtent (owner_in b) id k e
  same_extent id k e l is = record { is = sym (same_owner e l) ∙ is.is; number = sym (same_owned id e (let h = l in omega (arith, h))) ∙ is.number }

  pub same_place : (count id v place : ℕ) → 7 ≤ count → IsPlace count a id v place → IsPlace count b id v place
  same_place count id v place large is =
      let few = extents_few count large in
      let below = is.below in record {
        live = same_live id is.live;
        extent = is.extent;
        below = is.below;
        number = same_extent id (v / extent_size count) is.extent (omega (arith, few, below)) is.number;
        is = is.is;
      }

  pub same_field : (id : ℕ) → IsField (name_in a id) → IsField (name_in b id)
  same_field id = field_same (name_in a id) (name_in b id) (λ k l. same_name id k)

module _ (a b : ℕ → Block) (same : IsSameTable a b) where
  pub back : IsSameTable b a
  back k l = sym (same k l)

  pub same_table : (count : ℕ) → 7 ≤ count → IsVolumeTable count a → IsVolumeTable count b
  same_table count large t =
      let few = extents_few count large in record {
        head = ap (λ (x : Block). x.bytes) (back 0 (omega arith)) ∙ t.head;
        names = record {
          fields = λ id low high. same_field a b same id (t.names.fields id low high);
          rest = λ k low high. ap (λ (x : Block). slice_index x.bytes k) (back 1 (omega arith)) ∙ t.names.rest k low high;
          distinct = λ j i l first second named.
              t.names.distinct j i l (same_live b a back i first) (same_live b a back j second)
              (λ k below. same_name a b same i k ∙ named k below ∙ sym (same_name a b same j k));
        };
        owners = record {
          live = λ e below some.
              let small : e < 2048 = omega (arith, few, below) in
              let is = same_owner a b same e small in
              subst (λ (o : ℕ). IsLiveId b o) is (same_live a b same (owner_in a e) (t.owners.live e below (λ none. some (sym is ∙ none))));
          rest = λ e low high. sym (same_owner a b same e high) ∙ t.owners.rest e low high;
          some = λ id live. subst (λ (n : ℕ). 0 < n) (same_owned a b same id (extent_count count) few) (t.owners.some id (same_live b a back id live));
        };
      }
