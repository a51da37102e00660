-- Tables with no volume, and with one volume less.
use Rattle.std.proofs.Common.{◌≡◌, ◌≢◌, ℕ, ◌+◌, ◌-◌, ◌*◌, ◌/◌, ◌%◌, ◌<◌, ◌≤◌, ◌∙◌, refl, sym, ap, arith, subst, inl, inr, slice_index, replicate, zero, suc}
use Rattle.std.specs.Prelude.{◌⊎◌, ◌==◌, ◌&&◌, nat_lt, if◌then◌else◌}
use Rattle.std.proofs.Math.Nat.{mul-div_cancel_left}
use Rattle.std.proofs.lemmas.Bool.{cases_eq}
use Rattle.std.proofs.lemmas.Bool.Decides.{nat_tests}
use Rattle.std.proofs.lemmas.Nat.{div_below}
use Rattle.paraid_base.specs.declared.block.Block.{Block}
use Rattle.paraid_base.specs.Xor.{zero_block}
use Rattle.paraid_base.specs.Sums.{sum_before}
use Rattle.paraid_base.proofs.PlacesLemmas.{sum_before_none}
use Rattle.paraid_volume.specs.Laid.{IsWithout}
use Rattle.paraid_volume.specs.Names.{IsField}
use Rattle.paraid_volume.specs.States.{IsPlace, ShowsVolumes, VolumeState, without_volume, no_volumes}
use Rattle.paraid_volume.specs.Tables.{IsLiveId, IsSameTable, IsVolumeTable, extent_count, extent_size, head_bytes, name_in, extents_owned, owner_in}
use Rattle.paraid_volume.proofs.ExtentLemmas.{extent_some, extents_few, field_same, same_name, same_owner, sum_before-same}

pub zeros_at : (n k : ℕ) → slice_index (replicate n 0) k ≡ 0
zeros_at zero k = refl
zeros_at (suc n) zero = refl
zeros_at (suc n) (suc k) = zeros_at n k

pub zero_byte : (k : ℕ) → slice_index zero_block.bytes k ≡ 0
unfolding zero_block
zero_byte k = zeros_at 512 k

pub field_zero : (f : ℕ → ℕ) → ((k : ℕ) → k < 16 → f k ≡ 0) → IsField f
field_zero f none k l =
    let z = none k l in record {
      letter = λ some. let no : ⊥ = omega (arith, z, some) in absurd no;
      follows = λ some past. let no : ⊥ = omega (arith, z, some) in absurd no;
    }

pub owned_first : (o : ℕ → ℕ) (id : ℕ) → extents_owned o id 0 ≡ 0
owned_first o id = sum_before_none (λ e. if o e == id then 1 else 0)

pub owned_more : (o : ℕ → ℕ) (id n : ℕ) → extents_owned o id (suc n) ≡ extents_owned o id n + (if o n == id then 1 else 0)
unfolding sum_before
owned_more o id n = refl

pub one_if : (a b : ℕ) → a ≡ b → ◌≡◌ {A = ℕ} (if a == b then 1 else 0) 1
one_if a b e = grind (arith, nat_tests)

pub zero_if : (a b : ℕ) → (a ≡ b → ⊥) → ◌≡◌ {A = ℕ} (if a == b then 1 else 0) 0
zero_if a b not = grind (arith, nat_tests)

pub owned_none : (o : ℕ → ℕ) (id n : ℕ) → ((e : ℕ) → e < n → o e ≢ id) → extents_owned o id n ≡ 0
owned_none o id zero none = owned_first o id
owned_none o id (suc n) none =
    let before = owned_none o id n (λ e l. none e (omega (arith, l))) in
    let step = owned_more o id n in
    let here = zero_if (o n) id (none n (omega arith)) in
    omega (arith, before, step, here)

pub owned_all : (o : ℕ → ℕ) (id n : ℕ) → ((e : ℕ) → e < n → o e ≡ id) → extents_owned o id n ≡ n
owned_all o id zero all = owned_first o id
owned_all o id (suc n) all =
    let before = owned_all o id n (λ e l. all e (omega (arith, l))) in
    let step = owned_more o id n in
    let here = one_if (o n) id (all n (omega arith)) in
    omega (arith, before, step, here)

-- a table of zeros but for its first block
module _ (count : ℕ) (a : ℕ → Block) (large : 7 ≤ count) (head : (a 0).bytes ≡ head_bytes (extent_size count) (extent_count count)) (rest : (k : ℕ) → 1 ≤ k → k < 6 → a k ≡ zero_block) where
  no_name : (id k : ℕ) → name_in a id k ≡ 0
  no_name id k = ap (λ (x : Block). slice_index x.bytes (16 * (id - 1) + k)) (rest 1 (omega arith) (omega arith)) ∙ zero_byte (16 * (id - 1) + k)

  no_owner : (e : ℕ) → e < 2048 → owner_in a e ≡ 0
  no_owner e l =
      let low : e / 512 < 4 = div_below e 512 4 (omega arith) (omega (arith, l)) in
      ap (λ (x : Block). slice_index x.bytes (e % 512)) (rest (2 + e / 512) (omega arith) (omega (arith, low))) ∙ zero_byte (e % 512)

  not_live : (id : ℕ) → IsLiveId a id → ⊥
  not_live id live = let z = no_name id 0 in let some = live.named in omega (arith, z, some)

  few : extent_count count ≤ 2048
  few = extents_few count large

  pub empty_table : IsVolumeTable count a
  empty_table = record {
    head = head;
    names = record {
      fields = λ id low high. field_zero (name_in a id) (λ k l. no_name id k);
      rest = λ k low high. ap (λ (x : Block). slice_index x.bytes k) (rest 1 (omega arith) (omega arith)) ∙ zero_byte k;
      distinct = λ j i l first second same. not_live i first;
    };
    owners = record {
      live = λ e l some. absurd (some (no_owner e (let f = few in omega (arith, f, l))));
      rest = λ e low high. no_owner e high;
      some = λ id live. absurd (not_live id live);
    };
  }

  pub shows_nothing : ShowsVolumes count a (no_volumes count)
  shows_nothing = record {
    table = empty_table;
    name = λ id k low high l. sym (no_name id k);
    size = λ id low high.
        let none = owned_none (owner_in a) id (extent_count count) (λ e l is. let z = no_owner e (let f = few in omega (arith, f, l)) in let no : ⊥ = omega (arith, z, is, low) in absurd no) in
        sym (ap (λ (n : ℕ). extent_size count * n) none ∙ (omega arith));
    block = λ id v place is. absurd (not_live id is.live);
    free = sym (owned_all (owner_in a) 0 (extent_count count) (λ e l. no_owner e (let f = few in omega (arith, f, l))));
  }

chosen : (i id n : ℕ) → i ≡ id → ◌≡◌ {A = ℕ} (if i == id then 0 else n) 0
chosen i id n e = grind (arith, nat_tests)

passed : (i id n : ℕ) → (i ≡ id → ⊥) → ◌≡◌ {A = ℕ} (if i == id then 0 else n) n
passed i id n not = grind (arith, nat_tests)

-- owners without one
module _ (o p : ℕ → ℕ) (id : ℕ) (some : 1 ≤ id) where
  owned_other : (i n : ℕ) → 1 ≤ i → i ≢ id → ((e : ℕ) → e < n → p e ≡ (if o e == id then 0 else o e)) → extents_owned p i n ≡ extents_owned o i n
  owned_other i n low not is = sum_before-same (λ e. if p e == i then 1 else 0) (λ e. if o e == i then 1 else 0) n (λ e l. ap (λ (x : ℕ). if x == i then 1 else 0) (is e l) ∙ step (o e))
    where
      step : (x : ℕ) → ◌≡◌ {A = ℕ} (if (if x == id then 0 else x) == i then 1 else 0) (if x == i then 1 else 0)
      step x = elim (cases_eq x id) [
        | inl e ↦ grind (arith, nat_tests)
        | inr e ↦ grind (arith, nat_tests)
      ]

  owned_freed : (n : ℕ) → ((e : ℕ) → e < n → p e ≡ (if o e == id then 0 else o e)) → extents_owned p 0 n ≡ extents_owned o 0 n + extents_owned o id n
  owned_freed zero is = let a = owned_first p 0 in let b = owned_first o 0 in let c = owned_first o id in omega (arith, a, b, c)
  owned_freed (suc n) is =
      let before = owned_freed n (λ e l. is e (omega (arith, l))) in
      let a = owned_more p 0 n in
      let b = owned_more o 0 n in
      let c = owned_more o id n in
      let d : ◌≡◌ {A = ℕ} (if p n == 0 then 1 else 0) ((if o n == 0 then 1 else 0) + (if o n == id then 1 else 0)) = ap (λ (x : ℕ). if x == 0 then 1 else 0) (is n (omega arith)) ∙ step (o n) in
      omega (arith, before, a, b, c, d)
    where
      step : (x : ℕ) → ◌≡◌ {A = ℕ} (if (if x == id then 0 else x) == 0 then 1 else 0) ((if x == 0 then 1 else 0) + (if x == id then 1 else 0))
      step x = elim (cases_eq x id) [
        | inl e ↦ grind (arith, nat_tests)
        | inr e ↦ grind (arith, nat_tests)
      ]

-- a table without one of its volumes
module _ (count id : ℕ) (a b : ℕ → Block) (large : 7 ≤ count) (table : IsVolumeTable count a) (live : IsLiveId a id) (without : IsWithout id (extent_count count) a b) where
  few_extents : extent_count count ≤ 2048
  few_extents = extents_few count large

  owner_of : (e : ℕ) → e < extent_count count → owner_in b e ≡ (if owner_in a e == id then 0 else owner_in a e)
  owner_of e l = without.owners e (let f = few_extents in omega (arith, f, l)) ∙ grind (arith, nat_tests)

  is_other : (i : ℕ) → IsLiveId b i → i ≢ id
  is_other i there same = let z = without.name 0 (omega arith) in let some = subst (λ (n : ℕ). 0 < name_in b n 0) same there.named in omega (arith, z, some)

  live_back : (i : ℕ) → IsLiveId b i → IsLiveId a i
  live_back i there = record { low = there.low; high = there.high; named = subst (λ (n : ℕ). 0 < n) (without.names i 0 there.low (is_other i there) (omega arith)) there.named }

  live_forth : (i : ℕ) → i ≢ id → IsLiveId a i → IsLiveId b i
  live_forth i not here = record { low = here.low; high = here.high; named = subst (λ (n : ℕ). 0 < n) (sym (without.names i 0 here.low not (omega arith))) here.named }

  owned_same : (i n : ℕ) → 1 ≤ i → i ≢ id → n ≤ extent_count count → extents_owned (owner_in b) i n ≡ extents_owned (owner_in a) i n
  owned_same i n low not l = owned_other (owner_in a) (owner_in b) id live.low i n low not (λ e m. owner_of e (omega (arith, l, m)))

  pub without_table : IsVolumeTable count b
  without_table = record {
    head = ap (λ (x : Block). x.bytes) without.head ∙ table.head;
    names = record {
      fields = λ i low high. elim (cases_eq i id) [
        | inl e ↦ subst (λ (n : ℕ). IsField (name_in b n)) (sym e) (field_zero (name_in b id) without.name)
        | inr e ↦ field_same (name_in a i) (name_in b i) (λ k l. sym (without.names i k low e l)) (table.names.fields i low high)
      ];
      rest = λ k low high. without.rest k low ∙ table.names.rest k low high;
      distinct = λ j i l first second same.
          table.names.distinct j i l (live_back i first) (live_back j second)
          (λ k m. sym (without.names i k first.low (is_other i first) m) ∙ same k m ∙ without.names j k second.low (is_other j second) m);
    };
    owners = record {
      live = λ e l some. elim (cases_eq (owner_in a e) id) [
        | inl is ↦ absurd (some (owner_of e l ∙ grind (arith, nat_tests)))
        | inr is ↦
            let same : owner_in b e ≡ owner_in a e = owner_of e l ∙ grind (arith, nat_tests) in
            subst (λ (n : ℕ). IsLiveId b n) (sym same) (live_forth (owner_in a e) is (table.owners.live e l (λ z. some (same ∙ z))))
      ];
      rest = λ e low high. without.owners e high ∙ (let z = table.owners.rest e low high in grind (arith, nat_tests));
      some = λ i there. subst (λ (n : ℕ). 0 < n) (sym (owned_same i (extent_count count) there.low (is_other i there) (omega arith))) (table.owners.some i (live_back i there));
    };
  }

  place_back : (i v p : ℕ) → IsPlace count b i v p → IsPlace count a i v p
  place_back i v p is =
      let not = is_other i is.live in
      let low = is.live.low in
      let below = is.below in
      let owner = owner_of is.extent is.below in
      record {
        live = live_back i is.live;
        extent = is.extent;
        below = is.below;
        number = record {
          is = elim (cases_eq (owner_in a is.extent) id) [
            | inl e ↦ let z : owner_in b is.extent ≡ 0 = owner ∙ grind (arith, nat_tests) in let here = is.number.is in let no : ⊥ = omega (arith, z, here, low) in absurd no
            | inr e ↦ let same : owner_in b is.extent ≡ owner_in a is.extent = owner ∙ grind (arith, nat_tests) in sym same ∙ is.number.is
          ];
          number = sym (owned_same i is.extent low not (omega (arith, below))) ∙ is.number.number;
        };
        is = is.is;
      }

  owned_gone : extents_owned (owner_in b) id (extent_count count) ≡ 0
  owned_gone = owned_none (owner_in b) id (extent_count count) (λ e l is. gone e l is (owner_of e l) (cases_eq (owner_in a e) id))
    where
      gone : (e : ℕ) → e < extent_count count → owner_in b e ≡ id → owner_in b e ≡ (if owner_in a e == id then 0 else owner_in a e) → (owner_in a e ≡ id) ⊎ (owner_in a e ≡ id → ⊥) → ⊥
      gone e l is owner (inl same) = let z : owner_in b e ≡ 0 = owner ∙ grind (arith, nat_tests) in let low = live.low in omega (arith, z, is, low)
      gone e l is owner (inr not) = let z : owner_in b e ≡ owner_in a e = owner ∙ grind (arith, nat_tests) in not (sym z ∙ is)

  pub shows_without : ((k : ℕ) → 6 ≤ k → b k ≡ a k) → (s : VolumeState) → ShowsVolumes count a s → ShowsVolumes count b (without_volume (extent_size count) s id)
  shows_without rest s shows = record {
    table = without_table;
    name = λ i k low high l. elim (cases_eq i id) [
      | inl e ↦ chosen i id (s.name i k) e ∙ sym (without.name k l) ∙ ap (λ (n : ℕ). name_in b n k) (sym e)
      | inr e ↦ passed i id (s.name i k) e ∙ shows.name i k low high l ∙ sym (without.names i k low e l)
    ];
    size = λ i low high. elim (cases_eq i id) [
      | inl e ↦ chosen i id (s.size i) e ∙ sym (ap (λ (n : ℕ). extent_size count * extents_owned (owner_in b) n (extent_count count)) e ∙ ap (λ (n : ℕ). extent_size count * n) owned_gone ∙ (omega arith))
      | inr e ↦ passed i id (s.size i) e ∙ shows.size i low high ∙ ap (λ (n : ℕ). extent_size count * n) (sym (owned_same i (extent_count count) low e (omega arith)))
    ];
    block = λ i v p is. shows.block i v p (place_back i v p is) ∙ sym (rest p (let at = is.is in omega (arith, at)));
    free =
        let freed = owned_freed (owner_in a) (owner_in b) id live.low (extent_count count) owner_of in
        let size : s.size id / extent_size count ≡ extents_owned (owner_in a) id (extent_count count) =
        ap (λ (n : ℕ). n / extent_size count) (shows.size id live.low live.high) ∙ mul-div_cancel_left (extents_owned (owner_in a) id (extent_count count)) (extent_some count large) in
        let free = shows.free in
        omega (arith, freed, size, free);
  }

pub without_moved : (id n : ℕ) (old new a b : ℕ → Block) → IsSameTable old a → IsSameTable new b → IsWithout id n old new → IsWithout id n a b
without_moved id n old new a b f g w = record {
  head = sym (g 0 (omega arith)) ∙ w.head ∙ f 0 (omega arith);
  name = λ k l. sym (same_name new b g id k) ∙ w.name k l;
  names = λ i k low not l. sym (same_name new b g i k) ∙ w.names i k low not l ∙ same_name old a f i k;
  rest = λ k l. ap (λ (x : Block). slice_index x.bytes k) (sym (g 1 (omega arith))) ∙ w.rest k l ∙ ap (λ (x : Block). slice_index x.bytes k) (f 1 (omega arith));
  owners = λ e l. sym (same_owner new b g e l) ∙ w.owners e l ∙ ap (λ (x : ℕ). if nat_lt e n && x == id then 0 else x) (same_owner old a f e l);
}

-- a copy with another name
module _ (id : ℕ) (old copy named new : ℕ → Block) (low : 1 ≤ id) (copied : (k : ℕ) → k < 6 → copy k ≡ old k) (rest : (k : ℕ) → k ≢ 1 → named k ≡ copy k) (after : (k : ℕ) → k < 2 → new k ≡ named k) where
  pub head_kept : new 0 ≡ old 0
  head_kept = after 0 (omega arith) ∙ rest 0 (λ e. let no : ⊥ = omega (arith, e) in absurd no) ∙ copied 0 (omega arith)

  pub name_kept : (i k : ℕ) → name_in new i k ≡ name_in named i k
  name_kept i k = ap (λ (x : Block). slice_index x.bytes (16 * (i - 1) + k)) (after 1 (omega arith))

  pub names_kept : ((i k : ℕ) → 1 ≤ i → i ≢ id → k < 16 → name_in named i k ≡ name_in copy i k) → (i k : ℕ) → 1 ≤ i → i ≢ id → k < 16 → name_in new i k ≡ name_in old i k
  names_kept others i k some not l = name_kept i k ∙ others i k some not l ∙ ap (λ (x : Block). slice_index x.bytes (16 * (i - 1) + k)) (copied 1 (omega arith))

  pub end_kept : ((k : ℕ) → 496 ≤ k → slice_index (named 1).bytes k ≡ slice_index (copy 1).bytes k) → (k : ℕ) → 496 ≤ k → slice_index (new 1).bytes k ≡ slice_index (old 1).bytes k
  end_kept end k l = ap (λ (x : Block). slice_index x.bytes k) (after 1 (omega arith)) ∙ end k l ∙ ap (λ (x : Block). slice_index x.bytes k) (copied 1 (omega arith))

  pub owner_kept : (e : ℕ) → e < 2048 → owner_in named e ≡ owner_in old e
  owner_kept e l =
      let few : e / 512 < 4 = div_below e 512 4 (omega arith) (omega (arith, l)) in
      ap (λ (x : Block). slice_index x.bytes (e % 512)) (rest (2 + e / 512) (λ z. let no : ⊥ = omega (arith, z) in absurd no) ∙ copied (2 + e / 512) (omega (arith, few)))
