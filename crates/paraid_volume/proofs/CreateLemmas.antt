-- Tables with one volume more.
use Rattle.std.proofs.Common.{◌≡◌, ◌≢◌, ℕ, ◌+◌, ◌-◌, ◌*◌, ◌/◌, ◌%◌, ◌<◌, ◌≤◌, ◌∙◌, refl, sym, ap, arith, subst, inl, inr, slice_index, zero, suc}
use Rattle.std.specs.Prelude.{◌⊎◌, ◌==◌, ◌&&◌, nat_lt, if◌then◌else◌}
use Rattle.std.proofs.lemmas.Bool.{cases_eq, cases_lt}
use Rattle.std.proofs.lemmas.Bool.Decides.{nat_tests}
use Rattle.std.proofs.lemmas.Nat.{div-mul-add, mod_below}
use Rattle.paraid_base.specs.declared.block.Block.{Block}
use Rattle.paraid_base.specs.Xor.{zero_block}
use Rattle.paraid_volume.specs.declared.name.Name.{Name}
use Rattle.paraid_volume.specs.Device.{InExtent}
use Rattle.paraid_volume.specs.Laid.{IsWith}
use Rattle.paraid_volume.specs.NameValues.{IsNameOf}
use Rattle.paraid_volume.specs.Names.{IsField}
use Rattle.paraid_volume.specs.States.{IsPlace, ShowsVolumes, VolumeState, with_volume}
use Rattle.paraid_volume.specs.Tables.{IsLiveId, IsSameTable, IsVolumeTable, extent_count, extent_size, name_in, extents_owned, owner_in}
use Rattle.paraid_volume.proofs.ChangeLemmas.{one_if, owned_first, owned_more, zero_if}
use Rattle.paraid_volume.proofs.ExtentLemmas.{back, extent_some, extents_few, field_same, same_name, same_owned, same_owner, same_place, same_table, sum_before-same}

-- owners with one more
module _ (o p : ℕ → ℕ) (id n top : ℕ) (low : 1 ≤ id) (absent : (e : ℕ) → e < top → o e ≢ id)
    (is : (e : ℕ) → e < top → p e ≡ (if o e == 0 && nat_lt (extents_owned o 0 e) n then id else o e)) where
  given : (e : ℕ) → e < top → o e ≡ 0 → extents_owned o 0 e < n → p e ≡ id
  given e l z less = is e l ∙ grind (arith, nat_tests)

  left_free : (e : ℕ) → e < top → n ≤ extents_owned o 0 e → p e ≡ o e
  left_free e l past = is e l ∙ grind (arith, nat_tests)

  left_owned : (e : ℕ) → e < top → o e ≢ 0 → p e ≡ o e
  left_owned e l not = is e l ∙ grind (arith, nat_tests)

  pub owned_new : (m : ℕ) → m ≤ top → extents_owned p id m + (extents_owned o 0 m - n) ≡ extents_owned o 0 m
  owned_new zero l = let a = owned_first p id in let b = owned_first o 0 in omega (arith, a, b)
  owned_new (suc m) l =
      let below : m < top = omega (arith, l) in
      let before = owned_new m (omega (arith, l)) in
      let a = owned_more p id m in
      let b = owned_more o 0 m in
      elim (cases_eq (o m) 0) [
        | inl z ↦
            let d = one_if (o m) 0 z in
            elim (cases_lt (extents_owned o 0 m) n) [
              | inl less ↦ let c = one_if (p m) id (given m below z less) in omega (arith, before, a, b, c, d, less)
              | inr past ↦ let c = zero_if (p m) id (λ e. absent m below (sym (left_free m below past) ∙ e)) in omega (arith, before, a, b, c, d, past)
            ]
        | inr z ↦
            let d = zero_if (o m) 0 z in
            let c = zero_if (p m) id (λ e. absent m below (sym (left_owned m below z) ∙ e)) in
            omega (arith, before, a, b, c, d)
      ]

  pub owned_left : (m : ℕ) → m ≤ top → extents_owned p 0 m ≡ extents_owned o 0 m - n
  owned_left zero l = let a = owned_first p 0 in let b = owned_first o 0 in omega (arith, a, b)
  owned_left (suc m) l =
      let below : m < top = omega (arith, l) in
      let before = owned_left m (omega (arith, l)) in
      let a = owned_more p 0 m in
      let b = owned_more o 0 m in
      elim (cases_eq (o m) 0) [
        | inl z ↦
            let d = one_if (o m) 0 z in
            elim (cases_lt (extents_owned o 0 m) n) [
              | inl less ↦ let c = zero_if (p m) 0 (λ e. let g = given m below z less in omega (arith, e, g, low)) in omega (arith, before, a, b, c, d, less)
              | inr past ↦ let c = one_if (p m) 0 (left_free m below past ∙ z) in omega (arith, before, a, b, c, d, past)
            ]
        | inr z ↦
            let d = zero_if (o m) 0 z in
            let c = zero_if (p m) 0 (λ e. z (sym (left_owned m below z) ∙ e)) in
            omega (arith, before, a, b, c, d)
      ]

  -- an owner other than the new one had what it has
  pub was_other : (e i : ℕ) → e < top → i ≢ id → 1 ≤ i → p e ≡ i → o e ≡ i
  was_other e i l not some has = elim (cases_eq (o e) 0) [
    | inl z ↦ elim (cases_lt (extents_owned o 0 e) n) [
      | inl less ↦ absurd (not (sym has ∙ given e l z less))
      | inr past ↦ sym (left_free e l past) ∙ has
    ]
    | inr z ↦ sym (left_owned e l z) ∙ has
  ]

  pub keeps_owner : (e i : ℕ) → e < top → 1 ≤ i → o e ≡ i → p e ≡ i
  keeps_owner e i l some has = left_owned e l (λ z. let no : ⊥ = omega (arith, z, has, some) in no) ∙ has

  pub owned_others : (i m : ℕ) → m ≤ top → i ≢ id → 1 ≤ i → extents_owned p i m ≡ extents_owned o i m
  owned_others i m l not some = sum_before-same (λ e. if p e == i then 1 else 0) (λ e. if o e == i then 1 else 0) m (λ e below. step e (omega (arith, l, below)) (cases_eq (o e) i))
    where
      step : (e : ℕ) → e < top → (o e ≡ i) ⊎ (o e ≡ i → ⊥) → ◌≡◌ {A = ℕ} (if p e == i then 1 else 0) (if o e == i then 1 else 0)
      step e m (inl has) = one_if (p e) i (keeps_owner e i m some has) ∙ sym (one_if (o e) i has)
      step e m (inr has) = zero_if (p e) i (λ is. has (was_other e i m not some is)) ∙ sym (zero_if (o e) i has)

chosen : {A : Type 0} (i id : ℕ) (x y : A) → i ≡ id → (if i == id then x else y) ≡ x
chosen i id x y e = grind (arith, nat_tests)

passed : {A : Type 0} (i id : ℕ) (x y : A) → (i ≡ id → ⊥) → (if i == id then x else y) ≡ y
passed i id x y not = grind (arith, nat_tests)

module _ (count id n : ℕ) (text : Name) (a b : ℕ → Block) (large : 7 ≤ count) (table : IsVolumeTable count a) (low : 1 ≤ id) (high : id ≤ 31) (free : IsLiveId a id → ⊥)
    (some : 1 ≤ n) (room : n ≤ extents_owned (owner_in a) 0 (extent_count count)) (fresh : (i : ℕ) → IsLiveId a i → IsNameOf a i text → ⊥) (with : IsWith id text n (extent_count count) a b) where
  few : extent_count count ≤ 2048
  few = extents_few count large

  absent : (e : ℕ) → e < extent_count count → owner_in a e ≢ id
  absent e l is = free (subst (λ (i : ℕ). IsLiveId a i) is (table.owners.live e l (λ z. let no : ⊥ = omega (arith, z, is, low) in no)))

  owners : (e : ℕ) → e < extent_count count → owner_in b e ≡ (if owner_in a e == 0 && nat_lt (extents_owned (owner_in a) 0 e) n then id else owner_in a e)
  owners e l = with.owners e (let f = few in omega (arith, f, l)) ∙ grind (arith, nat_tests)

  live_new : IsLiveId b id
  live_new = record { low = low; high = high; named = subst (λ (x : ℕ). 0 < x) (with.name 0 (omega arith)) text.some }

  live_forth : (i : ℕ) → IsLiveId a i → IsLiveId b i
  live_forth i here = elim (cases_eq i id) [
    | inl e ↦ subst (λ (x : ℕ). IsLiveId b x) (sym e) live_new
    | inr e ↦ record { low = here.low; high = here.high; named = subst (λ (x : ℕ). 0 < x) (sym (with.names i 0 here.low e (omega arith))) here.named }
  ]

  live_back : (i : ℕ) → i ≢ id → IsLiveId b i → IsLiveId a i
  live_back i not there = record { low = there.low; high = there.high; named = subst (λ (x : ℕ). 0 < x) (with.names i 0 there.low not (omega arith)) there.named }

  owned_id : extents_owned (owner_in b) id (extent_count count) ≡ n
  owned_id = let it = owned_new (owner_in a) (owner_in b) id n (extent_count count) low absent owners (extent_count count) (omega arith) in omega (arith, it, room)

  owned_same : (i m : ℕ) → m ≤ extent_count count → i ≢ id → 1 ≤ i → extents_owned (owner_in b) i m ≡ extents_owned (owner_in a) i m
  owned_same = owned_others (owner_in a) (owner_in b) id n (extent_count count) low absent owners

  named_apart : (i : ℕ) → i ≢ id → IsLiveId b i → ((k : ℕ) → k < 16 → name_in b i k ≡ name_in b id k) → ⊥
  named_apart i not there same = fresh i (live_back i not there) (λ k l. with.name k l ∙ sym (same k l) ∙ with.names i k there.low not l)

  pub with_table : IsVolumeTable count b
  with_table = record {
    head = ap (λ (x : Block). x.bytes) with.head ∙ table.head;
    names = record {
      fields = λ i first last. elim (cases_eq i id) [
        | inl e ↦ subst (λ (x : ℕ). IsField (name_in b x)) (sym e) (field_same (slice_index text.text) (name_in b id) with.name text.field)
        | inr e ↦ field_same (name_in a i) (name_in b i) (λ k l. sym (with.names i k first e l)) (table.names.fields i first last)
      ];
      rest = λ k first last. with.rest k first ∙ table.names.rest k first last;
      distinct = λ j i l first second same. elim (cases_eq j id) [
        | inl e ↦
            named_apart i (λ z. let no : ⊥ = omega (arith, z, e, l) in no) first (λ k m. same k m ∙ ap (λ (x : ℕ). name_in b x k) e)
        | inr e ↦ elim (cases_eq i id) [
          | inl f ↦ named_apart j e second (λ k m. sym (same k m) ∙ ap (λ (x : ℕ). name_in b x k) f)
          | inr f ↦
              table.names.distinct j i l (live_back i f first) (live_back j e second)
              (λ k m. sym (with.names i k first.low f m) ∙ same k m ∙ with.names j k second.low e m)
        ]
      ];
    };
    owners = record {
      live = λ e l has. elim (cases_eq (owner_in b e) id) [
        | inl is ↦ subst (λ (x : ℕ). IsLiveId b x) (sym is) live_new
        | inr not ↦
            let one : 1 ≤ owner_in b e = (elim (cases_eq (owner_in b e) 0) [ inl z ↦ absurd (has z) | inr z ↦ omega (arith, z) ]) in
            let was = was_other (owner_in a) (owner_in b) id n (extent_count count) low absent owners e (owner_in b e) l not one refl in
            subst (λ (x : ℕ). IsLiveId b x) was (live_forth (owner_in a e) (table.owners.live e l (λ z. let no : ⊥ = omega (arith, z, was, one) in no)))
      ];
      rest = λ e first last. with.owners e last ∙ (let z = table.owners.rest e first last in grind (arith, nat_tests));
      some = λ i there. elim (cases_eq i id) [
        | inl e ↦ subst (λ (x : ℕ). 0 < extents_owned (owner_in b) x (extent_count count)) (sym e) (let it = owned_id in omega (arith, it, some))
        | inr e ↦ subst (λ (x : ℕ). 0 < x) (sym (owned_same i (extent_count count) (omega arith) e there.low)) (table.owners.some i (live_back i e there))
      ];
    };
  }

  -- a block of an extent of the new volume is a block of no other volume
  apart : (i v p : ℕ) → IsPlace count a i v p → InExtent (owner_in b) id (extent_size count) (extent_count count) p → ⊥
  apart i v p at inside =
      let x_some = extent_some count large in
      let is = at.is in
      let lowest = inside.of.1.0 in
      let highest = inside.of.1.1 in
      let r : p - (6 + inside.extent * extent_size count) < extent_size count = omega (arith, lowest, highest) in
      let sum : at.extent * extent_size count + v % extent_size count ≡ inside.extent * extent_size count + (p - (6 + inside.extent * extent_size count)) = omega (arith, is, lowest) in
      let same : at.extent ≡ inside.extent =
      sym (div-mul-add at.extent (extent_size count) (v % extent_size count) (mod_below v (extent_size count) x_some)) ∙ ap (λ (y : ℕ). y / extent_size count) sum
      ∙ div-mul-add inside.extent (extent_size count) (p - (6 + inside.extent * extent_size count)) r in
      let owner = keeps_owner (owner_in a) (owner_in b) id n (extent_count count) low absent owners at.extent i at.below at.live.low at.number.is in
      let mine : i ≡ id = sym owner ∙ ap (owner_in b) same ∙ inside.of.0 in
      free (subst (λ (y : ℕ). IsLiveId a y) mine at.live)

  table_apart : (k : ℕ) → k < 6 → InExtent (owner_in b) id (extent_size count) (extent_count count) k → ⊥
  table_apart k l inside = let lowest = inside.of.1.0 in omega (arith, l, lowest)

  -- while the new extents change, what is there is the same
  pub shows_still : (c : ℕ → Block) → ((p : ℕ) → (InExtent (owner_in b) id (extent_size count) (extent_count count) p → ⊥) → c p ≡ a p) → (s : VolumeState) → ShowsVolumes count a s → ShowsVolumes count c s
  shows_still c still s shows =
      let same : IsSameTable a c = λ k l. sym (still k (table_apart k l)) in
      record {
        table = same_table a c same count large table;
        name = λ i k first last l. shows.name i k first last l ∙ same_name a c same i k;
        size = λ i first last. shows.size i first last ∙ ap (λ (y : ℕ). extent_size count * y) (same_owned a c same i (extent_count count) few);
        block = λ i v p at.
            let was = same_place c a (back a c same) count i v p large at in
            shows.block i v p was ∙ sym (still p (apart i v p was));
        free = shows.free ∙ same_owned a c same 0 (extent_count count) few;
      }

  place_back : (i v p : ℕ) → i ≢ id → IsPlace count b i v p → IsPlace count a i v p
  place_back i v p not at =
      let below = at.below in
      record {
        live = live_back i not at.live;
        extent = at.extent;
        below = at.below;
        number = record {
          is = was_other (owner_in a) (owner_in b) id n (extent_count count) low absent owners at.extent i at.below not at.live.low at.number.is;
          number = sym (owned_same i at.extent (omega (arith, below)) not at.live.low) ∙ at.number.number;
        };
        is = at.is;
      }

  place_new : (v p : ℕ) → IsPlace count b id v p → InExtent (owner_in b) id (extent_size count) (extent_count count) p
  place_new v p at =
      let is = at.is in
      let r = mod_below v (extent_size count) (extent_some count large) in record {
        extent = at.extent;
        below = at.below;
        of = (at.number.is, (omega (arith, is), omega (arith, is, r)));
      }

  pub shows_new : ((p : ℕ) → 6 ≤ p → (InExtent (owner_in b) id (extent_size count) (extent_count count) p → ⊥) → b p ≡ a p)
      → ((p : ℕ) → 6 ≤ p → InExtent (owner_in b) id (extent_size count) (extent_count count) p → b p ≡ zero_block)
      → (s : VolumeState) → ShowsVolumes count a s → ShowsVolumes count b (with_volume (extent_size count) s id (slice_index text.text) n)
  shows_new rest zeros s shows = record {
    table = with_table;
    name = λ i k first last l. elim (cases_eq i id) [
      | inl e ↦ chosen i id (slice_index text.text k) (s.name i k) e ∙ with.name k l ∙ ap (λ (y : ℕ). name_in b y k) (sym e)
      | inr e ↦ passed i id (slice_index text.text k) (s.name i k) e ∙ shows.name i k first last l ∙ sym (with.names i k first e l)
    ];
    size = λ i first last. elim (cases_eq i id) [
      | inl e ↦ chosen i id (extent_size count * n) (s.size i) e ∙ ap (λ (y : ℕ). extent_size count * y) (sym owned_id) ∙ ap (λ (y : ℕ). extent_size count * extents_owned (owner_in b) y (extent_count count)) (sym e)
      | inr e ↦ passed i id (extent_size count * n) (s.size i) e ∙ shows.size i first last ∙ ap (λ (y : ℕ). extent_size count * y) (sym (owned_same i (extent_count count) (omega arith) e first))
    ];
    block = λ i v p at. elim (cases_eq i id) [
      | inl e ↦
          let mine : IsPlace count b id v p = subst (λ (y : ℕ). IsPlace count b y v p) e at in
          chosen i id zero_block (s.block i v) e ∙ sym (zeros p (let is = at.is in omega (arith, is)) (place_new v p mine))
      | inr e ↦
          let was = place_back i v p e at in
          passed i id zero_block (s.block i v) e ∙ shows.block i v p was ∙ sym (rest p (let is = at.is in omega (arith, is)) (apart i v p was))
    ];
    free = ap (λ (y : ℕ). y - n) shows.free ∙ sym (owned_left (owner_in a) (owner_in b) id n (extent_count count) low absent owners (extent_count count) (omega arith));
  }

pub with_moved : (id n top : ℕ) (text : Name) (old new a b : ℕ → Block) → IsSameTable old a → IsSameTable new b → IsWith id text n top old new → IsWith id text n top a b
with_moved id n top text old new a b f g w = record {
  head = sym (g 0 (omega arith)) ∙ w.head ∙ f 0 (omega arith);
  name = λ k l. w.name k l ∙ same_name new b g id k;
  names = λ i k low not l. sym (same_name new b g i k) ∙ w.names i k low not l ∙ same_name old a f i k;
  rest = λ k l. ap (λ (x : Block). slice_index x.bytes k) (sym (g 1 (omega arith))) ∙ w.rest k l ∙ ap (λ (x : Block). slice_index x.bytes k) (f 1 (omega arith));
  owners = λ e l.
      sym (same_owner new b g e l) ∙ w.owners e l
      ∙ ap (λ (x : ℕ). if nat_lt e top && (x == 0 && nat_lt (extents_owned (owner_in old) 0 e) n) then id else x) (same_owner old a f e l)
      ∙ ap (λ (x : ℕ). if nat_lt e top && (owner_in a e == 0 && nat_lt x n) then id else owner_in a e) (same_owned old a f 0 e (omega (arith, l)));
}

pub inside_moved : (o p : ℕ → ℕ) (id x y n m b : ℕ) → x ≡ y → n ≡ m → ((e : ℕ) → e < n → o e ≡ p e) → InExtent o id x n b → InExtent p id y m b
inside_moved o p id x y n m b size count same inside =
    subst (λ (z : ℕ). InExtent p id z m b) size (subst (λ (z : ℕ). InExtent p id x z b) count (record {
      extent = inside.extent;
      below = inside.below;
      of = (sym (same inside.extent inside.below) ∙ inside.of.0, inside.of.1);
    }))
