-- What each call keeps of the rack above.
use Rattle.std.proofs.Common.{◌≡◌, ◌≢◌, inl, inr, ℕ, Bool, true, false, if◌then◌else◌, ◌==◌, List, Option, Some, None, refl, sym, ◌∙◌, ap, subst, arith}
use Rattle.std.proofs.lemmas.Bool.{cases_eq, false≢true, true≢false}
use Rattle.std.proofs.lemmas.Bool.Decides.{nat_tests}
use Rattle.paraid_base.specs.declared.block.Block.{Block}
use Rattle.paraid_base.specs.Xor.{zero_block}
use Rattle.paraid_rack.specs.declared.call.Power.{Power}
use Rattle.paraid_rack.specs.declared.call.Power.TheVariants.{Spinning, Absent}
use Rattle.paraid_rack.specs.declared.call.Call.TheVariants.{Read, Write, Sync, Park, SpinUp, Attach}
use Rattle.paraid_rack.specs.Disks.{Disks, IsPresent, IsImage, is_present, with_at, power_after, size_after, step}
use Rattle.paraid_rack.proofs.AtomsLemmas.{with_at_same, with_at_other, at_case, at_use}
use Rattle.paraid_gather.specs.Waiting.{Waiting, waiting}
use Rattle.paraid_gather.specs.Above.{IsAbove}

-- what a stop leaves of the disks below is an image of the rack above
pub above_image : (b : Disks) (w : ℕ → Waiting) (s i : Disks) → IsAbove b w s → IsImage b i → IsImage s i
above_image b w s i above image = record {
  power = λ d. image.power d ∙ sym (above.power d);
  size = λ d. image.size d ∙ sym (above.size d);
  block = λ d p is. image.block d p (above.sure d p is) ∙ sym (above.kept d p is);
  loose = image.loose;
}

pub both_at : {A : Type 0} (f g : ℕ → A) (k : ℕ) (u v : A) → ((j : ℕ) → f j ≡ g j) → u ≡ v → (j : ℕ) → with_at f k u j ≡ with_at g k v j
both_at f g k u v same is j = at_case (λ x. x ≡ with_at g k v j) f k u j (λ here. is ∙ sym (with_at_same g k v j here)) (λ not. same j ∙ sym (with_at_other g k v j not))

pub same_at : {A : Type 0} (f : ℕ → A) (k j : ℕ) → with_at f k (f k) j ≡ f j
same_at f k j = at_case (λ x. x ≡ f j) f k (f k) j (λ here. ap f (sym here)) (λ not. refl)

-- a disk was there before a call on one that was
was_there : (s : Disks) (d : ℕ) (q : Power) (e : ℕ) → IsPresent s d → is_present (with_at s.power d q e) ≡ true → IsPresent s e
was_there s d q e there h = at_use (λ (p : Power). is_present p ≡ true) (IsPresent s e) s.power d q e
    (λ is now. subst (λ (k : ℕ). IsPresent s k) (sym is) there) (λ not now. now) h

pub some_none : {A : Type 0} {x : A} {o : Option A} → o ≡ Some x → o ≡ None → ⊥
some_none {A} {x} a b = (let e : Some x ≡ None = sym a ∙ b in cc)

-- where nothing waits, the rack above is the one below
pub above_start : (b : Disks) (w : ℕ → Waiting) → ((d p : ℕ) → waiting (w d) p ≡ None) → IsAbove b w b
above_start b w none = record {
  power = λ d. refl;
  size = λ d. refl;
  sure = λ d p is. is;
  kept = λ d p is. refl;
  bytes = λ d p x here is. absurd (some_none is (none d p));
  loose = λ d p x here is. absurd (some_none is (none d p));
  rests = λ d p here is. refl;
}

module _ (b : Disks) (w : ℕ → Waiting) (s : Disks) (above : IsAbove b w s) (d : ℕ) where
  pub present_above : IsPresent b d → IsPresent s d
  present_above here = ap is_present (above.power d) ∙ here

  -- only the power and the size of a disk that was there change
  module _ (there : IsPresent s d) where
    powers_above : (q q' : Power) (n n' : ℕ) → q' ≡ q → n' ≡ n
        → IsAbove (record b { power = with_at b.power d q; size = with_at b.size d n }) w (record s { power = with_at s.power d q'; size = with_at s.size d n' })
    powers_above q q' n n' power size = record {
      power = both_at s.power b.power d q' q above.power power;
      size = both_at s.size b.size d n' n above.size size;
      sure = above.sure;
      kept = above.kept;
      bytes = λ e p x here is. above.bytes e p x (was_there s d q' e there here) is;
      loose = λ e p x here is. above.loose e p x (was_there s d q' e there here) is;
      rests = λ e p here is. above.rests e p (was_there s d q' e there here) is;
    }

    pub read_above : (p : ℕ) (done : Bool) → IsAbove (step (Read d p done) b) w (step (Read d p done) s)
    unfolding step
    read_above p done = powers_above _ _ _ _ (ap (power_after done) (above.power d)) (ap (size_after done) (above.size d))

    pub park_above : (done : Bool) → IsAbove (step (Park d done) b) w (step (Park d done) s)
    unfolding step
    park_above done = powers_above _ _ _ _ refl (ap (size_after done) (above.size d))

    pub spin_up_above : (done : Bool) → IsAbove (step (SpinUp d done) b) w (step (SpinUp d done) s)
    unfolding step
    spin_up_above done = powers_above _ _ _ _ refl (ap (size_after done) (above.size d))

    -- a block that waits is read without a call
    pub read_here : (p : ℕ) → IsAbove b w (step (Read d p true) s)
    unfolding step
    read_here p = record {
      power = λ e. same_at s.power d e ∙ above.power e;
      size = λ e. same_at s.size d e ∙ above.size e;
      sure = above.sure;
      kept = above.kept;
      bytes = λ e p x here is. above.bytes e p x (was_there s d (s.power d) e there here) is;
      loose = λ e p x here is. above.loose e p x (was_there s d (s.power d) e there here) is;
      rests = λ e p here is. above.rests e p (was_there s d (s.power d) e there here) is;
    }

    -- nothing waits for a disk that is synced
    pub sync_above : (done : Bool) → ((p : ℕ) → waiting (w d) p ≡ None) → IsAbove (step (Sync d done) b) w (step (Sync d done) s)
    unfolding step
    sync_above true none = record {
      power = both_at s.power b.power d (s.power d) (b.power d) above.power (above.power d);
      size = both_at s.size b.size d (s.size d) (b.size d) above.size (above.size d);
      sure = λ e p is. at_case (λ (f : ℕ → Bool). f p ≡ false) b.loose d (λ _. false) e (λ here. refl)
          (λ not. above.sure e p (sym (ap (λ (f : ℕ → Bool). f p) (with_at_other s.loose d (λ _. false) e not)) ∙ is));
      kept = λ e p is. elim (cases_eq e d) [
        | inl here ↦ subst (λ (k : ℕ). s.block k p ≡ b.block k p) (sym here) (above.rests d p there (none p))
        | inr not ↦ above.kept e p (sym (ap (λ (f : ℕ → Bool). f p) (with_at_other s.loose d (λ _. false) e not)) ∙ is)
      ];
      bytes = λ e p x here is. above.bytes e p x (was_there s d (s.power d) e there here) is;
      loose = λ e p x here is. elim (cases_eq e d) [
        | inl at ↦ absurd (some_none is (ap (λ (k : ℕ). waiting (w k) p) at ∙ none p))
        | inr not ↦ ap (λ (f : ℕ → Bool). f p) (with_at_other s.loose d (λ _. false) e not) ∙ above.loose e p x (was_there s d (s.power d) e there here) is
      ];
      rests = λ e p here is. above.rests e p (was_there s d (s.power d) e there here) is;
    }
    sync_above false none = record {
      power = both_at s.power b.power d Absent Absent above.power refl;
      size = both_at s.size b.size d 0 0 above.size refl;
      sure = λ e p is. ap (λ (f : ℕ → Bool). f p) (same_at b.loose d e) ∙ above.sure e p (sym (ap (λ (f : ℕ → Bool). f p) (same_at s.loose d e)) ∙ is);
      kept = λ e p is. above.kept e p (sym (ap (λ (f : ℕ → Bool). f p) (same_at s.loose d e)) ∙ is);
      bytes = λ e p x here is. above.bytes e p x (was_there s d Absent e there here) is;
      loose = λ e p x here is. ap (λ (f : ℕ → Bool). f p) (same_at s.loose d e) ∙ above.loose e p x (was_there s d Absent e there here) is;
      rests = λ e p here is. above.rests e p (was_there s d Absent e there here) is;
    }

-- what waits for disk d has changed, and for no other
module _ (b : Disks) (w w' : ℕ → Waiting) (s : Disks) (d : ℕ) (others : (e : ℕ) → e ≢ d → w' e ≡ w e) where
  was_waiting : (e p : ℕ) (o : Option (List ℕ)) → e ≢ d → waiting (w' e) p ≡ o → waiting (w e) p ≡ o
  was_waiting e p o not is = ap (λ (v : Waiting). waiting v p) (sym (others e not)) ∙ is

  -- a block waits from now on
  pub write_above : (q : ℕ) (x : Block) → IsAbove b w s → IsPresent s d
      → ((p : ℕ) → waiting (w' d) p ≡ (if p == q then Some x.bytes else waiting (w d) p)) → IsAbove b w' (step (Write d q x true) s)
  unfolding step
  write_above q x above there put = record {
    power = λ e. same_at s.power d e ∙ above.power e;
    size = λ e. same_at s.size d e ∙ above.size e;
    sure = λ e p is. above.sure e p (loose_before e p is);
    kept = λ e p is. block_before e p is ∙ above.kept e p (loose_before e p is);
    bytes = λ e p y here is. elim (cases_eq e d) [
      | inl at ↦ elim (cases_eq p q) [
        | inl same ↦ ap (λ (f : ℕ → Block). (f p).bytes) (with_at_same s.block d _ e at) ∙ ap (λ (k : Block). k.bytes) (with_at_same (s.block d) q x p same) ∙ new_bytes e p y at same is
        | inr other ↦ ap (λ (f : ℕ → Block). (f p).bytes) (with_at_same s.block d _ e at) ∙ ap (λ (k : Block). k.bytes) (with_at_other (s.block d) q x p other)
            ∙ above.bytes d p y there (old_bytes e p (Some y) at other is)
      ]
      | inr not ↦ ap (λ (f : ℕ → Block). (f p).bytes) (with_at_other s.block d _ e not) ∙ above.bytes e p y (was_there s d (s.power d) e there here) (was_waiting e p (Some y) not is)
    ];
    loose = λ e p y here is. elim (cases_eq e d) [
      | inl at ↦ elim (cases_eq p q) [
        | inl same ↦ ap (λ (f : ℕ → Bool). f p) (with_at_same s.loose d _ e at) ∙ with_at_same (s.loose d) q true p same
        | inr other ↦ ap (λ (f : ℕ → Bool). f p) (with_at_same s.loose d _ e at) ∙ with_at_other (s.loose d) q true p other
            ∙ above.loose d p y there (old_bytes e p (Some y) at other is)
      ]
      | inr not ↦ ap (λ (f : ℕ → Bool). f p) (with_at_other s.loose d _ e not) ∙ above.loose e p y (was_there s d (s.power d) e there here) (was_waiting e p (Some y) not is)
    ];
    rests = λ e p here is. elim (cases_eq e d) [
      | inl at ↦ elim (cases_eq p q) [
        | inl same ↦ absurd (some_none (here_put e p at same) is)
        | inr other ↦ ap (λ (f : ℕ → Block). f p) (with_at_same s.block d _ e at) ∙ with_at_other (s.block d) q x p other
            ∙ above.rests d p there (old_bytes e p None at other is) ∙ ap (λ (k : ℕ). b.block k p) (sym at)
      ]
      | inr not ↦ ap (λ (f : ℕ → Block). f p) (with_at_other s.block d _ e not) ∙ above.rests e p (was_there s d (s.power d) e there here) (was_waiting e p None not is)
    ];
  }
    where
      here_put : (e p : ℕ) → e ≡ d → p ≡ q → waiting (w' e) p ≡ Some x.bytes
      here_put e p at same = ap (λ (k : ℕ). waiting (w' k) p) at ∙ put p ∙ grind (arith, nat_tests, same)

      new_bytes : (e p : ℕ) (y : List ℕ) → e ≡ d → p ≡ q → waiting (w' e) p ≡ Some y → x.bytes ≡ y
      new_bytes e p y at same is = (let e : Some x.bytes ≡ Some y = sym (here_put e p at same) ∙ is in cc)

      old_bytes : (e p : ℕ) (o : Option (List ℕ)) → e ≡ d → p ≢ q → waiting (w' e) p ≡ o → waiting (w d) p ≡ o
      old_bytes e p o at other is = (let f : waiting (w' d) p ≡ waiting (w d) p = put p ∙ grind (arith, nat_tests, other) in sym f ∙ ap (λ (k : ℕ). waiting (w' k) p) (sym at) ∙ is)

      loose_before : (e p : ℕ) → with_at s.loose d (with_at (s.loose d) q true) e p ≡ false → s.loose e p ≡ false
      loose_before e p is = elim (cases_eq e d) [
        | inl at ↦ elim (cases_eq p q) [
          | inl same ↦ absurd (true≢false (sym (ap (λ (f : ℕ → Bool). f p) (with_at_same s.loose d _ e at) ∙ with_at_same (s.loose d) q true p same) ∙ is))
          | inr other ↦ ap (λ (k : ℕ). s.loose k p) at ∙ sym (with_at_other (s.loose d) q true p other) ∙ sym (ap (λ (f : ℕ → Bool). f p) (with_at_same s.loose d (with_at (s.loose d) q true) e at)) ∙ is
        ]
        | inr not ↦ sym (ap (λ (f : ℕ → Bool). f p) (with_at_other s.loose d (with_at (s.loose d) q true) e not)) ∙ is
      ]

      block_before : (e p : ℕ) → with_at s.loose d (with_at (s.loose d) q true) e p ≡ false → with_at s.block d (with_at (s.block d) q x) e p ≡ s.block e p
      block_before e p is = elim (cases_eq e d) [
        | inl at ↦ elim (cases_eq p q) [
          | inl same ↦ absurd (true≢false (sym (ap (λ (f : ℕ → Bool). f p) (with_at_same s.loose d _ e at) ∙ with_at_same (s.loose d) q true p same) ∙ is))
          | inr other ↦ ap (λ (f : ℕ → Block). f p) (with_at_same s.block d _ e at) ∙ with_at_other (s.block d) q x p other ∙ ap (λ (k : ℕ). s.block k p) (sym at)
        ]
        | inr not ↦ ap (λ (f : ℕ → Block). f p) (with_at_other s.block d _ e not)
      ]

  -- the disk is a fresh one, or the call has failed
  pub attach_above : (n : ℕ) (done : Bool) → IsAbove b w s → (done ≡ true → (p : ℕ) → waiting (w' d) p ≡ None) → IsAbove (step (Attach d n done) b) w' (step (Attach d n done) s)
  unfolding step
  attach_above n true above none = record {
    power = both_at s.power b.power d Spinning Spinning above.power refl;
    size = both_at s.size b.size d n n above.size refl;
    sure = λ e p is. at_case (λ (f : ℕ → Bool). f p ≡ false) b.loose d (λ _. false) e (λ here. refl)
        (λ not. above.sure e p (sym (ap (λ (f : ℕ → Bool). f p) (with_at_other s.loose d (λ _. false) e not)) ∙ is));
    kept = λ e p is. elim (cases_eq e d) [
      | inl at ↦ ap (λ (f : ℕ → Block). f p) (with_at_same s.block d (λ _. zero_block) e at) ∙ sym (ap (λ (f : ℕ → Block). f p) (with_at_same b.block d (λ _. zero_block) e at))
      | inr not ↦ ap (λ (f : ℕ → Block). f p) (with_at_other s.block d (λ _. zero_block) e not) ∙ above.kept e p (sym (ap (λ (f : ℕ → Bool). f p) (with_at_other s.loose d (λ _. false) e not)) ∙ is)
          ∙ sym (ap (λ (f : ℕ → Block). f p) (with_at_other b.block d (λ _. zero_block) e not))
    ];
    bytes = λ e p y here is. elim (cases_eq e d) [
      | inl at ↦ absurd (some_none is (ap (λ (k : ℕ). waiting (w' k) p) at ∙ none refl p))
      | inr not ↦ ap (λ (f : ℕ → Block). (f p).bytes) (with_at_other s.block d (λ _. zero_block) e not) ∙ above.bytes e p y (stayed e not here) (was_waiting e p (Some y) not is)
    ];
    loose = λ e p y here is. elim (cases_eq e d) [
      | inl at ↦ absurd (some_none is (ap (λ (k : ℕ). waiting (w' k) p) at ∙ none refl p))
      | inr not ↦ ap (λ (f : ℕ → Bool). f p) (with_at_other s.loose d (λ _. false) e not) ∙ above.loose e p y (stayed e not here) (was_waiting e p (Some y) not is)
    ];
    rests = λ e p here is. elim (cases_eq e d) [
      | inl at ↦ ap (λ (f : ℕ → Block). f p) (with_at_same s.block d (λ _. zero_block) e at) ∙ sym (ap (λ (f : ℕ → Block). f p) (with_at_same b.block d (λ _. zero_block) e at))
      | inr not ↦ ap (λ (f : ℕ → Block). f p) (with_at_other s.block d (λ _. zero_block) e not) ∙ above.rests e p (stayed e not here) (was_waiting e p None not is)
          ∙ sym (ap (λ (f : ℕ → Block). f p) (with_at_other b.block d (λ _. zero_block) e not))
    ];
  }
    where
      stayed : (e : ℕ) → e ≢ d → is_present (with_at s.power d Spinning e) ≡ true → IsPresent s e
      stayed e not here = ap is_present (sym (with_at_other s.power d Spinning e not)) ∙ here
  attach_above n false above none = record {
    power = both_at s.power b.power d Absent Absent above.power refl;
    size = both_at s.size b.size d 0 0 above.size refl;
    sure = λ e p is. ap (λ (f : ℕ → Bool). f p) (same_at b.loose d e) ∙ above.sure e p (sym (ap (λ (f : ℕ → Bool). f p) (same_at s.loose d e)) ∙ is);
    kept = λ e p is. ap (λ (f : ℕ → Block). f p) (same_at s.block d e) ∙ above.kept e p (sym (ap (λ (f : ℕ → Bool). f p) (same_at s.loose d e)) ∙ is) ∙ sym (ap (λ (f : ℕ → Block). f p) (same_at b.block d e));
    bytes = λ e p y here is. let not = apart e here in ap (λ (f : ℕ → Block). (f p).bytes) (same_at s.block d e) ∙ above.bytes e p y (stayed e not here) (was_waiting e p (Some y) not is);
    loose = λ e p y here is. let not = apart e here in ap (λ (f : ℕ → Bool). f p) (same_at s.loose d e) ∙ above.loose e p y (stayed e not here) (was_waiting e p (Some y) not is);
    rests = λ e p here is. let not = apart e here in ap (λ (f : ℕ → Block). f p) (same_at s.block d e) ∙ above.rests e p (stayed e not here) (was_waiting e p None not is)
        ∙ sym (ap (λ (f : ℕ → Block). f p) (same_at b.block d e));
  }
    where
      apart : (e : ℕ) → is_present (with_at s.power d Absent e) ≡ true → e ≢ d
      apart e here at = false≢true (sym (ap is_present (with_at_same s.power d Absent e at)) ∙ here)

      stayed : (e : ℕ) → e ≢ d → is_present (with_at s.power d Absent e) ≡ true → IsPresent s e
      stayed e not here = ap is_present (sym (with_at_other s.power d Absent e not)) ∙ here
