-- How the calls keep what is known of a block.
use Rattle.std.proofs.Common.{◌≡◌, ◌≢◌, inl, inr, ℕ, Bool, true, false, refl, sym, ◌∙◌, ap, subst, arith}
use Rattle.std.proofs.lemmas.Bool.{cases_eq, false≢true}
use Rattle.std.proofs.lemmas.Bool.Decides.{nat_tests}
use Rattle.paraid_rack.specs.declared.call.Power.{Power}
use Rattle.paraid_rack.specs.declared.call.Power.TheVariants.{Absent}
use Rattle.paraid_rack.specs.declared.call.Call.TheVariants.{Read, Write, Sync}
use Rattle.paraid_base.specs.declared.block.Block.{Block}
use Rattle.paraid_rack.specs.Disks.{Disks, IsPresent, is_present, with_at, power_after, loose_after, size_after, step, IsImage, lose}
use Rattle.paraid_rack.specs.Atoms.{IsSure, IsSeen, IsLeftByStop}

pub with_at_same : {A : Type 0} (f : ℕ → A) (k : ℕ) (v : A) (j : ℕ) → j ≡ k → with_at f k v j ≡ v
unfolding with_at
with_at_same f k v j is = grind (arith, nat_tests)

pub with_at_other : {A : Type 0} (f : ℕ → A) (k : ℕ) (v : A) (j : ℕ) → j ≢ k → with_at f k v j ≡ f j
unfolding with_at
with_at_other f k v j not = grind (arith, nat_tests)

-- what holds of the value there
pub at_case : {A : Type 0} (P : A → Type 0) (f : ℕ → A) (k : ℕ) (v : A) (j : ℕ) → (j ≡ k → P v) → (j ≢ k → P (f j)) → P (with_at f k v j)
at_case P f k v j here there = elim (cases_eq j k) [
  | inl is ↦ subst P (sym (with_at_same f k v j is)) (here is)
  | inr not ↦ subst P (sym (with_at_other f k v j not)) (there not)
]

-- what follows from what holds of the value there
pub at_use : {A : Type 0} (P : A → Type 0) (R : Type 0) (f : ℕ → A) (k : ℕ) (v : A) (j : ℕ) → (j ≡ k → P v → R) → (j ≢ k → P (f j) → R) → P (with_at f k v j) → R
at_use P R f k v j here there h = elim (cases_eq j k) [
  | inl is ↦ here is (subst P (with_at_same f k v j is) h)
  | inr not ↦ there not (subst P (with_at_other f k v j not) h)
]

was_present : (done : Bool) (p : Power) → is_present (power_after done p) ≡ true → is_present p ≡ true
was_present true p h = h
was_present false p h = absurd (false≢true h)

-- a disk that is present after a call on d0 that leaves its power, or makes it absent, was so before
kept_present : (s : Disks) (d0 : ℕ) (done : Bool) (d : ℕ) → is_present (with_at s.power d0 (power_after done (s.power d0)) d) ≡ true → IsPresent s d
kept_present s d0 done d h =
    at_use (λ p. is_present p ≡ true) (IsPresent s d) s.power d0 (power_after done (s.power d0)) d
    (λ is now. subst (λ (k : ℕ). is_present (s.power k) ≡ true) (sym is) (was_present done (s.power d0) now))
    (λ not now. now) h

-- and the call was done, if it was on that disk
done_there : (s : Disks) (d0 : ℕ) (done : Bool) (d : ℕ) → d ≡ d0 → is_present (with_at s.power d0 (power_after done (s.power d0)) d) ≡ true → done ≡ true
done_there s d0 true d is h = refl
done_there s d0 false d is h = absurd (false≢true (sym (ap is_present (with_at_same s.power d0 Absent d is)) ∙ h))

-- such a call leaves the power and the size of a disk that is present after it
kept_power : (s : Disks) (d0 : ℕ) (done : Bool) (d : ℕ) → is_present (with_at s.power d0 (power_after done (s.power d0)) d) ≡ true
    → with_at s.power d0 (power_after done (s.power d0)) d ≡ s.power d
kept_power s d0 done d h = at_case (λ p. p ≡ s.power d) s.power d0 (power_after done (s.power d0)) d
    (λ is. ap (λ (b : Bool). power_after b (s.power d0)) (done_there s d0 done d is h) ∙ ap s.power (sym is)) (λ not. refl)

kept_size : (s : Disks) (d0 : ℕ) (done : Bool) (d : ℕ) → is_present (with_at s.power d0 (power_after done (s.power d0)) d) ≡ true
    → with_at s.size d0 (size_after done (s.size d0)) d ≡ s.size d
kept_size s d0 done d h = at_case (λ n. n ≡ s.size d) s.size d0 (size_after done (s.size d0)) d
    (λ is. ap (λ (b : Bool). size_after b (s.size d0)) (done_there s d0 done d is h) ∙ ap s.size (sym is)) (λ not. refl)

module _ (s : Disks) where
  pub read_present : (d0 p0 : ℕ) (done : Bool) (d : ℕ) → IsPresent (step (Read d0 p0 done) s) d → IsPresent s d
  unfolding step
  read_present d0 p0 done d h = kept_present s d0 done d h

  pub write_present : (d0 p0 : ℕ) (b : Block) (done : Bool) (d : ℕ) → IsPresent (step (Write d0 p0 b done) s) d → IsPresent s d
  unfolding step
  write_present d0 p0 b done d h = kept_present s d0 done d h

  pub write_power : (d0 p0 : ℕ) (b : Block) (done : Bool) (d : ℕ) → IsPresent (step (Write d0 p0 b done) s) d → (step (Write d0 p0 b done) s).power d ≡ s.power d
  unfolding step
  write_power d0 p0 b done d h = kept_power s d0 done d h

  pub write_size : (d0 p0 : ℕ) (b : Block) (done : Bool) (d : ℕ) → IsPresent (step (Write d0 p0 b done) s) d → (step (Write d0 p0 b done) s).size d ≡ s.size d
  unfolding step
  write_size d0 p0 b done d h = kept_size s d0 done d h

  pub sync_power : (d0 : ℕ) (done : Bool) (d : ℕ) → IsPresent (step (Sync d0 done) s) d → (step (Sync d0 done) s).power d ≡ s.power d
  unfolding step
  sync_power d0 done d h = kept_power s d0 done d h

  pub sync_size : (d0 : ℕ) (done : Bool) (d : ℕ) → IsPresent (step (Sync d0 done) s) d → (step (Sync d0 done) s).size d ≡ s.size d
  unfolding step
  sync_size d0 done d h = kept_size s d0 done d h

  pub sync_present : (d0 : ℕ) (done : Bool) (d : ℕ) → IsPresent (step (Sync d0 done) s) d → IsPresent s d
  unfolding step
  sync_present d0 done d h = kept_present s d0 done d h

  -- a write elsewhere
  pub write_block_other : (d0 p0 : ℕ) (b : Block) (done : Bool) (d p : ℕ) → (d ≡ d0 → p ≢ p0) → (step (Write d0 p0 b done) s).block d p ≡ s.block d p
  unfolding step
  write_block_other d0 p0 b done d p apart =
      at_case (λ (f : ℕ → Block). f p ≡ s.block d p) s.block d0 (with_at (s.block d0) p0 b) d
      (λ is. with_at_other (s.block d0) p0 b p (apart is) ∙ ap (λ (k : ℕ). s.block k p) (sym is))
      (λ not. refl)

  write_loose_other : (d0 p0 : ℕ) (b : Block) (done : Bool) (d p : ℕ) → (d ≡ d0 → p ≢ p0) → (step (Write d0 p0 b done) s).loose d p ≡ s.loose d p
  unfolding step
  write_loose_other d0 p0 b done d p apart =
      at_case (λ (f : ℕ → Bool). f p ≡ s.loose d p) s.loose d0 (with_at (s.loose d0) p0 true) d
      (λ is. with_at_other (s.loose d0) p0 true p (apart is) ∙ ap (λ (k : ℕ). s.loose k p) (sym is))
      (λ not. refl)

  pub write_block_same : (d0 p0 : ℕ) (b : Block) (done : Bool) → (step (Write d0 p0 b done) s).block d0 p0 ≡ b
  unfolding step
  write_block_same d0 p0 b done = ap (λ (f : ℕ → Block). f p0) (with_at_same s.block d0 (with_at (s.block d0) p0 b) d0 refl) ∙ with_at_same (s.block d0) p0 b p0 refl

  pub write_sure : (d0 p0 : ℕ) (b : Block) (done : Bool) (d p : ℕ) (Q : Block → Type 0) → (d ≡ d0 → p ≢ p0) → IsSure s d p Q → IsSure (step (Write d0 p0 b done) s) d p Q
  write_sure d0 p0 b done d p Q apart sure = record {
    holds = λ here.
        let was = sure.holds (write_present d0 p0 b done d here) in
        (write_loose_other d0 p0 b done d p apart ∙ was.0, subst Q (sym (write_block_other d0 p0 b done d p apart)) was.1);
  }

  pub write_seen : (d0 p0 : ℕ) (b : Block) (done : Bool) (d p : ℕ) (Q : Block → Type 0) → (d ≡ d0 → p ≢ p0) → IsSeen s d p Q → IsSeen (step (Write d0 p0 b done) s) d p Q
  write_seen d0 p0 b done d p Q apart seen = record {
    holds = λ here. subst Q (sym (write_block_other d0 p0 b done d p apart)) (seen.holds (write_present d0 p0 b done d here));
  }

  pub write_here : (d0 p0 : ℕ) (b : Block) (done : Bool) (Q : Block → Type 0) → Q b → IsSeen (step (Write d0 p0 b done) s) d0 p0 Q
  write_here d0 p0 b done Q q = record { holds = λ here. subst Q (sym (write_block_same d0 p0 b done)) q }

  pub sync_block : (d0 : ℕ) (done : Bool) (d p : ℕ) → (step (Sync d0 done) s).block d p ≡ s.block d p
  unfolding step
  sync_block d0 done d p = refl

  sync_loose : (d0 : ℕ) (done : Bool) (d p : ℕ) → s.loose d p ≡ false → (step (Sync d0 done) s).loose d p ≡ false
  unfolding step
  sync_loose d0 done d p was =
      at_case (λ (f : ℕ → Bool). f p ≡ false) s.loose d0 (loose_after done (s.loose d0)) d
      (λ is. cleared done (subst (λ (k : ℕ). s.loose k p ≡ false) is was))
      (λ not. was)
    where
      cleared : (done : Bool) → s.loose d0 p ≡ false → loose_after done (s.loose d0) p ≡ false
      cleared true h = refl
      cleared false h = h

  sync_clears : (d0 : ℕ) (done : Bool) (p : ℕ) → done ≡ true → (step (Sync d0 done) s).loose d0 p ≡ false
  unfolding step
  sync_clears d0 done p is =
      ap (λ (f : ℕ → Bool). f p) (with_at_same s.loose d0 (loose_after done (s.loose d0)) d0 refl) ∙ ap (λ (b : Bool). loose_after b (s.loose d0) p) is

  pub sync_sure : (d0 : ℕ) (done : Bool) (d p : ℕ) (Q : Block → Type 0) → IsSure s d p Q → IsSure (step (Sync d0 done) s) d p Q
  sync_sure d0 done d p Q sure = record {
    holds = λ here.
        let was = sure.holds (sync_present d0 done d here) in
        (sync_loose d0 done d p was.0, subst Q (sym (sync_block d0 done d p)) was.1);
  }

  pub sync_seen : (d0 : ℕ) (done : Bool) (d p : ℕ) (Q : Block → Type 0) → IsSeen s d p Q → IsSeen (step (Sync d0 done) s) d p Q
  sync_seen d0 done d p Q seen = record { holds = λ here. subst Q (sym (sync_block d0 done d p)) (seen.holds (sync_present d0 done d here)) }

  sync_done : (d0 : ℕ) (done : Bool) → IsPresent (step (Sync d0 done) s) d0 → done ≡ true
  unfolding step
  sync_done d0 done here = done_there s d0 done d0 refl here

  -- what was seen is sure after a sync, done or not
  pub sync_here : (d0 : ℕ) (done : Bool) (p : ℕ) (Q : Block → Type 0) → IsSeen s d0 p Q → IsSure (step (Sync d0 done) s) d0 p Q
  sync_here d0 done p Q seen = record {
    holds = λ here.
        (sync_clears d0 done p (sync_done d0 done here), subst Q (sym (sync_block d0 done d0 p)) (seen.holds (sync_present d0 done d0 here)));
  }

pub seen_sure : {s : Disks} {d p : ℕ} {Q : Block → Type 0} → IsSure s d p Q → IsSeen s d p Q
seen_sure sure = record { holds = λ here. (sure.holds here).1 }

pub absent_sure : (s : Disks) (d p : ℕ) (Q : Block → Type 0) → s.power d ≡ Absent → IsSure s d p Q
absent_sure s d p Q gone = record { holds = λ here. absurd (false≢true (sym (ap is_present gone) ∙ here)) }

pub absent_seen : (s : Disks) (d p : ℕ) (Q : Block → Type 0) → s.power d ≡ Absent → IsSeen s d p Q
absent_seen s d p Q gone = record { holds = λ here. absurd (false≢true (sym (ap is_present gone) ∙ here)) }

-- each image, also with a slot lost, has Q there
pub left_sure : {s i : Disks} {d p : ℕ} {Q : Block → Type 0} → IsSure s d p Q → IsLeftByStop s i → IsPresent i d → Q (i.block d p)
left_sure {s} {i} {d} {p} {Q} sure left here =
    let was = sure.holds (left.present d here) in
    subst Q (sym (left.block d p was.0)) was.1

pub image_left : (s i : Disks) → IsImage s i → IsLeftByStop s i
image_left s i image = record {
  present = λ d here. ap is_present (sym (image.power d)) ∙ here;
  power = λ d here. image.power d;
  size = λ d here. image.size d;
  block = image.block;
}

-- a slot that is there though slot x is lost is another one
pub lost_apart : (i : Disks) (x d : ℕ) → IsPresent (lose x i) d → d ≢ x
lost_apart i x d here is = false≢true (sym (ap is_present (with_at_same i.power x Absent d is)) ∙ here)

pub lost_left : (s i : Disks) (x : ℕ) → IsImage s i → IsLeftByStop s (lose x i)
lost_left s i x image = record {
  present = λ d here. at_use (λ p. is_present p ≡ true) (IsPresent s d) i.power x Absent d
      (λ is now. absurd (false≢true now)) (λ not now. ap is_present (sym (image.power d)) ∙ now) here;
  power = λ d here. with_at_other i.power x Absent d (lost_apart i x d here) ∙ image.power d;
  size = λ d here. with_at_other i.size x 0 d (lost_apart i x d here) ∙ image.size d;
  block = image.block;
}

pub read_block-same : (s : Disks) (d0 p0 : ℕ) (done : Bool) → (step (Read d0 p0 done) s).block ≡ s.block
unfolding step
read_block-same s d0 p0 done = refl
