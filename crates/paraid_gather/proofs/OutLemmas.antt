-- What waits for a disk is written: the rack above stays as it is, or has lost the disk.
use Rattle.std.proofs.Common.{◌≡◌, ◌≢◌, ◌⊎◌, inl, inr, ℕ, Bool, true, false, List, [], ◌∷◌, Option, Some, None, refl, sym, ◌∙◌, ap, subst}
use Rattle.std.proofs.lemmas.Bool.{cases_eq, false≢true, true≢false}
use Rattle.paraid_base.specs.declared.block.Block.{Block}
use Rattle.paraid_base.proofs.XorLemmas.{same_block}
use Rattle.paraid_rack.specs.declared.call.Power.TheVariants.{Absent}
use Rattle.paraid_rack.specs.declared.call.Call.{Call}
use Rattle.paraid_rack.specs.declared.call.Call.TheVariants.{Write, Sync}
use Rattle.paraid_rack.specs.Disks.{Disks, IsPresent, IsImage, is_present, with_at, step, lose}
use Rattle.paraid_rack.specs.Told.{Through}
use Rattle.paraid_rack.specs.Trail.{run}
use Rattle.paraid_rack.proofs.AtomsLemmas.{with_at_same, with_at_other}
use Rattle.paraid_gather.specs.Waiting.{Waiting, waiting}
use Rattle.paraid_gather.specs.Bulk.{IsBetween, WritesBlocks, left_by}
use Rattle.paraid_gather.specs.Above.{IsAbove, LeavesImageOf}
use Rattle.paraid_gather.proofs.AboveLemmas.{both_at, same_at, some_none}

none_or : {A : Type 0} (o : Option A) → (o ≡ None) ⊎ ((x : A) × (o ≡ Some x))
none_or None = inl refl
none_or (Some x) = inr (x, refl)

through_last : (P : Disks → Type 0) (s : Disks) (cs : List Call) → Through P s cs → P (run s cs)
through_last P s [] t = t
through_last P s (c ∷ cs) t = through_last P (step c s) cs t.1

left_power : (ok : Bool) (d : ℕ) (s b : Disks) → ((e : ℕ) → s.power e ≡ b.power e) → (e : ℕ) → (left_by ok d s).power e ≡ (left_by ok d b).power e
left_power true d s b same e = same e
left_power false d s b same e = both_at s.power b.power d Absent Absent same refl e

left_size : (ok : Bool) (d : ℕ) (s b : Disks) → ((e : ℕ) → s.size e ≡ b.size e) → (e : ℕ) → (left_by ok d s).size e ≡ (left_by ok d b).size e
left_size true d s b same e = same e
left_size false d s b same e = both_at s.size b.size d 0 0 same refl e

left_image : (ok : Bool) (d : ℕ) (s i : Disks) → ((e : ℕ) → i.power e ≡ (left_by ok d s).power e) → ((e : ℕ) → i.size e ≡ (left_by ok d s).size e)
    → ((e p : ℕ) → s.loose e p ≡ false → i.block e p ≡ s.block e p) → ((e p : ℕ) → i.loose e p ≡ false) → IsImage (left_by ok d s) i
left_image true d s i power size block loose = record { power = power; size = size; block = block; loose = loose }
left_image false d s i power size block loose = record { power = power; size = size; block = block; loose = loose }

module _ (b : Disks) (w : ℕ → Waiting) (s : Disks) (above : IsAbove b w s) (d : ℕ) (there : IsPresent s d) where
  -- for a place that no stop may change nothing waits
  not_waiting : (e p : ℕ) → s.loose e p ≡ false → e ≡ d → waiting (w d) p ≡ None
  not_waiting e p sure at = elim (none_or (waiting (w d) p)) [
    | inl none ↦ none
    | inr some ↦ absurd (true≢false (sym (above.loose d p some.0 there some.1) ∙ ap (λ (k : ℕ). s.loose k p) (sym at) ∙ sure))
  ]

  module _ (ok : Bool) (t : Disks) (between : IsBetween b d (w d) ok t) where
    out_sure : (e p : ℕ) → s.loose e p ≡ false → t.loose e p ≡ false
    out_sure e p is = between.loose e p (not_waiting e p is) ∙ above.sure e p is

    out_kept : (e p : ℕ) → s.loose e p ≡ false → s.block e p ≡ t.block e p
    out_kept e p is = above.kept e p is ∙ sym (between.block e p (not_waiting e p is))

    pub out_moment : LeavesImageOf s (left_by ok d s) t
    out_moment i image = elim between.powers [
      | inl same ↦ inl (record {
        power = λ e. image.power e ∙ same.power e ∙ sym (above.power e);
        size = λ e. image.size e ∙ same.size e ∙ sym (above.size e);
        block = λ e p is. image.block e p (out_sure e p is) ∙ sym (out_kept e p is);
        loose = image.loose;
      })
      | inr lost ↦ inr (left_image ok d s i
          (λ e. image.power e ∙ lost.power e ∙ sym (left_power ok d s b above.power e))
          (λ e. image.size e ∙ lost.size e ∙ sym (left_size ok d s b above.size e))
          (λ e p is. image.block e p (out_sure e p is) ∙ sym (out_kept e p is)) image.loose)
    ]

  module _ (w' : ℕ → Waiting) (others : (e : ℕ) → e ≢ d → w' e ≡ w e) (cs : List Call) where
    before : (e p : ℕ) (o : Option (List ℕ)) → e ≢ d → waiting (w' e) p ≡ o → waiting (w e) p ≡ o
    before e p o not is = ap (λ (v : Waiting). waiting v p) (sym (others e not)) ∙ is

    pub out_done : WritesBlocks d (w d) true b cs → ((p : ℕ) → waiting (w' d) p ≡ None) → IsAbove (run b cs) w' s
    out_done writes none =
        let last = through_last (IsBetween b d (w d) true) b cs writes.moments in
        record {
          power = λ e. above.power e ∙ sym (writes.powers.power e);
          size = λ e. above.size e ∙ sym (writes.powers.size e);
          sure = out_sure true (run b cs) last;
          kept = out_kept true (run b cs) last;
          bytes = λ e p x here is. elim (cases_eq e d) [
            | inl at ↦ absurd (some_none is (ap (λ (k : ℕ). waiting (w' k) p) at ∙ none p))
            | inr not ↦ above.bytes e p x here (before e p (Some x) not is)
          ];
          loose = λ e p x here is. elim (cases_eq e d) [
            | inl at ↦ absurd (some_none is (ap (λ (k : ℕ). waiting (w' k) p) at ∙ none p))
            | inr not ↦ above.loose e p x here (before e p (Some x) not is)
          ];
          rests = λ e p here is. elim (cases_eq e d) [
            | inl at ↦ subst (λ (k : ℕ). s.block k p ≡ (run b cs).block k p) (sym at) (elim (none_or (waiting (w d) p)) [
              | inl rest ↦ above.rests d p there rest ∙ sym (last.block d p (λ _. rest))
              | inr some ↦ same_block _ _ (above.bytes d p some.0 there some.1 ∙ sym (writes.bytes refl p some.0 some.1))
            ])
            | inr not ↦ above.rests e p here (before e p None not is) ∙ sym (last.block e p (λ at. absurd (not at)))
          ];
        }

    pub out_failed : WritesBlocks d (w d) false b cs → IsAbove (run b cs) w' (lose d s)
    out_failed writes =
        let last = through_last (IsBetween b d (w d) false) b cs writes.moments in
        record {
          power = λ e. left_power false d s b above.power e ∙ sym (writes.powers.power e);
          size = λ e. left_size false d s b above.size e ∙ sym (writes.powers.size e);
          sure = out_sure false (run b cs) last;
          kept = out_kept false (run b cs) last;
          bytes = λ e p x here is. let not = apart e here in above.bytes e p x (stays e not here) (before e p (Some x) not is);
          loose = λ e p x here is. let not = apart e here in above.loose e p x (stays e not here) (before e p (Some x) not is);
          rests = λ e p here is. let not = apart e here in above.rests e p (stays e not here) (before e p None not is) ∙ sym (last.block e p (λ at. absurd (not at)));
        }
      where
        apart : (e : ℕ) → is_present (with_at s.power d Absent e) ≡ true → e ≢ d
        apart e here at = false≢true (sym (ap is_present (with_at_same s.power d Absent e at)) ∙ here)

        stays : (e : ℕ) → e ≢ d → is_present (with_at s.power d Absent e) ≡ true → IsPresent s e
        stays e not here = ap is_present (sym (with_at_other s.power d Absent e not)) ∙ here

-- A call that has failed leaves what a lost disk leaves.
module _ (s : Disks) (d : ℕ) where
  pub lost_sync_image : (i : Disks) → IsImage (lose d s) i → IsImage (step (Sync d false) s) i
  unfolding step
  lost_sync_image i image = record {
    power = image.power;
    size = image.size;
    block = λ e p is. image.block e p (sym (ap (λ (f : ℕ → Bool). f p) (same_at s.loose d e)) ∙ is);
    loose = image.loose;
  }

  pub lost_sync : (b : Disks) (w : ℕ → Waiting) → IsAbove b w (lose d s) → IsAbove b w (step (Sync d false) s)
  unfolding step
  lost_sync b w above = record {
    power = above.power;
    size = above.size;
    sure = λ e p is. above.sure e p (sym (ap (λ (f : ℕ → Bool). f p) (same_at s.loose d e)) ∙ is);
    kept = λ e p is. above.kept e p (sym (ap (λ (f : ℕ → Bool). f p) (same_at s.loose d e)) ∙ is);
    bytes = above.bytes;
    loose = λ e p x here is. ap (λ (f : ℕ → Bool). f p) (same_at s.loose d e) ∙ above.loose e p x here is;
    rests = above.rests;
  }

  module _ (q : ℕ) (x : Block) where
    loose_here : (e p : ℕ) → with_at s.loose d (with_at (s.loose d) q true) e p ≡ false → s.loose e p ≡ false
    loose_here e p is = elim (cases_eq e d) [
      | inl at ↦ elim (cases_eq p q) [
        | inl same ↦ absurd (true≢false (sym (ap (λ (f : ℕ → Bool). f p) (with_at_same s.loose d _ e at) ∙ with_at_same (s.loose d) q true p same) ∙ is))
        | inr other ↦ ap (λ (k : ℕ). s.loose k p) at ∙ sym (with_at_other (s.loose d) q true p other) ∙ sym (ap (λ (f : ℕ → Bool). f p) (with_at_same s.loose d (with_at (s.loose d) q true) e at)) ∙ is
      ]
      | inr not ↦ sym (ap (λ (f : ℕ → Bool). f p) (with_at_other s.loose d (with_at (s.loose d) q true) e not)) ∙ is
    ]

    block_here : (e p : ℕ) → with_at s.loose d (with_at (s.loose d) q true) e p ≡ false → with_at s.block d (with_at (s.block d) q x) e p ≡ s.block e p
    block_here e p is = elim (cases_eq e d) [
      | inl at ↦ elim (cases_eq p q) [
        | inl same ↦ absurd (true≢false (sym (ap (λ (f : ℕ → Bool). f p) (with_at_same s.loose d _ e at) ∙ with_at_same (s.loose d) q true p same) ∙ is))
        | inr other ↦ ap (λ (f : ℕ → Block). f p) (with_at_same s.block d _ e at) ∙ with_at_other (s.block d) q x p other ∙ ap (λ (k : ℕ). s.block k p) (sym at)
      ]
      | inr not ↦ ap (λ (f : ℕ → Block). f p) (with_at_other s.block d _ e not)
    ]

    gone : (e : ℕ) → is_present (with_at s.power d Absent e) ≡ true → e ≢ d
    gone e here at = false≢true (sym (ap is_present (with_at_same s.power d Absent e at)) ∙ here)

    pub lost_write_image : (i : Disks) → IsImage (lose d s) i → IsImage (step (Write d q x false) s) i
    unfolding step
    lost_write_image i image = record {
      power = image.power;
      size = image.size;
      block = λ e p is. image.block e p (loose_here e p is) ∙ sym (block_here e p is);
      loose = image.loose;
    }

    pub lost_write : (b : Disks) (w : ℕ → Waiting) → IsAbove b w (lose d s) → IsAbove b w (step (Write d q x false) s)
    unfolding step
    lost_write b w above = record {
      power = above.power;
      size = above.size;
      sure = λ e p is. above.sure e p (loose_here e p is);
      kept = λ e p is. block_here e p is ∙ above.kept e p (loose_here e p is);
      bytes = λ e p y here is. ap (λ (f : ℕ → Block). (f p).bytes) (with_at_other s.block d _ e (gone e here)) ∙ above.bytes e p y here is;
      loose = λ e p y here is. ap (λ (f : ℕ → Bool). f p) (with_at_other s.loose d _ e (gone e here)) ∙ above.loose e p y here is;
      rests = λ e p here is. ap (λ (f : ℕ → Block). f p) (with_at_other s.block d _ e (gone e here)) ∙ above.rests e p here is;
    }
