-- When what two log disks say fits together.
use Rattle.std.specs.Prelude.{◌≡◌, ◌≢◌, Bool, true, false}
use Rattle.std.proofs.Common.{refl, sym, ◌∙◌, ap, subst}
use Rattle.std.proofs.lemmas.Bool.{false≢true, true≢false}
use Rattle.paraid_record.specs.declared.meta.Meta.{Meta}
use Rattle.paraid_image.specs.Sides.{Batch, LogState, log_state}
use Rattle.paraid_image.specs.Sound.{IsAhead, Pairing}
use Rattle.paraid_image.specs.Sound.Pairing.{alike, first_ahead, first_done, second_ahead, second_done}

pub pairing_back : (a b : LogState) → Pairing a b → Pairing b a
pairing_back a b (alike is) = alike (sym is)
pairing_back a b (first_ahead is) = second_ahead is
pairing_back a b (second_ahead is) = first_ahead is
pairing_back a b (first_done is) = second_done is
pairing_back a b (second_done is) = first_done is

-- under the same gate it is the same
pub same_gate : (a b : LogState) → Pairing a b → a.opened ≡ b.opened → a ≡ b
same_gate a b (alike is) same = is
same_gate a b (first_ahead is) same = absurd (false≢true (sym is.closed ∙ sym same ∙ is.opened))
same_gate a b (second_ahead is) same = absurd (false≢true (sym is.closed ∙ same ∙ is.opened))
same_gate a b (first_done is) same = absurd (false≢true (sym is.closed ∙ sym same ∙ is.opened))
same_gate a b (second_done is) same = absurd (false≢true (sym is.closed ∙ same ∙ is.opened))

-- an open log and a closed one
module _ (m n : Meta) (p q : Batch) where
  pub step_ahead : (m ≡ n → ⊥) → (IsAhead (log_state true m p) (log_state false n q) → ⊥) → Pairing (log_state true m p) (log_state false n q) → ⊥
  step_ahead done ahead (alike is) = true≢false (ap (λ (s : LogState). s.opened) is)
  step_ahead done ahead (first_ahead is) = ahead is
  step_ahead done ahead (second_ahead is) = false≢true is.opened
  step_ahead done ahead (first_done is) = done is.meta
  step_ahead done ahead (second_done is) = false≢true is.opened

  pub meta_done : m ≡ n → Pairing (log_state true m p) (log_state false n q)
  meta_done is = first_done (record { opened = refl; closed = refl; meta = is })

  pub meta_ahead : IsAhead (log_state true m p) (log_state false n q) → Pairing (log_state true m p) (log_state false n q)
  meta_ahead is = first_ahead is

-- by the gates
module _ (o p : Bool) (m n : Meta) (a b : Batch) where
  pub fits : (g : Bool) → o ≡ g → p ≡ g → ((h : Bool) → log_state h m a ≡ log_state h n b) → Pairing (log_state o m a) (log_state p n b)
  fits g is also same = alike (ap (λ (h : Bool). log_state h m a) is ∙ same g ∙ ap (λ (h : Bool). log_state h n b) (sym also))

  pub fits_not : (g : Bool) → o ≡ g → p ≡ g → ((h : Bool) → log_state h m a ≢ log_state h n b) → Pairing (log_state o m a) (log_state p n b) → ⊥
  fits_not g is also apart pair =
      apart g (ap (λ (h : Bool). log_state h m a) (sym is) ∙ same_gate (log_state o m a) (log_state p n b) pair (is ∙ sym also) ∙ ap (λ (h : Bool). log_state h n b) also)

  pub fits_ahead : o ≡ true → p ≡ false → Pairing (log_state true m a) (log_state false n b) → Pairing (log_state o m a) (log_state p n b)
  fits_ahead opens shut pair =
      subst (λ (h : Bool). Pairing (log_state h m a) (log_state p n b)) (sym opens) (subst (λ (h : Bool). Pairing (log_state true m a) (log_state h n b)) (sym shut) pair)

  pub fits_not_ahead : o ≡ true → p ≡ false → (Pairing (log_state true m a) (log_state false n b) → ⊥) → Pairing (log_state o m a) (log_state p n b) → ⊥
  fits_not_ahead opens shut never pair =
      never (subst (λ (h : Bool). Pairing (log_state h m a) (log_state false n b)) opens (subst (λ (h : Bool). Pairing (log_state o m a) (log_state h n b)) shut pair))
