-- Where a part of a commit ends well, one disk at most is out where one at most was.
use Rattle.std.specs.Prelude.{◌≡◌, ℕ, Option, Some, None}
use Rattle.std.proofs.Common.{refl, sym, ◌∙◌, ap, inl, inr}
use Rattle.paraid_rack.specs.declared.call.Power.{Power}
use Rattle.paraid_rack.specs.Disks.{is_present}
use Rattle.paraid_rack.specs.Slots.{Slot}
use Rattle.paraid_image.specs.Out.{first_absent, or_else}
use Rattle.paraid_image.proofs.OutLemmas.{first_absent_finds}
use Rattle.paraid_image.proofs.CallLemmas.{decide_some}
use Rattle.paraid_txn.specs.declared.losses.Losses.{Losses}
use Rattle.paraid_txn.specs.Losses.{AreOthersWell, IsOneOut, IsOutOfCommit, AreCommitCalls}
use Rattle.paraid_txn.specs.Losses.IsOutOfCommit.{is_absent, was_named, is_named}
use Rattle.paraid_txn.proofs.AloneLemmas.{first_is_out}

module _ (n : ℕ) (named after : Option ℕ) (from to : Losses) (old new : ℕ → Slot) (none_else : (e : ℕ) → after ≡ Some e → named ≡ Some e)
    (down_is : from.down ≡ or_else (first_absent (λ e. (old e).power) n) (or_else named after))
    (lasts : AreCommitCalls from to old new) (well : AreOthersWell to old new) (one : IsOneOut n named old) where
  abbrev power : ℕ → Power
  power e = (old e).power

  milder : (e : ℕ) → IsOutOfCommit power n named after e → IsOutOfCommit power n named None e
  milder e (is_absent low gone) = is_absent low gone
  milder e (was_named is) = was_named is
  milder e (is_named is) = was_named (none_else e is)

  found : (d : ℕ) → IsOutOfCommit power n named None d → (f b : Option ℕ) → first_absent power n ≡ f → named ≡ b → or_else f (or_else b after) ≡ None → ⊥
  found d out (Some e) b is was none = let z : Some e ≡ None = none in cc
  found d out None (Some e) is was none = let z : Some e ≡ None = none in cc
  found d (is_absent low gone) None None is was none = let f = first_absent_finds power n d low (ap is_present gone) in let z : Some f.0 ≡ None = sym f.1 ∙ is in cc
  found d (was_named name) None None is was none = let z : Some d ≡ None = sym name ∙ was in cc
  found d (is_named name) None None is was none = let z : None ≡ Some d = name in cc

  was_down : (d : ℕ) → IsOutOfCommit power n named None d → from.down ≡ Some d
  was_down d out = split from.down refl
    where
      split : (o : Option ℕ) → from.down ≡ o → from.down ≡ Some d
      split (Some e) is = is ∙ ap (λ (k : ℕ). Some k) (one e d (milder e (first_is_out power n named after e (sym down_is ∙ is))) out)
      split None is = absurd (found d out (first_absent power n) named refl refl (sym down_is ∙ is))

  now_down : (d : ℕ) → IsOutOfCommit (λ e. (new e).power) n named None d → to.down ≡ Some d
  now_down d (was_named is) = lasts.remains d (was_down d (was_named is))
  now_down d (is_named is) = let z : None ≡ Some d = is in cc
  now_down d (is_absent low gone) = elim (decide_some to.lost d) [
    | inl is ↦ to.agrees d is
    | inr not ↦ lasts.remains d (was_down d (is_absent low (sym (well d not).power ∙ gone)))
  ]

  pub one_stays : IsOneOut n named new
  one_stays d e p q = let z : Some d ≡ Some e = sym (now_down d p) ∙ now_down e q in cc
