-- Where a disk is lost and a commit goes on, no other disk was out.
use Rattle.std.specs.Prelude.{◌≡◌, ◌≢◌, ◌⊎◌, ℕ, true, false, Option, Some, None}
use Rattle.std.proofs.Common.{refl, sym, ◌∙◌, ap, subst, inl, inr}
use Rattle.std.proofs.lemmas.Bool.{false≢true}
use Rattle.paraid_base.specs.declared.fault.Two.{Two}
use Rattle.paraid_rack.specs.declared.call.Power.{Power}
use Rattle.paraid_rack.specs.declared.call.Power.TheVariants.{Absent, Parked, Spinning}
use Rattle.paraid_rack.specs.Disks.{is_present}
use Rattle.paraid_rack.specs.Slots.{Slot}
use Rattle.paraid_rack.specs.Told.{Ran}
use Rattle.paraid_rack.specs.Trail.{Trail}
use Rattle.paraid_image.specs.Lost.{TellsLosses}
use Rattle.paraid_image.specs.Out.{first_absent, or_else}
use Rattle.paraid_image.proofs.OutLemmas.{first_absent_finds, first_absent_is}
use Rattle.paraid_txn.specs.Losses.{AreGoneSince, IsOnlyOut, IsOutOfCommit, AreTwoDown, AreTwoDownBeside}
use Rattle.paraid_txn.specs.Losses.IsOutOfCommit.{is_absent, was_named, is_named}

not_there : (p : Power) → is_present p ≡ false → p ≡ Absent
not_there Absent is = refl
not_there Parked is = absurd (false≢true (sym is))
not_there Spinning is = absurd (false≢true (sym is))

same_some : {d e : ℕ} → Some d ≡ Some e → d ≡ e
same_some e = cc

some_not_none : {d : ℕ} → Some d ≡ None → ⊥
some_not_none e = cc

module _ (power : ℕ → Power) (n : ℕ) (before after : Option ℕ) where
  -- the disk that is down as a commit begins is out
  pub first_is_out : (e : ℕ) → or_else (first_absent power n) (or_else before after) ≡ Some e → IsOutOfCommit power n before after e
  first_is_out e first = split (first_absent power n) before refl refl first
    where
      split : (f b : Option ℕ) → first_absent power n ≡ f → before ≡ b → or_else f (or_else b after) ≡ Some e → IsOutOfCommit power n before after e
      split (Some d) b is was found =
          let same = same_some found in
          let gone = first_absent_is power n d is in
          subst (λ (k : ℕ). IsOutOfCommit power n before after k) same (is_absent gone.0 (not_there (power d) gone.1))
      split None (Some d) is was found = was_named (was ∙ found)
      split None None is was found = is_named found

  -- a disk that is there and beside which none was down is the only one that was out
  pub alone_out : (d : ℕ) → is_present (power d) ≡ true → ((e : ℕ) → or_else (first_absent power n) (or_else before after) ≡ Some e → e ≡ d)
      → ((e : ℕ) → after ≡ Some e → e ≡ d) → (e : ℕ) → IsOutOfCommit power n before after e → e ≡ d
  alone_out d here only named e out = by out
    where
      never : (f : ℕ) → first_absent power n ≡ Some f → ⊥
      never f is =
          let gone = first_absent_is power n f is in
          let same : f ≡ d = only f (ap (λ (o : Option ℕ). or_else o (or_else before after)) is) in
          false≢true (sym gone.1 ∙ ap (λ (k : ℕ). is_present (power k)) same ∙ here)

      split : (f : Option ℕ) → first_absent power n ≡ f → before ≡ Some e → e ≡ d
      split (Some f) is was = absurd (never f is)
      split None is was = only e (ap (λ (o : Option ℕ). or_else o (or_else before after)) is ∙ ap (λ (o : Option ℕ). or_else o after) was)

      by : IsOutOfCommit power n before after e → e ≡ d
      by (is_absent low gone) = let f = first_absent_finds power n e low (ap is_present gone) in absurd (never f.0 f.1)
      by (was_named is) = split (first_absent power n) refl is
      by (is_named is) = named e is

  -- one is found where one is out
  out_found : (e : ℕ) → IsOutOfCommit power n before after e → or_else (first_absent power n) (or_else before after) ≢ None
  out_found e (is_absent low gone) none =
      let f = first_absent_finds power n e low (ap is_present gone) in
      some_not_none (ap (λ (o : Option ℕ). or_else o (or_else before after)) (sym f.1) ∙ none)
  out_found e (was_named is) none = split (first_absent power n) (ap (λ (b : Option ℕ). or_else (first_absent power n) (or_else b after)) (sym is) ∙ none)
    where
      split : (f : Option ℕ) → or_else f (Some e) ≡ None → ⊥
      split (Some x) z = some_not_none z
      split None z = some_not_none z
  out_found e (is_named is) none = split (first_absent power n) before (ap (λ (a : Option ℕ). or_else (first_absent power n) (or_else before a)) (sym is) ∙ none)
    where
      split : (f b : Option ℕ) → or_else f (or_else b (Some e)) ≡ None → ⊥
      split (Some x) b z = some_not_none z
      split None (Some x) z = some_not_none z
      split None None z = some_not_none z

  -- so it is the one that is out, if one is
  pub first_only : (only : Option ℕ) → IsOnlyOut (IsOutOfCommit power n before after) only → or_else (first_absent power n) (or_else before after) ≡ only
  first_only only is = split (or_else (first_absent power n) (or_else before after)) refl only refl
    where
      split : (o : Option ℕ) → or_else (first_absent power n) (or_else before after) ≡ o → (p : Option ℕ) → only ≡ p → o ≡ only
      split (Some e) found p k = sym (is.one e (first_is_out e found))
      split None found None k = sym k
      split None found (Some x) k = absurd (out_found x (is.is x k) found)

-- a disk that was lost, or else the one that was out before
pub lost_down : (was now lost : Option ℕ) → ((d : ℕ) → lost ≡ Some d → now ≡ Some d) → ((d : ℕ) → now ≡ Some d → (was ≡ Some d) ⊎ (lost ≡ Some d)) → ((d : ℕ) → was ≡ Some d → now ≡ Some d)
    → now ≡ or_else lost was
lost_down was now (Some d) agrees down remains = agrees d refl
lost_down None now None agrees down remains = split now refl
  where
    split : (o : Option ℕ) → now ≡ o → now ≡ None
    split None is = is
    split (Some x) is = absurd (elim (down x is) [ inl was ↦ some_not_none (sym was) | inr lost ↦ some_not_none (sym lost) ])
lost_down (Some x) now None agrees down remains = remains x refl

-- why two disks are down, by all that were out
pub two_beside : (power : ℕ → Power) (n : ℕ) (before after down : Option ℕ) (old new : ℕ → Slot) (two : Two) → down ≡ or_else (first_absent power n) (or_else before after)
    → AreTwoDown down old new two → AreTwoDownBeside (IsOutOfCommit power n before after) old new two
two_beside power n before after down old new two is it = record {
  first = elim it.first [ inl was ↦ inl (first_is_out power n before after two.first (sym is ∙ was)) | inr risen ↦ inr risen ];
  apart = it.apart;
  second = it.second;
}

-- and which of them are absent since
pub gone_beside : (power : ℕ → Power) (n : ℕ) (before after down : Option ℕ) (old new : ℕ → Slot) (two : Two) → down ≡ or_else (first_absent power n) (or_else before after)
    → AreGoneSince (λ d. down ≡ Some d) old new two → AreGoneSince (IsOutOfCommit power n before after) old new two
gone_beside power n before after down old new two is it = record {
  first = elim it.first [ inl was ↦ inl (first_is_out power n before after two.first (sym is ∙ was)) | inr gone ↦ inr gone ];
  second = it.second;
}

-- and which of them failed first, where one was out at most
pub tells_beside : (power : ℕ → Power) (n : ℕ) (before after down : Option ℕ) (old new : Option Trail) (two : Two) → down ≡ or_else (first_absent power n) (or_else before after)
    → Ran old new (λ s cs. TellsLosses down two cs) → (only : Option ℕ) → IsOnlyOut (IsOutOfCommit power n before after) only → Ran old new (λ s cs. TellsLosses only two cs)
tells_beside power n before after down old new two is ran only one =
    subst (λ (o : Option ℕ). Ran old new (λ s cs. TellsLosses o two cs)) (is ∙ first_only power n before after only one) ran

-- and by one, where no other was out
pub two_by : (out : ℕ → Type 0) (down : Option ℕ) (old new : ℕ → Slot) (two : Two) → ((e : ℕ) → out e → down ≡ Some e)
    → AreTwoDownBeside out old new two → AreTwoDown down old new two
two_by out down old new two is it = record {
  first = elim it.first [ inl was ↦ inl (is two.first was) | inr risen ↦ inr risen ];
  apart = it.apart;
  second = it.second;
}
