-- Why a plan was dropped: one disk has failed, and none was down before.
use Rattle.std.specs.Prelude.{◌≡◌, ℕ, ◌<◌, true, Option, Some, None, IsSome, Result, Ok, Err, IfErr, is_err}
use Rattle.std.proofs.Common.{refl, sym, ◌∙◌, ap, subst}
use Rattle.std.proofs.lemmas.Bool.{false≢true}
use Rattle.paraid_image.specs.Out.{named_out, or_else}
use Rattle.paraid_image.specs.Mark.{meta_with_lost}
use Rattle.paraid_rack.specs.Slots.{Slot}
use Rattle.paraid_rack.specs.Trail.{Trail}
use Rattle.paraid_record.specs.declared.meta.Meta.{Meta}
use Rattle.paraid_txn.specs.Stores.{named_of, store_rack}
use Rattle.paraid_core.specs.declared.staged.Core.{Core}
use Rattle.paraid_core.specs.Cores.{IsCoreReady, CanCoreServe}
use Rattle.paraid_core.specs.Down.{HasLostOne}
use Rattle.paraid_core.specs.Plans.{LeadsTo, without_draft}
use Rattle.paraid_core.specs.CoreInvariant.{lost_in}
use Rattle.paraid_core.proofs.AfterLemmas.{lost_in_is}

pub is_err_then : {A E : Type 0} (r : Result A E) (P : Type 0) → is_err r ≡ true → IfErr r (λ e. P) → P
is_err_then (Ok a) P is p = absurd (false≢true is)
is_err_then (Err e) P is p = p

pub some_of : (o : Option ℕ) → IsSome o → (d : ℕ) × (o ≡ Some d)
some_of None is = absurd (false≢true is)
some_of (Some d) is = (d, refl)

none_of : (o p : Option ℕ) → ((x : ℕ) → p ≡ Some x → ⊥) → ((d : ℕ) → o ≡ Some d → p ≡ Some d) → (o ≡ None) × (p ≡ None)
none_of None None never stays = (refl, refl)
none_of None (Some x) never stays = absurd (never x refl)
none_of (Some d) p never stays = absurd (never d (stays d refl))

module _ {R : Type 0} {g : _} (count : R → ℕ) (slot : R → ℕ → Slot) (told : R → Option Trail) (old pl : Core R g) (led : LeadsTo count slot told (without_draft old) pl) (ready : IsCoreReady count slot old)
    (serves : CanCoreServe slot old) (free : (d x : ℕ) → pl.failed ≡ Some d → named_out old.meta.out ≡ Some x → ⊥) (m_then : Meta) (em : m_then ≡ meta_with_lost (lost_in pl.meta pl.failed) pl.meta) where
  lost_by : (d : ℕ) → pl.failed ≡ Some d → HasLostOne (or_else (named_of old.store) (named_out old.meta.out)) (or_else (named_of pl.store) (named_out m_then.out)) (slot (store_rack old.store)) (slot (store_rack pl.store))
  lost_by d is =
      let nones = none_of (named_of old.store) (named_out old.meta.out) (λ x named. free d x is named) serves.stays in
      let low : d < pl.meta.setup.geometry.disks =
      subst (λ (z : Meta). d < z.setup.geometry.disks) (sym led.meta) (subst (λ (z : ℕ). d < z) (sym ready.array_is) (led.below d refl is).0) in
      let lost : lost_in pl.meta pl.failed ≡ Some d =
      lost_in_is pl.meta pl.failed (λ x k. let z : Some d ≡ Some x = sym is ∙ k in let same : d ≡ x = cc in subst (λ (y : ℕ). y < pl.meta.setup.geometry.disks) same low) ∙ is in
      record {
        disk = d;
        none = ap (λ (z : Option ℕ). or_else z (named_out old.meta.out)) nones.0 ∙ nones.1;
        down = ap (λ (z : Option ℕ). or_else z (named_out m_then.out)) (led.same.named ∙ nones.0)
            ∙ ap (λ (z : Meta). named_out z.out) em ∙ ap (λ (z : Option ℕ). named_out (meta_with_lost z pl.meta).out) lost;
        lost = (led.left refl).failed d is;
      }

  pub lost_one : IsSome pl.failed → HasLostOne (or_else (named_of old.store) (named_out old.meta.out)) (or_else (named_of pl.store) (named_out m_then.out)) (slot (store_rack old.store)) (slot (store_rack pl.store))
  lost_one some = let f = some_of pl.failed some in lost_by f.0 f.1
