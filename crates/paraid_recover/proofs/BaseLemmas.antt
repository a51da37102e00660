-- The spin-ups with which a mount begins.
use Rattle.std.proofs.Common.{◌≡◌, ℕ, ◌<◌, Bool, true, false, Option, Some, None, refl, sym, ◌∙◌, inl, inr, subst, arith, min, max, List, [], ◌∷◌, ◌++◌}
use Rattle.std.proofs.lemmas.Bool.{cases_eq, false≢true}
use Rattle.paraid_base.specs.History.{History}
use Rattle.paraid_rack.specs.declared.call.Call.{Call}
use Rattle.paraid_rack.specs.Disks.{Disks, is_present, lose}
use Rattle.paraid_rack.proofs.AlikeLemmas.{IsAlike-sym}
use Rattle.paraid_image.specs.HeldAt.{IsHeld, IsSoundFrom, MayLose}
use Rattle.paraid_image.specs.Out.{IsWeak}
use Rattle.paraid_image.specs.Out.IsWeak.{out}
use Rattle.paraid_image.specs.Rest.{AreSynced}
use Rattle.paraid_image.specs.RunStart.{IsRunStart}
use Rattle.paraid_image.specs.Sides.{LogState, Says}
use Rattle.paraid_image.specs.Sound.{LogOk}
use Rattle.paraid_image.specs.Spins.{made_spin_ups}
use Rattle.paraid_image.specs.Standing.{Stands, other_log}
use Rattle.paraid_image.proofs.AlikeLemmas.{sound_alike}
use Rattle.paraid_image.proofs.CallLemmas.{lose_kept, says_not_lost, says_of_lost}
use Rattle.paraid_image.proofs.LookedLemmas.{IsItsWeak, weak_of_sound}
use Rattle.paraid_image.proofs.NeutralLemmas.{says_forth}
use Rattle.paraid_session.specs.Mount.{IsBase}
use Rattle.paraid_session.specs.Mount.IsBase.{alone, lesser}
use Rattle.paraid_session.specs.Watch.{Each, Watch, watch, watch_all}
use Rattle.paraid_recover.proofs.DownLemmas.{stood_log}
use Rattle.paraid_recover.proofs.PartsLemmas.{stopped, stopped_alike, stopped_image}

-- what holds in two parts of some calls holds in both
pub each_append : (P : Watch → Type 0) (A : Watch → Call → Type 0) (w : Watch) (cs ds : List Call) → Each P A w cs → Each P A (watch_all cs w) ds → Each P A w (cs ++ ds)
each_append P A w [] ds first second = second
each_append P A w (c ∷ cs) ds first second = (first.0, first.1, each_append P A (watch c w) cs ds first.2 second)

pub sound_now : (slots : ℕ) (s : Disks) (h : History) (lo : ℕ) (down : Option ℕ) → AreSynced s → IsHeld slots s h lo down → IsSoundFrom slots s h lo
sound_now slots s h lo down synced held =
    let it = held.whole (stopped s) (stopped_image s) in
    record { k = it.k; low = it.low; high = it.high; sound = sound_alike slots (stopped s) s h it.k (IsAlike-sym s (stopped s) (stopped_alike s synced)) it.sound }

HasBase : Disks → ℕ → LogState → Type 0
HasBase s x said = (base : ℕ → ℕ) × (ticks : ℕ) × IsBase s x said base ticks

module _ (slots : ℕ) (s : Disks) (h : History) (lo : ℕ) (down : Option ℕ) (start : IsRunStart slots s h lo down) (x : ℕ) (said : LogState) (stands : Stands s x said) where
  abbrev y : ℕ
  y = other_log x

  log : LogOk s x said said.meta.writes
  log = stood_log slots s h lo down start.synced start.held x said stands

  low : x < 2
  low = stands.log_disk

  single : ((z : ℕ) (o : LogState) → MayLose s x → Stands (lose x s) z o → ⊥) → HasBase s x said
  unfolding HasBase
  single none = ((λ d. made_spin_ups said.meta s.power d), said.meta.ticks, alone none (λ d. refl) refl)

  -- without log disk `x` only the other one says something
  left_is : (z : ℕ) (o : LogState) → Stands (lose x s) z o → z ≡ y
  left_is z o there = let apart = says_not_lost s x z o there.says in let at = there.log_disk in let l = low in elim (cases_eq z x) [ inl is ↦ absurd (apart is) | inr not ↦ omega (arith, at, l, not) ]

  both : (other : LogState) → Says s y other → ((w : ℕ) → IsWeak s w → w ≡ x) → HasBase s x said
  unfolding HasBase
  both other says weak =
      let l = low in
      let may : MayLose s x = record { standing = x; said = said; stands = stands; disk = (let n = said.meta.setup.geometry.disks_low in omega (arith, n, l)); present = stands.says.present; weak = weak } in
      let there : Stands (lose x s) y other = record {
        log_disk = omega (arith, l);
        says = says_forth s (lose x s) y other (lose_kept s x y (λ e. omega (arith, e, l))) says;
        first = λ o q. let back : other_log y ≡ x = omega (arith, l) in absurd (says_not_lost s x (other_log y) o q back);
      } in (
        (λ d. min (made_spin_ups said.meta s.power d) (made_spin_ups other.meta s.power d)),
        max said.meta.ticks other.meta.ticks,
        lesser y other may there (λ d. refl) refl,
      )

  by_weak : is_present (s.power y) ≡ true → (own : Option ℕ) → IsItsWeak s own → HasBase s x said
  by_weak here None its =
      let formed = log.formed y (let l = low in omega (arith, l)) here (λ named. let z : None ≡ Some y = its.only y (out x said stands named) in cc) in
      both formed.0 formed.1 (λ w is. absurd (let z : None ≡ Some w = its.only w is in cc))
  by_weak here (Some v) its = elim (cases_eq v x) [
    | inr apart ↦ single (λ z o may there. apart (may.weak v (its.is v refl)))
    | inl same ↦
        let formed = log.formed y (let l = low in omega (arith, l)) here (λ named. let k : v ≡ y = (let e : Some v ≡ Some y = its.only y (out x said stands named) in cc) in let l = low in omega (arith, l, k, same)) in
        both formed.0 formed.1 (λ w is. let k : v ≡ w = (let e : Some v ≡ Some w = its.only w is in cc) in sym k ∙ same)
  ]

  split : (b : Bool) → is_present (s.power y) ≡ b → HasBase s x said
  split false off = single (λ z o may there.
      let here = (says_of_lost s x z o there.says).present in
      false≢true (sym off ∙ subst (λ (k : ℕ). is_present (s.power k) ≡ true) (left_is z o there) here))
  split true here = let own = weak_of_sound slots s h lo (sound_now slots s h lo down start.synced start.held) in by_weak here own.0 own.1

  -- Where a run begins there is a base.
  pub some_base : (base : ℕ → ℕ) × (ticks : ℕ) × IsBase s x said base ticks
  unfolding HasBase
  some_base = split (is_present (s.power y)) refl
