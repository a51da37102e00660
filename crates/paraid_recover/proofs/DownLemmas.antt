-- From the disks that are absent to those that are down.
use Rattle.std.proofs.Common.{◌≡◌, ℕ, ◌<◌, ◌≤◌, ◌⊎◌, Bool, true, false, List, [], ◌∷◌, Option, Some, None, refl, sym, ap, ◌∙◌, inl, inr, subst, arith, if◌then◌else◌, zero, suc, take, length}
use Rattle.std.specs.Prelude.{◌==◌}
use Rattle.std.proofs.lemmas.Bool.{false≢true}
use Rattle.std.proofs.lemmas.Bool.Decides.{nat_tests}
use Rattle.paraid_base.specs.History.{History}
use Rattle.paraid_rack.specs.Alike.{IsAlike}
use Rattle.paraid_rack.specs.declared.call.Call.{Call}
use Rattle.paraid_rack.specs.Disks.{Disks, IsImage, is_present}
use Rattle.paraid_rack.specs.Trail.{run}
use Rattle.paraid_image.specs.Calls.{disk_of, is_done}
use Rattle.paraid_image.specs.HeldAt.{IsHeld}
use Rattle.paraid_image.specs.Out.{IsWeak}
use Rattle.paraid_image.specs.Out.IsWeak.{out}
use Rattle.paraid_image.specs.Rest.{AreSynced}
use Rattle.paraid_image.specs.RunStart.{IsRunStart}
use Rattle.paraid_image.specs.Sides.{LogState}
use Rattle.paraid_image.specs.Sound.{LogOk}
use Rattle.paraid_image.specs.Standing.{Stands}
use Rattle.paraid_image.proofs.AlikeLemmas.{sound_alike, weak_alike}
use Rattle.paraid_image.proofs.OutLemmas.{missing_is_out, says_in_range}
use Rattle.paraid_image.proofs.StandingLemmas.{Stands-same}
use Rattle.paraid_session.specs.Mount.{start_watch}
use Rattle.paraid_session.specs.Watch.{Down, Each, IsAmongDown, IsHeldWhileServing, IsServing, Watch, down_from_out, nobody, only, several, watch, watch_all, with_down}
use Rattle.paraid_session.proofs.LayerLemmas.{absent_before}
use Rattle.paraid_session.proofs.RunStartLemmas.{synced_alike}
use Rattle.paraid_recover.specs.StartHeld.{HoldsAfter}

in_with_by : (e f d : ℕ) (same : Bool) → d ≡ f → IsAmongDown (if same then only f else several) d
in_with_by e f d true is = is
in_with_by e f d false is = tt

-- a disk that is down stays so beside a further one
in_with : (e : ℕ) (down : Down) (d : ℕ) → IsAmongDown down d → IsAmongDown (with_down e down) d
in_with e nobody d is = absurd is
in_with e (only f) d is = in_with_by e f d (e == f) is
in_with e several d is = tt

in_with_self_by : (d f : ℕ) (same : Bool) → (same ≡ true → d ≡ f) → IsAmongDown (if same then only f else several) d
in_with_self_by d f true is = is refl
in_with_self_by d f false is = tt

same_if : (d f : ℕ) → (d == f) ≡ true → d ≡ f
same_if d f e = grind (arith, nat_tests)

in_with_self : (d : ℕ) (down : Down) → IsAmongDown (with_down d down) d
in_with_self d nobody = refl
in_with_self d (only f) = in_with_self_by d f (d == f) (same_if d f)
in_with_self d several = tt

-- after a call the disks that were down are so, and its own where it failed
in_after_by : (done : Bool) (e : ℕ) (down : Down) (d : ℕ) → IsAmongDown down d ⊎ ((done ≡ false) × (d ≡ e)) → IsAmongDown (if done then down else with_down e down) d
in_after_by true e down d is = elim is [ inl before ↦ before | inr failed ↦ absurd (false≢true (sym failed.0)) ]
in_after_by false e down d is = elim is [
  | inl before ↦ in_with e down d before
  | inr failed ↦ subst (λ (x : ℕ). IsAmongDown (with_down x down) d) failed.1 (in_with_self d down)
]

pub in_after : (w : Watch) (c : Call) (d : ℕ) → IsAmongDown w.down d ⊎ ((is_done c ≡ false) × (d ≡ disk_of c)) → IsAmongDown (watch c w).down d
in_after w c d is = in_after_by (is_done c) (disk_of c) w.down d is

pub in_stays : (w : Watch) (cs : List Call) (d : ℕ) → IsAmongDown w.down d → IsAmongDown (watch_all cs w).down d
in_stays w [] d is = is
in_stays w (c ∷ cs) d is = in_stays (watch c w) cs d (in_after w c d (inl is))

-- a disk that is absent after some calls is down, if it was so where it was absent before
pub in_absent : (w : Watch) (cs : List Call) (d : ℕ) → (is_present (w.disks.power d) ≡ false → IsAmongDown w.down d) → is_present ((run w.disks cs).power d) ≡ false → IsAmongDown (watch_all cs w).down d
in_absent w [] d start off = start off
in_absent w (c ∷ cs) d start off = in_absent (watch c w) cs d (λ here. in_after w c d (elim (absent_before w.disks c d here) [ inl before ↦ inl (start before) | inr failed ↦ inr failed ])) off

-- a disk that is down after a part of the calls is so after a longer one
pub in_later : (w : Watch) (cs : List Call) (j k d : ℕ) → j ≤ k → IsAmongDown (watch_all (take j cs) w).down d → IsAmongDown (watch_all (take k cs) w).down d
in_later w cs zero k d le is = in_stays w (take k cs) d is
in_later w cs (suc j) zero d le is = absurd (omega arith)
in_later w [] (suc j) (suc k) d le is = is
in_later w (c ∷ cs) (suc j) (suc k) d le is = in_later (watch c w) cs j k d (omega arith) is

-- what is held beside each disk that covers those that are down
pub held_by : (slots : ℕ) (s : Disks) (h : History) (lo : ℕ) (down : Down) → (IsServing down → (beside : Option ℕ) → ((d : ℕ) → IsAmongDown down d → beside ≡ Some d) → IsHeld slots s h lo beside) → IsHeldWhileServing slots s h lo down
held_by slots s h lo nobody f = f tt None (λ d is. absurd is)
held_by slots s h lo (only d) f = f tt (Some d) (λ e is. ap (λ (x : ℕ). Some x) (sym is))
held_by slots s h lo several f = tt

pub watched_disks : (w : Watch) (cs : List Call) → (watch_all cs w).disks ≡ run w.disks cs
watched_disks w [] = refl
watched_disks w (c ∷ cs) = watched_disks (watch c w) cs

-- what holds after each part of some calls holds at each moment
pub each_of : (P : Watch → Type 0) (w : Watch) (cs : List Call) → ((k : ℕ) → k ≤ length cs → P (watch_all (take k cs) w)) → Each P (λ (v : Watch) (c : Call). Unit {0}) w cs
each_of P w [] each = each zero (omega arith)
each_of P w (c ∷ cs) each = (each zero (omega arith), tt, each_of P (watch c w) cs (λ k le. each (suc k) (omega arith)))

-- two disks that are down are several
pub several_in : (down : Down) (d e : ℕ) → IsServing down → IsAmongDown down d → IsAmongDown down e → d ≡ e
several_in nobody d e serving is more = absurd is
several_in (only f) d e serving is more = is ∙ sym more
several_in several d e serving is more = absurd serving

-- What is held by the disks that are absent is held by those that are down.
pub each_held : (slots n : ℕ) (w : Watch) (h : History) (lo : ℕ) (cs : List Call) → ((k : ℕ) → k ≤ length cs → IsServing (watch_all (take k cs) w).down → HoldsAfter slots n w.disks h lo cs k)
    → ((v : ℕ) → IsWeak w.disks v → IsAmongDown w.down v)
    → ((d : ℕ) → d < n → is_present (w.disks.power d) ≡ false → IsAmongDown w.down d)
    → Each (λ (v : Watch). IsHeldWhileServing slots v.disks h lo v.down) (λ (v : Watch) (c : Call). Unit {0}) w cs
each_held slots n w h lo cs holds weak absent = each_of (λ (v : Watch). IsHeldWhileServing slots v.disks h lo v.down) w cs (λ k le.
    let now = watch_all (take k cs) w in
    held_by slots now.disks h lo now.down (λ serving beside covers. subst (λ (s : Disks). IsHeld slots s h lo beside) (sym (watched_disks w (take k cs)))
    ((holds k le serving).held beside
    (λ j d j_le low off. covers d (in_later w cs j k d j_le (in_absent w (take j cs) d (absent d low) off)))
    (λ v is. covers v (in_stays w (take k cs) v (weak v is))))))

-- disks of which nothing is loose and that hold a history
module _ (slots : ℕ) (s : Disks) (h : History) (lo : ℕ) (down : Option ℕ) (synced : AreSynced s) (held : IsHeld slots s h lo down) where
  abbrev image : Disks
  image = record s { loose = λ d p. false }

  is_image : IsImage s image
  is_image = record { power = λ d. refl; size = λ d. refl; block = λ d p not. refl; loose = λ d p. refl }

  image_alike : IsAlike s image
  image_alike = synced_alike s image synced is_image

  back_alike : IsAlike image s
  back_alike = record { power = λ d. refl; size = λ d. refl; block = λ d p there. refl; loose = λ d p there. synced d p there.present }

  pub weak_down : (w : ℕ) → IsWeak s w → down ≡ Some w
  weak_down w is = held.weak image w is_image (weak_alike s image w image_alike is)

  -- what stands is in order
  pub stood_log : (x : ℕ) (said : LogState) → Stands s x said → LogOk s x said said.meta.writes
  stood_log x said stands =
      let it = held.whole image is_image in
      let sound = sound_alike slots image s h it.k back_alike it.sound in
      let same = Stands-same s sound.disk x sound.said said sound.log.stands stands in
      let log = subst (λ (o : LogState). LogOk s sound.disk o it.k) same.1 sound.log in
      subst (λ (y : ℕ). LogOk s y said said.meta.writes) same.0 (subst (λ (k : ℕ). LogOk s sound.disk said k) (sym log.writes) log)

  pub absent_weak : (x : ℕ) (said : LogState) → Stands s x said → (d : ℕ) → d < said.meta.setup.geometry.disks → is_present (s.power d) ≡ false → IsWeak s d
  absent_weak x said stands d low off =
      let log = stood_log x said stands in
      let range = says_in_range said.opened _ said.meta said.batch stands.says.log in
      out x said stands (missing_is_out s.power said.meta d range log.single (record { disk = low; is = inl off }) off)

in_down : (d : ℕ) (o : Option ℕ) → o ≡ Some d → IsAmongDown (down_from_out o) d
in_down d None is = let z : None ≡ Some d = is in cc
in_down d (Some e) is = let z : Some e ≡ Some d = is in cc

-- where a run begins, the disk that is down is the weak one, and each that is absent
module _ (slots : ℕ) (s : Disks) (h : History) (lo : ℕ) (down : Option ℕ) (start : IsRunStart slots s h lo down) where
  pub weak_in : (w : ℕ) → IsWeak s w → IsAmongDown (down_from_out down) w
  weak_in w is = in_down w down (weak_down slots s h lo down start.synced start.held w is)

  -- At each moment of a mount what is held is held beside the disk that is down.
  pub mount_held : (x : ℕ) (said : LogState) (base : ℕ → ℕ) (cs : List Call) → Stands s x said
      → ((k : ℕ) → k ≤ length cs → IsServing (watch_all (take k cs) (start_watch s down base)).down → HoldsAfter slots said.meta.setup.geometry.disks s h lo cs k)
      → Each (λ (v : Watch). IsHeldWhileServing slots v.disks h lo v.down) (λ (v : Watch) (c : Call). Unit {0}) (start_watch s down base) cs
  mount_held x said base cs stands holds =
      each_held slots said.meta.setup.geometry.disks (start_watch s down base) h lo cs holds weak_in
      (λ d low off. weak_in d (absent_weak slots s h lo down start.synced start.held x said stands d low off))
