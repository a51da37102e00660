-- Which meta stands in calls during which the disks are at rest under one meta.
use Rattle.std.specs.Prelude.{◌≡◌, ℕ, ◌+◌, ◌-◌, ◌≤◌, List, [], ◌∷◌, Option, Some, take, drop, length}
use Rattle.std.proofs.Common.{zero, suc, refl, sym, ◌∙◌, ap, subst, arith, inl, inr, length-append}
use Rattle.std.proofs.lemmas.Bool.{cases_lt}
use Rattle.std.proofs.lemmas.List.{length-take-le, take-append-drop}
use Rattle.paraid_base.specs.History.{History}
use Rattle.paraid_rack.specs.declared.call.Call.{Call}
use Rattle.paraid_rack.specs.Disks.{Disks, is_present, step}
use Rattle.paraid_rack.specs.Told.{Came, Ran}
use Rattle.paraid_rack.specs.Trail.{Trail, disks, extend, moments, now}
use Rattle.paraid_rack.proofs.TrailsLemmas.{extend-extend}
use Rattle.paraid_record.specs.declared.meta.Meta.{Meta}
use Rattle.paraid_image.specs.HeldAt.{IsHeld}
use Rattle.paraid_image.specs.Looked.{IsLooked}
use Rattle.paraid_image.specs.Looked.IsLooked.{lost, whole}
use Rattle.paraid_image.specs.Out.{IsWeak, out_disk}
use Rattle.paraid_image.specs.Rest.{IsAtRest}
use Rattle.paraid_image.specs.Sides.{LogState}
use Rattle.paraid_image.specs.Standing.{Stands}
use Rattle.paraid_txn.specs.Resume.{IsResumable}
use Rattle.paraid_txn.specs.Uses.{EachCall}
use Rattle.paraid_recover.specs.HeldMoments.{EndsHeld, IsAbsentSince, IsOutAtEnd, Recovers, RecoversHeld}
use Rattle.paraid_recover.specs.Powers.{IsPowerCall}
use Rattle.paraid_recover.specs.Quiet.{IsReadOrSync}
use Rattle.paraid_recover.specs.StandingMetas.{StandsForeseen, StandsInMoments}
use Rattle.paraid_recover.specs.StandingMetas.StandsForeseen.{same}
use Rattle.paraid_recover.proofs.HeldAtRestLemmas.{said_lost, said_whole}
use Rattle.paraid_recover.proofs.QuietCallsLemmas.{quiet_recovers}
use Rattle.paraid_recover.proofs.RecoverLemmas.{disks_before, disks_last}
use Rattle.paraid_recover.proofs.TurnsLemmas.{turns_end}

-- at rest one meta stands in each image that is looked at
pub rest_meta : (slots : ℕ) (s : Disks) (m : Meta) (h : History) (lo : ℕ) (down : Option ℕ) → IsAtRest s m → IsHeld slots s h lo down → (i : Disks) (z : ℕ) (o : LogState) → IsLooked s i → Stands i z o → o.meta ≡ m
rest_meta slots s m h lo down rest held i z o (whole image) stands = ap (λ (k : LogState). k.meta) (said_whole slots s m h lo down rest held i z o image stands)
rest_meta slots s m h lo down rest held i z o (lost j d image may is) stands =
    ap (λ (k : LogState). k.meta) (said_lost slots s m h lo down rest held j d z o image may (subst (λ (u : Disks). Stands u z o) (sym is) stands))

-- the first calls are of the same kind
pub each_first : (uses : Call → Type 0) (k : ℕ) (s : Disks) (cs : List Call) → EachCall uses s cs → EachCall uses s (take k cs)
each_first uses zero s cs each = tt
each_first uses (suc k) s [] each = tt
each_first uses (suc k) s (c ∷ cs) each = (each.0, each.1, each_first uses k (step c s) cs each.2)

-- the record after the first of some calls
abbrev pub cut : (mid : Option Trail) (t : Trail) {Q : Disks → List Call → Type 0} → Came mid t Q → ℕ → Trail
cut mid t came k = extend came.from (take k came.calls)

pub first_ran : (uses : Call → Type 0) (mid : Option Trail) (t : Trail) (came : Came mid t (EachCall uses)) (k : ℕ) → Ran mid (Some (cut mid t came k)) (EachCall uses)
first_ran uses mid t came k u tells =
    let is : cut mid t came k ≡ u = (let z : Some (cut mid t came k) ≡ Some u = tells in cc) in
    record { from = came.from; was = came.was; calls = take k came.calls; is = sym is; holds = each_first uses k (now came.from) came.calls came.holds }

-- Calls in which at each moment the disks are at rest under this meta.
module _ (slots x : ℕ) (said : LogState) (m : Meta) (uses : Call → Type 0) (old mid new : Option Trail) (ran : Ran mid new (EachCall uses)) (metas : StandsInMoments slots x said old mid)
    (allowed : (s i : Disks) → StandsForeseen s x said i m)
    (ends : (t : Trail) (tells : new ≡ Some t) (k : ℕ) → EndsHeld slots x said m old (Some (cut mid t (ran t tells) k))) where
  abbrev n : ℕ
  n = said.meta.setup.geometry.disks

  module _ (t : Trail) (tells : new ≡ Some t) where
    abbrev end : Trail
    end = (ran t tells).from

    told : mid ≡ Some end
    told = (ran t tells).was

    abbrev start : Trail
    start = (metas end told).0

    long : moments t ≡ moments end + length (ran t tells).calls
    long = ap moments (ran t tells).is ∙ length-append end.calls (ran t tells).calls

    at : (j : ℕ) → j ≤ moments end → disks t j ≡ disks end j
    at j le = ap (λ (u : Trail). disks u j) (ran t tells).is ∙ disks_before end (ran t tells).calls j le

    module _ (k : ℕ) (le : k ≤ length (ran t tells).calls) where
      abbrev part : Trail
      part = cut mid t (ran t tells) k

      part_long : moments part ≡ moments end + k
      part_long = length-append end.calls (take k (ran t tells).calls) ∙ ap (λ (l : ℕ). moments end + l) (length-take-le k (ran t tells).calls le)

      goes_on : t ≡ extend part (drop k (ran t tells).calls)
      goes_on = (ran t tells).is ∙ ap (extend end) (sym (take-append-drop k (ran t tells).calls)) ∙ sym (extend-extend end (take k (ran t tells).calls) (drop k (ran t tells).calls))

      part_at : (j : ℕ) → j ≤ moments part → disks t j ≡ disks part j
      part_at j l = ap (λ (u : Trail). disks u j) goes_on ∙ disks_before part (drop k (ran t tells).calls) j l

      module _ (h : History) (lo : ℕ) (was down : Option ℕ) (broken : IsResumable (now start) x said) (held : IsHeld slots (now start) h lo was)
          (weak : (w : ℕ) → IsWeak (now start) w → down ≡ Some w) (absent : IsAbsentSince n t (moments start) (moments end + k) down) where
        abbrev Rests : Type 0
        Rests = IsAtRest (now part) m × IsHeld slots (now part) (take m.writes h) m.writes (out_disk (now part).power m)

        rests : Rests
        rests =
            let it = ends t tells k part refl in
            let first : it.0 ≡ start = (let z : Some it.0 ≡ Some start = sym it.1 ∙ (metas end told).1 in cc) in
            (subst (λ (u : Trail). IsResumable (now u) x said → IsHeld slots (now u) h lo was → IsAbsentSince n part (moments u) (moments part) down
            → ((w : ℕ) → IsWeak (now u) w → down ≡ Some w) → Rests) first (it.2 h lo was down)) broken held
            (λ j d from to l gone. absent j d from (let e = part_long in omega arith) l (ap (λ (u : Disks). is_present (u.power d)) (part_at j to) ∙ gone)) weak

        resting_meta : (i : Disks) (z : ℕ) (o : LogState) → IsLooked (disks t (moments end + k)) i → Stands i z o → StandsForeseen (now start) x said i o.meta
        resting_meta i z o looked stands =
            let here : disks t (moments end + k) ≡ now part = ap (disks t) (sym part_long) ∙ part_at (moments part) (omega arith) ∙ disks_last part in
            let is = rest_meta slots (now part) m (take m.writes h) m.writes (out_disk (now part).power m) rests.0 rests.1 i z o (subst (λ (u : Disks). IsLooked u i) here looked) stands in
            subst (StandsForeseen (now start) x said i) (sym is) (allowed (now start) i)

    module _ (h : History) (lo : ℕ) (was down : Option ℕ) (broken : IsResumable (now start) x said) (held : IsHeld slots (now start) h lo was)
        (weak : (w : ℕ) → IsWeak (now start) w → down ≡ Some w) (j : ℕ) (absent : IsAbsentSince n t (moments start) j down) where
      earlier : moments start ≤ j → j ≤ moments end → (i : Disks) (z : ℕ) (o : LogState) → IsLooked (disks t j) i → Stands i z o → StandsForeseen (now start) x said i o.meta
      earlier from to i z o looked stands =
          (metas end told).3 h lo j was down broken held from to
          (λ k d k_from k_to l gone. absent k d k_from k_to l (ap (λ (u : Disks). is_present (u.power d)) (at k (omega arith)) ∙ gone)) weak i z o
          (subst (λ (u : Disks). IsLooked u i) (at j to) looked) stands

      later : moments end ≤ j → j ≤ moments t → (i : Disks) (z : ℕ) (o : LogState) → IsLooked (disks t j) i → Stands i z o → StandsForeseen (now start) x said i o.meta
      later from to i z o looked stands =
          let split : moments end + (j - moments end) ≡ j = omega arith in
          let le : j - moments end ≤ length (ran t tells).calls = (let l = long in omega arith) in
          resting_meta (j - moments end) le h lo was down broken held weak (subst (λ (q : ℕ). IsAbsentSince n t (moments start) q down) (sym split) absent) i z o
          (subst (λ (q : ℕ). IsLooked (disks t q) i) (sym split) looked) stands

  pub resting_metas : StandsInMoments slots x said old new
  resting_metas t tells = (
    start t tells,
    (metas (end t tells) (told t tells)).1,
    (let from = (metas (end t tells) (told t tells)).2 in let more = long t tells in omega arith),
    λ h lo j was down broken held from to absent weak i z o looked stands. elim (cases_lt (moments (end t tells)) j) [
      | inr le ↦ earlier t tells h lo was down broken held weak j absent from le i z o looked stands
      | inl gt ↦ later t tells h lo was down broken held weak j absent (omega arith) to i z o looked stands
    ],
  )

-- in reads and syncs after an interrupted commit was ended
pub quiet_metas : (slots x : ℕ) (said : LogState) (old mid new : Option Trail) → Ran mid new (EachCall (IsReadOrSync said.meta.setup.geometry.disks)) → Recovers slots x said old mid
    → StandsInMoments slots x said old mid → StandsInMoments slots x said old new
quiet_metas slots x said old mid new ran recovers metas =
    let quiet = IsReadOrSync said.meta.setup.geometry.disks in
    resting_metas slots x said said.meta quiet old mid new ran metas (λ s i. same refl)
    (λ t tells k. (quiet_recovers slots x said old mid (Some (cut mid t (ran t tells) k)) (first_ran quiet mid t (ran t tells) k) recovers).ends)

-- and while the disks are powered by the gear
pub turns_metas : (slots x : ℕ) (said : LogState) (m : Meta) (old mid new : Option Trail) → m.setup.geometry.disks ≡ said.meta.setup.geometry.disks → IsOutAtEnd said m mid
    → Ran mid new (EachCall (IsPowerCall m)) → RecoversHeld slots x said old mid → EndsHeld slots x said m old mid → ((s i : Disks) → StandsForeseen s x said i m)
    → StandsInMoments slots x said old mid → StandsInMoments slots x said old new
turns_metas slots x said m old mid new disks who ran holds ends allowed metas =
    resting_metas slots x said m (IsPowerCall m) old mid new ran metas allowed
    (λ t tells k. turns_end slots x said m old mid (Some (cut mid t (ran t tells) k)) disks who (first_ran (IsPowerCall m) mid t (ran t tells) k) holds ends)
