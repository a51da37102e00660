-- What is held once an interrupted commit was ended, and once an absent disk was marked then.
use Rattle.std.specs.Prelude.{◌≡◌, ℕ, ◌<◌, ◌≤◌, true, false, Option, Some, take}
use Rattle.std.proofs.Common.{refl, sym, ◌∙◌, ap, subst, arith, inl, inr, length-append}
use Rattle.std.proofs.lemmas.Bool.{cases_lt}
use Rattle.paraid_base.specs.History.{History}
use Rattle.paraid_rack.specs.declared.call.Power.TheVariants.{Spinning}
use Rattle.paraid_rack.specs.Disks.{Disks, is_present}
use Rattle.paraid_rack.specs.Trail.{Trail, disks, extend, moments, now}
use Rattle.paraid_rack.specs.Told.{Extends}
use Rattle.paraid_record.specs.declared.meta.Meta.{Meta}
use Rattle.paraid_image.specs.HeldAt.{IsHeld}
use Rattle.paraid_image.specs.Out.{IsMissing, IsWeak, named_out, out_disk}
use Rattle.paraid_image.specs.Out.IsWeak.{out as out_weak}
use Rattle.paraid_image.specs.Rest.{IsAtRest}
use Rattle.paraid_image.specs.Sides.{Batch, LogState}
use Rattle.paraid_image.proofs.CallLemmas.{out_named}
use Rattle.paraid_txn.specs.Commit.{EndsCommitted, IsEitherMissing, IsNext}
use Rattle.paraid_txn.specs.Resume.{IsResumable, EndsResumed}
use Rattle.paraid_txn.proofs.RanLemmas.{commits_now, settles_now}
use Rattle.paraid_recover.specs.Bearing.{EndsBorne, IsNewlyNamed}
use Rattle.paraid_recover.specs.HeldMoments.{EndsHeld, IsAbsentOne, IsAbsentSince, KeepsHeld, RecoversHeld}
use Rattle.paraid_recover.proofs.RecoverLemmas.{disks_before, disks_last, middle}
use Rattle.paraid_recover.proofs.HeldAtRestLemmas.{rest_held}
use Rattle.paraid_recover.proofs.QuietCallsLemmas.{resting_from, resting_held}

-- at rest the writes that the meta counts are held, beside the disk that is out by it
pub at_end : (slots : ℕ) (s : Disks) (m : Meta) (h : History) (lo : ℕ) (down : Option ℕ) → IsAtRest s m → IsHeld slots s h lo down
    → IsHeld slots s (take m.writes h) m.writes (out_disk s.power m)
at_end slots s m h lo down rest held =
    rest_held slots s m h lo (out_disk s.power m) rest (resting_held slots m h lo s (resting_from slots s m h lo down rest held))

-- what is said of a start, where the start is known
pub at_start : {slots lo : ℕ} {h : History} {was down : Option ℕ} {x : ℕ} {P : Type 0} (a b t : Trail) (said : LogState) → a ≡ b
    → (IsResumable (now a) x said → IsHeld slots (now a) h lo was → IsAbsentSince said.meta.setup.geometry.disks t (moments a) (moments t) down
    → ((w : ℕ) → IsWeak (now a) w → down ≡ Some w) → P)
    → IsResumable (now b) x said → IsHeld slots (now b) h lo was → IsAbsentSince said.meta.setup.geometry.disks t (moments b) (moments t) down
    → ((w : ℕ) → IsWeak (now b) w → down ≡ Some w) → P
at_start {slots} {lo} {h} {was} {down} {x} {P} a b t said same it =
    subst (λ (u : Trail). IsResumable (now u) x said → IsHeld slots (now u) h lo was → IsAbsentSince said.meta.setup.geometry.disks t (moments u) (moments t) down
    → ((w : ℕ) → IsWeak (now u) w → down ≡ Some w) → P) same it

some_same : (down : Option ℕ) (d e : ℕ) → down ≡ Some d → down ≡ Some e → d ≡ e
some_same down d e p q = let z : Some d ≡ Some e = sym p ∙ q in cc

-- where an interrupted commit was ended
pub ends_resumed : (slots x : ℕ) (said : LogState) (old new : Option Trail) → RecoversHeld slots x said old new → EndsResumed old new x said → EndsHeld slots x said said.meta old new
ends_resumed slots x said old new holds settles t tells =
    let r = holds t tells in
    let s = settles_now old new x said settles t tells in
    let same : s.0 ≡ r.0 = (let z : Some s.0 ≡ Some r.0 = sym s.1 ∙ r.1 in cc) in (
      r.0,
      r.1,
      λ h lo was down broken held absent weak.
          let end = subst (λ (u : Disks). IsHeld slots u h lo down) (disks_last t) (r.3 h lo (moments t) was down broken held r.2 (omega arith) absent weak) in
          let resumed = s.2 (subst (λ (u : Trail). IsResumable (now u) x said) (sym same) broken) in
          let missing : (d : ℕ) → IsEitherMissing (now t).power said.meta said.meta d → down ≡ Some d = λ d e.
          let one : IsMissing (now t).power said.meta d → down ≡ Some d = λ p. elim p.is [
            | inl gone ↦ absent (moments t) d r.2 (omega arith) p.disk (ap (λ (u : Disks). is_present (u.power d)) (disks_last t) ∙ gone)
            | inr name ↦ weak d (out_weak x said broken.log.stands (out_named (now r.0).power said.meta d name))
          ] in elim e [ inl p ↦ one p | inr p ↦ one p ] in
          let rest = resumed.rest (record { one = λ d e p q. some_same down d e (missing d p) (missing e q) }) in
          (rest, at_end slots (now t) said.meta h lo down rest end),
    )

-- and while then an absent disk is marked
pub then_marked : (slots x : ℕ) (said : LogState) (old mid new : Option Trail) (d : ℕ) → d < said.meta.setup.geometry.disks
    → ((e : ℕ) → named_out said.meta.out ≡ Some e → e ≡ d) → ((t : Trail) → mid ≡ Some t → is_present ((now t).power d) ≡ false) → Extends mid new
    → RecoversHeld slots x said old mid → EndsHeld slots x said said.meta old mid
    → KeepsHeld (λ s. IsAtRest s said.meta) slots said.meta.setup.geometry.disks mid new → RecoversHeld slots x said old new
then_marked slots x said old mid new d low only gone second before ends after t tells =
    let a = after t tells in
    let b = before a.0 a.1 in
    let e = second t tells in
    let s = ends a.0 a.1 in
    let same : e.from ≡ a.0 = (let z : Some e.from ≡ Some a.0 = sym e.was ∙ a.1 in cc) in
    let start : s.0 ≡ b.0 = (let z : Some s.0 ≡ Some b.0 = sym s.1 ∙ b.1 in cc) in
    let longer : t ≡ extend a.0 e.calls = e.is ∙ ap (λ (u : Trail). extend u e.calls) same in
    let at : (j : ℕ) → j ≤ moments a.0 → disks t j ≡ disks a.0 j = λ j le. ap (λ (u : Trail). disks u j) longer ∙ disks_before a.0 e.calls j le in (
      b.0,
      b.1,
      (let l = b.2 in let k = a.2 in omega arith),
      λ h lo m was down broken held from to absent weak.
          let earlier : (n : ℕ) → moments b.0 ≤ n → n ≤ moments a.0 → n ≤ m → IsHeld slots (disks a.0 n) h lo down = λ n n_from n_to le.
          b.3 h lo n was down broken held n_from n_to
          (λ j d j_from j_to l gone. absent j d j_from (omega arith) l (ap (λ (u : Disks). is_present (u.power d)) (at j (omega arith)) ∙ gone)) weak in
          elim (cases_lt (moments a.0) m) [
            | inr le ↦ subst (λ (u : Disks). IsHeld slots u h lo down) (sym (at m le)) (earlier m from le (omega arith))
            | inl gt ↦
                let l = b.2 in
                let held_mid = subst (λ (u : Disks). IsHeld slots u h lo down) (disks_last a.0) (earlier (moments a.0) l (omega arith) (omega arith)) in
                let end_same = at (moments a.0) (omega arith) ∙ disks_last a.0 in
                let absent_mid : IsAbsentOne said.meta.setup.geometry.disks (now a.0) down = λ d low gone.
                absent (moments a.0) d l (omega arith) low (ap (λ (u : Disks). is_present (u.power d)) end_same ∙ gone) in
                let absent_since : IsAbsentSince said.meta.setup.geometry.disks a.0 (moments b.0) (moments a.0) down = λ j d j_from j_to l gone.
                absent j d j_from (omega arith) l (ap (λ (u : Disks). is_present (u.power d)) (at j j_to) ∙ gone) in
                let rest = (at_start s.0 b.0 a.0 said start (s.2 h lo was down) broken held absent_since weak).0 in
                a.3 h lo m down down rest held_mid (omega arith) to absent_mid (λ d low gone. absent m d from (omega arith) low gone)
          ],
    )

-- and where a disk was marked then
pub ends_marked : (slots x : ℕ) (said : LogState) (after : Meta) (batch : Batch) (old mid new : Option Trail) → (d : ℕ) → d < said.meta.setup.geometry.disks
    → ((e : ℕ) → named_out said.meta.out ≡ Some e → e ≡ d)
    → named_out after.out ≡ Some d → after.setup ≡ said.meta.setup
    → ((t : Trail) → mid ≡ Some t → is_present ((now t).power d) ≡ false)
    → ((s : Disks) → IsAtRest s said.meta → IsNext s said.meta after)
    → Extends old mid → Extends mid new → RecoversHeld slots x said old new → EndsHeld slots x said said.meta old mid
    → EndsCommitted mid new said.meta after batch → EndsHeld slots x said after old new
ends_marked slots x said after batch old mid new d low only names setup gone next first second holds ends commits t tells =
    let r = holds t tells in
    let c = commits_now mid new said.meta after batch commits t tells in
    let s = ends c.0 c.1 in
    let e = second t tells in
    let f = first c.0 c.1 in
    let same : s.0 ≡ r.0 = (let z : Some s.0 ≡ Some r.0 = sym s.1 ∙ r.1 in cc) in
    let mid_same : e.from ≡ c.0 = (let z : Some e.from ≡ Some c.0 = sym e.was ∙ c.1 in cc) in
    let start_same : f.from ≡ r.0 = (let z : Some f.from ≡ Some r.0 = sym f.was ∙ r.1 in cc) in (
      r.0,
      r.1,
      λ h lo was down broken held absent weak.
          let end = subst (λ (u : Disks). IsHeld slots u h lo down) (disks_last t) (r.3 h lo (moments t) was down broken held r.2 (omega arith) absent weak) in
          let mid_in = middle r.0 c.0 t _ _ (f.is ∙ ap (λ (u : Trail). extend u f.calls) start_same) (e.is ∙ ap (λ (u : Trail). extend u e.calls) mid_same) in
          let absent_mid : (b : ℕ) → b < said.meta.setup.geometry.disks → is_present ((now c.0).power b) ≡ false → down ≡ Some b = λ b lb off.
          absent (moments c.0) b mid_in.0 mid_in.1 lb (ap (λ (u : Disks). is_present (u.power b)) mid_in.2 ∙ off) in
          let longer : t ≡ extend c.0 e.calls = e.is ∙ ap (λ (u : Trail). extend u e.calls) mid_same in
          let absent_since : IsAbsentSince said.meta.setup.geometry.disks c.0 (moments r.0) (moments c.0) down = λ j b from to l off.
          absent j b from (let le = mid_in.1 in omega arith) l (ap (λ (u : Disks). is_present (u.power b)) (ap (λ (u : Trail). disks u j) longer ∙ disks_before c.0 e.calls j to) ∙ off) in
          let before_rest = (at_start s.0 r.0 c.0 said same (s.2 h lo was down) broken held absent_since weak).0 in
          let committed = c.2 before_rest (next (now c.0) before_rest) in
          let down_d = absent_mid d low (gone c.0 c.1) in
          let missing : (b : ℕ) → IsEitherMissing (now t).power said.meta after b → down ≡ Some b = λ b e.
          let off : (n : ℕ) → n ≡ said.meta.setup.geometry.disks → b < n → is_present ((now t).power b) ≡ false → down ≡ Some b = λ n is lb gone_now.
          absent (moments t) b r.2 (omega arith) (omega arith) (ap (λ (u : Disks). is_present (u.power b)) (disks_last t) ∙ gone_now) in
          elim e [
            | inl p ↦ elim p.is [
              | inl gone_now ↦ off _ refl p.disk gone_now
              | inr name ↦ down_d ∙ ap (λ (y : ℕ). Some y) (sym (only b name))
            ]
            | inr p ↦ elim p.is [
              | inl gone_now ↦ off _ (ap (λ v. v.geometry.disks) setup) p.disk gone_now
              | inr name ↦ down_d ∙ sym names ∙ name
            ]
          ] in
          let rest = committed.rest (record { one = λ a b p q. some_same down a b (missing a p) (missing b q) }) in
          (rest, at_end slots (now t) after h lo down rest end),
    )

-- and witness is borne against it, where it is a log disk that was not named out before
pub borne_marked : (slots x : ℕ) (said : LogState) (after : Meta) (batch : Batch) (old mid new : Option Trail) → ((s : Disks) → IsAtRest s said.meta → IsNext s said.meta after)
    → ((u : Trail) → mid ≡ Some u → (y : ℕ) → IsNewlyNamed (named_out said.meta.out) (named_out after.out) y → is_present ((now u).power 2) ≡ true → ((now u).power 2 ≡ Spinning) × (1 < (now u).size 2))
    → Extends mid new → EndsHeld slots x said said.meta old mid → EndsCommitted mid new said.meta after batch
    → EndsBorne (IsNewlyNamed (named_out said.meta.out) (named_out after.out)) slots x said old new
borne_marked slots x said after batch old mid new next can second ends commits t tells =
    let c = commits_now mid new said.meta after batch commits t tells in
    let s = ends c.0 c.1 in
    let e = second t tells in
    let mid_same : e.from ≡ c.0 = (let z : Some e.from ≡ Some c.0 = sym e.was ∙ c.1 in cc) in
    let longer : t ≡ extend c.0 e.calls = e.is ∙ ap (λ (u : Trail). extend u e.calls) mid_same in
    let long : moments c.0 ≤ moments t = (let l = ap moments longer ∙ length-append c.0.calls e.calls in omega arith) in (
      s.0,
      s.1,
      λ h lo was down broken held absent weak y newly.
          let absent_since : IsAbsentSince said.meta.setup.geometry.disks c.0 (moments s.0) (moments c.0) down = λ j b from to l off.
          absent j b from (omega arith) l (ap (λ (u : Disks). is_present (u.power b)) (ap (λ (u : Trail). disks u j) longer ∙ disks_before c.0 e.calls j to) ∙ off) in
          let rest = (s.2 h lo was down broken held absent_since weak).0 in
          (c.2 rest (next (now c.0) rest)).borne (can c.0 c.1 y newly) y newly.0.1 newly.0.0,
    )
