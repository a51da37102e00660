-- What is told of the calls from one record to another, for each start, and of their moments.
use Rattle.std.specs.Prelude.{◌≡◌, ℕ, ◌≤◌, List, [], ◌∷◌, ◌++◌, Option, Some}
use Rattle.std.proofs.Common.{sym, ◌∙◌, ap, subst}
use Rattle.std.proofs.lemmas.List.{append_cancel_left}
use Rattle.paraid_rack.specs.declared.call.Call.{Call}
use Rattle.paraid_rack.specs.Disks.{Disks, step}
use Rattle.paraid_rack.specs.Told.{Came, Ran, CrashTriple, Through}
use Rattle.paraid_rack.specs.Trail.{Trail, disks, extend, initial, moments, now, run}
use Rattle.paraid_rack.proofs.TrailsLemmas.{moments_of, now-extend}
use Rattle.paraid_record.specs.declared.meta.Meta.{Meta}
use Rattle.paraid_image.specs.Rest.{IsAtRest}
use Rattle.paraid_txn.specs.Commit.{EndsCommitted, IsCommitted, IsEachImage, IsNext, IsOldOrNew, IsWholeOrAbsent}
use Rattle.paraid_txn.specs.Resume.{IsResumable, StandsWhileResumed, EndsResume, ImageStandsForResumed, EndsResumed}
use Rattle.paraid_image.specs.Sides.{Batch, LogState}

-- less is said at each moment
pub through_milder : (P Q : Disks → Type 0) → ((s : Disks) → P s → Q s) → (s : Disks) (cs : List Call) → Through P s cs → Through Q s cs
through_milder P Q is s [] t = is s t
through_milder P Q is s (c ∷ cs) t = (is s t.0, through_milder P Q is (step c s) cs t.1)

-- what holds at each moment holds at the last one
pub Through-end : (P : Disks → Type 0) (s : Disks) (cs : List Call) → Through P s cs → P (run s cs)
Through-end P s [] t = t
Through-end P s (c ∷ cs) t = Through-end P (step c s) cs t.1

-- The calls are the same whatever start they are told of: so what is told for each start of which
-- `G` holds is told of the start that they had.
module _ (P A B : Disks → Disks → Type 0) (G : Disks → Type 0) (some : Disks) (it : G some) (old new : Option Trail)
    (ran : (start : Disks) → G start → Ran old new (CrashTriple (P start) (A start) (B start))) where
  abbrev Goes : Disks → Disks → List Call → Type 0
  Goes start s calls = A start s → Through (P start) s calls × B start (run s calls)

  pub ran_given : Ran old new (λ start calls. G start → Goes start start calls)
  ran_given t tells =
      let first = ran some it t tells in
      record {
        from = first.from;
        was = first.was;
        calls = first.calls;
        is = first.is;
        holds = λ g.
            let start = now first.from in
            let r = ran start g t tells in
            let same : r.from ≡ first.from = (let e : Some r.from ≡ Some first.from = sym r.was ∙ first.was in cc) in
            let all : first.from.calls ++ r.calls ≡ first.from.calls ++ first.calls =
            ap (λ (u : Trail). (extend u r.calls).calls) (sym same) ∙ ap (λ (u : Trail). u.calls) (sym r.is ∙ first.is) in
            subst (Goes start start) (append_cancel_left first.from.calls r.calls first.calls all)
            (subst (λ (u : Trail). Goes start (now u) r.calls) same r.holds.goes);
      }

module _ (P A B : Disks → Disks → Type 0) (old new : Option Trail) (ran : (start : Disks) → Ran old new (CrashTriple (P start) (A start) (B start))) where
  pub ran_from : Ran old new (λ start calls. A start start → Through (P start) start calls × B start (run start calls))
  ran_from t tells =
      let r = ran_given P A B (λ s. Unit {0}) (initial []) tt old new (λ start g. ran start) t tells in
      record { from = r.from; was = r.was; calls = r.calls; is = r.is; holds = r.holds tt }

-- by moments
pub ran_moments : (P : Disks → Disks → Type 0) (G : Disks → Type 0) (old new : Option Trail) → Ran old new (λ start calls. G start → Through (P start) start calls)
    → (t : Trail) → new ≡ Some t → (s : Trail) × (old ≡ Some s) × (moments s ≤ moments t)
    × (G (now s) → (m : ℕ) → moments s ≤ m → m ≤ moments t → P (now s) (disks t m))
ran_moments P G old new ran t tells =
    let r = ran t tells in
    let start = now r.from in
    let m = moments_of (P start) (λ s. Through (P start) s r.calls) (λ s. Unit {0}) old new (one r) t tells in
    let same : m.0 ≡ r.from = (let e : Some m.0 ≡ Some r.from = sym m.1 ∙ r.was in cc) in (
      r.from,
      r.was,
      subst (λ (u : Trail). moments u ≤ moments t) same m.2,
      λ g n from to.
          (m.3 (subst (λ (u : Trail). Through (P start) (now u) r.calls) (sym same) (r.holds g))).1 n (subst (λ (u : Trail). moments u ≤ n) (sym same) from) to,
    )
  where
    one : (r : Came old t (λ start calls. G start → Through (P start) start calls))
        → Ran old new (CrashTriple (P (now r.from)) (λ s. Through (P (now r.from)) s r.calls) (λ s. Unit {0}))
    one r u tells_u =
        let same : t ≡ u = (let e : Some t ≡ Some u = sym tells ∙ tells_u in cc) in
        record { from = r.from; was = r.was; calls = r.calls; is = sym same ∙ r.is; holds = record { goes = λ a. (a, tt) } }

-- and at their end
pub ran_now : (Q : Disks → Disks → Type 0) (old new : Option Trail) → Ran old new (λ start calls. Q start (run start calls))
    → (t : Trail) → new ≡ Some t → (s : Trail) × (old ≡ Some s) × Q (now s) (now t)
ran_now Q old new ran t tells =
    let r = ran t tells in
    (r.from, r.was, subst (Q (now r.from)) (sym (ap now r.is ∙ now-extend r.from r.calls)) r.holds)

-- a commit, by its moments
pub commit_moments : (old new : Option Trail) (before after : Meta) (batch : Batch) → IsWholeOrAbsent old new before after batch → (t : Trail) → new ≡ Some t
    → (s : Trail) × (old ≡ Some s) × (moments s ≤ moments t)
    × (IsAtRest (now s) before → IsNext (now s) before after → (m : ℕ) → moments s ≤ m → m ≤ moments t → IsOldOrNew (now s) before after batch (disks t m))
commit_moments old new before after batch ran t tells =
    let m = ran_moments (λ start. IsOldOrNew start before after batch) (λ start. IsAtRest start before × IsNext start before after) old new
    (λ u tells_u. let r = ran u tells_u in record { from = r.from; was = r.was; calls = r.calls; is = r.is; holds = λ g. r.holds g.0 g.1 }) t tells in
    (m.0, m.1, m.2, λ rest next. m.3 (rest, next))

-- and at its end
pub commits_now : (old new : Option Trail) (before after : Meta) (batch : Batch) → EndsCommitted old new before after batch → (t : Trail) → new ≡ Some t
    → (s : Trail) × (old ≡ Some s) × (IsAtRest (now s) before → IsNext (now s) before after → IsCommitted (now s) (now t) before after batch)
commits_now old new before after batch = ran_now (λ start end. IsAtRest start before → IsNext start before after → IsCommitted start end before after batch) old new

-- the end of an interrupted commit, by its moments
pub resume_moments : (old new : Option Trail) (x : ℕ) (said : LogState) → StandsWhileResumed old new x said → (t : Trail) → new ≡ Some t
    → (s : Trail) × (old ≡ Some s) × (moments s ≤ moments t)
    × (IsResumable (now s) x said → (m : ℕ) → moments s ≤ m → m ≤ moments t → IsEachImage said.meta said.meta (ImageStandsForResumed (now s) x said) (disks t m))
resume_moments old new x said = ran_moments (λ start. IsEachImage said.meta said.meta (ImageStandsForResumed start x said)) (λ start. IsResumable start x said) old new

-- and at its end
pub settles_now : (old new : Option Trail) (x : ℕ) (said : LogState) → EndsResumed old new x said → (t : Trail) → new ≡ Some t
    → (s : Trail) × (old ≡ Some s) × (IsResumable (now s) x said → EndsResume (now t) said.meta)
settles_now old new x said = ran_now (λ start end. IsResumable start x said → EndsResume end said.meta) old new
