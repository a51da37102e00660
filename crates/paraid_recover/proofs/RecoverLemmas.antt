-- A commit that was interrupted is ended, and then an absent disk is marked.
use Rattle.std.specs.Prelude.{◌≡◌, ℕ, ◌<◌, ◌≤◌, false, [], List, Option, Some}
use Rattle.std.proofs.Common.{sym, ◌∙◌, ap, subst, arith, inl, inr, length-append}
use Rattle.std.proofs.lemmas.List.{take-append-le, take_all}
use Rattle.paraid_rack.specs.declared.call.Call.{Call}
use Rattle.paraid_rack.specs.Disks.{Disks, is_present}
use Rattle.paraid_rack.specs.Trail.{Trail, disks, extend, initial, moments, now, run}
use Rattle.paraid_record.specs.declared.meta.Meta.{Meta}
use Rattle.paraid_txn.specs.Commit.{IsEitherMissing, IsOneMissing}
use Rattle.paraid_image.specs.Out.{IsMissing, named_out}
use Rattle.paraid_txn.specs.Resume.{StandsWhileResumed}
use Rattle.paraid_rack.specs.Slots.{Slot}
use Rattle.paraid_rack.specs.Told.{Extends}
use Rattle.paraid_txn.specs.Ready.{AreTargetsReady}
use Rattle.paraid_image.specs.Sides.{Batch, LogState, targets}
use Rattle.paraid_txn.proofs.HeldResumeLemmas.{held_resumes}
use Rattle.paraid_txn.proofs.RanLemmas.{resume_moments}
use Rattle.paraid_recover.specs.HeldMoments.{IsAbsentOne, RecoversHeld}

-- what is told of the moments before stays
pub disks_before : (t : Trail) (calls : List Call) (j : ℕ) → j ≤ moments t → disks (extend t calls) j ≡ disks t j
disks_before t calls j le = ap (run (initial t.start)) (take-append-le j t.calls calls le)

pub disks_last : (t : Trail) → disks t (moments t) ≡ now t
disks_last t = ap (run (initial t.start)) (take_all (moments t) t.calls (omega arith))

pub grows : {old new : Option Trail} {x : ℕ} {said : LogState} → StandsWhileResumed old new x said → Extends old new
grows {old} {new} {x} {said} resume t tells = let r = resume t tells in record { from = r.from; was = r.was; calls = r.calls; is = r.is; holds = tt }

-- what is held while a commit is ended
pub resumes_held : (slots x : ℕ) (said : LogState) (old new : Option Trail) → StandsWhileResumed old new x said → RecoversHeld slots x said old new
resumes_held slots x said old new resume t tells =
    let r = resume_moments old new x said resume t tells in (
      r.0,
      r.1,
      r.2,
      λ h lo m was down broken held from to absent weak.
          held_resumes slots (now r.0) x said h lo was broken.synced broken.log held (disks t m) down (λ d l gone. absent m d from (omega arith) l gone) weak (r.3 broken m from to),
    )

-- one disk at most is missing where one at most is absent, and no other one is named out
pub one_absent : (s : Disks) (m : Meta) (down : Option ℕ) (d : ℕ) → d < m.setup.geometry.disks → ((e : ℕ) → named_out m.out ≡ Some e → e ≡ d)
    → is_present (s.power d) ≡ false → IsAbsentOne m.setup.geometry.disks s down → IsOneMissing s.power m m
one_absent s m down d low only gone absent = record { one = λ a b p q. same a b (is a p) (is b q) }
  where
    same : (a b : ℕ) → down ≡ Some a → down ≡ Some b → a ≡ b
    same a b p q = let z : Some a ≡ Some b = sym p ∙ q in cc

    one : (a : ℕ) → IsMissing s.power m a → down ≡ Some a
    one a p = elim p.is [
      | inl off ↦ absent a p.disk off
      | inr name ↦ absent d low gone ∙ ap (λ (y : ℕ). Some y) (sym (only a name))
    ]

    is : (a : ℕ) → IsEitherMissing s.power m m a → down ≡ Some a
    is a (inl p) = one a p
    is a (inr p) = one a p

-- where there are no targets, each is ready
pub none_ready : (batch : Batch) → batch ≡ [] → (skip : Option ℕ) (count : ℕ) (slot : ℕ → Slot) → AreTargetsReady skip count slot (targets batch)
none_ready batch empty skip count slot = subst (λ (b : Batch). AreTargetsReady skip count slot (targets b)) (sym empty) (λ k t lt. absurd (omega arith))

-- a record between two others
pub middle : (a b c : Trail) (f g : List Call) → b ≡ extend a f → c ≡ extend b g → (moments a ≤ moments b) × (moments b ≤ moments c) × (disks c (moments b) ≡ now b)
middle a b c f g p q =
    let n = ap moments p ∙ length-append a.calls f in
    let k = ap moments q ∙ length-append b.calls g in
    (omega (arith, n), omega (arith, k), ap (λ (u : Trail). disks u (moments b)) q ∙ disks_before b g (moments b) (omega arith) ∙ disks_last b)
