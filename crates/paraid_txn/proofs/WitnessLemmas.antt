-- None of the five steps of a commit, and no call of a resumption, writes the places of the witnesses.
use Rattle.std.specs.Prelude.{◌≡◌, ◌≢◌, ℕ, ◌<◌, ◌&&◌, Bool, true, false, All, List, [], ◌∷◌, ◌++◌, Option, Some, if◌then◌else◌}
use Rattle.std.proofs.Common.{refl, sym, ◌∙◌, ap, subst, arith, inl, inr, zero, suc}
use Rattle.std.proofs.lemmas.Bool.{cases_Bool, false≢true}
use Rattle.std.proofs.lemmas.List.{append_cancel_left}
use Rattle.paraid_base.specs.declared.block.Block.{Block}
use Rattle.paraid_base.specs.Xor.{zero_block}
use Rattle.paraid_rack.specs.Atoms.{IsSure}
use Rattle.paraid_rack.specs.declared.call.Call.{Call}
use Rattle.paraid_rack.specs.declared.call.Call.TheVariants.{Read, Write, Sync, Park, SpinUp, Attach}
use Rattle.paraid_rack.specs.declared.call.Power.{Power}
use Rattle.paraid_rack.specs.Disks.{Disks, IsPresent, is_present, step}
use Rattle.paraid_rack.specs.Told.{Ran, Through}
use Rattle.paraid_rack.specs.Trail.{Trail, extend, now}
use Rattle.paraid_rack.proofs.EffectsLemmas.{synced_step, wrote_step}
use Rattle.paraid_record.specs.declared.meta.Meta.{Meta}
use Rattle.paraid_record.specs.Range.{IsInRange}
use Rattle.paraid_record.specs.Targets.{IsTargetInRange}
use Rattle.paraid_image.specs.Out.{IsMissing, out_disk}
use Rattle.paraid_image.specs.Rest.{AreSynced}
use Rattle.paraid_image.specs.Sides.{Batch, has_place, is_open, stored_block, targets}
use Rattle.paraid_image.specs.Sound.{AreWitnessesTrue}
use Rattle.paraid_image.proofs.CallLemmas.{out_named, zeroed_closed}
use Rattle.paraid_image.proofs.NeutralLemmas.{named_past}
use Rattle.paraid_image.proofs.OutLemmas.{missing_is_out, out_missing}
use Rattle.paraid_txn.specs.Uses.{EachCall, Uses}
use Rattle.paraid_txn.proofs.ResumeStagesLemmas.{read_step}

-- the places of the witnesses surely hold what they held
abbrev pub AreWitnessesKept : Disks → Disks → Type 0
AreWitnessesKept start s = (p : ℕ) → p < 2 → IsSure s 2 p (λ b. b ≡ start.block 2 p)

module _ (m : Meta) (batch : Batch) (past : All (IsTargetInRange m.setup.geometry) (targets batch)) (q : ℕ) (low : q < 2) (Q : Block → Type 0) where
  pub apart : (d p : ℕ) (b : Block) (done : Bool) → Uses m batch (Write d p b done) → 2 ≡ d → q ≢ p
  apart d p b done uses is at = elim uses.1 [
    | inl log ↦ let l = log.0.0 in omega arith
    | inr target ↦ let far = named_past m.setup.geometry batch d p past target.1 in omega arith
  ]

  pub step_keeps : (s : Disks) (c : Call) → Uses m batch c → IsSure s 2 q Q → IsSure (step c s) 2 q Q
  step_keeps s (Read d p done) uses h = (read_step s d p done).sure 2 q Q h
  step_keeps s (Write d p b done) uses h = (wrote_step s d p b done).sure 2 q Q (λ is at. apart d p b done uses is at) h
  step_keeps s (Sync d done) uses h = (synced_step s d done).sure 2 q Q h
  step_keeps s (Park d done) uses h = absurd (elim uses.1 [ inl never ↦ never | inr never ↦ never ])
  step_keeps s (SpinUp d done) uses h = absurd (elim uses.1 [ inl never ↦ never | inr never ↦ never ])
  step_keeps s (Attach d size done) uses h = absurd (elim uses.1 [ inl never ↦ never | inr never ↦ never ])

  sure_through : (s : Disks) (cs : List Call) → EachCall (Uses m batch) s cs → IsSure s 2 q Q → Through (λ u. IsSure u 2 q Q) s cs
  sure_through s [] each h = h
  sure_through s (c ∷ cs) each h = (h, sure_through (step c s) cs each.2 (step_keeps s c each.1 h))

both_through : (P Q : Disks → Type 0) (s : Disks) (cs : List Call) → Through P s cs → Through Q s cs → Through (λ u. P u × Q u) s cs
both_through P Q s [] p q = (p, q)
both_through P Q s (c ∷ cs) p q = ((p.0, q.0), both_through P Q (step c s) cs p.1 q.1)

pub both_milder : (P Q R : Disks → Type 0) → ((s : Disks) → P s → Q s → R s) → (s : Disks) (cs : List Call) → Through P s cs → Through Q s cs → Through R s cs
both_milder P Q R is s [] p q = is s p q
both_milder P Q R is s (c ∷ cs) p q = (is s p.0 q.0, both_milder P Q R is (step c s) cs p.1 q.1)

-- at each moment of a commit the places of the witnesses hold what they held
module _ (m : Meta) (batch : Batch) (past : All (IsTargetInRange m.setup.geometry) (targets batch)) (s : Disks) (synced : AreSynced s)
    (cs : List Call) (each : EachCall (Uses m batch) s cs) where
  at_start : (p : ℕ) → IsSure s 2 p (λ b. b ≡ s.block 2 p)
  at_start p = record { holds = λ here. (synced 2 p here, refl) }

  pub kept_and : (P R : Disks → Type 0) → ((u : Disks) → P u → AreWitnessesKept s u → R u) → Through P s cs → Through R s cs
  kept_and P R is through =
      both_milder (λ u. P u × IsSure u 2 0 (λ b. b ≡ s.block 2 0)) (λ u. IsSure u 2 1 (λ b. b ≡ s.block 2 1)) R
      (λ u p one. is u p.0 (λ q low. by u p.1 one q low))
      s cs (both_through P (λ u. IsSure u 2 0 (λ b. b ≡ s.block 2 0)) s cs through (sure_through m batch past 0 (omega arith) (λ b. b ≡ s.block 2 0) s cs each (at_start 0)))
      (sure_through m batch past 1 (omega arith) (λ b. b ≡ s.block 2 1) s cs each (at_start 1))
    where
      by : (u : Disks) → IsSure u 2 0 (λ b. b ≡ s.block 2 0) → IsSure u 2 1 (λ b. b ≡ s.block 2 1) → (q : ℕ) → q < 2 → IsSure u 2 q (λ b. b ≡ s.block 2 q)
      by u zeroth first zero low = zeroth
      by u zeroth first (suc zero) low = first
      by u zeroth first (suc (suc q)) low = absurd (omega arith)

-- what is told of the same calls twice
pub same_calls : (u : Call → Type 0) (old new : Option Trail) → Ran old new (EachCall u) → (t : Trail) → new ≡ Some t
    → (from : Trail) (calls : List Call) → old ≡ Some from → t ≡ extend from calls → EachCall u (now from) calls
same_calls u old new ran t tells from calls was is =
    let r = ran t tells in
    let same : r.from ≡ from = (let e : Some r.from ≡ Some from = sym r.was ∙ was in cc) in
    let all : from.calls ++ r.calls ≡ from.calls ++ calls = ap (λ (v : Trail). (extend v r.calls).calls) (sym same) ∙ ap (λ (v : Trail). v.calls) (sym r.is ∙ is) in
    subst (λ (cs : List Call). EachCall u (now from) cs) (append_cancel_left from.calls r.calls calls all)
    (subst (λ (v : Trail). EachCall u (now v) r.calls) same r.holds)

-- what is missing is so where no more disks are there
pub missing_still : (p q : ℕ → Power) (m : Meta) (d : ℕ) → ((e : ℕ) → is_present (q e) ≡ true → is_present (p e) ≡ true) → IsMissing p m d → IsMissing q m d
missing_still p q m d present missing = record {
  disk = missing.disk;
  is = elim missing.is [
    | inr name ↦ inr name
    | inl gone ↦ elim (cases_Bool (is_present (q d))) [
      | inl here ↦ absurd (false≢true (sym gone ∙ present d here))
      | inr off ↦ inl off
    ]
  ];
}

-- where at most one disk is missing, a missing one is the out disk
pub missing_out : (power : ℕ → Power) (m : Meta) (w : ℕ) → IsInRange m → ((d e : ℕ) → IsMissing power m d → IsMissing power m e → d ≡ e)
    → IsMissing power m w → out_disk power m ≡ Some w
missing_out power m w range single missing = elim missing.is [
  | inl gone ↦ missing_is_out power m w range single missing gone
  | inr named ↦ out_named power m w named
]

-- a disk that was out is out where it is missing still
pub out_stays : (p q : ℕ → Power) (m : Meta) (w : ℕ) → IsInRange m → ((d e : ℕ) → IsMissing q m d → IsMissing q m e → d ≡ e)
    → ((e : ℕ) → is_present (p e) ≡ false → is_present (q e) ≡ false) → out_disk p m ≡ Some w → out_disk q m ≡ Some w
out_stays p q m w range single gone is =
    let missing = out_missing p m w range is in
    missing_out q m w range single (record {
      disk = missing.disk;
      is = elim missing.is [ inl absent ↦ inl (gone w absent) | inr named ↦ inr named ];
    })

-- a place that is open is there
pub open_place : (i : Disks) (p : ℕ) → is_open (stored_block i 2 p) ≡ true → has_place i 2 p ≡ true
unfolding stored_block
open_place i p opened = elim (cases_Bool (has_place i 2 p)) [
  | inl there ↦ there
  | inr none ↦ absurd (false≢true (sym zeroed_closed ∙ ap is_open (rw none refl) ∙ opened))
]

-- a witness that stands in an image stood at the start
module _ (start i : Disks) (present : (d : ℕ) → IsPresent i d → IsPresent start d) (size : (d : ℕ) → IsPresent i d → i.size d ≡ start.size d)
    (block : (p : ℕ) → p < 2 → IsPresent i 2 → i.block 2 p ≡ start.block 2 p) where
  pub stood_open : (p : ℕ) → p < 2 → is_open (stored_block i 2 p) ≡ true → is_open (stored_block start 2 p) ≡ true
  unfolding stored_block
  stood_open p low opened =
      let there = open_place i p opened in
      let here : IsPresent i 2 = and_left (is_present (i.power 2)) _ there in
      let within = and_right (is_present (i.power 2)) _ there in
      let there_too : has_place start 2 p ≡ true = rw (present 2 here, sym (size 2 here)) within in
      let stored : is_open (i.block 2 p) ≡ true = ap (λ (t : Bool). is_open (if t then i.block 2 p else zero_block)) (sym there) ∙ opened in
      rw there_too (ap is_open (sym (block p low here)) ∙ stored)
    where
      and_left : (a b : Bool) → (a && b) ≡ true → a ≡ true
      and_left true b h = refl
      and_left false b h = h

      and_right : (a b : Bool) → (a && b) ≡ true → b ≡ true
      and_right true b h = h
      and_right false b h = absurd (false≢true h)

  -- and is true by a meta by which it was
  pub true_still : (m : Meta) → IsInRange m → ((d e : ℕ) → IsMissing i.power m d → IsMissing i.power m e → d ≡ e)
      → AreWitnessesTrue start (out_disk start.power m) → AreWitnessesTrue i (out_disk i.power m)
  true_still m range single was p low opened =
      out_stays start.power i.power m p range single gone (was p low (stood_open p low opened))
    where
      gone : (e : ℕ) → is_present (start.power e) ≡ false → is_present (i.power e) ≡ false
      gone e off = elim (cases_Bool (is_present (i.power e))) [ inl here ↦ absurd (false≢true (sym off ∙ present e here)) | inr none ↦ none ]
