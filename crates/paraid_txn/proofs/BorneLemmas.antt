-- The witness that is borne against a log disk, from stage to stage of a commit.
use Rattle.std.specs.Prelude.{◌≡◌, ◌≢◌, ◌⊎◌, ℕ, ◌<◌, Bool, true, false, if◌then◌else◌, All, List, [], ◌∷◌, Option, Some, None, Result, IfOk}
use Rattle.std.proofs.Common.{refl, sym, ◌∙◌, ap, subst, arith, inl, inr}
use Rattle.std.proofs.lemmas.Result.{IfOk-weaker}
use Rattle.paraid_rack.specs.Atoms.{IsSure}
use Rattle.paraid_rack.specs.declared.call.Call.{Call}
use Rattle.paraid_rack.specs.declared.call.Call.TheVariants.{Read, Write, Sync, Park, SpinUp, Attach}
use Rattle.paraid_rack.specs.declared.call.Power.TheVariants.{Spinning}
use Rattle.paraid_rack.specs.Disks.{Disks, IsPresent, is_present, step}
use Rattle.paraid_rack.specs.Slots.{Agrees, Slot}
use Rattle.paraid_rack.specs.Told.{Ran, Through}
use Rattle.paraid_rack.specs.Trail.{Trail, now, run}
use Rattle.paraid_rack.proofs.AtomsLemmas.{absent_sure}
use Rattle.paraid_rack.proofs.EffectsLemmas.{Keeps, synced_step, wrote_step}
use Rattle.paraid_rack.proofs.TrailsLemmas.{now-extend}
use Rattle.paraid_record.specs.declared.meta.Meta.{Meta}
use Rattle.paraid_record.specs.Targets.{IsTargetInRange}
use Rattle.paraid_image.specs.Out.{named_out, or_else}
use Rattle.paraid_image.specs.Sides.{Batch, is_open, targets}
use Rattle.paraid_image.specs.Calls.{disk_of}
use Rattle.paraid_txn.specs.Borne.{IsBorneNow, IsWitnessBorne}
use Rattle.paraid_txn.specs.Commit.{LeavesBorne, gone_out}
use Rattle.paraid_txn.specs.Uses.{EachCall, IsOn, Uses, UsesWitness}
use Rattle.paraid_txn.specs.Witness.{BearsAtEnd, CannotSet, IsBorne, IsFirstWitness, IsKnown, IsLastWitness, IsNoSecond, KeepsBorne, MaySetAny, MaySetWitness, NoneJoins, SetsWitness}
use Rattle.paraid_txn.specs.Witness.CannotSet.{is_skipped, not_spinning, too_small}
use Rattle.paraid_txn.specs.Witness.MaySetWitness.{cannot, sets}
use Rattle.paraid_txn.specs.Witness.SetsWitness.{ended, refused}
use Rattle.paraid_txn.specs.declared.bearing.Witness.{Witness}
use Rattle.paraid_txn.proofs.CommitPartLemmas.{ran_milder}
use Rattle.paraid_txn.proofs.KnownLemmas.{known_ran}
use Rattle.paraid_txn.proofs.ResumeStagesLemmas.{read_step}
use Rattle.paraid_txn.proofs.WitnessCallLemmas.{ran_agreed}
use Rattle.paraid_txn.proofs.WitnessLemmas.{step_keeps}
use Rattle.paraid_txn.proofs.WitnessStagesLemmas.{failed_gone, gone_named}

abbrev IsOpenAt : Disks → ℕ → Type 0
IsOpenAt s x = IsSure s 2 x (λ b. is_open b ≡ true)

-- Some calls

keeps_both : (s t u : Disks) → Keeps s t → Keeps t u → Keeps s u
keeps_both s t u a b = record {
  present = λ d here. a.present d (b.present d here);
  power = λ d here. b.power d here ∙ a.power d (b.present d here);
  size = λ d here. b.size d here ∙ a.size d (b.present d here);
}

-- what holds of disk 2 stays so, and witness is borne against whom it is then
borne_kept : (m : Meta) (from to : Option ℕ) (s t : Disks) → Keeps s t → ((x : ℕ) → x < 2 → to ≡ Some x → IsOpenAt t x) → IsBorne m from s → IsBorne m to t
borne_kept m from to s t keeps sure b = record {
  gone = b.gone;
  spins = λ here. keeps.power 2 here ∙ b.spins (keeps.present 2 here);
  within = λ here. subst (λ (n : ℕ). 1 < n) (sym (keeps.size 2 here)) (b.within (keeps.present 2 here));
  borne = sure;
}

no_moments : (s : Disks) (cs : List Call) → Through (λ u. Unit {0}) s cs
no_moments s [] = tt
no_moments s (c ∷ cs) = (tt, no_moments (step c s) cs)

keeps_borne : (m : Meta) (from to : Option ℕ) {old new : Option Trail} → Ran old new (λ s cs. IsBorne m from s → IsBorne m to (run s cs)) → KeepsBorne old new m from to
keeps_borne m from to ran = ran_milder _ _ (λ s cs go. record { goes = λ b. (no_moments s cs, go b) }) ran

-- The five steps

module _ (m : Meta) (batch : Batch) (past : All (IsTargetInRange m.setup.geometry) (targets batch)) where
  use_keeps : (s : Disks) (c : Call) → Uses m batch c → Keeps s (step c s)
  use_keeps s (Read d p done) uses = (read_step s d p done).keeps
  use_keeps s (Write d p b done) uses = (wrote_step s d p b done).keeps
  use_keeps s (Sync d done) uses = (synced_step s d done).keeps
  use_keeps s (Park d done) uses = absurd (elim uses.1 [ inl never ↦ never | inr never ↦ never ])
  use_keeps s (SpinUp d done) uses = absurd (elim uses.1 [ inl never ↦ never | inr never ↦ never ])
  use_keeps s (Attach d size done) uses = absurd (elim uses.1 [ inl never ↦ never | inr never ↦ never ])

  borne_through : (o : Option ℕ) (s : Disks) (cs : List Call) → EachCall (Uses m batch) s cs → IsBorne m o s → IsBorne m o (run s cs)
  borne_through o s [] each b = b
  borne_through o s (c ∷ cs) each b = borne_through o (step c s) cs each.2
      (borne_kept m o o s (step c s) (use_keeps s c each.1) (λ x low is. step_keeps m batch past x low _ s c each.1 (b.borne x low is)) b)

  known_through : (o : Option ℕ) (s : Disks) (cs : List Call) → EachCall (Uses m batch) s cs → IsWitnessBorne o s → IsWitnessBorne o (run s cs)
  known_through o s [] each b = b
  known_through o s (c ∷ cs) each b = known_through o (step c s) cs each.2 (λ x low is. step_keeps m batch past x low _ s c each.1 (b x low is))

  pub known_steps : (o : Option ℕ) {old new : Option Trail} → Ran old new (EachCall (Uses m batch)) → IsBorneNow o old → IsBorneNow o new
  known_steps o = known_ran o o (λ s cs each. known_through o s cs each)

  pub steps_borne : (o : Option ℕ) {old new : Option Trail} → Ran old new (EachCall (Uses m batch)) → KeepsBorne old new m o o
  steps_borne o ran = keeps_borne m o o (ran_milder _ _ (λ s cs each. borne_through o s cs each) ran)

-- One witness is set

set_keeps : (x : ℕ) (opened : Bool) (s : Disks) (cs : List Call) → SetsWitness x opened cs → Keeps s (run s cs)
set_keeps x opened s cs (refused b is same) = subst (λ (l : List Call). Keeps s (run s l)) (sym same) (wrote_step s 2 x b false).keeps
set_keeps x opened s cs (ended b done is same) =
    subst (λ (l : List Call). Keeps s (run s l)) (sym same)
    (keeps_both s _ _ (wrote_step s 2 x b true).keeps (synced_step (step (Write 2 x b true) s) 2 done).keeps)

set_sure : (x : ℕ) (opened : Bool) (s : Disks) (cs : List Call) → SetsWitness x opened cs → IsSure (run s cs) 2 x (λ b. is_open b ≡ opened)
set_sure x opened s cs (refused b is same) =
    subst (λ (l : List Call). IsSure (run s l) 2 x (λ c. is_open c ≡ opened)) (sym same) (absent_sure _ 2 x _ (failed_gone s x b))
set_sure x opened s cs (ended b done is same) =
    subst (λ (l : List Call). IsSure (run s l) 2 x (λ c. is_open c ≡ opened)) (sym same)
    ((synced_step (step (Write 2 x b true) s) 2 done).here x _ ((wrote_step s 2 x b true).here _ is))

pub same_disk : {d e : ℕ} → Some d ≡ Some e → d ≡ e
same_disk e = cc

pub no_disk : {d : ℕ} → None ≡ Some d → ⊥
no_disk e = cc

-- so it is known to be borne
pub known_set : {borne : Option ℕ} {place : ℕ} {opened : Bool} {old new : Option Trail} → ((x : ℕ) → borne ≡ Some x → (place ≡ x) × (opened ≡ true))
    → Ran old new (λ s cs. SetsWitness place opened cs) → IsBorneNow borne new
known_set {place = place} {opened = opened} at ran t tells x low is =
    let r = ran t tells in
    let there = at x is in
    subst (λ (s : Disks). IsOpenAt s x) (sym (ap now r.is ∙ now-extend r.from r.calls))
    (subst (λ (o : Bool). IsSure (run (now r.from) r.calls) 2 x (λ b. is_open b ≡ o)) there.1
    (subst (λ (p : ℕ). IsSure (run (now r.from) r.calls) 2 p (λ b. is_open b ≡ opened)) there.0 (set_sure place opened (now r.from) r.calls r.holds)))

-- against which log disk it is borne once one is set, where disk 2 can be written
abbrev borne_then : Option ℕ → Option Witness → Option ℕ
borne_then was None = was
borne_then was (Some w) = if w.opened then Some w.disk else None

-- disk 2 is not the one that is out
not_gone : (lost : Option ℕ) (m : Meta) → IsNoSecond lost m → (x : ℕ) → x < 2 → or_else lost (named_out m.out) ≡ Some x → gone_out m.out ≢ Some 2
not_gone None m none x low is gone = let at : x ≡ 2 = same_disk (sym is ∙ gone_named m.out 2 gone) in omega (arith, at, low)
not_gone (Some d) m none x low is gone =
    let two : ◌≡◌ {A = ℕ} 2 d = none d 2 refl (gone_named m.out 2 gone) in
    let at : d ≡ x = same_disk is in
    omega (arith, two, at, low)

module _ (m : Meta) (slot : ℕ → Slot) where
  -- it could be set where disk 2 is there
  not_there : (o : Option ℕ) (x : ℕ) (s : Disks) → x < 2 → Agrees s slot → CannotSet slot (gone_out m.out) x → IsBorne m o s → IsPresent s 2 → ⊥
  not_there o x s low agree (is_skipped is) b here = b.gone is
  not_there o x s low agree (not_spinning not) b here = not (sym (agree.power 2) ∙ b.spins here)
  not_there o x s low agree (too_small small) b here = let size = agree.size 2 in let within = b.within here in omega arith

  may_borne : (o : Option ℕ) (x : ℕ) (opened : Bool) (s : Disks) (cs : List Call) → x < 2 → Agrees s slot → MaySetWitness slot (gone_out m.out) x opened cs
      → IsBorne m o s → IsBorne m (if opened then Some x else None) (run s cs)
  may_borne o x opened s cs low agree (cannot why same) b =
      subst (λ (l : List Call). IsBorne m (if opened then Some x else None) (run s l)) (sym same) (record {
        gone = b.gone;
        spins = b.spins;
        within = b.within;
        borne = λ y below is. record { holds = λ here. absurd (not_there o x s low agree why b here) };
      })
  may_borne o x true s cs low agree (sets it) b =
      borne_kept m o (Some x) s (run s cs) (set_keeps x true s cs it) (λ y below is. subst (IsOpenAt (run s cs)) (same_disk is) (set_sure x true s cs it)) b
  may_borne o x false s cs low agree (sets it) b = borne_kept m o None s (run s cs) (set_keeps x false s cs it) (λ y below is. absurd (no_disk is)) b

  any_borne : (was : Option ℕ) (witness : Option Witness) (s : Disks) (cs : List Call) → Agrees s slot → MaySetAny slot (gone_out m.out) witness cs
      → IsBorne m was s → IsBorne m (borne_then was witness) (run s cs)
  any_borne was None s cs agree same b = subst (λ (l : List Call). IsBorne m was (run s l)) (sym same) b
  any_borne was (Some w) s cs agree set b = may_borne was w.disk w.opened s cs w.log_disk agree set b

  -- Before the steps

  pub borne_before : {old new : Option Trail} → ((t : Trail) → old ≡ Some t → Agrees (now t) slot) → (from to : Option ℕ) (witness : Option Witness)
      → (IsBorneNow from old → IsBorneNow to new) → Ran old new (λ s cs. MaySetAny slot (gone_out m.out) witness cs) → KeepsBorne old new m from to
  borne_before {old} agrees from to witness known ran t tells =
      let r = ran t tells in
      let same : (u : Trail) → old ≡ Some u → r.from ≡ u = λ u is. (let e : Some r.from ≡ Some u = sym r.was ∙ is in cc) in
      record {
        from = r.from;
        was = r.was;
        calls = r.calls;
        is = r.is;
        holds = record {
          goes = λ b.
              let k = any_borne from witness (now r.from) r.calls (agrees r.from r.was) r.holds b in (
                no_moments (now r.from) r.calls,
                record {
                  gone = k.gone;
                  spins = k.spins;
                  within = k.within;
                  borne = subst (IsWitnessBorne to) (ap now r.is ∙ now-extend r.from r.calls)
                      (known (λ u is. subst (λ (v : Trail). IsWitnessBorne from (now v)) (same u is) b.borne) t tells);
                },
              );
        };
      }

  -- After them

  -- a log disk that is out as they end was so before
  out_same : (lost after named : Option ℕ) → ((d : ℕ) → lost ≡ Some d → after ≡ Some d) → ((d : ℕ) → after ≡ Some d → (lost ≡ Some d) ⊎ (d ≡ 2))
      → (x : ℕ) → x < 2 → or_else after named ≡ Some x → or_else lost named ≡ Some x
  out_same (Some d) after named stays on x low is = subst (λ (o : Option ℕ). or_else o named ≡ Some x) (stays d refl) is
  out_same None None named stays on x low is = is
  out_same None (Some e) named stays on x low is = elim (on e refl) [
    | inl none ↦ absurd (no_disk none)
    | inr two ↦ let at : e ≡ x = same_disk is in absurd (omega (arith, two, at, low))
  ]

  module _ (lost after named borne : Option ℕ) (names : named ≡ named_out m.out) (stays : (d : ℕ) → lost ≡ Some d → after ≡ Some d)
      (on : (d : ℕ) → after ≡ Some d → (lost ≡ Some d) ⊎ (d ≡ 2)) where
    out_is : (x : ℕ) → x < 2 → or_else after (named_out m.out) ≡ Some x → or_else lost named ≡ Some x
    out_is x low is = out_same lost after named stays on x low (ap (or_else after) names ∙ is)

    last_borne : (witness : Option Witness) → IsLastWitness lost named borne witness → (s : Disks) (cs : List Call) → Agrees s slot
        → MaySetAny slot (gone_out m.out) witness cs → IsBorne m borne s → IsBorne m (or_else after (named_out m.out)) (run s cs)
    last_borne None last s cs agree same b =
        subst (λ (l : List Call). IsBorne m (or_else after (named_out m.out)) (run s l)) (sym same) (record {
          gone = b.gone;
          spins = b.spins;
          within = b.within;
          borne = λ x low is. b.borne x low (last x low (out_is x low is));
        })
    last_borne (Some w) last s cs agree set b =
        let r : IsBorne m (Some w.disk) (run s cs) =
        subst (λ (o : Bool). IsBorne m (if o then Some w.disk else None) (run s cs)) last.0 (may_borne borne w.disk w.opened s cs w.log_disk agree set b) in
        record {
          gone = r.gone;
          spins = r.spins;
          within = r.within;
          borne = λ x low is. r.borne x low (sym last.1 ∙ out_is x low is);
        }

    pub borne_after : {old new : Option Trail} → ((t : Trail) → old ≡ Some t → Agrees (now t) slot) → (witness : Option Witness)
        → IsLastWitness lost named borne witness → Ran old new (λ s cs. MaySetAny slot (gone_out m.out) witness cs) → BearsAtEnd old new m borne after
    borne_after agrees witness last ran none =
        keeps_borne m borne (or_else after (named_out m.out)) (ran_agreed agrees (λ s cs agree set b. last_borne witness last s cs agree set b) ran)

    -- and is known where disk 2 can be written as they end
    module _ (slot_then : ℕ → Slot) (powers : (d : ℕ) → is_present (slot_then d).power ≡ true → (slot_then d).power ≡ (slot d).power)
        (sizes : (d : ℕ) → is_present (slot_then d).power ≡ true → (slot_then d).size ≡ (slot d).size) where
      could_set : (x : ℕ) → x < 2 → gone_out m.out ≢ Some 2 → (slot_then 2).power ≡ Spinning → 1 < (slot_then 2).size → CannotSet slot (gone_out m.out) x → ⊥
      could_set x low not spins within (is_skipped is) = not is
      could_set x low not spins within (not_spinning still) = still (sym (powers 2 (ap is_present spins)) ∙ spins)
      could_set x low not spins within (too_small small) = let size = sizes 2 (ap is_present spins) in omega (arith, size, small, within, low)

      pub knows_after : {E : Type 0} (result : Result (Option ℕ) E) (witness : Option Witness) → IsLastWitness lost named borne witness
          → (witness ≡ None → IfOk result (λ t. t ≡ borne))
          → ((w : Witness) → witness ≡ Some w → w.opened ≡ true → IfOk result (λ t. (t ≡ Some w.disk) ⊎ CannotSet slot (gone_out m.out) w.disk))
          → IfOk result (λ t. IsNoSecond after m → IsKnown slot_then (or_else after (named_out m.out)) t)
      knows_after result None last none opens = IfOk-weaker result _ _ (λ t same no x low is spins within. same ∙ last x low (out_is x low is)) (none refl)
      knows_after result (Some w) last none opens = IfOk-weaker result _ _ (λ t it no x low is spins within. elim it [
        | inl same ↦ same ∙ sym last.1 ∙ out_is x low is
        | inr why ↦ absurd (could_set w.disk w.log_disk (not_gone after m no x low is) spins within why)
      ]) (opens w refl last.0)

-- what is known to be borne stays so where no log disk comes in again
pub stays_known : {E : Type 0} (absent was now named borne : Option ℕ) (result : Result (Option ℕ) E) → now ≡ named → (witness : Option Witness)
    → IsFirstWitness absent was now borne witness → (witness ≡ None → IfOk result (λ t. t ≡ borne)) → NoneJoins was named
    → (x : ℕ) → borne ≡ Some x → IfOk result (λ t. t ≡ Some x)
stays_known absent was now named borne result names None first none joins x is = IfOk-weaker result _ _ (λ t same. same ∙ is) (none refl)
stays_known absent was now named borne result names (Some w) (inl it) none joins x is = absurd (it.2 (names ∙ joins w.disk w.log_disk it.1))
stays_known absent was now named borne result names (Some w) (inr it) none joins x is = absurd (no_disk (sym it.2 ∙ is))

-- a disk that was lost where a witness was set, and not before, is disk 2
pub bearer_lost : (m : Meta) {lost after : Option ℕ} {P : ℕ → Type 0} → ((d : ℕ) → after ≡ Some d → (lost ≡ Some d) ⊎ (IsOn (UsesWitness m) d × P d))
    → (d : ℕ) → after ≡ Some d → (lost ≡ Some d) ⊎ (d ≡ 2)
bearer_lost m on d is = elim (on d is) [ inl was ↦ inl was | inr call ↦ inr (on_bearer m d call.0.0 call.0.1 call.0.2) ]
  where
    on_bearer : (n : Meta) (e : ℕ) (c : Call) → UsesWitness n c → disk_of c ≡ e → e ≡ 2
    on_bearer n e (Read d0 p done) uses at = absurd uses
    on_bearer n e (Write d0 p b done) uses at = sym at ∙ uses.0
    on_bearer n e (Sync d0 done) uses at = sym at ∙ uses.0
    on_bearer n e (Park d0 done) uses at = absurd uses
    on_bearer n e (SpinUp d0 done) uses at = absurd uses
    on_bearer n e (Attach d0 size done) uses at = absurd uses

-- The whole commit

-- the disk that was lost, or else the one that is named out, is that one where both are
named_too : (lost : Option ℕ) (m : Meta) → IsNoSecond lost m → (x : ℕ) → named_out m.out ≡ Some x → or_else lost (named_out m.out) ≡ Some x
named_too None m none x is = is
named_too (Some d) m none x is = ap Some (sym (none d x refl is))

module _ {old new : Option Trail} (m : Meta) (from lost : Option ℕ) (none : IsNoSecond lost m) (known : IsBorneNow from old) (ends : BearsAtEnd old new m from lost) where
  -- witness is borne at the end against whom is out then
  pub leaves_borne : Ran old new (λ s cs. LeavesBorne s (run s cs) (or_else lost (named_out m.out)))
  leaves_borne t tells =
      let r = ends none t tells in
      record {
        from = r.from;
        was = r.was;
        calls = r.calls;
        is = r.is;
        holds = λ can x low is. (r.holds.goes (record {
          gone = not_gone lost m none x low is;
          spins = λ here. (can here).0;
          within = λ here. (can here).1;
          borne = known r.from r.was;
        })).1.borne x low is;
      }

  -- and so against whom the new meta names
  pub leaves_named : Ran old new (λ s cs. LeavesBorne s (run s cs) (named_out m.out))
  leaves_named = ran_milder _ _ (λ s cs leaves can x low is. leaves can x low (named_too lost m none x is)) leaves_borne
