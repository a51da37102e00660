-- The calls on disk 2 by which witness is borne, and what they leave of the slots.
use Rattle.std.specs.Prelude.{◌≡◌, ◌≢◌, ℕ, ◌<◌, ◌≤◌, ◌⊎◌, Bool, true, false, List, [], ◌∷◌, Option, Some, None, Result, Ok, Err, IfErr, IfOk, if◌then◌else◌}
use Rattle.std.proofs.Common.{refl, sym, ◌∙◌, ap, subst, arith, inl, inr, length-append}
use Rattle.std.proofs.lemmas.Bool.{cases_Bool, cases_eq, cases_lt, false≢true, true≢false}
use Rattle.paraid_base.specs.declared.block.Block.{Block}
use Rattle.paraid_base.specs.declared.fault.Two.{Two}
use Rattle.paraid_base.specs.Told.{HasRisen}
use Rattle.paraid_base.proofs.ToldLemmas.{HasRisen-sooner}
use Rattle.paraid_rack.specs.declared.call.Call.{Call}
use Rattle.paraid_rack.specs.declared.call.Call.TheVariants.{Read, Write, Sync, Park, SpinUp, Attach}
use Rattle.paraid_rack.specs.declared.call.Power.{Power}
use Rattle.paraid_rack.specs.declared.call.Power.TheVariants.{Absent, Parked, Spinning}
use Rattle.paraid_rack.specs.declared.rack.Rack.{Ghosts}
use Rattle.paraid_rack.specs.Atoms.{IsSeen, IsSure}
use Rattle.paraid_rack.specs.Disks.{Disks, IsPresent, is_present, step}
use Rattle.paraid_rack.specs.Lawful.{IsLawful}
use Rattle.paraid_rack.specs.Slots.{Agrees, ChangesOneSlot, Slot}
use Rattle.paraid_rack.specs.Told.{GrowsByCall, Ran}
use Rattle.paraid_rack.specs.Trail.{Trail, disks, moments, now, run}
use Rattle.paraid_rack.proofs.AtomsLemmas.{read_block-same}
use Rattle.paraid_rack.proofs.EffectsLemmas.{synced_step, wrote_step}
use Rattle.paraid_rack.proofs.TrailsLemmas.{Ran-call, Ran-none, now-extend}
use Rattle.paraid_base.specs.States.{gone_out}
use Rattle.paraid_record.specs.declared.meta.Meta.{Meta}
use Rattle.paraid_image.specs.Calls.{disk_of, is_done}
use Rattle.paraid_image.specs.Lost.{EndsByLoss}
use Rattle.paraid_image.specs.Out.{named_out}
use Rattle.paraid_image.proofs.LostLemmas.{loss_failed, ran_ends}
use Rattle.paraid_image.specs.Sides.{LogState, is_open}
use Rattle.paraid_txn.specs.declared.store.Store.{Store}
use Rattle.paraid_txn.specs.Losses.{AreFailedOrWell, AreGoneSince, AreTwoDownBeside, IsGoneSince, IsOneOut, IsOutOfCommit, IsSyncedAt, IsWell, OnlyLosesSlots, StaySynced}
use Rattle.paraid_txn.specs.Losses.IsOutOfCommit.{was_named}
use Rattle.paraid_txn.specs.Stores.{IsSameStore, store_rack}
use Rattle.paraid_txn.specs.Uses.{EachCall}
use Rattle.paraid_view.proofs.TwoLemmas.{spared_then}
use Rattle.paraid_recover.specs.Bearing.{BearsAgainst, CanBear, EndsBorne, HasBorne, IsNamedLog, IsNewlyNamed, IsOnBearer, LeavesOpen}
use Rattle.paraid_txn.specs.Borne.{IsBorneNow}
use Rattle.paraid_recover.specs.HeldMoments.{EndsHeld, Recovers}
use Rattle.paraid_recover.specs.RecoveryMark.{renewed}
use Rattle.paraid_recover.proofs.RecoverLemmas.{disks_before}
use Rattle.paraid_recover.proofs.RenewLemmas.{renewed_out}
use Rattle.paraid_recover.specs.Mounted.{IsFit}
use Rattle.paraid_recover.specs.MountCalls.{IsMountCall, OnlyMountCalls}
use Rattle.paraid_recover.specs.Powers.{IsPowerCall}
use Rattle.paraid_recover.specs.Quiet.{IsInLog}
use Rattle.paraid_recover.proofs.BearingLemmas.{of_bearer}
use Rattle.paraid_recover.proofs.FitLemmas.{big, gone_named, spinning_if}
use Rattle.paraid_recover.proofs.MountCallsLemmas.{calls_milder, calls_then}
use Rattle.paraid_recover.proofs.OpenLemmas.{open_none, open_read, open_shut}
use Rattle.paraid_recover.proofs.SyncedLemmas.{nothing_lost}
use Rattle.paraid_recover.proofs.TurnsLemmas.{absent_stays}

-- the slots after a call on disk 2
module _ (a b : ℕ → Slot) (leaves : Slot) (dirt : Bool) (power : leaves.power ≡ (a 2).power) (size : leaves.size ≡ (a 2).size) (faults : leaves.faults ≡ (a 2).faults) where
  slot_well : (ok : Bool) → ChangesOneSlot a b 2 leaves dirt ok → ok ≡ true → IsWell (a 2) (b 2)
  slot_well ok c is =
      let same = c.done is in
      record { faults = ap (λ (s : Slot). s.faults) same ∙ faults; power = ap (λ (s : Slot). s.power) same ∙ power; size = ap (λ (s : Slot). s.size) same ∙ size }

  slot_powers : (ok : Bool) → ChangesOneSlot a b 2 leaves dirt ok → OnlyLosesSlots a b
  slot_powers ok c = record {
    power = λ d here. elim (cases_eq d 2) [
      | inl is ↦ subst (λ (k : ℕ). (b k).power ≡ (a k).power) (sym is) (one_power (subst (λ (k : ℕ). is_present (b k).power ≡ true) is here))
      | inr not ↦ ap (λ (s : Slot). s.power) (c.others d not)
    ];
    size = λ d here. elim (cases_eq d 2) [
      | inl is ↦ subst (λ (k : ℕ). (b k).size ≡ (a k).size) (sym is) (one_size (subst (λ (k : ℕ). is_present (b k).power ≡ true) is here))
      | inr not ↦ ap (λ (s : Slot). s.size) (c.others d not)
    ];
    no_fall = λ d. elim (cases_eq d 2) [
      | inl is ↦ subst (λ (k : ℕ). (a k).faults ≤ (b k).faults) (sym is) one_fall
      | inr not ↦ let same = ap (λ (s : Slot). s.faults) (c.others d not) in omega arith
    ];
  }
    where
      was_done : is_present (b 2).power ≡ true → ok ≡ true
      was_done here = elim (cases_Bool ok) [ inl is ↦ is | inr failed ↦ absurd (false≢true (sym (ap is_present (c.absent failed)) ∙ here)) ]

      one_power : is_present (b 2).power ≡ true → (b 2).power ≡ (a 2).power
      one_power here = (slot_well ok c (was_done here)).power

      one_size : is_present (b 2).power ≡ true → (b 2).size ≡ (a 2).size
      one_size here = (slot_well ok c (was_done here)).size

      one_fall : (a 2).faults ≤ (b 2).faults
      one_fall = elim (cases_Bool ok) [ inl is ↦ let same = (slot_well ok c is).faults in omega arith | inr failed ↦ c.later failed ]

-- one call is the last
call_ends : (ok : Bool) (c : Call) → is_done c ≡ ok → disk_of c ≡ 2 → EndsByLoss (if ok then None else Some 2) (c ∷ [])
call_ends true c done on = rw done refl
call_ends false c failed on = loss_failed 2 c failed on

module _ {R : Type 0} {l : _} (g : Ghosts R) (o : Option ℕ) where
  -- no call
  pub bearer_none : (s : Store R l) → IsOnBearer g o s s true
  bearer_none s = record {
    slots = refl;
    same = record { disks = refl; epoch = refl; named = refl };
    others = λ d not. refl;
    powers = nothing_lost (g.slot (store_rack s));
    well = λ is. record { faults = refl; power = refl; size = refl };
    calls = Ran-none (EachCall (BearsAgainst o)) (λ s. tt) (g.told (store_rack s));
    ends = Ran-none (λ s cs. EndsByLoss None cs) (λ s. refl) (g.told (store_rack s));
    risen = λ failed. absurd (true≢false failed);
    gone = λ failed. absurd (true≢false failed);
    still = λ none. refl;
  }

  -- one
  pub bearer_call : (old new : Store R l) (call : Bool → Call) (leaves : Slot) (dirt : Bool) (ok : Bool) → g.slot_count (store_rack new) ≡ g.slot_count (store_rack old) → IsSameStore old new
      → leaves.power ≡ (g.slot (store_rack old) 2).power → leaves.size ≡ (g.slot (store_rack old) 2).size → leaves.faults ≡ (g.slot (store_rack old) 2).faults
      → ChangesOneSlot (g.slot (store_rack old)) (g.slot (store_rack new)) 2 leaves dirt ok → GrowsByCall (g.told (store_rack old)) (g.told (store_rack new)) (call ok)
      → BearsAgainst o (call ok) → is_done (call ok) ≡ ok → ((s : Trail) → g.told (store_rack old) ≡ Some s → IsLawful (now s) (call ok)) → is_present (g.slot (store_rack old) 2).power ≡ true
      → IsOnBearer g o old new ok
  bearer_call old new call leaves dirt ok slots same power size faults c grows bears does lawful here = record {
    slots = slots;
    same = same;
    others = c.others;
    powers = slot_powers (g.slot (store_rack old)) (g.slot (store_rack new)) leaves dirt power size faults ok c;
    well = slot_well (g.slot (store_rack old)) (g.slot (store_rack new)) leaves dirt power size faults ok c;
    calls = Ran-call (EachCall (BearsAgainst o)) (g.told (store_rack old)) (g.told (store_rack new)) (call ok) grows (λ s tells. (lawful s tells, bears, tt));
    risen = c.risen;
    gone = λ failed. record { there = here; absent = c.absent failed };
    ends = Ran-call (λ s cs. EndsByLoss (if ok then None else Some 2) cs) (g.told (store_rack old)) (g.told (store_rack new)) (call ok) grows (λ s tells. call_ends ok (call ok) does (of_bearer o (call ok) bears).0);
    still = λ none. let who = of_bearer o (call ok) bears in absurd (none who.1 who.2);
  }

  -- one part after another that was done
  pub bearer_then : (old mid new : Store R l) (done : Bool) → IsOnBearer g o old mid true → IsOnBearer g o mid new done → IsOnBearer g o old new done
  bearer_then old mid new done first second =
      let was = first.well refl in
      let a = g.slot (store_rack old) in
      let b = g.slot (store_rack mid) in
      let c = g.slot (store_rack new) in
      record {
        slots = second.slots ∙ first.slots;
        same = record { disks = second.same.disks ∙ first.same.disks; epoch = second.same.epoch ∙ first.same.epoch; named = second.same.named ∙ first.same.named };
        others = λ d not. second.others d not ∙ first.others d not;
        powers = spared_then a b c first.powers second.powers;
        well = λ is.
            let later = second.well is in
            record { faults = later.faults ∙ was.faults; power = later.power ∙ was.power; size = later.size ∙ was.size };
        calls = calls_then (BearsAgainst o) (g.told (store_rack old)) (g.told (store_rack mid)) (g.told (store_rack new)) first.calls second.calls;
        risen = λ failed. HasRisen-sooner (a 2).faults (b 2).faults (c 2).faults (first.powers.no_fall 2) (second.risen failed);
        gone = λ failed. record { there = ap is_present (sym was.power) ∙ (second.gone failed).there; absent = (second.gone failed).absent };
        ends = ran_ends (if done then None else Some 2) (g.told (store_rack old)) (g.told (store_rack mid)) (g.told (store_rack new)) first.ends second.ends;
        still = λ none. second.still none ∙ first.still none;
      }

  -- disk 2 is absent, or it has failed: no witness is seen
  pub borne_absent : (s : Store R l) → (g.slot (store_rack s) 2).power ≡ Absent → ((t : Trail) → g.told (store_rack s) ≡ Some t → Agrees (now t) (g.slot (store_rack s))) → HasBorne g o s s true
  borne_absent s gone agrees = record {
    part = bearer_none s;
    synced = λ is was. was;
    borne = λ is x named t tells. record { holds = λ here. absurd (false≢true (sym (ap is_present ((agrees t tells).power 2 ∙ gone)) ∙ here)) };
    kept = open_none o (g.told (store_rack s));
  }

  pub borne_failed : (old new : Store R l) → IsOnBearer g o old new false → Ran (g.told (store_rack old)) (g.told (store_rack new)) (LeavesOpen o) → HasBorne g o old new false
  borne_failed old new part kept = record { part = part; synced = λ is. absurd (true≢false (sym is)); borne = λ is. absurd (true≢false (sym is)); kept = kept }

  -- no log disk is named
  pub borne_none : (s : Store R l) → ((x : ℕ) → IsNamedLog o x → ⊥) → HasBorne g o s s true
  borne_none s none = record { part = bearer_none s; synced = λ is was. was; borne = λ is x named. absurd (none x named); kept = open_none o (g.told (store_rack s)) }

  -- the place was read, and is open
  pub borne_read : (old new : Store R l) (y : ℕ) (b : Block) → o ≡ Some y → IsOnBearer g o old new true → (g.slot (store_rack new) 2).unsynced ≡ (g.slot (store_rack old) 2).unsynced
      → GrowsByCall (g.told (store_rack old)) (g.told (store_rack new)) (Read 2 y true) → ((t : Trail) → g.told (store_rack old) ≡ Some t → b ≡ (now t).block 2 y) → is_open b ≡ true
      → HasBorne g o old new true
  borne_read old new y b is part unsynced grows bytes opened = record {
    part = part;
    synced = λ d was. unsynced ∙ was;
    borne = λ d x named t tells. record {
      holds = λ here.
          let it = grows t tells in
          let same : y ≡ x = (let z : Some y ≡ Some x = sym is ∙ named.0 in cc) in
          let block : (now t).block 2 y ≡ (now it.0).block 2 y = ap (λ (s : Disks). s.block 2 y) (ap now it.2 ∙ now-extend it.0 (Read 2 y true ∷ [])) ∙ ap (λ (f : ℕ → ℕ → Block). f 2 y) (read_block-same (now it.0) 2 y true) in
          subst (λ (k : ℕ). is_open ((now t).block 2 k) ≡ true) same (ap is_open (block ∙ sym (bytes it.0 it.1)) ∙ opened);
    };
    kept = open_read o (g.told (store_rack old)) (g.told (store_rack new)) y true grows;
  }

  -- a place that is closed is so of the log disk that is named
  pub shut_named : (old : Store R l) (y : ℕ) → o ≡ Some y → ((s : Trail) → g.told (store_rack old) ≡ Some s → is_open ((now s).block 2 y) ≡ false)
      → (s : Trail) → g.told (store_rack old) ≡ Some s → (x : ℕ) → IsNamedLog o x → is_open ((now s).block 2 x) ≡ false
  shut_named old y is shut s tells x named =
      let same : y ≡ x = (let z : Some y ≡ Some x = sym is ∙ named.0 in cc) in
      subst (λ (k : ℕ). is_open ((now s).block 2 k) ≡ false) same (shut s tells)

  -- it was written and synced
  pub borne_write : (old mid new : Store R l) (y : ℕ) (b : Block) (done : Bool) → o ≡ Some y → is_open b ≡ true → IsOnBearer g o old mid true → IsOnBearer g o mid new done
      → (done ≡ true → (g.slot (store_rack new) 2).unsynced ≡ false)
      → GrowsByCall (g.told (store_rack old)) (g.told (store_rack mid)) (Write 2 y b true) → GrowsByCall (g.told (store_rack mid)) (g.told (store_rack new)) (Sync 2 done)
      → ((s : Trail) → g.told (store_rack old) ≡ Some s → is_open ((now s).block 2 y) ≡ false) → HasBorne g o old new done
  borne_write old mid new y b done is opened first second clean wrote synced shut = record {
    part = bearer_then old mid new done first second;
    synced = λ d was. clean d;
    borne = λ d x named t tells.
        let it = synced t tells in
        let before = wrote it.0 it.1 in
        let same : y ≡ x = (let z : Some y ≡ Some x = sym is ∙ named.0 in cc) in
        let seen : IsSeen (now it.0) 2 y (λ k. is_open k ≡ true) =
        subst (λ (s : Disks). IsSeen s 2 y (λ k. is_open k ≡ true)) (sym (ap now before.2 ∙ now-extend before.0 (Write 2 y b true ∷ [])))
        ((wrote_step (now before.0) 2 y b true).here (λ k. is_open k ≡ true) opened) in
        subst (λ (k : ℕ). IsSeen (now t) 2 k (λ k. is_open k ≡ true)) same
        (subst (λ (s : Disks). IsSeen s 2 y (λ k. is_open k ≡ true)) (sym (ap now it.2 ∙ now-extend it.0 (Sync 2 done ∷ [])))
        ((synced_step (now it.0) 2 done).seen 2 y (λ k. is_open k ≡ true) seen));
    kept = open_shut o (g.told (store_rack old)) (g.told (store_rack new)) (EachCall (BearsAgainst o)) (bearer_then old mid new done first second).calls (shut_named old y is shut);
  }

  -- by the same name
  pub borne_then : (old mid new : Store R l) (y : ℕ) (done : Bool) → o ≡ Some y → IsOnBearer g o old mid true → ((g.slot (store_rack old) 2).unsynced ≡ false → (g.slot (store_rack mid) 2).unsynced ≡ false) → HasBorne g o mid new done
      → ((s : Trail) → g.told (store_rack old) ≡ Some s → is_open ((now s).block 2 y) ≡ false) → HasBorne g o old new done
  borne_then old mid new y done is first clean second shut =
      let part = bearer_then old mid new done first second.part in
      record {
        part = part;
        synced = λ d was. second.synced d (clean was);
        borne = second.borne;
        kept = open_shut o (g.told (store_rack old)) (g.told (store_rack new)) (EachCall (BearsAgainst o)) part.calls (shut_named old y is shut);
      }

-- these are calls of a mount on the log of disk 2
in_log_by : (o : Option ℕ) (n : ℕ) (c : Call) → 3 ≤ n → BearsAgainst o c → IsInLog n c
in_log_by o n (Read d p done) enough bears = let at = bears.0 in omega arith
in_log_by o n (Write d p b done) enough bears = let at = bears.0 in let low = bears.1.1 in (omega arith, omega arith)
in_log_by o n (Sync d done) enough bears = let at = bears.0 in omega arith
in_log_by o n (Park d done) enough bears = bears
in_log_by o n (SpinUp d done) enough bears = bears
in_log_by o n (Attach d size done) enough bears = bears

pub bearer_log : (o : Option ℕ) (n : ℕ) (old new : Option Trail) → 3 ≤ n → Ran old new (EachCall (BearsAgainst o)) → Ran old new (EachCall (IsInLog n))
bearer_log o n old new enough ran = calls_milder (BearsAgainst o) (IsInLog n) old new (λ c bears. in_log_by o n c enough bears) ran

not_two : (m : Meta) (d x : ℕ) {A : Type 0} → d ≡ 2 → IsNamedLog (named_out m.out) x → gone_out m.out ≡ Some d → A
not_two m d x second named gone =
    let same : d ≡ x = (let z : Some d ≡ Some x = sym (gone_named m.out d gone) ∙ named.0 in cc) in
    let low = named.1 in
    absurd (omega arith)

mount_by : (m : Meta) (c : Call) → BearsAgainst (named_out m.out) c → IsMountCall m.setup.geometry.disks (gone_out m.out) c
mount_by m (Read d p done) bears = record { disk = (let at = bears.0 in let low = m.setup.geometry.disks_low in omega arith); attaches = refl; aside = λ gone. not_two m d p bears.0 bears.1 gone }
mount_by m (Write d p b done) bears = record { disk = (let at = bears.0 in let low = m.setup.geometry.disks_low in omega arith); attaches = refl; aside = λ gone. not_two m d p bears.0 bears.1 gone }
mount_by m (Sync d done) bears = record { disk = (let at = bears.0 in let low = m.setup.geometry.disks_low in omega arith); attaches = refl; aside = λ gone. not_two m d bears.1 bears.0 bears.2 gone }
mount_by m (Park d done) bears = absurd bears
mount_by m (SpinUp d done) bears = absurd bears
mount_by m (Attach d size done) bears = absurd bears

pub bearer_calls : (m : Meta) (old new : Option Trail) → Ran old new (EachCall (BearsAgainst (named_out m.out))) → OnlyMountCalls m old new
bearer_calls m old new ran = calls_milder (BearsAgainst (named_out m.out)) (IsMountCall m.setup.geometry.disks (gone_out m.out)) old new (mount_by m) ran

-- what is seen and synced is borne
pub borne_sure : (o : Option ℕ) (told : Option Trail) (slot : ℕ → Slot) → ((t : Trail) → told ≡ Some t → Agrees (now t) slot) → IsSyncedAt slot 2
    → ((x : ℕ) → IsNamedLog o x → (t : Trail) → told ≡ Some t → IsSeen (now t) 2 x (λ b. is_open b ≡ true)) → IsBorneNow o told
borne_sure o told slot agrees synced seen t tells x below is = record {
  holds = λ here.
      let it = agrees t tells in (
        elim (cases_Bool ((now t).loose 2 x)) [
          | inl loose ↦ absurd (true≢false (sym (it.loose 2 x loose) ∙ synced (ap is_present (sym (it.power 2)) ∙ here)))
          | inr kept ↦ kept
        ],
        (seen x (is, below) t tells).holds here,
      );
}

-- no stop changes a block of a disk on which nothing is unsynced
pub second_kept : (told : Option Trail) (slot : ℕ → Slot) → ((t : Trail) → told ≡ Some t → Agrees (now t) slot) → IsSyncedAt slot 2 → (t : Trail) → told ≡ Some t → (p : ℕ) → IsPresent (now t) 2 → (now t).loose 2 p ≡ false
second_kept told slot agrees synced t tells p here =
    let it = agrees t tells in
    elim (cases_Bool ((now t).loose 2 p)) [
      | inl loose ↦ absurd (true≢false (sym (it.loose 2 p loose) ∙ synced (ap is_present (sym (it.power 2)) ∙ here)))
      | inr kept ↦ kept
    ]

-- spin-ups and parks keep a witness that is borne
turn_was : (m : Meta) (c : Call) (s : Disks) (d : ℕ) → IsPowerCall m c → IsLawful s c → IsPresent (step c s) d → IsPresent s d
turn_was m c s d turn lawful here = elim (cases_Bool (is_present (s.power d))) [
  | inl is ↦ is
  | inr off ↦ absurd (false≢true (sym (absent_stays m c s d turn lawful off) ∙ here))
]

turned_sure : (m : Meta) (c : Call) (s : Disks) (d p : ℕ) (Q : Block → Type 0) → IsPowerCall m c → IsLawful s c → IsSure s d p Q → IsSure (step c s) d p Q
unfolding step
turned_sure m (Read e q done) s d p Q turn lawful sure = absurd turn
turned_sure m (Write e q b done) s d p Q turn lawful sure = absurd turn
turned_sure m (Sync e done) s d p Q turn lawful sure = absurd turn
turned_sure m (Park e done) s d p Q turn lawful sure = record { holds = λ here. sure.holds (turn_was m (Park e done) s d turn lawful here) }
turned_sure m (SpinUp e done) s d p Q turn lawful sure = record { holds = λ here. sure.holds (turn_was m (SpinUp e done) s d turn lawful here) }
turned_sure m (Attach e size done) s d p Q turn lawful sure = absurd turn

turns_sure : (m : Meta) (s : Disks) (cs : List Call) (d p : ℕ) (Q : Block → Type 0) → EachCall (IsPowerCall m) s cs → IsSure s d p Q → IsSure (run s cs) d p Q
turns_sure m s [] d p Q each sure = sure
turns_sure m s (c ∷ cs) d p Q each sure = turns_sure m (step c s) cs d p Q each.2 (turned_sure m c s d p Q each.1 each.0 sure)

pub borne_turned : (o : Option ℕ) (m : Meta) (mid new : Option Trail) → Ran mid new (EachCall (IsPowerCall m)) → IsBorneNow o mid → IsBorneNow o new
borne_turned o m mid new ran borne t tells x below is =
    let it = ran t tells in
    subst (λ (s : Disks). IsSure s 2 x (λ b. is_open b ≡ true)) (sym (ap now it.is ∙ now-extend it.from it.calls))
    (turns_sure m (now it.from) it.calls 2 x (λ b. is_open b ≡ true) it.holds (borne it.from it.was x below is))

-- a disk that is not absent is there
pub not_absent : (p : Power) → p ≢ Absent → is_present p ≡ true
not_absent Absent not = absurd (not refl)
not_absent Parked not = refl
not_absent Spinning not = refl

-- whether a log disk is named
pub log_named : (o : Option ℕ) → ((x : ℕ) × IsNamedLog o x) ⊎ ((x : ℕ) → IsNamedLog o x → ⊥)
log_named None = inr (λ x named. let z : None ≡ Some x = named.0 in cc)
log_named (Some y) = elim (cases_lt y 2) [
  | inl low ↦ inl (y, (refl, low))
  | inr high ↦ inr (λ x named. let z : Some y ≡ Some x = named.0 in let same : y ≡ x = cc in let low = named.1 in omega arith)
]

-- where a log disk is named, disk 2 is not
pub not_second : (o : Option ℕ) (x : ℕ) → IsNamedLog o x → o ≢ Some 2
not_second o x named is =
    let z : Some x ≡ Some 2 = sym named.0 ∙ is in
    let at : x ≡ 2 = cc in
    let low = named.1 in
    omega arith

-- what can bear witness before some slots are lost
pub can_bear : (a b : ℕ → Slot) → OnlyLosesSlots a b → StaySynced a b → CanBear a → CanBear b
can_bear a b spared stays it = record {
  can = record {
    spins = λ here. spared.power 2 here ∙ it.can.spins (was here);
    within = λ here. let size = spared.size 2 here in let within = it.can.within (was here) in omega arith;
  };
  synced = λ here. elim (cases_Bool (b 2).unsynced) [
    | inl dirt ↦ elim (stays 2 here dirt) [ inl before ↦ absurd (true≢false (sym before ∙ it.synced (was here))) | inr none ↦ absurd none ]
    | inr clean ↦ clean
  ];
}
  where
    was : is_present (b 2).power ≡ true → is_present (a 2).power ≡ true
    was here = ap is_present (sym (spared.power 2 here)) ∙ here

-- disks that fit the meta can bear it
pub bears_fit : (count : ℕ) (a b : ℕ → Slot) (m : Meta) (k : ℕ) (skip : Option ℕ) → IsFit count a m → OnlyLosesSlots a b → k ≡ m.setup.geometry.disks → skip ≡ gone_out m.out
    → ((d : ℕ) → d < k → skip ≢ Some d → IsSyncedAt b d) → named_out m.out ≢ Some 2 → CanBear b
bears_fit count a b m k skip fit spared same skips synced apart =
    let disks = m.setup.geometry.disks_low in
    let in_use : gone_out m.out ≢ Some 2 = (λ e. apart (gone_named m.out 2 e)) in
    record {
      can = record {
        spins = λ here. spared.power 2 here ∙ spinning_if (a 2).power (was here) (fit.awake 2 (let gear = m.setup.geometry.gears_low m.gear fit.in_range.gear in omega arith) apart);
        within = λ here. let size = fit.large 2 (omega arith) (was here) in_use in let kept = spared.size 2 here in let l = big m in omega arith;
      };
      synced = synced 2 (omega arith) (λ e. in_use (sym skips ∙ e));
    }
  where
    was : is_present (b 2).power ≡ true → is_present (a 2).power ≡ true
    was here = ap is_present (sym (spared.power 2 here)) ∙ here

-- what part of the slots is left
module _ {R : Type 0} {l : _} (g : Ghosts R) (o : Option ℕ) (old new : Store R l) where
  abbrev b : ℕ → Slot
  b = g.slot (store_rack old)

  abbrev d : ℕ → Slot
  d = g.slot (store_rack new)

  pub bearer_each : (done : Bool) → IsOnBearer g o old new done → AreFailedOrWell b d
  bearer_each done part e = elim (cases_eq e 2) [
    | inl is ↦ subst (λ (k : ℕ). HasRisen (b k).faults (d k).faults ⊎ IsWell (b k) (d k)) (sym is) (elim (cases_Bool done) [ inl ok ↦ inr (part.well ok) | inr failed ↦ inl (part.risen failed) ])
    | inr not ↦ let same = part.others e not in inr (record { faults = ap (λ (s : Slot). s.faults) same; power = ap (λ (s : Slot). s.power) same; size = ap (λ (s : Slot). s.size) same })
  ]

  pub bearer_power : IsOnBearer g o old new true → ◌≡◌ {A = ℕ → Power} (λ e. (b e).power) (λ e. (d e).power)
  bearer_power part = λ t. λ e. (sym (at e)) t
    where
      at : (e : ℕ) → (d e).power ≡ (b e).power
      at e = elim (cases_eq e 2) [
        | inl is ↦ subst (λ (k : ℕ). (d k).power ≡ (b k).power) (sym is) (part.well refl).power
        | inr not ↦ ap (λ (s : Slot). s.power) (part.others e not)
      ]

  pub bearer_one : (n : ℕ) (named : Option ℕ) → IsOnBearer g o old new true → IsOneOut n named b → IsOneOut n named d
  bearer_one n named part one = subst (λ (p : ℕ → Power). (x y : ℕ) → IsOutOfCommit p n named None x → IsOutOfCommit p n named None y → x ≡ y) (bearer_power part) one

  pub bearer_synced : (a : ℕ → Slot) → HasBorne g o old new true → StaySynced a b → StaySynced a d
  bearer_synced a it stays e here dirt = stays e (ap is_present (sym (it.part.powers.power e here)) ∙ here) (elim (cases_eq e 2) [
    | inl is ↦ subst (λ (k : ℕ). (b k).unsynced ≡ true) (sym is) (second (subst (λ (k : ℕ). (d k).unsynced ≡ true) is dirt))
    | inr not ↦ ap (λ (s : Slot). s.unsynced) (sym (it.part.others e not)) ∙ dirt
  ])
    where
      second : (d 2).unsynced ≡ true → (b 2).unsynced ≡ true
      second loose = elim (cases_Bool (b 2).unsynced) [ inl is ↦ is | inr clean ↦ absurd (true≢false (sym loose ∙ it.synced refl clean)) ]

  pub bearer_clean : HasBorne g o old new true → CanBear b → IsSyncedAt d 2
  bearer_clean it can here = it.synced refl (can.synced (ap is_present (sym (it.part.powers.power 2 here)) ∙ here))

  -- where disk 2 fails, it is a second one that is down
  module _ (a : ℕ → Slot) (n : ℕ) (named mark : Option ℕ) (two : Two) (name : named ≡ o) (is : IsNamedLog o two.first × (two.second ≡ 2)) (part : IsOnBearer g o old new false) (before : OnlyLosesSlots a b) where
    pub bearer_two : AreTwoDownBeside (IsOutOfCommit (λ e. (a e).power) n named mark) a d two
    bearer_two = record {
      first = inl (was_named (name ∙ is.0.0));
      apart = λ e. let low = is.0.1 in let second = is.1 in omega arith;
      second = subst (λ (k : ℕ). HasRisen (a k).faults (d k).faults) (sym is.1) (HasRisen-sooner (a 2).faults (b 2).faults (d 2).faults (before.no_fall 2) (part.risen refl));
    }

    pub bearer_gone : AreGoneSince (IsOutOfCommit (λ e. (a e).power) n named mark) a d two
    bearer_gone =
        let gone = part.gone refl in
        record {
          first = inl (was_named (name ∙ is.0.0));
          second = subst (IsGoneSince a d) (sym is.1) (record { there = ap is_present (sym (before.power 2 gone.there)) ∙ gone.there; absent = gone.absent });
        }

-- the two disks by the name
pub named_two : (o : Option ℕ) (x : ℕ) (result : Result (Unit {0}) Two) → IsNamedLog o x → IfErr result (λ two. two ≡ record { first = x; second = 2 }) → IfErr result (λ two. IsNamedLog o two.first × (two.second ≡ 2))
named_two o x (Ok it) named is = tt
named_two o x (Err two) named is = (subst (IsNamedLog o) (sym (ap (λ (t : Two). t.first) is)) named, ap (λ (t : Two). t.second) is)

-- witness is borne at the end, also once the disks were powered
pub marked_turned : (N : ℕ → Type 0) (slots x : ℕ) (said : LogState) (m : Meta) (old mid new : Option Trail) → Ran mid new (EachCall (IsPowerCall m)) → EndsBorne N slots x said old mid → EndsBorne N slots x said old new
marked_turned N slots x said m old mid new ran before t tells =
    let c = ran t tells in
    let it = before c.from c.was in
    let long : moments c.from ≤ moments t = (let l = ap moments c.is ∙ length-append c.from.calls c.calls in omega arith) in (
      it.0,
      it.1,
      λ h lo was down broken held absent weak y named.
          subst (λ (s : Disks). IsSure s 2 y (λ b. is_open b ≡ true)) (sym (ap now c.is ∙ now-extend c.from c.calls))
          (turns_sure m (now c.from) c.calls 2 y (λ b. is_open b ≡ true) c.holds
          (it.2 h lo was down broken held
          (λ j d from to l gone. absent j d from (omega arith) l (ap (λ (u : Disks). is_present (u.power d)) (ap (λ (u : Trail). disks u j) c.is ∙ disks_before c.from c.calls j to) ∙ gone)) weak y named)),
    )

-- where no disk was marked, none is named that was not before
pub none_newly : (result : Result Meta Two) (m : Meta) (named : Option ℕ) (told_0 told_1 : Option Trail) → IfOk result (λ n. n ≡ renewed m) → IfOk result (λ n. named_out n.out ≡ named)
    → IfOk result (λ n. (slots x : ℕ) (said : LogState) (old : Option Trail) → said.meta ≡ m → Recovers slots x said old told_0 → EndsHeld slots x said n old told_1)
    → IfOk result (λ n. (slots x : ℕ) (said : LogState) (old : Option Trail) → said.meta ≡ m → Recovers slots x said old told_0 → EndsBorne (IsNewlyNamed (named_out m.out) named) slots x said old told_1)
none_newly (Ok n) m named told_0 told_1 given is ends = λ slots x said old same r t tells.
    let e = ends slots x said old same r t tells in
    (e.0, e.1, λ h lo was down broken held absent weak y newly. absurd (newly.1 (sym (ap named_out (renewed_out m)) ∙ ap (λ (k : Meta). named_out k.out) (sym given) ∙ is ∙ newly.0.0)))
none_newly (Err two) m named told_0 told_1 given is ends = tt

-- two log disks that are named are one
pub one_named : (o : Option ℕ) (x y : ℕ) → o ≡ Some x → o ≡ Some y → x ≡ y
one_named o x y p q = let z : Some x ≡ Some y = sym p ∙ q in cc

-- disk 2 can be written where it is there, as a rack tells it
pub can_told : (s : Disks) (slot : ℕ → Slot) → Agrees s slot → CanBear slot → is_present (s.power 2) ≡ true → (s.power 2 ≡ Spinning) × (1 < s.size 2)
can_told s slot agrees it here =
    let there = ap is_present (sym (agrees.power 2)) ∙ here in
    let size = agrees.size 2 in
    let within = it.can.within there in
    (agrees.power 2 ∙ it.can.spins there, omega arith)
