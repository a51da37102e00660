-- The calls of a commit, from stage to stage, whole at each moment.
use Rattle.std.specs.Prelude.{◌≡◌, ℕ, ◌+◌, ◌<◌, ◌≤◌, Bool, false, length, Option, Some}
use Rattle.std.proofs.Common.{refl, sym, ap, subst}
use Rattle.paraid_base.specs.declared.block.Block.{Block}
use Rattle.paraid_base.specs.Log.{body_place, log_least}
use Rattle.paraid_rack.specs.declared.call.Call.{Call}
use Rattle.paraid_rack.specs.declared.call.Call.TheVariants.{Sync, Write}
use Rattle.paraid_rack.specs.Disks.{Disks}
use Rattle.paraid_rack.specs.Slots.{Agrees, Slot}
use Rattle.paraid_rack.specs.Told.{Ran, CrashTriple}
use Rattle.paraid_rack.specs.Trail.{Trail, now}
use Rattle.paraid_record.specs.declared.targets.Target.{Target}
use Rattle.paraid_rack.proofs.TrailsLemmas.{stays, then, weaker}
use Rattle.paraid_txn.specs.Losses.{MayDo}
use Rattle.paraid_txn.specs.CommitStages.{CloseStage, CloseIn, HoldsEarly, IsSpelled, Job, HoldsLate, LayIn, LogStage, LogIn, LogMeta, MarkStage, MarkIn, OpenStage, OpenIn, SyncIn, target_block, job_gone, job_named}
use Rattle.paraid_image.specs.Batches.{names_disk}
use Rattle.paraid_txn.proofs.PutsLemmas.{put_ran, sync_slot_ran}
use Rattle.paraid_txn.proofs.RanLemmas.{through_milder}
use Rattle.paraid_txn.proofs.StagesLemmas.{lay_one, log_block, log_list, log_meta, log_sync, sync_in_none, sync_target_slot}
use Rattle.paraid_txn.proofs.TargetsLemmas.{names_place-no_disk, target_at}
use Rattle.paraid_txn.proofs.WholeLemmas.{closing_whole, laying_whole, logging_whole, marking_whole, opening_whole}

-- one part after the other, with its stages found from the parts
pub andthen : {P A B C : Disks → Type 0} {old mid new : Option Trail} → Ran old mid (CrashTriple P A B) → Ran mid new (CrashTriple P B C) → Ran old new (CrashTriple P A C)
andthen {P} {A} {B} {C} {old} {mid} {new} first second = then P A B C old mid new first second

-- a part that ends anyhow
pub ends : {P A B : Disks → Type 0} {old new : Option Trail} → ((s : Disks) → B s → P s) → Ran old new (CrashTriple P A B) → Ran old new (CrashTriple P A P)
ends {P} {A} {B} {old} {new} is ran = weaker P A A B P old new (λ s a. a) is ran

-- a part that begins at a stage that follows from another
pub from : {P A A' B : Disks → Type 0} {old new : Option Trail} → ((s : Disks) → A' s → A s) → Ran old new (CrashTriple P A B) → Ran old new (CrashTriple P A' B)
from {P} {A} {A'} {B} {old} {new} is ran = weaker P A A' B B old new is (λ s b. b) ran

-- and one from which another stage follows at its end
pub upto : {P A B B' : Disks → Type 0} {old new : Option Trail} → ((s : Disks) → B s → B' s) → Ran old new (CrashTriple P A B) → Ran old new (CrashTriple P A B')
upto {P} {A} {B} {B'} {old} {new} is ran = weaker P A A B B' old new (λ s a. a) is ran

-- one of which less is said at each moment
pub milder : {P Q A B : Disks → Type 0} {old new : Option Trail} → ((s : Disks) → P s → Q s) → Ran old new (CrashTriple P A B) → Ran old new (CrashTriple Q A B)
milder {P} {Q} {A} {B} {old} {new} is ran t tells =
    let r = ran t tells in
    record {
      from = r.from;
      was = r.was;
      calls = r.calls;
      is = r.is;
      holds = record { goes = λ a. let b = r.holds.goes a in (through_milder P Q is (now r.from) r.calls b.0, b.1) };
    }

-- no call
pub nothing_ran : {P A : Disks → Type 0} {told : Option Trail} → ((s : Disks) → A s → P s) → Ran told told (CrashTriple P A A)
nothing_ran {P} {A} {told} is = stays P A A told is (λ t tells a. a)

module _ (j : Job) (good : IsSpelled j) where
  pub log_whole : (k : ℕ) (s : Disks) → LogStage j k s → HoldsEarly j s
  log_whole k s c = logging_whole j good k s c.core

  pub log_meta_whole : (k : ℕ) (s : Disks) → LogMeta j k s → HoldsEarly j s
  log_meta_whole k s c = logging_whole j good k s c.core

  pub log_in_whole : (k n : ℕ) (s : Disks) → LogIn j k n s → HoldsEarly j s
  log_in_whole k n s c = logging_whole j good k s c.core

  pub open_whole : (k : ℕ) (s : Disks) → OpenStage j k s → HoldsEarly j s
  open_whole k s c = opening_whole j good k s c.core

  pub open_in_whole : (k : ℕ) (s : Disks) → OpenIn j k s → HoldsEarly j s
  open_in_whole k s c = opening_whole j good k s c.core

  pub lay_whole : (n : ℕ) (s : Disks) → LayIn j n s → HoldsLate j s
  lay_whole n s c = laying_whole j good s c.core

  pub sync_in_whole : (n : ℕ) (s : Disks) → SyncIn j n s → HoldsLate j s
  sync_in_whole n s c = laying_whole j good s c.core

  pub mark_whole : (k : ℕ) (s : Disks) → MarkStage j k s → HoldsLate j s
  mark_whole k s c = marking_whole j good k s c.core

  pub mark_in_whole : (k : ℕ) (s : Disks) → MarkIn j k s → HoldsLate j s
  mark_in_whole k s c = marking_whole j good k s c.core

  pub close_whole : (k : ℕ) (s : Disks) → CloseStage j k s → HoldsLate j s
  close_whole k s c = closing_whole j good k s c.core

  pub close_in_whole : (k : ℕ) (s : Disks) → CloseIn j k s → HoldsLate j s
  close_in_whole k s c = closing_whole j good k s c.core

-- Each call by itself

-- the disk that gets no call, by what the job says of it
by : {old new : Option Trail} {slot : ℕ → Slot} {as_named skip : Option ℕ} {k : ℕ} {call : Bool → Call} → as_named ≡ skip
    → MayDo old new slot skip k call → MayDo old new slot as_named k call
by {old} {new} {slot} {k} {call} is may = subst (λ (o : Option ℕ). MayDo old new slot o k call) (sym is) may

-- what is written and where, by what the job says of it
of : {old new : Option Trail} {slot : ℕ → Slot} {skip : Option ℕ} {d d' p p' : ℕ} {b b' : Block} → d ≡ d' → p ≡ p' → b ≡ b'
    → MayDo old new slot skip d' (λ done. Write d' p' b' done) → MayDo old new slot skip d (λ done. Write d p b done)
of is at same may = rw (is, at, same) may

module _ (j : Job) (good : IsSpelled j) {old new : Option Trail} {slot : ℕ → Slot} (agrees : (t : Trail) → old ≡ Some t → Agrees (now t) slot) {skip : Option ℕ} where
  module _ (is : job_named j ≡ skip) (k : ℕ) where
    pub log_meta_ran : {b : Block} → j.spelled ≡ b → MayDo old new slot skip k (λ done. Write k 2 b done) → Ran old new (CrashTriple (HoldsEarly j) (LogStage j k) (LogMeta j k))
    log_meta_ran same may = put_ran agrees (of refl refl same (by is may)) (log_whole j good k) (log_meta_whole j good k) (log_meta j good k)

    pub log_list_ran : {b : Block} → j.list ≡ b → MayDo old new slot skip k (λ done. Write k 3 b done) → Ran old new (CrashTriple (HoldsEarly j) (LogMeta j k) (LogIn j k 0))
    log_list_ran same may = put_ran agrees (of refl refl same (by is may)) (log_meta_whole j good k) (log_in_whole j good k 0) (log_list j good k)

    pub log_block_ran : (n : ℕ) {p : ℕ} {b : Block} → n < length j.batch → body_place n ≡ p → target_block j n ≡ b → MayDo old new slot skip k (λ done. Write k p b done)
        → Ran old new (CrashTriple (HoldsEarly j) (LogIn j k n) (LogIn j k (n + 1)))
    log_block_ran n lt at same may = put_ran agrees (of refl at same (by is may)) (log_in_whole j good k n) (log_in_whole j good k (n + 1)) (λ s s' w a. log_block j good k n s s' lt w a)

    pub log_sync_ran : MayDo old new slot skip k (λ done. Sync k done) → Ran old new (CrashTriple (HoldsEarly j) (LogIn j k (length j.batch)) (LogStage j (k + 1)))
    log_sync_ran may = sync_slot_ran agrees (by is may) (log_in_whole j good k (length j.batch)) (log_whole j good (k + 1)) (log_sync j good k)

  module _ (is : job_gone j ≡ skip) (n : ℕ) where
    pub lay_ran : (t : Target) {b : Block} → n < length j.batch → target_at j.batch n ≡ t → log_least ≤ t.place → target_block j n ≡ b
        → MayDo old new slot skip t.disk (λ done. Write t.disk t.place b done) → Ran old new (CrashTriple (HoldsLate j) (LayIn j n) (LayIn j (n + 1)))
    lay_ran t lt at far same may = put_ran agrees (of (ap (λ (u : Target). u.disk) at) (ap (λ (u : Target). u.place) at) same (by is may))
        (lay_whole j good n) (lay_whole j good (n + 1)) (λ s s' w a. lay_one j good n s s' lt (subst (λ (u : Target). log_least ≤ u.place) (sym at) far) w a)

    pub sync_in_one_ran : MayDo old new slot skip n (λ done. Sync n done) → Ran old new (CrashTriple (HoldsLate j) (SyncIn j n) (SyncIn j (n + 1)))
    sync_in_one_ran may = sync_slot_ran agrees (by is may) (sync_in_whole j good n) (sync_in_whole j good (n + 1)) (sync_target_slot j good n)

-- a disk that has no targets gets no sync
module _ (j : Job) (good : IsSpelled j) {told : Option Trail} where
  pub sync_in_none_ran : (n : ℕ) → names_disk j.batch n ≡ false → Ran told told (CrashTriple (HoldsLate j) (SyncIn j n) (SyncIn j (n + 1)))
  sync_in_none_ran n off = stays (HoldsLate j) (SyncIn j n) (SyncIn j (n + 1)) told (sync_in_whole j good (n + 1))
      (λ t tells a. sync_in_none j good n (now t) (λ p. names_place-no_disk j.batch n p off) a)
