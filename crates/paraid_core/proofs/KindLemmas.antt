-- Which calls are made, one part after the other.
use Rattle.std.specs.Prelude.{◌≡◌, ◌≢◌, ℕ, ◌-◌, ◌<◌, ◌≤◌, nat_lt, length, Bool, true, false, List, [], ◌∷◌, ◌++◌, Option, Some, None}
use Rattle.std.proofs.Common.{refl, sym, ◌∙◌, ap, subst, arith, inl, inr}
use Rattle.std.proofs.lemmas.Bool.Decides.{nat_tests}
use Rattle.std.proofs.lemmas.Bool.{cases_Bool, cases_lt, false≢true}
use Rattle.paraid_base.specs.declared.block.Block.{Block}
use Rattle.paraid_base.specs.declared.state.Out.{Out}
use Rattle.paraid_base.specs.declared.state.Out.TheVariants.{Fresh, Gone, No}
use Rattle.paraid_base.specs.Log.{batch_room, log_least}
use Rattle.paraid_rack.specs.declared.call.Call.{Call}
use Rattle.paraid_rack.specs.declared.call.Call.TheVariants.{Read, Write, Sync, Park, SpinUp, Attach}
use Rattle.paraid_rack.specs.declared.call.Power.TheVariants.{Spinning}
use Rattle.paraid_rack.specs.Calls.{disk_of}
use Rattle.paraid_rack.specs.Disks.{Disks, step}
use Rattle.paraid_rack.specs.Lawful.{IsLawful}
use Rattle.paraid_rack.specs.Slots.{Agrees, Slot}
use Rattle.paraid_rack.specs.Told.{GrowsByCall, Ran}
use Rattle.paraid_rack.specs.Trail.{Trail, now, run}
use Rattle.paraid_rack.proofs.TrailsLemmas.{Ran-call, Ran-none, Ran-then}
use Rattle.paraid_record.specs.declared.meta.Meta.{Meta}
use Rattle.paraid_record.specs.declared.meta.Setup.{Setup}
use Rattle.paraid_image.specs.Out.{named_out, or_else}
use Rattle.paraid_image.specs.Sides.{Batch}
use Rattle.paraid_image.specs.Mark.{meta_with_lost}
use Rattle.paraid_txn.specs.Commit.{gone_out}
use Rattle.paraid_txn.specs.Uses.{EachCall, UsesInCommit, UsesLog, UsesTarget, UsesWitness}
use Rattle.paraid_view.specs.Reads.{AreArrayReads, AreOffDisk}
use Rattle.paraid_core.specs.Calls.{IsCopySync, IsDataCall, IsOneCall, IsTransferCall}
use Rattle.paraid_core.specs.CoreInvariant.{is_copied}
use Rattle.paraid_core.specs.Room.{commits_first}
use Rattle.paraid_core.specs.Steps.{IsMarkedFrom}
use Rattle.paraid_view.proofs.ReadLemmas.{ran_then}
use Rattle.paraid_core.proofs.AfterLemmas.{marked_setup}
use Rattle.paraid_core.proofs.CommitLemmas.{both_of}

-- a disk that is gone is named out
pub gone_named : (o : Out) (d : ℕ) → gone_out o ≡ Some d → named_out o ≡ Some d
gone_named No d is = is
gone_named (Gone e) d is = is
gone_named (Fresh e u) d is = let z : None ≡ Some d = is in cc

each_append : (kind : Call → Type 0) (s : Disks) (cs ds : List Call) → EachCall kind s cs → EachCall kind (run s cs) ds → EachCall kind s (cs ++ ds)
each_append kind s [] ds first second = second
each_append kind s (c ∷ cs) ds first second = (first.0, first.1, each_append kind (step c s) cs ds first.2 second)

pub each_milder : (kind less : Call → Type 0) → ((c : Call) → kind c → less c) → (s : Disks) (cs : List Call) → EachCall kind s cs → EachCall less s cs
each_milder kind less go s [] each = tt
each_milder kind less go s (c ∷ cs) each = (each.0, go c each.1, each_milder kind less go (step c s) cs each.2)

pub calls_none : (kind : Call → Type 0) (told : Option Trail) → Ran told told (EachCall kind)
calls_none kind told = Ran-none (EachCall kind) (λ s. tt) told

pub calls_then : (kind : Call → Type 0) (old mid new : Option Trail) → Ran old mid (EachCall kind) → Ran mid new (EachCall kind) → Ran old new (EachCall kind)
calls_then kind old mid new first second = Ran-then (EachCall kind) (each_append kind) old mid new first second

-- what holds of the calls from each start holds of them
pub calls_are : (Q R : Disks → List Call → Type 0) → ((s : Disks) (cs : List Call) → Q s cs → R s cs) → (old new : Option Trail) → Ran old new Q → Ran old new R
calls_are Q R go old new ran t tells = let r = ran t tells in record { from = r.from; was = r.was; calls = r.calls; is = r.is; holds = go (now r.from) r.calls r.holds }

pub calls_milder : (kind less : Call → Type 0) → ((c : Call) → kind c → less c) → (old new : Option Trail) → Ran old new (EachCall kind) → Ran old new (EachCall less)
calls_milder kind less go old new ran = calls_are (EachCall kind) (EachCall less) (each_milder kind less go) old new ran

-- one call
pub one_call : (call : Bool → Call) (old new : Option Trail) (done : Bool) → GrowsByCall old new (call done) → ((t : Trail) → old ≡ Some t → IsLawful (now t) (call done)) → Ran old new (IsOneCall call)
one_call call old new done grows lawful = Ran-call (IsOneCall call) old new (call done) grows (λ t is. (done, refl, lawful t is))

pub one_is_each : (call : Bool → Call) (kind : Call → Type 0) → ((done : Bool) → kind (call done)) → (old new : Option Trail) → Ran old new (IsOneCall call) → Ran old new (EachCall kind)
one_is_each call kind is old new ran =
    calls_are (IsOneCall call) (EachCall kind) (λ s cs one. subst (EachCall kind s) (sym one.1) (one.2, is one.0, tt)) old new ran

-- calls of a commit
uses_log : (m : Meta) (c : Call) → disk_of c < m.setup.geometry.disks → UsesLog (named_out m.out) c → IsTransferCall m.setup.geometry.disks (gone_out m.out) c
uses_log m (Read d p done) low is = (low, λ away. is.0.1 (gone_named m.out d away), tt)
uses_log m (Write d p b done) low is = (low, λ away. is.0.1 (gone_named m.out d away), tt)
uses_log m (Sync d done) low is = (low, λ away. is.1 (gone_named m.out d away), tt)
uses_log m (Park d done) low is = absurd is
uses_log m (SpinUp d done) low is = absurd is
uses_log m (Attach d size done) low is = absurd is

uses_target : (m : Meta) (batch : Batch) (c : Call) → disk_of c < m.setup.geometry.disks → UsesTarget (gone_out m.out) batch c → IsTransferCall m.setup.geometry.disks (gone_out m.out) c
uses_target m batch (Read d p done) low is = absurd is
uses_target m batch (Write d p b done) low is = (low, is.0, tt)
uses_target m batch (Sync d done) low is = (low, is.0, tt)
uses_target m batch (Park d done) low is = absurd is
uses_target m batch (SpinUp d done) low is = absurd is
uses_target m batch (Attach d size done) low is = absurd is

uses_witness : (m : Meta) (c : Call) → UsesWitness m c → IsTransferCall m.setup.geometry.disks (gone_out m.out) c
uses_witness m (Read d p done) is = absurd is
uses_witness m (Write d p b done) is = (subst (λ (x : ℕ). x < m.setup.geometry.disks) (sym is.0) is.1, λ away. is.2 (away ∙ ap Some is.0), tt)
uses_witness m (Sync d done) is = (subst (λ (x : ℕ). x < m.setup.geometry.disks) (sym is.0) is.1, λ away. is.2 (away ∙ ap Some is.0), tt)
uses_witness m (Park d done) is = absurd is
uses_witness m (SpinUp d done) is = absurd is
uses_witness m (Attach d size done) is = absurd is

pub uses_transfer : (m : Meta) (batch : Batch) (c : Call) → UsesInCommit m batch c → IsTransferCall m.setup.geometry.disks (gone_out m.out) c
uses_transfer m batch c is = elim is [
  | inl of ↦ elim of.1 [ inl log ↦ uses_log m c of.0 log | inr target ↦ uses_target m batch c of.0 target ]
  | inr witness ↦ uses_witness m c witness
]

-- a call between two commits is one that a commit may make
pub data_transfer : (n : ℕ) (away : Option ℕ) (c : Call) → IsDataCall n away c → IsTransferCall n away c
data_transfer n away (Read d p done) is = (is.0, is.1, tt)
data_transfer n away (Write d p b done) is = (is.0, is.1, tt)
data_transfer n away (Sync d done) is = (is.0, is.1, tt)
data_transfer n away (Park d done) is = absurd is.2
data_transfer n away (SpinUp d done) is = absurd is.2
data_transfer n away (Attach d size done) is = absurd is.2

-- a disk to which copies went is not one that is gone
pub sync_data : (n : ℕ) (copied : List Bool) (away : Option ℕ) → ((d : ℕ) → IsCopySync n copied (Sync d true) → away ≢ Some d) → (c : Call) → IsCopySync n copied c → IsDataCall n away c
sync_data n copied away not (Read d p done) is = absurd is
sync_data n copied away not (Write d p b done) is = absurd is
sync_data n copied away not (Sync d done) is = (is.0, not d is, tt)
sync_data n copied away not (Park d done) is = absurd is
sync_data n copied away not (SpinUp d done) is = absurd is
sync_data n copied away not (Attach d size done) is = absurd is

-- a disk that was gone is so still
pub data_still : (n : ℕ) (away gone_then : Option ℕ) → ((d : ℕ) → away ≡ Some d → gone_then ≡ Some d) → (c : Call) → IsDataCall n gone_then c → IsDataCall n away c
data_still n away gone_then still c is = (is.0, λ k. is.1 (still (disk_of c) k), is.2)

pub transfer_still : (n : ℕ) (away gone_then : Option ℕ) → ((d : ℕ) → away ≡ Some d → gone_then ≡ Some d) → (c : Call) → IsTransferCall n gone_then c → IsTransferCall n away c
transfer_still n away gone_then still c is = (is.0, λ k. is.1 (still (disk_of c) k), is.2)

-- reads while no disk is gone
reads_whole : (n : ℕ) (away : Option ℕ) → away ≡ None → (s : Disks) (cs : List Call) → AreArrayReads n s cs → EachCall (IsDataCall n away) s cs
reads_whole n away none s [] are = tt
reads_whole n away none s (Read d p done ∷ cs) are = (are.0.1, (are.0.0, λ is. let z : None ≡ Some d = sym none ∙ is in cc, tt), reads_whole n away none (step (Read d p done) s) cs are.1)
reads_whole n away none s (Write d p b done ∷ cs) are = absurd are.0
reads_whole n away none s (Sync d done ∷ cs) are = absurd are.0
reads_whole n away none s (Park d done ∷ cs) are = absurd are.0
reads_whole n away none s (SpinUp d done ∷ cs) are = absurd are.0
reads_whole n away none s (Attach d size done ∷ cs) are = absurd are.0

pub calls_whole : (n k : ℕ) (away : Option ℕ) → k ≡ n → away ≡ None → (old new : Option Trail) → Ran old new (AreArrayReads k) → Ran old new (EachCall (IsDataCall n away))
calls_whole n k away is none old new ran =
    calls_are (AreArrayReads k) (EachCall (IsDataCall n away)) (λ s cs are. reads_whole n away none s cs (subst (λ (z : ℕ). AreArrayReads z s cs) is are)) old new ran

-- reads that are not on the disk that is out
reads_off : (n : ℕ) (away off : Option ℕ) → ((d : ℕ) → away ≡ Some d → off ≡ Some d) → (s : Disks) (cs : List Call) → AreArrayReads n s cs → AreOffDisk off s cs → EachCall (IsDataCall n away) s cs
reads_off n away off is s [] are apart = tt
reads_off n away off is s (Read d p done ∷ cs) are apart = (are.0.1, (are.0.0, λ k. apart.0 (is d k), tt), reads_off n away off is (step (Read d p done) s) cs are.1 apart.1)
reads_off n away off is s (Write d p b done ∷ cs) are apart = absurd are.0
reads_off n away off is s (Sync d done ∷ cs) are apart = absurd are.0
reads_off n away off is s (Park d done ∷ cs) are apart = absurd are.0
reads_off n away off is s (SpinUp d done ∷ cs) are apart = absurd are.0
reads_off n away off is s (Attach d size done ∷ cs) are apart = absurd are.0

pub calls_off : (n k : ℕ) (away off : Option ℕ) → k ≡ n → ((d : ℕ) → away ≡ Some d → off ≡ Some d) → (old new : Option Trail) → Ran old new (AreArrayReads k) → Ran old new (AreOffDisk off) → Ran old new (EachCall (IsDataCall n away))
calls_off n k away off same is old new reads apart =
    calls_are (λ s cs. AreArrayReads k s cs × AreOffDisk off s cs) (EachCall (IsDataCall n away))
    (λ s cs both. reads_off n away off is s cs (subst (λ (z : ℕ). AreArrayReads z s cs) same both.0) both.1) old new
    (both_of (AreArrayReads k) (AreOffDisk off) old new reads apart)

-- one write past the log
pub written_calls : (n : ℕ) (away : Option ℕ) (d p : ℕ) (b : Block) (done : Bool) (old new : Option Trail) → GrowsByCall old new (Write d p b done) → d < n → away ≢ Some d → log_least ≤ p
    → ((t : Trail) → old ≡ Some t → (now t).power d ≡ Spinning) → Ran old new (EachCall (IsDataCall n away))
written_calls n away d p b done old new grows low not far spins = Ran-call (EachCall (IsDataCall n away)) old new (Write d p b done) grows (λ t is. (spins t is, (low, not, far), tt))

-- a disk that spins, and of which nothing is unsynced, may be parked
pub may_park : (s : Disks) (slot : ℕ → Slot) (d : ℕ) → Agrees s slot → (slot d).power ≡ Spinning → (slot d).unsynced ≡ false → (s.power d ≡ Spinning) × ((p : ℕ) → s.loose d p ≡ false)
may_park s slot d agrees spins dry = (
  agrees.power d ∙ spins,
  λ p. elim (cases_Bool (s.loose d p)) [ inl wet ↦ absurd (false≢true (sym dry ∙ agrees.loose d p wet)) | inr is ↦ is ],
)

-- where the meta is the same, so is the kind of the calls
pub data_same : (m k : Meta) → m ≡ k → (old new : Option Trail) → Ran old new (EachCall (IsDataCall m.setup.geometry.disks (gone_out m.out)))
    → Ran old new (EachCall (IsDataCall k.setup.geometry.disks (gone_out k.out)))
data_same m k same old new ran = subst (λ (z : Meta). Ran old new (EachCall (IsDataCall z.setup.geometry.disks (gone_out z.out)))) same ran

-- of an array of the same shape, of which a disk that was gone is so still
pub data_after : (m k : Meta) → k.setup ≡ m.setup → ((d : ℕ) → gone_out m.out ≡ Some d → gone_out k.out ≡ Some d) → (old new : Option Trail)
    → Ran old new (EachCall (IsDataCall k.setup.geometry.disks (gone_out k.out))) → Ran old new (EachCall (IsDataCall m.setup.geometry.disks (gone_out m.out)))
data_after m k setup still old new ran =
    calls_milder _ _ (data_still m.setup.geometry.disks (gone_out m.out) (gone_out k.out) still) old new
    (subst (λ (z : Setup). Ran old new (EachCall (IsDataCall z.geometry.disks (gone_out k.out)))) setup ran)

pub transfer_after : (m k : Meta) → k.setup ≡ m.setup → ((d : ℕ) → gone_out m.out ≡ Some d → gone_out k.out ≡ Some d) → (old new : Option Trail)
    → Ran old new (EachCall (IsDataCall k.setup.geometry.disks (gone_out k.out))) → Ran old new (EachCall (IsTransferCall m.setup.geometry.disks (gone_out m.out)))
transfer_after m k setup still old new ran = calls_milder _ _ (data_transfer m.setup.geometry.disks (gone_out m.out)) old new (data_after m k setup still old new ran)

-- where a disk may have been lost, one that was gone is so still
pub gone_marked : (m new : Meta) → IsMarkedFrom m new → (d : ℕ) → gone_out m.out ≡ Some d → gone_out new.out ≡ Some d
gone_marked m new marked d is = by marked.lost refl
  where
    by : (o : Option ℕ) → marked.lost ≡ o → gone_out new.out ≡ Some d
    by None none = ap (λ (z : Meta). gone_out z.out) (marked.is ∙ ap (λ (o : Option ℕ). meta_with_lost o m) none) ∙ is
    by (Some x) lost =
        ap (λ (z : Meta). gone_out z.out) (marked.is ∙ ap (λ (o : Option ℕ). meta_with_lost o m) lost)
        ∙ ap Some (sym (marked.alone x d lost (gone_named m.out d is)))

-- no disk is gone where none is down
pub none_gone : (named : Option ℕ) (o : Out) (d : ℕ) → or_else named (named_out o) ≡ None → gone_out o ≡ Some d → ⊥
none_gone None o d none is = let z : None ≡ Some d = sym none ∙ gone_named o d is in cc
none_gone (Some e) o d none is = let z : Some e ≡ None = none in cc

-- a disk to which copies may go only before it was synced
pub syncs_still : (n disk : ℕ) (was now : List Bool) → ((d : ℕ) → d < disk → is_copied now d ≡ false) → ((d : ℕ) → disk ≤ d → is_copied now d ≡ is_copied was d) → (c : Call) → IsCopySync n now c → IsCopySync n was c
syncs_still n disk was now before later (Read d p done) is = absurd is
syncs_still n disk was now before later (Write d p b done) is = absurd is
syncs_still n disk was now before later (Sync d done) is = (
  is.0,
  elim (cases_lt d disk) [ inl low ↦ absurd (false≢true (sym (before d low) ∙ is.1)) | inr high ↦ sym (later d high) ∙ is.1 ],
)
syncs_still n disk was now before later (Park d done) is = absurd is
syncs_still n disk was now before later (SpinUp d done) is = absurd is
syncs_still n disk was now before later (Attach d size done) is = absurd is

pub copy_syncs_still : (m k : Meta) → IsMarkedFrom m k → (disk : ℕ) (was now : List Bool) → ((d : ℕ) → d < disk → is_copied now d ≡ false) → ((d : ℕ) → disk ≤ d → is_copied now d ≡ is_copied was d)
    → (old new : Option Trail) → Ran old new (EachCall (IsCopySync k.setup.geometry.disks now)) → Ran old new (EachCall (IsCopySync m.setup.geometry.disks was))
copy_syncs_still m k marked disk was now before later old new ran =
    calls_milder _ _ (syncs_still m.setup.geometry.disks disk was now before later) old new
    (subst (λ (z : Setup). Ran old new (EachCall (IsCopySync z.geometry.disks now))) (ap (λ (z : Meta). z.setup) marked.is ∙ marked_setup marked.lost m) ran)

-- no call
pub idle_calls : (kind : Call → Type 0) (old new : Option Trail) → new ≡ old → Ran old new (EachCall kind)
idle_calls kind old new is = subst (λ (z : Option Trail). Ran old z (EachCall kind)) (sym is) (calls_none kind old)

-- reads of an array of this shape
pub reads_of : (n k : ℕ) → k ≡ n → (old new : Option Trail) → Ran old new (AreArrayReads k) → Ran old new (AreArrayReads n)
reads_of n k is old new ran = subst (λ (z : ℕ). Ran old new (AreArrayReads z)) is ran

pub reads_then : (n k : ℕ) → k ≡ n → (old mid new : Option Trail) → Ran old mid (AreArrayReads n) → Ran mid new (AreArrayReads k) → Ran old new (AreArrayReads n)
reads_then n k is old mid new first second = ran_then old mid new n first (reads_of n k is mid new second)

pub first_true : (batch : Batch) (targets : ℕ) → batch_room - targets < length batch → commits_first batch targets ≡ true
first_true batch targets low = by (batch_room - targets) (length batch) low
  where
    by : (a b : ℕ) → a < b → nat_lt a b ≡ true
    by a b l = grind (arith, nat_tests)

-- no call, and then these
pub idle_then : (kind : Call → Type 0) (old mid new : Option Trail) → mid ≡ old → Ran mid new (EachCall kind) → Ran old new (EachCall kind)
idle_then kind old mid new is ran = subst (λ (z : Option Trail). Ran z new (EachCall kind)) is ran
