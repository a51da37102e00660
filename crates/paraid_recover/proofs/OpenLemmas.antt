-- A witness that is borne is not borne again by the parts of a mount.
use Rattle.std.specs.Prelude.{◌≡◌, ℕ, Bool, true, false, All, List, [], ◌∷◌, ◌++◌, Option, Some, None}
use Rattle.std.proofs.Common.{refl, sym, ◌∙◌, ap, subst}
use Rattle.std.proofs.lemmas.Bool.{true≢false}
use Rattle.paraid_base.specs.declared.block.Block.{Block}
use Rattle.paraid_base.specs.declared.state.Out.{Out}
use Rattle.paraid_base.specs.declared.state.Out.TheVariants.{No, Gone, Fresh}
use Rattle.paraid_base.specs.States.{gone_out}
use Rattle.paraid_rack.specs.declared.call.Call.{Call}
use Rattle.paraid_rack.specs.declared.call.Call.TheVariants.{Read, Write, Sync, Park, SpinUp, Attach}
use Rattle.paraid_rack.specs.declared.call.Power.{Power}
use Rattle.paraid_rack.specs.Disks.{Disks, after_attach, step}
use Rattle.paraid_rack.specs.Told.{GrowsByCall, Ran}
use Rattle.paraid_rack.specs.Trail.{Trail, now, run}
use Rattle.paraid_rack.proofs.AtomsLemmas.{read_block-same, with_at_other, write_block_other}
use Rattle.paraid_rack.proofs.TrailsLemmas.{Ran-call, Ran-none, Ran-then, now-extend}
use Rattle.paraid_record.specs.declared.meta.Meta.{Meta}
use Rattle.paraid_record.specs.Targets.{IsTargetInRange}
use Rattle.paraid_image.specs.Out.{named_out}
use Rattle.paraid_image.specs.Sides.{Batch, is_open, targets}
use Rattle.paraid_txn.specs.Uses.{EachCall, Uses}
use Rattle.paraid_txn.specs.Witness.{EachLeavesPlace, LeavesPlace}
use Rattle.paraid_txn.proofs.CommitPartLemmas.{ran_milder}
use Rattle.paraid_txn.proofs.OnceLemmas.{leave_both, steps_leave}
use Rattle.paraid_recover.specs.Bearing.{BearsOnce, IsNamedLog, LeavesOpen}
use Rattle.paraid_recover.specs.HeardSides.{ReadsLogs}
use Rattle.paraid_recover.specs.Powers.{IsPowerCall}
use Rattle.paraid_recover.specs.Quiet.{IsReadOrSync}
use Rattle.paraid_recover.specs.RecoveryMark.{to_mark, to_mark_by}
use Rattle.paraid_recover.proofs.FitLemmas.{gone_named}

-- a place that is left has the block that it had
left_by : (x : ℕ) (c : Call) (s : Disks) → LeavesPlace 2 x c → (step c s).block 2 x ≡ s.block 2 x
unfolding step
left_by x (Read e q done) s left = refl
left_by x (Write e q b done) s left = write_block_other s e q b done 2 x left
left_by x (Sync e done) s left = refl
left_by x (Park e done) s left = refl
left_by x (SpinUp e done) s left = refl
left_by x (Attach e size done) s left = ap (λ (f : ℕ → Block). f x) (with_at_other s.block e (after_attach done (s.block e)) 2 left)

left_block : (x : ℕ) (cs : List Call) (s : Disks) → EachLeavesPlace 2 x cs → (run s cs).block 2 x ≡ s.block 2 x
left_block x [] s left = refl
left_block x (c ∷ cs) s left = left_block x cs (step c s) left.1 ∙ left_by x c s left.0

-- one part after the other
open_both : (o : Option ℕ) (s : Disks) (cs ds : List Call) → LeavesOpen o s cs → LeavesOpen o (run s cs) ds → LeavesOpen o s (cs ++ ds)
open_both o s cs ds first second x named opened =
    let one = first x named opened in
    leave_both 2 x cs ds one (second x named (ap is_open (left_block x cs s one) ∙ opened))

pub open_then : (o : Option ℕ) (old mid new : Option Trail) → Ran old mid (LeavesOpen o) → Ran mid new (LeavesOpen o) → Ran old new (LeavesOpen o)
open_then o old mid new first second = Ran-then (LeavesOpen o) (open_both o) old mid new first second

pub once_then : (m : Meta) (old mid new : Option Trail) → BearsOnce m old mid → BearsOnce m mid new → BearsOnce m old new
once_then m old mid new first second two = open_then (gone_out m.out) old mid new (first two) (second two)

-- no call
pub open_none : (o : Option ℕ) (told : Option Trail) → Ran told told (LeavesOpen o)
open_none o told = Ran-none (LeavesOpen o) (λ s x named opened. tt) told

-- the place is not open, or there is none
pub open_shut : (o : Option ℕ) (old new : Option Trail) (Q : Disks → List Call → Type 0) → Ran old new Q
    → ((s : Trail) → old ≡ Some s → (x : ℕ) → IsNamedLog o x → is_open ((now s).block 2 x) ≡ false) → Ran old new (LeavesOpen o)
open_shut o old new Q ran shut t tells =
    let it = ran t tells in
    record { from = it.from; was = it.was; calls = it.calls; is = it.is; holds = λ x named opened. absurd (true≢false (sym opened ∙ shut it.from it.was x named)) }

pub open_never : (o : Option ℕ) (old new : Option Trail) (Q : Disks → List Call → Type 0) → Ran old new Q → ((x : ℕ) → IsNamedLog o x → ⊥) → Ran old new (LeavesOpen o)
open_never o old new Q ran none = ran_milder Q (LeavesOpen o) (λ s cs each x named opened. absurd (none x named)) ran

-- a read
pub open_read : (o : Option ℕ) (old new : Option Trail) (y : ℕ) (done : Bool) → GrowsByCall old new (Read 2 y done) → Ran old new (LeavesOpen o)
open_read o old new y done grows = Ran-call (LeavesOpen o) old new (Read 2 y done) grows (λ s tells x named opened. (tt, tt))

-- a place that was read as closed is so after the read
pub shut_after : (old new : Option Trail) (y disk : ℕ) (b : Block) → y ≡ disk → GrowsByCall old new (Read 2 y true) → ((t : Trail) → old ≡ Some t → b ≡ (now t).block 2 y) → is_open b ≡ false
    → (t : Trail) → new ≡ Some t → is_open ((now t).block 2 disk) ≡ false
shut_after old new y disk b same grows bytes shut t tells =
    let it = grows t tells in
    let block : (now t).block 2 y ≡ (now it.0).block 2 y = ap (λ (s : Disks). s.block 2 y) (ap now it.2 ∙ now-extend it.0 (Read 2 y true ∷ [])) ∙ ap (λ (f : ℕ → ℕ → Block). f 2 y) (read_block-same (now it.0) 2 y true) in
    subst (λ (k : ℕ). is_open ((now t).block 2 k) ≡ false) same (ap is_open (block ∙ sym (bytes it.0 it.1)) ∙ shut)

-- calls that leave each place of a witness
leave_each : (u : Call → Type 0) (x : ℕ) → ((c : Call) → u c → LeavesPlace 2 x c) → (s : Disks) (cs : List Call) → EachCall u s cs → EachLeavesPlace 2 x cs
leave_each u x leaves s [] each = tt
leave_each u x leaves s (c ∷ cs) each = (leaves c each.1, leave_each u x leaves (step c s) cs each.2)

open_by : (u : Call → Type 0) → ((x : ℕ) (c : Call) → u c → LeavesPlace 2 x c) → (o : Option ℕ) (old new : Option Trail) → Ran old new (EachCall u) → Ran old new (LeavesOpen o)
open_by u leaves o old new ran = ran_milder (EachCall u) (LeavesOpen o) (λ s cs each x named opened. leave_each u x (leaves x) s cs each) ran

quiet_leaves : (n x : ℕ) (c : Call) → IsReadOrSync n c → LeavesPlace 2 x c
quiet_leaves n x (Read d p done) is = tt
quiet_leaves n x (Write d p b done) is = absurd is
quiet_leaves n x (Sync d done) is = tt
quiet_leaves n x (Park d done) is = absurd is
quiet_leaves n x (SpinUp d done) is = absurd is
quiet_leaves n x (Attach d size done) is = absurd is

pub open_quiet : (n : ℕ) (o : Option ℕ) (old new : Option Trail) → Ran old new (EachCall (IsReadOrSync n)) → Ran old new (LeavesOpen o)
open_quiet n = open_by (IsReadOrSync n) (quiet_leaves n)

read_leaves : (x : ℕ) (c : Call) → ReadsLogs c → LeavesPlace 2 x c
read_leaves x (Read d p done) is = tt
read_leaves x (Write d p b done) is = absurd is
read_leaves x (Sync d done) is = absurd is
read_leaves x (Park d done) is = absurd is
read_leaves x (SpinUp d done) is = absurd is
read_leaves x (Attach d size done) is = absurd is

pub open_reads : (o : Option ℕ) (old new : Option Trail) → Ran old new (EachCall ReadsLogs) → Ran old new (LeavesOpen o)
open_reads = open_by ReadsLogs read_leaves

turn_leaves : (m : Meta) (x : ℕ) (c : Call) → IsPowerCall m c → LeavesPlace 2 x c
turn_leaves m x (Read d p done) is = absurd is
turn_leaves m x (Write d p b done) is = absurd is
turn_leaves m x (Sync d done) is = absurd is
turn_leaves m x (Park d done) is = tt
turn_leaves m x (SpinUp d done) is = tt
turn_leaves m x (Attach d size done) is = absurd is

pub open_turns : (m : Meta) (o : Option ℕ) (old new : Option Trail) → Ran old new (EachCall (IsPowerCall m)) → Ran old new (LeavesOpen o)
open_turns m = open_by (IsPowerCall m) (turn_leaves m)

-- the calls of a resumption
pub open_resumed : (m : Meta) (batch : Batch) → All (IsTargetInRange m.setup.geometry) (targets batch) → (o : Option ℕ) (old new : Option Trail) → Ran old new (EachCall (Uses m batch)) → Ran old new (LeavesOpen o)
open_resumed m batch past o old new ran = ran_milder (EachCall (Uses m batch)) (LeavesOpen o) (λ s cs each x named opened. steps_leave m batch past x named.1 s cs each) ran

-- witness is borne against the disk that is named, and so against one that is gone
pub open_named : (m : Meta) (old new : Option Trail) → Ran old new (LeavesOpen (named_out m.out)) → Ran old new (LeavesOpen (gone_out m.out))
open_named m old new ran = ran_milder (LeavesOpen (named_out m.out)) (LeavesOpen (gone_out m.out)) (λ s cs leaves x named opened. leaves x (gone_named m.out x named.0, named.1) opened) ran

-- after the reads of the logs
pub once_reads : (m : Meta) (old read new : Option Trail) → Ran old read (EachCall ReadsLogs) → BearsOnce m read new → BearsOnce m old new
once_reads m old read new reads later two = open_then (gone_out m.out) old read new (open_reads (gone_out m.out) old read reads) (later two)

-- after a resumption
pub once_resumed : (m : Meta) (batch : Batch) (old mid new : Option Trail) → All (IsTargetInRange m.setup.geometry) (targets batch) → Ran old mid (EachCall (Uses m batch)) → BearsOnce m mid new → BearsOnce m old new
once_resumed m batch old mid new past resumed later two = open_then (gone_out m.out) old mid new (open_resumed m batch past (gone_out m.out) old mid resumed) (later two)

-- where a disk is gone, none is to be marked
none_marked_by : (o : Out) (power : ℕ → Power) (n d x : ℕ) → to_mark_by o power n ≡ Some d → gone_out o ≡ Some x → ⊥
none_marked_by No power n d x mark gone = let z : None ≡ Some x = gone in cc
none_marked_by (Gone e) power n d x mark gone = let z : None ≡ Some d = mark in cc
none_marked_by (Fresh e rebuilt) power n d x mark gone = let z : None ≡ Some x = gone in cc

pub none_marked : (m : Meta) (power : ℕ → Power) (d : ℕ) → to_mark power m ≡ Some d → (x : ℕ) → IsNamedLog (gone_out m.out) x → ⊥
none_marked m power d mark x named = none_marked_by m.out power m.setup.geometry.disks d x mark named.0
