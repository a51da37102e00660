-- Where an array was left whole, the parts of a mount write nothing.
use Rattle.std.specs.Prelude.{◌≡◌, ℕ, ◌<◌, Bool, true, false, List, [], ◌∷◌, ◌++◌, Option, Some, None, if◌then◌else◌}
use Rattle.std.proofs.Common.{refl, sym, ◌∙◌, ap, subst}
use Rattle.std.proofs.lemmas.Bool.{false≢true}
use Rattle.paraid_base.specs.Xor.{zero_block}
use Rattle.paraid_rack.specs.declared.call.Call.{Call}
use Rattle.paraid_rack.specs.declared.call.Call.TheVariants.{Read, Write, Sync, Park, SpinUp, Attach}
use Rattle.paraid_rack.specs.Calls.{IsRead}
use Rattle.paraid_rack.specs.Disks.{Disks, IsPresent, is_present, step, with_at}
use Rattle.paraid_rack.specs.Lawful.{IsLawful}
use Rattle.paraid_rack.specs.Slots.{Agrees, Slot}
use Rattle.paraid_rack.specs.Told.{Ran}
use Rattle.paraid_rack.specs.Trail.{Trail, now, run}
use Rattle.paraid_rack.proofs.TrailsLemmas.{Ran-none}
use Rattle.paraid_record.specs.declared.meta.Meta.{Meta}
use Rattle.paraid_image.specs.Calls.{disk_of, is_done}
use Rattle.paraid_image.specs.Lost.{first_lost}
use Rattle.paraid_image.specs.Out.{named_out}
use Rattle.paraid_image.specs.Rest.{AreLogGatesClosed, IsAtRest}
use Rattle.paraid_image.specs.Sides.{LogState, closed_over, has_place, is_open, stored_block}
use Rattle.paraid_image.specs.Standing.{Stands}
use Rattle.paraid_image.proofs.CallLemmas.{zeroed_closed}
use Rattle.paraid_image.proofs.LostLemmas.{first_later}
use Rattle.paraid_image.proofs.StandingLemmas.{Stands-same}
use Rattle.paraid_txn.specs.Resume.{OnlyReadsIfClosed}
use Rattle.paraid_txn.specs.Uses.{EachCall}
use Rattle.paraid_txn.specs.Witness.{EachLeavesPlace, LeavesPlace}
use Rattle.paraid_txn.proofs.CommitPartLemmas.{EachCall-milder, ran_milder}
use Rattle.paraid_txn.proofs.WitnessLemmas.{same_calls}
use Rattle.paraid_recover.specs.Bearing.{BearsAgainst, IsNamedLog, LeavesOpen}
use Rattle.paraid_recover.specs.Powers.{IsPowerCall}
use Rattle.paraid_recover.specs.Quiet.{IsInLog, IsReadOrSync}
use Rattle.paraid_recover.specs.RecoveryMark.{to_mark}
use Rattle.paraid_recover.specs.Still.{IsLeftWhole, IsUpToDate, StaysUnwritten, WritesNothing}
use Rattle.paraid_recover.proofs.AttachLemmas.{ran_then}
use Rattle.paraid_recover.proofs.FailedLemmas.{calls_append}
use Rattle.paraid_recover.proofs.MarkMomentLemmas.{mark_by_slots}
use Rattle.paraid_recover.proofs.SetupLemmas.{self_at}

-- Reads and syncs of which none fails leave all but what is loose.

-- a call of this kind that is done leaves all but what is loose
abbrev LeavesAll : (Call → Type 0) → Type 0
LeavesAll uses = (c : Call) (s : Disks) → uses c → is_done c ≡ true → step c s ≡ record s { loose = (step c s).loose }

self_all : {A : Type 0} (f : ℕ → A) (k : ℕ) → with_at f k (f k) ≡ f
self_all f k = λ t. λ j. (self_at f k j) t

quiet_leaves : (n : ℕ) → LeavesAll (IsReadOrSync n)
unfolding step
quiet_leaves n (Read d p true) s uses done = λ t. record { power = (self_all s.power d) t; size = (self_all s.size d) t; block = s.block; loose = s.loose }
quiet_leaves n (Read d p false) s uses done = absurd (false≢true done)
quiet_leaves n (Write d p b done) s uses is = absurd uses
quiet_leaves n (Sync d true) s uses done = λ t. record { power = (self_all s.power d) t; size = (self_all s.size d) t; block = s.block; loose = with_at s.loose d (λ p. false) }
quiet_leaves n (Sync d false) s uses done = absurd (false≢true done)
quiet_leaves n (Park d done) s uses is = absurd uses
quiet_leaves n (SpinUp d done) s uses is = absurd uses
quiet_leaves n (Attach d size done) s uses is = absurd uses

read_leaves : LeavesAll IsRead
unfolding step
read_leaves (Read d p true) s uses done = λ t. record { power = (self_all s.power d) t; size = (self_all s.size d) t; block = s.block; loose = s.loose }
read_leaves (Read d p false) s uses done = absurd (false≢true done)
read_leaves (Write d p b done) s uses is = absurd uses
read_leaves (Sync d done) s uses is = absurd uses
read_leaves (Park d done) s uses is = absurd uses
read_leaves (SpinUp d done) s uses is = absurd uses
read_leaves (Attach d size done) s uses is = absurd uses

leaves_all : (uses : Call → Type 0) → LeavesAll uses → (s : Disks) (cs : List Call) → EachCall uses s cs → first_lost cs ≡ None → run s cs ≡ record s { loose = (run s cs).loose }
leaves_all uses leaves s [] each none = refl
leaves_all uses leaves s (c ∷ cs) each none = by (is_done c) refl none (leaves_all uses leaves (step c s) cs each.2)
  where
    by : (done : Bool) → is_done c ≡ done → (if done then first_lost cs else Some (disk_of c)) ≡ None
        → (first_lost cs ≡ None → run (step c s) cs ≡ record (step c s) { loose = (run (step c s) cs).loose }) → run (step c s) cs ≡ record s { loose = (run (step c s) cs).loose }
    by true done later rest = rest later ∙ ap (λ (u : Disks). record u { loose = (run (step c s) cs).loose }) (leaves c s each.1 done)
    by false failed later rest = absurd (let z : Some (disk_of c) ≡ None = later in cc)

-- what is loose makes no difference
up_to_date_by : (m : Meta) (s : Disks) (loose : ℕ → ℕ → Bool) → IsUpToDate m s → IsUpToDate m (record s { loose = loose })
unfolding stored_block
up_to_date_by m s loose is = record { version_is = is.version_is; unmarked = is.unmarked; borne = is.borne }

still_up_to_date : (uses : Call → Type 0) → LeavesAll uses → (m : Meta) (s : Disks) (cs : List Call) → EachCall uses s cs → first_lost cs ≡ None → IsUpToDate m s → IsUpToDate m (run s cs)
still_up_to_date uses leaves m s cs each none is = subst (IsUpToDate m) (sym (leaves_all uses leaves s cs each none)) (up_to_date_by m s (run s cs).loose is)

-- One part after another

-- of calls that follow one another and of which none fails, none of the first ones and none of the later ones does
none_first : (cs ds : List Call) → first_lost (cs ++ ds) ≡ None → first_lost cs ≡ None
none_first [] ds none = refl
none_first (c ∷ cs) ds none = by (is_done c) none (none_first cs ds)
  where
    by : (done : Bool) → (if done then first_lost (cs ++ ds) else Some (disk_of c)) ≡ None → (first_lost (cs ++ ds) ≡ None → first_lost cs ≡ None)
        → (if done then first_lost cs else Some (disk_of c)) ≡ None
    by true later rest = rest later
    by false later rest = later

none_later : (cs ds : List Call) → first_lost (cs ++ ds) ≡ None → first_lost ds ≡ None
none_later cs ds none = sym (first_later cs ds (none_first cs ds none)) ∙ none

abbrev Unwritten : (Disks → Type 0) → Disks → List Call → Type 0
Unwritten C s cs = C s → first_lost cs ≡ None → EachCall WritesNothing s cs

-- no call
pub unwritten_none : (m : Meta) (told : Option Trail) → StaysUnwritten (IsUpToDate m) told told
unwritten_none m told = Ran-none (Unwritten (IsUpToDate m)) (λ s is none. tt) told

-- there is something to be brought up to date
pub unwritten_never : (m : Meta) (old new : Option Trail) (Q : Disks → List Call → Type 0) → Ran old new Q → ((s : Trail) → old ≡ Some s → IsUpToDate m (now s) → ⊥)
    → StaysUnwritten (IsUpToDate m) old new
unwritten_never m old new Q ran never t tells =
    let r = ran t tells in
    record { from = r.from; was = r.was; calls = r.calls; is = r.is; holds = λ is none. absurd (never r.from r.was is) }

-- a disk is to be marked
pub marked_never : (m : Meta) (s : Disks) (slot : ℕ → Slot) (d : ℕ) → Agrees s slot → to_mark (λ e. (slot e).power) m ≡ Some d → IsUpToDate m s → ⊥
marked_never m s slot d agrees marks is =
    let z : None ≡ Some d = sym is.unmarked ∙ sym (mark_by_slots s slot m agrees) ∙ marks in
    cc

quiet_writes : (n : ℕ) (c : Call) → IsReadOrSync n c → WritesNothing c
quiet_writes n (Read d p done) is = tt
quiet_writes n (Write d p b done) is = is
quiet_writes n (Sync d done) is = tt
quiet_writes n (Park d done) is = absurd is
quiet_writes n (SpinUp d done) is = absurd is
quiet_writes n (Attach d size done) is = is

-- reads and syncs alone
pub unwritten_quiet : (n : ℕ) (m : Meta) (old new : Option Trail) → Ran old new (EachCall (IsReadOrSync n)) → StaysUnwritten (IsUpToDate m) old new
unwritten_quiet n m old new ran =
    ran_milder (EachCall (IsReadOrSync n)) (Unwritten (IsUpToDate m)) (λ s cs each is none. EachCall-milder (IsReadOrSync n) WritesNothing (quiet_writes n) s cs each) ran

-- reads and syncs first
pub unwritten_after : (n : ℕ) (m : Meta) (old mid new : Option Trail) → Ran old mid (EachCall (IsReadOrSync n)) → StaysUnwritten (IsUpToDate m) mid new → StaysUnwritten (IsUpToDate m) old new
unwritten_after n m old mid new first second =
    ran_then (EachCall (IsReadOrSync n)) (Unwritten (IsUpToDate m)) (Unwritten (IsUpToDate m))
    (λ s cs ds each after is none.
    calls_append WritesNothing s cs ds (EachCall-milder (IsReadOrSync n) WritesNothing (quiet_writes n) s cs each)
    (after (still_up_to_date (IsReadOrSync n) (quiet_leaves n) m s cs each (none_first cs ds none) is) (none_later cs ds none))) old mid new first second

-- spin-ups and parks last
turn_writes : (m : Meta) (c : Call) → IsPowerCall m c → WritesNothing c
turn_writes m (Read d p done) is = absurd is
turn_writes m (Write d p b done) is = is
turn_writes m (Sync d done) is = absurd is
turn_writes m (Park d done) is = tt
turn_writes m (SpinUp d done) is = tt
turn_writes m (Attach d size done) is = is

pub unwritten_turns : (m standing : Meta) (old mid new : Option Trail) → StaysUnwritten (IsUpToDate m) old mid → Ran mid new (EachCall (IsPowerCall standing)) → StaysUnwritten (IsUpToDate m) old new
unwritten_turns m standing old mid new first second =
    ran_then (Unwritten (IsUpToDate m)) (EachCall (IsPowerCall standing)) (Unwritten (IsUpToDate m))
    (λ s cs ds before each is none.
    calls_append WritesNothing s cs ds (before is (none_first cs ds none)) (EachCall-milder (IsPowerCall standing) WritesNothing (turn_writes standing) (run s cs) ds each)) old mid new first second

-- A witness that is open is not borne again

-- a block that is open is one that is there
open_there : (s : Disks) (d p : ℕ) → is_open (stored_block s d p) ≡ true → is_open (s.block d p) ≡ true
unfolding stored_block
open_there s d p opened = by (has_place s d p) opened
  where
    by : (there : Bool) → is_open (if there then s.block d p else zero_block) ≡ true → is_open (s.block d p) ≡ true
    by true is = is
    by false is = absurd (false≢true (sym zeroed_closed ∙ is))

-- what is asked on disk 2 is lawful only where it spins
bearer_there : (named : Option ℕ) (s : Disks) (c : Call) → BearsAgainst named c → IsLawful s c → IsPresent s 2
bearer_there named s (Read d p done) is lawful = ap (λ (k : ℕ). is_present (s.power k)) (sym is.0) ∙ ap is_present lawful
bearer_there named s (Write d p b done) is lawful = ap (λ (k : ℕ). is_present (s.power k)) (sym is.0) ∙ ap is_present lawful
bearer_there named s (Sync d done) is lawful = ap (λ (k : ℕ). is_present (s.power k)) (sym is.0) ∙ ap is_present lawful
bearer_there named s (Park d done) is lawful = absurd is
bearer_there named s (SpinUp d done) is lawful = absurd is
bearer_there named s (Attach d size done) is lawful = absurd is

bearer_writes : (named : Option ℕ) (c : Call) → BearsAgainst named c → ((x : ℕ) → IsNamedLog named x → LeavesPlace 2 x c) → WritesNothing c
bearer_writes named (Read d p done) is leaves = tt
bearer_writes named (Write d p b done) is leaves = leaves p is.1 (sym is.0) refl
bearer_writes named (Sync d done) is leaves = tt
bearer_writes named (Park d done) is leaves = tt
bearer_writes named (SpinUp d done) is leaves = tt
bearer_writes named (Attach d size done) is leaves = is

bearer_each : (named : Option ℕ) (s : Disks) (cs : List Call) → EachCall (BearsAgainst named) s cs → ((x : ℕ) → IsNamedLog named x → EachLeavesPlace 2 x cs) → EachCall WritesNothing s cs
bearer_each named s [] each leaves = tt
bearer_each named s (c ∷ cs) each leaves = (each.0, bearer_writes named c each.1 (λ x is. (leaves x is).0), bearer_each named (step c s) cs each.2 (λ x is. (leaves x is).1))

bearer_all : (named : Option ℕ) (s : Disks) (cs : List Call) → EachCall (BearsAgainst named) s cs → LeavesOpen named s cs
    → ((x : ℕ) → x < 2 → named ≡ Some x → IsPresent s 2 → is_open (stored_block s 2 x) ≡ true) → EachCall WritesNothing s cs
bearer_all named s [] each leaves opened = tt
bearer_all named s (c ∷ cs) each leaves opened =
    let here = bearer_there named s c each.1 each.0 in
    bearer_each named s (c ∷ cs) each (λ x is. leaves x is (open_there s 2 x (opened x is.1 is.0 here)))

-- what is in a log and writes nothing reads or syncs
of_both : (n : ℕ) (c : Call) → WritesNothing c → IsInLog n c → IsReadOrSync n c
of_both n (Read d p done) writes log = log
of_both n (Write d p b done) writes log = writes
of_both n (Sync d done) writes log = log
of_both n (Park d done) writes log = log
of_both n (SpinUp d done) writes log = log
of_both n (Attach d size done) writes log = log

each_both : (n : ℕ) (s : Disks) (cs : List Call) → EachCall WritesNothing s cs → EachCall (IsInLog n) s cs → EachCall (IsReadOrSync n) s cs
each_both n s [] writes log = tt
each_both n s (c ∷ cs) writes log = (writes.0, of_both n c writes.1 log.1, each_both n (step c s) cs writes.2 log.2)

-- after a mark, or none, witness is borne
pub unwritten_borne : (n : ℕ) (m : Meta) (old mid new : Option Trail) → StaysUnwritten (IsUpToDate m) old mid → Ran old mid (EachCall (IsInLog n))
    → Ran mid new (EachCall (BearsAgainst (named_out m.out))) → Ran mid new (LeavesOpen (named_out m.out)) → StaysUnwritten (IsUpToDate m) old new
unwritten_borne n m old mid new first log calls leaves =
    ran_then Marks Bears (Unwritten (IsUpToDate m))
    (λ s cs ds marks bears is none.
    let before = marks.0 is (none_first cs ds none) in
    calls_append WritesNothing s cs ds before
    (bears (still_up_to_date (IsReadOrSync n) (quiet_leaves n) m s cs (each_both n s cs before marks.1) (none_first cs ds none) is).borne)) old mid new marked borne
  where
    Marks : Disks → List Call → Type 0
    Marks s cs = Unwritten (IsUpToDate m) s cs × EachCall (IsInLog n) s cs

    Bears : Disks → List Call → Type 0
    Bears s cs = ((x : ℕ) → x < 2 → named_out m.out ≡ Some x → IsPresent s 2 → is_open (stored_block s 2 x) ≡ true) → EachCall WritesNothing s cs

    marked : Ran old mid Marks
    marked t tells =
        let r = first t tells in
        record { from = r.from; was = r.was; calls = r.calls; is = r.is; holds = (r.holds, same_calls (IsInLog n) old mid log t tells r.from r.calls r.was r.is) }

    borne : Ran mid new Bears
    borne t tells =
        let r = leaves t tells in
        let each = same_calls (BearsAgainst (named_out m.out)) mid new calls t tells r.from r.calls r.was r.is in
        record { from = r.from; was = r.was; calls = r.calls; is = r.is; holds = bearer_all (named_out m.out) (now r.from) r.calls each r.holds }

-- The whole

abbrev Reads : LogState → Disks → List Call → Type 0
Reads said s cs = said.opened ≡ false → AreLogGatesClosed s said.meta → EachCall IsRead s cs

read_writes : (c : Call) → IsRead c → WritesNothing c
read_writes (Read d p done) is = tt
read_writes (Write d p b done) is = is
read_writes (Sync d done) is = absurd is
read_writes (Park d done) is = absurd is
read_writes (SpinUp d done) is = absurd is
read_writes (Attach d size done) is = is

-- a resumption alone
pub unwritten_resumed : (said : LogState) (old new : Option Trail) → OnlyReadsIfClosed old new said → StaysUnwritten (IsLeftWhole said) old new
unwritten_resumed said old new reads =
    ran_milder (Reads said) (Unwritten (IsLeftWhole said)) (λ s cs each is none. EachCall-milder IsRead WritesNothing read_writes s cs (each is.closed is.shut)) reads

-- and what follows it
pub unwritten_raised : (said : LogState) (old mid new : Option Trail) → OnlyReadsIfClosed old mid said → StaysUnwritten (IsUpToDate said.meta) mid new → StaysUnwritten (IsLeftWhole said) old new
unwritten_raised said old mid new reads raised =
    ran_then (Reads said) (Unwritten (IsUpToDate said.meta)) (Unwritten (IsLeftWhole said))
    (λ s cs ds first after is none.
    let each = first is.closed is.shut in
    calls_append WritesNothing s cs ds (EachCall-milder IsRead WritesNothing read_writes s cs each)
    (after (still_up_to_date IsRead read_leaves said.meta s cs each (none_first cs ds none) is.up_to_date) (none_later cs ds none))) old mid new reads raised

-- what stands at rest is a closed gate
pub rest_whole : (s : Disks) (m : Meta) (x : ℕ) (said : LogState) → IsAtRest s m → IsUpToDate m s → Stands s x said → IsLeftWhole said s
rest_whole s m x said rest is stands =
    let same = (Stands-same s x rest.disk said (closed_over m) stands rest.log.stands).1 in
    subst (λ (o : LogState). IsLeftWhole o s) (sym same) (record { closed = refl; shut = rest.shut; up_to_date = is })
