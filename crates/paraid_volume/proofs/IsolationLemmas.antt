-- What calls on other volumes leave, and two runs that a volume cannot tell apart.
use Rattle.std.proofs.Common.{◌≡◌, ℕ, ◌<◌, ◌≤◌, ◌∙◌, ◌∷◌, [], refl, sym, ap, arith, subst, inl, inr}
use Rattle.std.specs.Prelude.{◌⊎◌}
use Rattle.std.proofs.lemmas.Bool.{cases_eq}
use Rattle.std.proofs.lemmas.Bool.Decides.{nat_tests}
use Rattle.paraid_base.specs.declared.block.Block.{Block}
use Rattle.paraid_base.specs.Xor.{zero_block}
use Rattle.paraid_volume.specs.declared.fault.VolFault.{VolFault}
use Rattle.paraid_volume.specs.Isolation.{AllLeave, IsElsewhere, IsSameVolume, LeavesVolume, VolumeRun, calls_in_log, ends, own_calls, steps, with_own}
use Rattle.paraid_volume.specs.Lives.{IsBlockOf, IsNamedId, IsCallRefused, VolumeStep, VolAnswer, VolCall, VolLog, create, delete, read, write, flush, made, removed, value, wrote, flushed, refused, creates, deletes, reads, writes, flushes, refuses, past_read, past_write, unnamed_read, unnamed_write}
use Rattle.paraid_volume.specs.States.{VolumeState, with_volume, with_block}
use Rattle.paraid_volume.specs.Tables.{extent_size}

pub elsewhere : (count id : ℕ) (s t : VolumeState) (call : VolCall) (answer : VolAnswer) → VolumeStep count s call answer t → IsElsewhere id call answer → IsSameVolume id s t
elsewhere count id s _ _ _ (creates text extents i spells unused some least room) not = record { name = λ k. grind (arith, nat_tests); size = grind (arith, nat_tests); block = λ v. grind (arith, nat_tests) }
elsewhere count id s _ _ _ (deletes i named) not = record { name = λ k. grind (arith, nat_tests); size = grind (arith, nat_tests); block = λ v. refl }
elsewhere count id s _ _ _ (reads i v there) not = record { name = λ k. refl; size = refl; block = λ v. refl }
elsewhere count id s _ _ _ (writes i v bytes there) not = record { name = λ k. refl; size = refl; block = λ v. grind (arith, nat_tests) }
elsewhere count id s _ _ _ (flushes number) not = record { name = λ k. refl; size = refl; block = λ v. refl }
elsewhere count id s _ _ _ (refuses call fault is) not = record { name = λ k. refl; size = refl; block = λ v. refl }

same_sym : (id : ℕ) (s t : VolumeState) → IsSameVolume id s t → IsSameVolume id t s
same_sym id s t same = record { name = λ k. sym (same.name k); size = sym same.size; block = λ v. sym (same.block v) }

same_then : (id : ℕ) (s t u : VolumeState) → IsSameVolume id s t → IsSameVolume id t u → IsSameVolume id s u
same_then id s t u a b = record { name = λ k. a.name k ∙ b.name k; size = a.size ∙ b.size; block = λ v. a.block v ∙ b.block v }

-- a read or a write of volume `id`
abbrev pub IsOwn : ℕ → VolCall → Type 0
IsOwn id (create text extents) = ⊥
IsOwn id (delete i) = ⊥
IsOwn id (read i v) = i ≡ id
IsOwn id (write i v bytes) = i ≡ id
IsOwn id flush = ⊥

abbrev pub AllOwn : ℕ → VolLog → Type 0
AllOwn id [] = Unit {0}
AllOwn id (pair ∷ log) = IsOwn id pair.0 × AllOwn id log

named_same : (id : ℕ) (s u : VolumeState) → IsSameVolume id s u → IsNamedId s id → IsNamedId u id
named_same id s u same n = record { low = n.low; high = n.high; named = subst (λ (x : ℕ). 0 < x) (same.name 0) n.named }

there_same : (id v : ℕ) (s u : VolumeState) → IsSameVolume id s u → IsBlockOf s id v → IsBlockOf u id v
there_same id v s u same there = (named_same id s u same there.0, subst (λ (n : ℕ). v < n) same.size there.1)

read_refused_same : (id v : ℕ) (s u : VolumeState) (fault : VolFault) → IsSameVolume id s u → IsCallRefused s (read id v) fault → IsCallRefused u (read id v) fault
read_refused_same _ _ s u _ same (unnamed_read id v not) = unnamed_read id v (λ n. not (named_same id u s (same_sym id s u same) n))
read_refused_same _ _ s u _ same (past_read id v named l) = past_read id v (named_same id s u same named) (subst (λ (n : ℕ). n ≤ v) same.size l)

write_refused_same : (id v : ℕ) (bytes : Block) (s u : VolumeState) (fault : VolFault) → IsSameVolume id s u → IsCallRefused s (write id v bytes) fault → IsCallRefused u (write id v bytes) fault
write_refused_same _ _ _ s u _ same (unnamed_write id v bytes not) = unnamed_write id v bytes (λ n. not (named_same id u s (same_sym id s u same) n))
write_refused_same _ _ _ s u _ same (past_write id v bytes named l) = past_write id v bytes (named_same id s u same named) (subst (λ (n : ℕ). n ≤ v) same.size l)

read_served : (id v : ℕ) (s : VolumeState) (fault : VolFault) → IsBlockOf s id v → IsCallRefused s (read id v) fault → ⊥
read_served _ _ s _ there (unnamed_read id v not) = not there.0
read_served _ _ s _ there (past_read id v named l) = let below = there.1 in omega (arith, below, l)

write_served : (id v : ℕ) (bytes : Block) (s : VolumeState) (fault : VolFault) → IsBlockOf s id v → IsCallRefused s (write id v bytes) fault → ⊥
write_served _ _ _ s _ there (unnamed_write id v bytes not) = not there.0
write_served _ _ _ s _ there (past_write id v bytes named l) = let below = there.1 in omega (arith, below, l)

read_fault : (id v : ℕ) (s : VolumeState) (f g : VolFault) → IsCallRefused s (read id v) f → IsCallRefused s (read id v) g → f ≡ g
read_fault _ _ s _ _ (unnamed_read id v not) (unnamed_read _ _ other) = refl
read_fault _ _ s _ _ (unnamed_read id v not) (past_read _ _ named l) = absurd (not named)
read_fault _ _ s _ _ (past_read id v named l) (unnamed_read _ _ not) = absurd (not named)
read_fault _ _ s _ _ (past_read id v named l) (past_read _ _ other m) = refl

write_fault : (id v : ℕ) (bytes : Block) (s : VolumeState) (f g : VolFault) → IsCallRefused s (write id v bytes) f → IsCallRefused s (write id v bytes) g → f ≡ g
write_fault _ _ _ s _ _ (unnamed_write id v bytes not) (unnamed_write _ _ _ other) = refl
write_fault _ _ _ s _ _ (unnamed_write id v bytes not) (past_write _ _ _ named l) = absurd (not named)
write_fault _ _ _ s _ _ (past_write id v bytes named l) (unnamed_write _ _ _ not) = absurd (not named)
write_fault _ _ _ s _ _ (past_write id v bytes named l) (past_write _ _ _ other m) = refl

-- a read or a write has one answer, and leaves one state
read_once : (count id v : ℕ) (s m n : VolumeState) (a b : VolAnswer) → VolumeStep count s (read id v) a m → VolumeStep count s (read id v) b n → (a ≡ b) × (m ≡ n)
read_once count _ _ s _ _ _ _ (reads id v there) (reads _ _ other) = (refl, refl)
read_once count _ _ s _ _ _ _ (reads id v there) (refuses _ fault is) = absurd (read_served id v s fault there is)
read_once count id v s _ _ _ _ (refuses _ fault is) (reads _ _ there) = absurd (read_served id v s fault there is)
read_once count id v s _ _ _ _ (refuses _ fault is) (refuses _ other are) = (ap refused (read_fault id v s fault other is are), refl)

write_once : (count id v : ℕ) (bytes : Block) (s m n : VolumeState) (a b : VolAnswer) → VolumeStep count s (write id v bytes) a m → VolumeStep count s (write id v bytes) b n → (a ≡ b) × (m ≡ n)
write_once count _ _ _ s _ _ _ _ (writes id v bytes there) (writes _ _ _ other) = (refl, refl)
write_once count _ _ _ s _ _ _ _ (writes id v bytes there) (refuses _ fault is) = absurd (write_served id v bytes s fault there is)
write_once count id v bytes s _ _ _ _ (refuses _ fault is) (writes _ _ _ there) = absurd (write_served id v bytes s fault there is)
write_once count id v bytes s _ _ _ _ (refuses _ fault is) (refuses _ other are) = (ap refused (write_fault id v bytes s fault other is are), refl)

once : (count id : ℕ) (s m n : VolumeState) (call : VolCall) (a b : VolAnswer) → IsOwn id call → VolumeStep count s call a m → VolumeStep count s call b n → (a ≡ b) × (m ≡ n)
once count id s m n (read i v) a b is = read_once count i v s m n a b
once count id s m n (write i v bytes) a b is = write_once count i v bytes s m n a b
once count id s m n (create text extents) a b is = absurd is
once count id s m n (delete i) a b is = absurd is
once count id s m n flush a b is = absurd is

-- a step of a read or a write is one from each state with the same volume
read_same : (count id v : ℕ) (s u m : VolumeState) (answer : VolAnswer) → IsSameVolume id s u → VolumeStep count s (read id v) answer m → VolumeStep count u (read id v) answer u × (s ≡ m)
read_same count _ _ s u _ _ same (reads id v there) =
    (subst (λ (x : Block). VolumeStep count u (read id v) (value x) u) (sym (same.block v)) (reads id v (there_same id v s u same there)), refl)
read_same count id v s u _ _ same (refuses _ fault is) = (refuses (read id v) fault (read_refused_same id v s u fault same is), refl)

write_same : (count id v : ℕ) (bytes : Block) (s u m : VolumeState) (answer : VolAnswer) → IsSameVolume id s u → VolumeStep count s (write id v bytes) answer m
    → (n : VolumeState) × VolumeStep count u (write id v bytes) answer n × IsSameVolume id m n
write_same count _ _ _ s u _ _ same (writes id v bytes there) = (
  with_block u id v bytes,
  writes id v bytes (there_same id v s u same there),
  record { name = same.name; size = same.size; block = λ w. grind (arith, nat_tests, same.block w) },
)
write_same count id v bytes s u _ _ same (refuses _ fault is) = (u, refuses (write id v bytes) fault (write_refused_same id v bytes s u fault same is), same)

own_step : (count id : ℕ) (s u m : VolumeState) (call : VolCall) (answer : VolAnswer) → IsOwn id call → IsSameVolume id s u → VolumeStep count s call answer m
    → (n : VolumeState) × VolumeStep count u call answer n × IsSameVolume id m n
own_step count id s u m (read i v) answer is same step =
    let r = read_same count i v s u m answer (subst (λ (j : ℕ). IsSameVolume j s u) (sym is) same) step in
    (u, r.0, subst (λ (x : VolumeState). IsSameVolume id x u) r.1 same)
own_step count id s u m (write i v bytes) answer is same step =
    let r = write_same count i v bytes s u m answer (subst (λ (j : ℕ). IsSameVolume j s u) (sym is) same) step in
    (r.0, r.1, subst (λ (j : ℕ). IsSameVolume j m r.0) is r.2)
own_step count id s u m (create text extents) answer is same step = absurd is
own_step count id s u m (delete i) answer is same step = absurd is
own_step count id s u m flush answer is same step = absurd is

-- a call is one of the volume's own, or it leaves the volume
which : (id : ℕ) (call : VolCall) (answer : VolAnswer) → LeavesVolume id call answer
    → (IsOwn id call × ((log : VolLog) → with_own id call answer log ≡ (call, answer) ∷ log)) ⊎ (IsElsewhere id call answer × ((log : VolLog) → with_own id call answer log ≡ log))
which id (read i v) answer leaves = elim (cases_eq i id) [
  | inl is ↦ inl (is, λ log. grind (arith, nat_tests))
  | inr not ↦ inr (tt, λ log. grind (arith, nat_tests))
]
which id (write i v bytes) answer leaves = elim (cases_eq i id) [
  | inl is ↦ inl (is, λ log. grind (arith, nat_tests))
  | inr not ↦ inr (not, λ log. grind (arith, nat_tests))
]
which id (create text extents) (made i) leaves = inr (leaves, λ log. refl)
which id (create text extents) removed leaves = inr (tt, λ log. refl)
which id (create text extents) (value bytes) leaves = inr (tt, λ log. refl)
which id (create text extents) wrote leaves = inr (tt, λ log. refl)
which id (create text extents) (flushed number) leaves = inr (tt, λ log. refl)
which id (create text extents) (refused fault) leaves = inr (tt, λ log. refl)
which id (delete i) answer leaves = inr (leaves, λ log. refl)
which id flush answer leaves = inr (tt, λ log. refl)

-- a volume's own calls are a run by themselves
project : (count id : ℕ) (s t u : VolumeState) (log : VolLog) → VolumeRun count s log t → AllLeave id log → IsSameVolume id s u
    → (n : VolumeState) × VolumeRun count u (own_calls id log) n × AllOwn id (own_calls id log)
project count id _ _ u _ (ends s) leaves same = (u, ends u, tt)
project count id _ _ u _ (steps s m t call answer log step run) leaves same = elim (which id call answer leaves.0) [
  | inl is ↦
      let next = own_step count id s u m call answer is.0 same step in
      let rest = project count id m t next.0 log run leaves.1 next.2 in
      let shape = is.1 (own_calls id log) in (
        rest.0,
        subst (λ (x : VolLog). VolumeRun count u x rest.0) (sym shape) (steps u next.0 rest.0 call answer (own_calls id log) next.1 rest.1),
        subst (λ (x : VolLog). AllOwn id x) (sym shape) (is.0, rest.2),
      )
  | inr is ↦
      let left = elsewhere count id s m call answer step is.0 in
      let rest = project count id m t u log run leaves.1 (same_then id m s u (same_sym id s m left) same) in
      let shape = is.1 (own_calls id log) in (
        rest.0,
        subst (λ (x : VolLog). VolumeRun count u x rest.0) (sym shape) rest.1,
        subst (λ (x : VolLog). AllOwn id x) (sym shape) rest.2,
      )
]

one_run : (count id : ℕ) (s t u n : VolumeState) (one other : VolLog) → VolumeRun count s one t → VolumeRun count u other n → IsSameVolume id s u → AllOwn id one → calls_in_log one ≡ calls_in_log other → one ≡ other
one_run count id _ _ _ _ _ _ (ends s) (ends u) same owned e = refl
one_run count id _ _ _ _ _ _ (ends s) (steps u n p call answer log step run) same owned e = absurd (cc (e))
one_run count id _ _ _ _ _ _ (steps s m t call answer log step run) (ends u) same owned e = absurd (cc (e))
one_run count id _ _ _ _ _ _ (steps s m t call a log step run) (steps u n p other b more next rest) same owned e =
    let head : call ≡ other = cc (e) in
    let tail : calls_in_log log ≡ calls_in_log more = cc (e) in
    let moved = own_step count id s u m call a owned.0 same step in
    let one = once count id u moved.0 n call a b owned.0 moved.1 (subst (λ (c : VolCall). VolumeStep count u c b n) (sym head) next) in
    let last : log ≡ more = one_run count id m t n p log more run rest (subst (λ (x : VolumeState). IsSameVolume id m x) one.1 moved.2) owned.1 tail in
    cc (head, one.0, last)

pub own_alike : (count id : ℕ) (s t s_end t_end : VolumeState) (one other : VolLog) → IsSameVolume id s t → VolumeRun count s one s_end → VolumeRun count t other t_end
    → AllLeave id one → AllLeave id other → calls_in_log (own_calls id one) ≡ calls_in_log (own_calls id other) → own_calls id one ≡ own_calls id other
own_alike count id s t s_end t_end one other same run next leaves too calls =
    let p = project count id s s_end s one run leaves (record { name = λ k. refl; size = refl; block = λ v. refl }) in
    let q = project count id t t_end t other next too (record { name = λ k. refl; size = refl; block = λ v. refl }) in
    one_run count id s p.0 t q.0 (own_calls id one) (own_calls id other) p.1 q.1 same p.2 calls

read_zero : (count id v : ℕ) (t m : VolumeState) (answer : VolAnswer) → IsBlockOf t id v → t.block id v ≡ zero_block → VolumeStep count t (read id v) answer m → answer ≡ value zero_block
read_zero count _ _ t _ _ there zero (reads id v is) = ap value zero
read_zero count id v t _ _ there zero (refuses _ fault is) = absurd (read_served id v t fault there is)

pub created_zero : (count id v extents : ℕ) (text : ℕ → ℕ) (s t m : VolumeState) (answer : VolAnswer) → VolumeStep count s (create text extents) (made id) t → v < t.size id
    → VolumeStep count t (read id v) answer m → answer ≡ value zero_block
created_zero count _ v _ _ s _ m answer (creates text extents id spells unused some least room) below next =
    let t = with_volume (extent_size count) s id text extents in
    let spelt = spells.some in
    let named : IsNamedId (with_volume (extent_size count) s id text extents) id = record { low = least.low; high = least.high; named = grind (arith, nat_tests, spelt) } in
    read_zero count id v t m answer (named, below) (grind (arith, nat_tests)) next
