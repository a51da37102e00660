-- What a turn of a session says of a device's blocks.
use Rattle.std.proofs.Common.{◌≡◌, ◌≢◌, ℕ, zero, suc, ◌+◌, ◌<◌, ◌≤◌, Bool, true, false, List, [], ◌∷◌, ◌++◌, length, Option, Some, None, IsSome, Result, Ok, Err, refl, sym, ap, ◌∙◌, subst, arith, if◌then◌else◌}
use Rattle.std.specs.Prelude.{◌==◌, nat_lt, slice_index_or, All, OnOk}
use Rattle.std.proofs.lemmas.Bool.Decides.{nat_tests}
use Rattle.std.proofs.lemmas.List.{append-nil}
use Rattle.std.proofs.lemmas.List.Elements.{All-head, All-tail}
use Rattle.paraid_base.specs.declared.block.Block.{Block}
use Rattle.paraid_base.specs.declared.event.Answer.{Answer}
use Rattle.paraid_base.specs.declared.event.Answer.TheVariants.{Value, NoBlock, Wrote, Flushed, Halted}
use Rattle.paraid_base.specs.declared.event.Event.{Event}
use Rattle.paraid_base.specs.declared.event.Event.TheVariants.{Read, Write, Flush, Bad}
use Rattle.paraid_base.specs.declared.fault.Halt.{Halt}
use Rattle.paraid_base.specs.declared.pairs.Pairs.{Pairs}
use Rattle.paraid_base.specs.declared.state.Out.{Out}
use Rattle.paraid_base.specs.declared.state.Out.TheVariants.{No, Gone, Fresh}
use Rattle.paraid_base.specs.BlockAnswers.{AfterFlush, AfterWrite, IsFirstMissing, accepted_write, answer_to_flush}
use Rattle.paraid_base.specs.History.{Entry, History, after_all}
use Rattle.paraid_base.specs.Pairs.{pairs_of}
use Rattle.paraid_record.specs.declared.meta.Setup.{Setup}
use Rattle.paraid_rack.specs.declared.call.Call.{Call}
use Rattle.paraid_image.specs.Power.{PowerState}
use Rattle.paraid_machine.specs.Machine.{Outcomes, around, around_loss, block_count, blocks_named, first_missing, if_alone, outcomes, serve}
use Rattle.paraid_machine.specs.Moves.{all_written, block_read, with_one_served, after_loss}
use Rattle.paraid_trace.specs.Answered.{answer_of, answer_with}
use Rattle.paraid_trace.specs.declared.answered.Answered.{Answered}
use Rattle.paraid_trace.specs.declared.answered.Answered.TheVariants.{Value as ToldValue, State as ToldState, Brief as ToldBrief}
use Rattle.paraid_trace.specs.declared.answered.Beside.{Beside}
use Rattle.paraid_trace.specs.declared.answered.Brief.{Brief}
use Rattle.paraid_trace.specs.declared.answered.Brief.TheVariants.{NoBlock as ToldNoBlock, Wrote as ToldWrote, Flushed as ToldFlushed, Ticked as ToldTicked, Shift as ToldShift, Top as ToldTop, Lowest as ToldLowest, Shifting as ToldShifting, Failed as ToldFailed, Replaced as ToldReplaced, NoDisk as ToldNoDisk, Out as ToldOut, NotOut as ToldNotOut, NoFresh as ToldNoFresh, Ration as ToldRation, Energy as ToldEnergy, Bad as ToldBad, Halted as ToldHalted}
use Rattle.paraid_session.specs.Turn.{IsAnswered, IsTurn, Point, halt_told}
use Rattle.paraid_session.specs.Turn.IsTurn.{answered, two, worn, again, bad}
use Rattle.paraid_serve.specs.declared.serves.Serves.{Ghosts}
use Rattle.paraid_serve.proofs.StretchLemmas.{some_told}
use Rattle.paraid_device.specs.Asking.{AsksArray}
use Rattle.paraid_device.specs.Devices.{StandsFor}

-- each outcome is answered so
abbrev AllAre : Answer → Outcomes → Type 0
AllAre a [] = Unit {0}
AllAre a (it ∷ others) = (it.0 ≡ a) × AllAre a others

at_outcome : (a : Answer) (os : Outcomes) (it other : Answer × PowerState) (k : ℕ) → AllAre a os → k < length os → slice_index_or os k other ≡ it → it.0 ≡ a
at_outcome a [] it other k all below is = absurd (omega (arith, below))
at_outcome a (o ∷ os) it other zero all below is = subst (λ (x : Answer × PowerState). x.0 ≡ a) is all.0
at_outcome a (o ∷ os) it other (suc k) all below is = at_outcome a os it other k all.1 (omega (arith, below)) is

if_are : (a : Answer) (b : Bool) (os : Outcomes) → AllAre a os → AllAre a (if b then os else [])
if_are a true os all = all
if_are a false os all = tt

alone_are : (a : Answer) (o : Out) (d : ℕ) (os : Outcomes) → AllAre a os → AllAre a (if_alone o d os)
alone_are a No d os all = all
alone_are a (Gone e) d os all = if_are a (d == e) os all
alone_are a (Fresh e rebuilt) d os all = if_are a (d == e) os all

around_are : (a : Answer) (loss : Option ℕ) (s : PowerState) (f : PowerState → Answer × PowerState) → ((t : PowerState) → (f t).0 ≡ a) → AllAre a (around loss s f)
around_are a None s f is = (is s, tt)
around_are a (Some d) s f is = alone_are a s.out d (around_loss d s f) (is (after_loss s d), (is s, tt))

missing_are : (b : ℕ) (loss : Option ℕ) (s : PowerState) (f : PowerState → Answer × PowerState) → AllAre (NoBlock b) (serve (Some b) loss s f)
missing_are b None s f = (refl, tt)
missing_are b (Some d) s f = tt

below_test : (a b : ℕ) → a < b → nat_lt a b ≡ true
below_test a b l = grind (arith, nat_tests)

past_test : (a b : ℕ) → b ≤ a → nat_lt a b ≡ false
past_test a b l = grind (arith, nat_tests)

pub one_there : (count b : ℕ) → b < count → first_missing count (b ∷ []) ≡ None
one_there count b l = rw (below_test b count l) refl

pub one_past : (count b : ℕ) → count ≤ b → first_missing count (b ∷ []) ≡ Some b
one_past count b l = rw (past_test b count l) refl

pub all_there : (count : ℕ) (entry : Entry) → All (λ (pair : ℕ × Block). pair.0 < count) entry → first_missing count (blocks_named entry) ≡ None
all_there count [] is = refl
all_there count (pair ∷ entry) is =
    rw (below_test pair.0 count (All-head (λ (x : ℕ × Block). x.0 < count) pair entry is)) (all_there count entry (All-tail (λ (x : ℕ × Block). x.0 < count) pair entry is))

past_in : (count block : ℕ) (bytes : Block) (rest before : Entry) → All (λ (pair : ℕ × Block). pair.0 < count) before → count ≤ block → first_missing count (blocks_named (before ++ (block, bytes) ∷ rest)) ≡ Some block
past_in count block bytes rest [] below past = rw (past_test block count past) refl
past_in count block bytes rest (pair ∷ before) below past =
    rw (below_test pair.0 count (All-head (λ (x : ℕ × Block). x.0 < count) pair before below)) (past_in count block bytes rest before (All-tail (λ (x : ℕ × Block). x.0 < count) pair before below) past)

pub some_past : (count : ℕ) (entry : Entry) (block : ℕ) → IsFirstMissing count entry block → first_missing count (blocks_named entry) ≡ Some block
some_past count entry block is = subst (λ (e : Entry). first_missing count (blocks_named e) ≡ Some block) (sym is.is) (past_in count block is.bytes is.rest is.before is.below is.missing)

module _ (setup : Setup) (h : History) (used : ℕ) (s : PowerState) (loss : Option ℕ) where
  reads_there : (b : ℕ) → b < block_count setup → AllAre (Value b (after_all h b)) (outcomes setup h used s (Read b) loss)
  unfolding outcomes
  reads_there b l =
      let f : PowerState → Answer × PowerState = λ s. (Value b (after_all h b), with_one_served (block_read setup b s)) in
      subst (λ (m : Option ℕ). AllAre (Value b (after_all h b)) (serve m loss s f)) (sym (one_there (block_count setup) b l)) (around_are (Value b (after_all h b)) loss s f (λ t. refl))

  reads_past : (b : ℕ) → block_count setup ≤ b → AllAre (NoBlock b) (outcomes setup h used s (Read b) loss)
  unfolding outcomes
  reads_past b l =
      let f : PowerState → Answer × PowerState = λ s. (Value b (after_all h b), with_one_served (block_read setup b s)) in
      subst (λ (m : Option ℕ). AllAre (NoBlock b) (serve m loss s f)) (sym (one_past (block_count setup) b l)) (missing_are b loss s f)

  writes_there : (pairs : Pairs) → All (λ (pair : ℕ × Block). pair.0 < block_count setup) (pairs_of pairs) → AllAre (Wrote (length h + 1)) (outcomes setup h used s (Write pairs) loss)
  unfolding outcomes
  writes_there pairs l =
      let f : PowerState → Answer × PowerState = λ s. (Wrote (length h + 1), with_one_served (all_written setup.geometry.disks (blocks_named (pairs_of pairs)) s)) in
      subst (λ (m : Option ℕ). AllAre (Wrote (length h + 1)) (serve m loss s f)) (sym (all_there (block_count setup) (pairs_of pairs) l)) (around_are (Wrote (length h + 1)) loss s f (λ t. refl))

  writes_past : (pairs : Pairs) (b : ℕ) → IsFirstMissing (block_count setup) (pairs_of pairs) b → AllAre (NoBlock b) (outcomes setup h used s (Write pairs) loss)
  unfolding outcomes
  writes_past pairs b l =
      let f : PowerState → Answer × PowerState = λ s. (Wrote (length h + 1), with_one_served (all_written setup.geometry.disks (blocks_named (pairs_of pairs)) s)) in
      subst (λ (m : Option ℕ). AllAre (NoBlock b) (serve m loss s f)) (sym (some_past (block_count setup) (pairs_of pairs) b l)) (missing_are b loss s f)

  flushes : AllAre (Flushed (length h)) (outcomes setup h used s Flush loss)
  unfolding outcomes
  flushes = around_are (Flushed (length h)) loss s (λ s. (Flushed (length h), s)) (λ t. refl)

no_halt : (a : Answer) (halt : Halt) → a ≡ Halted halt → halt_told a ≡ None → ⊥
no_halt a halt is none = let z : Some halt ≡ None = sym (ap halt_told is) ∙ none in cc

-- a turn that is answered with no halt
serving_turn : (slots : ℕ) (setup : Setup) (p q : Point) (event : Event) (answer : Answer) (calls : List Call) → IsTurn slots setup p event answer calls q → event ≢ Bad → halt_told answer ≡ None → IsAnswered slots setup p event answer calls q
serving_turn slots setup p q event answer calls (answered going apart it) good none = it
serving_turn slots setup p q event answer calls (two pair going apart is l) good none = absurd (no_halt answer _ is none)
serving_turn slots setup p q event answer calls (worn count going apart is w empty same) good none = absurd (no_halt answer _ is none)
serving_turn slots setup p q event answer calls (again halt was apart is empty same) good none = absurd (no_halt answer halt is none)
serving_turn slots setup p q event answer calls (bad b is empty same) good none = absurd (good b)

flushed_number : (n m : ℕ) → Flushed n ≡ Flushed m → n ≡ m
flushed_number n m e = cc

same_bytes : (b c : ℕ) (x y : Block) → Value b x ≡ Value c y → x ≡ y
same_bytes b c x y e = cc

brief_value : (brief : Brief) (b : ℕ) (x : Block) → answer_of brief ≡ Value b x → ⊥
brief_value (ToldNoBlock block) b x e = cc
brief_value (ToldWrote number) b x e = cc
brief_value (ToldFlushed writes) b x e = cc
brief_value (ToldTicked report) b x e = cc
brief_value (ToldShift gear to) b x e = cc
brief_value ToldTop b x e = cc
brief_value ToldLowest b x e = cc
brief_value (ToldShifting to) b x e = cc
brief_value (ToldFailed disk) b x e = cc
brief_value (ToldReplaced disk) b x e = cc
brief_value (ToldNoDisk disk) b x e = cc
brief_value (ToldOut disk) b x e = cc
brief_value (ToldNotOut disk) b x e = cc
brief_value (ToldNoFresh disk) b x e = cc
brief_value (ToldRation disk) b x e = cc
brief_value (ToldEnergy total) b x e = cc
brief_value ToldBad b x e = cc
brief_value (ToldHalted halt) b x e = cc

-- a value that is told stands beside the answer
pub told_value : (answered : Answered) (beside : Beside) (b : ℕ) (x : Block) → answer_with answered beside ≡ Value b x → beside.bytes ≡ x
told_value (ToldValue block) beside b x e = same_bytes block b beside.bytes x e
told_value (ToldState disks) beside b x e = absurd (cc)
told_value (ToldBrief brief) beside b x e = absurd (brief_value brief b x e)

-- From one point to the next an event was answered with no halt.
pub record Moves {A : Type 0} (g : Ghosts A) (a b : A) (event : Event) (answer : Answer) (p : Point) : Type 0 where
  pub next : Point
  pub calls : List Call
  pub turn : IsAnswered (g.slots a) (g.setup a) p event answer calls next
  pub stands : g.stands b next

module _ {A : Type 0} (g : Ghosts A) (a b : A) where
  pub moves : (event : Event) (answer : Answer) (p : Point) → AsksArray g a b event answer → event ≢ Bad → g.halted b ≡ None → g.stands a p → IsSome (g.told b) → Moves g a b event answer p
  moves event answer p asks good none at is =
      let t = some_told (g.told b) is in
      let came = asks.turn p at t.0 t.1 in
      record {
        next = came.holds.0;
        calls = came.calls;
        turn = serving_turn (g.slots a) (g.setup a) p came.holds.0 event answer came.calls came.holds.1 good (sym asks.halt ∙ none);
        stands = came.holds.2;
      }

  -- the one answer that the event may have
  only : (event : Event) (answer one : Answer) (p : Point) → ((loss : Option ℕ) → AllAre one (outcomes (g.setup a) p.history p.energy p.state event loss)) → Moves g a b event answer p → answer ≡ one
  only event answer one p all m = at_outcome one _ (answer, m.next.state) (answer, m.next.state) m.turn.machine.among.0 (all _) m.turn.machine.among.1 m.turn.machine.among.2

  apart_read : (block : ℕ) → Read block ≢ Bad
  apart_read block e = cc

  apart_write : (pairs : Pairs) → Write pairs ≢ Bad
  apart_write pairs e = cc

  apart_flush : Flush ≢ Bad
  apart_flush e = cc

  pub read_answer : (block : ℕ) (answer : Answer) (p : Point) → AsksArray g a b (Read block) answer → g.halted b ≡ None → block < block_count (g.setup a) → IsSome (g.told b) → g.stands a p → answer ≡ Value block (after_all p.history block)
  read_answer block answer p asks none there is at = only (Read block) answer _ p (λ loss. reads_there (g.setup a) p.history p.energy p.state loss block there) (moves (Read block) answer p asks (apart_read block) none at is)

  pub read_missing : (block : ℕ) (answer : Answer) (p : Point) → AsksArray g a b (Read block) answer → g.halted b ≡ None → block_count (g.setup a) ≤ block → IsSome (g.told b) → g.stands a p → answer ≡ NoBlock block
  read_missing block answer p asks none past is at = only (Read block) answer _ p (λ loss. reads_past (g.setup a) p.history p.energy p.state loss block past) (moves (Read block) answer p asks (apart_read block) none at is)

  pub write_answer : (pairs : Pairs) (answer : Answer) (p : Point) → AsksArray g a b (Write pairs) answer → g.halted b ≡ None → All (λ (pair : ℕ × Block). pair.0 < block_count (g.setup a)) (pairs_of pairs) → IsSome (g.told b) → g.stands a p
      → answer ≡ Wrote (length p.history + 1)
  write_answer pairs answer p asks none there is at = only (Write pairs) answer _ p (λ loss. writes_there (g.setup a) p.history p.energy p.state loss pairs there) (moves (Write pairs) answer p asks (apart_write pairs) none at is)

  pub write_missing : (pairs : Pairs) (block : ℕ) (answer : Answer) (p : Point) → AsksArray g a b (Write pairs) answer → g.halted b ≡ None → IsFirstMissing (block_count (g.setup a)) (pairs_of pairs) block → IsSome (g.told b) → g.stands a p
      → answer ≡ NoBlock block
  write_missing pairs block answer p asks none past is at = only (Write pairs) answer _ p (λ loss. writes_past (g.setup a) p.history p.energy p.state loss pairs block past) (moves (Write pairs) answer p asks (apart_write pairs) none at is)

  pub flush_answer : (answer : Answer) (p : Point) → AsksArray g a b Flush answer → g.halted b ≡ None → IsSome (g.told b) → g.stands a p → answer ≡ Flushed (length p.history)
  flush_answer answer p asks none is at = only Flush answer _ p (λ loss. flushes (g.setup a) p.history p.energy p.state loss) (moves Flush answer p asks apart_flush none at is)

  -- what it stands for after an event that is answered so
  pub stands_then : (event : Event) (answer : Answer) (h : History) → AsksArray g a b event answer → event ≢ Bad → g.halted b ≡ None → StandsFor (g.stands a) h → IsSome (g.told b)
      → StandsFor (g.stands b) (h ++ accepted_write event answer)
  stands_then event answer h asks good none s is =
      let m = moves event answer s.point asks good none s.at is in
      record { point = m.next; at = m.stands; is = m.turn.history ∙ ap (λ (x : History). x ++ accepted_write event answer) s.is }

  pub flushed_history : (r : Result ℕ Halt) (h : History) → AsksArray g a b Flush (answer_to_flush r) → OnOk r (g.halted b ≡ None) → StandsFor (g.stands a) h → IsSome (g.told b) → AfterFlush (StandsFor (g.stands b)) h r
  flushed_history (Ok writes) h asks none s is =
      let e = flush_answer (Flushed writes) s.point asks none is s.at in
      (flushed_number writes (length s.point.history) e ∙ ap (λ (x : History). length x) s.is, subst (λ (x : History). StandsFor (g.stands b) x) (append-nil h) (stands_then Flush (Flushed writes) h asks apart_flush none s is))
  flushed_history (Err halt) h asks none s is = tt

  -- a read that is answered with no halt changes no history
  pub read_stands : (block : ℕ) (answer : Answer) (h : History) → AsksArray g a b (Read block) answer → g.halted b ≡ None → StandsFor (g.stands a) h → IsSome (g.told b) → StandsFor (g.stands b) h
  read_stands block answer h asks none s is = subst (λ (x : History). StandsFor (g.stands b) x) (append-nil h) (stands_then (Read block) answer h asks (apart_read block) none s is)

  -- and the bytes beside its answer are those of the block
  pub read_value : (block : ℕ) (told : Answered) (beside : Beside) (h : History) → AsksArray g a b (Read block) (answer_with told beside) → g.halted b ≡ None → block < block_count (g.setup a) → StandsFor (g.stands a) h → IsSome (g.told b)
      → beside.bytes ≡ after_all h block
  read_value block told beside h asks none there s is =
      told_value told beside block (after_all s.point.history block) (read_answer block (answer_with told beside) s.point asks none there is s.at) ∙ ap (λ (x : History). after_all x block) s.is

  -- so that is the answer which tells these bytes
  pub read_said : (block : ℕ) (told : Answered) (beside : Beside) (bytes : Block) (p : Point) → AsksArray g a b (Read block) (answer_with told beside) → g.halted b ≡ None → block < block_count (g.setup a) → bytes ≡ beside.bytes
      → g.stands a p → IsSome (g.told b) → answer_with told beside ≡ Value block bytes
  read_said block told beside bytes p asks none there same at is =
      let e = read_answer block (answer_with told beside) p asks none there is at in
      e ∙ ap (λ (x : Block). Value block x) (sym (same ∙ told_value told beside block (after_all p.history block) e))

  -- what a write that is answered with no halt leaves
  pub written_history : (pairs : Pairs) (answer : Answer) (number : ℕ) (h : History) → AsksArray g a b (Write pairs) answer → g.halted b ≡ None → All (λ (pair : ℕ × Block). pair.0 < block_count (g.setup a)) (pairs_of pairs)
      → ((n : ℕ) → answer ≡ Wrote n → number ≡ n) → StandsFor (g.stands a) h → IsSome (g.told b) → AfterWrite (StandsFor (g.stands b)) h (pairs_of pairs) (Ok number)
  written_history pairs answer number h asks none there said s is =
      let e = write_answer pairs answer s.point asks none there is s.at in (
        said (length s.point.history + 1) e ∙ ap (λ (x : History). length x + 1) s.is,
        subst (λ (x : Answer). StandsFor (g.stands b) (h ++ accepted_write (Write pairs) x)) e (stands_then (Write pairs) answer h asks (apart_write pairs) none s is),
      )

  pub missing_history : (pairs : Pairs) (block : ℕ) (answer : Answer) (h : History) → AsksArray g a b (Write pairs) answer → g.halted b ≡ None → IsFirstMissing (block_count (g.setup a)) (pairs_of pairs) block
      → StandsFor (g.stands a) h → IsSome (g.told b) → StandsFor (g.stands b) h
  missing_history pairs block answer h asks none past s is =
      let e = write_missing pairs block answer s.point asks none past is s.at in
      subst (λ (x : History). StandsFor (g.stands b) x) (append-nil h)
      (subst (λ (x : Answer). StandsFor (g.stands b) (h ++ accepted_write (Write pairs) x)) e (stands_then (Write pairs) answer h asks (apart_write pairs) none s is))
