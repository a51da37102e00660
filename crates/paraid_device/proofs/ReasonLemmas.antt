-- Which answer a read and a write have that give no halt, whatever the rack holds: by their causes.
use Rattle.std.proofs.Common.{◌≡◌, ◌≢◌, ℕ, ◌<◌, ◌≤◌, [], ◌∷◌, Option, Some, None, refl, sym, ap, ◌∙◌}
use Rattle.std.specs.Prelude.{All}
use Rattle.paraid_base.specs.declared.block.Block.{Block}
use Rattle.paraid_base.specs.declared.event.Answer.{Answer}
use Rattle.paraid_base.specs.declared.event.Answer.TheVariants.{Value, NoBlock, Wrote, Flushed, Ticked, Shift, Top, Lowest, Shifting, Failed, Replaced, NoDisk, Out as IsOut, NotOut, NoFresh, Ration as RationUsed, State as IsState, Energy as EnergyUsed, Bad as IsBad, Halted}
use Rattle.paraid_base.specs.declared.event.Event.{Event}
use Rattle.paraid_base.specs.declared.event.Event.TheVariants.{Read, Write, Bad}
use Rattle.paraid_base.specs.declared.fault.Halt.{Halt}
use Rattle.paraid_base.specs.declared.fault.Halt.TheVariants.{Two as HaltTwo, Worn}
use Rattle.paraid_base.specs.declared.pairs.Pairs.{Pairs}
use Rattle.paraid_base.specs.BlockAnswers.{IsFirstMissing}
use Rattle.paraid_base.specs.Pairs.{pairs_of}
use Rattle.paraid_machine.specs.Machine.{block_count, blocks_named, first_missing}
use Rattle.paraid_record.specs.declared.meta.Setup.{Setup}
use Rattle.paraid_session.specs.Turn.{halt_told}
use Rattle.paraid_serve.specs.Causes.{Does, HasCause, HasReason, Shown, missing_answer, quiet_answer}
use Rattle.paraid_serve.specs.Causes.HasReason.{again, bad, done, quiet, two, worn}
use Rattle.paraid_trace.specs.Answered.{answer_with}
use Rattle.paraid_trace.specs.declared.answered.Answered.{Answered}
use Rattle.paraid_trace.specs.declared.answered.Beside.{Beside}
use Rattle.paraid_device.proofs.TurnLemmas.{all_there, one_past, one_there, some_past, told_value}

-- an event that is answered with no halt is refused for nothing done, or is done
data IsQuietOrDone (old : Shown) (event : Event) (answer : Answer) (new : Shown) : Type 0 where
  by_quiet : quiet_answer old event ≡ Some answer → IsQuietOrDone old event answer new
  by_done : quiet_answer old event ≡ None → Does old event answer new → IsQuietOrDone old event answer new

no_halt_in : (answer : Answer) (halt : Halt) → answer ≡ Halted halt → halt_told answer ≡ None → ⊥
no_halt_in answer halt is none = let z : Some halt ≡ None = sym (ap halt_told is) ∙ none in cc

goes_on : (old new : Shown) (event : Event) (answer : Answer) → event ≢ Bad → halt_told answer ≡ None → HasReason old event answer new → IsQuietOrDone old event answer new
goes_on old new event answer good none (again halt was apart is same) = absurd (no_halt_in answer halt is none)
goes_on old new event answer good none (worn count going may many wear is same) = absurd (no_halt_in answer (Worn count) is none)
goes_on old new event answer good none (quiet takes is same) = by_quiet is
goes_on old new event answer good none (done takes busy does) = by_done busy does
goes_on old new event answer good none (two pair takes asked busy is lost used) = absurd (no_halt_in answer (HaltTwo pair) is none)
goes_on old new event answer good none (bad is told same) = absurd (good is)

read_good : (block : ℕ) → Read block ≢ Bad
read_good block e = cc

write_good : (pairs : Pairs) → Write pairs ≢ Bad
write_good pairs e = cc

-- one that is there is not missing
there_quiet : (o : Option ℕ) (answer : Answer) → o ≡ None → missing_answer o ≡ Some answer → ⊥
there_quiet o answer none is = let z : None ≡ Some answer = sym (ap missing_answer none) ∙ is in cc

past_quiet : (o : Option ℕ) (block : ℕ) (answer : Answer) → o ≡ Some block → missing_answer o ≡ Some answer → answer ≡ NoBlock block
past_quiet o block answer some is = let z : Some (NoBlock block) ≡ Some answer = sym (ap missing_answer some) ∙ is in cc

past_done : (o : Option ℕ) (block : ℕ) → o ≡ Some block → missing_answer o ≡ None → ⊥
past_done o block some is = let z : Some (NoBlock block) ≡ None = sym (ap missing_answer some) ∙ is in cc

-- what a read does is told by a value, with its bytes beside it
read_told : (old new : Shown) (block : ℕ) (told : Answered) (beside : Beside) (answer : Answer) → answer_with told beside ≡ answer → Does old (Read block) answer new → answer ≡ Value block beside.bytes
read_told old new block told beside (Value b bytes) is does = rw does.0 (ap (λ (x : Block). Value block x) (sym (told_value told beside b bytes is)))
read_told old new block told beside (NoBlock b) is does = absurd does
read_told old new block told beside (Wrote number) is does = absurd does
read_told old new block told beside (Flushed writes) is does = absurd does
read_told old new block told beside (Ticked report) is does = absurd does
read_told old new block told beside (Shift gear to) is does = absurd does
read_told old new block told beside Top is does = absurd does
read_told old new block told beside Lowest is does = absurd does
read_told old new block told beside (Shifting to) is does = absurd does
read_told old new block told beside (Failed d) is does = absurd does
read_told old new block told beside (Replaced d) is does = absurd does
read_told old new block told beside (NoDisk d) is does = absurd does
read_told old new block told beside (IsOut d) is does = absurd does
read_told old new block told beside (NotOut d) is does = absurd does
read_told old new block told beside (NoFresh d) is does = absurd does
read_told old new block told beside (RationUsed d) is does = absurd does
read_told old new block told beside (IsState status disks) is does = absurd does
read_told old new block told beside (EnergyUsed total) is does = absurd does
read_told old new block told beside IsBad is does = absurd does
read_told old new block told beside (Halted halt) is does = absurd does

-- what a write does is told by its number
write_told : (old new : Shown) (pairs : Pairs) (number : ℕ) (answer : Answer) → ((n : ℕ) → answer ≡ Wrote n → number ≡ n) → Does old (Write pairs) answer new → answer ≡ Wrote number
write_told old new pairs number (Wrote n) said does = ap (λ (x : ℕ). Wrote x) (sym (said n refl))
write_told old new pairs number (Value b bytes) said does = absurd does
write_told old new pairs number (NoBlock b) said does = absurd does
write_told old new pairs number (Flushed writes) said does = absurd does
write_told old new pairs number (Ticked report) said does = absurd does
write_told old new pairs number (Shift gear to) said does = absurd does
write_told old new pairs number Top said does = absurd does
write_told old new pairs number Lowest said does = absurd does
write_told old new pairs number (Shifting to) said does = absurd does
write_told old new pairs number (Failed d) said does = absurd does
write_told old new pairs number (Replaced d) said does = absurd does
write_told old new pairs number (NoDisk d) said does = absurd does
write_told old new pairs number (IsOut d) said does = absurd does
write_told old new pairs number (NotOut d) said does = absurd does
write_told old new pairs number (NoFresh d) said does = absurd does
write_told old new pairs number (RationUsed d) said does = absurd does
write_told old new pairs number (IsState status disks) said does = absurd does
write_told old new pairs number (EnergyUsed total) said does = absurd does
write_told old new pairs number IsBad said does = absurd does
write_told old new pairs number (Halted halt) said does = absurd does

module _ (old new : Shown) (setup : Setup) (same : old.setup ≡ setup) where
  -- the first missing one of the setup that is seen
  of_shown : (blocks : ℕ → Option ℕ) (o : Option ℕ) → blocks (block_count setup) ≡ o → blocks (block_count old.setup) ≡ o
  of_shown blocks o is = ap (λ (z : Setup). blocks (block_count z)) same ∙ is

  pub read_by_cause : (block : ℕ) (told : Answered) (beside : Beside) → HasCause old (Read block) (answer_with told beside) new → halt_told (answer_with told beside) ≡ None → block < block_count setup
      → answer_with told beside ≡ Value block beside.bytes
  read_by_cause block told beside it none there = by (goes_on old new (Read block) (answer_with told beside) (read_good block) none it.reason)
    where
      is : first_missing (block_count old.setup) (block ∷ []) ≡ None
      is = of_shown (λ (n : ℕ). first_missing n (block ∷ [])) None (one_there (block_count setup) block there)

      by : IsQuietOrDone old (Read block) (answer_with told beside) new → answer_with told beside ≡ Value block beside.bytes
      by (by_quiet quietly) = absurd (there_quiet (first_missing (block_count old.setup) (block ∷ [])) (answer_with told beside) is quietly)
      by (by_done busy does) = read_told old new block told beside (answer_with told beside) refl does

  pub no_read_by_cause : (block : ℕ) (answer : Answer) → HasCause old (Read block) answer new → halt_told answer ≡ None → block_count setup ≤ block → answer ≡ NoBlock block
  no_read_by_cause block answer it none past = by (goes_on old new (Read block) answer (read_good block) none it.reason)
    where
      is : first_missing (block_count old.setup) (block ∷ []) ≡ Some block
      is = of_shown (λ (n : ℕ). first_missing n (block ∷ [])) (Some block) (one_past (block_count setup) block past)

      by : IsQuietOrDone old (Read block) answer new → answer ≡ NoBlock block
      by (by_quiet quietly) = past_quiet (first_missing (block_count old.setup) (block ∷ [])) block answer is quietly
      by (by_done busy does) = absurd (past_done (first_missing (block_count old.setup) (block ∷ [])) block is busy)

  pub write_by_cause : (pairs : Pairs) (answer : Answer) (number : ℕ) → HasCause old (Write pairs) answer new → halt_told answer ≡ None → All (λ (pair : ℕ × Block). pair.0 < block_count setup) (pairs_of pairs)
      → ((n : ℕ) → answer ≡ Wrote n → number ≡ n) → answer ≡ Wrote number
  write_by_cause pairs answer number it none there said = by (goes_on old new (Write pairs) answer (write_good pairs) none it.reason)
    where
      is : first_missing (block_count old.setup) (blocks_named (pairs_of pairs)) ≡ None
      is = of_shown (λ (n : ℕ). first_missing n (blocks_named (pairs_of pairs))) None (all_there (block_count setup) (pairs_of pairs) there)

      by : IsQuietOrDone old (Write pairs) answer new → answer ≡ Wrote number
      by (by_quiet quietly) = absurd (there_quiet (first_missing (block_count old.setup) (blocks_named (pairs_of pairs))) answer is quietly)
      by (by_done busy does) = write_told old new pairs number answer said does

  pub no_write_by_cause : (pairs : Pairs) (block : ℕ) (answer : Answer) → HasCause old (Write pairs) answer new → halt_told answer ≡ None → IsFirstMissing (block_count setup) (pairs_of pairs) block → answer ≡ NoBlock block
  no_write_by_cause pairs block answer it none past = by (goes_on old new (Write pairs) answer (write_good pairs) none it.reason)
    where
      is : first_missing (block_count old.setup) (blocks_named (pairs_of pairs)) ≡ Some block
      is = of_shown (λ (n : ℕ). first_missing n (blocks_named (pairs_of pairs))) (Some block) (some_past (block_count setup) (pairs_of pairs) block past)

      by : IsQuietOrDone old (Write pairs) answer new → answer ≡ NoBlock block
      by (by_quiet quietly) = past_quiet (first_missing (block_count old.setup) (blocks_named (pairs_of pairs))) block answer is quietly
      by (by_done busy does) = absurd (past_done (first_missing (block_count old.setup) (blocks_named (pairs_of pairs))) block is busy)
