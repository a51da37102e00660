-- Of which kind an answer is, by its event.
use Rattle.std.specs.Prelude.{◌==◌, ℕ, Bool, true, false}
use Rattle.paraid_base.specs.declared.event.Answer.{Answer}
use Rattle.paraid_base.specs.declared.event.Answer.TheVariants.{Value, NoBlock, Wrote, Flushed, Ticked, Shift, Top, Lowest, Shifting, Failed, Replaced, NoDisk, Out as IsOut, NotOut, NoFresh, Ration as RationUsed, State as IsState, Energy as EnergyUsed, Bad as IsBad, Halted}
use Rattle.paraid_base.specs.declared.event.Event.{Event}
use Rattle.paraid_base.specs.declared.event.Event.TheVariants.{Read, Write, Flush, Tick, Up, Down, Fail, Replace, State as AskState, Energy as AskEnergy, Bad}

-- whether an answer has the form of one to a line that is no event
abbrev pub is_bad_answer : Answer → Bool
is_bad_answer IsBad = true
is_bad_answer answer = false

-- whether an answer has the form of one to a shift up
abbrev pub is_up_answer : Answer → Bool
is_up_answer (Shift gear to) = true
is_up_answer Top = true
is_up_answer (Shifting to) = true
is_up_answer (IsOut disk) = true
is_up_answer (Halted halt) = true
is_up_answer answer = false

-- whether an answer has the form of one to a shift down
abbrev pub is_down_answer : Answer → Bool
is_down_answer (Shift gear to) = true
is_down_answer Lowest = true
is_down_answer (Shifting to) = true
is_down_answer (IsOut disk) = true
is_down_answer (RationUsed disk) = true
is_down_answer (Halted halt) = true
is_down_answer answer = false

-- whether an answer has the form of one to a read
abbrev pub is_read_answer : ℕ → Answer → Bool
is_read_answer block (Value b bytes) = b == block
is_read_answer block (NoBlock b) = b == block
is_read_answer block (Halted halt) = true
is_read_answer block answer = false

-- whether an answer has the form of one to a write
abbrev pub is_write_answer : Answer → Bool
is_write_answer (Wrote number) = true
is_write_answer (NoBlock block) = true
is_write_answer (Halted halt) = true
is_write_answer answer = false

-- whether an answer has the form of one to a flush
abbrev pub is_flush_answer : Answer → Bool
is_flush_answer (Flushed writes) = true
is_flush_answer (Halted halt) = true
is_flush_answer answer = false

-- whether an answer has the form of one to a tick
abbrev pub is_tick_answer : Answer → Bool
is_tick_answer (Ticked report) = true
is_tick_answer (Halted halt) = true
is_tick_answer answer = false

-- whether an answer has the form of one to a failure by command
abbrev pub is_fail_answer : ℕ → Answer → Bool
is_fail_answer disk (Failed d) = d == disk
is_fail_answer disk (NoDisk d) = d == disk
is_fail_answer disk (IsOut d) = true
is_fail_answer disk (Halted halt) = true
is_fail_answer disk answer = false

-- whether an answer has the form of one to a replacement
abbrev pub is_replace_answer : ℕ → Answer → Bool
is_replace_answer disk (Replaced d) = d == disk
is_replace_answer disk (NoDisk d) = d == disk
is_replace_answer disk (NotOut d) = d == disk
is_replace_answer disk (NoFresh d) = d == disk
is_replace_answer disk (Halted halt) = true
is_replace_answer disk answer = false

-- whether an answer has the form of one to the state
abbrev pub is_state_answer : Answer → Bool
is_state_answer (IsState status disks) = true
is_state_answer (Halted halt) = true
is_state_answer answer = false

-- whether an answer has the form of one to the energy
abbrev pub is_energy_answer : Answer → Bool
is_energy_answer (EnergyUsed total) = true
is_energy_answer (Halted halt) = true
is_energy_answer answer = false

-- the answer is of a kind that the event may have
abbrev pub is_answer_to : Event → Answer → Bool
is_answer_to (Read block) answer = is_read_answer block answer
is_answer_to (Write pairs) answer = is_write_answer answer
is_answer_to Flush answer = is_flush_answer answer
is_answer_to Tick answer = is_tick_answer answer
is_answer_to Up answer = is_up_answer answer
is_answer_to Down answer = is_down_answer answer
is_answer_to (Fail disk) answer = is_fail_answer disk answer
is_answer_to (Replace disk) answer = is_replace_answer disk answer
is_answer_to AskState answer = is_state_answer answer
is_answer_to AskEnergy answer = is_energy_answer answer
is_answer_to Bad answer = is_bad_answer answer
