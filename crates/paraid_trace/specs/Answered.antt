-- What is answered, with what stands beside it
use Rattle.paraid_base.specs.declared.event.Answer.{Answer}
use Rattle.paraid_base.specs.declared.event.Answer.TheVariants.{Value, NoBlock, Wrote, Flushed, Ticked, Shift, Top, Lowest, Shifting, Failed, Replaced, NoDisk, Out, NotOut, NoFresh, Ration, State, Energy, Bad, Halted}
use Rattle.paraid_trace.specs.declared.answered.Answered.{Answered}
use Rattle.paraid_trace.specs.declared.answered.Answered.TheVariants.{Value as ToldValue, State as ToldState, Brief as ToldBrief}
use Rattle.paraid_trace.specs.declared.answered.Beside.{Beside}
use Rattle.paraid_trace.specs.declared.answered.Brief.{Brief}
use Rattle.paraid_trace.specs.declared.answered.Brief.TheVariants.{NoBlock as ToldNoBlock, Wrote as ToldWrote, Flushed as ToldFlushed, Ticked as ToldTicked, Shift as ToldShift, Top as ToldTop, Lowest as ToldLowest, Shifting as ToldShifting, Failed as ToldFailed, Replaced as ToldReplaced, NoDisk as ToldNoDisk, Out as ToldOut, NotOut as ToldNotOut, NoFresh as ToldNoFresh, Ration as ToldRation, Energy as ToldEnergy, Bad as ToldBad, Halted as ToldHalted}

-- the answer that takes few bytes
abbrev pub answer_of : Brief → Answer
answer_of (ToldNoBlock block) = NoBlock block
answer_of (ToldWrote number) = Wrote number
answer_of (ToldFlushed writes) = Flushed writes
answer_of (ToldTicked report) = Ticked report
answer_of (ToldShift gear to) = Shift gear to
answer_of ToldTop = Top
answer_of ToldLowest = Lowest
answer_of (ToldShifting to) = Shifting to
answer_of (ToldFailed disk) = Failed disk
answer_of (ToldReplaced disk) = Replaced disk
answer_of (ToldNoDisk disk) = NoDisk disk
answer_of (ToldOut disk) = Out disk
answer_of (ToldNotOut disk) = NotOut disk
answer_of (ToldNoFresh disk) = NoFresh disk
answer_of (ToldRation disk) = Ration disk
answer_of (ToldEnergy total) = Energy total
answer_of ToldBad = Bad
answer_of (ToldHalted halt) = Halted halt

-- the answer, with what stands beside it
abbrev pub answer_with : Answered → Beside → Answer
answer_with (ToldValue block) beside = Value block beside.bytes
answer_with (ToldState disks) beside = State beside.status disks
answer_with (ToldBrief brief) beside = answer_of brief
