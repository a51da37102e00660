-- The line that tells an answer
use Rattle.std.specs.Prelude.{ℕ, ◌≤◌, ⊤, List, ◌++◌, codes, decimal}
use Rattle.paraid_base.specs.declared.fault.Halt.{Halt}
use Rattle.paraid_base.specs.declared.fault.Halt.TheVariants.{Two, Worn}
use Rattle.paraid_base.specs.declared.event.Answer.{Answer}
use Rattle.paraid_base.specs.declared.event.Answer.TheVariants.{Value, NoBlock, Wrote, Flushed, Ticked, Shift, Top, Lowest, Shifting, Failed, Replaced, NoDisk, Out, NotOut, NoFresh, Ration, State, Energy, Bad, Halted}
use Rattle.paraid_trace.specs.BlockTexts.{block_text}
use Rattle.paraid_trace.specs.StateTexts.{state_text}
use Rattle.paraid_trace.specs.TickTexts.{tick_text}

-- the text of a halt
abbrev pub halt_text : Halt → List ℕ
halt_text (Two two) = codes "two " ++ decimal two.first ++ codes " " ++ decimal two.second
halt_text (Worn count) = codes "worn " ++ decimal count

-- the text of an answer
unfoldable pub answer_text : Answer → List ℕ
answer_text (Value block bytes) = decimal block ++ codes "=" ++ block_text bytes
answer_text (NoBlock block) = codes "noblock " ++ decimal block
answer_text (Wrote number) = codes "wrote " ++ decimal number
answer_text (Flushed writes) = codes "flushed " ++ decimal writes
answer_text (Ticked report) = tick_text report
answer_text (Shift gear to) = codes "shift " ++ decimal gear ++ codes " " ++ decimal to
answer_text Top = codes "top"
answer_text Lowest = codes "lowest"
answer_text (Shifting to) = codes "shifting " ++ decimal to
answer_text (Failed disk) = codes "failed " ++ decimal disk
answer_text (Replaced disk) = codes "replaced " ++ decimal disk
answer_text (NoDisk disk) = codes "nodisk " ++ decimal disk
answer_text (Out disk) = codes "out " ++ decimal disk
answer_text (NotOut disk) = codes "notout " ++ decimal disk
answer_text (NoFresh disk) = codes "nofresh " ++ decimal disk
answer_text (Ration disk) = codes "ration " ++ decimal disk
answer_text (State status disks) = state_text status disks
answer_text (Energy total) = codes "energy " ++ decimal total
answer_text Bad = codes "bad"
answer_text (Halted halt) = halt_text halt

-- the line of an answer, with its newline
unfoldable pub reply_of : Answer → List ℕ
reply_of answer = answer_text answer ++ codes "\n"

-- a state is of at most 8 disks
abbrev pub HasFewDisks : Answer → Type 0
HasFewDisks (State status disks) = disks ≤ 8
HasFewDisks answer = ⊤
