-- The causes and the kinds of all events of a session of volumes, from those of its lines.
use Rattle.std.specs.Prelude.{Option}
use Rattle.paraid_base.specs.declared.block.Block.{Block}
use Rattle.paraid_base.specs.declared.fault.Halt.{Halt}
use Rattle.paraid_base.specs.History.{Entry}
use Rattle.std.proofs.Common.{zero, suc, ℕ, List, [], ◌∷◌, ◌++◌, refl, sym, subst}
use Rattle.paraid_base.specs.declared.event.Answer.{Answer}
use Rattle.paraid_base.specs.declared.event.Event.{Event}
use Rattle.paraid_base.specs.declared.event.Event.TheVariants.{Read, Write, Flush, Tick, Up, Down, Fail, Replace, State as AskState, Energy as AskEnergy, Bad}
use Rattle.paraid_base.specs.BlockAnswers.{Answers}
use Rattle.paraid_device.specs.Devices.{AreBlockEvents, HaveAnswerCauses, IsBlockEvent}
use Rattle.paraid_serve.specs.Causes.{HasCause, Shown}
use Rattle.paraid_volume.specs.Device.{AreAll, IsFlushEvent, IsReadOrWrite}
use Rattle.paraid_volume.specs.TableCalls.{AreOtherReads, AreZerosTo, IsTableWrite, table_reads}
use Rattle.paraid_volume.proofs.DeviceLemmas.{read_either, write_either}
use Rattle.paraid_volume_lines.specs.Grammar.{VolLine, bad, create, delete, flush, init, list, read, write}
use Rattle.paraid_service.specs.VolumeLines.{IsEventOf}
use Rattle.paraid_service.specs.VolumeForms.{AreFirstReads, FormsLines, HasVolumesForm, IsReplyToLine, Tabled, VolumesForm}
use Rattle.paraid_service.specs.VolumeForms.IsReplyToLine.{begun, created, deleted, flushed, is_already, is_found, is_small, listed, no_table, no_task, refused, told, wrote}
use Rattle.paraid_service.specs.VolumeForms.AreFirstReads.{cut, gave, gave_none, too_small}
use Rattle.paraid_service.specs.VolumeForms.FormsLines.{halting, later, none_yet, one_more}
use Rattle.paraid_service.specs.VolumeForms.VolumesForm.{done, halted, source, too_long}
use Rattle.paraid_service.specs.VolumeForms.HasVolumesForm.{answers, at_first_line, last_line, whole}

-- ---- the causes

causes_joined : (old mid new : Shown) (a b : Answers) → HaveAnswerCauses old a mid → HaveAnswerCauses mid b new → HaveAnswerCauses old (a ++ b) new
causes_joined old mid new [] b all more = subst (λ (x : Shown). HaveAnswerCauses x b new) all more
causes_joined old mid new (e ∷ a) b all more = (all.0, all.1, causes_joined all.0 mid new a b all.2 more)

lines_caused : {old now : Shown} {lines : List (List ℕ)} {front reply : List ℕ} {made : Answers} {table : Tabled} → FormsLines old lines front reply made now table → HaveAnswerCauses old made now
lines_caused (none_yet made now table reads causes) = causes
lines_caused {old} (one_more lines line front reply said asked made more mid now was table before none ask is causes going) = causes_joined old mid now made more (lines_caused before) causes
lines_caused {old} (halting lines line front reply asked halt made more mid now was table before none ask not_bad not_list kinds causes is) = causes_joined old mid now made more (lines_caused before) causes
lines_caused (later lines line front reply asked halt made now table before is ask) = lines_caused before

flushed_caused : (old mid new : Shown) (made : Answers) (answer : Answer) → HaveAnswerCauses old made mid → HasCause mid Flush answer new → HaveAnswerCauses old (made ++ (Flush, answer) ∷ []) new
flushed_caused old mid new made answer causes is = causes_joined old mid new made ((Flush, answer) ∷ []) causes (new, is, refl)

text_caused : {old new : Shown} {bytes : List ℕ} {made : Answers} {status : ℕ} {said last : List ℕ} → VolumesForm old new bytes made status said last → HaveAnswerCauses old made new
text_caused {old} {new} (done front reply made mid table number lines going is) = flushed_caused old mid new made _ (lines_caused lines) is
text_caused {old} {new} (halted front reply made mid table halt lines met is) = flushed_caused old mid new made _ (lines_caused lines) is
text_caused (source front reply made table lines) = lines_caused lines
text_caused (too_long front reply made table full lines) = lines_caused lines

pub form_caused : {old new : Shown} {bytes : List ℕ} {made : Answers} {status : ℕ} {text : List ℕ} → HasVolumesForm old new bytes made status text → HaveAnswerCauses old made new
form_caused (whole said last text is) = text_caused text
form_caused (last_line four code said last count text short is) = text_caused text
form_caused (answers four before more line front reply count table split lines short is) = lines_caused lines
form_caused {old} {new} (at_first_line four no_bytes none same count short is) = subst (λ (x : Answers). HaveAnswerCauses old x new) (sym none) same

-- ---- the kinds

either_kind : (event : Event) → IsReadOrWrite event → IsBlockEvent event
either_kind (Read block) is = tt
either_kind (Write pairs) is = tt
either_kind Flush is = absurd is
either_kind Tick is = absurd is
either_kind Up is = absurd is
either_kind Down is = absurd is
either_kind (Fail disk) is = absurd is
either_kind (Replace disk) is = absurd is
either_kind AskState is = absurd is
either_kind AskEnergy is = absurd is
either_kind Bad is = absurd is

flush_kind : (event : Event) → IsFlushEvent event → IsBlockEvent event
flush_kind (Read block) is = absurd is
flush_kind (Write pairs) is = absurd is
flush_kind Flush is = tt
flush_kind Tick is = absurd is
flush_kind Up is = absurd is
flush_kind Down is = absurd is
flush_kind (Fail disk) is = absurd is
flush_kind (Replace disk) is = absurd is
flush_kind AskState is = absurd is
flush_kind AskEnergy is = absurd is
flush_kind Bad is = absurd is

line_kind : (asked : VolLine) (event : Event) → IsEventOf asked event → IsBlockEvent event
line_kind init event is = either_kind event is
line_kind (create name extents) event is = either_kind event (write_either event is)
line_kind (delete name) event is = either_kind event (write_either event is)
line_kind (read name block) event is = either_kind event (read_either event is)
line_kind (write name block bytes) event is = either_kind event (write_either event is)
line_kind flush event is = flush_kind event is
line_kind list event is = absurd is
line_kind bad event is = absurd is

kinds_of : (kind : Event → Type 0) → ((event : Event) → kind event → IsBlockEvent event) → (made : Answers) → AreAll kind made → AreBlockEvents made
kinds_of kind each [] all = tt
kinds_of kind each (e ∷ made) all = (each e.0 all.0, kinds_of kind each made all.1)

kinds_joined : (a b : Answers) → AreBlockEvents a → AreBlockEvents b → AreBlockEvents (a ++ b)
kinds_joined [] b all more = more
kinds_joined (e ∷ a) b all more = (all.0, kinds_joined a b all.1 more)

read_kinds : (content : ℕ → Block) (n : ℕ) → AreBlockEvents (table_reads content n)
read_kinds content zero = tt
read_kinds content (suc n) = kinds_joined (table_reads content n) _ (read_kinds content n) (tt, tt)

other_kinds : {count : ℕ} (made : Answers) → AreOtherReads count made → AreBlockEvents made
other_kinds made all = subst AreBlockEvents (sym all.are) (read_kinds all.content 6)

zero_kinds : (blocks : List ℕ) (made : Answers) → AreZerosTo blocks made → AreBlockEvents made
zero_kinds [] [] all = tt
zero_kinds [] (e ∷ made) all = absurd all
zero_kinds (block ∷ blocks) [] all = absurd all
zero_kinds (block ∷ blocks) (e ∷ made) all = (subst IsBlockEvent (sym all.0) tt, zero_kinds blocks made all.2)

write_kinds : {are : Entry → Type 0} (made : Answers) → IsTableWrite are made → AreBlockEvents made
write_kinds made all = subst AreBlockEvents (sym all.is) (tt, tt)

first_kinds : {count : ℕ} {halt : Option Halt} {made : Answers} {table : Tabled} → AreFirstReads count halt made table → AreBlockEvents made
first_kinds (too_small small) = tt
first_kinds (gave table tabled) = read_kinds table 6
first_kinds (gave_none made large all) = other_kinds made all
first_kinds (cut halt made large all) = subst AreBlockEvents (sym all.are) (kinds_joined (table_reads all.content all.number) _ (read_kinds all.content all.number) (tt, tt))

reply_kinds : {count : ℕ} {was table : Tabled} {asked : VolLine} {said : List ℕ} {made : Answers} → IsReplyToLine count was asked said made table → AreBlockEvents made
reply_kinds (no_task was) = tt
reply_kinds (no_table line not_init not_bad) = tt
reply_kinds (is_small small) = tt
reply_kinds (begun next made tabled empty all) = subst AreBlockEvents (sym all.parts) (kinds_joined all.before all.last (other_kinds all.before all.reads) (write_kinds all.last all.writes))
reply_kinds (is_found made large all) = subst AreBlockEvents (sym all.are) (read_kinds all.content 6)
reply_kinds (is_already table) = tt
reply_kinds (created table next name extents id made none some least room tabled text with named all) = subst AreBlockEvents (sym all.parts) (kinds_joined all.zeros all.last (zero_kinds _ all.zeros all.clears) (write_kinds all.last all.writes))
reply_kinds (deleted table next name id made is tabled without all) = write_kinds made all
reply_kinds (told table name id block place bytes is lies) = (tt, tt)
reply_kinds (wrote table name id block place number bytes is lies) = (tt, tt)
reply_kinds (flushed table number) = (tt, tt)
reply_kinds (listed table text each) = tt
reply_kinds (refused table line fault is) = tt

lines_kinds : {old now : Shown} {lines : List (List ℕ)} {front reply : List ℕ} {made : Answers} {table : Tabled} → FormsLines old lines front reply made now table → AreBlockEvents made
lines_kinds (none_yet made now table reads causes) = first_kinds reads
lines_kinds (one_more lines line front reply said asked made more mid now was table before none ask is causes going) = kinds_joined made more (lines_kinds before) (reply_kinds is)
lines_kinds (halting lines line front reply asked halt made more mid now was table before none ask not_bad not_list kinds causes is) = kinds_joined made more (lines_kinds before) (kinds_of (IsEventOf asked) (line_kind asked) more kinds)
lines_kinds (later lines line front reply asked halt made now table before is ask) = lines_kinds before

text_kinds : {old new : Shown} {bytes : List ℕ} {made : Answers} {status : ℕ} {said last : List ℕ} → VolumesForm old new bytes made status said last → AreBlockEvents made
text_kinds (done front reply made mid table number lines going is) = kinds_joined made _ (lines_kinds lines) (tt, tt)
text_kinds (halted front reply made mid table halt lines met is) = kinds_joined made _ (lines_kinds lines) (tt, tt)
text_kinds (source front reply made table lines) = lines_kinds lines
text_kinds (too_long front reply made table full lines) = lines_kinds lines

pub form_kinds : {old new : Shown} {bytes : List ℕ} {made : Answers} {status : ℕ} {text : List ℕ} → HasVolumesForm old new bytes made status text → AreBlockEvents made
form_kinds (whole said last text is) = text_kinds text
form_kinds (last_line four code said last count text short is) = text_kinds text
form_kinds (answers four before more line front reply count table split lines short is) = lines_kinds lines
form_kinds (at_first_line four no_bytes none same count short is) = subst AreBlockEvents (sym none) tt
