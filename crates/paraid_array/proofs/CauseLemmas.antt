-- Why an array answers an event so, by the clauses of its core.
use Rattle.std.proofs.Common.{◌≡◌, ◌≢◌, ℕ, ◌+◌, ◌<◌, ◌≤◌, ◌⊎◌, true, false, Bool, List, [], ◌∷◌, Option, Some, None, Result, Err, Ok, refl, sym, ap, ◌∙◌, subst, inl, inr, arith, min, if◌then◌else◌}
use Rattle.std.specs.Prelude.{All, IfSome, ◌&&◌, length, max, nat_le, nat_lt, slice_index, ◌==◌}
use Rattle.std.proofs.lemmas.Bool.Decides.{nat_tests}
use Rattle.std.proofs.lemmas.List.Elements.{All-head, All-tail}
use Rattle.paraid_base.specs.History.{Entry}
use Rattle.paraid_base.specs.declared.block.Block.{Block}
use Rattle.paraid_base.specs.declared.event.Answer.{Answer}
use Rattle.paraid_base.specs.declared.event.Answer.TheVariants.{Failed, Halted, NoBlock, NoDisk, NoFresh as NoFreshAnswer, NotOut, Out as IsOut, Replaced, State as IsState}
use Rattle.paraid_base.specs.declared.event.Event.{Event}
use Rattle.paraid_base.specs.declared.event.Event.TheVariants.{Down as DownEvent, Fail, Read, Replace, Up as UpEvent}
use Rattle.paraid_base.specs.declared.fault.Halt.{Halt}
use Rattle.paraid_base.specs.declared.fault.Halt.TheVariants.{Two as HaltTwo, Worn}
use Rattle.paraid_base.specs.declared.fault.Two.{Two}
use Rattle.paraid_base.specs.declared.state.Out.{Out}
use Rattle.paraid_base.specs.declared.state.Out.TheVariants.{Fresh, Gone, No}
use Rattle.paraid_base.specs.declared.state.Phase.{Phase}
use Rattle.paraid_base.specs.declared.state.Status.{Status}
use Rattle.paraid_base.specs.declared.state.Phase.TheVariants.{Down as DownPhase, Steady, Up as UpPhase}
use Rattle.paraid_base.specs.Cells.{home_disk, home_row}
use Rattle.paraid_base.specs.Log.{batch_room, worn_at}
use Rattle.paraid_base.specs.Told.{HasRisen}
use Rattle.paraid_image.specs.Out.{is_out, named_out}
use Rattle.paraid_image.specs.Sides.{Batch}
use Rattle.paraid_machine.specs.Machine.{blocks_named, first_missing, out_refusal}
use Rattle.paraid_rack.specs.Slots.{Slot}
use Rattle.paraid_record.specs.declared.meta.Meta.{Meta}
use Rattle.paraid_record.specs.declared.meta.Setup.{Setup}
use Rattle.paraid_dirty.specs.Table.{is_dirty}
use Rattle.paraid_core.specs.Cleaning.{is_cleaned, read_commits_first}
use Rattle.paraid_core.specs.Cores.{core_rack}
use Rattle.paraid_core.specs.Lost.{MarksLost}
use Rattle.paraid_core.specs.Room.{commits_first}
use Rattle.paraid_core.specs.Steps.{IsMarkedFrom}
use Rattle.paraid_image.specs.Mark.{meta_after_loss, meta_with_lost}
use Rattle.paraid_moves.specs.MoveMetas.{meta_after_begin}
use Rattle.paraid_rebuild.specs.Replacing.{IsReplacedFrom}
use Rattle.paraid_core.specs.declared.staged.Core.{Core}
use Rattle.paraid_serve.specs.Causes.{Accepts, Begins, CommitsFew, Counts, Does, DoesShift, HasCause, HasCounted, IsUnchanged, KeepsEnergy, Replaces, Shown, Takes, UsesOwn, down_refusal, gear_after, missing_answer, StagesFew, lacks_room, most_commits, quiet_answer, read_cleans, spins_up, state_shown, up_refusal, wear_shown}
use Rattle.paraid_serve.specs.Causes.HasReason.{done as reason_done, quiet as reason_quiet, two as reason_two, worn as reason_worn}
use Rattle.paraid_serve.specs.Lost.{HaltsByTwoLost}
use Rattle.paraid_serve.proofs.OwedLemmas.{no_halt_done, no_halt_quiet}
use Rattle.paraid_array.specs.Laws.{all_synced, gear_going}
use Rattle.paraid_array.specs.declared.ended.HaltedAt.{HaltedAt}
use Rattle.paraid_upkeep.specs.DiskRefusals.{HasMarkedTaken, IsFailRefused, IsReplaceRefused}
use Rattle.paraid_upkeep.specs.Directions.{HasMarkedShift, IsRefusedTo, MayGo, asked_event}
use Rattle.paraid_upkeep.specs.Refusals.{HasBegunOrLost, HasMarkedDown, HasMarkedUp, IsDownRefused, IsShiftStateOf, IsUpRefused, MayGoDown, MayGoUp, fault_answer}
use Rattle.paraid_upkeep.specs.Turns.{asked_answer, fail_answer, replace_answer}
use Rattle.paraid_upkeep.specs.declared.asked.ShiftOutcome.{ShiftOutcome}
use Rattle.paraid_upkeep.specs.declared.asked.ShiftOutcome.TheVariants.{Begun, Refused}
use Rattle.paraid_upkeep.specs.declared.asked.Direction.{Direction}
use Rattle.paraid_upkeep.specs.declared.asked.Direction.TheVariants.{Down as Downward, Up as Upward}
use Rattle.paraid_upkeep.specs.declared.fault.ShiftFault.{ShiftFault}
use Rattle.paraid_upkeep.specs.declared.fault.ShiftFault.TheVariants.{Lowest, Out as ShiftOut, Ration, Shifting, Top}
use Rattle.paraid_base.specs.Gears.{next_higher, next_lower}
use Rattle.paraid_image.specs.Power.{PowerState}
use Rattle.paraid_machine.specs.Moves.{first_used_up}
use Rattle.paraid_array.specs.Used.{asked_energy}
use Rattle.paraid_upkeep.specs.declared.fault.FailFault.{FailFault}
use Rattle.paraid_upkeep.specs.declared.fault.FailFault.TheVariants.{NoDisk as FailNoDisk, Out as FailOut}
use Rattle.paraid_upkeep.specs.declared.fault.ReplaceFault.{ReplaceFault}
use Rattle.paraid_upkeep.specs.declared.fault.ReplaceFault.TheVariants.{NoDisk as ReplaceNoDisk, NoFresh, NotOut as ReplaceNotOut}
use Rattle.paraid_array.proofs.AnswerLemmas.{same_test}
use Rattle.paraid_session.proofs.FaultLemmas.{same_counts}
use Rattle.paraid_session.specs.Faults.{HaveNotFallen}
use Rattle.paraid_session.specs.Powers.{AreSlotsSynced, FitsSlots}
use Rattle.paraid_session.specs.Turn.{halt_told, may_halt}
use Rattle.paraid_array.specs.declared.array.Array.{Array}
use Rattle.paraid_array.specs.Arrays.{shown_of_array}
use Rattle.paraid_array.specs.Lasting.{IsArrayServing, gear_of_end, halt_of_end, samples_held}
use Rattle.paraid_gear.specs.ThreeWindows.{lengths_of, sample_of}

below_max : (a b : ℕ) → a < worn_at → b < worn_at → max a b < worn_at
below_max a b x y = grind (arith)

-- what serves and is not worn takes each event
pub takes : (x : Shown) (event : Event) → x.halt ≡ None → x.meta.epoch < worn_at → x.meta.writes < worn_at → Takes x event
takes x event going epoch writes = record { going = going; fit = λ asked. below_max x.meta.epoch x.meta.writes epoch writes }

-- and a question is always taken
pub takes_question : (x : Shown) (event : Event) → x.halt ≡ None → may_halt event ≡ false → Takes x event
takes_question x event going not = record { going = going; fit = λ asked. let z : true ≡ false = sym asked ∙ not in cc }

pub unchanged : (x : Shown) → IsUnchanged x x
unchanged x = record { meta = refl; dirty = refl; staged = refl; slot = refl; energy = λ fits. refl }

-- the gear that is told where no halt is
told_gear : (x y : Shown) (answer : Answer) → y.halt ≡ halt_told answer → (y.halt ≡ None → y.gear ≡ y.meta.gear) → halt_told answer ≡ None → y.gear ≡ gear_after (halt_told answer) x y
told_gear x y answer halt gear none = subst (λ (h : Option Halt). y.gear ≡ gear_after h x y) (sym none) (gear (halt ∙ none))

-- the number of commits is as it was
pub commits_none : (x y : Shown) (most : ℕ) → y.meta.epoch ≡ x.meta.epoch → CommitsFew x y most
commits_none x y most same = record { later = low x.meta.epoch y.meta.epoch same; few = high x.meta.epoch y.meta.epoch same }
  where
    low : (e n : ℕ) → n ≡ e → e ≤ n
    low e n is = omega arith

    high : (e n : ℕ) → n ≡ e → n ≤ e + most
    high e n is = omega arith

-- it has risen by so many, which are no more than that
pub commits_by : (x y : Shown) (count most : ℕ) → count ≤ most → y.meta.epoch ≡ x.meta.epoch + count → CommitsFew x y most
commits_by x y count most under is = record { later = low x.meta.epoch y.meta.epoch is; few = high x.meta.epoch y.meta.epoch is }
  where
    low : (e n : ℕ) → n ≡ e + count → e ≤ n
    low e n same = omega arith

    high : (e n : ℕ) → n ≡ e + count → n ≤ e + most
    high e n same = omega (arith, under)

-- a request that commits first, or not
pub commits_once : (x y : Shown) (first : Bool) → y.meta.epoch ≡ x.meta.epoch + (if first then 1 else 0) → CommitsFew x y (if first then 1 else 0)
commits_once x y true is = commits_by x y 1 1 (omega arith) is
commits_once x y false is = commits_by x y 0 0 (omega arith) is

-- a flush of what is staged
pub commits_staged : (x y : Shown) (batch : Batch) → x.staged ≡ length batch → batch ≢ [] → y.meta.epoch ≡ x.meta.epoch + 1 → CommitsFew x y (min x.staged 1)
commits_staged x y batch staged some is = commits_by x y 1 (min x.staged 1) (subst (λ (n : ℕ). 1 ≤ min n 1) (sym staged) (any batch some)) is
  where
    any : (b : Batch) → b ≢ [] → 1 ≤ min (length b) 1
    any [] never = absurd (never refl)
    any (member ∷ rest) never = grind (arith)

-- no more is staged than there is room for
not_full : (room n : ℕ) → n ≤ room → nat_lt room n ≡ false
not_full room n low = grind (arith, nat_tests)

-- a read commits once at most, and only where it cleans its cell
pub commits_to_clean : {R : Type 0} {g : _} (slot : R → ℕ → Slot) (a : Array R g) (y : Shown) (block : ℕ) → a.core.meta.setup ≡ a.setup → length a.core.batch ≤ batch_room
    → y.meta.epoch ≡ a.core.meta.epoch + (if read_commits_first a.core.meta a.core.dirty a.core.batch block then 1 else 0) → CommitsFew (shown_of_array slot a) y (most_commits (shown_of_array slot a) (Read block))
commits_to_clean slot a y block same few is =
    subst (λ (z : Setup). CommitsFew (shown_of_array slot a) y (most_commits (record (shown_of_array slot a) { setup = z }) (Read block))) same
    (by (is_cleaned a.core.meta a.core.dirty (home_row a.core.meta.setup.geometry.disks block) (home_disk a.core.meta.setup.geometry.disks block)) is)
  where
    by : (cleans : Bool) → y.meta.epoch ≡ a.core.meta.epoch + (if commits_first a.core.batch (if cleans then 3 else 0) then 1 else 0) → CommitsFew (shown_of_array slot a) y (if cleans && lacks_room (shown_of_array slot a) 3 then 1 else 0)
    by true e = commits_once (shown_of_array slot a) y (commits_first a.core.batch 3) e
    by false e = commits_by (shown_of_array slot a) y 0 0 (omega arith) (e ∙ ap (λ (b : Bool). a.core.meta.epoch + (if b then 1 else 0)) (not_full batch_room (length a.core.batch) few))

-- what it leaves staged
pub stages_to_clean : {R : Type 0} {g : _} (slot : R → ℕ → Slot) (a : Array R g) (now : ℕ) (block : ℕ) → a.core.meta.setup ≡ a.setup → length a.core.batch ≤ batch_room
    → now ≤ (if read_commits_first a.core.meta a.core.dirty a.core.batch block then 0 else length a.core.batch) + 3
    → (is_cleaned a.core.meta a.core.dirty (home_row a.core.meta.setup.geometry.disks block) (home_disk a.core.meta.setup.geometry.disks block) ≡ false → now ≡ length a.core.batch)
    → StagesFew (shown_of_array slot a) (record (shown_of_array slot a) { staged = now }) (if read_cleans (shown_of_array slot a) block then 3 else 0)
stages_to_clean slot a now block same few most still =
    subst (λ (z : Setup). StagesFew (shown_of_array slot a) (record (shown_of_array slot a) { staged = now }) (if read_cleans (record (shown_of_array slot a) { setup = z }) block then 3 else 0)) same
    (by (is_cleaned a.core.meta a.core.dirty (home_row a.core.meta.setup.geometry.disks block) (home_disk a.core.meta.setup.geometry.disks block)) most still)
  where
    by : (cleans : Bool) → now ≤ (if commits_first a.core.batch (if cleans then 3 else 0) then 0 else length a.core.batch) + 3 → (cleans ≡ false → now ≡ length a.core.batch) → StagesFew (shown_of_array slot a) (record (shown_of_array slot a) { staged = now }) (if cleans then 3 else 0)
    by true m s = m
    by false m s = subst (λ (b : Bool). now ≤ (if b then 0 else length a.core.batch) + 0) (sym (not_full batch_room (length a.core.batch) few)) (subst (λ (n : ℕ). n ≤ length a.core.batch + 0) (sym (s refl)) (omega arith))

module _ {R : Type 0} {g : _} {count : R → ℕ} (slot : R → ℕ → Slot) (a : Array R g) where
  -- with no call
  pub quiet_cause : (event : Event) (answer : Answer) → halt_of_end a.ended ≡ None → halt_told answer ≡ None → Takes (shown_of_array slot a) event → quiet_answer (shown_of_array slot a) event ≡ Some answer
      → Counts answer (shown_of_array slot a) (shown_of_array slot a) → IsArrayServing count slot a.core (lengths_of a.windows) a.setup a.slots → HasCause (shown_of_array slot a) event answer (shown_of_array slot a)
  quiet_cause event answer going no_halt takes is counts q = record {
    reason = reason_quiet takes is (unchanged (shown_of_array slot a));
    setup = refl;
    halt = λ not. going ∙ sym no_halt;
    gear = λ not. told_gear (shown_of_array slot a) (shown_of_array slot a) answer (going ∙ sym no_halt) (gear_going a.ended a.core.meta.gear) no_halt;
    counts = counts;
    commits = λ still. commits_none (shown_of_array slot a) (shown_of_array slot a) (most_commits (shown_of_array slot a) event) refl;
    later = same_counts (slot (core_rack a.core));
    fits = λ still. q.fits;
    synced = λ still. all_synced slot a.core q.serving.copies_synced q.serving.unsynced;
  }

same_marked : (o : Option ℕ) (m : Meta) → meta_with_lost o m ≡ meta_with_lost o m
same_marked None m = refl
same_marked (Some d) m = refl

-- The marks of a disk that was lost are those of a call over the core.
pub accepted : (x y : Shown) (count : ℕ) → MarksLost x.slot y.slot x.meta y.meta → y.meta.writes ≡ x.meta.writes + count → y.energy ≡ x.energy → Accepts x y count
accepted x y count marks writes energy = record {
  lost = marks.lost;
  is = marks.is ∙ ap (λ (m : Meta). record m { epoch = y.meta.epoch; writes = y.meta.writes }) (same_marked marks.lost x.meta);
  alone = marks.alone;
  failed = λ d is. (marks.failed d is).risen;
  writes = writes;
  energy = λ fits. energy;
}

halts_not : (o : Option Halt) (halt : Halt) → o ≡ Some halt → o ≡ None → ⊥
halts_not o halt is none = let z : Some halt ≡ None = sym is ∙ none in cc

-- The event was served, or two disks were lost in it.
module _ (x y : Shown) (event : Event) (takes : Takes x event) (busy : quiet_answer x event ≡ None) (setup : y.setup ≡ x.setup) (later : HaveNotFallen x.slot y.slot) where
  pub done_cause : (answer : Answer) → y.halt ≡ halt_told answer → (y.halt ≡ None → y.gear ≡ y.meta.gear) → Counts answer x y → Does x event answer y → CommitsFew x y (most_commits x event) → FitsSlots y.slot y.meta → AreSlotsSynced y.meta y.slot → HasCause x event answer y
  done_cause answer halt gear counts does commits powered synced = record { reason = reason_done takes busy does; setup = setup; halt = λ not. halt; gear = λ not. told_gear x y answer halt gear (no_halt_done x y event answer does); counts = counts; commits = λ still. commits; later = later; fits = λ still. powered; synced = λ still. synced }

  pub two_cause : may_halt event ≡ true → y.gear ≡ x.gear → UsesOwn event x y → (pair : Two) → y.halt ≡ Some (HaltTwo pair) → HaltsByTwoLost (named_out x.meta.out) event x.slot y.slot (Some (HaltTwo pair)) → HasCause x event (Halted (HaltTwo pair)) y
  two_cause asked gear used pair halt lost = record { reason = reason_two pair takes asked busy refl (lost pair refl) used; setup = setup; halt = λ not. halt; gear = λ not. gear; counts = tt; commits = λ still. absurd (halts_not y.halt (HaltTwo pair) halt still); later = later; fits = λ still. absurd (halts_not y.halt (HaltTwo pair) halt still); synced = λ still. absurd (halts_not y.halt (HaltTwo pair) halt still) }

-- it is worn
pub worn_cause : (x y : Shown) (event : Event) (count : ℕ) → x.halt ≡ None → may_halt event ≡ true → worn_at ≤ count → count ≡ wear_shown x → IsUnchanged x y → y.setup ≡ x.setup → y.halt ≡ Some (Worn count) → y.gear ≡ x.gear
    → HaveNotFallen x.slot y.slot → HasCause x event (Halted (Worn count)) y
worn_cause x y event count going asked many is same setup halt gear later = record { reason = reason_worn count going asked many is refl same; setup = setup; halt = λ not. halt; gear = λ not. gear; counts = tt; commits = λ still. absurd (halts_not y.halt (Worn count) halt still); later = later; fits = λ still. absurd (halts_not y.halt (Worn count) halt still); synced = λ still. absurd (halts_not y.halt (Worn count) halt still) }

below_count : (a b : ℕ) → a < b → nat_lt a b ≡ true
below_count a b l = grind (arith, nat_tests)

past_count : (a b : ℕ) → b ≤ a → nat_lt a b ≡ false
past_count a b l = grind (arith, nat_tests)

same_disk : (x y : ℕ) → (x == y) ≡ true → x ≡ y
same_disk x y e = grind (e, arith, nat_tests)

pub one_missing : (count block : ℕ) → count ≤ block → missing_answer (first_missing count (block ∷ [])) ≡ Some (NoBlock block)
one_missing count block past = rw (past_count block count past) refl

pub one_there : (count block : ℕ) → block < count → missing_answer (first_missing count (block ∷ [])) ≡ None
one_there count block low = rw (below_count block count low) refl

none_missing : (count : ℕ) (entry : Entry) → All (λ (pair : ℕ × Block). pair.0 < count) entry → first_missing count (blocks_named entry) ≡ None
none_missing count [] all = refl
none_missing count (pair ∷ entry) all =
    rw (below_count pair.0 count (All-head (λ (x : ℕ × Block). x.0 < count) pair entry all)) (none_missing count entry (All-tail (λ (x : ℕ × Block). x.0 < count) pair entry all))

pub all_there : (count : ℕ) (entry : Entry) → All (λ (pair : ℕ × Block). pair.0 < count) entry → missing_answer (first_missing count (blocks_named entry)) ≡ None
all_there count entry all = ap missing_answer (none_missing count entry all)

-- disks of the array, by their number
pub past_disks : (d n : ℕ) (A B : Option Answer) → n ≤ d → (if nat_lt d n then A else B) ≡ B
past_disks d n A B past = rw (past_count d n past) refl

pub low_disks : (d n : ℕ) (A B : Option Answer) → d < n → (if nat_lt d n then A else B) ≡ A
low_disks d n A B low = rw (below_count d n low) refl

pub plus_none : (n : ℕ) → n ≡ n + 0
plus_none n = omega arith

-- no write was accepted, and nothing was lost
pub accepts_none : (x : Shown) → Accepts x x 0
accepts_none x = record {
  lost = None;
  is = refl;
  alone = λ d e is. let z : None ≡ Some d = is in absurd cc;
  failed = λ d is. let z : None ≡ Some d = is in absurd cc;
  writes = plus_none x.meta.writes;
  energy = λ fits. refl;
}

-- what is seen of an array over this core, with so much energy used, with these samples and so many requests
abbrev pub shown_with : {R : Type 0} {g : _} → (R → ℕ → Slot) → Setup → Core R g → ℕ → List ℕ → ℕ → Option HaltedAt → Shown
shown_with slot setup core sum samples served ended = record { setup = setup; meta = core.meta; dirty = is_dirty core.dirty; staged = length core.batch; slot = slot (core_rack core); gear = gear_of_end ended core.meta.gear; energy = sum; samples = samples; served = served; halt = halt_of_end ended }

-- with the core as it was nothing has changed
module _ {R : Type 0} {g : _} (slot : R → ℕ → Slot) (a : Array R g) (new : Core R g) (sum : ℕ) (same : new ≡ a.core) (energy : KeepsEnergy (shown_of_array slot a) (shown_with slot a.setup new sum (samples_held a.windows) (sample_of a.served) a.ended)) where
  pub unchanged_core : IsUnchanged (shown_of_array slot a) (shown_with slot a.setup new sum (samples_held a.windows) (sample_of a.served) a.ended)
  unchanged_core = record {
    meta = ap (λ (c : Core R g). c.meta) same;
    dirty = ap (λ (c : Core R g). is_dirty c.dirty) same;
    staged = ap (λ (c : Core R g). length c.batch) same;
    slot = ap (λ (c : Core R g). slot (core_rack c)) same;
    energy = energy;
  }

-- nothing was done for the event
pub still_cause : (x y : Shown) (event : Event) (answer : Answer) → Takes x event → quiet_answer x event ≡ Some answer → IsUnchanged x y → y.setup ≡ x.setup → y.halt ≡ halt_told answer → (y.halt ≡ None → y.gear ≡ y.meta.gear) → Counts answer x y → HaveNotFallen x.slot y.slot
    → FitsSlots y.slot y.meta → AreSlotsSynced y.meta y.slot → HasCause x event answer y
still_cause x y event answer takes is same setup halt gear counts later powered synced = record { reason = reason_quiet takes is same; setup = setup; halt = λ not. halt; gear = λ not. told_gear x y answer halt gear (no_halt_quiet x event answer is); counts = counts; commits = λ still. commits_none x y (most_commits x event) (ap (λ (m : Meta). m.epoch) same.meta); later = later; fits = λ still. powered; synced = λ still. synced }

-- why the disk that is out, or none, refuses
no_refusal : (o : Out) → named_out o ≡ None → out_refusal o ≡ None
no_refusal No e = refl
no_refusal (Gone d) e = let z : Some d ≡ None = e in cc
no_refusal (Fresh d u) e = let z : Some d ≡ None = e in cc

abbrev option_out : Option ℕ → Option Answer
option_out None = None
option_out (Some d) = Some (IsOut d)

out_refuses : (o : Out) (d : ℕ) → named_out o ≡ Some d → out_refusal o ≡ Some (IsOut d)
out_refuses No d e = let z : None ≡ Some d = e in cc
out_refuses (Gone x) d e = ap (λ (o : Option ℕ). option_out o) e
out_refuses (Fresh x u) d e = ap (λ (o : Option ℕ). option_out o) e

-- those of a disk that is out then, where none was
lost_meta : (m n : Meta) (e d : ℕ) → named_out m.out ≡ None → named_out n.out ≡ Some d → (o : Option ℕ) → n ≡ meta_with_lost o (record m { epoch = e }) → n ≡ record (meta_after_loss m d) { epoch = n.epoch }
lost_meta m n e d none named None is = let z : None ≡ Some d = sym none ∙ sym (ap (λ (z : Meta). named_out z.out) is) ∙ named in cc
lost_meta m n e d none named (Some x) is =
    let one : x ≡ d = let z : Some x ≡ Some d = sym (ap (λ (z : Meta). named_out z.out) is) ∙ named in cc in
    subst (λ (y : ℕ). n ≡ record (meta_after_loss m y) { epoch = n.epoch }) one
    (subst (λ (z : Meta). z ≡ record (meta_after_loss m x) { epoch = z.epoch }) (sym is) refl)

-- a disk that is taken out
module _ {R : Type 0} {g : _} (slot : R → ℕ → Slot) (a : Array R g) (new : Core R g) (sum : ℕ) (d : ℕ) (takes : Takes (shown_of_array slot a) (Fail d)) (same_setup : a.core.meta.setup ≡ a.setup) (energy : sum ≡ a.ledger.total)
    (later : HaveNotFallen (slot (core_rack a.core)) (slot (core_rack new))) (writes : new.meta.writes ≡ a.core.meta.writes) (table : new.dirty ≡ a.core.dirty)
    (commits : CommitsFew (shown_of_array slot a) (shown_with slot a.setup new sum (samples_held a.windows) (sample_of a.served) a.ended) 2) (powered : FitsSlots (slot (core_rack new)) new.meta) (synced : AreSlotsSynced new.meta (slot (core_rack new)))
    (no_disk : a.core.meta.setup.geometry.disks ≤ d → new ≡ a.core)
    (out : (e : ℕ) → d < a.core.meta.setup.geometry.disks → named_out a.core.meta.out ≡ Some e → new ≡ a.core) where
  high : a.core.meta.setup.geometry.disks ≤ d → a.setup.geometry.disks ≤ d
  high past = subst (λ (z : Setup). z.geometry.disks ≤ d) same_setup past

  low : d < a.core.meta.setup.geometry.disks → d < a.setup.geometry.disks
  low under = subst (λ (z : Setup). d < z.geometry.disks) same_setup under

  still : new ≡ a.core → IsUnchanged (shown_of_array slot a) (shown_with slot a.setup new sum (samples_held a.windows) (sample_of a.served) a.ended)
  still same = unchanged_core slot a new sum same (λ fits. energy)

  quietly_past : d < a.setup.geometry.disks → quiet_answer (shown_of_array slot a) (Fail d) ≡ out_refusal a.core.meta.out
  quietly_past under = low_disks d a.setup.geometry.disks (out_refusal a.core.meta.out) (Some (NoDisk d)) under

  pub fail_cause : (r : Option FailFault) → halt_of_end a.ended ≡ None → IfSome r (IsFailRefused a.core.meta new.meta d)
      → (r ≡ None → (d < a.core.meta.setup.geometry.disks) × (named_out a.core.meta.out ≡ None) × (new.meta.out ≡ Gone d))
      → HasMarkedTaken a.core.meta new.meta d r
      → ((e : ℕ) → r ≡ Some (FailOut e) → named_out a.core.meta.out ≡ None → HasRisen (slot (core_rack a.core) e).faults (slot (core_rack new) e).faults)
      → HasCause (shown_of_array slot a) (Fail d) (fail_answer d r) (shown_with slot a.setup new sum (samples_held a.windows) (sample_of a.served) a.ended)
  fail_cause None going why taken marks lost =
      let t = taken refl in
      done_cause (shown_of_array slot a) (shown_with slot a.setup new sum (samples_held a.windows) (sample_of a.served) a.ended) (Fail d) takes (quietly_past (low t.0) ∙ no_refusal a.core.meta.out t.1) refl later (Failed d) going (gear_going a.ended new.meta.gear) (record { samples = refl; served = refl })
      (refl, record { is = marks; dirty = ap is_dirty table; energy = λ fits. energy }) commits powered synced
  fail_cause (Some (FailNoDisk e)) going why taken marks lost =
      still_cause (shown_of_array slot a) (shown_with slot a.setup new sum (samples_held a.windows) (sample_of a.served) a.ended) (Fail d) (NoDisk e) takes
      (past_disks d a.setup.geometry.disks (out_refusal a.core.meta.out) (Some (NoDisk d)) (high why.1) ∙ ap (λ (z : ℕ). Some (NoDisk z)) (sym why.0)) (still (no_disk why.1)) refl going (gear_going a.ended new.meta.gear) (record { samples = refl; served = refl }) later powered synced
  fail_cause (Some (FailOut e)) going why taken marks lost = elim why.1 [
    | inl was ↦ still_cause (shown_of_array slot a) (shown_with slot a.setup new sum (samples_held a.windows) (sample_of a.served) a.ended) (Fail d) (IsOut e) takes
        (quietly_past (low why.0) ∙ out_refuses a.core.meta.out e was) (still (out e why.0 was)) refl going (gear_going a.ended new.meta.gear) (record { samples = refl; served = refl }) later powered synced
    | inr now ↦ done_cause (shown_of_array slot a) (shown_with slot a.setup new sum (samples_held a.windows) (sample_of a.served) a.ended) (Fail d) takes (quietly_past (low why.0) ∙ no_refusal a.core.meta.out now.0) refl later (IsOut e) going (gear_going a.ended new.meta.gear) (record { samples = refl; served = refl })
        (now.2, record { none = now.0; failed = lost e refl now.0; marks = record { is = lost_meta a.core.meta new.meta marks.0 e now.0 now.1 marks.1.lost marks.1.is; dirty = ap is_dirty table; energy = λ fits. energy } }) commits powered synced
  ]

-- one that is replaced
module _ {R : Type 0} {g : _} (slot : R → ℕ → Slot) (a : Array R g) (new : Core R g) (sum : ℕ) (d : ℕ) (takes : Takes (shown_of_array slot a) (Replace d)) (same_setup : a.core.meta.setup ≡ a.setup) (energy : sum ≡ a.ledger.total)
    (later : HaveNotFallen (slot (core_rack a.core)) (slot (core_rack new))) (writes : new.meta.writes ≡ a.core.meta.writes) (table : new.dirty ≡ a.core.dirty) (powered : FitsSlots (slot (core_rack new)) new.meta) (synced : AreSlotsSynced new.meta (slot (core_rack new)))
    (no_disk : a.core.meta.setup.geometry.disks ≤ d → new ≡ a.core)
    (in_place : d < a.core.meta.setup.geometry.disks → named_out a.core.meta.out ≢ Some d → new ≡ a.core) where
  low_replace : d < a.core.meta.setup.geometry.disks → d < a.setup.geometry.disks
  low_replace under = subst (λ (z : Setup). d < z.geometry.disks) same_setup under

  still_replace : new ≡ a.core → IsUnchanged (shown_of_array slot a) (shown_with slot a.setup new sum (samples_held a.windows) (sample_of a.served) a.ended)
  still_replace same = unchanged_core slot a new sum same (λ fits. energy)

  out_test : (o : Option ℕ) → o ≡ Some d → is_out o d ≡ true
  out_test o e = rw e (same_test d d refl)

  in_test : (o : Option ℕ) → o ≢ Some d → is_out o d ≡ false
  in_test None not = refl
  in_test (Some x) not = by (d == x) refl
    where
      by : (t : Bool) → (d == x) ≡ t → is_out (Some x) d ≡ false
      by true e = absurd (not (ap (λ (y : ℕ). Some y) (sym (same_disk d x e))))
      by false e = e

  is_busy : d < a.core.meta.setup.geometry.disks → named_out a.core.meta.out ≡ Some d → quiet_answer (shown_of_array slot a) (Replace d) ≡ None
  is_busy under is = low_disks d a.setup.geometry.disks (if is_out (named_out a.core.meta.out) d then None else Some (NotOut d)) (Some (NoDisk d)) (low_replace under)
      ∙ ap (λ (t : Bool). if t then None else Some (NotOut d)) (out_test (named_out a.core.meta.out) is)

  replaces : (commits : ℕ) (state : Out) → IsReplacedFrom a.core.meta new.meta d commits state → Replaces (shown_of_array slot a) (shown_with slot a.setup new sum (samples_held a.windows) (sample_of a.served) a.ended) d state
  replaces commits state it = record {
    writes = writes;
    energy = λ fits. energy;
    is = subst (λ (n : Meta). n ≡ record (meta_after_loss a.core.meta d) { epoch = n.epoch; out = state; spins = n.spins }) (sym it.is) refl;
    cleared = it.cleared;
    others = it.others;
    dirty = ap is_dirty table;
  }

  replace_commits : (commits : ℕ) (state : Out) → commits ≤ 2 → IsReplacedFrom a.core.meta new.meta d commits state
      → CommitsFew (shown_of_array slot a) (shown_with slot a.setup new sum (samples_held a.windows) (sample_of a.served) a.ended) 2
  replace_commits commits state under it = commits_by (shown_of_array slot a) (shown_with slot a.setup new sum (samples_held a.windows) (sample_of a.served) a.ended) commits 2 under (ap (λ (m : Meta). m.epoch) it.is)

  pub replace_cause : (r : Option ReplaceFault) → halt_of_end a.ended ≡ None → IfSome r (IsReplaceRefused a.core.meta d)
      → (r ≡ None → (d < a.core.meta.setup.geometry.disks) × (named_out a.core.meta.out ≡ Some d) × IsReplacedFrom a.core.meta new.meta d 2 (Fresh d 0))
      → (r ≡ Some (NoFresh d) → HasRisen (slot (core_rack a.core) d).faults (slot (core_rack new) d).faults × (IsReplacedFrom a.core.meta new.meta d 1 (Gone d) ⊎ IsReplacedFrom a.core.meta new.meta d 2 (Gone d)))
      → HasCause (shown_of_array slot a) (Replace d) (replace_answer d r) (shown_with slot a.setup new sum (samples_held a.windows) (sample_of a.served) a.ended)
  replace_cause None going why there gone =
      let t = there refl in
      done_cause (shown_of_array slot a) (shown_with slot a.setup new sum (samples_held a.windows) (sample_of a.served) a.ended) (Replace d) takes (is_busy t.0 t.1) refl later (Replaced d) going (gear_going a.ended new.meta.gear) (record { samples = refl; served = refl })
      (refl, replaces 2 (Fresh d 0) t.2) (replace_commits 2 (Fresh d 0) (omega arith) t.2) powered synced
  replace_cause (Some (ReplaceNoDisk e)) going why there gone =
      still_cause (shown_of_array slot a) (shown_with slot a.setup new sum (samples_held a.windows) (sample_of a.served) a.ended) (Replace d) (NoDisk e) takes
      (past_disks d a.setup.geometry.disks (if is_out (named_out a.core.meta.out) d then None else Some (NotOut d)) (Some (NoDisk d)) (subst (λ (z : Setup). z.geometry.disks ≤ d) same_setup why.1) ∙ ap (λ (z : ℕ). Some (NoDisk z)) (sym why.0))
      (still_replace (no_disk why.1)) refl going (gear_going a.ended new.meta.gear) (record { samples = refl; served = refl }) later powered synced
  replace_cause (Some (ReplaceNotOut e)) going why there gone =
      still_cause (shown_of_array slot a) (shown_with slot a.setup new sum (samples_held a.windows) (sample_of a.served) a.ended) (Replace d) (NotOut e) takes
      (low_disks d a.setup.geometry.disks (if is_out (named_out a.core.meta.out) d then None else Some (NotOut d)) (Some (NoDisk d)) (low_replace why.1)
      ∙ ap (λ (t : Bool). if t then None else Some (NotOut d)) (in_test (named_out a.core.meta.out) why.2) ∙ ap (λ (z : ℕ). Some (NotOut z)) (sym why.0))
      (still_replace (in_place why.1 why.2)) refl going (gear_going a.ended new.meta.gear) (record { samples = refl; served = refl }) later powered synced
  replace_cause (Some (NoFresh e)) going why there gone =
      let t = gone (ap (λ (z : ℕ). Some (NoFresh z)) why.0) in
      done_cause (shown_of_array slot a) (shown_with slot a.setup new sum (samples_held a.windows) (sample_of a.served) a.ended) (Replace d) takes (is_busy why.1 why.2) refl later (NoFreshAnswer e) going (gear_going a.ended new.meta.gear) (record { samples = refl; served = refl })
      (why.0, t.0, elim t.1 [ inl once ↦ replaces 1 (Gone d) once | inr twice ↦ replaces 2 (Gone d) twice ])
      (elim t.1 [ inl once ↦ replace_commits 1 (Gone d) (omega arith) once | inr twice ↦ replace_commits 2 (Gone d) (omega arith) twice ]) powered synced

-- why a shift is refused by the machine, and the disks and phases that refuse it
up_or : (setup : Setup) (s : PowerState) (next : Option ℕ) (phase : Phase) (out : Out) → next_higher setup.geometry s.gear ≡ next → s.phase ≡ phase → s.out ≡ out
    → ((f : ShiftFault) × IsUpRefused setup s f × (up_refusal next s ≡ Some (fault_answer f))) ⊎ ((to : ℕ) × MayGoUp setup s to × (up_refusal next s ≡ None))
up_or setup s None phase out next_is phase_is out_is = inl (Top, next_is, refl)
up_or setup s (Some to) (DownPhase t) out next_is phase_is out_is = inl (Shifting t, (to, next_is, ((λ steady. let z : Steady ≡ DownPhase t = sym steady ∙ phase_is in cc), rw phase_is refl)), rw phase_is refl)
up_or setup s (Some to) (UpPhase t) out next_is phase_is out_is = inl (Shifting t, (to, next_is, ((λ steady. let z : Steady ≡ UpPhase t = sym steady ∙ phase_is in cc), rw phase_is refl)), rw phase_is refl)
up_or setup s (Some to) Steady (Gone d) next_is phase_is out_is = inl (ShiftOut d, (to, next_is, (phase_is, rw out_is refl)), rw (phase_is, out_is) refl)
up_or setup s (Some to) Steady (Fresh d u) next_is phase_is out_is = inl (ShiftOut d, (to, next_is, (phase_is, rw out_is refl)), rw (phase_is, out_is) refl)
up_or setup s (Some to) Steady No next_is phase_is out_is = inr (to, record { next = next_is; at_ease = record { steady = phase_is; whole = out_is } }, rw (phase_is, out_is) refl)

down_or : (setup : Setup) (s : PowerState) (next : Option ℕ) (phase : Phase) (out : Out) → next_lower setup.geometry s.gear ≡ next → s.phase ≡ phase → s.out ≡ out
    → ((f : ShiftFault) × IsDownRefused setup s f × (down_refusal setup next s ≡ Some (fault_answer f))) ⊎ ((to : ℕ) × MayGoDown setup s to × (down_refusal setup next s ≡ None))
down_or setup s None phase out next_is phase_is out_is = inl (Lowest, next_is, refl)
down_or setup s (Some to) (DownPhase t) out next_is phase_is out_is = inl (Shifting t, (to, next_is, ((λ steady. let z : Steady ≡ DownPhase t = sym steady ∙ phase_is in cc), rw phase_is refl)), rw phase_is refl)
down_or setup s (Some to) (UpPhase t) out next_is phase_is out_is = inl (Shifting t, (to, next_is, ((λ steady. let z : Steady ≡ UpPhase t = sym steady ∙ phase_is in cc), rw phase_is refl)), rw phase_is refl)
down_or setup s (Some to) Steady (Gone d) next_is phase_is out_is = inl (ShiftOut d, (to, next_is, (phase_is, rw out_is refl)), rw (phase_is, out_is) refl)
down_or setup s (Some to) Steady (Fresh d u) next_is phase_is out_is = inl (ShiftOut d, (to, next_is, (phase_is, rw out_is refl)), rw (phase_is, out_is) refl)
down_or setup s (Some to) Steady No next_is phase_is out_is = by (first_used_up setup s to) refl
  where
    by : (o : Option ℕ) → first_used_up setup s to ≡ o → ((f : ShiftFault) × IsDownRefused setup s f × (down_refusal setup (Some to) s ≡ Some (fault_answer f))) ⊎ ((t : ℕ) × MayGoDown setup s t × (down_refusal setup (Some to) s ≡ None))
    by None e = inr (to, record { next = next_is; at_ease = record { steady = phase_is; whole = out_is }; unworn = e }, rw (phase_is, out_is, e) refl)
    by (Some d) e = inl (Ration d, (to, next_is, record { steady = phase_is; whole = out_is }, e), rw (phase_is, out_is, e) refl)

no_out : (o : Out) → o ≡ No → named_out o ≡ None
no_out o e = rw e refl

-- what the marks of a begin leave of the meta
pub begun_meta : (o : Option ℕ) (m n : Meta) (phase : Phase) (spins : List ℕ) (epoch : ℕ) → n ≡ meta_with_lost o (record (meta_after_begin m phase spins) { epoch = epoch })
    → n ≡ record (meta_with_lost o (record m { phase = phase; fill = 0 })) { epoch = n.epoch; spins = n.spins }
begun_meta None m n phase spins epoch is = subst (λ (z : Meta). z ≡ record (meta_with_lost None (record m { phase = phase; fill = 0 })) { epoch = z.epoch; spins = z.spins }) (sym is) refl
begun_meta (Some d) m n phase spins epoch is = subst (λ (z : Meta). z ≡ record (meta_with_lost (Some d) (record m { phase = phase; fill = 0 })) { epoch = z.epoch; spins = z.spins }) (sym is) refl

pub begun_spins : (o : Option ℕ) (m n : Meta) → n ≡ meta_with_lost o m → n.spins ≡ m.spins
begun_spins None m n is = ap (λ (z : Meta). z.spins) is
begun_spins (Some d) m n is = ap (λ (z : Meta). z.spins) is

-- a disk that was lost is named out then
pub named_lost : (m n : Meta) (o : Option ℕ) → n ≡ meta_with_lost o m → (d : ℕ) → o ≡ Some d → named_out n.out ≡ Some d
named_lost m n o is d some = ap (λ (z : Meta). named_out z.out) (is ∙ ap (λ (x : Option ℕ). meta_with_lost x m) some)

-- the spin-ups of the disks that come up
pub raised_by : (gear to d now was : ℕ) → (gear ≤ d → d < to → now ≡ was + 1) → ((d < gear) ⊎ (to ≤ d) → now ≡ was) → now ≡ was + spins_up gear to d
raised_by gear to d now was raised others = by (nat_le gear d) (nat_lt d to) refl refl
  where
    by : (s t : Bool) → nat_le gear d ≡ s → nat_lt d to ≡ t → now ≡ was + spins_up gear to d
    by true true e f = rw (e, f) (raised (grind (e, arith, nat_tests)) (grind (f, arith, nat_tests)))
    by true false e f = rw (e, f) (others (inr (grind (f, arith, nat_tests))) ∙ plus_none was)
    by false true e f = rw e (others (inl (grind (e, arith, nat_tests))) ∙ plus_none was)
    by false false e f = rw e (others (inl (grind (e, arith, nat_tests))) ∙ plus_none was)

same_asked : (x : ShiftOutcome) (f : ShiftFault) → ◌≡◌ {A = Result ShiftOutcome Two} (Ok x) (Ok (Refused f)) → x ≡ Refused f
same_asked x f is = cc

fault_going : (f : ShiftFault) → halt_told (fault_answer f) ≡ None
fault_going Top = refl
fault_going Lowest = refl
fault_going (Shifting to) = refl
fault_going (ShiftOut d) = refl
fault_going (Ration d) = refl

pub asked_going : (gear : ℕ) (x : ShiftOutcome) → halt_told (asked_answer gear x) ≡ None
asked_going gear (Begun to) = refl
asked_going gear (Refused f) = fault_going f

-- neither counts a sample or a request
fault_counts : (f : ShiftFault) (x y : Shown) → HasCounted y x.samples x.served → Counts (fault_answer f) x y
fault_counts Top x y same = same
fault_counts Lowest x y same = same
fault_counts (Shifting to) x y same = same
fault_counts (ShiftOut d) x y same = same
fault_counts (Ration d) x y same = same

asked_counts : (gear : ℕ) (asked : ShiftOutcome) (x y : Shown) → HasCounted y x.samples x.served → Counts (asked_answer gear asked) x y
asked_counts gear (Begun to) x y same = same
asked_counts gear (Refused f) x y same = fault_counts f x y same

-- a shift that is asked for, by the clauses of its call
module _ {R : Type 0} {g : _} (slot : R → ℕ → Slot) (a : Array R g) (new : Core R g) (sum : ℕ) (same_setup : a.core.meta.setup ≡ a.setup) (going : halt_of_end a.ended ≡ None)
    (later : HaveNotFallen (slot (core_rack a.core)) (slot (core_rack new))) (writes : new.meta.writes ≡ a.core.meta.writes) (x : ShiftOutcome)
    (energy : sum ≡ min (a.ledger.total + asked_energy a.setup a.core.meta.gear x) 18446744073709551615)
    (failed : named_out a.core.meta.out ≡ None → (d : ℕ) → named_out new.meta.out ≡ Some d → HasRisen (slot (core_rack a.core) d).faults (slot (core_rack new) d).faults)
    (table : new.dirty ≡ a.core.dirty) (commits : CommitsFew (shown_of_array slot a) (shown_with slot a.setup new sum (samples_held a.windows) (sample_of a.served) a.ended) 2) (powered : FitsSlots (slot (core_rack new)) new.meta) (synced : AreSlotsSynced new.meta (slot (core_rack new))) where
  uses_nothing : asked_energy a.setup a.core.meta.gear x ≡ 0 → KeepsEnergy (shown_of_array slot a) (shown_with slot a.setup new sum (samples_held a.windows) (sample_of a.served) a.ended)
  uses_nothing none fits = energy ∙ ap (λ (n : ℕ). min (a.ledger.total + n) 18446744073709551615) none ∙ sym (by a.ledger.total fits)
    where
      by : (n : ℕ) → n ≤ 18446744073709551615 → n ≡ min (n + 0) 18446744073709551615
      by n l = grind (arith)

  refused_cause : (event : Event) → Takes (shown_of_array slot a) event → (f : ShiftFault) → x ≡ Refused f → new ≡ a.core → quiet_answer (shown_of_array slot a) event ≡ Some (fault_answer f)
      → HasCause (shown_of_array slot a) event (asked_answer a.core.meta.gear x) (shown_with slot a.setup new sum (samples_held a.windows) (sample_of a.served) a.ended)
  refused_cause event takes f is same quiet =
      subst (λ (z : Answer). HasCause (shown_of_array slot a) event z (shown_with slot a.setup new sum (samples_held a.windows) (sample_of a.served) a.ended)) (sym (ap (asked_answer a.core.meta.gear) is))
      (still_cause (shown_of_array slot a) (shown_with slot a.setup new sum (samples_held a.windows) (sample_of a.served) a.ended) event (fault_answer f) takes quiet (unchanged_core slot a new sum same (uses_nothing (ap (asked_energy a.setup a.core.meta.gear) is))) refl (going ∙ sym (fault_going f)) (gear_going a.ended new.meta.gear) (fault_counts f (shown_of_array slot a) (shown_with slot a.setup new sum (samples_held a.windows) (sample_of a.served) a.ended) (record { samples = refl; served = refl })) later powered synced)

  -- what has begun by the meta
  begins_by : (m : Meta) (phase : Phase) (spins : List ℕ) (epoch : ℕ) (raised : ℕ → ℕ) → IsMarkedFrom (record (meta_after_begin m phase spins) { epoch = epoch }) new.meta → named_out a.core.meta.out ≡ None
      → (e : ℕ) → m ≡ record a.core.meta { epoch = e } → ((d : ℕ) → slice_index spins d ≡ slice_index a.core.meta.spins d + raised d)
      → Begins (shown_of_array slot a) (shown_with slot a.setup new sum (samples_held a.windows) (sample_of a.served) a.ended) phase raised
  begins_by m phase spins epoch raised marked none e same counts = record {
    lost = marked.lost;
    is = begun_meta marked.lost a.core.meta new.meta phase spins epoch (marked.is ∙ ap (λ (z : Meta). meta_with_lost marked.lost (record (meta_after_begin z phase spins) { epoch = epoch })) same);
    failed = λ d some. failed none d (named_lost (record (meta_after_begin m phase spins) { epoch = epoch }) new.meta marked.lost marked.is d some);
    spins = λ d. ap (λ (l : List ℕ). slice_index l d) (begun_spins marked.lost (record (meta_after_begin m phase spins) { epoch = epoch }) new.meta marked.is) ∙ counts d;
    dirty = ap is_dirty table;
  }

  begun_does : (next : Option ℕ) (B : ℕ → Type 0) (to : ℕ) → next ≡ Some to → named_out a.core.meta.out ≡ None → (y : ShiftOutcome) → x ≡ y → HasBegunOrLost new.meta to y
      → ((t : ℕ) → y ≡ Begun t → B t) → ((f : ShiftFault) → y ≡ Refused f → (e : ℕ) × IsMarkedFrom (record a.core.meta { epoch = e }) new.meta)
      → DoesShift next B (shown_of_array slot a) (shown_with slot a.setup new sum (samples_held a.windows) (sample_of a.served) a.ended) (asked_answer a.core.meta.gear y)
  begun_does next B to is none (Begun t) same why begun stopped =
      (begun t refl, refl, is ∙ ap (λ (n : ℕ). Some n) (sym why), writes, energy ∙ ap (λ (z : ShiftOutcome). min (a.ledger.total + asked_energy a.setup a.core.meta.gear z) 18446744073709551615) same)
  begun_does next B to is none (Refused f) same why begun stopped =
      let marked = stopped f refl in
      subst (λ (z : ShiftFault). DoesShift next B (shown_of_array slot a) (shown_with slot a.setup new sum (samples_held a.windows) (sample_of a.served) a.ended) (fault_answer z)) (sym why.1)
      (record {
        none = none;
        failed = failed none why.0 why.2;
        marks = record {
          is = lost_meta a.core.meta new.meta marked.0 why.0 none why.2 marked.1.lost marked.1.is;
          dirty = ap is_dirty table;
          energy = uses_nothing (ap (asked_energy a.setup a.core.meta.gear) same);
        };
      })

  up_begins : named_out a.core.meta.out ≡ None → HasMarkedUp a.core.meta new.meta x → (t : ℕ) → x ≡ Begun t → Begins (shown_of_array slot a) (shown_with slot a.setup new sum (samples_held a.windows) (sample_of a.served) a.ended) (UpPhase t) (spins_up a.core.meta.gear t)
  up_begins none marks t is =
      let w : HasMarkedUp a.core.meta new.meta (Begun t) = subst (HasMarkedUp a.core.meta new.meta) is marks in
      begins_by (record a.core.meta { epoch = w.0 }) (UpPhase t) w.1.spins (w.0 + 1) (spins_up a.core.meta.gear t) w.1.is none w.0 refl
      (λ d. raised_by a.core.meta.gear t d (slice_index w.1.spins d) (slice_index a.core.meta.spins d) (w.1.raised d) (w.1.others d))

  down_begins : named_out a.core.meta.out ≡ None → HasMarkedDown a.core.meta new.meta x → (t : ℕ) → x ≡ Begun t → Begins (shown_of_array slot a) (shown_with slot a.setup new sum (samples_held a.windows) (sample_of a.served) a.ended) (DownPhase t) (λ d. 0)
  down_begins none marks t is =
      let w : HasMarkedDown a.core.meta new.meta (Begun t) = subst (HasMarkedDown a.core.meta new.meta) is marks in
      begins_by a.core.meta (DownPhase t) a.core.meta.spins w.0 (λ d. 0) w.1 none a.core.meta.epoch refl (λ d. plus_none (slice_index a.core.meta.spins d))

  up_stops : HasMarkedUp a.core.meta new.meta x → (f : ShiftFault) → x ≡ Refused f → (e : ℕ) × IsMarkedFrom (record a.core.meta { epoch = e }) new.meta
  up_stops marks f is = subst (HasMarkedUp a.core.meta new.meta) is marks

  down_stops : HasMarkedDown a.core.meta new.meta x → (f : ShiftFault) → x ≡ Refused f → (e : ℕ) × IsMarkedFrom (record a.core.meta { epoch = e }) new.meta
  down_stops marks f is = subst (HasMarkedDown a.core.meta new.meta) is marks

  up_cause : Takes (shown_of_array slot a) UpEvent → ((f : ShiftFault) (s : PowerState) → IsShiftStateOf a.core.meta s → IsUpRefused a.core.meta.setup s f → ◌≡◌ {A = Result ShiftOutcome Two} (Ok x) (Ok (Refused f)) × (new ≡ a.core))
      → ((to : ℕ) (s : PowerState) → IsShiftStateOf a.core.meta s → MayGoUp a.core.meta.setup s to → HasBegunOrLost new.meta to x) → HasMarkedUp a.core.meta new.meta x → HasCause (shown_of_array slot a) UpEvent (asked_answer a.core.meta.gear x) (shown_with slot a.setup new sum (samples_held a.windows) (sample_of a.served) a.ended)
  up_cause takes refused begins marks =
      let s : PowerState = state_shown (shown_of_array slot a) in
      let of : IsShiftStateOf a.core.meta s = record { gear = refl; phase = refl; out = refl; spins = refl; ticks = refl } in
      elim (up_or a.setup s (next_higher a.setup.geometry s.gear) s.phase s.out refl refl refl) [
        | inl why ↦
            let both = refused why.0 s of (subst (λ (z : Setup). IsUpRefused z s why.0) (sym same_setup) why.1) in
            refused_cause UpEvent takes why.0 (same_asked x why.0 both.0) both.1 why.2
        | inr goes ↦
            done_cause (shown_of_array slot a) (shown_with slot a.setup new sum (samples_held a.windows) (sample_of a.served) a.ended) UpEvent takes goes.2 refl later (asked_answer a.core.meta.gear x) (going ∙ sym (asked_going a.core.meta.gear x)) (gear_going a.ended new.meta.gear)
            (asked_counts a.core.meta.gear x (shown_of_array slot a) (shown_with slot a.setup new sum (samples_held a.windows) (sample_of a.served) a.ended) (record { samples = refl; served = refl }))
            (begun_does (next_higher a.setup.geometry a.core.meta.gear) (λ to. Begins (shown_of_array slot a) (shown_with slot a.setup new sum (samples_held a.windows) (sample_of a.served) a.ended) (UpPhase to) (spins_up a.core.meta.gear to)) goes.0 goes.1.next (no_out a.core.meta.out goes.1.at_ease.whole) x refl (begins goes.0 s of (subst (λ (z : Setup). MayGoUp z s goes.0) (sym same_setup) goes.1))
            (up_begins (no_out a.core.meta.out goes.1.at_ease.whole) marks) (up_stops marks)) commits powered synced
      ]

  down_cause : Takes (shown_of_array slot a) DownEvent → ((f : ShiftFault) (s : PowerState) → IsShiftStateOf a.core.meta s → IsDownRefused a.core.meta.setup s f → ◌≡◌ {A = Result ShiftOutcome Two} (Ok x) (Ok (Refused f)) × (new ≡ a.core))
      → ((to : ℕ) (s : PowerState) → IsShiftStateOf a.core.meta s → MayGoDown a.core.meta.setup s to → HasBegunOrLost new.meta to x) → HasMarkedDown a.core.meta new.meta x → HasCause (shown_of_array slot a) DownEvent (asked_answer a.core.meta.gear x) (shown_with slot a.setup new sum (samples_held a.windows) (sample_of a.served) a.ended)
  down_cause takes refused begins marks =
      let s : PowerState = state_shown (shown_of_array slot a) in
      let of : IsShiftStateOf a.core.meta s = record { gear = refl; phase = refl; out = refl; spins = refl; ticks = refl } in
      elim (down_or a.setup s (next_lower a.setup.geometry s.gear) s.phase s.out refl refl refl) [
        | inl why ↦
            let both = refused why.0 s of (subst (λ (z : Setup). IsDownRefused z s why.0) (sym same_setup) why.1) in
            refused_cause DownEvent takes why.0 (same_asked x why.0 both.0) both.1 why.2
        | inr goes ↦
            done_cause (shown_of_array slot a) (shown_with slot a.setup new sum (samples_held a.windows) (sample_of a.served) a.ended) DownEvent takes goes.2 refl later (asked_answer a.core.meta.gear x) (going ∙ sym (asked_going a.core.meta.gear x)) (gear_going a.ended new.meta.gear)
            (asked_counts a.core.meta.gear x (shown_of_array slot a) (shown_with slot a.setup new sum (samples_held a.windows) (sample_of a.served) a.ended) (record { samples = refl; served = refl }))
            (begun_does (next_lower a.setup.geometry a.core.meta.gear) (λ to. Begins (shown_of_array slot a) (shown_with slot a.setup new sum (samples_held a.windows) (sample_of a.served) a.ended) (DownPhase to) (λ d. 0)) goes.0 goes.1.next (no_out a.core.meta.out goes.1.at_ease.whole) x refl (begins goes.0 s of (subst (λ (z : Setup). MayGoDown z s goes.0) (sym same_setup) goes.1))
            (down_begins (no_out a.core.meta.out goes.1.at_ease.whole) marks) (down_stops marks)) commits powered synced
      ]

  -- by the direction of the shift
  pub asked_cause : (direction : Direction) → Takes (shown_of_array slot a) (asked_event direction) → ((f : ShiftFault) (s : PowerState) → IsShiftStateOf a.core.meta s → IsRefusedTo direction a.core.meta.setup s f → ◌≡◌ {A = Result ShiftOutcome Two} (Ok x) (Ok (Refused f)) × (new ≡ a.core))
      → ((to : ℕ) (s : PowerState) → IsShiftStateOf a.core.meta s → MayGo direction a.core.meta.setup s to → HasBegunOrLost new.meta to x) → HasMarkedShift direction a.core.meta new.meta x
      → HasCause (shown_of_array slot a) (asked_event direction) (asked_answer a.core.meta.gear x) (shown_with slot a.setup new sum (samples_held a.windows) (sample_of a.served) a.ended)
  asked_cause Upward takes refused begins marks = up_cause takes refused begins marks
  asked_cause Downward takes refused begins marks = down_cause takes refused begins marks

err_not_ok : {A : Type 0} (two : Two) (x : A) → ◌≡◌ {A = Result A Two} (Err two) (Ok x) → ⊥
err_not_ok two x is = cc

below_or : (d n : ℕ) → (d < n) ⊎ (n ≤ d)
below_or d n = by (nat_lt d n) refl
  where
    by : (t : Bool) → nat_lt d n ≡ t → (d < n) ⊎ (n ≤ d)
    by true e = inl (grind (e, arith, nat_tests))
    by false e = inr (grind (e, arith, nat_tests))

-- where two disks were lost, the event was not one for which nothing is done
module _ {R : Type 0} {g : _} (slot : R → ℕ → Slot) (a : Array R g) (same_setup : a.core.meta.setup ≡ a.setup) (two : Two) where
  up_busy : (B : ShiftFault → Type 0) → ((f : ShiftFault) (s : PowerState) → IsShiftStateOf a.core.meta s → IsUpRefused a.core.meta.setup s f → ◌≡◌ {A = Result ShiftOutcome Two} (Err two) (Ok (Refused f)) × B f)
      → quiet_answer (shown_of_array slot a) UpEvent ≡ None
  up_busy B refused =
      let s : PowerState = state_shown (shown_of_array slot a) in
      elim (up_or a.setup s (next_higher a.setup.geometry s.gear) s.phase s.out refl refl refl) [
        | inl why ↦ absurd (err_not_ok two (Refused why.0) (refused why.0 s (record { gear = refl; phase = refl; out = refl; spins = refl; ticks = refl }) (subst (λ (z : Setup). IsUpRefused z s why.0) (sym same_setup) why.1)).0)
        | inr goes ↦ goes.2
      ]

  down_busy : (B : ShiftFault → Type 0) → ((f : ShiftFault) (s : PowerState) → IsShiftStateOf a.core.meta s → IsDownRefused a.core.meta.setup s f → ◌≡◌ {A = Result ShiftOutcome Two} (Err two) (Ok (Refused f)) × B f)
      → quiet_answer (shown_of_array slot a) DownEvent ≡ None
  down_busy B refused =
      let s : PowerState = state_shown (shown_of_array slot a) in
      elim (down_or a.setup s (next_lower a.setup.geometry s.gear) s.phase s.out refl refl refl) [
        | inl why ↦ absurd (err_not_ok two (Refused why.0) (refused why.0 s (record { gear = refl; phase = refl; out = refl; spins = refl; ticks = refl }) (subst (λ (z : Setup). IsDownRefused z s why.0) (sym same_setup) why.1)).0)
        | inr goes ↦ goes.2
      ]

  pub asked_busy : (direction : Direction) (B : ShiftFault → Type 0) → ((f : ShiftFault) (s : PowerState) → IsShiftStateOf a.core.meta s → IsRefusedTo direction a.core.meta.setup s f → ◌≡◌ {A = Result ShiftOutcome Two} (Err two) (Ok (Refused f)) × B f)
      → quiet_answer (shown_of_array slot a) (asked_event direction) ≡ None
  asked_busy Upward B refused = up_busy B refused
  asked_busy Downward B refused = down_busy B refused

  pub fail_busy : (d : ℕ) (B : Type 0) → (a.core.meta.setup.geometry.disks ≤ d → ◌≡◌ {A = Result (Option FailFault) Two} (Err two) (Ok (Some (FailNoDisk d))) × B)
      → ((e : ℕ) → d < a.core.meta.setup.geometry.disks → named_out a.core.meta.out ≡ Some e → ◌≡◌ {A = Result (Option FailFault) Two} (Err two) (Ok (Some (FailOut e))) × B) → quiet_answer (shown_of_array slot a) (Fail d) ≡ None
  fail_busy d B no_disk out = elim (below_or d a.core.meta.setup.geometry.disks) [
    | inl low ↦ low_disks d a.setup.geometry.disks (out_refusal a.core.meta.out) (Some (NoDisk d)) (subst (λ (z : Setup). d < z.geometry.disks) same_setup low) ∙ no_refusal a.core.meta.out (by low (named_out a.core.meta.out) refl)
    | inr high ↦ absurd (err_not_ok two (Some (FailNoDisk d)) (no_disk high).0)
  ]
    where
      by : d < a.core.meta.setup.geometry.disks → (o : Option ℕ) → named_out a.core.meta.out ≡ o → named_out a.core.meta.out ≡ None
      by low None e = e
      by low (Some x) e = absurd (err_not_ok two (Some (FailOut x)) (out x low e).0)

  pub replace_busy : (d : ℕ) (B : Type 0) → (a.core.meta.setup.geometry.disks ≤ d → ◌≡◌ {A = Result (Option ReplaceFault) Two} (Err two) (Ok (Some (ReplaceNoDisk d))) × B)
      → (d < a.core.meta.setup.geometry.disks → named_out a.core.meta.out ≢ Some d → ◌≡◌ {A = Result (Option ReplaceFault) Two} (Err two) (Ok (Some (ReplaceNotOut d))) × B) → quiet_answer (shown_of_array slot a) (Replace d) ≡ None
  replace_busy d B no_disk in_place = elim (below_or d a.core.meta.setup.geometry.disks) [
    | inl low ↦ low_disks d a.setup.geometry.disks (if is_out (named_out a.core.meta.out) d then None else Some (NotOut d)) (Some (NoDisk d)) (subst (λ (z : Setup). d < z.geometry.disks) same_setup low)
        ∙ ap (λ (t : Bool). if t then None else Some (NotOut d)) (by low (is_out (named_out a.core.meta.out) d) refl)
    | inr high ↦ absurd (err_not_ok two (Some (ReplaceNoDisk d)) (no_disk high).0)
  ]
    where
      by : d < a.core.meta.setup.geometry.disks → (t : Bool) → is_out (named_out a.core.meta.out) d ≡ t → is_out (named_out a.core.meta.out) d ≡ true
      by low true e = e
      by low false e = absurd (err_not_ok two (Some (ReplaceNotOut d)) (in_place low (λ is. let z : true ≡ false = sym (ap (λ (o : Option ℕ). is_out o d) is ∙ same_test d d refl) ∙ e in cc)).0)

-- the state that an array of so many disks tells
pub state_answer : (n disks : ℕ) (status shown : Status) → shown ≡ status → disks ≡ n → Some (IsState status n) ≡ Some (IsState shown disks)
state_answer n disks status shown same few = rw (same, few) refl
