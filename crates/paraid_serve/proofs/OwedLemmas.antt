-- What an array owes of an answer beside its cause follows from the cause: the answer is of the event's kind, tells no more than
-- eight disks, and tells a halt only where the array has halted by it.
use Rattle.std.specs.Prelude.{nat_lt}
use Rattle.std.proofs.Common.{◌≡◌, ◌≢◌, ℕ, ◌==◌, true, false, Bool, [], ◌∷◌, Option, Some, None, refl, sym, ap, ◌∙◌, subst, arith, if◌then◌else◌}
use Rattle.std.proofs.lemmas.Bool.Decides.{nat_tests}
use Rattle.paraid_base.specs.declared.event.Answer.{Answer}
use Rattle.paraid_base.specs.declared.pairs.Pairs.{Pairs}
use Rattle.paraid_base.specs.declared.event.Answer.TheVariants.{Value, NoBlock, Wrote, Flushed, Ticked, Shift, Top, Lowest, Shifting, Failed, Replaced, NoDisk, Out as IsOut, NotOut, NoFresh, Ration as RationUsed, State as IsState, Energy as EnergyUsed, Bad as IsBad, Halted}
use Rattle.paraid_base.specs.declared.event.Event.{Event}
use Rattle.paraid_base.specs.declared.event.Event.TheVariants.{Read, Write, Flush, Tick, Up, Down, Fail, Replace, State as AskState, Energy as AskEnergy, Bad}
use Rattle.paraid_base.specs.declared.fault.Halt.{Halt}
use Rattle.paraid_base.specs.declared.fault.Halt.TheVariants.{Two as HaltTwo, Worn}
use Rattle.paraid_base.specs.declared.fault.Two.{Two}
use Rattle.paraid_base.specs.declared.state.Out.{Out}
use Rattle.paraid_base.specs.declared.state.Out.TheVariants.{No, Gone, Fresh}
use Rattle.paraid_base.specs.declared.state.Phase.{Phase}
use Rattle.paraid_base.specs.declared.state.Phase.TheVariants.{Steady as IsSteady, Down as IsDown, Up as IsUp}
use Rattle.paraid_base.specs.Gears.{next_higher, next_lower}
use Rattle.paraid_image.specs.Out.{is_out, named_out}
use Rattle.paraid_machine.specs.Machine.{block_count, first_missing, out_refusal, ration_refusal, refusal_else, shift_refusal}
use Rattle.paraid_machine.specs.Moves.{first_used_up}
use Rattle.paraid_rack.specs.Slots.{Slot}
use Rattle.paraid_session.specs.Faults.{HaveNotFallen}
use Rattle.paraid_session.specs.Turn.{halt_told, may_halt}
use Rattle.paraid_trace.specs.Replies.{HasFewDisks}
use Rattle.paraid_serve.specs.declared.serves.Serves.{Ghosts}
use Rattle.paraid_serve.specs.Causes.{Does, DoesFail, DoesFlush, DoesRead, DoesReplace, DoesShift, DoesTick, DoesWrite, HasCause, HasReason, Shown, Shows, down_refusal, missing_answer, quiet_answer, state_shown, up_refusal}
use Rattle.paraid_serve.specs.Causes.HasReason.{again, bad, done, quiet, two, worn}
use Rattle.paraid_serve.specs.Kinds.{is_answer_to, is_down_answer, is_fail_answer, is_flush_answer, is_read_answer, is_replace_answer, is_tick_answer, is_up_answer, is_write_answer}
use Rattle.paraid_serve.specs.Lost.{AreTwoLost, HaltsByTwoLost}
use Rattle.paraid_serve.proofs.CauseLaws.{missing_one}

same_number : (a b : ℕ) → a ≡ b → (a == b) ≡ true
same_number a b e = grind (e, arith, nat_tests)

-- an answer that tells no halt, and no more than eight disks
abbrev Tells : Bool → Answer → Type 0
Tells kind answer = (kind ≡ true) × (halt_told answer ≡ None) × HasFewDisks answer

read_tells : (block : ℕ) (old new : Shown) (answer : Answer) → DoesRead block old new answer → Tells (is_read_answer block answer) answer
read_tells block old new (Value b bytes) d = (same_number b block d.0, refl, tt)
read_tells block old new (NoBlock b) d = absurd d
read_tells block old new (Wrote n) d = absurd d
read_tells block old new (Flushed n) d = absurd d
read_tells block old new (Ticked report) d = absurd d
read_tells block old new (Shift gear to) d = absurd d
read_tells block old new Top d = absurd d
read_tells block old new Lowest d = absurd d
read_tells block old new (Shifting to) d = absurd d
read_tells block old new (Failed x) d = absurd d
read_tells block old new (Replaced x) d = absurd d
read_tells block old new (NoDisk x) d = absurd d
read_tells block old new (IsOut x) d = absurd d
read_tells block old new (NotOut x) d = absurd d
read_tells block old new (NoFresh x) d = absurd d
read_tells block old new (RationUsed x) d = absurd d
read_tells block old new (IsState status disks) d = absurd d
read_tells block old new (EnergyUsed total) d = absurd d
read_tells block old new IsBad d = absurd d
read_tells block old new (Halted halt) d = absurd d

write_tells : (pairs : Pairs) (old new : Shown) (answer : Answer) → DoesWrite pairs old new answer → Tells (is_write_answer answer) answer
write_tells pairs old new (Value b bytes) d = absurd d
write_tells pairs old new (NoBlock b) d = absurd d
write_tells pairs old new (Wrote n) d = (refl, refl, tt)
write_tells pairs old new (Flushed n) d = absurd d
write_tells pairs old new (Ticked report) d = absurd d
write_tells pairs old new (Shift gear to) d = absurd d
write_tells pairs old new Top d = absurd d
write_tells pairs old new Lowest d = absurd d
write_tells pairs old new (Shifting to) d = absurd d
write_tells pairs old new (Failed x) d = absurd d
write_tells pairs old new (Replaced x) d = absurd d
write_tells pairs old new (NoDisk x) d = absurd d
write_tells pairs old new (IsOut x) d = absurd d
write_tells pairs old new (NotOut x) d = absurd d
write_tells pairs old new (NoFresh x) d = absurd d
write_tells pairs old new (RationUsed x) d = absurd d
write_tells pairs old new (IsState status disks) d = absurd d
write_tells pairs old new (EnergyUsed total) d = absurd d
write_tells pairs old new IsBad d = absurd d
write_tells pairs old new (Halted halt) d = absurd d

flush_tells : (old new : Shown) (answer : Answer) → DoesFlush old new answer → Tells (is_flush_answer answer) answer
flush_tells old new (Value b bytes) d = absurd d
flush_tells old new (NoBlock b) d = absurd d
flush_tells old new (Wrote n) d = absurd d
flush_tells old new (Flushed n) d = (refl, refl, tt)
flush_tells old new (Ticked report) d = absurd d
flush_tells old new (Shift gear to) d = absurd d
flush_tells old new Top d = absurd d
flush_tells old new Lowest d = absurd d
flush_tells old new (Shifting to) d = absurd d
flush_tells old new (Failed x) d = absurd d
flush_tells old new (Replaced x) d = absurd d
flush_tells old new (NoDisk x) d = absurd d
flush_tells old new (IsOut x) d = absurd d
flush_tells old new (NotOut x) d = absurd d
flush_tells old new (NoFresh x) d = absurd d
flush_tells old new (RationUsed x) d = absurd d
flush_tells old new (IsState status disks) d = absurd d
flush_tells old new (EnergyUsed total) d = absurd d
flush_tells old new IsBad d = absurd d
flush_tells old new (Halted halt) d = absurd d

tick_tells : (old new : Shown) (answer : Answer) → DoesTick old new answer → Tells (is_tick_answer answer) answer
tick_tells old new (Value b bytes) d = absurd d
tick_tells old new (NoBlock b) d = absurd d
tick_tells old new (Wrote n) d = absurd d
tick_tells old new (Flushed n) d = absurd d
tick_tells old new (Ticked report) d = (refl, refl, tt)
tick_tells old new (Shift gear to) d = absurd d
tick_tells old new Top d = absurd d
tick_tells old new Lowest d = absurd d
tick_tells old new (Shifting to) d = absurd d
tick_tells old new (Failed x) d = absurd d
tick_tells old new (Replaced x) d = absurd d
tick_tells old new (NoDisk x) d = absurd d
tick_tells old new (IsOut x) d = absurd d
tick_tells old new (NotOut x) d = absurd d
tick_tells old new (NoFresh x) d = absurd d
tick_tells old new (RationUsed x) d = absurd d
tick_tells old new (IsState status disks) d = absurd d
tick_tells old new (EnergyUsed total) d = absurd d
tick_tells old new IsBad d = absurd d
tick_tells old new (Halted halt) d = absurd d

up_tells : (next : Option ℕ) (begins : ℕ → Type 0) (old new : Shown) (answer : Answer) → DoesShift next begins old new answer → Tells (is_up_answer answer) answer
up_tells next begins old new (Value b bytes) d = absurd d
up_tells next begins old new (NoBlock b) d = absurd d
up_tells next begins old new (Wrote n) d = absurd d
up_tells next begins old new (Flushed n) d = absurd d
up_tells next begins old new (Ticked report) d = absurd d
up_tells next begins old new (Shift gear to) d = (refl, refl, tt)
up_tells next begins old new Top d = absurd d
up_tells next begins old new Lowest d = absurd d
up_tells next begins old new (Shifting to) d = absurd d
up_tells next begins old new (Failed x) d = absurd d
up_tells next begins old new (Replaced x) d = absurd d
up_tells next begins old new (NoDisk x) d = absurd d
up_tells next begins old new (IsOut x) d = (refl, refl, tt)
up_tells next begins old new (NotOut x) d = absurd d
up_tells next begins old new (NoFresh x) d = absurd d
up_tells next begins old new (RationUsed x) d = absurd d
up_tells next begins old new (IsState status disks) d = absurd d
up_tells next begins old new (EnergyUsed total) d = absurd d
up_tells next begins old new IsBad d = absurd d
up_tells next begins old new (Halted halt) d = absurd d

down_tells : (next : Option ℕ) (begins : ℕ → Type 0) (old new : Shown) (answer : Answer) → DoesShift next begins old new answer → Tells (is_down_answer answer) answer
down_tells next begins old new (Value b bytes) d = absurd d
down_tells next begins old new (NoBlock b) d = absurd d
down_tells next begins old new (Wrote n) d = absurd d
down_tells next begins old new (Flushed n) d = absurd d
down_tells next begins old new (Ticked report) d = absurd d
down_tells next begins old new (Shift gear to) d = (refl, refl, tt)
down_tells next begins old new Top d = absurd d
down_tells next begins old new Lowest d = absurd d
down_tells next begins old new (Shifting to) d = absurd d
down_tells next begins old new (Failed x) d = absurd d
down_tells next begins old new (Replaced x) d = absurd d
down_tells next begins old new (NoDisk x) d = absurd d
down_tells next begins old new (IsOut x) d = (refl, refl, tt)
down_tells next begins old new (NotOut x) d = absurd d
down_tells next begins old new (NoFresh x) d = absurd d
down_tells next begins old new (RationUsed x) d = absurd d
down_tells next begins old new (IsState status disks) d = absurd d
down_tells next begins old new (EnergyUsed total) d = absurd d
down_tells next begins old new IsBad d = absurd d
down_tells next begins old new (Halted halt) d = absurd d

fail_tells : (disk : ℕ) (old new : Shown) (answer : Answer) → DoesFail disk old new answer → Tells (is_fail_answer disk answer) answer
fail_tells disk old new (Value b bytes) d = absurd d
fail_tells disk old new (NoBlock b) d = absurd d
fail_tells disk old new (Wrote n) d = absurd d
fail_tells disk old new (Flushed n) d = absurd d
fail_tells disk old new (Ticked report) d = absurd d
fail_tells disk old new (Shift gear to) d = absurd d
fail_tells disk old new Top d = absurd d
fail_tells disk old new Lowest d = absurd d
fail_tells disk old new (Shifting to) d = absurd d
fail_tells disk old new (Failed x) d = (same_number x disk d.0, refl, tt)
fail_tells disk old new (Replaced x) d = absurd d
fail_tells disk old new (NoDisk x) d = absurd d
fail_tells disk old new (IsOut x) d = (refl, refl, tt)
fail_tells disk old new (NotOut x) d = absurd d
fail_tells disk old new (NoFresh x) d = absurd d
fail_tells disk old new (RationUsed x) d = absurd d
fail_tells disk old new (IsState status disks) d = absurd d
fail_tells disk old new (EnergyUsed total) d = absurd d
fail_tells disk old new IsBad d = absurd d
fail_tells disk old new (Halted halt) d = absurd d

replace_tells : (disk : ℕ) (old new : Shown) (answer : Answer) → DoesReplace disk old new answer → Tells (is_replace_answer disk answer) answer
replace_tells disk old new (Value b bytes) d = absurd d
replace_tells disk old new (NoBlock b) d = absurd d
replace_tells disk old new (Wrote n) d = absurd d
replace_tells disk old new (Flushed n) d = absurd d
replace_tells disk old new (Ticked report) d = absurd d
replace_tells disk old new (Shift gear to) d = absurd d
replace_tells disk old new Top d = absurd d
replace_tells disk old new Lowest d = absurd d
replace_tells disk old new (Shifting to) d = absurd d
replace_tells disk old new (Failed x) d = absurd d
replace_tells disk old new (Replaced x) d = (same_number x disk d.0, refl, tt)
replace_tells disk old new (NoDisk x) d = absurd d
replace_tells disk old new (IsOut x) d = absurd d
replace_tells disk old new (NotOut x) d = absurd d
replace_tells disk old new (NoFresh x) d = (same_number x disk d.0, refl, tt)
replace_tells disk old new (RationUsed x) d = absurd d
replace_tells disk old new (IsState status disks) d = absurd d
replace_tells disk old new (EnergyUsed total) d = absurd d
replace_tells disk old new IsBad d = absurd d
replace_tells disk old new (Halted halt) d = absurd d

does_tells : (old new : Shown) (event : Event) (answer : Answer) → Does old event answer new → Tells (is_answer_to event answer) answer
does_tells old new (Read block) answer d = read_tells block old new answer d
does_tells old new (Write pairs) answer d = write_tells pairs old new answer d
does_tells old new Flush answer d = flush_tells old new answer d
does_tells old new Tick answer d = tick_tells old new answer d
does_tells old new Up answer d = up_tells _ _ old new answer d
does_tells old new Down answer d = down_tells _ _ old new answer d
does_tells old new (Fail disk) answer d = fail_tells disk old new answer d
does_tells old new (Replace disk) answer d = replace_tells disk old new answer d
does_tells old new AskState answer d = absurd d
does_tells old new AskEnergy answer d = absurd d
does_tells old new Bad answer d = absurd d

-- of an answer that is known
known : (kind : Answer → Bool) (told answer : Answer) → Some told ≡ Some answer → Tells (kind told) told → Tells (kind answer) answer
known kind told answer is t = let one : told ≡ answer = cc in subst (λ (x : Answer). Tells (kind x) x) one t

no_answer : (kind : Answer → Bool) (answer : Answer) → None ≡ Some answer → Tells (kind answer) answer
no_answer kind answer is = absurd cc

missing_tells : (kind : Answer → Bool) (o : Option ℕ) (answer : Answer) → ((block : ℕ) → o ≡ Some block → kind (NoBlock block) ≡ true) → missing_answer o ≡ Some answer → Tells (kind answer) answer
missing_tells kind None answer holds is = no_answer kind answer is
missing_tells kind (Some block) answer holds is = known kind (NoBlock block) answer is (holds block refl, refl, tt)

out_tells : (kind : Answer → Bool) → ((d : ℕ) → kind (IsOut d) ≡ true) → (out : Out) (answer : Answer) → out_refusal out ≡ Some answer → Tells (kind answer) answer
out_tells kind holds No answer is = no_answer kind answer is
out_tells kind holds (Gone d) answer is = known kind (IsOut d) answer is (holds d, refl, tt)
out_tells kind holds (Fresh d rebuilt) answer is = known kind (IsOut d) answer is (holds d, refl, tt)

shift_tells : (kind : Answer → Bool) → ((d : ℕ) → kind (IsOut d) ≡ true) → ((to : ℕ) → kind (Shifting to) ≡ true) → (phase : Phase) (out : Out) (answer : Answer) → shift_refusal phase out ≡ Some answer → Tells (kind answer) answer
shift_tells kind outs shifts IsSteady out answer is = out_tells kind outs out answer is
shift_tells kind outs shifts (IsDown to) out answer is = known kind (Shifting to) answer is (shifts to, refl, tt)
shift_tells kind outs shifts (IsUp to) out answer is = known kind (Shifting to) answer is (shifts to, refl, tt)

else_tells : (kind : Answer → Bool) (first second : Option Answer) (answer : Answer) → (first ≡ Some answer → Tells (kind answer) answer) → (second ≡ Some answer → Tells (kind answer) answer) → refusal_else first second ≡ Some answer → Tells (kind answer) answer
else_tells kind None second answer by_first by_second is = by_second is
else_tells kind (Some told) second answer by_first by_second is = by_first is

ration_tells : (o : Option ℕ) (answer : Answer) → ration_refusal o ≡ Some answer → Tells (is_down_answer answer) answer
ration_tells None answer is = no_answer is_down_answer answer is
ration_tells (Some d) answer is = known is_down_answer (RationUsed d) answer is (refl, refl, tt)

up_quiet : (o : Option ℕ) (x : Shown) (answer : Answer) → up_refusal o (state_shown x) ≡ Some answer → Tells (is_up_answer answer) answer
up_quiet None x answer is = known is_up_answer Top answer is (refl, refl, tt)
up_quiet (Some to) x answer is = shift_tells is_up_answer (λ d. refl) (λ gear. refl) x.meta.phase x.meta.out answer is

down_quiet : (o : Option ℕ) (x : Shown) (answer : Answer) → down_refusal x.setup o (state_shown x) ≡ Some answer → Tells (is_down_answer answer) answer
down_quiet None x answer is = known is_down_answer Lowest answer is (refl, refl, tt)
down_quiet (Some to) x answer is =
    else_tells is_down_answer (shift_refusal x.meta.phase x.meta.out) (ration_refusal (first_used_up x.setup (state_shown x) to)) answer
    (shift_tells is_down_answer (λ d. refl) (λ gear. refl) x.meta.phase x.meta.out answer) (ration_tells (first_used_up x.setup (state_shown x) to) answer) is

number_tells : (kind : Answer → Bool) (there : Bool) (low : Option Answer) (d : ℕ) (answer : Answer) → kind (NoDisk d) ≡ true → (low ≡ Some answer → Tells (kind answer) answer) → (if there then low else Some (NoDisk d)) ≡ Some answer → Tells (kind answer) answer
number_tells kind true low d answer holds by_low is = by_low is
number_tells kind false low d answer holds by_low is = known kind (NoDisk d) answer is (holds, refl, tt)

replace_quiet : (out : Bool) (d : ℕ) (answer : Answer) → (if out then None else Some (NotOut d)) ≡ Some answer → Tells (is_replace_answer d answer) answer
replace_quiet true d answer is = no_answer (is_replace_answer d) answer is
replace_quiet false d answer is = known (is_replace_answer d) (NotOut d) answer is (same_number d d refl, refl, tt)

quiet_tells : (x : Shown) (event : Event) (answer : Answer) → quiet_answer x event ≡ Some answer → Tells (is_answer_to event answer) answer
quiet_tells x (Read block) answer is =
    missing_tells (is_read_answer block) (first_missing (block_count x.setup) (block ∷ [])) answer
    (λ b found. same_number b block (missing_one (block_count x.setup) block b (ap missing_answer found)).0) is
quiet_tells x (Write pairs) answer is = missing_tells is_write_answer _ answer (λ b found. refl) is
quiet_tells x Flush answer is = no_answer is_flush_answer answer is
quiet_tells x Tick answer is = no_answer is_tick_answer answer is
quiet_tells x Up answer is = up_quiet (next_higher x.setup.geometry x.meta.gear) x answer is
quiet_tells x Down answer is = down_quiet (next_lower x.setup.geometry x.meta.gear) x answer is
quiet_tells x (Fail d) answer is =
    number_tells (is_fail_answer d) (nat_lt d x.setup.geometry.disks) (out_refusal x.meta.out) d answer (same_number d d refl) (out_tells (is_fail_answer d) (λ e. refl) x.meta.out answer) is
quiet_tells x (Replace d) answer is =
    number_tells (is_replace_answer d) (nat_lt d x.setup.geometry.disks) (if is_out (named_out x.meta.out) d then None else Some (NotOut d)) d answer (same_number d d refl) (replace_quiet (is_out (named_out x.meta.out) d) d answer) is
quiet_tells x AskState answer is = known (is_answer_to AskState) (IsState _ x.setup.geometry.disks) answer is (refl, refl, x.setup.geometry.disks_high)
quiet_tells x AskEnergy answer is = known (is_answer_to AskEnergy) (EnergyUsed x.energy) answer is (refl, refl, tt)
quiet_tells x Bad answer is = no_answer (is_answer_to Bad) answer is

-- where the event is served, or nothing is done for it, no halt is told
pub no_halt_done : (old new : Shown) (event : Event) (answer : Answer) → Does old event answer new → halt_told answer ≡ None
no_halt_done old new event answer does = (does_tells old new event answer does).1

pub no_halt_quiet : (x : Shown) (event : Event) (answer : Answer) → quiet_answer x event ≡ Some answer → halt_told answer ≡ None
no_halt_quiet x event answer is = (quiet_tells x event answer is).1

halted_kind : (event : Event) (halt : Halt) → may_halt event ≡ true → is_answer_to event (Halted halt) ≡ true
halted_kind (Read block) halt asked = refl
halted_kind (Write pairs) halt asked = refl
halted_kind Flush halt asked = refl
halted_kind Tick halt asked = refl
halted_kind Up halt asked = refl
halted_kind Down halt asked = refl
halted_kind (Fail disk) halt asked = refl
halted_kind (Replace disk) halt asked = refl
halted_kind AskState halt asked = refl
halted_kind AskEnergy halt asked = refl
halted_kind Bad halt asked = let z : false ≡ true = asked in absurd cc

again_kind : (event : Event) (halt : Halt) → event ≢ Bad → is_answer_to event (Halted halt) ≡ true
again_kind (Read block) halt good = refl
again_kind (Write pairs) halt good = refl
again_kind Flush halt good = refl
again_kind Tick halt good = refl
again_kind Up halt good = refl
again_kind Down halt good = refl
again_kind (Fail disk) halt good = refl
again_kind (Replace disk) halt good = refl
again_kind AskState halt good = refl
again_kind AskEnergy halt good = refl
again_kind Bad halt good = absurd (good refl)

-- of a halt
halted_fits : (event : Event) (answer : Answer) (halt : Halt) → answer ≡ Halted halt → is_answer_to event (Halted halt) ≡ true → (is_answer_to event answer ≡ true) × HasFewDisks answer
halted_fits event answer halt is kind = subst (λ (x : Answer). (is_answer_to event x ≡ true) × HasFewDisks x) (sym is) (kind, tt)

fits : (old new : Shown) (event : Event) (answer : Answer) → HasReason old event answer new → (is_answer_to event answer ≡ true) × HasFewDisks answer
fits old new event answer (again halt was good is same) = halted_fits event answer halt is (again_kind event halt good)
fits old new event answer (worn count none asked many wear is same) = halted_fits event answer (Worn count) is (halted_kind event (Worn count) asked)
fits old new event answer (quiet takes is same) = let t = quiet_tells old event answer is in (t.0, t.2)
fits old new event answer (done takes busy does) = let t = does_tells old new event answer does in (t.0, t.2)
fits old new event answer (two pair takes asked busy is lost used) = halted_fits event answer (HaltTwo pair) is (halted_kind event (HaltTwo pair) asked)
fits old new event answer (bad is told same) =
    subst (λ (e : Event). (is_answer_to e answer ≡ true) × HasFewDisks answer) (sym is) (subst (λ (x : Answer). (is_answer_to Bad x ≡ true) × HasFewDisks x) (sym told) (refl, tt))

-- an answer with its cause is of the event's kind
pub kind_by : (old new : Shown) (event : Event) (answer : Answer) → HasCause old event answer new → is_answer_to event answer ≡ true
kind_by old new event answer cause = (fits old new event answer cause.reason).0

-- and tells no more than eight disks
pub few_by : (old new : Shown) (event : Event) (answer : Answer) → HasCause old event answer new → HasFewDisks answer
few_by old new event answer cause = (fits old new event answer cause.reason).1

same_halt : (answer : Answer) (halt h : Halt) → answer ≡ Halted halt → halt_told answer ≡ Some h → halt ≡ h
same_halt answer halt h is told = let z : Some halt ≡ Some h = sym (ap halt_told is) ∙ told in cc

-- a halt that names two disks has lost them in the event
lost_by : (old new : Shown) (event : Event) (answer : Answer) → event ≢ Bad → old.halt ≡ None → HasReason old event answer new → HaltsByTwoLost (named_out old.meta.out) event old.slot new.slot (halt_told answer)
lost_by old new event answer good going (again halt was fine is same) pair told = let z : Some halt ≡ None = sym was ∙ going in absurd cc
lost_by old new event answer good going (worn count none asked many wear is same) pair told = let z : Worn count ≡ HaltTwo pair = same_halt answer (Worn count) (HaltTwo pair) is told in absurd cc
lost_by old new event answer good going (quiet takes is same) pair told = let z : Some (HaltTwo pair) ≡ None = sym told ∙ (quiet_tells old event answer is).1 in absurd cc
lost_by old new event answer good going (done takes busy does) pair told = let z : Some (HaltTwo pair) ≡ None = sym told ∙ (does_tells old new event answer does).1 in absurd cc
lost_by old new event answer good going (two lost takes asked busy is are used) pair told =
    let one : lost ≡ pair = let z : HaltTwo lost ≡ HaltTwo pair = same_halt answer (HaltTwo lost) (HaltTwo pair) is told in cc in
    subst (λ (p : Two). AreTwoLost (named_out old.meta.out) event old.slot new.slot p) one are
lost_by old new event answer good going (bad is said same) pair told = absurd (good is)

-- What an array owes of an event, by its cause.
module _ {A : Type 0} (g : Ghosts A) (a b : A) (shows_a : Shows (g.shown a) (g.setup a) (g.slot a) (g.halted a)) (shows_b : Shows (g.shown b) (g.setup b) (g.slot b) (g.halted b)) (event : Event) (answer : Answer) (cause : HasCause (g.shown a) event answer (g.shown b)) where
  pub setup_owed : g.setup b ≡ g.setup a
  setup_owed = sym shows_b.setup ∙ cause.setup ∙ shows_a.setup

  pub halt_owed : event ≢ Bad → g.halted b ≡ halt_told answer
  halt_owed good = sym shows_b.halt ∙ cause.halt good

  pub later_owed : HaveNotFallen (g.slot a) (g.slot b)
  later_owed = subst (λ (s : ℕ → Slot). HaveNotFallen s (g.slot b)) shows_a.slot (subst (HaveNotFallen (g.shown a).slot) shows_b.slot cause.later)

  pub two_owed : event ≢ Bad → g.halted a ≡ None → HaltsByTwoLost (named_out (g.shown a).meta.out) event (g.slot a) (g.slot b) (g.halted b)
  two_owed good going =
      subst (λ (s : ℕ → Slot). HaltsByTwoLost (named_out (g.shown a).meta.out) event s (g.slot b) (g.halted b)) shows_a.slot
      (subst (λ (s : ℕ → Slot). HaltsByTwoLost (named_out (g.shown a).meta.out) event (g.shown a).slot s (g.halted b)) shows_b.slot
      (subst (λ (h : Option Halt). HaltsByTwoLost (named_out (g.shown a).meta.out) event (g.shown a).slot (g.shown b).slot h) (sym (halt_owed good)) (lost_by (g.shown a) (g.shown b) event answer good (shows_a.halt ∙ going) cause.reason)))
