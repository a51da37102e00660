-- No outcome of an event is a halt.
use Rattle.std.proofs.Common.{◌≡◌, ℕ, zero, suc, ◌+◌, ◌<◌, Bool, true, false, [], ◌∷◌, ◌++◌, length, Option, Some, None, refl, subst, arith, if◌then◌else◌, min}
use Rattle.std.specs.Prelude.{◌==◌, nat_lt, slice_index_or}
use Rattle.paraid_base.specs.declared.event.Answer.{Answer}
use Rattle.paraid_base.specs.declared.event.Answer.TheVariants.{Value, NoBlock, Wrote, Flushed, Top, Lowest, Failed, NoDisk, Out as IsOut, NotOut, NoFresh, State as IsState, Energy as EnergyUsed, Bad as IsBad}
use Rattle.paraid_base.specs.declared.event.Event.{Event}
use Rattle.paraid_base.specs.declared.event.Event.TheVariants.{Read, Write, Flush, Tick, Up as AskUp, Down as AskDown, Fail, Replace, State as AskState, Energy as AskEnergy, Bad}
use Rattle.paraid_base.specs.declared.state.Out.{Out}
use Rattle.paraid_base.specs.declared.state.Out.TheVariants.{No, Gone, Fresh}
use Rattle.paraid_base.specs.declared.state.Phase.{Phase}
use Rattle.paraid_base.specs.declared.state.Phase.TheVariants.{Steady, Down, Up}
use Rattle.paraid_base.specs.declared.state.TickEvent.TheVariants.{Steady as TickSteady, Waiting, Moving, Rebuilt, Gone as GoneAgain, Ration}
use Rattle.paraid_base.specs.History.{History, after_all}
use Rattle.paraid_base.specs.Pairs.{pairs_of}
use Rattle.paraid_base.specs.Gears.{next_higher, next_lower}
use Rattle.paraid_gear.specs.declared.decision.Decision.{Decision}
use Rattle.paraid_gear.specs.declared.decision.Decision.TheVariants.{Stay, Up as DecideUp, Down as DecideDown}
use Rattle.paraid_gear.specs.Decision.{decision}
use Rattle.paraid_record.specs.declared.meta.Setup.{Setup}
use Rattle.paraid_image.specs.Power.{PowerState}
use Rattle.paraid_machine.specs.Machine.{IsEventStep, Outcomes, around, around_loss, begin, begin_by_tick, block_count, blocks_named, decide, first_missing, go_down, go_up, if_alone, lost_within, move, outcomes, put_in, quietly, ration_refusal, rebuild, refresh, refusal_else, report, serve, shift_down, shift_refusal, state_status, take_out, tick_by_out, tick_by_phase, without_fresh_disk}
use Rattle.paraid_machine.specs.Moves.{all_written, begun_down, begun_up, block_read, with_one_served, first_used_up, after_loss, units_left, units_of_tick, units_to_rebuild, state_with_tick}
use Rattle.paraid_session.specs.Turn.{halt_told}

abbrev IsGoing : Answer × PowerState → Type 0
IsGoing it = halt_told it.0 ≡ None

abbrev AllGo : Outcomes → Type 0
AllGo [] = Unit {0}
AllGo (it ∷ others) = IsGoing it × AllGo others

go_at : (os : Outcomes) (it other : Answer × PowerState) (k : ℕ) → AllGo os → k < length os → slice_index_or os k other ≡ it → IsGoing it
go_at [] it other k all below is = absurd (omega (arith, below))
go_at (o ∷ os) it other zero all below is = subst IsGoing is all.0
go_at (o ∷ os) it other (suc k) all below is = go_at os it other k all.1 (omega (arith, below)) is

go_append : (os ps : Outcomes) → AllGo os → AllGo ps → AllGo (os ++ ps)
go_append [] ps first second = second
go_append (o ∷ os) ps first second = (first.0, go_append os ps first.1 second)

go_if : (b : Bool) (os ps : Outcomes) → AllGo os → AllGo ps → AllGo (if b then os else ps)
go_if true os ps first second = first
go_if false os ps first second = second

quietly_go : (loss : Option ℕ) (a : Answer) (s : PowerState) → halt_told a ≡ None → AllGo (quietly loss a s)
quietly_go None a s going = (going, tt)
quietly_go (Some d) a s going = tt

alone_go : (o : Out) (d : ℕ) (os : Outcomes) → AllGo os → AllGo (if_alone o d os)
alone_go No d os all = all
alone_go (Gone e) d os all = go_if (d == e) os [] all tt
alone_go (Fresh e rebuilt) d os all = go_if (d == e) os [] all tt

around_go : (loss : Option ℕ) (s : PowerState) (f : PowerState → Answer × PowerState) → ((t : PowerState) → IsGoing (f t)) → AllGo (around loss s f)
around_go None s f going = (going s, tt)
around_go (Some d) s f going = alone_go s.out d (around_loss d s f) (going (after_loss s d), (going s, tt))

serve_go : (missing loss : Option ℕ) (s : PowerState) (f : PowerState → Answer × PowerState) → ((t : PowerState) → IsGoing (f t)) → AllGo (serve missing loss s f)
serve_go (Some b) loss s f going = quietly_go loss (NoBlock b) s refl
serve_go None loss s f going = around_go loss s f going

-- a refusal, if there is one, is no halt
abbrev RefusalGoes : Option Answer → Type 0
RefusalGoes None = Unit {0}
RefusalGoes (Some a) = halt_told a ≡ None

shift_refusal_goes : (phase : Phase) (out : Out) → RefusalGoes (shift_refusal phase out)
shift_refusal_goes Steady No = tt
shift_refusal_goes Steady (Gone d) = refl
shift_refusal_goes Steady (Fresh d rebuilt) = refl
shift_refusal_goes (Down to) out = refl
shift_refusal_goes (Up to) out = refl

else_goes : (first second : Option Answer) → RefusalGoes first → RefusalGoes second → RefusalGoes (refusal_else first second)
else_goes None second f s = s
else_goes (Some a) second f s = f

ration_goes : (worn : Option ℕ) → RefusalGoes (ration_refusal worn)
ration_goes None = tt
ration_goes (Some d) = refl

begin_go : (refusal : Option Answer) (loss : Option ℕ) (s : PowerState) (to : ℕ) (begun : PowerState) → RefusalGoes refusal → AllGo (begin refusal loss s to begun)
begin_go (Some a) loss s to begun going = quietly_go loss a s going
begin_go None None s to begun going = (refl, tt)
begin_go None (Some d) s to begun going = (refl, (refl, tt))

go_up_go : (setup : Setup) (loss : Option ℕ) (s : PowerState) (to : Option ℕ) → AllGo (go_up setup loss s to)
go_up_go setup loss s None = quietly_go loss Top s refl
go_up_go setup loss s (Some to) = begin_go (shift_refusal s.phase s.out) loss s to (begun_up to s) (shift_refusal_goes s.phase s.out)

go_down_go : (setup : Setup) (loss : Option ℕ) (s : PowerState) (to : Option ℕ) → AllGo (go_down setup loss s to)
go_down_go setup loss s None = quietly_go loss Lowest s refl
go_down_go setup loss s (Some to) = begin_go (refusal_else (shift_refusal s.phase s.out) (ration_refusal (first_used_up setup s to))) loss s to (begun_down to s)
    (else_goes (shift_refusal s.phase s.out) (ration_refusal (first_used_up setup s to)) (shift_refusal_goes s.phase s.out) (ration_goes (first_used_up setup s to)))

take_out_go : (loss : Option ℕ) (s : PowerState) (d : ℕ) (o : Out) → AllGo (take_out loss s d o)
take_out_go None s d No = (refl, tt)
take_out_go (Some e) s d No = go_if (d == e) ((Failed d, after_loss s d) ∷ []) ((IsOut e, after_loss s e) ∷ []) (refl, tt) (refl, tt)
take_out_go loss s d (Gone e) = quietly_go loss (IsOut e) s refl
take_out_go loss s d (Fresh e rebuilt) = quietly_go loss (IsOut e) s refl

refresh_go : (loss : Option ℕ) (s : PowerState) (d : ℕ) → AllGo (refresh loss s d)
refresh_go None s d = (refl, tt)
refresh_go (Some e) s d = go_if (e == d) ((NoFresh d, without_fresh_disk s d) ∷ []) [] (refl, tt) tt

put_in_go : (loss : Option ℕ) (s : PowerState) (d : ℕ) (o : Out) → AllGo (put_in loss s d o)
put_in_go loss s d No = quietly_go loss (NotOut d) s refl
put_in_go loss s d (Gone e) = go_if (d == e) (refresh loss s d) (quietly loss (NotOut d) s) (refresh_go loss s d) (quietly_go loss (NotOut d) s refl)
put_in_go None s d (Fresh e rebuilt) = go_if (d == e) (refresh None s d) (quietly None (NotOut d) s) (refresh_go None s d) (quietly_go None (NotOut d) s refl)
put_in_go (Some f) s d (Fresh e rebuilt) = go_if (d == e) (refresh (Some f) s d ++ (if f == d then refresh None s d else [])) []
    (go_append (refresh (Some f) s d) (if f == d then refresh None s d else []) (refresh_go (Some f) s d) (go_if (f == d) (refresh None s d) [] (refresh_go None s d) tt)) tt

rebuild_go : (setup : Setup) (loss : Option ℕ) (s : PowerState) (d rebuilt : ℕ) → AllGo (rebuild setup loss s d rebuilt)
rebuild_go setup None s d rebuilt = (either (min setup.rate (units_to_rebuild setup s d rebuilt)) (min setup.rate (units_to_rebuild setup s d rebuilt) == units_to_rebuild setup s d rebuilt), tt)
  where
    either : (count : ℕ) (b : Bool) → IsGoing (if b then report (record s { out = No }) count (Rebuilt d) else report (record s { out = Fresh d (rebuilt + count) }) count Moving)
    either count true = refl
    either count false = refl
rebuild_go setup (Some e) s d rebuilt = go_if (e == d) (report (after_loss s d) 0 (GoneAgain d) ∷ []) [] (refl, tt) tt

lost_within_go : (setup : Setup) (s : PowerState) (d m : ℕ) → AllGo (lost_within setup s d m)
lost_within_go setup s d zero = (refl, tt)
lost_within_go setup s d (suc m) = (refl, lost_within_go setup s d m)

move_go : (setup : Setup) (loss : Option ℕ) (s : PowerState) (count : ℕ) (last : Bool) → AllGo (move setup loss s count last)
move_go setup None s count true = (refl, tt)
move_go setup None s count false = (refl, tt)
move_go setup (Some d) s count true = (refl, lost_within_go setup s d count)
move_go setup (Some d) s count false = lost_within_go setup s d count

begin_by_tick_go : (loss : Option ℕ) (begun : PowerState) (to : ℕ) → AllGo (begin_by_tick loss begun to)
begin_by_tick_go None begun to = (refl, tt)
begin_by_tick_go (Some d) begun to = (refl, tt)

shift_down_go : (setup : Setup) (loss : Option ℕ) (s : PowerState) (to : ℕ) (worn : Option ℕ) → AllGo (shift_down setup loss s to worn)
shift_down_go setup loss s to None = begin_by_tick_go loss (begun_down to s) to
shift_down_go setup loss s to (Some worn) = quietly_go loss (report s 0 (Ration worn)).0 s refl

decide_go : (setup : Setup) (loss : Option ℕ) (s : PowerState) (by : Decision) → AllGo (decide setup loss s by)
decide_go setup loss s Stay = quietly_go loss (report s 0 TickSteady).0 s refl
decide_go setup loss s (DecideUp to) = begin_by_tick_go loss (begun_up to s) to
decide_go setup loss s (DecideDown to) = shift_down_go setup loss s to (first_used_up setup s to)

tick_by_phase_go : (setup : Setup) (loss : Option ℕ) (s : PowerState) (phase : Phase) → AllGo (tick_by_phase setup loss s phase)
tick_by_phase_go setup loss s Steady = decide_go setup loss s (decision setup s.gear s.samples)
tick_by_phase_go setup loss s (Down to) = move_go setup loss s (units_of_tick setup s) (units_of_tick setup s == units_left setup s)
tick_by_phase_go setup loss s (Up to) = move_go setup loss s (units_of_tick setup s) (units_of_tick setup s == units_left setup s)

tick_by_out_go : (setup : Setup) (loss : Option ℕ) (s : PowerState) (o : Out) → AllGo (tick_by_out setup loss s o)
tick_by_out_go setup loss s No = tick_by_phase_go setup loss s s.phase
tick_by_out_go setup loss s (Gone d) = quietly_go loss (report s 0 Waiting).0 s refl
tick_by_out_go setup loss s (Fresh d rebuilt) = rebuild_go setup loss s d rebuilt

all_go : (setup : Setup) (h : History) (used : ℕ) (s : PowerState) (event : Event) (loss : Option ℕ) → AllGo (outcomes setup h used s event loss)
unfolding outcomes
all_go setup h used s (Read b) loss = serve_go (first_missing (block_count setup) (b ∷ [])) loss s (λ s. (Value b (after_all h b), with_one_served (block_read setup b s))) (λ t. refl)
all_go setup h used s (Write pairs) loss = serve_go (first_missing (block_count setup) (blocks_named (pairs_of pairs))) loss s (λ s. (Wrote (length h + 1), with_one_served (all_written setup.geometry.disks (blocks_named (pairs_of pairs)) s))) (λ t. refl)
all_go setup h used s Flush loss = around_go loss s (λ s. (Flushed (length h), s)) (λ t. refl)
all_go setup h used s Tick loss = tick_by_out_go setup loss (state_with_tick s) s.out
all_go setup h used s AskUp loss = go_up_go setup loss s (next_higher setup.geometry s.gear)
all_go setup h used s AskDown loss = go_down_go setup loss s (next_lower setup.geometry s.gear)
all_go setup h used s (Fail d) loss = go_if (nat_lt d setup.geometry.disks) (take_out loss s d s.out) (quietly loss (NoDisk d) s) (take_out_go loss s d s.out) (quietly_go loss (NoDisk d) s refl)
all_go setup h used s (Replace d) loss = go_if (nat_lt d setup.geometry.disks) (put_in loss s d s.out) (quietly loss (NoDisk d) s) (put_in_go loss s d s.out) (quietly_go loss (NoDisk d) s refl)
all_go setup h used s AskState loss = quietly_go loss (IsState (state_status setup (length h) s) setup.geometry.disks) s refl
all_go setup h used s AskEnergy loss = quietly_go loss (EnergyUsed used) s refl
all_go setup h used s Bad loss = quietly_go loss IsBad s refl

-- an event that is answered by an outcome of it is answered with no halt
pub step_goes : (setup : Setup) (h : History) (used : ℕ) (s : PowerState) (event : Event) (loss : Option ℕ) (answer : Answer) (new : PowerState) → IsEventStep setup h used s event loss answer new → halt_told answer ≡ None
step_goes setup h used s event loss answer new is = go_at (outcomes setup h used s event loss) (answer, new) (answer, new) is.among.0 (all_go setup h used s event loss) is.among.1 is.among.2
