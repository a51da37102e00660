-- Which disk is out after an event.
use Rattle.paraid_record.specs.Modes.{is_access}
use Rattle.std.proofs.Common.{◌≡◌, ℕ, zero, suc, ◌+◌, ◌<◌, Bool, true, false, List, [], ◌∷◌, ◌++◌, length, Option, Some, None, refl, sym, ap, ◌∙◌, subst, arith, if◌then◌else◌, min}
use Rattle.std.specs.Prelude.{◌==◌, ◌&&◌, nat_le, nat_lt, slice_index_or}
use Rattle.std.proofs.lemmas.Bool.Decides.{nat_tests}
use Rattle.paraid_base.specs.declared.event.Answer.{Answer}
use Rattle.paraid_base.specs.declared.event.Answer.TheVariants.{Value, NoBlock, Wrote, Flushed, Ticked, Top, Lowest, Shifting, Failed, NoDisk, Out as IsOut, NotOut, NoFresh, Ration as RationUsed, State as IsState, Energy as EnergyUsed, Bad as IsBad}
use Rattle.paraid_base.specs.declared.event.Event.{Event}
use Rattle.paraid_base.specs.declared.event.Event.TheVariants.{Read, Write, Flush, Tick, Up as AskUp, Down as AskDown, Fail, Replace, State as AskState, Energy as AskEnergy, Bad}
use Rattle.paraid_base.specs.declared.state.Out.{Out}
use Rattle.paraid_base.specs.declared.state.Out.TheVariants.{No, Gone, Fresh}
use Rattle.paraid_base.specs.declared.state.Phase.{Phase}
use Rattle.paraid_base.specs.declared.state.Phase.TheVariants.{Steady, Down, Up}
use Rattle.paraid_base.specs.declared.state.TickEvent.{TickEvent}
use Rattle.paraid_base.specs.declared.state.TickEvent.TheVariants.{Steady as TickSteady, Waiting, Moving, Rebuilt, Gone as GoneAgain, Ration}
use Rattle.paraid_base.specs.History.{History, after_all}
use Rattle.paraid_base.specs.Pairs.{pairs_of}
use Rattle.paraid_gear.specs.declared.decision.Decision.{Decision}
use Rattle.paraid_gear.specs.declared.decision.Decision.TheVariants.{Stay, Up as DecideUp, Down as DecideDown}
use Rattle.paraid_gear.specs.Decision.{decision}
use Rattle.paraid_base.specs.Gears.{next_higher, next_lower}
use Rattle.paraid_base.specs.Cells.{home_disk, home_row}
use Rattle.paraid_record.specs.Range.{has_out}
use Rattle.paraid_image.specs.Spot.{rising_to}
use Rattle.paraid_record.specs.declared.meta.Setup.{Setup}
use Rattle.paraid_image.specs.Out.{named_out, or_else}
use Rattle.paraid_image.specs.Power.{PowerState}
use Rattle.paraid_machine.specs.Machine.{IsEventStep, Outcomes, around, around_loss, begin, begin_by_tick, block_count, blocks_named, decide, first_missing, go_down, go_up, if_alone, lost_within, move, outcomes, put_in, quietly, ration_refusal, rebuild, refresh, refusal_else, report, serve, shift_down, shift_refusal, state_status, take_out, tick_by_out, tick_by_phase, without_fresh_disk}
use Rattle.paraid_machine.specs.Moves.{all_written, block_written, begun_down, begun_up, block_read, with_one_served, first_dirty, first_used_up, after_loss, after_units, after_unit, units_left, units_of_tick, units_to_rebuild, state_with_bit, state_with_tick}

abbrev pub is_rebuilt : TickEvent → Bool
is_rebuilt (Rebuilt d) = true
is_rebuilt event = false

-- the rebuild of the disk that is out has ended
abbrev pub rebuilt_by : Answer → Bool
rebuilt_by (Ticked report) = is_rebuilt report.event
rebuilt_by answer = false

-- the disk that was taken out
abbrev pub taken_disk : Answer → Option ℕ
taken_disk (Failed d) = Some d
taken_disk answer = None

-- the disk that is out after an event that is answered so
abbrev pub out_by : Answer → Option ℕ → Option ℕ → Option ℕ
out_by answer loss out = if rebuilt_by answer then None else or_else out (or_else (taken_disk answer) loss)

abbrev pub IsOutBy : Option ℕ → Option ℕ → Answer × PowerState → Type 0
IsOutBy out loss it = named_out it.1.out ≡ out_by it.0 loss out

abbrev AllOf : (Answer × PowerState → Type 0) → Outcomes → Type 0
AllOf P [] = Unit {0}
AllOf P (it ∷ others) = P it × AllOf P others

all_at : (P : Answer × PowerState → Type 0) (os : Outcomes) (it other : Answer × PowerState) (k : ℕ) → AllOf P os → k < length os → slice_index_or os k other ≡ it → P it
all_at P [] it other k all below is = absurd (omega (arith, below))
all_at P (o ∷ os) it other zero all below is = subst P is all.0
all_at P (o ∷ os) it other (suc k) all below is = all_at P os it other k all.1 (omega (arith, below)) is

all_append : (P : Answer × PowerState → Type 0) (os ps : Outcomes) → AllOf P os → AllOf P ps → AllOf P (os ++ ps)
all_append P [] ps first second = second
all_append P (o ∷ os) ps first second = (first.0, all_append P os ps first.1 second)

all_if : (P : Answer × PowerState → Type 0) (b : Bool) (os ps : Outcomes) → (b ≡ true → AllOf P os) → (b ≡ false → AllOf P ps) → AllOf P (if b then os else ps)
all_if P true os ps first second = first refl
all_if P false os ps first second = second refl

else_none : (out : Option ℕ) → or_else out None ≡ out
else_none None = refl
else_none (Some d) = refl

same_if : (d f : ℕ) → (d == f) ≡ true → d ≡ f
same_if d f e = grind (arith, nat_tests)

-- an answer that rebuilds nothing and takes nothing out
pub record IsPlain (a : Answer) : Type 0 where
  pub rebuilt : rebuilt_by a ≡ false
  pub taken : taken_disk a ≡ None

plain : (a : Answer) (loss out new : Option ℕ) → IsPlain a → new ≡ or_else out loss → new ≡ out_by a loss out
plain a loss out new p is = rw (p.rebuilt, p.taken) is

quietly_out : (loss : Option ℕ) (a : Answer) (s : PowerState) (out : Option ℕ) → IsPlain a → named_out s.out ≡ out → AllOf (IsOutBy out loss) (quietly loss a s)
quietly_out None a s out p is = (plain a None out (named_out s.out) p (is ∙ sym (else_none out)), tt)
quietly_out (Some d) a s out p is = tt

-- what serves a request leaves the disk that is out
pub record Leaves (f : PowerState → Answer × PowerState) : Type 0 where
  pub answers : (s : PowerState) → IsPlain (f s).0
  pub out : (s : PowerState) → named_out (f s).1.out ≡ named_out s.out

loss_out : (d : ℕ) (s : PowerState) (f : PowerState → Answer × PowerState) → Leaves f → or_else (named_out s.out) (Some d) ≡ Some d → AllOf (IsOutBy (named_out s.out) (Some d)) (around_loss d s f)
loss_out d s f l is = (
  plain (f (after_loss s d)).0 (Some d) (named_out s.out) (named_out (f (after_loss s d)).1.out) (l.answers (after_loss s d)) (l.out (after_loss s d) ∙ sym is),
  (plain (f s).0 (Some d) (named_out s.out) (Some d) (l.answers s) (sym is), tt),
)

alone_out : (P : Answer × PowerState → Type 0) (o : Out) (d : ℕ) (os : Outcomes) → (or_else (named_out o) (Some d) ≡ Some d → AllOf P os) → AllOf P (if_alone o d os)
alone_out P No d os all = all refl
alone_out P (Gone e) d os all = all_if P (d == e) os [] (λ same. all (ap (λ (x : ℕ). Some x) (sym (same_if d e same)))) (λ other. tt)
alone_out P (Fresh e rebuilt) d os all = all_if P (d == e) os [] (λ same. all (ap (λ (x : ℕ). Some x) (sym (same_if d e same)))) (λ other. tt)

around_out : (loss : Option ℕ) (s : PowerState) (f : PowerState → Answer × PowerState) → Leaves f → AllOf (IsOutBy (named_out s.out) loss) (around loss s f)
around_out None s f l = (plain (f s).0 None (named_out s.out) (named_out (f s).1.out) (l.answers s) (l.out s ∙ sym (else_none (named_out s.out))), tt)
around_out (Some d) s f l = alone_out (IsOutBy (named_out s.out) (Some d)) s.out d (around_loss d s f) (loss_out d s f l)

serve_out : (missing loss : Option ℕ) (s : PowerState) (f : PowerState → Answer × PowerState) → Leaves f → AllOf (IsOutBy (named_out s.out) loss) (serve missing loss s f)
serve_out (Some b) loss s f l = quietly_out loss (NoBlock b) s (named_out s.out) (record { rebuilt = refl; taken = refl }) refl
serve_out None loss s f l = around_out loss s f l

-- why a shift is refused, or none_out disk is out
pub data MayBegin (out : Out) (refusal : Option Answer) : Type 0 where
  refused : (a : Answer) → refusal ≡ Some a → IsPlain a → MayBegin out refusal
  free : refusal ≡ None → out ≡ No → MayBegin out refusal

may_begin : (phase : Phase) (out : Out) → MayBegin out (shift_refusal phase out)
may_begin Steady No = free refl refl
may_begin Steady (Gone d) = refused (IsOut d) refl (record { rebuilt = refl; taken = refl })
may_begin Steady (Fresh d rebuilt) = refused (IsOut d) refl (record { rebuilt = refl; taken = refl })
may_begin (Down to) out = refused (Shifting to) refl (record { rebuilt = refl; taken = refl })
may_begin (Up to) out = refused (Shifting to) refl (record { rebuilt = refl; taken = refl })

may_begin_worn : (phase : Phase) (out : Out) (worn : Option ℕ) → MayBegin out (refusal_else (shift_refusal phase out) (ration_refusal worn))
may_begin_worn Steady No None = free refl refl
may_begin_worn Steady No (Some d) = refused (RationUsed d) refl (record { rebuilt = refl; taken = refl })
may_begin_worn Steady (Gone d) worn = refused (IsOut d) refl (record { rebuilt = refl; taken = refl })
may_begin_worn Steady (Fresh d rebuilt) worn = refused (IsOut d) refl (record { rebuilt = refl; taken = refl })
may_begin_worn (Down to) out worn = refused (Shifting to) refl (record { rebuilt = refl; taken = refl })
may_begin_worn (Up to) out worn = refused (Shifting to) refl (record { rebuilt = refl; taken = refl })

begin_free : (loss : Option ℕ) (s : PowerState) (to : ℕ) (begun : PowerState) → s.out ≡ No → begun.out ≡ s.out → AllOf (IsOutBy (named_out s.out) loss) (begin None loss s to begun)
begin_free None s to begun none_out same = (ap named_out same ∙ sym (else_none (named_out s.out)), tt)
begin_free (Some d) s to begun none_out same =
    let is : Some d ≡ or_else (named_out s.out) (Some d) = ap (λ (o : Out). or_else (named_out o) (Some d)) (sym none_out) in
    (is, (is, tt))

begin_out : (refusal : Option Answer) (loss : Option ℕ) (s : PowerState) (to : ℕ) (begun : PowerState) → MayBegin s.out refusal → begun.out ≡ s.out → AllOf (IsOutBy (named_out s.out) loss) (begin refusal loss s to begun)
begin_out refusal loss s to begun (refused a is p) same = rw is (quietly_out loss a s (named_out s.out) p refl)
begin_out refusal loss s to begun (free is none_out) same = rw is (begin_free loss s to begun none_out same)

go_up_out : (setup : Setup) (loss : Option ℕ) (s : PowerState) (to : Option ℕ) → AllOf (IsOutBy (named_out s.out) loss) (go_up setup loss s to)
go_up_out setup loss s None = quietly_out loss Top s (named_out s.out) (record { rebuilt = refl; taken = refl }) refl
go_up_out setup loss s (Some to) = begin_out (shift_refusal s.phase s.out) loss s to (begun_up to s) (may_begin s.phase s.out) refl

go_down_out : (setup : Setup) (loss : Option ℕ) (s : PowerState) (to : Option ℕ) → AllOf (IsOutBy (named_out s.out) loss) (go_down setup loss s to)
go_down_out setup loss s None = quietly_out loss Lowest s (named_out s.out) (record { rebuilt = refl; taken = refl }) refl
go_down_out setup loss s (Some to) = begin_out (refusal_else (shift_refusal s.phase s.out) (ration_refusal (first_used_up setup s to))) loss s to (begun_down to s) (may_begin_worn s.phase s.out (first_used_up setup s to)) refl

take_out_out : (loss : Option ℕ) (s : PowerState) (d : ℕ) (o : Out) → s.out ≡ o → AllOf (IsOutBy (named_out s.out) loss) (take_out loss s d o)
take_out_out None s d No is = (ap (λ (o : Out). or_else (named_out o) (Some d)) (sym is), tt)
take_out_out (Some e) s d No is = all_if (IsOutBy (named_out s.out) (Some e)) (d == e) ((Failed d, after_loss s d) ∷ []) ((IsOut e, after_loss s e) ∷ [])
    (λ same. (ap (λ (o : Out). or_else (named_out o) (Some d)) (sym is), tt))
    (λ other. (ap (λ (o : Out). or_else (named_out o) (Some e)) (sym is), tt))
take_out_out loss s d (Gone e) is = quietly_out loss (IsOut e) s (named_out s.out) (record { rebuilt = refl; taken = refl }) refl
take_out_out loss s d (Fresh e rebuilt) is = quietly_out loss (IsOut e) s (named_out s.out) (record { rebuilt = refl; taken = refl }) refl

refresh_out : (loss : Option ℕ) (s : PowerState) (d : ℕ) → named_out s.out ≡ Some d → AllOf (IsOutBy (named_out s.out) loss) (refresh loss s d)
refresh_out None s d is = (ap (λ (o : Option ℕ). or_else o None) (sym is), tt)
refresh_out (Some e) s d is = all_if (IsOutBy (named_out s.out) (Some e)) (e == d) ((NoFresh d, without_fresh_disk s d) ∷ []) [] (λ same. (ap (λ (o : Option ℕ). or_else o (Some e)) (sym is), tt)) (λ other. tt)

-- the same with a loss that is of this disk
refresh_again : (f : ℕ) (s : PowerState) (d : ℕ) → named_out s.out ≡ Some d → AllOf (IsOutBy (named_out s.out) (Some f)) (refresh None s d)
refresh_again f s d is = (ap (λ (o : Option ℕ). or_else o (Some f)) (sym is), tt)

not_out : (loss : Option ℕ) (s : PowerState) (d : ℕ) → AllOf (IsOutBy (named_out s.out) loss) (quietly loss (NotOut d) s)
not_out loss s d = quietly_out loss (NotOut d) s (named_out s.out) (record { rebuilt = refl; taken = refl }) refl

named_same : (s : PowerState) (d e : ℕ) → named_out s.out ≡ Some e → (d == e) ≡ true → named_out s.out ≡ Some d
named_same s d e is same = is ∙ ap (λ (x : ℕ). Some x) (sym (same_if d e same))

put_in_out : (loss : Option ℕ) (s : PowerState) (d : ℕ) (o : Out) → s.out ≡ o → AllOf (IsOutBy (named_out s.out) loss) (put_in loss s d o)
put_in_out loss s d No is = not_out loss s d
put_in_out loss s d (Gone e) is = all_if (IsOutBy (named_out s.out) loss) (d == e) (refresh loss s d) (quietly loss (NotOut d) s)
    (λ same. refresh_out loss s d (named_same s d e (ap named_out is) same)) (λ other. not_out loss s d)
put_in_out None s d (Fresh e rebuilt) is = all_if (IsOutBy (named_out s.out) None) (d == e) (refresh None s d) (quietly None (NotOut d) s)
    (λ same. refresh_out None s d (named_same s d e (ap named_out is) same)) (λ other. not_out None s d)
put_in_out (Some f) s d (Fresh e rebuilt) is = all_if (IsOutBy (named_out s.out) (Some f)) (d == e) (refresh (Some f) s d ++ (if f == d then refresh None s d else [])) []
    (λ same. all_append (IsOutBy (named_out s.out) (Some f)) (refresh (Some f) s d) (if f == d then refresh None s d else [])
    (refresh_out (Some f) s d (named_same s d e (ap named_out is) same))
    (all_if (IsOutBy (named_out s.out) (Some f)) (f == d) (refresh None s d) [] (λ again. refresh_again f s d (named_same s d e (ap named_out is) same)) (λ other. tt)))
    (λ other. tt)

rebuild_out : (setup : Setup) (loss : Option ℕ) (s : PowerState) (d rebuilt : ℕ) → named_out s.out ≡ Some d → AllOf (IsOutBy (named_out s.out) loss) (rebuild setup loss s d rebuilt)
rebuild_out setup None s d rebuilt is = (either (min setup.rate (units_to_rebuild setup s d rebuilt)) (min setup.rate (units_to_rebuild setup s d rebuilt) == units_to_rebuild setup s d rebuilt), tt)
  where
    either : (count : ℕ) (b : Bool) → IsOutBy (named_out s.out) None (if b then report (record s { out = No }) count (Rebuilt d) else report (record s { out = Fresh d (rebuilt + count) }) count Moving)
    either count true = refl
    either count false = ap (λ (o : Option ℕ). or_else o None) (sym is)
rebuild_out setup (Some e) s d rebuilt is = all_if (IsOutBy (named_out s.out) (Some e)) (e == d) (report (after_loss s d) 0 (GoneAgain d) ∷ []) [] (λ same. (ap (λ (o : Option ℕ). or_else o (Some e)) (sym is), tt)) (λ other. tt)

moved_one_out : (s : PowerState) (first : Option ℕ) → named_out (after_unit s first).out ≡ named_out s.out
moved_one_out s None = refl
moved_one_out s (Some c) = refl

moved_out : (setup : Setup) (m : ℕ) (s : PowerState) → named_out (after_units setup m s).out ≡ named_out s.out
moved_out setup zero s = refl
moved_out setup (suc m) s = moved_out setup m (after_unit s (first_dirty setup s)) ∙ moved_one_out s (first_dirty setup s)

lost_within_out : (setup : Setup) (s : PowerState) (d m : ℕ) → named_out s.out ≡ None → AllOf (IsOutBy (named_out s.out) (Some d)) (lost_within setup s d m)
lost_within_out setup s d zero none_out = (ap (λ (o : Option ℕ). or_else o (Some d)) (sym none_out), tt)
lost_within_out setup s d (suc m) none_out = (ap (λ (o : Option ℕ). or_else o (Some d)) (sym none_out), lost_within_out setup s d m none_out)

move_out : (setup : Setup) (loss : Option ℕ) (s : PowerState) (count : ℕ) (last : Bool) → named_out s.out ≡ None → AllOf (IsOutBy (named_out s.out) loss) (move setup loss s count last)
move_out setup None s count true none_out = (moved_out setup count s ∙ sym (else_none (named_out s.out)), tt)
move_out setup None s count false none_out = (moved_out setup count s ∙ sym (else_none (named_out s.out)), tt)
move_out setup (Some d) s count true none_out = (ap (λ (o : Option ℕ). or_else o (Some d)) (sym none_out), lost_within_out setup s d count none_out)
move_out setup (Some d) s count false none_out = lost_within_out setup s d count none_out

begin_by_tick_out : (loss : Option ℕ) (s begun : PowerState) (to : ℕ) → named_out s.out ≡ None → begun.out ≡ s.out → AllOf (IsOutBy (named_out s.out) loss) (begin_by_tick loss begun to)
begin_by_tick_out None s begun to none_out same = (ap named_out same ∙ sym (else_none (named_out s.out)), tt)
begin_by_tick_out (Some d) s begun to none_out same = (ap (λ (o : Option ℕ). or_else o (Some d)) (sym none_out), tt)

shift_down_out : (setup : Setup) (loss : Option ℕ) (s : PowerState) (to : ℕ) (worn : Option ℕ) → named_out s.out ≡ None → AllOf (IsOutBy (named_out s.out) loss) (shift_down setup loss s to worn)
shift_down_out setup loss s to None none_out = begin_by_tick_out loss s (begun_down to s) to none_out refl
shift_down_out setup loss s to (Some worn) none_out = quietly_out loss (report s 0 (Ration worn)).0 s (named_out s.out) (record { rebuilt = refl; taken = refl }) refl

decide_out : (setup : Setup) (loss : Option ℕ) (s : PowerState) (by : Decision) → named_out s.out ≡ None → AllOf (IsOutBy (named_out s.out) loss) (decide setup loss s by)
decide_out setup loss s Stay none_out = quietly_out loss (report s 0 TickSteady).0 s (named_out s.out) (record { rebuilt = refl; taken = refl }) refl
decide_out setup loss s (DecideUp to) none_out = begin_by_tick_out loss s (begun_up to s) to none_out refl
decide_out setup loss s (DecideDown to) none_out = shift_down_out setup loss s to (first_used_up setup s to) none_out

tick_by_phase_out : (setup : Setup) (loss : Option ℕ) (s : PowerState) (phase : Phase) → named_out s.out ≡ None → AllOf (IsOutBy (named_out s.out) loss) (tick_by_phase setup loss s phase)
tick_by_phase_out setup loss s Steady none_out = decide_out setup loss s (decision setup s.gear s.samples) none_out
tick_by_phase_out setup loss s (Down to) none_out = move_out setup loss s (units_of_tick setup s) (units_of_tick setup s == units_left setup s) none_out
tick_by_phase_out setup loss s (Up to) none_out = move_out setup loss s (units_of_tick setup s) (units_of_tick setup s == units_left setup s) none_out

tick_by_out_out : (setup : Setup) (loss : Option ℕ) (s : PowerState) (o : Out) → s.out ≡ o → AllOf (IsOutBy (named_out s.out) loss) (tick_by_out setup loss s o)
tick_by_out_out setup loss s No is = tick_by_phase_out setup loss s s.phase (ap named_out is)
tick_by_out_out setup loss s (Gone d) is = quietly_out loss (report s 0 Waiting).0 s (named_out s.out) (record { rebuilt = refl; taken = refl }) refl
tick_by_out_out setup loss s (Fresh d rebuilt) is = rebuild_out setup loss s d rebuilt (ap named_out is)

if_same : (P : PowerState → Type 0) (b : Bool) (s t : PowerState) → P s → P t → P (if b then s else t)
if_same P true s t first second = first
if_same P false s t first second = second

read_out : (setup : Setup) (b : ℕ) (s : PowerState) → named_out (block_read setup b s).out ≡ named_out s.out
read_out setup b s =
    let d = home_disk setup.geometry.disks b in
    let r = home_row setup.geometry.disks b in
    let P : PowerState → Type 0 = λ (t : PowerState). named_out t.out ≡ named_out s.out in
    if_same P (is_access setup.mode && nat_le s.gear d && nat_lt d (rising_to s.phase)) (if has_out s.out then s else state_with_bit s r d false) s
    (if_same P (has_out s.out) s (state_with_bit s r d false) refl refl) refl

written_out : (n : ℕ) (blocks : List ℕ) (s : PowerState) → named_out (all_written n blocks s).out ≡ named_out s.out
written_out n [] s = refl
written_out n (b ∷ blocks) s = written_out n blocks (block_written n b s)

-- Which disk is out after an event: it was so before, unless its rebuild has ended; or it was lost
-- or taken out in the event.
pub all_out : (setup : Setup) (h : History) (used : ℕ) (s : PowerState) (event : Event) (loss : Option ℕ) → AllOf (IsOutBy (named_out s.out) loss) (outcomes setup h used s event loss)
unfolding outcomes
all_out setup h used s (Read b) loss = serve_out (first_missing (block_count setup) (b ∷ [])) loss s (λ s. (Value b (after_all h b), with_one_served (block_read setup b s))) (record { answers = λ t. record { rebuilt = refl; taken = refl }; out = λ t. read_out setup b t })
all_out setup h used s (Write pairs) loss = serve_out (first_missing (block_count setup) (blocks_named (pairs_of pairs))) loss s (λ s. (Wrote (length h + 1), with_one_served (all_written setup.geometry.disks (blocks_named (pairs_of pairs)) s))) (record { answers = λ t. record { rebuilt = refl; taken = refl }; out = λ t. written_out setup.geometry.disks (blocks_named (pairs_of pairs)) t })
all_out setup h used s Flush loss = around_out loss s (λ s. (Flushed (length h), s)) (record { answers = λ t. record { rebuilt = refl; taken = refl }; out = λ t. refl })
all_out setup h used s Tick loss = tick_by_out_out setup loss (state_with_tick s) s.out refl
all_out setup h used s AskUp loss = go_up_out setup loss s (next_higher setup.geometry s.gear)
all_out setup h used s AskDown loss = go_down_out setup loss s (next_lower setup.geometry s.gear)
all_out setup h used s (Fail d) loss = all_if (IsOutBy (named_out s.out) loss) (nat_lt d setup.geometry.disks) (take_out loss s d s.out) (quietly loss (NoDisk d) s)
    (λ below. take_out_out loss s d s.out refl) (λ past. quietly_out loss (NoDisk d) s (named_out s.out) (record { rebuilt = refl; taken = refl }) refl)
all_out setup h used s (Replace d) loss = all_if (IsOutBy (named_out s.out) loss) (nat_lt d setup.geometry.disks) (put_in loss s d s.out) (quietly loss (NoDisk d) s)
    (λ below. put_in_out loss s d s.out refl) (λ past. quietly_out loss (NoDisk d) s (named_out s.out) (record { rebuilt = refl; taken = refl }) refl)
all_out setup h used s AskState loss = quietly_out loss (IsState (state_status setup (length h) s) setup.geometry.disks) s (named_out s.out) (record { rebuilt = refl; taken = refl }) refl
all_out setup h used s AskEnergy loss = quietly_out loss (EnergyUsed used) s (named_out s.out) (record { rebuilt = refl; taken = refl }) refl
all_out setup h used s Bad loss = quietly_out loss IsBad s (named_out s.out) (record { rebuilt = refl; taken = refl }) refl

pub step_out : (setup : Setup) (h : History) (used : ℕ) (s : PowerState) (event : Event) (loss : Option ℕ) (answer : Answer) (new : PowerState) → IsEventStep setup h used s event loss answer new
    → named_out new.out ≡ out_by answer loss (named_out s.out)
step_out setup h used s event loss answer new is =
    all_at (IsOutBy (named_out s.out) loss) (outcomes setup h used s event loss) (answer, new) (answer, new) is.among.0 (all_out setup h used s event loss) is.among.1 is.among.2
