-- An event in which no disk fails has one answer, by its causes.
use Rattle.std.proofs.Common.{◌≡◌, ℕ, ◌+◌, ◌<◌, ◌≤◌, true, false, Option, Some, None, refl, sym, ap, ◌∙◌, subst, arith}
use Rattle.paraid_base.specs.declared.block.Block.{Block}
use Rattle.paraid_base.specs.declared.event.Answer.{Answer}
use Rattle.paraid_base.specs.declared.pairs.Pairs.{Pairs}
use Rattle.paraid_base.specs.declared.event.Answer.TheVariants.{Value, NoBlock, Wrote, Flushed, Ticked, Shift, Top, Lowest, Shifting, Failed, Replaced, NoDisk, Out as IsOut, NotOut, NoFresh, Ration as RationUsed, State as IsState, Energy as EnergyUsed, Bad as IsBad, Halted}
use Rattle.paraid_base.specs.declared.event.Event.{Event}
use Rattle.paraid_base.specs.declared.event.Event.TheVariants.{Read, Write, Flush, Tick, Up, Down, Fail, Replace, State as AskState, Energy as AskEnergy, Bad}
use Rattle.paraid_base.specs.declared.fault.Halt.{Halt}
use Rattle.paraid_base.specs.declared.fault.Halt.TheVariants.{Worn}
use Rattle.paraid_base.specs.declared.state.GearReport.{GearReport}
use Rattle.paraid_base.specs.declared.state.Out.{Out}
use Rattle.paraid_base.specs.declared.state.Out.TheVariants.{No, Gone, Fresh}
use Rattle.paraid_base.specs.declared.state.Phase.{Phase}
use Rattle.paraid_base.specs.declared.state.Phase.TheVariants.{Steady as IsSteady, Down as IsDown, Up as IsUp}
use Rattle.paraid_base.specs.declared.state.TickEvent.{TickEvent}
use Rattle.paraid_base.specs.declared.state.TickEvent.TheVariants.{Steady, Waiting, Moving, Flipped, Begun, Rebuilt, Gone as GoneAgain, Lost, Ration}
use Rattle.paraid_base.specs.Log.{worn_at}
use Rattle.paraid_gear.specs.declared.decision.Decision.{Decision}
use Rattle.paraid_gear.specs.declared.decision.Decision.TheVariants.{Down as DecideDown, Stay, Up as DecideUp}
use Rattle.paraid_image.specs.Power.{PowerState}
use Rattle.paraid_image.specs.Mark.{meta_with_lost}
use Rattle.paraid_machine.specs.Moves.{after_flip, after_units, first_used_up, units_left, units_of_tick, units_to_rebuild}
use Rattle.paraid_record.specs.declared.meta.Meta.{Meta}
use Rattle.paraid_session.specs.Turn.{may_halt}
use Rattle.paraid_serve.specs.Alike.{AreAlike, NoneFails}
use Rattle.paraid_serve.specs.Causes.{Advances, Begins, Decides, Does, DoesFail, DoesFlush, DoesRead, DoesReplace, DoesShift, DoesTick, DoesWrite, GoesDown, HasCause, HasReason, MovesBy, MovesOn, ReachesOrLoses, Rebuilds, Shown, Takes, TicksBy, decision_shown, quiet_answer, shown_ticked, state_shown, wear_shown}
use Rattle.paraid_serve.specs.Causes.HasReason.{again, bad, done, quiet, two, worn}

-- what an answer to a request tells
read_form : (block : ℕ) (old new : Shown) (answer : Answer) → DoesRead block old new answer → (bytes : Block) × (answer ≡ Value block bytes)
read_form block old new (Value b bytes) d = (bytes, ap (λ (n : ℕ). Value n bytes) d.0)
read_form block old new (NoBlock b) d = absurd d
read_form block old new (Wrote n) d = absurd d
read_form block old new (Flushed n) d = absurd d
read_form block old new (Ticked report) d = absurd d
read_form block old new (Shift gear to) d = absurd d
read_form block old new Top d = absurd d
read_form block old new Lowest d = absurd d
read_form block old new (Shifting to) d = absurd d
read_form block old new (Failed x) d = absurd d
read_form block old new (Replaced x) d = absurd d
read_form block old new (NoDisk x) d = absurd d
read_form block old new (IsOut x) d = absurd d
read_form block old new (NotOut x) d = absurd d
read_form block old new (NoFresh x) d = absurd d
read_form block old new (RationUsed x) d = absurd d
read_form block old new (IsState status disks) d = absurd d
read_form block old new (EnergyUsed total) d = absurd d
read_form block old new IsBad d = absurd d
read_form block old new (Halted halt) d = absurd d

write_form : (pairs : Pairs) (old new : Shown) (answer : Answer) → DoesWrite pairs old new answer → answer ≡ Wrote (old.meta.writes + 1)
write_form pairs old new (Value b bytes) d = absurd d
write_form pairs old new (NoBlock b) d = absurd d
write_form pairs old new (Wrote n) d = ap Wrote d.0
write_form pairs old new (Flushed n) d = absurd d
write_form pairs old new (Ticked report) d = absurd d
write_form pairs old new (Shift gear to) d = absurd d
write_form pairs old new Top d = absurd d
write_form pairs old new Lowest d = absurd d
write_form pairs old new (Shifting to) d = absurd d
write_form pairs old new (Failed x) d = absurd d
write_form pairs old new (Replaced x) d = absurd d
write_form pairs old new (NoDisk x) d = absurd d
write_form pairs old new (IsOut x) d = absurd d
write_form pairs old new (NotOut x) d = absurd d
write_form pairs old new (NoFresh x) d = absurd d
write_form pairs old new (RationUsed x) d = absurd d
write_form pairs old new (IsState status disks) d = absurd d
write_form pairs old new (EnergyUsed total) d = absurd d
write_form pairs old new IsBad d = absurd d
write_form pairs old new (Halted halt) d = absurd d

flush_form : (old new : Shown) (answer : Answer) → DoesFlush old new answer → answer ≡ Flushed old.meta.writes
flush_form old new (Value b bytes) d = absurd d
flush_form old new (NoBlock b) d = absurd d
flush_form old new (Wrote n) d = absurd d
flush_form old new (Flushed n) d = ap Flushed d.0
flush_form old new (Ticked report) d = absurd d
flush_form old new (Shift gear to) d = absurd d
flush_form old new Top d = absurd d
flush_form old new Lowest d = absurd d
flush_form old new (Shifting to) d = absurd d
flush_form old new (Failed x) d = absurd d
flush_form old new (Replaced x) d = absurd d
flush_form old new (NoDisk x) d = absurd d
flush_form old new (IsOut x) d = absurd d
flush_form old new (NotOut x) d = absurd d
flush_form old new (NoFresh x) d = absurd d
flush_form old new (RationUsed x) d = absurd d
flush_form old new (IsState status disks) d = absurd d
flush_form old new (EnergyUsed total) d = absurd d
flush_form old new IsBad d = absurd d
flush_form old new (Halted halt) d = absurd d

-- a shift that is asked for begins, or a disk has failed
shift_form : (next : Option ℕ) (begins : ℕ → Type 0) (old new : Shown) (answer : Answer) → NoneFails old new → DoesShift next begins old new answer → (to : ℕ) × (next ≡ Some to) × (answer ≡ Shift old.meta.gear to)
shift_form next begins old new (Value b bytes) none d = absurd d
shift_form next begins old new (NoBlock b) none d = absurd d
shift_form next begins old new (Wrote n) none d = absurd d
shift_form next begins old new (Flushed n) none d = absurd d
shift_form next begins old new (Ticked report) none d = absurd d
shift_form next begins old new (Shift gear to) none d = (to, d.2, ap (λ (n : ℕ). Shift n to) d.1)
shift_form next begins old new Top none d = absurd d
shift_form next begins old new Lowest none d = absurd d
shift_form next begins old new (Shifting to) none d = absurd d
shift_form next begins old new (Failed x) none d = absurd d
shift_form next begins old new (Replaced x) none d = absurd d
shift_form next begins old new (NoDisk x) none d = absurd d
shift_form next begins old new (IsOut x) none d = absurd (none x d.failed)
shift_form next begins old new (NotOut x) none d = absurd d
shift_form next begins old new (NoFresh x) none d = absurd d
shift_form next begins old new (RationUsed x) none d = absurd d
shift_form next begins old new (IsState status disks) none d = absurd d
shift_form next begins old new (EnergyUsed total) none d = absurd d
shift_form next begins old new IsBad none d = absurd d
shift_form next begins old new (Halted halt) none d = absurd d

fail_form : (disk : ℕ) (old new : Shown) (answer : Answer) → NoneFails old new → DoesFail disk old new answer → answer ≡ Failed disk
fail_form disk old new (Value b bytes) none d = absurd d
fail_form disk old new (NoBlock b) none d = absurd d
fail_form disk old new (Wrote n) none d = absurd d
fail_form disk old new (Flushed n) none d = absurd d
fail_form disk old new (Ticked report) none d = absurd d
fail_form disk old new (Shift gear to) none d = absurd d
fail_form disk old new Top none d = absurd d
fail_form disk old new Lowest none d = absurd d
fail_form disk old new (Shifting to) none d = absurd d
fail_form disk old new (Failed x) none d = ap Failed d.0
fail_form disk old new (Replaced x) none d = absurd d
fail_form disk old new (NoDisk x) none d = absurd d
fail_form disk old new (IsOut x) none d = absurd (none x d.1.failed)
fail_form disk old new (NotOut x) none d = absurd d
fail_form disk old new (NoFresh x) none d = absurd d
fail_form disk old new (RationUsed x) none d = absurd d
fail_form disk old new (IsState status disks) none d = absurd d
fail_form disk old new (EnergyUsed total) none d = absurd d
fail_form disk old new IsBad none d = absurd d
fail_form disk old new (Halted halt) none d = absurd d

replace_form : (disk : ℕ) (old new : Shown) (answer : Answer) → NoneFails old new → DoesReplace disk old new answer → answer ≡ Replaced disk
replace_form disk old new (Value b bytes) none d = absurd d
replace_form disk old new (NoBlock b) none d = absurd d
replace_form disk old new (Wrote n) none d = absurd d
replace_form disk old new (Flushed n) none d = absurd d
replace_form disk old new (Ticked report) none d = absurd d
replace_form disk old new (Shift gear to) none d = absurd d
replace_form disk old new Top none d = absurd d
replace_form disk old new Lowest none d = absurd d
replace_form disk old new (Shifting to) none d = absurd d
replace_form disk old new (Failed x) none d = absurd d
replace_form disk old new (Replaced x) none d = ap Replaced d.0
replace_form disk old new (NoDisk x) none d = absurd d
replace_form disk old new (IsOut x) none d = absurd d
replace_form disk old new (NotOut x) none d = absurd d
replace_form disk old new (NoFresh x) none d = absurd (none disk d.1)
replace_form disk old new (RationUsed x) none d = absurd d
replace_form disk old new (IsState status disks) none d = absurd d
replace_form disk old new (EnergyUsed total) none d = absurd d
replace_form disk old new IsBad none d = absurd d
replace_form disk old new (Halted halt) none d = absurd d

tick_form : (old new : Shown) (answer : Answer) → DoesTick old new answer → (report : GearReport) × (answer ≡ Ticked report) × Advances old new report
tick_form old new (Value b bytes) d = absurd d
tick_form old new (NoBlock b) d = absurd d
tick_form old new (Wrote n) d = absurd d
tick_form old new (Flushed n) d = absurd d
tick_form old new (Ticked report) d = (report, refl, d)
tick_form old new (Shift gear to) d = absurd d
tick_form old new Top d = absurd d
tick_form old new Lowest d = absurd d
tick_form old new (Shifting to) d = absurd d
tick_form old new (Failed x) d = absurd d
tick_form old new (Replaced x) d = absurd d
tick_form old new (NoDisk x) d = absurd d
tick_form old new (IsOut x) d = absurd d
tick_form old new (NotOut x) d = absurd d
tick_form old new (NoFresh x) d = absurd d
tick_form old new (RationUsed x) d = absurd d
tick_form old new (IsState status disks) d = absurd d
tick_form old new (EnergyUsed total) d = absurd d
tick_form old new IsBad d = absurd d
tick_form old new (Halted halt) d = absurd d

-- What a tick of a shift tells where no disk fails: as many units as it may move, of more; or the last ones.
data MovesSo (old new : Shown) (count : ℕ) (event : TickEvent) : Type 0 where
  moving : event ≡ Moving → count ≡ units_of_tick old.setup (state_shown old) → count < units_left old.setup (state_shown old)
      → new.meta.gear ≡ (after_units old.setup count (state_shown old)).gear → MovesSo old new count event
  flipped : event ≡ Flipped → count ≡ units_left old.setup (state_shown old) → count ≤ units_of_tick old.setup (state_shown old)
      → new.meta.gear ≡ (after_flip (after_units old.setup count (state_shown old))).gear → MovesSo old new count event

flipped_gear : (old new : Shown) (s : PowerState) (lost : Option ℕ) → NoneFails old new → ReachesOrLoses old new s lost → new.meta.gear ≡ s.gear
flipped_gear old new s None none d = ap (λ (m : Meta). m.gear) d.meta
flipped_gear old new s (Some x) none d = absurd (none x d.0)

moves_form : (old new : Shown) (count : ℕ) (event : TickEvent) → NoneFails old new → MovesOn old new count event → MovesSo old new count event
moves_form old new count Steady none d = absurd d
moves_form old new count Waiting none d = absurd d
moves_form old new count Moving none d = moving refl d.0 d.1 (ap (λ (m : Meta). m.gear) d.2.meta)
moves_form old new count Flipped none d = flipped refl d.0 d.1 (flipped_gear old new (after_flip (after_units old.setup count (state_shown old))) d.2.0 none d.2.1)
moves_form old new count (Begun to) none d = absurd d
moves_form old new count (Rebuilt e) none d = absurd d
moves_form old new count (GoneAgain e) none d = absurd d
moves_form old new count (Lost e) none d = absurd (none e d.1)
moves_form old new count (Ration e) none d = absurd d

-- What a tick of a rebuild tells where no disk fails.
data RebuildsSo (d rebuilt : ℕ) (old new : Shown) (count : ℕ) (event : TickEvent) : Type 0 where
  moving : event ≡ Moving → count ≡ old.setup.rate → old.setup.rate < units_to_rebuild old.setup (state_shown old) d rebuilt → new.meta.gear ≡ old.meta.gear
      → RebuildsSo d rebuilt old new count event
  ended : event ≡ Rebuilt d → count ≡ units_to_rebuild old.setup (state_shown old) d rebuilt → count ≤ old.setup.rate → new.meta.gear ≡ old.meta.gear
      → RebuildsSo d rebuilt old new count event

rebuilds_form : (d rebuilt : ℕ) (old new : Shown) (count : ℕ) (event : TickEvent) → NoneFails old new → Rebuilds d rebuilt old new count event → RebuildsSo d rebuilt old new count event
rebuilds_form d rebuilt old new count Steady none it = absurd it
rebuilds_form d rebuilt old new count Waiting none it = absurd it
rebuilds_form d rebuilt old new count Moving none it = moving refl it.0 it.1 (ap (λ (m : Meta). m.gear) it.2.meta)
rebuilds_form d rebuilt old new count Flipped none it = absurd it
rebuilds_form d rebuilt old new count (Begun to) none it = absurd it
rebuilds_form d rebuilt old new count (Rebuilt e) none it = ended (ap Rebuilt it.0) it.1 it.2 (ap (λ (m : Meta). m.gear) it.3.meta)
rebuilds_form d rebuilt old new count (GoneAgain e) none it = absurd (none d it.2)
rebuilds_form d rebuilt old new count (Lost e) none it = absurd it
rebuilds_form d rebuilt old new count (Ration e) none it = absurd it

-- two ticks tell the same
record TellsSame (x y : Shown) (m n : ℕ) (e f : TickEvent) : Type 0 where
  count : m ≡ n
  event : e ≡ f
  gear : x.meta.gear ≡ y.meta.gear

below : (m n k : ℕ) → m < n → n ≤ m → k ≡ m → ⊥
below m n k l h is = let z : m < m = omega (arith, l, h) in omega (arith, z)

module _ (old x y : Shown) (none_x : NoneFails old x) (none_y : NoneFails old y) where
  moves_same : (m n : ℕ) (e f : TickEvent) → MovesSo old x m e → MovesSo old y n f → TellsSame x y m n e f
  moves_same m n e f (moving is few more gear) (moving is2 few2 more2 gear2) =
      let same : m ≡ n = few ∙ sym few2 in
      record { count = same; event = is ∙ sym is2; gear = gear ∙ ap (λ (c : ℕ). (after_units old.setup c (state_shown old)).gear) same ∙ sym gear2 }
  moves_same m n e f (moving is few more gear) (flipped is2 all2 most2 gear2) = absurd (omega (arith, few, more, all2, most2))
  moves_same m n e f (flipped is all most gear) (moving is2 few2 more2 gear2) = absurd (omega (arith, all, most, few2, more2))
  moves_same m n e f (flipped is all most gear) (flipped is2 all2 most2 gear2) =
      let same : m ≡ n = all ∙ sym all2 in
      record { count = same; event = is ∙ sym is2; gear = gear ∙ ap (λ (c : ℕ). (after_flip (after_units old.setup c (state_shown old))).gear) same ∙ sym gear2 }

  rebuilds_same : (d rebuilt m n : ℕ) (e f : TickEvent) → RebuildsSo d rebuilt old x m e → RebuildsSo d rebuilt old y n f → TellsSame x y m n e f
  rebuilds_same d rebuilt m n e f (moving is few more gear) (moving is2 few2 more2 gear2) = record { count = few ∙ sym few2; event = is ∙ sym is2; gear = gear ∙ sym gear2 }
  rebuilds_same d rebuilt m n e f (moving is few more gear) (ended is2 all2 most2 gear2) = absurd (omega (arith, few, more, all2, most2))
  rebuilds_same d rebuilt m n e f (ended is all most gear) (moving is2 few2 more2 gear2) = absurd (omega (arith, all, most, few2, more2))
  rebuilds_same d rebuilt m n e f (ended is all most gear) (ended is2 all2 most2 gear2) = record { count = all ∙ sym all2; event = is ∙ sym is2; gear = gear ∙ sym gear2 }

  marked_gear : (lost : Option ℕ) (m : Meta) → (meta_with_lost lost m).gear ≡ m.gear
  marked_gear None m = refl
  marked_gear (Some d) m = refl

  begun_gear : (new : Shown) (phase : Phase) (raised : ℕ → ℕ) → Begins old new phase raised → new.meta.gear ≡ old.meta.gear
  begun_gear new phase raised b = ap (λ (m : Meta). m.gear) b.is ∙ marked_gear b.lost (record old.meta { phase = phase; fill = 0 })

  down_same : (worn : Option ℕ) (to m n : ℕ) (e f : TickEvent) → m ≡ 0 → n ≡ 0 → GoesDown worn to old x e → GoesDown worn to old y f → TellsSame x y m n e f
  down_same None to m n e f is is2 a b = record { count = is ∙ sym is2; event = a.0 ∙ sym b.0; gear = begun_gear x _ _ a.1 ∙ sym (begun_gear y _ _ b.1) }
  down_same (Some d) to m n e f is is2 a b = record { count = is ∙ sym is2; event = a.0 ∙ sym b.0; gear = ap (λ (m : Meta). m.gear) a.1.meta ∙ sym (ap (λ (m : Meta). m.gear) b.1.meta) }

  decides_same : (made : Decision) (m n : ℕ) (e f : TickEvent) → m ≡ 0 → n ≡ 0 → Decides made old x e → Decides made old y f → TellsSame x y m n e f
  decides_same Stay m n e f is is2 a b = record { count = is ∙ sym is2; event = a.0 ∙ sym b.0; gear = ap (λ (m : Meta). m.gear) a.1.meta ∙ sym (ap (λ (m : Meta). m.gear) b.1.meta) }
  decides_same (DecideUp to) m n e f is is2 a b = record { count = is ∙ sym is2; event = a.0 ∙ sym b.0; gear = begun_gear x _ _ a.1 ∙ sym (begun_gear y _ _ b.1) }
  decides_same (DecideDown to) m n e f is is2 a b = down_same (first_used_up old.setup (state_shown old) to) to m n e f is is2 a b

  by_phase : (phase : Phase) (m n : ℕ) (e f : TickEvent) → MovesBy phase old x m e → MovesBy phase old y n f → TellsSame x y m n e f
  by_phase IsSteady m n e f a b = decides_same (decision_shown old) m n e f a.0 b.0 a.1 b.1
  by_phase (IsDown to) m n e f a b = moves_same m n e f (moves_form old x m e none_x a) (moves_form old y n f none_y b)
  by_phase (IsUp to) m n e f a b = moves_same m n e f (moves_form old x m e none_x a) (moves_form old y n f none_y b)

  by_out : (out : Out) (m n : ℕ) (e f : TickEvent) → TicksBy out old x m e → TicksBy out old y n f → TellsSame x y m n e f
  by_out No m n e f a b = by_phase old.meta.phase m n e f a b
  by_out (Gone d) m n e f a b = record { count = a.0 ∙ sym b.0; event = a.1 ∙ sym b.1; gear = ap (λ (m : Meta). m.gear) a.2.meta ∙ sym (ap (λ (m : Meta). m.gear) b.2.meta) }
  by_out (Fresh d rebuilt) m n e f a b = rebuilds_same d rebuilt m n e f (rebuilds_form d rebuilt old x m e none_x a) (rebuilds_form d rebuilt old y n f none_y b)

same_report : (p q : GearReport) → p.gear ≡ q.gear → p.moved ≡ q.moved → p.event ≡ q.event → p ≡ q
same_report p q gear moved event =
    ap (λ (n : ℕ). told n p.moved p.event) gear ∙ ap (λ (n : ℕ). told q.gear n p.event) moved ∙ ap (λ (e : TickEvent). told q.gear q.moved e) event
  where
    told : ℕ → ℕ → TickEvent → GearReport
    told gear moved event = record { gear = gear; moved = moved; event = event }

-- the same tick, told
ticks_same : (old x y : Shown) → NoneFails old x → NoneFails old y → (p q : GearReport) → Advances old x p → Advances old y q → p ≡ q
ticks_same old x y none_x none_y p q a b =
    let t = by_out (shown_ticked old) x y none_x none_y old.meta.out p.moved q.moved p.event q.event a.by b.by in
    same_report p q (a.gear ∙ t.gear ∙ sym b.gear) t.count t.event

alike_same : (a b : Answer) → a ≡ b → AreAlike a b
alike_same a b is = subst (λ (z : Answer). AreAlike a z) is (by a)
  where
    by : (a : Answer) → AreAlike a a
    by (Value b bytes) = refl
    by (NoBlock b) = refl
    by (Wrote n) = refl
    by (Flushed n) = refl
    by (Ticked report) = refl
    by (Shift gear to) = refl
    by Top = refl
    by Lowest = refl
    by (Shifting to) = refl
    by (Failed x) = refl
    by (Replaced x) = refl
    by (NoDisk x) = refl
    by (IsOut x) = refl
    by (NotOut x) = refl
    by (NoFresh x) = refl
    by (RationUsed x) = refl
    by (IsState status disks) = refl
    by (EnergyUsed total) = refl
    by IsBad = refl
    by (Halted halt) = refl

-- an event that is served so has one answer
module _ (old x y : Shown) (none_x : NoneFails old x) (none_y : NoneFails old y) where
  shifts_same : (next : Option ℕ) (begins_x begins_y : ℕ → Type 0) (a b : Answer) → DoesShift next begins_x old x a → DoesShift next begins_y old y b → a ≡ b
  shifts_same next begins_x begins_y a b p q =
      let s = shift_form next begins_x old x a none_x p in
      let t = shift_form next begins_y old y b none_y q in
      let one : s.0 ≡ t.0 = let z : Some s.0 ≡ Some t.0 = sym s.1 ∙ t.1 in cc in
      s.2 ∙ ap (λ (n : ℕ). Shift old.meta.gear n) one ∙ sym t.2

  does_same : (event : Event) (a b : Answer) → Does old event a x → Does old event b y → AreAlike a b
  does_same (Read block) a b p q =
      let s = read_form block old x a p in
      let t = read_form block old y b q in
      subst (λ (z : Answer). AreAlike z b) (sym s.1) (subst (λ (z : Answer). AreAlike (Value block s.0) z) (sym t.1) refl)
  does_same (Write pairs) a b p q = alike_same a b (write_form pairs old x a p ∙ sym (write_form pairs old y b q))
  does_same Flush a b p q = alike_same a b (flush_form old x a p ∙ sym (flush_form old y b q))
  does_same Tick a b p q =
      let s = tick_form old x a p in
      let t = tick_form old y b q in
      alike_same a b (s.1 ∙ ap Ticked (ticks_same old x y none_x none_y s.0 t.0 s.2 t.2) ∙ sym t.1)
  does_same Up a b p q = alike_same a b (shifts_same _ _ _ a b p q)
  does_same Down a b p q = alike_same a b (shifts_same _ _ _ a b p q)
  does_same (Fail d) a b p q = alike_same a b (fail_form d old x a none_x p ∙ sym (fail_form d old y b none_y q))
  does_same (Replace d) a b p q = alike_same a b (replace_form d old x a none_x p ∙ sym (replace_form d old y b none_y q))
  does_same AskState a b p q = absurd p
  does_same AskEnergy a b p q = absurd p
  does_same Bad a b p q = absurd p

worn_not : (n : ℕ) → worn_at ≤ n → n < worn_at → ⊥
worn_not n many few = omega (arith, many, few)

-- Without a failure an event has one answer.
pub one_answer : (old x y : Shown) (event : Event) (a b : Answer) → NoneFails old x → NoneFails old y → HasCause old event a x → HasCause old event b y → AreAlike a b
one_answer old x y event a b none_x none_y cause other = by cause.reason other.reason
  where
    halted : (h : Halt) → old.halt ≡ Some h → old.halt ≡ None → ⊥
    halted h some none = let z : Some h ≡ None = sym some ∙ none in cc

    told : (p q : Answer) → a ≡ p → b ≡ q → p ≡ q → AreAlike a b
    told p q is is2 same = alike_same a b (is ∙ same ∙ sym is2)

    fits : (count : ℕ) → may_halt event ≡ true → worn_at ≤ count → count ≡ wear_shown old → Takes old event → ⊥
    fits count asked many is takes = worn_not (wear_shown old) (subst (λ (n : ℕ). worn_at ≤ n) is many) (takes.fit asked)

    no_event : event ≡ Bad → may_halt event ≡ true → ⊥
    no_event is asked = let z : false ≡ true = sym (ap may_halt is) ∙ asked in cc

    quiet_bad : event ≡ Bad → (c : Answer) → quiet_answer old event ≡ Some c → ⊥
    quiet_bad is c some = let z : None ≡ Some c = sym (ap (quiet_answer old) is) ∙ some in cc

    does_bad : (new : Shown) (c : Answer) → event ≡ Bad → Does old event c new → ⊥
    does_bad new c is does = subst (λ (e : Event). Does old e c new) is does

    busy_quiet : (c : Answer) → quiet_answer old event ≡ Some c → quiet_answer old event ≡ None → ⊥
    busy_quiet c some none = let z : Some c ≡ None = sym some ∙ none in cc

    by : HasReason old event a x → HasReason old event b y → AreAlike a b
    by (again h was good is same) (again k was2 good2 is2 same2) = told (Halted h) (Halted k) is is2 (ap Halted (let z : Some h ≡ Some k = sym was ∙ was2 in cc))
    by (again h was good is same) (worn count going asked many wear is2 same2) = absurd (halted h was going)
    by (again h was good is same) (quiet takes is2 same2) = absurd (halted h was takes.going)
    by (again h was good is same) (done takes busy does) = absurd (halted h was takes.going)
    by (again h was good is same) (two pair takes asked busy is2 lost used) = absurd (halted h was takes.going)
    by (again h was good is same) (bad not is2 same2) = absurd (good not)
    by (worn count going asked many wear is same) (again k was good is2 same2) = absurd (halted k was going)
    by (worn count going asked many wear is same) (worn count2 going2 asked2 many2 wear2 is2 same2) = told (Halted (Worn count)) (Halted (Worn count2)) is is2 (ap (λ (n : ℕ). Halted (Worn n)) (wear ∙ sym wear2))
    by (worn count going asked many wear is same) (quiet takes is2 same2) = absurd (fits count asked many wear takes)
    by (worn count going asked many wear is same) (done takes busy does) = absurd (fits count asked many wear takes)
    by (worn count going asked many wear is same) (two pair takes asked2 busy is2 lost used) = absurd (fits count asked many wear takes)
    by (worn count going asked many wear is same) (bad not is2 same2) = absurd (no_event not asked)
    by (quiet takes is same) (again k was good is2 same2) = absurd (halted k was takes.going)
    by (quiet takes is same) (worn count going asked many wear is2 same2) = absurd (fits count asked many wear takes)
    by (quiet takes is same) (quiet takes2 is2 same2) = alike_same a b (let z : Some a ≡ Some b = sym is ∙ is2 in cc)
    by (quiet takes is same) (done takes2 busy does) = absurd (busy_quiet a is busy)
    by (quiet takes is same) (two pair takes2 asked busy is2 lost used) = absurd (busy_quiet a is busy)
    by (quiet takes is same) (bad not is2 same2) = absurd (quiet_bad not a is)
    by (done takes busy does) (again k was good is2 same2) = absurd (halted k was takes.going)
    by (done takes busy does) (worn count going asked many wear is2 same2) = absurd (fits count asked many wear takes)
    by (done takes busy does) (quiet takes2 is2 same2) = absurd (busy_quiet b is2 busy)
    by (done takes busy does) (done takes2 busy2 does2) = does_same old x y none_x none_y event a b does does2
    by (done takes busy does) (two pair takes2 asked busy2 is2 lost used) = absurd (none_y pair.second lost.second)
    by (done takes busy does) (bad not is2 same2) = absurd (does_bad x a not does)
    by (two pair takes asked busy is lost used) other_reason = absurd (none_x pair.second lost.second)
    by (bad not is same) (again k was good is2 same2) = absurd (good not)
    by (bad not is same) (worn count going asked many wear is2 same2) = absurd (no_event not asked)
    by (bad not is same) (quiet takes is2 same2) = absurd (quiet_bad not b is2)
    by (bad not is same) (done takes busy does) = absurd (does_bad y b not does)
    by (bad not is same) (two pair takes asked busy is2 lost used) = absurd (none_y pair.second lost.second)
    by (bad not is same) (bad not2 is2 same2) = told IsBad IsBad is is2 refl
