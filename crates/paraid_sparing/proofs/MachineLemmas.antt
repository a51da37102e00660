-- What an event may add to the spin-ups that a state has recorded, by its answer.
use Rattle.std.proofs.Common.{◌≡◌, ℕ, ◌+◌, ◌*◌, ◌<◌, ◌≤◌, zero, suc, Bool, true, false, List, [], ◌∷◌, ◌++◌, length, Option, Some, None, refl, sym, ap, ◌∙◌, subst, arith}
use Rattle.std.specs.Prelude.{◌==◌, ◌&&◌, nat_le, nat_lt, min, slice_index, slice_index_or, Contains, if◌then◌else◌}
use Rattle.std.proofs.lemmas.Bool.{and_from, le-leb}
use Rattle.paraid_base.specs.declared.event.Answer.{Answer}
use Rattle.paraid_base.specs.declared.event.Answer.TheVariants.{Value, NoBlock, Wrote, Flushed, Shift, Top, Lowest, Failed, Replaced, NoDisk, Out as IsOut, NotOut, NoFresh}
use Rattle.paraid_base.specs.declared.event.Event.{Event}
use Rattle.paraid_base.specs.declared.event.Event.TheVariants.{Read, Write, Flush, Tick, Up as AskUp, Down as AskDown, Fail, Replace, State as AskState, Energy as AskEnergy, Bad}
use Rattle.paraid_base.specs.declared.geometry.Geometry.{Geometry}
use Rattle.paraid_base.specs.declared.state.Out.{Out}
use Rattle.paraid_base.specs.declared.state.Out.TheVariants.{No, Gone, Fresh}
use Rattle.paraid_base.specs.declared.state.Phase.{Phase}
use Rattle.paraid_base.specs.declared.state.Phase.TheVariants.{Steady, Down, Up}
use Rattle.paraid_base.specs.declared.state.TickEvent.TheVariants.{Steady as TickSteady, Waiting, Moving, Flipped, Begun, Rebuilt, Gone as GoneAgain, Lost, Ration}
use Rattle.paraid_base.specs.Gears.{first_from, is_gear, next_higher, next_lower}
use Rattle.paraid_base.specs.History.{History, after_all}
use Rattle.paraid_base.specs.Pairs.{pairs_of}
use Rattle.paraid_gear.specs.declared.decision.Decision.{Decision}
use Rattle.paraid_gear.specs.declared.decision.Decision.TheVariants.{Stay, Up as DecideUp, Down as DecideDown}
use Rattle.paraid_gear.specs.Decision.{decision, first_of_both, gear_down_for, gear_up_for, in_every_window}
use Rattle.paraid_gear.specs.Window.{is_busy, is_full}
use Rattle.paraid_record.specs.declared.meta.Setup.{Setup}
use Rattle.paraid_image.specs.Power.{PowerState}
use Rattle.paraid_machine.specs.Machine.{IsEventStep, Outcomes, around, around_loss, begin, begin_by_tick, block_count, blocks_named, decide, first_missing, go_down, go_up, if_alone, lost_within, move, outcomes, put_in, quietly, ration_refusal, rebuild, refresh, refusal_else, report, serve, shift_down, shift_refusal, take_out, tick_by_out, tick_by_phase, with_fresh_disk, without_fresh_disk}
use Rattle.paraid_machine.specs.Moves.{after_flip, after_loss, after_unit, after_units, all_written, begun_down, begun_up, block_read, first_dirty, first_used_up, state_with_tick, units_left, units_of_tick, units_to_rebuild, with_one_served, with_spin_ups, with_spins, without_spin_ups}
use Rattle.paraid_spare.specs.Pools.{is_among}
use Rattle.paraid_sparing.specs.Sparing.{rise_to, spun_by}
use Rattle.paraid_sparing.specs.Spinning.{spun_count}

-- Of a disk no more spin-ups are recorded than its answer says.
abbrev Grows : PowerState → Answer × PowerState → Type 0
Grows s o = (d : ℕ) → slice_index o.1.spins d ≤ slice_index s.spins d + spun_count (spun_by o.0) d

abbrev AllGrow : PowerState → Outcomes → Type 0
AllGrow s [] = Unit {0}
AllGrow s (o ∷ os) = Grows s o × AllGrow s os

of_all : (s : PowerState) (os : Outcomes) (x : Answer × PowerState) → AllGrow s os → Contains os x → Grows s x
of_all s [] x all is = absurd (let l = is.1 in omega (arith, l))
of_all s (o ∷ os) x all is = by is.0 is.1 is.2 (λ later. of_all s os x all.1 later)
  where
    by : (n : ℕ) → n < length (o ∷ os) → slice_index_or (o ∷ os) n x ≡ x → (Contains os x → Grows s x) → Grows s x
    by zero low at rest = subst (Grows s) at all.0
    by (suc n) low at rest = rest (n, omega (arith, low), at)

same_grows : (s n : PowerState) (a : Answer) → n.spins ≡ s.spins → Grows s (a, n)
same_grows s n a is d = let e = ap (λ (l : List ℕ). slice_index l d) is in omega (arith, e)

less_grows : (s n : PowerState) (a : Answer) → ((d : ℕ) → slice_index n.spins d ≤ slice_index s.spins d) → Grows s (a, n)
less_grows s n a less d = let e = less d in omega (arith, e)

if_grows : (s : PowerState) (c : Bool) (x y : Answer × PowerState) → Grows s x → Grows s y → Grows s (if c then x else y)
if_grows s true x y a b = a
if_grows s false x y a b = b

if_all : (s : PowerState) (c : Bool) (x y : Outcomes) → AllGrow s x → AllGrow s y → AllGrow s (if c then x else y)
if_all s true x y a b = a
if_all s false x y a b = b

if_spins : (c : Bool) (x y : PowerState) (l : List ℕ) → x.spins ≡ l → y.spins ≡ l → (if c then x else y).spins ≡ l
if_spins true x y l a b = a
if_spins false x y l a b = b

append_all : (s : PowerState) (x y : Outcomes) → AllGrow s x → AllGrow s y → AllGrow s (x ++ y)
append_all s [] y a b = b
append_all s (o ∷ x) y a b = (a.0, append_all s x y a.1 b)

unit_spins : (s : PowerState) (o : Option ℕ) → (after_unit s o).spins ≡ s.spins
unit_spins s (Some c) = refl
unit_spins s None = refl

units_spins : (setup : Setup) (m : ℕ) (s : PowerState) → (after_units setup m s).spins ≡ s.spins
units_spins setup zero s = refl
units_spins setup (suc m) s = units_spins setup m (after_unit s (first_dirty setup s)) ∙ unit_spins s (first_dirty setup s)

written_spins : (n : ℕ) (bs : List ℕ) (s : PowerState) → (all_written n bs s).spins ≡ s.spins
written_spins n [] s = refl
written_spins n (b ∷ bs) s = written_spins n bs _

read_spins : (setup : Setup) (b : ℕ) (s : PowerState) → (block_read setup b s).spins ≡ s.spins
read_spins setup b s = if_spins _ _ s s.spins (if_spins _ s _ s.spins refl refl) refl

quiet_all : (s n : PowerState) (loss : Option ℕ) (a : Answer) → n.spins ≡ s.spins → AllGrow s (quietly loss a n)
quiet_all s n None a is = (same_grows s n a is, tt)
quiet_all s n (Some d) a is = tt

alone_all : (s : PowerState) (o : Out) (d : ℕ) (os : Outcomes) → AllGrow s os → AllGrow s (if_alone o d os)
alone_all s No d os all = all
alone_all s (Gone e) d os all = if_all s (d == e) os [] all tt
alone_all s (Fresh e u) d os all = if_all s (d == e) os [] all tt

around_all : (loss : Option ℕ) (s : PowerState) (f : PowerState → Answer × PowerState) → ((t : PowerState) → (f t).1.spins ≡ t.spins) → AllGrow s (around loss s f)
around_all None s f keeps = (same_grows s (f s).1 (f s).0 (keeps s), tt)
around_all (Some d) s f keeps = alone_all s s.out d (around_loss d s f) (same_grows s (f (after_loss s d)).1 (f (after_loss s d)).0 (keeps (after_loss s d)), (same_grows s (after_loss (f s).1 d) (f s).0 (keeps s), tt))

serve_all : (missing loss : Option ℕ) (s : PowerState) (f : PowerState → Answer × PowerState) → ((t : PowerState) → (f t).1.spins ≡ t.spins) → AllGrow s (serve missing loss s f)
serve_all (Some b) loss s f keeps = quiet_all s s loss (NoBlock b) refl
serve_all None loss s f keeps = around_all loss s f keeps

begin_all : (refusal : Option Answer) (loss : Option ℕ) (s : PowerState) (to : ℕ) (begun : PowerState) → Grows s (Shift s.gear to, begun) → AllGrow s (begin refusal loss s to begun)
begin_all (Some a) loss s to begun grows = quiet_all s s loss a refl
begin_all None None s to begun grows = (grows, tt)
begin_all None (Some d) s to begun grows = (same_grows s (after_loss s d) (IsOut d) refl, ((λ e. grows e), tt))

-- a shift up records one more of each disk that comes up
one_more : (b : Bool) (c : ℕ) → (if b then c + 1 else c) ≤ c + (if b then 1 else 0)
one_more true c = omega arith
one_more false c = omega arith

at_zero : (n : ℕ) → n ≡ n + 0
at_zero n = omega arith

at_next : (n d : ℕ) → suc n + d ≡ n + suc d
at_next n d = omega arith

ups_list : (lo hi at : ℕ) (l : List ℕ) (d : ℕ) → slice_index (with_spins (λ e count. if nat_le lo e && nat_lt e hi then count + 1 else count) at l) d ≤ slice_index l d + is_among lo hi (at + d)
ups_list lo hi at [] d = omega arith
ups_list lo hi at (c ∷ l) zero = subst (λ (n : ℕ). (if nat_le lo at && nat_lt at hi then c + 1 else c) ≤ c + is_among lo hi n) (at_zero at) (one_more (nat_le lo at && nat_lt at hi) c)
ups_list lo hi at (c ∷ l) (suc d) = subst (λ (n : ℕ). slice_index (with_spins (λ e count. if nat_le lo e && nat_lt e hi then count + 1 else count) (suc at) l) d ≤ slice_index l d + is_among lo hi n) (at_next at d) (ups_list lo hi (suc at) l d)

no_more : (b : Bool) (c : ℕ) → (if b then 0 else c) ≤ c
no_more true c = omega arith
no_more false c = omega arith

-- a disk that is replaced has none
less_list : (d at : ℕ) (l : List ℕ) (x : ℕ) → slice_index (with_spins (λ e count. if e == d then 0 else count) at l) x ≤ slice_index l x
less_list d at [] x = omega arith
less_list d at (c ∷ l) zero = no_more (at == d) c
less_list d at (c ∷ l) (suc x) = less_list d (suc at) l x

less_spins : (s n : PowerState) (a : Answer) (d : ℕ) → n.spins ≡ without_spin_ups d s.spins → Grows s (a, n)
less_spins s n a d is = less_grows s n a (λ x. subst (λ (l : List ℕ). slice_index l x ≤ slice_index s.spins x) (sym is) (less_list d 0 s.spins x))

zero_plus : (d : ℕ) → 0 + d ≡ d
zero_plus d = omega arith

-- the next higher gear
found : (p : ℕ → Bool) (at n to : ℕ) → first_from p at n ≡ Some to → (at ≤ to) × (p to ≡ true)
unfolding first_from
found p at zero to is = absurd (let z : None ≡ Some to = is in cc)
found p at (suc n) to is = by (p at) refl is (λ e. found p (at + 1) n to e)
  where
    by : (t : Bool) → p at ≡ t → (if t then Some at else first_from p (at + 1) n) ≡ Some to → (first_from p (at + 1) n ≡ Some to → (at + 1 ≤ to) × (p to ≡ true)) → (at ≤ to) × (p to ≡ true)
    by true here e rest = let z : Some at ≡ Some to = e in let same : at ≡ to = cc in (omega (arith, same), subst (λ (x : ℕ). p x ≡ true) same here)
    by false here e rest = let f = rest e in let l = f.0 in (omega (arith, l), f.1)

up_rises : (g : Geometry) (gear to : ℕ) → next_higher g gear ≡ Some to → rise_to gear to ≡ Some (gear, to)
up_rises g gear to is =
    let f = found (is_gear g) (gear + 1) 8 to is in
    let from = f.0 in
    let most = g.gears_high to f.1 in
    let eight = g.disks_high in
    ap (λ (t : Bool). if t then Some (gear, to) else None) (and_from (nat_le gear to) (nat_le to 8) (le-leb gear to (omega (arith, from))) (le-leb to 8 (omega (arith, most, eight))))

ups_grow : (g : Geometry) (s : PowerState) (to d : ℕ) → next_higher g s.gear ≡ Some to → slice_index (with_spin_ups s.gear to s.spins) d ≤ slice_index s.spins d + spun_count (rise_to s.gear to) d
ups_grow g s to d is = subst (λ (o : Option (ℕ × ℕ)). slice_index (with_spin_ups s.gear to s.spins) d ≤ slice_index s.spins d + spun_count o d) (sym (up_rises g s.gear to is))
    (subst (λ (n : ℕ). slice_index (with_spin_ups s.gear to s.spins) d ≤ slice_index s.spins d + is_among s.gear to n) (zero_plus d) (ups_list s.gear to 0 s.spins d))

go_up_all : (setup : Setup) (loss : Option ℕ) (s : PowerState) (next : Option ℕ) → next_higher setup.geometry s.gear ≡ next → AllGrow s (go_up setup loss s next)
go_up_all setup loss s None is = quiet_all s s loss Top refl
go_up_all setup loss s (Some to) is = begin_all (shift_refusal s.phase s.out) loss s to (begun_up to s) (λ d. ups_grow setup.geometry s to d is)

go_down_all : (setup : Setup) (loss : Option ℕ) (s : PowerState) (next : Option ℕ) → AllGrow s (go_down setup loss s next)
go_down_all setup loss s None = quiet_all s s loss Lowest refl
go_down_all setup loss s (Some to) = begin_all (refusal_else (shift_refusal s.phase s.out) (ration_refusal (first_used_up setup s to))) loss s to (begun_down to s) (same_grows s (begun_down to s) (Shift s.gear to) refl)

take_all : (loss : Option ℕ) (s : PowerState) (d : ℕ) (o : Out) → AllGrow s (take_out loss s d o)
take_all None s d No = (same_grows s (after_loss s d) (Failed d) refl, tt)
take_all (Some e) s d No = if_all s (d == e) ((Failed d, after_loss s d) ∷ []) ((IsOut e, after_loss s e) ∷ []) (same_grows s (after_loss s d) (Failed d) refl, tt) (same_grows s (after_loss s e) (IsOut e) refl, tt)
take_all None s d (Gone e) = quiet_all s s None (IsOut e) refl
take_all (Some f) s d (Gone e) = quiet_all s s (Some f) (IsOut e) refl
take_all None s d (Fresh e u) = quiet_all s s None (IsOut e) refl
take_all (Some f) s d (Fresh e u) = quiet_all s s (Some f) (IsOut e) refl

refresh_all : (loss : Option ℕ) (s : PowerState) (d : ℕ) → AllGrow s (refresh loss s d)
refresh_all None s d = (less_spins s (with_fresh_disk s d) (Replaced d) d refl, tt)
refresh_all (Some e) s d = if_all s (e == d) ((NoFresh d, without_fresh_disk s d) ∷ []) [] (less_spins s (without_fresh_disk s d) (NoFresh d) d refl, tt) tt

put_all : (loss : Option ℕ) (s : PowerState) (d : ℕ) (o : Out) → AllGrow s (put_in loss s d o)
put_all None s d No = quiet_all s s None (NotOut d) refl
put_all (Some f) s d No = quiet_all s s (Some f) (NotOut d) refl
put_all None s d (Gone e) = if_all s (d == e) (refresh None s d) (quietly None (NotOut d) s) (refresh_all None s d) (quiet_all s s None (NotOut d) refl)
put_all (Some f) s d (Gone e) = if_all s (d == e) (refresh (Some f) s d) (quietly (Some f) (NotOut d) s) (refresh_all (Some f) s d) (quiet_all s s (Some f) (NotOut d) refl)
put_all None s d (Fresh e u) = if_all s (d == e) (refresh None s d) (quietly None (NotOut d) s) (refresh_all None s d) (quiet_all s s None (NotOut d) refl)
put_all (Some f) s d (Fresh e u) = if_all s (d == e) (refresh (Some f) s d ++ (if f == d then refresh None s d else [])) []
    (append_all s (refresh (Some f) s d) (if f == d then refresh None s d else []) (refresh_all (Some f) s d) (if_all s (f == d) (refresh None s d) [] (refresh_all None s d) tt)) tt

rebuild_all : (setup : Setup) (loss : Option ℕ) (s : PowerState) (d rebuilt : ℕ) → AllGrow s (rebuild setup loss s d rebuilt)
rebuild_all setup None s d rebuilt = (
  if_grows s (min setup.rate (units_to_rebuild setup s d rebuilt) == units_to_rebuild setup s d rebuilt)
      (report (record s { out = No }) (min setup.rate (units_to_rebuild setup s d rebuilt)) (Rebuilt d))
      (report (record s { out = Fresh d (rebuilt + min setup.rate (units_to_rebuild setup s d rebuilt)) }) (min setup.rate (units_to_rebuild setup s d rebuilt)) Moving)
      (same_grows s (record s { out = No }) (report (record s { out = No }) (min setup.rate (units_to_rebuild setup s d rebuilt)) (Rebuilt d)).0 refl)
      (same_grows s (record s { out = Fresh d (rebuilt + min setup.rate (units_to_rebuild setup s d rebuilt)) }) (report (record s { out = Fresh d (rebuilt + min setup.rate (units_to_rebuild setup s d rebuilt)) }) (min setup.rate (units_to_rebuild setup s d rebuilt)) Moving).0 refl),
  tt,
)
rebuild_all setup (Some e) s d rebuilt = if_all s (e == d) (report (after_loss s d) 0 (GoneAgain d) ∷ []) [] (same_grows s (after_loss s d) (report (after_loss s d) 0 (GoneAgain d)).0 refl, tt) tt

within_all : (setup : Setup) (s : PowerState) (d m : ℕ) → AllGrow s (lost_within setup s d m)
within_all setup s d zero = (same_grows s (after_loss s d) (report (after_loss s d) 0 (Lost d)).0 refl, tt)
within_all setup s d (suc m) = (same_grows s (after_loss (after_units setup (suc m) s) d) (report (after_loss (after_units setup (suc m) s) d) (suc m) (Lost d)).0 (units_spins setup (suc m) s), within_all setup s d m)

move_all : (setup : Setup) (loss : Option ℕ) (s : PowerState) (count : ℕ) (last : Bool) → AllGrow s (move setup loss s count last)
move_all setup None s count true = (same_grows s (after_flip (after_units setup count s)) (report (after_flip (after_units setup count s)) count Flipped).0 (units_spins setup count s), tt)
move_all setup None s count false = (same_grows s (after_units setup count s) (report (after_units setup count s) count Moving).0 (units_spins setup count s), tt)
move_all setup (Some d) s count true = (same_grows s (after_loss (after_flip (after_units setup count s)) d) (report (after_loss (after_flip (after_units setup count s)) d) count Flipped).0 (units_spins setup count s), within_all setup s d count)
move_all setup (Some d) s count false = within_all setup s d count

by_tick_all : (loss : Option ℕ) (s begun : PowerState) (to : ℕ) → Grows s (report begun 0 (Begun to)) → AllGrow s (begin_by_tick loss begun to)
by_tick_all None s begun to grows = (grows, tt)
by_tick_all (Some d) s begun to grows = ((λ e. grows e), tt)

down_all : (setup : Setup) (loss : Option ℕ) (s : PowerState) (to : ℕ) (worn : Option ℕ) → AllGrow s (shift_down setup loss s to worn)
down_all setup loss s to None = by_tick_all loss s (begun_down to s) to (same_grows s (begun_down to s) (report (begun_down to s) 0 (Begun to)).0 refl)
down_all setup loss s to (Some d) = quiet_all s s loss (report s 0 (Ration d)).0 refl

-- a decision for a shift up is for the next higher gear
up_of_both : (setup : Setup) (gear : ℕ) (samples : List ℕ) (next lower : Option ℕ) (to : ℕ) → first_of_both (gear_up_for setup gear samples next) (gear_down_for setup samples lower) ≡ DecideUp to → next ≡ Some to
up_of_both setup gear samples None lower to is = absurd (down_only (gear_down_for setup samples lower) is)
  where
    down_only : (o : Option ℕ) → first_of_both None o ≡ DecideUp to → ⊥
    down_only None e = cc
    down_only (Some x) e = cc
up_of_both setup gear samples (Some next) lower to is = by (in_every_window (is_busy (setup.up * setup.service * gear)) setup.windows samples) (gear_down_for setup samples lower) is
  where
    by : (t : Bool) (o : Option ℕ) → first_of_both (if t then Some next else None) o ≡ DecideUp to → Some next ≡ Some to
    by true o e = let z : DecideUp next ≡ DecideUp to = e in let same : next ≡ to = cc in ap (λ (x : ℕ). Some x) same
    by false None e = absurd (let z : Stay ≡ DecideUp to = e in cc)
    by false (Some x) e = absurd (let z : DecideDown x ≡ DecideUp to = e in cc)

up_decided : (setup : Setup) (gear : ℕ) (samples : List ℕ) (to : ℕ) → decision setup gear samples ≡ DecideUp to → next_higher setup.geometry gear ≡ Some to
unfolding decision
up_decided setup gear samples to is = by (in_every_window is_full setup.windows samples) is
  where
    by : (t : Bool) → (if t then first_of_both (gear_up_for setup gear samples (next_higher setup.geometry gear)) (gear_down_for setup samples (next_lower setup.geometry gear)) else Stay) ≡ DecideUp to → next_higher setup.geometry gear ≡ Some to
    by true e = up_of_both setup gear samples (next_higher setup.geometry gear) (next_lower setup.geometry gear) to e
    by false e = absurd (let z : Stay ≡ DecideUp to = e in cc)

decide_all : (setup : Setup) (loss : Option ℕ) (s : PowerState) (x : Decision) → decision setup s.gear s.samples ≡ x → AllGrow s (decide setup loss s x)
decide_all setup loss s Stay is = quiet_all s s loss (report s 0 TickSteady).0 refl
decide_all setup loss s (DecideUp to) is = by_tick_all loss s (begun_up to s) to (λ d. ups_grow setup.geometry s to d (up_decided setup s.gear s.samples to is))
decide_all setup loss s (DecideDown to) is = down_all setup loss s to (first_used_up setup s to)

phase_all : (setup : Setup) (loss : Option ℕ) (s : PowerState) (x : Phase) → AllGrow s (tick_by_phase setup loss s x)
phase_all setup loss s Steady = decide_all setup loss s (decision setup s.gear s.samples) refl
phase_all setup loss s (Down to) = move_all setup loss s (units_of_tick setup s) (units_of_tick setup s == units_left setup s)
phase_all setup loss s (Up to) = move_all setup loss s (units_of_tick setup s) (units_of_tick setup s == units_left setup s)

tick_all : (setup : Setup) (loss : Option ℕ) (s : PowerState) (o : Out) → AllGrow s (tick_by_out setup loss s o)
tick_all setup loss s No = phase_all setup loss s s.phase
tick_all setup loss s (Gone d) = quiet_all s s loss (report s 0 Waiting).0 refl
tick_all setup loss s (Fresh d rebuilt) = rebuild_all setup loss s d rebuilt

-- each event
event_all : (setup : Setup) (h : History) (used : ℕ) (s : PowerState) (event : Event) (loss : Option ℕ) → AllGrow s (outcomes setup h used s event loss)
unfolding outcomes
event_all setup h used s (Read b) loss = serve_all (first_missing (block_count setup) (b ∷ [])) loss s (λ t. (Value b (after_all h b), with_one_served (block_read setup b t))) (λ t. read_spins setup b t)
event_all setup h used s (Write pairs) loss = serve_all (first_missing (block_count setup) (blocks_named (pairs_of pairs))) loss s (λ t. (Wrote (length h + 1), with_one_served (all_written setup.geometry.disks (blocks_named (pairs_of pairs)) t))) (λ t. written_spins setup.geometry.disks (blocks_named (pairs_of pairs)) t)
event_all setup h used s Flush loss = around_all loss s (λ t. (Flushed (length h), t)) (λ t. refl)
event_all setup h used s Tick loss = tick_all setup loss (state_with_tick s) s.out
event_all setup h used s AskUp loss = go_up_all setup loss s (next_higher setup.geometry s.gear) refl
event_all setup h used s AskDown loss = go_down_all setup loss s (next_lower setup.geometry s.gear)
event_all setup h used s (Fail d) loss = if_all s (nat_lt d setup.geometry.disks) (take_out loss s d s.out) (quietly loss (NoDisk d) s) (take_all loss s d s.out) (quiet_all s s loss (NoDisk d) refl)
event_all setup h used s (Replace d) loss = if_all s (nat_lt d setup.geometry.disks) (put_in loss s d s.out) (quietly loss (NoDisk d) s) (put_all loss s d s.out) (quiet_all s s loss (NoDisk d) refl)
event_all setup h used s AskState loss = quiet_all s s loss _ refl
event_all setup h used s AskEnergy loss = quiet_all s s loss _ refl
event_all setup h used s Bad loss = quiet_all s s loss _ refl

pub step_grows : (setup : Setup) (h : History) (used : ℕ) (s : PowerState) (event : Event) (loss : Option ℕ) (answer : Answer) (new : PowerState) → IsEventStep setup h used s event loss answer new
    → (d : ℕ) → slice_index new.spins d ≤ slice_index s.spins d + spun_count (spun_by answer) d
step_grows setup h used s event loss answer new is = of_all s (outcomes setup h used s event loss) (answer, new) (event_all setup h used s event loss) is.among

-- A replacement records none.
abbrev IsLess : PowerState → Answer × PowerState → Type 0
IsLess s o = (d : ℕ) → slice_index o.1.spins d ≤ slice_index s.spins d

abbrev AllLess : PowerState → Outcomes → Type 0
AllLess s [] = Unit {0}
AllLess s (o ∷ os) = IsLess s o × AllLess s os

of_less : (s : PowerState) (os : Outcomes) (x : Answer × PowerState) → AllLess s os → Contains os x → IsLess s x
of_less s [] x all is = absurd (let l = is.1 in omega (arith, l))
of_less s (o ∷ os) x all is = by is.0 is.1 is.2 (λ later. of_less s os x all.1 later)
  where
    by : (n : ℕ) → n < length (o ∷ os) → slice_index_or (o ∷ os) n x ≡ x → (Contains os x → IsLess s x) → IsLess s x
    by zero low at rest = subst (IsLess s) at all.0
    by (suc n) low at rest = rest (n, omega (arith, low), at)

quiet_less : (s : PowerState) (loss : Option ℕ) (a : Answer) → AllLess s (quietly loss a s)
quiet_less s None a = ((λ d. omega arith), tt)
quiet_less s (Some e) a = tt

if_less : (s : PowerState) (c : Bool) (x y : Outcomes) → AllLess s x → AllLess s y → AllLess s (if c then x else y)
if_less s true x y a b = a
if_less s false x y a b = b

append_less : (s : PowerState) (x y : Outcomes) → AllLess s x → AllLess s y → AllLess s (x ++ y)
append_less s [] y a b = b
append_less s (o ∷ x) y a b = (a.0, append_less s x y a.1 b)

refresh_less : (loss : Option ℕ) (s : PowerState) (d : ℕ) → AllLess s (refresh loss s d)
refresh_less None s d = ((λ x. less_list d 0 s.spins x), tt)
refresh_less (Some e) s d = if_less s (e == d) ((NoFresh d, without_fresh_disk s d) ∷ []) [] ((λ x. less_list d 0 s.spins x), tt) tt

put_less : (loss : Option ℕ) (s : PowerState) (d : ℕ) (o : Out) → AllLess s (put_in loss s d o)
put_less None s d No = quiet_less s None (NotOut d)
put_less (Some f) s d No = quiet_less s (Some f) (NotOut d)
put_less None s d (Gone e) = if_less s (d == e) (refresh None s d) (quietly None (NotOut d) s) (refresh_less None s d) (quiet_less s None (NotOut d))
put_less (Some f) s d (Gone e) = if_less s (d == e) (refresh (Some f) s d) (quietly (Some f) (NotOut d) s) (refresh_less (Some f) s d) (quiet_less s (Some f) (NotOut d))
put_less None s d (Fresh e u) = if_less s (d == e) (refresh None s d) (quietly None (NotOut d) s) (refresh_less None s d) (quiet_less s None (NotOut d))
put_less (Some f) s d (Fresh e u) = if_less s (d == e) (refresh (Some f) s d ++ (if f == d then refresh None s d else [])) []
    (append_less s (refresh (Some f) s d) (if f == d then refresh None s d else []) (refresh_less (Some f) s d) (if_less s (f == d) (refresh None s d) [] (refresh_less None s d) tt)) tt

pub replace_less : (setup : Setup) (h : History) (used : ℕ) (s : PowerState) (e : ℕ) (loss : Option ℕ) (answer : Answer) (new : PowerState) → IsEventStep setup h used s (Replace e) loss answer new
    → (d : ℕ) → slice_index new.spins d ≤ slice_index s.spins d
unfolding outcomes
replace_less setup h used s e loss answer new is = of_less s (outcomes setup h used s (Replace e) loss) (answer, new)
    (if_less s (nat_lt e setup.geometry.disks) (put_in loss s e s.out) (quietly loss (NoDisk e) s) (put_less loss s e s.out) (quiet_less s loss (NoDisk e))) is.among
