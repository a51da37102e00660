-- Counting line by line.
use Rattle.std.proofs.Common.{slice_index, ◌≡◌, ℕ, ◌+◌, ◌*◌, ◌<◌, ◌≤◌, List, [], ◌∷◌, ◌++◌, refl, arith}
use Rattle.paraid_base.specs.declared.block.Block.{Block}
use Rattle.paraid_base.specs.declared.event.Answer.{Answer}
use Rattle.paraid_base.specs.declared.event.Answer.TheVariants.{Value, NoBlock, Wrote, Flushed, Ticked, Shift, Top, Lowest, Shifting, Failed, Replaced, NoDisk, Out as IsOut, NotOut, NoFresh, Ration as RationUsed, State as IsState, Energy as EnergyUsed, Bad as IsBad, Halted}
use Rattle.paraid_base.specs.declared.event.Event.{Event}
use Rattle.paraid_base.specs.declared.event.Event.TheVariants.{Read, Write, Flush, Tick, Up, Down, Fail, Replace, State, Energy, Bad}
use Rattle.paraid_base.specs.declared.state.TickEvent.{TickEvent}
use Rattle.paraid_base.specs.declared.state.TickEvent.TheVariants.{Steady, Waiting, Moving, Flipped, Begun, Rebuilt, Gone, Lost, Ration}
use Rattle.paraid_rack.specs.declared.call.Call.{Call}
use Rattle.paraid_serve.specs.Stretch.{Turn, turn_with}
use Rattle.paraid_commands.specs.declared.tally.Tally.{Tally}
use Rattle.paraid_commands.specs.Tally.{HasRoomForLine, empty_tally, tally_of, tally_with_answer, tally_with_event, tally_with_tick}

-- at most so many lines were counted, and so many answers
pub record Fits (t : Tally) (lines answers : ℕ) : Type 0 where
  pub reads : t.reads ≤ lines
  pub writes : t.writes ≤ lines
  pub flushes : t.flushes ≤ lines
  pub ticks : t.ticks ≤ lines
  pub shifts : t.shifts ≤ answers
  pub sum : t.sum ≤ 65535 * answers

pub fits_none : Fits empty_tally 0 0
fits_none = record { reads = omega arith; writes = omega arith; flushes = omega arith; ticks = omega arith; shifts = omega arith; sum = omega arith }

pub fits_room : (t : Tally) (lines answers : ℕ) → Fits t lines answers → lines ≤ 1000000 → answers ≤ 1000000 → HasRoomForLine t
fits_room t lines answers f p q = record {
  reads = omega (arith, f.reads);
  writes = omega (arith, f.writes);
  flushes = omega (arith, f.flushes);
  ticks = omega (arith, f.ticks);
  shifts = omega (arith, f.shifts);
  sum = omega (arith, f.sum);
}

more_lines : (t : Tally) (n m : ℕ) → Fits t n m → Fits t (n + 1) m
more_lines t n m f = record {
  reads = omega (arith, f.reads);
  writes = omega (arith, f.writes);
  flushes = omega (arith, f.flushes);
  ticks = omega (arith, f.ticks);
  shifts = f.shifts;
  sum = f.sum;
}

pub fits_event : (t : Tally) (e : Event) (n m : ℕ) → Fits t n m → Fits (tally_with_event t e) (n + 1) m
fits_event t (Read block) n m f = let g = more_lines t n m f in record { reads = omega (arith, f.reads); writes = g.writes; flushes = g.flushes; ticks = g.ticks; shifts = g.shifts; sum = g.sum }
fits_event t (Write pairs) n m f = let g = more_lines t n m f in record { reads = g.reads; writes = omega (arith, f.writes); flushes = g.flushes; ticks = g.ticks; shifts = g.shifts; sum = g.sum }
fits_event t Flush n m f = let g = more_lines t n m f in record { reads = g.reads; writes = g.writes; flushes = omega (arith, f.flushes); ticks = g.ticks; shifts = g.shifts; sum = g.sum }
fits_event t Tick n m f = let g = more_lines t n m f in record { reads = g.reads; writes = g.writes; flushes = g.flushes; ticks = omega (arith, f.ticks); shifts = g.shifts; sum = g.sum }
fits_event t Up n m f = more_lines t n m f
fits_event t Down n m f = more_lines t n m f
fits_event t (Fail disk) n m f = more_lines t n m f
fits_event t (Replace disk) n m f = more_lines t n m f
fits_event t State n m f = more_lines t n m f
fits_event t Energy n m f = more_lines t n m f
fits_event t Bad n m f = more_lines t n m f

more_answers : (t : Tally) (n m : ℕ) → Fits t n m → Fits t n (m + 1)
more_answers t n m f = record {
  reads = f.reads;
  writes = f.writes;
  flushes = f.flushes;
  ticks = f.ticks;
  shifts = omega (arith, f.shifts);
  sum = omega (arith, f.sum);
}

first_two_small : (b : Block) → 256 * slice_index b.bytes 0 + slice_index b.bytes 1 < 65536
first_two_small b = omega (arith, b.small 0, b.small 1)

fits_tick : (t : Tally) (e : TickEvent) (n m : ℕ) → Fits t n m → Fits (tally_with_tick t e) n (m + 1)
fits_tick t Flipped n m f = let g = more_answers t n m f in record { reads = g.reads; writes = g.writes; flushes = g.flushes; ticks = g.ticks; shifts = omega (arith, f.shifts); sum = g.sum }
fits_tick t Steady n m f = more_answers t n m f
fits_tick t Waiting n m f = more_answers t n m f
fits_tick t Moving n m f = more_answers t n m f
fits_tick t (Begun to) n m f = more_answers t n m f
fits_tick t (Rebuilt d) n m f = more_answers t n m f
fits_tick t (Gone d) n m f = more_answers t n m f
fits_tick t (Lost d) n m f = more_answers t n m f
fits_tick t (Ration d) n m f = more_answers t n m f

pub fits_answer : (t : Tally) (a : Answer) (n m : ℕ) → Fits t n m → Fits (tally_with_answer t a) n (m + 1)
fits_answer t (Value block bytes) n m f = let g = more_answers t n m f in record { reads = g.reads; writes = g.writes; flushes = g.flushes; ticks = g.ticks; shifts = g.shifts; sum = omega (arith, f.sum, first_two_small bytes) }
fits_answer t (Ticked report) n m f = fits_tick t report.event n m f
fits_answer t (NoBlock b) n m f = more_answers t n m f
fits_answer t (Wrote b) n m f = more_answers t n m f
fits_answer t (Flushed b) n m f = more_answers t n m f
fits_answer t (Shift b c) n m f = more_answers t n m f
fits_answer t Top n m f = more_answers t n m f
fits_answer t Lowest n m f = more_answers t n m f
fits_answer t (Shifting b) n m f = more_answers t n m f
fits_answer t (Failed b) n m f = more_answers t n m f
fits_answer t (Replaced b) n m f = more_answers t n m f
fits_answer t (NoDisk b) n m f = more_answers t n m f
fits_answer t (IsOut b) n m f = more_answers t n m f
fits_answer t (NotOut b) n m f = more_answers t n m f
fits_answer t (NoFresh b) n m f = more_answers t n m f
fits_answer t (RationUsed b) n m f = more_answers t n m f
fits_answer t (IsState b c) n m f = more_answers t n m f
fits_answer t (EnergyUsed b) n m f = more_answers t n m f
fits_answer t IsBad n m f = more_answers t n m f
fits_answer t (Halted b) n m f = more_answers t n m f

pub tally_of-push : (t : Tally) (turns : List Turn) (e : Event) (a : Answer) (cs : List Call) → tally_of t (turns ++ turn_with e a cs ∷ []) ≡ tally_with_answer (tally_with_event (tally_of t turns) e) a
tally_of-push t [] e a cs = refl
tally_of-push t (u ∷ turns) e a cs = tally_of-push (tally_with_answer (tally_with_event t u.event) u.answer) turns e a cs
