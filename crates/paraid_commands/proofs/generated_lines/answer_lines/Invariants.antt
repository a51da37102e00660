use Rattle.std.proofs.Common.{◌≡◌, ℕ, IsSome}
use Rattle.paraid_session.specs.Turn.{Point}
use Rattle.paraid_rack.specs.Slots.{Slot}
use Rattle.paraid_rack.specs.Told.{Extends}
use Rattle.paraid_serve.specs.Lost.{HasServedSince}
use Rattle.paraid_serve.specs.Stretch.{span_of}
use Rattle.paraid_commands.specs.CountedLines.{CountsLines}
use Rattle.paraid_commands.specs.GenCauses.{CountsCauses}
use Rattle.paraid_commands.proofs.TallyLemmas.{Fits}
use Rattle.paraid_commands.proofs.generated_lines.answer_lines.Given as goal

abbrev pub invariant-events : goal.invariant-events
invariant-events g l = record {
  counted : IsSome (g.A.Serves.told l.array) → (p : Point) → g.A.Serves.stands l.initial.array p → CountsLines (span_of (g.A.Serves.slots l.initial.array) (g.A.Serves.setup l.initial.array) (g.A.Serves.told l.initial.array) (g.A.Serves.told l.array)) p l.number l.i l.tally (g.A.Serves.stands l.array);
  told : Extends (g.A.Serves.told l.initial.array) (g.A.Serves.told l.array);
  slots : g.A.Serves.slots l.array ≡ g.A.Serves.slots l.initial.array;
  setup : g.A.Serves.setup l.array ≡ g.A.Serves.setup l.initial.array;
  halt : l.halt ≡ g.A.Serves.halted l.array;
  since : (start : ℕ → Slot) → HasServedSince start (g.A.Serves.slot l.initial.array) (g.A.Serves.halted l.initial.array) → HasServedSince start (g.A.Serves.slot l.array) (g.A.Serves.halted l.array);
  causes : CountsCauses (g.A.Serves.shown l.initial.array) l.number l.i l.tally (g.A.Serves.shown l.array);
  fits : Fits l.tally l.i l.i;
}
