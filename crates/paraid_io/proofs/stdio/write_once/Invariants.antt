-- Each write so far has failed.
use Rattle.std.specs.Io.KnownBytes.{Keeps}
use Rattle.paraid_io.proofs.stdio.write_once.Given as goal

abbrev pub invariant-loop : goal.invariant-loop
invariant-loop g l = Keeps (g.W.Write.contents l.initial.writer) (g.W.Write.contents l.writer)
