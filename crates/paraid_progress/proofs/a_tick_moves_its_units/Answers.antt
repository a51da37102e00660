use Rattle.paraid_progress.proofs.EndLemmas.{shift_tick, shift_tick_tells, tick_leaves_fewer}
use Rattle.paraid_progress.proofs.a_tick_moves_its_units.Goals as goal

pub returns : goal.returns
returns c = record {
  fewer = λ setup h used s new answer whole some is moving. tick_leaves_fewer setup s answer new (shift_tick setup h used s answer new whole some is) moving;
  tells = λ setup h used s new answer whole some is. shift_tick_tells setup h used s answer new whole some is;
}
