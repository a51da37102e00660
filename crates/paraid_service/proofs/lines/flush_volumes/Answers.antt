use Rattle.std.specs.Prelude.{None}
use Rattle.paraid_volume.specs.Values.{halted_of}
use Rattle.paraid_service.proofs.AnswerLemmas.{flush_replies}
use Rattle.paraid_service.proofs.LineLemmas.{flush_line, flush_keeps, if_ok_with}
use Rattle.paraid_service.proofs.lines.flush_volumes.Goals as goal

pub returns : goal.returns
returns g c = record {
  halt = c.flush.ensures.halt;
  went = c.flush.ensures.went;
  keeps = c.flush.ensures.grown;
  line = λ going from start log lived tells.
      flush_line _ _ _ start log lived (halted_of c.flush.new.self) c.flush.result (if_ok_with _ _ c.flush.result (λ number x. x from start log lived tells) c.flush.ensures.lived) c.flush.ensures.fault going;
  flushed = λ going. flush_keeps g.B.Blocks c.args.volumes.now c.flush.new.self c.flush.result c.flush.ensures.fault (if_ok_with _ _ c.flush.result (λ number x. x None) c.flush.ensures.stands) c.flush.ensures.event going;
  reply = λ was none. flush_replies g.B.Blocks c.args.volumes.now c.flush.new.self c.flush.result none c.flush.ensures.fault c.flush.ensures.table c.flush.ensures.event;
}
