use Rattle.paraid_volume_lines.specs.Asked.{line_with}
use Rattle.paraid_service.proofs.RunLemmas.{runs_later, runs_more}
use Rattle.paraid_service.proofs.shelf.answer_volume_line.Goals as goal

pub returns-in-None : goal.returns-in-None
returns-in-None g c = record { runs = rw c.in-None.is (runs_more g.B.Blocks c.args.shelved.shelf c.serve_line.result.shelf (line_with c.args.asked.now c.args.bytes.now) c.serve_line.new.into c.serve_line.result.halt c.serve_line.ensures) }

pub returns-in-Some : goal.returns-in-Some
returns-in-Some g c = record { runs = rw c.in-Some.is (runs_later g.B.Blocks c.args.shelved.shelf (line_with c.args.asked.now c.args.bytes.now) c.tell_halted.new.into c.in-Some.halt (c.tell_halted.ensures c.args.bytes.now)) }

pub serve_line-requires : goal.serve_line-requires
serve_line-requires g c = record { going = c.requires.going c.in-None.is }
