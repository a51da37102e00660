use Rattle.paraid_volume_lines.specs.Asked.{line_with}
use Rattle.paraid_service.proofs.ShelfLemmas.{on_held}
use Rattle.paraid_service.proofs.shelf.serve_line.Goals as goal

pub returns-in-Held : goal.returns-in-Held
returns-in-Held g c = rw c.in-Held.is (on_held g.B.Blocks c.in-Held.volumes c.serve_held-halt.new.volumes (line_with c.args.asked.now c.args.bytes.now) c.serve_held-halt.new.into c.serve_held-halt.result c.serve_held-halt.ensures)

pub returns-in-Bare : goal.returns-in-Bare
returns-in-Bare g c = rw c.in-Bare.is (c.serve_bare.ensures c.args.bytes.now)

pub serve_held-halt-requires : goal.serve_held-halt-requires
serve_held-halt-requires g c = record { going = rw c.in-Held.is at c.requires.going }
