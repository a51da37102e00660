use Rattle.paraid_io.proofs.NewlineLemmas.{newline_from}
use Rattle.paraid_io.proofs.scan.newline_at.Goals as goal

pub returns : goal.returns
returns c = newline_from c.args.bytes.now c.memchr.result c.memchr.ensures
