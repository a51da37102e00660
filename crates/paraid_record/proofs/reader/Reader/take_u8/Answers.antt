use Rattle.std.specs.Prelude.{◌≡◌}
use Rattle.std.proofs.Common.{◌∙◌, arith}
use Rattle.byteorder.specs.Endian.{big_number}
use Rattle.paraid_record.proofs.SpellingLemmas.{reads_back}
use Rattle.paraid_record.proofs.reader.Reader.take_u8.Goals as goal

pub returns-clause-reads : goal.returns-clause-reads
returns-clause-reads c = λ x rest fits e.
    let read = reads_back 1 c.self.inside.rest.now x rest fits (c.self.view_is ∙ e) in
    let value : big_number 1 c.self.inside.rest.now ≡ x = read.0 in
    (omega arith, read.1)
