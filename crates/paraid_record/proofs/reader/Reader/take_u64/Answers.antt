use Rattle.std.proofs.Common.{◌∙◌}
use Rattle.paraid_record.proofs.SpellingLemmas.{reads_back}
use Rattle.paraid_record.proofs.reader.Reader.take_u64.Goals as goal

pub returns-clause-reads : goal.returns-clause-reads
returns-clause-reads c = λ x rest fits e.
    let read = reads_back 8 c.self.inside.rest.now x rest fits (c.self.view_is ∙ e) in
    (c.read_u64-value.ensures ∙ read.0, read.1)
