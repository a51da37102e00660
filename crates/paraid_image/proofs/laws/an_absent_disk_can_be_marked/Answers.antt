use Rattle.paraid_image.proofs.MarkLemmas.{content_marked, marked_in_range}
use Rattle.paraid_image.proofs.laws.an_absent_disk_can_be_marked.Goals as goal

pub returns-clause-range : goal.returns-clause-range
returns-clause-range c = marked_in_range

pub returns-clause-content : goal.returns-clause-content
returns-clause-content c = content_marked
