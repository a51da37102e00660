use Rattle.std.proofs.Common.{false}
use Rattle.paraid_words.specs.declared.command.Command.TheVariants.{Format}
use Rattle.tests_lives.proofs.LifeLemmas.{array_made}
use Rattle.tests_lives.proofs.life.new_array.Goals as goal

pub returns-clause-made : goal.returns-clause-made
returns-clause-made c = array_made c.paraid-status.result.status c.if-status-ne0.false (c.paraid-status.ensures.does (Format false) c.in_ok-words.ensures)
