use Rattle.std.proofs.Common.{drop}
use Rattle.toml.specs.View.{items_view}
use Rattle.paraid_config.proofs.ListLemmas.{AreIntegers}
use Rattle.paraid_config.proofs.list.integers.Given as goal

abbrev pub invariant-loop-item : goal.invariant-loop-item
invariant-loop-item l = AreIntegers (items_view l.items) (items_view (drop l.item-index l.items)) l.members.items
