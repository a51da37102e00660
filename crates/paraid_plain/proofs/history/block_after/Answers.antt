use Rattle.std.proofs.Common.{◌∙◌, ap, sym}
use Rattle.std.proofs.lemmas.List.{take-map}
use Rattle.paraid_base.specs.History.{History, after, joined_entries, last_of}
use Rattle.paraid_base.specs.Pairs.{pairs_of}
use Rattle.paraid_base.specs.Xor.{zero_block}
use Rattle.paraid_plain.proofs.history.block_after.Goals as goal

pub returns-then-writes-count : goal.returns-then-writes-count
unfolding after
returns-then-writes-count c =
    c.last_of.ensures ∙ ap (λ (h : History). last_of c.args.block zero_block (joined_entries h)) (sym (take-map pairs_of c.args.writes c.args.history.now))
