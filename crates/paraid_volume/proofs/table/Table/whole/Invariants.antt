use Rattle.std.proofs.Common.{◌≡◌, ℕ, ◌<◌, ◌≤◌}
use Rattle.std.specs.Prelude.{All}
use Rattle.paraid_base.specs.declared.block.Block.{Block}
use Rattle.paraid_base.specs.History.{last_of}
use Rattle.paraid_base.specs.Pairs.{pairs_of}
use Rattle.paraid_volume.specs.Laid.{table_pairs}
use Rattle.paraid_volume.specs.TableBlocks.{in_table}
use Rattle.paraid_volume.proofs.table.Table.whole.Given as goal

abbrev pub invariant-loop-at : goal.invariant-loop-at
invariant-loop-at l = record {
  few : l.pairs.count ≡ l.at;
  here : (k : ℕ) (x : Block) → k < l.at → last_of k x (pairs_of l.pairs) ≡ in_table l.self k;
  rest : (k : ℕ) (x : Block) → l.at ≤ k → last_of k x (pairs_of l.pairs) ≡ x;
  below : All (λ (pair : ℕ × Block). pair.0 < 6) (pairs_of l.pairs);
  exact : pairs_of l.pairs ≡ table_pairs (in_table l.self) l.at;
}
