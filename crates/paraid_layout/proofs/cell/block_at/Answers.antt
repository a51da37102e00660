use Rattle.std.proofs.Common.{◌≡◌, ◌≢◌, ℕ, ◌+◌, ◌-◌, ◌*◌, ◌<◌, ◌≤◌, ap, ◌∙◌, sym, subst, arith}
use Rattle.paraid_base.specs.Cells.{cell_block, home_disk, home_row, parity_disk}
use Rattle.paraid_base.specs.Skips.{index_among}
use Rattle.paraid_base.proofs.CellsLemmas.{block_of_below, home_disk-block_of, home_row-block_of}
use Rattle.paraid_layout.proofs.cell.block_at.Goals as goal

two_of : (n : ℕ) → 3 ≤ n → 2 ≤ n
two_of n many = omega arith

-- a cell off the parity disk, and its block by the two that were found
apart_from : (n r d p : ℕ) → p ≡ parity_disk n r → d ≢ p → d ≢ parity_disk n r
apart_from n r d p parity apart e = apart (e ∙ sym parity)

block_is : (n r d p i : ℕ) → p ≡ parity_disk n r → i ≡ index_among p d → r * (n - 1) + i ≡ cell_block n r d
block_is n r d p i parity index = ap (λ x. r * (n - 1) + x) (index ∙ ap (λ x. index_among x d) parity)

block_below : (n r d rows b : ℕ) → 3 ≤ n → r < rows → d < n → d ≢ parity_disk n r → b ≡ cell_block n r d → b < rows * (n - 1)
block_below n r d rows b many row_in disk_in other is = subst (λ x. x < rows * (n - 1)) (sym is) (block_of_below n r d rows (two_of n many) row_in disk_in other)

block_back : (n r d b : ℕ) → 3 ≤ n → d < n → d ≢ parity_disk n r → b ≡ cell_block n r d → (home_row n b ≡ r) × (home_disk n b ≡ d)
block_back n r d b many disk_in other is =
    (ap (home_row n) is ∙ home_row-block_of n r d (two_of n many) disk_in other, ap (home_disk n) is ∙ home_disk-block_of n r d (two_of n many) disk_in other)

pub returns-else-d-p : goal.returns-else-d-p
returns-else-d-p c =
    let n = c.args.g.now.disks in
    let r = c.args.r in
    let d = c.args.d in
    let many = c.args.g.now.disks_low in
    let disk_in = c.requires.disk_in in
    let other = apart_from n r d c.parity_disk-p.result c.parity_disk-p.ensures.value c.if-d-p.false in
    let is = block_is n r d c.parity_disk-p.result c.index_of_disk.result c.parity_disk-p.ensures.value c.index_of_disk.ensures in
    let b = r * (n - 1) + c.index_of_disk.result in
    record {
      value = (other, is);
      block_in = block_below n r d c.args.g.now.rows b many c.requires.row_in disk_in other is;
      back = block_back n r d b many disk_in other is;
    }
