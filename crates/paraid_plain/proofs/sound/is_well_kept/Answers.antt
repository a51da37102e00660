use Rattle.std.proofs.Common.{length}
use Rattle.paraid_image.specs.Sound.{IsWellKept}
use Rattle.paraid_plain.specs.Images.{disks_in}
use Rattle.paraid_plain.specs.Views.{view_at}
use Rattle.std.proofs.lemmas.Bool.{false≢true}
use Rattle.paraid_plain.proofs.TestLemmas.{not_so, reworded}
use Rattle.paraid_plain.proofs.sound.is_well_kept.Goals as goal

pub returns : goal.returns
returns c =
    let image = c.args.image.now in
    let i = disks_in image in
    reworded (IsWellKept (length image.slots.items) i.power i.size (view_at image c.args.says.now))
    c.are_disks.result c.are_disks.ensures
    (λ ready. record {
      rows = c.are_rows_zero.ensures.0 c.if-not-are_rows_zero.false;
      stripes = c.are_stripes_zero.ensures.0 c.if-not-are_stripes_zero.false;
      filled = c.are_filled.ensures.0 c.if-not-are_filled.false;
      clean = c.are_clean_stored.ensures.0 c.if-not-are_clean_stored.false;
      rebuilt = c.is_fresh_rebuilt.ensures.0 c.if-not-is_fresh_rebuilt.false;
      map = c.is_map.ensures.0 c.if-not-is_map.false;
      disks = ready;
    })
    (λ all. all.disks)

pub returns-then-not-are_rows_zero : goal.returns-then-not-are_rows_zero
returns-then-not-are_rows_zero c = (
  λ is. absurd (false≢true is),
  λ all.
      elim c.then-not-are_rows_zero.branch [
        | goal.then-not-are_rows_zero-via-then-not-are_rows_zero w ↦ absurd (not_so c.are_rows_zero.result c.are_rows_zero.ensures w.if-not-are_rows_zero.true all.rows)
        | goal.then-not-are_rows_zero-via-else-not-are_rows_zero+then-not-are_stripes_zero w ↦ absurd (not_so w.are_stripes_zero.result w.are_stripes_zero.ensures w.if-not-are_stripes_zero.true all.stripes)
      ],
)

pub returns-then-not-are_filled : goal.returns-then-not-are_filled
returns-then-not-are_filled c = (
  λ is. absurd (false≢true is),
  λ all.
      elim c.then-not-are_filled.branch [
        | goal.then-not-are_filled-via-then-not-are_filled w ↦ absurd (not_so c.are_filled.result c.are_filled.ensures w.if-not-are_filled.true all.filled)
        | goal.then-not-are_filled-via-else-not-are_filled+then-not-are_clean_stored w ↦ absurd (not_so w.are_clean_stored.result w.are_clean_stored.ensures w.if-not-are_clean_stored.true all.clean)
      ],
)

pub returns-then-not-is_fresh_rebuilt : goal.returns-then-not-is_fresh_rebuilt
returns-then-not-is_fresh_rebuilt c = (
  λ is. absurd (false≢true is),
  λ all.
      elim c.then-not-is_fresh_rebuilt.branch [
        | goal.then-not-is_fresh_rebuilt-via-then-not-is_fresh_rebuilt w ↦ absurd (not_so c.is_fresh_rebuilt.result c.is_fresh_rebuilt.ensures w.if-not-is_fresh_rebuilt.true all.rebuilt)
        | goal.then-not-is_fresh_rebuilt-via-else-not-is_fresh_rebuilt+then-not-is_map w ↦ absurd (not_so w.is_map.result w.is_map.ensures w.if-not-is_map.true all.map)
      ],
)
