use Rattle.std.proofs.Common.{length}
use Rattle.paraid_image.specs.Sound.{AreDisks}
use Rattle.paraid_plain.specs.Images.{disks_in}
use Rattle.paraid_plain.specs.Views.{out_at}
use Rattle.paraid_plain.proofs.TestLemmas.{refused}
use Rattle.paraid_plain.proofs.disks.are_disks.Goals as goal
use Rattle.paraid_plain.proofs.disks.are_disks.Goals.{then-not-are_spinning-via-then-not-are_spinning, then-not-are_spinning-via-else-not-are_spinning+then-not-is_fresh_ready}

pub returns : goal.returns
returns c =
    let slots = c.are_slots.ensures.0 c.if-not-are_slots.false in
    let large = c.are_large.ensures.0 c.if-not-are_large.false in
    let spinning = c.are_spinning.ensures.0 c.if-not-are_spinning.false in
    let fresh = c.is_fresh_ready.ensures.0 c.if-not-is_fresh_ready.false in (
      λ told. record {
        enough = slots.0;
        log_disks = slots.1;
        large = large;
        fresh_large = λ d rebuilt is. (fresh d rebuilt is).0;
        below_gear = spinning;
        fresh_spins = λ d rebuilt is. (fresh d rebuilt is).1;
        recorded = c.are_recorded.ensures.0 told;
      },
      λ all. c.are_recorded.ensures.1 all.recorded,
    )

pub returns-then-not-are_spinning : goal.returns-then-not-are_spinning
returns-then-not-are_spinning c =
    let image = c.args.image.now in
    let says = c.args.says.now in
    let Whole : Type 0 = AreDisks (length image.slots.items) (disks_in image).power (disks_in image).size says.meta (out_at image says) in
    elim c.then-not-are_spinning.branch [
      | then-not-are_spinning-via-then-not-are_spinning w ↦
          refused Whole c.are_spinning.result c.are_spinning.ensures w.if-not-are_spinning.true (λ all. all.below_gear)
      | then-not-are_spinning-via-else-not-are_spinning+then-not-is_fresh_ready w ↦
          refused Whole w.is_fresh_ready.result w.is_fresh_ready.ensures w.if-not-is_fresh_ready.true
          (λ all d rebuilt is. (all.fresh_large d rebuilt is, all.fresh_spins d rebuilt is))
    ]
