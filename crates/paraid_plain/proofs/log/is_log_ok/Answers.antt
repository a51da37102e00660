use Rattle.paraid_image.specs.Sound.{LogOk}
use Rattle.paraid_plain.specs.Images.{disks_in}
use Rattle.paraid_plain.specs.Statements.{said_of}
use Rattle.paraid_plain.specs.Views.{out_at}
use Rattle.paraid_plain.proofs.TestLemmas.{failed, refused, reworded}
use Rattle.paraid_plain.proofs.log.is_log_ok.Goals as goal
use Rattle.paraid_plain.proofs.log.is_log_ok.Goals.{then-not-is_single-via-then-not-is_single, then-not-is_single-via-else-not-is_single+then-not-is_standing_in, then-not-is_fresh_shut-via-then-not-is_fresh_shut, then-not-is_fresh_shut-via-else-not-is_fresh_shut+then-not-are_targets_spinning}

pub returns-then-not-is_single : goal.returns-then-not-is_single
returns-then-not-is_single c =
    let Whole : Type 0 = LogOk (disks_in c.args.image.now) c.args.says.now.disk (said_of c.args.image.now c.args.says.now) c.args.writes in
    elim c.then-not-is_single.branch [
      | then-not-is_single-via-then-not-is_single w ↦ refused Whole c.is_single.result c.is_single.ensures w.if-not-is_single.true (λ all. all.single)
      | then-not-is_single-via-else-not-is_single+then-not-is_standing_in w ↦
          refused Whole w.is_standing_in.result w.is_standing_in.ensures w.if-not-is_standing_in.true (λ all. all.standing_in)
    ]

pub returns-then-not-is_fresh_shut : goal.returns-then-not-is_fresh_shut
unfolding out_at
returns-then-not-is_fresh_shut c =
    let Whole : Type 0 = LogOk (disks_in c.args.image.now) c.args.says.now.disk (said_of c.args.image.now c.args.says.now) c.args.writes in
    elim c.then-not-is_fresh_shut.branch [
      | then-not-is_fresh_shut-via-then-not-is_fresh_shut w ↦
          refused Whole c.is_fresh_shut.result c.is_fresh_shut.ensures w.if-not-is_fresh_shut.true (λ all. all.fresh_closed)
      | then-not-is_fresh_shut-via-else-not-is_fresh_shut+then-not-are_targets_spinning w ↦
          refused Whole w.are_targets_spinning.result w.are_targets_spinning.ensures w.if-not-are_targets_spinning.true (λ all. all.targets_spin)
    ]

pub returns-then-are_formed : goal.returns-then-are_formed
unfolding out_at
returns-then-are_formed c =
    let image = c.args.image.now in
    let says = c.args.says.now in
    reworded (LogOk (disks_in image) says.disk (said_of image says) c.args.writes) c.are_paired.result c.are_paired.ensures
    (λ paired. record {
      stands = c.requires;
      writes = c.if-says-writes.false;
      single = c.is_single.ensures.0 c.if-not-is_single.false;
      standing_in = c.is_standing_in.ensures.0 c.if-not-is_standing_in.false;
      fresh_closed = c.is_fresh_shut.ensures.0 c.if-not-is_fresh_shut.false;
      targets_spin = c.are_targets_spinning.ensures.0 c.if-not-are_targets_spinning.false;
      formed = c.are_formed.ensures.0 c.if-are_formed.true;
      paired = paired;
    })
    (λ all. all.paired)

pub returns-else-are_formed : goal.returns-else-are_formed
unfolding out_at
returns-else-are_formed c =
    let image = c.args.image.now in
    let says = c.args.says.now in
    failed (LogOk (disks_in image) says.disk (said_of image says) c.args.writes) c.are_formed.result c.are_formed.ensures c.if-are_formed.false (λ all. all.formed)
