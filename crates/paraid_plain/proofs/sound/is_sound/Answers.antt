use Rattle.std.proofs.Common.{length}
use Rattle.std.specs.Prelude.{map}
use Rattle.paraid_base.specs.Pairs.{pairs_of}
use Rattle.paraid_image.specs.Sound.{IsSoundAt}
use Rattle.paraid_plain.specs.Images.{disks_in}
use Rattle.paraid_plain.proofs.SoundLemmas.{sound_content, sound_from, sound_witnesses}
use Rattle.paraid_plain.proofs.TestLemmas.{reworded}
use Rattle.paraid_plain.proofs.sound.is_sound.Goals as goal

pub returns-then-is_log_ok : goal.returns-then-is_log_ok
returns-then-is_log_ok c =
    let image = c.args.image.now in
    let slots = length image.slots.items in
    let says = c.in-Some.says in
    let stands = c.in-Some.ensures.some in
    let history = map pairs_of c.args.history.now in
    reworded (IsSoundAt slots (disks_in image) history c.args.writes) c.is_rest_ok.result c.is_rest_ok.ensures
    (λ rest. sound_from image says slots history c.args.writes stands (c.is_log_ok.ensures.0 c.if-is_log_ok.true) rest.0 rest.1)
    (λ all. (sound_witnesses image says slots history c.args.writes stands all, sound_content image says slots history c.args.writes stands all))
