use Rattle.std.specs.Prelude.{◌++◌, ℕ, List, length}
use Rattle.std.proofs.Common.{ap, ◌∙◌}
use Rattle.paraid_record.specs.Spelling.{big_endian, zero_filled}
use Rattle.paraid_record.specs.Targets.{places_bytes, targets_bytes}
use Rattle.paraid_record.proofs.targets.put_targets.Goals as goal

pub returns : goal.returns
unfolding targets_bytes
returns c =
    c.finish.ensures
    ∙ ap (zero_filled 512) (c.put_places.ensures ∙ ap (λ (s : List ℕ). s ++ places_bytes c.args.targets.now)
    (c.put_u16.ensures.value ∙ ap (λ (s : List ℕ). s ++ big_endian 2 (length c.args.targets.now)) c.new-pen.ensures))
