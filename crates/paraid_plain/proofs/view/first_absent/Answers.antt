use Rattle.std.proofs.Common.{refl, ap, add-one, ◌∙◌}
use Rattle.std.specs.Prelude.{ℕ, Option, Some, None, if◌then◌else◌}
use Rattle.paraid_rack.specs.Disks.{is_present}
use Rattle.paraid_image.specs.Out.{first_absent, or_else}
use Rattle.paraid_plain.specs.Images.{disks_in}
use Rattle.paraid_plain.proofs.view.first_absent.Goals as goal

pub loop-disk-init : goal.loop-disk-init
unfolding first_absent
loop-disk-init c = refl

pub loop-disk-preserved : goal.loop-disk-preserved
unfolding first_absent
loop-disk-preserved c =
    c.or_absent-found.ensures
    ∙ ap (λ (o : Option ℕ). or_else o (if is_present ((disks_in c.args.image.now).power c.loop-disk.disk) then None else Some c.loop-disk.disk)) c.loop-disk.invariant
    ∙ rw add-one refl
