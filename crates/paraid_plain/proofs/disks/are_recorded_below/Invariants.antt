use Rattle.std.proofs.Common.{ℕ, ◌<◌, ◌≤◌}
use Rattle.paraid_plain.specs.Images.{disks_in}
use Rattle.paraid_plain.specs.Parts.{IsRecorded}
use Rattle.paraid_plain.specs.Views.{out_at}
use Rattle.paraid_plain.proofs.disks.are_recorded_below.Given as goal

abbrev pub invariant-loop-disk : goal.invariant-loop-disk
invariant-loop-disk l = (d : ℕ) → l.says.meta.gear ≤ d → d < l.disk → IsRecorded (disks_in l.image).power l.says.meta (out_at l.image l.says) d
