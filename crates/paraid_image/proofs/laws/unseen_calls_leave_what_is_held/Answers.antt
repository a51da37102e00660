use Rattle.std.specs.Prelude.{true}
use Rattle.paraid_rack.specs.declared.call.Call.TheVariants.{Read, Sync}
use Rattle.paraid_rack.specs.Disks.{step}
use Rattle.paraid_image.proofs.CallLemmas.{IsHeld-fewer, read_images, sync_images}
use Rattle.paraid_image.proofs.UnseenLemmas.{unseen_write_holds}
use Rattle.paraid_image.proofs.laws.unseen_calls_leave_what_is_held.Goals as goal

pub returns : goal.returns
returns c = record {
  fewer = IsHeld-fewer;
  read = λ slots s h lo down d p held. IsHeld-fewer slots s (step (Read d p true) s) h lo down (read_images s d p) held;
  sync = λ slots s h lo down d held. IsHeld-fewer slots s (step (Sync d true) s) h lo down (sync_images s d) held;
  write = unseen_write_holds;
}
