-- What calls on volumes leave of a device.
use Rattle.std.specs.Prelude.{Bool}
use Rattle.paraid_base.specs.BlockAnswers.{Answers}
use Rattle.paraid_base.specs.declared.event.Event.{Event}
use Rattle.paraid_nbd.specs.Export.{KeepsOn}
use Rattle.paraid_volume.specs.Device.{KeepsMore}

pub keeps_more : {B : Type 0} (kept : B → B → Answers → Type 0) (tells : B → Bool) (kind : Event → Type 0) (old new : B) → KeepsMore kept tells kind old new → KeepsOn kept old new
keeps_more kept tells kind old new k = record { grows = λ first events before. let m = k.grows first events before in (m.more, m.kept) }
