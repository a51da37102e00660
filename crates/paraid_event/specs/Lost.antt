-- An event in which a second disk is lost.
use Rattle.std.specs.Prelude.{◌≡◌, List, Some}
use Rattle.paraid_base.specs.declared.fault.Halt.{Halt}
use Rattle.paraid_base.specs.declared.fault.Two.{Two}
use Rattle.paraid_base.specs.States.{named_out}
use Rattle.paraid_rack.specs.declared.call.Call.{Call}
use Rattle.paraid_rack.specs.Disks.{Disks}
use Rattle.paraid_image.specs.Lost.{TellsLosses}
use Rattle.paraid_session.specs.Turn.{Point}
use Rattle.paraid_event.specs.Service.{Service}

-- The second disk failed in these calls; the first was out, or none was, and it failed first.
abbrev pub TellsTwo : Service → Two → Disks → List Call → Type 0
TellsTwo k two = λ s cs. TellsLosses (named_out k.meta.out) two cs

-- the point is left as it was, but for the disks and the halt that has come
abbrev pub IsHaltedFrom : Point → Halt → Point → Type 0
IsHaltedFrom p halt q = q ≡ record p { disks = q.disks; halt = Some halt }
