-- Which disk is marked gone at the end of a recovery, and the meta that stands then.
use Rattle.std.specs.Prelude.{ℕ, ◌+◌, ◌==◌, Bool, true, false, Option, Some, None, if◌then◌else◌}
use Rattle.paraid_base.specs.declared.state.Out.{Out}
use Rattle.paraid_base.specs.declared.state.Out.TheVariants.{No, Gone, Fresh}
use Rattle.paraid_rack.specs.declared.call.Power.{Power}
use Rattle.paraid_rack.specs.Disks.{is_present}
use Rattle.paraid_record.specs.declared.meta.Meta.{Meta}
use Rattle.paraid_image.specs.Mark.{marked_gone}
use Rattle.paraid_image.specs.Out.{first_absent}

-- the disk that a mount has to mark, if there is one
abbrev pub to_mark_by : Out → (ℕ → Power) → ℕ → Option ℕ
to_mark_by No power n = first_absent power n
to_mark_by (Gone d) power n = None
to_mark_by (Fresh d rebuilt) power n = if is_present (power d) then None else Some d

-- the least absent disk where none is named out, or the one that is being rebuilt where it is
-- absent
abbrev pub to_mark : (ℕ → Power) → Meta → Option ℕ
to_mark power m = to_mark_by m.out power m.setup.geometry.disks

-- the same meta, but of version 2
abbrev pub of_version_two : Meta → Meta
of_version_two m = record m { version = 2 }

-- the same meta, or with version 2 and the next epoch, by whether it is brought up
abbrev pub renewed_by : Bool → Meta → Meta
renewed_by false m = m
renewed_by true m = record m { version = 2; epoch = m.epoch + 1 }

-- a meta of version 1 comes to version 2 by the next epoch; one of version 2 stays as it is
abbrev pub renewed : Meta → Meta
renewed m = renewed_by (m.version == 1) m

-- the meta of version 2 that marks this disk by the next epoch; or where there is none to mark, the
-- same meta, brought to version 2
abbrev pub with_mark : Meta → Option ℕ → Meta
with_mark m None = renewed m
with_mark m (Some d) = marked_gone (of_version_two m) d (m.epoch + 1)
