-- Why a disk is not taken out, and why one is not replaced.
use Rattle.std.specs.Prelude.{◌≡◌, ◌≢◌, ℕ, ◌<◌, ◌≤◌, ◌⊎◌, Option, Some, None}
use Rattle.paraid_record.specs.declared.meta.Meta.{Meta}
use Rattle.paraid_core.specs.Steps.{IsMarkedFrom}
use Rattle.paraid_image.specs.Mark.{meta_after_loss}
use Rattle.paraid_image.specs.Out.{named_out}
use Rattle.paraid_upkeep.specs.declared.fault.FailFault.{FailFault}
use Rattle.paraid_upkeep.specs.declared.fault.FailFault.TheVariants.{NoDisk as FailNoDisk, Out}
use Rattle.paraid_upkeep.specs.declared.fault.ReplaceFault.{ReplaceFault}
use Rattle.paraid_upkeep.specs.declared.fault.ReplaceFault.TheVariants.{NoDisk, NoFresh, NotOut}

-- Disk `d` is not taken out under `m`, after which the meta is `m_then`: there is no such disk, one
-- was out before, or none was and another one was lost with what was staged.
abbrev pub IsFailRefused : Meta → Meta → ℕ → FailFault → Type 0
IsFailRefused m m_then d (FailNoDisk e) = (e ≡ d) × (m.setup.geometry.disks ≤ d)
IsFailRefused m m_then d (Out e) =
    (d < m.setup.geometry.disks) × ((named_out m.out ≡ Some e)
    ⊎ ((named_out m.out ≡ None) × (named_out m_then.out ≡ Some e) × (e ≢ d)))

-- disk `d` is not replaced under `m`: there is no such disk, it is not out, or it is and no fresh
-- one came
abbrev pub IsReplaceRefused : Meta → ℕ → ReplaceFault → Type 0
IsReplaceRefused m d (NoDisk e) = (e ≡ d) × (m.setup.geometry.disks ≤ d)
IsReplaceRefused m d (NotOut e) =
    (e ≡ d) × (d < m.setup.geometry.disks) × (named_out m.out ≢ Some d)
IsReplaceRefused m d (NoFresh e) =
    (e ≡ d) × (d < m.setup.geometry.disks) × (named_out m.out ≡ Some d)

-- What taking out disk `d` has left of the meta, some commits later: the marks that it is gone, or
-- where it was refused those of a disk that was lost with what was staged.
abbrev pub HasMarkedTaken : Meta → Meta → ℕ → Option FailFault → Type 0
HasMarkedTaken m m_then d None = m_then ≡ record (meta_after_loss m d) { epoch = m_then.epoch }
HasMarkedTaken m m_then d (Some fault) =
    (epoch : ℕ) × IsMarkedFrom (record m { epoch = epoch }) m_then
