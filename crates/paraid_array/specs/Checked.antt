-- What a check of an array counts, where its rack tells its record.
use Rattle.std.specs.Prelude.{◌≡◌, ℕ, ◌+◌, ◌<◌, [], Option, Some, IsSome}
use Rattle.paraid_rack.specs.declared.call.Power.TheVariants.{Spinning}
use Rattle.paraid_rack.specs.declared.rack.Rack.{Ghosts}
use Rattle.paraid_rack.specs.Slots.{Slot}
use Rattle.paraid_rack.specs.Trail.{Trail, now}
use Rattle.paraid_core.specs.declared.staged.Core.{Core}
use Rattle.paraid_core.specs.Calls.{MakesTransferCalls}
use Rattle.paraid_core.specs.CoreInvariant.{AreCopiesSynced}
use Rattle.paraid_core.specs.Cores.{CanCoreServe, IsCoreReady, core_rack}
use Rattle.paraid_core.specs.Lost.{CoreMarksLost, MakesReads}
use Rattle.paraid_core.specs.Steps.{AreUnsyncedCopied}
use Rattle.paraid_core.specs.Units.{IsRebuilding}
use Rattle.paraid_image.specs.Out.{named_out}
use Rattle.paraid_txn.specs.Stores.{named_of}
use Rattle.paraid_scrub.specs.Cores.{HasMapBits, core_view, table_view}
use Rattle.paraid_scrub.specs.Counts.{CountsByView}
use Rattle.paraid_scrub.specs.declared.kind.CheckReport.{CheckReport}
use Rattle.paraid_base.specs.Log.{epoch_limit}

-- From a core with nothing staged the counts are those of its disks, with the dirty cells of the
-- table that it serves; and with those of the map on its disks, if the table has the bits of that.
pub record CountsDisks {R : Type 0} {g : _} (slot : R → ℕ → Slot)
    (told : R → Option Trail) (old new : Core R g) (report : CheckReport) : Type 0 where
  pub by_table : old.batch ≡ []
      → (t : Trail) → told (core_rack old) ≡ Some t → IsSome (told (core_rack new))
      → CountsByView (table_view old (now t)) (slot (core_rack old)) (slot (core_rack new)) report
  pub by_map : old.batch ≡ [] → (t : Trail) → told (core_rack old) ≡ Some t
      → IsSome (told (core_rack new)) → HasMapBits old (core_view old (now t))
      → CountsByView (core_view old (now t)) (slot (core_rack old)) (slot (core_rack new)) report

-- All that was staged was committed, and this core was left with nothing staged; then reads alone
-- were made. The counts are those of the disks as these reads began, with the dirty cells of the
-- table; and with those of the map on them, if the table had the bits of that.
pub record CountsCommitted {R : Type 0} {g : _} (slot : R → ℕ → Slot)
    (told : R → Option Trail) (old new : Core R g) (report : CheckReport) : Type 0 where
  pub kept : Core R g
  pub nothing : kept.batch ≡ []
  pub table : kept.dirty ≡ old.dirty
  pub marks : CoreMarksLost slot old kept
  pub calls : MakesTransferCalls told old kept
  pub reads : MakesReads told kept new
  pub by_table : (t : Trail) → told (core_rack kept) ≡ Some t → IsSome (told (core_rack new))
      → CountsByView (table_view kept (now t)) (slot (core_rack old)) (slot (core_rack new)) report
  pub counts : (t : Trail) → told (core_rack kept) ≡ Some t
      → IsSome (told (core_rack new)) → HasMapBits kept (core_view kept (now t))
      → CountsByView (core_view kept (now t)) (slot (core_rack old)) (slot (core_rack new)) report

-- A core can be committed and then counted: it can be read and written, no plan is under way, a
-- disk that is being rebuilt spins, an epoch is left, and each copy is synced.
pub record CanBeCounted {R : Type 0} {g : Ghosts R} (core : Core R g) : Type 0 where
  pub ready : IsCoreReady g.slot_count g.slot core
  pub serves : CanCoreServe g.slot core
  pub fresh : (d : ℕ) → IsRebuilding core.meta d → (g.slot (core_rack core) d).power ≡ Spinning
  pub no_draft : core.draft ≡ []
  pub epoch : core.meta.epoch < epoch_limit
  pub copies_synced : AreCopiesSynced core.meta.setup.geometry.disks core.copied

-- So it serves on one commit later with nothing staged, and the commit names the disk that was out.
-- A disk that was lost is marked.
pub record LeavesCounted {R : Type 0} {g : Ghosts R} (old new : Core R g) : Type 0 where
  pub draft : new.draft ≡ []
  pub table : new.dirty ≡ old.dirty
  pub nothing : new.batch ≡ []
  pub ready : IsCoreReady g.slot_count g.slot new
  pub serves : CanCoreServe g.slot new
  pub setup : new.meta.setup ≡ old.meta.setup
  pub writes : new.meta.writes ≡ old.meta.writes
  pub epoch : new.meta.epoch ≡ old.meta.epoch + 1
  pub unsynced : AreUnsyncedCopied g.slot old → AreUnsyncedCopied g.slot new
  pub named : named_of new.store ≡ named_out old.meta.out
  pub marks : CoreMarksLost g.slot old new
