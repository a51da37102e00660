-- A block that is written, and the sync after it.
use Rattle.std.specs.Prelude.{◌≡◌, ℕ, ◌⊎◌, Option, Result, OnOk}
use Rattle.paraid_base.specs.declared.block.Block.{Block}
use Rattle.paraid_rack.specs.declared.call.Call.TheVariants.{Sync, Write}
use Rattle.paraid_rack.specs.declared.rack.Rack.{Ghosts}
use Rattle.paraid_txn.specs.Losses.{MayDo}

-- The two calls on the disk, with the rack between them; where it gives up the sync may not have
-- been made.
pub record MayPutSynced {R T E : Type 0} (g : Ghosts R) (skip : Option ℕ)
    (disk place : ℕ) (block : Block) (old new : R) (result : Result T E) : Type 0 where
  pub between : R
  pub writes : MayDo (g.told old) (g.told between) (g.slot old) skip disk (λ done.
      Write disk place block done)
  pub syncs : OnOk result
      (MayDo (g.told between) (g.told new) (g.slot between) skip disk (λ done. Sync disk done))
  pub ends : (MayDo (g.told between) (g.told new) (g.slot between) skip disk
      (λ done. Sync disk done))
      ⊎ (g.told new ≡ g.told between)
