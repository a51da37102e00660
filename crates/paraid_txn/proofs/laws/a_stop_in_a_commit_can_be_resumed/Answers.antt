use Rattle.std.specs.Prelude.{[]}
use Rattle.std.proofs.Common.{sym, subst, inl, inr}
use Rattle.paraid_rack.specs.Disks.{Disks}
use Rattle.paraid_record.specs.declared.meta.Meta.{Meta}
use Rattle.paraid_image.specs.Rest.{AreSynced}
use Rattle.paraid_txn.specs.Commit.{ImageStandsFor}
use Rattle.paraid_txn.specs.Resume.{IsResumable}
use Rattle.paraid_image.specs.Sides.{Batch}
use Rattle.paraid_image.specs.Sound.{LogOk}
use Rattle.paraid_txn.proofs.laws.a_stop_in_a_commit_can_be_resumed.Goals as goal

broken : (start i : Disks) (m : Meta) (batch : Batch) (for : ImageStandsFor start i m batch) → AreSynced i → IsResumable i for.disk for.said
broken start i m batch for synced = record { synced = synced; log = subst (λ (n : Meta). LogOk i for.disk for.said n.writes) (sym for.meta) for.log }

pub returns : goal.returns
returns c start i before after batch stands synced = elim stands [
  | inl for ↦ (for.disk, for.said, broken start i before [] for synced, inl for.meta)
  | inr for ↦ (for.disk, for.said, broken start i after batch for synced, inr for.meta)
]
