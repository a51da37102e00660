-- What a mount and its store know of the witness on disk 2.
use Rattle.std.specs.Prelude.{◌≡◌, ℕ, Bool, true, Option, Some}
use Rattle.std.proofs.Common.{◌∙◌}
use Rattle.paraid_rack.specs.Atoms.{IsSeen}
use Rattle.paraid_rack.specs.Slots.{Agrees, Slot}
use Rattle.paraid_rack.specs.Trail.{Trail, now}
use Rattle.paraid_rack.specs.declared.rack.Rack.{Ghosts}
use Rattle.paraid_rack.proofs.AtomsLemmas.{seen_sure}
use Rattle.paraid_image.specs.Sides.{is_open}
use Rattle.paraid_txn.specs.Borne.{IsBorneNow}
use Rattle.paraid_txn.specs.Losses.{IsSyncedAt}
use Rattle.paraid_txn.specs.Stores.{IsSameStore, store_rack}
use Rattle.paraid_txn.specs.declared.store.Store.{Store}
use Rattle.paraid_recover.specs.Bearing.{HasBorne, IsNamedLog, IsOnBearer}
use Rattle.paraid_recover.proofs.BearerLemmas.{bearer_none, borne_sure}
use Rattle.paraid_recover.proofs.OpenLemmas.{open_none}

-- what is seen and synced is borne
pub borne_now : (disk : ℕ) (told : Option Trail) (slot : ℕ → Slot) → ((t : Trail) → told ≡ Some t → Agrees (now t) slot) → IsSyncedAt slot 2
    → ((x : ℕ) → IsNamedLog (Some disk) x → (t : Trail) → told ≡ Some t → IsSeen (now t) 2 x (λ b. is_open b ≡ true)) → IsBorneNow (Some disk) told
borne_now disk = borne_sure (Some disk)

module _ {R : Type 0} {l : _} (g : Ghosts R) where
  -- what the store knows is seen
  pub borne_known : (disk : ℕ) (s : Store R l) → IsBorneNow (Some disk) (g.told (store_rack s)) → HasBorne g (Some disk) s s true
  borne_known disk s known = record {
    part = bearer_none g (Some disk) s;
    synced = λ is was. was;
    borne = λ is x named t tells. seen_sure (known t tells x named.1 named.0);
    kept = open_none (Some disk) (g.told (store_rack s));
  }

  -- what is noted changes no slot
  module _ (o : Option ℕ) (old mid new : Store R l) (rack : store_rack new ≡ store_rack mid) (same : IsSameStore mid new) where
    part_noted : (done : Bool) → IsOnBearer g o old mid done → IsOnBearer g o old new done
    part_noted done p = record {
      slots = rw rack p.slots;
      same = record { disks = same.disks ∙ p.same.disks; epoch = same.epoch ∙ p.same.epoch; named = same.named ∙ p.same.named };
      others = rw rack p.others;
      powers = rw rack p.powers;
      well = rw rack p.well;
      calls = rw rack p.calls;
      risen = rw rack p.risen;
      gone = rw rack p.gone;
      ends = rw rack p.ends;
      still = rw rack p.still;
    }

    pub borne_noted : (done : Bool) → HasBorne g o old mid done → HasBorne g o old new done
    borne_noted done it = record { part = part_noted done it.part; synced = rw rack it.synced; borne = rw rack it.borne; kept = rw rack it.kept }
