-- A core that has counted a tick can serve as before.
use Rattle.std.proofs.Common.{◌≡◌, ◌≢◌, ℕ, ◌+◌, ◌<◌, ◌⊎◌, Bool, true, false, List, Some, sym, ap, ◌∙◌, subst, min}
use Rattle.paraid_base.specs.States.{gone_out}
use Rattle.paraid_rack.specs.Disks.{is_present}
use Rattle.paraid_rack.specs.Slots.{Slot}
use Rattle.paraid_record.specs.declared.meta.Meta.{Meta}
use Rattle.paraid_image.specs.Out.{named_out}
use Rattle.paraid_txn.specs.declared.store.Store.{Store}
use Rattle.paraid_txn.specs.Stores.{named_of, store_rack}
use Rattle.paraid_core.specs.declared.staged.Core.{Core}
use Rattle.paraid_core.specs.CoreInvariant.{AreCopiesSynced, is_copied}
use Rattle.paraid_core.specs.Cores.{CanCoreServe, IsCoreReady}
use Rattle.paraid_core.specs.Units.{IsRebuilding}
use Rattle.paraid_session.specs.Powers.{FitsSlots}
use Rattle.paraid_event.specs.CoreServing.{AreAllLarge, IsCoreServing}
use Rattle.paraid_upkeep.specs.Service.{IsOutKnown}

-- the meta with one tick more
abbrev pub with_tick : Meta → Meta
with_tick m = record m { ticks = min (m.ticks + 1) 18446744073709551615 }

module _ {R : Type 0} {g : _} (count : R → ℕ) (slot : R → ℕ → Slot) (a c : Core R g) (store : c.store ≡ a.store) (meta : c.meta ≡ with_tick a.meta) where
  -- on each disk of the array
  abbrev AreCopiedBy : Store R g → Meta → List Bool → Type 0
  AreCopiedBy s m copied = (d : ℕ) → d < m.setup.geometry.disks → gone_out m.out ≢ Some d → is_present (slot (store_rack s) d).power ≡ true → (slot (store_rack s) d).unsynced ≡ true → is_copied copied d ≡ true

  pub serving_counted : IsCoreServing count slot a → IsCoreReady count slot c → CanCoreServe slot c → c.draft ≡ a.draft → c.copied ≡ a.copied → IsCoreServing count slot c
  serving_counted q ready serves draft copied = record {
    ready = ready;
    serves = serves;
    draft = draft ∙ q.draft;
    copies_synced = subst (λ (m : Meta). AreCopiesSynced m.setup.geometry.disks c.copied) (sym meta) (subst (AreCopiesSynced a.meta.setup.geometry.disks) (sym copied) q.copies_synced);
    unsynced = subst (λ (s : Store R g). AreCopiedBy s c.meta c.copied) (sym store) (subst (λ (m : Meta). AreCopiedBy a.store m c.copied) (sym meta) (subst (AreCopiedBy a.store a.meta) (sym copied) q.unsynced));
    large = subst (λ (s : Store R g). AreAllLarge (slot (store_rack s)) c.meta) (sym store) (subst (λ (m : Meta). AreAllLarge (slot (store_rack a.store)) m) (sym meta) q.large);
  }

  pub fits_counted : FitsSlots (slot (store_rack a.store)) a.meta → FitsSlots (slot (store_rack c.store)) c.meta
  fits_counted fits =
      subst (λ (s : Store R g). FitsSlots (slot (store_rack s)) c.meta) (sym store) (subst (λ (m : Meta). FitsSlots (slot (store_rack a.store)) m) (sym meta) (record { powers = fits.powers; large = fits.large }))

  was_fresh : (d : ℕ) → IsRebuilding c.meta d → IsRebuilding a.meta d
  was_fresh d fresh = subst (λ (m : Meta). IsRebuilding m d) meta fresh

  pub known_counted : IsOutKnown slot a → IsOutKnown slot c
  known_counted k = record {
    absent = λ d is. subst (λ (s : Store R g). (named_of s ≡ Some d) ⊎ (is_present (slot (store_rack s) d).power ≡ false)) (sym store) (k.absent d (ap (λ (m : Meta). named_out m.out) (sym meta) ∙ is));
    named = λ d fresh. ap (λ (s : Store R g). named_of s) store ∙ k.named d (was_fresh d fresh);
    spins = λ d fresh. ap (λ (s : Store R g). (slot (store_rack s) d).power) store ∙ k.spins d (was_fresh d fresh);
  }
