-- A disk is marked as out by a command.
use Rattle.std.specs.Prelude.{◌≡◌, ◌≢◌, ℕ, ◌+◌, ◌<◌, ◌⊎◌, Bool, false, List, Option, Some, None, length}
use Rattle.std.proofs.Common.{refl, sym, ◌∙◌, ap, arith, inl, inr}
use Rattle.paraid_base.specs.declared.state.Out.{Out}
use Rattle.paraid_base.specs.declared.state.Out.TheVariants.{Fresh, Gone, No}
use Rattle.paraid_base.specs.History.{History}
use Rattle.paraid_base.proofs.StatesLemmas.{rising_to-beside}
use Rattle.paraid_rack.specs.Disks.{Disks, is_present}
use Rattle.paraid_rack.specs.Slots.{Agrees, Slot}
use Rattle.paraid_rack.specs.Told.{CrashTriple, Ran}
use Rattle.paraid_rack.specs.Trail.{Trail, now}
use Rattle.paraid_rack.proofs.TrailsLemmas.{stays}
use Rattle.paraid_record.specs.declared.meta.Meta.{Meta}
use Rattle.paraid_record.specs.Range.{IsInRange}
use Rattle.paraid_record.specs.declared.targets.Target.{Target}
use Rattle.paraid_txn.specs.Commit.{IsNext, gone_out}
use Rattle.paraid_txn.specs.Losses.{CanWrite}
use Rattle.paraid_txn.specs.Stores.{named_of, store_rack}
use Rattle.paraid_image.specs.Content.{view_by}
use Rattle.paraid_image.specs.Mark.{meta_after_loss}
use Rattle.paraid_image.specs.Out.{named_out, out_disk}
use Rattle.paraid_image.specs.Sides.{Batch}
use Rattle.paraid_image.specs.Sound.{ContentOk}
use Rattle.paraid_image.specs.Standing.{contents}
use Rattle.paraid_image.proofs.ViewLemmas.{dirty_without}
use Rattle.paraid_plan.specs.LossMark.{IsLostDisk}
use Rattle.paraid_plan.proofs.LostLemmas.{lost_keeps}
use Rattle.paraid_core.specs.declared.staged.Core.{Core}
use Rattle.paraid_core.specs.CoreInvariant.{AreSlotsReady, CanServe, HoldsBetweenCalls}
use Rattle.paraid_core.specs.Cores.{CoreStandsFor, IsCoreHeldSinceCommit, IsCoreReady}
use Rattle.paraid_core.specs.Steps.{IsStillOut}
use Rattle.paraid_core.proofs.CallLemmas.{keeps_held}
use Rattle.paraid_core.proofs.LostDiskLemmas.{lost_in_range, out_all}
use Rattle.paraid_core.proofs.ReadyLemmas.{some_is}

gone_names : (o : Out) (x : ℕ) → gone_out o ≡ Some x → named_out o ≡ Some x
gone_names No x is = is
gone_names (Gone d) x is = is
gone_names (Fresh d u) x is = let z : None ≡ Some x = is in cc

-- no other disk is out
module _ (m : Meta) (named : Option ℕ) (d : ℕ) (in_range : IsInRange m) (low : d < m.setup.geometry.disks) (alone : (x : ℕ) → named_out m.out ≡ Some x → x ≡ d) (still : IsStillOut named m) where
  not_named : (x : ℕ) → Some d ≢ Some x → named_out m.out ≢ Some x
  not_named x not is = not (ap Some (sym (alone x is)))

  pub marked_ready : (count : ℕ) (slot : ℕ → Slot) (last array rows : ℕ) (batch : Batch) → AreSlotsReady count slot last array named m rows batch → AreSlotsReady count slot last array named (meta_after_loss m d) rows batch
  marked_ready count slot last array rows batch ready = record {
    in_range = lost_in_range m d in_range low;
    array_is = ready.array_is;
    epoch_is = ready.epoch_is;
    enough = ready.enough;
    rows_are = ready.rows_are;
    absent = λ x l gone. ap Some (sym (alone x (ready.absent x l gone)));
    one = λ x e was is. alone x (still x was) ∙ some_is d e is;
    spins = λ x l not. ready.spins x l (not_named x not);
    large = λ x l not. ready.large x l (not_named x not);
    fresh_spins = λ x u k here. let z : Gone d ≡ Fresh x u = k in cc;
    fresh_large = λ x u k here. let z : Gone d ≡ Fresh x u = k in cc;
    each = ready.each;
    can = λ k t l. can_then _ (ready.can k t l);
    apart = ready.apart;
  }
    where
      can_then : (t : Target) → (t.disk < count) × (gone_out m.out ≢ Some t.disk → CanWrite slot t.disk t.place) → (t.disk < count) × (Some d ≢ Some t.disk → CanWrite slot t.disk t.place)
      can_then t can = (can.0, λ not. can.1 (λ gone. not_named t.disk not (gone_names m.out t.disk gone)))

  pub marked_serves : (slot : ℕ → Slot) → CanServe slot named m → CanServe slot named (meta_after_loss m d)
  marked_serves slot serve =
      let same = rising_to-beside m.phase in
      record {
        spins = λ x l not. serve.spins x (omega arith) (not_named x not);
        large = λ x l not. serve.large x (omega arith) (not_named x not);
        stays = λ x was. ap Some (sym (alone x (serve.stays x was)));
      }

  module _ (slots : ℕ) (table : List (List Bool)) (batch : Batch) (copied : List Bool) (h : History) (lo : ℕ) (s : Disks)
      (absent : (x : ℕ) → x < m.setup.geometry.disks → is_present (s.power x) ≡ false → named_out m.out ≡ Some x) (k : HoldsBetweenCalls slots named m table batch copied h lo s) where
    out_was : out_disk s.power m ≡ named_out m.out
    out_was = out_all s.power m absent

    named_is : (x : ℕ) → named_out k.base.out ≡ Some x → x ≡ d
    named_is x is = alone x (still x (sym k.named_by ∙ is))

    loss : IsLostDisk m s.power s.power s.size s.size (contents s batch) (contents s batch) d
    loss = record {
      alone = alone;
      powers = λ e apart. refl;
      sizes = λ e apart. refl;
      blocks = λ e p apart. refl;
      log_disk = λ l. k.staged.kept.disks.log_disks d l;
    }

    staged_after : ContentOk slots s.power s.size (view_by (meta_after_loss m d) s.power (contents s batch)) h (length h)
    staged_after =
        let both = lost_keeps slots s.power s.power s.size s.size m (contents s batch) (contents s batch) d in_range (lost_in_range m d in_range low) out_was k.staged.kept loss in
        record { kept = both.0; blocks = λ b l. both.1 b l ∙ k.staged.blocks b l }

    was_out : (out_disk s.power m ≡ None) ⊎ (out_disk s.power m ≡ Some d)
    was_out = by (named_out m.out) refl
      where
        by : (o : Option ℕ) → named_out m.out ≡ o → (out_disk s.power m ≡ None) ⊎ (out_disk s.power m ≡ Some d)
        by None at = inl (out_was ∙ at)
        by (Some x) at = inr (out_was ∙ at ∙ ap Some (alone x at))

    next_after : IsNext s k.base (record (meta_after_loss m d) { epoch = m.epoch + 1 })
    next_after = record {
      epoch = ap (λ (z : ℕ). z + 1) k.epoch;
      setup = k.next.setup;
      out = λ x e p q. sym (some_is d x p) ∙ sym (named_is e q);
      comes_in = λ x l here was not. absurd (not (ap Some (sym (named_is x was))));
      fresh_closed = λ x u fresh l. let z : Gone d ≡ Fresh x u = fresh.is in cc;
    }

    pub keeps_out : HoldsBetweenCalls slots named (meta_after_loss m d) table batch copied h lo s
    keeps_out = record {
      base = k.base;
      held = k.held;
      copies = k.copies;
      synced = k.synced;
      named_by = k.named_by;
      borne = k.borne;
      epoch = k.epoch;
      next = next_after;
      writes = k.writes;
      brought = k.brought;
      staged = staged_after;
      dirty = λ r e l. k.dirty r e l ∙ sym (dirty_without m.setup.geometry (out_disk s.power m) (contents s batch) (contents s batch) d was_out (λ x q apart. refl)
          (λ j lj none. k.staged.kept.map.mirrored j lj (λ o. let z : None ≡ Some 0 = sym none ∙ o in cc) (λ o. let z : None ≡ Some 1 = sym none ∙ o in cc)) r e l);
    }

-- no call is made
pub out_stands : {R : Type 0} {g : _} (count : R → ℕ) (slot : R → ℕ → Slot) (told : R → Option Trail) (old : Core R g) → IsCoreReady count slot old → (d : ℕ) → d < old.meta.setup.geometry.disks
    → ((x : ℕ) → named_out old.meta.out ≡ Some x → x ≡ d) → IsStillOut (named_of old.store) old.meta → ((t : Trail) → told (store_rack old.store) ≡ Some t → Agrees (now t) (slot (store_rack old.store)))
    → (h : History) (lo : ℕ) → Ran (told (store_rack old.store)) (told (store_rack old.store)) (CrashTriple (IsCoreHeldSinceCommit count old h lo) (CoreStandsFor count old h lo)
    (HoldsBetweenCalls (count (store_rack old.store)) (named_of old.store) (meta_after_loss old.meta d) old.dirty old.batch old.copied h lo))
out_stands count slot told old ready d low alone still agrees h lo =
    stays (IsCoreHeldSinceCommit count old h lo) (CoreStandsFor count old h lo) (HoldsBetweenCalls (count (store_rack old.store)) (named_of old.store) (meta_after_loss old.meta d) old.dirty old.batch old.copied h lo) (told (store_rack old.store))
    (λ s k. keeps_held (count (store_rack old.store)) (named_of old.store) (meta_after_loss old.meta d) old.dirty old.batch old.copied h lo s k)
    (λ t tells k. keeps_out old.meta (named_of old.store) d ready.in_range low alone still (count (store_rack old.store)) old.dirty old.batch old.copied h lo (now t)
    (λ x l gone. ready.absent x l (ap is_present (sym ((agrees t tells).power x)) ∙ gone)) k)
