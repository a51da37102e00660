-- Units that are copied are marked as rebuilt.
use Rattle.std.specs.Prelude.{◌≡◌, ℕ, ◌<◌, ◌≤◌, Bool, true, List, [], Option, Some, None, length}
use Rattle.std.proofs.Common.{sym, ◌∙◌, ap, subst}
use Rattle.paraid_base.specs.declared.state.Out.TheVariants.{Fresh}
use Rattle.paraid_base.specs.History.{History}
use Rattle.paraid_base.specs.States.{gone_out, has_out, rebuilt_count}
use Rattle.paraid_rack.specs.Disks.{Disks, is_present}
use Rattle.paraid_rack.specs.Slots.{Slot}
use Rattle.paraid_rack.specs.Told.{CrashTriple, Ran}
use Rattle.paraid_rack.specs.Trail.{Trail, now}
use Rattle.paraid_rack.proofs.TrailsLemmas.{stays}
use Rattle.paraid_record.specs.declared.meta.Meta.{Meta}
use Rattle.paraid_record.specs.Range.{rebuild_units}
use Rattle.paraid_image.specs.Content.{view_by}
use Rattle.paraid_image.specs.Out.{named_out, out_disk}
use Rattle.paraid_image.specs.Sides.{Batch, targets}
use Rattle.paraid_image.specs.Sound.{AreRebuilt, ContentOk, IsFresh}
use Rattle.paraid_image.specs.Spot.{map_bit, map_disk}
use Rattle.paraid_image.specs.Standing.{Contents, contents}
use Rattle.paraid_moves.specs.MoveMetas.{meta_with_out, view_with_out}
use Rattle.paraid_moves.proofs.RangeLemmas.{units_in_range}
use Rattle.paraid_moves.proofs.RebuildLemmas.{units_marked}
use Rattle.paraid_txn.specs.Ready.{AreTargetsReady}
use Rattle.paraid_txn.specs.Stores.{named_of, store_rack}
use Rattle.paraid_core.specs.declared.staged.Core.{Core}
use Rattle.paraid_core.specs.CoreInvariant.{AreSlotsReady, HoldsBetweenCalls}
use Rattle.paraid_core.specs.Cores.{IsCoreHeldSinceCommit}
use Rattle.paraid_core.specs.Units.{IsRebuilding, KeepsRebuilt, UnitsRebuilt}
use Rattle.paraid_core.proofs.CallLemmas.{keeps_held}
use Rattle.paraid_core.proofs.UnitCopyLemmas.{rebuilding_named, rebuilding_out}

module _ (m : Meta) (d end : ℕ) (fresh : IsRebuilding m d) where
  abbrev marked : Meta
  marked = meta_with_out m (Fresh d end)

  named_is : (e : ℕ) → named_out marked.out ≡ Some e → named_out m.out ≡ Some e
  named_is e is = rebuilding_named m d fresh ∙ is

  has_is : has_out m.out ≡ true
  has_is = ap has_out fresh

  gone_is : gone_out m.out ≡ None
  gone_is = ap gone_out fresh

  fresh_is : (e units : ℕ) → marked.out ≡ Fresh e units → m.out ≡ Fresh e (rebuilt_count m.out)
  fresh_is e units is = let z : Fresh d end ≡ Fresh e units = is in let same : d ≡ e = cc in subst (λ (x : ℕ). m.out ≡ Fresh x (rebuilt_count m.out)) same fresh

  pub ready_rebuilt : (count : ℕ) (slot : ℕ → Slot) (last array : ℕ) (named : Option ℕ) (rows : ℕ) (batch : Batch) → d < m.setup.geometry.disks → end ≤ rebuild_units m.setup.geometry m.gear d
      → AreSlotsReady count slot last array named m rows batch → AreSlotsReady count slot last array named marked rows batch
  ready_rebuilt count slot last array named rows batch low few ready = record {
    in_range = units_in_range m d end ready.in_range has_is low few;
    array_is = ready.array_is;
    epoch_is = ready.epoch_is;
    enough = ready.enough;
    rows_are = ready.rows_are;
    absent = λ e l gone. sym (rebuilding_named m d fresh) ∙ ready.absent e l gone;
    one = λ x e nx is. ready.one x e nx (named_is e is);
    spins = λ e l not. ready.spins e l (λ is. not (sym (rebuilding_named m d fresh) ∙ is));
    large = λ e l not. ready.large e l (λ is. not (sym (rebuilding_named m d fresh) ∙ is));
    fresh_spins = λ e units is here. ready.fresh_spins e (rebuilt_count m.out) (fresh_is e units is) here;
    fresh_large = λ e units is here. ready.fresh_large e (rebuilt_count m.out) (fresh_is e units is) here;
    each = ready.each;
    can = subst (λ (o : Option ℕ). AreTargetsReady o count slot (targets batch)) gone_is ready.can;
    apart = ready.apart;
  }

  module _ (slots : ℕ) (named : Option ℕ) (table : List (List Bool)) (copied : List Bool) (h : History) (lo : ℕ) (s : Disks) (low : d < m.setup.geometry.disks) (kr : KeepsRebuilt slots named m table copied h lo end s) where
    abbrev k : HoldsBetweenCalls slots named m table [] copied h lo s
    k = kr.keeps

    abbrev f : Contents
    f = contents s []

    out_is : out_disk s.power m ≡ Some d
    out_is = rebuilding_out m d s fresh

    was : is_present (s.power d) ≡ true → IsFresh s.power m d (rebuilt_count m.out)
    was here = record { is = fresh; present = here }

    staged_then : ContentOk slots s.power s.size (view_by marked s.power f) h (length h)
    staged_then =
        units_marked slots s.power s.size m d (map_bit m.setup.geometry (f (map_disk (Some d)))) f h (length h)
        (subst (λ (o : Option ℕ). ContentOk slots s.power s.size (view_with_out m o f) h (length h)) out_is k.staged) end
        (λ here. subst (λ (o : Option ℕ). AreRebuilt (view_with_out m o f) d end) out_is (kr.rebuilt d (rebuilt_count m.out) (was here)))
        (λ here. k.staged.kept.disks.fresh_large d (rebuilt_count m.out) (was here))
        (λ here. k.staged.kept.disks.fresh_spins d (rebuilt_count m.out) (was here)) low

    pub marked_stands : HoldsBetweenCalls slots named marked table [] copied h lo s
    marked_stands = record {
      base = k.base;
      held = k.held;
      copies = k.copies;
      synced = k.synced;
      named_by = k.named_by;
      borne = k.borne;
      epoch = k.epoch;
      next = record {
        epoch = k.next.epoch;
        setup = k.next.setup;
        out = λ x e is base. k.next.out x e (named_is x is) base;
        comes_in = λ x l here base not. k.next.comes_in x l here base (λ is. not (sym (rebuilding_named m d fresh) ∙ is));
        fresh_closed = λ x units is l. k.next.fresh_closed x (rebuilt_count m.out) (record { is = fresh_is x units is.is; present = is.present }) l;
      };
      writes = k.writes;
      brought = k.brought;
      staged = staged_then;
      dirty = λ r e l. k.dirty r e l ∙ ap (λ (o : Option ℕ). map_bit m.setup.geometry (f (map_disk o)) r e) out_is;
    }

-- no call is made
pub units_mark_stands : {R : Type 0} {g : _} (count : R → ℕ) (told : R → Option Trail) (old : Core R g) (d end : ℕ) → IsRebuilding old.meta d → d < old.meta.setup.geometry.disks → old.batch ≡ [] → (h : History) (lo : ℕ)
    → Ran (told (store_rack old.store)) (told (store_rack old.store)) (CrashTriple (IsCoreHeldSinceCommit count old h lo) (UnitsRebuilt count old h lo end)
    (HoldsBetweenCalls (count (store_rack old.store)) (named_of old.store) (meta_with_out old.meta (Fresh d end)) old.dirty old.batch old.copied h lo))
units_mark_stands count told old d end fresh low nothing h lo =
    let slots = count (store_rack old.store) in
    let name = named_of old.store in
    let m = old.meta in
    stays (IsCoreHeldSinceCommit count old h lo) (UnitsRebuilt count old h lo end) (HoldsBetweenCalls slots name (meta_with_out m (Fresh d end)) old.dirty old.batch old.copied h lo) (told (store_rack old.store))
    (λ s k. keeps_held slots name (meta_with_out m (Fresh d end)) old.dirty old.batch old.copied h lo s k)
    (λ t tells kr. subst (λ (z : Batch). HoldsBetweenCalls slots name (meta_with_out m (Fresh d end)) old.dirty z old.copied h lo (now t)) (sym nothing)
    (marked_stands m d end fresh slots name old.dirty old.copied h lo (now t) low kr))
