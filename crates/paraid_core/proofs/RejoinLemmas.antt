-- A disk of which all units are rebuilt comes back.
use Rattle.std.specs.Prelude.{◌≡◌, ◌≢◌, ℕ, ◌+◌, ◌*◌, ◌/◌, ◌<◌, ◌≤◌, Bool, true, List, [], Option, Some, None, length}
use Rattle.std.proofs.Common.{refl, sym, ◌∙◌, ap, subst, arith, inl, inr}
use Rattle.std.proofs.lemmas.Bool.{cases_eq, false≢true}
use Rattle.std.proofs.lemmas.Bool.Decides.{nat_tests}
use Rattle.paraid_base.specs.declared.state.Out.{Out}
use Rattle.paraid_base.specs.declared.state.Out.TheVariants.{Fresh, Gone, No}
use Rattle.paraid_base.specs.History.{History}
use Rattle.paraid_base.specs.Regions.{disk_size, map_count, map_place_of}
use Rattle.paraid_base.specs.States.{gone_out, has_out}
use Rattle.paraid_dirty.specs.Table.{is_dirty}
use Rattle.paraid_rack.specs.declared.call.Power.TheVariants.{Spinning}
use Rattle.paraid_rack.specs.Slots.{Agrees, Slot}
use Rattle.paraid_rack.specs.Told.{CrashTriple, Ran}
use Rattle.paraid_rack.specs.Trail.{Trail, now}
use Rattle.paraid_rack.specs.Disks.{Disks, is_present}
use Rattle.paraid_rack.proofs.TrailsLemmas.{stays}
use Rattle.paraid_record.specs.declared.meta.Meta.{Meta}
use Rattle.paraid_record.specs.Range.{IsInRange, rebuild_units}
use Rattle.paraid_image.specs.Content.{view_by}
use Rattle.paraid_image.specs.Out.{named_out, out_disk}
use Rattle.paraid_image.specs.Sides.{Batch, targets}
use Rattle.paraid_image.specs.Sound.{ContentOk}
use Rattle.paraid_image.specs.Spot.{map_bit, map_disk}
use Rattle.paraid_image.specs.Standing.{Contents, contents}
use Rattle.paraid_image.proofs.OutLemmas.{named_below}
use Rattle.paraid_image.proofs.ViewLemmas.{map_bit_same}
use Rattle.paraid_moves.specs.MoveMetas.{HoldUnder, meta_with_out}
use Rattle.paraid_moves.proofs.FailLemmas.{joins, marks_units, no_disk_is_out}
use Rattle.paraid_moves.proofs.RangeLemmas.{join_in_range, units_in_range}
use Rattle.paraid_txn.specs.Commit.{IsNext}
use Rattle.paraid_txn.specs.Ready.{AreTargetsReady}
use Rattle.paraid_txn.specs.Stores.{named_of, store_rack}
use Rattle.paraid_core.specs.declared.staged.Core.{Core}
use Rattle.paraid_core.specs.CoreInvariant.{AreSlotsReady, CanServe, HoldsBetweenCalls}
use Rattle.paraid_core.specs.Cores.{IsCoreHeldSinceCommit, IsCoreReady}
use Rattle.paraid_core.specs.Replaced.{HaveComeUp}
use Rattle.paraid_core.specs.Units.{KeepsRebuilt, UnitsRebuilt}
use Rattle.paraid_core.proofs.AfterLemmas.{named_is_out}
use Rattle.paraid_core.proofs.CallLemmas.{keeps_held}
use Rattle.paraid_core.proofs.ReadyLemmas.{some_is}

module _ (slots : ℕ) (named : Option ℕ) (m : Meta) (table : List (List Bool)) (copied : List Bool) (h : History) (lo : ℕ) (s : Disks) (d units : ℕ)
    (range : IsInRange m) (fresh : m.out ≡ Fresh d units) (there : (x : ℕ) → x < m.setup.geometry.disks → is_present (s.power x) ≡ true) where
  abbrev all : ℕ
  all = rebuild_units m.setup.geometry m.gear d

  module _ (kr : KeepsRebuilt slots named m table copied h lo all s) where
    abbrev k : HoldsBetweenCalls slots named m table [] copied h lo s
    k = kr.keeps

    abbrev f : Contents
    f = contents s []

    abbrev whole : Meta
    whole = meta_with_out m No

    names : named_out m.out ≡ Some d
    names = ap named_out fresh

    low : d < m.setup.geometry.disks
    low = named_below m.setup.geometry m.gear m.out d range.out names

    out_was : out_disk s.power m ≡ Some d
    out_was = named_is_out s.power m d names

    out_now : out_disk s.power whole ≡ None
    out_now = no_disk_is_out s.power whole refl there

    base_fresh : k.base.out ≡ Fresh d units
    base_fresh = kr.shift.rebuilt d units fresh

    marked : HoldUnder slots s.power s.size h (length h) (meta_with_out m (Fresh d all)) f
    marked =
        marks_units slots s.power s.size h (length h) m f d all low out_was (λ here. kr.rebuilt d units (record { is = fresh; present = here }))
        (λ here. k.staged.kept.disks.fresh_large d units (record { is = fresh; present = here })) (λ here. k.staged.kept.disks.fresh_spins d units (record { is = fresh; present = here })) k.staged

    joined : ContentOk slots s.power s.size (view_by whole s.power f) h (length h)
    joined =
        joins slots s.power s.size h (length h) (meta_with_out m (Fresh d all)) f d all (units_in_range m d all range (ap has_out fresh) low (omega arith)) low refl refl
        (range.shift.still (ap has_out fresh)) there marked

    other_map : d ≢ 0 → map_disk (Some d) ≡ 0
    other_map not = grind (arith, nat_tests)

    same_map : (r : ℕ) → r < 512 * map_count m.setup.geometry → f (map_disk (Some d)) (map_place_of m.setup.geometry r) ≡ f (map_disk None) (map_place_of m.setup.geometry r)
    same_map r l = elim (cases_eq d 0) [
      | inl is ↦
          ap (λ (x : ℕ). f (map_disk (Some x)) (map_place_of m.setup.geometry r)) is
          ∙ sym (joined.kept.map.mirrored (r / 512) (omega arith) (λ z. let y : None ≡ Some 0 = sym out_now ∙ z in cc) (λ z. let y : None ≡ Some 1 = sym out_now ∙ z in cc))
      | inr not ↦ ap (λ (x : ℕ). f x (map_place_of m.setup.geometry r)) (other_map not)
    ]

    dirty_then : (r e : ℕ) → r < 512 * map_count m.setup.geometry → is_dirty table r e ≡ (view_by whole s.power f).dirty r e
    dirty_then r e l =
        k.dirty r e l ∙ ap (λ (o : Option ℕ). map_bit m.setup.geometry (f (map_disk o)) r e) out_was
        ∙ map_bit_same m.setup.geometry (f (map_disk (Some d))) (f (map_disk None)) r e (same_map r l)
        ∙ ap (λ (o : Option ℕ). map_bit m.setup.geometry (f (map_disk o)) r e) (sym out_now)

    next_then : IsNext s k.base (record whole { epoch = m.epoch + 1 })
    next_then = record {
      epoch = ap (λ (z : ℕ). z + 1) k.epoch;
      setup = k.next.setup;
      out = λ x e p q. let z : None ≡ Some x = p in cc;
      comes_in = λ x l here was not.
          let z : Some d ≡ Some x = sym (ap named_out base_fresh) ∙ was in
          let y : d ≡ x = cc in
          (units, base_fresh ∙ ap (λ (e : ℕ). Fresh e units) y);
      fresh_closed = λ x u is l. let z : No ≡ Fresh x u = is.is in cc;
    }

    pub keeps_joined : HoldsBetweenCalls slots named whole table [] copied h lo s
    keeps_joined = record {
      base = k.base;
      held = k.held;
      copies = k.copies;
      synced = k.synced;
      named_by = k.named_by;
      borne = k.borne;
      epoch = k.epoch;
      next = next_then;
      writes = k.writes;
      brought = k.brought;
      staged = joined;
      dirty = dirty_then;
    }

-- over every rack
module _ (count : ℕ) (slot : ℕ → Slot) (last array : ℕ) (named : Option ℕ) (m : Meta) (rows : ℕ) (batch : Batch) (back : gone_out m.out ≡ None)
    (there : (x : ℕ) → x < m.setup.geometry.disks → is_present (slot x).power ≡ true) (ready : AreSlotsReady count slot last array named m rows batch) where
  -- a disk that the meta names out is being rebuilt
  rebuilt_one : (o : Out) (x : ℕ) → gone_out o ≡ None → named_out o ≡ Some x → (u : ℕ) × (o ≡ Fresh x u)
  rebuilt_one No x is at = let z : None ≡ Some x = at in cc
  rebuilt_one (Fresh e u) x is at = let z : Some e ≡ Some x = at in let y : e ≡ x = cc in (u, ap (λ (d : ℕ). Fresh d u) y)
  rebuilt_one (Gone e) x is at = let z : Some e ≡ None = is in absurd cc

  low_named : (x : ℕ) → named_out m.out ≡ Some x → x < m.setup.geometry.disks
  low_named x is = named_below m.setup.geometry m.gear m.out x ready.in_range.out is

  spins_named : (x : ℕ) → named_out m.out ≡ Some x → (slot x).power ≡ Spinning
  spins_named x is = let o = rebuilt_one m.out x back is in ready.fresh_spins x o.0 o.1 (there x (low_named x is))

  large_named : (x : ℕ) → named_out m.out ≡ Some x → disk_size m.setup.geometry ≤ (slot x).size
  large_named x is = let o = rebuilt_one m.out x back is in ready.fresh_large x o.0 o.1 (there x (low_named x is))

  -- whatever it names
  named_or : {A : Type 0} (x : ℕ) → (named_out m.out ≡ Some x → A) → (named_out m.out ≢ Some x → A) → A
  named_or {A} x yes_is not_is = by (named_out m.out) refl
    where
      by : (o : Option ℕ) → named_out m.out ≡ o → A
      by None is = not_is (λ k. let z : None ≡ Some x = sym is ∙ k in cc)
      by (Some e) is = elim (cases_eq e x) [
        | inl same ↦ yes_is (is ∙ ap Some same)
        | inr apart ↦ not_is (λ k. apart (some_is e x (sym is ∙ k)))
      ]

  pub joined_ready : AreSlotsReady count slot last array named (meta_with_out m No) rows batch
  joined_ready = record {
    in_range = join_in_range m ready.in_range;
    array_is = ready.array_is;
    epoch_is = ready.epoch_is;
    enough = ready.enough;
    rows_are = ready.rows_are;
    absent = λ x l away. absurd (false≢true (sym away ∙ there x l));
    one = λ x e was is. let z : None ≡ Some e = is in cc;
    spins = λ x l not. named_or x (spins_named x) (ready.spins x l);
    large = λ x l not. named_or x (large_named x) (ready.large x l);
    fresh_spins = λ x u is here. let z : No ≡ Fresh x u = is in cc;
    fresh_large = λ x u is here. let z : No ≡ Fresh x u = is in absurd cc;
    each = ready.each;
    can = subst (λ (o : Option ℕ). AreTargetsReady o count slot (targets batch)) back ready.can;
    apart = ready.apart;
  }

  pub joined_up : CanServe slot named m → HaveComeUp slot (meta_with_out m No)
  joined_up serve = record {
    spins = λ x l not. named_or x (spins_named x) (serve.spins x l);
    large = λ x l not. named_or x (large_named x) (serve.large x l);
  }

-- no call is made
pub joined_stands : {R : Type 0} {g : _} (count : R → ℕ) (slot : R → ℕ → Slot) (told : R → Option Trail) (old : Core R g) → IsCoreReady count slot old
    → ((t : Trail) → told (store_rack old.store) ≡ Some t → Agrees (now t) (slot (store_rack old.store)))
    → ((x : ℕ) → x < old.meta.setup.geometry.disks → is_present (slot (store_rack old.store) x).power ≡ true) → old.batch ≡ [] → (d units : ℕ) → old.meta.out ≡ Fresh d units → (h : History) (lo : ℕ)
    → Ran (told (store_rack old.store)) (told (store_rack old.store)) (CrashTriple (IsCoreHeldSinceCommit count old h lo) (UnitsRebuilt count old h lo (rebuild_units old.meta.setup.geometry old.meta.gear d))
    (HoldsBetweenCalls (count (store_rack old.store)) (named_of old.store) (meta_with_out old.meta No) old.dirty old.batch old.copied h lo))
joined_stands count slot told old ready agrees there nothing d units fresh h lo =
    let slots = count (store_rack old.store) in
    let named = named_of old.store in
    let whole : Meta = meta_with_out old.meta No in
    stays (IsCoreHeldSinceCommit count old h lo) (UnitsRebuilt count old h lo (rebuild_units old.meta.setup.geometry old.meta.gear d)) (HoldsBetweenCalls slots named whole old.dirty old.batch old.copied h lo) (told (store_rack old.store))
    (λ s k. keeps_held slots named whole old.dirty old.batch old.copied h lo s k)
    (λ t tells kr. subst (λ (z : Batch). HoldsBetweenCalls slots named whole old.dirty z old.copied h lo (now t)) (sym nothing)
    (keeps_joined slots named old.meta old.dirty old.copied h lo (now t) d units ready.in_range fresh (λ x l. ap is_present ((agrees t tells).power x) ∙ there x l) kr))
