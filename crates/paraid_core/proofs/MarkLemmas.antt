-- Only what is staged of the meta changes.
use Rattle.std.specs.Prelude.{◌≡◌, ◌≢◌, ℕ, ◌^◌, ◌<◌, ◌≤◌, Bool, false, List, [], Option, Some, None, length, slice_index}
use Rattle.std.proofs.Common.{refl, sym, ◌∙◌, ap, subst, arith}
use Rattle.paraid_base.specs.declared.state.Out.TheVariants.{No}
use Rattle.paraid_base.specs.declared.state.Phase.{Phase}
use Rattle.paraid_base.specs.declared.state.Phase.TheVariants.{Down, Steady, Up}
use Rattle.paraid_base.specs.History.{History}
use Rattle.paraid_base.specs.Regions.{disk_size}
use Rattle.paraid_base.specs.Soft.{stripe_count}
use Rattle.paraid_base.specs.States.{phase_to, rising_to}
use Rattle.paraid_dirty.specs.Table.{is_dirty}
use Rattle.paraid_moves.specs.MoveMetas.{AreStripesCopied, filled_to, meta_after_begin, meta_flipped_to, view_with_out}
use Rattle.paraid_moves.proofs.MoveLemmas.{begins_down, begins_up, ends_shift, fits_later, marks_stripes}
use Rattle.paraid_image.proofs.OutLemmas.{named_below}
use Rattle.paraid_moves.proofs.RangeLemmas.{later_in_range}
use Rattle.paraid_rack.specs.declared.call.Power.TheVariants.{Spinning}
use Rattle.paraid_rack.specs.Disks.{Disks, is_present}
use Rattle.paraid_rack.specs.Slots.{Agrees, Slot}
use Rattle.paraid_rack.specs.Told.{CrashTriple, Ran}
use Rattle.paraid_rack.specs.Trail.{Trail, now}
use Rattle.paraid_rack.proofs.TrailsLemmas.{stays}
use Rattle.paraid_ration.proofs.AllowanceLemmas.{allowance-le}
use Rattle.paraid_record.specs.declared.meta.Meta.{Meta}
use Rattle.paraid_record.specs.Range.{IsInRange, IsPhaseInRange}
use Rattle.paraid_image.specs.Content.{view_by}
use Rattle.paraid_image.specs.Out.{named_out, out_disk}
use Rattle.paraid_image.specs.Sides.{Batch}
use Rattle.paraid_image.specs.Sound.{ContentOk}
use Rattle.paraid_image.specs.Spot.{map_bit, map_disk}
use Rattle.paraid_image.specs.Standing.{Contents, contents}
use Rattle.paraid_txn.specs.Stores.{named_of, store_rack}
use Rattle.paraid_core.specs.declared.staged.Core.{Core}
use Rattle.paraid_core.specs.CoreInvariant.{AreSlotsReady, HoldsBetweenCalls, IsHeldWithOneMissing}
use Rattle.paraid_core.specs.Cores.{CanCoreServe, CoreStandsFor, IsCoreHeldSinceCommit, IsCoreReady}
use Rattle.paraid_core.specs.Fills.{Filled, KeepsFilled}
use Rattle.paraid_core.proofs.CallLemmas.{keeps_held}
use Rattle.paraid_core.proofs.LostDiskLemmas.{out_all}

module _ (m : Meta) (gear : ℕ) (phase : Phase) (fill ticks : ℕ) (spins : List ℕ) where
  abbrev then_meta : Meta
  then_meta = record m { gear = gear; phase = phase; fill = fill; ticks = ticks; spins = spins }

  pub keeps_restaged : (slots : ℕ) (named : Option ℕ) (table : List (List Bool)) (batch : Batch) (copied : List Bool) (h : History) (lo : ℕ) (s : Disks)
      → ContentOk slots s.power s.size (view_by then_meta s.power (contents s batch)) h (length h) → HoldsBetweenCalls slots named m table batch copied h lo s → HoldsBetweenCalls slots named then_meta table batch copied h lo s
  keeps_restaged slots named table batch copied h lo s staged k = record {
    base = k.base;
    held = k.held;
    copies = k.copies;
    synced = k.synced;
    named_by = k.named_by;
    borne = k.borne;
    epoch = k.epoch;
    next = record {
      epoch = k.next.epoch;
      setup = k.next.setup;
      out = k.next.out;
      comes_in = k.next.comes_in;
      fresh_closed = λ x u fresh l. k.next.fresh_closed x u (record { is = fresh.is; present = fresh.present }) l;
    };
    writes = k.writes;
    brought = k.brought;
    staged = staged;
    dirty = k.dirty;
  }

  pub ready_restaged : (count : ℕ) (slot : ℕ → Slot) (last array : ℕ) (named : Option ℕ) (rows : ℕ) (batch : Batch) → IsInRange then_meta
      → ((d : ℕ) → d < gear → named_out m.out ≢ Some d → (slot d).power ≡ Spinning) → ((d : ℕ) → d < gear → named_out m.out ≢ Some d → disk_size m.setup.geometry ≤ (slot d).size)
      → AreSlotsReady count slot last array named m rows batch → AreSlotsReady count slot last array named then_meta rows batch
  ready_restaged count slot last array named rows batch range spin large ready = record {
    in_range = range;
    array_is = ready.array_is;
    epoch_is = ready.epoch_is;
    enough = ready.enough;
    rows_are = ready.rows_are;
    absent = ready.absent;
    one = ready.one;
    spins = spin;
    large = large;
    fresh_spins = ready.fresh_spins;
    fresh_large = ready.fresh_large;
    each = ready.each;
    can = ready.can;
    apart = ready.apart;
  }

-- with nothing staged
restaged_filled : (m : Meta) (ticks slots : ℕ) (named : Option ℕ) (table : List (List Bool)) (copied : List Bool) (h : History) (lo : ℕ) (s : Disks) → KeepsFilled slots named m table copied h lo m.fill s
    → ContentOk slots s.power s.size (view_by (record m { ticks = ticks }) s.power (contents s [])) h (length h) → KeepsFilled slots named (record m { ticks = ticks }) table copied h lo m.fill s
unfolding keeps_restaged
restaged_filled m ticks slots named table copied h lo s kf staged = record {
  keeps = keeps_restaged m m.gear m.phase m.fill ticks m.spins slots named table [] copied h lo s staged kf.keeps;
  shift = record { gear = kf.shift.gear; rises = kf.shift.rises; fresh = kf.shift.fresh; phase = kf.shift.phase; fill = kf.shift.fill; rebuilt = kf.shift.rebuilt };
  filled = λ t from l. absurd (omega arith);
}

pub tick_ready : (count : ℕ) (slot : ℕ → Slot) (last array : ℕ) (named : Option ℕ) (m : Meta) (rows : ℕ) (batch : Batch) (ticks : ℕ) → m.ticks ≤ ticks → ticks < 2 ^ 64
    → AreSlotsReady count slot last array named m rows batch → AreSlotsReady count slot last array named (record m { ticks = ticks }) rows batch
tick_ready count slot last array named m rows batch ticks low high ready =
    let counters = ready.in_range.counters in
    ready_restaged m m.gear m.phase m.fill ticks m.spins count slot last array named rows batch
    (later_in_range m (record m { ticks = ticks }) ready.in_range (record { setup = refl; gear = refl; phase = refl; fill = refl; out = refl; spins = refl }) ready.in_range.version
    (record { first = counters.first; epoch_fits = counters.epoch_fits; writes_fit = counters.writes_fit; ticks_fit = high }) low) ready.spins ready.large ready

-- a tick is counted
pub tick_stands : {R : Type 0} {g : _} (count : R → ℕ) (slot : R → ℕ → Slot) (told : R → Option Trail) (old : Core R g) → IsCoreReady count slot old → (ticks : ℕ) (h : History) (lo : ℕ)
    → Ran (told (store_rack old.store)) (told (store_rack old.store)) (CrashTriple (IsCoreHeldSinceCommit count old h lo) (CoreStandsFor count old h lo)
    (HoldsBetweenCalls (count (store_rack old.store)) (named_of old.store) (record old.meta { ticks = ticks }) old.dirty old.batch old.copied h lo))
tick_stands count slot told old ready ticks h lo =
    let m = old.meta in
    let slots = count (store_rack old.store) in
    let named = named_of old.store in
    stays (IsCoreHeldSinceCommit count old h lo) (CoreStandsFor count old h lo) (HoldsBetweenCalls slots named (record m { ticks = ticks }) old.dirty old.batch old.copied h lo) (told (store_rack old.store))
    (λ s k. keeps_held slots named (record m { ticks = ticks }) old.dirty old.batch old.copied h lo s k)
    (λ t tells k. keeps_restaged m m.gear m.phase m.fill ticks m.spins slots named old.dirty old.batch old.copied h lo (now t)
    (fits_later slots (now t).power (now t).size h (length h) m (record m { ticks = ticks }) (contents (now t) old.batch) (record { setup = refl; gear = refl; phase = refl; fill = refl; out = refl; spins = refl })
    (λ d u fresh. named_below m.setup.geometry m.gear m.out d ready.in_range.out (ap named_out fresh.is)) k.staged) k)

-- copies can begin after it where they could before
pub tick_filled : {R : Type 0} {g : _} (count : R → ℕ) (told : R → Option Trail) (old : Core R g) → IsInRange old.meta → (ticks : ℕ) (h : History) (lo : ℕ)
    → Ran (told (store_rack old.store)) (told (store_rack old.store)) (CrashTriple (IsCoreHeldSinceCommit count old h lo) (Filled count old h lo old.meta.fill)
    (KeepsFilled (count (store_rack old.store)) (named_of old.store) (record old.meta { ticks = ticks }) old.dirty old.copied h lo old.meta.fill))
tick_filled count told old range ticks h lo =
    let m = old.meta in
    let slots = count (store_rack old.store) in
    let named = named_of old.store in
    stays (IsCoreHeldSinceCommit count old h lo) (Filled count old h lo m.fill) (KeepsFilled slots named (record m { ticks = ticks }) old.dirty old.copied h lo m.fill) (told (store_rack old.store))
    (λ s kf. keeps_held slots named (record m { ticks = ticks }) old.dirty [] old.copied h lo s kf.keeps)
    (λ t tells kf. restaged_filled m ticks slots named old.dirty old.copied h lo (now t) kf
    (fits_later slots (now t).power (now t).size h (length h) m (record m { ticks = ticks }) (contents (now t) []) (record { setup = refl; gear = refl; phase = refl; fill = refl; out = refl; spins = refl })
    (λ d u fresh. named_below m.setup.geometry m.gear m.out d range.out (ap named_out fresh.is)) kf.keeps.staged))

-- a disk that is parked can count one more
pub spin_fits : (m : Meta) (d : ℕ) → IsInRange m → m.phase ≡ Steady → m.gear ≤ d → d < m.setup.geometry.disks → slice_index m.spins d < 65535
spin_fits m d range steady low high =
    let eight = m.setup.geometry.disks_high in
    let w = (range.spins d (omega arith)).parked (rw steady low) high in
    let most = allowance-le m.setup.ration m.setup.burst m.setup.period m.ticks in
    let r = range.setup.ration.1 in
    omega arith

-- with no disk out
module _ {R : Type 0} {g : _} (count : R → ℕ) (slot : R → ℕ → Slot) (told : R → Option Trail) (old : Core R g) (ready : IsCoreReady count slot old) (all_in : old.meta.out ≡ No)
    (agrees : (t : Trail) → told (store_rack old.store) ≡ Some t → Agrees (now t) (slot (store_rack old.store))) where
  abbrev m : Meta
  m = old.meta

  abbrev slots : ℕ
  slots = count (store_rack old.store)

  abbrev named : Option ℕ
  named = named_of old.store

  none_at : (t : Trail) → told (store_rack old.store) ≡ Some t → out_disk (now t).power m ≡ None
  none_at t tells =
      let a = agrees t tells in
      out_all (now t).power m (λ x l gone. ready.absent x l (ap is_present (sym (a.power x)) ∙ gone)) ∙ ap named_out all_in

  -- nothing is called
  restaged : (m_then : Meta) (A : Disks → Type 0) (h : History) (lo : ℕ) → m_then.setup ≡ m.setup
      → ((t : Trail) → told (store_rack old.store) ≡ Some t → A (now t) → HoldsBetweenCalls slots named m_then old.dirty old.batch old.copied h lo (now t))
      → Ran (told (store_rack old.store)) (told (store_rack old.store)) (CrashTriple (IsCoreHeldSinceCommit count old h lo) A (HoldsBetweenCalls slots named m_then old.dirty old.batch old.copied h lo))
  restaged m_then A h lo setup go =
      stays (IsCoreHeldSinceCommit count old h lo) A (HoldsBetweenCalls slots named m_then old.dirty old.batch old.copied h lo) (told (store_rack old.store))
      (λ s k. subst (λ (z : _). IsHeldWithOneMissing slots z.geometry.disks named h lo s) setup (keeps_held slots named m_then old.dirty old.batch old.copied h lo s k)) go

  view_is : (f : Contents) (t : Trail) → told (store_rack old.store) ≡ Some t → view_by m (now t).power f ≡ view_with_out m None f
  view_is f t tells = λ i. let o = none_at t tells i in record { meta = m; dirty = map_bit m.setup.geometry (f (map_disk o)); out = o; block = f }

  pub mark_stands : (end : ℕ) → old.batch ≡ [] → (h : History) (lo : ℕ)
      → Ran (told (store_rack old.store)) (told (store_rack old.store)) (CrashTriple (IsCoreHeldSinceCommit count old h lo) (Filled count old h lo end)
      (HoldsBetweenCalls slots named (filled_to m end) old.dirty old.batch old.copied h lo))
  mark_stands end nothing h lo = restaged (filled_to m end) (Filled count old h lo end) h lo refl (λ t tells kf.
      subst (λ (z : Batch). HoldsBetweenCalls slots named (filled_to m end) old.dirty z old.copied h lo (now t)) (sym nothing)
      (keeps_restaged m m.gear m.phase end m.ticks m.spins slots named old.dirty [] old.copied h lo (now t)
      (marks_stripes slots (now t).power (now t).size h (length h) m (contents (now t) []) (none_at t tells) kf.keeps.staged end
      (subst (λ (v : _). AreStripesCopied v end) (sym (view_is (contents (now t) []) t tells)) kf.filled)) kf.keeps))

  pub begin_stands : (to : ℕ) → m.phase ≡ Steady → (h : History) (lo : ℕ)
      → Ran (told (store_rack old.store)) (told (store_rack old.store)) (CrashTriple (IsCoreHeldSinceCommit count old h lo) (CoreStandsFor count old h lo)
      (HoldsBetweenCalls slots named (meta_after_begin m (Down to) m.spins) old.dirty old.batch old.copied h lo))
  begin_stands to steady h lo = restaged (meta_after_begin m (Down to) m.spins) (CoreStandsFor count old h lo) h lo refl (λ t tells k.
      keeps_restaged m m.gear (Down to) 0 m.ticks m.spins slots named old.dirty old.batch old.copied h lo (now t)
      (begins_down slots (now t).power (now t).size h (length h) m (contents (now t) old.batch) (none_at t tells) k.staged to steady) k)

  pub begin_up_stands : (to : ℕ) (spins : List ℕ) → m.phase ≡ Steady → ((d : ℕ) → m.gear ≤ d → d < to → 1 ≤ slice_index spins d) → (h : History) (lo : ℕ)
      → Ran (told (store_rack old.store)) (told (store_rack old.store)) (CrashTriple (IsCoreHeldSinceCommit count old h lo) (CoreStandsFor count old h lo)
      (HoldsBetweenCalls slots named (meta_after_begin m (Up to) spins) old.dirty old.batch old.copied h lo))
  begin_up_stands to spins steady counted h lo = restaged (meta_after_begin m (Up to) spins) (CoreStandsFor count old h lo) h lo refl (λ t tells k.
      keeps_restaged m m.gear (Up to) 0 m.ticks spins slots named old.dirty old.batch old.copied h lo (now t)
      (begins_up slots (now t).power (now t).size h (length h) m (contents (now t) old.batch) (none_at t tells) k.staged to spins steady (λ d from below parked. counted d from below)) k)

  -- the disks below the new gear spin
  flip_spins : CanCoreServe slot old → (d : ℕ) → d < phase_to m.phase → (slot (store_rack old.store) d).power ≡ Spinning
  flip_spins serves d below = by m.phase refl ready.in_range.phase below
    where
      none : named_out m.out ≢ Some d
      none is = let z : None ≡ Some d = ap named_out (sym all_in) ∙ is in cc

      by : (p : Phase) → m.phase ≡ p → IsPhaseInRange m.setup.geometry m.gear p → d < phase_to p → (slot (store_rack old.store) d).power ≡ Spinning
      by Steady at is l = absurd (omega arith)
      by (Down to) at is l = let b = is.below in ready.spins d (omega arith) none
      by (Up to) at is l = serves.spins d (subst (λ (z : Phase). d < rising_to z) (sym at) l) none

  flip_stands : 0 < phase_to m.phase → m.fill ≡ stripe_count m.setup.geometry.disks m.setup.geometry.rows (phase_to m.phase)
      → ((r d : ℕ) → r < m.setup.geometry.rows → m.gear ≤ d → d < phase_to m.phase → is_dirty old.dirty r d ≡ false) → ((d : ℕ) → d < phase_to m.phase → (slot (store_rack old.store) d).power ≡ Spinning)
      → (h : History) (lo : ℕ)
      → Ran (told (store_rack old.store)) (told (store_rack old.store)) (CrashTriple (IsCoreHeldSinceCommit count old h lo) (CoreStandsFor count old h lo)
      (HoldsBetweenCalls slots named (meta_flipped_to m (phase_to m.phase)) old.dirty old.batch old.copied h lo))
  flip_stands shifts filled clean spin h lo = restaged (meta_flipped_to m (phase_to m.phase)) (CoreStandsFor count old h lo) h lo refl (λ t tells k.
      keeps_restaged m (phase_to m.phase) Steady 0 m.ticks m.spins slots named old.dirty old.batch old.copied h lo (now t)
      (ends_shift slots (now t).power (now t).size h (length h) m (contents (now t) old.batch) (none_at t tells) k.staged (phase_to m.phase) (low.0) (low.1) refl filled
      (λ r d lr from below. sym (k.dirty r d (omega arith)) ∙ clean r d lr from below) rises (λ d below. (agrees t tells).power d ∙ spin d below)) k)
    where
      low : (2 ≤ phase_to m.phase) × (phase_to m.phase ≤ m.setup.geometry.disks)
      low = by m.phase ready.in_range.phase shifts
        where
          by : (p : Phase) → IsPhaseInRange m.setup.geometry m.gear p → 0 < phase_to p → (2 ≤ phase_to p) × (phase_to p ≤ m.setup.geometry.disks)
          by Steady is none = absurd (omega arith)
          by (Down to) is none = let l = m.setup.geometry.gears_low to is.lower_gear in (omega arith, m.setup.geometry.gears_high to is.lower_gear)
          by (Up to) is none = let l = m.setup.geometry.gears_low to is.higher_gear in (omega arith, m.setup.geometry.gears_high to is.higher_gear)

      rises : m.gear < phase_to m.phase → rising_to m.phase ≡ phase_to m.phase
      rises = by m.phase ready.in_range.phase
        where
          by : (p : Phase) → IsPhaseInRange m.setup.geometry m.gear p → m.gear < phase_to p → rising_to p ≡ phase_to p
          by Steady is l = absurd (omega arith)
          by (Down to) is l = let b = is.below in absurd (omega arith)
          by (Up to) is l = refl

  pub flip_to : (to : ℕ) → to ≡ phase_to m.phase → 0 < phase_to m.phase → m.fill ≡ stripe_count m.setup.geometry.disks m.setup.geometry.rows (phase_to m.phase)
      → ((r d : ℕ) → r < m.setup.geometry.rows → m.gear ≤ d → d < phase_to m.phase → is_dirty old.dirty r d ≡ false) → CanCoreServe slot old → (h : History) (lo : ℕ)
      → Ran (told (store_rack old.store)) (told (store_rack old.store)) (CrashTriple (IsCoreHeldSinceCommit count old h lo) (CoreStandsFor count old h lo)
      (HoldsBetweenCalls slots named (meta_flipped_to m to) old.dirty old.batch old.copied h lo))
  flip_to to is shifts filled clean serves h lo =
      subst (λ (z : ℕ). Ran (told (store_rack old.store)) (told (store_rack old.store)) (CrashTriple (IsCoreHeldSinceCommit count old h lo) (CoreStandsFor count old h lo)
      (HoldsBetweenCalls slots named (meta_flipped_to m z) old.dirty old.batch old.copied h lo))) (sym is) (flip_stands shifts filled clean (flip_spins serves) h lo)
