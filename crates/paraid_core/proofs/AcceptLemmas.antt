-- A plan over a core that was taken into its batch.
use Rattle.std.specs.Prelude.{◌≡◌, ◌≢◌, ℕ, ◌+◌, ◌^◌, ◌<◌, ◌≤◌, length, Bool, List, false, [], ◌∷◌, ◌++◌, Option, Some, None, IsSome}
use Rattle.std.proofs.Common.{refl, sym, ◌∙◌, ap, subst, arith, inl, inr}
use Rattle.paraid_base.specs.declared.state.Out.{Out}
use Rattle.paraid_base.specs.declared.state.Out.TheVariants.{Fresh, Gone, No}
use Rattle.paraid_base.specs.History.{Entry, History}
use Rattle.paraid_image.specs.Out.{named_out}
use Rattle.paraid_image.specs.Sides.{Batch}
use Rattle.paraid_image.specs.Standing.{contents}
use Rattle.paraid_image.proofs.CallLemmas.{decide_some}
use Rattle.paraid_plan.specs.Desk.{Desk}
use Rattle.paraid_plan.specs.Placed.{ArePlaced, IsPlaced}
use Rattle.paraid_plan.specs.RowWrites.{StageAll}
use Rattle.paraid_plan.proofs.LayLemmas.{lay_nil}
use Rattle.paraid_plan.proofs.CommitTargetLemmas.{placed_append}
use Rattle.paraid_rack.specs.Disks.{Disks, is_present}
use Rattle.paraid_rack.specs.Slots.{Agrees, Slot}
use Rattle.paraid_rack.specs.Told.{Ran, CrashTriple}
use Rattle.paraid_rack.specs.Trail.{Trail, now, run}
use Rattle.paraid_rack.proofs.TrailsLemmas.{now-extend}
use Rattle.paraid_record.specs.declared.meta.Meta.{Meta}
use Rattle.paraid_record.specs.declared.targets.Target.{Target}
use Rattle.paraid_record.specs.Range.{IsInRange}
use Rattle.paraid_txn.specs.Commit.{gone_out}
use Rattle.paraid_txn.specs.Losses.{CanWrite}
use Rattle.paraid_txn.specs.Stores.{disks_of, store_rack}
use Rattle.paraid_view.specs.Reads.{AreLeft}
use Rattle.paraid_core.specs.declared.staged.Core.{Core}
use Rattle.paraid_core.specs.Plans.{LeadsTo, base_of, without_draft, desk_of}
use Rattle.paraid_core.specs.CoreInvariant.{CanServe, AreSlotsReady, HoldsBetweenCalls}
use Rattle.paraid_core.specs.Taken.{IsTakenIn}
use Rattle.paraid_core.proofs.PlanLemmas.{base_same}
use Rattle.paraid_core.proofs.WriteLemmas.{taken_write_keeps}

-- what a plan has staged can be committed
all_placed : (m : Meta) (before later : Desk) (ws : Entry) → StageAll m before later ws → ArePlaced m before.staged → ArePlaced m later.staged
all_placed m before later ws all placed = subst (ArePlaced m) (sym all.adds.staged) (placed_append m before.staged all.adds.targets placed all.adds.placed)

-- a placed target can be written
module _ (count : ℕ) (slot : ℕ → Slot) (last array : ℕ) (named : Option ℕ) (m : Meta) (rows : ℕ) (batch : Batch) (ready : AreSlotsReady count slot last array named m rows batch) (serves : CanServe slot named m) where
  spins : (t : Target) → IsPlaced m t → named_out m.out ≢ Some t.disk → CanWrite slot t.disk t.place
  spins t placed not = elim placed.powered [
    | inl low ↦ record { spins = λ here. ready.spins t.disk low not; within = λ here. let large = ready.large t.disk low not in let w = placed.in_range.within in omega arith }
    | inr up ↦ record { spins = λ here. serves.spins t.disk up not; within = λ here. let large = serves.large t.disk up not in let w = placed.in_range.within in omega arith }
  ]

  fresh : (t : Target) → IsPlaced m t → (o : Out) → m.out ≡ o → named_out o ≡ Some t.disk → gone_out o ≢ Some t.disk → CanWrite slot t.disk t.place
  fresh t placed No is at not = let z : None ≡ Some t.disk = at in cc
  fresh t placed (Gone d) is at not = absurd (not at)
  fresh t placed (Fresh d u) is at not =
      let same : d ≡ t.disk = cc in
      let is_t : m.out ≡ Fresh t.disk u = is ∙ ap (λ (z : ℕ). Fresh z u) same in
      record { spins = λ here. ready.fresh_spins t.disk u is_t here; within = λ here. let large = ready.fresh_large t.disk u is_t here in let w = placed.in_range.within in omega arith }

  pub placed_can : (t : Target) → IsPlaced m t → (t.disk < count) × (gone_out m.out ≢ Some t.disk → CanWrite slot t.disk t.place)
  placed_can t placed = (
    (let low = placed.in_range.disk in let enough = ready.enough in omega arith),
    λ not. elim (decide_some (named_out m.out) t.disk) [
      | inl at ↦ fresh t placed m.out refl at not
      | inr off ↦ spins t placed off
    ],
  )

  -- with the targets of a plan
  pub taken_ready : (batch_then : Batch) (draft : Batch) → IsTakenIn m batch draft batch_then → AreSlotsReady count slot last array named m rows batch_then
  taken_ready batch_then draft taken = record {
    in_range = ready.in_range;
    array_is = ready.array_is;
    epoch_is = ready.epoch_is;
    enough = ready.enough;
    rows_are = ready.rows_are;
    absent = ready.absent;
    one = ready.one;
    spins = ready.spins;
    large = ready.large;
    fresh_spins = ready.fresh_spins;
    fresh_large = ready.fresh_large;
    each = taken.each ready.each;
    can = taken.can (gone_out m.out) count slot placed_can ready.can;
    apart = taken.apart;
  }

  -- with the targets of a plan, and one write more
  pub accepted_ready : (batch_then : Batch) (draft : Batch) → IsTakenIn m batch draft batch_then → m.writes + 1 < 2 ^ 64
      → AreSlotsReady count slot last array named (record m { writes = m.writes + 1 }) rows batch_then
  accepted_ready batch_then draft taken low = record {
    in_range = more;
    array_is = ready.array_is;
    epoch_is = ready.epoch_is;
    enough = ready.enough;
    rows_are = ready.rows_are;
    absent = ready.absent;
    one = ready.one;
    spins = ready.spins;
    large = ready.large;
    fresh_spins = ready.fresh_spins;
    fresh_large = ready.fresh_large;
    each = taken.each ready.each;
    can = taken.can (gone_out m.out) count slot placed_can ready.can;
    apart = taken.apart;
  }
    where
      more : IsInRange (record m { writes = m.writes + 1 })
      more =
          let r = ready.in_range in
          record {
            setup = r.setup;
            version = r.version;
            counters = record { first = r.counters.first; epoch_fits = r.counters.epoch_fits; writes_fit = low; ticks_fit = r.counters.ticks_fit };
            gear = r.gear;
            phase = r.phase;
            out = r.out;
            shift = record { fill = r.shift.fill; down = r.shift.down; still = r.shift.still };
            eight = r.eight;
            spins = λ d l. let k = r.spins d l in record { within = k.within; parked = k.parked; unused = k.unused };
          }

-- the writes have one entry more
module _ {R : Type 0} {g : _} (count : R → ℕ) (slot : R → ℕ → Slot) (told : R → Option Trail) (old pl : Core R g) (led : LeadsTo count slot told (without_draft old) pl)
    (range : IsInRange old.meta) (whole : pl.failed ≡ None)
    (agrees_was : (t : Trail) → told (store_rack old.store) ≡ Some t → Agrees (now t) (slot (store_rack old.store))) (agrees : (t : Trail) → told (store_rack pl.store) ≡ Some t → Agrees (now t) (slot (store_rack pl.store)))
    (absent : (d : ℕ) → d < old.meta.setup.geometry.disks → is_present (slot (store_rack pl.store) d).power ≡ false → named_out old.meta.out ≡ Some d)
    (entry : Entry) (stage : IsSome (told (store_rack pl.store)) → StageAll old.meta (desk_of told (without_draft old)) (desk_of told pl) entry)
    (some : IsSome (told (store_rack pl.store)) → 1 ≤ length pl.draft) (batch_then : Batch) (taken : IsTakenIn old.meta old.batch pl.draft batch_then) (P : Disks → Type 0) (A : Disks → Type 0) where
  abbrev m : Meta
  m = old.meta

  left : AreLeft None (slot (store_rack old.store)) (slot (store_rack pl.store))
  left = subst (λ (o : Option ℕ). AreLeft o (slot (store_rack old.store)) (slot (store_rack pl.store))) whole (led.left refl)

  desk_block : (t : Trail) → told (store_rack pl.store) ≡ Some t → (desk_of told (without_draft old)).block ≡ contents (now t) old.batch
  desk_block t tells =
      lay_nil (base_of (told (store_rack old.store)) old.batch)
      ∙ sym (base_same (disks_of old.store) (told (store_rack old.store)) (told (store_rack pl.store)) (slot (store_rack old.store)) (slot (store_rack pl.store)) old.batch agrees_was agrees left led.calls (subst IsSome (sym tells) refl))
      ∙ ap (λ (o : Option Trail). base_of o old.batch) tells

  module _ (t : Trail) (tells : told (store_rack pl.store) ≡ Some t) (slots : ℕ) (named : Option ℕ) (h : History) (lo : ℕ) (k : HoldsBetweenCalls slots named m old.dirty old.batch old.copied h lo (now t)) where
    staged : StageAll m (desk_of told (without_draft old)) (desk_of told pl) entry
    staged = stage (subst IsSome (sym tells) refl)

    placed : ArePlaced m pl.draft
    placed = all_placed m (desk_of told (without_draft old)) (desk_of told pl) entry staged tt

    pub accepted_keeps : HoldsBetweenCalls slots named (record m { writes = m.writes + 1 }) pl.dirty batch_then pl.copied (h ++ entry ∷ []) lo (now t)
    accepted_keeps =
        taken_write_keeps slots named m old.dirty pl.dirty old.batch batch_then pl.copied h lo (now t) (desk_of told (without_draft old)) (desk_of told pl) entry range
        (λ d l gone. absent d l (ap is_present (sym ((agrees t tells).power d)) ∙ gone))
        (subst (λ (z : List Bool). HoldsBetweenCalls slots named m old.dirty old.batch z h lo (now t)) (sym led.copied) k) (record { block = desk_block t tells; dirty = k.dirty; staged = refl }) staged
        (record { laid_same = taken.laid_same placed; some = taken.some placed (some (subst IsSome (sym tells) refl)); bits = λ r d l. refl })

  pub accepted_stands : (slots : ℕ) (named : Option ℕ) (m_then : Meta) (h : History) (lo : ℕ) → m_then ≡ record m { writes = m.writes + 1 }
      → Ran (told (store_rack old.store)) (told (store_rack pl.store)) (CrashTriple P A (HoldsBetweenCalls slots named m old.dirty old.batch old.copied h lo))
      → Ran (told (store_rack old.store)) (told (store_rack pl.store)) (CrashTriple P A (HoldsBetweenCalls slots named m_then pl.dirty batch_then pl.copied (h ++ entry ∷ []) lo))
  accepted_stands slots named m_then h lo em ran t tells =
      let r = ran t tells in
      let here : now t ≡ run (now r.from) r.calls = ap now r.is ∙ now-extend r.from r.calls in
      record {
        from = r.from;
        was = r.was;
        calls = r.calls;
        is = r.is;
        holds = record {
          goes = λ a.
              let b = r.holds.goes a in (
                b.0,
                subst (λ (z : Meta). HoldsBetweenCalls slots named z pl.dirty batch_then pl.copied (h ++ entry ∷ []) lo (run (now r.from) r.calls)) (sym em)
                    (subst (λ (s : Disks). HoldsBetweenCalls slots named (record m { writes = m.writes + 1 }) pl.dirty batch_then pl.copied (h ++ entry ∷ []) lo s) here
                    (accepted_keeps t tells slots named h lo (subst (λ (s : Disks). HoldsBetweenCalls slots named m old.dirty old.batch old.copied h lo s) (sym here) b.1))),
              );
        };
      }
