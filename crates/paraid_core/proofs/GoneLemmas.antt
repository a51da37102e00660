-- The spin-ups of a disk that is gone are forgotten.
use Rattle.paraid_image.specs.Mark.{meta_after_loss}
use Rattle.std.specs.Prelude.{◌≡◌, ◌≢◌, ℕ, ◌<◌, ◌≤◌, Bool, true, false, List, Option, Some, length, slice_index}
use Rattle.std.proofs.Common.{refl, sym, ◌∙◌, ap, subst, arith, inl, inr}
use Rattle.std.proofs.lemmas.Bool.{cases_eq, false≢true}
use Rattle.paraid_base.specs.declared.state.Out.TheVariants.{Gone}
use Rattle.paraid_base.specs.declared.state.Phase.{Phase}
use Rattle.paraid_base.specs.declared.state.Phase.TheVariants.{Down, Steady, Up}
use Rattle.paraid_base.specs.History.{History}
use Rattle.paraid_base.specs.States.{has_out, is_down, phase_beside}
use Rattle.paraid_image.specs.Out.{named_out, out_disk}
use Rattle.paraid_image.specs.Standing.{contents}
use Rattle.paraid_moves.specs.MoveMetas.{HoldUnder}
use Rattle.paraid_moves.proofs.FailLemmas.{marks_gone}
use Rattle.paraid_moves.proofs.RangeLemmas.{out_in_range}
use Rattle.paraid_rack.specs.Disks.{is_present}
use Rattle.paraid_rack.specs.Slots.{Agrees, Slot}
use Rattle.paraid_rack.specs.Told.{CrashTriple, Ran}
use Rattle.paraid_rack.specs.Trail.{Trail, now}
use Rattle.paraid_rack.proofs.TrailsLemmas.{stays}
use Rattle.paraid_record.specs.declared.meta.Meta.{Meta}
use Rattle.paraid_record.specs.Range.{IsInRange}
use Rattle.paraid_txn.specs.Stores.{disks_of, epoch_of, named_of, store_rack}
use Rattle.paraid_core.specs.declared.staged.Core.{Core}
use Rattle.paraid_core.specs.CoreInvariant.{AreSlotsReady, HoldsBetweenCalls}
use Rattle.paraid_core.specs.Cores.{CoreStandsFor, IsCoreHeldSinceCommit, IsCoreReady}
use Rattle.paraid_core.proofs.CallLemmas.{keeps_held}
use Rattle.paraid_core.proofs.LostDiskLemmas.{out_all}
use Rattle.paraid_core.proofs.MarkLemmas.{keeps_restaged, ready_restaged}

-- where disk `d` is gone, no phase and no fill mark is lost by that mark
gone_phase : (p : Phase) → is_down p ≡ false → phase_beside true p ≡ p
gone_phase Steady is = refl
gone_phase (Down to) is = absurd (false≢true (sym is))
gone_phase (Up to) is = refl

pub gone_again : (m : Meta) (d : ℕ) (spins : List ℕ) → IsInRange m → m.out ≡ Gone d → record (meta_after_loss m d) { spins = spins } ≡ record m { spins = spins }
gone_again m d spins range gone =
    let out : has_out m.out ≡ true = ap has_out gone in
    let down : is_down m.phase ≡ false = not_down (is_down m.phase) refl out in
    let fill = range.shift.still out in
    λ i. record m { phase = gone_phase m.phase down i; fill = sym fill i; out = sym gone i; spins = spins }
  where
    not_down : (b : Bool) → is_down m.phase ≡ b → has_out m.out ≡ true → b ≡ false
    not_down false is out = refl
    not_down true is out = absurd (false≢true (sym (range.shift.down is) ∙ out))

module _ {R : Type 0} {g : _} (count : R → ℕ) (slot : R → ℕ → Slot) (told : R → Option Trail) (old : Core R g) (ready : IsCoreReady count slot old) (agrees : (t : Trail) → told (store_rack old.store) ≡ Some t → Agrees (now t) (slot (store_rack old.store)))
    (d : ℕ) where
  abbrev m : Meta
  m = old.meta

  abbrev slots : ℕ
  slots = count (store_rack old.store)

  abbrev named : Option ℕ
  named = named_of old.store

  out_at : (t : Trail) → told (store_rack old.store) ≡ Some t → out_disk (now t).power m ≡ named_out m.out
  out_at t tells = let a = agrees t tells in out_all (now t).power m (λ x l gone. ready.absent x l (ap is_present (sym (a.power x)) ∙ gone))

  module _ (spins : List ℕ) (gone : m.out ≡ Gone d) (others : (e : ℕ) → e ≢ d → slice_index spins e ≡ slice_index m.spins e) where
    pub cleared_stands : (h : History) (lo : ℕ)
        → Ran (told (store_rack old.store)) (told (store_rack old.store)) (CrashTriple (IsCoreHeldSinceCommit count old h lo) (CoreStandsFor count old h lo)
        (HoldsBetweenCalls slots named (record m { spins = spins }) old.dirty old.batch old.copied h lo))
    cleared_stands h lo =
        stays (IsCoreHeldSinceCommit count old h lo) (CoreStandsFor count old h lo) (HoldsBetweenCalls slots named (record m { spins = spins }) old.dirty old.batch old.copied h lo) (told (store_rack old.store))
        (λ s k. keeps_held slots named (record m { spins = spins }) old.dirty old.batch old.copied h lo s k)
        (λ t tells k. keeps_restaged m m.gear m.phase m.fill m.ticks spins slots named old.dirty old.batch old.copied h lo (now t)
        (subst (λ (z : Meta). HoldUnder slots (now t).power (now t).size h (length h) z (contents (now t) old.batch)) (gone_again m d spins ready.in_range gone)
        (marks_gone slots (now t).power (now t).size h (length h) m (contents (now t) old.batch) d spins (out_at t tells ∙ ap named_out gone) others k.staged)) k)

    pub cleared_ready : d < m.setup.geometry.disks → length spins ≡ 8 → slice_index spins d ≡ 0 → AreSlotsReady slots (slot (store_rack old.store)) (epoch_of old.store) (disks_of old.store) named (record m { spins = spins }) (length old.dirty) old.batch
    cleared_ready low eight zero_at =
        ready_restaged m m.gear m.phase m.fill m.ticks spins slots (slot (store_rack old.store)) _ _ named (length old.dirty) old.batch
        (subst IsInRange (gone_again m d spins ready.in_range gone) (out_in_range m d spins ready.in_range low eight less)) ready.spins ready.large ready
      where
        less : (e : ℕ) → slice_index spins e ≤ slice_index m.spins e
        less e = elim (cases_eq e d) [
          | inl is ↦ let z : slice_index spins e ≡ 0 = ap (slice_index spins) is ∙ zero_at in omega arith
          | inr apart ↦ let z = others e apart in omega arith
        ]
