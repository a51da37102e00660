-- The state of a service with the mark of a disk that was lost, or with none.
use Rattle.std.proofs.Common.{◌≡◌, ℕ, ◌<◌, Bool, true, List, Option, Some, None, refl, sym, ap, ◌∙◌, subst}
use Rattle.paraid_base.specs.declared.state.Out.TheVariants.{No, Gone}
use Rattle.paraid_base.specs.declared.state.Phase.TheVariants.{Down, Up}
use Rattle.paraid_base.specs.States.{named_out, phase_beside, phase_to}
use Rattle.paraid_dirty.specs.Table.{is_dirty}
use Rattle.paraid_record.specs.declared.meta.Meta.{Meta}
use Rattle.paraid_image.specs.Power.{PowerState}
use Rattle.paraid_image.specs.Mark.{meta_with_lost}
use Rattle.paraid_machine.specs.Moves.{after_flip, after_loss, after_units, begun_down, begun_up, with_spin_ups}
use Rattle.paraid_moves.specs.MoveMetas.{meta_after_begin, meta_flipped_to}
use Rattle.paraid_event.proofs.ApartLemmas.{no_one}
use Rattle.paraid_event.specs.Moving.{EndsShift, GoesToState, MovesUnits, StartsShiftUp}
use Rattle.paraid_event.specs.Service.{IsStateOf, Service}

-- `k` with the mark of a disk that was lost, or with none
module _ (k k_then : Service) (s : PowerState) (of : IsStateOf k s) (whole : k.meta.out ≡ No) (lost : Option ℕ) (epoch writes : ℕ) (is : k_then.meta ≡ record (meta_with_lost lost k.meta) { epoch = epoch; writes = writes }) (table : k_then.table ≡ k.table)
    (samples : k_then.samples ≡ k.samples) (served : k_then.served ≡ k.served) where
  dirty_then : (r d : ℕ) → r < k.meta.setup.geometry.rows → s.dirty r d ≡ is_dirty k_then.table r d
  dirty_then r d low = of.dirty r d low ∙ ap (λ (t : List (List Bool)). is_dirty t r d) (sym table)

  -- the meta by the mark
  by_mark : (o : Option ℕ) → lost ≡ o → k_then.meta ≡ record (meta_with_lost o k.meta) { epoch = epoch; writes = writes }
  by_mark o same = is ∙ ap (λ (l : Option ℕ). record (meta_with_lost l k.meta) { epoch = epoch; writes = writes }) same

  state_kept : lost ≡ None → IsStateOf k_then s
  state_kept none = let m = by_mark None none in record {
    gear = of.gear ∙ sym (ap (λ (z : Meta). z.gear) m);
    phase = of.phase ∙ sym (ap (λ (z : Meta). z.phase) m);
    fill = of.fill ∙ sym (ap (λ (z : Meta). z.fill) m);
    out = of.out ∙ sym (ap (λ (z : Meta). z.out) m);
    spins = of.spins ∙ sym (ap (λ (z : Meta). z.spins) m);
    ticks = of.ticks ∙ sym (ap (λ (z : Meta). z.ticks) m);
    dirty = λ r d low. dirty_then r d (subst (λ (z : Meta). r < z.setup.geometry.rows) m low);
    samples = of.samples ∙ sym samples;
    served = of.served ∙ sym served;
  }

  state_lost : (d : ℕ) → lost ≡ Some d → IsStateOf k_then (after_loss s d)
  state_lost d some = let m = by_mark (Some d) some in record {
    gear = of.gear ∙ sym (ap (λ (z : Meta). z.gear) m);
    phase = ap (phase_beside true) of.phase ∙ sym (ap (λ (z : Meta). z.phase) m);
    fill = sym (ap (λ (z : Meta). z.fill) m);
    out = sym (ap (λ (z : Meta). z.out) m);
    spins = of.spins ∙ sym (ap (λ (z : Meta). z.spins) m);
    ticks = of.ticks ∙ sym (ap (λ (z : Meta). z.ticks) m);
    dirty = λ r e low. dirty_then r e (subst (λ (z : Meta). r < z.setup.geometry.rows) m low);
    samples = of.samples ∙ sym samples;
    served = of.served ∙ sym served;
  }

  out_then : (o : Option ℕ) → lost ≡ o → k_then.meta.out ≡ (meta_with_lost o k.meta).out
  out_then o same = ap (λ (z : Meta). z.out) (by_mark o same)

  -- It goes to the state, or to the one after the loss.
  pub marked_state : GoesToState k_then s
  marked_state = record {
    whole = λ none. none_by none lost refl;
    lost = λ d named. some_by d named lost refl;
  }
    where
      none_by : k_then.meta.out ≡ No → (o : Option ℕ) → lost ≡ o → IsStateOf k_then s
      none_by none None same = state_kept same
      none_by none (Some d) same = let z : Gone d ≡ No = sym (out_then (Some d) same) ∙ none in cc

      some_by : (d : ℕ) → named_out k_then.meta.out ≡ Some d → (o : Option ℕ) → lost ≡ o → IsStateOf k_then (after_loss s d)
      some_by d named None same = absurd (no_one (ap named_out (sym whole ∙ sym (out_then None same)) ∙ named))
      some_by d named (Some e) same = let z : Some e ≡ Some d = ap named_out (sym (out_then (Some e) same)) ∙ named in subst (λ (x : ℕ). IsStateOf k_then (after_loss s x)) (let equal : e ≡ d = cc in equal) (state_lost e same)

-- a shift that has ended by its mark
flipped : (j : Service) (s : PowerState) → IsStateOf j s → IsStateOf (record j { meta = meta_flipped_to j.meta (phase_to j.meta.phase) }) (after_flip s)
flipped j s of = record {
  gear = ap phase_to of.phase;
  phase = refl;
  fill = refl;
  out = of.out;
  spins = of.spins;
  ticks = of.ticks;
  dirty = of.dirty;
  samples = of.samples;
  served = of.served;
}

raised : (j : Service) (s : PowerState) (to : ℕ) (spins : List ℕ) → spins ≡ with_spin_ups j.meta.gear to j.meta.spins → IsStateOf j s → IsStateOf (record j { meta = meta_after_begin j.meta (Up to) spins }) (begun_up to s)
raised j s to spins are of = record {
  gear = of.gear;
  phase = refl;
  fill = refl;
  out = of.out;
  spins = ap (λ (g : ℕ). with_spin_ups g to s.spins) of.gear ∙ ap (with_spin_ups j.meta.gear to) of.spins ∙ sym are;
  ticks = of.ticks;
  dirty = of.dirty;
  samples = of.samples;
  served = of.served;
}

-- A shift ends with the units that were moved.
pub ends_shift : (k j k_then : Service) (count : ℕ) → MovesUnits k j count → j.meta.out ≡ No → (lost : Option ℕ) (epoch writes : ℕ) → k_then.meta ≡ record (meta_with_lost lost (meta_flipped_to j.meta (phase_to j.meta.phase))) { epoch = epoch; writes = writes }
    → k_then.table ≡ j.table → k_then.samples ≡ j.samples → k_then.served ≡ j.served → EndsShift k k_then count
ends_shift k j k_then count moves whole lost epoch writes is table samples served = record {
  whole = moves.whole;
  moved = λ s of. marked_state (record j { meta = meta_flipped_to j.meta (phase_to j.meta.phase) }) k_then (after_flip (after_units k.meta.setup count s)) (flipped j (after_units k.meta.setup count s) ((moves.moved s of).whole whole))
      whole lost epoch writes is table samples served;
}

-- A shift up has begun.
pub starts_up : (k k_then : Service) (to : ℕ) (spins : List ℕ) → k.meta.out ≡ No → spins ≡ with_spin_ups k.meta.gear to k.meta.spins → (lost : Option ℕ) (epoch writes : ℕ) → k_then.meta ≡ record (meta_with_lost lost (meta_after_begin k.meta (Up to) spins)) { epoch = epoch; writes = writes }
    → k_then.table ≡ k.table → k_then.samples ≡ k.samples → k_then.served ≡ k.served → StartsShiftUp k k_then to
starts_up k k_then to spins whole are lost epoch writes is table samples served = record {
  whole = whole;
  begun = λ s of. marked_state (record k { meta = meta_after_begin k.meta (Up to) spins }) k_then (begun_up to s) (raised k s to spins are of) whole lost epoch writes is table samples served;
}

lowered : (j : Service) (s : PowerState) (to : ℕ) → IsStateOf j s → IsStateOf (record j { meta = meta_after_begin j.meta (Down to) j.meta.spins }) (begun_down to s)
lowered j s to of = record {
  gear = of.gear;
  phase = refl;
  fill = refl;
  out = of.out;
  spins = of.spins;
  ticks = of.ticks;
  dirty = of.dirty;
  samples = of.samples;
  served = of.served;
}

-- and a shift down.
pub starts_down : (k k_then : Service) (s : PowerState) (to : ℕ) → IsStateOf k s → k.meta.out ≡ No → (lost : Option ℕ) (epoch writes : ℕ) → k_then.meta ≡ record (meta_with_lost lost (meta_after_begin k.meta (Down to) k.meta.spins)) { epoch = epoch; writes = writes }
    → k_then.table ≡ k.table → k_then.samples ≡ k.samples → k_then.served ≡ k.served → GoesToState k_then (begun_down to s)
starts_down k k_then s to of whole lost epoch writes is table samples served =
    marked_state (record k { meta = meta_after_begin k.meta (Down to) k.meta.spins }) k_then (begun_down to s) (lowered k s to of) whole lost epoch writes is table samples served
