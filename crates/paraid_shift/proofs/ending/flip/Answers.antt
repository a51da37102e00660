use Rattle.std.specs.Prelude.{ℕ, ◌+◌, ◌≤◌}
use Rattle.std.proofs.Common.{◌≡◌, ◌∙◌, refl, ap, arith, sym, inl, inr}
use Rattle.paraid_base.specs.declared.state.Phase.TheVariants.{Steady}
use Rattle.paraid_base.specs.States.{phase_to}
use Rattle.paraid_record.specs.declared.meta.Meta.{Meta}
use Rattle.paraid_image.specs.Power.{power_by_gear}
use Rattle.paraid_moves.specs.MoveMetas.{meta_flipped_to}
use Rattle.paraid_txn.specs.Stores.{store_rack}
use Rattle.paraid_event.specs.Service.{service_of}
use Rattle.paraid_event.proofs.ShiftMarkLemmas.{flipped_mark}
use Rattle.paraid_shift.proofs.PowersLemmas.{flip_steps, flipped_powers, not_fresh, parks_are_powers, phase_down, phase_up}
use Rattle.paraid_core.specs.Cores.{CoreStandsFor}
use Rattle.paraid_core.proofs.ErrLemmas.{none_done}
use Rattle.paraid_shift.proofs.PartLemmas.{keeps_done, keeps_later, keeps_raised, keeps_spared}
use Rattle.paraid_event.specs.CoreServing.{RestsInShift}
use Rattle.paraid_event.proofs.CoreServingLemmas.{chain, chain_held, leaves_array_then, marked_gear, marked_steady, marked_then}
use Rattle.paraid_shift.proofs.LossLemmas.{flip_lost, park_lost, powers_are_lost}
use Rattle.paraid_record.specs.declared.meta.Setup.{Setup}
use Rattle.paraid_core.proofs.AfterLemmas.{gear_high}
use Rattle.paraid_shift.proofs.FitsLemmas.{fits_flipped}
use Rattle.paraid_shift.proofs.ending.flip.Goals as goal

pub returns-in_err-commit_gear : goal.returns-in_err-commit_gear
returns-in_err-commit_gear g c =
    let a = c.args.core.now in
    let new = c.commit_gear.new.core in
    let all = c.commit_gear.ensures in
    let m = meta_flipped_to a.meta (phase_to a.meta.phase) in
    let from = c.from_residual in
    record {
      shifted = none_done _ from.result _ from.ensures.1;
      meta = none_done _ from.result _ from.ensures.1;
      keeps = all.keeps;
      rack = keeps_raised from.result from.ensures.1 (keeps_spared c.in_err-commit_gear.ensures.rack)
          (flip_lost g.R.Rack.slot_count g.R.Rack.slot g.R.Rack.told a m
          (λ samples served energy. flipped_mark (service_of g.R.Rack.slot_count a samples served energy) (record (service_of g.R.Rack.slot_count a samples served energy) { meta = m }) refl refl (phase_to a.meta.phase) c.requires.can.whole refl)
          new _ c.in_err-commit_gear.ensures.rack.loses);
      steps = none_done _ from.result _ from.ensures.1;
      rests = none_done _ from.result _ from.ensures.1;
    }

pub returns-in_err-park_down : goal.returns-in_err-park_down
returns-in_err-park_down g c =
    let a = c.args.core.now in
    let b = c.commit_gear.new.core in
    let n = c.park_down.new.core in
    let one = c.in_ok-commit_gear.ensures.ended in
    let all = c.park_down.ensures in
    let lost = c.in_err-park_down.ensures.rack in
    let m = meta_flipped_to a.meta (phase_to a.meta.phase) in
    let from = c.from_residual-in_err-park_down in
    record {
      shifted = none_done _ from.result _ from.ensures.1;
      meta = none_done _ from.result _ from.ensures.1;
      keeps = record {
        table = all.turns.table ∙ c.commit_gear.ensures.keeps.table;
        moments = λ h lo.
            chain_held g.R.Rack.slot_count g.R.Rack.told a b one.leaves.slots one.leaves.setup one.named
            (CoreStandsFor g.R.Rack.slot_count a h lo) (RestsInShift g.R.Rack.slot_count b h lo) h lo _ (one.rests h lo) (all.turns.moments h lo);
      };
      rack = keeps_later a b n from.result from.ensures.1 one.leaves lost
          (park_lost g.R.Rack.slot_count g.R.Rack.slot g.R.Rack.told a m
          (λ samples served energy. flipped_mark (service_of g.R.Rack.slot_count a samples served energy) (record (service_of g.R.Rack.slot_count a samples served energy) { meta = m }) refl refl (phase_to a.meta.phase) c.requires.can.whole refl)
          b n _ one.leaves.slots one.epoch c.requires.can.whole refl one.opens
          (powers_are_lost g.R.Rack.slot_count g.R.Rack.slot g.R.Rack.told b n _ one.nothing all.turns.calls all.turns.moments lost.loses));
      steps = none_done _ from.result _ from.ensures.1;
      rests = none_done _ from.result _ from.ensures.1;
    }

pub returns : goal.returns
returns g c =
    let a = c.args.core.now in
    let b = c.commit_gear.new.core in
    let n = c.park_down.new.core in
    let one = c.in_ok-commit_gear.ensures.ended in
    let all = c.park_down.ensures in
    let two = c.in_ok-park_down.ensures in
    record {
      shifted = record {
        serving = two.serving;
        leaves = leaves_array_then g.R.Rack.slot_count g.R.Rack.slot a b n one.leaves two.turns.powers.leaves;
        absent = two.turns.powers.absent one.absent;
        fits = fits_flipped (g.R.Rack.slot (store_rack a.store)) (g.R.Rack.slot (store_rack b.store)) (g.R.Rack.slot (store_rack n.store)) a.meta b.meta n.meta (a.meta.epoch + 1) _
            c.requires.can.serving.ready.in_range c.requires.can.whole (ap (λ (z : Meta). z.gear) c.meta.ensures) c.requires.can.shifts c.in_ok-commit_gear.ensures.rack.spared one.meta
            (marked_then _ b.meta n.meta one.meta two.turns.powers.meta) two.parked two.others two.serving.large two.serving.ready.absent;
        nothing = two.nothing;
      };
      meta = marked_then _ b.meta n.meta one.meta two.turns.powers.meta;
      keeps = record {
        table = all.turns.table ∙ c.commit_gear.ensures.keeps.table;
        moments = λ h lo.
            chain_held g.R.Rack.slot_count g.R.Rack.told a b one.leaves.slots one.leaves.setup one.named
            (CoreStandsFor g.R.Rack.slot_count a h lo) (RestsInShift g.R.Rack.slot_count b h lo) h lo _ (one.rests h lo) (all.turns.moments h lo);
      };
      rack = keeps_done (leaves_array_then g.R.Rack.slot_count g.R.Rack.slot a b n one.leaves two.turns.powers.leaves);
      steps = λ before k h lo most samples served energy first.
          let m = meta_flipped_to a.meta (phase_to a.meta.phase) in
          let gear : b.meta.gear ≡ phase_to a.meta.phase = marked_gear _ b.meta one.meta in
          let hi = ap (λ (z : Meta). z.gear) c.meta.ensures in
          flip_steps g.R.Rack.slot_count g.R.Rack.told a b n m k before h lo most samples served energy
          (flipped_mark (service_of g.R.Rack.slot_count a samples served energy) (record (service_of g.R.Rack.slot_count a samples served energy) { meta = m }) refl refl (phase_to a.meta.phase) c.requires.can.whole refl)
          one.leaves.slots two.turns.powers.leaves.slots one.epoch c.requires.can.whole refl one.opens first
          (parks_are_powers g.R.Rack.slot_count g.R.Rack.slot g.R.Rack.told b n (g.met.R.Rack.agrees (store_rack b.store)) (g.met.R.Rack.agrees (store_rack n.store)) two.serving.ready two.turns.powers.meta two.turns.powers.lost
          (not_fresh _ n.meta (marked_then _ b.meta n.meta one.meta two.turns.powers.meta) c.requires.can.whole) a.meta _ one.nothing two.nothing (marked_steady b.meta n.meta two.turns.powers.meta one.steady) c.park_down.ensures.turns.calls two.turns.powers.rests two.parked two.others
          (λ d place. flipped_powers a.meta _ d hi c.requires.can.shifts (elim place [ inl low ↦ inl (omega (arith, gear, low)) | inr past ↦ inr past ]) (phase_down a.meta c.requires.can.serving.ready.in_range) (phase_up a.meta c.requires.can.serving.ready.in_range)
          ∙ ap (λ (x : ℕ). power_by_gear x Steady d) (sym gear)) h lo samples served energy);
      rests = λ h lo.
          chain g.R.Rack.slot_count g.R.Rack.told a b one.leaves.slots one.leaves.setup one.named
          (CoreStandsFor g.R.Rack.slot_count a h lo) (RestsInShift g.R.Rack.slot_count b h lo) (RestsInShift g.R.Rack.slot_count n h lo) h lo _ (one.rests h lo) (two.turns.powers.rests h lo);
    }

within : (hi gear disks now : ℕ) → hi ≡ gear → gear ≤ disks → now ≡ disks → hi ≤ now
within hi gear disks now is high same = omega arith

pub park_down-requires : goal.park_down-requires
park_down-requires g c =
    let a = c.args.core.now in
    let one = c.in_ok-commit_gear.ensures.ended in
    record {
      serving = one.serving;
      steady = one.steady;
      high = within _ _ _ _ (ap (λ (m : Meta). m.gear) c.meta.ensures) (gear_high a.meta c.requires.can.serving.ready.in_range) (ap (λ (z : Setup). z.geometry.disks) one.leaves.setup);
      nothing = one.nothing;
    }

pub commit_gear-requires : goal.commit_gear-requires
commit_gear-requires g c = record { can = c.requires.can }
