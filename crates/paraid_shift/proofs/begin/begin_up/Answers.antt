use Rattle.std.proofs.Common.{◌+◌, ℕ, ◌≡◌, ◌∙◌, refl, ap, arith, sym, inl, inr}
use Rattle.paraid_core.proofs.ErrLemmas.{none_done}
use Rattle.paraid_shift.proofs.PartLemmas.{keeps_done, keeps_later, keeps_raised, keeps_spared}
use Rattle.paraid_event.proofs.CoreServingLemmas.{leaves_array_then, chain, chain_held, marked_gear, marked_then}
use Rattle.paraid_base.specs.declared.state.Phase.{Phase}
use Rattle.paraid_base.specs.declared.state.Phase.TheVariants.{Steady, Up}
use Rattle.paraid_base.specs.States.{rising_to}
use Rattle.paraid_image.specs.Power.{power_by_gear}
use Rattle.paraid_moves.specs.MoveMetas.{meta_after_begin}
use Rattle.paraid_txn.specs.Stores.{named_of, store_rack}
use Rattle.paraid_event.specs.Service.{service_of}
use Rattle.paraid_event.proofs.ShiftStepLemmas.{up_in_steps}
use Rattle.paraid_shift.proofs.PowersLemmas.{not_fresh, rises_same, rising_same, rising_spins, turns_are_powers}
use Rattle.paraid_shift.proofs.StepsLemmas.{core_steps_none}
use Rattle.paraid_core.specs.Cores.{CoreStandsFor}
use Rattle.paraid_event.specs.CoreServing.{RestsInShift}
use Rattle.paraid_shift.proofs.LossLemmas.{powers_are_lost, rise_lost, up_lost}
use Rattle.paraid_shift.proofs.FitsLemmas.{fits_begun_up}
use Rattle.paraid_shift.proofs.begin.begin_up.Goals as goal

pub returns-in_err-commit_up : goal.returns-in_err-commit_up
returns-in_err-commit_up g c =
    let a = c.args.core.now in
    let new = c.commit_up.new.core in
    let all = c.commit_up.ensures in
    let from = c.from_residual in
    record {
      shifted = none_done _ from.result _ from.ensures.1;
      meta = none_done _ from.result _ from.ensures.1;
      keeps = all.keeps;
      rack = keeps_raised from.result from.ensures.1 (keeps_spared c.in_err-commit_up.ensures.rack)
          (up_lost g.R.Rack.slot_count g.R.Rack.slot g.R.Rack.told a new c.args.to _ c.requires.can.whole c.in_err-commit_up.ensures.rack.loses);
      steps = none_done _ from.result _ from.ensures.1;
      rests = none_done _ from.result _ from.ensures.1;
    }

pub bring_up-requires : goal.bring_up-requires
bring_up-requires g c = record { rising = c.in_ok-commit_up.ensures.begun.rising }

pub returns-in_err-bring_up : goal.returns-in_err-bring_up
returns-in_err-bring_up g c =
    let a = c.args.core.now in
    let b = c.commit_up.new.core in
    let n = c.bring_up.new.core in
    let one = c.in_ok-commit_up.ensures.begun in
    let all = c.bring_up.ensures in
    let lost = c.in_err-bring_up.ensures.rack in
    let from = c.from_residual-in_err-bring_up in
    record {
      shifted = none_done _ from.result _ from.ensures.1;
      meta = none_done _ from.result _ from.ensures.1;
      keeps = record {
        table = all.turns.table ∙ c.commit_up.ensures.keeps.table;
        moments = λ h lo.
            chain_held g.R.Rack.slot_count g.R.Rack.told a b one.leaves.slots one.leaves.setup one.named
            (CoreStandsFor g.R.Rack.slot_count a h lo) (RestsInShift g.R.Rack.slot_count b h lo) h lo _ (one.rests h lo) (all.turns.moments h lo);
      };
      rack = keeps_later a b n from.result from.ensures.1 one.leaves lost
          (rise_lost g.R.Rack.slot_count g.R.Rack.slot g.R.Rack.told a b n c.args.to _ c.requires.can.whole one.opens one.leaves.slots one.epoch
          (powers_are_lost g.R.Rack.slot_count g.R.Rack.slot g.R.Rack.told b n _ one.nothing all.turns.calls all.turns.moments lost.loses));
      steps = none_done _ from.result _ from.ensures.1;
      rests = none_done _ from.result _ from.ensures.1;
    }

pub returns : goal.returns
returns g c =
    let a = c.args.core.now in
    let b = c.commit_up.new.core in
    let n = c.bring_up.new.core in
    let one = c.in_ok-commit_up.ensures.begun in
    let all = c.bring_up.ensures in
    let two = c.in_ok-bring_up.ensures in
    record {
      shifted = record {
        serving = two.serving;
        leaves = leaves_array_then g.R.Rack.slot_count g.R.Rack.slot a b n one.leaves two.turns.powers.leaves;
        absent = two.turns.powers.absent one.absent;
        fits = fits_begun_up (g.R.Rack.slot (store_rack a.store)) (g.R.Rack.slot (store_rack b.store)) (g.R.Rack.slot (store_rack n.store)) a.meta b.meta n.meta c.args.to (a.meta.epoch + 1) one.meta.spins (named_of n.store)
            c.requires.can.steady c.requires.can.whole c.requires.next.below c.in_ok-commit_up.ensures.rack.spared one.meta.is (marked_then _ b.meta n.meta one.meta.is two.turns.powers.meta)
            two.others two.serving.serves two.serving.large two.serving.ready.absent;
        nothing = two.nothing;
      };
      meta = record { spins = one.meta.spins; is = marked_then _ b.meta n.meta one.meta.is two.turns.powers.meta; raised = one.meta.raised; others = one.meta.others };
      keeps = record {
        table = all.turns.table ∙ c.commit_up.ensures.keeps.table;
        moments = λ h lo.
            chain_held g.R.Rack.slot_count g.R.Rack.told a b one.leaves.slots one.leaves.setup one.named
            (CoreStandsFor g.R.Rack.slot_count a h lo) (RestsInShift g.R.Rack.slot_count b h lo) h lo _ (one.rests h lo) (all.turns.moments h lo);
      };
      rack = keeps_done (leaves_array_then g.R.Rack.slot_count g.R.Rack.slot a b n one.leaves two.turns.powers.leaves);
      steps = λ h lo samples served energy.
          let up = one.opens in
          let to = c.args.to in
          let m = meta_after_begin a.meta (Up to) up.spins in
          let k = service_of g.R.Rack.slot_count a samples served energy in
          let gear : b.meta.gear ≡ a.meta.gear = marked_gear _ b.meta up.marks in
          let rises : rising_to b.meta.phase ≡ to = rises_same _ b.meta up.marks in
          let gear_then : n.meta.gear ≡ a.meta.gear = marked_gear b.meta n.meta two.turns.powers.meta ∙ gear in
          let rises_then : rising_to n.meta.phase ≡ rising_to b.meta.phase = rises_same b.meta n.meta two.turns.powers.meta in
          let below = c.requires.next.below in
          up_in_steps (g.R.Rack.told (store_rack a.store)) (g.R.Rack.told (store_rack a.store)) k k (record k { meta = m }) h lo 0 c.requires.can.whole refl refl (λ t tells holds. up.opens.stands h lo samples served energy t tells holds) to up.spins refl up.raised up.others
          (g.R.Rack.told (store_rack b.store)) (g.R.Rack.told (store_rack n.store)) (service_of g.R.Rack.slot_count b samples served energy) (service_of g.R.Rack.slot_count n samples served energy) lo (omega arith) one.leaves.slots two.turns.powers.leaves.slots one.epoch
          (core_steps_none g.R.Rack.slot_count g.R.Rack.slot g.R.Rack.told a h lo samples served energy) (up.opens.serves h lo samples served energy)
          (turns_are_powers g.R.Rack.slot_count g.R.Rack.slot g.R.Rack.told b n (g.met.R.Rack.agrees (store_rack b.store)) (g.met.R.Rack.agrees (store_rack n.store)) two.serving.ready two.turns.powers.meta two.turns.powers.lost
          (not_fresh (record m { epoch = a.meta.epoch + 1 }) n.meta (marked_then (record m { epoch = a.meta.epoch + 1 }) b.meta n.meta up.marks two.turns.powers.meta) c.requires.can.whole) a.meta (rising_to b.meta.phase) one.nothing two.nothing c.bring_up.ensures.turns.calls two.turns.powers.rests
          (λ d low high not. two.serving.serves.spins d (omega (arith, high, rises_then)) not ∙ rising_spins n.meta.gear d n.meta.phase (omega (arith, high, rises_then)))
          two.others
          (λ d place. ap (λ (p : Phase). power_by_gear a.meta.gear p d) c.requires.can.steady ∙ ap (λ (x : ℕ). power_by_gear x Steady d) (sym gear_then)
          ∙ rising_same n.meta.gear d n.meta.phase (omega (arith, gear_then, rises_then, rises, below)) (elim place [ inl low ↦ inl (omega (arith, low, gear, gear_then)) | inr past ↦ inr (omega (arith, past, rises_then)) ])) h lo samples served energy);
      rests = λ h lo.
          chain g.R.Rack.slot_count g.R.Rack.told a b one.leaves.slots one.leaves.setup one.named
          (CoreStandsFor g.R.Rack.slot_count a h lo) (RestsInShift g.R.Rack.slot_count b h lo) (RestsInShift g.R.Rack.slot_count n h lo) h lo _ (one.rests h lo) (two.turns.powers.rests h lo);
    }

pub commit_up-requires : goal.commit_up-requires
commit_up-requires g c =
    let q = c.requires in
    record { can = q.can; next = q.next }
