use Rattle.std.specs.Prelude.{ℕ, Some, ◌<◌, ◌≤◌}
use Rattle.std.proofs.Common.{ap, arith, inl, inr, sym, ◌∙◌, refl, ◌≡◌}
use Rattle.std.proofs.lemmas.Bool.{cases_eq, cases_lt}
use Rattle.paraid_rack.specs.Slots.{Slot}
use Rattle.paraid_record.specs.declared.meta.Meta.{Meta}
use Rattle.paraid_txn.specs.Stores.{store_rack}
use Rattle.paraid_shift.proofs.PowersLemmas.{power_calls_none, power_calls_then}
use Rattle.paraid_core.proofs.ErrLemmas.{none_done}
use Rattle.paraid_shift.proofs.PartLemmas.{keeps_done, keeps_powered}
use Rattle.paraid_shift.proofs.OutcomeLemmas.{powers_none, powers_then}
use Rattle.paraid_core.proofs.StepLemmas.{runs_end}
use Rattle.paraid_event.specs.CoreServing.{RestsInShift}
use Rattle.paraid_event.proofs.CoreServingLemmas.{chain_held, marked_named, same_none, same_then, marked_gear, marked_steady}
use Rattle.paraid_record.specs.declared.meta.Setup.{Setup}
use Rattle.paraid_shift.proofs.ending.park_down.Goals as goal

pub loop-disk-init : goal.loop-disk-init
loop-disk-init g c =
    let a = c.args.core.now in
    record {
      serving = c.requires.serving;
      nothing = c.requires.nothing;
      powers = powers_none g.R.Rack.slot_count g.R.Rack.slot g.R.Rack.told a;
      store = same_none a.store;
      table = refl;
      calls = power_calls_none a.meta (g.R.Rack.told (store_rack a.store));
      from = (let start = ap (λ (m : Meta). m.gear) c.meta.ensures in omega arith);
      until = λ d low past. (let start = ap (λ (m : Meta). m.gear) c.meta.ensures in omega (arith, low));
      parked = λ d low under not. absurd (let start = ap (λ (m : Meta). m.gear) c.meta.ensures in omega arith);
      others = λ d place. refl;
    }

pub loop-disk-preserved : goal.loop-disk-preserved
loop-disk-preserved g c =
    let a = c.args.core.now in
    let b = c.loop-disk.core in
    let new = c.lower.new.core in
    let was = c.loop-disk.invariant in
    let all = c.lower.ensures in
    let one = c.in_ok-lower.ensures in
    record {
      serving = one.serving;
      nothing = one.nothing;
      powers = powers_then g.R.Rack.slot_count g.R.Rack.slot g.R.Rack.told a b new was.store was.powers one.turns.powers;
      store = same_then a.store b.store new.store was.store all.store;
      table = all.turns.table ∙ was.table;
      calls = power_calls_then g.R.Rack.slot_count g.R.Rack.slot g.R.Rack.told a b new (g.met.R.Rack.agrees (store_rack b.store)) was.serving.ready was.powers.meta was.calls all.turns.calls;
      from = let low = was.from in omega arith;
      until = λ d low past. (let test = c.loop-disk-test.true in omega (arith, past));
      parked = λ d low under not. elim (cases_eq d c.loop-disk.disk) [
        | inl same ↦
            ap (λ (e : ℕ). (g.R.Rack.slot (store_rack new.store) e).power) same ∙ one.parked (λ k. not (k ∙ ap Some (sym same)))
        | inr apart ↦
            ap (λ (s : Slot). s.power) (all.others d apart)
            ∙ was.parked d low (omega (arith, under, apart)) (λ k. not (marked_named b.meta new.meta one.turns.powers.meta d k))
      ];
      others = λ d place. all.others d (λ same. elim place [ inl low ↦ (let from = was.from in absurd (omega (arith, low, from, same))) | inr past ↦ absurd (omega (arith, past, same)) ])
          ∙ was.others d (elim place [ inl low ↦ inl low | inr past ↦ inr (omega (arith, past)) ]);
    }

pub returns-in_err-lower : goal.returns-in_err-lower
returns-in_err-lower g c =
    let a = c.args.core.now in
    let b = c.loop-disk.core in
    let new = c.lower.new.core in
    let was = c.loop-disk.invariant in
    let all = c.lower.ensures in
    let from = c.from_residual in
    record {
      serving = none_done _ from.result _ from.ensures.1;
      nothing = none_done _ from.result _ from.ensures.1;
      turns = record {
        powers = none_done _ from.result _ from.ensures.1;
        table = all.turns.table ∙ was.table;
        calls = power_calls_then g.R.Rack.slot_count g.R.Rack.slot g.R.Rack.told a b new (g.met.R.Rack.agrees (store_rack b.store)) was.serving.ready was.powers.meta was.calls all.turns.calls;
        moments = λ h lo.
            chain_held g.R.Rack.slot_count g.R.Rack.told a b was.powers.leaves.slots was.powers.leaves.setup was.store.named
            (RestsInShift g.R.Rack.slot_count a h lo) (RestsInShift g.R.Rack.slot_count b h lo) h lo _ (was.powers.rests h lo) (all.turns.moments h lo);
      };
      rack = keeps_powered a b new from.result from.ensures.1 was.powers c.in_err-lower.ensures.rack;
      parked = none_done _ from.result _ from.ensures.1;
      others = none_done _ from.result _ from.ensures.1;
    }

pub returns : goal.returns
returns g c =
    let a = c.args.core.now in
    let b = c.loop-disk.core in
    let was = c.loop-disk.invariant in
    record {
      serving = was.serving;
      nothing = was.nothing;
      turns = record {
        powers = was.powers;
        table = was.table;
        calls = was.calls;
        moments = λ h lo. runs_end g.R.Rack.slot_count g.R.Rack.slot g.R.Rack.told a _ (RestsInShift g.R.Rack.slot_count a h lo) (RestsInShift g.R.Rack.slot_count b h lo) h lo (was.powers.rests h lo);
      };
      rack = keeps_done was.powers.leaves;
      parked = λ d low under not. was.parked d low (let test = c.loop-disk-test.false in omega (arith, under)) not;
      others = λ d place. elim (cases_lt d a.meta.gear) [
        | inl low ↦ was.others d (inl low)
        | inr from ↦ elim place [
          | inl low ↦ absurd (omega (arith, low, from))
          | inr past ↦ was.others d (inr (was.until d from past))
        ]
      ];
    }

lower_than : (disk hi disks now : ℕ) → disk < hi → hi ≤ disks → now ≡ disks → disk < now
lower_than disk hi disks now low high same = omega arith

past_gear : (was gear disk : ℕ) → gear ≡ was → was ≤ disk → gear ≤ disk
past_gear was gear disk is from = omega arith

pub lower-requires : goal.lower-requires
lower-requires g c =
    let a = c.args.core.now in
    let b = c.loop-disk.core in
    let was = c.loop-disk.invariant in
    record {
      serving = was.serving;
      steady = marked_steady a.meta b.meta was.powers.meta c.requires.steady;
      disk = lower_than _ _ _ _ c.loop-disk-test.true c.requires.high (ap (λ (z : Setup). z.geometry.disks) was.powers.leaves.setup);
      past_gear = past_gear _ _ _ (marked_gear a.meta b.meta was.powers.meta) was.from;
      nothing = was.nothing;
    }
