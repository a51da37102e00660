use Rattle.std.proofs.lemmas.Bool.{cases_lt}
use Rattle.paraid_txn.specs.Stores.{store_rack}
use Rattle.paraid_shift.proofs.PowersLemmas.{power_calls_none, power_calls_then, rises_same}
use Rattle.std.proofs.Common.{ℕ, ◌≡◌, ◌<◌, ◌≤◌, ap, arith, inl, inr, ◌∙◌, refl, subst, sym}
use Rattle.paraid_base.specs.States.{rising_to}
use Rattle.paraid_record.specs.declared.meta.Meta.{Meta}
use Rattle.paraid_core.proofs.StepLemmas.{runs_end}
use Rattle.paraid_event.specs.CoreServing.{RestsInShift}
use Rattle.paraid_shift.specs.Rising.{IsComingUp}
use Rattle.paraid_event.proofs.CoreServingLemmas.{chain_held, same_none, same_then, marked_gear}
use Rattle.paraid_core.proofs.AfterLemmas.{rise_high}
use Rattle.paraid_core.proofs.ErrLemmas.{none_done}
use Rattle.paraid_shift.proofs.PartLemmas.{keeps_done, keeps_powered}
use Rattle.paraid_shift.proofs.OutcomeLemmas.{powers_none, powers_then}
use Rattle.paraid_shift.proofs.begin.bring_up.Goals as goal

pub loop-disk-init : goal.loop-disk-init
loop-disk-init g c =
    let a = c.args.core.now in
    record {
      rising = subst (λ (m : Meta). IsComingUp g.R.Rack.slot_count g.R.Rack.slot a m.gear) (sym c.meta.ensures) c.requires.rising;
      powers = powers_none g.R.Rack.slot_count g.R.Rack.slot g.R.Rack.told a;
      store = same_none a.store;
      table = refl;
      calls = power_calls_none a.meta (g.R.Rack.told (store_rack a.store));
      from = (let start = ap (λ (m : Meta). m.gear) c.meta.ensures in omega arith);
      until = λ d low past. (let start = ap (λ (m : Meta). m.gear) c.meta.ensures in omega (arith, low));
      others = λ d place. refl;
    }

pub loop-disk-preserved : goal.loop-disk-preserved
loop-disk-preserved g c =
    let a = c.args.core.now in
    let b = c.loop-disk.core in
    let new = c.raise.new.core in
    let was = c.loop-disk.invariant in
    let all = c.raise.ensures in
    let one = c.in_ok-raise.ensures in
    record {
      rising = one.rising;
      powers = powers_then g.R.Rack.slot_count g.R.Rack.slot g.R.Rack.told a b new was.store was.powers one.turns.powers;
      store = same_then a.store b.store new.store was.store all.store;
      table = all.turns.table ∙ was.table;
      calls = power_calls_then g.R.Rack.slot_count g.R.Rack.slot g.R.Rack.told a b new (g.met.R.Rack.agrees (store_rack b.store)) was.rising.ready was.powers.meta was.calls all.turns.calls;
      from = let low = was.from in omega arith;
      until = λ d low past. (let within = all.within in let same = rises_same a.meta b.meta was.powers.meta in omega (arith, past, within, same));
      others = λ d place. all.others d (λ same. elim place [ inl low ↦ (let from = was.from in absurd (omega (arith, low, from, same))) | inr past ↦ absurd (omega (arith, past, same)) ])
          ∙ was.others d (elim place [ inl low ↦ inl low | inr past ↦ inr (omega (arith, past)) ]);
    }

pub returns-in_err-raise : goal.returns-in_err-raise
returns-in_err-raise g c =
    let a = c.args.core.now in
    let b = c.loop-disk.core in
    let new = c.raise.new.core in
    let was = c.loop-disk.invariant in
    let all = c.raise.ensures in
    let from = c.from_residual in
    record {
      serving = none_done _ from.result _ from.ensures.1;
      nothing = none_done _ from.result _ from.ensures.1;
      turns = record {
        powers = none_done _ from.result _ from.ensures.1;
        table = all.turns.table ∙ was.table;
        calls = power_calls_then g.R.Rack.slot_count g.R.Rack.slot g.R.Rack.told a b new (g.met.R.Rack.agrees (store_rack b.store)) was.rising.ready was.powers.meta was.calls all.turns.calls;
        moments = λ h lo.
            chain_held g.R.Rack.slot_count g.R.Rack.told a b was.powers.leaves.slots was.powers.leaves.setup was.store.named
            (RestsInShift g.R.Rack.slot_count a h lo) (RestsInShift g.R.Rack.slot_count b h lo) h lo _ (was.powers.rests h lo) (all.turns.moments h lo);
      };
      rack = keeps_powered a b new from.result from.ensures.1 was.powers c.in_err-raise.ensures.rack;
      others = none_done _ from.result _ from.ensures.1;
    }

past_end : (d disk end : ℕ) (m n p : Meta) → d < rising_to n.phase → rising_to n.phase ≡ rising_to m.phase → p ≡ m → end ≡ rising_to p.phase → end ≤ disk → d < disk
past_end d disk end m n p low rises same is past = let also = ap (λ (z : Meta). rising_to z.phase) same in omega arith

pub returns : goal.returns
returns g c =
    let a = c.args.core.now in
    let b = c.loop-disk.core in
    let was = c.loop-disk.invariant in
    record {
      serving = record {
        ready = was.rising.ready;
        serves = record {
          spins = λ d low not. was.rising.up d (past_end d c.loop-disk.disk _ a.meta b.meta _ low (rises_same a.meta b.meta was.powers.meta) c.meta-2.ensures c.rising_to-disk-end.ensures c.loop-disk-test.false) not;
          large = λ d low not. was.rising.large d (let high = rise_high b.meta.setup.geometry b.meta.gear b.meta.phase was.rising.ready.in_range.phase in omega (arith, low, high)) not;
          stays = was.rising.still;
        };
        draft = was.rising.draft;
        copies_synced = was.rising.copies_synced;
        unsynced = was.rising.unsynced;
        large = was.rising.large;
      };
      nothing = was.rising.nothing;
      turns = record {
        powers = was.powers;
        table = was.table;
        calls = was.calls;
        moments = λ h lo. runs_end g.R.Rack.slot_count g.R.Rack.slot g.R.Rack.told a _ (RestsInShift g.R.Rack.slot_count a h lo) (RestsInShift g.R.Rack.slot_count b h lo) h lo (was.powers.rests h lo);
      };
      rack = keeps_done was.powers.leaves;
      others = λ d place. elim (cases_lt d a.meta.gear) [
        | inl low ↦ was.others d (inl low)
        | inr from ↦ elim place [
          | inl low ↦ absurd (omega (arith, low, from))
          | inr past ↦ was.others d (inr (was.until d from past))
        ]
      ];
    }

rising_on : (disk end : ℕ) (m n p : Meta) → disk < end → end ≡ rising_to p.phase → p ≡ m → rising_to n.phase ≡ rising_to m.phase → disk < rising_to n.phase
rising_on disk end m n p low is same rises = let also = ap (λ (z : Meta). rising_to z.phase) same in omega arith

lower_than : (disk rises disks : ℕ) → disk < rises → rises ≤ disks → disk < disks
lower_than disk rises disks low high = omega arith

past_gear : (was gear disk : ℕ) → gear ≡ was → was ≤ disk → gear ≤ disk
past_gear was gear disk is from = omega arith

pub raise-requires : goal.raise-requires
raise-requires g c =
    let a = c.args.core.now in
    let b = c.loop-disk.core in
    let was = c.loop-disk.invariant in
    let rises = rising_on _ _ a.meta b.meta _ c.loop-disk-test.true c.rising_to-disk-end.ensures c.meta-2.ensures (rises_same a.meta b.meta was.powers.meta) in
    record {
      rising = was.rising;
      disk = lower_than _ _ _ rises (rise_high b.meta.setup.geometry b.meta.gear b.meta.phase was.rising.ready.in_range.phase);
      past_gear = past_gear _ _ _ (marked_gear a.meta b.meta was.powers.meta) was.from;
      rises = rises;
    }
