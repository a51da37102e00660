use Rattle.std.proofs.Common.{ℕ, Ok, ap, inl, inr, refl, subst, sym, ◌∙◌}
use Rattle.paraid_rack.specs.Told.{CrashTriple, Ran}
use Rattle.paraid_record.specs.declared.meta.Meta.{Meta}
use Rattle.paraid_core.specs.Cores.{IsCoreHeldSinceCommit}
use Rattle.paraid_core.specs.Fills.{Filled}
use Rattle.std.proofs.lemmas.Bool.{cases_Bool}
use Rattle.paraid_image.specs.Out.{named_out}
use Rattle.paraid_rack.specs.Disks.{is_present}
use Rattle.paraid_shift.proofs.PowersLemmas.{park_is, power_calls_none, power_calls_one, powered_lost, powered_same}
use Rattle.paraid_txn.specs.Stores.{store_rack}
use Rattle.paraid_core.proofs.StepLemmas.{marked_from_setup, runs_end}
use Rattle.paraid_event.specs.CoreServing.{RestsInShift}
use Rattle.paraid_event.proofs.CoreServingLemmas.{copies_kept, large_then, leaves_turned, marked_named, same_none}
use Rattle.paraid_shift.proofs.PartLemmas.{keeps_failed}
use Rattle.paraid_core.proofs.ErrLemmas.{none_done}
use Rattle.std.proofs.Math.Nat.{le_refl}
use Rattle.paraid_shift.proofs.OutcomeLemmas.{powers_none}
use Rattle.paraid_shift.proofs.LossLemmas.{parked_bears}
use Rattle.paraid_shift.proofs.ending.lower.Goals as goal

pub returns-then-not-is_up : goal.returns-then-not-is_up
returns-then-not-is_up g c =
    let q = c.requires.serving in
    let a = c.args.core.now in
    let powers = powers_none g.R.Rack.slot_count g.R.Rack.slot g.R.Rack.told a in
    record {
      serving = c.requires.serving;
      nothing = c.requires.nothing;
      turns = record {
        powers = powers;
        table = refl;
        calls = power_calls_none a.meta (g.R.Rack.told (store_rack a.store));
        moments = λ h lo. runs_end g.R.Rack.slot_count g.R.Rack.slot g.R.Rack.told a _ (RestsInShift g.R.Rack.slot_count a h lo) (RestsInShift g.R.Rack.slot_count a h lo) h lo (powers.rests h lo);
      };
      store = same_none a.store;
      rack = record {
        slots = refl;
        no_fall = λ d. le_refl _;
        two = tt;
        loses = tt;
      };
      parked = c.is_up.ensures.down c.if-not-is_up.true;
      others = λ d apart. refl;
    }

pub returns-in_err-park : goal.returns-in_err-park
returns-in_err-park g c =
    let a = c.args.core.now in
    let new = c.park.new.self in
    let all = c.park.ensures in
    let from = c.from_residual in
    record {
      serving = none_done _ from.result _ from.ensures.1;
      nothing = none_done _ from.result _ from.ensures.1;
      turns = record {
        powers = none_done _ from.result _ from.ensures.1;
        table = all.turns.staged.table;
        calls = power_calls_one _ a.meta (λ done. park_is a.meta c.args.disk done c.requires.steady c.requires.disk c.requires.past_gear (c.is_up.ensures.not_out c.if-not-is_up.false)) _ _ all.calls;
        moments = all.held.moments;
      };
      store = all.turns.store;
      rack = keeps_failed from.result from.ensures.1 all.turns.slots
          all.turns.turned.no_fall
          c.in_err-park.ensures.answers.two
          c.in_err-park.ensures.answers.tells;
      parked = none_done _ from.result _ from.ensures.1;
      others = all.turns.others;
    }

pub returns : goal.returns
returns g c =
    let q = c.requires.serving in
    let a = c.args.core.now in
    let new = c.park.new.self in
    let all = c.park.ensures in
    let done = c.in_ok-park.ensures in
    let setup = marked_from_setup a.meta new.meta done.answers.meta in
    record {
      serving = record {
        ready = done.turns.ready;
        serves = done.serves q.serves;
        draft = all.turns.staged.draft ∙ q.draft;
        copies_synced = copies_kept a new setup all.turns.staged.copied q.copies_synced;
        unsynced = done.turns.unsynced q.unsynced;
        large = large_then (g.R.Rack.slot (store_rack a.store)) (g.R.Rack.slot (store_rack new.store)) a.meta new.meta q.large all.turns.turned setup (marked_named a.meta new.meta done.answers.meta) done.turns.ready.absent;
      };
      nothing = all.turns.staged.batch ∙ c.requires.nothing;
      turns = record {
        powers = record {
          leaves = leaves_turned g.R.Rack.slot_count g.R.Rack.slot a new all.turns.slots all.turns.store done.answers.meta all.turns.turned done.answers.risen;
          absent = done.turns.absent;
          meta = done.answers.meta;
          lost = elim (cases_Bool c.in_ok-park.field-0) [
            | inl ok ↦ powered_same (g.R.Rack.slot (store_rack new.store)) a.meta new.meta (done.answers.same (ap Ok ok))
            | inr failed ↦
                powered_lost (g.R.Rack.slot (store_rack new.store)) a.meta new.meta c.args.disk done.answers.meta c.requires.disk (c.is_up.ensures.not_out c.if-not-is_up.false) (done.answers.gone (ap Ok failed)) (ap is_present (done.answers.failed (ap Ok failed)).absent)
          ];
          bears = parked_bears c.args.disk _ _ (g.R.Rack.slot (store_rack new.store)) a.meta new.meta c.in_ok-park.field-0 (g.met.R.Rack.agrees (store_rack new.store))
              (elim (cases_Bool c.in_ok-park.field-0) [
                | inl ok ↦ ap is_present (done.parked (ap Ok ok)) ∙ sym ok
                | inr failed ↦ ap is_present (done.answers.failed (ap Ok failed)).absent ∙ sym failed
              ])
              done.answers.meta (λ ok. done.answers.same (ap Ok ok)) (λ failed. done.answers.gone (ap Ok failed)) all.calls;
          rests = λ h lo. elim (cases_Bool c.in_ok-park.field-0) [
            | inl ok ↦
                subst (λ (n : ℕ). Ran (g.R.Rack.told (store_rack a.store)) (g.R.Rack.told (store_rack new.store)) (CrashTriple (IsCoreHeldSinceCommit g.R.Rack.slot_count a h lo) (RestsInShift g.R.Rack.slot_count a h lo) (Filled g.R.Rack.slot_count new h lo n)))
                (sym (ap (λ (m : Meta). m.fill) (done.answers.same (ap Ok ok)))) (done.held.done (ap Ok ok) h lo)
            | inr failed ↦ done.held.lost_filled (ap Ok failed) h lo
          ];
        };
        table = all.turns.staged.table;
        calls = power_calls_one _ a.meta (λ done. park_is a.meta c.args.disk done c.requires.steady c.requires.disk c.requires.past_gear (c.is_up.ensures.not_out c.if-not-is_up.false)) _ _ all.calls;
        moments = all.held.moments;
      };
      store = all.turns.store;
      rack = record {
        slots = all.turns.slots;
        no_fall = all.turns.turned.no_fall;
        two = tt;
        loses = tt;
      };
      parked = λ not. elim (cases_Bool c.in_ok-park.field-0) [
        | inl ok ↦ done.parked (ap Ok ok)
        | inr failed ↦ absurd (not (ap named_out (done.answers.gone (ap Ok failed))))
      ];
      others = all.turns.others;
    }

pub is_up-requires : goal.is_up-requires
is_up-requires g c =
    let q = c.requires in
    record {
      ready = q.serving.ready;
      disk = q.disk;
    }
