use Rattle.paraid_rack.specs.Disks.{is_present}
use Rattle.paraid_shift.proofs.PowersLemmas.{power_calls_none, power_calls_one, powered_lost, powered_same, spin_is}
use Rattle.std.proofs.Common.{◌≡◌, ◌≢◌, ◌∙◌, ℕ, Some, Ok, ap, arith, inl, inr, refl, subst, sym}
use Rattle.std.proofs.lemmas.Bool.{cases_Bool, cases_eq}
use Rattle.paraid_image.specs.Out.{named_out}
use Rattle.paraid_rack.specs.declared.call.Power.TheVariants.{Spinning}
use Rattle.paraid_rack.specs.Slots.{Slot}
use Rattle.paraid_rack.specs.Told.{CrashTriple, Ran}
use Rattle.paraid_record.specs.declared.meta.Meta.{Meta}
use Rattle.paraid_txn.specs.Stores.{store_rack}
use Rattle.paraid_core.specs.Cores.{IsCoreHeldSinceCommit}
use Rattle.paraid_core.specs.Fills.{Filled}
use Rattle.paraid_core.proofs.StepLemmas.{marked_from_setup, runs_end}
use Rattle.paraid_event.specs.CoreServing.{RestsInShift}
use Rattle.paraid_event.proofs.CoreServingLemmas.{copies_kept, large_then, leaves_turned, marked_named, same_none, still_then}
use Rattle.paraid_shift.proofs.begin.raise.Given.{Over}
use Rattle.paraid_shift.proofs.PartLemmas.{keeps_failed}
use Rattle.paraid_core.proofs.ErrLemmas.{none_done}
use Rattle.std.proofs.Math.Nat.{le_refl}
use Rattle.paraid_shift.proofs.OutcomeLemmas.{powers_none}
use Rattle.paraid_shift.proofs.LossLemmas.{spun_bears}
use Rattle.paraid_shift.proofs.begin.raise.Goals as goal
use Rattle.paraid_shift.proofs.begin.raise.Goals.{In_ok-spin_up}

-- the disk itself
raised : (g : Over) (c : In_ok-spin_up g) → named_out c.spin_up.new.self.meta.out ≢ Some c.args.disk → (g.R.Rack.slot (store_rack c.spin_up.new.self.store) c.args.disk).power ≡ Spinning
raised g c not = elim (cases_Bool c.in_ok-spin_up.field-0) [
  | inl done ↦ c.in_ok-spin_up.ensures.spins (ap Ok done)
  | inr failed ↦ absurd (not (ap named_out (c.in_ok-spin_up.ensures.answers.gone (ap Ok failed))))
]

pub returns-then-not-is_down : goal.returns-then-not-is_down
returns-then-not-is_down g c =
    let q = c.requires.rising in
    let a = c.args.core.now in
    let powers = powers_none g.R.Rack.slot_count g.R.Rack.slot g.R.Rack.told a in
    record {
      rising = record {
        ready = q.ready;
        still = q.still;
        up = λ d low not. elim (cases_eq d c.args.disk) [
          | inl is ↦
              ap (λ (e : ℕ). (g.R.Rack.slot (store_rack a.store) e).power) is ∙ c.is_down.ensures.up c.if-not-is_down.true (λ k. not (k ∙ ap Some (sym is)))
          | inr apart ↦ q.up d (omega (arith, low, apart)) not
        ];
        draft = q.draft;
        copies_synced = q.copies_synced;
        unsynced = q.unsynced;
        large = q.large;
        nothing = q.nothing;
      };
      turns = record {
        powers = powers;
        table = refl;
        calls = power_calls_none a.meta (g.R.Rack.told (store_rack a.store));
        moments = λ h lo. runs_end g.R.Rack.slot_count g.R.Rack.slot g.R.Rack.told a _ (RestsInShift g.R.Rack.slot_count a h lo) (RestsInShift g.R.Rack.slot_count a h lo) h lo (powers.rests h lo);
      };
      store = same_none a.store;
      rack = record {
        slots = refl;
        no_fall = λ d. le_refl _;
        two = tt;
        loses = tt;
      };
      others = λ d apart. refl;
      within = c.requires.rises;
    }

pub returns-in_err-spin_up : goal.returns-in_err-spin_up
returns-in_err-spin_up g c =
    let a = c.args.core.now in
    let new = c.spin_up.new.self in
    let all = c.spin_up.ensures in
    let from = c.from_residual in
    record {
      rising = none_done _ from.result _ from.ensures.1;
      turns = record {
        powers = none_done _ from.result _ from.ensures.1;
        table = all.turns.staged.table;
        calls = power_calls_one _ a.meta (λ done. spin_is a.meta c.args.disk done c.requires.disk c.requires.past_gear c.requires.rises (c.is_down.ensures.not_out c.if-not-is_down.false)) _ _ all.calls;
        moments = all.held.moments;
      };
      store = all.turns.store;
      rack = keeps_failed from.result from.ensures.1 all.turns.slots
          all.turns.turned.no_fall
          c.in_err-spin_up.ensures.answers.two
          c.in_err-spin_up.ensures.answers.tells;
      others = all.turns.others;
      within = c.requires.rises;
    }

pub returns : goal.returns
returns g c =
    let q = c.requires.rising in
    let a = c.args.core.now in
    let new = c.spin_up.new.self in
    let all = c.spin_up.ensures in
    let done = c.in_ok-spin_up.ensures in
    let setup = marked_from_setup a.meta new.meta done.answers.meta in
    record {
      rising = record {
        ready = done.turns.ready;
        still = still_then a new all.turns.store done.answers.meta q.still;
        up = λ d low not. elim (cases_eq d c.args.disk) [
          | inl is ↦
              ap (λ (e : ℕ). (g.R.Rack.slot (store_rack new.store) e).power) is ∙ raised g c (λ k. not (k ∙ ap Some (sym is)))
          | inr apart ↦
              ap (λ (s : Slot). s.power) (all.turns.others d apart)
              ∙ q.up d (omega (arith, low, apart)) (λ k. not (marked_named a.meta new.meta done.answers.meta d k))
        ];
        draft = all.turns.staged.draft ∙ q.draft;
        copies_synced = copies_kept a new setup all.turns.staged.copied q.copies_synced;
        unsynced = done.turns.unsynced q.unsynced;
        large = large_then (g.R.Rack.slot (store_rack a.store)) (g.R.Rack.slot (store_rack new.store)) a.meta new.meta q.large all.turns.turned setup (marked_named a.meta new.meta done.answers.meta) done.turns.ready.absent;
        nothing = all.turns.staged.batch ∙ q.nothing;
      };
      turns = record {
        powers = record {
          leaves = leaves_turned g.R.Rack.slot_count g.R.Rack.slot a new all.turns.slots all.turns.store done.answers.meta all.turns.turned done.answers.risen;
          absent = done.turns.absent;
          meta = done.answers.meta;
          lost = elim (cases_Bool c.in_ok-spin_up.field-0) [
            | inl ok ↦ powered_same (g.R.Rack.slot (store_rack new.store)) a.meta new.meta (done.answers.same (ap Ok ok))
            | inr failed ↦
                powered_lost (g.R.Rack.slot (store_rack new.store)) a.meta new.meta c.args.disk done.answers.meta c.requires.disk (c.is_down.ensures.not_out c.if-not-is_down.false) (done.answers.gone (ap Ok failed)) (ap is_present (done.answers.failed (ap Ok failed)).absent)
          ];
          bears = spun_bears c.args.disk _ _ (g.R.Rack.slot (store_rack new.store)) a.meta new.meta c.in_ok-spin_up.field-0 (g.met.R.Rack.agrees (store_rack new.store))
              (elim (cases_Bool c.in_ok-spin_up.field-0) [
                | inl ok ↦ ap is_present (done.spins (ap Ok ok)) ∙ sym ok
                | inr failed ↦ ap is_present (done.answers.failed (ap Ok failed)).absent ∙ sym failed
              ])
              done.answers.meta (λ ok. done.answers.same (ap Ok ok)) (λ failed. done.answers.gone (ap Ok failed)) all.calls;
          rests = λ h lo. elim (cases_Bool c.in_ok-spin_up.field-0) [
            | inl ok ↦
                subst (λ (n : ℕ). Ran (g.R.Rack.told (store_rack a.store)) (g.R.Rack.told (store_rack new.store)) (CrashTriple (IsCoreHeldSinceCommit g.R.Rack.slot_count a h lo) (RestsInShift g.R.Rack.slot_count a h lo) (Filled g.R.Rack.slot_count new h lo n)))
                (sym (ap (λ (m : Meta). m.fill) (done.answers.same (ap Ok ok)))) (done.held.done (ap Ok ok) h lo)
            | inr failed ↦ done.held.lost_filled (ap Ok failed) h lo
          ];
        };
        table = all.turns.staged.table;
        calls = power_calls_one _ a.meta (λ done. spin_is a.meta c.args.disk done c.requires.disk c.requires.past_gear c.requires.rises (c.is_down.ensures.not_out c.if-not-is_down.false)) _ _ all.calls;
        moments = all.held.moments;
      };
      store = all.turns.store;
      rack = record {
        slots = all.turns.slots;
        no_fall = all.turns.turned.no_fall;
        two = tt;
        loses = tt;
      };
      others = all.turns.others;
      within = c.requires.rises;
    }

pub is_down-requires : goal.is_down-requires
is_down-requires g c =
    let q = c.requires in
    record {
      ready = q.rising.ready;
      disk = q.disk;
    }

pub spin_up-requires : goal.spin_up-requires
spin_up-requires g c =
    let q = c.requires in
    record {
      turn = record {
        ready = q.rising.ready;
        still = q.rising.still;
        disk_in = q.disk;
        past_gear = q.past_gear;
        not_out = c.is_down.ensures.not_out c.if-not-is_down.false;
        nothing = q.rising.nothing;
      };
      rises = q.rises;
      parked = c.is_down.ensures.parked c.if-not-is_down.false;
    }
