use Rattle.std.specs.Prelude.{ℕ, false, Some, ◌<◌, Option, true, Ok}
use Rattle.std.proofs.Common.{◌≡◌, ◌∙◌, sym, ap, subst, inl, arith, refl}
use Rattle.paraid_base.specs.States.{gone_out, rebuilt_count}
use Rattle.paraid_image.specs.Out.{named_out, or_else}
use Rattle.paraid_image.specs.Sides.{Batch}
use Rattle.paraid_record.specs.declared.meta.Meta.{Meta}
use Rattle.paraid_rack.proofs.TrailsLemmas.{weaker}
use Rattle.paraid_txn.specs.Stores.{named_of, store_rack}
use Rattle.paraid_core.specs.CellCopies.{KeepsCellCopies}
use Rattle.paraid_core.specs.CoreInvariant.{HoldsBetweenCalls}
use Rattle.paraid_core.specs.Cores.{CoreStandsFor, IsCoreHeldSinceCommit, core_down}
use Rattle.paraid_core.specs.Steps.{IsNamedOrAbsent}
use Rattle.paraid_core.proofs.MarkCellLemmas.{stripes_go_on}
use Rattle.paraid_core.proofs.StepLemmas.{held_none, runs_none}
use Rattle.paraid_event.specs.CoreServing.{RestsInShift, StandsInShift}
use Rattle.paraid_event.proofs.CoreServingLemmas.{lowered, marked_named}
use Rattle.paraid_rebuild.proofs.ReplacingLemmas.{back_well, gone_failed, marked_back, marked_lost, serving_then, lost_none}
use Rattle.paraid_rack.specs.Disks.{is_present}
use Rattle.paraid_record.specs.declared.meta.Setup.{Setup}
use Rattle.paraid_event.specs.Service.{service_of}
use Rattle.paraid_rebuild.proofs.ReplacementEventLemmas.{commit_steps, commit_told, fresh_stays, marked_told, named_there, none_steps}
use Rattle.paraid_rebuild.proofs.MovedLemmas.{gone_away}
use Rattle.paraid_core.proofs.AfterLemmas.{handed}
use Rattle.paraid_rebuild.proofs.LossLemmas.{LosesSteps, commit_lost_steps, tells_by}
use Rattle.paraid_rebuild.proofs.ResultLemmas.{back_is, gone_is}
use Rattle.paraid_rebuild.proofs.stepping.commit_staged.Goals as goal
use Rattle.std.proofs.Math.Nat.{le-add_right, le_refl}
use Rattle.paraid_core.proofs.ErrLemmas.{none_done, none_done_as}

pub returns-then-is_clear : goal.returns-then-is_clear
returns-then-is_clear g c =
    let a = c.args.core.now in
    let nothing = c.is_clear.ensures.nothing c.if-is_clear.true in
    record {
      serves = record {
        serving = c.requires.can.serving;
        nothing = c.is_clear.ensures.nothing c.if-is_clear.true;
        later = le_refl _;
        few = le-add_right _ _;
        table = refl;
      };
      table = refl;
      named = c.requires.can.named;
      keeps = record {
        slots = refl;
        spared = lost_none (g.R.Rack.slot (store_rack a.store));
        two = tt;
      };
      same = λ is. record {
        meta = refl;
        spins = c.requires.can.spins;
      };
      lost = λ is. let z : Ok true ≡ Ok false = is in cc;
      moments = λ h lo.
          weaker (IsCoreHeldSinceCommit g.R.Rack.slot_count a h lo) (CoreStandsFor g.R.Rack.slot_count a h lo) (StandsInShift g.R.Rack.slot_count a h lo) (IsCoreHeldSinceCommit g.R.Rack.slot_count a h lo) (IsCoreHeldSinceCommit g.R.Rack.slot_count a h lo) _ _ (λ s k. k.keeps) (λ s p. p)
          (held_none g.R.Rack.slot_count g.R.Rack.slot g.R.Rack.told a h lo);
      rests = λ h lo.
          weaker (IsCoreHeldSinceCommit g.R.Rack.slot_count a h lo) (StandsInShift g.R.Rack.slot_count a h lo) (StandsInShift g.R.Rack.slot_count a h lo) (StandsInShift g.R.Rack.slot_count a h lo) (RestsInShift g.R.Rack.slot_count a h lo) _ _ (λ s k. k)
          (λ s k. stripes_go_on (g.R.Rack.slot_count (store_rack a.store)) (named_of a.store) a.meta a.dirty a.copied h lo (λ (r d : ℕ). false) s
          (subst (λ (z : Batch). KeepsCellCopies (g.R.Rack.slot_count (store_rack a.store)) (named_of a.store) a.meta a.dirty z a.copied h lo (λ (r d : ℕ). false) s) nothing k))
          (runs_none g.R.Rack.slot_count g.R.Rack.slot g.R.Rack.told a (StandsInShift g.R.Rack.slot_count a h lo) h lo
          (λ s k. subst (λ (z : Batch). HoldsBetweenCalls (g.R.Rack.slot_count (store_rack a.store)) (named_of a.store) a.meta a.dirty z a.copied h lo s) nothing k.keeps));
      in_event = record {
        event = λ samples served energy h lo. none_steps (g.R.Rack.told (store_rack a.store)) (service_of g.R.Rack.slot_count a samples served energy) h lo 1;
        loses = tt;
      };
    }

pub returns-in_err-commit : goal.returns-in_err-commit
returns-in_err-commit g c =
    let a = c.args.core.now in
    let new = c.commit.new.self in
    let was : named_out a.meta.out ≡ Some c.args.disk = ap named_out c.requires.can.fresh in
    let away : IsNamedOrAbsent g.R.Rack.slot a = (λ x is. inl (c.requires.can.named ∙ sym was ∙ is)) in
    let down : core_down a ≡ named_out a.meta.out = ap (λ (o : Option ℕ). or_else o (named_out a.meta.out)) c.requires.can.named ∙ sym was in
    let from = c.from_residual in
    record {
      serves = none_done _ from.result _ from.ensures.1;
      table = c.commit.ensures.cells.table;
      named = none_done _ from.result _ from.ensures.1;
      keeps = record {
        slots = c.commit.ensures.stays.losses.slots;
        spared = c.commit.ensures.stays.losses.spared;
        two = handed _ from.result _ from.ensures.1 c.in_err-commit.ensures.stays.losses.two;
      };
      same = λ is. none_done_as _ from.result _ _ from.ensures.1 is;
      lost = λ is. none_done_as _ from.result _ _ from.ensures.1 is;
      moments = λ h lo. weaker (IsCoreHeldSinceCommit g.R.Rack.slot_count a h lo) (CoreStandsFor g.R.Rack.slot_count a h lo) (StandsInShift g.R.Rack.slot_count a h lo) (IsCoreHeldSinceCommit g.R.Rack.slot_count a h lo) (IsCoreHeldSinceCommit g.R.Rack.slot_count a h lo) _ _ (λ s k. k.keeps) (λ s p. p) (c.commit.ensures.held_since.moments_since away h lo);
      rests = none_done _ from.result _ from.ensures.1;
      in_event = record {
        event = none_done _ from.result _ from.ensures.1;
        loses =
            handed (LosesSteps g.R.Rack.slot_count g.R.Rack.told a new 1) from.result _ from.ensures.1
            (λ samples served energy h lo. commit_lost_steps (g.R.Rack.told (store_rack a.store)) (g.R.Rack.told (store_rack new.store)) (service_of g.R.Rack.slot_count a samples served energy) h lo _ (g.R.Rack.told (store_rack a.store)) refl
            c.commit.ensures.brings.calls (c.commit.ensures.held_since.moments_since away h lo) (c.commit.ensures.brings.whole h lo) (tells_by (g.R.Rack.told (store_rack a.store)) (g.R.Rack.told (store_rack new.store)) (core_down a) (named_out a.meta.out) _ down c.in_err-commit.ensures.stays.losses.tells));
      };
    }

pub returns : goal.returns
returns g c =
    let a = c.args.core.now in
    let new = c.commit.new.self in
    let was : named_out a.meta.out ≡ Some c.args.disk = ap named_out c.requires.can.fresh in
    let away : IsNamedOrAbsent g.R.Rack.slot a = (λ x is. inl (c.requires.can.named ∙ sym was ∙ is)) in
    let done = c.in_ok-commit.ensures in
    let e = c.in_ok-commit.ensures.meta.epoch in
    let new_setup : new.meta.setup ≡ a.meta.setup = c.in_ok-commit.ensures.stays.setup in
    let ready = c.in_ok-commit.ensures.stays.ready in
    let lost = c.in_ok-commit.ensures.stays.losses.marks in
    record {
      serves = record {
        serving =
            serving_then g.R.Rack.slot_count g.R.Rack.slot a new c.requires.can.serving done.stays.ready (done.serves c.requires.can.serving.serves) (done.unsynced c.requires.can.serving.unsynced) done.cells.draft done.stays.copied done.stays.setup
            (λ d is. marked_named _ new.meta done.meta.meta d is) (λ d not there. c.commit.ensures.stays.losses.spared.size d there);
        nothing = c.in_ok-commit.ensures.nothing;
        later = omega arith;
        few = omega arith;
        table = c.commit.ensures.cells.table;
      };
      table = c.commit.ensures.cells.table;
      named = c.in_ok-commit.ensures.meta.named ∙ was;
      keeps = record {
        slots = c.commit.ensures.stays.losses.slots;
        spared = c.commit.ensures.stays.losses.spared;
        two = tt;
      };
      same = λ is. record {
        meta = let e = marked_back _ new.meta c.in_ok-commit.ensures.meta.meta (c.is_gone.ensures.back (back_is _ is)) in
            e ∙ ap (λ (x : ℕ). record a.meta { epoch = x }) (sym (ap (λ (m : Meta). m.epoch) e));
        spins = (back_well (g.R.Rack.slot (store_rack a.store)) (g.R.Rack.slot (store_rack new.store)) a.meta new.meta c.args.disk c.in_ok-commit.ensures.stays.losses.marks (c.is_gone.ensures.back (back_is _ is))).0 ∙ c.requires.can.spins;
      };
      lost = λ is. record {
        gone = marked_lost _ new.meta c.args.disk was (ap gone_out c.requires.can.fresh) c.in_ok-commit.ensures.meta.meta (c.is_gone.ensures.gone (gone_is _ is));
        failed = gone_failed (g.R.Rack.slot (store_rack a.store)) (g.R.Rack.slot (store_rack new.store)) a.meta new.meta c.args.disk was (ap gone_out c.requires.can.fresh) c.in_ok-commit.ensures.stays.losses.marks (c.is_gone.ensures.gone (gone_is _ is));
        away = gone_away (g.R.Rack.slot (store_rack a.store)) (g.R.Rack.slot (store_rack new.store)) a.meta new.meta c.args.disk (ap named_out c.requires.can.fresh) (ap gone_out c.requires.can.fresh) c.in_ok-commit.ensures.stays.losses.marks (c.is_gone.ensures.gone (gone_is _ is));
      };
      moments = λ h lo. weaker (IsCoreHeldSinceCommit g.R.Rack.slot_count a h lo) (CoreStandsFor g.R.Rack.slot_count a h lo) (StandsInShift g.R.Rack.slot_count a h lo) (IsCoreHeldSinceCommit g.R.Rack.slot_count a h lo) (IsCoreHeldSinceCommit g.R.Rack.slot_count a h lo) _ _ (λ s k. k.keeps) (λ s p. p) (c.commit.ensures.held_since.moments_since away h lo);
      rests = λ h lo.
          weaker (IsCoreHeldSinceCommit g.R.Rack.slot_count a h lo) (CoreStandsFor g.R.Rack.slot_count a h lo) (StandsInShift g.R.Rack.slot_count a h lo) (RestsInShift g.R.Rack.slot_count new h lo) (RestsInShift g.R.Rack.slot_count new h lo) _ _ (λ s k. k.keeps) (λ s p. p)
          (lowered g.R.Rack.slot_count a new (IsCoreHeldSinceCommit g.R.Rack.slot_count a h lo) h lo _ _ (c.in_ok-commit.ensures.held_since.filled_since away h lo));
      in_event = record {
        event = λ samples served energy h lo.
            let k = service_of g.R.Rack.slot_count a samples served energy in
            let k_then = service_of g.R.Rack.slot_count new samples served energy in
            commit_steps (g.R.Rack.told (store_rack a.store)) (g.R.Rack.told (store_rack new.store)) k k_then h lo c.commit.ensures.stays.losses.slots
            (commit_told (g.R.Rack.told (store_rack a.store)) (g.R.Rack.told (store_rack new.store)) k k_then h lo c.commit.ensures.brings.calls (c.in_ok-commit.ensures.held_since.since away h lo) (c.commit.ensures.brings.whole h lo)
            (marked_told (g.R.Rack.told (store_rack new.store)) (g.R.Rack.slot (store_rack a.store)) (g.R.Rack.slot (store_rack new.store)) (g.met.R.Rack.agrees (store_rack new.store)) a.meta new.meta lost
            (λ x low absent. ready.absent x (subst (λ (z : Setup). x < z.geometry.disks) (sym new_setup) low) absent)
            (fresh_stays (g.R.Rack.slot (store_rack a.store)) (g.R.Rack.slot (store_rack new.store)) a.meta new.meta lost
            (named_there (g.R.Rack.slot (store_rack a.store)) a.meta c.args.disk (rebuilt_count a.meta.out) c.requires.can.fresh (ap is_present c.requires.can.spins)))));
        loses = tt;
      };
    }

pub commit-requires : goal.commit-requires
commit-requires g c = record {
  ready = c.requires.can.serving.ready;
  committable = record {
    epoch = c.requires.epoch;
    copies_synced = c.requires.can.serving.copies_synced;
  };
}
