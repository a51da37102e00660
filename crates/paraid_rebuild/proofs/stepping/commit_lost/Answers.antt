use Rattle.std.specs.Prelude.{◌+◌, Some, ◌<◌}
use Rattle.std.proofs.Common.{◌≡◌, ◌∙◌, sym, ap, subst, ℕ}
use Rattle.paraid_base.specs.States.{gone_out}
use Rattle.paraid_core.proofs.KindLemmas.{gone_named}
use Rattle.paraid_image.specs.Out.{named_out, or_else}
use Rattle.paraid_record.specs.declared.meta.Meta.{Meta}
use Rattle.paraid_txn.specs.Losses.{OnlyLosesSlots}
use Rattle.paraid_txn.specs.Stores.{named_of, store_rack}
use Rattle.paraid_core.specs.Cores.{CoreStandsFor, IsCoreHeldSinceCommit, core_down}
use Rattle.paraid_core.proofs.AfterLemmas.{handed}
use Rattle.paraid_event.specs.CoreServing.{RestsInShift}
use Rattle.paraid_event.proofs.CoreServingLemmas.{chain, chain_held, lowered, marked_named, unsynced_still, copies_kept}
use Rattle.paraid_rebuild.proofs.ReplacingLemmas.{away_marked, gone_settled, gone_stays, out_down, serving_then, two_marked}
use Rattle.paraid_base.specs.declared.state.Out.TheVariants.{Gone}
use Rattle.paraid_rack.specs.Told.{Ran}
use Rattle.paraid_record.specs.declared.meta.Setup.{Setup}
use Rattle.paraid_event.specs.Service.{Service, service_of}
use Rattle.paraid_event.specs.Steps.{StepsInEvent}
use Rattle.paraid_rebuild.proofs.ReplacementEventLemmas.{commit_steps, commit_told, gone_fresh, marked_told, same_service}
use Rattle.paraid_rebuild.proofs.LossLemmas.{LosesSteps, commit_lost_steps, lost_same, tells_by}
use Rattle.paraid_rebuild.proofs.stepping.commit_lost.Goals as goal
use Rattle.paraid_core.proofs.ErrLemmas.{none_done}
use Rattle.paraid_base.specs.Log.{epoch_limit}

pub returns-in_err-commit : goal.returns-in_err-commit
returns-in_err-commit g c =
    let a = c.args.core.now in
    let b = c.mark_out.new.self in
    let new = c.commit.new.self in
    let marks = c.mark_out.ensures in
    let setup : b.meta.setup ≡ a.meta.setup = ap (λ (m : Meta). m.setup) marks.meta in
    let out : named_out b.meta.out ≡ Some c.args.disk = ap (λ (m : Meta). named_out m.out) marks.meta in
    let down : core_down b ≡ core_down a = ap (λ (z : _). or_else (named_of z) (named_out b.meta.out)) marks.marks.store ∙ ap (or_else (named_of a.store)) (out ∙ sym (ap named_out c.requires.out)) in
    let away = away_marked g.R.Rack.slot a b c.args.disk marks.marks.store (ap named_out c.requires.out) out c.requires.absent in
    let same : b.meta ≡ a.meta = marks.meta ∙ gone_settled a.meta c.args.disk c.requires.serving.ready.in_range c.requires.out in
    let gone : b.meta.out ≡ Gone c.args.disk = ap (λ (m : Meta). m.out) same ∙ c.requires.out in
    let from = c.from_residual in
    record {
      serves = none_done _ from.result _ from.ensures.1;
      keeps = record {
        slots = c.commit.ensures.stays.losses.slots ∙ ap (λ (z : _). g.R.Rack.slot_count (store_rack z)) marks.marks.store;
        spared = subst (λ (z : _). OnlyLosesSlots (g.R.Rack.slot (store_rack z)) (g.R.Rack.slot (store_rack new.store))) marks.marks.store c.commit.ensures.stays.losses.spared;
        two =
            handed _ from.result _ from.ensures.1
            (two_marked g.R.Rack.slot a b new _ marks.marks.store down c.in_err-commit.ensures.stays.losses.two);
      };
      gone = none_done _ from.result _ from.ensures.1;
      table = c.commit.ensures.cells.table ∙ marks.marks.staged.table;
      moments = λ h lo.
          chain_held g.R.Rack.slot_count g.R.Rack.told a b (ap (λ (z : _). g.R.Rack.slot_count (store_rack z)) marks.marks.store) setup (ap named_of marks.marks.store)
          (CoreStandsFor g.R.Rack.slot_count a h lo) (CoreStandsFor g.R.Rack.slot_count b h lo) h lo _ (marks.stands h lo) (c.commit.ensures.held_since.moments_since away h lo);
      rests = none_done _ from.result _ from.ensures.1;
      in_event = record {
        event = none_done _ from.result _ from.ensures.1;
        loses =
            let away = away_marked g.R.Rack.slot a b c.args.disk marks.marks.store (ap named_out c.requires.out) (ap named_out gone) c.requires.absent in
            let down : core_down b ≡ named_out b.meta.out = ap (λ (z : _). or_else (named_of z) (named_out b.meta.out)) marks.marks.store ∙ ap (or_else (named_of a.store)) (ap (λ (m : Meta). named_out m.out) same)
            ∙ out_down (named_of a.store) (named_out a.meta.out) c.args.disk c.requires.serving.ready.one (ap named_out c.requires.out) ∙ sym (ap named_out gone) in
            handed (LosesSteps g.R.Rack.slot_count g.R.Rack.told a new 1) from.result _ from.ensures.1
            (λ samples served energy h lo.
            let k = service_of g.R.Rack.slot_count a samples served energy in
            let j = service_of g.R.Rack.slot_count b samples served energy in
            let equal : j ≡ k = same_service g.R.Rack.slot_count a b samples served energy a.meta (ap (λ (z : _). g.R.Rack.slot_count (store_rack z)) marks.marks.store) (ap named_of marks.marks.store) same marks.marks.staged.table marks.marks.staged.batch marks.marks.staged.copied in
            lost_same (g.R.Rack.told (store_rack a.store)) (g.R.Rack.told (store_rack new.store)) j h lo _ k 1 equal
            (commit_lost_steps (g.R.Rack.told (store_rack b.store)) (g.R.Rack.told (store_rack new.store)) j h lo _ (g.R.Rack.told (store_rack a.store)) (ap (λ (z : _). g.R.Rack.told (store_rack z)) marks.marks.store)
            c.commit.ensures.brings.calls (c.commit.ensures.held_since.moments_since away h lo) (c.commit.ensures.brings.whole h lo) (tells_by (g.R.Rack.told (store_rack b.store)) (g.R.Rack.told (store_rack new.store)) (core_down b) (named_out b.meta.out) _ down c.in_err-commit.ensures.stays.losses.tells)));
      };
    }

pub returns : goal.returns
returns g c =
    let a = c.args.core.now in
    let b = c.mark_out.new.self in
    let new = c.commit.new.self in
    let marks = c.mark_out.ensures in
    let setup : b.meta.setup ≡ a.meta.setup = ap (λ (m : Meta). m.setup) marks.meta in
    let out : named_out b.meta.out ≡ Some c.args.disk = ap (λ (m : Meta). named_out m.out) marks.meta in
    let done = c.in_ok-commit.ensures in
    let away = away_marked g.R.Rack.slot a b c.args.disk marks.marks.store (ap named_out c.requires.out) out c.requires.absent in
    let same : b.meta ≡ a.meta = marks.meta ∙ gone_settled a.meta c.args.disk c.requires.serving.ready.in_range c.requires.out in
    let gone : b.meta.out ≡ Gone c.args.disk = ap (λ (m : Meta). m.out) same ∙ c.requires.out in
    let new_setup : new.meta.setup ≡ b.meta.setup = c.in_ok-commit.ensures.stays.setup in
    let ready = c.in_ok-commit.ensures.stays.ready in
    let lost = c.in_ok-commit.ensures.stays.losses.marks in
    record {
      serves = record {
        serving =
            serving_then g.R.Rack.slot_count g.R.Rack.slot a new c.requires.serving done.stays.ready (done.serves (marks.serves c.requires.serving.serves))
            (done.unsynced (unsynced_still g.R.Rack.slot_count g.R.Rack.slot a b c.requires.serving setup (λ d is. ap (λ (m : Meta). gone_out m.out) marks.meta ∙ sym (ap named_out c.requires.out) ∙ gone_named a.meta.out d is) marks.marks.store marks.marks.staged.copied)) (done.cells.draft ∙ marks.marks.staged.draft) (done.stays.copied ∙ marks.marks.staged.copied) (done.stays.setup ∙ setup)
            (λ d is. marked_named _ new.meta done.meta.meta d (out ∙ sym (ap named_out c.requires.out) ∙ is))
            (λ d not there. c.commit.ensures.stays.losses.spared.size d there ∙ ap (λ (z : _). (g.R.Rack.slot (store_rack z) d).size) marks.marks.store);
        nothing = c.in_ok-commit.ensures.nothing;
        absent = c.in_ok-commit.ensures.meta.absent;
        named = c.in_ok-commit.ensures.meta.named ∙ out;
      };
      keeps = record {
        slots = c.commit.ensures.stays.losses.slots ∙ ap (λ (z : _). g.R.Rack.slot_count (store_rack z)) marks.marks.store;
        spared = subst (λ (z : _). OnlyLosesSlots (g.R.Rack.slot (store_rack z)) (g.R.Rack.slot (store_rack new.store))) marks.marks.store c.commit.ensures.stays.losses.spared;
        two = tt;
      };
      gone = gone_stays (record a.meta { epoch = a.meta.epoch + 1 }) (record b.meta { epoch = b.meta.epoch + 1 }) new.meta c.args.disk (ap (λ (m : Meta). record m { epoch = m.epoch + 1 }) marks.meta) c.in_ok-commit.ensures.meta.meta;
      table = c.commit.ensures.cells.table ∙ marks.marks.staged.table;
      moments = λ h lo.
          chain_held g.R.Rack.slot_count g.R.Rack.told a b (ap (λ (z : _). g.R.Rack.slot_count (store_rack z)) marks.marks.store) setup (ap named_of marks.marks.store)
          (CoreStandsFor g.R.Rack.slot_count a h lo) (CoreStandsFor g.R.Rack.slot_count b h lo) h lo _ (marks.stands h lo) (c.commit.ensures.held_since.moments_since away h lo);
      rests = λ h lo.
          chain g.R.Rack.slot_count g.R.Rack.told a b (ap (λ (z : _). g.R.Rack.slot_count (store_rack z)) marks.marks.store) setup (ap named_of marks.marks.store)
          (CoreStandsFor g.R.Rack.slot_count a h lo) (CoreStandsFor g.R.Rack.slot_count b h lo) (RestsInShift g.R.Rack.slot_count new h lo) h lo _ (marks.stands h lo) (lowered g.R.Rack.slot_count b new (IsCoreHeldSinceCommit g.R.Rack.slot_count b h lo) h lo _ _ (c.in_ok-commit.ensures.held_since.filled_since away h lo));
      in_event = record {
        event = λ samples served energy h lo.
            let away = away_marked g.R.Rack.slot a b c.args.disk marks.marks.store (ap named_out c.requires.out) (ap named_out gone) c.requires.absent in
            let k = service_of g.R.Rack.slot_count a samples served energy in
            let j = service_of g.R.Rack.slot_count b samples served energy in
            let k_then = service_of g.R.Rack.slot_count new samples served energy in
            let equal : j ≡ k = same_service g.R.Rack.slot_count a b samples served energy a.meta (ap (λ (z : _). g.R.Rack.slot_count (store_rack z)) marks.marks.store) (ap named_of marks.marks.store) same marks.marks.staged.table marks.marks.staged.batch marks.marks.staged.copied in
            subst (λ (y : Service). Ran (g.R.Rack.told (store_rack a.store)) (g.R.Rack.told (store_rack new.store)) (StepsInEvent y k_then h lo 1)) equal
            (subst (λ (z : _). Ran (g.R.Rack.told (store_rack z)) (g.R.Rack.told (store_rack new.store)) (StepsInEvent j k_then h lo 1)) marks.marks.store
            (commit_steps (g.R.Rack.told (store_rack b.store)) (g.R.Rack.told (store_rack new.store)) j k_then h lo c.commit.ensures.stays.losses.slots
            (commit_told (g.R.Rack.told (store_rack b.store)) (g.R.Rack.told (store_rack new.store)) j k_then h lo c.commit.ensures.brings.calls (c.in_ok-commit.ensures.held_since.since away h lo) (c.commit.ensures.brings.whole h lo)
            (marked_told (g.R.Rack.told (store_rack new.store)) (g.R.Rack.slot (store_rack b.store)) (g.R.Rack.slot (store_rack new.store)) (g.met.R.Rack.agrees (store_rack new.store)) b.meta new.meta lost
            (λ x low absent. ready.absent x (subst (λ (z : Setup). x < z.geometry.disks) (sym new_setup) low) absent)
            (gone_fresh (g.R.Rack.slot (store_rack b.store)) (g.R.Rack.slot (store_rack new.store)) b.meta new.meta lost c.args.disk gone)))));
        loses = tt;
      };
    }

pub commit-requires : goal.commit-requires
commit-requires g c =
    let q = c.requires in
    let a = c.args.core.now in
    let b = c.mark_out.new.self in
    let marks = c.mark_out.ensures in
    record {
      ready = marks.marks.ready;
      committable = record {
        epoch = subst (λ (e : ℕ). e < epoch_limit) (sym (ap (λ (m : Meta). m.epoch) marks.meta)) q.epoch;
        copies_synced = copies_kept a b (ap (λ (m : Meta). m.setup) marks.meta) marks.marks.staged.copied q.serving.copies_synced;
      };
    }
