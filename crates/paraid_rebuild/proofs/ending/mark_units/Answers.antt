use Rattle.std.specs.Prelude.{ℕ, ◌+◌, Option, Some, None, true, length, ◌<◌}
use Rattle.std.proofs.Common.{◌≡◌, ◌∙◌, sym, ap, subst, inl, ℕ}
use Rattle.paraid_base.specs.declared.state.Out.TheVariants.{Fresh}
use Rattle.paraid_base.specs.States.{gone_out, rebuilt_count}
use Rattle.paraid_base.specs.Told.{HasRisen}
use Rattle.paraid_image.specs.Mark.{meta_after_loss}
use Rattle.paraid_image.specs.Out.{named_out, or_else}
use Rattle.paraid_record.specs.declared.meta.Meta.{Meta}
use Rattle.paraid_txn.specs.Losses.{OnlyLosesSlots}
use Rattle.paraid_txn.specs.Stores.{named_of, store_rack}
use Rattle.paraid_core.specs.Cores.{CoreStandsFor, IsCoreHeldSinceCommit, core_down}
use Rattle.paraid_core.specs.Steps.{IsNamedOrAbsent}
use Rattle.paraid_core.specs.Units.{UnitsRebuilt}
use Rattle.paraid_core.proofs.AfterLemmas.{handed}
use Rattle.paraid_event.specs.CoreServing.{RestsInShift}
use Rattle.paraid_event.proofs.CoreServingLemmas.{chain, chain_held, lowered, marked_named, unsynced_still, copies_kept}
use Rattle.paraid_rebuild.proofs.ReplacingLemmas.{back_well, gone_failed, marked_back, marked_lost, serving_then, two_marked}
use Rattle.paraid_moves.specs.MoveMetas.{meta_with_out}
use Rattle.paraid_rack.specs.Disks.{is_present}
use Rattle.paraid_rack.specs.Told.{Ran}
use Rattle.paraid_record.specs.declared.meta.Setup.{Setup}
use Rattle.paraid_event.specs.Service.{service_of}
use Rattle.paraid_event.specs.Steps.{ServesMarked}
use Rattle.paraid_rebuild.proofs.ReplacementEventLemmas.{commit_told, fresh_stays, marked_told, named_there, same_service, still_told}
use Rattle.paraid_rebuild.proofs.StepEventLemmas.{marked_serves, units_marked}
use Rattle.paraid_rebuild.proofs.MovedLemmas.{gone_away}
use Rattle.paraid_rebuild.proofs.LossLemmas.{LosesMark, commit_lost, tells_by}
use Rattle.paraid_rebuild.proofs.ResultLemmas.{back_is, gone_is}
use Rattle.paraid_rebuild.proofs.ending.mark_units.Goals as goal
use Rattle.paraid_core.proofs.ErrLemmas.{none_done, none_done_as}
use Rattle.paraid_base.specs.Log.{epoch_limit}

pub returns-in_err-commit : goal.returns-in_err-commit
returns-in_err-commit g c =
    let a = c.args.core.now in
    let b = c.mark_rebuilt.new.self in
    let new = c.commit.new.self in
    let marks = c.mark_rebuilt.ensures in
    let was : named_out a.meta.out ≡ Some c.args.disk = ap named_out c.requires.can.fresh in
    let is_meta = marks.meta c.args.disk was in
    let out : b.meta.out ≡ Fresh c.args.disk c.args.end = ap (λ (m : Meta). m.out) is_meta in
    let setup : b.meta.setup ≡ a.meta.setup = ap (λ (m : Meta). m.setup) is_meta in
    let named : named_of b.store ≡ Some c.args.disk = ap named_of marks.marks.store ∙ c.requires.can.named in
    let down : core_down b ≡ core_down a = ap (λ (o : Option ℕ). or_else o (named_out b.meta.out)) named ∙ sym (ap (λ (o : Option ℕ). or_else o (named_out a.meta.out)) c.requires.can.named) in
    let away : IsNamedOrAbsent g.R.Rack.slot b = (λ x is. inl (named ∙ sym (ap named_out out) ∙ is)) in
    let from = c.from_residual in
    record {
      serves = none_done _ from.result _ from.ensures.1;
      keeps = record {
        slots = c.commit.ensures.stays.losses.slots ∙ ap (λ (z : _). g.R.Rack.slot_count (store_rack z)) marks.marks.store;
        spared = subst (λ (z : _). OnlyLosesSlots (g.R.Rack.slot (store_rack z)) (g.R.Rack.slot (store_rack new.store))) marks.marks.store c.commit.ensures.stays.losses.spared;
        two =
            handed _ from.result _ from.ensures.1
            (two_marked g.R.Rack.slot a b new _ marks.marks.store down c.in_err-commit.ensures.stays.losses.two);
      };
      marked = λ is. none_done_as _ from.result _ _ from.ensures.1 is;
      epoch = none_done _ from.result _ from.ensures.1;
      lost = λ is. none_done_as _ from.result _ _ from.ensures.1 is;
      table = c.commit.ensures.cells.table ∙ marks.marks.staged.table;
      moments = λ h lo.
          chain_held g.R.Rack.slot_count g.R.Rack.told a b (ap (λ (z : _). g.R.Rack.slot_count (store_rack z)) marks.marks.store) setup (ap named_of marks.marks.store)
          (UnitsRebuilt g.R.Rack.slot_count a h lo c.args.end) (CoreStandsFor g.R.Rack.slot_count b h lo) h lo _ (marks.stands h lo) (c.commit.ensures.held_since.moments_since away h lo);
      rests = none_done _ from.result _ from.ensures.1;
      event = none_done _ from.result _ from.ensures.1;
      loses =
          let down : core_down b ≡ named_out b.meta.out = ap (λ (o : Option ℕ). or_else o (named_out b.meta.out)) named ∙ sym (ap named_out out) in
          handed (LosesMark g.R.Rack.slot_count g.R.Rack.told a new c.args.end) from.result _ from.ensures.1
          (λ samples served energy h lo.
          let k = service_of g.R.Rack.slot_count a samples served energy in
          let j = service_of g.R.Rack.slot_count b samples served energy in (
            j,
            record {
              mark = units_marked k j c.args.disk (rebuilt_count a.meta.out) c.args.end
                  (same_service g.R.Rack.slot_count a b samples served energy (meta_with_out a.meta (Fresh c.args.disk c.args.end)) (ap (λ (z : _). g.R.Rack.slot_count (store_rack z)) marks.marks.store) (ap named_of marks.marks.store) is_meta marks.marks.staged.table marks.marks.staged.batch marks.marks.staged.copied)
                  c.requires.can.fresh c.requires.can.serving.ready.in_range;
              stands = λ t tells copied. still_told (IsCoreHeldSinceCommit g.R.Rack.slot_count a h lo) (UnitsRebuilt g.R.Rack.slot_count a h lo c.args.end) (CoreStandsFor g.R.Rack.slot_count b h lo) (g.R.Rack.told (store_rack a.store)) (g.R.Rack.told (store_rack b.store))
                  (ap (λ (z : _). g.R.Rack.told (store_rack z)) marks.marks.store) (marks.stands h lo) t tells copied;
              ran = commit_lost (g.R.Rack.told (store_rack b.store)) (g.R.Rack.told (store_rack new.store)) j h lo _ (g.R.Rack.told (store_rack a.store)) (ap (λ (z : _). g.R.Rack.told (store_rack z)) marks.marks.store)
                  c.commit.ensures.brings.calls (c.commit.ensures.held_since.moments_since away h lo) (c.commit.ensures.brings.whole h lo) (tells_by (g.R.Rack.told (store_rack b.store)) (g.R.Rack.told (store_rack new.store)) (core_down b) (named_out b.meta.out) _ down c.in_err-commit.ensures.stays.losses.tells);
            },
          ));
    }

pub returns : goal.returns
returns g c =
    let a = c.args.core.now in
    let b = c.mark_rebuilt.new.self in
    let new = c.commit.new.self in
    let marks = c.mark_rebuilt.ensures in
    let was : named_out a.meta.out ≡ Some c.args.disk = ap named_out c.requires.can.fresh in
    let is_meta = marks.meta c.args.disk was in
    let out : b.meta.out ≡ Fresh c.args.disk c.args.end = ap (λ (m : Meta). m.out) is_meta in
    let setup : b.meta.setup ≡ a.meta.setup = ap (λ (m : Meta). m.setup) is_meta in
    let named : named_of b.store ≡ Some c.args.disk = ap named_of marks.marks.store ∙ c.requires.can.named in
    let done = c.in_ok-commit.ensures in
    let away : IsNamedOrAbsent g.R.Rack.slot b = (λ x is. inl (named ∙ sym (ap named_out out) ∙ is)) in
    let new_setup : new.meta.setup ≡ b.meta.setup = c.in_ok-commit.ensures.stays.setup in
    let ready = c.in_ok-commit.ensures.stays.ready in
    let lost = c.in_ok-commit.ensures.stays.losses.marks in
    let there : is_present (g.R.Rack.slot (store_rack b.store) c.args.disk).power ≡ true = ap (λ (z : _). is_present (g.R.Rack.slot (store_rack z) c.args.disk).power) marks.marks.store ∙ ap is_present c.requires.can.spins in
    record {
      serves = record {
        serving =
            serving_then g.R.Rack.slot_count g.R.Rack.slot a new c.requires.can.serving done.stays.ready (done.serves (marks.serves c.requires.can.serving.serves))
            (done.unsynced (unsynced_still g.R.Rack.slot_count g.R.Rack.slot a b c.requires.can.serving setup (λ d is. let z : None ≡ Some d = sym (ap gone_out c.requires.can.fresh) ∙ is in cc) marks.marks.store marks.marks.staged.copied)) (done.cells.draft ∙ marks.marks.staged.draft) (done.stays.copied ∙ marks.marks.staged.copied) (done.stays.setup ∙ setup)
            (λ d is. marked_named _ new.meta done.meta.meta d (ap named_out out ∙ sym was ∙ is))
            (λ d not there. c.commit.ensures.stays.losses.spared.size d there ∙ ap (λ (z : _). (g.R.Rack.slot (store_rack z) d).size) marks.marks.store);
        nothing = c.in_ok-commit.ensures.nothing;
        absent = c.in_ok-commit.ensures.meta.absent;
        named = c.in_ok-commit.ensures.meta.named ∙ ap named_out out;
      };
      keeps = record {
        slots = c.commit.ensures.stays.losses.slots ∙ ap (λ (z : _). g.R.Rack.slot_count (store_rack z)) marks.marks.store;
        spared = subst (λ (z : _). OnlyLosesSlots (g.R.Rack.slot (store_rack z)) (g.R.Rack.slot (store_rack new.store))) marks.marks.store c.commit.ensures.stays.losses.spared;
        two = tt;
      };
      marked = λ is. record {
        meta = marked_back _ new.meta c.in_ok-commit.ensures.meta.meta (c.is_gone.ensures.back (back_is _ is)) ∙ ap (λ (m : Meta). record m { epoch = m.epoch + 1 }) is_meta;
        spins = (back_well (g.R.Rack.slot (store_rack b.store)) (g.R.Rack.slot (store_rack new.store)) b.meta new.meta c.args.disk c.in_ok-commit.ensures.stays.losses.marks (c.is_gone.ensures.back (back_is _ is))).0
            ∙ ap (λ (z : _). (g.R.Rack.slot (store_rack z) c.args.disk).power) marks.marks.store ∙ c.requires.can.spins;
      };
      epoch = c.in_ok-commit.ensures.meta.epoch ∙ ap (λ (m : Meta). m.epoch + 1) is_meta;
      lost = λ is. record {
        gone = marked_lost _ new.meta c.args.disk (ap named_out out) (ap gone_out out) c.in_ok-commit.ensures.meta.meta (c.is_gone.ensures.gone (gone_is _ is))
            ∙ ap (λ (m : Meta). meta_after_loss (record m { epoch = m.epoch + 1 }) c.args.disk) is_meta;
        failed = subst (λ (z : _). HasRisen (g.R.Rack.slot (store_rack z) c.args.disk).faults (g.R.Rack.slot (store_rack new.store) c.args.disk).faults) marks.marks.store
            (gone_failed (g.R.Rack.slot (store_rack b.store)) (g.R.Rack.slot (store_rack new.store)) b.meta new.meta c.args.disk (ap named_out out) (ap gone_out out) c.in_ok-commit.ensures.stays.losses.marks (c.is_gone.ensures.gone (gone_is _ is)));
        away = let out : b.meta.out ≡ Fresh c.args.disk c.args.end = ap (λ (m : Meta). m.out) (c.mark_rebuilt.ensures.meta c.args.disk was) in
            gone_away (g.R.Rack.slot (store_rack b.store)) (g.R.Rack.slot (store_rack new.store)) b.meta new.meta c.args.disk (ap named_out out) (ap gone_out out) c.in_ok-commit.ensures.stays.losses.marks (c.is_gone.ensures.gone (gone_is _ is));
      };
      table = c.commit.ensures.cells.table ∙ marks.marks.staged.table;
      moments = λ h lo.
          chain_held g.R.Rack.slot_count g.R.Rack.told a b (ap (λ (z : _). g.R.Rack.slot_count (store_rack z)) marks.marks.store) setup (ap named_of marks.marks.store)
          (UnitsRebuilt g.R.Rack.slot_count a h lo c.args.end) (CoreStandsFor g.R.Rack.slot_count b h lo) h lo _ (marks.stands h lo) (c.commit.ensures.held_since.moments_since away h lo);
      rests = λ h lo.
          chain g.R.Rack.slot_count g.R.Rack.told a b (ap (λ (z : _). g.R.Rack.slot_count (store_rack z)) marks.marks.store) setup (ap named_of marks.marks.store)
          (UnitsRebuilt g.R.Rack.slot_count a h lo c.args.end) (CoreStandsFor g.R.Rack.slot_count b h lo) (RestsInShift g.R.Rack.slot_count new h lo) h lo _ (marks.stands h lo) (lowered g.R.Rack.slot_count b new (IsCoreHeldSinceCommit g.R.Rack.slot_count b h lo) h lo _ _ (c.in_ok-commit.ensures.held_since.filled_since away h lo));
      event = λ samples served energy h lo.
          let k = service_of g.R.Rack.slot_count a samples served energy in
          let j = service_of g.R.Rack.slot_count b samples served energy in
          let k_then = service_of g.R.Rack.slot_count new samples served energy in (
            j,
            record {
              mark = units_marked k j c.args.disk (rebuilt_count a.meta.out) c.args.end
                  (same_service g.R.Rack.slot_count a b samples served energy (meta_with_out a.meta (Fresh c.args.disk c.args.end)) (ap (λ (z : _). g.R.Rack.slot_count (store_rack z)) marks.marks.store) (ap named_of marks.marks.store) is_meta marks.marks.staged.table marks.marks.staged.batch marks.marks.staged.copied)
                  c.requires.can.fresh c.requires.can.serving.ready.in_range;
              stands = λ t tells copied. still_told (IsCoreHeldSinceCommit g.R.Rack.slot_count a h lo) (UnitsRebuilt g.R.Rack.slot_count a h lo c.args.end) (CoreStandsFor g.R.Rack.slot_count b h lo) (g.R.Rack.told (store_rack a.store)) (g.R.Rack.told (store_rack b.store))
                  (ap (λ (z : _). g.R.Rack.told (store_rack z)) marks.marks.store) (marks.stands h lo) t tells copied;
              ran = subst (λ (z : _). Ran (g.R.Rack.told (store_rack z)) (g.R.Rack.told (store_rack new.store)) (ServesMarked j k_then h lo (length h))) marks.marks.store
                  (marked_serves (g.R.Rack.told (store_rack b.store)) (g.R.Rack.told (store_rack new.store)) j k_then h lo
                  (commit_told (g.R.Rack.told (store_rack b.store)) (g.R.Rack.told (store_rack new.store)) j k_then h lo c.commit.ensures.brings.calls (c.in_ok-commit.ensures.held_since.since away h lo) (c.commit.ensures.brings.whole h lo)
                  (marked_told (g.R.Rack.told (store_rack new.store)) (g.R.Rack.slot (store_rack b.store)) (g.R.Rack.slot (store_rack new.store)) (g.met.R.Rack.agrees (store_rack new.store)) b.meta new.meta lost
                  (λ x low absent. ready.absent x (subst (λ (z : Setup). x < z.geometry.disks) (sym new_setup) low) absent)
                  (fresh_stays (g.R.Rack.slot (store_rack b.store)) (g.R.Rack.slot (store_rack new.store)) b.meta new.meta lost
                  (named_there (g.R.Rack.slot (store_rack b.store)) b.meta c.args.disk c.args.end out there)))));
              epoch = c.in_ok-commit.ensures.meta.epoch;
              slots = c.commit.ensures.stays.losses.slots;
              gear = ap (λ (m : Meta). m.gear) is_meta;
              phase = ap (λ (m : Meta). m.phase) is_meta;
            },
          );
      loses = tt;
    }

pub commit-requires : goal.commit-requires
commit-requires g c =
    let q = c.requires in
    let a = c.args.core.now in
    let b = c.mark_rebuilt.new.self in
    let marks = c.mark_rebuilt.ensures in
    let is_meta = marks.meta c.args.disk (ap named_out q.can.fresh) in
    record {
      ready = marks.marks.ready;
      committable = record {
        epoch = subst (λ (e : ℕ). e < epoch_limit) (sym (ap (λ (m : Meta). m.epoch) is_meta)) q.epoch;
        copies_synced = copies_kept a b (ap (λ (m : Meta). m.setup) is_meta) marks.marks.staged.copied q.can.serving.copies_synced;
      };
    }
