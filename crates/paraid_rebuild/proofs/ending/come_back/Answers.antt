use Rattle.std.specs.Prelude.{ℕ, ◌+◌, Option, Some, None, ◌<◌}
use Rattle.std.proofs.Common.{◌≡◌, ◌∙◌, sym, ap, subst, ℕ}
use Rattle.paraid_base.specs.declared.state.Out.TheVariants.{No, Fresh}
use Rattle.paraid_base.specs.States.{gone_out, rebuilt_count}
use Rattle.paraid_base.specs.Told.{HasRisen}
use Rattle.paraid_image.specs.Mark.{meta_after_loss}
use Rattle.paraid_image.specs.Out.{named_out, or_else}
use Rattle.paraid_record.specs.declared.meta.Meta.{Meta}
use Rattle.paraid_record.specs.Range.{rebuild_units}
use Rattle.paraid_txn.specs.Losses.{OnlyLosesSlots}
use Rattle.paraid_txn.specs.Stores.{named_of, store_rack}
use Rattle.paraid_core.specs.Cores.{CoreStandsFor, IsCoreHeldSinceCommit, core_down}
use Rattle.paraid_core.specs.Units.{UnitsRebuilt}
use Rattle.paraid_core.proofs.AfterLemmas.{handed}
use Rattle.paraid_event.specs.CoreServing.{RestsInShift}
use Rattle.paraid_event.proofs.CoreServingLemmas.{chain, chain_held, lowered, unsynced_still, copies_kept}
use Rattle.paraid_rebuild.proofs.ReplacingLemmas.{all_there, alone_away, alone_failed, back_well, marked_alone, marked_back, serving_again, two_marked}
use Rattle.paraid_moves.specs.MoveMetas.{meta_with_out}
use Rattle.paraid_record.specs.declared.meta.Setup.{Setup}
use Rattle.paraid_event.specs.RebuildEnds.{CommitsRejoined}
use Rattle.paraid_event.specs.Service.{service_of}
use Rattle.paraid_rebuild.proofs.ReplacementEventLemmas.{commit_told, fresh_stays, marked_told, same_service, still_told}
use Rattle.paraid_rebuild.proofs.LossLemmas.{LosesBack, join_lost, tells_by}
use Rattle.paraid_rebuild.proofs.ResultLemmas.{back_is, gone_is}
use Rattle.paraid_rebuild.proofs.ending.come_back.Goals as goal
use Rattle.paraid_core.proofs.ErrLemmas.{none_done, none_done_as}
use Rattle.paraid_base.specs.Log.{epoch_limit}

pub rejoin-requires-clause-there : goal.rejoin-requires-clause-there
rejoin-requires-clause-there g c d low = all_there g.R.Rack.slot_count g.R.Rack.slot c.args.core.now c.args.disk c.requires.can.serving c.requires.can.fresh c.requires.can.spins d low

pub returns-in_err-commit : goal.returns-in_err-commit
returns-in_err-commit g c =
    let a = c.args.core.now in
    let b = c.rejoin.new.self in
    let new = c.commit.new.self in
    let marks = c.rejoin.ensures in
    let setup : b.meta.setup ≡ a.meta.setup = ap (λ (m : Meta). m.setup) marks.meta in
    let out : b.meta.out ≡ No = ap (λ (m : Meta). m.out) marks.meta in
    let named : named_of b.store ≡ Some c.args.disk = ap named_of marks.marks.store ∙ c.requires.can.named in
    let down : core_down b ≡ core_down a = ap (λ (o : Option ℕ). or_else o (named_out b.meta.out)) named ∙ sym (ap (λ (o : Option ℕ). or_else o (named_out a.meta.out)) c.requires.can.named) in
    let from = c.from_residual in
    record {
      serves = none_done _ from.result _ from.ensures.1;
      keeps = record {
        slots = c.commit.ensures.stays.losses.slots ∙ ap (λ (z : _). g.R.Rack.slot_count (store_rack z)) marks.marks.store;
        spared = subst (λ (z : _). OnlyLosesSlots (g.R.Rack.slot (store_rack z)) (g.R.Rack.slot (store_rack new.store))) marks.marks.store c.commit.ensures.stays.losses.spared;
        two =
            handed _ from.result _ from.ensures.1
            (two_marked g.R.Rack.slot a b new _ marks.marks.store down c.in_err-commit.ensures.stays.losses.two);
      };
      epoch = none_done _ from.result _ from.ensures.1;
      back = λ is. none_done_as _ from.result _ _ from.ensures.1 is;
      lost = λ is. none_done_as _ from.result _ _ from.ensures.1 is;
      table = c.commit.ensures.cells.table ∙ marks.marks.staged.table;
      moments = λ h lo.
          chain_held g.R.Rack.slot_count g.R.Rack.told a b (ap (λ (z : _). g.R.Rack.slot_count (store_rack z)) marks.marks.store) setup (ap named_of marks.marks.store)
          (UnitsRebuilt g.R.Rack.slot_count a h lo (rebuild_units a.meta.setup.geometry a.meta.gear c.args.disk)) (CoreStandsFor g.R.Rack.slot_count b h lo) h lo _ (marks.stands c.args.disk (rebuilt_count a.meta.out) c.requires.can.fresh h lo) (c.commit.ensures.held_since.moments_since marks.absent h lo);
      rests = none_done _ from.result _ from.ensures.1;
      event = none_done _ from.result _ from.ensures.1;
      loses =
          let down : core_down b ≡ Some c.args.disk = ap (λ (o : Option ℕ). or_else o (named_out b.meta.out)) named in
          handed (LosesBack g.R.Rack.slot_count g.R.Rack.told a new c.args.disk) from.result _ from.ensures.1
          (λ samples served energy h lo.
          let j = service_of g.R.Rack.slot_count b samples served energy in (
            j,
            record {
              mark = same_service g.R.Rack.slot_count a b samples served energy (meta_with_out a.meta No) (ap (λ (z : _). g.R.Rack.slot_count (store_rack z)) marks.marks.store) (ap named_of marks.marks.store) marks.meta marks.marks.staged.table marks.marks.staged.batch marks.marks.staged.copied;
              stands = λ t tells copied. still_told (IsCoreHeldSinceCommit g.R.Rack.slot_count a h lo) (UnitsRebuilt g.R.Rack.slot_count a h lo (rebuild_units a.meta.setup.geometry a.meta.gear c.args.disk)) (CoreStandsFor g.R.Rack.slot_count b h lo)
                  (g.R.Rack.told (store_rack a.store)) (g.R.Rack.told (store_rack b.store)) (ap (λ (z : _). g.R.Rack.told (store_rack z)) marks.marks.store) (marks.stands c.args.disk (rebuilt_count a.meta.out) c.requires.can.fresh h lo) t tells copied;
              ran = join_lost (g.R.Rack.told (store_rack b.store)) (g.R.Rack.told (store_rack new.store)) j h lo _ (g.R.Rack.told (store_rack a.store)) c.args.disk (ap (λ (z : _). g.R.Rack.told (store_rack z)) marks.marks.store)
                  c.commit.ensures.brings.calls (c.commit.ensures.held_since.moments_since marks.absent h lo) (c.commit.ensures.brings.whole h lo) (tells_by (g.R.Rack.told (store_rack b.store)) (g.R.Rack.told (store_rack new.store)) (core_down b) (Some c.args.disk) _ down c.in_err-commit.ensures.stays.losses.tells);
            },
          ));
    }

pub returns : goal.returns
returns g c =
    let a = c.args.core.now in
    let b = c.rejoin.new.self in
    let new = c.commit.new.self in
    let marks = c.rejoin.ensures in
    let setup : b.meta.setup ≡ a.meta.setup = ap (λ (m : Meta). m.setup) marks.meta in
    let out : b.meta.out ≡ No = ap (λ (m : Meta). m.out) marks.meta in
    let named : named_of b.store ≡ Some c.args.disk = ap named_of marks.marks.store ∙ c.requires.can.named in
    let done = c.in_ok-commit.ensures in
    let new_setup : new.meta.setup ≡ b.meta.setup = c.in_ok-commit.ensures.stays.setup in
    let ready = c.in_ok-commit.ensures.stays.ready in
    let lost = c.in_ok-commit.ensures.stays.losses.marks in
    record {
      serves = record {
        serving =
            serving_again g.R.Rack.slot_count g.R.Rack.slot a c.args.disk c.requires.can.serving c.requires.can.fresh c.requires.can.spins new done.stays.ready (done.serves_again (marks.up c.requires.can.serving.serves))
            (done.unsynced (unsynced_still g.R.Rack.slot_count g.R.Rack.slot a b c.requires.can.serving setup (λ d is. let z : None ≡ Some d = sym (ap gone_out c.requires.can.fresh) ∙ is in cc) marks.marks.store marks.marks.staged.copied)) (done.cells.draft ∙ marks.marks.staged.draft) (done.stays.copied ∙ marks.marks.staged.copied) (done.stays.setup ∙ setup)
            (subst (λ (z : _). OnlyLosesSlots (g.R.Rack.slot (store_rack z)) (g.R.Rack.slot (store_rack new.store))) marks.marks.store c.commit.ensures.stays.losses.spared);
        nothing = c.in_ok-commit.ensures.nothing;
        absent = c.in_ok-commit.ensures.meta.absent;
        named = c.in_ok-commit.ensures.meta.named ∙ ap named_out out;
      };
      keeps = record {
        slots = c.commit.ensures.stays.losses.slots ∙ ap (λ (z : _). g.R.Rack.slot_count (store_rack z)) marks.marks.store;
        spared = subst (λ (z : _). OnlyLosesSlots (g.R.Rack.slot (store_rack z)) (g.R.Rack.slot (store_rack new.store))) marks.marks.store c.commit.ensures.stays.losses.spared;
        two = tt;
      };
      epoch = c.in_ok-commit.ensures.meta.epoch ∙ ap (λ (m : Meta). m.epoch + 1) marks.meta;
      back = λ is. record {
        meta = marked_back _ new.meta c.in_ok-commit.ensures.meta.meta (c.is_gone.ensures.back (back_is _ is)) ∙ ap (λ (m : Meta). record m { epoch = m.epoch + 1 }) marks.meta;
        spins = (back_well (g.R.Rack.slot (store_rack b.store)) (g.R.Rack.slot (store_rack new.store)) b.meta new.meta c.args.disk c.in_ok-commit.ensures.stays.losses.marks (c.is_gone.ensures.back (back_is _ is))).0
            ∙ ap (λ (z : _). (g.R.Rack.slot (store_rack z) c.args.disk).power) marks.marks.store ∙ c.requires.can.spins;
      };
      lost = λ is. record {
        gone = let alone = (λ (d : ℕ) (is : named_out new.meta.out ≡ Some d). sym (c.in_ok-commit.ensures.meta.alone c.args.disk d named is)) in
            marked_alone _ new.meta c.args.disk (ap gone_out out) c.in_ok-commit.ensures.meta.meta alone (c.is_gone.ensures.gone (gone_is _ is))
            ∙ ap (λ (m : Meta). meta_after_loss (record m { epoch = m.epoch + 1 }) c.args.disk) marks.meta;
        failed = let alone = (λ (d : ℕ) (is : named_out new.meta.out ≡ Some d). sym (c.in_ok-commit.ensures.meta.alone c.args.disk d named is)) in
            subst (λ (z : _). HasRisen (g.R.Rack.slot (store_rack z) c.args.disk).faults (g.R.Rack.slot (store_rack new.store) c.args.disk).faults) marks.marks.store
            (alone_failed (g.R.Rack.slot (store_rack b.store)) (g.R.Rack.slot (store_rack new.store)) b.meta new.meta c.args.disk (ap gone_out out) c.in_ok-commit.ensures.stays.losses.marks alone (c.is_gone.ensures.gone (gone_is _ is)));
        away = let alone = (λ (d : ℕ) (is : named_out new.meta.out ≡ Some d). sym (c.in_ok-commit.ensures.meta.alone c.args.disk d named is)) in
            alone_away (g.R.Rack.slot (store_rack b.store)) (g.R.Rack.slot (store_rack new.store)) b.meta new.meta c.args.disk (ap gone_out out) c.in_ok-commit.ensures.stays.losses.marks alone (c.is_gone.ensures.gone (gone_is _ is));
      };
      table = c.commit.ensures.cells.table ∙ marks.marks.staged.table;
      moments = λ h lo.
          chain_held g.R.Rack.slot_count g.R.Rack.told a b (ap (λ (z : _). g.R.Rack.slot_count (store_rack z)) marks.marks.store) setup (ap named_of marks.marks.store)
          (UnitsRebuilt g.R.Rack.slot_count a h lo (rebuild_units a.meta.setup.geometry a.meta.gear c.args.disk)) (CoreStandsFor g.R.Rack.slot_count b h lo) h lo _ (marks.stands c.args.disk (rebuilt_count a.meta.out) c.requires.can.fresh h lo) (c.commit.ensures.held_since.moments_since marks.absent h lo);
      rests = λ h lo.
          chain g.R.Rack.slot_count g.R.Rack.told a b (ap (λ (z : _). g.R.Rack.slot_count (store_rack z)) marks.marks.store) setup (ap named_of marks.marks.store)
          (UnitsRebuilt g.R.Rack.slot_count a h lo (rebuild_units a.meta.setup.geometry a.meta.gear c.args.disk)) (CoreStandsFor g.R.Rack.slot_count b h lo) (RestsInShift g.R.Rack.slot_count new h lo) h lo _ (marks.stands c.args.disk (rebuilt_count a.meta.out) c.requires.can.fresh h lo) (lowered g.R.Rack.slot_count b new (IsCoreHeldSinceCommit g.R.Rack.slot_count b h lo) h lo _ _ (c.in_ok-commit.ensures.held_since.filled_since marks.absent h lo));
      event = λ samples served energy h lo.
          let j = service_of g.R.Rack.slot_count b samples served energy in
          let k_then = service_of g.R.Rack.slot_count new samples served energy in (
            j,
            record {
              mark = same_service g.R.Rack.slot_count a b samples served energy (meta_with_out a.meta No) (ap (λ (z : _). g.R.Rack.slot_count (store_rack z)) marks.marks.store) (ap named_of marks.marks.store) marks.meta marks.marks.staged.table marks.marks.staged.batch marks.marks.staged.copied;
              stands = λ t tells copied. still_told (IsCoreHeldSinceCommit g.R.Rack.slot_count a h lo) (UnitsRebuilt g.R.Rack.slot_count a h lo (rebuild_units a.meta.setup.geometry a.meta.gear c.args.disk)) (CoreStandsFor g.R.Rack.slot_count b h lo)
                  (g.R.Rack.told (store_rack a.store)) (g.R.Rack.told (store_rack b.store)) (ap (λ (z : _). g.R.Rack.told (store_rack z)) marks.marks.store) (marks.stands c.args.disk (rebuilt_count a.meta.out) c.requires.can.fresh h lo) t tells copied;
              commits = subst (λ (z : _). CommitsRejoined (g.R.Rack.told (store_rack z)) (g.R.Rack.told (store_rack new.store)) j k_then h lo c.args.disk) marks.marks.store (record {
                ran = commit_told (g.R.Rack.told (store_rack b.store)) (g.R.Rack.told (store_rack new.store)) j k_then h lo c.commit.ensures.brings.calls (c.in_ok-commit.ensures.held_since.since marks.absent h lo) (c.commit.ensures.brings.whole h lo)
                    (marked_told (g.R.Rack.told (store_rack new.store)) (g.R.Rack.slot (store_rack b.store)) (g.R.Rack.slot (store_rack new.store)) (g.met.R.Rack.agrees (store_rack new.store)) b.meta new.meta lost
                    (λ x low absent. ready.absent x (subst (λ (z : Setup). x < z.geometry.disks) (sym new_setup) low) absent)
                    (fresh_stays (g.R.Rack.slot (store_rack b.store)) (g.R.Rack.slot (store_rack new.store)) b.meta new.meta lost (λ x u fresh. let z : No ≡ Fresh x u = sym out ∙ fresh in cc)));
                alone = λ e is. sym (c.in_ok-commit.ensures.meta.alone c.args.disk e named is);
                epoch = c.in_ok-commit.ensures.meta.epoch;
                slots = c.commit.ensures.stays.losses.slots;
                nothing_staged = c.in_ok-commit.ensures.nothing;
              });
            },
          );
      loses = tt;
    }

pub commit-requires : goal.commit-requires
commit-requires g c =
    let q = c.requires in
    let a = c.args.core.now in
    let b = c.rejoin.new.self in
    let marks = c.rejoin.ensures in
    record {
      ready = marks.marks.ready;
      committable = record {
        epoch = subst (λ (e : ℕ). e < epoch_limit) (sym (ap (λ (m : Meta). m.epoch) marks.meta)) q.epoch;
        copies_synced = copies_kept a b (ap (λ (m : Meta). m.setup) marks.meta) marks.marks.staged.copied q.can.serving.copies_synced;
      };
    }
