use Rattle.std.specs.Prelude.{length, slice_index, Some, ◌<◌, List, ◌+◌}
use Rattle.std.proofs.Common.{◌≡◌, ◌∙◌, ◌<◌, ap, subst, sym, refl, ℕ}
use Rattle.paraid_base.specs.declared.state.Out.{Out}
use Rattle.paraid_base.specs.declared.state.Out.TheVariants.{Gone}
use Rattle.paraid_image.specs.Out.{named_out}
use Rattle.paraid_record.specs.declared.meta.Meta.{Meta}
use Rattle.paraid_rack.specs.Told.{CrashTriple, Ran}
use Rattle.paraid_txn.specs.Stores.{named_of, store_rack}
use Rattle.paraid_core.specs.Cores.{CoreStandsFor, IsCoreHeld, IsCoreHeldSinceCommit, core_down}
use Rattle.paraid_core.specs.Replaced.{CoreCommitted}
use Rattle.paraid_core.proofs.ChainLemmas.{ended}
use Rattle.paraid_core.proofs.ReadsLemmas.{knows_named}
use Rattle.paraid_event.proofs.CoreServingLemmas.{chain, chain_held, copies_kept, marked_named, unsynced_still}
use Rattle.paraid_rebuild.proofs.ReplacingLemmas.{away_marked, beside, serving_then, gone_stays, two_marked}
use Rattle.paraid_record.specs.declared.meta.Setup.{Setup}
use Rattle.paraid_image.specs.Mark.{meta_after_loss}
use Rattle.paraid_event.specs.Parts.{ServesEvent}
use Rattle.paraid_event.specs.Service.{service_of}
use Rattle.paraid_rebuild.proofs.ReplacementEventLemmas.{commit_told, commits_all, gone_fresh, marked_told, same_service, still_told}
use Rattle.paraid_base.specs.States.{gone_out}
use Rattle.paraid_core.proofs.KindLemmas.{gone_named}
use Rattle.paraid_core.proofs.AfterLemmas.{down_named, handed}
use Rattle.paraid_event.specs.Replacements.LosesReplaced.{first}
use Rattle.paraid_rebuild.proofs.LossLemmas.{LosesBegun, commit_lost, tells_by}
use Rattle.paraid_rebuild.proofs.replaced.commit_gone.Goals as goal
use Rattle.paraid_txn.specs.Losses.{OnlyLosesSlots}
use Rattle.paraid_core.proofs.ErrLemmas.{none_done}
use Rattle.paraid_base.specs.Log.{epoch_limit}

pub returns-in_err-commit : goal.returns-in_err-commit
returns-in_err-commit g c =
    let a = c.args.core.now in
    let b = c.mark_out.new.self in
    let d = c.clear_spins.new.self in
    let marks = c.mark_out.ensures in
    let clears = c.clear_spins.ensures in
    let store = clears.marks.store ∙ marks.marks.store in
    let setup = ap (λ (m : Meta). m.setup) clears.meta ∙ ap (λ (m : Meta). m.setup) marks.meta in
    let out = ap (λ (m : Meta). named_out m.out) clears.meta ∙ ap (λ (m : Meta). named_out m.out) marks.meta in
    let away = away_marked g.R.Rack.slot a d c.args.disk store c.requires.out out c.requires.absent in
    let new = c.commit.new.self in
    let copied = clears.marks.staged.copied ∙ marks.marks.staged.copied in
    let meta : d.meta ≡ record (meta_after_loss a.meta c.args.disk) { spins = d.meta.spins } = clears.meta ∙ ap (λ (m : Meta). record m { spins = d.meta.spins }) marks.meta in
    let from = c.from_residual in
    record {
      serves = none_done _ from.result _ from.ensures.1;
      meta = none_done _ from.result _ from.ensures.1;
      table = c.commit.ensures.cells.table ∙ clears.marks.staged.table ∙ marks.marks.staged.table;
      keeps = record {
        slots = c.commit.ensures.stays.losses.slots ∙ ap (λ (z : _). g.R.Rack.slot_count (store_rack z)) store;
        spared = subst (λ (z : _). OnlyLosesSlots (g.R.Rack.slot (store_rack z)) (g.R.Rack.slot (store_rack new.store))) store c.commit.ensures.stays.losses.spared;
        two = handed _ from.result _ from.ensures.1
            (two_marked g.R.Rack.slot a d new _ store (down_named (named_of d.store) d.meta clears.marks.ready.one c.args.disk out ∙ sym (down_named (named_of a.store) a.meta c.requires.serving.ready.one c.args.disk c.requires.out)) c.in_err-commit.ensures.stays.losses.two);
      };
      moments = λ h lo.
          let staged =
          chain g.R.Rack.slot_count g.R.Rack.told a b (ap (λ (z : _). g.R.Rack.slot_count (store_rack z)) marks.marks.store) (ap (λ (m : Meta). m.setup) marks.meta) (ap named_of marks.marks.store)
          (CoreStandsFor g.R.Rack.slot_count a h lo) (CoreStandsFor g.R.Rack.slot_count b h lo) (CoreStandsFor g.R.Rack.slot_count d h lo) h lo _ (marks.stands h lo) (clears.stands h lo) in
          ended (IsCoreHeld g.R.Rack.slot_count a h lo) (CoreStandsFor g.R.Rack.slot_count a h lo) (IsCoreHeldSinceCommit g.R.Rack.slot_count a h lo) _ _
          (beside _ _ _ _ (core_down a) (named_of a.store) h refl refl (λ x is. knows_named (named_of a.store) (named_out a.meta.out) x is) lo (CoreStandsFor g.R.Rack.slot_count a h lo) (IsCoreHeldSinceCommit g.R.Rack.slot_count a h lo) _ _
          (chain_held g.R.Rack.slot_count g.R.Rack.told a d (ap (λ (z : _). g.R.Rack.slot_count (store_rack z)) store) setup (ap named_of store) (CoreStandsFor g.R.Rack.slot_count a h lo) (CoreStandsFor g.R.Rack.slot_count d h lo) h lo _ staged (c.commit.ensures.held_since.moments_since away h lo)));
      committed = none_done _ from.result _ from.ensures.1;
      event = none_done _ from.result _ from.ensures.1;
      loses =
          let out : named_out d.meta.out ≡ Some c.args.disk = ap (λ (m : Meta). named_out m.out) clears.meta ∙ ap (λ (m : Meta). named_out m.out) marks.meta in
          let down : core_down d ≡ named_out d.meta.out = down_named (named_of d.store) d.meta clears.marks.ready.one c.args.disk out ∙ sym out in
          handed (LosesBegun g.R.Rack.slot_count g.R.Rack.told a new c.args.disk) from.result _ from.ensures.1
          (λ samples served energy h lo.
          let staged =
          chain g.R.Rack.slot_count g.R.Rack.told a b (ap (λ (z : _). g.R.Rack.slot_count (store_rack z)) marks.marks.store) (ap (λ (m : Meta). m.setup) marks.meta) (ap named_of marks.marks.store)
          (CoreStandsFor g.R.Rack.slot_count a h lo) (CoreStandsFor g.R.Rack.slot_count b h lo) (CoreStandsFor g.R.Rack.slot_count d h lo) h lo _ (marks.stands h lo) (clears.stands h lo) in
          first (service_of g.R.Rack.slot_count d samples served energy)
          (record {
            mark = same_service g.R.Rack.slot_count a d samples served energy (record (meta_after_loss a.meta c.args.disk) { spins = d.meta.spins }) (ap (λ (z : _). g.R.Rack.slot_count (store_rack z)) store) (ap named_of store) meta
                (clears.marks.staged.table ∙ marks.marks.staged.table) (clears.marks.staged.batch ∙ marks.marks.staged.batch) copied;
            as_many = clears.marks.ready.in_range.eight ∙ sym c.requires.serving.ready.in_range.eight;
            cleared = clears.cleared;
            others = λ e apart. clears.others e apart ∙ ap (λ (m : Meta). slice_index m.spins e) marks.meta;
          })
          (λ t tells k. still_told (IsCoreHeldSinceCommit g.R.Rack.slot_count a h lo) (CoreStandsFor g.R.Rack.slot_count a h lo) (CoreStandsFor g.R.Rack.slot_count d h lo) (g.R.Rack.told (store_rack a.store)) (g.R.Rack.told (store_rack d.store))
          (ap (λ (z : _). g.R.Rack.told (store_rack z)) store) staged t tells k)
          (commit_lost (g.R.Rack.told (store_rack d.store)) (g.R.Rack.told (store_rack new.store)) (service_of g.R.Rack.slot_count d samples served energy) h lo _ (g.R.Rack.told (store_rack a.store)) (ap (λ (z : _). g.R.Rack.told (store_rack z)) store)
          c.commit.ensures.brings.calls (c.commit.ensures.held_since.moments_since away h lo) (c.commit.ensures.brings.whole h lo) (tells_by (g.R.Rack.told (store_rack d.store)) (g.R.Rack.told (store_rack new.store)) (core_down d) (named_out d.meta.out) _ down c.in_err-commit.ensures.stays.losses.tells)));
    }

pub returns : goal.returns
returns g c =
    let a = c.args.core.now in
    let d = c.clear_spins.new.self in
    let new = c.commit.new.self in
    let marks = c.mark_out.ensures in
    let clears = c.clear_spins.ensures in
    let store = clears.marks.store ∙ marks.marks.store in
    let setup : d.meta.setup ≡ a.meta.setup = ap (λ (m : Meta). m.setup) clears.meta ∙ ap (λ (m : Meta). m.setup) marks.meta in
    let out : named_out d.meta.out ≡ Some c.args.disk = ap (λ (m : Meta). named_out m.out) clears.meta ∙ ap (λ (m : Meta). named_out m.out) marks.meta in
    let gone : gone_out d.meta.out ≡ Some c.args.disk = ap (λ (m : Meta). gone_out m.out) clears.meta ∙ ap (λ (m : Meta). gone_out m.out) marks.meta in
    let done = c.in_ok-commit.ensures in
    let b = c.mark_out.new.self in
    let copied = clears.marks.staged.copied ∙ marks.marks.staged.copied in
    let meta : d.meta ≡ record (meta_after_loss a.meta c.args.disk) { spins = d.meta.spins } = clears.meta ∙ ap (λ (m : Meta). record m { spins = d.meta.spins }) marks.meta in
    let ready = c.in_ok-commit.ensures.stays.ready in
    let new_setup : new.meta.setup ≡ d.meta.setup = c.in_ok-commit.ensures.stays.setup in
    let lost = c.in_ok-commit.ensures.stays.losses.marks in
    let last_is = gone_stays (record a.meta { epoch = a.meta.epoch + 1; spins = d.meta.spins }) (record d.meta { epoch = d.meta.epoch + 1 }) new.meta c.args.disk (ap (λ (m : Meta). record m { epoch = m.epoch + 1 }) meta) c.in_ok-commit.ensures.meta.meta in
    record {
      serves = record {
        serving =
            serving_then g.R.Rack.slot_count g.R.Rack.slot a new c.requires.serving done.stays.ready (done.serves (clears.serves (marks.serves c.requires.serving.serves)))
            (done.unsynced (unsynced_still g.R.Rack.slot_count g.R.Rack.slot a d c.requires.serving setup (λ x is. gone ∙ sym c.requires.out ∙ gone_named a.meta.out x is) store (clears.marks.staged.copied ∙ marks.marks.staged.copied)))
            (done.cells.draft ∙ clears.marks.staged.draft ∙ marks.marks.staged.draft) (done.stays.copied ∙ clears.marks.staged.copied ∙ marks.marks.staged.copied) (done.stays.setup ∙ setup)
            (λ x is. marked_named _ new.meta done.meta.meta x (out ∙ sym c.requires.out ∙ is))
            (λ x not there. c.commit.ensures.stays.losses.spared.size x there ∙ ap (λ (z : _). (g.R.Rack.slot (store_rack z) x).size) store);
        nothing = c.in_ok-commit.ensures.nothing;
        absent = c.in_ok-commit.ensures.meta.absent;
        named = c.in_ok-commit.ensures.meta.named ∙ out;
      };
      meta = record {
        is = last_is ∙ ap (λ (s : List ℕ). record (meta_after_loss a.meta c.args.disk) { epoch = a.meta.epoch + 1; out = Gone c.args.disk; spins = s }) (sym (ap (λ (m : Meta). m.spins) last_is));
        cleared = ap (λ (m : Meta). slice_index m.spins c.args.disk) last_is ∙ clears.cleared;
        others = λ x apart. ap (λ (m : Meta). slice_index m.spins x) last_is ∙ clears.others x apart ∙ ap (λ (m : Meta). slice_index m.spins x) marks.meta;
      };
      table = c.commit.ensures.cells.table ∙ clears.marks.staged.table ∙ marks.marks.staged.table;
      keeps = record {
        slots = c.commit.ensures.stays.losses.slots ∙ ap (λ (z : _). g.R.Rack.slot_count (store_rack z)) store;
        spared = subst (λ (z : _). OnlyLosesSlots (g.R.Rack.slot (store_rack z)) (g.R.Rack.slot (store_rack new.store))) store c.commit.ensures.stays.losses.spared;
        two = tt;
      };
      moments = λ h lo.
          let setup = ap (λ (m : Meta). m.setup) clears.meta ∙ ap (λ (m : Meta). m.setup) marks.meta in
          let out = ap (λ (m : Meta). named_out m.out) clears.meta ∙ ap (λ (m : Meta). named_out m.out) marks.meta in
          let away = away_marked g.R.Rack.slot a d c.args.disk store c.requires.out out c.requires.absent in
          let staged =
          chain g.R.Rack.slot_count g.R.Rack.told a b (ap (λ (z : _). g.R.Rack.slot_count (store_rack z)) marks.marks.store) (ap (λ (m : Meta). m.setup) marks.meta) (ap named_of marks.marks.store)
          (CoreStandsFor g.R.Rack.slot_count a h lo) (CoreStandsFor g.R.Rack.slot_count b h lo) (CoreStandsFor g.R.Rack.slot_count d h lo) h lo _ (marks.stands h lo) (clears.stands h lo) in
          ended (IsCoreHeld g.R.Rack.slot_count a h lo) (CoreStandsFor g.R.Rack.slot_count a h lo) (IsCoreHeldSinceCommit g.R.Rack.slot_count a h lo) _ _
          (beside _ _ _ _ (core_down a) (named_of a.store) h refl refl (λ x is. knows_named (named_of a.store) (named_out a.meta.out) x is) lo (CoreStandsFor g.R.Rack.slot_count a h lo) (IsCoreHeldSinceCommit g.R.Rack.slot_count a h lo) _ _
          (chain_held g.R.Rack.slot_count g.R.Rack.told a d (ap (λ (z : _). g.R.Rack.slot_count (store_rack z)) store) setup (ap named_of store) (CoreStandsFor g.R.Rack.slot_count a h lo) (CoreStandsFor g.R.Rack.slot_count d h lo) h lo _ staged (c.commit.ensures.held_since.moments_since away h lo)));
      committed = λ h lo.
          let setup = ap (λ (m : Meta). m.setup) clears.meta ∙ ap (λ (m : Meta). m.setup) marks.meta in
          let out = ap (λ (m : Meta). named_out m.out) clears.meta ∙ ap (λ (m : Meta). named_out m.out) marks.meta in
          let away = away_marked g.R.Rack.slot a d c.args.disk store c.requires.out out c.requires.absent in
          let staged =
          chain g.R.Rack.slot_count g.R.Rack.told a b (ap (λ (z : _). g.R.Rack.slot_count (store_rack z)) marks.marks.store) (ap (λ (m : Meta). m.setup) marks.meta) (ap named_of marks.marks.store)
          (CoreStandsFor g.R.Rack.slot_count a h lo) (CoreStandsFor g.R.Rack.slot_count b h lo) (CoreStandsFor g.R.Rack.slot_count d h lo) h lo _ (marks.stands h lo) (clears.stands h lo) in
          let gone : d.meta.out ≡ Gone c.args.disk = ap (λ (m : Meta). m.out) clears.meta ∙ ap (λ (m : Meta). m.out) marks.meta in
          let last =
          subst (λ (o : Out). Ran (g.R.Rack.told (store_rack d.store)) (g.R.Rack.told (store_rack new.store)) (CrashTriple (IsCoreHeldSinceCommit g.R.Rack.slot_count d h lo) (CoreStandsFor g.R.Rack.slot_count d h lo) (CoreCommitted g.R.Rack.slot_count new h (length h) o))) gone
          (c.in_ok-commit.ensures.held_since.committed away h lo) in
          beside _ _ _ _ (core_down a) (named_of a.store) h refl refl (λ x is. knows_named (named_of a.store) (named_out a.meta.out) x is) lo (CoreStandsFor g.R.Rack.slot_count a h lo) (CoreCommitted g.R.Rack.slot_count new h (length h) (Gone c.args.disk)) _ _
          (chain g.R.Rack.slot_count g.R.Rack.told a d (ap (λ (z : _). g.R.Rack.slot_count (store_rack z)) store) setup (ap named_of store) (CoreStandsFor g.R.Rack.slot_count a h lo) (CoreStandsFor g.R.Rack.slot_count d h lo) (CoreCommitted g.R.Rack.slot_count new h (length h) (Gone c.args.disk)) h lo _ staged last);
      event = λ samples served energy h lo.
          let setup = ap (λ (m : Meta). m.setup) clears.meta ∙ ap (λ (m : Meta). m.setup) marks.meta in
          let out = ap (λ (m : Meta). named_out m.out) clears.meta ∙ ap (λ (m : Meta). named_out m.out) marks.meta in
          let away = away_marked g.R.Rack.slot a d c.args.disk store c.requires.out out c.requires.absent in
          let gone : d.meta.out ≡ Gone c.args.disk = ap (λ (m : Meta). m.out) clears.meta ∙ ap (λ (m : Meta). m.out) marks.meta in
          let staged =
          chain g.R.Rack.slot_count g.R.Rack.told a b (ap (λ (z : _). g.R.Rack.slot_count (store_rack z)) marks.marks.store) (ap (λ (m : Meta). m.setup) marks.meta) (ap named_of marks.marks.store)
          (CoreStandsFor g.R.Rack.slot_count a h lo) (CoreStandsFor g.R.Rack.slot_count b h lo) (CoreStandsFor g.R.Rack.slot_count d h lo) h lo _ (marks.stands h lo) (clears.stands h lo) in (
            service_of g.R.Rack.slot_count d samples served energy,
            record {
              marks = record {
                mark = same_service g.R.Rack.slot_count a d samples served energy (record (meta_after_loss a.meta c.args.disk) { spins = d.meta.spins }) (ap (λ (z : _). g.R.Rack.slot_count (store_rack z)) store) (ap named_of store) meta
                    (clears.marks.staged.table ∙ marks.marks.staged.table) (clears.marks.staged.batch ∙ marks.marks.staged.batch) copied;
                as_many = clears.marks.ready.in_range.eight ∙ sym c.requires.serving.ready.in_range.eight;
                cleared = clears.cleared;
                others = λ e apart. clears.others e apart ∙ ap (λ (m : Meta). slice_index m.spins e) marks.meta;
              };
              stands = λ t tells k. still_told (IsCoreHeldSinceCommit g.R.Rack.slot_count a h lo) (CoreStandsFor g.R.Rack.slot_count a h lo) (CoreStandsFor g.R.Rack.slot_count d h lo) (g.R.Rack.told (store_rack a.store)) (g.R.Rack.told (store_rack d.store))
                  (ap (λ (z : _). g.R.Rack.told (store_rack z)) store) staged t tells k;
              ran = subst (λ (z : _). Ran (g.R.Rack.told (store_rack z)) (g.R.Rack.told (store_rack new.store)) (ServesEvent (service_of g.R.Rack.slot_count d samples served energy) (service_of g.R.Rack.slot_count new samples served energy) h lo h (length h))) store
                  (commit_told (g.R.Rack.told (store_rack d.store)) (g.R.Rack.told (store_rack new.store)) (service_of g.R.Rack.slot_count d samples served energy) (service_of g.R.Rack.slot_count new samples served energy) h lo
                  c.commit.ensures.brings.calls (c.in_ok-commit.ensures.held_since.since away h lo) (c.commit.ensures.brings.whole h lo)
                  (marked_told (g.R.Rack.told (store_rack new.store)) (g.R.Rack.slot (store_rack d.store)) (g.R.Rack.slot (store_rack new.store)) (g.met.R.Rack.agrees (store_rack new.store)) d.meta new.meta lost
                  (λ x low absent. ready.absent x (subst (λ (z : Setup). x < z.geometry.disks) (sym new_setup) low) absent)
                  (gone_fresh (g.R.Rack.slot (store_rack d.store)) (g.R.Rack.slot (store_rack new.store)) d.meta new.meta lost c.args.disk gone)));
              ends = commits_all g.R.Rack.slot_count d new samples served energy (copies_kept a d setup copied c.requires.serving.copies_synced) c.commit.ensures.stays.losses.slots new_setup c.in_ok-commit.ensures.meta.epoch c.in_ok-commit.ensures.nothing c.commit.ensures.cells.table c.commit.ensures.stays.copied;
            },
          );
      loses = tt;
    }

pub commit-requires : goal.commit-requires
commit-requires g c =
    let q = c.requires in
    let a = c.args.core.now in
    let b = c.clear_spins.new.self in
    let marks = c.mark_out.ensures in
    let clears = c.clear_spins.ensures in
    record {
      ready = clears.marks.ready;
      committable = record {
        epoch = subst (λ (e : ℕ). e < epoch_limit) (sym (ap (λ (m : Meta). m.epoch) clears.meta ∙ ap (λ (m : Meta). m.epoch) marks.meta)) q.epoch;
        copies_synced = copies_kept a b (ap (λ (m : Meta). m.setup) clears.meta ∙ ap (λ (m : Meta). m.setup) marks.meta) (clears.marks.staged.copied ∙ marks.marks.staged.copied) q.serving.copies_synced;
      };
    }
