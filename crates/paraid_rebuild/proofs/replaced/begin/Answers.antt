use Rattle.std.specs.Prelude.{length, List, ◌+◌, ◌<◌}
use Rattle.std.proofs.Common.{◌≡◌, ◌∙◌, ap, sym, ℕ, Option, Some, inl, inr, subst}
use Rattle.paraid_base.specs.declared.state.Out.TheVariants.{Fresh, Gone}
use Rattle.paraid_image.specs.Out.{named_out, or_else}
use Rattle.paraid_record.specs.declared.meta.Meta.{Meta}
use Rattle.paraid_txn.specs.Stores.{named_of, store_rack}
use Rattle.paraid_core.specs.Cores.{CoreStandsFor, IsCoreHeld, core_down}
use Rattle.paraid_core.specs.Replaced.{CoreCommitted}
use Rattle.paraid_core.proofs.AfterLemmas.{down_named, handed}
use Rattle.paraid_core.proofs.ChainLemmas.{ended, keeps_low}
use Rattle.paraid_rebuild.proofs.ReplacingLemmas.{after, replaced_then, two_since, but_then}
use Rattle.paraid_event.specs.Service.{service_of}
use Rattle.paraid_event.specs.Replacements.LosesReplaced.{second}
use Rattle.paraid_rebuild.proofs.LossLemmas.{LosesBegun}
use Rattle.paraid_session.proofs.FaultLemmas.{counts_then, no_fall_counts}
use Rattle.paraid_rebuild.proofs.ResultLemmas.{err_map, on_map}
use Rattle.paraid_base.specs.History.{History}
use Rattle.paraid_rack.specs.Told.{CrashTriple, Ran}
use Rattle.paraid_event.specs.Replacements.{ReplacesDisk}
use Rattle.paraid_rebuild.specs.Replacing.{LeavesArrayBut, IsReplacedFrom}
use Rattle.paraid_rebuild.proofs.replaced.begin.Goals as goal
use Rattle.paraid_base.proofs.ToldLemmas.{HasRisen-sooner}
use Rattle.paraid_base.specs.Regions.{disk_size}
use Rattle.paraid_base.specs.declared.state.Out.{Out}
use Rattle.paraid_core.proofs.ErrLemmas.{none_done, none_done_as}
use Rattle.paraid_base.specs.Log.{epoch_limit}

pub bring_fresh-requires : goal.bring_fresh-requires
bring_fresh-requires g c =
    let was = c.in_ok-commit_gone.ensures in
    record {
      committed = was.serves;
      epoch = subst (λ (e : ℕ). e < epoch_limit) (sym (ap (λ (m : Meta). m.epoch) was.meta.is)) c.requires.epoch;
      gone = ap (λ (m : Meta). m.out) was.meta.is;
    }

pub returns-in_err-commit_gone : goal.returns-in_err-commit_gone
returns-in_err-commit_gone g c =
    let from = c.from_residual in
    record {
      serves = none_done _ from.result _ from.ensures.1;
      leaves = none_done _ from.result _ from.ensures.1;
      there = λ is. none_done_as _ from.result _ _ from.ensures.1 is;
      lacks = λ is. none_done_as _ from.result _ _ from.ensures.1 is;
      table = c.commit_gone.ensures.table;
      keeps = record {
        slots = c.commit_gone.ensures.keeps.slots;
        later = no_fall_counts (g.R.Rack.slot (store_rack c.args.core.now.store)) (g.R.Rack.slot (store_rack c.commit_gone.new.core.store)) c.commit_gone.ensures.keeps.spared.no_fall;
        two = handed _ from.result _ from.ensures.1 c.in_err-commit_gone.ensures.keeps.two;
      };
      moments = c.commit_gone.ensures.moments;
      stands = none_done _ from.result _ from.ensures.1;
      committed = λ is. none_done_as _ from.result _ _ from.ensures.1 is;
      event = none_done _ from.result _ from.ensures.1;
      loses = handed _ from.result _ from.ensures.1 c.in_err-commit_gone.ensures.loses;
    }

pub returns : goal.returns
returns g c =
    let old = g.R.Rack.slot (store_rack c.args.core.now.store) in
    let mid = g.R.Rack.slot (store_rack c.commit_gone.new.core.store) in
    let a = c.args.core.now in
    let b = c.commit_gone.new.core in
    let new = c.bring_fresh.new.core in
    let was = c.in_ok-commit_gone.ensures in
    let down : core_down b ≡ Some c.args.disk = ap (λ (o : Option ℕ). or_else o (named_out b.meta.out)) was.serves.named in
    let known : core_down a ≡ Some c.args.disk = down_named (named_of a.store) a.meta c.requires.serving.ready.one c.args.disk c.requires.out in
    record {
      serves = c.bring_fresh.ensures.serves;
      leaves = on_map {Y = LeavesArrayBut g.R.Rack.slot_count g.R.Rack.slot a new c.args.disk} _ c.bring_fresh.ensures.leaves (λ it. record {
        slots = it.slots ∙ was.keeps.slots;
        setup = it.setup ∙ ap (λ (m : Meta). m.setup) was.meta.is;
        writes = it.writes ∙ ap (λ (m : Meta). m.writes) was.meta.is;
        spared = but_then (g.R.Rack.slot (store_rack a.store)) (g.R.Rack.slot (store_rack b.store)) (g.R.Rack.slot (store_rack new.store)) c.args.disk c.commit_gone.ensures.keeps.spared it.spared;
      });
      there = λ is. record {
        fresh = replaced_then c.args.core.now.meta c.commit_gone.new.core.meta c.bring_fresh.new.core.meta c.args.disk (Fresh c.args.disk 0) c.in_ok-commit_gone.ensures.meta ((c.bring_fresh.ensures.there is).fresh);
        spins = (c.bring_fresh.ensures.there is).spins;
        size = (c.bring_fresh.ensures.there is).size ∙ ap (λ (m : Meta). disk_size m.setup.geometry) was.meta.is;
      };
      lacks = λ is. record {
        gone = elim ((c.bring_fresh.ensures.lacks is).gone) [
          | inl same ↦ inl (subst (λ (m : Meta). IsReplacedFrom a.meta m c.args.disk 1 (Gone c.args.disk)) (sym same) was.meta)
          | inr next ↦ inr (replaced_then a.meta b.meta new.meta c.args.disk (Gone c.args.disk) was.meta (next ∙ ap (λ (o : Out). record b.meta { epoch = b.meta.epoch + 1; out = o }) (ap (λ (m : Meta). m.out) was.meta.is)))
        ];
        risen = HasRisen-sooner _ _ _ (c.commit_gone.ensures.keeps.spared.no_fall c.args.disk) ((c.bring_fresh.ensures.lacks is).risen);
      };
      table = c.bring_fresh.ensures.table ∙ c.commit_gone.ensures.table;
      keeps = record {
        slots = c.bring_fresh.ensures.keeps.slots ∙ c.commit_gone.ensures.keeps.slots;
        later = counts_then old mid (g.R.Rack.slot (store_rack c.bring_fresh.new.core.store)) (no_fall_counts old mid c.commit_gone.ensures.keeps.spared.no_fall) c.bring_fresh.ensures.keeps.later;
        two = err_map _ c.bring_fresh.ensures.keeps.two (λ two it. (two_since (core_down a) (core_down b) (g.R.Rack.slot (store_rack a.store)) (g.R.Rack.slot (store_rack b.store)) (g.R.Rack.slot (store_rack new.store)) _ (down ∙ sym known) c.commit_gone.ensures.keeps.spared.no_fall it));
      };
      moments = λ h lo.
          ended (IsCoreHeld g.R.Rack.slot_count a h lo) (CoreStandsFor g.R.Rack.slot_count a h lo) (IsCoreHeld g.R.Rack.slot_count b h (length h)) _ _
          (after _ _ _ _ (core_down a) (core_down b) h was.keeps.slots (ap (λ (m : Meta). m.setup.geometry.disks) was.meta.is) (λ x is. known ∙ sym down ∙ is) lo
          (CoreStandsFor g.R.Rack.slot_count a h lo) (CoreCommitted g.R.Rack.slot_count b h (length h) (Gone c.args.disk)) (IsCoreHeld g.R.Rack.slot_count b h (length h)) _ _ _
          (λ s k. keeps_low _ _ _ _ _ _ h lo s k) (was.committed h lo) (c.bring_fresh.ensures.moments h (length h)));
      stands = on_map {Y = (h : History) (lo : ℕ) → Ran (g.R.Rack.told (store_rack a.store)) (g.R.Rack.told (store_rack new.store)) (CrashTriple (IsCoreHeld g.R.Rack.slot_count a h lo) (CoreStandsFor g.R.Rack.slot_count a h lo) (CoreStandsFor g.R.Rack.slot_count new h (length h)))} _ c.bring_fresh.ensures.stands (λ it. λ h lo.
          after _ _ _ _ (core_down a) (core_down b) h was.keeps.slots (ap (λ (m : Meta). m.setup.geometry.disks) was.meta.is) (λ x is. known ∙ sym down ∙ is) lo
          (CoreStandsFor g.R.Rack.slot_count a h lo) (CoreCommitted g.R.Rack.slot_count b h (length h) (Gone c.args.disk)) (CoreStandsFor g.R.Rack.slot_count new h (length h)) _ _ _
          (λ s k. keeps_low _ _ _ _ _ _ h lo s k) (was.committed h lo) (it h));
      committed = λ is h lo.
          after _ _ _ _ (core_down a) (core_down b) h was.keeps.slots (ap (λ (m : Meta). m.setup.geometry.disks) was.meta.is) (λ x is. known ∙ sym down ∙ is) lo
          (CoreStandsFor g.R.Rack.slot_count a h lo) (CoreCommitted g.R.Rack.slot_count b h (length h) (Gone c.args.disk)) (CoreCommitted g.R.Rack.slot_count new h (length h) (Fresh c.args.disk 0)) _ _ _
          (λ s k. keeps_low _ _ _ _ _ _ h lo s k) (was.committed h lo) (c.bring_fresh.ensures.committed is h);
      event = on_map {Y = (samples : List ℕ) (served energy : ℕ) (h : History) (lo : ℕ) → ReplacesDisk (g.R.Rack.told (store_rack a.store)) (g.R.Rack.told (store_rack new.store)) (service_of g.R.Rack.slot_count a samples served energy) (service_of g.R.Rack.slot_count new samples served energy) h lo c.args.disk} _ c.bring_fresh.ensures.event (λ it. λ samples served energy h lo.
          let one = c.in_ok-commit_gone.ensures.event samples served energy h lo in
          record {
            mid = g.R.Rack.told (store_rack b.store);
            marked = one.0;
            committed = service_of g.R.Rack.slot_count b samples served energy;
            commits = one.1;
            brings = it samples served energy h lo;
          });
      loses = err_map {Q = LosesBegun g.R.Rack.slot_count g.R.Rack.told a new c.args.disk} _ c.bring_fresh.ensures.loses (λ two it. (λ samples served energy h lo.
          let one = c.in_ok-commit_gone.ensures.event samples served energy h lo in
          let fresh = it samples served energy h lo in
          second (g.R.Rack.told (store_rack b.store)) fresh.attached one.0 (service_of g.R.Rack.slot_count b samples served energy) one.1 fresh.attach fresh.ran));
    }
