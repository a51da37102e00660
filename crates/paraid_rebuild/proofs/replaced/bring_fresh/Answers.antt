use Rattle.std.specs.Prelude.{length, false, ◌<◌, true, Ok}
use Rattle.std.proofs.Common.{◌≡◌, ◌∙◌, ◌+◌, ◌≤◌, ap, subst, sym, refl, arith, ℕ, Option, Some, inl, inr, true}
use Rattle.std.proofs.lemmas.Bool.{cases_eq}
use Rattle.paraid_base.specs.declared.state.Out.{Out}
use Rattle.paraid_base.specs.declared.state.Out.TheVariants.{Fresh, Gone}
use Rattle.paraid_base.specs.States.{gone_out}
use Rattle.paraid_base.specs.Told.{HasRisen}
use Rattle.paraid_image.specs.Mark.{meta_after_loss}
use Rattle.paraid_image.specs.Out.{named_out, or_else}
use Rattle.paraid_rack.specs.Slots.{Slot}
use Rattle.paraid_rack.specs.Told.{CrashTriple, Ran}
use Rattle.paraid_record.specs.declared.meta.Meta.{Meta}
use Rattle.paraid_txn.specs.Stores.{named_of, store_rack}
use Rattle.paraid_core.specs.Cores.{CoreStandsFor, IsCoreHeld, IsCoreHeldSinceCommit, core_down}
use Rattle.paraid_core.specs.Replaced.{CoreCommitted}
use Rattle.paraid_core.proofs.AfterLemmas.{handed}
use Rattle.paraid_core.proofs.ChainLemmas.{ended}
use Rattle.paraid_core.proofs.ReadsLemmas.{knows_named}
use Rattle.paraid_event.proofs.CoreServingLemmas.{chain, chain_held, marked_named, copies_kept}
use Rattle.paraid_rebuild.proofs.ReplacingLemmas.{back_well, beside, but_lost, gone_failed, gone_settled, lost_none, marked_back, marked_lost, serving_then, two_since}
use Rattle.paraid_moves.specs.MoveMetas.{meta_with_out}
use Rattle.paraid_rack.specs.Disks.{is_present}
use Rattle.paraid_record.specs.declared.meta.Setup.{Setup}
use Rattle.paraid_event.specs.Parts.{ServesEvent}
use Rattle.paraid_event.specs.Replacements.{AttachesInEvent, CommitsAll, with_fresh}
use Rattle.paraid_event.specs.Replacements.BringsFresh.{came, failed}
use Rattle.paraid_event.specs.Service.{Service, service_of}
use Rattle.paraid_rebuild.proofs.ReplacementEventLemmas.{attach_told, commit_told, commits_all, fresh_stays, fresh_there, marked_told, same_service}
use Rattle.paraid_rebuild.proofs.LossLemmas.{LosesBrought, commit_lost_fresh, tells_by}
use Rattle.paraid_session.proofs.FaultLemmas.{counts_then, no_fall_counts}
use Rattle.paraid_rebuild.proofs.CountLemmas.{attached_counts, failed_counts}
use Rattle.paraid_rebuild.proofs.ResultLemmas.{back_is, gone_is}
use Rattle.paraid_rebuild.proofs.replaced.bring_fresh.Goals as goal
use Rattle.paraid_core.proofs.ErrLemmas.{none_done, none_done_as}

pub returns-then-not-attach : goal.returns-then-not-attach
returns-then-not-attach g c =
    let a = c.args.core.now in
    let b = c.attach.new.self in
    let meta = c.attach.ensures.same c.if-not-attach.true in
    let it = c.attach.ensures in
    record {
      serves = record {
        serving =
            serving_then g.R.Rack.slot_count g.R.Rack.slot a b c.requires.committed.serving c.attach.ensures.leaves.ready (c.attach.ensures.leaves.serves c.requires.committed.serving.serves) (c.attach.ensures.leaves.unsynced c.requires.committed.serving.unsynced) c.attach.ensures.leaves.staged.draft c.attach.ensures.leaves.staged.copied
            (ap (λ (m : Meta). m.setup) meta) (λ d is. ap (λ (m : Meta). named_out m.out) meta ∙ is)
            (λ d not there. ap (λ (s : Slot). s.size) (c.attach.ensures.leaves.others d (λ is. not (ap (λ (m : Meta). named_out m.out) meta ∙ ap named_out c.requires.gone ∙ ap Some (sym is)))));
        nothing = it.leaves.staged.batch ∙ c.requires.committed.nothing;
        absent = it.leaves.absent;
        named = it.leaves.store.named ∙ c.requires.committed.named;
      };
      leaves =
          record {
            slots = c.attach.ensures.leaves.slots;
            setup = ap (λ (m : Meta). m.setup) meta;
            writes = ap (λ (m : Meta). m.writes) meta;
            spared = but_lost (g.R.Rack.slot (store_rack a.store)) (g.R.Rack.slot (store_rack b.store)) (g.R.Rack.slot (store_rack b.store)) c.args.disk c.attach.ensures.leaves.others (lost_none (g.R.Rack.slot (store_rack b.store)));
          };
      there = λ is. let z : Ok false ≡ Ok true = is in cc;
      lacks = λ is. record {
        gone = inl (it.same c.if-not-attach.true);
        risen = (it.lost c.if-not-attach.true).risen;
      };
      table = it.leaves.staged.table;
      keeps = record {
        slots = c.attach.ensures.leaves.slots;
        later = failed_counts (g.R.Rack.slot (store_rack c.args.core.now.store)) (g.R.Rack.slot (store_rack c.attach.new.self.store)) c.args.disk c.attach.ensures.leaves.others (c.attach.ensures.lost c.if-not-attach.true).risen;
        two = tt;
      };
      moments = λ h lo.
          ended (IsCoreHeld g.R.Rack.slot_count a h lo) (CoreCommitted g.R.Rack.slot_count a h lo (Gone c.args.disk)) (CoreStandsFor g.R.Rack.slot_count b h lo) _ _
          (beside _ _ _ _ (core_down a) (named_of a.store) h refl refl (λ x is. knows_named (named_of a.store) (named_out a.meta.out) x is) lo (CoreCommitted g.R.Rack.slot_count a h lo (Gone c.args.disk)) (CoreStandsFor g.R.Rack.slot_count b h lo) _ _
          (c.attach.ensures.stands h lo));
      stands = λ h.
          beside _ _ _ _ (core_down a) (named_of a.store) h refl refl (λ x is. knows_named (named_of a.store) (named_out a.meta.out) x is) (length h) (CoreCommitted g.R.Rack.slot_count a h (length h) (Gone c.args.disk)) (CoreStandsFor g.R.Rack.slot_count b h (length h)) _ _
          (c.attach.ensures.stands h (length h));
      committed = λ is. let z : Ok false ≡ Ok true = is in cc;
      event = λ samples served energy h lo.
          let k = service_of g.R.Rack.slot_count a samples served energy in
          let k_then = service_of g.R.Rack.slot_count b samples served energy in
          let equal : k_then ≡ k = same_service g.R.Rack.slot_count a b samples served energy a.meta it.leaves.slots it.leaves.store.named (it.same c.if-not-attach.true) it.leaves.staged.table it.leaves.staged.batch it.leaves.staged.copied in
          failed equal (subst (λ (y : Service). Ran (g.R.Rack.told (store_rack a.store)) (g.R.Rack.told (store_rack b.store)) (AttachesInEvent k y h lo c.args.disk false)) equal
          (attach_told (g.R.Rack.told (store_rack a.store)) (g.R.Rack.told (store_rack b.store)) k k_then h lo c.args.disk false (g.R.Rack.slot (store_rack b.store)) (g.met.R.Rack.agrees (store_rack b.store))
          (ap is_present (it.lost c.if-not-attach.true).absent) it.calls (it.stands h lo)));
      loses = tt;
    }

pub returns-in_err-commit : goal.returns-in_err-commit
returns-in_err-commit g c =
    let old = g.R.Rack.slot (store_rack c.args.core.now.store) in
    let mid = g.R.Rack.slot (store_rack c.attach.new.self.store) in
    let new = g.R.Rack.slot (store_rack c.commit.new.self.store) in
    let a = c.args.core.now in
    let b = c.attach.new.self in
    let here : c.attach.result ≡ true = c.if-not-attach.false in
    let fresh = c.attach.ensures.fresh here in
    let out : b.meta.out ≡ Fresh c.args.disk 0 = ap (λ (m : Meta). m.out) fresh in
    let setup : b.meta.setup ≡ a.meta.setup = ap (λ (m : Meta). m.setup) fresh in
    let same = c.attach.ensures.leaves.store in
    let down : core_down b ≡ core_down a = ap (λ (o : Option ℕ). or_else o (named_out b.meta.out)) (same.named ∙ c.requires.committed.named) ∙ sym (ap (λ (o : Option ℕ). or_else o (named_out a.meta.out)) c.requires.committed.named) in
    let it = c.attach.ensures in
    let named : named_of b.store ≡ Some c.args.disk = it.leaves.store.named ∙ c.requires.committed.named in
    let spins : is_present (g.R.Rack.slot (store_rack b.store) c.args.disk).power ≡ true = ap (λ (s : Slot). is_present s.power) (it.attached here) in
    let from = c.from_residual in
    record {
      serves = none_done _ from.result _ from.ensures.1;
      leaves = none_done _ from.result _ from.ensures.1;
      there = λ is. none_done_as _ from.result _ _ from.ensures.1 is;
      lacks = λ is. none_done_as _ from.result _ _ from.ensures.1 is;
      table = c.commit.ensures.cells.table ∙ c.attach.ensures.leaves.staged.table;
      keeps = record {
        slots = c.commit.ensures.stays.losses.slots ∙ c.attach.ensures.leaves.slots;
        later = counts_then old mid new (attached_counts old mid c.args.disk c.attach.ensures.leaves.others (ap (λ (s : Slot). s.faults) (c.attach.ensures.attached c.if-not-attach.false))) (no_fall_counts mid new c.commit.ensures.stays.losses.spared.no_fall);
        two =
            handed _ from.result _ from.ensures.1
            (two_since (core_down a) (core_down b) (g.R.Rack.slot (store_rack a.store)) (g.R.Rack.slot (store_rack b.store)) (g.R.Rack.slot (store_rack c.commit.new.self.store)) _ down
            (λ d. elim (cases_eq d c.args.disk) [
              | inl is ↦ let e = ap (λ (s : Slot). s.faults) (c.attach.ensures.attached here) in subst (λ (x : ℕ). (g.R.Rack.slot (store_rack a.store) x).faults ≤ (g.R.Rack.slot (store_rack b.store) x).faults) (sym is) (omega arith)
              | inr apart ↦ let e = ap (λ (s : Slot). s.faults) (c.attach.ensures.leaves.others d apart) in omega arith
            ]) c.in_err-commit.ensures.stays.losses.two);
      };
      moments = λ h lo.
          ended (IsCoreHeld g.R.Rack.slot_count a h lo) (CoreCommitted g.R.Rack.slot_count a h lo (Gone c.args.disk)) (IsCoreHeldSinceCommit g.R.Rack.slot_count a h lo) _ _
          (beside _ _ _ _ (core_down a) (named_of a.store) h refl refl (λ x is. knows_named (named_of a.store) (named_out a.meta.out) x is) lo (CoreCommitted g.R.Rack.slot_count a h lo (Gone c.args.disk)) (IsCoreHeldSinceCommit g.R.Rack.slot_count a h lo) _ _
          (chain_held g.R.Rack.slot_count g.R.Rack.told a b c.attach.ensures.leaves.slots setup same.named (CoreCommitted g.R.Rack.slot_count a h lo (Gone c.args.disk)) (CoreStandsFor g.R.Rack.slot_count b h lo) h lo _ (c.attach.ensures.stands h lo) (c.commit.ensures.held_since.moments_since c.attach.ensures.leaves.absent h lo)));
      stands = none_done _ from.result _ from.ensures.1;
      committed = λ is. none_done_as _ from.result _ _ from.ensures.1 is;
      event = none_done _ from.result _ from.ensures.1;
      loses =
          let new = c.commit.new.self in
          let fresh = it.fresh here in
          let out : named_out b.meta.out ≡ Some c.args.disk = ap (λ (m : Meta). named_out m.out) fresh in
          let down : core_down b ≡ named_out b.meta.out = ap (λ (o : Option ℕ). or_else o (named_out b.meta.out)) named ∙ sym out in
          handed (LosesBrought g.R.Rack.slot_count g.R.Rack.told a new c.args.disk) from.result _ from.ensures.1
          (λ samples served energy h lo.
          let k = service_of g.R.Rack.slot_count a samples served energy in
          let k_fresh = service_of g.R.Rack.slot_count b samples served energy in
          let equal : k_fresh ≡ with_fresh k c.args.disk = same_service g.R.Rack.slot_count a b samples served energy (meta_with_out a.meta (Fresh c.args.disk 0)) it.leaves.slots it.leaves.store.named fresh it.leaves.staged.table it.leaves.staged.batch it.leaves.staged.copied in
          record {
            attached = g.R.Rack.told (store_rack b.store);
            attach = subst (λ (y : Service). Ran (g.R.Rack.told (store_rack a.store)) (g.R.Rack.told (store_rack b.store)) (AttachesInEvent k y h lo c.args.disk true)) equal
                (attach_told (g.R.Rack.told (store_rack a.store)) (g.R.Rack.told (store_rack b.store)) k k_fresh h lo c.args.disk true (g.R.Rack.slot (store_rack b.store)) (g.met.R.Rack.agrees (store_rack b.store)) spins it.calls (it.stands h lo));
            ran = commit_lost_fresh (g.R.Rack.told (store_rack b.store)) (g.R.Rack.told (store_rack new.store)) k_fresh h lo _ (with_fresh k c.args.disk) equal
                c.commit.ensures.brings.calls (c.commit.ensures.held_since.moments_since it.leaves.absent h lo) (c.commit.ensures.brings.whole h lo) (tells_by (g.R.Rack.told (store_rack b.store)) (g.R.Rack.told (store_rack new.store)) (core_down b) (named_out b.meta.out) _ down c.in_err-commit.ensures.stays.losses.tells);
          });
    }

pub returns : goal.returns
returns g c =
    let a = c.args.core.now in
    let b = c.attach.new.self in
    let new = c.commit.new.self in
    let here : c.attach.result ≡ true = c.if-not-attach.false in
    let fresh = c.attach.ensures.fresh here in
    let out : b.meta.out ≡ Fresh c.args.disk 0 = ap (λ (m : Meta). m.out) fresh in
    let setup : b.meta.setup ≡ a.meta.setup = ap (λ (m : Meta). m.setup) fresh in
    let same = c.attach.ensures.leaves.store in
    let marked = c.in_ok-commit.ensures.meta.meta in
    let old = g.R.Rack.slot (store_rack c.args.core.now.store) in
    let mid = g.R.Rack.slot (store_rack c.attach.new.self.store) in
    let it = c.attach.ensures in
    let spins : is_present (g.R.Rack.slot (store_rack b.store) c.args.disk).power ≡ true = ap (λ (s : Slot). is_present s.power) (it.attached here) in
    let ready = c.in_ok-commit.ensures.stays.ready in
    let new_setup : new.meta.setup ≡ b.meta.setup = c.in_ok-commit.ensures.stays.setup in
    let faults = ap (λ (s : Slot). s.faults) (c.attach.ensures.attached here) in
    record {
      serves = record {
        serving =
            serving_then g.R.Rack.slot_count g.R.Rack.slot a new c.requires.committed.serving c.in_ok-commit.ensures.stays.ready (c.in_ok-commit.ensures.serves (c.attach.ensures.leaves.serves c.requires.committed.serving.serves))
            (c.in_ok-commit.ensures.unsynced (c.attach.ensures.leaves.unsynced c.requires.committed.serving.unsynced)) (c.in_ok-commit.ensures.cells.draft ∙ c.attach.ensures.leaves.staged.draft) (c.in_ok-commit.ensures.stays.copied ∙ c.attach.ensures.leaves.staged.copied)
            (c.in_ok-commit.ensures.stays.setup ∙ setup)
            (λ d is. marked_named _ new.meta marked d (ap named_out out ∙ sym (ap named_out c.requires.gone) ∙ is))
            (λ d not there. c.commit.ensures.stays.losses.spared.size d there ∙ ap (λ (s : Slot). s.size) (c.attach.ensures.leaves.others d (λ is. not (marked_named _ new.meta marked d (ap named_out out ∙ ap Some (sym is))))));
        nothing = c.in_ok-commit.ensures.nothing;
        absent = c.in_ok-commit.ensures.meta.absent;
        named = c.in_ok-commit.ensures.meta.named ∙ ap named_out out;
      };
      leaves =
          record {
            slots = c.in_ok-commit.ensures.stays.losses.slots ∙ c.attach.ensures.leaves.slots;
            setup = c.in_ok-commit.ensures.stays.setup ∙ setup;
            writes = c.in_ok-commit.ensures.cells.writes ∙ ap (λ (m : Meta). m.writes) fresh;
            spared = but_lost (g.R.Rack.slot (store_rack a.store)) (g.R.Rack.slot (store_rack b.store)) (g.R.Rack.slot (store_rack new.store)) c.args.disk c.attach.ensures.leaves.others c.commit.ensures.stays.losses.spared;
          };
      there = λ is. record {
        fresh = marked_back _ new.meta marked (c.is_gone.ensures.back (back_is _ is)) ∙ ap (λ (m : Meta). record m { epoch = m.epoch + 1 }) fresh;
        spins = (back_well (g.R.Rack.slot (store_rack b.store)) (g.R.Rack.slot (store_rack new.store)) b.meta new.meta c.args.disk c.in_ok-commit.ensures.stays.losses.marks (c.is_gone.ensures.back (back_is _ is))).0
            ∙ ap (λ (s : Slot). s.power) (c.attach.ensures.attached here);
        size = (back_well (g.R.Rack.slot (store_rack b.store)) (g.R.Rack.slot (store_rack new.store)) b.meta new.meta c.args.disk c.in_ok-commit.ensures.stays.losses.marks (c.is_gone.ensures.back (back_is _ is))).1
            ∙ ap (λ (s : Slot). s.size) (c.attach.ensures.attached here);
      };
      lacks = λ is. record {
        gone = let lost = marked_lost _ new.meta c.args.disk (ap named_out out) (ap gone_out out) marked (c.is_gone.ensures.gone (gone_is _ is)) in
            inr (lost ∙ ap (λ (m : Meta). meta_after_loss (record m { epoch = m.epoch + 1 }) c.args.disk) fresh ∙ ap (λ (m : Meta). record m { epoch = m.epoch + 1 }) (gone_settled a.meta c.args.disk c.requires.committed.serving.ready.in_range c.requires.gone));
        risen = subst (λ (x : ℕ). HasRisen x (g.R.Rack.slot (store_rack new.store) c.args.disk).faults) faults
            (gone_failed (g.R.Rack.slot (store_rack b.store)) (g.R.Rack.slot (store_rack new.store)) b.meta new.meta c.args.disk (ap named_out out) (ap gone_out out) c.in_ok-commit.ensures.stays.losses.marks (c.is_gone.ensures.gone (gone_is _ is)));
      };
      table = c.commit.ensures.cells.table ∙ c.attach.ensures.leaves.staged.table;
      keeps = record {
        slots = c.commit.ensures.stays.losses.slots ∙ c.attach.ensures.leaves.slots;
        later =
            let new = g.R.Rack.slot (store_rack c.commit.new.self.store) in
            counts_then old mid new (attached_counts old mid c.args.disk c.attach.ensures.leaves.others (ap (λ (s : Slot). s.faults) (c.attach.ensures.attached c.if-not-attach.false))) (no_fall_counts mid new c.commit.ensures.stays.losses.spared.no_fall);
        two = tt;
      };
      moments = λ h lo.
          ended (IsCoreHeld g.R.Rack.slot_count a h lo) (CoreCommitted g.R.Rack.slot_count a h lo (Gone c.args.disk)) (IsCoreHeldSinceCommit g.R.Rack.slot_count a h lo) _ _
          (beside _ _ _ _ (core_down a) (named_of a.store) h refl refl (λ x is. knows_named (named_of a.store) (named_out a.meta.out) x is) lo (CoreCommitted g.R.Rack.slot_count a h lo (Gone c.args.disk)) (IsCoreHeldSinceCommit g.R.Rack.slot_count a h lo) _ _
          (chain_held g.R.Rack.slot_count g.R.Rack.told a b c.attach.ensures.leaves.slots setup same.named (CoreCommitted g.R.Rack.slot_count a h lo (Gone c.args.disk)) (CoreStandsFor g.R.Rack.slot_count b h lo) h lo _ (c.attach.ensures.stands h lo) (c.commit.ensures.held_since.moments_since c.attach.ensures.leaves.absent h lo)));
      stands = λ h.
          beside _ _ _ _ (core_down a) (named_of a.store) h refl refl (λ x is. knows_named (named_of a.store) (named_out a.meta.out) x is) (length h) (CoreCommitted g.R.Rack.slot_count a h (length h) (Gone c.args.disk)) (CoreStandsFor g.R.Rack.slot_count new h (length h)) _ _
          (chain g.R.Rack.slot_count g.R.Rack.told a b c.attach.ensures.leaves.slots setup same.named (CoreCommitted g.R.Rack.slot_count a h (length h) (Gone c.args.disk)) (CoreStandsFor g.R.Rack.slot_count b h (length h)) (CoreStandsFor g.R.Rack.slot_count new h (length h)) h (length h) _ (c.attach.ensures.stands h (length h)) (c.in_ok-commit.ensures.held_since.since c.attach.ensures.leaves.absent h (length h)));
      committed = λ is h.
          let last =
          subst (λ (o : Out). Ran (g.R.Rack.told (store_rack b.store)) (g.R.Rack.told (store_rack new.store)) (CrashTriple (IsCoreHeldSinceCommit g.R.Rack.slot_count b h (length h)) (CoreStandsFor g.R.Rack.slot_count b h (length h)) (CoreCommitted g.R.Rack.slot_count new h (length h) o))) out
          (c.in_ok-commit.ensures.held_since.committed c.attach.ensures.leaves.absent h (length h)) in
          beside _ _ _ _ (core_down a) (named_of a.store) h refl refl (λ x is. knows_named (named_of a.store) (named_out a.meta.out) x is) (length h) (CoreCommitted g.R.Rack.slot_count a h (length h) (Gone c.args.disk)) (CoreCommitted g.R.Rack.slot_count new h (length h) (Fresh c.args.disk 0)) _ _
          (chain g.R.Rack.slot_count g.R.Rack.told a b c.attach.ensures.leaves.slots setup same.named (CoreCommitted g.R.Rack.slot_count a h (length h) (Gone c.args.disk)) (CoreStandsFor g.R.Rack.slot_count b h (length h)) (CoreCommitted g.R.Rack.slot_count new h (length h) (Fresh c.args.disk 0)) h (length h) _ (c.attach.ensures.stands h (length h)) (last));
      event = λ samples served energy h lo.
          let fresh = it.fresh here in
          let k = service_of g.R.Rack.slot_count a samples served energy in
          let k_fresh = service_of g.R.Rack.slot_count b samples served energy in
          let k_then = service_of g.R.Rack.slot_count new samples served energy in
          let equal : k_fresh ≡ with_fresh k c.args.disk = same_service g.R.Rack.slot_count a b samples served energy (meta_with_out a.meta (Fresh c.args.disk 0)) it.leaves.slots it.leaves.store.named fresh it.leaves.staged.table it.leaves.staged.batch it.leaves.staged.copied in
          came (record {
            attached = g.R.Rack.told (store_rack b.store);
            attach = subst (λ (y : Service). Ran (g.R.Rack.told (store_rack a.store)) (g.R.Rack.told (store_rack b.store)) (AttachesInEvent k y h lo c.args.disk true)) equal
                (attach_told (g.R.Rack.told (store_rack a.store)) (g.R.Rack.told (store_rack b.store)) k k_fresh h lo c.args.disk true (g.R.Rack.slot (store_rack b.store)) (g.met.R.Rack.agrees (store_rack b.store)) spins it.calls (it.stands h lo));
            ran = subst (λ (y : Service). Ran (g.R.Rack.told (store_rack b.store)) (g.R.Rack.told (store_rack new.store)) (ServesEvent y k_then h lo h (length h))) equal
                (commit_told (g.R.Rack.told (store_rack b.store)) (g.R.Rack.told (store_rack new.store)) k_fresh k_then h lo c.commit.ensures.brings.calls (c.in_ok-commit.ensures.held_since.since it.leaves.absent h lo) (c.commit.ensures.brings.whole h lo)
                (marked_told (g.R.Rack.told (store_rack new.store)) (g.R.Rack.slot (store_rack b.store)) (g.R.Rack.slot (store_rack new.store)) (g.met.R.Rack.agrees (store_rack new.store)) b.meta new.meta c.in_ok-commit.ensures.stays.losses.marks
                (λ x low absent. ready.absent x (subst (λ (z : Setup). x < z.geometry.disks) (sym new_setup) low) absent)
                (fresh_stays (g.R.Rack.slot (store_rack b.store)) (g.R.Rack.slot (store_rack new.store)) b.meta new.meta c.in_ok-commit.ensures.stays.losses.marks
                (λ x u out. fresh_there (g.R.Rack.slot (store_rack b.store)) c.args.disk x u spins (sym (ap (λ (m : Meta). m.out) fresh) ∙ out)))));
            ends = subst (λ (y : Service). CommitsAll y k_then) equal
                (commits_all g.R.Rack.slot_count b new samples served energy (copies_kept a b setup it.leaves.staged.copied c.requires.committed.serving.copies_synced) c.commit.ensures.stays.losses.slots new_setup c.in_ok-commit.ensures.meta.epoch c.in_ok-commit.ensures.nothing c.commit.ensures.cells.table c.commit.ensures.stays.copied);
          });
      loses = tt;
    }
