use Rattle.std.proofs.Common.{◌≡◌, ℕ, Option, ◌+◌, ◌∙◌, ◌<◌, Some, None, sym, ap, subst, refl, length, arith, inl}
use Rattle.paraid_base.specs.Pairs.{pairs_of}
use Rattle.paraid_dirty.specs.Table.{is_dirty}
use Rattle.paraid_image.specs.Out.{named_out, or_else}
use Rattle.paraid_record.specs.declared.meta.Meta.{Meta}
use Rattle.paraid_txn.specs.Stores.{disks_of, epoch_of, named_of, store_rack}
use Rattle.paraid_core.specs.CoreInvariant.{CanServe, AreSlotsReady, HoldsBetweenCalls, lost_in}
use Rattle.std.specs.Prelude.{◌^◌, ◌++◌, ◌∷◌, [], false}
use Rattle.paraid_image.specs.Sides.{Batch}
use Rattle.paraid_rack.specs.Disks.{is_present}
use Rattle.paraid_core.specs.declared.staged.Core.{Core}
use Rattle.paraid_core.specs.Taken.{IsTakenIn, AreApart}
use Rattle.paraid_core.proofs.AcceptLemmas.{accepted_ready, accepted_stands}
use Rattle.paraid_core.proofs.AfterLemmas.{marked_setup, marked_writes, handed}
use Rattle.paraid_core.proofs.BitsLemmas.{bits_counted}
use Rattle.paraid_plan.specs.WrittenBits.{bits_after_writes}
use Rattle.paraid_core.proofs.ChainLemmas.{down_lost, down_same, marked_epoch}
use Rattle.paraid_base.specs.History.{History}
use Rattle.paraid_core.specs.Cores.{IsCoreHeldSinceCommit, CoreStandsFor, core_down}
use Rattle.paraid_core.specs.Down.{HasLostOne}
use Rattle.paraid_core.proofs.FailLemmas.{is_err_then, lost_one}
use Rattle.paraid_core.proofs.TryLemmas.{dropped_ready, dropped_serves, dropped_stands, kept_ready, kept_serves, kept_stands, ended_held, not_err, since_held, try_moments, try_two}
use Rattle.paraid_core.proofs.KindLemmas.{calls_off, gone_named, reads_of}
use Rattle.paraid_core.proofs.LostMarkLemmas.{marks_none, marks_read}
use Rattle.paraid_view.specs.Reads.{AreLeft}
use Rattle.paraid_core.proofs.OrderLemmas.{lose_tells}
use Rattle.paraid_rack.specs.Told.{Ran, CrashTriple}
use Rattle.paraid_image.specs.Lost.{TellsLosses}
use Rattle.paraid_image.specs.Mark.{meta_with_lost}
use Rattle.paraid_core.proofs.staged.Core.try_write.Given.{Over}
use Rattle.paraid_core.proofs.staged.Core.try_write.Goals as goal
use Rattle.std.proofs.lemmas.Bool.{true≢false}
use Rattle.paraid_view.proofs.TwoLemmas.{left_spared, left_synced}
use Rattle.paraid_core.proofs.ErrLemmas.{none_done, none_done_if}
use Rattle.paraid_core.proofs.staged.Core.try_write.Goals.{After-clear-2, In_ok-lose}

-- the disk that failed is the only one that is out
module _ (g : Over) (c : In_ok-lose g) where
  free : (d x : ℕ) → c.draft_writes.new.self.failed ≡ Some d → named_out c.args.self.now.meta.out ≡ Some x → ⊥
  free d x is named =
      let led = c.draft_writes.ensures.leads in
      let below = led.below d refl is in
      let same : x ≡ d =
      c.in_ok-lose.ensures.alone d x is (ap (λ (z : Meta). named_out z.out) led.meta ∙ named)
      (subst (λ (z : Meta). d < z.setup.geometry.disks) (sym led.meta) (subst (λ (z : ℕ). d < z) (sym c.requires.serving.ready.array_is) below.0)) in
      below.1 (named ∙ ap Some same)

  bits : is_dirty c.undo.new.dirty ≡ is_dirty c.args.self.now.dirty
  bits = c.undo.ensures.bits ∙ c.draft_writes.ensures.leads.undone_same

  has_lost : HasLostOne (core_down c.args.self.now) (or_else (named_of c.draft_writes.new.self.store) (named_out c.lose.new.meta.out)) (g.R.Rack.slot (store_rack c.args.self.now.store)) (g.R.Rack.slot (store_rack c.draft_writes.new.self.store))
  has_lost =
      lost_one g.R.Rack.slot_count g.R.Rack.slot g.R.Rack.told c.args.self.now c.draft_writes.new.self c.draft_writes.ensures.leads c.requires.serving.ready c.requires.serving.serves free c.lose.new.meta c.in_ok-lose.ensures.marked
      (is_err_then c.draft_writes.result _ (sym c.is_err.ensures.value ∙ c.if-is_err.true) c.draft_writes.ensures.fails)

  since_dropped : (h : History) (lo : ℕ) → Ran (g.R.Rack.told (store_rack c.args.self.now.store)) (g.R.Rack.told (store_rack c.draft_writes.new.self.store)) (CrashTriple (IsCoreHeldSinceCommit g.R.Rack.slot_count c.args.self.now h lo) (CoreStandsFor g.R.Rack.slot_count c.args.self.now h lo)
      (HoldsBetweenCalls (g.R.Rack.slot_count (store_rack c.draft_writes.new.self.store)) (named_of c.draft_writes.new.self.store) c.lose.new.meta c.undo.new.dirty c.draft_writes.new.self.batch c.draft_writes.new.self.copied h lo))
  since_dropped h lo =
      let old = c.args.self.now in
      let pl = c.draft_writes.new.self in
      dropped_stands g.R.Rack.slot_count g.R.Rack.slot g.R.Rack.told old pl c.draft_writes.ensures.leads c.requires.serving.ready c.requires.serving.serves free (g.met.R.Rack.agrees (store_rack old.store)) (g.met.R.Rack.agrees (store_rack pl.store))
      (g.met.R.Rack.slots_hold (store_rack pl.store)).absent c.lose.new.meta c.undo.new.dirty c.in_ok-lose.ensures.marked c.undo.ensures.rows bits h lo

-- the plan was made, and no disk has failed
module _ (g : Over) (c : After-clear-2 g) where
  whole : c.draft_writes.new.self.failed ≡ None
  whole = (not_err c.draft_writes.result _ (sym c.is_err.ensures.value ∙ c.if-is_err.false) c.draft_writes.ensures.whole).whole

  none_failed : (d x : ℕ) → c.draft_writes.new.self.failed ≡ Some d → named_out c.args.self.now.meta.out ≡ Some x → ⊥
  none_failed d x is named = let z : None ≡ Some d = sym (whole) ∙ is in cc

  abbrev old : Core g.row.R.Denot g.R.Rack
  old = c.args.self.now

  abbrev pl : Core g.row.R.Denot g.R.Rack
  pl = c.draft_writes.new.self

  ready_then : AreSlotsReady (g.R.Rack.slot_count (store_rack pl.store)) (g.R.Rack.slot (store_rack pl.store)) (epoch_of pl.store) (disks_of pl.store) (named_of pl.store) pl.meta (length pl.dirty) pl.batch
  ready_then =
      kept_ready g.R.Rack.slot_count g.R.Rack.slot g.R.Rack.told old pl c.draft_writes.ensures.leads c.requires.serving.ready c.requires.serving.serves none_failed (g.met.R.Rack.agrees (store_rack old.store)) (g.met.R.Rack.agrees (store_rack pl.store))
      (g.met.R.Rack.slots_hold (store_rack pl.store)).absent whole

  serves_after : CanServe (g.R.Rack.slot (store_rack pl.store)) (named_of pl.store) pl.meta
  serves_after =
      kept_serves g.R.Rack.slot_count g.R.Rack.slot g.R.Rack.told old pl c.draft_writes.ensures.leads c.requires.serving.ready c.requires.serving.serves none_failed (g.met.R.Rack.agrees (store_rack old.store)) (g.met.R.Rack.agrees (store_rack pl.store))
      (g.met.R.Rack.slots_hold (store_rack pl.store)).absent whole

  taken_from : IsTakenIn old.meta old.batch pl.draft c.take.new.batch
  taken_from =
      let led = c.draft_writes.ensures.leads in
      subst (λ (z : Batch). IsTakenIn old.meta z pl.draft c.take.new.batch) led.batch (subst (λ (z : Meta). IsTakenIn z pl.batch pl.draft c.take.new.batch) led.meta c.take.ensures)

  absent_then : (d : ℕ) → d < old.meta.setup.geometry.disks → is_present (g.R.Rack.slot (store_rack pl.store) d).power ≡ false → named_out old.meta.out ≡ Some d
  absent_then = subst (λ (z : Meta). (d : ℕ) → d < z.setup.geometry.disks → is_present (g.R.Rack.slot (store_rack pl.store) d).power ≡ false → named_out z.out ≡ Some d) c.draft_writes.ensures.leads.meta ready_then.absent

  since_then : (h : History) (lo : ℕ) → Ran (g.R.Rack.told (store_rack old.store)) (g.R.Rack.told (store_rack pl.store)) (CrashTriple (IsCoreHeldSinceCommit g.R.Rack.slot_count old h lo) (CoreStandsFor g.R.Rack.slot_count old h lo)
      (HoldsBetweenCalls (g.R.Rack.slot_count (store_rack pl.store)) (named_of pl.store) (record pl.meta { writes = pl.meta.writes + 1 }) pl.dirty c.take.new.batch pl.copied (h ++ pairs_of c.args.pairs.now ∷ []) lo))
  since_then h lo =
      let led = c.draft_writes.ensures.leads in
      accepted_stands g.R.Rack.slot_count g.R.Rack.slot g.R.Rack.told old pl led c.requires.serving.ready.in_range whole (g.met.R.Rack.agrees (store_rack old.store)) (g.met.R.Rack.agrees (store_rack pl.store)) absent_then
      (pairs_of c.args.pairs.now) (not_err c.draft_writes.result _ (sym c.is_err.ensures.value ∙ c.if-is_err.false) c.draft_writes.ensures.writes)
      (not_err c.draft_writes.result _ (sym c.is_err.ensures.value ∙ c.if-is_err.false) c.draft_writes.ensures.some) c.take.new.batch taken_from _ _ _ _ _ h lo
      (ap (λ (z : Meta). record z { writes = z.writes + 1 }) led.meta)
      (kept_stands g.R.Rack.slot_count g.R.Rack.slot g.R.Rack.told old pl led c.requires.serving.ready c.requires.serving.serves none_failed (g.met.R.Rack.agrees (store_rack old.store)) (g.met.R.Rack.agrees (store_rack pl.store))
      (g.met.R.Rack.slots_hold (store_rack pl.store)).absent whole h lo)

pub returns-then-is_err : goal.returns-then-is_err
returns-then-is_err g c = record {
  draft = c.clear.ensures;
  reads = record {
    stays = record {
      copied = c.draft_writes.ensures.leads.copied;
      losses = record {
        slots = c.draft_writes.ensures.leads.slots;
        spared = left_spared _ _ _ (c.draft_writes.ensures.leads.left refl);
        two = tt;
        tells = tt;
        marks =
            let m = c.args.self.now.meta in
            let led = c.draft_writes.ensures.leads in
            let lost = c.draft_writes.new.self.failed in
            marks_read m c.lose.new.meta lost _ _ m.epoch m.writes (led.left refl) (c.in_ok-lose.ensures.marked ∙ ap (λ (z : Meta). meta_with_lost (lost_in z lost) z) led.meta)
            (λ d is. subst (λ (z : ℕ). d < z) (sym c.requires.serving.ready.array_is) (led.below d refl is).0) (λ d x is k. absurd (free g c d x is k));
      };
      ready =
          let old = c.args.self.now in
          let pl = c.draft_writes.new.self in
          dropped_ready g.R.Rack.slot_count g.R.Rack.slot g.R.Rack.told old pl c.draft_writes.ensures.leads c.requires.serving.ready c.requires.serving.serves (free g c) (g.met.R.Rack.agrees (store_rack old.store)) (g.met.R.Rack.agrees (store_rack pl.store))
          (g.met.R.Rack.slots_hold (store_rack pl.store)).absent c.lose.new.meta c.undo.new.dirty c.in_ok-lose.ensures.marked c.undo.ensures.rows (bits g c);
      setup =
          let led = c.draft_writes.ensures.leads in
          ap (λ (z : Meta). z.setup) c.in_ok-lose.ensures.marked ∙ marked_setup _ _ ∙ ap (λ (z : Meta). z.setup) led.meta;
      down = down_lost _ _ _ _ (has_lost g c);
    };
    serves =
        let old = c.args.self.now in
        let pl = c.draft_writes.new.self in
        dropped_serves g.R.Rack.slot_count g.R.Rack.slot g.R.Rack.told old pl c.draft_writes.ensures.leads c.requires.serving.ready c.requires.serving.serves (free g c) (g.met.R.Rack.agrees (store_rack old.store)) (g.met.R.Rack.agrees (store_rack pl.store))
        (g.met.R.Rack.slots_hold (store_rack pl.store)).absent c.lose.new.meta c.undo.new.dirty c.in_ok-lose.ensures.marked c.undo.ensures.rows (bits g c);
    still_synced = left_synced _ _ _ (c.draft_writes.ensures.leads.left refl);
    calls =
        let led = c.draft_writes.ensures.leads in
        calls_off _ _ _ _ (sym c.requires.serving.ready.array_is) (gone_named c.args.self.now.meta.out) _ _ led.calls led.off;
    reads = reads_of _ _ (sym c.requires.serving.ready.array_is) _ _ c.draft_writes.ensures.leads.calls;
    epoch = ap (λ (z : Meta). z.epoch) c.in_ok-lose.ensures.marked ∙ marked_epoch _ _ ∙ ap (λ (z : Meta). z.epoch) c.draft_writes.ensures.leads.meta;
    named = c.draft_writes.ensures.leads.same.named;
    moments_since = λ h lo. try_moments g.R.Rack.slot_count g.R.Rack.slot g.R.Rack.told c.args.self.now c.draft_writes.new.self c.draft_writes.ensures.leads c.requires.serving.ready h lo;
  };
  room = let same = ap length c.draft_writes.ensures.leads.batch in omega (arith, same);
  dropped = λ is. c.draft_writes.ensures.leads.batch;
  bits = bits g c;
  writes = let same = ap (λ (z : Meta). z.writes) c.in_ok-lose.ensures.marked ∙ marked_writes _ _ ∙ ap (λ (z : Meta). z.writes) c.draft_writes.ensures.leads.meta in omega (arith, same);
  lost = λ is. has_lost g c;
  moments = λ h lo.
      ended_held _ _ _ (named_out c.args.self.now.meta.out) h lo _ _ _ (try_moments g.R.Rack.slot_count g.R.Rack.slot g.R.Rack.told c.args.self.now c.draft_writes.new.self c.draft_writes.ensures.leads c.requires.serving.ready h lo);
  stands = λ h lo. since_held _ _ _ (named_out c.args.self.now.meta.out) h lo _ _ _ _ (since_dropped g c h lo);
  since = since_dropped g c;
}

pub returns : goal.returns
returns g c = record {
  draft = c.clear-2.ensures;
  reads = record {
    stays = record {
      copied = c.draft_writes.ensures.leads.copied;
      losses = record {
        slots = c.draft_writes.ensures.leads.slots;
        spared = left_spared _ _ _ (c.draft_writes.ensures.leads.left refl);
        two = tt;
        tells = tt;
        marks =
            let m = c.args.self.now.meta in
            let led = c.draft_writes.ensures.leads in
            let left = subst (λ (o : Option ℕ). AreLeft o (g.R.Rack.slot (store_rack c.args.self.now.store)) (g.R.Rack.slot (store_rack c.draft_writes.new.self.store))) (whole g c) (led.left refl) in
            marks_none m _ (g.R.Rack.slot (store_rack c.args.self.now.store)) (g.R.Rack.slot (store_rack c.draft_writes.new.self.store)) m.epoch (m.writes + 1)
            (λ d. left.others d (λ is. let z : None ≡ Some d = is in cc)) (ap (λ (z : Meta). record z { writes = z.writes + 1 }) led.meta);
      };
      ready =
          let old = c.args.self.now in
          let pl = c.draft_writes.new.self in
          accepted_ready _ _ _ _ _ pl.meta _ pl.batch (ready_then g c) (serves_after g c) c.take.new.batch pl.draft c.take.ensures
          (subst (λ (z : Meta). z.writes + 1 < 2 ^ 64) (sym c.draft_writes.ensures.leads.meta) c.requires.fits);
      setup = ap (λ (z : Meta). z.setup) c.draft_writes.ensures.leads.meta;
      down =
          let led = c.draft_writes.ensures.leads in
          down_same _ _ _ _ (ap (λ (z : Option ℕ). or_else z (named_out c.draft_writes.new.self.meta.out)) led.same.named ∙ ap (λ (z : Meta). or_else (named_of c.args.self.now.store) (named_out z.out)) led.meta);
    };
    serves = let serves = serves_after g c in record { spins = serves.spins; large = serves.large; stays = serves.stays };
    still_synced = left_synced _ _ _ (c.draft_writes.ensures.leads.left refl);
    calls =
        let led = c.draft_writes.ensures.leads in
        calls_off _ _ _ _ (sym c.requires.serving.ready.array_is) (gone_named c.args.self.now.meta.out) _ _ led.calls led.off;
    reads = reads_of _ _ (sym c.requires.serving.ready.array_is) _ _ c.draft_writes.ensures.leads.calls;
    epoch = ap (λ (z : Meta). z.epoch) c.draft_writes.ensures.leads.meta;
    named = c.draft_writes.ensures.leads.same.named;
    moments_since = λ h lo. try_moments g.R.Rack.slot_count g.R.Rack.slot g.R.Rack.told c.args.self.now c.draft_writes.new.self c.draft_writes.ensures.leads c.requires.serving.ready h lo;
  };
  room = let same = ap length c.draft_writes.ensures.leads.batch in let taken = c.take.ensures.room in let few = not_err c.draft_writes.result _ (sym c.is_err.ensures.value ∙ c.if-is_err.false) c.draft_writes.ensures.few in omega (arith, same, taken, few);
  dropped = λ is. absurd (true≢false is);
  bits =
      not_err c.draft_writes.result _ (sym c.is_err.ensures.value ∙ c.if-is_err.false) c.draft_writes.ensures.bits
      ∙ sym (bits_counted c.args.self.now.meta (pairs_of c.args.pairs.now) (c.args.self.now.meta.writes + 1) (is_dirty c.args.self.now.dirty))
      ∙ ap (λ (z : Meta). bits_after_writes (record z { writes = z.writes + 1 }) (pairs_of c.args.pairs.now) (is_dirty c.args.self.now.dirty)) (sym c.draft_writes.ensures.leads.meta);
  writes = ap (λ (z : Meta). z.writes + 1) c.draft_writes.ensures.leads.meta;
  lost = λ is. absurd (true≢false is);
  moments = λ h lo.
      ended_held _ _ _ (named_out c.args.self.now.meta.out) h lo _ _ _ (try_moments g.R.Rack.slot_count g.R.Rack.slot g.R.Rack.told c.args.self.now c.draft_writes.new.self c.draft_writes.ensures.leads c.requires.serving.ready h lo);
  stands = λ h lo. since_held _ _ _ (named_out c.args.self.now.meta.out) h lo _ _ _ _ (since_then g c h lo);
  since = since_then g c;
}

pub returns-in_err-lose : goal.returns-in_err-lose
returns-in_err-lose g c = record {
  draft = c.clear.ensures;
  reads = record {
    stays = record {
      copied = c.draft_writes.ensures.leads.copied;
      losses = record {
        slots = c.draft_writes.ensures.leads.slots;
        spared = left_spared _ _ _ (c.draft_writes.ensures.leads.left refl);
        two =
            handed _ c.from_residual.result _ c.from_residual.ensures.1
            (try_two g.R.Rack.slot_count g.R.Rack.slot g.R.Rack.told c.args.self.now c.draft_writes.new.self c.draft_writes.ensures.leads c.requires.serving.ready _ c.in_err-lose.ensures.two);
        tells =
            let led = c.draft_writes.ensures.leads in
            let both = c.in_err-lose.ensures.two in
            handed (λ two. Ran (g.R.Rack.told (store_rack c.args.self.now.store)) (g.R.Rack.told (store_rack c.draft_writes.new.self.store)) (λ s cs. TellsLosses (named_out c.args.self.now.meta.out) two cs)) c.from_residual.result _ c.from_residual.ensures.1
            (lose_tells (named_out c.args.self.now.meta.out) c.draft_writes.new.self.failed _ _ _ (both.0, sym (ap (λ (z : Meta). named_out z.out) led.meta) ∙ both.1, both.2) (led.ends refl));
        marks = none_done _ c.from_residual.result _ c.from_residual.ensures.1;
      };
      ready = none_done _ c.from_residual.result _ c.from_residual.ensures.1;
      setup = none_done _ c.from_residual.result _ c.from_residual.ensures.1;
      down = none_done _ c.from_residual.result _ c.from_residual.ensures.1;
    };
    serves = none_done _ c.from_residual.result _ c.from_residual.ensures.1;
    still_synced = left_synced _ _ _ (c.draft_writes.ensures.leads.left refl);
    calls =
        let led = c.draft_writes.ensures.leads in
        calls_off _ _ _ _ (sym c.requires.serving.ready.array_is) (gone_named c.args.self.now.meta.out) _ _ led.calls led.off;
    reads = reads_of _ _ (sym c.requires.serving.ready.array_is) _ _ c.draft_writes.ensures.leads.calls;
    epoch = none_done _ c.from_residual.result _ c.from_residual.ensures.1;
    named = c.draft_writes.ensures.leads.same.named;
    moments_since = λ h lo. try_moments g.R.Rack.slot_count g.R.Rack.slot g.R.Rack.told c.args.self.now c.draft_writes.new.self c.draft_writes.ensures.leads c.requires.serving.ready h lo;
  };
  room = none_done_if _ c.from_residual.result _ c.from_residual.ensures.1;
  dropped = none_done_if _ c.from_residual.result _ c.from_residual.ensures.1;
  bits = none_done_if _ c.from_residual.result _ c.from_residual.ensures.1;
  writes = none_done_if _ c.from_residual.result _ c.from_residual.ensures.1;
  lost = none_done_if _ c.from_residual.result _ c.from_residual.ensures.1;
  moments = λ h lo. ended_held _ _ _ (named_out c.args.self.now.meta.out) h lo _ _ _ (try_moments g.R.Rack.slot_count g.R.Rack.slot g.R.Rack.told c.args.self.now c.draft_writes.new.self c.draft_writes.ensures.leads c.requires.serving.ready h lo);
  stands = none_done_if _ c.from_residual.result _ c.from_residual.ensures.1;
  since = none_done_if _ c.from_residual.result _ c.from_residual.ensures.1;
}

pub draft_writes-requires : goal.draft_writes-requires
draft_writes-requires g c = record {
  serving = record {
    ready = c.requires.serving.ready;
    serves = c.requires.serving.serves;
  };
  blocks = c.requires.blocks;
}

pub take-requires : goal.take-requires
take-requires g c = record {
  room = inl (let same = ap length c.draft_writes.ensures.leads.batch in let few = not_err c.draft_writes.result _ (sym c.is_err.ensures.value ∙ c.if-is_err.false) c.draft_writes.ensures.few in let room = c.requires.room in omega (arith, same, few, room));
  apart = subst AreApart (sym c.draft_writes.ensures.leads.batch) c.requires.serving.ready.apart;
}
