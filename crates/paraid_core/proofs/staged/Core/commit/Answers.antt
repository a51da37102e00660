use Rattle.std.proofs.lemmas.Result.{IfErr-weaker, on_ok_weaker}
use Rattle.paraid_core.specs.Steps.{IsPutOut, IsMarkedFrom}
use Rattle.std.proofs.Common.{◌≡◌, ℕ, ◌+◌, ◌∙◌, Some, None, sym, ap, subst, Option, ◌<◌, OnOk, arith, inl, inr, refl}
use Rattle.paraid_txn.specs.Stores.{disks_of, epoch_of, named_of, store_rack}
use Rattle.paraid_record.specs.declared.meta.Meta.{Meta}
use Rattle.paraid_core.proofs.CommitLemmas.{commit_filled, commit_marked, commit_moments, commit_stands, commit_whole, commit_rests}
use Rattle.std.specs.Prelude.{◌-◌, ◌^◌, ◌⊎◌, length, false, []}
use Rattle.paraid_rack.specs.Disks.{is_present}
use Rattle.paraid_rack.specs.Slots.{Slot}
use Rattle.paraid_txn.specs.Losses.{AreTwoDown}
use Rattle.paraid_txn.specs.Losses.IsOutOfCommit.{was_named, is_named}
use Rattle.paraid_image.specs.Out.{named_out, or_else}
use Rattle.paraid_image.specs.Sides.{Batch}
use Rattle.paraid_core.specs.CoreInvariant.{CanServe, AreSlotsReady, HoldsBetweenCalls, lost_in}
use Rattle.paraid_base.specs.History.{History}
use Rattle.paraid_core.specs.Cores.{CoreStandsFor, IsCoreHeld}
use Rattle.paraid_core.specs.Fills.{KeepsFilled}
use Rattle.paraid_core.proofs.UnsyncedLemmas.{gone_marked, unsynced_kept}
use Rattle.paraid_core.proofs.AfterLemmas.{commit_lost_only, handed, lost_in_low, lost_in_was, ready_after, ready_moved, marked_setup, marked_writes, ready_next, serve_after, two_down, lost_in_is}
use Rattle.paraid_core.specs.Cleaning.{is_cleaned}
use Rattle.paraid_core.proofs.CleanLemmas.{cleans_marked}
use Rattle.paraid_core.proofs.ChainLemmas.{down_marked, marked_epoch, marked_out}
use Rattle.paraid_core.proofs.ReadyLemmas.{IsLostOnly, can_bear, some_is}
use Rattle.paraid_core.proofs.SinceLemmas.{core_since, core_since_end}
use Rattle.paraid_core.proofs.KindLemmas.{calls_milder, uses_transfer}
use Rattle.paraid_core.proofs.LostMarkLemmas.{marks_commit}
use Rattle.paraid_core.proofs.OrderLemmas.{commit_only}
use Rattle.paraid_rack.specs.Told.{Ran, CrashTriple}
use Rattle.paraid_image.specs.Lost.{TellsLosses}
use Rattle.paraid_image.specs.Mark.{meta_with_lost}
use Rattle.paraid_core.proofs.staged.Core.commit.Given.{Over}
use Rattle.paraid_core.proofs.staged.Core.commit.Goals as goal
use Rattle.paraid_core.proofs.ErrLemmas.{both_put, none_done, on_ok_any}
use Rattle.paraid_core.proofs.staged.Core.commit.Goals.{After-lose}

pub returns-in_err-lost : goal.returns-in_err-lost
returns-in_err-lost g c = record {
  cells = record {
    draft = refl;
    table = refl;
    writes = none_done _ c.from_residual.result _ c.from_residual.ensures.1;
    cleans_less = none_done _ c.from_residual.result _ c.from_residual.ensures.1;
  };
  stays = record {
    copied = refl;
    losses = record {
      slots = c.commit.ensures.keeps.slots;
      spared = c.commit.ensures.keeps.powers;
      two =
          let old = c.args.self.now in
          let slot = g.R.Rack.slot (store_rack old.store) in
          handed (AreTwoDown (or_else (named_of old.store) (named_out old.meta.out)) slot (g.R.Rack.slot (store_rack c.commit.new.self))) c.from_residual.result _ c.from_residual.ensures.1
          (two_down (named_of old.store) (λ x. (slot x).power) (disks_of old.store) old.meta c.requires.ready.array_is c.requires.ready.absent c.requires.ready.one slot (g.R.Rack.slot (store_rack c.commit.new.self)) _ c.in_err-lost.ensures.keeps.two);
      tells =
          let old = c.args.self.now in
          let ready = c.requires.ready in
          handed (λ two. Ran (g.R.Rack.told (store_rack c.args.self.now.store)) (g.R.Rack.told (store_rack c.commit.new.self)) (λ s cs. TellsLosses (or_else (named_of c.args.self.now.store) (named_out c.args.self.now.meta.out)) two cs)) c.from_residual.result _ c.from_residual.ensures.1
          (c.in_err-lost.ensures.keeps.order (or_else (named_of old.store) (named_out old.meta.out)) (commit_only (named_of old.store) (λ e. (g.R.Rack.slot (store_rack old.store) e).power) (disks_of old.store) old.meta ready.array_is ready.absent ready.one));
      marks = none_done _ c.from_residual.result _ c.from_residual.ensures.1;
    };
    ready = none_done _ c.from_residual.result _ c.from_residual.ensures.1;
    setup = none_done _ c.from_residual.result _ c.from_residual.ensures.1;
    down = none_done _ c.from_residual.result _ c.from_residual.ensures.1;
  };
  serves = none_done _ c.from_residual.result _ c.from_residual.ensures.1;
  serves_again = none_done _ c.from_residual.result _ c.from_residual.ensures.1;
  meta = record {
    meta = none_done _ c.from_residual.result _ c.from_residual.ensures.1;
    epoch = none_done _ c.from_residual.result _ c.from_residual.ensures.1;
    named = none_done _ c.from_residual.result _ c.from_residual.ensures.1;
    alone = none_done _ c.from_residual.result _ c.from_residual.ensures.1;
    absent = none_done _ c.from_residual.result _ c.from_residual.ensures.1;
  };
  still_synced = none_done _ c.from_residual.result _ c.from_residual.ensures.1;
  unsynced = none_done _ c.from_residual.result _ c.from_residual.ensures.1;
  brings = record {
    calls = calls_milder _ _ (uses_transfer c.args.self.now.meta c.args.self.now.batch) _ _ c.commit.ensures.calls;
    whole = λ h lo.
        let old = c.args.self.now in
        commit_whole (g.R.Rack.slot_count (store_rack old.store)) (named_of old.store) old.meta old.dirty old.batch old.copied c.requires.committable.copies_synced h lo (epoch_of old.store) c.requires.ready.epoch_is c.requires.ready.in_range c.requires.ready.one _ _ c.commit.ensures.any_moment;
    rest = none_done _ c.from_residual.result _ c.from_residual.ensures.1;
  };
  nothing = none_done _ c.from_residual.result _ c.from_residual.ensures.1;
  held = record {
    moments = λ h lo.
        let old = c.args.self.now in
        commit_moments (g.R.Rack.slot_count (store_rack old.store)) (named_of old.store) old.meta old.dirty old.batch old.copied c.requires.committable.copies_synced h lo (epoch_of old.store) c.requires.ready.epoch_is c.requires.ready.in_range c.requires.ready.one _ _ c.commit.ensures.any_moment;
    stands = none_done _ c.from_residual.result _ c.from_residual.ensures.1;
    filled = none_done _ c.from_residual.result _ c.from_residual.ensures.1;
  };
  held_since = record {
    moments_since = λ absent h lo.
        let old = c.args.self.now in
        core_since_end g.R.Rack.slot_count g.R.Rack.slot g.R.Rack.told c.args.self.now c.requires.ready absent (g.met.R.Rack.agrees (store_rack c.args.self.now.store)) _ c.commit.ensures.calls h lo _
        (commit_moments (g.R.Rack.slot_count (store_rack old.store)) (named_of old.store) old.meta old.dirty old.batch old.copied c.requires.committable.copies_synced h lo (epoch_of old.store) c.requires.ready.epoch_is c.requires.ready.in_range c.requires.ready.one _ _ c.commit.ensures.any_moment);
    since = none_done _ c.from_residual.result _ c.from_residual.ensures.1;
    filled_since = none_done _ c.from_residual.result _ c.from_residual.ensures.1;
    committed = none_done _ c.from_residual.result _ c.from_residual.ensures.1;
  };
}

module _ (g : Over) (c : After-lose g) where
  -- what marking the lost disk does where it succeeds
  puts : OnOk c.lose.result (IsPutOut (record c.args.self.now.meta { epoch = c.epoch-self.result }) c.lose.new.meta c.in_ok-lost.lost)
  puts = both_put c.lose.result (record c.args.self.now.meta { epoch = c.epoch-self.result }) c.lose.new.meta c.in_ok-lost.lost c.lose.ensures.marked c.lose.ensures.alone

  moments_then : (h : History) (lo : ℕ) → Ran (g.R.Rack.told (store_rack c.args.self.now.store)) (g.R.Rack.told (store_rack c.commit.new.self)) (CrashTriple (IsCoreHeld g.R.Rack.slot_count c.args.self.now h lo) (CoreStandsFor g.R.Rack.slot_count c.args.self.now h lo) (IsCoreHeld g.R.Rack.slot_count c.args.self.now h lo))
  moments_then h lo =
      let old = c.args.self.now in
      commit_moments (g.R.Rack.slot_count (store_rack old.store)) (named_of old.store) old.meta old.dirty old.batch old.copied c.requires.committable.copies_synced h lo (epoch_of old.store) c.requires.ready.epoch_is c.requires.ready.in_range c.requires.ready.one _ _ c.commit.ensures.any_moment

module _ (g : Over) (c : After-lose g) (put : IsPutOut (record c.args.self.now.meta { epoch = c.epoch-self.result }) c.lose.new.meta c.in_ok-lost.lost) where
  abbrev m : Meta
  m = c.args.self.now.meta

  abbrev last : ℕ
  last = epoch_of c.args.self.now.store

  abbrev lost : Option ℕ
  lost = lost_in m c.in_ok-lost.lost

  abbrev slot : ℕ → Slot
  slot = g.R.Rack.slot (store_rack c.args.self.now.store)

  abbrev then : ℕ → Slot
  then = g.R.Rack.slot (store_rack c.commit.new.self)

  only : IsLostOnly m.setup.geometry.disks lost slot then
  only = commit_lost_only m c.in_ok-lost.lost slot then c.in_ok-lost.ensures.loss.well c.in_ok-lost.ensures.loss.lost

  alone : (d x : ℕ) → lost ≡ Some d → named_out m.out ≡ Some x → x ≡ d
  alone d x is k = put.alone d x (lost_in_was m c.in_ok-lost.lost d is) k (lost_in_low m c.in_ok-lost.lost d is)

  meta_is : c.lose.new.meta ≡ meta_with_lost lost (record m { epoch = last + 1 })
  meta_is = put.marked ∙ ap (λ (z : ℕ). meta_with_lost (lost_in (record m { epoch = z }) c.in_ok-lost.lost) (record m { epoch = z })) (c.epoch-self.ensures ∙ c.in_ok-lost.ensures.takes.epoch)

  ready_then : AreSlotsReady (g.R.Rack.slot_count (store_rack c.args.self.now.store)) then (last + 1) (disks_of c.args.self.now.store) (named_out m.out) (meta_with_lost lost (record m { epoch = last + 1 })) (length c.args.self.now.dirty) []
  ready_then =
      ready_after _ slot then (last + 1) _ (named_out m.out) (record m { epoch = last + 1 }) _ [] (ready_next _ slot last _ _ m _ _ (last_low) c.requires.ready) c.in_ok-lost.lost only alone alone (λ d is. lost_in_low m c.in_ok-lost.lost d is)
    where
      last_low : last < 2 ^ 64 - 1
      last_low = let e = c.requires.ready.epoch_is in let l = c.requires.committable.epoch in omega arith

  absent_then : (d : ℕ) → d < m.setup.geometry.disks → is_present (then d).power ≡ false → named_out (meta_with_lost lost m).out ≡ Some d
  absent_then d ld gone = by lost (ready_then.absent)
    where
      by : (o : Option ℕ) → ((e : ℕ) → e < (meta_with_lost o (record m { epoch = last + 1 })).setup.geometry.disks → is_present (then e).power ≡ false → named_out (meta_with_lost o (record m { epoch = last + 1 })).out ≡ Some e)
          → named_out (meta_with_lost o m).out ≡ Some d
      by None absent = absent d ld gone
      by (Some e) absent = absent d ld gone

  -- the disk that is lost is the one that was named out, where one was
  alone_named : (d x : ℕ) → lost ≡ Some d → named_of c.args.self.now.store ≡ Some x → x ≡ d
  alone_named d x is was = (c.in_ok-lost.ensures.loss.alone d (lost_in_was m c.in_ok-lost.lost d is)).alone x (was_named was)

  known : (x d : ℕ) → named_of c.args.self.now.store ≡ Some x → named_out (meta_with_lost lost m).out ≡ Some d → x ≡ d
  known x d was is = by lost refl is
    where
      by : (o : Option ℕ) → lost ≡ o → named_out (meta_with_lost o m).out ≡ Some d → x ≡ d
      by None e k = c.requires.ready.one x d was k
      by (Some e) at k = alone_named e x at was ∙ some_is e d k

  marked : IsMarkedFrom (record m { epoch = m.epoch + 1 }) c.lose.new.meta
  marked = record {
    lost = lost;
    is = meta_is ∙ ap (λ (z : ℕ). meta_with_lost lost (record c.args.self.now.meta { epoch = z + 1 })) (sym c.requires.ready.epoch_is);
    alone = alone;
  }

  stands_then : (h : History) (lo : ℕ) → Ran (g.R.Rack.told (store_rack c.args.self.now.store)) (g.R.Rack.told (store_rack c.commit.new.self)) (CrashTriple (IsCoreHeld g.R.Rack.slot_count c.args.self.now h lo) (CoreStandsFor g.R.Rack.slot_count c.args.self.now h lo)
      (HoldsBetweenCalls (g.R.Rack.slot_count (store_rack c.commit.new.self)) (named_of c.commit.new.self) c.lose.new.meta c.args.self.now.dirty c.clear.new.self c.args.self.now.copied h (length h)))
  stands_then h lo =
      let old = c.args.self.now in
      commit_stands (g.R.Rack.slot_count (store_rack old.store)) (named_of old.store) old.meta old.dirty old.batch old.copied c.requires.committable.copies_synced h lo (epoch_of old.store) c.requires.ready.epoch_is c.requires.ready.in_range c.requires.ready.one
      _ _ slot then (g.met.R.Rack.agrees (store_rack old.store)) (g.met.R.Rack.agrees (store_rack c.commit.new.self)) lost known (λ d is. lost_in_low old.meta c.in_ok-lost.lost d is) only alone
      c.requires.ready.absent absent_then (can_bear _ _ _ _ _ _ _ _ c.requires.ready) _ _ _ _ c.commit.ensures.keeps.slots c.in_ok-lost.ensures.takes.named meta_is c.clear.ensures c.commit.ensures.any_moment
      c.in_ok-lost.ensures.committed

  filled_then : (h : History) (lo : ℕ) → Ran (g.R.Rack.told (store_rack c.args.self.now.store)) (g.R.Rack.told (store_rack c.commit.new.self)) (CrashTriple (IsCoreHeld g.R.Rack.slot_count c.args.self.now h lo) (CoreStandsFor g.R.Rack.slot_count c.args.self.now h lo)
      (KeepsFilled (g.R.Rack.slot_count (store_rack c.commit.new.self)) (named_of c.commit.new.self) c.lose.new.meta c.args.self.now.dirty c.args.self.now.copied h (length h) c.lose.new.meta.fill))
  filled_then h lo =
      let old = c.args.self.now in
      commit_filled (g.R.Rack.slot_count (store_rack old.store)) (named_of old.store) old.meta old.dirty old.batch old.copied c.requires.committable.copies_synced h lo (epoch_of old.store) c.requires.ready.epoch_is c.requires.ready.in_range c.requires.ready.one
      _ _ slot then (g.met.R.Rack.agrees (store_rack old.store)) (g.met.R.Rack.agrees (store_rack c.commit.new.self)) lost known (λ d is. lost_in_low old.meta c.in_ok-lost.lost d is) only alone
      c.requires.ready.absent absent_then (can_bear _ _ _ _ _ _ _ _ c.requires.ready) _ _ _ c.commit.ensures.keeps.slots c.in_ok-lost.ensures.takes.named meta_is c.commit.ensures.any_moment
      c.in_ok-lost.ensures.committed

  absent_after : (d : ℕ) → named_out c.lose.new.meta.out ≡ Some d → (named_of c.commit.new.self ≡ Some d) ⊎ (is_present (then d).power ≡ false)
  absent_after d is = by lost refl (ap (λ (z : Meta). named_out z.out) (sym meta_is) ∙ is)
    where
      by : (o : Option ℕ) → lost ≡ o → named_out (meta_with_lost o (record c.args.self.now.meta { epoch = epoch_of c.args.self.now.store + 1 })).out ≡ Some d
          → (named_of c.commit.new.self ≡ Some d) ⊎ (is_present (then d).power ≡ false)
      by None e k = inl (c.in_ok-lost.ensures.takes.named ∙ k)
      by (Some x) e k = inr (ap is_present (only.gone d (e ∙ k)))

pub returns : goal.returns
returns g c = record {
  cells = record {
    draft = refl;
    table = refl;
    writes = on_ok_weaker c.lose.result (λ put. ap (λ (z : Meta). z.writes) (meta_is g c put) ∙ marked_writes (lost g c put) _) (puts g c);
    cleans_less = on_ok_weaker c.lose.result (λ put. λ r d is.
        let old = c.args.self.now in
        subst (λ (z : Meta). is_cleaned z old.dirty r d ≡ false) (sym (meta_is g c put)) (cleans_marked (lost g c put) old.meta (epoch_of old.store + 1) old.dirty r d is)) (puts g c);
  };
  stays = record {
    copied = refl;
    losses = record {
      slots = c.commit.ensures.keeps.slots;
      spared = c.commit.ensures.keeps.powers;
      two = IfErr-weaker c.lose.result _ _ (λ two both. absurd (both.2 ((c.in_ok-lost.ensures.loss.alone _ both.0).alone _ (is_named both.1)))) c.lose.ensures.two;
      tells = IfErr-weaker c.lose.result _ _ (λ two both. absurd (both.2 ((c.in_ok-lost.ensures.loss.alone _ both.0).alone _ (is_named both.1)))) c.lose.ensures.two;
      marks = on_ok_weaker c.lose.result (λ put. let m = c.args.self.now.meta in
          let low : (d : ℕ) → c.in_ok-lost.lost ≡ Some d → d < m.setup.geometry.disks = (λ d is. subst (λ (z : ℕ). d < z) (sym c.requires.ready.array_is) (c.in_ok-lost.ensures.loss.alone d is).below) in
          let last = epoch_of c.args.self.now.store in
          marks_commit m c.lose.new.meta c.in_ok-lost.lost _ _ (last + 1) c.in_ok-lost.ensures.loss.well c.in_ok-lost.ensures.loss.lost
          (meta_is g c put ∙ ap (λ (o : Option ℕ). meta_with_lost o (record m { epoch = last + 1 })) (lost_in_is m c.in_ok-lost.lost low)) low (λ d x is k. put.alone d x is k (low d is))) (puts g c);
    };
    ready = on_ok_weaker c.lose.result (λ put. subst (λ (z : Batch). AreSlotsReady (g.R.Rack.slot_count (store_rack c.commit.new.self)) (then g c put) (epoch_of c.commit.new.self) (disks_of c.commit.new.self) (named_of c.commit.new.self) c.lose.new.meta (length c.args.self.now.dirty) z) (sym c.clear.ensures)
        (ready_moved _ _ (then g c put) _ _ _ _ _ _ (meta_with_lost (lost g c put) (record c.args.self.now.meta { epoch = epoch_of c.args.self.now.store + 1 })) _ _ [] c.commit.ensures.keeps.slots c.in_ok-lost.ensures.takes.epoch c.commit.ensures.keeps.disks c.in_ok-lost.ensures.takes.named (meta_is g c put) (ready_then g c put))) (puts g c);
    setup = on_ok_weaker c.lose.result (λ put. ap (λ (z : Meta). z.setup) (meta_is g c put) ∙ marked_setup (lost g c put) _) (puts g c);
    down = on_ok_weaker c.lose.result (λ put. let old = c.args.self.now in
        down_marked (named_of old.store) old.meta c.in_ok-lost.lost c.lose.new.meta (named_of c.commit.new.self) (slot g c put) (then g c put) c.requires.ready.one
        (ap (λ (z : Meta). named_out z.out) (meta_is g c put) ∙ marked_out (lost g c put) old.meta _) c.in_ok-lost.ensures.loss.lost c.in_ok-lost.ensures.takes.named) (puts g c);
  };
  serves = on_ok_weaker c.lose.result (λ put. λ serves.
      let old = c.args.self.now in
      let after : Meta = record old.meta { epoch = epoch_of old.store + 1 } in
      let low = c.requires.ready.epoch_is in
      let epoch = c.requires.committable.epoch in
      let next = ready_next _ (slot g c put) (epoch_of old.store) _ _ old.meta _ _ (omega arith) c.requires.ready in
      subst (λ (z : Option ℕ). CanServe (then g c put) z c.lose.new.meta) (sym c.in_ok-lost.ensures.takes.named)
      (subst (λ (z : Meta). CanServe (then g c put) (named_out old.meta.out) z) (sym (meta_is g c put))
      (serve_after _ (slot g c put) (then g c put) (epoch_of old.store + 1) _ (named_out old.meta.out) after _ [] next c.in_ok-lost.lost (only g c put) (alone g c put) (alone g c put) (λ d is. lost_in_low old.meta c.in_ok-lost.lost d is)
      (record { spins = serves.spins; large = serves.large; stays = λ d is. is })))) (puts g c);
  serves_again = on_ok_weaker c.lose.result (λ put. λ up.
      let old = c.args.self.now in
      let after : Meta = record old.meta { epoch = epoch_of old.store + 1 } in
      let low = c.requires.ready.epoch_is in
      let epoch = c.requires.committable.epoch in
      let next = ready_next _ (slot g c put) (epoch_of old.store) _ _ old.meta _ _ (omega arith) c.requires.ready in
      subst (λ (z : Option ℕ). CanServe (then g c put) z c.lose.new.meta) (sym c.in_ok-lost.ensures.takes.named)
      (subst (λ (z : Meta). CanServe (then g c put) (named_out old.meta.out) z) (sym (meta_is g c put))
      (serve_after _ (slot g c put) (then g c put) (epoch_of old.store + 1) _ (named_out old.meta.out) after _ [] next c.in_ok-lost.lost (only g c put) (alone g c put) (alone g c put) (λ d is. lost_in_low old.meta c.in_ok-lost.lost d is)
      (record { spins = up.spins; large = up.large; stays = λ d is. is })))) (puts g c);
  meta = record {
    meta = on_ok_weaker c.lose.result (λ put. marked g c put) (puts g c);
    epoch = on_ok_weaker c.lose.result (λ put. ap (λ (z : Meta). z.epoch) (meta_is g c put) ∙ marked_epoch (lost g c put) _ ∙ ap (λ (n : ℕ). n + 1) (sym c.requires.ready.epoch_is)) (puts g c);
    named = on_ok_any c.lose.result c.in_ok-lost.ensures.takes.named;
    alone = on_ok_weaker c.lose.result (λ put. λ x d was is. known g c put x d was (sym (ap (λ (z : Meta). named_out z.out) (meta_is g c put) ∙ marked_out (lost g c put) c.args.self.now.meta _) ∙ is)) (puts g c);
    absent = on_ok_weaker c.lose.result (λ put. absent_after g c put) (puts g c);
  };
  still_synced = on_ok_any c.lose.result c.in_ok-lost.ensures.takes.synced;
  unsynced = on_ok_weaker c.lose.result (λ put. let old = c.args.self.now in
      unsynced_kept g.R.Rack.slot old (record old { store = c.commit.new.self; meta = c.lose.new.meta }) (ap (λ (z : Meta). z.setup) (meta_is g c put) ∙ marked_setup (lost g c put) _)
      (gone_marked (record old.meta { epoch = old.meta.epoch + 1 }) c.lose.new.meta (marked g c put)) c.commit.ensures.keeps.powers refl c.in_ok-lost.ensures.takes.synced) (puts g c);
  brings = record {
    calls = calls_milder _ _ (uses_transfer c.args.self.now.meta c.args.self.now.batch) _ _ c.commit.ensures.calls;
    whole = λ h lo.
        let old = c.args.self.now in
        commit_whole (g.R.Rack.slot_count (store_rack old.store)) (named_of old.store) old.meta old.dirty old.batch old.copied c.requires.committable.copies_synced h lo (epoch_of old.store) c.requires.ready.epoch_is c.requires.ready.in_range c.requires.ready.one _ _ c.commit.ensures.any_moment;
    rest = on_ok_weaker c.lose.result (λ put. λ h lo.
        let old = c.args.self.now in
        commit_rests (g.R.Rack.slot_count (store_rack old.store)) (named_of old.store) old.meta old.dirty old.batch old.copied c.requires.committable.copies_synced h lo (epoch_of old.store) c.requires.ready.epoch_is c.requires.ready.in_range c.requires.ready.one
        _ _ (slot g c put) (then g c put) (g.met.R.Rack.agrees (store_rack old.store)) (g.met.R.Rack.agrees (store_rack c.commit.new.self)) (lost g c put) (known g c put) (λ d is. lost_in_low old.meta c.in_ok-lost.lost d is) (only g c put) (alone g c put)
        c.requires.ready.absent (absent_then g c put) (can_bear _ _ _ _ _ _ _ _ c.requires.ready) c.commit.ensures.any_moment c.in_ok-lost.ensures.committed) (puts g c);
  };
  nothing = on_ok_any c.lose.result c.clear.ensures;
  held = record {
    moments = moments_then g c;
    stands = on_ok_weaker c.lose.result (λ put. stands_then g c put) (puts g c);
    filled = on_ok_weaker c.lose.result (λ put. filled_then g c put) (puts g c);
  };
  held_since = record {
    moments_since = λ absent h lo. core_since_end g.R.Rack.slot_count g.R.Rack.slot g.R.Rack.told c.args.self.now c.requires.ready absent (g.met.R.Rack.agrees (store_rack c.args.self.now.store)) _ c.commit.ensures.calls h lo _ (moments_then g c h lo);
    since = on_ok_weaker c.lose.result (λ put. λ absent h lo. core_since g.R.Rack.slot_count g.R.Rack.slot g.R.Rack.told c.args.self.now c.requires.ready absent (g.met.R.Rack.agrees (store_rack c.args.self.now.store)) _ c.commit.ensures.calls h lo _ _ (stands_then g c put h lo)) (puts g c);
    filled_since = on_ok_weaker c.lose.result (λ put. λ absent h lo. core_since g.R.Rack.slot_count g.R.Rack.slot g.R.Rack.told c.args.self.now c.requires.ready absent (g.met.R.Rack.agrees (store_rack c.args.self.now.store)) _ c.commit.ensures.calls h lo _ _ (filled_then g c put h lo)) (puts g c);
    committed = on_ok_weaker c.lose.result (λ put. λ absent h lo.
        let old = c.args.self.now in
        core_since g.R.Rack.slot_count g.R.Rack.slot g.R.Rack.told old c.requires.ready absent (g.met.R.Rack.agrees (store_rack old.store)) _ c.commit.ensures.calls h lo _ _
        (commit_marked (g.R.Rack.slot_count (store_rack old.store)) (named_of old.store) old.meta old.dirty old.batch old.copied c.requires.committable.copies_synced h lo (epoch_of old.store) c.requires.ready.epoch_is c.requires.ready.in_range c.requires.ready.one
        _ _ (slot g c put) (then g c put) (g.met.R.Rack.agrees (store_rack old.store)) (g.met.R.Rack.agrees (store_rack c.commit.new.self)) (lost g c put) (known g c put) (λ d is. lost_in_low old.meta c.in_ok-lost.lost d is) (only g c put) (alone g c put)
        c.requires.ready.absent (absent_then g c put) (can_bear _ _ _ _ _ _ _ _ c.requires.ready) _ _ _ c.commit.ensures.keeps.slots c.in_ok-lost.ensures.takes.named (meta_is g c put) c.commit.ensures.any_moment
        c.in_ok-lost.ensures.committed)) (puts g c);
  };
}
