use Rattle.std.proofs.lemmas.Result.{IfErr-weaker, on_ok_weaker}
use Rattle.paraid_core.proofs.FillLemmas.{can_read_but}
use Rattle.std.proofs.Common.{inl, ◌++◌, ◌≡◌, ℕ, ◌∙◌, Some, None, sym, ap, subst, Option, ◌<◌, rules, refl}
use Rattle.paraid_rack.specs.Trail.{now}
use Rattle.paraid_txn.specs.Stores.{disks_of, named_of, store_rack}
use Rattle.paraid_core.proofs.ReadsLemmas.{cell_value, knows_named, reads_moments, reads_stand, rows_zero, shows_contents, stripes_zero}
use Rattle.paraid_record.specs.declared.meta.Meta.{Meta}
use Rattle.paraid_txn.specs.Losses.{AreTwoDown}
use Rattle.std.proofs.lemmas.List.{append-nil}
use Rattle.paraid_image.specs.Sides.{Batch}
use Rattle.paraid_image.specs.Standing.{contents}
use Rattle.paraid_view.specs.Reads.{ShowsContents}
use Rattle.paraid_image.specs.Out.{named_out, or_else, out_disk}
use Rattle.paraid_view.proofs.TwoLemmas.{left_spared}
use Rattle.paraid_core.specs.CoreInvariant.{CanServe, lost_in}
use Rattle.paraid_core.proofs.AfterLemmas.{down_named, handed, lost_in_is, lost_in_low, marked_setup, marked_writes, named_is_out, out_is_named, ready_after, ready_moved, serve_after, two_by}
use Rattle.std.specs.Prelude.{false}
use Rattle.paraid_core.specs.Cleaning.{is_cleaned}
use Rattle.paraid_core.proofs.CleanLemmas.{cleans_marked}
use Rattle.paraid_core.proofs.ChainLemmas.{down_read, marked_epoch}
use Rattle.paraid_core.proofs.ReadyLemmas.{IsLostOnly, left_lost_only}
use Rattle.paraid_core.proofs.KindLemmas.{calls_off, gone_named, reads_of}
use Rattle.paraid_image.proofs.CallLemmas.{out_named}
use Rattle.paraid_core.proofs.LostMarkLemmas.{marks_read}
use Rattle.paraid_core.proofs.OrderLemmas.{out_tells}
use Rattle.paraid_rack.specs.Told.{Ran}
use Rattle.paraid_image.specs.Lost.{TellsLosses}
use Rattle.paraid_image.specs.Mark.{meta_with_lost}
use Rattle.paraid_core.proofs.staged.Core.read_value.Given.{Over}
use Rattle.paraid_core.proofs.staged.Core.read_value.Goals as goal
use Rattle.paraid_core.proofs.ErrLemmas.{both_put, none_done}
use Rattle.paraid_core.proofs.staged.Core.read_value.Goals.{After-lose}

-- what was lost is the one disk that is out
module _ (g : Over) (c : After-lose g) where
  abbrev m : Meta
  m = c.args.self.now.meta

  low : (d : ℕ) → c.in_ok-lost.lost ≡ Some d → d < m.setup.geometry.disks
  low d is = subst (λ (z : ℕ). d < z) (sym c.requires.serving.ready.array_is) (c.in_ok-lost.ensures.below d is)

  same : lost_in m c.in_ok-lost.lost ≡ c.in_ok-lost.lost
  same = lost_in_is m c.in_ok-lost.lost low

  none_out : (d x : ℕ) → lost_in m c.in_ok-lost.lost ≡ Some d → named_out m.out ≡ Some x → x ≡ d
  none_out d x is k =
      let none = c.in_ok-lost.ensures.one d (sym same ∙ is) in
      let z : None ≡ Some x = sym none ∙ named_is_out (λ e. (g.R.Rack.slot (store_rack c.args.self.now.store) e).power) m x k in cc

  -- none was out where one was lost
  never : (d x : ℕ) → c.in_ok-lost.lost ≡ Some d → named_out m.out ≡ Some x → ⊥
  never d x is k =
      let none = c.in_ok-lost.ensures.one d is in
      let z : None ≡ Some x = sym none ∙ named_is_out (λ e. (g.R.Rack.slot (store_rack c.args.self.now.store) e).power) m x k in cc

  only : IsLostOnly m.setup.geometry.disks (lost_in m c.in_ok-lost.lost) (g.R.Rack.slot (store_rack c.args.self.now.store)) (g.R.Rack.slot (store_rack c.read_cell.new.store))
  only = subst (λ (o : Option ℕ). IsLostOnly m.setup.geometry.disks o (g.R.Rack.slot (store_rack c.args.self.now.store)) (g.R.Rack.slot (store_rack c.read_cell.new.store))) (sym same)
      (left_lost_only m.setup.geometry.disks c.in_ok-lost.lost _ _ c.in_ok-lost.ensures.read.left)

pub returns-in_err-lost : goal.returns-in_err-lost
returns-in_err-lost g c = record {
  reads = record {
    cells = record {
      draft = refl;
      table = refl;
      cleans_less = none_done _ c.from_residual.result _ c.from_residual.ensures.1;
      writes = none_done _ c.from_residual.result _ c.from_residual.ensures.1;
    };
    alone = record {
      stays = record {
        copied = refl;
        losses = record {
          slots = search rules;
          spared = search rules;
          two =
              let old = c.args.self.now in
              let slot = g.R.Rack.slot (store_rack old.store) in
              let ready = c.requires.serving.ready in
              handed (AreTwoDown (or_else (named_of old.store) (named_out old.meta.out)) slot (g.R.Rack.slot (store_rack c.read_cell.new.store))) c.from_residual.result _ c.from_residual.ensures.1
              (two_by (out_disk (λ x. (slot x).power) old.meta) (or_else (named_of old.store) (named_out old.meta.out)) slot (g.R.Rack.slot (store_rack c.read_cell.new.store)) _
              (λ x is. down_named (named_of old.store) old.meta ready.one x (out_is_named (λ x. (slot x).power) old.meta ready.absent x is)) c.in_err-lost.ensures.two.down);
          tells =
              handed (λ two. Ran (g.R.Rack.told (store_rack c.args.self.now.store)) (g.R.Rack.told (store_rack c.read_cell.new.store)) (λ s cs. TellsLosses (named_out c.args.self.now.meta.out) two cs)) c.from_residual.result _ c.from_residual.ensures.1
              (out_tells (λ x. (g.R.Rack.slot (store_rack c.args.self.now.store) x).power) c.args.self.now.meta c.requires.serving.ready.absent _ _ _ c.in_err-lost.ensures.two.tells);
          marks = none_done _ c.from_residual.result _ c.from_residual.ensures.1;
        };
        ready = none_done _ c.from_residual.result _ c.from_residual.ensures.1;
        setup = none_done _ c.from_residual.result _ c.from_residual.ensures.1;
        down = none_done _ c.from_residual.result _ c.from_residual.ensures.1;
      };
      serves = none_done _ c.from_residual.result _ c.from_residual.ensures.1;
      epoch = none_done _ c.from_residual.result _ c.from_residual.ensures.1;
      still_synced = search rules;
      calls =
          let old = c.args.self.now in
          calls_off _ _ _ _ (sym c.requires.serving.ready.array_is) (λ d is. out_named (λ x. (g.R.Rack.slot (store_rack old.store) x).power) old.meta d (gone_named old.meta.out d is)) _ _ c.in_err-lost.ensures.two.calls c.read_cell.ensures.off;
      reads = reads_of _ _ (sym c.requires.serving.ready.array_is) _ _ c.in_err-lost.ensures.two.calls;
      named = c.in_err-lost.ensures.two.same.named;
      moments_since = λ h lo.
          let old = c.args.self.now in
          reads_moments (g.R.Rack.slot_count (store_rack old.store)) (named_of old.store) old.meta old.dirty old.batch old.copied h lo (named_of old.store) (λ d is. is) (disks_of old.store) _ _ (sym c.requires.serving.ready.array_is) c.in_err-lost.ensures.two.calls;
    };
    batch = refl;
    moments = λ h lo.
        let old = c.args.self.now in
        reads_moments (g.R.Rack.slot_count (store_rack old.store)) (named_of old.store) old.meta old.dirty old.batch old.copied h lo (or_else (named_of old.store) (named_out old.meta.out)) (knows_named (named_of old.store) (named_out old.meta.out)) (disks_of old.store) _ _ (sym c.requires.serving.ready.array_is) c.in_err-lost.ensures.two.calls;
    stands = none_done _ c.from_residual.result _ c.from_residual.ensures.1;
    since = none_done _ c.from_residual.result _ c.from_residual.ensures.1;
  };
  value = none_done _ c.from_residual.result _ c.from_residual.ensures.1;
}

pub returns : goal.returns
returns g c = record {
  reads = record {
    cells = record {
      draft = refl;
      table = refl;
      cleans_less = on_ok_weaker c.lose.result (λ put. λ r d is.
          let old = c.args.self.now in
          subst (λ (z : Meta). is_cleaned z old.dirty r d ≡ false) (sym put.marked) (cleans_marked (lost_in old.meta c.in_ok-lost.lost) old.meta old.meta.epoch old.dirty r d is)) (both_put c.lose.result c.args.self.now.meta c.lose.new.meta c.in_ok-lost.lost c.lose.ensures.marked c.lose.ensures.alone);
      writes = on_ok_weaker c.lose.result (λ put. ap (λ (z : Meta). z.writes) put.marked ∙ marked_writes (lost_in c.args.self.now.meta c.in_ok-lost.lost) c.args.self.now.meta) (both_put c.lose.result c.args.self.now.meta c.lose.new.meta c.in_ok-lost.lost c.lose.ensures.marked c.lose.ensures.alone);
    };
    alone = record {
      stays = record {
        copied = refl;
        losses = record {
          slots = search rules;
          spared = left_spared c.in_ok-lost.lost _ _ c.in_ok-lost.ensures.read.left;
          two =
              let old = c.args.self.now in
              IfErr-weaker c.lose.result _ _ (λ two both. record { first = inl (down_named (named_of old.store) old.meta c.requires.serving.ready.one _ both.1); apart = both.2; second = (c.in_ok-lost.ensures.read.left.failed _ both.0).risen }) c.lose.ensures.two;
          tells = IfErr-weaker c.lose.result _ _ (λ two down. absurd (never g c two.second two.first down.0 down.1)) c.lose.ensures.two;
          marks = on_ok_weaker c.lose.result (λ put. let m = c.args.self.now.meta in
              marks_read m c.lose.new.meta c.in_ok-lost.lost _ _ m.epoch m.writes c.in_ok-lost.ensures.read.left put.marked (low g c) (λ d x is k. put.alone d x is k (low g c d is))) (both_put c.lose.result c.args.self.now.meta c.lose.new.meta c.in_ok-lost.lost c.lose.ensures.marked c.lose.ensures.alone);
        };
        ready = on_ok_weaker c.lose.result (λ put. let old = c.args.self.now in
            let read = c.in_ok-lost.ensures.read in
            ready_moved _ _ _ _ _ _ _ _ _ (meta_with_lost (lost_in old.meta c.in_ok-lost.lost) old.meta) _ _ _ read.slots read.same.epoch read.same.disks read.same.named put.marked
            (ready_after _ _ _ _ _ _ old.meta _ _ c.requires.serving.ready c.in_ok-lost.lost (only g c) (none_out g c) (λ d x is was. none_out g c d x is (c.requires.serving.serves.stays x was)) (λ d is. lost_in_low old.meta c.in_ok-lost.lost d is))) (both_put c.lose.result c.args.self.now.meta c.lose.new.meta c.in_ok-lost.lost c.lose.ensures.marked c.lose.ensures.alone);
        setup = on_ok_weaker c.lose.result (λ put. ap (λ (z : Meta). z.setup) put.marked ∙ marked_setup (lost_in c.args.self.now.meta c.in_ok-lost.lost) c.args.self.now.meta) (both_put c.lose.result c.args.self.now.meta c.lose.new.meta c.in_ok-lost.lost c.lose.ensures.marked c.lose.ensures.alone);
        down = on_ok_weaker c.lose.result (λ put. let old = c.args.self.now in
            let read = c.in_ok-lost.ensures.read in
            down_read (named_of old.store) old.meta c.in_ok-lost.lost c.lose.new.meta (named_of c.read_cell.new.store) _ _ c.requires.serving.ready.one
            (ap (λ (z : Meta). named_out z.out) put.marked) read.left.failed read.same.named) (both_put c.lose.result c.args.self.now.meta c.lose.new.meta c.in_ok-lost.lost c.lose.ensures.marked c.lose.ensures.alone);
      };
      serves = on_ok_weaker c.lose.result (λ put. let old = c.args.self.now in
          let read = c.in_ok-lost.ensures.read in
          subst (λ (z : Option ℕ). CanServe (g.R.Rack.slot (store_rack c.read_cell.new.store)) z c.lose.new.meta) (sym read.same.named)
          (subst (λ (z : Meta). CanServe (g.R.Rack.slot (store_rack c.read_cell.new.store)) (named_of old.store) z) (sym put.marked)
          (serve_after _ _ _ _ _ _ old.meta _ _ c.requires.serving.ready c.in_ok-lost.lost (only g c) (none_out g c) (λ d x is was. none_out g c d x is (c.requires.serving.serves.stays x was)) (λ d is. lost_in_low old.meta c.in_ok-lost.lost d is)
          c.requires.serving.serves))) (both_put c.lose.result c.args.self.now.meta c.lose.new.meta c.in_ok-lost.lost c.lose.ensures.marked c.lose.ensures.alone);
      epoch = on_ok_weaker c.lose.result (λ put. ap (λ (z : Meta). z.epoch) put.marked ∙ marked_epoch (lost_in c.args.self.now.meta c.in_ok-lost.lost) c.args.self.now.meta) (both_put c.lose.result c.args.self.now.meta c.lose.new.meta c.in_ok-lost.lost c.lose.ensures.marked c.lose.ensures.alone);
      still_synced = search rules;
      calls =
          let old = c.args.self.now in
          calls_off _ _ _ _ (sym c.requires.serving.ready.array_is) (λ d is. out_named (λ x. (g.R.Rack.slot (store_rack old.store) x).power) old.meta d (gone_named old.meta.out d is)) _ _ c.in_ok-lost.ensures.read.calls c.read_cell.ensures.off;
      reads = reads_of _ _ (sym c.requires.serving.ready.array_is) _ _ c.in_ok-lost.ensures.read.calls;
      named = c.in_ok-lost.ensures.read.same.named;
      moments_since = λ h lo.
          let old = c.args.self.now in
          reads_moments (g.R.Rack.slot_count (store_rack old.store)) (named_of old.store) old.meta old.dirty old.batch old.copied h lo (named_of old.store) (λ d is. is) (disks_of old.store) _ _ (sym c.requires.serving.ready.array_is) c.in_ok-lost.ensures.read.calls;
    };
    batch = refl;
    moments = λ h lo.
        let old = c.args.self.now in
        reads_moments (g.R.Rack.slot_count (store_rack old.store)) (named_of old.store) old.meta old.dirty old.batch old.copied h lo (or_else (named_of old.store) (named_out old.meta.out)) (knows_named (named_of old.store) (named_out old.meta.out)) (disks_of old.store) _ _ (sym c.requires.serving.ready.array_is) c.in_ok-lost.ensures.read.calls;
    stands = on_ok_weaker c.lose.result (λ put. λ h lo.
        let old = c.args.self.now in
        let read = c.in_ok-lost.ensures in
        reads_stand (g.R.Rack.slot_count (store_rack old.store)) (named_of old.store) old.meta old.dirty old.batch old.copied h lo (or_else (named_of old.store) (named_out old.meta.out)) (knows_named (named_of old.store) (named_out old.meta.out)) (disks_of old.store) _ _ (g.R.Rack.slot (store_rack old.store)) (g.R.Rack.slot (store_rack c.read_cell.new.store))
        c.in_ok-lost.lost c.requires.serving.ready.in_range (sym c.requires.serving.ready.array_is) (g.met.R.Rack.agrees (store_rack old.store)) (g.met.R.Rack.agrees (store_rack c.read_cell.new.store)) read.read.left
        (g.met.R.Rack.slots_hold (store_rack c.read_cell.new.store)).absent (λ d is. subst (λ (z : ℕ). d < z) (sym c.requires.serving.ready.array_is) (read.below d is)) (λ d is. read.one d is) c.requires.serving.serves.stays
        _ _ _ read.read.slots read.read.same.named put.marked read.read.calls) (both_put c.lose.result c.args.self.now.meta c.lose.new.meta c.in_ok-lost.lost c.lose.ensures.marked c.lose.ensures.alone);
    since = on_ok_weaker c.lose.result (λ put. λ h lo.
        let old = c.args.self.now in
        let read = c.in_ok-lost.ensures in
        reads_stand (g.R.Rack.slot_count (store_rack old.store)) (named_of old.store) old.meta old.dirty old.batch old.copied h lo (named_of old.store) (λ d is. is) (disks_of old.store) _ _ (g.R.Rack.slot (store_rack old.store)) (g.R.Rack.slot (store_rack c.read_cell.new.store))
        c.in_ok-lost.lost c.requires.serving.ready.in_range (sym c.requires.serving.ready.array_is) (g.met.R.Rack.agrees (store_rack old.store)) (g.met.R.Rack.agrees (store_rack c.read_cell.new.store)) read.read.left
        (g.met.R.Rack.slots_hold (store_rack c.read_cell.new.store)).absent (λ d is. subst (λ (z : ℕ). d < z) (sym c.requires.serving.ready.array_is) (read.below d is)) (λ d is. read.one d is) c.requires.serving.serves.stays
        _ _ _ read.read.slots read.read.same.named put.marked read.read.calls) (both_put c.lose.result c.args.self.now.meta c.lose.new.meta c.in_ok-lost.lost c.lose.ensures.marked c.lose.ensures.alone);
  };
  value = on_ok_weaker c.lose.result (λ put. λ h lo t tells keeps some.
      let old = c.args.self.now in
      let slots : ℕ = g.R.Rack.slot_count (store_rack old.store) in
      let agrees = g.met.R.Rack.agrees (store_rack old.store) t tells in
      let powers : (λ (x : ℕ). (g.R.Rack.slot (store_rack old.store) x).power) ≡ (now t).power = (λ i. λ x. sym (agrees.power x) i) in
      let p = λ (x : ℕ). (g.R.Rack.slot (store_rack old.store) x).power in
      cell_value slots (named_of old.store) old.meta old.dirty old.batch old.copied h lo (now t) keeps p powers c.args.r c.args.d _ c.requires.row
      (c.in_ok-lost.ensures.value (contents (now t) old.batch)
      (subst (λ (z : Batch). ShowsContents (g.R.Rack.told (store_rack old.store)) z (contents (now t) old.batch)) (sym (ap (λ (z : Batch). old.batch ++ z) c.requires.no_draft ∙ append-nil old.batch)) (shows_contents _ old.batch t tells)) some
      (rows_zero slots (named_of old.store) old.meta old.dirty old.batch old.copied h lo (now t) keeps p powers) (stripes_zero slots (named_of old.store) old.meta old.dirty old.batch old.copied h lo (now t) keeps p powers))) (both_put c.lose.result c.args.self.now.meta c.lose.new.meta c.in_ok-lost.lost c.lose.ensures.marked c.lose.ensures.alone);
}

pub read_cell-requires : goal.read_cell-requires
read_cell-requires g c = record {
  in_range = c.requires.serving.ready.in_range;
  row = c.requires.row;
  disk = c.requires.disk;
  rows = c.requires.serving.ready.rows_are;
  array = c.requires.serving.ready.array_is;
  ready = can_read_but g.R.Rack.slot_count g.R.Rack.slot g.R.Rack.told c.args.self.now c.requires.serving.ready c.requires.serving.serves (out_disk (λ e. (g.R.Rack.slot (store_rack c.args.self.now.store) e).power) c.args.self.now.meta) (named_is_out (λ e. (g.R.Rack.slot (store_rack c.args.self.now.store) e).power) c.args.self.now.meta);
}
