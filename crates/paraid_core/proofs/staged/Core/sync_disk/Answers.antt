use Rattle.std.proofs.lemmas.Result.{IfErr-weaker, on_ok_weaker}
use Rattle.paraid_core.specs.Steps.{IsPutOut}
use Rattle.paraid_base.specs.declared.state.Out.TheVariants.{Fresh, Gone, No}
use Rattle.paraid_image.specs.Mark.{meta_after_loss, meta_with_lost}
use Rattle.std.proofs.Common.{◌≡◌, ℕ, ◌∙◌, ◌<◌, Some, None, sym, ap, subst, refl, false, true, arith}
use Rattle.std.specs.Prelude.{Option, is_ok, slice_set}
use Rattle.std.proofs.lemmas.Bool.{false≢true}
use Rattle.paraid_base.specs.Told.{HasRisen}
use Rattle.paraid_image.specs.Out.{named_out}
use Rattle.paraid_rack.specs.declared.call.Call.TheVariants.{Sync}
use Rattle.paraid_rack.specs.Disks.{is_present, step}
use Rattle.paraid_record.specs.declared.meta.Meta.{Meta}
use Rattle.paraid_txn.specs.Stores.{named_of, store_rack}
use Rattle.paraid_core.specs.declared.staged.Core.{Core}
use Rattle.paraid_core.specs.CoreInvariant.{HoldsBetweenCalls, lost_in}
use Rattle.paraid_core.proofs.AfterLemmas.{lost_in_there}
use Rattle.paraid_core.proofs.CallLemmas.{call_held, call_leaves, call_spared, call_stands, done_only, failed_only, keeps_held}
use Rattle.paraid_core.proofs.ReadyLemmas.{some_is}
use Rattle.paraid_core.proofs.UnsyncedLemmas.{marks_cleared, one_dry, one_synced}
use Rattle.paraid_core.proofs.SettleCellLemmas.{sync_copied}
use Rattle.paraid_core.proofs.SettleUnitLemmas.{sync_units}
use Rattle.paraid_core.proofs.SettleLemmas.{cleared_at, keeps_synced, keeps_unsynced, sync_filled}
use Rattle.paraid_core.proofs.KindLemmas.{one_call}
use Rattle.paraid_core.proofs.LostMarkLemmas.{marks_done, marks_failed}
use Rattle.paraid_core.proofs.OrderLemmas.{call_tells}
use Rattle.paraid_core.proofs.staged.Core.sync_disk.Given.{Over}
use Rattle.paraid_core.proofs.staged.Core.sync_disk.Goals as goal
use Rattle.paraid_core.proofs.ErrLemmas.{both_put, two_lost}
use Rattle.paraid_core.proofs.staged.Core.sync_disk.Goals.{After-lose, In_default}

-- it was done
module _ (g : Over) (c : In_default g) where
  done : is_ok c.sync-answer.result ≡ true
  done = ap is_ok c.in_default.is

-- it failed, and no other disk is out
module _ (g : Over) (c : After-lose g) (put : IsPutOut c.args.self.now.meta c.lose.new.meta (Some c.args.disk)) where
  abbrev old : Core g.row.R.Denot g.R.Rack
  old = c.args.self.now

  failed : is_ok c.sync-answer.result ≡ false
  failed = ap is_ok c.in-Err.is

  is_lost : lost_in old.meta (Some c.args.disk) ≡ Some c.args.disk
  is_lost = lost_in_there old.meta (Some c.args.disk) c.args.disk c.requires.disk refl

  meta_is : c.lose.new.meta ≡ meta_after_loss old.meta c.args.disk
  meta_is = put.marked ∙ ap (λ (o : Option ℕ). meta_with_lost o old.meta) is_lost

  alone : (x : ℕ) → named_out old.meta.out ≡ Some x → x ≡ c.args.disk
  alone x is = put.alone c.args.disk x refl is c.requires.disk

pub returns : goal.returns
returns g c = record {
  keeps = record {
    stays = record {
      leaves = on_ok_weaker c.lose.result (λ put. call_leaves g.R.Rack.slot_count g.R.Rack.slot c.args.self.now _ c.requires.ready c.requires.still c.sync-answer.ensures.slots c.sync-answer.ensures.same refl refl refl
          (Some c.args.disk) (λ d is. subst (λ (e : ℕ). e < c.args.self.now.meta.setup.geometry.disks) (some_is c.args.disk d is) c.requires.disk)
          (failed_only _ _ _ _ _ _ _ c.sync-answer.ensures.slot refl refl (failed g c put)) (λ d x is k. alone g c put x k ∙ some_is c.args.disk d is) (meta_is g c put)
          (call_spared 8 _ _ _ _ _ _ c.sync-answer.ensures.slot refl refl refl)
          (λ d is. subst (λ (e : ℕ). HasRisen (g.R.Rack.slot (store_rack c.args.self.now.store) e).faults (g.R.Rack.slot (store_rack c.sync-answer.new.self) e).faults) (some_is c.args.disk d is) (c.sync-answer.ensures.slot.risen (failed g c put))) (marks_cleared _ _ _ _ _ _ c.sync-answer.ensures.slot _ _ refl (cleared_at _ _))) (both_put c.lose.result c.args.self.now.meta c.lose.new.meta (Some c.args.disk) c.lose.ensures.marked c.lose.ensures.alone);
      losses = record {
        slots = c.sync-answer.ensures.slots;
        spared = call_spared 8 _ _ _ _ _ _ c.sync-answer.ensures.slot refl refl refl;
        two =
            let old = c.args.self.now in
            IfErr-weaker c.lose.result _ _ (λ two down. two_lost (named_of old.store) (named_out old.meta.out) _ _ c.args.disk _ c.requires.still (c.sync-answer.ensures.slot.risen (ap is_ok c.in-Err.is)) down) c.lose.ensures.two;
        tells = IfErr-weaker c.lose.result _ _ (λ two down. call_tells (named_out c.args.self.now.meta.out) _ (Sync c.args.disk (is_ok c.sync-answer.result)) _ _ c.sync-answer.ensures.told (ap is_ok c.in-Err.is) down) c.lose.ensures.two;
        marks = on_ok_weaker c.lose.result (λ put. marks_failed c.args.self.now.meta c.lose.new.meta _ _ c.args.disk _ _ _ c.sync-answer.ensures.slot (failed g c put) (meta_is g c put) c.requires.disk (λ x k. put.alone c.args.disk x refl k c.requires.disk)) (both_put c.lose.result c.args.self.now.meta c.lose.new.meta (Some c.args.disk) c.lose.ensures.marked c.lose.ensures.alone);
      };
      still_synced = one_dry _ _ _ _ _ _ c.sync-answer.ensures.slot (λ wet. absurd (false≢true wet));
      moments =
          call_held g.R.Rack.slot_count g.R.Rack.slot g.R.Rack.told c.args.self.now _ _ c.sync-answer.ensures.told c.requires.disk
          (λ is h lo s k. keeps_held _ _ _ _ _ (slice_set c.args.self.now.copied c.args.disk false) h lo _ (keeps_synced _ _ _ _ _ _ _ h lo s _ (cleared_at _ _) k _ is));
      stands = on_ok_weaker c.lose.result (λ put. let ready = c.requires.ready in
          call_stands g.R.Rack.slot_count g.R.Rack.slot g.R.Rack.told c.args.self.now _ _ c.sync-answer.ensures.told (g.met.R.Rack.agrees (store_rack c.args.self.now.store)) _ _ _ _ _ _ c.sync-answer.ensures.slots c.sync-answer.ensures.same.named
          (ap (λ (z : Meta). z.setup) (meta_is g c put))
          (λ h lo s agrees k. subst (λ (z : Meta). HoldsBetweenCalls (g.R.Rack.slot_count (store_rack c.args.self.now.store)) (named_of c.args.self.now.store) z c.args.self.now.dirty c.args.self.now.batch (slice_set c.args.self.now.copied c.args.disk false) h lo (step (Sync c.args.disk (is_ok c.sync-answer.result)) s)) (sym (meta_is g c put))
          (keeps_unsynced _ _ _ _ _ _ _ h lo s _ (cleared_at _ _) k _ (failed g c put) ready.in_range c.requires.disk (λ x l gone. ready.absent x l (ap is_present (sym (agrees.power x)) ∙ gone)) (alone g c put) c.requires.still))) (both_put c.lose.result c.args.self.now.meta c.lose.new.meta (Some c.args.disk) c.lose.ensures.marked c.lose.ensures.alone);
    };
    -- that disk is out
    filled = on_ok_weaker c.lose.result (λ put. λ whole. let z : Gone c.args.disk ≡ No = ap (λ (m : Meta). m.out) (sym (meta_is g c put)) ∙ whole in absurd cc) (both_put c.lose.result c.args.self.now.meta c.lose.new.meta (Some c.args.disk) c.lose.ensures.marked c.lose.ensures.alone);
    cells = on_ok_weaker c.lose.result (λ put. λ whole. let z : Gone c.args.disk ≡ No = ap (λ (m : Meta). m.out) (sym (meta_is g c put)) ∙ whole in absurd cc) (both_put c.lose.result c.args.self.now.meta c.lose.new.meta (Some c.args.disk) c.lose.ensures.marked c.lose.ensures.alone);
    rebuilt = on_ok_weaker c.lose.result (λ put. λ d units fresh. let z : Gone c.args.disk ≡ Fresh d units = ap (λ (m : Meta). m.out) (sym (meta_is g c put)) ∙ fresh in absurd cc) (both_put c.lose.result c.args.self.now.meta c.lose.new.meta (Some c.args.disk) c.lose.ensures.marked c.lose.ensures.alone);
  };
  synced = on_ok_weaker c.lose.result (λ put. one_synced _ _ _ _ _ _ c.sync-answer.ensures.slot refl) (both_put c.lose.result c.args.self.now.meta c.lose.new.meta (Some c.args.disk) c.lose.ensures.marked c.lose.ensures.alone);
  cleared = cleared_at _ _;
  calls = one_call _ _ _ (is_ok c.sync-answer.result) c.sync-answer.ensures.told (λ t tells. (g.met.R.Rack.agrees (store_rack c.args.self.now.store) t tells).power c.args.disk ∙ c.requires.spins);
}

pub returns-in_default : goal.returns-in_default
returns-in_default g c = record {
  keeps = record {
    stays = record {
      leaves =
          call_leaves g.R.Rack.slot_count g.R.Rack.slot c.args.self.now _ c.requires.ready c.requires.still c.sync-answer.ensures.slots c.sync-answer.ensures.same refl refl refl
          None (λ d is. cc) (done_only _ _ _ _ _ _ _ c.sync-answer.ensures.slot refl refl (done g c)) (λ d x is. cc) refl
          (call_spared 8 _ _ _ _ _ _ c.sync-answer.ensures.slot refl refl refl) (λ d is. cc) (marks_cleared _ _ _ _ _ _ c.sync-answer.ensures.slot _ _ refl (cleared_at _ _));
      losses = record {
        slots = c.sync-answer.ensures.slots;
        spared = call_spared 8 _ _ _ _ _ _ c.sync-answer.ensures.slot refl refl refl;
        two = tt;
        tells = tt;
        marks = marks_done c.args.self.now.meta _ _ c.args.disk _ _ _ c.sync-answer.ensures.slot (record { faults = refl; power = refl; size = refl }) (ap is_ok c.in_default.is);
      };
      still_synced = one_dry _ _ _ _ _ _ c.sync-answer.ensures.slot (λ wet. absurd (false≢true wet));
      moments =
          call_held g.R.Rack.slot_count g.R.Rack.slot g.R.Rack.told c.args.self.now _ _ c.sync-answer.ensures.told c.requires.disk
          (λ is h lo s k. keeps_held _ _ _ _ _ (slice_set c.args.self.now.copied c.args.disk false) h lo _ (keeps_synced _ _ _ _ _ _ _ h lo s _ (cleared_at _ _) k _ is));
      stands =
          call_stands g.R.Rack.slot_count g.R.Rack.slot g.R.Rack.told c.args.self.now _ _ c.sync-answer.ensures.told (g.met.R.Rack.agrees (store_rack c.args.self.now.store)) _ _ _ _ _ _ c.sync-answer.ensures.slots c.sync-answer.ensures.same.named refl
          (λ h lo s agrees k. keeps_synced _ _ _ _ _ _ _ h lo s _ (cleared_at _ _) k _ (done g c));
    };
    filled = λ whole. (
      refl,
      λ h lo end. sync_filled g.R.Rack.slot_count g.R.Rack.told c.args.self.now _ _ c.args.disk _ c.sync-answer.ensures.told (cleared_at _ _) (done g c) _ _ c.sync-answer.ensures.slots c.sync-answer.ensures.same.named h lo end,
    );
    cells = λ whole. (
      refl,
      λ h lo cells. sync_copied g.R.Rack.slot_count g.R.Rack.told c.args.self.now _ _ c.args.disk _ c.sync-answer.ensures.told (cleared_at _ _) (done g c) _ _ c.sync-answer.ensures.slots c.sync-answer.ensures.same.named h lo cells,
    );
    rebuilt = λ d units fresh. (
      refl,
      λ h lo end. sync_units g.R.Rack.slot_count g.R.Rack.told c.args.self.now _ _ c.args.disk _ c.sync-answer.ensures.told (cleared_at _ _) (done g c) _ _ c.sync-answer.ensures.slots c.sync-answer.ensures.same.named h lo end,
    );
  };
  synced = one_synced _ _ _ _ _ _ c.sync-answer.ensures.slot refl;
  cleared = cleared_at _ _;
  calls = one_call _ _ _ (is_ok c.sync-answer.result) c.sync-answer.ensures.told (λ t tells. (g.met.R.Rack.agrees (store_rack c.args.self.now.store) t tells).power c.args.disk ∙ c.requires.spins);
}

pub sync-answer-requires : goal.sync-answer-requires
sync-answer-requires g c = record {
  exists = let low = c.requires.disk in let enough = c.requires.ready.enough in omega (arith, low, enough);
  spinning = c.requires.spins;
}
