use Rattle.std.proofs.lemmas.Result.{IfErr-weaker, IfOk-at_ok, on_ok_weaker}
use Rattle.paraid_core.specs.Steps.{IsPutOut}
use Rattle.paraid_image.specs.Mark.{meta_after_loss, meta_with_lost}
use Rattle.std.proofs.Common.{arith, ◌≡◌, ℕ, ◌∙◌, ◌<◌, Some, None, sym, ap, subst, refl, false}
use Rattle.std.specs.Prelude.{Option, is_ok}
use Rattle.paraid_base.specs.Told.{HasRisen}
use Rattle.paraid_image.specs.Out.{named_out}
use Rattle.paraid_rack.specs.Slots.{Slot}
use Rattle.paraid_rack.specs.declared.call.Call.TheVariants.{Write}
use Rattle.paraid_rack.specs.Disks.{is_present, step}
use Rattle.paraid_record.specs.declared.meta.Meta.{Meta}
use Rattle.paraid_txn.specs.Stores.{named_of, store_rack}
use Rattle.paraid_core.specs.declared.staged.Core.{Core}
use Rattle.paraid_core.specs.CoreInvariant.{HoldsBetweenCalls, lost_in}
use Rattle.paraid_core.specs.Cores.{CoreStandsFor, IsCoreHeldSinceCommit}
use Rattle.paraid_core.specs.Units.{CopyingUnit}
use Rattle.paraid_core.proofs.AfterLemmas.{lost_in_there}
use Rattle.paraid_core.proofs.CallLemmas.{call_leaves, call_spared, call_stands, done_only, failed_only}
use Rattle.paraid_core.proofs.ReadyLemmas.{some_is}
use Rattle.paraid_core.proofs.StripeLemmas.{keeps_unwritten}
use Rattle.paraid_core.proofs.UnsyncedLemmas.{marks_written}
use Rattle.paraid_core.proofs.UnitWriteLemmas.{rebuilding_below, unit_copied, unit_held}
use Rattle.paraid_rack.proofs.TrailsLemmas.{weaker}
use Rattle.paraid_core.proofs.KindLemmas.{written_calls}
use Rattle.paraid_txn.specs.Commit.{gone_out}
use Rattle.paraid_core.proofs.LostMarkLemmas.{marks_done, marks_failed}
use Rattle.paraid_core.proofs.OrderLemmas.{call_tells}
use Rattle.paraid_core.proofs.staged.Core.write_unit.Given.{Over}
use Rattle.paraid_core.proofs.staged.Core.write_unit.Goals as goal
use Rattle.paraid_core.proofs.ErrLemmas.{done_not_dropped, two_lost}
use Rattle.paraid_core.proofs.staged.Core.write_unit.Goals.{After-put_out}

-- it failed, and no other disk is out
module _ (g : Over) (c : After-put_out g) (put : IsPutOut c.args.self.now.meta c.put_out.new.meta (Some c.args.disk)) where
  abbrev old : Core g.row.R.Denot g.R.Rack
  old = c.args.self.now

  low : c.args.disk < old.meta.setup.geometry.disks
  low = rebuilding_below g.R.Rack.slot_count g.R.Rack.slot g.R.Rack.told old c.requires.ready (g.met.R.Rack.agrees (store_rack old.store)) c.requires.nothing c.args.number c.args.disk c.args.unit c.requires.fresh c.requires.unit

  failed : is_ok c.write_free-answer.result ≡ false
  failed = ap is_ok c.in-Err.is

  is_lost : lost_in old.meta (Some c.args.disk) ≡ Some c.args.disk
  is_lost = lost_in_there old.meta (Some c.args.disk) c.args.disk low refl

  meta_is : c.put_out.new.meta ≡ meta_after_loss old.meta c.args.disk
  meta_is = put.marked ∙ ap (λ (o : Option ℕ). meta_with_lost o old.meta) is_lost

  alone : (x : ℕ) → named_out old.meta.out ≡ Some x → x ≡ c.args.disk
  alone x is = put.alone c.args.disk x refl is low

pub returns-in_default : goal.returns-in_default
returns-in_default g c = record {
  copies = record {
    leaves =
        call_leaves g.R.Rack.slot_count g.R.Rack.slot c.args.self.now _ c.requires.ready c.requires.still c.write_free-answer.ensures.slots c.write_free-answer.ensures.same refl refl refl
        None (λ d is. cc) (done_only _ _ _ _ _ _ _ c.write_free-answer.ensures.slot refl refl (ap is_ok c.in_default.is)) (λ d x is. cc) refl
        (call_spared 8 _ _ _ _ _ _ c.write_free-answer.ensures.slot refl refl refl) (λ d is. cc) (marks_written _ _ _ _ _ _ c.write_free-answer.ensures.slot _ _ (record { here = c.mark.ensures.here; others = c.mark.ensures.others }));
    same = λ is. refl;
    losses = record {
      slots = c.write_free-answer.ensures.slots;
      spared = call_spared 8 _ _ _ _ _ _ c.write_free-answer.ensures.slot refl refl refl;
      two = tt;
      tells = tt;
      marks = marks_done c.args.self.now.meta _ _ c.args.disk _ _ _ c.write_free-answer.ensures.slot (record { faults = refl; power = refl; size = refl }) (ap is_ok c.in_default.is);
    };
    calls =
        let q = c.requires in
        let m = c.args.self.now.meta in
        written_calls _ _ c.args.disk c.place_of_unit-place.result c.args.block.now (is_ok c.write_free-answer.result) _ _ c.write_free-answer.ensures.told
        (rebuilding_below g.R.Rack.slot_count g.R.Rack.slot g.R.Rack.told c.args.self.now q.ready (g.met.R.Rack.agrees (store_rack c.args.self.now.store)) q.nothing c.args.number c.args.disk c.args.unit q.fresh q.unit)
        (λ away. let z : None ≡ Some c.args.disk = ap gone_out (sym q.fresh) ∙ away in cc) c.place_of_unit-place.ensures.past_log
        (λ t tells. (g.met.R.Rack.agrees (store_rack c.args.self.now.store) t tells).power c.args.disk ∙ q.spins);
  };
  spins = λ is. ap (λ (s : Slot). s.power) (c.write_free-answer.ensures.slot.done (ap is_ok c.in_default.is)) ∙ c.requires.spins;
  held = record {
    copied = λ is h lo.
        let q = c.requires in
        let size = q.ready.fresh_large c.args.disk _ q.fresh (ap is_present q.spins) in
        let inside = c.place_of_unit-place.ensures.within in
        unit_copied g.R.Rack.slot_count g.R.Rack.slot g.R.Rack.told c.args.self.now q.ready (g.met.R.Rack.agrees (store_rack c.args.self.now.store)) q.nothing c.args.number c.args.disk c.args.unit q.fresh q.unit
        _ c.args.block.now c.place_of_unit-place.result c.place_of_unit-place.ensures.value c.place_of_unit-place.ensures.past_log _
        c.write_free-answer.ensures.told q.from _ (record { here = c.mark.ensures.here; others = c.mark.ensures.others }) h lo
        _ _ c.write_free-answer.ensures.slots c.write_free-answer.ensures.same.named (ap is_ok c.in_default.is) q.spins (omega arith);
    lost = λ is. done_not_dropped _ _ refl is;
    moments = λ h lo.
        let q = c.requires in
        unit_held g.R.Rack.slot_count g.R.Rack.slot g.R.Rack.told c.args.self.now q.ready (g.met.R.Rack.agrees (store_rack c.args.self.now.store)) q.nothing c.args.number c.args.disk c.args.unit q.fresh q.unit
        _ c.args.block.now c.place_of_unit-place.result c.place_of_unit-place.ensures.value c.place_of_unit-place.ensures.past_log _
        c.write_free-answer.ensures.told q.from _ (record { here = c.mark.ensures.here; others = c.mark.ensures.others }) h lo;
  };
  loses = record {
    gone = λ is. done_not_dropped _ _ refl is;
    failed = λ is. done_not_dropped _ _ refl is;
  };
}

pub returns : goal.returns
returns g c = record {
  copies = record {
    leaves = on_ok_weaker c.put_out.result (λ put. call_leaves g.R.Rack.slot_count g.R.Rack.slot c.args.self.now _ c.requires.ready c.requires.still c.write_free-answer.ensures.slots c.write_free-answer.ensures.same refl refl refl
        (Some c.args.disk) (λ d is. subst (λ (e : ℕ). e < c.args.self.now.meta.setup.geometry.disks) (some_is c.args.disk d is) (low g c put))
        (failed_only _ _ _ _ _ _ _ c.write_free-answer.ensures.slot refl refl (failed g c put)) (λ d x is k. alone g c put x k ∙ some_is c.args.disk d is) (meta_is g c put)
        (call_spared 8 _ _ _ _ _ _ c.write_free-answer.ensures.slot refl refl refl)
        (λ d is. subst (λ (e : ℕ). HasRisen (g.R.Rack.slot (store_rack c.args.self.now.store) e).faults (g.R.Rack.slot (store_rack c.write_free-answer.new.self) e).faults) (some_is c.args.disk d is) (c.write_free-answer.ensures.slot.risen (failed g c put))) (marks_written _ _ _ _ _ _ c.write_free-answer.ensures.slot _ _ (record { here = c.mark.ensures.here; others = c.mark.ensures.others }))) c.put_out.ensures.out;
    same = λ is. absurd (c.put_out.ensures.never is);
    losses = record {
      slots = c.write_free-answer.ensures.slots;
      spared = call_spared 8 _ _ _ _ _ _ c.write_free-answer.ensures.slot refl refl refl;
      two =
          let old = c.args.self.now in
          IfErr-weaker c.put_out.result _ _ (λ two down. two_lost (named_of old.store) (named_out old.meta.out) _ _ c.args.disk _ c.requires.still (c.write_free-answer.ensures.slot.risen (ap is_ok c.in-Err.is)) down) c.put_out.ensures.two;
      tells = IfErr-weaker c.put_out.result _ _ (λ two down. call_tells (named_out c.args.self.now.meta.out) _ (Write c.args.disk c.place_of_unit-place.result c.args.block.now (is_ok c.write_free-answer.result)) _ _ c.write_free-answer.ensures.told (ap is_ok c.in-Err.is) down) c.put_out.ensures.two;
      marks = on_ok_weaker c.put_out.result (λ put. marks_failed c.args.self.now.meta c.put_out.new.meta _ _ c.args.disk _ _ _ c.write_free-answer.ensures.slot (failed g c put) (meta_is g c put) (low g c put) (λ x k. put.alone c.args.disk x refl k (low g c put))) c.put_out.ensures.out;
    };
    calls =
        let q = c.requires in
        let m = c.args.self.now.meta in
        written_calls _ _ c.args.disk c.place_of_unit-place.result c.args.block.now (is_ok c.write_free-answer.result) _ _ c.write_free-answer.ensures.told
        (rebuilding_below g.R.Rack.slot_count g.R.Rack.slot g.R.Rack.told c.args.self.now q.ready (g.met.R.Rack.agrees (store_rack c.args.self.now.store)) q.nothing c.args.number c.args.disk c.args.unit q.fresh q.unit)
        (λ away. let z : None ≡ Some c.args.disk = ap gone_out (sym q.fresh) ∙ away in cc) c.place_of_unit-place.ensures.past_log
        (λ t tells. (g.met.R.Rack.agrees (store_rack c.args.self.now.store) t tells).power c.args.disk ∙ q.spins);
  };
  spins = λ is. absurd (c.put_out.ensures.never is);
  held = record {
    copied = λ is. absurd (c.put_out.ensures.never is);
    lost = λ is h lo. let put : IsPutOut c.args.self.now.meta c.put_out.new.meta (Some c.args.disk) = IfOk-at_ok _ is c.put_out.ensures.out in
        let old = c.args.self.now in
        let ready = c.requires.ready in
        weaker (IsCoreHeldSinceCommit g.R.Rack.slot_count old h lo) (CoreStandsFor g.R.Rack.slot_count old h lo) (CopyingUnit g.R.Rack.slot_count old h lo c.args.number c.args.disk c.args.unit c.args.block.now) _ _ _ _
        (λ s k. subst (λ (z : _). HoldsBetweenCalls (g.R.Rack.slot_count (store_rack old.store)) (named_of old.store) old.meta old.dirty z old.copied h lo s) (sym c.requires.nothing) k.before.keeps) (λ s k. k)
        (call_stands g.R.Rack.slot_count g.R.Rack.slot g.R.Rack.told old _ _ c.write_free-answer.ensures.told (g.met.R.Rack.agrees (store_rack old.store)) _ _ _ _ _ _ c.write_free-answer.ensures.slots c.write_free-answer.ensures.same.named
        (ap (λ (z : Meta). z.setup) (meta_is g c put))
        (λ h lo s agrees k. subst (λ (z : Meta). HoldsBetweenCalls (g.R.Rack.slot_count (store_rack old.store)) (named_of old.store) z old.dirty old.batch (c.mark.new.copied) h lo (step (Write c.args.disk c.place_of_unit-place.result c.args.block.now (is_ok c.write_free-answer.result)) s)) (sym (meta_is g c put))
        (keeps_unwritten _ _ _ _ _ _ _ h lo s _ _ _ (record { here = c.mark.ensures.here; others = c.mark.ensures.others }) _ (failed g c put) ready.in_range (low g c put) (λ x l gone. ready.absent x l (ap is_present (sym (agrees.power x)) ∙ gone)) (alone g c put) c.requires.still k)) h lo);
    moments = λ h lo.
        let q = c.requires in
        unit_held g.R.Rack.slot_count g.R.Rack.slot g.R.Rack.told c.args.self.now q.ready (g.met.R.Rack.agrees (store_rack c.args.self.now.store)) q.nothing c.args.number c.args.disk c.args.unit q.fresh q.unit
        _ c.args.block.now c.place_of_unit-place.result c.place_of_unit-place.ensures.value c.place_of_unit-place.ensures.past_log _
        c.write_free-answer.ensures.told q.from _ (record { here = c.mark.ensures.here; others = c.mark.ensures.others }) h lo;
  };
  loses = record {
    gone = λ is. let put : IsPutOut c.args.self.now.meta c.put_out.new.meta (Some c.args.disk) = IfOk-at_ok _ is c.put_out.ensures.out in meta_is g c put;
    failed = λ is. let put : IsPutOut c.args.self.now.meta c.put_out.new.meta (Some c.args.disk) = IfOk-at_ok _ is c.put_out.ensures.out in record { risen = c.write_free-answer.ensures.slot.risen (failed g c put); absent = c.write_free-answer.ensures.slot.absent (failed g c put) };
  };
}

pub place_of_unit-place-requires : goal.place_of_unit-place-requires
place_of_unit-place-requires g c = record {
  in_range = c.requires.ready.in_range;
  unit = c.requires.unit;
}

pub write_free-answer-requires : goal.write_free-answer-requires
write_free-answer-requires g c = record {
  exists =
      let old = c.args.self.now in
      let q = c.requires in
      let low = rebuilding_below g.R.Rack.slot_count g.R.Rack.slot g.R.Rack.told old q.ready (g.met.R.Rack.agrees (store_rack old.store)) q.nothing c.args.number c.args.disk c.args.unit q.fresh q.unit in
      let enough = q.ready.enough in omega arith;
  spinning = c.requires.spins;
  within =
      let q = c.requires in
      let within = c.place_of_unit-place.ensures.within in
      let large = q.ready.fresh_large c.args.disk _ q.fresh (ap is_present q.spins) in
      omega arith;
}
