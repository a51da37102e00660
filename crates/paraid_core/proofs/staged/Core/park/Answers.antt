use Rattle.std.proofs.lemmas.Result.{IfErr-weaker, IfOk-at_ok, on_ok_weaker}
use Rattle.paraid_core.specs.Steps.{IsPutOut, IsMarkedFrom}
use Rattle.std.proofs.Common.{◌≡◌, ℕ, ◌∙◌, ◌<◌, None, Some, sym, ap, subst, refl, false, inl, inr, arith}
use Rattle.std.specs.Prelude.{Option, is_ok}
use Rattle.paraid_image.specs.Out.{named_out}
use Rattle.paraid_base.specs.Told.{HasRisen}
use Rattle.paraid_rack.specs.declared.call.Call.TheVariants.{Park}
use Rattle.paraid_rack.specs.Disks.{is_present, step}
use Rattle.paraid_rack.specs.Slots.{Slot}
use Rattle.paraid_record.specs.declared.meta.Meta.{Meta}
use Rattle.paraid_txn.specs.Stores.{named_of, store_rack}
use Rattle.paraid_image.specs.Mark.{meta_after_loss, meta_with_lost}
use Rattle.paraid_core.specs.declared.staged.Core.{Core}
use Rattle.paraid_core.specs.CoreInvariant.{CanServe, HoldsBetweenCalls, lost_in}
use Rattle.paraid_core.proofs.AfterLemmas.{lost_in_there, ready_after, ready_moved, serve_after}
use Rattle.paraid_core.proofs.CallLemmas.{call_stands}
use Rattle.paraid_core.specs.Fills.{KeepsFilled}
use Rattle.paraid_core.proofs.LossShiftLemmas.{call_filled, filled_failed}
use Rattle.paraid_core.proofs.LostDiskLemmas.{keeps_failed}
use Rattle.paraid_core.proofs.ParkLemmas.{park_done, park_held, parked_ready, parked_serves}
use Rattle.paraid_core.proofs.ReadyLemmas.{IsLostOnly, some_is}
use Rattle.paraid_core.proofs.KindLemmas.{one_call, may_park}
use Rattle.paraid_rack.specs.Trail.{now}
use Rattle.paraid_core.proofs.OrderLemmas.{call_tells}
use Rattle.paraid_core.proofs.staged.Core.park.Given.{Over}
use Rattle.paraid_core.proofs.TurnLemmas.{only_turns}
use Rattle.std.proofs.lemmas.Bool.{cases_eq, false≢true}
use Rattle.paraid_core.proofs.UnsyncedLemmas.{gone_marked}
use Rattle.paraid_core.proofs.staged.Core.park.Goals as goal
use Rattle.paraid_core.proofs.ErrLemmas.{done_not_dropped, two_lost}
use Rattle.paraid_core.proofs.staged.Core.park.Goals.{After-put_out}

-- it failed, and no other disk is out
module _ (g : Over) (c : After-put_out g) (put : IsPutOut c.args.self.now.meta c.put_out.new.meta (Some c.args.disk)) where
  abbrev old : Core g.row.R.Denot g.R.Rack
  old = c.args.self.now

  failed : is_ok c.park.result ≡ false
  failed = ap is_ok c.in-Err.is

  is_lost : lost_in old.meta (Some c.args.disk) ≡ Some c.args.disk
  is_lost = lost_in_there old.meta (Some c.args.disk) c.args.disk c.requires.turn.disk_in refl

  meta_is : c.put_out.new.meta ≡ meta_after_loss old.meta c.args.disk
  meta_is = put.marked ∙ ap (λ (o : Option ℕ). meta_with_lost o old.meta) is_lost

  alone : (x : ℕ) → named_out old.meta.out ≡ Some x → x ≡ c.args.disk
  alone x is = put.alone c.args.disk x refl is c.requires.turn.disk_in

  only : IsLostOnly old.meta.setup.geometry.disks (lost_in old.meta (Some c.args.disk)) (g.R.Rack.slot (store_rack old.store)) (g.R.Rack.slot (store_rack c.park.new.self))
  only = subst (λ (o : Option ℕ). IsLostOnly old.meta.setup.geometry.disks o (g.R.Rack.slot (store_rack old.store)) (g.R.Rack.slot (store_rack c.park.new.self))) (sym is_lost) (record {
    power = λ x l not. ap (λ (s : Slot). s.power) (c.park.ensures.slot.others x (λ here. not (ap Some (sym here))));
    size = λ x l not. ap (λ (s : Slot). s.size) (c.park.ensures.slot.others x (λ here. not (ap Some (sym here))));
    gone = λ x k. ap (λ (e : ℕ). (g.R.Rack.slot (store_rack c.park.new.self) e).power) (sym (some_is c.args.disk x k)) ∙ c.park.ensures.slot.absent failed;
  })

  alone_in : (d x : ℕ) → lost_in old.meta (Some c.args.disk) ≡ Some d → named_out old.meta.out ≡ Some x → x ≡ d
  alone_in d x is k = alone x k ∙ some_is c.args.disk d (sym is_lost ∙ is)

  low_in : (d : ℕ) → lost_in old.meta (Some c.args.disk) ≡ Some d → d < old.meta.setup.geometry.disks
  low_in d is = subst (λ (e : ℕ). e < old.meta.setup.geometry.disks) (some_is c.args.disk d (sym is_lost ∙ is)) c.requires.turn.disk_in

  marked : IsMarkedFrom old.meta c.put_out.new.meta
  marked = record { lost = Some c.args.disk; is = meta_is; alone = λ d x is k. alone x k ∙ some_is c.args.disk d is }

pub returns-in_default : goal.returns-in_default
returns-in_default g c = record {
  turns = record {
    slots = c.park.ensures.slots;
    others = c.park.ensures.slot.others;
    ready =
        let q = c.requires in
        ready_moved _ _ _ _ _ _ _ _ _ c.args.self.now.meta _ _ _ c.park.ensures.slots c.park.ensures.same.epoch c.park.ensures.same.disks c.park.ensures.same.named refl
        (parked_ready _ (g.R.Rack.slot (store_rack c.args.self.now.store)) _ _ _ _ _ _ _ c.args.disk c.park.ensures.slot.others q.turn.past_gear q.past_rise q.turn.not_out
        (ap (λ (s : Slot). s.power) (c.park.ensures.slot.done (ap is_ok c.in_default.is))) q.turn.nothing q.turn.ready);
    store = c.park.ensures.same;
    staged = record {
      table = refl;
      batch = refl;
      copied = refl;
      draft = refl;
    };
    unsynced = λ was d low stays here wet. elim (cases_eq d c.args.disk) [
      | inl is ↦ absurd (false≢true (sym (ap (λ (e : ℕ). (g.R.Rack.slot (store_rack c.park.new.self) e).unsynced) is ∙ ap (λ (s : Slot). s.unsynced) (c.park.ensures.slot.done (ap is_ok c.in_default.is)) ∙ c.requires.synced) ∙ wet))
      | inr apart ↦ was d low stays (ap (λ (s : Slot). is_present s.power) (sym (c.park.ensures.slot.others d apart)) ∙ here) (ap (λ (s : Slot). s.unsynced) (sym (c.park.ensures.slot.others d apart)) ∙ wet)
    ];
    turned =
        let old = c.args.self.now in
        only_turns (g.R.Rack.slot (store_rack old.store)) _ c.args.disk _ _ _ c.park.ensures.slot (ap is_present c.requires.spinning) refl refl;
    -- this disk was not out
    absent = λ was d is. elim (was d is) [
      | inl named ↦ inl (c.park.ensures.same.named ∙ named)
      | inr gone ↦ inr (ap (λ (s : Slot). is_present s.power) (c.park.ensures.slot.others d (λ here. c.requires.turn.not_out (is ∙ ap Some here))) ∙ gone)
    ];
  };
  parked = λ is. ap (λ (s : Slot). s.power) (c.park.ensures.slot.done (ap is_ok c.in_default.is));
  answers = record {
    meta = record { lost = None; is = refl; alone = λ d x is. let z : None ≡ Some d = is in cc };
    same = λ is. refl;
    risen = λ d is. inl is;
    gone = λ is. done_not_dropped _ _ refl is;
    failed = λ is. done_not_dropped _ _ refl is;
    two = tt;
    tells = tt;
  };
  serves = λ serves.
      let q = c.requires in
      subst (λ (z : Option ℕ). CanServe (g.R.Rack.slot (store_rack c.park.new.self)) z c.args.self.now.meta) (sym c.park.ensures.same.named)
      (parked_serves (g.R.Rack.slot_count (store_rack c.args.self.now.store)) (g.R.Rack.slot (store_rack c.args.self.now.store)) _ 0 0 _ _ 0 c.args.self.now.batch c.args.disk c.park.ensures.slot.others q.turn.past_gear q.past_rise q.turn.not_out serves);
  calls = one_call _ _ _ (is_ok c.park.result) c.park.ensures.told (λ t tells. may_park (now t) (g.R.Rack.slot (store_rack c.args.self.now.store)) c.args.disk (g.met.R.Rack.agrees (store_rack c.args.self.now.store) t tells) c.requires.spinning c.requires.synced);
  held = record {
    done = λ is h lo.
        let q = c.requires in
        park_done g.R.Rack.slot_count g.R.Rack.slot g.R.Rack.told c.args.self.now _ c.args.disk _ c.park.ensures.told (g.met.R.Rack.agrees (store_rack c.args.self.now.store)) q.spinning q.turn.disk_in q.past_logs q.turn.past_gear q.past_rise q.turn.not_out
        (ap is_ok c.in_default.is) _ _ c.park.ensures.slots c.park.ensures.same.named h lo;
    lost = λ is. done_not_dropped _ _ refl is;
    lost_filled = λ is. done_not_dropped _ _ refl is;
    moments = λ h lo.
        let q = c.requires in
        park_held g.R.Rack.slot_count g.R.Rack.slot g.R.Rack.told c.args.self.now _ c.args.disk _ c.park.ensures.told (g.met.R.Rack.agrees (store_rack c.args.self.now.store)) q.spinning q.turn.disk_in q.past_logs q.turn.past_gear q.past_rise q.turn.not_out h lo;
  };
}

pub returns : goal.returns
returns g c = record {
  turns = record {
    slots = c.park.ensures.slots;
    others = c.park.ensures.slot.others;
    ready = on_ok_weaker c.put_out.result (λ put. let park = c.park.ensures in
        ready_moved _ _ _ _ _ _ _ _ _ (meta_with_lost (lost_in c.args.self.now.meta (Some c.args.disk)) c.args.self.now.meta) _ _ _ park.slots park.same.epoch park.same.disks park.same.named put.marked
        (ready_after _ _ _ _ _ _ c.args.self.now.meta _ _ c.requires.turn.ready (Some c.args.disk) (only g c put) (alone_in g c put) (λ d x is k. alone_in g c put d x is (c.requires.turn.still x k)) (low_in g c put))) c.put_out.ensures.out;
    store = c.park.ensures.same;
    staged = record {
      table = refl;
      batch = refl;
      copied = refl;
      draft = refl;
    };
    unsynced = on_ok_weaker c.put_out.result (λ put. λ was d low stays here wet. elim (cases_eq d c.args.disk) [
      | inl is ↦ absurd (false≢true (sym (ap (λ (e : ℕ). is_present (g.R.Rack.slot (store_rack c.park.new.self) e).power) is ∙ ap is_present (c.park.ensures.slot.absent (failed g c put))) ∙ here))
      | inr apart ↦ was d (subst (λ (z : Meta). d < z.setup.geometry.disks) (meta_is g c put) low) (λ gone. stays (gone_marked c.args.self.now.meta c.put_out.new.meta (marked g c put) d gone))
          (ap (λ (s : Slot). is_present s.power) (sym (c.park.ensures.slot.others d apart)) ∙ here) (ap (λ (s : Slot). s.unsynced) (sym (c.park.ensures.slot.others d apart)) ∙ wet)
    ]) c.put_out.ensures.out;
    turned =
        let old = c.args.self.now in
        only_turns (g.R.Rack.slot (store_rack old.store)) _ c.args.disk _ _ _ c.park.ensures.slot (ap is_present c.requires.spinning) refl refl;
    absent = on_ok_weaker c.put_out.result (λ put. λ was d is.
        let same : c.args.disk ≡ d = some_is c.args.disk d (ap (λ (z : Meta). named_out z.out) (sym (meta_is g c put)) ∙ is) in
        inr (ap is_present (ap (λ (e : ℕ). (g.R.Rack.slot (store_rack c.park.new.self) e).power) (sym same) ∙ c.park.ensures.slot.absent (failed g c put)))) c.put_out.ensures.out;
  };
  parked = λ is. absurd (c.put_out.ensures.never is);
  answers = record {
    meta = on_ok_weaker c.put_out.result (λ put. marked g c put) c.put_out.ensures.out;
    same = λ is. absurd (c.put_out.ensures.never is);
    risen = on_ok_weaker c.put_out.result (λ put. λ d is.
        let same : c.args.disk ≡ d = some_is c.args.disk d (ap (λ (z : Meta). named_out z.out) (sym (meta_is g c put)) ∙ is) in
        inr (subst (λ (e : ℕ). HasRisen (g.R.Rack.slot (store_rack c.args.self.now.store) e).faults (g.R.Rack.slot (store_rack c.park.new.self) e).faults) same (c.park.ensures.slot.risen (failed g c put)))) c.put_out.ensures.out;
    gone = λ is. let put : IsPutOut c.args.self.now.meta c.put_out.new.meta (Some c.args.disk) = IfOk-at_ok _ is c.put_out.ensures.out in ap (λ (z : Meta). z.out) (meta_is g c put);
    failed = λ is. let put : IsPutOut c.args.self.now.meta c.put_out.new.meta (Some c.args.disk) = IfOk-at_ok _ is c.put_out.ensures.out in record { risen = c.park.ensures.slot.risen (failed g c put); absent = c.park.ensures.slot.absent (failed g c put) };
    two =
        let old = c.args.self.now in
        IfErr-weaker c.put_out.result _ _ (λ two down. two_lost (named_of old.store) (named_out old.meta.out) _ _ c.args.disk _ c.requires.turn.still (c.park.ensures.slot.risen (ap is_ok c.in-Err.is)) down) c.put_out.ensures.two;
    tells = IfErr-weaker c.put_out.result _ _ (λ two down. call_tells (named_out c.args.self.now.meta.out) _ (Park c.args.disk (is_ok c.park.result)) _ _ c.park.ensures.told (ap is_ok c.in-Err.is) down) c.put_out.ensures.two;
  };
  serves = on_ok_weaker c.put_out.result (λ put. λ serves.
      subst (λ (z : Option ℕ). CanServe (g.R.Rack.slot (store_rack c.park.new.self)) z c.put_out.new.meta) (sym c.park.ensures.same.named)
      (subst (λ (z : Meta). CanServe (g.R.Rack.slot (store_rack c.park.new.self)) (named_of c.args.self.now.store) z) (sym put.marked)
      (serve_after _ _ _ _ _ _ c.args.self.now.meta _ _ c.requires.turn.ready (Some c.args.disk) (only g c put) (alone_in g c put) (λ d x is k. alone_in g c put d x is (c.requires.turn.still x k)) (low_in g c put) serves))) c.put_out.ensures.out;
  calls =
      one_call _ _ _ (is_ok c.park.result) c.park.ensures.told (λ t tells. may_park (now t) (g.R.Rack.slot (store_rack c.args.self.now.store)) c.args.disk (g.met.R.Rack.agrees (store_rack c.args.self.now.store) t tells) c.requires.spinning c.requires.synced);
  held = record {
    done = λ is. absurd (c.put_out.ensures.never is);
    lost = λ is. let put : IsPutOut c.args.self.now.meta c.put_out.new.meta (Some c.args.disk) = IfOk-at_ok _ is c.put_out.ensures.out in
        let ready = c.requires.turn.ready in
        let old = c.args.self.now in
        call_stands g.R.Rack.slot_count g.R.Rack.slot g.R.Rack.told old _ _ c.park.ensures.told (g.met.R.Rack.agrees (store_rack old.store)) _ _ _ _ _ _ c.park.ensures.slots c.park.ensures.same.named
        (ap (λ (z : Meta). z.setup) (meta_is g c put))
        (λ h lo s agrees k. subst (λ (z : Meta). HoldsBetweenCalls (g.R.Rack.slot_count (store_rack old.store)) (named_of old.store) z old.dirty old.batch old.copied h lo (step (Park c.args.disk (is_ok c.park.result)) s)) (sym (meta_is g c put))
        (keeps_failed _ _ old.meta _ _ _ h lo s (Park c.args.disk (is_ok c.park.result)) ready.in_range c.requires.turn.disk_in (failed g c put) (λ x l gone. ready.absent x l (ap is_present (sym (agrees.power x)) ∙ gone)) (alone g c put) c.requires.turn.still k));
    lost_filled = λ is. let put : IsPutOut c.args.self.now.meta c.put_out.new.meta (Some c.args.disk) = IfOk-at_ok _ is c.put_out.ensures.out in
        let ready = c.requires.turn.ready in
        let old = c.args.self.now in
        call_filled g.R.Rack.slot_count g.R.Rack.slot g.R.Rack.told old _ _ c.park.ensures.told (g.met.R.Rack.agrees (store_rack old.store)) _ _ _ c.park.ensures.slots c.park.ensures.same.named
        (ap (λ (z : Meta). z.setup) (meta_is g c put))
        (λ h lo s agrees kf. subst (λ (z : Meta). KeepsFilled (g.R.Rack.slot_count (store_rack old.store)) (named_of old.store) z old.dirty old.copied h lo z.fill (step (Park c.args.disk (is_ok c.park.result)) s)) (sym (meta_is g c put))
        (filled_failed _ _ old.meta _ _ h lo s (Park c.args.disk (is_ok c.park.result)) ready.in_range c.requires.turn.disk_in (failed g c put) (λ x l gone. ready.absent x l (ap is_present (sym (agrees.power x)) ∙ gone)) (alone g c put) c.requires.turn.still kf));
    moments = λ h lo.
        let q = c.requires in
        park_held g.R.Rack.slot_count g.R.Rack.slot g.R.Rack.told c.args.self.now _ c.args.disk _ c.park.ensures.told (g.met.R.Rack.agrees (store_rack c.args.self.now.store)) q.spinning q.turn.disk_in q.past_logs q.turn.past_gear q.past_rise q.turn.not_out h lo;
  };
}

pub park-requires : goal.park-requires
park-requires g c = record {
  exists = let low = c.requires.turn.disk_in in let enough = c.requires.turn.ready.enough in omega (arith, low, enough);
  spinning = c.requires.spinning;
  synced = c.requires.synced;
}
