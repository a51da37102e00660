use Rattle.std.proofs.lemmas.Result.{IfErr-weaker, IfOk-at_ok, on_ok_weaker}
use Rattle.paraid_core.specs.Steps.{IsPutOut}
use Rattle.std.proofs.Common.{◌≡◌, ℕ, ◌∙◌, ◌<◌, None, Some, sym, ap, subst, refl, false, inl, inr, arith}
use Rattle.std.proofs.lemmas.Bool.{cases_eq, false≢true}
use Rattle.paraid_base.specs.States.{gone_out}
use Rattle.std.specs.Prelude.{Option, is_ok}
use Rattle.paraid_image.specs.Out.{named_out}
use Rattle.paraid_base.specs.Told.{HasRisen}
use Rattle.paraid_rack.specs.declared.call.Call.TheVariants.{SpinUp}
use Rattle.paraid_rack.specs.Disks.{is_present, step}
use Rattle.paraid_rack.specs.Slots.{Slot}
use Rattle.paraid_record.specs.declared.meta.Meta.{Meta}
use Rattle.paraid_txn.specs.Stores.{named_of, store_rack}
use Rattle.paraid_image.specs.Mark.{meta_after_loss, meta_with_lost}
use Rattle.paraid_core.specs.declared.staged.Core.{Core}
use Rattle.paraid_core.specs.CoreInvariant.{CanServe, HoldsBetweenCalls, lost_in}
use Rattle.paraid_core.proofs.AfterLemmas.{lost_in_there, ready_after, ready_moved}
use Rattle.paraid_core.proofs.CallLemmas.{call_stands}
use Rattle.paraid_core.specs.Fills.{KeepsFilled}
use Rattle.paraid_core.proofs.LossShiftLemmas.{call_filled, filled_failed}
use Rattle.paraid_core.proofs.LostDiskLemmas.{keeps_failed}
use Rattle.paraid_core.proofs.SpinLemmas.{spin_done, spin_held, spun_ready}
use Rattle.paraid_core.proofs.ReadyLemmas.{IsLostOnly, some_is}
use Rattle.paraid_core.proofs.BeginLemmas.{lost_serves, up_serves}
use Rattle.paraid_core.proofs.KindLemmas.{one_call}
use Rattle.paraid_core.proofs.OrderLemmas.{call_tells}
use Rattle.paraid_core.proofs.staged.Core.spin_up.Given.{Over}
use Rattle.paraid_core.proofs.TurnLemmas.{only_turns}
use Rattle.paraid_core.proofs.UnsyncedLemmas.{gone_still}
use Rattle.paraid_core.proofs.staged.Core.spin_up.Goals as goal
use Rattle.paraid_core.proofs.ErrLemmas.{done_not_dropped, two_lost}
use Rattle.paraid_core.proofs.staged.Core.spin_up.Goals.{After-put_out}

-- it failed, and no other disk is out
module _ (g : Over) (c : After-put_out g) (put : IsPutOut c.args.self.now.meta c.put_out.new.meta (Some c.args.disk)) where
  abbrev old : Core g.row.R.Denot g.R.Rack
  old = c.args.self.now

  failed : is_ok c.spin_up.result ≡ false
  failed = ap is_ok c.in-Err.is

  is_lost : lost_in old.meta (Some c.args.disk) ≡ Some c.args.disk
  is_lost = lost_in_there old.meta (Some c.args.disk) c.args.disk c.requires.turn.disk_in refl

  meta_is : c.put_out.new.meta ≡ meta_after_loss old.meta c.args.disk
  meta_is = put.marked ∙ ap (λ (o : Option ℕ). meta_with_lost o old.meta) is_lost

  alone : (x : ℕ) → named_out old.meta.out ≡ Some x → x ≡ c.args.disk
  alone x is = put.alone c.args.disk x refl is c.requires.turn.disk_in

  only : IsLostOnly old.meta.setup.geometry.disks (lost_in old.meta (Some c.args.disk)) (g.R.Rack.slot (store_rack old.store)) (g.R.Rack.slot (store_rack c.spin_up.new.self))
  only = subst (λ (o : Option ℕ). IsLostOnly old.meta.setup.geometry.disks o (g.R.Rack.slot (store_rack old.store)) (g.R.Rack.slot (store_rack c.spin_up.new.self))) (sym is_lost) (record {
    power = λ x l not. ap (λ (s : Slot). s.power) (c.spin_up.ensures.slot.others x (λ here. not (ap Some (sym here))));
    size = λ x l not. ap (λ (s : Slot). s.size) (c.spin_up.ensures.slot.others x (λ here. not (ap Some (sym here))));
    gone = λ x k. ap (λ (e : ℕ). (g.R.Rack.slot (store_rack c.spin_up.new.self) e).power) (sym (some_is c.args.disk x k)) ∙ c.spin_up.ensures.slot.absent failed;
  })

  alone_in : (d x : ℕ) → lost_in old.meta (Some c.args.disk) ≡ Some d → named_out old.meta.out ≡ Some x → x ≡ d
  alone_in d x is k = alone x k ∙ some_is c.args.disk d (sym is_lost ∙ is)

  low_in : (d : ℕ) → lost_in old.meta (Some c.args.disk) ≡ Some d → d < old.meta.setup.geometry.disks
  low_in d is = subst (λ (e : ℕ). e < old.meta.setup.geometry.disks) (some_is c.args.disk d (sym is_lost ∙ is)) c.requires.turn.disk_in

pub returns : goal.returns
returns g c = record {
  turns = record {
    slots = c.spin_up.ensures.slots;
    others = c.spin_up.ensures.slot.others;
    ready = on_ok_weaker c.put_out.result (λ put. let spin = c.spin_up.ensures in
        ready_moved _ _ _ _ _ _ _ _ _ (meta_with_lost (lost_in c.args.self.now.meta (Some c.args.disk)) c.args.self.now.meta) _ _ _ spin.slots spin.same.epoch spin.same.disks spin.same.named put.marked
        (ready_after _ _ _ _ _ _ c.args.self.now.meta _ _ c.requires.turn.ready (Some c.args.disk) (only g c put) (alone_in g c put) (λ d x is k. alone_in g c put d x is (c.requires.turn.still x k)) (low_in g c put))) c.put_out.ensures.out;
    store = c.spin_up.ensures.same;
    staged = record {
      table = refl;
      batch = refl;
      copied = refl;
      draft = refl;
    };
    unsynced = on_ok_weaker c.put_out.result (λ put. λ was d low stays here wet.
        let m = c.args.self.now.meta in
        let slot = c.spin_up.ensures.slot in
        elim (cases_eq d c.args.disk) [
          | inl is ↦ absurd (false≢true (sym (ap is_present (ap (λ (e : ℕ). (g.R.Rack.slot (store_rack c.spin_up.new.self) e).power) is ∙ slot.absent (failed g c put))) ∙ here))
          | inr apart ↦
              was d (subst (λ (n : Meta). d < n.setup.geometry.disks) (meta_is g c put) low)
              (λ is. stays (ap (λ (n : Meta). gone_out n.out) (meta_is g c put) ∙ gone_still m (Some c.args.disk) (λ e x k named. alone g c put x named ∙ some_is c.args.disk e k) d is))
              (ap (λ (s : Slot). is_present s.power) (sym (slot.others d apart)) ∙ here) (ap (λ (s : Slot). s.unsynced) (sym (slot.others d apart)) ∙ wet)
        ]) c.put_out.ensures.out;
    turned =
        let old = c.args.self.now in
        only_turns (g.R.Rack.slot (store_rack old.store)) _ c.args.disk _ _ _ c.spin_up.ensures.slot (ap is_present c.requires.parked) refl refl;
    absent = on_ok_weaker c.put_out.result (λ put. λ was d is.
        let same : c.args.disk ≡ d = some_is c.args.disk d (ap (λ (z : Meta). named_out z.out) (sym (meta_is g c put)) ∙ is) in
        inr (ap is_present (ap (λ (e : ℕ). (g.R.Rack.slot (store_rack c.spin_up.new.self) e).power) (sym same) ∙ c.spin_up.ensures.slot.absent (failed g c put)))) c.put_out.ensures.out;
  };
  spins = λ is. absurd (c.put_out.ensures.never is);
  size = λ is. absurd (c.put_out.ensures.never is);
  answers = record {
    meta = on_ok_weaker c.put_out.result (λ put. record { lost = Some c.args.disk; is = meta_is g c put; alone = λ d x is k. alone g c put x k ∙ some_is c.args.disk d is }) c.put_out.ensures.out;
    same = λ is. absurd (c.put_out.ensures.never is);
    risen = on_ok_weaker c.put_out.result (λ put. λ d is.
        let same : c.args.disk ≡ d = some_is c.args.disk d (ap (λ (z : Meta). named_out z.out) (sym (meta_is g c put)) ∙ is) in
        inr (subst (λ (e : ℕ). HasRisen (g.R.Rack.slot (store_rack c.args.self.now.store) e).faults (g.R.Rack.slot (store_rack c.spin_up.new.self) e).faults) same (c.spin_up.ensures.slot.risen (failed g c put)))) c.put_out.ensures.out;
    gone = λ is. let put : IsPutOut c.args.self.now.meta c.put_out.new.meta (Some c.args.disk) = IfOk-at_ok _ is c.put_out.ensures.out in ap (λ (z : Meta). z.out) (meta_is g c put);
    failed = λ is. let put : IsPutOut c.args.self.now.meta c.put_out.new.meta (Some c.args.disk) = IfOk-at_ok _ is c.put_out.ensures.out in record { risen = c.spin_up.ensures.slot.risen (failed g c put); absent = c.spin_up.ensures.slot.absent (failed g c put) };
    two =
        let old = c.args.self.now in
        IfErr-weaker c.put_out.result _ _ (λ two down. two_lost (named_of old.store) (named_out old.meta.out) _ _ c.args.disk _ c.requires.turn.still (c.spin_up.ensures.slot.risen (ap is_ok c.in-Err.is)) down) c.put_out.ensures.two;
    tells = IfErr-weaker c.put_out.result _ _ (λ two down. call_tells (named_out c.args.self.now.meta.out) _ (SpinUp c.args.disk (is_ok c.spin_up.result)) _ _ c.spin_up.ensures.told (ap is_ok c.in-Err.is) down) c.put_out.ensures.two;
  };
  serves = on_ok_weaker c.put_out.result (λ put. λ up.
      let old = c.args.self.now in
      subst (λ (z : Option ℕ). CanServe (g.R.Rack.slot (store_rack c.spin_up.new.self)) z c.put_out.new.meta) (sym c.spin_up.ensures.same.named)
      (subst (λ (z : Meta). CanServe (g.R.Rack.slot (store_rack c.spin_up.new.self)) (named_of old.store) z) (sym (meta_is g c put))
      (lost_serves (g.R.Rack.slot (store_rack old.store)) (g.R.Rack.slot (store_rack c.spin_up.new.self)) (named_of old.store) old.meta c.args.disk up c.spin_up.ensures.slot.others
      (λ x is. put.alone c.args.disk x refl is c.requires.turn.disk_in) c.requires.turn.still))) c.put_out.ensures.out;
  calls = one_call _ _ _ (is_ok c.spin_up.result) c.spin_up.ensures.told (λ t tells. (g.met.R.Rack.agrees (store_rack c.args.self.now.store) t tells).power c.args.disk ∙ c.requires.parked);
  held = record {
    done = λ is. absurd (c.put_out.ensures.never is);
    lost = λ is. let put : IsPutOut c.args.self.now.meta c.put_out.new.meta (Some c.args.disk) = IfOk-at_ok _ is c.put_out.ensures.out in
        let ready = c.requires.turn.ready in
        let old = c.args.self.now in
        call_stands g.R.Rack.slot_count g.R.Rack.slot g.R.Rack.told old _ _ c.spin_up.ensures.told (g.met.R.Rack.agrees (store_rack old.store)) _ _ _ _ _ _ c.spin_up.ensures.slots c.spin_up.ensures.same.named
        (ap (λ (z : Meta). z.setup) (meta_is g c put))
        (λ h lo s agrees k. subst (λ (z : Meta). HoldsBetweenCalls (g.R.Rack.slot_count (store_rack old.store)) (named_of old.store) z old.dirty old.batch old.copied h lo (step (SpinUp c.args.disk (is_ok c.spin_up.result)) s)) (sym (meta_is g c put))
        (keeps_failed _ _ old.meta _ _ _ h lo s (SpinUp c.args.disk (is_ok c.spin_up.result)) ready.in_range c.requires.turn.disk_in (failed g c put) (λ x l gone. ready.absent x l (ap is_present (sym (agrees.power x)) ∙ gone)) (alone g c put) c.requires.turn.still k));
    lost_filled = λ is. let put : IsPutOut c.args.self.now.meta c.put_out.new.meta (Some c.args.disk) = IfOk-at_ok _ is c.put_out.ensures.out in
        let ready = c.requires.turn.ready in
        let old = c.args.self.now in
        call_filled g.R.Rack.slot_count g.R.Rack.slot g.R.Rack.told old _ _ c.spin_up.ensures.told (g.met.R.Rack.agrees (store_rack old.store)) _ _ _ c.spin_up.ensures.slots c.spin_up.ensures.same.named
        (ap (λ (z : Meta). z.setup) (meta_is g c put))
        (λ h lo s agrees kf. subst (λ (z : Meta). KeepsFilled (g.R.Rack.slot_count (store_rack old.store)) (named_of old.store) z old.dirty old.copied h lo z.fill (step (SpinUp c.args.disk (is_ok c.spin_up.result)) s)) (sym (meta_is g c put))
        (filled_failed _ _ old.meta _ _ h lo s (SpinUp c.args.disk (is_ok c.spin_up.result)) ready.in_range c.requires.turn.disk_in (failed g c put) (λ x l gone. ready.absent x l (ap is_present (sym (agrees.power x)) ∙ gone)) (alone g c put) c.requires.turn.still kf));
    moments = λ h lo.
        let q = c.requires in
        spin_held g.R.Rack.slot_count g.R.Rack.slot g.R.Rack.told c.args.self.now _ c.args.disk _ c.spin_up.ensures.told (g.met.R.Rack.agrees (store_rack c.args.self.now.store)) q.parked q.turn.disk_in h lo;
  };
}

pub returns-in_default : goal.returns-in_default
returns-in_default g c = record {
  turns = record {
    slots = c.spin_up.ensures.slots;
    others = c.spin_up.ensures.slot.others;
    ready =
        let q = c.requires in
        ready_moved _ _ _ _ _ _ _ _ _ c.args.self.now.meta _ _ _ c.spin_up.ensures.slots c.spin_up.ensures.same.epoch c.spin_up.ensures.same.disks c.spin_up.ensures.same.named refl
        (spun_ready _ (g.R.Rack.slot (store_rack c.args.self.now.store)) _ _ _ _ _ _ _ c.args.disk c.spin_up.ensures.slot.others q.turn.past_gear q.turn.not_out
        (ap (λ (s : Slot). s.power) (c.spin_up.ensures.slot.done (ap is_ok c.in_default.is))) q.turn.nothing q.turn.ready);
    store = c.spin_up.ensures.same;
    staged = record {
      table = refl;
      batch = refl;
      copied = refl;
      draft = refl;
    };
    -- it was parked, and so it was synced
    unsynced = λ was d low stays here wet. elim (cases_eq d c.args.disk) [
      | inl is ↦ absurd (false≢true (sym (ap (λ (e : ℕ). (g.R.Rack.slot (store_rack c.spin_up.new.self) e).unsynced) is ∙ ap (λ (s : Slot). s.unsynced) (c.spin_up.ensures.slot.done (ap is_ok c.in_default.is))
          ∙ (g.met.R.Rack.slots_hold (store_rack c.args.self.now.store)).parked c.args.disk c.requires.parked) ∙ wet))
      | inr apart ↦ was d low stays (ap (λ (s : Slot). is_present s.power) (sym (c.spin_up.ensures.slot.others d apart)) ∙ here) (ap (λ (s : Slot). s.unsynced) (sym (c.spin_up.ensures.slot.others d apart)) ∙ wet)
    ];
    turned =
        let old = c.args.self.now in
        only_turns (g.R.Rack.slot (store_rack old.store)) _ c.args.disk _ _ _ c.spin_up.ensures.slot (ap is_present c.requires.parked) refl refl;
    -- this disk was not out
    absent = λ was d is. elim (was d is) [
      | inl named ↦ inl (c.spin_up.ensures.same.named ∙ named)
      | inr gone ↦ inr (ap (λ (s : Slot). is_present s.power) (c.spin_up.ensures.slot.others d (λ here. c.requires.turn.not_out (is ∙ ap Some here))) ∙ gone)
    ];
  };
  spins = λ is. ap (λ (s : Slot). s.power) (c.spin_up.ensures.slot.done (ap is_ok c.in_default.is));
  size = λ is. ap (λ (s : Slot). s.size) (c.spin_up.ensures.slot.done (ap is_ok c.in_default.is));
  answers = record {
    meta = record { lost = None; is = refl; alone = λ d x is. let z : None ≡ Some d = is in cc };
    same = λ is. refl;
    risen = λ d is. inl is;
    gone = λ is. done_not_dropped _ _ refl is;
    failed = λ is. done_not_dropped _ _ refl is;
    two = tt;
    tells = tt;
  };
  serves = λ up.
      let old = c.args.self.now in
      let done = c.spin_up.ensures.slot.done (ap is_ok c.in_default.is) in
      subst (λ (z : Option ℕ). CanServe (g.R.Rack.slot (store_rack c.spin_up.new.self)) z old.meta) (sym c.spin_up.ensures.same.named)
      (up_serves (g.R.Rack.slot (store_rack old.store)) (g.R.Rack.slot (store_rack c.spin_up.new.self)) (named_of old.store) old.meta c.args.disk up c.spin_up.ensures.slot.others
      (ap (λ (s : Slot). s.power) done) (ap (λ (s : Slot). s.size) done) c.requires.turn.still);
  calls = one_call _ _ _ (is_ok c.spin_up.result) c.spin_up.ensures.told (λ t tells. (g.met.R.Rack.agrees (store_rack c.args.self.now.store) t tells).power c.args.disk ∙ c.requires.parked);
  held = record {
    done = λ is h lo.
        let q = c.requires in
        spin_done g.R.Rack.slot_count g.R.Rack.slot g.R.Rack.told c.args.self.now _ c.args.disk _ c.spin_up.ensures.told (g.met.R.Rack.agrees (store_rack c.args.self.now.store)) q.parked q.turn.disk_in
        (ap is_ok c.in_default.is) _ _ c.spin_up.ensures.slots c.spin_up.ensures.same.named h lo;
    lost = λ is. done_not_dropped _ _ refl is;
    lost_filled = λ is. done_not_dropped _ _ refl is;
    moments = λ h lo.
        let q = c.requires in
        spin_held g.R.Rack.slot_count g.R.Rack.slot g.R.Rack.told c.args.self.now _ c.args.disk _ c.spin_up.ensures.told (g.met.R.Rack.agrees (store_rack c.args.self.now.store)) q.parked q.turn.disk_in h lo;
  };
}

pub spin_up-requires : goal.spin_up-requires
spin_up-requires g c = record {
  exists = let low = c.requires.turn.disk_in in let enough = c.requires.turn.ready.enough in omega (arith, low, enough);
  parked = c.requires.parked;
}
