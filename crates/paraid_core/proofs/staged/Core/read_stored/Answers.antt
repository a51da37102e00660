use Rattle.std.proofs.lemmas.Result.{IfErr-weaker, IfOk-at_ok, on_ok_weaker}
use Rattle.paraid_core.specs.Steps.{IsPutOut}
use Rattle.paraid_image.specs.Mark.{meta_after_loss, meta_with_lost}
use Rattle.std.proofs.Common.{◌≡◌, ℕ, ◌∙◌, ◌<◌, Some, None, sym, ap, subst, refl, false, true, arith}
use Rattle.std.specs.Prelude.{Option, is_ok}
use Rattle.paraid_base.specs.Told.{HasRisen}
use Rattle.paraid_image.specs.Out.{named_out}
use Rattle.paraid_rack.specs.declared.call.Call.TheVariants.{Read}
use Rattle.paraid_rack.specs.Disks.{is_present, step}
use Rattle.paraid_record.specs.declared.meta.Meta.{Meta}
use Rattle.paraid_txn.specs.Stores.{named_of, store_rack}
use Rattle.paraid_core.specs.declared.staged.Core.{Core}
use Rattle.paraid_core.specs.CoreInvariant.{HoldsBetweenCalls, lost_in}
use Rattle.paraid_core.proofs.AfterLemmas.{lost_in_there}
use Rattle.paraid_core.proofs.CallLemmas.{call_held, call_leaves, call_spared, call_stands, done_only, failed_only, keeps_held}
use Rattle.paraid_core.proofs.ReadyLemmas.{some_is}
use Rattle.paraid_core.proofs.UnsyncedLemmas.{marks_read, one_dry}
use Rattle.paraid_core.proofs.LostDiskLemmas.{keeps_failed}
use Rattle.paraid_core.proofs.StoredLemmas.{keeps_read}
use Rattle.paraid_core.proofs.KindLemmas.{one_call}
use Rattle.paraid_core.proofs.LostMarkLemmas.{marks_done, marks_failed}
use Rattle.paraid_core.proofs.OrderLemmas.{call_tells}
use Rattle.paraid_core.proofs.staged.Core.read_stored.Given.{Over}
use Rattle.paraid_core.proofs.staged.Core.read_stored.Goals as goal
use Rattle.paraid_core.proofs.ErrLemmas.{done_not_dropped, two_lost}
use Rattle.paraid_core.proofs.staged.Core.read_stored.Goals.{After-put_out, In_default}

-- it was done
module _ (g : Over) (c : In_default g) where
  done : is_ok c.read.result ≡ true
  done = ap is_ok c.in_default.is

-- it failed, and no other disk is out
module _ (g : Over) (c : After-put_out g) (put : IsPutOut c.args.self.now.meta c.put_out.new.meta (Some c.args.disk)) where
  abbrev old : Core g.row.R.Denot g.R.Rack
  old = c.args.self.now

  failed : is_ok c.read.result ≡ false
  failed = ap is_ok c.in-Err.is

  is_lost : lost_in old.meta (Some c.args.disk) ≡ Some c.args.disk
  is_lost = lost_in_there old.meta (Some c.args.disk) c.args.disk c.requires.disk refl

  meta_is : c.put_out.new.meta ≡ meta_after_loss old.meta c.args.disk
  meta_is = put.marked ∙ ap (λ (o : Option ℕ). meta_with_lost o old.meta) is_lost

  alone : (x : ℕ) → named_out old.meta.out ≡ Some x → x ≡ c.args.disk
  alone x is = put.alone c.args.disk x refl is c.requires.disk

pub returns-in_default : goal.returns-in_default
returns-in_default g c = record {
  stays = record {
    leaves =
        call_leaves g.R.Rack.slot_count g.R.Rack.slot c.args.self.now _ c.requires.ready c.requires.still c.read.ensures.slots c.read.ensures.same refl refl refl
        None (λ d is. cc) (done_only _ _ _ _ _ _ _ c.read.ensures.slot refl refl (done g c)) (λ d x is. cc) refl
        (call_spared 8 _ _ _ _ _ _ c.read.ensures.slot refl refl refl) (λ d is. cc) (marks_read _ _ _ _ _ _ c.read.ensures.slot _ refl);
    losses = record {
      slots = c.read.ensures.slots;
      spared = call_spared 8 _ _ _ _ _ _ c.read.ensures.slot refl refl refl;
      two = tt;
      tells = tt;
      marks = marks_done c.args.self.now.meta _ _ c.args.disk _ _ _ c.read.ensures.slot (record { faults = refl; power = refl; size = refl }) (ap is_ok c.in_default.is);
    };
    still_synced = one_dry _ _ _ _ _ _ c.read.ensures.slot (λ wet. wet);
    moments =
        call_held g.R.Rack.slot_count g.R.Rack.slot g.R.Rack.told c.args.self.now _ _ c.read.ensures.told c.requires.disk
        (λ is h lo s k. keeps_held _ _ _ _ _ c.args.self.now.copied h lo _ (keeps_read _ _ _ _ _ _ h lo s _ _ _ is k));
    stands =
        call_stands g.R.Rack.slot_count g.R.Rack.slot g.R.Rack.told c.args.self.now _ _ c.read.ensures.told (g.met.R.Rack.agrees (store_rack c.args.self.now.store)) _ _ _ _ _ _ c.read.ensures.slots c.read.ensures.same.named refl
        (λ h lo s agrees k. keeps_read _ _ _ _ _ _ h lo s _ _ _ (done g c) k);
  };
  same = λ is. refl;
  copied = refl;
  calls = one_call _ _ _ (is_ok c.read.result) c.read.ensures.told (λ t tells. (g.met.R.Rack.agrees (store_rack c.args.self.now.store) t tells).power c.args.disk ∙ c.requires.spins);
  loses = record {
    gone = λ is. done_not_dropped _ _ refl is;
    failed = λ is. done_not_dropped _ _ refl is;
  };
  value = λ is. c.in_default.ensures.bytes;
}

pub returns : goal.returns
returns g c = record {
  stays = record {
    leaves = on_ok_weaker c.put_out.result (λ put. call_leaves g.R.Rack.slot_count g.R.Rack.slot c.args.self.now _ c.requires.ready c.requires.still c.read.ensures.slots c.read.ensures.same refl refl refl
        (Some c.args.disk) (λ d is. subst (λ (e : ℕ). e < c.args.self.now.meta.setup.geometry.disks) (some_is c.args.disk d is) c.requires.disk)
        (failed_only _ _ _ _ _ _ _ c.read.ensures.slot refl refl (failed g c put)) (λ d x is k. alone g c put x k ∙ some_is c.args.disk d is) (meta_is g c put)
        (call_spared 8 _ _ _ _ _ _ c.read.ensures.slot refl refl refl)
        (λ d is. subst (λ (e : ℕ). HasRisen (g.R.Rack.slot (store_rack c.args.self.now.store) e).faults (g.R.Rack.slot (store_rack c.read.new.self) e).faults) (some_is c.args.disk d is) (c.read.ensures.slot.risen (failed g c put))) (marks_read _ _ _ _ _ _ c.read.ensures.slot _ refl)) c.put_out.ensures.out;
    losses = record {
      slots = c.read.ensures.slots;
      spared = call_spared 8 _ _ _ _ _ _ c.read.ensures.slot refl refl refl;
      two =
          let old = c.args.self.now in
          IfErr-weaker c.put_out.result _ _ (λ two down. two_lost (named_of old.store) (named_out old.meta.out) _ _ c.args.disk _ c.requires.still (c.read.ensures.slot.risen (ap is_ok c.in-Err.is)) down) c.put_out.ensures.two;
      tells = IfErr-weaker c.put_out.result _ _ (λ two down. call_tells (named_out c.args.self.now.meta.out) _ (Read c.args.disk c.args.place (is_ok c.read.result)) _ _ c.read.ensures.told (ap is_ok c.in-Err.is) down) c.put_out.ensures.two;
      marks = on_ok_weaker c.put_out.result (λ put. marks_failed c.args.self.now.meta c.put_out.new.meta _ _ c.args.disk _ _ _ c.read.ensures.slot (failed g c put) (meta_is g c put) c.requires.disk (λ x k. put.alone c.args.disk x refl k c.requires.disk)) c.put_out.ensures.out;
    };
    still_synced = one_dry _ _ _ _ _ _ c.read.ensures.slot (λ wet. wet);
    moments =
        call_held g.R.Rack.slot_count g.R.Rack.slot g.R.Rack.told c.args.self.now _ _ c.read.ensures.told c.requires.disk
        (λ is h lo s k. keeps_held _ _ _ _ _ c.args.self.now.copied h lo _ (keeps_read _ _ _ _ _ _ h lo s _ _ _ is k));
    stands = on_ok_weaker c.put_out.result (λ put. let ready = c.requires.ready in
        call_stands g.R.Rack.slot_count g.R.Rack.slot g.R.Rack.told c.args.self.now _ _ c.read.ensures.told (g.met.R.Rack.agrees (store_rack c.args.self.now.store)) _ _ _ _ _ _ c.read.ensures.slots c.read.ensures.same.named
        (ap (λ (z : Meta). z.setup) (meta_is g c put))
        (λ h lo s agrees k. subst (λ (z : Meta). HoldsBetweenCalls (g.R.Rack.slot_count (store_rack c.args.self.now.store)) (named_of c.args.self.now.store) z c.args.self.now.dirty c.args.self.now.batch c.args.self.now.copied h lo (step (Read c.args.disk c.args.place (is_ok c.read.result)) s)) (sym (meta_is g c put))
        (keeps_failed _ _ c.args.self.now.meta _ _ _ h lo s (Read c.args.disk c.args.place (is_ok c.read.result)) ready.in_range c.requires.disk (failed g c put) (λ x l gone. ready.absent x l (ap is_present (sym (agrees.power x)) ∙ gone)) (alone g c put) c.requires.still k))) c.put_out.ensures.out;
  };
  same = λ is. absurd (c.put_out.ensures.never is);
  copied = refl;
  calls = one_call _ _ _ (is_ok c.read.result) c.read.ensures.told (λ t tells. (g.met.R.Rack.agrees (store_rack c.args.self.now.store) t tells).power c.args.disk ∙ c.requires.spins);
  loses = record {
    gone = λ is. let put : IsPutOut c.args.self.now.meta c.put_out.new.meta (Some c.args.disk) = IfOk-at_ok _ is c.put_out.ensures.out in meta_is g c put;
    failed = λ is. let put : IsPutOut c.args.self.now.meta c.put_out.new.meta (Some c.args.disk) = IfOk-at_ok _ is c.put_out.ensures.out in record { risen = c.read.ensures.slot.risen (failed g c put); absent = c.read.ensures.slot.absent (failed g c put) };
  };
  value = λ is. absurd (c.put_out.ensures.never is);
}

pub read-requires : goal.read-requires
read-requires g c = record {
  exists = let low = c.requires.disk in let enough = c.requires.ready.enough in omega (arith, low, enough);
  spinning = c.requires.spins;
  within = c.requires.within;
}
