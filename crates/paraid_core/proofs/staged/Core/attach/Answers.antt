use Rattle.std.proofs.Common.{ℕ, ◌∙◌, sym, ap, refl, arith, inl, inr, rules}
use Rattle.std.specs.Prelude.{is_ok, Some, false}
use Rattle.std.proofs.lemmas.Bool.{cases_eq, false≢true, true≢false}
use Rattle.paraid_txn.specs.Stores.{store_rack}
use Rattle.paraid_core.proofs.AttachLemmas.{attach_stands}
use Rattle.paraid_rack.specs.declared.call.Power.TheVariants.{Spinning}
use Rattle.paraid_rack.specs.Disks.{is_present}
use Rattle.paraid_rack.specs.Slots.{Slot}
use Rattle.paraid_image.specs.Out.{named_out}
use Rattle.paraid_txn.specs.Commit.{gone_out}
use Rattle.paraid_core.proofs.ReadyLemmas.{some_is}
use Rattle.paraid_core.proofs.staged.Core.attach.Goals as goal

pub returns : goal.returns
returns g c = record {
  leaves = record {
    slots = c.attach.ensures.slots;
    others = c.attach.ensures.slot.others;
    ready = search rules;
    serves = search rules;
    store = c.attach.ensures.same;
    staged = record {
      table = refl;
      batch = refl;
      copied = refl;
      draft = refl;
    };
    still = λ d is. sym c.requires.named ∙ sym c.attach.ensures.same.named ∙ is;
    absent = λ d is. inl (c.attach.ensures.same.named ∙ c.requires.named ∙ is);
    -- the disk that is attached is synced, and the others are as they were
    unsynced = λ was d low stays here wet. elim (cases_eq d c.args.disk) [
      | inl is ↦ absurd (false≢true (sym (ap (λ (e : ℕ). (g.R.Rack.slot (store_rack c.attach.new.self) e).unsynced) is ∙ ap (λ (s : Slot). s.unsynced) (c.attach.ensures.slot.done (ap is_ok c.in-Ok.is))) ∙ wet))
      | inr apart ↦ was d low (λ gone. apart (sym (some_is c.args.disk d (sym (ap gone_out c.requires.gone) ∙ gone))))
          (ap (λ (s : Slot). is_present s.power) (sym (c.attach.ensures.slot.others d apart)) ∙ here) (ap (λ (s : Slot). s.unsynced) (sym (c.attach.ensures.slot.others d apart)) ∙ wet)
    ];
  };
  attached = λ is.
      c.attach.ensures.slot.done (ap is_ok c.in-Ok.is)
      ∙ ap (λ (z : ℕ). record (g.R.Rack.slot (store_rack c.args.self.now.store) c.args.disk) { power = Spinning; size = z; unsynced = false }) c.size-size.ensures;
  fresh = λ is. refl;
  lost = λ is. absurd (true≢false is);
  same = λ is. absurd (true≢false is);
  calls = search rules;
  stands = λ h lo.
      let old = c.args.self.now in
      let q = c.requires in
      let size = c.size-size.ensures in
      attach_stands g.R.Rack.slot_count g.R.Rack.slot g.R.Rack.told old q.ready _ c.args.disk _ _ c.attach.ensures.told (g.met.R.Rack.agrees (store_rack old.store)) q.gone (omega arith) q.nothing
      _ _ _ _ c.attach.ensures.slots c.attach.ensures.same.named (λ is. refl) (λ is. absurd (false≢true (sym is ∙ ap is_ok c.in-Ok.is))) refl h lo;
}

pub returns-in_default : goal.returns-in_default
returns-in_default g c = record {
  leaves = record {
    slots = c.attach.ensures.slots;
    others = c.attach.ensures.slot.others;
    ready = search rules;
    serves = search rules;
    store = c.attach.ensures.same;
    staged = record {
      table = refl;
      batch = refl;
      copied = refl;
      draft = refl;
    };
    still = λ d is. ap named_out c.requires.gone ∙ sym c.requires.named ∙ sym c.attach.ensures.same.named ∙ is;
    absent = λ d is. inl (c.attach.ensures.same.named ∙ c.requires.named ∙ sym (ap named_out c.requires.gone) ∙ is);
    unsynced = λ was d low stays here wet. elim (cases_eq d c.args.disk) [
      | inl is ↦ absurd (stays (ap gone_out c.requires.gone ∙ ap Some (sym is)))
      | inr apart ↦ was d low stays (ap (λ (s : Slot). is_present s.power) (sym (c.attach.ensures.slot.others d apart)) ∙ here) (ap (λ (s : Slot). s.unsynced) (sym (c.attach.ensures.slot.others d apart)) ∙ wet)
    ];
  };
  attached = λ is. absurd (false≢true is);
  fresh = λ is. absurd (false≢true is);
  lost = λ is.
      let failed = ap is_ok c.in_default.is in
      record { risen = c.attach.ensures.slot.risen failed; absent = c.attach.ensures.slot.absent failed };
  same = λ is. refl;
  calls = search rules;
  stands = λ h lo.
      let old = c.args.self.now in
      let q = c.requires in
      let size = c.size-size.ensures in
      attach_stands g.R.Rack.slot_count g.R.Rack.slot g.R.Rack.told old q.ready _ c.args.disk _ _ c.attach.ensures.told (g.met.R.Rack.agrees (store_rack old.store)) q.gone (omega arith) q.nothing
      _ _ _ _ c.attach.ensures.slots c.attach.ensures.same.named (λ is. absurd (false≢true (sym (ap is_ok c.in_default.is) ∙ is))) (λ is. refl) refl h lo;
}
