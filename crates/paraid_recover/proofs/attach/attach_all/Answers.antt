use Rattle.std.proofs.Common.{refl, sym, ◌∙◌, ap, subst, arith, ◌+◌, ℕ, inl, inr, rules}
use Rattle.std.proofs.lemmas.Bool.{cases_eq}
use Rattle.paraid_base.specs.Told.{HasRisen}
use Rattle.paraid_rack.specs.Slots.{Slot}
use Rattle.paraid_rack.specs.Told.{Ran}
use Rattle.paraid_rack.proofs.TrailsLemmas.{Ran-none}
use Rattle.paraid_recover.specs.Attached.{AreFreshDisks, fresh_slot}
use Rattle.paraid_recover.specs.Calls.{AreAttaches}
use Rattle.paraid_recover.specs.Between.{RanBetween}
use Rattle.paraid_recover.proofs.AttachLemmas.{attached_more, below_or_at, led_call, led_none, more_attaches, no_attached}
use Rattle.paraid_recover.proofs.attach.attach_all.Goals as goal

pub attach-requires : goal.attach-requires
attach-requires g c = record { exists = (let s = c.loop-disk.invariant.slots in let l = c.loop-disk-test.true in let h = c.requires in omega arith) }

pub loop-disk-init : goal.loop-disk-init
loop-disk-init g c = record {
  slots = refl;
  fresh = λ d low. absurd (omega arith);
  others = λ d high. refl;
  attached = led_none (AreFreshDisks 0 c.args.size) (no_attached c.args.size) (g.R.Rack.told c.args.rack.now);
  calls = Ran-none (λ start calls. AreAttaches c.args.size 0 0 calls) (λ s. omega arith) (g.R.Rack.told c.args.rack.now);
}

pub loop-disk-preserved : goal.loop-disk-preserved
loop-disk-preserved g c = record {
  slots = c.attach.ensures.slots ∙ c.loop-disk.invariant.slots;
  fresh = λ d low. elim (cases_eq d c.loop-disk.disk) [
    | inl is ↦ ap (g.R.Rack.slot c.attach.new.self) is ∙ c.in-Ok.ensures.slot.done refl
        ∙ ap (fresh_slot c.args.size) (c.loop-disk.invariant.others c.loop-disk.disk (omega arith)) ∙ ap (λ (e : ℕ). fresh_slot c.args.size (g.R.Rack.slot c.args.rack.now e)) (sym is)
    | inr apart ↦ c.attach.ensures.slot.others d apart ∙ c.loop-disk.invariant.fresh d (below_or_at d c.loop-disk.disk low apart)
  ];
  others = λ d high. c.attach.ensures.slot.others d (λ is. absurd (omega arith)) ∙ c.loop-disk.invariant.others d (omega arith);
  attached = led_call (AreFreshDisks c.loop-disk.disk c.args.size) (AreFreshDisks (c.loop-disk.disk + 1) c.args.size) _ (λ start s a. attached_more c.loop-disk.disk c.args.size start s a) _ _ _
      c.loop-disk.invariant.attached c.in-Ok.ensures.told;
  calls = more_attaches c.args.size c.loop-disk.disk (c.loop-disk.disk + 1) _ _ _ _ (omega arith) c.loop-disk.invariant.calls c.in-Ok.ensures.told;
}

pub returns-in_default : goal.returns-in_default
returns-in_default g c = record {
  slots = c.attach.ensures.slots ∙ c.loop-disk.invariant.slots;
  fresh = search rules;
  others = λ d high.
      let low = c.loop-disk-test.true in
      c.attach.ensures.slot.others d (λ is. absurd (omega arith)) ∙ c.loop-disk.invariant.others d (omega arith);
  attached = search rules;
  calls = more_attaches c.args.size c.loop-disk.disk c.args.count _ _ _ _ c.loop-disk-test.true c.loop-disk.invariant.calls c.in_default.ensures.told;
  low = c.loop-disk-test.true;
  risen =
      subst (λ (s : Slot). HasRisen s.faults (g.R.Rack.slot c.attach.new.self c.loop-disk.disk).faults) (c.loop-disk.invariant.others c.loop-disk.disk (omega arith))
      (c.in_default.ensures.slot.risen refl);
}

pub returns : goal.returns
returns g c = record {
  slots = c.loop-disk.invariant.slots;
  fresh = λ d low. c.loop-disk.invariant.fresh d (omega arith);
  others = λ d high. c.loop-disk.invariant.others d (omega arith);
  attached = subst (λ (n : ℕ). RanBetween (g.R.Rack.told c.args.rack.now) (g.R.Rack.told c.loop-disk.rack) (AreFreshDisks n c.args.size)) (omega arith) c.loop-disk.invariant.attached;
  calls = subst (λ (n : ℕ). Ran (g.R.Rack.told c.args.rack.now) (g.R.Rack.told c.loop-disk.rack) (λ start calls. AreAttaches c.args.size 0 n calls)) (omega arith) c.loop-disk.invariant.calls;
  low = tt;
  risen = search rules;
}
