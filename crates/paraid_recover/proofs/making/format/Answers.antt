use Rattle.std.proofs.Common.{ap, subst, ◌≡◌, ℕ, ◌∙◌, arith}
use Rattle.paraid_base.specs.Regions.{disk_size}
use Rattle.paraid_base.specs.Told.{HasRisen}
use Rattle.paraid_rack.specs.Slots.{Slot}
use Rattle.paraid_rack.specs.Disks.{Disks}
use Rattle.paraid_rack.specs.Trail.{now}
use Rattle.paraid_recover.specs.Attached.{BecomesFormatted, fresh_slot}
use Rattle.paraid_recover.specs.First.{first_meta}
use Rattle.paraid_recover.specs.FormatRefusals.IsDiskRefused.{missing, unmade}
use Rattle.paraid_recover.proofs.AttachLemmas.{led_then}
use Rattle.paraid_recover.proofs.FormatLemmas.{heads_alone, only_reads, reads_and_rest}
use Rattle.paraid_recover.proofs.ReadsLemmas.{quiet_now}
use Rattle.paraid_recover.proofs.making.format.Goals as goal

pub returns-in-Err : goal.returns-in-Err
returns-in-Err g c = record {
  slots = c.refuse_claimed.ensures.slots;
  fresh = tt;
  others = λ d high. c.refuse_claimed.ensures.others d (let low = c.args.setup.now.geometry.disks_low in omega arith);
  formatted = tt;
  free = tt;
  calls = only_reads c.args.force _ _ c.refuse_claimed.ensures.reads;
  refused = c.in-Err.ensures.refused c.args.setup.now.geometry.disks (g.R.Rack.slot_count c.args.rack.now);
}

pub returns-in-Err-make : goal.returns-in-Err-make
returns-in-Err-make g c = record {
  slots = c.make.ensures.slots ∙ c.refuse_claimed.ensures.slots;
  fresh = tt;
  others = λ d high. c.make.ensures.others d high ∙ c.refuse_claimed.ensures.others d (let low = c.args.setup.now.geometry.disks_low in omega arith);
  formatted = tt;
  free = tt;
  calls = reads_and_rest c.args.force _ _ c.refuse_claimed.ensures.reads c.in-Ok.ensures.free c.make.ensures.calls;
  refused =
      let few = c.if-disks-slots.false in
      let disks = c.disks.ensures in
      let slots : c.slots-slots.result ≡ g.R.Rack.slot_count c.args.rack.now = c.slots-slots.ensures ∙ c.refuse_claimed.ensures.slots in
      unmade (λ not t tells. let m = c.make.ensures.calls t tells in c.in-Ok.ensures.free not m.from m.was) (omega (arith, slots, few, disks)) c.in-Err-make.ensures.low
      (subst (λ (s : Slot). HasRisen s.faults (g.R.Rack.slot c.make.new.rack c.in-Err-make.disk).faults) (c.in-Ok.ensures.same c.in-Err-make.disk) c.in-Err-make.ensures.risen);
}

pub returns-in-Ok-make : goal.returns-in-Ok-make
returns-in-Ok-make g c = record {
  slots = c.make.ensures.slots ∙ c.refuse_claimed.ensures.slots;
  fresh = λ d low. c.in-Ok-make.ensures.fresh d low ∙ ap (fresh_slot (disk_size c.args.setup.now.geometry)) (c.in-Ok.ensures.same d);
  others = λ d high. c.make.ensures.others d high ∙ c.refuse_claimed.ensures.others d (let low = c.args.setup.now.geometry.disks_low in omega arith);
  formatted =
      let becomes = λ (n : ℕ). BecomesFormatted n (first_meta c.args.setup.now) in
      led_then (λ (start s : Disks). s ≡ start) (becomes (g.R.Rack.slot_count c.args.rack.now)) (becomes (g.R.Rack.slot_count c.args.rack.now))
      (λ start mid end is made. subst (λ (u : Disks). becomes (g.R.Rack.slot_count c.args.rack.now) u end) is made) _ _ _ (quiet_now c.in-Ok.ensures.quiet)
      (λ t tells. let m = c.in-Ok-make.ensures.formatted t tells in (m.0, m.1, subst (λ (n : ℕ). becomes n (now m.0) (now t)) c.refuse_claimed.ensures.slots m.2));
  free = λ not t tells. let m = c.make.ensures.calls t tells in c.in-Ok.ensures.free not m.from m.was;
  calls = reads_and_rest c.args.force _ _ c.refuse_claimed.ensures.reads c.in-Ok.ensures.free c.make.ensures.calls;
  refused = tt;
}

pub returns-then-disks-slots : goal.returns-then-disks-slots
returns-then-disks-slots g c = record {
  slots = c.refuse_claimed.ensures.slots;
  fresh = tt;
  others = λ d high. c.refuse_claimed.ensures.others d (let low = c.args.setup.now.geometry.disks_low in omega arith);
  formatted = tt;
  free = tt;
  calls = only_reads c.args.force _ _ c.refuse_claimed.ensures.reads;
  refused =
      let slots : c.slots-slots.result ≡ g.R.Rack.slot_count c.args.rack.now = c.slots-slots.ensures ∙ c.refuse_claimed.ensures.slots in
      let few = c.if-disks-slots.true in
      let disks = c.disks.ensures in
      missing c.in-Ok.ensures.free (omega (arith, slots, few, disks)) slots c.in-Ok.ensures.same (heads_alone c.refuse_claimed.ensures.reads);
}
