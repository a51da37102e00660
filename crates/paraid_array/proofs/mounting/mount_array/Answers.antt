use Rattle.std.proofs.Common.{ℕ, ◌≤◌, ap, refl, sym, ◌∙◌, subst}
use Rattle.paraid_core.specs.Cores.{core_rack}
use Rattle.paraid_rack.specs.Told.{Extends}
use Rattle.paraid_gear.specs.ThreeWindows.{lengths_of}
use Rattle.paraid_array.specs.Begun.{IsMountedCore}
use Rattle.paraid_session.specs.Mount.{IsMountedFromEach}
use Rattle.paraid_array.specs.Arrays.{ArrayStandsAt, told_of_array}
use Rattle.paraid_array.proofs.CoreLemmas.{serving_of}
use Rattle.paraid_array.proofs.MountLemmas.{stands_mounted}
use Rattle.paraid_array.proofs.mounting.mount_array.Goals as goal

pub new-requires : goal.new-requires
new-requires g c =
    let it = c.in-Ok.begun in
    let done = c.in-Ok.ensures in
    record {
      serving = serving_of g.R.Rack.slot_count g.R.Rack.slot it.core (lengths_of it.windows) it.core.meta.setup c.slots-slots.result done.begun.serving done.begun.known (record { powers = done.begun.powered.powers; large = done.begun.serving.large }) done.lengths refl (done.slots ∙ sym c.slots-slots.ensures);
      none = done.none;
    }

pub returns-in-Ok : goal.returns-in-Ok
returns-in-Ok g c = record {
  going = c.new.ensures.going;
  slots = c.new.ensures.slots ∙ c.slots-slots.ensures;
  later = λ d.
      subst (λ (k : _). (g.R.Rack.slot c.args.rack d).faults ≤ (g.R.Rack.slot (core_rack k) d).faults) (sym c.new.ensures.core) (c.in-Ok.ensures.later d);
  refused_slots = tt;
  refused_later = tt;
  nothing = ap (λ (k : _). k.batch) c.new.ensures.core ∙ c.in-Ok.ensures.begun.nothing;
  counts = record { energy = c.new.ensures.energy; samples = c.new.ensures.samples; requests = c.new.ensures.served };
  setup = c.new.ensures.setup ∙ sym (ap (λ (k : _). k.meta.setup) c.new.ensures.core);
  served =
      subst (λ (k : _). IsMountedCore g.R.Rack.slot g.R.Rack.told (g.R.Rack.slot_count c.args.rack) (g.R.Rack.slot c.args.rack) (g.R.Rack.told c.args.rack) k) (sym c.new.ensures.core) c.in-Ok.ensures.mounted;
  grows = subst (λ (k : _). Extends (g.R.Rack.told c.args.rack) (g.R.Rack.told (core_rack k))) (sym c.new.ensures.core) c.in-Ok.ensures.grows;
  mounted = λ began at.
      let it = c.in-Ok.begun in
      let done = c.in-Ok.ensures in
      let made = c.new.ensures in
      subst (λ (n : ℕ). IsMountedFromEach n c.new.result.setup began (told_of_array g.R.Rack.told c.new.result) (ArrayStandsAt g.R.Rack.slot_count g.R.Rack.told c.new.result)) (sym (made.slots ∙ c.slots-slots.ensures))
      (stands_mounted g.R.Rack.slot_count g.R.Rack.told it.core c.new.result (g.R.Rack.slot_count c.args.rack) began made.core made.setup made.stands (done.stands began at));
  refused_grows = tt;
  cause = tt;
  refused = tt;
}

pub returns-in-Err : goal.returns-in-Err
returns-in-Err g c = record {
  going = tt;
  slots = tt;
  later = tt;
  refused_slots = c.in-Err.ensures.refused_slots;
  refused_later = c.in-Err.ensures.refused_later;
  nothing = tt;
  setup = tt;
  counts = tt;
  served = tt;
  grows = tt;
  mounted = tt;
  refused_grows = c.in-Err.ensures.refused_grows;
  cause = c.in-Err.ensures.cause;
  refused = c.in-Err.ensures.refused;
}
