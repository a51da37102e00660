use Rattle.paraid_plan.proofs.LeavesLemmas.{failed, stays_none}
use Rattle.std.proofs.Common.{◌≡◌, ◌<◌, ◌≤◌, ◌∙◌, ℕ, None, Some, arith, sym, subst, rules}
use Rattle.paraid_base.specs.Regions.{IsGear}
use Rattle.paraid_record.specs.Codes.{phase_to}
use Rattle.paraid_plan.proofs.FilledCopyLemmas.{copy_alone, copy_powered, filled_low}
use Rattle.paraid_plan.proofs.RoomLemmas.{copy_read, filled_gear, filled_parked}
use Rattle.paraid_plan.proofs.cell.read_copy.Goals as goal

pub soft_of-s-requires : goal.soft_of-s-requires
soft_of-s-requires g c = record {
  gear =
      let m = c.args.m.now in
      let low = filled_low m c.args.r c.args.d (sym c.requires.filled ∙ c.if-not-filled.false) in
      subst (IsGear m.setup.geometry) (sym c.to-to.ensures) (filled_gear m _ c.requires.in_range low);
  parked =
      let m = c.args.m.now in
      let at = filled_parked m c.args.r c.args.d (sym c.requires.filled ∙ c.if-not-filled.false) in
      subst (λ (z : ℕ). z ≤ c.args.d) (sym c.to-to.ensures) at;
  disk_in = c.requires.disk;
  row_in = c.requires.row;
}

pub soft_place-requires : goal.soft_place-requires
soft_place-requires g c = record {
  gear =
      let m = c.args.m.now in
      let low = filled_low m c.args.r c.args.d (sym c.requires.filled ∙ c.if-not-filled.false) in
      subst (IsGear m.setup.geometry) (sym c.to-to.ensures) (filled_gear m _ c.requires.in_range low);
  region =
      let m = c.args.m.now in
      let at = filled_parked m c.args.r c.args.d (sym c.requires.filled ∙ c.if-not-filled.false) in
      let to = c.to-to.ensures in
      let disk = c.requires.disk in
      omega (arith, at, to, disk);
  stripe_in = c.soft_of-s.ensures.stripe_in;
}

pub soft_parity-parity-requires : goal.soft_parity-parity-requires
soft_parity-parity-requires g c = record {
  gear =
      let m = c.args.m.now in
      let low = filled_low m c.args.r c.args.d (sym c.requires.filled ∙ c.if-not-filled.false) in
      subst (IsGear m.setup.geometry) (sym c.to-to.ensures) (filled_gear m _ c.requires.in_range low);
  region =
      let m = c.args.m.now in
      let at = filled_parked m c.args.r c.args.d (sym c.requires.filled ∙ c.if-not-filled.false) in
      let to = c.to-to.ensures in
      let disk = c.requires.disk in
      omega (arith, at, to, disk);
  stripe_in = c.soft_of-s.ensures.stripe_in;
}

pub stored-requires : goal.stored-requires
stored-requires g c = record {
  serves = c.requires.serves;
  in_range = c.requires.in_range;
  disk =
      let m = c.args.m.now in
      let at = filled_parked m c.args.r c.args.d (sym c.requires.filled ∙ c.if-not-filled.false) in
      let to = c.to-to.ensures in
      let disk = c.requires.disk in
      let below = c.soft_parity-parity.ensures.below in
      omega (arith, at, to, disk, below);
  place =
      c.soft_place.ensures.in_size;
  powered =
      let m = c.args.m.now in
      let low = filled_low m c.args.r c.args.d (sym c.requires.filled ∙ c.if-not-filled.false) in
      let parity = c.soft_parity-parity.ensures.below in
      let to = c.to-to.ensures in
      copy_powered m _ c.soft_parity-parity.result c.requires.in_range low (subst (λ (z : ℕ). c.soft_parity-parity.result < z) to parity);
  not_out = λ is.
      let m = c.args.m.now in
      let low = filled_low m c.args.r c.args.d (sym c.requires.filled ∙ c.if-not-filled.false) in
      let z : None ≡ Some c.soft_parity-parity.result = sym (copy_alone m _ c.requires.in_range low) ∙ is in cc;
  past_log =
      let after = c.soft_place.ensures.after_hard in omega (arith, after);
}

pub returns-then-not-filled : goal.returns-then-not-filled
returns-then-not-filled g c = record {
  ok = search rules;
  reads = record { ok = stays_none g.P.WritePlan c.args.m.now c.args.plan.now c.requires.serves; fails = tt; leads = g.met.P.WritePlan.stays c.args.plan.now };
}

pub returns-in_err-stored : goal.returns-in_err-stored
returns-in_err-stored g c = record {
  ok = search rules;
  reads = failed g.P.WritePlan _ _ _ _ c.from_residual.ensures.1 c.in_err-stored.ensures.fails c.stored.ensures.leads;
}

pub returns : goal.returns
returns g c = record {
  ok = λ tells filled.
      copy_read (g.P.WritePlan.desk c.args.plan.now).block c.args.m.now.setup.geometry (phase_to c.args.m.now.phase) c.args.r c.args.d c.to-to.result c.soft_of-s.result.0 c.soft_parity-parity.result c.soft_place.result
      c.stored.new.into c.xor_into.new.to c.xor_into-2.new.to c.args.old.now c.args.new.now
      c.to-to.ensures c.soft_of-s.ensures.stripe c.soft_parity-parity.ensures.value c.soft_place.ensures.value (c.in_ok-stored.ensures.ok tells) c.xor_into.ensures c.xor_into-2.ensures;
  reads = record {
    ok = record { same = c.in_ok-stored.ensures.same; bits = c.in_ok-stored.ensures.bits; staged = c.in_ok-stored.ensures.staged; changes = c.in_ok-stored.ensures.changes; goes_on = c.in_ok-stored.ensures.goes_on };
    fails = tt;
    leads = c.in_ok-stored.ensures.leads;
  };
}
