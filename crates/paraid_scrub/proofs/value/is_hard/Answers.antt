use Rattle.std.proofs.Common.{◌∙◌, sym, ap, arith, rules}
use Rattle.std.specs.Prelude.{not}
use Rattle.paraid_scrub.proofs.CellLemmas.{hard_below, hard_high, hard_rising}
use Rattle.paraid_scrub.proofs.value.is_hard.Goals as goal

pub returns-then-disk-meta : goal.returns-then-disk-meta
returns-then-disk-meta g c = record {
  value = λ v s.
      let is = (g.met.C.Stored.agrees c.args.core.now v s).0 ∙ sym c.meta-meta.ensures.value in
      sym (hard_below v c.meta-meta.result is c.args.row c.args.disk c.if-disk-meta.true);
  parked = search rules;
  powered = search rules;
}

pub returns-then-disk-rising_to : goal.returns-then-disk-rising_to
returns-then-disk-rising_to g c = record {
  value = λ v s.
      let is = (g.met.C.Stored.agrees c.args.core.now v s).0 ∙ sym c.meta-meta.ensures.value in
      let e = c.rising_to.ensures in
      sym (hard_high v c.meta-meta.result is c.args.row c.args.disk (omega arith) (omega (arith, e)));
  parked = search rules;
  powered = search rules;
}

pub returns : goal.returns
returns g c = record {
  value = λ v s.
      let is = (g.met.C.Stored.agrees c.args.core.now v s).0 ∙ sym c.meta-meta.ensures.value in
      let e = c.rising_to.ensures in
      ap not (c.is_dirty.ensures v s) ∙ sym (hard_rising v c.meta-meta.result is c.args.row c.args.disk (omega arith) (omega (arith, e)));
  parked = search rules;
  powered = search rules;
}
