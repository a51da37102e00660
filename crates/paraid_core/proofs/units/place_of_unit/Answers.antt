use Rattle.std.proofs.Common.{◌∙◌, ap, arith, subst, sym}
use Rattle.paraid_core.specs.Units.{IsUnitNumber, rebuilt_place}
use Rattle.paraid_core.proofs.units.place_of_unit.Goals as goal

pub hard_place-requires : goal.hard_place-requires
hard_place-requires c = (subst (IsUnitNumber c.args.meta.now c.args.disk c.args.number) c.in-Row.is c.requires.unit).0

pub soft_place-requires-clause-gear : goal.soft_place-requires-clause-gear
soft_place-requires-clause-gear c = c.requires.in_range.gear

pub soft_place-requires-clause-stripe_in : goal.soft_place-requires-clause-stripe_in
soft_place-requires-clause-stripe_in c = (subst (IsUnitNumber c.args.meta.now c.args.disk c.args.number) c.in-Stripe.is c.requires.unit).1.0

pub overflow_add-result : goal.overflow_add-result
overflow_add-result c = let low = (subst (IsUnitNumber c.args.meta.now c.args.disk c.args.number) c.in-MapBlock.is c.requires.unit).1.0 in let high = c.args.meta.now.setup.geometry.rows_high in omega (arith, low, high)

pub returns-in-Row : goal.returns-in-Row
returns-in-Row c = record {
  value = c.hard_place.ensures.value ∙ ap (rebuilt_place c.args.meta.now) (sym c.in-Row.is);
  past_log = let after = c.hard_place.ensures.after_map in omega (arith, after);
  within = let before = c.hard_place.ensures.before_regions in omega (arith, before);
}

pub returns-in-Stripe : goal.returns-in-Stripe
returns-in-Stripe c = record {
  value = c.soft_place.ensures.value ∙ ap (rebuilt_place c.args.meta.now) (sym c.in-Stripe.is);
  past_log = let after = c.soft_place.ensures.after_hard in omega (arith, after);
  within = c.soft_place.ensures.in_size;
}

pub returns-in-MapBlock : goal.returns-in-MapBlock
returns-in-MapBlock c = record {
  value = ap (rebuilt_place c.args.meta.now) (sym c.in-MapBlock.is);
  past_log = omega arith;
  within = let low = (subst (IsUnitNumber c.args.meta.now c.args.disk c.args.number) c.in-MapBlock.is c.requires.unit).1.0 in omega (arith, low);
}
