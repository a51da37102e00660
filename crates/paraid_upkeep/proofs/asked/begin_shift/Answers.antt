use Rattle.std.proofs.Common.{sym, subst}
use Rattle.std.specs.Prelude.{OnOk}
use Rattle.paraid_upkeep.specs.Directions.{HasBegun, IsNextTo}
use Rattle.paraid_upkeep.specs.declared.asked.Direction.{Direction}
use Rattle.paraid_upkeep.specs.declared.asked.Direction.TheVariants.{Down}
use Rattle.paraid_shift.proofs.PartLemmas.{keeps_spared}
use Rattle.paraid_upkeep.proofs.asked.begin_shift.Goals as goal

pub begin_up-requires : goal.begin_up-requires
begin_up-requires g c = record {
  can = c.requires.can;
  next = subst (λ (z : Direction). IsNextTo z c.args.core.now.meta c.args.to) c.in-Up.is c.requires.next;
}

pub begin_down-requires : goal.begin_down-requires
begin_down-requires g c =
    let next : IsNextTo Down c.args.core.now.meta c.args.to = subst (λ (z : Direction). IsNextTo z c.args.core.now.meta c.args.to) c.in-Down.is c.requires.next in
    record { can = c.requires.can; next = next.0; spared = next.1 }

pub returns-in-Up : goal.returns-in-Up
returns-in-Up g c =
    let begun = c.begin_up.ensures in
    record {
      shifted = begun.shifted;
      meta = subst (λ (z : Direction). OnOk c.begin_up.result (HasBegun z c.args.core.now.meta c.begin_up.new.core.meta c.args.to)) (sym c.in-Up.is) begun.meta;
      keeps = begun.keeps;
      steps = begun.steps;
      rack = begun.rack;
    }

pub returns-in-Down : goal.returns-in-Down
returns-in-Down g c =
    let begun = c.begin_down.ensures in
    record {
      shifted = begun.shifted;
      meta = subst (λ (z : Direction). OnOk c.begin_down.result (HasBegun z c.args.core.now.meta c.begin_down.new.core.meta c.args.to)) (sym c.in-Down.is) begun.meta;
      keeps = begun.keeps;
      steps = begun.steps;
      rack = keeps_spared begun.rack;
    }
