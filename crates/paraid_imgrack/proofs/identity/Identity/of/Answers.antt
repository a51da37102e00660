use Rattle.std.proofs.Common.{◌∙◌}
use Rattle.paraid_imgrack.proofs.LooksLemmas.{IsNamed-by, IsNamed-same, LearnedBelow-next, LearnedBelow-none, SeenBelow-next, SeenBelow-none}
use Rattle.paraid_imgrack.proofs.identity.Identity.of.Goals as goal

pub loop-slot-init : goal.loop-slot-init
loop-slot-init c = (
  IsNamed-by _ c.in_ok-named.named c.new-identity.result c.in_ok-named.ensures.one c.in_ok-named.ensures.deciding c.new-identity.ensures.array,
  (LearnedBelow-none _ _, (SeenBelow-none _ c.new-identity.result c.new-identity.ensures.none, c.new-identity.ensures.none.due)),
)

pub loop-slot-preserved : goal.loop-slot-preserved
loop-slot-preserved c = (
  IsNamed-same _ c.loop-slot.identity c.learn_from.new.self c.learn_from.ensures.same c.loop-slot.invariant.0,
  (
    LearnedBelow-next _ c.loop-slot.identity c.learn_from.new.self c.loop-slot.slot c.learn_from.ensures.same c.learn_from.ensures.kept c.learn_from.ensures.taken c.loop-slot.invariant.1.0,
    (
      SeenBelow-next _ c.loop-slot.identity c.learn_from.new.self c.loop-slot.slot c.learn_from.ensures.same c.learn_from.ensures.others c.learn_from.ensures.seen c.loop-slot.invariant.1.1.0,
      c.learn_from.ensures.kept.due ∙ c.loop-slot.invariant.1.1.1,
    ),
  ),
)
