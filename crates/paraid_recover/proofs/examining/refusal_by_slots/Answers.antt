use Rattle.std.proofs.Common.{refl, sym, ◌∙◌, arith}
use Rattle.paraid_recover.specs.Examined.IsRefusedBySlots.{asleep}
use Rattle.paraid_recover.proofs.ExaminedLogLemmas.{second_asleep}
use Rattle.paraid_recover.proofs.examining.refusal_by_slots.Goals as goal

pub returns-then-is_log_parked : goal.returns-then-is_log_parked
returns-then-is_log_parked g c =
    asleep 0 (record { below = omega arith; holds = sym c.is_log_parked.ensures ∙ c.if-is_log_parked.true; least = λ e low. absurd (omega arith) }) refl

pub returns-then-is_log_parked-2 : goal.returns-then-is_log_parked-2
returns-then-is_log_parked-2 g c =
    asleep 1 (second_asleep (g.R.Rack.slot c.args.rack.now) (sym c.is_log_parked.ensures ∙ c.if-is_log_parked.false) (sym c.is_log_parked-2.ensures ∙ c.if-is_log_parked-2.true)) refl
