use Rattle.std.proofs.Common.{ℕ, ◌∙◌, ◌<◌, ◌≤◌, ap, refl, subst, sym}
use Rattle.paraid_base.specs.declared.block.Block.{Block}
use Rattle.paraid_base.specs.declared.event.Answer.TheVariants.{Halted, NoBlock, Value}
use Rattle.paraid_base.specs.declared.event.Event.TheVariants.{Read}
use Rattle.paraid_serve.proofs.GrowsLemmas.{told_then}
use Rattle.paraid_device.specs.Devices.{array_of}
use Rattle.paraid_device.proofs.KeptLemmas.{answered_more}
use Rattle.paraid_device.proofs.ReasonLemmas.{no_read_by_cause, read_by_cause}
use Rattle.paraid_device.proofs.TurnLemmas.{read_stands, read_value}
use Rattle.paraid_device.proofs.device.DeviceBlocks.read.Goals as goal

pub returns-in-Err-clause-told : goal.returns-in-Err-clause-told
returns-in-Err-clause-told g c = told_then _ _ c.in-Err.ensures.asks.grows

pub returns-in-Err-clause-events : goal.returns-in-Err-clause-events
returns-in-Err-clause-events g c = λ first events before. answered_more g.A.Serves (array_of first) (array_of c.args.self.now) c.ask.new.array events (Read c.args.block) (Halted c.in-Err.halt) (Halted c.in-Err.halt) before c.in-Err.ensures.asks refl tt

pub returns-in-Ok-clause-told : goal.returns-in-Ok-clause-told
returns-in-Ok-clause-told g c = told_then _ _ c.in-Ok.ensures.asks.grows

pub returns-in-Ok-clause-history : goal.returns-in-Ok-clause-history
returns-in-Ok-clause-history g c = λ h stands is.
    read_stands g.A.Serves (array_of c.args.self.now) c.ask.new.array c.args.block _ h c.in-Ok.ensures.asks c.in-Ok.ensures.going stands is

pub returns-in-Ok-clause-events : goal.returns-in-Ok-clause-events
returns-in-Ok-clause-events g c = λ first events before.
    let a = array_of c.args.self.now in
    let past = subst (λ (n : ℕ). n ≤ c.args.block) c.blocks-count.ensures.value c.if-block-count.true in
    answered_more g.A.Serves (array_of first) a c.ask.new.array events (Read c.args.block) _ (NoBlock c.args.block) before c.in-Ok.ensures.asks
    (no_read_by_cause _ _ (g.A.Serves.setup a) (g.met.A.Serves.shows a).setup c.args.block _ c.in-Ok.ensures.asks.cause (sym c.in-Ok.ensures.asks.halt ∙ c.in-Ok.ensures.going) past) tt

pub returns-in-Ok-2-clause-told : goal.returns-in-Ok-2-clause-told
returns-in-Ok-2-clause-told g c = told_then _ _ c.in-Ok-2.ensures.asks.grows

pub returns-in-Ok-2-clause-value : goal.returns-in-Ok-2-clause-value
returns-in-Ok-2-clause-value g c = λ h stands is.
    let there = subst (λ (n : ℕ). c.args.block < n) c.blocks-count.ensures.value c.if-block-count.false in
    c.copy_from.ensures ∙ read_value g.A.Serves (array_of c.args.self.now) c.ask.new.array c.args.block c.in-Ok-2.field-0 c.ask.new.beside h c.in-Ok-2.ensures.asks c.in-Ok-2.ensures.going there stands is

pub returns-in-Ok-2-clause-history : goal.returns-in-Ok-2-clause-history
returns-in-Ok-2-clause-history g c = λ h stands is.
    read_stands g.A.Serves (array_of c.args.self.now) c.ask.new.array c.args.block _ h c.in-Ok-2.ensures.asks c.in-Ok-2.ensures.going stands is

pub returns-in-Ok-2-clause-events : goal.returns-in-Ok-2-clause-events
returns-in-Ok-2-clause-events g c = λ first events before.
    let a = array_of c.args.self.now in
    let b = c.ask.new.array in
    let there = subst (λ (n : ℕ). c.args.block < n) c.blocks-count.ensures.value c.if-block-count.false in
    let asks = c.in-Ok-2.ensures.asks in
    answered_more g.A.Serves (array_of first) a b events (Read c.args.block) _ (Value c.args.block c.copy_from.new.self) before asks
    (read_by_cause _ _ (g.A.Serves.setup a) (g.met.A.Serves.shows a).setup c.args.block c.in-Ok-2.field-0 c.ask.new.beside asks.cause (sym asks.halt ∙ c.in-Ok-2.ensures.going) there
    ∙ ap (λ (x : Block). Value c.args.block x) (sym c.copy_from.ensures)) tt
