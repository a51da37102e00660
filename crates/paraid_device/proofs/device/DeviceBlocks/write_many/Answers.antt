use Rattle.std.proofs.Common.{ℕ, ◌∙◌, ◌<◌, refl, sym, subst}
use Rattle.std.specs.Prelude.{All}
use Rattle.paraid_base.specs.declared.block.Block.{Block}
use Rattle.paraid_base.specs.declared.event.Answer.TheVariants.{Halted, NoBlock, Wrote}
use Rattle.paraid_base.specs.declared.event.Event.TheVariants.{Write}
use Rattle.paraid_base.specs.BlockAnswers.{IsFirstMissing}
use Rattle.paraid_base.specs.Pairs.{pairs_of}
use Rattle.paraid_serve.proofs.GrowsLemmas.{told_then}
use Rattle.paraid_device.specs.Devices.{array_of}
use Rattle.paraid_device.proofs.KeptLemmas.{answered_more}
use Rattle.paraid_device.proofs.ReasonLemmas.{no_write_by_cause, write_by_cause}
use Rattle.paraid_device.proofs.TurnLemmas.{missing_history, written_history}
use Rattle.paraid_device.proofs.device.DeviceBlocks.write_many.Goals as goal

pub returns-in-Err-clause-told : goal.returns-in-Err-clause-told
returns-in-Err-clause-told g c = told_then _ _ c.in-Err.ensures.asks.grows

pub returns-in-Err-clause-events : goal.returns-in-Err-clause-events
returns-in-Err-clause-events g c = λ first events before.
    answered_more g.A.Serves (array_of first) (array_of c.args.self.now) c.ask.new.array events (Write c.args.pairs.now) (Halted c.in-Err.halt) (Halted c.in-Err.halt) before c.in-Err.ensures.asks refl tt

pub returns-in-Some-clause-told : goal.returns-in-Some-clause-told
returns-in-Some-clause-told g c = told_then _ _ c.in-Ok.ensures.asks.grows

pub returns-in-Some-clause-history : goal.returns-in-Some-clause-history
returns-in-Some-clause-history g c = λ h stands is.
    let past = subst (λ (n : ℕ). IsFirstMissing n (pairs_of c.args.pairs.now) c.in-Some.block) c.blocks-2.ensures.value c.in-Some.ensures.some in
    missing_history g.A.Serves (array_of c.args.self.now) c.ask.new.array c.args.pairs.now c.in-Some.block _ h c.in-Ok.ensures.asks c.in-Ok.ensures.going past stands is

pub returns-in-Some-clause-events : goal.returns-in-Some-clause-events
returns-in-Some-clause-events g c = λ first events before.
    let a = array_of c.args.self.now in
    let b = c.ask.new.array in
    let past = subst (λ (n : ℕ). IsFirstMissing n (pairs_of c.args.pairs.now) c.in-Some.block) c.blocks-2.ensures.value c.in-Some.ensures.some in
    answered_more g.A.Serves (array_of first) a b events (Write c.args.pairs.now) _ (NoBlock c.in-Some.block) before c.in-Ok.ensures.asks
    (no_write_by_cause _ _ (g.A.Serves.setup a) (g.met.A.Serves.shows a).setup c.args.pairs.now c.in-Some.block _ c.in-Ok.ensures.asks.cause (sym c.in-Ok.ensures.asks.halt ∙ c.in-Ok.ensures.going) past) tt

pub returns-in-None-clause-told : goal.returns-in-None-clause-told
returns-in-None-clause-told g c = told_then _ _ c.in-Ok.ensures.asks.grows

pub returns-in-None-clause-history : goal.returns-in-None-clause-history
returns-in-None-clause-history g c = λ h stands is.
    let there = subst (λ (n : ℕ). All (λ (pair : ℕ × Block). pair.0 < n) (pairs_of c.args.pairs.now)) c.blocks-2.ensures.value c.in-None.ensures.none in
    written_history g.A.Serves (array_of c.args.self.now) c.ask.new.array c.args.pairs.now _ c.number_in.result h c.in-Ok.ensures.asks c.in-Ok.ensures.going there (c.number_in.ensures c.ask.new.beside) stands is

pub returns-in-None-clause-events : goal.returns-in-None-clause-events
returns-in-None-clause-events g c = λ first events before.
    let a = array_of c.args.self.now in
    let b = c.ask.new.array in
    let there = subst (λ (n : ℕ). All (λ (pair : ℕ × Block). pair.0 < n) (pairs_of c.args.pairs.now)) c.blocks-2.ensures.value c.in-None.ensures.none in
    answered_more g.A.Serves (array_of first) a b events (Write c.args.pairs.now) _ (Wrote c.number_in.result) before c.in-Ok.ensures.asks
    (write_by_cause _ _ (g.A.Serves.setup a) (g.met.A.Serves.shows a).setup c.args.pairs.now _ c.number_in.result c.in-Ok.ensures.asks.cause (sym c.in-Ok.ensures.asks.halt ∙ c.in-Ok.ensures.going) there (c.number_in.ensures c.ask.new.beside)) tt
