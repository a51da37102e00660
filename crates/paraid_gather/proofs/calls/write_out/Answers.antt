use Rattle.std.proofs.Common.{◌≡◌, ◌<◌, length, subst, refl, sym, ◌∙◌, ap, true, false, ℕ, List}
use Rattle.std.proofs.lemmas.Bool.{false≢true}
use Rattle.paraid_rack.specs.Disks.{is_present}
use Rattle.paraid_gather.specs.Waiting.{Waiting, run_of, waits}
use Rattle.paraid_gather.proofs.DoesLemmas.{does_none, does_out, not_false, not_true, some_waits}
use Rattle.paraid_gather.proofs.FinishLemmas.{above_quiet}
use Rattle.paraid_gather.proofs.SlotsLemmas.{changes_nothing, changes_out}
use Rattle.paraid_gather.proofs.PowerCallsLemmas.{power_calls_none, power_calls_written}
use Rattle.paraid_gather.proofs.calls.write_out.Goals as goal

run_is : (f f' : ℕ) (bs bs' : List (List ℕ)) → f ≡ f' → bs ≡ bs' → ◌≡◌ {A = Waiting} (record { first = f; blocks = bs }) (record { first = f'; blocks = bs' })
run_is f f' bs bs' e k = ap (λ (x : ℕ). record { first = x; blocks = bs }) e ∙ ap (λ (x : List (List ℕ)). record { first = f'; blocks = x }) k

pub returns-then-is_empty-clause-does : goal.returns-then-is_empty-clause-does
returns-then-is_empty-clause-does g c = does_none g.R.Rack c.args.rack.now c.args.disk (run_of c.args.run.now) (run_of c.args.run.now) _ _ _ c.requires.fits refl (λ w s t is a. a)

pub returns-in_default-clause-does : goal.returns-in_default-clause-does
returns-in_default-clause-does g c = does_out g.R.Rack c.args.rack.now c.write_blocks.new.self c.args.disk (run_of c.args.run.now) (run_of c.args.run.now) _ false
    (run_is _ _ _ _ c.first.ensures c.blocks-2.ensures) (not_false _ (sym c.if-is_empty.ensures)) (λ t is. ap is_present ((g.met.R.Rack.agrees c.args.rack.now t is).power c.args.disk ∙ c.requires.spinning)) (λ is. absurd (false≢true is))
    c.in_default.ensures.slots c.in_default.ensures.slot c.in_default.ensures.told

pub returns-clause-does : goal.returns-clause-does
returns-clause-does g c = does_out g.R.Rack c.args.rack.now c.write_blocks.new.self c.args.disk (run_of c.args.run.now) (run_of c.clear.new.self) _ true
    (run_is _ _ _ _ c.first.ensures c.blocks-2.ensures) (not_false _ (sym c.if-is_empty.ensures)) (λ t is. ap is_present ((g.met.R.Rack.agrees c.args.rack.now t is).power c.args.disk ∙ c.requires.spinning)) (λ is. ap waits c.clear.ensures)
    c.in-Ok.ensures.slots c.in-Ok.ensures.slot c.in-Ok.ensures.told

pub write_blocks-requires-clause-some : goal.write_blocks-requires-clause-some
write_blocks-requires-clause-some g c = subst (λ (l : List (List ℕ)). 0 < length l) (sym c.blocks-2.ensures) (some_waits (run_of c.args.run.now) (not_false _ (sym c.if-is_empty.ensures)))

pub returns-then-is_empty-clause-power_calls : goal.returns-then-is_empty-clause-power_calls
returns-then-is_empty-clause-power_calls g c = power_calls_none (g.R.Rack.told c.args.rack.now)

pub returns-in_default-clause-power_calls : goal.returns-in_default-clause-power_calls
returns-in_default-clause-power_calls g c = power_calls_written (g.R.Rack.told c.args.rack.now) (g.R.Rack.told c.write_blocks.new.self) c.args.disk _ false c.in_default.ensures.told

pub returns-clause-power_calls : goal.returns-clause-power_calls
returns-clause-power_calls g c = power_calls_written (g.R.Rack.told c.args.rack.now) (g.R.Rack.told c.write_blocks.new.self) c.args.disk _ true c.in-Ok.ensures.told

pub returns-then-is_empty-clause-slot : goal.returns-then-is_empty-clause-slot
returns-then-is_empty-clause-slot g c = changes_nothing (g.R.Rack.slot c.args.rack.now) c.args.disk _ _ (sym (above_quiet (g.R.Rack.slot c.args.rack.now c.args.disk) (run_of c.args.run.now) (not_true _ (sym c.if-is_empty.ensures))))

pub returns-in_default-clause-slot : goal.returns-in_default-clause-slot
returns-in_default-clause-slot g c = changes_out (g.R.Rack.slot c.args.rack.now) (g.R.Rack.slot c.write_blocks.new.self) c.args.disk (run_of c.args.run.now) false (not_false _ (sym c.if-is_empty.ensures)) c.in_default.ensures.slot

pub returns-clause-slot : goal.returns-clause-slot
returns-clause-slot g c = changes_out (g.R.Rack.slot c.args.rack.now) (g.R.Rack.slot c.write_blocks.new.self) c.args.disk (run_of c.args.run.now) true (not_false _ (sym c.if-is_empty.ensures)) c.in-Ok.ensures.slot

pub returns-in_default-clause-idle : goal.returns-in_default-clause-idle
returns-in_default-clause-idle g c none = absurd (false≢true (sym none ∙ not_false _ (sym c.if-is_empty.ensures)))

pub returns-clause-idle : goal.returns-clause-idle
returns-clause-idle g c none = absurd (false≢true (sym none ∙ not_false _ (sym c.if-is_empty.ensures)))
