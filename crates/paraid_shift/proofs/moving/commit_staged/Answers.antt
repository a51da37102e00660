use Rattle.std.proofs.Common.{ℕ, sym, subst, refl, arith}
use Rattle.paraid_view.proofs.ValueLemmas.{ok_map}
use Rattle.paraid_core.specs.Steps.{IsMarkedFrom}
use Rattle.paraid_shift.proofs.MovingLemmas.{core_moves_same}
use Rattle.paraid_shift.proofs.OutcomeLemmas.{serves_committed, serves_none, staged_none}
use Rattle.paraid_event.proofs.CoreServingLemmas.{leaves_array_none, marked_none}
use Rattle.paraid_shift.proofs.StepsLemmas.{core_steps_none, core_steps_within}
use Rattle.paraid_shift.proofs.PartLemmas.{keeps_as, keeps_done, keeps_spared}
use Rattle.paraid_shift.specs.Outcomes.{CommitsInEvent}
use Rattle.paraid_shift.proofs.moving.commit_staged.Goals as goal

pub returns-then-staged-eq0 : goal.returns-then-staged-eq0
returns-then-staged-eq0 g c =
    let a = c.args.core.now in
    record {
      serves = serves_none g.R.Rack.slot_count g.R.Rack.slot a 1 c.requires.serving;
      nothing = staged_none _ _ c.staged.ensures c.if-staged-eq0.true;
      meta = marked_none a.meta;
      table = refl;
      moves = core_moves_same g.R.Rack.slot_count a;
      steps = λ absent. core_steps_within g.R.Rack.slot_count g.R.Rack.slot g.R.Rack.told a a 0 1 (omega arith) (core_steps_none g.R.Rack.slot_count g.R.Rack.slot g.R.Rack.told a);
      rack = keeps_done (leaves_array_none g.R.Rack.slot_count g.R.Rack.slot a);
    }

pub returns : goal.returns
returns g c =
    let a = c.args.core.now in
    let b = c.commit.new.core in
    let C = CommitsInEvent g.R.Rack.slot_count g.R.Rack.slot g.R.Rack.told a b in
    let done = c.commit.ensures.commits in
    record {
      serves = ok_map {X = C} _ (λ k. serves_committed g.R.Rack.slot_count g.R.Rack.slot g.R.Rack.told a b c.commit.ensures.rack.spared k) done;
      nothing = ok_map {X = C} _ (λ k. k.nothing) done;
      meta = ok_map {X = C} _ (λ k. subst (λ (e : ℕ). IsMarkedFrom (record a.meta { epoch = e }) b.meta) (sym k.epoch) k.meta) done;
      table = c.commit.ensures.table;
      moves = ok_map {X = C} _ (λ k. k.moves) done;
      steps = ok_map {X = C} _ (λ k. k.steps) done;
      rack = keeps_as _ (λ two k. k.loses) (keeps_spared c.commit.ensures.rack);
    }

pub commit-requires : goal.commit-requires
commit-requires g c =
    let q = c.requires in
    record {
      serving = q.serving;
      epoch = q.epoch;
    }
