use Rattle.paraid_machine.specs.Machine.{block_count}
use Rattle.paraid_array.specs.Arrays.{shown_of_array}
use Rattle.paraid_array.specs.Laws.{going_end}
use Rattle.paraid_array.proofs.CauseLemmas.{one_missing, quiet_cause, takes}
use Rattle.std.proofs.Common.{ℕ, ◌<◌, ◌≤◌, refl, subst}
use Rattle.paraid_base.specs.declared.event.Event.TheVariants.{Read}
use Rattle.paraid_base.specs.declared.event.Answer.TheVariants.{NoBlock}
use Rattle.paraid_array.proofs.StandLemmas.{none_ended}
use Rattle.paraid_array.proofs.AnswersLemmas.{quiet_answers}
use Rattle.paraid_array.proofs.QuietLemmas.{read_refused}
use Rattle.paraid_array.proofs.array.Array.read.Goals as goal

pub wear_out-requires : goal.wear_out-requires
wear_out-requires g c =
    let many = c.in-Some.ensures.worn in
    record { going = c.requires.going; many = many.0; is = many.1 }

pub returns-in-Some : goal.returns-in-Some
returns-in-Some g c = record { answers = c.wear_out.ensures.answers (Read c.args.block) refl }

pub returns-then-block-blocks : goal.returns-then-block-blocks
returns-then-block-blocks g c =
    let a = c.args.self.now in
    let fit = c.in_default.ensures.fit in
    record {
      answers =
          quiet_answers g.R.Rack.slot_count g.R.Rack.slot g.R.Rack.told a (Read c.args.block) (NoBlock c.args.block)
          (read_refused g.R.Rack.slot_count g.R.Rack.told a c.requires.going fit.0 fit.1 c.args.block (subst (λ (n : ℕ). n ≤ c.args.block) c.blocks-2.ensures.value c.if-block-blocks.true))
          (quiet_cause g.R.Rack.slot a (Read c.args.block) (NoBlock c.args.block) c.requires.going refl (takes (shown_of_array g.R.Rack.slot a) (Read c.args.block) c.requires.going fit.0 fit.1)
          (one_missing (block_count a.setup) c.args.block (subst (λ (n : ℕ). n ≤ c.args.block) c.blocks-2.ensures.value c.if-block-blocks.true)) (record { samples = refl; served = refl }) (c.args.self.now.serving (going_end c.args.self.now.ended c.requires.going)));
    }

pub read_there-requires : goal.read_there-requires
read_there-requires g c =
    let fit = c.in_default.ensures.fit in
    record { going = none_ended c.args.self.now.ended c.requires.going; epoch = fit.0; writes = fit.1; block = subst (λ (n : ℕ). c.args.block < n) c.blocks-2.ensures.value c.if-block-blocks.false }

pub returns : goal.returns
returns g c = record { answers = c.read_there.ensures.answers }
