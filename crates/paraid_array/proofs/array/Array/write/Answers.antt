use Rattle.paraid_serve.specs.Causes.{missing_answer}
use Rattle.paraid_array.specs.Arrays.{shown_of_array}
use Rattle.paraid_array.specs.Laws.{going_end}
use Rattle.paraid_array.proofs.CauseLemmas.{quiet_cause, takes}
use Rattle.std.proofs.Common.{ℕ, ◌<◌, ap, refl, subst}
use Rattle.paraid_base.specs.declared.event.Event.TheVariants.{Write}
use Rattle.std.specs.Prelude.{All}
use Rattle.paraid_base.specs.BlockAnswers.{IsFirstMissing}
use Rattle.paraid_base.specs.declared.block.Block.{Block}
use Rattle.paraid_base.specs.declared.event.Answer.TheVariants.{NoBlock}
use Rattle.paraid_base.specs.Pairs.{pairs_of}
use Rattle.paraid_machine.specs.Machine.{block_count}
use Rattle.paraid_array.proofs.StandLemmas.{none_ended}
use Rattle.paraid_array.proofs.AnswersLemmas.{quiet_answers}
use Rattle.paraid_array.proofs.QuietLemmas.{missing_is, write_refused}
use Rattle.paraid_array.proofs.array.Array.write.Goals as goal

pub wear_out-requires : goal.wear_out-requires
wear_out-requires g c =
    let many = c.in-Some.ensures.worn in
    record { going = c.requires.going; many = many.0; is = many.1 }

pub returns-in-Some : goal.returns-in-Some
returns-in-Some g c = record { answers = c.wear_out.ensures.answers (Write c.args.pairs.now) refl }

pub returns-in-Some-missing : goal.returns-in-Some-missing
returns-in-Some-missing g c =
    let a = c.args.self.now in
    let block = c.in-Some-missing.block in
    let entry = pairs_of c.args.pairs.now in
    let fit = c.in_default.ensures.fit in
    let missing = subst (λ (n : ℕ). IsFirstMissing n entry block) c.blocks-2.ensures.value c.in-Some-missing.ensures.some in
    record {
      answers =
          quiet_answers g.R.Rack.slot_count g.R.Rack.slot g.R.Rack.told a (Write c.args.pairs.now) (NoBlock block)
          (write_refused g.R.Rack.slot_count g.R.Rack.told a c.requires.going fit.0 fit.1 c.args.pairs.now block (missing_is (block_count a.setup) entry block missing))
          (quiet_cause g.R.Rack.slot a (Write c.args.pairs.now) (NoBlock block) c.requires.going refl (takes (shown_of_array g.R.Rack.slot a) (Write c.args.pairs.now) c.requires.going fit.0 fit.1)
          (ap missing_answer (missing_is (block_count a.setup) entry block missing)) (record { samples = refl; served = refl }) (c.args.self.now.serving (going_end c.args.self.now.ended c.requires.going)));
    }

pub write_there-requires : goal.write_there-requires
write_there-requires g c =
    let fit = c.in_default.ensures.fit in
    record { going = none_ended c.args.self.now.ended c.requires.going; epoch = fit.0; writes = fit.1; blocks = subst (λ (n : ℕ). All (λ (pair : ℕ × Block). pair.0 < n) (pairs_of c.args.pairs.now)) c.blocks-2.ensures.value c.in_default-missing.ensures.none }

pub returns : goal.returns
returns g c = record { answers = c.write_there.ensures.answers }
