use Rattle.paraid_array.specs.Laws.{all_synced, gear_going}
use Rattle.paraid_session.proofs.FaultLemmas.{same_counts}
use Rattle.paraid_array.specs.Arrays.{shown_of_array}
use Rattle.paraid_array.proofs.CauseLemmas.{accepts_none, commits_none, done_cause, takes}
use Rattle.std.proofs.Common.{refl, ap, min}
use Rattle.std.specs.Prelude.{length}
use Rattle.paraid_image.specs.Sides.{Batch}
use Rattle.std.proofs.lemmas.Bool.{false≢true}
use Rattle.paraid_base.specs.declared.event.Answer.TheVariants.{Flushed}
use Rattle.paraid_base.specs.declared.event.Event.TheVariants.{Flush}
use Rattle.paraid_record.specs.declared.meta.Meta.{Meta}
use Rattle.paraid_array.proofs.AnswersLemmas.{quiet_answers}
use Rattle.paraid_array.proofs.FlushLemmas.{flush_kept}
use Rattle.paraid_array.proofs.StandLemmas.{none_ended}
use Rattle.paraid_array.proofs.array.Array.flush.Goals as goal

pub wear_out-halt-requires : goal.wear_out-halt-requires
wear_out-halt-requires g c =
    let many = c.in-Some.ensures.worn in
    record { going = c.requires.going; many = many.0; is = many.1 }

pub returns-in-Some : goal.returns-in-Some
returns-in-Some g c = record { idle = λ nothing. c.wear_out-halt.ensures.core; answers = c.wear_out-halt.ensures.answers Flush refl }

pub returns-then-is_kept : goal.returns-then-is_kept
returns-then-is_kept g c =
    let a = c.args.self.now in
    let going = none_ended a.ended c.requires.going in
    let fit = c.in_default.ensures.fit in
    record {
      idle = λ nothing. refl;
      answers =
          quiet_answers g.R.Rack.slot_count g.R.Rack.slot g.R.Rack.told a Flush (Flushed c.meta.result.now.writes)
          (flush_kept g.R.Rack.slot_count g.R.Rack.slot g.R.Rack.told g.met.R.Rack.agrees a going fit.0 fit.1 (a.serving going).serving.ready (a.serving going).serving.copies_synced (c.if-is_kept.ensures.nothing refl) _ (ap (λ (m : Meta). m.writes) c.meta.ensures))
          (let x = shown_of_array g.R.Rack.slot a in
          done_cause x x Flush (takes x Flush c.requires.going fit.0 fit.1) refl refl (same_counts x.slot) (Flushed c.meta.result.now.writes) c.requires.going (gear_going a.ended a.core.meta.gear) (record { samples = refl; served = refl }) (ap (λ (m : Meta). m.writes) c.meta.ensures, accepts_none x, refl, ap (λ (b : Batch). length b) (c.if-is_kept.ensures.nothing refl)) (commits_none x x (min x.staged 1) refl) (a.serving going).fits
          (all_synced g.R.Rack.slot a.core (a.serving going).serving.copies_synced (a.serving going).serving.unsynced));
    }

pub commit_all-requires : goal.commit_all-requires
commit_all-requires g c =
    let fit = c.in_default.ensures.fit in
    record { going = none_ended c.args.self.now.ended c.requires.going; some = λ nothing. false≢true (c.if-is_kept.ensures.kept nothing); epoch = fit.0; writes = fit.1 }

pub returns : goal.returns
returns g c = record { idle = λ nothing. absurd (false≢true (c.if-is_kept.ensures.kept nothing)); answers = c.commit_all.ensures.answers }
