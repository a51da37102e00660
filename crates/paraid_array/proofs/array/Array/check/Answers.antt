use Rattle.std.proofs.Common.{refl}
use Rattle.std.proofs.lemmas.Result.{IfErr-weaker, on_ok_weaker}
use Rattle.paraid_base.specs.declared.event.Answer.TheVariants.{Halted}
use Rattle.paraid_base.specs.declared.event.Event.TheVariants.{Flush}
use Rattle.paraid_array.proofs.AnswersLemmas.{check_ended, check_turn}
use Rattle.paraid_array.proofs.CheckLemmas.{flushed_all, no_calls}
use Rattle.paraid_array.proofs.StandLemmas.{none_ended, over_slots}
use Rattle.paraid_array.proofs.array.Array.check.Goals as goal

pub wear_out-halt-requires : goal.wear_out-halt-requires
wear_out-halt-requires g c =
    let many = c.in-Some.ensures.worn in
    record { going = c.requires.going; many = many.0; is = many.1 }

pub returns-in-Some : goal.returns-in-Some
returns-in-Some g c =
    let a = c.args.self.now in
    let worn = c.wear_out-halt.ensures.answers Flush refl in
    record {
      turn = tt;
      ended = λ p at. over_slots g.R.Rack.slot_count g.R.Rack.told a _ Flush (Halted c.wear_out-halt.result) (a.serving (none_ended a.ended c.requires.going)).same_slots worn.turn p at;
      told = worn.grows;
      slots = worn.slots;
      cause = worn.cause;
      sound = tt;
      counts = tt;
      most = tt;
      reads = λ nothing. no_calls g.R.Rack.told a.core c.wear_out-halt.new.self.core c.wear_out-halt.ensures.core;
      committed = tt;
    }

pub check_there-requires : goal.check_there-requires
check_there-requires g c =
    let fit = c.in_default.ensures.fit in
    record { going = none_ended c.args.self.now.ended c.requires.going; epoch = fit.0; writes = fit.1 }

pub returns : goal.returns
returns g c =
    let a = c.args.self.now in
    let b = c.check_there.new.self in
    let r = c.check_there.result in
    let it = c.check_there.ensures.answers in
    let going = none_ended a.ended c.requires.going in
    record {
      turn = on_ok_weaker r (λ turn p at. flushed_all g.R.Rack.slot_count g.R.Rack.told a going b (a.serving going).same_slots turn p at) (check_turn g.R.Rack.slot_count g.R.Rack.slot g.R.Rack.told a b a.core.meta.writes r it);
      ended = IfErr-weaker r _ _ (λ halt turn p at. over_slots g.R.Rack.slot_count g.R.Rack.told a b Flush (Halted halt) (a.serving going).same_slots turn p at) (check_ended g.R.Rack.slot_count g.R.Rack.slot g.R.Rack.told a b a.core.meta.writes r it);
      told = it.grows;
      slots = it.slots;
      cause = it.cause;
      sound = c.check_there.ensures.sound;
      counts = c.check_there.ensures.counts;
      most = c.check_there.ensures.most;
      reads = c.check_there.ensures.reads;
      committed = c.check_there.ensures.committed;
    }
