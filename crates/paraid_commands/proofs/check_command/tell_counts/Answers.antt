use Rattle.std.proofs.Common.{◌≡◌, ◌≢◌, Some, inl, inr, subst, rules}
use Rattle.paraid_base.specs.declared.event.Answer.TheVariants.{Flushed, Halted}
use Rattle.paraid_base.specs.declared.event.Event.TheVariants.{Bad, Flush}
use Rattle.paraid_image.specs.Out.{named_out}
use Rattle.paraid_record.specs.declared.meta.Setup.{Setup}
use Rattle.paraid_serve.specs.Calls.{IsNotDouble}
use Rattle.paraid_serve.specs.Causes.{HasCause}
use Rattle.paraid_serve.proofs.GrowsLemmas.{told_then}
use Rattle.paraid_serve.proofs.OwedLemmas.{halt_owed, setup_owed, two_owed}
use Rattle.paraid_commands.specs.Ends.{CountsArray}
use Rattle.paraid_commands.proofs.CheckLemmas.{counted_status, counts_no_halt, halt_names_two, halt_not_whole, halt_tells_wear, halted_status, tells_counts, tells_halt}
use Rattle.paraid_commands.specs.CheckCauses.HasCheckCauses.{counted as counted_caused, halted as halted_caused}
use Rattle.paraid_commands.proofs.check_command.tell_counts.Given.{Over}
use Rattle.paraid_commands.proofs.check_command.tell_counts.Goals as goal
use Rattle.paraid_commands.proofs.check_command.tell_counts.Goals.{In-Err, In-Ok}

apart : Flush ≢ Bad
apart e = cc

-- after the counts at most one disk is absent
one_absent : (g : Over) (c : In-Ok g) → IsNotDouble (g.A.Serves.setup c.args.array.now) (g.A.Serves.slot c.check.new.array)
one_absent g c =
    let a = c.args.array.now in
    let b = c.check.new.array in
    let cause : HasCause (g.A.Serves.shown a) Flush (Flushed (g.A.Serves.shown a).meta.writes) (g.A.Serves.shown b) = rw c.in-Ok.is at c.check.ensures.cause in
    subst (λ (z : Setup). IsNotDouble z (g.A.Serves.slot b)) (setup_owed g.A.Serves a b (g.met.A.Serves.shows a) (g.met.A.Serves.shows b) Flush (Flushed (g.A.Serves.shown a).meta.writes) cause)
    (g.met.A.Serves.serves b (halt_owed g.A.Serves a b (g.met.A.Serves.shows a) (g.met.A.Serves.shows b) Flush (Flushed (g.A.Serves.shown a).meta.writes) cause apart))

-- the halt is the array's
halted : (g : Over) (c : In-Err g) → g.A.Serves.halted c.check.new.array ≡ Some c.in-Err.halt
halted g c =
    let a = c.args.array.now in
    let b = c.check.new.array in
    let cause : HasCause (g.A.Serves.shown a) Flush (Halted c.in-Err.halt) (g.A.Serves.shown b) = rw c.in-Err.is at c.check.ensures.cause in
    halt_owed g.A.Serves a b (g.met.A.Serves.shows a) (g.met.A.Serves.shows b) Flush (Halted c.in-Err.halt) cause apart

pub returns-in-Ok : goal.returns-in-Ok
returns-in-Ok g c = record {
  counts = λ began mounted.
      let done = c.check.ensures in
      tells_counts _ _ _ _ _ _ _ _ _ (CountsArray (g.O.Outside.served c.args.array.now) (g.A.Serves.slot c.check.new.array) (g.A.Serves.told c.args.array.now) (g.A.Serves.told c.check.new.array)) (told_then _ _ done.told) mounted c.in-Ok.report (rw (c.as_slice.ensures.value, c.check_text.ensures, c.check_status.ensures) at c.last.ensures.ends) c.in-Ok.ensures.turn c.in-Ok.ensures.sound (c.in-Ok.ensures.counts c.requires.nothing);
  causes = counted_caused c.in-Ok.report (rw (c.as_slice.ensures.value, c.check_text.ensures, c.check_status.ensures) at c.last.ensures.ends) (c.in-Ok.ensures.most c.requires.nothing) (rw c.in-Ok.is at c.check.ensures.cause);
  told = search rules;
  reads = c.check.ensures.reads c.requires.nothing;
  slots = c.check.ensures.slots;
  status = counted_status c.in-Ok.report _ _ _ _ (rw c.check_status.ensures at c.last.ensures.ends);
  present = λ zero. one_absent g (goal.at.returns-in-Ok g c).In-Ok;
  found = λ found. one_absent g (goal.at.returns-in-Ok g c).In-Ok;
  two = λ five. counts_no_halt c.in-Ok.report _ _ _ _ (rw c.check_status.ensures at c.last.ensures.ends) (inl five);
  worn = λ twelve. counts_no_halt c.in-Ok.report _ _ _ _ (rw c.check_status.ensures at c.last.ensures.ends) (inr twelve);
  sink = search rules;
  still = c.last.ensures.still;
}

pub returns-in-Err : goal.returns-in-Err
returns-in-Err g c = record {
  counts = λ began mounted.
      let done = c.check.ensures in
      tells_halt _ _ _ _ _ _ _ _ _ (CountsArray (g.O.Outside.served c.args.array.now) (g.A.Serves.slot c.check.new.array) (g.A.Serves.told c.args.array.now) (g.A.Serves.told c.check.new.array)) (told_then _ _ done.told) mounted c.in-Err.halt (rw (c.as_slice-in-Err.ensures.value, c.reply.ensures.value, c.halt_status.ensures) at c.last-in-Err.ensures.ends) c.in-Err.ensures.ended;
  causes = halted_caused c.in-Err.halt (rw (c.as_slice-in-Err.ensures.value, c.reply.ensures.value, c.halt_status.ensures) at c.last-in-Err.ensures.ends) (rw c.in-Err.is at c.check.ensures.cause);
  told = search rules;
  reads = c.check.ensures.reads c.requires.nothing;
  slots = c.check.ensures.slots;
  status = halted_status c.in-Err.halt _ _ _ _ (rw c.halt_status.ensures at c.last-in-Err.ensures.ends);
  present = λ zero. halt_not_whole c.in-Err.halt _ _ _ _ (rw c.halt_status.ensures at c.last-in-Err.ensures.ends) (inl zero);
  found = λ found. halt_not_whole c.in-Err.halt _ _ _ _ (rw c.halt_status.ensures at c.last-in-Err.ensures.ends) (inr found);
  two = halt_names_two (named_out (g.A.Serves.shown c.args.array.now).meta.out) (g.A.Serves.slot c.args.array.now) (g.A.Serves.slot c.check.new.array) c.in-Err.halt (g.A.Serves.halted c.check.new.array) _ _ _
      (halted g (goal.at.returns-in-Err g c).In-Err)
      (two_owed g.A.Serves c.args.array.now c.check.new.array (g.met.A.Serves.shows c.args.array.now) (g.met.A.Serves.shows c.check.new.array) Flush (Halted c.in-Err.halt) (rw c.in-Err.is at c.check.ensures.cause) apart c.requires.going) (rw (c.as_slice-in-Err.ensures.value, c.reply.ensures.value, c.halt_status.ensures) at c.last-in-Err.ensures.ends);
  worn = halt_tells_wear c.in-Err.halt _ _ _ _ (halted g (goal.at.returns-in-Err g c).In-Err) (g.met.A.Serves.worn c.check.new.array) (rw (c.as_slice-in-Err.ensures.value, c.reply.ensures.value, c.halt_status.ensures) at c.last-in-Err.ensures.ends);
  sink = search rules;
  still = c.last-in-Err.ensures.still;
}
