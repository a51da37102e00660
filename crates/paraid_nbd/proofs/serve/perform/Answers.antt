use Rattle.std.proofs.Common.{◌≡◌, ◌∙◌, ℕ, List, Option, refl, subst, sym}
use Rattle.paraid_nbd.proofs.DeviceLemmas.{keeps_none}
use Rattle.paraid_nbd.proofs.ErrorLemmas.{comes_at, comes_by_itself}
use Rattle.paraid_nbd.proofs.ServiceLemmas.{refused_performs, not_done}
use Rattle.paraid_base.specs.BlockAnswers.{Answers}
use Rattle.paraid_base.specs.History.{History}
use Rattle.paraid_base.specs.declared.fault.Halt.{Halt}
use Rattle.paraid_nbd.specs.declared.request.Command.{Command}
use Rattle.paraid_nbd.specs.declared.request.Command.TheVariants.{Read, Write, Flush}
use Rattle.paraid_nbd.specs.declared.request.Outcome.{Outcome}
use Rattle.paraid_nbd.specs.declared.request.Outcome.TheVariants.{Done}
use Rattle.paraid_nbd.specs.declared.request.Request.{Request}
use Rattle.paraid_nbd.specs.Performing.{Performs, part_length}
use Rattle.paraid_nbd.specs.Requests.{outcome_of}
use Rattle.paraid_nbd.proofs.serve.perform.Goals as goal

part_read : (k : Command) (o : Outcome) (n : ℕ) → k ≡ Read → o ≡ Done → part_length k o n ≡ n
part_read k o n read done = rw (read, done) refl

part_write : (k : Command) (o : Outcome) (n : ℕ) → k ≡ Write → o ≡ Done → part_length k o n ≡ n
part_write k o n write done = rw (write, done) refl

part_flush : (k : Command) (o : Outcome) (n : ℕ) → k ≡ Flush → part_length k o n ≡ 0
part_flush k o n flush = rw flush refl

at_size : {stands : History → Type 0} {halted : Option Halt} {kept : Answers → Type 0} {s : Option History} {events : Answers} {r : Request} {content found : List ℕ} {outcome : Outcome} {m n : ℕ}
    → n ≡ m → Performs m stands halted kept s events r content found outcome → Performs n stands halted kept s events r content found outcome
at_size {stands} {halted} {kept} {s} {events} {r} {content} {found} {outcome} is p = subst (λ (x : ℕ). Performs x stands halted kept s events r content found outcome) (sym is) p

pub returns-in_default : goal.returns-in_default
returns-in_default g c = record {
  performs = λ first tells s events is kept.
      refused_performs c.args.size s c.args.request.now c.args.content.now c.args.content.now c.args.outcome c.requires.outcome c.in_default.not-Done is kept;
  comes = comes_by_itself _ _ c.args.size c.args.request.now c.args.content.now c.args.content.now c.args.outcome c.requires.outcome c.in_default.not-Done;
  many = λ read done. absurd (c.in_default.not-Done done);
  size = refl;
  told = λ t. t;
  keeps = keeps_none _ _;
}

pub returns-in-Disconnect : goal.returns-in-Disconnect
returns-in-Disconnect g c = record {
  performs = λ first tells s events is kept.
      absurd (not_done c.args.size c.args.request.now c.in-Disconnect.is c.requires.stays (sym c.requires.outcome ∙ c.in-Done.is));
  comes = absurd (not_done c.args.size c.args.request.now c.in-Disconnect.is c.requires.stays (sym c.requires.outcome ∙ c.in-Done.is));
  many = λ read done. absurd (not_done c.args.size c.args.request.now c.in-Disconnect.is c.requires.stays (sym c.requires.outcome ∙ c.in-Done.is));
  size = refl;
  told = λ t. t;
  keeps = keeps_none _ _;
}

pub perform_read-requires : goal.perform_read-requires
perform_read-requires g c = record {
  few = c.requires.few;
  command = c.in-Read.is;
  done = subst (λ (n : ℕ). outcome_of n c.args.request.now ≡ Done) c.requires.size (sym c.requires.outcome ∙ c.in-Done.is);
  room = c.requires.room ∙ part_read _ _ c.args.request.now.length c.in-Read.is c.in-Done.is;
}

pub returns-in-Read : goal.returns-in-Read
returns-in-Read g c = record {
  performs = λ first tells s events is kept. at_size c.requires.size (c.perform_read.ensures.performs first tells s events is kept);
  comes = comes_at _ _ _ _ _ _ _ _ _ c.requires.size c.perform_read.ensures.comes;
  many = λ read done. c.perform_read.auto.content ∙ c.requires.room ∙ part_read _ _ c.args.request.now.length c.in-Read.is c.in-Done.is;
  size = c.perform_read.ensures.size;
  told = c.perform_read.ensures.told;
  keeps = c.perform_read.ensures.keeps;
}

pub perform_write-requires : goal.perform_write-requires
perform_write-requires g c = record {
  few = c.requires.few;
  command = c.in-Write.is;
  done = subst (λ (n : ℕ). outcome_of n c.args.request.now ≡ Done) c.requires.size (sym c.requires.outcome ∙ c.in-Done.is);
  room = c.requires.room ∙ part_write _ _ c.args.request.now.length c.in-Write.is c.in-Done.is;
}

pub returns-in-Write : goal.returns-in-Write
returns-in-Write g c = record {
  performs = λ first tells s events is kept. at_size c.requires.size (c.perform_write.ensures.performs first tells s events is kept);
  comes = comes_at _ _ _ _ _ _ _ _ _ c.requires.size c.perform_write.ensures.comes;
  many = λ read done. absurd (let z : Read ≡ Write = sym read ∙ c.in-Write.is in cc);
  size = c.perform_write.ensures.size;
  told = c.perform_write.ensures.told;
  keeps = c.perform_write.ensures.keeps;
}

pub perform_flush-requires : goal.perform_flush-requires
perform_flush-requires g c = record {
  few = c.requires.few;
  command = c.in-Flush.is;
  done = subst (λ (n : ℕ). outcome_of n c.args.request.now ≡ Done) c.requires.size (sym c.requires.outcome ∙ c.in-Done.is);
  room = c.requires.room ∙ part_flush _ c.args.outcome c.args.request.now.length c.in-Flush.is;
}

pub returns-in-Flush : goal.returns-in-Flush
returns-in-Flush g c = record {
  performs = λ first tells s events is kept. at_size c.requires.size (c.perform_flush.ensures.performs first tells s events is kept);
  comes = comes_at _ _ _ _ _ _ _ _ _ c.requires.size c.perform_flush.ensures.comes;
  many = λ read done. absurd (let z : Read ≡ Flush = sym read ∙ c.in-Flush.is in cc);
  size = c.perform_flush.ensures.size;
  told = c.perform_flush.ensures.told;
  keeps = c.perform_flush.ensures.keeps;
}
