use Rattle.std.specs.Prelude.{List, length}
use Rattle.std.proofs.Common.{ℕ, arith, inl, inr, refl, subst, sym}
use Rattle.std.proofs.lemmas.List.{take_all}
use Rattle.paraid_base.specs.Told.{GrowsByBytes}
use Rattle.paraid_serve.proofs.ending.last.Goals as goal

pub returns-in-Ok : goal.returns-in-Ok
returns-in-Ok g c =
    let line = c.args.line.now in
    record {
      ends = record {
        count = length line;
        within = inr (refl, refl);
        grows = subst (λ (l : List ℕ). GrowsByBytes (g.K.Sink.written c.args.sink.now) (g.K.Sink.written c.write_all.new.sink) l) (sym (take_all (length line) line (omega arith))) c.in-Ok.ensures.grows;
        whole = inr (refl, refl);
      };
      cause = λ not. absurd (not refl);
      later = c.write_all.ensures.later;
      still = λ not. c.in-Ok.ensures.still;
    }

pub returns-in-Err : goal.returns-in-Err
returns-in-Err g c =
    let part = c.in-Err.ensures.part in
    record {
      ends = record { count = part.0; within = inl part.1; grows = part.2; whole = inl refl };
      cause = λ not. (refl, c.in-Err.ensures.cause);
      later = c.write_all.ensures.later;
      still = λ not. absurd (not refl);
    }
