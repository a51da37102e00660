use Rattle.std.proofs.Common.{◌+◌, List, ℕ, arith, length, length-append, subst, sym, take}
use Rattle.std.proofs.Math.Seq.{take-append-add, take-append-le}
use Rattle.paraid_base.specs.Told.{GrowsByBytes}
use Rattle.paraid_base.proofs.ToldLemmas.{GrowsByBytes-then}
use Rattle.paraid_sparing.proofs.run.tell.Goals as goal

pub returns-in_default-clause-part : goal.returns-in_default-clause-part
returns-in_default-clause-part g c =
    let p = c.in_default.ensures.part in
    let short = p.1 in (
      p.0,
      omega (arith, short, length-append c.args.line.now c.args.text.now),
      subst (λ (t : List ℕ). GrowsByBytes (g.K.Sink.written c.args.sink.now) (g.K.Sink.written c.write_all.new.sink) t) (sym (take-append-le p.0 c.args.line.now c.args.text.now (omega (arith, short)))) p.2,
    )

pub returns-in-Err-clause-part : goal.returns-in-Err-clause-part
returns-in-Err-clause-part g c =
    let p = c.in-Err.ensures.part in
    let short = p.1 in (
      length c.args.line.now + p.0,
      omega (arith, short, length-append c.args.line.now c.args.text.now),
      subst (λ (t : List ℕ). GrowsByBytes (g.K.Sink.written c.args.sink.now) (g.K.Sink.written c.write_all-2.new.sink) t) (sym (take-append-add c.args.line.now c.args.text.now p.0))
          (GrowsByBytes-then _ _ _ c.args.line.now (take p.0 c.args.text.now) c.in-Ok.ensures.grows p.2),
    )
