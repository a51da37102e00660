use Rattle.std.specs.Prelude.{◌≡◌, ℕ, List, ◌+◌, ◌-◌, ◌++◌, length}
use Rattle.std.proofs.Common.{arith, ap, sym, refl, ◌∙◌}
use Rattle.std.proofs.lemmas.Grind.{common_steps}
use Rattle.std.proofs.lemmas.List.{length-take-le}
use Rattle.std.proofs.lemmas.Slice.{take-put_mid}
use Rattle.paraid_record.proofs.PenLemmas.{pen_put}
use Rattle.paraid_record.proofs.pen.Pen.put_bytes.Goals as goal

pub invariant_of-self : goal.invariant_of-self
invariant_of-self c =
    let front = length-take-le c.self.inside.at c.self.inside.bytes (omega arith) in
    let stands : length c.args.self.now ≡ c.self.inside.at = rw (sym c.self.view_is) front in
    let same = ap length c.copy_from_slice.ensures.after in
    pen_put _ _ _ _ c.copy_from_slice.new.self c.self.invariant (omega arith) (omega arith) (omega arith)

pub returns-clause-value : goal.returns-clause-value
returns-clause-value c =
    let part = take-put_mid c.self.inside.at (c.self.inside.at + length c.args.bytes.now - c.self.inside.at) c.self.inside.bytes c.args.bytes.now (c.self.inside.at + length c.args.bytes.now) refl (omega arith) in
    rw c.copy_from_slice.ensures.after (part ∙ ap (λ (xs : List ℕ). xs ++ c.args.bytes.now) c.self.view_is)

pub returns-clause-length : goal.returns-clause-length
returns-clause-length c = grind (arith, common_steps)
