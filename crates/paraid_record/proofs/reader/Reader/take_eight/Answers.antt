use Rattle.std.specs.Prelude.{◌≡◌, ◌+◌, ◌++◌, ℕ, length, take, drop}
use Rattle.std.proofs.Common.{arith, ap, ◌∙◌}
use Rattle.std.proofs.lemmas.List.{length-append, take_all, take_at, drop_at}
use Rattle.paraid_record.proofs.reader.Reader.take_eight.Goals as goal

pub returns-clause-reads : goal.returns-clause-reads
returns-clause-reads c = λ bytes rest l e.
    let all : c.self.inside.rest.now ≡ bytes ++ rest = c.self.view_is ∙ e in
    let front : take 8 c.self.inside.rest.now ≡ bytes = rw all (take_at bytes rest 8 l) in
    let back : drop 8 c.self.inside.rest.now ≡ rest = rw all (drop_at bytes rest 8 l) in
    let long : length c.self.inside.rest.now ≡ 8 + length rest = ap length all ∙ length-append bytes rest ∙ ap (λ (n : ℕ). n + length rest) l in
    (c.copy_from_slice.ensures.after ∙ front, rw back (take_all _ rest (omega arith)))
