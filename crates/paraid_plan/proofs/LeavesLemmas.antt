-- What one call after another leaves of a plan, or none, or one that fails.
use Rattle.std.specs.Prelude.{◌≡◌, ℕ, ◌+◌, ◌<◌, ◌==◌, ◌&&◌, Bool, false, List, [], ◌∷◌, Option, Result, Err, Ok, IsErrAnd, IfErr, OnOk, get_or}
use Rattle.std.proofs.Common.{◌∙◌, arith, refl}
use Rattle.paraid_base.specs.declared.pairs.Pairs.{Pairs}
use Rattle.paraid_base.specs.Pairs.{pairs_of}
use Rattle.paraid_base.specs.Xor.{zero_block}
use Rattle.paraid_base.specs.declared.block.Block.{Block}
use Rattle.paraid_plan.specs.declared.desk.WritePlan.{Ghosts}
use Rattle.paraid_plan.specs.Leaves.{Leaves, StaysAsWas, WritesCells, WritesRow}
use Rattle.paraid_plan.specs.RowBits.{names_cell}
use Rattle.paraid_plan.specs.RowWrites.{count_in_row, given_row, one_in_row, pairs_before}
use Rattle.paraid_plan.proofs.PairLemmas.{count_more, count_none}
use Rattle.paraid_plan.proofs.PartLemmas.{given_first, given_next}
use Rattle.paraid_plan.proofs.RowBitsLemmas.{bits_none, bits_same, bits_then, cells_next, cells_none}
use Rattle.paraid_plan.proofs.RowLemmas.{adds_none, adds_then, old_same, stages_none, stages_same, turns_none, turns_same, turns_then}
use Rattle.paraid_record.specs.declared.meta.Meta.{Meta}

pub failed : {P A E : Type 0} (g : Ghosts P) {done : Type 0} (Q : E → Type 0) (old new : P) (result : Result A E) → IsErrAnd result Q → g.fails new → g.leads old new → Leaves g done old new result
failed g Q old new (Ok it) is fails leads = absurd is
failed g Q old new (Err e) is fails leads = record { ok = tt; fails = fails; leads = leads }

-- a call that failed says nothing of what it would do
pub not_ok : {A E : Type 0} (Q : E → Type 0) (X : Type 0) (result : Result A E) → IsErrAnd result Q → OnOk result X
not_ok Q X (Ok it) is = absurd is
not_ok Q X (Err e) is = tt

pub at_err : {A E X : Type 0} (result : Result A E) → X → IfErr result (λ e. X)
at_err (Ok it) x = tt
at_err (Err e) x = x

-- what a last call leaves, after what came before it
pub leaves_as : {P A E : Type 0} (g : Ghosts P) {done then : Type 0} (a b c : P) (result : Result A E) → (done → then) → (g.leads b c → g.leads a c) → Leaves g done b c result → Leaves g then a c result
leaves_as g a b c (Ok it) is leads last = record { ok = is last.ok; fails = tt; leads = leads last.leads }
leaves_as g a b c (Err e) is leads last = record { ok = tt; fails = last.fails; leads = leads last.leads }

pub stays_none : {P : Type 0} (g : Ghosts P) (m : Meta) (p : P) → g.serves p m → StaysAsWas g m p p
stays_none g m p serves = record { same = λ tells. refl; bits = refl; staged = refl; changes = refl; goes_on = serves }

pub stays_then : {P : Type 0} (g : Ghosts P) (m : Meta) (a b c : P) → (g.tells c → g.tells b) → StaysAsWas g m a b → StaysAsWas g m b c → StaysAsWas g m a c
stays_then g m a b c told p q = record {
  same = λ tells. q.same tells ∙ p.same (told tells);
  bits = q.bits ∙ p.bits;
  staged = q.staged ∙ p.staged;
  changes = q.changes ∙ p.changes;
  goes_on = q.goes_on;
}

-- no pair is written
pub row_none : {P : Type 0} (g : Ghosts P) (m : Meta) (pairs : ℕ) (change : ℕ → Block → Block) (turned : ℕ → ℕ → Bool) (p : P) → g.serves p m → pairs ≡ 0
    → ((c : ℕ) (x : Block) → change c x ≡ x) → ((q e : ℕ) → turned q e ≡ false) → WritesRow g m pairs change turned p p
row_none g m pairs change turned p serves none same off = record {
  write = λ tells. stages_same m (g.desk p) (g.desk p) (λ c x. x) change same (stages_none m (g.desk p));
  bits = bits_none m (g.desk p).dirty (g.desk p).dirty turned refl off;
  few = omega arith;
  grows = λ tells some. omega (arith, some);
  changes = omega arith;
  goes_on = serves;
}

-- the same, said in another way
pub row_same : {P : Type 0} (g : Ghosts P) (m : Meta) (few pairs : ℕ) (make change : ℕ → Block → Block) (turn turned : ℕ → ℕ → Bool) (a b : P) → pairs ≡ few
    → ((c : ℕ) (x : Block) → change c x ≡ make c x) → ((q e : ℕ) → turned q e ≡ turn q e) → WritesRow g m few make turn a b → WritesRow g m pairs change turned a b
row_same g m few pairs make change turn turned a b count same also p =
    let more = p.few in
    let set = p.changes in
    record {
      write = λ tells. stages_same m (g.desk a) (g.desk b) make change same (p.write tells);
      bits = bits_same m (g.desk a).dirty (g.desk b).dirty turn turned also p.bits;
      few = omega (arith, count, more);
      grows = λ tells some. p.grows tells (omega (arith, count, some));
      changes = omega (arith, count, set);
      goes_on = p.goes_on;
    }

-- the cells of the pairs before the first one, and of one pair more
pub cells_written_none : {P : Type 0} (g : Ghosts P) (m : Meta) (p : Pairs) (r : ℕ) (olds : List (Option Block)) (a : P) → g.serves a m
    → WritesCells g m (pairs_of p) (pairs_before p 0) r (count_in_row m.setup.geometry.disks (pairs_before p 0) r) olds olds a a
cells_written_none g m p r olds a serves =
    let n = m.setup.geometry.disks in
    let s = g.desk a in
    let none = count_none n p r in
    record {
      adds = λ tells. adds_none m s;
      turns = λ tells row was. turns_same m r s s row row (given_row n (pairs_before p 0) r row) (λ e le. given_first n p r row e) (turns_none m r s row);
      reads = λ tells row was. old_same m s (pairs_of p) r olds row (given_row n (pairs_before p 0) r row) (λ e le. given_first n p r row e) was;
      kept = refl;
      parity = λ tells. refl;
      bits = bits_none m s.dirty s.dirty _ refl (λ q e. cells_none n p r q e);
      room = omega (arith, none);
      some = λ tells out. omega (arith, none);
      changes = omega (arith, none);
      goes_on = serves;
    }

pub cells_written_next : {P : Type 0} (g : Ghosts P) (m : Meta) (p : Pairs) (at r : ℕ) (olds mids lasts : List (Option Block)) (a b c : P) → at < p.count → (g.tells c → g.tells b)
    → WritesCells g m (pairs_of p) (pairs_before p at) r (count_in_row m.setup.geometry.disks (pairs_before p at) r) olds mids a b
    → WritesCells g m (pairs_of p) ((get_or p.blocks at 0, get_or p.bytes at zero_block) ∷ []) r (one_in_row m.setup.geometry.disks (get_or p.blocks at 0) r) mids lasts b c
    → WritesCells g m (pairs_of p) (pairs_before p (at + 1)) r (count_in_row m.setup.geometry.disks (pairs_before p (at + 1)) r) olds lasts a c
cells_written_next g m p at r olds mids lasts a b c low law before here =
    let n = m.setup.geometry.disks in
    let s = g.desk a in
    let t = g.desk b in
    let u = g.desk c in
    let more = count_more n p at r low in
    let first = before.room in
    let second = here.room in
    let turned = before.changes in
    let one = here.changes in
    record {
      adds = λ tells. adds_then m s t u (before.adds (law tells)) (here.adds tells);
      turns = λ tells row was.
          turns_same m r s u row (given_row n ((get_or p.blocks at 0, get_or p.bytes at zero_block) ∷ []) r (given_row n (pairs_before p at) r row)) (given_row n (pairs_before p (at + 1)) r row)
          (λ e le. given_next n p at r row e low)
          (turns_then m r s t u row (given_row n (pairs_before p at) r row) (given_row n ((get_or p.blocks at 0, get_or p.bytes at zero_block) ∷ []) r (given_row n (pairs_before p at) r row))
          (before.turns (law tells) row was) (here.turns tells (given_row n (pairs_before p at) r row) (before.reads (law tells) row was)));
      reads = λ tells row was.
          old_same m u (pairs_of p) r lasts (given_row n ((get_or p.blocks at 0, get_or p.bytes at zero_block) ∷ []) r (given_row n (pairs_before p at) r row)) (given_row n (pairs_before p (at + 1)) r row)
          (λ e le. given_next n p at r row e low) (here.reads tells (given_row n (pairs_before p at) r row) (before.reads (law tells) row was));
      kept = here.kept ∙ before.kept;
      parity = λ tells. here.parity tells ∙ before.parity (law tells);
      bits = bits_then m s.dirty t.dirty u.dirty (λ q e. q == r && names_cell n (pairs_before p at) r e) (λ q e. q == r && names_cell n ((get_or p.blocks at 0, get_or p.bytes at zero_block) ∷ []) r e) _
          (λ q e. cells_next n p at r q e low) before.bits here.bits;
      room = omega (arith, more, first, second);
      some = λ tells out. (let early = before.some (law tells) out in let late = here.some tells out in omega (arith, more, early, late));
      changes = omega (arith, more, turned, one);
      goes_on = here.goes_on;
    }
