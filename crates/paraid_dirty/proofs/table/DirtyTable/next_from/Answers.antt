use Rattle.std.specs.Prelude.{ℕ, ◌+◌, ◌*◌, List, length}
use Rattle.std.proofs.Common.{arith, ap, subst}
use Rattle.paraid_dirty.specs.Bits.{bit_in, on_disks, AreClear, IsFirstBit}
use Rattle.paraid_dirty.proofs.TableLemmas.{cell_first, cells_clean, rows_length}
use Rattle.paraid_dirty.proofs.table.DirtyTable.next_from.Goals as goal

pub returns-in-Some-clause-first : goal.returns-in-Some-clause-first
returns-in-Some-clause-first c =
    let of : List ℕ → Type 0 = λ ws. IsFirstBit (on_disks c.args.lo c.args.hi (bit_in ws)) (8 * c.args.r + c.args.d) c.in-Some.at in
    rw (← c.self.view_is) (cell_first c.self.inside.words.items c.self.inside.marks.items c.self.inside.rows c.args.r c.args.d c.args.lo c.args.hi c.self.invariant c.requires.disk c.requires.high
    c.in-Some.at (subst of c.deref.ensures.value c.in-Some.ensures.some)).0

pub returns-in-Some-clause-within : goal.returns-in-Some-clause-within
returns-in-Some-clause-within c =
    let of : List ℕ → Type 0 = λ ws. IsFirstBit (on_disks c.args.lo c.args.hi (bit_in ws)) (8 * c.args.r + c.args.d) c.in-Some.at in
    let below = (cell_first c.self.inside.words.items c.self.inside.marks.items c.self.inside.rows c.args.r c.args.d c.args.lo c.args.hi c.self.invariant c.requires.disk c.requires.high
    c.in-Some.at (subst of c.deref.ensures.value c.in-Some.ensures.some)).1 in
    omega (arith, below, ap length c.self.view_is, rows_length c.self.inside.words.items c.self.inside.rows)

pub returns-in-None-clause-none : goal.returns-in-None-clause-none
returns-in-None-clause-none c =
    let of : List ℕ → Type 0 = λ ws. AreClear (on_disks c.args.lo c.args.hi (bit_in ws)) (8 * c.args.r + c.args.d) (64 * length ws) in
    rw (← c.self.view_is) (cells_clean c.self.inside.words.items c.self.inside.marks.items c.self.inside.rows c.args.r c.args.d c.args.lo c.args.hi c.self.invariant c.requires.disk c.requires.high
    (subst of c.deref.ensures.value c.in-None.ensures.none))
