use Rattle.std.proofs.Common.{◌≡◌, ℕ, ◌+◌, ◌<◌, ◌∙◌, refl, arith, sym, subst}
use Rattle.paraid_volume.specs.TableBlocks.{in_table}
use Rattle.paraid_volume.specs.declared.table.Table.{Table}
use Rattle.paraid_volume.specs.Tables.{owner_in}
use Rattle.paraid_volume.proofs.LaidLemmas.{Taking, taking_first, taking_more, taking_none}
use Rattle.paraid_volume.proofs.table.Table.take.Goals as goal
use Rattle.paraid_volume.proofs.table.Table.take.Goals.{then-left-gt0+then-owner-eq0, else-left-gt0, else-left-gt0-via-then-left-gt0+else-owner-eq0, else-left-gt0-via-else-left-gt0}

pub loop-extent-init : goal.loop-extent-init
loop-extent-init c = (taking_first _ _ _, λ k l. refl)

pub loop-extent-preserved : goal.loop-extent-preserved
loop-extent-preserved c =
    let o = owner_in (in_table c.args.self.now) in
    let was = owner_in (in_table c.loop-extent.self) in
    let n = c.loop-extent.extent in
    let test = c.loop-extent-test.true in
    let few = c.requires.few in
    let low : n < 2048 = omega (arith, test, few) in
    let inv = c.loop-extent.invariant in
    let Goal = λ (t : Table) (left : ℕ). Taking o (owner_in (in_table t)) c.args.id c.args.count (n + 1) left × ((k : ℕ) → k < 2 → in_table t k ≡ in_table c.args.self.now k) in
    elim c.if-left-gt0.branch [
      | then-left-gt0+then-owner-eq0 w ↦
          subst (λ (t : Table). Goal t c.if-left-gt0.left) (sym w.self-is) (subst (λ (left : ℕ). Goal w.set_owner.new.self left) (sym w.left-is) (
            taking_more o was c.args.id c.args.count n c.loop-extent.left inv.0 low (sym w.owner.ensures ∙ w.if-owner-eq0.true) w.if-left-gt0.true (owner_in (in_table w.set_owner.new.self)) w.set_owner.ensures.owners,
            λ k l. w.set_owner.ensures.rest k l ∙ inv.1 k l,
          ))
      | else-left-gt0 w ↦
          subst (λ (t : Table). Goal t c.if-left-gt0.left) (sym w.self-is) (subst (λ (left : ℕ). Goal c.loop-extent.self left) (sym w.left-is) (
            taking_none o was c.args.id c.args.count n c.loop-extent.left inv.0 low
                (elim w.else-left-gt0.branch [
                  | else-left-gt0-via-then-left-gt0+else-owner-eq0 v ↦ λ some z. v.if-owner-eq0.false (v.owner.ensures ∙ z)
                  | else-left-gt0-via-else-left-gt0 v ↦ λ some z. let none = v.if-left-gt0.false in let no : ⊥ = omega (arith, some, none) in absurd no
                ]),
            inv.1,
          ))
    ]
