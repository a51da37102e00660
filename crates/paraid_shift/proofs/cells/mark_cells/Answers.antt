use Rattle.std.specs.Prelude.{ℕ, ◌≡◌, ◌<◌, ◌≤◌, length, ◌+◌}
use Rattle.std.proofs.Math.Nat.{le_refl}
use Rattle.std.proofs.Common.{◌∙◌, refl, sym, ap, subst, arith, inl, inr}
use Rattle.std.proofs.lemmas.Bool.{cases_eq}
use Rattle.paraid_record.specs.declared.meta.Meta.{Meta}
use Rattle.paraid_shift.specs.Rising.{KeepsCopied}
use Rattle.paraid_shift.specs.Units.{CoreCountsMoved, HasDirtyBefore, are_copied_before}
use Rattle.paraid_shift.proofs.CopiedLemmas.{keeps_none, keeps_then}
use Rattle.paraid_shift.proofs.MovingLemmas.{core_moves_same, core_moves_so, core_moves_then}
use Rattle.paraid_shift.proofs.cells.mark_cells.Goals as goal
use Rattle.paraid_base.specs.Log.{batch_room}

below : (marked count : ℕ) → marked < count → marked ≤ count
below marked count low = omega arith

all_marked : (marked count : ℕ) → count ≤ marked → marked ≤ count → marked ≡ count
all_marked marked count past within = omega arith

pub loop-marked-init : goal.loop-marked-init
loop-marked-init g c = record {
  serving = c.requires.serving;
  meta = refl;
  store = refl;
  moves = core_moves_same g.R.Rack.slot_count c.args.core.now c.requires.whole;
  idle = λ none. refl;
  copied = keeps_none g.R.Rack.slot_count g.R.Rack.slot g.R.Rack.told c.args.core.now _;
}

pub loop-marked-preserved : goal.loop-marked-preserved
loop-marked-preserved g c =
    let a = c.args.core.now in
    let b = c.loop-marked.core in
    let new = c.mark_one.new.core in
    let was = c.loop-marked.invariant in
    let one = c.mark_one.ensures in
    record {
      serving = one.serving;
      meta = one.meta ∙ was.meta;
      store = one.store ∙ was.store;
      moves = core_moves_then g.R.Rack.slot_count a b new c.loop-marked.marked 1 was.moves (ap (λ (m : Meta). m.out) was.meta ∙ c.requires.whole) (ap (λ (m : Meta). m.setup) was.meta) (one.moves c.if-not-mark_one.false);
      idle = λ none. absurd (omega (arith, none));
      copied = keeps_then g.R.Rack.slot_count g.R.Rack.slot g.R.Rack.told a b new _ was.store was.meta was.copied
          (subst (λ (m : Meta). KeepsCopied g.R.Rack.slot_count g.R.Rack.told b new (are_copied_before m c.args.group.now.row c.args.group.now.disk)) was.meta one.copied);
    }

pub mark_one-requires : goal.mark_one-requires
mark_one-requires g c =
    let was = c.loop-marked.invariant in
    record { serving = was.serving; whole = ap (λ (m : Meta). m.out) was.meta ∙ c.requires.whole }

pub returns-then-not-mark_one : goal.returns-then-not-mark_one
returns-then-not-mark_one g c =
    let a = c.args.core.now in
    let was = c.loop-marked.invariant in
    let one = c.mark_one.ensures in
    let same = one.idle c.if-not-mark_one.true in
    record {
      serving = one.serving;
      meta = one.meta ∙ was.meta;
      store = one.store ∙ was.store;
      few = below _ _ c.loop-marked-test.true;
      moves = subst (λ (z : _). CoreCountsMoved g.R.Rack.slot_count a z c.loop-marked.marked) (sym same) was.moves;
      idle = λ none. same ∙ was.idle none;
      some = λ room few has. elim (cases_eq c.loop-marked.marked 0) [
        | inl none ↦ absurd (subst (λ (z : _). length z.batch + 2 ≤ batch_room → HasDirtyBefore z.meta z.dirty c.args.group.now.row c.args.group.now.disk → ⊥) (was.idle none) (one.some c.if-not-mark_one.true) room has)
        | inr some ↦ omega (arith, some)
      ];
      copied = subst (λ (z : _). KeepsCopied g.R.Rack.slot_count g.R.Rack.told a z (are_copied_before a.meta c.args.group.now.row c.args.group.now.disk)) (sym same) was.copied;
    }

pub returns : goal.returns
returns g c =
    let a = c.args.core.now in
    let was = c.loop-marked.invariant in
    let all = all_marked _ _ c.loop-marked-test.false c.loop-marked.auto.marked-end in
    record {
      serving = was.serving;
      meta = was.meta;
      store = was.store;
      few = le_refl _;
      moves = core_moves_so g.R.Rack.slot_count a c.loop-marked.core c.loop-marked.marked c.args.group.now.count all was.moves;
      idle = λ none. was.idle (all ∙ none);
      some = λ room some has. some;
      copied = was.copied;
    }
