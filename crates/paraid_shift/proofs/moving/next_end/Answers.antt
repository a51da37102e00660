use Rattle.std.proofs.Common.{◌≡◌, ◌∙◌, ℕ, ◌+◌, ◌-◌, ◌<◌, ◌≤◌, ◌⊎◌, ap, arith, inr, min, sym}
use Rattle.paraid_base.specs.Soft.{stripe_count}
use Rattle.paraid_base.specs.States.{phase_to}
use Rattle.paraid_record.specs.Range.{fill_limit}
use Rattle.paraid_record.specs.declared.meta.Meta.{Meta}
use Rattle.paraid_shift.proofs.UnitLemmas.{no_stripes_past, no_stripes_steady, none_to_fill}
use Rattle.paraid_shift.proofs.moving.next_end.Goals as goal
use Rattle.paraid_shift.proofs.moving.next_end.Goals.{then-to-eq0-via-then-to-eq0, then-to-eq0-via-else-to-eq0+then-to-meta}

from_low : (from fill some : ℕ) → fill ≡ from → from ≤ fill + some
from_low from fill some is = omega arith

min_few : (from fill left most some : ℕ) → fill ≡ from → some ≡ min left most → fill + some ≤ from + most
min_few from fill left most some same is = omega arith

min_within : (from fill left most some count : ℕ) → fill ≡ from → from ≤ count → left ≡ count - from → some ≡ min left most → fill + some ≤ count
min_within from fill left most some count same low rest is = omega arith

min_all : (from fill left most some count : ℕ) → fill ≡ from → from ≤ count → left ≡ count - from → some ≡ min left most → (fill + some ≡ from + most) ⊎ (fill + some ≡ count)
min_all from fill left most some count same low rest is = grind arith

some_to : (to phase : ℕ) → to ≡ phase → (to ≡ 0 → ⊥) → 0 < phase
some_to to phase is some = omega arith

below : (to phase disks n : ℕ) → to ≡ phase → disks ≡ n → to < disks → phase < n
below to phase disks n is same low = omega arith

same_low : (from fill : ℕ) → fill ≡ from → from ≤ fill
same_low from fill is = omega arith

same_few : (from fill most : ℕ) → fill ≡ from → fill ≤ from + most
same_few from fill most is = omega arith

none_more : (from fill : ℕ) → fill ≡ from → from < fill → ⊥
none_more from fill is more = omega arith

-- no stripe is to be filled
none_to : (m n : Meta) (to : ℕ) → m ≡ n → to ≡ phase_to m.phase → n.fill ≤ fill_limit n.setup.geometry n.phase → to ≡ 0 → m.fill ≡ stripe_count n.setup.geometry.disks n.setup.geometry.rows (phase_to n.phase)
none_to m n to same is within zero =
    ap (λ (z : Meta). z.fill) same ∙ none_to_fill n within (no_stripes_steady n (sym (ap (λ (z : Meta). phase_to z.phase) same) ∙ sym is ∙ zero))

none_past : (m n : Meta) (to : ℕ) → m ≡ n → to ≡ phase_to m.phase → n.fill ≤ fill_limit n.setup.geometry n.phase → m.setup.geometry.disks ≤ to → m.fill ≡ stripe_count n.setup.geometry.disks n.setup.geometry.rows (phase_to n.phase)
none_past m n to same is within past =
    let phase = ap (λ (z : Meta). phase_to z.phase) same in
    let disks = ap (λ (z : Meta). z.setup.geometry.disks) same in
    ap (λ (z : Meta). z.fill) same ∙ none_to_fill n within (no_stripes_past n.setup.geometry.disks n.setup.geometry.rows (phase_to n.phase) n.setup.geometry.disks_low (omega arith))

pub returns-then-to-eq0 : goal.returns-then-to-eq0
returns-then-to-eq0 g c =
    let same = c.meta-meta.ensures in
    let fill = ap (λ (m : Meta). m.fill) same in
    let within = c.requires.ready.in_range.shift.fill in
    record {
      from = same_low _ _ fill;
      few = same_few _ _ _ fill;
      some = λ more. absurd (none_more _ _ fill more);
      all = inr (elim c.then-to-eq0.branch [
        | then-to-eq0-via-then-to-eq0 w ↦ none_to _ c.args.core.now.meta _ same c.to-to.ensures within w.if-to-eq0.true
        | then-to-eq0-via-else-to-eq0+then-to-meta w ↦ none_past _ c.args.core.now.meta _ same c.to-to.ensures within w.if-to-meta.true
      ]);
    }

pub returns : goal.returns
returns g c =
    let same = c.meta-meta.ensures in
    let fill = ap (λ (m : Meta). m.fill) same in
    let to = c.to-to.ensures ∙ ap (λ (m : Meta). phase_to m.phase) same in
    let left = c.stripes_left.ensures in
    record {
      from = from_low _ _ _ fill;
      few = min_few _ _ _ _ _ fill c.min.ensures;
      some = λ more. record {
        shifts = some_to _ _ to c.if-to-eq0.false;
        region = below _ _ _ _ to (ap (λ (m : Meta). m.setup.geometry.disks) same) c.if-to-meta.false;
        from = from_low _ _ _ fill;
        stripe = min_within _ _ _ _ _ _ fill left.within left.left c.min.ensures;
      };
      all = min_all _ _ _ _ _ _ fill left.within left.left c.min.ensures;
    }
