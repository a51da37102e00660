use Rattle.std.proofs.Common.{◌≡◌, ℕ, ap, arith, length, refl, sym, ◌∙◌}
use Rattle.paraid_rack.specs.declared.call.Power.{Power}
use Rattle.paraid_rack.specs.declared.call.Power.TheVariants.{Spinning, Parked, Absent}
use Rattle.paraid_imgrack.specs.Sidecar.{power_word}
use Rattle.paraid_imgrack.proofs.SidecarLemmas.{said_so, not_said}
use Rattle.paraid_imgrack.proofs.power.power_of.Goals as goal

absent_spinning : ◌≡◌ {A = Power} Absent Spinning → ⊥
absent_spinning e = cc

absent_parked : ◌≡◌ {A = Power} Absent Parked → ⊥
absent_parked e = cc

spinning_parked : ◌≡◌ {A = Power} Spinning Parked → ⊥
spinning_parked e = cc

parked_spinning : ◌≡◌ {A = Power} Parked Spinning → ⊥
parked_spinning e = cc

words_apart : power_word Spinning ≡ power_word Parked → ⊥
words_apart e = let l : ◌≡◌ {A = ℕ} 8 6 = ap length e in omega (arith, l)

pub returns-then-eq-clause-parked : goal.returns-then-eq-clause-parked
returns-then-eq-clause-parked c = (
  λ e. absurd (spinning_parked e),
  λ so. absurd (words_apart (sym (said_so _ _ _ _ c.trim_ascii_end-said.ensures.value c.as_slice.ensures _ c.eq.ensures c.if-eq.true) ∙ so)),
)

pub returns-then-eq-2-clause-spinning : goal.returns-then-eq-2-clause-spinning
returns-then-eq-2-clause-spinning c = (
  λ e. absurd (parked_spinning e),
  λ so. absurd (not_said _ _ _ _ c.trim_ascii_end-said.ensures.value c.as_slice.ensures _ c.eq.ensures c.if-eq.false so),
)

pub returns-then-eq-clause-spinning : goal.returns-then-eq-clause-spinning
returns-then-eq-clause-spinning c =
    (λ _. said_so _ _ _ _ c.trim_ascii_end-said.ensures.value c.as_slice.ensures _ c.eq.ensures c.if-eq.true, λ _. refl)

pub returns-then-eq-2-clause-parked : goal.returns-then-eq-2-clause-parked
returns-then-eq-2-clause-parked c =
    (λ _. said_so _ _ _ _ c.trim_ascii_end-said.ensures.value c.as_slice-else-eq.ensures _ c.eq-else-eq.ensures c.if-eq-2.true, λ _. refl)

pub returns-else-eq-2-clause-spinning : goal.returns-else-eq-2-clause-spinning
returns-else-eq-2-clause-spinning c = (
  λ e. absurd (absent_spinning e),
  λ so. absurd (not_said _ _ _ _ c.trim_ascii_end-said.ensures.value c.as_slice.ensures _ c.eq.ensures c.if-eq.false so),
)

pub returns-else-eq-2-clause-parked : goal.returns-else-eq-2-clause-parked
returns-else-eq-2-clause-parked c = (
  λ e. absurd (absent_parked e),
  λ so. absurd (not_said _ _ _ _ c.trim_ascii_end-said.ensures.value c.as_slice-else-eq.ensures _ c.eq-else-eq.ensures c.if-eq-2.false so),
)
