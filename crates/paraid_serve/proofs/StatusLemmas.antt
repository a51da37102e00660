-- The status that a run ends with, by its last line.
use Rattle.std.specs.Prelude.{◌≡◌, ◌≢◌, ℕ, ◌<◌, ◌≤◌, List, length, Option, Result, Ok, Err}
use Rattle.std.proofs.Common.{arith, inl, inr, refl, subst, sym, ◌∙◌}
use Rattle.paraid_base.specs.declared.fault.Halt.{Halt}
use Rattle.paraid_base.specs.declared.fault.Halt.TheVariants.{Two, Worn}
use Rattle.paraid_base.specs.Told.{HasRisen}
use Rattle.paraid_base.proofs.ToldLemmas.{HasRisen-sooner}
use Rattle.paraid_serve.specs.declared.stop.Stop.TheVariants.{Source, TooLong, Sink, Halt as Halts}
use Rattle.paraid_serve.specs.Ending.{EndsWithLine, status_of_halt}
use Rattle.paraid_serve.specs.Output.{IsServedStatus}

module _ (before after : Option (List ℕ)) (line : List ℕ) (code status : ℕ) (ends : EndsWithLine before after line code status) where
  pub served : IsServedStatus code → IsServedStatus status
  served its = elim ends.whole [
    | inl four ↦ inr (inr (inl four))
    | inr all ↦ subst IsServedStatus (sym all.1) its
  ]

  pub other : (n : ℕ) → n ≢ 4 → n ≢ code → status ≢ n
  other n not apart is = elim ends.whole [
    | inl four ↦ not (sym is ∙ four)
    | inr all ↦ apart (sym is ∙ all.1)
  ]

  -- a line that is not whole was cut at 4
  pub cut_at : ends.count < length line → status ≡ 4
  cut_at short = elim ends.whole [ inl four ↦ four | inr all ↦ absurd (let full = all.0 in omega (arith, short, full)) ]

  -- the status is that of the line, or 4
  pub ends_there : status ≢ 4 → status ≢ code → ⊥
  ends_there not apart = elim ends.whole [ inl four ↦ not four | inr all ↦ apart all.1 ]

-- at 4 the sink has failed in the last line
pub sink_failed : (code status a b c : ℕ) → (status ≢ code → (status ≡ 4) × HasRisen b c) → code ≢ 4 → a ≤ b → status ≡ 4 → HasRisen a c
sink_failed code status a b c cause not before four = HasRisen-sooner a b c before (cause (λ is. not (sym is ∙ four))).1

pub halt_served : (halt : Halt) → IsServedStatus (status_of_halt halt)
halt_served (Two two) = inr (inr (inr (inl refl)))
halt_served (Worn count) = inr (inr (inr (inr (inr refl))))

pub halt_high : (halt : Halt) (n : ℕ) → n ≤ 4 → n ≢ status_of_halt halt
halt_high (Two two) n low is = omega arith
halt_high (Worn count) n low is = omega arith

-- counts do not fall from part to part
pub not_fallen : (a b c : ℕ) → a ≤ b → b ≤ c → a ≤ c
not_fallen a b c first second = omega arith

-- a count that stands has not fallen
pub stood : {a b : ℕ} → b ≡ a → a ≤ b
stood is = omega (arith, is)

-- answers that differ
module _ {A E : Type 0} where
  pub ok_not_err : {a : A} {e : E} → ◌≡◌ {A = Result A E} (Ok a) (Err e) → ⊥
  ok_not_err is = cc

  pub err_is : {e f : E} → ◌≡◌ {A = Result A E} (Err e) (Err f) → e ≡ f
  err_is is = cc

pub source_not_sink : Source ≢ Sink
source_not_sink is = cc

pub too_long_not_source : TooLong ≢ Source
too_long_not_source is = cc

pub too_long_not_sink : TooLong ≢ Sink
too_long_not_sink is = cc

pub sink_not_source : Sink ≢ Source
sink_not_source is = cc

pub halt_not_source : (halt : Halt) → Halts halt ≢ Source
halt_not_source halt is = cc

pub halt_not_sink : (halt : Halt) → Halts halt ≢ Sink
halt_not_sink halt is = cc
