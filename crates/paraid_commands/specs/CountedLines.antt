-- Generated lines that were answered and counted.
use Rattle.std.specs.Prelude.{◌≡◌, ℕ}
use Rattle.paraid_serve.specs.Stretch.{Span}
use Rattle.paraid_session.specs.Turn.{Point}
use Rattle.paraid_commands.specs.declared.tally.Tally.{Tally}
use Rattle.paraid_commands.specs.Generating.{AnswersGenerated}
use Rattle.paraid_commands.specs.Tally.{empty_tally, tally_of}

-- so many lines were answered and counted so, and the array stands at the last point
pub record CountsLines (span : Span)
    (p : Point) (number count : ℕ) (tally : Tally) (stood : Point → Type 0) : Type 0 where
  pub all : AnswersGenerated span p number count
  pub counts : tally ≡ tally_of empty_tally all.turns
  pub stands : stood all.end
