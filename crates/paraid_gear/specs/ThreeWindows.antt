-- What the three windows stand for
use Rattle.std.specs.Prelude.{ℕ, List, [], ◌∷◌, min}
use Rattle.paraid_gear.specs.declared.three_windows.Windows.{Windows}
use Rattle.paraid_gear.specs.Window.{HoldsLast, sample_most}

-- the lengths of the three windows
abbrev pub lengths_of : Windows → List ℕ
lengths_of windows = windows.first.span ∷ windows.second.span ∷ windows.third.span ∷ []

-- a count, cut at the greatest sample
abbrev pub sample_of : ℕ → ℕ
sample_of count = min count sample_most

-- each window holds the last of these samples, as many as it is long, or all
pub record HoldLastSamples (windows : Windows) (samples : List ℕ) : Type 0 where
  pub first : HoldsLast windows.first samples
  pub second : HoldsLast windows.second samples
  pub third : HoldsLast windows.third samples
