-- What one window means
use Rattle.std.specs.Prelude.{◌≡◌, ℕ, ◌-◌, ◌*◌, ◌^◌, ◌≤◌, ◌&&◌, nat_le, Bool, List, All, length, sum, sum_by}
use Rattle.circular_buffer.specs.Buffer.{keep_last}

-- a window's length, and the samples that it holds, the oldest first
pub record SampleWindow : Type 0 where
  pub span : ℕ
  pub samples : List ℕ

-- a window of this length and these samples
abbrev pub sample_window : ℕ → List ℕ → SampleWindow
sample_window span samples = record { span = span; samples = samples }

-- of all these samples, the window holds as many of the last as its length, or all
pub record HoldsLast (window : SampleWindow) (samples : List ℕ) : Type 0 where
  pub holds : window.samples ≡ keep_last window.span samples

-- the sum of the squares
abbrev pub sum_squares : List ℕ → ℕ
sum_squares = sum_by (λ x. x * x)

-- no sample is greater
abbrev pub sample_most : ℕ
sample_most = 1048576

-- the sum of small samples, and that of their squares
pub record AreSums (samples : List ℕ) (total squares : ℕ) : Type 0 where
  pub small : All (λ x. x ≤ sample_most) samples
  pub total_is : total ≡ sum samples
  pub squares_is : squares ≡ sum_squares samples

-- there are as many samples as the window is long
abbrev pub is_full : ℕ → List ℕ → Bool
is_full span samples = nat_le span (length samples)

-- The mean of the samples is at least the load. A load is in hundredths of a sample.
abbrev pub is_busy : ℕ → ℕ → List ℕ → Bool
is_busy load span samples = nat_le (load * span) (100 * sum samples)

-- The mean of the samples and their standard deviation together are at most the load, in hundredths
-- of a sample. With their sum S and their sum of squares Q: 100 S ≤ load * span, and the square of
-- 100 * span * deviation, which is 10000 (span * Q - S^2), is at most (load * span - 100 S)^2.
abbrev pub is_low_and_even : ℕ → ℕ → List ℕ → Bool
is_low_and_even load span samples =
    nat_le (100 * sum samples) (load * span)
    && nat_le (10000 * (span * sum_squares samples - sum samples * sum samples))
    ((load * span - 100 * sum samples) ^ 2)
