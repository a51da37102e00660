-- How many writes are kept after an answer, and when a state shows another.
use Rattle.std.specs.Prelude.{◌≡◌, ℕ, nat_lt, [], if◌then◌else◌}
use Rattle.paraid_base.specs.declared.event.Answer.{Answer}
use Rattle.paraid_base.specs.declared.event.Answer.TheVariants.{Flushed}
use Rattle.paraid_image.specs.Power.{PowerState}

-- how many writes no stop takes away after this answer: a flush raises it to the number that it
-- tells
abbrev pub with_flush : ℕ → Answer → ℕ
with_flush low (Flushed number) = if nat_lt low number then number else low
with_flush low answer = low

-- The state and one that an image shows have the same gear, phase, fill mark, out disk and spins.
-- (Of an image the slot of a disk that is absent shows it as gone, whether or not the meta names
-- it.)
pub record IsShown (state shown : PowerState) : Type 0 where
  pub gear : shown.gear ≡ state.gear
  pub phase : shown.phase ≡ state.phase
  pub fill : shown.fill ≡ state.fill
  pub out : shown.out ≡ state.out
  pub spins : shown.spins ≡ state.spins

-- a state with which events begin: the one that is shown, with its ticks, and no sample yet
pub record IsBeginning (state shown : PowerState) : Type 0 where
  pub shows : IsShown state shown
  pub ticks : state.ticks ≡ shown.ticks
  pub samples : state.samples ≡ []
  pub served : state.served ≡ 0
