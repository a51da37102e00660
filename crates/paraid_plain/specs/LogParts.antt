-- The parts of what is asked of the log disks.
use Rattle.std.specs.Prelude.{◌≡◌, ◌≢◌, ℕ, ◌<◌, true, false, Option, Some, Contains, get_or}
use Rattle.paraid_base.specs.declared.state.Out.{Out}
use Rattle.paraid_base.specs.Log.{body_place}
use Rattle.paraid_rack.specs.declared.call.Power.{Power}
use Rattle.paraid_rack.specs.declared.call.Power.TheVariants.{Spinning}
use Rattle.paraid_rack.specs.Disks.{Disks, IsPresent}
use Rattle.paraid_record.specs.declared.meta.Meta.{Meta}
use Rattle.paraid_record.specs.declared.targets.Target.{Target}
use Rattle.paraid_record.specs.Targets.{no_target}
use Rattle.paraid_image.specs.Out.{IsMissing, named_out}
use Rattle.paraid_image.specs.Sides.{LogState, Says, is_open, stored_block, targets}
use Rattle.paraid_image.specs.Sound.{IsFresh, Pairing}
use Rattle.paraid_plain.specs.declared.image.Image.{Image}
use Rattle.paraid_plain.specs.declared.statement.Statement.{Statement}
use Rattle.paraid_plain.specs.Images.{disks_in}

-- where disk `d` is missing, no other one is
abbrev pub IsSingleWith : (ℕ → Power) → Meta → ℕ → Type 0
IsSingleWith power m d = (e : ℕ) → IsMissing power m d → IsMissing power m e → d ≡ e

-- at most one disk is missing
abbrev pub IsSingle : (ℕ → Power) → Meta → Type 0
IsSingle power m = (d : ℕ) → IsSingleWith power m d

-- a log disk that is being rebuilt has its gate closed
abbrev pub IsFreshShut : Disks → Meta → Type 0
IsFreshShut i m = (d rebuilt : ℕ)
    → IsFresh i.power m d rebuilt → d < 2 → is_open (stored_block i d 0) ≡ false

-- the disk of a target spins, if it is not out
abbrev pub IsTargetSpinning : (ℕ → Power) → Option ℕ → Target → Type 0
IsTargetSpinning power out t = out ≢ Some t.disk → power t.disk ≡ Spinning

-- each target that is not on the out disk is on a disk that spins
abbrev pub AreTargetsSpinning : (ℕ → Power) → LogState → Option ℕ → Type 0
AreTargetsSpinning power said out = (t : Target)
    → Contains (targets said.batch) t → IsTargetSpinning power out t

-- log disk `y` says something, if it is there and not out
abbrev pub IsLogFormed : Disks → Option ℕ → ℕ → Type 0
IsLogFormed i out y = IsPresent i y → out ≢ Some y → (other : LogState) × Says i y other

-- each log disk that is there and not out is well formed
abbrev pub AreLogsFormed : Disks → Option ℕ → Type 0
AreLogsFormed i out = (y : ℕ) → y < 2 → IsLogFormed i out y

-- what the two log disks say fits together, if neither is out
abbrev pub ArePaired : Disks → Option ℕ → Type 0
ArePaired i out = (a b : LogState)
    → Says i 0 a → Says i 1 b → out ≢ Some 0 → out ≢ Some 1 → Pairing a b

-- where both name a disk out, it is the same one
abbrev pub AreOutAlike : Out → Out → Type 0
AreOutAlike a b = (d e : ℕ) → named_out a ≡ Some d → named_out b ≡ Some e → d ≡ e

-- target `k` and its block are the same in two statements
abbrev pub IsSameTarget : Image → Statement → Statement → ℕ → Type 0
IsSameTarget image a b k = (get_or a.targets.list k no_target ≡ get_or b.targets.list k no_target)
    × (stored_block (disks_in image) a.disk (body_place k)
    ≡ stored_block (disks_in image) b.disk (body_place k))

-- where there is a witness against log disk `x`, it is out
abbrev pub IsWitnessTrue : Disks → Option ℕ → ℕ → Type 0
IsWitnessTrue i out x = is_open (stored_block i 2 x) ≡ true → out ≡ Some x
