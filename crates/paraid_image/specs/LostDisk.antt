-- What a failed call leaves.
use Rattle.std.specs.Prelude.{◌≡◌, ◌≢◌, ℕ}
use Rattle.paraid_rack.specs.declared.call.Power.TheVariants.{Absent}
use Rattle.paraid_rack.specs.Disks.{Disks, with_at}

-- disk `d` is lost, whatever its blocks are now; all else is as before
pub record IsLoss (s t : Disks) (d : ℕ) : Type 0 where
  pub power : (x : ℕ) → t.power x ≡ with_at s.power d Absent x
  pub size : (x : ℕ) → t.size x ≡ with_at s.size d 0 x
  pub block : (x p : ℕ) → x ≢ d → t.block x p ≡ s.block x p
  pub loose : (x p : ℕ) → x ≢ d → t.loose x p ≡ s.loose x p
