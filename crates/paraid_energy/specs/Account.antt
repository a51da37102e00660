-- The energy of the disks of an array, in millijoules
use Rattle.std.specs.Prelude.{◌≡◌, ℕ, ◌+◌, ◌-◌, ◌*◌, ◌^◌, min}
use Rattle.paraid_record.specs.declared.meta.Setup.{Setup}
use Rattle.paraid_base.specs.Told.{counter_most}

-- what a disk uses between two ticks, spinning and parked, what a spin-up uses, and the sum
pub record Account : Type 0 where
  pub spinning_mj : ℕ
  pub parked_mj : ℕ
  pub spinup_mj : ℕ
  pub total : ℕ

-- the account of a setup, with nothing used
abbrev pub new_account : Setup → Account
new_account s = record {
  spinning_mj = s.spinning_mj;
  parked_mj = s.parked_mj;
  spinup_mj = s.spinup_mj;
  total = 0;
}

-- an account with the figures of a setup
pub record HasFigures (s : Setup) (account : Account) : Type 0 where
  pub spinning : account.spinning_mj ≡ s.spinning_mj
  pub parked : account.parked_mj ≡ s.parked_mj
  pub spinup : account.spinup_mj ≡ s.spinup_mj

-- the account with so much more used; the sum stays at the greatest number of 64 bits
abbrev pub with_used : Account → ℕ → Account
with_used a used = record a { total = min (a.total + used) counter_most }

-- the account after a tick
abbrev pub after_tick : Account → ℕ → ℕ → Account
after_tick a spinning parked = with_used a (a.spinning_mj * spinning + a.parked_mj * parked)

-- the account after spin-ups of so many disks
abbrev pub after_spin_ups : Account → ℕ → Account
after_spin_ups a disks = with_used a (a.spinup_mj * disks)
