-- What all disks hold at one moment, and what a call does to them.
use Rattle.std.specs.Prelude.{◌≡◌, ℕ, Bool, true, false, if◌then◌else◌, ◌==◌}
use Rattle.paraid_base.specs.declared.block.Block.{Block}
use Rattle.paraid_base.specs.Xor.{zero_block}
use Rattle.paraid_rack.specs.declared.call.Power.{Power}
use Rattle.paraid_rack.specs.declared.call.Power.TheVariants.{Spinning, Parked, Absent}
use Rattle.paraid_rack.specs.declared.call.Call.{Call}
use Rattle.paraid_rack.specs.declared.call.Call.TheVariants.{Read, Write, Sync, Park, SpinUp, Attach}

-- power and size of each disk, and of each place its block and whether a stop may change it
pub record Disks : Type 0 where
  pub power : ℕ → Power
  pub size : ℕ → ℕ
  pub block : ℕ → ℕ → Block
  pub loose : ℕ → ℕ → Bool

-- f with v at k
unfoldable pub with_at : {A : Type 0} → (ℕ → A) → ℕ → A → ℕ → A
with_at f k v j = if j == k then v else f j

-- whether a power is of a disk that is there
abbrev pub is_present : Power → Bool
is_present Absent = false
is_present Parked = true
is_present Spinning = true

-- whether a power is `Parked`
abbrev pub is_parked : Power → Bool
is_parked Absent = false
is_parked Parked = true
is_parked Spinning = false

-- a disk is there
abbrev pub IsPresent : Disks → ℕ → Type 0
IsPresent s d = is_present (s.power d) ≡ true

-- the power after a call that leaves this power where it is done
abbrev pub power_after : Bool → Power → Power
power_after true power = power
power_after false power = Absent

-- the size after a call that leaves this size where it is done
abbrev pub size_after : Bool → ℕ → ℕ
size_after true size = size
size_after false size = 0

-- nothing is loose any more where the call is done
abbrev pub loose_after : Bool → (ℕ → Bool) → ℕ → Bool
loose_after true loose = λ p. false
loose_after false loose = loose

-- every block is zeros where the call is done
abbrev pub after_attach : Bool → (ℕ → Block) → ℕ → Block
after_attach true blocks = λ p. zero_block
after_attach false blocks = blocks

-- disk `d` has this power and this size; or where the call failed it is absent and has size 0
abbrev pub with_power : ℕ → Bool → Power → ℕ → Disks → Disks
with_power d done power size s = record s {
  power = with_at s.power d (power_after done power);
  size = with_at s.size d (size_after done size);
}

-- the disks after a call
unfoldable pub step : Call → Disks → Disks
step (Read d p done) s = with_power d done (s.power d) (s.size d) s
step (Write d p b done) s = record (with_power d done (s.power d) (s.size d) s) {
  block = with_at s.block d (with_at (s.block d) p b);
  loose = with_at s.loose d (with_at (s.loose d) p true);
}
step (Sync d done) s = record (with_power d done (s.power d) (s.size d) s) {
  loose = with_at s.loose d (loose_after done (s.loose d));
}
step (Park d done) s = with_power d done Parked (s.size d) s
step (SpinUp d done) s = with_power d done Spinning (s.size d) s
step (Attach d size done) s = record (with_power d done Spinning size s) {
  block = with_at s.block d (after_attach done (s.block d));
  loose = with_at s.loose d (loose_after done (s.loose d));
}

-- What a stop at this moment may leave: any bytes in a loose block, all else as it is.
pub record IsImage (s i : Disks) : Type 0 where
  pub power : (d : ℕ) → i.power d ≡ s.power d
  pub size : (d : ℕ) → i.size d ≡ s.size d
  pub block : (d p : ℕ) → s.loose d p ≡ false → i.block d p ≡ s.block d p
  pub loose : (d p : ℕ) → i.loose d p ≡ false

-- the disks with one slot lost
abbrev pub lose : ℕ → Disks → Disks
lose d s = record s { power = with_at s.power d Absent; size = with_at s.size d 0 }
