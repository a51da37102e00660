-- What is known of one block of a present disk. Of an absent disk each of these holds.
use Rattle.std.specs.Prelude.{◌≡◌, ℕ, false}
use Rattle.paraid_base.specs.declared.block.Block.{Block}
use Rattle.paraid_rack.specs.Disks.{Disks, IsPresent}

-- it is not loose and has Q, so each image has Q there
pub record IsSure (s : Disks) (d p : ℕ) (Q : Block → Type 0) : Type 0 where
  pub holds : IsPresent s d → (s.loose d p ≡ false) × Q (s.block d p)

-- a read gives what has Q, and it may be loose
pub record IsSeen (s : Disks) (d p : ℕ) (Q : Block → Type 0) : Type 0 where
  pub holds : IsPresent s d → Q (s.block d p)

-- what a stop may leave, with any slots lost
pub record IsLeftByStop (s i : Disks) : Type 0 where
  pub present : (d : ℕ) → IsPresent i d → IsPresent s d
  pub power : (d : ℕ) → IsPresent i d → i.power d ≡ s.power d
  pub size : (d : ℕ) → IsPresent i d → i.size d ≡ s.size d
  pub block : (d p : ℕ) → s.loose d p ≡ false → i.block d p ≡ s.block d p
