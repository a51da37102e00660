-- Which images hold a history.
use Rattle.std.specs.Prelude.{◌≡◌, ◌≢◌, ℕ, ◌+◌, ◌-◌, ◌*◌, ◌<◌, ◌≤◌, Bool, true, false, nat_lt, Option, Some, None, Contains, slice_index, if◌then◌else◌}
use Rattle.paraid_base.specs.declared.block.Block.{Block}
use Rattle.paraid_base.specs.declared.state.Out.TheVariants.{Fresh}
use Rattle.paraid_base.specs.declared.state.Phase.TheVariants.{Up}
use Rattle.paraid_base.specs.History.{History, after}
use Rattle.paraid_base.specs.Log.{map_block_place}
use Rattle.paraid_base.specs.Regions.{disk_size, hard_place_of, map_count, array_blocks}
use Rattle.paraid_base.specs.Skips.{skip}
use Rattle.paraid_base.specs.Soft.{soft_disk, soft_parity_disk, soft_stripe, stripe_count}
use Rattle.paraid_base.specs.Sums.{xor_upto}
use Rattle.paraid_base.specs.Xor.{zero_block}
use Rattle.paraid_layout.specs.Pads.{IsPad}
use Rattle.paraid_rack.specs.declared.call.Power.{Power}
use Rattle.paraid_rack.specs.declared.call.Power.TheVariants.{Spinning, Parked}
use Rattle.paraid_rack.specs.Disks.{Disks, IsPresent, is_present}
use Rattle.paraid_record.specs.declared.meta.Meta.{Meta}
use Rattle.paraid_record.specs.declared.targets.Target.{Target}
use Rattle.paraid_record.specs.Codes.{phase_to}
use Rattle.paraid_image.specs.Content.{blocks_of, view_of}
use Rattle.paraid_image.specs.Out.{IsAtMostOneMissing, named_out, out_disk}
use Rattle.paraid_image.specs.Sides.{LogState, Says, is_open, stored_block, targets}
use Rattle.paraid_image.specs.Spot.{View}
use Rattle.paraid_image.specs.Standing.{Stands, other_log}
use Rattle.paraid_image.specs.Value.{stripe, stripe_rest, value}

-- `a` is an open log whose batch is on its way, and `b` a closed one of the commit before it
pub record IsAhead (a b : LogState) : Type 0 where
  pub opened : a.opened ≡ true
  pub closed : b.opened ≡ false
  pub epoch : a.meta.epoch ≡ b.meta.epoch + 1
  pub setup : a.meta.setup ≡ b.meta.setup
  pub out : (d e : ℕ) → named_out a.meta.out ≡ Some d → named_out b.meta.out ≡ Some e → d ≡ e

-- `a` is an open log whose batch has been laid in place, and `b` is closed over its meta
pub record IsBatchInPlace (a b : LogState) : Type 0 where
  pub opened : a.opened ≡ true
  pub closed : b.opened ≡ false
  pub meta : a.meta ≡ b.meta

-- how what two log disks say fits together: they say the same, or one is a step ahead
pub data Pairing (a b : LogState) : Type 0 where
  alike : a ≡ b → Pairing a b
  first_ahead : IsAhead a b → Pairing a b
  second_ahead : IsAhead b a → Pairing a b
  first_done : IsBatchInPlace a b → Pairing a b
  second_done : IsBatchInPlace b a → Pairing a b

-- disk `d` is there, and so many of its units are rebuilt
pub record IsFresh (power : ℕ → Power) (m : Meta) (d rebuilt : ℕ) : Type 0 where
  pub is : m.out ≡ Fresh d rebuilt
  pub present : is_present (power d) ≡ true

-- What is asked of the log: the log disk `x` stands, and says that `k` writes are held.
pub record LogOk (i : Disks) (x : ℕ) (said : LogState) (k : ℕ) : Type 0 where
  pub stands : Stands i x said
  pub writes : said.meta.writes ≡ k
  pub single : IsAtMostOneMissing i.power said.meta
  pub standing_in : named_out said.meta.out ≢ Some x
  -- a log disk that is being rebuilt says nothing of a batch
  pub fresh_closed : (d rebuilt : ℕ) → IsFresh i.power said.meta d rebuilt → d < 2
      → is_open (stored_block i d 0) ≡ false
  pub targets_spin : (t : Target) → Contains (targets said.batch) t
      → out_disk i.power said.meta ≢ Some t.disk → i.power t.disk ≡ Spinning
  pub formed : (y : ℕ) → y < 2 → IsPresent i y → out_disk i.power said.meta ≢ Some y
      → (other : LogState) × Says i y other
  pub paired : (a b : LogState) → Says i 0 a → Says i 1 b → out_disk i.power said.meta ≢ Some 0
      → out_disk i.power said.meta ≢ Some 1 → Pairing a b

-- the values of each row sum to zero
abbrev pub AreRowsZero : View → Type 0
AreRowsZero v = (r : ℕ)
    → r < v.meta.setup.geometry.rows → xor_upto (value v r) v.meta.setup.geometry.disks ≡ zero_block

-- a stripe sums to zero as it is stored
abbrev pub IsStripeZero : View → ℕ → ℕ → Type 0
IsStripeZero v a s = xor_upto (stripe v.meta.setup.geometry v.block a s) a ≡ zero_block

-- no block of a stripe of the region of gear `a` is on the out disk
abbrev pub IsOffStripes : Option ℕ → ℕ → Type 0
IsOffStripes out a = (d : ℕ) → out ≡ Some d → a ≤ d

-- each stripe of the region of the gear sums to zero, unless one of its blocks is on the out disk
abbrev pub AreStripesZero : View → Type 0
AreStripesZero v = IsOffStripes v.out v.meta.gear
    → (s : ℕ) → s < stripe_count v.meta.setup.geometry.disks v.meta.setup.geometry.rows v.meta.gear
    → IsStripeZero v v.meta.gear s

-- stripe `s` of the region of gear `a` is filled: it stores the values of its cells and zeros in
-- its pads, and sums to zero
pub record IsFilled (v : View) (a s : ℕ) : Type 0 where
  pub cells : (r d : ℕ) → r < v.meta.setup.geometry.rows
      → a ≤ d → d < v.meta.setup.geometry.disks → soft_stripe v.meta.setup.geometry.disks a r d ≡ s
      → stripe v.meta.setup.geometry v.block a s (soft_disk v.meta.setup.geometry.disks a r d)
      ≡ value v r d
  pub pads : (at : ℕ)
      → at < a - 1 → IsPad v.meta.setup.geometry.disks v.meta.setup.geometry.rows a s at
      → stripe v.meta.setup.geometry v.block a s (skip (soft_parity_disk a s) at) ≡ zero_block
  pub zero : IsStripeZero v a s

-- while no disk is out, the stripes of the new gear below the fill mark are filled
abbrev pub AreFilled : View → Type 0
AreFilled v = v.out ≡ None → (s : ℕ) → s < v.meta.fill → IsFilled v (phase_to v.meta.phase) s

-- a clean cell of a disk from the gear on, which is not out, has its value in its hard place too
abbrev pub AreCleanStored : View → Type 0
AreCleanStored v = (r d : ℕ) → r < v.meta.setup.geometry.rows
    → v.meta.gear ≤ d → d < v.meta.setup.geometry.disks → v.out ≢ Some d
    → v.dirty r d ≡ false → v.block d (hard_place_of v.meta.setup.geometry r) ≡ value v r d

-- the number of stripes that a disk below the gear has to get back
abbrev pub stripes_on : View → ℕ → ℕ
stripes_on v d = if nat_lt d v.meta.gear
    then stripe_count v.meta.setup.geometry.disks v.meta.setup.geometry.rows v.meta.gear else 0

-- The first units of a disk store what they should: first the rows, then the stripes, then the
-- blocks of the dirty map. A dirty cell of a parked disk is stored nowhere but in its copy.
pub record AreRebuilt (v : View) (d rebuilt : ℕ) : Type 0 where
  pub rows : (r : ℕ) → r < v.meta.setup.geometry.rows → r < rebuilt
      → (v.meta.gear ≤ d → v.dirty r d ≡ false)
      → v.block d (hard_place_of v.meta.setup.geometry r) ≡ value v r d
  pub stripes : (s : ℕ) → s < stripes_on v d → v.meta.setup.geometry.rows + s < rebuilt
      → stripe v.meta.setup.geometry v.block v.meta.gear s d
      ≡ stripe_rest v.meta.setup.geometry v.block v.meta.gear s d
  pub map_blocks : (j : ℕ) → d < 2 → j < map_count v.meta.setup.geometry
      → v.meta.setup.geometry.rows + stripes_on v d + j < rebuilt
      → v.block d (map_block_place v.meta.setup.geometry j)
      ≡ v.block (other_log d) (map_block_place v.meta.setup.geometry j)

-- the two maps agree, and a dirty cell is a cell of a disk from the gear on
pub record IsMap (v : View) (bit : ℕ → ℕ → Bool) : Type 0 where
  pub mirrored : (j : ℕ) → j < map_count v.meta.setup.geometry
      → v.out ≢ Some 0 → v.out ≢ Some 1 → v.block 0 (map_block_place v.meta.setup.geometry j)
      ≡ v.block 1 (map_block_place v.meta.setup.geometry j)
  pub rows : (r d : ℕ)
      → r < 512 * map_count v.meta.setup.geometry → bit r d ≡ true → r < v.meta.setup.geometry.rows
  pub parked : (r d : ℕ)
      → r < 512 * map_count v.meta.setup.geometry → bit r d ≡ true → v.meta.gear ≤ d
  pub disks : (r d : ℕ)
      → r < 512 * map_count v.meta.setup.geometry → bit r d ≡ true → d < v.meta.setup.geometry.disks

-- What is asked of the disks themselves: of `slots` slots, with these powers and sizes.
pub record AreDisks
    (slots : ℕ) (power : ℕ → Power) (size : ℕ → ℕ) (m : Meta) (out : Option ℕ) : Type 0 where
  pub enough : m.setup.geometry.disks ≤ slots
  pub log_disks : (d : ℕ) → d < 2 → power d ≢ Parked
  pub large : (d : ℕ) → d < m.setup.geometry.disks → is_present (power d) ≡ true → out ≢ Some d
      → disk_size m.setup.geometry ≤ size d
  pub fresh_large : (d rebuilt : ℕ)
      → IsFresh power m d rebuilt → disk_size m.setup.geometry ≤ size d
  pub below_gear : (d : ℕ) → d < m.gear → out ≢ Some d → power d ≡ Spinning
  pub fresh_spins : (d rebuilt : ℕ) → IsFresh power m d rebuilt → power d ≡ Spinning
  -- a disk that a shift up has not yet spun up has its spin-up recorded
  pub recorded : (to d : ℕ) → m.phase ≡ Up to
      → m.gear ≤ d → d < to → power d ≡ Parked → out ≢ Some d → 1 ≤ slice_index m.spins d

-- What is asked of the blocks past the log, and of the disks, whatever history they hold.
pub record IsWellKept (slots : ℕ) (power : ℕ → Power) (size : ℕ → ℕ) (v : View) : Type 0 where
  pub rows : AreRowsZero v
  pub stripes : AreStripesZero v
  pub filled : AreFilled v
  pub clean : AreCleanStored v
  pub rebuilt : (d rebuilt : ℕ) → IsFresh power v.meta d rebuilt → AreRebuilt v d rebuilt
  pub map : IsMap v v.dirty
  pub disks : AreDisks slots power size v.meta v.out

-- the blocks that are stood for are these
abbrev pub AreBlocks : View → (ℕ → Block) → Type 0
AreBlocks v held = (b : ℕ)
    → b < array_blocks v.meta.setup.geometry → blocks_of v b ≡ held b

-- The disks and the blocks past the log are kept well, and stand for what the first `k` writes of
-- `h` leave.
pub record ContentOk
    (slots : ℕ) (power : ℕ → Power) (size : ℕ → ℕ) (v : View) (h : History) (k : ℕ) : Type 0 where
  pub kept : IsWellKept slots power size v
  pub blocks : AreBlocks v (after h k)

-- Place `x` of disk 2 bears witness against log disk `x`: it is open only where `x` is out.
abbrev pub AreWitnessesTrue : Disks → Option ℕ → Type 0
AreWitnessesTrue i out = (x : ℕ) → x < 2 → is_open (stored_block i 2 x) ≡ true → out ≡ Some x

-- An image of `slots` slots holds the first `k` writes of `h`.
pub record IsSoundAt (slots : ℕ) (i : Disks) (h : History) (k : ℕ) : Type 0 where
  pub disk : ℕ
  pub said : LogState
  pub log : LogOk i disk said k
  pub content : ContentOk slots i.power i.size (view_of i said) h k
  pub witnesses : AreWitnessesTrue i (out_disk i.power said.meta)
