-- What a check counts of an image.
use Rattle.std.specs.Prelude.{◌≡◌, ◌≢◌, ℕ, ◌+◌, ◌-◌, ◌<◌, ◌≤◌, ◌⊎◌, min, nat_le, Bool, true, false, if◌then◌else◌, Option, Some, None, Result, Ok, Err}
use Rattle.paraid_base.specs.declared.event.Answer.{Answer}
use Rattle.paraid_base.specs.declared.event.Answer.TheVariants.{Flushed, Halted}
use Rattle.paraid_base.specs.declared.fault.Halt.{Halt}
use Rattle.paraid_base.specs.Log.{map_block_place}
use Rattle.paraid_base.specs.Regions.{hard_place_of, map_count}
use Rattle.paraid_base.specs.Soft.{soft_disk, soft_stripe, stripe_count}
use Rattle.paraid_base.specs.Sums.{xor_upto}
use Rattle.paraid_base.specs.Told.{HasRisen}
use Rattle.paraid_base.specs.Xor.{zero_block}
use Rattle.paraid_rack.specs.Slots.{Slot}
use Rattle.paraid_record.specs.declared.meta.Meta.{Meta}
use Rattle.paraid_base.specs.States.{rebuilt_count}
use Rattle.paraid_record.specs.Codes.{phase_to}
use Rattle.paraid_image.specs.Out.{named_out}
use Rattle.paraid_image.specs.Sound.{IsStripeZero, stripes_on}
use Rattle.paraid_image.specs.Spot.{View}
use Rattle.paraid_image.specs.Standing.{other_log}
use Rattle.paraid_image.specs.Value.{stripe, stripe_rest, value}
use Rattle.paraid_txn.specs.Losses.{IsGoneSince}
use Rattle.paraid_scrub.specs.declared.kind.CheckReport.{CheckReport}
use Rattle.paraid_scrub.specs.declared.kind.Kind.{Kind}
use Rattle.paraid_scrub.specs.declared.kind.Kind.TheVariants.{Row, Stripe, Fill, Unit as RebuiltUnit, Mirror}

-- Just so many of the numbers below another one have P.
pub data CountBelow (P : ℕ → Type 0) : ℕ → ℕ → Type 0 where
  none : CountBelow P 0 0
  one : (n k : ℕ) → P n → CountBelow P n k → CountBelow P (n + 1) (k + 1)
  other : (n k : ℕ) → (P n → ⊥) → CountBelow P n k → CountBelow P (n + 1) k

-- stripe `s` of the region of gear `a` stores the values of its cells, and sums to zero
pub record IsFillRight (v : View) (a s : ℕ) : Type 0 where
  pub cells : (r d : ℕ) → r < v.meta.setup.geometry.rows
      → a ≤ d → d < v.meta.setup.geometry.disks → soft_stripe v.meta.setup.geometry.disks a r d ≡ s
      → stripe v.meta.setup.geometry v.block a s (soft_disk v.meta.setup.geometry.disks a r d)
      ≡ value v r d
  pub zero : IsStripeZero v a s

-- what disk `e` stores of such a stripe is the value of the cell whose copy it is, if it is one
abbrev pub IsCopyRight : View → ℕ → ℕ → ℕ → Type 0
IsCopyRight v a s e = (r d : ℕ) → r < v.meta.setup.geometry.rows
    → a ≤ d → d < v.meta.setup.geometry.disks → soft_stripe v.meta.setup.geometry.disks a r d ≡ s
    → soft_disk v.meta.setup.geometry.disks a r d ≡ e
    → stripe v.meta.setup.geometry v.block a s e ≡ value v r d

-- Unit `u` of disk `d` stores what the rest gives: a row, then a stripe, then a block of the map.
-- A dirty cell of a parked disk is stored nowhere but in its copy.
pub record IsUnitRight (v : View) (d u : ℕ) : Type 0 where
  pub row : u < v.meta.setup.geometry.rows → (v.meta.gear ≤ d → v.dirty u d ≡ false)
      → v.block d (hard_place_of v.meta.setup.geometry u) ≡ value v u d
  pub stripe_of : (s : ℕ) → s < stripes_on v d
      → u ≡ v.meta.setup.geometry.rows + s → stripe v.meta.setup.geometry v.block v.meta.gear s d
      ≡ stripe_rest v.meta.setup.geometry v.block v.meta.gear s d
  pub map_block : (j : ℕ) → d < 2
      → j < map_count v.meta.setup.geometry → u ≡ v.meta.setup.geometry.rows + stripes_on v d + j
      → v.block d (map_block_place v.meta.setup.geometry j)
      ≡ v.block (other_log d) (map_block_place v.meta.setup.geometry j)

-- the member `at` of a kind is false
abbrev pub IsOff : View → Kind → ℕ → Type 0
IsOff v Row r = xor_upto (value v r) v.meta.setup.geometry.disks ≢ zero_block
IsOff v Stripe s = IsStripeZero v v.meta.gear s → ⊥
IsOff v Fill s = IsFillRight v (phase_to v.meta.phase) s → ⊥
IsOff v RebuiltUnit u = ((d : ℕ) → v.out ≡ Some d → IsUnitRight v d u) → ⊥
IsOff v Mirror j = v.block 0 (map_block_place v.meta.setup.geometry j)
    ≢ v.block 1 (map_block_place v.meta.setup.geometry j)

-- a count, 0 while a disk is out
abbrev pub when_whole : Option ℕ → ℕ → ℕ
when_whole None n = n
when_whole (Some d) n = 0

-- no disk below `a` is out
abbrev pub is_whole_below : Option ℕ → ℕ → Bool
is_whole_below None a = true
is_whole_below (Some d) a = nat_le a d

-- How many members of a kind are looked at: the rows and the filled stripes while no disk is out;
-- the stripes of the gear where none of their blocks is on the out disk; the rebuilt units of the
-- out disk; and the map blocks while no log disk is out.
abbrev pub total : Meta → Option ℕ → Kind → ℕ
total m out Row = when_whole out m.setup.geometry.rows
total m out Stripe = if is_whole_below out m.gear
    then stripe_count m.setup.geometry.disks m.setup.geometry.rows m.gear else 0
total m out Fill = when_whole out m.fill
total m out RebuiltUnit = rebuilt_count m.out
total m out Mirror = if is_whole_below out 2 then map_count m.setup.geometry else 0

-- All members stand in one row, kind by kind. Of its first `seen` so many are of the kind that
-- begins after `from` others and has `size`.
abbrev pub part : ℕ → ℕ → ℕ → ℕ
part seen from size = min (seen - from) size

-- The counts over the first `seen` members of all rows, stripes, filled stripes, units and map
-- blocks, in this order.
pub record AreCounts (v : View) (seen : ℕ) (report : CheckReport) : Type 0 where
  pub rows : CountBelow (IsOff v Row) (part seen 0 (total v.meta v.out Row)) report.rows
  pub stripes : CountBelow (IsOff v Stripe)
      (part seen (total v.meta v.out Row) (total v.meta v.out Stripe)) report.stripes
  pub fill : CountBelow (IsOff v Fill) (part seen
      (total v.meta v.out Row + total v.meta v.out Stripe) (total v.meta v.out Fill)) report.fill
  pub units : CountBelow (IsOff v RebuiltUnit) (part seen (total v.meta v.out Row + total
      v.meta v.out Stripe + total v.meta v.out Fill) (total v.meta v.out RebuiltUnit)) report.units
  pub mirrors : CountBelow (IsOff v Mirror)
      (part seen (total v.meta v.out Row + total v.meta v.out Stripe + total v.meta v.out Fill
      + total v.meta v.out RebuiltUnit) (total v.meta v.out Mirror)) report.mirrors

-- the number of all of them
abbrev pub all_members : View → ℕ
all_members v = total v.meta v.out Row + total v.meta v.out Stripe
    + total v.meta v.out Fill + total v.meta v.out RebuiltUnit + total v.meta v.out Mirror

-- The counts of the first `seen` members of all that is looked at by this view. All were seen, or a
-- disk that was there has failed since, and is absent: then nothing says how many were, and it may
-- be none.
pub record CountsByView (v : View) (old new : ℕ → Slot) (report : CheckReport) : Type 0 where
  pub seen : ℕ
  pub counts : AreCounts v seen report
  pub all : (seen ≡ all_members v)
      ⊎ ((d : ℕ) × IsGoneSince old new d × HasRisen (old d).faults (new d).faults)

-- nothing is false
abbrev pub no_faults : CheckReport
no_faults = record { rows = 0; stripes = 0; fill = 0; units = 0; mirrors = 0 }

-- The counts of each kind are at most its members by this meta.
pub record AreWithinMembers (m : Meta) (report : CheckReport) : Type 0 where
  pub rows : report.rows ≤ total m (named_out m.out) Row
  pub stripes : report.stripes ≤ total m (named_out m.out) Stripe
  pub fill : report.fill ≤ total m (named_out m.out) Fill
  pub units : report.units ≤ total m (named_out m.out) RebuiltUnit
  pub mirrors : report.mirrors ≤ total m (named_out m.out) Mirror

-- A check is a flush of a session: the answer to that, with so many writes.
abbrev pub answer_to_check : ℕ → Result CheckReport Halt → Answer
answer_to_check writes (Ok report) = Flushed writes
answer_to_check writes (Err halt) = Halted halt
