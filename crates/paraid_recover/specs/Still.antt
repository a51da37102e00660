-- A mount of an array that was left whole writes nothing.
use Rattle.std.specs.Prelude.{◌≡◌, ℕ, ◌<◌, true, false, Option, Some, None}
use Rattle.paraid_rack.specs.declared.call.Call.{Call}
use Rattle.paraid_rack.specs.declared.call.Call.TheVariants.{Read, Write, Sync, Park, SpinUp, Attach}
use Rattle.paraid_rack.specs.Disks.{Disks, IsPresent}
use Rattle.paraid_rack.specs.Told.{Ran}
use Rattle.paraid_rack.specs.Trail.{Trail}
use Rattle.paraid_record.specs.declared.meta.Meta.{Meta}
use Rattle.paraid_image.specs.Lost.{first_lost}
use Rattle.paraid_image.specs.Out.{named_out}
use Rattle.paraid_image.specs.Rest.{AreLogGatesClosed}
use Rattle.paraid_image.specs.Sides.{LogState, is_open, stored_block}
use Rattle.paraid_txn.specs.Uses.{EachCall}
use Rattle.paraid_recover.specs.RecoveryMark.{to_mark}

-- the call writes nothing: it reads, syncs, parks or spins up
abbrev pub WritesNothing : Call → Type 0
WritesNothing (Read d p done) = Unit {0}
WritesNothing (Write d p b done) = ⊥
WritesNothing (Sync d done) = Unit {0}
WritesNothing (Park d done) = Unit {0}
WritesNothing (SpinUp d done) = Unit {0}
WritesNothing (Attach d size done) = ⊥

-- By this meta a mount has nothing to bring up to date: it has version 2, no disk is to be marked,
-- and the witness against a log disk that it names out is open, if disk 2 is there.
pub record IsUpToDate (m : Meta) (s : Disks) : Type 0 where
  pub version_is : m.version ≡ 2
  pub unmarked : to_mark s.power m ≡ None
  pub borne : (x : ℕ) → x < 2 → named_out m.out ≡ Some x
      → IsPresent s 2 → is_open (stored_block s 2 x) ≡ true

-- The array was left whole by what the log disk that stands says: all gates are closed, and nothing
-- is to be brought up to date.
pub record IsLeftWhole (said : LogState) (s : Disks) : Type 0 where
  pub closed : said.opened ≡ false
  pub shut : AreLogGatesClosed s said.meta
  pub up_to_date : IsUpToDate said.meta s

-- where the disks are so as these calls begin, and none of them fails, they write nothing
abbrev pub StaysUnwritten : (Disks → Type 0) → Option Trail → Option Trail → Type 0
StaysUnwritten C old new = Ran old new (λ start calls.
    C start → first_lost calls ≡ None → EachCall WritesNothing start calls)
