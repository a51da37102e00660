-- A mount bears witness against a log disk that was named out.
use Rattle.std.specs.Prelude.{◌≡◌, ◌≢◌, ℕ, ◌<◌, Bool, true, false, List, Option, Some, None, if◌then◌else◌}
use Rattle.paraid_base.specs.History.{History}
use Rattle.paraid_base.specs.Told.{HasRisen}
use Rattle.paraid_rack.specs.declared.call.Call.{Call}
use Rattle.paraid_rack.specs.declared.call.Call.TheVariants.{Read, Write, Sync, Park, SpinUp, Attach}
use Rattle.paraid_rack.specs.declared.rack.Rack.{Ghosts}
use Rattle.paraid_rack.specs.Atoms.{IsSeen, IsSure}
use Rattle.paraid_rack.specs.Disks.{Disks}
use Rattle.paraid_rack.specs.Slots.{Slot}
use Rattle.paraid_rack.specs.Told.{Ran}
use Rattle.paraid_rack.specs.Trail.{Trail, moments, now}
use Rattle.paraid_record.specs.declared.meta.Meta.{Meta}
use Rattle.paraid_image.specs.HeldAt.{IsHeld}
use Rattle.paraid_image.specs.Lost.{EndsByLoss}
use Rattle.paraid_image.specs.Out.{IsWeak}
use Rattle.paraid_image.specs.Sides.{LogState, is_open}
use Rattle.paraid_txn.specs.declared.store.Store.{Store}
use Rattle.paraid_txn.specs.Losses.{CanWrite, IsGoneSince, IsSyncedAt, IsWell, OnlyLosesSlots}
use Rattle.paraid_txn.specs.Commit.{gone_out}
use Rattle.paraid_txn.specs.Stores.{IsSameStore, store_rack}
use Rattle.paraid_txn.specs.Resume.{IsResumable}
use Rattle.paraid_txn.specs.Uses.{EachCall}
use Rattle.paraid_txn.specs.Witness.{EachLeavesPlace}
use Rattle.paraid_recover.specs.HeldMoments.{IsAbsentSince}

-- this is a log disk, and it is named
abbrev pub IsNamedLog : Option ℕ → ℕ → Type 0
IsNamedLog named x = (named ≡ Some x) × (x < 2)

-- a read or a write of the place of the witness against the log disk that is named, or a sync of
-- disk 2
abbrev pub BearsAgainst : Option ℕ → Call → Type 0
BearsAgainst named (Read d p done) = (d ≡ 2) × IsNamedLog named p
BearsAgainst named (Write d p b done) = (d ≡ 2) × IsNamedLog named p
BearsAgainst named (Sync d done) = (d ≡ 2) × (x : ℕ) × IsNamedLog named x
BearsAgainst named (Park d done) = ⊥
BearsAgainst named (SpinUp d done) = ⊥
BearsAgainst named (Attach d size done) = ⊥

-- Some of these calls were made. Where all were done no slot has changed its power or size; else
-- disk 2 has failed.
pub record IsOnBearer {R : Type 0}
    {l : _} (g : Ghosts R) (named : Option ℕ) (old new : Store R l) (done : Bool) : Type 0 where
  pub slots : g.slot_count (store_rack new) ≡ g.slot_count (store_rack old)
  pub same : IsSameStore old new
  pub others : (d : ℕ) → d ≢ 2 → g.slot (store_rack new) d ≡ g.slot (store_rack old) d
  pub powers : OnlyLosesSlots (g.slot (store_rack old)) (g.slot (store_rack new))
  pub well : done ≡ true → IsWell (g.slot (store_rack old) 2) (g.slot (store_rack new) 2)
  pub calls : Ran (g.told (store_rack old)) (g.told (store_rack new))
      (EachCall (BearsAgainst named))
  pub risen : done ≡ false
      → HasRisen (g.slot (store_rack old) 2).faults (g.slot (store_rack new) 2).faults
  pub gone : done ≡ false → IsGoneSince (g.slot (store_rack old)) (g.slot (store_rack new)) 2
  -- the last one is that which failed, if one did
  pub ends : Ran (g.told (store_rack old)) (g.told (store_rack new)) (λ s cs.
      EndsByLoss (if done then None else Some 2) cs)
  -- none, where no log disk is named
  pub still : ((x : ℕ) → IsNamedLog named x → ⊥) → g.told (store_rack new) ≡ g.told (store_rack old)

-- the place of the witness against the log disk that is named is not written by these calls, where
-- it is open as they begin
abbrev pub LeavesOpen : Option ℕ → Disks → List Call → Type 0
LeavesOpen named s cs =
    (x : ℕ) → IsNamedLog named x → is_open (s.block 2 x) ≡ true → EachLeavesPlace 2 x cs

-- A witness against the log disk that a meta of version 2 says is gone is not borne again: its
-- place is not written by the calls between these records, where it is open as they begin.
abbrev pub BearsOnce : Meta → Option Trail → Option Trail → Type 0
BearsOnce m old new = m.version ≡ 2 → Ran old new (LeavesOpen (gone_out m.out))

-- Witness is borne then: it is seen, and what was synced is so. One that is borne is not borne
-- again.
pub record HasBorne {R : Type 0}
    {l : _} (g : Ghosts R) (named : Option ℕ) (old new : Store R l) (done : Bool) : Type 0 where
  pub part : IsOnBearer g named old new done
  pub synced : done ≡ true
      → (g.slot (store_rack old) 2).unsynced ≡ false → (g.slot (store_rack new) 2).unsynced ≡ false
  pub borne : done ≡ true → (x : ℕ) → IsNamedLog named x
      → (t : Trail) → g.told (store_rack new) ≡ Some t → IsSeen (now t) 2 x (λ b. is_open b ≡ true)
  pub kept : Ran (g.told (store_rack old)) (g.told (store_rack new)) (LeavesOpen named)

-- disk 2 can be written where the witnesses are, unless it is absent; and it is synced
pub record CanBear (slot : ℕ → Slot) : Type 0 where
  pub can : CanWrite slot 2 1
  pub synced : IsSyncedAt slot 2

-- the log disk that is named after, and was not before
abbrev pub IsNewlyNamed : Option ℕ → Option ℕ → ℕ → Type 0
IsNewlyNamed before after x = IsNamedLog after x × (before ≢ Some x)

-- From disks with nothing loose on which a commit was interrupted, and that held a history, where
-- one disk at most is absent or was weak: witness is borne at the end against each log disk of
-- which `N` holds.
abbrev pub EndsBorne : (ℕ → Type 0) → ℕ → ℕ → LogState → Option Trail → Option Trail → Type 0
EndsBorne N slots x said old new = (t : Trail)
    → new ≡ Some t → (s : Trail) × (old ≡ Some s) × ((h : History) (lo : ℕ) (was down : Option ℕ)
    → IsResumable (now s) x said → IsHeld slots (now s) h lo was
    → IsAbsentSince said.meta.setup.geometry.disks t (moments s) (moments t) down
    → ((w : ℕ) → IsWeak (now s) w → down ≡ Some w)
    → (y : ℕ) → N y → IsSure (now t) 2 y (λ b. is_open b ≡ true))
