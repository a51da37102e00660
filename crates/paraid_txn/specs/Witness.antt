-- What a commit does with the witnesses on disk 2: at most one is set before its five steps, and at
-- most one after them.
use Rattle.std.specs.Prelude.{◌≡◌, ◌≢◌, ℕ, ◌<◌, ◌≤◌, ◌⊎◌, Bool, true, false, List, [], ◌∷◌, Option, Some, None}
use Rattle.paraid_base.specs.declared.block.Block.{Block}
use Rattle.paraid_rack.specs.declared.call.Call.{Call}
use Rattle.paraid_rack.specs.declared.call.Call.TheVariants.{Read, Write, Sync, Park, SpinUp, Attach}
use Rattle.paraid_rack.specs.declared.call.Power.TheVariants.{Spinning}
use Rattle.paraid_rack.specs.Disks.{Disks, is_present}
use Rattle.paraid_rack.specs.Slots.{Slot}
use Rattle.paraid_rack.specs.Told.{CrashTriple, Ran}
use Rattle.paraid_rack.specs.Trail.{Trail}
use Rattle.paraid_record.specs.declared.meta.Meta.{Meta}
use Rattle.paraid_image.specs.Out.{IsMissing, named_out, or_else}
use Rattle.paraid_image.specs.Sides.{is_open}
use Rattle.paraid_txn.specs.Borne.{IsWitnessBorne}
use Rattle.paraid_txn.specs.Commit.{gone_out}
use Rattle.paraid_txn.specs.declared.bearing.Witness.{Witness}

-- the place of the witness against log disk `x` is written so, and disk 2 is synced; it may have
-- failed in either
pub data SetsWitness (x : ℕ) (opened : Bool) (cs : List Call) : Type 0 where
  refused : (b : Block) → is_open b ≡ opened → cs ≡ Write 2 x b false ∷ [] → SetsWitness x opened cs
  ended : (b : Block) (done : Bool)
      → is_open b ≡ opened → cs ≡ Write 2 x b true ∷ Sync 2 done ∷ [] → SetsWitness x opened cs

-- the place cannot be written: disk 2 is skipped, does not spin, or is too small
pub data CannotSet (slot : ℕ → Slot) (skip : Option ℕ) (place : ℕ) : Type 0 where
  is_skipped : skip ≡ Some 2 → CannotSet slot skip place
  not_spinning : (slot 2).power ≢ Spinning → CannotSet slot skip place
  too_small : (slot 2).size ≤ place → CannotSet slot skip place

-- the witness is set, or its place cannot be written
pub data MaySetWitness
    (slot : ℕ → Slot) (skip : Option ℕ) (x : ℕ) (opened : Bool) (cs : List Call) : Type 0 where
  cannot : CannotSet slot skip x → cs ≡ [] → MaySetWitness slot skip x opened cs
  sets : SetsWitness x opened cs → MaySetWitness slot skip x opened cs

-- a witness, if one is to be set, is set or its place cannot be written; else there is no call
abbrev pub MaySetAny : (ℕ → Slot) → Option ℕ → Option Witness → List Call → Type 0
MaySetAny slot skip None cs = cs ≡ []
MaySetAny slot skip (Some w) cs = MaySetWitness slot skip w.disk w.opened cs

-- no log disk comes in again
abbrev pub NoneJoins : Option ℕ → Option ℕ → Type 0
NoneJoins was now = (x : ℕ) → x < 2 → was ≡ Some x → now ≡ Some x

-- this is no log disk
abbrev pub IsNoLog : Option ℕ → Type 0
IsNoLog o = (x : ℕ) → x < 2 → o ≢ Some x

-- What is to be set before the steps: the witness against a log disk that comes in again is taken
-- back; or, if none is borne, one is borne against a log disk that is absent.
abbrev pub IsFirstWitness : Option ℕ → Option ℕ → Option ℕ → Option ℕ → Option Witness → Type 0
IsFirstWitness absent was now borne None = NoneJoins was now × (borne ≡ None → IsNoLog absent)
IsFirstWitness absent was now borne (Some w) =
    ((w.opened ≡ false) × (was ≡ Some w.disk) × (now ≢ Some w.disk))
    ⊎ ((w.opened ≡ true) × NoneJoins was now × (borne ≡ None) × (absent ≡ Some w.disk))

-- What is to be set after them: one is borne against a log disk that was lost in them; or, if none
-- was lost, against one that is named out; unless it is borne against that disk.
abbrev pub IsLastWitness : Option ℕ → Option ℕ → Option ℕ → Option Witness → Type 0
IsLastWitness lost now borne None = (x : ℕ) → x < 2 → or_else lost now ≡ Some x → borne ≡ Some x
IsLastWitness lost now borne (Some w) =
    (w.opened ≡ true) × (or_else lost now ≡ Some w.disk) × (borne ≢ Some w.disk)

-- What is set before the steps by the meta given, where the last one named disk `was` out: none is
-- borne where one is known to be.
pub data SetsBefore (m : Meta) (was borne : Option ℕ) (s : Disks) (cs : List Call) : Type 0 where
  closes : (x : ℕ) → x < 2 → was ≡ Some x
      → named_out m.out ≢ Some x → SetsWitness x false cs → SetsBefore m was borne s cs
  cannot_close : (x : ℕ) → x < 2 → was ≡ Some x
      → named_out m.out ≢ Some x → (is_present (s.power 2) ≡ false) ⊎ (gone_out m.out ≡ Some 2)
      → cs ≡ [] → SetsBefore m was borne s cs
  bears : (p : ℕ) → p < 2 → borne ≡ None → is_present (s.power p) ≡ false
      → NoneJoins was (named_out m.out) → SetsWitness p true cs → SetsBefore m was borne s cs
  none : NoneJoins was (named_out m.out) → cs ≡ [] → SetsBefore m was borne s cs

-- What is set after them: none, or one is borne against a log disk that is out by this meta, and
-- against which it is not known to be borne.
pub data SetsAfter (m : Meta) (borne : Option ℕ) (s : Disks) (cs : List Call) : Type 0 where
  bears : (p : ℕ) → p < 2
      → borne ≢ Some p → IsMissing s.power m p → SetsWitness p true cs → SetsAfter m borne s cs
  none : cs ≡ [] → SetsAfter m borne s cs

-- Disk 2, if it is there, can be written at the places of the witnesses by a commit of this meta;
-- and witness is borne there against this disk, if it is a log disk.
pub record IsBorne (m : Meta) (against : Option ℕ) (s : Disks) : Type 0 where
  pub gone : gone_out m.out ≢ Some 2
  pub spins : is_present (s.power 2) ≡ true → s.power 2 ≡ Spinning
  pub within : is_present (s.power 2) ≡ true → 1 < s.size 2
  pub borne : IsWitnessBorne against s

-- If disk 2 and the witness against `from` are so (`IsBorne`) where the calls begin, they are so
-- with `to` where they end. Nothing is said of the moments between.
abbrev pub KeepsBorne : Option Trail → Option Trail → Meta → Option ℕ → Option ℕ → Type 0
KeepsBorne old new m from to =
    Ran old new (CrashTriple (λ s. Unit {0}) (IsBorne m from) (IsBorne m to))

-- where a disk was lost and the meta names one out, they are the same
abbrev pub IsNoSecond : Option ℕ → Meta → Type 0
IsNoSecond lost m = (d e : ℕ) → lost ≡ Some d → named_out m.out ≡ Some e → e ≡ d

-- At the end witness is borne against the disk that was lost, or else the one that the meta names
-- out.
abbrev pub BearsAtEnd : Option Trail → Option Trail → Meta → Option ℕ → Option ℕ → Type 0
BearsAtEnd old new m from lost = IsNoSecond lost m
    → KeepsBorne old new m from (or_else lost (named_out m.out))

-- if this disk is a log disk, and disk 2 spins and is large enough, the store knows that the
-- witness against it is borne
abbrev pub IsKnown : (ℕ → Slot) → Option ℕ → Option ℕ → Type 0
IsKnown slot out borne = (x : ℕ)
    → x < 2 → out ≡ Some x → (slot 2).power ≡ Spinning → 1 < (slot 2).size → borne ≡ Some x

-- this call does not write this place
abbrev pub LeavesPlace : ℕ → ℕ → Call → Type 0
LeavesPlace d p (Read e q done) = Unit {0}
LeavesPlace d p (Write e q b done) = d ≡ e → p ≢ q
LeavesPlace d p (Sync e done) = Unit {0}
LeavesPlace d p (Park e done) = Unit {0}
LeavesPlace d p (SpinUp e done) = Unit {0}
LeavesPlace d p (Attach e size done) = d ≢ e

-- none of these calls does
abbrev pub EachLeavesPlace : ℕ → ℕ → List Call → Type 0
EachLeavesPlace d p [] = Unit {0}
EachLeavesPlace d p (c ∷ cs) = LeavesPlace d p c × EachLeavesPlace d p cs
