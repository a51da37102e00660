-- Lists of targets and their bytes
use Rattle.std.specs.Prelude.{◌≡◌, ◌≢◌, ℕ, ◌+◌, ◌-◌, ◌<◌, ◌≤◌, ◌^◌, List, [], ◌∷◌, ◌++◌, length, take, replicate, All, AllPairs}
use Rattle.paraid_base.specs.declared.geometry.Geometry.{Geometry}
use Rattle.paraid_record.specs.declared.targets.Target.{Target}
use Rattle.paraid_record.specs.declared.targets.Targets.{Targets}
use Rattle.paraid_base.specs.Log.{batch_room, map_start}
use Rattle.paraid_base.specs.Regions.{disk_size, map_count}
use Rattle.paraid_record.specs.Spelling.{big_endian, zero_filled}

-- the list that `t` stands for
abbrev pub targets_of : Targets → List Target
targets_of t = take t.count t.list

-- the disks and places, one target after the other
abbrev pub places_bytes : List Target → List ℕ
places_bytes [] = []
places_bytes (t ∷ ts) = big_endian 1 t.disk ++ (big_endian 4 t.place ++ places_bytes ts)

-- the whole block: the count, the targets, and then zeros
unfoldable pub targets_bytes : List Target → List ℕ
targets_bytes ts = zero_filled 512 (big_endian 2 (length ts) ++ places_bytes ts)

-- a place past the log, on a disk of the array, and only on disk 0 or 1 where it is of the dirty
-- map
pub record IsTargetInRange (g : Geometry) (t : Target) : Type 0 where
  pub disk : t.disk < g.disks
  pub past_log : map_start g ≤ t.place
  pub within : t.place < disk_size g
  pub map : t.place < map_start g + map_count g → t.disk < 2

-- at most 96 targets in range, none of them twice
pub record AreTargets (g : Geometry) (ts : List Target) : Type 0 where
  pub few : length ts ≤ batch_room
  pub each : All (IsTargetInRange g) ts
  pub distinct : AllPairs (λ a b. a ≢ b) ts

-- what stands in a list past its targets
abbrev pub no_target : Target
no_target = record { disk = 0; place = 0 }

-- the list has room for 96 targets, and those past the count are disk 0, place 0
pub record AreRestUnused (t : Targets) : Type 0 where
  pub count : t.count ≤ batch_room
  pub list : t.list ≡ targets_of t ++ replicate (batch_room - t.count) no_target

-- the disk fits one byte, and the place four
abbrev pub FitsBytes : Target → Type 0
FitsBytes t = (t.disk < 256) × (t.place < 2 ^ 32)
