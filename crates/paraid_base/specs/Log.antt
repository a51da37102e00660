-- Where the parts of a log disk's log lie, how many targets a batch may have, and where the log
-- ends
--
-- Place 0 is the gate, place 1 the meta, place 2 the meta of a batch. Then come its list of
-- targets, the blocks for them, and behind the log the dirty map. All logs are alike today: what
-- takes a geometry does so because a longer log would be an array's own. What takes none has none
-- at hand.
use Rattle.std.specs.Prelude.{ℕ, ◌+◌, ◌^◌}
use Rattle.paraid_base.specs.declared.geometry.Geometry.{Geometry}

-- how many lists of targets a log has, each with the room for its blocks
abbrev pub log_groups : Geometry → ℕ
log_groups g = 1

-- the most targets of a batch
abbrev pub batch_room : ℕ
batch_room = 96

-- the place of list `k` of a batch's targets
abbrev pub list_place : ℕ → ℕ
list_place k = 3 + k

-- the place of the block for target `k` of a batch
abbrev pub body_place : ℕ → ℕ
body_place k = 4 + k

-- the first place past the log, where the dirty map starts
abbrev pub map_start : Geometry → ℕ
map_start g = 100

-- a plan of writes changes at most so many bits of the dirty map
abbrev pub change_room : ℕ
change_room = 16

-- a commit has a lesser epoch; an array is worn long before
abbrev pub epoch_limit : ℕ
epoch_limit = 2 ^ 63

-- the last place of the log
abbrev pub log_last : ℕ
log_last = 99

-- the place of block `j` of the dirty map
abbrev pub map_block_place : Geometry → ℕ → ℕ
map_block_place g j = map_start g + j

-- a plan of writes has at most so many targets
abbrev pub draft_room : ℕ
draft_room = 80

-- no log is shorter: below it each disk has log, or nothing that is looked at
abbrev pub log_least : ℕ
log_least = 100

-- no log is longer
abbrev pub log_most : ℕ
log_most = 100

-- so many commits or writes, the greater of the two, and an array takes no more
abbrev pub worn_at : ℕ
worn_at = 2 ^ 62
