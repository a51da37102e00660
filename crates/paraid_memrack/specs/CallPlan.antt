-- Which calls a plan names, and which calls are listed.
use Rattle.std.specs.Prelude.{ℕ, Bool, true, List, [], ◌∷◌, ◌++◌, length, nat_lt, count_by, ◌&&◌, ◌==◌, if◌then◌else◌}
use Rattle.std.specs.List.{list_any}
use Rattle.paraid_rack.specs.declared.call.Call.{Call}
use Rattle.paraid_rack.specs.declared.call.Call.TheVariants.{Read, Write, Sync, Park, SpinUp, Attach}
use Rattle.paraid_rack.specs.Calls.{disk_of}
use Rattle.paraid_memrack.specs.declared.plan.Planned.{Planned}
use Rattle.paraid_memrack.specs.declared.plan.Planned.TheVariants.{AtCall, OnDisk}

-- whether the disk is unsynced after this call failed, if it was so before
abbrev pub dirt_after : Call → Bool → Bool
dirt_after (Read d p done) was = was
dirt_after (Write d p b done) was = true
dirt_after (Sync d done) was = was
dirt_after (Park d done) was = was
dirt_after (SpinUp d done) was = was
dirt_after (Attach d size done) was = was

-- how many of these calls are on this disk
unfoldable pub count_on : ℕ → List Call → ℕ
count_on disk calls = count_by (λ c. disk_of c == disk) calls

-- whether this names the call number m, which is the call number k on its disk
abbrev pub names_call : ℕ → ℕ → ℕ → Planned → Bool
names_call m disk k (AtCall n) = n == m
names_call m disk k (OnDisk d n) = (d == disk) && (n == k)

-- whether one more call than these is listed, where at most so many are
abbrev pub has_room_for_call : ℕ → List Call → Bool
has_room_for_call most calls = nat_lt (length calls) most

-- the list after one more call
unfoldable pub listed_after : ℕ → List Call → Call → List Call
listed_after most calls c = if has_room_for_call most calls then calls ++ c ∷ [] else calls

-- whether the call after these is named by the plan, if it is on this disk; one that is not listed
-- has no number, and is not named
unfoldable pub is_planned : ℕ → List Planned → List Call → ℕ → Bool
is_planned most plan calls disk =
    has_room_for_call most calls && list_any
    (names_call (length calls) disk (count_on disk calls)) plan
