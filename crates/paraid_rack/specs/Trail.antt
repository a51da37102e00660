-- The record of a rack: how its disks were at the start, and the calls since then.
use Rattle.std.specs.Prelude.{ℕ, false, List, [], ◌∷◌, ◌++◌, length, take, get_or}
use Rattle.paraid_base.specs.declared.block.Block.{Block}
use Rattle.paraid_base.specs.Xor.{zero_block}
use Rattle.paraid_rack.specs.declared.call.Power.{Power}
use Rattle.paraid_rack.specs.declared.call.Power.TheVariants.{Absent}
use Rattle.paraid_rack.specs.declared.call.Call.{Call}
use Rattle.paraid_rack.specs.Disks.{Disks, step}

-- how a disk is at the start; none of its blocks is loose
pub record Beginning : Type 0 where
  pub power : Power
  pub blocks : List Block

-- the record of a rack: how its disks were at the start, and the calls since then
pub record Trail : Type 0 where
  pub start : List Beginning
  pub calls : List Call

-- how disk d is at the start; a slot that does not exist is absent
abbrev pub beginning : List Beginning → ℕ → Beginning
beginning start d = get_or start d (record { power = Absent; blocks = [] })

-- the disks at the start
unfoldable pub initial : List Beginning → Disks
initial start = record {
  power = λ d. (beginning start d).power;
  size = λ d. length (beginning start d).blocks;
  block = λ d p. get_or (beginning start d).blocks p zero_block;
  loose = λ d p. false;
}

-- the disks after these calls
abbrev pub run : Disks → List Call → Disks
run s [] = s
run s (c ∷ cs) = run (step c s) cs

-- the disks at moment m, which is before call m
abbrev pub disks : Trail → ℕ → Disks
disks t m = run (initial t.start) (take m t.calls)

-- the disks at the last moment
abbrev pub now : Trail → Disks
now t = run (initial t.start) t.calls

-- the number of the last moment
abbrev pub moments : Trail → ℕ
moments t = length t.calls

-- longer by these calls
abbrev pub extend : Trail → List Call → Trail
extend t cs = record { start = t.start; calls = t.calls ++ cs }
