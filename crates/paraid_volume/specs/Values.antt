-- What contracts see of volumes
use Rattle.std.specs.Prelude.{ℕ, ◌++◌, ◌∷◌, [], Option}
use Rattle.paraid_base.specs.declared.block.Block.{Block}
use Rattle.paraid_base.specs.declared.fault.Halt.{Halt}
use Rattle.paraid_base.specs.declared.event.Answer.TheVariants.{Value, Wrote}
use Rattle.paraid_base.specs.declared.event.Event.TheVariants.{Read, Write}
use Rattle.paraid_base.specs.BlockAnswers.{Answers}
use Rattle.paraid_base.specs.History.{History, after_all}
use Rattle.paraid_base.specs.Pairs.{single_pair}
use Rattle.paraid_volume.specs.declared.volumes.Volumes.{Volumes}
use Rattle.paraid_volume.specs.States.{IsPlace}
use Rattle.paraid_volume.specs.TableBlocks.{in_table}
use Rattle.paraid_volume.specs.Tables.{IsSameTable}

-- the device
abbrev pub device_of : {B : Type 0} {g : _} → Volumes B g → B
device_of v = v.blocks

-- the halt that its calls give from now on
abbrev pub halted_of : {B : Type 0} {g : _} → Volumes B g → Option Halt
halted_of v = v.halt

-- the six blocks of its table
abbrev pub volume_table : {B : Type 0} {g : _} → Volumes B g → ℕ → Block
volume_table v = in_table v.table

-- Its device stands for these writes, which left its table.
abbrev pub VolumesStandFor : {B : Type 0} {g : _}
    → (B → History → Type 0) → Volumes B g → History → Type 0
VolumesStandFor stands v h = stands v.blocks h × IsSameTable (in_table v.table) (after_all h)

-- What is kept are these events and the read of one block, where this block of a volume lies.
pub record KeepsRead (holds : Answers → Type 0)
    (events : Answers) (count : ℕ) (content : ℕ → Block) (id v : ℕ) (bytes : Block) : Type 0 where
  pub place : ℕ
  pub is : IsPlace count content id v place
  pub kept : holds (events ++ (Read place, Value place bytes) ∷ [])

-- What is kept are these events and the write of one block, where this block of a volume lies.
pub record KeepsWrite (holds : Answers → Type 0)
    (events : Answers) (count : ℕ) (content : ℕ → Block) (id v : ℕ) (bytes : Block) : Type 0 where
  pub place : ℕ
  pub is : IsPlace count content id v place
  pub number : ℕ
  pub kept : holds (events ++ (Write (single_pair place bytes), Wrote number) ∷ [])
