-- The metas that a shift and a rebuild bring.
use Rattle.std.specs.Prelude.{◌≡◌, ℕ, ◌-◌, ◌*◌, ◌<◌, ◌≤◌, ◌==◌, nat_lt, Bool, true, List, Option, if◌then◌else◌}
use Rattle.paraid_base.specs.declared.block.Block.{Block}
use Rattle.paraid_base.specs.declared.state.Out.{Out}
use Rattle.paraid_base.specs.declared.state.Phase.{Phase}
use Rattle.paraid_base.specs.declared.state.Phase.TheVariants.{Steady}
use Rattle.paraid_base.specs.History.{History}
use Rattle.paraid_base.specs.Regions.{hard_place_of}
use Rattle.paraid_base.specs.Soft.{disk_of_number, number_at, row_of_number, soft_parity_disk}
use Rattle.paraid_base.specs.Sums.{without, xor_upto}
use Rattle.paraid_base.specs.Xor.{zero_block}
use Rattle.paraid_base.specs.Skips.{index_among}
use Rattle.paraid_rack.specs.declared.call.Power.{Power}
use Rattle.paraid_record.specs.declared.meta.Meta.{Meta}
use Rattle.paraid_record.specs.Codes.{phase_to}
use Rattle.paraid_image.specs.Content.{view_by}
use Rattle.paraid_image.specs.Sound.{ContentOk, IsFilled}
use Rattle.paraid_image.specs.Standing.{Contents}
use Rattle.paraid_image.specs.Spot.{View, map_bit, map_disk}
use Rattle.paraid_image.specs.Value.{value}

-- the view of these blocks under this meta with this disk out
abbrev pub view_with_out : Meta → Option ℕ → Contents → View
view_with_out m o f =
    record { meta = m; dirty = map_bit m.setup.geometry (f (map_disk o)); out = o; block = f }

-- a shift begins, with these spin-ups recorded
abbrev pub meta_after_begin : Meta → Phase → List ℕ → Meta
meta_after_begin m phase spins = record m { phase = phase; fill = 0; spins = spins }

-- the shift to gear `to` has ended
abbrev pub meta_flipped_to : Meta → ℕ → Meta
meta_flipped_to m to = record m { gear = to; phase = Steady; fill = 0 }

-- so many stripes of the new gear are filled
abbrev pub filled_to : Meta → ℕ → Meta
filled_to m fill = record m { fill = fill }

-- this disk is out, or none
abbrev pub meta_with_out : Meta → Out → Meta
meta_with_out m out = record m { out = out }

-- the stripes of the new gear from the fill mark to `end` are copied
abbrev pub AreStripesCopied : View → ℕ → Type 0
AreStripesCopied v end = (s : ℕ) → v.meta.fill ≤ s → s < end → IsFilled v (phase_to v.meta.phase) s

-- of these cells those that are dirty store their values in their hard places
abbrev pub AreCellsCopied : View → (ℕ → ℕ → Bool) → Type 0
AreCellsCopied v cells = (r d : ℕ)
    → r < v.meta.setup.geometry.rows → d < v.meta.setup.geometry.disks → v.dirty r d ≡ true
    → cells r d ≡ true → v.block d (hard_place_of v.meta.setup.geometry r) ≡ value v r d

-- what index `i` of stripe `s` of the region of gear `a` copies: the value of its cell, zeros for a
-- pad
unfoldable pub copied_value : View → ℕ → ℕ → ℕ → Block
copied_value v a s i =
    let n = v.meta.setup.geometry.disks in
    let c = number_at a s i in
    if nat_lt c (v.meta.setup.geometry.rows * (n - a))
    then value v (row_of_number n a c) (disk_of_number n a c) else zero_block

-- the copies of a stripe by disk; on its parity disk any block
abbrev pub copies : View → ℕ → ℕ → ℕ → Block
copies v a s = λ e. copied_value v a s (index_among (soft_parity_disk a s) e)

-- the blocks of a stripe by disk: the copies, and on its parity disk their XOR
unfoldable pub copied_block : View → ℕ → ℕ → ℕ → Block
copied_block v a s e =
    if e == soft_parity_disk a s
    then xor_upto (without (copies v a s) (soft_parity_disk a s)) a else copies v a s e

-- `t` is `m` but for the version, the epoch and the numbers of writes and of ticks
pub record IsAs (m t : Meta) : Type 0 where
  pub setup : t.setup ≡ m.setup
  pub gear : t.gear ≡ m.gear
  pub phase : t.phase ≡ m.phase
  pub fill : t.fill ≡ m.fill
  pub out : t.out ≡ m.out
  pub spins : t.spins ≡ m.spins

-- under this meta and with these disks the blocks hold the first `k` writes of `h`
abbrev pub HoldUnder : ℕ → (ℕ → Power) → (ℕ → ℕ) → History → ℕ → Meta → Contents → Type 0
HoldUnder slots power size h k m f = ContentOk slots power size (view_by m power f) h k
