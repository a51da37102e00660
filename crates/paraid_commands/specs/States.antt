-- What `status` tells of an array.
use Rattle.std.specs.Prelude.{ℕ, Bool, List, ◌++◌, None}
use Rattle.paraid_base.specs.declared.event.Answer.TheVariants.{State}
use Rattle.paraid_base.specs.declared.state.Status.{Status}
use Rattle.paraid_serve.specs.Ending.{mount_line}
use Rattle.paraid_dirty.specs.Table.{dirty_count}
use Rattle.paraid_record.specs.declared.meta.Meta.{Meta}
use Rattle.paraid_trace.specs.Replies.{reply_of}

-- the state of an array with this meta and these dirty cells
abbrev pub shown_status : Meta → (ℕ → ℕ → Bool) → Status
shown_status m dirty = record {
  writes = m.writes;
  ticks = m.ticks;
  gear = m.gear;
  phase = m.phase;
  dirty = dirty_count dirty m.setup.geometry.rows m.gear m.setup.geometry.disks;
  fill = m.fill;
  out = m.out;
  spins = m.spins;
  halt = None;
}

-- the line of a mount and the line of the state
abbrev pub status_lines : Meta → (ℕ → ℕ → Bool) → List ℕ
status_lines m dirty =
    mount_line m.writes m.gear ++ reply_of (State (shown_status m dirty) m.setup.geometry.disks)
