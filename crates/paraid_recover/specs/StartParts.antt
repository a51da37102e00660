-- What the steps of a mount have to say, so that it is one that a session asks for.
use Rattle.std.specs.Prelude.{◌≡◌, ℕ, ◌≤◌, true, List, length, take, Option}
use Rattle.paraid_base.specs.History.{History}
use Rattle.paraid_base.specs.States.{gone_out}
use Rattle.paraid_rack.specs.declared.call.Call.{Call}
use Rattle.paraid_rack.specs.Atoms.{IsSure}
use Rattle.paraid_rack.specs.Disks.{Disks}
use Rattle.paraid_rack.specs.Slots.{Agrees, Slot}
use Rattle.paraid_rack.specs.Trail.{run}
use Rattle.paraid_record.specs.declared.meta.Meta.{Meta}
use Rattle.paraid_image.specs.HeldAt.{IsHeld}
use Rattle.paraid_image.specs.Out.{named_out, out_disk}
use Rattle.paraid_image.specs.Power.{initial_state}
use Rattle.paraid_image.specs.Rest.{AreSynced, IsAtRest}
use Rattle.paraid_image.specs.Sides.{LogState, closed_over, is_open}
use Rattle.paraid_recover.specs.Bearing.{IsNamedLog}
use Rattle.paraid_recover.specs.Mounted.{IsServable, with_loss}
use Rattle.paraid_recover.specs.RecoveryMark.{to_mark}
use Rattle.paraid_session.specs.Mount.{BeginsSession, IsBase, IsCauseOutsideDisks, IsWornOut, Refusal, down_after_mount, mount_bounds, start_watch, worn}
use Rattle.paraid_session.specs.Watch.{Each, IsServing, watch_all}
use Rattle.paraid_recover.specs.StartCalls.{IsSpinUpRecorded, MakesMountCall}
use Rattle.paraid_recover.specs.StartHeld.{HoldsAfter}
use Rattle.paraid_recover.specs.RecordedSpins.{StaysWithin}

-- Of the calls of a mount: which they are, what is held after each first part of them, and that
-- what stands is within the bounds.
pub record AreMountCalls (slots : ℕ) (s : Disks) (x : ℕ)
    (said : LogState) (h : History) (lo : ℕ) (down : Option ℕ) (calls : List Call) : Type 0 where
  pub base : ℕ → ℕ
  pub ticks : ℕ
  pub is_base : IsBase s x said base ticks
  pub each : Each (λ w. Unit {0}) (MakesMountCall said.meta.setup.geometry.disks
      (gone_out said.meta.out)) (start_watch s down base) calls
  pub held : (k : ℕ)
      → k ≤ length calls → IsServing (watch_all (take k calls) (start_watch s down base)).down
      → HoldsAfter slots said.meta.setup.geometry.disks s h lo calls k
  pub within : Each
      (StaysWithin (mount_bounds said ticks)) IsSpinUpRecorded (start_watch s down base) calls

-- Of the end of a mount that is served: the disks rest under this meta and hold the writes that it
-- counts, the slots can be served, and the state that they show is one with which a session begins.
pub record EndsServed (slots : ℕ)
    (s : Disks) (said : LogState) (h : History) (calls : List Call) (standing : Meta) : Type 0 where
  pub setup : standing.setup ≡ said.meta.setup
  pub rest : IsAtRest (run s calls) standing
  pub held : IsHeld slots
      (run s calls) (take standing.writes h) standing.writes (out_disk (run s calls).power standing)
  pub count : ℕ
  pub slot : ℕ → Slot
  pub last : ℕ
  pub array : ℕ
  pub named : Option ℕ
  pub rows : ℕ
  pub agrees : Agrees (run s calls) slot
  pub servable : IsServable count slot last array named
      (with_loss standing (to_mark (run s calls).power standing)) rows
  pub borne : (y : ℕ)
      → IsNamedLog (named_out standing.out) y → IsSure (run s calls) 2 y (λ b. is_open b ≡ true)
  pub begins : BeginsSession s said calls standing.writes
      (initial_state (run s calls) (closed_over standing))

-- Of the end of a mount that is refused: while one disk at most is down nothing is loose, and the
-- cause lies not in the disks.
pub record EndsRefused
    (s : Disks) (down : Option ℕ) (base : ℕ → ℕ) (calls : List Call) (why : Refusal) : Type 0 where
  pub synced : IsServing (down_after_mount s down base calls) → AreSynced (run s calls)
  pub cause : IsServing (down_after_mount s down base calls) → IsCauseOutsideDisks why
  pub worn_out : (k : ℕ) → why ≡ worn k → IsWornOut s calls k
