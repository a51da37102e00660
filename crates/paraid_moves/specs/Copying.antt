-- What the disks hold while copies are made between two commits.
use Rattle.std.specs.Prelude.{◌≡◌, ℕ, ◌<◌, ◌≤◌, ◌⊎◌, ◌==◌, [], length, if◌then◌else◌}
use Rattle.paraid_base.specs.History.{History}
use Rattle.paraid_base.specs.Xor.{zero_block}
use Rattle.paraid_rack.specs.Disks.{Disks, IsImage}
use Rattle.paraid_record.specs.declared.meta.Meta.{Meta}
use Rattle.paraid_image.specs.Content.{view_by}
use Rattle.paraid_image.specs.Free.{AreSidesClosed, IsFree}
use Rattle.paraid_image.specs.HeldAt.{IsHeld}
use Rattle.paraid_image.specs.Out.{IsMissing, out_disk}
use Rattle.paraid_image.specs.Sound.{AreWitnessesTrue, ContentOk, LogOk}
use Rattle.paraid_image.specs.Standing.{Contents, contents}
use Rattle.paraid_image.specs.Sides.{closed_over}

-- This meta stands by closed gates, and past the log the blocks are these but for free places.
pub record IsCopyImage (i : Disks) (m : Meta) (f : Contents) : Type 0 where
  pub disk : ℕ
  pub log : LogOk i disk (closed_over m) m.writes
  pub gates : AreSidesClosed i (closed_over m)
  pub witnesses : AreWitnessesTrue i (out_disk i.power m)
  pub only : (x q : ℕ) → IsFree (view_by m i.power f) x q ⊎ (contents i [] x q ≡ f x q)

-- In all that a stop may leave, this meta stands by closed gates, and past the log the blocks are
-- these but for free places.
abbrev pub IsCopying : Disks → Meta → Contents → Type 0
IsCopying s m f = (i : Disks) → IsImage s i → IsCopyImage i m f

-- The disks hold the history in these contents, with copies made beside them.
pub record HoldsWithCopies
    (slots : ℕ) (m : Meta) (f : Contents) (h : History) (lo : ℕ) (s : Disks) : Type 0 where
  pub copying : IsCopying s m f
  pub low : lo ≤ m.writes
  pub high : m.writes ≤ length h
  pub content : ContentOk slots s.power s.size (view_by m s.power f) h m.writes

-- what every stop then leaves
abbrev pub IsHeldByCopies : ℕ → Meta → History → ℕ → Disks → Type 0
IsHeldByCopies slots m h lo s = IsHeld slots s h lo (out_disk s.power m)

-- a copy can be written to this place: it is free
pub record CanCopy
    (slots : ℕ) (m : Meta) (f : Contents) (h : History) (lo d p : ℕ) (s : Disks) : Type 0 where
  pub copies : HoldsWithCopies slots m f h lo s
  pub free : IsFree (view_by m s.power f) d p

-- this disk can be lost: no other one is missing
pub record CanLose
    (slots : ℕ) (m : Meta) (f : Contents) (h : History) (lo d : ℕ) (s : Disks) : Type 0 where
  pub copies : HoldsWithCopies slots m f h lo s
  pub disk : d < m.setup.geometry.disks
  pub others : (e : ℕ) → IsMissing s.power m e → e ≡ d

-- the contents with zeros on disk `d`
abbrev pub without_disk : Contents → ℕ → Contents
without_disk f d = λ x q. if x == d then zero_block else f x q
