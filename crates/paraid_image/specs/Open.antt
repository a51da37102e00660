-- A gate that can be opened.
use Rattle.std.specs.Prelude.{◌≡◌, ◌≢◌, ℕ, ◌<◌, ◌⊎◌, true, false, Contains, Some, ◌≤◌, Option, length}
use Rattle.paraid_base.specs.declared.block.Block.{Block}
use Rattle.paraid_base.specs.History.{History}
use Rattle.paraid_rack.specs.declared.call.Power.TheVariants.{Spinning}
use Rattle.paraid_rack.specs.Disks.{Disks, IsPresent, lose}
use Rattle.paraid_record.specs.declared.targets.Target.{Target}
use Rattle.paraid_image.specs.Content.{view_by}
use Rattle.paraid_image.specs.HeldAt.{MayLose}
use Rattle.paraid_image.specs.Neutral.{overwrite}
use Rattle.paraid_image.specs.Out.{IsAtMostOneMissing, IsWeak, named_out, out_disk}
use Rattle.paraid_image.specs.Sides.{LogState, Says, SaysOpen, has_place, is_open, stored_block, targets}
use Rattle.paraid_image.specs.Sound.{AreWitnessesTrue, ContentOk, IsAhead, IsFresh}
use Rattle.paraid_image.specs.Standing.{contents, other_log}

-- What the other log disk says besides: this too, or only what has a lower epoch.
abbrev pub IsLatest : Disks → ℕ → LogState → Type 0
IsLatest i y new = Says i y new ⊎ ((o : LogState) → Says i y o → o.meta.epoch < new.meta.epoch)

-- Log disk `x` has this batch and its meta in its log under whatever gate, and it is the next one:
-- with the batch laid over, the image holds the first `k` writes of `h`.
pub record IsLoggedNext
    (slots : ℕ) (i : Disks) (x : ℕ) (new : LogState) (h : History) (k : ℕ) : Type 0 where
  pub log_disk : x < 2
  pub place : has_place i x 0 ≡ true
  pub present : IsPresent i x
  pub opened : new.opened ≡ true
  pub logged : SaysOpen (stored_block i x) new.meta new.batch
  pub latest : IsLatest i (other_log x) new
  pub writes : new.meta.writes ≡ k
  pub single : IsAtMostOneMissing i.power new.meta
  pub in_array : named_out new.meta.out ≢ Some x
  -- a log disk that says it too is in the array
  pub other_in : Says i (other_log x) new → named_out new.meta.out ≢ Some (other_log x)
  pub fresh_closed : (d rebuilt : ℕ) → IsFresh i.power new.meta d rebuilt → d < 2
      → is_open (stored_block i d 0) ≡ false
  pub targets_spin : (t : Target) → Contains (targets new.batch) t
      → out_disk i.power new.meta ≢ Some t.disk → i.power t.disk ≡ Spinning
  pub formed : IsPresent i (other_log x) → out_disk i.power new.meta ≢ Some (other_log x)
      → (o : LogState) × Says i (other_log x) o
  pub paired : (o : LogState) → Says i (other_log x) o
      → out_disk i.power new.meta ≢ Some (other_log x) → (o ≡ new) ⊎ IsAhead new o
  pub content : ContentOk slots i.power i.size (view_by new.meta i.power (contents i new.batch)) h k
  pub witnesses : AreWitnessesTrue i (out_disk i.power new.meta)

-- The closed gate of log disk `x` may be opened: then the image holds what the batch brings, as it
-- is and with a disk lost. Where log disk `x` itself can be lost then, it can be lost before.
pub record CanOpen (slots : ℕ)
    (i : Disks) (x : ℕ) (new : LogState) (h : History) (k lo : ℕ) (down : Option ℕ) : Type 0 where
  pub shut : is_open (stored_block i x 0) ≡ false
  pub low : lo ≤ k
  pub high : k ≤ length h
  pub next : IsLoggedNext slots i x new h k
  pub lost : (b : Block) (e : ℕ) → is_open b ≡ true → MayLose (overwrite i x 0 b) e → e ≢ x
      → IsLoggedNext slots (lose e i) x new h k
  pub spare : (b : Block) → is_open b ≡ true → MayLose (overwrite i x 0 b) x → MayLose i x
  pub weak : (b : Block) (w : ℕ) → is_open b ≡ true → IsWeak (overwrite i x 0 b) w → down ≡ Some w
