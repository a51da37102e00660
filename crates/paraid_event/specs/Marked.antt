-- A disk that is marked as out, before the mark is committed.
use Rattle.std.specs.Prelude.{◌≡◌, ℕ, Some}
use Rattle.paraid_image.specs.Mark.{meta_after_loss}
use Rattle.paraid_image.specs.Out.{named_out}
use Rattle.paraid_event.specs.Service.{Service}

-- Of two states of a service: what was staged is committed, in which at most this disk is lost; and
-- the disk is marked as out.
pub record MarksTakenOut (k committed marked : Service) (d : ℕ) : Type 0 where
  pub alone : (e : ℕ) → named_out committed.meta.out ≡ Some e → e ≡ d
  pub mark : marked ≡ record committed { meta = meta_after_loss committed.meta d }
  pub slots : committed.slots ≡ k.slots
