-- How the edge comes to its status.
use Rattle.std.proofs.Common.{◌≡◌, ℕ, ◌⊎◌, inl, inr, List, Option, Some, None, refl, sym, subst, arith}
use Rattle.paraid_edge.specs.EdgeEnd.{IsOwnStatus, ServesReady}
use Rattle.paraid_edge.specs.Ready.{IsReady}
use Rattle.paraid_imgrack.specs.declared.image.Image.{Image}
use Rattle.paraid_imgrack.specs.declared.rack.ImageRack.{ImageRack}
use Rattle.paraid_serve.specs.Statuses.{status_no_memory}
use Rattle.paraid_words.specs.declared.command.Command.{Command}

-- want of memory is told by a status of the edge's own
pub no_memory_is_own : (c : Command) → IsOwnStatus c status_no_memory
no_memory_is_own c = record { among = inr (inr (inr (inl refl))); source = λ is. absurd (omega (arith, is)) }

-- a program that was handed this command, with a rack that was ready for it and then shut, has served it or is left
pub handed : {P F : Type 0} (program : P) (left : Option P) (free : List Image → Type 0) (ended : ImageRack F → Command → ℕ → Type 0) (rack inside : ImageRack F) (asked read : Command) (status : ℕ)
    → inside ≡ rack → asked ≡ read → IsReady free read rack
    → ((left ≡ Some program) × IsOwnStatus asked status) ⊎ ((left ≡ None) × ended inside asked status)
    → ((left ≡ Some program) × IsOwnStatus asked status) ⊎ ((left ≡ None) × ServesReady free ended asked status)
handed program left free ended rack inside asked read status is same ready (inl unused) = inl unused
handed {P} {F} program left free ended rack inside asked read status is same ready (inr served) = inr (
  served.0,
  record {
    rack = rack;
    ready = subst (λ (c : Command). IsReady free c rack) (sym same) ready;
    ends = subst (λ (r : ImageRack F). ended r asked status) is served.1;
  },
)
