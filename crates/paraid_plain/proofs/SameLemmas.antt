-- What is equal field by field is equal.
use Rattle.std.specs.Prelude.{◌≡◌, Bool, IsTrue, ◌↔◌}
use Rattle.std.proofs.Common.{sym, ◌∙◌, ap}
use Rattle.paraid_base.specs.declared.block.Block.{Block}
use Rattle.paraid_base.proofs.XorLemmas.{same_block}
use Rattle.paraid_record.specs.declared.meta.Meta.{Meta}
use Rattle.paraid_record.specs.Meta.{meta_bytes}
use Rattle.paraid_record.specs.Range.{IsInRange}
use Rattle.paraid_record.proofs.OneSpelling.{meta_bytes-cancel}

pub block_by_bytes : (a b : Block) (test : Bool) → IsTrue test ↔ (a.bytes ≡ b.bytes) → IsTrue test ↔ (a ≡ b)
block_by_bytes a b test h = (λ t. same_block a b (h.0 t), λ e. h.1 (ap (λ (x : Block). x.bytes) e))

pub meta_by_spelling : (m n : Meta) (a b : Block) (test : Bool) → IsInRange m → IsInRange n → a.bytes ≡ meta_bytes m → b.bytes ≡ meta_bytes n
    → IsTrue test ↔ (a ≡ b) → IsTrue test ↔ (m ≡ n)
meta_by_spelling m n a b test p q e f h = (
  λ t. meta_bytes-cancel m n p q (sym e ∙ ap (λ (x : Block). x.bytes) (h.0 t) ∙ f),
  λ same. h.1 (same_block a b (e ∙ ap meta_bytes same ∙ sym f)),
)
