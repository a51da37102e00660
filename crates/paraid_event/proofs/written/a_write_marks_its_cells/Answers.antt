use Rattle.std.proofs.Common.{◌∙◌, ap, sym}
use Rattle.std.specs.Prelude.{ℕ, Bool}
use Rattle.paraid_base.specs.Pairs.{pairs_of}
use Rattle.paraid_dirty.specs.Table.{is_dirty}
use Rattle.paraid_event.proofs.WrittenLemmas.{writes_agree}
use Rattle.paraid_event.proofs.written.a_write_marks_its_cells.Goals as goal

pub returns : goal.returns
returns c k k_then pairs is s of r d low =
    ap (λ (f : ℕ → ℕ → Bool). f r d) is
    ∙ writes_agree k_then.meta.setup.geometry.rows k_then.meta (pairs_of pairs) (is_dirty k.table) s (record { gear = of.gear; phase = of.phase; out = of.out }) (λ q e l. sym (of.dirty q e l)) r d low
