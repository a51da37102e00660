-- The dirty bits after a read, and after writes.
use Rattle.std.specs.Prelude.{◌≡◌, ℕ, Bool, true, false, List, [], ◌∷◌}
use Rattle.std.proofs.Common.{refl, sym, ◌∙◌, ap}
use Rattle.std.proofs.lemmas.Bool.{false≢true}
use Rattle.paraid_dirty.specs.Table.{is_dirty, table_with_bit}
use Rattle.paraid_base.specs.History.{Entry}
use Rattle.paraid_plan.specs.WrittenBits.{bits_after_block, bits_after_cell, bits_after_writes}
use Rattle.paraid_plan.proofs.LayLemmas.{changed_at, changed_off}
use Rattle.paraid_record.specs.declared.meta.Meta.{Meta}
use Rattle.paraid_core.specs.Cleaning.{CleansCell, is_cleaned}

-- nothing is cleaned, and the table is as it was
pub cell_kept : (m : Meta) (table table_then : List (List Bool)) (r d : ℕ) → is_cleaned m table r d ≡ false → table_then ≡ table → CleansCell m table table_then r d
cell_kept m table table_then r d none same = record {
  cleaned = λ is. absurd (false≢true (sym none ∙ is));
  kept = λ is. ap (λ (t : List (List Bool)). is_dirty t r d) same;
  others = λ q e apart. ap (λ (t : List (List Bool)). is_dirty t q e) same;
}

-- the bit of a cell that is cleaned was cleared
pub cell_cleaned : (m : Meta) (table table_then : List (List Bool)) (r d : ℕ) → is_cleaned m table r d ≡ true → ((q e : ℕ) → is_dirty table_then q e ≡ table_with_bit (is_dirty table) r d false q e)
    → CleansCell m table table_then r d
cell_cleaned m table table_then r d does bits = record {
  cleaned = λ is. bits r d ∙ changed_at (is_dirty table) r d false r d refl refl;
  kept = λ is. absurd (false≢true (sym is ∙ does));
  others = λ q e apart. bits q e ∙ changed_off (is_dirty table) r d false q e apart;
}

-- the same cell of the same table
pub cell_of : (m : Meta) (a b table_then : List (List Bool)) (r q d e : ℕ) → a ≡ b → r ≡ q → d ≡ e → CleansCell m a table_then r d → CleansCell m b table_then q e
cell_of m a b table_then r q d e same row disk is = rw (same, row, disk) at is

-- the count of writes does not matter
pub bits_counted : (m : Meta) (entry : Entry) (writes : ℕ) (bits : ℕ → ℕ → Bool) → bits_after_writes (record m { writes = writes }) entry bits ≡ bits_after_writes m entry bits
unfolding bits_after_block bits_after_cell
bits_counted m [] writes bits = refl
bits_counted m (x ∷ entry) writes bits = bits_counted m entry writes (bits_after_block m x.0 bits)
