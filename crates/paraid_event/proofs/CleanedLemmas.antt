-- The dirty bits after a read.
use Rattle.std.proofs.Common.{◌≡◌, ℕ, ◌<◌, Bool, true, false, refl, sym, ◌∙◌, subst, arith, if◌then◌else◌}
use Rattle.std.specs.Prelude.{◌==◌, ◌&&◌, not, nat_le, nat_lt}
use Rattle.std.proofs.lemmas.Bool.{false≢true}
use Rattle.std.proofs.lemmas.Bool.Decides.{nat_tests}
use Rattle.paraid_base.specs.Cells.{home_disk, home_row}
use Rattle.paraid_base.specs.declared.state.Out.{Out}
use Rattle.paraid_base.specs.declared.state.Phase.{Phase}
use Rattle.paraid_base.specs.States.{has_out, rising_to}
use Rattle.paraid_dirty.specs.Table.{is_dirty, table_with_bit}
use Rattle.paraid_image.specs.Power.{PowerState}
use Rattle.paraid_machine.specs.Moves.{block_read, state_with_bit}
use Rattle.paraid_record.specs.declared.meta.Meta.{Meta}
use Rattle.paraid_record.specs.Modes.{is_access}
use Rattle.paraid_core.specs.Cleaning.{CleansCell}
use Rattle.paraid_event.specs.Counts.{with_counts_of}
use Rattle.paraid_event.specs.Service.{IsStateOf, Service}

same_if : (a b : ℕ) → (a == b) ≡ true → a ≡ b
same_if a b k = grind (arith, nat_tests)

apart_if : (a b : ℕ) → (a == b) ≡ false → a ≡ b → ⊥
apart_if a b k is = grind (arith, nat_tests)

both_of : (a b : Bool) → (a && b) ≡ true → (a ≡ true) × (b ≡ true)
both_of true b e = (refl, e)
both_of false b e = absurd (false≢true e)

module _ (k k_then : Service) (block : ℕ) (cleans : CleansCell k_then.meta k.table k_then.table (home_row k_then.meta.setup.geometry.disks block) (home_disk k_then.meta.setup.geometry.disks block))
    (s : PowerState) (of : IsStateOf (with_counts_of k_then k) s) (q e : ℕ) (low : q < k_then.meta.setup.geometry.rows) where
  abbrev m : Meta
  m = k_then.meta

  abbrev r : ℕ
  r = home_row m.setup.geometry.disks block

  abbrev d : ℕ
  d = home_disk m.setup.geometry.disks block

  was : s.dirty q e ≡ is_dirty k.table q e
  was = of.dirty q e low

  -- at the cell
  here_by : (a o g l bit : Bool) → q ≡ r → e ≡ d → is_dirty k.table r d ≡ bit → (((a && not o && g && l && bit) ≡ true → is_dirty k_then.table r d ≡ false) × ((a && not o && g && l && bit) ≡ false → is_dirty k_then.table r d ≡ is_dirty k.table r d))
      → is_dirty k_then.table q e ≡ (if a && g && l then (if o then s else state_with_bit s r d false) else s).dirty q e
  here_by a o g l bit row disk is two = go a o g l bit is two
    where
      kept : is_dirty k_then.table r d ≡ is_dirty k.table r d → is_dirty k_then.table q e ≡ s.dirty q e
      kept f = rw (row, disk) f ∙ sym was

      bit_off : is_dirty k_then.table r d ≡ false → is_dirty k_then.table q e ≡ table_with_bit s.dirty r d false q e
      bit_off f = rw (row, disk) f ∙ sym (at_cell q r e d row disk)
        where
          at_cell : (x y u v : ℕ) → x ≡ y → u ≡ v → (if x == y && u == v then false else s.dirty x u) ≡ false
          at_cell x y u v first second = let f : (x == y) ≡ true = grind (arith, nat_tests) in let g : (u == v) ≡ true = grind (arith, nat_tests) in rw (f, g) refl

      go : (a o g l bit : Bool) → is_dirty k.table r d ≡ bit → (((a && not o && g && l && bit) ≡ true → is_dirty k_then.table r d ≡ false) × ((a && not o && g && l && bit) ≡ false → is_dirty k_then.table r d ≡ is_dirty k.table r d))
          → is_dirty k_then.table q e ≡ (if a && g && l then (if o then s else state_with_bit s r d false) else s).dirty q e
      go false o g l bit is two = kept (two.1 refl)
      go true true false l bit is two = kept (two.1 refl)
      go true true true false bit is two = kept (two.1 refl)
      go true true true true bit is two = kept (two.1 refl)
      go true false false l bit is two = kept (two.1 refl)
      go true false true false bit is two = kept (two.1 refl)
      go true false true true true is two = bit_off (two.0 refl)
      go true false true true false is two = bit_off (two.1 refl ∙ is)

  -- elsewhere
  away_by : (c o : Bool) → (q ≡ r → e ≡ d → ⊥) → is_dirty k_then.table q e ≡ (if c then (if o then s else state_with_bit s r d false) else s).dirty q e
  away_by true true apart = cleans.others q e apart ∙ sym was
  away_by true false apart = cleans.others q e apart ∙ sym was ∙ sym (by (q == r) (e == d) refl refl)
    where
      by : (f g : Bool) → (q == r) ≡ f → (e == d) ≡ g → (if f && g then false else s.dirty q e) ≡ s.dirty q e
      by true true x y = absurd (apart (same_if q r x) (same_if e d y))
      by true false x y = refl
      by false g x y = refl
  away_by false o apart = cleans.others q e apart ∙ sym was

  at_state : is_dirty k_then.table q e ≡ (if is_access m.setup.mode && nat_le m.gear d && nat_lt d (rising_to m.phase) then (if has_out m.out then s else state_with_bit s r d false) else s).dirty q e
  at_state = by (q == r) (e == d) refl refl
    where
      by : (f g : Bool) → (q == r) ≡ f → (e == d) ≡ g → is_dirty k_then.table q e ≡ (if is_access m.setup.mode && nat_le m.gear d && nat_lt d (rising_to m.phase) then (if has_out m.out then s else state_with_bit s r d false) else s).dirty q e
      by true true x y = here_by (is_access m.setup.mode) (has_out m.out) (nat_le m.gear d) (nat_lt d (rising_to m.phase)) (is_dirty k.table r d) (same_if q r x) (same_if e d y) refl (cleans.cleaned, cleans.kept)
      by true false x y = away_by (is_access m.setup.mode && nat_le m.gear d && nat_lt d (rising_to m.phase)) (has_out m.out) (λ a b. apart_if e d y b)
      by false g x y = away_by (is_access m.setup.mode && nat_le m.gear d && nat_lt d (rising_to m.phase)) (has_out m.out) (λ a b. apart_if q r x a)

  -- The bits are those of the state after the read.
  pub read_bits : is_dirty k_then.table q e ≡ (block_read m.setup block s).dirty q e
  read_bits = subst (λ (n : ℕ). is_dirty k_then.table q e ≡ (if is_access m.setup.mode && nat_le n d && nat_lt d (rising_to s.phase) then (if has_out s.out then s else state_with_bit s r d false) else s).dirty q e) (sym of.gear)
      (subst (λ (z : Phase). is_dirty k_then.table q e ≡ (if is_access m.setup.mode && nat_le m.gear d && nat_lt d (rising_to z) then (if has_out s.out then s else state_with_bit s r d false) else s).dirty q e) (sym of.phase)
      (subst (λ (z : Out). is_dirty k_then.table q e ≡ (if is_access m.setup.mode && nat_le m.gear d && nat_lt d (rising_to m.phase) then (if has_out z then s else state_with_bit s r d false) else s).dirty q e) (sym of.out) at_state))
