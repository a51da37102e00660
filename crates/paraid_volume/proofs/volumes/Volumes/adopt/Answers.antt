use Rattle.paraid_base.specs.declared.fault.Halt.{Halt}
use Rattle.std.proofs.Common.{Option, Some, None, ◌≡◌, ℕ, ◌<◌, ◌≤◌, ◌^◌, ◌∙◌, refl, sym, ap, subst, arith}
use Rattle.std.specs.Prelude.{true}
use Rattle.std.proofs.lemmas.Bool.{false≢true}
use Rattle.paraid_base.specs.History.{after_all}
use Rattle.paraid_volume.specs.Device.{halt_in}
use Rattle.paraid_volume.specs.TableBlocks.{in_table}
use Rattle.paraid_volume.specs.Tables.{IsVolumeTable, extent_count, extent_size}
use Rattle.paraid_volume.proofs.ExtentLemmas.{back, same_table}
use Rattle.paraid_volume.proofs.StateLemmas.{lived_adopted}
use Rattle.paraid_volume.proofs.DeviceLemmas.{DeviceGoesOn-none, KeepsMore-none, holds_stands}
use Rattle.paraid_volume.specs.TableCalls.{table_reads}
use Rattle.paraid_volume.proofs.CallLemmas.{KeepsThen-none}
use Rattle.paraid_volume.proofs.volumes.Volumes.adopt.Goals as goal

-- a halt is no want of one
halts : (h : Halt) → ◌≡◌ {A = Option Halt} (Some h) None → ⊥
halts h e = cc

-- no device has seven blocks and fewer
few_not : (n : ℕ) → 7 ≤ n → n < 7 → ⊥
few_not n large few = omega (arith, large, few)

pub returns-then-not-is_table : goal.returns-then-not-is_table
returns-then-not-is_table g c = record {
  refused = let count = c.blocks-count.ensures in
      let past = c.if-count-lt7.false in
      let large : 7 ≤ g.B.Blocks.block_count c.args.blocks = subst (λ (n : ℕ). 7 ≤ n) count past in
      let read = c.in_default.ensures in (
        large,
        c.read_table.ensures.halt ∙ ap halt_in c.in_default.is,
        λ h stands tells table.
            let same = read.read h stands tells in
            let here = same_table (after_all h) (in_table c.read_table.new.table) (back _ _ same) (g.B.Blocks.block_count c.args.blocks) large table in
            let is : c.is_table.result ≡ true = c.is_table.ensures.1 (subst (λ (n : ℕ). IsVolumeTable n (in_table c.read_table.new.table)) (sym count) here) in
            absurd (false≢true (sym c.if-not-is_table.true ∙ is)),
      );
  went = tt;
  went_refused = c.read_table.ensures.went;
  grown = tt;
  grown_refused = c.read_table.ensures.grown;
  stands_refused = λ none from h stands tells. c.in_default.ensures.keeps from h stands tells;
  untouched = λ few. absurd (few_not _ (subst (λ (n : ℕ). 7 ≤ n) c.blocks-count.ensures c.if-count-lt7.false) few);
  ok = tt;
  stands = tt;
  lived = tt;
  reads = tt;
  reads_refused = record {
    made = table_reads (in_table c.read_table.new.table) 6;
    all = record {
      content = in_table c.read_table.new.table;
      none = λ table.
          let is : c.is_table.result ≡ true = c.is_table.ensures.1 (subst (λ (n : ℕ). IsVolumeTable n (in_table c.read_table.new.table)) (sym c.blocks-count.ensures) table) in
          absurd (false≢true (sym c.if-not-is_table.true ∙ is));
      are = refl;
    };
    grows = c.in_default.ensures.reads;
  };
}

pub invariant_of-result : goal.invariant_of-result
invariant_of-result g c =
    let size = c.read_table.ensures.went.size in
    let number = c.blocks-count.ensures in
    let same = number ∙ sym size in
    record {
      large = subst (λ (n : ℕ). 7 ≤ n) same c.if-count-lt7.false;
      fits = subst (λ (n : ℕ). n < 2 ^ 32) same c.blocks-count.type_inv;
      sized = c.extent_size.ensures.value ∙ ap extent_size same;
      counted = c.extent_count.ensures.value ∙ ap extent_count same;
      valid = subst (λ (n : ℕ). IsVolumeTable n (in_table c.read_table.new.table)) same (c.is_table.ensures.0 c.if-not-is_table.false);
      halted = c.read_table.ensures.halt ∙ ap halt_in c.in_default.is;
    }

pub returns : goal.returns
returns g c = record {
  refused = tt;
  went = c.read_table.ensures.went;
  went_refused = tt;
  grown = c.read_table.ensures.grown;
  grown_refused = tt;
  stands_refused = tt;
  untouched = tt;
  ok = refl;
  stands = λ from h stands tells.
      let read = c.in_default.ensures in
      (read.keeps from h stands tells, read.read h (holds_stands g.B.Blocks.stands g.B.Blocks.kept from c.args.blocks h stands) tells);
  lived = λ from h stands tells.
      let number = c.blocks-count.ensures in
      let past = c.if-count-lt7.false in
      let large : 7 ≤ g.B.Blocks.block_count c.args.blocks = subst (λ (n : ℕ). 7 ≤ n) number past in
      let read = c.in_default.ensures in
      let same = read.read h (holds_stands g.B.Blocks.stands g.B.Blocks.kept from c.args.blocks h stands) tells in
      lived_adopted _ (g.B.Blocks.block_count c.args.blocks) h (read.keeps from h stands tells, same)
      (same_table (in_table c.read_table.new.table) (after_all h) same (g.B.Blocks.block_count c.args.blocks) large
      (subst (λ (n : ℕ). IsVolumeTable n (in_table c.read_table.new.table)) number (c.is_table.ensures.0 c.if-not-is_table.false)));
  reads = c.in_default.ensures.reads;
  reads_refused = tt;
}

pub returns-then-count-lt7 : goal.returns-then-count-lt7
returns-then-count-lt7 g c = record {
  refused = (c.blocks-count.ensures, subst (λ (n : ℕ). n < 7) c.blocks-count.ensures c.if-count-lt7.true);
  went = tt;
  went_refused = DeviceGoesOn-none _ _ _ _ _;
  grown = tt;
  grown_refused = KeepsMore-none _ _ _ _;
  stands_refused = λ none from h stands tells. stands;
  untouched = λ few. refl;
  ok = tt;
  stands = tt;
  lived = tt;
  reads = tt;
  reads_refused = KeepsThen-none g.B.Blocks.kept _ _ refl;
}

pub returns-in-Err : goal.returns-in-Err
returns-in-Err g c = record {
  refused = (subst (λ (n : ℕ). 7 ≤ n) c.blocks-count.ensures c.if-count-lt7.false, c.read_table.ensures.halt ∙ ap halt_in c.in-Err.is);
  went = tt;
  went_refused = c.read_table.ensures.went;
  grown = tt;
  grown_refused = c.read_table.ensures.grown;
  stands_refused = λ none. absurd (halts _ (sym (c.read_table.ensures.halt ∙ ap halt_in c.in-Err.is) ∙ none));
  untouched = λ few. absurd (few_not _ (subst (λ (n : ℕ). 7 ≤ n) c.blocks-count.ensures c.if-count-lt7.false) few);
  ok = tt;
  stands = tt;
  lived = tt;
  reads = tt;
  reads_refused = c.in-Err.ensures.halted;
}

pub read_table-requires : goal.read_table-requires
read_table-requires g c = subst (λ (n : ℕ). 7 ≤ n) c.blocks-count.ensures c.if-count-lt7.false

pub is_table-requires : goal.is_table-requires
is_table-requires g c = c.if-count-lt7.false

pub extent_size-requires : goal.extent_size-requires
extent_size-requires g c = c.if-count-lt7.false

pub extent_count-requires : goal.extent_count-requires
extent_count-requires g c = c.if-count-lt7.false
