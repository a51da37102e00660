use Rattle.paraid_base.specs.declared.fault.Halt.{Halt}
use Rattle.std.proofs.Common.{Option, Some, None, ◌≡◌, ℕ, ◌<◌, ◌≤◌, ◌^◌, ◌∙◌, ◌++◌, ◌∷◌, [], refl, sym, ap, subst, arith}
use Rattle.std.specs.Prelude.{true}
use Rattle.paraid_base.specs.History.{after_all}
use Rattle.paraid_base.specs.Pairs.{pairs_of}
use Rattle.paraid_volume.specs.Device.{halt_in}
use Rattle.paraid_volume.specs.TableBlocks.{in_table}
use Rattle.paraid_volume.specs.Tables.{IsVolumeTable, head_bytes, extent_size, extent_count}
use Rattle.paraid_base.specs.declared.block.Block.{Block}
use Rattle.paraid_volume.proofs.ExtentLemmas.{back, same_table}
use Rattle.paraid_volume.proofs.ChangeLemmas.{shows_nothing}
use Rattle.paraid_volume.proofs.LaidLemmas.{laid_table}
use Rattle.paraid_volume.proofs.StateLemmas.{lived_begun}
use Rattle.std.proofs.lemmas.Bool.{false≢true}
use Rattle.paraid_volume.proofs.DeviceLemmas.{DeviceGoesOn-none, DeviceGoesOn-then, KeepsMore-none, KeepsMore-then, KeepsMore-weaker, read_either, write_either}
use Rattle.paraid_volume.specs.declared.fault.VolFault.{VolFault}
use Rattle.paraid_volume.specs.declared.fault.VolFault.TheVariants.{Already, Small}
use Rattle.paraid_volume.specs.TableCalls.{table_reads}
use Rattle.paraid_volume.proofs.CallLemmas.{KeepsThen-all, KeepsThen-then}
use Rattle.paraid_volume.proofs.volumes.Volumes.init.Goals as goal

-- a halt is no want of one
halts : (h : Halt) → ◌≡◌ {A = Option Halt} (Some h) None → ⊥
halts h e = cc

-- a halt is no table that was found
not_already : (h : Halt) → VolFault.Halt h ≡ Already → ⊥
not_already h e = cc

-- nor is a small device
not_small : (n : ℕ) → Small n ≡ Already → ⊥
not_small n e = cc

-- no device has seven blocks and fewer
few_not : (n : ℕ) → 7 ≤ n → n < 7 → ⊥
few_not n large few = omega (arith, large, few)

pub returns-then-is_table : goal.returns-then-is_table
returns-then-is_table g c = record {
  refused = let count = c.blocks-count.ensures in
      let past = c.if-count-lt7.false in
      let large : 7 ≤ g.B.Blocks.block_count c.args.blocks = subst (λ (n : ℕ). 7 ≤ n) count past in
      let read = c.in_default.ensures in (
        large,
        c.read_table.ensures.halt ∙ ap halt_in c.in_default.is,
        λ h stands tells.
            same_table (in_table c.read_table.new.table) (after_all h) (read.read h stands tells) (g.B.Blocks.block_count c.args.blocks) large
            (subst (λ (n : ℕ). IsVolumeTable n (in_table c.read_table.new.table)) count (c.is_table.ensures.0 c.if-is_table.true)),
      );
  taken = tt;
  went = tt;
  went_refused = c.read_table.ensures.went;
  grown = tt;
  grown_refused = KeepsMore-weaker _ _ _ _ _ _ read_either c.read_table.ensures.grown;
  stands_refused = λ none from h stands tells. c.in_default.ensures.keeps from h stands tells;
  untouched = λ few. absurd (few_not _ (subst (λ (n : ℕ). 7 ≤ n) c.blocks-count.ensures c.if-count-lt7.false) few);
  ok = tt;
  stands = tt;
  lived = tt;
  empty = tt;
  events = tt;
  found = λ already. record {
    made = table_reads (in_table c.read_table.new.table) 6;
    all = record {
      content = in_table c.read_table.new.table;
      table = subst (λ (n : ℕ). IsVolumeTable n (in_table c.read_table.new.table)) c.blocks-count.ensures (c.is_table.ensures.0 c.if-is_table.true);
      are = refl;
    };
    grows = c.in_default.ensures.reads;
  };
}

pub invariant_of-result : goal.invariant_of-result
invariant_of-result g c =
    let size = c.write_table.ensures.went.size ∙ c.read_table.ensures.went.size in
    let number = c.blocks-count.ensures in
    let same = number ∙ sym size in
    record {
      large = subst (λ (n : ℕ). 7 ≤ n) same c.if-count-lt7.false;
      fits = subst (λ (n : ℕ). n < 2 ^ 32) same c.blocks-count.type_inv;
      sized = c.extent_size.ensures.value ∙ ap extent_size same;
      counted = c.extent_count.ensures.value ∙ ap extent_count same;
      valid = subst (λ (n : ℕ). IsVolumeTable n (in_table c.empty-table.result)) same c.empty-table.ensures.table;
      halted = c.write_table.ensures.halt ∙ ap halt_in c.in_default-write_table.is;
    }

pub write_table-requires : goal.write_table-requires
write_table-requires g c = record {
  below = (c.whole.ensures.laid (in_table c.empty-table.result)).below;
  size = subst (λ (n : ℕ). 7 ≤ n) (c.blocks-count.ensures ∙ sym c.read_table.ensures.went.size) c.if-count-lt7.false;
}

pub returns-clause-stands : goal.returns-clause-stands
returns-clause-stands g c = λ from h stands tells.
    let number = c.blocks-count.ensures in
    let past = c.if-count-lt7.false in
    let count = g.B.Blocks.block_count c.args.blocks in
    let large : 7 ≤ g.B.Blocks.block_count c.args.blocks = subst (λ (n : ℕ). 7 ≤ n) number past in
    let mid = c.in_default.ensures.keeps from h stands (c.write_table.ensures.went.told tells) in
    let entry = pairs_of c.whole.result in
    let new = h ++ entry ∷ [] in
    let t = in_table c.empty-table.result in
    let same = laid_table h entry (after_all h) t (c.whole.ensures.laid (after_all h)) (λ k l. refl) in record {
      entry = entry;
      stands = (c.in_default-write_table.ensures.adds from h mid tells, same);
      shows = shows_nothing count (after_all new) large
          (ap (λ (x : Block). x.bytes) (sym (same 0 (omega arith))) ∙ c.empty-table.ensures.head ∙ ap (λ (n : ℕ). head_bytes (extent_size n) (extent_count n)) number)
          (λ k low high. sym (same k high) ∙ c.empty-table.ensures.rest k low);
    }

pub returns-clause-lived : goal.returns-clause-lived
returns-clause-lived g c = λ from h stands tells. lived_begun _ _ h (returns-clause-stands g c from h stands tells)

pub returns-in-Err : goal.returns-in-Err
returns-in-Err g c = record {
  refused = (subst (λ (n : ℕ). 7 ≤ n) c.blocks-count.ensures c.if-count-lt7.false, c.read_table.ensures.halt ∙ ap halt_in c.in-Err.is);
  taken = tt;
  went = tt;
  went_refused = c.read_table.ensures.went;
  grown = tt;
  grown_refused = KeepsMore-weaker _ _ _ _ _ _ read_either c.read_table.ensures.grown;
  stands_refused = λ none. absurd (halts _ (sym (c.read_table.ensures.halt ∙ ap halt_in c.in-Err.is) ∙ none));
  untouched = λ few. absurd (few_not _ (subst (λ (n : ℕ). 7 ≤ n) c.blocks-count.ensures c.if-count-lt7.false) few);
  ok = tt;
  stands = tt;
  lived = tt;
  empty = tt;
  events = tt;
  found = λ already. absurd (not_already _ already);
}

pub returns-in-Err-write_table : goal.returns-in-Err-write_table
returns-in-Err-write_table g c = record {
  refused = (subst (λ (n : ℕ). 7 ≤ n) c.blocks-count.ensures c.if-count-lt7.false, c.write_table.ensures.halt ∙ ap halt_in c.in-Err-write_table.is);
  taken = tt;
  went = tt;
  went_refused = DeviceGoesOn-then _ _ _ _ _ _ _ c.read_table.ensures.went c.write_table.ensures.went;
  grown = tt;
  grown_refused = KeepsMore-then _ _ _ _ _ _ c.write_table.ensures.went.told (KeepsMore-weaker _ _ _ _ _ _ read_either c.read_table.ensures.grown) (KeepsMore-weaker _ _ _ _ _ _ write_either c.write_table.ensures.grown);
  stands_refused = λ none. absurd (halts _ (sym (c.write_table.ensures.halt ∙ ap halt_in c.in-Err-write_table.is) ∙ none));
  untouched = λ few. absurd (few_not _ (subst (λ (n : ℕ). 7 ≤ n) c.blocks-count.ensures c.if-count-lt7.false) few);
  ok = tt;
  stands = tt;
  lived = tt;
  empty = tt;
  events = tt;
  found = λ already. absurd (not_already _ already);
}

pub returns-clause-empty : goal.returns-clause-empty
returns-clause-empty g c = c.empty-table.ensures.rest

pub returns-clause-found : goal.returns-clause-found
returns-clause-found g c = tt

pub returns-clause-events : goal.returns-clause-events
returns-clause-events g c =
    let read = in_table c.read_table.new.table in
    let made = c.in_default-write_table.ensures.event in
    KeepsThen-then g.B.Blocks.kept _ _ _ _ _ _
    (λ x y reads write. record { before = x; last = y; parts = refl; reads = reads; writes = record { pairs = c.whole.result; number = write.0; all = c.whole.ensures.exact; is = write.1 } })
    (KeepsThen-all g.B.Blocks.kept _ _ _ (table_reads read 6)
    (record {
      content = read;
      none = λ table.
          let is : c.is_table.result ≡ true = c.is_table.ensures.1 (subst (λ (n : ℕ). IsVolumeTable n read) (sym c.blocks-count.ensures) table) in
          absurd (false≢true (sym c.if-is_table.false ∙ is));
      are = refl;
    }) c.in_default.ensures.reads) made

pub returns-clause-grown : goal.returns-clause-grown
returns-clause-grown g c = KeepsMore-then _ _ _ _ _ _ c.write_table.ensures.went.told (KeepsMore-weaker _ _ _ _ _ _ read_either c.read_table.ensures.grown) (KeepsMore-weaker _ _ _ _ _ _ write_either c.write_table.ensures.grown)

pub returns-clause-taken : goal.returns-clause-taken
returns-clause-taken g c = λ h stands tells table.
    let count = c.blocks-count.ensures in
    let past = c.if-count-lt7.false in
    let large : 7 ≤ g.B.Blocks.block_count c.args.blocks = subst (λ (n : ℕ). 7 ≤ n) count past in
    let same = c.in_default.ensures.read h stands (c.write_table.ensures.went.told tells) in
    let here = same_table (after_all h) (in_table c.read_table.new.table) (back _ _ same) (g.B.Blocks.block_count c.args.blocks) large table in
    let is : c.is_table.result ≡ true = c.is_table.ensures.1 (subst (λ (n : ℕ). IsVolumeTable n (in_table c.read_table.new.table)) (sym count) here) in
    absurd (false≢true (sym c.if-is_table.false ∙ is))

pub returns-then-count-lt7 : goal.returns-then-count-lt7
returns-then-count-lt7 g c = record {
  refused = (c.blocks-count.ensures, subst (λ (n : ℕ). n < 7) c.blocks-count.ensures c.if-count-lt7.true);
  taken = tt;
  went = tt;
  went_refused = DeviceGoesOn-none _ _ _ _ _;
  grown = tt;
  grown_refused = KeepsMore-none _ _ _ _;
  stands_refused = λ none from h stands tells. stands;
  untouched = λ few. refl;
  ok = tt;
  stands = tt;
  lived = tt;
  empty = tt;
  events = tt;
  found = λ already. absurd (not_small _ already);
}

pub returns-clause-went : goal.returns-clause-went
returns-clause-went g c = DeviceGoesOn-then _ _ _ _ _ _ _ c.read_table.ensures.went c.write_table.ensures.went

pub returns-clause-refused : goal.returns-clause-refused
returns-clause-refused g c = tt

pub returns-clause-went_refused : goal.returns-clause-went_refused
returns-clause-went_refused g c = tt

pub returns-clause-grown_refused : goal.returns-clause-grown_refused
returns-clause-grown_refused g c = tt

pub returns-clause-ok : goal.returns-clause-ok
returns-clause-ok g c = refl

pub read_table-requires : goal.read_table-requires
read_table-requires g c = subst (λ (n : ℕ). 7 ≤ n) c.blocks-count.ensures c.if-count-lt7.false

pub is_table-requires : goal.is_table-requires
is_table-requires g c = c.if-count-lt7.false

pub extent_size-requires : goal.extent_size-requires
extent_size-requires g c = c.if-count-lt7.false

pub extent_count-requires : goal.extent_count-requires
extent_count-requires g c = c.if-count-lt7.false

pub returns-clause-untouched : goal.returns-clause-untouched
returns-clause-untouched g c = tt

pub returns-clause-stands_refused : goal.returns-clause-stands_refused
returns-clause-stands_refused g c = tt
