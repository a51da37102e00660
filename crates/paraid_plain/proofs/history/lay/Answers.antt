use Rattle.std.proofs.Common.{◌≡◌, ◌≢◌, ◌<◌, ◌≤◌, ◌∙◌, ◌+◌, ◌*◌, ◌∷◌, [], ℕ, Fits, ap, sym, subst, arith, length, take, get_or, w64, List}
use Rattle.std.proofs.lemmas.Nat.{mul-le}
use Rattle.std.specs.Prelude.{◌==◌, if◌then◌else◌}
use Rattle.std.proofs.lemmas.Bool.{cond-false, cond-true, eq-eqb, ne_eqb}
use Rattle.paraid_base.specs.declared.block.Block.{Block}
use Rattle.paraid_base.specs.History.{last_of}
use Rattle.paraid_base.specs.Pairs.{numbered_blocks}
use Rattle.paraid_base.proofs.HistoryLemmas.{last_of-append}
use Rattle.paraid_base.proofs.PairsLemmas.{take-zipped}
use Rattle.paraid_plain.proofs.history.lay.Goals as goal
use Rattle.paraid_plain.proofs.history.lay.Goals.{then-write-at, else-write-at}

module _ (b : ℕ) (start now : Block) (blocks : List ℕ) (bytes : List Block) (i : ℕ) (x : Block) (e : length blocks ≡ length bytes) (l : i < length blocks) (is : now ≡ last_of b start (take i (numbered_blocks blocks bytes))) where
  step : last_of b start (take (i + 1) (numbered_blocks blocks bytes)) ≡ (if get_or blocks i 0 == b then get_or bytes i x else now)
  step =
      ap (last_of b start) (take-zipped blocks bytes i 0 x e l) ∙ last_of-append b start (take i (numbered_blocks blocks bytes)) ((get_or blocks i 0, get_or bytes i x) ∷ [])
      ∙ ap (λ (y : Block). if get_or blocks i 0 == b then get_or bytes i x else y) (sym is)

  named : get_or blocks i 0 ≡ b → get_or bytes i x ≡ last_of b start (take (i + 1) (numbered_blocks blocks bytes))
  named same = sym (step ∙ cond-true (get_or blocks i 0 == b) (get_or bytes i x) now (eq-eqb _ _ same))

  other : get_or blocks i 0 ≢ b → now ≡ last_of b start (take (i + 1) (numbered_blocks blocks bytes))
  other differs = sym (step ∙ cond-false (get_or blocks i 0 == b) (get_or bytes i x) now (ne_eqb _ _ differs))

within : (i n m : ℕ) → i < n → n ≤ m → i < m
within i n m l few = omega arith

fits_at : (i n size : ℕ) → i < n → n ≤ 8 → size ≤ 512 → Fits w64 (i * size)
fits_at i n size l few low = let below : i ≤ 8 = omega arith in let small = mul-le i size 8 512 below low in omega (arith, small)

pub offset_bounds-write-at : goal.offset_bounds-write-at
offset_bounds-write-at c = fits_at c.loop-at.at c.args.write.now.count 4 c.loop-at-test.true c.args.write.now.few (omega arith)

pub bounds-write-at : goal.bounds-write-at
bounds-write-at c = within c.loop-at.at c.args.write.now.count 8 c.loop-at-test.true c.args.write.now.few

pub offset_bounds-write-at-then-write-at : goal.offset_bounds-write-at-then-write-at
offset_bounds-write-at-then-write-at c = fits_at c.loop-at.at c.args.write.now.count 512 c.loop-at-test.true c.args.write.now.few (omega arith)

pub listed : goal.listed
listed c = subst (λ (n : ℕ). c.loop-at.at < n) (sym c.args.write.now.bytes_whole) (within c.loop-at.at c.args.write.now.count 8 c.loop-at-test.true c.args.write.now.few)

pub bounds-write-at-then-write-at : goal.bounds-write-at-then-write-at
bounds-write-at-then-write-at c = within c.loop-at.at c.args.write.now.count 8 c.loop-at-test.true c.args.write.now.few

pub loop-at-preserved : goal.loop-at-preserved
loop-at-preserved c =
    let w = c.args.write.now in
    let i = c.loop-at.at in
    let l : i < length w.blocks = subst (λ (n : ℕ). i < n) (sym w.blocks_whole) (within i w.count 8 c.loop-at-test.true w.few) in
    let e = w.blocks_whole ∙ sym w.bytes_whole in
    elim c.if-write-at.branch [
      | then-write-at v ↦
          v.bytes-is ∙ v.copy_from.ensures ∙ named c.args.block c.args.bytes.now c.loop-at.bytes w.blocks w.bytes i v.index-write-at.result e l c.loop-at.invariant v.if-write-at.true
      | else-write-at v ↦
          v.bytes-is ∙ other c.args.block c.args.bytes.now c.loop-at.bytes w.blocks w.bytes i c.loop-at.bytes e l c.loop-at.invariant v.if-write-at.false
    ]
