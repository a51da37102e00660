use Rattle.std.proofs.lemmas.Result.{err_from_is_err_and}
use Rattle.std.proofs.Common.{inl, ◌≡◌, ◌≤◌, ◌+◌, ◌-◌, ◌++◌, ℕ, List, length, take, drop, arith, refl, sym, ap, ◌∙◌, subst, OnErr, Result, Ok, Err, length-drop}
use borrow.Rule.Slice.PartMut.{put_mid}
use Rattle.std.proofs.lemmas.List.{length-take-le, take_all}
use Rattle.std.proofs.lemmas.Slice.{take-put_mid}
use Rattle.paraid_nbd.specs.Export.{HasBytes}
use Rattle.paraid_nbd.proofs.TakingLemmas.{length-put_mid}
use Rattle.paraid_nbd.proofs.ErrorLemmas.{by_none, by_then, halts_on_then}
use Rattle.paraid_nbd.specs.Asked.{AreBytesRead, KeepsBy}
use Rattle.paraid_nbd.specs.Asked.AreBytesRead.{Nothing_read}
use Rattle.paraid_nbd.proofs.AskedLemmas.{asked_read, asked_read_halts, at_start_next, next_part}
use Rattle.paraid_nbd.proofs.DeviceLemmas.{bytes_none, bytes_more, halts_later, keeps_none, keeps_then}
use Rattle.paraid_nbd.proofs.export.read_bytes.Goals as goal

pub loop-done-init : goal.loop-done-init
loop-done-init g c = record {
  within = omega arith;
  whole = inl refl;
  size = refl;
  told = λ t. t;
  keeps = keeps_none _ _;
  serves = by_none _ _ Nothing_read;
  read = λ first tells s events is kept. bytes_none c.args.offset is kept;
}

on_err : {T E P : Type 0} (r : Result T E) → P → OnErr r P
on_err (Ok x) p = tt
on_err (Err e) p = p

pub returns-in_err-read_block : goal.returns-in_err-read_block
returns-in_err-read_block g c =
    let p = err_from_is_err_and c.from_residual.result c.from_residual.ensures.1 in
    let i = c.loop-done.invariant in
    let e = c.in_err-read_block.ensures in
    record {
      size = c.in_err-read_block.ensures.size ∙ c.loop-done.invariant.size;
      told = λ t. c.loop-done.invariant.told (c.in_err-read_block.ensures.told t);
      keeps = keeps_then _ _ _ _ i.keeps e.keeps;
      serves = rw (err_from_is_err_and c.from_residual.result c.from_residual.ensures.1).1 tt;
      halts = on_err c.from_residual.result (halts_on_then _ _ _ _
          (asked_read_halts c.args.offset c.loop-done.done c.at-part.result.block c.at-part.result.length (length c.args.into.now) (take c.loop-done.done c.loop-done.into) (length-take-le c.loop-done.done c.loop-done.into i.within) c.at-part.ensures.block (omega (arith, c.at-part.ensures.length, c.loop-done-test.true, c.loop-done.auto.into))
          (next_part c.args.offset c.loop-done.done (length c.loop-done.into) c.at-part.result.length c.at-part.ensures.length c.loop-done-test.true i.whole))
          i.serves e.halts);
      read = rw p.1 tt;
      stops = on_err c.from_residual.result (λ first tells s events is kept.
          let r = i.read first (e.told tells) s events is kept in
          halts_later r.new r.reads (λ none. r.quiet (r.serves none)) (e.stops first tells s (events ++ r.new) r.now r.kept_is));
      some = on_err c.from_residual.result (omega (arith, c.loop-done-test.true, c.loop-done.auto.into));
    }

pub loop-done-preserved : goal.loop-done-preserved
loop-done-preserved g c =
    let i = c.loop-done.invariant in
    let e = c.in_ok-read_block.ensures in
    let done = c.loop-done.done in
    let part = c.at-part.result in
    let place = c.at-part.ensures in
    let front : length (take done c.loop-done.into) ≡ done = length-take-le done c.loop-done.into i.within in
    let n_is : part.start + part.length - part.start ≡ part.length = omega arith in
    let inside : part.start + part.length ≤ 512 = omega (arith, place.start, place.length) in
    let within : done + part.length ≤ length c.loop-done.into = omega (arith, place.length, i.within) in
    let piece : c.copy_from_slice.new.self ≡ take part.length (drop part.start c.read_block.new.into.bytes) =
    c.copy_from_slice.ensures.after ∙ rw (c.as_slice.ensures.value, n_is) refl in
    let many : length c.copy_from_slice.new.self ≡ part.length =
    ap length piece ∙ length-take-le part.length (drop part.start c.read_block.new.into.bytes) (omega (arith, length-drop part.start c.read_block.new.into.bytes, c.read_block.new.into.whole)) in
    let k : ℕ = done + part.length - done in
    let k_is : k ≡ part.length = omega arith in
    let same : length (put_mid done k c.loop-done.into c.copy_from_slice.new.self) ≡ length c.loop-done.into = length-put_mid done k c.loop-done.into c.copy_from_slice.new.self (many ∙ sym k_is) (omega (arith, k_is, within)) in
    let all : take (done + part.length) (put_mid done k c.loop-done.into c.copy_from_slice.new.self) ≡ take done c.loop-done.into ++ take part.length (drop part.start c.read_block.new.into.bytes) =
    take-put_mid done k c.loop-done.into c.copy_from_slice.new.self (done + part.length) (omega (arith, many)) i.within ∙ ap (λ (x : List ℕ). take done c.loop-done.into ++ x) piece in
    record {
      within = rw same within;
      whole = rw same (at_start_next c.args.offset done (length c.loop-done.into) part.length place.length c.loop-done-test.true);
      size = e.size ∙ i.size;
      told = λ t. i.told (e.told t);
      keeps = keeps_then _ _ _ _ i.keeps e.keeps;
      serves = rw all (by_then _ _ _ _
          (asked_read c.args.offset done part.block part.start part.length (take done c.loop-done.into) c.read_block.new.into front place.block place.start (next_part c.args.offset done (length c.loop-done.into) part.length place.length c.loop-done-test.true i.whole))
          i.serves e.serves);
      read = λ first tells s events is kept.
          let r = i.read first (e.told tells) s events is kept in
          rw all (bytes_more part.block part.start part.length c.read_block.new.into r (omega (arith, place.block, place.start, front)) inside (omega (arith, place.length, place.start, c.loop-done-test.true)) (e.read first tells s (events ++ r.new) r.now r.kept_is));
    }

pub returns : goal.returns
returns g c = record {
  size = c.loop-done.invariant.size;
  told = c.loop-done.invariant.told;
  keeps = c.loop-done.invariant.keeps;
  serves =
      let b = g.B.Blocks in
      subst (λ (x : List ℕ). KeepsBy b.kept c.args.blocks.now c.loop-done.blocks (AreBytesRead c.args.offset x)) (take_all c.loop-done.done c.loop-done.into (omega (arith, c.loop-done-test.false))) c.loop-done.invariant.serves;
  halts = tt;
  read = λ first tells s events is kept.
      let b = g.B.Blocks in
      subst (λ (x : List ℕ). HasBytes (b.stands c.loop-done.blocks) (b.halted c.loop-done.blocks) (b.kept first c.loop-done.blocks) s events c.args.offset x)
      (take_all c.loop-done.done c.loop-done.into (omega (arith, c.loop-done-test.false)))
      (c.loop-done.invariant.read first tells s events is kept);
  stops = tt;
  some = tt;
}
