use Rattle.std.proofs.Common.{◌≡◌, ◌≤◌, ◌+◌, ◌-◌, ◌%◌, ◌++◌, ◌<◌, ◌⊎◌, inl, inr, ℕ, List, Result, Ok, Err, OnErr, length, take, drop, arith, refl, ap, ◌∙◌, subst}
use Rattle.std.proofs.lemmas.List.{take_all}
use Rattle.std.proofs.lemmas.Result.{err_from_is_err_and}
use Rattle.paraid_nbd.specs.Export.{HasWritten}
use Rattle.paraid_nbd.proofs.ErrorLemmas.{by_none, by_then, halts_on_then}
use Rattle.paraid_nbd.specs.Asked.{ArePartsWritten, KeepsBy}
use Rattle.paraid_nbd.specs.Asked.ArePartsWritten.{Nothing_written}
use Rattle.paraid_nbd.proofs.AskedLemmas.{asked_write, asked_write_halts, at_start_next, next_part}
use Rattle.paraid_nbd.proofs.DeviceLemmas.{keeps_none, keeps_then}
use Rattle.paraid_nbd.proofs.WriteLemmas.{written_none, written_more, stops_after}
use Rattle.paraid_nbd.proofs.export.write_bytes.Goals as goal

pub loop-done-init : goal.loop-done-init
loop-done-init g c = record {
  within = omega arith;
  whole = inl refl;
  size = refl;
  told = λ t. t;
  keeps = keeps_none _ _;
  serves = by_none _ _ Nothing_written;
  written = λ first tells s events is kept. written_none s c.args.offset is kept;
}

on_err : {T E P : Type 0} (r : Result T E) → P → OnErr r P
on_err (Ok x) p = tt
on_err (Err e) p = p

pub returns-in_err-write_part : goal.returns-in_err-write_part
returns-in_err-write_part g c =
    let i = c.loop-done.invariant in
    let e = c.in_err-write_part.ensures in
    let done = c.loop-done.done in
    let part = c.at-part.result in
    let place = c.at-part.ensures in
    let n_is : done + part.length - done ≡ part.length = omega arith in
    let piece : take (done + part.length - done) (drop done c.args.from.now) ≡ take part.length (drop done c.args.from.now) = ap (λ (x : ℕ). take x (drop done c.args.from.now)) n_is in
    let within : done + part.length ≤ length c.args.from.now = omega (arith, place.length, i.within) in
    let next = next_part c.args.offset done (length c.args.from.now) part.length place.length c.loop-done-test.true i.whole in
    record {
      size = c.in_err-write_part.ensures.size ∙ c.loop-done.invariant.size;
      told = λ t. c.loop-done.invariant.told (c.in_err-write_part.ensures.told t);
      keeps = keeps_then _ _ _ _ i.keeps e.keeps;
      serves = rw (err_from_is_err_and c.from_residual.result c.from_residual.ensures.1).1 tt;
      halts = on_err c.from_residual.result (halts_on_then _ _ _ _
          (asked_write_halts c.args.offset done part.block part.start part.length c.args.from.now _ within piece place.block place.start next)
          i.serves e.halts);
      written = rw (err_from_is_err_and c.from_residual.result c.from_residual.ensures.1).1 tt;
      stops = on_err c.from_residual.result (λ first tells s events is kept.
          let r = i.written first (e.told tells) s events is kept in
          stops_after c.loop-done.done c.args.from.now r c.loop-done-test.true next.begins (e.stops first tells r.t (events ++ r.new) r.now r.kept_is));
    }

start_side : (offset done size start : ℕ) → start ≡ (offset + done) % 512 → done < size → (done ≡ 0) ⊎ (((offset + done) % 512 ≡ 0) ⊎ (done ≡ size)) → (done ≡ 0) ⊎ (start ≡ 0)
start_side offset done size start is lt (inl first) = inl first
start_side offset done size start is lt (inr (inl whole)) = inr (is ∙ whole)
start_side offset done size start is lt (inr (inr last)) = absurd (omega arith)

pub loop-done-preserved : goal.loop-done-preserved
loop-done-preserved g c =
    let i = c.loop-done.invariant in
    let e = c.in_ok-write_part.ensures in
    let done = c.loop-done.done in
    let part = c.at-part.result in
    let place = c.at-part.ensures in
    let n_is : done + part.length - done ≡ part.length = omega arith in
    let piece : take (done + part.length - done) (drop done c.args.from.now) ≡ take part.length (drop done c.args.from.now) = ap (λ (x : ℕ). take x (drop done c.args.from.now)) n_is in
    let within : done + part.length ≤ length c.args.from.now = omega (arith, place.length, i.within) in
    record {
      within = within;
      whole = at_start_next c.args.offset done (length c.args.from.now) part.length place.length c.loop-done-test.true;
      size = e.size ∙ i.size;
      told = λ t. i.told (e.told t);
      keeps = keeps_then _ _ _ _ i.keeps e.keeps;
      serves = by_then _ _ _ _
          (asked_write c.args.offset done part.block part.start part.length c.args.from.now _ within piece place.block place.start (next_part c.args.offset done (length c.args.from.now) part.length place.length c.loop-done-test.true i.whole))
          i.serves e.serves;
      written = λ first tells s events is kept.
          let r = i.written first (e.told tells) s events is kept in
          written_more done c.args.from.now part.block part.start part.length _ r (omega (arith, place.block, place.start)) (omega (arith, place.start, place.length)) (omega (arith, place.length, place.start, c.loop-done-test.true)) within
          (start_side c.args.offset done (length c.args.from.now) part.start place.start c.loop-done-test.true i.whole) piece (e.written first tells r.t (events ++ r.new) r.now r.kept_is);
    }

pub returns : goal.returns
returns g c = record {
  size = c.loop-done.invariant.size;
  told = c.loop-done.invariant.told;
  keeps = c.loop-done.invariant.keeps;
  serves =
      let b = g.B.Blocks in
      subst (λ (x : List ℕ). KeepsBy b.kept c.args.blocks.now c.loop-done.blocks (ArePartsWritten c.args.offset x)) (take_all c.loop-done.done c.args.from.now (omega (arith, c.loop-done-test.false))) c.loop-done.invariant.serves;
  halts = tt;
  written = λ first tells s events is kept.
      let b = g.B.Blocks in
      subst (λ (x : List ℕ). HasWritten (b.stands c.loop-done.blocks) (b.halted c.loop-done.blocks) (b.kept first c.loop-done.blocks) s events c.args.offset x)
      (take_all c.loop-done.done c.args.from.now (omega (arith, c.loop-done-test.false)))
      (c.loop-done.invariant.written first tells s events is kept);
  stops = tt;
}
