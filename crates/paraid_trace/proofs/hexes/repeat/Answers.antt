use Rattle.std.proofs.Common.{arith, ap, get_or, replicate, length, take, ◌%◌, ◌<◌, ◌≡◌, ◌∙◌, sym}
use Rattle.std.proofs.lemmas.List.{get_or-replicate, get_or-take, length-replicate, length-take-le}
use Rattle.std.proofs.Math.Nat.{mod-lt, mod_self}
use Rattle.paraid_trace.proofs.RepeatsLemmas.{repeating_block-bytes}
use Rattle.paraid_trace.proofs.RepeatSteps.{doubled, first_turn, turned}
use Rattle.paraid_trace.proofs.hexes.repeat.Goals as goal

pub loop-done-init : goal.loop-done-init
loop-done-init c =
    let bytes = c.args.bytes.now in
    let pattern = take c.args.length bytes in
    let whole = c.told-bytes in
    let within = c.requires.within in
    let size : length pattern ≡ c.args.length = length-take-le c.args.length bytes (omega (arith, whole, within)) in
    record {
      whole = whole;
      some = c.requires.some;
      within = within;
      turns = λ lt. ap (λ n. n % length pattern) (sym size) ∙ mod_self (length pattern);
      each = first_turn pattern bytes c.args.length (omega (arith, size)) (λ k lt. sym (get_or-take c.args.length bytes k 0 lt));
    }

pub loop-done-preserved : goal.loop-done-preserved
loop-done-preserved c =
    let pattern = take c.args.length c.args.bytes.now in
    let i = c.loop-done.invariant in
    let below : c.loop-done.done < 512 = c.loop-done-test.true in
    record {
      whole = omega (arith, c.copy_within.ensures.len, i.whole);
      some = omega (arith, i.some);
      within = omega arith;
      turns = λ lt.
          let same : c.min-more.result ≡ c.loop-done.done = omega arith in
          turned c.loop-done.done c.min-more.result (length pattern) (i.turns below) ∙ ap (λ n. n % length pattern) same ∙ i.turns below;
      each = doubled pattern c.loop-done.bytes c.copy_within.new.self c.loop-done.done c.min-more.result i.each (i.turns below) (omega arith) c.copy_within.ensures.by_index.0 (λ k d lt. c.copy_within.ensures.by_index.1 k d lt);
    }

pub returns : goal.returns
returns c =
    let bytes = c.args.bytes.now in
    let pattern = take c.args.length bytes in
    let whole = c.told-bytes in
    let within = c.requires.within in
    let some = c.requires.some in
    let past = c.loop-done-test.false in
    let size : length pattern ≡ c.args.length = length-take-le c.args.length bytes (omega (arith, whole, within)) in
    repeating_block-bytes pattern c.loop-done.bytes c.loop-done.invariant.whole (λ k lt.
    let each = c.loop-done.invariant.each k (omega (arith, lt, past)) in
    let near : k % length pattern < length pattern = mod-lt k (omega (arith, size, some)) in
    let there = get_or-take c.args.length bytes (k % length pattern) 0 (omega (arith, near, size)) in
    let small = c.fits-bytes (k % length pattern) in
    omega (arith, each, there, small))

pub returns-then-length-eq1 : goal.returns-then-length-eq1
returns-then-length-eq1 c =
    let bytes = c.args.bytes.now in
    let first = get_or bytes 0 0 in
    let pattern = take c.args.length bytes in
    let one = c.if-length-eq1.true in
    let size : length pattern ≡ 1 = length-take-le c.args.length bytes (omega (arith, c.told-bytes, one)) ∙ one in
    repeating_block-bytes pattern (replicate 512 first) (length-replicate 512 first) (λ k lt.
    let copy = get_or-replicate 512 k first 0 lt in
    let near : k % length pattern ≡ 0 = ap (λ n. k % n) size ∙ omega arith in
    let there = ap (λ i. get_or pattern i 0) near ∙ get_or-take c.args.length bytes 0 0 c.requires.some in
    let small = c.fits-bytes 0 in
    omega (arith, copy, there, small))
