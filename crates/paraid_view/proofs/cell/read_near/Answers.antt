use Rattle.std.proofs.Common.{◌≡◌, ◌≢◌, ◌≤◌, ◌∙◌, Some, true, sym, ap, arith}
use Rattle.paraid_base.specs.Regions.{disk_size}
use Rattle.paraid_base.specs.Xor.{zero_block}
use Rattle.paraid_image.specs.Spot.{is_hard}
use Rattle.paraid_image.specs.Standing.{Contents}
use Rattle.paraid_txn.specs.Stores.{store_rack}
use Rattle.paraid_view.specs.Reads.{seen_by}
use Rattle.paraid_view.proofs.ValueLemmas.{err_map, hard_powered, near_hard, near_soft, ok_map}
use Rattle.paraid_view.proofs.cell.read_near.Goals as goal

blank : Contents
blank d p = zero_block

pub read_laid-requires-clause-spinning : goal.read_laid-requires-clause-spinning
read_laid-requires-clause-spinning g c =
    let m = c.args.meta.now in
    let hard : is_hard (seen_by m c.args.dirty.now c.args.out blank) c.args.r c.args.d ≡ true = sym (c.is_hard.ensures.value c.args.out blank) ∙ c.if-is_hard.true in
    c.requires.ready.spins c.args.d (hard_powered (seen_by m c.args.dirty.now c.args.out blank) c.args.r c.args.d hard) (c.requires.near blank hard)

pub read_laid-requires-clause-within : goal.read_laid-requires-clause-within
read_laid-requires-clause-within g c =
    let m = c.args.meta.now in
    let hard : is_hard (seen_by m c.args.dirty.now c.args.out blank) c.args.r c.args.d ≡ true = sym (c.is_hard.ensures.value c.args.out blank) ∙ c.if-is_hard.true in
    let large : disk_size m.setup.geometry ≤ (g.R.Rack.slot (store_rack c.args.store.now) c.args.d).size =
    c.requires.ready.large c.args.d (hard_powered (seen_by m c.args.dirty.now c.args.out blank) c.args.r c.args.d hard) (c.requires.near blank hard) in
    let k = c.hard_place.ensures.before_regions in omega arith

pub returns-then-is_hard : goal.returns-then-is_hard
returns-then-is_hard g c = record {
  read = c.read_laid.ensures.read;
  below = c.read_laid.ensures.below;
  failed =
      let m = c.args.meta.now in
      let hard : is_hard (seen_by m c.args.dirty.now c.args.out blank) c.args.r c.args.d ≡ true = sym (c.is_hard.ensures.value c.args.out blank) ∙ c.if-is_hard.true in
      err_map {Q = λ e. c.args.out ≢ Some e} c.read_laid.result (λ e is. λ out. c.requires.near blank hard (out ∙ ap Some is)) c.read_laid.ensures.failed;
  off =
      let m = c.args.meta.now in
      let hard : is_hard (seen_by m c.args.dirty.now c.args.out blank) c.args.r c.args.d ≡ true = sym (c.is_hard.ensures.value c.args.out blank) ∙ c.if-is_hard.true in
      c.read_laid.ensures.off c.args.out (c.requires.near blank hard);
  value =
      ok_map c.read_laid.result (λ value. λ f shows some.
      let m = c.args.meta.now in
      value f shows some ∙ ap (f c.args.d) c.hard_place.ensures.value
      ∙ sym (near_hard (seen_by m c.args.dirty.now c.args.out f) c.args.r c.args.d (sym (c.is_hard.ensures.value c.args.out f) ∙ c.if-is_hard.true))) c.read_laid.ensures.value;
}

pub returns : goal.returns
returns g c = record {
  read = c.read_soft.ensures.read;
  below = c.read_soft.ensures.below;
  failed = c.read_soft.ensures.failed;
  off = c.read_soft.ensures.off;
  value =
      ok_map c.read_soft.result (λ value. λ f shows some.
      let m = c.args.meta.now in
      value f c.args.dirty.now shows some
      ∙ sym (near_soft (seen_by m c.args.dirty.now c.args.out f) c.args.r c.args.d (sym (c.is_hard.ensures.value c.args.out f) ∙ c.if-is_hard.false))) c.read_soft.ensures.value;
}

pub read_laid-requires-clause-exists : goal.read_laid-requires-clause-exists
read_laid-requires-clause-exists g c = let enough = c.requires.ready.enough in let low = c.requires.disk in omega (arith, enough, low)

pub read_laid-requires-clause-below : goal.read_laid-requires-clause-below
read_laid-requires-clause-below g c = let array = c.requires.array in let low = c.requires.disk in omega (arith, array, low)

pub read_laid-requires-clause-past_log : goal.read_laid-requires-clause-past_log
read_laid-requires-clause-past_log g c = let after = c.hard_place.ensures.after_map in omega (arith, after)

pub read_soft-requires-clause-parked : goal.read_soft-requires-clause-parked
read_soft-requires-clause-parked g c = c.is_hard.ensures.parked c.if-is_hard.false
