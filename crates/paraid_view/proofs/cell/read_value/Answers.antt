use Rattle.std.proofs.Common.{◌≡◌, ◌≢◌, ℕ, ◌∙◌, Some, true, sym, ap, Option, subst}
use Rattle.std.proofs.lemmas.Bool.{false≢true}
use Rattle.paraid_image.specs.Spot.{is_hard}
use Rattle.paraid_image.specs.Standing.{Contents}
use Rattle.paraid_image.specs.Value.{reconstructed_value}
use Rattle.paraid_txn.specs.Stores.{store_rack}
use Rattle.paraid_view.specs.Reads.{CanRead, seen_by}
use Rattle.paraid_view.proofs.ReadLemmas.{off_same}
use Rattle.paraid_view.proofs.ValueLemmas.{far_is, ok_map, value_far, value_near, err_map, same_disk}
use Rattle.paraid_view.proofs.cell.read_value.Goals.{else-is_at-via-then-is_at+else-is_hard, else-is_at-via-else-is_at}
use Rattle.paraid_view.proofs.cell.read_value.Goals as goal

pub returns-clause-value : goal.returns-clause-value
returns-clause-value g c =
    ok_map c.read_near.result (λ value. λ f shows some.
    value f shows some ∙ sym (value_near (seen_by c.args.meta.now c.args.dirty.now c.args.out f) c.args.r c.args.d (near f))) c.read_near.ensures.value
  where
    near : (f : Contents) → is_hard (seen_by c.args.meta.now c.args.dirty.now c.args.out f) c.args.r c.args.d ≡ true → c.args.out ≢ Some c.args.d
    near f hard out = elim c.else-is_at.branch [
      | else-is_at-via-then-is_at+else-is_hard w ↦ false≢true (sym w.if-is_hard.false ∙ w.is_hard.ensures.value c.args.out f ∙ hard)
      | else-is_at-via-else-is_at w ↦ false≢true (sym w.if-is_at.false ∙ c.is_at.ensures.1 out)
    ]

pub returns-clause-off : goal.returns-clause-off
returns-clause-off g c = c.read_near.ensures.off

pub returns-clause-read : goal.returns-clause-read
returns-clause-read g c = c.read_near.ensures.read

pub returns-clause-below : goal.returns-clause-below
returns-clause-below g c = c.read_near.ensures.below

pub returns-clause-failed : goal.returns-clause-failed
returns-clause-failed g c = c.read_near.ensures.failed

pub returns-then-is_hard : goal.returns-then-is_hard
returns-then-is_hard g c = record {
  read = c.read_others.ensures.read;
  below = c.read_others.ensures.below;
  failed = err_map {Q = λ e. c.args.out ≢ Some e} c.read_others.result (λ e not is. not (same_disk (sym (c.is_at.ensures.0 c.if-is_at.true) ∙ is))) c.read_others.ensures.failed;
  off = off_same c.args.out _ _ _ (c.is_at.ensures.0 c.if-is_at.true) c.read_others.ensures.off;
  value =
      ok_map c.read_others.result (λ value. λ f shows some.
      let m = c.args.meta.now in
      let out : c.args.out ≡ Some c.args.d = c.is_at.ensures.0 c.if-is_at.true in
      value f shows some ∙ far_is (seen_by m c.args.dirty.now (Some c.args.d) f) c.args.r c.args.d ∙ ap (λ (o : Option ℕ). reconstructed_value (seen_by m c.args.dirty.now o f) c.args.r c.args.d) (sym out)
      ∙ sym (value_far (seen_by m c.args.dirty.now c.args.out f) c.args.r c.args.d (sym (c.is_hard.ensures.value c.args.out f) ∙ c.if-is_hard.true) out)) c.read_others.ensures.value;
}

pub read_others-requires-clause-ready : goal.read_others-requires-clause-ready
read_others-requires-clause-ready g c =
    subst (λ (o : Option ℕ). CanRead (g.R.Rack.slot_count (store_rack c.args.store.now)) (g.R.Rack.slot (store_rack c.args.store.now)) c.args.meta.now o) (c.is_at.ensures.0 c.if-is_at.true) c.requires.ready
