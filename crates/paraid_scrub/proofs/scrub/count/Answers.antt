use Rattle.std.proofs.lemmas.Bool.{false≢true, true≢false}
use Rattle.std.proofs.Common.{◌≡◌, ◌<◌, ◌+◌, ◌∙◌, arith, sym, ap, subst}
use Rattle.std.specs.Prelude.{ℕ, Option}
use Rattle.paraid_record.specs.declared.meta.Meta.{Meta}
use Rattle.paraid_image.specs.Out.{named_out}
use Rattle.paraid_scrub.specs.Counts.{CountBelow, IsOff, total}
use Rattle.paraid_scrub.proofs.LookedLemmas.{add_small, count_more, count_none, keeps_none, keeps_shows, keeps_then}
use Rattle.paraid_scrub.proofs.PartLemmas.{part_first, part_whole}
use Rattle.paraid_scrub.specs.declared.ending.Ending.TheVariants.{Lost}
use Rattle.paraid_scrub.proofs.scrub.count.Goals as goal

pub loop-at-init : goal.loop-at-init
loop-at-init g c = record {
  kept = keeps_none c.args.core.now (g.met.C.Stored.stays c.args.core.now c.requires.usable) c.requires.usable (λ v s. count_none (IsOff v c.args.kind));
  few = omega arith;
}

pub is_off-requires : goal.is_off-requires
is_off-requires g c = record {
  usable = c.loop-at.invariant.kept.still;
  at =
      let size : c.members-size.result ≡ total (g.C.Stored.meta c.args.core.now) (named_out (g.C.Stored.meta c.args.core.now).out) c.args.kind = c.members-size.ensures ∙ ap (λ (z : Meta). total z (named_out z.out) c.args.kind) c.meta.ensures.value in
      subst (λ (z : Meta). c.loop-at.at < total z (named_out z.out) c.args.kind) (sym c.loop-at.invariant.kept.same) (omega (arith, size));
}

pub loop-at-preserved : goal.loop-at-preserved
loop-at-preserved g c =
    let i = c.loop-at.invariant in
    record {
      kept = keeps_then (λ v. CountBelow (IsOff v c.args.kind) (c.loop-at.at + 1) (c.loop-at.found + c.one_if-found.result)) g.met.C.Stored.then g.met.C.Stored.told i.kept c.in-Ok.ensures.shown
          (λ v s count is. count_more (IsOff v c.args.kind) c.loop-at.at c.loop-at.found c.one_if-found.result c.in-Ok.off is count c.one_if-found.ensures);
      few = let few = i.few in let small = add_small c.one_if-found.result c.in-Ok.off c.one_if-found.ensures in omega (arith, few, small);
    }

pub returns : goal.returns
returns g c = record {
  kept = λ whole. keeps_shows c.loop-at.invariant.kept;
  ended = λ not. absurd (true≢false not);
  two = tt;
  counts = λ v s tells.
      let a = g.met.C.Stored.agrees c.args.core.now v s in
      let all : c.loop-at.at ≡ c.members-size.result = omega arith in
      let size = c.members-size.ensures ∙ ap (λ (z : Meta). total z (named_out z.out) c.args.kind) (c.meta.ensures.value ∙ sym a.0) ∙ ap (λ (o : Option ℕ). total v.meta o c.args.kind) (ap (λ (z : Meta). named_out z.out) a.0 ∙ sym a.1) in
      part_whole v c.args.kind c.loop-at.at c.loop-at.found (total v.meta v.out c.args.kind) (all ∙ size) (c.loop-at.invariant.kept.shown v s tells).1;
  most =
      let all : c.loop-at.at ≡ c.members-size.result = omega arith in
      let few = c.loop-at.invariant.few in
      let size : c.members-size.result ≡ total (g.C.Stored.meta c.args.core.now) (named_out (g.C.Stored.meta c.args.core.now).out) c.args.kind = c.members-size.ensures ∙ ap (λ (z : Meta). total z (named_out z.out) c.args.kind) c.meta.ensures.value in
      omega (arith, all, few, size);
}

pub overflow_add-found : goal.overflow_add-found
overflow_add-found g c =
    let few = c.loop-at.invariant.few in
    let small = add_small c.one_if-found.result c.in-Ok.off c.one_if-found.ensures in
    let more = c.loop-at-test.true in
    omega (arith, few, small, more)

pub returns-in-Err-Lost : goal.returns-in-Err-Lost
returns-in-Err-Lost g c = record {
  kept = λ whole. absurd (false≢true whole);
  ended = λ not. g.met.C.Stored.then_lost _ _ _ Lost c.loop-at.invariant.kept.goes (subst (g.C.Stored.loses c.loop-at.core c.is_off.new.core) c.in-Err-Lost.field-0-is c.in-Err-Lost.ensures.lost);
  two = tt;
  counts = λ v s tells.
      let a = g.met.C.Stored.agrees c.args.core.now v s in
      let size : c.members-size.result ≡ total v.meta v.out c.args.kind = c.members-size.ensures ∙ ap (λ (z : Meta). total z (named_out z.out) c.args.kind) (c.meta.ensures.value ∙ sym a.0) ∙ ap (λ (o : Option ℕ). total v.meta o c.args.kind) (ap (λ (z : Meta). named_out z.out) a.0 ∙ sym a.1) in
      let more = c.loop-at-test.true in
      let before = g.met.C.Stored.told_lost _ _ _ c.in-Err-Lost.ensures.lost tells in
      part_first v c.args.kind c.loop-at.at c.loop-at.found (total v.meta v.out c.args.kind) (omega (arith, size, more)) (c.loop-at.invariant.kept.shown v s before).1;
  most =
      let more = c.loop-at-test.true in
      let few = c.loop-at.invariant.few in
      let size : c.members-size.result ≡ total (g.C.Stored.meta c.args.core.now) (named_out (g.C.Stored.meta c.args.core.now).out) c.args.kind = c.members-size.ensures ∙ ap (λ (z : Meta). total z (named_out z.out) c.args.kind) c.meta.ensures.value in
      omega (arith, more, few, size);
}
