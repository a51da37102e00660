use Rattle.paraid_core.proofs.ErrLemmas.{none_done_if}
use Rattle.std.proofs.Common.{ℕ, ◌≡◌, ◌≤◌, arith, refl, subst, sym, ◌∙◌}
use Rattle.paraid_record.specs.declared.meta.Meta.{Meta}
use Rattle.paraid_image.specs.Out.{named_out}
use Rattle.paraid_scrub.specs.Counts.{total}
use Rattle.paraid_scrub.specs.declared.kind.Kind.{Kind}
use Rattle.paraid_scrub.specs.declared.kind.Kind.TheVariants.{Row, Stripe, Fill, Unit as RebuiltUnit, Mirror}
use Rattle.std.proofs.lemmas.Bool.{false≢true}
use Rattle.paraid_core.proofs.AfterLemmas.{handed}
use Rattle.paraid_scrub.proofs.LookedLemmas.{keeps_chain}
use Rattle.paraid_scrub.proofs.PartLemmas.{counts_1, counts_2, counts_3, counts_4, counts_5, told_by, was_not_whole, was_whole}
use Rattle.paraid_scrub.specs.declared.ending.Ending.TheVariants.{Lost}
use Rattle.paraid_scrub.proofs.five.count_all.Goals as goal

-- a count of members by a meta that is the same
at_most : (m : Meta) (kind : Kind) (x found : ℕ) (n : Meta) → n ≡ m → x ≡ found → found ≤ total n (named_out n.out) kind → x ≤ total m (named_out m.out) kind
at_most m kind x found n same is most = subst (λ (k : ℕ). k ≤ total m (named_out m.out) kind) (sym is) (subst (λ (z : Meta). found ≤ total z (named_out z.out) kind) same most)

none_most : (x m : ℕ) → x ≡ 0 → x ≤ m
none_most x m is = omega (arith, is)

pub returns-then-not-rows : goal.returns-then-not-rows
returns-then-not-rows g c = record {
  kept = λ whole. absurd (false≢true (sym c.so_far.ensures.whole ∙ whole));
  ended = λ not. c.in_ok-rows.ensures.ended (was_not_whole _ c.if-not-rows.true);
  most = record {
    rows = at_most (g.C.Stored.meta c.args.core.now) Row _ c.in_ok-rows.rows.found _ refl c.so_far.ensures.rows c.in_ok-rows.ensures.most;
    stripes = none_most _ _ c.so_far.ensures.stripes;
    fill = none_most _ _ c.so_far.ensures.fill;
    units = none_most _ _ c.so_far.ensures.units;
    mirrors = none_most _ _ c.so_far.ensures.mirrors;
  };
  two = tt;
  counts = λ v s0 t1. counts_1 v c.in_ok-rows.rows.found c.in_ok-rows.rows.whole (c.in_ok-rows.ensures.counts v s0 t1) c.so_far.result.report c.so_far.ensures.rows c.so_far.ensures.stripes c.so_far.ensures.fill c.so_far.ensures.units c.so_far.ensures.mirrors c.so_far.result.whole (λ l. false≢true (sym c.so_far.ensures.whole ∙ l));
}

pub returns-then-not-stripes : goal.returns-then-not-stripes
returns-then-not-stripes g c = record {
  kept = λ whole. absurd (false≢true (sym c.so_far-then-not-stripes.ensures.whole ∙ whole));
  ended = λ not. g.met.C.Stored.then_lost _ _ _ Lost (c.in_ok-rows.ensures.kept (was_whole _ c.if-not-rows.false)).goes (c.in_ok-stripes.ensures.ended (was_not_whole _ c.if-not-stripes.true));
  most = record {
    rows = at_most (g.C.Stored.meta c.args.core.now) Row _ c.in_ok-rows.rows.found _ refl c.so_far-then-not-stripes.ensures.rows c.in_ok-rows.ensures.most;
    stripes = at_most (g.C.Stored.meta c.args.core.now) Stripe _ c.in_ok-stripes.stripes.found _ ((c.in_ok-rows.ensures.kept (was_whole _ c.if-not-rows.false)).same) c.so_far-then-not-stripes.ensures.stripes c.in_ok-stripes.ensures.most;
    fill = none_most _ _ c.so_far-then-not-stripes.ensures.fill;
    units = none_most _ _ c.so_far-then-not-stripes.ensures.units;
    mirrors = none_most _ _ c.so_far-then-not-stripes.ensures.mirrors;
  };
  two = tt;
  counts = λ v s0 t2.
      let t1 = g.met.C.Stored.told_lost _ _ Lost (c.in_ok-stripes.ensures.ended (was_not_whole _ c.if-not-stripes.true)) t2 in
      let s1 = ((c.in_ok-rows.ensures.kept (was_whole _ c.if-not-rows.false)).shown v s0 t1).0 in
      counts_2 v c.in_ok-rows.rows.found c.in_ok-stripes.stripes.found c.in_ok-rows.rows.whole (c.in_ok-rows.ensures.counts v s0 t1) (was_whole _ c.if-not-rows.false) c.in_ok-stripes.stripes.whole (c.in_ok-stripes.ensures.counts v s1 t2) c.so_far-then-not-stripes.result.report c.so_far-then-not-stripes.ensures.rows c.so_far-then-not-stripes.ensures.stripes c.so_far-then-not-stripes.ensures.fill c.so_far-then-not-stripes.ensures.units c.so_far-then-not-stripes.ensures.mirrors c.so_far-then-not-stripes.result.whole (λ l. false≢true (sym c.so_far-then-not-stripes.ensures.whole ∙ l));
}

pub returns-then-not-fill : goal.returns-then-not-fill
returns-then-not-fill g c = record {
  kept = λ whole. absurd (false≢true (sym c.so_far-then-not-fill.ensures.whole ∙ whole));
  ended = λ not. g.met.C.Stored.then_lost _ _ _ Lost (c.in_ok-rows.ensures.kept (was_whole _ c.if-not-rows.false)).goes (g.met.C.Stored.then_lost _ _ _ Lost (c.in_ok-stripes.ensures.kept (was_whole _ c.if-not-stripes.false)).goes (c.in_ok-fill.ensures.ended (was_not_whole _ c.if-not-fill.true)));
  most = record {
    rows = at_most (g.C.Stored.meta c.args.core.now) Row _ c.in_ok-rows.rows.found _ refl c.so_far-then-not-fill.ensures.rows c.in_ok-rows.ensures.most;
    stripes = at_most (g.C.Stored.meta c.args.core.now) Stripe _ c.in_ok-stripes.stripes.found _ ((c.in_ok-rows.ensures.kept (was_whole _ c.if-not-rows.false)).same) c.so_far-then-not-fill.ensures.stripes c.in_ok-stripes.ensures.most;
    fill = at_most (g.C.Stored.meta c.args.core.now) Fill _ c.in_ok-fill.fill.found _ ((c.in_ok-stripes.ensures.kept (was_whole _ c.if-not-stripes.false)).same ∙ (c.in_ok-rows.ensures.kept (was_whole _ c.if-not-rows.false)).same) c.so_far-then-not-fill.ensures.fill c.in_ok-fill.ensures.most;
    units = none_most _ _ c.so_far-then-not-fill.ensures.units;
    mirrors = none_most _ _ c.so_far-then-not-fill.ensures.mirrors;
  };
  two = tt;
  counts = λ v s0 t3.
      let t2 = g.met.C.Stored.told_lost _ _ Lost (c.in_ok-fill.ensures.ended (was_not_whole _ c.if-not-fill.true)) t3 in
      let t1 = g.met.C.Stored.told _ _ (c.in_ok-stripes.ensures.kept (was_whole _ c.if-not-stripes.false)).goes t2 in
      let s1 = ((c.in_ok-rows.ensures.kept (was_whole _ c.if-not-rows.false)).shown v s0 t1).0 in
      let s2 = ((c.in_ok-stripes.ensures.kept (was_whole _ c.if-not-stripes.false)).shown v s1 t2).0 in
      counts_3 v c.in_ok-rows.rows.found c.in_ok-stripes.stripes.found c.in_ok-fill.fill.found c.in_ok-rows.rows.whole (c.in_ok-rows.ensures.counts v s0 t1) (was_whole _ c.if-not-rows.false) c.in_ok-stripes.stripes.whole (c.in_ok-stripes.ensures.counts v s1 t2) (was_whole _ c.if-not-stripes.false) c.in_ok-fill.fill.whole (c.in_ok-fill.ensures.counts v s2 t3) c.so_far-then-not-fill.result.report c.so_far-then-not-fill.ensures.rows c.so_far-then-not-fill.ensures.stripes c.so_far-then-not-fill.ensures.fill c.so_far-then-not-fill.ensures.units c.so_far-then-not-fill.ensures.mirrors c.so_far-then-not-fill.result.whole (λ l. false≢true (sym c.so_far-then-not-fill.ensures.whole ∙ l));
}

pub returns-then-not-units : goal.returns-then-not-units
returns-then-not-units g c = record {
  kept = λ whole. absurd (false≢true (sym c.so_far-then-not-units.ensures.whole ∙ whole));
  ended = λ not. g.met.C.Stored.then_lost _ _ _ Lost (c.in_ok-rows.ensures.kept (was_whole _ c.if-not-rows.false)).goes (g.met.C.Stored.then_lost _ _ _ Lost (c.in_ok-stripes.ensures.kept (was_whole _ c.if-not-stripes.false)).goes (g.met.C.Stored.then_lost _ _ _ Lost (c.in_ok-fill.ensures.kept (was_whole _ c.if-not-fill.false)).goes (c.in_ok-units.ensures.ended (was_not_whole _ c.if-not-units.true))));
  most = record {
    rows = at_most (g.C.Stored.meta c.args.core.now) Row _ c.in_ok-rows.rows.found _ refl c.so_far-then-not-units.ensures.rows c.in_ok-rows.ensures.most;
    stripes = at_most (g.C.Stored.meta c.args.core.now) Stripe _ c.in_ok-stripes.stripes.found _ ((c.in_ok-rows.ensures.kept (was_whole _ c.if-not-rows.false)).same) c.so_far-then-not-units.ensures.stripes c.in_ok-stripes.ensures.most;
    fill = at_most (g.C.Stored.meta c.args.core.now) Fill _ c.in_ok-fill.fill.found _ ((c.in_ok-stripes.ensures.kept (was_whole _ c.if-not-stripes.false)).same ∙ (c.in_ok-rows.ensures.kept (was_whole _ c.if-not-rows.false)).same) c.so_far-then-not-units.ensures.fill c.in_ok-fill.ensures.most;
    units = at_most (g.C.Stored.meta c.args.core.now) RebuiltUnit _ c.in_ok-units.units.found _ ((c.in_ok-fill.ensures.kept (was_whole _ c.if-not-fill.false)).same ∙ (c.in_ok-stripes.ensures.kept (was_whole _ c.if-not-stripes.false)).same ∙ (c.in_ok-rows.ensures.kept (was_whole _ c.if-not-rows.false)).same) c.so_far-then-not-units.ensures.units c.in_ok-units.ensures.most;
    mirrors = none_most _ _ c.so_far-then-not-units.ensures.mirrors;
  };
  two = tt;
  counts = λ v s0 t4.
      let t3 = g.met.C.Stored.told_lost _ _ Lost (c.in_ok-units.ensures.ended (was_not_whole _ c.if-not-units.true)) t4 in
      let t2 = g.met.C.Stored.told _ _ (c.in_ok-fill.ensures.kept (was_whole _ c.if-not-fill.false)).goes t3 in
      let t1 = g.met.C.Stored.told _ _ (c.in_ok-stripes.ensures.kept (was_whole _ c.if-not-stripes.false)).goes t2 in
      let s1 = ((c.in_ok-rows.ensures.kept (was_whole _ c.if-not-rows.false)).shown v s0 t1).0 in
      let s2 = ((c.in_ok-stripes.ensures.kept (was_whole _ c.if-not-stripes.false)).shown v s1 t2).0 in
      let s3 = ((c.in_ok-fill.ensures.kept (was_whole _ c.if-not-fill.false)).shown v s2 t3).0 in
      counts_4 v c.in_ok-rows.rows.found c.in_ok-stripes.stripes.found c.in_ok-fill.fill.found c.in_ok-units.units.found c.in_ok-rows.rows.whole (c.in_ok-rows.ensures.counts v s0 t1) (was_whole _ c.if-not-rows.false) c.in_ok-stripes.stripes.whole (c.in_ok-stripes.ensures.counts v s1 t2) (was_whole _ c.if-not-stripes.false) c.in_ok-fill.fill.whole (c.in_ok-fill.ensures.counts v s2 t3) (was_whole _ c.if-not-fill.false) c.in_ok-units.units.whole (c.in_ok-units.ensures.counts v s3 t4) c.so_far-then-not-units.result.report c.so_far-then-not-units.ensures.rows c.so_far-then-not-units.ensures.stripes c.so_far-then-not-units.ensures.fill c.so_far-then-not-units.ensures.units c.so_far-then-not-units.ensures.mirrors c.so_far-then-not-units.result.whole (λ l. false≢true (sym c.so_far-then-not-units.ensures.whole ∙ l));
}

pub returns : goal.returns
returns g c = record {
  kept = λ whole. keeps_chain g.met.C.Stored.then g.met.C.Stored.told (c.in_ok-rows.ensures.kept (was_whole _ c.if-not-rows.false)) (keeps_chain g.met.C.Stored.then g.met.C.Stored.told (c.in_ok-stripes.ensures.kept (was_whole _ c.if-not-stripes.false)) (keeps_chain g.met.C.Stored.then g.met.C.Stored.told (c.in_ok-fill.ensures.kept (was_whole _ c.if-not-fill.false)) (keeps_chain g.met.C.Stored.then g.met.C.Stored.told (c.in_ok-units.ensures.kept (was_whole _ c.if-not-units.false)) (c.in_ok-mirrors.ensures.kept (sym c.so_far-2.ensures.whole ∙ whole)))));
  ended = λ not. g.met.C.Stored.then_lost _ _ _ Lost (c.in_ok-rows.ensures.kept (was_whole _ c.if-not-rows.false)).goes (g.met.C.Stored.then_lost _ _ _ Lost (c.in_ok-stripes.ensures.kept (was_whole _ c.if-not-stripes.false)).goes (g.met.C.Stored.then_lost _ _ _ Lost (c.in_ok-fill.ensures.kept (was_whole _ c.if-not-fill.false)).goes (g.met.C.Stored.then_lost _ _ _ Lost (c.in_ok-units.ensures.kept (was_whole _ c.if-not-units.false)).goes (c.in_ok-mirrors.ensures.ended (sym c.so_far-2.ensures.whole ∙ not)))));
  most = record {
    rows = at_most (g.C.Stored.meta c.args.core.now) Row _ c.in_ok-rows.rows.found _ refl c.so_far-2.ensures.rows c.in_ok-rows.ensures.most;
    stripes = at_most (g.C.Stored.meta c.args.core.now) Stripe _ c.in_ok-stripes.stripes.found _ ((c.in_ok-rows.ensures.kept (was_whole _ c.if-not-rows.false)).same) c.so_far-2.ensures.stripes c.in_ok-stripes.ensures.most;
    fill = at_most (g.C.Stored.meta c.args.core.now) Fill _ c.in_ok-fill.fill.found _ ((c.in_ok-stripes.ensures.kept (was_whole _ c.if-not-stripes.false)).same ∙ (c.in_ok-rows.ensures.kept (was_whole _ c.if-not-rows.false)).same) c.so_far-2.ensures.fill c.in_ok-fill.ensures.most;
    units = at_most (g.C.Stored.meta c.args.core.now) RebuiltUnit _ c.in_ok-units.units.found _ ((c.in_ok-fill.ensures.kept (was_whole _ c.if-not-fill.false)).same ∙ (c.in_ok-stripes.ensures.kept (was_whole _ c.if-not-stripes.false)).same ∙ (c.in_ok-rows.ensures.kept (was_whole _ c.if-not-rows.false)).same) c.so_far-2.ensures.units c.in_ok-units.ensures.most;
    mirrors = at_most (g.C.Stored.meta c.args.core.now) Mirror _ c.in_ok-mirrors.mirrors.found _ ((c.in_ok-units.ensures.kept (was_whole _ c.if-not-units.false)).same ∙ (c.in_ok-fill.ensures.kept (was_whole _ c.if-not-fill.false)).same ∙ (c.in_ok-stripes.ensures.kept (was_whole _ c.if-not-stripes.false)).same ∙ (c.in_ok-rows.ensures.kept (was_whole _ c.if-not-rows.false)).same) c.so_far-2.ensures.mirrors c.in_ok-mirrors.ensures.most;
  };
  two = tt;
  counts = λ v s0 t5.
      let t4 = told_by c.in_ok-mirrors.mirrors.whole (λ w. g.met.C.Stored.told _ _ (c.in_ok-mirrors.ensures.kept w).goes t5) (λ n. g.met.C.Stored.told_lost _ _ Lost (c.in_ok-mirrors.ensures.ended n) t5) in
      let t3 = g.met.C.Stored.told _ _ (c.in_ok-units.ensures.kept (was_whole _ c.if-not-units.false)).goes t4 in
      let t2 = g.met.C.Stored.told _ _ (c.in_ok-fill.ensures.kept (was_whole _ c.if-not-fill.false)).goes t3 in
      let t1 = g.met.C.Stored.told _ _ (c.in_ok-stripes.ensures.kept (was_whole _ c.if-not-stripes.false)).goes t2 in
      let s1 = ((c.in_ok-rows.ensures.kept (was_whole _ c.if-not-rows.false)).shown v s0 t1).0 in
      let s2 = ((c.in_ok-stripes.ensures.kept (was_whole _ c.if-not-stripes.false)).shown v s1 t2).0 in
      let s3 = ((c.in_ok-fill.ensures.kept (was_whole _ c.if-not-fill.false)).shown v s2 t3).0 in
      let s4 = ((c.in_ok-units.ensures.kept (was_whole _ c.if-not-units.false)).shown v s3 t4).0 in
      counts_5 v c.in_ok-rows.rows.found c.in_ok-stripes.stripes.found c.in_ok-fill.fill.found c.in_ok-units.units.found c.in_ok-mirrors.mirrors.found c.in_ok-rows.rows.whole (c.in_ok-rows.ensures.counts v s0 t1) (was_whole _ c.if-not-rows.false) c.in_ok-stripes.stripes.whole (c.in_ok-stripes.ensures.counts v s1 t2) (was_whole _ c.if-not-stripes.false) c.in_ok-fill.fill.whole (c.in_ok-fill.ensures.counts v s2 t3) (was_whole _ c.if-not-fill.false) c.in_ok-units.units.whole (c.in_ok-units.ensures.counts v s3 t4) (was_whole _ c.if-not-units.false) c.in_ok-mirrors.mirrors.whole (c.in_ok-mirrors.ensures.counts v s4 t5) c.so_far-2.result.report c.so_far-2.ensures.rows c.so_far-2.ensures.stripes c.so_far-2.ensures.fill c.so_far-2.ensures.units c.so_far-2.ensures.mirrors c.so_far-2.result.whole (λ l. sym c.so_far-2.ensures.whole ∙ l);
}

pub returns-in_err-stripes : goal.returns-in_err-stripes
returns-in_err-stripes g c = record {
  kept = none_done_if _ c.from_residual-in_err-stripes.result _ c.from_residual-in_err-stripes.ensures.1;
  ended = none_done_if _ c.from_residual-in_err-stripes.result _ c.from_residual-in_err-stripes.ensures.1;
  two =
      handed _ c.from_residual-in_err-stripes.result _ c.from_residual-in_err-stripes.ensures.1
      (g.met.C.Stored.then_lost _ _ _ _ (c.in_ok-rows.ensures.kept (was_whole _ c.if-not-rows.false)).goes c.in_err-stripes.ensures.two);
  most = none_done_if _ c.from_residual-in_err-stripes.result _ c.from_residual-in_err-stripes.ensures.1;
  counts = none_done_if _ c.from_residual-in_err-stripes.result _ c.from_residual-in_err-stripes.ensures.1;
}

pub returns-in_err-fill : goal.returns-in_err-fill
returns-in_err-fill g c = record {
  kept = none_done_if _ c.from_residual-in_err-fill.result _ c.from_residual-in_err-fill.ensures.1;
  ended = none_done_if _ c.from_residual-in_err-fill.result _ c.from_residual-in_err-fill.ensures.1;
  two =
      handed _ c.from_residual-in_err-fill.result _ c.from_residual-in_err-fill.ensures.1
      (g.met.C.Stored.then_lost _ _ _ _ (c.in_ok-rows.ensures.kept (was_whole _ c.if-not-rows.false)).goes (g.met.C.Stored.then_lost _ _ _ _ (c.in_ok-stripes.ensures.kept (was_whole _ c.if-not-stripes.false)).goes c.in_err-fill.ensures.two));
  most = none_done_if _ c.from_residual-in_err-fill.result _ c.from_residual-in_err-fill.ensures.1;
  counts = none_done_if _ c.from_residual-in_err-fill.result _ c.from_residual-in_err-fill.ensures.1;
}

pub returns-in_err-units : goal.returns-in_err-units
returns-in_err-units g c = record {
  kept = none_done_if _ c.from_residual-in_err-units.result _ c.from_residual-in_err-units.ensures.1;
  ended = none_done_if _ c.from_residual-in_err-units.result _ c.from_residual-in_err-units.ensures.1;
  two =
      handed _ c.from_residual-in_err-units.result _ c.from_residual-in_err-units.ensures.1
      (g.met.C.Stored.then_lost _ _ _ _ (c.in_ok-rows.ensures.kept (was_whole _ c.if-not-rows.false)).goes (g.met.C.Stored.then_lost _ _ _ _ (c.in_ok-stripes.ensures.kept (was_whole _ c.if-not-stripes.false)).goes (g.met.C.Stored.then_lost _ _ _ _ (c.in_ok-fill.ensures.kept (was_whole _ c.if-not-fill.false)).goes c.in_err-units.ensures.two)));
  most = none_done_if _ c.from_residual-in_err-units.result _ c.from_residual-in_err-units.ensures.1;
  counts = none_done_if _ c.from_residual-in_err-units.result _ c.from_residual-in_err-units.ensures.1;
}

pub returns-in_err-mirrors : goal.returns-in_err-mirrors
returns-in_err-mirrors g c = record {
  kept = none_done_if _ c.from_residual-in_err-mirrors.result _ c.from_residual-in_err-mirrors.ensures.1;
  ended = none_done_if _ c.from_residual-in_err-mirrors.result _ c.from_residual-in_err-mirrors.ensures.1;
  two =
      handed _ c.from_residual-in_err-mirrors.result _ c.from_residual-in_err-mirrors.ensures.1
      (g.met.C.Stored.then_lost _ _ _ _ (c.in_ok-rows.ensures.kept (was_whole _ c.if-not-rows.false)).goes (g.met.C.Stored.then_lost _ _ _ _ (c.in_ok-stripes.ensures.kept (was_whole _ c.if-not-stripes.false)).goes (g.met.C.Stored.then_lost _ _ _ _ (c.in_ok-fill.ensures.kept (was_whole _ c.if-not-fill.false)).goes (g.met.C.Stored.then_lost _ _ _ _ (c.in_ok-units.ensures.kept (was_whole _ c.if-not-units.false)).goes c.in_err-mirrors.ensures.two))));
  most = none_done_if _ c.from_residual-in_err-mirrors.result _ c.from_residual-in_err-mirrors.ensures.1;
  counts = none_done_if _ c.from_residual-in_err-mirrors.result _ c.from_residual-in_err-mirrors.ensures.1;
}

pub returns-in_err-rows : goal.returns-in_err-rows
returns-in_err-rows g c = record {
  kept = none_done_if _ c.from_residual.result _ c.from_residual.ensures.1;
  ended = none_done_if _ c.from_residual.result _ c.from_residual.ensures.1;
  two = handed _ c.from_residual.result _ c.from_residual.ensures.1 c.in_err-rows.ensures.two;
  most = none_done_if _ c.from_residual.result _ c.from_residual.ensures.1;
  counts = none_done_if _ c.from_residual.result _ c.from_residual.ensures.1;
}

pub count-requires : goal.count-requires
count-requires g c = record { usable = c.requires.usable }

pub count-requires-2 : goal.count-requires-2
count-requires-2 g c = record { usable = (c.in_ok-rows.ensures.kept (was_whole _ c.if-not-rows.false)).still }

pub count-requires-3 : goal.count-requires-3
count-requires-3 g c = record { usable = (c.in_ok-stripes.ensures.kept (was_whole _ c.if-not-stripes.false)).still }

pub count-requires-4 : goal.count-requires-4
count-requires-4 g c = record { usable = (c.in_ok-fill.ensures.kept (was_whole _ c.if-not-fill.false)).still }

pub count-requires-5 : goal.count-requires-5
count-requires-5 g c = record { usable = (c.in_ok-units.ensures.kept (was_whole _ c.if-not-units.false)).still }
