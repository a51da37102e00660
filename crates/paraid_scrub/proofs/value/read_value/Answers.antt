use Rattle.std.proofs.lemmas.Result.{on_ok_weaker}
use Rattle.std.proofs.Common.{◌≡◌, ◌∙◌, sym, ap}
use Rattle.paraid_record.specs.declared.meta.Meta.{Meta}
use Rattle.paraid_image.specs.Out.{is_out, named_out}
use Rattle.paraid_image.specs.Value.{value}
use Rattle.paraid_scrub.proofs.CellLemmas.{out_here, out_other, value_lost, value_soft, value_there}
use Rattle.paraid_scrub.proofs.LookedLemmas.{keeps_so}
use Rattle.paraid_scrub.proofs.value.read_value.Goals as goal

pub read_near-requires : goal.read_near-requires
read_near-requires g c = record {
  usable = c.requires.usable;
  row = c.requires.row;
  disk = c.requires.disk;
  there =
      let m = g.C.Stored.meta c.args.core.now in
      out_other (named_out m.out) c.args.disk (ap (λ (z : Meta). is_out (named_out z.out) c.args.disk) (sym c.meta.ensures.value) ∙ sym c.names.ensures ∙ c.if-not-names.true);
}

pub returns-then-not-names : goal.returns-then-not-names
returns-then-not-names g c = record {
  shown =
      let m = g.C.Stored.meta c.args.core.now in
      on_ok_weaker c.read_near.result (λ kept. keeps_so (λ v. c.read_near.new.into ≡ value v c.args.row c.args.disk) kept
      (λ v s is.
      let a = g.met.C.Stored.agrees c.args.core.now v s in
      value_there v m a.0 a.1 c.args.row c.args.disk _ (ap (λ (z : Meta). is_out (named_out z.out) c.args.disk) (sym c.meta.ensures.value) ∙ sym c.names.ensures ∙ c.if-not-names.true) is)) c.read_near.ensures.shown;
  lost = c.read_near.ensures.lost;
}

pub read_far-requires : goal.read_far-requires
read_far-requires g c = record {
  usable = c.requires.usable;
  row = c.requires.row;
  out =
      let m = g.C.Stored.meta c.args.core.now in
      out_here (named_out m.out) c.args.disk (ap (λ (z : Meta). is_out (named_out z.out) c.args.disk) (sym c.meta.ensures.value) ∙ sym c.names.ensures ∙ c.if-not-names.false);
}

pub returns-then-is_hard : goal.returns-then-is_hard
returns-then-is_hard g c = record {
  shown =
      let m = g.C.Stored.meta c.args.core.now in
      on_ok_weaker c.read_far.result (λ kept. keeps_so (λ v. c.read_far.new.into ≡ value v c.args.row c.args.disk) kept
      (λ v s is.
      let a = g.met.C.Stored.agrees c.args.core.now v s in
      value_lost v m a.0 a.1 c.args.row c.args.disk _ (ap (λ (z : Meta). is_out (named_out z.out) c.args.disk) (sym c.meta.ensures.value) ∙ sym c.names.ensures ∙ c.if-not-names.false)
      (sym (c.is_hard.ensures.value v s) ∙ c.if-is_hard.true) is)) c.read_far.ensures.shown;
  lost = c.read_far.ensures.lost;
}

pub read_soft-requires : goal.read_soft-requires
read_soft-requires g c = record {
  usable = c.requires.usable;
  row = c.requires.row;
  disk = c.requires.disk;
  parked = c.is_hard.ensures.parked c.if-is_hard.false;
}

pub returns : goal.returns
returns g c = record {
  shown =
      let m = g.C.Stored.meta c.args.core.now in
      on_ok_weaker c.read_soft.result (λ kept. keeps_so (λ v. c.read_soft.new.into ≡ value v c.args.row c.args.disk) kept
      (λ v s is.
      let a = g.met.C.Stored.agrees c.args.core.now v s in
      value_soft v m a.0 a.1 c.args.row c.args.disk _ (sym (c.is_hard.ensures.value v s) ∙ c.if-is_hard.false) is)) c.read_soft.ensures.shown;
  lost = c.read_soft.ensures.lost;
}

pub is_hard-requires : goal.is_hard-requires
is_hard-requires g c = record {
  usable = c.requires.usable;
  row = c.requires.row;
  disk = c.requires.disk;
}
