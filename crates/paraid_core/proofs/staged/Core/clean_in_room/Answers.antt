use Rattle.paraid_record.specs.declared.meta.Meta.{Meta}
use Rattle.paraid_core.specs.Cleaning.{CleansCell}
use Rattle.std.proofs.Common.{◌∙◌, arith, refl, rules, sym, subst, ℕ, ◌<◌}
use Rattle.paraid_core.proofs.BitsLemmas.{cell_cleaned, cell_kept}
use Rattle.paraid_core.proofs.staged.Core.clean_in_room.Goals as goal

pub returns-then-room-lt3 : goal.returns-then-room-lt3
returns-then-room-lt3 g c = record {
  cleaned = c.requires.kept c.if-room-lt3.true;
  bits = cell_kept _ _ _ _ _ (c.requires.kept c.if-room-lt3.true) refl;
  nothing = λ few. (refl, refl);
  stages = record {
    store = refl;
    meta = refl;
    copied = refl;
    draft = c.requires.no_draft;
    ready = c.requires.serving.ready;
    serves = c.requires.serving.serves;
  };
  staged = omega arith;
  stands = λ h lo t tells value k. k;
}

pub returns-then-not-cleans : goal.returns-then-not-cleans
returns-then-not-cleans g c = record {
  cleaned = sym c.cleans.ensures ∙ c.if-not-cleans.true;
  bits = cell_kept _ _ _ _ _ (sym c.cleans.ensures ∙ c.if-not-cleans.true) refl;
  nothing = λ few. (refl, refl);
  stages = record {
    store = refl;
    meta = refl;
    copied = refl;
    draft = c.requires.no_draft;
    ready = c.requires.serving.ready;
    serves = c.requires.serving.serves;
  };
  staged = omega arith;
  stands = λ h lo t tells value k. k;
}

pub returns : goal.returns
returns g c = record {
  cleaned = search rules;
  bits =
      let old = c.args.self.now in
      let new = c.clean.new.self in
      subst (λ (z : Meta). CleansCell z old.dirty new.dirty c.args.r c.args.d) (sym c.clean.ensures.stages.meta) (cell_cleaned old.meta old.dirty new.dirty c.args.r c.args.d (sym c.cleans.ensures ∙ c.if-not-cleans.false) c.clean.ensures.bits);
  nothing = search rules;
  stages = record {
    store = c.clean.ensures.stages.store;
    meta = c.clean.ensures.stages.meta;
    copied = c.clean.ensures.stages.copied;
    draft = c.clean.ensures.stages.draft;
    ready = c.clean.ensures.stages.ready;
    serves = c.clean.ensures.stages.serves;
  };
  staged = search rules;
  stands = c.clean.ensures.stands;
}

pub cleans-requires : goal.cleans-requires
cleans-requires g c = record {
  row = subst (λ (n : ℕ). c.args.r < n) (sym c.requires.serving.ready.rows_are) c.requires.row;
  disk = let low = c.requires.disk in let high = c.args.self.now.meta.setup.geometry.disks_high in omega (arith, low, high);
}
