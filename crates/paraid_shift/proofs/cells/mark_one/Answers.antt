use Rattle.paraid_shift.proofs.CopiedLemmas.{is_before, keeps_none}
use Rattle.paraid_shift.proofs.MovingLemmas.{clean_none_before, core_cell_moves, none_before}
use Rattle.paraid_event.proofs.CoreServingLemmas.{serving_marked}
use Rattle.paraid_shift.proofs.AnswerLemmas.{none_at}
use Rattle.paraid_record.specs.declared.meta.Meta.{Meta}
use Rattle.std.specs.Prelude.{true, false}
use Rattle.std.proofs.Common.{◌≡◌, ◌∙◌, ap, refl, sym}
use Rattle.std.proofs.lemmas.Bool.{true≢false}
use Rattle.paraid_shift.proofs.cells.mark_one.Goals as goal

pub returns-then-not-has_map_room : goal.returns-then-not-has_map_room
returns-then-not-has_map_room g c =
    let a = c.args.core.now in
    record {
      serving = c.requires.serving;
      meta = refl;
      store = refl;
      moves = λ is. let z : false ≡ true = is in absurd cc;
      idle = λ is. refl;
      some = λ is room has. true≢false (sym (c.has_map_room.ensures.few room) ∙ c.if-not-has_map_room.true);
      copied = keeps_none g.R.Rack.slot_count g.R.Rack.slot g.R.Rack.told a _;
    }

pub returns-in_default : goal.returns-in_default
returns-in_default g c =
    let a = c.args.core.now in
    record {
      serving = c.requires.serving;
      meta = refl;
      store = refl;
      moves = λ is. let z : false ≡ true = is in absurd cc;
      idle = λ is. refl;
      some = λ is room has. clean_none_before a.meta a.dirty _ _ (none_at _ _ c.in_default.is c.first_cell.ensures.none) has;
      copied = keeps_none g.R.Rack.slot_count g.R.Rack.slot g.R.Rack.told a _;
    }

pub returns-then-not-is_within : goal.returns-then-not-is_within
returns-then-not-is_within g c =
    let a = c.args.core.now in
    record {
      serving = c.requires.serving;
      meta = refl;
      store = refl;
      moves = λ is. let z : false ≡ true = is in absurd cc;
      idle = λ is. refl;
      some = λ is room has. none_before a.meta a.dirty _ _ _ _ c.in-Some.ensures.first (c.is_within.ensures.past c.if-not-is_within.true) has;
      copied = keeps_none g.R.Rack.slot_count g.R.Rack.slot g.R.Rack.told a _;
    }

pub returns : goal.returns
returns g c =
    let a = c.args.core.now in
    let first = c.in-Some.ensures.first in
    let marked = c.mark_cleaned.ensures in
    record {
      serving = serving_marked g.R.Rack.slot_count g.R.Rack.slot a c.mark_cleaned.new.self marked.stages.store (ap (λ (m : Meta). m.setup) marked.stages.meta) (ap (λ (m : Meta). m.out) marked.stages.meta) c.requires.serving marked.stages.copied (marked.stages.draft ∙ sym c.requires.serving.draft) marked.stages.ready marked.stages.serves;
      meta = marked.stages.meta;
      store = marked.stages.store;
      moves = λ is. core_cell_moves g.R.Rack.slot_count a c.mark_cleaned.new.self _ _ c.requires.whole marked.stages.meta first c.in-Some.ensures.row marked.table;
      idle = λ is. let z : true ≡ false = is in absurd cc;
      some = λ is. let z : true ≡ false = is in absurd cc;
      copied = λ h lo. marked.marked h lo _ (is_before a.meta _ _ _ _ first.low first.high (c.is_within.ensures.within c.if-not-is_within.false));
    }
