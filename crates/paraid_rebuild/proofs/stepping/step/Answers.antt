use Rattle.std.specs.Prelude.{ℕ, Option, ◌<◌, ◌≤◌, ◌+◌, true, false, Ok}
use Rattle.std.proofs.Common.{◌≡◌, ◌∙◌, sym, ap, arith, inl, Ok}
use Rattle.paraid_base.proofs.ToldLemmas.{HasRisen-later}
use Rattle.paraid_image.specs.Out.{named_out, or_else}
use Rattle.paraid_record.specs.declared.meta.Meta.{Meta}
use Rattle.paraid_txn.specs.Stores.{named_of, store_rack}
use Rattle.paraid_view.proofs.TwoLemmas.{spared_then}
use Rattle.paraid_core.specs.Cores.{CoreStandsFor, core_down}
use Rattle.paraid_core.proofs.AfterLemmas.{handed}
use Rattle.paraid_event.specs.CoreServing.{RestsInShift, StandsInShift}
use Rattle.paraid_event.proofs.CoreServingLemmas.{chain, chain_held}
use Rattle.paraid_rebuild.proofs.ReplacingLemmas.{again, two_since}
use Rattle.paraid_event.specs.Service.{service_of}
use Rattle.paraid_rebuild.proofs.MovedLemmas.{stays_away}
use Rattle.paraid_rebuild.proofs.StepEventLemmas.{steps_then, steps_within}
use Rattle.paraid_rebuild.proofs.LossLemmas.{LosesSteps, lost_then, lost_within}
use Rattle.paraid_rebuild.proofs.stepping.step.Goals as goal
use Rattle.paraid_core.proofs.ErrLemmas.{none_done, none_done_as}

pub returns-in_err-moved : goal.returns-in_err-moved
returns-in_err-moved g c =
    let a = c.args.core.now in
    let b = c.go_on.new.core in
    let from = c.from_residual in
    record {
      serves = none_done _ from.result _ from.ensures.1;
      absent = none_done _ from.result _ from.ensures.1;
      named = none_done _ from.result _ from.ensures.1;
      keeps = record {
        slots = c.go_on.ensures.keeps.slots;
        spared = c.go_on.ensures.keeps.spared;
        two = handed _ from.result _ from.ensures.1 c.in_err-moved.ensures.keeps.two;
      };
      moved = λ is. none_done_as _ from.result _ _ from.ensures.1 is;
      lost = λ is. none_done_as _ from.result _ _ from.ensures.1 is;
      moments = c.go_on.ensures.moments;
      rests = none_done _ from.result _ from.ensures.1;
      in_event = record {
        event = none_done _ from.result _ from.ensures.1;
        loses =
            handed (LosesSteps g.R.Rack.slot_count g.R.Rack.told a b 3) from.result _ from.ensures.1
            (λ samples served energy h lo. lost_within (g.R.Rack.told (store_rack a.store)) (g.R.Rack.told (store_rack b.store)) (service_of g.R.Rack.slot_count a samples served energy) h lo _ 2 3 (omega arith)
            (c.in_err-moved.ensures.in_event.loses samples served energy h lo));
      };
    }

pub returns-then-moved : goal.returns-then-moved
returns-then-moved g c =
    let a = c.args.core.now in
    let b = c.go_on.new.core in
    let out = ap (λ (m : Meta). named_out m.out) ((c.in_ok-moved.ensures.moved (ap Ok c.if-moved.true)).meta) in
    let one = c.in_ok-moved.ensures.serves.few in
    record {
      serves = record {
        serving = c.in_ok-moved.ensures.serves.serving;
        nothing = c.in_ok-moved.ensures.serves.nothing;
        later = c.in_ok-moved.ensures.serves.later;
        few = omega arith;
        table = c.in_ok-moved.ensures.serves.table;
      };
      absent = λ x is. inl (c.in_ok-moved.ensures.named ∙ sym out ∙ is);
      named = c.in_ok-moved.ensures.named;
      keeps = record {
        slots = c.go_on.ensures.keeps.slots;
        spared = c.go_on.ensures.keeps.spared;
        two = tt;
      };
      moved = λ is. c.in_ok-moved.ensures.moved (ap Ok c.if-moved.true);
      lost = λ is. let z : Ok true ≡ Ok false = is in cc;
      moments = c.go_on.ensures.moments;
      rests = c.in_ok-moved.ensures.rests (ap Ok c.if-moved.true);
      in_event = record {
        event = λ samples served energy h lo.
            steps_within (g.R.Rack.told (store_rack a.store)) (g.R.Rack.told (store_rack b.store)) (service_of g.R.Rack.slot_count a samples served energy) (service_of g.R.Rack.slot_count b samples served energy) h lo 2 3 (omega arith)
            (c.in_ok-moved.ensures.in_event.event samples served energy h lo);
        loses = tt;
      };
    }

pub returns-in_err-commit_lost : goal.returns-in_err-commit_lost
returns-in_err-commit_lost g c =
    let a = c.args.core.now in
    let b = c.go_on.new.core in
    let new = c.commit_lost.new.core in
    let gone = (c.in_ok-moved.ensures.lost (ap Ok c.if-moved.false)).gone in
    let named : named_of b.store ≡ named_of a.store = c.in_ok-moved.ensures.named ∙ sym c.requires.can.named in
    let setup : b.meta.setup ≡ a.meta.setup = ap (λ (m : Meta). m.setup) gone in
    let down : core_down b ≡ core_down a = ap (λ (o : Option ℕ). or_else o (named_out b.meta.out)) c.in_ok-moved.ensures.named ∙ sym (ap (λ (o : Option ℕ). or_else o (named_out a.meta.out)) c.requires.can.named) in
    let from = c.from_residual-in_err-commit_lost in
    record {
      serves = none_done _ from.result _ from.ensures.1;
      absent = none_done _ from.result _ from.ensures.1;
      named = none_done _ from.result _ from.ensures.1;
      keeps = record {
        slots = c.commit_lost.ensures.keeps.slots ∙ c.go_on.ensures.keeps.slots;
        spared = spared_then (g.R.Rack.slot (store_rack a.store)) (g.R.Rack.slot (store_rack b.store)) (g.R.Rack.slot (store_rack c.commit_lost.new.core.store)) c.go_on.ensures.keeps.spared c.commit_lost.ensures.keeps.spared;
        two =
            handed _ from.result _ from.ensures.1
            (two_since (core_down a) (core_down b) (g.R.Rack.slot (store_rack a.store)) (g.R.Rack.slot (store_rack b.store)) (g.R.Rack.slot (store_rack new.store)) _ down c.go_on.ensures.keeps.spared.no_fall c.in_err-commit_lost.ensures.keeps.two);
      };
      moved = λ is. none_done_as _ from.result _ _ from.ensures.1 is;
      lost = λ is. none_done_as _ from.result _ _ from.ensures.1 is;
      moments = λ h lo. chain_held g.R.Rack.slot_count g.R.Rack.told a b c.in_ok-moved.ensures.keeps.slots setup named (StandsInShift g.R.Rack.slot_count a h lo) (CoreStandsFor g.R.Rack.slot_count b h lo) h lo _ (c.in_ok-moved.ensures.stands h lo) (c.commit_lost.ensures.moments h lo);
      rests = none_done _ from.result _ from.ensures.1;
      in_event = record {
        event = none_done _ from.result _ from.ensures.1;
        loses =
            handed (LosesSteps g.R.Rack.slot_count g.R.Rack.told a new 3) from.result _ from.ensures.1
            (λ samples served energy h lo. lost_then (g.R.Rack.told (store_rack a.store)) (g.R.Rack.told (store_rack b.store)) (g.R.Rack.told (store_rack new.store)) (service_of g.R.Rack.slot_count a samples served energy) (service_of g.R.Rack.slot_count b samples served energy)
            h lo 2 1 _ (c.in_ok-moved.ensures.in_event.event samples served energy h lo) (c.in_err-commit_lost.ensures.in_event.loses samples served energy h lo));
      };
    }

pub returns : goal.returns
returns g c =
    let a = c.args.core.now in
    let b = c.go_on.new.core in
    let new = c.commit_lost.new.core in
    let gone = (c.in_ok-moved.ensures.lost (ap Ok c.if-moved.false)).gone in
    let named : named_of b.store ≡ named_of a.store = c.in_ok-moved.ensures.named ∙ sym c.requires.can.named in
    let setup : b.meta.setup ≡ a.meta.setup = ap (λ (m : Meta). m.setup) gone in
    let later = c.in_ok-moved.ensures.serves.later in
    let one = c.in_ok-moved.ensures.serves.few in
    let two = ap (λ (m : Meta). m.epoch) c.in_ok-commit_lost.ensures.gone in
    let e = c.in_ok-commit_lost.ensures.gone in
    record {
      serves = record {
        serving = c.in_ok-commit_lost.ensures.serves.serving;
        nothing = c.in_ok-commit_lost.ensures.serves.nothing;
        later = omega arith;
        few = omega arith;
        table = c.commit_lost.ensures.table ∙ c.in_ok-moved.ensures.serves.table;
      };
      absent = c.in_ok-commit_lost.ensures.serves.absent;
      named = c.in_ok-commit_lost.ensures.serves.named;
      keeps = record {
        slots = c.commit_lost.ensures.keeps.slots ∙ c.go_on.ensures.keeps.slots;
        spared = spared_then (g.R.Rack.slot (store_rack a.store)) (g.R.Rack.slot (store_rack b.store)) (g.R.Rack.slot (store_rack c.commit_lost.new.core.store)) c.go_on.ensures.keeps.spared c.commit_lost.ensures.keeps.spared;
        two = tt;
      };
      moved = λ is. let z : Ok false ≡ Ok true = is in cc;
      lost = λ is. record {
        gone = again a.meta b.meta new.meta c.args.disk gone e;
        failed = HasRisen-later _ _ _ ((c.in_ok-moved.ensures.lost (ap Ok c.if-moved.false)).failed) (c.commit_lost.ensures.keeps.spared.no_fall c.args.disk);
        away = stays_away (g.R.Rack.slot (store_rack b.store)) (g.R.Rack.slot (store_rack new.store)) c.commit_lost.ensures.keeps.spared c.args.disk ((c.in_ok-moved.ensures.lost (ap Ok c.if-moved.false)).away);
      };
      moments = λ h lo. chain_held g.R.Rack.slot_count g.R.Rack.told a b c.in_ok-moved.ensures.keeps.slots setup named (StandsInShift g.R.Rack.slot_count a h lo) (CoreStandsFor g.R.Rack.slot_count b h lo) h lo _ (c.in_ok-moved.ensures.stands h lo) (c.commit_lost.ensures.moments h lo);
      rests = λ h lo. chain g.R.Rack.slot_count g.R.Rack.told a b c.in_ok-moved.ensures.keeps.slots setup named (StandsInShift g.R.Rack.slot_count a h lo) (CoreStandsFor g.R.Rack.slot_count b h lo) (RestsInShift g.R.Rack.slot_count new h lo) h lo _ (c.in_ok-moved.ensures.stands h lo) (c.in_ok-commit_lost.ensures.rests h lo);
      in_event = record {
        event = λ samples served energy h lo.
            steps_then (g.R.Rack.told (store_rack a.store)) (g.R.Rack.told (store_rack b.store)) (g.R.Rack.told (store_rack new.store)) (service_of g.R.Rack.slot_count a samples served energy) (service_of g.R.Rack.slot_count b samples served energy)
            (service_of g.R.Rack.slot_count new samples served energy) h lo 2 1 (c.in_ok-moved.ensures.in_event.event samples served energy h lo) (c.in_ok-commit_lost.ensures.in_event.event samples served energy h lo);
        loses = tt;
      };
    }

room : (a top : ℕ) → a + 2 < top → a + 1 < top
room a top low = omega arith

room_then : (a b top : ℕ) → b ≤ a + 2 → a + 2 < top → b < top
room_then a b top few low = omega arith

pub go_on-requires : goal.go_on-requires
go_on-requires g c =
    let q = c.requires in
    record { can = q.can; from = q.from; limit = q.limit; epoch = room _ _ q.epoch }

pub commit_lost-requires : goal.commit_lost-requires
commit_lost-requires g c =
    let done = c.in_ok-moved.ensures in
    let gone = (done.lost (ap Ok c.if-moved.false)).gone in
    record {
      serving = done.serves.serving;
      out = ap (λ (m : Meta). m.out) gone;
      absent = λ x is. inl (done.named ∙ sym (ap (λ (m : Meta). named_out m.out) gone) ∙ is);
      epoch = room_then c.args.core.now.meta.epoch c.go_on.new.core.meta.epoch _ done.serves.few c.requires.epoch;
    }
