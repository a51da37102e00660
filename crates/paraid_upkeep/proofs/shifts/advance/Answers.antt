use Rattle.std.proofs.Common.{◌≡◌, ◌≢◌, ◌∙◌, ◌⊎◌, ℕ, Some, ap, arith, inl, inr, refl, subst, sym}
use Rattle.paraid_base.specs.declared.state.Out.{Out}
use Rattle.paraid_base.specs.declared.state.Out.TheVariants.{Fresh, Gone, No}
use Rattle.paraid_base.specs.declared.state.Phase.{Phase}
use Rattle.paraid_base.specs.declared.state.Phase.TheVariants.{Down, Steady, Up}
use Rattle.paraid_base.specs.declared.state.TickEvent.TheVariants.{Gone as GoneInTick}
use Rattle.paraid_base.specs.Told.{HasRisen}
use Rattle.paraid_record.specs.declared.meta.Meta.{Meta}
use Rattle.paraid_txn.specs.Stores.{named_of, store_rack}
use Rattle.paraid_core.proofs.AfterLemmas.{handed}
use Rattle.paraid_event.proofs.CoreServingLemmas.{leaves_array_none}
use Rattle.paraid_upkeep.specs.TickAnswers.{TellsRebuild}
use Rattle.paraid_upkeep.proofs.MoveLemmas.{few_commits, none_commits}
use Rattle.paraid_upkeep.proofs.ResultLemmas.{if_err, if_known, if_ok, none_done, none_done_if, on_ok}
use Rattle.paraid_upkeep.proofs.TickTurnLemmas.{waits_told}
use Rattle.paraid_upkeep.proofs.ToldLemmas.{extends_none}
use Rattle.paraid_upkeep.proofs.shifts.advance.Goals as goal

-- what is out is out so alone
gone_not_fresh : {A : Type 0} (o : Out) (e d u : ℕ) → o ≡ Gone e → o ≡ Fresh d u → A
gone_not_fresh o e d u is was = let z : Gone e ≡ Fresh d u = sym is ∙ was in absurd cc

gone_not_whole : {A : Type 0} (o : Out) (e : ℕ) → o ≡ Gone e → o ≡ No → A
gone_not_whole o e is was = let z : Gone e ≡ No = sym is ∙ was in absurd cc

fresh_not_whole : {A : Type 0} (o : Out) (d u : ℕ) → o ≡ Fresh d u → o ≡ No → A
fresh_not_whole o d u is was = let z : Fresh d u ≡ No = sym is ∙ was in absurd cc

same_fresh : (P : ℕ → ℕ → Type 0) (o : Out) (d u e v : ℕ) → o ≡ Fresh d u → o ≡ Fresh e v → P d u → P e v
same_fresh P o d u e v is was p =
    let z : Fresh d u ≡ Fresh e v = sym is ∙ was in
    let one : d ≡ e = cc in
    let two : u ≡ v = cc in
    subst (λ (x : ℕ). P x v) one (subst (λ (x : ℕ). P d x) two p)

-- a shift is under way
shifting : (p : Phase) → ((to : ℕ) × (p ≡ Down to)) ⊎ ((to : ℕ) × (p ≡ Up to)) → p ≢ Steady
shifting p (inl down) steady = let z : Down down.0 ≡ Steady = sym down.1 ∙ steady in cc
shifting p (inr up) steady = let z : Up up.0 ≡ Steady = sym up.1 ∙ steady in cc

pub returns-in-Gone : goal.returns-in-Gone
returns-in-Gone g c =
    let a = c.args.core.now in
    let gone = sym c.out.ensures ∙ c.in-Gone.is in
    record {
      serves = record {
        serving = c.requires.service.serving;
        leaves = leaves_array_none g.R.Rack.slot_count g.R.Rack.slot a;
        known = c.requires.service.known;
        fits = λ f. f;
      };
      turn = λ k setup p samples served energy held at fit counts. waits_told g.R.Rack.slot_count g.R.Rack.told a k setup p samples served energy at fit counts c.in-Gone.disk gone;
      halts = tt;
      waits = λ d is. (refl, refl);
      rebuilds = record {
        rebuilds = λ d u fresh. gone_not_fresh a.meta.out c.in-Gone.disk d u gone fresh;
        table = λ d u fresh. gone_not_fresh a.meta.out c.in-Gone.disk d u gone fresh;
        failed = λ d u fresh. gone_not_fresh a.meta.out c.in-Gone.disk d u gone fresh;
        committed = λ d u fresh. gone_not_fresh a.meta.out c.in-Gone.disk d u gone fresh;
      };
      decides = record {
        decides = λ whole. gone_not_whole a.meta.out c.in-Gone.disk gone whole;
        idle = λ whole. gone_not_whole a.meta.out c.in-Gone.disk gone whole;
        rests = λ whole. gone_not_whole a.meta.out c.in-Gone.disk gone whole;
        table = λ whole. gone_not_whole a.meta.out c.in-Gone.disk gone whole;
      };
      moves = record { moves = λ whole. gone_not_whole a.meta.out c.in-Gone.disk gone whole };
      commits = none_commits g.R.Rack.slot_count a;
      calls = record {
        slots = refl;
        no_fall = λ d. omega arith;
        grows = extends_none (g.R.Rack.told (store_rack a.store));
      };
      two = tt;
    }

pub rebuild-requires : goal.rebuild-requires
rebuild-requires g c = record { serving = c.requires.service.serving; fresh = sym c.out.ensures ∙ c.in-Fresh.is; known = c.requires.service.known; epoch = c.requires.epoch }

pub returns-in-Fresh : goal.returns-in-Fresh
returns-in-Fresh g c =
    let a = c.args.core.now in
    let b = c.rebuild.new.core in
    let e = c.in-Fresh.disk in
    let v = c.in-Fresh.rebuilt in
    let r = c.rebuild.result in
    let rebuilds = c.rebuild.ensures in
    let fresh = sym c.out.ensures ∙ c.in-Fresh.is in
    record {
      serves = rebuilds.serves;
      turn = if_ok _ _ r (λ done turn. turn c.args.windows.now) rebuilds.turn;
      halts = if_err _ _ r (λ two halts. halts c.args.windows.now) rebuilds.halts;
      waits = λ d gone. gone_not_fresh a.meta.out d e v gone fresh;
      rebuilds = if_known _ _ _ _ _ r (λ done table tells lost committed. record {
        rebuilds = λ d u is. same_fresh (λ x y. TellsRebuild a.meta b.meta x y done.0 done.1) a.meta.out e v d u fresh is tells;
        table = λ d u is. table;
        failed = λ d u is.
            same_fresh (λ x y. done.1 ≡ GoneInTick x → HasRisen (g.R.Rack.slot (store_rack a.store) x).faults (g.R.Rack.slot (store_rack b.store) x).faults) a.meta.out e v d u fresh is lost;
        committed = λ d u is. same_fresh (λ x y. done.1 ≡ GoneInTick x → named_of b.store ≡ Some x) a.meta.out e v d u fresh is committed;
      }) rebuilds.table rebuilds.tells rebuilds.failed rebuilds.committed;
      decides = if_ok _ _ r (λ done tells. record {
        decides = λ whole. fresh_not_whole a.meta.out e v fresh whole;
        idle = λ whole. fresh_not_whole a.meta.out e v fresh whole;
        rests = λ whole. fresh_not_whole a.meta.out e v fresh whole;
        table = λ whole. fresh_not_whole a.meta.out e v fresh whole;
      }) rebuilds.tells;
      moves = if_ok _ _ r (λ done tells. record { moves = λ whole. fresh_not_whole a.meta.out e v fresh whole }) rebuilds.tells;
      commits = on_ok _ _ r (λ few. few_commits g.R.Rack.slot_count a b 3 (omega arith) few) rebuilds.commits;
      calls = rebuilds.calls;
      two = rebuilds.two;
    }

pub decide-requires : goal.decide-requires
decide-requires g c = record {
  serving = c.requires.service.serving;
  epoch = c.requires.epoch;
  lengths = c.requires.lengths;
  steady = sym (ap (λ (m : Meta). m.phase) c.meta.ensures) ∙ c.in-Steady.is;
  whole = sym c.out.ensures ∙ c.in-No.is;
}

pub returns-in_err-event-in-Steady : goal.returns-in_err-event-in-Steady
returns-in_err-event-in-Steady g c =
    let a = c.args.core.now in
    let whole = sym c.out.ensures ∙ c.in-No.is in
    record {
      serves = none_done _ c.from_residual.result _ c.from_residual.ensures.1;
      turn = none_done_if _ c.from_residual.result _ c.from_residual.ensures.1;
      halts = handed _ c.from_residual.result _ c.from_residual.ensures.1 c.in_err-event-in-Steady.ensures.halts;
      waits = λ d gone. gone_not_whole a.meta.out d gone whole;
      rebuilds = none_done_if _ c.from_residual.result _ c.from_residual.ensures.1;
      decides = none_done_if _ c.from_residual.result _ c.from_residual.ensures.1;
      moves = none_done_if _ c.from_residual.result _ c.from_residual.ensures.1;
      commits = none_done _ c.from_residual.result _ c.from_residual.ensures.1;
      calls = c.decide.ensures.calls;
      two = handed _ c.from_residual.result _ c.from_residual.ensures.1 c.in_err-event-in-Steady.ensures.two;
    }

pub returns-in_ok-event-in-Steady : goal.returns-in_ok-event-in-Steady
returns-in_ok-event-in-Steady g c =
    let a = c.args.core.now in
    let whole = sym c.out.ensures ∙ c.in-No.is in
    let steady = sym (ap (λ (m : Meta). m.phase) c.meta.ensures) ∙ c.in-Steady.is in
    let decides = c.in_ok-event-in-Steady.ensures in
    record {
      serves = decides.serves;
      turn = decides.turn;
      halts = tt;
      waits = λ d gone. gone_not_whole a.meta.out d gone whole;
      rebuilds = record {
        rebuilds = λ d u fresh. fresh_not_whole a.meta.out d u fresh whole;
        table = λ d u fresh. fresh_not_whole a.meta.out d u fresh whole;
        failed = λ d u fresh. fresh_not_whole a.meta.out d u fresh whole;
        committed = λ d u fresh. fresh_not_whole a.meta.out d u fresh whole;
      };
      decides = record {
        decides = λ is at_rest samples held s of. (refl, decides.tells samples held s of);
        idle = λ is at_rest idle. decides.idle idle;
        rests = λ is at_rest. (refl, decides.rests);
        table = λ is at_rest. decides.table;
      };
      moves = record { moves = λ is not. absurd (not steady) };
      commits = decides.commits;
      calls = c.decide.ensures.calls;
      two = tt;
    }

pub move_on-requires : goal.move_on-requires
move_on-requires g c = record {
  serving = c.requires.service.serving;
  epoch = c.requires.epoch;
  whole = sym c.out.ensures ∙ c.in-No.is;
  shifts = λ steady. shifting _ c.in-Down.is (ap (λ (m : Meta). m.phase) c.meta.ensures ∙ steady);
}

pub returns-in-Down : goal.returns-in-Down
returns-in-Down g c =
    let a = c.args.core.now in
    let b = c.move_on.new.core in
    let r = c.move_on.result in
    let moves = c.move_on.ensures in
    let whole = sym c.out.ensures ∙ c.in-No.is in
    let shifts : a.meta.phase ≢ Steady = (λ steady. shifting _ c.in-Down.is (ap (λ (m : Meta). m.phase) c.meta.ensures ∙ steady)) in
    record {
      serves = moves.serves;
      turn = if_ok _ _ r (λ done turn. turn c.args.windows.now) moves.turn;
      halts = if_err _ _ r (λ two halts. halts c.args.windows.now) moves.halts;
      waits = λ d gone. gone_not_whole a.meta.out d gone whole;
      rebuilds = if_ok _ _ r (λ done moved. record {
        rebuilds = λ d u fresh. fresh_not_whole a.meta.out d u fresh whole;
        table = λ d u fresh. fresh_not_whole a.meta.out d u fresh whole;
        failed = λ d u fresh. fresh_not_whole a.meta.out d u fresh whole;
        committed = λ d u fresh. fresh_not_whole a.meta.out d u fresh whole;
      }) moves.moves;
      decides = if_ok _ _ r (λ done moved. record {
        decides = λ is steady. absurd (shifts steady);
        idle = λ is steady. absurd (shifts steady);
        rests = λ is steady. absurd (shifts steady);
        table = λ is steady. absurd (shifts steady);
      }) moves.moves;
      moves = if_ok _ _ r (λ done moved. record { moves = λ is not. moved }) moves.moves;
      commits = moves.commits;
      calls = moves.calls;
      two = moves.two;
    }
