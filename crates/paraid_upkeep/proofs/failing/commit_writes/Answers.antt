use Rattle.std.proofs.Common.{◌+◌, ◌≡◌, ◌∙◌, ℕ, subst, [], ◌∷◌, List, length, ap, arith, refl, sym}
use Rattle.std.specs.Prelude.{true}
use Rattle.paraid_core.specs.Steps.{IsMarkedFrom}
use Rattle.paraid_image.specs.Sides.{Batch}
use Rattle.paraid_txn.specs.Stores.{store_rack}
use Rattle.paraid_core.specs.Cores.{core_down}
use Rattle.paraid_core.proofs.AfterLemmas.{handed}
use Rattle.paraid_upkeep.proofs.ResultLemmas.{none_done}
use Rattle.paraid_rebuild.proofs.ReplacingLemmas.{lost_none}
use Rattle.paraid_event.proofs.CoreServingLemmas.{down_none}
use Rattle.paraid_upkeep.proofs.CommitLemmas.{few_none, few_one}
use Rattle.paraid_upkeep.proofs.OutLemmas.{known_then, none_marked}
use Rattle.paraid_upkeep.proofs.ServiceLemmas.{service_then}
use Rattle.paraid_upkeep.proofs.TurnLemmas.{commit_lost, commits, commits_none}
use Rattle.paraid_upkeep.proofs.ToldLemmas.{extends_core, extends_none}
use Rattle.paraid_shift.proofs.FitsLemmas.{fits_committed}
use Rattle.paraid_upkeep.proofs.failing.commit_writes.Goals as goal

none_in : {A : Type 0} (xs : List A) → length xs ≡ 0 → xs ≡ []
none_in [] none = refl
none_in (x ∷ xs) none = absurd (omega (arith, none))

pub commit-requires : goal.commit-requires
commit-requires g c = record {
  ready = c.requires.service.ready;
  committable = record {
    epoch = let e = c.requires.epoch in omega (arith, e);
    copies_synced = c.requires.service.copies_synced;
  };
}

pub returns-then-staged-eq0 : goal.returns-then-staged-eq0
returns-then-staged-eq0 g c =
    let a = c.args.core.now in
    let none = sym c.staged.ensures ∙ c.if-staged-eq0.true in
    record {
      stays = record {
        service = c.requires.service;
        setup = refl;
        writes = refl;
        unsynced = λ unsynced. unsynced;
        known = λ known. known;
        fits = λ f. f;
      };
      nothing = none_in a.batch none;
      idle = λ is. refl;
      table = refl;
      keeps = record {
        slots = refl;
        spared = lost_none (g.R.Rack.slot (store_rack a.store));
        two = tt;
      };
      down = down_none (core_down a) (g.R.Rack.slot (store_rack a.store));
      meta = none_marked a.meta;
      epoch = few_none a a 1 refl;
      commits = commits_none g.R.Rack.slot_count g.R.Rack.slot g.R.Rack.told g.met.R.Rack.agrees a c.requires.service.ready none;
      loses = tt;
      told = extends_none (g.R.Rack.told (store_rack a.store));
    }

pub returns-in_err-commit : goal.returns-in_err-commit
returns-in_err-commit g c =
    let a = c.args.core.now in
    record {
      stays = none_done _ c.from_residual.result _ c.from_residual.ensures.1;
      nothing = none_done _ c.from_residual.result _ c.from_residual.ensures.1;
      idle = λ none. absurd (c.if-staged-eq0.false (c.staged.ensures ∙ ap (λ (z : Batch). length z) none));
      table = c.commit.ensures.cells.table;
      keeps = record {
        slots = c.commit.ensures.stays.losses.slots;
        spared = c.commit.ensures.stays.losses.spared;
        two = handed _ c.from_residual.result _ c.from_residual.ensures.1 c.in_err-commit.ensures.stays.losses.two;
      };
      down = none_done _ c.from_residual.result _ c.from_residual.ensures.1;
      meta = none_done _ c.from_residual.result _ c.from_residual.ensures.1;
      epoch = none_done _ c.from_residual.result _ c.from_residual.ensures.1;
      commits = none_done _ c.from_residual.result _ c.from_residual.ensures.1;
      loses =
          handed _ c.from_residual.result _ c.from_residual.ensures.1
          (commit_lost g.R.Rack.slot_count g.R.Rack.slot g.R.Rack.told g.met.R.Rack.agrees a c.commit.new.self c.commit.ensures.brings.calls c.commit.ensures.brings.whole c.commit.ensures.held.moments c.requires.service.serves _ c.in_err-commit.ensures.stays.losses.tells);
      told = extends_core g.R.Rack.told a c.commit.new.self _ c.commit.ensures.brings.calls;
    }

pub returns : goal.returns
returns g c =
    let a = c.args.core.now in
    let b = c.commit.new.self in
    let done = c.in_ok-commit.ensures in
    record {
      stays = record {
        service = service_then g.R.Rack.slot_count g.R.Rack.slot a b c.requires.service done.stays.losses.marks done.stays.setup done.stays.ready (done.serves c.requires.service.serves) (done.cells.draft ∙ c.requires.service.draft) done.stays.copied;
        setup = done.stays.setup;
        writes = done.cells.writes;
        unsynced = done.unsynced;
        known = λ known. known_then g.R.Rack.slot a b true known done.stays.losses.marks done.meta.named;
        fits = fits_committed (g.R.Rack.slot (store_rack a.store)) (g.R.Rack.slot (store_rack b.store)) a.meta b.meta (a.meta.epoch + 1) done.stays.losses.spared done.meta.meta done.stays.ready.absent;
      };
      nothing = done.nothing;
      idle = λ none. absurd (c.if-staged-eq0.false (c.staged.ensures ∙ ap (λ (z : Batch). length z) none));
      table = c.commit.ensures.cells.table;
      keeps = record {
        slots = c.commit.ensures.stays.losses.slots;
        spared = c.commit.ensures.stays.losses.spared;
        two = tt;
      };
      down = done.stays.down;
      meta = subst (λ (n : ℕ). IsMarkedFrom (record a.meta { epoch = n }) b.meta) (sym done.meta.epoch) done.meta.meta;
      epoch = few_one a b done.meta.epoch;
      commits = commits g.R.Rack.slot_count g.R.Rack.slot g.R.Rack.told g.met.R.Rack.agrees a b c.commit.ensures.brings.calls c.commit.ensures.brings.whole done.held.stands done.stays.losses.marks done.stays.ready done.stays.setup;
      loses = tt;
      told = extends_core g.R.Rack.told a b _ c.commit.ensures.brings.calls;
    }
