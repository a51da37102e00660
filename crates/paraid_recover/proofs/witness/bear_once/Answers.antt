use Rattle.std.specs.Prelude.{Some}
use Rattle.std.proofs.Common.{refl, sym, ◌∙◌}
use Rattle.std.proofs.lemmas.Bool.{true≢false}
use Rattle.paraid_txn.specs.Stores.{store_rack}
use Rattle.paraid_recover.proofs.BearerLemmas.{bearer_clean}
use Rattle.paraid_recover.proofs.NotedLemmas.{borne_known, borne_noted, borne_now}
use Rattle.paraid_recover.proofs.witness.bear_once.Goals as goal

pub bear-requires : goal.bear-requires
bear-requires g c = record { log_disk = c.requires.log_disk; exists = c.requires.exists; ready = c.requires.ready.can }

pub note_borne-requires : goal.note_borne-requires
note_borne-requires g c =
    let mid = c.bear.new.store in
    record {
      borne = borne_now c.args.disk (g.R.Rack.told (store_rack mid)) (g.R.Rack.slot (store_rack mid)) (g.met.R.Rack.agrees (store_rack mid))
          (bearer_clean g.R.Rack (Some c.args.disk) c.args.store.now mid c.in-Ok.ensures.borne c.requires.ready) (c.in-Ok.ensures.borne.borne refl);
    }

pub returns-then-knows_borne : goal.returns-then-knows_borne
returns-then-knows_borne g c = record {
  borne = borne_known g.R.Rack c.args.disk c.args.store.now (c.knows_borne.ensures.known c.if-knows_borne.true);
  two = tt;
  known = λ is. refl;
}

pub returns-in-Ok : goal.returns-in-Ok
returns-in-Ok g c = record {
  borne = borne_noted g.R.Rack (Some c.args.disk) c.args.store.now c.bear.new.store c.note_borne.new.self c.note_borne.ensures.rack c.note_borne.ensures.same _ c.in-Ok.ensures.borne;
  two = tt;
  known = λ is. absurd (true≢false (sym (c.knows_borne.ensures.yes is) ∙ c.if-knows_borne.false));
}

pub returns-in-Err : goal.returns-in-Err
returns-in-Err g c = record {
  borne = c.in-Err.ensures.borne;
  two = c.in-Err.ensures.two;
  known = λ is. absurd (true≢false (sym (c.knows_borne.ensures.yes is) ∙ c.if-knows_borne.false));
}
