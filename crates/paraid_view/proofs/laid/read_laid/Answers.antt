use Rattle.std.proofs.Common.{◌++◌, ◌≡◌, ◌∙◌, Ok, Err, sym, ap, rules}
use Rattle.std.specs.Prelude.{is_ok}
use Rattle.paraid_txn.specs.Stores.{disks_of, store_rack}
use Rattle.paraid_view.proofs.ReadLemmas.{off_none, off_one, ran_none, read_one, value_laid}
use Rattle.paraid_view.proofs.laid.read_laid.Goals as goal

pub returns-clause-read : goal.returns-clause-read
returns-clause-read g c =
    let call = c.read.ensures in
    read_one g.R.Rack.slot_count g.R.Rack.slot g.R.Rack.told g.met.R.Rack.agrees (disks_of c.args.store.now) c.args.disk c.args.place (Ok tt) (is_ok c.read.result) c.args.store.now c.read.new.self
    c.requires.below call.slots call.same call.slot call.told c.requires.spinning
    (λ e is. cc) (λ is. ap is_ok c.in-Ok.is)

pub returns-clause-value : goal.returns-clause-value
returns-clause-value g c f shows some =
    value_laid (c.args.batch.now ++ c.args.draft.now) f _ _ _ (g.R.Rack.slot (store_rack c.args.store.now)) c.args.disk c.args.place _ (g.met.R.Rack.agrees (store_rack c.args.store.now))
    c.requires.spinning c.requires.within c.requires.past_log (returns-clause-read g c).calls shows some
    (λ t tells. c.in-Ok.ensures.bytes t tells ∙ sym (c.in_default.ensures _))

pub returns-in-Some : goal.returns-in-Some
returns-in-Some g c = record {
  read = search rules;
  below = search rules;
  failed = search rules;
  off = λ out not. off_none out (g.R.Rack.told (store_rack c.args.store.now));
  value = λ f shows some.
      value_laid (c.args.batch.now ++ c.args.draft.now) f _ _ _ (g.R.Rack.slot (store_rack c.args.store.now)) c.args.disk c.args.place _ (g.met.R.Rack.agrees (store_rack c.args.store.now))
      c.requires.spinning c.requires.within c.requires.past_log (ran_none (g.R.Rack.told (store_rack c.args.store.now)) 0) shows some
      (λ t tells. c.copy_from.ensures ∙ sym (c.in-Some.ensures _));
}

pub returns-in_default-read : goal.returns-in_default-read
returns-in_default-read g c = record {
  read =
      let call = c.read.ensures in
      read_one g.R.Rack.slot_count g.R.Rack.slot g.R.Rack.told g.met.R.Rack.agrees (disks_of c.args.store.now) c.args.disk c.args.place (Err c.args.disk) (is_ok c.read.result) c.args.store.now c.read.new.self
      c.requires.below call.slots call.same call.slot call.told c.requires.spinning
      (λ e is. let y : e ≡ c.args.disk = cc in (y, ap is_ok c.in_default-read.is)) (λ is. cc);
  below = search rules;
  failed = search rules;
  off = λ out not. off_one out _ _ c.args.disk c.args.place (is_ok c.read.result) not c.read.ensures.told;
  value = search rules;
}

pub returns-clause-off : goal.returns-clause-off
returns-clause-off g c out not = off_one out _ _ c.args.disk c.args.place (is_ok c.read.result) not c.read.ensures.told
