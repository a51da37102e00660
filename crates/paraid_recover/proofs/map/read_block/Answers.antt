use Rattle.std.proofs.Common.{◌≡◌, Ok, Err, [], ap, refl}
use Rattle.std.specs.Prelude.{is_ok}
use Rattle.paraid_txn.specs.Stores.{disks_of, store_rack}
use Rattle.paraid_view.proofs.ReadLemmas.{read_one, value_laid}
use Rattle.paraid_recover.proofs.map.read_block.Goals as goal

pub returns-in_default : goal.returns-in_default
returns-in_default g c =
    let call = c.read.ensures in
    record {
      read = read_one g.R.Rack.slot_count g.R.Rack.slot g.R.Rack.told g.met.R.Rack.agrees (disks_of c.args.store.now) c.args.disk c.args.place (Err c.args.disk) (is_ok c.read.result) c.args.store.now c.read.new.self
          c.requires.below call.slots call.same call.slot call.told c.requires.spinning
          (λ e is. let y : e ≡ c.args.disk = cc in (y, ap is_ok c.in_default.is)) (λ is. cc);
      failed = refl;
      called = c.in_default.ensures.told;
      value = tt;
    }

pub returns : goal.returns
returns g c =
    let call = c.read.ensures in
    let read = read_one g.R.Rack.slot_count g.R.Rack.slot g.R.Rack.told g.met.R.Rack.agrees (disks_of c.args.store.now) c.args.disk c.args.place (Ok tt) (is_ok c.read.result) c.args.store.now c.read.new.self
    c.requires.below call.slots call.same call.slot call.told c.requires.spinning
    (λ e is. cc) (λ is. ap is_ok c.in-Ok.is) in
    record {
      read = read;
      failed = tt;
      called = c.in-Ok.ensures.told;
      value = λ f shows some.
          value_laid [] f _ _ _ (g.R.Rack.slot (store_rack c.args.store.now)) c.args.disk c.args.place _ (g.met.R.Rack.agrees (store_rack c.args.store.now))
          c.requires.spinning c.requires.within c.requires.past_log read.calls shows some
          c.in-Ok.ensures.bytes;
    }
