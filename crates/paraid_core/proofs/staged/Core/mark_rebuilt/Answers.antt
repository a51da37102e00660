use Rattle.std.proofs.Common.{rules, refl}
use Rattle.paraid_image.proofs.OutLemmas.{named_below}
use Rattle.paraid_core.proofs.UnitCopyLemmas.{rebuilding_named}
use Rattle.paraid_core.proofs.UnitMarkLemmas.{ready_rebuilt, units_mark_stands}
use Rattle.paraid_core.proofs.staged.Core.mark_rebuilt.Goals as goal

pub returns : goal.returns
returns g c = record {
  meta = search rules;
  marks = record {
    store = refl;
    staged = record {
      table = refl;
      batch = refl;
      copied = refl;
      draft = refl;
    };
    ready =
        let m = c.args.self.now.meta in
        let ready = c.requires.ready in
        let d = c.fresh_disk-disk.result in
        let fresh = c.fresh_disk-disk.ensures in
        let named = rebuilding_named m d fresh in
        ready_rebuilt m d c.args.end fresh _ _ _ _ _ _ _ (named_below m.setup.geometry m.gear m.out d ready.in_range.out named) (c.requires.limit d named) ready;
  };
  serves = search rules;
  stands = λ h lo.
      let m = c.args.self.now.meta in
      let d = c.fresh_disk-disk.result in
      let fresh = c.fresh_disk-disk.ensures in
      units_mark_stands g.R.Rack.slot_count g.R.Rack.told c.args.self.now d c.args.end fresh (named_below m.setup.geometry m.gear m.out d c.requires.ready.in_range.out (rebuilding_named m d fresh)) c.requires.nothing h lo;
}
