use Rattle.std.proofs.Common.{◌∙◌, ap, arith}
use Rattle.std.specs.Prelude.{Ok}
use Rattle.paraid_rack.specs.Disks.{is_present}
use Rattle.paraid_scrub.proofs.ReadLemmas.{read_block, read_can, read_data, read_looked, read_on, read_reads, read_shows, readable_large, readable_low, readable_spins}
use Rattle.paraid_scrub.proofs.whole.CoreStored.read_stored.Goals as goal

pub read_stored-requires : goal.read_stored-requires
read_stored-requires g c = record {
  ready = c.requires.usable.ready;
  still = c.requires.usable.serves.stays;
  disk = readable_low c.args.self.now.meta c.args.disk c.requires.usable.ready.in_range c.requires.readable;
  spins = readable_spins g.R.Rack.slot_count g.R.Rack.slot c.args.self.now c.requires.usable c.args.disk c.requires.readable;
  within =
      let large = readable_large g.R.Rack.slot_count g.R.Rack.slot c.args.self.now c.requires.usable c.args.disk c.requires.readable in
      let low = c.requires.within in
      omega (arith, large, low);
  nothing = c.requires.usable.nothing;
}

pub returns-then-done : goal.returns-then-done
returns-then-done g c = record {
  shown =
      let e = c.read_stored.ensures in
      let k = c.in-Ok.ensures in
      let same = e.same (c.in-Ok.is ∙ ap Ok c.if-done.true) in
      let a = c.args.self.now in
      let b = c.read_stored.new.self in
      record {
        goes = read_on g.R.Rack.slot_count g.R.Rack.slot g.R.Rack.told a b c.args.disk c.args.place c.requires.usable c.requires.readable e.calls k.stays.leaves e.copied e.stays.still_synced k.stays.losses.marks k.stays.stands same;
        same = same;
        still = read_can g.R.Rack.slot_count g.R.Rack.slot g.R.Rack.told a b c.args.disk c.args.place c.requires.usable c.requires.readable e.calls k.stays.leaves e.copied e.stays.still_synced k.stays.losses.marks k.stays.stands same;
        shown = λ v s tells. (
          read_shows g.R.Rack.slot_count g.R.Rack.slot g.R.Rack.told a b c.args.disk c.args.place c.requires.usable c.requires.readable e.calls k.stays.leaves e.copied e.stays.still_synced k.stays.losses.marks k.stays.stands same g.met.R.Rack.agrees v s tells,
          read_block g.R.Rack.slot_count g.R.Rack.slot g.R.Rack.told a b c.args.disk c.args.place c.requires.usable c.requires.readable e.calls k.stays.leaves e.copied e.stays.still_synced k.stays.losses.marks k.stays.stands same g.met.R.Rack.agrees
              c.read_stored.new.into c.requires.past_log c.requires.within (e.value (c.in-Ok.is ∙ ap Ok c.if-done.true)) v s,
        );
      };
  lost = tt;
}

pub returns : goal.returns
returns g c = record {
  shown = tt;
  lost =
      let e = c.read_stored.ensures in
      let k = c.in-Ok.ensures in
      let is = c.in-Ok.is ∙ ap Ok c.if-done.false in
      record {
        looked = read_looked g.R.Rack.slot_count g.R.Rack.slot g.R.Rack.told c.args.self.now c.read_stored.new.self c.args.disk c.args.place c.requires.usable c.requires.readable e.calls k.stays.leaves e.copied e.stays.still_synced k.stays.losses.marks k.stays.stands;
        loses = record { disk = c.args.disk; low = readable_low c.args.self.now.meta c.args.disk c.requires.usable.ready.in_range c.requires.readable; failed = e.loses.failed is; gone = e.loses.gone is };
        there = ap is_present (readable_spins g.R.Rack.slot_count g.R.Rack.slot c.args.self.now c.requires.usable c.args.disk c.requires.readable);
      };
}

pub returns-in-Err : goal.returns-in-Err
returns-in-Err g c = record {
  shown = tt;
  lost =
      let e = c.read_stored.ensures in
      record {
        slots = e.stays.losses.slots;
        copied = e.copied;
        spared = e.stays.losses.spared;
        synced = e.stays.still_synced;
        down = c.in-Err.ensures.stays.losses.two;
        tells = c.in-Err.ensures.stays.losses.tells;
        calls = read_data g.R.Rack.slot_count g.R.Rack.slot g.R.Rack.told c.args.self.now c.read_stored.new.self c.args.disk c.args.place c.requires.usable c.requires.readable e.calls;
        reads = read_reads g.R.Rack.slot_count g.R.Rack.slot g.R.Rack.told c.args.self.now c.read_stored.new.self c.args.disk c.args.place c.requires.usable c.requires.readable e.calls;
        held = e.stays.moments;
      };
}
