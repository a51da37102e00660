use Rattle.std.proofs.Common.{sym, ◌∙◌, ap, arith, ◌≤◌}
use Rattle.std.specs.Prelude.{is_ok}
use Rattle.paraid_rack.specs.Disks.{is_present}
use Rattle.paraid_rack.specs.Trail.{now}
use Rattle.paraid_recover.proofs.HeadLemmas.{head_none, head_read}
use Rattle.paraid_recover.proofs.LogReadsLemmas.{log_none, log_read}
use Rattle.paraid_recover.proofs.UnchangedLemmas.{ok_block, stored_past}
use Rattle.paraid_recover.proofs.reads.read_place.Goals as goal

pub returns-then-place-size : goal.returns-then-place-size
returns-then-place-size g c = record {
  reads = log_none g.R.Rack c.args.disk 1 c.args.rack.now;
  head = λ low. head_none c.args.disk 1 (g.R.Rack.told c.args.rack.now);
  block = λ t tells.
      let at = (g.met.R.Rack.agrees _ t tells).size c.args.disk in
      let size = c.size.ensures in
      let high = c.if-place-size.true in
      let past : (now t).size c.args.disk ≤ c.args.place = omega arith in
      c.zero.ensures ∙ sym (stored_past (now t) c.args.disk c.args.place past);
}

pub read-requires : goal.read-requires
read-requires g c = record { exists = c.requires.exists; spinning = c.requires.spinning; within = (let size = c.size.ensures in let low = c.if-place-size.false in omega arith) }

pub returns : goal.returns
returns g c = record {
  reads = log_read g.R.Rack c.args.disk c.args.place c.args.rack.now c.read.new.self (is_ok c.read.result) c.requires.low c.read.ensures.slots c.read.ensures.slot c.read.ensures.told
      (λ s is. (g.met.R.Rack.agrees _ s is).power c.args.disk ∙ c.requires.spinning);
  head = λ low. head_read low c.read.ensures.told;
  block = ok_block _ c.read.result c.read.ensures.told c.read.ensures.bytes (λ s is.
      let a = g.met.R.Rack.agrees _ s is in
      let at = a.size c.args.disk in
      let size = c.size.ensures in
      let low = c.if-place-size.false in
      (ap is_present (a.power c.args.disk ∙ c.requires.spinning), omega arith));
}
