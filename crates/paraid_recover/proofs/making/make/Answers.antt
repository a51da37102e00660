use Rattle.std.proofs.Common.{◌∙◌, ap, arith, subst, ◌≡◌, ◌<◌, ℕ}
use Rattle.paraid_base.specs.Regions.{disk_size}
use Rattle.paraid_rack.specs.Disks.{Disks}
use Rattle.paraid_rack.specs.Told.{Ran}
use Rattle.paraid_record.specs.Meta.{meta_bytes}
use Rattle.paraid_record.specs.Range.{IsInRange}
use Rattle.paraid_base.specs.Told.{HasRisen}
use Rattle.paraid_rack.specs.Slots.{Slot}
use Rattle.paraid_recover.specs.Attached.{AreFreshDisks, BecomesFormatted, IsMetaWritten, fresh_slot}
use Rattle.paraid_recover.specs.Calls.{AreAttaches}
use Rattle.paraid_recover.specs.First.{first_meta}
use Rattle.paraid_recover.specs.Between.{RanBetween}
use Rattle.paraid_recover.proofs.RaisedLemmas.{handed, none_done}
use Rattle.paraid_recover.proofs.AttachLemmas.{led_then}
use Rattle.paraid_recover.proofs.FitLemmas.{big}
use Rattle.paraid_recover.proofs.FormatLemmas.{attaches_and_logs, formatted, made_fresh, only_attaches}
use Rattle.paraid_recover.proofs.LogLemmas.{logging_then, logging_within}
use Rattle.paraid_recover.proofs.making.make.Given.{Over}
use Rattle.paraid_recover.proofs.making.make.Goals as goal
use Rattle.paraid_recover.proofs.making.make.Goals.{After-attach_all, In_ok-attach_all}

pub attach_all-requires : goal.attach_all-requires
attach_all-requires g c = (let same = c.disks.ensures in let room = c.requires.room in omega arith)

pub write_first_meta-requires : goal.write_first_meta-requires
write_first_meta-requires g c =
    let low = c.args.setup.now.geometry.disks_low in
    let is = c.in_ok-attach_all.ensures.fresh 0 (let same = c.disks.ensures in omega arith) in
    record {
      log_disk = omega arith;
      exists = (let slots = c.attach_all.ensures.slots in let room = c.requires.room in omega arith);
      spinning = ap (λ (s : Slot). s.power) is;
      large = (let size = ap (λ (s : Slot). s.size) is ∙ c.size.ensures in let end = big (first_meta c.args.setup.now) in omega arith);
    }

pub write_first_meta-requires-2 : goal.write_first_meta-requires-2
write_first_meta-requires-2 g c =
    let low = c.args.setup.now.geometry.disks_low in
    let is = c.write_first_meta.ensures.others 1 (λ e. omega arith) ∙ c.in_ok-attach_all.ensures.fresh 1 (let same = c.disks.ensures in omega arith) in
    record {
      log_disk = omega arith;
      exists = (let more = c.write_first_meta.ensures.slots in let slots = c.attach_all.ensures.slots in let room = c.requires.room in omega arith);
      spinning = ap (λ (s : Slot). s.power) is;
      large = (let size = ap (λ (s : Slot). s.size) is ∙ c.size.ensures in let end = big (first_meta c.args.setup.now) in omega arith);
    }

-- what was attached, by the numbers of the setup
attaches : (g : Over) (c : After-attach_all g)
    → Ran (g.R.Rack.told c.args.rack.now) (g.R.Rack.told c.attach_all.new.rack) (λ start calls. AreAttaches (disk_size c.args.setup.now.geometry) 0 c.args.setup.now.geometry.disks calls)
attaches g c =
    subst (λ (n : ℕ). Ran (g.R.Rack.told c.args.rack.now) (g.R.Rack.told c.attach_all.new.rack) (λ start calls. AreAttaches (disk_size c.args.setup.now.geometry) 0 n calls)) c.disks.ensures
    (subst (λ (z : ℕ). Ran (g.R.Rack.told c.args.rack.now) (g.R.Rack.told c.attach_all.new.rack) (λ start calls. AreAttaches z 0 c.disks.result calls)) c.size.ensures c.attach_all.ensures.calls)

attached : (g : Over) (c : In_ok-attach_all g)
    → RanBetween (g.R.Rack.told c.args.rack.now) (g.R.Rack.told c.attach_all.new.rack) (AreFreshDisks c.args.setup.now.geometry.disks (disk_size c.args.setup.now.geometry))
attached g c =
    subst (λ (n : ℕ). RanBetween (g.R.Rack.told c.args.rack.now) (g.R.Rack.told c.attach_all.new.rack) (AreFreshDisks n (disk_size c.args.setup.now.geometry))) c.disks.ensures
    (subst (λ (z : ℕ). RanBetween (g.R.Rack.told c.args.rack.now) (g.R.Rack.told c.attach_all.new.rack) (AreFreshDisks c.disks.result z)) c.size.ensures c.in_ok-attach_all.ensures.attached)

pub returns-in_err-attach_all : goal.returns-in_err-attach_all
returns-in_err-attach_all g c = record {
  slots = c.attach_all.ensures.slots;
  fresh = none_done _ c.from_residual.result _ c.from_residual.ensures.1;
  others = λ d high. c.attach_all.ensures.others d (let same = c.disks.ensures in omega arith);
  formatted = none_done _ c.from_residual.result _ c.from_residual.ensures.1;
  calls = only_attaches _ _ (attaches g (goal.at.returns-in_err-attach_all g c).After-attach_all);
  low = handed (λ d. d < c.args.setup.now.geometry.disks) c.from_residual.result _ c.from_residual.ensures.1 (let low = c.in_err-attach_all.ensures.low in let same = c.disks.ensures in omega arith);
  risen = handed (λ d. HasRisen (g.R.Rack.slot c.args.rack.now d).faults (g.R.Rack.slot c.attach_all.new.rack d).faults) c.from_residual.result _ c.from_residual.ensures.1 c.in_err-attach_all.ensures.risen;
}

pub returns-in_default : goal.returns-in_default
returns-in_default g c = record {
  slots = c.write_first_meta.ensures.slots ∙ c.attach_all.ensures.slots;
  fresh = tt;
  others = λ d high. c.write_first_meta.ensures.others d (λ is. let low = c.args.setup.now.geometry.disks_low in omega arith) ∙ c.attach_all.ensures.others d (let same = c.disks.ensures in omega arith);
  formatted = tt;
  calls = attaches_and_logs _ _ (attaches g (goal.at.returns-in_default g c).After-attach_all) (logging_within 0 2 4 (omega arith) c.write_first_meta.ensures.calls);
  low = let low = c.args.setup.now.geometry.disks_low in omega arith;
  risen =
      subst (λ (s : Slot). HasRisen s.faults (g.R.Rack.slot c.write_first_meta.new.rack 0).faults) (c.in_ok-attach_all.ensures.fresh 0 (let low = c.args.setup.now.geometry.disks_low in let same = c.disks.ensures in omega arith)) c.in_default.ensures.risen;
}

pub returns-in_default-write_first_meta : goal.returns-in_default-write_first_meta
returns-in_default-write_first_meta g c = record {
  slots = c.write_first_meta-2.ensures.slots ∙ c.write_first_meta.ensures.slots ∙ c.attach_all.ensures.slots;
  fresh = tt;
  others = λ d high. c.write_first_meta-2.ensures.others d (λ is. let low = c.args.setup.now.geometry.disks_low in omega arith) ∙ c.write_first_meta.ensures.others d (λ is. let low = c.args.setup.now.geometry.disks_low in omega arith) ∙ c.attach_all.ensures.others d (let same = c.disks.ensures in omega arith);
  formatted = tt;
  calls =
      attaches_and_logs _ _ (attaches g (goal.at.returns-in_default-write_first_meta g c).After-attach_all) (logging_then 0 2 4 c.write_first_meta.ensures.calls c.write_first_meta-2.ensures.calls);
  low = let low = c.args.setup.now.geometry.disks_low in omega arith;
  risen =
      subst (λ (s : Slot). HasRisen s.faults (g.R.Rack.slot c.write_first_meta-2.new.rack 1).faults)
      (c.write_first_meta.ensures.others 1 (λ is. omega arith) ∙ c.in_ok-attach_all.ensures.fresh 1 (let low = c.args.setup.now.geometry.disks_low in let same = c.disks.ensures in omega arith)) c.in_default-write_first_meta.ensures.risen;
}

pub returns : goal.returns
returns g c = record {
  slots = c.write_first_meta-2.ensures.slots ∙ c.write_first_meta.ensures.slots ∙ c.attach_all.ensures.slots;
  fresh =
      made_fresh c.args.setup.now.geometry.disks (disk_size c.args.setup.now.geometry) (g.R.Rack.slot c.args.rack.now) (g.R.Rack.slot c.attach_all.new.rack) (g.R.Rack.slot c.write_first_meta.new.rack) (g.R.Rack.slot c.write_first_meta-2.new.rack)
      (λ d low. c.in_ok-attach_all.ensures.fresh d (let same = c.disks.ensures in omega arith) ∙ ap (λ (z : ℕ). fresh_slot z (g.R.Rack.slot c.args.rack.now d)) c.size.ensures)
      c.in-Ok.ensures.here c.write_first_meta.ensures.others c.in-Ok-write_first_meta.ensures.here c.write_first_meta-2.ensures.others (let low = c.args.setup.now.geometry.disks_low in omega arith);
  others = λ d high. c.write_first_meta-2.ensures.others d (λ is. let low = c.args.setup.now.geometry.disks_low in omega arith) ∙ c.write_first_meta.ensures.others d (λ is. let low = c.args.setup.now.geometry.disks_low in omega arith) ∙ c.attach_all.ensures.others d (let same = c.disks.ensures in omega arith);
  formatted =
      let setup = c.args.setup.now in
      let b = c.write_meta.new.into in
      let is : b.bytes ≡ meta_bytes (first_meta setup) = c.write_meta.ensures ∙ ap meta_bytes c.first_meta.ensures.value in
      let range : IsInRange (first_meta setup) = subst IsInRange c.first_meta.ensures.value c.first_meta.ensures.range in
      led_then (AreFreshDisks setup.geometry.disks (disk_size setup.geometry)) (λ (a e : Disks). (m : Disks) × IsMetaWritten 0 b a m × IsMetaWritten 1 b m e)
      (BecomesFormatted (g.R.Rack.slot_count c.args.rack.now) (first_meta setup))
      (λ start first end a logs. formatted (g.R.Rack.slot_count c.args.rack.now) setup b is range c.requires.room start first logs.0 end a logs.1 logs.2)
      _ _ _ (attached g (goal.at.returns g c).In_ok-attach_all)
      (led_then (IsMetaWritten 0 b) (IsMetaWritten 1 b) (λ (a e : Disks). (m : Disks) × IsMetaWritten 0 b a m × IsMetaWritten 1 b m e) (λ a m e one two. (m, one, two)) _ _ _ c.in-Ok.ensures.logged c.in-Ok-write_first_meta.ensures.logged);
  calls = attaches_and_logs _ _ (attaches g (goal.at.returns g c).After-attach_all) (logging_then 0 2 4 c.write_first_meta.ensures.calls c.write_first_meta-2.ensures.calls);
  low = tt;
  risen = tt;
}
