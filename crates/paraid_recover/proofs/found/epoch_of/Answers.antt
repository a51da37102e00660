use Rattle.std.specs.Prelude.{true}
use Rattle.std.proofs.Common.{refl, sym, ◌∙◌, ap, subst, ◌≡◌, arith, Option}
use Rattle.paraid_rack.specs.declared.call.Power.TheVariants.{Spinning}
use Rattle.paraid_rack.specs.Slots.{Slot}
use Rattle.paraid_rack.specs.Trail.{now}
use Rattle.paraid_record.specs.declared.meta.Meta.{Meta}
use Rattle.paraid_recover.specs.Found.{IsMetaOf}
use Rattle.paraid_recover.proofs.FoundLemmas.{there_below}
use Rattle.paraid_recover.proofs.HeadLemmas.{head_none}
use Rattle.paraid_recover.proofs.LogReadsLemmas.{log_none, log_raised}
use Rattle.paraid_recover.proofs.RaisedLemmas.{none_done_if}
use Rattle.paraid_recover.proofs.found.epoch_of.Goals as goal

pub hear-requires : goal.hear-requires
hear-requires g c = let no = c.lacks_log.ensures.no c.if-lacks_log.false in record { exists = no.0; spinning = no.1 }

pub returns-then-lacks_log : goal.returns-then-lacks_log
returns-then-lacks_log g c = record {
  reads = log_none g.R.Rack c.args.disk 3 c.args.rack.now;
  head = head_none c.args.disk 3 (g.R.Rack.told c.args.rack.now);
  heard = λ t tells m f.
      let a = g.met.R.Rack.agrees _ t tells in
      let spins : (g.R.Rack.slot c.args.rack.now c.args.disk).power ≡ Spinning = sym (a.power c.args.disk) ∙ f.spinning in
      c.lacks_log.ensures.yes c.if-lacks_log.true spins (let s = a.size c.args.disk in let l = f.large in omega arith)
      (there_below (g.R.Rack.slot_count c.args.rack.now) (g.R.Rack.slot c.args.rack.now) (g.met.R.Rack.slots_hold c.args.rack.now) c.args.disk spins);
}

pub returns-in_err-meta : goal.returns-in_err-meta
returns-in_err-meta g c = record {
  reads = log_raised g.R.Rack c.args.disk 3 c.args.rack.now c.hear.new.rack c.from_residual.result _ c.from_residual.ensures.1 c.in_err-meta.ensures.reads;
  head = c.hear.ensures.head;
  heard = none_done_if _ c.from_residual.result _ c.from_residual.ensures.1;
}

pub returns-in_default : goal.returns-in_default
returns-in_default g c = record {
  reads = c.in_ok-meta.ensures.reads;
  head = c.hear.ensures.head;
  heard = λ t tells m f. subst (λ (o : Option Meta). IsMetaOf (now t) c.args.disk o) c.in_default.is (c.in_ok-meta.ensures.heard t tells) m f.formed;
}

pub returns : goal.returns
returns g c = record {
  reads = c.in_ok-meta.ensures.reads;
  head = c.hear.ensures.head;
  heard = λ t tells.
      let a = g.met.R.Rack.agrees _ t tells in
      let no = c.lacks_log.ensures.no c.if-lacks_log.false in
      let same = c.in_ok-meta.ensures.reads.same (refl {a = true}) c.args.disk in (
        c.in-Some.meta,
        record {
          log_disk = c.requires.log_disk;
          spinning = a.power c.args.disk ∙ ap (λ (s : Slot). s.power) same ∙ no.1;
          large = (let s = a.size c.args.disk ∙ ap (λ (s : Slot). s.size) same in let l = no.2 in omega arith);
          formed = subst (λ (o : Option Meta). IsMetaOf (now t) c.args.disk o) c.in-Some.is (c.in_ok-meta.ensures.heard t tells);
        },
        refl,
      );
}
