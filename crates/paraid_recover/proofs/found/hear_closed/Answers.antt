use Rattle.std.specs.Prelude.{true}
use Rattle.std.proofs.Common.{arith, refl, ◌∙◌, ap, ◌≡◌, false}
use Rattle.paraid_rack.specs.Disks.{Disks}
use Rattle.paraid_rack.specs.Trail.{now}
use Rattle.paraid_image.specs.Sides.{is_open, stored_block}
use Rattle.paraid_recover.proofs.FoundLemmas.{closed_meta}
use Rattle.paraid_recover.proofs.LogReadsLemmas.{log_raised}
use Rattle.paraid_recover.proofs.RaisedLemmas.{none_done_if}
use Rattle.paraid_recover.proofs.UnchangedLemmas.{unchanged_now}
use Rattle.paraid_recover.proofs.found.hear_closed.Goals as goal

pub read_place-requires : goal.read_place-requires
read_place-requires g c = record { exists = c.requires.exists; spinning = c.requires.spinning; low = omega arith }

pub returns-in_err-read_place : goal.returns-in_err-read_place
returns-in_err-read_place g c = record {
  reads = log_raised g.R.Rack c.args.disk 1 c.args.rack.now c.read_place.new.rack c.from_residual.result _ c.from_residual.ensures.1 c.in_err-read_place.ensures.reads;
  head = c.read_place.ensures.head (omega arith);
  heard = none_done_if _ c.from_residual.result _ c.from_residual.ensures.1;
}

pub returns : goal.returns
returns g c = record {
  reads = c.in_ok-read_place.ensures.reads;
  head = c.read_place.ensures.head (omega arith);
  heard = λ t tells.
      let u = unchanged_now (c.in_ok-read_place.ensures.reads.unchanged (refl {a = true})) t tells in
      let shut : is_open (stored_block (now t) c.args.disk 0) ≡ false = ap (λ (s : Disks). is_open (stored_block s c.args.disk 0)) u.2 ∙ c.requires.shut u.0 u.1 in
      closed_meta (now t) c.args.disk c.read_place.new.into c.read_meta.result shut (c.in_ok-read_place.ensures.block t tells) c.read_meta.ensures.some c.read_meta.ensures.none;
}
