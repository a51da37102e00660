use Rattle.paraid_plan.proofs.LeavesLemmas.{stays_none}
use Rattle.std.proofs.Common.{◌∙◌, refl, sym, arith}
use Rattle.std.proofs.lemmas.Result.{on_ok_weaker}
use Rattle.std.proofs.lemmas.Bool.{true≢false}
use Rattle.paraid_base.specs.Pairs.{pairs_of}
use Rattle.paraid_plan.specs.Desk.{sees}
use Rattle.paraid_image.specs.Value.{value}
use Rattle.paraid_plan.proofs.DeskLemmas.{old_fits}
use Rattle.paraid_plan.proofs.PairLemmas.{gives_few}
use Rattle.paraid_plan.proofs.PartLemmas.{both_second, both_so, part_left, part_not, wanted_old}
use Rattle.paraid_plan.proofs.read.read_cell.Goals as goal

pub returns-then-not-wanted : goal.returns-then-not-wanted
returns-then-not-wanted g c =
    record {
      here = λ tells changed old. absurd (true≢false (sym (c.is_wanted-wanted.ensures ∙ wanted_old c.args.needed c.is_part-part.result c.is_changed-changed.result c.needs_old-depends.result ((c.is_changed-changed.ensures c.args.pairs.now.bytes c.args.m.now.setup.geometry.disks (pairs_of c.args.pairs.now) c.args.r c.requires.disk c.requires.parity c.requires.given) ∙ changed) (c.needs_old-depends.ensures ∙ old)) ∙ c.if-not-wanted.true));
      others = λ x b off kept. kept;
      sum = (λ tells needed. part_left c.args.m.now.setup.geometry.disks (pairs_of c.args.pairs.now) c.args.r (value (sees c.args.m.now (g.P.WritePlan.desk c.args.plan.now)) c.args.r) c.args.anew c.is_changed-changed.result c.args.d _ _ (c.is_changed-changed.ensures c.args.pairs.now.bytes c.args.m.now.setup.geometry.disks (pairs_of c.args.pairs.now) c.args.r c.requires.disk c.requires.parity c.requires.given)
          (sym c.is_part-part.ensures ∙ part_not c.args.needed c.is_part-part.result c.is_changed-changed.result c.needs_old-depends.result needed (sym c.is_wanted-wanted.ensures ∙ c.if-not-wanted.true)) (c.add_given.ensures c.args.m.now.setup.geometry.disks c.args.r c.requires.disk c.requires.given));
      kept = refl;
      reads = record { ok = stays_none g.P.WritePlan c.args.m.now c.args.plan.now c.requires.serves; fails = tt; leads = g.met.P.WritePlan.stays c.args.plan.now };
    }

pub returns : goal.returns
returns g c =
    let changes = c.is_changed-changed.ensures c.args.pairs.now.bytes c.args.m.now.setup.geometry.disks (pairs_of c.args.pairs.now) c.args.r c.requires.disk c.requires.parity c.requires.given in
    record {
      here = on_ok_weaker c.read_wanted.result
          (λ f tells changed old. f tells (c.both-keeps.ensures ∙ both_so c.is_changed-changed.result c.needs_old-depends.result (changes ∙ changed) (c.needs_old-depends.ensures ∙ old)))
          c.read_wanted.ensures.here;
      others = c.read_wanted.ensures.others;
      sum = on_ok_weaker c.read_wanted.result (λ f tells needed. f tells) c.read_wanted.ensures.sum;
      kept = c.read_wanted.ensures.kept;
      reads = c.read_wanted.ensures.reads;
    }

pub read_wanted-requires : goal.read_wanted-requires
read_wanted-requires g c = record {
  serves = c.requires.serves;
  in_range = c.requires.in_range;
  row = c.requires.row;
  disk = c.requires.disk;
  given = c.requires.given;
  changed = c.is_changed-changed.ensures c.args.pairs.now.bytes c.args.m.now.setup.geometry.disks (pairs_of c.args.pairs.now) c.args.r c.requires.disk c.requires.parity c.requires.given;
  kept = λ h. old_fits c.args.m.now (g.P.WritePlan.desk c.args.plan.now) c.args.r c.args.d c.args.old.now c.requires.disk c.requires.kept
      (sym c.needs_old-depends.ensures ∙ both_second c.is_changed-changed.result c.needs_old-depends.result (sym c.both-keeps.ensures ∙ h));
}

pub add_given-requires : goal.add_given-requires
add_given-requires g c = record {
  disk = let high = c.args.m.now.setup.geometry.disks_high in let low = c.requires.disk in omega (arith, high, low);
  few = λ at is.
      gives_few c.args.pairs.now.bytes c.args.m.now.setup.geometry.disks (pairs_of c.args.pairs.now) c.args.r c.args.d at c.args.given.now c.requires.disk c.requires.given is;
}

pub needs_old-depends-requires : goal.needs_old-depends-requires
needs_old-depends-requires g c =
    record {
      serves = c.requires.serves;
      in_range = c.requires.in_range;
      row = c.requires.row;
      disk = c.requires.disk;
    }
