use Rattle.paraid_core.proofs.AfterLemmas.{handed}
use Rattle.paraid_core.proofs.ErrLemmas.{none_done_if}
use Rattle.std.proofs.Common.{◌≢◌, ◌-◌, IsTrue, sym, subst}
use Rattle.std.specs.Prelude.{◌↔◌}
use Rattle.paraid_base.specs.Log.{map_block_place}
use Rattle.paraid_record.specs.declared.meta.Meta.{Meta}
use Rattle.paraid_image.specs.Standing.{other_log}
use Rattle.paraid_scrub.specs.Looks.{IsReadable}
use Rattle.paraid_scrub.proofs.LookedLemmas.{differ_as, keeps_then}
use Rattle.paraid_scrub.proofs.member.is_map_off.Goals as goal

pub read_stored-requires-2-clause-readable : goal.read_stored-requires-2-clause-readable
read_stored-requires-2-clause-readable g c = subst (λ (z : Meta). IsReadable z (1 - c.args.disk)) (sym c.in_ok-read_stored.ensures.shown.same) c.requires.other

pub returns : goal.returns
returns g c = record {
  shown =
      keeps_then (λ v. IsTrue c.differs.result ↔ (v.block c.args.disk (map_block_place v.meta.setup.geometry c.args.at) ≢ v.block (other_log c.args.disk) (map_block_place v.meta.setup.geometry c.args.at))) g.met.C.Stored.then g.met.C.Stored.told c.in_ok-read_stored.ensures.shown c.in_ok-read_stored-2.ensures.shown
      (λ v s first second. differ_as c.differs.result _ _ _ _ c.differs.ensures first second);
  lost = tt;
}

pub returns-in_err-read_stored : goal.returns-in_err-read_stored
returns-in_err-read_stored g c = record {
  shown = none_done_if _ c.from_residual.result _ c.from_residual.ensures.1;
  lost = handed (g.C.Stored.loses c.args.core.now c.read_stored.new.self) c.from_residual.result _ c.from_residual.ensures.1 c.in_err-read_stored.ensures.lost;
}

pub returns-in_err-read_stored-2 : goal.returns-in_err-read_stored-2
returns-in_err-read_stored-2 g c = record {
  shown = none_done_if _ c.from_residual-in_err-read_stored-2.result _ c.from_residual-in_err-read_stored-2.ensures.1;
  lost = handed (g.C.Stored.loses c.args.core.now c.read_stored-2.new.self) c.from_residual-in_err-read_stored-2.result _ c.from_residual-in_err-read_stored-2.ensures.1 (g.met.C.Stored.then_lost _ _ _ _ c.in_ok-read_stored.ensures.shown.goes c.in_err-read_stored-2.ensures.lost);
}
