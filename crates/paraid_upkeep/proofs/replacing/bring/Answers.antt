use Rattle.std.proofs.Common.{◌≡◌, ◌∙◌, ap, arith, inl, inr, refl, sym, None, Option, Some, Ok, []}
use Rattle.std.specs.Prelude.{Result}
use Rattle.paraid_base.specs.declared.state.Out.TheVariants.{Fresh, Gone}
use Rattle.paraid_image.specs.Out.{named_out}
use Rattle.paraid_record.specs.declared.meta.Meta.{Meta}
use Rattle.paraid_core.proofs.AfterLemmas.{handed}
use Rattle.paraid_upkeep.proofs.ResultLemmas.{none_done, none_done_as, none_done_if}
use Rattle.paraid_upkeep.specs.declared.fault.ReplaceFault.{ReplaceFault}
use Rattle.paraid_upkeep.proofs.OutLemmas.{known_fresh, known_gone}
use Rattle.paraid_upkeep.proofs.TurnLemmas.{replaced_halts, replaced_turn, unreplaced_turn}
use Rattle.paraid_upkeep.proofs.ToldLemmas.{extends_core}
use Rattle.paraid_txn.specs.Stores.{store_rack}
use Rattle.paraid_upkeep.proofs.FitsLemmas.{fits_replaced}
use Rattle.paraid_upkeep.proofs.replacing.bring.Goals as goal

-- it was done or refused, and not for another reason
done_not_refused : {A E : Type 0} (r : Result (Option ReplaceFault) E) (f : ReplaceFault) → r ≡ Ok None → r ≡ Ok (Some f) → A
done_not_refused r f is was = let z : Ok None ≡ Ok (Some f) = sym is ∙ was in absurd cc

pub begin-requires : goal.begin-requires
begin-requires g c = record {
  serving = c.requires.service.serving;
  absent = c.requires.service.known.absent;
  epoch = let e = c.requires.epoch in omega (arith, e);
  out = c.requires.out;
}

pub returns-in_err-there : goal.returns-in_err-there
returns-in_err-there g c = record {
  service = none_done _ c.from_residual.result _ c.from_residual.ensures.1;
  fits = none_done _ c.from_residual.result _ c.from_residual.ensures.1;
  leaves = none_done _ c.from_residual.result _ c.from_residual.ensures.1;
  fresh = λ is. none_done_as _ c.from_residual.result _ _ c.from_residual.ensures.1 is;
  lacks = λ is. none_done_as _ c.from_residual.result _ _ c.from_residual.ensures.1 is;
  refused = none_done_if _ c.from_residual.result _ c.from_residual.ensures.1;
  table = none_done _ c.from_residual.result _ c.from_residual.ensures.1;
  turn = none_done_if _ c.from_residual.result _ c.from_residual.ensures.1;
  halts = handed _ c.from_residual.result _ c.from_residual.ensures.1 (replaced_halts g.R.Rack.slot_count g.R.Rack.told c.args.core.now c.begin.new.core c.args.disk c.requires.disk c.requires.out _ c.in_err-there.ensures.loses);
  keeps = record {
    slots = c.begin.ensures.keeps.slots;
    later = c.begin.ensures.keeps.later;
    two = handed _ c.from_residual.result _ c.from_residual.ensures.1 c.in_err-there.ensures.keeps.two;
  };
  told = extends_core g.R.Rack.told c.args.core.now c.begin.new.core _ (c.begin.ensures.moments [] 0);
}

pub returns-then-there : goal.returns-then-there
returns-then-there g c =
    let a = c.args.core.now in
    let b = c.begin.new.core in
    let done = c.in_ok-there.ensures in
    let is = ap Ok c.if-there.true in
    record {
      service = record {
        serving = done.serves.serving;
        known = known_fresh g.R.Rack.slot b c.args.disk (ap (λ (m : Meta). named_out m.out) ((done.there is).fresh).is) done.serves.named ((done.there is).spins);
      };
      fits = fits_replaced (g.R.Rack.slot (store_rack a.store)) (g.R.Rack.slot (store_rack b.store)) a.meta b.meta c.args.disk 2 (Fresh c.args.disk 0) done.leaves.spared ((done.there is).fresh) c.requires.out refl done.serves.serving.large done.serves.serving.ready.absent;
      leaves = done.leaves;
      fresh = λ was. (done.there is).fresh;
      lacks = λ was. done_not_refused _ _ refl was;
      refused = tt;
      table = c.begin.ensures.table;
      turn = replaced_turn g.R.Rack.slot_count g.R.Rack.told a b c.args.disk c.requires.disk c.requires.out done.event (ap (λ (m : Meta). m.out) ((done.there is).fresh).is);
      halts = tt;
      keeps = record {
        slots = c.begin.ensures.keeps.slots;
        later = c.begin.ensures.keeps.later;
        two = tt;
      };
      told = extends_core g.R.Rack.told a b _ (c.begin.ensures.moments [] 0);
    }

pub returns : goal.returns
returns g c =
    let a = c.args.core.now in
    let b = c.begin.new.core in
    let done = c.in_ok-there.ensures in
    let not = ap Ok c.if-there.false in
    let gone : b.meta.out ≡ Gone c.args.disk = elim ((done.lacks not).gone) [ inl one ↦ ap (λ (m : Meta). m.out) one.is | inr two ↦ ap (λ (m : Meta). m.out) two.is ] in
    record {
      service = record {
        serving = done.serves.serving;
        known = known_gone g.R.Rack.slot b c.args.disk gone done.serves.absent;
      };
      fits = elim ((done.lacks not).gone) [
        | inl one ↦ fits_replaced (g.R.Rack.slot (store_rack a.store)) (g.R.Rack.slot (store_rack b.store)) a.meta b.meta c.args.disk 1 (Gone c.args.disk) done.leaves.spared one c.requires.out refl done.serves.serving.large done.serves.serving.ready.absent
        | inr two ↦ fits_replaced (g.R.Rack.slot (store_rack a.store)) (g.R.Rack.slot (store_rack b.store)) a.meta b.meta c.args.disk 2 (Gone c.args.disk) done.leaves.spared two c.requires.out refl done.serves.serving.large done.serves.serving.ready.absent
      ];
      leaves = done.leaves;
      fresh = λ was. done_not_refused _ _ was refl;
      lacks = λ was. done.lacks not;
      refused = refl;
      table = c.begin.ensures.table;
      turn = unreplaced_turn g.R.Rack.slot_count g.R.Rack.told a b c.args.disk c.requires.disk c.requires.out done.event gone;
      halts = tt;
      keeps = record {
        slots = c.begin.ensures.keeps.slots;
        later = c.begin.ensures.keeps.later;
        two = tt;
      };
      told = extends_core g.R.Rack.told a b _ (c.begin.ensures.moments [] 0);
    }
