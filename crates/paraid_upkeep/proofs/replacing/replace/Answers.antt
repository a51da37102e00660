use Rattle.std.proofs.Common.{◌≡◌, ◌≢◌, ℕ, ◌<◌, ◌≤◌, true, false, None, Option, Ok, Some, ap, sym, subst, arith, refl, ◌∙◌}
use Rattle.std.specs.Prelude.{IfOk, IfSome, Result, ◌==◌}
use Rattle.std.proofs.lemmas.Bool.Decides.{nat_tests}
use Rattle.paraid_image.specs.Out.{is_out, named_out}
use Rattle.paraid_record.specs.declared.meta.Meta.{Meta}
use Rattle.paraid_upkeep.specs.DiskRefusals.{IsReplaceRefused}
use Rattle.paraid_upkeep.specs.declared.fault.ReplaceFault.{ReplaceFault}
use Rattle.paraid_upkeep.specs.declared.fault.ReplaceFault.TheVariants.{NoDisk, NoFresh, NotOut}
use Rattle.paraid_upkeep.proofs.ResultLemmas.{if_ok, on_ok}
use Rattle.paraid_upkeep.proofs.ToldLemmas.{extends_none}
use Rattle.paraid_upkeep.proofs.TurnLemmas.{replace_missing, replace_there}
use Rattle.paraid_txn.specs.Stores.{store_rack}
use Rattle.paraid_session.proofs.FaultLemmas.{same_counts}
use Rattle.paraid_upkeep.proofs.replacing.replace.Goals as goal

not_named : (o : Option ℕ) (d : ℕ) → is_out o d ≡ false → o ≢ Some d
not_named o d off is = by d (subst (λ (x : Option ℕ). is_out x d ≡ false) is off)
  where
    by : (x : ℕ) → (x == x) ≡ false → ⊥
    by x e = grind (e, arith, nat_tests)

is_named : (o : Option ℕ) (d : ℕ) → is_out o d ≡ true → o ≡ Some d
is_named None d is = let z : false ≡ true = is in cc
is_named (Some x) d is = ap Some (sym (by d x is))
  where
    by : (x y : ℕ) → (x == y) ≡ true → x ≡ y
    by x y e = grind (e, arith, nat_tests)

-- a number is not less than one that it reaches
not_below : {A : Type 0} (x y : ℕ) → x < y → y ≤ x → A
not_below x y below past = absurd (omega (arith, below, past))

-- one refusal is not another, nor a success
missing_not_done : {A E : Type 0} (r : Result (Option ReplaceFault) E) (d : ℕ) → r ≡ Ok (Some (NoDisk d)) → r ≡ Ok None → A
missing_not_done r d is was = let z : Ok (Some (NoDisk d)) ≡ Ok None = sym is ∙ was in absurd cc

missing_not_failed : {A E : Type 0} (r : Result (Option ReplaceFault) E) (d e : ℕ) → r ≡ Ok (Some (NoDisk d)) → r ≡ Ok (Some (NoFresh e)) → A
missing_not_failed r d e is was = let z : Ok (Some (NoDisk d)) ≡ Ok (Some (NoFresh e)) = sym is ∙ was in absurd cc

there_not_done : {A E : Type 0} (r : Result (Option ReplaceFault) E) (d : ℕ) → r ≡ Ok (Some (NotOut d)) → r ≡ Ok None → A
there_not_done r d is was = let z : Ok (Some (NotOut d)) ≡ Ok None = sym is ∙ was in absurd cc

there_not_failed : {A E : Type 0} (r : Result (Option ReplaceFault) E) (d e : ℕ) → r ≡ Ok (Some (NotOut d)) → r ≡ Ok (Some (NoFresh e)) → A
there_not_failed r d e is was = let z : Ok (Some (NotOut d)) ≡ Ok (Some (NoFresh e)) = sym is ∙ was in absurd cc

-- a disk that is out is refused for want of a fresh one alone
only_fresh : {E : Type 0} (r : Result (Option ReplaceFault) E) (d : ℕ) (f : ReplaceFault) → IfOk r (λ refusal. IfSome refusal (λ fault. fault ≡ NoFresh d)) → r ≡ Ok (Some f) → f ≡ NoFresh d
only_fresh {E} r d f only is = subst (λ (x : Result (Option ReplaceFault) E). IfOk x (λ refusal. IfSome refusal (λ fault. fault ≡ NoFresh d))) is only

not_missing : {A E : Type 0} (r : Result (Option ReplaceFault) E) (d : ℕ) → IfOk r (λ refusal. IfSome refusal (λ fault. fault ≡ NoFresh d)) → r ≡ Ok (Some (NoDisk d)) → A
not_missing r d only is = let z : NoDisk d ≡ NoFresh d = only_fresh r d (NoDisk d) only is in absurd cc

not_there : {A E : Type 0} (r : Result (Option ReplaceFault) E) (d : ℕ) → IfOk r (λ refusal. IfSome refusal (λ fault. fault ≡ NoFresh d)) → r ≡ Ok (Some (NotOut d)) → A
not_there r d only is = let z : NotOut d ≡ NoFresh d = only_fresh r d (NotOut d) only is in absurd cc

-- the slot of a disk that is out has failed
no_fresh : (m : Meta) (d : ℕ) (o : Option ReplaceFault) → d < m.setup.geometry.disks → named_out m.out ≡ Some d → IfSome o (λ fault. fault ≡ NoFresh d) → IfSome o (IsReplaceRefused m d)
no_fresh m d None low out only = tt
no_fresh m d (Some fault) low out only = subst (λ (f : ReplaceFault). IsReplaceRefused m d f) (sym only) (refl, low, out)

pub returns-then-disk-meta : goal.returns-then-disk-meta
returns-then-disk-meta g c =
    let a = c.args.core.now in
    let past = subst (λ (m : Meta). m.setup.geometry.disks ≤ c.args.disk) c.meta.ensures c.if-disk-meta.true in
    record {
      service = c.requires.service;
      fits = λ f. f;
      setup = refl;
      writes = refl;
      fresh = λ is. missing_not_done _ c.args.disk refl is;
      lacks = λ is. missing_not_failed _ c.args.disk c.args.disk refl is;
      refuses = record {
        missing = λ is. (refl, refl);
        in_place = λ below not. not_below c.args.disk a.meta.setup.geometry.disks below past;
        refused = (refl, past);
        no_disk = λ is. refl;
        not_out = λ is. refl;
      };
      replaced = λ is. missing_not_done _ c.args.disk refl is;
      table = refl;
      turn = replace_missing g.R.Rack.slot_count g.R.Rack.told a c.args.disk past;
      halts = tt;
      keeps = record {
        slots = refl;
        later = same_counts (g.R.Rack.slot (store_rack a.store));
        two = tt;
      };
      told = extends_none (g.R.Rack.told (store_rack a.store));
    }

pub returns-then-not-names : goal.returns-then-not-names
returns-then-not-names g c =
    let a = c.args.core.now in
    let below = subst (λ (m : Meta). c.args.disk < m.setup.geometry.disks) c.meta.ensures c.if-disk-meta.false in
    let not = not_named (named_out a.meta.out) c.args.disk (subst (λ (o : Option ℕ). is_out o c.args.disk ≡ false) (ap named_out c.out.ensures) (sym c.names.ensures ∙ c.if-not-names.true)) in
    record {
      service = c.requires.service;
      fits = λ f. f;
      setup = refl;
      writes = refl;
      fresh = λ is. there_not_done _ c.args.disk refl is;
      lacks = λ is. there_not_failed _ c.args.disk c.args.disk refl is;
      refuses = record {
        missing = λ past. not_below c.args.disk a.meta.setup.geometry.disks below past;
        in_place = λ low apart. (refl, refl);
        refused = (refl, below, not);
        no_disk = λ is. refl;
        not_out = λ is. refl;
      };
      replaced = λ is. there_not_done _ c.args.disk refl is;
      table = refl;
      turn = replace_there g.R.Rack.slot_count g.R.Rack.told a c.args.disk below not;
      halts = tt;
      keeps = record {
        slots = refl;
        later = same_counts (g.R.Rack.slot (store_rack a.store));
        two = tt;
      };
      told = extends_none (g.R.Rack.told (store_rack a.store));
    }

pub bring-requires : goal.bring-requires
bring-requires g c = record {
  service = c.requires.service;
  out = is_named (named_out c.args.core.now.meta.out) c.args.disk (subst (λ (o : Option ℕ). is_out o c.args.disk ≡ true) (ap named_out c.out.ensures) (sym c.names.ensures ∙ c.if-not-names.false));
  disk = subst (λ (m : Meta). c.args.disk < m.setup.geometry.disks) c.meta.ensures c.if-disk-meta.false;
  epoch = c.requires.epoch;
}

pub returns : goal.returns
returns g c =
    let a = c.args.core.now in
    let r = c.bring.result in
    let brings = c.bring.ensures in
    let below = subst (λ (m : Meta). c.args.disk < m.setup.geometry.disks) c.meta.ensures c.if-disk-meta.false in
    let out = is_named (named_out a.meta.out) c.args.disk (subst (λ (o : Option ℕ). is_out o c.args.disk ≡ true) (ap named_out c.out.ensures) (sym c.names.ensures ∙ c.if-not-names.false)) in
    record {
      service = brings.service;
      fits = brings.fits;
      setup = on_ok _ _ r (λ left. left.setup) brings.leaves;
      writes = on_ok _ _ r (λ left. left.writes) brings.leaves;
      fresh = brings.fresh;
      lacks = brings.lacks;
      refuses = record {
        missing = λ past. not_below c.args.disk a.meta.setup.geometry.disks below past;
        in_place = λ low apart. absurd (apart out);
        refused = if_ok _ _ r (λ refusal only. no_fresh a.meta c.args.disk refusal below out only) brings.refused;
        no_disk = λ is. not_missing r c.args.disk brings.refused is;
        not_out = λ is. not_there r c.args.disk brings.refused is;
      };
      replaced = λ is. (below, out);
      table = brings.table;
      turn = brings.turn;
      halts = brings.halts;
      keeps = brings.keeps;
      told = brings.told;
    }
