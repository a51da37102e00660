use Rattle.std.proofs.Common.{◌≡◌, ℕ, ◌<◌, ◌≤◌, Option, None, Some, Ok, ap, arith, inl, inr, refl, sym, subst, ◌∙◌}
use Rattle.std.specs.Prelude.{Result}
use Rattle.paraid_image.specs.Out.{named_out}
use Rattle.paraid_record.specs.declared.meta.Meta.{Meta}
use Rattle.paraid_record.specs.declared.meta.Setup.{Setup}
use Rattle.paraid_txn.specs.Stores.{named_of, store_rack}
use Rattle.paraid_core.specs.Cores.{core_down}
use Rattle.paraid_core.proofs.AfterLemmas.{handed}
use Rattle.paraid_upkeep.proofs.ResultLemmas.{none_done, none_done_as, none_done_if}
use Rattle.paraid_upkeep.specs.declared.fault.FailFault.{FailFault}
use Rattle.paraid_upkeep.specs.declared.fault.FailFault.TheVariants.{NoDisk, Out as OutFault}
use Rattle.paraid_upkeep.proofs.CommitLemmas.{few_none, few_one, few_then, few_within}
use Rattle.paraid_upkeep.proofs.OutLemmas.{fails_newly, none_marked, taken_then, two_or, two_taken_then}
use Rattle.paraid_upkeep.proofs.TurnLemmas.{beside_turn, fail_beside, fail_missing, marked_halts, staged_halts, taken_turn}
use Rattle.paraid_upkeep.proofs.failing.take_out.Goals.{in-Some-named+else-out-disk, in_default-named}
use Rattle.paraid_upkeep.proofs.ToldLemmas.{extends_cores, extends_none, no_fall_then}
use Rattle.paraid_upkeep.proofs.failing.take_out.Goals as goal

-- the one disk that is out, or none, is this one
one_only : (o : Option ℕ) (out disk : ℕ) → o ≡ Some out → out ≡ disk → (e : ℕ) → o ≡ Some e → e ≡ disk
one_only o out disk is same e also = let z : Some out ≡ Some e = sym is ∙ also in let one : out ≡ e = cc in sym one ∙ same

none_only : (o : Option ℕ) (disk : ℕ) → o ≡ None → (e : ℕ) → o ≡ Some e → e ≡ disk
none_only o disk is e also = let z : None ≡ Some e = sym is ∙ also in absurd cc

-- no disk was out, so none is this one
none_known : {A : Type 0} (o : Option ℕ) (d : ℕ) → o ≡ None → o ≡ Some d → A
none_known o d none is = let z : None ≡ Some d = sym none ∙ is in absurd cc

-- what was refused was not done
refused_not_done : {A E : Type 0} (r : Result (Option FailFault) E) (f : FailFault) → r ≡ Ok (Some f) → r ≡ Ok None → A
refused_not_done r f is was = let z : Ok (Some f) ≡ Ok None = sym is ∙ was in absurd cc

-- a number is not less than one that it reaches
not_below : {A : Type 0} (x y : ℕ) → x < y → y ≤ x → A
not_below x y below past = absurd (omega (arith, below, past))

pub returns-then-disk-meta : goal.returns-then-disk-meta
returns-then-disk-meta g c =
    let a = c.args.core.now in
    let past = subst (λ (m : Meta). m.setup.geometry.disks ≤ c.args.disk) c.meta.ensures c.if-disk-meta.true in
    record {
      stays = record {
        service = c.requires.service;
        setup = refl;
        writes = refl;
        unsynced = λ unsynced. unsynced;
        known = λ known. known;
        fits = λ f. f;
      };
      marks = (a.meta.epoch, none_marked a.meta);
      refuses = record {
        no_disk = λ is. (refl, refl);
        out = λ d below is. not_below c.args.disk a.meta.setup.geometry.disks below past;
        refused = (refl, past);
        lost = λ e is none. let z : Some (NoDisk c.args.disk) ≡ Some (OutFault e) = is in cc;
      };
      taken = λ is. refused_not_done _ _ refl is;
      calls = record {
        slots = refl;
        no_fall = λ d. omega arith;
        grows = extends_none (g.R.Rack.told (store_rack a.store));
      };
      table = refl;
      commits = few_none a a 2 refl;
      alone = λ none. omega arith;
      turn = fail_missing g.R.Rack.slot_count g.R.Rack.told a c.args.disk past;
      halts = tt;
      two = tt;
    }

pub returns-in-Some : goal.returns-in-Some
returns-in-Some g c =
    let a = c.args.core.now in
    let below = subst (λ (m : Meta). c.args.disk < m.setup.geometry.disks) c.meta.ensures c.if-disk-meta.false in
    let named = sym (c.named.ensures ∙ ap named_out c.out.ensures) ∙ c.in-Some.is in
    record {
      stays = record {
        service = c.requires.service;
        setup = refl;
        writes = refl;
        unsynced = λ unsynced. unsynced;
        known = λ known. known;
        fits = λ f. f;
      };
      marks = (a.meta.epoch, none_marked a.meta);
      refuses = record {
        no_disk = λ past. not_below c.args.disk a.meta.setup.geometry.disks below past;
        out = λ d low is. (ap (λ (e : ℕ). Ok (Some (OutFault e))) (one_only (named_out a.meta.out) d d is refl c.in-Some.out named), refl);
        refused = (below, inl named);
        lost = λ e is none. none_known (named_out a.meta.out) c.in-Some.out none named;
      };
      taken = λ is. refused_not_done _ _ refl is;
      calls = record {
        slots = refl;
        no_fall = λ d. omega arith;
        grows = extends_none (g.R.Rack.told (store_rack a.store));
      };
      table = refl;
      commits = few_none a a 2 refl;
      alone = λ none. omega arith;
      turn = fail_beside g.R.Rack.slot_count g.R.Rack.told a c.args.disk c.in-Some.out below named;
      halts = tt;
      two = tt;
    }

pub commit_writes-requires : goal.commit_writes-requires
commit_writes-requires g c = record { service = c.requires.service; epoch = c.requires.epoch }

pub returns-in_err-commit_writes : goal.returns-in_err-commit_writes
returns-in_err-commit_writes g c =
    let a = c.args.core.now in
    let b = c.commit_writes.new.core in
    let below = subst (λ (m : Meta). c.args.disk < m.setup.geometry.disks) c.meta.ensures c.if-disk-meta.false in
    let none = sym (c.named.ensures ∙ ap named_out c.out.ensures) ∙ c.in_default.is in
    record {
      stays = none_done _ c.from_residual.result _ c.from_residual.ensures.1;
      marks = none_done_if _ c.from_residual.result _ c.from_residual.ensures.1;
      refuses = record {
        no_disk = λ past. not_below c.args.disk a.meta.setup.geometry.disks below past;
        out = λ d low is. none_known (named_out a.meta.out) d none is;
        refused = none_done_if _ c.from_residual.result _ c.from_residual.ensures.1;
        lost = none_done_if _ c.from_residual.result _ c.from_residual.ensures.1;
      };
      taken = λ is. none_done_as _ c.from_residual.result _ _ c.from_residual.ensures.1 is;
      calls = record {
        slots = c.commit_writes.ensures.keeps.slots;
        no_fall = c.commit_writes.ensures.keeps.spared.no_fall;
        grows = c.commit_writes.ensures.told;
      };
      table = c.commit_writes.ensures.table;
      commits = none_done _ c.from_residual.result _ c.from_residual.ensures.1;
      alone = λ empty. none_done _ c.from_residual.result _ c.from_residual.ensures.1;
      turn = none_done_if _ c.from_residual.result _ c.from_residual.ensures.1;
      halts = handed _ c.from_residual.result _ c.from_residual.ensures.1 (staged_halts g.R.Rack.slot_count g.R.Rack.told a c.args.disk below none b _ c.in_err-commit_writes.ensures.loses);
      two = handed _ c.from_residual.result _ c.from_residual.ensures.1 (two_or (core_down a) c.args.disk _ _ _ c.in_err-commit_writes.ensures.keeps.two);
    }

pub returns-then-out-disk : goal.returns-then-out-disk
returns-then-out-disk g c =
    let a = c.args.core.now in
    let b = c.commit_writes.new.core in
    let below = subst (λ (m : Meta). c.args.disk < m.setup.geometry.disks) c.meta.ensures c.if-disk-meta.false in
    let none = sym (c.named.ensures ∙ ap named_out c.out.ensures) ∙ c.in_default.is in
    let named = sym (c.named-2.ensures ∙ ap named_out c.out-2.ensures) ∙ c.in-Some-named.is in
    let done = c.in_ok-commit_writes.ensures in
    record {
      stays = done.stays;
      marks = (b.meta.epoch, done.meta);
      refuses = record {
        no_disk = λ past. not_below c.args.disk a.meta.setup.geometry.disks below past;
        out = λ d low is. none_known (named_out a.meta.out) d none is;
        refused = (below, inr (none, named, c.if-out-disk.true));
        lost = λ e is empty.
            let same : c.in-Some-named.out ≡ e = let z : Some (OutFault c.in-Some-named.out) ≡ Some (OutFault e) = is in cc in
            fails_newly (g.R.Rack.slot (store_rack a.store)) (g.R.Rack.slot (store_rack b.store)) (named_out a.meta.out) (named_out b.meta.out) (named_of a.store) (named_of b.store) c.requires.service.serves.stays done.stays.service.serves.stays done.down none e
            (named ∙ ap (λ (x : ℕ). Some x) same);
      };
      taken = λ is. refused_not_done _ _ refl is;
      calls = record {
        slots = c.commit_writes.ensures.keeps.slots;
        no_fall = c.commit_writes.ensures.keeps.spared.no_fall;
        grows = c.commit_writes.ensures.told;
      };
      table = c.commit_writes.ensures.table;
      commits = few_within a b 1 2 (omega arith) done.epoch;
      alone = λ empty. done.epoch.few;
      turn =
          beside_turn g.R.Rack.slot_count g.R.Rack.told a c.args.disk below none b c.in-Some-named.out (λ same. c.if-out-disk.true (sym same)) named done.commits c.commit_writes.ensures.keeps.slots c.commit_writes.ensures.table
          done.stays.service.copies_synced done.nothing;
      halts = tt;
      two = tt;
    }

pub mark_gone-requires : goal.mark_gone-requires
mark_gone-requires g c =
    let m = c.commit_writes.new.core in
    let staged = c.in_ok-commit_writes.ensures in
    let names = c.named-2.ensures ∙ ap named_out c.out-2.ensures in
    record {
      service = staged.stays.service;
      epoch =
          let e = c.requires.epoch in
          let f = staged.epoch.few in omega (arith, e, f);
      disk = subst (λ (z : Setup). c.args.disk < z.geometry.disks) (sym staged.stays.setup) (subst (λ (m : Meta). c.args.disk < m.setup.geometry.disks) c.meta.ensures c.if-disk-meta.false);
      alone = elim c.match-named-2.branch [
        | in-Some-named+else-out-disk w ↦ one_only (named_out m.meta.out) w.in-Some-named.out c.args.disk (sym names ∙ w.in-Some-named.is) w.if-out-disk.false
        | in_default-named w ↦ none_only (named_out m.meta.out) c.args.disk (sym names ∙ w.in_default-named.is)
      ];
    }

pub returns-in_err-mark_gone : goal.returns-in_err-mark_gone
returns-in_err-mark_gone g c =
    let a = c.args.core.now in
    let m = c.commit_writes.new.core in
    let b = c.mark_gone.new.core in
    let below = subst (λ (m : Meta). c.args.disk < m.setup.geometry.disks) c.meta.ensures c.if-disk-meta.false in
    let none = sym (c.named.ensures ∙ ap named_out c.out.ensures) ∙ c.in_default.is in
    let names = c.named-2.ensures ∙ ap named_out c.out-2.ensures in
    let alone : (e : ℕ) → named_out m.meta.out ≡ Some e → e ≡ c.args.disk = elim c.match-named-2.branch [
      | in-Some-named+else-out-disk w ↦ one_only (named_out m.meta.out) w.in-Some-named.out c.args.disk (sym names ∙ w.in-Some-named.is) w.if-out-disk.false
      | in_default-named w ↦ none_only (named_out m.meta.out) c.args.disk (sym names ∙ w.in_default-named.is)
    ] in
    record {
      stays = none_done _ c.from_residual-in_err-mark_gone.result _ c.from_residual-in_err-mark_gone.ensures.1;
      marks = none_done_if _ c.from_residual-in_err-mark_gone.result _ c.from_residual-in_err-mark_gone.ensures.1;
      refuses = record {
        no_disk = λ past. not_below c.args.disk a.meta.setup.geometry.disks below past;
        out = λ d low is. none_known (named_out a.meta.out) d none is;
        refused = none_done_if _ c.from_residual-in_err-mark_gone.result _ c.from_residual-in_err-mark_gone.ensures.1;
        lost = none_done_if _ c.from_residual-in_err-mark_gone.result _ c.from_residual-in_err-mark_gone.ensures.1;
      };
      taken = λ is. none_done_as _ c.from_residual-in_err-mark_gone.result _ _ c.from_residual-in_err-mark_gone.ensures.1 is;
      calls = record {
        slots = c.mark_gone.ensures.slots ∙ c.commit_writes.ensures.keeps.slots;
        no_fall = no_fall_then (g.R.Rack.slot (store_rack a.store)) (g.R.Rack.slot (store_rack m.store)) (g.R.Rack.slot (store_rack b.store)) c.commit_writes.ensures.keeps.spared.no_fall c.mark_gone.ensures.spared.no_fall;
        grows = extends_cores g.R.Rack.told a m b c.commit_writes.ensures.told c.mark_gone.ensures.told;
      };
      table = c.mark_gone.ensures.table ∙ c.commit_writes.ensures.table;
      commits = none_done _ c.from_residual-in_err-mark_gone.result _ c.from_residual-in_err-mark_gone.ensures.1;
      alone = λ empty. none_done _ c.from_residual-in_err-mark_gone.result _ c.from_residual-in_err-mark_gone.ensures.1;
      turn = none_done_if _ c.from_residual-in_err-mark_gone.result _ c.from_residual-in_err-mark_gone.ensures.1;
      halts =
          handed _ c.from_residual-in_err-mark_gone.result _ c.from_residual-in_err-mark_gone.ensures.1
          (marked_halts g.R.Rack.slot_count g.R.Rack.told a c.args.disk below none m b c.in_ok-commit_writes.ensures.commits c.mark_gone.ensures.marks alone c.commit_writes.ensures.keeps.slots _ c.in_err-mark_gone.ensures.loses);
      two =
          handed _ c.from_residual-in_err-mark_gone.result _ c.from_residual-in_err-mark_gone.ensures.1
          (two_taken_then (core_down a) (core_down m) c.args.disk _ _ _ _ c.in_ok-commit_writes.ensures.down c.commit_writes.ensures.keeps.spared.no_fall c.mark_gone.ensures.spared.no_fall c.in_err-mark_gone.ensures.two);
    }

pub returns : goal.returns
returns g c =
    let a = c.args.core.now in
    let m = c.commit_writes.new.core in
    let b = c.mark_gone.new.core in
    let below = subst (λ (m : Meta). c.args.disk < m.setup.geometry.disks) c.meta.ensures c.if-disk-meta.false in
    let none = sym (c.named.ensures ∙ ap named_out c.out.ensures) ∙ c.in_default.is in
    let names = c.named-2.ensures ∙ ap named_out c.out-2.ensures in
    let alone : (e : ℕ) → named_out m.meta.out ≡ Some e → e ≡ c.args.disk = elim c.match-named-2.branch [
      | in-Some-named+else-out-disk w ↦ one_only (named_out m.meta.out) w.in-Some-named.out c.args.disk (sym names ∙ w.in-Some-named.is) w.if-out-disk.false
      | in_default-named w ↦ none_only (named_out m.meta.out) c.args.disk (sym names ∙ w.in_default-named.is)
    ] in
    let staged = c.in_ok-commit_writes.ensures in
    let done = c.in_ok-mark_gone.ensures in
    record {
      stays = record {
        service = done.stays.service;
        setup = done.stays.setup ∙ staged.stays.setup;
        writes = done.stays.writes ∙ staged.stays.writes;
        unsynced = λ before. done.stays.unsynced (staged.stays.unsynced before);
        known = λ before. done.known;
        fits = λ f. done.stays.fits (staged.stays.fits f);
      };
      marks = taken_then a.meta m.meta b.meta c.args.disk m.meta.epoch staged.meta alone done.taken.meta;
      refuses = record {
        no_disk = λ past. not_below c.args.disk a.meta.setup.geometry.disks below past;
        out = λ d low is. none_known (named_out a.meta.out) d none is;
        refused = tt;
        lost = λ e is none. let z : None ≡ Some (OutFault e) = is in cc;
      };
      taken = λ is. (below, none, done.taken.gone);
      calls = record {
        slots = c.mark_gone.ensures.slots ∙ c.commit_writes.ensures.keeps.slots;
        no_fall = no_fall_then (g.R.Rack.slot (store_rack a.store)) (g.R.Rack.slot (store_rack m.store)) (g.R.Rack.slot (store_rack b.store)) c.commit_writes.ensures.keeps.spared.no_fall c.mark_gone.ensures.spared.no_fall;
        grows = extends_cores g.R.Rack.told a m b c.commit_writes.ensures.told c.mark_gone.ensures.told;
      };
      table = c.mark_gone.ensures.table ∙ c.commit_writes.ensures.table;
      commits = few_then a m b 1 1 staged.epoch (few_one m b done.taken.epoch);
      alone = λ empty.
          let e = done.taken.epoch in
          let f = ap (λ (z : _). z.meta.epoch) (c.commit_writes.ensures.idle empty) in
          omega (arith, e, f);
      turn =
          taken_turn g.R.Rack.slot_count g.R.Rack.told a c.args.disk below none m b staged.commits c.mark_gone.ensures.marks alone c.commit_writes.ensures.keeps.slots
          done.commits done.taken.epoch (c.mark_gone.ensures.slots ∙ c.commit_writes.ensures.keeps.slots) (c.mark_gone.ensures.table ∙ c.commit_writes.ensures.table) done.stays.service.copies_synced;
      halts = tt;
      two = tt;
    }
