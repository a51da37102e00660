use Rattle.std.specs.Prelude.{◌≡◌, ℕ, Option, Some, None}
use Rattle.std.proofs.Common.{arith, sym, ap, ◌∙◌}
use Rattle.paraid_image.specs.Out.{first_absent, named_out, or_else}
use Rattle.paraid_base.specs.declared.state.Out.{Out}
use Rattle.paraid_rack.specs.declared.call.Power.{Power}
use Rattle.paraid_recover.specs.RecoveryMark.{to_mark_by}
use Rattle.paraid_txn.proofs.MeansLemmas.{absent_power}
use Rattle.paraid_image.proofs.OutLemmas.{first_absent_is, named_below}
use Rattle.paraid_recover.proofs.MapLemmas.{none_is_not, some_is}
use Rattle.paraid_recover.proofs.SyncedLemmas.{fresh_gone, fresh_there}
use Rattle.paraid_recover.proofs.recovery.unmarked.Given.{Over}
use Rattle.paraid_recover.proofs.recovery.unmarked.Goals as goal
use Rattle.paraid_recover.proofs.recovery.unmarked.Goals.{After-out}

found : (g : Over) (c : After-out g) (d : ℕ) → c.out.result ≡ Some d → first_absent (λ e. (g.R.Rack.slot c.args.store.now.rack e).power) c.args.store.now.disks ≡ Some d
found g c d is =
    let none : c.args.store.now.named ≡ None = c.requires.named ∙ ap named_out c.in-No.is in
    sym (ap (λ (o : Option ℕ). or_else o (first_absent (λ e. (g.R.Rack.slot c.args.store.now.rack e).power) c.args.store.now.disks)) none) ∙ sym c.out.ensures ∙ is

pub returns-in-No : goal.returns-in-No
returns-in-No g c = record {
  value =
      let power : ℕ → Power = λ e. (g.R.Rack.slot c.args.store.now.rack e).power in
      let none : c.args.store.now.named ≡ None = c.requires.named ∙ ap named_out c.in-No.is in
      c.out.ensures ∙ ap (λ (o : Option ℕ). or_else o (first_absent power c.args.store.now.disks)) none
      ∙ ap (first_absent power) c.requires.disks ∙ sym (ap (λ (o : Out). to_mark_by o power c.args.meta.now.setup.geometry.disks) c.in-No.is);
  only = λ d e is name. let z : None ≡ Some e = sym (ap named_out c.in-No.is) ∙ name in cc;
  absent = λ d is.
      let at = goal.at.returns-in-No g c in
      absent_power _ (first_absent_is _ c.args.store.now.disks d (found g at.After-out d is)).1;
  low = λ d is.
      let at = goal.at.returns-in-No g c in
      (first_absent_is _ c.args.store.now.disks d (found g at.After-out d is)).0;
}

pub returns-in-Gone : goal.returns-in-Gone
returns-in-Gone g c = record {
  value = sym (ap (λ (o : Out). to_mark_by o (λ e. (g.R.Rack.slot c.args.store.now.rack e).power) c.args.meta.now.setup.geometry.disks) c.in-Gone.is);
  only = λ d e is. absurd (none_is_not is);
  absent = λ d is. absurd (none_is_not is);
  low = λ d is. absurd (none_is_not is);
}

pub returns-in-Absent : goal.returns-in-Absent
returns-in-Absent g c =
    let m = c.args.meta.now in
    let gone = sym c.power.ensures ∙ c.in-Absent.is in
    record {
      value = fresh_gone (λ e. (g.R.Rack.slot c.args.store.now.rack e).power) m c.in-Fresh.disk c.in-Fresh.rebuilt c.in-Fresh.is gone;
      only = λ d e is name. sym (some_is (sym (ap named_out c.in-Fresh.is) ∙ name)) ∙ some_is is;
      absent = λ d is. ap (λ (k : ℕ). (g.R.Rack.slot c.args.store.now.rack k).power) (sym (some_is is)) ∙ gone;
      low = λ d is.
          let low = named_below m.setup.geometry m.gear m.out c.in-Fresh.disk c.requires.in_range.out (ap named_out c.in-Fresh.is) in
          let same = some_is is in
          let disks = c.requires.disks in
          omega arith;
    }

pub returns-in_default : goal.returns-in_default
returns-in_default g c = record {
  value = fresh_there (λ e. (g.R.Rack.slot c.args.store.now.rack e).power) c.args.meta.now c.in-Fresh.disk c.in-Fresh.rebuilt c.in-Fresh.is (λ gone. c.in_default.not-Absent (c.power.ensures ∙ gone));
  only = λ d e is. absurd (none_is_not is);
  absent = λ d is. absurd (none_is_not is);
  low = λ d is. absurd (none_is_not is);
}
