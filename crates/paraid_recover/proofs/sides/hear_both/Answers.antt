use Rattle.std.specs.Prelude.{true, false, ◌≡◌, ◌≤◌, ℕ, Option, Some, None, Ok, is_ok, ◌+◌, ◌*◌}
use Rattle.paraid_txn.specs.Uses.{UsesLog}
use Rattle.std.proofs.Common.{refl, sym, ◌∙◌, ap, subst, arith, inl, inr}
use Rattle.paraid_rack.specs.declared.call.Power.TheVariants.{Absent, Spinning}
use Rattle.paraid_rack.specs.Disks.{Disks, is_present}
use Rattle.paraid_rack.specs.Slots.{Slot}
use Rattle.paraid_rack.specs.Trail.{Trail, now}
use Rattle.paraid_recover.specs.declared.hearing.Heard.{Heard}
use Rattle.paraid_recover.specs.Steps.{HasReadLogs}
use Rattle.paraid_recover.specs.HeardSides.{IsHeardAt, IsHeardBy, IsInForm, ReadsLogs, gone_pair}
use Rattle.paraid_recover.specs.HeardSides.IsOneLost.{none, one}
use Rattle.paraid_recover.proofs.BothLemmas.{both_lost, both_read, first_lost, heard_kept, if_ok_is, losing_now, one_of_two, second_lost}
use Rattle.paraid_recover.proofs.UnchangedLemmas.{unchanged_now}
use Rattle.paraid_recover.proofs.FailedLemmas.{calls_then, each_then, failed_after, failed_at, failed_before, first_gone, heard_each, heard_spared, logs_calls, lost_beside, lost_both, most_then, second_gone, spared_then, uses_calls}
use Rattle.paraid_recover.proofs.sides.hear_both.Given.{Over}
use Rattle.paraid_recover.proofs.sides.hear_both.Goals as goal
use Rattle.paraid_recover.proofs.sides.hear_both.Goals.{After-hear_if_there-second}
use Rattle.paraid_base.specs.Log.{batch_room}

pub hear_if_there-first-requires : goal.hear_if_there-first-requires
hear_if_there-first-requires g c = record { exists = (let there = c.requires.exists in omega arith); not_parked = c.requires.first; empty = c.requires.first_empty }

pub hear_if_there-second-requires : goal.hear_if_there-second-requires
hear_if_there-second-requires g c =
    let first = c.hear_if_there-first.ensures.reads in
    record {
      exists = (let slots = first.slots in let there = c.requires.exists in omega arith);
      not_parked = λ parked. c.requires.second (ap (λ (s : Slot). s.power) (sym (first.others 1 (λ e. omega arith))) ∙ parked);
      empty = c.requires.second_empty;
    }

-- what both reads leave
record Leaves (g : Over) (c : After-hear_if_there-second g) : Type 0 where
  both : HasReadLogs g.R.Rack c.args.rack.now c.hear_if_there-second.new.rack
  -- log disk 1 is as it was until it is read, and log disk 0 then
  kept : g.R.Rack.slot c.hear_if_there-first.new.rack 1 ≡ g.R.Rack.slot c.args.rack.now 1
  after : g.R.Rack.slot c.hear_if_there-second.new.rack 0 ≡ g.R.Rack.slot c.hear_if_there-first.new.rack 0
  others : (d : ℕ) → 2 ≤ d → g.R.Rack.slot c.hear_if_there-second.new.rack d ≡ g.R.Rack.slot c.args.rack.now d

leaves : (g : Over) (c : After-hear_if_there-second g) → Leaves g c
leaves g c =
    let f = c.hear_if_there-first.ensures.reads in
    let s = c.hear_if_there-second.ensures.reads in
    let one = heard_spared _ _ 0 (is_ok c.hear_if_there-first.result) f.same f.others f.failed in
    let two = heard_spared _ _ 1 (is_ok c.hear_if_there-second.result) s.same s.others s.failed in
    record {
      both = record {
        slots = s.slots ∙ f.slots;
        powers = spared_then one two;
        each = each_then one two (heard_each _ _ 0 (is_ok c.hear_if_there-first.result) f.same f.others f.failed) (heard_each _ _ 1 (is_ok c.hear_if_there-second.result) s.same s.others s.failed);
        reads = calls_then ReadsLogs (logs_calls (omega arith) f.calls) (logs_calls (omega arith) s.calls);
        few = most_then (batch_room + 3) (batch_room + 3) (2 * (batch_room + 3)) (omega arith) f.few s.few;
        calls = calls_then (UsesLog None) (uses_calls (omega arith) f.calls) (uses_calls (omega arith) s.calls);
      };
      kept = f.others 1 (λ e. omega arith);
      after = s.others 0 (λ e. omega arith);
      others = λ d high. s.others d (λ is. omega arith) ∙ f.others d (λ is. omega arith);
    }

-- log disk 0 has failed
pub returns-in-Ok-Some : goal.returns-in-Ok-Some
returns-in-Ok-Some g c =
    let left = leaves g (goal.at.returns-in-Ok-Some g c).After-hear_if_there-second in
    let old = g.R.Rack.slot c.args.rack.now in
    let new = g.R.Rack.slot c.hear_if_there-second.new.rack in
    let first = c.in_default.ensures in
    let b = c.hear_if_there-second.new.batch in
    let ok = ap is_ok c.in-Ok-Some.is in
    let some : c.in-Ok-Some.field-0 ≡ Some c.in-Ok-Some.second = rw c.in-Ok-Some.is at c.in-Ok-Some.field-0-is in
    let power : IsHeardBy (Some c.in-Ok-Some.second) (new 1).power =
    subst (λ (h : Option Heard). IsHeardBy h (new 1).power) some (if_ok_is (λ (h : Option Heard). IsHeardBy h (new 1).power) c.hear_if_there-second.result _ c.in-Ok-Some.is c.hear_if_there-second.ensures.power) in
    record {
      leaves = left.both;
      first = record {
        told = λ t tells. ap is_present ((g.met.R.Rack.agrees _ t tells).power 0 ∙ ap (λ (s : Slot). s.power) left.after ∙ (first.reads.failed (refl {a = false})).gone);
        form = tt;
        power = ap (λ (s : Slot). s.power) left.after ∙ (first.reads.failed (refl {a = false})).gone;
      };
      second = record {
        told = λ t tells.
            subst (λ (h : Option Heard). IsHeardAt (now t) 1 h b) some
            (if_ok_is (λ (h : Option Heard). (t : Trail) → g.R.Rack.told c.hear_if_there-second.new.rack ≡ Some t → IsHeardAt (now t) 1 h b) c.hear_if_there-second.result _ c.in-Ok-Some.is c.hear_if_there-second.ensures.heard t tells);
        form =
            subst (λ (h : Option Heard). IsInForm h b) some
            (if_ok_is (λ (h : Option Heard). IsInForm h b) c.hear_if_there-second.result _ c.in-Ok-Some.is c.hear_if_there-second.ensures.form);
        power = power;
      };
      both = tt;
      two = tt;
      cause = tt;
      refused = tt;
      one = one 0 (omega arith) first.was (failed_before left.after (first.reads.failed (refl {a = false})))
          (λ d not. c.hear_if_there-second.ensures.reads.same ok d ∙ c.hear_if_there-first.ensures.reads.others d not) power;
      moments = first_lost (first.reads.lost (refl {a = false})) (c.hear_if_there-second.ensures.reads.unchanged ok);
    }

pub returns-in-Ok-None : goal.returns-in-Ok-None
returns-in-Ok-None g c =
    let left = leaves g (goal.at.returns-in-Ok-None g c).After-hear_if_there-second in
    let old = g.R.Rack.slot c.args.rack.now in
    let new = g.R.Rack.slot c.hear_if_there-second.new.rack in
    let first = c.in_default.ensures in
    let ok = ap is_ok c.in-Ok-None.is in
    let none : c.in-Ok-None.field-0 ≡ None = rw c.in-Ok-None.is at c.in-Ok-None.field-0-is in
    let silent : c.hear_if_there-second.result ≡ Ok None = c.in-Ok-None.is ∙ ap Ok none in
    let gone : (old 1).power ≡ Absent = ap (λ (s : Slot). s.power) (sym left.kept) ∙ c.hear_if_there-second.ensures.silent silent in
    let pair = c.gone_pair.ensures ∙ ap gone_pair c.power-power.ensures in
    let failed = failed_before left.after (first.reads.failed (refl {a = false})) in
    record {
      leaves = left.both;
      first = tt;
      second = tt;
      one = tt;
      moments = tt;
      both = lost_beside old new _ pair gone first.was failed (c.hear_if_there-second.ensures.reads.same ok 1 ∙ left.kept) left.others;
      two = pair;
      cause = first_gone old new _ pair gone failed.risen;
      refused = one_of_two (first_lost (first.reads.lost (refl {a = false})) (c.hear_if_there-second.ensures.reads.unchanged ok));
    }

pub returns-in-Err : goal.returns-in-Err
returns-in-Err g c =
    let left = leaves g (goal.at.returns-in-Err g c).After-hear_if_there-second in
    let old = g.R.Rack.slot c.args.rack.now in
    let new = g.R.Rack.slot c.hear_if_there-second.new.rack in
    let first = c.in_default.ensures in
    let second = c.in-Err.ensures in
    let spins : (old 1).power ≡ Spinning = ap (λ (s : Slot). s.power) (sym left.kept) ∙ second.was in
    let pair = c.gone_pair-in-Err.ensures ∙ ap gone_pair c.power-power.ensures in
    let failed_0 = failed_before left.after (first.reads.failed (refl {a = false})) in
    let failed_1 = failed_at left.kept (second.reads.failed (refl {a = false})) in
    record {
      leaves = left.both;
      first = tt;
      second = tt;
      one = tt;
      moments = tt;
      both = lost_both old new _ pair spins (inr (first.was, failed_0)) failed_1 failed_0.gone left.others;
      two = pair;
      cause = second_gone old new _ pair spins (inr failed_0.risen) failed_1.risen;
      refused = both_lost (first.reads.lost (refl {a = false})) (second.reads.lost (refl {a = false}));
    }

-- log disk 1 has failed
pub returns-in-Some : goal.returns-in-Some
returns-in-Some g c =
    let left = leaves g (goal.at.returns-in-Some g c).After-hear_if_there-second in
    let old = g.R.Rack.slot c.args.rack.now in
    let new = g.R.Rack.slot c.hear_if_there-second.new.rack in
    let first = c.in-Ok.ensures in
    let second = c.in_default-second.ensures in
    let b = c.hear_if_there-first.new.batch in
    let power : IsHeardBy (Some c.in-Some.first) (g.R.Rack.slot c.hear_if_there-first.new.rack 0).power =
    subst (λ (h : Option Heard). IsHeardBy h (g.R.Rack.slot c.hear_if_there-first.new.rack 0).power) c.in-Some.is first.power in
    record {
      leaves = left.both;
      first = record {
        told = λ t tells.
            let l = losing_now 1 (second.reads.lost (refl {a = false})) t tells in
            let was = subst (λ (h : Option Heard). IsHeardAt (now l.0) 0 h b) c.in-Some.is (first.heard l.0 l.1) in
            subst (λ (u : Disks). IsHeardAt u 0 (Some c.in-Some.first) b) (sym l.2) (heard_kept (now l.0) 1 0 (λ e. omega arith) (Some c.in-Some.first) b was);
        form = subst (λ (h : Option Heard). IsInForm h b) c.in-Some.is first.form;
        power = ap (λ (s : Slot). s.power) left.after ∙ power;
      };
      second = record {
        told = λ t tells. ap is_present ((g.met.R.Rack.agrees _ t tells).power 1 ∙ (second.reads.failed (refl {a = false})).gone);
        form = tt;
        power = (second.reads.failed (refl {a = false})).gone;
      };
      both = tt;
      two = tt;
      cause = tt;
      refused = tt;
      one = one 1 (omega arith) (ap (λ (s : Slot). s.power) (sym left.kept) ∙ second.was) (failed_after (first.reads.same (refl {a = true})) (second.reads.failed (refl {a = false})))
          (λ d not. c.hear_if_there-second.ensures.reads.others d not ∙ first.reads.same (refl {a = true}) d) (ap (λ (s : Slot). s.power) left.after ∙ power);
      moments = second_lost (first.reads.unchanged (refl {a = true})) (second.reads.lost (refl {a = false}));
    }

pub returns-in-None : goal.returns-in-None
returns-in-None g c =
    let left = leaves g (goal.at.returns-in-None g c).After-hear_if_there-second in
    let old = g.R.Rack.slot c.args.rack.now in
    let new = g.R.Rack.slot c.hear_if_there-second.new.rack in
    let first = c.in-Ok.ensures in
    let second = c.in_default-second.ensures in
    let spins : (old 1).power ≡ Spinning = ap (λ (s : Slot). s.power) (sym left.kept) ∙ second.was in
    let pair = c.gone_pair-in-None.ensures ∙ ap gone_pair c.power-power.ensures in
    let gone : (old 0).power ≡ Absent = c.hear_if_there-first.ensures.silent (c.in-Ok.is ∙ ap Ok c.in-None.is) in
    let failed = failed_at left.kept (second.reads.failed (refl {a = false})) in
    record {
      leaves = left.both;
      first = tt;
      second = tt;
      one = tt;
      moments = tt;
      both = lost_both old new _ pair spins (inl gone) failed (ap (λ (s : Slot). s.power) (left.after ∙ first.reads.same (refl {a = true}) 0) ∙ gone) left.others;
      two = pair;
      cause = second_gone old new _ pair spins (inl gone) failed.risen;
      refused = one_of_two (second_lost (first.reads.unchanged (refl {a = true})) (second.reads.lost (refl {a = false})));
    }

-- both are read
pub returns : goal.returns
returns g c =
    let left = leaves g (goal.at.returns g c).After-hear_if_there-second in
    let old = g.R.Rack.slot c.args.rack.now in
    let new = g.R.Rack.slot c.hear_if_there-second.new.rack in
    let first = c.in-Ok.ensures in
    let second = c.in-Ok-second.ensures in
    record {
      leaves = left.both;
      first = record {
        told = λ t tells.
            let u = unchanged_now (second.reads.unchanged (refl {a = true})) t tells in
            subst (λ (s : Disks). IsHeardAt s 0 c.in-Ok.first c.hear_if_there-first.new.batch) (sym u.2) (first.heard u.0 u.1);
        form = first.form;
        power = subst (λ (s : Slot). IsHeardBy c.in-Ok.first s.power) (sym left.after) first.power;
      };
      second = record {
        told = second.heard;
        form = second.form;
        power = second.power;
      };
      both = tt;
      two = tt;
      cause = tt;
      refused = tt;
      one = none (λ d. second.reads.same (refl {a = true}) d ∙ first.reads.same (refl {a = true}) d);
      moments = both_read (first.reads.unchanged (refl {a = true})) (second.reads.unchanged (refl {a = true}));
    }
