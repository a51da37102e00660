use Rattle.std.specs.Prelude.{ℕ, Err, IfErr, ◌+◌, ◌*◌}
use Rattle.std.proofs.Common.{arith, ap, refl, subst, sym, ◌∙◌}
use Rattle.std.proofs.lemmas.Bool.{true≢false}
use Rattle.paraid_rack.specs.Disks.{is_parked}
use Rattle.std.proofs.lemmas.Result.{IfErr-weaker, IfOk-weaker}
use Rattle.paraid_rack.proofs.TrailsLemmas.{Ran-none}
use Rattle.paraid_image.specs.Sides.{log_state}
use Rattle.paraid_txn.specs.Uses.{EachCall}
use Rattle.paraid_recover.specs.HeardSides.{ReadsLogs}
use Rattle.paraid_recover.proofs.RaisedLemmas.{on_ok_any}
use Rattle.paraid_recover.proofs.SyncedLemmas.{nothing_failed, nothing_lost}
use Rattle.paraid_recover.proofs.UnchangedLemmas.{unchanged_none}
use Rattle.paraid_recover.proofs.BothLemmas.{both_read, one_of_two}
use Rattle.paraid_recover.proofs.FailedLemmas.{most_none}
use Rattle.paraid_recover.specs.declared.mount_fault.MountFault.TheVariants.{Worn}
use Rattle.paraid_recover.specs.Examined.{AreHeard, IsRefused, IsRefusedAsHeard, IsServedAsHeard, Logs, logs_of}
use Rattle.paraid_recover.specs.Examined.IsRefused.{as_heard, by_loss, by_slots}
use Rattle.paraid_recover.proofs.ExaminedLogLemmas.{heard_stands, if_err_is, worn_stands}
use Rattle.paraid_recover.proofs.ServedLemmas.{can_resume}
use Rattle.paraid_recover.proofs.examining.examine.Given.{Over}
use Rattle.paraid_recover.proofs.examining.examine.Goals as goal
use Rattle.paraid_recover.proofs.examining.examine.Goals.{After-judge}
use Rattle.paraid_base.specs.Log.{batch_room}

pub returns-in-Err : goal.returns-in-Err
returns-in-Err g c = record {
  slots = c.hear_both.ensures.leaves.slots;
  powers = c.hear_both.ensures.leaves.powers;
  each = c.hear_both.ensures.leaves.each;
  calls = c.hear_both.ensures.leaves.reads;
  few = c.hear_both.ensures.leaves.few;
  quiet = c.in-Err.ensures.refused;
  one = tt;
  refused = by_loss c.in_default.ensures c.in-Err.two c.in-Err.ensures.both refl;
  ok = tt;
  stands = tt;
  resumes = tt;
  worn = λ count is. cc;
}

-- what was heard
abbrev logs : (g : Over) (c : After-judge g) → Logs
logs g c = logs_of c.in-Ok.sides c.hear_both.new.first_batch c.hear_both.new.second_batch

are : (g : Over) (c : After-judge g) → AreHeard (g.R.Rack.told c.hear_both.new.rack) (g.R.Rack.slot c.hear_both.new.rack) (logs g c)
are g c = record {
  first = c.in-Ok.ensures.first.told;
  second = c.in-Ok.ensures.second.told;
  first_power = c.in-Ok.ensures.first.power;
  second_power = c.in-Ok.ensures.second.power;
  first_form = c.in-Ok.ensures.first.form;
  second_form = c.in-Ok.ensures.second.form;
}

refused : (g : Over) (c : After-judge g) → IfErr c.judge.result
    (IsRefused (g.R.Rack.slot_count c.args.rack.now) (g.R.Rack.slot c.args.rack.now) (g.R.Rack.slot c.hear_both.new.rack) (g.R.Rack.told c.hear_both.new.rack))
refused g c =
    IfErr-weaker c.judge.result _ _ (λ fault is.
    as_heard c.in_default.ensures c.in-Ok.ensures.one (logs g c) (are g c)
    (subst (λ (n : ℕ). IsRefusedAsHeard n (g.R.Rack.slot c.hear_both.new.rack) (logs g c) fault) c.in-Ok.ensures.leaves.slots is)) c.judge.ensures.err

pub returns : goal.returns
returns g c = record {
  slots = c.hear_both.ensures.leaves.slots;
  powers = c.hear_both.ensures.leaves.powers;
  each = c.hear_both.ensures.leaves.each;
  calls = c.hear_both.ensures.leaves.reads;
  few = c.hear_both.ensures.leaves.few;
  quiet = one_of_two c.in-Ok.ensures.moments;
  one = on_ok_any c.judge.result c.in-Ok.ensures.moments;
  refused = refused g c;
  ok =
      IfOk-weaker c.judge.result _ _ (λ it is. record {
        readable = c.in_default.ensures;
        lost = c.in-Ok.ensures.one;
        logs = logs g c;
        heard = are g c;
        served = subst (λ (n : ℕ). IsServedAsHeard n (g.R.Rack.slot c.hear_both.new.rack) (logs g c) it.side (log_state it.gate_open it.meta c.judge.new.batch)) c.in-Ok.ensures.leaves.slots is;
      }) c.judge.ensures.ok;
  stands =
      IfOk-weaker c.judge.result _ _ (λ it is. heard_stands _ _ (logs g c) it.side _ (are g c) is.agreed.standing) c.judge.ensures.ok;
  resumes =
      IfOk-weaker c.judge.result _ _ (λ it is. can_resume _ _ _ (logs g c) it.side _ (are g c) is) c.judge.ensures.ok;
  worn = λ count is t tells x said stands.
      worn_stands _ _ _ _ count (if_err_is _ c.judge.result (Worn count) is (refused g c)) t tells x said stands;
}

pub returns-in-Some : goal.returns-in-Some
returns-in-Some g c = record {
  slots = refl;
  powers = nothing_lost _;
  each = nothing_failed _;
  calls = Ran-none (EachCall ReadsLogs) (λ s. tt) (g.R.Rack.told c.args.rack.now);
  few = most_none (2 * (batch_room + 3)) _;
  quiet = one_of_two (both_read (unchanged_none (g.R.Rack.told c.args.rack.now)) (unchanged_none (g.R.Rack.told c.args.rack.now)));
  one = tt;
  refused = by_slots c.in-Some.ensures (λ d. refl);
  ok = tt;
  stands = tt;
  resumes = tt;
  worn = λ count is.
      worn_stands _ _ _ _ count
      (if_err_is (IsRefused (g.R.Rack.slot_count c.args.rack.now) (g.R.Rack.slot c.args.rack.now) (g.R.Rack.slot c.args.rack.now) (g.R.Rack.told c.args.rack.now)) (Err c.in-Some.fault) (Worn count) is (by_slots c.in-Some.ensures (λ d. refl)));
}

pub hear_both-requires : goal.hear_both-requires
hear_both-requires g c =
    let readable = c.in_default.ensures in
    record {
      exists = readable.1;
      first = λ parked. true≢false (sym (ap is_parked parked) ∙ readable.0 0 (omega arith));
      second = λ parked. true≢false (sym (ap is_parked parked) ∙ readable.0 1 (omega arith));
      first_empty = c.clear.ensures;
      second_empty = c.clear-2.ensures;
    }

pub judge-requires : goal.judge-requires
judge-requires g c = record { first_form = c.in-Ok.ensures.first.form; second_form = c.in-Ok.ensures.second.form }
