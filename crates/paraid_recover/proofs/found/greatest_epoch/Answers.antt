use Rattle.std.specs.Prelude.{true, false}
use Rattle.std.proofs.Common.{arith, refl, sym, ◌∙◌, subst}
use Rattle.paraid_rack.specs.Disks.{Disks}
use Rattle.paraid_rack.specs.Trail.{now}
use Rattle.paraid_recover.specs.Found.{IsEpochOf}
use Rattle.paraid_recover.proofs.FailedLemmas.{failed_after}
use Rattle.paraid_recover.proofs.FoundLemmas.{greatest}
use Rattle.paraid_recover.proofs.HeadLemmas.{head_both, head_first}
use Rattle.paraid_recover.proofs.LogReadsLemmas.{quiet_of}
use Rattle.paraid_recover.proofs.ReadsLemmas.{quiet_then}
use Rattle.paraid_recover.proofs.UnchangedLemmas.{unchanged_now}
use Rattle.paraid_recover.proofs.found.greatest_epoch.Goals as goal

pub returns-in_default : goal.returns-in_default
returns-in_default g c =
    let first = c.in_default.ensures.reads in
    record {
      slots = first.slots;
      same = tt;
      others = λ d high. first.others d (λ is. absurd (omega arith));
      reads = head_first c.epoch_of.ensures.head;
      quiet = tt;
      heard = tt;
      log_disk = omega arith;
      alone = first.others;
      risen = (first.failed (refl {a = false})).risen;
    }

pub returns-in_default-epoch_of : goal.returns-in_default-epoch_of
returns-in_default-epoch_of g c =
    let first = c.in-Ok.ensures.reads in
    let second = c.in_default-epoch_of.ensures.reads in
    record {
      slots = second.slots ∙ first.slots;
      same = tt;
      others = λ d high. second.others d (λ is. absurd (omega arith)) ∙ first.others d (λ is. absurd (omega arith));
      reads = head_both c.epoch_of.ensures.head c.epoch_of-2.ensures.head;
      quiet = tt;
      heard = tt;
      log_disk = omega arith;
      alone = λ d apart. second.others d apart ∙ first.same (refl {a = true}) d;
      risen = (failed_after (first.same (refl {a = true})) (second.failed (refl {a = false}))).risen;
    }

pub returns : goal.returns
returns g c =
    let first = c.in-Ok.ensures.reads in
    let second = c.in-Ok-epoch_of.ensures.reads in
    record {
      slots = second.slots ∙ first.slots;
      same = λ d. second.same (refl {a = true}) d ∙ first.same (refl {a = true}) d;
      others = λ d high. second.others d (λ is. absurd (omega arith)) ∙ first.others d (λ is. absurd (omega arith));
      reads = head_both c.epoch_of.ensures.head c.epoch_of-2.ensures.head;
      quiet = quiet_then (quiet_of 0 first.calls (first.unchanged (refl {a = true}))) (quiet_of 1 second.calls (second.unchanged (refl {a = true})));
      heard = λ t tells.
          let u = unchanged_now (second.unchanged (refl {a = true})) t tells in
          let was = subst (λ (s : Disks). IsEpochOf s 0 c.in-Ok.first) (sym u.2) (c.in-Ok.ensures.heard u.0 u.1) in
          rw c.greater.ensures (greatest (now t) c.in-Ok.first c.in-Ok-epoch_of.second was (c.in-Ok-epoch_of.ensures.heard t tells));
      log_disk = tt;
      alone = tt;
      risen = tt;
    }
