-- At which moment a disk is marked.
use Rattle.std.specs.Prelude.{◌≡◌, ℕ, ◌≤◌, List, Option, Some}
use Rattle.std.proofs.Common.{sym, ◌∙◌, ap, arith, length-append}
use Rattle.paraid_rack.specs.declared.call.Call.{Call}
use Rattle.paraid_rack.specs.declared.call.Power.{Power}
use Rattle.paraid_rack.specs.Disks.{Disks}
use Rattle.paraid_rack.specs.Slots.{Agrees, Slot}
use Rattle.paraid_rack.specs.Told.{Ran}
use Rattle.paraid_rack.specs.Trail.{Trail, disks, moments, now}
use Rattle.paraid_record.specs.declared.meta.Meta.{Meta}
use Rattle.paraid_recover.specs.EndOfMount.{IsMarkAtMoment}
use Rattle.paraid_recover.specs.RecoveryMark.{to_mark}
use Rattle.paraid_recover.proofs.RecoverLemmas.{disks_before, disks_last}

-- by the slots where a rack tells its calls
pub mark_by_slots : (s : Disks) (slot : ℕ → Slot) (m : Meta) → Agrees s slot → to_mark (λ d. (slot d).power) m ≡ to_mark s.power m
mark_by_slots s slot m agrees =
    let power : (λ d. (slot d).power) ≡ s.power = (λ t. λ d. (sym (agrees.power d)) t) in
    ap (λ (p : ℕ → Power). to_mark p m) power

longer : {Q : Disks → List Call → Type 0} (mid new : Option Trail) (ran : Ran mid new Q) (t : Trail) (tells : new ≡ Some t) → moments (ran t tells).from ≤ moments t
longer mid new ran t tells =
    let r = ran t tells in
    let long = ap moments r.is ∙ length-append r.from.calls r.calls in
    omega arith

-- by the powers before some calls
pub mark_before : {Q : Disks → List Call → Type 0} (m : Meta) (mark : Option ℕ) (mid new : Option Trail) → ((u : Trail) → mid ≡ Some u → mark ≡ to_mark (now u).power m) → Ran mid new Q
    → IsMarkAtMoment m mark mid new
mark_before m mark mid new is ran t tells =
    let r = ran t tells in (
      r.from,
      r.was,
      moments r.from,
      omega arith,
      longer mid new ran t tells,
      is r.from r.was
          ∙ ap (λ (u : Disks). to_mark u.power m) (sym (ap (λ (v : Trail). disks v (moments r.from)) r.is ∙ disks_before r.from r.calls (moments r.from) (omega arith) ∙ disks_last r.from)),
    )

-- at a moment before some calls
pub mark_sooner : {Q : Disks → List Call → Type 0} (m : Meta) (mark : Option ℕ) (old mid new : Option Trail) → IsMarkAtMoment m mark old mid → Ran mid new Q → IsMarkAtMoment m mark old new
mark_sooner m mark old mid new at ran t tells =
    let r = ran t tells in
    let it = at r.from r.was in
    let high = longer mid new ran t tells in
    let low = it.4 in (
      it.0,
      it.1,
      it.2,
      it.3,
      omega arith,
      it.5 ∙ ap (λ (u : Disks). to_mark u.power m) (sym (ap (λ (v : Trail). disks v it.2) r.is ∙ disks_before r.from r.calls it.2 it.4)),
    )

-- and at one after some
pub mark_later : {Q : Disks → List Call → Type 0} (m : Meta) (mark : Option ℕ) (old mid new : Option Trail) → Ran old mid Q → IsMarkAtMoment m mark mid new → IsMarkAtMoment m mark old new
mark_later m mark old mid new ran at t tells =
    let it = at t tells in
    let r = ran it.0 it.1 in
    let high = longer old mid ran it.0 it.1 in
    let low = it.3 in (r.from, r.was, it.2, omega arith, it.4, it.5)
