-- From the clauses of a core to what is told of its calls, from where the disks show its meta.
use Rattle.std.proofs.Common.{[], ◌≡◌, ℕ, ◌<◌, ◌⊎◌, Bool, true, false, List, Option, Some, None, refl, sym, ap, ◌∙◌, inl, inr, subst, if◌then◌else◌}
use Rattle.paraid_base.specs.declared.state.Out.{Out}
use Rattle.paraid_base.specs.declared.state.Out.TheVariants.{No, Gone, Fresh}
use Rattle.paraid_base.specs.History.{History}
use Rattle.paraid_base.specs.States.{gone_out, named_out}
use Rattle.paraid_rack.specs.declared.call.Call.{Call}
use Rattle.paraid_rack.specs.declared.call.Power.{Power}
use Rattle.paraid_rack.specs.Disks.{Disks, is_present}
use Rattle.paraid_rack.specs.Slots.{Agrees, Slot}
use Rattle.paraid_rack.specs.Told.{CrashTriple, Ran, Through}
use Rattle.paraid_rack.specs.Trail.{Trail, now, run}
use Rattle.paraid_rack.proofs.TrailsLemmas.{now-extend}
use Rattle.paraid_record.specs.declared.meta.Meta.{Meta}
use Rattle.paraid_record.specs.declared.meta.Setup.{Setup}
use Rattle.paraid_image.specs.Out.{first_absent}
use Rattle.paraid_image.specs.Power.{out_after, power_by_gear}
use Rattle.paraid_image.specs.Sides.{Batch}
use Rattle.paraid_image.specs.Mark.{meta_with_lost}
use Rattle.paraid_core.specs.Calls.{IsDataCall, IsTransferCall}
use Rattle.paraid_core.specs.CoreInvariant.{HoldsBetweenCalls, IsHeldWithOneMissing}
use Rattle.paraid_core.specs.Lost.{MarksLost}
use Rattle.paraid_core.proofs.CommitLemmas.{both_of}
use Rattle.paraid_txn.specs.Commit.{IsOldOrNew}
use Rattle.paraid_txn.specs.Uses.{EachCall}
use Rattle.paraid_event.proofs.ApartLemmas.{gone_not_fresh, no_one, none_not_fresh}
use Rattle.paraid_event.specs.Marks.{ArePoweredByGear, IsMarkedBy, ShowsMeta}
use Rattle.paraid_event.specs.Parts.{committed_meta}
use Rattle.paraid_event.specs.Parts.BringsMeta.{commit, nothing}
use Rattle.paraid_event.specs.Powering.{ServiceRests, ArePowerCalls}
use Rattle.paraid_event.specs.Service.{Service}
use Rattle.paraid_event.specs.Stands.{ServiceStandsFor}
use Rattle.paraid_event.specs.Steps.{LosesPowered, LosesShown, PowersFrom, ServesMarked, ServesShown}
use Rattle.paraid_event.proofs.MarksLemmas.{marked_setup, still_named}
use Rattle.paraid_event.proofs.ShownLemmas.{shown_rests}

-- a disk that is being rebuilt by what the disks show is there
fresh_shown : (power : ℕ → Power) (lost : Option ℕ) (o : Out) (d u : ℕ) → out_after o power lost ≡ Fresh d u → is_present (power d) ≡ true
fresh_shown power None No d u is = absurd (none_not_fresh is)
fresh_shown power (Some e) No d u is = absurd (gone_not_fresh is)
fresh_shown power lost (Gone e) d u is = absurd (gone_not_fresh is)
fresh_shown power lost (Fresh e v) d u is = by (is_present (power e)) refl is
  where
    by : (t : Bool) → is_present (power e) ≡ t → (if t then Fresh e v else Gone e) ≡ Fresh d u → is_present (power d) ≡ true
    by true there same = let z : Fresh e v ≡ Fresh d u = same in subst (λ (x : ℕ). is_present (power x) ≡ true) (let equal : e ≡ d = cc in equal) there
    by false gone same = absurd (gone_not_fresh same)

module _ (told told_then : Option Trail) (k k_then : Service) (h : History) (lo lo_then : ℕ) (out : Option ℕ) (is_out : (d : ℕ) → out ≡ Some d → (k.named ≡ Some d) ⊎ (named_out k.meta.out ≡ Some d)) (slot slot_then : ℕ → Slot)
    (agrees : (t : Trail) → told ≡ Some t → Agrees (now t) slot) (agrees_then : (t : Trail) → told_then ≡ Some t → Agrees (now t) slot_then) (marks : MarksLost slot slot_then k.meta k_then.meta)
    (named : (d : ℕ) → d < k.meta.setup.geometry.disks → is_present (slot_then d).power ≡ false → named_out k_then.meta.out ≡ Some d) where
  abbrev n : ℕ
  n = k.meta.setup.geometry.disks

  abbrev P : Disks → Type 0
  P = IsHeldWithOneMissing k.slots n out h lo

  -- a disk that is being rebuilt is there
  abbrev IsFreshThere : Disks → Type 0
  IsFreshThere s = (d u : ℕ) → k.meta.out ≡ Fresh d u → is_present (s.power d) ≡ true

  by_shown : (s : Disks) (base : Meta) → ShowsMeta s.power base k.meta → IsFreshThere s
  by_shown s base shows d u is = fresh_shown s.power (first_absent s.power base.setup.geometry.disks) base.out d u (shows.out ∙ is)

  out_by : (o : Option ℕ) → marks.lost ≡ o → k_then.meta.out ≡ (meta_with_lost o k.meta).out
  out_by o is = ap (λ (z : Meta). z.out) marks.is ∙ ap (λ (l : Option ℕ). (meta_with_lost l k.meta).out) is

  fresh_now : (t from : Trail) → told_then ≡ Some t → told ≡ Some from → IsFreshThere (now from) → (d u : ℕ) → k_then.meta.out ≡ Fresh d u → is_present ((now t).power d) ≡ true
  fresh_now t from tells was fresh d u is = by marks.lost refl
    where
      by : (o : Option ℕ) → marks.lost ≡ o → is_present ((now t).power d) ≡ true
      by None none =
          let there = fresh d u (sym (out_by None none) ∙ is) in
          let same_power = (marks.others d (λ e. absurd (no_one (sym none ∙ e)))).power in
          ap is_present ((agrees_then t tells).power d ∙ same_power ∙ sym ((agrees from was).power d)) ∙ there
      by (Some x) some = absurd (gone_not_fresh (sym (out_by (Some x) some) ∙ is))

  -- The meta is marked by the disks that are told.
  marked_end : (t from : Trail) (cs : List Call) → told_then ≡ Some t → told ≡ Some from → now t ≡ run (now from) cs → IsFreshThere (now from) → IsMarkedBy (run (now from) cs).power k.meta k_then.meta
  marked_end t from cs tells was is fresh = subst (λ (s : Disks). IsMarkedBy s.power k.meta k_then.meta) is (record {
    lost = marks.lost;
    is = marks.is;
    disk = marks.disk;
    alone = marks.alone;
    absent = λ d lost. ap is_present ((agrees_then t tells).power d ∙ (marks.failed d lost).absent);
    named = λ d low gone. named d low (ap is_present (sym ((agrees_then t tells).power d)) ∙ gone);
    fresh = fresh_now t from tells was fresh;
  })

  -- from what the core stands for where its meta is shown, between two commits
  pub between_shown : (A : Disks → Type 0) → ((s : Disks) (z : ServiceStandsFor k h lo s) → ShowsMeta s.power z.base k.meta → A s) → Ran told told_then (EachCall (IsDataCall n (gone_out k.meta.out))) → Ran told told_then (CrashTriple P A (ServiceStandsFor k_then h lo_then))
      → Ran told told_then (ServesShown k k_then h lo lo_then)
  between_shown A starts calls stands t tells =
      let r = both_of (EachCall (IsDataCall n (gone_out k.meta.out))) (CrashTriple P A (ServiceStandsFor k_then h lo_then)) told told_then calls stands t tells in
      record {
        from = r.from;
        was = r.was;
        calls = r.calls;
        is = r.is;
        holds = λ z shows. let both = r.holds.1.goes (starts (now r.from) z shows) in (
          record { out = out; is_out = is_out; held = both.0; brings = nothing r.holds.0 },
          record { keeps = both.1; marks = marked_end t r.from r.calls tells r.was (ap now r.is ∙ now-extend r.from r.calls) (by_shown (now r.from) z.base shows) },
        );
      }

  -- and in a commit
  pub commit_shown : Ran told told_then (EachCall (IsTransferCall n (gone_out k.meta.out))) → Ran told told_then (CrashTriple P (ServiceStandsFor k h lo) (ServiceStandsFor k_then h lo_then))
      → Ran told told_then (λ s cs. (z : ServiceStandsFor k h lo s) → Through (IsOldOrNew s z.base (committed_meta k) k.batch) s cs) → Ran told told_then (ServesShown k k_then h lo lo_then)
  commit_shown calls stands whole t tells =
      let first = both_of (EachCall (IsTransferCall n (gone_out k.meta.out))) (CrashTriple P (ServiceStandsFor k h lo) (ServiceStandsFor k_then h lo_then)) told told_then calls stands in
      let r = both_of _ (λ s cs. (z : ServiceStandsFor k h lo s) → Through (IsOldOrNew s z.base (committed_meta k) k.batch) s cs) told told_then first whole t tells in
      record {
        from = r.from;
        was = r.was;
        calls = r.calls;
        is = r.is;
        holds = λ z shows. let both = r.holds.0.1.goes z in (
          record { out = out; is_out = is_out; held = both.0; brings = commit r.holds.0.0 (r.holds.1 z) },
          record { keeps = both.1; marks = marked_end t r.from r.calls tells r.was (ap now r.is ∙ now-extend r.from r.calls) (by_shown (now r.from) z.base shows) },
        );
      }

  pub commit_marked : Ran told told_then (EachCall (IsTransferCall n (gone_out k.meta.out))) → Ran told told_then (CrashTriple P (ServiceStandsFor k h lo) (ServiceStandsFor k_then h lo_then))
      → Ran told told_then (λ s cs. (z : ServiceStandsFor k h lo s) → Through (IsOldOrNew s z.base (committed_meta k) k.batch) s cs) → Ran told told_then (ServesMarked k k_then h lo lo_then)
  commit_marked calls stands whole t tells =
      let first = both_of (EachCall (IsTransferCall n (gone_out k.meta.out))) (CrashTriple P (ServiceStandsFor k h lo) (ServiceStandsFor k_then h lo_then)) told told_then calls stands in
      let r = both_of _ (λ s cs. (z : ServiceStandsFor k h lo s) → Through (IsOldOrNew s z.base (committed_meta k) k.batch) s cs) told told_then first whole t tells in
      record {
        from = r.from;
        was = r.was;
        calls = r.calls;
        is = r.is;
        holds = λ z fresh. let both = r.holds.0.1.goes z in (
          record { out = out; is_out = is_out; held = both.0; brings = commit r.holds.0.0 (r.holds.1 z) },
          record { keeps = both.1; marks = marked_end t r.from r.calls tells r.was (ap now r.is ∙ now-extend r.from r.calls) fresh },
        );
      }

  -- Disks are powered: each as the meta after it says, or as it was where that is the same.
  module _ (powers : Meta) (not_fresh : (d u : ℕ) → k.meta.out ≡ Fresh d u → ⊥)
      (turned : (d : ℕ) → d < n → (named_out k_then.meta.out ≡ Some d → ⊥) → ((slot_then d).power ≡ power_by_gear k_then.meta.gear k_then.meta.phase d)
      ⊎ (((slot_then d).power ≡ (slot d).power) × (power_by_gear powers.gear powers.phase d ≡ power_by_gear k_then.meta.gear k_then.meta.phase d))) where
    never : (s : Disks) → IsFreshThere s
    never s d u is = absurd (not_fresh d u is)

    still_not_fresh : (d u : ℕ) → k_then.meta.out ≡ Fresh d u → ⊥
    still_not_fresh d u is = by marks.lost refl
      where
        by : (o : Option ℕ) → marks.lost ≡ o → ⊥
        by None none = not_fresh d u (sym (out_by None none) ∙ is)
        by (Some x) some = absurd (gone_not_fresh (sym (out_by (Some x) some) ∙ is))

    powered_end : (t from : Trail) (cs : List Call) → told_then ≡ Some t → told ≡ Some from → now t ≡ run (now from) cs → ((d : ℕ) → d < n → (named_out k.meta.out ≡ Some d → ⊥) → (now from).power d ≡ power_by_gear powers.gear powers.phase d)
        → ArePoweredByGear (run (now from) cs).power k_then.meta
    powered_end t from cs tells was is before = subst (λ (s : Disks). ArePoweredByGear s.power k_then.meta) is (record {
      by_gear = λ d low not. (agrees_then t tells).power d ∙ by d (below d low) not (turned d (below d low) not);
      fresh = λ d u fresh. absurd (still_not_fresh d u fresh);
    })
      where
        marks_end : IsMarkedBy (run (now from) cs).power k.meta k_then.meta
        marks_end = marked_end t from cs tells was is (never (now from))

        below : (d : ℕ) → d < k_then.meta.setup.geometry.disks → d < n
        below d low = subst (λ (z : Setup). d < z.geometry.disks) (marked_setup (run (now from) cs).power k.meta k_then.meta marks_end) low

        by : (d : ℕ) → d < n → (named_out k_then.meta.out ≡ Some d → ⊥) → ((slot_then d).power ≡ power_by_gear k_then.meta.gear k_then.meta.phase d) ⊎ (((slot_then d).power ≡ (slot d).power) × (power_by_gear powers.gear powers.phase d ≡ power_by_gear k_then.meta.gear k_then.meta.phase d))
            → (slot_then d).power ≡ power_by_gear k_then.meta.gear k_then.meta.phase d
        by d low not (inl turned_now) = turned_now
        by d low not (inr same) = same.0 ∙ sym ((agrees from was).power d) ∙ before d low (λ named. not (still_named (run (now from) cs).power k.meta k_then.meta marks_end d named)) ∙ same.1

    pub powers_shown : k.batch ≡ [] → k_then.batch ≡ [] → Ran told told_then (ArePowerCalls k.meta) → Ran told told_then (CrashTriple P (ServiceRests k h lo) (ServiceRests k_then h lo)) → Ran told told_then (PowersFrom powers k k_then h lo)
    powers_shown empty empty_then calls stays t tells =
        let r = both_of (ArePowerCalls k.meta) (CrashTriple P (ServiceRests k h lo) (ServiceRests k_then h lo)) told told_then calls stays t tells in
        let end : now t ≡ run (now r.from) r.calls = ap now r.is ∙ now-extend r.from r.calls in
        record {
          from = r.from;
          was = r.was;
          calls = r.calls;
          is = r.is;
          holds = λ z shows before. let both = r.holds.1.goes (shown_rests k h lo (now r.from) z shows empty) in (
            record { out = out; is_out = is_out; held = both.0; calls = r.holds.0.0; serving = r.holds.0.1 },
            record {
              keeps = subst (λ (x : Batch). HoldsBetweenCalls k_then.slots k_then.named k_then.meta k_then.table x k_then.copied h lo (run (now r.from) r.calls)) (sym empty_then) both.1.keeps;
              marks = marked_end t r.from r.calls tells r.was end (never (now r.from));
              powered = powered_end t r.from r.calls tells r.was end before;
            },
          );
        }

-- where a second disk is lost
module _ (told told_then : Option Trail) (k : Service) (h : History) (lo : ℕ) (out : Option ℕ) (is_out : (d : ℕ) → out ≡ Some d → (k.named ≡ Some d) ⊎ (named_out k.meta.out ≡ Some d)) (Q : Disks → List Call → Type 0) where
  abbrev H : Disks → Type 0
  H = IsHeldWithOneMissing k.slots k.meta.setup.geometry.disks out h lo

  pub between_lost : (A : Disks → Type 0) → ((s : Disks) (z : ServiceStandsFor k h lo s) → ShowsMeta s.power z.base k.meta → A s) → Ran told told_then (EachCall (IsDataCall k.meta.setup.geometry.disks (gone_out k.meta.out))) → Ran told told_then (CrashTriple H A H) → Ran told told_then Q
      → Ran told told_then (λ s cs. LosesShown k h lo s cs × Q s cs)
  between_lost A starts calls stands more t tells =
      let one = both_of (EachCall (IsDataCall k.meta.setup.geometry.disks (gone_out k.meta.out))) (CrashTriple H A H) told told_then calls stands in
      let r = both_of _ Q told told_then one more t tells in
      record {
        from = r.from;
        was = r.was;
        calls = r.calls;
        is = r.is;
        holds = ((λ z shows. record { out = out; is_out = is_out; held = (r.holds.0.1.goes (starts (now r.from) z shows)).0; brings = nothing r.holds.0.0 }), r.holds.1);
      }

  pub powers_lost_shown : k.batch ≡ [] → Ran told told_then (ArePowerCalls k.meta) → Ran told told_then (CrashTriple H (ServiceRests k h lo) H) → Ran told told_then Q
      → Ran told told_then (λ s cs. LosesPowered k h lo s cs × Q s cs)
  powers_lost_shown empty calls stays more t tells =
      let one = both_of (ArePowerCalls k.meta) (CrashTriple H (ServiceRests k h lo) H) told told_then calls stays in
      let r = both_of _ Q told told_then one more t tells in
      record {
        from = r.from;
        was = r.was;
        calls = r.calls;
        is = r.is;
        holds = ((λ z shows. record { out = out; is_out = is_out; held = (r.holds.0.1.goes (shown_rests k h lo (now r.from) z shows empty)).0; calls = r.holds.0.0.0; serving = r.holds.0.0.1 }), r.holds.1);
      }
