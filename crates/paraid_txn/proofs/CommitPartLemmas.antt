-- What one call leaves, and one part of a commit after another.
use Rattle.std.proofs.Common.{◌≡◌, ℕ, ◌<◌, ◌≤◌, Bool, true, false, List, [], ◌∷◌, ◌++◌, Option, Some, None, Result, Ok, Err, refl, sym, ◌∙◌, ap, subst, inl, inr, arith}
use Rattle.std.specs.Prelude.{◌≢◌, ◌⊎◌, All, Contains, IfOk, IsErrAnd, OnOk}
use Rattle.std.proofs.lemmas.Bool.{cases_Bool, cases_eq, true≢false}
use Rattle.paraid_base.specs.declared.block.Block.{Block}
use Rattle.paraid_base.specs.declared.fault.Two.{Two}
use Rattle.paraid_base.specs.Log.{log_least}
use Rattle.paraid_base.specs.Told.{HasRisen}
use Rattle.paraid_rack.specs.declared.call.Call.{Call}
use Rattle.paraid_rack.specs.declared.call.Call.TheVariants.{Read, Write, Sync, Park, SpinUp, Attach}
use Rattle.paraid_rack.specs.declared.call.Power.TheVariants.{Absent}
use Rattle.paraid_rack.specs.declared.rack.Rack.{Ghosts}
use Rattle.paraid_rack.specs.Disks.{Disks, is_present, step}
use Rattle.paraid_rack.specs.Lawful.{IsLawful}
use Rattle.paraid_rack.specs.Slots.{Slot, ChangesOneSlot}
use Rattle.paraid_rack.specs.Told.{GrowsByCall, Ran}
use Rattle.paraid_rack.specs.Trail.{Trail, now, run}
use Rattle.paraid_rack.proofs.TrailsLemmas.{Ran-call, Ran-none, Ran-then}
use Rattle.paraid_record.specs.declared.meta.Meta.{Meta}
use Rattle.paraid_record.specs.declared.targets.Target.{Target}
use Rattle.paraid_image.specs.Calls.{disk_of, is_done}
use Rattle.paraid_image.specs.Lost.{AnswersLosses, BearsLoss, TellsLosses}
use Rattle.paraid_image.specs.Neutral.{names_place}
use Rattle.paraid_image.proofs.LostLemmas.{bears_done, bears_failed, bears_none, ran_bears, ran_tells, tells_failed}
use Rattle.paraid_image.specs.Out.{named_out}
use Rattle.paraid_image.specs.Sides.{Batch, targets}
use Rattle.paraid_txn.specs.declared.losses.Losses.{Losses}
use Rattle.paraid_txn.specs.Commit.{gone_out}
use Rattle.paraid_txn.specs.CommitPart.{CommitPart}
use Rattle.paraid_txn.specs.Losses.{AreGoneSince, IsGoneSince, MayDo, StaySyncedBut, AreFailedOrWell, FollowsAnswer, AreTwoDown, IsWell, AreCommitCalls}
use Rattle.paraid_txn.specs.Losses.MayDo.{absent, skipped}
use Rattle.paraid_txn.specs.Ready.{IsLogReady}
use Rattle.paraid_image.specs.Batches.{names_disk}
use Rattle.paraid_txn.specs.Uses.{EachCall, IsUnskippedLog, IsOn, IsThisCall, Uses, UsesLog, UsesTarget}
use Rattle.paraid_txn.proofs.DownLemmas.{AreOthersWell-none, AreOthersWell-then, AreTwoDown-later, AreCommitCalls-gone, AreCommitCalls-none, AreCommitCalls-present, AreCommitCalls-then}
use Rattle.paraid_txn.proofs.ReadyLemmas.{log_stays_ready}
use Rattle.paraid_image.proofs.BatchesLemmas.{names_disk-named}
use Rattle.paraid_txn.proofs.TargetsLemmas.{names_disk-below}

-- Calls

EachCall-append : (u : Call → Type 0) (s : Disks) (cs ds : List Call) → EachCall u s cs → EachCall u (run s cs) ds → EachCall u s (cs ++ ds)
EachCall-append u s [] ds first second = second
EachCall-append u s (c ∷ cs) ds first second = (first.0, first.1, EachCall-append u (step c s) cs ds first.2 second)

pub EachCall-milder : (u v : Call → Type 0) → ((c : Call) → u c → v c) → (s : Disks) (cs : List Call) → EachCall u s cs → EachCall v s cs
EachCall-milder u v more s [] each = tt
EachCall-milder u v more s (c ∷ cs) each = (each.0, more c each.1, EachCall-milder u v more (step c s) cs each.2)

pub ran_milder : {old new : Option Trail} (P Q : Disks → List Call → Type 0) → ((s : Disks) (cs : List Call) → P s cs → Q s cs) → Ran old new P → Ran old new Q
ran_milder P Q more ran t tells =
    let r = ran t tells in
    record { from = r.from; was = r.was; calls = r.calls; is = r.is; holds = more (now r.from) r.calls r.holds }

-- One call

module _ {old new : ℕ → Slot} {disk : ℕ} {leaves : Slot} {dirt ok : Bool} (touched : ChangesOneSlot old new disk leaves dirt ok) (same : IsWell (old disk) leaves) where
  touched_well : (d : ℕ) → (d ≡ disk → ok ≡ true) → IsWell (old d) (new d)
  touched_well d done = elim (cases_eq d disk) [
    | inl is ↦ subst (λ (k : ℕ). IsWell (old k) (new k)) (sym is) (subst (λ (s : Slot). IsWell (old disk) s) (sym (touched.done (done is))) same)
    | inr not ↦ subst (λ (s : Slot). IsWell (old d) s) (sym (touched.others d not)) (record { faults = refl; power = refl; size = refl })
  ]

  touched_each : AreFailedOrWell old new
  touched_each d = elim (cases_Bool ok) [
    | inl done ↦ inr (touched_well d (λ is. done))
    | inr failed ↦ elim (cases_eq d disk) [
      | inl is ↦ inl (subst (λ (k : ℕ). HasRisen (old k).faults (new k).faults) (sym is) (touched.risen failed))
      | inr not ↦ inr (touched_well d (λ is. absurd (not is)))
    ]
  ]

  touched_there : (d : ℕ) → is_present (new d).power ≡ true → IsWell (old d) (new d)
  touched_there d there = touched_well d (λ is. elim (cases_Bool ok) [
    | inl done ↦ done
    | inr failed ↦ absurd (true≢false (sym there ∙ ap is_present (ap (λ (k : ℕ). (new k).power) is ∙ touched.absent failed)))
  ])

  touched_later : (d : ℕ) → (old d).faults ≤ (new d).faults
  touched_later d = elim (cases_Bool ok) [
    | inl done ↦ let well = (touched_well d (λ is. done)).faults in omega arith
    | inr failed ↦ elim (cases_eq d disk) [
      | inl is ↦ subst (λ (k : ℕ). (old k).faults ≤ (new k).faults) (sym is) (touched.later failed)
      | inr not ↦ let well = (touched_well d (λ is. absurd (not is))).faults in omega arith
    ]
  ]

  done_lasts : (a : Losses) → AreCommitCalls a a old new
  done_lasts a = record {
    power = λ d there. (touched_there d there).power;
    size = λ d there. (touched_there d there).size;
    no_fall = touched_later;
    each = touched_each;
    down = λ d is. inl is;
    remains = λ d is. is;
    stays = λ d is. is;
    lost = λ d is. inl is;
    absent = λ d is. inl is;
  }

  borne_lasts : (a b : Losses) → ok ≡ false → b.down ≡ Some disk → b.lost ≡ Some disk → ((first : ℕ) → a.down ≡ Some first → first ≡ disk) → AreCommitCalls a b old new
  borne_lasts a b failed down lost alone = record {
    power = λ d there. (touched_there d there).power;
    size = λ d there. (touched_there d there).size;
    no_fall = touched_later;
    each = touched_each;
    down = λ d is. inr (lost ∙ sym down ∙ is);
    remains = λ d is. down ∙ ap Some (sym (alone d is));
    stays = λ d is. lost ∙ ap Some (sym (alone d (a.agrees d is)));
    lost = λ d is.
        let same : disk ≡ d = (let e : Some disk ≡ Some d = sym lost ∙ is in cc) in
        inr (subst (λ (k : ℕ). HasRisen (old k).faults (new k).faults) same (touched.risen failed));
    absent = λ d is.
        let same : disk ≡ d = (let e : Some disk ≡ Some d = sym lost ∙ is in cc) in
        inr (ap (λ (k : ℕ). (new k).power) (sym same) ∙ touched.absent failed);
  }

module _ {R : Type 0} (g : Ghosts R) {skip : Option ℕ} {disk : ℕ} (call : Bool → Call) {old new : R} {leaves : Slot} {dirt ok : Bool} (not : skip ≢ Some disk)
    (here : is_present (g.slot old disk).power ≡ true) (at : (done : Bool) → disk_of (call done) ≡ disk) (does : (done : Bool) → is_done (call done) ≡ done)
    (lawful : (t : Trail) → g.told old ≡ Some t → IsLawful (now t) (call ok)) (same : IsWell (g.slot old disk) leaves)
    (touched : ChangesOneSlot (g.slot old) (g.slot new) disk leaves dirt ok) (grows : GrowsByCall (g.told old) (g.told new) (call ok)) where
  made : Ran (g.told old) (g.told new) (EachCall (IsThisCall skip disk call))
  made = Ran-call (EachCall (IsThisCall skip disk call)) (g.told old) (g.told new) (call ok) grows (λ s is. (lawful s is, (not, ok, refl), tt))

  -- which disk is lost by the answer
  answered : (from to : Losses) (result : Result (Unit {0}) Two) → FollowsAnswer from to disk ok result → AnswersLosses from.down to.down result (call ok ∷ [])
  answered from to (Ok it) (inl is) = subst (λ (b : Losses). BearsLoss from.down b.down (call ok ∷ [])) (sym is.1) (bears_done from.down (call ok) (does ok ∙ is.0))
  answered from to (Ok it) (inr is) = bears_failed from.down to.down (call ok) (does ok ∙ is.0) (is.1 ∙ ap Some (sym (at ok))) (λ x out. is.3 x out ∙ sym (at ok))
  answered from to (Err two) is = tells_failed from.down two (call ok) (does ok ∙ is.0) is.2 (λ e. is.3 (e ∙ is.4)) (is.4 ∙ sym (at ok))

  ordered : (from to : Losses) (result : Result (Unit {0}) Two) → FollowsAnswer from to disk ok result → Ran (g.told old) (g.told new) (λ s cs. AnswersLosses from.down to.down result cs)
  ordered from to result follows = Ran-call (λ s cs. AnswersLosses from.down to.down result cs) (g.told old) (g.told new) (call ok) grows (λ s is. answered from to result follows)

  -- the call and what follows its answer
  pub called_leaves : (from to : Losses) (result : Result (Unit {0}) Two) → FollowsAnswer from to disk ok result → CommitPart g (IsThisCall skip disk call) from to old new result
  called_leaves from to (Ok it) (inl is) = subst (λ (b : Losses). CommitPart {A = Unit {0}} g (IsThisCall skip disk call) from b old new (Ok it)) (sym is.1) (record {
    lasts = done_lasts touched same from;
    well = λ d not. touched_well touched same d (λ _. is.0);
    two = tt;
    gone = tt;
    on = λ d lost. inl lost;
    calls = made;
    order = ordered from from (Ok it) (inl (is.0, refl));
  })
  called_leaves from to (Ok it) (inr is) = record {
    lasts = borne_lasts touched same from to is.0 is.1 is.2 is.3;
    well = λ d other. touched_well touched same d (λ e. absurd (other (is.2 ∙ ap Some (sym e))));
    two = tt;
    gone = tt;
    on = λ d lost.
        let same : disk ≡ d = (let e : Some disk ≡ Some d = sym is.2 ∙ lost in cc) in
        inr ((call ok, (not, ok, refl), at ok ∙ same), subst (λ (k : ℕ). is_present (g.slot old k).power ≡ true) same here);
    calls = made;
    order = ordered from to (Ok it) (inr is);
  }
  called_leaves from to (Err two) is = subst (λ (b : Losses). CommitPart {A = Unit {0}} g (IsThisCall skip disk call) from b old new (Err two)) (sym is.1) (record {
    lasts = done_lasts touched same from;
    well = tt;
    two = record {
      first = inl is.2;
      apart = λ e. is.3 (e ∙ is.4);
      second = subst (λ (k : ℕ). HasRisen (g.slot old k).faults (g.slot new k).faults) (sym is.4) (touched.risen is.0);
    };
    gone = record { first = inl is.2; second = subst (IsGoneSince (g.slot old) (g.slot new)) (sym is.4) (record { there = here; absent = touched.absent is.0 }) };
    on = λ d lost. inl lost;
    calls = made;
    order = ordered from from (Err two) (is.0, refl, is.2, is.3, is.4);
  })

-- Parts

-- no call
pub CommitPart_none : {R A : Type 0} (g : Ghosts R) (uses : Call → Type 0) (a : Losses) (r : R) (it : A) → CommitPart g uses a a r r (Ok it)
CommitPart_none g uses a r it = record {
  lasts = AreCommitCalls-none a (g.slot r);
  well = AreOthersWell-none a (g.slot r);
  two = tt;
  gone = tt;
  on = λ d is. inl is;
  calls = Ran-none (EachCall uses) (λ s. tt) (g.told r);
  order = Ran-none (λ s cs. BearsLoss a.down a.down cs) (λ s. bears_none a.down) (g.told r);
}

on_then : {R : Type 0} (g : Ghosts R) (uses : Call → Type 0) (a b c : Losses) (r s : R) → AreCommitCalls a b (g.slot r) (g.slot s)
    → ((d : ℕ) → b.lost ≡ Some d → (a.lost ≡ Some d) ⊎ (IsOn uses d × (is_present (g.slot r d).power ≡ true)))
    → ((d : ℕ) → c.lost ≡ Some d → (b.lost ≡ Some d) ⊎ (IsOn uses d × (is_present (g.slot s d).power ≡ true)))
    → (d : ℕ) → c.lost ≡ Some d → (a.lost ≡ Some d) ⊎ (IsOn uses d × (is_present (g.slot r d).power ≡ true))
on_then g uses a b c r s lasts first second d is = elim (second d is) [
  | inl was ↦ first d was
  | inr on ↦ inr (on.0, AreCommitCalls-present a b (g.slot r) (g.slot s) d lasts on.1)
]

-- disks that are gone in the second part are so in the whole
gone_then : {R : Type 0} (g : Ghosts R) (uses : Call → Type 0) (a b c : Losses) (r s t : R) (two : Two) → AreCommitCalls a b (g.slot r) (g.slot s) → AreCommitCalls b c (g.slot s) (g.slot t)
    → ((d : ℕ) → b.lost ≡ Some d → (a.lost ≡ Some d) ⊎ (IsOn uses d × (is_present (g.slot r d).power ≡ true)))
    → AreGoneSince (λ d. b.down ≡ Some d) (g.slot s) (g.slot t) two → AreGoneSince (λ d. a.down ≡ Some d) (g.slot r) (g.slot t) two
gone_then g uses a b c r s t two before after on is = record {
  first = elim is.first [
    | inl down ↦ elim (before.down two.first down) [ inl was ↦ inl was | inr lost ↦ split lost (on two.first lost) (before.absent two.first lost) ]
    | inr gone ↦ inr (since two.first gone)
  ];
  second = since two.second is.second;
}
  where
    since : (d : ℕ) → IsGoneSince (g.slot s) (g.slot t) d → IsGoneSince (g.slot r) (g.slot t) d
    since d gone = record { there = AreCommitCalls-present a b (g.slot r) (g.slot s) d before gone.there; absent = gone.absent }

    split : b.lost ≡ Some two.first → (a.lost ≡ Some two.first) ⊎ (IsOn uses two.first × (is_present (g.slot r two.first).power ≡ true))
        → (a.lost ≡ Some two.first) ⊎ ((g.slot s two.first).power ≡ Absent) → (a.down ≡ Some two.first) ⊎ IsGoneSince (g.slot r) (g.slot t) two.first
    split lost (inl was) gone = inl (a.agrees two.first was)
    split lost (inr on) (inl was) = inl (a.agrees two.first was)
    split lost (inr on) (inr gone) = inr (record { there = on.1; absent = AreCommitCalls-gone b c (g.slot s) (g.slot t) two.first after gone })

-- a part that ended well, and then another
pub CommitPart_then : {R A B : Type 0} {g : Ghosts R} {uses : Call → Type 0} {a b c : Losses} {r s t : R} {it : A} {result : Result B Two}
    → CommitPart g uses a b r s (Ok it) → CommitPart g uses b c s t result → CommitPart g uses a c r t result
CommitPart_then {g = g} {uses = uses} {a = a} {b = b} {c = c} {r = r} {s = s} {t = t} {result = Ok done} first second = record {
  lasts = AreCommitCalls-then a b c (g.slot r) (g.slot s) (g.slot t) first.lasts second.lasts;
  well = AreOthersWell-then a b c (g.slot r) (g.slot s) (g.slot t) first.lasts second.lasts first.well second.well;
  two = tt;
  gone = tt;
  on = on_then g uses a b c r s first.lasts first.on second.on;
  calls = Ran-then (EachCall uses) (EachCall-append uses) (g.told r) (g.told s) (g.told t) first.calls second.calls;
  order = ran_bears a.down b.down c.down (g.told r) (g.told s) (g.told t) first.order second.order;
}
CommitPart_then {g = g} {uses = uses} {a = a} {b = b} {c = c} {r = r} {s = s} {t = t} {result = Err two} first second = record {
  lasts = AreCommitCalls-then a b c (g.slot r) (g.slot s) (g.slot t) first.lasts second.lasts;
  well = tt;
  two = AreTwoDown-later a b c (g.slot r) (g.slot s) (g.slot t) two first.lasts second.lasts second.two;
  gone = gone_then g uses a b c r s t two first.lasts second.lasts first.on second.gone;
  on = on_then g uses a b c r s first.lasts first.on second.on;
  calls = Ran-then (EachCall uses) (EachCall-append uses) (g.told r) (g.told s) (g.told t) first.calls second.calls;
  order = ran_tells a.down b.down two (g.told r) (g.told s) (g.told t) first.order second.order;
}

-- the same where a `?` hands on the error
pub CommitPart_raised : {R A B : Type 0} {g : Ghosts R} {uses : Call → Type 0} {a b : Losses} {r s : R} {two : Two} (result : Result B Two)
    → IsErrAnd result (λ other. other ≡ two) → CommitPart {A = A} g uses a b r s (Err two) → CommitPart g uses a b r s result
CommitPart_raised (Ok it) is part = absurd is
CommitPart_raised {g = g} {a = a} {r = r} {s = s} (Err other) is part = record {
  lasts = part.lasts;
  well = tt;
  two = subst (λ (t : Two). AreTwoDown a.down (g.slot r) (g.slot s) t) (sym is) part.two;
  gone = subst (λ (t : Two). AreGoneSince (λ d. a.down ≡ Some d) (g.slot r) (g.slot s) t) (sym is) part.gone;
  on = part.on;
  calls = part.calls;
  order = subst (λ (t : Two). Ran (g.told r) (g.told s) (λ x cs. TellsLosses a.down t cs)) (sym is) part.order;
}

-- and where it ends well with another value
pub CommitPart_answer : {R A B : Type 0} {g : Ghosts R} {uses : Call → Type 0} {a b : Losses} {r s : R} {it : A} (any : B)
    → CommitPart g uses a b r s (Ok it) → CommitPart g uses a b r s (Ok any)
CommitPart_answer any part = record { lasts = part.lasts; well = part.well; two = tt; gone = tt; on = part.on; calls = part.calls; order = part.order }

-- less is said of the calls
pub CommitPart_milder : {R A : Type 0} {g : Ghosts R} {u v : Call → Type 0} {a b : Losses} {r s : R} {result : Result A Two} → ((c : Call) → u c → v c)
    → CommitPart g u a b r s result → CommitPart g v a b r s result
CommitPart_milder {u = u} {v = v} more part = record {
  lasts = part.lasts;
  well = part.well;
  two = part.two;
  gone = part.gone;
  on = λ d is. elim (part.on d is) [ inl was ↦ inl was | inr on ↦ inr ((on.0.0, more on.0.0 on.0.1, on.0.2), on.1) ];
  calls = ran_milder (EachCall u) (EachCall v) (EachCall-milder u v more) part.calls;
  order = part.order;
}

-- Of which kind they are

module _ {R A : Type 0} {g : Ghosts R} {skip : Option ℕ} {disk : ℕ} {a b : Losses} {r s : R} {result : Result A Two} where
  pub logs_read : (p : ℕ) → disk < 2 → p < log_least → CommitPart g (IsThisCall skip disk (λ done. Read disk p done)) a b r s result → CommitPart g (UsesLog skip) a b r s result
  logs_read p low within part = CommitPart_milder (λ c is. subst (UsesLog skip) (sym is.2) ((low, is.0), within)) part

  pub logs_write : (p : ℕ) {block : Block} → disk < 2 → p < log_least → CommitPart g (IsThisCall skip disk (λ done. Write disk p block done)) a b r s result
      → CommitPart g (UsesLog skip) a b r s result
  logs_write p low within part = CommitPart_milder (λ c is. subst (UsesLog skip) (sym is.2) ((low, is.0), within)) part

  pub logs_sync : disk < 2 → CommitPart g (IsThisCall skip disk (λ done. Sync disk done)) a b r s result → CommitPart g (UsesLog skip) a b r s result
  logs_sync low part = CommitPart_milder (λ c is. subst (UsesLog skip) (sym is.2) (low, is.0)) part

  pub writes_target : (batch : Batch) (p : ℕ) {block : Block} → (names_place batch disk p ≡ true) × Contains batch (record { disk = disk; place = p }, block) → CommitPart g (IsThisCall skip disk (λ done. Write disk p block done)) a b r s result
      → CommitPart g (UsesTarget skip batch) a b r s result
  writes_target batch p on part = CommitPart_milder (λ c is. subst (UsesTarget skip batch) (sym is.2) (is.0, on.0, on.1)) part

  pub syncs_target : (batch : Batch) → names_disk batch disk ≡ true → CommitPart g (IsThisCall skip disk (λ done. Sync disk done)) a b r s result
      → CommitPart g (UsesTarget skip batch) a b r s result
  syncs_target batch on part = CommitPart_milder (λ c is. subst (UsesTarget skip batch) (sym is.2) (is.0, on)) part

-- where fewer log disks are skipped
UsesLog_milder : (skip other : Option ℕ) → ((d : ℕ) → IsUnskippedLog skip d → IsUnskippedLog other d) → (c : Call) → UsesLog skip c → UsesLog other c
UsesLog_milder skip other more (Read d p done) is = (more d is.0, is.1)
UsesLog_milder skip other more (Write d p b done) is = (more d is.0, is.1)
UsesLog_milder skip other more (Sync d done) is = more d is
UsesLog_milder skip other more (Park d done) is = absurd is
UsesLog_milder skip other more (SpinUp d done) is = absurd is
UsesLog_milder skip other more (Attach d size done) is = absurd is

log_uses : (m : Meta) (batch : Batch) (c : Call) → UsesLog (named_out m.out) c → Uses m batch c
log_uses m batch (Read d p done) is = (let low = is.0.0 in let many = m.setup.geometry.disks_low in omega arith, inl is)
log_uses m batch (Write d p b done) is = (let low = is.0.0 in let many = m.setup.geometry.disks_low in omega arith, inl is)
log_uses m batch (Sync d done) is = (let low = is.0 in let many = m.setup.geometry.disks_low in omega arith, inl is)
log_uses m batch (Park d done) is = absurd is
log_uses m batch (SpinUp d done) is = absurd is
log_uses m batch (Attach d size done) is = absurd is

target_uses : (m : Meta) (batch : Batch) → All (λ (t : Target). t.disk < m.setup.geometry.disks) (targets batch) → (c : Call) → UsesTarget (gone_out m.out) batch c → Uses m batch c
target_uses m batch below (Read d p done) is = absurd is
target_uses m batch below (Write d p b done) is = (names_disk-below batch m.setup.geometry.disks d below (names_disk-named batch d p is.1), inr is)
target_uses m batch below (Sync d done) is = (names_disk-below batch m.setup.geometry.disks d below is.1, inr is)
target_uses m batch below (Park d done) is = absurd is
target_uses m batch below (SpinUp d done) is = absurd is
target_uses m batch below (Attach d size done) is = absurd is

module _ {R A : Type 0} {g : Ghosts R} {a b : Losses} {r s : R} {result : Result A Two} where
  pub CommitPart_beside : {skip other : Option ℕ} → ((d : ℕ) → IsUnskippedLog skip d → IsUnskippedLog other d) → CommitPart g (UsesLog skip) a b r s result
      → CommitPart g (UsesLog other) a b r s result
  CommitPart_beside {skip} {other} more part = CommitPart_milder (UsesLog_milder skip other more) part

  pub CommitPart_logs : (m : Meta) (batch : Batch) {skip : Option ℕ} → skip ≡ named_out m.out → CommitPart g (UsesLog skip) a b r s result
      → CommitPart g (Uses m batch) a b r s result
  CommitPart_logs m batch {skip} is part = CommitPart_milder (λ c on. log_uses m batch c (subst (λ (o : Option ℕ). UsesLog o c) is on)) part

  pub CommitPart_targets : (m : Meta) (batch : Batch) {skip : Option ℕ} → skip ≡ gone_out m.out → All (λ (t : Target). t.disk < m.setup.geometry.disks) (targets batch)
      → CommitPart g (UsesTarget skip batch) a b r s result → CommitPart g (Uses m batch) a b r s result
  CommitPart_targets m batch {skip} is below part = CommitPart_milder (λ c on. target_uses m batch below c (subst (λ (o : Option ℕ). UsesTarget o batch c) is on)) part

  -- what can be logged before a part can be logged after it
  pub CommitPart_log : {uses : Call → Type 0} {skip : Option ℕ} → CommitPart g uses a b r s result → IsLogReady skip (g.slot r) → IsLogReady skip (g.slot s)
  CommitPart_log part ready = log_stays_ready part.lasts ready

-- where a `?` hands on the error nothing is owed at Ok
pub raised_ok : {U E : Type 0} (Q : E → Type 0) (P : Type 0) (result : Result U E) → IsErrAnd result Q → OnOk result P
raised_ok Q P (Ok it) is = absurd is
raised_ok Q P (Err e) is = tt

-- nor of what it would answer there
pub raised_if_ok : {U E : Type 0} (Q : E → Type 0) (P : U → Type 0) (result : Result U E) → IsErrAnd result Q → IfOk result P
raised_if_ok Q P (Ok it) is = absurd is
raised_if_ok Q P (Err e) is = tt

-- and it does not answer Ok
pub raised_not_ok : {U E : Type 0} (Q : E → Type 0) {it : U} {P : Type 0} (result : Result U E) → IsErrAnd result Q → result ≡ Ok it → P
raised_not_ok Q (Ok it) is e = absurd is
raised_not_ok Q (Err other) is e = cc

-- a disk that gets no call is skipped or absent
pub passed_does : {told : Option Trail} {slot : ℕ → Slot} (skip : Option ℕ) (disk : ℕ) (call : Bool → Call) → (skip ≢ Some disk → (slot disk).power ≡ Absent) → MayDo told told slot skip disk call
passed_does None disk call gone = absent (gone (λ e. cc)) refl
passed_does (Some x) disk call gone = elim (cases_eq x disk) [
  | inl here ↦ skipped (ap Some here) refl
  | inr not ↦ absent (gone (λ e. not (cc))) refl
]

-- what one call leaves unsynced
pub one_stays_synced : (may : ℕ → Type 0) {old new : ℕ → Slot} {disk : ℕ} {leaves : Slot} {dirt : Bool} (ok : Bool) → ChangesOneSlot old new disk leaves dirt ok
    → (leaves.unsynced ≡ true → ((old disk).unsynced ≡ true) ⊎ may disk) → StaySyncedBut may old new
one_stays_synced may {old} {new} {disk} ok changes left d there unsynced = elim (cases_eq d disk) [
  | inl here ↦
      let there_then = subst (λ (k : ℕ). is_present (new k).power ≡ true) here there in
      subst (λ (k : ℕ). ((old k).unsynced ≡ true) ⊎ may k) (sym here) (elim (cases_Bool ok) [
        | inl done ↦ left (sym (ap (λ (s : Slot). s.unsynced) (changes.done done)) ∙ subst (λ (k : ℕ). (new k).unsynced ≡ true) here unsynced)
        | inr failed ↦ absurd (true≢false (sym there_then ∙ ap is_present (changes.absent failed)))
      ])
  | inr not ↦ inl (sym (ap (λ (s : Slot). s.unsynced) (changes.others d not)) ∙ unsynced)
]

-- a part whose answer is known
pub CommitPart_by : {R A : Type 0} {g : Ghosts R} {uses : Call → Type 0} {a b : Losses} {r s : R} {result other : Result A Two} → result ≡ other
    → CommitPart g uses a b r s result → CommitPart g uses a b r s other
CommitPart_by {g = g} {uses = uses} {a = a} {b = b} {r = r} {s = s} is part = subst (λ o. CommitPart g uses a b r s o) is part
