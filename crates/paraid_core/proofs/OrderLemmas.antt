-- Which of two disks was lost first.
use Rattle.std.specs.Prelude.{◌≡◌, ◌≢◌, ℕ, ◌<◌, Bool, true, false, List, [], ◌∷◌, Option, Some, None}
use Rattle.std.proofs.Common.{refl, sym, ◌∙◌, ap, subst, inl, inr}
use Rattle.std.proofs.lemmas.Bool.{false≢true}
use Rattle.paraid_base.specs.declared.fault.Two.{Two}
use Rattle.paraid_rack.specs.declared.call.Call.{Call}
use Rattle.paraid_rack.specs.declared.call.Call.TheVariants.{Read, Write, Sync, Park, SpinUp, Attach}
use Rattle.paraid_rack.specs.declared.call.Power.{Power}
use Rattle.paraid_rack.specs.declared.call.Power.TheVariants.{Absent}
use Rattle.paraid_rack.specs.Disks.{Disks, is_present, power_after, step, with_at}
use Rattle.paraid_rack.specs.Lawful.{IsLawful}
use Rattle.paraid_rack.specs.Slots.{Agrees, Slot}
use Rattle.paraid_rack.specs.Told.{GrowsByCall, Ran}
use Rattle.paraid_rack.specs.Trail.{Trail, now, run}
use Rattle.paraid_rack.specs.Calls.{IsTransfer}
use Rattle.paraid_rack.proofs.AtomsLemmas.{at_use, with_at_same}
use Rattle.paraid_rack.proofs.TrailsLemmas.{Ran-call, now-extend}
use Rattle.paraid_record.specs.declared.meta.Meta.{Meta}
use Rattle.paraid_record.specs.declared.meta.Setup.{Setup}
use Rattle.paraid_image.specs.Calls.{disk_of, is_done}
use Rattle.paraid_image.specs.Lost.{BearsLoss, EndsByLoss, TellsLosses, fails_on, first_lost}
use Rattle.paraid_image.specs.Out.{named_out, or_else, out_disk}
use Rattle.paraid_image.specs.Mark.{meta_with_lost}
use Rattle.paraid_image.proofs.CallLemmas.{decide_some}
use Rattle.paraid_image.proofs.FailedCallLemmas.{failed_is_loss}
use Rattle.paraid_image.proofs.LostLemmas.{absent_failed, bears_unhurt, fails_split, first_fails, only_lost, ran_beside, ran_says, ran_tells, tells_failed}
use Rattle.paraid_txn.specs.Losses.{IsOnlyOut, IsOutOfCommit}
use Rattle.paraid_txn.specs.Losses.IsOutOfCommit.{is_absent, was_named, is_named}
use Rattle.paraid_txn.specs.Stores.{store_rack}
use Rattle.paraid_txn.specs.Commit.{gone_out}
use Rattle.paraid_txn.specs.Uses.{EachCall}
use Rattle.paraid_core.specs.declared.staged.Core.{Core}
use Rattle.paraid_core.specs.Calls.{IsCopySync, IsDataCall, IsTransferCall, MakesCopySyncs, MakesDataCalls, MakesTransferCalls}
use Rattle.paraid_core.specs.Lost.{CoreMarksLost, CoreTellsLosses, MarksLost}
use Rattle.paraid_core.proofs.KindLemmas.{data_transfer}
use Rattle.paraid_core.proofs.LostDiskLemmas.{out_all}

-- A disk on which a call failed was there, and is absent

touched_there : (s : Disks) (e : ℕ) (done : Bool) (d : ℕ) → is_present (with_at s.power e (power_after done (s.power e)) d) ≡ true → is_present (s.power d) ≡ true
touched_there s e true d here = at_use (λ (p : Power). is_present p ≡ true) (is_present (s.power d) ≡ true) s.power e (s.power e) d
    (λ at there. subst (λ (x : ℕ). is_present (s.power x) ≡ true) (sym at) there) (λ other there. there) here
touched_there s e false d here = at_use (λ (p : Power). is_present p ≡ true) (is_present (s.power d) ≡ true) s.power e Absent d
    (λ at there. absurd (false≢true there)) (λ other there. there) here

there_before : (s : Disks) (c : Call) (d : ℕ) → IsTransfer c → is_present ((step c s).power d) ≡ true → is_present (s.power d) ≡ true
unfolding step
there_before s (Read e p done) d is here = touched_there s e done d here
there_before s (Write e p b done) d is here = touched_there s e done d here
there_before s (Sync e done) d is here = touched_there s e done d here
there_before s (Park e done) d is here = absurd is
there_before s (SpinUp e done) d is here = absurd is
there_before s (Attach e size done) d is here = absurd is

lawful_there : (s : Disks) (c : Call) → IsTransfer c → IsLawful s c → is_present (s.power (disk_of c)) ≡ true
lawful_there s (Read e p done) is lawful = ap is_present lawful
lawful_there s (Write e p b done) is lawful = ap is_present lawful
lawful_there s (Sync e done) is lawful = ap is_present lawful
lawful_there s (Park e done) is lawful = absurd is
lawful_there s (SpinUp e done) is lawful = absurd is
lawful_there s (Attach e size done) is lawful = absurd is

failed_off : (s : Disks) (c : Call) → is_done c ≡ false → is_present ((step c s).power (disk_of c)) ≡ false
failed_off s c failed = let l = failed_is_loss s c failed in ap is_present (l.power (disk_of c) ∙ with_at_same s.power (disk_of c) Absent (disk_of c) refl)

module _ (u : Call → Type 0) (transfers : (c : Call) → u c → IsTransfer c) where
  off_stays : (s : Disks) (cs : List Call) (d : ℕ) → EachCall u s cs → is_present (s.power d) ≡ false → is_present ((run s cs).power d) ≡ false
  off_stays s [] d each off = off
  off_stays s (c ∷ cs) d each off = off_stays (step c s) cs d each.2 (by (is_present ((step c s).power d)) refl)
    where
      by : (b : Bool) → is_present ((step c s).power d) ≡ b → is_present ((step c s).power d) ≡ false
      by false is = is
      by true is = absurd (false≢true (sym off ∙ there_before s c d (transfers c each.1) is))

  failed_gone : (s : Disks) (cs : List Call) (e : ℕ) → EachCall u s cs → fails_on e cs ≡ true → (is_present (s.power e) ≡ true) × (is_present ((run s cs).power e) ≡ false)
  failed_gone s [] e each failed = absurd (false≢true failed)
  failed_gone s (c ∷ cs) e each failed = elim (fails_split c cs e failed) [
    | inl here ↦ (
      subst (λ (x : ℕ). is_present (s.power x) ≡ true) here.1 (lawful_there s c (transfers c each.1) each.0),
      off_stays (step c s) cs e each.2 (subst (λ (x : ℕ). is_present ((step c s).power x) ≡ false) here.1 (failed_off s c here.0)),
    )
    | inr later ↦ let k = failed_gone (step c s) cs e each.2 later in (there_before s c e (transfers c each.1) k.0, k.1)
  ]

  failed_low : (n : ℕ) → ((c : Call) → u c → disk_of c < n) → (s : Disks) (cs : List Call) (e : ℕ) → EachCall u s cs → fails_on e cs ≡ true → e < n
  failed_low n low s [] e each failed = absurd (false≢true failed)
  failed_low n low s (c ∷ cs) e each failed = elim (fails_split c cs e failed) [
    | inl here ↦ subst (λ (x : ℕ). x < n) here.1 (low c each.1)
    | inr later ↦ failed_low n low (step c s) cs e each.2 later
  ]

  -- Where each disk that is absent afterwards is named out, each that failed is the one that is named.
  pub ran_out : (n : ℕ) → ((c : Call) → u c → disk_of c < n) → (told told_then : Option Trail) (new : ℕ → Slot) → ((t : Trail) → told_then ≡ Some t → Agrees (now t) new) → (out : Option ℕ)
      → ((d : ℕ) → d < n → is_present (new d).power ≡ false → out ≡ Some d) → Ran told told_then (EachCall u) → Ran told told_then (λ s cs. (d : ℕ) → fails_on d cs ≡ true → out ≡ Some d)
  ran_out n low told told_then new agrees_then out absent ran t tells =
      let r = ran t tells in
      record {
        from = r.from;
        was = r.was;
        calls = r.calls;
        is = r.is;
        holds = λ d failed.
            let there : (run (now r.from) r.calls).power d ≡ (new d).power = ap (λ (x : Disks). x.power d) (sym (ap now r.is ∙ now-extend r.from r.calls)) ∙ (agrees_then t tells).power d in
            absent d (failed_low n low (now r.from) r.calls d r.holds failed) (ap is_present (sym there) ∙ (failed_gone (now r.from) r.calls d r.holds failed).1);
      }

  -- The disk that is marked as lost is the first that failed.
  module _ (s : Disks) (cs : List Call) (each : EachCall u s cs) (old new : ℕ → Slot) (at : (d : ℕ) → s.power d ≡ (old d).power) (at_then : (d : ℕ) → (run s cs).power d ≡ (new d).power)
      (m z : Meta) (marks : MarksLost old new m z) (absent : (d : ℕ) → d < m.setup.geometry.disks → is_present (old d).power ≡ false → named_out m.out ≡ Some d) where
    only_marked : (e : ℕ) → fails_on e cs ≡ true → marks.lost ≡ Some e
    only_marked e failed = elim (decide_some marks.lost e) [
      | inl is ↦ is
      | inr not ↦
          let k = failed_gone s cs e each failed in
          absurd (false≢true (sym k.1 ∙ ap is_present (at_then e ∙ (marks.others e not).power ∙ sym (at e)) ∙ k.0))
    ]

    named_then : (o : Option ℕ) → marks.lost ≡ o → named_out z.out ≡ or_else o (named_out m.out)
    named_then None is = ap (λ (y : Meta). named_out y.out) (marks.is ∙ ap (λ (o : Option ℕ). record (meta_with_lost o m) { epoch = z.epoch; writes = z.writes }) is)
    named_then (Some d) is = ap (λ (y : Meta). named_out y.out) (marks.is ∙ ap (λ (o : Option ℕ). record (meta_with_lost o m) { epoch = z.epoch; writes = z.writes }) is)

    none_first : marks.lost ≡ None → first_lost cs ≡ None
    none_first none = by (first_lost cs) refl
      where
        by : (o : Option ℕ) → first_lost cs ≡ o → first_lost cs ≡ None
        by None is = is
        by (Some x) is = let y : None ≡ Some x = sym none ∙ only_marked x (first_fails cs x is) in cc

    some_first : (d : ℕ) → marks.lost ≡ Some d → named_out m.out ≡ None → first_lost cs ≡ Some d
    some_first d is none = elim (absent_failed s cs d (ap is_present (at_then d ∙ (marks.failed d is).absent))) [
      | inl before ↦ let y : None ≡ Some d = sym none ∙ absent d (marks.disk d is) (ap is_present (sym (at d)) ∙ before) in cc
      | inr failed ↦ only_lost cs d failed (λ e f. let y : Some d ≡ Some e = sym is ∙ only_marked e f in let x : e ≡ d = cc in x)
    ]

    first_is : (o : Option ℕ) → marks.lost ≡ o → named_out m.out ≡ None → first_lost cs ≡ named_out z.out
    first_is None is none = none_first is ∙ sym (named_then None is ∙ none)
    first_is (Some d) is none = some_first d is none ∙ sym (named_then (Some d) is)

    still_named : (o : Option ℕ) → marks.lost ≡ o → (x : ℕ) → named_out m.out ≡ Some x → named_out z.out ≡ Some x
    still_named None is x named = named_then None is ∙ named
    still_named (Some d) is x named = named_then (Some d) is ∙ ap (λ (k : ℕ). Some k) (sym (marks.alone d x is named))

    marked_bears : BearsLoss (named_out m.out) (named_out z.out) cs
    marked_bears = record { first = first_is marks.lost refl; stays = still_named marks.lost refl; only = λ d failed. named_then (Some d) (only_marked d failed) }

  -- Of the calls from one record to another, in which one disk at most is lost.
  pub ran_marked : (told told_then : Option Trail) (old new : ℕ → Slot) → ((t : Trail) → told ≡ Some t → Agrees (now t) old) → ((t : Trail) → told_then ≡ Some t → Agrees (now t) new) → (m z : Meta) → MarksLost old new m z
      → ((d : ℕ) → d < m.setup.geometry.disks → is_present (old d).power ≡ false → named_out m.out ≡ Some d) → Ran told told_then (EachCall u) → Ran told told_then (λ s cs. BearsLoss (named_out m.out) (named_out z.out) cs)
  ran_marked told told_then old new agrees agrees_then m z marks absent ran t tells =
      let r = ran t tells in
      record {
        from = r.from;
        was = r.was;
        calls = r.calls;
        is = r.is;
        holds = marked_bears (now r.from) r.calls r.holds old new (λ d. (agrees r.from r.was).power d)
            (λ d. ap (λ (x : Disks). x.power d) (sym (ap now r.is ∙ now-extend r.from r.calls)) ∙ (agrees_then t tells).power d) m z marks absent;
      }

-- Two disks are lost

-- the second one failed while another was out
pub lose_tells : (out lost : Option ℕ) (two : Two) (old new : Option Trail) → (lost ≡ Some two.second) × (out ≡ Some two.first) × (two.first ≢ two.second) → Ran old new (λ s cs. EndsByLoss lost cs) → Ran old new (λ s cs. TellsLosses out two cs)
lose_tells out lost two old new both ran = ran_beside out two old new both.1 both.2 (subst (λ (o : Option ℕ). Ran old new (λ s cs. EndsByLoss o cs)) both.0 ran)

-- in one call
pub call_tells : (out : Option ℕ) (two : Two) (c : Call) (old new : Option Trail) → GrowsByCall old new c → is_done c ≡ false → (Some (disk_of c) ≡ Some two.second) × (out ≡ Some two.first) × (two.first ≢ two.second) → Ran old new (λ s cs. TellsLosses out two cs)
call_tells out two c old new grows failed both =
    Ran-call (λ s cs. TellsLosses out two cs) old new c grows (λ t is. tells_failed out two c failed both.1 both.2 (let x : two.second ≡ disk_of c = same (disk_of c) two.second both.0 in x))
  where
    same : (a b : ℕ) → Some a ≡ Some b → b ≡ a
    same a b is = cc

-- as a commit begins one disk is out at most
pub commit_only : (named : Option ℕ) (power : ℕ → Power) (disks : ℕ) (m : Meta) → m.setup.geometry.disks ≡ disks → ((d : ℕ) → d < m.setup.geometry.disks → is_present (power d) ≡ false → named_out m.out ≡ Some d)
    → ((d e : ℕ) → named ≡ Some d → named_out m.out ≡ Some e → d ≡ e) → IsOnlyOut (IsOutOfCommit power disks named (named_out m.out)) (or_else named (named_out m.out))
commit_only named power disks m array absent one = record { one = all; is = is }
  where
    by_named : (o : Option ℕ) → named ≡ o → (e : ℕ) → named_out m.out ≡ Some e → or_else o (named_out m.out) ≡ Some e
    by_named None is e out = out
    by_named (Some d) is e out = ap (λ (k : ℕ). Some k) (one d e is out)

    all : (e : ℕ) → IsOutOfCommit power disks named (named_out m.out) e → or_else named (named_out m.out) ≡ Some e
    all e (is_absent low gone) = by_named named refl e (absent e (subst (λ (n : ℕ). e < n) (sym array) low) (ap is_present gone))
    all e (was_named was) = ap (λ (o : Option ℕ). or_else o (named_out m.out)) was
    all e (is_named out) = by_named named refl e out

    split : (o : Option ℕ) → named ≡ o → (e : ℕ) → or_else o (named_out m.out) ≡ Some e → IsOutOfCommit power disks named (named_out m.out) e
    split None k e found = is_named found
    split (Some d) k e found = was_named (k ∙ found)

    is : (e : ℕ) → or_else named (named_out m.out) ≡ Some e → IsOutOfCommit power disks named (named_out m.out) e
    is = split named refl

-- the disk that is down is the one that the meta names, where that of the last commit is out still
pub down_is_named : (named out : Option ℕ) → ((d : ℕ) → named ≡ Some d → out ≡ Some d) → or_else named out ≡ out
down_is_named None out still = refl
down_is_named (Some d) out still = sym (still d refl)

-- where each absent disk is named, the disk that is out is the one that is named
pub out_tells : (power : ℕ → Power) (m : Meta) → ((d : ℕ) → d < m.setup.geometry.disks → is_present (power d) ≡ false → named_out m.out ≡ Some d) → (two : Two) (old new : Option Trail)
    → Ran old new (λ s cs. TellsLosses (out_disk power m) two cs) → Ran old new (λ s cs. TellsLosses (named_out m.out) two cs)
out_tells power m absent two old new ran = subst (λ (o : Option ℕ). Ran old new (λ s cs. TellsLosses o two cs)) (out_all power m absent) ran

-- none has failed in the first part, and two are lost in the second
pub tells_unhurt : (out : Option ℕ) (two : Two) (old between new : Option Trail) → Ran old between (λ s cs. first_lost cs ≡ None) → Ran between new (λ s cs. TellsLosses out two cs) → Ran old new (λ s cs. TellsLosses out two cs)
tells_unhurt out two old between new first second = ran_tells out out two old between new
    (ran_says (λ cs. first_lost cs ≡ None) (BearsLoss out out) (λ cs none. bears_unhurt out cs none) old between first) second

-- Cores

sync_transfer : (n : ℕ) (copied : List Bool) (c : Call) → IsCopySync n copied c → IsTransfer c
sync_transfer n copied (Read d p done) is = absurd is
sync_transfer n copied (Write d p b done) is = absurd is
sync_transfer n copied (Sync d done) is = tt
sync_transfer n copied (Park d done) is = absurd is
sync_transfer n copied (SpinUp d done) is = absurd is
sync_transfer n copied (Attach d size done) is = absurd is

-- Where the core can be used on, each disk that failed is the one that is named out.
pub data_out : {R : Type 0} {g : _} (slot : R → ℕ → Slot) (told : R → Option Trail) → ((rack : R) (t : Trail) → told rack ≡ Some t → Agrees (now t) (slot rack)) → (old mid : Core R g) → mid.meta.setup ≡ old.meta.setup
    → ((d : ℕ) → d < mid.meta.setup.geometry.disks → is_present (slot (store_rack mid.store) d).power ≡ false → named_out mid.meta.out ≡ Some d) → MakesDataCalls told old mid
    → Ran (told (store_rack old.store)) (told (store_rack mid.store)) (λ s cs. (d : ℕ) → fails_on d cs ≡ true → named_out mid.meta.out ≡ Some d)
data_out slot told agrees old mid same absent ran =
    ran_out (IsDataCall old.meta.setup.geometry.disks (gone_out old.meta.out)) (λ c is. (data_transfer old.meta.setup.geometry.disks (gone_out old.meta.out) c is).2) old.meta.setup.geometry.disks (λ c is. is.0) (told (store_rack old.store)) (told (store_rack mid.store))
    (slot (store_rack mid.store)) (agrees (store_rack mid.store)) (named_out mid.meta.out)
    (subst (λ (z : Setup). (d : ℕ) → d < z.geometry.disks → is_present (slot (store_rack mid.store) d).power ≡ false → named_out mid.meta.out ≡ Some d) same absent) ran

module _ {R : Type 0} {g : _} (slot : R → ℕ → Slot) (told : R → Option Trail) (agrees : (rack : R) (t : Trail) → told rack ≡ Some t → Agrees (now t) (slot rack)) (old mid : Core R g)
    (absent : (d : ℕ) → d < old.meta.setup.geometry.disks → is_present (slot (store_rack old.store) d).power ≡ false → named_out old.meta.out ≡ Some d) (marks : CoreMarksLost slot old mid) where
  -- of the calls of a core that ended well
  abbrev Bears : Type 0
  Bears = Ran (told (store_rack old.store)) (told (store_rack mid.store)) (λ s cs. BearsLoss (named_out old.meta.out) (named_out mid.meta.out) cs)

  core_bears : (u : Call → Type 0) → ((c : Call) → u c → IsTransfer c) → Ran (told (store_rack old.store)) (told (store_rack mid.store)) (EachCall u) → Bears
  core_bears u transfers ran = ran_marked u transfers (told (store_rack old.store)) (told (store_rack mid.store)) (slot (store_rack old.store)) (slot (store_rack mid.store)) (agrees (store_rack old.store)) (agrees (store_rack mid.store)) old.meta mid.meta marks absent ran

  pub transfer_bears : MakesTransferCalls told old mid → Bears
  transfer_bears ran = core_bears (IsTransferCall old.meta.setup.geometry.disks (gone_out old.meta.out)) (λ c is. is.2) ran

  pub data_bears : MakesDataCalls told old mid → Bears
  data_bears ran = core_bears (IsDataCall old.meta.setup.geometry.disks (gone_out old.meta.out)) (λ c is. (data_transfer old.meta.setup.geometry.disks (gone_out old.meta.out) c is).2) ran

  pub sync_bears : MakesCopySyncs told old mid → Bears
  sync_bears ran = core_bears (IsCopySync old.meta.setup.geometry.disks old.copied) (sync_transfer old.meta.setup.geometry.disks old.copied) ran

  -- and in a later call two disks are lost
  pub core_tells_then : (new : Core R g) (two : Two) → Bears → CoreTellsLosses told (named_out mid.meta.out) mid new two → CoreTellsLosses told (named_out old.meta.out) old new two
  core_tells_then new two first second = ran_tells (named_out old.meta.out) (named_out mid.meta.out) two (told (store_rack old.store)) (told (store_rack mid.store)) (told (store_rack new.store)) first second
