-- No call of a mount follows the one that failed on the second of two disks.
use Rattle.std.specs.Prelude.{◌≡◌, ◌≢◌, ℕ, ◌<◌, ◌⊎◌, Bool, true, false, List, [], ◌∷◌, Option, Some, None}
use Rattle.std.proofs.Common.{refl, sym, ◌∙◌, ap, subst, inl, inr}
use Rattle.std.proofs.lemmas.Bool.{false≢true}
use Rattle.paraid_base.specs.declared.fault.Two.{Two}
use Rattle.paraid_rack.specs.declared.call.Call.{Call}
use Rattle.paraid_rack.specs.declared.call.Call.TheVariants.{Read, Write, Sync, Park, SpinUp, Attach}
use Rattle.paraid_rack.specs.declared.call.Power.{Power}
use Rattle.paraid_rack.specs.declared.call.Power.TheVariants.{Absent}
use Rattle.paraid_rack.specs.Disks.{Disks, is_present, power_after, step, with_at}
use Rattle.paraid_rack.specs.Slots.{Agrees, Slot}
use Rattle.paraid_rack.specs.Told.{Ran}
use Rattle.paraid_rack.specs.Trail.{Trail, now, run}
use Rattle.paraid_rack.specs.Calls.{IsTransfer}
use Rattle.paraid_rack.proofs.AtomsLemmas.{at_use, with_at_same}
use Rattle.paraid_rack.proofs.TrailsLemmas.{now-extend}
use Rattle.paraid_record.specs.declared.meta.Meta.{Meta}
use Rattle.paraid_record.specs.declared.meta.Setup.{Setup}
use Rattle.paraid_base.specs.States.{gone_out}
use Rattle.paraid_image.specs.Calls.{disk_of, is_done}
use Rattle.paraid_image.specs.Lost.{BearsLoss, EndsByLoss, EndsBySecond, TellsLosses, fails_on, first_lost}
use Rattle.paraid_image.specs.Out.{first_absent, named_out, or_else}
use Rattle.paraid_image.proofs.FailedCallLemmas.{failed_is_loss}
use Rattle.paraid_image.proofs.LostLemmas.{absent_failed, fails_first, fails_split, first_fails, ran_beside, ran_says, ran_tells}
use Rattle.paraid_txn.specs.Losses.{IsOneOut, IsOnlyOut, IsOutOfCommit, TellsSecondLoss}
use Rattle.paraid_txn.specs.Losses.IsOutOfCommit.{is_absent, was_named, is_named}
use Rattle.paraid_txn.specs.Uses.{EachCall}
use Rattle.paraid_txn.proofs.MeansLemmas.{absent_power}
use Rattle.paraid_txn.proofs.WitnessLemmas.{same_calls}
use Rattle.paraid_recover.specs.MountCalls.{IsMountCall, OnlyMountCalls}
use Rattle.paraid_recover.specs.RecoveryMark.{with_mark}
use Rattle.paraid_recover.proofs.GoneLemmas.{out_marked}
use Rattle.paraid_recover.proofs.PowersLemmas.{out_found, out_is}
use Rattle.paraid_recover.proofs.ServableLemmas.{disks_marked, names_stay}

none_some : (x : ℕ) → None ≡ Some x → ⊥
none_some x e = cc

some_same : (a b : ℕ) → Some a ≡ Some b → a ≡ b
some_same a b e = cc

-- Who is out

pub only_same : (P Q : ℕ → Type 0) (only : Option ℕ) → ((e : ℕ) → P e → Q e) → ((e : ℕ) → Q e → P e) → IsOnlyOut P only → IsOnlyOut Q only
only_same P Q only there back it = record { one = λ e out. it.one e (back e out); is = λ e is. there e (it.is e is) }

-- told by other words
pub tells_same : (P Q : ℕ → Type 0) (old new : Option Trail) (two : Two) → ((e : ℕ) → P e → Q e) → ((e : ℕ) → Q e → P e) → TellsSecondLoss P old new two → TellsSecondLoss Q old new two
tells_same P Q old new two there back tells only it = tells only (only_same Q P only back there it)

-- one that is out is so beside another name
pub out_more : (power : ℕ → Power) (n : ℕ) (named more : Option ℕ) (d : ℕ) → IsOutOfCommit power n named None d → IsOutOfCommit power n named more d
out_more power n named more d (is_absent low gone) = is_absent low gone
out_more power n named more d (was_named is) = was_named is
out_more power n named more d (is_named is) = absurd (none_some d is)

-- fewer are out where fewer are named
out_fewer : (power : ℕ → Power) (n : ℕ) (named more : Option ℕ) → ((e : ℕ) → named ≡ Some e → more ≡ Some e) → (d : ℕ) → IsOutOfCommit power n named None d → IsOutOfCommit power n more None d
out_fewer power n named more fewer d (is_absent low gone) = is_absent low gone
out_fewer power n named more fewer d (was_named is) = was_named (fewer d is)
out_fewer power n named more fewer d (is_named is) = absurd (none_some d is)

pub one_fewer : (n : ℕ) (named more : Option ℕ) (slot : ℕ → Slot) → ((e : ℕ) → named ≡ Some e → more ≡ Some e) → IsOneOut n more slot → IsOneOut n named slot
one_fewer n named more slot fewer one d e first second = one d e (out_fewer (λ x. (slot x).power) n named more fewer d first) (out_fewer (λ x. (slot x).power) n named more fewer e second)

-- one at most is out, and it is the one that is named, or else the least absent one
module _ (n : ℕ) (named : Option ℕ) (slot : ℕ → Slot) where
  abbrev power : ℕ → Power
  power e = (slot e).power

  pub one_of : (only : Option ℕ) → IsOnlyOut (IsOutOfCommit power n named None) only → IsOneOut n named slot
  one_of only it d e first second = some_same d e (sym (it.one d first) ∙ it.one e second)

  pub only_is : (only : Option ℕ) → IsOnlyOut (IsOutOfCommit power n named None) only → or_else named (first_absent power n) ≡ only
  only_is only it = by (or_else named (first_absent power n)) refl
    where
      none : (o : Option ℕ) → only ≡ o → or_else named (first_absent power n) ≡ None → None ≡ only
      none None is out = sym is
      none (Some d) is out = let f = out_found power n named d (it.is d is) in absurd (none_some f.0 (sym out ∙ f.1))

      by : (o : Option ℕ) → or_else named (first_absent power n) ≡ o → or_else named (first_absent power n) ≡ only
      by None is = is ∙ none only refl is
      by (Some d) is = is ∙ sym (it.one d (out_is power n named d is))

  pub only_out : IsOneOut n named slot → IsOnlyOut (IsOutOfCommit power n named None) (or_else named (first_absent power n))
  only_out one = record {
    one = λ e out. let f = out_found power n named e out in f.1 ∙ ap (λ (k : ℕ). Some k) (one f.0 e (out_is power n named f.0 f.1) out);
    is = λ e is. out_is power n named e is;
  }

  -- so it is told of the one that the store takes to be out
  pub tells_out : (out : Option ℕ) (old new : Option Trail) (two : Two) → out ≡ or_else named (first_absent power n) → Ran old new (λ s cs. TellsLosses out two cs) → TellsSecondLoss (IsOutOfCommit power n named None) old new two
  tells_out out old new two is ran only it = subst (λ (o : Option ℕ). Ran old new (λ s cs. TellsLosses o two cs)) (is ∙ only_is only it) ran

-- Calls in which one disk at most is lost

-- a disk on which a call failed was there, and is absent
touched_there : (s : Disks) (e : ℕ) (done : Bool) (d : ℕ) → is_present (with_at s.power e (power_after done (s.power e)) d) ≡ true → is_present (s.power d) ≡ true
touched_there s e true d here = at_use (λ (p : Power). is_present p ≡ true) (is_present (s.power d) ≡ true) s.power e (s.power e) d
    (λ at there. subst (λ (x : ℕ). is_present (s.power x) ≡ true) (sym at) there) (λ other there. there) here
touched_there s e false d here = at_use (λ (p : Power). is_present p ≡ true) (is_present (s.power d) ≡ true) s.power e Absent d
    (λ at there. absurd (false≢true there)) (λ other there. there) here

there_before : (s : Disks) (c : Call) (d : ℕ) → IsTransfer c → is_present ((step c s).power d) ≡ true → is_present (s.power d) ≡ true
unfolding step
there_before s (Read e p done) d is here = touched_there s e done d here
there_before s (Write e p b done) d is here = touched_there s e done d here
there_before s (Sync e done) d is here = touched_there s e done d here
there_before s (Park e done) d is here = absurd is
there_before s (SpinUp e done) d is here = absurd is
there_before s (Attach e size done) d is here = absurd is

failed_off : (s : Disks) (c : Call) → is_done c ≡ false → is_present ((step c s).power (disk_of c)) ≡ false
failed_off s c failed = let l = failed_is_loss s c failed in ap is_present (l.power (disk_of c) ∙ with_at_same s.power (disk_of c) Absent (disk_of c) refl)

off_stays : (s : Disks) (cs : List Call) (d : ℕ) → EachCall IsTransfer s cs → is_present (s.power d) ≡ false → is_present ((run s cs).power d) ≡ false
off_stays s [] d each off = off
off_stays s (c ∷ cs) d each off = off_stays (step c s) cs d each.2 (by (is_present ((step c s).power d)) refl)
  where
    by : (b : Bool) → is_present ((step c s).power d) ≡ b → is_present ((step c s).power d) ≡ false
    by false is = is
    by true is = absurd (false≢true (sym off ∙ there_before s c d each.1 is))

failed_gone : (s : Disks) (cs : List Call) (e : ℕ) → EachCall IsTransfer s cs → fails_on e cs ≡ true → is_present ((run s cs).power e) ≡ false
failed_gone s [] e each failed = absurd (false≢true failed)
failed_gone s (c ∷ cs) e each failed = elim (fails_split c cs e failed) [
  | inl here ↦ off_stays (step c s) cs e each.2 (subst (λ (x : ℕ). is_present ((step c s).power x) ≡ false) here.1 (failed_off s c here.0))
  | inr later ↦ failed_gone (step c s) cs e each.2 later
]

failed_low : (n : ℕ) (gone : Option ℕ) (s : Disks) (cs : List Call) (e : ℕ) → EachCall (IsMountCall n gone) s cs → fails_on e cs ≡ true → e < n
failed_low n skip s [] e each failed = absurd (false≢true failed)
failed_low n skip s (c ∷ cs) e each failed = elim (fails_split c cs e failed) [
  | inl here ↦ subst (λ (x : ℕ). x < n) here.1 each.1.disk
  | inr later ↦ failed_low n skip (step c s) cs e each.2 later
]

-- Where one disk at most is out after some calls: each that was out or has failed is so, and no other one.
module _ (P Q : ℕ → Type 0) (was then : Option ℕ) (cs : List Call) (before : IsOnlyOut P was) (after : IsOnlyOut Q then)
    (stays : (d : ℕ) → P d → Q d) (fails : (d : ℕ) → fails_on d cs ≡ true → Q d) (since : (d : ℕ) → Q d → P d ⊎ (fails_on d cs ≡ true)) where
  unhurt : (o : Option ℕ) → then ≡ o → was ≡ None → first_lost cs ≡ None → None ≡ then
  unhurt None is none first = sym is
  unhurt (Some d) is none first = elim (since d (after.is d is)) [
    | inl out ↦ absurd (none_some d (sym none ∙ before.one d out))
    | inr failed ↦ let x = fails_first cs d failed in absurd (none_some x.0 (sym first ∙ x.1))
  ]

  first_is : (o : Option ℕ) → first_lost cs ≡ o → was ≡ None → first_lost cs ≡ then
  first_is None is none = is ∙ unhurt then refl none is
  first_is (Some d) is none = is ∙ sym (after.one d (fails d (first_fails cs d is)))

  bears_by : BearsLoss was then cs
  bears_by = record {
    first = first_is (first_lost cs) refl;
    stays = λ d is. after.one d (stays d (before.is d is));
    only = λ d failed. after.one d (fails d failed);
  }

-- Reads, writes and syncs of the disks of an array, after which one disk at most is out by the same meta.
module _ (m : Meta) (a b : ℕ → Slot) (old new : Option Trail) (agrees : (t : Trail) → old ≡ Some t → Agrees (now t) a) (agrees_then : (t : Trail) → new ≡ Some t → Agrees (now t) b)
    (still : Ran old new (EachCall IsTransfer)) (allowed : OnlyMountCalls m old new) (one : IsOneOut m.setup.geometry.disks (named_out m.out) a → IsOneOut m.setup.geometry.disks (named_out m.out) b) where
  abbrev n : ℕ
  n = m.setup.geometry.disks

  abbrev P : ℕ → Type 0
  P = IsOutOfCommit (λ e. (a e).power) n (named_out m.out) None

  abbrev Q : ℕ → Type 0
  Q = IsOutOfCommit (λ e. (b e).power) n (named_out m.out) None

  abbrev then : Option ℕ
  then = or_else (named_out m.out) (first_absent (λ e. (b e).power) n)

  only_then : (was : Option ℕ) → IsOnlyOut P was → IsOnlyOut Q then
  only_then was before = only_out n (named_out m.out) b (one (one_of n (named_out m.out) a was before))

  module _ (s : Disks) (cs : List Call) (at : (d : ℕ) → s.power d ≡ (a d).power) (at_then : (d : ℕ) → (run s cs).power d ≡ (b d).power) (each : EachCall IsTransfer s cs) (low : EachCall (IsMountCall n (gone_out m.out)) s cs) where
    stays : (d : ℕ) → P d → Q d
    stays d (is_absent below gone) = is_absent below (absent_power (b d).power (ap is_present (sym (at_then d)) ∙ off_stays s cs d each (ap is_present (at d ∙ gone))))
    stays d (was_named is) = was_named is
    stays d (is_named is) = is_named is

    fails : (d : ℕ) → fails_on d cs ≡ true → Q d
    fails d failed = is_absent (failed_low n (gone_out m.out) s cs d low failed) (absent_power (b d).power (ap is_present (sym (at_then d)) ∙ failed_gone s cs d each failed))

    since : (d : ℕ) → Q d → P d ⊎ (fails_on d cs ≡ true)
    since d (is_absent below gone) = elim (absent_failed s cs d (ap is_present (at_then d ∙ gone))) [
      | inl before ↦ inl (is_absent below (absent_power (a d).power (ap is_present (sym (at d)) ∙ before)))
      | inr failed ↦ inr failed
    ]
    since d (was_named is) = inl (was_named is)
    since d (is_named is) = inl (is_named is)

    part_bears : (was : Option ℕ) → IsOnlyOut P was → BearsLoss was then cs
    part_bears was before = bears_by P Q was then cs before (only_then was before) stays fails since

  pub still_bears : (was : Option ℕ) → IsOnlyOut P was → Ran old new (λ s cs. BearsLoss was then cs)
  still_bears was before t tells =
      let r = still t tells in
      record {
        from = r.from;
        was = r.was;
        calls = r.calls;
        is = r.is;
        holds = part_bears (now r.from) r.calls (λ d. (agrees r.from r.was).power d)
            (λ d. ap (λ (x : Disks). x.power d) (sym (ap now r.is ∙ now-extend r.from r.calls)) ∙ (agrees_then t tells).power d) r.holds
            (same_calls (IsMountCall n (gone_out m.out)) old new allowed t tells r.from r.calls r.was r.is) was before;
      }

  -- and then two are lost
  pub still_tells : (last : Option Trail) (two : Two) → TellsSecondLoss Q new last two → TellsSecondLoss P old last two
  still_tells last two tells was before =
      ran_tells was then two old new last (still_bears was before) (tells then (only_then was before))

-- The second is lost

-- one that fails by itself, while another is out
pub tells_second : (out : ℕ → Type 0) (old new : Option Trail) (two : Two) → out two.first → two.first ≢ two.second → Ran old new (λ s cs. EndsByLoss (Some two.second) cs) → TellsSecondLoss out old new two
tells_second out old new two first apart ran only it = ran_beside only two old new (it.one two.first first) apart ran

-- one that fails once a disk is marked
pub tells_marked : (m standing : Meta) (mark : Option ℕ) (slot : ℕ → Slot) (out : Option ℕ) (old new : Option Trail) (two : Two) → standing ≡ with_mark m mark
    → ((d : ℕ) → mark ≡ Some d → (is_present (slot d).power ≡ false) × (d < m.setup.geometry.disks)) → ((d : ℕ) → mark ≡ Some d → (e : ℕ) → named_out m.out ≡ Some e → e ≡ d)
    → out ≡ or_else (named_out standing.out) (first_absent (λ e. (slot e).power) standing.setup.geometry.disks)
    → Ran old new (λ s cs. TellsLosses out two cs) → TellsSecondLoss (IsOutOfCommit (λ e. (slot e).power) m.setup.geometry.disks (named_out m.out) None) old new two
tells_marked m standing mark slot out old new two is gone names store ran =
    tells_same (IsOutOfCommit power n more None) (IsOutOfCommit power n (named_out m.out) None) old new two
    (λ d other. out_marked m mark power gone d (subst (λ (o : Option ℕ). IsOutOfCommit power n o None d) (ap (λ (x : Meta). named_out x.out) is) other))
    (out_fewer power n (named_out m.out) more (λ e name. ap (λ (x : Meta). named_out x.out) is ∙ names_stay m mark names e name))
    (tells_out n more slot out old new two (store ∙ ap (λ (k : ℕ). or_else more (first_absent power k)) same) ran)
  where
    n : ℕ
    n = m.setup.geometry.disks

    more : Option ℕ
    more = named_out standing.out

    power : ℕ → Power
    power e = (slot e).power

    same : standing.setup.geometry.disks ≡ n
    same = ap (λ (x : Meta). x.setup.geometry.disks) is ∙ ap (λ (x : Setup). x.geometry.disks) (disks_marked m mark)

-- no call follows it
pub tells_end : (n : ℕ) (named : Option ℕ) (slot : ℕ → Slot) (old new : Option Trail) (two : Two) → IsOneOut n named slot → TellsSecondLoss (IsOutOfCommit (λ e. (slot e).power) n named None) old new two
    → Ran old new (λ s cs. EndsBySecond two cs)
tells_end n named slot old new two one tells =
    let only = or_else named (first_absent (λ e. (slot e).power) n) in
    ran_says (TellsLosses only two) (EndsBySecond two) (λ cs t. t.ends) old new (tells only (only_out n named slot one))
