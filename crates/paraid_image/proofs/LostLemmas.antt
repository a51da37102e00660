-- Which disk failed first in some calls, and then in others.
use Rattle.std.proofs.Common.{◌≡◌, ◌≢◌, ℕ, ◌⊎◌, Bool, true, false, List, [], ◌∷◌, ◌++◌, Option, Some, None, refl, sym, ap, ◌∙◌, inl, inr, subst, arith, append_assoc, if◌then◌else◌}
use Rattle.std.specs.Prelude.{◌==◌}
use Rattle.std.proofs.lemmas.Bool.{false≢true}
use Rattle.std.proofs.lemmas.Bool.Decides.{nat_tests}
use Rattle.paraid_base.specs.declared.fault.Two.{Two}
use Rattle.paraid_rack.specs.declared.call.Call.{Call}
use Rattle.paraid_rack.specs.declared.call.Call.TheVariants.{Read, Write, Sync, Park, SpinUp, Attach}
use Rattle.paraid_rack.specs.declared.call.Power.{Power}
use Rattle.paraid_rack.specs.declared.call.Power.TheVariants.{Spinning, Parked, Absent}
use Rattle.paraid_rack.specs.Disks.{Disks, is_present, power_after, step, with_at}
use Rattle.paraid_rack.specs.Told.{Ran}
use Rattle.paraid_rack.specs.Trail.{Trail, extend, run}
use Rattle.paraid_rack.proofs.AtomsLemmas.{at_use}
use Rattle.paraid_rack.proofs.TrailsLemmas.{extend-extend}
use Rattle.paraid_image.specs.Calls.{disk_of, is_done}
use Rattle.paraid_image.specs.Lost.{BearsLoss, EndsByFailure, EndsByLoss, EndsBySecond, EndsFailing, TellsLosses, fails_on, first_lost}

some_same : (a b : ℕ) → Some a ≡ Some b → b ≡ a
some_same a b e = cc

none_some : (x : ℕ) → None ≡ Some x → ⊥
none_some x e = cc

same_if : (d f : ℕ) → (d == f) ≡ true → d ≡ f
same_if d f e = grind (arith, nat_tests)

-- one call on one disk, which is left with this power where the call is done
touched_absent : (s : Disks) (e : ℕ) (done : Bool) (left : Power) (d : ℕ) → (is_present left ≡ false → is_present (s.power e) ≡ false)
    → is_present (with_at s.power e (power_after done left) d) ≡ false → (is_present (s.power d) ≡ false) ⊎ ((done ≡ false) × (d ≡ e))
touched_absent s e true left d was absent = at_use (λ (p : Power). is_present p ≡ false) ((is_present (s.power d) ≡ false) ⊎ ((true ≡ false) × (d ≡ e))) s.power e left d
    (λ here gone. inl (subst (λ (x : ℕ). is_present (s.power x) ≡ false) (sym here) (was gone))) (λ there gone. inl gone) absent
touched_absent s e false left d was absent = at_use (λ (p : Power). is_present p ≡ false) ((is_present (s.power d) ≡ false) ⊎ ((false ≡ false) × (d ≡ e))) s.power e Absent d
    (λ here gone. inr (refl, here)) (λ there gone. inl gone) absent

-- a disk that is absent after a call was so before, or the call on it has failed
pub absent_before : (s : Disks) (c : Call) (d : ℕ) → is_present ((step c s).power d) ≡ false → (is_present (s.power d) ≡ false) ⊎ ((is_done c ≡ false) × (d ≡ disk_of c))
unfolding step
absent_before s (Read e p done) d gone = touched_absent s e done (s.power e) d (λ g. g) gone
absent_before s (Write e p b done) d gone = touched_absent s e done (s.power e) d (λ g. g) gone
absent_before s (Sync e done) d gone = touched_absent s e done (s.power e) d (λ g. g) gone
absent_before s (Park e done) d gone = touched_absent s e done Parked d (λ g. absurd (false≢true (sym g))) gone
absent_before s (SpinUp e done) d gone = touched_absent s e done Spinning d (λ g. absurd (false≢true (sym g))) gone
absent_before s (Attach e size done) d gone = touched_absent s e done Spinning d (λ g. absurd (false≢true (sym g))) gone

-- the call itself failed on the disk, or a later one
pub fails_split : (c : Call) (cs : List Call) (e : ℕ) → fails_on e (c ∷ cs) ≡ true → ((is_done c ≡ false) × (disk_of c ≡ e)) ⊎ (fails_on e cs ≡ true)
fails_split c cs e is = by (is_done c) (disk_of c == e) refl refl is
  where
    by : (done same : Bool) → is_done c ≡ done → (disk_of c == e) ≡ same → (if done then fails_on e cs else (if same then true else fails_on e cs)) ≡ true → ((is_done c ≡ false) × (disk_of c ≡ e)) ⊎ (fails_on e cs ≡ true)
    by true same d t f = inr f
    by false true d t f = inl (d, same_if (disk_of c) e t)
    by false false d t f = inr f

pub fails_head : (c : Call) (cs : List Call) → is_done c ≡ false → fails_on (disk_of c) (c ∷ cs) ≡ true
fails_head c cs failed = rw failed (self (disk_of c))
  where
    self : (d : ℕ) → (if d == d then true else fails_on d cs) ≡ true
    self d = grind (arith, nat_tests)

pub fails_tail : (c : Call) (cs : List Call) (e : ℕ) → fails_on e cs ≡ true → fails_on e (c ∷ cs) ≡ true
fails_tail c cs e is = by (is_done c)
  where
    inner : (b : Bool) → (if b then true else fails_on e cs) ≡ true
    inner true = refl
    inner false = is

    by : (b : Bool) → (if b then fails_on e cs else (if disk_of c == e then true else fails_on e cs)) ≡ true
    by true = is
    by false = inner (disk_of c == e)

-- a disk that is absent after some calls was so before, or one of the calls on it has failed
pub absent_failed : (s : Disks) (cs : List Call) (d : ℕ) → is_present ((run s cs).power d) ≡ false → (is_present (s.power d) ≡ false) ⊎ (fails_on d cs ≡ true)
absent_failed s [] d gone = inl gone
absent_failed s (c ∷ cs) d gone = elim (absent_failed (step c s) cs d gone) [
  | inl here ↦ elim (absent_before s c d here) [
    | inl before ↦ inl before
    | inr failed ↦ inr (subst (λ (x : ℕ). fails_on x (c ∷ cs) ≡ true) (sym failed.1) (fails_head c cs failed.0))
  ]
  | inr later ↦ inr (fails_tail c cs d later)
]

first_of : (done : Bool) (e d : ℕ) (later : Bool) (first : Option ℕ) → (if done then later else (if e == d then true else later)) ≡ true → (later ≡ true → (x : ℕ) × (first ≡ Some x))
    → (x : ℕ) × ((if done then first else Some e) ≡ Some x)
first_of true e d later first is more = more is
first_of false e d later first is more = (e, refl)

-- where a call has failed there is a first one
pub fails_first : (cs : List Call) (d : ℕ) → fails_on d cs ≡ true → (x : ℕ) × (first_lost cs ≡ Some x)
fails_first [] d is = absurd (false≢true is)
fails_first (c ∷ cs) d is = first_of (is_done c) (disk_of c) d (fails_on d cs) (first_lost cs) is (fails_first cs d)

-- and that one has failed
pub first_fails : (cs : List Call) (x : ℕ) → first_lost cs ≡ Some x → fails_on x cs ≡ true
first_fails [] x is = absurd (none_some x is)
first_fails (c ∷ cs) x is = by (is_done c) refl is (first_fails cs x)
  where
    by : (done : Bool) → is_done c ≡ done → (if done then first_lost cs else Some (disk_of c)) ≡ Some x → (first_lost cs ≡ Some x → fails_on x cs ≡ true) → fails_on x (c ∷ cs) ≡ true
    by true d first later = fails_tail c cs x (later first)
    by false d first later = subst (λ (y : ℕ). fails_on y (c ∷ cs) ≡ true) (sym (some_same (disk_of c) x first)) (fails_head c cs d)

-- Where just one disk has failed in some calls, it is the first one.
pub only_lost : (cs : List Call) (d : ℕ) → fails_on d cs ≡ true → ((e : ℕ) → fails_on e cs ≡ true → e ≡ d) → first_lost cs ≡ Some d
only_lost cs d is alone = let x = fails_first cs d is in x.1 ∙ ap (λ (k : ℕ). Some k) (alone x.0 (first_fails cs x.0 x.1))

-- where none has failed first, none has failed
none_fails : (cs : List Call) (d : ℕ) → first_lost cs ≡ None → fails_on d cs ≡ true → ⊥
none_fails cs d none is = let x = fails_first cs d is in none_some x.0 (sym none ∙ x.1)

-- a single call fails on its own disk
one_fails : (c : Call) (d : ℕ) → fails_on d (c ∷ []) ≡ true → disk_of c ≡ d
one_fails c d is = elim (fails_split c [] d is) [
  | inl here ↦ here.1
  | inr later ↦ absurd (false≢true later)
]

-- One call and then others

pub fails_earlier : (cs ds : List Call) (e : ℕ) → fails_on e cs ≡ true → fails_on e (cs ++ ds) ≡ true
fails_earlier [] ds e is = absurd (false≢true is)
fails_earlier (c ∷ cs) ds e is = elim (fails_split c cs e is) [
  | inl here ↦ subst (λ (x : ℕ). fails_on x (c ∷ (cs ++ ds)) ≡ true) here.1 (fails_head c (cs ++ ds) here.0)
  | inr later ↦ fails_tail c (cs ++ ds) e (fails_earlier cs ds e later)
]

pub fails_later : (cs ds : List Call) (e : ℕ) → fails_on e ds ≡ true → fails_on e (cs ++ ds) ≡ true
fails_later [] ds e is = is
fails_later (c ∷ cs) ds e is = fails_tail c (cs ++ ds) e (fails_later cs ds e is)

pub fails_append : (cs ds : List Call) (e : ℕ) → fails_on e (cs ++ ds) ≡ true → (fails_on e cs ≡ true) ⊎ (fails_on e ds ≡ true)
fails_append [] ds e is = inr is
fails_append (c ∷ cs) ds e is = elim (fails_split c (cs ++ ds) e is) [
  | inl here ↦ inl (subst (λ (x : ℕ). fails_on x (c ∷ cs) ≡ true) here.1 (fails_head c cs here.0))
  | inr later ↦ elim (fails_append cs ds e later) [
    | inl first ↦ inl (fails_tail c cs e first)
    | inr second ↦ inr second
  ]
]

pub first_earlier : (cs ds : List Call) (e : ℕ) → first_lost cs ≡ Some e → first_lost (cs ++ ds) ≡ Some e
first_earlier [] ds e is = absurd (none_some e is)
first_earlier (c ∷ cs) ds e is = by (is_done c) is (λ z. first_earlier cs ds e z)
  where
    by : (t : Bool) → (if t then first_lost cs else Some (disk_of c)) ≡ Some e → (first_lost cs ≡ Some e → first_lost (cs ++ ds) ≡ Some e) → (if t then first_lost (cs ++ ds) else Some (disk_of c)) ≡ Some e
    by true z f = f z
    by false z f = z

pub first_later : (cs ds : List Call) → first_lost cs ≡ None → first_lost (cs ++ ds) ≡ first_lost ds
first_later [] ds none = refl
first_later (c ∷ cs) ds none = by (is_done c) none (λ z. first_later cs ds z)
  where
    by : (t : Bool) → (if t then first_lost cs else Some (disk_of c)) ≡ None → (first_lost cs ≡ None → first_lost (cs ++ ds) ≡ first_lost ds) → (if t then first_lost (cs ++ ds) else Some (disk_of c)) ≡ first_lost ds
    by true z f = f z
    by false z f = absurd (none_some (disk_of c) (sym z))

-- Calls that end by the one that failed on this disk

-- others may come before
failing_later : (d : ℕ) (cs before ds : List Call) → EndsFailing d before ds → EndsFailing d (cs ++ before) (cs ++ ds)
failing_later d cs before ds e = record {
  last = e.last;
  is = ap (λ (l : List Call). cs ++ l) e.is ∙ sym (append_assoc cs before (e.last ∷ []));
  failed = e.failed;
  on = e.on;
}

-- that disk has failed
pub failing_fails : (d : ℕ) (before cs : List Call) → EndsFailing d before cs → fails_on d cs ≡ true
failing_fails d before cs e = ap (fails_on d) e.is
    ∙ fails_later before (e.last ∷ []) d (subst (λ (x : ℕ). fails_on x (e.last ∷ []) ≡ true) e.on (fails_head e.last [] e.failed))

ending_first : (d : ℕ) (cs : List Call) → EndsByFailure d cs → first_lost cs ≡ Some d
ending_first d cs e = ap first_lost e.ends.is ∙ first_later e.before (e.ends.last ∷ []) e.none ∙ (rw e.ends.failed (ap (λ (k : ℕ). Some k) e.ends.on))

ending_only : (d : ℕ) (cs : List Call) → EndsByFailure d cs → (x : ℕ) → fails_on x cs ≡ true → x ≡ d
ending_only d cs e x is = elim (fails_append e.before (e.ends.last ∷ []) x (sym (ap (fails_on x) e.ends.is) ∙ is)) [
  | inl early ↦ absurd (none_fails e.before x e.none early)
  | inr last ↦ sym (one_fails e.ends.last x last) ∙ e.ends.on
]

-- the first disk that failed in calls that end by that
loss_first : (lost : Option ℕ) (cs : List Call) → EndsByLoss lost cs → first_lost cs ≡ lost
loss_first None cs e = e
loss_first (Some d) cs e = ending_first d cs e

-- no other one failed
loss_only : (lost : Option ℕ) (cs : List Call) → EndsByLoss lost cs → (x : ℕ) → fails_on x cs ≡ true → lost ≡ Some x
loss_only None cs e x is = absurd (none_fails cs x e is)
loss_only (Some d) cs e x is = ap (λ (k : ℕ). Some k) (sym (ending_only d cs e x is))

failure_later : (d : ℕ) (cs ds : List Call) → first_lost cs ≡ None → EndsByFailure d ds → EndsByFailure d (cs ++ ds)
failure_later d cs ds none e = record { before = cs ++ e.before; ends = failing_later d cs e.before ds e.ends; none = first_later cs e.before none ∙ e.none }

-- calls of which none failed may come before
loss_later : (lost : Option ℕ) (cs ds : List Call) → first_lost cs ≡ None → EndsByLoss lost ds → EndsByLoss lost (cs ++ ds)
loss_later None cs ds none e = first_later cs ds none ∙ e
loss_later (Some d) cs ds none e = failure_later d cs ds none e

-- one call
pub loss_failed : (d : ℕ) (c : Call) → is_done c ≡ false → disk_of c ≡ d → EndsByFailure d (c ∷ [])
loss_failed d c failed on = record { before = []; ends = record { last = c; is = refl; failed = failed; on = on }; none = refl }

-- Before calls that end by the failure of the second disk others may come in which none failed but the first.
pub ends_later : (two : Two) (cs ds : List Call) → ((d : ℕ) → fails_on d cs ≡ true → d ≡ two.first) → EndsBySecond two ds → EndsBySecond two (cs ++ ds)
ends_later two cs ds first e = record {
  before = cs ++ e.before;
  ends = failing_later two.second cs e.before ds e.ends;
  alone = λ d is. elim (fails_append cs e.before d is) [
    | inl early ↦ first d early
    | inr later ↦ e.alone d later
  ];
}

-- the disk that failed last is the second
second_ends : (two : Two) (cs : List Call) → EndsByFailure two.second cs → EndsBySecond two cs
second_ends two cs e = record { before = e.before; ends = e.ends; alone = λ d is. absurd (none_fails e.before d e.none is) }

-- One part and then another

bears_by : (was mid now : Option ℕ) (cs ds : List Call) → BearsLoss was mid cs → BearsLoss mid now ds → (o : Option ℕ) → mid ≡ o → was ≡ None → first_lost (cs ++ ds) ≡ now
bears_by was mid now cs ds a b None is none = first_later cs ds (a.first none ∙ is) ∙ b.first is
bears_by was mid now cs ds a b (Some x) is none = first_earlier cs ds x (a.first none ∙ is) ∙ sym (b.stays x is)

pub bears_then : (was mid now : Option ℕ) (cs ds : List Call) → BearsLoss was mid cs → BearsLoss mid now ds → BearsLoss was now (cs ++ ds)
bears_then was mid now cs ds a b = record {
  first = bears_by was mid now cs ds a b mid refl;
  stays = λ d is. b.stays d (a.stays d is);
  only = λ d is. elim (fails_append cs ds d is) [
    | inl early ↦ b.stays d (a.only d early)
    | inr later ↦ b.only d later
  ];
}

told_by : (was mid : Option ℕ) (two : Two) (cs ds : List Call) → BearsLoss was mid cs → (mid ≡ Some two.first) ⊎ ((mid ≡ None) × (first_lost ds ≡ Some two.first)) → (o : Option ℕ) → was ≡ o
    → (was ≡ Some two.first) ⊎ ((was ≡ None) × (first_lost (cs ++ ds) ≡ Some two.first))
told_by was mid two cs ds a (inl named) None is = inr (is, first_earlier cs ds two.first (a.first is ∙ named))
told_by was mid two cs ds a (inl named) (Some x) is = inl (is ∙ sym (a.stays x is) ∙ named)
told_by was mid two cs ds a (inr none) None is = inr (is, first_later cs ds (a.first is ∙ none.0) ∙ none.1)
told_by was mid two cs ds a (inr none) (Some x) is = absurd (none_some x (sym none.0 ∙ a.stays x is))

-- the one that has failed by then is the first
first_by : (mid : Option ℕ) (x : ℕ) (d : ℕ) {P : Type 0} → mid ≡ Some d → (mid ≡ Some x) ⊎ ((mid ≡ None) × P) → d ≡ x
first_by mid x d is (inl named) = some_same x d (sym named ∙ is)
first_by mid x d is (inr none) = absurd (none_some d (sym none.0 ∙ is))

-- two disks are lost in the second part
pub tells_then : (was mid : Option ℕ) (two : Two) (cs ds : List Call) → BearsLoss was mid cs → TellsLosses mid two ds → TellsLosses was two (cs ++ ds)
tells_then was mid two cs ds a b = record {
  apart = b.apart;
  first = told_by was mid two cs ds a b.first was refl;
  ends = ends_later two cs ds (λ d is. first_by mid two.first d (a.only d is) b.first) b.ends;
}

-- no call
pub bears_none : (out : Option ℕ) → BearsLoss out out []
bears_none out = record { first = λ none. sym none; stays = λ d is. is; only = λ d is. absurd (false≢true is) }

-- calls of which none failed
pub bears_unhurt : (out : Option ℕ) (cs : List Call) → first_lost cs ≡ None → BearsLoss out out cs
bears_unhurt out cs none = record { first = λ is. none ∙ sym is; stays = λ d is. is; only = λ d is. absurd (none_fails cs d none is) }

-- calls that end by the first failure
pub bears_ending : (lost : Option ℕ) (cs : List Call) → EndsByLoss lost cs → BearsLoss None lost cs
bears_ending lost cs e = record { first = λ is. loss_first lost cs e; stays = λ d is. absurd (none_some d is); only = λ d is. loss_only lost cs e d is }

-- one call that is done
pub bears_done : (out : Option ℕ) (c : Call) → is_done c ≡ true → BearsLoss out out (c ∷ [])
bears_done out c done = bears_unhurt out (c ∷ []) (rw done refl)

-- one that fails, which is borne where no other disk was out
pub bears_failed : (was now : Option ℕ) (c : Call) → is_done c ≡ false → now ≡ Some (disk_of c) → ((x : ℕ) → was ≡ Some x → x ≡ disk_of c) → BearsLoss was now (c ∷ [])
bears_failed was now c failed is alone = record {
  first = λ none. rw failed (sym is);
  stays = λ d out. is ∙ ap (λ (k : ℕ). Some k) (sym (alone d out));
  only = λ d fails. is ∙ ap (λ (k : ℕ). Some k) (one_fails c d fails);
}

-- and else it is the second
pub tells_failed : (out : Option ℕ) (two : Two) (c : Call) → is_done c ≡ false → out ≡ Some two.first → two.first ≢ two.second → two.second ≡ disk_of c → TellsLosses out two (c ∷ [])
tells_failed out two c failed is apart here = record {
  apart = apart;
  first = inl is;
  ends = second_ends two (c ∷ []) (loss_failed two.second c failed (sym here));
}

-- calls that end by a failure, where another disk was out
pub tells_first : (out : Option ℕ) (two : Two) (cs : List Call) → out ≡ Some two.first → two.first ≢ two.second → EndsByLoss (Some two.second) cs → TellsLosses out two cs
tells_first out two cs is apart e = record { apart = apart; first = inl is; ends = second_ends two cs e }

-- one fails, and then another
pub tells_both : (two : Two) (cs ds : List Call) → two.first ≢ two.second → EndsByLoss (Some two.first) cs → EndsByLoss (Some two.second) ds → TellsLosses None two (cs ++ ds)
tells_both two cs ds apart first second = record {
  apart = apart;
  first = inr (refl, first_earlier cs ds two.first (ending_first two.first cs first));
  ends = ends_later two cs ds (λ d is. ending_only two.first cs first d is) (second_ends two ds second);
}

-- What is told of the calls of two parts, by what is told of each

pub ran_parts : (P Q S : List Call → Type 0) → ((cs ds : List Call) → P cs → Q ds → S (cs ++ ds)) → (old mid new : Option Trail) → Ran old mid (λ s cs. P cs) → Ran mid new (λ s cs. Q cs) → Ran old new (λ s cs. S cs)
ran_parts P Q S both old mid new first second t tells =
    let later = second t tells in
    let before = first later.from later.was in
    record {
      from = before.from;
      was = before.was;
      calls = before.calls ++ later.calls;
      is = later.is ∙ ap (λ (r : Trail). extend r later.calls) before.is ∙ extend-extend before.from before.calls later.calls;
      holds = both before.calls later.calls before.holds later.holds;
    }

pub ran_says : (P Q : List Call → Type 0) → ((cs : List Call) → P cs → Q cs) → (old new : Option Trail) → Ran old new (λ s cs. P cs) → Ran old new (λ s cs. Q cs)
ran_says P Q more old new ran t tells =
    let r = ran t tells in
    record { from = r.from; was = r.was; calls = r.calls; is = r.is; holds = more r.calls r.holds }

-- some calls of which none failed, and then others
pub ran_ends : (lost : Option ℕ) (old between new : Option Trail) → Ran old between (λ s cs. first_lost cs ≡ None) → Ran between new (λ s cs. EndsByLoss lost cs) → Ran old new (λ s cs. EndsByLoss lost cs)
ran_ends lost old between new first second = ran_parts (λ cs. first_lost cs ≡ None) (EndsByLoss lost) (EndsByLoss lost) (λ cs ds a b. loss_later lost cs ds a b) old between new first second

-- the disk that failed last is the second one that is lost
pub ran_beside : (out : Option ℕ) (two : Two) (old new : Option Trail) → out ≡ Some two.first → two.first ≢ two.second → Ran old new (λ s cs. EndsByLoss (Some two.second) cs) → Ran old new (λ s cs. TellsLosses out two cs)
ran_beside out two old new is apart ran = ran_says (EndsByLoss (Some two.second)) (TellsLosses out two) (λ cs e. tells_first out two cs is apart e) old new ran

-- two disks are lost in the second part
pub ran_tells : (was mid : Option ℕ) (two : Two) (old between new : Option Trail) → Ran old between (λ s cs. BearsLoss was mid cs) → Ran between new (λ s cs. TellsLosses mid two cs) → Ran old new (λ s cs. TellsLosses was two cs)
ran_tells was mid two old between new first second = ran_parts (BearsLoss was mid) (TellsLosses mid two) (TellsLosses was two) (λ cs ds a b. tells_then was mid two cs ds a b) old between new first second

-- one at most in two parts
pub ran_bears : (was mid now : Option ℕ) (old between new : Option Trail) → Ran old between (λ s cs. BearsLoss was mid cs) → Ran between new (λ s cs. BearsLoss mid now cs) → Ran old new (λ s cs. BearsLoss was now cs)
ran_bears was mid now old between new first second = ran_parts (BearsLoss was mid) (BearsLoss mid now) (BearsLoss was now) (λ cs ds a b. bears_then was mid now cs ds a b) old between new first second
