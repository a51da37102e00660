-- The disks whose calls failed, and what holds of a first part of some calls.
use Rattle.std.proofs.Common.{◌≡◌, ℕ, ◌<◌, ◌⊎◌, Bool, true, false, List, [], ◌∷◌, ◌++◌, Option, Some, None, refl, sym, ap, ◌∙◌, inl, inr, subst, arith, if◌then◌else◌, zero, suc, take, length}
use Rattle.std.specs.Prelude.{◌==◌}
use Rattle.std.proofs.lemmas.Bool.{false≢true}
use Rattle.std.proofs.lemmas.Bool.Decides.{nat_tests}
use Rattle.std.proofs.lemmas.List.{take-append-le, take_all}
use Rattle.paraid_base.specs.declared.state.Out.{Out}
use Rattle.paraid_base.specs.declared.state.Out.TheVariants.{No, Gone, Fresh}
use Rattle.paraid_rack.specs.declared.call.Call.{Call}
use Rattle.paraid_rack.specs.declared.call.Power.{Power}
use Rattle.paraid_rack.specs.declared.call.Power.TheVariants.{Absent}
use Rattle.paraid_rack.specs.Disks.{Disks, is_present, step}
use Rattle.paraid_rack.specs.Trail.{run}
use Rattle.paraid_rack.proofs.AtomsLemmas.{with_at_same}
use Rattle.paraid_record.specs.declared.meta.Meta.{Meta}
use Rattle.paraid_image.specs.Calls.{disk_of, is_done}
use Rattle.paraid_image.proofs.FailedCallLemmas.{failed_is_loss}
use Rattle.paraid_recover.specs.MountCalls.{IsMountCall}
use Rattle.paraid_recover.specs.RecoveryMark.{to_mark, to_mark_by}
use Rattle.paraid_session.specs.Watch.{IsAmongDown, Watch, fails_on, first_lost, watch, watch_all}
use Rattle.paraid_recover.proofs.BeginsLemmas.{first_absent_by, stays_absent}
use Rattle.paraid_recover.proofs.DownLemmas.{in_after, in_stays}
use Rattle.paraid_txn.specs.Uses.{EachCall}

same_if : (d e : ℕ) → (e == d) ≡ true → d ≡ e
same_if d e is = grind (arith, nat_tests)

if_same : (d e : ℕ) → d ≡ e → (e == d) ≡ true
if_same d e is = grind (arith, nat_tests)

fails_is : (done : Bool) (e d : ℕ) (later : Bool) → (if done then later else (if e == d then true else later)) ≡ true → ((done ≡ false) × (d ≡ e)) ⊎ (later ≡ true)
fails_is true e d later is = inr is
fails_is false e d later is = split (e == d) refl is
  where
    split : (b : Bool) → (e == d) ≡ b → (if b then true else later) ≡ true → ((false ≡ false) × (d ≡ e)) ⊎ (later ≡ true)
    split true here at = inl (refl, same_if d e here)
    split false apart at = inr at

fails_to : (done : Bool) (e d : ℕ) (later : Bool) → ((done ≡ false) × (d ≡ e)) ⊎ (later ≡ true) → (if done then later else (if e == d then true else later)) ≡ true
fails_to true e d later is = elim is [ inl here ↦ absurd (false≢true (sym here.0)) | inr after ↦ after ]
fails_to false e d later is = elim is [
  | inl here ↦ ap (λ (b : Bool). if b then true else later) (if_same d e here.1)
  | inr after ↦ by (e == d) after
]
  where
    by : (b : Bool) → later ≡ true → (if b then true else later) ≡ true
    by true at = refl
    by false at = at

-- a disk that failed in some calls is down
pub fails_in : (w : Watch) (cs : List Call) (d : ℕ) → fails_on d cs ≡ true → IsAmongDown (watch_all cs w).down d
fails_in w [] d is = absurd (false≢true is)
fails_in w (c ∷ cs) d is = elim (fails_is (is_done c) (disk_of c) d (fails_on d cs) is) [
  | inl here ↦ in_stays (watch c w) cs d (in_after w c d (inr here))
  | inr later ↦ fails_in (watch c w) cs d later
]

-- it is one of the array
pub fails_low : (s : Disks) (cs : List Call) (n : ℕ) (skip : Option ℕ) (d : ℕ) → EachCall (IsMountCall n skip) s cs → fails_on d cs ≡ true → d < n
fails_low s [] n skip d each is = absurd (false≢true is)
fails_low s (c ∷ cs) n skip d each is = elim (fails_is (is_done c) (disk_of c) d (fails_on d cs) is) [
  | inl here ↦ subst (λ (k : ℕ). k < n) (sym here.1) each.1.disk
  | inr later ↦ fails_low (step c s) cs n skip d each.2 later
]

-- and is absent from then on
pub fails_absent : (s : Disks) (cs : List Call) (n : ℕ) (skip : Option ℕ) (d : ℕ) → EachCall (IsMountCall n skip) s cs → fails_on d cs ≡ true → is_present ((run s cs).power d) ≡ false
fails_absent s [] n skip d each is = absurd (false≢true is)
fails_absent s (c ∷ cs) n skip d each is = elim (fails_is (is_done c) (disk_of c) d (fails_on d cs) is) [
  | inl here ↦ stays_absent (step c s) cs n skip d each.2 (ap is_present ((failed_is_loss s c here.0).power d ∙ with_at_same s.power (disk_of c) Absent d here.1))
  | inr later ↦ fails_absent (step c s) cs n skip d each.2 later
]

pub each_take : (P : Call → Type 0) (s : Disks) (cs : List Call) (k : ℕ) → EachCall P s cs → EachCall P s (take k cs)
each_take P s cs zero each = tt
each_take P s [] (suc k) each = tt
each_take P s (c ∷ cs) (suc k) each = (each.0, each.1, each_take P (step c s) cs k each.2)

pub each_append : (P : Call → Type 0) (s : Disks) (cs ds : List Call) → EachCall P s cs → EachCall P (run s cs) ds → EachCall P s (cs ++ ds)
each_append P s [] ds first second = second
each_append P s (c ∷ cs) ds first second = (first.0, first.1, each_append P (step c s) cs ds first.2 second)

pub each_rest : (P : Call → Type 0) (s : Disks) (cs ds : List Call) → EachCall P s (cs ++ ds) → EachCall P (run s cs) ds
each_rest P s [] ds each = each
each_rest P s (c ∷ cs) ds each = each_rest P (step c s) cs ds each.2

pub none_take : (cs : List Call) (k : ℕ) → first_lost cs ≡ None → first_lost (take k cs) ≡ None
none_take cs zero none = refl
none_take [] (suc k) none = refl
none_take (c ∷ cs) (suc k) none = by (is_done c) (disk_of c) (first_lost cs) (first_lost (take k cs)) none (λ later. none_take cs k later)
  where
    by : (done : Bool) (e : ℕ) (a b : Option ℕ) → (if done then a else Some e) ≡ None → (a ≡ None → b ≡ None) → (if done then b else Some e) ≡ None
    by true e a b is more = more is
    by false e a b is more = absurd (let z : Some e ≡ None = is in cc)

pub fails_take : (cs : List Call) (k d : ℕ) → fails_on d (take k cs) ≡ true → fails_on d cs ≡ true
fails_take cs zero d is = absurd (false≢true is)
fails_take [] (suc k) d is = absurd (false≢true is)
fails_take (c ∷ cs) (suc k) d is = fails_to (is_done c) (disk_of c) d (fails_on d cs) (elim (fails_is (is_done c) (disk_of c) d (fails_on d (take k cs)) is) [
  | inl here ↦ inl here
  | inr later ↦ inr (fails_take cs k d later)
])

pub fails_more : (cs ds : List Call) (d : ℕ) → fails_on d cs ≡ true → fails_on d (cs ++ ds) ≡ true
fails_more cs ds d is = fails_take (cs ++ ds) (length cs) d
    (ap (fails_on d) (take-append-le (length cs) cs ds (omega arith) ∙ take_all (length cs) cs (omega arith)) ∙ is)

-- which disk is to be marked is known by which disks are there
pub mark_by : (m : Meta) (p q : ℕ → Power) → ((e : ℕ) → is_present (q e) ≡ is_present (p e)) → to_mark q m ≡ to_mark p m
mark_by m p q same = split m.out
  where
    split : (o : Out) → to_mark_by o q m.setup.geometry.disks ≡ to_mark_by o p m.setup.geometry.disks
    split No = first_absent_by p q m.setup.geometry.disks (λ e l. same e)
    split (Gone d) = refl
    split (Fresh d rebuilt) = ap (λ (b : Bool). if b then None else Some d) (same d)
