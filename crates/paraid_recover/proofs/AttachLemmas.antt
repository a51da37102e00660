-- Fresh disks, one after the other.
use Rattle.std.specs.Prelude.{◌≡◌, ◌≢◌, ℕ, ◌+◌, ◌≤◌, ◌<◌, true, Bool, List, [], ◌∷◌, ◌++◌, Option}
use Rattle.std.proofs.Common.{refl, sym, ◌∙◌, ap, subst, arith, inl, inr}
use Rattle.std.proofs.lemmas.Bool.{cases_eq, cases_lt}
use Rattle.paraid_base.specs.declared.block.Block.{Block}
use Rattle.paraid_rack.specs.declared.call.Call.{Call}
use Rattle.paraid_rack.specs.declared.call.Call.TheVariants.{Read, Write, Sync, Park, SpinUp, Attach}
use Rattle.paraid_rack.specs.declared.call.Power.TheVariants.{Spinning}
use Rattle.paraid_rack.specs.Disks.{Disks, after_attach, loose_after, step}
use Rattle.paraid_rack.specs.Told.{GrowsByCall, Ran}
use Rattle.paraid_rack.specs.Trail.{Trail, extend, now, run}
use Rattle.paraid_rack.proofs.AtomsLemmas.{with_at_other, with_at_same}
use Rattle.paraid_rack.proofs.TrailsLemmas.{Ran-call, extend-extend, now-extend, now-more}
use Rattle.paraid_recover.specs.Attached.{AreFreshDisks}
use Rattle.paraid_recover.specs.Calls.{AreAttaches}
use Rattle.paraid_recover.specs.Between.{RanBetween}

-- what the disks are after two parts
pub led_none : (R : Disks → Disks → Type 0) → ((s : Disks) → R s s) → (told : Option Trail) → RanBetween told told R
led_none R same told t tells = (t, tells, same (now t))

pub led_call : (R Q : Disks → Disks → Type 0) (c : Call) → ((start s : Disks) → R start s → Q start (step c s)) → (old mid new : Option Trail)
    → RanBetween old mid R → GrowsByCall mid new c → RanBetween old new Q
led_call R Q c go old mid new led grows t tells =
    let m = now-more mid new c grows t tells in
    let l = led m.0 m.1 in
    (l.0, l.1, subst (λ (s : Disks). Q (now l.0) s) (sym m.2) (go (now l.0) (now m.0) l.2))

pub led_then : (R Q P : Disks → Disks → Type 0) → ((start mid end : Disks) → R start mid → Q mid end → P start end) → (old mid new : Option Trail)
    → RanBetween old mid R → RanBetween mid new Q → RanBetween old new P
led_then R Q P go old mid new first second t tells =
    let m = second t tells in
    let l = first m.0 m.1 in
    (l.0, l.1, go (now l.0) (now m.0) (now t) l.2 m.2)

-- and the calls of two parts
pub ran_then : (A B Q : Disks → List Call → Type 0) → ((s : Disks) (cs ds : List Call) → A s cs → B (run s cs) ds → Q s (cs ++ ds)) → (old mid new : Option Trail)
    → Ran old mid A → Ran mid new B → Ran old new Q
ran_then A B Q both old mid new first second t tells =
    let later = second t tells in
    let before = first later.from later.was in
    let here : now later.from ≡ run (now before.from) before.calls = ap now before.is ∙ now-extend before.from before.calls in
    record {
      from = before.from;
      was = before.was;
      calls = before.calls ++ later.calls;
      is = later.is ∙ ap (λ (r : Trail). extend r later.calls) before.is ∙ extend-extend before.from before.calls later.calls;
      holds = both (now before.from) before.calls later.calls before.holds (subst (λ (s : Disks). B s later.calls) here later.holds);
    }

pub ran_weaker : (A B : Disks → List Call → Type 0) → ((s : Disks) (cs : List Call) → A s cs → B s cs) → (old new : Option Trail) → Ran old new A → Ran old new B
ran_weaker A B go old new ran t tells =
    let r = ran t tells in
    record { from = r.from; was = r.was; calls = r.calls; is = r.is; holds = go (now r.from) r.calls r.holds }

-- attaches in ascending order
attaches_from : (size a b c : ℕ) (cs : List Call) → a ≤ b → AreAttaches size b c cs → AreAttaches size a c cs
attaches_from size a b c [] low are = (let l : b ≤ c = are in omega arith)
attaches_from size a b c (Read d p done ∷ cs) low are = absurd are
attaches_from size a b c (Write d p x done ∷ cs) low are = absurd are
attaches_from size a b c (Sync d done ∷ cs) low are = absurd are
attaches_from size a b c (Park d done ∷ cs) low are = absurd are
attaches_from size a b c (SpinUp d done ∷ cs) low are = absurd are
attaches_from size a b c (Attach d s done ∷ cs) low are = ((let l = are.0 in omega arith), are.1, are.2)

pub attaches_then : (size a b c : ℕ) (cs ds : List Call) → AreAttaches size a b cs → AreAttaches size b c ds → AreAttaches size a c (cs ++ ds)
attaches_then size a b c [] ds first second = attaches_from size a b c ds first second
attaches_then size a b c (Read d p done ∷ cs) ds first second = absurd first
attaches_then size a b c (Write d p x done ∷ cs) ds first second = absurd first
attaches_then size a b c (Sync d done ∷ cs) ds first second = absurd first
attaches_then size a b c (Park d done ∷ cs) ds first second = absurd first
attaches_then size a b c (SpinUp d done ∷ cs) ds first second = absurd first
attaches_then size a b c (Attach d s done ∷ cs) ds first second = (first.0, first.1, attaches_then size (d + 1) b c cs ds first.2 second)

pub one_attach : (size k b : ℕ) (done : Bool) → k < b → AreAttaches size k b (Attach k size done ∷ [])
one_attach size k b done low = ((omega arith), refl, (omega arith))

pub more_attaches : (size k b : ℕ) (done : Bool) (old mid new : Option Trail) → k < b → Ran old mid (λ start calls. AreAttaches size 0 k calls) → GrowsByCall mid new (Attach k size done)
    → Ran old new (λ start calls. AreAttaches size 0 b calls)
more_attaches size k b done old mid new low ran grows =
    ran_then (λ start calls. AreAttaches size 0 k calls) (λ start calls. AreAttaches size k b calls) (λ start calls. AreAttaches size 0 b calls)
    (λ s cs ds first second. attaches_then size 0 k b cs ds first second) old mid new ran
    (Ran-call (λ start calls. AreAttaches size k b calls) mid new (Attach k size done) grows (λ s is. one_attach size k b done low))

-- one fresh disk more
pub no_attached : (size : ℕ) (s : Disks) → AreFreshDisks 0 size s s
no_attached size s = record {
  power = λ d low. absurd (omega arith);
  size_is = λ d low. absurd (omega arith);
  zeros = λ d p low. absurd (omega arith);
  synced = λ d p low. absurd (omega arith);
  others = λ d p high. refl;
}

pub below_or_at : (d k : ℕ) → d < k + 1 → d ≢ k → d < k
below_or_at d k low apart = elim (cases_lt d k) [
  | inl l ↦ l
  | inr h ↦ absurd (apart (omega arith))
]

pub attached_more : (k size : ℕ) (start s : Disks) → AreFreshDisks k size start s → AreFreshDisks (k + 1) size start (step (Attach k size true) s)
unfolding step
attached_more k size start s a = record {
  power = λ d low. elim (cases_eq d k) [
    | inl is ↦ with_at_same s.power k Spinning d is
    | inr apart ↦ with_at_other s.power k Spinning d apart ∙ a.power d (below_or_at d k low apart)
  ];
  size_is = λ d low. elim (cases_eq d k) [
    | inl is ↦ with_at_same s.size k size d is
    | inr apart ↦ with_at_other s.size k size d apart ∙ a.size_is d (below_or_at d k low apart)
  ];
  zeros = λ d p low. elim (cases_eq d k) [
    | inl is ↦ ap (λ (f : ℕ → Block). f p) (with_at_same s.block k (after_attach true (s.block k)) d is)
    | inr apart ↦ ap (λ (f : ℕ → Block). f p) (with_at_other s.block k (after_attach true (s.block k)) d apart) ∙ a.zeros d p (below_or_at d k low apart)
  ];
  synced = λ d p low. elim (cases_eq d k) [
    | inl is ↦ ap (λ (f : ℕ → Bool). f p) (with_at_same s.loose k (loose_after true (s.loose k)) d is)
    | inr apart ↦ ap (λ (f : ℕ → Bool). f p) (with_at_other s.loose k (loose_after true (s.loose k)) d apart) ∙ a.synced d p (below_or_at d k low apart)
  ];
  others = λ d p high. ap (λ (f : ℕ → Bool). f p) (with_at_other s.loose k (loose_after true (s.loose k)) d (λ is. absurd (omega arith))) ∙ a.others d p (omega arith);
}
