-- What reads of log disks leave of the slots, and which calls they are.
use Rattle.std.specs.Prelude.{◌≡◌, ◌≢◌, ◌⊎◌, ℕ, ◌≤◌, ◌<◌, Bool, true, false, List, [], ◌∷◌, ◌++◌, ◌+◌, Option, None}
use Rattle.std.proofs.Common.{zero, suc, refl, sym, ◌∙◌, ap, subst, arith, inl, inr}
use Rattle.std.proofs.lemmas.Bool.{cases_eq, true≢false}
use Rattle.std.proofs.lemmas.List.{length-append}
use Rattle.paraid_base.specs.declared.fault.Two.{Two}
use Rattle.paraid_base.specs.Told.{HasRisen}
use Rattle.paraid_base.proofs.ToldLemmas.{HasRisen-later, HasRisen-sooner}
use Rattle.paraid_rack.specs.declared.call.Call.{Call}
use Rattle.paraid_rack.specs.declared.call.Call.TheVariants.{Read, Write, Sync, Park, SpinUp, Attach}
use Rattle.paraid_rack.specs.declared.call.Power.TheVariants.{Absent, Spinning}
use Rattle.paraid_rack.specs.Disks.{Disks, is_present, step}
use Rattle.paraid_rack.specs.Slots.{Slot, AreSameSlots}
use Rattle.paraid_rack.specs.Told.{GrowsByCall, Ran}
use Rattle.paraid_rack.specs.Trail.{Trail, extend, run}
use Rattle.paraid_rack.proofs.TrailsLemmas.{Ran-call, Ran-none, Ran-then, extend-extend}
use Rattle.paraid_txn.specs.Losses.{AreFailedOrWell, OnlyLosesSlots, AreTwoDownBeside, IsWell}
use Rattle.paraid_txn.specs.Uses.{EachCall, UsesLog}
use Rattle.paraid_txn.proofs.CommitPartLemmas.{EachCall-milder, ran_milder}
use Rattle.paraid_recover.specs.HeardSides.{AreBothLost, AtMost, IsFailed, ReadsLog, ReadsLogs, gone_pair}

-- a failure after reads that were done
pub failed_after : {s t u : ℕ → Slot} {d : ℕ} → AreSameSlots s t → IsFailed t u d → IsFailed s u d
failed_after {s} {t} {u} {d} same f = record {
  risen = subst (λ (x : Slot). HasRisen x.faults (u d).faults) (same d) f.risen;
  later = subst (λ (x : Slot). x.faults ≤ (u d).faults) (same d) f.later;
  gone = f.gone;
}

-- and before reads of other disks
pub failed_before : {s t u : ℕ → Slot} {d : ℕ} → u d ≡ t d → IsFailed s t d → IsFailed s u d
failed_before {s} {t} {u} {d} same f = record {
  risen = subst (λ (x : Slot). HasRisen (s d).faults x.faults) (sym same) f.risen;
  later = subst (λ (x : Slot). (s d).faults ≤ x.faults) (sym same) f.later;
  gone = ap (λ (x : Slot). x.power) same ∙ f.gone;
}

-- Calls

pub calls_append : (u : Call → Type 0) (s : Disks) (cs ds : List Call) → EachCall u s cs → EachCall u (run s cs) ds → EachCall u s (cs ++ ds)
calls_append u s [] ds first second = second
calls_append u s (c ∷ cs) ds first second = (first.0, first.1, calls_append u (step c s) cs ds first.2 second)

pub calls_then : (u : Call → Type 0) {old mid new : Option Trail} → Ran old mid (EachCall u) → Ran mid new (EachCall u) → Ran old new (EachCall u)
calls_then u {old} {mid} {new} first second = Ran-then (EachCall u) (calls_append u) old mid new first second

pub uses_calls : {old new : Option Trail} {x : ℕ} → x < 2 → Ran old new (EachCall (ReadsLog x)) → Ran old new (EachCall (UsesLog None))
uses_calls {old} {new} {x} low ran = ran_milder (EachCall (ReadsLog x)) (EachCall (UsesLog None)) (EachCall-milder (ReadsLog x) (UsesLog None) uses) ran
  where
    uses : (c : Call) → ReadsLog x c → UsesLog None c
    uses (Read d p done) is = ((subst (λ (k : ℕ). k < 2) (sym is.0) low, λ e. cc), is.1)
    uses (Write d p b done) is = absurd is
    uses (Sync d done) is = absurd is
    uses (Park d done) is = absurd is
    uses (SpinUp d done) is = absurd is
    uses (Attach d size done) is = absurd is

pub logs_calls : {old new : Option Trail} {x : ℕ} → x < 3 → Ran old new (EachCall (ReadsLog x)) → Ran old new (EachCall ReadsLogs)
logs_calls {old} {new} {x} low ran = ran_milder (EachCall (ReadsLog x)) (EachCall ReadsLogs) (EachCall-milder (ReadsLog x) ReadsLogs are) ran
  where
    are : (c : Call) → ReadsLog x c → ReadsLogs c
    are (Read d p done) is = ((let at = is.0 in omega arith), is.1)
    are (Write d p b done) is = absurd is
    are (Sync d done) is = absurd is
    are (Park d done) is = absurd is
    are (SpinUp d done) is = absurd is
    are (Attach d size done) is = absurd is

-- How many

pub most_none : (n : ℕ) (told : Option Trail) → Ran told told (AtMost n)
most_none n told = Ran-none (AtMost n) (λ s. omega arith) told

pub most_read : {old new : Option Trail} {c : Call} → GrowsByCall old new c → Ran old new (AtMost 1)
most_read {old} {new} {c} grows = Ran-call (AtMost 1) old new c grows (λ s is. omega arith)

pub most_then : {old mid new : Option Trail} (n m k : ℕ) → n + m ≤ k → Ran old mid (AtMost n) → Ran mid new (AtMost m) → Ran old new (AtMost k)
most_then n m k fits first second t tells =
    let later = second t tells in
    let before = first later.from later.was in
    record {
      from = before.from;
      was = before.was;
      calls = before.calls ++ later.calls;
      is = later.is ∙ ap (λ (r : Trail). extend r later.calls) before.is ∙ extend-extend before.from before.calls later.calls;
      holds = (let size = length-append before.calls later.calls in let a = before.holds in let b = later.holds in omega arith);
    }

pub most_fits : {old new : Option Trail} (n k : ℕ) → n ≤ k → Ran old new (AtMost n) → Ran old new (AtMost k)
most_fits n k fits = ran_milder (AtMost n) (AtMost k) (λ s cs few. omega arith)

-- Slots

well : (old new : ℕ → Slot) (d : ℕ) → new d ≡ old d → IsWell (old d) (new d)
well old new d same = subst (λ (s : Slot). IsWell (old d) s) (sym same) (record { faults = refl; power = refl; size = refl })

module _ (old new : ℕ → Slot) (disk : ℕ) where
  pub heard_each : (ok : Bool) → (ok ≡ true → AreSameSlots old new) → ((d : ℕ) → d ≢ disk → new d ≡ old d) → (ok ≡ false → IsFailed old new disk) → AreFailedOrWell old new
  heard_each true same others failed d = inr (well old new d (same refl d))
  heard_each false same others failed d = elim (cases_eq d disk) [
    | inl is ↦ inl (subst (λ (k : ℕ). HasRisen (old k).faults (new k).faults) (sym is) (failed refl).risen)
    | inr not ↦ inr (well old new d (others d not))
  ]

  pub heard_spared : (ok : Bool) → (ok ≡ true → AreSameSlots old new) → ((d : ℕ) → d ≢ disk → new d ≡ old d) → (ok ≡ false → IsFailed old new disk) → OnlyLosesSlots old new
  heard_spared true same others failed = record {
    power = λ d there. (well old new d (same refl d)).power;
    size = λ d there. (well old new d (same refl d)).size;
    no_fall = λ d. (let kept = (well old new d (same refl d)).faults in omega arith);
  }
  heard_spared false same others failed =
      let gone : (d : ℕ) → is_present (new d).power ≡ true → d ≢ disk = λ d there is.
      true≢false (sym there ∙ ap is_present (ap (λ (k : ℕ). (new k).power) is ∙ (failed refl).gone)) in
      record {
        power = λ d there. (well old new d (others d (gone d there))).power;
        size = λ d there. (well old new d (others d (gone d there))).size;
        no_fall = λ d. elim (cases_eq d disk) [
          | inl is ↦ subst (λ (k : ℕ). (old k).faults ≤ (new k).faults) (sym is) (failed refl).later
          | inr not ↦ let kept = (well old new d (others d not)).faults in omega arith
        ];
      }

pub spared_then : {s t u : ℕ → Slot} → OnlyLosesSlots s t → OnlyLosesSlots t u → OnlyLosesSlots s u
spared_then {s} {t} {u} first second = record {
  power = λ d there. second.power d there ∙ first.power d (ap is_present (sym (second.power d there)) ∙ there);
  size = λ d there. second.size d there ∙ first.size d (ap is_present (sym (second.power d there)) ∙ there);
  no_fall = λ d. (let before = first.no_fall d in let after = second.no_fall d in omega arith);
}

pub each_then : {s t u : ℕ → Slot} → OnlyLosesSlots s t → OnlyLosesSlots t u → AreFailedOrWell s t → AreFailedOrWell t u → AreFailedOrWell s u
each_then {s} {t} {u} before after first second d = elim (second d) [
  | inl risen ↦ inl (HasRisen-sooner (s d).faults (t d).faults (u d).faults (before.no_fall d) risen)
  | inr well ↦ elim (first d) [
    | inl risen ↦ inl (HasRisen-later (s d).faults (t d).faults (u d).faults risen (after.no_fall d))
    | inr was ↦ inr (record { faults = well.faults ∙ was.faults; power = well.power ∙ was.power; size = well.size ∙ was.size })
  ]
]

-- Why both are gone

-- log disk 1 was absent, and log disk 0 has failed
pub first_gone : (old new : ℕ → Slot) (two : Two) → two ≡ gone_pair (old 1).power → (old 1).power ≡ Absent → HasRisen (old 0).faults (new 0).faults
    → AreTwoDownBeside (λ e. (old e).power ≡ Absent) old new two
first_gone old new two is gone risen =
    subst (λ (t : Two). AreTwoDownBeside (λ e. (old e).power ≡ Absent) old new t) (sym (is ∙ ap gone_pair gone))
    (record { first = inl gone; apart = λ e. omega arith; second = risen })

-- log disk 1 has failed, and log disk 0 was absent or has failed
pub second_gone : (old new : ℕ → Slot) (two : Two) → two ≡ gone_pair (old 1).power → (old 1).power ≡ Spinning
    → ((old 0).power ≡ Absent) ⊎ HasRisen (old 0).faults (new 0).faults → HasRisen (old 1).faults (new 1).faults
    → AreTwoDownBeside (λ e. (old e).power ≡ Absent) old new two
second_gone old new two is spins first risen =
    subst (λ (t : Two). AreTwoDownBeside (λ e. (old e).power ≡ Absent) old new t) (sym (is ∙ ap gone_pair spins))
    (record { first = first; apart = λ e. omega arith; second = risen })

pub failed_at : {s t u : ℕ → Slot} {d : ℕ} → t d ≡ s d → IsFailed t u d → IsFailed s u d
failed_at {s} {t} {u} {d} same f = record {
  risen = subst (λ (x : Slot). HasRisen x.faults (u d).faults) same f.risen;
  later = subst (λ (x : Slot). x.faults ≤ (u d).faults) same f.later;
  gone = f.gone;
}

-- both are lost: log disk 0 has failed, and log disk 1 was absent
pub lost_beside : (old new : ℕ → Slot) (two : Two) → two ≡ gone_pair (old 1).power → (old 1).power ≡ Absent → (old 0).power ≡ Spinning → IsFailed old new 0 → new 1 ≡ old 1
    → ((d : ℕ) → 2 ≤ d → new d ≡ old d) → AreBothLost old new two
lost_beside old new two is gone spun failed same others =
    subst (AreBothLost old new) (sym (is ∙ ap gone_pair gone))
    (record { pair = sym (ap gone_pair gone); first = inl gone; spun = spun; failed = failed; gone = both; others = others })
  where
    both : (x : ℕ) → x < 2 → (new x).power ≡ Absent
    both zero low = failed.gone
    both (suc zero) low = ap (λ (s : Slot). s.power) same ∙ gone
    both (suc (suc x)) low = absurd (omega arith)

-- or log disk 1 has failed, and log disk 0 was absent or has failed
pub lost_both : (old new : ℕ → Slot) (two : Two) → two ≡ gone_pair (old 1).power → (old 1).power ≡ Spinning → ((old 0).power ≡ Absent) ⊎ (((old 0).power ≡ Spinning) × IsFailed old new 0)
    → IsFailed old new 1 → (new 0).power ≡ Absent → ((d : ℕ) → 2 ≤ d → new d ≡ old d) → AreBothLost old new two
lost_both old new two is spun first failed gone others =
    subst (AreBothLost old new) (sym (is ∙ ap gone_pair spun))
    (record { pair = sym (ap gone_pair spun); first = first; spun = spun; failed = failed; gone = both; others = others })
  where
    both : (x : ℕ) → x < 2 → (new x).power ≡ Absent
    both zero low = gone
    both (suc zero) low = failed.gone
    both (suc (suc x)) low = absurd (omega arith)
