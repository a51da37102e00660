-- A meta on a log disk.
use Rattle.std.specs.Prelude.{◌≡◌, ℕ, ◌+◌, ◌*◌, ◌<◌, ◌≤◌, true, Bool, List, [], ◌∷◌, ◌++◌, Option}
use Rattle.std.proofs.Common.{refl, sym, ◌∙◌, ap, subst, arith, inl, inr}
use Rattle.std.proofs.lemmas.Bool.{cases_eq}
use Rattle.paraid_base.specs.declared.block.Block.{Block}
use Rattle.paraid_rack.specs.declared.call.Call.{Call}
use Rattle.paraid_rack.specs.declared.call.Call.TheVariants.{Read, Write, Sync, Park, SpinUp, Attach}
use Rattle.paraid_rack.specs.Disks.{Disks, step, with_at}
use Rattle.paraid_rack.specs.Told.{GrowsByCall, Ran}
use Rattle.paraid_rack.specs.Trail.{Trail}
use Rattle.paraid_rack.proofs.AtomsLemmas.{with_at_other, with_at_same, write_block_other, write_block_same}
use Rattle.paraid_rack.proofs.TrailsLemmas.{Ran-call, Ran-none}
use Rattle.paraid_recover.specs.Attached.{IsMetaWritten}
use Rattle.paraid_recover.specs.Calls.{AreMetaCalls}
use Rattle.paraid_recover.specs.Between.{RanBetween}
use Rattle.paraid_recover.proofs.AttachLemmas.{led_call, led_none, ran_then}

with_same : {A : Type 0} (f : ℕ → A) (d x : ℕ) → with_at f d (f d) x ≡ f x
with_same f d x = elim (cases_eq x d) [
  | inl is ↦ with_at_same f d (f d) x is ∙ ap f (sym is)
  | inr apart ↦ with_at_other f d (f d) x apart
]

-- a write of place 1, and a sync
written : (x : ℕ) (b : Block) (s : Disks) → IsMetaWritten x b s (step (Sync x true) (step (Write x 1 b true) s))
unfolding step
written x b s = record {
  power = λ d. with_same (with_at s.power x (s.power x)) x d ∙ with_same s.power x d;
  size = λ d. with_same (with_at s.size x (s.size x)) x d ∙ with_same s.size x d;
  here = write_block_same s x 1 b true;
  block = λ d p apart. write_block_other s x 1 b true d p apart;
  synced = λ p. ap (λ (f : ℕ → Bool). f p) (with_at_same _ x _ x refl);
  loose = λ d p apart. ap (λ (f : ℕ → Bool). f p) (with_at_other _ x _ d apart) ∙ ap (λ (f : ℕ → Bool). f p) (with_at_other _ x _ d apart);
}

pub logged : (x : ℕ) (b : Block) (old mid new : Option Trail) → GrowsByCall old mid (Write x 1 b true) → GrowsByCall mid new (Sync x true) → RanBetween old new (IsMetaWritten x b)
logged x b old mid new first second =
    led_call (λ start s. s ≡ step (Write x 1 b true) start) (IsMetaWritten x b) (Sync x true)
    (λ start s is. subst (λ (u : Disks). IsMetaWritten x b start (step (Sync x true) u)) (sym is) (written x b start)) old mid new
    (led_call (λ start s. s ≡ start) (λ start s. s ≡ step (Write x 1 b true) start) (Write x 1 b true) (λ start s is. ap (step (Write x 1 b true)) is) old old mid
    (led_none (λ start s. s ≡ start) (λ s. refl) old) first) second

-- the calls on the logs, in their order
metas_from : (a b c : ℕ) (cs : List Call) → a ≤ b → AreMetaCalls b c cs → AreMetaCalls a c cs
metas_from a b c [] low are = (let l : b ≤ c = are in omega arith)
metas_from a b c (Read d p done ∷ cs) low are = absurd are
metas_from a b c (Write d p x done ∷ cs) low are = (are.0, are.1, (let l = are.2 in omega arith), are.3)
metas_from a b c (Sync d done ∷ cs) low are = (are.0, (let l = are.1 in omega arith), are.2)
metas_from a b c (Park d done ∷ cs) low are = absurd are
metas_from a b c (SpinUp d done ∷ cs) low are = absurd are
metas_from a b c (Attach d s done ∷ cs) low are = absurd are

metas_then : (a b c : ℕ) (cs ds : List Call) → AreMetaCalls a b cs → AreMetaCalls b c ds → AreMetaCalls a c (cs ++ ds)
metas_then a b c [] ds first second = metas_from a b c ds first second
metas_then a b c (Read d p done ∷ cs) ds first second = absurd first
metas_then a b c (Write d p x done ∷ cs) ds first second = (first.0, first.1, first.2, metas_then (2 * d + 1) b c cs ds first.3 second)
metas_then a b c (Sync d done ∷ cs) ds first second = (first.0, first.1, metas_then (2 * d + 2) b c cs ds first.2 second)
metas_then a b c (Park d done ∷ cs) ds first second = absurd first
metas_then a b c (SpinUp d done ∷ cs) ds first second = absurd first
metas_then a b c (Attach d s done ∷ cs) ds first second = absurd first

pub logging_then : {old mid new : Option Trail} (a b c : ℕ) → Ran old mid (λ start calls. AreMetaCalls a b calls) → Ran mid new (λ start calls. AreMetaCalls b c calls)
    → Ran old new (λ start calls. AreMetaCalls a c calls)
logging_then {old} {mid} {new} a b c =
    ran_then (λ start calls. AreMetaCalls a b calls) (λ start calls. AreMetaCalls b c calls) (λ start calls. AreMetaCalls a c calls)
    (λ s cs ds first second. metas_then a b c cs ds first second) old mid new

pub logging_within : {old new : Option Trail} (a b c : ℕ) → b ≤ c → Ran old new (λ start calls. AreMetaCalls a b calls) → Ran old new (λ start calls. AreMetaCalls a c calls)
logging_within {old} {new} a b c low ran = logging_then a b c ran (Ran-none (λ start calls. AreMetaCalls b c calls) (λ s. low) new)

pub logging_write : {old new : Option Trail} {x : ℕ} {b : Block} {done : Bool} (high : ℕ) → 2 * x + 1 ≤ high → x < 2 → GrowsByCall old new (Write x 1 b done)
    → Ran old new (λ start calls. AreMetaCalls (2 * x) high calls)
logging_write {old} {new} {x} {b} {done} high fits low grows =
    Ran-call (λ start calls. AreMetaCalls (2 * x) high calls) old new (Write x 1 b done) grows (λ s is. (low, refl, (omega arith), fits))

pub logging_sync : {old new : Option Trail} {x : ℕ} {done : Bool} → x < 2 → GrowsByCall old new (Sync x done) → Ran old new (λ start calls. AreMetaCalls (2 * x + 1) (2 * x + 2) calls)
logging_sync {old} {new} {x} {done} low grows =
    Ran-call (λ start calls. AreMetaCalls (2 * x + 1) (2 * x + 2) calls) old new (Sync x done) grows (λ s is. (low, (omega arith), (omega arith)))
