-- Reads leave the disks as they are.
use Rattle.std.specs.Prelude.{◌≡◌, ◌⊎◌, ℕ, ◌≤◌, ◌<◌, ◌+◌, ◌&&◌, nat_lt, Bool, true, false, [], ◌∷◌, ◌++◌, Option, Some, Result, Ok, Err, OnOk, is_ok, length, if◌then◌else◌}
use Rattle.std.proofs.Common.{refl, sym, ◌∙◌, ap, arith, inl, inr, suc}
use Rattle.std.proofs.lemmas.Bool.{cases_eq}
use Rattle.std.proofs.lemmas.Bool.Decides.{nat_tests}
use Rattle.paraid_base.specs.declared.block.Block.{Block}
use Rattle.paraid_base.specs.Xor.{zero_block}
use Rattle.paraid_rack.specs.declared.call.Call.TheVariants.{Read}
use Rattle.paraid_rack.specs.Disks.{Disks, IsPresent, is_present, lose, step, with_at}
use Rattle.paraid_rack.specs.Told.{GrowsByCall}
use Rattle.paraid_rack.specs.Trail.{Trail, now}
use Rattle.paraid_rack.proofs.AtomsLemmas.{with_at_other, with_at_same}
use Rattle.paraid_rack.proofs.TrailsLemmas.{called, now-extend, stays}
use Rattle.paraid_record.specs.declared.targets.Target.{Target}
use Rattle.paraid_recover.specs.HeardSides.{IsLosing, IsUnchanged}
use Rattle.paraid_image.specs.Sides.{AreBlocksLogged, Batch, stored_block}
use Rattle.paraid_txn.proofs.StageCallsLemmas.{andthen, milder}
use Rattle.paraid_txn.proofs.WholeLemmas.{stored_here}

with_same : {A : Type 0} (f : ℕ → A) (d x : ℕ) → with_at f d (f d) x ≡ f x
with_same f d x = elim (cases_eq x d) [
  | inl is ↦ with_at_same f d (f d) x is ∙ ap f (sym is)
  | inr apart ↦ with_at_other f d (f d) x apart
]

read_done : (s : Disks) (d p : ℕ) → step (Read d p true) s ≡ s
unfolding step
read_done s d p = λ t. record s { power = λ x. with_same s.power d x t; size = λ x. with_same s.size d x t }

read_lost : (s : Disks) (d p : ℕ) → step (Read d p false) s ≡ lose d s
unfolding step
read_lost s d p = refl

-- no call, and one that is done
pub unchanged_none : (told : Option Trail) → IsUnchanged told told
unchanged_none told start = stays (λ s. s ≡ start) (λ s. s ≡ start) (λ s. s ≡ start) told (λ s b. b) (λ t tells a. a)

pub unchanged_read : {old new : Option Trail} {d p : ℕ} → GrowsByCall old new (Read d p true) → IsUnchanged old new
unchanged_read {old} {new} {d} {p} grows start =
    called (λ s. s ≡ start) (λ s. s ≡ start) (λ s. s ≡ start) old new (Read d p true) grows (λ s a. a) (λ s b. b) (λ s a. read_done s d p ∙ a)

pub losing_read : {old new : Option Trail} {d p : ℕ} → GrowsByCall old new (Read d p false) → IsLosing d old new
losing_read {old} {new} {d} {p} grows start =
    called (λ s. (s ≡ start) ⊎ (s ≡ lose d start)) (λ s. s ≡ start) (λ s. s ≡ lose d start) old new (Read d p false) grows (λ s a. inl a) (λ s b. inr b)
    (λ s a. read_lost s d p ∙ ap (lose d) a)

-- one part after the other
pub unchanged_then : {old mid new : Option Trail} → IsUnchanged old mid → IsUnchanged mid new → IsUnchanged old new
unchanged_then first second start = andthen (first start) (second start)

pub losing_then : {old mid new : Option Trail} (d : ℕ) → IsUnchanged old mid → IsLosing d mid new → IsLosing d old new
losing_then d first second start = andthen (milder (λ s a. inl a) (first start)) (second start)

-- so the disks are those that they were
pub unchanged_now : {old new : Option Trail} → IsUnchanged old new → (t : Trail) → new ≡ Some t → (s : Trail) × (old ≡ Some s) × (now t ≡ now s)
unchanged_now {old} {new} same t tells =
    let any = same (now t) t tells in
    let r = same (now any.from) t tells in
    let one : r.from ≡ any.from = (let z : Some r.from ≡ Some any.from = sym r.was ∙ any.was in cc) in
    let b = r.holds.goes (ap now one) in
    (any.from, any.was, ap now r.is ∙ now-extend r.from r.calls ∙ b.1)

-- a place past the size
pub stored_past : (s : Disks) (d p : ℕ) → s.size d ≤ p → stored_block s d p ≡ zero_block
unfolding stored_block
stored_past s d p high = go (is_present (s.power d)) (nat_lt p (s.size d)) (grind (arith, nat_tests))
  where
    go : (a b : Bool) → b ≡ false → (if (a && b) then s.block d p else zero_block) ≡ zero_block
    go true false is = refl
    go false false is = refl
    go a true is = cc

-- one more block of the body
pub logged_more : (log : ℕ → Block) (p : ℕ) (batch : Batch) (w : Target × Block) → AreBlocksLogged log p batch → log (p + length batch) ≡ w.1 → AreBlocksLogged log p (batch ++ w ∷ [])
logged_more log p [] w logged is = ((let e : p + 0 ≡ p = omega arith in sym (ap log e) ∙ is), tt)
logged_more log p (v ∷ batch) w logged is =
    (logged.0, logged_more log (suc p) batch w logged.1 ((let e : suc p + length batch ≡ p + length (v ∷ batch) = omega arith in ap log e) ∙ is))

-- what a read answers
module _ {E : Type 0} {old new : Option Trail} {d p : ℕ} where
  pub ok_block : (b : Block) (r : Result (Unit {0}) E) → GrowsByCall old new (Read d p (is_ok r)) → OnOk r ((t : Trail) → old ≡ Some t → b ≡ (now t).block d p)
      → ((s : Trail) → old ≡ Some s → IsPresent (now s) d × (p < (now s).size d)) → OnOk r ((t : Trail) → new ≡ Some t → b ≡ stored_block (now t) d p)
  ok_block b (Err e) grows bytes there = tt
  ok_block b (Ok it) grows bytes there = λ t tells.
      let u = unchanged_now (unchanged_read grows) t tells in
      let h = there u.0 u.1 in
      bytes u.0 u.1 ∙ sym (stored_here (now u.0) d p h.0 h.1) ∙ ap (λ (s : Disks). stored_block s d p) (sym u.2)

-- what was read is still there
pub carried : {old new : Option Trail} (b : Block) (d p : ℕ) → IsUnchanged old new → ((s : Trail) → old ≡ Some s → b ≡ stored_block (now s) d p)
    → (t : Trail) → new ≡ Some t → b ≡ stored_block (now t) d p
carried b d p same was t tells = let u = unchanged_now same t tells in was u.0 u.1 ∙ ap (λ (s : Disks). stored_block s d p) (sym u.2)
