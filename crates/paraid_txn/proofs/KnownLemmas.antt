-- What a store knows of the witnesses stays true, call by call.
use Rattle.std.specs.Prelude.{◌≡◌, ◌≢◌, ℕ, ◌<◌, ◌≤◌, Bool, true, List, [], ◌∷◌, Option, Some, None}
use Rattle.std.proofs.Common.{sym, ◌∙◌, ap, subst, refl}
use Rattle.paraid_base.specs.declared.block.Block.{Block}
use Rattle.paraid_rack.specs.Atoms.{IsSure}
use Rattle.paraid_rack.specs.declared.call.Call.{Call}
use Rattle.paraid_rack.specs.declared.call.Call.TheVariants.{Read, Write, Sync, Park, SpinUp, Attach}
use Rattle.paraid_rack.specs.declared.call.Power.{Power}
use Rattle.paraid_rack.specs.declared.call.Power.TheVariants.{Parked, Spinning}
use Rattle.paraid_rack.specs.Disks.{Disks, IsPresent, after_attach, is_present, loose_after, power_after, step, with_at}
use Rattle.paraid_rack.specs.Slots.{Agrees, Slot}
use Rattle.paraid_rack.specs.Told.{GrowsByCall, Ran}
use Rattle.paraid_rack.specs.Trail.{Trail, now, run}
use Rattle.paraid_rack.proofs.AtomsLemmas.{at_use, sync_sure, with_at_other, write_sure}
use Rattle.paraid_rack.proofs.TrailsLemmas.{now-extend, now-more}
use Rattle.paraid_image.specs.Sides.{is_open}
use Rattle.paraid_txn.specs.Borne.{IsBorneNow, IsWitnessBorne}
use Rattle.paraid_txn.specs.Uses.{EachCall, UsesSync}
use Rattle.paraid_txn.proofs.ResumeStagesLemmas.{read_step}

pub still_enough : {a b n : ℕ} → b ≡ a → n ≤ a → n ≤ b
still_enough {n = n} same enough = subst (λ (k : ℕ). n ≤ k) (sym same) enough

-- nothing is known
pub nothing_known : {borne : Option ℕ} {told : Option Trail} → borne ≡ None → IsBorneNow borne told
nothing_known none t tells x low is = absurd (let z : None ≡ Some x = sym none ∙ is in cc)

-- Single calls

abbrev IsOpenAt : Disks → ℕ → Type 0
IsOpenAt s x = IsSure s 2 x (λ b. is_open b ≡ true)

turned_there : (s : Disks) (d0 : ℕ) (done : Bool) (power : Power) (d : ℕ) → IsPresent s d0 → is_present (with_at s.power d0 (power_after done power) d) ≡ true → IsPresent s d
turned_there s d0 done power d there =
    at_use (λ p. is_present p ≡ true) (IsPresent s d) s.power d0 (power_after done power) d
    (λ is now. subst (λ (k : ℕ). is_present (s.power k) ≡ true) (sym is) there) (λ not now. now)

other_there : (s : Disks) (d0 : ℕ) (power : Power) (d : ℕ) → d ≢ d0 → is_present (with_at s.power d0 power d) ≡ true → IsPresent s d
other_there s d0 power d not here = ap is_present (sym (with_at_other s.power d0 power d not)) ∙ here

park_sure : (s : Disks) (d0 : ℕ) (done : Bool) (x : ℕ) → IsPresent s d0 → IsOpenAt s x → IsOpenAt (step (Park d0 done) s) x
unfolding step
park_sure s d0 done x there sure = record { holds = λ here. sure.holds (turned_there s d0 done Parked 2 there here) }

spin_sure : (s : Disks) (d0 : ℕ) (done : Bool) (x : ℕ) → IsPresent s d0 → IsOpenAt s x → IsOpenAt (step (SpinUp d0 done) s) x
unfolding step
spin_sure s d0 done x there sure = record { holds = λ here. sure.holds (turned_there s d0 done Spinning 2 there here) }

attach_sure : (s : Disks) (d0 size : ℕ) (done : Bool) (x : ℕ) → 2 ≢ d0 → IsOpenAt s x → IsOpenAt (step (Attach d0 size done) s) x
unfolding step
attach_sure s d0 size done x not sure = record {
  holds = λ here.
      let was = sure.holds (other_there s d0 (power_after done Spinning) 2 not here) in (
        ap (λ (f : ℕ → Bool). f x) (with_at_other s.loose d0 (loose_after done (s.loose d0)) 2 not) ∙ was.0,
        subst (λ (f : ℕ → Block). is_open (f x) ≡ true) (sym (with_at_other s.block d0 (after_attach done (s.block d0)) 2 not)) was.1,
      );
}

there : {old : Option Trail} {slot : ℕ → Slot} → ((t : Trail) → old ≡ Some t → Agrees (now t) slot) → (d : ℕ) (power : Power) → (slot d).power ≡ power → is_present power ≡ true
    → (s : Trail) → old ≡ Some s → IsPresent (now s) d
there agrees d power is here s was = ap is_present ((agrees s was).power d ∙ is) ∙ here

module _ {old new : Option Trail} where
  -- a call that leaves the place of each witness that is known after it
  known_after : (from to : Option ℕ) (c : Call) → GrowsByCall old new c
      → ((s : Trail) → old ≡ Some s → (x : ℕ) → x < 2 → to ≡ Some x → (from ≡ Some x) × (IsOpenAt (now s) x → IsOpenAt (step c (now s)) x))
      → IsBorneNow from old → IsBorneNow to new
  known_after from to c grows keeps known t tells x low is =
      let m = now-more old new c grows t tells in
      let k = keeps m.0 m.1 x low is in
      subst (λ (u : Disks). IsOpenAt u x) (sym m.2) (k.1 (known m.0 m.1 x low k.0))

  pub known_read : (o : Option ℕ) (d p : ℕ) (done : Bool) → GrowsByCall old new (Read d p done) → IsBorneNow o old → IsBorneNow o new
  known_read o d p done grows = known_after o o (Read d p done) grows (λ s was x low is. (is, (read_step (now s) d p done).sure 2 x (λ b. is_open b ≡ true)))

  pub known_sync : (o : Option ℕ) (d : ℕ) (done : Bool) → GrowsByCall old new (Sync d done) → IsBorneNow o old → IsBorneNow o new
  known_sync o d done grows = known_after o o (Sync d done) grows (λ s was x low is. (is, sync_sure (now s) d done 2 x (λ b. is_open b ≡ true)))

  pub known_write : (from to : Option ℕ) (d p : ℕ) (b : Block) (done : Bool) → ((x : ℕ) → to ≡ Some x → (from ≡ Some x) × (2 ≡ d → x < 2 → x ≢ p))
      → GrowsByCall old new (Write d p b done) → IsBorneNow from old → IsBorneNow to new
  known_write from to d p b done beside grows = known_after from to (Write d p b done) grows
      (λ s was x low is. ((beside x is).0, write_sure (now s) d p b done 2 x (λ c. is_open c ≡ true) (λ at. (beside x is).1 at low)))

  pub known_attach : (from to : Option ℕ) (d size : ℕ) (done : Bool) → ((x : ℕ) → to ≡ Some x → (from ≡ Some x) × (2 ≢ d))
      → GrowsByCall old new (Attach d size done) → IsBorneNow from old → IsBorneNow to new
  known_attach from to d size done without grows = known_after from to (Attach d size done) grows
      (λ s was x low is. ((without x is).0, attach_sure (now s) d size done x (without x is).1))

  module _ {slot : ℕ → Slot} (agrees : (t : Trail) → old ≡ Some t → Agrees (now t) slot) where
    pub known_park : (o : Option ℕ) (d : ℕ) (done : Bool) → (slot d).power ≡ Spinning → GrowsByCall old new (Park d done) → IsBorneNow o old → IsBorneNow o new
    known_park o d done spins grows = known_after o o (Park d done) grows (λ s was x low is. (is, park_sure (now s) d done x (there agrees d Spinning spins refl s was)))

    pub known_spin : (o : Option ℕ) (d : ℕ) (done : Bool) → (slot d).power ≡ Parked → GrowsByCall old new (SpinUp d done) → IsBorneNow o old → IsBorneNow o new
    known_spin o d done parked grows = known_after o o (SpinUp d done) grows (λ s was x low is. (is, spin_sure (now s) d done x (there agrees d Parked parked refl s was)))

-- Some calls

pub known_ran : {Q : Disks → List Call → Type 0} {old new : Option Trail} (from to : Option ℕ)
    → ((s : Disks) (cs : List Call) → Q s cs → IsWitnessBorne from s → IsWitnessBorne to (run s cs)) → Ran old new Q → IsBorneNow from old → IsBorneNow to new
known_ran from to go ran known t tells =
    let r = ran t tells in
    subst (IsWitnessBorne to) (sym (ap now r.is ∙ now-extend r.from r.calls)) (go (now r.from) r.calls r.holds (known r.from r.was))

syncs_through : (n : ℕ) (skip o : Option ℕ) (s : Disks) (cs : List Call) → EachCall (UsesSync n skip) s cs → IsWitnessBorne o s → IsWitnessBorne o (run s cs)
syncs_through n skip o s [] each borne = borne
syncs_through n skip o s (Sync d done ∷ cs) each borne =
    syncs_through n skip o (step (Sync d done) s) cs each.2 (λ x low is. sync_sure s d done 2 x (λ b. is_open b ≡ true) (borne x low is))
syncs_through n skip o s (Read d p done ∷ cs) each borne = absurd each.1
syncs_through n skip o s (Write d p b done ∷ cs) each borne = absurd each.1
syncs_through n skip o s (Park d done ∷ cs) each borne = absurd each.1
syncs_through n skip o s (SpinUp d done ∷ cs) each borne = absurd each.1
syncs_through n skip o s (Attach d size done ∷ cs) each borne = absurd each.1

pub known_syncs : {old new : Option Trail} (n : ℕ) (skip o : Option ℕ) → Ran old new (EachCall (UsesSync n skip)) → IsBorneNow o old → IsBorneNow o new
known_syncs n skip o = known_ran o o (λ s cs each. syncs_through n skip o s cs each)
