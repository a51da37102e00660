-- Syncs of all disks.
use Rattle.std.specs.Prelude.{◌≡◌, ◌≢◌, ℕ, ◌<◌, false, Option, Result, Ok, Err, IfErr, IsErrAnd}
use Rattle.std.proofs.Common.{refl, sym, ◌∙◌, ap, subst}
use Rattle.std.proofs.lemmas.Bool.{true≢false}
use Rattle.paraid_base.specs.declared.fault.Two.{Two}
use Rattle.paraid_rack.specs.declared.call.Call.TheVariants.{Sync}
use Rattle.paraid_rack.specs.declared.call.Power.{Power}
use Rattle.paraid_rack.specs.declared.call.Power.TheVariants.{Absent, Parked, Spinning}
use Rattle.paraid_rack.specs.declared.rack.Rack.{Ghosts}
use Rattle.paraid_rack.specs.Disks.{is_present}
use Rattle.paraid_rack.specs.Slots.{AreSlots, Slot}
use Rattle.paraid_txn.specs.declared.losses.Losses.{Losses}
use Rattle.paraid_txn.specs.CommitPart.{CommitPart}
use Rattle.paraid_txn.specs.Losses.{IsSyncedAt, AreCommitCalls}
use Rattle.paraid_txn.specs.Uses.{CanSync, IsThisCall, UsesSync}
use Rattle.paraid_txn.proofs.CommitPartLemmas.{CommitPart_milder}

-- a disk that does not spin has nothing unsynced
pub synced_unless_spinning : (count : ℕ) (slot : ℕ → Slot) (d : ℕ) → AreSlots count slot → (slot d).power ≢ Spinning → IsSyncedAt slot d
synced_unless_spinning count slot d are not here = slots_parked (slot d).power refl
  where
    slots_parked : (p : Power) → (slot d).power ≡ p → (slot d).unsynced ≡ false
    slots_parked Absent is = absurd (true≢false (sym here ∙ ap is_present is))
    slots_parked Parked is = are.parked d is
    slots_parked Spinning is = absurd (not is)

-- one sync
pub syncs : {R A : Type 0} {g : Ghosts R} {skip : Option ℕ} {disk : ℕ} {a b : Losses} {r s : R} {result : Result A Two} (n : ℕ) → disk < n
    → CommitPart g (IsThisCall skip disk (λ done. Sync disk done)) a b r s result → CommitPart g (UsesSync n skip) a b r s result
syncs {skip = skip} n low part = CommitPart_milder (λ c is. subst (UsesSync n skip) (sym is.2) (low, is.0)) part

-- what can be synced before some calls can be synced after them
pub sync_stays : {from to : Losses} {old new : ℕ → Slot} {n : ℕ} {skip : Option ℕ} → AreCommitCalls from to old new → CanSync n skip old → CanSync n skip new
sync_stays lasts can = record {
  within = λ d low not spins.
      let here = ap is_present spins in
      subst (λ (k : ℕ). 0 < k) (sym (lasts.size d here)) (can.within d low not (sym (lasts.power d here) ∙ spins));
}

-- why two are down, where a `?` hands it on
pub raised : {A : Type 0} (P : Two → Type 0) (result : Result A Two) (two : Two) → IsErrAnd result (λ other. other ≡ two) → P two → IfErr result P
raised P (Ok it) two is holds = tt
raised P (Err other) two is holds = subst P (sym is) holds
