-- Reads, writes and syncs leave the spin-ups and the powers.
use Rattle.std.proofs.Common.{◌≡◌, ℕ, Bool, true, false, List, [], ◌∷◌, refl, sym, ap, ◌∙◌, inl, inr, arith}
use Rattle.std.proofs.lemmas.Bool.{cases_eq, false≢true}
use Rattle.paraid_rack.specs.declared.call.Call.{Call}
use Rattle.paraid_rack.specs.declared.call.Call.TheVariants.{Read, Write, Sync, Park, SpinUp, Attach}
use Rattle.paraid_rack.specs.declared.call.Power.TheVariants.{Absent}
use Rattle.paraid_rack.specs.Disks.{Disks, IsPresent, is_present, power_after, step, with_at}
use Rattle.paraid_rack.specs.Calls.{IsTransfer}
use Rattle.paraid_rack.proofs.AtomsLemmas.{with_at_other, with_at_same}
use Rattle.paraid_session.specs.Watch.{Bounds, Each, Watch, watch, watch_all}
use Rattle.paraid_recover.specs.StartCalls.{IsSpinUpRecorded}
use Rattle.paraid_recover.specs.RecordedSpins.{StaysWithin, StaysWithinAt}
use Rattle.paraid_recover.proofs.SetupLemmas.{self_at}
use Rattle.paraid_recover.proofs.SpinsLemmas.{looked_power, same_used}
use Rattle.paraid_txn.specs.Uses.{EachCall}

power_at : (s : Disks) (e x : ℕ) (done : Bool) → is_present (with_at s.power e (power_after done (s.power e)) x) ≡ true → with_at s.power e (power_after done (s.power e)) x ≡ s.power x
power_at s e x true here = self_at s.power e x
power_at s e x false here = elim (cases_eq x e) [
  | inl is ↦ absurd (false≢true (sym (ap is_present (with_at_same s.power e Absent x is)) ∙ here))
  | inr apart ↦ with_at_other s.power e Absent x apart
]

still_power : (s : Disks) (c : Call) (x : ℕ) → IsTransfer c → IsPresent (step c s) x → (step c s).power x ≡ s.power x
unfolding step
still_power s (Read e p done) x still here = power_at s e x done here
still_power s (Write e p b done) x still here = power_at s e x done here
still_power s (Sync e done) x still here = power_at s e x done here
still_power s (Park e done) x still here = absurd still
still_power s (SpinUp e done) x still here = absurd still
still_power s (Attach e size done) x still here = absurd still

still_spun : (w : Watch) (c : Call) (d : ℕ) → IsTransfer c → (watch c w).spun d ≡ w.spun d
still_spun w (Read e p done) d still = refl
still_spun w (Write e p b done) d still = refl
still_spun w (Sync e done) d still = refl
still_spun w (Park e done) d still = absurd still
still_spun w (SpinUp e done) d still = absurd still
still_spun w (Attach e size done) d still = absurd still

-- so they are at the end
pub still_end : (w : Watch) (cs : List Call) (d : ℕ) → EachCall IsTransfer w.disks cs → ((watch_all cs w).spun d ≡ w.spun d) × (IsPresent (watch_all cs w).disks d → (watch_all cs w).disks.power d ≡ w.disks.power d)
still_end w [] d each = (refl, λ here. refl)
still_end w (c ∷ cs) d each =
    let later = still_end (watch c w) cs d each.2 in (
      later.0 ∙ still_spun w c d each.1,
      (λ here. let after = later.1 here in after ∙ still_power w.disks c d each.1 (ap is_present (sym after) ∙ here)),
    )

no_spin_up : (w : Watch) (c : Call) → IsTransfer c → IsSpinUpRecorded w c
no_spin_up w (Read e p done) still = record { recorded = λ d made at. absurd (let z : Read e p done ≡ SpinUp d made = at in cc) }
no_spin_up w (Write e p b done) still = record { recorded = λ d made at. absurd (let z : Write e p b done ≡ SpinUp d made = at in cc) }
no_spin_up w (Sync e done) still = record { recorded = λ d made at. absurd (let z : Sync e done ≡ SpinUp d made = at in cc) }
no_spin_up w (Park e done) still = absurd still
no_spin_up w (SpinUp e done) still = absurd still
no_spin_up w (Attach e size done) still = absurd still

module _ (b : Bounds) (spun : ℕ → ℕ) (s : Disks) where
  now_within : (w : Watch) → ((d : ℕ) → w.spun d ≡ spun d) → ((d : ℕ) → IsPresent w.disks d → w.disks.power d ≡ s.power d) → StaysWithinAt b spun s w → StaysWithin b w
  now_within w count powers at serving x i said looked stands =
      let it = at serving x i said looked stands in
      record {
        same_setup = it.same_setup;
        in_time = it.in_time;
        counted_ticks = it.counted_ticks;
        recorded = λ d low here not.
            let there = looked_power w.disks i d looked here in
            let power = there ∙ powers d (ap is_present (sym there) ∙ here) in
            let used = same_used said.meta i.power s.power d power in
            let spins = it.recorded d low here not in
            let same = count d in
            omega (arith, used, spins, same);
      }

  -- Where what stands is within the bounds by the powers at the start, it is so at each moment.
  pub each_still : (w : Watch) (cs : List Call) → ((d : ℕ) → w.spun d ≡ spun d) → ((d : ℕ) → IsPresent w.disks d → w.disks.power d ≡ s.power d) → EachCall IsTransfer w.disks cs
      → Each (StaysWithinAt b spun s) (λ (v : Watch) (c : Call). Unit {0}) w cs → Each (StaysWithin b) IsSpinUpRecorded w cs
  each_still w [] count powers each at = now_within w count powers at
  each_still w (c ∷ cs) count powers each at = (
    now_within w count powers at.0,
    no_spin_up w c each.1,
    each_still (watch c w) cs (λ d. still_spun w c d each.1 ∙ count d)
        (λ d here. let before = still_power w.disks c d each.1 here in before ∙ powers d (ap is_present (sym before) ∙ here)) each.2 at.2,
  )
