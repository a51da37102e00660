-- A slot holds what the calls made of its disk, call by call.
use Rattle.std.proofs.Common.{◌≡◌, ◌≢◌, inl, inr, ℕ, ◌<◌, Bool, true, false, List, [], length, get_or, set, replicate, refl, sym, ◌∙◌, ap, arith}
use Rattle.std.proofs.lemmas.Bool.{cases_lt, false≢true, true≢false}
use Rattle.std.proofs.lemmas.List.{get_or-set_same, get_or-set_other, length-set, length-replicate, get_or-replicate, get_or_past}
use Rattle.paraid_base.specs.declared.block.Block.{Block}
use Rattle.paraid_base.specs.Xor.{zero_block}
use Rattle.paraid_rack.specs.declared.call.Power.{Power}
use Rattle.paraid_rack.specs.declared.call.Power.TheVariants.{Spinning, Parked, Absent}
use Rattle.paraid_rack.specs.declared.call.Call.{Call}
use Rattle.paraid_rack.specs.declared.call.Call.TheVariants.{Read, Write, Sync, Park, SpinUp, Attach}
use Rattle.paraid_rack.specs.Disks.{Disks, with_at, step, is_present, power_after, size_after}
use Rattle.paraid_rack.proofs.AtomsLemmas.{with_at_same, with_at_other, at_case}
use Rattle.paraid_memrack.specs.CallPlan.{dirt_after}
use Rattle.paraid_rack.specs.Calls.{disk_of, is_done}
use Rattle.paraid_memrack.specs.Slots.{FullSlot}
use Rattle.paraid_memrack.specs.Tells.{IsSlotOf}

pub holds_same : (s n : Disks) (e : ℕ) (v : FullSlot) → n.power e ≡ s.power e → n.size e ≡ s.size e → n.loose e ≡ s.loose e → n.block e ≡ s.block e → IsSlotOf s e v → IsSlotOf n e v
holds_same s n e v power size loose block h = record {
  power = power ∙ h.power;
  size = size ∙ h.size;
  loose = λ p is. h.loose p (ap (λ (f : ℕ → Bool). f p) (sym loose) ∙ is);
  block = λ here p. ap (λ (f : ℕ → Block). f p) block ∙ h.block here p;
}

-- a call on another disk
pub holds_other : (c : Call) (s : Disks) (e : ℕ) (v : FullSlot) → e ≢ disk_of c → IsSlotOf s e v → IsSlotOf (step c s) e v
unfolding step
holds_other (Read d p done) s e v not h = holds_same s _ e v (with_at_other s.power d _ e not) (with_at_other s.size d _ e not) refl refl h
holds_other (Write d p b done) s e v not h = holds_same s _ e v (with_at_other s.power d _ e not) (with_at_other s.size d _ e not) (with_at_other s.loose d _ e not) (with_at_other s.block d _ e not) h
holds_other (Sync d done) s e v not h = holds_same s _ e v (with_at_other s.power d _ e not) (with_at_other s.size d _ e not) (with_at_other s.loose d _ e not) refl h
holds_other (Park d done) s e v not h = holds_same s _ e v (with_at_other s.power d _ e not) (with_at_other s.size d _ e not) refl refl h
holds_other (SpinUp d done) s e v not h = holds_same s _ e v (with_at_other s.power d _ e not) (with_at_other s.size d _ e not) refl refl h
holds_other (Attach d size done) s e v not h = holds_same s _ e v (with_at_other s.power d _ e not) (with_at_other s.size d _ e not) (with_at_other s.loose d _ e not) (with_at_other s.block d _ e not) h

here_power : (s : Disks) (d : ℕ) (done : Bool) (power : Power) → with_at s.power d (power_after done power) d ≡ power_after done power
here_power s d done power = with_at_same s.power d (power_after done power) d refl

here_size : (s : Disks) (d : ℕ) (done : Bool) (size : ℕ) → with_at s.size d (size_after done size) d ≡ size_after done size
here_size s d done size = with_at_same s.size d (size_after done size) d refl

here_loose : (s : Disks) (d : ℕ) (f : ℕ → Bool) (p : ℕ) → with_at s.loose d f d p ≡ f p
here_loose s d f p = ap (λ (g : ℕ → Bool). g p) (with_at_same s.loose d f d refl)

here_block : (s : Disks) (d : ℕ) (f : ℕ → Block) (p : ℕ) → with_at s.block d f d p ≡ f p
here_block s d f p = ap (λ (g : ℕ → Block). g p) (with_at_same s.block d f d refl)

-- a failed call on this disk
wreck : (n : Disks) (d : ℕ) (w : FullSlot) → n.power d ≡ Absent → n.size d ≡ 0 → ((p : ℕ) → n.loose d p ≡ true → w.unsynced ≡ true) → w.power ≡ Absent → w.blocks ≡ [] → IsSlotOf n d w
wreck n d w power size loose gone empty = record {
  power = power ∙ sym gone;
  size = size ∙ sym (ap length empty);
  loose = loose;
  block = λ here. absurd (false≢true (sym (ap is_present gone) ∙ here));
}

dirty : {v : FullSlot} (w : FullSlot) {s : Disks} {d : ℕ} → IsSlotOf s d v → w.unsynced ≡ v.unsynced → (p : ℕ) → s.loose d p ≡ true → w.unsynced ≡ true
dirty w h same p is = same ∙ h.loose p is

pub holds_failed : (c : Call) (s : Disks) (v w : FullSlot) → is_done c ≡ false → w.power ≡ Absent → w.blocks ≡ [] → w.unsynced ≡ dirt_after c v.unsynced → IsSlotOf s (disk_of c) v → IsSlotOf (step c s) (disk_of c) w
unfolding step
holds_failed (Read d p true) s v w bad gone empty dirt h = absurd (true≢false bad)
holds_failed (Read d p false) s v w bad gone empty dirt h = wreck _ d w (here_power s d false (s.power d)) (here_size s d false (s.size d)) (dirty w h dirt) gone empty
holds_failed (Write d p b true) s v w bad gone empty dirt h = absurd (true≢false bad)
holds_failed (Write d p b false) s v w bad gone empty dirt h = wreck _ d w (here_power s d false (s.power d)) (here_size s d false (s.size d)) (λ q is. dirt) gone empty
holds_failed (Sync d true) s v w bad gone empty dirt h = absurd (true≢false bad)
holds_failed (Sync d false) s v w bad gone empty dirt h =
    wreck _ d w (here_power s d false (s.power d)) (here_size s d false (s.size d)) (λ q is. dirty w h dirt q (sym (here_loose s d (s.loose d) q) ∙ is)) gone empty
holds_failed (Park d true) s v w bad gone empty dirt h = absurd (true≢false bad)
holds_failed (Park d false) s v w bad gone empty dirt h = wreck _ d w (here_power s d false Parked) (here_size s d false (s.size d)) (dirty w h dirt) gone empty
holds_failed (SpinUp d true) s v w bad gone empty dirt h = absurd (true≢false bad)
holds_failed (SpinUp d false) s v w bad gone empty dirt h = wreck _ d w (here_power s d false Spinning) (here_size s d false (s.size d)) (dirty w h dirt) gone empty
holds_failed (Attach d size true) s v w bad gone empty dirt h = absurd (true≢false bad)
holds_failed (Attach d size false) s v w bad gone empty dirt h =
    wreck _ d w (here_power s d false Spinning) (here_size s d false size) (λ q is. dirty w h dirt q (sym (here_loose s d (s.loose d) q) ∙ is)) gone empty

module _ (s : Disks) (d : ℕ) (v : FullSlot) (h : IsSlotOf s d v) where
  pub holds_read : (p : ℕ) → IsSlotOf (step (Read d p true) s) d v
  unfolding step
  holds_read p = holds_same s _ d v (here_power s d true (s.power d)) (here_size s d true (s.size d)) refl refl h

  pub holds_write : (p : ℕ) (b : Block) → v.power ≡ Spinning → p < length v.blocks → IsSlotOf (step (Write d p b true) s) d (record v { blocks = set v.blocks p b; unsynced = true })
  unfolding step
  holds_write p b spins inside = record {
    power = here_power s d true (s.power d) ∙ h.power;
    size = here_size s d true (s.size d) ∙ h.size ∙ sym (length-set v.blocks p b);
    loose = λ q is. refl;
    block = λ here q. here_block s d (with_at (s.block d) p b) q ∙ at here q;
  }
    where
      at : is_present v.power ≡ true → (q : ℕ) → with_at (s.block d) p b q ≡ get_or (set v.blocks p b) q zero_block
      at here q = at_case (λ (x : Block). x ≡ get_or (set v.blocks p b) q zero_block) (s.block d) p b q
          (λ e. sym (ap (λ (k : ℕ). get_or (set v.blocks p b) k zero_block) e ∙ get_or-set_same v.blocks p b zero_block inside))
          (λ not. h.block here q ∙ sym (get_or-set_other v.blocks p q b zero_block not))

  pub holds_sync : IsSlotOf (step (Sync d true) s) d (record v { unsynced = false })
  unfolding step
  holds_sync = record {
    power = here_power s d true (s.power d) ∙ h.power;
    size = here_size s d true (s.size d) ∙ h.size;
    loose = λ q is. absurd (false≢true (sym (here_loose s d (λ p. false) q) ∙ is));
    block = h.block;
  }

  pub holds_park : v.power ≡ Spinning → IsSlotOf (step (Park d true) s) d (record v { power = Parked })
  unfolding step
  holds_park spins = record {
    power = here_power s d true Parked;
    size = here_size s d true (s.size d) ∙ h.size;
    loose = h.loose;
    block = λ here. h.block (ap is_present spins);
  }

  pub holds_spin_up : v.power ≡ Parked → IsSlotOf (step (SpinUp d true) s) d (record v { power = Spinning })
  unfolding step
  holds_spin_up stands = record {
    power = here_power s d true Spinning;
    size = here_size s d true (s.size d) ∙ h.size;
    loose = h.loose;
    block = λ here. h.block (ap is_present stands);
  }

-- a block of a fresh disk
at_zeros : (n q : ℕ) → get_or (replicate n zero_block) q zero_block ≡ zero_block
at_zeros n q = elim (cases_lt q n) [
  | inl lt ↦ get_or-replicate n q zero_block zero_block lt
  | inr past ↦ get_or_past (replicate n zero_block) q zero_block (omega (arith, length-replicate {A = Block} n zero_block, past))
]

pub holds_attach : (s : Disks) (d : ℕ) (v : FullSlot) (blocks : List Block) (size : ℕ) → blocks ≡ replicate size zero_block
    → IsSlotOf (step (Attach d size true) s) d (record v { power = Spinning; blocks = blocks; unsynced = false })
unfolding step
holds_attach s d v blocks size zeros = record {
  power = here_power s d true Spinning;
  size = here_size s d true size ∙ sym (ap length zeros ∙ length-replicate size zero_block);
  loose = λ q is. absurd (false≢true (sym (here_loose s d (λ p. false) q) ∙ is));
  block = λ here q. here_block s d (λ p. zero_block) q ∙ sym (ap (λ (l : List Block). get_or l q zero_block) zeros ∙ at_zeros size q);
}
