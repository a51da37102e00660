-- What a write or a sync keeps and gives, done, failed or left out.
use Rattle.std.proofs.Common.{◌≡◌, ◌≢◌, ℕ, Bool, refl}
use Rattle.paraid_rack.specs.declared.call.Power.TheVariants.{Absent}
use Rattle.paraid_rack.specs.declared.call.Call.TheVariants.{Write, Sync}
use Rattle.paraid_base.specs.declared.block.Block.{Block}
use Rattle.paraid_rack.specs.Disks.{Disks, IsPresent, step}
use Rattle.paraid_rack.specs.Atoms.{IsSure, IsSeen}
use Rattle.paraid_rack.proofs.AtomsLemmas.{write_sure, write_seen, write_here, write_present, write_power, write_size, sync_sure, sync_seen, sync_here, sync_present, sync_power, sync_size, absent_sure, absent_seen}

-- the disks that are present after a call were so before, with the same power and size
pub record Keeps (s s' : Disks) : Type 0 where
  pub present : (d : ℕ) → IsPresent s' d → IsPresent s d
  pub power : (d : ℕ) → IsPresent s' d → s'.power d ≡ s.power d
  pub size : (d : ℕ) → IsPresent s' d → s'.size d ≡ s.size d

pub keeps_all : (s : Disks) → Keeps s s
keeps_all s = record { present = λ d here. here; power = λ d here. refl; size = λ d here. refl }

pub record Wrote (s s' : Disks) (d0 p0 : ℕ) (b : Block) : Type 1 where
  pub keeps : Keeps s s'
  pub sure : (d p : ℕ) (Q : Block → Type 0) → (d ≡ d0 → p ≢ p0) → IsSure s d p Q → IsSure s' d p Q
  pub seen : (d p : ℕ) (Q : Block → Type 0) → (d ≡ d0 → p ≢ p0) → IsSeen s d p Q → IsSeen s' d p Q
  pub here : (Q : Block → Type 0) → Q b → IsSeen s' d0 p0 Q

pub record Synced (s s' : Disks) (d0 : ℕ) : Type 1 where
  pub keeps : Keeps s s'
  pub sure : (d p : ℕ) (Q : Block → Type 0) → IsSure s d p Q → IsSure s' d p Q
  pub seen : (d p : ℕ) (Q : Block → Type 0) → IsSeen s d p Q → IsSeen s' d p Q
  pub here : (p : ℕ) (Q : Block → Type 0) → IsSeen s d0 p Q → IsSure s' d0 p Q

pub wrote_step : (s : Disks) (d0 p0 : ℕ) (b : Block) (done : Bool) → Wrote s (step (Write d0 p0 b done) s) d0 p0 b
wrote_step s d0 p0 b done = record {
  keeps = record { present = write_present s d0 p0 b done; power = write_power s d0 p0 b done; size = write_size s d0 p0 b done };
  sure = λ d p Q apart h. write_sure s d0 p0 b done d p Q apart h;
  seen = λ d p Q apart h. write_seen s d0 p0 b done d p Q apart h;
  here = λ Q q. write_here s d0 p0 b done Q q;
}

pub wrote_none : (s : Disks) (d0 p0 : ℕ) (b : Block) → s.power d0 ≡ Absent → Wrote s s d0 p0 b
wrote_none s d0 p0 b gone = record { keeps = keeps_all s; sure = λ d p Q apart h. h; seen = λ d p Q apart h. h; here = λ Q q. absent_seen s d0 p0 Q gone }

pub synced_step : (s : Disks) (d0 : ℕ) (done : Bool) → Synced s (step (Sync d0 done) s) d0
synced_step s d0 done = record {
  keeps = record { present = sync_present s d0 done; power = sync_power s d0 done; size = sync_size s d0 done };
  sure = λ d p Q h. sync_sure s d0 done d p Q h;
  seen = λ d p Q h. sync_seen s d0 done d p Q h;
  here = λ p Q h. sync_here s d0 done p Q h;
}

pub synced_none : (s : Disks) (d0 : ℕ) → s.power d0 ≡ Absent → Synced s s d0
synced_none s d0 gone = record { keeps = keeps_all s; sure = λ d p Q h. h; seen = λ d p Q h. h; here = λ p Q h. absent_sure s d0 p Q gone }

-- seen, and not loose
pub synced_sure : {s : Disks} {d p : ℕ} {Q : Block → Type 0} → IsSeen s d p Q → IsSure s d p (λ b. Unit {0}) → IsSure s d p Q
synced_sure seen synced = record { holds = λ here. ((synced.holds here).0, seen.holds here) }

pub sure_synced : {s : Disks} {d p : ℕ} {Q : Block → Type 0} → IsSure s d p Q → IsSure s d p (λ b. Unit {0})
sure_synced sure = record { holds = λ here. ((sure.holds here).0, tt) }
