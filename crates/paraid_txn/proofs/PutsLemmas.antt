-- A write or a sync of a commit: done, failed, or left out where the disk is skipped or absent.
use Rattle.std.specs.Prelude.{◌≡◌, ◌≢◌, ◌⊎◌, ℕ, Option, Some, None}
use Rattle.std.proofs.Common.{sym, ap, subst, ◌∙◌, inl, inr}
use Rattle.std.proofs.lemmas.Bool.{cases_eq}
use Rattle.paraid_base.specs.declared.block.Block.{Block}
use Rattle.paraid_rack.specs.declared.call.Power.TheVariants.{Absent}
use Rattle.paraid_rack.specs.declared.call.Call.TheVariants.{Sync, Write}
use Rattle.paraid_rack.specs.Atoms.{IsSeen, IsSure}
use Rattle.paraid_rack.specs.Disks.{Disks, step}
use Rattle.paraid_rack.specs.Slots.{Agrees, Slot}
use Rattle.paraid_rack.specs.Told.{Ran, CrashTriple}
use Rattle.paraid_rack.specs.Trail.{Trail, now}
use Rattle.paraid_rack.proofs.EffectsLemmas.{Keeps, Synced, Wrote, keeps_all, synced_none, synced_step, wrote_none, wrote_step}
use Rattle.paraid_rack.proofs.TrailsLemmas.{called, stays}
use Rattle.paraid_txn.specs.Losses.{MayDo}
use Rattle.paraid_txn.specs.Losses.MayDo.{skipped, absent, called as made}

-- a disk is the one that is skipped, or not
pub skips : (skip : Option ℕ) (d : ℕ) → (skip ≡ Some d) ⊎ (skip ≢ Some d)
skips None d = inr (λ is. cc)
skips (Some e) d = elim (cases_eq e d) [
  | inl is ↦ inl (ap (λ (x : ℕ). Some x) is)
  | inr not ↦ inr (λ is. not (let same : e ≡ d = cc in same))
]

-- what a write keeps and gives
pub record Puts (skip : Option ℕ) (s s' : Disks) (d0 p0 : ℕ) (b : Block) : Type 1 where
  pub keeps : Keeps s s'
  pub sure : (d p : ℕ) (Q : Block → Type 0) → (skip ≢ Some d0 → d ≡ d0 → p ≢ p0) → IsSure s d p Q → IsSure s' d p Q
  pub seen : (d p : ℕ) (Q : Block → Type 0) → (skip ≢ Some d0 → d ≡ d0 → p ≢ p0) → IsSeen s d p Q → IsSeen s' d p Q
  pub here : (Q : Block → Type 0) → skip ≢ Some d0 → Q b → IsSeen s' d0 p0 Q

-- what a sync keeps and gives
pub record Settles (skip : Option ℕ) (s s' : Disks) (d0 : ℕ) : Type 1 where
  pub keeps : Keeps s s'
  pub sure : (d p : ℕ) (Q : Block → Type 0) → IsSure s d p Q → IsSure s' d p Q
  pub seen : (d p : ℕ) (Q : Block → Type 0) → IsSeen s d p Q → IsSeen s' d p Q
  pub here : (p : ℕ) (Q : Block → Type 0) → skip ≢ Some d0 → IsSeen s d0 p Q → IsSure s' d0 p Q

module _ (skip : Option ℕ) (s : Disks) where
  puts_made : (s' : Disks) (d0 p0 : ℕ) (b : Block) → skip ≢ Some d0 → Wrote s s' d0 p0 b → Puts skip s s' d0 p0 b
  puts_made s' d0 p0 b not w = record {
    keeps = w.keeps;
    sure = λ d p Q apart h. w.sure d p Q (apart not) h;
    seen = λ d p Q apart h. w.seen d p Q (apart not) h;
    here = λ Q _ q. w.here Q q;
  }

  puts_absent : (d0 p0 : ℕ) (b : Block) → s.power d0 ≡ Absent → Puts skip s s d0 p0 b
  puts_absent d0 p0 b gone = record {
    keeps = keeps_all s;
    sure = λ d p Q apart h. h;
    seen = λ d p Q apart h. h;
    here = λ Q _ q. (wrote_none s d0 p0 b gone).here Q q;
  }

  puts_skipped : (d0 p0 : ℕ) (b : Block) → skip ≡ Some d0 → Puts skip s s d0 p0 b
  puts_skipped d0 p0 b is = record {
    keeps = keeps_all s;
    sure = λ d p Q apart h. h;
    seen = λ d p Q apart h. h;
    here = λ Q not q. absurd (not is);
  }

  settles_made : (s' : Disks) (d0 : ℕ) → Synced s s' d0 → Settles skip s s' d0
  settles_made s' d0 w = record { keeps = w.keeps; sure = w.sure; seen = w.seen; here = λ p Q _ h. w.here p Q h }

  settles_skipped : (d0 : ℕ) → skip ≡ Some d0 → Settles skip s s d0
  settles_skipped d0 is = record {
    keeps = keeps_all s;
    sure = λ d p Q h. h;
    seen = λ d p Q h. h;
    here = λ p Q not h. absurd (not is);
  }

-- what leads from A to B at each write leads there over this one
pub put_ran : {P A B : Disks → Type 0} {old new : Option Trail} {slot : ℕ → Slot} {skip : Option ℕ} {d p : ℕ} {b : Block}
    → ((t : Trail) → old ≡ Some t → Agrees (now t) slot)
    → MayDo old new slot skip d (λ done. Write d p b done)
    → ((s : Disks) → A s → P s) → ((s : Disks) → B s → P s)
    → ((s s' : Disks) → Puts skip s s' d p b → A s → B s')
    → Ran old new (CrashTriple P A B)
put_ran {P} {A} {B} {old} {skip} {d} {p} {b} agrees (skipped is same) is_a is_b go =
    subst (λ (o : Option Trail). Ran old o (CrashTriple P A B)) (sym same)
    (stays P A B old is_b (λ t tells a. go (now t) (now t) (puts_skipped skip (now t) d p b is) a))
put_ran {P} {A} {B} {old} {skip} {d} {p} {b} agrees (absent gone same) is_a is_b go =
    subst (λ (o : Option Trail). Ran old o (CrashTriple P A B)) (sym same)
    (stays P A B old is_b (λ t tells a. go (now t) (now t) (puts_absent skip (now t) d p b ((agrees t tells).power d ∙ gone)) a))
put_ran {P} {A} {B} {old} {new} {skip} {d} {p} {b} agrees (made not done grows) is_a is_b go =
    called P A B old new (Write d p b done) grows is_a is_b
    (λ s a. go s (step (Write d p b done) s) (puts_made skip s _ d p b not (wrote_step s d p b done)) a)

-- and so at each sync
pub sync_slot_ran : {P A B : Disks → Type 0} {old new : Option Trail} {slot : ℕ → Slot} {skip : Option ℕ} {d : ℕ}
    → ((t : Trail) → old ≡ Some t → Agrees (now t) slot)
    → MayDo old new slot skip d (λ done. Sync d done)
    → ((s : Disks) → A s → P s) → ((s : Disks) → B s → P s)
    → ((s s' : Disks) → Settles skip s s' d → A s → B s')
    → Ran old new (CrashTriple P A B)
sync_slot_ran {P} {A} {B} {old} {skip} {d} agrees (skipped is same) is_a is_b go =
    subst (λ (o : Option Trail). Ran old o (CrashTriple P A B)) (sym same)
    (stays P A B old is_b (λ t tells a. go (now t) (now t) (settles_skipped skip (now t) d is) a))
sync_slot_ran {P} {A} {B} {old} {skip} {d} agrees (absent gone same) is_a is_b go =
    subst (λ (o : Option Trail). Ran old o (CrashTriple P A B)) (sym same)
    (stays P A B old is_b (λ t tells a.
    go (now t) (now t) (settles_made skip (now t) (now t) d (synced_none (now t) d ((agrees t tells).power d ∙ gone))) a))
sync_slot_ran {P} {A} {B} {old} {new} {skip} {d} agrees (made not done grows) is_a is_b go =
    called P A B old new (Sync d done) grows is_a is_b
    (λ s a. go s (step (Sync d done) s) (settles_made skip s _ d (synced_step s d done)) a)
