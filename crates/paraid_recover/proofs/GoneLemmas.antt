-- Which disks are absent since, where two are down after some parts of a mount.
use Rattle.std.specs.Prelude.{◌≡◌, ℕ, ◌<◌, ◌⊎◌, Bool, true, false, Option, Some, None}
use Rattle.std.proofs.Common.{refl, sym, ◌∙◌, ap, inl, inr}
use Rattle.std.proofs.lemmas.Bool.{false≢true}
use Rattle.paraid_base.specs.declared.fault.Two.{Two}
use Rattle.paraid_rack.specs.declared.call.Power.{Power}
use Rattle.paraid_rack.specs.declared.call.Power.TheVariants.{Absent}
use Rattle.paraid_rack.specs.Disks.{is_present}
use Rattle.paraid_rack.specs.Slots.{Slot}
use Rattle.paraid_record.specs.declared.meta.Meta.{Meta}
use Rattle.paraid_image.specs.Out.{first_absent, named_out, or_else}
use Rattle.paraid_txn.specs.Losses.{AreGoneSince, IsGoneSince, IsOutOfCommit, OnlyLosesSlots}
use Rattle.paraid_txn.specs.Losses.IsOutOfCommit.{is_absent, was_named, is_named}
use Rattle.paraid_txn.proofs.MeansLemmas.{absent_power}
use Rattle.paraid_recover.specs.RecoveryMark.{with_mark}
use Rattle.paraid_recover.proofs.PowersLemmas.{out_is}
use Rattle.paraid_recover.proofs.RenewLemmas.{renewed_out}

-- each disk that is there was there before
abbrev pub NoneComes : (ℕ → Slot) → (ℕ → Slot) → Type 0
NoneComes a b = (d : ℕ) → is_present (b d).power ≡ true → is_present (a d).power ≡ true

pub none_comes : (a b : ℕ → Slot) → OnlyLosesSlots a b → NoneComes a b
none_comes a b spared d here = ap is_present (sym (spared.power d here)) ∙ here

pub none_then : (a b c : ℕ → Slot) → NoneComes a b → NoneComes b c → NoneComes a c
none_then a b c first second d here = first d (second d here)

-- so one that is absent stays so
pub stays_absent : (a b : ℕ → Slot) (d : ℕ) → NoneComes a b → (a d).power ≡ Absent → (b d).power ≡ Absent
stays_absent a b d there gone = split (is_present (b d).power) refl
  where
    split : (x : Bool) → is_present (b d).power ≡ x → (b d).power ≡ Absent
    split false off = absent_power (b d).power off
    split true here = absurd (false≢true (sym (ap is_present gone) ∙ there d here))

pub since_sooner : (a b c : ℕ → Slot) (d : ℕ) → NoneComes a b → IsGoneSince b c d → IsGoneSince a c d
since_sooner a b c d there gone = record { there = there d gone.there; absent = gone.absent }

-- by other disks that were out
pub gone_beside : (P Q : ℕ → Type 0) (a b : ℕ → Slot) (two : Two) → ((d : ℕ) → P d → Q d) → AreGoneSince P a b two → AreGoneSince Q a b two
gone_beside P Q a b two more it = record { first = elim it.first [ inl out ↦ inl (more two.first out) | inr gone ↦ inr gone ]; second = it.second }

-- seen from before an earlier part
module _ (n : ℕ) (named : Option ℕ) (a b c : ℕ → Slot) (before : NoneComes a b) (after : (d : ℕ) → (b d).power ≡ Absent → (c d).power ≡ Absent) where
  out_before : (d : ℕ) → IsOutOfCommit (λ e. (b e).power) n named None d → IsOutOfCommit (λ e. (a e).power) n named None d ⊎ IsGoneSince a c d
  out_before d (was_named is) = inl (was_named is)
  out_before d (is_named is) = inl (is_named is)
  out_before d (is_absent low gone) = split (is_present (a d).power) refl
    where
      split : (x : Bool) → is_present (a d).power ≡ x → IsOutOfCommit (λ e. (a e).power) n named None d ⊎ IsGoneSince a c d
      split false off = inl (is_absent low (absent_power (a d).power off))
      split true here = inr (record { there = here; absent = after d gone })

  pub gone_sooner : (two : Two) → AreGoneSince (IsOutOfCommit (λ e. (b e).power) n named None) b c two → AreGoneSince (IsOutOfCommit (λ e. (a e).power) n named None) a c two
  gone_sooner two it = record {
    first = elim it.first [ inl out ↦ out_before two.first out | inr gone ↦ inr (since_sooner a b c two.first before gone) ];
    second = since_sooner a b c two.second before it.second;
  }

-- who is out, told otherwise
module _ (power : ℕ → Power) (n : ℕ) (named : Option ℕ) where
  pub out_named_twice : (d : ℕ) → IsOutOfCommit power n named named d → IsOutOfCommit power n named None d
  out_named_twice d (is_absent low gone) = is_absent low gone
  out_named_twice d (was_named name) = was_named name
  out_named_twice d (is_named name) = was_named name

  pub out_unmarked : (mark : Option ℕ) → ((d : ℕ) → mark ≡ Some d → (d < n) × (is_present (power d) ≡ false)) → (d : ℕ) → IsOutOfCommit power n named mark d → IsOutOfCommit power n named None d
  out_unmarked mark marks d (is_absent low gone) = is_absent low gone
  out_unmarked mark marks d (was_named name) = was_named name
  out_unmarked mark marks d (is_named name) = let m = marks d name in is_absent m.0 (absent_power (power d) m.1)

  pub out_by_name : (out : Option ℕ) → out ≡ or_else named (first_absent power n) → (d : ℕ) → out ≡ Some d → IsOutOfCommit power n named None d
  out_by_name out is d was = out_is power n named d (sym is ∙ was)

-- once a disk is marked
pub out_marked : (m : Meta) (mark : Option ℕ) (power : ℕ → Power) → ((d : ℕ) → mark ≡ Some d → (is_present (power d) ≡ false) × (d < m.setup.geometry.disks))
    → (d : ℕ) → IsOutOfCommit power m.setup.geometry.disks (named_out (with_mark m mark).out) None d → IsOutOfCommit power m.setup.geometry.disks (named_out m.out) None d
out_marked m mark power gone d (is_absent low off) = is_absent low off
out_marked m mark power gone d (is_named name) = absurd (let z : None ≡ Some d = name in cc)
out_marked m None power gone d (was_named name) = was_named (sym (ap named_out (renewed_out m)) ∙ name)
out_marked m (Some e) power gone d (was_named name) =
    let z : Some e ≡ Some d = name in
    let same : e ≡ d = cc in
    let it = gone d (ap Some same) in
    is_absent it.1 (absent_power (power d) it.0)
