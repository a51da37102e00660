-- Which disk is out.
use Rattle.std.specs.Prelude.{◌≡◌, ◌≢◌, ℕ, ◌<◌, Bool, true, false, Option, Some, None, if◌then◌else◌}
use Rattle.std.proofs.Common.{refl, sym, ◌∙◌, ap, arith, inl, inr, zero, suc}
use Rattle.std.proofs.lemmas.Bool.{cases_eq, false≢true}
use Rattle.paraid_base.specs.declared.block.Block.{Block}
use Rattle.paraid_base.specs.declared.geometry.Geometry.{Geometry}
use Rattle.paraid_base.specs.declared.state.Out.{Out}
use Rattle.paraid_base.specs.declared.state.Out.TheVariants.{No, Gone, Fresh}
use Rattle.paraid_rack.specs.declared.call.Power.{Power}
use Rattle.paraid_rack.specs.Disks.{is_present}
use Rattle.paraid_record.specs.declared.meta.Meta.{Meta}
use Rattle.paraid_record.specs.Range.{IsInRange, IsOutInRange}
use Rattle.paraid_image.specs.Out.{IsMissing, first_absent, named_out, or_else, out_disk}
use Rattle.paraid_image.specs.Sides.{Batch, SaysBy}

pub says_in_range : (opened : Bool) (log : ℕ → Block) (m : Meta) (batch : Batch) → SaysBy opened log m batch → IsInRange m
says_in_range false log m batch s = s.meta.in_range
says_in_range true log m batch s = s.meta.in_range

-- an absent slot below `n`
abbrev IsAbsentBelow : (ℕ → Power) → ℕ → ℕ → Type 0
IsAbsentBelow power n u = (u < n) × (is_present (power u) ≡ false)

last_absent : (power : ℕ → Power) (n u : ℕ) (there : Bool) → is_present (power n) ≡ there
    → or_else None (if there then None else Some n) ≡ Some u → IsAbsentBelow power (suc n) u
last_absent power n u true is e = cc
last_absent power n u false is e =
    let same : n ≡ u = cc in
    (omega arith, ap (λ (k : ℕ). is_present (power k)) (sym same) ∙ is)

pub first_absent_is : (power : ℕ → Power) (n u : ℕ) → first_absent power n ≡ Some u → IsAbsentBelow power n u
unfolding first_absent
first_absent_is power zero u e = cc
first_absent_is power (suc n) u e = split (first_absent_is power n u) (first_absent power n) refl e
  where
    split : (first_absent power n ≡ Some u → IsAbsentBelow power n u) → (o : Option ℕ) → first_absent power n ≡ o
        → or_else o (if is_present (power n) then None else Some n) ≡ Some u → IsAbsentBelow power (suc n) u
    split smaller None is f = last_absent power n u (is_present (power n)) refl f
    split smaller (Some z) is f = let before = smaller (is ∙ f) in let low = before.0 in (omega arith, before.1)

-- an absent slot is found
pub first_absent_finds : (power : ℕ → Power) (n d : ℕ) → d < n → is_present (power d) ≡ false → (u : ℕ) × (first_absent power n ≡ Some u)
unfolding first_absent
first_absent_finds power zero d l absent = absurd (omega arith)
first_absent_finds power (suc n) d l absent = split (λ below. first_absent_finds power n d below absent) (first_absent power n) refl
  where
    split : (d < n → (u : ℕ) × (first_absent power n ≡ Some u)) → (o : Option ℕ) → first_absent power n ≡ o
        → (u : ℕ) × (or_else o (if is_present (power n) then None else Some n) ≡ Some u)
    split smaller (Some z) is = (z, refl)
    split smaller None is = elim (cases_eq d n) [
      | inl same ↦ let gone : is_present (power n) ≡ false = ap (λ (k : ℕ). is_present (power k)) (sym same) ∙ absent in (n, rw gone refl)
      | inr not ↦ let found = smaller (omega arith) in let k : None ≡ Some found.0 = sym is ∙ found.1 in cc
    ]

pub named_below : (g : Geometry) (gear : ℕ) (o : Out) (u : ℕ) → IsOutInRange g gear o → named_out o ≡ Some u → u < g.disks
named_below g gear No u range e = cc
named_below g gear (Gone d) u range e = let same : d ≡ u = cc in omega (arith, range)
named_below g gear (Fresh d rebuilt) u range e = let same : d ≡ u = cc in let l = range.0 in omega arith

-- where at most one disk is missing, a missing one is the out disk
pub missing_is_out : (power : ℕ → Power) (m : Meta) (d : ℕ) → IsInRange m
    → ((e f : ℕ) → IsMissing power m e → IsMissing power m f → e ≡ f) → IsMissing power m d → is_present (power d) ≡ false → out_disk power m ≡ Some d
missing_is_out power m d range single missing absent = split (named_out m.out) refl
  where
    split : (o : Option ℕ) → named_out m.out ≡ o → or_else o (first_absent power m.setup.geometry.disks) ≡ Some d
    split (Some u) is =
        ap Some (single u d (record { disk = named_below m.setup.geometry m.gear m.out u range.out is; is = inr is }) missing)
    split None is =
        let found = first_absent_finds power m.setup.geometry.disks d missing.disk absent in
        let there = first_absent_is power m.setup.geometry.disks found.0 found.1 in
        found.1 ∙ ap Some (single found.0 d (record { disk = there.0; is = inl there.1 }) missing)

-- a disk that is there is the out disk only where it is named
pub out_present : (power : ℕ → Power) (m : Meta) (y : ℕ) → is_present (power y) ≡ true → named_out m.out ≢ Some y → out_disk power m ≢ Some y
out_present power m y here not = split (named_out m.out) refl
  where
    split : (o : Option ℕ) → named_out m.out ≡ o → or_else o (first_absent power m.setup.geometry.disks) ≡ Some y → ⊥
    split (Some e) is same = not (is ∙ same)
    split None is same = false≢true (sym (first_absent_is power m.setup.geometry.disks y same).1 ∙ here)

-- the out disk is missing
pub out_missing : (power : ℕ → Power) (m : Meta) (w : ℕ) → IsInRange m → out_disk power m ≡ Some w → IsMissing power m w
out_missing power m w range is = split (named_out m.out) refl is
  where
    split : (o : Option ℕ) → named_out m.out ≡ o → or_else o (first_absent power m.setup.geometry.disks) ≡ Some w → IsMissing power m w
    split (Some e) name same = record { disk = named_below m.setup.geometry m.gear m.out w range.out (name ∙ same); is = inr (name ∙ same) }
    split None name same = let a = first_absent_is power m.setup.geometry.disks w same in record { disk = a.0; is = inl a.1 }
