-- Which disk is out.
use Rattle.std.specs.Prelude.{◌≡◌, ◌≢◌, ℕ, Bool, true, false, Option, Some, None}
use Rattle.std.proofs.Common.{ap, sym, ◌∙◌, arith}
use Rattle.std.proofs.lemmas.Bool.{false≢true}
use Rattle.std.proofs.lemmas.Bool.Decides.{nat_tests}
use Rattle.paraid_base.specs.declared.state.Out.{Out}
use Rattle.paraid_base.specs.declared.state.Out.TheVariants.{No, Gone, Fresh}
use Rattle.paraid_rack.specs.declared.call.Power.{Power}
use Rattle.paraid_rack.specs.Disks.{is_present}
use Rattle.paraid_image.specs.Out.{is_out}

is_out-itself : (o : Option ℕ) (d : ℕ) → o ≡ Some d → is_out o d ≡ true
is_out-itself None d e = cc
is_out-itself (Some x) d e = let same : x ≡ d = cc in grind (arith, nat_tests)

-- a disk that tests as not out is not
pub not_out : (o : Option ℕ) (d : ℕ) (test : Bool) → test ≡ is_out o d → test ≡ false → o ≢ Some d
not_out o d test told is e = false≢true (sym is ∙ told ∙ is_out-itself o d e)

-- an out disk that is not being rebuilt is not
pub no_fresh : (out : Out) (d rebuilt : ℕ) → out ≡ No → out ≡ Fresh d rebuilt → ⊥
no_fresh out d rebuilt none fresh = cc

pub gone_fresh : (out : Out) (gone d rebuilt : ℕ) → out ≡ Gone gone → out ≡ Fresh d rebuilt → ⊥
gone_fresh out gone d rebuilt is fresh = cc

-- the disk that is being rebuilt is one
pub same_fresh : (out : Out) (disk many d rebuilt : ℕ) → out ≡ Fresh disk many → out ≡ Fresh d rebuilt → disk ≡ d
same_fresh out disk many d rebuilt is fresh = cc

-- where it is not there, none is
pub none_fresh : (power : ℕ → Power) (out : Out) (disk many d rebuilt : ℕ) (test : Bool) → test ≡ is_present (power disk) → test ≡ false → out ≡ Fresh disk many → out ≡ Fresh d rebuilt
    → is_present (power d) ≡ true → ⊥
none_fresh power out disk many d rebuilt test told none is fresh here =
    false≢true (sym none ∙ told ∙ ap (λ (x : ℕ). is_present (power x)) (same_fresh out disk many d rebuilt is fresh) ∙ here)
