-- A block that is stored is read, and nothing changes.
use Rattle.std.specs.Prelude.{◌≡◌, ℕ, Bool, true, List, Option}
use Rattle.std.proofs.Common.{sym, subst}
use Rattle.paraid_base.specs.History.{History}
use Rattle.paraid_rack.specs.declared.call.Call.TheVariants.{Read}
use Rattle.paraid_rack.specs.Disks.{Disks, step}
use Rattle.paraid_record.specs.declared.meta.Meta.{Meta}
use Rattle.paraid_image.specs.Sides.{Batch}
use Rattle.paraid_core.specs.CoreInvariant.{HoldsBetweenCalls}
use Rattle.paraid_core.proofs.SettleLemmas.{self_at}

read_is : (s : Disks) (d p : ℕ) → step (Read d p true) s ≡ s
unfolding step
read_is s d p = λ i. record { power = self_at s.power d i; size = self_at s.size d i; block = s.block; loose = s.loose }

pub keeps_read : (slots : ℕ) (named : Option ℕ) (m : Meta) (table : List (List Bool)) (batch : Batch) (copied : List Bool) (h : History) (lo : ℕ) (s : Disks) (d p : ℕ) (done : Bool) → done ≡ true
    → HoldsBetweenCalls slots named m table batch copied h lo s → HoldsBetweenCalls slots named m table batch copied h lo (step (Read d p done) s)
keeps_read slots named m table batch copied h lo s d p done is k =
    subst (λ (b : Bool). HoldsBetweenCalls slots named m table batch copied h lo (step (Read d p b) s)) (sym is)
    (subst (HoldsBetweenCalls slots named m table batch copied h lo) (sym (read_is s d p)) k)
