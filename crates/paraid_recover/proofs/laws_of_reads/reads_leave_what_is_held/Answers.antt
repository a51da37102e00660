use Rattle.std.specs.Prelude.{◌≡◌, ℕ, ◌<◌, Option, Some}
use Rattle.std.proofs.Common.{refl, sym, ◌∙◌, subst, arith, inl, inr}
use Rattle.paraid_base.specs.History.{History}
use Rattle.paraid_rack.specs.Disks.{Disks, IsImage, IsPresent, lose}
use Rattle.paraid_image.specs.HeldAt.{IsHeld}
use Rattle.paraid_image.specs.LostDisk.{IsLoss}
use Rattle.paraid_image.specs.Out.{IsWeak}
use Rattle.paraid_image.proofs.FailedCallLemmas.{IsHeld-lost}
use Rattle.paraid_recover.proofs.laws_of_reads.reads_leave_what_is_held.Goals as goal

lost_at : (slots : ℕ) (s t : Disks) (h : History) (lo : ℕ) (was down : Option ℕ) (d : ℕ) → d < 2 → t ≡ lose d s → IsPresent s d → down ≡ Some d
    → ((i : Disks) (w : ℕ) → IsImage s i → IsWeak i w → down ≡ Some w) → IsHeld slots s h lo was → IsHeld slots t h lo down
lost_at slots s t h lo was down d low is here at weak held =
    let loss : IsLoss s (lose d s) d = record { power = λ x. refl; size = λ x. refl; block = λ x p n. refl; loose = λ x p n. refl } in
    let lost = IsHeld-lost slots s (lose d s) h lo was d loss here
    (λ i x said image log_disk says. let n = said.meta.setup.geometry.disks_low in omega arith)
    (λ i w image p. let z : Some w ≡ Some d = sym (weak i w image p) ∙ at in cc) held in
    subst (λ (o : Option ℕ). IsHeld slots t h lo o) (sym at) (subst (λ (u : Disks). IsHeld slots u h lo (Some d)) (sym is) lost)

pub returns : goal.returns
returns c slots s t h lo was down among gone weak held = elim among [
  | inl same ↦ subst (λ (u : Disks). IsHeld slots u h lo down) (sym same) (record { whole = held.whole; lost = held.lost; weak = weak })
  | inr lost ↦ elim lost [
    | inl is ↦ let g = gone 0 (omega arith) is in lost_at slots s t h lo was down 0 (omega arith) is g.0 g.1 weak held
    | inr is ↦ let g = gone 1 (omega arith) is in lost_at slots s t h lo was down 1 (omega arith) is g.0 g.1 weak held
  ]
]
