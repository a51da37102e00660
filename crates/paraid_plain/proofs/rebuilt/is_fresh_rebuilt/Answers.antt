use Rattle.std.proofs.Common.{◌≡◌, ℕ, sym, ◌∙◌, subst}
use Rattle.paraid_base.specs.declared.state.Out.TheVariants.{Fresh}
use Rattle.paraid_image.specs.Sound.{AreRebuilt}
use Rattle.paraid_plain.specs.Images.{disks_in}
use Rattle.paraid_plain.specs.Parts.{IsFreshRebuilt}
use Rattle.paraid_plain.specs.Views.{view_at}
use Rattle.paraid_plain.proofs.TestLemmas.{reworded}
use Rattle.paraid_plain.proofs.rebuilt.is_fresh_rebuilt.Goals as goal

pub returns-else-not-is_present : goal.returns-else-not-is_present
returns-else-not-is_present c =
    let image = c.args.image.now in
    let view = view_at image c.args.says.now in
    let disk = c.in-Fresh.disk in
    let units = c.in-Fresh.rebuilt in
    reworded (IsFreshRebuilt (disks_in image).power view) c.are_rebuilt.result c.are_rebuilt.ensures
    (λ rebuilt d n is.
    let both : Fresh disk units ≡ Fresh d n = sym c.in-Fresh.is ∙ is.is in
    let same : disk ≡ d = cc in
    let many : units ≡ n = cc in
    subst (AreRebuilt view d) many (subst (λ (x : ℕ). AreRebuilt view x units) same rebuilt))
    (λ all. all disk units (record { is = c.in-Fresh.is; present = sym c.is_present.ensures ∙ c.if-not-is_present.false }))
