use Rattle.std.proofs.Common.{◌≡◌, ◌≤◌, ℕ, not, ap, sym, ◌∙◌, subst}
use Rattle.paraid_base.specs.Regions.{disk_size}
use Rattle.paraid_rack.specs.declared.call.Power.TheVariants.{Spinning}
use Rattle.paraid_plain.specs.Images.{disks_in}
use Rattle.paraid_plain.specs.Parts.{IsFreshReady}
use Rattle.paraid_plain.proofs.OutLemmas.{gone_fresh, no_fresh, none_fresh, same_fresh}
use Rattle.paraid_plain.proofs.TestLemmas.{accepted, reworded}
use Rattle.paraid_plain.proofs.disks.is_fresh_ready.Goals as goal

pub returns-in-No : goal.returns-in-No
returns-in-No c =
    let says = c.args.says.now in
    accepted (IsFreshReady (disks_in c.args.image.now) says.meta) (λ d rebuilt is. absurd (no_fresh says.meta.out d rebuilt c.in-No.is is.is))

pub returns-in-Gone : goal.returns-in-Gone
returns-in-Gone c =
    let says = c.args.says.now in
    accepted (IsFreshReady (disks_in c.args.image.now) says.meta) (λ d rebuilt is. absurd (gone_fresh says.meta.out _ d rebuilt c.in-Gone.is is.is))

pub returns-then-not-is_present : goal.returns-then-not-is_present
returns-then-not-is_present c =
    let says = c.args.says.now in (
      λ _ d rebuilt is. absurd (none_fresh (disks_in c.args.image.now).power says.meta.out c.in-Fresh.disk c.in-Fresh.rebuilt d rebuilt c.is_present.result c.is_present.ensures c.if-not-is_present.true c.in-Fresh.is is.is is.present),
      λ _. ap not c.if-not-is_present.true,
    )

pub returns-else-not-is_present : goal.returns-else-not-is_present
returns-else-not-is_present c =
    let i = disks_in c.args.image.now in
    let says = c.args.says.now in
    reworded (IsFreshReady i says.meta) c.is_ready.result c.is_ready.ensures
    (λ ready d rebuilt is. subst (λ (x : ℕ). (disk_size says.meta.setup.geometry ≤ i.size x) × (i.power x ≡ Spinning)) (same_fresh says.meta.out c.in-Fresh.disk c.in-Fresh.rebuilt d rebuilt c.in-Fresh.is is.is) ready)
    (λ all. all c.in-Fresh.disk c.in-Fresh.rebuilt (record { is = c.in-Fresh.is; present = sym c.is_present.ensures ∙ c.if-not-is_present.false }))
