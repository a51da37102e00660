use Rattle.std.specs.Prelude.{◌≡◌, ℕ, Bool, true, false, not, IsTrue}
use Rattle.std.proofs.Common.{ap, refl, sym, ◌∙◌, subst}
use Rattle.std.proofs.lemmas.Bool.{false≢true}
use Rattle.paraid_image.specs.Sides.{is_open, stored_block}
use Rattle.paraid_image.specs.Sound.{IsFresh}
use Rattle.paraid_plain.specs.Images.{disks_in}
use Rattle.paraid_plain.specs.LogParts.{IsFreshShut}
use Rattle.paraid_plain.proofs.OutLemmas.{gone_fresh, no_fresh, same_fresh}
use Rattle.paraid_plain.proofs.TestLemmas.{accepted}
use Rattle.paraid_plain.proofs.log.is_fresh_shut.Goals as goal

pub returns-in-No : goal.returns-in-No
returns-in-No c =
    let says = c.args.says.now in
    accepted (IsFreshShut (disks_in c.args.image.now) says.meta) (λ d rebuilt is low. absurd (no_fresh says.meta.out d rebuilt c.in-No.is is.is))

pub returns-in-Gone : goal.returns-in-Gone
returns-in-Gone c =
    let says = c.args.says.now in
    accepted (IsFreshShut (disks_in c.args.image.now) says.meta) (λ d rebuilt is low. absurd (gone_fresh says.meta.out _ d rebuilt c.in-Gone.is is.is))

-- a test that is not passed
not_so : (test : Bool) → IsTrue (not test) → test ≡ false
not_so true t = absurd (false≢true t)
not_so false t = refl

pub returns-else-disk-ge2 : goal.returns-else-disk-ge2
returns-else-disk-ge2 c =
    let i = disks_in c.args.image.now in
    let says = c.args.says.now in
    let test = c.is_gate_open.result in (
      λ shut d rebuilt is low.
          subst (λ (x : ℕ). is_open (stored_block i x 0) ≡ false) (same_fresh says.meta.out c.in-Fresh.disk c.in-Fresh.rebuilt d rebuilt c.in-Fresh.is is.is)
          (sym c.is_gate_open.ensures ∙ not_so test shut),
      λ all.
          let fresh : IsFresh i.power says.meta c.in-Fresh.disk c.in-Fresh.rebuilt = record { is = c.in-Fresh.is; present = sym c.is_present.ensures ∙ c.if-disk-ge2.false.0 } in
          ap not (c.is_gate_open.ensures ∙ all c.in-Fresh.disk c.in-Fresh.rebuilt fresh c.if-disk-ge2.false.1),
    )
