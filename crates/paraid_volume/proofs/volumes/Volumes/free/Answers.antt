use Rattle.std.proofs.Common.{ℕ, ◌≤◌, ◌∙◌, ap, subst, sym}
use Rattle.paraid_volume.specs.TableBlocks.{in_table}
use Rattle.paraid_volume.specs.Tables.{extents_owned, owner_in}
use Rattle.paraid_volume.proofs.ExtentLemmas.{extents_few}
use Rattle.paraid_volume.proofs.volumes.Volumes.free.Goals as goal

pub owned-requires : goal.owned-requires
owned-requires g c = let v = c.args.self.now in subst (λ (n : ℕ). n ≤ 2048) (sym v.counted) (extents_few _ v.large)

pub returns : goal.returns
returns g c = let v = c.args.self.now in c.owned.ensures.value ∙ ap (λ (n : ℕ). extents_owned (owner_in (in_table v.table)) 0 n) v.counted
