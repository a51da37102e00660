use Rattle.paraid_image.proofs.SidesLemmas.{Says-same}
use Rattle.paraid_image.proofs.StandingLemmas.{Stands-same, stands-from_sides}
use Rattle.paraid_image.proofs.laws.one_log_disk_stands.Goals as goal

pub returns : goal.returns
returns c = record {
  says = Says-same;
  disk = λ i x y a b p q. (Stands-same i x y a b p q).0;
  said = λ i x y a b p q. (Stands-same i x y a b p q).1;
  by_sides = stands-from_sides;
}
