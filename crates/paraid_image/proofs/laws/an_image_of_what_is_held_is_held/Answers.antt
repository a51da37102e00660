use Rattle.paraid_rack.specs.Trail.{disks, initial}
use Rattle.paraid_image.proofs.HeldLemmas.{IsHeld-image, IsHeld-strong, IsHeld-weak}
use Rattle.paraid_image.proofs.laws.an_image_of_what_is_held_is_held.Goals as goal

pub returns : goal.returns
returns c = record {
  image = IsHeld-image;
  weak = IsHeld-weak;
  strong = IsHeld-strong;
  start = λ slots t u m h lo down e held. IsHeld-image slots (disks t m) (initial u.start) h lo down e held;
}
