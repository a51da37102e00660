-- An image is sound by the log disk that stands.
use Rattle.std.specs.Prelude.{◌≡◌, ℕ}
use Rattle.std.proofs.Common.{refl, sym, subst}
use Rattle.paraid_base.specs.History.{History}
use Rattle.paraid_rack.specs.Disks.{Disks}
use Rattle.paraid_image.specs.Content.{view_of}
use Rattle.paraid_image.specs.Out.{out_disk}
use Rattle.paraid_image.specs.Sides.{LogState}
use Rattle.paraid_image.specs.Sound.{AreWitnessesTrue, ContentOk, LogOk, IsSoundAt}
use Rattle.paraid_image.specs.Spot.{View}
use Rattle.paraid_image.specs.Standing.{Stands}
use Rattle.paraid_image.proofs.StandingLemmas.{Stands-same}
use Rattle.paraid_plain.specs.declared.image.Image.{Image}
use Rattle.paraid_plain.specs.declared.statement.Statement.{Statement}
use Rattle.paraid_plain.specs.Images.{disks_in}
use Rattle.paraid_plain.specs.Statements.{said_of}
use Rattle.paraid_plain.specs.Views.{block_at, dirty_at, out_at, view_at}

pub view_of-said : (image : Image) (s : Statement) → view_of (disks_in image) (said_of image s) ≡ view_at image s
unfolding block_at dirty_at out_at
view_of-said image s = refl

out_at-said : (image : Image) (s : Statement) → out_disk (disks_in image).power s.meta ≡ out_at image s
unfolding out_at
out_at-said image s = refl

module _ (image : Image) (s : Statement) (slots : ℕ) (h : History) (k : ℕ) (stands : Stands (disks_in image) s.disk (said_of image s)) where
  abbrev i : Disks
  i = disks_in image

  pub sound_from : LogOk i s.disk (said_of image s) k → AreWitnessesTrue i (out_at image s) → ContentOk slots i.power i.size (view_at image s) h k
      → IsSoundAt slots i h k
  sound_from log witnesses content = record {
    disk = s.disk;
    said = said_of image s;
    log = log;
    content = subst (λ (v : View). ContentOk slots i.power i.size v h k) (sym (view_of-said image s)) content;
    witnesses = subst (AreWitnessesTrue i) (sym (out_at-said image s)) witnesses;
  }

  pub sound_witnesses : IsSoundAt slots i h k → AreWitnessesTrue i (out_at image s)
  sound_witnesses sound =
      let same = Stands-same i sound.disk s.disk sound.said (said_of image s) sound.log.stands stands in
      subst (AreWitnessesTrue i) (out_at-said image s)
      (subst (λ (said : LogState). AreWitnessesTrue i (out_disk i.power said.meta)) same.1 sound.witnesses)

  pub sound_content : IsSoundAt slots i h k → ContentOk slots i.power i.size (view_at image s) h k
  sound_content sound =
      let same = Stands-same i sound.disk s.disk sound.said (said_of image s) sound.log.stands stands in
      subst (λ (v : View). ContentOk slots i.power i.size v h k) (view_of-said image s)
      (subst (λ (said : LogState). ContentOk slots i.power i.size (view_of i said) h k) same.1 sound.content)
