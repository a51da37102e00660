-- What holds exactly the first writes of a history holds just these.
use Rattle.std.specs.Prelude.{◌≡◌, ℕ, Option, take}
use Rattle.std.proofs.Common.{sym, ◌∙◌, ap, subst, arith}
use Rattle.std.proofs.lemmas.List.{length-take-le, take-take}
use Rattle.paraid_base.specs.History.{History, after, joined_entries, last_of}
use Rattle.paraid_base.specs.Xor.{zero_block}
use Rattle.paraid_rack.specs.declared.call.Power.{Power}
use Rattle.paraid_rack.specs.Disks.{Disks, IsImage, lose}
use Rattle.paraid_image.specs.HeldAt.{IsHeld, IsSoundFrom, MayLose}
use Rattle.paraid_image.specs.Sides.{LogState}
use Rattle.paraid_image.specs.Sound.{ContentOk}
use Rattle.paraid_image.specs.Spot.{View}
use Rattle.paraid_image.specs.Standing.{Stands}

after-cut : (h : History) (k b : ℕ) → after (take k h) k b ≡ after h k b
unfolding after
after-cut h k b = ap (λ (x : History). last_of b zero_block (joined_entries x)) (take_same h k)
  where
    take_same : (h : History) (k : ℕ) → take k (take k h) ≡ take k h
    take_same h k = take-take k k h (omega arith)

content_cut : (slots : ℕ) (power : ℕ → Power) (size : ℕ → ℕ) (v : View) (h : History) (k : ℕ) → ContentOk slots power size v h k → ContentOk slots power size v (take k h) k
content_cut slots power size v h k c = record {
  kept = c.kept;
  blocks = λ b in_range. c.blocks b in_range ∙ sym (after-cut h k b);
}

module _ (slots : ℕ) (h : History) (lo k : ℕ) where
  cut : (i : Disks) → ((x : ℕ) (said : LogState) → Stands i x said → said.meta.writes ≡ k) → IsSoundFrom slots i h lo → IsSoundFrom slots i (take k h) k
  cut i all s =
      let is : s.k ≡ k = sym s.sound.log.writes ∙ all s.sound.disk s.sound.said s.sound.log.stands in
      subst (λ (n : ℕ). IsSoundFrom slots i (take n h) n) is (record {
        k = s.k;
        low = omega arith;
        high = (let l = length-take-le s.k h s.high in omega (arith, l));
        sound = record { disk = s.sound.disk; said = s.sound.said; log = s.sound.log; content = content_cut slots i.power i.size _ h s.k s.sound.content; witnesses = s.sound.witnesses };
      })

  pub held_cut : (s : Disks) (down : Option ℕ) → ((i : Disks) (x : ℕ) (said : LogState) → IsImage s i → Stands i x said → said.meta.writes ≡ k)
      → ((i : Disks) (d x : ℕ) (said : LogState) → IsImage s i → MayLose i d → Stands (lose d i) x said → said.meta.writes ≡ k)
      → IsHeld slots s h lo down → IsHeld slots s (take k h) k down
  held_cut s down whole lost held = record {
    whole = λ i image. cut i (λ x said st. whole i x said image st) (held.whole i image);
    lost = λ i d image may. cut (lose d i) (λ x said st. lost i d x said image may st) (held.lost i d image may);
    weak = held.weak;
  }
