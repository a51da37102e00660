-- What is held stays held for a longer history and a smaller bound, and for an image as a start.
use Rattle.std.specs.Prelude.{◌≡◌, ℕ, ◌≤◌, ◌++◌, false, Option, Some, None, length}
use Rattle.std.proofs.Common.{refl, sym, ◌∙◌, ap, subst, arith, length-append}
use Rattle.std.proofs.lemmas.List.{take-append-le}
use Rattle.paraid_base.specs.History.{History, after, joined_entries, last_of}
use Rattle.paraid_base.specs.Xor.{zero_block}
use Rattle.paraid_rack.specs.declared.call.Power.{Power}
use Rattle.paraid_rack.specs.Disks.{Disks, IsImage, lose}
use Rattle.paraid_image.specs.HeldAt.{IsHeld, IsSoundFrom}
use Rattle.paraid_image.specs.Out.{IsWeak}
use Rattle.paraid_image.specs.Sound.{ContentOk, IsSoundAt}
use Rattle.paraid_image.specs.Spot.{View}

after-more : (h more : History) (k b : ℕ) → k ≤ length h → after (h ++ more) k b ≡ after h k b
unfolding after
after-more h more k b l = ap (λ (x : History). last_of b zero_block (joined_entries x)) (take-append-le k h more l)

ContentOk-more : (slots : ℕ) (power : ℕ → Power) (size : ℕ → ℕ) (v : View) (h more : History) (k : ℕ) → k ≤ length h
    → ContentOk slots power size v h k → ContentOk slots power size v (h ++ more) k
ContentOk-more slots power size v h more k l c = record {
  kept = c.kept;
  blocks = λ b in_range. c.blocks b in_range ∙ sym (after-more h more k b l);
}

pub IsSoundAt-more : (slots : ℕ) (i : Disks) (h more : History) (k : ℕ) → k ≤ length h → IsSoundAt slots i h k → IsSoundAt slots i (h ++ more) k
IsSoundAt-more slots i h more k l s = record {
  disk = s.disk;
  said = s.said;
  log = s.log;
  content = ContentOk-more slots i.power i.size _ h more k l s.content;
  witnesses = s.witnesses;
}

IsSoundFrom-more : (slots : ℕ) (i : Disks) (h more : History) (lo less : ℕ) → less ≤ lo → IsSoundFrom slots i h lo → IsSoundFrom slots i (h ++ more) less
IsSoundFrom-more slots i h more lo less l s = record {
  k = s.k;
  low = let low = s.low in omega arith;
  high = let high = s.high in let longer = length-append h more in omega arith;
  sound = IsSoundAt-more slots i h more s.k s.high s.sound;
}

pub IsHeld-more : (slots : ℕ) (s : Disks) (h more : History) (lo less : ℕ) (down : Option ℕ) → less ≤ lo
    → IsHeld slots s h lo down → IsHeld slots s (h ++ more) less down
IsHeld-more slots s h more lo less down l held = record {
  whole = λ i image. IsSoundFrom-more slots i h more lo less l (held.whole i image);
  lost = λ i d image may. IsSoundFrom-more slots (lose d i) h more lo less l (held.lost i d image may);
  weak = held.weak;
}

-- where nothing is loose, the disks themselves are the one image
pub image_is : (s i : Disks) → ((d p : ℕ) → s.loose d p ≡ false) → IsImage s i → i ≡ s
image_is s i synced e = λ t. record {
  power = λ d. e.power d t;
  size = λ d. e.size d t;
  block = λ d p. e.block d p (synced d p) t;
  loose = λ d p. (e.loose d p ∙ sym (synced d p)) t;
}

pub image_of_synced : (s : Disks) → ((d p : ℕ) → s.loose d p ≡ false) → IsImage s s
image_of_synced s synced = record { power = λ d. refl; size = λ d. refl; block = λ d p h. refl; loose = synced }

-- an image of an image is that image
pub image_again : (s i j : Disks) → IsImage s i → IsImage i j → IsImage s j
image_again s i j e f = subst (IsImage s) (sym (image_is i j e.loose f)) e

-- an image of what is held is held, and is all that a stop leaves of it
pub IsHeld-image : (slots : ℕ) (s i : Disks) (h : History) (lo : ℕ) (down : Option ℕ) → IsImage s i → IsHeld slots s h lo down → IsHeld slots i h lo down
IsHeld-image slots s i h lo down e held = record {
  whole = λ j f. held.whole j (image_again s i j e f);
  lost = λ j d f may. held.lost j d (image_again s i j e f) may;
  weak = λ j w f weak. held.weak j w (image_again s i j e f) weak;
}

pub IsHeld-weak : (slots : ℕ) (s i : Disks) (h : History) (lo : ℕ) (down : Option ℕ) (w : ℕ) → IsImage s i → IsWeak i w
    → IsHeld slots s h lo down → IsHeld slots i h lo (Some w)
IsHeld-weak slots s i h lo down w e weak held =
    subst (IsHeld slots i h lo) (held.weak i w e weak) (IsHeld-image slots s i h lo down e held)

pub IsHeld-strong : (slots : ℕ) (s i : Disks) (h : History) (lo : ℕ) (down : Option ℕ) → IsImage s i → ((w : ℕ) → IsWeak i w → ⊥)
    → IsHeld slots s h lo down → IsHeld slots i h lo None
IsHeld-strong slots s i h lo down e strong held =
    let again = IsHeld-image slots s i h lo down e held in
    record {
      whole = again.whole;
      lost = again.lost;
      weak = λ j w f weak. absurd (strong w (subst (λ (k : Disks). IsWeak k w) (image_is i j e.loose f) weak));
    }
