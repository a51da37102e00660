-- Disks that agree in all that exists: one after the other, with a disk lost, and after a stop.
use Rattle.std.proofs.Common.{◌≡◌, ◌<◌, ℕ, Bool, true, false, cond, refl, sym, ◌∙◌, ap, subst}
use Rattle.std.proofs.lemmas.Bool.{false≢true}
use Rattle.paraid_base.specs.declared.block.Block.{Block}
use Rattle.paraid_rack.specs.declared.call.Power.TheVariants.{Absent}
use Rattle.paraid_rack.specs.Disks.{Disks, IsImage, is_present, lose, with_at}
use Rattle.paraid_rack.specs.Alike.{HasPlace, IsAlike}
use Rattle.paraid_rack.proofs.AtomsLemmas.{at_use, with_at_other}

-- a place of disks is one of disks with the same powers and sizes
pub HasPlace-same : (i j : Disks) (d p : ℕ) → j.power d ≡ i.power d → j.size d ≡ i.size d → HasPlace j d p → HasPlace i d p
HasPlace-same i j d p power size h = record {
  present = ap is_present (sym power) ∙ h.present;
  within = subst (λ (n : ℕ). p < n) size h.within;
}

pub IsAlike-refl : (i : Disks) → IsAlike i i
IsAlike-refl i = record { power = λ d. refl; size = λ d. refl; block = λ d p h. refl; loose = λ d p h. refl }

pub IsAlike-sym : (i j : Disks) → IsAlike i j → IsAlike j i
IsAlike-sym i j a = record {
  power = λ d. sym (a.power d);
  size = λ d. sym (a.size d);
  block = λ d p h. sym (a.block d p (HasPlace-same i j d p (a.power d) (a.size d) h));
  loose = λ d p h. sym (a.loose d p (HasPlace-same i j d p (a.power d) (a.size d) h));
}

pub IsAlike-trans : (i j k : Disks) → IsAlike i j → IsAlike j k → IsAlike i k
IsAlike-trans i j k a b =
    let there : (d p : ℕ) → HasPlace i d p → HasPlace j d p = λ d p h. HasPlace-same j i d p (sym (a.power d)) (sym (a.size d)) h in
    record {
      power = λ d. b.power d ∙ a.power d;
      size = λ d. b.size d ∙ a.size d;
      block = λ d p h. b.block d p (there d p h) ∙ a.block d p h;
      loose = λ d p h. b.loose d p (there d p h) ∙ a.loose d p h;
    }

-- a place of disks with one lost
left_place : (x : ℕ) (i : Disks) (d p : ℕ) → HasPlace (lose x i) d p → HasPlace i d p
left_place x i d p h =
    at_use (λ w. is_present w ≡ true) (HasPlace i d p) i.power x Absent d
    (λ is now. absurd (false≢true now))
    (λ not now. record { present = now; within = subst (λ (n : ℕ). p < n) (with_at_other i.size x 0 d not) h.within })
    h.present

same_at : {A : Type 0} (f g : ℕ → A) (k : ℕ) (v : A) → ((d : ℕ) → g d ≡ f d) → (d : ℕ) → with_at g k v d ≡ with_at f k v d
same_at {A} f g k v same d = ap (λ (h : ℕ → A). with_at h k v d) (λ t e. same e t)

-- with the same disk lost
pub lose_alike : (x : ℕ) (i j : Disks) → IsAlike i j → IsAlike (lose x i) (lose x j)
lose_alike x i j a = record {
  power = same_at i.power j.power x Absent a.power;
  size = same_at i.size j.size x 0 a.size;
  block = λ d p h. a.block d p (left_place x i d p h);
  loose = λ d p h. a.loose d p (left_place x i d p h);
}

-- What a stop leaves of one of them is alike to something that it leaves of the other: the same
-- bytes in each loose block.
pub stopped_alike : (s t j : Disks) → IsAlike s t → IsImage t j → (i : Disks) × IsImage s i × IsAlike i j
stopped_alike s t j a image =
    let i : Disks = record { power = s.power; size = s.size; block = λ d p. cond (s.loose d p) (j.block d p) (s.block d p); loose = λ d p. false } in (
      i,
      record {
        power = λ d. refl;
        size = λ d. refl;
        block = λ d p firm. ap (λ (b : Bool). cond b (j.block d p) (s.block d p)) firm;
        loose = λ d p. refl;
      },
      record {
        power = λ d. image.power d ∙ a.power d;
        size = λ d. image.size d ∙ a.size d;
        block = λ d p h.
            let here : HasPlace s d p = record { present = h.present; within = h.within } in
            by_looseness (s.loose d p) (j.block d p) (s.block d p)
            (λ firm. image.block d p (a.loose d p here ∙ firm) ∙ a.block d p here);
        loose = λ d p h. image.loose d p;
      },
    )
  where
    by_looseness : (loose : Bool) (after before : Block) → (loose ≡ false → after ≡ before) → after ≡ cond loose after before
    by_looseness true after before same = refl
    by_looseness false after before same = same refl
