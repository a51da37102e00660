-- What the slots leave after a stop is an image with each loose block as picked.
use Rattle.std.proofs.Common.{◌≡◌, ℕ, ◌<◌, Bool, true, false, cond, List, length, map, get_or, refl, sym, ◌∙◌, ap, subst}
use Rattle.std.proofs.Math.ListN.{get_or-map as get_or-map_default}
use Rattle.std.proofs.lemmas.List.{get_or-map, length-map}
use Rattle.paraid_base.specs.declared.block.Block.{Block}
use Rattle.paraid_base.specs.Xor.{zero_block}
use Rattle.paraid_base.proofs.XorLemmas.{same_block}
use Rattle.paraid_rack.specs.Alike.{HasPlace, IsAlike}
use Rattle.paraid_rack.specs.Disks.{Disks, IsImage}
use Rattle.paraid_rack.specs.Trail.{Beginning, Trail, beginning, disks, initial}
use Rattle.paraid_memrack.specs.declared.past.PastSlot.{PastSlot}
use Rattle.paraid_memrack.specs.declared.stop.Pick.{Pick}
use Rattle.paraid_memrack.specs.Stop.{IsPicked, kept_at, picked_bytes}
use Rattle.paraid_memrack.specs.Tells.{no_beginning}
use Rattle.paraid_memrack.specs.Versions.{synced_block, left_bytes, versions_in}
use Rattle.paraid_memrack.specs.Past.{past_of, past_at, no_past, AllPast, AllPastAt, InBytes, in_bytes, left_in_bytes}

bytes_of : Block → List ℕ
bytes_of b = b.bytes

-- one slot of what is left
left_at : (pick : Pick) (past : List PastSlot) (start : List Beginning) → map in_bytes start ≡ map (left_in_bytes pick) (map past_of past)
    → (d : ℕ) → in_bytes (beginning start d) ≡ left_in_bytes pick (past_at past d)
unfolding past_at
left_at pick past start same d =
    sym (get_or-map_default in_bytes start d no_beginning)
    ∙ ap (λ (l : List InBytes). get_or l d (in_bytes no_beginning)) same
    ∙ get_or-map_default (left_in_bytes pick) (map past_of past) d no_past

module _ (pick : Pick) (s : Disks) (kept : ℕ → ℕ → Block) (past : List PastSlot) (start : List Beginning) (was : AllPast s kept past)
    (same : map in_bytes start ≡ map (left_in_bytes pick) (map past_of past)) where
  left_power : (d : ℕ) → (initial start).power d ≡ s.power d
  unfolding initial
  left_power d = ap (λ (b : InBytes). b.power) (left_at pick past start same d) ∙ sym (was d).power

  left_size : (d : ℕ) → (initial start).size d ≡ s.size d
  unfolding initial
  left_size d =
      sym (length-map (beginning start d).blocks (λ (x : Block). x.bytes))
      ∙ ap (λ (b : InBytes). length b.blocks) (left_at pick past start same d)
      ∙ length-map (past_at past d).versions (left_bytes pick) ∙ sym (was d).size

  left_block : (d p : ℕ) → HasPlace s d p → ((initial start).block d p).bytes ≡ left_bytes pick (versions_in s kept d p)
  unfolding initial
  left_block d p place =
      let within : p < length (past_at past d).versions = subst (λ (n : ℕ). p < n) (was d).size place.within in
      sym (get_or-map_default (λ (x : Block). x.bytes) (beginning start d).blocks p zero_block)
      ∙ ap (λ (b : InBytes). get_or b.blocks p zero_block.bytes) (left_at pick past start same d)
      ∙ get_or-map (left_bytes pick) (past_at past d).versions p (synced_block zero_block) zero_block.bytes within
      ∙ ap (left_bytes pick) ((was d).blocks p within)

  left_firm : (d p : ℕ) → HasPlace s d p → s.loose d p ≡ false → (initial start).block d p ≡ s.block d p
  left_firm d p place is =
      same_block _ _ (left_block d p place ∙ ap (λ (b : Bool). cond b (picked_bytes pick (kept d p).bytes (s.block d p).bytes) (s.block d p).bytes) is)

  left_loose : (d p : ℕ) → HasPlace s d p → s.loose d p ≡ true → ((initial start).block d p).bytes ≡ picked_bytes pick (kept d p).bytes (s.block d p).bytes
  left_loose d p place is = left_block d p place ∙ ap (λ (b : Bool). cond b (picked_bytes pick (kept d p).bytes (s.block d p).bytes) (s.block d p).bytes) is

  -- the image has what is left in each loose block, and what there was in each other
  pub left_image : (i : Disks) × IsImage s i × IsAlike i (initial start)
  unfolding initial
  left_image =
      let i : Disks = record { power = s.power; size = s.size; block = λ d p. cond (s.loose d p) ((initial start).block d p) (s.block d p); loose = λ d p. false } in (
        i,
        record {
          power = λ d. refl;
          size = λ d. refl;
          block = λ d p is. ap (λ (b : Bool). cond b ((initial start).block d p) (s.block d p)) is;
          loose = λ d p. refl;
        },
        record {
          power = left_power;
          size = left_size;
          block = λ d p h. by_looseness (s.loose d p) ((initial start).block d p) (s.block d p) (left_firm d p (record { present = h.present; within = h.within }));
          loose = λ d p h. refl;
        },
      )
    where
      by_looseness : (loose : Bool) (after before : Block) → (loose ≡ false → after ≡ before) → after ≡ cond loose after before
      by_looseness true after before synced_block = refl
      by_looseness false after before synced_block = synced_block refl

pub left_picked : (pick : Pick) (t : Trail) (m : ℕ) (past : List PastSlot) (start : List Beginning) → AllPastAt t m past
    → map in_bytes start ≡ map (left_in_bytes pick) (map past_of past) → IsPicked pick t m (initial start)
left_picked pick t m past start was same = record { bytes = λ d p place is. left_loose pick (disks t m) (kept_at t m) past start was same d p place is }
