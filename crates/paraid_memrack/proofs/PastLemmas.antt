-- A slot as it was at an earlier moment follows the calls, one by one.
use Rattle.std.proofs.Common.{◌≡◌, ◌≢◌, inl, inr, ℕ, ◌<◌, Bool, true, false, length, map, get_or, set, replicate, refl, sym, ◌∙◌, ap, subst, arith}
use Rattle.std.proofs.lemmas.Bool.{cases_eq, true≢false}
use Rattle.std.proofs.lemmas.List.{get_or-set_same, get_or-set_other, length-set, length-map, length-replicate, get_or-replicate, get_or-map}
use Rattle.paraid_base.specs.declared.block.Block.{Block}
use Rattle.paraid_base.specs.Xor.{zero_block}
use Rattle.paraid_rack.specs.declared.call.Power.TheVariants.{Spinning, Parked, Absent}
use Rattle.paraid_rack.specs.declared.call.Call.{Call}
use Rattle.paraid_rack.specs.declared.call.Call.TheVariants.{Read, Write, Sync, Park, SpinUp, Attach}
use Rattle.paraid_rack.specs.Disks.{Disks, with_at, step}
use Rattle.paraid_rack.proofs.AtomsLemmas.{with_at_same, with_at_other}
use Rattle.paraid_memrack.specs.declared.versions.Versions.{Versions}
use Rattle.paraid_rack.specs.Calls.{disk_of, is_done}
use Rattle.paraid_memrack.specs.Stop.{kept_after}
use Rattle.paraid_memrack.specs.Versions.{synced_block, after_block_sync, versions_in, write_version}
use Rattle.paraid_memrack.specs.Past.{Past, no_past, IsPast, MakesPast}

pub same_versions : {v w : Versions} → v.written ≡ w.written → v.kept ≡ w.kept → v.loose ≡ w.loose → v ≡ w
same_versions written kept loose = λ i. record { written = written i; kept = kept i; loose = loose i }

here : {A : Type 0} (f : ℕ → A) (d : ℕ) (x : A) → with_at f d x d ≡ x
here f d x = with_at_same f d x d refl

here_at : {A : Type 0} (f : ℕ → ℕ → A) (d : ℕ) (g : ℕ → A) (p : ℕ) → with_at f d g d p ≡ g p
here_at {A} f d g p = ap (λ (h : ℕ → A). h p) (here f d g)

past_same : (s n : Disks) (kept kept' : ℕ → ℕ → Block) (e : ℕ) (v : Past) → n.power e ≡ s.power e → n.size e ≡ s.size e → n.loose e ≡ s.loose e → n.block e ≡ s.block e → kept' e ≡ kept e
    → IsPast s kept e v → IsPast n kept' e v
past_same s n kept kept' e v power size loose block keeps h = record {
  power = power ∙ h.power;
  size = size ∙ h.size;
  blocks = λ p within. h.blocks p within ∙ same_versions
      (ap (λ (f : ℕ → Block). f p) (sym block)) (ap (λ (f : ℕ → Block). f p) (sym keeps)) (ap (λ (f : ℕ → Bool). f p) (sym loose));
}

-- a call on another disk
pub past_other : (c : Call) (s : Disks) (kept : ℕ → ℕ → Block) (e : ℕ) (v : Past) → e ≢ disk_of c → IsPast s kept e v → IsPast (step c s) (kept_after c s kept) e v
unfolding step kept_after
past_other (Read d p done) s kept e v not h =
    past_same s _ kept kept e v (with_at_other s.power d _ e not) (with_at_other s.size d _ e not) refl refl refl h
past_other (Write d p b done) s kept e v not h =
    past_same s _ kept kept e v (with_at_other s.power d _ e not) (with_at_other s.size d _ e not) (with_at_other s.loose d _ e not) (with_at_other s.block d _ e not) refl h
past_other (Sync d done) s kept e v not h =
    past_same s _ kept _ e v (with_at_other s.power d _ e not) (with_at_other s.size d _ e not) (with_at_other s.loose d _ e not) refl (with_at_other kept d _ e not) h
past_other (Park d done) s kept e v not h =
    past_same s _ kept kept e v (with_at_other s.power d _ e not) (with_at_other s.size d _ e not) refl refl refl h
past_other (SpinUp d done) s kept e v not h =
    past_same s _ kept kept e v (with_at_other s.power d _ e not) (with_at_other s.size d _ e not) refl refl refl h
past_other (Attach d size done) s kept e v not h =
    past_same s _ kept _ e v (with_at_other s.power d _ e not) (with_at_other s.size d _ e not) (with_at_other s.loose d _ e not) (with_at_other s.block d _ e not) (with_at_other kept d _ e not) h

-- a failed call
gone : (n : Disks) (kept : ℕ → ℕ → Block) (d : ℕ) → n.power d ≡ Absent → n.size d ≡ 0 → IsPast n kept d no_past
gone n kept d power size = record { power = power; size = size; blocks = λ p within. absurd (omega arith) }

pub follows_failed : (c : Call) (v : Past) → is_done c ≡ false → MakesPast c v no_past
unfolding step
follows_failed (Read d p true) v bad = absurd (true≢false bad)
follows_failed (Read d p false) v bad = record { follows = λ s kept h. gone _ _ d (here s.power d Absent) (here s.size d 0) }
follows_failed (Write d p b true) v bad = absurd (true≢false bad)
follows_failed (Write d p b false) v bad = record { follows = λ s kept h. gone _ _ d (here s.power d Absent) (here s.size d 0) }
follows_failed (Sync d true) v bad = absurd (true≢false bad)
follows_failed (Sync d false) v bad = record { follows = λ s kept h. gone _ _ d (here s.power d Absent) (here s.size d 0) }
follows_failed (Park d true) v bad = absurd (true≢false bad)
follows_failed (Park d false) v bad = record { follows = λ s kept h. gone _ _ d (here s.power d Absent) (here s.size d 0) }
follows_failed (SpinUp d true) v bad = absurd (true≢false bad)
follows_failed (SpinUp d false) v bad = record { follows = λ s kept h. gone _ _ d (here s.power d Absent) (here s.size d 0) }
follows_failed (Attach d size true) v bad = absurd (true≢false bad)
follows_failed (Attach d size false) v bad = record { follows = λ s kept h. gone _ _ d (here s.power d Absent) (here s.size d 0) }

-- done calls
pub follows_read : (d p : ℕ) (v : Past) → MakesPast (Read d p true) v v
unfolding step kept_after
follows_read d p v = record {
  follows = λ s kept h. past_same s _ kept kept d v (here s.power d (s.power d)) (here s.size d (s.size d)) refl refl refl h;
}

pub follows_park : (d : ℕ) (v : Past) → MakesPast (Park d true) v (record v { power = Parked })
unfolding step kept_after
follows_park d v = record {
  follows = λ s kept h. record { power = here s.power d Parked; size = here s.size d (s.size d) ∙ h.size; blocks = h.blocks };
}

pub follows_spin_up : (d : ℕ) (v : Past) → MakesPast (SpinUp d true) v (record v { power = Spinning })
unfolding step kept_after
follows_spin_up d v = record {
  follows = λ s kept h. record { power = here s.power d Spinning; size = here s.size d (s.size d) ∙ h.size; blocks = h.blocks };
}

write_versions : (s : Disks) (kept : ℕ → ℕ → Block) (d p : ℕ) (b : Block) (v : Past) → IsPast s kept d v → (q : ℕ) → q < length v.versions
    → get_or (write_version v.versions p b) q (synced_block zero_block) ≡ versions_in (step (Write d p b true) s) kept d q
unfolding step
write_versions s kept d p b v h q within =
    let x : Versions = record (get_or v.versions p (synced_block zero_block)) { written = b; loose = true } in
    let block = here_at s.block d (with_at (s.block d) p b) q in
    let loose = here_at s.loose d (with_at (s.loose d) p true) q in
    elim (cases_eq q p) [
      | inl is ↦
          ap (λ (k : ℕ). get_or (set v.versions p x) k (synced_block zero_block)) is
          ∙ get_or-set_same v.versions p x (synced_block zero_block) (omega (arith, is, within))
          ∙ same_versions (sym (block ∙ with_at_same (s.block d) p b q is))
          (ap (λ (k : ℕ). (get_or v.versions k (synced_block zero_block)).kept) (sym is) ∙ ap (λ (w : Versions). w.kept) (h.blocks q within))
          (sym (loose ∙ with_at_same (s.loose d) p true q is))
      | inr not ↦
          get_or-set_other v.versions p q x (synced_block zero_block) not ∙ h.blocks q within
          ∙ same_versions (sym (block ∙ with_at_other (s.block d) p b q not)) refl (sym (loose ∙ with_at_other (s.loose d) p true q not))
    ]

pub follows_write : (d p : ℕ) (b : Block) (v : Past) → MakesPast (Write d p b true) v (record v { versions = write_version v.versions p b })
unfolding step kept_after
follows_write d p b v =
    let x : Versions = record (get_or v.versions p (synced_block zero_block)) { written = b; loose = true } in
    let same = length-set v.versions p x in
    record {
      follows = λ s kept h. record {
        power = here s.power d (s.power d) ∙ h.power;
        size = here s.size d (s.size d) ∙ h.size ∙ sym same;
        blocks = λ q within. write_versions s kept d p b v h q (omega (arith, within, same));
      };
    }

pub follows_sync : (d : ℕ) (v : Past) → MakesPast (Sync d true) v (record v { versions = map after_block_sync v.versions })
unfolding step kept_after
follows_sync d v = record {
  follows = λ s kept h. record {
    power = here s.power d (s.power d) ∙ h.power;
    size = here s.size d (s.size d) ∙ h.size ∙ sym (length-map v.versions after_block_sync);
    blocks = λ q within.
        let within' : q < length v.versions = omega (arith, within, length-map v.versions after_block_sync) in
        get_or-map after_block_sync v.versions q (synced_block zero_block) (synced_block zero_block) within' ∙ ap after_block_sync (h.blocks q within')
        ∙ same_versions refl (sym (here_at kept d (s.block d) q)) (sym (here_at s.loose d (λ p. false) q));
  };
}

pub follows_attach : (d size : ℕ) (v : Past) → MakesPast (Attach d size true) v (record { power = Spinning; versions = replicate size (synced_block zero_block) })
unfolding step kept_after
follows_attach d size v = record {
  follows = λ s kept h. record {
    power = here s.power d Spinning;
    size = here s.size d size ∙ sym (length-replicate size (synced_block zero_block));
    blocks = λ q within.
        get_or-replicate size q (synced_block zero_block) (synced_block zero_block) (omega (arith, within, length-replicate size (synced_block zero_block)))
        ∙ same_versions (sym (here_at s.block d (λ p. zero_block) q)) (sym (here_at kept d (λ p. zero_block) q)) (sym (here_at s.loose d (λ p. false) q));
  };
}

-- a done call that is one of these
pub follows_as : {c : Call} {v w x : Past} (k : Bool → Call) (done : Bool) → ((b : Bool) → is_done (k b) ≡ b) → c ≡ k done → is_done c ≡ true → MakesPast (k true) v x → w ≡ x → MakesPast c v w
follows_as {c} {v} {w} {x} k done says is good follows same =
    let was_done : done ≡ true = sym (says done) ∙ ap is_done (sym is) ∙ good in
    subst (λ (y : Past). MakesPast c v y) (sym same) (subst (λ (a : Call). MakesPast a v x) (sym (is ∙ ap k was_done)) follows)
