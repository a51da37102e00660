-- Whether a log disk belongs to an array, by the blocks that were read of it.
use Rattle.std.specs.Prelude.{◌≡◌, ◌≢◌, ℕ, ◌<◌, Bool, true, false, List, Option, Some, None, IfSome, IfNone, max}
use Rattle.std.proofs.Common.{zero, suc, sym, ◌∙◌, ap, subst, arith, inl, inr, ◌⊎◌}
use Rattle.std.proofs.Math.Nat.{le-max_left, le-max_right, max-eq_left, max-eq_right}
use Rattle.std.proofs.lemmas.Bool.{cases_lt, false≢true}
use Rattle.paraid_base.specs.declared.block.Block.{Block}
use Rattle.paraid_rack.specs.declared.call.Power.TheVariants.{Spinning}
use Rattle.paraid_rack.specs.Disks.{Disks, is_present}
use Rattle.paraid_rack.specs.Slots.{AreSlots, Slot}
use Rattle.paraid_record.specs.declared.meta.Meta.{Meta}
use Rattle.paraid_record.specs.declared.targets.Target.{Target}
use Rattle.paraid_record.specs.Meta.{meta_bytes}
use Rattle.paraid_record.specs.Range.{IsInRange}
use Rattle.paraid_record.specs.Targets.{AreTargets, targets_bytes}
use Rattle.paraid_record.proofs.OneSpelling.{meta_bytes-cancel}
use Rattle.paraid_image.specs.Sides.{Spells, is_open, stored_block}
use Rattle.paraid_rack.specs.Trail.{Trail, now}
use Rattle.paraid_recover.specs.Calls.{OnlyReadsAndKeeps}
use Rattle.paraid_recover.specs.Between.{RanBetween}
use Rattle.paraid_recover.proofs.ReadsLemmas.{quiet_now}
use Rattle.paraid_recover.specs.Found.{IsMetaUnder, IsEpochOf, IsFormedMeta, IsFound, IsUnclaimed, IsGreatest, IsGreatestOf, IsMetaOf, greater_of}

abbrev pub IsNoMeta : Block → Type 0
IsNoMeta b = (m : Meta) → IsInRange m → b.bytes ≢ meta_bytes m

module _ (i : Disks) (d : ℕ) where
  by_gate : (o : Bool) (m : Meta) → is_open (stored_block i d 0) ≡ o → IsMetaUnder o (stored_block i d) m → IsFormedMeta i d m
  by_gate o m is formed = subst (λ (a : Bool). IsMetaUnder a (stored_block i d) m) (sym is) formed

  gate_by : (o : Bool) (m : Meta) → is_open (stored_block i d 0) ≡ o → IsFormedMeta i d m → IsMetaUnder o (stored_block i d) m
  gate_by o m is formed = subst (λ (a : Bool). IsMetaUnder a (stored_block i d) m) is formed

  spelled : (b : Block) (p : ℕ) (m : Meta) → b ≡ stored_block i d p → IsInRange m × (b.bytes ≡ meta_bytes m) → Spells (stored_block i d p) m
  spelled b p m is s = record { in_range = s.0; bytes = sym (ap (λ (c : Block). c.bytes) is) ∙ s.1 }

  -- by a closed gate
  pub closed_meta : (b : Block) (r : Option Meta) → is_open (stored_block i d 0) ≡ false → b ≡ stored_block i d 1
      → IfSome r (λ m. IsInRange m × (b.bytes ≡ meta_bytes m)) → IfNone r (IsNoMeta b) → IsMetaOf i d r
  closed_meta b (Some m) shut is some none = by_gate false m shut (spelled b 1 m is some)
  closed_meta b None shut is some none = λ m formed.
      let s = gate_by false m shut formed in
      none m s.in_range (ap (λ (c : Block). c.bytes) is ∙ s.bytes)

  -- by an open one
  pub open_no_meta : (b : Block) → is_open (stored_block i d 0) ≡ true → b ≡ stored_block i d 2 → IsNoMeta b → IsMetaOf i d None
  open_no_meta b opened is none = λ m formed.
      let s = (gate_by true m opened formed).0 in
      none m s.in_range (ap (λ (c : Block). c.bytes) is ∙ s.bytes)

  pub open_no_list : (b l : Block) (m : Meta) → is_open (stored_block i d 0) ≡ true → b ≡ stored_block i d 2 → IsInRange m × (b.bytes ≡ meta_bytes m) → l ≡ stored_block i d 3
      → ((ts : List Target) → AreTargets m.setup.geometry ts → l.bytes ≢ targets_bytes ts) → IsMetaOf i d None
  open_no_list b l m opened is s is_list none = λ n formed.
      let f = gate_by true n opened formed in
      let mine = spelled b 2 m is s in
      let same : n ≡ m = meta_bytes-cancel n m f.0.in_range mine.in_range (sym f.0.bytes ∙ mine.bytes) in
      none f.1 (subst (λ (k : Meta). AreTargets k.setup.geometry f.1) same f.2) (ap (λ (c : Block). c.bytes) is_list ∙ f.3)

  pub open_meta : (b l : Block) (m : Meta) (ts : List Target) → is_open (stored_block i d 0) ≡ true → b ≡ stored_block i d 2 → IsInRange m × (b.bytes ≡ meta_bytes m) → l ≡ stored_block i d 3
      → AreTargets m.setup.geometry ts × (l.bytes ≡ targets_bytes ts) → IsMetaOf i d (Some m)
  open_meta b l m ts opened is s is_list list =
      by_gate true m opened (spelled b 2 m is s, ts, list.0, sym (ap (λ (c : Block). c.bytes) is_list) ∙ list.1)

-- a log disk says one meta
spells_one : (b : Block) (m n : Meta) → Spells b m → Spells b n → m ≡ n
spells_one b m n a c = meta_bytes-cancel m n a.in_range c.in_range (sym a.bytes ∙ c.bytes)

formed_one : (o : Bool) (log : ℕ → Block) (m n : Meta) → IsMetaUnder o log m → IsMetaUnder o log n → m ≡ n
formed_one false log m n a c = spells_one (log 1) m n a c
formed_one true log m n a c = spells_one (log 2) m n a.0 c.0

found_one : (i : Disks) (x : ℕ) (m n : Meta) → IsFound i x m → IsFound i x n → m ≡ n
found_one i x m n a c = formed_one (is_open (stored_block i x 0)) (stored_block i x) m n a.formed c.formed

-- the greatest of both log disks
found_at : (i : Disks) (x : ℕ) (m : Meta) → IsFound i x m → IsFound i 0 m ⊎ IsFound i 1 m
found_at i zero m f = inl f
found_at i (suc zero) m f = inr f
found_at i (suc (suc x)) m f = absurd (let l = f.log_disk in omega arith)

pub greatest : (i : Disks) (a b : Option ℕ) → IsEpochOf i 0 a → IsEpochOf i 1 b → IsGreatestOf i (greater_of a b)
greatest i None None first second = λ x m f. elim (found_at i x m f) [
  | inl f ↦ first m f
  | inr f ↦ second m f
]
greatest i None (Some e) first second = record {
  disk = 1;
  meta = second.0;
  found = second.1;
  epoch = second.2;
  greatest = λ x m f. elim (found_at i x m f) [
    | inl f ↦ absurd (first m f)
    | inr f ↦ (let is = ap (λ (n : Meta). n.epoch) (found_one i 1 m second.0 f second.1) ∙ second.2 in omega (arith, is))
  ];
}
greatest i (Some e) None first second = record {
  disk = 0;
  meta = first.0;
  found = first.1;
  epoch = first.2;
  greatest = λ x m f. elim (found_at i x m f) [
    | inl f ↦ (let is = ap (λ (n : Meta). n.epoch) (found_one i 0 m first.0 f first.1) ∙ first.2 in omega (arith, is))
    | inr f ↦ absurd (second m f)
  ];
}
greatest i (Some e) (Some u) first second = elim (cases_lt e u) [
  | inl low ↦ both 1 second.0 second.1 (second.2 ∙ sym (max-eq_right (let l = low in omega arith)))
  | inr high ↦ both 0 first.0 first.1 (first.2 ∙ sym (max-eq_left high))
]
  where
    both : (x : ℕ) (m : Meta) → IsFound i x m → m.epoch ≡ max e u → IsGreatest i (max e u)
    both x m f is = record {
      disk = x;
      meta = m;
      found = f;
      epoch = is;
      greatest = λ y n g. elim (found_at i y n g) [
        | inl g ↦ (let k = ap (λ (n : Meta). n.epoch) (found_one i 0 n first.0 g first.1) ∙ first.2 in let h = le-max_left e u in omega (arith, k))
        | inr g ↦ (let k = ap (λ (n : Meta). n.epoch) (found_one i 1 n second.0 g second.1) ∙ second.2 in let h = le-max_right e u in omega (arith, k))
      ];
    }

-- a slot that spins is one of the rack's
pub there_below : (count : ℕ) (slot : ℕ → Slot) → AreSlots count slot → (d : ℕ) → (slot d).power ≡ Spinning → d < count
there_below count slot are d spins = elim (cases_lt d count) [
  | inl low ↦ low
  | inr high ↦ absurd (false≢true (ap is_present (sym (are.missing d high) ∙ spins)))
]

-- what was heard is so of the disks before the reads
pub free_before : {old new : Option Trail} → OnlyReadsAndKeeps old new → ((t : Trail) → new ≡ Some t → IsUnclaimed (now t)) → RanBetween old new (λ start s. IsUnclaimed start)
free_before quiet heard t tells =
    let u = quiet_now quiet t tells in
    (u.0, u.1, subst (λ (s : Disks). IsUnclaimed s) u.2 (heard t tells))
