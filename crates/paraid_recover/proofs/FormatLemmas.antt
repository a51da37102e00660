-- The disks of a new array.
use Rattle.std.specs.Prelude.{◌≡◌, ◌≢◌, ℕ, ◌≤◌, ◌<◌, true, false, Bool, List, [], Option}
use Rattle.std.proofs.Common.{zero, suc, refl, sym, ◌∙◌, ap, subst, arith, inl, inr}
use Rattle.std.proofs.lemmas.Bool.{cases_eq, cases_lt}
use Rattle.paraid_base.specs.declared.block.Block.{Block}
use Rattle.paraid_base.specs.Regions.{disk_size}
use Rattle.paraid_base.specs.Xor.{zero_block}
use Rattle.paraid_rack.specs.Disks.{Disks}
use Rattle.paraid_rack.specs.Slots.{Slot}
use Rattle.paraid_record.specs.declared.meta.Setup.{Setup}
use Rattle.paraid_record.specs.Meta.{meta_bytes}
use Rattle.paraid_record.specs.Range.{IsInRange}
use Rattle.paraid_image.specs.Formatted.{IsFormatted}
use Rattle.paraid_image.specs.Sides.{is_open}
use Rattle.paraid_recover.specs.Attached.{AreFreshDisks, BecomesFormatted, IsMetaWritten, fresh_slot}
use Rattle.paraid_recover.specs.Calls.{AreAttaches, AreFormatCalls, AreHeadReads, AreMakingCalls, AreMetaCalls, OnlyHeadReads}
use Rattle.paraid_recover.specs.First.{first_meta}
use Rattle.paraid_recover.specs.Between.{RanBetween}
use Rattle.paraid_recover.specs.Found.{IsUnclaimed}
use Rattle.paraid_recover.proofs.ToldLemmas.{same_trail}
use Rattle.paraid_rack.specs.declared.call.Call.{Call}
use Rattle.paraid_rack.specs.Told.{Ran}
use Rattle.paraid_rack.specs.Trail.{Trail, now}
use Rattle.std.proofs.lemmas.List.{append-nil}
use Rattle.paraid_recover.proofs.AttachLemmas.{ran_then, ran_weaker}

closed_zeros : is_open zero_block ≡ false
unfolding is_open zero_block
closed_zeros = refl

module _ (slots : ℕ) (setup : Setup) (b : Block) (is : b.bytes ≡ meta_bytes (first_meta setup)) (range : IsInRange (first_meta setup)) (enough : setup.geometry.disks ≤ slots)
    (start first second end : Disks) (attached : AreFreshDisks setup.geometry.disks (disk_size setup.geometry) start first) (one : IsMetaWritten 0 b first second) (two : IsMetaWritten 1 b second end) where
  abbrev n : ℕ
  n = setup.geometry.disks

  block_at : (d p : ℕ) → p ≢ 1 → end.block d p ≡ first.block d p
  block_at d p apart = two.block d p (λ at. apart) ∙ one.block d p (λ at. apart)

  meta_at : (x : ℕ) → x < 2 → end.block x 1 ≡ b
  meta_at zero low = two.block 0 1 (λ at. absurd (omega arith)) ∙ one.here
  meta_at (suc zero) low = two.here
  meta_at (suc (suc x)) low = absurd (omega arith)

  synced_at : (d p : ℕ) → d < n → end.loose d p ≡ false
  synced_at d p low = elim (cases_eq d 1) [
    | inl at ↦ ap (λ (x : ℕ). end.loose x p) at ∙ two.synced p
    | inr apart ↦ two.loose d p apart ∙ elim (cases_eq d 0) [
      | inl at ↦ ap (λ (x : ℕ). second.loose x p) at ∙ one.synced p
      | inr far ↦ one.loose d p far ∙ attached.synced d p low
    ]
  ]

  loose_past : (d p : ℕ) → n ≤ d → end.loose d p ≡ start.loose d p
  loose_past d p high =
      let few = setup.geometry.disks_low in
      two.loose d p (λ at. omega arith) ∙ one.loose d p (λ at. omega arith) ∙ attached.others d p high

  loose_at : ((d p : ℕ) → n ≤ d → start.loose d p ≡ false) → (d p : ℕ) → end.loose d p ≡ false
  loose_at synced d p = elim (cases_lt d n) [
    | inl low ↦ synced_at d p low
    | inr high ↦ loose_past d p high ∙ synced d p high
  ]

  -- disks with what stands here on those of the array, and nothing loose
  formatted_as : (i : Disks) → ((d : ℕ) → i.power d ≡ end.power d) → ((d : ℕ) → i.size d ≡ end.size d)
      → ((d p : ℕ) → d < n → i.block d p ≡ end.block d p) → ((d p : ℕ) → i.loose d p ≡ false) → IsFormatted slots i (first_meta setup)
  formatted_as i power size block loose =
      let few = setup.geometry.disks_low in
      record {
        in_range = range;
        writes = refl;
        gear = refl;
        phase = refl;
        out = refl;
        enough = enough;
        spinning = λ d low. power d ∙ two.power d ∙ one.power d ∙ attached.power d low;
        large = λ d low. (let s = size d ∙ two.size d ∙ one.size d ∙ attached.size_is d low in omega (arith, s));
        closed = λ x low. ap is_open (block x 0 (omega arith) ∙ block_at x 0 (λ at. absurd (omega arith)) ∙ attached.zeros x 0 (omega arith)) ∙ closed_zeros;
        meta = λ x low. ap (λ (c : Block). c.bytes) (block x 1 (omega arith) ∙ meta_at x low) ∙ is;
        no_witness = λ x low. ap is_open (block 2 x (omega arith) ∙ two.block 2 x (λ at. absurd (omega arith)) ∙ one.block 2 x (λ at. absurd (omega arith)) ∙ attached.zeros 2 x (omega arith)) ∙ closed_zeros;
        zeros = λ d p low high far. block d p low ∙ block_at d p (λ at. absurd (omega arith)) ∙ attached.zeros d p low;
        synced = loose;
      }

  pub formatted : BecomesFormatted slots (first_meta setup) start end
  formatted = record {
    stops = λ i e. formatted_as i e.power e.size (λ d p low. e.block d p (synced_at d p low)) e.loose;
    whole = λ synced. formatted_as end (λ d. refl) (λ d. refl) (λ d p low. refl) (loose_at synced);
  }

-- the calls of the parts
module _ (count size : ℕ) {old new : Option Trail} where
  pub only_attaches : Ran old new (λ start calls. AreAttaches size 0 count calls) → Ran old new (λ start calls. AreMakingCalls count size calls)
  only_attaches = ran_weaker (λ start calls. AreAttaches size 0 count calls) (λ start calls. AreMakingCalls count size calls)
      (λ s cs are. record { attaches = cs; writes = []; is = sym (append-nil cs); first = are; second = omega arith }) old new

pub attaches_and_logs : (count size : ℕ) {old mid new : Option Trail} → Ran old mid (λ start calls. AreAttaches size 0 count calls)
    → Ran mid new (λ start calls. AreMetaCalls 0 4 calls) → Ran old new (λ start calls. AreMakingCalls count size calls)
attaches_and_logs count size {old} {mid} {new} =
    ran_then (λ start calls. AreAttaches size 0 count calls) (λ start calls. AreMetaCalls 0 4 calls) (λ start calls. AreMakingCalls count size calls)
    (λ s cs ds are logs. record { attaches = cs; writes = ds; is = refl; first = are; second = logs }) old mid new

pub heads_alone : {force : Bool} {old new : Option Trail} → Ran old new (λ start calls. AreHeadReads calls × (force ≡ true → calls ≡ [])) → OnlyHeadReads old new
heads_alone {force} {old} {new} = ran_weaker (λ start calls. AreHeadReads calls × (force ≡ true → calls ≡ [])) (λ start calls. AreHeadReads calls) (λ s cs are. are.0) old new

pub only_reads : (force : Bool) (count size : ℕ) {old new : Option Trail} → Ran old new (λ start calls. AreHeadReads calls × (force ≡ true → calls ≡ []))
    → Ran old new (λ start calls. AreFormatCalls force count size start calls)
only_reads force count size {old} {new} =
    ran_weaker (λ start calls. AreHeadReads calls × (force ≡ true → calls ≡ [])) (λ start calls. AreFormatCalls force count size start calls)
    (λ s cs are. record { reads = cs; rest = []; is = sym (append-nil cs); are_reads = are.0; forced = are.1; makes = inl refl }) old new

-- reads after which the array can be made
ReadsFree : Bool → Disks → List Call → Type 0
ReadsFree force start calls = AreHeadReads calls × (force ≡ true → calls ≡ []) × (force ≡ false → IsUnclaimed start)

reads_free : (force : Bool) {old new : Option Trail} → Ran old new (λ start calls. AreHeadReads calls × (force ≡ true → calls ≡ []))
    → (force ≡ false → RanBetween old new (λ start s. IsUnclaimed start)) → Ran old new (ReadsFree force)
unfolding ReadsFree
reads_free force {old} {new} ran free t tells =
    let r = ran t tells in
    record {
      from = r.from;
      was = r.was;
      calls = r.calls;
      is = r.is;
      holds = (r.holds.0, r.holds.1, λ not. let m = free not t tells in subst (λ (u : Trail). IsUnclaimed (now u)) (same_trail old m.0 r.from m.1 r.was) m.2);
    }

pub reads_and_rest : (force : Bool) (count size : ℕ) {old mid new : Option Trail} → Ran old mid (λ start calls. AreHeadReads calls × (force ≡ true → calls ≡ []))
    → (force ≡ false → RanBetween old mid (λ start s. IsUnclaimed start))
    → Ran mid new (λ start calls. AreMakingCalls count size calls) → Ran old new (λ start calls. AreFormatCalls force count size start calls)
unfolding ReadsFree
reads_and_rest force count size {old} {mid} {new} reads free makes =
    ran_then (ReadsFree force) (λ start calls. AreMakingCalls count size calls) (λ start calls. AreFormatCalls force count size start calls)
    (λ s cs ds are makes. record { reads = cs; rest = ds; is = refl; are_reads = are.0; forced = are.1; makes = inr (are.2, makes) }) old mid new (reads_free force reads free) makes

-- the slots after the metas
pub made_fresh : (count size : ℕ) (a b c e : ℕ → Slot) → ((d : ℕ) → d < count → b d ≡ fresh_slot size (a d)) → c 0 ≡ record (b 0) { unsynced = false } → ((d : ℕ) → d ≢ 0 → c d ≡ b d)
    → e 1 ≡ record (c 1) { unsynced = false } → ((d : ℕ) → d ≢ 1 → e d ≡ c d) → 2 ≤ count → (d : ℕ) → d < count → e d ≡ fresh_slot size (a d)
made_fresh count size a b c e fresh first first_others second second_others two zero low = second_others 0 (λ is. omega arith) ∙ first ∙ ap (λ (s : Slot). record s { unsynced = false }) (fresh 0 low)
made_fresh count size a b c e fresh first first_others second second_others two (suc zero) low =
    second ∙ ap (λ (s : Slot). record s { unsynced = false }) (first_others 1 (λ is. omega arith) ∙ fresh 1 low)
made_fresh count size a b c e fresh first first_others second second_others two (suc (suc d)) low =
    second_others (suc (suc d)) (λ is. omega arith) ∙ first_others (suc (suc d)) (λ is. omega arith) ∙ fresh (suc (suc d)) low
