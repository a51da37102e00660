-- What the read of a witness leaves, and that what is held is not refused by it.
use Rattle.std.specs.Prelude.{◌≡◌, ℕ, ◌≤◌, true, false, Option, Some}
use Rattle.std.proofs.Common.{refl, sym, ◌∙◌, ap, subst, arith, inl, inr}
use Rattle.paraid_base.specs.History.{History}
use Rattle.paraid_rack.specs.Disks.{Disks, IsImage}
use Rattle.paraid_rack.specs.Slots.{AreSameSlots, Slot}
use Rattle.paraid_rack.specs.Told.{Ran, CrashTriple}
use Rattle.paraid_rack.specs.Trail.{Trail, now}
use Rattle.paraid_rack.specs.Alike.{IsAlike}
use Rattle.paraid_image.specs.HeldAt.{IsHeld}
use Rattle.paraid_image.specs.Out.{out_disk}
use Rattle.paraid_image.specs.Rest.{AreSynced}
use Rattle.paraid_image.specs.Sides.{LogState, is_open, stored_block}
use Rattle.paraid_image.specs.Standing.{Stands, other_log}
use Rattle.paraid_image.proofs.AlikeLemmas.{stands_alike}
use Rattle.paraid_image.proofs.StandingLemmas.{Stands-same}
use Rattle.paraid_image.proofs.UnseenLemmas.{standing_not_out}
use Rattle.paraid_txn.proofs.RanLemmas.{through_milder}
use Rattle.paraid_txn.proofs.StageCallsLemmas.{andthen}
use Rattle.paraid_recover.specs.Examined.{IsExamined, IsServedAsHeard}
use Rattle.paraid_recover.specs.HeardSides.{AmongOne, IsHeardAt, IsHeardBy, IsOneLost, IsReadOnly, IsUnchanged, ReadsLog}
use Rattle.paraid_recover.specs.Witness.{IsWitnessed, IsWitnessRefusal}
use Rattle.paraid_recover.specs.Witness.IsWitnessed.{opened, lost}
use Rattle.paraid_recover.specs.Witness.IsWitnessRefusal.{opened as opens, lost as loses}
use Rattle.paraid_rack.specs.declared.rack.Rack.{Ghosts}
use Rattle.paraid_base.specs.declared.fault.Two.{Two}
use Rattle.paraid_txn.specs.Uses.{EachCall}
use Rattle.std.proofs.lemmas.Bool.{cases_eq}
use Rattle.paraid_recover.proofs.QuietCallsLemmas.{still_true}
use Rattle.paraid_recover.proofs.UnchangedLemmas.{unchanged_now}

-- where all is as it was, what held holds
pub unchanged_keeps : {old new : Option Trail} (P : Disks → Type 0) → IsUnchanged old new → Ran old new (CrashTriple P P P)
unchanged_keeps {old} {new} P same t tells =
    let any = same (now t) t tells in
    let r = same (now any.from) t tells in
    let one : r.from ≡ any.from = (let z : Some r.from ≡ Some any.from = sym r.was ∙ any.was in cc) in
    record {
      from = r.from;
      was = r.was;
      calls = r.calls;
      is = r.is;
      holds = record {
        goes = λ p.
            let b = r.holds.goes (ap now one) in
            let go : (s : Disks) → s ≡ now any.from → P s = (λ s e. subst P (ap now one ∙ sym e) p) in
            (through_milder (λ s. s ≡ now any.from) P go (now r.from) r.calls b.0, go _ b.1);
      };
    }

pub read_only_then : {old mid new : Option Trail} → IsReadOnly old mid → IsUnchanged mid new → IsReadOnly old new
read_only_then only same start = andthen (only start) (unchanged_keeps (AmongOne start) same)

-- what was examined is so after a read that was done
pub examined_later : (count : ℕ) (old a b : ℕ → Slot) (read later : Option Trail) (x : ℕ) (said : LogState) → AreSameSlots a b → IsUnchanged read later
    → IsExamined count old a read x said → IsExamined count old b later x said
examined_later count old a b read later x said same still it =
    let is : a ≡ b = λ t. λ d. (sym (same d)) t in
    record {
      readable = it.readable;
      lost = subst (IsOneLost old) is it.lost;
      logs = it.logs;
      heard = record {
        first = λ t tells. let u = unchanged_now still t tells in subst (λ (s : Disks). IsHeardAt s 0 it.logs.sides.first it.logs.first) (sym u.2) (it.heard.first u.0 u.1);
        second = λ t tells. let u = unchanged_now still t tells in subst (λ (s : Disks). IsHeardAt s 1 it.logs.sides.second it.logs.second) (sym u.2) (it.heard.second u.0 u.1);
        first_power = subst (λ (slot : ℕ → Slot). IsHeardBy it.logs.sides.first (slot 0).power) is it.heard.first_power;
        second_power = subst (λ (slot : ℕ → Slot). IsHeardBy it.logs.sides.second (slot 1).power) is it.heard.second_power;
        first_form = it.heard.first_form;
        second_form = it.heard.second_form;
      };
      served = subst (λ (slot : ℕ → Slot). IsServedAsHeard count slot it.logs x said) is it.served;
    }

pub stands_later : (read later : Option Trail) (x : ℕ) (said : LogState) → IsUnchanged read later → ((t : Trail) → read ≡ Some t → Stands (now t) x said)
    → (t : Trail) → later ≡ Some t → Stands (now t) x said
stands_later read later x said still stands t tells = let u = unchanged_now still t tells in subst (λ (s : Disks). Stands s x said) (sym u.2) (stands u.0 u.1)

-- of what is held no witness is borne against the log disk that stands
pub not_witnessed : (slots : ℕ) (s : Disks) (h : History) (lo : ℕ) (down : Option ℕ) → AreSynced s → IsHeld slots s h lo down → (x : ℕ) (said : LogState) → Stands s x said
    → is_open (stored_block s 2 x) ≡ true → ⊥
not_witnessed slots s h lo down synced held x said stands shown =
    let i : Disks = record s { loose = λ d p. false } in
    let image : IsImage s i = record { power = λ d. refl; size = λ d. refl; block = λ d p not. refl; loose = λ d p. refl } in
    let alike : IsAlike s i = record { power = λ d. refl; size = λ d. refl; block = λ d p there. refl; loose = λ d p there. sym (synced d p there.present) } in
    let it = held.whole i image in
    let same = Stands-same i it.sound.disk x it.sound.said said it.sound.log.stands (stands_alike s i x said alike stands) in
    let is : out_disk s.power it.sound.said.meta ≡ Some x = still_true s (out_disk s.power it.sound.said.meta) it.sound.witnesses x stands.log_disk shown in
    standing_not_out i it.sound.disk it.sound.said it.k it.sound.log (is ∙ ap Some (sym same.0))

pub slots_later : {a b : ℕ → Slot} → (true ≡ true → AreSameSlots a b) → a ≡ b
slots_later {a} {b} same = λ t. λ d. (sym (same refl d)) t

-- what the read of a witness that refuses has told
pub witness_refuses : {R : Type 0} (g : Ghosts R) (x : ℕ) (said : LogState) (old new : R) (two : Two) → ((t : Trail) → g.told old ≡ Some t → Stands (now t) x said) → IsWitnessed g x old new two
    → Ran (g.told old) (g.told new) (EachCall (ReadsLog 2)) × IsWitnessRefusal x (g.slot old) (g.slot new) (g.told new) two
witness_refuses g x said old new two stands (opened gone reads shown is) = (
  reads.calls,
  opens (ap (λ (k : Slot). k.power) (reads.same refl (other_log x)) ∙ gone) said (stands_later (g.told old) (g.told new) x said (reads.unchanged refl) stands) shown is,
)
witness_refuses g x said old new two stands (lost gone spun reads is) = (
  reads.calls,
  loses (ap (λ (k : Slot). k.power) (reads.others (other_log x) (λ e. omega arith)) ∙ gone) (reads.failed refl) is,
)

pub witness_later : {R : Type 0} (g : Ghosts R) (x : ℕ) (old new : R) (two : Two) → IsWitnessed g x old new two → (d : ℕ) → (g.slot old d).faults ≤ (g.slot new d).faults
witness_later g x old new two (opened gone reads shown is) d = let same = ap (λ (k : Slot). k.faults) (reads.same refl d) in omega arith
witness_later g x old new two (lost gone spun reads is) d = elim (cases_eq d 2) [
  | inl at ↦ subst (λ (k : ℕ). (g.slot old k).faults ≤ (g.slot new k).faults) (sym at) (reads.failed refl).later
  | inr not ↦ let same = ap (λ (k : Slot). k.faults) (reads.others d not) in omega arith
]

pub witness_slots : {R : Type 0} (g : Ghosts R) (x : ℕ) (old new : R) (two : Two) → IsWitnessed g x old new two → g.slot_count new ≡ g.slot_count old
witness_slots g x old new two (opened gone reads shown is) = reads.slots
witness_slots g x old new two (lost gone spun reads is) = reads.slots
