-- What stands by what was heard, and what refuses a mount by it.
use Rattle.std.specs.Prelude.{◌≡◌, ◌≢◌, ℕ, ◌<◌, ◌≤◌, Bool, true, false, not, Option, Some, None, Result, Ok, Err, IfErr, if◌then◌else◌}
use Rattle.std.proofs.Common.{refl, sym, ◌∙◌, ap, subst, arith, inl, inr, zero, suc}
use Rattle.std.proofs.lemmas.Bool.{cases_eq}
use Rattle.paraid_base.specs.Log.{worn_at}
use Rattle.paraid_rack.specs.Disks.{Disks}
use Rattle.paraid_rack.specs.Slots.{Slot}
use Rattle.paraid_rack.specs.Trail.{Trail, now}
use Rattle.paraid_record.specs.declared.meta.Meta.{Meta}
use Rattle.paraid_record.specs.Range.{IsInRange, meta_wear}
use Rattle.paraid_recover.specs.declared.sides.Sides.{Sides}
use Rattle.paraid_recover.specs.declared.hearing.Heard.{Heard}
use Rattle.paraid_recover.specs.declared.hearing.Heard.TheVariants.{Blank, Bad, Formed}
use Rattle.paraid_recover.specs.HeardSides.{IsHeardAt, IsInForm, side_by}
use Rattle.paraid_image.specs.Out.{is_out}
use Rattle.paraid_image.specs.Sides.{Batch, IsSide, LogState, Says, Side, log_state}
use Rattle.paraid_image.specs.Sides.Side.{absent, blank, bad, formed}
use Rattle.paraid_image.specs.Sound.{Pairing}
use Rattle.paraid_image.specs.Standing.{Stands, is_first, other_log, standing}
use Rattle.paraid_image.proofs.SidesLemmas.{Says-same}
use Rattle.paraid_image.proofs.StandingLemmas.{Stands-same, stands-from_sides}
use Rattle.paraid_recover.specs.declared.mount_fault.MountFault.{MountFault}
use Rattle.paraid_recover.specs.declared.mount_fault.MountFault.TheVariants.{Worn}
use Rattle.paraid_recover.specs.Examined.{AreHeard, AreUnpaired, IsRefused, IsRefusedByLogs, IsRefusedBySlots, IsStanding, is_log_parked, logs_of, Logs, side_of, unpaired_fault}
use Rattle.paraid_recover.specs.Examined.IsRefused.{by_slots, by_loss, as_heard}
use Rattle.paraid_recover.specs.Examined.IsRefusedAsHeard.{by_logs, by_meta}
use Rattle.paraid_recover.specs.Examined.IsRefusedByLogs.{by_sides, by_itself, unpaired}
use Rattle.paraid_recover.specs.Examined.IsRefusedBySlots.{asleep, few}
use Rattle.paraid_recover.specs.Refusals.{IsLeastDisk}
use Rattle.paraid_recover.specs.Said.{standing_out}

-- Sides

-- a side that is well formed was heard so
pub formed_side : (h : Option Heard) (b : Batch) (said : LogState) → side_by h b ≡ formed said
    → (h ≡ Some (Formed said.opened said.meta)) × (b ≡ said.batch)
formed_side None b said is = cc
formed_side (Some Blank) b said is = cc
formed_side (Some (Bad gate_open)) b said is = cc
formed_side (Some (Formed gate_open meta)) b said is =
    let same : log_state gate_open meta b ≡ said = cc in
    (ap (λ (s : LogState). Some (Formed s.opened s.meta)) same, ap (λ (s : LogState). s.batch) same)

pub heard_in_range : (h : Option Heard) (b : Batch) (opened : Bool) (m : Meta) → h ≡ Some (Formed opened m) → IsInForm h b → IsInRange m
heard_in_range h b opened m is form = (subst (λ (k : Option Heard). IsInForm k b) is form).0

one_of : (c : Bool) (x : ℕ) → (if c then Some 0 else Some 1) ≡ Some x → x < 2
one_of true x is = let at : 0 ≡ x = cc in omega arith
one_of false x is = let at : 1 ≡ x = cc in omega arith

zero_is : (x : ℕ) → Some 0 ≡ Some x → x < 2
zero_is x is = let at : 0 ≡ x = cc in omega arith

one_is : (x : ℕ) → Some 1 ≡ Some x → x < 2
one_is x is = let at : 1 ≡ x = cc in omega arith

-- what stands is a log disk
pub standing_low : (a b : Side) (x : ℕ) → standing a b ≡ Some x → x < 2
standing_low (formed a) (formed b) x is = one_of (is_first a b) x is
standing_low (formed a) absent x is = zero_is x is
standing_low (formed a) blank x is = zero_is x is
standing_low (formed a) bad x is = zero_is x is
standing_low absent (formed b) x is = one_is x is
standing_low blank (formed b) x is = one_is x is
standing_low bad (formed b) x is = one_is x is
standing_low absent absent x is = cc
standing_low absent blank x is = cc
standing_low absent bad x is = cc
standing_low blank absent x is = cc
standing_low blank blank x is = cc
standing_low blank bad x is = cc
standing_low bad absent x is = cc
standing_low bad blank x is = cc
standing_low bad bad x is = cc

pub out_named : (o : Option ℕ) (d : ℕ) → is_out o d ≡ true → o ≡ Some d
out_named None d is = cc
out_named (Some e) d is = elim (cases_eq d e) [
  | inl same ↦ ap Some (sym same)
  | inr apart ↦ grind arith
]

pub not_named : (o : Option ℕ) (d : ℕ) → is_out o d ≡ false → o ≢ Some d
not_named None d is e = cc
not_named (Some k) d is e = let same : k ≡ d = cc in grind arith

pub not_true : (b : Bool) → not b ≡ true → b ≡ false
not_true true is = cc
not_true false is = refl

pub not_false : (b : Bool) → not b ≡ false → b ≡ true
not_false true is = refl
not_false false is = cc

-- Pairs

module _ (sides : Sides) (a b : Batch) (o p : Bool) (m n : Meta) (first : sides.first ≡ Some (Formed o m)) (second : sides.second ≡ Some (Formed p n)) where
  pub are_unpaired : (standing_out sides ≢ Some 0) × (standing_out sides ≢ Some 1) → (Pairing (log_state o m a) (log_state p n b) → ⊥)
      → (disk : ℕ) (fault : MountFault) → fault ≡ unpaired_fault o p disk
      → (pair : AreUnpaired (logs_of sides a b)) × (fault ≡ unpaired_fault pair.first.opened pair.second.opened disk)
  are_unpaired live apart disk fault is = (
    record {
      first = log_state o m a;
      second = log_state p n b;
      says_first = ap (λ (h : Option Heard). side_by h a) first;
      says_second = ap (λ (h : Option Heard). side_by h b) second;
      first_live = live.0;
      second_live = live.1;
      apart = apart;
    },
    is,
  )

  pub not_unpaired : Pairing (log_state o m a) (log_state p n b) → AreUnpaired (logs_of sides a b) → ⊥
  not_unpaired pairing odds =
      odds.apart (subst (Pairing odds.first) (said_is sides.second b p n odds.second second odds.says_second)
      (subst (λ (s : LogState). Pairing s (log_state p n b)) (said_is sides.first a o m odds.first first odds.says_first) pairing))
    where
      said_is : (h : Option Heard) (c : Batch) (g : Bool) (k : Meta) (said : LogState) → h ≡ Some (Formed g k) → side_by h c ≡ formed said → log_state g k c ≡ said
      said_is h c g k said is says = let at : formed (log_state g k c) ≡ formed said = sym (ap (λ (j : Option Heard). side_by j c) is) ∙ says in cc

-- Slots

pub second_asleep : (slot : ℕ → Slot) → is_log_parked slot 0 ≡ false → is_log_parked slot 1 ≡ true → IsLeastDisk (is_log_parked slot) 2 1
second_asleep slot awake sleeps = record { below = omega arith; holds = sleeps; least = λ e low. lower e low }
  where
    lower : (e : ℕ) → e < 1 → is_log_parked slot e ≡ false
    lower zero low = awake
    lower (suc e) low = absurd (omega arith)

-- Stands

pub side_heard : (i : Disks) (x : ℕ) (h : Option Heard) (b : Batch) → IsHeardAt i x h b → IsSide i x (side_by h b)
side_heard i x None b is = is
side_heard i x (Some Blank) b is = is
side_heard i x (Some (Bad gate_open)) b is = is.0
side_heard i x (Some (Formed gate_open meta)) b is = is

pub heard_stands : (told : Option Trail) (slot : ℕ → Slot) (logs : Logs) (x : ℕ) (said : LogState) → AreHeard told slot logs → IsStanding logs x said
    → (t : Trail) → told ≡ Some t → Stands (now t) x said
heard_stands told slot logs x said are is t tells =
    let s = stands-from_sides (now t) (side_of logs 0) (side_of logs 1) x first second is.stands in
    subst (Stands (now t) x) (Says-same (now t) x s.0 said s.1.says (says x s.1.log_disk is.says)) s.1
  where
    first : IsSide (now t) 0 (side_of logs 0)
    first = side_heard (now t) 0 logs.sides.first logs.first (are.first t tells)

    second : IsSide (now t) 1 (side_of logs 1)
    second = side_heard (now t) 1 logs.sides.second logs.second (are.second t tells)

    says : (y : ℕ) → y < 2 → side_of logs y ≡ formed said → Says (now t) y said
    says zero low at = subst (IsSide (now t) 0) at first
    says (suc zero) low at = subst (IsSide (now t) 1) at second
    says (suc (suc y)) low at = absurd (omega arith)

-- Wear

worn_slots : (count : ℕ) (slot : ℕ → Slot) (c : ℕ) → IsRefusedBySlots count slot (Worn c) → ⊥
worn_slots count slot c (asleep x least is) = cc
worn_slots count slot c (few awake low is) = cc

pub unpaired_worn : (o p : Bool) (d c : ℕ) → Worn c ≡ unpaired_fault o p d → ⊥
unpaired_worn true true d c is = cc
unpaired_worn true false d c is = cc
unpaired_worn false p d c is = cc

worn_logs : (logs : Logs) (c : ℕ) → IsRefusedByLogs logs (Worn c) → ⊥
worn_logs logs c (by_sides never) = never
worn_logs logs c (by_itself all x said stands named is) = cc
worn_logs logs c (unpaired all x said stands live pair is) = unpaired_worn pair.first.opened pair.second.opened (other_log x) c is

pub worn_stands : (count : ℕ) (old new : ℕ → Slot) (told : Option Trail) (c : ℕ) → IsRefused count old new told (Worn c)
    → (t : Trail) → told ≡ Some t → (x : ℕ) (said : LogState) → Stands (now t) x said → (c ≡ meta_wear said.meta) × (worn_at ≤ c)
worn_stands count old new told c (by_slots slots same) t tells x said stands = absurd (worn_slots count old c slots)
worn_stands count old new told c (by_loss readable two both is) t tells x said stands = cc
worn_stands count old new told c (as_heard readable lost logs are (by_logs logs_refuse)) t tells x said stands = absurd (worn_logs logs c logs_refuse)
worn_stands count old new told c (as_heard readable lost logs are (by_meta y other agreed refused)) t tells x said stands =
    let same = Stands-same (now t) y x other said (heard_stands told new logs y other are agreed.standing t tells) stands in
    (refused.1 ∙ ap (λ (s : LogState). meta_wear s.meta) same.1, refused.2)

pub if_err_is : {A E : Type 0} (P : E → Type 0) (r : Result A E) (e : E) → r ≡ Err e → IfErr r P → P e
if_err_is P (Ok it) e is p = cc
if_err_is P (Err f) e is p = let same : f ≡ e = cc in subst P same p
