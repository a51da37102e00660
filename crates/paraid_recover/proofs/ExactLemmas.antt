-- What refuses a mount is not there where it is served.
use Rattle.std.specs.Prelude.{◌≡◌, ◌≢◌, ◌⊎◌, ℕ, ◌<◌, ◌&&◌, not, Bool, true, false, Option, Some, None}
use Rattle.std.proofs.Common.{refl, sym, ◌∙◌, ap, subst, arith, inl, inr, zero, suc}
use Rattle.std.proofs.lemmas.Bool.{false≢true, true≢false}
use Rattle.paraid_base.specs.declared.fault.Two.{Two}
use Rattle.paraid_base.specs.declared.geometry.Geometry.{Geometry}
use Rattle.paraid_base.specs.declared.state.Out.{Out}
use Rattle.paraid_base.specs.declared.state.Out.TheVariants.{No, Gone, Fresh}
use Rattle.paraid_rack.specs.declared.call.Power.{Power as PowerType}
use Rattle.paraid_rack.specs.declared.call.Power.TheVariants.{Absent, Parked, Spinning}
use Rattle.paraid_rack.specs.Disks.{Disks, is_present}
use Rattle.paraid_rack.specs.Slots.{Slot}
use Rattle.paraid_rack.specs.Trail.{Trail, now}
use Rattle.paraid_record.specs.declared.meta.Meta.{Meta}
use Rattle.paraid_record.specs.Range.{IsInRange, IsOutInRange}
use Rattle.paraid_recover.specs.declared.sides.Sides.{Sides}
use Rattle.paraid_recover.specs.declared.hearing.Heard.{Heard}
use Rattle.paraid_recover.specs.declared.hearing.Heard.TheVariants.{Blank, Bad, Formed}
use Rattle.paraid_recover.specs.HeardSides.{AreBothLost, IsHeardAt, IsOneLost, gone_pair, side_by}
use Rattle.paraid_recover.specs.HeardSides.IsOneLost.{none, one}
use Rattle.paraid_image.specs.Out.{IsDouble, IsMissing, is_out, named_out}
use Rattle.paraid_image.specs.Sides.{Batch, LogState, Side}
use Rattle.paraid_image.specs.Sides.Side.{formed}
use Rattle.paraid_image.specs.Standing.{other_log, standing}
use Rattle.paraid_image.proofs.SidesLemmas.{Says-same, blank_says_nothing}
use Rattle.paraid_recover.specs.declared.mount_fault.MountFault.{MountFault}
use Rattle.paraid_recover.specs.declared.mount_fault.MountFault.TheVariants.{NotFormatted, BadLog, BadMeta, Size, Power, Two as BothMissing, Worn, NoMemory}
use Rattle.paraid_recover.specs.Examined.{AreHeard, AreReadable, AreUnpaired, IsAgreed, IsExamined, IsRefused, IsRefusedByLogs, IsRefusedBySlots, IsStanding, Logs, side_of}
use Rattle.paraid_recover.specs.Examined.IsRefused.{by_slots, by_loss, as_heard}
use Rattle.paraid_recover.specs.Examined.IsRefusedAsHeard.{by_logs, by_meta}
use Rattle.paraid_recover.specs.Examined.IsRefusedByLogs.{by_sides, by_itself, unpaired}
use Rattle.paraid_recover.specs.Examined.IsRefusedBySlots.{asleep, few}
use Rattle.paraid_recover.specs.Order.{IsRefusedBy, IsNotRefused}
use Rattle.paraid_recover.specs.Refusals.{AreMissing, IsLeastDisk, is_lacking}
use Rattle.paraid_recover.specs.Said.{AreSidesFormed, IsRefusedBySides, standing_out}
use Rattle.paraid_recover.proofs.ServedLemmas.{agreed_in_range}

-- Slots

pub slots_or_readable : (count : ℕ) (slot : ℕ → Slot) (fault : MountFault) → IsRefusedBySlots count slot fault → AreReadable count slot → ⊥
slots_or_readable count slot fault (asleep x least is) readable = false≢true (sym (readable.0 x least.below) ∙ least.holds)
slots_or_readable count slot fault (few awake low is) readable = let enough = readable.1 in omega arith

second_low : (p : PowerType) → (gone_pair p).second < 2
second_low Absent = omega arith
second_low Parked = omega arith
second_low Spinning = omega arith

absent_spins : (p : PowerType) → p ≡ Absent → p ≡ Spinning → ⊥
absent_spins p gone here = cc

other_low : (x : ℕ) → x < 2 → other_log x < 2
other_low zero low = omega arith
other_low (suc zero) low = omega arith
other_low (suc (suc x)) low = absurd (omega arith)

pub loss_or_one : (old new : ℕ → Slot) (two : Two) → AreBothLost old new two → IsOneLost old new → ⊥
loss_or_one old new two both (none same) =
    absent_spins (new two.second).power (both.gone two.second (subst (λ (t : Two). t.second < 2) (sym both.pair) (second_low (old 1).power)))
    (ap (λ (s : Slot). s.power) (same two.second) ∙ both.spun)
loss_or_one old new two both (one x low spun failed others spins) = absent_spins (new (other_log x)).power (both.gone (other_log x) (other_low x low)) spins

-- What was heard twice

pub same_heard : (i : Disks) (x : ℕ) (h k : Option Heard) (a b : Batch) → IsHeardAt i x h a → IsHeardAt i x k b → (h ≡ k) × (side_by h a ≡ side_by k b)
same_heard i x None None a b p q = (refl, refl)
same_heard i x None (Some Blank) a b p q = absurd (false≢true (sym p ∙ q.0))
same_heard i x None (Some (Bad o)) a b p q = absurd (false≢true (sym p ∙ q.0.present))
same_heard i x None (Some (Formed o m)) a b p q = absurd (false≢true (sym p ∙ q.present))
same_heard i x (Some Blank) None a b p q = absurd (false≢true (sym q ∙ p.0))
same_heard i x (Some Blank) (Some Blank) a b p q = (refl, refl)
same_heard i x (Some Blank) (Some (Bad o)) a b p q = absurd (q.0.written p.1 p.2)
same_heard i x (Some Blank) (Some (Formed o m)) a b p q = absurd (blank_says_nothing i x _ p.1 p.2 q)
same_heard i x (Some (Bad o)) None a b p q = absurd (false≢true (sym q ∙ p.0.present))
same_heard i x (Some (Bad o)) (Some Blank) a b p q = absurd (p.0.written q.1 q.2)
same_heard i x (Some (Bad o)) (Some (Bad c)) a b p q = (ap (λ (g : Bool). Some (Bad g)) (sym p.1 ∙ q.1), refl)
same_heard i x (Some (Bad o)) (Some (Formed c m)) a b p q = absurd (p.0.silent _ q)
same_heard i x (Some (Formed o m)) None a b p q = absurd (false≢true (sym q ∙ p.present))
same_heard i x (Some (Formed o m)) (Some Blank) a b p q = absurd (blank_says_nothing i x _ q.1 q.2 p)
same_heard i x (Some (Formed o m)) (Some (Bad c)) a b p q = absurd (q.0.silent _ p)
same_heard i x (Some (Formed o m)) (Some (Formed c n)) a b p q =
    let same = Says-same i x _ _ p q in
    (ap (λ (s : LogState). Some (Formed s.opened s.meta)) same, ap formed same)

-- the same was heard
pub record AreAlike (a b : Logs) : Type 0 where
  pub sides : a.sides ≡ b.sides
  pub first : side_of a 0 ≡ side_of b 0
  pub second : side_of a 1 ≡ side_of b 1

pub alike : (told : Option Trail) (slot : ℕ → Slot) (a b : Logs) (t : Trail) → told ≡ Some t → AreHeard told slot a → AreHeard told slot b → AreAlike a b
alike told slot a b t tells p q =
    let first = same_heard (now t) 0 a.sides.first b.sides.first a.first b.first (p.first t tells) (q.first t tells) in
    let second = same_heard (now t) 1 a.sides.second b.sides.second a.second b.second (p.second t tells) (q.second t tells) in
    record {
      sides = ap (λ (h : Option Heard). record { first = h; second = a.sides.second }) first.0
          ∙ ap (λ (h : Option Heard). record { first = b.sides.first; second = h }) second.0;
      first = first.1;
      second = second.1;
    }

module _ (a b : Logs) (same : AreAlike a b) where
  side_alike : (x : ℕ) → side_of a x ≡ side_of b x
  side_alike zero = same.first
  side_alike (suc x) = same.second

  pub same_standing : (x y : ℕ) (s r : LogState) → IsStanding a x s → IsStanding b y r → (x ≡ y) × (s ≡ r)
  same_standing x y s r p q =
      let at : Some x ≡ Some y = sym p.stands ∙ ap (λ (z : Side). standing z (side_of a 1)) same.first
      ∙ ap (λ (z : Side). standing (side_of b 0) z) same.second ∙ q.stands in
      let is : x ≡ y = cc in
      let says : formed s ≡ formed r = sym p.says ∙ side_alike x ∙ ap (side_of b) is ∙ q.says in
      (is, cc)

  unpaired_alike : AreUnpaired a → AreUnpaired b
  unpaired_alike pair = record {
    first = pair.first;
    second = pair.second;
    says_first = sym same.first ∙ pair.says_first;
    says_second = sym same.second ∙ pair.says_second;
    first_live = λ is. pair.first_live (ap standing_out same.sides ∙ is);
    second_live = λ is. pair.second_live (ap standing_out same.sides ∙ is);
    apart = pair.apart;
  }

  -- what both say is known
  pub same_pair : (p : AreUnpaired a) (q : AreUnpaired b) → (p.first ≡ q.first) × (p.second ≡ q.second)
  same_pair p q =
      let one : formed p.first ≡ formed q.first = sym p.says_first ∙ same.first ∙ q.says_first in
      let two : formed p.second ≡ formed q.second = sym p.says_second ∙ same.second ∙ q.says_second in
      (cc, cc)

-- Logs

pub sides_or_formed : (sides : Sides) (fault : MountFault) → IsRefusedBySides sides fault → AreSidesFormed sides → ⊥
sides_or_formed sides NotFormatted refused all = all.formed refused
sides_or_formed sides (BadLog disk) refused all = all.opened disk refused.1.0
sides_or_formed sides (BadMeta disk) refused all = all.closed disk refused.2.0
sides_or_formed sides (Size disk found needed) refused all = refused
sides_or_formed sides (Power disk) refused all = refused
sides_or_formed sides (BothMissing two) refused all = refused
sides_or_formed sides (Worn count) refused all = refused
sides_or_formed sides NoMemory refused all = refused

pub logs_or_agreed : (a b : Logs) → AreAlike a b → (fault : MountFault) → IsRefusedByLogs a fault → (x : ℕ) (said : LogState) → IsAgreed b x said → ⊥
logs_or_agreed a b same fault (by_sides refused) x said agreed =
    sides_or_formed b.sides fault (subst (λ (s : Sides). IsRefusedBySides s fault) same.sides refused) agreed.formed
logs_or_agreed a b same fault (by_itself all y s stands named is) x said agreed =
    let at = same_standing a b same y x s said stands agreed.standing in
    agreed.live (ap (λ (z : LogState). named_out z.meta.out) (sym at.1) ∙ named ∙ ap Some at.0)
logs_or_agreed a b same fault (unpaired all y s stands live pair is) x said agreed = agreed.paired (unpaired_alike a b same pair)

-- The meta

lacking_by : (p o : Bool) → not p && not o ≡ true → (p ≡ false) × (o ≡ false)
lacking_by false false is = (refl, refl)
lacking_by false true is = cc
lacking_by true o is = cc

pub lacking_is : (slot : ℕ → Slot) (m : Meta) (d : ℕ) → is_lacking slot m d ≡ true → (is_present (slot d).power ≡ false) × (is_out (named_out m.out) d ≡ false)
unfolding is_lacking
lacking_is slot m d is = lacking_by (is_present (slot d).power) (is_out (named_out m.out) d) is

named_low : (g : Geometry) (gear d : ℕ) (o : Out) → IsOutInRange g gear o → named_out o ≡ Some d → d < g.disks
named_low g gear d No range is = cc
named_low g gear d (Gone k) range is = let same : k ≡ d = cc in subst (λ (z : ℕ). z < g.disks) same range
named_low g gear d (Fresh k rebuilt) range is = let same : k ≡ d = cc in subst (λ (z : ℕ). z < g.disks) same range.0

pub is_out-some : (d : ℕ) (o : Option ℕ) → o ≡ Some d → is_out o d ≡ true
is_out-some d o is = ap (λ (z : Option ℕ). is_out z d) is ∙ grind arith

pub double : (slot : ℕ → Slot) (m : Meta) (two : Two) → IsInRange m → AreMissing slot m two → IsDouble (λ d. (slot d).power) m
double slot m two range missing = record {
  first = two.first;
  second = two.second;
  apart = apart missing.apart;
  missing_first = first missing.first;
  missing_second = record { disk = missing.second; is = inl (lacking_is slot m two.second missing.lacking).0 };
}
  where
    apart : (two.first < two.second) ⊎ (named_out m.out ≡ Some two.first) → two.first ≢ two.second
    apart (inl less) same = omega arith
    apart (inr named) same =
        true≢false (sym (is_out-some two.second (named_out m.out) (named ∙ ap Some same)) ∙ (lacking_is slot m two.second missing.lacking).1)

    first : (named_out m.out ≡ Some two.first) ⊎ ((named_out m.out ≡ None) × IsLeastDisk (is_lacking slot m) m.setup.geometry.disks two.first)
        → IsMissing (λ d. (slot d).power) m two.first
    first (inl named) = record { disk = named_low m.setup.geometry m.gear two.first m.out range.out named; is = inr named }
    first (inr least) = record { disk = least.1.below; is = inl (lacking_is slot m two.first least.1.holds).0 }

meta_or_served : (count : ℕ) (slot : ℕ → Slot) (m : Meta) (batch : Batch) (fault : MountFault) → IsInRange m → IsRefusedBy count slot m batch fault
    → IsNotRefused count slot m batch → ⊥
meta_or_served count slot m batch NotFormatted range refused served = refused
meta_or_served count slot m batch (BadLog disk) range refused served = refused
meta_or_served count slot m batch (BadMeta disk) range refused served = refused
meta_or_served count slot m batch (Size disk found needed) range refused served =
    false≢true (sym (served.0.0.0 disk refused.0.below) ∙ refused.0.holds)
meta_or_served count slot m batch (Power disk) range refused served =
    false≢true (sym (served.0.0.1 disk refused.1.below) ∙ refused.1.holds)
meta_or_served count slot m batch (BothMissing two) range refused served = served.0.1 (double slot m two range refused.1)
meta_or_served count slot m batch (Worn many) range refused served =
    let less = served.1 in
    let is = refused.1 in
    let high = refused.2 in
    omega arith
meta_or_served count slot m batch NoMemory range refused served = refused

-- All

pub refused_or_examined : (count : ℕ) (old new : ℕ → Slot) (told : Option Trail) (t : Trail) → told ≡ Some t → (fault : MountFault) (x : ℕ) (said : LogState)
    → IsRefused count old new told fault → IsExamined count old new told x said → ⊥
refused_or_examined count old new told t tells fault x said (by_slots slots same) it = slots_or_readable count old fault slots it.readable
refused_or_examined count old new told t tells fault x said (by_loss readable two both is) it = loss_or_one old new two both it.lost
refused_or_examined count old new told t tells fault x said (as_heard readable lost logs heard (by_logs refused)) it =
    logs_or_agreed logs it.logs (alike told new logs it.logs t tells heard it.heard) fault refused x said it.served.agreed
refused_or_examined count old new told t tells fault x said (as_heard readable lost logs heard (by_meta y s agreed refused)) it =
    let at = same_standing logs it.logs (alike told new logs it.logs t tells heard it.heard) y x s said agreed.standing it.served.agreed.standing in
    meta_or_served count new said.meta said.batch fault (agreed_in_range told new it.logs x said it.heard it.served.agreed)
    (subst (λ (z : LogState). IsRefusedBy count new z.meta z.batch fault) at.1 refused) it.served.served
