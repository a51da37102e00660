-- A mount is refused by one cause.
use Rattle.std.specs.Prelude.{◌≡◌, ◌⊎◌, ℕ, ◌<◌, Bool, true, false, Option, Some, None}
use Rattle.std.proofs.Common.{refl, sym, ◌∙◌, ap, subst, arith, inl, inr}
use Rattle.std.proofs.lemmas.Bool.{false≢true, true≢false, cases_lt}
use Rattle.paraid_base.specs.declared.fault.Two.{Two}
use Rattle.paraid_rack.specs.Slots.{Slot}
use Rattle.paraid_rack.specs.Trail.{Trail}
use Rattle.paraid_record.specs.declared.meta.Meta.{Meta}
use Rattle.paraid_record.specs.Range.{IsInRange}
use Rattle.paraid_recover.specs.declared.sides.Sides.{Sides}
use Rattle.paraid_image.specs.Out.{named_out}
use Rattle.paraid_image.specs.Sides.{Batch, LogState}
use Rattle.paraid_image.specs.Standing.{other_log}
use Rattle.paraid_recover.specs.declared.mount_fault.MountFault.{MountFault}
use Rattle.paraid_recover.specs.declared.mount_fault.MountFault.TheVariants.{NotFormatted, BadLog, BadMeta, Size, Power, Two as BothMissing, Worn, NoMemory}
use Rattle.paraid_recover.specs.Examined.{AreHeard, IsRefused, IsRefusedAsHeard, IsRefusedByLogs, IsRefusedBySlots, Logs, unpaired_fault, is_log_parked}
use Rattle.paraid_recover.specs.Examined.IsRefused.{by_slots, by_loss, as_heard}
use Rattle.paraid_recover.specs.Examined.IsRefusedAsHeard.{by_logs, by_meta}
use Rattle.paraid_recover.specs.Examined.IsRefusedByLogs.{by_sides, by_itself, unpaired}
use Rattle.paraid_recover.specs.Examined.IsRefusedBySlots.{asleep, few}
use Rattle.paraid_recover.specs.Order.{IsRefusedBy, AreAwake, AreEnough, AreSlotsLarge, size_found}
use Rattle.paraid_recover.specs.Refusals.{AreMissing, IsLeastDisk, is_lacking, is_asleep, is_small}
use Rattle.paraid_recover.specs.Said.{IsRefusedBySides, IsLeastAtFault}
use Rattle.paraid_recover.proofs.ServedLemmas.{agreed_in_range}
use Rattle.paraid_base.specs.Regions.{disk_size}
use Rattle.paraid_recover.proofs.ExactLemmas.{AreAlike, alike, double, is_out-some, lacking_is, logs_or_agreed, loss_or_one, same_pair, same_standing, sides_or_formed, slots_or_readable}

unique_least : (is : ℕ → Bool) (n d e : ℕ) → IsLeastDisk is n d → IsLeastDisk is n e → d ≡ e
unique_least is n d e p q = elim (cases_lt d e) [
  | inl less ↦ absurd (false≢true (sym (q.least d less) ∙ p.holds))
  | inr other ↦ elim (cases_lt e d) [
    | inl less ↦ absurd (false≢true (sym (p.least e less) ∙ q.holds))
    | inr same ↦ omega arith
  ]
]

unique_fault : (sides : Sides) (gate : Bool) (d e : ℕ) → IsLeastAtFault sides gate d → IsLeastAtFault sides gate e → d ≡ e
unique_fault sides gate d e p q = elim (cases_lt d e) [
  | inl less ↦ absurd (q.1 d less p.0)
  | inr other ↦ elim (cases_lt e d) [
    | inl less ↦ absurd (p.1 e less q.0)
    | inr same ↦ omega arith
  ]
]

unique_some : (o : Option ℕ) (d e : ℕ) → o ≡ Some d → o ≡ Some e → d ≡ e
unique_some o d e p q = let both : Some d ≡ Some e = sym p ∙ q in cc

none_or_some : (o : Option ℕ) (d : ℕ) → o ≡ None → o ≡ Some d → ⊥
none_or_some o d p q = let both : None ≡ Some d = sym p ∙ q in cc

module _ (slot : ℕ → Slot) (m : Meta) where
  same_first : (d e : ℕ) → (named_out m.out ≡ Some d) ⊎ ((named_out m.out ≡ None) × IsLeastDisk (is_lacking slot m) m.setup.geometry.disks d)
      → (named_out m.out ≡ Some e) ⊎ ((named_out m.out ≡ None) × IsLeastDisk (is_lacking slot m) m.setup.geometry.disks e) → d ≡ e
  same_first d e (inl p) (inl q) = unique_some (named_out m.out) d e p q
  same_first d e (inl p) (inr q) = absurd (none_or_some (named_out m.out) d q.0 p)
  same_first d e (inr p) (inl q) = absurd (none_or_some (named_out m.out) e p.0 q)
  same_first d e (inr p) (inr q) = unique_least (is_lacking slot m) m.setup.geometry.disks d e p.1 q.1

  -- the second of two that are missing is not the first
  apart_from : (two : Two) → AreMissing slot m two → two.second ≡ two.first → ⊥
  apart_from two p is = at p.apart
    where
      at : (two.first < two.second) ⊎ (named_out m.out ≡ Some two.first) → ⊥
      at (inl less) = omega arith
      at (inr named) = true≢false (sym (is_out-some two.second (named_out m.out) (named ∙ ap Some (sym is))) ∙ (lacking_is slot m two.second p.lacking).1)

  unique_missing : (mine other : Two) → AreMissing slot m mine → AreMissing slot m other → mine ≡ other
  unique_missing mine other p q =
      ap (λ (d : ℕ). record { first = d; second = mine.second }) first ∙ ap (λ (d : ℕ). record { first = other.first; second = d }) second
    where
      first : mine.first ≡ other.first
      first = same_first mine.first other.first p.first q.first

      second : mine.second ≡ other.second
      second = elim (cases_lt mine.second other.second) [
        | inl less ↦ absurd (apart_from mine p (q.least mine.second less p.lacking ∙ sym first))
        | inr high ↦ elim (cases_lt other.second mine.second) [
          | inl less ↦ absurd (apart_from other q (p.least other.second less q.lacking ∙ first))
          | inr same ↦ omega arith
        ]
      ]

sides_one : (sides : Sides) (f g : MountFault) → IsRefusedBySides sides f → IsRefusedBySides sides g → f ≡ g
sides_one sides NotFormatted NotFormatted p q = refl
sides_one sides NotFormatted (BadLog e) p q = absurd (q.0 p)
sides_one sides NotFormatted (BadMeta e) p q = absurd (q.0 p)
sides_one sides (BadLog d) NotFormatted p q = absurd (p.0 q)
sides_one sides (BadLog d) (BadLog e) p q = ap BadLog (unique_fault sides true d e p.1 q.1)
sides_one sides (BadLog d) (BadMeta e) p q = absurd (q.1 d p.1.0)
sides_one sides (BadMeta d) NotFormatted p q = absurd (p.0 q)
sides_one sides (BadMeta d) (BadLog e) p q = absurd (p.1 e q.1.0)
sides_one sides (BadMeta d) (BadMeta e) p q = ap BadMeta (unique_fault sides false d e p.2 q.2)
sides_one sides f (Size e found needed) p q = absurd q
sides_one sides f (Power e) p q = absurd q
sides_one sides f (BothMissing two) p q = absurd q
sides_one sides f (Worn count) p q = absurd q
sides_one sides f NoMemory p q = absurd q
sides_one sides (Size d found needed) g p q = absurd p
sides_one sides (Power d) g p q = absurd p
sides_one sides (BothMissing two) g p q = absurd p
sides_one sides (Worn count) g p q = absurd p
sides_one sides NoMemory g p q = absurd p

module _ (count : ℕ) (slot : ℕ → Slot) (m : Meta) (batch : Batch) (range : IsInRange m) where
  size_one : (d found needed e other want : ℕ) → IsRefusedBy count slot m batch (Size d found needed) → IsRefusedBy count slot m batch (Size e other want)
      → Size d found needed ≡ Size e other want
  size_one d found needed e other want p q =
      let same = unique_least (is_small count slot m) m.setup.geometry.disks d e p.0 q.0 in
      ap (λ (x : ℕ). Size d x needed) p.1 ∙ ap (λ (x : ℕ). Size d (size_found count slot d) x) p.2
      ∙ ap (λ (z : ℕ). Size z (size_found count slot z) (disk_size m.setup.geometry)) same
      ∙ ap (λ (x : ℕ). Size e x (disk_size m.setup.geometry)) (sym q.1) ∙ ap (λ (x : ℕ). Size e other x) (sym q.2)

  not_large : (d found needed : ℕ) → IsRefusedBy count slot m batch (Size d found needed) → AreSlotsLarge count slot m → ⊥
  not_large d found needed p large = false≢true (sym (large d p.0.below) ∙ p.0.holds)

  not_awake : (d : ℕ) → IsRefusedBy count slot m batch (Power d) → AreAwake count slot m batch → ⊥
  not_awake d p awake = false≢true (sym (awake.1 d p.1.below) ∙ p.1.holds)

  not_enough : (two : Two) → IsRefusedBy count slot m batch (BothMissing two) → AreEnough count slot m batch → ⊥
  not_enough two p enough = enough.1 (double slot m two range p.1)

  meta_one : (f g : MountFault) → IsRefusedBy count slot m batch f → IsRefusedBy count slot m batch g → f ≡ g
  meta_one (Size d found needed) (Size e other want) p q = size_one d found needed e other want p q
  meta_one (Size d found needed) (Power e) p q = absurd (not_large d found needed p q.0)
  meta_one (Size d found needed) (BothMissing two) p q = absurd (not_large d found needed p q.0.0)
  meta_one (Size d found needed) (Worn many) p q = absurd (not_large d found needed p q.0.0.0)
  meta_one (Power d) (Size e other want) p q = absurd (not_large e other want q p.0)
  meta_one (Power d) (Power e) p q = ap Power (unique_least (is_asleep slot m batch) m.setup.geometry.disks d e p.1 q.1)
  meta_one (Power d) (BothMissing two) p q = absurd (not_awake d p q.0)
  meta_one (Power d) (Worn many) p q = absurd (not_awake d p q.0.0)
  meta_one (BothMissing two) (Size e other want) p q = absurd (not_large e other want q p.0.0)
  meta_one (BothMissing two) (Power e) p q = absurd (not_awake e q p.0)
  meta_one (BothMissing two) (BothMissing pair) p q = ap BothMissing (unique_missing slot m two pair p.1 q.1)
  meta_one (BothMissing two) (Worn many) p q = absurd (not_enough two p q.0)
  meta_one (Worn many) (Size e other want) p q = absurd (not_large e other want q p.0.0.0)
  meta_one (Worn many) (Power e) p q = absurd (not_awake e q p.0.0)
  meta_one (Worn many) (BothMissing two) p q = absurd (not_enough two q p.0)
  meta_one (Worn many) (Worn more) p q = ap Worn (p.1 ∙ sym q.1)
  meta_one f NotFormatted p q = absurd q
  meta_one f (BadLog e) p q = absurd q
  meta_one f (BadMeta e) p q = absurd q
  meta_one f NoMemory p q = absurd q
  meta_one NotFormatted g p q = absurd p
  meta_one (BadLog d) g p q = absurd p
  meta_one (BadMeta d) g p q = absurd p
  meta_one NoMemory g p q = absurd p

slots_one : (count : ℕ) (slot : ℕ → Slot) (f g : MountFault) → IsRefusedBySlots count slot f → IsRefusedBySlots count slot g → f ≡ g
slots_one count slot f g (asleep x p is) (asleep y q at) = is ∙ ap Power (unique_least (is_log_parked slot) 2 x y p q) ∙ sym at
slots_one count slot f g (asleep x p is) (few awake low at) = absurd (false≢true (sym (awake x p.below) ∙ p.holds))
slots_one count slot f g (few awake low is) (asleep y q at) = absurd (false≢true (sym (awake y q.below) ∙ q.holds))
slots_one count slot f g (few awake low is) (few still less at) = is ∙ sym at

logs_one : (a b : Logs) → AreAlike a b → (f g : MountFault) → IsRefusedByLogs a f → IsRefusedByLogs b g → f ≡ g
logs_one a b same f g (by_sides p) (by_sides q) = sides_one b.sides f g (subst (λ (s : Sides). IsRefusedBySides s f) same.sides p) q
logs_one a b same f g (by_sides p) (by_itself all y s stands named is) =
    absurd (sides_or_formed b.sides f (subst (λ (s : Sides). IsRefusedBySides s f) same.sides p) all)
logs_one a b same f g (by_sides p) (unpaired all y s stands live pair is) =
    absurd (sides_or_formed b.sides f (subst (λ (s : Sides). IsRefusedBySides s f) same.sides p) all)
logs_one a b same f g (by_itself all x r stands named is) (by_sides q) =
    absurd (sides_or_formed a.sides g (subst (λ (s : Sides). IsRefusedBySides s g) (sym same.sides) q) all)
logs_one a b same f g (by_itself all x r stands named is) (by_itself more y s also out at) =
    is ∙ ap BadMeta (same_standing a b same x y r s stands also).0 ∙ sym at
logs_one a b same f g (by_itself all x r stands named is) (unpaired more y s also live pair at) =
    let t = same_standing a b same x y r s stands also in
    absurd (live (ap (λ (z : LogState). named_out z.meta.out) (sym t.1) ∙ named ∙ ap Some t.0))
logs_one a b same f g (unpaired all x r stands live pair is) (by_sides q) =
    absurd (sides_or_formed a.sides g (subst (λ (s : Sides). IsRefusedBySides s g) (sym same.sides) q) all)
logs_one a b same f g (unpaired all x r stands live pair is) (by_itself more y s also out at) =
    let t = same_standing a b same x y r s stands also in
    absurd (live (ap (λ (z : LogState). named_out z.meta.out) t.1 ∙ out ∙ ap Some (sym t.0)))
logs_one a b same f g (unpaired all x r stands live pair is) (unpaired more y s also spared twin at) =
    let both = same_pair a b same pair twin in
    is ∙ ap (λ (z : ℕ). unpaired_fault pair.first.opened pair.second.opened (other_log z)) (same_standing a b same x y r s stands also).0
    ∙ ap (λ (z : LogState). unpaired_fault z.opened pair.second.opened (other_log y)) both.0
    ∙ ap (λ (z : LogState). unpaired_fault twin.first.opened z.opened (other_log y)) both.1 ∙ sym at

heard_one : (told : Option Trail) (count : ℕ) (slot : ℕ → Slot) (a b : Logs) → AreAlike a b → AreAlike b a → AreHeard told slot b → (f g : MountFault)
    → IsRefusedAsHeard count slot a f → IsRefusedAsHeard count slot b g → f ≡ g
heard_one told count slot a b same back heard f g (by_logs p) (by_logs q) = logs_one a b same f g p q
heard_one told count slot a b same back heard f g (by_logs p) (by_meta y s agreed q) = absurd (logs_or_agreed a b same f p y s agreed)
heard_one told count slot a b same back heard f g (by_meta x r agreed p) (by_logs q) = absurd (logs_or_agreed b a back g q x r agreed)
heard_one told count slot a b same back heard f g (by_meta x r agreed p) (by_meta y s also q) =
    let t = same_standing a b same x y r s agreed.standing also.standing in
    meta_one count slot s.meta s.batch (agreed_in_range told slot b y s heard also) f g
    (subst (λ (z : LogState). IsRefusedBy count slot z.meta z.batch f) t.1 p) q

pub one_cause : (count : ℕ) (old new : ℕ → Slot) (told : Option Trail) (t : Trail) → told ≡ Some t → (f g : MountFault)
    → IsRefused count old new told f → IsRefused count old new told g → f ≡ g
one_cause count old new told t tells f g (by_slots p same) (by_slots q also) = slots_one count old f g p q
one_cause count old new told t tells f g (by_slots p same) (by_loss readable two both is) = absurd (slots_or_readable count old f p readable)
one_cause count old new told t tells f g (by_slots p same) (as_heard readable lost logs heard q) = absurd (slots_or_readable count old f p readable)
one_cause count old new told t tells f g (by_loss readable two both is) (by_slots q same) = absurd (slots_or_readable count old g q readable)
one_cause count old new told t tells f g (by_loss readable two both is) (by_loss also pair all at) = is ∙ ap BothMissing (both.pair ∙ sym all.pair) ∙ sym at
one_cause count old new told t tells f g (by_loss readable two both is) (as_heard also lost logs heard q) = absurd (loss_or_one old new two both lost)
one_cause count old new told t tells f g (as_heard readable lost logs heard p) (by_slots q same) = absurd (slots_or_readable count old g q readable)
one_cause count old new told t tells f g (as_heard readable lost logs heard p) (by_loss also two both is) = absurd (loss_or_one old new two both lost)
one_cause count old new told t tells f g (as_heard readable lost logs heard p) (as_heard also left others known q) =
    heard_one told count new logs others (alike told new logs others t tells heard known) (alike told new others logs t tells known heard) known f g p q
