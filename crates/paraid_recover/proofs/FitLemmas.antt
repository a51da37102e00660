-- Slots that fit a meta, and what each step of a mount asks of them.
use Rattle.std.specs.Prelude.{◌≡◌, ◌≢◌, ℕ, ◌+◌, ◌<◌, ◌≤◌, ◌⊎◌, ◌==◌, not, Bool, true, false, List, [], ◌∷◌, Option, Some, None, if◌then◌else◌}
use Rattle.std.proofs.Common.{refl, sym, ◌∙◌, ap, subst, arith, inl, inr}
use Rattle.std.proofs.lemmas.Bool.{false≢true}
use Rattle.paraid_base.specs.declared.fault.Two.{Two}
use Rattle.paraid_base.specs.declared.state.Out.{Out}
use Rattle.paraid_base.specs.declared.state.Out.TheVariants.{No, Gone, Fresh}
use Rattle.paraid_base.specs.Log.{worn_at, map_start}
use Rattle.paraid_base.specs.Regions.{disk_size, map_count}
use Rattle.paraid_base.specs.States.{gone_out}
use Rattle.paraid_base.specs.Told.{HasRisen}
use Rattle.paraid_base.proofs.ToldLemmas.{HasRisen-later, HasRisen-sooner}
use Rattle.paraid_rack.specs.declared.call.Power.{Power}
use Rattle.paraid_rack.specs.declared.call.Power.TheVariants.{Absent, Parked, Spinning}
use Rattle.paraid_rack.specs.declared.call.Call.{Call}
use Rattle.paraid_rack.specs.declared.call.Call.TheVariants.{Read, Write, Sync, Park, SpinUp, Attach}
use Rattle.paraid_rack.specs.Disks.{Disks, is_present, step}
use Rattle.paraid_rack.specs.Told.{Ran}
use Rattle.paraid_rack.specs.Trail.{Trail}
use Rattle.paraid_rack.specs.Slots.{Slot}
use Rattle.paraid_record.specs.declared.meta.Meta.{Meta}
use Rattle.paraid_record.specs.Range.{IsInRange, IsOutInRange}
use Rattle.paraid_image.specs.Mark.{marked_gone}
use Rattle.paraid_image.specs.Out.{first_absent, named_out, or_else}
use Rattle.paraid_image.proofs.MarkLemmas.{marked_in_range}
use Rattle.paraid_image.proofs.OutLemmas.{first_absent_is}
use Rattle.paraid_image.proofs.CallLemmas.{decide_some}
use Rattle.paraid_txn.specs.Losses.{AreFailedOrWell, IsOneOut, IsOutOfCommit, OnlyLosesSlots, AreTwoDown, AreTwoDownBeside}
use Rattle.paraid_txn.specs.Losses.IsOutOfCommit.{is_absent, was_named, is_named}
use Rattle.paraid_txn.specs.Ready.{IsLogReady}
use Rattle.paraid_txn.specs.Uses.{CanSync, EachCall, UsesSync}
use Rattle.paraid_txn.proofs.CommitPartLemmas.{EachCall-milder, ran_milder}
use Rattle.paraid_txn.proofs.MeansLemmas.{absent_power}
use Rattle.paraid_view.specs.Reads.{AreLeft, AreArrayReads}
use Rattle.paraid_view.proofs.TwoLemmas.{left_spared, spared_then}
use Rattle.paraid_recover.specs.Map.{IsMapReady}
use Rattle.paraid_recover.specs.Quiet.{IsReadOrSync}
use Rattle.paraid_recover.specs.RecoveryMark.{of_version_two, renewed_by, to_mark, to_mark_by, with_mark}
use Rattle.paraid_recover.specs.Mounted.{IsFit}
use Rattle.paraid_recover.proofs.RenewLemmas.{in_version_two, renewed_out}
use Rattle.paraid_recover.proofs.PowersLemmas.{out_found, out_is}

-- a disk that is there and not parked spins
pub spinning_if : (p : Power) → is_present p ≡ true → p ≢ Parked → p ≡ Spinning
spinning_if Absent here apart = absurd (false≢true here)
spinning_if Parked here apart = absurd (apart refl)
spinning_if Spinning here apart = refl

present_if_parked : (p : Power) → p ≡ Parked → is_present p ≡ true
present_if_parked p is = ap is_present is

-- a disk that is gone is named out
pub gone_named : (o : Out) (d : ℕ) → gone_out o ≡ Some d → named_out o ≡ Some d
gone_named No d is = is
gone_named (Gone e) d is = is
gone_named (Fresh e u) d is = let z : None ≡ Some d = is in cc

still_awake : (a b : ℕ → Slot) (d : ℕ) → OnlyLosesSlots a b → (a d).power ≢ Parked → (b d).power ≢ Parked
still_awake a b d spared apart is = apart (sym (spared.power d (ap is_present is)) ∙ is)

pub fit_stays : (count : ℕ) (a b : ℕ → Slot) (m : Meta) → OnlyLosesSlots a b → IsOneOut m.setup.geometry.disks (named_out m.out) b → IsFit count a m → IsFit count b m
fit_stays count a b m spared one fit = record {
  in_range = fit.in_range;
  enough = fit.enough;
  log_disks = λ x low. still_awake a b x spared (fit.log_disks x low);
  large = λ d low here in_use.
      let e = spared.size d here in
      let l = fit.large d low (ap is_present (sym (spared.power d here)) ∙ here) in_use in
      omega arith;
  awake = λ d low in_use. still_awake a b d spared (fit.awake d low in_use);
  fresh = λ d u is. still_awake a b d spared (fit.fresh d u is);
  one = one;
}

-- which disk is marked is absent, and no other one is named out
pub marks : (power : ℕ → Power) (m : Meta) (d : ℕ) → IsInRange m → to_mark power m ≡ Some d
    → (d < m.setup.geometry.disks) × (is_present (power d) ≡ false) × ((e : ℕ) → named_out m.out ≡ Some e → e ≡ d)
marks power m d range is = split m.out refl range.out is
  where
    split : (o : Out) → m.out ≡ o → IsOutInRange m.setup.geometry m.gear o → to_mark_by o power m.setup.geometry.disks ≡ Some d
        → (d < m.setup.geometry.disks) × (is_present (power d) ≡ false) × ((e : ℕ) → named_out m.out ≡ Some e → e ≡ d)
    split No out in_range found =
        let gone = first_absent_is power m.setup.geometry.disks d found in
        (gone.0, gone.1, λ e name. absurd (let z : None ≡ Some e = sym (ap named_out out) ∙ name in cc))
    split (Gone x) out in_range found = absurd (let z : None ≡ Some d = found in cc)
    split (Fresh x u) out in_range found = by (is_present (power x)) refl found
      where
        by : (b : Bool) → is_present (power x) ≡ b → (if b then None else Some x) ≡ Some d
            → (d < m.setup.geometry.disks) × (is_present (power d) ≡ false) × ((e : ℕ) → named_out m.out ≡ Some e → e ≡ d)
        by true here found = absurd (let z : None ≡ Some d = found in cc)
        by false off found =
            let z : Some x ≡ Some d = found in
            let same : x ≡ d = cc in (
              subst (λ (k : ℕ). k < m.setup.geometry.disks) same in_range.0,
              subst (λ (k : ℕ). is_present (power k) ≡ false) same off,
              λ e name. (let y : Some x ≡ Some e = sym (ap named_out out) ∙ name in let t : x ≡ e = cc in sym t ∙ same),
            )

pub fit_marked : (count : ℕ) (slot : ℕ → Slot) (m : Meta) (d epoch : ℕ) → IsFit count slot m → ((e : ℕ) → named_out m.out ≡ Some e → e ≡ d) → IsInRange (marked_gone m d epoch)
    → IsOneOut m.setup.geometry.disks (Some d) slot → IsFit count slot (marked_gone m d epoch)
fit_marked count slot m d epoch fit only range one = record {
  in_range = range;
  enough = fit.enough;
  log_disks = fit.log_disks;
  large = λ x low here in_use. fit.large x low here (λ gone. in_use (ap Some (sym (only x (gone_named m.out x gone)))));
  awake = λ x low in_use. fit.awake x low (λ name. in_use (ap Some (sym (only x name))));
  fresh = λ x u is. absurd (let z : Gone d ≡ Fresh x u = is in cc);
  one = one;
}

-- the log and the map end before the size of a disk
pub big : (m : Meta) → map_start m.setup.geometry + map_count m.setup.geometry ≤ disk_size m.setup.geometry
big m = let low = m.setup.geometry.rows_low in omega arith

-- a log disk that is not out is there
module _ (count : ℕ) (slot : ℕ → Slot) (m : Meta) (fit : IsFit count slot m) where
  abbrev n : ℕ
  n = m.setup.geometry.disks

  abbrev power : ℕ → Power
  power d = (slot d).power

  out_one : (x : ℕ) → IsOutOfCommit power n (named_out m.out) None x → or_else (named_out m.out) (first_absent power n) ≡ Some x
  out_one x out = let f = out_found power n (named_out m.out) x out in f.1 ∙ ap Some (fit.one f.0 x (out_is power n (named_out m.out) f.0 f.1) out)

  pub map_ready : (out : Option ℕ) → out ≡ or_else (named_out m.out) (first_absent power n) → IsMapReady m.setup.geometry slot out
  map_ready out is x low not = (
    spinning_if (power x) here (fit.log_disks x low),
    (let l = fit.large x below here (λ gone. not (is ∙ out_one x (was_named (gone_named m.out x gone)))) in let b = big m in omega arith),
  )
    where
      below : x < n
      below = let l = m.setup.geometry.disks_low in omega arith

      split : (b : Bool) → is_present (power x) ≡ b → is_present (power x) ≡ true
      split true here = here
      split false off = absurd (not (is ∙ out_one x (is_absent below (absent_power (power x) off))))

      here : is_present (power x) ≡ true
      here = split (is_present (power x)) refl

  pub log_ready : IsLogReady (named_out m.out) slot
  log_ready = record {
    can = λ x low not. record {
      spins = λ here. spinning_if (power x) here (fit.log_disks x low);
      within = λ here.
          let b = big m in
          let l = m.setup.geometry.disks_low in
          let s = fit.large x (omega arith) here (λ gone. not (gone_named m.out x gone)) in
          omega arith;
    };
  }

  pub can_sync : CanSync n (gone_out m.out) slot
  can_sync = record { within = λ d low not spins. (let b = big m in let s = fit.large d low (ap is_present spins) not in omega arith) }

-- What a step does to a cause: where two are down after it, each was out before or has failed since.
module _ (n : ℕ) (named : Option ℕ) (a b c : ℕ → Slot) where
  was_out : AreFailedOrWell a b → (d : ℕ) → IsOutOfCommit (λ e. (b e).power) n named None d → IsOutOfCommit (λ e. (a e).power) n named None d ⊎ HasRisen (a d).faults (b d).faults
  was_out each d (was_named is) = inl (was_named is)
  was_out each d (is_named is) = inl (is_named is)
  was_out each d (is_absent low gone) = elim (each d) [
    | inl risen ↦ inr risen
    | inr well ↦ inl (is_absent low (sym well.power ∙ gone))
  ]

  pub two_sooner : (two : Two) → AreFailedOrWell a b → ((d : ℕ) → (a d).faults ≤ (b d).faults) → ((d : ℕ) → (b d).faults ≤ (c d).faults)
      → AreTwoDownBeside (IsOutOfCommit (λ e. (b e).power) n named None) b c two → AreTwoDownBeside (IsOutOfCommit (λ e. (a e).power) n named None) a c two
  two_sooner two each before after it = record {
    first = elim it.first [
      | inl out ↦ elim (was_out each two.first out) [
        | inl was ↦ inl was
        | inr risen ↦ inr (HasRisen-later _ _ _ risen (after two.first))
      ]
      | inr risen ↦ inr (HasRisen-sooner _ _ _ (before two.first) risen)
    ];
    apart = it.apart;
    second = HasRisen-sooner _ _ _ (before two.second) it.second;
  }

-- reads in which this disk, or none, has failed
pub left_well : (lost : Option ℕ) (a b : ℕ → Slot) → AreLeft lost a b → AreFailedOrWell a b
left_well lost a b left d = elim (decide_some lost d) [
  | inl is ↦ inl (left.failed d is).risen
  | inr not ↦
      let same = left.others d not in
      inr (record { faults = ap (λ (s : Slot). s.faults) same; power = ap (λ (s : Slot). s.power) same; size = ap (λ (s : Slot). s.size) same })
]

pub one_read : (n : ℕ) (named lost : Option ℕ) (a b : ℕ → Slot) → AreLeft lost a b → ((e : ℕ) → lost ≡ Some e → or_else named (first_absent (λ d. (a d).power) n) ≡ None)
    → IsOneOut n named a → IsOneOut n named b
one_read n named lost a b left alone one d e p q = both (is d p) (is e q)
  where
    is : (x : ℕ) → IsOutOfCommit (λ y. (b y).power) n named None x → (lost ≡ Some x) ⊎ IsOutOfCommit (λ y. (a y).power) n named None x
    is x (was_named name) = inr (was_named name)
    is x (is_named name) = inr (is_named name)
    is x (is_absent low gone) = elim (decide_some lost x) [
      | inl lost_is ↦ inl lost_is
      | inr not ↦ inr (is_absent low (sym (ap (λ (s : Slot). s.power) (left.others x not)) ∙ gone))
    ]

    never : (x y : ℕ) → lost ≡ Some x → IsOutOfCommit (λ z. (a z).power) n named None y → ⊥
    never x y lost_is out = let f = out_found (λ z. (a z).power) n named y out in let z : None ≡ Some f.0 = sym (alone x lost_is) ∙ f.1 in cc

    both : (lost ≡ Some d) ⊎ IsOutOfCommit (λ y. (a y).power) n named None d → (lost ≡ Some e) ⊎ IsOutOfCommit (λ y. (a y).power) n named None e → d ≡ e
    both (inl x) (inl y) = let z : Some d ≡ Some e = sym x ∙ y in cc
    both (inl x) (inr y) = absurd (never d e x y)
    both (inr x) (inl y) = absurd (never e d y x)
    both (inr x) (inr y) = one d e x y

pub each_then : (a b c : ℕ → Slot) → AreFailedOrWell a b → AreFailedOrWell b c → ((d : ℕ) → (a d).faults ≤ (b d).faults) → ((d : ℕ) → (b d).faults ≤ (c d).faults) → AreFailedOrWell a c
each_then a b c first second before after d = elim (first d) [
  | inl risen ↦ inl (HasRisen-later _ _ _ risen (after d))
  | inr well ↦ elim (second d) [
    | inl risen ↦ inl (HasRisen-sooner _ _ _ (before d) risen)
    | inr still ↦ inr (record { faults = still.faults ∙ well.faults; power = still.power ∙ well.power; size = still.size ∙ well.size })
  ]
]

pub each_read : (lost more : Option ℕ) (a b c : ℕ → Slot) → AreLeft lost a b → AreLeft more b c → AreFailedOrWell a c
each_read lost more a b c first second =
    each_then a b c (left_well lost a b first) (left_well more b c second) (left_spared lost a b first).no_fall (left_spared more b c second).no_fall

-- reads are calls that leave a rest
reads_quiet : (n : ℕ) (s : Disks) (cs : List Call) → AreArrayReads n s cs → EachCall (IsReadOrSync n) s cs
reads_quiet n s [] are = tt
reads_quiet n s (Read d p done ∷ cs) are = (are.0.1, are.0.0, reads_quiet n (step (Read d p done) s) cs are.1)
reads_quiet n s (Write d p b done ∷ cs) are = absurd are.0
reads_quiet n s (Sync d done ∷ cs) are = absurd are.0
reads_quiet n s (Park d done ∷ cs) are = absurd are.0
reads_quiet n s (SpinUp d done ∷ cs) are = absurd are.0
reads_quiet n s (Attach d size done ∷ cs) are = absurd are.0

pub quiet_reads : (n : ℕ) (old new : Option Trail) → Ran old new (AreArrayReads n) → Ran old new (EachCall (IsReadOrSync n))
quiet_reads n old new ran = ran_milder (AreArrayReads n) (EachCall (IsReadOrSync n)) (reads_quiet n) ran

sync_quiet : (n : ℕ) (skip : Option ℕ) (c : Call) → UsesSync n skip c → IsReadOrSync n c
sync_quiet n skip (Read d p done) uses = absurd uses
sync_quiet n skip (Write d p b done) uses = absurd uses
sync_quiet n skip (Sync d done) uses = uses.0
sync_quiet n skip (Park d done) uses = absurd uses
sync_quiet n skip (SpinUp d done) uses = absurd uses
sync_quiet n skip (Attach d size done) uses = absurd uses

pub quiet_syncs : (n : ℕ) (skip : Option ℕ) (old new : Option Trail) → Ran old new (EachCall (UsesSync n skip)) → Ran old new (EachCall (IsReadOrSync n))
quiet_syncs n skip old new ran = ran_milder (EachCall (UsesSync n skip)) (EachCall (IsReadOrSync n)) (EachCall-milder (UsesSync n skip) (IsReadOrSync n) (sync_quiet n skip)) ran

pub spared_both : (a b c : ℕ → Slot) → OnlyLosesSlots a b → OnlyLosesSlots b c → OnlyLosesSlots a c
spared_both = spared_then

-- a cause beside the disk that was out
pub two_by_out : (n : ℕ) (named out : Option ℕ) (a b : ℕ → Slot) (two : Two) → out ≡ or_else named (first_absent (λ d. (a d).power) n) → AreTwoDown out a b two
    → AreTwoDownBeside (IsOutOfCommit (λ d. (a d).power) n named None) a b two
two_by_out n named out a b two is it = record {
  first = elim it.first [ inl was ↦ inl (out_is (λ d. (a d).power) n named two.first (sym is ∙ was)) | inr risen ↦ inr risen ];
  apart = it.apart;
  second = it.second;
}

-- a cause beside a disk that was to be marked
pub two_unmarked : (n : ℕ) (named mark : Option ℕ) (a b : ℕ → Slot) (two : Two) → ((d : ℕ) → mark ≡ Some d → (d < n) × (is_present (a d).power ≡ false))
    → AreTwoDownBeside (IsOutOfCommit (λ d. (a d).power) n named mark) a b two → AreTwoDownBeside (IsOutOfCommit (λ d. (a d).power) n named None) a b two
two_unmarked n named mark a b two marks it = record { first = elim it.first [ inl out ↦ inl (is out) | inr risen ↦ inr risen ]; apart = it.apart; second = it.second }
  where
    is : IsOutOfCommit (λ d. (a d).power) n named mark two.first → IsOutOfCommit (λ d. (a d).power) n named None two.first
    is (is_absent low gone) = is_absent low gone
    is (was_named name) = was_named name
    is (is_named name) = let m = marks two.first name in is_absent m.0 (absent_power (a two.first).power m.1)

-- the slots fit a meta that is brought to version 2
fit_renewed : (count : ℕ) (slot : ℕ → Slot) (m : Meta) (b : Bool) → m.epoch < worn_at → IsFit count slot m → IsFit count slot (renewed_by b m)
fit_renewed count slot m false few fit = fit
fit_renewed count slot m true few fit = record {
  in_range = in_version_two m (m.epoch + 1) fit.in_range (omega arith) (omega arith);
  enough = fit.enough;
  log_disks = fit.log_disks;
  large = fit.large;
  awake = fit.awake;
  fresh = fit.fresh;
  one = fit.one;
}

-- which disk is marked, and that the slots fit then
pub fit_with_mark : (count : ℕ) (a b : ℕ → Slot) (m : Meta) (o : Option ℕ) → o ≡ to_mark (λ d. (a d).power) m → IsFit count a m → OnlyLosesSlots a b → m.epoch < worn_at
    → IsOneOut m.setup.geometry.disks (named_out (with_mark m o).out) b → IsFit count b (with_mark m o)
fit_with_mark count a b m None is fit spared few one =
    fit_renewed count b m (m.version == 1) few (fit_stays count a b m spared (subst (λ (o : Out). IsOneOut m.setup.geometry.disks (named_out o) b) (renewed_out m) one) fit)
fit_with_mark count a b m (Some d) is fit spared few one =
    let it = marks (λ e. (a e).power) m d fit.in_range (sym is) in
    record {
      in_range = marked_in_range (of_version_two m) d (m.epoch + 1) (in_version_two m m.epoch fit.in_range fit.in_range.counters.first fit.in_range.counters.epoch_fits) it.0 (omega arith) (omega arith);
      enough = fit.enough;
      log_disks = λ x low. still_awake a b x spared (fit.log_disks x low);
      large = λ x low here in_use.
          let e = spared.size x here in
          let l = fit.large x low (ap is_present (sym (spared.power x here)) ∙ here) (λ gone. in_use (ap Some (sym (it.2 x (gone_named m.out x gone))))) in
          omega arith;
      awake = λ x low in_use. still_awake a b x spared (fit.awake x low (λ name. in_use (ap Some (sym (it.2 x name)))));
      fresh = λ x u fresh. absurd (let z : Gone d ≡ Fresh x u = fresh in cc);
      one = one;
    }

-- and that it is absent still
pub marked_absent : (a b : ℕ → Slot) (m : Meta) (d : ℕ) → IsInRange m → to_mark (λ e. (a e).power) m ≡ Some d → OnlyLosesSlots a b
    → (is_present (b d).power ≡ false) × (d < m.setup.geometry.disks)
marked_absent a b m d range is spared =
    let it = marks (λ e. (a e).power) m d range is in
    (split (is_present (b d).power) refl it.1, it.0)
  where
    split : (x : Bool) → is_present (b d).power ≡ x → is_present (a d).power ≡ false → is_present (b d).power ≡ false
    split false off was = off
    split true here was = absurd (false≢true (sym was ∙ ap is_present (sym (spared.power d here)) ∙ here))

-- the same by equal names of what was out
pub two_at : (n k : ℕ) (named name mark : Option ℕ) (a b : ℕ → Slot) (two : Two) → k ≡ n → name ≡ named → ((d : ℕ) → mark ≡ Some d → (d < n) × (is_present (a d).power ≡ false))
    → AreTwoDownBeside (IsOutOfCommit (λ d. (a d).power) k name mark) a b two → AreTwoDownBeside (IsOutOfCommit (λ d. (a d).power) n named None) a b two
two_at n k named name mark a b two k_is name_is marks it =
    two_unmarked n named mark a b two marks
    (subst (λ (o : Option ℕ). AreTwoDownBeside (IsOutOfCommit (λ d. (a d).power) n o mark) a b two) name_is (subst (λ (x : ℕ). AreTwoDownBeside (IsOutOfCommit (λ d. (a d).power) x name mark) a b two) k_is it))

-- a cause beside a disk that was named out before and still is
pub two_named : (n : ℕ) (named : Option ℕ) (a b : ℕ → Slot) (two : Two) → AreTwoDownBeside (IsOutOfCommit (λ d. (a d).power) n named named) a b two
    → AreTwoDownBeside (IsOutOfCommit (λ d. (a d).power) n named None) a b two
two_named n named a b two it = record { first = elim it.first [ inl out ↦ inl (is out) | inr risen ↦ inr risen ]; apart = it.apart; second = it.second }
  where
    is : IsOutOfCommit (λ d. (a d).power) n named named two.first → IsOutOfCommit (λ d. (a d).power) n named None two.first
    is (is_absent low gone) = is_absent low gone
    is (was_named name) = was_named name
    is (is_named name) = was_named name
