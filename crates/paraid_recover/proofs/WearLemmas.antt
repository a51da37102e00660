-- A rack that holds a history is refused for wear alone.
use Rattle.std.specs.Prelude.{◌≡◌, ◌⊎◌, ℕ, ◌<◌, ◌≤◌, ◌==◌, ◌&&◌, ◌||◌, nat_lt, not, Bool, true, false, [], ◌∷◌, Option, Some, None, Contains, if◌then◌else◌}
use Rattle.std.proofs.Common.{refl, sym, ◌∙◌, ap, subst, arith, inl, inr, zero, suc}
use Rattle.std.proofs.lemmas.Bool.{false≢true}
use Rattle.std.proofs.lemmas.Bool.Decides.{nat_tests}
use Rattle.std.proofs.lemmas.List.Elements.{Contains-append_right, Contains-get_or}
use Rattle.paraid_base.specs.declared.fault.Two.{Two}
use Rattle.paraid_base.specs.declared.state.Out.{Out}
use Rattle.paraid_base.specs.declared.state.Out.TheVariants.{No, Gone, Fresh}
use Rattle.paraid_base.specs.History.{History}
use Rattle.paraid_base.specs.Regions.{disk_size}
use Rattle.paraid_rack.specs.Alike.{IsAlike}
use Rattle.paraid_rack.specs.declared.call.Power.{Power as PowerType}
use Rattle.paraid_rack.specs.declared.call.Power.TheVariants.{Absent, Parked, Spinning}
use Rattle.paraid_rack.specs.Disks.{Disks, IsImage, is_present}
use Rattle.paraid_rack.specs.Slots.{Agrees, AreSameSlots, Slot}
use Rattle.paraid_rack.specs.Trail.{Trail, now}
use Rattle.paraid_record.specs.declared.meta.Meta.{Meta}
use Rattle.paraid_record.specs.declared.targets.Target.{Target}
use Rattle.paraid_record.specs.Range.{IsInRange}
use Rattle.paraid_image.specs.HeldAt.{IsHeld}
use Rattle.paraid_image.specs.Out.{IsDouble, IsMissing, is_out, named_out, out_disk}
use Rattle.paraid_image.specs.Rest.{AreSynced}
use Rattle.paraid_image.specs.Sides.{Batch, IsSide, LogState, Says, Side, targets}
use Rattle.paraid_image.specs.Sides.Side.{absent, blank, bad, formed}
use Rattle.paraid_image.specs.Sound.{AreDisks, IsSoundAt, LogOk}
use Rattle.paraid_image.specs.Standing.{Stands, is_first, standing}
use Rattle.paraid_image.proofs.AlikeLemmas.{sound_alike}
use Rattle.paraid_image.proofs.CallLemmas.{decide_some}
use Rattle.paraid_image.proofs.OutLemmas.{out_present, says_in_range}
use Rattle.paraid_image.proofs.SidesLemmas.{Says-same, blank_says_nothing}
use Rattle.paraid_image.proofs.StandingLemmas.{Stands-same}
use Rattle.paraid_recover.specs.declared.hearing.Heard.{Heard}
use Rattle.paraid_recover.specs.declared.hearing.Heard.TheVariants.{Blank, Bad, Formed}
use Rattle.paraid_recover.specs.Faults.{IsFaulty, IsSilent, side_at}
use Rattle.paraid_recover.specs.HeardSides.{AreBothLost, IsHeardAt, side_by}
use Rattle.paraid_image.specs.Batches.{names_disk}
use Rattle.paraid_recover.specs.declared.mount_fault.MountFault.{MountFault}
use Rattle.paraid_recover.specs.declared.mount_fault.MountFault.TheVariants.{NotFormatted, BadLog, BadMeta, Size, Power, Two as BothMissing, Worn, NoMemory}
use Rattle.paraid_recover.specs.Examined.{AreUnpaired, IsAgreed, IsRefused, IsRefusedBySlots, Logs, batch_at, side_of}
use Rattle.paraid_recover.specs.Examined.IsRefused.{by_slots, by_loss, as_heard}
use Rattle.paraid_recover.specs.Examined.IsRefusedAsHeard.{by_logs, by_meta}
use Rattle.paraid_recover.specs.Examined.IsRefusedBySlots.{asleep, few}
use Rattle.paraid_recover.specs.Order.{IsRefusedBy}
use Rattle.paraid_recover.specs.Refusals.{is_asleep, is_fresh, is_gone, is_parked, is_small, must_spin}
use Rattle.paraid_recover.specs.Said.{AreSilent, IsFaultless, out_by, said_out, standing_out}
use Rattle.paraid_recover.proofs.ExactLemmas.{double, logs_or_agreed}
use Rattle.paraid_recover.proofs.ExaminedLogLemmas.{formed_side, heard_stands, not_named, not_true, side_heard}

or_cases : (a b : Bool) → (a || b) ≡ true → (a ≡ true) ⊎ (b ≡ true)
or_cases true b is = inl refl
or_cases false b is = inr is

and_cases : (a b : Bool) → (a && b) ≡ true → (a ≡ true) × (b ≡ true)
and_cases true b is = (refl, is)
and_cases false b is = absurd (false≢true is)

parked_of : (p : PowerType) → is_parked p ≡ true → p ≡ Parked
parked_of Absent is = absurd (false≢true is)
parked_of Parked is = refl
parked_of Spinning is = absurd (false≢true is)

spins_or_parked : (p : PowerType) → p ≡ Spinning → p ≡ Parked → ⊥
spins_or_parked p is at = let z : Spinning ≡ Parked = sym is ∙ at in cc

lt_of : (a b : ℕ) → nat_lt a b ≡ true → a < b
lt_of a b is = grind (arith, nat_tests)

lt_true : (a b : ℕ) → a < b → nat_lt a b ≡ true
lt_true a b low = grind (arith, nat_tests)

same_of : (a b : ℕ) → (a == b) ≡ true → a ≡ b
same_of a b is = grind (arith, nat_tests)

eq_true : (a b : ℕ) → a ≡ b → (a == b) ≡ true
eq_true a b is = grind (arith, nat_tests)

-- a disk that is being rebuilt
fresh_of : (o : Out) (d : ℕ) → is_fresh o d ≡ true → (u : ℕ) × (o ≡ Fresh d u)
fresh_of No d is = absurd (false≢true is)
fresh_of (Gone e) d is = absurd (false≢true is)
fresh_of (Fresh e u) d is = (u, ap (λ (k : ℕ). Fresh k u) (sym (same_of d e is)))

-- one that is named out and not gone is so
not_gone_fresh : (o : Out) (d : ℕ) → named_out o ≡ Some d → is_gone o d ≡ false → (u : ℕ) × (o ≡ Fresh d u)
not_gone_fresh No d name is = absurd (let z : None ≡ Some d = name in cc)
not_gone_fresh (Gone e) d name is = (let z : Some e ≡ Some d = name in let same : d ≡ e = cc in absurd (false≢true (sym is ∙ eq_true d e same)))
not_gone_fresh (Fresh e u) d name is = (let z : Some e ≡ Some d = name in let same : e ≡ d = cc in (u, ap (λ (k : ℕ). Fresh k u) same))

-- a batch that names a disk has a target on it
named_target : (b : Batch) (d : ℕ) → names_disk b d ≡ true → (t : Target) × Contains (targets b) t × (t.disk ≡ d)
named_target [] d is = absurd (false≢true is)
named_target (w ∷ b) d is = elim (or_cases (w.0.disk == d) (names_disk b d) is) [
  | inl here ↦ (w.0, Contains-get_or (w.0 ∷ targets b) 0 w.0 (omega arith), same_of w.0.disk d here)
  | inr later ↦ let it = named_target b d later in (it.0, Contains-append_right (w.0 ∷ []) (targets b) it.0 it.1, it.2)
]

-- what stands does not depend on the batches
batchless : (h k : Option Heard) (a b : Batch) → standing (side_by h []) (side_by k []) ≡ standing (side_by h a) (side_by k b)
batchless None None a b = refl
batchless None (Some Blank) a b = refl
batchless None (Some (Bad g)) a b = refl
batchless None (Some (Formed g m)) a b = refl
batchless (Some Blank) None a b = refl
batchless (Some Blank) (Some Blank) a b = refl
batchless (Some Blank) (Some (Bad g)) a b = refl
batchless (Some Blank) (Some (Formed g m)) a b = refl
batchless (Some (Bad g)) None a b = refl
batchless (Some (Bad g)) (Some Blank) a b = refl
batchless (Some (Bad g)) (Some (Bad f)) a b = refl
batchless (Some (Bad g)) (Some (Formed f m)) a b = refl
batchless (Some (Formed g m)) None a b = refl
batchless (Some (Formed g m)) (Some Blank) a b = refl
batchless (Some (Formed g m)) (Some (Bad f)) a b = refl
batchless (Some (Formed g m)) (Some (Formed f n)) a b = refl

-- the side of a log disk that says something
formed_of : (i : Disks) (y : ℕ) (s : Side) (o : LogState) → IsSide i y s → Says i y o → s ≡ formed o
formed_of i y absent o is says = absurd (false≢true (sym is ∙ says.present))
formed_of i y blank o is says = absurd (blank_says_nothing i y o is.1 is.2 says)
formed_of i y bad o is says = absurd (is.silent o says)
formed_of i y (formed a) o is says = ap formed (Says-same i y a o is says)

first_stands : (i : Disks) (b : Side) (said : LogState) → Stands i 0 said → IsSide i 1 b → standing (formed said) b ≡ Some 0
first_stands i absent said stands is = refl
first_stands i blank said stands is = refl
first_stands i bad said stands is = refl
first_stands i (formed o) said stands is = ap (λ (c : Bool). if c then Some 0 else Some 1) (stands.first o is)

second_stands : (i : Disks) (a : Side) (said : LogState) → Stands i 1 said → IsSide i 0 a → standing a (formed said) ≡ Some 1
second_stands i absent said stands is = refl
second_stands i blank said stands is = refl
second_stands i bad said stands is = refl
second_stands i (formed o) said stands is = ap (λ (c : Bool). if c then Some 0 else Some 1) (not_true (is_first o said) (stands.first o is))

standing_by : (i : Disks) (a b : Side) (x : ℕ) (said : LogState) → IsSide i 0 a → IsSide i 1 b → Stands i x said → standing a b ≡ Some x
standing_by i a b zero said p q stands = ap (λ (s : Side). standing s b) (formed_of i 0 a said p stands.says) ∙ first_stands i b said stands q
standing_by i a b (suc zero) said p q stands = ap (standing a) (formed_of i 1 b said q stands.says) ∙ second_stands i a said stands p
standing_by i a b (suc (suc x)) said p q stands = let l : suc (suc x) < 2 = stands.log_disk in absurd (omega arith)

not_silent : (h : Option Heard) (o : Bool) (m : Meta) → h ≡ Some (Formed o m) → IsSilent h → ⊥
not_silent h o m is (inl none) = let z : None ≡ Some (Formed o m) = sym none ∙ is in cc
not_silent h o m is (inr empty) = let z : Some Blank ≡ Some (Formed o m) = sym empty ∙ is in cc

not_faulty : (gate : Bool) (h : Option Heard) (o : Bool) (m : Meta) → h ≡ Some (Formed o m) → IsFaulty gate h → ⊥
not_faulty gate h o m is (inl broken) = let z : Some (Bad gate) ≡ Some (Formed o m) = sym broken ∙ is in cc
not_faulty gate h o m is (inr empty) = let z : Some Blank ≡ Some (Formed o m) = sym empty.0 ∙ is in cc

faulty_there : (i : Disks) (y : ℕ) (gate : Bool) (h : Option Heard) (b : Batch) → IsHeardAt i y h b → IsFaulty gate h → is_present (i.power y) ≡ true
faulty_there i y gate h b is (inl broken) = (subst (λ (k : Option Heard). IsHeardAt i y k b) broken is).0.present
faulty_there i y gate h b is (inr empty) = (subst (λ (k : Option Heard). IsHeardAt i y k b) empty.0 is).0

-- The slots of a rack that holds a history
module _ (count : ℕ) (new : ℕ → Slot) (i : Disks) (h : History) (lo : ℕ) (down : Option ℕ) (agrees : Agrees i new) (synced : AreSynced i) (held : IsHeld count i h lo down) where
  abbrev stopped : Disks
  stopped = record i { loose = λ d p. false }

  stopped_image : IsImage i stopped
  stopped_image = record { power = λ d. refl; size = λ d. refl; block = λ d p not. refl; loose = λ d p. refl }

  stopped_alike : IsAlike stopped i
  stopped_alike = record { power = λ d. refl; size = λ d. refl; block = λ d p there. refl; loose = λ d p there. synced d p there.present }

  found : (k : ℕ) × IsSoundAt count i h k
  found = let it = held.whole stopped stopped_image in (it.k, sound_alike count stopped i h it.k stopped_alike it.sound)

  abbrev x : ℕ
  x = found.1.disk

  abbrev said : LogState
  said = found.1.said

  abbrev m : Meta
  m = said.meta

  log : LogOk i x said found.0
  log = found.1.log

  disks : AreDisks count i.power i.size m (out_disk i.power m)
  disks = found.1.content.kept.disks

  range : IsInRange m
  range = says_in_range said.opened _ said.meta said.batch log.stands.says.log

  not_slots : (old : ℕ → Slot) (fault : MountFault) → AreSameSlots old new → IsRefusedBySlots count old fault → ⊥
  not_slots old fault same (asleep y least is) = disks.log_disks y least.below (agrees.power y ∙ ap (λ (s : Slot). s.power) (same y) ∙ parked_of (old y).power least.holds)
  not_slots old fault same (few awake low is) = let enough = disks.enough in let many = m.setup.geometry.disks_low in omega arith

  not_loss : (old : ℕ → Slot) (two : Two) → AreBothLost old new two → ⊥
  not_loss old two both = let gone : i.power x ≡ Absent = agrees.power x ∙ both.gone x log.stands.log_disk in false≢true (sym (ap is_present gone) ∙ log.stands.says.present)

  -- the meta that stands asks nothing that is not there
  not_small : (d : ℕ) → d < m.setup.geometry.disks → is_small count new m d ≡ true → ⊥
  unfolding is_small
  not_small d low is = elim (or_cases (not (nat_lt d count)) _ is) [
    | inl past ↦ let enough = disks.enough in false≢true (sym (not_true (nat_lt d count) past) ∙ lt_true d count (omega arith))
    | inr small ↦
        let there = and_cases _ _ small in
        let less = and_cases _ _ there.1 in
        let here : is_present (i.power d) ≡ true = ap is_present (agrees.power d) ∙ there.0 in
        let large : disk_size m.setup.geometry ≤ i.size d = elim (decide_some (named_out m.out) d) [
          | inl name ↦ let f = not_gone_fresh m.out d name (not_true (is_gone m.out d) less.0) in disks.fresh_large d f.0 (record { is = f.1; present = here })
          | inr live ↦ disks.large d low here (out_present i.power m d here live)
        ] in
        let short = lt_of (new d).size (disk_size m.setup.geometry) less.1 in
        let size = agrees.size d in
        omega (arith, large, short, size)
  ]

  not_asleep : (d : ℕ) → is_asleep new m said.batch d ≡ true → ⊥
  unfolding is_asleep must_spin
  not_asleep d is =
      let both = and_cases _ _ is in
      let sleeps : i.power d ≡ Parked = agrees.power d ∙ parked_of (new d).power both.0 in
      let here : is_present (i.power d) ≡ true = ap is_present sleeps in
      elim (or_cases (is_fresh m.out d) _ both.1) [
        | inl fresh ↦ let f = fresh_of m.out d fresh in spins_or_parked (i.power d) (disks.fresh_spins d f.0 (record { is = f.1; present = here })) sleeps
        | inr used ↦
            let it = and_cases _ _ used in
            let live = not_named (named_out m.out) d (not_true (is_out (named_out m.out) d) it.0) in
            elim (or_cases (nat_lt d m.gear) _ it.1) [
              | inl below ↦ spins_or_parked (i.power d) (disks.below_gear d (lt_of d m.gear below) (out_present i.power m d here live)) sleeps
              | inr named ↦
                  let t = named_target said.batch d named in
                  spins_or_parked (i.power d)
                  (subst (λ (k : ℕ). i.power k ≡ Spinning) t.2 (log.targets_spin t.0 t.1 (λ out. out_present i.power m d here live (out ∙ ap Some t.2)))) sleeps
            ]
      ]

  missing_at : (d : ℕ) → IsMissing (λ e. (new e).power) m d → IsMissing i.power m d
  missing_at d is = record { disk = is.disk; is = elim is.is [ inl gone ↦ inl (ap is_present (agrees.power d) ∙ gone) | inr name ↦ inr name ] }

  not_double : IsDouble (λ e. (new e).power) m → ⊥
  not_double both = both.apart (log.single both.first both.second (missing_at both.first both.missing_first) (missing_at both.second both.missing_second))

  by_wear : (fault : MountFault) → IsRefusedBy count new m said.batch fault → (k : ℕ) × (fault ≡ Worn k)
  by_wear NotFormatted refused = absurd refused
  by_wear (BadLog d) refused = absurd refused
  by_wear (BadMeta d) refused = absurd refused
  by_wear (Size d seen needed) refused = absurd (not_small d refused.0.below refused.0.holds)
  by_wear (Power d) refused = absurd (not_asleep d refused.1.holds)
  by_wear (BothMissing two) refused = absurd (not_double (double new m two range refused.1))
  by_wear (Worn k) refused = (k, refl)
  by_wear NoMemory refused = absurd refused

  -- what was heard of the log disks agrees with what stands
  module _ (logs : Logs) (first : IsHeardAt i 0 logs.sides.first logs.first) (second : IsHeardAt i 1 logs.sides.second logs.second) where
    side_is : (y : ℕ) → y < 2 → IsSide i y (side_of logs y)
    side_is zero low = side_heard i 0 logs.sides.first logs.first first
    side_is (suc zero) low = side_heard i 1 logs.sides.second logs.second second
    side_is (suc (suc y)) low = absurd (omega arith)

    heard_is : (y : ℕ) → y < 2 → IsHeardAt i y (side_at logs.sides y) (batch_at logs y)
    heard_is zero low = first
    heard_is (suc zero) low = second
    heard_is (suc (suc y)) low = absurd (omega arith)

    heard_formed : (y : ℕ) (o : LogState) → y < 2 → Says i y o → side_at logs.sides y ≡ Some (Formed o.opened o.meta)
    heard_formed zero o low says = (formed_side logs.sides.first logs.first o (formed_of i 0 (side_of logs 0) o (side_is 0 low) says)).0
    heard_formed (suc zero) o low says = (formed_side logs.sides.second logs.second o (formed_of i 1 (side_of logs 1) o (side_is 1 low) says)).0
    heard_formed (suc (suc y)) o low says = absurd (omega arith)

    standing_is : standing (side_of logs 0) (side_of logs 1) ≡ Some x
    standing_is = standing_by i (side_of logs 0) (side_of logs 1) x said (side_is 0 (omega arith)) (side_is 1 (omega arith)) log.stands

    out_is : standing_out logs.sides ≡ named_out m.out
    out_is =
        ap (out_by logs.sides) (batchless logs.sides.first logs.sides.second logs.first logs.second ∙ standing_is)
        ∙ ap said_out (heard_formed x said log.stands.log_disk log.stands.says)

    silent_not : (y : ℕ) (o : LogState) → y < 2 → Says i y o → AreSilent logs.sides → ⊥
    silent_not zero o low says silent = not_silent logs.sides.first o.opened o.meta (heard_formed 0 o low says) silent.0
    silent_not (suc zero) o low says silent = not_silent logs.sides.second o.opened o.meta (heard_formed 1 o low says) silent.1
    silent_not (suc (suc y)) o low says silent = absurd (omega arith)

    no_fault : (gate : Bool) → IsFaultless logs.sides gate
    no_fault gate y fault =
        let there = faulty_there i y gate (side_at logs.sides y) (batch_at logs y) (heard_is y fault.log_disk) fault.faulty in
        let it = log.formed y fault.log_disk there (out_present i.power m y there (λ name. fault.live (out_is ∙ name))) in
        not_faulty gate (side_at logs.sides y) it.0.opened it.0.meta (heard_formed y it.0 fault.log_disk it.1) fault.faulty

    paired : AreUnpaired logs → ⊥
    paired pair =
        let one : Says i 0 pair.first = subst (IsSide i 0) pair.says_first (side_is 0 (omega arith)) in
        let two : Says i 1 pair.second = subst (IsSide i 1) pair.says_second (side_is 1 (omega arith)) in
        pair.apart (log.paired pair.first pair.second one two
        (out_present i.power m 0 one.present (λ name. pair.first_live (out_is ∙ name))) (out_present i.power m 1 two.present (λ name. pair.second_live (out_is ∙ name))))

    says_x : side_of logs x ≡ formed said
    says_x = formed_of i x (side_of logs x) said (side_is x log.stands.log_disk) log.stands.says

    agreed : IsAgreed logs x said
    agreed = record {
      formed = record { formed = silent_not x said log.stands.log_disk log.stands.says; opened = no_fault true; closed = no_fault false };
      standing = record { stands = standing_is; says = says_x };
      live = log.standing_in;
      paired = paired;
    }

-- Where a rack holds a history, the one cause of a refusal is wear.
pub refused_for_wear : (count : ℕ) (old new : ℕ → Slot) (told : Option Trail) (t : Trail) (fault : MountFault) (h : History) (lo : ℕ) (down : Option ℕ) → told ≡ Some t → Agrees (now t) new
    → AreSynced (now t) → IsHeld count (now t) h lo down → IsRefused count old new told fault → (k : ℕ) × (fault ≡ Worn k)
refused_for_wear count old new told t fault h lo down tells agrees synced held (by_slots slots same) = absurd (not_slots count new (now t) h lo down agrees synced held old fault same slots)
refused_for_wear count old new told t fault h lo down tells agrees synced held (by_loss readable two both is) = absurd (not_loss count new (now t) h lo down agrees synced held old two both)
refused_for_wear count old new told t fault h lo down tells agrees synced held (as_heard readable lost logs are (by_logs refused)) =
    absurd (logs_or_agreed logs logs (record { sides = refl; first = refl; second = refl }) fault refused _ _
    (agreed count new (now t) h lo down agrees synced held logs (are.first t tells) (are.second t tells)))
refused_for_wear count old new told t fault h lo down tells agrees synced held (as_heard readable lost logs are (by_meta y other all refused)) =
    let same = Stands-same (now t) y (x count new (now t) h lo down agrees synced held) other (said count new (now t) h lo down agrees synced held)
    (heard_stands told new logs y other are all.standing t tells) (log count new (now t) h lo down agrees synced held).stands in
    by_wear count new (now t) h lo down agrees synced held fault (subst (λ (o : LogState). IsRefusedBy count new o.meta o.batch fault) same.1 refused)
