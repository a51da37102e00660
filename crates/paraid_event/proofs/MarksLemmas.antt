-- What the disks show of the meta in memory, and how they are powered by it.
use Rattle.std.proofs.Common.{◌≡◌, ◌≢◌, ℕ, ◌<◌, Bool, true, false, Option, Some, None, refl, sym, ap, ◌∙◌, subst, inl, inr, if◌then◌else◌, arith}
use Rattle.std.specs.Prelude.{◌==◌, ◌⊎◌}
use Rattle.std.proofs.lemmas.Bool.Decides.{nat_tests}
use Rattle.paraid_base.specs.declared.state.Out.{Out}
use Rattle.paraid_base.specs.declared.state.Out.TheVariants.{No, Gone, Fresh}
use Rattle.paraid_base.specs.declared.state.Phase.{Phase}
use Rattle.paraid_base.specs.declared.state.Phase.TheVariants.{Steady, Down, Up}
use Rattle.paraid_base.specs.States.{gone_out, has_out, named_out, phase_beside, rising_to}
use Rattle.paraid_rack.specs.declared.call.Power.{Power}
use Rattle.paraid_rack.specs.declared.call.Power.TheVariants.{Spinning}
use Rattle.paraid_rack.specs.Disks.{is_present}
use Rattle.paraid_record.specs.declared.meta.Meta.{Meta}
use Rattle.paraid_record.specs.declared.meta.Setup.{Setup}
use Rattle.paraid_image.specs.Out.{first_absent, or_else, out_disk}
use Rattle.paraid_image.specs.Power.{PowerState, gone_of, out_after, out_state, power_beside, power_by_gear, power_of, state_by}
use Rattle.paraid_image.specs.Shown.{IsShown}
use Rattle.paraid_image.specs.Spins.{made_spin_ups}
use Rattle.paraid_image.specs.Mark.{meta_with_lost}
use Rattle.paraid_image.proofs.OutLemmas.{first_absent_finds, first_absent_is}
use Rattle.paraid_event.proofs.ApartLemmas.{gone_not_fresh, no_one, none_not_fresh}
use Rattle.paraid_event.specs.Marks.{ArePoweredByGear, IsMarkedBy, ShowsMeta}
use Rattle.paraid_event.specs.Service.{IsStateOf, Service}

named_gone : (slot : Option ℕ) → named_out (gone_of slot) ≡ slot
named_gone None = refl
named_gone (Some d) = refl

named_fresh : (there : Bool) (d rebuilt : ℕ) → named_out (if there then Fresh d rebuilt else Gone d) ≡ Some d
named_fresh true d rebuilt = refl
named_fresh false d rebuilt = refl

named_after : (o : Out) (power : ℕ → Power) (slot : Option ℕ) → named_out (out_after o power slot) ≡ or_else (named_out o) slot
named_after No power slot = named_gone slot
named_after (Gone d) power slot = refl
named_after (Fresh d rebuilt) power slot = named_fresh (is_present (power d)) d rebuilt

-- the disk that is out in the state shown is the out disk
pub named_state : (power : ℕ → Power) (m : Meta) → named_out (out_state power m) ≡ out_disk power m
named_state power m = named_after m.out power (first_absent power m.setup.geometry.disks)

-- a disk that is gone is named out
pub gone_is_named : (o : Out) (d : ℕ) → gone_out o ≡ Some d → named_out o ≡ Some d
gone_is_named No d is = is
gone_is_named (Gone e) d is = is
gone_is_named (Fresh e rebuilt) d is = absurd (no_one is)

some_is : {A : Type 0} (a b : A) → Some a ≡ Some b → a ≡ b
some_is {A} a b e = cc

same_if : (d e : ℕ) → (d == e) ≡ true → d ≡ e
same_if d e is = grind (arith, nat_tests)

other_if : (d e : ℕ) → (d == e) ≡ false → e ≢ d
other_if d e is same = grind (arith, nat_tests)

pub twice : (b : Bool) (phase : Phase) → phase_beside true (phase_beside b phase) ≡ phase_beside true phase
twice b Steady = refl
twice true (Down to) = refl
twice false (Down to) = refl
twice b (Up to) = refl

pub again : (b : Bool) (phase : Phase) → phase_beside b (phase_beside b phase) ≡ phase_beside b phase
again b Steady = refl
again true (Down to) = refl
again false (Down to) = refl
again b (Up to) = refl

pub if_again : (b : Bool) (fill : ℕ) → (if b then 0 else (if b then 0 else fill)) ≡ (if b then 0 else fill)
if_again true fill = refl
if_again false fill = refl

-- the state that the disks show is that of the meta in memory
pub state_shown : (power : ℕ → Power) (base m : Meta) (dirty : ℕ → ℕ → Bool) (k : Service) (s : PowerState) → k.meta ≡ m → ShowsMeta power base m → IsStateOf k s → IsShown s (state_by power base dirty)
unfolding state_by
state_shown power base m dirty k s same shows of = record {
  gear = shows.gear ∙ sym (ap (λ (z : Meta). z.gear) same) ∙ sym of.gear;
  phase = ap (λ (o : Out). phase_beside (has_out o) base.phase) shows.out ∙ shows.phase ∙ sym (ap (λ (z : Meta). z.phase) same) ∙ sym of.phase;
  fill = ap (λ (o : Out). if has_out o then 0 else base.fill) shows.out ∙ shows.fill ∙ sym (ap (λ (z : Meta). z.fill) same) ∙ sym of.fill;
  out = shows.out ∙ sym (ap (λ (z : Meta). z.out) same) ∙ sym of.out;
  spins = shows.spins ∙ sym (ap (λ (z : Meta). z.spins) same) ∙ sym of.spins;
}

-- the disks are powered as the state says
pub powers_of : (k : Service) (s : PowerState) (power : ℕ → Power) → ArePoweredByGear power k.meta → IsStateOf k s → (d : ℕ) (p : Power) → d < k.meta.setup.geometry.disks → power_of s d ≡ Some p → power d ≡ p
powers_of k s power powered of d p low is = split k.meta.out refl (sym (rw (of.gear, of.phase, of.out) refl) ∙ is)
  where
    by_gear : named_out k.meta.out ≢ Some d → Some (power_by_gear k.meta.gear k.meta.phase d) ≡ Some p → power d ≡ p
    by_gear not e = powered.by_gear d low not ∙ some_is (power_by_gear k.meta.gear k.meta.phase d) p e

    split : (o : Out) → k.meta.out ≡ o → power_beside o d (power_by_gear k.meta.gear k.meta.phase d) ≡ Some p → power d ≡ p
    split No out e = by_gear (λ named. absurd (no_one (sym (ap named_out out) ∙ named))) e
    split (Gone x) out e = either (d == x) refl e
      where
        either : (b : Bool) → (d == x) ≡ b → (if b then None else Some (power_by_gear k.meta.gear k.meta.phase d)) ≡ Some p → power d ≡ p
        either true same f = absurd (no_one f)
        either false apart f = by_gear (λ named. other_if d x apart (some_is x d (sym (ap named_out out) ∙ named))) f
    split (Fresh x rebuilt) out e = either (d == x) refl e
      where
        either : (b : Bool) → (d == x) ≡ b → (if b then Some Spinning else Some (power_by_gear k.meta.gear k.meta.phase d)) ≡ Some p → power d ≡ p
        either true same f = ap power (same_if d x same) ∙ powered.fresh x rebuilt out ∙ some_is Spinning p f
        either false apart f = by_gear (λ named. other_if d x apart (some_is x d (sym (ap named_out out) ∙ named))) f

-- where each absent disk is named out, and one that is being rebuilt is there, the disks show a meta
-- that stands itself
pub out_named : (power : ℕ → Power) (m : Meta) (o : Out) → m.out ≡ o → ((d : ℕ) → d < m.setup.geometry.disks → is_present (power d) ≡ false → named_out m.out ≡ Some d)
    → ((d rebuilt : ℕ) → m.out ≡ Fresh d rebuilt → is_present (power d) ≡ true) → out_state power m ≡ m.out
out_named power m No is named fresh = ap (λ (z : Out). out_after z power (first_absent power m.setup.geometry.disks)) is ∙ by (first_absent power m.setup.geometry.disks) refl ∙ sym is
  where
    by : (slot : Option ℕ) → first_absent power m.setup.geometry.disks ≡ slot → gone_of (first_absent power m.setup.geometry.disks) ≡ No
    by None e = ap gone_of e
    by (Some x) e = let f = first_absent_is power m.setup.geometry.disks x e in absurd (no_one (sym (ap named_out is) ∙ named x f.0 f.1))
out_named power m (Gone d) is named fresh = ap (λ (z : Out). out_after z power (first_absent power m.setup.geometry.disks)) is ∙ sym is
out_named power m (Fresh d rebuilt) is named fresh = ap (λ (z : Out). out_after z power (first_absent power m.setup.geometry.disks)) is ∙ ap (λ (b : Bool). if b then Fresh d rebuilt else Gone d) (fresh d rebuilt is) ∙ sym is

-- the meta after a call, by the disk that was lost in it
module _ (power : ℕ → Power) (m new : Meta) (marks : IsMarkedBy power m new) where
  pub kept_out : marks.lost ≡ None → new.out ≡ m.out
  kept_out none = ap (λ (z : Meta). z.out) marks.is ∙ ap (λ (o : Option ℕ). (meta_with_lost o m).out) none

  pub lost_out : (d : ℕ) → marks.lost ≡ Some d → new.out ≡ Gone d
  lost_out d some = ap (λ (z : Meta). z.out) marks.is ∙ ap (λ (o : Option ℕ). (meta_with_lost o m).out) some

  pub kept_phase : marks.lost ≡ None → new.phase ≡ m.phase
  kept_phase none = ap (λ (z : Meta). z.phase) marks.is ∙ ap (λ (o : Option ℕ). (meta_with_lost o m).phase) none

  pub lost_phase : (d : ℕ) → marks.lost ≡ Some d → new.phase ≡ phase_beside true m.phase
  lost_phase d some = ap (λ (z : Meta). z.phase) marks.is ∙ ap (λ (o : Option ℕ). (meta_with_lost o m).phase) some

  pub kept_fill : marks.lost ≡ None → new.fill ≡ m.fill
  kept_fill none = ap (λ (z : Meta). z.fill) marks.is ∙ ap (λ (o : Option ℕ). (meta_with_lost o m).fill) none

  pub lost_fill : (d : ℕ) → marks.lost ≡ Some d → ◌≡◌ {A = ℕ} new.fill 0
  lost_fill d some = ap (λ (z : Meta). z.fill) marks.is ∙ ap (λ (o : Option ℕ). (meta_with_lost o m).fill) some

  by_lost : {A : Type 0} (f : Meta → A) → ((o : Option ℕ) → f (record (meta_with_lost o m) { epoch = new.epoch; writes = new.writes }) ≡ f m) → f new ≡ f m
  by_lost {A} f same = ap f marks.is ∙ same marks.lost

  pub same_gear : new.gear ≡ m.gear
  same_gear = by_lost (λ z. z.gear) (λ o. each o)
    where
      each : (o : Option ℕ) → (meta_with_lost o m).gear ≡ m.gear
      each None = refl
      each (Some d) = refl

  pub same_spins : new.spins ≡ m.spins
  same_spins = by_lost (λ z. z.spins) (λ o. each o)
    where
      each : (o : Option ℕ) → (meta_with_lost o m).spins ≡ m.spins
      each None = refl
      each (Some d) = refl

  pub same_ticks : new.ticks ≡ m.ticks
  same_ticks = by_lost (λ z. z.ticks) (λ o. each o)
    where
      each : (o : Option ℕ) → (meta_with_lost o m).ticks ≡ m.ticks
      each None = refl
      each (Some d) = refl

  pub marked_setup : new.setup ≡ m.setup
  marked_setup = by_lost (λ z. z.setup) (λ o. each o)
    where
      each : (o : Option ℕ) → (meta_with_lost o m).setup ≡ m.setup
      each None = refl
      each (Some d) = refl

  rising_beside : (phase : Phase) → rising_to (phase_beside true phase) ≡ rising_to phase
  rising_beside Steady = refl
  rising_beside (Down to) = refl
  rising_beside (Up to) = refl

  same_rising : rising_to new.phase ≡ rising_to m.phase
  same_rising = by_lost (λ z. rising_to z.phase) (λ o. each o)
    where
      each : (o : Option ℕ) → rising_to (meta_with_lost o m).phase ≡ rising_to m.phase
      each None = refl
      each (Some d) = rising_beside m.phase

  -- it has recorded the same spin-ups
  pub marked_used : (p : ℕ → Power) (d : ℕ) → made_spin_ups new p d ≡ made_spin_ups m p d
  marked_used p d = rw (same_gear, same_spins, same_rising) refl

  pub marked_gear : (d : ℕ) → power_by_gear new.gear new.phase d ≡ power_by_gear m.gear m.phase d
  marked_gear d = rw (same_gear, same_rising) refl

  split : (A : Type 0) → (marks.lost ≡ None → A) → ((d : ℕ) → marks.lost ≡ Some d → A) → A
  split A none some = by marks.lost refl
    where
      by : (o : Option ℕ) → marks.lost ≡ o → A
      by None e = none e
      by (Some d) e = some d e

  -- a disk that was named out is so still
  pub still_named : (d : ℕ) → named_out m.out ≡ Some d → named_out new.out ≡ Some d
  still_named d is = split _ (λ none. ap named_out (kept_out none) ∙ is) (λ x some. ap named_out (lost_out x some) ∙ ap (λ (z : ℕ). Some z) (sym (marks.alone x d some is)))

  pub still_gone : (d : ℕ) → gone_out m.out ≡ Some d → gone_out new.out ≡ Some d
  still_gone d is = split _ (λ none. ap gone_out (kept_out none) ∙ is) (λ x some. ap gone_out (lost_out x some) ∙ ap (λ (z : ℕ). Some z) (sym (marks.alone x d some (gone_is_named m.out d is))))

  -- one that is named out now was so, or is absent
  pub newly_named : (d : ℕ) → named_out new.out ≡ Some d → (named_out m.out ≡ Some d) ⊎ ((d < m.setup.geometry.disks) × (is_present (power d) ≡ false))
  newly_named d is = split _ (λ none. inl (ap named_out (sym (kept_out none)) ∙ is))
      (λ x some. let same : x ≡ d = some_is x d (ap named_out (sym (lost_out x some)) ∙ is) in inr (subst (λ (z : ℕ). (z < m.setup.geometry.disks) × (is_present (power z) ≡ false)) same (marks.disk x some, marks.absent x some)))

  -- Disks that showed the meta show it with the mark.
  module _ (base : Meta) (p : ℕ → Power) (setup : base.setup ≡ m.setup) (shows : ShowsMeta p base m) (stays_off : (d : ℕ) → is_present (p d) ≡ false → is_present (power d) ≡ false) where
    abbrev nb : ℕ
    nb = base.setup.geometry.disks

    below : (d : ℕ) → d < nb → d < m.setup.geometry.disks
    below d low = subst (λ (z : Setup). d < z.geometry.disks) setup low

    -- a disk that is absent is the least one
    least : (x : ℕ) → new.out ≡ Gone x → x < nb → is_present (power x) ≡ false → first_absent power nb ≡ Some x
    least x is low gone = let f = first_absent_finds power nb x low gone in
        let at = first_absent_is power nb f.0 f.1 in
        f.1 ∙ sym (marks.named f.0 (below f.0 at.0) at.1) ∙ ap named_out is

    from_no : base.out ≡ No → (o : Out) → new.out ≡ o → gone_of (first_absent power nb) ≡ o
    from_no no_out No is = by (first_absent power nb) refl
      where
        by : (slot : Option ℕ) → first_absent power nb ≡ slot → gone_of (first_absent power nb) ≡ No
        by None e = ap gone_of e
        by (Some x) e = let f = first_absent_is power nb x e in absurd (no_one (sym (ap named_out is) ∙ marks.named x (below x f.0) f.1))
    from_no no_out (Gone x) is = split _
        (λ none.
        let was : gone_of (first_absent p nb) ≡ Gone x = ap (λ (z : Out). out_after z p (first_absent p nb)) (sym no_out) ∙ shows.out ∙ sym (kept_out none) ∙ is in
        let f = first_absent_is p nb x (gone_some (first_absent p nb) x was) in
        ap gone_of (least x is f.0 (stays_off x f.1)))
        (λ y some.
        let same : y ≡ x = some_is y x (ap named_out (sym (lost_out y some) ∙ is)) in
        ap gone_of (least x is (subst (λ (z : Setup). x < z.geometry.disks) (sym setup) (subst (λ (z : ℕ). z < m.setup.geometry.disks) same (marks.disk y some))) (subst (λ (z : ℕ). is_present (power z) ≡ false) same (marks.absent y some))))
      where
        gone_some : (slot : Option ℕ) (x : ℕ) → gone_of slot ≡ Gone x → slot ≡ Some x
        gone_some None x e = let z : No ≡ Gone x = e in cc
        gone_some (Some d) x e = let z : Gone d ≡ Gone x = e in cc
    from_no no_out (Fresh x rebuilt) is = split _
        (λ none. absurd (never (first_absent p nb) (ap (λ (z : Out). out_after z p (first_absent p nb)) (sym no_out) ∙ shows.out ∙ sym (kept_out none) ∙ is)))
        (λ y some. absurd (gone_not_fresh (sym (lost_out y some) ∙ is)))
      where
        never : (slot : Option ℕ) → gone_of slot ≡ Fresh x rebuilt → ⊥
        never None e = absurd (none_not_fresh e)
        never (Some d) e = absurd (gone_not_fresh e)

    from_gone : (e : ℕ) → m.out ≡ Gone e → Gone e ≡ new.out
    from_gone e is = split _ (λ none. sym is ∙ sym (kept_out none)) (λ y some. ap Gone (marks.alone y e some (ap named_out is)) ∙ sym (lost_out y some))

    from_fresh : (e u : ℕ) (there : Bool) → is_present (p e) ≡ there → (if there then Fresh e u else Gone e) ≡ m.out → (if is_present (power e) then Fresh e u else Gone e) ≡ new.out
    from_fresh e u true was is = split _
        (λ none. let out : new.out ≡ Fresh e u = kept_out none ∙ sym is in ap (λ (b : Bool). if b then Fresh e u else Gone e) (marks.fresh e u out) ∙ sym out)
        (λ y some.
        let same : e ≡ y = marks.alone y e some (ap named_out (sym is)) in
        ap (λ (b : Bool). if b then Fresh e u else Gone e) (subst (λ (z : ℕ). is_present (power z) ≡ false) (sym same) (marks.absent y some)) ∙ ap Gone same ∙ sym (lost_out y some))
    from_fresh e u false was is = ap (λ (b : Bool). if b then Fresh e u else Gone e) (stays_off e was) ∙ from_gone e (sym is)

    still_out : (o : Out) → base.out ≡ o → out_after o power (first_absent power nb) ≡ new.out
    still_out No is = from_no is new.out refl
    still_out (Gone e) is = from_gone e (sym shows.out ∙ ap (λ (z : Out). out_after z p (first_absent p nb)) is)
    still_out (Fresh e u) is = from_fresh e u (is_present (p e)) refl (ap (λ (z : Out). out_after z p (first_absent p nb)) (sym is) ∙ shows.out)

    pub still_shown : ShowsMeta power base new
    still_shown = record {
      gear = shows.gear ∙ sym same_gear;
      out = still_out base.out refl;
      phase = split _ (λ none. ap (λ (o : Out). phase_beside (has_out o) base.phase) (kept_out none) ∙ shows.phase ∙ sym (kept_phase none))
          (λ y some. ap (λ (o : Out). phase_beside (has_out o) base.phase) (lost_out y some) ∙ sym (twice (has_out m.out) base.phase) ∙ ap (phase_beside true) shows.phase ∙ sym (lost_phase y some));
      fill = split _ (λ none. ap (λ (o : Out). if has_out o then 0 else base.fill) (kept_out none) ∙ shows.fill ∙ sym (kept_fill none))
          (λ y some. ap (λ (o : Out). if has_out o then 0 else base.fill) (lost_out y some) ∙ sym (lost_fill y some));
      spins = shows.spins ∙ sym same_spins;
    }

  -- and are powered by it
  pub still_powered : (p : ℕ → Power) → ArePoweredByGear p m → ((d : ℕ) → is_present (power d) ≡ true → power d ≡ p d) → ArePoweredByGear power new
  still_powered p powered keeps = record {
    by_gear = λ d low not.
        let low_was = subst (λ (z : Setup). d < z.geometry.disks) marked_setup low in
        keeps d (there d (is_present (power d)) refl low_was not) ∙ powered.by_gear d low_was (λ named. not (still_named d named)) ∙ sym (marked_gear d);
    fresh = λ d u is. keeps d (marks.fresh d u is) ∙ split _ (λ none. powered.fresh d u (sym (kept_out none) ∙ is)) (λ y some. absurd (gone_not_fresh (sym (lost_out y some) ∙ is)));
  }
    where
      there : (d : ℕ) (b : Bool) → is_present (power d) ≡ b → d < m.setup.geometry.disks → named_out new.out ≢ Some d → is_present (power d) ≡ true
      there d true is low not = is
      there d false is low not = absurd (not (marks.named d low is))

-- a meta shows itself where each absent disk is named out, and one that is being rebuilt is there
pub own_shown : (p : ℕ → Power) (base m after : Meta) → ShowsMeta p base m → ((d : ℕ) → d < m.setup.geometry.disks → is_present (p d) ≡ false → named_out m.out ≡ Some d) → ((d rebuilt : ℕ) → m.out ≡ Fresh d rebuilt → is_present (p d) ≡ true)
    → after ≡ record m { epoch = after.epoch } → ShowsMeta p after m
own_shown p base m after shows named fresh is =
    subst (λ (z : Meta). ShowsMeta p z m) (sym is) (record {
      gear = refl;
      out = out_named p m m.out refl named fresh;
      phase = ap (phase_beside (has_out m.out)) (sym shows.phase) ∙ again (has_out m.out) base.phase ∙ shows.phase;
      fill = ap (λ (f : ℕ). if has_out m.out then 0 else f) (sym shows.fill) ∙ if_again (has_out m.out) base.fill ∙ shows.fill;
      spins = refl;
    })
