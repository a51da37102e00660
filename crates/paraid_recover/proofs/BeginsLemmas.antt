-- The state with which a session begins, where no call of the mount failed.
use Rattle.std.proofs.Common.{◌≡◌, ℕ, ◌<◌, Bool, true, false, List, [], ◌∷◌, Option, Some, None, refl, sym, ap, ◌∙◌, inl, inr, subst, arith, if◌then◌else◌, zero, suc}
use Rattle.std.specs.Prelude.{◌==◌}
use Rattle.std.proofs.lemmas.Bool.{cases_eq, false≢true}
use Rattle.paraid_base.specs.declared.state.Out.{Out}
use Rattle.paraid_base.specs.declared.state.Out.TheVariants.{No, Gone, Fresh}
use Rattle.paraid_base.specs.declared.state.Phase.{Phase}
use Rattle.paraid_base.specs.declared.state.Phase.TheVariants.{Steady, Down as PhaseDown, Up}
use Rattle.paraid_rack.specs.declared.call.Call.{Call}
use Rattle.paraid_rack.specs.declared.call.Call.TheVariants.{Read, Write, Sync, Park, SpinUp, Attach}
use Rattle.paraid_rack.specs.declared.call.Power.{Power}
use Rattle.paraid_rack.specs.declared.call.Power.TheVariants.{Absent, Parked, Spinning}
use Rattle.paraid_rack.specs.Disks.{Disks, is_present, power_after, step, with_at, lose}
use Rattle.paraid_rack.specs.Lawful.{IsLawful}
use Rattle.paraid_rack.specs.Trail.{run}
use Rattle.paraid_rack.proofs.AtomsLemmas.{with_at_other, with_at_same}
use Rattle.paraid_record.specs.declared.meta.Meta.{Meta}
use Rattle.paraid_record.specs.Range.{has_out}
use Rattle.paraid_image.specs.Calls.{is_attach}
use Rattle.paraid_image.specs.Out.{first_absent}
use Rattle.paraid_image.specs.Power.{gone_of, initial_state, out_after, out_state, phase_beside, state_by}
use Rattle.paraid_image.specs.Shown.{IsShown}
use Rattle.paraid_image.specs.Sides.{LogState, closed_over}
use Rattle.paraid_image.specs.Standing.{Stands}
use Rattle.paraid_machine.specs.Moves.{after_loss}
use Rattle.paraid_recover.specs.RecoveryMark.{renewed_by, to_mark, to_mark_by, with_mark}
use Rattle.paraid_session.specs.Mount.{BeginsSession}
use Rattle.paraid_session.specs.Mount.BeginsSession.{losing, quietly, without}
use Rattle.paraid_session.specs.Watch.{fails_on, first_lost}
use Rattle.paraid_session.proofs.LayerLemmas.{absent_failed, fails_first}
use Rattle.paraid_recover.specs.MountCalls.{IsMountCall}
use Rattle.paraid_txn.specs.Uses.{EachCall}

-- the least absent disk is known by which disks are there
pub first_absent_by : (p q : ℕ → Power) (n : ℕ) → ((e : ℕ) → e < n → is_present (q e) ≡ is_present (p e)) → first_absent q n ≡ first_absent p n
unfolding first_absent
first_absent_by p q zero same = refl
first_absent_by p q (suc n) same =
    let before = first_absent_by p q n (λ e l. same e (omega arith)) in
    let here = same n (omega arith) in
    rw (before, here) refl

out_by : (o : Out) (p q : ℕ → Power) (slot : Option ℕ) → ((d rebuilt : ℕ) → o ≡ Fresh d rebuilt → is_present (q d) ≡ is_present (p d)) → out_after o q slot ≡ out_after o p slot
out_by No p q slot same = refl
out_by (Gone d) p q slot same = refl
out_by (Fresh d rebuilt) p q slot same = ap (λ (b : Bool). if b then Fresh d rebuilt else Gone d) (same d rebuilt refl)

-- so is the disk that is out in the state
out_state_by : (m : Meta) (p q : ℕ → Power) → ((e : ℕ) → is_present (q e) ≡ is_present (p e)) → out_state q m ≡ out_state p m
out_state_by m p q same =
    ap (out_after m.out q) (first_absent_by p q m.setup.geometry.disks (λ e l. same e)) ∙ out_by m.out p q (first_absent p m.setup.geometry.disks) (λ d u is. same d)

twice : (phase : Phase) → phase_beside true (phase_beside true phase) ≡ phase_beside true phase
twice Steady = refl
twice (PhaseDown to) = refl
twice (Up to) = refl

-- the disk that is marked is out in the state
mark_is_out : (power : ℕ → Power) (m : Meta) (d : ℕ) → to_mark power m ≡ Some d → out_state power m ≡ Gone d
mark_is_out power m d is = split m.out is
  where
    fresh : (e u : ℕ) (there : Bool) → (if there then None else Some e) ≡ Some d → (if there then Fresh e u else Gone e) ≡ Gone d
    fresh e u true at = absurd (let z : None ≡ Some d = at in cc)
    fresh e u false at = let z : Some e ≡ Some d = at in cc

    split : (o : Out) → to_mark_by o power m.setup.geometry.disks ≡ Some d → out_after o power (first_absent power m.setup.geometry.disks) ≡ Gone d
    split No at = ap gone_of at
    split (Gone e) at = absurd (let z : None ≡ Some d = at in cc)
    split (Fresh e u) at = fresh e u (is_present (power e)) at

shown_renewed : (p q : ℕ → Power) (m : Meta) (f g : ℕ → ℕ → Bool) → ((e : ℕ) → is_present (q e) ≡ is_present (p e)) → (b : Bool) → IsShown (state_by q (renewed_by b m) f) (state_by p m g)
unfolding state_by
shown_renewed p q m f g same true =
    let out = out_state_by m p q same in
    record {
      gear = refl;
      phase = ap (λ (x : Out). phase_beside (has_out x) m.phase) (sym out);
      fill = ap (λ (x : Out). if has_out x then 0 else m.fill) (sym out);
      out = sym out;
      spins = refl;
    }
shown_renewed p q m f g same false =
    let out = out_state_by m p q same in
    record {
      gear = refl;
      phase = ap (λ (x : Out). phase_beside (has_out x) m.phase) (sym out);
      fill = ap (λ (x : Out). if has_out x then 0 else m.fill) (sym out);
      out = sym out;
      spins = refl;
    }

shown_by : (p q : ℕ → Power) (m : Meta) (f g : ℕ → ℕ → Bool) → ((e : ℕ) → is_present (q e) ≡ is_present (p e)) → (o : Option ℕ) → to_mark p m ≡ o → IsShown (state_by q (with_mark m o) f) (state_by p m g)
unfolding state_by
shown_by p q m f g same None is = shown_renewed p q m f g same (m.version == 1)
shown_by p q m f g same (Some d) is =
    let out = mark_is_out p m d is in
    record {
      gear = refl;
      phase = ap (λ (x : Out). phase_beside (has_out x) m.phase) out ∙ sym (twice m.phase);
      fill = ap (λ (x : Out). if has_out x then 0 else m.fill) out;
      out = out;
      spins = refl;
    }

ticks_renewed : (q p : ℕ → Power) (m : Meta) (f g : ℕ → ℕ → Bool) (b : Bool) → (state_by q (renewed_by b m) f).ticks ≡ (state_by p m g).ticks
unfolding state_by
ticks_renewed q p m f g true = refl
ticks_renewed q p m f g false = refl

ticks_by : (q p : ℕ → Power) (m : Meta) (f g : ℕ → ℕ → Bool) (o : Option ℕ) → (state_by q (with_mark m o) f).ticks ≡ (state_by p m g).ticks
unfolding state_by
ticks_by q p m f g None = ticks_renewed q p m f g (m.version == 1)
ticks_by q p m f g (Some d) = refl

renewed_writes : (m : Meta) (b : Bool) → (renewed_by b m).writes ≡ m.writes
renewed_writes m true = refl
renewed_writes m false = refl

writes_by : (m : Meta) (o : Option ℕ) → (with_mark m o).writes ≡ m.writes
writes_by m None = renewed_writes m (m.version == 1)
writes_by m (Some d) = refl

no_samples : (s : Disks) (said : LogState) → (initial_state s said).samples ≡ []
unfolding state_by
no_samples s said = refl

none_served : (s : Disks) (said : LogState) → (initial_state s said).served ≡ 0
unfolding state_by
none_served s said = refl

absent_at : (s : Disks) (d e : ℕ) (power after : Power) → s.power e ≡ power → is_present power ≡ true → is_present (s.power d) ≡ false → is_present (with_at s.power e after d) ≡ false
absent_at s d e power after is here off = elim (cases_eq d e) [
  | inl same ↦ absurd (false≢true (sym off ∙ ap is_present (ap s.power same ∙ is) ∙ here))
  | inr apart ↦ ap is_present (with_at_other s.power e after d apart) ∙ off
]

-- an absent disk gets no call but an attach
absent_step : (s : Disks) (d : ℕ) (c : Call) → IsLawful s c → is_attach c ≡ false → is_present (s.power d) ≡ false → is_present ((step c s).power d) ≡ false
unfolding step
absent_step s d (Read e p done) lawful not off = absent_at s d e Spinning (power_after done (s.power e)) lawful refl off
absent_step s d (Write e p b done) lawful not off = absent_at s d e Spinning (power_after done (s.power e)) lawful refl off
absent_step s d (Sync e done) lawful not off = absent_at s d e Spinning (power_after done (s.power e)) lawful refl off
absent_step s d (Park e done) lawful not off = absent_at s d e Spinning (power_after done Parked) lawful.0 refl off
absent_step s d (SpinUp e done) lawful not off = absent_at s d e Parked (power_after done Spinning) lawful refl off
absent_step s d (Attach e size done) lawful not off = absurd (false≢true (sym not))

pub stays_absent : (s : Disks) (cs : List Call) (n : ℕ) (skip : Option ℕ) (d : ℕ) → EachCall (IsMountCall n skip) s cs → is_present (s.power d) ≡ false → is_present ((run s cs).power d) ≡ false
stays_absent s [] n skip d each off = off
stays_absent s (c ∷ cs) n skip d each off = stays_absent (step c s) cs n skip d each.2 (absent_step s d c each.0 each.1.attaches off)

same_bool : (a b : Bool) → (a ≡ false → b ≡ false) → (b ≡ false → a ≡ false) → a ≡ b
same_bool true true p q = refl
same_bool true false p q = q refl
same_bool false true p q = sym (p refl)
same_bool false false p q = refl

-- where no call fails, each disk that was there is so, and no other one
pub presence_kept : (s : Disks) (cs : List Call) (n : ℕ) (skip : Option ℕ) (d : ℕ) → EachCall (IsMountCall n skip) s cs → first_lost cs ≡ None → is_present ((run s cs).power d) ≡ is_present (s.power d)
presence_kept s cs n skip d each none = same_bool (is_present ((run s cs).power d)) (is_present (s.power d))
    (λ off. elim (absent_failed s cs d off) [
      | inl before ↦ before
      | inr failed ↦ let first = fails_first cs d failed in absurd (let z : None ≡ Some first.0 = sym none ∙ first.1 in cc)
    ])
    (λ off. stays_absent s cs n skip d each off)

-- Where no call failed, the session begins with the state at the entry.
pub begins_quietly : (s : Disks) (said : LogState) (calls : List Call) (n : ℕ) (skip : Option ℕ) (standing : Meta) → EachCall (IsMountCall n skip) s calls → first_lost calls ≡ None
    → standing ≡ with_mark said.meta (to_mark s.power said.meta)
    → ((r d : ℕ) → r < said.meta.setup.geometry.rows → (initial_state (run s calls) (closed_over standing)).dirty r d ≡ (initial_state s said).dirty r d)
    → BeginsSession s said calls standing.writes (initial_state (run s calls) (closed_over standing))
begins_quietly s said calls n skip standing each none is dirty = quietly none
    (ap (λ (m : Meta). m.writes) is ∙ writes_by said.meta (to_mark s.power said.meta))
    (record {
      beginning = record {
        shows = subst (λ (m : Meta). IsShown (initial_state (run s calls) (closed_over m)) (initial_state s said)) (sym is)
            (shown_by s.power (run s calls).power said.meta _ _ (λ e. presence_kept s calls n skip e each none) (to_mark s.power said.meta) refl);
        ticks = subst (λ (m : Meta). (initial_state (run s calls) (closed_over m)).ticks ≡ (initial_state s said).ticks) (sym is)
            (ticks_by (run s calls).power s.power said.meta _ _ (to_mark s.power said.meta));
        samples = no_samples (run s calls) (closed_over standing);
        served = none_served (run s calls) (closed_over standing);
      };
      dirty = dirty;
    })

beside_twice : (b : Bool) (phase : Phase) → phase_beside true (phase_beside b phase) ≡ phase_beside true phase
beside_twice true phase = twice phase
beside_twice false Steady = refl
beside_twice false (PhaseDown to) = refl
beside_twice false (Up to) = refl

module _ (s t : Disks) (said : LogState) (d : ℕ) where
  -- what the meta has of what stood
  record IsSameBut (standing : Meta) : Type 0 where
    pub gear : standing.gear ≡ said.meta.gear
    pub phase : phase_beside true standing.phase ≡ phase_beside true said.meta.phase
    pub spins : standing.spins ≡ said.meta.spins

  same_renewed : (b : Bool) → IsSameBut (renewed_by b said.meta)
  same_renewed true = record { gear = refl; phase = refl; spins = refl }
  same_renewed false = record { gear = refl; phase = refl; spins = refl }

  same_marked : (mark : Option ℕ) → IsSameBut (with_mark said.meta mark)
  same_marked None = same_renewed (said.meta.version == 1)
  same_marked (Some e) = record { gear = refl; phase = twice said.meta.phase; spins = refl }

  lost_by : (standing : Meta) → IsSameBut standing → out_state t.power standing ≡ Gone d → (f : ℕ → ℕ → Bool) → IsShown (state_by t.power standing f) (after_loss (initial_state s said) d)
  unfolding state_by
  lost_by standing same out f = record {
    gear = sym same.gear;
    phase = beside_twice (has_out (out_state s.power said.meta)) said.meta.phase ∙ sym same.phase ∙ ap (λ (x : Out). phase_beside (has_out x) standing.phase) (sym out);
    fill = ap (λ (x : Out). if has_out x then 0 else standing.fill) (sym out);
    out = sym out;
    spins = sym same.spins;
  }

said_ticks : (s : Disks) (said : LogState) → (initial_state s said).ticks ≡ said.meta.ticks
unfolding state_by
said_ticks s said = refl

-- Where disk `d` failed first, the session begins with the state after its loss.
pub begins_losing : (s : Disks) (said : LogState) (calls : List Call) (d : ℕ) (standing : Meta) (mark : Option ℕ) → first_lost calls ≡ Some d → standing ≡ with_mark said.meta mark
    → out_state (run s calls).power standing ≡ Gone d
    → ((r e : ℕ) → r < said.meta.setup.geometry.rows → (initial_state (run s calls) (closed_over standing)).dirty r e ≡ (initial_state s said).dirty r e)
    → BeginsSession s said calls standing.writes (initial_state (run s calls) (closed_over standing))
begins_losing s said calls d standing mark first is out dirty =
    losing d first (ap (λ (m : Meta). m.writes) is ∙ writes_by said.meta mark) (record {
      beginning = record {
        shows = lost_by s (run s calls) said d standing (subst (IsSameBut s (run s calls) said d) (sym is) (same_marked s (run s calls) said d mark)) out _;
        ticks = subst (λ (m : Meta). (initial_state (run s calls) (closed_over m)).ticks ≡ (initial_state s said).ticks) (sym is) (ticks_by (run s calls).power s.power said.meta _ _ mark);
        samples = no_samples (run s calls) (closed_over standing);
        served = none_served (run s calls) (closed_over standing);
      };
      dirty = dirty;
    })

-- Where the log disk that stood failed first, the session begins with the state that is shown without it.
pub begins_without : (s : Disks) (said : LogState) (calls : List Call) (d y : ℕ) (other : LogState) (standing : Meta) → first_lost calls ≡ Some d → Stands (lose d s) y other
    → ((e : ℕ) → is_present ((run s calls).power e) ≡ is_present ((lose d s).power e)) → standing ≡ with_mark other.meta (to_mark (lose d s).power other.meta)
    → ((r e : ℕ) → r < said.meta.setup.geometry.rows → (initial_state (run s calls) (closed_over standing)).dirty r e ≡ (initial_state (lose d s) other).dirty r e)
    → BeginsSession s said calls standing.writes (initial_state (run s calls) (closed_over standing))
begins_without s said calls d y other standing first stands same is dirty =
    let left : Disks = lose d s in
    without d y other first stands (ap (λ (m : Meta). m.writes) is ∙ writes_by other.meta (to_mark left.power other.meta)) (record {
      beginning = record {
        shows = subst (λ (m : Meta). IsShown (initial_state (run s calls) (closed_over m)) (initial_state left other)) (sym is)
            (shown_by left.power (run s calls).power other.meta _ _ same (to_mark left.power other.meta) refl);
        ticks = subst (λ (m : Meta). (initial_state (run s calls) (closed_over m)).ticks ≡ (initial_state left other).ticks) (sym is)
            (ticks_by (run s calls).power left.power other.meta _ _ (to_mark left.power other.meta));
        samples = no_samples (run s calls) (closed_over standing);
        served = none_served (run s calls) (closed_over standing);
      };
      dirty = dirty;
    })

-- where just disk `d` failed, the disks that are there are those without it
pub presence_lost : (s : Disks) (cs : List Call) (n : ℕ) (skip : Option ℕ) (d : ℕ) → EachCall (IsMountCall n skip) s cs → ((e : ℕ) → fails_on e cs ≡ true → e ≡ d) → is_present ((run s cs).power d) ≡ false
    → (e : ℕ) → is_present ((run s cs).power e) ≡ is_present ((lose d s).power e)
presence_lost s cs n skip d each alone off e = elim (cases_eq e d) [
  | inl is ↦ ap (λ (k : ℕ). is_present ((run s cs).power k)) is ∙ off ∙ sym (ap is_present (with_at_same s.power d Absent e is))
  | inr apart ↦ same_bool (is_present ((run s cs).power e)) (is_present (s.power e))
      (λ gone. elim (absent_failed s cs e gone) [ inl before ↦ before | inr failed ↦ absurd (apart (alone e failed)) ])
      (λ gone. stays_absent s cs n skip e each gone) ∙ sym (ap is_present (with_at_other s.power d Absent e apart))
]
