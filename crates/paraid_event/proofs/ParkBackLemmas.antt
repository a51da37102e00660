-- A disk that has come back is parked, or is lost in that.
use Rattle.paraid_event.proofs.ServingLemmas.{spins_once}
use Rattle.std.proofs.Common.{◌≡◌, ◌≢◌, ℕ, ◌<◌, ◌≤◌, ◌⊎◌, Bool, true, false, List, [], ◌∷◌, Option, Some, None, refl, sym, ap, ◌∙◌, inl, inr, subst, arith, if◌then◌else◌}
use Rattle.std.specs.Prelude.{◌||◌, nat_lt, slice_index}
use Rattle.std.proofs.lemmas.Bool.{cases_eq, false≢true}
use Rattle.std.proofs.lemmas.Bool.Decides.{nat_tests}
use Rattle.paraid_base.specs.declared.state.Out.TheVariants.{No, Gone, Fresh}
use Rattle.paraid_base.specs.History.{History}
use Rattle.paraid_base.specs.States.{gone_out, named_out, rising_to}
use Rattle.paraid_rack.specs.declared.call.Call.{Call}
use Rattle.paraid_rack.specs.declared.call.Call.TheVariants.{Park, SpinUp}
use Rattle.paraid_rack.specs.declared.call.Power.TheVariants.{Parked, Spinning}
use Rattle.paraid_rack.specs.Disks.{Disks, IsPresent, is_present, power_after, step}
use Rattle.paraid_rack.specs.Lawful.{IsLawful}
use Rattle.paraid_rack.specs.Told.{Through}
use Rattle.paraid_rack.specs.Trail.{run}
use Rattle.paraid_rack.proofs.AtomsLemmas.{with_at_other, with_at_same}
use Rattle.paraid_record.specs.declared.meta.Meta.{Meta}
use Rattle.paraid_record.specs.declared.meta.Setup.{Setup}
use Rattle.paraid_image.specs.Power.{power_by_gear}
use Rattle.paraid_image.specs.Mark.{meta_with_lost}
use Rattle.paraid_core.specs.CoreInvariant.{IsHeldWithOneMissing}
use Rattle.paraid_session.specs.Watch.{IsServing, Watch, watch_all}
use Rattle.paraid_event.proofs.ApartLemmas.{gone_not_fresh, no_one, none_not_fresh}
use Rattle.paraid_event.specs.Marks.{ArePoweredByGear, IsMarkedBy, ShowsMeta}
use Rattle.paraid_event.specs.Powering.{AreDisksPowered, EndsPowered}
use Rattle.paraid_event.specs.Service.{Service}
use Rattle.paraid_event.specs.Stands.{IsMidway, ServiceStandsFor}
use Rattle.paraid_event.specs.Steps.{AreStepCalls, IsOnly}
use Rattle.paraid_event.proofs.EndLemmas.{only_serving}
use Rattle.paraid_event.proofs.MarksLemmas.{marked_gear, marked_setup}
use Rattle.paraid_event.proofs.PowerLemmas.{Raises, power_attaches, power_each, power_only, power_powered, power_shown, power_stands}
use Rattle.paraid_event.proofs.RejoinLemmas.{IsBack}

not_below : (a b : ℕ) → b ≤ a → nat_lt a b ≡ false
not_below a b l = grind (arith, nat_tests)

is_below : (a b : ℕ) → a < b → nat_lt a b ≡ true
is_below a b l = grind (arith, nat_tests)

or_second : (a : Bool) → (a || true) ≡ true
or_second true = refl
or_second false = refl

-- where the gear does not need a disk it is parked, and where it does it spins
pub parked_by_gear : (m : Meta) (d : ℕ) → m.gear ≤ d → rising_to m.phase ≤ d → power_by_gear m.gear m.phase d ≡ Parked
parked_by_gear m d past_gear past_rise = rw (not_below d m.gear past_gear, not_below d (rising_to m.phase) past_rise) refl

pub spinning_by_gear : (m : Meta) (d : ℕ) → (d < m.gear) ⊎ (d < rising_to m.phase) → power_by_gear m.gear m.phase d ≡ Spinning
spinning_by_gear m d (inl under) = rw (is_below d m.gear under) refl
spinning_by_gear m d (inr under) = ap (λ (t : Bool). if t then Spinning else Parked) (ap (λ (t : Bool). nat_lt d m.gear || t) (is_below d (rising_to m.phase) under) ∙ or_second (nat_lt d m.gear))

-- the disk that was lost, if the park failed
abbrev pub lost_by : ℕ → Bool → Option ℕ
lost_by d true = None
lost_by d false = Some d

-- Where an event ends in which disk `d` alone was down: the array stands, and the disks show the meta and are powered by it.
pub record IsEnded (k k_then : Service) (h : History) (lo d : ℕ) (base : Meta) (w : Watch) : Type 0 where
  pub slots : k_then.slots ≡ k.slots
  pub setup : k_then.meta.setup ≡ k.meta.setup
  pub midway : IsMidway k_then h lo base w
  pub only : IsOnly (Some d) w.down
  pub shown : ShowsMeta w.disks.power base k_then.meta
  pub powered : ArePoweredByGear w.disks.power k_then.meta

module _ (k : Service) (h : History) (lo d : ℕ) (base : Meta) (w : Watch) (at : IsBack k h lo d base w) where
  abbrev n : ℕ
  n = k.meta.setup.geometry.disks

  module _ (none_out : k.meta.out ≡ No) where
    none_named : (e : ℕ) → named_out k.meta.out ≡ Some e → ⊥
    none_named e is = absurd (no_one (sym (ap named_out none_out) ∙ is))

    there : (e : ℕ) → e < n → IsPresent w.disks e
    there e low = by (is_present (w.disks.power e)) refl
      where
        by : (t : Bool) → is_present (w.disks.power e) ≡ t → IsPresent w.disks e
        by true here = here
        by false gone = absurd (none_named e (at.midway.named e low gone))

    none_awaited : (e : ℕ) → w.awaited ≡ Some e → ⊥
    none_awaited e is = absurd (no_one (sym (ap gone_out none_out) ∙ at.midway.stands.awaited e is))

    -- where the gear needs the disk the event ends so
    pub ended_spinning : (d < k.meta.gear) ⊎ (d < rising_to k.meta.phase) → IsEnded k k h lo d base w
    ended_spinning under = record {
      slots = refl;
      setup = refl;
      midway = at.midway;
      only = at.only;
      shown = at.shown;
      powered = record {
        by_gear = λ e low not. elim (cases_eq e d) [
          | inl is_d ↦ subst (λ (x : ℕ). w.disks.power x ≡ power_by_gear k.meta.gear k.meta.phase x) (sym is_d) (at.spins (there d at.low) ∙ sym (spinning_by_gear k.meta d under))
          | inr apart ↦ at.powers e low apart
        ];
        fresh = λ e u is. absurd (none_not_fresh (sym none_out ∙ is));
      };
    }

    module _ (past_gear : k.meta.gear ≤ d) (past_rise : rising_to k.meta.phase ≤ d) (done : Bool) where
      abbrev c : Call
      c = Park d done

      abbrev cs : List Call
      cs = c ∷ []

      module _ (lawful : IsLawful w.disks c) (held : Through (IsHeldWithOneMissing k.slots n k.named h lo) w.disks cs) where
        part : AreDisksPowered k h lo w.disks cs
        part = record {
          out = k.named;
          is_out = λ e is. inl is;
          held = held;
          calls = (lawful, (at.low, past_gear, past_rise, (λ is. none_named d is)), tt);
          serving = spins_once (named_out k.meta.out) c;
        }

        has : (e : ℕ) → Raises e cs → base.gear ≤ e → e < rising_to base.phase → 1 ≤ slice_index base.spins e
        has e (inl made) from to = absurd (let z : Park d done ≡ SpinUp e made.0 = made.1 in cc)
        has e (inr more) from to = absurd more

        pub park_calls : AreStepCalls k h lo 0 base w cs
        park_calls = record {
          moments = λ b asked setup ticks room. power_each k h lo base w at.midway at.shown none_awaited cs part has b setup
              (let t = at.midway.stands.ticks in omega (arith, ticks, t)) (omega (arith, room)) ((λ e ok made. let z : Park d done ≡ SpinUp e ok = made in cc), tt) asked;
          attaches = power_attaches k.meta w.disks cs part.calls;
        }

        module _ (k_then : Service) (slots : k_then.slots ≡ k.slots) (meta_is : k_then.meta ≡ meta_with_lost (lost_by d done) k.meta) (keeps : ServiceStandsFor k_then h lo (run w.disks cs)) where
          abbrev s : Disks
          s = run w.disks cs

          power_same : (e : ℕ) → e ≢ d → s.power e ≡ w.disks.power e
          unfolding step
          power_same e apart = with_at_other w.disks.power d (power_after done Parked) e apart

          power_here : s.power d ≡ power_after done Parked
          unfolding step
          power_here = with_at_same w.disks.power d (power_after done Parked) d refl

          lost_some : (t : Bool) (x : ℕ) → lost_by d t ≡ Some x → (x ≡ d) × (is_present (power_after t Parked) ≡ false)
          lost_some true x is = absurd (no_one is)
          lost_some false x is = ((let z : Some d ≡ Some x = is in let same : d ≡ x = cc in sym same), refl)

          present_by : (t : Bool) → is_present (power_after t Parked) ≡ false → named_out (meta_with_lost (lost_by d t) k.meta).out ≡ Some d
          present_by true off = absurd (false≢true (sym off))
          present_by false off = refl

          marks : IsMarkedBy s.power k.meta k_then.meta
          marks = record {
            lost = lost_by d done;
            is = meta_is ∙ ap (λ (z : Meta). record (meta_with_lost (lost_by d done) k.meta) { epoch = z.epoch; writes = z.writes }) (sym meta_is);
            disk = λ x is. subst (λ (y : ℕ). y < n) (sym (lost_some done x is).0) at.low;
            alone = λ x y is named. absurd (none_named y named);
            absent = λ x is. let l = lost_some done x is in subst (λ (y : ℕ). is_present (s.power y) ≡ false) (sym l.0) (ap is_present power_here ∙ l.1);
            named = λ e low off. elim (cases_eq e d) [
              | inl is_d ↦
                  let gone : is_present (power_after done Parked) ≡ false = ap is_present (sym power_here) ∙ subst (λ (x : ℕ). is_present (s.power x) ≡ false) is_d off in
                  ap (λ (m : Meta). named_out m.out) meta_is ∙ present_by done gone ∙ ap (λ (x : ℕ). Some x) (sym is_d)
              | inr apart ↦ absurd (false≢true (sym off ∙ ap is_present (power_same e apart) ∙ there e low))
            ];
            fresh = λ e u is. absurd (not_fresh done e u (ap (λ (m : Meta). m.out) (sym meta_is) ∙ is));
          }
            where
              not_fresh : (t : Bool) (e u : ℕ) → (meta_with_lost (lost_by d t) k.meta).out ≡ Fresh e u → ⊥
              not_fresh true e u is = absurd (none_not_fresh (sym none_out ∙ is))
              not_fresh false e u is = absurd (gone_not_fresh is)

          gear_now : (e : ℕ) → power_by_gear k_then.meta.gear k_then.meta.phase e ≡ power_by_gear k.meta.gear k.meta.phase e
          gear_now e = marked_gear s.power k.meta k_then.meta marks e

          below : (e : ℕ) → e < k_then.meta.setup.geometry.disks → e < n
          below e low = subst (λ (z : Setup). e < z.geometry.disks) (marked_setup s.power k.meta k_then.meta marks) low

          power_of : (t : Bool) → (named_out (meta_with_lost (lost_by d t) k.meta).out ≡ Some d → ⊥) → power_after t Parked ≡ Parked
          power_of true not = refl
          power_of false not = absurd (not refl)

          ends : EndsPowered k k_then h lo w.disks cs
          ends = record {
            keeps = keeps;
            marks = marks;
            powered = record {
              by_gear = λ e low not. elim (cases_eq e d) [
                | inl is_d ↦ subst (λ (x : ℕ). s.power x ≡ power_by_gear k_then.meta.gear k_then.meta.phase x) (sym is_d)
                    (power_here ∙ power_of done (λ is. not (ap (λ (m : Meta). named_out m.out) meta_is ∙ is ∙ ap (λ (x : ℕ). Some x) (sym is_d))) ∙ sym (parked_by_gear k.meta d past_gear past_rise) ∙ sym (gear_now d))
                | inr apart ↦ power_same e apart ∙ at.powers e (below e low) apart ∙ sym (gear_now e)
              ];
              fresh = λ e u is. absurd (never done e u (ap (λ (m : Meta). m.out) (sym meta_is) ∙ is));
            };
          }
            where
              never : (t : Bool) (e u : ℕ) → (meta_with_lost (lost_by d t) k.meta).out ≡ Fresh e u → ⊥
              never true e u is = absurd (none_not_fresh (sym none_out ∙ is))
              never false e u is = absurd (gone_not_fresh is)

          one_out : (t : Bool) (e : ℕ) → named_out (meta_with_lost (lost_by d t) k.meta).out ≡ Some e → Some d ≡ Some e
          one_out true e is = absurd (none_named e is)
          one_out false e is = is

          only_then : IsOnly (Some d) (watch_all cs w).down
          only_then = power_only k h lo base w at.midway at.shown none_awaited cs part has k_then ends (Some d) at.only (λ e is. one_out done e (ap (λ (m : Meta). named_out m.out) (sym meta_is) ∙ is))

          serving : IsServing (watch_all cs w).down
          serving = only_serving (Some d) (watch_all cs w).down only_then

          pub ended_parked : IsEnded k k_then h lo d base (watch_all cs w)
          ended_parked = record {
            slots = slots;
            setup = marked_setup s.power k.meta k_then.meta marks;
            midway = power_stands k h lo base w at.midway at.shown none_awaited cs part has k_then ends serving;
            only = only_then;
            shown = power_shown k h lo base w at.midway at.shown none_awaited cs part has k_then ends;
            powered = power_powered k h lo base w at.midway at.shown none_awaited cs part has k_then ends;
          }

  -- a disk that was lost again
  pub ended_gone : k.meta.out ≡ Gone d → IsEnded k k h lo d base w
  ended_gone gone = record {
    slots = refl;
    setup = refl;
    midway = at.midway;
    only = at.only;
    shown = at.shown;
    powered = record {
      by_gear = λ e low not. at.powers e low (λ is_d. not (ap named_out gone ∙ ap (λ (x : ℕ). Some x) (sym is_d)));
      fresh = λ e u is. absurd (gone_not_fresh (sym gone ∙ is));
    };
  }
