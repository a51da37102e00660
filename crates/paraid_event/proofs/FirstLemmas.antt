-- An array stands at the first point of its session.
use Rattle.std.proofs.Common.{◌≡◌, ℕ, ◌<◌, Bool, true, false, Option, Some, None, refl, sym, ap, ◌∙◌, subst, arith, if◌then◌else◌}
use Rattle.std.proofs.lemmas.Bool.{false≢true}
use Rattle.paraid_base.specs.declared.state.Out.{Out}
use Rattle.paraid_base.specs.declared.state.Out.TheVariants.{No, Gone, Fresh}
use Rattle.paraid_base.specs.declared.state.Phase.{Phase}
use Rattle.paraid_base.specs.declared.state.Phase.TheVariants.{Steady, Down, Up}
use Rattle.paraid_base.specs.History.{History}
use Rattle.paraid_base.specs.States.{gone_out, has_out, is_down, named_out, phase_beside, rising_to}
use Rattle.paraid_rack.specs.declared.call.Power.{Power}
use Rattle.paraid_rack.specs.Disks.{Disks, is_present}
use Rattle.paraid_rack.specs.Trail.{Trail, now}
use Rattle.paraid_record.specs.declared.meta.Meta.{Meta}
use Rattle.paraid_record.specs.declared.meta.Setup.{Setup}
use Rattle.paraid_record.specs.Range.{IsInRange}
use Rattle.paraid_image.specs.Out.{first_absent}
use Rattle.paraid_image.specs.Power.{gone_of, initial_state, out_after, out_state, state_by}
use Rattle.paraid_image.specs.Looked.IsLooked.{whole}
use Rattle.paraid_image.specs.Spins.{made_spin_ups}
use Rattle.paraid_image.specs.Sides.{closed_over}
use Rattle.paraid_recover.specs.Mounted.{with_loss}
use Rattle.paraid_recover.specs.RecoveryMark.{to_mark}
use Rattle.paraid_session.specs.Turn.{Point}
use Rattle.paraid_session.specs.Watch.{IsAmongDown, down_from_out}
use Rattle.paraid_recover.specs.FirstPoint.{first_point}
use Rattle.paraid_recover.proofs.FirstLemmas.{loss_shown}
use Rattle.paraid_recover.proofs.RestLemmas.{rest_only}
use Rattle.paraid_event.proofs.ApartLemmas.{gone_not_fresh, no_one, none_not_fresh}
use Rattle.paraid_event.specs.First.{BeginsService}
use Rattle.paraid_event.specs.Marks.{ArePoweredByGear, ShowsMeta}
use Rattle.paraid_event.specs.Service.{IsStateOf, Service}
use Rattle.paraid_event.specs.Stands.{StandsAt}
use Rattle.paraid_event.proofs.EndLemmas.{self_image}

state_out : (s : Disks) (m : Meta) → (initial_state s (closed_over m)).out ≡ out_state s.power m
unfolding state_by
state_out s m = refl

down_of : (o : Option ℕ) (d : ℕ) → o ≡ Some d → IsAmongDown (down_from_out o) d
down_of None d is = absurd (no_one is)
down_of (Some e) d is = let z : Some e ≡ Some d = is in let same : e ≡ d = cc in sym same

rising_beside : (phase : Phase) → rising_to (phase_beside true phase) ≡ rising_to phase
rising_beside Steady = refl
rising_beside (Down to) = refl
rising_beside (Up to) = refl

loss_used : (m : Meta) (o : Option ℕ) (p : ℕ → Power) (d : ℕ) → made_spin_ups (with_loss m o) p d ≡ made_spin_ups m p d
loss_used m None p d = refl
loss_used m (Some e) p d = rw (rising_beside m.phase) refl

loss_setup : (m : Meta) (o : Option ℕ) → (with_loss m o).setup ≡ m.setup
loss_setup m None = refl
loss_setup m (Some d) = refl

loss_ticks : (m : Meta) (o : Option ℕ) → (with_loss m o).ticks ≡ m.ticks
loss_ticks m None = refl
loss_ticks m (Some d) = refl

loss_gear : (m : Meta) (o : Option ℕ) → (with_loss m o).gear ≡ m.gear
loss_gear m None = refl
loss_gear m (Some d) = refl

loss_spins : (m : Meta) (o : Option ℕ) → (with_loss m o).spins ≡ m.spins
loss_spins m None = refl
loss_spins m (Some d) = refl

-- in range there is no shift down with a disk out
phase_settled : (phase : Phase) (out : Bool) → (is_down phase ≡ true → out ≡ false) → phase_beside out phase ≡ phase
phase_settled Steady out fits = refl
phase_settled (Down to) true fits = absurd (false≢true (sym (fits refl)))
phase_settled (Down to) false fits = refl
phase_settled (Up to) out fits = refl

fill_settled : (out : Bool) (fill : ℕ) → (out ≡ true → fill ≡ 0) → (if out then 0 else fill) ≡ fill
fill_settled true fill still = sym (still refl)
fill_settled false fill still = refl

loss_phase : (m : Meta) (o : Option ℕ) → IsInRange m → phase_beside (has_out (with_loss m o).out) m.phase ≡ (with_loss m o).phase
loss_phase m None range = phase_settled m.phase (has_out m.out) range.shift.down
loss_phase m (Some d) range = refl

loss_fill : (m : Meta) (o : Option ℕ) → IsInRange m → (if has_out (with_loss m o).out then 0 else m.fill) ≡ (with_loss m o).fill
loss_fill m None range = fill_settled (has_out m.out) m.fill range.shift.still
loss_fill m (Some d) range = refl

no_fresh : (slot : Option ℕ) (e rebuilt : ℕ) → gone_of slot ≡ Fresh e rebuilt → ⊥
no_fresh None e rebuilt is = absurd (none_not_fresh is)
no_fresh (Some d) e rebuilt is = absurd (gone_not_fresh is)

fresh_if : (d u e rebuilt : ℕ) (there : Bool) → (if there then Fresh d u else Gone d) ≡ Fresh e rebuilt → (there ≡ true) × (d ≡ e)
fresh_if d u e rebuilt true is = (refl, (let z : Fresh d u ≡ Fresh e rebuilt = is in cc))
fresh_if d u e rebuilt false is = absurd (gone_not_fresh is)

fresh_out : (o : Out) (power : ℕ → Power) (slot : Option ℕ) (e rebuilt : ℕ) → out_after o power slot ≡ Fresh e rebuilt → is_present (power e) ≡ true
fresh_out No power slot e rebuilt is = absurd (no_fresh slot e rebuilt is)
fresh_out (Gone d) power slot e rebuilt is = absurd (gone_not_fresh is)
fresh_out (Fresh d u) power slot e rebuilt is = let it = fresh_if d u e rebuilt (is_present (power d)) is in subst (λ (x : ℕ). is_present (power x) ≡ true) it.1 it.0

module _ (told : Option Trail) (s : Disks) (standing : Meta) (h : History) (spun : ℕ → ℕ) (k : Service) (begins : BeginsService s standing h spun k) (tells : (t : Trail) → told ≡ Some t → now t ≡ s) where
  abbrev mark : Option ℕ
  mark = to_mark s.power standing

  abbrev p : Point
  p = first_point s standing h spun

  range : IsInRange standing
  range = begins.rest.log.stands.says.log.meta.in_range

  setup_is : k.meta.setup ≡ standing.setup
  setup_is = ap (λ (m : Meta). m.setup) begins.meta ∙ loss_setup standing mark

  out_is : k.meta.out ≡ out_state s.power standing
  out_is = ap (λ (m : Meta). m.out) begins.meta ∙ loss_shown s.power standing

  state_is : p.state.out ≡ k.meta.out
  state_is = state_out s standing ∙ sym out_is

  named_in : (d : ℕ) → named_out k.meta.out ≡ Some d → IsAmongDown (down_from_out (named_out p.state.out)) d
  named_in d named = down_of (named_out p.state.out) d (ap named_out state_is ∙ named)

  below : (d : ℕ) → d < k.meta.setup.geometry.disks → d < standing.setup.geometry.disks
  below d low = subst (λ (z : Setup). d < z.geometry.disks) setup_is low

  below_lost : (d : ℕ) → d < k.meta.setup.geometry.disks → d < (with_loss standing mark).setup.geometry.disks
  below_lost d low = subst (λ (m : Meta). d < m.setup.geometry.disks) begins.meta low

  absent_named : (d : ℕ) → d < k.meta.setup.geometry.disks → is_present (s.power d) ≡ false → named_out k.meta.out ≡ Some d
  absent_named d low gone = ap (λ (m : Meta). named_out m.out) begins.meta ∙ begins.servable.absent d (below_lost d low) (ap is_present (sym (begins.agrees.power d)) ∙ gone)

  shown : ShowsMeta s.power standing k.meta
  shown = subst (ShowsMeta s.power standing) (sym begins.meta) (record {
    gear = sym (loss_gear standing mark);
    out = sym (loss_shown s.power standing);
    phase = loss_phase standing mark range;
    fill = loss_fill standing mark range;
    spins = sym (loss_spins standing mark);
  })

  powered : ArePoweredByGear s.power k.meta
  powered = subst (ArePoweredByGear s.power) (sym begins.meta) (record {
    by_gear = λ d low not. begins.agrees.power d ∙ begins.servable.powers d low not;
    fresh = λ d u is.
        let there = fresh_out standing.out s.power (first_absent s.power standing.setup.geometry.disks) d u (sym (loss_shown s.power standing) ∙ is) in
        begins.agrees.power d ∙ begins.servable.fresh_spins d u is (ap is_present (sym (begins.agrees.power d)) ∙ there);
  })

  state_of : IsStateOf k p.state
  unfolding state_by
  state_of = record {
    gear = shown.gear;
    phase = ap (λ (o : Out). phase_beside (has_out o) standing.phase) shown.out ∙ shown.phase;
    fill = ap (λ (o : Out). if has_out o then 0 else standing.fill) shown.out ∙ shown.fill;
    out = shown.out;
    spins = shown.spins;
    ticks = sym (ap (λ (m : Meta). m.ticks) begins.meta ∙ loss_ticks standing mark);
    dirty = λ r d low. begins.dirty r d (subst (λ (z : Setup). r < z.geometry.rows) setup_is low);
    samples = sym begins.samples;
    served = sym begins.served;
  }

  -- The array stands at the first point.
  pub first_stands : StandsAt told k standing.setup p
  first_stands = record {
    disks = tells;
    stands = record {
      keeps = begins.keeps;
      is_base =
          let i = begins.keeps.copies.copying (record s { loose = λ d q. false }) (self_image s) in
          rest_only s standing begins.rest i.disk (record s { loose = λ d q. false }) (closed_over begins.keeps.base) (whole (self_image s)) i.log.stands;
      absent_down = λ d low gone. named_in d (absent_named d low gone);
      named_down = named_in;
      stays = λ d named. ap (λ (m : Meta). named_out m.out) begins.meta ∙ begins.servable.stays d named;
      recorded = λ d low here not. begins.recorded d here;
      recorded_next = λ d low here not.
          let was = begins.recorded d here in
          let used = ap (λ (m : Meta). made_spin_ups m s.power d) begins.meta ∙ loss_used standing mark s.power d in
          omega (arith, was, used);
      awaited = λ d waits. sym (ap gone_out state_is) ∙ waits;
      ticks = let e = ap (λ (m : Meta). m.ticks) begins.meta ∙ loss_ticks standing mark in omega (arith, e);
    };
    copies_synced = λ d low. begins.copies_synced d (below d low);
    same_setup = setup_is;
    shown = shown;
    powered = powered;
    state = state_of;
    energy = sym begins.energy;
    fits = let e = begins.energy in omega (arith, e);
    going = refl;
  }
