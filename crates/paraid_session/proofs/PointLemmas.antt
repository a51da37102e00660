-- The points of a session at which an array is calm and all its disks spin.
use Rattle.std.proofs.Common.{◌≡◌, ℕ, ◌<◌, ◌≤◌, true, false, [], ◌++◌, length, take, Option, Some, None, refl, sym, ap, ◌∙◌, inr, subst, arith, if◌then◌else◌, min, max}
use Rattle.std.specs.Prelude.{nat_lt, slice_index}
use Rattle.std.proofs.lemmas.Bool.{false≢true}
use Rattle.std.proofs.lemmas.List.{take_all}
use Rattle.std.proofs.lemmas.Bool.Decides.{nat_tests}
use Rattle.paraid_base.specs.declared.state.Out.{Out}
use Rattle.paraid_base.specs.declared.state.Out.TheVariants.{No}
use Rattle.paraid_base.specs.declared.state.Phase.TheVariants.{Steady}
use Rattle.paraid_base.specs.History.{History}
use Rattle.paraid_rack.specs.declared.call.Power.{Power}
use Rattle.paraid_rack.specs.declared.call.Power.TheVariants.{Spinning}
use Rattle.paraid_rack.specs.Disks.{Disks, is_present, lose}
use Rattle.paraid_record.specs.declared.meta.Meta.{Meta}
use Rattle.paraid_record.specs.Range.{has_out}
use Rattle.paraid_image.specs.HeldAt.{IsHeld, MayLose}
use Rattle.paraid_image.specs.Out.{IsWeak, first_absent, named_out, or_else, out_disk}
use Rattle.paraid_image.specs.Out.IsWeak.{named, out}
use Rattle.paraid_image.specs.Power.{PowerState, gone_of, initial_state, out_after, out_state, phase_beside, power_of, state_by}
use Rattle.paraid_image.specs.Shown.{IsShown}
use Rattle.paraid_image.specs.Sides.{LogState, Says, closed_over}
use Rattle.paraid_image.specs.Spins.{made_spin_ups}
use Rattle.paraid_image.specs.Standing.{Stands, other_log}
use Rattle.paraid_image.proofs.HeldLemmas.{IsHeld-more}
use Rattle.paraid_image.proofs.OutLemmas.{first_absent_is}
use Rattle.paraid_image.proofs.NeutralLemmas.{says_forth}
use Rattle.paraid_image.proofs.CallLemmas.{lose_kept, says_not_lost}
use Rattle.paraid_session.specs.Mount.{IsBase, IsBegun, IsMounted, start_watch, mount_bounds}
use Rattle.paraid_session.specs.Mount.BeginsSession.{quietly}
use Rattle.paraid_session.specs.Mount.IsBase.{lesser}
use Rattle.paraid_session.specs.Turn.{IsMark, Point}
use Rattle.paraid_session.specs.Watch.{Bounds, HoldsWhileServing, Watch, nobody}
use Rattle.paraid_session.proofs.CalmLemmas.{IsCalm, calm_within, says_meta, used_is}

-- the state of an array that is calm with all its disks
abbrev pub calm_state : Disks → Meta → PowerState
calm_state t m = record {
  gear = m.gear;
  phase = Steady;
  dirty = (initial_state t (closed_over m)).dirty;
  fill = m.fill;
  out = No;
  spins = m.spins;
  ticks = m.ticks;
  samples = [];
  served = 0;
}

-- a point of a session at which nothing was used yet
abbrev pub point : Disks → Meta → History → ℕ → PowerState → Point
point t m h lo s = record {
  disks = t;
  history = h;
  low = lo;
  meta = m;
  state = s;
  energy = 0;
  spun = λ d. slice_index m.spins d;
  awaited = None;
  halt = None;
}

-- all disks spin, in the highest gear
pub record IsWhole (t : Disks) (m : Meta) : Type 0 where
  pub gear : m.gear ≡ m.setup.geometry.disks
  pub spinning : (d : ℕ) → d < m.setup.geometry.disks → t.power d ≡ Spinning

-- the state shows the meta, but for the dirty cells
pub record IsCalmState (m : Meta) (s : PowerState) : Type 0 where
  pub gear : s.gear ≡ m.gear
  pub phase : s.phase ≡ Steady
  pub fill : s.fill ≡ m.fill
  pub out : s.out ≡ No
  pub spins : s.spins ≡ m.spins
  pub ticks : s.ticks ≡ m.ticks

lower : (d n : ℕ) → d < n → nat_lt d n ≡ true
lower d n l = grind (arith, nat_tests)

some_is : {A : Type 0} (a b : A) → Some a ≡ Some b → a ≡ b
some_is {A} a b e = cc

pub taken : (h : History) (lo : ℕ) → length h ≡ lo → take lo h ≡ h
taken h lo is = ap (λ (n : ℕ). take n h) (sym is) ∙ take_all (length h) h (omega arith)

module _ (slots : ℕ) (t : Disks) (m : Meta) (h : History) (lo : ℕ) (calm : IsCalm slots t m h lo None) (all : IsWhole t m) where
  present : (d : ℕ) → d < m.setup.geometry.disks → is_present (t.power d) ≡ true
  present d l = ap is_present (all.spinning d l)

  none_absent : first_absent t.power m.setup.geometry.disks ≡ None
  none_absent = split (first_absent t.power m.setup.geometry.disks) refl
    where
      split : (o : Option ℕ) → first_absent t.power m.setup.geometry.disks ≡ o → first_absent t.power m.setup.geometry.disks ≡ None
      split None is = is
      split (Some u) is = let found = first_absent_is t.power m.setup.geometry.disks u is in absurd (false≢true (sym found.1 ∙ present u found.0))

  out_none : out_disk t.power m ≡ None
  out_none = ap (λ (o : Option ℕ). or_else o (first_absent t.power m.setup.geometry.disks)) (ap named_out calm.no_out) ∙ none_absent

  no_state_out : out_state t.power m ≡ No
  no_state_out = ap (λ (o : Out). out_after o t.power (first_absent t.power m.setup.geometry.disks)) calm.no_out ∙ ap gone_of none_absent

  shown : (s : PowerState) → IsCalmState m s → IsShown s (initial_state t (closed_over m))
  unfolding state_by
  shown s c = record {
    gear = sym c.gear;
    phase = ap (λ (o : Out). phase_beside (has_out o) m.phase) no_state_out ∙ ap (phase_beside false) calm.steady ∙ sym c.phase;
    fill = ap (λ (o : Out). if has_out o then 0 else m.fill) no_state_out ∙ sym c.fill;
    out = no_state_out ∙ sym c.out;
    spins = sym c.spins;
  }

  powers : (s : PowerState) → IsCalmState m s → (d : ℕ) (power : Power) → d < m.setup.geometry.disks → power_of s d ≡ Some power → t.power d ≡ power
  powers s c d power low is =
      let gear = all.gear in
      let by : nat_lt d m.gear ≡ true = lower d m.gear (omega (arith, gear, low)) in
      all.spinning d low ∙ some_is Spinning power (sym (rw (c.out, c.gear, by) refl) ∙ is)

  pub calm_mark : (s : PowerState) → IsCalmState m s → IsMark slots m.setup (point t m h lo s)
  calm_mark s c = record {
    held = subst (λ (o : Out). IsHeld slots t h lo (named_out o)) (sym c.out) calm.held;
    rest = calm.rest;
    same_setup = refl;
    counted_ticks = omega (arith, c.ticks);
    shown = shown s c;
    powers = powers s c;
    borne = λ x low names. let k : None ≡ Some x = sym (ap named_out calm.no_out) ∙ names in cc;
  }

  strong : (w : ℕ) → IsWeak t w → ⊥
  strong w (out x other stands e) =
      let is = says_meta slots t m h lo None calm x other stands.log_disk stands.says in
      let k : None ≡ Some w = sym out_none ∙ ap (λ (z : LogState). out_disk t.power z.meta) (sym is) ∙ e in cc
  strong w (named x other last stands e q n) =
      let low = stands.log_disk in
      let is = says_meta slots t m h lo None calm (other_log x) last (omega arith) q in
      let k : None ≡ Some w = sym (ap named_out calm.no_out) ∙ ap (λ (z : LogState). named_out z.meta.out) (sym is) ∙ n in cc

  many : 3 ≤ m.setup.geometry.disks
  many = m.setup.geometry.disks_low

  -- each disk may be lost
  pub may_lose : (d : ℕ) → d < m.setup.geometry.disks → MayLose t d
  may_lose d l = record {
    standing = calm.rest.disk;
    said = closed_over m;
    stands = calm.rest.log.stands;
    disk = l;
    present = present d l;
    weak = λ w weak. absurd (strong w weak);
  }

  -- the other log disk stands then
  other_stands : (x : ℕ) → x < 2 → Stands (lose x t) (other_log x) (closed_over m)
  other_stands x low =
      let y : ℕ = other_log x in
      let formed = calm.rest.log.formed y (omega arith) (present y (let n = many in omega (arith, n, low))) (λ e. let k : None ≡ Some y = sym out_none ∙ e in cc) in
      let is = says_meta slots t m h lo None calm y formed.0 (omega arith) formed.1 in
      let says : Says t y (closed_over m) = subst (λ (z : LogState). Says t y z) is formed.1 in
      record {
        log_disk = omega arith;
        says = says_forth t (lose x t) y (closed_over m) (lose_kept t x y (λ e. omega (arith, e, low))) says;
        first = λ other q.
            let back : other_log y ≡ x = omega (arith, low) in
            absurd (says_not_lost t x (other_log y) other q back);
      }

  base : ℕ → ℕ
  base d = slice_index m.spins d

  min_same : (n a b : ℕ) → a ≡ n → b ≡ n → n ≡ min a b
  min_same n a b first second = grind (arith)

  max_same : (n : ℕ) → n ≡ max n n
  max_same n = grind (arith)

  is_base : (x : ℕ) → x < 2 → IsBase t x (closed_over m) (λ d. slice_index m.spins d) m.ticks
  is_base x low = lesser (other_log x) (closed_over m) (may_lose x (let n = many in omega (arith, n, low))) (other_stands x low)
      (λ d. min_same (slice_index m.spins d) (made_spin_ups m t.power d) (made_spin_ups m t.power d) (used_is m t.power d calm.steady) (used_is m t.power d calm.steady)) (max_same m.ticks)

  -- what holds at the moment
  pub calm_kept : (b : Bounds) (w : Watch) → w.disks ≡ t → w.down ≡ nobody → ((d : ℕ) → w.spun d ≡ slice_index m.spins d) → m.setup ≡ b.setup → m.epoch ≤ b.epoch → m.ticks ≤ b.ticks → HoldsWhileServing slots h lo b w
  calm_kept b w disks down spins setup epoch ticks = record {
    held = rw (disks, down) calm.held;
    within = λ serving. rw disks (calm_within slots t m h lo None calm b w.spun setup epoch ticks spins);
  }

  calm_is : IsCalmState m (calm_state t m)
  calm_is = record { gear = refl; phase = refl; fill = refl; out = refl; spins = refl; ticks = refl }

  the_ticks : m.ticks ≡ (initial_state t (closed_over m)).ticks
  unfolding state_by
  the_ticks = refl

  begun : m.writes ≡ lo → length h ≡ lo → IsBegun slots t (closed_over m) h lo None (λ d. slice_index m.spins d) [] (point t m h lo (calm_state t m))
  begun writes full = record {
    disks = refl;
    low = omega arith;
    high = omega (arith, full);
    history = sym (taken h lo full);
    mark = calm_mark (calm_state t m) calm_is;
    writes = sym writes;
    ticks = refl;
    dirty = λ r d l. refl;
    state = quietly refl (sym writes) (record { beginning = record { shows = shown (calm_state t m) calm_is; ticks = the_ticks; samples = refl; served = refl }; dirty = λ r d l. refl });
    energy = refl;
    spun = refl;
    awaited = refl;
    going = refl;
  }

  -- A mount that makes no call.
  pub calm_mounts : (x : ℕ) (said : LogState) → Stands t x said → m.writes ≡ lo → length h ≡ lo → IsMounted slots t x said h lo None [] (λ p. p ≡ point t m h lo (calm_state t m))
  calm_mounts x said stands writes full =
      subst (λ (z : LogState). IsMounted slots t x z h lo None [] (λ p. p ≡ point t m h lo (calm_state t m))) (sym (says_meta slots t m h lo None calm x said stands.log_disk stands.says)) (record {
        mounting = record {
          base = λ d. slice_index m.spins d;
          ticks = m.ticks;
          is_base = is_base x stands.log_disk;
          moments = calm_kept (mount_bounds (closed_over m) m.ticks) (start_watch t None (λ d. slice_index m.spins d)) refl refl (λ d. refl) refl (omega arith) (omega arith);
        };
        ends = inr (point t m h lo (calm_state t m), begun writes full, refl);
      })

pub calm_more : (slots : ℕ) (t : Disks) (m : Meta) (h more : History) (lo : ℕ) (beside : Option ℕ) → IsCalm slots t m h lo beside → IsCalm slots t m (h ++ more) lo beside
calm_more slots t m h more lo beside calm = record {
  held = IsHeld-more slots t h more lo lo beside (omega arith) calm.held;
  rest = calm.rest;
  synced = calm.synced;
  no_out = calm.no_out;
  steady = calm.steady;
}
