-- A mounted array is told as the point at which its session begins.
use Rattle.std.proofs.Common.{◌≡◌, ℕ, ◌<◌, ◌++◌, Bool, true, false, List, Option, Some, None, refl, sym, ap, ◌∙◌, subst, arith, length, if◌then◌else◌}
use Rattle.std.specs.Prelude.{◌&&◌, nat_le}
use Rattle.std.proofs.lemmas.Bool.{true≢false}
use Rattle.paraid_base.specs.declared.event.Answer.TheVariants.{State as IsState}
use Rattle.paraid_base.specs.declared.state.Out.{Out}
use Rattle.paraid_base.specs.declared.state.Phase.{Phase}
use Rattle.paraid_base.specs.declared.state.Phase.TheVariants.{Steady, Down, Up}
use Rattle.paraid_base.specs.declared.state.Status.{Status}
use Rattle.paraid_base.specs.History.{History}
use Rattle.paraid_base.specs.States.{has_out, is_down, phase_beside}
use Rattle.paraid_serve.specs.Ending.{mount_line}
use Rattle.paraid_dirty.proofs.MaskLemmas.{sum_before_same}
use Rattle.paraid_dirty.specs.Table.{cell_count, dirty_count, row_count}
use Rattle.paraid_rack.specs.declared.call.Power.{Power}
use Rattle.paraid_rack.specs.Disks.{Disks}
use Rattle.paraid_rack.specs.Trail.{Trail, now}
use Rattle.paraid_record.specs.declared.meta.Meta.{Meta}
use Rattle.paraid_record.specs.declared.meta.Setup.{Setup}
use Rattle.paraid_record.specs.Range.{IsInRange}
use Rattle.paraid_image.specs.Power.{initial_state, out_state, state_by}
use Rattle.paraid_image.specs.Sides.{closed_over}
use Rattle.paraid_machine.specs.Machine.{state_status}
use Rattle.paraid_commands.specs.Telling.{state_lines}
use Rattle.paraid_recover.specs.Mounted.{with_loss}
use Rattle.paraid_recover.specs.RecoveryMark.{to_mark}
use Rattle.paraid_session.specs.Turn.{IsMark, Point}
use Rattle.paraid_recover.specs.FirstPoint.{IsFirstPoint, first_point}
use Rattle.paraid_recover.proofs.FirstLemmas.{loss_shown}
use Rattle.paraid_commands.specs.States.{shown_status, status_lines}
use Rattle.paraid_trace.specs.Replies.{reply_of}

cell_alike : (low at : Bool) (b : Bool) → at ≡ b → ◌≡◌ {A = ℕ} (if (low && at) then 1 else 0) (if (low && b) then 1 else 0)
cell_alike low at b is = rw is refl

-- as many cells are dirty where the same are
count_alike : (f g : ℕ → ℕ → Bool) (rows lo hi : ℕ) → ((r d : ℕ) → r < rows → f r d ≡ g r d) → dirty_count f rows lo hi ≡ dirty_count g rows lo hi
count_alike f g rows lo hi same =
    sum_before_same (row_count f lo hi) (row_count g lo hi) rows
    (λ r low. sum_before_same (cell_count f lo r) (cell_count g lo r) hi (λ d l. cell_alike (nat_le lo d) (f r d) (g r d) (same r d low)))

-- a shift down ends where a disk is out
phase_alike : (b : Bool) (phase : Phase) → (is_down phase ≡ true → b ≡ false) → phase ≡ phase_beside b phase
phase_alike b Steady none = refl
phase_alike b (Up to) none = refl
phase_alike true (Down to) none = absurd (true≢false (none refl))
phase_alike false (Down to) none = refl

fill_alike : (b : Bool) (fill : ℕ) → (b ≡ true → fill ≡ 0) → fill ≡ (if b then 0 else fill)
fill_alike true fill none = none refl
fill_alike false fill none = refl

module _ (m : Meta) (o : Option ℕ) where
  -- what the mark of a lost disk keeps
  pub record IsKeptBy (n : Meta) : Type 0 where
    pub setup : n.setup ≡ m.setup
    pub writes : n.writes ≡ m.writes
    pub ticks : n.ticks ≡ m.ticks
    pub gear : n.gear ≡ m.gear
    pub spins : n.spins ≡ m.spins

kept_by : (m : Meta) (o : Option ℕ) → IsKeptBy m o (with_loss m o)
kept_by m None = record { setup = refl; writes = refl; ticks = refl; gear = refl; spins = refl }
kept_by m (Some d) = record { setup = refl; writes = refl; ticks = refl; gear = refl; spins = refl }

module _ (m : Meta) (power : ℕ → Power) (range : IsInRange m) where
  abbrev out : Out
  out = out_state power m

  phase_by : (o : Option ℕ) → (with_loss m o).out ≡ out → (with_loss m o).phase ≡ phase_beside (has_out out) m.phase
  phase_by None is = phase_alike (has_out out) m.phase (λ down. ap has_out (sym is) ∙ range.shift.down down)
  phase_by (Some d) is = ap (λ (x : Out). phase_beside (has_out x) m.phase) is

  fill_by : (o : Option ℕ) → (with_loss m o).out ≡ out → (with_loss m o).fill ≡ (if has_out out then 0 else m.fill)
  fill_by None is = fill_alike (has_out out) m.fill (λ some. range.shift.still (ap has_out is ∙ some))
  fill_by (Some d) is = ap (λ (x : Out). if has_out x then 0 else m.fill) is

same_status : (w w' t t' g g' c c' f f' : ℕ) (p p' : Phase) (o o' : Out) (s s' : List ℕ) → w ≡ w' → t ≡ t' → g ≡ g' → p ≡ p' → c ≡ c' → f ≡ f' → o ≡ o' → s ≡ s'
    → ◌≡◌ {A = Status} (record { writes = w; ticks = t; gear = g; phase = p; dirty = c; fill = f; out = o; spins = s; halt = None })
    (record { writes = w'; ticks = t'; gear = g'; phase = p'; dirty = c'; fill = f'; out = o'; spins = s'; halt = None })
same_status w w' t t' g g' c c' f f' p p' o o' s s' a b d e h i j k = rw (a, b, d, e, h, i, j, k) refl

module _ (s : Disks) (m : Meta) (h : History) (spun : ℕ → ℕ) (range : IsInRange m) (dirty : ℕ → ℕ → Bool) (n : Meta) (n_is : n ≡ with_loss m (to_mark s.power m)) (writes : ℕ) (counted : writes ≡ m.writes)
    (cells : (r d : ℕ) → r < m.setup.geometry.rows → dirty r d ≡ (first_point s m h spun).state.dirty r d) where
  abbrev o : Option ℕ
  o = to_mark s.power m

  abbrev lossy : Meta
  lossy = with_loss m o

  shown : (with_loss m o).out ≡ out_state s.power m
  shown = loss_shown s.power m

  -- the state is the same
  same_state : shown_status lossy dirty ≡ state_status lossy.setup writes (first_point s m h spun).state
  unfolding state_by
  same_state =
      let kept = kept_by m o in
      same_status lossy.writes writes lossy.ticks m.ticks lossy.gear m.gear _ _ lossy.fill _ lossy.phase _ lossy.out (out_state s.power m) lossy.spins m.spins
      (kept.writes ∙ sym counted) kept.ticks kept.gear (phase_by m s.power range o shown)
      (count_alike dirty (initial_state s (closed_over m)).dirty lossy.setup.geometry.rows lossy.gear lossy.setup.geometry.disks (λ r d low. cells r d (let e = ap (λ (z : Setup). z.geometry.rows) kept.setup in omega (arith, e, low)))
      ∙ ap (λ (g : ℕ). dirty_count (initial_state s (closed_over m)).dirty lossy.setup.geometry.rows g lossy.setup.geometry.disks) kept.gear)
      (fill_by m s.power range o shown) shown kept.spins

  same_gear : lossy.gear ≡ (first_point s m h spun).state.gear
  unfolding state_by
  same_gear = (kept_by m o).gear

  -- So are the two lines.
  same_lines : status_lines n dirty ≡ mount_line writes (first_point s m h spun).state.gear ++ reply_of (IsState (state_status n.setup writes (first_point s m h spun).state) n.setup.geometry.disks)
  same_lines =
      ap (λ (k : Meta). status_lines k dirty) n_is
      ∙ ap (λ (w : ℕ). mount_line w lossy.gear ++ reply_of (IsState (shown_status lossy dirty) lossy.setup.geometry.disks)) ((kept_by m o).writes ∙ sym counted)
      ∙ ap (λ (g : ℕ). mount_line writes g ++ reply_of (IsState (shown_status lossy dirty) lossy.setup.geometry.disks)) same_gear
      ∙ ap (λ (k : Status). mount_line writes (first_point s m h spun).state.gear ++ reply_of (IsState k lossy.setup.geometry.disks)) same_state
      ∙ ap (λ (k : Meta). mount_line writes (first_point s m h spun).state.gear ++ reply_of (IsState (state_status k.setup writes (first_point s m h spun).state) k.setup.geometry.disks)) (sym n_is)

pub told_alike : (slots : ℕ) (n m : Meta) (dirty : ℕ → ℕ → Bool) (told : Option Trail) (t : Trail) (p : Point) → told ≡ Some t → n ≡ with_loss m (to_mark (now t).power m) → IsFirstPoint m dirty told p
    → IsMark slots n.setup p → status_lines n dirty ≡ state_lines n.setup p
told_alike slots n m dirty told t p tells is first mark =
    let at = first.is t tells in
    let meta : p.meta ≡ m = ap (λ (q : Point). q.meta) at in
    let range : IsInRange m = subst IsInRange meta mark.rest.log.stands.says.log.meta.in_range in
    same_lines (now t) m first.history first.spun range dirty n is (length p.history) first.writes
    (λ r d low. first.cells r d low ∙ ap (λ (q : Point). q.state.dirty r d) at)
    ∙ ap (λ (q : Point). mount_line (length p.history) q.state.gear ++ reply_of (IsState (state_status n.setup (length p.history) q.state) n.setup.geometry.disks)) (sym at)
