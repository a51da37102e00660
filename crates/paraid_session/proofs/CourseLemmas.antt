-- A course of a session on a formatted array: a write, its flush, a write in which a disk is lost, a
-- stop, and the next mount.
use Rattle.std.proofs.Common.{◌≡◌, ◌≢◌, ℕ, ◌+◌, ◌*◌, ◌/◌, ◌<◌, ◌≤◌, Bool, true, false, [], ◌∷◌, None, refl, sym, ap, ◌∙◌, inl, inr, subst, arith, if◌then◌else◌, max}
use Rattle.std.specs.Prelude.{◌==◌, ◌&&◌, nat_lt, slice_index}
use Rattle.std.proofs.lemmas.Bool.{cases_eq, false≢true}
use Rattle.std.proofs.lemmas.Bool.Decides.{nat_tests}
use Rattle.paraid_base.specs.declared.block.Block.{Block}
use Rattle.paraid_base.specs.declared.event.Answer.TheVariants.{Flushed}
use Rattle.paraid_base.specs.declared.event.Event.TheVariants.{Bad, Flush}
use Rattle.paraid_base.specs.declared.state.Out.{Out}
use Rattle.paraid_base.specs.declared.state.Out.TheVariants.{Gone, No}
use Rattle.paraid_base.specs.Cells.{home_disk, home_row, parity_disk}
use Rattle.paraid_base.specs.History.{History, after}
use Rattle.paraid_base.specs.Log.{worn_at}
use Rattle.paraid_base.specs.Pairs.{single_pair, pairs_of}
use Rattle.paraid_base.specs.Xor.{zero_block}
use Rattle.paraid_rack.specs.Disks.{Disks, IsImage, lose}
use Rattle.paraid_record.specs.declared.meta.Meta.{Meta}
use Rattle.paraid_record.specs.Meta.{meta_bytes}
use Rattle.paraid_record.specs.Range.{IsInRange}
use Rattle.paraid_record.specs.Targets.{targets_bytes}
use Rattle.paraid_image.specs.Content.{blocks_of, view_by, view_of}
use Rattle.paraid_image.specs.Formatted.{IsFormatted}
use Rattle.paraid_image.specs.HeldAt.{IsHeld, IsSoundFrom}
use Rattle.paraid_image.specs.Out.{named_out}
use Rattle.paraid_image.specs.Power.{PowerState, initial_state, state_by}
use Rattle.paraid_image.specs.Sides.{LogState, Says, closed_over, is_open}
use Rattle.paraid_image.specs.Sound.{ContentOk, IsWellKept, LogOk}
use Rattle.paraid_image.specs.Spot.{is_hard}
use Rattle.paraid_image.specs.Value.{reconstructed_value, soft_value, stored_value, value}
use Rattle.paraid_image.specs.Standing.{contents}
use Rattle.paraid_base.proofs.CellsLemmas.{home_disk_below}
use Rattle.paraid_image.proofs.CloseLemmas.{IsHeld-raised}
use Rattle.paraid_image.proofs.SidesLemmas.{Says-same}
use Rattle.paraid_image.proofs.CallLemmas.{says_of_lost}
use Rattle.paraid_image.proofs.FormattedLemmas.{IsAtRest-formatted, IsHeld-formatted}
use Rattle.paraid_image.proofs.HeldLemmas.{image_of_synced}
use Rattle.paraid_machine.specs.Machine.{IsEventStep, outcomes}
use Rattle.paraid_session.specs.Turn.{IsTurn, Point, bounds_of}
use Rattle.paraid_session.specs.Turn.IsTurn.{answered}
use Rattle.paraid_session.specs.Course.{AreCommitBlocks, IsCourse, next_meta}
use Rattle.paraid_session.specs.Watch.{Down, Each, IsAllowed, HoldsWhileServing, Watch, down_from_out, nobody}
use Rattle.paraid_session.proofs.CalmLemmas.{IsCalm, says_meta}
use Rattle.paraid_session.proofs.PointLemmas.{IsCalmState, IsWhole, calm_mark, calm_more, calm_mounts, calm_state, point}
use Rattle.paraid_session.proofs.SidesLemmas.{IsInOrder}
use Rattle.paraid_session.proofs.StageLemmas.{IsLogged, New, all_synced, commit_calls, committed, each_stage, logged_first, logged_last, new_first, new_last, says_new, stage_held, stage_last, stages}
use Rattle.paraid_session.proofs.WriteLemmas.{after_write, entry, lossy_entry, lossy_point, lossy_turn, next_mount, next_point, write_turn}

-- the meta of the commit is in range too
next_range : (m : Meta) → m.epoch + 1 < worn_at → m.writes ≡ 0 → IsInRange m → IsInRange (next_meta m)
next_range m small none r = record {
  setup = r.setup;
  version = r.version;
  counters = record { first = omega arith; epoch_fits = omega (arith, small); writes_fit = omega (arith, none); ticks_fit = r.counters.ticks_fit };
  gear = r.gear;
  phase = r.phase;
  out = r.out;
  shift = record { fill = r.shift.fill; down = r.shift.down; still = r.shift.still };
  eight = r.eight;
  spins = λ d l. let c = r.spins d l in record { within = c.within; parked = c.parked; unused = c.unused };
}

if_same : (b : Bool) (x : Block) → (if b then x else x) ≡ x
if_same true x = refl
if_same false x = refl

-- a write of zeros leaves zeros
zeros_after : (b : ℕ) → after (entry ∷ []) 1 b ≡ zero_block
unfolding after pairs_of single_pair
zeros_after b = if_same (0 == b) zero_block

none_after : (b : ℕ) → after (entry ∷ []) 0 b ≡ zero_block
unfolding after
none_after b = refl

-- what is kept well is so by the next meta
next_kept : (slots : ℕ) (s : Disks) (m : Meta) → IsWellKept slots s.power s.size (view_by m s.power (contents s [])) → IsWellKept slots s.power s.size (view_by (next_meta m) s.power (contents s []))
unfolding value stored_value reconstructed_value soft_value is_hard
next_kept slots s m k = record {
  rows = k.rows;
  stripes = k.stripes;
  filled = λ none u l. let x = k.filled none u l in record { cells = x.cells; pads = x.pads; zero = x.zero };
  clean = k.clean;
  rebuilt = λ d rebuilt fresh. let r = k.rebuilt d rebuilt (record { is = fresh.is; present = fresh.present }) in record { rows = r.rows; stripes = r.stripes; map_blocks = r.map_blocks };
  map = record { mirrored = k.map.mirrored; rows = k.map.rows; parked = k.map.parked; disks = k.map.disks };
  disks = record {
    enough = k.disks.enough;
    log_disks = k.disks.log_disks;
    large = k.disks.large;
    fresh_large = λ d rebuilt fresh. k.disks.fresh_large d rebuilt (record { is = fresh.is; present = fresh.present });
    below_gear = k.disks.below_gear;
    fresh_spins = λ d rebuilt fresh. k.disks.fresh_spins d rebuilt (record { is = fresh.is; present = fresh.present });
    recorded = k.disks.recorded;
  };
}

next_blocks : (s : Disks) (m : Meta) (b : ℕ) → blocks_of (view_by (next_meta m) s.power (contents s [])) b ≡ blocks_of (view_by m s.power (contents s [])) b
unfolding value stored_value reconstructed_value soft_value is_hard
next_blocks s m b = refl

within_max : (a : ℕ) → a + 1 < worn_at → max a 1 < worn_at
within_max a small = grind (arith)

none_max : (a : ℕ) → a + 1 < worn_at → max a 0 < worn_at
none_max a small = grind (arith)

more_max : (a : ℕ) → a + 1 < worn_at → max (a + 1) 1 < worn_at
more_max a small = grind (arith)

calm_is_calm : (s : Disks) (m : Meta) → IsCalmState m (calm_state s m)
calm_is_calm s m = record { gear = refl; phase = refl; fill = refl; out = refl; spins = refl; ticks = refl }

no_bad : Flush ≢ Bad
no_bad e = cc

if_false : (c : Bool) (x y : Bool) → x ≡ false → y ≡ false → (if c then x else y) ≡ false
if_false true x y p q = p
if_false false x y p q = q

lower : (d n : ℕ) → d < n → nat_lt d n ≡ true
lower d n l = grind (arith, nat_tests)

clean_bit : (b : Bool) → (b ≡ true → ⊥) → b ≡ false
clean_bit true not = absurd (not refl)
clean_bit false not = refl

in_map : (r rows : ℕ) → r < rows → r < 512 * ((rows + 511) / 512)
in_map r rows l = grind (arith)

-- a calm array with all its disks shows no dirty cell
calm_clean : (slots : ℕ) (t : Disks) (m : Meta) (h : History) (lo : ℕ) → IsCalm slots t m h lo None → IsWhole t m → (r d : ℕ) → r < m.setup.geometry.rows → (initial_state t (closed_over m)).dirty r d ≡ false
unfolding state_by
calm_clean slots t m h lo calm all r d low =
    let sound = calm.held.whole t (image_of_synced t calm.synced) in
    let is = says_meta slots t m h lo None calm sound.sound.disk sound.sound.said sound.sound.log.stands.log_disk sound.sound.log.stands.says in
    let content : ContentOk slots t.power t.size (view_of t (closed_over m)) h sound.k = subst (λ (z : LogState). ContentOk slots t.power t.size (view_of t z) h sound.k) is sound.sound.content in
    let map = content.kept.map in
    let row = in_map r m.setup.geometry.rows low in
    let gear = all.gear in
    clean_bit ((view_of t (closed_over m)).dirty r d) (λ bit. let high = map.parked r d row bit in let below = map.disks r d row bit in omega (arith, gear, high, below))

module _ (slots : ℕ) (s : Disks) (m : Meta) (f : IsFormatted slots s m) (small : m.epoch + 1 < worn_at) where
  -- a formatted array is calm
  pub calm_start : IsCalm slots s m [] 0 None
  calm_start = record { held = IsHeld-formatted slots s m f; rest = IsAtRest-formatted slots s m f; synced = f.synced; no_out = f.out; steady = f.phase }

  pub whole_start : IsWhole s m
  whole_start = record { gear = f.gear; spinning = f.spinning }

  calm_write : IsCalm slots s m (entry ∷ []) 0 None
  calm_write = calm_more slots s m [] (entry ∷ []) 0 None calm_start

  sound_start : IsSoundFrom slots s (entry ∷ []) 0
  sound_start = calm_write.held.whole s (image_of_synced s f.synced)

  said_start : sound_start.sound.said ≡ closed_over m
  said_start = says_meta slots s m (entry ∷ []) 0 None calm_write sound_start.sound.disk sound_start.sound.said sound_start.sound.log.stands.log_disk sound_start.sound.log.stands.says

  content_start : ContentOk slots s.power s.size (view_by m s.power (contents s [])) (entry ∷ []) 0
  content_start =
      let count : sound_start.k ≡ 0 = sym sound_start.sound.log.writes ∙ ap (λ (z : LogState). z.meta.writes) said_start ∙ f.writes in
      subst (λ (k : ℕ). ContentOk slots s.power s.size (view_by m s.power (contents s [])) (entry ∷ []) k) count
      (subst (λ (z : LogState). ContentOk slots s.power s.size (view_of s z) (entry ∷ []) sound_start.k) said_start sound_start.sound.content)

  pub order : IsInOrder slots s m (entry ∷ [])
  order = record {
    no_out = f.out;
    spinning = f.spinning;
    large = λ d l. let large = f.large d l in omega arith;
    writes = f.writes;
    some = omega arith;
    old_content = content_start;
    new_content = record {
      kept = next_kept slots s m content_start.kept;
      blocks = λ b l. next_blocks s m b ∙ content_start.blocks b l ∙ none_after b ∙ sym (zeros_after b);
    };
    old_range = f.in_range;
    new_range = next_range m small f.writes f.in_range;
    no_witness = f.no_witness;
  }

  -- the state after the write
  abbrev pub written_state : PowerState
  written_state = after_write m (calm_state s m)

  written_calm : IsCalmState m written_state
  unfolding pairs_of single_pair
  written_calm = record { gear = refl; phase = refl; fill = refl; out = refl; spins = refl; ticks = refl }

  written_clean : (r d : ℕ) → r < m.setup.geometry.rows → written_state.dirty r d ≡ false
  unfolding pairs_of single_pair
  written_clean r d low =
      let n = m.setup.geometry.disks in
      let many = m.setup.geometry.disks_low in
      let gear = f.gear in
      let home = home_disk_below n 0 (omega (arith, many)) in
      let data_bit = lower (home_disk n 0) m.gear (omega (arith, gear, home)) in
      let parity_bit = lower (parity_disk n (home_row n 0)) m.gear (omega (arith, gear, many)) in
      let clean = calm_clean slots s m [] 0 calm_start whole_start r d low in
      if_false (r == home_row n 0 && d == parity_disk n (home_row n 0)) _ _ (rw parity_bit refl)
      (if_false (r == home_row n 0 && d == home_disk n 0) _ _ (rw data_bit refl) clean)

  module _ (b1 b3 go gc : Block) (meta_is : b1.bytes ≡ meta_bytes (next_meta m)) (list_is : b3.bytes ≡ targets_bytes []) (open_is : is_open go ≡ true) (closed_is : is_open gc ≡ false) where
    -- the disks after the commit
    abbrev pub t : Disks
    t = committed slots s m (entry ∷ []) order f b1 b3 go gc meta_is list_is open_is closed_is

    logged : IsLogged s t
    logged = logged_last slots s m (entry ∷ []) order f b1 b3 go gc meta_is list_is open_is closed_is

    synced : (d p : ℕ) → t.loose d p ≡ false
    synced = all_synced slots s m (entry ∷ []) order f b1 b3 go gc meta_is list_is open_is closed_is

    new_at : (x : ℕ) → x < 2 → New m t x
    new_at x low = elim (cases_eq x 0) [
      | inl zero_is ↦ subst (New m t) (sym zero_is) (new_first slots s m (entry ∷ []) order f b1 b3 go gc meta_is list_is open_is closed_is)
      | inr apart ↦ let one_is : 1 ≡ x = omega (arith, low, apart) in subst (New m t) one_is (new_last slots s m (entry ∷ []) order f b1 b3 go gc meta_is list_is open_is closed_is)
    ]

    says_at : (i : Disks) (x : ℕ) → IsImage t i → x < 2 → Says i x (closed_over (next_meta m))
    says_at i x image low = says_new slots s m (entry ∷ []) order t logged i image x low (new_at x low)

    only_new : (i : Disks) (x : ℕ) (z : LogState) → IsImage t i → x < 2 → Says i x z → z ≡ closed_over (next_meta m)
    only_new i x z image low says = Says-same i x z (closed_over (next_meta m)) says (says_at i x image low)

    held_zero : IsHeld slots t (entry ∷ []) 0 None
    held_zero = stage_held slots s m (entry ∷ []) order t (stage_last slots s m (entry ∷ []) order f b1 b3 go gc meta_is list_is open_is closed_is)

    one_write : (z : LogState) → z ≡ closed_over (next_meta m) → 1 ≤ z.meta.writes
    one_write z is = rw is (omega arith)

    held_one : IsHeld slots t (entry ∷ []) 1 None
    held_one = IsHeld-raised slots t (entry ∷ []) 0 1 None
        (λ i x z image stands. one_write z (only_new i x z image stands.log_disk stands.says))
        (λ i d x z image may stands. one_write z (only_new i x z image stands.log_disk (says_of_lost i d x z stands.says))) held_zero

    sound_now : IsSoundFrom slots t (entry ∷ []) 0
    sound_now = held_zero.whole t (image_of_synced t synced)

    log_now : LogOk t sound_now.sound.disk (closed_over (next_meta m)) (next_meta m).writes
    log_now =
        let log = sound_now.sound.log in
        let is = only_new t sound_now.sound.disk sound_now.sound.said (image_of_synced t synced) log.stands.log_disk log.stands.says in
        subst (λ (z : LogState). LogOk t sound_now.sound.disk z z.meta.writes) is (subst (λ (k : ℕ). LogOk t sound_now.sound.disk sound_now.sound.said k) (sym log.writes) log)

    pub calm_next : IsCalm slots t (next_meta m) (entry ∷ []) 1 None
    calm_next = record {
      held = held_one;
      rest = record {
        synced = λ d p here. synced d p;
        disk = sound_now.sound.disk;
        log = log_now;
        shut = λ x low here not. (says_at t x (image_of_synced t synced) low).gate;
      };
      synced = synced;
      no_out = f.out;
      steady = f.phase;
    }

    pub whole_next : IsWhole t (next_meta m)
    whole_next = record { gear = f.gear; spinning = λ d l. logged.like.power d ∙ f.spinning d l }

    next_calm : IsCalmState (next_meta m) written_state
    next_calm = record { gear = written_calm.gear; phase = written_calm.phase; fill = written_calm.fill; out = written_calm.out; spins = written_calm.spins; ticks = written_calm.ticks }

    abbrev p : Point
    p = point s m (entry ∷ []) 0 written_state

    abbrev q : Point
    q = point t (next_meta m) (entry ∷ []) 1 written_state

    nobody_is : down_from_out (named_out written_state.out) ≡ nobody
    nobody_is = ap (λ (o : Out). down_from_out (named_out o)) written_calm.out

    abbrev watched : Down → Watch
    watched down = record { disks = s; down = down; spun = λ d. slice_index m.spins d; awaited = None }

    flush_step : IsEventStep m.setup (entry ∷ []) 0 written_state Flush None (Flushed 1) written_state
    unfolding outcomes
    flush_step = record { among = (0, omega arith, refl) }

    moments : Each (HoldsWhileServing slots (entry ∷ []) 0 (bounds_of m.setup p Flush)) (IsAllowed m.setup None) (watched (down_from_out (named_out written_state.out))) (commit_calls b1 b3 go gc)
    moments = subst (λ (down : Down). Each (HoldsWhileServing slots (entry ∷ []) 0 (bounds_of m.setup p Flush)) (IsAllowed m.setup None) (watched down) (commit_calls b1 b3 go gc)) (sym nobody_is)
        (each_stage slots s m (entry ∷ []) order f.phase (bounds_of m.setup p Flush) refl (omega arith) (omega (arith, written_calm.ticks)) s (commit_calls b1 b3 go gc) (logged_first slots s m (entry ∷ []) order f b1 b3 go gc meta_is list_is open_is closed_is) (stages slots s m (entry ∷ []) order f b1 b3 go gc meta_is list_is open_is closed_is))

    -- The flush keeps the write.
    pub flush_turn : IsTurn slots m.setup p Flush (Flushed 1) (commit_calls b1 b3 go gc) q
    flush_turn = answered refl no_bad (record {
      fit = λ e. within_max m.epoch small;
      machine = flush_step;
      moments = moments;
      once = omega arith;
      attached = λ is. absurd (false≢true is);
      ups = λ d low. omega arith;
      quiet = λ is none. absurd (false≢true is);
      serving = rw nobody_is tt;
      mark = calm_mark slots t (next_meta m) (entry ∷ []) 1 calm_next whole_next written_state next_calm;
      carried = λ is none. absurd (false≢true is);
      brought = λ moved. sym written_calm.ticks;
      named = λ d was is moved. let z : No ≡ Gone d = sym written_calm.out ∙ was in cc;
      flushed = λ is r d low. calm_clean slots t (next_meta m) (entry ∷ []) 1 calm_next whole_next r d low ∙ sym (written_clean r d low);
      disks = refl;
      history = refl;
      low = refl;
      energy = refl;
      spun = refl;
      awaited = refl;
      going = refl;
    })

    one_first : (next_meta m).writes ≡ 1
    one_first = ap (λ (n : ℕ). n + 1) f.writes

    no_wear : max m.epoch 0 < worn_at
    no_wear = none_max m.epoch small

    little_wear : max (m.epoch + 1) 1 < worn_at
    little_wear = more_max m.epoch small

    pub course : IsCourse slots s m
    course = record {
      first = point s m [] 0 (calm_state s m);
      written = p;
      kept = q;
      lossy = lossy_point slots t (next_meta m) (entry ∷ []) 1 calm_next whole_next written_state next_calm little_wear;
      next = next_point slots t (next_meta m) (entry ∷ []) 1 calm_next whole_next written_state next_calm little_wear;
      flush_calls = commit_calls b1 b3 go gc;
      mounted = λ x said stands. calm_mounts slots s m [] 0 calm_start whole_start x said stands f.writes refl;
      writes = write_turn slots s m [] 0 calm_start whole_start (calm_state s m) (calm_is_calm s m) no_wear;
      flushes = flush_turn;
      loses = lossy_turn slots t (next_meta m) (entry ∷ []) 1 calm_next whole_next written_state next_calm little_wear;
      stopped = image_of_synced (lose 2 t) synced;
      entry = lossy_entry slots t (next_meta m) (entry ∷ []) 1 calm_next whole_next written_state next_calm little_wear;
      mounted_again = λ x said stands. next_mount slots t (next_meta m) (entry ∷ []) 1 calm_next whole_next written_state next_calm little_wear refl one_first x said stands;
      holds = refl;
    }

pub course_by : (slots : ℕ) (s : Disks) (m : Meta) (b1 b3 go gc : Block) → IsFormatted slots s m → m.epoch + 1 < worn_at → AreCommitBlocks m b1 b3 go gc → IsCourse slots s m
course_by slots s m b1 b3 go gc f small blocks = course slots s m f small b1 b3 go gc blocks.meta_is blocks.list_is blocks.opens blocks.closes
