-- The parts of a mount, put together.
use Rattle.std.proofs.Common.{◌≡◌, ℕ, ◌≤◌, ◌⊎◌, false, List, [], Option, Some, None, refl, sym, ap, ◌∙◌, inl, inr, subst, arith, length}
use Rattle.std.proofs.lemmas.List.{append-nil}
use Rattle.paraid_base.specs.History.{History}
use Rattle.paraid_rack.specs.Alike.{IsAlike}
use Rattle.paraid_rack.specs.declared.call.Call.{Call}
use Rattle.paraid_rack.specs.Disks.{Disks, IsImage}
use Rattle.paraid_rack.specs.Trail.{run}
use Rattle.paraid_rack.proofs.AlikeLemmas.{IsAlike-sym, IsAlike-trans}
use Rattle.paraid_record.specs.declared.meta.Meta.{Meta}
use Rattle.paraid_record.specs.declared.meta.Setup.{Setup}
use Rattle.paraid_image.specs.HeldAt.{IsHeld}
use Rattle.paraid_image.specs.Rest.{AreSynced, IsAtRest}
use Rattle.paraid_image.specs.RunStart.{IsRunStart}
use Rattle.paraid_image.specs.Sides.{LogState, closed_over}
use Rattle.paraid_image.specs.Standing.{Stands}
use Rattle.paraid_image.proofs.AlikeLemmas.{sound_alike, weak_alike}
use Rattle.paraid_image.proofs.LookedLemmas.{weak_of_sound}
use Rattle.paraid_image.proofs.StandingLemmas.{Stands-same}
use Rattle.paraid_session.specs.Mount.{IsAllowedInMount, IsBegun, IsMountRefused, IsMounted, IsMounting, Refusal, down_after_mount, mount_bounds, start_watch}
use Rattle.paraid_session.specs.Turn.{IsMark, Point}
use Rattle.paraid_session.specs.Watch.{Down, Each, HoldsWhileServing, IsHeldWhileServing, IsServing, Watch, nobody, only, several, watch_all}
use Rattle.paraid_session.proofs.LayerLemmas.{each_at, each_both, each_map}
use Rattle.paraid_session.proofs.RunStartLemmas.{synced_alike}
use Rattle.paraid_recover.specs.StartCalls.{IsSpinUpRecorded}
use Rattle.paraid_recover.specs.FirstPoint.{first_point}
use Rattle.paraid_recover.specs.StartParts.{AreMountCalls, EndsRefused, EndsServed}
use Rattle.paraid_recover.specs.RecordedSpins.{StaysWithin}
use Rattle.paraid_recover.proofs.CallsLemmas.{each_allowed}
use Rattle.paraid_recover.proofs.DownLemmas.{mount_held, watched_disks}
use Rattle.paraid_recover.proofs.FirstLemmas.{mark_at_end, state_ticks}

-- nothing is loose: the disks as a stop leaves them
pub stopped : Disks → Disks
stopped s = record s { loose = λ d p. false }

pub stopped_image : (s : Disks) → IsImage s (stopped s)
unfolding stopped
stopped_image s = record { power = λ d. refl; size = λ d. refl; block = λ d p not. refl; loose = λ d p. refl }

pub stopped_alike : (s : Disks) → AreSynced s → IsAlike s (stopped s)
stopped_alike s synced = synced_alike s (stopped s) synced (stopped_image s)

-- how many writes are held is what the meta counts
pub writes_between : (slots : ℕ) (s : Disks) (m : Meta) (h : History) (lo : ℕ) (down : Option ℕ) → IsAtRest s m → IsHeld slots s h lo down → (lo ≤ m.writes) × (m.writes ≤ length h)
writes_between slots s m h lo down rest held =
    let it = held.whole (stopped s) (stopped_image s) in
    let sound = sound_alike slots (stopped s) s h it.k (IsAlike-sym s (stopped s) (stopped_alike s rest.synced)) it.sound in
    let same = Stands-same s sound.disk rest.disk sound.said (closed_over m) sound.log.stands rest.log.stands in
    let count : m.writes ≡ it.k = sym (ap (λ (z : LogState). z.meta.writes) same.1) ∙ sound.log.writes in
    let low = it.low in
    let high = it.high in
    (omega (arith, count, low), omega (arith, count, high))

-- disks that hold a history and of which nothing is loose are such as a run begins on
pub run_start : (slots : ℕ) (s : Disks) (h : History) (lo : ℕ) (down : Option ℕ) → AreSynced s → IsHeld slots s h lo down → (own : Option ℕ) × IsRunStart slots s h lo own
run_start slots s h lo down synced held =
    let alike = stopped_alike s synced in
    let own = weak_of_sound slots (stopped s) h lo (held.whole (stopped s) (stopped_image s)) in
    let other : (i : Disks) → IsImage s i → IsAlike i (stopped s) = λ i image. IsAlike-trans i s (stopped s) (IsAlike-sym s i (synced_alike s i synced image)) alike in (
      own.0,
      record {
        synced = synced;
        held = record {
          whole = held.whole;
          lost = held.lost;
          weak = λ i w image is. own.1.only w (weak_alike i (stopped s) w (other i image) is);
        };
        weak = λ i w image is. weak_alike (stopped s) i w (IsAlike-sym i (stopped s) (other i image)) (own.1.is w is);
      },
    )

module _ (slots : ℕ) (s : Disks) (x : ℕ) (said : LogState) (h : History) (lo : ℕ) (down : Option ℕ) (calls : List Call) (start : IsRunStart slots s h lo down) (stands : Stands s x said)
    (parts : AreMountCalls slots s x said h lo down calls) where
  abbrev w : Watch
  w = start_watch s down parts.base

  held : Each (λ (v : Watch). IsHeldWhileServing slots v.disks h lo v.down) (λ (v : Watch) (c : Call). Unit {0}) w calls
  held = mount_held slots s h lo down start x said parts.base calls stands parts.held

  allowed : Each (λ (v : Watch). Unit {0}) (IsAllowedInMount said) w calls
  allowed = each_allowed said said.meta.setup.geometry.disks w calls refl refl parts.each
      (each_map (StaysWithin (mount_bounds said parts.ticks)) (λ (v : Watch). Unit {0}) IsSpinUpRecorded IsSpinUpRecorded (λ v is. tt) (λ v c is. is) w calls parts.within)

  -- The calls are those of a mount.
  pub mounting : IsMounting slots s x said h lo down calls
  mounting = record {
    base = parts.base;
    ticks = parts.ticks;
    is_base = parts.is_base;
    moments = each_map _ (HoldsWhileServing slots h lo (mount_bounds said parts.ticks)) _ (IsAllowedInMount said)
        (λ v is. record { held = is.0; within = is.1.0 })
        (λ v c is. is.1.1) w calls
        (each_both (λ (v : Watch). IsHeldWhileServing slots v.disks h lo v.down) (λ (v : Watch). StaysWithin (mount_bounds said parts.ticks) v × Unit {0})
        (λ (v : Watch) (c : Call). Unit {0}) (λ (v : Watch) (c : Call). IsSpinUpRecorded v c × IsAllowedInMount said v c) w calls held
        (each_both (StaysWithin (mount_bounds said parts.ticks)) (λ (v : Watch). Unit {0}) IsSpinUpRecorded (IsAllowedInMount said) w calls parts.within allowed));
  }

  some_held : (t : Disks) (d : Down) → IsServing d → IsHeldWhileServing slots t h lo d → (beside : Option ℕ) × IsHeld slots t h lo beside
  some_held t nobody serving is = (None, is)
  some_held t (only d) serving is = (Some d, is)
  some_held t several serving is = absurd serving

  -- what is held at its end
  pub at_end : IsServing (down_after_mount s down parts.base calls) → (beside : Option ℕ) × IsHeld slots (run s calls) h lo beside
  at_end serving =
      let last = each_at (λ (v : Watch). IsHeldWhileServing slots v.disks h lo v.down) _ w calls [] (subst (Each _ _ w) (sym (append-nil calls)) held) in
      let it = some_held (watch_all calls w).disks (watch_all calls w).down serving last in
      (it.0, subst (λ (t : Disks). IsHeld slots t h lo it.0) (watched_disks w calls) it.1)

  -- The first point of a session.
  pub begun : (standing : Meta) → IsServing (down_after_mount s down parts.base calls) → EndsServed slots s said h calls standing
      → IsBegun slots s said h lo down parts.base calls (first_point (run s calls) standing h (watch_all calls w).spun)
  begun standing serving ends =
      let kept = at_end serving in
      let between = writes_between slots (run s calls) standing h lo kept.0 ends.rest kept.1 in
      record {
        disks = refl;
        low = between.0;
        high = between.1;
        history = refl;
        mark = subst (λ (z : Setup). IsMark slots z (first_point (run s calls) standing h (watch_all calls w).spun)) ends.setup
            (mark_at_end slots (run s calls) ends.count ends.last ends.array ends.slot ends.named standing ends.rows ends.agrees ends.servable h (watch_all calls w).spun ends.rest ends.held ends.borne);
        writes = refl;
        ticks = state_ticks (run s calls) standing;
        dirty = λ r d low. refl;
        state = ends.begins;
        energy = refl;
        spun = refl;
        awaited = refl;
        going = refl;
      }

  two_or_one : (d : Down) → (d ≡ several) ⊎ IsServing d
  two_or_one nobody = inr tt
  two_or_one (only d) = inr tt
  two_or_one several = inl refl

  -- A mount that is served.
  pub mounted : (follows : Point → Type 0) (standing : Meta) → (IsServing (down_after_mount s down parts.base calls) → EndsServed slots s said h calls standing)
      → (IsServing (down_after_mount s down parts.base calls) → follows (first_point (run s calls) standing h (watch_all calls w).spun)) → IsMounted slots s x said h lo down calls follows
  unfolding mounting
  mounted follows standing ends after = record {
    mounting = mounting;
    ends = elim (two_or_one (down_after_mount s down parts.base calls)) [
      | inl two ↦ inl two
      | inr serving ↦ inr (first_point (run s calls) standing h (watch_all calls w).spun, begun standing serving (ends serving), after serving)
    ];
  }

  -- One that is refused.
  pub refused : (why : Refusal) → EndsRefused s down parts.base calls why → IsMountRefused slots s x said h lo down calls why
  unfolding mounting
  refused why ends = record {
    mounting = mounting;
    ends = elim (two_or_one (down_after_mount s down parts.base calls)) [
      | inl two ↦ inl two
      | inr serving ↦
          let kept = at_end serving in
          let own = run_start slots (run s calls) h lo kept.0 (ends.synced serving) kept.1 in
          inr (own.0, own.1, ends.cause serving)
    ];
    worn_out = ends.worn_out;
  }
