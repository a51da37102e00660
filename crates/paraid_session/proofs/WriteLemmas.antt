-- A write of zeros at a point at which an array is calm, and one in which a disk is lost.
use Rattle.std.proofs.Common.{◌≡◌, ◌≢◌, ℕ, ◌+◌, ◌-◌, ◌*◌, ◌<◌, ◌≤◌, true, false, [], ◌∷◌, ◌++◌, length, take, Option, Some, None, refl, sym, ap, length-append, ◌∙◌, inl, inr, subst, arith, if◌then◌else◌, max, zero, suc}
use Rattle.std.specs.Prelude.{◌==◌, ◌||◌, nat_lt, slice_index, Contains}
use Rattle.std.proofs.lemmas.Bool.{cases_eq, false≢true}
use Rattle.std.proofs.lemmas.Bool.Decides.{nat_tests}
use Rattle.std.proofs.Math.Seq.{take-append_seam}
use Rattle.paraid_base.specs.declared.event.Answer.{Answer}
use Rattle.paraid_base.specs.declared.event.Answer.TheVariants.{Wrote}
use Rattle.paraid_base.specs.declared.event.Event.TheVariants.{Write, Bad}
use Rattle.paraid_base.specs.declared.pairs.Pairs.{Pairs}
use Rattle.paraid_base.specs.declared.state.Out.{Out}
use Rattle.paraid_base.specs.declared.state.Out.TheVariants.{No, Gone}
use Rattle.paraid_base.specs.declared.state.Phase.TheVariants.{Steady}
use Rattle.paraid_base.specs.History.{Entry, History}
use Rattle.paraid_base.specs.Log.{worn_at}
use Rattle.paraid_base.specs.Pairs.{single_pair, pairs_of}
use Rattle.paraid_base.specs.Xor.{zero_block}
use Rattle.paraid_rack.specs.declared.call.Call.{Call}
use Rattle.paraid_rack.specs.declared.call.Call.TheVariants.{Read, SpinUp, Attach}
use Rattle.paraid_rack.specs.declared.call.Power.{Power}
use Rattle.paraid_rack.specs.declared.call.Power.TheVariants.{Spinning, Parked, Absent}
use Rattle.paraid_rack.specs.Disks.{Disks, IsPresent, is_present, lose, step}
use Rattle.paraid_rack.proofs.AtomsLemmas.{with_at_same, with_at_other}
use Rattle.paraid_record.specs.declared.meta.Meta.{Meta}
use Rattle.paraid_record.specs.declared.meta.Setup.{Setup}
use Rattle.paraid_record.specs.Range.{IsInRange, has_out}
use Rattle.paraid_image.specs.RunStart.{IsRunStart}
use Rattle.paraid_image.specs.HeldAt.{IsHeld, IsSoundFrom, MayLose}
use Rattle.paraid_image.specs.Looked.IsLooked.{lost as lost_image}
use Rattle.paraid_image.specs.Out.{IsMissing, first_absent, named_out, or_else, out_disk}
use Rattle.paraid_image.specs.Power.{PowerState, gone_of, initial_state, out_after, out_state, phase_beside, power_of, state_by}
use Rattle.paraid_image.specs.Rest.{IsAtRest}
use Rattle.paraid_image.specs.Shown.{IsShown}
use Rattle.paraid_image.specs.Sides.{LogState, Says, closed_over}
use Rattle.paraid_image.specs.Sound.{LogOk}
use Rattle.paraid_image.specs.Spot.{rising_to}
use Rattle.paraid_image.specs.Standing.{Stands}
use Rattle.paraid_image.proofs.HeldLemmas.{image_of_synced}
use Rattle.paraid_image.proofs.LookedLemmas.{entry_of_weak, held_lost, weak_lost}
use Rattle.paraid_image.proofs.OutLemmas.{missing_is_out}
use Rattle.paraid_image.proofs.CallLemmas.{says_of_lost}
use Rattle.paraid_machine.specs.Machine.{IsEventStep, Outcomes, around_loss, block_count, blocks_named, first_missing, if_alone, outcomes, serve}
use Rattle.paraid_machine.specs.Moves.{all_written, with_one_served, after_loss}
use Rattle.paraid_session.specs.Mount.{IsBegun, IsMounted, start_watch, mount_bounds}
use Rattle.paraid_session.specs.Mount.BeginsSession.{quietly}
use Rattle.paraid_session.specs.Mount.IsBase.{alone}
use Rattle.paraid_session.specs.Turn.{IsMark, IsTurn, Point, bounds_of, watch_of}
use Rattle.paraid_session.specs.Turn.IsTurn.{answered}
use Rattle.paraid_session.specs.Watch.{IsAllowed, HoldsWhileServing, Watch, down_from_out, nobody, only, watch, with_down}
use Rattle.paraid_session.proofs.CalmLemmas.{IsCalm, calm_within, says_meta, used_is}
use Rattle.paraid_session.proofs.PointLemmas.{IsCalmState, IsWhole, calm_kept, calm_mark, calm_more, may_lose, point}

-- a write of zeros to the first block
abbrev pub zeros : Pairs
zeros = single_pair 0 zero_block

-- the state after it
abbrev pub after_write : Meta → PowerState → PowerState
after_write m s = with_one_served (all_written m.setup.geometry.disks (blocks_named (pairs_of zeros)) s)

served : (missing : Option ℕ) (s : PowerState) (f : PowerState → Answer × PowerState) → missing ≡ None → Contains (serve missing None s f) (f s)
served missing s f is = rw is (0, omega arith, refl)

lost_first : (o : Out) (os : Outcomes) (it : Answer × PowerState) → o ≡ No → Contains os it → Contains (if_alone o 2 os) it
lost_first o os it is among = rw is among

served_lost : (missing : Option ℕ) (s : PowerState) (f : PowerState → Answer × PowerState) → missing ≡ None → s.out ≡ No → Contains (serve missing (Some 2) s f) (f (after_loss s 2))
served_lost missing s f is out = rw is (lost_first s.out (around_loss 2 s f) (f (after_loss s 2)) out (0, omega arith, refl))

positive : (a b : ℕ) → 1 ≤ a → 1 ≤ b → 0 < a * b
positive zero b low other = absurd (omega (arith, low))
positive (suc a) b low other = grind (arith)

there_is : (n : ℕ) → 0 < n → ◌≡◌ {A = Option ℕ} (if nat_lt 0 n then None else Some 0) None
there_is n l = let is : nat_lt 0 n ≡ true = grind (arith, nat_tests) in rw is refl

none_missing : (setup : Setup) → first_missing (block_count setup) (blocks_named (pairs_of zeros)) ≡ None
unfolding pairs_of single_pair
none_missing setup =
    let rows = setup.geometry.rows_low in
    let disks = setup.geometry.disks_low in
    there_is (block_count setup) (positive setup.geometry.rows (setup.geometry.disks - 1) rows (omega (arith, disks)))

write_step : (m : Meta) (h : History) (used : ℕ) (s : PowerState) → IsEventStep m.setup h used s (Write zeros) None (Wrote (length h + 1)) (after_write m s)
unfolding outcomes
write_step m h used s = record { among = served _ s _ (none_missing m.setup) }

lossy_step : (m : Meta) (h : History) (used : ℕ) (s : PowerState) → s.out ≡ No → IsEventStep m.setup h used s (Write zeros) (Some 2) (Wrote (length h + 1)) (after_write m (after_loss s 2))
unfolding outcomes
lossy_step m h used s out = record { among = served_lost _ s _ (none_missing m.setup) out }

no_bad : Write zeros ≢ Bad
no_bad e = cc

write_calm : (m : Meta) (s : PowerState) → IsCalmState m s → IsCalmState m (after_write m s)
unfolding pairs_of single_pair
write_calm m s c = record { gear = c.gear; phase = c.phase; fill = c.fill; out = c.out; spins = c.spins; ticks = c.ticks }

-- the entry of the write
abbrev pub entry : Entry
entry = pairs_of zeros

-- disk 2 is gone, and else the state shows the meta
pub record IsGoneState (m : Meta) (s : PowerState) : Type 0 where
  pub gear : s.gear ≡ m.gear
  pub phase : s.phase ≡ Steady
  pub fill : ◌≡◌ {A = ℕ} s.fill 0
  pub out : s.out ≡ Gone 2
  pub spins : s.spins ≡ m.spins
  pub ticks : s.ticks ≡ m.ticks

module _ (slots : ℕ) (t : Disks) (m : Meta) (h : History) (lo : ℕ) (calm : IsCalm slots t m h lo None) (all : IsWhole t m) (s : PowerState) (c : IsCalmState m s)
    (small : max m.epoch (length h) < worn_at) where
  abbrev longer : IsCalm slots t m (h ++ entry ∷ []) lo None
  longer = calm_more slots t m h (entry ∷ []) lo None calm

  abbrev p : Point
  p = point t m h lo s

  nobody_is : down_from_out (named_out s.out) ≡ nobody
  nobody_is = ap (λ (o : Out). down_from_out (named_out o)) c.out

  kept_first : HoldsWhileServing slots (h ++ entry ∷ []) lo (bounds_of m.setup p (Write zeros)) (watch_of p (Write zeros) (Wrote (length h + 1)))
  kept_first = calm_kept slots t m (h ++ entry ∷ []) lo longer all _ _ refl nobody_is (λ d. refl) refl (omega arith) (omega (arith, c.ticks))

  -- The write is accepted, and makes no call.
  pub write_turn : IsTurn slots m.setup p (Write zeros) (Wrote (length h + 1)) [] (point t m (h ++ entry ∷ []) lo (after_write m s))
  write_turn = answered refl no_bad (record {
    fit = λ e. small;
    machine = write_step m h 0 s;
    moments = kept_first;
    once = omega arith;
    attached = λ is. absurd (false≢true is);
    ups = λ d low. omega arith;
    quiet = λ q none. refl;
    serving = rw nobody_is tt;
    mark = calm_mark slots t m (h ++ entry ∷ []) lo longer all (after_write m s) (write_calm m s c);
    carried = λ is none. absurd (false≢true is);
    brought = λ moved. absurd (moved refl);
    named = λ d was is moved. absurd (moved refl);
    flushed = λ f. absurd (false≢true f);
    disks = refl;
    history = refl;
    low = refl;
    energy = refl;
    spun = refl;
    awaited = refl;
    going = refl;
  })

  abbrev less : Disks
  less = lose 2 t

  low_two : 2 < m.setup.geometry.disks
  low_two = let n = m.setup.geometry.disks_low in omega (arith, n)

  -- what is held with disk 2 lost, for this history or the longer one
  module _ (g : History) (with_g : IsCalm slots t m g lo None) where
    may : MayLose t 2
    may = may_lose slots t m g lo with_g all 2 low_two

    held_less : IsHeld slots less g lo (Some 2)
    held_less = held_lost slots t t g lo 2 None (image_of_synced t with_g.synced) may with_g.held

    sound_less : IsSoundFrom slots less g lo
    sound_less = with_g.held.lost t 2 (image_of_synced t with_g.synced) may

    abbrev log_less : LogOk less sound_less.sound.disk sound_less.sound.said sound_less.k
    log_less = sound_less.sound.log

    said_less : sound_less.sound.said ≡ closed_over m
    said_less = says_meta slots t m g lo None with_g sound_less.sound.disk sound_less.sound.said log_less.stands.log_disk
        (says_of_lost t 2 sound_less.sound.disk sound_less.sound.said log_less.stands.says)

    log_now : LogOk less sound_less.sound.disk (closed_over m) m.writes
    log_now = subst (λ (z : LogState). LogOk less sound_less.sound.disk z z.meta.writes) said_less
        (subst (λ (k : ℕ). LogOk less sound_less.sound.disk sound_less.sound.said k) (sym log_less.writes) log_less)

    says_here : (x : ℕ) → x < 2 → IsPresent less x → Says less x (closed_over m)
    says_here x low there =
        let formed = log_now.formed x low there (not_out_less x there) in
        subst (λ (z : LogState). Says less x z) (says_meta slots t m g lo None with_g x formed.0 low (says_of_lost t 2 x formed.0 formed.1)) formed.1
      where
        not_out_less : (x : ℕ) → IsPresent less x → out_disk less.power m ≢ Some x
        not_out_less x there e =
            let two = missing_is_out less.power m 2 in_range_of log_now.single gone_two gone in
            let same : 2 ≡ x = some_same 2 x (sym two ∙ e) in
            false≢true (sym gone ∙ ap (λ (y : ℕ). is_present (less.power y)) same ∙ there)
          where
            in_range_of : IsInRange m
            in_range_of = (log_now.stands.says.log).meta.in_range

            gone : is_present (less.power 2) ≡ false
            gone = ap is_present (with_at_same t.power 2 Absent 2 refl)

            gone_two : IsMissing less.power m 2
            gone_two = record { disk = low_two; is = inl gone }

            some_same : (a b : ℕ) → Some a ≡ Some b → a ≡ b
            some_same a b e = cc

    gone : is_present (less.power 2) ≡ false
    gone = ap is_present (with_at_same t.power 2 Absent 2 refl)

    out_less : out_disk less.power m ≡ Some 2
    out_less = missing_is_out less.power m 2 (log_now.stands.says.log).meta.in_range log_now.single (record { disk = low_two; is = inl gone }) gone

    first_less : first_absent less.power m.setup.geometry.disks ≡ Some 2
    first_less = sym (ap (λ (o : Option ℕ). or_else o (first_absent less.power m.setup.geometry.disks)) (ap named_out calm.no_out)) ∙ out_less

    state_less : out_state less.power m ≡ Gone 2
    state_less = ap (λ (o : Out). out_after o less.power (first_absent less.power m.setup.geometry.disks)) calm.no_out ∙ ap gone_of first_less

    rest_less : IsAtRest less m
    rest_less = record {
      synced = λ d p here. with_g.synced d p;
      disk = sound_less.sound.disk;
      log = log_now;
      shut = λ x low here not. (says_here x low here).gate;
    }

    calm_less : IsCalm slots less m g lo (Some 2)
    calm_less = record { held = held_less; rest = rest_less; synced = with_g.synced; no_out = calm.no_out; steady = calm.steady }

    -- a state in which disk 2 is gone, and that shows the meta else
    shown_less : (q : PowerState) → IsGoneState m q → IsShown q (initial_state less (closed_over m))
    unfolding state_by
    shown_less q c = record {
      gear = sym c.gear;
      phase = ap (λ (o : Out). phase_beside (has_out o) m.phase) state_less ∙ ap (phase_beside true) calm.steady ∙ sym c.phase;
      fill = ap (λ (o : Out). if has_out o then 0 else m.fill) state_less ∙ sym c.fill;
      out = state_less ∙ sym c.out;
      spins = sym c.spins;
    }

    powers_less : (q : PowerState) → IsGoneState m q → (d : ℕ) (power : Power) → d < m.setup.geometry.disks → power_of q d ≡ Some power → less.power d ≡ power
    powers_less q c d power low is = elim (cases_eq d 2) [
      | inl same ↦ let k : None ≡ Some power = sym (rw c.out (if_two d same)) ∙ is in cc
      | inr apart ↦ with_at_other t.power 2 Absent d apart ∙ all.spinning d low ∙ some_is Spinning power (sym (rw (c.out, c.gear) (if_other d apart low)) ∙ is)
    ]
      where
        if_two : (d : ℕ) → d ≡ 2 → (if d == 2 then None else Some (if nat_lt d q.gear || nat_lt d (rising_to q.phase) then Spinning else Parked)) ≡ None
        if_two d same = rw same refl

        if_other : (d : ℕ) → d ≢ 2 → d < m.setup.geometry.disks → (if d == 2 then None else Some (if nat_lt d m.gear || nat_lt d (rising_to q.phase) then Spinning else Parked)) ≡ Some Spinning
        if_other d apart low =
            let gear = all.gear in
            let not : (d == 2) ≡ false = grind (arith, nat_tests) in
            let by : nat_lt d m.gear ≡ true = grind (arith, nat_tests) in rw (not, by) refl

        some_is : (a b : Power) → Some a ≡ Some b → a ≡ b
        some_is a b e = cc

    pub mark_less : (q : PowerState) (spun : ℕ → ℕ) (awaited : Option ℕ) → IsGoneState m q → IsMark slots m.setup (record { disks = less; history = g; low = lo; meta = m; state = q; energy = 0; spun = spun; awaited = awaited; halt = None })
    mark_less q spun awaited c = record {
      held = subst (λ (o : Out). IsHeld slots less g lo (named_out o)) (sym c.out) held_less;
      rest = rest_less;
      same_setup = refl;
      counted_ticks = omega (arith, c.ticks);
      shown = shown_less q c;
      powers = powers_less q c;
      borne = λ x low names. let k : None ≡ Some x = sym (ap named_out calm.no_out) ∙ names in cc;
    }

  -- what a stop leaves then is an entry
  pub lossy_entry : IsRunStart slots less (h ++ entry ∷ []) lo (Some 2)
  lossy_entry =
      let weak = weak_lost slots t (h ++ entry ∷ []) lo 2 (longer.held.whole t (image_of_synced t calm.synced)) (may (h ++ entry ∷ []) longer) (sound_less (h ++ entry ∷ []) longer) in
      entry_of_weak slots t less (h ++ entry ∷ []) lo None 2 (lost_image t 2 (image_of_synced t calm.synced) (may (h ++ entry ∷ []) longer) refl) weak longer.held

  abbrev call : Call
  call = Read 2 101 false

  abbrev watch_first : Watch
  watch_first = watch_of p (Write zeros) (Wrote (length h + 1))

  -- the point after a write in which disk 2 is lost
  abbrev pub lossy_point : Point
  lossy_point = record {
    disks = less;
    history = h ++ entry ∷ [];
    low = lo;
    meta = m;
    state = after_write m (after_loss s 2);
    energy = 0;
    spun = λ d. slice_index m.spins d;
    awaited = None;
    halt = None;
  }

  gone_state : IsGoneState m (after_write m (after_loss s 2))
  unfolding pairs_of single_pair
  gone_state = record { gear = c.gear; phase = ap (phase_beside true) c.phase; fill = refl; out = refl; spins = c.spins; ticks = c.ticks }

  allowed : IsAllowed m.setup None watch_first call
  allowed = record {
    disk = low_two;
    power = all.spinning 2 low_two;
    attach = λ d size done e. let k : call ≡ Attach d size done = e in cc;
    awaited = λ e. let k : None ≡ Some 2 = e in cc;
    serving = λ d done e. let k : call ≡ SpinUp d done = e in cc;
    recorded = λ d done e. let k : call ≡ SpinUp d done = e in cc;
  }

  down_then : (watch call watch_first).down ≡ only 2
  down_then = ap (with_down 2) nobody_is

  kept_then : HoldsWhileServing slots (h ++ entry ∷ []) lo (bounds_of m.setup p (Write zeros)) (watch call watch_first)
  unfolding step
  kept_then = record {
    held = rw down_then (held_less (h ++ entry ∷ []) longer);
    within = λ serving. calm_within slots less m (h ++ entry ∷ []) lo (Some 2) (calm_less (h ++ entry ∷ []) longer) _ _ refl (omega arith) (omega (arith, c.ticks)) (λ d. refl);
  }

  -- A write in which disk 2 is lost is accepted.
  pub lossy_turn : IsTurn slots m.setup p (Write zeros) (Wrote (length h + 1)) (call ∷ []) lossy_point
  unfolding step
  lossy_turn = answered refl no_bad (record {
    fit = λ e. small;
    machine = lossy_step m h 0 s c.out;
    moments = (kept_first, allowed, kept_then);
    once = omega arith;
    attached = λ is. absurd (false≢true is);
    ups = λ d low. omega arith;
    quiet = λ q none. absurd (false≢true q);
    serving = rw down_then tt;
    mark = mark_less (h ++ entry ∷ []) longer (after_write m (after_loss s 2)) _ _ gone_state;
    carried = λ is none. absurd (false≢true is);
    brought = λ moved. absurd (moved refl);
    named = λ d was is moved. absurd (moved refl);
    flushed = λ f. absurd (false≢true f);
    disks = refl;
    history = refl;
    low = refl;
    energy = refl;
    spun = refl;
    awaited = refl;
    going = refl;
  })

  -- the point with which the next run begins
  abbrev pub next_point : Point
  next_point = record {
    disks = less;
    history = h;
    low = lo;
    meta = m;
    state = record {
      gear = m.gear;
      phase = Steady;
      dirty = (initial_state less (closed_over m)).dirty;
      fill = 0;
      out = Gone 2;
      spins = m.spins;
      ticks = m.ticks;
      samples = [];
      served = 0;
    };
    energy = 0;
    spun = λ d. slice_index m.spins d;
    awaited = Some 2;
    halt = None;
  }

  next_gone : IsGoneState m next_point.state
  next_gone = record { gear = refl; phase = refl; fill = refl; out = refl; spins = refl; ticks = refl }

  next_ticks : m.ticks ≡ (initial_state less (closed_over m)).ticks
  unfolding state_by
  next_ticks = refl

  first_part : take lo (h ++ entry ∷ []) ≡ h → length h ≡ lo → m.writes ≡ lo → IsBegun slots less (closed_over m) (h ++ entry ∷ []) lo (Some 2) (λ d. slice_index m.spins d) [] next_point
  first_part cut full writes = record {
    disks = refl;
    low = omega arith;
    high = omega (arith, full, length-append h (entry ∷ []));
    history = sym cut;
    mark = mark_less h calm next_point.state _ _ next_gone;
    writes = sym writes;
    ticks = refl;
    dirty = λ r d l. refl;
    state = quietly refl (sym writes) (record { beginning = record { shows = shown_less h calm next_point.state next_gone; ticks = next_ticks; samples = refl; served = refl }; dirty = λ r d l. refl });
    energy = refl;
    spun = refl;
    awaited = refl;
    going = refl;
  }

  -- the log disk that stands can not be lost beside disk 2
  lost_alone : (x : ℕ) → x < 2 → MayLose less x → ⊥
  lost_alone x low again =
      let weak = weak_lost slots t h lo 2 (calm.held.whole t (image_of_synced t calm.synced)) (may h calm) (sound_less h calm) in
      let same : 2 ≡ x = again.weak 2 weak in omega (arith, same, low)

  kept_next : HoldsWhileServing slots (h ++ entry ∷ []) lo (mount_bounds (closed_over m) m.ticks) (start_watch less (Some 2) (λ d. slice_index m.spins d))
  kept_next = record {
    held = held_less (h ++ entry ∷ []) longer;
    within = λ serving. calm_within slots less m (h ++ entry ∷ []) lo (Some 2) (calm_less (h ++ entry ∷ []) longer) _ _ refl (omega arith) (omega arith) (λ d. refl);
  }

  -- The next run begins without disk 2, and with the writes that were kept.
  pub next_mount : length h ≡ lo → m.writes ≡ lo → (x : ℕ) (said : LogState) → Stands less x said → IsMounted slots less x said (h ++ entry ∷ []) lo (Some 2) [] (λ q. q ≡ next_point)
  next_mount full writes x said stands =
      let is : said ≡ closed_over m = says_meta slots t m h lo None calm x said stands.log_disk (says_of_lost t 2 x said stands.says) in
      subst (λ (z : LogState). IsMounted slots less x z (h ++ entry ∷ []) lo (Some 2) [] (λ q. q ≡ next_point)) (sym is) (record {
        mounting = record {
          base = λ d. slice_index m.spins d;
          ticks = m.ticks;
          is_base = alone (λ y other again stood. lost_alone x stands.log_disk again) (λ d. sym (used_is m less.power d calm.steady)) refl;
          moments = kept_next;
        };
        ends = inr (next_point, first_part (cut_first h lo full) full writes, refl);
      })
    where
      cut_first : (h : History) (lo : ℕ) → length h ≡ lo → take lo (h ++ entry ∷ []) ≡ h
      cut_first h lo full = ap (λ (n : ℕ). take n (h ++ entry ∷ [])) (sym full) ∙ take-append_seam h (entry ∷ [])
