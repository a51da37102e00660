-- The events of a session that call the core once.
use Rattle.std.proofs.Common.{◌≡◌, ◌≢◌, ℕ, ◌+◌, ◌<◌, ◌≤◌, Bool, true, false, List, [], ◌∷◌, ◌++◌, length, Option, Some, None, refl, sym, ap, ◌∙◌, subst, arith, min, if◌then◌else◌}
use Rattle.std.specs.Prelude.{◌&&◌, nat_le, nat_lt, Contains, All}
use Rattle.std.proofs.lemmas.Bool.{false≢true}
use Rattle.std.proofs.lemmas.Bool.Decides.{nat_tests}
use Rattle.std.proofs.lemmas.List.{append-nil}
use Rattle.std.proofs.lemmas.List.Elements.{All-head, All-tail}
use Rattle.paraid_base.specs.Cells.{home_disk, home_row}
use Rattle.paraid_base.specs.declared.block.Block.{Block}
use Rattle.paraid_base.specs.declared.event.Answer.{Answer}
use Rattle.paraid_base.specs.declared.event.Answer.TheVariants.{Value, Wrote, Flushed, State as IsState, Energy as EnergyUsed}
use Rattle.paraid_base.specs.declared.event.Event.{Event}
use Rattle.paraid_base.specs.declared.event.Event.TheVariants.{Read, Write, Flush, State as AskState, Energy as AskEnergy, Bad}
use Rattle.paraid_base.specs.declared.pairs.Pairs.{Pairs}
use Rattle.paraid_base.specs.History.{Entry, History, after_all}
use Rattle.paraid_base.specs.Log.{worn_at}
use Rattle.paraid_base.specs.Pairs.{pairs_of}
use Rattle.paraid_base.specs.States.{has_out, named_out}
use Rattle.paraid_base.specs.BlockAnswers.{accepted_write}
use Rattle.paraid_dirty.specs.Table.{is_dirty}
use Rattle.paraid_rack.specs.declared.call.Call.{Call}
use Rattle.paraid_rack.specs.Disks.{Disks}
use Rattle.paraid_rack.specs.Told.{Ran}
use Rattle.paraid_rack.specs.Trail.{Trail, now, run}
use Rattle.paraid_rack.proofs.TrailsLemmas.{Ran-none, now-extend}
use Rattle.paraid_record.specs.declared.meta.Meta.{Meta}
use Rattle.paraid_record.specs.declared.meta.Setup.{Setup}
use Rattle.paraid_record.specs.Modes.{is_access}
use Rattle.paraid_image.specs.Power.{PowerState}
use Rattle.paraid_image.specs.Spot.{rising_to}
use Rattle.paraid_machine.specs.Machine.{IsEventStep, around, block_count, blocks_named, first_missing, outcomes, state_status}
use Rattle.paraid_machine.specs.Moves.{all_written, block_read, block_written, state_with_bit, with_one_served}
use Rattle.paraid_session.specs.Turn.{GoesOn, Point, awaited_by, bounds_at, bounds_of, is_flush, may_halt, point_wear, watch_of}
use Rattle.paraid_session.specs.Turn.IsTurn.{answered}
use Rattle.paraid_session.specs.Watch.{Bounds, HoldsWhileServing, IsServing, Watch, down_from_out, first_lost}
use Rattle.paraid_session.specs.Resting.{watch_at}
use Rattle.paraid_event.proofs.ApartLemmas.{energy_not_bad, flush_not_bad, read_not_bad, state_not_bad, write_not_bad}
use Rattle.paraid_event.specs.Counts.{CountsFlushed, CountsServed, with_counts_of}
use Rattle.paraid_event.specs.Parts.{AreEventCalls, EndsEvent, ServesEvent}
use Rattle.paraid_event.specs.Service.{IsStateOf, Service}
use Rattle.paraid_event.specs.Stands.{StandsAt}
use Rattle.paraid_machine.specs.Energy.{energy_of}
use Rattle.paraid_image.specs.Shown.{with_flush}
use Rattle.paraid_event.proofs.PointLemmas.{stands_resting}
use Rattle.paraid_event.proofs.MarksLemmas.{still_named}
use Rattle.paraid_event.proofs.TurnLemmas.{lost_among, dirty_shown, lost_named, marks, state_after, state_then, turn, TellsNeither}

-- but for the dirty cells it is the same state
pub record IsSameBesideDirty (s t : PowerState) : Type 0 where
  pub gear : t.gear ≡ s.gear
  pub phase : t.phase ≡ s.phase
  pub fill : t.fill ≡ s.fill
  pub out : t.out ≡ s.out
  pub spins : t.spins ≡ s.spins
  pub ticks : t.ticks ≡ s.ticks
  pub samples : t.samples ≡ s.samples
  pub served : t.served ≡ s.served

self_beside : (s : PowerState) → IsSameBesideDirty s s
self_beside s = record { gear = refl; phase = refl; fill = refl; out = refl; spins = refl; ticks = refl; samples = refl; served = refl }

bit_beside : (s : PowerState) (r d : ℕ) (bit : Bool) → IsSameBesideDirty s (state_with_bit s r d bit)
bit_beside s r d bit = record { gear = refl; phase = refl; fill = refl; out = refl; spins = refl; ticks = refl; samples = refl; served = refl }

then_beside : (s t u : PowerState) → IsSameBesideDirty s t → IsSameBesideDirty t u → IsSameBesideDirty s u
then_beside s t u a b = record {
  gear = b.gear ∙ a.gear;
  phase = b.phase ∙ a.phase;
  fill = b.fill ∙ a.fill;
  out = b.out ∙ a.out;
  spins = b.spins ∙ a.spins;
  ticks = b.ticks ∙ a.ticks;
  samples = b.samples ∙ a.samples;
  served = b.served ∙ a.served;
}

read_beside : (setup : Setup) (b : ℕ) (s : PowerState) → IsSameBesideDirty s (block_read setup b s)
read_beside setup b s = by (is_access setup.mode && nat_le s.gear (home_disk setup.geometry.disks b) && nat_lt (home_disk setup.geometry.disks b) (rising_to s.phase)) (has_out s.out)
  where
    by : (c o : Bool) → IsSameBesideDirty s (if c then (if o then s else state_with_bit s (home_row setup.geometry.disks b) (home_disk setup.geometry.disks b) false) else s)
    by true true = self_beside s
    by true false = bit_beside s (home_row setup.geometry.disks b) (home_disk setup.geometry.disks b) false
    by false o = self_beside s

all_beside : (n : ℕ) (bs : List ℕ) (s : PowerState) → IsSameBesideDirty s (all_written n bs s)
all_beside n [] s = self_beside s
all_beside n (b ∷ bs) s = then_beside s (block_written n b s) (all_written n bs (block_written n b s)) (record { gear = refl; phase = refl; fill = refl; out = refl; spins = refl; ticks = refl; samples = refl; served = refl }) (all_beside n bs (block_written n b s))

-- the state after a request that was served
served_state : (k k_then : Service) (change : PowerState → PowerState) → CountsServed k k_then change → ((s : PowerState) → IsSameBesideDirty s (change s)) → (s : PowerState) → IsStateOf (with_counts_of k_then k) s → IsStateOf k_then (with_one_served (change s))
served_state k k_then change counts beside s of = let e = beside s in record {
  gear = e.gear ∙ of.gear;
  phase = e.phase ∙ of.phase;
  fill = e.fill ∙ of.fill;
  out = e.out ∙ of.out;
  spins = e.spins ∙ of.spins;
  ticks = e.ticks ∙ of.ticks;
  dirty = λ r d low. sym (counts.dirty s of r d low);
  samples = e.samples ∙ of.samples ∙ sym counts.samples;
  served = ap (λ (n : ℕ). n + 1) (e.served ∙ of.served) ∙ sym counts.served;
}

flushed_state : (k k_then : Service) → CountsFlushed k k_then → (s : PowerState) → IsStateOf (with_counts_of k_then k) s → IsStateOf k_then s
flushed_state k k_then counts s of = record {
  gear = of.gear;
  phase = of.phase;
  fill = of.fill;
  out = of.out;
  spins = of.spins;
  ticks = of.ticks;
  dirty = λ r d low. of.dirty r d low ∙ ap (λ (t : List (List Bool)). is_dirty t r d) (sym counts.table);
  samples = of.samples ∙ sym counts.samples;
  served = of.served ∙ sym counts.served;
}

capped : (e u k : ℕ) → u ≡ k → e ≡ k → k ≤ 18446744073709551615 → e ≡ min (u + 0) 18446744073709551615
capped e u k same is fits = grind (arith)

below_test : (a b : ℕ) → a < b → nat_lt a b ≡ true
below_test a b l = grind (arith, nat_tests)

-- blocks that are there
pub one_missing_none : (setup : Setup) (block : ℕ) → block < block_count setup → first_missing (block_count setup) (block ∷ []) ≡ None
one_missing_none setup block there = let test : nat_lt block (block_count setup) ≡ true = below_test block (block_count setup) there in rw test refl

pub all_missing_none : (count : ℕ) (entry : Entry) → All (λ (pair : ℕ × Block). pair.0 < count) entry → first_missing count (blocks_named entry) ≡ None
all_missing_none count [] is = refl
all_missing_none count (pair ∷ entry) is =
    let test : nat_lt pair.0 count ≡ true = below_test pair.0 count (All-head (λ (x : ℕ × Block). x.0 < count) pair entry is) in
    rw test (all_missing_none count entry (All-tail (λ (x : ℕ × Block). x.0 < count) pair entry is))

some_of : (a b : Trail) → Some a ≡ Some b → a ≡ b
some_of a b e = cc

module _ (told told_then : Option Trail) (k k_then : Service) (setup : Setup) (p : Point) (at : StandsAt told k setup p) (h_then : History) (lo_then : ℕ) where
  -- what is told from one record to the next, from the point at which the array stood
  pub told_turn : (event : Event) (answer : Answer)
      → ((cs : List Call) → AreEventCalls k p.history p.low p.meta p.disks cs → EndsEvent k k_then h_then lo_then p.disks cs → ((t : Trail) → told_then ≡ Some t → now t ≡ run p.disks cs)
      → GoesOn k.slots setup p event answer (StandsAt told_then k_then setup) p.disks cs)
      → Ran told told_then (ServesEvent k k_then p.history p.low h_then lo_then) → Ran told told_then (GoesOn k.slots setup p event answer (StandsAt told_then k_then setup))
  told_turn event answer goes ran t tells =
      let r = ran t tells in
      let from : now r.from ≡ p.disks = at.disks r.from r.was in
      let holds = subst (λ (s : Disks). ServesEvent k k_then p.history p.low h_then lo_then s r.calls) from r.holds at.stands.keeps in
      let both = subst (λ (m : Meta). AreEventCalls k p.history p.low m p.disks r.calls × EndsEvent k k_then h_then lo_then p.disks r.calls) at.stands.is_base holds in
      let end : now t ≡ run p.disks r.calls = ap now r.is ∙ now-extend r.from r.calls ∙ ap (λ (s : Disks). run s r.calls) from in
      record {
        from = r.from;
        was = r.was;
        calls = r.calls;
        is = r.is;
        holds = goes r.calls both.0 both.1 (λ u u_tells. ap now (some_of u t (sym u_tells ∙ tells)) ∙ end);
      }

  module _ (cs : List Call) (part : AreEventCalls k p.history p.low p.meta p.disks cs) (ends : EndsEvent k k_then h_then lo_then p.disks cs) where
    -- a disk that is lost where one is out is the same
    same_disk : (d e : ℕ) → first_lost cs ≡ Some d → named_out p.state.out ≡ Some e → d ≡ e
    same_disk d e first out =
        let now_out = lost_named told k setup p at cs part k_then h_then lo_then ends d first in
        let was_out = still_named _ k.meta k_then.meta (marks told k setup p at cs part k_then h_then lo_then ends) e (sym (ap named_out at.state.out) ∙ out) in
        let z : Some d ≡ Some e = sym now_out ∙ was_out in cc

    pub among : (f : PowerState → Answer × PowerState) → Contains (around (first_lost cs) p.state f) (f (state_after p.state (first_lost cs)))
    among f = lost_among p.state (first_lost cs) f same_disk

  -- a read of one block
  module _ (block : ℕ) (bytes : Block) (fit : point_wear p < worn_at) (there : block < block_count setup) (is : bytes ≡ after_all p.history block) (counts : CountsServed k k_then (block_read setup block)) (same_history : h_then ≡ p.history) (low : p.low ≤ lo_then) where
    read_step : (cs : List Call) (part : AreEventCalls k p.history p.low p.meta p.disks cs) (ends : EndsEvent k k_then h_then lo_then p.disks cs)
        → IsEventStep setup p.history p.energy p.state (Read block) (first_lost cs) (Value block bytes) (with_one_served (block_read setup block (state_after p.state (first_lost cs))))
    unfolding outcomes
    read_step cs part ends = record {
      among = rw (one_missing_none setup block there, is) (among cs part ends (λ s. (Value block (after_all p.history block), with_one_served (block_read setup block s))));
    }

    pub read_turn : (cs : List Call) → AreEventCalls k p.history p.low p.meta p.disks cs → EndsEvent k k_then h_then lo_then p.disks cs → ((t : Trail) → told_then ≡ Some t → now t ≡ run p.disks cs)
        → GoesOn k.slots setup p (Read block) (Value block bytes) (StandsAt told_then k_then setup) p.disks cs
    read_turn cs part ends tells =
        turn told k setup p at cs part k_then h_then lo_then ends (Read block) (Value block bytes) told_then (with_one_served (block_read setup block (state_after p.state (first_lost cs))))
        refl refl (λ a. refl) (λ e. read_not_bad e) fit (read_step cs part ends)
        (served_state k k_then (block_read setup block) counts (read_beside setup block) _ (state_then told k setup p at cs part k_then h_then lo_then ends))
        (same_history ∙ sym (append-nil p.history)) low refl (λ f. absurd (false≢true f)) tells counts.slots counts.copies_synced (capped k_then.energy p.energy k.energy at.energy counts.energy at.fits) (refl, refl)

  -- a write of one to eight blocks
  module _ (pairs : Pairs) (fit : point_wear p < worn_at) (there : All (λ (pair : ℕ × Block). pair.0 < block_count setup) (pairs_of pairs)) (counts : CountsServed k k_then (all_written setup.geometry.disks (blocks_named (pairs_of pairs))))
      (longer : h_then ≡ p.history ++ pairs_of pairs ∷ []) (low : p.low ≤ lo_then) where
    write_step : (cs : List Call) (part : AreEventCalls k p.history p.low p.meta p.disks cs) (ends : EndsEvent k k_then h_then lo_then p.disks cs)
        → IsEventStep setup p.history p.energy p.state (Write pairs) (first_lost cs) (Wrote (length p.history + 1))
        (with_one_served (all_written setup.geometry.disks (blocks_named (pairs_of pairs)) (state_after p.state (first_lost cs))))
    unfolding outcomes
    write_step cs part ends = record {
      among = rw (all_missing_none (block_count setup) (pairs_of pairs) there) (among cs part ends (λ s. (Wrote (length p.history + 1), with_one_served (all_written setup.geometry.disks (blocks_named (pairs_of pairs)) s))));
    }

    pub write_turn : (cs : List Call) → AreEventCalls k p.history p.low p.meta p.disks cs → EndsEvent k k_then h_then lo_then p.disks cs → ((t : Trail) → told_then ≡ Some t → now t ≡ run p.disks cs)
        → GoesOn k.slots setup p (Write pairs) (Wrote (length p.history + 1)) (StandsAt told_then k_then setup) p.disks cs
    write_turn cs part ends tells =
        turn told k setup p at cs part k_then h_then lo_then ends (Write pairs) (Wrote (length p.history + 1)) told_then (with_one_served (all_written setup.geometry.disks (blocks_named (pairs_of pairs)) (state_after p.state (first_lost cs))))
        refl refl (λ a. refl) (λ e. write_not_bad e) fit (write_step cs part ends)
        (served_state k k_then (all_written setup.geometry.disks (blocks_named (pairs_of pairs))) counts (all_beside setup.geometry.disks (blocks_named (pairs_of pairs))) _ (state_then told k setup p at cs part k_then h_then lo_then ends))
        longer low refl (λ f. absurd (false≢true f)) tells counts.slots counts.copies_synced (capped k_then.energy p.energy k.energy at.energy counts.energy at.fits) (refl, refl)

  -- a flush, which keeps all writes
  module _ (fit : point_wear p < worn_at) (counts : CountsFlushed k k_then) (same_history : h_then ≡ p.history) (low : length p.history ≤ lo_then) where
    flush_step : (cs : List Call) (part : AreEventCalls k p.history p.low p.meta p.disks cs) (ends : EndsEvent k k_then h_then lo_then p.disks cs)
        → IsEventStep setup p.history p.energy p.state Flush (first_lost cs) (Flushed (length p.history)) (state_after p.state (first_lost cs))
    unfolding outcomes
    flush_step cs part ends = record { among = among cs part ends (λ s. (Flushed (length p.history), s)) }

    short : p.low ≤ length p.history
    short = let l = at.stands.keeps.copies.low in let m = at.stands.keeps.copies.high in omega (arith, l, m)

    flush_low : (a b c : ℕ) → a ≤ b → b ≤ c → (if nat_lt a b then b else a) ≤ c
    flush_low a b c x y = by (nat_lt a b)
      where
        by : (t : Bool) → (if t then b else a) ≤ c
        by true = y
        by false = omega (arith, x, y)

    pub flush_turn : (cs : List Call) → AreEventCalls k p.history p.low p.meta p.disks cs → EndsEvent k k_then h_then lo_then p.disks cs → ((t : Trail) → told_then ≡ Some t → now t ≡ run p.disks cs)
        → GoesOn k.slots setup p Flush (Flushed (length p.history)) (StandsAt told_then k_then setup) p.disks cs
    flush_turn cs part ends tells =
        turn told k setup p at cs part k_then h_then lo_then ends Flush (Flushed (length p.history)) told_then (state_after p.state (first_lost cs))
        refl refl (λ a. refl) (λ e. flush_not_bad e) fit (flush_step cs part ends)
        (flushed_state k k_then counts _ (state_then told k setup p at cs part k_then h_then lo_then ends))
        (same_history ∙ sym (append-nil p.history)) (flush_low p.low (length p.history) lo_then short low) refl
        (λ f. dirty_shown told k setup p at cs part k_then h_then lo_then ends (Flushed (length p.history)) Flush (state_after p.state (first_lost cs)) (flushed_state k k_then counts _ (state_then told k setup p at cs part k_then h_then lo_then ends)) counts.nothing_staged)
        tells counts.slots counts.copies_synced (capped k_then.energy p.energy k.energy at.energy counts.energy at.fits) (refl, refl)

-- what is asked of the state and of the energy makes no call
module _ (told : Option Trail) (k : Service) (setup : Setup) (p : Point) (at : StandsAt told k setup p) where
  energy_same : (u k : ℕ) → u ≡ k → k ≤ 18446744073709551615 → u ≡ min (u + 0) 18446744073709551615
  energy_same u k same fits = grind (arith)

  pub asked_turn : (event : Event) (answer : Answer) → watch_of p event answer ≡ watch_at p → bounds_of setup p event ≡ bounds_at setup p p.state → ((a : Option ℕ) → awaited_by answer a ≡ a) → event ≢ Bad → (may_halt event ≡ true → point_wear p < worn_at)
      → IsEventStep setup p.history p.energy p.state event None answer p.state → accepted_write event answer ≡ [] → with_flush p.low answer ≡ p.low → is_flush answer ≡ false → energy_of setup p.state answer ≡ 0 → TellsNeither answer
      → GoesOn k.slots setup p event answer (StandsAt told k setup) p.disks []
  asked_turn event answer starts bounds awaits not_bad fit machine none low not_flush no_energy neither =
      let rests = stands_resting told k setup p at in (
        p,
        answered at.going not_bad (record {
          fit = fit;
          machine = machine;
          moments = subst (λ (z : Bounds). HoldsWhileServing k.slots p.history p.low z (watch_of p event answer)) (sym bounds) (subst (HoldsWhileServing k.slots p.history p.low (bounds_at setup p p.state)) (sym starts) rests.kept);
          once = omega arith;
          attached = λ is. absurd (false≢true (sym neither.0 ∙ is));
          ups = λ d low. omega arith;
          quiet = λ quiet none. refl;
          serving = subst (λ (z : Watch). IsServing z.down) (sym starts) (serving_from (named_out p.state.out));
          mark = rests.mark;
          carried = λ is none. absurd (false≢true (sym neither.1 ∙ is));
          brought = λ moved. absurd (moved refl);
          named = λ d was is moved. absurd (moved refl);
          flushed = λ f. absurd (false≢true (sym not_flush ∙ f));
          disks = refl;
          history = sym (append-nil p.history) ∙ ap (λ (more : History). p.history ++ more) (sym none);
          low = sym low;
          energy = energy_same p.energy k.energy at.energy at.fits ∙ ap (λ (e : ℕ). min (p.energy + e) 18446744073709551615) (sym no_energy);
          spun = ap (λ (z : Watch). z.spun) (sym starts);
          awaited = ap (λ (z : Watch). z.awaited) (sym starts) ∙ sym (awaits (watch_of p event answer).awaited);
          going = at.going;
        }),
        at,
      )
    where
      serving_from : (o : Option ℕ) → IsServing (down_from_out o)
      serving_from None = tt
      serving_from (Some d) = tt

  state_step : IsEventStep setup p.history p.energy p.state AskState None (IsState (state_status setup (length p.history) p.state) setup.geometry.disks) p.state
  unfolding outcomes
  state_step = record { among = (0, omega arith, refl) }

  energy_step : IsEventStep setup p.history p.energy p.state AskEnergy None (EnergyUsed p.energy) p.state
  unfolding outcomes
  energy_step = record { among = (0, omega arith, refl) }

  pub no_call : (event : Event) (answer : Answer) → GoesOn k.slots setup p event answer (StandsAt told k setup) p.disks [] → Ran told told (GoesOn k.slots setup p event answer (StandsAt told k setup))
  no_call event answer goes = Ran-none (GoesOn k.slots setup p event answer (StandsAt told k setup)) (λ s. goes) told

  pub state_turn : Ran told told (GoesOn k.slots setup p AskState (IsState (state_status setup (length p.history) p.state) setup.geometry.disks) (StandsAt told k setup))
  state_turn = no_call AskState _ (asked_turn AskState _ refl refl (λ a. refl) (λ e. state_not_bad e) (λ asked. absurd (false≢true asked)) state_step refl refl refl refl (refl, refl))

  pub energy_turn : Ran told told (GoesOn k.slots setup p AskEnergy (EnergyUsed p.energy) (StandsAt told k setup))
  energy_turn = no_call AskEnergy _ (asked_turn AskEnergy _ refl refl (λ a. refl) (λ e. energy_not_bad e) (λ asked. absurd (false≢true asked)) energy_step refl refl refl refl (refl, refl))
