-- The promise of a commit of a store, by its calls.
use Rattle.std.specs.Prelude.{◌≡◌, ◌≢◌, ℕ, ◌+◌, ◌-◌, ◌^◌, ◌<◌, ◌≤◌, Option, Some, Contains}
use Rattle.std.proofs.Common.{refl, sym, ◌∙◌, ap, arith}
use Rattle.paraid_base.specs.declared.block.Block.{Block}
use Rattle.paraid_base.specs.Log.{log_least}
use Rattle.paraid_rack.specs.declared.call.Power.TheVariants.{Spinning}
use Rattle.paraid_rack.specs.Disks.{Disks, IsPresent, is_present}
use Rattle.paraid_rack.specs.Slots.{Agrees, Slot}
use Rattle.paraid_rack.specs.Told.{Ran, CrashTriple}
use Rattle.paraid_rack.specs.Trail.{Trail, now, run}
use Rattle.paraid_record.specs.declared.meta.Meta.{Meta}
use Rattle.paraid_record.specs.declared.targets.Target.{Target}
use Rattle.paraid_record.specs.Range.{IsInRange}
use Rattle.paraid_image.specs.Rest.{IsAtRest}
use Rattle.paraid_txn.specs.Commit.{EndsCommitted, IsNext, IsOldOrNew, IsWholeOrAbsent, LeavesBorne, gone_out}
use Rattle.paraid_txn.specs.Losses.{CanWrite}
use Rattle.paraid_image.specs.Out.{named_out}
use Rattle.paraid_txn.specs.Ready.{AreTargetsReady, IsLogReady}
use Rattle.paraid_image.specs.Sides.{Batch, targets}
use Rattle.paraid_txn.specs.CommitStages.{FirstStage, HoldsWitnessed, IsSpelled, Job, LastStage, LogStage, job}
use Rattle.paraid_txn.proofs.WitnessCallLemmas.{told_calls}
use Rattle.paraid_txn.proofs.CommitLemmas.{first_stage, is_committed, start_log, whole_images}
use Rattle.paraid_txn.proofs.RanLemmas.{ran_from, through_milder}
use Rattle.paraid_txn.proofs.SpokenLemmas.{IsBegun}
use Rattle.paraid_txn.proofs.CommitImagesLemmas.{all_contained}

-- a meta with the next epoch is in range
pub next_in_range : (m : Meta) (e : ℕ) → IsInRange m → e < 2 ^ 64 - 1 → IsInRange (record m { epoch = e + 1 })
next_in_range m e range low = record {
  setup = range.setup;
  version = range.version;
  counters = record { first = omega arith; epoch_fits = omega arith; writes_fit = range.counters.writes_fit; ticks_fit = range.counters.ticks_fit };
  gear = range.gear;
  phase = range.phase;
  out = range.out;
  shift = record { fill = range.shift.fill; down = range.shift.down; still = range.shift.still };
  eight = range.eight;
  spins = λ disk lt. let s = range.spins disk lt in record { within = s.within; parked = s.parked; unused = s.unused };
}

-- the disks with which a commit begins have what it asks of the slots
pub record IsStartReady (meta : Meta) (batch : Batch) (start : Disks) : Type 0 where
  pub large : (x : ℕ) → x < 2 → named_out meta.out ≢ Some x → IsPresent start x → log_least ≤ start.size x
  pub spins : (t : Target) → Contains (targets batch) t → gone_out meta.out ≢ Some t.disk → IsPresent start t.disk → start.power t.disk ≡ Spinning

pub start_ready : (meta : Meta) (batch : Batch) (start : Disks) (slot : ℕ → Slot) (count : ℕ) → Agrees start slot → IsLogReady (named_out meta.out) slot
    → AreTargetsReady (gone_out meta.out) count slot (targets batch) → IsStartReady meta batch start
start_ready meta batch start slot count agrees log ready = record {
  large = λ x low not here.
      let within = (log.can x low not).within (ap is_present (sym (agrees.power x)) ∙ here) in
      let size = agrees.size x in
      omega arith;
  spins = λ t c not here.
      let can = (all_contained (λ (u : Target). (u.disk < count) × (gone_out meta.out ≢ Some u.disk → CanWrite slot u.disk u.place)) (targets batch) t ready c).1 not in
      agrees.power t.disk ∙ can.spins (ap is_present (sym (agrees.power t.disk)) ∙ here);
}

module _ (meta : Meta) (batch : Batch) (spelled list : Block) (turn : ℕ) (good : (start : Disks) → IsSpelled (job start meta batch spelled list turn))
    (old new : Option Trail) (ready : (s : Trail) → old ≡ Some s → IsStartReady meta batch (now s)) (before : Meta)
    (joins : (x : ℕ) → x < 2 → named_out before.out ≡ Some x → named_out meta.out ≢ Some x → turn ≡ x) where
  abbrev it : Disks → Job
  it start = job start meta batch spelled list turn

  begun : (s : Trail) → old ≡ Some s → IsAtRest (now s) before → IsNext (now s) before meta → IsBegun (it (now s)) before
  begun s is rest next = record { good = good (now s); names = refl; rest = rest; next = next; joins_first = joins; spins = (ready s is).spins }

  first : (s : Trail) (is : old ≡ Some s) (rest : IsAtRest (now s) before) (next : IsNext (now s) before meta) → LogStage (it (now s)) 0 (now s)
  first s is rest next = start_log (it (now s)) before (begun s is rest next) (λ x live. (ready s is).large x live.0 live.1)

  begins : (s : Trail) (is : old ≡ Some s) (rest : IsAtRest (now s) before) (next : IsNext (now s) before meta) → FirstStage (it (now s)) before (now s)
  begins s is rest next = first_stage (it (now s)) before (begun s is rest next) (first s is rest next)

  pub whole_or_absent : ((start : Disks) → Ran old new (CrashTriple (HoldsWitnessed (it start) before) (FirstStage (it start) before) (HoldsWitnessed (it start) before)))
      → IsWholeOrAbsent old new before meta batch
  whole_or_absent ran t tells =
      let r = ran_from (λ start. HoldsWitnessed (it start) before) (λ start. FirstStage (it start) before) (λ start. HoldsWitnessed (it start) before) old new ran t tells in
      record {
        from = r.from;
        was = r.was;
        calls = r.calls;
        is = r.is;
        holds = λ rest next.
            through_milder (HoldsWitnessed (it (now r.from)) before) (IsOldOrNew (now r.from) before meta batch)
            (λ s moment. whole_images (it (now r.from)) before (begun r.from r.was rest next) s moment.whole moment.witnesses)
            (now r.from) r.calls (r.holds (begins r.from r.was rest next)).0;
      }

  pub commits : Ran old new (λ s cs. LeavesBorne s (run s cs) (named_out meta.out))
      → ((start : Disks) → Ran old new (CrashTriple (HoldsWitnessed (it start) before) (FirstStage (it start) before) (LastStage (it start) before)))
      → EndsCommitted old new before meta batch
  commits leaves ran t tells =
      let r = ran_from (λ start. HoldsWitnessed (it start) before) (λ start. FirstStage (it start) before) (λ start. LastStage (it start) before) old new ran t tells in
      record {
        from = r.from;
        was = r.was;
        calls = r.calls;
        is = r.is;
        holds = λ rest next.
            let last = (r.holds (begins r.from r.was rest next)).1 in
            is_committed (it (now r.from)) before (begun r.from r.was rest next) (run (now r.from) r.calls) last.stage last.witnesses
            (told_calls leaves tells r.was r.is);
      }
