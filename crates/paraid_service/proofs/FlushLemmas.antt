-- Which flushes are kept, and how many writes they keep.
use Rattle.std.proofs.Common.{◌≡◌, ℕ, ◌≤◌, List, [], ◌∷◌, ◌++◌, ◌∙◌, length, refl, ap, subst, arith, inl, inr, append_assoc}
use Rattle.std.specs.Prelude.{◌⊎◌, All}
use Rattle.paraid_base.specs.declared.event.Answer.TheVariants.{Flushed as FlushedAnswer}
use Rattle.paraid_base.specs.declared.event.Event.{Event}
use Rattle.paraid_base.specs.declared.event.Event.TheVariants.{Flush as FlushEvent}
use Rattle.paraid_base.specs.declared.event.Answer.{Answer}
use Rattle.paraid_base.specs.BlockAnswers.{Answers}
use Rattle.std.proofs.lemmas.List.Elements.{All-head, All-tail}
use Rattle.paraid_base.specs.History.{History}
use Rattle.paraid_volume.specs.Lives.{IsFlushedBy, VolAnswer, VolCall, VolLog, VolumeStep, flush as FlushCall, flushed, creates, deletes, reads, writes, flushes, refuses}
use Rattle.paraid_volume.specs.States.{VolumeState}
use Rattle.paraid_volume_lines.specs.Grammar.{VolLine, bad, create, delete, flush, init, list, read, write}
use Rattle.paraid_service.specs.VolumeLines.{Held, IsCallOf, LineStep}
use Rattle.paraid_service.specs.VolumeLines.IsCallOf.{creates as CallCreates, deletes as CallDeletes, flushes as CallFlushes, reads as CallReads, writes as CallWrites}
use Rattle.paraid_service.specs.VolumeLines.LineStep.{begins, calls, is_already, is_bad, is_small, lists, no_table, unknown}
use Rattle.paraid_service.specs.VolumeSessions.{AreFlushedWithin, AreFlushesKept, HasEvent, HasNoFlush, LeavesFlushed, LeavesVolumes}

-- ---- events and more

pub event_later : (events more : Answers) (e : Event × Answer) → HasEvent events e → HasEvent (events ++ more) e
event_later events more e h = record { before = h.before; after = h.after ++ more; parts = ap (λ (x : Answers). x ++ more) h.parts ∙ append_assoc h.before (e ∷ h.after) more }

pub event_last : (events : Answers) (e : Event × Answer) → HasEvent (events ++ e ∷ []) e
event_last events e = record { before = events; after = []; parts = refl }

pub flushes_later : (log : VolLog) (events more : Answers) → AreFlushesKept log events → AreFlushesKept log (events ++ more)
flushes_later [] events more k = tt
flushes_later (pair ∷ log) events more k = ((λ n is. event_later events more (FlushEvent, FlushedAnswer n) (k.0 n is)), flushes_later log events more k.1)

pub flushes_append : (log more : VolLog) (events : Answers) → AreFlushesKept log events → AreFlushesKept more events → AreFlushesKept (log ++ more) events
flushes_append [] more events k l = l
flushes_append (pair ∷ log) more events k l = (k.0, flushes_append log more events k.1 l)

flushed_same : (n m : ℕ) → flushed n ≡ flushed m → n ≡ m
flushed_same n m e = cc

pub flush_kept : (number : ℕ) (events : Answers) → AreFlushesKept ((FlushCall, flushed number) ∷ []) (events ++ (FlushEvent, FlushedAnswer number) ∷ [])
flush_kept number events = ((λ n is. subst (λ (m : ℕ). HasEvent (events ++ (FlushEvent, FlushedAnswer number) ∷ []) (FlushEvent, FlushedAnswer m)) (flushed_same number n is) (event_last events (FlushEvent, FlushedAnswer number))), tt)

-- ---- other lines are no flush

call_is_flush : (count : ℕ) (s t : VolumeState) (call : VolCall) (answer : VolAnswer) (n : ℕ) → VolumeStep count s call answer t → answer ≡ flushed n → call ≡ FlushCall
call_is_flush count s _ _ _ n (creates text extents id spells unused some least room) is = cc
call_is_flush count s _ _ _ n (deletes id named) is = cc
call_is_flush count s _ _ _ n (reads id v there) is = cc
call_is_flush count s _ _ _ n (writes id v bytes there) is = cc
call_is_flush count s _ _ _ n (flushes number) is = refl
call_is_flush count s _ _ _ n (refuses call fault why) is = cc

line_is_flush : (s : VolumeState) (line : VolLine) (call : VolCall) → IsCallOf s line call → call ≡ FlushCall → line ≡ flush
line_is_flush s _ _ (CallCreates name extents text same) is = cc
line_is_flush s _ _ (CallDeletes name id has) is = cc
line_is_flush s _ _ (CallReads name id block has) is = cc
line_is_flush s _ _ (CallWrites name id block bytes has) is = cc
line_is_flush s _ _ CallFlushes is = refl

pub no_flush : (count : ℕ) (s u : Held) (line : VolLine) (said : List ℕ) (log : VolLog) (events : Answers) → LineStep count s line said log u → (line ≡ flush → ⊥) → AreFlushesKept log events
no_flush count s u _ _ _ events is_bad not = tt
no_flush count s u line _ _ events (no_table l not_init not_bad none) not = tt
no_flush count s u _ _ _ events (is_small none small) not = tt
no_flush count s _ _ _ _ events (begins none large) not = tt
no_flush count s u _ _ _ events (is_already v some) not = tt
no_flush count s u line _ _ events (unknown v l name some about none) not = tt
no_flush count s _ line _ _ events (calls v w l call answer some is step) not = ((λ n e. absurd (not (line_is_flush v l call is (call_is_flush count v w call answer n step e)))), tt)
no_flush count s u _ _ _ events (lists v text some told) not = tt

pub flush_or_not : (line : VolLine) → (line ≡ flush) ⊎ (line ≡ flush → ⊥)
flush_or_not init = inr (λ e. cc)
flush_or_not (create name extents) = inr (λ e. cc)
flush_or_not (delete name) = inr (λ e. cc)
flush_or_not (read name block) = inr (λ e. cc)
flush_or_not (write name block bytes) = inr (λ e. cc)
flush_or_not flush = inl refl
flush_or_not list = inr (λ e. cc)
flush_or_not bad = inr (λ e. cc)

-- ---- and each keeps at most so many writes

pub within_low : (low : ℕ) (log : VolLog) (events : Answers) → AreFlushesKept log events → ((n : ℕ) → HasEvent events (FlushEvent, FlushedAnswer n) → n ≤ low) → AreFlushedWithin low log
within_low low [] events k each = tt
within_low low (pair ∷ log) events k each = ((λ n is. each n (k.0 n is)), within_low low log events k.1 each)

-- ---- what a stop leaves

within_rest : (low : ℕ) (done rest : VolLog) → AreFlushedWithin low (done ++ rest) → AreFlushedWithin low rest
within_rest low [] rest within = within
within_rest low (pair ∷ done) rest within = within_rest low done rest within.1

no_flush_later : (low k : ℕ) (rest : VolLog) → low ≤ k → AreFlushedWithin low rest → All (λ (pair : VolCall × VolAnswer). IsFlushedBy k pair → ⊥) rest → HasNoFlush rest
no_flush_later low k [] below within not = tt
no_flush_later low k (pair ∷ rest) below within not = (
  (λ n is. All-head (λ (x : VolCall × VolAnswer). IsFlushedBy k x → ⊥) pair rest not (n, is, (let few = within.0 n is in omega (arith, few, below)))),
  no_flush_later low k rest below within.1 (All-tail (λ (x : VolCall × VolAnswer). IsFlushedBy k x → ⊥) pair rest not),
)

pub leaves_flushed : (count start low : ℕ) (written : History) (log : VolLog) → LeavesVolumes count start low written log → (k : ℕ) → start ≤ k → low ≤ k → k ≤ length written → LeavesFlushed count start written k log
leaves_flushed count start low written log left k from below within =
    let l = left.left k from within in
    record {
      done = l.done;
      rest = l.rest;
      parts = l.parts;
      past = l.past;
      later = l.later;
      begins = l.begins;
      state = l.state;
      lived = l.lived;
      shows = l.shows;
      flushed_all = no_flush_later low k l.rest below (within_rest low l.done l.rest (subst (AreFlushedWithin low) l.parts left.flushed)) l.flushed_all;
    }
