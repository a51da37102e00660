-- One part of a commit after another, where each leaves no disk unsynced.
use Rattle.std.proofs.Common.{◌≡◌, ℕ, Option, Result, Ok, Err, ◌∙◌}
use Rattle.std.specs.Prelude.{IsErrAnd}
use Rattle.std.proofs.lemmas.Result.{on_ok_weaker}
use Rattle.paraid_base.specs.declared.fault.Two.{Two}
use Rattle.paraid_rack.specs.declared.call.Call.{Call}
use Rattle.paraid_rack.specs.declared.rack.Rack.{Ghosts}
use Rattle.paraid_txn.specs.declared.losses.Losses.{Losses}
use Rattle.paraid_txn.specs.CommitPart.{CommitPart, SyncedPart}
use Rattle.paraid_txn.specs.Ready.{IsLogReady}
use Rattle.paraid_txn.proofs.CommitPartLemmas.{CommitPart_answer, CommitPart_log, CommitPart_raised, CommitPart_then, raised_ok}
use Rattle.paraid_txn.proofs.DownLemmas.{StaySyncedBut-both}

pub SyncedPart_then : {R A B : Type 0} {g : Ghosts R} {uses : Call → Type 0} {a b c : Losses} {r s t : R} {it : A} {result : Result B Two}
    → SyncedPart g uses a b r s (Ok it) → SyncedPart g uses b c s t result → SyncedPart g uses a c r t result
SyncedPart_then {g = g} {a = a} {b = b} {c = c} {r = r} {s = s} {t = t} {result = result} first second = record {
  slots = second.slots ∙ first.slots;
  part = CommitPart_then first.part second.part;
  still_synced = on_ok_weaker result (λ now. StaySyncedBut-both (λ d. ⊥) a b c (g.slot r) (g.slot s) (g.slot t) first.part.lasts second.part.lasts first.still_synced now) second.still_synced;
}

-- a part that gives up, and leaves what it may
pub SyncedPart_failed : {R A B : Type 0} {g : Ghosts R} {uses : Call → Type 0} {a b : Losses} {r s : R} {two : Two} (result : Result B Two)
    → IsErrAnd result (λ other. other ≡ two) → g.slot_count s ≡ g.slot_count r → CommitPart {A = A} g uses a b r s (Err two) → SyncedPart g uses a b r s result
SyncedPart_failed result is slots part = record { slots = slots; part = CommitPart_raised result is part; still_synced = raised_ok _ _ result is }

-- the same where a `?` hands on the error
pub SyncedPart_raised : {R A B : Type 0} {g : Ghosts R} {uses : Call → Type 0} {a b : Losses} {r s : R} {two : Two} (result : Result B Two)
    → IsErrAnd result (λ other. other ≡ two) → SyncedPart {A = A} g uses a b r s (Err two) → SyncedPart g uses a b r s result
SyncedPart_raised result is it = SyncedPart_failed result is it.slots it.part

-- and where it ends well with another value
pub SyncedPart_answer : {R A B : Type 0} {g : Ghosts R} {uses : Call → Type 0} {a b : Losses} {r s : R} {it : A} (any : B)
    → SyncedPart g uses a b r s (Ok it) → SyncedPart g uses a b r s (Ok any)
SyncedPart_answer any it = record { slots = it.slots; part = CommitPart_answer any it.part; still_synced = it.still_synced }

-- a part whose calls are of another kind too
pub SyncedPart_as : {R A : Type 0} {g : Ghosts R} {u v : Call → Type 0} {a b : Losses} {r s : R} {result : Result A Two}
    → (CommitPart g u a b r s result → CommitPart g v a b r s result) → SyncedPart g u a b r s result → SyncedPart g v a b r s result
SyncedPart_as is it = record { slots = it.slots; part = is it.part; still_synced = it.still_synced }

pub SyncedPart_log : {R A : Type 0} {g : Ghosts R} {a b : Losses} {r s : R} {result : Result A Two} {uses : Call → Type 0} {skip : Option ℕ}
    → SyncedPart g uses a b r s result → IsLogReady skip (g.slot r) → IsLogReady skip (g.slot s)
SyncedPart_log it ready = CommitPart_log it.part ready
