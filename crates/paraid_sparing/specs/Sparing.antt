-- The events of a trace with its spares put in, and what is told of them.
use Rattle.std.specs.Prelude.{◌≡◌, ℕ, ◌-◌, ◌==◌, ◌&&◌, nat_le, nat_lt, Bool, true, false, List, [], ◌∷◌, ◌++◌, Option, Some, None, codes, decimal, if◌then◌else◌}
use Rattle.paraid_base.specs.declared.event.Answer.{Answer}
use Rattle.paraid_base.specs.declared.event.Answer.TheVariants.{NoFresh, Replaced, Shift, Ticked}
use Rattle.paraid_base.specs.declared.event.Event.{Event}
use Rattle.paraid_base.specs.declared.event.Event.TheVariants.{Replace, Tick}
use Rattle.paraid_base.specs.declared.fault.Halt.{Halt}
use Rattle.paraid_base.specs.declared.state.Out.{Out}
use Rattle.paraid_base.specs.declared.state.TickEvent.{TickEvent}
use Rattle.paraid_base.specs.declared.state.TickEvent.TheVariants.{Begun, Waiting}
use Rattle.paraid_base.specs.States.{gone_out}
use Rattle.paraid_record.specs.declared.meta.Setup.{Setup}
use Rattle.paraid_serve.specs.Stretch.{Turn}
use Rattle.paraid_session.specs.Turn.{IsTurn, Point}
use Rattle.paraid_spare.specs.Pools.{saturating_next}
use Rattle.paraid_sparing.specs.Texts.{spares_line}
use Rattle.paraid_trace.specs.Replies.{reply_of}

-- What is kept of the spares: how many are left, how many ticks each disk has waited, and how often
-- each slot was spun up. The counts stay at the end of their type.
pub record Stock : Type 0 where
  pub left : ℕ
  pub waits : ℕ → ℕ
  pub spins : ℕ → ℕ

-- What a run has of spares: how many ticks one waits, and the stock as it begins.
pub record Supply : Type 0 where
  pub wait : ℕ
  pub stock : Stock

-- the disk that is gone, where a spare is left and it has waited for so many ticks
abbrev pub due_of : ℕ → Stock → Option ℕ → Option ℕ
due_of wait k None = None
due_of wait k (Some d) = if nat_lt 0 k.left && nat_le wait (k.waits d) then Some d else None

-- the disk that is due where there is no halt, and none after one
abbrev pub unless_halted : Option Halt → Option ℕ → Option ℕ
unless_halted None due = due
unless_halted (Some halt) due = None

-- The disk for which a spare is put in before an event, with this halt and this disk out: before a
-- tick, where there is no halt.
abbrev pub due_when : ℕ → Stock → Option Halt → Out → Event → Option ℕ
due_when wait k halt out Tick = unless_halted halt (due_of wait k (gone_out out))
due_when wait k halt out event = None

-- a spare less; what was waited is forgotten
abbrev pub used : Stock → Stock
used k = record { left = k.left - 1; waits = λ d. 0; spins = k.spins }

-- the disks that come up in a shift, from the first of them to the one before the last number
abbrev pub rise_to : ℕ → ℕ → Option (ℕ × ℕ)
rise_to gear to = if nat_le gear to && nat_le to 8 then Some (gear, to) else None

-- the disks that come up where a tick has begun a shift up
abbrev pub begun_to : ℕ → TickEvent → Option (ℕ × ℕ)
begun_to gear (Begun to) = rise_to gear to
begun_to gear event = None

-- the disks that were spun up where an event is answered so
abbrev pub spun_by : Answer → Option (ℕ × ℕ)
spun_by (Shift gear to) = rise_to gear to
spun_by (Ticked report) = begun_to report.gear report.event
spun_by answer = None

-- the spin-ups of a slot, with one more for each disk of this range; a count stays at its greatest
-- value
abbrev pub spins_after : Option (ℕ × ℕ) → (ℕ → ℕ) → ℕ → ℕ
spins_after None spins d = spins d
spins_after (Some range) spins d =
    if nat_le range.0 d && nat_lt d range.1 then saturating_next 64 (spins d) else spins d

-- whether a tick waits for a disk
abbrev pub is_wait : TickEvent → Bool
is_wait Waiting = true
is_wait event = false

-- a tick that waits for a disk
abbrev pub is_waiting : Answer → Bool
is_waiting (Ticked report) = is_wait report.event
is_waiting answer = false

-- the ticks that were waited, after an answer that leaves this disk gone, or none
abbrev pub waits_after : Option ℕ → Bool → (ℕ → ℕ) → ℕ → ℕ
waits_after None waiting waits d = 0
waits_after (Some gone) true waits d = if d == gone then saturating_next 32 (waits d) else 0
waits_after (Some gone) false waits d = waits d

-- the ticks that were waited after an event, which a halt leaves as they are
abbrev pub waits_then : Option Halt → Option ℕ → Bool → (ℕ → ℕ) → ℕ → ℕ
waits_then None disk waiting waits d = waits_after disk waiting waits d
waits_then (Some halt) disk waiting waits d = waits d

-- the stock after an event of the trace that was answered so, with this halt and this disk out then
abbrev pub stock_when : Stock → Answer → Option Halt → Out → Stock
stock_when k answer halt out = record {
  left = k.left;
  waits = waits_then halt (gone_out out) (is_waiting answer) k.waits;
  spins = spins_after (spun_by answer) k.spins;
}

-- the line of a spare that was put in, after which so many are left; a halt is told as ever
abbrev pub spare_line : Answer → ℕ → List ℕ
spare_line (Replaced d) left =
    codes "spare " ++ decimal d ++ codes " left " ++ decimal left ++ codes "\n"
spare_line (NoFresh d) left =
    codes "sparefailed " ++ decimal d ++ codes " left " ++ decimal left ++ codes "\n"
spare_line answer left = reply_of answer

-- An event of a trace is answered by these turns of a session and told by this text: by itself
-- where no spare is due before it, and else after the spare.
pub data AnswersLine (slots : ℕ) (setup : Setup) (wait : ℕ)
    (p : Point) (k : Stock) (event : Event) : List Turn → List ℕ → Point → Stock → Type 0 where
  alone : (t : Turn) (q : Point) → due_when wait k p.halt p.state.out event ≡ None → t.event ≡ event
      → IsTurn slots setup p t.event t.answer t.calls q → AnswersLine slots setup wait p k event
      (t ∷ []) (reply_of t.answer) q (stock_when k t.answer q.halt q.state.out)
  spared : (d : ℕ) (s t : Turn) (mid q : Point) → due_when wait k p.halt p.state.out event ≡ Some d
      → s.event ≡ Replace d → IsTurn slots setup p s.event s.answer s.calls mid
      → t.event ≡ event → IsTurn slots setup mid t.event t.answer t.calls q
      → AnswersLine slots setup wait p k event (s ∷ t ∷ []) (spare_line s.answer (k.left - 1)
      ++ reply_of t.answer) q (stock_when (used k) t.answer q.halt q.state.out)

-- The events of a trace, one after the other.
pub data AnswersTrace (slots : ℕ) (setup : Setup) (wait : ℕ) (p : Point) (k : Stock) : List Event
    → List Turn → List ℕ → Point → Stock → Type 0 where
  none : AnswersTrace slots setup wait p k [] [] [] p k
  more : (events : List Event) (turns : List Turn) (text : List ℕ) (mid : Point) (j : Stock)
      → AnswersTrace slots setup wait p k events turns text mid j
      → (event : Event) (ts : List Turn) (line : List ℕ) (q : Point) (i : Stock)
      → AnswersLine slots setup wait mid j event ts line q i
      → AnswersTrace slots setup wait p k (events ++ event ∷ []) (turns ++ ts) (text ++ line) q i

-- the line that tells the spares left and the spin-ups of each slot
abbrev pub stock_line : Stock → Setup → List ℕ
stock_line k setup = spares_line k.left k.spins setup.geometry.disks
