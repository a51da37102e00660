-- The lines of a session of volumes, as they are taken.
use Rattle.std.proofs.Common.{◌≡◌, ℕ, ◌^◌, ◌<◌, ◌≤◌, Bool, true, false, List, [], ◌∷◌, ◌++◌, length, take, IsTrue, Option, None, Result, Ok, Err, refl, sym, ap, ◌∙◌, arith, length-append}
use Rattle.std.proofs.lemmas.List.{append_assoc, append-nil}
use Rattle.std.proofs.lemmas.Bool.{false≢true}
use Rattle.paraid_base.specs.declared.block.Block.{Block}
use Rattle.paraid_base.specs.declared.fault.Halt.{Halt}
use Rattle.paraid_base.specs.Told.{Gives, GrowsByBytes, AtEnd, stream_most}
use Rattle.paraid_base.proofs.ToldLemmas.{Gives-none, Gives-then, GrowsByBytes-none, GrowsByBytes-then}
use Rattle.paraid_blocks.specs.declared.blocks.Blocks.{Ghosts}
use Rattle.paraid_io.specs.declared.line.Line.{Line}
use Rattle.paraid_io.specs.declared.line.Line.TheVariants.{Whole, Long}
use Rattle.paraid_io.specs.declared.line.LineFault.{LineFault}
use Rattle.paraid_io.specs.Lines.{lines_of, whole_lines}
use Rattle.paraid_io.specs.Reading.{IsNextLine, ReaderStep, Reading, fresh_reader}
use Rattle.paraid_serve.specs.Heard.{HearsLine}
use Rattle.paraid_serve.proofs.HearLemmas.{next_line}
use Rattle.paraid_serve.proofs.Sofar.{heard_end, heard_in_time}
use Rattle.paraid_trace.specs.LineEvents.{event_of}
use Rattle.paraid_volume_lines.specs.declared.asked.VolAsked.{VolAsked}
use Rattle.paraid_volume_lines.specs.declared.asked.VolAsked.TheVariants.{Bad as AskBad}
use Rattle.paraid_volume_lines.specs.Asked.{line_with}
use Rattle.paraid_volume_lines.specs.Grammar.{AsksVolumes}
use Rattle.paraid_volume_lines.specs.LineValues.{line_of}
use Rattle.paraid_volume_lines.proofs.LineLemmas.{asks_by, asks_long}
use Rattle.paraid_service.specs.declared.run.LinesEnd.TheVariants.{Done, Source, TooLong, Sink}
use Rattle.paraid_service.specs.declared.shelf.Shelf.{Shelf}
use Rattle.paraid_service.specs.LineEnds.{HearsAsked, ServesVolumeLines}
use Rattle.paraid_service.specs.LineRuns.{RunsLines, RunsOn}

-- ---- one line

heard_as : {before after : Option (List ℕ)} {old new : Reading} {r : Result Line LineFault} (s : ReaderStep before after old new r) (line : List ℕ) (bytes : Block) (asked : VolAsked) → IsNextLine (old.rest ++ s.got) line new → AsksVolumes line (line_with asked bytes)
    → HearsAsked before after old new bytes asked
heard_as {before} {after} {old} {new} {r} s line bytes asked next ask = record {
  event = event_of line;
  line = record {
    got = s.got;
    given = s.given;
    taken = s.taken;
    limit = s.limit;
    held = s.held;
    says = (line, refl, next);
    ended_before = s.ended_before;
    stays_ended = s.stays_ended;
    ended_now = s.ended_now;
  };
  asks = ask;
}

pub volumes_whole : {before after : Option (List ℕ)} {old new : Reading} {n : ℕ} (bytes : Block) (asked : VolAsked) → ReaderStep before after old new (Ok (Whole n)) → line_with asked bytes ≡ line_of new.line → HearsAsked before after old new bytes asked
volumes_whole {before} {after} {old} {new} {n} bytes asked s e = heard_as s new.line bytes asked (next_line (old.rest ++ s.got) new.line new s.answer.0) (asks_by new.line (line_with asked bytes) e)

pub volumes_long : {before after : Option (List ℕ)} {old new : Reading} {n : ℕ} (bytes : Block) → ReaderStep before after old new (Ok (Long n)) → HearsAsked before after old new bytes AskBad
volumes_long {before} {after} {old} {new} {n} bytes s = let a = s.answer in heard_as s a.0 bytes AskBad (next_line (old.rest ++ s.got) a.0 new a.1) (asks_long a.0 (omega (arith, a.2, a.3)))

-- ---- all lines so far

pub record Taken {B : Type 0} (g : Ghosts B) (start : B) (left_before left written_before written : Option (List ℕ)) (reader : Reading) (shelf : Shelf B g) (halt : Option Halt) : Type 0 where
  pub bytes : List ℕ
  pub answered : List (List ℕ)
  pub front : List ℕ
  pub reply : List ℕ
  pub given : Gives left_before left bytes
  -- whatever follows, the lines are those that were answered and those of what is left
  pub lines : (more : List ℕ) → (IsTrue reader.ended → more ≡ []) → lines_of (bytes ++ more) ≡ answered ++ lines_of (reader.rest ++ more)
  pub whole : reader.ended ≡ false → (more : List ℕ) → whole_lines (bytes ++ more) ≡ answered ++ whole_lines (reader.rest ++ more)
  pub at_end : IsTrue reader.ended → AtEnd left
  pub in_time : IsTrue reader.ended → reader.taken < stream_most
  pub fault : reader.fault ≡ None
  pub limit : reader.taken ≤ stream_most
  pub count : reader.taken ≡ length bytes
  pub grows : GrowsByBytes written_before written (front ++ reply)
  pub runs : RunsLines g start answered front reply shelf halt

-- the lines of all bytes, one line on
lines_more : (bytes got rest more : List ℕ) (lines ls : List (List ℕ)) (line : List ℕ) (f : List ℕ → List (List ℕ))
    → f (bytes ++ (got ++ more)) ≡ lines ++ f (rest ++ (got ++ more)) → f ((rest ++ got) ++ more) ≡ line ∷ ls → f ((bytes ++ got) ++ more) ≡ (lines ++ line ∷ []) ++ ls
lines_more bytes got rest more lines ls line f before cut =
    ap f (append_assoc bytes got more) ∙ before ∙ ap (λ x. lines ++ f x) (sym (append_assoc rest got more)) ∙ ap (λ x. lines ++ x) cut ∙ sym (append_assoc lines (line ∷ []) ls)

both_none : (x y : List ℕ) → x ≡ [] → y ≡ [] → x ++ y ≡ []
both_none x y e f = rw (e, f) refl

was_open : {a b : Bool} → (IsTrue a → IsTrue b) → b ≡ false → a ≡ false
was_open {a = true} {b} f e = absurd (false≢true (sym e ∙ f refl))
was_open {a = false} {b} f e = refl

pub taken_start : {B : Type 0} (g : Ghosts B) (start : B) (left written : Option (List ℕ)) (shelf : Shelf B g) (halt : Option Halt) → RunsLines g start [] [] [] shelf halt → Taken g start left left written written (fresh_reader 0) shelf halt
taken_start g start left written shelf halt runs = record {
  bytes = [];
  answered = [];
  front = [];
  reply = [];
  given = Gives-none left;
  lines = λ more none. refl;
  whole = λ f more. refl;
  at_end = λ e. absurd (false≢true e);
  in_time = λ e. absurd (false≢true e);
  fault = refl;
  limit = omega arith;
  count = refl;
  grows = GrowsByBytes-none written;
  runs = runs;
}

module _ {B : Type 0} {g : Ghosts B} {start : B} {left_before left after written_before written : Option (List ℕ)} {old new : Reading} {shelf : Shelf B g} {halt : Option Halt} (s : Taken g start left_before left written_before written old shelf halt) where
  module _ {bytes : Block} {asked : VolAsked} (heard : HearsAsked left after old new bytes asked) (later : Shelf B g) (halt_later : Option Halt) (said : List ℕ) (runs : RunsOn g shelf later halt halt_later (line_with asked bytes) said) where
    ran : RunsLines g start (s.answered ++ heard.line.says.0 ∷ []) (s.front ++ s.reply) said later halt_later
    ran = runs start s.answered heard.line.says.0 s.front s.reply heard.asks s.runs

    pub taken_more : new.fault ≡ None → (wrote : Option (List ℕ)) → GrowsByBytes written wrote said → Taken g start left_before after written_before wrote new later halt_later
    taken_more fault wrote grew =
        let h = heard.line in
        let line : List ℕ = h.says.0 in
        let n : IsNextLine (old.rest ++ h.got) line new = h.says.2 in
        record {
          bytes = s.bytes ++ h.got;
          answered = s.answered ++ line ∷ [];
          front = s.front ++ s.reply;
          reply = said;
          given = Gives-then left_before left after s.bytes h.got s.given h.given;
          lines = λ more none. lines_more s.bytes h.got old.rest more s.answered (lines_of (new.rest ++ more)) line lines_of (s.lines (h.got ++ more) (λ e. both_none h.got more (h.ended_before e) (none (h.stays_ended e)))) (n.lines more none);
          whole = λ f more. lines_more s.bytes h.got old.rest more s.answered (whole_lines (new.rest ++ more)) line whole_lines (s.whole (was_open h.stays_ended f) (h.got ++ more)) (n.whole f more);
          at_end = λ e. heard_end h s.at_end e;
          in_time = λ e. heard_in_time h s.in_time e;
          fault = fault;
          limit = h.limit;
          count = omega (arith, s.count, h.taken, length-append s.bytes h.got);
          grows = GrowsByBytes-then written_before written wrote (s.front ++ s.reply) said s.grows grew;
          runs = ran;
        }

    -- the answer could not be written
    pub ends_at_sink : (wrote : Option (List ℕ)) (n : ℕ) → n < length said → GrowsByBytes written wrote (take n said) → ServesVolumeLines g start left_before after written_before wrote later halt_later Sink
    ends_at_sink wrote n short grew =
        let h = heard.line in
        let line : List ℕ = h.says.0 in
        let next : IsNextLine (old.rest ++ h.got) line new = h.says.2 in
        record {
          bytes = s.bytes ++ h.got;
          given = Gives-then left_before left after s.bytes h.got s.given h.given;
          lines = s.answered ++ line ∷ [];
          front = s.front ++ s.reply;
          reply = said;
          told = (s.front ++ s.reply) ++ take n said;
          grows = GrowsByBytes-then written_before written wrote (s.front ++ s.reply) (take n said) s.grows grew;
          ends = record {
            before = s.answered;
            line = line;
            more = lines_of new.rest;
            are = refl;
            split = s.lines h.got h.ended_before ∙ ap (λ x. s.answered ++ lines_of x) (sym (append-nil (old.rest ++ h.got))) ∙ ap (λ x. s.answered ++ x) (next.lines [] (λ e. refl)) ∙ ap (λ x. s.answered ++ line ∷ lines_of x) (append-nil new.rest) ∙ sym (append_assoc s.answered (line ∷ []) (lines_of new.rest));
            count = n;
            short = short;
            cut = refl;
          };
          runs = ran;
        }

  -- the input has ended
  pub ends_done : HearsLine left after old new (Ok None) → ServesVolumeLines g start left_before after written_before written shelf halt Done
  ends_done h = record {
    bytes = s.bytes ++ h.got;
    given = Gives-then left_before left after s.bytes h.got s.given h.given;
    lines = s.answered;
    front = s.front;
    reply = s.reply;
    told = s.front ++ s.reply;
    grows = s.grows;
    ends = (
      sym (s.lines h.got h.ended_before ∙ ap (λ x. s.answered ++ lines_of x) h.says.0 ∙ append-nil s.answered),
      refl,
      omega (arith, s.count, h.taken, length-append s.bytes h.got, heard_in_time h s.in_time h.says.2),
      heard_end h s.at_end h.says.2,
    );
    runs = s.runs;
  }

  fault_lines : {fault : LineFault} (h : HearsLine left after old new (Err fault)) → s.answered ≡ whole_lines (s.bytes ++ h.got)
  fault_lines h = sym (s.whole (was_open h.stays_ended h.says.1) h.got ∙ ap (λ x. s.answered ++ x) h.says.0 ∙ append-nil s.answered)

  pub ends_at_source : {fault : LineFault} → HearsLine left after old new (Err fault) → ServesVolumeLines g start left_before after written_before written shelf halt Source
  ends_at_source h = record {
    bytes = s.bytes ++ h.got;
    given = Gives-then left_before left after s.bytes h.got s.given h.given;
    lines = s.answered;
    front = s.front;
    reply = s.reply;
    told = s.front ++ s.reply;
    grows = s.grows;
    ends = (fault_lines h, refl);
    runs = s.runs;
  }

  pub ends_too_long : {fault : LineFault} → HearsLine left after old new (Err fault) → new.taken ≡ stream_most → ServesVolumeLines g start left_before after written_before written shelf halt TooLong
  ends_too_long h full = record {
    bytes = s.bytes ++ h.got;
    given = Gives-then left_before left after s.bytes h.got s.given h.given;
    lines = s.answered;
    front = s.front;
    reply = s.reply;
    told = s.front ++ s.reply;
    grows = s.grows;
    ends = (fault_lines h, refl, omega (arith, s.count, h.taken, length-append s.bytes h.got, full));
    runs = s.runs;
  }
