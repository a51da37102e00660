-- What the lines that were read so far say.
use Rattle.std.proofs.Common.{◌≡◌, ℕ, ◌+◌, ◌-◌, ◌^◌, ◌<◌, ◌≤◌, ◌⊎◌, Bool, true, false, List, [], ◌∷◌, ◌++◌, length, map, decimal, IsTrue, Option, None, Result, Ok, Err, refl, sym, ap, ◌∙◌, subst, inl, inr, arith, length-append}
use Rattle.std.proofs.Math.ListN.{get_or-append}
use Rattle.std.proofs.lemmas.Bool.{cases_Bool, cases_lt, false≢true}
use Rattle.std.proofs.lemmas.List.{append_assoc, append-nil, get_or_at, map_push}
use Rattle.paraid_base.specs.Told.{AtEnd, Gives, HasRisen, told_bytes, stream_most}
use Rattle.paraid_base.proofs.ToldLemmas.{Gives-none, Gives-then}
use Rattle.paraid_io.specs.declared.line.LineFault.{LineFault}
use Rattle.paraid_io.specs.Lines.{lines_of, whole_lines}
use Rattle.paraid_io.specs.Reading.{IsNextLine, Reading, fresh_reader}
use Rattle.paraid_planning.specs.Demand.{AreFewAndSmall, BeginsDemand, FirstMiss, IsNoNumber, ReadsDemand, IsUnplanned}
use Rattle.paraid_planning.specs.Demand.FirstMiss.{empty, line as miss}
use Rattle.paraid_planning.specs.Heard.{HearsNumber}
use Rattle.paraid_planning.specs.declared.hear.Spoken.{Spoken}
use Rattle.paraid_planning.specs.declared.hear.Spoken.TheVariants.{Number, Other, End}
use Rattle.paraid_planning.specs.declared.unplanned.Unplanned.TheVariants.{Source, TooLong, NoMemory, Demand}
use Rattle.paraid_schedule.specs.Schedule.{demand_most}

-- These numbers were read.
pub record Gathered (before left : Option (List ℕ)) (reader : Reading) (numbers : List ℕ) : Type 0 where
  pub bytes : List ℕ
  pub given : Gives before left bytes
  -- whatever follows, the lines are those that were read and those of what is left
  pub lines : (more : List ℕ) → (IsTrue reader.ended → more ≡ []) → lines_of (bytes ++ more) ≡ map decimal numbers ++ lines_of (reader.rest ++ more)
  pub whole : reader.ended ≡ false → (more : List ℕ) → whole_lines (bytes ++ more) ≡ map decimal numbers ++ whole_lines (reader.rest ++ more)
  pub at_end : IsTrue reader.ended → AtEnd left
  pub fault : reader.fault ≡ None
  pub count : reader.taken ≡ length bytes
  pub limit : reader.taken ≤ stream_most
  pub are : AreFewAndSmall numbers
  -- no number was read of no bytes
  pub some : numbers ≡ [] → reader.rest ≡ bytes

pub gathered_none : (left : Option (List ℕ)) → Gathered left left (fresh_reader 0) []
gathered_none left = record {
  bytes = [];
  given = Gives-none left;
  lines = λ more none. refl;
  whole = λ f more. refl;
  at_end = λ e. absurd (false≢true e);
  fault = refl;
  count = refl;
  limit = omega arith;
  are = record { few = omega arith; small = λ t low. absurd (omega (arith, low)) };
  some = λ e. refl;
}

-- no byte comes after the end
none_more : {a b : Option (List ℕ)} {got : List ℕ} → Gives a b got → got ≡ [] → AtEnd a → AtEnd b
none_more {a} {b} {got} g none end s = ap (λ x. x ++ told_bytes b) (sym none) ∙ sym (g.bytes s) ∙ end (g.before s)

both_none : (x y : List ℕ) → x ≡ [] → y ≡ [] → x ++ y ≡ []
both_none x y e f = rw (e, f) refl

was_open : {a b : Bool} → (IsTrue a → IsTrue b) → b ≡ false → a ≡ false
was_open {a = true} {b} f e = absurd (false≢true (sym e ∙ f refl))
was_open {a = false} {b} f e = refl

-- the lines of all bytes, one line on
lines_more : (bytes got rest more : List ℕ) (lines ls : List (List ℕ)) (line : List ℕ) (f : List ℕ → List (List ℕ))
    → f (bytes ++ (got ++ more)) ≡ lines ++ f (rest ++ (got ++ more)) → f ((rest ++ got) ++ more) ≡ line ∷ ls → f ((bytes ++ got) ++ more) ≡ (lines ++ line ∷ []) ++ ls
lines_more bytes got rest more lines ls line f before cut =
    ap f (append_assoc bytes got more) ∙ before ∙ ap (λ x. lines ++ f x) (sym (append_assoc rest got more)) ∙ ap (λ x. lines ++ x) cut ∙ sym (append_assoc lines (line ∷ []) ls)

-- one number more
few_more : (numbers : List ℕ) (n : ℕ) → AreFewAndSmall numbers → length numbers < 1024 → n ≤ demand_most → AreFewAndSmall (numbers ++ n ∷ [])
few_more numbers n are room small = record {
  few = omega (arith, length-append numbers (n ∷ []), room);
  small = λ t low. elim (cases_lt t (length numbers)) [
    | inl early ↦ subst (λ (k : ℕ). k ≤ demand_most) (sym (get_or-append numbers (n ∷ []) 0 t early)) (are.small t early)
    | inr late ↦ subst (λ (k : ℕ). k ≤ demand_most) (sym (get_or_at numbers n [] 0 t (omega (arith, length-append numbers (n ∷ []), low, late)))) small
  ];
}

not_none : (numbers : List ℕ) (n : ℕ) → numbers ++ n ∷ [] ≡ [] → ⊥
not_none [] n e = cc
not_none (k ∷ numbers) n e = cc

none_of : (xs : List ℕ) → length xs ≡ 0 → xs ≡ []
none_of [] is = refl
none_of (x ∷ xs) is = absurd (omega (arith, is))

module _ {before left after : Option (List ℕ)} {old new : Reading} {numbers : List ℕ} (s : Gathered before left old numbers) where
  -- the end is kept, or it came in this call
  ended : {r : Result Spoken LineFault} → HearsNumber left after old new r → IsTrue new.ended → AtEnd after
  ended {r} h now = elim (cases_Bool old.ended) [
    | inl e ↦ none_more h.given (h.ended_before e) (s.at_end e)
    | inr f ↦ h.ended_now now f
  ]

  all_given : {r : Result Spoken LineFault} → (h : HearsNumber left after old new r) → Gives before after (s.bytes ++ h.got)
  all_given {r} h = Gives-then before left after s.bytes h.got s.given h.given

  -- the lines with one more, whatever follows
  more_lines : {r : Result Spoken LineFault} → (h : HearsNumber left after old new r) (line : List ℕ) → IsNextLine (old.rest ++ h.got) line new → (more : List ℕ) → (IsTrue new.ended → more ≡ [])
      → lines_of ((s.bytes ++ h.got) ++ more) ≡ (map decimal numbers ++ line ∷ []) ++ lines_of (new.rest ++ more)
  more_lines {r} h line n more none = lines_more s.bytes h.got old.rest more (map decimal numbers) (lines_of (new.rest ++ more)) line lines_of
      (s.lines (h.got ++ more) (λ e. both_none h.got more (h.ended_before e) (none (h.stays_ended e)))) (n.lines more none)

  pub gathered_more : {k : ℕ} → (h : HearsNumber left after old new (Ok (Number k))) → new.fault ≡ None → length numbers < 1024 → Gathered before after new (numbers ++ k ∷ [])
  gathered_more {k} h fault room =
      let small : k ≤ demand_most = h.says.0 in
      let n : IsNextLine (old.rest ++ h.got) (decimal k) new = h.says.1 in
      let pushed = map_push decimal numbers k in
      record {
        bytes = s.bytes ++ h.got;
        given = all_given h;
        lines = λ more none. more_lines h (decimal k) n more none ∙ ap (λ x. x ++ lines_of (new.rest ++ more)) (sym pushed);
        whole = λ f more. lines_more s.bytes h.got old.rest more (map decimal numbers) (whole_lines (new.rest ++ more)) (decimal k) whole_lines (s.whole (was_open h.stays_ended f) (h.got ++ more)) (n.whole f more)
            ∙ ap (λ x. x ++ whole_lines (new.rest ++ more)) (sym pushed);
        at_end = ended h;
        fault = fault;
        count = omega (arith, s.count, h.taken, length-append s.bytes h.got);
        limit = h.limit;
        are = few_more numbers k s.are room small;
        some = λ e. absurd (not_none numbers k e);
      }

  -- a line that is no number, or one too many
  misses : {r : Result Spoken LineFault} → (h : HearsNumber left after old new r) (line : List ℕ) → IsNextLine (old.rest ++ h.got) line new → IsNoNumber line ⊎ (length numbers ≡ 1024) → FirstMiss (s.bytes ++ h.got) after (length numbers)
  misses {r} h line n why = miss numbers line s.are (record {
    ended = new.ended;
    at_end = ended h;
    begins = λ more none. (lines_of (new.rest ++ more), more_lines h line n more none);
  }) why

  pub missed : (faults faults_now at : ℕ) → (h : HearsNumber left after old new (Ok Other)) → at ≡ length numbers → IsUnplanned before after faults faults_now (Demand at)
  missed faults faults_now at h is = record {
    bytes = s.bytes ++ h.got;
    given = all_given h;
    is = subst (FirstMiss (s.bytes ++ h.got) after) (sym is) (misses h h.says.0 h.says.2 (inl h.says.1));
  }

  pub too_many : {k : ℕ} (faults faults_now : ℕ) → (h : HearsNumber left after old new (Ok (Number k))) → 1024 ≤ length numbers → IsUnplanned before after faults faults_now (Demand 1024)
  too_many {k} faults faults_now h full =
      let all : length numbers ≡ 1024 = omega (arith, full, s.are.few) in
      record {
        bytes = s.bytes ++ h.got;
        given = all_given h;
        is = subst (FirstMiss (s.bytes ++ h.got) after) all (misses h (decimal k) h.says.1 (inr all));
      }

  -- there is no memory for one more
  pub no_room : {r : Result Spoken LineFault} (faults faults_now : ℕ) → (h : HearsNumber left after old new r) → IsUnplanned before after faults faults_now NoMemory
  no_room {r} faults faults_now h = record { bytes = s.bytes ++ h.got; given = all_given h; is = tt }

  fault_lines : {fault : LineFault} (h : HearsNumber left after old new (Err fault)) → BeginsDemand (s.bytes ++ h.got)
  fault_lines {fault} h = record {
    numbers = numbers;
    are = s.are;
    lines = s.whole (was_open h.stays_ended h.says.1) h.got ∙ ap (λ x. map decimal numbers ++ x) h.says.0 ∙ append-nil (map decimal numbers);
  }

  pub source_failed : {fault : LineFault} (faults faults_now : ℕ) → (h : HearsNumber left after old new (Err fault)) → HasRisen faults faults_now → IsUnplanned before after faults faults_now Source
  source_failed {fault} faults faults_now h risen = record { bytes = s.bytes ++ h.got; given = all_given h; is = (risen, fault_lines h) }

  pub took_all : {fault : LineFault} (faults faults_now : ℕ) → (h : HearsNumber left after old new (Err fault)) → new.taken ≡ stream_most → IsUnplanned before after faults faults_now TooLong
  took_all {fault} faults faults_now h full = record {
    bytes = s.bytes ++ h.got;
    given = all_given h;
    is = (omega (arith, s.count, h.taken, length-append s.bytes h.got, full), fault_lines h);
  }

  -- The source gave its end.
  all_lines : (h : HearsNumber left after old new (Ok End)) → lines_of (s.bytes ++ h.got) ≡ map decimal numbers
  all_lines h = s.lines h.got h.ended_before ∙ ap (λ x. map decimal numbers ++ lines_of x) h.says.0 ∙ append-nil (map decimal numbers)

  pub read_all : (h : HearsNumber left after old new (Ok End)) → 0 < length numbers → ReadsDemand before after numbers
  read_all h some = record {
    bytes = s.bytes ++ h.got;
    given = all_given h;
    end = ended h h.says.2;
    says = record { lines = all_lines h; is = record { some = some; few = s.are.few; small = s.are.small } };
  }

  pub read_none : (faults faults_now : ℕ) → (h : HearsNumber left after old new (Ok End)) → length numbers ≡ 0 → IsUnplanned before after faults faults_now (Demand 0)
  read_none faults faults_now h none = record {
    bytes = s.bytes ++ h.got;
    given = all_given h;
    is = empty (ap (λ x. x ++ h.got) (sym (s.some (none_of numbers none))) ∙ h.says.0) (ended h h.says.2);
  }

  -- a number that is taken leaves less to take
  pub less_to_take : {k : ℕ} → HearsNumber left after old new (Ok (Number k)) → (stream_most - new.taken) + length new.rest < (stream_most - old.taken) + length old.rest
  less_to_take {k} h =
      let shorter = h.says.1.shorter in
      let size = length-append old.rest h.got in
      let taken = h.taken in
      let limit = h.limit in
      omega arith
