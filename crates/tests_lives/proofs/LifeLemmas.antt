-- From what the program promises of a format and of a run to a life of an array.
use Rattle.std.proofs.Common.{◌≡◌, ◌≢◌, ℕ, ◌⊎◌, Bool, true, false, List, [], ◌∷◌, ◌++◌, length, drop, Option, Some, None, refl, sym, ap, ◌∙◌, inl, inr, subst, arith, suc}
use Rattle.std.specs.Prelude.{◌==◌, ◌&&◌, ◌||◌, IfOk, IsSome, Result, Ok, Err, is_some}
use Rattle.std.specs.Result.{result_ok}
use Rattle.std.proofs.Math.Seq.{take-append_seam}
use Rattle.std.proofs.lemmas.Bool.{cases_Bool, false≢true}
use Rattle.std.proofs.lemmas.Bool.Decides.{nat_tests}
use Rattle.std.proofs.lemmas.List.{append-nil}
use Rattle.std.proofs.lemmas.List.Folds.{list_all-append}
use Rattle.std.specs.List.{list_all}
use Rattle.paraid_base.specs.declared.fault.Halt.TheVariants.{Two as HaltTwo, Worn}
use Rattle.paraid_base.specs.Told.{told_bytes}
use Rattle.paraid_rack.specs.declared.call.Call.{Call}
use Rattle.paraid_rack.specs.Calls.{disk_of, is_done}
use Rattle.paraid_rack.specs.Disks.{Disks}
use Rattle.paraid_rack.specs.Trail.{Trail, disks, extend, initial, moments, now, run}
use Rattle.paraid_record.specs.declared.meta.Setup.{Setup}
use Rattle.paraid_image.specs.RunStart.{IsRunStart}
use Rattle.paraid_image.specs.Standing.{Stands}
use Rattle.paraid_image.proofs.FormattedLemmas.{IsAtRest-formatted}
use Rattle.paraid_recover.specs.Between.{RanBetween}
use Rattle.paraid_recover.specs.declared.mount_fault.MountFault.{MountFault}
use Rattle.paraid_recover.specs.declared.mount_fault.MountFault.TheVariants.{NotFormatted, BadLog, BadMeta, Size, Power, Two as TwoDown, Worn as WornOut, NoMemory}
use Rattle.paraid_recover.specs.First.{first_meta}
use Rattle.paraid_session.specs.Mount.{IsBegun, IsMounted, IsMountedFromEach, IsMounting, start_watch}
use Rattle.paraid_session.specs.Turn.{Point}
use Rattle.paraid_session.specs.Watch.{Down, Watch, down_after, nobody, only, several, watch, watch_all, with_down}
use Rattle.paraid_serve.specs.Output.{FollowsFromPoint, OutputText, WritesOutput}
use Rattle.paraid_serve.specs.Output.OutputText.{done as text_done, halted as text_halted, source as text_source, too_long as text_long}
use Rattle.paraid_serve.specs.Output.WritesOutput.{answers, at_first_line, last_line, whole}
use Rattle.paraid_serve.specs.Stretch.{span_of}
use Rattle.paraid_serve.specs.Ending.{EndsWithLine}
use Rattle.paraid_serve.specs.Uses.{RackUse, SinkUse, SourceUse}
use Rattle.paraid_memrack.specs.Rules.{no_disks}
use Rattle.paraid_commands.specs.Ends.{MountsAndThen, ServesLines}
use Rattle.paraid_commands.specs.Ends.MountsAndThen.{refused, mounted}
use Rattle.paraid_commands.specs.Outcome.{BecomesEmpty, FormatOutcome, Formats, IsArrayMade, IsEmptyArray}
use Rattle.paraid_commands.specs.Outcome.FormatOutcome.{done as format_done, source_failed as format_source, no_memory, config, already, disk}
use Rattle.paraid_commands.specs.MountFaults.{mount_fault_status}
use Rattle.tests_lives.specs.Life.{RunAnswers, IsLife, is_done_or_on, said_first}

-- what is promised of a result that is there
pub of_result : {T E : Type 0} (P : T → Type 0) (r : Result T E) (x : T) → Some x ≡ result_ok r → IfOk r P → P x
of_result P (Ok y) x is holds = let same : y ≡ x = some_same y x (sym is) in subst P same holds
  where
    some_same : {T : Type 0} (a b : T) → Some a ≡ Some b → a ≡ b
    some_same a b e = cc
of_result P (Err e) x is holds = absurd (let z : Some x ≡ None = is in cc)

-- none, or this one
abbrev few : ℕ → Down → Type 0
few weak down = (down ≡ nobody) ⊎ (down ≡ only weak)

only_again : (d : ℕ) → with_down d (only d) ≡ only d
only_again d = let same : (d == d) ≡ true = grind (arith, nat_tests) in rw same refl

few_more : (weak : ℕ) (down : Down) → few weak down → few weak (with_down weak down)
few_more weak down (inl none) = rw none (inr refl)
few_more weak down (inr one) = rw one (inr (only_again weak))

on_disk : (d e : ℕ) → (d == e) ≡ true → d ≡ e
on_disk d e is = grind (arith, nat_tests)

other : (b c : Bool) → (b || c) ≡ true → b ≡ false → c ≡ true
other true c is failed = absurd (false≢true (sym failed))
other false c is failed = is

both_true : (b c : Bool) → (b && c) ≡ true → (b ≡ true) × (c ≡ true)
both_true true c is = (refl, is)
both_true false c is = absurd (false≢true is)

few_after : (weak : ℕ) (down : Down) (call : Call) → is_done_or_on weak call ≡ true → few weak down → few weak (down_after down call)
few_after weak down call is at = elim (cases_Bool (is_done call)) [
  | inl was_done ↦ rw was_done at
  | inr failed ↦ rw failed (subst (λ (d : ℕ). few weak (with_down d down)) (sym (on_disk (disk_of call) weak (other (is_done call) (disk_of call == weak) is failed))) (few_more weak down at))
]

few_all : (weak : ℕ) (calls : List Call) (w : Watch) → list_all (is_done_or_on weak) calls ≡ true → few weak w.down → few weak (watch_all calls w).down
few_all weak [] w all at = at
few_all weak (call ∷ calls) w all at =
    let both = both_true (is_done_or_on weak call) (list_all (is_done_or_on weak) calls) all in
    few_all weak calls (watch call w) both.1 (few_after weak w.down call both.0 at)

not_several : (weak : ℕ) (down : Down) → few weak down → down ≢ several
not_several weak down (inl none) e = let k : nobody ≡ several = sym none ∙ e in cc
not_several weak down (inr one) e = let k : only weak ≡ several = sym one ∙ e in cc

fault_status : (fault : MountFault) → mount_fault_status fault ≢ 0
fault_status NotFormatted is = omega (arith, is)
fault_status (BadLog d) is = omega (arith, is)
fault_status (BadMeta d) is = omega (arith, is)
fault_status (Size d found needed) is = omega (arith, is)
fault_status (Power d) is = omega (arith, is)
fault_status (TwoDown two) is = omega (arith, is)
fault_status (WornOut count) is = omega (arith, is)
fault_status NoMemory is = omega (arith, is)

-- a last line at 0 is whole
whole_at_zero : {before after : Option (List ℕ)} {line : List ℕ} (code status : ℕ) → EndsWithLine before after line code status → status ≡ 0 → code ≡ 0
whole_at_zero code status end zero = elim end.whole [ inl four ↦ absurd (omega (arith, four, zero)) | inr all ↦ sym all.1 ∙ zero ]

-- all that was left was taken
taken : (lines left bytes : List ℕ) → lines ≡ bytes ++ left → left ≡ [] → bytes ≡ lines
taken lines left bytes all none = sym (all ∙ ap (λ (l : List ℕ). bytes ++ l) none ∙ append-nil bytes)

module _ {rack : RackUse} {source : SourceUse} {sink : SinkUse} {U : Type 0} (lines text : List ℕ) (is_lines : source.left_before ≡ Some lines) (left_told : IsSome source.left) (none_yet : sink.written_before ≡ Some []) (is_text : sink.written ≡ Some text) where
  -- A run that ended well answered all lines.
  pub run_answers : (status : ℕ) → status ≡ 0 → MountsAndThen rack sink status U (ServesLines rack source sink status) → RunAnswers rack.slots rack.before rack.after lines text
  run_answers status zero (refused fault back end unheard) = absurd (fault_status fault (whole_at_zero (mount_fault_status fault) status end zero))
  run_answers status zero (mounted service stood begins served) =
      let h = served.headline in
      let setup = service.array.meta.setup in
      let bytes = taken lines (told_bytes source.left) h.bytes (sym (ap told_bytes is_lines) ∙ h.given.bytes left_told) ((h.all (inl zero)).1 left_told) in
      let grown = h.grows.bytes (subst IsSome (sym is_text) refl) in
      let wrote : h.text ≡ text = sym (sym (ap told_bytes is_text) ∙ grown ∙ ap (λ (o : Option (List ℕ)). told_bytes o ++ h.text) none_yet) in
      record {
        setup = setup;
        began = service.began;
        middle = service.told;
        begins = begins;
        said = λ tells.
            subst (λ (k : ℕ). IsMountedFromEach rack.slots setup service.began service.told (FollowsFromPoint (span_of rack.slots setup service.told rack.after) lines k text)) zero
            (subst (λ (x : List ℕ). IsMountedFromEach rack.slots setup service.began service.told (FollowsFromPoint (span_of rack.slots setup service.told rack.after) lines status x)) wrote
            (subst (λ (x : List ℕ). IsMountedFromEach rack.slots setup service.began service.told (FollowsFromPoint (span_of rack.slots setup service.told rack.after) x status h.text)) bytes (h.said tells)));
      }

-- a format that ended well made an array
made_at : (force : Bool) (rack : RackUse) (given : SourceUse) (code : ℕ) (line : List ℕ) → FormatOutcome force rack given code line → code ≡ 0 → (setup : Setup) × IsArrayMade force rack setup
made_at force rack given code line (format_done setup says made) zero = (setup, made)
made_at force rack given code line (format_source unread same) zero = absurd (omega (arith, zero))
made_at force rack given code line (no_memory unread same) zero = absurd (omega (arith, zero))
made_at force rack given code line (config fault not unread same) zero = absurd (omega (arith, zero))
made_at force rack given code line (already setup epoch says unmade) zero = absurd (omega (arith, zero))
made_at force rack given code line (disk setup d says unmade) zero = absurd (omega (arith, zero))

module _ {force : Bool} {rack : RackUse} {given : SourceUse} {kept : SinkUse} where
  pub array_made : (status : ℕ) → status ≡ 0 → Formats force rack given kept status → (setup : Setup) × RanBetween rack.before rack.after (BecomesEmpty rack.slots setup)
  array_made status zero f =
      let it = made_at force rack given f.code f.line f.outcome (whole_at_zero f.code status f.ends zero) in
      (it.0, it.1.empty)

module _ (slots : ℕ) (setup : Setup) (s : Disks) (empty : IsEmptyArray slots setup s) (lines text : List ℕ) (middle after : Option Trail) (disk : ℕ) (calls : List Call)
    (mounting : IsMounting slots s disk (said_first setup) [] 0 None calls) (p : Point) (begun : IsBegun slots s (said_first setup) [] 0 None mounting.base calls p) where
  -- a session that answers all lines is a life
  life_by_text : (status : ℕ) (front last : List ℕ) → OutputText (span_of slots setup middle after) p lines status front last → status ≡ 0 → text ≡ front ++ last → IsLife slots lines text
  life_by_text status front last (text_done writes e) zero is = record {
    setup = setup;
    array = s;
    empty = empty;
    disk = disk;
    mount = calls;
    mounting = mounting;
    first = p;
    begun = begun;
    start = middle;
    final = after;
    writes = writes;
    answered = e;
    told = is;
  }
  life_by_text status front last (text_halted (HaltTwo pair) e) zero is = absurd (omega (arith, zero))
  life_by_text status front last (text_halted (Worn count) e) zero is = absurd (omega (arith, zero))
  life_by_text status front last (text_source c) zero is = absurd (omega (arith, zero))
  life_by_text status front last (text_long ten c) zero is = absurd (omega (arith, zero))

  life_by_output : WritesOutput (span_of slots setup middle after) p lines 0 text → IsLife slots lines text
  life_by_output (whole front last out is) = life_by_text 0 front last out refl is
  life_by_output (last_line four code front last count out is) = absurd (omega (arith, four))
  life_by_output (at_first_line four none c rest is) = absurd (omega (arith, four))
  life_by_output (answers four part c is) = absurd (omega (arith, four))

-- no call fails but on one disk, so one disk at most is down
module _ (slots weak : ℕ) (setup own : Setup) (s : Disks) (empty : IsEmptyArray slots setup s) (lines text : List ℕ) (middle after : Option Trail) (disk : ℕ) (calls : List Call)
    (one : list_all (is_done_or_on weak) calls ≡ true) where
  life_mounted : IsMounted slots s disk (said_first setup) [] 0 None calls (λ p. (setup ≡ own) × FollowsFromPoint (span_of slots own middle after) lines 0 text p) → IsLife slots lines text
  life_mounted m = elim m.ends [
    | inl both ↦ absurd (not_several weak _ (few_all weak calls (start_watch s None m.mounting.base) one (inl refl)) both)
    | inr begun ↦
        let follows = subst (λ (u : Setup). FollowsFromPoint (span_of slots u middle after) lines 0 text begun.0) (sym begun.2.0) begun.2.1 in
        life_by_output slots setup s empty lines text middle after disk calls m.mounting begun.0 begun.1 follows.wrote
  ]

drop_past : {A : Type 0} (xs ys : List A) → drop (length xs) (xs ++ ys) ≡ ys
drop_past [] ys = refl
drop_past (x ∷ xs) ys = let e : length (x ∷ xs) ≡ suc (length xs) = refl in ap (λ (k : ℕ). drop k (x ∷ xs ++ ys)) e ∙ drop_past xs ys

-- the disks and the calls from the moment on at which a record was this one
began_disks : (t f : Trail) (cs : List Call) (began : ℕ) → t ≡ extend f cs → began ≡ moments f → disks t began ≡ now f
began_disks t f cs began is at = ap (λ (u : Trail). disks u began) is ∙ ap (disks (extend f cs)) at ∙ ap (run (initial f.start)) (take-append_seam f.calls cs)

began_calls : (t f : Trail) (cs : List Call) (began : ℕ) → t ≡ extend f cs → began ≡ moments f → drop began t.calls ≡ cs
began_calls t f cs began is at = ap (λ (u : Trail). drop began u.calls) is ∙ ap (λ (k : ℕ). drop k (f.calls ++ cs)) at ∙ drop_past f.calls cs

none_loose : (count d p : ℕ) → (now (no_disks count)).loose d p ≡ false
unfolding initial
none_loose count d p = refl

same_trail : (told : Option Trail) (t u : Trail) → told ≡ Some t → told ≡ Some u → t ≡ u
same_trail told t u a b = let k : Some t ≡ Some u = sym a ∙ b in cc

front_all : (test : Call → Bool) (xs ys : List Call) → list_all test (xs ++ ys) ≡ true → list_all test xs ≡ true
front_all test xs ys all = (both_true (list_all test xs) (list_all test ys) (sym (list_all-append test xs ys) ∙ all)).0

back_all : (test : Call → Bool) (xs ys : List Call) → list_all test (xs ++ ys) ≡ true → list_all test ys ≡ true
back_all test xs ys all = (both_true (list_all test xs) (list_all test ys) (sym (list_all-append test xs ys) ∙ all)).1

module _ (slots weak count : ℕ) (start made after : Option Trail) (lines text : List ℕ) (new : start ≡ Some (no_disks count)) (setup : Setup) (formatted : RanBetween start made (BecomesEmpty slots setup))
    (ran : RunAnswers slots made after lines text) (t : Trail) (tells : after ≡ Some t) (one : list_all (is_done_or_on weak) t.calls ≡ true) where
  -- A format and a run on a new rack are a life, where no call fails but on one disk.
  pub life : IsLife slots lines text
  life =
      let later = ran.begins.grows t tells in
      let b = ran.begins.calls later.from later.was in
      let f = formatted b.0 b.2 in
      let from : f.0 ≡ no_disks count = same_trail start f.0 (no_disks count) f.1 new in
      let empty = f.2.whole (λ d p past. ap (λ (u : Trail). (now u).loose d p) from ∙ none_loose count d p) in
      let rest = IsAtRest-formatted slots (now b.0) (first_meta setup) empty.formatted in
      let here = began_disks later.from b.0 b.1 ran.began b.3 b.4 in
      let since = began_calls later.from b.0 b.1 ran.began b.3 b.4 in
      let m = ran.said (ap is_some tells) later.from later.was [] 0 None rest.disk (said_first setup)
      (subst (λ (s : Disks). IsRunStart slots s [] 0 None) (sym here) empty.entry)
      (subst (λ (s : Disks). Stands s rest.disk (said_first setup)) (sym here) rest.log.stands) in
      let calls : list_all (is_done_or_on weak) b.1 ≡ true =
      back_all (is_done_or_on weak) b.0.calls b.1 (front_all (is_done_or_on weak) (b.0.calls ++ b.1) later.calls
      (ap (list_all (is_done_or_on weak)) (ap (λ (l : List Call). l ++ later.calls) (sym (ap (λ (u : Trail). u.calls) b.3)) ∙ sym (ap (λ (u : Trail). u.calls) later.is)) ∙ one)) in
      life_mounted slots weak setup ran.setup (now b.0) empty lines text ran.middle after rest.disk b.1 calls
      (subst (λ (s : Disks). IsMounted slots s rest.disk (said_first setup) [] 0 None b.1 (λ p. (setup ≡ ran.setup) × FollowsFromPoint (span_of slots ran.setup ran.middle after) lines 0 text p)) here
      (subst (λ (cs : List Call). IsMounted slots (disks later.from ran.began) rest.disk (said_first setup) [] 0 None cs (λ p. (setup ≡ ran.setup) × FollowsFromPoint (span_of slots ran.setup ran.middle after) lines 0 text p)) since m))
