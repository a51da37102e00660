-- What calls of a device do, one after the other
use Rattle.std.proofs.Common.{◌≡◌, ℕ, ◌+◌, ◌*◌, ◌/◌, ◌%◌, ◌<◌, ◌≤◌, List, [], ◌∷◌, ◌++◌, Option, Some, None, IsSome, length, take, drop, get_or, arith, refl, sym, ◌∙◌, ap, append_assoc, length-append, subst, zero, suc, add-one, drop-cons, inl}
use Rattle.std.proofs.lemmas.Bool.Decides.{nat_tests}
use Rattle.std.proofs.lemmas.List.{append-nil, length-take-le, length-drop, take_all}
use Rattle.paraid_base.specs.declared.block.Block.{Block}
use Rattle.paraid_base.specs.declared.event.Answer.{Answer}
use Rattle.paraid_base.specs.declared.event.Answer.TheVariants.{Halted as HaltedAnswer}
use Rattle.paraid_base.specs.declared.event.Event.{Event}
use Rattle.paraid_base.specs.declared.event.Event.TheVariants.{Read as ReadEvent, Write as WriteEvent, Flush as FlushEvent, Tick, Up, Down, Fail, Replace, State, Energy, Bad}
use Rattle.paraid_base.specs.declared.fault.Halt.{Halt}
use Rattle.paraid_base.specs.BlockAnswers.{Answers}
use Rattle.paraid_base.specs.History.{History, after_all}
use Rattle.paraid_nbd.specs.Export.{byte_at, bytes_from, blocks_joined, byte_after, AreBytesWritten, with_change, changes, IsDeviceState, KeepsOn, HaltsHere, HasRead, HasRest, HasBytes, WrittenFirst}

pub with_change-append : (e : Event) (xs ys : List Event) → with_change e (xs ++ ys) ≡ with_change e xs ++ ys
with_change-append (ReadEvent block) xs ys = refl
with_change-append (WriteEvent pairs) xs ys = refl
with_change-append FlushEvent xs ys = refl
with_change-append Tick xs ys = refl
with_change-append Up xs ys = refl
with_change-append Down xs ys = refl
with_change-append (Fail disk) xs ys = refl
with_change-append (Replace disk) xs ys = refl
with_change-append State xs ys = refl
with_change-append Energy xs ys = refl
with_change-append Bad xs ys = refl

pub changes-append : (a b : Answers) → changes (a ++ b) ≡ changes a ++ changes b
changes-append [] b = refl
changes-append (e ∷ a) b = ap (with_change e.0) (changes-append a b) ∙ with_change-append e.0 (changes a) (changes b)

pub reads-append : (a b : Answers) → changes a ≡ [] → changes b ≡ [] → changes (a ++ b) ≡ []
reads-append a b p q = changes-append a b ∙ ap (λ (x : List Event). x ++ changes b) p ∙ q

pub AreBytesWritten-none : (h : History) (offset : ℕ) → AreBytesWritten h offset [] []
unfolding byte_after
AreBytesWritten-none h offset = record {
  blocks = refl;
  bytes_are = λ k. ap (λ (x : History). byte_at x k) (append-nil h) ∙ grind (arith, nat_tests);
}

-- where only reads came before a halt, nothing was written
pub first_reads : (s : Option History) (offset : ℕ) (bytes : List ℕ) (done : Answers) → changes done ≡ [] → (s ≡ None → done ≡ []) → WrittenFirst s offset bytes done
first_reads None offset bytes done reads quiet = quiet refl
first_reads (Some h) offset bytes done reads quiet = ([], 0, inl refl, AreBytesWritten-none h offset, reads)

pub halted_call : (stands : History → Type 0) (now : Option Halt) (kept : Answers → Type 0) (s : Option History) (events : Answers) (e : Event) (halt : Halt)
    → now ≡ Some halt → kept (events ++ (e, HaltedAnswer halt) ∷ []) → HaltsHere stands now kept s events
halted_call stands now kept s events e halt is k = record {
  now = record { serves = λ h none. absurd (cc); halts = λ none. subst IsSome (sym is) refl };
  done = [];
  reads = refl;
  quiet = λ none. refl;
  halting = record { event = e; halt = halt; kept_is = k };
}

pub halts_later : {stands : History → Type 0} {now : Option Halt} {kept : Answers → Type 0} {s : Option History} {events : Answers} (before : Answers) → changes before ≡ [] → (s ≡ None → before ≡ [])
    → HaltsHere stands now kept s (events ++ before) → HaltsHere stands now kept s events
halts_later {stands} {now} {kept} {s} {events} before reads quiet h = record {
  now = h.now;
  done = before ++ h.done;
  reads = reads-append before h.done reads h.reads;
  quiet = λ none. ap (λ (x : Answers). x ++ h.done) (quiet none) ∙ h.quiet none;
  halting = record {
    event = h.halting.event;
    halt = h.halting.halt;
    kept_is = subst kept (append_assoc events before (h.done ++ (h.halting.event, HaltedAnswer h.halting.halt) ∷ []) ∙ ap (λ (x : Answers). events ++ x) (sym (append_assoc before h.done ((h.halting.event, HaltedAnswer h.halting.halt) ∷ [])))) h.halting.kept_is;
  };
}

some_same : (s : Option History) (a b : History) → s ≡ Some a → s ≡ Some b → a ≡ b
some_same s a b p q = cc

pub rest_read : {stands : History → Type 0} {now : Option Halt} {kept : Answers → Type 0} {s : Option History} {events : Answers} {block : ℕ} {bytes : Block} (size : ℕ)
    → HasRead stands now kept s events block bytes → HasRest stands now kept s events block size bytes
rest_read {s = s} {block = block} size r = record {
  now = r.now;
  value = λ h is part. r.value ∙ ap (λ (x : History). after_all x block) (some_same s r.h h r.was is);
  new = r.new;
  reads = r.reads;
  quiet = λ none. absurd (cc (none, r.was));
  kept_is = r.kept_is;
}

pub bytes_from-more : (h : History) (place d n : ℕ) → bytes_from h place (d + n) ≡ bytes_from h place d ++ bytes_from h (place + d) n
unfolding bytes_from
bytes_from-more h place zero n = rw (let e : zero + n ≡ n = omega arith in e) (ap (λ (x : ℕ). bytes_from h x n) (let f : place ≡ place + 0 = omega arith in f))
bytes_from-more h place (suc d) n =
    let e : suc d + n ≡ suc (d + n) = omega arith in
    let f : (place + 1) + d ≡ place + suc d = omega arith in
    ap (bytes_from h place) e ∙ ap (λ (x : List ℕ). byte_at h place ∷ x) (bytes_from-more h (place + 1) d n ∙ ap (λ (x : ℕ). bytes_from h (place + 1) d ++ bytes_from h x n) f)

-- bytes of one block
pub bytes_from-block : (h : History) (b start n place : ℕ) → place ≡ 512 * b + start → start + n ≤ 512 → bytes_from h place n ≡ take n (drop start (after_all h b).bytes)
unfolding bytes_from byte_at
bytes_from-block h b start zero place at within = refl
bytes_from-block h b start (suc n) place at within =
    let block : place / 512 ≡ b = omega arith in
    let here : place % 512 ≡ start = omega arith in
    let bytes : List ℕ = (after_all h b).bytes in
    let long : start < length bytes = omega (arith, (after_all h b).whole) in
    let first : byte_at h place ≡ get_or bytes start 0 = ap (λ (x : ℕ). get_or (after_all h x).bytes (place % 512) 0) block ∙ ap (λ (x : ℕ). get_or bytes x 0) here in
    let rest : bytes_from h (place + 1) n ≡ take n (drop (start + 1) bytes) = bytes_from-block h b (start + 1) n (place + 1) (omega arith) (omega arith) in
    ap (λ (x : ℕ). x ∷ bytes_from h (place + 1) n) first ∙ ap (λ (x : List ℕ). get_or bytes start 0 ∷ x) rest ∙ rw (drop-cons bytes start 0 long, add-one) refl

pub bytes_none : {stands : History → Type 0} {now : Option Halt} {kept : Answers → Type 0} {s : Option History} {events : Answers} (offset : ℕ)
    → IsDeviceState stands now s → kept events → HasBytes stands now kept s events offset []
unfolding bytes_from
bytes_none {kept = kept} {events = events} offset is k = record {
  now = is;
  value = λ h e. refl;
  serves = λ none. refl;
  new = [];
  reads = refl;
  quiet = λ e. refl;
  kept_is = subst kept (sym (append-nil events)) k;
}

pub bytes_more : {stands now_stands : History → Type 0} {halted now : Option Halt} {kept now_kept : Answers → Type 0} {s : Option History} {events : Answers} {offset : ℕ} {got : List ℕ}
    (b start n : ℕ) (block : Block) (r : HasBytes stands halted kept s events offset got) → offset + length got ≡ 512 * b + start → start + n ≤ 512 → 0 < n
    → HasRead now_stands now now_kept s (events ++ r.new) b block → HasBytes now_stands now now_kept s events offset (got ++ take n (drop start block.bytes))
bytes_more {now_kept = now_kept} {s = s} {events = events} {offset = offset} {got = got} b start n block r at within some x =
    let piece : List ℕ = take n (drop start block.bytes) in
    let many : length piece ≡ n = length-take-le n (drop start block.bytes) (omega (arith, length-drop start block.bytes, block.whole)) in
    let all : length (got ++ piece) ≡ length got + n = length-append got piece ∙ ap (λ (y : ℕ). length got + y) many in
    record {
      now = x.now;
      value = λ h is.
          let held_is : block ≡ after_all h b = x.value ∙ ap (λ (y : History). after_all y b) (some_same s x.h h x.was is) in
          let last : bytes_from h (offset + length got) n ≡ piece = bytes_from-block h b start n (offset + length got) at within ∙ ap (λ (y : Block). take n (drop start y.bytes)) (sym held_is) in
          ap (λ (y : List ℕ). y ++ piece) (r.value h is) ∙ ap (λ (y : List ℕ). bytes_from h offset (length got) ++ y) (sym last) ∙ sym (bytes_from-more h offset (length got) n) ∙ ap (bytes_from h offset) (sym all);
      serves = λ none. absurd (cc (none, x.was));
      new = r.new ++ x.new;
      reads = reads-append r.new x.new r.reads x.reads;
      quiet = λ e. absurd (omega (arith, all, e));
      kept_is = subst now_kept (append_assoc events r.new x.new) x.kept_is;
    }

pub bytes_from-blocks : (h : History) (block n : ℕ) → bytes_from h (512 * block) (512 * n) ≡ blocks_joined h block n
unfolding bytes_from
bytes_from-blocks h block zero = refl
bytes_from-blocks h block (suc n) =
    let e : 512 * suc n ≡ 512 + 512 * n = omega arith in
    let f : 512 * block + 512 ≡ 512 * (block + 1) = omega arith in
    let bytes : List ℕ = (after_all h block).bytes in
    let first : bytes_from h (512 * block) 512 ≡ bytes = bytes_from-block h block 0 512 (512 * block) (omega arith) (omega arith) ∙ take_all 512 bytes (omega (arith, (after_all h block).whole)) in
    ap (bytes_from h (512 * block)) e ∙ bytes_from-more h (512 * block) 512 (512 * n) ∙ ap (λ (x : List ℕ). x ++ bytes_from h (512 * block + 512) (512 * n)) first
    ∙ ap (λ (x : List ℕ). bytes ++ x) (ap (λ (x : ℕ). bytes_from h x (512 * n)) f ∙ bytes_from-blocks h (block + 1) n)

-- No call was made.
pub keeps_none : {D : Type 0} (kept : D → D → Answers → Type 0) (device : D) → KeepsOn kept device device
keeps_none kept device = record { grows = λ first events k. ([], subst (kept first device) (sym (append-nil events)) k) }

-- one call
pub keeps_call : {D : Type 0} (kept : D → D → Answers → Type 0) (old new : D) (e : Event × Answer) → ((first : D) (events : Answers) → kept first old events → kept first new (events ++ e ∷ [])) → KeepsOn kept old new
keeps_call kept old new e call = record { grows = λ first events k. (e ∷ [], call first events k) }

-- one part after the other
pub keeps_then : {D : Type 0} (kept : D → D → Answers → Type 0) (old mid new : D) → KeepsOn kept old mid → KeepsOn kept mid new → KeepsOn kept old new
keeps_then kept old mid new one two = record {
  grows = λ first events k.
      let a = one.grows first events k in
      let b = two.grows first (events ++ a.0) a.1 in
      (a.0 ++ b.0, subst (kept first new) (append_assoc events a.0 b.0) b.1);
}
