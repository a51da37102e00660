-- Requests, one after the other, and how each is done
use Rattle.std.proofs.Common.{◌≡◌, ◌≢◌, ℕ, ◌+◌, ◌<◌, ◌≤◌, ◌⊎◌, inl, inr, List, [], ◌∷◌, ◌++◌, Option, Some, None, Bool, true, false, if◌then◌else◌, ◌||◌, ◌==◌, nat_lt, IsTrue, IsSome, length, take, arith, refl, sym, ◌∙◌, ap, append_assoc, length-append, subst}
use Rattle.std.proofs.Math.Seq.{take-append-add}
use Rattle.std.proofs.lemmas.Bool.Decides.{nat_tests}
use Rattle.std.proofs.lemmas.Bool.{false≢true, cases_eq}
use Rattle.std.proofs.lemmas.List.{append-nil, flat_map_more, nil_from_length, take-append-le}
use Rattle.std.specs.List.{AllByRecursion}
use Rattle.paraid_base.specs.declared.event.Answer.TheVariants.{Halted as HaltedAnswer, Flushed}
use Rattle.paraid_base.specs.declared.event.Event.TheVariants.{Flush as FlushEvent}
use Rattle.paraid_base.specs.declared.fault.Halt.{Halt}
use Rattle.paraid_base.specs.BlockAnswers.{Answers}
use Rattle.paraid_base.specs.History.{History}
use Rattle.paraid_base.specs.Told.{GrowsByBytes}
use Rattle.paraid_base.proofs.ToldLemmas.{GrowsByBytes-none, GrowsByBytes-then, HasRisen-sooner}
use Rattle.paraid_nbd.specs.declared.ending.NbdEnd.{NbdEnd}
use Rattle.paraid_nbd.specs.declared.request.Command.{Command}
use Rattle.paraid_nbd.specs.declared.request.Command.TheVariants.{Read, Write, Disconnect, Flush, Unknown}
use Rattle.paraid_nbd.specs.declared.request.Outcome.{Outcome}
use Rattle.paraid_nbd.specs.declared.request.Outcome.TheVariants.{Done, Halted, Invalid, NoSpace}
use Rattle.paraid_nbd.specs.declared.request.Request.{Request}
use Rattle.paraid_nbd.specs.Export.{IsDeviceState, HasBytes, HasWritten, HaltsHere, Stops, RequestStep, WritesBytes, WrittenFirst, bytes_from, changes}
use Rattle.paraid_nbd.specs.Export.RequestStep.{Refused, Reads, Writes, Flushes, Empties, Halts}
use Rattle.paraid_nbd.specs.Export.RequestSteps.{None_yet, One_more}
use Rattle.paraid_nbd.specs.Performing.{Performs, said_with, answer_content}
use Rattle.paraid_nbd.specs.Numbers.{number_bytes}
use Rattle.paraid_nbd.specs.Requests.{RequestParts, IsRequest, error_of, request_bytes, reply_head, outcome_of, command_outcome, content_length}
use Rattle.paraid_nbd.specs.Requests.IsPartRequest.{InContent}
use Rattle.paraid_nbd.specs.Service.{Serves, ServesAll, StopsRequest, TakesHead, Transmits, Service}
use Rattle.paraid_nbd.specs.Service.Service.{Early, Late}
use Rattle.paraid_nbd.specs.Handshake.{IsUnsent, BeginsTransmission, EndsEarly}
use Rattle.paraid_nbd.specs.Service.StopsRequest.{CutRequest}
use Rattle.paraid_nbd.specs.Taking.{Takes, Lacks}
use Rattle.paraid_nbd.proofs.TakingLemmas.{Takes-none, Takes-then, IsCut-sooner}
use Rattle.paraid_nbd.proofs.OptionLemmas.{Takes-last}
use Rattle.paraid_nbd.proofs.DeviceLemmas.{first_reads}
use Rattle.paraid_nbd.proofs.ErrorLemmas.{replies_more, replies_none}

both_false : (a b c : Bool) → (if a then (if b || c then Invalid else Done) else Invalid) ≡ Done → (b ≡ false) × (c ≡ false)
both_false true true c e = absurd (cc)
both_false true false true e = absurd (cc)
both_false true false false e = (refl, refl)
both_false false b c e = absurd (cc)

each_false : (a b c : Bool) → (if a then (if b then Invalid else if c then NoSpace else Done) else Invalid) ≡ Done → (b ≡ false) × (c ≡ false)
each_false true true c e = absurd (cc)
each_false true false true e = absurd (cc)
each_false true false false e = (refl, refl)
each_false false b c e = absurd (cc)

fits_read : (size offset count flags : ℕ) (c : Command) → c ≡ Read → (if flags == 0 then command_outcome size c offset count else Invalid) ≡ Done → (offset + count ≤ size) × (count ≤ 33554432)
fits_read size offset count flags Read is done =
    let f = both_false (flags == 0) (nat_lt 33554432 count) (nat_lt size (offset + count)) done in
    (grind (arith, nat_tests, f.1), grind (arith, nat_tests, f.0))
fits_read size offset count flags Write is done = absurd (cc)
fits_read size offset count flags Disconnect is done = absurd (cc)
fits_read size offset count flags Flush is done = absurd (cc)
fits_read size offset count flags Unknown is done = absurd (cc)

fits_write : (size offset count flags : ℕ) (c : Command) → c ≡ Write → (if flags == 0 then command_outcome size c offset count else Invalid) ≡ Done → (offset + count ≤ size) × (count ≤ 33554432)
fits_write size offset count flags Write is done =
    let f = each_false (flags == 0) (nat_lt 33554432 count) (nat_lt size (offset + count)) done in
    (grind (arith, nat_tests, f.1), grind (arith, nat_tests, f.0))
fits_write size offset count flags Read is done = absurd (cc)
fits_write size offset count flags Disconnect is done = absurd (cc)
fits_write size offset count flags Flush is done = absurd (cc)
fits_write size offset count flags Unknown is done = absurd (cc)

unknown_invalid : (size offset count flags : ℕ) (c : Command) → c ≡ Unknown → (if flags == 0 then command_outcome size c offset count else Invalid) ≡ Done → ⊥
unknown_invalid size offset count flags Unknown is done = elim (cases_eq flags 0) [ inl zero_flags ↦ grind (arith, nat_tests) | inr other ↦ grind (arith, nat_tests) ]
unknown_invalid size offset count flags Read is done = cc
unknown_invalid size offset count flags Write is done = cc
unknown_invalid size offset count flags Disconnect is done = cc
unknown_invalid size offset count flags Flush is done = cc

-- what a read or a write that can be done is within
pub read_fits : (size : ℕ) (r : Request) → r.command ≡ Read → outcome_of size r ≡ Done → (r.offset + r.length ≤ size) × (r.length ≤ 33554432)
read_fits size r is done = fits_read size r.offset r.length r.flags r.command is done

pub write_fits : (size : ℕ) (r : Request) → r.command ≡ Write → outcome_of size r ≡ Done → (r.offset + r.length ≤ size) × (r.length ≤ 33554432)
write_fits size r is done = fits_write size r.offset r.length r.flags r.command is done

pub nothing_after : (c : Command) (outcome : Outcome) (found : List ℕ) → outcome ≢ Done → answer_content c outcome found ≡ []
nothing_after Read Done found other = absurd (other refl)
nothing_after Read Halted found other = refl
nothing_after Read Invalid found other = refl
nothing_after Read NoSpace found other = refl
nothing_after Write outcome found other = refl
nothing_after Disconnect outcome found other = refl
nothing_after Flush outcome found other = refl
nothing_after Unknown outcome found other = refl

pub nothing_unless_read : (c : Command) (outcome : Outcome) (found : List ℕ) → c ≢ Read → answer_content c outcome found ≡ []
nothing_unless_read Read outcome found other = absurd (other refl)
nothing_unless_read Write outcome found other = refl
nothing_unless_read Disconnect outcome found other = refl
nothing_unless_read Flush outcome found other = refl
nothing_unless_read Unknown outcome found other = refl

pub said_alone : (r : Request) (outcome : Outcome) (found : List ℕ) → answer_content r.command outcome found ≡ [] → said_with r outcome found ≡ reply_head r outcome
said_alone r outcome found e = ap (λ (x : List ℕ). reply_head r outcome ++ x) e ∙ append-nil (reply_head r outcome)

module _ {stands : History → Type 0} {now : Option Halt} {kept : Answers → Type 0} {events : Answers} where
  pub refused_performs : (size : ℕ) (s : Option History) (r : Request) (content found : List ℕ) (outcome : Outcome) → outcome ≡ outcome_of size r → outcome ≢ Done → IsDeviceState stands now s → kept events
      → Performs size stands now kept s events r content found outcome
  refused_performs size s r content found outcome is other state k = record {
    new = [];
    t = s;
    now = state;
    kept_is = subst kept (sym (append-nil events)) k;
    step = λ bytes held. Refused (λ e. other (is ∙ e)) (said_alone r outcome found (nothing_after r.command outcome found other) ∙ ap (reply_head r) is) refl refl;
  }

  pub halts_performs : (size : ℕ) (s : Option History) (r : Request) (content found : List ℕ) → outcome_of size r ≡ Done → HaltsHere stands now kept s events
      → Performs size stands now kept s events r content found Halted
  halts_performs size s r content found done x = record {
    new = x.done ++ (x.halting.event, HaltedAnswer x.halting.halt) ∷ [];
    t = None;
    now = x.now;
    kept_is = x.halting.kept_is;
    step = λ bytes held. Halts x.done x.halting.event x.halting.halt done refl (first_reads s r.offset bytes x.done x.reads x.quiet) refl
        (said_alone r Halted found (nothing_after r.command Halted found (λ e. cc)));
  }

  pub stops_performs : (size : ℕ) (s : Option History) (r : Request) (content found : List ℕ) → r.command ≡ Write → outcome_of size r ≡ Done → Stops stands now kept s events r.offset content
      → Performs size stands now kept s events r content found Halted
  stops_performs size s r content found is done x = record {
    new = x.done ++ (x.halting.event, HaltedAnswer x.halting.halt) ∷ [];
    t = None;
    now = x.now;
    kept_is = x.halting.kept_is;
    step = λ bytes held. Halts x.done x.halting.event x.halting.halt done refl (subst (λ (y : List ℕ). WrittenFirst s r.offset y x.done) (sym (held is done)) x.first) refl
        (said_alone r Halted found (nothing_after r.command Halted found (λ e. cc)));
  }

read_step : (size : ℕ) (s : Option History) (r : Request) (bytes found : List ℕ) (new : Answers) → r.command ≡ Read → outcome_of size r ≡ Done → length found ≡ r.length
    → ((h : History) → s ≡ Some h → found ≡ bytes_from h r.offset (length found)) → (s ≡ None → length found ≡ 0) → changes new ≡ [] → (length found ≡ 0 → new ≡ [])
    → RequestStep size s r bytes (said_with r Done found) new s
read_step size None r bytes found new is done many value serves reads quiet =
    let none : length found ≡ 0 = serves refl in
    let empty : answer_content r.command Done found ≡ [] = ap (λ (x : Command). answer_content x Done found) is ∙ nil_from_length found none in
    Empties done (λ e. cc (is, e)) (sym many ∙ none) (quiet none) refl (said_alone r Done found empty)
read_step size (Some h) r bytes found new is done many value serves reads quiet =
    Reads h done is refl refl reads (ap (λ (x : Command). reply_head r Done ++ answer_content x Done found) is ∙ ap (λ (x : List ℕ). reply_head r Done ++ x) (value h refl ∙ ap (bytes_from h r.offset) many))

pub read_performs : {stands : History → Type 0} {now : Option Halt} {kept : Answers → Type 0} {s : Option History} {events : Answers} (size : ℕ) (r : Request) (content found : List ℕ)
    → r.command ≡ Read → outcome_of size r ≡ Done → length found ≡ r.length → HasBytes stands now kept s events r.offset found → Performs size stands now kept s events r content found Done
read_performs {s = s} size r content found is done many x = record {
  new = x.new;
  t = s;
  now = x.now;
  kept_is = x.kept_is;
  step = λ bytes held. read_step size s r bytes found x.new is done many x.value x.serves x.reads x.quiet;
}

write_step : (size : ℕ) (s t : Option History) (r : Request) (bytes found : List ℕ) (new : Answers) → r.command ≡ Write → outcome_of size r ≡ Done → length bytes ≡ r.length
    → WritesBytes s r.offset bytes t new → RequestStep size s r bytes (said_with r Done found) new t
write_step size None t r bytes found new is done many w =
    Empties done (λ e. cc (is, e)) (sym many ∙ w.0) w.2 w.1 (said_alone r Done found (nothing_unless_read r.command Done found (λ e. cc (is, e))))
write_step size (Some h) t r bytes found new is done many w =
    Writes h w.0 done is refl w.2 w.1 w.3 (said_alone r Done found (nothing_unless_read r.command Done found (λ e. cc (is, e))))

pub write_performs : {stands : History → Type 0} {now : Option Halt} {kept : Answers → Type 0} {s : Option History} {events : Answers} (size : ℕ) (r : Request) (content found : List ℕ)
    → r.command ≡ Write → outcome_of size r ≡ Done → length content ≡ r.length → HasWritten stands now kept s events r.offset content → Performs size stands now kept s events r content found Done
write_performs {s = s} size r content found is done many x = record {
  new = x.new;
  t = x.t;
  now = x.now;
  kept_is = x.kept_is;
  step = λ bytes held. subst (λ (y : List ℕ). RequestStep size s r y (said_with r Done found) x.new x.t) (sym (held is done)) (write_step size s x.t r content found x.new is done many x.wrote);
}

-- a flush that gave no halt, of a device that served
pub flush_performs : {stands now_stands : History → Type 0} {halted now : Option Halt} {now_kept : Answers → Type 0} (size : ℕ) (s : Option History) {events : Answers} (r : Request) (content found : List ℕ) (writes : ℕ)
    → r.command ≡ Flush → outcome_of size r ≡ Done → IsDeviceState stands halted s → (IsSome halted → now ≡ halted) → now ≡ None
    → ((h : History) → stands h → (writes ≡ length h) × now_stands h) → now_kept (events ++ (FlushEvent, Flushed writes) ∷ [])
    → Performs size now_stands now now_kept s events r content found Done
flush_performs size None r content found writes is done state again none history k =
    let some = state.halts refl in
    absurd (false≢true (subst IsSome (sym (again some) ∙ none) some))
flush_performs {stands = stands} {now_stands = now_stands} size (Some h) {events = events} r content found writes is done state again none history k =
    let at_h = history h (state.serves h refl).0 in
    record {
      new = (FlushEvent, Flushed writes) ∷ [];
      t = Some h;
      now = record { serves = λ x e. (let same : h ≡ x = cc in subst now_stands same at_h.1, none); halts = λ e. absurd (cc) };
      kept_is = k;
      step = λ bytes held. Flushes h done is refl refl (ap (λ (x : ℕ). (FlushEvent, Flushed x) ∷ []) at_h.0) (said_alone r Done found (nothing_unless_read r.command Done found (λ e. cc (is, e))));
    }

pub content_stops : {a c d : Option (List ℕ)} {i k l f g z : ℕ} {e : NbdEnd} {r : Request} → TakesHead a c i k r → f ≤ g → Lacks c d k l (content_length r.command r.length) g z e → StopsRequest a d i l f z e
content_stops {a} {c} {d} {i} {k} {l} {f} {g} {z} {e} {r} t later x =
    CutRequest (t.magic ++ (t.head ++ x.got)) (Takes-last t.magic t.head x.got t.takes x.takes)
    (InContent t.magic t.head x.got refl t.magic_is t.whole (λ q. t.stays (ap (λ (y : Request). y.command) t.is ∙ q)) (subst (λ (y : Request). length x.got < content_length y.command y.length) t.is x.few))
    (IsCut-sooner e d l f g z later x.cause)

pub request_taken : {a c : Option (List ℕ)} {i k : ℕ} {r : Request} (content : List ℕ) (t : TakesHead a c i k r) → length content ≡ content_length r.command r.length
    → IsRequest (record { magic = t.magic; head = t.head; content = content })
request_taken {r = r} content t many = record {
  magic = t.magic_is;
  head = t.whole;
  stays = λ q. t.stays (ap (λ (y : Request). y.command) t.is ∙ q);
  content = many ∙ ap (λ (y : Request). content_length y.command y.length) t.is;
}

-- a request has some bytes
pub request_some : (p : RequestParts) → IsRequest p → 0 < length (request_bytes p)
request_some p is = omega (arith, is.magic.0, length-append p.magic (p.head ++ p.content))

each_request : (ps : List RequestParts) (p : RequestParts) → AllByRecursion IsRequest ps → IsRequest p → AllByRecursion IsRequest (ps ++ p ∷ [])
each_request [] p each is = (is, tt)
each_request (q ∷ ps) p each is = (each.0, each_request ps p each.1 is)

pub serves_none : {D : Type 0} (size : ℕ) (stands : D → History → Type 0) (halted : D → Option Halt) (kept : D → D → Answers → Type 0) (tells : D → Bool)
    (was : D) (left : Option (List ℕ)) (at : ℕ) (written : Option (List ℕ)) → ServesAll size stands halted kept tells was was left left at at written written []
serves_none size stands halted kept tells was left at written = record {
  each = tt;
  takes = Takes-none left at;
  does = λ first t s events is k. record { out = []; new = []; t = s; steps = None_yet; now = is; kept_is = subst (kept first was) (sym (append-nil events)) k; grows = GrowsByBytes-none written };
  replies = λ first events k. replies_none kept was size written first events k;
}

pub serves_more : {D : Type 0} (size : ℕ) (stands : D → History → Type 0) (halted : D → Option Halt) (kept : D → D → Answers → Type 0) (tells : D → Bool)
    {was mid now : D} {before left after : Option (List ℕ)} {old at new : ℕ} {written said now_written : Option (List ℕ)} (ps : List RequestParts)
    → ServesAll size stands halted kept tells was mid before left old at written said ps → (v : Serves size stands halted kept tells mid now left after at new said now_written)
    → (IsTrue (tells now) → IsTrue (tells mid))
    → ServesAll size stands halted kept tells was now before after old new written now_written (ps ++ v.parts ∷ [])
serves_more size stands halted kept tells {was} {mid} {now} {before} {left} {after} {old} {at} {new} {written} {said} {now_written} ps a v told = record {
  each = each_request ps v.parts a.each v.is;
  takes = subst (λ (x : List ℕ). Takes before after old new x) (flat_map_more request_bytes [] ps v.parts) (Takes-then a.takes v.takes);
  does = λ first t s events is k.
      let x = a.does first (told t) s events is k in
      let y = v.does first t x.t (events ++ x.new) x.now x.kept_is in
      record {
        out = x.out ++ y.out;
        new = x.new ++ y.new;
        t = y.t;
        steps = One_more ps x.out x.new x.t v.parts y.out y.new y.t x.steps y.step;
        now = y.now;
        kept_is = subst (kept first now) (append_assoc events x.new y.new) y.kept_is;
        grows = GrowsByBytes-then _ _ _ _ _ x.grows y.grows;
      };
  replies = λ first events k. replies_more kept mid now size written said now_written first events ps v.parts (a.replies first events k) (v.replies first);
}

-- what is neither a read nor a write nor a flush is not done
pub not_done : (size : ℕ) (r : Request) → (r.command ≡ Disconnect) ⊎ (r.command ≡ Unknown) → r.command ≢ Disconnect → outcome_of size r ≡ Done → ⊥
not_done size r (inl last) stays done = stays last
not_done size r (inr other) stays done = unknown_invalid size r.offset r.length r.flags r.command other done

-- a first part of some bytes is one of those with more after them
pub unsent_first : {a b : Option (List ℕ)} {p : List ℕ} (q : List ℕ) {f z : ℕ} {e : NbdEnd} → IsUnsent a b p f z e → IsUnsent a b (p ++ q) f z e
unsent_first {a} {b} {p} q {f} {z} {e} u = record {
  sent = u.sent;
  within = omega (arith, length-append p q, u.within);
  grows = subst (λ (x : List ℕ). GrowsByBytes a b x) (sym (take-append-le u.sent p q (omega (arith, u.within)))) u.grows;
  cause = u.cause;
  is = u.is;
}

-- the parts of the head of a reply, put one after the other
pub reply_made : (r : Request) (outcome : Outcome) (n : ℕ) (a b d x : List ℕ) → a ≡ [] → b ≡ a ++ number_bytes 4 0x67446698 → n ≡ error_of outcome → d ≡ b ++ number_bytes 4 n
    → x ≡ d ++ number_bytes 8 r.cookie → x ≡ reply_head r outcome
reply_made r outcome n a b d x empty first is second third =
    let one : List ℕ = number_bytes 4 0x67446698 in
    let two : List ℕ = number_bytes 4 (error_of outcome) in
    let three : List ℕ = number_bytes 8 r.cookie in
    third ∙ ap (λ (z : List ℕ). z ++ three) (second ∙ ap (λ (z : List ℕ). z ++ number_bytes 4 n) (first ∙ ap (λ (z : List ℕ). z ++ one) empty) ∙ ap (λ (z : ℕ). one ++ number_bytes 4 z) is)
    ∙ append_assoc one two three

pub unsent_then : {a b c : Option (List ℕ)} {p q : List ℕ} {f g z : ℕ} {e : NbdEnd} → GrowsByBytes a b p → f ≤ g → IsUnsent b c q g z e → IsUnsent a c (p ++ q) f z e
unsent_then {a} {b} {c} {p} {q} {f} {g} {z} {e} grows later u = record {
  sent = length p + u.sent;
  within = omega (arith, length-append p q, u.within);
  grows = subst (λ (x : List ℕ). GrowsByBytes a c x) (sym (take-append-add p q u.sent)) (GrowsByBytes-then a b c p (take u.sent q) grows u.grows);
  cause = HasRisen-sooner f g z later u.cause;
  is = u.is;
}

module _ {D : Type 0} (stands : D → History → Type 0) (halted : D → Option Halt) (kept : D → D → Answers → Type 0) (tells : D → Bool) where
  pub early : {size n start taken f z sf sz : ℕ} {was : D} {before after written said : Option (List ℕ)} {e : NbdEnd} → n ≡ size → start ≡ 0
      → EndsEarly n before after start taken written said f z sf sz e → Service size stands halted kept tells was was before after written said f z sf sz e
  early {size} {n} {start} {taken} {f} {z} {sf} {sz} {was} {before} {after} {written} {said} {e} size_is zero_is ends =
      Early taken refl (subst (λ (x : ℕ). EndsEarly size before after x taken written said f z sf sz e) zero_is (subst (λ (x : ℕ). EndsEarly x before after start taken written said f z sf sz e) size_is ends))

  pub late : {size n start at taken f low z sf sink_low sz : ℕ} {was now : D} {before left after written said now_written : Option (List ℕ)} {e : NbdEnd} → n ≡ size → start ≡ 0
      → BeginsTransmission n before left start at written said → f ≤ low → sf ≤ sink_low
      → Transmits n stands halted kept tells was now left after at taken said now_written low z sink_low sz e
      → Service size stands halted kept tells was now before after written now_written f z sf sz e
  late {size} {n} {start} {at} {taken} {f} {low} {z} {sf} {sink_low} {sz} {was} {now} {before} {left} {after} {written} {said} {now_written} {e} size_is zero_is begins later later_sink sends =
      Late left at taken said low sink_low
      (subst (λ (x : ℕ). BeginsTransmission size before left x at written said) zero_is (subst (λ (x : ℕ). BeginsTransmission x before left start at written said) size_is begins)) later later_sink
      (subst (λ (x : ℕ). Transmits x stands halted kept tells was now left after at taken said now_written low z sink_low sz e) size_is sends)
