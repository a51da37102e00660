-- Calls one after the other, and how requests come out.
use Rattle.std.proofs.Common.{◌≡◌, ◌≢◌, ℕ, List, [], ◌∷◌, ◌++◌, length, Option, refl, sym, ap, ◌∙◌, subst, append_assoc}
use Rattle.std.proofs.lemmas.List.{append-nil}
use Rattle.paraid_base.specs.declared.event.Answer.{Answer}
use Rattle.paraid_base.specs.declared.event.Answer.TheVariants.{Halted as HaltedAnswer}
use Rattle.paraid_base.specs.declared.event.Event.{Event}
use Rattle.paraid_base.specs.declared.fault.Halt.{Halt}
use Rattle.paraid_base.specs.BlockAnswers.{Answers}
use Rattle.paraid_base.proofs.ToldLemmas.{GrowsByBytes-none, GrowsByBytes-then}
use Rattle.paraid_nbd.specs.declared.request.Command.{Command}
use Rattle.paraid_nbd.specs.declared.request.Command.TheVariants.{Read, Write, Disconnect, Flush, Unknown}
use Rattle.paraid_nbd.specs.declared.request.Outcome.{Outcome}
use Rattle.paraid_nbd.specs.declared.request.Outcome.TheVariants.{Done, Halted}
use Rattle.paraid_nbd.specs.declared.request.Request.{Request}
use Rattle.paraid_nbd.specs.Asked.{ArePartsWritten, Asks, AsksUntil, HaltsAtOnce, IsReadHalted, IsWriteHalted, KeepsBy, KeepsHalted}
use Rattle.paraid_nbd.specs.Errors.{ComesBy, IsReplyTo, RepliesAll, RepliesOne}
use Rattle.paraid_nbd.specs.Errors.AreRepliesTo.{None_said, One_said}
use Rattle.paraid_nbd.specs.Errors.ComesBy.{By_all, By_halt, By_itself}
use Rattle.paraid_nbd.specs.Performing.{part_length, said_with}
use Rattle.paraid_nbd.specs.Requests.{RequestParts, outcome_of, request_in}

-- only a write is about the bytes that a request brought
asks_with : (k : Command) (offset : ℕ) (content bytes found : List ℕ) (events : Answers) → (k ≡ Write → content ≡ bytes) → Asks k offset content found events → Asks k offset bytes found events
asks_with Read offset content bytes found events same asked = asked
asks_with Write offset content bytes found events same asked = subst (λ (x : List ℕ). ArePartsWritten offset x events) (same refl) asked
asks_with Disconnect offset content bytes found events same asked = asked
asks_with Flush offset content bytes found events same asked = asked
asks_with Unknown offset content bytes found events same asked = asked

asks_until_with : (k : Command) (offset size : ℕ) (content bytes : List ℕ) (done : Answers) (event : Event) → (k ≡ Write → content ≡ bytes) → AsksUntil k offset size content done event → AsksUntil k offset size bytes done event
asks_until_with Read offset size content bytes done event same asked = asked
asks_until_with Write offset size content bytes done event same asked = subst (λ (x : List ℕ). IsWriteHalted offset x done event) (same refl) asked
asks_until_with Disconnect offset size content bytes done event same asked = asked
asks_until_with Flush offset size content bytes done event same asked = asked
asks_until_with Unknown offset size content bytes done event same asked = asked

comes_with : (size : ℕ) (r : Request) (content bytes found : List ℕ) (outcome : Outcome) (events : Answers) → (r.command ≡ Write → outcome_of size r ≡ Done → content ≡ bytes) → ComesBy size r content found outcome events
    → ComesBy size r bytes found outcome events
comes_with size r content bytes found outcome events same (By_itself other is none) = By_itself other is none
comes_with size r content bytes found outcome events same (By_all done is asked) = By_all done is (asks_with r.command r.offset content bytes found events (λ w. same w done) asked)
comes_with size r content bytes found outcome events same (By_halt done is before event halt asked last) =
    By_halt done is before event halt (asks_until_with r.command r.offset r.length content bytes before event (λ w. same w done) asked) last

-- calls one after the other, and a request
module _ {D : Type 0} (kept : D → D → Answers → Type 0) where
  -- no call
  pub by_none : (device : D) {P : Answers → Type 0} → P [] → KeepsBy kept device device P
  by_none device p = record { grows = λ first events k. ([], p, subst (kept first device) (sym (append-nil events)) k) }

  -- one call
  pub by_call : (old new : D) {P : Answers → Type 0} (e : Event × Answer) → ((first : D) (events : Answers) → kept first old events → kept first new (events ++ e ∷ [])) → P (e ∷ []) → KeepsBy kept old new P
  by_call old new e call p = record { grows = λ first events k. (e ∷ [], p, call first events k) }

  pub halts_on_call : (old new : D) (event : Event) (halt : Halt) → ((first : D) (events : Answers) → kept first old events → kept first new (events ++ (event, HaltedAnswer halt) ∷ [])) → KeepsHalted kept old new (HaltsAtOnce event)
  halts_on_call old new event halt call = record { grows = λ first events k. ([], event, halt, (refl, refl), call first events k) }

  -- one part after the other
  pub by_then : (old mid new : D) {P Q R : Answers → Type 0} → ((a b : Answers) → P a → Q b → R (a ++ b)) → KeepsBy kept old mid P → KeepsBy kept mid new Q → KeepsBy kept old new R
  by_then old mid new joined one two = record {
    grows = λ first events k.
        let a = one.grows first events k in
        let b = two.grows first (events ++ a.0) a.2 in
        (a.0 ++ b.0, joined a.0 b.0 a.1 b.1, subst (kept first new) (append_assoc events a.0 b.0) b.2);
  }

  pub halts_on_then : (old mid new : D) {P : Answers → Type 0} {H J : Answers → Event → Type 0} → ((a b : Answers) (event : Event) → P a → H b event → J (a ++ b) event) → KeepsBy kept old mid P → KeepsHalted kept mid new H → KeepsHalted kept old new J
  halts_on_then old mid new joined one two = record {
    grows = λ first events k.
        let a = one.grows first events k in
        let b = two.grows first (events ++ a.0) a.2 in
        let last = (b.1, HaltedAnswer b.2) ∷ [] in (
          a.0 ++ b.0,
          b.1,
          b.2,
          joined a.0 b.0 b.1 a.1 b.3,
          subst (kept first new) (append_assoc events a.0 (b.0 ++ last) ∙ ap (λ (x : Answers). events ++ x) (sym (append_assoc a.0 b.0 last))) b.4,
        );
  }

  -- the same calls, of which less is told
  pub by_weaker : (old new : D) {P Q : Answers → Type 0} → ((a : Answers) → P a → Q a) → KeepsBy kept old new P → KeepsBy kept old new Q
  by_weaker old new less one = record {
    grows = λ first events k.
        let a = one.grows first events k in
        (a.0, less a.0 a.1, a.2);
  }

  pub halts_weaker : (old new : D) {H J : Answers → Event → Type 0} → ((a : Answers) (event : Event) → H a event → J a event) → KeepsHalted kept old new H → KeepsHalted kept old new J
  halts_weaker old new less one = record {
    grows = λ first events k.
        let a = one.grows first events k in
        (a.0, a.1, a.2, less a.0 a.1 a.3, a.4);
  }

  -- a request
  pub comes_by_itself : (device : D) (size : ℕ) (r : Request) (content found : List ℕ) (outcome : Outcome) → outcome ≡ outcome_of size r → outcome ≢ Done → KeepsBy kept device device (ComesBy size r content found outcome)
  comes_by_itself device size r content found outcome is other = by_none device (By_itself (λ e. other (is ∙ e)) is refl)

  pub comes_by_all : (old new : D) (size : ℕ) (r : Request) (content found : List ℕ) (k : Command) → r.command ≡ k → outcome_of size r ≡ Done → KeepsBy kept old new (Asks k r.offset content found) → KeepsBy kept old new (ComesBy size r content found Done)
  comes_by_all old new size r content found k is done s = by_weaker old new (λ a asked. By_all done refl (subst (λ (x : Command). Asks x r.offset content found a) (sym is) asked)) s

  pub comes_by_halt : (old new : D) (size : ℕ) (r : Request) (content found : List ℕ) (k : Command) → r.command ≡ k → outcome_of size r ≡ Done → KeepsHalted kept old new (AsksUntil k r.offset r.length content) → KeepsBy kept old new (ComesBy size r content found Halted)
  comes_by_halt old new size r content found k is done h = record {
    grows = λ first events kept_is.
        let a = h.grows first events kept_is in
        (a.0 ++ (a.1, HaltedAnswer a.2) ∷ [], By_halt done refl a.0 a.1 a.2 (subst (λ (x : Command). AsksUntil x r.offset r.length content a.0 a.1) (sym is) a.3) refl, a.4);
  }

  -- the bytes of a read are as many as it asks for
  pub read_halts_of : (old new : D) {count size : ℕ} (offset : ℕ) → count ≡ size → KeepsHalted kept old new (IsReadHalted offset count) → KeepsHalted kept old new (IsReadHalted offset size)
  read_halts_of old new offset is h = subst (λ (x : ℕ). KeepsHalted kept old new (IsReadHalted offset x)) is h

  pub comes_at : (old new : D) (n m : ℕ) (r : Request) (content found : List ℕ) (outcome : Outcome) → n ≡ m → KeepsBy kept old new (ComesBy m r content found outcome) → KeepsBy kept old new (ComesBy n r content found outcome)
  comes_at old new n m r content found outcome is c = subst (λ (x : ℕ). KeepsBy kept old new (ComesBy x r content found outcome)) (sym is) c

  -- the reply to it
  pub reply_over : (old new : D) (size : ℕ) (r : Request) (head content bytes : List ℕ) (outcome : Outcome) (found : List ℕ) → r ≡ request_in head → KeepsBy kept old new (ComesBy size r content found outcome)
      → (r.command ≡ Write → outcome_of size r ≡ Done → content ≡ bytes) → (r.command ≡ Read → outcome ≡ Done → length found ≡ r.length)
      → (first : D) (events : Answers) → kept first old events → (more : Answers) × IsReplyTo size (request_in head) bytes (said_with r outcome found) more × kept first new (events ++ more)
  reply_over old new size r head content bytes outcome found is c held many first events k =
      let a = c.grows first events k in
      let reply : IsReplyTo size r bytes (said_with r outcome found) a.0 = record { outcome = outcome; found = found; comes = comes_with size r content bytes found outcome a.0 held a.1; many = many; is = refl } in
      (a.0, subst (λ (x : Request). IsReplyTo size x bytes (said_with r outcome found) a.0) is reply, a.2)

  -- no request, and one more
  pub replies_none : (device : D) (size : ℕ) (written : Option (List ℕ)) (first : D) (events : Answers) → kept first device events → RepliesAll size (kept first device) written written events []
  replies_none device size written first events k = record { out = []; new = []; replies = None_said; kept_is = subst (kept first device) (sym (append-nil events)) k; grows = GrowsByBytes-none written }

  pub replies_more : (mid new : D) (size : ℕ) (written said now_written : Option (List ℕ)) (first : D) (events : Answers) (ps : List RequestParts) (p : RequestParts) → RepliesAll size (kept first mid) written said events ps
      → ((more : Answers) → kept first mid more → RepliesOne size (kept first new) said now_written more p) → RepliesAll size (kept first new) written now_written events (ps ++ p ∷ [])
  replies_more mid new size written said now_written first events ps p a one =
      let b = one (events ++ a.new) a.kept_is in
      record {
        out = a.out ++ b.out;
        new = a.new ++ b.new;
        replies = One_said ps a.out a.new p b.out b.new a.replies b.reply;
        kept_is = subst (kept first new) (append_assoc events a.new b.new) b.kept_is;
        grows = GrowsByBytes-then _ _ _ _ _ a.grows b.grows;
      }

-- of a read that is done the whole content is told
pub part_of_read : (k : Command) (o : Outcome) (n : ℕ) → k ≡ Read → o ≡ Done → part_length k o n ≡ n
part_of_read k o n read done = rw (read, done) refl
