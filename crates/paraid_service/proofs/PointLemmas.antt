-- What the turns of a session say of its end: its halt, its history, and how many writes each stop keeps.
use Rattle.std.proofs.Common.{◌≡◌, ℕ, ◌≤◌, List, [], ◌∷◌, ◌++◌, ◌∙◌, Option, Some, None, refl, sym, ap, subst, arith, append_assoc}
use Rattle.std.proofs.lemmas.Bool.Decides.{nat_tests}
use Rattle.std.proofs.lemmas.List.{append-nil}
use Rattle.paraid_base.specs.declared.event.Answer.{Answer}
use Rattle.paraid_base.specs.declared.event.Answer.TheVariants.{Value, NoBlock, Wrote, Flushed, Ticked, Shift, Top, Lowest, Shifting, Failed, Replaced, NoDisk, Out, NotOut, NoFresh, Ration, State as StateAnswer, Energy as EnergyAnswer, Bad as IsBad, Halted}
use Rattle.paraid_base.specs.declared.event.Event.{Event}
use Rattle.paraid_base.specs.declared.event.Event.TheVariants.{Read, Write, Flush, Tick, Up, Down, Fail, Replace, State, Energy, Bad}
use Rattle.paraid_base.specs.declared.fault.Halt.{Halt}
use Rattle.paraid_base.specs.declared.pairs.Pairs.{Pairs}
use Rattle.paraid_base.specs.BlockAnswers.{Answers, accepted_write}
use Rattle.paraid_base.specs.History.{History}
use Rattle.paraid_device.specs.Devices.{answers_in}
use Rattle.paraid_image.specs.Shown.{with_flush}
use Rattle.paraid_record.specs.declared.meta.Setup.{Setup}
use Rattle.paraid_serve.specs.Stretch.{Turn, TurnsLead}
use Rattle.paraid_session.specs.Turn.{IsTurn, Point}
use Rattle.paraid_session.specs.Turn.IsTurn.{again, answered, bad, two, worn}
use Rattle.paraid_volume.specs.Device.{entries_in}
use Rattle.paraid_service.specs.VolumeSessions.{HasEvent}

-- ---- the history

same_written : (pairs : Pairs) (answer : Answer) → accepted_write (Write pairs) answer ≡ accepted_write (Write pairs) answer
same_written pairs (Value block bytes) = refl
same_written pairs (NoBlock block) = refl
same_written pairs (Wrote number) = refl
same_written pairs (Flushed writes) = refl
same_written pairs (Ticked report) = refl
same_written pairs (Shift gear to) = refl
same_written pairs Top = refl
same_written pairs Lowest = refl
same_written pairs (Shifting to) = refl
same_written pairs (Failed disk) = refl
same_written pairs (Replaced disk) = refl
same_written pairs (NoDisk disk) = refl
same_written pairs (Out disk) = refl
same_written pairs (NotOut disk) = refl
same_written pairs (NoFresh disk) = refl
same_written pairs (Ration disk) = refl
same_written pairs (StateAnswer status disks) = refl
same_written pairs (EnergyAnswer total) = refl
same_written pairs IsBad = refl
same_written pairs (Halted halt) = refl

same_entry : (event : Event) (answer : Answer) → accepted_write event answer ≡ accepted_write event answer
same_entry (Write pairs) answer = same_written pairs answer
same_entry (Read block) answer = refl
same_entry Flush answer = refl
same_entry Tick answer = refl
same_entry Up answer = refl
same_entry Down answer = refl
same_entry (Fail disk) answer = refl
same_entry (Replace disk) answer = refl
same_entry State answer = refl
same_entry Energy answer = refl
same_entry Bad answer = refl

no_entry : (event : Event) (halt : Halt) → accepted_write event (Halted halt) ≡ []
no_entry (Write pairs) halt = refl
no_entry (Read block) halt = refl
no_entry Flush halt = refl
no_entry Tick halt = refl
no_entry Up halt = refl
no_entry Down halt = refl
no_entry (Fail disk) halt = refl
no_entry (Replace disk) halt = refl
no_entry State halt = refl
no_entry Energy halt = refl
no_entry Bad halt = refl

nothing_more : (h more : History) → more ≡ [] → h ≡ h ++ more
nothing_more h more none = sym (append-nil h) ∙ ap (λ (x : History). h ++ x) (sym none)

halted_entry : (event : Event) (answer : Answer) (halt : Halt) → answer ≡ Halted halt → accepted_write event answer ≡ []
halted_entry event answer halt is = ap (λ (a : Answer). accepted_write event a) is ∙ no_entry event halt

module _ (slots : ℕ) (setup : Setup) where
  turn_history : (p q : Point) (t : Turn) → IsTurn slots setup p t.event t.answer t.calls q → q.history ≡ p.history ++ accepted_write t.event t.answer
  turn_history p q t (answered going apart a) = a.history ∙ ap (λ (x : History). p.history ++ x) (same_entry t.event t.answer)
  turn_history p q t (two pair going apart is i) = i.history ∙ nothing_more p.history _ (halted_entry t.event t.answer _ is)
  turn_history p q t (worn count going apart is w none same) = ap (λ (x : Point). x.history) same ∙ nothing_more p.history _ (halted_entry t.event t.answer _ is)
  turn_history p q t (again halt halted apart is none same) = ap (λ (x : Point). x.history) same ∙ nothing_more p.history _ (halted_entry t.event t.answer _ is)
  turn_history p q t (bad is a none same) = ap (λ (x : Point). x.history) same ∙ nothing_more p.history _ (ap (λ (e : Event). accepted_write e t.answer) is)

  pub turns_history : (p q : Point) (ts : List Turn) → TurnsLead slots setup p ts q → q.history ≡ p.history ++ entries_in (answers_in ts)
  turns_history p q [] went = ap (λ (x : Point). x.history) went ∙ sym (append-nil p.history)
  turns_history p q (t ∷ ts) went =
      turns_history went.0 q ts went.2 ∙ ap (λ (x : History). x ++ entries_in (answers_in ts)) (turn_history p went.0 t went.1) ∙ append_assoc p.history (accepted_write t.event t.answer) (entries_in (answers_in ts))

  -- ---- the halt

  turn_back : (p q : Point) (t : Turn) → IsTurn slots setup p t.event t.answer t.calls q → q.halt ≡ None → p.halt ≡ None
  turn_back p q t (answered going apart a) none = going
  turn_back p q t (two pair going apart is i) none = going
  turn_back p q t (worn count going apart is w no_calls same) none = going
  turn_back p q t (again halt halted apart is no_calls same) none = ap (λ (x : Point). x.halt) (sym same) ∙ none
  turn_back p q t (bad is a no_calls same) none = ap (λ (x : Point). x.halt) (sym same) ∙ none

  turns_back : (p q : Point) (ts : List Turn) → TurnsLead slots setup p ts q → q.halt ≡ None → p.halt ≡ None
  turns_back p q [] went none = ap (λ (x : Point). x.halt) (sym went) ∙ none
  turns_back p q (t ∷ ts) went none = turn_back p went.0 t went.1 (turns_back went.0 q ts went.2 none)

-- ---- how many writes are kept

low_later : (low : ℕ) (answer : Answer) → low ≤ with_flush low answer
low_later low (Value block bytes) = omega arith
low_later low (NoBlock block) = omega arith
low_later low (Wrote number) = omega arith
low_later low (Flushed writes) = grind (arith, nat_tests)
low_later low (Ticked report) = omega arith
low_later low (Shift gear to) = omega arith
low_later low Top = omega arith
low_later low Lowest = omega arith
low_later low (Shifting to) = omega arith
low_later low (Failed disk) = omega arith
low_later low (Replaced disk) = omega arith
low_later low (NoDisk disk) = omega arith
low_later low (Out disk) = omega arith
low_later low (NotOut disk) = omega arith
low_later low (NoFresh disk) = omega arith
low_later low (Ration disk) = omega arith
low_later low (StateAnswer status disks) = omega arith
low_later low (EnergyAnswer total) = omega arith
low_later low IsBad = omega arith
low_later low (Halted halt) = omega arith

low_flushed : (low writes : ℕ) → writes ≤ with_flush low (Flushed writes)
low_flushed low writes = grind (arith, nat_tests)

some_none : (o : Option Halt) (halt : Halt) → o ≡ Some halt → o ≡ None → ⊥
some_none o halt e f = cc

same_low : (a b : ℕ) → a ≡ b → a ≤ b
same_low a b e = omega (arith, e)

first_same : (a b : Event × Answer) (x y : Answers) → a ∷ x ≡ b ∷ y → a ≡ b
first_same a b x y e = cc

rest_same : (a b : Event × Answer) (x y : Answers) → a ∷ x ≡ b ∷ y → x ≡ y
rest_same a b x y e = cc

module _ (slots : ℕ) (setup : Setup) where
  turn_low : (p q : Point) (t : Turn) → IsTurn slots setup p t.event t.answer t.calls q → q.halt ≡ None → p.low ≤ q.low
  turn_low p q t (answered going apart a) none = subst (λ (x : ℕ). p.low ≤ x) (sym a.low) (low_later p.low t.answer)
  turn_low p q t (two pair going apart is i) none = absurd (some_none q.halt _ i.halted none)
  turn_low p q t (worn count going apart is w no_calls same) none = absurd (some_none q.halt _ (ap (λ (x : Point). x.halt) same) none)
  turn_low p q t (again halt halted apart is no_calls same) none = same_low p.low q.low (ap (λ (x : Point). x.low) (sym same))
  turn_low p q t (bad is a no_calls same) none = same_low p.low q.low (ap (λ (x : Point). x.low) (sym same))

  turn_flushed : (p q : Point) (t : Turn) (n : ℕ) → IsTurn slots setup p t.event t.answer t.calls q → q.halt ≡ None → t.answer ≡ Flushed n → n ≤ q.low
  turn_flushed p q t n (answered going apart a) none e = subst (λ (x : ℕ). n ≤ x) (sym (a.low ∙ ap (with_flush p.low) e)) (low_flushed p.low n)
  turn_flushed p q t n (two pair going apart is i) none e = absurd (some_none q.halt _ i.halted none)
  turn_flushed p q t n (worn count going apart is w no_calls same) none e = absurd (some_none q.halt _ (ap (λ (x : Point). x.halt) same) none)
  turn_flushed p q t n (again halt halted apart is no_calls same) none e = absurd (some_none p.halt halt halted (ap (λ (x : Point). x.halt) (sym same) ∙ none))
  turn_flushed p q t n (bad is a no_calls same) none e = let no : IsBad ≡ Flushed n = sym a ∙ e in cc

  turns_low : (p q : Point) (ts : List Turn) → TurnsLead slots setup p ts q → q.halt ≡ None → p.low ≤ q.low
  turns_low p q [] went none = same_low p.low q.low (ap (λ (x : Point). x.low) (sym went))
  turns_low p q (t ∷ ts) went none =
      let first = turn_low p went.0 t went.1 (turns_back slots setup went.0 q ts went.2 none) in
      let rest = turns_low went.0 q ts went.2 none in omega (arith, first, rest)

  flushed_at : (p q : Point) (ts : List Turn) (n : ℕ) → TurnsLead slots setup p ts q → q.halt ≡ None → (before after : Answers) → answers_in ts ≡ before ++ (Flush, Flushed n) ∷ after → n ≤ q.low
  flushed_at p q [] n went none [] after is = absurd (let no : ◌≡◌ {A = Answers} [] ((Flush, Flushed n) ∷ after) = is in cc)
  flushed_at p q [] n went none (e ∷ before) after is = absurd (let no : ◌≡◌ {A = Answers} [] (e ∷ (before ++ (Flush, Flushed n) ∷ after)) = is in cc)
  flushed_at p q (t ∷ ts) n went none [] after is =
      let here : t.answer ≡ Flushed n = ap (λ (x : Event × Answer). x.1) (first_same (t.event, t.answer) (Flush, Flushed n) (answers_in ts) after is) in
      let first = turn_flushed p went.0 t n went.1 (turns_back slots setup went.0 q ts went.2 none) here in
      let rest = turns_low went.0 q ts went.2 none in omega (arith, first, rest)
  flushed_at p q (t ∷ ts) n went none (e ∷ before) after is = flushed_at went.0 q ts n went.2 none before after (rest_same (t.event, t.answer) e (answers_in ts) (before ++ (Flush, Flushed n) ∷ after) is)

  -- after a flush that was answered with a number each stop keeps so many writes
  pub flush_low : (p q : Point) (ts : List Turn) (events : Answers) → TurnsLead slots setup p ts q → answers_in ts ≡ events → q.halt ≡ None → (n : ℕ) → HasEvent events (Flush, Flushed n) → n ≤ q.low
  flush_low p q ts events went is none n h = flushed_at p q ts n went none h.before h.after (is ∙ h.parts)
