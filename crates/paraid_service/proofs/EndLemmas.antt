-- What the end of a service says of the array, and its status.
use Rattle.std.proofs.Common.{◌≡◌, ◌≢◌, ℕ, ◌⊎◌, ◌<◌, Option, Some, None, IsSome, inl, inr, refl, sym, ◌∙◌, subst, arith}
use Rattle.paraid_base.specs.declared.fault.Halt.{Halt}
use Rattle.paraid_base.specs.declared.fault.Halt.TheVariants.{Two as HaltTwo, Worn}
use Rattle.paraid_base.specs.BlockAnswers.{Answers}
use Rattle.paraid_device.specs.Devices.{HasAnswered, span_between}
use Rattle.paraid_image.specs.Rest.{AreSynced}
use Rattle.paraid_nbd.specs.declared.ending.NbdEnd.{NbdEnd}
use Rattle.paraid_nbd.specs.declared.ending.NbdEnd.TheVariants.{Done, Aborted, Closed, Protocol, TooLong, Source, Sink, NoMemory}
use Rattle.paraid_rack.specs.Trail.{Trail, now as disks_now}
use Rattle.paraid_serve.specs.declared.serves.Serves.{Ghosts}
use Rattle.paraid_serve.specs.Ending.{status_of_halt}
use Rattle.paraid_serve.specs.Output.IsLeftByStretch.{two_down, rests}
use Rattle.paraid_serve.proofs.ExitLemmas.{stretch_leaves}
use Rattle.paraid_serve.proofs.HaltLemmas.{no_event_yet}
use Rattle.paraid_session.specs.Turn.{IsMark, Point}
use Rattle.paraid_service.specs.Clients.{EndsWithStatus, IsClientStatus, IsStatusOfEnd, Keeps, LosesTwo}
use Rattle.paraid_service.specs.Clients.IsStatusOfEnd.{flushed as flushed_end, told as told_end}
use Rattle.paraid_service.specs.Clients.EndsWithStatus.{broken as status_broken, kept as status_kept, halted as status_halted}
use Rattle.paraid_service.specs.Ends.{EndsService, broken_status}
use Rattle.paraid_service.specs.Ends.EndsService.{broken, flushed}
use Rattle.paraid_service.specs.Ends.Flushes.{halted, kept}

some_number : (a b : ℕ) → Some a ≡ Some b → a ≡ b
some_number a b e = cc

none_number : (a : ℕ) → None ≡ Some a → ⊥
none_number a e = cc

none_some : (o : Option Halt) (h : Halt) → o ≡ None → o ≡ Some h → ⊥
none_some o h e f = cc

same_trail : (o : Option Trail) (a b : Trail) → o ≡ Some a → o ≡ Some b → a ≡ b
same_trail o a b e f = let z : Some a ≡ Some b = sym e ∙ f in cc

-- the status of each end at which the client is broken off
broken_is : (end : NbdEnd) (status : ℕ) → broken_status end ≡ Some status → (status ≡ 3) ⊎ (status ≡ 4) ⊎ (status ≡ 7) ⊎ (status ≡ 10) ⊎ (status ≡ 14)
broken_is Done status e = absurd (none_number status e)
broken_is Aborted status e = absurd (none_number status e)
broken_is Closed status e = absurd (none_number status e)
broken_is (Protocol at) status e = inr (inr (inr (inr (sym (some_number 14 status e)))))
broken_is (TooLong bytes) status e = inr (inr (inr (inl (sym (some_number 10 status e)))))
broken_is Source status e = inl (sym (some_number 3 status e))
broken_is Sink status e = inr (inl (sym (some_number 4 status e)))
broken_is NoMemory status e = inr (inr (inl (sym (some_number 7 status e))))

broken_source : (end : NbdEnd) (status : ℕ) → broken_status end ≡ Some status → status ≡ 3 → end ≡ Source
broken_source Done status e is = absurd (none_number status e)
broken_source Aborted status e is = absurd (none_number status e)
broken_source Closed status e is = absurd (none_number status e)
broken_source (Protocol at) status e is = absurd (let f = some_number 14 status e in omega (arith, f, is))
broken_source (TooLong bytes) status e is = absurd (let f = some_number 10 status e in omega (arith, f, is))
broken_source Source status e is = refl
broken_source Sink status e is = absurd (let f = some_number 4 status e in omega (arith, f, is))
broken_source NoMemory status e is = absurd (let f = some_number 7 status e in omega (arith, f, is))

broken_sink : (end : NbdEnd) (status : ℕ) → broken_status end ≡ Some status → status ≡ 4 → end ≡ Sink
broken_sink Done status e is = absurd (none_number status e)
broken_sink Aborted status e is = absurd (none_number status e)
broken_sink Closed status e is = absurd (none_number status e)
broken_sink (Protocol at) status e is = absurd (let f = some_number 14 status e in omega (arith, f, is))
broken_sink (TooLong bytes) status e is = absurd (let f = some_number 10 status e in omega (arith, f, is))
broken_sink Source status e is = absurd (let f = some_number 3 status e in omega (arith, f, is))
broken_sink Sink status e is = refl
broken_sink NoMemory status e is = absurd (let f = some_number 7 status e in omega (arith, f, is))

broken_not : (end : NbdEnd) (status : ℕ) → broken_status end ≡ Some status → (status ≡ 0) ⊎ (status ≡ 5) → ⊥
broken_not end status e is = elim (broken_is end status e) [
  | inl a ↦ elim is [ inl z ↦ omega (arith, a, z) | inr z ↦ omega (arith, a, z) ]
  | inr (inl a) ↦ elim is [ inl z ↦ omega (arith, a, z) | inr z ↦ omega (arith, a, z) ]
  | inr (inr (inl a)) ↦ elim is [ inl z ↦ omega (arith, a, z) | inr z ↦ omega (arith, a, z) ]
  | inr (inr (inr (inl a))) ↦ elim is [ inl z ↦ omega (arith, a, z) | inr z ↦ omega (arith, a, z) ]
  | inr (inr (inr (inr a))) ↦ elim is [ inl z ↦ omega (arith, a, z) | inr z ↦ omega (arith, a, z) ]
]

halt_status_is : (halt : Halt) (status : ℕ) → status ≡ status_of_halt halt → (status ≡ 5) ⊎ (status ≡ 12)
halt_status_is (HaltTwo two) status e = inl e
halt_status_is (Worn count) status e = inr e

pub low_not_halt : (halt : Halt) (status n : ℕ) → status ≡ status_of_halt halt → status ≡ n → n < 5 → ⊥
low_not_halt halt status n e is low = elim (halt_status_is halt status e) [ inl five ↦ omega (arith, five, is, low) | inr twelve ↦ omega (arith, twelve, is, low) ]

-- after a session that ended with no halt no block is loose
module _ {A : Type 0} (g : Ghosts A) (first last : A) (p : Point) (at : g.stands first p) (is : IsSome (g.told last)) (agrees : (x : A) (q : Point) → g.stands x q → q.halt ≡ g.halted x) (mark : IsMark (g.slots first) (g.setup first) p)
    (here : (t : Trail) → g.told first ≡ Some t → p.disks ≡ disks_now t) where
  pub synced_after : (es : Answers) → HasAnswered g first last es → g.halted last ≡ None → (u : Trail) → g.told last ≡ Some u → AreSynced (disks_now u)
  synced_after es k going u tells =
      let a = k.leads is p at in
      elim (stretch_leaves (span_between g first last) p a.asked a.all mark (here a.all.from a.all.was)) [
        | two_down pair told ↦ absurd (none_some a.all.end.halt (HaltTwo pair) (agrees last a.all.end a.stands ∙ going) told)
        | rests r ↦ subst (λ (t : Trail). AreSynced (disks_now t)) (same_trail (g.told last) a.all.to u a.all.is tells) r.synced
      ]

module _ {A : Type 0} (g : Ghosts A) (first last : A) (events : Answers) (end : NbdEnd) (status : ℕ) where
  pub ends_status : EndsService g first last events end status → IsClientStatus status
  ends_status (broken e k) = elim (broken_is end status e) [
    | inl a ↦ inr (inl a)
    | inr (inl a) ↦ inr (inr (inl a))
    | inr (inr (inl a)) ↦ inr (inr (inr (inr (inl a))))
    | inr (inr (inr (inl a))) ↦ inr (inr (inr (inr (inr (inl a)))))
    | inr (inr (inr (inr a))) ↦ inr (inr (inr (inr (inr (inr (inr a))))))
  ]
  ends_status (flushed e (kept writes zero going k)) = inl zero
  ends_status (flushed e (halted halt is told k)) = elim (halt_status_is halt status is) [
    | inl five ↦ inr (inr (inr (inl five)))
    | inr twelve ↦ inr (inr (inr (inr (inr (inr (inl twelve))))))
  ]

  pub ends_of : EndsService g first last events end status → IsStatusOfEnd end status
  ends_of (broken e k) = told_end e
  ends_of (flushed e (kept writes zero going k)) = flushed_end e (inl zero)
  ends_of (flushed e (halted halt is told k)) = flushed_end e (inr (halt_status_is halt status is))

  pub ends_source : EndsService g first last events end status → status ≡ 3 → end ≡ Source
  ends_source (broken e k) is = broken_source end status e is
  ends_source (flushed e (kept writes zero going k)) is = absurd (omega (arith, zero, is))
  ends_source (flushed e (halted halt told now k)) is = absurd (low_not_halt halt status 3 told is (omega arith))

  pub ends_sink : EndsService g first last events end status → status ≡ 4 → end ≡ Sink
  ends_sink (broken e k) is = broken_sink end status e is
  ends_sink (flushed e (kept writes zero going k)) is = absurd (omega (arith, zero, is))
  ends_sink (flushed e (halted halt told now k)) is = absurd (low_not_halt halt status 4 told is (omega arith))

  -- a fault of the source ends with 3, and one of the sink with 4
  pub not_at_source : EndsService g first last events end status → status ≢ 3 → end ≢ Source
  not_at_source (broken e k) not is = not (sym (some_number 3 status (rw is at e)))
  not_at_source (flushed e k) not is = none_number 3 (sym (rw is at e))

  pub not_at_sink : EndsService g first last events end status → status ≢ 4 → end ≢ Sink
  not_at_sink (broken e k) not is = not (sym (some_number 4 status (rw is at e)))
  not_at_sink (flushed e k) not is = none_number 4 (sym (rw is at e))

  pub ends_answered : EndsService g first last events end status → (es : Answers) × HasAnswered g first last es
  ends_answered (broken e k) = (events, k)
  ends_answered (flushed e (kept writes zero going k)) = (_, k)
  ends_answered (flushed e (halted halt told now k)) = (_, k)

  pub ends_going : EndsService g first last events end status → status ≡ 0 → g.halted last ≡ None
  ends_going (broken e k) is = absurd (broken_not end status e (inl is))
  ends_going (flushed e (kept writes zero going k)) is = going
  ends_going (flushed e (halted halt told now k)) is = absurd (low_not_halt halt status 0 told is (omega arith))

  pub ends_two : g.halted first ≡ None → EndsService g first last events end status → status ≡ 5 → LosesTwo (g.slot first) (g.slot last)
  ends_two none (broken e k) is = absurd (broken_not end status e (inr is))
  ends_two none (flushed e (kept writes zero going k)) is = absurd (omega (arith, zero, is))
  ends_two none (flushed e (halted (HaltTwo two) told now k)) is = record { two = two; lost = (k.since (g.slot first) (no_event_yet (g.slot first) (g.halted first) none)).lost two now }
  ends_two none (flushed e (halted (Worn count) told now k)) is = absurd (omega (arith, told, is))

  module _ (p : Point) (at : g.stands first p) (is : IsSome (g.told last)) where
    kept_from : (es : Answers) → HasAnswered g first last es → Keeps (span_between g first last) p es
    kept_from es k = let a = k.leads is p at in record { asked = a.asked; all = a.all; answered = a.answered }

    pub ends_with_status : EndsService g first last events end status → EndsWithStatus (span_between g first last) p events end status
    ends_with_status (broken e k) = status_broken e (kept_from events k)
    ends_with_status (flushed e (kept writes zero going k)) = status_kept writes e zero (kept_from _ k)
    ends_with_status (flushed e (halted halt told now k)) = status_halted halt e told (kept_from _ k)

    module _ (agrees : (x : A) (q : Point) → g.stands x q → q.halt ≡ g.halted x) (mark : IsMark (g.slots first) (g.setup first) p) (here : (t : Trail) → g.told first ≡ Some t → p.disks ≡ disks_now t) where
      pub ends_synced : EndsService g first last events end status → status ≡ 0 → (u : Trail) → g.told last ≡ Some u → AreSynced (disks_now u)
      ends_synced e zero = let k = ends_answered e in synced_after g first last p at is agrees mark here k.0 k.1 (ends_going e zero)
