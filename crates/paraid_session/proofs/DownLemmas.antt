-- The disk that is down between two events is the one that is out in the state.
use Rattle.std.proofs.Common.{◌≡◌, ◌≢◌, ℕ, ◌⊎◌, Bool, true, false, List, [], ◌∷◌, Option, Some, None, refl, sym, ap, ◌∙◌, inl, inr, arith, if◌then◌else◌}
use Rattle.std.specs.Prelude.{◌==◌}
use Rattle.std.proofs.lemmas.Bool.Decides.{nat_tests}
use Rattle.paraid_base.specs.declared.event.Answer.{Answer}
use Rattle.paraid_base.specs.declared.event.Answer.TheVariants.{Value, NoBlock, Wrote, Flushed, Ticked, Shift, Top, Lowest, Shifting, Failed, Replaced, NoDisk, Out as IsOut, NotOut, NoFresh, Ration as RationUsed, State as IsState, Energy as EnergyUsed, Bad as IsBad, Halted}
use Rattle.paraid_base.specs.declared.event.Event.{Event}
use Rattle.paraid_base.specs.declared.fault.Halt.{Halt}
use Rattle.paraid_rack.specs.declared.call.Call.{Call}
use Rattle.paraid_record.specs.declared.meta.Setup.{Setup}
use Rattle.paraid_image.specs.Calls.{disk_of, is_done}
use Rattle.paraid_image.specs.Out.{named_out, or_else}
use Rattle.paraid_machine.proofs.OutLemmas.{rebuilt_by, step_out, taken_disk}
use Rattle.paraid_session.specs.Turn.{IsAnswered, Point, taken_out, watch_of}
use Rattle.paraid_session.specs.Watch.{Down, IsServing, Watch, down_from_out, first_lost, nobody, only, several, watch, watch_all}

-- two disks that are down stay two
several_stay : (w : Watch) (cs : List Call) → w.down ≡ several → (watch_all cs w).down ≡ several
several_stay w [] is = is
several_stay w (c ∷ cs) is = several_stay (watch c w) cs (rw is (either (is_done c)))
  where
    either : (done : Bool) → (if done then several else several) ≡ several
    either true = refl
    either false = refl

not_serving : (down : Down) → IsServing down → down ≡ several → ⊥
not_serving nobody serving is = cc
not_serving (only d) serving is = cc
not_serving several serving is = serving

same_if : (d f : ℕ) → (d == f) ≡ true → d ≡ f
same_if d f e = grind (arith, nat_tests)

-- a further disk is the same, or there are several
with_only : (e d : ℕ) (same : Bool) → (same ≡ true → e ≡ d) → ((if same then only d else several) ≡ only d) ⊎ ((if same then only d else several) ≡ several)
with_only e d true is = inl refl
with_only e d false is = inr refl

-- a call while disk `d` is down
after_only : (done : Bool) (e d : ℕ) → ((if done then only d else (if e == d then only d else several)) ≡ only d) ⊎ ((if done then only d else (if e == d then only d else several)) ≡ several)
after_only true e d = inl refl
after_only false e d = with_only e d (e == d) (same_if e d)

-- where one disk is down, and one at most after some calls, it is the same
stays_only : (w : Watch) (cs : List Call) (d : ℕ) → w.down ≡ only d → IsServing (watch_all cs w).down → (watch_all cs w).down ≡ only d
stays_only w [] d is serving = is
stays_only w (c ∷ cs) d is serving =
    let next : ((watch c w).down ≡ only d) ⊎ ((watch c w).down ≡ several) = rw is (after_only (is_done c) (disk_of c) d) in
    elim next [
      | inl same ↦ stays_only (watch c w) cs d same serving
      | inr two ↦ absurd (not_serving (watch_all cs (watch c w)).down serving (several_stay (watch c w) cs two))
    ]

first_by : (w : Watch) (c : Call) (cs : List Call) → w.down ≡ nobody → IsServing (watch_all cs (watch c w)).down → (done : Bool) → is_done c ≡ done
    → ((watch c w).down ≡ nobody → (watch_all cs (watch c w)).down ≡ down_from_out (first_lost cs)) → (watch_all cs (watch c w)).down ≡ down_from_out (if done then first_lost cs else Some (disk_of c))
first_by w c cs is serving true was later = later (rw (is, was) refl)
first_by w c cs is serving false was later = stays_only (watch c w) cs (disk_of c) (rw (is, was) refl) serving

-- where none is down, and one at most after some calls, it is the first that failed
first_only : (w : Watch) (cs : List Call) → w.down ≡ nobody → IsServing (watch_all cs w).down → (watch_all cs w).down ≡ down_from_out (first_lost cs)
first_only w [] is serving = is
first_only w (c ∷ cs) is serving = first_by w c cs is serving (is_done c) refl (λ still. first_only (watch c w) cs still serving)

-- after some calls, from the disk that is out
after_calls : (w : Watch) (cs : List Call) (out : Option ℕ) → w.down ≡ down_from_out out → IsServing (watch_all cs w).down → (watch_all cs w).down ≡ down_from_out (or_else out (first_lost cs))
after_calls w cs None is serving = first_only w cs is serving
after_calls w cs (Some d) is serving = stays_only w cs d is serving

else_none : (out : Option ℕ) → or_else out None ≡ out
else_none None = refl
else_none (Some d) = refl

else_else : (a b c : Option ℕ) → or_else (or_else a b) c ≡ or_else a (or_else b c)
else_else None b c = refl
else_else (Some d) b c = refl

-- the disks that are down as the calls of an event begin, which is not answered with a halt
taken_start : (event : Event) (a : Answer) (out : Option ℕ) → ((halt : Halt) → a ≢ Halted halt) → IsServing (taken_out event a (down_from_out out)) → taken_out event a (down_from_out out) ≡ down_from_out (or_else out (taken_disk a))
taken_start event (Failed d) None apart serving = refl
taken_start event (Failed d) (Some f) apart serving = either (d == f) serving
  where
    either : (same : Bool) → IsServing (if same then only f else several) → (if same then only f else several) ≡ only f
    either true s = refl
    either false s = absurd s
taken_start event (Halted halt) out apart serving = absurd (apart halt refl)
taken_start event (Value b bytes) out apart serving = ap down_from_out (sym (else_none out))
taken_start event (NoBlock b) out apart serving = ap down_from_out (sym (else_none out))
taken_start event (Wrote n) out apart serving = ap down_from_out (sym (else_none out))
taken_start event (Flushed n) out apart serving = ap down_from_out (sym (else_none out))
taken_start event (Ticked report) out apart serving = ap down_from_out (sym (else_none out))
taken_start event (Shift gear to) out apart serving = ap down_from_out (sym (else_none out))
taken_start event Top out apart serving = ap down_from_out (sym (else_none out))
taken_start event Lowest out apart serving = ap down_from_out (sym (else_none out))
taken_start event (Shifting to) out apart serving = ap down_from_out (sym (else_none out))
taken_start event (Replaced d) out apart serving = ap down_from_out (sym (else_none out))
taken_start event (NoDisk d) out apart serving = ap down_from_out (sym (else_none out))
taken_start event (IsOut d) out apart serving = ap down_from_out (sym (else_none out))
taken_start event (NotOut d) out apart serving = ap down_from_out (sym (else_none out))
taken_start event (NoFresh d) out apart serving = ap down_from_out (sym (else_none out))
taken_start event (RationUsed d) out apart serving = ap down_from_out (sym (else_none out))
taken_start event (IsState status disks) out apart serving = ap down_from_out (sym (else_none out))
taken_start event (EnergyUsed total) out apart serving = ap down_from_out (sym (else_none out))
taken_start event IsBad out apart serving = ap down_from_out (sym (else_none out))

-- one at most is down after some calls only where it was so before
serving_before : (w : Watch) (cs : List Call) → IsServing (watch_all cs w).down → IsServing w.down
serving_before w cs serving = either w.down refl
  where
    either : (down : Down) → w.down ≡ down → IsServing down
    either nobody is = tt
    either (only d) is = tt
    either several is = not_serving (watch_all cs w).down serving (several_stay w cs is)

-- Between two events the disk that is down is the one that is out in the state, but that the mark
-- of a tick which ends its rebuild ends this.
pub down_is_out : (slots : ℕ) (setup : Setup) (p q : Point) (event : Event) (a : Answer) (cs : List Call) → IsAnswered slots setup p event a cs q → ((halt : Halt) → a ≢ Halted halt) → rebuilt_by a ≡ false
    → (watch_all cs (watch_of p event a)).down ≡ down_from_out (named_out q.state.out)
down_is_out slots setup p q event a cs is apart going =
    let out = named_out p.state.out in
    let start = taken_start event a out apart (serving_before (watch_of p event a) cs is.serving) in
    let end = after_calls (watch_of p event a) cs (or_else out (taken_disk a)) start is.serving in
    let by : named_out q.state.out ≡ or_else out (or_else (taken_disk a) (first_lost cs)) = rw going at (step_out setup p.history p.energy p.state event (first_lost cs) a q.state is.machine) in
    end ∙ ap down_from_out (else_else out (taken_disk a) (first_lost cs) ∙ sym by)
