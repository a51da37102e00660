-- The last call of an event in which a second disk is lost.
use Rattle.std.proofs.Common.{◌≡◌, ℕ, ◌⊎◌, Bool, true, false, List, Option, Some, None, refl, sym, ap, ◌∙◌, inl, inr, arith, if◌then◌else◌}
use Rattle.std.specs.Prelude.{◌==◌}
use Rattle.std.proofs.lemmas.Bool.Decides.{nat_tests}
use Rattle.paraid_base.specs.declared.event.Answer.TheVariants.{Halted}
use Rattle.paraid_base.specs.declared.event.Event.{Event}
use Rattle.paraid_base.specs.declared.fault.Halt.TheVariants.{Two as HaltTwo}
use Rattle.paraid_base.specs.declared.fault.Two.{Two}
use Rattle.paraid_base.specs.States.{named_out}
use Rattle.paraid_rack.specs.declared.call.Call.{Call}
use Rattle.paraid_record.specs.declared.meta.Setup.{Setup}
use Rattle.paraid_session.specs.Turn.{IsFirstDown, Point, failed_by, taken_in_halt, watch_of}
use Rattle.paraid_session.specs.Turn.IsFirstDown.{lost, out, taken}
use Rattle.paraid_session.specs.Watch.{Down, EndsServing, Watch, down_from_out, fails_on, first_lost, watch_all, with_down}
use Rattle.paraid_session.proofs.LayerLemmas.{fails_first}
use Rattle.paraid_image.specs.Lost.{EndsBySecond}
use Rattle.paraid_event.proofs.ApartLemmas.{no_one}
use Rattle.paraid_event.proofs.EndLemmas.{IsOnly, only_after, only_end, only_serving}

-- A disk that failed before is the first of the two: it is named out then,
pub alone_named : (o lost_later : Option ℕ) (first : ℕ) → (o ≡ Some first) ⊎ ((o ≡ None) × (lost_later ≡ Some first)) → (e : ℕ) → o ≡ Some e → e ≡ first
alone_named o lost_later first tells e named = elim tells [
  | inl was ↦ let z : Some e ≡ Some first = sym named ∙ was in cc
  | inr none ↦ absurd (no_one (sym none.0 ∙ named))
]

-- or none has failed.
pub alone_unhurt : (first : ℕ) (cs : List Call) → first_lost cs ≡ None → (e : ℕ) → fails_on e cs ≡ true → e ≡ first
alone_unhurt first cs none e fails = let x = fails_first cs e fails in absurd (no_one (sym none ∙ x.1))

-- The disk that is down as an event begins is the first of the two.

out_or_none : (slots : ℕ) (setup : Setup) (p : Point) (event : Event) (cs : List Call) (f : ℕ) → IsFirstDown slots setup p event cs f → (named_out p.state.out ≡ Some f) ⊎ (named_out p.state.out ≡ None)
out_or_none slots setup p event cs f (out was) = inl was
out_or_none slots setup p event cs f (lost none first) = inr none
out_or_none slots setup p event cs f (taken none is low held) = inr none

only_out : (o : Option ℕ) (f : ℕ) → (o ≡ Some f) ⊎ (o ≡ None) → IsOnly (Some f) (down_from_out o)
only_out None f is = tt
only_out (Some d) f (inl was) = sym was
only_out (Some d) f (inr none) = absurd (no_one (sym none))

same_if : (a b : ℕ) → (a == b) ≡ true → a ≡ b
same_if a b test = grind (arith, nat_tests)

only_taken : (o : Option ℕ) (two : Two) (down : Down) → IsOnly (Some two.first) down → IsOnly (Some two.first) (taken_in_halt o (HaltTwo two) down)
only_taken None two down is = is
only_taken (Some d) two down is = by (two.first == d) refl
  where
    by : (t : Bool) → (two.first == d) ≡ t → IsOnly (Some two.first) (if t then with_down d down else down)
    by true same = only_after (Some two.first) false d down (λ failed. ap (λ (x : ℕ). Some x) (same_if two.first d same)) is
    by false apart = is

-- So up to its last call one disk at most is down.
ends_serving : (two : Two) (w : Watch) (cs : List Call) → IsOnly (Some two.first) w.down → EndsBySecond two cs → EndsServing two w cs
ends_serving two w cs is ends = record {
  before = ends.before;
  ends = ends.ends;
  serving = only_serving (Some two.first) (watch_all ends.before w).down (only_end (Some two.first) w ends.before is (λ e fails. ap (λ (x : ℕ). Some x) (sym (ends.alone e fails))));
}

pub ends_event : (slots : ℕ) (setup : Setup) (p : Point) (event : Event) (two : Two) (cs : List Call) → IsFirstDown slots setup p event cs two.first → EndsBySecond two cs → EndsServing two (watch_of p event (Halted (HaltTwo two))) cs
ends_event slots setup p event two cs first ends = ends_serving two (watch_of p event (Halted (HaltTwo two))) cs
    (only_taken (failed_by event) two (down_from_out (named_out p.state.out)) (only_out (named_out p.state.out) two.first (out_or_none slots setup p event cs two.first first))) ends
