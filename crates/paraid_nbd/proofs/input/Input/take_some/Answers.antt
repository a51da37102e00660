use Rattle.std.proofs.Common.{◌≡◌, ℕ, ◌+◌, ◌-◌, ◌^◌, ◌≤◌, List, [], ◌++◌, Option, length, take, arith, refl, sym, subst, ◌∙◌}
use Rattle.std.proofs.lemmas.List.{length-take-le, take-append-le}
use Rattle.paraid_base.specs.Told.{Gives, stream_most}
use Rattle.paraid_nbd.specs.Taking.{Takes, Lacks, IsCut}
use Rattle.paraid_nbd.specs.declared.ending.NbdEnd.{NbdEnd}
use Rattle.std.specs.Prelude.{min}
use Rattle.paraid_nbd.proofs.TakingLemmas.{Takes-none, later_none}
use Rattle.paraid_nbd.proofs.input.Input.take_some.Goals as goal

-- the first bytes of a buffer whose front was given
taken_first : {a b : Option (List ℕ)} {i n most : ℕ} (got rest : List ℕ) → n ≤ most → length got ≡ most → Gives a b (take n got) → Takes a b i (i + n) (take n (got ++ rest))
taken_first {a} {b} {i} {n} {most} got rest few many gives =
    let within : n ≤ length got = omega (arith, few, many) in
    subst (λ (x : List ℕ). Takes a b i (i + n) x) (sym (take-append-le n got rest within)) (record { given = gives; count = omega (arith, length-take-le n got within) })

none_taken : {a b : Option (List ℕ)} {i f h : ℕ} {e : NbdEnd} → Gives a b [] → IsCut e b i f h → Lacks a b i i 1 f h e
none_taken gives cause = record { got = []; takes = record { given = gives; count = omega arith }; few = omega arith; cause = cause }

taken_fits : {taken most n : ℕ} (room : ℕ) → taken ≤ stream_most → most ≡ min room (stream_most - taken) → n ≤ most → taken + n ≤ stream_most
taken_fits room limit is few = omega (arith, limit, is, few)

pub returns-then-room-eq0 : goal.returns-then-room-eq0
returns-then-room-eq0 g c =
    let full = c.if-room-eq0.true in
    let limit = c.args.self.now.limit in
    record {
      some = tt;
      within = tt;
      takes = tt;
      lacks = record { got = []; takes = Takes-none _ _; few = omega arith; cause = (refl, omega (arith, full, limit)) };
      later = later_none _;
      still = λ n. refl;
    }

pub returns-in-Ok-eq0 : goal.returns-in-Ok-eq0
returns-in-Ok-eq0 g c =
    let e = c.in-Ok-eq0.ensures in
    let room = c.if-room-eq0.false in
    record {
      some = tt;
      within = tt;
      takes = tt;
      lacks = none_taken (subst (λ (n : ℕ). Gives (g.S.Source.left c.args.source.now) (g.S.Source.left c.read_some.new.self) (take n c.read_some.new.into)) c.in-Ok-eq0.field-0-test e.gives)
          (e.end c.in-Ok-eq0.field-0-test, omega (arith, room));
      later = c.read_some.ensures.later;
      still = λ n. c.in-Ok-eq0.ensures.still;
    }

pub returns-in-Ok : goal.returns-in-Ok
returns-in-Ok g c =
    let most : c.min-most.result ≤ length c.args.into.now = omega (arith, c.min-most.ensures) in
    let many : length c.read_some.new.into ≡ c.min-most.result = c.read_some.auto.into ∙ length-take-le _ _ most in
    let within : c.in-Ok.n ≤ c.min-most.result = subst (λ (n : ℕ). c.in-Ok.n ≤ n) (length-take-le _ _ most) c.in-Ok.ensures.within in
    record {
      some = omega (arith, c.in-Ok.n-test);
      within = omega (arith, within, most);
      takes = taken_first c.read_some.new.into _ within many c.in-Ok.ensures.gives;
      lacks = tt;
      later = c.read_some.ensures.later;
      still = λ n. c.in-Ok.ensures.still;
    }

pub returns-in-Err : goal.returns-in-Err
returns-in-Err g c =
    let e = c.in-Err.ensures in
    let room = c.if-room-eq0.false in
    record {
      some = tt;
      within = tt;
      takes = tt;
      lacks = none_taken e.keeps (e.cause, omega (arith, room));
      later = c.read_some.ensures.later;
      still = λ n. absurd (n refl);
    }

pub overflow_sub-room : goal.overflow_sub-room
overflow_sub-room g c = c.args.self.now.limit

pub overflow_add-self : goal.overflow_add-self
overflow_add-self g c =
    let most : c.min-most.result ≤ length c.args.into.now = omega (arith, c.min-most.ensures) in
    let within : c.in-Ok.n ≤ c.min-most.result = subst (λ (n : ℕ). c.in-Ok.n ≤ n) (length-take-le _ _ most) c.in-Ok.ensures.within in
    let limit = taken_fits _ c.args.self.now.limit c.min-most.ensures within in
    omega (arith, limit)

pub invariant_of-self : goal.invariant_of-self
invariant_of-self g c =
    let most : c.min-most.result ≤ length c.args.into.now = omega (arith, c.min-most.ensures) in
    let within : c.in-Ok.n ≤ c.min-most.result = subst (λ (n : ℕ). c.in-Ok.n ≤ n) (length-take-le _ _ most) c.in-Ok.ensures.within in
    record { limit = taken_fits _ c.args.self.now.limit c.min-most.ensures within }
