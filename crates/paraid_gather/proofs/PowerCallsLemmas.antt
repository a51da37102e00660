-- Which parks, spin-ups and attaches are called.
use Rattle.std.proofs.Common.{◌≡◌, ℕ, Bool, List, [], ◌∷◌, ◌++◌, Option, Some, refl, sym, ◌∙◌, ap, subst, append_assoc}
use Rattle.std.proofs.lemmas.List.{append_cancel_left}
use Rattle.paraid_rack.specs.declared.call.Call.{Call}
use Rattle.paraid_rack.specs.Disks.{Disks}
use Rattle.paraid_rack.specs.Told.{GrowsByCall, Ran}
use Rattle.paraid_rack.specs.Trail.{Trail, now, extend}
use Rattle.paraid_rack.proofs.TrailsLemmas.{Ran-none, Ran-call, extend-extend}
use Rattle.paraid_gather.specs.Bulk.{WritesBlocks}
use Rattle.paraid_gather.specs.Waiting.{Waiting}
use Rattle.paraid_gather.specs.PowerCalls.{PowersAs, power_call_of, power_calls}

pub power_calls_append : (cs ds : List Call) → power_calls (cs ++ ds) ≡ power_calls cs ++ power_calls ds
power_calls_append [] ds = refl
power_calls_append (c ∷ cs) ds = ap (λ (l : List Call). power_call_of c ++ l) (power_calls_append cs ds) ∙ sym (append_assoc (power_call_of c) (power_calls cs) (power_calls ds))

-- no call
pub power_calls_none : (told : Option Trail) → Ran told told (PowersAs [])
power_calls_none told = Ran-none (PowersAs []) (λ s. refl) told

-- one call
pub power_calls_call : (old new : Option Trail) (c : Call) → GrowsByCall old new c → Ran old new (PowersAs (c ∷ []))
power_calls_call old new c grows = Ran-call (PowersAs (c ∷ [])) old new c grows (λ s is. refl)

-- a part without such calls, and then another
pub power_calls_then : (old mid new : Option Trail) (ds : List Call) → Ran old mid (PowersAs []) → Ran mid new (PowersAs ds) → Ran old new (PowersAs ds)
power_calls_then old mid new ds first second t tells =
    let later = second t tells in
    let before = first later.from later.was in
    record {
      from = before.from;
      was = before.was;
      calls = before.calls ++ later.calls;
      is = later.is ∙ ap (λ (r : Trail). extend r later.calls) before.is ∙ extend-extend before.from before.calls later.calls;
      holds = power_calls_append before.calls later.calls ∙ ap (λ (l : List Call). l ++ power_calls later.calls) before.holds ∙ later.holds;
    }

-- the calls of a part have each of two properties
pub ran_both : (Q Q' : Disks → List Call → Type 0) (old new : Option Trail) → Ran old new Q → Ran old new Q' → Ran old new (λ s cs. Q s cs × Q' s cs)
ran_both Q Q' old new first second t tells =
    let a = first t tells in
    let b = second t tells in
    let from : b.from ≡ a.from = (let e : Some b.from ≡ Some a.from = sym b.was ∙ a.was in cc) in
    let calls : b.calls ≡ a.calls =
    append_cancel_left a.from.calls b.calls a.calls (ap (λ (u : Trail). u.calls ++ b.calls) (sym from) ∙ sym (ap (λ (u : Trail). u.calls) b.is) ∙ ap (λ (u : Trail). u.calls) a.is) in
    record {
      from = a.from;
      was = a.was;
      calls = a.calls;
      is = a.is;
      holds = (a.holds, subst (λ (u : Trail). Q' (now u) a.calls) from (subst (λ (l : List Call). Q' (now b.from) l) calls b.holds));
    }

-- they have one property, and another of whatever disks
pub ran_each : (Q : Disks → List Call → Type 0) (Q' : Disks → Disks → List Call → Type 0) (old new : Option Trail) → Ran old new Q → ((s : Disks) → Ran old new (Q' s)) → Ran old new (λ b cs. Q b cs × ((s : Disks) → Q' s b cs))
unfolding ran_both
ran_each Q Q' old new first each t tells =
    let a = first t tells in
    record { from = a.from; was = a.was; calls = a.calls; is = a.is; holds = (a.holds, λ s. (ran_both Q (Q' s) old new first (each s) t tells).holds.1) }

-- a write of blocks
pub power_calls_written : (old new : Option Trail) (d : ℕ) (w : Waiting) (ok : Bool) → Ran old new (WritesBlocks d w ok) → Ran old new (PowersAs [])
power_calls_written old new d w ok ran t tells =
    let r = ran t tells in
    record { from = r.from; was = r.was; calls = r.calls; is = r.is; holds = r.holds.turned }
