-- What is told of calls that are made one after another, and what of it is told below a rack that gathers.
use Rattle.std.proofs.Common.{◌≡◌, List, [], ◌∷◌, ◌++◌, Option, Some, refl, sym, ◌∙◌, ap, subst}
use Rattle.paraid_rack.specs.declared.call.Call.{Call}
use Rattle.paraid_rack.specs.Told.{GrowsByCall, Ran}
use Rattle.paraid_rack.specs.Trail.{Trail, extend}
use Rattle.paraid_rack.proofs.TrailsLemmas.{extend-extend}
use Rattle.paraid_gather.specs.Above.{told_above}
use Rattle.paraid_gather.specs.Gathering.{IsGathered}
use Rattle.paraid_memrack.specs.Rules.{no_disks}
use Rattle.tests_lives.specs.Gathered.{TellsGathered}

-- a part whose calls are these, and one more call
one_more : (old mid new : Option Trail) (calls : List Call) (c : Call) → Ran old mid (λ s cs. cs ≡ calls) → GrowsByCall mid new c → Ran old new (λ s cs. cs ≡ calls ++ c ∷ [])
one_more old mid new calls c ran grows t is =
    let g = grows t is in
    let came = ran g.0 g.1 in
    record {
      from = came.from;
      was = came.was;
      calls = came.calls ++ c ∷ [];
      is = g.2 ∙ ap (λ (s : Trail). extend s (c ∷ [])) came.is ∙ extend-extend came.from came.calls (c ∷ []);
      holds = ap (λ (cs : List Call). cs ++ c ∷ []) came.holds;
    }

first_call : (old new : Option Trail) (c : Call) → GrowsByCall old new c → Ran old new (λ s cs. cs ≡ c ∷ [])
first_call old new c grows t is =
    let g = grows t is in
    record { from = g.0; was = g.1; calls = c ∷ []; is = g.2; holds = refl }

-- four calls, one after another
pub four_calls : {a b c d e : Option Trail} (w x y z : Call) → GrowsByCall a b w → GrowsByCall b c x → GrowsByCall c d y → GrowsByCall d e z → Ran a e (λ s cs. cs ≡ w ∷ x ∷ y ∷ z ∷ [])
four_calls {a} {b} {c} {d} {e} w x y z gw gx gy gz =
    one_more a d e (w ∷ x ∷ y ∷ []) z (one_more a c d (w ∷ x ∷ []) y (one_more a b c (w ∷ []) x (first_call a b w gw) gx) gy) gz

some_same : {A : Type 0} {x y : A} → Some x ≡ Some y → x ≡ y
some_same e = cc

-- a rack above tells what is noted, where the rack below tells
both_tell : (told noted : Option Trail) (b t : Trail) → told ≡ Some b → noted ≡ Some t → told_above told noted ≡ Some t
both_tell told noted b t is noted_is = ap (λ (o : Option Trail). told_above o noted) is ∙ noted_is

-- where both records are told after these calls on one empty slot, the one below is gathered
pub tells_gathered : (calls : List Call) (told noted told' noted' : Option Trail) (below above : Trail) → told ≡ Some (no_disks 1) → noted ≡ Some (no_disks 1) → told' ≡ Some below → noted' ≡ Some above
    → Ran (told_above told noted) (told_above told' noted') (λ s cs. cs ≡ calls) → ∥ IsGathered below above ∥₁ → TellsGathered calls told'
tells_gathered calls told noted told' noted' below above was noted_was is noted_is ran gathered =
    let came = ran above (both_tell told' noted' below above is noted_is) in
    let from_is : no_disks 1 ≡ came.from = some_same (sym (both_tell told noted (no_disks 1) (no_disks 1) was noted_was) ∙ came.was) in
    let above_is : above ≡ extend (no_disks 1) calls = came.is ∙ ap (λ (s : Trail). extend s came.calls) (sym from_is) ∙ ap (extend (no_disks 1)) came.holds in
    record { below = below; is = is; gathered = subst (λ (a : Trail). ∥ IsGathered below a ∥₁) above_is gathered }
