-- How the bytes that were written grow from call to call.
use Rattle.std.proofs.Common.{ℕ, ◌+◌, ◌-◌, ◌<◌, ◌≤◌, List, [], Option, length, take, drop, arith, length-take, length-drop, subst}
use Rattle.std.proofs.Math.Seq.{take-add}
use Rattle.std.proofs.lemmas.List.{append-nil, take_rest}
use Rattle.paraid_base.specs.Told.{GrowsByBytes}
use Rattle.paraid_base.proofs.ToldLemmas.{GrowsByBytes-then}

-- of these bytes so many were written, and then so many more
pub part_more : (a b c : Option (List ℕ)) (bytes : List ℕ) (done n : ℕ) → GrowsByBytes a b (take done bytes) → GrowsByBytes b c (take n (take (length bytes - done) (drop done bytes)))
    → GrowsByBytes a c (take (done + n) bytes)
part_more a b c bytes done n first more =
    let all = GrowsByBytes-then a b c _ _ first more in
    rw (take-add done n bytes) (rw (take_rest bytes done) at all)

pub part_within : (bytes : List ℕ) (done n : ℕ) → done ≤ length bytes → n ≤ length (take (length bytes - done) (drop done bytes)) → done + n ≤ length bytes
part_within bytes done n within more = omega (arith, within, simp (length-take, length-drop) at more)

-- of these bytes so many were written, and then a call has failed
pub part_failed : (a b c : Option (List ℕ)) (bytes : List ℕ) (done : ℕ) → done < length bytes → GrowsByBytes a b (take done bytes) → GrowsByBytes b c [] → (n : ℕ) × (n < length bytes) × GrowsByBytes a c (take n bytes)
part_failed a b c bytes done short first none =
    (done, short, subst (λ (l : List ℕ). GrowsByBytes a c l) (append-nil (take done bytes)) (GrowsByBytes-then a b c (take done bytes) [] first none))
