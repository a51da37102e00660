use Rattle.std.proofs.Common.{◌≢◌, ℕ, ◌≤◌, sym, subst, arith}
use Rattle.paraid_volume.proofs.volumes.Volumes.new_id.Goals as goal

positive : (n : ℕ) → n ≢ 0 → 1 ≤ n
positive n not = omega (arith, not)

pub returns-in-Some : goal.returns-in-Some
returns-in-Some g c = record {
  fault = c.in-Some.is;
  halt = sym c.in-Some.is;
  served = tt;
  id = tt;
}

pub returns-in-Some-find : goal.returns-in-Some-find
returns-in-Some-find g c = record {
  fault = c.in-Some-find.ensures.some;
  halt = sym c.in_default.is;
  served = tt;
  id = tt;
}

pub returns-then-extents-eq0 : goal.returns-then-extents-eq0
returns-then-extents-eq0 g c = record {
  fault = (c.in_default-find.ensures.none, c.if-extents-eq0.true);
  halt = sym c.in_default.is;
  served = tt;
  id = tt;
}

pub returns-in_default-free_id : goal.returns-in_default-free_id
returns-in_default-free_id g c = record {
  fault = (c.in_default-find.ensures.none, positive _ c.if-extents-eq0.false, c.in_default-free_id.ensures.none);
  halt = sym c.in_default.is;
  served = tt;
  id = tt;
}

pub returns-then-free-extents : goal.returns-then-free-extents
returns-then-free-extents g c = record {
  fault = (c.in_default-find.ensures.none, (c.in-Some-free_id.id, c.in-Some-free_id.ensures.some), c.free-free.ensures, c.if-free-extents.true);
  halt = sym c.in_default.is;
  served = tt;
  id = tt;
}

pub returns : goal.returns
returns g c = record {
  fault = tt;
  halt = sym c.in_default.is;
  served = record {
    fresh = c.in_default-find.ensures.none;
    some = positive _ c.if-extents-eq0.false;
    room = subst (λ (n : ℕ). c.args.extents ≤ n) c.free-free.ensures c.if-free-extents.false;
  };
  id = c.in-Some-free_id.ensures.some;
}
