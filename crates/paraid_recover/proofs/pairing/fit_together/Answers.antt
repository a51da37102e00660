use Rattle.std.specs.Prelude.{true, false}
use Rattle.paraid_recover.proofs.PairingLemmas.{fits, fits_ahead, fits_not, fits_not_ahead, pairing_back}
use Rattle.paraid_recover.proofs.pairing.fit_together.Goals as goal

pub returns-then-b : goal.returns-then-b
returns-then-b c = record {
  yes = λ is. fits _ _ _ _ _ _ true c.if-a.true c.if-b.true (c.say_the_same.ensures.yes is);
  no = λ is. fits_not _ _ _ _ _ _ true c.if-a.true c.if-b.true (c.say_the_same.ensures.no is);
}

pub returns-then-a : goal.returns-then-a
returns-then-a c = record {
  yes = λ is. fits_ahead _ _ _ _ _ _ c.if-a.true c.if-b.false (c.is_a_step_ahead.ensures.yes is _ _);
  no = λ is. fits_not_ahead _ _ _ _ _ _ c.if-a.true c.if-b.false (c.is_a_step_ahead.ensures.no is _ _);
}

pub returns-then-b-2 : goal.returns-then-b-2
returns-then-b-2 c = record {
  yes = λ is. pairing_back _ _ (fits_ahead _ _ _ _ _ _ c.if-b-2.true c.if-a.false (c.is_a_step_ahead-then-b-2.ensures.yes is _ _));
  no = λ is pair. fits_not_ahead _ _ _ _ _ _ c.if-b-2.true c.if-a.false (c.is_a_step_ahead-then-b-2.ensures.no is _ _) (pairing_back _ _ pair);
}

pub returns : goal.returns
returns c = record {
  yes = λ is. fits _ _ _ _ _ _ false c.if-a.false c.if-b-2.false (c.say_the_same-2.ensures.yes is);
  no = λ is. fits_not _ _ _ _ _ _ false c.if-a.false c.if-b-2.false (c.say_the_same-2.ensures.no is);
}
