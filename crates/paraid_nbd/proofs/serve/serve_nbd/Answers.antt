use Rattle.std.proofs.Common.{◌*◌, ℕ, ap, refl, ◌∙◌}
use Rattle.paraid_base.proofs.ToldLemmas.{GrowsByBytes-none}
use Rattle.paraid_nbd.specs.Service.Service.{NoRoom}
use Rattle.paraid_nbd.proofs.DeviceLemmas.{keeps_none}
use Rattle.paraid_nbd.proofs.TakingLemmas.{Takes-none, later_none, later_then, ok_apart}
use Rattle.paraid_nbd.proofs.ServiceLemmas.{early, late}
use Rattle.paraid_nbd.proofs.serve.serve_nbd.Goals as goal

pub returns-in-Err : goal.returns-in-Err
returns-in-Err g c =
    let b = g.B.Blocks in
    record {
      service = early b.stands b.halted b.kept b.tells (ap (λ (x : ℕ). 512 * x) (c.from-size.ensures ∙ c.blocks-2.ensures)) c.new-input.ensures c.in-Err.ensures.ends;
      size = refl;
      told = λ t. t;
      keeps = keeps_none _ _;
      later = c.in-Err.ensures.later;
      still = λ n. c.in-Err.ensures.still (λ is. n cc);
      later_sink = c.in-Err.ensures.later_sink;
      still_sink = λ n. c.in-Err.ensures.still_sink (λ is. n cc);
    }

pub returns : goal.returns
returns g c =
    let b = g.B.Blocks in
    let e = c.in_default-negotiate.ensures in
    record {
      service = late b.stands b.halted b.kept b.tells (ap (λ (x : ℕ). 512 * x) (c.from-size.ensures ∙ c.blocks-2.ensures)) c.new-input.ensures e.begins e.later e.later_sink c.transmit.ensures.transmits;
      size = c.transmit.ensures.size;
      told = c.transmit.ensures.told;
      keeps = c.transmit.ensures.keeps;
      later = later_then _ _ _ e.later c.transmit.ensures.later;
      still = λ n. c.transmit.ensures.still n ∙ e.still ok_apart;
      later_sink = later_then _ _ _ e.later_sink c.transmit.ensures.later_sink;
      still_sink = λ n. c.transmit.ensures.still_sink n ∙ e.still_sink ok_apart;
    }

pub returns-in_default : goal.returns-in_default
returns-in_default g c = record {
  service = NoRoom refl refl (Takes-none _ _) (GrowsByBytes-none _);
  size = refl;
  told = λ t. t;
  keeps = keeps_none _ _;
  later = later_none _;
  still = λ n. refl;
  later_sink = later_none _;
  still_sink = λ n. refl;
}
