use Rattle.std.proofs.Common.{◌≡◌, length, refl, sym, ◌∙◌, rules}
use Rattle.std.proofs.lemmas.Bool.{false≢true}
use Rattle.std.proofs.lemmas.Result.{err_from_is_err_and}
use Rattle.paraid_nbd.specs.Handshake.StopsChoice.{CutChoice, NoChoice}
use Rattle.paraid_nbd.proofs.TakingLemmas.{Lacks-of, cut_length, later_none, ok_apart, passed}
use Rattle.paraid_nbd.proofs.options.take_choice.Goals as goal

pub returns-then-not-is_choice : goal.returns-then-not-is_choice
returns-then-not-is_choice g c =
    let whole : length c.fill.new.into ≡ c.args.count = c.fill.auto.into ∙ cut_length c.args.count 8192 c.if-length-gt-MAX_CHOICE.false in
    record {
      takes = tt;
      stops = NoChoice c.fill.new.into (c.if-length-lt6.false, c.if-length-gt-MAX_CHOICE.false) whole (λ h. false≢true (sym c.if-not-is_choice.true ∙ c.is_choice.ensures.1 h)) c.in_ok-fill.ensures.takes refl;
      later = c.in_ok-fill.ensures.later;
      still = λ n. c.in_ok-fill.ensures.still ok_apart;
    }

pub returns-in_err-fill : goal.returns-in_err-fill
returns-in_err-fill g c =
    let p = err_from_is_err_and c.from_residual.result c.from_residual.ensures.1 in
    record {
      takes = rw p.1 tt;
      stops = rw (p.1, p.2) (CutChoice (c.if-length-lt6.false, c.if-length-gt-MAX_CHOICE.false) (Lacks-of _ c.args.count (cut_length c.args.count 8192 c.if-length-gt-MAX_CHOICE.false) c.in_err-fill.ensures.lacks));
      later = c.in_err-fill.ensures.later;
      still = passed p.1 p.2 c.in_err-fill.ensures.still;
    }

pub returns : goal.returns
returns g c = record {
  takes = record {
    content = c.fill.new.into;
    range = (c.if-length-lt6.false, c.if-length-gt-MAX_CHOICE.false);
    whole = c.fill.auto.into ∙ cut_length c.args.count 8192 c.if-length-gt-MAX_CHOICE.false;
    choice = c.is_choice.ensures.0 c.if-not-is_choice.false;
    takes = c.in_ok-fill.ensures.takes;
  };
  stops = tt;
  later = c.in_ok-fill.ensures.later;
  still = λ n. c.in_ok-fill.ensures.still ok_apart;
}

pub slice_bounds-content-end : goal.slice_bounds-content-end
slice_bounds-content-end g c = c.if-length-gt-MAX_CHOICE.false

pub slice_bounds-content-end-2 : goal.slice_bounds-content-end-2
slice_bounds-content-end-2 g c = sym (cut_length c.args.count 8192 c.if-length-gt-MAX_CHOICE.false)

pub returns-then-length-lt6 : goal.returns-then-length-lt6
returns-then-length-lt6 g c = record {
  takes = tt;
  stops = search rules;
  later = later_none _;
  still = λ n. refl;
}
