use Rattle.std.proofs.Common.{◌≡◌, ◌++◌, ℕ, arith, refl, ap, ◌∙◌, sym, true, false}
use Rattle.std.proofs.lemmas.Result.{err_from_is_err_and}
use Rattle.paraid_nbd.specs.Options.{chooses, option_kind, option_number}
use Rattle.paraid_nbd.specs.Options.IsPartOption.{InHead}
use Rattle.paraid_nbd.specs.Handshake.StopsOption.{CutOption}
use Rattle.paraid_nbd.proofs.TakingLemmas.{Takes-then, IsCut-sooner, later_then, ok_apart, passed}
use Rattle.paraid_nbd.proofs.OptionLemmas.{choice_stops, option_chosen, option_skipped, skip_stops}
use Rattle.paraid_nbd.proofs.options.take_option.Goals as goal

pub returns-in_err-take_magic : goal.returns-in_err-take_magic
returns-in_err-take_magic g c =
    let p = err_from_is_err_and c.from_residual.result c.from_residual.ensures.1 in
    record {
      takes = rw p.1 tt;
      stops = rw (p.1, p.2) c.in_err-take_magic.ensures.stops;
      later = c.in_err-take_magic.ensures.later;
      still = passed p.1 p.2 c.in_err-take_magic.ensures.still;
    }

pub returns-in_err-number : goal.returns-in_err-number
returns-in_err-number g c =
    let p = err_from_is_err_and c.from_residual-in_err-number.result c.from_residual-in_err-number.ensures.1 in
    let m = c.in_ok-take_magic.ensures.takes in
    let l = c.in_err-number.ensures.lacks in
    record {
      takes = rw p.1 tt;
      stops = rw (p.1, p.2) (CutOption (m.0 ++ l.got) (Takes-then m.2 l.takes) (InHead m.0 l.got refl m.1 l.few) (IsCut-sooner _ _ _ _ _ _ c.in_ok-take_magic.ensures.later l.cause));
      later = later_then _ _ _ c.in_ok-take_magic.ensures.later c.in_err-number.ensures.later;
      still = λ n. passed p.1 p.2 c.in_err-number.ensures.still n ∙ c.in_ok-take_magic.ensures.still ok_apart;
    }

pub returns-in_err-take_choice : goal.returns-in_err-take_choice
returns-in_err-take_choice g c =
    let p = err_from_is_err_and c.from_residual-in_err-take_choice.result c.from_residual-in_err-take_choice.ensures.1 in
    let m = c.in_ok-take_magic.ensures.takes in
    let h = c.in_ok-number.ensures.takes in
    let ch : chooses (option_kind (option_number h.0)) ≡ true = ap (λ (x : ℕ). chooses (option_kind x)) h.2 ∙ sym c.is_choosing.ensures ∙ c.if-is_choosing.true in
    let both = Takes-then m.2 h.4 in
    let later = later_then _ _ _ c.in_ok-take_magic.ensures.later c.in_ok-number.ensures.later in
    let stays = c.in_ok-number.ensures.still ok_apart ∙ c.in_ok-take_magic.ensures.still ok_apart in
    record {
      takes = rw p.1 tt;
      stops = rw (p.1, p.2) (choice_stops m.0 h.0 both m.1 h.1 ch h.3 (omega (arith, m.1.0, m.2.count)) later c.in_err-take_choice.ensures.stops);
      later = later_then _ _ _ later c.in_err-take_choice.ensures.later;
      still = λ n. passed p.1 p.2 c.in_err-take_choice.ensures.still n ∙ stays;
    }

pub returns-then-is_choosing : goal.returns-then-is_choosing
returns-then-is_choosing g c =
    let m = c.in_ok-take_magic.ensures.takes in
    let h = c.in_ok-number.ensures.takes in
    let both = Takes-then m.2 h.4 in
    let later = later_then _ _ _ c.in_ok-take_magic.ensures.later c.in_ok-number.ensures.later in
    let stays = c.in_ok-number.ensures.still ok_apart ∙ c.in_ok-take_magic.ensures.still ok_apart in
    record {
      takes = option_chosen m.0 h.0 both m.1 h.1 h.3 h.2 c.in_ok-take_choice.ensures.takes;
      stops = tt;
      later = later_then _ _ _ later c.in_ok-take_choice.ensures.later;
      still = λ n. c.in_ok-take_choice.ensures.still ok_apart ∙ stays;
    }

pub returns-in_err-skip : goal.returns-in_err-skip
returns-in_err-skip g c =
    let p = err_from_is_err_and c.from_residual-in_err-skip.result c.from_residual-in_err-skip.ensures.1 in
    let m = c.in_ok-take_magic.ensures.takes in
    let h = c.in_ok-number.ensures.takes in
    let ch : chooses (option_kind (option_number h.0)) ≡ false = ap (λ (x : ℕ). chooses (option_kind x)) h.2 ∙ sym c.is_choosing.ensures ∙ c.if-is_choosing.false in
    let both = Takes-then m.2 h.4 in
    let later = later_then _ _ _ c.in_ok-take_magic.ensures.later c.in_ok-number.ensures.later in
    let stays = c.in_ok-number.ensures.still ok_apart ∙ c.in_ok-take_magic.ensures.still ok_apart in
    record {
      takes = rw p.1 tt;
      stops = rw (p.1, p.2) (skip_stops m.0 h.0 both m.1 h.1 ch h.3 later c.in_err-skip.ensures.lacks);
      later = later_then _ _ _ later c.in_err-skip.ensures.later;
      still = λ n. passed p.1 p.2 c.in_err-skip.ensures.still n ∙ stays;
    }

pub returns : goal.returns
returns g c =
    let m = c.in_ok-take_magic.ensures.takes in
    let h = c.in_ok-number.ensures.takes in
    let ch : chooses (option_kind (option_number h.0)) ≡ false = ap (λ (x : ℕ). chooses (option_kind x)) h.2 ∙ sym c.is_choosing.ensures ∙ c.if-is_choosing.false in
    let both = Takes-then m.2 h.4 in
    let later = later_then _ _ _ c.in_ok-take_magic.ensures.later c.in_ok-number.ensures.later in
    let stays = c.in_ok-number.ensures.still ok_apart ∙ c.in_ok-take_magic.ensures.still ok_apart in
    let t = c.in_ok-skip.ensures.takes in
    record {
      takes = option_skipped m.0 h.0 t.0 both m.1 h.1 ch h.3 h.2 t.1 t.2;
      stops = tt;
      later = later_then _ _ _ later c.in_ok-skip.ensures.later;
      still = λ n. c.in_ok-skip.ensures.still ok_apart ∙ stays;
    }
