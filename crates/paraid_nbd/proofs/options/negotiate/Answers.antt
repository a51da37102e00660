use Rattle.paraid_nbd.proofs.TakingLemmas.{Takes-none, Takes-then, later_then, room_falls, ok_apart, passed, stood}
use Rattle.paraid_nbd.specs.Handshake.EndsEarly.{Ungreeted, Unflagged, AmongOptions}
use Rattle.std.proofs.Common.{arith, ◌++◌, [], ◌∷◌, List, ℕ, sym, ◌∙◌, subst, refl}
use Rattle.std.proofs.lemmas.List.{append-nil, flat_map_more}
use Rattle.std.proofs.lemmas.Result.{err_from_is_err_and}
use Rattle.paraid_base.specs.Told.{GrowsByBytes}
use Rattle.paraid_base.proofs.ToldLemmas.{GrowsByBytes-then}
use Rattle.paraid_nbd.specs.Options.{option_bytes, option_reply}
use Rattle.paraid_nbd.specs.Handshake.{greeting}
use Rattle.paraid_nbd.specs.Taking.{Takes}
use Rattle.paraid_nbd.proofs.OptionLemmas.{each_more, option_some}
use Rattle.paraid_nbd.proofs.options.negotiate.Goals as goal

pub returns-in_err-no_zeros : goal.returns-in_err-no_zeros
returns-in_err-no_zeros g c =
    let p = err_from_is_err_and c.from_residual-in_err-no_zeros.result c.from_residual-in_err-no_zeros.ensures.1 in
    record {
      begins = rw p.1 tt;
      ends = rw (p.1, p.2) (Unflagged c.in_err-no_zeros.ensures.stops c.in_ok-greet.ensures.greets);
      later = c.in_err-no_zeros.ensures.later;
      still = passed p.1 p.2 c.in_err-no_zeros.ensures.still;
      later_sink = c.in_ok-greet.ensures.later_sink;
      still_sink = λ n. c.in_ok-greet.ensures.still_sink ok_apart;
    }

pub returns-in_err-option : goal.returns-in_err-option
returns-in_err-option g c =
    let p = err_from_is_err_and c.from_residual-in_err-option.result c.from_residual-in_err-option.ensures.1 in
    let i = c.loop.invariant in
    record {
      begins = rw p.1 tt;
      ends = rw (p.1, p.2) (AmongOptions _ _ _ i.greeted.0 c.in_ok-no_zeros.no_zeros i.greeted.1 _ _ i.greeted.2 (stood i.still) (stood i.still_sink) c.in_err-option.ensures.ends);
      later = later_then _ _ _ (stood c.loop.invariant.still) c.in_err-option.ensures.later;
      still = λ n. passed p.1 p.2 c.in_err-option.ensures.still n ∙ c.loop.invariant.still;
      later_sink = later_then _ _ _ (stood c.loop.invariant.still_sink) c.in_err-option.ensures.later_sink;
      still_sink = λ n. passed p.1 p.2 c.in_err-option.ensures.still_sink n ∙ c.loop.invariant.still_sink;
    }

pub returns-then-branch : goal.returns-then-branch
returns-then-branch g c =
    let i = c.loop.invariant in
    let a = c.in_ok-option.ensures.answers in
    record {
      begins = record {
        flags = i.greeted.0;
        no_zeros = c.in_ok-no_zeros.no_zeros;
        options = i.greeted.1;
        last = a.parts;
        are = i.greeted.2.are;
        each = i.greeted.2.each;
        last_is = a.is;
        last_begins = sym a.begun_is ∙ c.if-branch.true;
        takes = Takes-then i.greeted.2.takes a.takes;
        grows = GrowsByBytes-then _ _ _ _ _ i.greeted.2.grows a.grows;
      };
      ends = tt;
      later = later_then _ _ _ (stood c.loop.invariant.still) c.in_ok-option.ensures.later;
      still = λ n. c.in_ok-option.ensures.still ok_apart ∙ c.loop.invariant.still;
      later_sink = later_then _ _ _ (stood c.loop.invariant.still_sink) c.in_ok-option.ensures.later_sink;
      still_sink = λ n. c.in_ok-option.ensures.still_sink ok_apart ∙ c.loop.invariant.still_sink;
    }

pub loop-preserved : goal.loop-preserved
loop-preserved g c =
    let i = c.loop.invariant in
    let e = c.in_ok-option.ensures in
    let a = e.answers in
    let G = i.greeted.2 in
    let z = c.in_ok-no_zeros.no_zeros in
    record {
      greeted = (
        i.greeted.0,
        i.greeted.1 ++ a.parts ∷ [],
        record {
          are = G.are;
          each = each_more i.greeted.1 a.parts G.each (record { is = a.is; stays = a.stays; waits = sym a.begun_is ∙ c.if-branch.false });
          takes = subst (λ (x : List ℕ). Takes (g.S.Source.left c.args.source.now) (g.S.Source.left c.option.new.source) c.args.input.now.taken c.option.new.input.taken x) (flat_map_more option_bytes i.greeted.0 i.greeted.1 a.parts) (Takes-then G.takes a.takes);
          grows = subst (λ (x : List ℕ). GrowsByBytes (g.K.Sink.written c.args.sink.now) (g.K.Sink.written c.option.new.sink) x) (flat_map_more (option_reply c.args.size z) greeting i.greeted.1 a.parts) (GrowsByBytes-then _ _ _ _ _ G.grows a.grows);
        },
      );
      still = e.still ok_apart ∙ i.still;
      still_sink = e.still_sink ok_apart ∙ i.still_sink;
    }

pub returns-in_err-greet : goal.returns-in_err-greet
returns-in_err-greet g c =
    let p = err_from_is_err_and c.from_residual.result c.from_residual.ensures.1 in
    record {
      begins = rw p.1 tt;
      ends = rw (p.1, p.2) (Ungreeted (Takes-none _ _) c.in_err-greet.ensures.unsent);
      later = omega arith;
      still = λ n. refl;
      later_sink = c.in_err-greet.ensures.later_sink;
      still_sink = passed p.1 p.2 c.in_err-greet.ensures.still_sink;
    }

pub loop-init : goal.loop-init
loop-init g c =
    let f = c.in_ok-no_zeros.ensures.flags in
    record {
      greeted = (
        f.flags,
        [],
        record {
          are = f.are;
          each = tt;
          takes = subst (λ (x : List ℕ). Takes (g.S.Source.left c.args.source.now) (g.S.Source.left c.take_flags.new.source) c.args.input.now.taken c.take_flags.new.input.taken x) (sym (append-nil f.flags)) f.takes;
          grows = subst (λ (x : List ℕ). GrowsByBytes (g.K.Sink.written c.args.sink.now) (g.K.Sink.written c.greet.new.sink) x) (sym (append-nil greeting)) c.in_ok-greet.ensures.greets;
        },
      );
      still = c.in_ok-no_zeros.ensures.still ok_apart;
      still_sink = c.in_ok-greet.ensures.still_sink ok_apart;
    }

pub loop-smaller : goal.loop-smaller
loop-smaller g c =
    let a = c.in_ok-option.ensures.answers in
    room_falls a.takes (option_some a.parts a.is) c.option.new.input.limit
