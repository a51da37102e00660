use Rattle.std.proofs.Common.{◌≡◌, ◌≢◌, ◌+◌, ◌≤◌, ◌∙◌, ℕ, List, ◌++◌, Option, length, arith, refl, sym, length-append}
use Rattle.std.specs.Prelude.{min}
use Rattle.std.proofs.lemmas.List.{length-take-le, take-append-le, take_all}
use Rattle.std.proofs.lemmas.Result.{err_from_is_err_and}
use Rattle.paraid_nbd.specs.declared.request.Command.{Command}
use Rattle.paraid_nbd.specs.declared.request.Command.TheVariants.{Read, Write, Disconnect, Flush, Unknown}
use Rattle.paraid_nbd.specs.declared.request.Outcome.{Outcome}
use Rattle.paraid_nbd.specs.declared.request.Outcome.TheVariants.{Done, Halted, Invalid, NoSpace}
use Rattle.paraid_nbd.specs.Performing.{TakesContent, part_length}
use Rattle.paraid_nbd.specs.Requests.{content_length}
use Rattle.paraid_nbd.specs.declared.request.Request.{Request}
use Rattle.paraid_nbd.specs.Taking.{Takes}
use Rattle.paraid_nbd.proofs.ServiceLemmas.{write_fits}
use Rattle.paraid_nbd.proofs.TakingLemmas.{Lacks-of, ok_apart, passed}
use Rattle.paraid_nbd.proofs.serve.take_written.Goals as goal

-- a request that is not done is about nothing of the buffer
part_undone : (k : Command) (o : Outcome) (n : ℕ) → o ≢ Done → part_length k o n ≡ 0
part_undone Read Done n other = absurd (other refl)
part_undone Read Halted n other = refl
part_undone Read Invalid n other = refl
part_undone Read NoSpace n other = refl
part_undone Write Done n other = absurd (other refl)
part_undone Write Halted n other = refl
part_undone Write Invalid n other = refl
part_undone Write NoSpace n other = refl
part_undone Disconnect o n other = refl
part_undone Flush o n other = refl
part_undone Unknown o n other = refl

fits_buffer : (size n : ℕ) (r : Request) → n ≡ min size 33554432 → (r.offset + r.length ≤ size) × (r.length ≤ 33554432) → r.length ≤ n
fits_buffer size n r room fits = omega (arith, room, fits.0, fits.1)

written_content : {a b : Option (List ℕ)} {i j : ℕ} (r : Request) (o : Outcome) (got rest : List ℕ) → r.command ≡ Write → o ≡ Done → length got ≡ r.length → Takes a b i j got
    → TakesContent a b i j r o r.length (got ++ rest)
written_content r o got rest write done many takes = record {
  content = got;
  whole = many ∙ rw write refl;
  takes = takes;
  part = rw (write, done) refl;
  within = omega (arith, many, length-append got rest);
  held = λ w d. take-append-le r.length got rest (omega (arith, many)) ∙ take_all r.length got (omega (arith, many));
}

pub returns-in_err-skip : goal.returns-in_err-skip
returns-in_err-skip g c =
    let p = err_from_is_err_and c.from_residual.result c.from_residual.ensures.1 in
    let r = c.args.request.now in
    let whole : r.length ≡ content_length r.command r.length = rw c.requires.command refl in
    record {
      takes = rw p.1 tt;
      lacks = rw (p.1, p.2) (Lacks-of _ _ whole c.in_err-skip.ensures.lacks);
      later = c.in_err-skip.ensures.later;
      still = passed p.1 p.2 c.in_err-skip.ensures.still;
    }

pub slice_bounds-fill-end : goal.slice_bounds-fill-end
slice_bounds-fill-end g c =
    let r = c.args.request.now in
    let fits = write_fits c.args.size r c.requires.command (sym c.requires.outcome ∙ c.in-Done.is) in
    fits_buffer c.args.size _ r c.requires.room fits

pub returns-in_err-fill : goal.returns-in_err-fill
returns-in_err-fill g c =
    let p = err_from_is_err_and c.from_residual-in_err-fill.result c.from_residual-in_err-fill.ensures.1 in
    let r = c.args.request.now in
    let fits = write_fits c.args.size r c.requires.command (sym c.requires.outcome ∙ c.in-Done.is) in
    let many = length-take-le _ _ (fits_buffer c.args.size _ r c.requires.room fits) in
    let whole : r.length ≡ content_length r.command r.length = rw c.requires.command refl in
    record {
      takes = rw p.1 tt;
      lacks = rw (p.1, p.2) (Lacks-of _ _ (many ∙ whole) c.in_err-fill.ensures.lacks);
      later = c.in_err-fill.ensures.later;
      still = passed p.1 p.2 c.in_err-fill.ensures.still;
    }

pub returns : goal.returns
returns g c =
    let r = c.args.request.now in
    let fits = write_fits c.args.size r c.requires.command (sym c.requires.outcome ∙ c.in-Done.is) in
    let many = length-take-le _ _ (fits_buffer c.args.size _ r c.requires.room fits) in
    record {
      takes = written_content r c.args.outcome c.fill.new.into _ c.requires.command c.in-Done.is (c.fill.auto.into ∙ many) c.in_ok-fill.ensures.takes;
      lacks = tt;
      later = c.in_ok-fill.ensures.later;
      still = λ n. c.in_ok-fill.ensures.still ok_apart;
    }

pub returns-in_default : goal.returns-in_default
returns-in_default g c =
    let r = c.args.request.now in
    let other : c.args.outcome ≢ Done = c.in_default.not-Done in
    let t = c.in_ok-skip.ensures.takes in
    record {
      takes = record {
        content = t.0;
        whole = t.1 ∙ rw c.requires.command refl;
        takes = t.2;
        part = sym (part_undone r.command c.args.outcome r.length other);
        within = omega arith;
        held = λ w d. absurd (other d);
      };
      lacks = tt;
      later = c.in_ok-skip.ensures.later;
      still = λ n. c.in_ok-skip.ensures.still ok_apart;
    }
