use Rattle.std.proofs.Common.{◌≡◌, ◌≢◌, ◌+◌, ◌≤◌, ◌∙◌, ℕ, [], arith, refl, sym}
use Rattle.std.specs.Prelude.{min}
use Rattle.paraid_nbd.specs.declared.request.Command.{Command}
use Rattle.paraid_nbd.specs.declared.request.Command.TheVariants.{Read, Write, Disconnect, Flush, Unknown}
use Rattle.paraid_nbd.specs.declared.request.Outcome.{Outcome}
use Rattle.paraid_nbd.specs.declared.request.Outcome.TheVariants.{Done, Halted, Invalid, NoSpace}
use Rattle.paraid_nbd.specs.Performing.{part_length}
use Rattle.paraid_nbd.specs.Requests.{content_length}
use Rattle.paraid_nbd.specs.declared.request.Request.{Request}
use Rattle.paraid_nbd.proofs.ServiceLemmas.{read_fits}
use Rattle.paraid_nbd.proofs.TakingLemmas.{Takes-none, later_none}
use Rattle.paraid_nbd.proofs.serve.take_content.Goals as goal

-- a request that is not done is about nothing of the buffer
part_undone : (k : Command) (o : Outcome) (n : ℕ) → o ≢ Done → part_length k o n ≡ 0
part_undone Read Done n other = absurd (other refl)
part_undone Read Halted n other = refl
part_undone Read Invalid n other = refl
part_undone Read NoSpace n other = refl
part_undone Write Done n other = absurd (other refl)
part_undone Write Halted n other = refl
part_undone Write Invalid n other = refl
part_undone Write NoSpace n other = refl
part_undone Disconnect o n other = refl
part_undone Flush o n other = refl
part_undone Unknown o n other = refl

-- neither is one that is no read and no write
part_other : (k : Command) (o : Outcome) (n : ℕ) → k ≢ Read → k ≢ Write → part_length k o n ≡ 0
part_other Read o n no_read no_write = absurd (no_read refl)
part_other Write o n no_read no_write = absurd (no_write refl)
part_other Disconnect o n no_read no_write = refl
part_other Flush o n no_read no_write = refl
part_other Unknown o n no_read no_write = refl

-- nothing follows a request that is no write
content_other : (k : Command) (n : ℕ) → k ≢ Write → content_length k n ≡ 0
content_other Read n no_write = refl
content_other Write n no_write = absurd (no_write refl)
content_other Disconnect n no_write = refl
content_other Flush n no_write = refl
content_other Unknown n no_write = refl

fits_buffer : (size n : ℕ) (r : Request) → n ≡ min size 33554432 → (r.offset + r.length ≤ size) × (r.length ≤ 33554432) → r.length ≤ n
fits_buffer size n r room fits = omega (arith, room, fits.0, fits.1)

pub returns-in-Write-default : goal.returns-in-Write-default
returns-in-Write-default g c = record {
  takes = c.take_written.ensures.takes;
  lacks = c.take_written.ensures.lacks;
  later = c.take_written.ensures.later;
  still = c.take_written.ensures.still;
}

pub returns-in_default : goal.returns-in_default
returns-in_default g c =
    let r = c.args.request.now in
    record {
      takes = record {
        content = [];
        whole = sym (content_other r.command r.length c.in_default.not-Write-0);
        takes = Takes-none _ _;
        part = sym (part_undone r.command c.args.outcome r.length c.in_default.not-Done-1);
        within = omega arith;
        held = λ w d. absurd (c.in_default.not-Done-1 d);
      };
      lacks = tt;
      later = later_none _;
      still = λ n. refl;
    }

pub returns-in_default-2 : goal.returns-in_default-2
returns-in_default-2 g c =
    let r = c.args.request.now in
    record {
      takes = record {
        content = [];
        whole = sym (content_other r.command r.length c.in_default.not-Write-0);
        takes = Takes-none _ _;
        part = sym (part_other r.command c.args.outcome r.length c.in_default.not-Read-0 c.in_default.not-Write-0);
        within = omega arith;
        held = λ w d. absurd (c.in_default.not-Write-0 w);
      };
      lacks = tt;
      later = later_none _;
      still = λ n. refl;
    }

pub returns-in-Read-Done : goal.returns-in-Read-Done
returns-in-Read-Done g c =
    let r = c.args.request.now in
    let fits = read_fits c.args.size r c.in-Read-Done.is-0 (sym c.requires.outcome ∙ c.in-Read-Done.is-1) in
    record {
      takes = record {
        content = [];
        whole = rw c.in-Read-Done.is-0 refl;
        takes = Takes-none _ _;
        part = rw (c.in-Read-Done.is-0, c.in-Read-Done.is-1) refl;
        within = fits_buffer c.args.size _ r c.requires.room fits;
        held = λ w d. cc (c.in-Read-Done.is-0, w);
      };
      lacks = tt;
      later = later_none _;
      still = λ n. refl;
    }
