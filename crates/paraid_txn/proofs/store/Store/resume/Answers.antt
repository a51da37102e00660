use Rattle.std.specs.Prelude.{◌≡◌}
use Rattle.std.proofs.Common.{refl, ◌∙◌}
use Rattle.paraid_image.specs.Out.{first_absent, named_out, or_else}
use Rattle.paraid_txn.proofs.AloneLemmas.{gone_beside, tells_beside, two_beside}
use Rattle.paraid_txn.proofs.KnownLemmas.{nothing_known, still_enough}
use Rattle.paraid_txn.proofs.OneLemmas.{one_stays}
use Rattle.paraid_txn.proofs.store.Store.resume.Given.{Over}
use Rattle.paraid_txn.proofs.store.Store.resume.Goals as goal
use Rattle.paraid_txn.proofs.store.Store.resume.Goals.{After-end_commit-ended}

-- the disk that is down as it begins
down_is : (g : Over) (c : After-end_commit-ended g) → c.out_first.result
    ≡ or_else (first_absent (λ e. (g.R.Rack.slot c.args.rack e).power) c.args.meta.now.setup.geometry.disks)
    (or_else (named_out c.args.meta.now.out) (named_out c.args.meta.now.out))
down_is g c = c.out_first.ensures ∙ rw (c.find_absent-absent.ensures, c.adopt-store.ensures.named, c.adopt-store.ensures.rack, c.adopt-store.ensures.disks) refl

-- the same, by the store that is made
down_by : (g : Over) (c : After-end_commit-ended g) → c.out_first.result
    ≡ or_else (first_absent (λ e. (g.R.Rack.slot c.adopt-store.result.rack e).power) c.args.meta.now.setup.geometry.disks)
    (or_else (named_out c.args.meta.now.out) (named_out c.args.meta.now.out))
down_by g c = c.out_first.ensures ∙ rw (c.find_absent-absent.ensures, c.adopt-store.ensures.named, c.adopt-store.ensures.disks) refl

pub returns-in-Err : goal.returns-in-Err
returns-in-Err g c =
    let at = goal.at.returns-in-Err g c in
    let part = c.end_commit-ended.ensures.leaves.part in
    record {
      resumes = tt;
      refused = record {
        on = rw (← (c.adopt-store.ensures.rack), c.close.ensures) (record {
          slots = c.end_commit-ended.ensures.leaves.slots;
          powers = record { power = part.lasts.power; size = part.lasts.size; no_fall = part.lasts.no_fall };
          each = part.lasts.each;
          calls = part.calls;
          any_moment = c.end_commit-ended.ensures.moments;
          quiet = c.end_commit-ended.ensures.quiet;
        });
        two = (two_beside _ _ _ _ _ _ _ _ (down_is g at.After-end_commit-ended)
            (rw (← (c.adopt-store.ensures.rack), c.close.ensures) c.in-Err.ensures.leaves.part.two));
        gone = (gone_beside _ _ _ _ _ _ _ _ (down_is g at.After-end_commit-ended)
            (rw (← (c.adopt-store.ensures.rack), c.close.ensures) c.in-Err.ensures.leaves.part.gone));
        order = (λ only is. tells_beside _ _ _ _ _ _ _ _ (down_is g at.After-end_commit-ended)
            (rw (← (c.adopt-store.ensures.rack), c.close.ensures) c.in-Err.ensures.leaves.part.order) only is);
      };
    }

pub returns : goal.returns
returns g c =
    let at = goal.at.returns g c in
    let part = c.end_commit-ended.ensures.leaves.part in
    record {
      resumes = record {
        on = rw (← (c.adopt-store.ensures.rack)) (record {
          slots = c.end_commit-ended.ensures.leaves.slots;
          powers = record { power = part.lasts.power; size = part.lasts.size; no_fall = part.lasts.no_fall };
          each = part.lasts.each;
          calls = part.calls;
          any_moment = c.end_commit-ended.ensures.moments;
          quiet = c.end_commit-ended.ensures.quiet;
        });
        disks = c.adopt-store.ensures.disks;
        epoch = c.adopt-store.ensures.epoch;
        named = c.adopt-store.ensures.named;
        synced = rw (← (c.adopt-store.ensures.rack)) c.in_default.ensures.leaves.still_synced;
        one = (let well = c.in_default.ensures.leaves.part.well in
            rw (← (c.adopt-store.ensures.rack)) (one_stays c.args.meta.now.setup.geometry.disks (named_out c.args.meta.now.out) (named_out c.args.meta.now.out) _ _ _ _ (λ e is. is) (down_by g at.After-end_commit-ended) part.lasts well));
        ended = rw (← (c.adopt-store.ensures.rack)) c.in_default.ensures.done;
        laid = rw (← (c.adopt-store.ensures.rack)) c.in_default.ensures.laid;
      };
      refused = tt;
    }

pub invariant_of-store : goal.invariant_of-store
invariant_of-store g c = record {
  exists = still_enough c.end_commit-ended.ensures.leaves.slots c.adopt-store.result.exists;
  known = nothing_known c.adopt-store.ensures.borne;
}

pub invariant_of-store-2 : goal.invariant_of-store-2
invariant_of-store-2 g c = record {
  exists = still_enough c.end_commit-ended.ensures.leaves.slots c.adopt-store.result.exists;
  known = nothing_known c.adopt-store.ensures.borne;
}
