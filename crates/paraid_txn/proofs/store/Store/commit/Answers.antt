use Rattle.std.proofs.Common.{rules, ◌+◌, ◌∙◌, refl, sym, subst, inl, inr}
use Rattle.std.specs.Prelude.{◌≡◌, ◌≢◌, ◌<◌, ℕ, Option, Some, Result, Ok, Err, IfErr, OnErr, IsErrAnd}
use Rattle.paraid_base.specs.declared.fault.Two.{Two}
use Rattle.paraid_record.specs.declared.meta.Meta.{Meta}
use Rattle.paraid_image.specs.Calls.{disk_of}
use Rattle.paraid_image.specs.Lost.{BearsLoss, TellsLosses}
use Rattle.paraid_image.specs.Out.{first_absent, named_out, or_else}
use Rattle.paraid_txn.specs.Losses.IsOutOfCommit.{is_named}
use Rattle.paraid_txn.specs.Losses.{IsOnlyOut, IsOutOfCommit}
use Rattle.paraid_rack.specs.Disks.{Disks}
use Rattle.paraid_rack.specs.Told.{Ran}
use Rattle.paraid_txn.specs.CommitStages.{IsSpelled, job}
use Rattle.paraid_txn.proofs.AloneLemmas.{alone_out, first_only, gone_beside, lost_down, two_beside}
use Rattle.paraid_txn.proofs.BorneLemmas.{leaves_borne, leaves_named, no_disk, same_disk}
use Rattle.paraid_txn.proofs.CommitPartLemmas.{raised_if_ok, raised_ok}
use Rattle.paraid_txn.proofs.DownLemmas.{AreCommitCalls-absent, AreCommitCalls-risen}
use Rattle.paraid_image.proofs.OutLemmas.{first_absent_is}
use Rattle.paraid_txn.proofs.WitnessCallLemmas.{uses_below}
use Rattle.paraid_txn.specs.Witness.{IsNoSecond}
use Rattle.paraid_txn.proofs.StoreLemmas.{commits, next_in_range, start_ready, whole_or_absent}
use Rattle.paraid_txn.proofs.store.Store.commit.Given.{Over}
use Rattle.paraid_txn.proofs.store.Store.commit.Goals as goal
use Rattle.paraid_txn.proofs.store.Store.commit.Goals.{After-run_witnessed, In_default}

pub run_witnessed-requires : goal.run_witnessed-requires
run_witnessed-requires g c = record {
  log_disk = c.opens_first-first.ensures.log_disk;
  exists = search rules;
  log = c.requires.can.log;
  ready = c.requires.can.ready;
  in_range = record { few = c.put_list.ensures.few; each = c.requires.can.each; distinct = c.put_list.ensures.distinct };
  absent = λ d is. (first_absent_is _ _ d (sym c.find_absent-absent.ensures ∙ is)).1;
  witness = c.requires.witness;
  none_lost = refl;
}

-- the blocks spell the next meta and the targets
spelled : (g : Over) (c : After-run_witnessed g) (start : Disks)
    → IsSpelled (job start (record c.args.meta.now { epoch = c.args.self.now.epoch + 1 }) c.args.batch.now c.write_meta.new.into c.put_list.new.list c.opens_first-first.result)
spelled g c start = record {
  meta = record { in_range = next_in_range c.args.meta.now c.args.self.now.epoch c.requires.can.in_range c.requires.can.epoch; bytes = c.write_meta.ensures };
  in_range = record { few = c.put_list.ensures.few; each = c.requires.can.each; distinct = c.put_list.ensures.distinct };
  list = c.put_list.ensures.value;
  first = c.opens_first-first.ensures.log_disk;
}

-- a log disk that comes in again is the first
joins : (g : Over) (c : After-run_witnessed g) (before : Meta) → c.args.self.now.named ≡ named_out before.out
    → (x : ℕ) → x < 2 → named_out before.out ≡ Some x → named_out c.args.meta.now.out ≢ Some x → c.opens_first-first.result ≡ x
joins g c before named x low was not = c.opens_first-first.ensures.joins x low (named ∙ was)

-- the disk that is down as it begins
down_is : (g : Over) (c : After-run_witnessed g) → c.out_first.result
    ≡ or_else (first_absent (λ e. (g.R.Rack.slot c.args.self.now.rack e).power) c.args.self.now.disks) (or_else c.args.self.now.named (named_out c.args.meta.now.out))
down_is g c = c.out_first.ensures ∙ rw (c.find_absent-absent.ensures, c.named-named.ensures) refl

raised : {A : Type 0} (P : Two → Type 0) (result : Result A Two) (two : Two) → IsErrAnd result (λ other. other ≡ two) → P two → IfErr result P
raised P (Ok it) two is it' = tt
raised P (Err other) two is it = subst P (sym is) it

-- what holds anyhow holds where it fails
on_err : {A E X : Type 0} (result : Result A E) → X → OnErr result X
on_err (Ok it) x = tt
on_err (Err e) x = x

-- the one disk that is out, if one is
only_down : (g : Over) (c : After-run_witnessed g) (only : Option ℕ)
    → IsOnlyOut (IsOutOfCommit (λ e. (g.R.Rack.slot c.args.self.now.rack e).power) c.args.self.now.disks c.args.self.now.named (named_out c.args.meta.now.out)) only → c.out_first.result ≡ only
only_down g c only is = down_is g c ∙ first_only _ _ _ _ only is

pub returns-in_err-borne : goal.returns-in_err-borne
returns-in_err-borne g c =
    let at = goal.at.returns-in_err-borne g c in
    record {
      keeps = record {
        slots = c.run_witnessed.ensures.leaves.slots;
        disks = refl;
        powers = record { power = c.run_witnessed.ensures.leaves.part.lasts.power; size = c.run_witnessed.ensures.leaves.part.lasts.size; no_fall = c.run_witnessed.ensures.leaves.part.lasts.no_fall };
        each = c.run_witnessed.ensures.leaves.part.lasts.each;
        two = raised _ _ _ c.from_residual.ensures.1 (two_beside _ _ _ _ _ _ _ _ (down_is g at.After-run_witnessed) c.in_err-borne.ensures.leaves.part.two);
        gone = raised _ _ _ c.from_residual.ensures.1 (gone_beside _ _ _ _ _ _ _ _ (down_is g at.After-run_witnessed) c.in_err-borne.ensures.leaves.part.gone);
        order = raised _ _ _ c.from_residual.ensures.1 (λ only is. subst (λ (o : Option ℕ). Ran (g.R.Rack.told c.args.self.now.rack) (g.R.Rack.told c.run_witnessed.new.rack) (λ start calls. TellsLosses o c.in_err-borne.field-0.0 calls)) (only_down g at.After-run_witnessed only is) c.in_err-borne.ensures.leaves.part.order);
      };
      takes = record {
        epoch = raised_ok _ _ c.from_residual.result c.from_residual.ensures.1;
        named = raised_ok _ _ c.from_residual.result c.from_residual.ensures.1;
        synced = raised_ok _ _ c.from_residual.result c.from_residual.ensures.1;
        ended = on_err c.from_residual.result (refl, refl);
      };
      loss = raised_if_ok _ _ c.from_residual.result c.from_residual.ensures.1;
      calls = c.run_witnessed.ensures.leaves.part.calls;
      bears_witness = raised_if_ok _ _ c.from_residual.result c.from_residual.ensures.1;
      knows = raised_if_ok _ _ c.from_residual.result c.from_residual.ensures.1;
      once = c.run_witnessed.ensures.once;
      any_moment = (λ before named. whole_or_absent _ _ _ _ _ (spelled g at.After-run_witnessed) _ _
          (λ s is. start_ready _ _ _ _ _ (g.met.R.Rack.agrees _ s is) c.requires.can.log c.requires.can.ready) before (joins g at.After-run_witnessed before named)
          (λ start. (c.run_witnessed.ensures.crash start before (spelled g at.After-run_witnessed start) named).moments));
      committed = raised_ok _ _ c.from_residual.result c.from_residual.ensures.1;
    }

-- no other disk was lost than the one that the new meta names
no_second : (g : Over) (c : In_default g) → IsNoSecond c.run_witnessed.new.losses.lost c.args.meta.now
no_second g c d e is name = c.find_second.ensures.none c.in_default.is d e is (c.named-named.ensures ∙ name)

pub returns : goal.returns
returns g c =
    let at = goal.at.returns g c in
    record {
      keeps = record {
        slots = c.run_witnessed.ensures.leaves.slots;
        disks = refl;
        powers = record { power = c.run_witnessed.ensures.leaves.part.lasts.power; size = c.run_witnessed.ensures.leaves.part.lasts.size; no_fall = c.run_witnessed.ensures.leaves.part.lasts.no_fall };
        each = c.run_witnessed.ensures.leaves.part.lasts.each;
        two = tt;
        gone = tt;
        order = tt;
      };
      takes = record {
        epoch = refl;
        named = c.named-named.ensures;
        synced = c.in_ok-borne.ensures.leaves.still_synced;
        ended = tt;
      };
      loss = record {
        lost = (λ d is. record {
          risen = AreCommitCalls-risen _ _ _ _ d c.run_witnessed.ensures.leaves.part.lasts refl is;
          absent = AreCommitCalls-absent _ _ _ _ d c.run_witnessed.ensures.leaves.part.lasts refl is;
        });
        alone = (λ d is. let after = c.run_witnessed.new.losses in
            elim (c.run_witnessed.ensures.leaves.part.on d is) [
              | inl none ↦ absurd (no_disk none)
              | inr on ↦ record {
                below = subst (λ (k : ℕ). k < c.args.self.now.disks) on.0.2 (subst (λ (n : ℕ). disk_of on.0.0 < n) c.requires.can.array (uses_below (record c.args.meta.now { epoch = c.args.self.now.epoch + 1 }) c.args.batch.now on.0.0 on.0.1));
                alone = alone_out _ _ _ _ d on.1
                    (λ e down. same_disk (sym (c.run_witnessed.ensures.leaves.part.lasts.remains e (down_is g at.After-run_witnessed ∙ down)) ∙ after.agrees d is))
                    (λ e named. c.find_second.ensures.none c.in_default.is d e is (c.named-named.ensures ∙ named));
              }
            ]);
        well = λ d not. c.in_ok-borne.ensures.leaves.part.well d not;
        bears = (λ only is. let after = c.run_witnessed.new.losses in
            let down = lost_down c.out_first.result after.down after.lost after.agrees c.run_witnessed.ensures.leaves.part.lasts.down c.run_witnessed.ensures.leaves.part.lasts.remains in
            subst (λ (o : Option ℕ). Ran (g.R.Rack.told c.args.self.now.rack) (g.R.Rack.told c.run_witnessed.new.rack) (λ start calls. BearsLoss o (or_else after.lost o) calls)) (only_down g at.After-run_witnessed only is)
            (subst (λ (o : Option ℕ). Ran (g.R.Rack.told c.args.self.now.rack) (g.R.Rack.told c.run_witnessed.new.rack) (λ start calls. BearsLoss c.out_first.result o calls)) down c.in_ok-borne.ensures.leaves.part.order));
      };
      calls = c.run_witnessed.ensures.leaves.part.calls;
      bears_witness = leaves_borne (record c.args.meta.now { epoch = c.args.self.now.epoch + 1 }) c.args.self.now.borne c.run_witnessed.new.losses.lost (no_second g at.In_default) c.args.self.now.known c.in_ok-borne.ensures.borne;
      knows = c.in_ok-borne.ensures.knows (no_second g at.In_default);
      once = c.run_witnessed.ensures.once;
      any_moment = (λ before named. whole_or_absent _ _ _ _ _ (spelled g at.After-run_witnessed) _ _
          (λ s is. start_ready _ _ _ _ _ (g.met.R.Rack.agrees _ s is) c.requires.can.log c.requires.can.ready) before (joins g at.After-run_witnessed before named)
          (λ start. (c.run_witnessed.ensures.crash start before (spelled g at.After-run_witnessed start) named).moments));
      committed = (λ before named. commits _ _ _ _ _ (spelled g at.After-run_witnessed) _ _
          (λ s is. start_ready _ _ _ _ _ (g.met.R.Rack.agrees _ s is) c.requires.can.log c.requires.can.ready) before (joins g at.After-run_witnessed before named)
          (leaves_named (record c.args.meta.now { epoch = c.args.self.now.epoch + 1 }) c.args.self.now.borne c.run_witnessed.new.losses.lost (no_second g at.In_default) c.args.self.now.known c.in_ok-borne.ensures.borne)
          (λ start. (c.in_ok-borne.ensures.crash start before (spelled g at.After-run_witnessed start) named).done));
    }

pub returns-in-Some : goal.returns-in-Some
returns-in-Some g c =
    let at = goal.at.returns-in-Some g c in
    record {
      keeps = record {
        slots = c.run_witnessed.ensures.leaves.slots;
        disks = refl;
        powers = record { power = c.run_witnessed.ensures.leaves.part.lasts.power; size = c.run_witnessed.ensures.leaves.part.lasts.size; no_fall = c.run_witnessed.ensures.leaves.part.lasts.no_fall };
        each = c.run_witnessed.ensures.leaves.part.lasts.each;
        two = (let both = c.find_second.ensures.two c.in-Some.two c.in-Some.is in
            record {
              first = inl (is_named (sym c.named-named.ensures ∙ both.0));
              apart = both.2;
              second = AreCommitCalls-risen _ _ _ _ _ c.run_witnessed.ensures.leaves.part.lasts refl both.1;
            });
        gone = (let both = c.find_second.ensures.two c.in-Some.two c.in-Some.is in
            record {
              first = inl (is_named (sym c.named-named.ensures ∙ both.0));
              second = record {
                there = elim (c.run_witnessed.ensures.leaves.part.on c.in-Some.two.second both.1) [
                  | inl none ↦ absurd (no_disk none)
                  | inr on ↦ on.1
                ];
                absent = AreCommitCalls-absent _ _ _ _ _ c.run_witnessed.ensures.leaves.part.lasts refl both.1;
              };
            });
        order = (λ only is. let both = c.find_second.ensures.two c.in-Some.two c.in-Some.is in
            let down = only_down g at.After-run_witnessed only is ∙ is.one c.in-Some.two.first (is_named (sym c.named-named.ensures ∙ both.0)) in
            let still = c.run_witnessed.ensures.leaves.part.lasts.remains c.in-Some.two.first down in
            let lost = c.run_witnessed.new.losses.agrees c.in-Some.two.second both.1 in
            absurd (both.2 (same_disk (sym still ∙ lost))));
      };
      takes = record {
        epoch = tt;
        named = tt;
        synced = tt;
        ended = (refl, refl);
      };
      loss = tt;
      calls = c.run_witnessed.ensures.leaves.part.calls;
      bears_witness = tt;
      knows = tt;
      once = c.run_witnessed.ensures.once;
      any_moment = (λ before named. whole_or_absent _ _ _ _ _ (spelled g at.After-run_witnessed) _ _
          (λ s is. start_ready _ _ _ _ _ (g.met.R.Rack.agrees _ s is) c.requires.can.log c.requires.can.ready) before (joins g at.After-run_witnessed before named)
          (λ start. (c.run_witnessed.ensures.crash start before (spelled g at.After-run_witnessed start) named).moments));
      committed = tt;
    }
