use Rattle.std.specs.Prelude.{◌≡◌, ℕ, false, Some}
use Rattle.std.proofs.Common.{ap, arith, refl, subst, sym, ◌∙◌}
use Rattle.paraid_rack.specs.declared.call.Power.TheVariants.{Absent, Spinning}
use Rattle.paraid_rack.specs.Slots.{Slot}
use Rattle.paraid_rack.specs.Trail.{Trail, now}
use Rattle.paraid_image.specs.Sides.{is_open, stored_block, log_state}
use Rattle.paraid_image.specs.Standing.{other_log}
use Rattle.paraid_txn.specs.Losses.{OnlyLosesSlots}
use Rattle.paraid_recover.specs.Mounted.{IsFit}
use Rattle.paraid_recover.proofs.FailedLemmas.{calls_then, logs_calls}
use Rattle.paraid_recover.proofs.WitnessLemmas.{examined_later, read_only_then, slots_later, stands_later, witness_later, witness_refuses, witness_slots}
use Rattle.paraid_recover.specs.Order.{IsNotRefused}
use Rattle.paraid_txn.specs.Resume.{CanResume}
use Rattle.paraid_txn.specs.Stores.{store_rack}
use Rattle.paraid_dirty.specs.Table.{is_dirty}
use Rattle.paraid_recover.specs.Mount.{HasSettled}
use Rattle.paraid_recover.specs.Mount.IsCauseOfRefusal.{examined, no_memory, two_down, witnessed}
use Rattle.paraid_recover.specs.HeardSides.{ReadsLogs}
use Rattle.paraid_recover.proofs.BatchFarLemmas.{far_before}
use Rattle.paraid_recover.proofs.FarLemmas.{far_ran, reads_far}
use Rattle.paraid_recover.proofs.ExaminedLemmas.{fit_examined}
use Rattle.paraid_recover.proofs.MapServedLemmas.{map_sooner}
use Rattle.paraid_recover.proofs.MountCallsLemmas.{reads_then}
use Rattle.paraid_recover.proofs.MountedLemmas.{unstarted_here}
use Rattle.paraid_recover.proofs.OpenLemmas.{once_reads}
use Rattle.paraid_recover.proofs.mounting.mount_with.Given.{Over}
use Rattle.paraid_recover.proofs.mounting.mount_with.Goals as goal
use Rattle.paraid_recover.proofs.mounting.mount_with.Goals.{In-Ok-bring_up}

pub returns-in_default : goal.returns-in_default
returns-in_default g c = record {
  slots = tt;
  refused_slots = refl;
  servable = tt;
  nothing = tt;
  served = tt;
  refused = no_memory refl (unstarted_here (g.R.Rack.slot c.args.rack) (g.R.Rack.told c.args.rack));
  refused_later = λ d. omega arith;
}

pub returns-in_default-new : goal.returns-in_default-new
returns-in_default-new g c = record {
  slots = tt;
  refused_slots = c.examine.ensures.slots;
  servable = tt;
  nothing = tt;
  served = tt;
  refused = no_memory refl (record {
    lost = c.in-Ok-examine.ensures.ok.lost;
    only = record { calls = c.examine.ensures.calls; quiet = c.examine.ensures.quiet };
  });
  refused_later = c.examine.ensures.powers.no_fall;
}

pub returns-in-Err : goal.returns-in-Err
returns-in-Err g c = record {
  slots = tt;
  refused_slots = c.examine.ensures.slots;
  servable = tt;
  nothing = tt;
  served = tt;
  refused = examined c.in-Err.ensures.refused (record { calls = c.examine.ensures.calls; quiet = c.examine.ensures.quiet });
  refused_later = c.examine.ensures.powers.no_fall;
}

pub bring_up-requires-clause-fit : goal.bring_up-requires-clause-fit
bring_up-requires-clause-fit g c =
    let it = c.in-Ok-examine.ensures.ok in
    let can = c.in-Ok-examine.ensures.resumes in
    subst (λ (k : ℕ). IsFit k (g.R.Rack.slot c.heed.new.rack) c.in-Ok-examine.standing.meta) (sym c.in_default-heed.ensures.ok.reads.slots)
    (subst (λ (slot : ℕ → Slot). IsFit (g.R.Rack.slot_count c.examine.new.rack) slot c.in-Ok-examine.standing.meta) (slots_later c.in_default-heed.ensures.ok.reads.same)
    (fit_examined (g.R.Rack.slot_count c.examine.new.rack) (g.R.Rack.slot c.args.rack) (g.R.Rack.slot c.examine.new.rack) c.in-Ok-examine.standing.meta c.examine.new.batch
    c.examine.ensures.powers it.readable.0
    (subst (λ (k : ℕ). IsNotRefused k (g.R.Rack.slot c.examine.new.rack) c.in-Ok-examine.standing.meta c.examine.new.batch) (sym c.examine.ensures.slots) it.served.served) can.in_range can.exists))

pub bring_up-requires-clause-can : goal.bring_up-requires-clause-can
bring_up-requires-clause-can g c =
    let s = c.in-Ok-examine.standing in
    subst (λ (k : ℕ). CanResume k (g.R.Rack.slot c.heed.new.rack) s.side s.gate_open c.examine.new.batch s.meta) (sym c.in_default-heed.ensures.ok.reads.slots)
    (subst (λ (slot : ℕ → Slot). CanResume (g.R.Rack.slot_count c.examine.new.rack) slot s.side s.gate_open c.examine.new.batch s.meta) (slots_later c.in_default-heed.ensures.ok.reads.same) c.in-Ok-examine.ensures.resumes)

-- three slots are there
pub heed-requires : goal.heed-requires
heed-requires g c = record {
  log_disk = c.in-Ok-examine.ensures.resumes.log_disk;
  exists = (let many = c.in-Ok-examine.standing.meta.setup.geometry.disks_low in let all = c.in-Ok-examine.ensures.resumes.exists in omega arith);
}

pub returns-in-Err-heed : goal.returns-in-Err-heed
returns-in-Err-heed g c = record {
  slots = tt;
  refused_slots = witness_slots g.R.Rack c.in-Ok-examine.standing.side c.examine.new.rack c.heed.new.rack c.in-Err-heed.two c.in-Err-heed.ensures.err ∙ c.examine.ensures.slots;
  servable = tt;
  nothing = tt;
  served = tt;
  refused =
      let s = c.in-Ok-examine.standing in
      let is = witness_refuses g.R.Rack s.side (log_state s.gate_open s.meta c.examine.new.batch) c.examine.new.rack c.heed.new.rack c.in-Err-heed.two c.in-Ok-examine.ensures.stands c.in-Err-heed.ensures.err in
      witnessed (g.R.Rack.told c.examine.new.rack) (g.R.Rack.slot c.examine.new.rack) s.side (log_state s.gate_open s.meta c.examine.new.batch) c.in-Err-heed.two
      (calls_then ReadsLogs c.examine.ensures.calls (logs_calls (omega arith) is.0)) c.in-Ok-examine.ensures.ok c.in-Ok-examine.ensures.resumes.log_disk refl is.1;
  refused_later = λ d.
      let is = witness_later g.R.Rack c.in-Ok-examine.standing.side c.examine.new.rack c.heed.new.rack c.in-Err-heed.two c.in-Err-heed.ensures.err d in
      let a = c.examine.ensures.powers.no_fall d in omega arith;
}

-- what is told
settled : (g : Over) (c : In-Ok-bring_up g)
    → HasSettled c.in-Ok-examine.standing.side (log_state c.in-Ok-examine.standing.gate_open c.in-Ok-examine.standing.meta c.examine.new.batch) c.in-Ok-bring_up.mounted.meta
    (is_dirty c.in-Ok-bring_up.mounted.dirty) (g.R.Rack.told c.args.rack) (g.R.Rack.told (store_rack c.in-Ok-bring_up.mounted.store))
settled g c =
    let s = c.in-Ok-examine.standing in
    let ends = c.in-Ok-bring_up.ensures.ends in
    record {
      recovered = record {
        read = g.R.Rack.told c.heed.new.rack;
        reads = read_only_then c.in-Ok-examine.ensures.one (c.in_default-heed.ensures.ok.reads.unchanged refl);
        first_calls = calls_then ReadsLogs c.examine.ensures.calls (logs_calls (omega arith) c.in_default-heed.ensures.ok.reads.calls);
        later_calls = c.in-Ok-bring_up.ensures.mounts.allowed;
        calls = reads_then s.meta (g.R.Rack.told c.args.rack) (g.R.Rack.told c.heed.new.rack) (g.R.Rack.told (store_rack c.in-Ok-bring_up.mounted.store)) (calls_then ReadsLogs c.examine.ensures.calls (logs_calls (omega arith) c.in_default-heed.ensures.ok.reads.calls)) c.in-Ok-bring_up.ensures.mounts.allowed;
        stands = stands_later _ _ _ _ (c.in_default-heed.ensures.ok.reads.unchanged refl) c.in-Ok-examine.ensures.stands;
        holds = c.in-Ok-bring_up.ensures.mounts.holds;
        metas = c.in-Ok-bring_up.ensures.mounts.metas;
        far = far_before c.examine.new.batch (g.R.Rack.told c.args.rack) (g.R.Rack.told c.heed.new.rack) (g.R.Rack.told (store_rack c.in-Ok-bring_up.mounted.store))
            (far_ran ReadsLogs _ _ reads_far (calls_then ReadsLogs c.examine.ensures.calls (logs_calls (omega arith) c.in_default-heed.ensures.ok.reads.calls))) c.in-Ok-bring_up.ensures.mounts.far;
        once = once_reads s.meta (g.R.Rack.told c.args.rack) (g.R.Rack.told c.heed.new.rack) (g.R.Rack.told (store_rack c.in-Ok-bring_up.mounted.store)) (calls_then ReadsLogs c.examine.ensures.calls (logs_calls (omega arith) c.in_default-heed.ensures.ok.reads.calls)) c.in-Ok-bring_up.ensures.mounts.once;
      };
      standing = ends.0;
      lost = ends.1;
      is = ends.2;
      version_is = ends.3;
      mark = ends.4.0;
      standing_is = ends.4.1;
      mark_is = ends.4.2;
      lost_is = ends.7;
      ends = ends.5;
      map = ends.6;
      cells = ends.8;
    }

pub returns-in-Ok-bring_up : goal.returns-in-Ok-bring_up
unfolding settled
returns-in-Ok-bring_up g c = record {
  slots = c.in-Ok-bring_up.ensures.mounts.slots ∙ c.in_default-heed.ensures.ok.reads.slots ∙ c.examine.ensures.slots;
  refused_slots = tt;
  servable = c.in-Ok-bring_up.ensures.servable;
  nothing = c.in-Ok-bring_up.ensures.nothing;
  served =
      let s = c.in-Ok-examine.standing in
      record {
        side = s.side;
        said = log_state s.gate_open s.meta c.examine.new.batch;
        settled = settled g (goal.at.returns-in-Ok-bring_up g c).In-Ok-bring_up;
        under = c.in-Ok-bring_up.ensures.ends.9;
        read = g.R.Rack.slot c.heed.new.rack;
        agrees = g.met.R.Rack.agrees c.heed.new.rack;
        examined = examined_later _ _ _ _ _ _ _ _ (c.in_default-heed.ensures.ok.reads.same refl) (c.in_default-heed.ensures.ok.reads.unchanged refl) c.in-Ok-examine.ensures.ok;
        unwitnessed = subst (λ (slot : ℕ → Slot). (slot (other_log s.side)).power ≡ Absent → (slot 2).power ≡ Spinning → (t : Trail) → g.R.Rack.told c.heed.new.rack ≡ Some t → is_open (stored_block (now t) 2 s.side) ≡ false) (slots_later c.in_default-heed.ensures.ok.reads.same) c.in_default-heed.ensures.ok.shut;
        borne = c.in-Ok-bring_up.ensures.borne;
        marked = c.in-Ok-bring_up.ensures.marked;
        unwritten = c.in-Ok-bring_up.ensures.mounts.unwritten;
        later = λ d. (let a = c.examine.ensures.powers.no_fall d in let same = ap (λ (k : Slot). k.faults) (c.in_default-heed.ensures.ok.reads.same refl d) in let b = c.in-Ok-bring_up.ensures.mounts.later d in omega arith);
        map = map_sooner (g.R.Rack.slot c.args.rack) (g.R.Rack.slot c.heed.new.rack) (g.R.Rack.slot (store_rack c.in-Ok-bring_up.mounted.store)) c.in-Ok-bring_up.mounted.meta (is_dirty c.in-Ok-bring_up.mounted.dirty)
            (g.R.Rack.told (store_rack c.in-Ok-bring_up.mounted.store)) (subst (OnlyLosesSlots (g.R.Rack.slot c.args.rack)) (slots_later c.in_default-heed.ensures.ok.reads.same) c.examine.ensures.powers) c.in-Ok-bring_up.ensures.map;
      };
  refused = tt;
  refused_later = tt;
}

pub returns : goal.returns
returns g c = record {
  slots = tt;
  refused_slots = c.in-Err-bring_up.ensures.refused.slots ∙ c.in_default-heed.ensures.ok.reads.slots ∙ c.examine.ensures.slots;
  servable = tt;
  nothing = tt;
  served = tt;
  refused =
      let s = c.in-Ok-examine.standing in
      let two = c.in-Err-bring_up.ensures.two in
      two_down (g.R.Rack.slot c.heed.new.rack) s.side (log_state s.gate_open s.meta c.examine.new.batch) two.0
      (record {
        read = g.R.Rack.told c.heed.new.rack;
        reads = read_only_then c.in-Ok-examine.ensures.one (c.in_default-heed.ensures.ok.reads.unchanged refl);
        first_calls = calls_then ReadsLogs c.examine.ensures.calls (logs_calls (omega arith) c.in_default-heed.ensures.ok.reads.calls);
        later_calls = c.in-Err-bring_up.ensures.refused.allowed;
        calls = reads_then s.meta (g.R.Rack.told c.args.rack) (g.R.Rack.told c.heed.new.rack) (g.R.Rack.told c.in-Err-bring_up.refused.rack) (calls_then ReadsLogs c.examine.ensures.calls (logs_calls (omega arith) c.in_default-heed.ensures.ok.reads.calls)) c.in-Err-bring_up.ensures.refused.allowed;
        stands = stands_later _ _ _ _ (c.in_default-heed.ensures.ok.reads.unchanged refl) c.in-Ok-examine.ensures.stands;
        holds = c.in-Err-bring_up.ensures.refused.holds;
        metas = c.in-Err-bring_up.ensures.refused.metas;
        far = far_before c.examine.new.batch (g.R.Rack.told c.args.rack) (g.R.Rack.told c.heed.new.rack) (g.R.Rack.told c.in-Err-bring_up.refused.rack)
            (far_ran ReadsLogs _ _ reads_far (calls_then ReadsLogs c.examine.ensures.calls (logs_calls (omega arith) c.in_default-heed.ensures.ok.reads.calls))) c.in-Err-bring_up.ensures.refused.far;
        once = once_reads s.meta (g.R.Rack.told c.args.rack) (g.R.Rack.told c.heed.new.rack) (g.R.Rack.told c.in-Err-bring_up.refused.rack) (calls_then ReadsLogs c.examine.ensures.calls (logs_calls (omega arith) c.in_default-heed.ensures.ok.reads.calls)) c.in-Err-bring_up.ensures.refused.once;
      })
      (g.met.R.Rack.agrees c.heed.new.rack) (examined_later _ _ _ _ _ _ _ _ (c.in_default-heed.ensures.ok.reads.same refl) (c.in_default-heed.ensures.ok.reads.unchanged refl) c.in-Ok-examine.ensures.ok) two.1 two.2 two.3 two.4;
  refused_later = λ d. let a = c.examine.ensures.powers.no_fall d in let same = ap (λ (k : Slot). k.faults) (c.in_default-heed.ensures.ok.reads.same refl d) in let b = c.in-Err-bring_up.ensures.refused.later d in omega arith;
}
