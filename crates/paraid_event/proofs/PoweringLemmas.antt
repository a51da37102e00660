-- From what a core says of its spin-ups and parks to what is told of them in an event.
use Rattle.std.proofs.Common.{◌≡◌, ℕ, ◌⊎◌, List, [], Option, Some, sym, ap, ◌∙◌, subst}
use Rattle.paraid_base.specs.History.{History}
use Rattle.paraid_base.specs.States.{named_out}
use Rattle.paraid_rack.specs.declared.call.Call.{Call}
use Rattle.paraid_rack.specs.Disks.{Disks}
use Rattle.paraid_rack.specs.Told.{CrashTriple, Ran}
use Rattle.paraid_rack.specs.Trail.{Trail, now, run}
use Rattle.paraid_rack.proofs.TrailsLemmas.{now-extend}
use Rattle.paraid_image.specs.Sides.{Batch}
use Rattle.paraid_core.specs.CoreInvariant.{HoldsBetweenCalls, IsHeldWithOneMissing}
use Rattle.paraid_core.proofs.CommitLemmas.{both_of}
use Rattle.paraid_event.specs.Marks.{ArePoweredByGear, IsMarkedBy}
use Rattle.paraid_event.specs.Powering.{AreDisksPowered, ArePowerCalls, PowersInEvent, ServiceRests}
use Rattle.paraid_event.specs.Service.{Service}
use Rattle.paraid_event.specs.Stands.{ServiceStandsFor}

module _ (told told_then : Option Trail) (k : Service) (h : History) (lo : ℕ) (out : Option ℕ) (is_out : (d : ℕ) → out ≡ Some d → (k.named ≡ Some d) ⊎ (named_out k.meta.out ≡ Some d))
    (rests : (t : Trail) → told ≡ Some t → ServiceStandsFor k h lo (now t) → ServiceRests k h lo (now t)) where
  abbrev P : Disks → Type 0
  P = IsHeldWithOneMissing k.slots k.meta.setup.geometry.disks out h lo

  abbrev Calls : Disks → List Call → Type 0
  Calls = ArePowerCalls k.meta

  pub powers_told : (k_then : Service) → k_then.batch ≡ [] → Ran told told_then Calls → Ran told told_then (CrashTriple P (ServiceRests k h lo) (ServiceRests k_then h lo))
      → ((t : Trail) → told_then ≡ Some t → IsMarkedBy (now t).power k.meta k_then.meta) → ((t : Trail) → told_then ≡ Some t → ArePoweredByGear (now t).power k_then.meta) → Ran told told_then (PowersInEvent k k_then h lo)
  powers_told k_then nothing calls stays marked powered t tells =
      let r = both_of Calls (CrashTriple P (ServiceRests k h lo) (ServiceRests k_then h lo)) told told_then calls stays t tells in
      let end : now t ≡ run (now r.from) r.calls = ap now r.is ∙ now-extend r.from r.calls in
      record {
        from = r.from;
        was = r.was;
        calls = r.calls;
        is = r.is;
        holds = λ z. let both = r.holds.1.goes (rests r.from r.was z) in (
          record { out = out; is_out = is_out; held = both.0; calls = r.holds.0.0; serving = r.holds.0.1 },
          record {
            keeps = subst (λ (x : Batch). HoldsBetweenCalls k_then.slots k_then.named k_then.meta k_then.table x k_then.copied h lo (run (now r.from) r.calls)) (sym nothing) both.1.keeps;
            marks = subst (λ (s : Disks). IsMarkedBy s.power k.meta k_then.meta) end (marked t tells);
            powered = subst (λ (s : Disks). ArePoweredByGear s.power k_then.meta) end (powered t tells);
          },
        );
      }

  pub powers_lost : (Q : Disks → List Call → Type 0) → Ran told told_then Calls → Ran told told_then (CrashTriple P (ServiceRests k h lo) P) → Ran told told_then Q
      → Ran told told_then (λ s cs. (ServiceStandsFor k h lo s → AreDisksPowered k h lo s cs) × Q s cs)
  powers_lost Q calls stays more t tells =
      let one = both_of Calls (CrashTriple P (ServiceRests k h lo) P) told told_then calls stays in
      let r = both_of _ Q told told_then one more t tells in
      record {
        from = r.from;
        was = r.was;
        calls = r.calls;
        is = r.is;
        holds = ((λ z. record { out = out; is_out = is_out; held = (r.holds.0.1.goes (rests r.from r.was z)).0; calls = r.holds.0.0.0; serving = r.holds.0.0.1 }), r.holds.1);
      }
