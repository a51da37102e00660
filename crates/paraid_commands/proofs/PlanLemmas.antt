-- From what a plan has done to how it comes out.
use Rattle.std.proofs.Common.{◌≡◌, ℕ, ◌⊎◌, ◌++◌, Bool, List, length, inl, inr, arith, subst}
use Rattle.std.proofs.lemmas.List.{take_all}
use Rattle.paraid_base.specs.Told.{AtEnd, GrowsByBytes, HasRisen}
use Rattle.paraid_planning.specs.Demand.{IsUnplanned}
use Rattle.paraid_planning.specs.declared.unplanned.Unplanned.{Unplanned}
use Rattle.paraid_planning.specs.declared.unplanned.Unplanned.TheVariants.{Source, TooLong, NoMemory, Demand}
use Rattle.paraid_serve.specs.Uses.{RackUse, SinkUse, SourceUse}
use Rattle.paraid_planning.specs.Planned.{plan_lines}
use Rattle.paraid_record.specs.declared.meta.Meta.{Meta}
use Rattle.paraid_recover.specs.Mount.{IsUnstarted}
use Rattle.paraid_serve.specs.Ending.{EndsWithLine, mount_line}
use Rattle.paraid_commands.specs.Complete.{Completes, HeldHistory, TellsLast}
use Rattle.paraid_commands.specs.Complete.Completes.{hindered, no_memory, whole}
use Rattle.paraid_commands.specs.Complete.Hinders.{sink_failed}
use Rattle.paraid_commands.specs.Complete.HindersRun.{other as run_other, source_failed, too_long}
use Rattle.paraid_commands.specs.PlanComes.{HindersPlan}
use Rattle.paraid_commands.specs.PlanComes.HindersPlan.{demand, other}
use Rattle.paraid_commands.specs.Planning.{PlanLines, PlanOutcome, TellsPlan, unplanned_status}
use Rattle.paraid_commands.specs.Planning.PlanLines.{planned, unplanned}
use Rattle.paraid_commands.specs.Planning.PlanOutcome.{refused, served}
use Rattle.paraid_commands.specs.Showing.{IsServedBy}
use Rattle.paraid_commands.proofs.CompleteLemmas.{refused_comes}

-- two lines that were told whole
told_after : (kept : SinkUse) (first line : List ℕ) (code status : ℕ) (e : EndsWithLine kept.written_before kept.written (first ++ line) code status) → e.count ≡ length (first ++ line) → TellsLast kept line
told_after kept first line code status e all = record {
  text = first;
  grows = subst (λ (x : List ℕ). GrowsByBytes kept.written_before kept.written x) (take_all e.count (first ++ line) (omega (arith, all))) e.grows;
}

-- only reads, or more than is said
less : (Whole Before After Hindered : Type 0) (status : ℕ) → (Before → After) → Completes Whole Before Hindered status → Completes Whole After Hindered status
less Whole Before After Hindered status f (whole is w) = whole is w
less Whole Before After Hindered status f (no_memory is b) = no_memory is (f b)
less Whole Before After Hindered status f (hindered x) = hindered x

module _ {rack : RackUse} (h : HeldHistory rack) (kept : SinkUse) (status : ℕ) (sunk : status ≡ 4 → HasRisen kept.faults_before kept.faults) (given : SourceUse) where
  abbrev Hindered : Type 0
  Hindered = HindersPlan h given kept status

  abbrev PlanComes : Type 0
  PlanComes = Completes ((AtEnd given.left × (cost : ℕ) × (gears : List ℕ) × TellsLast kept (plan_lines cost gears))) ((IsUnstarted rack.old rack.new rack.before rack.after ⊎ ((meta : Meta) × (dirty : ℕ → ℕ → Bool) × IsServedBy rack meta dirty))) Hindered status

  sunk_comes : status ≡ 4 → PlanComes
  sunk_comes four = hindered (other (run_other (sink_failed four (sunk four))))

  module _ (meta : Meta) (dirty : ℕ → ℕ → Bool) (stood : IsServedBy rack meta dirty) where
    by_cause : (cause : Unplanned) → IsUnplanned given.left_before given.left given.faults_before given.faults cause → status ≡ unplanned_status cause → PlanComes
    by_cause Source u is = hindered (other (source_failed is u.is.0))
    by_cause TooLong u is = hindered (other (too_long is u.bytes u.given u.is.0))
    by_cause NoMemory u is = no_memory is (inr (meta, dirty, stood))
    by_cause (Demand at) u is = hindered (demand is u.bytes u.given at u.is)

    by_lines : (ups code : ℕ) (lines : List ℕ) → PlanLines meta ups given code lines → (e : EndsWithLine kept.written_before kept.written lines code status) → (status ≡ 4) ⊎ ((e.count ≡ length lines) × (status ≡ code)) → PlanComes
    by_lines ups code lines outcome e (inl four) = sunk_comes four
    by_lines ups code lines (planned text p) e (inr all) = whole all.1 (p.read.end, _, p.gears, subst (TellsLast kept) p.lines (told_after kept (mount_line meta.writes meta.gear) text 0 status e all.0))
    by_lines ups code lines (unplanned cause u) e (inr all) = by_cause cause u all.1

  pub plan_comes : (ups : ℕ) → PlanOutcome rack given kept ups status → PlanComes
  plan_comes ups (served meta dirty stood t) = by_lines meta dirty stood ups t.code t.lines t.outcome t.ends t.ends.whole
  plan_comes ups (refused fault cause each ends unheard) = less (AtEnd given.left × (cost : ℕ) × (gears : List ℕ) × TellsLast kept (plan_lines cost gears)) (IsUnstarted rack.old rack.new rack.before rack.after) ((IsUnstarted rack.old rack.new rack.before rack.after ⊎ ((meta : Meta) × (dirty : ℕ → ℕ → Bool) × IsServedBy rack meta dirty))) Hindered status inl
      (refused_comes h kept status ((AtEnd given.left × (cost : ℕ) × (gears : List ℕ) × TellsLast kept (plan_lines cost gears))) Hindered (λ z. other (run_other z)) sunk fault cause each ends.count _ ends.whole)

not_planned : (cause : Unplanned) (status : ℕ) → status ≡ unplanned_status cause → status ≡ 0 → ⊥
not_planned Source status is zero = omega (arith, is, zero)
not_planned TooLong status is zero = omega (arith, is, zero)
not_planned NoMemory status is zero = omega (arith, is, zero)
not_planned (Demand at) status is zero = omega (arith, is, zero)

module _ (meta : Meta) (ups : ℕ) (given : SourceUse) (status : ℕ) where
  ended_by : (code n m : ℕ) (lines : List ℕ) → PlanLines meta ups given code lines → (status ≡ 4) ⊎ ((n ≡ m) × (status ≡ code)) → status ≡ 0 → AtEnd given.left
  ended_by code n m lines outcome (inl four) zero = absurd (omega (arith, four, zero))
  ended_by code n m lines (planned text p) (inr all) zero = p.read.end
  ended_by code n m lines (unplanned cause u) (inr all) zero = absurd (not_planned cause status all.1 zero)

  -- at 0 all of the source was taken
  pub plan_ended : (kept : SinkUse) → TellsPlan meta ups given kept status → status ≡ 0 → AtEnd given.left
  plan_ended kept t zero = ended_by t.code t.ends.count (length t.lines) t.lines t.outcome t.ends.whole zero

  by_fault : (cause : Unplanned) → IsUnplanned given.left_before given.left given.faults_before given.faults cause → status ≡ unplanned_status cause → status ≡ 3 → HasRisen given.faults_before given.faults
  by_fault Source u is three = u.is.0
  by_fault TooLong u is three = absurd (omega (arith, is, three))
  by_fault NoMemory u is three = absurd (omega (arith, is, three))
  by_fault (Demand at) u is three = absurd (omega (arith, is, three))

  failed_by : (code n m : ℕ) (lines : List ℕ) → PlanLines meta ups given code lines → (status ≡ 4) ⊎ ((n ≡ m) × (status ≡ code)) → status ≡ 3 → HasRisen given.faults_before given.faults
  failed_by code n m lines outcome (inl four) three = absurd (omega (arith, four, three))
  failed_by code n m lines (planned text p) (inr all) three = absurd (let e = all.1 in omega (arith, e, three))
  failed_by code n m lines (unplanned cause u) (inr all) three = by_fault cause u all.1 three

  -- at 3 the source has failed
  pub plan_source : (kept : SinkUse) → TellsPlan meta ups given kept status → status ≡ 3 → HasRisen given.faults_before given.faults
  plan_source kept t three = failed_by t.code t.ends.count (length t.lines) t.lines t.outcome t.ends.whole three
