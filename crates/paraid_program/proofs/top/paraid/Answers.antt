use Rattle.std.proofs.Common.{◌≡◌, ap, ◌∙◌, Some, refl}
use Rattle.paraid_words.specs.declared.command.Command.TheVariants.{Format, Run, Spare, Status, Check, Gen, Nbd, Vol, Plan}
use Rattle.paraid_commands.proofs.CompleteLemmas.{check_comes, gen_comes, run_comes, status_comes}
use Rattle.paraid_program.proofs.FormatLemmas.{format_comes}
use Rattle.paraid_commands.proofs.PlanLemmas.{plan_comes}
use Rattle.paraid_commands.proofs.SpareLemmas.{spared_comes}
use Rattle.paraid_commands.proofs.NbdComesLemmas.{nbd_comes}
use Rattle.paraid_commands.proofs.VolumeLemmas.{volumes_come}
use Rattle.paraid_commands.proofs.TakenLemmas.{check_not_read, not_read}
use Rattle.paraid_words.proofs.AskedLemmas.{asks, does_it, nothing_asked}
use Rattle.paraid_words.specs.Reads.{ReadsSource, TakesSource}
use Rattle.paraid_words.specs.declared.command.Command.{Command}
use Rattle.paraid_program.proofs.top.paraid.Given.{Over}
use Rattle.paraid_program.proofs.top.paraid.Goals as goal
use Rattle.paraid_program.proofs.top.paraid.Goals.{In-Some-Check, In-Some-Format, In-Some-Gen, In-Some-Nbd, In-Some-Plan, In-Some-Run, In-Some-Spare, In-Some-Status, In-Some-Vol}

format_is : (g : Over) (c : In-Some-Format g) → c.read_words.result ≡ Some (Format c.in-Some-Format.force)
format_is g c = c.in-Some-Format.is ∙ ap Some c.in-Some-Format.field-0-is

run_is : (g : Over) (c : In-Some-Run g) → c.read_words.result ≡ Some Run
run_is g c = c.in-Some-Run.is ∙ ap Some c.in-Some-Run.field-0-is

status_is : (g : Over) (c : In-Some-Status g) → c.read_words.result ≡ Some Status
status_is g c = c.in-Some-Status.is ∙ ap Some c.in-Some-Status.field-0-is

check_is : (g : Over) (c : In-Some-Check g) → c.read_words.result ≡ Some Check
check_is g c = c.in-Some-Check.is ∙ ap Some c.in-Some-Check.field-0-is

gen_is : (g : Over) (c : In-Some-Gen g) → c.read_words.result ≡ Some (Gen c.in-Some-Gen.number c.in-Some-Gen.lines)
gen_is g c = c.in-Some-Gen.is ∙ ap Some c.in-Some-Gen.field-0-is

nbd_is : (g : Over) (c : In-Some-Nbd g) → c.read_words.result ≡ Some Nbd
nbd_is g c = c.in-Some-Nbd.is ∙ ap Some c.in-Some-Nbd.field-0-is

pub returns-in-Some-Nbd-clause-does : goal.returns-in-Some-Nbd-clause-does
returns-in-Some-Nbd-clause-does g c = does_it _ _ c.read_words.ensures.exact _ Nbd (nbd_is g (goal.at.returns-in-Some-Nbd-clause-does g c).In-Some-Nbd) (c.nbd.ensures.nbd, c.nbd.ensures.status)

pub returns-in-Some-Nbd-clause-complete : goal.returns-in-Some-Nbd-clause-complete
returns-in-Some-Nbd-clause-complete g c = does_it _ _ c.read_words.ensures.exact _ Nbd (nbd_is g (goal.at.returns-in-Some-Nbd-clause-complete g c).In-Some-Nbd)
    (λ h. nbd_comes h _ _ _ c.nbd.ensures.sink c.nbd.ensures.source c.nbd.ensures.nbd)

pub returns-in-Some-Nbd-clause-end : goal.returns-in-Some-Nbd-clause-end
returns-in-Some-Nbd-clause-end g c t takes asked zero = absurd (does_it _ _ c.read_words.ensures.exact (λ (u : Command). TakesSource u → ⊥) Nbd (nbd_is g (goal.at.returns-in-Some-Nbd-clause-end g c).In-Some-Nbd) (λ x. x) t asked takes)

pub returns-in-Some-Nbd-clause-unread : goal.returns-in-Some-Nbd-clause-unread
returns-in-Some-Nbd-clause-unread g c t not asked = absurd (not (does_it _ _ c.read_words.ensures.exact ReadsSource Nbd (nbd_is g (goal.at.returns-in-Some-Nbd-clause-unread g c).In-Some-Nbd) tt t asked))

pub returns-in-Some-Nbd-clause-words : goal.returns-in-Some-Nbd-clause-words
returns-in-Some-Nbd-clause-words g c none = absurd (none Nbd (asks _ _ c.read_words.ensures.exact Nbd (nbd_is g (goal.at.returns-in-Some-Nbd-clause-words g c).In-Some-Nbd)))

pub returns-in-Some-Nbd-clause-untouched : goal.returns-in-Some-Nbd-clause-untouched
returns-in-Some-Nbd-clause-untouched g c none = absurd (none Nbd (asks _ _ c.read_words.ensures.exact Nbd (nbd_is g (goal.at.returns-in-Some-Nbd-clause-untouched g c).In-Some-Nbd)))

spare_is : (g : Over) (c : In-Some-Spare g) → c.read_words.result ≡ Some (Spare c.in-Some-Spare.stock c.in-Some-Spare.wait)
spare_is g c = c.in-Some-Spare.is ∙ ap Some c.in-Some-Spare.field-0-is

plan_is : (g : Over) (c : In-Some-Plan g) → c.read_words.result ≡ Some (Plan c.in-Some-Plan.ups)
plan_is g c = c.in-Some-Plan.is ∙ ap Some c.in-Some-Plan.field-0-is

pub returns-in-Some-Format-clause-does : goal.returns-in-Some-Format-clause-does
returns-in-Some-Format-clause-does g c = does_it _ _ c.read_words.ensures.exact _ (Format c.in-Some-Format.force) (format_is g (goal.at.returns-in-Some-Format-clause-does g c).In-Some-Format) c.format_array-status.ensures.formats

pub returns-in-Some-Run-clause-does : goal.returns-in-Some-Run-clause-does
returns-in-Some-Run-clause-does g c = does_it _ _ c.read_words.ensures.exact _ Run (run_is g (goal.at.returns-in-Some-Run-clause-does g c).In-Some-Run) (c.run.ensures.run, c.run.ensures.status)

pub returns-in-Some-Status-clause-does : goal.returns-in-Some-Status-clause-does
returns-in-Some-Status-clause-does g c = does_it _ _ c.read_words.ensures.exact _ Status (status_is g (goal.at.returns-in-Some-Status-clause-does g c).In-Some-Status) c.show_state.ensures.shows

pub returns-in-Some-Gen-clause-does : goal.returns-in-Some-Gen-clause-does
returns-in-Some-Gen-clause-does g c = does_it _ _ c.read_words.ensures.exact _ (Gen c.in-Some-Gen.number c.in-Some-Gen.lines) (gen_is g (goal.at.returns-in-Some-Gen-clause-does g c).In-Some-Gen) (c.generate.ensures.run, c.generate.ensures.status)

pub returns-in-None-clause-does : goal.returns-in-None-clause-does
returns-in-None-clause-does g c t asked = absurd (nothing_asked _ _ c.read_words.ensures.exact c.in-None.is t asked)

pub generate-requires : goal.generate-requires
generate-requires g c = record { few = (asks _ _ c.read_words.ensures.exact (Gen c.in-Some-Gen.number c.in-Some-Gen.lines) (gen_is g (goal.at.generate-requires g c).In-Some-Gen)).lines_to }

pub returns-in-Some-Format-clause-unread : goal.returns-in-Some-Format-clause-unread
returns-in-Some-Format-clause-unread g c t not asked = absurd (not (does_it _ _ c.read_words.ensures.exact ReadsSource (Format c.in-Some-Format.force) (format_is g (goal.at.returns-in-Some-Format-clause-unread g c).In-Some-Format) tt t asked))

pub returns-in-Some-Run-clause-unread : goal.returns-in-Some-Run-clause-unread
returns-in-Some-Run-clause-unread g c t not asked = absurd (not (does_it _ _ c.read_words.ensures.exact ReadsSource Run (run_is g (goal.at.returns-in-Some-Run-clause-unread g c).In-Some-Run) tt t asked))

pub returns-in-Some-Status-clause-end : goal.returns-in-Some-Status-clause-end
returns-in-Some-Status-clause-end g c t takes asked zero = absurd (does_it _ _ c.read_words.ensures.exact (λ (u : Command). TakesSource u → ⊥) Status (status_is g (goal.at.returns-in-Some-Status-clause-end g c).In-Some-Status) (λ x. x) t asked takes)

pub returns-in-Some-Gen-clause-end : goal.returns-in-Some-Gen-clause-end
returns-in-Some-Gen-clause-end g c t takes asked zero = absurd (does_it _ _ c.read_words.ensures.exact (λ (u : Command). TakesSource u → ⊥) (Gen c.in-Some-Gen.number c.in-Some-Gen.lines) (gen_is g (goal.at.returns-in-Some-Gen-clause-end g c).In-Some-Gen) (λ x. x) t asked takes)

pub returns-in-Some-Format-clause-words : goal.returns-in-Some-Format-clause-words
returns-in-Some-Format-clause-words g c none = absurd (none (Format c.in-Some-Format.force) (asks _ _ c.read_words.ensures.exact (Format c.in-Some-Format.force) (format_is g (goal.at.returns-in-Some-Format-clause-words g c).In-Some-Format)))

pub returns-in-Some-Run-clause-words : goal.returns-in-Some-Run-clause-words
returns-in-Some-Run-clause-words g c none = absurd (none Run (asks _ _ c.read_words.ensures.exact Run (run_is g (goal.at.returns-in-Some-Run-clause-words g c).In-Some-Run)))

pub returns-in-Some-Status-clause-words : goal.returns-in-Some-Status-clause-words
returns-in-Some-Status-clause-words g c none = absurd (none Status (asks _ _ c.read_words.ensures.exact Status (status_is g (goal.at.returns-in-Some-Status-clause-words g c).In-Some-Status)))

pub returns-in-Some-Gen-clause-words : goal.returns-in-Some-Gen-clause-words
returns-in-Some-Gen-clause-words g c none = absurd (none (Gen c.in-Some-Gen.number c.in-Some-Gen.lines) (asks _ _ c.read_words.ensures.exact (Gen c.in-Some-Gen.number c.in-Some-Gen.lines) (gen_is g (goal.at.returns-in-Some-Gen-clause-words g c).In-Some-Gen)))

pub returns-in-Some-Format-clause-untouched : goal.returns-in-Some-Format-clause-untouched
returns-in-Some-Format-clause-untouched g c none = absurd (none (Format c.in-Some-Format.force) (asks _ _ c.read_words.ensures.exact (Format c.in-Some-Format.force) (format_is g (goal.at.returns-in-Some-Format-clause-untouched g c).In-Some-Format)))

pub returns-in-Some-Run-clause-untouched : goal.returns-in-Some-Run-clause-untouched
returns-in-Some-Run-clause-untouched g c none = absurd (none Run (asks _ _ c.read_words.ensures.exact Run (run_is g (goal.at.returns-in-Some-Run-clause-untouched g c).In-Some-Run)))

pub returns-in-Some-Status-clause-untouched : goal.returns-in-Some-Status-clause-untouched
returns-in-Some-Status-clause-untouched g c none = absurd (none Status (asks _ _ c.read_words.ensures.exact Status (status_is g (goal.at.returns-in-Some-Status-clause-untouched g c).In-Some-Status)))

pub returns-in-Some-Gen-clause-untouched : goal.returns-in-Some-Gen-clause-untouched
returns-in-Some-Gen-clause-untouched g c none = absurd (none (Gen c.in-Some-Gen.number c.in-Some-Gen.lines) (asks _ _ c.read_words.ensures.exact (Gen c.in-Some-Gen.number c.in-Some-Gen.lines) (gen_is g (goal.at.returns-in-Some-Gen-clause-untouched g c).In-Some-Gen)))

pub returns-in-Some-Gen-clause-source : goal.returns-in-Some-Gen-clause-source
returns-in-Some-Gen-clause-source g c three = absurd (not_read _ c.generate.ensures.status three)

pub returns-in-Some-Check-clause-does : goal.returns-in-Some-Check-clause-does
returns-in-Some-Check-clause-does g c = does_it _ _ c.read_words.ensures.exact _ Check (check_is g (goal.at.returns-in-Some-Check-clause-does g c).In-Some-Check) (c.check.ensures.run, c.check.ensures.status)

pub returns-in-Some-Check-clause-end : goal.returns-in-Some-Check-clause-end
returns-in-Some-Check-clause-end g c t takes asked zero = absurd (does_it _ _ c.read_words.ensures.exact (λ (u : Command). TakesSource u → ⊥) Check (check_is g (goal.at.returns-in-Some-Check-clause-end g c).In-Some-Check) (λ x. x) t asked takes)

pub returns-in-Some-Check-clause-words : goal.returns-in-Some-Check-clause-words
returns-in-Some-Check-clause-words g c none = absurd (none Check (asks _ _ c.read_words.ensures.exact Check (check_is g (goal.at.returns-in-Some-Check-clause-words g c).In-Some-Check)))

pub returns-in-Some-Check-clause-untouched : goal.returns-in-Some-Check-clause-untouched
returns-in-Some-Check-clause-untouched g c none = absurd (none Check (asks _ _ c.read_words.ensures.exact Check (check_is g (goal.at.returns-in-Some-Check-clause-untouched g c).In-Some-Check)))

pub returns-in-Some-Check-clause-source : goal.returns-in-Some-Check-clause-source
returns-in-Some-Check-clause-source g c three = absurd (check_not_read _ c.check.ensures.status three)

pub returns-in-Some-Format-clause-complete : goal.returns-in-Some-Format-clause-complete
returns-in-Some-Format-clause-complete g c = does_it _ _ c.read_words.ensures.exact _ (Format c.in-Some-Format.force) (format_is g (goal.at.returns-in-Some-Format-clause-complete g c).In-Some-Format)
    (format_comes _ _ _ _ c.format_array-status.ensures.sink c.in-Some-Format.force c.format_array-status.ensures.formats)

pub returns-in-Some-Run-clause-complete : goal.returns-in-Some-Run-clause-complete
returns-in-Some-Run-clause-complete g c = does_it _ _ c.read_words.ensures.exact _ Run (run_is g (goal.at.returns-in-Some-Run-clause-complete g c).In-Some-Run)
    (λ h. run_comes h _ _ c.run.ensures.sink _ c.run.ensures.source c.run.ensures.run)

pub returns-in-Some-Status-clause-complete : goal.returns-in-Some-Status-clause-complete
returns-in-Some-Status-clause-complete g c = does_it _ _ c.read_words.ensures.exact _ Status (status_is g (goal.at.returns-in-Some-Status-clause-complete g c).In-Some-Status)
    (λ h. status_comes h _ _ c.show_state.ensures.sink c.show_state.ensures.shows)

pub returns-in-Some-Check-clause-complete : goal.returns-in-Some-Check-clause-complete
returns-in-Some-Check-clause-complete g c = does_it _ _ c.read_words.ensures.exact _ Check (check_is g (goal.at.returns-in-Some-Check-clause-complete g c).In-Some-Check)
    (λ h. check_comes h _ _ c.check.ensures.sink c.check.ensures.run)

pub returns-in-Some-Gen-clause-complete : goal.returns-in-Some-Gen-clause-complete
returns-in-Some-Gen-clause-complete g c = does_it _ _ c.read_words.ensures.exact _ (Gen c.in-Some-Gen.number c.in-Some-Gen.lines) (gen_is g (goal.at.returns-in-Some-Gen-clause-complete g c).In-Some-Gen)
    (λ h. gen_comes h _ _ c.generate.ensures.sink _ _ c.generate.ensures.run)

pub returns-in-None-clause-complete : goal.returns-in-None-clause-complete
returns-in-None-clause-complete g c t asked = absurd (nothing_asked _ _ c.read_words.ensures.exact c.in-None.is t asked)

pub returns-in-Some-Plan-clause-does : goal.returns-in-Some-Plan-clause-does
returns-in-Some-Plan-clause-does g c = does_it _ _ c.read_words.ensures.exact _ (Plan c.in-Some-Plan.ups) (plan_is g (goal.at.returns-in-Some-Plan-clause-does g c).In-Some-Plan) (c.show_plan.ensures.plans, c.show_plan.ensures.status)

pub returns-in-Some-Plan-clause-unread : goal.returns-in-Some-Plan-clause-unread
returns-in-Some-Plan-clause-unread g c t not asked = absurd (not (does_it _ _ c.read_words.ensures.exact ReadsSource (Plan c.in-Some-Plan.ups) (plan_is g (goal.at.returns-in-Some-Plan-clause-unread g c).In-Some-Plan) tt t asked))

pub returns-in-Some-Plan-clause-words : goal.returns-in-Some-Plan-clause-words
returns-in-Some-Plan-clause-words g c none = absurd (none (Plan c.in-Some-Plan.ups) (asks _ _ c.read_words.ensures.exact (Plan c.in-Some-Plan.ups) (plan_is g (goal.at.returns-in-Some-Plan-clause-words g c).In-Some-Plan)))

pub returns-in-Some-Plan-clause-untouched : goal.returns-in-Some-Plan-clause-untouched
returns-in-Some-Plan-clause-untouched g c none = absurd (none (Plan c.in-Some-Plan.ups) (asks _ _ c.read_words.ensures.exact (Plan c.in-Some-Plan.ups) (plan_is g (goal.at.returns-in-Some-Plan-clause-untouched g c).In-Some-Plan)))

pub returns-in-Some-Plan-clause-complete : goal.returns-in-Some-Plan-clause-complete
returns-in-Some-Plan-clause-complete g c = does_it _ _ c.read_words.ensures.exact _ (Plan c.in-Some-Plan.ups) (plan_is g (goal.at.returns-in-Some-Plan-clause-complete g c).In-Some-Plan)
    (λ h. plan_comes h _ _ c.show_plan.ensures.sink _ _ c.show_plan.ensures.plans)

pub show_plan-requires : goal.show_plan-requires
show_plan-requires g c = record { few = (asks _ _ c.read_words.ensures.exact (Plan c.in-Some-Plan.ups) (plan_is g (goal.at.show_plan-requires g c).In-Some-Plan)).few }

pub returns-in-Some-Spare-clause-does : goal.returns-in-Some-Spare-clause-does
returns-in-Some-Spare-clause-does g c = does_it _ _ c.read_words.ensures.exact _ (Spare c.in-Some-Spare.stock c.in-Some-Spare.wait) (spare_is g (goal.at.returns-in-Some-Spare-clause-does g c).In-Some-Spare) (c.run_with_spares.ensures.run, c.run_with_spares.ensures.status)

pub returns-in-Some-Spare-clause-unread : goal.returns-in-Some-Spare-clause-unread
returns-in-Some-Spare-clause-unread g c t not asked = absurd (not (does_it _ _ c.read_words.ensures.exact ReadsSource (Spare c.in-Some-Spare.stock c.in-Some-Spare.wait) (spare_is g (goal.at.returns-in-Some-Spare-clause-unread g c).In-Some-Spare) tt t asked))

pub returns-in-Some-Spare-clause-words : goal.returns-in-Some-Spare-clause-words
returns-in-Some-Spare-clause-words g c none = absurd (none (Spare c.in-Some-Spare.stock c.in-Some-Spare.wait) (asks _ _ c.read_words.ensures.exact (Spare c.in-Some-Spare.stock c.in-Some-Spare.wait) (spare_is g (goal.at.returns-in-Some-Spare-clause-words g c).In-Some-Spare)))

pub returns-in-Some-Spare-clause-untouched : goal.returns-in-Some-Spare-clause-untouched
returns-in-Some-Spare-clause-untouched g c none = absurd (none (Spare c.in-Some-Spare.stock c.in-Some-Spare.wait) (asks _ _ c.read_words.ensures.exact (Spare c.in-Some-Spare.stock c.in-Some-Spare.wait) (spare_is g (goal.at.returns-in-Some-Spare-clause-untouched g c).In-Some-Spare)))

pub returns-in-Some-Spare-clause-complete : goal.returns-in-Some-Spare-clause-complete
returns-in-Some-Spare-clause-complete g c = does_it _ _ c.read_words.ensures.exact _ (Spare c.in-Some-Spare.stock c.in-Some-Spare.wait) (spare_is g (goal.at.returns-in-Some-Spare-clause-complete g c).In-Some-Spare)
    (λ h. spared_comes h _ _ c.run_with_spares.ensures.sink _ c.run_with_spares.ensures.source _ c.run_with_spares.ensures.run)

vol_is : (g : Over) (c : In-Some-Vol g) → c.read_words.result ≡ Some Vol
vol_is g c = c.in-Some-Vol.is ∙ ap Some c.in-Some-Vol.field-0-is

pub returns-in-Some-Vol-clause-does : goal.returns-in-Some-Vol-clause-does
returns-in-Some-Vol-clause-does g c = does_it _ _ c.read_words.ensures.exact _ Vol (vol_is g (goal.at.returns-in-Some-Vol-clause-does g c).In-Some-Vol) (c.answer_volumes.ensures.run, c.answer_volumes.ensures.status)

pub returns-in-Some-Vol-clause-complete : goal.returns-in-Some-Vol-clause-complete
returns-in-Some-Vol-clause-complete g c = does_it _ _ c.read_words.ensures.exact _ Vol (vol_is g (goal.at.returns-in-Some-Vol-clause-complete g c).In-Some-Vol)
    (λ h. volumes_come h _ _ c.answer_volumes.ensures.sink _ c.answer_volumes.ensures.source c.answer_volumes.ensures.run)

pub returns-in-Some-Vol-clause-unread : goal.returns-in-Some-Vol-clause-unread
returns-in-Some-Vol-clause-unread g c t not asked = absurd (not (does_it _ _ c.read_words.ensures.exact ReadsSource Vol (vol_is g (goal.at.returns-in-Some-Vol-clause-unread g c).In-Some-Vol) tt t asked))

pub returns-in-Some-Vol-clause-words : goal.returns-in-Some-Vol-clause-words
returns-in-Some-Vol-clause-words g c none = absurd (none Vol (asks _ _ c.read_words.ensures.exact Vol (vol_is g (goal.at.returns-in-Some-Vol-clause-words g c).In-Some-Vol)))

pub returns-in-Some-Vol-clause-untouched : goal.returns-in-Some-Vol-clause-untouched
returns-in-Some-Vol-clause-untouched g c none = absurd (none Vol (asks _ _ c.read_words.ensures.exact Vol (vol_is g (goal.at.returns-in-Some-Vol-clause-untouched g c).In-Some-Vol)))

pub returns-in-Some-Format-clause-unhurt : goal.returns-in-Some-Format-clause-unhurt
returns-in-Some-Format-clause-unhurt g c = c.format_array-status.ensures.unhurt

pub returns-in-Some-Run-clause-unhurt : goal.returns-in-Some-Run-clause-unhurt
returns-in-Some-Run-clause-unhurt g c = c.run.ensures.unhurt

pub returns-in-Some-Spare-clause-unhurt : goal.returns-in-Some-Spare-clause-unhurt
returns-in-Some-Spare-clause-unhurt g c = c.run_with_spares.ensures.unhurt

pub returns-in-Some-Nbd-clause-unhurt : goal.returns-in-Some-Nbd-clause-unhurt
returns-in-Some-Nbd-clause-unhurt g c = c.nbd.ensures.unhurt

pub returns-in-Some-Vol-clause-unhurt : goal.returns-in-Some-Vol-clause-unhurt
returns-in-Some-Vol-clause-unhurt g c = c.answer_volumes.ensures.unhurt

pub returns-in-Some-Plan-clause-unhurt : goal.returns-in-Some-Plan-clause-unhurt
returns-in-Some-Plan-clause-unhurt g c = c.show_plan.ensures.unhurt

pub returns-in-Some-Status-clause-unhurt : goal.returns-in-Some-Status-clause-unhurt
returns-in-Some-Status-clause-unhurt g c = record { sink = c.show_state.ensures.still; source = λ n m. refl }

pub returns-in-Some-Check-clause-unhurt : goal.returns-in-Some-Check-clause-unhurt
returns-in-Some-Check-clause-unhurt g c = record { sink = c.check.ensures.still; source = λ n m. refl }

pub returns-in-Some-Gen-clause-unhurt : goal.returns-in-Some-Gen-clause-unhurt
returns-in-Some-Gen-clause-unhurt g c = record { sink = c.generate.ensures.still; source = λ n m. refl }

pub returns-in-None-clause-unhurt : goal.returns-in-None-clause-unhurt
returns-in-None-clause-unhurt g c = record { sink = c.last.ensures.still; source = λ n m. refl }
