use Rattle.paraid_image.specs.Out.{is_out, named_out}
use Rattle.paraid_array.specs.Arrays.{shown_of_array}
use Rattle.paraid_array.specs.Laws.{going_end}
use Rattle.paraid_array.proofs.CauseLemmas.{past_disks, quiet_cause, takes}
use Rattle.std.proofs.Common.{ℕ, ◌≤◌, None, Some, if◌then◌else◌, refl, subst}
use Rattle.paraid_base.specs.declared.event.Event.TheVariants.{Replace}
use Rattle.paraid_base.specs.declared.event.Answer.TheVariants.{NoDisk, NotOut}
use Rattle.paraid_array.proofs.StandLemmas.{none_ended}
use Rattle.paraid_array.proofs.AnswersLemmas.{quiet_answers}
use Rattle.paraid_array.proofs.QuietLemmas.{replace_refused}
use Rattle.paraid_array.proofs.array.Array.replace.Goals as goal

pub wear_out-requires : goal.wear_out-requires
wear_out-requires g c =
    let many = c.in-Some.ensures.worn in
    record { going = c.requires.going; many = many.0; is = many.1 }

pub returns-in-Some : goal.returns-in-Some
returns-in-Some g c = record { answers = c.wear_out.ensures.answers (Replace c.args.disk) refl }

pub returns-then-disk-disks : goal.returns-then-disk-disks
returns-then-disk-disks g c =
    let a = c.args.self.now in
    let fit = c.in_default.ensures.fit in
    record {
      answers =
          quiet_answers g.R.Rack.slot_count g.R.Rack.slot g.R.Rack.told a (Replace c.args.disk) (NoDisk c.args.disk)
          (replace_refused g.R.Rack.slot_count g.R.Rack.told a c.requires.going fit.0 fit.1 c.args.disk (subst (λ (n : ℕ). n ≤ c.args.disk) c.disks.ensures.value c.if-disk-disks.true))
          (quiet_cause g.R.Rack.slot a (Replace c.args.disk) (NoDisk c.args.disk) c.requires.going refl (takes (shown_of_array g.R.Rack.slot a) (Replace c.args.disk) c.requires.going fit.0 fit.1)
          (past_disks c.args.disk a.setup.geometry.disks (if is_out (named_out a.core.meta.out) c.args.disk then None else Some (NotOut c.args.disk)) (Some (NoDisk c.args.disk)) (subst (λ (n : ℕ). n ≤ c.args.disk) c.disks.ensures.value c.if-disk-disks.true)) (record { samples = refl; served = refl }) (c.args.self.now.serving (going_end c.args.self.now.ended c.requires.going)));
    }

pub replace_there-requires : goal.replace_there-requires
replace_there-requires g c =
    let fit = c.in_default.ensures.fit in
    record { going = none_ended c.args.self.now.ended c.requires.going; epoch = fit.0; writes = fit.1 }

pub returns : goal.returns
returns g c = record { answers = c.replace_there.ensures.answers }
