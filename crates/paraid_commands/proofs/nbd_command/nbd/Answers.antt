use Rattle.std.proofs.Common.{◌∙◌, refl, sym}
use Rattle.paraid_base.proofs.ToldLemmas.{GrowsByBytes-none}
use Rattle.paraid_commands.specs.Clients.ServesNbdOrNot.{mounted, refused}
use Rattle.paraid_commands.proofs.EndLemmas.{began_at_end, begins_at_end, end_moment, service_from}
use Rattle.paraid_commands.proofs.NbdLemmas.{nbd_over}
use Rattle.paraid_commands.proofs.nbd_command.nbd.Goals as goal

pub returns-in-Err-clause-nbd : goal.returns-in-Err-clause-nbd
returns-in-Err-clause-nbd g c = refused c.in-Err.field-0.fault c.in-Err.ensures.refused c.mount_fault_status.ensures (refl, refl) (GrowsByBytes-none _)

pub returns-in-Ok-clause-nbd : goal.returns-in-Ok-clause-nbd
returns-in-Ok-clause-nbd g c =
    let e = c.in-Ok.ensures in
    let done = c.serve_client-status.ensures in
    let array = c.in-Ok.array in
    let before = g.R.Rack.told c.args.rack in
    let began = end_moment before in
    mounted (service_from before (g.O.Outside.served array) (g.A.Serves.told array)) e.served (begins_at_end _ _ _ _ e.grows c.unmount.ensures.told done.told)
    (nbd_over _ _ _ _ _ _ (g.A.Serves.setup array) (g.A.Serves.slot array) _ _ e.slots e.setup c.unmount.ensures.told c.unmount.ensures.slot e.later done.present done.two
    (g.A.Serves.shown array) (g.A.Serves.shown c.serve_client-status.result.array) e.shown ((g.met.A.Serves.shows c.serve_client-status.result.array).slot ∙ sym c.unmount.ensures.slot) done.causes
    (done.headline began (e.mounted began (began_at_end before))))

pub returns-in-Ok-clause-slots : goal.returns-in-Ok-clause-slots
returns-in-Ok-clause-slots g c = c.unmount.ensures.slots ∙ c.serve_client-status.ensures.slots ∙ c.in-Ok.ensures.slots

pub returns-in-Err-clause-unhurt : goal.returns-in-Err-clause-unhurt
returns-in-Err-clause-unhurt g c = record { sink = λ n. refl; source = λ n m. refl }

pub returns-in-Ok-clause-unhurt : goal.returns-in-Ok-clause-unhurt
returns-in-Ok-clause-unhurt g c = c.serve_client-status.ensures.unhurt
