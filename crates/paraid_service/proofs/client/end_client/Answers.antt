use Rattle.std.proofs.Common.{◌≡◌, None, refl, sym, subst}
use Rattle.paraid_nbd.specs.declared.ending.NbdEnd.{NbdEnd}
use Rattle.paraid_service.specs.Ends.{broken_status}
use Rattle.paraid_service.specs.Ends.EndsService.{flushed}
use Rattle.paraid_service.proofs.client.end_client.Goals as goal

pub returns-in-Done : goal.returns-in-Done
returns-in-Done g c = record { ends = λ first events before. flushed (subst (λ (e : NbdEnd). broken_status e ≡ None) (sym c.in-Done.is) refl) (c.keep.ensures.flushes first events before) }

pub returns-in-Aborted : goal.returns-in-Aborted
returns-in-Aborted g c = record { ends = λ first events before. flushed (subst (λ (e : NbdEnd). broken_status e ≡ None) (sym c.in-Aborted.is) refl) (c.keep-in-Aborted.ensures.flushes first events before) }

pub returns-in-Closed : goal.returns-in-Closed
returns-in-Closed g c = record { ends = λ first events before. flushed (subst (λ (e : NbdEnd). broken_status e ≡ None) (sym c.in-Closed.is) refl) (c.keep-in-Closed.ensures.flushes first events before) }
