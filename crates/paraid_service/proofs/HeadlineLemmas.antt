-- The headline of a client.
use Rattle.std.proofs.Common.{◌≡◌, ℕ, ◌*◌, [], Some, None, IsSome, refl, sym, subst}
use Rattle.std.specs.Prelude.{Bool, is_some}
use Rattle.paraid_base.specs.BlockAnswers.{Answers}
use Rattle.paraid_base.specs.History.{History}
use Rattle.paraid_device.specs.declared.device.Device.{Device}
use Rattle.paraid_device.specs.Devices.{HasAnswered, StandsFor, array_of, halt_of_device, span_between}
use Rattle.paraid_device.specs.Laws.{answered_none}
use Rattle.paraid_machine.specs.Machine.{block_count}
use Rattle.paraid_nbd.specs.declared.ending.NbdEnd.{NbdEnd}
use Rattle.paraid_nbd.specs.Service.{Service}
use Rattle.paraid_rack.specs.Trail.{Trail, now as disks_now}
use Rattle.paraid_serve.specs.declared.serves.Serves.{Ghosts}
use Rattle.paraid_serve.specs.Streams.{Streams}
use Rattle.paraid_serve.proofs.ExitLemmas.{stretch_leaves}
use Rattle.paraid_serve.proofs.GrowsLemmas.{told_then}
use Rattle.paraid_session.proofs.MountLemmas.{IsMountedFromEach-follows}
use Rattle.paraid_session.specs.Mount.{IsMountedFromEach}
use Rattle.paraid_session.specs.Turn.{IsMark, Point}
use Rattle.paraid_service.specs.Clients.{ClientHeadline, FollowsForClient}
use Rattle.paraid_service.specs.Ends.{EndsService}
use Rattle.paraid_service.proofs.ClientLemmas.{client_answered, client_taken}
use Rattle.paraid_service.proofs.EndLemmas.{ends_answered, ends_of, ends_synced, ends_with_status}

module _ {A : Type 0} (g : Ghosts A) where
  abbrev stands_of : Device A g → History → Type 0
  stands_of device = StandsFor (g.stands (array_of device))

  abbrev kept_of : Device A g → Device A g → Answers → Type 0
  kept_of first now = HasAnswered g (array_of first) (array_of now)

  abbrev tells_of : Device A g → Bool
  tells_of device = is_some (g.told (array_of device))

  -- what a device did since this one
  abbrev EndsFrom : Device A g → Device A g → NbdEnd → ℕ → Type 0
  EndsFrom mid last end status = (first : Device A g) (events : Answers) → HasAnswered g (array_of first) (array_of mid) events → EndsService g (array_of first) (array_of last) events end status

module _ {A : Type 0} (g : Ghosts A) (agrees : (x : A) (q : Point) → g.stands x q → q.halt ≡ g.halted x) (first mid last : Device A g) (x : Streams) {end : NbdEnd} (status : ℕ)
    (none : halt_of_device first ≡ None)
    (service : Service (512 * block_count (g.setup (array_of first))) (stands_of g) halt_of_device (kept_of g) (tells_of g) first mid x.source.left_before x.source.left x.sink.written_before x.sink.written x.source.faults_before x.source.faults x.sink.faults_before x.sink.faults end)
    (ends : EndsFrom g mid last end status) where
  told_before : IsSome (g.told (array_of last)) → IsSome (g.told (array_of mid))
  told_before is = told_then (g.told (array_of mid)) (g.told (array_of last)) (ends_answered g (array_of mid) (array_of last) [] end status (ends mid [] (answered_none g (array_of mid)))).1.grows is

  follows : IsSome (g.told (array_of last)) → (p : Point) → IsMark (g.slots (array_of first)) (g.setup (array_of first)) p → ((t : Trail) → g.told (array_of first) ≡ Some t → p.disks ≡ disks_now t) → g.stands (array_of first) p
      → FollowsForClient (span_between g (array_of first) (array_of last)) x status end p
  follows is p mark here at =
      let a = array_of first in
      let b = array_of last in
      let c = client_answered (512 * block_count (g.setup a)) (stands_of g) halt_of_device (kept_of g) (tells_of g) x first mid p.history (record { point = p; at = at; is = refl }) none (answered_none g a) (told_before is) service in
      let e = ends first c.events c.kept_is in
      record {
        events = c.events;
        t = c.t;
        client = c.answers;
        kinds = c.kept_is.kinds;
        session = ends_with_status g a b c.events end status p at is e;
        left = λ mid asked went. stretch_leaves (record (span_between g a b) { now = mid }) p asked went mark (here went.from went.was);
        synced = ends_synced g a b c.events end status p at is agrees mark here e;
      }

  pub client_headline : (began : ℕ) → IsMountedFromEach (g.slots (array_of first)) (g.setup (array_of first)) began (g.told (array_of first)) (g.stands (array_of first))
      → ClientHeadline (span_between g (array_of first) (array_of last)) began x status
  client_headline began mounted = record {
    end = end;
    taken = client_taken (512 * block_count (g.setup (array_of first))) (stands_of g) halt_of_device (kept_of g) (tells_of g) x first mid service;
    ended = ends_of g (array_of mid) (array_of last) [] end status (ends mid [] (answered_none g (array_of mid)));
    said = λ is. IsMountedFromEach-follows (g.slots (array_of first)) (g.setup (array_of first)) began (g.told (array_of first)) (g.stands (array_of first))
        (FollowsForClient (span_between g (array_of first) (array_of last)) x status end)
        (follows is) mounted;
  }

  -- the same of the arrays
  pub headline_at : (a b : A) → array_of first ≡ a → b ≡ array_of last → (began : ℕ) → IsMountedFromEach (g.slots a) (g.setup a) began (g.told a) (g.stands a)
      → ClientHeadline (span_between g a b) began x status
  headline_at a b e f =
      subst (λ (y : A). (began : ℕ) → IsMountedFromEach (g.slots a) (g.setup a) began (g.told a) (g.stands a)
      → ClientHeadline (span_between g a y) began x status) (sym f)
      (subst (λ (z : A). (began : ℕ) → IsMountedFromEach (g.slots z) (g.setup z) began (g.told z) (g.stands z)
      → ClientHeadline (span_between g z (array_of last)) began x status) e client_headline)

-- what a device did, told of its arrays
pub ends_at : {A : Type 0} (g : Ghosts A) (x y a b : A) {events : Answers} {end : NbdEnd} {status : ℕ} → x ≡ a → b ≡ y → EndsService g x y events end status → EndsService g a b events end status
ends_at g x y a b {events} {end} {status} e f it = subst (λ (z : _). EndsService g a z events end status) (sym f) (subst (λ (z : _). EndsService g z y events end status) e it)
