-- From a point at which an array stands: a commit of what is staged, a mark, and what follows them in the same event.
use Rattle.std.proofs.Common.{◌≡◌, ℕ, List, ◌++◌, Option, Some, refl, sym, ap, ◌∙◌, subst, false}
use Rattle.paraid_base.specs.History.{History}
use Rattle.paraid_rack.specs.declared.call.Call.{Call}
use Rattle.paraid_rack.specs.Disks.{Disks}
use Rattle.paraid_rack.specs.Told.{Ran}
use Rattle.paraid_rack.specs.Trail.{Trail, extend, now, run}
use Rattle.paraid_rack.proofs.TrailsLemmas.{extend-extend, now-extend}
use Rattle.paraid_record.specs.declared.meta.Meta.{Meta}
use Rattle.paraid_record.specs.declared.meta.Setup.{Setup}
use Rattle.paraid_image.specs.Sides.{LogState, closed_over}
use Rattle.paraid_image.proofs.StandingLemmas.{Stands-same}
use Rattle.paraid_session.specs.Turn.{Point}
use Rattle.paraid_session.specs.Watch.{Down, Watch, watch_all}
use Rattle.paraid_recover.proofs.DownLemmas.{watched_disks}
use Rattle.paraid_event.specs.Parts.{AreEventCalls, EndsEvent, ServesEvent}
use Rattle.paraid_event.specs.Service.{Service}
use Rattle.paraid_event.specs.Stands.{IsMidway, ServiceStandsFor, StandsAt}
use Rattle.paraid_event.proofs.EndLemmas.{self_image}

pub some_trail : (a b : Trail) → Some a ≡ Some b → a ≡ b
some_trail a b e = cc

-- one meta stands
pub same_base : (k j : Service) (g h : History) (lo low : ℕ) (s : Disks) (y : ServiceStandsFor k g lo s) (z : ServiceStandsFor j h low s) → z.base ≡ y.base
same_base k j g h lo low s y z =
    let i : Disks = record s { loose = λ d p. false } in
    let a = y.copies.copying i (self_image s) in
    let b = z.copies.copying i (self_image s) in
    ap (λ (o : LogState). o.meta) (Stands-same i b.disk a.disk (closed_over z.base) (closed_over y.base) b.log.stands a.log.stands).1

-- the calls of two parts, with what holds of each
pub record BothParts (Q R : Disks → List Call → Type 0) (s : Disks) (calls : List Call) : Type 0 where
  pub first : List Call
  pub later : List Call
  pub split : calls ≡ first ++ later
  pub holds : Q s first
  pub then_holds : R (run s first) later

-- what is told of two parts one after the other
pub both_parts : (old mid new : Option Trail) (Q R : Disks → List Call → Type 0) → Ran old mid Q → Ran mid new R → Ran old new (BothParts Q R)
both_parts old mid new Q R one two t tells =
    let r2 = two t tells in
    let r1 = one r2.from r2.was in
    record {
      from = r1.from;
      was = r1.was;
      calls = r1.calls ++ r2.calls;
      is = r2.is ∙ ap (λ (u : Trail). extend u r2.calls) r1.is ∙ extend-extend r1.from r1.calls r2.calls;
      holds = record {
        first = r1.calls;
        later = r2.calls;
        split = refl;
        holds = r1.holds;
        then_holds = subst (λ (s : Disks). R s r2.calls) (ap now r1.is ∙ now-extend r1.from r1.calls) r2.holds;
      };
    }

module _ (told : Option Trail) (k k1 k2 : Service) (setup : Setup) (p : Point) (at : StandsAt told k setup p) (down : Down) (lo1 lo : ℕ) where
  -- the watch as the event begins, with these disks down
  abbrev pub first_watch : Watch
  first_watch = record { disks = p.disks; down = down; spun = p.spun; awaited = p.awaited }

  -- and after the first part
  abbrev pub watch_after : List Call → Watch
  watch_after cs = watch_all cs first_watch

  module _ (stands1 : (cs : List Call) → AreEventCalls k p.history p.low p.meta p.disks cs → (ends : EndsEvent k k1 p.history lo1 p.disks cs) → IsMidway k1 p.history lo ends.keeps.base (watch_after cs))
      (mid told_then : Option Trail) (Q R : Disks → List Call → Type 0) where
    -- What holds of the whole event, where it follows from what holds of the part after the mark.
    pub after_mark : Ran told mid (ServesEvent k k1 p.history p.low p.history lo1) → ((t : Trail) → mid ≡ Some t → ServiceStandsFor k1 p.history lo (now t) → ServiceStandsFor k2 p.history lo (now t)) → Ran mid told_then Q
        → ((cs : List Call) (part : AreEventCalls k p.history p.low p.meta p.disks cs) (ends : EndsEvent k k1 p.history lo1 p.disks cs) (keeps : ServiceStandsFor k2 p.history lo (watch_after cs).disks) → keeps.base ≡ ends.keeps.base
        → (ds : List Call) → Q (watch_after cs).disks ds → ((t : Trail) → told_then ≡ Some t → now t ≡ (watch_all ds (watch_after cs)).disks) → R p.disks (cs ++ ds))
        → Ran told told_then R
    after_mark first marks second follows t tells =
        let r2 = second t tells in
        let r1 = first r2.from r2.was in
        let from : now r1.from ≡ p.disks = at.disks r1.from r1.was in
        let holds1 = subst (λ (s : Disks). ServesEvent k k1 p.history p.low p.history lo1 s r1.calls) from r1.holds at.stands.keeps in
        let part1 = subst (λ (m : Meta). AreEventCalls k p.history p.low m p.disks r1.calls) at.stands.is_base holds1.0 in
        let ends1 = holds1.1 in
        let here : now r2.from ≡ (watch_after r1.calls).disks = ap now r1.is ∙ now-extend r1.from r1.calls ∙ ap (λ (s : Disks). run s r1.calls) from ∙ sym (watched_disks first_watch r1.calls) in
        let m1 = stands1 r1.calls part1 ends1 in
        let keeps = subst (ServiceStandsFor k2 p.history lo) here (marks r2.from r2.was (subst (ServiceStandsFor k1 p.history lo) (sym here) m1.stands.keeps)) in
        let same_meta : keeps.base ≡ ends1.keeps.base = same_base k1 k2 p.history p.history lo lo (watch_after r1.calls).disks m1.stands.keeps keeps ∙ m1.stands.is_base in
        let holds2 = subst (λ (s : Disks). Q s r2.calls) here r2.holds in
        let end : now t ≡ (watch_all r2.calls (watch_after r1.calls)).disks = ap now r2.is ∙ now-extend r2.from r2.calls ∙ ap (λ (s : Disks). run s r2.calls) here ∙ sym (watched_disks (watch_after r1.calls) r2.calls) in
        record {
          from = r1.from;
          was = r1.was;
          calls = r1.calls ++ r2.calls;
          is = r2.is ∙ ap (λ (u : Trail). extend u r2.calls) r1.is ∙ extend-extend r1.from r1.calls r2.calls;
          holds = subst (λ (s : Disks). R s (r1.calls ++ r2.calls)) (sym from)
              (follows r1.calls part1 ends1 keeps same_meta r2.calls holds2 (λ u u_tells. ap now (some_trail u t (sym u_tells ∙ tells)) ∙ end));
        }
