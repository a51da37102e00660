-- What is told of the calls in which a disk is replaced.
use Rattle.std.proofs.Common.{◌≡◌, ℕ, ◌<◌, Bool, true, false, List, [], ◌∷◌, ◌++◌, length, Option, Some, refl, sym, ap, ◌∙◌, subst}
use Rattle.paraid_base.specs.declared.event.Answer.TheVariants.{Halted, NoFresh}
use Rattle.paraid_base.specs.declared.event.Event.TheVariants.{Replace}
use Rattle.paraid_base.specs.declared.fault.Halt.TheVariants.{Two as HaltTwo}
use Rattle.paraid_base.specs.declared.fault.Two.{Two}
use Rattle.paraid_base.specs.Log.{worn_at}
use Rattle.paraid_base.specs.Regions.{disk_size}
use Rattle.paraid_base.specs.States.{named_out}
use Rattle.paraid_rack.specs.declared.call.Call.{Call}
use Rattle.paraid_rack.specs.declared.call.Call.TheVariants.{Attach}
use Rattle.paraid_rack.specs.Disks.{Disks}
use Rattle.paraid_rack.specs.Told.{Ran, Through}
use Rattle.paraid_rack.specs.Trail.{Trail, extend, now, run}
use Rattle.paraid_rack.proofs.TrailsLemmas.{extend-extend, now-extend}
use Rattle.paraid_record.specs.declared.meta.Meta.{Meta}
use Rattle.paraid_record.specs.declared.meta.Setup.{Setup}
use Rattle.paraid_core.specs.CoreInvariant.{IsHeldWithOneMissing}
use Rattle.paraid_session.specs.Turn.{GoesOn, LosesSecondDisk, Point, point_wear}
use Rattle.paraid_session.specs.Turn.IsTurn.{two as second_loss}
use Rattle.paraid_session.specs.Watch.{Watch, only, watch, watch_all}
use Rattle.paraid_recover.proofs.DownLemmas.{watched_disks}
use Rattle.paraid_event.proofs.ApartLemmas.{gone_not_fresh, replace_not_bad}
use Rattle.paraid_event.specs.Lost.{IsHaltedFrom, TellsTwo}
use Rattle.paraid_event.specs.Parts.{AreEventCalls, LosesInEvent, ServesEvent}
use Rattle.paraid_event.specs.Replacements.{AttachesInEvent, BringsFresh, CommitsReplaced, LosesReplaced, ReplacesDisk, with_fresh}
use Rattle.paraid_event.specs.Replacements.LosesReplaced.{first, second}
use Rattle.paraid_event.specs.Replacements.BringsFresh.{came, failed}
use Rattle.paraid_event.specs.Service.{Service}
use Rattle.paraid_event.specs.Stands.{ServiceStandsFor, StandsAt}
use Rattle.paraid_event.proofs.ReplacementLemmas.{failed_turn as none_turn, fresh_lost as fresh_loses, fresh_turn as came_turn, marked_lost as marked_loses, mid3 as fresh_midway, out2 as gone_out2, out_of, rests2 as gone_rests}
use Rattle.paraid_event.proofs.ReplacementTurnLemmas.{answer_of}
use Rattle.paraid_event.proofs.PreludeLemmas.{same_base, some_trail}

module _ (told : Option Trail) (k : Service) (setup : Setup) (p : Point) (at : StandsAt told k setup p) (d : ℕ) (below : d < setup.geometry.disks) (is_out : named_out p.state.out ≡ Some d) (fit : point_wear p < worn_at) where
  abbrev w0 : Watch
  w0 = record { disks = p.disks; down = only d; spun = p.spun; awaited = p.awaited }

  -- what is told from one record to the next
  marked_keeps : (k1 : Service) → ((t : Trail) → told ≡ Some t → ServiceStandsFor k p.history p.low (now t) → ServiceStandsFor k1 p.history p.low (now t)) → (from : Trail) → told ≡ Some from → ServiceStandsFor k1 p.history p.low p.disks
  marked_keeps k1 stands from was =
      let here : now from ≡ p.disks = at.disks from was in
      subst (ServiceStandsFor k1 p.history p.low) here (stands from was (subst (ServiceStandsFor k p.history p.low) (sym here) at.stands.keeps))

  marked_base : (k1 : Service) (keeps : ServiceStandsFor k1 p.history p.low p.disks) → keeps.base ≡ p.meta
  marked_base k1 keeps = same_base k k1 p.history p.history p.low p.low p.disks at.stands.keeps keeps ∙ at.stands.is_base

  brings_told : (fresh_came : Bool) (k_then : Service) (told_then mid : Option Trail) (k1 k2 : Service) → CommitsReplaced told mid k k1 k2 p.history p.low d → BringsFresh mid told_then k2 k_then p.history p.low d → k_then.meta.out ≡ out_of d fresh_came
      → Ran told told_then (GoesOn k.slots setup p (Replace d) (answer_of d fresh_came) (StandsAt told_then k_then setup))
  brings_told fresh_came k_then told_then mid k1 k2 gone (came fresh) out t tells =
      let r3 = fresh.ran t tells in
      let r2 = fresh.attach r3.from r3.was in
      let r1 = gone.ran r2.from r2.was in
      let from : now r1.from ≡ p.disks = at.disks r1.from r1.was in
      let keeps1 = marked_keeps k1 gone.stands r1.from r1.was in
      let holds1 = subst (λ (s : Disks). ServesEvent k1 k2 p.history p.low p.history (length p.history) s r1.calls) from r1.holds keeps1 in
      let part1 = subst (λ (m : Meta). AreEventCalls k1 p.history p.low m p.disks r1.calls) (marked_base k1 keeps1) holds1.0 in
      let ends1 = holds1.1 in
      let w1 : Watch = watch_all r1.calls w0 in
      let here : now r2.from ≡ w1.disks = ap now r1.is ∙ now-extend r1.from r1.calls ∙ ap (λ (s : Disks). run s r1.calls) from ∙ sym (watched_disks w0 r1.calls) in
      let holds2 = subst (λ (s : Disks). AttachesInEvent k2 (with_fresh k2 d) p.history p.low d true s r2.calls) here r2.holds (gone_rests told k setup p at d below is_out fit k1 gone.marks keeps1 r1.calls part1 k2 ends1 gone.ends) in
      let c : Call = Attach d (disk_size k2.meta.setup.geometry) true in
      let is : r2.calls ≡ c ∷ [] = holds2.0.is in
      let held = subst (λ (made : List Call). Through (IsHeldWithOneMissing k2.slots k2.meta.setup.geometry.disks k2.named p.history p.low) w1.disks made) is holds2.0.held in
      let keeps3 = subst (λ (made : List Call). ServiceStandsFor (with_fresh k2 d) p.history p.low (run w1.disks made)) is holds2.1 in
      let w2 : Watch = watch c w1 in
      let there : now r3.from ≡ w2.disks = ap now r2.is ∙ now-extend r2.from r2.calls ∙ ap (λ (s : Disks). run s r2.calls) here ∙ ap (run w1.disks) is in
      let m3 = fresh_midway told k setup p at d below is_out fit k1 gone.marks keeps1 r1.calls part1 k2 ends1 gone.ends held.1 keeps3 in
      let holds3 = subst (λ (s : Disks). ServesEvent (with_fresh k2 d) k_then p.history p.low p.history (length p.history) s r3.calls) there r3.holds m3.stands.keeps in
      let part3 = subst (λ (m : Meta). AreEventCalls (with_fresh k2 d) p.history p.low m w2.disks r3.calls) m3.stands.is_base holds3.0 in
      let end : now t ≡ (watch_all r3.calls w2).disks = ap now r3.is ∙ now-extend r3.from r3.calls ∙ ap (λ (s : Disks). run s r3.calls) there ∙ sym (watched_disks w2 r3.calls) in
      record {
        from = r1.from;
        was = r1.was;
        calls = r1.calls ++ (r2.calls ++ r3.calls);
        is = r3.is ∙ ap (λ (u : Trail). extend u r3.calls) r2.is ∙ extend-extend r2.from r2.calls r3.calls ∙ ap (λ (u : Trail). extend u (r2.calls ++ r3.calls)) r1.is ∙ extend-extend r1.from r1.calls (r2.calls ++ r3.calls);
        holds = subst (λ (made : List Call). GoesOn k.slots setup p (Replace d) (answer_of d fresh_came) (StandsAt told_then k_then setup) p.disks (r1.calls ++ (made ++ r3.calls))) (sym is)
            (came_turn told k setup p at d below is_out fit k1 gone.marks keeps1 r1.calls part1 k2 ends1 gone.ends held.1 keeps3 r3.calls part3 k_then holds3.1 fresh.ends fresh_came out told_then (λ u u_tells. ap now (some_trail u t (sym u_tells ∙ tells)) ∙ end));
      }
  brings_told true k_then told_then mid k1 k2 gone (failed equal attach) out t tells =
      let r2 = attach t tells in
      let r1 = gone.ran r2.from r2.was in
      let from : now r1.from ≡ p.disks = at.disks r1.from r1.was in
      let keeps1 = marked_keeps k1 gone.stands r1.from r1.was in
      let holds1 = subst (λ (s : Disks). ServesEvent k1 k2 p.history p.low p.history (length p.history) s r1.calls) from r1.holds keeps1 in
      let part1 = subst (λ (m : Meta). AreEventCalls k1 p.history p.low m p.disks r1.calls) (marked_base k1 keeps1) holds1.0 in
      let was = gone_out2 told k setup p at d below is_out fit k1 gone.marks keeps1 r1.calls part1 k2 holds1.1 gone.ends in
      absurd (absurd (gone_not_fresh (sym was ∙ ap (λ (y : Service). y.meta.out) (sym equal) ∙ out)))
  brings_told false k_then told_then mid k1 k2 gone (failed equal attach) out t tells =
      let r2 = attach t tells in
      let r1 = gone.ran r2.from r2.was in
      let from : now r1.from ≡ p.disks = at.disks r1.from r1.was in
      let keeps1 = marked_keeps k1 gone.stands r1.from r1.was in
      let holds1 = subst (λ (s : Disks). ServesEvent k1 k2 p.history p.low p.history (length p.history) s r1.calls) from r1.holds keeps1 in
      let part1 = subst (λ (m : Meta). AreEventCalls k1 p.history p.low m p.disks r1.calls) (marked_base k1 keeps1) holds1.0 in
      let ends1 = holds1.1 in
      let w1 : Watch = watch_all r1.calls w0 in
      let here : now r2.from ≡ w1.disks = ap now r1.is ∙ now-extend r1.from r1.calls ∙ ap (λ (s : Disks). run s r1.calls) from ∙ sym (watched_disks w0 r1.calls) in
      let holds2 = subst (λ (s : Disks). AttachesInEvent k2 k2 p.history p.low d false s r2.calls) here r2.holds (gone_rests told k setup p at d below is_out fit k1 gone.marks keeps1 r1.calls part1 k2 ends1 gone.ends) in
      let c : Call = Attach d (disk_size k2.meta.setup.geometry) false in
      let is : r2.calls ≡ c ∷ [] = holds2.0.is in
      let held = subst (λ (made : List Call). Through (IsHeldWithOneMissing k2.slots k2.meta.setup.geometry.disks k2.named p.history p.low) w1.disks made) is holds2.0.held in
      let keeps3 = subst (λ (made : List Call). ServiceStandsFor k2 p.history p.low (run w1.disks made)) is holds2.1 in
      let end : now t ≡ (watch c w1).disks = ap now r2.is ∙ now-extend r2.from r2.calls ∙ ap (λ (s : Disks). run s r2.calls) here ∙ ap (run w1.disks) is in
      record {
        from = r1.from;
        was = r1.was;
        calls = r1.calls ++ r2.calls;
        is = r2.is ∙ ap (λ (u : Trail). extend u r2.calls) r1.is ∙ extend-extend r1.from r1.calls r2.calls;
        holds = subst (λ (y : Service). GoesOn k.slots setup p (Replace d) (NoFresh d) (StandsAt told_then y setup) p.disks (r1.calls ++ r2.calls)) (sym equal)
            (subst (λ (made : List Call). GoesOn k.slots setup p (Replace d) (NoFresh d) (StandsAt told_then k2 setup) p.disks (r1.calls ++ made)) (sym is)
            (none_turn told k setup p at d below is_out fit k1 gone.marks keeps1 r1.calls part1 k2 ends1 gone.ends held.1 keeps3 told_then (λ u u_tells. ap now (some_trail u t (sym u_tells ∙ tells)) ∙ end)));
      }

  pub replaces_told : (fresh_came : Bool) (k_then : Service) (told_then : Option Trail) → ReplacesDisk told told_then k k_then p.history p.low d → k_then.meta.out ≡ out_of d fresh_came
      → Ran told told_then (GoesOn k.slots setup p (Replace d) (answer_of d fresh_came) (StandsAt told_then k_then setup))
  replaces_told fresh_came k_then told_then calls out = brings_told fresh_came k_then told_then calls.mid calls.marked calls.committed calls.commits calls.brings out

  halts : (two : Two) (all : List Call) → LosesSecondDisk k.slots setup p (Replace d) two all (record p { disks = run p.disks all; halt = Some (HaltTwo two) })
      → GoesOn k.slots setup p (Replace d) (Halted (HaltTwo two)) (IsHaltedFrom p (HaltTwo two)) p.disks all
  halts two all loses = (
    record p { disks = run p.disks all; halt = Some (HaltTwo two) },
    second_loss two at.going (λ e. replace_not_bad e) refl loses,
    refl,
  )

  pub loses_told : (two : Two) (told_then : Option Trail) → LosesReplaced told told_then k p.history p.low d two → Ran told told_then (GoesOn k.slots setup p (Replace d) (Halted (HaltTwo two)) (IsHaltedFrom p (HaltTwo two)))
  loses_told two told_then (first k1 marks stands ran) t tells =
      let r1 = ran t tells in
      let from : now r1.from ≡ p.disks = at.disks r1.from r1.was in
      let keeps1 = marked_keeps k1 stands r1.from r1.was in
      let holds1 = subst (λ (s : Disks). LosesInEvent k1 p.history p.low s r1.calls × TellsTwo k1 two s r1.calls) from r1.holds in
      let part1 = subst (λ (m : Meta). AreEventCalls k1 p.history p.low m p.disks r1.calls) (marked_base k1 keeps1) (holds1.0 keeps1) in
      record {
        from = r1.from;
        was = r1.was;
        calls = r1.calls;
        is = r1.is;
        holds = halts two r1.calls (marked_loses told k setup p at d below is_out fit k1 marks keeps1 two r1.calls part1 holds1.1);
      }
  loses_told two told_then (second mid attached k1 k2 gone attach ran) t tells =
      let r3 = ran t tells in
      let r2 = attach r3.from r3.was in
      let r1 = gone.ran r2.from r2.was in
      let from : now r1.from ≡ p.disks = at.disks r1.from r1.was in
      let keeps1 = marked_keeps k1 gone.stands r1.from r1.was in
      let holds1 = subst (λ (s : Disks). ServesEvent k1 k2 p.history p.low p.history (length p.history) s r1.calls) from r1.holds keeps1 in
      let part1 = subst (λ (m : Meta). AreEventCalls k1 p.history p.low m p.disks r1.calls) (marked_base k1 keeps1) holds1.0 in
      let ends1 = holds1.1 in
      let w1 : Watch = watch_all r1.calls w0 in
      let here : now r2.from ≡ w1.disks = ap now r1.is ∙ now-extend r1.from r1.calls ∙ ap (λ (s : Disks). run s r1.calls) from ∙ sym (watched_disks w0 r1.calls) in
      let holds2 = subst (λ (s : Disks). AttachesInEvent k2 (with_fresh k2 d) p.history p.low d true s r2.calls) here r2.holds (gone_rests told k setup p at d below is_out fit k1 gone.marks keeps1 r1.calls part1 k2 ends1 gone.ends) in
      let c : Call = Attach d (disk_size k2.meta.setup.geometry) true in
      let is : r2.calls ≡ c ∷ [] = holds2.0.is in
      let held = subst (λ (made : List Call). Through (IsHeldWithOneMissing k2.slots k2.meta.setup.geometry.disks k2.named p.history p.low) w1.disks made) is holds2.0.held in
      let keeps3 = subst (λ (made : List Call). ServiceStandsFor (with_fresh k2 d) p.history p.low (run w1.disks made)) is holds2.1 in
      let w2 : Watch = watch c w1 in
      let there : now r3.from ≡ w2.disks = ap now r2.is ∙ now-extend r2.from r2.calls ∙ ap (λ (s : Disks). run s r2.calls) here ∙ ap (run w1.disks) is in
      let m3 = fresh_midway told k setup p at d below is_out fit k1 gone.marks keeps1 r1.calls part1 k2 ends1 gone.ends held.1 keeps3 in
      let holds3 = subst (λ (s : Disks). LosesInEvent (with_fresh k2 d) p.history p.low s r3.calls × TellsTwo (with_fresh k2 d) two s r3.calls) there r3.holds in
      let part3 = subst (λ (m : Meta). AreEventCalls (with_fresh k2 d) p.history p.low m w2.disks r3.calls) m3.stands.is_base (holds3.0 m3.stands.keeps) in
      record {
        from = r1.from;
        was = r1.was;
        calls = r1.calls ++ (r2.calls ++ r3.calls);
        is = r3.is ∙ ap (λ (u : Trail). extend u r3.calls) r2.is ∙ extend-extend r2.from r2.calls r3.calls ∙ ap (λ (u : Trail). extend u (r2.calls ++ r3.calls)) r1.is ∙ extend-extend r1.from r1.calls (r2.calls ++ r3.calls);
        holds = subst (λ (made : List Call). GoesOn k.slots setup p (Replace d) (Halted (HaltTwo two)) (IsHaltedFrom p (HaltTwo two)) p.disks (r1.calls ++ (made ++ r3.calls))) (sym is)
            (halts two (r1.calls ++ (c ∷ r3.calls)) (fresh_loses told k setup p at d below is_out fit k1 gone.marks keeps1 r1.calls part1 k2 ends1 gone.ends held.1 keeps3 two r3.calls part3 holds3.1));
      }
