-- The promise of a resume, by its calls.
use Rattle.std.specs.Prelude.{◌≡◌, ◌≢◌, ℕ, ◌<◌, ◌≤◌, true, false, [], Option, Some}
use Rattle.std.proofs.Common.{refl, sym, ◌∙◌, ap, subst, arith, inl, inr}
use Rattle.std.proofs.lemmas.Bool.{cases_Bool, false≢true}
use Rattle.paraid_base.specs.declared.block.Block.{Block}
use Rattle.paraid_base.specs.Log.{log_least}
use Rattle.paraid_base.specs.Xor.{zero_block}
use Rattle.paraid_rack.specs.declared.call.Power.TheVariants.{Absent}
use Rattle.paraid_rack.specs.Atoms.{IsLeftByStop}
use Rattle.paraid_rack.specs.Disks.{Disks, IsPresent}
use Rattle.paraid_rack.specs.Told.{Ran, CrashTriple}
use Rattle.paraid_rack.specs.Trail.{Trail, now, run}
use Rattle.paraid_record.specs.declared.meta.Meta.{Meta}
use Rattle.paraid_txn.specs.Commit.{IsEachImage, ImageStandsFor}
use Rattle.paraid_image.specs.Out.{named_out}
use Rattle.paraid_txn.specs.Resume.{IsResumable, StandsWhileResumed, LeadsResume, ImageStandsForResumed, HoldsThroughResume, AreDisksSame, EndsResumed, EndsLaid, ShutEnd, HoldsThroughShut}
use Rattle.paraid_image.specs.Sides.{log_state, Batch, Says, is_open}
use Rattle.paraid_txn.specs.CommitStages.{CloseStage, IsLiveLog, IsSpelled, Job, job}
use Rattle.paraid_image.specs.Standing.{other_log}
use Rattle.paraid_txn.proofs.ClosedLemmas.{shut_each, shut_ends, shut_metas, shut_stands}
use Rattle.paraid_txn.proofs.ResumeImagesLemmas.{is_alike, meant_images, open_ends, open_stands, resuming_each, resuming_keeps, resuming_metas}
use Rattle.paraid_txn.proofs.RanLemmas.{Through-end, ran_from, ran_given}
use Rattle.paraid_txn.specs.Uses.{EachCall, Uses}
use Rattle.paraid_txn.proofs.WitnessLemmas.{kept_and, same_calls}
use Rattle.paraid_image.proofs.OutLemmas.{out_present}
use Rattle.paraid_txn.proofs.StoreLemmas.{IsStartReady}
use Rattle.paraid_txn.proofs.WholeLemmas.{stored_here}

left_self : (s : Disks) → IsLeftByStop s s
left_self s = record { present = λ d here. here; power = λ d here. refl; size = λ d here. refl; block = λ d p synced. refl }

pub no_disks : Disks
no_disks = record { power = λ d. Absent; size = λ d. 0; block = λ d p. zero_block; loose = λ d p. false }

none_there : (d : ℕ) → IsPresent no_disks d → ⊥
unfolding no_disks
none_there d here = false≢true here

module _ (m : Meta) (batch : Batch) (spelled list : Block) (x : ℕ) (good : (start : Disks) → IsSpelled (job start m batch spelled list x)) (low : x < 2)
    (in_array : named_out m.out ≢ Some x) (old new : Option Trail) (ready : (s : Trail) → old ≡ Some s → IsStartReady m batch (now s)) where
  abbrev it : Disks → Job
  it start = job start m batch spelled list x

  live : (start : Disks) → IsLiveLog (it start) x
  live start = (low, in_array)

  large : (s : Trail) → old ≡ Some s → (z : ℕ) → IsLiveLog (it (now s)) z → IsPresent (now s) z → log_least ≤ (now s).size z
  large s is z l here = (ready s is).large z l.0 l.1 here

  same : (s : Trail) → old ≡ Some s → ((d p : ℕ) → IsPresent (now s) d → (now s).loose d p ≡ false) → AreDisksSame (it (now s)) (now s)
  same s is synced = record {
    kept = record { present = λ d here. here; power = λ d here. refl; size = λ d here. refl; large = large s is };
    same = λ d p. record { holds = λ here. (synced d p here, refl) };
  }

  -- the log disk that stands is open
  leads : (s : Trail) (is : old ≡ Some s) → IsResumable (now s) x (log_state true m batch) → LeadsResume (it (now s)) x
  leads s is broken = record {
    live = live (now s);
    large = large s is;
    says = λ here. broken.log.stands.says;
    other = λ l here. elim (cases_Bool (is_open ((now s).block (other_log x) 0))) [
      | inr off ↦ inl off
      | inl on ↦
          let f = broken.log.formed (other_log x) l.0 here (out_present (now s).power m (other_log x) here l.1) in
          let big = large s is (other_log x) l here in
          let opened = sym f.1.gate ∙ ap is_open (stored_here (now s) (other_log x) 0 here (omega arith)) ∙ on in
          inr (subst (Says (now s) (other_log x)) (is_alike (now s) x (log_state true m batch) f.0 m.writes broken.log f.1 l.1 refl opened) f.1)
    ];
  }

  pub none_leads : LeadsResume (it no_disks) x
  none_leads = record {
    live = live no_disks;
    large = λ z l here. absurd (none_there z here);
    says = λ here. absurd (none_there x here);
    other = λ l here. absurd (none_there (other_log x) here);
  }

  pub open_resumes : Ran old new (EachCall (Uses m batch)) → ((start : Disks) → LeadsResume (it start) x → Ran old new (CrashTriple (HoldsThroughResume (it start) x) (AreDisksSame (it start)) (HoldsThroughResume (it start) x)))
      → StandsWhileResumed old new x (log_state true m batch)
  open_resumes each ran t tells =
      let r = ran_given (λ start. HoldsThroughResume (it start) x) (λ start. AreDisksSame (it start)) (λ start. HoldsThroughResume (it start) x) (λ start. LeadsResume (it start) x) no_disks none_leads old new ran t tells in
      let j = it (now r.from) in
      let g = good (now r.from) in
      let spins = (ready r.from r.was).spins in
      record {
        from = r.from;
        was = r.was;
        calls = r.calls;
        is = r.is;
        holds = λ broken.
            let lead = leads r.from r.was broken in
            kept_and m batch g.in_range.each (now r.from) broken.synced r.calls (same_calls (Uses m batch) old new each t tells r.from r.calls r.was r.is)
            (HoldsThroughResume j x) (IsEachImage m m (ImageStandsForResumed (now r.from) x (log_state true m batch)))
            (λ s now_is witnesses.
            meant_images (now r.from) x low m batch g.meta.in_range s
            (λ i left single. resuming_each j g refl x lead broken.log spins s now_is i left single)
            (λ i left. resuming_metas j g refl x lead broken.log spins s now_is i left)
            (λ i left. resuming_keeps j g refl x lead broken.log spins s now_is i left) witnesses
            (log_state true m batch) refl refl)
            (r.holds lead (same r.from r.was broken.synced)).0;
      }

  pub open_settles : ((start : Disks) → LeadsResume (it start) x → Ran old new (CrashTriple (HoldsThroughResume (it start) x) (AreDisksSame (it start)) (CloseStage (it start) 2)))
      → EndsResumed old new x (log_state true m batch)
  open_settles ran t tells =
      let r = ran_given (λ start. HoldsThroughResume (it start) x) (λ start. AreDisksSame (it start)) (λ start. CloseStage (it start) 2) (λ start. LeadsResume (it start) x) no_disks none_leads old new ran t tells in
      record {
        from = r.from;
        was = r.was;
        calls = r.calls;
        is = r.is;
        holds = λ broken.
            let lead = leads r.from r.was broken in
            open_ends (it (now r.from)) (good (now r.from)) refl x lead broken.log (ready r.from r.was).spins (run (now r.from) r.calls) (r.holds lead (same r.from r.was broken.synced)).1;
      }

  pub open_lays : ((start : Disks) → LeadsResume (it start) x → Ran old new (CrashTriple (HoldsThroughResume (it start) x) (AreDisksSame (it start)) (CloseStage (it start) 2)))
      → EndsLaid old new x (log_state true m batch)
  open_lays ran t tells =
      let r = ran_given (λ start. HoldsThroughResume (it start) x) (λ start. AreDisksSame (it start)) (λ start. CloseStage (it start) 2) (λ start. LeadsResume (it start) x) no_disks none_leads old new ran t tells in
      record {
        from = r.from;
        was = r.was;
        calls = r.calls;
        is = r.is;
        holds = λ broken one.
            let lead = leads r.from r.was broken in
            open_stands (it (now r.from)) (good (now r.from)) refl x lead broken.log (ready r.from r.was).spins (run (now r.from) r.calls) (r.holds lead (same r.from r.was broken.synced)).1
            (λ d e p q. one.one d e (inl p) (inl q));
      }

  -- it is closed
  module _ (empty : batch ≡ []) where
    heard_is : log_state false m batch ≡ log_state false m []
    heard_is = ap (log_state false m) empty

    pub closed_resumes : Ran old new (EachCall (Uses m batch)) → ((start : Disks) → Ran old new (CrashTriple (HoldsThroughShut (it start) (other_log x)) (AreDisksSame (it start)) (HoldsThroughShut (it start) (other_log x))))
        → StandsWhileResumed old new x (log_state false m batch)
    closed_resumes each ran t tells =
        let r = ran_from (λ start. HoldsThroughShut (it start) (other_log x)) (λ start. AreDisksSame (it start)) (λ start. HoldsThroughShut (it start) (other_log x)) old new ran t tells in
        let j = it (now r.from) in
        let g = good (now r.from) in
        record {
          from = r.from;
          was = r.was;
          calls = r.calls;
          is = r.is;
          holds = λ broken.
              let log = subst (λ v. IsResumable (now r.from) x v) heard_is broken in
              kept_and m batch g.in_range.each (now r.from) broken.synced r.calls (same_calls (Uses m batch) old new each t tells r.from r.calls r.was r.is)
              (HoldsThroughShut j (other_log x)) (IsEachImage m m (ImageStandsForResumed (now r.from) x (log_state false m batch)))
              (λ s now_is witnesses.
              meant_images (now r.from) x low m [] g.meta.in_range s
              (λ i left single. shut_each j g refl x (live (now r.from)) (large r.from r.was) log.log i (now_is.each i left) single)
              (λ i left. shut_metas j g refl x (live (now r.from)) (large r.from r.was) log.log i (now_is.each i left))
              (λ i left. let k = (now_is.each i left).kept in record { present = k.present; power = k.power; size = k.size }) witnesses
              (log_state false m batch) refl empty)
              (r.holds (same r.from r.was broken.synced)).0;
        }

    pub closed_settles : ((start : Disks) → Ran old new (CrashTriple (HoldsThroughShut (it start) (other_log x)) (AreDisksSame (it start)) (ShutEnd (it start) (other_log x))))
        → EndsResumed old new x (log_state false m batch)
    closed_settles ran t tells =
        let r = ran_from (λ start. HoldsThroughShut (it start) (other_log x)) (λ start. AreDisksSame (it start)) (λ start. ShutEnd (it start) (other_log x)) old new ran t tells in
        let j = it (now r.from) in
        let end = run (now r.from) r.calls in
        record {
          from = r.from;
          was = r.was;
          calls = r.calls;
          is = r.is;
          holds = λ broken.
              let log = subst (λ v. IsResumable (now r.from) x v) heard_is broken in
              let all = r.holds (same r.from r.was broken.synced) in
              let y_low : other_log x < 2 = omega (arith, low) in
              let whole = Through-end (HoldsThroughShut j (other_log x)) (now r.from) r.calls all.0 in
              elim all.1 [
                | inl still ↦ shut_ends j (good (now r.from)) refl x (live (now r.from)) (large r.from r.was) log.log end (whole.each end (left_self end))
                    (λ d p here. ((still.core.same d p).holds here).0) (λ l here. still.shut (y_low, l) here)
                | inr done ↦ shut_ends j (good (now r.from)) refl x (live (now r.from)) (large r.from r.was) log.log end (whole.each end (left_self end))
                    (λ d p here. ((done.synced.synced d p).holds here).0) (λ l here. ((done.gate l).holds here).1)
              ];
        }

    pub closed_lays : ((start : Disks) → Ran old new (CrashTriple (HoldsThroughShut (it start) (other_log x)) (AreDisksSame (it start)) (ShutEnd (it start) (other_log x))))
        → EndsLaid old new x (log_state false m batch)
    closed_lays ran t tells =
        let r = ran_from (λ start. HoldsThroughShut (it start) (other_log x)) (λ start. AreDisksSame (it start)) (λ start. ShutEnd (it start) (other_log x)) old new ran t tells in
        let j = it (now r.from) in
        let end = run (now r.from) r.calls in
        record {
          from = r.from;
          was = r.was;
          calls = r.calls;
          is = r.is;
          holds = λ broken one.
              let log = subst (λ v. IsResumable (now r.from) x v) heard_is broken in
              let all = r.holds (same r.from r.was broken.synced) in
              let y_low : other_log x < 2 = omega (arith, low) in
              let image = (Through-end (HoldsThroughShut j (other_log x)) (now r.from) r.calls all.0).each end (left_self end) in
              subst (λ (b : Batch). ImageStandsFor (now r.from) end m b) (sym empty) (elim all.1 [
                | inl still ↦ shut_stands j (good (now r.from)) refl x (live (now r.from)) (large r.from r.was) log.log end image
                    (λ d p here. ((still.core.same d p).holds here).0) (λ l here. still.shut (y_low, l) here) (λ d e p q. one.one d e (inl p) (inl q))
                | inr done ↦ shut_stands j (good (now r.from)) refl x (live (now r.from)) (large r.from r.was) log.log end image
                    (λ d p here. ((done.synced.synced d p).holds here).0) (λ l here. ((done.gate l).holds here).1) (λ d e p q. one.one d e (inl p) (inl q))
              ]);
        }
