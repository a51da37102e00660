-- A mount from the moment on at which it began: the reads of the log disks, and what follows them.
use Rattle.std.proofs.Common.{◌≡◌, ℕ, ◌+◌, ◌-◌, ◌<◌, ◌≤◌, false, List, [], ◌∷◌, ◌++◌, Option, Some, refl, sym, ap, ◌∙◌, subst, arith, take, length, length-append}
use Rattle.std.proofs.lemmas.List.{take-append-le, take_all}
use Rattle.paraid_base.specs.History.{History}
use Rattle.paraid_rack.specs.declared.call.Call.{Call}
use Rattle.paraid_rack.specs.Disks.{Disks, is_present}
use Rattle.paraid_rack.specs.Trail.{Trail, disks, extend, moments, now, run}
use Rattle.paraid_rack.proofs.AlikeLemmas.{IsAlike-sym}
use Rattle.paraid_rack.proofs.TrailsLemmas.{now-extend}
use Rattle.paraid_record.specs.declared.meta.Setup.{Setup}
use Rattle.paraid_image.specs.HeldAt.{IsHeld}
use Rattle.paraid_image.specs.Out.{IsWeak}
use Rattle.paraid_image.specs.Rest.{AreSynced}
use Rattle.paraid_image.specs.RunStart.{IsRunStart}
use Rattle.paraid_image.specs.Sides.{LogState}
use Rattle.paraid_image.specs.Standing.{Stands}
use Rattle.paraid_image.proofs.AlikeLemmas.{weak_alike}
use Rattle.paraid_recover.specs.HeldMoments.{IsAbsentSince}
use Rattle.paraid_session.specs.Mount.{start_watch}
use Rattle.paraid_session.specs.Watch.{IsAmongDown, IsServing, Watch, watch, watch_all}
use Rattle.paraid_session.proofs.RunStartLemmas.{synced_alike}
use Rattle.paraid_recover.specs.HeardSides.{ReadsLogs}
use Rattle.paraid_recover.specs.StartHeld.{IsAbsentUpTo}
use Rattle.paraid_recover.proofs.DownLemmas.{absent_weak, in_absent, in_later, in_stays, stood_log, weak_down, weak_in}
use Rattle.paraid_recover.proofs.StartReadsLemmas.{disks_from, reads_held, reads_synced, run_append, take_past}
use Rattle.paraid_recover.proofs.RestLemmas.{beside_of}
use Rattle.paraid_recover.proofs.SetupLemmas.{setup_kept}
use Rattle.paraid_recover.proofs.SpinsLemmas.{serving_by}
use Rattle.paraid_txn.specs.Resume.{IsResumable}
use Rattle.paraid_txn.specs.Uses.{EachCall}

-- one disk at most is down only where it was so before
pub serving_before : (w : Watch) (cs : List Call) → IsServing (watch_all cs w).down → IsServing w.down
serving_before w [] serving = serving
serving_before w (c ∷ cs) serving = serving_by w.down c (serving_before (watch c w) cs serving)

pub watch_append : (w : Watch) (cs ds : List Call) → watch_all (cs ++ ds) w ≡ watch_all ds (watch_all cs w)
watch_append w [] ds = refl
watch_append w (c ∷ cs) ds = watch_append (watch c w) cs ds

pub down_append : (w : Watch) (cs ds : List Call) → (watch_all (cs ++ ds) w).down ≡ (watch_all ds (watch_all cs w)).down
down_append w cs ds = ap (λ (v : Watch). v.down) (watch_append w cs ds)

module _ (slots : ℕ) (from read t : Trail) (rs ls : List Call) (read_is : read ≡ extend from rs) (t_is : t ≡ extend read ls) (each : EachCall ReadsLogs (now from) rs)
    (h : History) (lo : ℕ) (down : Option ℕ) (start : IsRunStart slots (now from) h lo down) (x : ℕ) (said : LogState) (stood : Stands (now from) x said)
    (side : ℕ) (then_said : LogState) (then_stands : Stands (now read) side then_said) (base : ℕ → ℕ) where
  abbrev s : Disks
  s = now from

  abbrev w : Watch
  w = start_watch s down base

  abbrev calls : List Call
  calls = rs ++ ls

  pub now_read : now read ≡ run s rs
  now_read = ap now read_is ∙ now-extend from rs

  -- the disks `i` calls after the reads
  pub at : (i : ℕ) → disks t (moments read + i) ≡ run s (take (length rs + i) calls)
  at i = ap (λ (u : Trail). disks u (moments read + i)) t_is ∙ disks_from read ls i ∙ ap (λ (u : Disks). run u (take i ls)) now_read
      ∙ sym (run_append s rs (take i ls)) ∙ sym (ap (run s) (take_past rs ls i))

  pub now_end : now t ≡ run s calls
  now_end = ap now t_is ∙ now-extend read ls ∙ ap (λ (u : Disks). run u ls) now_read ∙ sym (run_append s rs ls)

  pub long : moments t ≡ moments read + length ls
  long = ap moments t_is ∙ length-append read.calls ls

  pub reads_serve : (i : ℕ) → IsServing (watch_all (take (length rs + i) calls) w).down → IsServing (watch_all rs w).down
  reads_serve i serving = serving_before (watch_all rs w) (take i ls)
      (subst IsServing (ap (λ (cs : List Call). (watch_all cs w).down) (take_past rs ls i) ∙ down_append w rs (take i ls)) serving)

  abbrev n : ℕ
  n = said.meta.setup.geometry.disks

  -- while one disk at most is down, up to the moment `i` calls after the reads
  module _ (i : ℕ) (serving : IsServing (watch_all (take (length rs + i) calls) w).down) where
    pub same_setup : then_said.meta.setup ≡ said.meta.setup
    same_setup = setup_kept slots s h lo down start base rs each x said stood side then_said (subst (λ (u : Disks). Stands u side then_said) now_read then_stands) (reads_serve i serving)

    pub beside : Option ℕ
    beside = (beside_of (watch_all (take (length rs + i) calls) w).down serving).0

    pub covers : (d : ℕ) → IsAmongDown (watch_all (take (length rs + i) calls) w).down d → beside ≡ Some d
    unfolding beside
    covers d is = (beside_of (watch_all (take (length rs + i) calls) w).down serving).1 d is

    pub weak_start : (v : ℕ) → IsWeak s v → beside ≡ Some v
    weak_start v is = covers v (in_stays w (take (length rs + i) calls) v (weak_in slots s h lo down start v is))

    pub absent_to : (j d : ℕ) → j ≤ length rs + i → d < n → is_present ((run s (take j calls)).power d) ≡ false → beside ≡ Some d
    absent_to j d le low off = covers d (in_later w calls j (length rs + i) d le
        (in_absent w (take j calls) d (λ gone. weak_in slots s h lo down start d (absent_weak slots s h lo down start.synced start.held x said stood d low gone)) off))

    start_beside : IsHeld slots s h lo beside
    start_beside = record {
      whole = start.held.whole;
      lost = start.held.lost;
      weak = λ j v image is. weak_start v (weak_alike j s v (IsAlike-sym s j (synced_alike s j start.synced image)) is);
    }

    absent_reads : IsAbsentUpTo 3 s rs (length rs) beside
    absent_reads j d le low off =
        let many = said.meta.setup.geometry.disks_low in
        absent_to j d (omega arith) (omega arith) (ap (λ (cs : List Call). is_present ((run s cs).power d)) (take-append-le j rs ls le) ∙ off)

    -- after the reads what was held is held beside the disk that is down
    pub held_read : IsHeld slots (now read) h lo beside
    held_read = subst (λ (u : Disks). IsHeld slots u h lo beside) (ap (run s) (take_all (length rs) rs (omega arith)) ∙ sym now_read)
        (reads_held slots h lo beside s rs (length rs) each absent_reads start_beside)

    synced_read : AreSynced (now read)
    synced_read = subst AreSynced (sym now_read) (reads_synced s rs each start.synced)

    -- and the commit that was interrupted can be ended
    pub broken : IsResumable (now read) side then_said
    broken = record { synced = synced_read; log = stood_log slots (now read) h lo beside synced_read held_read side then_said then_stands }

    pub weak_read : (v : ℕ) → IsWeak (now read) v → beside ≡ Some v
    weak_read = weak_down slots (now read) h lo beside synced_read held_read

    -- no other disk was absent since
    pub absent_since : IsAbsentSince then_said.meta.setup.geometry.disks t (moments read) (moments read + i) beside
    absent_since j d first last low off =
        let back : moments read + (j - moments read) ≡ j = omega (arith, first) in
        absent_to (length rs + (j - moments read)) d (omega (arith, first, last)) (subst (λ (z : Setup). d < z.geometry.disks) same_setup low)
        (ap (λ (u : Disks). is_present (u.power d)) (sym (at (j - moments read)) ∙ ap (disks t) back) ∙ off)
