-- The calls of a mount are what is asked of them.
use Rattle.std.proofs.Common.{◌≡◌, ℕ, ◌+◌, ◌-◌, ◌<◌, ◌≤◌, List, [], ◌∷◌, ◌++◌, Option, Some, sym, ap, ◌∙◌, subst, arith, take, length}
use Rattle.paraid_base.specs.History.{History}
use Rattle.paraid_base.specs.States.{gone_out}
use Rattle.paraid_rack.specs.declared.call.Call.{Call}
use Rattle.paraid_rack.specs.Disks.{Disks}
use Rattle.paraid_rack.specs.Trail.{Trail, disks, extend, moments, now, run}
use Rattle.paraid_rack.proofs.AlikeLemmas.{IsAlike-sym}
use Rattle.paraid_rack.proofs.TrailsLemmas.{now-extend}
use Rattle.paraid_record.specs.declared.meta.Setup.{Setup}
use Rattle.paraid_image.specs.Calls.{disk_of}
use Rattle.paraid_image.specs.HeldAt.{IsHeld}
use Rattle.paraid_image.specs.Out.{IsWeak}
use Rattle.paraid_image.specs.RunStart.{IsRunStart}
use Rattle.paraid_image.specs.Sides.{LogState}
use Rattle.paraid_image.specs.Standing.{Stands}
use Rattle.paraid_image.proofs.AlikeLemmas.{weak_alike}
use Rattle.paraid_recover.specs.HeldMoments.{IsAbsentSince}
use Rattle.paraid_recover.specs.MountCalls.{IsMountCall}
use Rattle.paraid_recover.proofs.MountCallsLemmas.{reads_mount}
use Rattle.paraid_session.specs.Mount.{IsBase, mount_bounds, start_watch}
use Rattle.paraid_session.specs.Watch.{Each, IsServing, Watch, watch, watch_all}
use Rattle.paraid_session.proofs.RunStartLemmas.{synced_alike}
use Rattle.paraid_recover.specs.HeardSides.{ReadsLogs}
use Rattle.paraid_recover.specs.StartCalls.{IsSpinUpRecorded, MakesMountCall}
use Rattle.paraid_recover.specs.StartHeld.{HoldsAfter}
use Rattle.paraid_recover.specs.StartParts.{AreMountCalls}
use Rattle.paraid_recover.specs.RecordedSpins.{StaysWithin}
use Rattle.paraid_recover.proofs.BaseLemmas.{each_append}
use Rattle.paraid_recover.proofs.CallsLemmas.{each_makes, each_map}
use Rattle.paraid_recover.proofs.DownLemmas.{watched_disks}
use Rattle.paraid_recover.proofs.ForeseenLemmas.{gone_kept}
use Rattle.paraid_recover.proofs.StartReadsLemmas.{holds_after, reads_held}
use Rattle.paraid_recover.proofs.SetupLemmas.{setup_kept}
use Rattle.paraid_recover.proofs.SpinsLemmas.{serving_by}
use Rattle.paraid_recover.proofs.StoryLemmas.{same_setup}
use Rattle.paraid_recover.proofs.WithinLemmas.{reads_within}
use Rattle.paraid_txn.specs.Resume.{IsResumable}
use Rattle.paraid_txn.specs.Uses.{EachCall}

-- calls of a mount of another array are such of this one, while one disk at most is down
each_later : (n0 n : ℕ) (gone0 gone : Option ℕ) (v : Watch) (cs : List Call) → (IsServing v.down → (n ≡ n0) × ((d : ℕ) → gone0 ≡ Some d → gone ≡ Some d)) → EachCall (IsMountCall n gone) v.disks cs
    → Each (λ (u : Watch). Unit {0}) (MakesMountCall n0 gone0) v cs
each_later n0 n skip0 skip v [] same each = tt
each_later n0 n skip0 skip v (c ∷ cs) same each = (
  tt,
  record {
    power = each.0;
    attaches = each.1.attaches;
    serving = λ serving. let is = same serving in record {
      disk = subst (λ (k : ℕ). disk_of c < k) is.0 each.1.disk;
      attaches = each.1.attaches;
      aside = λ at. each.1.aside (is.1 (disk_of c) at);
    };
  },
  each_later n0 n skip0 skip (watch c v) cs (λ serving. same (serving_by v.down c serving)) each.2,
)

module _ (slots : ℕ) (s : Disks) (h : History) (lo : ℕ) (down : Option ℕ) (start : IsRunStart slots s h lo down) (x : ℕ) (said : LogState) (stood : Stands s x said)
    (base : ℕ → ℕ) (rs : List Call) (each : EachCall ReadsLogs s rs) where
  abbrev w : Watch
  w = start_watch s down base

  abbrev n : ℕ
  n = said.meta.setup.geometry.disks

  -- reads of the log disks
  pub reads_make : Each (λ (u : Watch). Unit {0}) (MakesMountCall n (gone_out said.meta.out)) w rs
  reads_make = let many = said.meta.setup.geometry.disks_low in
      each_makes n (gone_out said.meta.out) w rs (each_map ReadsLogs (IsMountCall n (gone_out said.meta.out)) (λ c is. reads_mount n (gone_out said.meta.out) c (omega arith) is) s rs each)

  reads_hold : (k : ℕ) → HoldsAfter slots n s h lo rs k
  reads_hold k = record {
    held = λ beside absent weak. reads_held slots h lo beside s rs k each
        (λ j d le low off. let many = said.meta.setup.geometry.disks_low in absent j d le (omega arith) off)
        (record {
          whole = start.held.whole;
          lost = start.held.lost;
          weak = λ i v image is. weak v (weak_alike i s v (IsAlike-sym s i (synced_alike s i start.synced image)) is);
        });
  }

  -- Where only the log disks are read the calls are what is asked.
  pub reads_parts : (ticks : ℕ) → IsBase s x said base ticks → AreMountCalls slots s x said h lo down rs
  reads_parts ticks is_base = record {
    base = base;
    ticks = ticks;
    is_base = is_base;
    each = reads_make;
    held = λ k le serving. reads_hold k;
    within = reads_within slots s h lo down start x said stood base ticks is_base rs each;
  }

module _ (slots : ℕ) (from read t : Trail) (rs ls : List Call) (read_is : read ≡ extend from rs) (t_is : t ≡ extend read ls) (each : EachCall ReadsLogs (now from) rs)
    (h : History) (lo : ℕ) (down : Option ℕ) (start : IsRunStart slots (now from) h lo down) (x : ℕ) (said : LogState) (stood : Stands (now from) x said)
    (side : ℕ) (then_said : LogState) (then_stands : Stands (now read) side then_said) (base : ℕ → ℕ)
    (later : EachCall (IsMountCall then_said.meta.setup.geometry.disks (gone_out then_said.meta.out)) (now read) ls)
    (recovers : (h : History) (lo m : ℕ) (was down : Option ℕ) → IsResumable (now read) side then_said → IsHeld slots (now read) h lo was → moments read ≤ m → m ≤ moments t
    → IsAbsentSince then_said.meta.setup.geometry.disks t (moments read) m down → ((v : ℕ) → IsWeak (now read) v → down ≡ Some v) → IsHeld slots (disks t m) h lo down) where
  abbrev began : Disks
  began = now from

  abbrev first_watch : Watch
  first_watch = start_watch began down base

  abbrev disk_count : ℕ
  disk_count = said.meta.setup.geometry.disks

  abbrev calls : List Call
  calls = rs ++ ls

  read_end : now read ≡ run began rs
  read_end = ap now read_is ∙ now-extend from rs

  stands_read : Stands (run began rs) side then_said
  stands_read = subst (λ (u : Disks). Stands u side then_said) read_end then_stands

  same_array : IsServing (watch_all rs first_watch).down → (then_said.meta.setup.geometry.disks ≡ disk_count) × ((d : ℕ) → gone_out said.meta.out ≡ Some d → gone_out then_said.meta.out ≡ Some d)
  same_array serving = (
    ap (λ (z : Setup). z.geometry.disks) (setup_kept slots began h lo down start base rs each x said stood side then_said stands_read serving),
    gone_kept slots began h lo down start x said stood base rs each side then_said stands_read serving,
  )

  later_make : Each (λ (u : Watch). Unit {0}) (MakesMountCall disk_count (gone_out said.meta.out)) (watch_all rs first_watch) ls
  later_make = each_later disk_count then_said.meta.setup.geometry.disks (gone_out said.meta.out) (gone_out then_said.meta.out) (watch_all rs first_watch) ls same_array
      (subst (λ (u : Disks). EachCall (IsMountCall then_said.meta.setup.geometry.disks (gone_out then_said.meta.out)) u ls) (read_end ∙ sym (watched_disks first_watch rs)) later)

  holds_at : (k : ℕ) → k ≤ length calls → IsServing (watch_all (take k calls) first_watch).down → HoldsAfter slots disk_count began h lo calls k
  holds_at k le serving =
      let many = said.meta.setup.geometry.disks_low in
      holds_after slots disk_count side then_said from read t rs ls read_is t_is each then_stands recovers h lo down start k (omega arith) le
      (λ more.
      let split : length rs + (k - length rs) ≡ k = omega (arith, more) in
      ap (λ (z : Setup). z.geometry.disks) (sym (same_setup slots from read t rs ls read_is t_is each h lo down start x said stood side then_said then_stands base (k - length rs)
      (subst (λ (j : ℕ). IsServing (watch_all (take j calls) first_watch).down) (sym split) serving))))

  -- The calls of a mount that goes on are what is asked.
  pub parts_of : (ticks : ℕ) → IsBase began x said base ticks → Each (StaysWithin (mount_bounds said ticks)) IsSpinUpRecorded first_watch calls → AreMountCalls slots began x said h lo down calls
  parts_of ticks is_base within = record {
    base = base;
    ticks = ticks;
    is_base = is_base;
    each = each_append (λ (u : Watch). Unit {0}) (MakesMountCall disk_count (gone_out said.meta.out)) first_watch rs ls (reads_make slots began h lo down start x said stood base rs each) later_make;
    held = holds_at;
    within = within;
  }
