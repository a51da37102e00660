-- What is foreseen after the reads of the log disks is within the bounds of a mount.
use Rattle.std.proofs.Common.{◌≡◌, ◌≢◌, ℕ, Bool, true, false, List, Option, Some, None, refl, sym, ap, ◌∙◌, subst, arith}
use Rattle.std.proofs.lemmas.Bool.{false≢true}
use Rattle.paraid_base.specs.History.{History}
use Rattle.paraid_base.specs.States.{gone_out}
use Rattle.paraid_rack.specs.declared.call.Call.{Call}
use Rattle.paraid_rack.specs.Disks.{Disks, IsPresent, is_present}
use Rattle.paraid_rack.specs.Trail.{run}
use Rattle.paraid_record.specs.declared.meta.Meta.{Meta}
use Rattle.paraid_image.specs.HeldAt.{MayLose}
use Rattle.paraid_image.specs.Out.{IsMissing, IsWeak, first_absent, named_out, or_else, out_disk}
use Rattle.paraid_image.specs.Out.IsWeak.{named, out}
use Rattle.paraid_image.specs.RunStart.{IsRunStart}
use Rattle.paraid_image.specs.Sides.{LogState, Says}
use Rattle.paraid_image.specs.Sound.{LogOk}
use Rattle.paraid_image.specs.Standing.{Stands, other_log}
use Rattle.paraid_image.proofs.OutLemmas.{out_present}
use Rattle.paraid_image.proofs.SidesLemmas.{Says-same}
use Rattle.paraid_image.proofs.StandingLemmas.{Stands-same}
use Rattle.paraid_recover.specs.RecoveryMark.{with_mark}
use Rattle.paraid_recover.proofs.FitLemmas.{gone_named}
use Rattle.paraid_recover.specs.StandingMetas.{StandsForeseen}
use Rattle.paraid_recover.specs.StandingMetas.StandsForeseen.{marked, same, without}
use Rattle.paraid_session.specs.Mount.{IsBase, mount_bounds, start_watch}
use Rattle.paraid_session.specs.Watch.{IsAmongDown, IsServing, Watch, watch_all}
use Rattle.paraid_recover.specs.HeardSides.{ReadsLogs}
use Rattle.paraid_recover.specs.RecordedSpins.{IsWithinBoundsAt}
use Rattle.paraid_recover.proofs.DownLemmas.{in_absent, in_stays, several_in, stood_log, weak_in}
use Rattle.paraid_recover.proofs.BasedLemmas.{next_marked}
use Rattle.paraid_recover.proofs.ReadDirtyLemmas.{stays}
use Rattle.paraid_recover.proofs.ReadWithinLemmas.{IsBased, based_stood, based_within, based_without}
use Rattle.paraid_recover.proofs.SetupLemmas.{back, still_both}
use Rattle.paraid_txn.specs.Uses.{EachCall}

named_disk : (power : _) (m : Meta) (d : ℕ) → named_out m.out ≡ Some d → out_disk power m ≡ Some d
named_disk power m d is = ap (λ (o : Option ℕ). or_else o (first_absent power m.setup.geometry.disks)) is

module _ (slots : ℕ) (s : Disks) (h : History) (lo : ℕ) (down : Option ℕ) (start : IsRunStart slots s h lo down) (x : ℕ) (said : LogState) (stood : Stands s x said)
    (base : ℕ → ℕ) (rs : List Call) (each : EachCall ReadsLogs s rs) (side : ℕ) (then_said : LogState) (stands : Stands (run s rs) side then_said)
    (serving : IsServing (watch_all rs (start_watch s down base)).down) where
  abbrev w : Watch
  w = start_watch s down base

  abbrev u : Disks
  u = run s rs

  log : LogOk s x said said.meta.writes
  log = stood_log slots s h lo down start.synced start.held x said stood

  both : IsPresent u x → (side ≡ x) × (then_said ≡ said)
  both here = still_both slots s h lo down start base rs each x said stood side then_said stands here

  said_before : (y : ℕ) (o : LogState) → Says u y o → Says s y o
  said_before y o says = back slots s h lo down start base rs each x said stood side then_said stands y o says

  x_down : is_present (u.power x) ≡ false → IsAmongDown (watch_all rs w).down x
  x_down off = in_absent w rs x (λ gone. absurd (false≢true (sym gone ∙ stood.says.present))) off

  weak_down : (v : ℕ) → IsWeak s v → IsAmongDown (watch_all rs w).down v
  weak_down v is = in_stays w rs v (weak_in slots s h lo down start v is)

  other_side : is_present (u.power x) ≡ false → side ≡ other_log x
  other_side off =
      let apart : side ≢ x = λ is. false≢true (sym (subst (λ (y : ℕ). is_present (u.power y) ≡ false) (sym is) off) ∙ stands.says.present) in
      let low = stands.log_disk in
      let high = stood.log_disk in
      omega (arith, low, high, apart)

  other_says : is_present (u.power x) ≡ false → Says s (other_log x) then_said
  other_says off = subst (λ (y : ℕ). Says s y then_said) (other_side off) (said_before side then_said stands.says)

  -- the log disk that stood and failed could be lost at the start
  lost_may : is_present (u.power x) ≡ false → MayLose s x
  lost_may off = record {
    standing = x;
    said = said;
    stands = stood;
    disk = (let low = stood.log_disk in let many = said.meta.setup.geometry.disks_low in omega (arith, low, many));
    present = stood.says.present;
    weak = λ v is. several_in (watch_all rs w).down v x serving (weak_down v is) (x_down off);
  }

  -- a disk that what stands after the reads names out is down
  pub named_down : (d : ℕ) → named_out then_said.meta.out ≡ Some d → IsAmongDown (watch_all rs w).down d
  named_down d is = split (is_present (u.power x)) refl
    where
      by_out : is_present (u.power x) ≡ false → (o : Option ℕ) → out_disk s.power said.meta ≡ o → IsAmongDown (watch_all rs w).down d
      by_out off None none = weak_down d (named x said then_said stood none (other_says off) is)
      by_out off (Some e) some =
          let same_disk = several_in (watch_all rs w).down e x serving (weak_down e (out x said stood some)) (x_down off) in
          absurd (out_present s.power said.meta x stood.says.present log.standing_in (some ∙ ap (λ (k : ℕ). Some k) same_disk))

      split : (b : Bool) → is_present (u.power x) ≡ b → IsAmongDown (watch_all rs w).down d
      split true here = weak_down d (out x said stood (named_disk s.power said.meta d (ap (λ (o : LogState). named_out o.meta.out) (sym (both here).1) ∙ is)))
      split false off = by_out off (out_disk s.power said.meta) refl

  -- a disk that was gone is so by what stands after the reads
  pub gone_kept : (d : ℕ) → gone_out said.meta.out ≡ Some d → gone_out then_said.meta.out ≡ Some d
  gone_kept d is = split (is_present (u.power x)) refl
    where
      name : named_out said.meta.out ≡ Some d
      name = gone_named said.meta.out d is

      split : (b : Bool) → is_present (u.power x) ≡ b → gone_out then_said.meta.out ≡ Some d
      split true here = ap (λ (o : LogState). gone_out o.meta.out) (both here).1 ∙ is
      split false off =
          let same_disk = several_in (watch_all rs w).down d x serving (weak_down d (out x said stood (named_disk s.power said.meta d name))) (x_down off) in
          absurd (log.standing_in (name ∙ ap (λ (k : ℕ). Some k) same_disk))

  module _ (ticks : ℕ) (is_base : IsBase s x said base ticks) (single : (a b : ℕ) → IsMissing u.power then_said.meta a → IsMissing u.power then_said.meta b → a ≡ b) where
    -- what stands after the reads
    pub then_based : IsBased s said.meta then_said.meta base ticks
    then_based = split (is_present (u.power x)) refl
      where
        split : (b : Bool) → is_present (u.power x) ≡ b → IsBased s said.meta then_said.meta base ticks
        split true here = subst (λ (o : LogState). IsBased s said.meta o.meta base ticks) (sym (both here).1) (based_stood slots s h lo down start x said stood base ticks is_base)
        split false off = based_without slots s h lo down start x said stood base ticks is_base then_said (other_says off) (lost_may off)

    single_said : then_said ≡ said → (a b : ℕ) → IsMissing u.power said.meta a → IsMissing u.power said.meta b → a ≡ b
    single_said is = subst (λ (o : LogState). (a b : ℕ) → IsMissing u.power o.meta a → IsMissing u.power o.meta b → a ≡ b) is single

    -- a disk that may be lost after the reads could be lost before them
    may_before : IsPresent u x → (p : LogState) → Says u (other_log x) p → MayLose u x → MayLose s x
    may_before here p says may = record {
      standing = x;
      said = said;
      stands = stood;
      disk = (let low = stood.log_disk in let many = said.meta.setup.geometry.disks_low in omega (arith, low, many));
      present = stood.says.present;
      weak = λ v is. by v is;
    }
      where
        at : Stands u x said
        at = subst (λ (o : LogState). Stands u x o) (both here).1 (subst (λ (y : ℕ). Stands u y then_said) (both here).0 stands)

        stays_out : (v : ℕ) → out_disk s.power said.meta ≡ Some v → v ≡ x
        stays_out v some = may.weak v (out x said at (stays slots s h lo down start x said stood rs each (single_said (both here).1) v some))

        then_named : (v : ℕ) → named_out p.meta.out ≡ Some v → (o : Option ℕ) → out_disk u.power said.meta ≡ o → v ≡ x
        then_named v name None none = may.weak v (named x said p at none says name)
        then_named v name (Some e) some =
            let same_disk = may.weak e (out x said at some) in
            absurd (out_present u.power said.meta x here log.standing_in (some ∙ ap (λ (k : ℕ). Some k) same_disk))

        by : (v : ℕ) → IsWeak s v → v ≡ x
        by v (out y a there some) =
            let same_said = (Stands-same s y x a said there stood).1 in
            stays_out v (ap (λ (o : LogState). out_disk s.power o.meta) (sym same_said) ∙ some)
        by v (named y a b there none told name) =
            let same_log = (Stands-same s y x a said there stood).0 in
            let same_said = Says-same s (other_log x) b p (subst (λ (k : ℕ). Says s (other_log k) b) same_log told) (said_before (other_log x) p says) in
            then_named v (ap (λ (o : LogState). named_out o.meta.out) (sym same_said) ∙ name) (out_disk u.power said.meta) refl

    marked_based : (mark : Option ℕ) (i : Disks) → IsWithinBoundsAt (mount_bounds said ticks) base s i (with_mark then_said.meta mark)
    marked_based mark i =
        let b = then_based in
        let next = next_marked then_said.meta mark in
        record {
          same_setup = next.setup ∙ b.setup;
          in_time = (let at = next.epoch in let time = b.time in omega (arith, at, time));
          counted_ticks = (let at = next.ticks in let most = b.counted in omega (arith, at, most));
          recorded = λ k low here not. (let used = next.used s.power k in let at = b.recorded k in omega (arith, used, at));
        }

    -- What is foreseen is within the bounds.
    pub foreseen_within : (i : Disks) (m : Meta) → StandsForeseen u side then_said i m → IsWithinBoundsAt (mount_bounds said ticks) base s i m
    foreseen_within i m (same e) = subst (IsWithinBoundsAt (mount_bounds said ticks) base s i) (sym e) (based_within s said then_said.meta base ticks i then_based)
    foreseen_within i m (marked mark e) = subst (IsWithinBoundsAt (mount_bounds said ticks) base s i) (sym e) (marked_based mark i)
    foreseen_within i m (without p off may says e) = subst (IsWithinBoundsAt (mount_bounds said ticks) base s i) (sym e) (split (is_present (u.power x)) refl)
      where
        split : (b : Bool) → is_present (u.power x) ≡ b → IsWithinBoundsAt (mount_bounds said ticks) base s i p.meta
        split true here =
            let at = (both here).0 in
            let says_u : Says u (other_log x) p = subst (λ (y : ℕ). Says u (other_log y) p) at says in
            based_within s said p.meta base ticks i (based_without slots s h lo down start x said stood base ticks is_base p (said_before (other_log x) p says_u)
            (may_before here p says_u (subst (λ (y : ℕ). MayLose u y) at may)))
        split false gone =
            let is = other_side gone in
            let low = stood.log_disk in
            let back_is : other_log side ≡ x = omega (arith, is, low) in
            absurd (false≢true (sym gone ∙ subst (λ (y : ℕ). IsPresent u y) back_is says.present))
