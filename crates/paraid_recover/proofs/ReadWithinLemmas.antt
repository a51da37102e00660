-- While the log disks are read, what stands is within the bounds of a mount.
use Rattle.std.proofs.Common.{◌≡◌, ◌≢◌, ℕ, ◌≤◌, Bool, true, false, List, Option, Some, None, refl, sym, ap, ◌∙◌, inl, inr, subst, arith, take, length, zero, suc, ◌<◌}
use Rattle.std.specs.Prelude.{◌==◌, ◌&&◌, ◌||◌, nat_lt, not}
use Rattle.std.proofs.lemmas.Bool.{cases_eq, false≢true}
use Rattle.std.proofs.lemmas.Bool.Decides.{nat_tests}
use Rattle.std.proofs.lemmas.List.{take_all}
use Rattle.paraid_base.specs.History.{History}
use Rattle.paraid_rack.specs.declared.call.Call.{Call}
use Rattle.paraid_rack.specs.declared.call.Power.TheVariants.{Absent}
use Rattle.paraid_rack.specs.Disks.{Disks, IsPresent, is_present}
use Rattle.paraid_rack.specs.Trail.{run}
use Rattle.paraid_rack.proofs.AtomsLemmas.{with_at_other, with_at_same}
use Rattle.paraid_record.specs.declared.meta.Meta.{Meta}
use Rattle.paraid_image.specs.HeldAt.{IsHeld, MayLose}
use Rattle.paraid_image.specs.Looked.{IsLooked}
use Rattle.paraid_image.specs.Looked.IsLooked.{lost, whole}
use Rattle.paraid_image.specs.Out.{out_disk}
use Rattle.paraid_image.specs.Out.IsWeak.{out}
use Rattle.paraid_image.specs.Rest.{AreSynced}
use Rattle.paraid_image.specs.RunStart.{IsRunStart}
use Rattle.paraid_image.specs.Sides.{LogState, Says}
use Rattle.paraid_image.specs.Sound.{LogOk}
use Rattle.paraid_image.specs.Spins.{made_spin_ups}
use Rattle.paraid_image.specs.Standing.{Stands, other_log, stands_before}
use Rattle.paraid_image.proofs.AlikeLemmas.{weak_alike}
use Rattle.paraid_image.proofs.NeutralLemmas.{says_back, says_forth}
use Rattle.paraid_image.proofs.OutLemmas.{out_present}
use Rattle.paraid_image.proofs.StandingLemmas.{Stands-same}
use Rattle.paraid_rack.proofs.AlikeLemmas.{IsAlike-sym}
use Rattle.paraid_recover.specs.MountCalls.{IsMountCall}
use Rattle.paraid_recover.proofs.MountCallsLemmas.{reads_mount}
use Rattle.paraid_session.specs.Mount.{IsBase, mount_bounds, start_watch}
use Rattle.paraid_session.specs.Watch.{IsAmongDown, IsServing, Watch, watch_all}
use Rattle.paraid_session.proofs.RunStartLemmas.{synced_alike}
use Rattle.paraid_recover.specs.HeardSides.{ReadsLogs}
use Rattle.paraid_recover.specs.RecordedSpins.{IsWithinBoundsAt}
use Rattle.paraid_recover.proofs.CallsLemmas.{each_map}
use Rattle.paraid_recover.proofs.DownLemmas.{absent_weak, in_absent, in_later, in_stays, stood_log, weak_in}
use Rattle.paraid_recover.proofs.MayLoseLemmas.{may_lose_start}
use Rattle.paraid_recover.proofs.BasedLemmas.{base_stood, base_without}
use Rattle.paraid_recover.proofs.StartReadsLemmas.{reads_held, reads_synced}
use Rattle.paraid_recover.proofs.RestLemmas.{beside_of}
use Rattle.paraid_recover.proofs.SetupLemmas.{IsKept, kept_by_reads, log_kept, paired_setup}
use Rattle.paraid_txn.specs.Uses.{EachCall}

-- Meta `m` has the setup of what stood, is not newer, and has recorded the spin-ups of the base.
pub record IsBased (s : Disks) (said m : Meta) (base : ℕ → ℕ) (ticks : ℕ) : Type 0 where
  pub setup : m.setup ≡ said.setup
  pub time : m.epoch ≤ said.epoch
  pub counted : m.ticks ≤ ticks
  pub recorded : (d : ℕ) → base d ≤ made_spin_ups m s.power d

pub based_within : (s : Disks) (said : LogState) (m : Meta) (base : ℕ → ℕ) (ticks : ℕ) (i : Disks) → IsBased s said.meta m base ticks → IsWithinBoundsAt (mount_bounds said ticks) base s i m
based_within s said m base ticks i is = record {
  same_setup = is.setup;
  in_time = (let time = is.time in omega (arith, time));
  counted_ticks = is.counted;
  recorded = λ d low here not. is.recorded d;
}

first_by : (a b : ℕ) (g : Bool) → (nat_lt b a || (a == b && g)) ≡ true → b ≤ a
first_by a b g is = grind (arith, nat_tests)

second_by : (a b : ℕ) (g : Bool) → not (nat_lt b a || (a == b && g)) ≡ true → a ≤ b
second_by a b g is = grind (arith, nat_tests)

-- what stands is not older
pub not_older : (x : ℕ) (mine other : LogState) → stands_before x mine other ≡ true → other.meta.epoch ≤ mine.meta.epoch
not_older zero mine other is = first_by mine.meta.epoch other.meta.epoch _ is
not_older (suc x) mine other is = second_by other.meta.epoch mine.meta.epoch _ is

-- a disk of an image that is looked at is as it was
pub looked_kept : (u i : Disks) (y : ℕ) → AreSynced u → IsLooked u i → IsPresent i y → IsKept u i y
looked_kept u i y synced (whole image) here = record {
  power = image.power y;
  size = image.size y;
  block = λ p. image.block y p (synced y p (ap is_present (sym (image.power y)) ∙ here));
}
looked_kept u i y synced (lost j d image may same) here =
    subst (λ (k : Disks). IsPresent k y → IsKept u k y) same
    (λ there. elim (cases_eq y d) [
      | inl is ↦ absurd (false≢true (sym (ap is_present (with_at_same j.power d Absent y is)) ∙ there))
      | inr apart ↦
          let power = with_at_other j.power d Absent y apart in
          record {
            power = power ∙ image.power y;
            size = with_at_other j.size d 0 y apart ∙ image.size y;
            block = λ p. image.block y p (synced y p (ap is_present (sym (power ∙ image.power y)) ∙ there));
          }
    ]) here

pub kept_then : (s u i : Disks) (y : ℕ) → IsKept s u y → IsKept u i y → IsKept s i y
kept_then s u i y a b = record { power = b.power ∙ a.power; size = b.size ∙ a.size; block = λ p. b.block p ∙ a.block p }

module _ (slots : ℕ) (s : Disks) (h : History) (lo : ℕ) (down : Option ℕ) (start : IsRunStart slots s h lo down) (x : ℕ) (said : LogState) (stood : Stands s x said)
    (base : ℕ → ℕ) (ticks : ℕ) (is_base : IsBase s x said base ticks) where
  abbrev w : Watch
  w = start_watch s down base

  log : LogOk s x said said.meta.writes
  log = stood_log slots s h lo down start.synced start.held x said stood

  pub based_stood : IsBased s said.meta said.meta base ticks
  based_stood = let b = base_stood s x said base ticks is_base in record { setup = refl; time = omega arith; counted = b.1; recorded = b.0 }

  -- what the other log disk says, where the one that stood may be lost
  pub based_without : (o : LogState) → Says s (other_log x) o → MayLose s x → IsBased s said.meta o.meta base ticks
  based_without o says may =
      let b = base_without s x said stood base ticks o is_base may says in
      let low = stood.log_disk in
      record {
        setup = both;
        time = not_older x said o (stood.first o says);
        counted = b.1;
        recorded = b.0;
      }
    where
      not_x : out_disk s.power said.meta ≢ Some x
      not_x = out_present s.power said.meta x stood.says.present log.standing_in

      not_other : out_disk s.power said.meta ≢ Some (other_log x)
      not_other named = let same = may.weak (other_log x) (out x said stood named) in let l = stood.log_disk in omega (arith, same, l)

      both : o.meta.setup ≡ said.meta.setup
      both = elim (cases_eq x 0) [
        | inl zero_is ↦
            let one_is : other_log x ≡ 1 = omega (arith, zero_is) in
            sym (paired_setup said o (log.paired said o (subst (λ (y : ℕ). Says s y said) zero_is stood.says) (subst (λ (y : ℕ). Says s y o) one_is says)
            (subst (λ (y : ℕ). out_disk s.power said.meta ≢ Some y) zero_is not_x) (subst (λ (y : ℕ). out_disk s.power said.meta ≢ Some y) one_is not_other)))
        | inr later ↦
            let high = stood.log_disk in
            let one_is : x ≡ 1 = omega (arith, high, later) in
            let zero_is : other_log x ≡ 0 = omega (arith, one_is) in
            paired_setup o said (log.paired o said (subst (λ (y : ℕ). Says s y o) zero_is says) (subst (λ (y : ℕ). Says s y said) one_is stood.says)
            (subst (λ (y : ℕ). out_disk s.power said.meta ≢ Some y) zero_is not_other) (subst (λ (y : ℕ). out_disk s.power said.meta ≢ Some y) one_is not_x))
      ]

  module _ (rs : List Call) (each : EachCall ReadsLogs s rs) where
    abbrev u : Disks
    u = run s rs

    u_synced : AreSynced u
    u_synced = reads_synced s rs each start.synced

    kept : (i : Disks) (y : ℕ) → IsLooked u i → IsPresent i y → IsKept s i y
    kept i y looked here =
        let k = looked_kept u i y u_synced looked here in
        kept_then s u i y (kept_by_reads s rs y each (ap is_present (sym k.power) ∙ here)) k

    back : (i : Disks) (y : ℕ) (o : LogState) → IsLooked u i → Says i y o → Says s y o
    back i y o looked says = says_back s i y o (log_kept s i y (kept i y looked says.present)) says

    -- where the log disk that stood is there, it stands
    still : (i : Disks) (z : ℕ) (o : LogState) → IsLooked u i → IsPresent i x → Stands i z o → o ≡ said
    still i z o looked here stands =
        let says = says_forth s i x said (log_kept s i x (kept i x looked here)) stood.says in
        let at : Stands i x said = record { log_disk = stood.log_disk; says = says; first = λ other q. stood.first other (back i (other_log x) other looked q) } in
        (Stands-same i z x o said stands at).1

    module _ (serving : IsServing (watch_all rs w).down) where
      abbrev n : ℕ
      n = said.meta.setup.geometry.disks

      calls : EachCall (IsMountCall n None) s rs
      calls = let many = said.meta.setup.geometry.disks_low in each_map ReadsLogs (IsMountCall n None) (λ c is. reads_mount n None c (omega arith) is) s rs each

      pub beside : (o : Option ℕ) × ((d : ℕ) → IsAmongDown (watch_all rs w).down d → o ≡ Some d)
      beside = beside_of (watch_all rs w).down serving

      -- what was held is held after the reads
      pub held : IsHeld slots u h lo beside.0
      held = subst (λ (v : Disks). IsHeld slots v h lo beside.0) (ap (run s) (take_all (length rs) rs (omega arith)))
          (reads_held slots h lo beside.0 s rs (length rs) each
          (λ j d le low off. let many = said.meta.setup.geometry.disks_low in beside.1 d (absent_in j d le (omega arith) off))
          (record {
            whole = start.held.whole;
            lost = start.held.lost;
            weak = λ i v image is. beside.1 v (in_stays w rs v (weak_in slots s h lo down start v (weak_alike i s v (IsAlike-sym s i (synced_alike s i start.synced image)) is)));
          }))
        where
          absent_in : (j d : ℕ) → j ≤ length rs → d < n → is_present ((run s (take j rs)).power d) ≡ false → IsAmongDown (watch_all rs w).down d
          absent_in j d le low off = subst (λ (cs : List Call). IsAmongDown (watch_all cs w).down d) (take_all (length rs) rs (omega arith))
              (in_later w rs j (length rs) d le (in_absent w (take j rs) d (λ gone. weak_in slots s h lo down start d (absent_weak slots s h lo down start.synced start.held x said stood d low gone)) off))

      -- What stands in an image that is looked at after the reads is within the bounds.
      pub read_within : (i : Disks) (z : ℕ) (o : LogState) → IsLooked u i → Stands i z o → IsWithinBoundsAt (mount_bounds said ticks) base s i o.meta
      read_within i z o looked stands = split (is_present (i.power x)) refl
        where
          split : (b : Bool) → is_present (i.power x) ≡ b → IsWithinBoundsAt (mount_bounds said ticks) base s i o.meta
          split true here = subst (λ (k : LogState). IsWithinBoundsAt (mount_bounds said ticks) base s i k.meta) (sym (still i z o looked here stands)) (based_within s said said.meta base ticks i based_stood)
          split false off =
              let apart : z ≢ x = λ is. false≢true (sym (subst (λ (y : ℕ). is_present (i.power y) ≡ false) (sym is) off) ∙ stands.says.present) in
              let low = stands.log_disk in
              let high = stood.log_disk in
              let other_is : z ≡ other_log x = omega (arith, low, high, apart) in
              let says : Says s (other_log x) o = subst (λ (y : ℕ). Says s y o) other_is (back i z o looked stands.says) in
              let may = may_lose_start slots n None h lo x said w stood (weak_in slots s h lo down start) rs calls serving beside.0 held
              (λ j image here y k at. ap (λ (p : LogState). p.meta) (still j y k (whole image) here at)) i z o o looked off stands says refl in
              based_within s said o.meta base ticks i (based_without o says may)
