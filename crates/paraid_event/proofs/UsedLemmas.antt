-- What parts of an event make of the spin-ups that are recorded and were made.
use Rattle.std.proofs.Common.{◌≡◌, ℕ, ◌+◌, ◌<◌, ◌≤◌, Bool, true, false, List, Option, refl, sym, ap, ◌∙◌, subst, arith}
use Rattle.std.specs.Prelude.{slice_index}
use Rattle.paraid_base.specs.History.{History}
use Rattle.paraid_base.specs.declared.state.Phase.{Phase}
use Rattle.paraid_base.specs.declared.state.Phase.TheVariants.{Steady, Down, Up}
use Rattle.paraid_base.specs.States.{gone_out, has_out, phase_beside, rising_to}
use Rattle.paraid_rack.specs.declared.call.Call.{Call}
use Rattle.paraid_rack.specs.declared.call.Power.{Power}
use Rattle.paraid_rack.specs.declared.call.Power.TheVariants.{Spinning}
use Rattle.paraid_rack.specs.Disks.{Disks}
use Rattle.paraid_rack.specs.Trail.{Trail}
use Rattle.paraid_record.specs.declared.meta.Meta.{Meta}
use Rattle.paraid_record.specs.declared.meta.Setup.{Setup}
use Rattle.paraid_image.specs.Spins.{made_spin_ups}
use Rattle.paraid_recover.specs.Powers.{IsPowerCall}
use Rattle.paraid_recover.proofs.DownLemmas.{watched_disks}
use Rattle.paraid_session.specs.Turn.{Point}
use Rattle.paraid_session.specs.Ups.{spin_up_count}
use Rattle.paraid_session.specs.Watch.{Watch, watch_all}
use Rattle.paraid_txn.specs.Uses.{EachCall}
use Rattle.paraid_event.specs.Marks.{IsMarkedBy, ShowsMeta}
use Rattle.paraid_event.specs.Parts.{AreEventCalls, EndsEvent}
use Rattle.paraid_event.specs.Service.{Service}
use Rattle.paraid_event.specs.Stands.{IsMidway, StandsAt}
use Rattle.paraid_event.specs.Steps.{MarksInMemory, made_by}
use Rattle.paraid_event.specs.Ticks.{CountsTick}
use Rattle.paraid_event.proofs.EndLemmas.{end_follows}
use Rattle.paraid_event.proofs.MarksLemmas.{gone_is_named, marked_used, same_spins, still_gone}
use Rattle.paraid_event.proofs.PartLemmas.{part_calls, part_marks}
use Rattle.paraid_event.proofs.UpLemmas.{made_step, none_raised, none_up, raised_used, rest_used, stands_made, used_later, used_least}

module _ (k : Service) (h : History) (lo : ℕ) (base : Meta) (w : Watch) (at : IsMidway k h lo base w) (cs : List Call) (part : AreEventCalls k h lo base w.disks cs) where
  pub part_ups : (d : ℕ) → spin_up_count d cs ≡ 0
  part_ups d = none_up k.meta.setup.geometry.disks (gone_out k.meta.out) w.disks cs d (part_calls k h lo base w at cs part)

  -- one call of a core
  pub part_used : (k_then : Service) (h_then : History) (lo_then : ℕ) (ends : EndsEvent k k_then h_then lo_then w.disks cs) (d : ℕ)
      → spin_up_count d cs + made_by k.meta w.disks.power d ≤ made_by k_then.meta (watch_all cs w).disks.power d
  part_used k_then h_then lo_then ends d =
      let v = (watch_all cs w).disks.power in
      let marks = part_marks k h lo base w at cs part k_then h_then lo_then ends in
      let none = part_ups d in
      let same = marked_used v k.meta k_then.meta marks v d in
      let equal = ap (λ (l : List ℕ). slice_index l d) (same_spins v k.meta k_then.meta marks) in
      let later = used_later k.meta w.disks.power v d (λ here. (end_follows k k_then h h_then lo lo_then base w at.stands cs (part_calls k h lo base w at cs part)).power d here) in
      made_step (spin_up_count d cs) k.meta k_then.meta w.disks.power v d (λ gone. (still_gone v k.meta k_then.meta marks d gone, none)) (omega (arith, equal)) (omega (arith, none, same, later))

rising_same : (b : Bool) (phase : Phase) → rising_to (phase_beside b phase) ≡ rising_to phase
rising_same b Steady = refl
rising_same true (Down to) = refl
rising_same false (Down to) = refl
rising_same b (Up to) = refl

-- disks that are powered, where what stands has recorded each spin-up
pub power_used : (k : Service) (base : Meta) (w : Watch) → ShowsMeta w.disks.power base k.meta → ((d : ℕ) → base.gear ≤ d → d < rising_to base.phase → 1 ≤ slice_index base.spins d) → (cs : List Call) → EachCall (IsPowerCall k.meta) w.disks cs
    → (k_then : Service) → IsMarkedBy (watch_all cs w).disks.power k.meta k_then.meta → (d : ℕ) → spin_up_count d cs + made_by k.meta w.disks.power d ≤ made_by k_then.meta (watch_all cs w).disks.power d
power_used k base w shows has cs each k_then marks d =
    let v = (watch_all cs w).disks.power in
    let same = marked_used v k.meta k_then.meta marks v d in
    let equal = ap (λ (l : List ℕ). slice_index l d) (same_spins v k.meta k_then.meta marks) in
    let more = subst (λ (s : Disks). spin_up_count d cs + made_spin_ups k.meta w.disks.power d ≤ made_spin_ups k.meta s.power d) (sym (watched_disks w cs)) (raised_used k.meta has_now w.disks cs d each) in
    made_step (spin_up_count d cs) k.meta k_then.meta w.disks.power v d
    (λ gone. (still_gone v k.meta k_then.meta marks d gone, none_raised k.meta w.disks cs d (gone_is_named k.meta.out d gone) each)) (omega (arith, equal)) (omega (arith, same, more))
  where
    has_now : (e : ℕ) → k.meta.gear ≤ e → e < rising_to k.meta.phase → 1 ≤ slice_index k.meta.spins e
    has_now e from low =
        let g = shows.gear in
        let r : rising_to k.meta.phase ≡ rising_to base.phase = ap rising_to (sym shows.phase) ∙ rising_same (has_out k.meta.out) base.phase in
        let l = ap (λ (x : List ℕ). slice_index x e) shows.spins in
        let one = has e (omega (arith, g, from)) (omega (arith, r, low)) in
        omega (arith, l, one)

-- a mark in memory
pub mark_used : (k j : Service) → MarksInMemory k j → (power : ℕ → Power) (d : ℕ) → d < k.meta.setup.geometry.disks → made_by k.meta power d ≤ made_by j.meta power d
mark_used k j mark power d low =
    let a = rest_used k.meta (λ (e : ℕ). Spinning) d (λ rising. refl) in
    let b = mark.used (λ (e : ℕ). Spinning) d low in
    let c = used_least j.meta (λ (e : ℕ). Spinning) d in
    let l = mark.used power d low in
    let all = made_step 0 k.meta j.meta power power d (λ gone. (mark.gone ∙ gone, refl)) (omega (arith, a, b, c)) (omega (arith, l)) in
    omega (arith, all)

-- a tick that is counted
pub counted_made : (told : Option Trail) (k k1 : Service) (setup : Setup) (p : Point) → StandsAt told k setup p → CountsTick k k1 → (d : ℕ) → d < setup.geometry.disks → slice_index p.state.spins d ≤ made_by k1.meta p.disks.power d
counted_made told k k1 setup p at counts d low = subst (λ (z : Service). slice_index p.state.spins d ≤ made_by z.meta p.disks.power d) (sym counts.is) (stands_made told k setup p at d low)
