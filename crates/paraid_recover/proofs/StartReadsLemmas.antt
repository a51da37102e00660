-- What is held from the entry of a mount on, where after the reads of the log disks it is held.
use Rattle.std.proofs.Common.{◌≡◌, ℕ, ◌+◌, ◌-◌, ◌<◌, ◌≤◌, Bool, true, false, List, [], ◌∷◌, ◌++◌, Option, Some, refl, sym, ap, ◌∙◌, inl, inr, subst, arith, zero, suc, take, length, length-append}
use Rattle.std.proofs.lemmas.Bool.{cases_lt, false≢true}
use Rattle.std.proofs.lemmas.List.{take-append-le, take_all}
use Rattle.paraid_base.specs.History.{History}
use Rattle.paraid_rack.specs.declared.call.Call.{Call}
use Rattle.paraid_rack.specs.declared.call.Call.TheVariants.{Read, Write, Sync, Park, SpinUp, Attach}
use Rattle.paraid_rack.specs.declared.call.Power.{Power}
use Rattle.paraid_rack.specs.declared.call.Power.TheVariants.{Spinning, Absent}
use Rattle.paraid_rack.specs.Disks.{Disks, IsPresent, is_present, power_after, step}
use Rattle.paraid_rack.specs.Trail.{Trail, disks, extend, initial, moments, now, run}
use Rattle.paraid_rack.proofs.AtomsLemmas.{at_case, with_at_same}
use Rattle.paraid_rack.proofs.AlikeLemmas.{IsAlike-sym}
use Rattle.paraid_rack.proofs.TrailsLemmas.{now-extend}
use Rattle.paraid_image.specs.HeldAt.{IsHeld}
use Rattle.paraid_image.specs.Out.{IsWeak}
use Rattle.paraid_image.specs.Rest.{AreSynced}
use Rattle.paraid_image.specs.RunStart.{IsRunStart}
use Rattle.paraid_image.specs.Sides.{LogState}
use Rattle.paraid_image.specs.Standing.{Stands}
use Rattle.paraid_image.proofs.AlikeLemmas.{weak_alike}
use Rattle.paraid_image.proofs.CallLemmas.{IsHeld-fewer, read_images}
use Rattle.paraid_image.proofs.FailedCallLemmas.{IsHeld-lost, failed_is_loss}
use Rattle.paraid_recover.specs.HeldMoments.{IsAbsentSince}
use Rattle.paraid_session.proofs.RunStartLemmas.{synced_alike}
use Rattle.paraid_recover.specs.HeardSides.{ReadsLogs}
use Rattle.paraid_recover.specs.StartHeld.{HoldsAfter, IsAbsentUpTo}
use Rattle.paraid_recover.proofs.DownLemmas.{stood_log, weak_down}
use Rattle.paraid_txn.specs.Resume.{IsResumable}
use Rattle.paraid_txn.specs.Uses.{EachCall}

spins_present : (p : Power) → p ≡ Spinning → is_present p ≡ true
spins_present p is = rw is refl

lost_now : (s : Disks) (d p : ℕ) → is_present ((step (Read d p false) s).power d) ≡ false
unfolding step
lost_now s d p = ap is_present (with_at_same s.power d Absent d refl)

same_loose : (s : Disks) (d p x q : ℕ) (done : Bool) → (step (Read d p done) s).loose x q ≡ s.loose x q
unfolding step
same_loose s d p x q done = refl

there_by : (done : Bool) (p : Power) → is_present (power_after done p) ≡ true → is_present p ≡ true
there_by true p is = is
there_by false p is = absurd (false≢true is)

there_before : (s : Disks) (d p x : ℕ) (done : Bool) → IsPresent (step (Read d p done) s) x → IsPresent s x
unfolding step
there_before s d p x done is = at_case (λ (q : Power). is_present q ≡ true → is_present (s.power x) ≡ true) s.power d (power_after done (s.power d)) x
    (λ same t. subst (λ (y : ℕ). is_present (s.power y) ≡ true) (sym same) (there_by done (s.power d) t)) (λ other t. t) is

-- nothing becomes loose by reads
pub reads_synced : (s : Disks) (cs : List Call) → EachCall ReadsLogs s cs → AreSynced s → AreSynced (run s cs)
reads_synced s [] each synced = synced
reads_synced s (Read d p done ∷ cs) each synced = reads_synced (step (Read d p done) s) cs each.2 (λ x q here. same_loose s d p x q done ∙ synced x q (there_before s d p x done here))
reads_synced s (Write d p b done ∷ cs) each synced = absurd each.1
reads_synced s (Sync d done ∷ cs) each synced = absurd each.1
reads_synced s (Park d done ∷ cs) each synced = absurd each.1
reads_synced s (SpinUp d done ∷ cs) each synced = absurd each.1
reads_synced s (Attach d size done ∷ cs) each synced = absurd each.1

module _ (slots : ℕ) (h : History) (lo : ℕ) (down : Option ℕ) where
  one_read : (s : Disks) (d p : ℕ) (done : Bool) → d < 3 → s.power d ≡ Spinning → (is_present ((step (Read d p done) s).power d) ≡ false → down ≡ Some d) → IsHeld slots s h lo down → IsHeld slots (step (Read d p done) s) h lo down
  one_read s d p true low spins absent held = IsHeld-fewer slots s (step (Read d p true) s) h lo down (read_images s d p) held
  one_read s d p false low spins absent held =
      let at = absent (lost_now s d p) in
      subst (λ (o : Option ℕ). IsHeld slots (step (Read d p false) s) h lo o) (sym at)
      (IsHeld-lost slots s (step (Read d p false) s) h lo down d (failed_is_loss s (Read d p false) refl) (spins_present (s.power d) spins)
      (λ i x said image log says. let n = said.meta.setup.geometry.disks_low in omega arith)
      (λ i w image weak. let z : Some w ≡ Some d = sym (held.weak i w image weak) ∙ at in cc) held)

  step_held : (s : Disks) (c : Call) → EachCall ReadsLogs s (c ∷ []) → ((d : ℕ) → d < 3 → is_present ((step c s).power d) ≡ false → down ≡ Some d) → IsHeld slots s h lo down → IsHeld slots (step c s) h lo down
  step_held s (Read d p done) each absent held = one_read s d p done each.1.0 each.0 (absent d each.1.0) held
  step_held s (Write d p b done) each absent held = absurd each.1
  step_held s (Sync d done) each absent held = absurd each.1
  step_held s (Park d done) each absent held = absurd each.1
  step_held s (SpinUp d done) each absent held = absurd each.1
  step_held s (Attach d size done) each absent held = absurd each.1

  -- what is held is held in reads of the log disks
  pub reads_held : (s : Disks) (cs : List Call) (k : ℕ) → EachCall ReadsLogs s cs → IsAbsentUpTo 3 s cs k down → IsHeld slots s h lo down → IsHeld slots (run s (take k cs)) h lo down
  reads_held s cs zero each absent held = held
  reads_held s [] (suc k) each absent held = held
  reads_held s (c ∷ cs) (suc k) each absent held =
      reads_held (step c s) cs k each.2 (λ j d le low off. absent (suc j) d (omega arith) low off)
      (step_held s c (each.0, each.1, tt) (λ d low off. absent 1 d (omega arith) low off) held)

pub take_past : {A : Type 0} (xs ys : List A) (n : ℕ) → take (length xs + n) (xs ++ ys) ≡ xs ++ take n ys
take_past [] ys n = ap (λ (k : ℕ). take k ys) (omega arith)
take_past (x ∷ xs) ys n = let e : length (x ∷ xs) + n ≡ suc (length xs + n) = omega arith in ap (λ (k : ℕ). take k (x ∷ xs ++ ys)) e ∙ ap (λ l. x ∷ l) (take_past xs ys n)

pub run_append : (s : Disks) (cs ds : List Call) → run s (cs ++ ds) ≡ run (run s cs) ds
run_append s [] ds = refl
run_append s (c ∷ cs) ds = run_append (step c s) cs ds

-- the disks at a moment after the record was this one
pub disks_from : (from : Trail) (cs : List Call) (k : ℕ) → disks (extend from cs) (moments from + k) ≡ run (now from) (take k cs)
disks_from from cs k = ap (run (initial from.start)) (take_past from.calls cs k) ∙ run_append (initial from.start) from.calls (take k cs)

-- From the record `from` on the log disks were read, and from `read` on there are further calls.
module _ (slots n side : ℕ) (said : LogState) (from read t : Trail) (rs ls : List Call) (read_is : read ≡ extend from rs) (t_is : t ≡ extend read ls)
    (each : EachCall ReadsLogs (now from) rs) (stands : Stands (now read) side said)
    (recovers : (h : History) (lo m : ℕ) (was down : Option ℕ) → IsResumable (now read) side said → IsHeld slots (now read) h lo was → moments read ≤ m → m ≤ moments t
    → IsAbsentSince said.meta.setup.geometry.disks t (moments read) m down → ((w : ℕ) → IsWeak (now read) w → down ≡ Some w) → IsHeld slots (disks t m) h lo down) where
  abbrev s : Disks
  s = now from

  now_read : now read ≡ run s rs
  now_read = ap now read_is ∙ now-extend from rs

  -- the disks `i` calls after the reads
  at : (i : ℕ) → disks t (moments read + i) ≡ run s (take (length rs + i) (rs ++ ls))
  at i = ap (λ (u : Trail). disks u (moments read + i)) t_is ∙ disks_from read ls i ∙ ap (λ (u : Disks). run u (take i ls)) now_read
      ∙ sym (run_append s rs (take i ls)) ∙ sym (ap (run s) (take_past rs ls i))

  in_reads : (k : ℕ) → k ≤ length rs → run s (take k (rs ++ ls)) ≡ run s (take k rs)
  in_reads k le = ap (run s) (take-append-le k rs ls le)

  module _ (h : History) (lo : ℕ) (d0 : Option ℕ) (start : IsRunStart slots s h lo d0) where
    start_beside : (down : Option ℕ) → ((w : ℕ) → IsWeak s w → down ≡ Some w) → IsHeld slots s h lo down
    start_beside down weak = record {
      whole = start.held.whole;
      lost = start.held.lost;
      weak = λ i w image is. weak w (weak_alike i s w (IsAlike-sym s i (synced_alike s i start.synced image)) is);
    }

    held_in_reads : (k : ℕ) (down : Option ℕ) → 3 ≤ n → k ≤ length rs → IsAbsentUpTo n s (rs ++ ls) k down → ((w : ℕ) → IsWeak s w → down ≡ Some w) → IsHeld slots (run s (take k rs)) h lo down
    held_in_reads k down two le absent weak = reads_held slots h lo down s rs k each
        (λ j d j_le low off. absent j d j_le (omega arith) (ap (λ (u : Disks). is_present (u.power d)) (in_reads j (omega arith)) ∙ off)) (start_beside down weak)

    pub reads_after : (k : ℕ) → 3 ≤ n → k ≤ length rs → HoldsAfter slots n s h lo (rs ++ ls) k
    reads_after k two le = record { held = λ down absent weak. subst (λ (u : Disks). IsHeld slots u h lo down) (sym (in_reads k le)) (held_in_reads k down two le absent weak) }

    later_held : (i : ℕ) (down : Option ℕ) → n ≡ said.meta.setup.geometry.disks → length rs + i ≤ length (rs ++ ls) → IsAbsentUpTo n s (rs ++ ls) (length rs + i) down → ((w : ℕ) → IsWeak s w → down ≡ Some w)
        → IsHeld slots (run s (take (length rs + i) (rs ++ ls))) h lo down
    later_held i down same le absent weak =
        let many = said.meta.setup.geometry.disks_low in
        let all : run s (take (length rs) rs) ≡ now read = ap (run s) (take_all (length rs) rs (omega arith)) ∙ sym now_read in
        let held : IsHeld slots (now read) h lo down = subst (λ (u : Disks). IsHeld slots u h lo down) all
        (held_in_reads (length rs) down (omega (arith, same, many)) (omega arith) (λ j d j_le low off. absent j d (omega arith) low off) weak) in
        let synced : AreSynced (now read) = subst AreSynced (sym now_read) (reads_synced s rs each start.synced) in
        let broken : IsResumable (now read) side said = record { synced = synced; log = stood_log slots (now read) h lo down synced held side said stands } in
        let long : moments t ≡ moments read + length ls = ap moments t_is ∙ length-append read.calls ls in
        let split = length-append rs ls in
        subst (λ (u : Disks). IsHeld slots u h lo down) (at i)
        (recovers h lo (moments read + i) down down broken held (omega arith) (omega (arith, long, split, le))
        (λ j d j_from j_to low off.
        let back : moments read + (j - moments read) ≡ j = omega (arith, j_from) in
        absent (length rs + (j - moments read)) d (omega (arith, j_to, j_from)) (subst (λ (x : ℕ). d < x) (sym same) low)
        (ap (λ (u : Disks). is_present (u.power d)) (sym (at (j - moments read)) ∙ ap (disks t) back) ∙ off))
        (weak_down slots (now read) h lo down synced held))

    -- At each moment from the entry on what was held is held.
    pub holds_after : (k : ℕ) → 3 ≤ n → k ≤ length (rs ++ ls) → (length rs < k → n ≡ said.meta.setup.geometry.disks) → HoldsAfter slots n s h lo (rs ++ ls) k
    holds_after k two le same = elim (cases_lt (length rs) k) [
      | inr short ↦ reads_after k two (omega (arith, short))
      | inl long ↦
          let split : length rs + (k - length rs) ≡ k = omega (arith, long) in
          subst (HoldsAfter slots n s h lo (rs ++ ls)) split
          (record { held = λ down absent weak. later_held (k - length rs) down (same long) (omega (arith, split, le)) absent weak })
    ]
