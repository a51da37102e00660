-- At each moment of a mount what stands is within its bounds.
use Rattle.std.proofs.Common.{◌≡◌, ◌≢◌, ℕ, ◌+◌, ◌-◌, ◌<◌, ◌≤◌, ◌⊎◌, false, List, [], ◌∷◌, ◌++◌, Option, Some, None, refl, sym, ap, ◌∙◌, inl, inr, subst, arith, take, length, length-append}
use Rattle.std.proofs.lemmas.Bool.{cases_lt}
use Rattle.std.proofs.lemmas.List.{append_assoc, append-nil, take-append-le}
use Rattle.paraid_base.specs.History.{History}
use Rattle.paraid_rack.specs.declared.call.Call.{Call}
use Rattle.paraid_rack.specs.declared.call.Call.TheVariants.{Read, Write, Sync, Park, SpinUp, Attach}
use Rattle.paraid_rack.specs.declared.call.Power.{Power}
use Rattle.paraid_rack.specs.Disks.{Disks, IsPresent, is_present}
use Rattle.paraid_rack.specs.Trail.{Trail, disks, extend, moments, now, run}
use Rattle.paraid_rack.specs.Calls.{IsTransfer}
use Rattle.paraid_rack.proofs.TrailsLemmas.{extend-extend}
use Rattle.paraid_record.specs.declared.meta.Meta.{Meta}
use Rattle.paraid_record.specs.declared.meta.Setup.{Setup}
use Rattle.paraid_image.specs.HeldAt.{IsHeld}
use Rattle.paraid_image.specs.Looked.{IsLooked}
use Rattle.paraid_image.specs.Looked.IsLooked.{whole}
use Rattle.paraid_image.specs.Out.{IsMissing, IsWeak, first_absent, named_out, or_else, out_disk}
use Rattle.paraid_image.specs.Rest.{IsAtRest}
use Rattle.paraid_image.specs.RunStart.{IsRunStart}
use Rattle.paraid_image.specs.Sides.{LogState, closed_over}
use Rattle.paraid_image.specs.Spins.{made_spin_ups}
use Rattle.paraid_image.specs.Standing.{Stands}
use Rattle.paraid_image.proofs.AlikeLemmas.{stands_alike}
use Rattle.paraid_image.proofs.OutLemmas.{first_absent_is}
use Rattle.paraid_recover.specs.HeldMoments.{IsAbsentSince, RestsBeside}
use Rattle.paraid_recover.specs.Powers.{IsPowerCall}
use Rattle.paraid_recover.specs.RecoveryMark.{with_mark}
use Rattle.paraid_recover.specs.StandingMetas.{StandsForeseen}
use Rattle.paraid_recover.proofs.TurnsLemmas.{rests_through}
use Rattle.paraid_session.specs.Mount.{IsBase, mount_bounds, start_watch}
use Rattle.paraid_session.specs.Watch.{Bounds, Down, Each, IsAmongDown, IsServing, Watch, nobody, only, several, watch, watch_all}
use Rattle.paraid_session.proofs.LayerLemmas.{each_at}
use Rattle.paraid_recover.specs.HeardSides.{ReadsLogs}
use Rattle.paraid_recover.specs.StartCalls.{IsSpinUpRecorded}
use Rattle.paraid_recover.specs.RecordedSpins.{AreSpinUpsRecorded, HasRecord, OnlyStands, StaysWithin, StaysWithinAt}
use Rattle.paraid_recover.proofs.BaseLemmas.{each_append}
use Rattle.paraid_recover.proofs.CallsLemmas.{each_map}
use Rattle.paraid_recover.proofs.DownLemmas.{absent_weak, each_of, in_absent, in_stays, watched_disks, weak_in}
use Rattle.paraid_recover.proofs.ForeseenLemmas.{foreseen_within, named_down, then_based}
use Rattle.paraid_recover.proofs.LostLemmas.{each_append as calls_append, each_take}
use Rattle.paraid_recover.proofs.BasedLemmas.{next_marked}
use Rattle.paraid_recover.proofs.PartsLemmas.{stopped, stopped_alike, stopped_image}
use Rattle.paraid_recover.proofs.ReadWithinLemmas.{read_within}
use Rattle.paraid_recover.proofs.RestLemmas.{each_resting}
use Rattle.paraid_recover.proofs.StartServedLemmas.{absent_end, beside_end, broken_end, held_end, setup_end, weak_end}
use Rattle.paraid_recover.proofs.SpinsLemmas.{IsOneRecorded, each_recorded, one_recorded, same_used, serving_by}
use Rattle.paraid_recover.proofs.StartStillLemmas.{each_still, still_end}
use Rattle.paraid_recover.proofs.StoryLemmas.{absent_since, at, beside, broken, down_append, held_read, long, now_end, now_read, reads_serve, serving_before, watch_append, weak_read}
use Rattle.paraid_txn.specs.Resume.{IsResumable}
use Rattle.paraid_txn.specs.Uses.{EachCall}

each_first : (P : Watch → Type 0) (A : Watch → Call → Type 0) (w : Watch) (cs ds : List Call) → Each P A w (cs ++ ds) → Each P A w cs
each_first P A w [] [] each = each
each_first P A w [] (d ∷ ds) each = each.0
each_first P A w (c ∷ cs) ds each = (each.0, each.1, each_first P A (watch c w) cs ds each.2)

reads_still : (c : Call) → ReadsLogs c → IsTransfer c
reads_still (Read d p done) is = tt
reads_still (Write d p b done) is = absurd is
reads_still (Sync d done) is = absurd is
reads_still (Park d done) is = absurd is
reads_still (SpinUp d done) is = absurd is
reads_still (Attach d size done) is = absurd is

-- once two disks are down nothing is asked
each_vacuous : (b : Bounds) (w : Watch) (cs : List Call) → (IsServing w.down → ⊥) → Each (StaysWithin b) IsSpinUpRecorded w cs
each_vacuous b w [] not = λ serving. absurd (not serving)
each_vacuous b w (c ∷ cs) not = (
  λ serving. absurd (not serving),
  record { recorded = λ d done is serving. absurd (not serving) },
  each_vacuous b (watch c w) cs (λ serving. not (serving_by w.down c serving)),
)

serves_or_not : (down : Down) → (IsServing down → ⊥) ⊎ IsServing down
serves_or_not nobody = inr tt
serves_or_not (only d) = inr tt
serves_or_not several = inl (λ serving. serving)

-- where what stands is within the bounds, a meta at rest has recorded the spin-ups
pub within_recorded : (b : Bounds) (v : Watch) (m : Meta) → StaysWithin b v → IsServing v.down → IsAtRest v.disks m → m.setup ≡ b.setup
    → (d : ℕ) → d < m.setup.geometry.disks → IsPresent v.disks d → named_out m.out ≢ Some d → v.spun d ≤ made_spin_ups m v.disks.power d
within_recorded b v m within serving rest setup d low here not =
    let forth = stopped_alike v.disks rest.synced in
    let power = (stopped_image v.disks).power d in
    let spins = (within serving rest.disk (stopped v.disks) (closed_over m) (whole (stopped_image v.disks)) (stands_alike v.disks (stopped v.disks) rest.disk (closed_over m) forth rest.log.stands)).recorded d
    (subst (λ (z : Setup). d < z.geometry.disks) setup low) (ap is_present power ∙ here) not in
    let used = same_used m (stopped v.disks).power v.disks.power d power in
    omega (arith, used, spins)

out_covered : (power : ℕ → Power) (m : Meta) (beside : Option ℕ) (v : ℕ) → ((d : ℕ) → d < m.setup.geometry.disks → is_present (power d) ≡ false → beside ≡ Some d) → ((d : ℕ) → named_out m.out ≡ Some d → beside ≡ Some d)
    → out_disk power m ≡ Some v → beside ≡ Some v
out_covered power m beside v absent named is = split (named_out m.out) refl is
  where
    split : (o : Option ℕ) → named_out m.out ≡ o → or_else o (first_absent power m.setup.geometry.disks) ≡ Some v → beside ≡ Some v
    split (Some u) name found = named v (name ∙ found)
    split None name found = let gone = first_absent_is power m.setup.geometry.disks v found in absent v gone.0 gone.1

-- while only the log disks are read
pub reads_within : (slots : ℕ) (s : Disks) (h : History) (lo : ℕ) (down : Option ℕ) → IsRunStart slots s h lo down → (x : ℕ) (said : LogState) → Stands s x said
    → (base : ℕ → ℕ) (ticks : ℕ) → IsBase s x said base ticks → (rs : List Call) → EachCall ReadsLogs s rs → Each (StaysWithin (mount_bounds said ticks)) IsSpinUpRecorded (start_watch s down base) rs
reads_within slots s h lo down start x said stood base ticks is_base rs each =
    each_still (mount_bounds said ticks) base s (start_watch s down base) rs (λ d. refl) (λ d here. refl) (each_map ReadsLogs IsTransfer reads_still s rs each)
    (each_of (StaysWithinAt (mount_bounds said ticks) base s) (start_watch s down base) rs (λ k le serving z i o looked stands.
    read_within slots s h lo down start x said stood base ticks is_base (take k rs) (each_take ReadsLogs s rs k each) serving i z o
    (subst (λ (u : Disks). IsLooked u i) (watched_disks (start_watch s down base) (take k rs)) looked) stands))

module _ (slots : ℕ) (from read settled t : Trail) (rs ls1 ls2 : List Call) (read_is : read ≡ extend from rs) (settled_is : settled ≡ extend read ls1) (t_is : t ≡ extend settled ls2)
    (each : EachCall ReadsLogs (now from) rs)
    (h : History) (lo : ℕ) (down : Option ℕ) (start : IsRunStart slots (now from) h lo down) (x : ℕ) (said : LogState) (stood : Stands (now from) x said)
    (side : ℕ) (then_said : LogState) (then_stands : Stands (now read) side then_said) (base : ℕ → ℕ) (ticks : ℕ) (is_base : IsBase (now from) x said base ticks)
    (foreseen : (h : History) (lo m : ℕ) (was down : Option ℕ) → IsResumable (now read) side then_said → IsHeld slots (now read) h lo was → moments read ≤ m → m ≤ moments t
    → IsAbsentSince then_said.meta.setup.geometry.disks t (moments read) m down → ((v : ℕ) → IsWeak (now read) v → down ≡ Some v)
    → (i : Disks) (z : ℕ) (o : LogState) → IsLooked (disks t m) i → Stands i z o → StandsForeseen (now read) side then_said i o.meta)
    (still : EachCall IsTransfer (now read) ls1) where
  abbrev s : Disks
  s = now from

  abbrev w : Watch
  w = start_watch s down base

  abbrev ls : List Call
  ls = ls1 ++ ls2

  abbrev calls : List Call
  calls = rs ++ ls

  abbrev b : Bounds
  b = mount_bounds said ticks

  t_all : t ≡ extend read ls
  t_all = t_is ∙ ap (λ (u : Trail). extend u ls2) settled_is ∙ extend-extend read ls1 ls2

  read_end : now read ≡ run s rs
  read_end = now_read slots from read t rs ls read_is t_all each h lo down start x said stood side then_said then_stands base

  stands_read : Stands (run s rs) side then_said
  stands_read = subst (λ (u : Disks). Stands u side then_said) read_end then_stands

  single_read : IsResumable (now read) side then_said → (a c : ℕ) → IsMissing (run s rs).power then_said.meta a → IsMissing (run s rs).power then_said.meta c → a ≡ c
  single_read is = subst (λ (v : Disks). (a c : ℕ) → IsMissing v.power then_said.meta a → IsMissing v.power then_said.meta c → a ≡ c) read_end is.log.single

  later_at : (k : ℕ) → k ≤ length ls → StaysWithinAt b base s (watch_all (take (length rs + k) calls) w)
  later_at k le serving z i o looked stands =
      let is_broken = broken slots from read t rs ls read_is t_all each h lo down start x said stood side then_said then_stands base k serving in
      let size = long slots from read t rs ls read_is t_all each h lo down start x said stood side then_said then_stands base in
      let there : IsLooked (disks t (moments read + k)) i = subst (λ (u : Disks). IsLooked u i)
      (watched_disks w (take (length rs + k) calls) ∙ sym (at slots from read t rs ls read_is t_all each h lo down start x said stood side then_said then_stands base k)) looked in
      let one = beside slots from read t rs ls read_is t_all each h lo down start x said stood side then_said then_stands base k serving in
      let is = foreseen h lo (moments read + k) one one is_broken
      (held_read slots from read t rs ls read_is t_all each h lo down start x said stood side then_said then_stands base k serving)
      (omega arith) (omega (arith, size, le))
      (absent_since slots from read t rs ls read_is t_all each h lo down start x said stood side then_said then_stands base k serving)
      (weak_read slots from read t rs ls read_is t_all each h lo down start x said stood side then_said then_stands base k serving)
      i z o there stands in
      foreseen_within slots s h lo down start x said stood base rs each side then_said stands_read
      (reads_serve slots from read t rs ls read_is t_all each h lo down start x said stood side then_said then_stands base k serving)
      ticks is_base (single_read is_broken) i o.meta (subst (λ (u : Disks). StandsForeseen u side then_said i o.meta) read_end is)

  reads_at : (k : ℕ) → StaysWithinAt b base s (watch_all (take k rs) w)
  reads_at k serving z i o looked stands =
      read_within slots s h lo down start x said stood base ticks is_base (take k rs) (each_take ReadsLogs s rs k each) serving i z o
      (subst (λ (u : Disks). IsLooked u i) (watched_disks w (take k rs)) looked) stands

  at_each : (k : ℕ) → k ≤ length calls → StaysWithinAt b base s (watch_all (take k calls) w)
  at_each k le = elim (cases_lt (length rs) k) [
    | inr short ↦ subst (λ (cs : List Call). StaysWithinAt b base s (watch_all cs w)) (sym (take-append-le k rs ls (omega (arith, short)))) (reads_at k)
    | inl more ↦
        let split : length rs + (k - length rs) ≡ k = omega (arith, more) in
        let size = length-append rs ls in
        subst (λ (j : ℕ). StaysWithinAt b base s (watch_all (take j calls) w)) split (later_at (k - length rs) (omega (arith, size, le, more)))
  ]

  -- up to the powers
  pub still_within : Each (StaysWithin b) IsSpinUpRecorded w (rs ++ ls1)
  still_within = each_still b base s w (rs ++ ls1) (λ d. refl) (λ d here. refl)
      (calls_append IsTransfer s rs ls1 (each_map ReadsLogs IsTransfer reads_still s rs each) (subst (λ (u : Disks). EachCall IsTransfer u ls1) read_end still))
      (each_first (StaysWithinAt b base s) (λ (v : Watch) (c : Call). Unit {0}) w (rs ++ ls1) ls2
      (subst (Each (StaysWithinAt b base s) (λ (v : Watch) (c : Call). Unit {0}) w) (sym (append_assoc rs ls1 ls2)) (each_of (StaysWithinAt b base s) w calls at_each)))

  -- so are the spin-ups of each disk
  pub still_recorded : (d : ℕ) → IsOneRecorded then_said.meta d (watch_all (rs ++ ls1) w)
  still_recorded d serving here =
      let reads_serving = serving_before (watch_all rs w) ls1 (subst IsServing (down_append w rs ls1) serving) in
      let is_broken = broken_end slots from read settled rs ls1 read_is settled_is each h lo down start x said stood side then_said then_stands base serving in
      let based = then_based slots s h lo down start x said stood base rs each side then_said stands_read reads_serving ticks is_base (single_read is_broken) in
      let end = still_end w (rs ++ ls1) d (calls_append IsTransfer s rs ls1 (each_map ReadsLogs IsTransfer reads_still s rs each) (subst (λ (u : Disks). EachCall IsTransfer u ls1) read_end still)) in
      let power : (watch_all (rs ++ ls1) w).disks.power d ≡ s.power d = end.1 here in
      let used = same_used then_said.meta (watch_all (rs ++ ls1) w).disks.power s.power d power in
      let least = based.recorded d in
      let count : (watch_all (rs ++ ls1) w).spun d ≡ base d = end.0 in
      omega (arith, used, least, count)

  module _ (mark : Option ℕ)
      (rests : (h : History) (lo : ℕ) (was down : Option ℕ) → IsResumable (now read) side then_said → IsHeld slots (now read) h lo was
      → IsAbsentSince then_said.meta.setup.geometry.disks settled (moments read) (moments settled) down → ((v : ℕ) → IsWeak (now read) v → down ≡ Some v)
      → IsAtRest (now settled) (with_mark then_said.meta mark)
      × IsHeld slots (now settled) (take (with_mark then_said.meta mark).writes h) (with_mark then_said.meta mark).writes (out_disk (now settled).power (with_mark then_said.meta mark)))
      (out : (d : ℕ) → named_out (with_mark then_said.meta mark).out ≡ Some d
      → (named_out then_said.meta.out ≡ Some d) ⊎ ((d < then_said.meta.setup.geometry.disks) × (is_present ((now settled).power d) ≡ false)))
      (powers : EachCall (IsPowerCall (with_mark then_said.meta mark)) (now settled) ls2) where
    abbrev m : Meta
    m = with_mark then_said.meta mark

    abbrev v : Watch
    v = watch_all (rs ++ ls1) w

    disks_now : now settled ≡ v.disks
    disks_now = now_end slots from read settled rs ls1 read_is settled_is each h lo down start x said stood side then_said then_stands base ∙ sym (watched_disks w (rs ++ ls1))

    module _ (serving : IsServing v.down) where
      setup_now : m.setup ≡ said.meta.setup
      setup_now = (next_marked then_said.meta mark).setup ∙ setup_end slots from read settled rs ls1 read_is settled_is each h lo down start x said stood side then_said then_stands base serving

      broken_now : IsResumable (now read) side then_said
      broken_now = broken_end slots from read settled rs ls1 read_is settled_is each h lo down start x said stood side then_said then_stands base serving

      abbrev Rests : Disks → Type 0
      Rests u = IsAtRest u m × IsHeld slots u (take m.writes h) m.writes (out_disk u.power m)

      rest_now : Rests v.disks
      rest_now = subst Rests disks_now (rests h lo
          (beside_end slots from read settled rs ls1 read_is settled_is each h lo down start x said stood side then_said then_stands base serving)
          (beside_end slots from read settled rs ls1 read_is settled_is each h lo down start x said stood side then_said then_stands base serving)
          broken_now
          (held_end slots from read settled rs ls1 read_is settled_is each h lo down start x said stood side then_said then_stands base serving)
          (absent_end slots from read settled rs ls1 read_is settled_is each h lo down start x said stood side then_said then_stands base serving)
          (weak_end slots from read settled rs ls1 read_is settled_is each h lo down start x said stood side then_said then_stands base serving))

      rests_beside : RestsBeside slots m (take m.writes h) m.writes v.disks
      rests_beside other absent named = (
        rest_now.0,
        record {
          whole = rest_now.1.whole;
          lost = rest_now.1.lost;
          weak = λ i d image is. out_covered v.disks.power m other d absent named (rest_now.1.weak i d image is);
        },
      )

      absent_down : (d : ℕ) → d < m.setup.geometry.disks → is_present (v.disks.power d) ≡ false → IsAmongDown v.down d
      absent_down d low off = in_absent w (rs ++ ls1) d
          (λ gone. weak_in slots s h lo down start d (absent_weak slots s h lo down start.synced start.held x said stood d (subst (λ (z : Setup). d < z.geometry.disks) setup_now low) gone))
          (ap (λ (u : Disks). is_present (u.power d)) (sym (watched_disks w (rs ++ ls1))) ∙ off)

      serving_reads : IsServing (watch_all rs w).down
      serving_reads = serving_before (watch_all rs w) ls1 (subst IsServing (down_append w rs ls1) serving)

      named_now : (d : ℕ) → named_out m.out ≡ Some d → IsAmongDown v.down d
      named_now d is = elim (out d is) [
        | inl name ↦ subst (λ (k : Down). IsAmongDown k d) (sym (down_append w rs ls1))
            (in_stays (watch_all rs w) ls1 d (named_down slots s h lo down start x said stood base rs each side then_said stands_read serving_reads d name))
        | inr gone ↦ absent_down d (subst (λ (z : Setup). d < z.geometry.disks) (sym (next_marked then_said.meta mark).setup) gone.0) (ap (λ (u : Disks). is_present (u.power d)) (sym disks_now) ∙ gone.1)
      ]

      recorded_now : AreSpinUpsRecorded m v
      recorded_now sv d low here not =
          let within = each_at (StaysWithin b) IsSpinUpRecorded w (rs ++ ls1) [] (subst (Each (StaysWithin b) IsSpinUpRecorded w) (sym (append-nil (rs ++ ls1))) still_within) in
          within_recorded b v m within sv rest_now.0 setup_now d low here not

      powers_now : EachCall (IsPowerCall m) v.disks ls2
      powers_now = subst (λ (u : Disks). EachCall (IsPowerCall m) u ls2) disks_now powers

      resting : Each (OnlyStands m) (HasRecord m) v ls2
      resting = each_resting slots m (take m.writes h) m.writes v ls2 (named_now, absent_down) (rests_through slots m (take m.writes h) m.writes v.disks ls2 powers_now rests_beside).0 powers_now

      powered_recorded : (d : ℕ) → IsOneRecorded then_said.meta d (watch_all ls2 v)
      powered_recorded d at_end here =
          let next = next_marked then_said.meta mark in
          let was : IsOneRecorded m d v = (λ sv there. let before = still_recorded d sv there in let used = next.used v.disks.power d in omega (arith, before, used)) in
          let last = one_recorded m d v ls2 powers_now resting was at_end here in
          let used = next.used (watch_all ls2 v).disks.power d in
          omega (arith, last, used)

      powers_serving : Each (StaysWithin b) IsSpinUpRecorded v ls2
      powers_serving =
          let based = then_based slots s h lo down start x said stood base rs each side then_said stands_read serving_reads ticks is_base (single_read broken_now) in
          let next = next_marked then_said.meta mark in
          each_recorded m b setup_now
          (let e = next.epoch in let time = based.time in omega (arith, e, time))
          (let k = next.ticks in let most = based.counted in omega (arith, k, most))
          v ls2 powers_now resting recorded_now

    powers_within : Each (StaysWithin b) IsSpinUpRecorded v ls2
    powers_within = elim (serves_or_not v.down) [
      | inl not ↦ each_vacuous b v ls2 not
      | inr serving ↦ powers_serving serving
    ]

    -- What stands is within the bounds at each moment, and each spin-up is recorded.
    pub all_within : Each (StaysWithin b) IsSpinUpRecorded w calls
    all_within = subst (Each (StaysWithin b) IsSpinUpRecorded w) (append_assoc rs ls1 ls2)
        (each_append (StaysWithin b) IsSpinUpRecorded w (rs ++ ls1) ls2 still_within powers_within)

    -- And at the end the spin-ups of each disk are recorded.
    pub all_recorded : (d : ℕ) → IsOneRecorded then_said.meta d (watch_all calls w)
    all_recorded d = subst (IsOneRecorded then_said.meta d) (sym end_is) (λ serving. powered_recorded (serving_before v ls2 serving) d serving)
      where
        end_is : watch_all calls w ≡ watch_all ls2 v
        end_is = ap (λ (cs : List Call). watch_all cs w) (sym (append_assoc rs ls1 ls2)) ∙ watch_append w (rs ++ ls1) ls2
