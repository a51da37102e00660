-- The end of a mount that is served.
use Rattle.std.proofs.Common.{◌≡◌, ℕ, ◌+◌, ◌-◌, ◌<◌, ◌≤◌, Bool, true, false, List, ◌++◌, Option, Some, None, refl, sym, ap, ◌∙◌, inl, inr, subst, arith, if◌then◌else◌, take, length, length-append}
use Rattle.std.specs.Prelude.{◌==◌}
use Rattle.std.proofs.lemmas.Bool.{cases_eq, false≢true}
use Rattle.std.proofs.lemmas.List.{take_all}
use Rattle.paraid_base.specs.declared.state.Out.{Out}
use Rattle.paraid_base.specs.declared.state.Out.TheVariants.{No, Gone, Fresh}
use Rattle.paraid_base.specs.History.{History}
use Rattle.paraid_rack.specs.declared.call.Call.{Call}
use Rattle.paraid_rack.specs.declared.call.Power.TheVariants.{Absent}
use Rattle.paraid_rack.specs.Disks.{Disks, is_present, lose}
use Rattle.paraid_rack.specs.Slots.{Agrees, Slot}
use Rattle.paraid_rack.specs.Trail.{Trail, disks, extend, moments, now, run}
use Rattle.paraid_rack.proofs.AtomsLemmas.{with_at_other}
use Rattle.paraid_record.specs.declared.meta.Meta.{Meta}
use Rattle.paraid_record.specs.declared.meta.Setup.{Setup}
use Rattle.paraid_record.specs.Range.{IsInRange}
use Rattle.paraid_image.specs.HeldAt.{IsHeld}
use Rattle.paraid_image.specs.Out.{IsMissing, IsWeak, first_absent, named_out, or_else, out_disk}
use Rattle.paraid_image.specs.Power.{gone_of, initial_state, out_after, out_state}
use Rattle.paraid_image.specs.Rest.{IsAtRest}
use Rattle.paraid_image.specs.RunStart.{IsRunStart}
use Rattle.paraid_image.specs.Sides.{LogState, closed_over, is_open}
use Rattle.paraid_image.specs.Standing.{Stands}
use Rattle.paraid_image.proofs.OutLemmas.{missing_is_out, named_below}
use Rattle.paraid_rack.specs.Atoms.{IsSure}
use Rattle.paraid_recover.specs.Bearing.{IsNamedLog}
use Rattle.paraid_recover.specs.HeldMoments.{IsAbsentSince}
use Rattle.paraid_recover.specs.MountCalls.{IsMountCall}
use Rattle.paraid_recover.specs.Mounted.{IsServable, with_loss}
use Rattle.paraid_recover.specs.RecoveryMark.{renewed_by, to_mark, with_mark}
use Rattle.paraid_session.specs.Mount.{BeginsSession, start_watch}
use Rattle.paraid_session.specs.Watch.{IsServing, Watch, fails_on, first_lost, watch_all}
use Rattle.paraid_session.proofs.LayerLemmas.{absent_failed, first_fails, only_lost}
use Rattle.paraid_recover.specs.HeardSides.{AmongOne, ReadsLogs}
use Rattle.paraid_recover.specs.StartParts.{EndsServed}
use Rattle.paraid_recover.proofs.BeginsLemmas.{begins_losing, begins_quietly, begins_without, presence_kept, presence_lost, stays_absent}
use Rattle.paraid_recover.proofs.DownLemmas.{several_in}
use Rattle.paraid_recover.proofs.LostLemmas.{each_rest, each_take, fails_absent, fails_in, fails_low, fails_more, fails_take, mark_by, none_take}
use Rattle.paraid_recover.proofs.ReadDirtyLemmas.{read_dirty}
use Rattle.paraid_recover.proofs.StartReadsLemmas.{run_append, take_past}
use Rattle.paraid_recover.proofs.SetupLemmas.{still_stands}
use Rattle.paraid_recover.proofs.StoryLemmas.{absent_since, at, beside, broken, held_read, long, now_end, now_read, same_setup, weak_read}
use Rattle.paraid_txn.specs.Resume.{IsResumable}
use Rattle.paraid_txn.specs.Uses.{EachCall}

renewed_setup : (m : Meta) (b : Bool) → (renewed_by b m).setup ≡ m.setup
renewed_setup m true = refl
renewed_setup m false = refl

-- the mark keeps the setup
pub mark_setup : (m : Meta) (mark : Option ℕ) → (with_mark m mark).setup ≡ m.setup
mark_setup m None = renewed_setup m (m.version == 1)
mark_setup m (Some d) = refl

fresh_gone : (e u d : ℕ) (there : Bool) → there ≡ false → e ≡ d → (if there then Fresh e u else Gone e) ≡ Gone d
fresh_gone e u d true off is = absurd (false≢true (sym off))
fresh_gone e u d false off is = ap Gone is

-- at rest the one disk that is missing is gone
pub gone_at_rest : (t : Disks) (m : Meta) (d : ℕ) → IsAtRest t m → d < m.setup.geometry.disks → is_present (t.power d) ≡ false → out_state t.power m ≡ Gone d
gone_at_rest t m d rest low off = split m.out refl
  where
    range : IsInRange m
    range = rest.log.stands.says.log.meta.in_range

    same : (e : ℕ) → named_out m.out ≡ Some e → e ≡ d
    same e name = rest.log.single e d (record { disk = named_below m.setup.geometry m.gear m.out e range.out name; is = inr name }) (record { disk = low; is = inl off })

    split : (o : Out) → m.out ≡ o → out_after o t.power (first_absent t.power m.setup.geometry.disks) ≡ Gone d
    split No is =
        let found = missing_is_out t.power m d range rest.log.single (record { disk = low; is = inl off }) off in
        ap gone_of (ap (λ (o : Out). or_else (named_out o) (first_absent t.power m.setup.geometry.disks)) (sym is) ∙ found)
    split (Gone e) is = ap Gone (same e (ap named_out is))
    split (Fresh e u) is =
        let at_d = same e (ap named_out is) in
        fresh_gone e u d (is_present (t.power e)) (ap (λ (k : ℕ). is_present (t.power k)) at_d ∙ off) at_d

-- of two log disks the one that is absent now, and was there, was lost
lost_is : (s u : Disks) (x : ℕ) → x < 2 → AmongOne s u → is_present (s.power x) ≡ true → is_present (u.power x) ≡ false → u ≡ lose x s
lost_is s u x low among here off = elim among [
  | inl is ↦ absurd (false≢true (sym (ap (λ (v : Disks). is_present (v.power x)) (sym is) ∙ off) ∙ here))
  | inr lost ↦ elim lost [
    | inl is ↦ by 0 is
    | inr is ↦ by 1 is
  ]
]
  where
    by : (e : ℕ) → u ≡ lose e s → u ≡ lose x s
    by e is = elim (cases_eq x e) [
      | inl same ↦ is ∙ ap (λ (k : ℕ). lose k s) (sym same)
      | inr apart ↦ absurd (false≢true (sym (ap is_present (sym (with_at_other s.power e Absent x apart)) ∙ ap (λ (v : Disks). is_present (v.power x)) (sym is) ∙ off) ∙ here))
    ]

module _ (slots : ℕ) (from read t : Trail) (rs ls : List Call) (read_is : read ≡ extend from rs) (t_is : t ≡ extend read ls) (each : EachCall ReadsLogs (now from) rs)
    (h : History) (lo : ℕ) (down : Option ℕ) (start : IsRunStart slots (now from) h lo down) (x : ℕ) (said : LogState) (stood : Stands (now from) x said)
    (side : ℕ) (then_said : LogState) (then_stands : Stands (now read) side then_said) (base : ℕ → ℕ) where
  abbrev s : Disks
  s = now from

  abbrev w : Watch
  w = start_watch s down base

  abbrev calls : List Call
  calls = rs ++ ls

  abbrev end : ℕ
  end = length rs + length ls

  all_of : take end calls ≡ calls
  all_of = let n = length-append rs ls in take_all end calls (omega arith)

  at_last : moments read + length ls ≡ moments t
  at_last = sym (long slots from read t rs ls read_is t_is each h lo down start x said stood side then_said then_stands base)

  end_is : now t ≡ run s calls
  end_is = now_end slots from read t rs ls read_is t_is each h lo down start x said stood side then_said then_stands base

  read_end : now read ≡ run s rs
  read_end = now_read slots from read t rs ls read_is t_is each h lo down start x said stood side then_said then_stands base

  stands_read : Stands (run s rs) side then_said
  stands_read = subst (λ (u : Disks). Stands u side then_said) read_end then_stands

  module _ (serving : IsServing (watch_all calls w).down) where
    abbrev Serves : List Call → Type 0
    Serves cs = IsServing (watch_all cs w).down

    pub serving_end : IsServing (watch_all (take end calls) w).down
    serving_end = subst Serves (sym all_of) serving

    pub setup_end : then_said.meta.setup ≡ said.meta.setup
    setup_end = same_setup slots from read t rs ls read_is t_is each h lo down start x said stood side then_said then_stands base (length ls) serving_end

    pub beside_end : Option ℕ
    beside_end = beside slots from read t rs ls read_is t_is each h lo down start x said stood side then_said then_stands base (length ls) serving_end

    pub broken_end : IsResumable (now read) side then_said
    broken_end = broken slots from read t rs ls read_is t_is each h lo down start x said stood side then_said then_stands base (length ls) serving_end

    pub held_end : IsHeld slots (now read) h lo beside_end
    unfolding beside_end
    held_end = held_read slots from read t rs ls read_is t_is each h lo down start x said stood side then_said then_stands base (length ls) serving_end

    pub absent_end : IsAbsentSince then_said.meta.setup.geometry.disks t (moments read) (moments t) beside_end
    unfolding beside_end
    absent_end = subst (λ (m : ℕ). IsAbsentSince then_said.meta.setup.geometry.disks t (moments read) m beside_end) at_last
        (absent_since slots from read t rs ls read_is t_is each h lo down start x said stood side then_said then_stands base (length ls) serving_end)

    pub weak_end : (v : ℕ) → IsWeak (now read) v → beside_end ≡ Some v
    unfolding beside_end
    weak_end = weak_read slots from read t rs ls read_is t_is each h lo down start x said stood side then_said then_stands base (length ls) serving_end

    module _ (n : ℕ) (skip : Option ℕ) (all : EachCall (IsMountCall n skip) s calls) (among : AmongOne s (now read)) (standing : Meta) (mark : Option ℕ) (standing_is : standing ≡ with_mark then_said.meta mark)
        (k : ℕ) (k_from : moments read ≤ k) (k_to : k ≤ moments t) (mark_is : mark ≡ to_mark (disks t k).power then_said.meta) (few : n ≡ then_said.meta.setup.geometry.disks)
        (rest : IsAtRest (now t) standing)
        (cells : (r d : ℕ) → r < then_said.meta.setup.geometry.rows → (initial_state (now t) (closed_over standing)).dirty r d ≡ (initial_state (now read) then_said).dirty r d) where
      -- the moment at which a disk is marked, by the calls before it
      abbrev j : ℕ
      j = length rs + (k - moments read)

      moment_is : disks t k ≡ run s (take j calls)
      moment_is = ap (disks t) (let from_read = k_from in omega arith)
          ∙ at slots from read t rs ls read_is t_is each h lo down start x said stood side then_said then_stands base (k - moments read)

      same_until : (f : Disks) (m : Meta) → ((e : ℕ) → is_present ((run s (take j calls)).power e) ≡ is_present (f.power e)) → m ≡ then_said.meta → standing ≡ with_mark m (to_mark f.power m)
      same_until f m same is = standing_is ∙ ap (with_mark then_said.meta) (mark_is ∙ ap (λ (v : Disks). to_mark v.power then_said.meta) moment_is ∙ mark_by then_said.meta f.power (run s (take j calls)).power same)
          ∙ ap (λ (y : Meta). with_mark y (to_mark f.power y)) (sym is)

      Begins : Type 0
      Begins = BeginsSession s said calls standing.writes (initial_state (run s calls) (closed_over standing))

      cells_end : (r d : ℕ) → r < said.meta.setup.geometry.rows → (initial_state (run s calls) (closed_over standing)).dirty r d ≡ (initial_state (run s rs) then_said).dirty r d
      cells_end r d low =
          ap (λ (v : Disks). (initial_state v (closed_over standing)).dirty r d) (sym end_is)
          ∙ cells r d (subst (λ (y : Setup). r < y.geometry.rows) (sym setup_end) low) ∙ ap (λ (v : Disks). (initial_state v then_said).dirty r d) read_end

      single_read : then_said ≡ said → (a b : ℕ) → IsMissing (run s rs).power said.meta a → IsMissing (run s rs).power said.meta b → a ≡ b
      single_read is = subst (λ (o : LogState). (a b : ℕ) → IsMissing (run s rs).power o.meta a → IsMissing (run s rs).power o.meta b → a ≡ b) is
          (subst (λ (v : Disks). (a b : ℕ) → IsMissing v.power then_said.meta a → IsMissing v.power then_said.meta b → a ≡ b) read_end broken_end.log.single)

      -- where the log disk that stood is there after the reads, the dirty cells are those at the start
      cells_kept : then_said ≡ said → (r d : ℕ) → r < said.meta.setup.geometry.rows → (initial_state (run s calls) (closed_over standing)).dirty r d ≡ (initial_state s said).dirty r d
      cells_kept is r d low =
          cells_end r d low ∙ ap (λ (o : LogState). (initial_state (run s rs) o).dirty r d) is
          ∙ read_dirty slots s h lo down start x said stood rs each (single_read is) r d low

      quiet : then_said ≡ said → first_lost calls ≡ None → Begins
      unfolding Begins
      quiet is none = begins_quietly s said calls n skip standing all none
          (same_until s said.meta (λ e. presence_kept s (take j calls) n skip e (each_take (IsMountCall n skip) s calls j all) (none_take calls j none)) (ap (λ (o : LogState). o.meta) (sym is)))
          (cells_kept is)

      lost_one : then_said ≡ said → (d : ℕ) → first_lost calls ≡ Some d → Begins
      unfolding Begins
      lost_one is d first =
          let fails = first_fails calls d first in
          let low = fails_low s calls n skip d all fails in
          let setup : standing.setup ≡ then_said.meta.setup = ap (λ (y : Meta). y.setup) standing_is ∙ mark_setup then_said.meta mark in
          begins_losing s said calls d standing mark first (standing_is ∙ ap (λ (o : LogState). with_mark o.meta mark) is)
          (gone_at_rest (run s calls) standing d (subst (λ (v : Disks). IsAtRest v standing) end_is rest)
          (subst (λ (y : Setup). d < y.geometry.disks) (sym setup) (subst (λ (y : ℕ). d < y) few low)) (fails_absent s calls n skip d all fails))
          (cells_kept is)

      stayed : then_said ≡ said → (o : Option ℕ) → first_lost calls ≡ o → Begins
      stayed is None none = quiet is none
      stayed is (Some d) first = lost_one is d first

      fell : is_present ((run s rs).power x) ≡ false → Begins
      unfolding Begins
      fell off =
          let fails_read : fails_on x rs ≡ true = elim (absent_failed s rs x off) [ inl gone ↦ absurd (false≢true (sym gone ∙ stood.says.present)) | inr failed ↦ failed ] in
          let fails = fails_more rs ls x fails_read in
          let alone : (e : ℕ) → fails_on e calls ≡ true → e ≡ x = (λ e is. several_in (watch_all calls w).down e x serving (fails_in w calls e is) (fails_in w calls x fails)) in
          let first = only_lost calls x fails alone in
          let lost = lost_is s (run s rs) x stood.log_disk (subst (AmongOne s) read_end among) stood.says.present off in
          begins_without s said calls x side then_said standing first (subst (λ (v : Disks). Stands v side then_said) lost stands_read)
          (λ e. presence_lost s calls n skip x all alone (fails_absent s calls n skip x all fails) e)
          (same_until (lose x s) then_said.meta (λ e. presence_lost s (take j calls) n skip x (each_take (IsMountCall n skip) s calls j all)
          (λ f is. alone f (fails_take calls j f is)) (gone_then off) e) refl)
          (λ r d low. cells_end r d low ∙ ap (λ (v : Disks). (initial_state v then_said).dirty r d) lost)
        where
          gone_then : is_present ((run s rs).power x) ≡ false → is_present ((run s (take j calls)).power x) ≡ false
          gone_then gone =
              let first_part = take_past rs ls (k - moments read) in
              ap (λ (cs : List Call). is_present ((run s cs).power x)) first_part
              ∙ ap (λ (v : Disks). is_present (v.power x)) (run_append s rs (take (k - moments read) ls))
              ∙ stays_absent (run s rs) (take (k - moments read) ls) n skip x (each_take (IsMountCall n skip) (run s rs) ls (k - moments read) (each_rest (IsMountCall n skip) s rs ls all)) gone

      -- So the session begins.
      pub begins : BeginsSession s said calls standing.writes (initial_state (run s calls) (closed_over standing))
      unfolding Begins
      begins = split (is_present ((run s rs).power x)) refl
        where
          split : (b : Bool) → is_present ((run s rs).power x) ≡ b → Begins
          split true here = stayed (still_stands slots s h lo down start base rs each x said stood side then_said stands_read here) (first_lost calls) refl
          split false off = fell off

      -- What is asked of the end of a mount that is served.
      pub ends_served : IsHeld slots (now t) (take standing.writes h) standing.writes (out_disk (now t).power standing)
          → (count last array rows : ℕ) (slot : ℕ → Slot) (named : Option ℕ) → Agrees (now t) slot → IsServable count slot last array named (with_loss standing (to_mark (now t).power standing)) rows
          → ((y : ℕ) → IsNamedLog (named_out standing.out) y → IsSure (now t) 2 y (λ b. is_open b ≡ true)) → EndsServed slots s said h calls standing
      ends_served held count last array rows slot named agrees servable borne = record {
        borne = subst (λ (v : Disks). (y : ℕ) → IsNamedLog (named_out standing.out) y → IsSure v 2 y (λ b. is_open b ≡ true)) end_is borne;
        setup = ap (λ (y : Meta). y.setup) standing_is ∙ mark_setup then_said.meta mark ∙ setup_end;
        rest = subst (λ (v : Disks). IsAtRest v standing) end_is rest;
        held = subst (λ (v : Disks). IsHeld slots v (take standing.writes h) standing.writes (out_disk v.power standing)) end_is held;
        count = count;
        slot = slot;
        last = last;
        array = array;
        named = named;
        rows = rows;
        agrees = subst (λ (v : Disks). Agrees v slot) end_is agrees;
        servable = subst (λ (v : Disks). IsServable count slot last array named (with_loss standing (to_mark v.power standing)) rows) end_is servable;
        begins = begins;
      }
