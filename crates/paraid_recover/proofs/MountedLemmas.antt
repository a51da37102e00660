-- A mount is what a session asks of it, from each rack on which a run begins.
use Rattle.std.proofs.Common.{true, ◌≡◌, ◌≢◌, ℕ, ◌*◌, ◌<◌, ◌≤◌, Bool, List, [], ◌++◌, Option, Some, None, refl, sym, ap, ◌∙◌, subst, drop, take, arith, length, inl}
use Rattle.std.proofs.lemmas.List.{length-take-le}
use Rattle.paraid_base.specs.declared.fault.Two.{Two}
use Rattle.paraid_base.specs.History.{History}
use Rattle.paraid_base.specs.States.{gone_out}
use Rattle.paraid_rack.specs.declared.call.Call.{Call}
use Rattle.paraid_rack.specs.Disks.{Disks, IsPresent}
use Rattle.paraid_rack.specs.Slots.{Agrees, Slot}
use Rattle.paraid_rack.specs.Told.{CrashTriple, Extends, Ran}
use Rattle.paraid_rack.specs.Trail.{Trail, disks, extend, moments, now, run}
use Rattle.paraid_rack.proofs.TrailsLemmas.{Ran-none, extend-extend, now-extend}
use Rattle.paraid_record.specs.declared.meta.Meta.{Meta}
use Rattle.paraid_base.specs.Regions.{map_count}
use Rattle.paraid_image.specs.Content.{view_by}
use Rattle.paraid_image.specs.HeldAt.{IsHeld}
use Rattle.paraid_image.specs.Out.{IsWeak, named_out, out_disk}
use Rattle.paraid_image.specs.Power.{initial_state}
use Rattle.paraid_image.specs.Rest.{IsAtRest}
use Rattle.paraid_image.specs.RunStart.{IsRunStart}
use Rattle.paraid_image.specs.Sides.{LogState, closed_over, is_open}
use Rattle.paraid_image.specs.Spins.{made_spin_ups}
use Rattle.paraid_image.specs.Standing.{Stands, contents}
use Rattle.paraid_rack.specs.Atoms.{IsSure}
use Rattle.paraid_recover.specs.Bearing.{IsNamedLog}
use Rattle.paraid_recover.specs.declared.mount_fault.MountFault.{MountFault}
use Rattle.paraid_recover.specs.declared.mount_fault.MountFault.TheVariants.{Two as BothMissing}
use Rattle.paraid_recover.specs.Examined.{IsExamined, IsRefused}
use Rattle.paraid_recover.proofs.DirtyKeptLemmas.{shown_dirty}
use Rattle.paraid_recover.specs.HeldMoments.{IsAbsentSince}
use Rattle.paraid_recover.specs.Mount.{HasMounted, HasOnlyRead, HasRecovered, IsCauseOfRefusal, IsUnstarted}
use Rattle.paraid_recover.specs.Mount.IsCauseOfRefusal.{examined, no_memory, two_down, witnessed}
use Rattle.paraid_recover.specs.MountCalls.{IsMountCall}
use Rattle.paraid_recover.specs.Mounted.{IsServable, with_loss}
use Rattle.paraid_session.specs.Mount.{IsMountRefused, IsMounted, IsMountedFromEach, IsRefusedFromEach, Refusal, start_watch}
use Rattle.paraid_session.specs.Mount.Refusal.{no_memory as for_memory}
use Rattle.paraid_session.specs.Watch.{IsServing, Watch, watch_all}
use Rattle.paraid_recover.specs.HeardSides.{AmongOne, AmongTwo, ReadsLogs}
use Rattle.paraid_recover.specs.HeardSides.IsOneLost.{none as none_lost}
use Rattle.paraid_recover.specs.FirstPoint.{IsFirstPoint, first_point}
use Rattle.paraid_recover.specs.StartParts.{AreMountCalls, EndsServed}
use Rattle.paraid_recover.specs.StartRefusals.{refusal_by_fault}
use Rattle.paraid_recover.proofs.BaseLemmas.{some_base}
use Rattle.paraid_recover.proofs.BasedLemmas.{next_marked}
use Rattle.paraid_recover.proofs.DownLemmas.{watched_disks}
use Rattle.paraid_recover.proofs.PartsLemmas.{at_end, mounted, refused, writes_between}
use Rattle.paraid_recover.proofs.PiecesLemmas.{reads_parts}
use Rattle.paraid_recover.proofs.RefusedLemmas.{after_reads, second_down, without_memory, witness_ends}
use Rattle.paraid_recover.specs.Witness.{IsWitnessRefusal}
use Rattle.paraid_recover.proofs.StartServedLemmas.{absent_end, beside_end, broken_end, ends_served, held_end, weak_end}
use Rattle.paraid_recover.proofs.ToldLemmas.{IsToldOf, began_calls, began_disks, ran_at, same_trail, told_of, told_parts}
use Rattle.paraid_txn.specs.Losses.{AreGoneSince, IsOutOfCommit}
use Rattle.paraid_txn.specs.Resume.{IsResumable}
use Rattle.paraid_txn.specs.Uses.{EachCall}

loss_setup : (m : Meta) (lost : Option ℕ) → (with_loss m lost).setup ≡ m.setup
loss_setup m None = refl
loss_setup m (Some d) = refl

-- what holds of the disks and the calls from a record on holds of those from its moment on
from_moment : (P : Disks → List Call → Type 0) (t f : Trail) (cs : List Call) (began : ℕ) → t ≡ extend f cs → began ≡ moments f → P (now f) cs → P (disks t began) (drop began t.calls)
from_moment P t f cs began is at p =
    subst (λ (u : Disks). P u (drop began t.calls)) (sym (began_disks t f cs began is at)) (subst (P (now f)) (sym (began_calls t f cs began is at)) p)

module _ (count : ℕ) (old_slot new_slot : ℕ → Slot) (named : Option ℕ) (m : Meta) (dirty : ℕ → ℕ → Bool) (old new : Option Trail) (it : HasMounted count old_slot new_slot named m dirty old new)
    (agrees : (t : Trail) → new ≡ Some t → Agrees (now t) new_slot)
    (new_count last array rows : ℕ) (servable : IsServable new_count new_slot last array named m rows) where
  abbrev side : ℕ
  side = it.side

  abbrev then_said : LogState
  then_said = it.said

  abbrev standing : Meta
  standing = it.settled.standing

  module _ (slots : ℕ) (t : Trail) (tells : new ≡ Some t) (told : IsToldOf side then_said old it.settled.recovered.read t) (h : History) (lo : ℕ) (down : Option ℕ)
      (start : IsRunStart slots (now told.began) h lo down) (x : ℕ) (said : LogState) (stood : Stands (now told.began) x said) where
    abbrev s : Disks
    s = now told.began

    abbrev calls : List Call
    calls = told.rs ++ told.ls

    parts : AreMountCalls slots s x said h lo down calls
    parts = told_parts side then_said old new it.settled.recovered t tells told slots h lo down start x said stood

    abbrev v : Watch
    v = watch_all calls (start_watch s down parts.base)

    then_stands : Stands (now told.read) side then_said
    then_stands = it.settled.recovered.stands told.read told.reads

    whole : t ≡ extend told.began calls
    whole = told.t_is ∙ ap (λ (u : Trail). extend u told.ls) told.read_is ∙ extend-extend told.began told.rs told.ls

    now_is : now t ≡ run s calls
    now_is = ap now whole ∙ now-extend told.began calls

    all : EachCall (IsMountCall then_said.meta.setup.geometry.disks (gone_out then_said.meta.out)) s calls
    all = ran_at (EachCall (IsMountCall then_said.meta.setup.geometry.disks (gone_out then_said.meta.out))) old new it.settled.recovered.calls t told.began calls tells told.was whole

    among : AmongOne s (now told.read)
    among = subst (AmongOne s) (sym (ap now told.read_is ∙ now-extend told.began told.rs))
        ((ran_at (CrashTriple (AmongOne s) (λ (u : Disks). u ≡ s) (AmongOne s)) old it.settled.recovered.read (it.settled.recovered.reads s) told.read told.began told.rs told.reads told.was told.read_is).goes refl).1

    module _ (serving : IsServing v.down) where
      one : Option ℕ
      one = beside_end slots told.began told.read t told.rs told.ls told.read_is told.t_is told.each h lo down start x said stood side then_said then_stands parts.base serving

      broken : IsResumable (now told.read) side then_said
      broken = broken_end slots told.began told.read t told.rs told.ls told.read_is told.t_is told.each h lo down start x said stood side then_said then_stands parts.base serving

      held : IsHeld slots (now told.read) h lo one
      unfolding one
      held = held_end slots told.began told.read t told.rs told.ls told.read_is told.t_is told.each h lo down start x said stood side then_said then_stands parts.base serving

      absent : IsAbsentSince then_said.meta.setup.geometry.disks t (moments told.read) (moments t) one
      unfolding one
      absent = absent_end slots told.began told.read t told.rs told.ls told.read_is told.t_is told.each h lo down start x said stood side then_said then_stands parts.base serving

      weak : (w : ℕ) → IsWeak (now told.read) w → one ≡ Some w
      unfolding one
      weak = weak_end slots told.began told.read t told.rs told.ls told.read_is told.t_is told.each h lo down start x said stood side then_said then_stands parts.base serving

      abbrev Rests : Type 0
      Rests = IsAtRest (now t) standing × IsHeld slots (now t) (take standing.writes h) standing.writes (out_disk (now t).power standing)

      at_rest : Rests
      at_rest =
          let e = it.settled.ends slots t tells in
          (subst (λ (u : Trail). IsResumable (now u) side then_said → IsHeld slots (now u) h lo one → IsAbsentSince then_said.meta.setup.geometry.disks t (moments u) (moments t) one
          → ((w : ℕ) → IsWeak (now u) w → one ≡ Some w) → Rests) (same_trail it.settled.recovered.read e.0 told.read e.1 told.reads) (e.2 h lo one one)) broken held absent weak

      cells : (r d : ℕ) → r < then_said.meta.setup.geometry.rows → (initial_state (now t) (closed_over standing)).dirty r d ≡ (initial_state (now told.read) then_said).dirty r d
      cells =
          let e = it.settled.cells slots t tells in
          (subst (λ (u : Trail). IsResumable (now u) side then_said → IsHeld slots (now u) h lo one → IsAbsentSince then_said.meta.setup.geometry.disks t (moments u) (moments t) one
          → ((w : ℕ) → IsWeak (now u) w → one ≡ Some w)
          → (r d : ℕ) → r < then_said.meta.setup.geometry.rows → (initial_state (now t) (closed_over standing)).dirty r d ≡ (initial_state (now u) then_said).dirty r d)
          (same_trail it.settled.recovered.read e.0 told.read e.1 told.reads) (e.2 h lo one one)) broken held absent weak

      -- witness is borne against the log disk that is named out
      witness : (y : ℕ) → IsNamedLog named y → IsSure (now t) 2 y (λ b. is_open b ≡ true)
      witness =
          let e = it.marked slots t tells in
          (subst (λ (u : Trail). IsResumable (now u) side then_said → IsHeld slots (now u) h lo one → IsAbsentSince then_said.meta.setup.geometry.disks t (moments u) (moments t) one
          → ((w : ℕ) → IsWeak (now u) w → one ≡ Some w) → (y : ℕ) → IsNamedLog named y → IsSure (now t) 2 y (λ b. is_open b ≡ true))
          (same_trail it.settled.recovered.read e.0 told.read e.1 told.reads) (e.2 h lo one one)) broken held absent weak

      ends : EndsServed slots s said h calls standing
      ends =
          let k = it.settled.mark_is t tells in
          let same = same_trail it.settled.recovered.read k.0 told.read k.1 told.reads in
          ends_served slots told.began told.read t told.rs told.ls told.read_is told.t_is told.each h lo down start x said stood side then_said then_stands parts.base serving
          then_said.meta.setup.geometry.disks (gone_out then_said.meta.out) all among standing it.settled.mark it.settled.standing_is
          k.2 (subst (λ (u : Trail). moments u ≤ k.2) same k.3) k.4 k.5 refl at_rest.0 cells at_rest.1
          new_count last array rows new_slot named (agrees t tells)
          (subst (λ (n : Meta). IsServable new_count new_slot last array named n rows) (it.settled.is ∙ ap (with_loss standing) (it.settled.lost_is t tells)) servable)
          (λ y name. witness y (it.under.named_by ∙ name.0, name.1))

      -- the table is the map that is shown
      shown_map : (r d : ℕ) → r < 512 * map_count standing.setup.geometry → dirty r d ≡ (view_by standing (now t).power (contents (now t) [])).dirty r d
      shown_map =
          let e = it.settled.map slots t tells in
          (subst (λ (u : Trail). IsResumable (now u) side then_said → IsHeld slots (now u) h lo one → IsAbsentSince then_said.meta.setup.geometry.disks t (moments u) (moments t) one
          → ((w : ℕ) → IsWeak (now u) w → one ≡ Some w)
          → (q c : ℕ) → q < 512 * map_count standing.setup.geometry → dirty q c ≡ (view_by standing (now t).power (contents (now t) [])).dirty q c)
          (same_trail it.settled.recovered.read e.0 told.read e.1 told.reads) (e.2 h lo one one)) broken held absent weak

      -- so it has the dirty cells that are shown
      shown_cells : (r d : ℕ) → r < standing.setup.geometry.rows → dirty r d ≡ (initial_state (now t) (closed_over standing)).dirty r d
      shown_cells r d low =
          shown_map r d (omega (arith, low)) ∙ sym (ap (λ (f : ℕ → ℕ → Bool). f r d) (shown_dirty (now t) (closed_over standing)))

      counted : length (take standing.writes h) ≡ standing.writes
      counted =
          let kept = at_end slots s x said h lo down calls start stood parts serving in
          let between = writes_between slots (run s calls) standing h lo kept.0 (subst (λ (u : Disks). IsAtRest u standing) now_is at_rest.0) kept.1 in
          length-take-le standing.writes h between.1

      begins : (said.meta.setup ≡ m.setup) × IsFirstPoint standing dirty new (first_point (run s calls) standing h v.spun)
      begins = (
        sym (ap (λ (n : Meta). n.setup) it.settled.is ∙ loss_setup standing it.settled.lost ∙ ends.setup),
        record {
          history = h;
          spun = v.spun;
          is = λ u tells_u. ap (λ (k : Disks). first_point k standing h v.spun) (sym now_is ∙ ap now (same_trail new t u tells tells_u));
          recorded = λ d here. recorded_by (watched_disks (start_watch s down parts.base) calls) d here;
          writes = counted;
          cells = λ r d low. shown_cells r d low ∙ ap (λ (u : Disks). (initial_state u (closed_over standing)).dirty r d) now_is;
          map = λ r d low. shown_map r d low ∙ ap (λ (u : Disks). (view_by standing u.power (contents u [])).dirty r d) now_is;
        },
      )
        where
          recorded_by : v.disks ≡ run s calls → (d : ℕ) → IsPresent (run s calls) d → v.spun d ≤ made_spin_ups standing (run s calls).power d
          recorded_by disks_is d here =
              let last = told.recorded slots h lo down start x said stood parts.base parts.ticks parts.is_base d serving (subst (λ (u : Disks). IsPresent u d) (sym disks_is) here) in
              let used = ap (λ (n : Meta). made_spin_ups n v.disks.power d) it.settled.standing_is ∙ (next_marked then_said.meta it.settled.mark).used v.disks.power d in
              subst (λ (u : Disks). v.spun d ≤ made_spin_ups standing u.power d) disks_is (omega (arith, last, used))

    served : IsMounted slots s x said h lo down calls (λ p. (said.meta.setup ≡ m.setup) × IsFirstPoint standing dirty new p)
    served = mounted slots s x said h lo down calls start stood parts (λ p. (said.meta.setup ≡ m.setup) × IsFirstPoint standing dirty new p) standing ends begins

  -- A mount that is served.
  pub mounted_from_each : (slots began : ℕ) → ((u : Trail) → old ≡ Some u → began ≡ moments u) → IsMountedFromEach slots m.setup began new (IsFirstPoint standing dirty new)
  mounted_from_each slots began at t tells h lo down x said start stands =
      let told = told_of side then_said old new it.settled.recovered t tells in
      from_moment (λ (s : Disks) (calls : List Call). IsRunStart slots s h lo down → Stands s x said
      → IsMounted slots s x said h lo down calls (λ p. (said.meta.setup ≡ m.setup) × IsFirstPoint standing dirty new p))
      t told.began (told.rs ++ told.ls) began (told.t_is ∙ ap (λ (u : Trail). extend u told.ls) told.read_is ∙ extend-extend told.began told.rs told.ls) (at told.began told.was)
      (λ start_then stands_then. served slots t tells told h lo down start_then x said stands_then) start stands

module _ (count : ℕ) (old_slot new_slot : ℕ → Slot) (old new : Option Trail) (fault : MountFault) (agrees_old : (t : Trail) → old ≡ Some t → Agrees (now t) old_slot)
    (agrees_new : (t : Trail) → new ≡ Some t → Agrees (now t) new_slot) (began : ℕ) (at_start : (u : Trail) → old ≡ Some u → began ≡ moments u) where
  abbrev Refuses : History → ℕ → Option ℕ → ℕ → LogState → Refusal → Disks → List Call → Type 0
  Refuses h lo down x said why s calls = IsRunStart count s h lo down → Stands s x said → IsMountRefused count s x said h lo down calls why

  by_memory : HasOnlyRead old new → IsRefusedFromEach count began new for_memory
  by_memory only t tells h lo down x said start stands =
      let c = only.calls t tells in
      from_moment (Refuses h lo down x said for_memory) t c.from c.calls began c.is (at_start c.from c.was)
      (λ start_then stands_then.
      let b = some_base count (now c.from) h lo down start_then x said stands_then in
      refused count (now c.from) x said h lo down c.calls start_then stands_then
      (reads_parts count (now c.from) h lo down start_then x said stands_then b.0 c.calls c.holds b.1 b.2) for_memory
      (without_memory count (now c.from) h lo down start_then x said stands_then _ c.calls c.holds)) start stands

  by_reads : HasOnlyRead old new → IsRefused count old_slot new_slot new fault → IsRefusedFromEach count began new (refusal_by_fault fault)
  by_reads only is t tells h lo down x said start stands =
      let c = only.calls t tells in
      from_moment (Refuses h lo down x said (refusal_by_fault fault)) t c.from c.calls began c.is (at_start c.from c.was)
      (λ start_then stands_then.
      let b = some_base count (now c.from) h lo down start_then x said stands_then in
      let parts = reads_parts count (now c.from) h lo down start_then x said stands_then b.0 c.calls c.holds b.1 b.2 in
      refused count (now c.from) x said h lo down c.calls start_then stands_then parts (refusal_by_fault fault)
      (after_reads count (now c.from) h lo down start_then x said stands_then parts.base c.calls c.holds t (ap now c.is ∙ now-extend c.from c.calls) new tells old_slot new_slot (agrees_new t tells) fault is
      parts.ticks parts.is_base)) start stands

  by_loss : (read : ℕ → Slot) (side : ℕ) (then_said : LogState) (two : Two) (it : HasRecovered side then_said old new) → IsExamined count old_slot read it.read side then_said → fault ≡ BothMissing two
      → two.first ≢ two.second
      → AreGoneSince (IsOutOfCommit (λ d. (read d).power) then_said.meta.setup.geometry.disks (named_out then_said.meta.out) None) read new_slot two
      → IsRefusedFromEach count began new (refusal_by_fault fault)
  by_loss read side then_said two it exam fault_is apart gone t tells h lo down x said start stands =
      let told = told_of side then_said old new it t tells in
      let whole : t ≡ extend told.began (told.rs ++ told.ls) = told.t_is ∙ ap (λ (u : Trail). extend u told.ls) told.read_is ∙ extend-extend told.began told.rs told.ls in
      let read_end = ap now told.read_is ∙ now-extend told.began told.rs in
      from_moment (Refuses h lo down x said (refusal_by_fault fault)) t told.began (told.rs ++ told.ls) began whole (at_start told.began told.was)
      (λ start_then stands_then.
      let parts = told_parts side then_said old new it t tells told count h lo down start_then x said stands_then in
      refused count (now told.began) x said h lo down (told.rs ++ told.ls) start_then stands_then parts (refusal_by_fault fault)
      (second_down count (now told.began) h lo down start_then x said stands_then parts.base told.rs told.ls told.each side then_said
      (subst (λ (u : Disks). Stands u side then_said) read_end (it.stands told.read told.reads))
      told.read read_end it.read told.reads old_slot read new_slot (agrees_old told.began told.was) (now t) (ap now whole ∙ now-extend told.began (told.rs ++ told.ls)) (agrees_new t tells)
      count exam two gone apart (refusal_by_fault fault) (ap refusal_by_fault fault_is))) start stands

  by_witness : (read : Option Trail) (mid : ℕ → Slot) (side : ℕ) (two : Two) → Ran old new (EachCall ReadsLogs) → side < 2 → fault ≡ BothMissing two
      → IsWitnessRefusal side mid new_slot new two → IsRefusedFromEach count began new (refusal_by_fault fault)
  by_witness read mid side two all low fault_is refuses t tells h lo down x said start stands =
      let c = all t tells in
      from_moment (Refuses h lo down x said (refusal_by_fault fault)) t c.from c.calls began c.is (at_start c.from c.was)
      (λ start_then stands_then.
      let b = some_base count (now c.from) h lo down start_then x said stands_then in
      let parts = reads_parts count (now c.from) h lo down start_then x said stands_then b.0 c.calls c.holds b.1 b.2 in
      refused count (now c.from) x said h lo down c.calls start_then stands_then parts (refusal_by_fault fault)
      (witness_ends count (now c.from) h lo down start_then x said stands_then parts.base c.calls c.holds parts.ticks parts.is_base t (ap now c.is ∙ now-extend c.from c.calls) new tells mid new_slot (agrees_new t tells)
      side low two refuses (refusal_by_fault fault) (ap refusal_by_fault fault_is))) start stands

  -- A mount that is refused.
  pub refused_from_each : IsCauseOfRefusal count old_slot new_slot old new fault → IsRefusedFromEach count began new (refusal_by_fault fault)
  refused_from_each (no_memory is unstarted) = subst (IsRefusedFromEach count began new) (sym (ap refusal_by_fault is)) (by_memory unstarted.only)
  refused_from_each (examined is only) = by_reads only is
  refused_from_each (two_down read x then two it agrees exam is beside gone ends) = by_loss read x then two it exam is beside.apart gone
  refused_from_each (witnessed read mid x said two calls exam low is refuses) = by_witness read mid x two calls low is refuses

-- where no call is made only reads are told
pub no_calls : (told : Option Trail) → HasOnlyRead told told
no_calls told = record {
  calls = Ran-none (EachCall ReadsLogs) (λ s. tt) told;
  quiet = λ start. Ran-none (CrashTriple (AmongTwo start) (λ s. s ≡ start) (AmongTwo start)) (λ s. record { goes = λ is. (inl (inl is), inl (inl is)) }) told;
}

pub unstarted_here : (slot : ℕ → Slot) (told : Option Trail) → IsUnstarted slot slot told told
unstarted_here slot told = record { lost = none_lost (λ d. refl); only = no_calls told }

-- the record of a mount is longer by some calls
pub ran_extends : (Q : Disks → List Call → Type 0) (old new : Option Trail) → Ran old new Q → Extends old new
ran_extends Q old new ran t tells = let r = ran t tells in record { from = r.from; was = r.was; calls = r.calls; is = r.is; holds = tt }

pub mounted_extends : (count : ℕ) (old_slot new_slot : ℕ → Slot) (named : Option ℕ) (m : Meta) (dirty : ℕ → ℕ → Bool) (old new : Option Trail) → HasMounted count old_slot new_slot named m dirty old new → Extends old new
mounted_extends count old_slot new_slot named m dirty old new it = ran_extends _ old new it.settled.recovered.calls

pub refused_extends : (count : ℕ) (old_slot new_slot : ℕ → Slot) (old new : Option Trail) (fault : MountFault) → IsCauseOfRefusal count old_slot new_slot old new fault → Extends old new
refused_extends count old_slot new_slot old new fault (no_memory is unstarted) = ran_extends _ old new unstarted.only.calls
refused_extends count old_slot new_slot old new fault (examined is only) = ran_extends _ old new only.calls
refused_extends count old_slot new_slot old new fault (two_down read x then two it agrees exam is beside gone ends) = ran_extends _ old new it.calls
refused_extends count old_slot new_slot old new fault (witnessed read mid x said two calls exam low is refuses) = ran_extends _ old new calls
