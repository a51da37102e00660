-- Each stop, and each end, leaves a rack on which the next run begins.
use Rattle.std.proofs.Common.{◌≡◌, ◌≢◌, ℕ, ◌<◌, ◌≤◌, Bool, true, false, List, [], ◌∷◌, ◌++◌, Option, Some, None, refl, sym, ap, ◌∙◌, inl, inr, subst, arith, min, if◌then◌else◌}
use Rattle.std.proofs.lemmas.Bool.{false≢true}
use Rattle.paraid_base.specs.declared.event.Answer.{Answer}
use Rattle.paraid_base.specs.declared.event.Answer.TheVariants.{Halted}
use Rattle.paraid_base.specs.declared.event.Event.{Event}
use Rattle.paraid_base.specs.declared.fault.Halt.TheVariants.{Two as HaltTwo}
use Rattle.paraid_base.specs.declared.fault.Two.{Two}
use Rattle.paraid_base.specs.declared.state.Out.{Out}
use Rattle.paraid_base.specs.declared.state.Out.TheVariants.{No, Gone, Fresh}
use Rattle.paraid_base.specs.History.{History}
use Rattle.paraid_rack.specs.Alike.{IsAlike}
use Rattle.paraid_rack.specs.declared.call.Call.{Call}
use Rattle.paraid_rack.specs.declared.call.Power.{Power}
use Rattle.paraid_rack.specs.declared.call.Power.TheVariants.{Absent}
use Rattle.paraid_rack.specs.Disks.{Disks, IsImage, IsPresent, is_present, lose}
use Rattle.paraid_rack.specs.Trail.{run}
use Rattle.paraid_rack.proofs.AtomsLemmas.{with_at_same, with_at_other}
use Rattle.paraid_record.specs.declared.meta.Meta.{Meta}
use Rattle.paraid_record.specs.declared.meta.Setup.{Setup}
use Rattle.paraid_image.specs.RunStart.{IsRunStart}
use Rattle.paraid_image.specs.HeldAt.{IsHeld, MayLose}
use Rattle.paraid_image.specs.Looked.{IsLooked}
use Rattle.paraid_image.specs.Looked.IsLooked.{lost, whole}
use Rattle.paraid_image.specs.Out.{first_absent, named_out, or_else, out_disk}
use Rattle.paraid_image.specs.Out.IsWeak.{out}
use Rattle.paraid_image.specs.Power.{gone_of, initial_state, out_after, state_by}
use Rattle.paraid_image.specs.Rest.{AreSynced}
use Rattle.paraid_image.specs.Sides.{LogState, closed_over}
use Rattle.paraid_image.specs.Spins.{made_spin_ups}
use Rattle.paraid_image.specs.Standing.{Stands}
use Rattle.paraid_image.proofs.AlikeLemmas.{weak_alike}
use Rattle.paraid_image.proofs.LookedLemmas.{entry_of_looked, weak_lost}
use Rattle.paraid_image.proofs.StandingLemmas.{Stands-same}
use Rattle.paraid_session.specs.Mount.{IsBase, IsMounting, start_watch}
use Rattle.paraid_session.specs.Mount.IsBase.{alone, lesser}
use Rattle.paraid_session.specs.Turn.{IsAnswered, IsMark, LosesSecondDisk, Point, bounds_of, watch_of}
use Rattle.paraid_session.specs.Watch.{Bounds, Down, Each, IsHeldWhileServing, HoldsWhileServing, IsServing, Watch, nobody, only, several, watch, watch_all}
use Rattle.paraid_session.proofs.LayerLemmas.{each_at}

named_gone : (slot : Option ℕ) → named_out (gone_of slot) ≡ slot
named_gone None = refl
named_gone (Some d) = refl

named_fresh : (there : Bool) (d rebuilt : ℕ) → named_out (if there then Fresh d rebuilt else Gone d) ≡ Some d
named_fresh true d rebuilt = refl
named_fresh false d rebuilt = refl

named_after : (o : Out) (power : ℕ → Power) (slot : Option ℕ) → named_out (out_after o power slot) ≡ or_else (named_out o) slot
named_after No power slot = named_gone slot
named_after (Gone d) power slot = refl
named_after (Fresh d rebuilt) power slot = named_fresh (is_present (power d)) d rebuilt

-- the disk that is out in the state of an image is its out disk
out_of_state : (i : Disks) (said : LogState) → named_out (initial_state i said).out ≡ out_disk i.power said.meta
unfolding state_by
out_of_state i said = named_after said.meta.out i.power (first_absent i.power said.meta.setup.geometry.disks)

-- where nothing is loose, an image is the disks in all that exists
pub synced_alike : (s i : Disks) → AreSynced s → IsImage s i → IsAlike s i
synced_alike s i synced image = record {
  power = image.power;
  size = image.size;
  block = λ d p place. image.block d p (synced d p place.present);
  loose = λ d p place. image.loose d p ∙ sym (synced d p place.present);
}

pub mark_entry : (slots : ℕ) (setup : Setup) (p : Point) → IsMark slots setup p → IsRunStart slots p.disks p.history p.low (named_out p.state.out)
mark_entry slots setup p m = record {
  synced = m.rest.synced;
  held = m.held;
  weak = λ i w image is. weak_alike p.disks i w (synced_alike p.disks i m.rest.synced image)
      (out m.rest.disk (closed_over p.meta) m.rest.log.stands (sym (out_of_state p.disks (closed_over p.meta)) ∙ ap named_out m.shown.out ∙ is));
}

-- a stop leaves an entry for the same history and the same bound
abbrev pub IsStop : ℕ → Disks → History → ℕ → Type 0
IsStop slots s h lo = (i : Disks) → IsLooked s i → (own : Option ℕ) × IsRunStart slots i h lo own

-- while at most one disk is down, each stop leaves the history, for that disk or none
held_serving : (slots : ℕ) (s : Disks) (h : History) (lo : ℕ) (down : Down) → IsServing down → IsHeldWhileServing slots s h lo down → (beside : Option ℕ) × IsHeld slots s h lo beside
held_serving slots s h lo nobody serving held = (None, held)
held_serving slots s h lo (only d) serving held = (Some d, held)
held_serving slots s h lo several serving held = absurd serving

pub kept_stop : (slots : ℕ) (h : History) (lo : ℕ) (b : Bounds) (w : Watch) → HoldsWhileServing slots h lo b w → IsServing w.down → IsStop slots w.disks h lo
kept_stop slots h lo b w kept serving i looked =
    let held = held_serving slots w.disks h lo w.down serving kept.held in
    entry_of_looked slots w.disks i h lo held.0 looked held.1

watched_disks : (w : Watch) (cs : List Call) → (watch_all cs w).disks ≡ run w.disks cs
watched_disks w [] = refl
watched_disks w (c ∷ cs) = watched_disks (watch c w) cs

each_stop : (slots : ℕ) (h : History) (lo : ℕ) (b : Bounds) (Allowed : Watch → Call → Type 0) (w : Watch) (done rest : List Call) → Each (HoldsWhileServing slots h lo b) Allowed w (done ++ rest) → IsServing (watch_all done w).down → IsStop slots (run w.disks done) h lo
each_stop slots h lo b Allowed w done rest each serving =
    subst (λ (s : Disks). IsStop slots s h lo) (watched_disks w done) (kept_stop slots h lo b (watch_all done w) (each_at (HoldsWhileServing slots h lo b) Allowed w done rest each) serving)

pub answered_stop : (slots : ℕ) (setup : Setup) (p : Point) (event : Event) (answer : Answer) (done rest : List Call) (q : Point) → IsAnswered slots setup p event answer (done ++ rest) q
    → IsServing (watch_all done (watch_of p event answer)).down → IsStop slots (run p.disks done) q.history p.low
answered_stop slots setup p event answer done rest q a serving = each_stop slots q.history p.low (bounds_of setup p event) _ (watch_of p event answer) done rest a.moments serving

pub two_stop : (slots : ℕ) (setup : Setup) (p : Point) (event : Event) (two : Two) (done rest : List Call) (q : Point) → LosesSecondDisk slots setup p event two (done ++ rest) q
    → IsServing (watch_all done (watch_of p event (Halted (HaltTwo two)))).down → IsStop slots (run p.disks done) p.history p.low
two_stop slots setup p event two done rest q a serving = each_stop slots p.history p.low (bounds_of setup p event) _ (watch_of p event (Halted (HaltTwo two))) done rest a.moments serving

pub mount_stop : (slots : ℕ) (s : Disks) (x : ℕ) (said : LogState) (h : History) (lo : ℕ) (down : Option ℕ) (done rest : List Call) (m : IsMounting slots s x said h lo down (done ++ rest))
    → IsServing (watch_all done (start_watch s down m.base)).down → IsStop slots (run s done) h lo
mount_stop slots s x said h lo down done rest m serving = each_stop slots h lo _ _ (start_watch s down m.base) done rest m.moments serving

same_power : (m : Meta) (f g : ℕ → Power) (d : ℕ) → f d ≡ g d → made_spin_ups m f d ≡ made_spin_ups m g d
same_power m f g d is = rw is refl

min_at_least : (n a b c : ℕ) → n ≤ a → n ≤ b → c ≡ min a b → n ≤ c
min_at_least n a b c first second is = grind (arith)

module _ (slots : ℕ) (h : History) (lo : ℕ) (b : Bounds) (w : Watch) (kept : HoldsWhileServing slots h lo b w) (serving : IsServing w.down) where
  -- with a log disk lost that may be lost, disk `d` is not named out by what stands then
  not_named : (i : Disks) (x y d : ℕ) (other : LogState) → IsImage w.disks i → MayLose i x → x < 2 → Stands (lose x i) y other → d < b.setup.geometry.disks → 2 ≤ d → named_out other.meta.out ≢ Some d
  not_named i x y d other image may low stands below high names =
      let held = held_serving slots w.disks h lo w.down serving kept.held in
      let sound = held.1.lost i x image may in
      let same = (Stands-same (lose x i) sound.sound.disk y sound.sound.said other sound.sound.log.stands stands).1 in
      let setup : other.meta.setup ≡ b.setup = (kept.within serving y (lose x i) other (lost i x image may refl) stands).same_setup in
      let many : d < other.meta.setup.geometry.disks = rw setup below in
      let many_said : d < sound.sound.said.meta.setup.geometry.disks = rw same many in
      let gone : is_present ((lose x i).power x) ≡ false = ap is_present (with_at_same i.power x Absent x refl) in
      let x_is : x ≡ d = sound.sound.log.single x d (record { disk = omega (arith, many_said, low, high); is = inl gone }) (record { disk = many_said; is = inr (rw same names) }) in
      omega (arith, x_is, low, high)

  whole_base : (x : ℕ) (i : Disks) (said : LogState) (base : ℕ → ℕ) (ticks : ℕ) → IsImage w.disks i → Stands i x said → IsBase i x said base ticks
      → (d : ℕ) → 2 ≤ d → d < b.setup.geometry.disks → IsPresent i d → named_out said.meta.out ≢ Some d → w.spun d ≤ base d
  whole_base x i said base ticks image stands (alone none is t) d high below here not =
      let r = (kept.within serving x i said (whole image) stands).recorded d below here not in rw (is d) r
  whole_base x i said base ticks image stands (lesser y other may stood is t) d high below here not =
      let low : x < 2 = stands.log_disk in
      let apart : d ≢ x = λ e. omega (arith, e, low, high) in
      let power : (lose x i).power d ≡ i.power d = with_at_other i.power x Absent d apart in
      let first = (kept.within serving x i said (whole image) stands).recorded d below here not in
      let there : IsPresent (lose x i) d = ap is_present power ∙ here in
      let second = (kept.within serving y (lose x i) other (lost i x image may refl) stood).recorded d below there (not_named i x y d other image may low stood below high) in
      min_at_least (w.spun d) (made_spin_ups said.meta i.power d) (made_spin_ups other.meta i.power d) (base d) first
      (subst (λ (n : ℕ). w.spun d ≤ n) (same_power other.meta (lose x i).power i.power d power) second) (is d)

  -- an image with a disk lost can not lose a log disk that is there
  lost_once : (i : Disks) (d x : ℕ) → IsImage w.disks i → MayLose i d → MayLose (lose d i) x → ⊥
  lost_once i d x image may again =
      let held = held_serving slots w.disks h lo w.down serving kept.held in
      let weak = weak_lost slots i h lo d (held.1.whole i image) may (held.1.lost i d image may) in
      let same : d ≡ x = again.weak d weak in
      let gone : is_present ((lose d i).power x) ≡ false = ap is_present (with_at_same i.power d Absent x (sym same)) in
      false≢true (sym gone ∙ again.present)

  lost_base : (x : ℕ) (i : Disks) (e : ℕ) (said : LogState) (base : ℕ → ℕ) (ticks : ℕ) → IsImage w.disks i → MayLose i e → Stands (lose e i) x said → IsBase (lose e i) x said base ticks
      → (d : ℕ) → d < b.setup.geometry.disks → IsPresent (lose e i) d → named_out said.meta.out ≢ Some d → w.spun d ≤ base d
  lost_base x i e said base ticks image may stands (alone none is t) d below here not =
      let r = (kept.within serving x (lose e i) said (lost i e image may refl) stands).recorded d below here not in rw (is d) r
  lost_base x i e said base ticks image may stands (lesser y other again stood is t) d below here not = absurd (lost_once i e x image may again)

  -- the base of the next run is at least what was spun up
  pub next_base : (x : ℕ) (i : Disks) (said : LogState) (base : ℕ → ℕ) (ticks : ℕ) → IsLooked w.disks i → Stands i x said → IsBase i x said base ticks
      → (d : ℕ) → 2 ≤ d → d < b.setup.geometry.disks → IsPresent i d → named_out said.meta.out ≢ Some d → w.spun d ≤ base d
  next_base x i said base ticks (whole image) stands is d high below here not = whole_base x i said base ticks image stands is d high below here not
  next_base x i said base ticks (lost j e image may same) stands is d high below here not =
      let all : (k : Disks) → k ≡ i → Stands k x said → IsBase k x said base ticks → IsPresent k d → MayLose j e → lose e j ≡ k → w.spun d ≤ base d
      = λ k z st ba he ma eq. lost_by k st ba he ma eq in
      all i refl stands is here may same
    where
      lost_by : (k : Disks) → Stands k x said → IsBase k x said base ticks → IsPresent k d → MayLose j e → lose e j ≡ k → w.spun d ≤ base d
      lost_by k st ba he ma eq = subst (λ (z : Disks). Stands z x said → IsBase z x said base ticks → IsPresent z d → w.spun d ≤ base d) eq
          (λ a c f. lost_base x j e said base ticks image ma a c d below f not) st ba he
