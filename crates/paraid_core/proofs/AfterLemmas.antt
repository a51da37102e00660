-- What holds of the slots after a call in which one disk was lost, or none.
use Rattle.std.specs.Prelude.{◌≡◌, ◌≢◌, ℕ, ◌+◌, ◌-◌, ◌^◌, ◌<◌, ◌≤◌, nat_lt, true, false, [], Option, Some, None, Result, Ok, Err, IfErr, IsErrAnd}
use Rattle.std.proofs.Common.{refl, sym, ◌∙◌, ap, subst, arith, inl, inr}
use Rattle.std.proofs.lemmas.Bool.{cases_Bool}
use Rattle.std.proofs.lemmas.Bool.Decides.{nat_tests}
use Rattle.paraid_base.specs.declared.fault.Two.{Two}
use Rattle.paraid_base.specs.declared.geometry.Geometry.{Geometry}
use Rattle.paraid_base.specs.declared.state.Phase.{Phase}
use Rattle.paraid_base.specs.declared.state.Phase.TheVariants.{Steady, Down, Up}
use Rattle.paraid_base.specs.declared.state.Out.TheVariants.{Fresh}
use Rattle.paraid_rack.specs.declared.call.Power.{Power}
use Rattle.paraid_rack.specs.Disks.{is_present}
use Rattle.paraid_rack.specs.Slots.{Slot}
use Rattle.paraid_record.specs.declared.meta.Meta.{Meta}
use Rattle.paraid_record.specs.Range.{IsInRange, IsPhaseInRange}
use Rattle.paraid_record.specs.declared.targets.Target.{Target}
use Rattle.paraid_record.specs.Targets.{IsTargetInRange}
use Rattle.paraid_txn.specs.Commit.{gone_out}
use Rattle.paraid_txn.specs.Losses.{CanWrite, IsLostNow, IsOutOfCommit, AreTwoDown, AreTwoDownBeside, IsWell}
use Rattle.paraid_txn.specs.Losses.IsOutOfCommit.{is_absent, is_named, was_named}
use Rattle.paraid_image.specs.Out.{first_absent, named_out, or_else, out_disk}
use Rattle.paraid_image.specs.Sides.{Batch}
use Rattle.paraid_image.specs.Spot.{rising_to}
use Rattle.paraid_image.specs.Mark.{meta_with_lost}
use Rattle.paraid_image.proofs.OutLemmas.{first_absent_is, named_below}
use Rattle.paraid_txn.proofs.StoreLemmas.{next_in_range}
use Rattle.std.proofs.lemmas.List.Elements.{All-nil}
use Rattle.paraid_core.specs.CoreInvariant.{CanServe, AreSlotsReady, lost_in}
use Rattle.paraid_core.proofs.ReadyLemmas.{IsLostOnly, ready_lost, ready_same, serve_lost, serve_same, some_is}

pub gear_high : (m : Meta) → IsInRange m → m.gear ≤ m.setup.geometry.disks
gear_high m range = m.setup.geometry.gears_high m.gear range.gear

pub rise_high : (g : Geometry) (gear : ℕ) (p : Phase) → IsPhaseInRange g gear p → rising_to p ≤ g.disks
rise_high g gear Steady range = omega arith
rise_high g gear (Down to) range = omega arith
rise_high g gear (Up to) range = g.gears_high to range.higher_gear

-- the out disk is the one that the meta names
pub out_is_named : (power : ℕ → Power) (m : Meta) → ((d : ℕ) → d < m.setup.geometry.disks → is_present (power d) ≡ false → named_out m.out ≡ Some d)
    → (x : ℕ) → out_disk power m ≡ Some x → named_out m.out ≡ Some x
out_is_named power m absent x is = by (named_out m.out) refl is
  where
    by : (o : Option ℕ) → named_out m.out ≡ o → or_else o (first_absent power m.setup.geometry.disks) ≡ Some x → named_out m.out ≡ Some x
    by (Some d) at is = at ∙ is
    by None at is = let k = first_absent_is power m.setup.geometry.disks x is in absent x k.0 k.1

pub named_is_out : (power : ℕ → Power) (m : Meta) (x : ℕ) → named_out m.out ≡ Some x → out_disk power m ≡ Some x
named_is_out power m x is = ap (λ (o : Option ℕ). or_else o (first_absent power m.setup.geometry.disks)) is

-- the disk that is down, by the last commit or by the meta
pub down_named : (named : Option ℕ) (m : Meta) → ((d e : ℕ) → named ≡ Some d → named_out m.out ≡ Some e → d ≡ e) → (x : ℕ) → named_out m.out ≡ Some x
    → or_else named (named_out m.out) ≡ Some x
down_named (Some d) m one x is = ap Some (one d x refl is)
down_named None m one x is = is

-- what a `?` hands on
pub handed : {A E : Type 0} (P : E → Type 0) (r : Result A E) (e : E) → IsErrAnd r (λ x. x ≡ e) → P e → IfErr r P
handed P (Ok a) e is p = tt
handed P (Err x) e is p = subst P (sym is) p

pub two_by : (out down : Option ℕ) (old new : ℕ → Slot) (two : Two) → ((x : ℕ) → out ≡ Some x → down ≡ Some x) → AreTwoDown out old new two → AreTwoDown down old new two
two_by out down old new two to it = record {
  first = elim it.first [ inl is ↦ inl (to two.first is) | inr risen ↦ inr risen ];
  apart = it.apart;
  second = it.second;
}

-- the slots after it
module _ (count : ℕ) (slot new : ℕ → Slot) (last array : ℕ) (named : Option ℕ) (m : Meta) (rows : ℕ) (batch : Batch) (ready : AreSlotsReady count slot last array named m rows batch) where
  fresh_low : (d u : ℕ) → m.out ≡ Fresh d u → d < m.setup.geometry.disks
  fresh_low d u is = named_below m.setup.geometry m.gear m.out d ready.in_range.out (ap named_out is)

  module _ (lost : Option ℕ) (only : IsLostOnly m.setup.geometry.disks (lost_in m lost) slot new)
      (alone : (d x : ℕ) → lost_in m lost ≡ Some d → named_out m.out ≡ Some x → x ≡ d) (known : (d x : ℕ) → lost_in m lost ≡ Some d → named ≡ Some x → x ≡ d)
      (low : (d : ℕ) → lost_in m lost ≡ Some d → d < m.setup.geometry.disks) where
    by : (o : Option ℕ) → lost_in m lost ≡ o → AreSlotsReady count new last array named (meta_with_lost o m) rows batch
    by None is =
        ready_same count slot new last array named m rows batch ready (λ t r. r.disk)
        (subst (λ (o : Option ℕ). IsLostOnly m.setup.geometry.disks o slot new) is only) (gear_high m ready.in_range) fresh_low
    by (Some d) is =
        ready_lost count slot new last array named m rows batch ready (λ t r. r.disk) (lost_in m lost) only d is (low d is) (λ x k. alone d x is k) (λ x k. known d x is k) (gear_high m ready.in_range)

    pub ready_after : AreSlotsReady count new last array named (meta_with_lost (lost_in m lost) m) rows batch
    ready_after = by (lost_in m lost) refl

    serve_by : CanServe slot named m → (o : Option ℕ) → lost_in m lost ≡ o → CanServe new named (meta_with_lost o m)
    serve_by serve None is =
        serve_same count slot new last array named m rows batch ready (λ t r. r.disk)
        (subst (λ (o : Option ℕ). IsLostOnly m.setup.geometry.disks o slot new) is only) (gear_high m ready.in_range) serve (rise_high m.setup.geometry m.gear m.phase ready.in_range.phase)
    serve_by serve (Some d) is =
        serve_lost count slot new last array named m rows batch ready (λ t r. r.disk) (lost_in m lost) only d is (low d is) (λ x k. alone d x is k) (λ x k. known d x is k) (gear_high m ready.in_range)
        serve (rise_high m.setup.geometry m.gear m.phase ready.in_range.phase)

    pub serve_after : CanServe slot named m → CanServe new named (meta_with_lost (lost_in m lost) m)
    serve_after serve = serve_by serve (lost_in m lost) refl

-- the disk that was lost is marked where it is one of the array
pub lost_in_is : (m : Meta) (lost : Option ℕ) → ((d : ℕ) → lost ≡ Some d → d < m.setup.geometry.disks) → lost_in m lost ≡ lost
lost_in_is m None low = refl
lost_in_is m (Some d) low = let there : nat_lt d m.setup.geometry.disks ≡ true = (let l = low d refl in grind (arith, nat_tests)) in rw there refl

pub lost_in_low : (m : Meta) (lost : Option ℕ) (d : ℕ) → lost_in m lost ≡ Some d → d < m.setup.geometry.disks
lost_in_low m None d is = let z : None ≡ Some d = is in cc
lost_in_low m (Some e) d is = elim (cases_Bool (nat_lt e m.setup.geometry.disks)) [
  | inl low ↦ let z = rw low at is in let y : e ≡ d = some_is e d z in subst (λ (k : ℕ). k < m.setup.geometry.disks) y (grind (arith, nat_tests))
  | inr high ↦ let z = rw high at is in cc
]

pub lost_in_was : (m : Meta) (lost : Option ℕ) (d : ℕ) → lost_in m lost ≡ Some d → lost ≡ Some d
lost_in_was m None d is = is
lost_in_was m (Some e) d is = elim (cases_Bool (nat_lt e m.setup.geometry.disks)) [
  | inl low ↦ rw low at is
  | inr high ↦ let z = rw high at is in cc
]

-- the same facts under equal names
pub ready_moved : (count count_now : ℕ) (slot : ℕ → Slot) (last last_now array array_now : ℕ) (named named_now : Option ℕ) (m m_now : Meta) (rows : ℕ) (batch : Batch)
    → count_now ≡ count → last_now ≡ last → array_now ≡ array → named_now ≡ named → m_now ≡ m → AreSlotsReady count slot last array named m rows batch
    → AreSlotsReady count_now slot last_now array_now named_now m_now rows batch
ready_moved count count_now slot last last_now array array_now named named_now m m_now rows batch ec el ea en em ready =
    subst (λ (z : ℕ). AreSlotsReady z slot last_now array_now named_now m_now rows batch) (sym ec)
    (subst (λ (z : ℕ). AreSlotsReady count slot z array_now named_now m_now rows batch) (sym el)
    (subst (λ (z : ℕ). AreSlotsReady count slot last z named_now m_now rows batch) (sym ea)
    (subst (λ (z : Option ℕ). AreSlotsReady count slot last array z m_now rows batch) (sym en)
    (subst (λ (z : Meta). AreSlotsReady count slot last array named z rows batch) (sym em) ready))))

pub lost_in_there : (m : Meta) (lost : Option ℕ) (d : ℕ) → d < m.setup.geometry.disks → lost ≡ Some d → lost_in m lost ≡ Some d
lost_in_there m None d low is = is
lost_in_there m (Some e) d low is =
    let same : e ≡ d = some_is e d is in
    let there : nat_lt e m.setup.geometry.disks ≡ true = grind (arith, nat_tests) in
    rw there is

-- what a commit leaves of the slots
module _ (m : Meta) (lost : Option ℕ) (slot new : ℕ → Slot) (well : (d : ℕ) → lost ≢ Some d → IsWell (slot d) (new d)) (now_lost : (d : ℕ) → lost ≡ Some d → IsLostNow slot new d) where
  pub commit_lost_only : IsLostOnly m.setup.geometry.disks (lost_in m lost) slot new
  commit_lost_only = record {
    power = λ d l not. (well d (λ is. not (lost_in_there m lost d l is))).power;
    size = λ d l not. (well d (λ is. not (lost_in_there m lost d l is))).size;
    gone = λ d is. (now_lost d (lost_in_was m lost d is)).absent;
  }

-- with nothing staged, under the next epoch
pub ready_next : (count : ℕ) (slot : ℕ → Slot) (last array : ℕ) (named : Option ℕ) (m : Meta) (rows : ℕ) (batch : Batch) → last < 2 ^ 64 - 1 → AreSlotsReady count slot last array named m rows batch
    → AreSlotsReady count slot (last + 1) array (named_out m.out) (record m { epoch = last + 1 }) rows []
ready_next count slot last array named m rows batch low ready = record {
  in_range = next_in_range m last ready.in_range low;
  array_is = ready.array_is;
  epoch_is = refl;
  enough = ready.enough;
  rows_are = ready.rows_are;
  absent = ready.absent;
  one = λ d e p q. some_is d e (sym p ∙ q);
  spins = ready.spins;
  large = ready.large;
  fresh_spins = ready.fresh_spins;
  fresh_large = ready.fresh_large;
  each = All-nil (IsTargetInRange m.setup.geometry);
  can = All-nil (λ (t : Target). (t.disk < count) × (gone_out m.out ≢ Some t.disk → CanWrite slot t.disk t.place));
  apart = λ i j d low high. absurd (omega arith);
}

-- a disk that is out as a commit begins is the one that is down
module _ (named : Option ℕ) (power : ℕ → Power) (array : ℕ) (m : Meta) (is : m.setup.geometry.disks ≡ array) (absent : (d : ℕ) → d < m.setup.geometry.disks → is_present (power d) ≡ false → named_out m.out ≡ Some d)
    (one : (d e : ℕ) → named ≡ Some d → named_out m.out ≡ Some e → d ≡ e) where
  down_known : (n : Option ℕ) (e : ℕ) → n ≡ Some e → or_else n (named_out m.out) ≡ Some e
  down_known (Some d) e was = was
  down_known None e was = let z : None ≡ Some e = was in cc

  out_down : (e : ℕ) → IsOutOfCommit power array named (named_out m.out) e → or_else named (named_out m.out) ≡ Some e
  out_down e (is_absent low gone) = down_named named m one e (absent e (subst (λ (n : ℕ). e < n) (sym is) low) (ap is_present gone))
  out_down e (was_named was) = down_known named e was
  out_down e (is_named now) = down_named named m one e now

  pub two_down : (old new : ℕ → Slot) (two : Two) → AreTwoDownBeside (IsOutOfCommit power array named (named_out m.out)) old new two → AreTwoDown (or_else named (named_out m.out)) old new two
  two_down old new two it = record {
    first = elim it.first [ inl out ↦ inl (out_down two.first out) | inr risen ↦ inr risen ];
    apart = it.apart;
    second = it.second;
  }

pub marked_setup : (o : Option ℕ) (m : Meta) → (meta_with_lost o m).setup ≡ m.setup
marked_setup None m = refl
marked_setup (Some d) m = refl

pub marked_writes : (o : Option ℕ) (m : Meta) → (meta_with_lost o m).writes ≡ m.writes
marked_writes None m = refl
marked_writes (Some d) m = refl
