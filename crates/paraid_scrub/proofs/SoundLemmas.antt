-- What is kept well has nothing false.
use Rattle.std.specs.Prelude.{◌≡◌, ℕ, ◌<◌, ◌≤◌, true, IsTrue, Option, Some, None}
use Rattle.std.proofs.Common.{refl, sym, ◌∙◌, ap, subst, arith}
use Rattle.std.proofs.lemmas.Bool.Decides.{nat_tests}
use Rattle.paraid_base.specs.declared.state.Out.{Out}
use Rattle.paraid_base.specs.declared.state.Out.TheVariants.{No, Gone, Fresh}
use Rattle.paraid_base.specs.History.{History}
use Rattle.paraid_base.specs.Regions.{map_count}
use Rattle.paraid_base.specs.Soft.{stripe_count}
use Rattle.paraid_base.specs.States.{rebuilt_count}
use Rattle.paraid_rack.specs.declared.call.Power.{Power}
use Rattle.paraid_record.specs.declared.meta.Meta.{Meta}
use Rattle.paraid_image.specs.Content.{view_by}
use Rattle.paraid_image.specs.Out.{first_absent, named_out, or_else, out_disk}
use Rattle.paraid_image.specs.Sound.{IsWellKept}
use Rattle.paraid_image.specs.Spot.{View}
use Rattle.paraid_image.specs.Standing.{Contents, contents}
use Rattle.paraid_rack.specs.Disks.{Disks, is_present}
use Rattle.paraid_rack.specs.Slots.{Agrees, Slot}
use Rattle.paraid_txn.specs.Stores.{store_rack}
use Rattle.paraid_core.specs.declared.staged.Core.{Core}
use Rattle.paraid_core.specs.Cores.{CoreStandsFor}
use Rattle.paraid_scrub.specs.Cores.{CanBeChecked, core_view}
use Rattle.paraid_scrub.specs.declared.kind.CheckReport.{CheckReport}
use Rattle.paraid_scrub.specs.declared.kind.Kind.TheVariants.{Row, Stripe, Fill, Unit as RebuiltUnit, Mirror}
use Rattle.paraid_scrub.specs.Counts.{AreCounts, CountBelow, IsOff, IsUnitRight, is_whole_below, no_faults, part, total}
use Rattle.paraid_scrub.specs.Counts.CountBelow.{none, one, other}
use Rattle.paraid_scrub.proofs.KindLemmas.{out_past, whole_below, whole_none}

-- where no member is false, none is counted
pub count_zero : (P : ℕ → Type 0) (n k : ℕ) → CountBelow P n k → ((at : ℕ) → at < n → P at → ⊥) → k ≡ 0
count_zero P n k none right = refl
count_zero P n k (one at found off rest) right = absurd (right at (omega arith) off)
count_zero P n k (other at found not rest) right = count_zero P at found rest (λ x l. right x (omega (arith, l)))

part_low : (seen from size at : ℕ) → at < part seen from size → at < size
part_low seen from size at l = grind (arith)

named_first : (power : ℕ → Power) (m : Meta) (d : ℕ) → named_out m.out ≡ Some d → out_disk power m ≡ Some d
named_first power m d is = ap (λ (o : Option ℕ). or_else o (first_absent power m.setup.geometry.disks)) is

module _ (slots : ℕ) (power : ℕ → Power) (size : ℕ → ℕ) (m : Meta) (f : Contents) (kept : IsWellKept slots power size (view_by m power f)) (there : (d u : ℕ) → m.out ≡ Fresh d u → is_present (power d) ≡ true) where
  abbrev v : View
  v = view_by m power f

  row_right : (at : ℕ) → at < total v.meta v.out Row → IsOff v Row at → ⊥
  row_right at l off = off (kept.rows at (whole_none v.out m.setup.geometry.rows at l).1)

  stripe_right : (at : ℕ) → at < total v.meta v.out Stripe → IsOff v Stripe at → ⊥
  stripe_right at l off =
      let w = whole_below v.out m.gear (stripe_count m.setup.geometry.disks m.setup.geometry.rows m.gear) at l in
      off (kept.stripes (off_by v.out m.gear w.0) at w.1)
    where
      off_by : (o : Option ℕ) (a : ℕ) → IsTrue (is_whole_below o a) → (d : ℕ) → o ≡ Some d → a ≤ d
      off_by None a is d out = let z : None ≡ Some d = out in cc
      off_by (Some x) a is d out =
          let z : Some x ≡ Some d = out in
          let e : x ≡ d = cc in
          let past : a ≤ x = grind (arith, nat_tests) in
          omega (arith, past, e)

  fill_right : (at : ℕ) → at < total v.meta v.out Fill → IsOff v Fill at → ⊥
  fill_right at l off =
      let w = whole_none v.out m.fill at l in
      let filled = kept.filled w.0 at w.1 in
      off (record { cells = filled.cells; zero = filled.zero })

  unit_right : (at : ℕ) → at < total v.meta v.out RebuiltUnit → IsOff v RebuiltUnit at → ⊥
  unit_right at l off = by m.out refl l
    where
      by : (o : Out) → m.out ≡ o → at < rebuilt_count o → ⊥
      by No is low = absurd (omega (arith, low))
      by (Gone d) is low = absurd (omega (arith, low))
      by (Fresh d u) is low = off (λ e out.
          let first = named_first power m d (ap named_out is) in
          let z : Some d ≡ Some e = sym first ∙ out in
          let same : d ≡ e = cc in
          let rebuilt = kept.rebuilt d u (record { is = is; present = there d u is }) in
          subst (λ (x : ℕ). IsUnitRight v x at) same (record {
            row = λ lr clean. rebuilt.rows at lr low clean;
            stripe_of = λ s ls here. rebuilt.stripes s ls (omega (arith, low, here));
            map_block = λ j log lj here. rebuilt.map_blocks j log lj (omega (arith, low, here));
          }))

  mirror_right : (at : ℕ) → at < total v.meta v.out Mirror → IsOff v Mirror at → ⊥
  mirror_right at l off =
      let w = whole_below v.out 2 (map_count m.setup.geometry) at l in
      off (kept.map.mirrored at w.1 (out_past v.out 2 0 w.0 (omega arith)) (out_past v.out 2 1 w.0 (omega arith)))

  pub sound_zero : (seen : ℕ) (report : CheckReport) → AreCounts v seen report → report ≡ no_faults
  sound_zero seen report counts =
      let rows = count_zero (IsOff v Row) _ _ counts.rows (λ at l. row_right at (part_low seen _ _ at l)) in
      let stripes = count_zero (IsOff v Stripe) _ _ counts.stripes (λ at l. stripe_right at (part_low seen _ _ at l)) in
      let fill = count_zero (IsOff v Fill) _ _ counts.fill (λ at l. fill_right at (part_low seen _ _ at l)) in
      let units = count_zero (IsOff v RebuiltUnit) _ _ counts.units (λ at l. unit_right at (part_low seen _ _ at l)) in
      let mirrors = count_zero (IsOff v Mirror) _ _ counts.mirrors (λ at l. mirror_right at (part_low seen _ _ at l)) in
      same_report report rows stripes fill units mirrors
    where
      same_report : (r : CheckReport) → r.rows ≡ 0 → r.stripes ≡ 0 → r.fill ≡ 0 → r.units ≡ 0 → r.mirrors ≡ 0 → r ≡ no_faults
      same_report r a b c d e = λ i. record { rows = a i; stripes = b i; fill = c i; units = d i; mirrors = e i }

-- a core that stands for some writes has nothing false
pub sound_core_zero : {R : Type 0} {g : _} (count : R → ℕ) (slot : R → ℕ → Slot) (core : Core R g) → CanBeChecked count slot core → (s : Disks) → Agrees s (slot (store_rack core.store)) → (h : History) (lo : ℕ) → CoreStandsFor count core h lo s
    → (seen : ℕ) (report : CheckReport) → AreCounts (core_view core s) seen report → report ≡ no_faults
sound_core_zero count slot core can s agrees h lo stands seen report counts =
    sound_zero (count (store_rack core.store)) s.power s.size core.meta (contents s core.batch) stands.staged.kept
    (λ d u is. ap is_present (agrees.power d ∙ can.fresh d (is ∙ ap (Fresh d) (sym (ap rebuilt_count is))))) seen report counts
