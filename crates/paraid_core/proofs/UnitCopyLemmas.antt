-- A disk is being rebuilt, and nothing is staged: one more unit of it is copied.
use Rattle.std.specs.Prelude.{◌≡◌, ◌≢◌, ℕ, ◌+◌, ◌-◌, ◌*◌, ◌/◌, ◌<◌, ◌≤◌, ◌⊎◌, nat_lt, Bool, true, false, List, [], Option, Some, length, if◌then◌else◌}
use Rattle.std.proofs.Common.{refl, sym, ◌∙◌, ap, subst, arith, inl, inr}
use Rattle.std.proofs.lemmas.Bool.{cases_eq, cases_lt, false≢true}
use Rattle.std.proofs.lemmas.Bool.Decides.{nat_tests}
use Rattle.std.proofs.lemmas.Nat.{div_below}
use Rattle.paraid_base.specs.declared.block.Block.{Block}
use Rattle.paraid_base.specs.declared.geometry.Geometry.{Geometry}
use Rattle.paraid_base.specs.declared.state.Out.{Out}
use Rattle.paraid_base.specs.declared.state.Out.TheVariants.{Fresh}
use Rattle.paraid_base.specs.History.{History}
use Rattle.paraid_base.specs.Log.{log_least}
use Rattle.paraid_base.specs.Regions.{hard_place_of, map_count, map_place_of, soft_place_of}
use Rattle.paraid_base.specs.Soft.{stripe_count}
use Rattle.paraid_base.specs.States.{rebuilt_count}
use Rattle.paraid_dirty.specs.Table.{is_dirty}
use Rattle.paraid_rack.specs.declared.call.Call.TheVariants.{Write}
use Rattle.paraid_rack.specs.Disks.{Disks, IsPresent, is_present, step, with_at}
use Rattle.paraid_rack.proofs.AtomsLemmas.{with_at_other, with_at_same}
use Rattle.paraid_record.specs.declared.meta.Meta.{Meta}
use Rattle.paraid_record.specs.Range.{IsInRange}
use Rattle.paraid_image.specs.Content.{view_by}
use Rattle.paraid_image.specs.Free.{IsFree}
use Rattle.paraid_image.specs.Free.IsFree.{row, stripe, map_block}
use Rattle.paraid_image.specs.Neutral.{overwrite}
use Rattle.paraid_image.specs.Out.{first_absent, named_out, or_else, out_disk}
use Rattle.paraid_image.specs.Sides.{has_place, is_open, stored_block}
use Rattle.paraid_image.specs.Sound.{AreRebuilt, AreRowsZero, AreStripesZero, ContentOk}
use Rattle.paraid_image.specs.Spot.{View, map_disk}
use Rattle.paraid_image.specs.Standing.{Contents, contents}
use Rattle.paraid_image.proofs.AgreeLemmas.{AgreeSeen, content_agrees}
use Rattle.paraid_image.proofs.ContentsLemmas.{contents_here}
use Rattle.paraid_image.proofs.NeutralLemmas.{contents_else, stored_else}
use Rattle.paraid_image.proofs.ViewLemmas.{map_bit_same, map_disk_other}
use Rattle.paraid_moves.specs.Copying.{HoldsWithCopies}
use Rattle.paraid_moves.specs.MoveMetas.{view_with_out}
use Rattle.paraid_moves.proofs.FreePlaceLemmas.{free_places_agree}
use Rattle.paraid_moves.proofs.RunLemmas.{copies_write}
use Rattle.paraid_moves.proofs.UnitLemmas.{map_rebuilt, row_passed, row_rebuilt, stripe_rebuilt}
use Rattle.paraid_core.specs.declared.units.RebuildUnit.{RebuildUnit}
use Rattle.paraid_core.specs.declared.units.RebuildUnit.TheVariants.{Row, Stripe, MapBlock}
use Rattle.paraid_core.specs.CoreInvariant.{HoldsBetweenCalls, IsWitnessBorne, is_copied}
use Rattle.paraid_core.specs.Fills.{KeepsFilled}
use Rattle.paraid_core.specs.Steps.{IsMarkedAt}
use Rattle.paraid_core.specs.Units.{IsRebuilding, IsUnitNumber, KeepsRebuilt, rebuilt_block, rebuilt_place}
use Rattle.paraid_core.proofs.BorneLemmas.{borne_written}
use Rattle.paraid_core.proofs.CallLemmas.{contents_still}
use Rattle.paraid_core.proofs.FreeWriteLemmas.{write_free_is}

-- the last gear has no stripes
pub stripe_below : (n rows a s : ℕ) → 3 ≤ a → a ≤ n → s < stripe_count n rows a → a < n
stripe_below n rows a s low high l = elim (cases_lt a n) [
  | inl below ↦ below
  | inr past ↦
      let is : a ≡ n = omega arith in
      let none : (rows * (n - a) + (a - 2)) / (a - 1) < 1 = div_below (rows * (n - a) + (a - 2)) (a - 1) 1 (omega arith) (let z : n - a ≡ 0 = omega arith in rw z (omega arith)) in
      absurd (omega arith)
]

units_before : (d gear count : ℕ) → d < gear → (if nat_lt d gear then count else 0) ≡ count
units_before d gear count l = let t : nat_lt d gear ≡ true = grind (arith, nat_tests) in rw t refl

-- the place of a unit that is not marked is free
pub free_unit : (v : View) (m : Meta) (d units number : ℕ) → v.meta.setup ≡ m.setup → v.meta.gear ≡ m.gear → v.meta.out ≡ Fresh d units → units ≤ number
    → (unit : RebuildUnit) → IsUnitNumber m d number unit → IsFree v d (rebuilt_place m unit)
free_unit v m d units number es eg eo from (Row r) is =
    row units r eo (let e = is.1 in omega arith) (subst (λ (z : _). r < z.geometry.rows) (sym es) is.0) (ap (λ (z : _). hard_place_of z.geometry r) (sym es))
free_unit v m d units number es eg eo from (Stripe s) is =
    stripe units s eo (subst (λ (z : _). units ≤ z.geometry.rows + s) (sym es) (let e = is.1.1 in omega arith))
    (subst (λ (a : ℕ). s < (if nat_lt d a then stripe_count v.meta.setup.geometry.disks v.meta.setup.geometry.rows a else 0)) (sym eg)
    (subst (λ (z : _). s < (if nat_lt d m.gear then stripe_count z.geometry.disks z.geometry.rows m.gear else 0)) (sym es)
    (rw (units_before d m.gear (stripe_count m.setup.geometry.disks m.setup.geometry.rows m.gear) is.0) is.1.0)))
    (ap (λ (z : _). soft_place_of z.geometry m.gear s) (sym es) ∙ ap (λ (a : ℕ). soft_place_of v.meta.setup.geometry a s) (sym eg))
free_unit v m d units number es eg eo from (MapBlock j) is =
    map_block units j eo (subst (λ (z : _). j < map_count z.geometry) (sym es) is.1.0)
    (subst (λ (a : ℕ). units ≤ v.meta.setup.geometry.rows + (if nat_lt d a then stripe_count v.meta.setup.geometry.disks v.meta.setup.geometry.rows a else 0) + j) (sym eg)
    (subst (λ (z : _). units ≤ z.geometry.rows + (if nat_lt d m.gear then stripe_count z.geometry.disks z.geometry.rows m.gear else 0) + j) (sym es)
    (let e = is.1.1 in omega arith))) refl

-- the block of a unit is written to its place
unit_done : (m : Meta) (d p number : ℕ) (f after : Contents) → IsInRange m → d < m.setup.geometry.disks → ((x q : ℕ) → (x ≡ d → q ≢ p) → after x q ≡ f x q)
    → AreRowsZero (view_with_out m (Some d) f) → AreStripesZero (view_with_out m (Some d) f) → (unit : RebuildUnit) → IsUnitNumber m d number unit → p ≡ rebuilt_place m unit
    → after d p ≡ rebuilt_block (view_with_out m (Some d) f) d unit → AreRebuilt (view_with_out m (Some d) f) d number → AreRebuilt (view_with_out m (Some d) after) d (number + 1)
unit_done m d p number f after range low same rows stripes (Row r) is at stored was =
    subst (λ (z : ℕ). AreRebuilt (view_with_out m (Some d) after) d (z + 1)) (sym is.1)
    (row_rebuilt m d p f after range low same rows stripes r is.0 at stored (subst (AreRebuilt (view_with_out m (Some d) f) d) is.1 was))
unit_done m d p number f after range low same rows stripes (Stripe s) is at stored was =
    subst (λ (z : ℕ). AreRebuilt (view_with_out m (Some d) after) d (z + 1)) (sym is.1.1)
    (stripe_rebuilt m d p f after range low same rows stripes s (rw (units_before d m.gear (stripe_count m.setup.geometry.disks m.setup.geometry.rows m.gear) is.0) is.1.0) at stored
    (subst (AreRebuilt (view_with_out m (Some d) f) d) is.1.1 was))
unit_done m d p number f after range low same rows stripes (MapBlock j) is at stored was =
    subst (λ (z : ℕ). AreRebuilt (view_with_out m (Some d) after) d (z + 1)) (sym is.1.1)
    (map_rebuilt m d p f after range low same rows stripes j is.0 is.1.0 at stored (subst (AreRebuilt (view_with_out m (Some d) f) d) is.1.1 was))

pub rebuilding_out : (m : Meta) (d : ℕ) (s : Disks) → IsRebuilding m d → out_disk s.power m ≡ Some d
rebuilding_out m d s fresh = ap (λ (o : Out). or_else (named_out o) (first_absent s.power m.setup.geometry.disks)) fresh

pub rebuilding_named : (m : Meta) (d : ℕ) → IsRebuilding m d → named_out m.out ≡ Some d
rebuilding_named m d fresh = ap named_out fresh

-- the disk that is rebuilt is the only one
pub rebuilding_one : (m : Meta) (d e units : ℕ) → IsRebuilding m d → m.out ≡ Fresh e units → d ≡ e
rebuilding_one m d e units fresh is = let z : Fresh d (rebuilt_count m.out) ≡ Fresh e units = sym fresh ∙ is in cc

module _ (slots : ℕ) (named : Option ℕ) (m : Meta) (table : List (List Bool)) (copied copied_then : List Bool) (h : History) (lo : ℕ) (number d : ℕ) (unit : RebuildUnit) (b : Block) (s : Disks)
    (in_range : IsInRange m) (fresh : IsRebuilding m d) (low : d < m.setup.geometry.disks) (is_unit : IsUnitNumber m d number unit) (from : rebuilt_count m.out ≤ number)
    (marks : IsMarkedAt copied copied_then d) (past_log : log_least ≤ rebuilt_place m unit) (kr : KeepsRebuilt slots named m table copied h lo number s) where
  abbrev g : Geometry
  g = m.setup.geometry

  abbrev p : ℕ
  p = rebuilt_place m unit

  abbrev k : HoldsBetweenCalls slots named m table [] copied h lo s
  k = kr.keeps

  abbrev u : Disks
  u = record s { block = with_at s.block d (with_at (s.block d) p b); loose = with_at s.loose d (with_at (s.loose d) p true) }

  abbrev f : Contents
  f = contents s []

  abbrev after : Contents
  after = contents u []

  out_is : out_disk s.power m ≡ Some d
  out_is = rebuilding_out m d s fresh

  elsewhere : (x q : ℕ) → (x ≡ d → q ≢ p) → after x q ≡ f x q
  elsewhere x q apart =
      ap (λ (c : Contents). c x q) (contents_still slots named m table [] copied h lo (overwrite s d p b) u.loose) ∙ contents_else s d p b [] x q apart

  named_is : (e : ℕ) → named_out m.out ≡ Some e → out_disk s.power m ≡ Some e
  named_is e is = out_is ∙ sym (rebuilding_named m d fresh) ∙ is

  free : IsFree (view_by m s.power f) d p
  free = free_unit (view_by m s.power f) m d (rebuilt_count m.out) number refl refl fresh from unit is_unit

  free_base : IsFree (view_by k.base s.power k.held) d p
  free_base = free_unit (view_by k.base s.power k.held) m d (rebuilt_count m.out) number (sym k.next.setup) kr.shift.gear (kr.shift.rebuilt d (rebuilt_count m.out) fresh) from unit is_unit

  agree : AgreeSeen (view_by m s.power f) s.power after
  agree = free_places_agree (view_by m s.power f) s.power after in_range named_is only
    where
      only : (x q : ℕ) → IsFree (view_by m s.power f) x q ⊎ (after x q ≡ f x q)
      only x q = elim (cases_eq x d) [
        | inr apart ↦ inr (elsewhere x q (λ is. absurd (apart is)))
        | inl same ↦ elim (cases_eq q p) [
          | inr apart ↦ inr (elsewhere x q (λ is. apart))
          | inl here ↦ inl (subst (λ (y : ℕ). IsFree (view_by m s.power f) y q) (sym same) (subst (IsFree (view_by m s.power f) d) (sym here) free))
        ]
      ]

  copies_then : HoldsWithCopies slots k.base k.held h lo u
  copies_then = subst (HoldsWithCopies slots k.base k.held h lo) (write_free_is s d p b) (copies_write slots k.base k.held h lo s d p b (record { copies = k.copies; free = free_base }))

  staged_then : ContentOk slots s.power s.size (view_by m s.power after) h (length h)
  staged_then =
      content_agrees m (out_disk s.power m) f after s.power in_range (λ e units is. named_is e (ap named_out is.is)) agree slots s.size h (length h) k.staged

  map_off : map_disk (out_disk s.power m) ≢ d
  map_off is = map_disk_other d (ap map_disk (sym out_is) ∙ is)

  dirty_then : (r e : ℕ) → r < 512 * map_count g → is_dirty table r e ≡ (view_by m s.power after).dirty r e
  dirty_then r e l =
      k.dirty r e l
      ∙ map_bit_same g (f (map_disk (out_disk s.power m))) (after (map_disk (out_disk s.power m))) r e (sym (elsewhere (map_disk (out_disk s.power m)) (map_place_of g r) (λ is. absurd (map_off is))))

  synced_then : (x q : ℕ) → IsPresent u x → (x < g.disks → is_copied copied_then x ≡ false) → u.loose x q ≡ false
  synced_then x q here synced = elim (cases_eq x d) [
    | inl is ↦ absurd (false≢true (sym (synced (subst (λ (y : ℕ). y < g.disks) (sym is) low)) ∙ ap (is_copied copied_then) is ∙ marks.here))
    | inr apart ↦ ap (λ (l : ℕ → Bool). l q) (with_at_other s.loose d (with_at (s.loose d) p true) x apart) ∙ k.synced x q here (λ l. sym (marks.others x apart) ∙ synced l)
  ]

  gate_still : (x : ℕ) → stored_block u x 0 ≡ stored_block s x 0
  unfolding stored_block
  gate_still x = stored_else s d p b x 0 (λ is. λ here. absurd (omega arith))

  borne_then : IsWitnessBorne named u
  borne_then = subst (IsWitnessBorne named) (write_free_is s d p b) (borne_written named s k.borne d p b true (omega arith))

  unfoldable keeps_unit : HoldsBetweenCalls slots named m table [] copied_then h lo u
  keeps_unit = record {
    base = k.base;
    held = k.held;
    copies = copies_then;
    synced = synced_then;
    named_by = k.named_by;
    borne = borne_then;
    epoch = k.epoch;
    next = record {
      epoch = k.next.epoch;
      setup = k.next.setup;
      out = k.next.out;
      comes_in = k.next.comes_in;
      fresh_closed = λ x n is l. ap is_open (gate_still x) ∙ k.next.fresh_closed x n (record { is = is.is; present = is.present }) l;
    };
    writes = k.writes;
    brought = k.brought;
    staged = staged_then;
    dirty = dirty_then;
  }

  pub unit_kept : HoldsBetweenCalls slots named m table [] copied_then h lo (step (Write d p b true) s)
  unit_kept = subst (HoldsBetweenCalls slots named m table [] copied_then h lo) (sym (write_free_is s d p b)) keeps_unit

  -- its block is what the unit stores
  module _ (there : has_place s d p ≡ true) (here : is_present (s.power d) ≡ true) (block_is : b ≡ rebuilt_block (view_by m s.power f) d unit) where
    written : after d p ≡ b
    written = contents_here u [] d p past_log there ∙ ap (λ (z : ℕ → Block). z p) (with_at_same s.block d (with_at (s.block d) p b) d refl) ∙ with_at_same (s.block d) p b p refl

    stored : after d p ≡ rebuilt_block (view_with_out m (Some d) f) d unit
    stored = written ∙ block_is ∙ ap (λ (o : Option ℕ). rebuilt_block (view_with_out m o f) d unit) out_is

    rebuilt_then : AreRebuilt (view_with_out m (Some d) after) d (number + 1)
    rebuilt_then =
        unit_done m d p number f after in_range low elsewhere (subst (λ (o : Option ℕ). AreRowsZero (view_with_out m o f)) out_is k.staged.kept.rows)
        (subst (λ (o : Option ℕ). AreStripesZero (view_with_out m o f)) out_is k.staged.kept.stripes) unit is_unit refl stored
        (subst (λ (o : Option ℕ). AreRebuilt (view_with_out m o f) d number) out_is (kr.rebuilt d (rebuilt_count m.out) (record { is = fresh; present = here })))

    written_then : KeepsRebuilt slots named m table copied_then h lo (number + 1) u
    unfolding keeps_unit
    written_then = record {
      keeps = keeps_unit;
      shift = record { gear = kr.shift.gear; rises = kr.shift.rises; fresh = kr.shift.fresh; phase = kr.shift.phase; fill = kr.shift.fill; rebuilt = kr.shift.rebuilt };
      rebuilt = λ e units is.
          subst (λ (x : ℕ). AreRebuilt (view_by m s.power after) x (number + 1)) (rebuilding_one m d e units fresh is.is)
          (subst (λ (o : Option ℕ). AreRebuilt (view_with_out m o after) d (number + 1)) (sym out_is) rebuilt_then);
    }

    pub unit_written : KeepsRebuilt slots named m table copied_then h lo (number + 1) (step (Write d p b true) s)
    unit_written = subst (KeepsRebuilt slots named m table copied_then h lo (number + 1)) (sym (write_free_is s d p b)) written_then

-- a dirty cell of a disk from the gear on is passed over
pub unit_passed : (slots : ℕ) (named : Option ℕ) (m : Meta) (table : List (List Bool)) (copied : List Bool) (h : History) (lo : ℕ) (number d : ℕ) (s : Disks)
    → IsInRange m → IsRebuilding m d → d < m.setup.geometry.disks → number < m.setup.geometry.rows → m.gear ≤ d → is_dirty table number d ≡ true
    → KeepsRebuilt slots named m table copied h lo number s → KeepsRebuilt slots named m table copied h lo (number + 1) s
unit_passed slots named m table copied h lo number d s range fresh low lr high dirty kr = record {
  keeps = kr.keeps;
  shift = kr.shift;
  rebuilt = λ e units is.
      let same = rebuilding_one m d e units fresh is.is in
      let out_is = rebuilding_out m d s fresh in
      let bit : (view_with_out m (Some d) (contents s [])).dirty number d ≡ true =
      ap (λ (o : Option ℕ). (view_with_out m o (contents s [])).dirty number d) (sym out_is) ∙ sym (kr.keeps.dirty number d (omega arith)) ∙ dirty in
      let was = subst (λ (o : Option ℕ). AreRebuilt (view_with_out m o (contents s [])) d number) out_is
      (kr.rebuilt d units (record { is = subst (λ (x : ℕ). m.out ≡ Fresh x units) (sym same) is.is; present = ap (λ (x : ℕ). is_present (s.power x)) same ∙ is.present })) in
      subst (λ (x : ℕ). AreRebuilt (view_by m s.power (contents s [])) x (number + 1)) same
      (subst (λ (o : Option ℕ). AreRebuilt (view_with_out m o (contents s [])) d (number + 1)) (sym out_is)
      (row_passed m d 0 (contents s []) (contents s []) range low (λ x q apart. refl) number lr high bit was));
}

pub units_begin : (slots : ℕ) (named : Option ℕ) (m : Meta) (table : List (List Bool)) (copied : List Bool) (h : History) (lo : ℕ) (s : Disks) → KeepsFilled slots named m table copied h lo m.fill s
    → KeepsRebuilt slots named m table copied h lo (rebuilt_count m.out) s
units_begin slots named m table copied h lo s kf = record {
  keeps = kf.keeps;
  shift = kf.shift;
  rebuilt = λ d units is.
      subst (AreRebuilt (view_by m s.power (contents s [])) d) (ap rebuilt_count (sym is.is)) (kf.keeps.staged.kept.rebuilt d units is);
}

pub stripes_after_units : (slots : ℕ) (named : Option ℕ) (m : Meta) (table : List (List Bool)) (copied : List Bool) (h : History) (lo end : ℕ) (s : Disks)
    → KeepsRebuilt slots named m table copied h lo end s → KeepsFilled slots named m table copied h lo m.fill s
stripes_after_units slots named m table copied h lo end s kr = record { keeps = kr.keeps; shift = kr.shift; filled = λ t from low. absurd (omega arith) }
