-- A stripe is copied, block by block.
use Rattle.paraid_image.specs.Mark.{meta_after_loss}
use Rattle.std.specs.Prelude.{◌≡◌, ◌≢◌, ℕ, ◌+◌, ◌-◌, ◌*◌, ◌<◌, ◌≤◌, ◌⊎◌, nat_lt, Bool, true, false, List, [], ◌∷◌, Option, Some, None, length}
use Rattle.std.proofs.Common.{refl, sym, ◌∙◌, ap, subst, arith, inl, inr}
use Rattle.std.proofs.lemmas.Bool.{cases_Bool, cases_eq, cases_lt, false≢true}
use Rattle.std.proofs.lemmas.Bool.Decides.{nat_tests}
use Rattle.paraid_base.specs.declared.block.Block.{Block}
use Rattle.paraid_base.specs.declared.geometry.Geometry.{Geometry}
use Rattle.paraid_base.specs.declared.state.Out.TheVariants.{Fresh, No}
use Rattle.paraid_base.specs.declared.state.Phase.{Phase}
use Rattle.paraid_base.specs.declared.state.Phase.TheVariants.{Steady, Down, Up}
use Rattle.paraid_base.specs.History.{History}
use Rattle.paraid_base.specs.Log.{log_least}
use Rattle.paraid_base.specs.Regions.{map_count, map_place_of, soft_place_of}
use Rattle.paraid_base.specs.Soft.{disk_of_number, number_at, row_of_number, soft_parity_disk, stripe_count}
use Rattle.paraid_base.specs.States.{phase_to}
use Rattle.paraid_base.specs.Skips.{index_among}
use Rattle.paraid_base.proofs.SoftLemmas.{disk_of_number_below, row_of_number_below}
use Rattle.paraid_base.proofs.SumsLemmas.{others_same}
use Rattle.paraid_dirty.specs.Table.{is_dirty}
use Rattle.paraid_rack.specs.declared.call.Call.TheVariants.{Write}
use Rattle.paraid_rack.specs.declared.call.Power.TheVariants.{Spinning}
use Rattle.paraid_rack.specs.Slots.{Agrees, Slot}
use Rattle.paraid_rack.specs.Told.{GrowsByCall, Ran, CrashTriple}
use Rattle.paraid_rack.specs.Trail.{Trail, now}
use Rattle.paraid_rack.specs.Disks.{Disks, IsPresent, is_present, step, with_at}
use Rattle.paraid_rack.proofs.AtomsLemmas.{with_at_other, with_at_same}
use Rattle.paraid_record.specs.declared.meta.Meta.{Meta}
use Rattle.paraid_record.specs.Range.{IsInRange, IsPhaseInRange, fill_limit}
use Rattle.paraid_image.specs.Content.{view_by}
use Rattle.paraid_image.specs.Free.{IsFree, IsShiftTo}
use Rattle.paraid_image.specs.Free.IsFree.{unfilled}
use Rattle.paraid_image.specs.Neutral.{overwrite}
use Rattle.paraid_image.specs.Out.{named_out, out_disk}
use Rattle.paraid_image.specs.Sides.{Batch, has_place}
use Rattle.paraid_image.specs.Sound.{ContentOk, IsFilled}
use Rattle.paraid_image.specs.Spot.{map_bit, map_disk}
use Rattle.paraid_image.specs.Standing.{Contents, contents}
use Rattle.paraid_image.proofs.AgreeLemmas.{AgreeSeen}
use Rattle.paraid_image.proofs.NeutralLemmas.{contents_else}
use Rattle.paraid_image.proofs.ViewLemmas.{map_bit_same}
use Rattle.paraid_moves.specs.Copying.{HoldsWithCopies}
use Rattle.paraid_moves.specs.MoveMetas.{copied_value, copies, view_with_out, copied_block}
use Rattle.paraid_moves.proofs.FreePlaceLemmas.{content_laid, filled_stays, free_places_agree, stripe_filled, value_agrees}
use Rattle.paraid_moves.proofs.RunLemmas.{copies_write}
use Rattle.paraid_txn.specs.Stores.{named_of, store_rack}
use Rattle.paraid_core.specs.declared.staged.Core.{Core}
use Rattle.paraid_core.specs.Fills.{Filled, Filling, IsFilling, KeepsFilled, member}
use Rattle.paraid_core.specs.Cores.{IsCoreHeldSinceCommit}
use Rattle.paraid_core.specs.Steps.{IsMarkedAt, LeavesCore}
use Rattle.paraid_core.specs.CoreInvariant.{IsHeldWithOneMissing, IsWitnessBorne, HoldsBetweenCalls, is_copied}
use Rattle.paraid_core.proofs.BorneLemmas.{borne_written}
use Rattle.paraid_core.proofs.CallLemmas.{contents_still, failed_held, keeps_held, keeps_marked}
use Rattle.paraid_core.proofs.LostDiskLemmas.{keeps_failed, out_all}
use Rattle.paraid_core.proofs.SettleLemmas.{self_at}
use Rattle.paraid_core.proofs.StepLemmas.{held_runs_then}
use Rattle.paraid_rack.proofs.TrailsLemmas.{weaker}

shift_is : (p : Phase) (to : ℕ) → phase_to p ≡ to → 0 < to → IsShiftTo p to
shift_is Steady to is low = absurd (omega arith)
shift_is (Down t) to is low = inl (ap Down is)
shift_is (Up t) to is low = inr (ap Up is)

pub shift_low : (m : Meta) → IsInRange m → 0 < phase_to m.phase → 3 ≤ phase_to m.phase
shift_low m range low = by m.phase range.phase low
  where
    by : (p : Phase) → IsPhaseInRange m.setup.geometry m.gear p → 0 < phase_to p → 3 ≤ phase_to p
    by Steady is none = absurd (omega arith)
    by (Down to) is none = m.setup.geometry.gears_low to is.lower_gear
    by (Up to) is none = m.setup.geometry.gears_low to is.higher_gear

pub limit_is : (g : Geometry) (p : Phase) → 0 < phase_to p → fill_limit g p ≡ stripe_count g.disks g.rows (phase_to p)
limit_is g Steady low = absurd (omega arith)
limit_is g (Down to) low = refl
limit_is g (Up to) low = refl

written_here : (u : Disks) (e p : ℕ) (b : Block) → has_place u e p ≡ true → log_least ≤ p → u.block e p ≡ b → contents u [] e p ≡ b
unfolding contents
written_here u e p b there far is = let past : nat_lt p log_least ≡ false = grind (arith, nat_tests) in rw (past, there) is

-- With no disk out, one more block of the next stripe is written.
module _ (slots : ℕ) (named : Option ℕ) (m : Meta) (table : List (List Bool)) (copied copied_then : List Bool) (h : History) (lo : ℕ) (at : ℕ) (s : Disks) (e : ℕ) (b : Block)
    (in_range : IsInRange m) (all_in : m.out ≡ No) (none : out_disk s.power m ≡ None) (shifts : 0 < phase_to m.phase) (from : m.fill ≤ at) (low : at < stripe_count m.setup.geometry.disks m.setup.geometry.rows (phase_to m.phase))
    (below : e < m.setup.geometry.disks) (marks : IsMarkedAt copied copied_then e) (kf : KeepsFilled slots named m table copied h lo at s) where
  abbrev g : Geometry
  g = m.setup.geometry

  abbrev to : ℕ
  to = phase_to m.phase

  abbrev p : ℕ
  p = soft_place_of g to at

  abbrev k : HoldsBetweenCalls slots named m table [] copied h lo s
  k = kf.keeps

  abbrev u : Disks
  u = record s { block = with_at s.block e (with_at (s.block e) p b); loose = with_at s.loose e (with_at (s.loose e) p true) }

  step_is : step (Write e p b true) s ≡ u
  unfolding step
  step_is = λ i. record { power = self_at s.power e i; size = self_at s.size e i; block = u.block; loose = u.loose }

  abbrev f : Contents
  f = contents s []

  abbrev after : Contents
  after = contents u []

  elsewhere : (x q : ℕ) → (x ≡ e → q ≢ p) → after x q ≡ f x q
  elsewhere x q apart =
      ap (λ (c : Contents). c x q) (contents_still slots named m table [] copied h lo (overwrite s e p b) u.loose) ∙ contents_else s e p b [] x q apart

  free : IsFree (view_with_out m None f) e p
  free = unfilled to at (shift_is m.phase to refl shifts) from low refl

  agree : AgreeSeen (view_with_out m None f) s.power after
  agree = free_places_agree (view_with_out m None f) s.power after in_range (λ x is. let z : None ≡ Some x = ap named_out (sym all_in) ∙ is in cc) only
    where
      only : (x q : ℕ) → IsFree (view_with_out m None f) x q ⊎ (after x q ≡ f x q)
      only x q = elim (cases_eq x e) [
        | inr apart ↦ inr (elsewhere x q (λ is. absurd (apart is)))
        | inl same ↦ elim (cases_eq q p) [
          | inr apart ↦ inr (elsewhere x q (λ is. apart))
          | inl here ↦ inl (subst (λ (y : ℕ). IsFree (view_with_out m None f) y q) (sym same) (subst (IsFree (view_with_out m None f) e) (sym here) free))
        ]
      ]

  free_base : IsFree (view_by k.base s.power k.held) e p
  free_base =
      let setup = k.next.setup in
      unfilled to at (subst (λ (z : Phase). IsShiftTo z to) (sym (kf.shift.phase all_in)) (shift_is m.phase to refl shifts)) (let z = kf.shift.fill all_in in omega arith)
      (subst (λ (z : _). at < stripe_count z.geometry.disks z.geometry.rows to) setup low) (ap (λ (z : _). soft_place_of z.geometry to at) setup)

  copies_then : HoldsWithCopies slots k.base k.held h lo u
  copies_then = subst (HoldsWithCopies slots k.base k.held h lo) step_is (copies_write slots k.base k.held h lo s e p b (record { copies = k.copies; free = free_base }))

  staged_then : ContentOk slots s.power s.size (view_by m s.power after) h (length h)
  staged_then =
      subst (λ (o : Option ℕ). ContentOk slots s.power s.size (record { meta = m; dirty = map_bit g (after (map_disk o)); out = o; block = after }) h (length h)) (sym none)
      (content_laid m s.power f after in_range all_in agree slots s.size h (length h)
      (subst (λ (o : Option ℕ). ContentOk slots s.power s.size (record { meta = m; dirty = map_bit g (f (map_disk o)); out = o; block = f }) h (length h)) none k.staged))

  dirty_then : (r d : ℕ) → r < 512 * map_count g → is_dirty table r d ≡ (view_by m s.power after).dirty r d
  dirty_then r d l =
      k.dirty r d l ∙ ap (λ (o : Option ℕ). map_bit g (f (map_disk o)) r d) none
      ∙ map_bit_same g (f 0) (after 0) r d (sym (elsewhere 0 (map_place_of g r) (λ is. λ here. absurd (omega arith))))
      ∙ sym (ap (λ (o : Option ℕ). map_bit g (after (map_disk o)) r d) none)

  synced_then : (x q : ℕ) → IsPresent u x → (x < g.disks → is_copied copied_then x ≡ false) → u.loose x q ≡ false
  synced_then x q here synced = elim (cases_eq x e) [
    | inl is ↦ absurd (false≢true (sym (synced (subst (λ (y : ℕ). y < g.disks) (sym is) below)) ∙ ap (is_copied copied_then) is ∙ marks.here))
    | inr apart ↦ ap (λ (l : ℕ → Bool). l q) (with_at_other s.loose e (with_at (s.loose e) p true) x apart) ∙ k.synced x q here (λ l. sym (marks.others x apart) ∙ synced l)
  ]

  borne_then : IsWitnessBorne named u
  borne_then = subst (IsWitnessBorne named) step_is (borne_written named s k.borne e p b true (omega arith))

  keeps_then : HoldsBetweenCalls slots named m table [] copied_then h lo u
  keeps_then = record {
    base = k.base;
    held = k.held;
    copies = copies_then;
    synced = synced_then;
    named_by = k.named_by;
    borne = borne_then;
    epoch = k.epoch;
    next = record {
      epoch = k.next.epoch;
      setup = k.next.setup;
      out = k.next.out;
      comes_in = k.next.comes_in;
      fresh_closed = λ x n fresh l. let z : No ≡ Fresh x n = sym all_in ∙ fresh.is in cc;
    };
    writes = k.writes;
    brought = k.brought;
    staged = staged_then;
    dirty = dirty_then;
  }

  pub kept_then : HoldsBetweenCalls slots named m table [] copied_then h lo (step (Write e p b true) s)
  kept_then = subst (HoldsBetweenCalls slots named m table [] copied_then h lo) (sym step_is) keeps_then

  filled_then : KeepsFilled slots named m table copied_then h lo at u
  unfolding keeps_then
  filled_then = record {
    keeps = keeps_then;
    shift = record { gear = kf.shift.gear; rises = kf.shift.rises; fresh = kf.shift.fresh; phase = kf.shift.phase; fill = kf.shift.fill; rebuilt = kf.shift.rebuilt };
    filled = λ t low_t high. filled_stays m s.power f after in_range all_in agree to t (λ x. elsewhere x (soft_place_of g to t) (λ is. λ here. absurd (omega arith))) (kf.filled t low_t high);
  }

  copied_same : (i : ℕ) → to < g.disks → copied_value (view_with_out m None after) to at i ≡ copied_value (view_with_out m None f) to at i
  unfolding copied_value
  copied_same i region = elim (cases_Bool (nat_lt (number_at to at i) (g.rows * (g.disks - to)))) [
    | inl cell ↦
        let lr = row_of_number_below g.disks to (number_at to at i) g.rows region (grind (arith, nat_tests)) in
        let ld = disk_of_number_below g.disks to (number_at to at i) region in
        rw cell (value_agrees m s.power f after in_range all_in agree (row_of_number g.disks to (number_at to at i)) (disk_of_number g.disks to (number_at to at i)) lr ld)
    | inr pad ↦ rw pad refl
  ]

  stripe_same : (x : ℕ) → to < g.disks → copied_block (view_with_out m None after) to at x ≡ copied_block (view_with_out m None f) to at x
  unfolding copied_block
  stripe_same x region =
      let parity = soft_parity_disk to at in
      let others = others_same (copies (view_with_out m None after) to at) (copies (view_with_out m None f) to at) parity to (λ y l apart. copied_same (index_among parity y) region) in
      rw (others, copied_same (index_among parity x) region) refl

  -- and one more block of it is in place
  pub filling_then : (blocks : List Block) (done : ℕ) → to < g.disks → e ≡ done → b ≡ member blocks e → has_place s e p ≡ true → log_least ≤ p
      → IsFilling slots named m table copied h lo at blocks done s → IsFilling slots named m table copied_then h lo at blocks (done + 1) (step (Write e p b true) s)
  filling_then blocks done region is block there far was = subst (IsFilling slots named m table copied_then h lo at blocks (done + 1)) (sym step_is) (record {
    before = filled_then;
    values = λ x l. was.values x l ∙ sym (stripe_same x region);
    written = λ x l. elim (cases_eq x e) [
      | inl same ↦ ap (λ (y : ℕ). after y p) same ∙ here ∙ block ∙ ap (member blocks) (sym same)
      | inr apart ↦ elsewhere x p (λ k_is. absurd (apart k_is)) ∙ was.written x (omega arith)
    ];
  })
    where
      here : after e p ≡ b
      here = written_here u e p b there far (ap (λ (z : ℕ → Block). z p) (with_at_same s.block e (with_at (s.block e) p b) e refl) ∙ with_at_same (s.block e) p b p refl)

-- All its blocks are in place.
pub filling_done : (slots : ℕ) (named : Option ℕ) (m : Meta) (table : List (List Bool)) (copied : List Bool) (h : History) (lo : ℕ) (at : ℕ) (s : Disks) (blocks : List Block)
    → IsInRange m → m.out ≡ No → 3 ≤ phase_to m.phase → IsFilling slots named m table copied h lo at blocks (phase_to m.phase) s → KeepsFilled slots named m table copied h lo (at + 1) s
filling_done slots named m table copied h lo at s blocks in_range all_in low was = record {
  keeps = was.before.keeps;
  shift = was.before.shift;
  filled = λ t from l. elim (cases_lt t at) [
    | inl before ↦ was.before.filled t from before
    | inr past ↦
        let is : t ≡ at = omega arith in
        subst (IsFilled (view_with_out m None (contents s [])) (phase_to m.phase)) (sym is)
        (stripe_filled m s.power (contents s []) (contents s []) in_range all_in same (phase_to m.phase) at low (λ e le. was.written e le ∙ was.values e le))
  ];
}
  where
    same : AgreeSeen (view_with_out m None (contents s [])) s.power (contents s [])
    same = free_places_agree (view_with_out m None (contents s [])) s.power (contents s []) in_range (λ x is. let z : None ≡ Some x = ap named_out (sym all_in) ∙ is in cc) (λ x q. inr refl)

-- The write of one of its blocks fails.
pub keeps_unwritten : (slots : ℕ) (named : Option ℕ) (m : Meta) (table : List (List Bool)) (batch : Batch) (copied copied_then : List Bool) (h : History) (lo : ℕ) (s : Disks) (e p : ℕ) (b : Block)
    → IsMarkedAt copied copied_then e → (done : Bool) → done ≡ false → IsInRange m → e < m.setup.geometry.disks
    → ((x : ℕ) → x < m.setup.geometry.disks → is_present (s.power x) ≡ false → named_out m.out ≡ Some x) → ((x : ℕ) → named_out m.out ≡ Some x → x ≡ e)
    → ((x : ℕ) → named ≡ Some x → named_out m.out ≡ Some x) → HoldsBetweenCalls slots named m table batch copied h lo s
    → HoldsBetweenCalls slots named (meta_after_loss m e) table batch copied_then h lo (step (Write e p b done) s)
keeps_unwritten slots named m table batch copied copied_then h lo s e p b marks done failed range low absent alone still k =
    let now_is = keeps_failed slots named m table batch copied h lo s (Write e p b done) range low failed absent alone still k in
    keeps_marked slots named (meta_after_loss m e) table batch copied h lo copied_then (step (Write e p b done) s) (λ x q here synced. elim (cases_eq x e) [
      | inl is ↦ absurd (false≢true (sym (synced (subst (λ (y : ℕ). y < m.setup.geometry.disks) (sym is) low)) ∙ ap (is_copied copied_then) is ∙ marks.here))
      | inr apart ↦ now_is.synced x q here (λ l. sym (marks.others x apart) ∙ synced l)
    ]) now_is

-- where the record is told
module _ {R : Type 0} {g : _} (count : R → ℕ) (slot : R → ℕ → Slot) (told : R → Option Trail) (old : Core R g) (told_then : Option Trail) (at e p : ℕ) (b : Block) (ok : Bool)
    (grows : GrowsByCall (told (store_rack old.store)) told_then (Write e p b ok)) (agrees : (t : Trail) → told (store_rack old.store) ≡ Some t → Agrees (now t) (slot (store_rack old.store)))
    (absent : (x : ℕ) → x < old.meta.setup.geometry.disks → is_present (slot (store_rack old.store) x).power ≡ false → named_out old.meta.out ≡ Some x)
    (in_range : IsInRange old.meta) (all_in : old.meta.out ≡ No) (shifts : 0 < phase_to old.meta.phase) (from : old.meta.fill ≤ at)
    (low : at < stripe_count old.meta.setup.geometry.disks old.meta.setup.geometry.rows (phase_to old.meta.phase)) (below : e < old.meta.setup.geometry.disks) (copied_then : List Bool)
    (marks : IsMarkedAt old.copied copied_then e) (place : p ≡ soft_place_of old.meta.setup.geometry (phase_to old.meta.phase) at) where
  abbrev was : Meta
  was = old.meta

  abbrev slots_was : ℕ
  slots_was = count (store_rack old.store)

  abbrev by_name : Option ℕ
  by_name = named_of old.store

  abbrev P : History → ℕ → Disks → Type 0
  P h lo = IsHeldWithOneMissing slots_was was.setup.geometry.disks by_name h lo

  none_at : (s : Disks) → Agrees s (slot (store_rack old.store)) → out_disk s.power was ≡ None
  none_at s a = out_all s.power was (λ x l gone. absent x l (ap is_present (sym (a.power x)) ∙ gone)) ∙ ap named_out all_in

  -- whatever is answered
  pub member_held : (h : History) (lo : ℕ)
      → Ran (told (store_rack old.store)) told_then (CrashTriple (P h lo) (KeepsFilled slots_was by_name was old.dirty old.copied h lo at) (P h lo))
  member_held h lo t tells =
      let r = grows t tells in
      let s = now r.0 in
      record {
        from = r.0;
        was = r.1;
        calls = Write e p b ok ∷ [];
        is = r.2;
        holds = record {
          goes = λ kf.
              let p_then : P h lo (step (Write e p b ok) s) = elim (cases_Bool ok) [
                | inr failed ↦ failed_held slots_was by_name was old.dirty [] old.copied h lo s (Write e p b ok) failed below kf.keeps
                | inl done ↦
                    keeps_held slots_was by_name was old.dirty [] copied_then h lo (step (Write e p b ok) s)
                    (subst (λ (x : Bool). HoldsBetweenCalls slots_was by_name was old.dirty [] copied_then h lo (step (Write e p b x) s)) (sym done)
                    (subst (λ (q : ℕ). HoldsBetweenCalls slots_was by_name was old.dirty [] copied_then h lo (step (Write e q b true) s)) (sym place)
                    (kept_then slots_was by_name was old.dirty old.copied copied_then h lo at s e b in_range all_in (none_at s (agrees r.0 r.1)) shifts from low below marks kf)))
              ] in
              ((keeps_held slots_was by_name was old.dirty [] old.copied h lo s kf.keeps, p_then), p_then);
        };
      }

  -- done
  pub member_written : (slots_then : ℕ) (named_then : Option ℕ) → slots_then ≡ slots_was → named_then ≡ by_name → ok ≡ true → phase_to was.phase < was.setup.geometry.disks → (slot (store_rack old.store) e).power ≡ Spinning → p < (slot (store_rack old.store) e).size → (h : History) (lo : ℕ) (blocks : List Block)
      → b ≡ member blocks e → Ran (told (store_rack old.store)) told_then (CrashTriple (P h lo) (IsFilling slots_was by_name was old.dirty old.copied h lo at blocks e)
      (IsFilling slots_then named_then was old.dirty copied_then h lo at blocks (e + 1)))
  member_written slots_then named_then es en done region spins within h lo blocks block t tells =
      let r = grows t tells in
      let s = now r.0 in
      let a = agrees r.0 r.1 in
      let far : log_least ≤ soft_place_of was.setup.geometry (phase_to was.phase) at = omega arith in
      let here : is_present (s.power e) ≡ true = ap is_present (a.power e ∙ spins) in
      let size = a.size e in
      let there : has_place s e (soft_place_of was.setup.geometry (phase_to was.phase) at) ≡ true = rw here (grind (arith, nat_tests)) in
      record {
        from = r.0;
        was = r.1;
        calls = Write e p b ok ∷ [];
        is = r.2;
        holds = record {
          goes = λ f.
              let next : IsFilling slots_was by_name was old.dirty copied_then h lo at blocks (e + 1) (step (Write e p b ok) s) =
              subst (λ (x : Bool). IsFilling slots_was by_name was old.dirty copied_then h lo at blocks (e + 1) (step (Write e p b x) s)) (sym done)
              (subst (λ (q : ℕ). IsFilling slots_was by_name was old.dirty copied_then h lo at blocks (e + 1) (step (Write e q b true) s)) (sym place)
              (filling_then slots_was by_name was old.dirty old.copied copied_then h lo at s e b in_range all_in (none_at s a) shifts from low below marks f.before blocks e region refl block there far f)) in (
                (keeps_held slots_was by_name was old.dirty [] old.copied h lo s f.before.keeps, keeps_held slots_was by_name was old.dirty [] copied_then h lo (step (Write e p b ok) s) next.before.keeps),
                subst (λ (z : ℕ). IsFilling z named_then was old.dirty copied_then h lo at blocks (e + 1) (step (Write e p b ok) s)) (sym es)
                    (subst (λ (z : Option ℕ). IsFilling slots_was z was old.dirty copied_then h lo at blocks (e + 1) (step (Write e p b ok) s)) (sym en) next),
              );
        };
      }

-- one block after those before it
pub members_held : {R : Type 0} {g : _} (count : R → ℕ) (slot : R → ℕ → Slot) (told : R → Option Trail) (a b c : Core R g) → LeavesCore count slot a b → (at : ℕ) (blocks : List Block) (done : ℕ) (h : History) (lo : ℕ)
    → Ran (told (store_rack a.store)) (told (store_rack b.store)) (CrashTriple (IsCoreHeldSinceCommit count a h lo) (Filling count a h lo at blocks 0) (Filling count b h lo at blocks done))
    → Ran (told (store_rack b.store)) (told (store_rack c.store)) (CrashTriple (IsCoreHeldSinceCommit count b h lo) (Filled count b h lo at) (IsCoreHeldSinceCommit count b h lo))
    → Ran (told (store_rack a.store)) (told (store_rack c.store)) (CrashTriple (IsCoreHeldSinceCommit count a h lo) (Filling count a h lo at blocks 0) (IsCoreHeldSinceCommit count a h lo))
members_held count slot told a b c first at blocks done h lo one two =
    held_runs_then count slot told a b first c (Filling count a h lo at blocks 0) (Filling count b h lo at blocks done) h lo one
    (weaker (IsCoreHeldSinceCommit count b h lo) (Filled count b h lo at) (Filling count b h lo at blocks done) (IsCoreHeldSinceCommit count b h lo) (IsCoreHeldSinceCommit count b h lo) _ _ (λ s f. f.before) (λ s p. p) two)
