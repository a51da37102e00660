-- A stripe is read by value, and then copied.
use Rattle.std.specs.Prelude.{◌≡◌, ◌≢◌, ℕ, ◌-◌, ◌*◌, ◌<◌, ◌⊎◌, ◌++◌, nat_lt, Bool, List, [], Option, Some, None, IsSome}
use Rattle.std.proofs.Common.{refl, sym, ◌∙◌, ap, subst, arith, inl, inr}
use Rattle.std.proofs.lemmas.Bool.{cases_Bool}
use Rattle.std.proofs.lemmas.Bool.Decides.{nat_tests}
use Rattle.paraid_base.specs.declared.block.Block.{Block}
use Rattle.paraid_base.specs.declared.state.Out.TheVariants.{No}
use Rattle.paraid_base.specs.declared.state.Phase.{Phase}
use Rattle.paraid_base.specs.declared.state.Phase.TheVariants.{Steady, Down, Up}
use Rattle.paraid_base.specs.History.{History}
use Rattle.paraid_base.specs.Regions.{IsGear, map_count}
use Rattle.paraid_base.specs.Soft.{disk_of_number, number_at, row_of_number, soft_parity_disk}
use Rattle.paraid_base.specs.States.{phase_to, rising_to}
use Rattle.paraid_base.specs.Skips.{index_among}
use Rattle.paraid_base.proofs.SoftLemmas.{row_of_number_below}
use Rattle.paraid_base.proofs.SumsLemmas.{others_same}
use Rattle.paraid_dirty.specs.Table.{is_dirty}
use Rattle.paraid_rack.specs.declared.call.Power.TheVariants.{Absent}
use Rattle.paraid_rack.specs.Disks.{Disks, is_present}
use Rattle.paraid_rack.specs.Slots.{Agrees, Slot}
use Rattle.paraid_rack.specs.Told.{Ran, CrashTriple}
use Rattle.paraid_rack.specs.Trail.{Trail, now, run}
use Rattle.paraid_rack.proofs.TrailsLemmas.{now-extend, weaker}
use Rattle.paraid_record.specs.declared.meta.Meta.{Meta}
use Rattle.paraid_record.specs.Range.{IsInRange, IsPhaseInRange}
use Rattle.paraid_image.specs.Out.{named_out, out_disk}
use Rattle.paraid_image.specs.Sides.{Batch}
use Rattle.paraid_image.specs.Spot.{map_bit, map_disk}
use Rattle.paraid_image.specs.Standing.{Contents, contents}
use Rattle.paraid_image.specs.Mark.{meta_with_lost}
use Rattle.paraid_moves.specs.MoveMetas.{copied_value, copies, view_with_out, copied_block}
use Rattle.paraid_txn.specs.declared.store.Store.{Store}
use Rattle.paraid_txn.specs.Stores.{disks_of, named_of, store_rack}
use Rattle.paraid_view.specs.Reads.{AreArrayReads, CanRead, HaveRead, ShowsContents, seen_by}
use Rattle.paraid_core.specs.declared.staged.Core.{Core}
use Rattle.paraid_core.specs.Cores.{IsCoreHeldSinceCommit, IsCoreReady, CanCoreServe}
use Rattle.paraid_core.specs.Fills.{Filled, IsFilling, member}
use Rattle.paraid_core.specs.CoreInvariant.{HoldsBetweenCalls, lost_in}
use Rattle.paraid_core.specs.Steps.{IsStillOut, LeavesCore}
use Rattle.paraid_core.proofs.AfterLemmas.{lost_in_there}
use Rattle.paraid_core.proofs.CallLemmas.{call_leaves}
use Rattle.paraid_core.proofs.UnsyncedLemmas.{marks_synced}
use Rattle.paraid_core.proofs.DirtyLemmas.{value_dirty}
use Rattle.paraid_core.proofs.LostDiskLemmas.{out_all}
use Rattle.paraid_core.proofs.ReadyLemmas.{left_lost_only, some_is}
use Rattle.paraid_view.proofs.TwoLemmas.{left_spared, left_synced}
use Rattle.paraid_core.proofs.ReadsLemmas.{reads_moments, reads_same, reads_stand, reads_through, shows_contents, unchanged}

pub gear_to : (m : Meta) → IsInRange m → 0 < phase_to m.phase → IsGear m.setup.geometry (phase_to m.phase)
gear_to m range low = by m.phase range.phase low
  where
    by : (p : Phase) → IsPhaseInRange m.setup.geometry m.gear p → 0 < phase_to p → IsGear m.setup.geometry (phase_to p)
    by Steady is none = absurd (omega arith)
    by (Down to) is none = is.lower_gear
    by (Up to) is none = is.higher_gear

-- the disks below the new gear are powered
pub to_powered : (m : Meta) (d : ℕ) → IsInRange m → d < phase_to m.phase → (d < m.gear) ⊎ (d < rising_to m.phase)
to_powered m d range low = by m.phase range.phase low
  where
    by : (p : Phase) → IsPhaseInRange m.setup.geometry m.gear p → d < phase_to p → (d < m.gear) ⊎ (d < rising_to p)
    by Steady is none = absurd (omega arith)
    by (Down to) is l = let b = is.below in inl (omega arith)
    by (Up to) is l = inr l

-- the dirty bits of the table are those of the map
module _ (m : Meta) (table : List (List Bool)) (f : Contents) (bits : (r d : ℕ) → r < 512 * map_count m.setup.geometry → is_dirty table r d ≡ map_bit m.setup.geometry (f 0) r d) (a at : ℕ) (region : a < m.setup.geometry.disks) where
  copied_bits : (i : ℕ) → copied_value (seen_by m table None f) a at i ≡ copied_value (view_with_out m None f) a at i
  unfolding copied_value
  copied_bits i = elim (cases_Bool (nat_lt (number_at a at i) (m.setup.geometry.rows * (m.setup.geometry.disks - a)))) [
    | inl cell ↦
        let g = m.setup.geometry in
        let lr = row_of_number_below g.disks a (number_at a at i) g.rows region (grind (arith, nat_tests)) in
        rw cell (value_dirty m None f (is_dirty table) (map_bit g (f 0)) (row_of_number g.disks a (number_at a at i)) (λ d. bits (row_of_number g.disks a (number_at a at i)) d (omega arith)) (disk_of_number g.disks a (number_at a at i)))
    | inr pad ↦ rw pad refl
  ]

  pub stripe_bits : (e : ℕ) → copied_block (seen_by m table None f) a at e ≡ copied_block (view_with_out m None f) a at e
  unfolding copied_block
  stripe_bits e =
      let parity = soft_parity_disk a at in
      let others = others_same (copies (seen_by m table None f) a at) (copies (view_with_out m None f) a at) parity a (λ y l apart. copied_bits (index_among parity y)) in
      rw (others, copied_bits (index_among parity e)) refl

module _ {R : Type 0} {g : _} (count : R → ℕ) (slot : R → ℕ → Slot) (told : R → Option Trail) (old : Core R g) (ready : IsCoreReady count slot old) where
  abbrev m : Meta
  m = old.meta

  -- with no disk out, cells can be read
  pub can_read_whole : CanCoreServe slot old → m.out ≡ No → CanRead (count (store_rack old.store)) (slot (store_rack old.store)) m None
  can_read_whole serves all_in = record {
    enough = ready.enough;
    spins = λ d low not. elim low [ inl l ↦ ready.spins d l (none d) | inr l ↦ serves.spins d l (none d) ];
    large = λ d low not. elim low [ inl l ↦ ready.large d l (none d) | inr l ↦ serves.large d l (none d) ];
  }
    where
      none : (d : ℕ) → named_out m.out ≢ Some d
      none d is = let z : None ≡ Some d = ap named_out (sym all_in) ∙ is in cc

  -- so they can where the disk that is named out is left out
  pub can_read_but : CanCoreServe slot old → (out : Option ℕ) → ((d : ℕ) → named_out m.out ≡ Some d → out ≡ Some d) → CanRead (count (store_rack old.store)) (slot (store_rack old.store)) m out
  can_read_but serves out is = record {
    enough = ready.enough;
    spins = λ d low not. elim low [ inl l ↦ ready.spins d l (λ here. not (is d here)) | inr l ↦ serves.spins d l (λ here. not (is d here)) ];
    large = λ d low not. elim low [ inl l ↦ ready.large d l (λ here. not (is d here)) | inr l ↦ serves.large d l (λ here. not (is d here)) ];
  }

  pub can_read_beside : CanCoreServe slot old → (out : Option ℕ) → named_out m.out ≡ out → CanRead (count (store_rack old.store)) (slot (store_rack old.store)) m out
  can_read_beside serves out is = can_read_but serves out (λ d here. sym is ∙ here)

  abbrev was : ℕ → Slot
  was = slot (store_rack old.store)

  absent_none : m.out ≡ No → (s : Disks) → Agrees s was → out_disk s.power m ≡ None
  absent_none all_in s a = out_all s.power m (λ x l gone. ready.absent x l (ap is_present (sym (a.power x)) ∙ gone)) ∙ ap named_out all_in

  -- the reads, done or failed
  pub gather_held : (told_then : Option Trail) → Ran (told (store_rack old.store)) told_then (AreArrayReads (disks_of old.store)) → (at : ℕ) (h : History) (lo : ℕ)
      → Ran (told (store_rack old.store)) told_then (CrashTriple (IsCoreHeldSinceCommit count old h lo) (Filled count old h lo at) (IsCoreHeldSinceCommit count old h lo))
  gather_held told_then calls at h lo =
      weaker (IsCoreHeldSinceCommit count old h lo) (HoldsBetweenCalls (count (store_rack old.store)) (named_of old.store) m old.dirty [] old.copied h lo) (Filled count old h lo at) (IsCoreHeldSinceCommit count old h lo) (IsCoreHeldSinceCommit count old h lo) _ _
      (λ s kf. kf.keeps) (λ s p. p)
      (reads_moments (count (store_rack old.store)) (named_of old.store) m old.dirty [] old.copied h lo (named_of old.store) (λ d is. is) (disks_of old.store) _ _ (sym ready.array_is) calls)

  -- all of them are done
  pub gathered : (store_then : Store R g) (at : ℕ) (blocks : List Block) → HaveRead count slot told (disks_of old.store) None old.store store_then → m.out ≡ No → old.batch ≡ [] → old.draft ≡ []
      → phase_to m.phase < m.setup.geometry.disks
      → ((t : Trail) → told (store_rack old.store) ≡ Some t → Agrees (now t) was) → ((t : Trail) → told (store_rack store_then) ≡ Some t → Agrees (now t) (slot (store_rack store_then)))
      → ((d : ℕ) → (slot (store_rack store_then) d).power ≡ Absent → (slot (store_rack store_then) d).size ≡ 0)
      → ((f : Contents) → ShowsContents (told (store_rack old.store)) (old.batch ++ old.draft) f → IsSome (told (store_rack store_then)) → (e : ℕ) → e < phase_to m.phase
      → member blocks e ≡ copied_block (seen_by m old.dirty None f) (phase_to m.phase) at e)
      → (h : History) (lo : ℕ) → Ran (told (store_rack old.store)) (told (store_rack store_then)) (CrashTriple (IsCoreHeldSinceCommit count old h lo) (Filled count old h lo at)
      (IsFilling (count (store_rack store_then)) (named_of store_then) m old.dirty old.copied h lo at blocks 0))
  gathered store_then at blocks read all_in nothing no_draft region agrees agrees_then empty values h lo t tells =
      let r = read.calls t tells in
      let s = now r.from in
      let same = reads_same (disks_of old.store) s r.calls r.holds in
      let here : now t ≡ run s r.calls = ap now r.is ∙ now-extend r.from r.calls in
      let a = agrees r.from r.was in
      let still : run s r.calls ≡ s = unchanged s (run s r.calls) was (slot (store_rack store_then)) a (subst (λ (u : Disks). Agrees u (slot (store_rack store_then))) here (agrees_then t tells)) None read.left empty same.0 same.1 refl in
      let none = absent_none all_in s a in
      let none_staged : old.batch ++ old.draft ≡ [] = ap (λ (z : Batch). z ++ old.draft) nothing ∙ no_draft in
      let shown = subst (λ (z : Batch). ShowsContents (told (store_rack old.store)) z (contents s [])) (sym none_staged) (shows_contents _ [] r.from r.was) in
      record {
        from = r.from;
        was = r.was;
        calls = r.calls;
        is = r.is;
        holds = record {
          goes = λ kf.
              let filling : IsFilling (count (store_rack old.store)) (named_of old.store) m old.dirty old.copied h lo at blocks 0 s = (record {
                before = kf;
                values = λ e l. values (contents s []) shown (subst IsSome (sym tells) refl) e l
                    ∙ stripe_bits m old.dirty (contents s []) (λ x d lx. kf.keeps.dirty x d lx ∙ ap (λ (o : Option ℕ). map_bit m.setup.geometry (contents s [] (map_disk o)) x d) none) (phase_to m.phase) at region e;
                written = λ e l. absurd (omega arith);
              }) in (
                reads_through (count (store_rack old.store)) (named_of old.store) m old.dirty [] old.copied h lo (named_of old.store) (λ d is. is) s r.calls
                    (subst (λ (z : ℕ). AreArrayReads z s r.calls) (sym ready.array_is) r.holds) kf.keeps,
                subst (λ (z : ℕ). IsFilling z (named_of store_then) m old.dirty old.copied h lo at blocks 0 (run s r.calls)) (sym read.slots)
                    (subst (λ (z : Option ℕ). IsFilling (count (store_rack old.store)) z m old.dirty old.copied h lo at blocks 0 (run s r.calls)) (sym read.same.named)
                    (subst (IsFilling (count (store_rack old.store)) (named_of old.store) m old.dirty old.copied h lo at blocks 0) (sym still) filling)),
              );
        };
      }

  pub gathered_leaves : (store_then : Store R g) → HaveRead count slot told (disks_of old.store) None old.store store_then → IsStillOut (named_of old.store) m → LeavesCore count slot old (record old { store = store_then })
  gathered_leaves store_then read still =
      call_leaves count slot old (record old { store = store_then }) ready still read.slots read.same refl refl refl None (λ d is. let z : None ≡ Some d = is in cc) (left_lost_only m.setup.geometry.disks None _ _ read.left)
      (λ d x is. let z : None ≡ Some d = is in cc) refl (left_spared None _ _ read.left) (λ d is. let z : None ≡ Some d = is in cc) (marks_synced (slot (store_rack old.store)) (slot (store_rack store_then)) old.copied (left_synced None _ _ read.left))

  -- a disk fails
  module _ (store_then : Store R g) (disk : ℕ) (read : HaveRead count slot told (disks_of old.store) (Some disk) old.store store_then) (below : disk < disks_of old.store) (all_in : m.out ≡ No) (still : IsStillOut (named_of old.store) m) where
    none_named : (x : ℕ) → named_out m.out ≡ Some x → ⊥
    none_named x is = let z : None ≡ Some x = ap named_out (sym all_in) ∙ is in cc

    low : disk < m.setup.geometry.disks
    low = subst (λ (z : ℕ). disk < z) (sym ready.array_is) below

    pub gather_lost_leaves : (m_then : Meta) → m_then ≡ meta_with_lost (lost_in m (Some disk)) m → LeavesCore count slot old (record old { store = store_then; meta = m_then })
    gather_lost_leaves m_then is =
        call_leaves count slot old (record old { store = store_then; meta = m_then }) ready still read.slots read.same refl refl refl (Some disk)
        (λ d e. subst (λ (x : ℕ). x < m.setup.geometry.disks) (some_is disk d e) low) (left_lost_only m.setup.geometry.disks (Some disk) _ _ read.left)
        (λ d x e k. absurd (none_named x k)) (is ∙ ap (λ (o : Option ℕ). meta_with_lost o m) (lost_in_there m (Some disk) disk low refl)) (left_spared (Some disk) _ _ read.left)
        (λ d e. (read.left.failed d e).risen) (marks_synced (slot (store_rack old.store)) (slot (store_rack store_then)) old.copied (left_synced (Some disk) _ _ read.left))

    pub gather_lost_stands : (m_then : Meta) → m_then ≡ meta_with_lost (lost_in m (Some disk)) m → old.batch ≡ []
        → ((t : Trail) → told (store_rack old.store) ≡ Some t → Agrees (now t) was) → ((t : Trail) → told (store_rack store_then) ≡ Some t → Agrees (now t) (slot (store_rack store_then)))
        → ((d : ℕ) → (slot (store_rack store_then) d).power ≡ Absent → (slot (store_rack store_then) d).size ≡ 0) → (at : ℕ) (h : History) (lo : ℕ)
        → Ran (told (store_rack old.store)) (told (store_rack store_then)) (CrashTriple (IsCoreHeldSinceCommit count old h lo) (Filled count old h lo at)
        (HoldsBetweenCalls (count (store_rack store_then)) (named_of store_then) m_then old.dirty old.batch old.copied h lo))
    gather_lost_stands m_then is nothing agrees agrees_then empty at h lo =
        weaker (IsCoreHeldSinceCommit count old h lo) (HoldsBetweenCalls (count (store_rack old.store)) (named_of old.store) m old.dirty [] old.copied h lo) (Filled count old h lo at)
        (HoldsBetweenCalls (count (store_rack store_then)) (named_of store_then) m_then old.dirty [] old.copied h lo) (HoldsBetweenCalls (count (store_rack store_then)) (named_of store_then) m_then old.dirty old.batch old.copied h lo) _ _
        (λ s kf. kf.keeps) (λ s k. subst (λ (z : Batch). HoldsBetweenCalls (count (store_rack store_then)) (named_of store_then) m_then old.dirty z old.copied h lo s) (sym nothing) k)
        (reads_stand (count (store_rack old.store)) (named_of old.store) m old.dirty [] old.copied h lo (named_of old.store) (λ d is. is) (disks_of old.store) _ _ was (slot (store_rack store_then)) (Some disk) ready.in_range (sym ready.array_is)
        agrees agrees_then read.left empty (λ d e. subst (λ (x : ℕ). x < m.setup.geometry.disks) (some_is disk d e) low)
        (λ d e. out_all (λ x. (was x).power) m ready.absent ∙ ap named_out all_in) still _ _ _ read.slots read.same.named is read.calls)
