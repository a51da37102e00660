-- A fresh disk is attached in the place of the one that is gone, done or failed.
use Rattle.std.specs.Prelude.{◌≡◌, ◌≢◌, ℕ, ◌+◌, ◌*◌, ◌<◌, ◌≤◌, ◌&&◌, nat_lt, Bool, true, false, List, [], ◌∷◌, Option, Some, None, length, if◌then◌else◌}
use Rattle.std.proofs.Common.{refl, sym, ◌∙◌, ap, subst, arith, inl, inr}
use Rattle.std.proofs.lemmas.Bool.{cases_Bool, cases_eq}
use Rattle.std.proofs.lemmas.List.Elements.{All-nil}
use Rattle.paraid_base.specs.declared.block.Block.{Block}
use Rattle.paraid_base.specs.declared.state.Out.TheVariants.{Fresh, Gone}
use Rattle.paraid_base.specs.History.{History}
use Rattle.paraid_base.specs.Log.{log_least}
use Rattle.paraid_base.specs.Regions.{disk_size, map_count, map_place_of}
use Rattle.paraid_base.specs.States.{has_out}
use Rattle.paraid_base.specs.Xor.{zero_block}
use Rattle.paraid_dirty.specs.Table.{is_dirty}
use Rattle.paraid_rack.specs.declared.call.Call.TheVariants.{Attach}
use Rattle.paraid_rack.specs.declared.call.Power.{Power}
use Rattle.paraid_rack.specs.declared.call.Power.TheVariants.{Spinning}
use Rattle.paraid_rack.specs.Slots.{Agrees, Slot}
use Rattle.paraid_rack.specs.Told.{CrashTriple, GrowsByCall, Ran}
use Rattle.paraid_rack.specs.Trail.{Trail, now}
use Rattle.paraid_rack.specs.Disks.{Disks, IsPresent, is_present, step}
use Rattle.paraid_record.specs.declared.meta.Meta.{Meta}
use Rattle.paraid_record.specs.declared.targets.Target.{Target}
use Rattle.paraid_record.specs.Range.{IsInRange}
use Rattle.paraid_image.specs.Content.{view_by}
use Rattle.paraid_image.specs.Out.{IsMissing, named_out}
use Rattle.paraid_image.specs.Sides.{Batch, has_place, is_open, stored_block, targets}
use Rattle.paraid_image.specs.Sound.{ContentOk}
use Rattle.paraid_image.specs.Spot.{map_bit, map_disk}
use Rattle.paraid_image.specs.Standing.{contents}
use Rattle.paraid_image.proofs.CallLemmas.{zeroed_closed}
use Rattle.paraid_image.proofs.OutLemmas.{named_below}
use Rattle.paraid_image.proofs.ViewLemmas.{map_bit_same, map_disk_other}
use Rattle.paraid_moves.specs.Copying.{HoldsWithCopies, without_disk}
use Rattle.paraid_moves.specs.MoveMetas.{meta_with_out}
use Rattle.paraid_moves.proofs.BetweenLemmas.{copies_attached}
use Rattle.paraid_moves.proofs.ChangedDiskLemmas.{IsAttachedTo, attached_to}
use Rattle.paraid_moves.proofs.FailLemmas.{attaches, marks_fresh}
use Rattle.paraid_moves.proofs.RangeLemmas.{units_in_range}
use Rattle.paraid_txn.specs.Commit.{IsNext, gone_out}
use Rattle.paraid_txn.specs.Losses.{CanWrite}
use Rattle.paraid_txn.specs.Ready.{AreTargetsReady}
use Rattle.paraid_txn.specs.Stores.{named_of, store_rack}
use Rattle.paraid_core.specs.declared.staged.Core.{Core}
use Rattle.paraid_core.specs.CoreInvariant.{AreSlotsReady, CanServe, HoldsBetweenCalls, IsHeldWithOneMissing, is_copied}
use Rattle.paraid_core.specs.Cores.{IsCoreHeldSinceCommit, IsCoreReady}
use Rattle.paraid_core.specs.Replaced.{CoreCommitted, KeepsCommitted}
use Rattle.paraid_core.proofs.AfterLemmas.{named_is_out}
use Rattle.paraid_core.proofs.BorneLemmas.{borne_attached}
use Rattle.paraid_core.proofs.CallLemmas.{keeps_held}
use Rattle.paraid_core.proofs.GoneLemmas.{gone_again}
use Rattle.paraid_core.proofs.LostDiskLemmas.{keeps_failed}
use Rattle.paraid_core.proofs.MomentLemmas.{base_in_range}
use Rattle.paraid_core.proofs.ReadyLemmas.{some_is}

module _ (slots : ℕ) (named : Option ℕ) (m : Meta) (table : List (List Bool)) (copied : List Bool) (h : History) (lo : ℕ) (s : Disks) (d size : ℕ)
    (range : IsInRange m) (gone : m.out ≡ Gone d) (large : disk_size m.setup.geometry ≤ size)
    (absent : (x : ℕ) → x < m.setup.geometry.disks → is_present (s.power x) ≡ false → named_out m.out ≡ Some x) (kc : KeepsCommitted slots named m table copied h lo (Gone d) s) where
  abbrev k : HoldsBetweenCalls slots named m table [] copied h lo s
  k = kc.filled.keeps

  names : named_out m.out ≡ Some d
  names = ap named_out gone

  low : d < m.setup.geometry.disks
  low = named_below m.setup.geometry m.gear m.out d range.out names

  base_names : (x : ℕ) → named_out k.base.out ≡ Some x → x ≡ d
  base_names x is = sym (some_is d x (sym (ap named_out kc.marks) ∙ is))

  missing : (x : ℕ) → IsMissing s.power k.base x → x ≡ d
  missing x p = elim p.is [
    | inl away ↦ sym (some_is d x (sym names ∙ absent x (subst (λ (z : _). x < z.geometry.disks) (sym k.next.setup) p.disk) away))
    | inr is ↦ base_names x is
  ]

  -- it failed
  pub keeps_gone : HoldsBetweenCalls slots named m table [] copied h lo (step (Attach d size false) s)
  keeps_gone =
      subst (λ (z : Meta). HoldsBetweenCalls slots named z table [] copied h lo (step (Attach d size false) s)) (gone_again m d m.spins range gone)
      (keeps_failed slots named m table [] copied h lo s (Attach d size false) range low refl absent (λ x is. sym (some_is d x (sym names ∙ is)))
      (λ x is. names ∙ ap Some (sym (base_names x (k.named_by ∙ is)))) k)

  -- it was done
  abbrev t : Disks
  t = step (Attach d size true) s

  abbrev anew : Meta
  anew = meta_with_out m (Fresh d 0)

  at : IsAttachedTo s t d size
  at = attached_to s d size

  large_there : disk_size m.setup.geometry ≤ t.size d
  large_there = subst (λ (z : ℕ). disk_size m.setup.geometry ≤ z) (sym at.large) large

  place_other : (x q : ℕ) → x ≢ d → has_place t x q ≡ has_place s x q
  place_other x q apart =
      ap (λ (w : Power). is_present w && nat_lt q (t.size x)) (at.power x apart) ∙ ap (λ (z : ℕ). is_present (s.power x) && nat_lt q z) (at.sizes x apart)

  contents_other : (x q : ℕ) → x ≢ d → contents t [] x q ≡ contents s [] x q
  unfolding contents
  contents_other x q apart =
      ap (λ (b : Bool). if nat_lt q log_least then zero_block else (if b then t.block x q else zero_block)) (place_other x q apart)
      ∙ ap (λ (b : Block). if nat_lt q log_least then zero_block else (if has_place s x q then b else zero_block)) (at.block x q apart)

  gate_shut : is_open (stored_block t d 0) ≡ false
  unfolding stored_block
  gate_shut = elim (cases_Bool (has_place t d 0)) [
    | inl there ↦ rw there (ap is_open (at.zeros 0) ∙ zeroed_closed)
    | inr none ↦ rw none zeroed_closed
  ]

  copies_then : HoldsWithCopies slots k.base (without_disk k.held d) h lo t
  copies_then =
      copies_attached slots k.base k.held h lo s d size (base_in_range slots k.base k.held h lo s k.copies) kc.marks (subst (λ (z : _). disk_size z.geometry ≤ size) k.next.setup large)
      (record { copies = k.copies; disk = subst (λ (z : _). d < z.geometry.disks) k.next.setup low; others = missing })

  staged_then : ContentOk slots t.power t.size (view_by anew t.power (contents t [])) h (length h)
  staged_then =
      marks_fresh slots t.power t.size h (length h) m (contents t []) d low gone at.here large_there
      (attaches slots s.power s.size h (length h) m (contents s []) d range t.power t.size (contents t []) low gone at.power at.sizes at.here large_there contents_other k.staged)

  dirty_then : (r e : ℕ) → r < 512 * map_count m.setup.geometry → is_dirty table r e ≡ (view_by anew t.power (contents t [])).dirty r e
  dirty_then r e l =
      k.dirty r e l ∙ ap (λ (o : Option ℕ). map_bit m.setup.geometry (contents s [] (map_disk o)) r e) (named_is_out s.power m d names)
      ∙ sym (map_bit_same m.setup.geometry (contents t [] (map_disk (Some d))) (contents s [] (map_disk (Some d))) r e (contents_other (map_disk (Some d)) (map_place_of m.setup.geometry r) (map_disk_other d)))

  next_then : IsNext t k.base (record anew { epoch = m.epoch + 1 })
  next_then = record {
    epoch = ap (λ (z : ℕ). z + 1) k.epoch;
    setup = k.next.setup;
    out = λ x e p q. sym (some_is d x p) ∙ sym (base_names e q);
    comes_in = λ x l here was not. absurd (not (ap Some (sym (base_names x was))));
    fresh_closed = λ x u fresh l.
        let z : Fresh d 0 ≡ Fresh x u = fresh.is in
        let y : d ≡ x = cc in
        subst (λ (e : ℕ). is_open (stored_block t e 0) ≡ false) y gate_shut;
  }

  synced_then : (x p : ℕ) → IsPresent t x → (x < m.setup.geometry.disks → is_copied copied x ≡ false) → t.loose x p ≡ false
  synced_then x p here copies_synced = elim (cases_eq x d) [
    | inl is ↦ ap (λ (e : ℕ). t.loose e p) is ∙ at.synced p
    | inr apart ↦ at.loose x p apart ∙ k.synced x p (ap is_present (sym (at.power x apart)) ∙ here) copies_synced
  ]

  pub keeps_fresh : HoldsBetweenCalls slots named anew table [] copied h lo t
  keeps_fresh = record {
    base = k.base;
    held = without_disk k.held d;
    copies = copies_then;
    synced = synced_then;
    named_by = k.named_by;
    borne = borne_attached named s k.borne t d size at (λ x is. base_names x (k.named_by ∙ is));
    epoch = k.epoch;
    next = next_then;
    writes = k.writes;
    brought = k.brought;
    staged = staged_then;
    dirty = dirty_then;
  }

-- the slots after it
module _ (count : ℕ) (slot then_slot : ℕ → Slot) (last array : ℕ) (named : Option ℕ) (m : Meta) (rows d : ℕ) (others : (x : ℕ) → x ≢ d → then_slot x ≡ slot x) (gone : m.out ≡ Gone d) where
  names_it : (x : ℕ) → named_out m.out ≡ Some x → x ≡ d
  names_it x is = sym (some_is d x (sym (ap named_out gone) ∙ is))

  off : (x : ℕ) → named_out m.out ≢ Some x → x ≢ d
  off x not is = not (ap named_out gone ∙ ap Some (sym is))

  absent_other : (x : ℕ) → x < m.setup.geometry.disks → AreSlotsReady count slot last array named m rows [] → is_present (then_slot x).power ≡ false → named_out m.out ≡ Some x
  absent_other x l ready away = elim (cases_eq x d) [
    | inl is ↦ ap named_out gone ∙ ap Some (sym is)
    | inr apart ↦ ready.absent x l (ap (λ (s : Slot). is_present s.power) (sym (others x apart)) ∙ away)
  ]

  low_spins : AreSlotsReady count slot last array named m rows [] → (x : ℕ) → x < m.gear → named_out m.out ≢ Some x → (then_slot x).power ≡ Spinning
  low_spins ready x l not = ap (λ (s : Slot). s.power) (others x (off x not)) ∙ ready.spins x l not

  low_large : AreSlotsReady count slot last array named m rows [] → (x : ℕ) → x < m.gear → named_out m.out ≢ Some x → disk_size m.setup.geometry ≤ (then_slot x).size
  low_large ready x l not = subst (λ (s : Slot). disk_size m.setup.geometry ≤ s.size) (sym (others x (off x not))) (ready.large x l not)

  none_staged : (out : Option ℕ) → AreTargetsReady out count then_slot (targets [])
  none_staged out = All-nil (λ (t : Target). (t.disk < count) × (out ≢ Some t.disk → CanWrite then_slot t.disk t.place))

  pub gone_ready : AreSlotsReady count slot last array named m rows [] → AreSlotsReady count then_slot last array named m rows []
  gone_ready ready = record {
    in_range = ready.in_range;
    array_is = ready.array_is;
    epoch_is = ready.epoch_is;
    enough = ready.enough;
    rows_are = ready.rows_are;
    absent = λ x l away. absent_other x l ready away;
    one = ready.one;
    spins = low_spins ready;
    large = low_large ready;
    fresh_spins = λ x u is here. let z : Gone d ≡ Fresh x u = sym gone ∙ is in cc;
    fresh_large = λ x u is here. let z : Gone d ≡ Fresh x u = sym gone ∙ is in absurd cc;
    each = ready.each;
    can = none_staged (gone_out m.out);
    apart = ready.apart;
  }

  pub fresh_ready : (then_slot d).power ≡ Spinning → disk_size m.setup.geometry ≤ (then_slot d).size → AreSlotsReady count slot last array named m rows []
      → AreSlotsReady count then_slot last array named (meta_with_out m (Fresh d 0)) rows []
  fresh_ready spins large ready = record {
    in_range = units_in_range m d 0 ready.in_range (ap has_out gone) (named_below m.setup.geometry m.gear m.out d ready.in_range.out (ap named_out gone)) (omega arith);
    array_is = ready.array_is;
    epoch_is = ready.epoch_is;
    enough = ready.enough;
    rows_are = ready.rows_are;
    absent = λ x l away. ap Some (sym (names_it x (absent_other x l ready away)));
    one = λ x e was is. ready.one x e was (ap named_out gone ∙ is);
    spins = λ x l not. low_spins ready x l (λ is. not (sym (ap named_out gone) ∙ is));
    large = λ x l not. low_large ready x l (λ is. not (sym (ap named_out gone) ∙ is));
    fresh_spins = λ x u is here. let z : Fresh d 0 ≡ Fresh x u = is in let y : d ≡ x = cc in ap (λ (e : ℕ). (then_slot e).power) (sym y) ∙ spins;
    fresh_large = λ x u is here. let z : Fresh d 0 ≡ Fresh x u = is in let y : d ≡ x = cc in subst (λ (e : ℕ). disk_size m.setup.geometry ≤ (then_slot e).size) y large;
    each = ready.each;
    can = none_staged None;
    apart = ready.apart;
  }

  pub gone_serves : CanServe slot named m → CanServe then_slot named m
  gone_serves serve = record {
    spins = λ x l not. ap (λ (s : Slot). s.power) (others x (off x not)) ∙ serve.spins x l not;
    large = λ x l not. subst (λ (s : Slot). disk_size m.setup.geometry ≤ s.size) (sym (others x (off x not))) (serve.large x l not);
    stays = serve.stays;
  }

  pub fresh_serves : CanServe slot named m → CanServe then_slot named (meta_with_out m (Fresh d 0))
  fresh_serves serve =
      let now = gone_serves serve in
      record {
        spins = λ x l not. now.spins x l (λ is. not (sym (ap named_out gone) ∙ is));
        large = λ x l not. now.large x l (λ is. not (sym (ap named_out gone) ∙ is));
        stays = λ x was. sym (ap named_out gone) ∙ serve.stays x was;
      }

-- where the record is told
module _ {R : Type 0} {g : _} (count : R → ℕ) (slot : R → ℕ → Slot) (told : R → Option Trail) (old : Core R g) (ready : IsCoreReady count slot old) (told_then : Option Trail) (d size : ℕ) (ok : Bool)
    (grows : GrowsByCall (told (store_rack old.store)) told_then (Attach d size ok)) (agrees : (t : Trail) → told (store_rack old.store) ≡ Some t → Agrees (now t) (slot (store_rack old.store)))
    (gone : old.meta.out ≡ Gone d) (large : disk_size old.meta.setup.geometry ≤ size) (nothing : old.batch ≡ [])
    (slots_then : ℕ) (named_then : Option ℕ) (m_then : Meta) (batch_then : Batch) (es : slots_then ≡ count (store_rack old.store)) (en : named_then ≡ named_of old.store)
    (done : ok ≡ true → m_then ≡ meta_with_out old.meta (Fresh d 0)) (failed : ok ≡ false → m_then ≡ old.meta) (eb : batch_then ≡ old.batch) where
  abbrev was : Meta
  was = old.meta

  abbrev slots_was : ℕ
  slots_was = count (store_rack old.store)

  abbrev name : Option ℕ
  name = named_of old.store

  pub attach_stands : (h : History) (lo : ℕ) → Ran (told (store_rack old.store)) told_then
      (CrashTriple (IsCoreHeldSinceCommit count old h lo) (CoreCommitted count old h lo (Gone d)) (HoldsBetweenCalls slots_then named_then m_then old.dirty batch_then old.copied h lo))
  attach_stands h lo t tells =
      let r = grows t tells in
      let s = now r.0 in
      let a = agrees r.0 r.1 in
      let absent : (x : ℕ) → x < was.setup.geometry.disks → is_present (s.power x) ≡ false → named_out was.out ≡ Some x = (λ x l away. ready.absent x l (ap is_present (sym (a.power x)) ∙ away)) in
      record {
        from = r.0;
        was = r.1;
        calls = Attach d size ok ∷ [];
        is = r.2;
        holds = record {
          goes = λ kc.
              let next = then_at s kc absent ok refl in
              ((keeps_held slots_was name was old.dirty [] old.copied h lo s kc.filled.keeps, held_at s kc absent ok refl), forth (step (Attach d size ok) s) next);
        };
      }
    where
      by_meta : (z : Meta) (s : Disks) → m_then ≡ z → HoldsBetweenCalls slots_was name z old.dirty [] old.copied h lo s → HoldsBetweenCalls slots_was name m_then old.dirty [] old.copied h lo s
      by_meta z s is k = subst (λ (y : Meta). HoldsBetweenCalls slots_was name y old.dirty [] old.copied h lo s) (sym is) k

      then_at : (s : Disks) → KeepsCommitted slots_was name was old.dirty old.copied h lo (Gone d) s
          → ((x : ℕ) → x < was.setup.geometry.disks → is_present (s.power x) ≡ false → named_out was.out ≡ Some x) → (b : Bool) → ok ≡ b
          → HoldsBetweenCalls slots_was name m_then old.dirty [] old.copied h lo (step (Attach d size b) s)
      then_at s kc absent true is = by_meta (meta_with_out was (Fresh d 0)) (step (Attach d size true) s) (done is) (keeps_fresh slots_was name was old.dirty old.copied h lo s d size ready.in_range gone large absent kc)
      then_at s kc absent false is = by_meta was (step (Attach d size false) s) (failed is) (keeps_gone slots_was name was old.dirty old.copied h lo s d size ready.in_range gone large absent kc)

      held_at : (s : Disks) → KeepsCommitted slots_was name was old.dirty old.copied h lo (Gone d) s
          → ((x : ℕ) → x < was.setup.geometry.disks → is_present (s.power x) ≡ false → named_out was.out ≡ Some x) → (b : Bool) → ok ≡ b
          → IsHeldWithOneMissing slots_was was.setup.geometry.disks name h lo (step (Attach d size b) s)
      held_at s kc absent true is =
          keeps_held slots_was name (meta_with_out was (Fresh d 0)) old.dirty [] old.copied h lo (step (Attach d size true) s)
          (keeps_fresh slots_was name was old.dirty old.copied h lo s d size ready.in_range gone large absent kc)
      held_at s kc absent false is =
          keeps_held slots_was name was old.dirty [] old.copied h lo (step (Attach d size false) s)
          (keeps_gone slots_was name was old.dirty old.copied h lo s d size ready.in_range gone large absent kc)

      forth : (s : Disks) → HoldsBetweenCalls slots_was name m_then old.dirty [] old.copied h lo s → HoldsBetweenCalls slots_then named_then m_then old.dirty batch_then old.copied h lo s
      forth s k =
          subst (λ (z : Batch). HoldsBetweenCalls slots_then named_then m_then old.dirty z old.copied h lo s) (sym (eb ∙ nothing))
          (subst (λ (z : Option ℕ). HoldsBetweenCalls slots_then z m_then old.dirty [] old.copied h lo s) (sym en)
          (subst (λ (z : ℕ). HoldsBetweenCalls z name m_then old.dirty [] old.copied h lo s) (sym es) k))
