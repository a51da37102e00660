-- With no disk out and nothing staged, one block is written into a free place.
use Rattle.std.specs.Prelude.{◌≡◌, ◌≢◌, ℕ, ◌+◌, ◌*◌, ◌<◌, ◌≤◌, ◌⊎◌, Bool, true, false, List, [], Option, Some, None, length}
use Rattle.std.proofs.Common.{refl, sym, ◌∙◌, ap, subst, arith, inl, inr}
use Rattle.std.proofs.lemmas.Bool.{cases_eq, false≢true}
use Rattle.paraid_base.specs.declared.block.Block.{Block}
use Rattle.paraid_base.specs.declared.geometry.Geometry.{Geometry}
use Rattle.paraid_base.specs.declared.state.Out.TheVariants.{Fresh, No}
use Rattle.paraid_base.specs.History.{History}
use Rattle.paraid_base.specs.Log.{map_start}
use Rattle.paraid_base.specs.Regions.{hard_place_of, map_count, map_place_of}
use Rattle.paraid_dirty.specs.Table.{is_dirty}
use Rattle.paraid_rack.specs.declared.call.Call.TheVariants.{Write}
use Rattle.paraid_rack.specs.Disks.{Disks, IsImage, IsPresent, step, with_at}
use Rattle.paraid_rack.proofs.AtomsLemmas.{with_at_other}
use Rattle.paraid_record.specs.declared.meta.Meta.{Meta}
use Rattle.paraid_record.specs.Range.{IsInRange}
use Rattle.paraid_image.specs.Content.{view_by}
use Rattle.paraid_image.specs.Free.{IsFree}
use Rattle.paraid_image.specs.Free.IsFree.{dirty_cell}
use Rattle.paraid_image.specs.Neutral.{overwrite}
use Rattle.paraid_image.specs.Out.{named_out, out_disk}
use Rattle.paraid_image.specs.Sound.{ContentOk}
use Rattle.paraid_image.specs.Spot.{map_bit, map_disk}
use Rattle.paraid_image.specs.Standing.{Contents, contents}
use Rattle.paraid_image.proofs.AgreeLemmas.{AgreeSeen}
use Rattle.paraid_image.proofs.NeutralLemmas.{contents_else}
use Rattle.paraid_image.proofs.ViewLemmas.{map_bit_same}
use Rattle.paraid_moves.specs.Copying.{HoldsWithCopies}
use Rattle.paraid_moves.specs.MoveMetas.{view_with_out}
use Rattle.paraid_moves.proofs.FreePlaceLemmas.{content_laid, dirty_agrees, free_places_agree}
use Rattle.paraid_moves.proofs.MoveLemmas.{all_in}
use Rattle.paraid_moves.proofs.RunLemmas.{copies_write}
use Rattle.paraid_core.specs.CoreInvariant.{HoldsBetweenCalls, IsWitnessBorne, is_copied}
use Rattle.paraid_core.specs.Steps.{IsMarkedAt, IsStillOut}
use Rattle.paraid_core.proofs.BorneLemmas.{borne_written}
use Rattle.paraid_core.proofs.CallLemmas.{contents_still}
use Rattle.paraid_core.proofs.LostDiskLemmas.{none_absent, out_all}
use Rattle.paraid_core.proofs.MomentLemmas.{base_in_range}
use Rattle.paraid_core.proofs.SettleLemmas.{self_at}

pub write_free_is : (s : Disks) (e p : ℕ) (b : Block)
    → step (Write e p b true) s ≡ record s { block = with_at s.block e (with_at (s.block e) p b); loose = with_at s.loose e (with_at (s.loose e) p true) }
unfolding step
write_free_is s e p b = λ i. record {
  power = self_at s.power e i;
  size = self_at s.size e i;
  block = with_at s.block e (with_at (s.block e) p b);
  loose = with_at s.loose e (with_at (s.loose e) p true);
}

module _ (slots : ℕ) (named : Option ℕ) (m : Meta) (table : List (List Bool)) (copied : List Bool) (h : History) (lo : ℕ) (s : Disks)
    (in_range : IsInRange m) (no_out : m.out ≡ No) (none : out_disk s.power m ≡ None) (k : HoldsBetweenCalls slots named m table [] copied h lo s) where
  abbrev g : Geometry
  g = m.setup.geometry

  abbrev f : Contents
  f = contents s []

  none_named : (x : ℕ) → named_out m.out ≢ Some x
  none_named x is = let z : None ≡ Some x = ap named_out (sym no_out) ∙ is in cc

  -- the bits of the map are those of the last commit
  module _ (still : IsStillOut named m) where
    base_named : (x : ℕ) → named_out k.base.out ≢ Some x
    base_named x is = none_named x (still x (sym k.named_by ∙ is))

    named_none : named_out k.base.out ≡ None
    named_none = by (named_out k.base.out) refl
      where
        by : (o : Option ℕ) → named_out k.base.out ≡ o → named_out k.base.out ≡ None
        by None is = is
        by (Some x) is = absurd (base_named x is)

    none_base : out_disk s.power k.base ≡ None
    none_base = out_all s.power k.base (λ x l gone. absurd (none_absent s.power m none x (subst (λ (z : _). x < z.geometry.disks) (sym k.next.setup) l) gone)) ∙ named_none

    abbrev dry : Disks
    dry = record s { loose = λ x q. false }

    dry_is : IsImage s dry
    dry_is = record { power = λ x. refl; size = λ x. refl; block = λ x q synced. refl; loose = λ x q. refl }

    only : (x q : ℕ) → IsFree (view_with_out k.base None k.held) x q ⊎ (f x q ≡ k.held x q)
    only x q =
        subst (λ (o : Option ℕ). IsFree (record { meta = k.base; dirty = map_bit k.base.setup.geometry (k.held (map_disk o)); out = o; block = k.held }) x q ⊎ (f x q ≡ k.held x q)) none_base
        (subst (λ (c : Contents). IsFree (view_by k.base s.power k.held) x q ⊎ (c x q ≡ k.held x q)) (contents_still slots named m table [] copied h lo s (λ y z. false))
        ((k.copies.copying dry dry_is).only x q))

    agree_base : AgreeSeen (view_with_out k.base None k.held) s.power f
    agree_base = free_places_agree (view_with_out k.base None k.held) s.power f (base_range) (λ x is. absurd (base_named x is)) only
      where
        base_range : IsInRange k.base
        base_range = base_in_range slots k.base k.held h lo s k.copies

    pub free_base_cell : (r e : ℕ) → k.base.gear ≡ m.gear → r < m.setup.geometry.rows → m.gear ≤ e → is_dirty table r e ≡ true → IsFree (view_by k.base s.power k.held) e (hard_place_of m.setup.geometry r)
    free_base_cell r e gear lr low dirty =
        let lr_base : r < k.base.setup.geometry.rows = subst (λ (z : _). r < z.geometry.rows) k.next.setup lr in
        let bit : map_bit k.base.setup.geometry (k.held 0) r e ≡ true =
        sym (dirty_agrees k.base s.power k.held f (base_in_range slots k.base k.held h lo s k.copies) (all_in s.power k.base none_base) agree_base r e lr_base)
        ∙ ap (λ (z : _). map_bit z.geometry (f 0) r e) (sym k.next.setup)
        ∙ ap (λ (o : Option ℕ). map_bit m.setup.geometry (f (map_disk o)) r e) (sym none) ∙ sym (k.dirty r e (omega arith)) ∙ dirty in
        dirty_cell r lr_base (subst (λ (z : ℕ). z ≤ e) (sym gear) low) (ap (λ (o : Option ℕ). map_bit k.base.setup.geometry (k.held (map_disk o)) r e) none_base ∙ bit)
        (ap (λ (z : _). hard_place_of z.geometry r) k.next.setup)

  pub free_cell : (r e : ℕ) → r < m.setup.geometry.rows → m.gear ≤ e → is_dirty table r e ≡ true → IsFree (view_with_out m None f) e (hard_place_of m.setup.geometry r)
  free_cell r e lr low dirty =
      dirty_cell r lr low (ap (λ (o : Option ℕ). map_bit m.setup.geometry (f (map_disk o)) r e) (sym none) ∙ sym (k.dirty r e (omega arith)) ∙ dirty) refl

  module _ (e p : ℕ) (b : Block) (copied_then : List Bool) (below : e < m.setup.geometry.disks) (past_map : map_start m.setup.geometry + map_count m.setup.geometry ≤ p) (marks : IsMarkedAt copied copied_then e)
      (free : IsFree (view_with_out m None (contents s [])) e p) (free_base : IsFree (view_by k.base s.power k.held) e p) where
    abbrev u : Disks
    u = record s { block = with_at s.block e (with_at (s.block e) p b); loose = with_at s.loose e (with_at (s.loose e) p true) }

    abbrev after : Contents
    after = contents u []

    elsewhere : (x q : ℕ) → (x ≡ e → q ≢ p) → after x q ≡ f x q
    elsewhere x q apart =
        ap (λ (c : Contents). c x q) (contents_still slots named m table [] copied h lo (overwrite s e p b) u.loose) ∙ contents_else s e p b [] x q apart

    agree : AgreeSeen (view_with_out m None f) s.power after
    agree = free_places_agree (view_with_out m None f) s.power after in_range (λ x is. absurd (none_named x is)) free_only
      where
        free_only : (x q : ℕ) → IsFree (view_with_out m None f) x q ⊎ (after x q ≡ f x q)
        free_only x q = elim (cases_eq x e) [
          | inr apart ↦ inr (elsewhere x q (λ is. absurd (apart is)))
          | inl same ↦ elim (cases_eq q p) [
            | inr apart ↦ inr (elsewhere x q (λ is. apart))
            | inl here ↦ inl (subst (λ (y : ℕ). IsFree (view_with_out m None f) y q) (sym same) (subst (IsFree (view_with_out m None f) e) (sym here) free))
          ]
        ]

    pub copies_then : HoldsWithCopies slots k.base k.held h lo u
    copies_then = subst (HoldsWithCopies slots k.base k.held h lo) (write_free_is s e p b) (copies_write slots k.base k.held h lo s e p b (record { copies = k.copies; free = free_base }))

    pub staged_then : ContentOk slots s.power s.size (view_by m s.power after) h (length h)
    staged_then =
        subst (λ (o : Option ℕ). ContentOk slots s.power s.size (record { meta = m; dirty = map_bit m.setup.geometry (after (map_disk o)); out = o; block = after }) h (length h)) (sym none)
        (content_laid m s.power f after in_range no_out agree slots s.size h (length h)
        (subst (λ (o : Option ℕ). ContentOk slots s.power s.size (record { meta = m; dirty = map_bit m.setup.geometry (f (map_disk o)); out = o; block = f }) h (length h)) none k.staged))

    pub dirty_then : (r d : ℕ) → r < 512 * map_count m.setup.geometry → is_dirty table r d ≡ (view_by m s.power after).dirty r d
    dirty_then r d l =
        k.dirty r d l ∙ ap (λ (o : Option ℕ). map_bit m.setup.geometry (f (map_disk o)) r d) none
        ∙ map_bit_same m.setup.geometry (f 0) (after 0) r d (sym (elsewhere 0 (map_place_of m.setup.geometry r) (λ is. λ here. absurd (omega arith))))
        ∙ sym (ap (λ (o : Option ℕ). map_bit m.setup.geometry (after (map_disk o)) r d) none)

    pub synced_then : (x q : ℕ) → IsPresent u x → (x < m.setup.geometry.disks → is_copied copied_then x ≡ false) → u.loose x q ≡ false
    synced_then x q here synced = elim (cases_eq x e) [
      | inl is ↦ absurd (false≢true (sym (synced (subst (λ (y : ℕ). y < m.setup.geometry.disks) (sym is) below)) ∙ ap (is_copied copied_then) is ∙ marks.here))
      | inr apart ↦ ap (λ (l : ℕ → Bool). l q) (with_at_other s.loose e (with_at (s.loose e) p true) x apart) ∙ k.synced x q here (λ l. sym (marks.others x apart) ∙ synced l)
    ]

    pub borne_then : IsWitnessBorne named u
    borne_then = subst (IsWitnessBorne named) (write_free_is s e p b) (borne_written named s k.borne e p b true (omega arith))

    unfoldable pub keeps_free_write : HoldsBetweenCalls slots named m table [] copied_then h lo u
    keeps_free_write = record {
      base = k.base;
      held = k.held;
      copies = copies_then;
      synced = synced_then;
      named_by = k.named_by;
      borne = borne_then;
      epoch = k.epoch;
      next = record {
        epoch = k.next.epoch;
        setup = k.next.setup;
        out = k.next.out;
        comes_in = k.next.comes_in;
        fresh_closed = λ x n fresh l. let z : No ≡ Fresh x n = sym no_out ∙ fresh.is in cc;
      };
      writes = k.writes;
      brought = k.brought;
      staged = staged_then;
      dirty = dirty_then;
    }
