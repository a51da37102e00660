-- What one done write past the log makes of the contents and of what is copied.
use Rattle.std.specs.Prelude.{◌≡◌, ◌≢◌, ℕ, ◌<◌, ◌≤◌, ◌⊎◌, ◌&&◌, nat_lt, Bool, true, [], Option, Some, None, if◌then◌else◌}
use Rattle.std.proofs.Common.{refl, sym, ◌∙◌, ap, subst, arith, inl, inr}
use Rattle.std.proofs.lemmas.Bool.{cases_eq}
use Rattle.paraid_base.specs.declared.block.Block.{Block}
use Rattle.paraid_base.specs.declared.state.Out.TheVariants.{No}
use Rattle.paraid_base.specs.Log.{log_least}
use Rattle.paraid_base.specs.Regions.{hard_place_of}
use Rattle.paraid_base.specs.Xor.{zero_block}
use Rattle.paraid_rack.specs.declared.call.Call.TheVariants.{Write}
use Rattle.paraid_rack.specs.declared.call.Power.{Power}
use Rattle.paraid_rack.specs.Disks.{Disks, is_present, step, with_at}
use Rattle.paraid_rack.proofs.AtomsLemmas.{with_at_other, with_at_same}
use Rattle.paraid_record.specs.declared.meta.Meta.{Meta}
use Rattle.paraid_record.specs.Range.{IsInRange}
use Rattle.paraid_image.specs.Content.{view_by}
use Rattle.paraid_image.specs.Free.{IsFree}
use Rattle.paraid_image.specs.Free.IsFree.{dirty_cell}
use Rattle.paraid_image.specs.Out.{named_out, out_disk}
use Rattle.paraid_image.specs.Sides.{has_place}
use Rattle.paraid_image.specs.Spot.{map_bit, map_disk}
use Rattle.paraid_image.specs.Standing.{contents}
use Rattle.paraid_image.specs.Value.{value}
use Rattle.paraid_image.proofs.ContentsLemmas.{contents_here}
use Rattle.paraid_moves.specs.MoveMetas.{AreCellsCopied, view_with_out}
use Rattle.paraid_moves.proofs.FreePlaceLemmas.{cell_copied, free_places_agree}
use Rattle.paraid_moves.proofs.MoveLemmas.{all_in}

-- a done write leaves powers and sizes, and else writes its block
pub record IsWritten (s t : Disks) (d p : ℕ) (b : Block) : Type 0 where
  pub power : t.power ≡ s.power
  pub size : t.size ≡ s.size
  pub here : t.block d p ≡ b
  pub elsewhere : (x q : ℕ) → (x ≡ d → q ≢ p) → t.block x q ≡ s.block x q

self_at : {A : Type 0} (f : ℕ → A) (d x : ℕ) → with_at f d (f d) x ≡ f x
self_at f d x = elim (cases_eq x d) [
  | inl is ↦ with_at_same f d (f d) x is ∙ ap f (sym is)
  | inr apart ↦ with_at_other f d (f d) x apart
]

pub write_is_written : (s : Disks) (d p : ℕ) (b : Block) → IsWritten s (step (Write d p b true) s) d p b
unfolding step
write_is_written s d p b = record {
  power = λ t. λ x. (self_at s.power d x) t;
  size = λ t. λ x. (self_at s.size d x) t;
  here = ap (λ (f : ℕ → Block). f p) (with_at_same s.block d (with_at (s.block d) p b) d refl) ∙ with_at_same (s.block d) p b p refl;
  elsewhere = λ x q apart. elim (cases_eq x d) [
    | inl is ↦ ap (λ (f : ℕ → Block). f q) (with_at_same s.block d (with_at (s.block d) p b) x is) ∙ with_at_other (s.block d) p b q (apart is) ∙ ap (λ (y : ℕ). s.block y q) (sym is)
    | inr not ↦ ap (λ (f : ℕ → Block). f q) (with_at_other s.block d (with_at (s.block d) p b) x not)
  ];
}

module _ (s t : Disks) (d p : ℕ) (b : Block) (w : IsWritten s t d p b) where
  place_kept : (x q : ℕ) → has_place t x q ≡ has_place s x q
  place_kept x q =
      ap (λ (f : ℕ → Power). is_present (f x) && nat_lt q (t.size x)) w.power ∙ ap (λ (f : ℕ → ℕ). is_present (s.power x) && nat_lt q (f x)) w.size

  pub contents_written : has_place s d p ≡ true → log_least ≤ p → contents t [] d p ≡ b
  contents_written there far = contents_here t [] d p far (place_kept d p ∙ there) ∙ w.here

  pub contents_kept : (x q : ℕ) → (x ≡ d → q ≢ p) → contents t [] x q ≡ contents s [] x q
  unfolding contents
  contents_kept x q apart =
      ap (λ (there : Bool). if nat_lt q log_least then zero_block else (if there then t.block x q else zero_block)) (place_kept x q)
      ∙ ap (λ (y : Block). if nat_lt q log_least then zero_block else (if has_place s x q then y else zero_block)) (w.elsewhere x q apart)

  -- The value of a dirty cell is copied to its hard place.
  pub copies_cell : (m : Meta) (cells cells_after : ℕ → ℕ → Bool) (q : ℕ) → IsInRange m → out_disk s.power m ≡ None → q < m.setup.geometry.rows → m.gear ≤ d
      → (view_by m s.power (contents s [])).dirty q d ≡ true → p ≡ hard_place_of m.setup.geometry q → has_place s d p ≡ true
      → b ≡ value (view_by m s.power (contents s [])) q d
      → ((r x : ℕ) → cells_after r x ≡ true → (cells r x ≡ true) ⊎ ((r ≡ q) × (x ≡ d)))
      → AreCellsCopied (view_by m s.power (contents s [])) cells → AreCellsCopied (view_by m t.power (contents t [])) cells_after
  copies_cell m cells cells_after q range none lq low bit at there is more copied =
      let free : IsFree (view_with_out m None (contents s [])) d p = dirty_cell q lq low (ap (λ (o : Option ℕ). map_bit m.setup.geometry (contents s [] (map_disk o)) q d) (sym none) ∙ bit) at in
      let agree = free_places_agree (view_with_out m None (contents s [])) s.power (contents t []) range
      (λ e named. let z : No ≡ No = refl in let k : None ≡ Some e = sym (ap named_out (all_in s.power m none)) ∙ named in k)
      (λ x y. elim (cases_eq x d) [
        | inr not ↦ inr (contents_kept x y (λ same. absurd (not same)))
        | inl same ↦ elim (cases_eq y p) [
          | inr not ↦ inr (contents_kept x y (λ _. not))
          | inl here ↦ inl (subst (λ (z : ℕ). IsFree (view_with_out m None (contents s [])) z y) (sym same) (subst (IsFree (view_with_out m None (contents s [])) d) (sym here) free))
        ]
      ]) in
      let stored : contents t [] d (hard_place_of m.setup.geometry q) ≡ value (view_with_out m None (contents s [])) q d =
      ap (contents t [] d) (sym at) ∙ contents_written there (omega arith) ∙ is ∙ ap (λ (o : Option ℕ). value (view_with_out m o (contents s [])) q d) none in
      let none_now : out_disk t.power m ≡ None = ap (λ (f : ℕ → Power). out_disk f m) w.power ∙ none in
      subst (λ (o : Option ℕ). AreCellsCopied (view_with_out m o (contents t [])) cells_after) (sym none_now)
      (cell_copied m s.power (contents s []) (contents t []) range (all_in s.power m none) agree cells cells_after q d
      (λ y z apart. contents_kept y z (λ same. λ here. apart same (here ∙ at))) stored more
      (subst (λ (o : Option ℕ). AreCellsCopied (view_with_out m o (contents s [])) cells) none copied))
