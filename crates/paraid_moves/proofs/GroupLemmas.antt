-- A group of copies and the commit of its marks: the history is held at each moment.
use Rattle.std.specs.Prelude.{◌≡◌, ℕ, ◌+◌, ◌≤◌, [], Option, Some, None, length}
use Rattle.std.proofs.Common.{sym, ◌∙◌, subst}
use Rattle.paraid_base.specs.declared.state.Out.TheVariants.{No, Fresh}
use Rattle.paraid_base.specs.History.{History}
use Rattle.paraid_rack.specs.Disks.{Disks}
use Rattle.paraid_rack.specs.Trail.{Trail, disks, moments, now}
use Rattle.paraid_record.specs.declared.meta.Meta.{Meta}
use Rattle.paraid_image.specs.Rest.{IsAtRest, AreSynced}
use Rattle.paraid_txn.specs.Commit.{IsNext, IsOldOrNew, IsWholeOrAbsent}
use Rattle.paraid_image.specs.Content.{view_by}
use Rattle.paraid_image.specs.HeldAt.{IsHeldAt}
use Rattle.paraid_image.specs.FirstWrites.{HoldsFirstWrites}
use Rattle.paraid_image.specs.Out.{out_disk}
use Rattle.paraid_image.specs.Sides.{Batch}
use Rattle.paraid_image.specs.Sound.{ContentOk}
use Rattle.paraid_image.specs.Standing.{contents, Contents}
use Rattle.paraid_txn.proofs.HeldCommitLemmas.{held_commits}
use Rattle.paraid_txn.proofs.RanLemmas.{commit_moments}
use Rattle.paraid_moves.specs.Copying.{HoldsWithCopies}
use Rattle.paraid_moves.specs.Groups.{IsOneDown}
use Rattle.paraid_moves.specs.MoveMetas.{AreStripesCopied, HoldUnder, IsAs, filled_to}
use Rattle.paraid_moves.proofs.MoveLemmas.{all_in, fits_later, marks_stripes}
use Rattle.paraid_moves.proofs.NextLemmas.{content_now, holds_now, next_same, rest_now, witnesses_now}

module _ (slots : ℕ) (m t : Meta) (f : Contents) (h : History) (lo : ℕ) (batch : Batch) (old new : Option Trail) (first last : Trail)
    (was : old ≡ Some first) (tells : new ≡ Some last) (copies : HoldsWithCopies slots m f h lo (now first)) (synced : AreSynced (now first))
    (writes : t.writes ≡ m.writes) (promise : IsWholeOrAbsent old new m t batch) where
  abbrev s : Disks
  s = now first

  -- The commit after copies that are synced, where the marks that it brings fit what is stored.
  pub group_holds : IsNext s m t → HoldUnder slots s.power s.size h m.writes t (contents s batch)
      → (k : ℕ) (down : Option ℕ) → moments first ≤ k → k ≤ moments last → IsOneDown (disks last k) m t down → IsHeldAt slots last k h lo down
  group_holds next fits k down from to one_down =
      let p = commit_moments old new m t batch promise last tells in
      let same : p.0 ≡ first = (let z : Some p.0 ≡ Some first = sym p.1 ∙ was in cc) in
      let rest = rest_now slots m f h lo s copies synced in
      let marked : HoldsFirstWrites slots s t batch h lo = record {
        low = subst (λ (w : ℕ). lo ≤ w) (sym writes) copies.low;
        high = subst (λ (w : ℕ). w ≤ length h) (sym writes) copies.high;
        content = subst (λ (w : ℕ). ContentOk slots s.power s.size (view_by t s.power (contents s batch)) h w) (sym writes) fits;
      } in
      let moment = subst (λ (q : Trail). IsAtRest (now q) m → IsNext (now q) m t → (j : ℕ) → moments q ≤ j → j ≤ moments last
      → IsOldOrNew (now q) m t batch (disks last j)) same p.3 rest next k from to in
      held_commits slots s m t batch h lo (holds_now slots m f h lo s copies) marked (witnesses_now slots m f h lo s copies) (disks last k) down one_down moment

-- So it is with a group of stripes, whose marks go by an empty batch.
pub stripes_group_holds : (slots : ℕ) (m t : Meta) (f : Contents) (h : History) (lo end : ℕ) (old new : Option Trail) (first last : Trail)
    → old ≡ Some first → new ≡ Some last → HoldsWithCopies slots m f h lo (now first) → AreSynced (now first)
    → out_disk (now first).power m ≡ None → AreStripesCopied (view_by m (now first).power (contents (now first) [])) end
    → IsAs (filled_to m end) t → t.epoch ≡ m.epoch + 1 → t.writes ≡ m.writes → IsWholeOrAbsent old new m t []
    → (k : ℕ) (down : Option ℕ) → moments first ≤ k → k ≤ moments last → IsOneDown (disks last k) m t down → IsHeldAt slots last k h lo down
stripes_group_holds slots m t f h lo end old new first last was tells copies synced none copied is epoch writes promise =
    let s : Disks = now first in
    let rest = rest_now slots m f h lo (now first) copies synced in
    let out : m.out ≡ No = all_in (now first).power m none in
    let fits = fits_later slots (now first).power (now first).size h m.writes (filled_to m end) t (contents (now first) []) is
    (λ d u fresh. let z : No ≡ Fresh d u = sym out ∙ fresh.is in cc)
    (marks_stripes slots (now first).power (now first).size h m.writes m (contents (now first) []) none (content_now slots m f h lo (now first) copies) end copied) in
    group_holds slots m t f h lo [] old new first last was tells copies synced writes promise (next_same (now first) m t epoch is.setup rest is.out) fits
