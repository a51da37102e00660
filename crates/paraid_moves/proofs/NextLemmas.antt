-- Which meta may come next, move by move; and from copies to the next commit.
use Rattle.std.specs.Prelude.{◌≡◌, ℕ, ◌+◌, ◌<◌, false, [], Some, None}
use Rattle.std.proofs.Common.{refl, sym, ◌∙◌, ap, subst}
use Rattle.paraid_base.specs.declared.state.Out.TheVariants.{No, Gone, Fresh}
use Rattle.paraid_base.specs.History.{History}
use Rattle.paraid_rack.specs.Disks.{Disks, IsImage}
use Rattle.paraid_record.specs.declared.meta.Meta.{Meta}
use Rattle.paraid_image.specs.Rest.{IsAtRest, AreSynced}
use Rattle.paraid_txn.specs.Commit.{IsNext}
use Rattle.paraid_image.specs.Content.{view_by}
use Rattle.paraid_image.specs.FirstWrites.{HoldsFirstWrites}
use Rattle.paraid_image.specs.Out.{named_out, out_disk}
use Rattle.paraid_image.specs.Sides.{is_open, stored_block}
use Rattle.paraid_image.specs.Sound.{AreWitnessesTrue, ContentOk}
use Rattle.paraid_image.specs.Standing.{Contents, contents}
use Rattle.paraid_moves.specs.Copying.{HoldsWithCopies}
use Rattle.paraid_moves.proofs.CopyCommitLemmas.{copies_hold, rest_from_copying}

module _ (s : Disks) (before after : Meta) (epoch : after.epoch ≡ before.epoch + 1) (setup : after.setup ≡ before.setup) (rest : IsAtRest s before) where
  -- a shift, and a commit of writes
  pub next_same : after.out ≡ before.out → IsNext s before after
  next_same same = record {
    epoch = epoch;
    setup = setup;
    out = λ d e p q. let z : Some d ≡ Some e = sym p ∙ ap named_out same ∙ q in cc;
    comes_in = λ x l here was not. absurd (not (ap named_out same ∙ was));
    fresh_closed = λ x u fresh l. rest.log.fresh_closed x u (record { is = sym same ∙ fresh.is; present = fresh.present }) l;
  }

  -- a disk is marked as gone
  pub next_gone : (d : ℕ) → after.out ≡ Gone d → ((e : ℕ) → named_out before.out ≡ Some e → e ≡ d) → IsNext s before after
  next_gone d is one = record {
    epoch = epoch;
    setup = setup;
    out = λ x e p q. let z : Some d ≡ Some x = sym (ap named_out is) ∙ p in let y : d ≡ x = cc in sym y ∙ sym (one e q);
    comes_in = λ x l here was not. absurd (not (ap named_out is ∙ ap Some (sym (one x was))));
    fresh_closed = λ x u fresh l. let z : Gone d ≡ Fresh x u = sym is ∙ fresh.is in cc;
  }

  -- it is marked as fresh, or units of it as rebuilt
  pub next_fresh : (d units : ℕ) → after.out ≡ Fresh d units → named_out before.out ≡ Some d → (d < 2 → is_open (stored_block s d 0) ≡ false) → IsNext s before after
  next_fresh d units is was shut = record {
    epoch = epoch;
    setup = setup;
    out = λ x e p q.
        let z : Some d ≡ Some x = sym (ap named_out is) ∙ p in
        let y : Some d ≡ Some e = sym was ∙ q in cc;
    comes_in = λ x l here named not. absurd (not (ap named_out is ∙ sym was ∙ named));
    fresh_closed = λ x u fresh l.
        let z : Fresh d units ≡ Fresh x u = sym is ∙ fresh.is in
        let y : d ≡ x = cc in
        subst (λ (e : ℕ). is_open (stored_block s e 0) ≡ false) y (shut (subst (λ (e : ℕ). e < 2) (sym y) l));
  }

  -- it joins again
  pub next_joined : (d units : ℕ) → after.out ≡ No → before.out ≡ Fresh d units → IsNext s before after
  next_joined d units is was = record {
    epoch = epoch;
    setup = setup;
    out = λ x e p q. let z : None ≡ Some x = sym (ap named_out is) ∙ p in cc;
    comes_in = λ x l here named not.
        let z : Some d ≡ Some x = sym (ap named_out was) ∙ named in
        let y : d ≡ x = cc in
        (units, was ∙ ap (λ (e : ℕ). Fresh e units) y);
    fresh_closed = λ x u fresh l. let z : No ≡ Fresh x u = sym is ∙ fresh.is in cc;
  }

-- What the disks hold now, with all copies made, holds the history.
module _ (slots : ℕ) (m : Meta) (f : Contents) (h : History) (lo : ℕ) (s : Disks) (c : HoldsWithCopies slots m f h lo s) where
  abbrev i : Disks
  i = record s { loose = λ d p. false }

  contents_now : contents i [] ≡ contents s []
  unfolding contents
  contents_now = refl

  pub content_now : ContentOk slots s.power s.size (view_by m s.power (contents s [])) h m.writes
  content_now =
      let e : IsImage s i = record { power = λ d. refl; size = λ d. refl; block = λ d p not. refl; loose = λ d p. refl } in
      subst (λ (g : Contents). ContentOk slots s.power s.size (view_by m s.power g) h m.writes) contents_now
      (copies_hold i m f (c.copying i e) slots h c.content)

  pub holds_now : HoldsFirstWrites slots s m [] h lo
  holds_now = record { low = c.low; high = c.high; content = content_now }

  -- and its witnesses are true
  pub witnesses_now : AreWitnessesTrue s (out_disk s.power m)
  unfolding stored_block
  witnesses_now =
      let e : IsImage s i = record { power = λ d. refl; size = λ d. refl; block = λ d p not. refl; loose = λ d p. refl } in
      (c.copying i e).witnesses

  -- where they are synced, the next commit can begin
  pub rest_now : AreSynced s → IsAtRest s m
  rest_now synced = rest_from_copying s m f synced c.copying
