-- The disks at the end of a commit with reads after it.
use Rattle.std.specs.Prelude.{◌≡◌, ℕ, ◌<◌, ◌⊎◌, false, List, Bool, [], Option, Some}
use Rattle.std.proofs.Common.{refl, sym, ◌∙◌, ap, subst, arith, inl, inr}
use Rattle.paraid_base.specs.History.{History}
use Rattle.paraid_rack.specs.Disks.{Disks, IsImage, is_present}
use Rattle.paraid_rack.specs.Slots.{Agrees, Slot}
use Rattle.paraid_rack.specs.Told.{CrashTriple, Ran, Through}
use Rattle.paraid_rack.specs.Trail.{Trail, now, run}
use Rattle.paraid_rack.proofs.TrailsLemmas.{now-extend}
use Rattle.paraid_record.specs.declared.meta.Meta.{Meta}
use Rattle.paraid_record.specs.declared.meta.Setup.{Setup}
use Rattle.paraid_image.specs.Out.{IsMissing, named_out}
use Rattle.paraid_image.specs.Rest.{IsAtRest}
use Rattle.paraid_image.specs.Sides.{Batch, LogState, closed_over}
use Rattle.paraid_image.proofs.StandingLemmas.{Stands-same}
use Rattle.paraid_moves.proofs.NextLemmas.{rest_now}
use Rattle.paraid_txn.specs.Commit.{ImageStandsFor, IsEitherMissing, IsOldOrNew, IsOneMissing}
use Rattle.paraid_core.specs.CoreInvariant.{AreCopiesSynced, HoldsBetweenCalls}
use Rattle.paraid_core.proofs.CommitLemmas.{both_of}
use Rattle.paraid_core.proofs.ReadsLemmas.{through_last}
use Rattle.paraid_core.proofs.ReadyLemmas.{some_is}

-- The meta of the last commit is the one of two that is the later.
module _ (slots : ℕ) (named : Option ℕ) (m : Meta) (table : List (List Bool)) (batch_now : Batch) (copied : List Bool) (h : History) (lo : ℕ) (t : Disks) (k : HoldsBetweenCalls slots named m table batch_now copied h lo t)
    (synced : AreCopiesSynced m.setup.geometry.disks copied) (start : Disks) (before after : Meta) (batch : Batch) (it : IsOldOrNew start before after batch t) (one : IsOneMissing t.power before after) (early : before.epoch < m.epoch) where
  rest : IsAtRest t k.base
  rest = rest_now slots k.base k.held h lo t k.copies (λ x p here. k.synced x p here (synced x))

  abbrev i : Disks
  i = record t { loose = λ d p. false }

  image : IsImage t i
  image = record { power = λ d. refl; size = λ d. refl; block = λ d p not. refl; loose = λ d p. refl }

  said_by : (z : Meta) (b : Batch) → ImageStandsFor start i z b → k.base ≡ z
  said_by z b stands =
      let c = k.copies.copying i image in
      ap (λ (said : LogState). said.meta) (Stands-same i c.disk stands.disk (closed_over k.base) stands.said c.log.stands stands.log.stands).1 ∙ stands.meta

  base_is : k.base ≡ after
  base_is = elim (it.images.whole i image one) [
    | inr new ↦ said_by after batch new
    | inl old ↦
        let same : k.base.epoch ≡ before.epoch = ap (λ (z : Meta). z.epoch) (said_by before [] old) in
        let epoch = k.epoch in
        absurd (omega (arith, same, epoch, early))
  ]

  pub rests_after : IsAtRest t after
  rests_after = subst (IsAtRest t) base_is rest

module _ (A : Disks → Type 0) (base : (s : Disks) → A s → Meta) (after : Meta) (batch : Batch) (P : Disks → Type 0) (slots : ℕ) (named : Option ℕ) (m : Meta) (table : List (List Bool)) (batch_now : Batch) (copied copied_was : List Bool) (h : History) (lo : ℕ)
    (slot : ℕ → Slot) (old new : Option Trail) (agrees : (t : Trail) → new ≡ Some t → Agrees (now t) slot)
    (absent : (d : ℕ) → d < m.setup.geometry.disks → is_present (slot d).power ≡ false → named_out m.out ≡ Some d) (one : (d e : ℕ) → named ≡ Some d → named_out m.out ≡ Some e → d ≡ e)
    (names : named ≡ named_out after.out) (was : (s : Disks) (a : A s) (d : ℕ) → named_out (base s a).out ≡ Some d → named_out after.out ≡ Some d)
    (setup : (s : Disks) (a : A s) → after.setup ≡ (base s a).setup) (same : m.setup ≡ after.setup) (early : (s : Disks) (a : A s) → (base s a).epoch < m.epoch)
    (copied_is : copied ≡ copied_was) (synced : AreCopiesSynced after.setup.geometry.disks copied_was) where
  synced_now : AreCopiesSynced m.setup.geometry.disks copied
  synced_now = subst (AreCopiesSynced m.setup.geometry.disks) (sym copied_is) (subst (λ (z : Setup). AreCopiesSynced z.geometry.disks copied_was) (sym same) synced)

  abbrev Down : ℕ → Type 0
  Down d = (named ≡ Some d) ⊎ (named_out m.out ≡ Some d)

  one_down : (d e : ℕ) → Down d → Down e → d ≡ e
  one_down d e (inl p) (inl q) = some_is d e (sym p ∙ q)
  one_down d e (inl p) (inr q) = one d e p q
  one_down d e (inr p) (inl q) = sym (one e d q p)
  one_down d e (inr p) (inr q) = some_is d e (sym p ∙ q)

  module _ (s t : Disks) (a : A s) (here : Agrees t slot) where
    missing_down : (z : Meta) → z.setup ≡ m.setup → ((d : ℕ) → named_out z.out ≡ Some d → named ≡ Some d) → (d : ℕ) → IsMissing t.power z d → Down d
    missing_down z shape known d missing = elim missing.is [
      | inl away ↦ inr (absent d (subst (λ (y : Setup). d < y.geometry.disks) shape missing.disk) (ap is_present (sym (here.power d)) ∙ away))
      | inr is ↦ inl (known d is)
    ]

    down_by : (d : ℕ) → IsEitherMissing t.power (base s a) after d → Down d
    down_by d missing = elim missing [
      | inl before ↦ missing_down (base s a) (sym (setup s a) ∙ sym same) (λ d is. names ∙ was s a d is) d before
      | inr later ↦ missing_down after (sym same) (λ d is. names ∙ is) d later
    ]

    one_missing : IsOneMissing t.power (base s a) after
    one_missing = record { one = λ d e p q. one_down d e (down_by d p) (down_by e q) }

  pub rest_ran : Ran old new (λ start calls. (a : A start) → Through (IsOldOrNew start (base start a) after batch) start calls) → Ran old new (CrashTriple P A (HoldsBetweenCalls slots named m table batch_now copied h lo))
      → Ran old new (λ start calls. (a : A start) → IsAtRest (run start calls) after)
  rest_ran whole stands t tells =
      let r = both_of (λ start calls. (a : A start) → Through (IsOldOrNew start (base start a) after batch) start calls) (CrashTriple P A (HoldsBetweenCalls slots named m table batch_now copied h lo)) old new whole stands t tells in
      let end : Disks = run (now r.from) r.calls in
      let here : Agrees end slot = subst (λ (u : Disks). Agrees u slot) (ap now r.is ∙ now-extend r.from r.calls) (agrees t tells) in
      record {
        from = r.from;
        was = r.was;
        calls = r.calls;
        is = r.is;
        holds = λ a.
            rests_after slots named m table batch_now copied h lo end (r.holds.1.goes a).1 synced_now (now r.from) (base (now r.from) a) after batch
            (through_last (IsOldOrNew (now r.from) (base (now r.from) a) after batch) (now r.from) r.calls (r.holds.0 a)) (one_missing (now r.from) end a here) (early (now r.from) a);
      }
