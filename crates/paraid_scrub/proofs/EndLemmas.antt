-- What a check leaves of a core.
use Rattle.std.specs.Prelude.{◌≡◌, ℕ, ◌<◌, ◌⊎◌, Bool, List, [], ◌∷◌, Option, Some, None}
use Rattle.std.proofs.Common.{refl, sym, ◌∙◌, ap, arith, inl, inr}
use Rattle.paraid_base.specs.History.{History}
use Rattle.paraid_base.specs.Told.{HasRisen}
use Rattle.paraid_dirty.specs.Table.{is_dirty}
use Rattle.paraid_rack.specs.declared.call.Call.{Call}
use Rattle.paraid_rack.specs.Disks.{Disks, is_present, step}
use Rattle.paraid_rack.specs.Slots.{Agrees, Slot}
use Rattle.paraid_rack.specs.Told.{CrashTriple, Ran, Through}
use Rattle.paraid_rack.specs.Trail.{Trail, now}
use Rattle.paraid_image.specs.Out.{named_out, or_else}
use Rattle.paraid_image.specs.Standing.{contents}
use Rattle.paraid_txn.specs.Stores.{named_of, store_rack}
use Rattle.paraid_core.specs.declared.staged.Core.{Core}
use Rattle.paraid_core.specs.Cores.{IsCoreHeld, IsCoreHeldSinceCommit, CoreStandsFor, core_down}
use Rattle.paraid_core.specs.Down.{IsDownAfter}
use Rattle.paraid_core.specs.Steps.{LeavesCore}
use Rattle.paraid_core.proofs.ChainLemmas.{held_less}
use Rattle.paraid_core.proofs.LostDiskLemmas.{out_all}
use Rattle.paraid_core.proofs.ReadsLemmas.{knows_named}
use Rattle.paraid_scrub.specs.Cores.{CanBeChecked, HasMapBits, ShowsView, core_view, table_view}

through : (P Q : Disks → Type 0) → ((s : Disks) → P s → Q s) → (s : Disks) (cs : List Call) → Through P s cs → Through Q s cs
through P Q to s [] p = to s p
through P Q to s (c ∷ cs) p = (to s p.0, through P Q to (step c s) cs p.1)

-- less is held at each moment
weaker : (P Q A B D : Disks → Type 0) → ((s : Disks) → P s → Q s) → ((s : Disks) → B s → D s) → (old new : Option Trail) → Ran old new (CrashTriple P A B) → Ran old new (CrashTriple Q A D)
weaker P Q A B D to end old new ran t tells =
    let r = ran t tells in
    record {
      from = r.from;
      was = r.was;
      calls = r.calls;
      is = r.is;
      holds = record { goes = λ k. let both = r.holds.goes k in (through P Q to (now r.from) r.calls both.0, end _ both.1) };
    }

module _ {R : Type 0} {g : _} (count : R → ℕ) (slot : R → ℕ → Slot) (told : R → Option Trail) (a b : Core R g) where
  held_by_down : (h : History) (lo : ℕ) (s : Disks) → IsCoreHeldSinceCommit count a h lo s → IsCoreHeld count a h lo s
  held_by_down h lo s k =
      held_less (count (store_rack a.store)) a.meta.setup.geometry.disks (named_of a.store) (or_else (named_of a.store) (named_out a.meta.out)) h lo lo s (omega arith)
      (λ d is. knows_named (named_of a.store) (named_out a.meta.out) d is) k

  -- whatever was held since the last commit is held beside the disk that is down
  pub held_beside : (A : Disks → Type 0) (h : History) (lo : ℕ) → Ran (told (store_rack a.store)) (told (store_rack b.store)) (CrashTriple (IsCoreHeldSinceCommit count a h lo) A (IsCoreHeldSinceCommit count a h lo))
      → Ran (told (store_rack a.store)) (told (store_rack b.store)) (CrashTriple (IsCoreHeld count a h lo) A (IsCoreHeld count a h lo))
  held_beside A h lo ran = weaker (IsCoreHeldSinceCommit count a h lo) (IsCoreHeld count a h lo) A (IsCoreHeldSinceCommit count a h lo) (IsCoreHeld count a h lo) (held_by_down h lo) (held_by_down h lo) _ _ ran

  pub stands_beside : (A B : Disks → Type 0) (h : History) (lo : ℕ) → Ran (told (store_rack a.store)) (told (store_rack b.store)) (CrashTriple (IsCoreHeldSinceCommit count a h lo) A B)
      → Ran (told (store_rack a.store)) (told (store_rack b.store)) (CrashTriple (IsCoreHeld count a h lo) A B)
  stands_beside A B h lo ran = weaker (IsCoreHeldSinceCommit count a h lo) (IsCoreHeld count a h lo) A B B (held_by_down h lo) (λ s k. k) _ _ ran

  -- a disk that is down then was so before, or has failed
  pub leaves_down : LeavesCore count slot a b → IsDownAfter (core_down a) (core_down b) (slot (store_rack a.store)) (slot (store_rack b.store))
  leaves_down leaves = record {
    known = λ d is. by (named_of a.store) refl d (ap (λ (o : Option ℕ). or_else o (named_out b.meta.out)) (sym leaves.same.named) ∙ is);
  }
    where
      by : (o : Option ℕ) → named_of a.store ≡ o → (d : ℕ) → or_else (named_of a.store) (named_out b.meta.out) ≡ Some d
          → (or_else (named_of a.store) (named_out a.meta.out) ≡ Some d) ⊎ HasRisen (slot (store_rack a.store) d).faults (slot (store_rack b.store) d).faults
      by (Some e) is d down = inl (ap (λ (o : Option ℕ). or_else o (named_out a.meta.out)) is ∙ sym (ap (λ (o : Option ℕ). or_else o (named_out b.meta.out)) is) ∙ down)
      by None is d down = elim (leaves.risen d (sym (ap (λ (o : Option ℕ). or_else o (named_out b.meta.out)) is) ∙ down)) [
        | inl was ↦ inl (ap (λ (o : Option ℕ). or_else o (named_out a.meta.out)) is ∙ was)
        | inr failed ↦ inr failed
      ]

  module _ (can : CanBeChecked count slot a) (agrees : (t : Trail) → told (store_rack a.store) ≡ Some t → Agrees (now t) (slot (store_rack a.store))) (t : Trail) (tells : told (store_rack a.store) ≡ Some t) where
    -- the view of a core is shown with whatever dirty cells its table has
    cells_shown : (dirty : ℕ → ℕ → Bool) → ((r d : ℕ) → r < a.meta.setup.geometry.rows → is_dirty a.dirty r d ≡ dirty r d) → ShowsView told a (record (core_view a (now t)) { dirty = dirty })
    cells_shown dirty bits = record {
      trail = t;
      tells = tells;
      meta = refl;
      out = out_all (now t).power a.meta (λ d low gone. can.ready.absent d low (ap is_present (sym ((agrees t tells).power d)) ∙ gone));
      block = ap (contents (now t)) can.nothing;
      bits = bits;
    }

    pub view_shown : HasMapBits a (core_view a (now t)) → ShowsView told a (core_view a (now t))
    view_shown bits = cells_shown (core_view a (now t)).dirty bits

    pub table_shown : ShowsView told a (table_view a (now t))
    table_shown = cells_shown (is_dirty a.dirty) (λ r d low. refl)

  pub map_bits : (h : History) (lo : ℕ) (s : Disks) → CoreStandsFor count a h lo s → HasMapBits a (core_view a s)
  map_bits h lo s k r d low = k.dirty r d (omega (arith, low))
