-- A write of a gate, of which a stop may leave any bytes.
use Rattle.std.specs.Prelude.{◌≡◌, ◌≢◌, ℕ, ◌⊎◌, Bool, true, false, Option, Some}
use Rattle.std.proofs.Common.{refl, sym, ◌∙◌, ap, subst, inl, inr}
use Rattle.std.proofs.lemmas.Bool.{cases_eq, false≢true, true≢false}
use Rattle.paraid_base.specs.declared.block.Block.{Block}
use Rattle.paraid_base.specs.History.{History}
use Rattle.paraid_rack.specs.declared.call.Call.TheVariants.{Write}
use Rattle.paraid_rack.specs.Disks.{Disks, IsImage, lose, step}
use Rattle.paraid_image.specs.Gate.{MayToggleGate, IsSoundToggled}
use Rattle.paraid_image.specs.HeldAt.{IsHeld, IsSoundFrom, MayLose}
use Rattle.paraid_image.specs.Neutral.{overwrite}
use Rattle.paraid_image.specs.Out.{IsWeak}
use Rattle.paraid_image.specs.Sides.{is_open, stored_block}
use Rattle.paraid_image.proofs.NeutralLemmas.{Keeps, is_sound_forth, keeps_gate, keeps_nowhere, weak_back, written}
use Rattle.paraid_image.proofs.CallLemmas.{back_again, may_lose_back, place_lost, stored_kept, write_image}

same_bool : (a b : Bool) → (a ≡ b) ⊎ (a ≢ b)
same_bool true true = inl refl
same_bool true false = inr (λ e. true≢false e)
same_bool false true = inr (λ e. false≢true e)
same_bool false false = inl refl

-- a gate that is as it was, with a disk lost
keeps_gate_lost : (i : Disks) (e x : ℕ) (b : Block) → is_open b ≡ is_open (stored_block i x 0) → Keeps (lose e i) (written i x 0 b)
keeps_gate_lost i e x b same = elim (cases_eq x e) [
  | inl is ↦ keeps_nowhere (lose e i) x 0 b (place_lost i e x 0 is)
  | inr not ↦ keeps_gate (lose e i) x b (same ∙ ap is_open (sym (stored_kept i e x 0 not)))
]

-- the images after the write, by whether the gate has turned
gate_leaves : (slots : ℕ) (i : Disks) (x : ℕ) (b : Block) (h : History) (lo : ℕ) (down : Option ℕ) → MayToggleGate slots i x h lo down → IsSoundFrom slots i h lo
    → ((e : ℕ) → MayLose i e → IsSoundFrom slots (lose e i) h lo) → ((w : ℕ) → IsWeak i w → down ≡ Some w) → IsSoundToggled slots i x b h lo down
gate_leaves slots i x b h lo down turns whole lost weak = elim (same_bool (is_open b) (is_open (stored_block i x 0))) [
  | inl same ↦
      let keeps = keeps_gate i x b same in
      record {
        whole = is_sound_forth i (written i x 0 b) keeps slots h lo whole;
        lost = λ e may.
            is_sound_forth (lose e i) (written i x 0 b) (keeps_gate_lost i e x b same) slots h lo
            (lost e (may_lose_back i (written i x 0 b) e keeps.log may));
        weak = λ w is. weak w (weak_back i (written i x 0 b) keeps.log w is);
      }
  | inr turned ↦ turns b turned
]

pub gate_write_holds : (slots : ℕ) (s : Disks) (h : History) (lo : ℕ) (down : Option ℕ) (x : ℕ) (b : Block)
    → ((i : Disks) → IsImage s i → MayToggleGate slots i x h lo down) → IsHeld slots s h lo down → IsHeld slots (step (Write x 0 b true) s) h lo down
gate_write_holds slots s h lo down x b turns held =
    let before : Disks → Disks = λ (j : Disks). overwrite j x 0 (s.block x 0) in
    let is : (j : Disks) → overwrite (before j) x 0 (j.block x 0) ≡ j = λ (j : Disks). back_again j x 0 (s.block x 0) in
    let leaves : (j : Disks) → IsImage (step (Write x 0 b true) s) j → IsSoundToggled slots (before j) x (j.block x 0) h lo down = λ j e.
    let image = write_image s x 0 b j e in
    gate_leaves slots (before j) x (j.block x 0) h lo down (turns (before j) image) (held.whole (before j) image)
    (λ f may. held.lost (before j) f image may) (λ w weak. held.weak (before j) w image weak) in
    record {
      whole = λ j e. subst (λ (k : Disks). IsSoundFrom slots k h lo) (is j) ((leaves j e).whole);
      lost = λ j f e may. subst (λ (k : Disks). IsSoundFrom slots (lose f k) h lo) (is j)
          ((leaves j e).lost f (subst (λ (k : Disks). MayLose k f) (sym (is j)) may));
      weak = λ j w e weak. (leaves j e).weak w (subst (λ (k : Disks). IsWeak k w) (sym (is j)) weak);
    }
