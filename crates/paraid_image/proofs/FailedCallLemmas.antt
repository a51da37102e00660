-- How a failed call keeps what is held.
use Rattle.std.specs.Prelude.{◌≡◌, ◌≢◌, ℕ, ◌<◌, nat_lt, true, false, Option, Some}
use Rattle.std.proofs.Common.{refl, sym, ◌∙◌, ap, subst, inl}
use Rattle.std.proofs.lemmas.Bool.{false≢true, true≢false}
use Rattle.paraid_base.specs.declared.block.Block.{Block}
use Rattle.paraid_base.specs.History.{History}
use Rattle.paraid_base.specs.Log.{log_least}
use Rattle.paraid_rack.specs.declared.call.Call.{Call}
use Rattle.paraid_rack.specs.declared.call.Call.TheVariants.{Read, Write, Sync, Park, SpinUp, Attach}
use Rattle.paraid_rack.specs.declared.call.Power.TheVariants.{Absent}
use Rattle.paraid_rack.specs.Disks.{Disks, IsImage, IsPresent, is_present, lose, step, with_at}
use Rattle.paraid_rack.proofs.AtomsLemmas.{at_case, with_at_other, with_at_same}
use Rattle.paraid_image.specs.Calls.{disk_of, is_done}
use Rattle.paraid_image.specs.HeldAt.{IsHeld, IsSoundFrom, MayLose}
use Rattle.paraid_image.specs.LostDisk.{IsLoss}
use Rattle.paraid_image.specs.Out.{IsWeak}
use Rattle.paraid_image.specs.Out.IsWeak.{out}
use Rattle.paraid_image.specs.Sides.{LogState, Says, has_place, is_open, stored_block}
use Rattle.paraid_image.specs.Standing.{Stands, contents, overlaid_block}
use Rattle.paraid_image.proofs.NeutralLemmas.{Keeps, is_sound_forth, keeps_by, past_log, stands_back, where_there, with_blocks}
use Rattle.paraid_image.proofs.OutLemmas.{missing_is_out, says_in_range}
use Rattle.paraid_image.proofs.StandingLemmas.{IsWeak-same}
use Rattle.paraid_image.proofs.CallLemmas.{place_lost, says_of_lost}

pub others_keep : {A : Type 0} (f : ℕ → ℕ → A) (d : ℕ) (g : ℕ → A) (x p : ℕ) → x ≢ d → with_at f d g x p ≡ f x p
others_keep f d g x p not = ap (λ h. h p) (with_at_other f d g x not)

-- a failed call loses its disk
pub failed_is_loss : (s : Disks) (c : Call) → is_done c ≡ false → IsLoss s (step c s) (disk_of c)
unfolding step
failed_is_loss s (Read d p true) e = absurd (true≢false e)
failed_is_loss s (Read d p false) e = record { power = λ x. refl; size = λ x. refl; block = λ x q not. refl; loose = λ x q not. refl }
failed_is_loss s (Write d p b true) e = absurd (true≢false e)
failed_is_loss s (Write d p b false) e = record {
  power = λ x. refl;
  size = λ x. refl;
  block = λ x q not. others_keep s.block d (with_at (s.block d) p b) x q not;
  loose = λ x q not. others_keep s.loose d (with_at (s.loose d) p true) x q not;
}
failed_is_loss s (Sync d true) e = absurd (true≢false e)
failed_is_loss s (Sync d false) e = record { power = λ x. refl; size = λ x. refl; block = λ x q not. refl; loose = λ x q not. others_keep s.loose d (s.loose d) x q not }
failed_is_loss s (Park d true) e = absurd (true≢false e)
failed_is_loss s (Park d false) e = record { power = λ x. refl; size = λ x. refl; block = λ x q not. refl; loose = λ x q not. refl }
failed_is_loss s (SpinUp d true) e = absurd (true≢false e)
failed_is_loss s (SpinUp d false) e = record { power = λ x. refl; size = λ x. refl; block = λ x q not. refl; loose = λ x q not. refl }
failed_is_loss s (Attach d size true) e = absurd (true≢false e)
failed_is_loss s (Attach d size false) e = record {
  power = λ x. refl;
  size = λ x. refl;
  block = λ x q not. others_keep s.block d (s.block d) x q not;
  loose = λ x q not. others_keep s.loose d (s.loose d) x q not;
}

-- the blocks of a lost disk do not matter

stored_same : (i : Disks) (d : ℕ) (f : ℕ → ℕ → Block) → ((x q : ℕ) → x ≢ d → f x q ≡ i.block x q)
    → (x q : ℕ) → stored_block (with_blocks (lose d i) f) x q ≡ stored_block (lose d i) x q
unfolding stored_block
stored_same i d f same x q = where_there (has_place (lose d i) x q) (f x q) (i.block x q)
    (λ there. same x q (λ is. false≢true (sym (place_lost i d x q is) ∙ there)))

contents_same : (i : Disks) (d : ℕ) (f : ℕ → ℕ → Block) (said : LogState) → ((x q : ℕ) → x ≢ d → f x q ≡ i.block x q)
    → contents (with_blocks (lose d i) f) said.batch ≡ contents (lose d i) said.batch
unfolding contents
contents_same i d f said same = λ t. λ x q. (past_log (nat_lt q log_least) (has_place (lose d i) x q)
    (overlaid_block said.batch x q (f x q)) (overlaid_block said.batch x q (i.block x q))
    (λ low there. ap (overlaid_block said.batch x q) (same x q (λ is. false≢true (sym (place_lost i d x q is) ∙ there))))) t

pub keeps_others : (i : Disks) (d : ℕ) (f : ℕ → ℕ → Block) → ((x q : ℕ) → x ≢ d → f x q ≡ i.block x q) → Keeps (lose d i) f
keeps_others i d f same = keeps_by (lose d i) f
    (λ x l. record {
      power = refl;
      gate = ap is_open (stored_same i d f same x 0);
      meta = λ closed. stored_same i d f same x 1;
      rest = λ opened said says q low high. stored_same i d f same x q;
    })
    (λ x said s. contents_same i d f said same)
    (λ x l. ap is_open (stored_same i d f same 2 x))

module _ (slots : ℕ) (s t : Disks) (h : History) (lo : ℕ) (down : Option ℕ) (d : ℕ) (loss : IsLoss s t d) (present : IsPresent s d)
    (within : (i : Disks) (x : ℕ) (said : LogState) → IsImage s i → x < 2 → Says i x said → d < said.meta.setup.geometry.disks)
    (alone : (i : Disks) (w : ℕ) → IsImage s i → IsWeak i w → w ≡ d) (held : IsHeld slots s h lo down) where
  -- the image before the loss
  abbrev before : Disks → Disks
  before j = record { power = s.power; size = s.size; block = with_at j.block d (s.block d); loose = j.loose }

  before_is : (j : Disks) → IsImage t j → IsImage s (before j)
  before_is j e = record {
    power = λ x. refl;
    size = λ x. refl;
    block = λ x q synced. at_case (λ (f : ℕ → Block). f q ≡ s.block x q) j.block d (s.block d) x
        (λ is. ap (λ (y : ℕ). s.block y q) (sym is))
        (λ not. e.block x q (loss.loose x q not ∙ synced) ∙ loss.block x q not);
    loose = e.loose;
  }

  after_is : (j : Disks) → IsImage t j → with_blocks (lose d (before j)) j.block ≡ j
  after_is j e = λ u. record {
    power = λ x. (sym (loss.power x) ∙ sym (e.power x)) u;
    size = λ x. (sym (loss.size x) ∙ sym (e.size x)) u;
    block = j.block;
    loose = j.loose;
  }

  keeps : (j : Disks) → Keeps (lose d (before j)) j.block
  keeps j = keeps_others (before j) d j.block (λ x q not. sym (others_keep j.block d (s.block d) x q not))

  holds : (j : Disks) → IsImage t j → IsSoundFrom slots j h lo
  holds j e =
      let was = held.whole (before j) (before_is j e) in
      let may : MayLose (before j) d = record {
        standing = was.sound.disk;
        said = was.sound.said;
        stands = was.sound.log.stands;
        disk = within (before j) was.sound.disk was.sound.said (before_is j e) was.sound.log.stands.log_disk was.sound.log.stands.says;
        present = present;
        weak = λ w weak. alone (before j) w (before_is j e) weak;
      } in
      subst (λ (k : Disks). IsSoundFrom slots k h lo) (after_is j e)
      (is_sound_forth (lose d (before j)) j.block (keeps j) slots h lo (held.lost (before j) d (before_is j e) may))

  absent : (j : Disks) → IsImage t j → is_present (j.power d) ≡ false
  absent j e = ap is_present (e.power d ∙ loss.power d ∙ with_at_same s.power d Absent d refl)

  weak_now : (j : Disks) → IsImage t j → IsWeak j d
  weak_now j e =
      let sound = (holds j e).sound in
      let stands = sound.log.stands in
      let lost_stands = stands_back (lose d (before j)) j.block ((keeps j).log) sound.disk sound.said
      (subst (λ (k : Disks). Stands k sound.disk sound.said) (sym (after_is j e)) stands) in
      let below = within (before j) sound.disk sound.said (before_is j e) stands.log_disk
      (says_of_lost (before j) d sound.disk sound.said lost_stands.says) in
      out sound.disk sound.said stands (missing_is_out j.power sound.said.meta d
      (says_in_range sound.said.opened (stored_block j sound.disk) sound.said.meta sound.said.batch stands.says.log) sound.log.single
      (record { disk = below; is = inl (absent j e) }) (absent j e))

  pub IsHeld-lost : IsHeld slots t h lo (Some d)
  IsHeld-lost = record {
    whole = holds;
    lost = λ j e image may.
        let is = may.weak d (weak_now j image) in
        absurd (false≢true (sym (absent j image) ∙ ap (λ (y : ℕ). is_present (j.power y)) is ∙ may.present));
    weak = λ j w image weak. ap Some (IsWeak-same j d w (weak_now j image) weak);
  }
