-- What stands after a call that writes no block of the log stood before it.
use Rattle.std.specs.Prelude.{◌≡◌, ◌≢◌, ℕ, ◌≤◌, Bool, true, false, Option}
use Rattle.std.proofs.Common.{refl, sym, ◌∙◌, ap, subst, inl}
use Rattle.std.proofs.lemmas.Bool.{false≢true}
use Rattle.paraid_base.specs.declared.block.Block.{Block}
use Rattle.paraid_base.specs.History.{History}
use Rattle.paraid_base.specs.Log.{log_least}
use Rattle.paraid_rack.specs.declared.call.Call.{Call}
use Rattle.paraid_rack.specs.declared.call.Call.TheVariants.{Read, Write, Sync, Park, SpinUp, Attach}
use Rattle.paraid_rack.specs.declared.call.Power.{Power}
use Rattle.paraid_rack.specs.declared.call.Power.TheVariants.{Absent, Parked, Spinning}
use Rattle.paraid_rack.specs.Calls.{disk_of, is_done}
use Rattle.paraid_rack.specs.Disks.{Disks, IsImage, is_present, lose, step, with_at}
use Rattle.paraid_rack.proofs.AtomsLemmas.{at_case, with_at_other, with_at_same}
use Rattle.paraid_image.specs.HeldAt.{IsHeld, IsSoundFrom, MayLose}
use Rattle.paraid_image.specs.Looked.{IsLooked}
use Rattle.paraid_image.specs.Looked.IsLooked.{lost, whole}
use Rattle.paraid_image.specs.LostDisk.{IsLoss}
use Rattle.paraid_image.specs.Neutral.{overwrite}
use Rattle.paraid_image.specs.Out.{IsWeak}
use Rattle.paraid_image.specs.Out.IsWeak.{out}
use Rattle.paraid_image.specs.Sides.{LogState, stored_block}
use Rattle.paraid_image.specs.Standing.{Stands}
use Rattle.paraid_image.proofs.CallLemmas.{read_images, sync_images, write_image}
use Rattle.paraid_image.proofs.FailedCallLemmas.{failed_is_loss, keeps_others, others_keep}
use Rattle.paraid_image.proofs.NeutralLemmas.{Keeps, KeepsLog, is_sound_forth, keeps_log_by, log_kept_past, stands_back, stands_forth, weak_back, with_blocks, written}
use Rattle.paraid_image.proofs.OutLemmas.{missing_is_out, says_in_range}
use Rattle.paraid_image.proofs.ParkingLemmas.{stands_then, weak_now}
use Rattle.paraid_core.specs.Calls.{IsPastLog}
use Rattle.paraid_core.specs.Stood.{CanFail, StoodIn}

-- no disk
abbrev pub no_disk : ℕ → Type 0
no_disk d = ⊥

-- where there are no more images, no more is looked at
looked_fewer : (s t : Disks) → ((i : Disks) → IsImage t i → IsImage s i) → (j : Disks) → IsLooked t j → IsLooked s j
looked_fewer s t fewer j (whole image) = whole (fewer j image)
looked_fewer s t fewer j (lost i e image may is) = lost i e (fewer i image) may is

stood_fewer : (s t : Disks) (turned : ℕ → Type 0) → ((i : Disks) → IsImage t i → IsImage s i) → (j : Disks) (x : ℕ) (said : LogState) → IsLooked t j → Stands j x said → StoodIn s turned j x said
stood_fewer s t turned fewer j x said looked stands = record {
  image = j;
  looked = looked_fewer s t fewer j looked;
  stands = stands;
  there = λ d. refl;
  power = λ d not. refl;
}

-- a place past the log is in no log
past_kept : (i : Disks) (d p : ℕ) (b : Block) → log_least ≤ p → KeepsLog i (written i d p b)
past_kept i d p b far = keeps_log_by i (written i d p b) (λ x l. log_kept_past i d p b far x)

stood_write : (s : Disks) (d p : ℕ) (b : Block) → log_least ≤ p → (turned : ℕ → Type 0) → (j : Disks) (x : ℕ) (said : LogState) → IsLooked (step (Write d p b true) s) j → Stands j x said → StoodIn s turned j x said
stood_write s d p b far turned j x said (whole image) stands = record {
  image = overwrite j d p (s.block d p);
  looked = whole (write_image s d p b j image);
  stands = stands_forth j (written j d p (s.block d p)) (past_kept j d p (s.block d p) far) x said stands;
  there = λ e. refl;
  power = λ e not. refl;
}
stood_write s d p b far turned j x said (lost i e image may is) stands = record {
  image = lose e (overwrite i d p (s.block d p));
  looked = lost (overwrite i d p (s.block d p)) e (write_image s d p b i image) may_before refl;
  stands =
      stands_forth (lose e i) (written (lose e i) d p (s.block d p)) (past_kept (lose e i) d p (s.block d p) far) x said
      (subst (λ (k : Disks). Stands k x said) (sym is) stands);
  there = λ y. ap (λ (k : Disks). is_present (k.power y)) is;
  power = λ y not. ap (λ (k : Disks). k.power y) is;
}
  where
    keeps : KeepsLog i (written i d p (s.block d p))
    keeps = past_kept i d p (s.block d p) far

    may_before : MayLose (overwrite i d p (s.block d p)) e
    may_before = record {
      standing = may.standing;
      said = may.said;
      stands = stands_forth i (written i d p (s.block d p)) keeps may.standing may.said may.stands;
      disk = may.disk;
      present = may.present;
      weak = λ w weak. may.weak w (weak_back i (written i d p (s.block d p)) keeps w weak);
    }

-- a failed call: its disk is lost
module _ (slots : ℕ) (s t : Disks) (h : History) (lo : ℕ) (down : Option ℕ) (d : ℕ) (loss : IsLoss s t d) (can : CanFail s d) (held : IsHeld slots s h lo down) where
  abbrev before : Disks → Disks
  before j = record { power = s.power; size = s.size; block = with_at j.block d (s.block d); loose = j.loose }

  before_is : (j : Disks) → IsImage t j → IsImage s (before j)
  before_is j e = record {
    power = λ x. refl;
    size = λ x. refl;
    block = λ x q synced. at_case (λ (f : ℕ → Block). f q ≡ s.block x q) j.block d (s.block d) x
        (λ is. ap (λ (y : ℕ). s.block y q) (sym is))
        (λ not. e.block x q (loss.loose x q not ∙ synced) ∙ loss.block x q not);
    loose = e.loose;
  }

  after_is : (j : Disks) → IsImage t j → with_blocks (lose d (before j)) j.block ≡ j
  after_is j e = λ u. record {
    power = λ x. (sym (loss.power x) ∙ sym (e.power x)) u;
    size = λ x. (sym (loss.size x) ∙ sym (e.size x)) u;
    block = j.block;
    loose = j.loose;
  }

  keeps : (j : Disks) → Keeps (lose d (before j)) j.block
  keeps j = keeps_others (before j) d j.block (λ x q not. sym (others_keep j.block d (s.block d) x q not))

  may : (j : Disks) → IsImage t j → MayLose (before j) d
  may j e =
      let was = held.whole (before j) (before_is j e) in
      record {
        standing = was.sound.disk;
        said = was.sound.said;
        stands = was.sound.log.stands;
        disk = can.within (before j) was.sound.disk was.sound.said (whole (before_is j e)) was.sound.log.stands;
        present = can.present;
        weak = λ w weak. can.alone (before j) w (before_is j e) weak;
      }

  looked_before : (j : Disks) → IsImage t j → IsLooked s (lose d (before j))
  looked_before j e = lost (before j) d (before_is j e) (may j e) refl

  stood_before : (j : Disks) → IsImage t j → (x : ℕ) (said : LogState) → Stands j x said → Stands (lose d (before j)) x said
  stood_before j e x said stands = stands_back (lose d (before j)) j.block ((keeps j).log) x said (subst (λ (k : Disks). Stands k x said) (sym (after_is j e)) stands)

  sound_now : (j : Disks) → IsImage t j → IsSoundFrom slots j h lo
  sound_now j e =
      subst (λ (k : Disks). IsSoundFrom slots k h lo) (after_is j e)
      (is_sound_forth (lose d (before j)) j.block (keeps j) slots h lo (held.lost (before j) d (before_is j e) (may j e)))

  absent : (j : Disks) → IsImage t j → is_present (j.power d) ≡ false
  absent j e = ap is_present (e.power d ∙ loss.power d ∙ with_at_same s.power d Absent d refl)

  weak_is : (j : Disks) → IsImage t j → IsWeak j d
  weak_is j e =
      let sound = (sound_now j e).sound in
      let stands = sound.log.stands in
      let below = can.within (lose d (before j)) sound.disk sound.said (looked_before j e) (stood_before j e sound.disk sound.said stands) in
      out sound.disk sound.said stands (missing_is_out j.power sound.said.meta d
      (says_in_range sound.said.opened (stored_block j sound.disk) sound.said.meta sound.said.batch stands.says.log) sound.log.single
      (record { disk = below; is = inl (absent j e) }) (absent j e))

  pub stood_failed : (turned : ℕ → Type 0) (j : Disks) (x : ℕ) (said : LogState) → IsLooked t j → Stands j x said → StoodIn s turned j x said
  stood_failed turned j x said (whole image) stands = record {
    image = lose d (before j);
    looked = looked_before j image;
    stands = stood_before j image x said stands;
    there = λ y. ap is_present (sym (loss.power y) ∙ sym (image.power y));
    power = λ y not. sym (loss.power y) ∙ sym (image.power y);
  }
  stood_failed turned j x said (lost i e image can_lose is) stands =
      let same = can_lose.weak d (weak_is i image) in
      absurd (false≢true (sym (absent i image) ∙ ap (λ (y : ℕ). is_present (i.power y)) same ∙ can_lose.present))

-- a disk is parked or spun up: no block changes
module _ (s t : Disks) (d : ℕ) (same : (x : ℕ) → is_present (t.power x) ≡ is_present (s.power x)) (others : (x : ℕ) → x ≢ d → t.power x ≡ s.power x)
    (size : (x : ℕ) → t.size x ≡ s.size x) (block : (x p : ℕ) → t.block x p ≡ s.block x p) (loose : (x p : ℕ) → t.loose x p ≡ s.loose x p) where
  abbrev unturned : Disks → Disks
  unturned j = record { power = s.power; size = j.size; block = j.block; loose = j.loose }

  unturned_is : (j : Disks) → IsImage t j → IsImage s (unturned j)
  unturned_is j e = record {
    power = λ x. refl;
    size = λ x. e.size x ∙ size x;
    block = λ x p synced. e.block x p (loose x p ∙ synced) ∙ block x p;
    loose = e.loose;
  }

  present_same : (j : Disks) → IsImage t j → (x : ℕ) → is_present (j.power x) ≡ is_present (s.power x)
  present_same j e x = ap is_present (e.power x) ∙ same x

  lost_same : (j : Disks) (e : ℕ) → IsImage t j → (x : ℕ) → is_present ((lose e j).power x) ≡ is_present ((lose e (unturned j)).power x)
  lost_same j e image x = at_case (λ (p : Power). is_present p ≡ is_present (with_at s.power e Absent x)) j.power e Absent x
      (λ is. ap is_present (sym (with_at_same s.power e Absent x is)))
      (λ not. present_same j image x ∙ ap is_present (sym (with_at_other s.power e Absent x not)))

  lost_power : (j : Disks) (e : ℕ) → IsImage t j → (x : ℕ) → x ≢ d → (lose e (unturned j)).power x ≡ (lose e j).power x
  lost_power j e image x apart = at_case (λ (p : Power). p ≡ with_at j.power e Absent x) s.power e Absent x
      (λ is. sym (with_at_same j.power e Absent x is))
      (λ not. sym (others x apart) ∙ sym (image.power x) ∙ sym (with_at_other j.power e Absent x not))

  pub stood_turned : (j : Disks) (x : ℕ) (said : LogState) → IsLooked t j → Stands j x said → StoodIn s (λ y. y ≡ d) j x said
  stood_turned j x said (whole image) stands = record {
    image = unturned j;
    looked = whole (unturned_is j image);
    stands = stands_then (unturned j) j.power (present_same j image) x said stands;
    there = λ y. sym (present_same j image y);
    power = λ y not. sym (others y not) ∙ sym (image.power y);
  }
  stood_turned j x said (lost i e image may is) stands = record {
    image = lose e (unturned i);
    looked = lost (unturned i) e (unturned_is i image) may_before refl;
    stands = stands_then (lose e (unturned i)) (lose e i).power (lost_same i e image) x said (subst (λ (k : Disks). Stands k x said) (sym is) stands);
    there = λ y. sym (lost_same i e image y) ∙ ap (λ (k : Disks). is_present (k.power y)) is;
    power = λ y not. lost_power i e image y not ∙ ap (λ (k : Disks). k.power y) is;
  }
    where
      may_before : MayLose (unturned i) e
      may_before = record {
        standing = may.standing;
        said = may.said;
        stands = stands_then (unturned i) i.power (present_same i image) may.standing may.said may.stands;
        disk = may.disk;
        present = sym (present_same i image e) ∙ may.present;
        weak = λ w weak. may.weak w (weak_now (unturned i) i.power (present_same i image) w weak);
      }

by_fail : (slots : ℕ) (s : Disks) (c : Call) (h : History) (lo : ℕ) (down : Option ℕ) → IsHeld slots s h lo down → is_done c ≡ false → CanFail s (disk_of c) → (turned : ℕ → Type 0)
    → (j : Disks) (x : ℕ) (said : LogState) → IsLooked (step c s) j → Stands j x said → StoodIn s turned j x said
by_fail slots s c h lo down held failed can turned = stood_failed slots s (step c s) h lo down (disk_of c) (failed_is_loss s c failed) can held turned

pub stood_by_call : (slots : ℕ) (s : Disks) (c : Call) (h : History) (lo : ℕ) (down : Option ℕ) → IsPastLog c → IsHeld slots s h lo down → (is_done c ≡ false → CanFail s (disk_of c))
    → (j : Disks) (x : ℕ) (said : LogState) → IsLooked (step c s) j → Stands j x said → StoodIn s no_disk j x said
stood_by_call slots s (Read d p true) h lo down past held can = stood_fewer s (step (Read d p true) s) no_disk (read_images s d p)
stood_by_call slots s (Read d p false) h lo down past held can = by_fail slots s (Read d p false) h lo down held refl (can refl) no_disk
stood_by_call slots s (Write d p b true) h lo down past held can = stood_write s d p b past no_disk
stood_by_call slots s (Write d p b false) h lo down past held can = by_fail slots s (Write d p b false) h lo down held refl (can refl) no_disk
stood_by_call slots s (Sync d true) h lo down past held can = stood_fewer s (step (Sync d true) s) no_disk (sync_images s d)
stood_by_call slots s (Sync d false) h lo down past held can = by_fail slots s (Sync d false) h lo down held refl (can refl) no_disk
stood_by_call slots s (Park d done) h lo down past held can = absurd past
stood_by_call slots s (SpinUp d done) h lo down past held can = absurd past
stood_by_call slots s (Attach d size done) h lo down past held can = absurd past

at_self : {A : Type 0} (f : ℕ → A) (k j : ℕ) → with_at f k (f k) j ≡ f j
at_self f k j = at_case (λ v. v ≡ f j) f k (f k) j (λ is. ap f (sym is)) (λ not. refl)

-- a power that is there, in place of one that was there
still_there : (f : ℕ → Power) (d : ℕ) (was now : Power) → f d ≡ was → is_present was ≡ true → is_present now ≡ true → (x : ℕ) → is_present (with_at f d now x) ≡ is_present (f x)
still_there f d was now is there too x = at_case (λ (p : Power). is_present p ≡ is_present (f x)) f d now x
    (λ at. too ∙ sym there ∙ ap is_present (sym is) ∙ ap (λ (y : ℕ). is_present (f y)) (sym at))
    (λ not. refl)

pub stood_by_park : (slots : ℕ) (s : Disks) (d : ℕ) (done : Bool) (h : History) (lo : ℕ) (down : Option ℕ) → s.power d ≡ Spinning → IsHeld slots s h lo down → (done ≡ false → CanFail s d)
    → (j : Disks) (x : ℕ) (said : LogState) → IsLooked (step (Park d done) s) j → Stands j x said → StoodIn s (λ y. y ≡ d) j x said
unfolding step
stood_by_park slots s d true h lo down spins held can =
    stood_turned s (step (Park d true) s) d (still_there s.power d Spinning Parked spins refl refl) (λ x not. with_at_other s.power d Parked x not) (at_self s.size d) (λ x p. refl) (λ x p. refl)
stood_by_park slots s d false h lo down spins held can = by_fail slots s (Park d false) h lo down held refl (can refl) (λ y. y ≡ d)

pub stood_by_spin_up : (slots : ℕ) (s : Disks) (d : ℕ) (done : Bool) (h : History) (lo : ℕ) (down : Option ℕ) → s.power d ≡ Parked → IsHeld slots s h lo down → (done ≡ false → CanFail s d)
    → (j : Disks) (x : ℕ) (said : LogState) → IsLooked (step (SpinUp d done) s) j → Stands j x said → StoodIn s (λ y. y ≡ d) j x said
unfolding step
stood_by_spin_up slots s d true h lo down parked held can =
    stood_turned s (step (SpinUp d true) s) d (still_there s.power d Parked Spinning parked refl refl) (λ x not. with_at_other s.power d Spinning x not) (at_self s.size d) (λ x p. refl) (λ x p. refl)
stood_by_spin_up slots s d false h lo down parked held can = by_fail slots s (SpinUp d false) h lo down held refl (can refl) (λ y. y ≡ d)
