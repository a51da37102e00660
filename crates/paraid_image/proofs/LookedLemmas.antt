-- Each image that is looked at of what is held is a start at which the same is held.
use Rattle.std.specs.Prelude.{◌≡◌, ◌≢◌, ℕ, ◌<◌, Bool, true, false, List, Option, Some, None}
use Rattle.std.proofs.Common.{refl, sym, ◌∙◌, ap, subst, arith, inl, inr}
use Rattle.std.proofs.lemmas.Bool.{cases_eq, false≢true}
use Rattle.paraid_base.specs.History.{History}
use Rattle.paraid_rack.specs.declared.call.Power.TheVariants.{Absent}
use Rattle.paraid_rack.specs.Disks.{Disks, IsImage, is_present, lose}
use Rattle.paraid_rack.specs.Alike.{IsAlike}
use Rattle.paraid_rack.specs.Trail.{Beginning, Trail, disks, initial}
use Rattle.paraid_rack.proofs.AtomsLemmas.{with_at_same}
use Rattle.paraid_record.specs.declared.meta.Setup.{Setup}
use Rattle.paraid_image.specs.HeldAt.{IsHeldAt, IsHeld, IsSoundFrom, MayLose}
use Rattle.paraid_image.specs.RunStart.{IsRunStart}
use Rattle.paraid_image.specs.Looked.{IsHeldLooked, IsLooked}
use Rattle.paraid_image.specs.Looked.IsLooked.{lost, whole}
use Rattle.paraid_image.specs.Out.{IsWeak, named_out, out_disk}
use Rattle.paraid_image.specs.Out.IsWeak.{named, out}
use Rattle.paraid_image.specs.Sides.{LogState, Says, stored_block}
use Rattle.paraid_image.specs.Sound.{LogOk, Pairing}
use Rattle.paraid_image.specs.Sound.Pairing.{alike, first_ahead, first_done, second_ahead, second_done}
use Rattle.paraid_image.specs.Standing.{Stands, other_log}
use Rattle.paraid_image.proofs.AlikeLemmas.{held_alike, weak_alike}
use Rattle.paraid_image.proofs.HeldLemmas.{IsHeld-image, image_is, image_of_synced}
use Rattle.paraid_image.proofs.OneDiskLessLemmas.{stands_spared}
use Rattle.paraid_image.proofs.OutLemmas.{missing_is_out, says_in_range}
use Rattle.paraid_image.proofs.SidesLemmas.{Says-same}
use Rattle.paraid_image.proofs.StandingLemmas.{IsWeak-same, Stands-same}
use Rattle.paraid_image.proofs.CallLemmas.{says_not_lost, says_of_lost}
use Rattle.paraid_image.proofs.UnseenLemmas.{standing_not_out}

-- what is held is held of each image that is looked at
pub looked_of_held : (slots : ℕ) (s : Disks) (h : History) (lo : ℕ) (down : Option ℕ) → IsHeld slots s h lo down → IsHeldLooked slots s h lo down
looked_of_held slots s h lo down held = record { looked = each; weak = held.weak }
  where
    each : (j : Disks) → IsLooked s j → IsSoundFrom slots j h lo
    each j (whole e) = held.whole j e
    each j (lost i d e may is) = subst (λ (k : Disks). IsSoundFrom slots k h lo) is (held.lost i d e may)

pub held_of_looked : (slots : ℕ) (s : Disks) (h : History) (lo : ℕ) (down : Option ℕ) → IsHeldLooked slots s h lo down → IsHeld slots s h lo down
held_of_looked slots s h lo down held = record {
  whole = λ i e. held.looked i (whole e);
  lost = λ i d e may. held.looked (lose d i) (lost i d e may refl);
  weak = held.weak;
}

-- log disks that fit together are of the same setup
setup_paired : (a b : LogState) → Pairing a b → a.meta.setup ≡ b.meta.setup
setup_paired a b (alike e) = ap (λ (said : LogState). said.meta.setup) e
setup_paired a b (first_ahead s) = s.setup
setup_paired a b (second_ahead s) = sym s.setup
setup_paired a b (first_done s) = ap (λ m. m.setup) s.meta
setup_paired a b (second_done s) = sym (ap (λ m. m.setup) s.meta)

setup_other : (i : Disks) (x y k : ℕ) (a b : LogState) → LogOk i x a k → Says i y b → y < 2 → y ≢ x → out_disk i.power a.meta ≢ Some y → a.meta.setup ≡ b.meta.setup
setup_other i x y k a b ok says low apart not = elim (cases_eq x 0) [
  | inl first ↦
      let second : y ≡ 1 = omega arith in
      setup_paired a b (ok.paired a b
      (subst (λ (z : ℕ). Says i z a) first ok.stands.says) (subst (λ (z : ℕ). Says i z b) second says)
      (subst (λ (z : ℕ). out_disk i.power a.meta ≢ Some z) first (standing_not_out i x a k ok))
      (subst (λ (z : ℕ). out_disk i.power a.meta ≢ Some z) second not))
  | inr later ↦
      let low_too : x < 2 = ok.stands.log_disk in
      let second : x ≡ 1 = omega arith in
      let first : y ≡ 0 = omega arith in
      sym (setup_paired b a (ok.paired b a
      (subst (λ (z : ℕ). Says i z b) first says) (subst (λ (z : ℕ). Says i z a) second ok.stands.says)
      (subst (λ (z : ℕ). out_disk i.power a.meta ≢ Some z) first not)
      (subst (λ (z : ℕ). out_disk i.power a.meta ≢ Some z) second (standing_not_out i x a k ok))))
]

module _ (slots : ℕ) (i : Disks) (h : History) (lo d : ℕ) (sound : IsSoundFrom slots i h lo) (may : MayLose i d) where
  abbrev said : LogState
  said = sound.sound.said

  below : d < said.meta.setup.geometry.disks
  below =
      let is = (Stands-same i may.standing sound.sound.disk may.said said may.stands sound.sound.log.stands).1 in
      subst (λ (z : LogState). d < z.meta.setup.geometry.disks) is may.disk

  -- what stands once the disk is lost is of the same setup
  setup_lost : (y : ℕ) (new : LogState) → Stands (lose d i) y new → said.meta.setup ≡ new.meta.setup
  setup_lost y new stands = elim (cases_eq d sound.sound.disk) [
    | inr apart ↦
        let spared = stands_spared i d sound.sound.disk said sound.sound.log.stands apart in
        ap (λ (z : LogState). z.meta.setup) (Stands-same (lose d i) spared.0 y said new spared.1 stands).1
    | inl is ↦
        let away = says_not_lost i d y new stands.says in
        setup_other i sound.sound.disk y sound.k said new sound.sound.log (says_of_lost i d y new stands.says) stands.log_disk
        (λ e. away (e ∙ sym is)) (λ o. away (may.weak y (out sound.sound.disk said sound.sound.log.stands o)))
  ]

  absent : is_present ((lose d i).power d) ≡ false
  absent = ap is_present (with_at_same i.power d Absent d refl)

  -- a disk that is lost is the weak one
  pub weak_lost : IsSoundFrom slots (lose d i) h lo → IsWeak (lose d i) d
  weak_lost now =
      let stands = now.sound.log.stands in
      let new = now.sound.said in
      let low = subst (λ (z : Setup). d < z.geometry.disks) (setup_lost now.sound.disk new stands) below in
      out now.sound.disk new stands (missing_is_out (lose d i).power new.meta d
      (says_in_range new.opened (stored_block (lose d i) now.sound.disk) new.meta new.batch stands.says.log) now.sound.log.single
      (record { disk = low; is = inl absent }) absent)

-- what is held is held with a disk lost, which is down then
pub held_lost : (slots : ℕ) (s i : Disks) (h : History) (lo d : ℕ) (down : Option ℕ) → IsImage s i → MayLose i d → IsHeld slots s h lo down → IsHeld slots (lose d i) h lo (Some d)
held_lost slots s i h lo d down e may held =
    let j : Disks = lose d i in
    let now = held.lost i d e may in
    let weak = weak_lost slots i h lo d (held.whole i e) may now in
    let is : (k : Disks) → IsImage j k → k ≡ j = λ k f. image_is j k e.loose f in
    record {
      whole = λ k f. subst (λ (z : Disks). IsSoundFrom slots z h lo) (sym (is k f)) now;
      lost = λ k x f can.
          let here : MayLose j x = subst (λ (z : Disks). MayLose z x) (is k f) can in
          let same = here.weak d weak in
          absurd (false≢true (sym (absent slots i h lo d (held.whole i e) may) ∙ ap (λ (y : ℕ). is_present (j.power y)) same ∙ here.present));
      weak = λ k w f weak_now. ap Some (IsWeak-same j d w weak (subst (λ (z : Disks). IsWeak z w) (is k f) weak_now));
    }

-- the weak disk of an image, if it has one
pub record IsItsWeak (i : Disks) (own : Option ℕ) : Type 0 where
  pub is : (w : ℕ) → own ≡ Some w → IsWeak i w
  pub only : (w : ℕ) → IsWeak i w → own ≡ Some w

its_weak : (i : Disks) (w : ℕ) → IsWeak i w → IsItsWeak i (Some w)
its_weak i w weak = record {
  is = λ v e. subst (IsWeak i) (let k : w ≡ v = cc in k) weak;
  only = λ v other. ap Some (IsWeak-same i w v weak other);
}

module _ (i : Disks) (x k : ℕ) (said : LogState) (ok : LogOk i x said k) where
  standing_in : (o : Option ℕ) → out_disk i.power said.meta ≡ o → (own : Option ℕ) × IsItsWeak i own
  standing_in (Some w) is = (Some w, its_weak i w (out x said ok.stands is))
  standing_in None is = beside (is_present (i.power (other_log x))) refl
    where
      no_out : (y : ℕ) (other : LogState) (w : ℕ) → Stands i y other → out_disk i.power other.meta ≡ Some w → ⊥
      no_out y other w stands o =
          let same = (Stands-same i y x other said stands ok.stands).1 in
          let none : None ≡ Some w = sym is ∙ ap (λ (z : LogState). out_disk i.power z.meta) (sym same) ∙ o in cc

      silent : ((other : LogState) → Says i (other_log x) other → named_out other.meta.out ≡ None) → IsItsWeak i None
      silent says_none = record {
        is = λ w e. let k : None ≡ Some w = e in cc;
        only = λ w weak. absurd (never w weak);
      }
        where
          never : (w : ℕ) → IsWeak i w → ⊥
          never w (out y other stands o) = no_out y other w stands o
          never w (named y mine other stands none says name) =
              let at = (Stands-same i y x mine said stands ok.stands).0 in
              let none_named = says_none other (subst (λ (z : ℕ). Says i (other_log z) other) at says) in
              let k : None ≡ Some w = sym none_named ∙ name in cc

      beside : (there : Bool) → is_present (i.power (other_log x)) ≡ there → (own : Option ℕ) × IsItsWeak i own
      beside false gone = (None, silent (λ other says. absurd (false≢true (sym gone ∙ says.present))))
      beside true there =
          let low : x < 2 = ok.stands.log_disk in
          let formed = ok.formed (other_log x) (omega arith) there (λ o. let k : None ≡ Some (other_log x) = sym is ∙ o in cc) in
          by_name formed.0 formed.1 (named_out formed.0.meta.out) refl
        where
          by_name : (other : LogState) → Says i (other_log x) other → (o : Option ℕ) → named_out other.meta.out ≡ o → (own : Option ℕ) × IsItsWeak i own
          by_name other says (Some w) name = (Some w, its_weak i w (named x said other ok.stands is says name))
          by_name other says None name = (None, silent (λ any q. ap (λ (z : LogState). named_out z.meta.out) (Says-same i (other_log x) any other q says) ∙ name))

-- an image that holds a history has a weak disk or has none
pub weak_of_sound : (slots : ℕ) (i : Disks) (h : History) (lo : ℕ) → IsSoundFrom slots i h lo → (own : Option ℕ) × IsItsWeak i own
weak_of_sound slots i h lo s = standing_in i s.sound.disk s.k s.sound.said s.sound.log (out_disk i.power s.sound.said.meta) refl

entry_of_image : (slots : ℕ) (s i : Disks) (h : History) (lo : ℕ) (down : Option ℕ) → IsImage s i → IsHeld slots s h lo down → (own : Option ℕ) × IsRunStart slots i h lo own
entry_of_image slots s i h lo down e held =
    let again = IsHeld-image slots s i h lo down e held in
    let own = weak_of_sound slots i h lo (held.whole i e) in
    let is : (k : Disks) → IsImage i k → k ≡ i = λ k f. image_is i k e.loose f in (
      own.0,
      record {
        synced = λ d p here. e.loose d p;
        held = record {
          whole = again.whole;
          lost = again.lost;
          weak = λ k w f weak. own.1.only w (subst (λ (z : Disks). IsWeak z w) (is k f) weak);
        };
        weak = λ k w f o. subst (λ (z : Disks). IsWeak z w) (sym (is k f)) (own.1.is w o);
      },
    )

entry_of_lost : (slots : ℕ) (s i : Disks) (h : History) (lo d : ℕ) (down : Option ℕ) → IsImage s i → MayLose i d → IsHeld slots s h lo down → IsRunStart slots (lose d i) h lo (Some d)
entry_of_lost slots s i h lo d down e may held =
    let j : Disks = lose d i in
    let weak = weak_lost slots i h lo d (held.whole i e) may (held.lost i d e may) in
    record {
      synced = λ x p here. e.loose x p;
      held = held_lost slots s i h lo d down e may held;
      weak = λ k w f o. subst (λ (z : Disks). IsWeak z w) (sym (image_is j k e.loose f)) (subst (IsWeak j) (let same : d ≡ w = cc in same) weak);
    }

-- each image that is looked at is an entry, with its own weak disk as the one that is down
pub entry_of_looked : (slots : ℕ) (s j : Disks) (h : History) (lo : ℕ) (down : Option ℕ) → IsLooked s j → IsHeld slots s h lo down → (own : Option ℕ) × IsRunStart slots j h lo own
entry_of_looked slots s j h lo down (whole e) held = entry_of_image slots s j h lo down e held
entry_of_looked slots s j h lo down (lost i d e may is) held =
    (Some d, subst (λ (k : Disks). IsRunStart slots k h lo (Some d)) is (entry_of_lost slots s i h lo d down e may held))

pub looked_is_synced : (s j : Disks) → IsLooked s j → (d p : ℕ) → j.loose d p ≡ false
looked_is_synced s j (whole e) d p = e.loose d p
looked_is_synced s j (lost i x e may is) d p = subst (λ (k : Disks). k.loose d p ≡ false) is (e.loose d p)

pub entry_of_weak : (slots : ℕ) (s j : Disks) (h : History) (lo : ℕ) (down : Option ℕ) (w : ℕ) → IsLooked s j → IsWeak j w → IsHeld slots s h lo down → IsRunStart slots j h lo (Some w)
entry_of_weak slots s j h lo down w looked weak held =
    let entry = entry_of_looked slots s j h lo down looked held in
    subst (IsRunStart slots j h lo) (entry.1.held.weak j w (image_of_synced j (looked_is_synced s j looked)) weak) entry.1

pub entry_of_strong : (slots : ℕ) (s j : Disks) (h : History) (lo : ℕ) (down : Option ℕ) → IsLooked s j → ((w : ℕ) → IsWeak j w → ⊥) → IsHeld slots s h lo down → IsRunStart slots j h lo None
entry_of_strong slots s j h lo down looked strong held =
    let entry = entry_of_looked slots s j h lo down looked held in split entry.0 entry.1
  where
    split : (own : Option ℕ) → IsRunStart slots j h lo own → IsRunStart slots j h lo None
    split None entry = entry
    split (Some w) entry = absurd (strong w (entry.weak j w (image_of_synced j (looked_is_synced s j looked)) refl))

-- so is a rack that begins alike
entry_alike : (slots : ℕ) (j : Disks) (start : List Beginning) (h : History) (lo : ℕ) (own : Option ℕ) → ((d p : ℕ) → j.loose d p ≡ false)
    → IsAlike j (initial start) → IsRunStart slots j h lo own → IsRunStart slots (initial start) h lo own
unfolding initial
entry_alike slots j start h lo own synced like entry = record {
  synced = λ d p here. refl;
  held = held_alike slots j (initial start) h lo own like entry.held;
  weak = λ k w f o.
      let same = image_is (initial start) k (λ d p. refl) f in
      subst (λ (z : Disks). IsWeak z w) (sym same) (weak_alike j (initial start) w like (entry.weak j w (image_of_synced j synced) o));
}

pub entry_of_start : (slots : ℕ) (t u : Trail) (m : ℕ) (j : Disks) (h : History) (lo : ℕ) (down : Option ℕ) → IsLooked (disks t m) j → IsAlike j (initial u.start)
    → IsHeldAt slots t m h lo down → (own : Option ℕ) × IsRunStart slots (initial u.start) h lo own
entry_of_start slots t u m j h lo down looked like held =
    let entry = entry_of_looked slots (disks t m) j h lo down looked held in
    (entry.0, entry_alike slots j u.start h lo entry.0 (looked_is_synced (disks t m) j looked) like entry.1)
