-- What is held at rest.
use Rattle.std.specs.Prelude.{◌≡◌, ◌≢◌, ℕ, ◌+◌, ◌≤◌, ◌&&◌, nat_lt, true, Option, Some, take, if◌then◌else◌}
use Rattle.std.proofs.Common.{refl, sym, ◌∙◌, ap, subst, arith, inl, inr}
use Rattle.std.proofs.lemmas.Bool.{cases_eq, false≢true}
use Rattle.paraid_base.specs.declared.block.Block.{Block}
use Rattle.paraid_base.specs.Xor.{zero_block}
use Rattle.paraid_rack.specs.declared.call.Call.TheVariants.{Park}
use Rattle.paraid_rack.specs.declared.call.Power.{Power}
use Rattle.paraid_rack.specs.declared.call.Power.TheVariants.{Spinning}
use Rattle.paraid_image.specs.Spot.{rising_to}
use Rattle.paraid_image.specs.Parking.{MayPark}
use Rattle.paraid_txn.proofs.CommitImagesLemmas.{none_in_empty}
use Rattle.paraid_image.proofs.ParkingLemmas.{park_holds}
use Rattle.paraid_base.specs.History.{History}
use Rattle.paraid_base.specs.declared.state.Out.TheVariants.{Gone, Fresh}
use Rattle.paraid_rack.specs.Alike.{IsAlike}
use Rattle.paraid_rack.specs.Disks.{Disks, IsImage, is_present, lose, step}
use Rattle.paraid_record.specs.declared.meta.Meta.{Meta}
use Rattle.paraid_image.specs.Rest.{IsAtRest}
use Rattle.paraid_txn.specs.Commit.{IsNext}
use Rattle.paraid_image.specs.Mark.{marked_gone}
use Rattle.paraid_image.specs.HeldAt.{IsHeld, MayLose}
use Rattle.paraid_image.specs.Out.{named_out}
use Rattle.paraid_image.specs.Out.IsWeak.{out as out_weak}
use Rattle.paraid_image.specs.Sides.{LogState, Says, closed_over, is_open, stored_block}
use Rattle.paraid_image.specs.Sound.{LogOk}
use Rattle.paraid_image.specs.Standing.{Stands, other_log}
use Rattle.paraid_recover.specs.RecoveryMark.{of_version_two}
use Rattle.paraid_image.proofs.AlikeLemmas.{stands_alike}
use Rattle.paraid_image.proofs.CutLemmas.{held_cut}
use Rattle.paraid_txn.proofs.ResumeImagesLemmas.{is_done}
use Rattle.paraid_image.proofs.SidesLemmas.{Says-same}
use Rattle.paraid_image.proofs.StandingLemmas.{Stands-same}
use Rattle.paraid_image.proofs.CallLemmas.{decide_some, out_named, says_not_lost, says_of_lost}

module _ (slots : ℕ) (s : Disks) (m : Meta) (h : History) (lo : ℕ) (down : Option ℕ) (rest : IsAtRest s m) (held : IsHeld slots s h lo down) where
  alike : (i : Disks) → IsImage s i → IsAlike s i
  alike i image = record {
    power = image.power;
    size = image.size;
    block = λ d p there. image.block d p (rest.synced d p there.present);
    loose = λ d p there. image.loose d p ∙ sym (rest.synced d p there.present);
  }

  stands : (i : Disks) → IsImage s i → Stands i rest.disk (closed_over m)
  stands i image = stands_alike s i rest.disk (closed_over m) (alike i image) rest.log.stands

  log : (i : Disks) (image : IsImage s i) → LogOk i rest.disk (closed_over m) (held.whole i image).k
  log i image =
      let w = (held.whole i image).sound in
      let same = Stands-same i w.disk rest.disk w.said (closed_over m) w.log.stands (stands i image) in
      subst (λ (x : ℕ). LogOk i x (closed_over m) (held.whole i image).k) same.0 (subst (λ (o : LogState). LogOk i w.disk o (held.whole i image).k) same.1 w.log)

  all_whole : (i : Disks) (x : ℕ) (said : LogState) → IsImage s i → Stands i x said → said.meta.writes ≡ m.writes
  all_whole i x said image st = ap (λ (o : LogState). o.meta.writes) (Stands-same i x rest.disk said (closed_over m) st (stands i image)).1

  all_lost : (i : Disks) (d x : ℕ) (said : LogState) → IsImage s i → MayLose i d → Stands (lose d i) x said → said.meta.writes ≡ m.writes
  all_lost i d x said image may st =
      let says = says_of_lost i d x said st.says in
      let there = stands i image in
      elim (cases_eq x rest.disk) [
        | inl is ↦ ap (λ (o : LogState). o.meta.writes) (Says-same i rest.disk said (closed_over m) (subst (λ (y : ℕ). Says i y said) is says) there.says)
        | inr apart ↦
            let at : x ≡ other_log rest.disk = (let l = st.log_disk in let k = there.log_disk in omega arith) in
            elim (decide_some (named_out m.out) x) [
              | inl name ↦ absurd (says_not_lost i d x said st.says (may.weak x (out_weak rest.disk (closed_over m) there (out_named i.power m x name))))
              | inr not ↦ elim (is_done i rest.disk (closed_over m) said _ (log i image) (subst (λ (y : ℕ). Says i y said) at says) (λ e. not (e ∙ ap (λ (y : ℕ). Some y) (sym at))) refl) [
                | inl same ↦ ap (λ (o : LogState). o.meta.writes) same
                | inr done ↦ ap (λ (n : Meta). n.writes) done.meta
              ]
            ]
      ]

  stored_same : (i : Disks) → IsImage s i → (x p : ℕ) → is_present (s.power x) ≡ true → stored_block i x p ≡ stored_block s x p
  unfolding stored_block
  stored_same i image x p here =
      ap (λ (t : Power). if (is_present t && nat_lt p (i.size x)) then i.block x p else zero_block) (image.power x)
      ∙ ap (λ (n : ℕ). if (is_present (s.power x) && nat_lt p n) then i.block x p else zero_block) (image.size x)
      ∙ ap (λ (b : Block). if (is_present (s.power x) && nat_lt p (s.size x)) then b else zero_block) (image.block x p (rest.synced x p here))

  -- what stands is closed over the meta, also with a disk lost
  pub said_whole : (i : Disks) (x : ℕ) (said : LogState) → IsImage s i → Stands i x said → said ≡ closed_over m
  said_whole i x said image st = (Stands-same i x rest.disk said (closed_over m) st (stands i image)).1

  pub said_lost : (i : Disks) (d x : ℕ) (said : LogState) → IsImage s i → MayLose i d → Stands (lose d i) x said → said ≡ closed_over m
  said_lost i d x said image may st =
      let says = says_of_lost i d x said st.says in
      let there = stands i image in
      elim (cases_eq x rest.disk) [
        | inl is ↦ Says-same i rest.disk said (closed_over m) (subst (λ (y : ℕ). Says i y said) is says) there.says
        | inr apart ↦
            let at : x ≡ other_log rest.disk = (let l = st.log_disk in let k = there.log_disk in omega arith) in
            elim (decide_some (named_out m.out) x) [
              | inl name ↦ absurd (says_not_lost i d x said st.says (may.weak x (out_weak rest.disk (closed_over m) there (out_named i.power m x name))))
              | inr not ↦ elim (is_done i rest.disk (closed_over m) said _ (log i image) (subst (λ (y : ℕ). Says i y said) at says) (λ e. not (e ∙ ap (λ (y : ℕ). Some y) (sym at))) refl) [
                | inl same ↦ same
                | inr done ↦
                    let here : is_present (s.power x) ≡ true = ap is_present (sym (image.power x)) ∙ says.present in
                    let shut = ap is_open (stored_same i image x 0 here) ∙ rest.shut x st.log_disk here not in
                    absurd (false≢true (sym shut ∙ says.gate ∙ done.opened))
              ]
            ]
      ]

  -- a disk that the meta does not ask to spin can be parked
  pub rest_parked : (d : ℕ) → s.power d ≡ Spinning → 2 ≤ d → m.gear ≤ d → rising_to m.phase ≤ d → ((rebuilt : ℕ) → m.out ≢ Fresh d rebuilt) → IsHeld slots (step (Park d true) s) h lo down
  rest_parked d spinning high gear rising fresh = park_holds slots s h lo down d spinning
      (λ i x said image st. subst (λ (o : LogState). MayPark o d) (sym (said_whole i x said image st)) may)
      (λ i e x said image can st. subst (λ (o : LogState). MayPark o d) (sym (said_lost i e x said image can st)) may) held
    where
      may : MayPark (closed_over m) d
      may = record { no_log_disk = high; above_gear = gear; above_new_gear = rising; not_fresh = fresh; no_target = λ t c. absurd (none_in_empty t c) }

  -- at rest exactly the writes that the meta counts are held
  pub rest_held : IsHeld slots s (take m.writes h) m.writes down
  rest_held = held_cut slots h lo m.writes s down all_whole all_lost held

-- the meta that marks a disk can be the next one
pub next_marked : (m : Meta) (d : ℕ) → ((e : ℕ) → named_out m.out ≡ Some e → e ≡ d) → (s : Disks) → IsAtRest s m → IsNext s m (marked_gone (of_version_two m) d (m.epoch + 1))
next_marked m d only s rest = record {
  epoch = refl;
  setup = refl;
  out = λ a b p q. let is : d ≡ a = cc in sym is ∙ sym (only b q);
  comes_in = λ x l here is not. absurd (not (ap (λ (y : ℕ). Some y) (sym (only x is))));
  fresh_closed = λ x u fresh l. let z : Gone d ≡ Fresh x u = fresh.is in cc;
}
