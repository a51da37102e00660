-- At rest one meta stands in all that is looked at.
use Rattle.std.proofs.Common.{◌≡◌, ◌≢◌, ℕ, ◌<◌, ◌≤◌, Bool, true, false, List, [], ◌∷◌, Option, Some, None, refl, sym, ap, ◌∙◌, inl, inr, subst, arith, if◌then◌else◌}
use Rattle.std.specs.Prelude.{◌&&◌, nat_lt, slice_index}
use Rattle.std.proofs.lemmas.Bool.{cases_eq, false≢true, true≢false}
use Rattle.std.proofs.lemmas.Bool.Decides.{nat_tests}
use Rattle.paraid_base.specs.declared.state.Phase.{Phase}
use Rattle.paraid_base.specs.declared.state.Phase.TheVariants.{Steady, Down as PhaseDown, Up}
use Rattle.paraid_base.specs.History.{History}
use Rattle.paraid_base.specs.Xor.{zero_block}
use Rattle.paraid_rack.specs.Alike.{IsAlike}
use Rattle.paraid_rack.specs.declared.call.Call.{Call}
use Rattle.paraid_rack.specs.declared.call.Call.TheVariants.{Read, Write, Sync, Park, SpinUp, Attach}
use Rattle.paraid_rack.specs.declared.call.Power.TheVariants.{Parked}
use Rattle.paraid_rack.specs.Disks.{Disks, IsImage, is_present, lose}
use Rattle.paraid_rack.specs.Told.{Through}
use Rattle.paraid_rack.proofs.AlikeLemmas.{IsAlike-sym}
use Rattle.paraid_record.specs.declared.meta.Meta.{Meta}
use Rattle.paraid_image.specs.Content.{view_of}
use Rattle.paraid_image.specs.HeldAt.{IsHeld, MayLose}
use Rattle.paraid_image.specs.Looked.{IsLooked}
use Rattle.paraid_image.specs.Looked.IsLooked.{lost, whole}
use Rattle.paraid_image.specs.Out.{named_out, or_else, out_disk, first_absent}
use Rattle.paraid_image.specs.Out.IsWeak.{out}
use Rattle.paraid_image.specs.Rest.{IsAtRest}
use Rattle.paraid_image.specs.Sides.{LogState, Says, closed_over, has_place, is_open, stored_block}
use Rattle.paraid_image.specs.Sound.{ContentOk, Pairing}
use Rattle.paraid_image.specs.Sound.Pairing.{alike, first_ahead, first_done, second_ahead, second_done}
use Rattle.paraid_image.specs.Spot.{rising_to}
use Rattle.paraid_image.specs.Standing.{Stands, other_log}
use Rattle.paraid_image.proofs.AlikeLemmas.{stands_alike, weak_alike}
use Rattle.paraid_image.proofs.CallLemmas.{lose_kept, says_of_lost}
use Rattle.paraid_image.proofs.NeutralLemmas.{says_forth}
use Rattle.paraid_image.proofs.OutLemmas.{out_present}
use Rattle.paraid_image.proofs.SidesLemmas.{Says-same}
use Rattle.paraid_image.proofs.StandingLemmas.{Stands-same}
use Rattle.paraid_recover.specs.HeldMoments.{RestsBeside}
use Rattle.paraid_recover.specs.Powers.{IsPowerCall}
use Rattle.paraid_session.specs.Watch.{Down, Each, IsAmongDown, IsServing, Watch, nobody, only, several, watch}
use Rattle.paraid_session.proofs.RunStartLemmas.{synced_alike}
use Rattle.paraid_recover.specs.RecordedSpins.{HasRecord, OnlyStands}
use Rattle.paraid_recover.proofs.BaseLemmas.{sound_now}
use Rattle.paraid_recover.proofs.DownLemmas.{in_absent, in_stays}
use Rattle.paraid_txn.specs.Uses.{EachCall}

place_of : (here : Bool) (p size : ℕ) → (here && nat_lt p size) ≡ true → (here ≡ true) × (p < size)
place_of true p size e = (refl, lt p size e)
  where
    lt : (p size : ℕ) → nat_lt p size ≡ true → p < size
    lt p size e = grind (arith, nat_tests)
place_of false p size e = absurd (false≢true e)

stored_alike : (i j : Disks) → IsAlike i j → (d p : ℕ) → stored_block j d p ≡ stored_block i d p
unfolding stored_block
stored_alike i j a d p = split (has_place i d p) refl
  where
    same : has_place j d p ≡ has_place i d p
    same = rw (a.power d, a.size d) refl

    split : (b : Bool) → has_place i d p ≡ b → (if has_place j d p then j.block d p else zero_block) ≡ (if has_place i d p then i.block d p else zero_block)
    split true there = let place = place_of (is_present (i.power d)) p (i.size d) there in rw (same, there) (a.block d p (record { present = place.0; within = place.1 }))
    split false none = rw (same, none) refl

says_alike : (i j : Disks) (z : ℕ) (o : LogState) → IsAlike i j → Says i z o → Says j z o
says_alike i j z o a says = says_forth i j z o (record {
  power = a.power z;
  gate = ap is_open (stored_alike i j a z 0);
  meta = λ closed. stored_alike i j a z 1;
  rest = λ opened said says q low high. stored_alike i j a z q;
}) says

pub out_by_name : (power : _) (m : Meta) (d : ℕ) → named_out m.out ≡ Some d → out_disk power m ≡ Some d
out_by_name power m d is = ap (λ (o : Option ℕ). or_else o (first_absent power m.setup.geometry.disks)) is

-- of two closed logs that fit together both say the same
closed_pair : (a b : LogState) → Pairing a b → a.opened ≡ false → b.opened ≡ false → a ≡ b
closed_pair a b (alike is) p q = is
closed_pair a b (first_ahead is) p q = absurd (true≢false (sym is.opened ∙ p))
closed_pair a b (second_ahead is) p q = absurd (true≢false (sym is.opened ∙ q))
closed_pair a b (first_done is) p q = absurd (true≢false (sym is.opened ∙ p))
closed_pair a b (second_done is) p q = absurd (true≢false (sym is.opened ∙ q))

module _ (t : Disks) (m : Meta) (rest : IsAtRest t m) where
  abbrev x : ℕ
  x = rest.disk

  low : x < 2
  low = rest.log.stands.log_disk

  -- the other log disk says the same, unless it is out
  other_same : (z : ℕ) (o : LogState) → z < 2 → z ≢ x → Says t z o → out_disk t.power m ≢ Some z → o ≡ closed_over m
  other_same z o z_low apart says not =
      let shut : o.opened ≡ false = sym says.gate ∙ rest.shut z z_low says.present (λ named. not (out_by_name t.power m z named)) in
      let not_x = out_present t.power m x rest.log.stands.says.present rest.log.standing_in in
      let mine = rest.log.stands.says in
      elim (cases_eq x 0) [
        | inl zero_is ↦
            let one_is : z ≡ 1 = omega (arith, z_low, apart, zero_is) in
            sym (closed_pair (closed_over m) o (rest.log.paired (closed_over m) o (subst (λ (y : ℕ). Says t y (closed_over m)) zero_is mine) (subst (λ (y : ℕ). Says t y o) one_is says)
            (subst (λ (y : ℕ). out_disk t.power m ≢ Some y) zero_is not_x) (subst (λ (y : ℕ). out_disk t.power m ≢ Some y) one_is not)) refl shut)
        | inr later ↦
            let l = low in
            let one_is : x ≡ 1 = omega (arith, l, later) in
            let zero_is : z ≡ 0 = omega (arith, z_low, apart, one_is) in
            closed_pair o (closed_over m) (rest.log.paired o (closed_over m) (subst (λ (y : ℕ). Says t y o) zero_is says) (subst (λ (y : ℕ). Says t y (closed_over m)) one_is mine)
            (subst (λ (y : ℕ). out_disk t.power m ≢ Some y) zero_is not) (subst (λ (y : ℕ). out_disk t.power m ≢ Some y) one_is not_x)) shut refl
      ]

  lost_same : (i : Disks) (d z : ℕ) (o : LogState) → IsImage t i → MayLose i d → Stands (lose d i) z o → o ≡ closed_over m
  lost_same i d z o image may stands =
      let forth = synced_alike t i rest.synced image in
      let back = IsAlike-sym t i forth in
      let says_i = says_of_lost i d z o stands.says in
      let says = says_alike i t z o back says_i in
      elim (cases_eq z x) [
        | inl same ↦ Says-same t x o (closed_over m) (subst (λ (y : ℕ). Says t y o) same says) rest.log.stands.says
        | inr apart ↦ elim (cases_eq d x) [
          | inl lost_x ↦ other_same z o stands.log_disk apart says (λ named. apart (may.weak z (weak_alike t i z forth (out x (closed_over m) rest.log.stands named)) ∙ lost_x))
          | inr kept ↦
              let at : Stands i x (closed_over m) = stands_alike t i x (closed_over m) forth rest.log.stands in
              let there : Stands (lose d i) x (closed_over m) = record {
                log_disk = low;
                says = says_forth i (lose d i) x (closed_over m) (lose_kept i d x (λ e. kept (sym e))) at.says;
                first = λ other q. at.first other (says_of_lost i d (other_log x) other q);
              } in
              absurd (apart (Stands-same (lose d i) z x o (closed_over m) stands there).0)
        ]
      ]

  -- At rest this meta stands in each image that is looked at.
  pub rest_only : (z : ℕ) (i : Disks) (o : LogState) → IsLooked t i → Stands i z o → o.meta ≡ m
  rest_only z i o (whole image) stands =
      let back = IsAlike-sym t i (synced_alike t i rest.synced image) in
      ap (λ (k : LogState). k.meta) (Stands-same t z x o (closed_over m) (stands_alike i t z o back stands) rest.log.stands).1
  rest_only z i o (lost j d image may is) stands =
      ap (λ (k : LogState). k.meta) (lost_same j d z o image may (subst (λ (k : Disks). Stands k z o) (sym is) stands))

  rises : (phase : Phase) (d : ℕ) → d < rising_to phase → (to : ℕ) × (phase ≡ Up to) × (d < to)
  rises Steady d l = absurd (omega arith)
  rises (PhaseDown to) d l = absurd (omega arith)
  rises (Up to) d l = (to, refl, l)

  -- At rest a disk that a shift up has not yet spun up has its spin-up recorded.
  pub rest_recorded : (slots : ℕ) (h : History) (lo : ℕ) (down : Option ℕ) (d : ℕ) → IsHeld slots t h lo down → t.power d ≡ Parked → m.gear ≤ d → d < rising_to m.phase → named_out m.out ≢ Some d → 1 ≤ slice_index m.spins d
  rest_recorded slots h lo down d held parked from to not =
      let it = sound_now slots t h lo down rest.synced held in
      let same = (Stands-same t it.sound.disk x it.sound.said (closed_over m) it.sound.log.stands rest.log.stands).1 in
      let content = subst (λ (k : LogState). ContentOk slots t.power t.size (view_of t k) h it.k) same it.sound.content in
      let up = rises m.phase d to in
      content.kept.disks.recorded up.0 d up.1 from up.2 parked (out_present t.power m d (ap is_present parked) not)

pub beside_of : (down : Down) → IsServing down → (beside : Option ℕ) × ((d : ℕ) → IsAmongDown down d → beside ≡ Some d)
beside_of nobody serving = (None, λ d is. absurd is)
beside_of (only d) serving = (Some d, λ e is. ap (λ (k : ℕ). Some k) (sym is))
beside_of several serving = absurd serving

module _ (slots : ℕ) (m : Meta) (h : History) (lo : ℕ) where
  abbrev n : ℕ
  n = m.setup.geometry.disks

  abbrev Covered : Watch → Type 0
  Covered w = ((d : ℕ) → named_out m.out ≡ Some d → IsAmongDown w.down d) × ((d : ℕ) → d < n → is_present (w.disks.power d) ≡ false → IsAmongDown w.down d)

  rests_now : (w : Watch) → Covered w → RestsBeside slots m h lo w.disks → IsServing w.down → (beside : Option ℕ) × IsAtRest w.disks m × IsHeld slots w.disks h lo beside
  rests_now w covered rests serving =
      let b = beside_of w.down serving in
      let r = rests b.0 (λ d low off. b.1 d (covered.1 d low off)) (λ d named. b.1 d (covered.0 d named)) in
      (b.0, r.0, r.1)

  only_now : (w : Watch) → Covered w → RestsBeside slots m h lo w.disks → OnlyStands m w
  only_now w covered rests serving z i o looked stands = rest_only w.disks m (rests_now w covered rests serving).1 z i o looked stands

  record_now : (w : Watch) (c : Call) → Covered w → RestsBeside slots m h lo w.disks → EachCall (IsPowerCall m) w.disks (c ∷ []) → HasRecord m w c
  record_now w (Read e p done) covered rests each serving d made at = absurd each.1
  record_now w (Write e p b done) covered rests each serving d made at = absurd each.1
  record_now w (Sync e done) covered rests each serving d made at = absurd each.1
  record_now w (Park e done) covered rests each serving d made at = absurd (let z : Park e done ≡ SpinUp d made = at in cc)
  record_now w (SpinUp e done) covered rests each serving d made at =
      let same : e ≡ d = (let z : SpinUp e done ≡ SpinUp d made = at in cc) in
      let r = rests_now w covered rests serving in
      let is = each.1 in
      subst (λ (k : ℕ). 1 ≤ slice_index m.spins k) same (rest_recorded w.disks m r.1 slots h lo r.0 e r.2 each.0 is.1 is.2 is.3)
  record_now w (Attach e size done) covered rests each serving d made at = absurd each.1

  -- While the disks are powered at rest, this meta alone stands, and has recorded each spin-up.
  pub each_resting : (w : Watch) (cs : List Call) → Covered w → Through (RestsBeside slots m h lo) w.disks cs → EachCall (IsPowerCall m) w.disks cs → Each (OnlyStands m) (HasRecord m) w cs
  each_resting w [] covered through each = only_now w covered through
  each_resting w (c ∷ cs) covered through each = (
    only_now w covered through.0,
    record_now w c covered through.0 (each.0, each.1, tt),
    each_resting (watch c w) cs ((λ d named. in_stays w (c ∷ []) d (covered.0 d named)), (λ d low off. in_absent w (c ∷ []) d (covered.1 d low) off)) through.1 each.2,
  )
