-- An image holds what it held with one disk lost.
use Rattle.std.specs.Prelude.{◌≡◌, ◌≢◌, ℕ, ◌*◌, ◌<◌, ◌⊎◌, nat_lt, Bool, false, Option, Some, None, if◌then◌else◌}
use Rattle.std.proofs.Common.{refl, sym, ◌∙◌, ap, subst, arith, inl, inr}
use Rattle.std.proofs.lemmas.Bool.{cases_eq, false≢true, true≢false}
use Rattle.paraid_base.specs.History.{History}
use Rattle.paraid_base.specs.Log.{log_least, map_block_place}
use Rattle.paraid_base.specs.Regions.{map_count}
use Rattle.paraid_base.specs.Xor.{zero_block}
use Rattle.paraid_rack.specs.declared.call.Power.TheVariants.{Absent, Parked}
use Rattle.paraid_rack.specs.Disks.{Disks, is_present, lose}
use Rattle.paraid_rack.proofs.AtomsLemmas.{with_at_other, with_at_same}
use Rattle.paraid_record.specs.declared.meta.Meta.{Meta}
use Rattle.paraid_record.specs.Range.{IsInRange}
use Rattle.paraid_image.specs.Content.{view_by, view_of}
use Rattle.paraid_image.specs.HeldAt.{MayLose}
use Rattle.paraid_image.specs.Out.{IsMissing, named_out, out_disk}
use Rattle.paraid_image.specs.Out.IsWeak.{out}
use Rattle.paraid_image.specs.Sides.{Batch, LogState, Says, is_open, stored_block}
use Rattle.paraid_image.specs.Sound.{AreDisks, AreWitnessesTrue, ContentOk, IsFresh, LogOk, IsSoundAt}
use Rattle.paraid_image.specs.Spot.{map_bit, map_disk}
use Rattle.paraid_image.specs.Standing.{Contents, Stands, contents, overlaid_block, other_log}
use Rattle.paraid_image.proofs.OutLemmas.{missing_is_out, says_in_range}
use Rattle.paraid_image.proofs.StandingLemmas.{Stands-same}
use Rattle.paraid_image.proofs.CallLemmas.{lose_kept, out_named, place_kept, says_not_lost, says_of_lost, stored_kept, stored_lost, zeroed_closed}
use Rattle.paraid_image.proofs.NeutralLemmas.{says_forth}
use Rattle.paraid_image.proofs.ViewLemmas.{content_without, dirty_without}

pub contents_kept : (i : Disks) (d : ℕ) (batch : Batch) (x q : ℕ) → x ≢ d → contents (lose d i) batch x q ≡ contents i batch x q
unfolding contents
contents_kept i d batch x q not =
    ap (λ (t : Bool). if nat_lt q log_least then zero_block else (if t then overlaid_block batch x q (i.block x q) else zero_block)) (place_kept i d x q not)

-- the log disk that stands is not the one that is lost
pub stands_spared : (i : Disks) (d x : ℕ) (said : LogState) → Stands i x said → d ≢ x → (y : ℕ) × Stands (lose d i) y said
stands_spared i d x said s apart = (
  x,
  record {
    log_disk = s.log_disk;
    says = says_forth i (lose d i) x said (lose_kept i d x (λ e. apart (sym e))) s.says;
    first = λ other t. s.first other (says_of_lost i d (other_log x) other t);
  },
)

-- or both log disks say the same
stands_lost : (i : Disks) (d x : ℕ) (said : LogState) → Stands i x said → (d ≢ x) ⊎ Says i (other_log x) said → (y : ℕ) × Stands (lose d i) y said
stands_lost i d x said s (inl apart) = stands_spared i d x said s apart
stands_lost i d x said s (inr alike) = elim (cases_eq d x) [
  | inr apart ↦ stands_spared i d x said s apart
  | inl is ↦
      let low : x < 2 = s.log_disk in
      let away : other_log x ≢ d = (λ e. absurd (omega arith)) in (
        other_log x,
        record {
          log_disk = omega arith;
          says = says_forth i (lose d i) (other_log x) said (lose_kept i d (other_log x) away) alike;
          first = λ other t. absurd (says_not_lost i d (other_log (other_log x)) other t (omega arith));
        },
      )
]

-- what is stood for is stood for without the disk that is out, or without any one if none is
module _ (slots : ℕ) (i : Disks) (h : History) (k d : ℕ) (m : Meta) (batch : Batch) (in_range : IsInRange m)
    (single_then : (e f : ℕ) → IsMissing i.power m e → IsMissing i.power m f → e ≡ f)
    (content : ContentOk slots i.power i.size (view_by m i.power (contents i batch)) h k) (below : d < m.setup.geometry.disks)
    (out_is : (e : ℕ) → out_disk i.power m ≡ Some e → e ≡ d) where
  abbrev lost : Disks
  lost = lose d i

  abbrev out_was : Option ℕ
  out_was = out_disk i.power m

  pub gone : is_present (lost.power d) ≡ false
  gone = ap is_present (with_at_same i.power d Absent d refl)

  pub powers : (e : ℕ) → e ≢ d → lost.power e ≡ i.power e
  powers e not = with_at_other i.power d Absent e not

  pub missing_is : (e : ℕ) → IsMissing lost.power m e → e ≡ d
  missing_is e missing = elim (cases_eq e d) [
    | inl is ↦ is
    | inr not ↦ elim missing.is [
      | inl absent ↦
          let was : is_present (i.power e) ≡ false = ap is_present (sym (powers e not)) ∙ absent in
          out_is e (missing_is_out i.power m e in_range single_then (record { disk = missing.disk; is = inl was }) was)
      | inr named ↦ out_is e (out_named i.power m e named)
    ]
  ]

  pub single : (e f : ℕ) → IsMissing lost.power m e → IsMissing lost.power m f → e ≡ f
  single e f one two = missing_is e one ∙ sym (missing_is f two)

  pub out_now : out_disk lost.power m ≡ Some d
  out_now = missing_is_out lost.power m d in_range single (record { disk = below; is = inl gone }) gone

  pub not_out_now : (e : ℕ) → out_disk lost.power m ≢ Some e → e ≢ d
  not_out_now e not is = not (out_now ∙ ap Some (sym is))

  pub not_out_was : (e : ℕ) → e ≢ d → out_was ≢ Some e
  not_out_was e apart o = apart (out_is e o)

  -- a disk that is being rebuilt is the one that is lost
  pub no_fresh : (e rebuilt : ℕ) → IsFresh lost.power m e rebuilt → ⊥
  no_fresh e rebuilt fresh =
      let named : named_out m.out ≡ Some e = ap named_out fresh.is in
      let is = out_is e (out_named i.power m e named) in
      false≢true (sym gone ∙ ap (λ (y : ℕ). is_present (lost.power y)) (sym is) ∙ fresh.present)

  was_out : (out_was ≡ None) ⊎ (out_was ≡ Some d)
  was_out = split out_was refl
    where
      split : (o : Option ℕ) → out_was ≡ o → (out_was ≡ None) ⊎ (out_was ≡ Some d)
      split None o = inl o
      split (Some e) o = inr (o ∙ ap Some (out_is e o))

  still_parked : (e : ℕ) → lost.power e ≡ Parked → e ≢ d
  still_parked e parked is =
      true≢false (sym (ap is_present parked) ∙ ap (λ (y : ℕ). is_present (lost.power y)) is ∙ gone)

  ready : AreDisks slots lost.power lost.size m (Some d)
  ready =
      let was = content.kept.disks in
      record {
        enough = was.enough;
        log_disks = λ e l parked.
            let away = still_parked e parked in was.log_disks e l (sym (powers e away) ∙ parked);
        large = λ e l present not.
            let away : e ≢ d = (λ is. not (ap Some (sym is))) in
            let size = with_at_other i.size d 0 e away in
            let large = was.large e l (ap is_present (sym (powers e away)) ∙ present) (not_out_was e away) in
            rw size large;
        fresh_large = λ e rebuilt fresh. absurd (no_fresh e rebuilt fresh);
        below_gear = λ e l not.
            let away : e ≢ d = (λ is. not (ap Some (sym is))) in
            powers e away ∙ was.below_gear e l (not_out_was e away);
        fresh_spins = λ e rebuilt fresh. absurd (no_fresh e rebuilt fresh);
        recorded = λ to e up low high parked not.
            let away : e ≢ d = (λ is. not (ap Some (sym is))) in
            was.recorded to e up low high (sym (powers e away) ∙ parked) (not_out_was e away);
      }

  abbrev dirty_by : Option ℕ → Contents → ℕ → ℕ → Bool
  dirty_by o f = map_bit m.setup.geometry (f (map_disk o))

  mirrored : (j : ℕ) → j < map_count m.setup.geometry → out_was ≡ None
      → contents i batch 0 (map_block_place m.setup.geometry j) ≡ contents i batch 1 (map_block_place m.setup.geometry j)
  mirrored j l none = content.kept.map.mirrored j l (λ e. let z : None ≡ Some 0 = sym none ∙ e in cc) (λ e. let z : None ≡ Some 1 = sym none ∙ e in cc)

  pub dirty_lost : (r e : ℕ) → r < 512 * map_count m.setup.geometry → (view_by m lost.power (contents lost batch)).dirty r e ≡ (view_by m i.power (contents i batch)).dirty r e
  dirty_lost r e l =
      let f : Contents = contents i batch in
      let t : Contents = contents lost batch in
      ap (λ (o : Option ℕ). dirty_by o t r e) out_now
      ∙ dirty_without m.setup.geometry out_was f t d was_out (λ y q not. contents_kept i d batch y q not) mirrored r e l

  pub content_lost : ContentOk slots lost.power lost.size (view_by m lost.power (contents lost batch)) h k
  content_lost =
      let f : Contents = contents i batch in
      let t : Contents = contents lost batch in
      let kept : (e q : ℕ) → e ≢ d → t e q ≡ f e q = (λ e q not. contents_kept i d batch e q not) in
      subst (λ (o : Option ℕ). ContentOk slots lost.power lost.size (record { meta = m; dirty = dirty_by o t; out = o; block = t }) h k)
      (sym out_now)
      (content_without m (dirty_by out_was f) (dirty_by (Some d) t) out_was f t d was_out kept
      (dirty_without m.setup.geometry out_was f t d was_out kept mirrored) in_range
      slots i.power lost.power i.size lost.size h k no_fresh ready content)

module _ (slots : ℕ) (i : Disks) (h : History) (k : ℕ) (d x : ℕ) (said : LogState) (ok : LogOk i x said k)
    (content : ContentOk slots i.power i.size (view_of i said) h k) (below : d < said.meta.setup.geometry.disks)
    (out_is : (e : ℕ) → out_disk i.power said.meta ≡ Some e → e ≡ d) where
  in_range_of : IsInRange said.meta
  in_range_of = says_in_range said.opened (stored_block i x) said.meta said.batch ok.stands.says.log

  pub log_lost : (y : ℕ) → Stands (lose d i) y said → LogOk (lose d i) y said k
  log_lost y s =
      let apart = says_not_lost i d y said s.says in
      record {
        stands = s;
        writes = ok.writes;
        single = single slots i h k d said.meta said.batch in_range_of ok.single content below out_is;
        standing_in = λ named. apart (out_is y (out_named i.power said.meta y named));
        fresh_closed = λ e rebuilt fresh l. absurd (no_fresh slots i h k d said.meta said.batch in_range_of ok.single content below out_is e rebuilt fresh);
        targets_spin = λ t names not.
            let away = not_out_now slots i h k d said.meta said.batch in_range_of ok.single content below out_is t.disk not in
            powers slots i h k d said.meta said.batch in_range_of ok.single content below out_is t.disk away ∙ ok.targets_spin t names (not_out_was slots i h k d said.meta said.batch in_range_of ok.single content below out_is t.disk away);
        formed = λ e l present not.
            let away = not_out_now slots i h k d said.meta said.batch in_range_of ok.single content below out_is e not in
            let was = ok.formed e l (ap is_present (sym (powers slots i h k d said.meta said.batch in_range_of ok.single content below out_is e away)) ∙ present) (not_out_was slots i h k d said.meta said.batch in_range_of ok.single content below out_is e away) in
            (was.0, says_forth i (lose d i) e was.0 (lose_kept i d e away) was.1);
        paired = λ a b says_a says_b first second.
            ok.paired a b (says_of_lost i d 0 a says_a) (says_of_lost i d 1 b says_b)
            (not_out_was slots i h k d said.meta said.batch in_range_of ok.single content below out_is 0 (not_out_now slots i h k d said.meta said.batch in_range_of ok.single content below out_is 0 first)) (not_out_was slots i h k d said.meta said.batch in_range_of ok.single content below out_is 1 (not_out_now slots i h k d said.meta said.batch in_range_of ok.single content below out_is 1 second));
      }

module _ (slots : ℕ) (i : Disks) (h : History) (k : ℕ) (d x : ℕ) (said : LogState) (sound : IsSoundAt slots i h k)
    (stands : Stands i x said) (spare : (d ≢ x) ⊎ Says i (other_log x) said) (may : MayLose i d) where
  same : (sound.disk ≡ x) × (sound.said ≡ said)
  same = Stands-same i sound.disk x sound.said said sound.log.stands stands

  ok : LogOk i x said k
  ok = subst (λ (y : ℕ). LogOk i y said k) same.0 (subst (λ (z : LogState). LogOk i sound.disk z k) same.1 sound.log)

  content : ContentOk slots i.power i.size (view_of i said) h k
  content = subst (λ (z : LogState). ContentOk slots i.power i.size (view_of i z) h k) same.1 sound.content

  witnesses : AreWitnessesTrue i (out_disk i.power said.meta)
  witnesses = subst (λ (z : LogState). AreWitnessesTrue i (out_disk i.power z.meta)) same.1 sound.witnesses

  below : d < said.meta.setup.geometry.disks
  below =
      let is = (Stands-same i may.standing x may.said said may.stands stands).1 in
      subst (λ (z : LogState). d < z.meta.setup.geometry.disks) is may.disk

  -- a disk that was out is this one
  out_is : (e : ℕ) → out_disk i.power said.meta ≡ Some e → e ≡ d
  out_is e o = may.weak e (out x said stands o)

  in_range : IsInRange said.meta
  in_range = says_in_range said.opened (stored_block i x) said.meta said.batch stands.says.log

  pub IsSoundAt-lost : IsSoundAt slots (lose d i) h k
  IsSoundAt-lost =
      let now = stands_lost i d x said stands spare in
      record {
        disk = now.0;
        said = said;
        log = log_lost slots i h k d x said ok content below out_is now.0 now.1;
        content = content_lost slots i h k d said.meta said.batch in_range ok.single content below out_is;
        witnesses = λ y low opened.
            let away : 2 ≢ d = (λ is. false≢true (sym (ap is_open (stored_lost i d 2 y is) ∙ zeroed_closed) ∙ opened)) in
            let was = witnesses y low (ap is_open (sym (stored_kept i d 2 y away)) ∙ opened) in
            out_now slots i h k d said.meta said.batch in_range ok.single content below out_is ∙ ap Some (sym (out_is y was));
      }

  pub dirty_still : (r e : ℕ) → r < 512 * map_count said.meta.setup.geometry → (view_of (lose d i) said).dirty r e ≡ (view_of i said).dirty r e
  dirty_still = dirty_lost slots i h k d said.meta said.batch in_range ok.single content below out_is
