-- What is held stays held while an interrupted commit is ended.
use Rattle.std.specs.Prelude.{◌≡◌, ◌≢◌, ◌⊎◌, ℕ, ◌<◌, ◌≤◌, ◌&&◌, nat_lt, Bool, true, false, Option, Some, None, if◌then◌else◌}
use Rattle.std.proofs.Common.{refl, sym, ◌∙◌, ap, subst, arith, inl, inr}
use Rattle.std.proofs.lemmas.Bool.{cases_Bool, cases_eq, cases_lt, false≢true}
use Rattle.std.proofs.lemmas.Bool.Decides.{nat_tests}
use Rattle.paraid_base.specs.History.{History}
use Rattle.paraid_base.specs.Log.{log_least}
use Rattle.paraid_base.specs.Xor.{zero_block}
use Rattle.paraid_rack.specs.declared.call.Power.{Power}
use Rattle.paraid_rack.specs.declared.call.Power.TheVariants.{Absent}
use Rattle.paraid_rack.specs.Disks.{Disks, IsImage, IsPresent, is_present, lose}
use Rattle.paraid_rack.proofs.AtomsLemmas.{at_use, with_at_other, with_at_same}
use Rattle.paraid_record.specs.declared.meta.Meta.{Meta}
use Rattle.paraid_record.specs.Range.{IsInRange}
use Rattle.paraid_image.specs.Rest.{AreSynced}
use Rattle.paraid_txn.specs.Commit.{IsEachImage, IsOneMissing, ImageStandsFor}
use Rattle.paraid_image.specs.Content.{view_by, view_of}
use Rattle.paraid_image.specs.HeldAt.{IsHeld, IsSoundFrom, MayLose}
use Rattle.paraid_image.specs.Out.{IsMissing, IsWeak, first_absent, named_out, out_disk}
use Rattle.paraid_image.specs.Out.IsWeak.{out as out_weak, named as named_weak}
use Rattle.paraid_txn.specs.Resume.{IsFallback, ImageStandsForResumed}
use Rattle.paraid_image.specs.Sides.{Batch, LogState, Says, has_place, stored_block}
use Rattle.paraid_image.specs.Sound.{AreWitnessesTrue, ContentOk, LogOk}
use Rattle.paraid_image.specs.Standing.{contents, overlaid_block, other_log}
use Rattle.paraid_txn.proofs.CommitLemmas.{absent_out, decide_out}
use Rattle.paraid_image.proofs.OutLemmas.{out_missing, first_absent_finds, first_absent_is, missing_is_out, says_in_range}
use Rattle.paraid_rack.specs.Alike.{IsAlike}
use Rattle.paraid_rack.proofs.AlikeLemmas.{IsAlike-sym, lose_alike}
use Rattle.paraid_image.proofs.AlikeLemmas.{sound_alike, stands_alike, weak_alike}
use Rattle.paraid_image.proofs.OneDiskLessLemmas.{content_lost, contents_kept}
use Rattle.paraid_txn.proofs.MeansLemmas.{absent_power, means_same}
use Rattle.paraid_txn.proofs.WitnessLemmas.{true_still}
use Rattle.paraid_image.proofs.NeutralLemmas.{says_forth}
use Rattle.paraid_image.proofs.SidesLemmas.{Says-same}
use Rattle.paraid_txn.proofs.SpokenLemmas.{other_other, stands_alone}
use Rattle.paraid_image.proofs.StandingLemmas.{Stands-same}
use Rattle.paraid_image.proofs.CallLemmas.{lose_kept, out_named}
use Rattle.paraid_image.proofs.ContentsLemmas.{contents_none}

-- where there is no such place there are zeros
contents_low : (i : Disks) (batch : Batch) (e r : ℕ) → r < log_least → contents i batch e r ≡ zero_block
unfolding contents
contents_low i batch e r low =
    let is : nat_lt r log_least ≡ true = grind (arith, nat_tests) in
    ap (λ (t : Bool). if t then zero_block else (if has_place i e r then overlaid_block batch e r (i.block e r) else zero_block)) is

-- disks that have the same places and the same blocks there
contents_agree : (a i : Disks) (from to : Batch) (e r : ℕ) → i.power e ≡ a.power e → (IsPresent i e → i.size e ≡ a.size e)
    → (has_place i e r ≡ true → log_least ≤ r → contents i to e r ≡ contents a from e r) → contents i to e r ≡ contents a from e r
contents_agree a i from to e r power size there = elim (cases_lt r log_least) [
  | inl low ↦ contents_low i to e r low ∙ sym (contents_low a from e r low)
  | inr far ↦ elim (cases_Bool (has_place i e r)) [
    | inl is ↦ there is far
    | inr none ↦ contents_none i to e r none ∙ sym (contents_none a from e r (same_place ∙ none))
  ]
]
  where
    same_place : has_place a e r ≡ has_place i e r
    same_place = elim (cases_Bool (is_present (i.power e))) [
      | inl here ↦
          ap (λ (w : Power). is_present w && nat_lt r (a.size e)) (sym power) ∙ ap (λ (n : ℕ). is_present (i.power e) && nat_lt r n) (sym (size here))
      | inr off ↦
          ap (λ (w : Power). is_present w && nat_lt r (a.size e)) (sym power) ∙ ap (λ (t : Bool). t && nat_lt r (a.size e)) off
          ∙ sym (ap (λ (t : Bool). t && nat_lt r (i.size e)) off)
    ]

-- what was powered alike and stands for the same holds the same
pub transfer : (slots : ℕ) (s0 a i : Disks) (m : Meta) (batch : Batch) (range : IsInRange m) (h : History) (k : ℕ)
    → ContentOk slots a.power a.size (view_by m a.power (contents a batch)) h k
    → ((e : ℕ) → e < m.setup.geometry.disks → i.power e ≡ a.power e)
    → ((e : ℕ) → e < m.setup.geometry.disks → IsPresent i e → i.size e ≡ a.size e)
    → ((e r : ℕ) → IsPresent i e → contents a batch e r ≡ contents s0 batch e r)
    → (for : ImageStandsFor s0 i m batch) → ContentOk slots i.power i.size (view_of i for.said) h k
transfer slots s0 a i m batch range h k content powers sizes kept for =
    subst (λ (n : Meta). ContentOk slots i.power i.size (view_by n i.power (contents i for.said.batch)) h k) (sym for.meta)
    (means_same slots m range a.power i.power a.size i.size (contents a batch) (contents i for.said.batch) h k powers sizes
    (λ e r l not. contents_agree a i batch for.said.batch e r (powers e l) (sizes e l)
    (λ there far. for.blocks e r not there far ∙ sym (kept e r (here e r there)))) content)
  where
    here : (e r : ℕ) → has_place i e r ≡ true → IsPresent i e
    here e r there = go (is_present (i.power e)) (nat_lt r (i.size e)) there
      where
        go : (b c : Bool) → (b && c) ≡ true → b ≡ true
        go true c h = refl
        go false c h = h

module _ (slots : ℕ) (s0 : Disks) (x : ℕ) (said : LogState) (h : History) (lo : ℕ) (down0 : Option ℕ) (synced : AreSynced s0)
    (log : LogOk s0 x said said.meta.writes) (held : IsHeld slots s0 h lo down0) where
  abbrev m : Meta
  m = said.meta

  -- these disks with nothing loose on absent ones either are what a stop leaves
  abbrev synced_disks : Disks
  synced_disks = record s0 { loose = λ d p. false }

  self : IsImage s0 synced_disks
  self = record { power = λ d. refl; size = λ d. refl; block = λ d p h. refl; loose = λ d p. refl }

  alike : IsAlike synced_disks s0
  alike = record { power = λ d. refl; size = λ d. refl; block = λ d p there. refl; loose = λ d p there. synced d p there.present }

  at_first : IsSoundFrom slots s0 h lo
  at_first =
      let w = held.whole synced_disks self in
      record { k = w.k; low = w.low; high = w.high; sound = sound_alike slots synced_disks s0 h w.k alike w.sound }

  same_said : at_first.sound.said ≡ said
  same_said = (Stands-same s0 at_first.sound.disk x at_first.sound.said said at_first.sound.log.stands log.stands).1

  content : ContentOk slots s0.power s0.size (view_of s0 said) h at_first.k
  content = subst (λ (o : LogState). ContentOk slots s0.power s0.size (view_of s0 o) h at_first.k) same_said at_first.sound.content

  witnesses : AreWitnessesTrue s0 (out_disk s0.power said.meta)
  witnesses = subst (λ (o : LogState). AreWitnessesTrue s0 (out_disk s0.power o.meta)) same_said at_first.sound.witnesses

  writes : said.meta.writes ≡ at_first.k
  writes = ap (λ (o : LogState). o.meta.writes) (sym same_said) ∙ at_first.sound.log.writes

  log_k : LogOk s0 x said at_first.k
  log_k = subst (LogOk s0 x said) writes log

  range : IsInRange said.meta
  range = says_in_range said.opened (stored_block s0 x) said.meta said.batch log.stands.says.log

  x_low : x < said.meta.setup.geometry.disks
  x_low = let n = said.meta.setup.geometry.disks_low in let l = log.stands.log_disk in omega arith

  module _ (i : Disks) (present : (d : ℕ) → IsPresent i d → IsPresent s0 d) (power : (d : ℕ) → IsPresent i d → i.power d ≡ s0.power d)
      (size : (d : ℕ) → IsPresent i d → i.size d ≡ s0.size d) (block : (p : ℕ) → p < 2 → IsPresent i 2 → i.block 2 p ≡ s0.block 2 p) where
    still_gone : (e : ℕ) → is_present (s0.power e) ≡ false → is_present (i.power e) ≡ false
    still_gone e gone = elim (cases_Bool (is_present (i.power e))) [ inl here ↦ absurd (false≢true (sym gone ∙ present e here)) | inr off ↦ off ]

    still_missing : (e : ℕ) → IsMissing s0.power said.meta e → IsMissing i.power said.meta e
    still_missing e missing = record { disk = missing.disk; is = elim missing.is [ inl gone ↦ inl (still_gone e gone) | inr name ↦ inr name ] }

    both_gone : (e : ℕ) → is_present (i.power e) ≡ false → is_present (s0.power e) ≡ false → i.power e ≡ s0.power e
    both_gone e p q = absent_power (i.power e) p ∙ sym (absent_power (s0.power e) q)

    -- an image that stands for what the log disk said
    module _ (for : ImageStandsFor s0 i said.meta said.batch) where
      single : (d e : ℕ) → IsMissing i.power said.meta d → IsMissing i.power said.meta e → d ≡ e
      single = subst (λ (n : Meta). (d e : ℕ) → IsMissing i.power n d → IsMissing i.power n e → d ≡ e) for.meta for.log.single

      -- no disk of the array but `d` is absent, and it was there
      fewer : (d : ℕ) → d < said.meta.setup.geometry.disks → is_present (i.power d) ≡ false → IsPresent s0 d → ContentOk slots i.power i.size (view_of i for.said) h at_first.k
      fewer d l gone was = transfer slots s0 (lose d s0) i said.meta said.batch range h at_first.k
          (content_lost slots s0 h at_first.k d said.meta said.batch range log.single content l
          (λ e o. single e d (still_missing e (out_missing s0.power said.meta e range o)) (record { disk = l; is = inl gone })))
          (λ e le. elim (cases_eq e d) [
            | inl is ↦ absent_power (i.power e) (ap (λ (w : ℕ). is_present (i.power w)) is ∙ gone) ∙ sym (with_at_same s0.power d Absent e is)
            | inr apart ↦ power e (others e le apart) ∙ sym (with_at_other s0.power d Absent e apart)
          ])
          (λ e le here. size e here ∙ sym (with_at_other s0.size d 0 e (away e here)))
          (λ e r here. contents_kept s0 d said.batch e r (away e here)) for
        where
          away : (e : ℕ) → IsPresent i e → e ≢ d
          away e here is = false≢true (sym gone ∙ ap (λ (w : ℕ). is_present (i.power w)) (sym is) ∙ here)

          others : (e : ℕ) → e < said.meta.setup.geometry.disks → e ≢ d → IsPresent i e
          others e le apart = elim (cases_Bool (is_present (i.power e))) [
            | inl here ↦ here
            | inr off ↦ absurd (apart (single e d (record { disk = le; is = inl off }) (record { disk = l; is = inl gone })))
          ]

      -- all that are absent were so
      as_many : ((e : ℕ) → e < said.meta.setup.geometry.disks → is_present (i.power e) ≡ false → is_present (s0.power e) ≡ false) → ContentOk slots i.power i.size (view_of i for.said) h at_first.k
      as_many was = transfer slots s0 s0 i said.meta said.batch range h at_first.k content
          (λ e l. elim (cases_Bool (is_present (i.power e))) [ inl here ↦ power e here | inr off ↦ both_gone e off (was e l off) ])
          (λ e l here. size e here) (λ e r here. refl) for

      content_now : ContentOk slots i.power i.size (view_of i for.said) h at_first.k
      content_now = go (first_absent i.power said.meta.setup.geometry.disks) refl
        where
          go : (o : Option ℕ) → first_absent i.power said.meta.setup.geometry.disks ≡ o → ContentOk slots i.power i.size (view_of i for.said) h at_first.k
          go None is = as_many (λ e l off.
              let f = first_absent_finds i.power said.meta.setup.geometry.disks e l off in
              let z : None ≡ Some f.0 = sym is ∙ f.1 in cc)
          go (Some d) is =
              let gone = first_absent_is i.power said.meta.setup.geometry.disks d is in
              elim (cases_Bool (is_present (s0.power d))) [
                | inl was ↦ fewer d gone.0 gone.1 was
                | inr was ↦ as_many (λ e l off.
                    ap (λ (w : ℕ). is_present (s0.power w)) (single e d (record { disk = l; is = inl off }) (record { disk = gone.0; is = inl gone.1 })) ∙ was)
              ]

      sound_new : IsSoundFrom slots i h lo
      sound_new = record {
        k = at_first.k;
        low = at_first.low;
        high = at_first.high;
        sound = record {
          disk = for.disk;
          said = for.said;
          log = subst (LogOk i for.disk for.said) writes for.log;
          content = content_now;
          witnesses = subst (λ (n : Meta). AreWitnessesTrue i (out_disk i.power n)) (sym for.meta) (true_still s0 i present size block said.meta range single witnesses);
        };
      }

    -- one that stands for what was left without it
    module _ (f : IsFallback s0 x i) (without : IsSoundFrom slots (lose x s0) h lo) where
      abbrev o : LogState
      o = without.sound.said

      abbrev for_old : ImageStandsFor s0 i o.meta o.batch
      for_old = f.stands without.sound.disk o without.k without.sound.log

      old_range : IsInRange o.meta
      old_range = says_in_range o.opened (stored_block (lose x s0) without.sound.disk) o.meta o.batch without.sound.log.stands.says.log

      old_single : (d e : ℕ) → IsMissing i.power o.meta d → IsMissing i.power o.meta e → d ≡ e
      old_single = subst (λ (n : Meta). (d e : ℕ) → IsMissing i.power n d → IsMissing i.power n e → d ≡ e) for_old.meta for_old.log.single

      old_missing : IsMissing i.power o.meta x
      old_missing = record { disk = (let n = o.meta.setup.geometry.disks_low in let l = log.stands.log_disk in omega arith); is = inl f.gone }

      away_x : (e : ℕ) → IsPresent i e → e ≢ x
      away_x e here is = false≢true (sym f.gone ∙ ap (λ (w : ℕ). is_present (i.power w)) (sym is) ∙ here)

      content_old : ContentOk slots i.power i.size (view_of i for_old.said) h without.k
      content_old = transfer slots s0 (lose x s0) i o.meta o.batch old_range h without.k without.sound.content
          (λ e le. elim (cases_Bool (is_present (i.power e))) [
            | inl here ↦ power e here ∙ sym (with_at_other s0.power x Absent e (away_x e here))
            | inr off ↦
                let is = old_single e x (record { disk = le; is = inl off }) old_missing in
                absent_power (i.power e) off ∙ sym (with_at_same s0.power x Absent e is)
          ])
          (λ e le here. size e here ∙ sym (with_at_other s0.size x 0 e (away_x e here)))
          (λ e r here. contents_kept s0 x o.batch e r (away_x e here)) for_old

      sound_old : IsSoundFrom slots i h lo
      sound_old = record {
        k = without.k;
        low = without.low;
        high = without.high;
        sound = record {
          disk = for_old.disk;
          said = for_old.said;
          log = subst (LogOk i for_old.disk for_old.said) without.sound.log.writes for_old.log;
          content = content_old;
          witnesses = subst (λ (n : Meta). AreWitnessesTrue i (out_disk i.power n)) (sym for_old.meta)
              (true_still (lose x s0) i
              (λ d here. ap is_present (with_at_other s0.power x Absent d (away_x d here)) ∙ present d here)
              (λ d here. size d here ∙ sym (with_at_other s0.size x 0 d (away_x d here)))
              block o.meta old_range old_single without.sound.witnesses);
        };
      }

  -- the log disk that stands can be lost where no other disk is weak
  without_x : ((w : ℕ) → IsWeak s0 w → w ≡ x) → IsSoundFrom slots (lose x s0) h lo
  without_x weak =
      let w = held.lost synced_disks x self (record {
        standing = x;
        said = said;
        stands = stands_alike s0 synced_disks x said (IsAlike-sym synced_disks s0 alike) log.stands;
        disk = x_low;
        present = log.stands.says.present;
        weak = λ u is. weak u (weak_alike synced_disks s0 u alike is);
      }) in
      record { k = w.k; low = w.low; high = w.high; sound = sound_alike slots (lose x synced_disks) (lose x s0) h w.k (lose_alike x synced_disks s0 alike) w.sound }

  -- Where the disk that is down is each that is absent or was weak, what was held is held.
  module _ (s : Disks) (down : Option ℕ) (downs : (d : ℕ) → d < said.meta.setup.geometry.disks → is_present (s.power d) ≡ false → down ≡ Some d)
      (weaks : (w : ℕ) → IsWeak s0 w → down ≡ Some w) (images : IsEachImage said.meta said.meta (ImageStandsForResumed s0 x said) s) where
    some_same : (d e : ℕ) → down ≡ Some d → down ≡ Some e → d ≡ e
    some_same d e p q = let z : Some d ≡ Some e = sym p ∙ q in cc

    missing_down : (i : Disks) → IsImage s i → (d : ℕ) → IsMissing i.power said.meta d → down ≡ Some d
    missing_down i image d missing = elim missing.is [
      | inl gone ↦ downs d missing.disk (ap is_present (sym (image.power d)) ∙ gone)
      | inr name ↦ weaks d (out_weak x said log.stands (out_named s0.power said.meta d name))
    ]

    one : (i : Disks) → IsImage s i → IsOneMissing i.power said.meta said.meta
    one i image = record { one = λ d e p q. some_same d e (missing_down i image d (either d p)) (missing_down i image e (either e q)) }
      where
        either : (d : ℕ) → IsMissing i.power said.meta d ⊎ IsMissing i.power said.meta d → IsMissing i.power said.meta d
        either d (inl p) = p
        either d (inr p) = p

    resumed : (i : Disks) → IsImage s i → ImageStandsForResumed s0 x said i
    resumed i image = images.whole i image (one i image)

    -- where the log disk that stood is absent, no other disk was weak
    gone_weak : (i : Disks) → IsImage s i → is_present (i.power x) ≡ false → (w : ℕ) → IsWeak s0 w → w ≡ x
    gone_weak i image gone w weak = some_same w x (weaks w weak) (downs x x_low (ap is_present (sym (image.power x)) ∙ gone))

    held_whole : (i : Disks) → IsImage s i → IsSoundFrom slots i h lo
    held_whole i image =
        let r = resumed i image in
        elim r.stands [
          | inl for ↦ sound_new i r.kept.present r.kept.power r.kept.size r.witnesses for
          | inr f ↦ sound_old i r.kept.present r.kept.power r.kept.size r.witnesses f (without_x (gone_weak i image f.gone))
        ]

    -- where it is the one that is lost, each disk that was weak is weak
    module _ (i : Disks) (image : IsImage s i) (here : IsPresent i x) (weak : (w : ℕ) → IsWeak i w → w ≡ x) (f : IsFallback s0 x (lose x i)) where
      r : ImageStandsForResumed s0 x said i
      r = resumed i image

      for : ImageStandsFor s0 i said.meta said.batch
      for = elim r.stands [ inl stood ↦ stood | inr g ↦ absurd (false≢true (sym g.gone ∙ here)) ]

      out_now : (w : ℕ) → out_disk i.power said.meta ≡ Some w → IsWeak i w
      out_now w is = out_weak for.disk for.said for.log.stands (ap (λ (n : Meta). out_disk i.power n) for.meta ∙ is)

      -- so none is out
      none_out : out_disk i.power said.meta ≡ None
      none_out = elim (decide_out (out_disk i.power said.meta)) [
        | inr none ↦ none
        | inl e ↦
            let is = weak e.0 (out_now e.0 e.1) in
            let missing = out_missing i.power said.meta e.0 range e.1 in
            absurd (elim missing.is [
              | inl gone ↦ false≢true (sym gone ∙ ap (λ (w : ℕ). is_present (i.power w)) is ∙ here)
              | inr name ↦ log.standing_in (name ∙ ap (λ (w : ℕ). Some w) is)
            ])
      ]

      now_out : (w : ℕ) → IsMissing i.power said.meta w → out_disk i.power said.meta ≡ Some w
      now_out w missing = elim missing.is [
        | inr name ↦ out_named i.power said.meta w name
        | inl gone ↦ missing_is_out i.power said.meta w range
            (subst (λ (n : Meta). (d e : ℕ) → IsMissing i.power n d → IsMissing i.power n e → d ≡ e) for.meta for.log.single) missing gone
      ]

      no_missing : (w : ℕ) → IsMissing i.power said.meta w → ⊥
      no_missing w missing = let z : None ≡ Some w = sym none_out ∙ now_out w missing in cc

      y_low : other_log x < 2
      y_low = let l = log.stands.log_disk in omega arith

      y_apart : other_log x ≢ x
      y_apart e = let l = log.stands.log_disk in absurd (omega arith)

      y_here : IsPresent i (other_log x)
      y_here = elim (cases_Bool (is_present (i.power (other_log x)))) [
        | inl is ↦ is
        | inr off ↦ absurd (no_missing (other_log x) (record { disk = (let n = said.meta.setup.geometry.disks_low in let l = y_low in omega arith); is = inl off }))
      ]

      y_says : (o : LogState) × Says i (other_log x) o
      y_says = for.log.formed (other_log x) y_low y_here
          (λ e. let z : None ≡ Some (other_log x) = sym none_out ∙ ap (λ (n : Meta). out_disk i.power n) (sym for.meta) ∙ e in cc)

      was_weak : (w : ℕ) → IsWeak s0 w → w ≡ x
      was_weak w (out_weak z v st e) =
          let same = (Stands-same s0 z x v said st log.stands).1 in
          let o : out_disk s0.power said.meta ≡ Some w = ap (λ (u : LogState). out_disk s0.power u.meta) (sym same) ∙ e in
          absurd (no_missing w (still_missing i r.kept.present r.kept.power r.kept.size r.witnesses w (out_missing s0.power said.meta w range o)))
      was_weak w (named_weak z v p st none q e) =
          let same = Stands-same s0 z x v said st log.stands in
          let p_says : Says s0 (other_log x) p = subst (λ (u : ℕ). Says s0 (other_log u) p) same.0 q in
          let there = says_forth i (lose x i) (other_log x) y_says.0 (lose_kept i x (other_log x) y_apart) y_says.1 in
          let gone : is_present ((lose x i).power (other_log (other_log x))) ≡ false =
          ap is_present (with_at_same i.power x Absent (other_log (other_log x)) (other_other x log.stands.log_disk)) in
          let meta = f.meta (other_log x) y_says.0 p (stands_alone (lose x i) (other_log x) y_says.0 y_low there gone) p_says in
          let name : named_out y_says.0.meta.out ≡ Some w = ap (λ (n : Meta). named_out n.out) meta ∙ e in
          let none_for : out_disk i.power for.said.meta ≡ None = ap (λ (n : Meta). out_disk i.power n) for.meta ∙ none_out in
          weak w (elim (cases_eq for.disk x) [
            | inl at ↦ named_weak for.disk for.said y_says.0 for.log.stands none_for (subst (λ (u : ℕ). Says i (other_log u) y_says.0) (sym at) y_says.1) name
            | inr apart ↦
                let at : for.disk ≡ other_log x = (let l = for.log.stands.log_disk in let lx = log.stands.log_disk in omega arith) in
                let is = Says-same i (other_log x) for.said y_says.0 (subst (λ (u : ℕ). Says i u for.said) at for.log.stands.says) y_says.1 in
                out_now w (out_named i.power said.meta w (ap (λ (n : Meta). named_out n.out) (sym for.meta) ∙ ap (λ (u : LogState). named_out u.meta.out) is ∙ name))
          ])

    held_lost : (i : Disks) (d : ℕ) → IsImage s i → MayLose i d → IsSoundFrom slots (lose d i) h lo
    held_lost i d image may =
        let r = images.lost i d image (one i image) may.weak in
        elim r.stands [
          | inl for ↦ sound_new (lose d i) r.kept.present r.kept.power r.kept.size r.witnesses for
          | inr f ↦ sound_old (lose d i) r.kept.present r.kept.power r.kept.size r.witnesses f (without_x (λ w weak. elim (cases_Bool (is_present (i.power x))) [
            | inr gone ↦ gone_weak i image gone w weak
            | inl here ↦
                let is : x ≡ d = at_use (λ (p : Power). is_present p ≡ false) (x ≡ d) i.power d Absent x (λ same now. same) (λ apart now. absurd (false≢true (sym now ∙ here))) f.gone in
                was_weak i image here (subst (λ (u : ℕ). (v : ℕ) → IsWeak i v → v ≡ u) (sym is) may.weak) (subst (λ (u : ℕ). IsFallback s0 x (lose u i)) (sym is) f) w weak
          ]))
        ]

    held_weak : (i : Disks) (w : ℕ) → IsImage s i → IsWeak i w → down ≡ Some w
    held_weak i w image weak = go (resumed i image) weak
      where
        go : ImageStandsForResumed s0 x said i → IsWeak i w → down ≡ Some w
        go r weak = elim r.stands [ inl for ↦ new r for weak | inr f ↦ old r f weak ]
          where
            new : ImageStandsForResumed s0 x said i → ImageStandsFor s0 i said.meta said.batch → IsWeak i w → down ≡ Some w
            new r for (out_weak z v st e) =
                let same = (Stands-same i z for.disk v for.said st for.log.stands).1 in
                missing_down i image w (out_missing i.power said.meta w range
                (ap (λ (n : Meta). out_disk i.power n) (sym for.meta) ∙ ap (λ (u : LogState). out_disk i.power u.meta) (sym same) ∙ e))
            new r for (named_weak z v o st none q e) =
                let same = (Stands-same i z for.disk v for.said st for.log.stands).1 in
                let none_now : out_disk i.power said.meta ≡ None = ap (λ (n : Meta). out_disk i.power n) (sym for.meta) ∙ ap (λ (u : LogState). out_disk i.power u.meta) (sym same) ∙ none in
                let meta = r.metas (other_log z) o (let l = st.log_disk in omega arith) q in
                let name : named_out meta.1.meta.out ≡ Some w = ap (λ (n : Meta). named_out n.out) (sym meta.4) ∙ e in
                elim (cases_eq meta.0 x) [
                  | inl at ↦
                      let is = Says-same s0 x meta.1 said (subst (λ (u : ℕ). Says s0 u meta.1) at meta.3) log.stands.says in
                      let z : None ≡ Some w = sym none_now ∙ out_named i.power said.meta w (ap (λ (u : LogState). named_out u.meta.out) (sym is) ∙ name) in cc
                  | inr apart ↦
                      let at : meta.0 ≡ other_log x = (let l = meta.2 in let lx = log.stands.log_disk in omega arith) in
                      weaks w (named_weak x said meta.1 log.stands (was_none r for none_now) (subst (λ (u : ℕ). Says s0 u meta.1) at meta.3) name)
                ]
              where
                was_none : ImageStandsForResumed s0 x said i → ImageStandsFor s0 i said.meta said.batch → out_disk i.power said.meta ≡ None → out_disk s0.power said.meta ≡ None
                was_none r for none_now = elim (decide_out (out_disk s0.power said.meta)) [
                  | inr none ↦ none
                  | inl e ↦
                      let missing = still_missing i r.kept.present r.kept.power r.kept.size r.witnesses e.0 (out_missing s0.power said.meta e.0 range e.1) in
                      let is : out_disk i.power said.meta ≡ Some e.0 = elim missing.is [
                        | inr name ↦ out_named i.power said.meta e.0 name
                        | inl gone ↦ missing_is_out i.power said.meta e.0 range
                            (subst (λ (n : Meta). (d e : ℕ) → IsMissing i.power n d → IsMissing i.power n e → d ≡ e) for.meta for.log.single) missing gone
                      ] in
                      let z : None ≡ Some e.0 = sym none_now ∙ is in cc
                ]

            old_by : (r : ImageStandsForResumed s0 x said i) (f : IsFallback s0 x i) (without : IsSoundFrom slots (lose x s0) h lo) → down ≡ Some x → IsWeak i w → down ≡ Some w
            old_by r f without down_x (out_weak z v st e) =
                let for = f.stands without.sound.disk without.sound.said without.k without.sound.log in
                let same = (Stands-same i z for.disk v for.said st for.log.stands).1 in
                let o : out_disk i.power without.sound.said.meta ≡ Some w = ap (λ (n : Meta). out_disk i.power n) (sym for.meta) ∙ ap (λ (u : LogState). out_disk i.power u.meta) (sym same) ∙ e in
                let missing = out_missing i.power without.sound.said.meta w (old_range i r.kept.present r.kept.power r.kept.size r.witnesses f without) o in
                down_x ∙ ap (λ (u : ℕ). Some u) (old_single i r.kept.present r.kept.power r.kept.size r.witnesses f without x w (old_missing i r.kept.present r.kept.power r.kept.size r.witnesses f without) missing)
            old_by r f without down_x (named_weak z v o st none q e) =
                let for = f.stands without.sound.disk without.sound.said without.k without.sound.log in
                let n = v.meta.setup.geometry.disks_low in
                let l = log.stands.log_disk in
                let some = absent_out i.power v.meta x (omega arith) f.gone in
                let z : None ≡ Some some.0 = sym none ∙ some.1 in cc

            old : ImageStandsForResumed s0 x said i → IsFallback s0 x i → IsWeak i w → down ≡ Some w
            old r f weak =
                let without = without_x (gone_weak i image f.gone) in
                let down_x : down ≡ Some x = downs x x_low (ap is_present (sym (image.power x)) ∙ f.gone) in
                old_by r f without down_x weak

    pub held_resumes : IsHeld slots s h lo down
    held_resumes = record { whole = held_whole; lost = held_lost; weak = held_weak }
