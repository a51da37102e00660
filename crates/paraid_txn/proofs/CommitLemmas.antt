-- The promise of a commit, from its stages.
use Rattle.std.specs.Prelude.{◌≡◌, ◌≢◌, ◌⊎◌, ℕ, ◌<◌, ◌≤◌, Bool, true, false, [], Option, Some, None}
use Rattle.std.proofs.Common.{refl, sym, ◌∙◌, ap, subst, arith, inl, inr}
use Rattle.std.proofs.lemmas.Bool.{cases_Bool, cases_eq, false≢true}
use Rattle.paraid_base.specs.Log.{log_least}
use Rattle.paraid_rack.specs.declared.call.Power.{Power}
use Rattle.paraid_rack.specs.declared.call.Power.TheVariants.{Absent}
use Rattle.paraid_rack.specs.Atoms.{IsLeftByStop}
use Rattle.paraid_rack.specs.Disks.{Disks, IsPresent, is_present, lose}
use Rattle.paraid_rack.proofs.AtomsLemmas.{at_use, image_left, lost_apart, lost_left, with_at_other, with_at_same}
use Rattle.paraid_record.specs.declared.meta.Meta.{Meta}
use Rattle.paraid_record.specs.Range.{IsInRange}
use Rattle.paraid_image.specs.Rest.{AreLogGatesClosed, IsAtRest, AreSynced}
use Rattle.paraid_txn.specs.Commit.{IsCommitted, KeepsWitnesses, LeavesBorne, IsEachImage, IsEitherMissing, IsOldOrNew, IsOneMissing, ImageStandsFor, ImageStandsForEither}
use Rattle.paraid_image.specs.Out.{IsMissing, IsWeak, first_absent, named_out, or_else, out_disk}
use Rattle.paraid_image.specs.Out.IsWeak.{out as out_weak, named as named_weak}
use Rattle.paraid_image.specs.Sides.{Batch, LogState, Says, SaysBy, closed_over, is_open, stored_block}
use Rattle.paraid_image.specs.Sound.{LogOk}
use Rattle.paraid_txn.specs.CommitStages.{BeganTrue, CloseStage, FirstStage, IsEarlyImage, IsLiveLog, IsTrueWitness, Job, KeepsSlotsAndLogs, IsLateImage, HoldsLate, LogStage, HoldsWhole, HoldsWitnesses, job_named, open_with}
use Rattle.paraid_txn.specs.CommitStages.IsTrueWitness.{by_both, by_new, by_old}
use Rattle.paraid_image.specs.Standing.{Stands, other_log}
use Rattle.paraid_image.proofs.OutLemmas.{first_absent_finds, named_below, out_missing}
use Rattle.paraid_image.proofs.SidesLemmas.{Says-same}
use Rattle.paraid_image.proofs.StandingLemmas.{Stands-same}
use Rattle.paraid_txn.proofs.SpokenLemmas.{IsBegun, after_epoch, aside_said, before_in_range, begun_brought, joining_second, joining_shut, live_says_old, stands_alone, start_epoch}
use Rattle.paraid_txn.proofs.CommitImagesLemmas.{IsPaired, aside_old, early_for_new, early_for_old, early_joining, early_other, early_stands, late_for, late_other, late_stands}
use Rattle.paraid_image.proofs.CallLemmas.{decide_some, lose_kept, out_named, says_of_lost, stored_kept, stored_lost, zeroed_closed}
use Rattle.paraid_image.proofs.HeldLemmas.{image_of_synced}
use Rattle.paraid_image.proofs.NeutralLemmas.{says_forth}
use Rattle.paraid_txn.proofs.WholeLemmas.{closing_late, closing_whole, left_kept, stored_here}
use Rattle.paraid_txn.proofs.WitnessLemmas.{missing_out, missing_still}

-- where a disk is absent, some disk is out
pub absent_out : (power : ℕ → Power) (m : Meta) (e : ℕ) → e < m.setup.geometry.disks → is_present (power e) ≡ false → (w : ℕ) × (out_disk power m ≡ Some w)
absent_out power m e low gone = split (named_out m.out) refl
  where
    split : (o : Option ℕ) → named_out m.out ≡ o → (w : ℕ) × (or_else o (first_absent power m.setup.geometry.disks) ≡ Some w)
    split (Some d) name = (d, refl)
    split None name = first_absent_finds power m.setup.geometry.disks e low gone

-- what a closed gate says
pub closed_said : (i : Disks) (z : ℕ) (said : LogState) (m : Meta) → Says i z said → said.opened ≡ false → said.meta ≡ m → said ≡ closed_over m
closed_said i z said m says shut is =
    let log : SaysBy false (stored_block i z) said.meta said.batch = subst (λ (o : Bool). SaysBy o (stored_block i z) said.meta said.batch) shut says.log in
    λ t. record { opened = shut t; meta = is t; batch = log.empty t }

pub decide_out : (o : Option ℕ) → ((w : ℕ) × (o ≡ Some w)) ⊎ (o ≡ None)
decide_out (Some w) = inl (w, refl)
decide_out None = inr refl

-- a stop may leave the disks as they are
left_all : (s : Disks) → IsLeftByStop s s
left_all s = record { present = λ d here. here; power = λ d here. refl; size = λ d here. refl; block = λ d p synced. refl }

-- what is missing is missing in what a stop leaves
pub missing_left : (s i : Disks) (m : Meta) (d : ℕ) → IsLeftByStop s i → IsMissing s.power m d → IsMissing i.power m d
missing_left s i m d left missing = missing_still s.power i.power m d left.present missing

module _ (j : Job) (before : Meta) (begun : IsBegun j before) where
  same_disks : j.meta.setup.geometry.disks ≡ before.setup.geometry.disks
  same_disks = ap (λ s. s.geometry.disks) begun.next.setup

  enough : 3 ≤ before.setup.geometry.disks
  enough = before.setup.geometry.disks_low

  -- what a log disk's meta is
  abbrev IsOneOf : Meta → Type 0
  IsOneOf m = (m ≡ before) ⊎ (m ≡ j.meta)

  in_range : (m : Meta) → IsOneOf m → IsInRange m
  in_range m (inl is) = subst IsInRange (sym is) (before_in_range j before begun)
  in_range m (inr is) = subst IsInRange (sym is) begun.good.meta.in_range

  either : (power : ℕ → Power) (m : Meta) (d : ℕ) → IsOneOf m → IsMissing power m d → IsEitherMissing power before j.meta d
  either power m d (inl is) missing = inl (subst (λ (n : Meta). IsMissing power n d) is missing)
  either power m d (inr is) missing = inr (subst (λ (n : Meta). IsMissing power n d) is missing)

  disk_count : (m : Meta) → IsOneOf m → m.setup.geometry.disks ≡ before.setup.geometry.disks
  disk_count m (inl is) = ap (λ (n : Meta). n.setup.geometry.disks) is
  disk_count m (inr is) = ap (λ (n : Meta). n.setup.geometry.disks) is ∙ same_disks

  single : (power : ℕ → Power) (m : Meta) → IsOneOf m → IsOneMissing power before j.meta → (d e : ℕ) → IsMissing power m d → IsMissing power m e → d ≡ e
  single power m is one d e p q = one.one d e (either power m d is p) (either power m e is q)

  -- a log disk that is absent, or is left alone
  abbrev IsShunned : Disks → ℕ → Type 0
  IsShunned i x = (is_present (i.power x) ≡ false) ⊎ (job_named j ≡ Some x)

  shunned_missing : (i : Disks) (x : ℕ) → x < 2 → IsShunned i x → IsEitherMissing i.power before j.meta x
  shunned_missing i x low (inl gone) = inl (record { disk = (let n = enough in omega arith); is = inl gone })
  shunned_missing i x low (inr is) = inr (record { disk = (let n = enough in let s = same_disks in omega arith); is = inr (sym begun.names ∙ is) })

  -- every other one is live and there
  live_or_shunned : (i : Disks) (x : ℕ) → x < 2 → IsShunned i x ⊎ (IsLiveLog j x × IsPresent i x)
  live_or_shunned i x low = elim (cases_Bool (is_present (i.power x))) [
    | inr gone ↦ inl (inl gone)
    | inl here ↦ elim (decide_some (job_named j) x) [
      | inl is ↦ inl (inr is)
      | inr not ↦ inr ((low, not), here)
    ]
  ]

  one_live : (i : Disks) → IsOneMissing i.power before j.meta → (x : ℕ) × IsLiveLog j x × IsPresent i x
  one_live i one = elim (live_or_shunned i 0 (omega arith)) [
    | inr a ↦ (0, a.0, a.1)
    | inl a ↦ elim (live_or_shunned i 1 (omega arith)) [
      | inr b ↦ (1, b.0, b.1)
      | inl b ↦
          let bad : ◌≡◌ {A = ℕ} 0 1 = one.one 0 1 (shunned_missing i 0 (omega arith) a) (shunned_missing i 1 (omega arith) b) in
          absurd (omega (arith, bad))
    ]
  ]

  -- an image in which some log disk stands by one of the two metas
  module _ (i : Disks) (one : IsOneMissing i.power before j.meta) (d : ℕ) (weak : (w : ℕ) → IsWeak i w → w ≡ d)
      (z : ℕ) (said : LogState) (stands : Stands i z said) (one_of : IsOneOf said.meta) where
    -- the out disk is the one that is lost
    out_lost : (w : ℕ) → out_disk i.power said.meta ≡ Some w → w ≡ d
    out_lost w is = weak w (out_weak z said stands is)

    -- so is each that is absent
    absent_lost : (e : ℕ) → e < before.setup.geometry.disks → is_present (i.power e) ≡ false → e ≡ d
    absent_lost e low gone =
        let low_too : e < said.meta.setup.geometry.disks = (let n = disk_count said.meta one_of in omega arith) in
        let w = absent_out i.power said.meta e low_too gone in
        one.one e w.0 (either i.power said.meta e one_of (record { disk = low_too; is = inl gone }))
        (either i.power said.meta w.0 one_of (out_missing i.power said.meta w.0 (in_range said.meta one_of) w.1))
        ∙ out_lost w.0 w.1

    -- and each that a meta names out by which some log disk stands once the disk is lost
    named_lost : (y : ℕ) (other : LogState) → y < 2 → Says i y other → IsOneOf other.meta → (e : ℕ) → named_out other.meta.out ≡ Some e → e ≡ d
    named_lost y other low says of_two e name = elim (cases_eq y z) [
      | inl is ↦
          let same = Says-same i z other said (subst (λ (w : ℕ). Says i w other) is says) stands.says in
          out_lost e (out_named i.power said.meta e (ap (λ (o : LogState). named_out o.meta.out) (sym same) ∙ name))
      | inr apart ↦
          let here : y ≡ other_log z = (let l = stands.log_disk in omega arith) in
          elim (decide_out (out_disk i.power said.meta)) [
            | inr none ↦ weak e (named_weak z said other stands none (subst (λ (w : ℕ). Says i w other) here says) name)
            | inl w ↦
                one.one e w.0 (either i.power other.meta e of_two (record { disk = named_below other.meta.setup.geometry other.meta.gear other.meta.out e (in_range other.meta of_two).out name; is = inr name }))
                (either i.power said.meta w.0 one_of (out_missing i.power said.meta w.0 (in_range said.meta one_of) w.1))
                ∙ out_lost w.0 w.1
          ]
    ]

    missing_lost : (y : ℕ) (other : LogState) (m : Meta) → y < 2 → Says (lose d i) y other → other.meta ≡ m → IsOneOf m → (e : ℕ) → IsMissing (lose d i).power m e → e ≡ d
    missing_lost y other m low says is of_two e missing = elim missing.is [
      | inl gone ↦ at_use (λ (p : Power). is_present p ≡ false) (e ≡ d) i.power d Absent e (λ same now. same)
          (λ apart now. absent_lost e (let n = disk_count m of_two in let l = missing.disk in omega arith) now) gone
      | inr name ↦ named_lost y other low (says_of_lost i d y other says) (subst IsOneOf (sym is) of_two) e (ap (λ (n : Meta). named_out n.out) is ∙ name)
    ]

    single_lost : (y : ℕ) (other : LogState) (m : Meta) → y < 2 → Says (lose d i) y other → other.meta ≡ m → IsOneOf m
        → (e f : ℕ) → IsMissing (lose d i).power m e → IsMissing (lose d i).power m f → e ≡ f
    single_lost y other m low says is of_two e f p q = missing_lost y other m low says is of_two e p ∙ sym (missing_lost y other m low says is of_two f q)

    -- a log disk that is absent or left alone, but not lost, is there, and is named out by the new
    -- meta alone
    left_behind : (y : ℕ) → y < 2 → y ≢ d → IsShunned i y
        → IsPresent i y × (job_named j ≡ Some y) × (named_out said.meta.out ≢ Some y)
    left_behind y low apart shunned = elim (cases_Bool (is_present (i.power y))) [
      | inr gone ↦ absurd (apart (absent_lost y (let n = enough in omega arith) gone))
      | inl here ↦ (here, name here, λ e. apart (out_lost y (out_named i.power said.meta y e)))
    ]
      where
        name : IsPresent i y → job_named j ≡ Some y
        name here = elim shunned [ inl gone ↦ absurd (false≢true (sym gone ∙ here)) | inr is ↦ is ]

  still : (i : Disks) (d x : ℕ) → x ≢ d → IsPresent i x → IsPresent (lose d i) x
  still i d x apart here = ap is_present (with_at_other i.power d Absent x apart) ∙ here

  lost : (i : Disks) (d x : ℕ) → x ≡ d → is_present ((lose d i).power x) ≡ false
  lost i d x is = ap is_present (with_at_same i.power d Absent x is)

  -- with a disk lost, some live log disk is there, or one that is left alone or was absent is alone
  abbrev IsAlone : Disks → ℕ → ℕ → Type 0
  IsAlone i d y = (y < 2) × (y ≢ d) × IsShunned i y × (is_present ((lose d i).power (other_log y)) ≡ false)

  abbrev IsFound : Disks → ℕ → Type 0
  IsFound i d = ((x : ℕ) × IsLiveLog j x × IsPresent (lose d i) x) ⊎ ((y : ℕ) × IsAlone i d y)

  found_but_first : (i : Disks) (d : ℕ) → 0 ≡ d → IsFound i d
  found_but_first i d is = elim (live_or_shunned i 1 (omega arith)) [
    | inr b ↦ inl (1, b.0, still i d 1 (λ e. omega arith) b.1)
    | inl b ↦ inr (1, (omega arith, (λ e. omega arith), b, lost i d 0 is))
  ]

  found_but_second : (i : Disks) (d : ℕ) → IsOneMissing i.power before j.meta → IsShunned i 0 → IsFound i d
  found_but_second i d one a = elim (live_or_shunned i 1 (omega arith)) [
    | inl b ↦
        let bad : ◌≡◌ {A = ℕ} 0 1 = one.one 0 1 (shunned_missing i 0 (omega arith) a) (shunned_missing i 1 (omega arith) b) in
        absurd (omega (arith, bad))
    | inr b ↦ elim (cases_eq 1 d) [
      | inr apart ↦ inl (1, b.0, still i d 1 apart b.1)
      | inl is ↦ inr (0, (omega arith, (λ e. omega arith), a, lost i d 1 is))
    ]
  ]

  found : (i : Disks) (d : ℕ) → IsOneMissing i.power before j.meta → IsFound i d
  found i d one = elim (live_or_shunned i 0 (omega arith)) [
    | inl a ↦ found_but_second i d one a
    | inr a ↦ elim (cases_eq 0 d) [
      | inl is ↦ found_but_first i d is
      | inr apart ↦ inl (0, a.0, still i d 0 apart a.1)
    ]
  ]

  abbrev LeftAside : Disks → Type 0
  LeftAside i = (y p : ℕ) → y < 2 → job_named j ≡ Some y → p < log_least → IsPresent i y → i.block y p ≡ j.start.block y p

  abbrev Either : Disks → Type 0
  Either = ImageStandsForEither j.start before j.meta j.batch

  abbrev New : Disks → Type 0
  New i = ImageStandsFor j.start i j.meta j.batch

  -- before the targets are touched
  module _ (i : Disks) (aside : LeftAside i) (early : IsEarlyImage j i) where
    abbrev Paired : Type 0
    Paired = IsPaired j before begun i early.kept aside early

    -- where a log disk comes in again, no other one is missing
    pair_whole : IsOneMissing i.power before j.meta → Paired
    pair_whole one q live here joining = elim (cases_Bool (is_present (i.power (other_log q)))) [
      | inl there ↦ there
      | inr gone ↦
          let low : other_log q < 2 = (let l = live.0 in omega arith) in
          let same = one.one (other_log q) q (shunned_missing i (other_log q) low (inl gone))
          (inl (record { disk = (let n = enough in let l = live.0 in omega arith); is = inr joining.0 })) in
          let l = live.0 in
          absurd (omega arith)
    ]

    early_for : Paired → (x : ℕ) → IsLiveLog j x → IsPresent i x
        → ((z : ℕ) (said : LogState) (m : Meta) → Stands i z said → said.meta ≡ m → IsOneOf m → (e f : ℕ) → IsMissing i.power m e → IsMissing i.power m f → e ≡ f) → Either i
    early_for pair x live here single_of =
        let e = early_stands j before begun i early.kept aside early pair x live here in
        elim e.3 [
          | inl is ↦ inl (early_for_old j before begun i early.kept aside early e.0 e.1 e.2 is.0 is.1 (single_of e.0 e.1 before e.2 (ap (λ (o : LogState). o.meta) is.0) (inl refl)))
          | inr is ↦ inr (early_for_new j before begun i early.kept aside early e.0 e.1 e.2 is.0 is.1 (single_of e.0 e.1 j.meta e.2 (ap (λ (o : LogState). o.meta) is.0) (inr refl)))
        ]

    early_whole : IsOneMissing i.power before j.meta → Either i
    early_whole one =
        let l = one_live i one in
        early_for (pair_whole one) l.0 l.1 l.2 (λ z said m s is of_two. single i.power m of_two one)

    early_kind : (z : ℕ) (said : LogState) → ((said ≡ closed_over before) × (named_out before.out ≢ Some z)) ⊎ ((said ≡ open_with j) × IsLiveLog j z) → IsOneOf said.meta
    early_kind z said (inl is) = inl (ap (λ (o : LogState). o.meta) is.0)
    early_kind z said (inr is) = inr (ap (λ (o : LogState). o.meta) is.0)

    module _ (one : IsOneMissing i.power before j.meta) (d : ℕ) (weak : (w : ℕ) → IsWeak i w → w ≡ d) (aside_too : LeftAside (lose d i)) (early_too : IsEarlyImage j (lose d i)) where
      -- where the log disk that is left was to be left alone, the old contents stand
      early_alone : (y : ℕ) → IsAlone i d y → Either (lose d i)
      early_alone y alone =
          let l = one_live i one in
          let e = early_stands j before begun i early.kept aside early (pair_whole one) l.0 l.1 l.2 in
          let b = left_behind i one d weak e.0 e.1 e.2 (early_kind e.0 e.1 e.3) y alone.0 alone.1 alone.2 in
          elim e.3 [
            | inr is ↦ absurd (b.2 (ap (λ (o : LogState). named_out o.meta.out) is.0 ∙ sym begun.names ∙ b.1))
            | inl is ↦
                let not : named_out before.out ≢ Some y = λ q. b.2 (ap (λ (o : LogState). named_out o.meta.out) is.0 ∙ q) in
                let says = aside_old j before begun (lose d i) early_too.kept aside_too y alone.0 b.1 (still i d y alone.1 b.0) not in
                inl (early_for_old j before begun (lose d i) early_too.kept aside_too early_too y (closed_over before) (stands_alone (lose d i) y (closed_over before) alone.0 says alone.3) refl not
                (single_lost i one d weak e.0 e.1 e.2 (early_kind e.0 e.1 e.3) y (closed_over before) before alone.0 says refl (inl refl)))
          ]

  early_lost : (i : Disks) (aside : LeftAside i) (early : IsEarlyImage j i) (one : IsOneMissing i.power before j.meta) (d : ℕ) (weak : (w : ℕ) → IsWeak i w → w ≡ d)
      (aside_too : LeftAside (lose d i)) (early_too : IsEarlyImage j (lose d i)) → Either (lose d i)
  early_lost i aside early one d weak aside_too early_too =
      let l = one_live i one in
      let pair = pair_whole i aside early one in
      let e = early_stands j before begun i early.kept aside early pair l.0 l.1 l.2 in
      elim (found i d one) [
        | inr alone ↦ early_alone i aside early one d weak aside_too early_too alone.0 alone.1
        | inl live ↦ early_for (lose d i) aside_too early_too (pair_lost pair) live.0 live.1 live.2
            (λ z said m s is of_two. single_lost i one d weak e.0 e.1 e.2 (early_kind i aside early e.0 e.1 e.3) z said m s.log_disk s.says is of_two)
      ]
    where
      -- the one that comes in again is then the weak disk, so the other one is not the one that is lost
      pair_lost : IsPaired j before begun i early.kept aside early → IsPaired j before begun (lose d i) early_too.kept aside_too early_too
      pair_lost pair q live here joining = elim (cases_eq q d) [
        | inl is ↦ absurd (false≢true (sym (lost i d q is) ∙ here))
        | inr apart ↦
            let here_was : IsPresent i q = ap is_present (sym (with_at_other i.power d Absent q apart)) ∙ here in
            let there = pair q live here_was joining in
            let s = early_joining j before begun i early.kept aside early q live here_was joining there in
            let is = weak q (out_weak (other_log q) (closed_over before) s.0 (out_named i.power before q joining.0)) in
            absurd (apart is)
      ]

  -- the weak disk is missing by one of the two metas
  weak_missing : (i : Disks) (x : ℕ) (said : LogState) → Stands i x said → IsOneOf said.meta
      → (out_disk i.power said.meta ≡ None → (o : LogState) → Says i (other_log x) o → IsOneOf o.meta) → (w : ℕ) → IsWeak i w → IsEitherMissing i.power before j.meta w
  weak_missing i x said s of_two others w (out_weak y o t is) =
      let same = (Stands-same i x y said o s t).1 in
      let is_now : out_disk i.power said.meta ≡ Some w = ap (λ (u : LogState). out_disk i.power u.meta) same ∙ is in
      either i.power said.meta w of_two (out_missing i.power said.meta w (in_range said.meta of_two) is_now)
  weak_missing i x said s of_two others w (named_weak y o other t none says name) =
      let same = Stands-same i x y said o s t in
      let none_now : out_disk i.power said.meta ≡ None = ap (λ (u : LogState). out_disk i.power u.meta) same.1 ∙ none in
      let other_two = others none_now other (subst (λ (z : ℕ). Says i (other_log z) other) (sym same.0) says) in
      either i.power other.meta w other_two (record { disk = named_below other.meta.setup.geometry other.meta.gear other.meta.out w (in_range other.meta other_two).out name; is = inr name })

  early_weak : (i : Disks) (aside : LeftAside i) (early : IsEarlyImage j i) → IsOneMissing i.power before j.meta → (w : ℕ) → IsWeak i w → IsEitherMissing i.power before j.meta w
  early_weak i aside early one w weak =
      let l = one_live i one in
      let e = early_stands j before begun i early.kept aside early (pair_whole i aside early one) l.0 l.1 l.2 in
      weak_missing i e.0 e.1 e.2 (early_kind i aside early e.0 e.1 e.3)
      (λ none o says. one_of o (early_other j before begun i early.kept aside early e.0 e.1 e.2 e.3 none o says)) w weak
    where
      one_of : (o : LogState) → (o ≡ closed_over before) ⊎ (o ≡ open_with j) → IsOneOf o.meta
      one_of o (inl is) = inl (ap (λ (u : LogState). u.meta) is)
      one_of o (inr is) = inr (ap (λ (u : LogState). u.meta) is)

  -- and from then on
  late_of : (i : Disks) → LeftAside i → IsLateImage j i → (x : ℕ) → IsLiveLog j x → IsPresent i x
      → ((z : ℕ) (said : LogState) → Stands i z said → said.meta ≡ j.meta → (e f : ℕ) → IsMissing i.power j.meta e → IsMissing i.power j.meta f → e ≡ f) → New i
  late_of i aside late x live here single_of =
      let b = begun_brought j before begun in
      let e = late_stands j b i late.kept aside late x live here in
      late_for j b i late.kept aside late e.0 e.1 e.2 e.3 e.4 (single_of e.0 e.1 e.2 (late_meta e.1 e.3))
    where
      late_meta : (said : LogState) → (said ≡ open_with j) ⊎ (said ≡ closed_over j.meta) → said.meta ≡ j.meta
      late_meta said (inl is) = ap (λ (o : LogState). o.meta) is
      late_meta said (inr is) = ap (λ (o : LogState). o.meta) is

  late_whole : (i : Disks) → LeftAside i → IsLateImage j i → IsOneMissing i.power before j.meta → New i
  late_whole i aside late one =
      let l = one_live i one in
      late_of i aside late l.0 l.1 l.2 (λ z said s is. single i.power j.meta (inr refl) one)

  late_lost : (i : Disks) → LeftAside i → IsLateImage j i → IsOneMissing i.power before j.meta → (d : ℕ) → ((w : ℕ) → IsWeak i w → w ≡ d)
      → LeftAside (lose d i) → IsLateImage j (lose d i) → New (lose d i)
  late_lost i aside late one d weak aside_too late_too =
      let whole = late_whole i aside late one in
      let of_two : IsOneOf whole.said.meta = inr whole.meta in
      elim (found i d one) [
        | inl live ↦ late_of (lose d i) aside_too late_too live.0 live.1 live.2
            (λ z said s is. single_lost i one d weak whole.disk whole.said whole.log.stands of_two z said j.meta s.log_disk s.says is (inr refl))
        | inr alone ↦
            let b = left_behind i one d weak whole.disk whole.said whole.log.stands of_two alone.0 alone.1.0 alone.1.1 alone.1.2 in
            absurd (b.2 (ap (λ (m : Meta). named_out m.out) whole.meta ∙ sym begun.names ∙ b.1))
      ]

  late_weak : (i : Disks) → LeftAside i → IsLateImage j i → IsOneMissing i.power before j.meta → (w : ℕ) → IsWeak i w → IsEitherMissing i.power before j.meta w
  late_weak i aside late one w weak =
      let whole = late_whole i aside late one in
      weak_missing i whole.disk whole.said whole.log.stands (inr whole.meta)
      (λ none o says. inr (late_other j (begun_brought j before begun) i late.kept aside late whole.disk whole.said whole.log.stands whole.meta none o says)) w weak

  pub late_images : (s : Disks) → ((i : Disks) → IsLeftByStop s i → IsLateImage j i) → ((i : Disks) → IsLeftByStop s i → LeftAside i) → IsEachImage before j.meta New s
  late_images s late aside = record {
    whole = λ i image one. let left = image_left s i image in late_whole i (aside i left) (late i left) one;
    lost = λ i d image one weak.
        let left = image_left s i image in
        let left_too = lost_left s i d image in
        late_lost i (aside i left) (late i left) one d weak (aside (lose d i) left_too) (late (lose d i) left_too);
  }

  either_images : (s : Disks) → IsEachImage before j.meta New s → IsEachImage before j.meta Either s
  either_images s new = record { whole = λ i image one. inr (new.whole i image one); lost = λ i d image one weak. inr (new.lost i d image one weak) }

  early_images : (s : Disks) → ((i : Disks) → IsLeftByStop s i → IsEarlyImage j i) → ((i : Disks) → IsLeftByStop s i → LeftAside i) → IsEachImage before j.meta Either s
  early_images s early aside = record {
    whole = λ i image one. let left = image_left s i image in early_whole i (aside i left) (early i left) one;
    lost = λ i d image one weak.
        let left = image_left s i image in
        let left_too = lost_left s i d image in
        early_lost i (aside i left) (early i left) one d weak (aside (lose d i) left_too) (early (lose d i) left_too);
  }

  -- The witnesses

  -- each live log disk is closed as it was
  abbrev IsStillShut : Disks → Type 0
  IsStillShut i = (x : ℕ) → IsLiveLog j x → IsPresent i x → (is_open (i.block x 0) ≡ false) × (i.block x 1 ≡ j.start.block x 1)

  -- then none says the new meta
  old_epoch : (i : Disks) (kept : KeepsSlotsAndLogs j i) (aside : LeftAside i) → IsStillShut i → (z : ℕ) (o : LogState) → z < 2 → Says i z o → o.meta.epoch ≤ before.epoch
  old_epoch i kept aside shut z o low says = elim (decide_some (job_named j) z) [
    | inl is ↦ start_epoch j before begun z o low is (aside_said j i kept z says.present (λ p lt. aside z p low is lt says.present) o says)
    | inr not ↦
        let live : IsLiveLog j z = (low, not) in
        let s = shut z live says.present in
        elim (decide_some (named_out before.out) z) [
          | inl was ↦ after_epoch (other_log z) (closed_over before) o (joining_second j before begun i kept z live says.present was s.0 s.1 o says)
          | inr in_it ↦
              let same = ap (λ (u : LogState). u.meta.epoch) (Says-same i z o (closed_over before) says (live_says_old j before begun i kept z live says.present in_it s.0 s.1)) in
              omega arith
        ]
  ]

  -- why a witness is true in an image that stands
  abbrev IsBorne : Disks → ℕ → Type 0
  IsBorne i p = (IsMissing i.power before p × IsMissing i.power j.meta p)
      ⊎ ((IsMissing i.power before p × IsStillShut i) ⊎ (IsMissing i.power j.meta p × New i))

  module _ (i : Disks) (y : ℕ) (said : LogState) (stands : Stands i y said) where
    out_by : (m : Meta) (batch : Batch) → IsOneOf m → ImageStandsFor j.start i m batch → (p : ℕ) → IsMissing i.power m p → out_disk i.power said.meta ≡ Some p
    out_by m batch one_of for p missing =
        let same = (Stands-same i y for.disk said for.said stands for.log.stands).1 in
        let is : said.meta ≡ m = ap (λ (o : LogState). o.meta) same ∙ for.meta in
        let back = λ (d : ℕ) (gone : IsMissing i.power m d). subst (λ (n : Meta). IsMissing i.power n d) (sym for.meta) gone in
        ap (λ (n : Meta). out_disk i.power n) is
        ∙ missing_out i.power m p (in_range m one_of) (λ d e a b. for.log.single d e (back d a) (back e b)) missing

    borne_out : KeepsSlotsAndLogs j i → LeftAside i → Either i → (p : ℕ) → IsBorne i p → out_disk i.power said.meta ≡ Some p
    borne_out kept aside (inl for) p (inl both) = out_by before [] (inl refl) for p both.0
    borne_out kept aside (inr for) p (inl both) = out_by j.meta j.batch (inr refl) for p both.1
    borne_out kept aside (inl for) p (inr (inl was)) = out_by before [] (inl refl) for p was.0
    borne_out kept aside (inr for) p (inr (inl was)) =
        let low = old_epoch i kept aside was.1 for.disk for.said for.log.stands.log_disk for.log.stands.says in
        let is : for.said.meta.epoch ≡ j.meta.epoch = ap (λ (m : Meta). m.epoch) for.meta in
        let next = begun.next.epoch in
        absurd (omega arith)
    borne_out kept aside e p (inr (inr now_is)) = out_by j.meta j.batch (inr refl) now_is.1 p now_is.0

  borne_by : (i k : Disks) → IsLeftByStop i k → ((x p : ℕ) → k.block x p ≡ i.block x p) → (IsLateImage j i → New k) → (p : ℕ) → IsTrueWitness j before i p → IsBorne k p
  borne_by i k left same late p (by_both a b) = inl (missing_left i k before p left a, missing_left i k j.meta p left b)
  borne_by i k left same late p (by_old a shut) = inr (inl (
    missing_left i k before p left a,
    λ x live here.
        let s = shut x live (left.present x here) in
        (ap is_open (same x 0) ∙ s.0, same x 1 ∙ s.1),
  ))
  borne_by i k left same late p (by_new b is) = inr (inr (missing_left i k j.meta p left b, late is))

  -- an image that the batch is laid on is so with a disk lost
  late_still : (i : Disks) (d : ℕ) → IsLeftByStop i (lose d i) → IsLateImage j i → IsLateImage j (lose d i)
  late_still i d left is = record {
    kept = left_kept j i (lose d i) is.kept left;
    sides = λ x live here. elim (is.sides x live (left.present x here)) [
      | inl opened ↦ inl (forth x here (open_with j) opened)
      | inr closed ↦ inr (forth x here (closed_over j.meta) closed)
    ];
    held = λ e p gets here far. is.held e p gets (left.present e here) far;
    done = λ x e p live here says gets there far. is.done x e p live (left.present x here) (says_of_lost i d x (closed_over j.meta) says) gets (left.present e there) far;
  }
    where
      forth : (x : ℕ) → IsPresent (lose d i) x → (o : LogState) → Says i x o → Says (lose d i) x o
      forth x here o says = says_forth i (lose d i) x o (lose_kept i d x (lost_apart i d x here)) says

  -- a place that is open with a disk lost was so before
  was_open : (i : Disks) (d p : ℕ) → is_open (stored_block (lose d i) 2 p) ≡ true → is_open (stored_block i 2 p) ≡ true
  was_open i d p opened = elim (cases_eq 2 d) [
    | inl is ↦ absurd (false≢true (sym zeroed_closed ∙ ap is_open (sym (stored_lost i d 2 p is)) ∙ opened))
    | inr apart ↦ ap is_open (sym (stored_kept i d 2 p apart)) ∙ opened
  ]

  -- so the witnesses of each image are true
  witness_images : (s : Disks) → ((i : Disks) → IsLeftByStop s i → KeepsSlotsAndLogs j i) → ((i : Disks) → IsLeftByStop s i → LeftAside i)
      → IsEachImage before j.meta Either s → (BeganTrue j before → HoldsWitnesses j before s) → IsEachImage before j.meta (KeepsWitnesses j.start before) s
  witness_images s kept aside images holds = record {
    whole = λ i image one began y said stands p low opened.
        let left = image_left s i image in
        borne_out i y said stands (kept i left) (aside i left) (images.whole i image one) p
        (borne_by i i (left_all i) (λ x q. refl) (λ late. late_whole i (aside i left) late one) p (holds began i left p low opened));
    lost = λ i d image one weak began y said stands p low opened.
        let left = image_left s i image in
        let left_too = lost_left s i d image in
        let again = lost_left i i d (image_of_synced i image.loose) in
        borne_out (lose d i) y said stands (kept (lose d i) left_too) (aside (lose d i) left_too) (images.lost i d image one weak) p
        (borne_by i (lose d i) again (λ x q. refl) (λ late. late_lost i (aside i left) late one d weak (aside (lose d i) left_too) (late_still i d again late)) p
        (holds began i left p low (was_open i d p opened)));
  }

  pub whole_images : (s : Disks) → HoldsWhole j s → (BeganTrue j before → HoldsWitnesses j before s) → IsOldOrNew j.start before j.meta j.batch s
  whole_images s w holds = elim w.either [
    | inl early ↦
        let images = early_images s early w.aside in
        record {
          images = images;
          weak = λ i d image one weak. let left = image_left s i image in early_weak i (w.aside i left) (early i left) one d weak;
          witnesses = witness_images s (λ i left. (early i left).kept) w.aside images holds;
        }
    | inr late ↦
        let images = either_images s (late_images s late w.aside) in
        record {
          images = images;
          weak = λ i d image one weak. let left = image_left s i image in late_weak i (w.aside i left) (late i left) one d weak;
          witnesses = witness_images s (λ i left. (late i left).kept) w.aside images holds;
        }
  ]

  -- the first stage holds at the start
  pub start_log : ((x : ℕ) → IsLiveLog j x → IsPresent j.start x → log_least ≤ j.start.size x) → LogStage j 0 j.start
  start_log large = record {
    core = record {
      beside = record {
        kept = record { present = λ d here. here; power = λ d here. refl; size = λ d here. refl; large = large };
        aside = record { log = λ y p log_disk is lt. record { holds = λ here. (begun.rest.synced y p here, refl) } };
      };
      meta = λ x live. record { holds = λ here. (begun.rest.synced x 1 here, refl) };
      shut = λ x live. record {
        holds = λ here.
            let enough_places = large x live here in
            (begun.rest.synced x 0 here, ap is_open (sym (stored_here j.start x 0 here (omega arith))) ∙ was_shut x live here);
      };
      logged = λ x lt live. absurd (omega arith);
      held = λ d p far. record { holds = λ here. (begun.rest.synced d p here, refl) };
    };
    synced = record { synced = λ d p. record { holds = λ here. (begun.rest.synced d p here, tt) } };
  }
    where
      was_shut : (x : ℕ) → IsLiveLog j x → IsPresent j.start x → is_open (stored_block j.start x 0) ≡ false
      was_shut x live here = elim (decide_some (named_out before.out) x) [
        | inl is ↦ joining_shut j before begun x live here is
        | inr not ↦ begun.rest.shut x live.0 here not
      ]

  pub first_stage : LogStage j 0 j.start → FirstStage j before j.start
  first_stage stage = record {
    stage = stage;
    setup = begun.next.setup;
    out = begun.next.out;
    single = begun.rest.log.single;
    old = λ began p low. elim (cases_Bool (is_open (stored_block j.start 2 p))) [
      | inl opened ↦ inr (out_missing j.start.power before p (before_in_range j before begun) (began p low opened))
      | inr shut ↦ inl (record { holds = λ here. (begun.rest.synced 2 p here, λ lt. ap is_open (sym (stored_here j.start 2 p here lt)) ∙ shut) })
    ];
  }

  -- the last stage is what a commit promises at its end
  module _ (s : Disks) (c : CloseStage j 2 s) where
    self_left : IsLeftByStop s s
    self_left = left_all s

    all_shut : AreLogGatesClosed s j.meta
    all_shut x low here not =
        let live : IsLiveLog j x = (low, λ e. not (sym begun.names ∙ e)) in
        let large = c.core.beside.kept.large x live here in
        ap is_open (stored_here s x 0 here (omega arith)) ∙ ((c.core.shut x low live).holds here).1

    all_synced : AreSynced s
    all_synced d p here = ((c.synced.synced d p).holds here).0

    whole : HoldsLate j s
    whole = closing_whole j begun.good 2 s c.core

    at_rest : IsOneMissing s.power before j.meta → IsAtRest s j.meta
    at_rest one =
        let late = closing_late j begun.good 2 s c.core s self_left in
        let for = late_whole s (whole.aside s self_left) late one in
        let in_array : named_out j.meta.out ≢ Some for.disk = λ e. for.log.standing_in (ap (λ (m : Meta). named_out m.out) for.meta ∙ e) in
        let closed : for.said.opened ≡ false = sym for.log.stands.says.gate ∙ all_shut for.disk for.log.stands.log_disk for.log.stands.says.present in_array in
        record {
          synced = all_synced;
          disk = for.disk;
          log = subst (λ (o : LogState). LogOk s for.disk o j.meta.writes) (closed_said s for.disk for.said j.meta for.log.stands.says closed for.meta) for.log;
          shut = all_shut;
        }

    pub is_committed : (BeganTrue j before → HoldsWitnesses j before s) → LeavesBorne j.start s (named_out j.meta.out) → IsCommitted j.start s before j.meta j.batch
    is_committed holds leaves =
        let late = closing_late j begun.good 2 s c.core in
        let images = late_images s late whole.aside in
        record {
          images = images;
          synced = all_synced;
          shut = all_shut;
          rest = at_rest;
          witnesses = witness_images s (λ i left. (late i left).kept) whole.aside (either_images s images) holds;
          borne = leaves;
        }
