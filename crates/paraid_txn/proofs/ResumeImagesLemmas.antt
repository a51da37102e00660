-- What an image stands for while an interrupted commit is ended.
use Rattle.std.specs.Prelude.{◌≡◌, ◌≢◌, ◌⊎◌, ℕ, ◌<◌, ◌≤◌, ◌==◌, ◌&&◌, ◌||◌, nat_lt, Bool, true, false, not, [], Some, Contains}
use Rattle.std.proofs.Common.{refl, sym, ◌∙◌, ap, subst, arith, inl, inr, zero, suc}
use Rattle.std.proofs.lemmas.Bool.{cases_Bool, cases_eq, false≢true, true≢false}
use Rattle.std.proofs.lemmas.Bool.Decides.{nat_tests}
use Rattle.paraid_base.specs.Log.{log_least}
use Rattle.paraid_rack.specs.declared.call.Power.{Power}
use Rattle.paraid_rack.specs.declared.call.Power.TheVariants.{Absent, Spinning}
use Rattle.paraid_rack.specs.Atoms.{IsLeftByStop}
use Rattle.paraid_rack.specs.Disks.{Disks, IsImage, IsPresent, is_present, lose}
use Rattle.paraid_rack.proofs.AtomsLemmas.{left_sure, at_use, image_left, lost_left, with_at_other, with_at_same}
use Rattle.paraid_record.specs.declared.meta.Meta.{Meta}
use Rattle.paraid_record.specs.declared.targets.Target.{Target}
use Rattle.paraid_record.specs.Range.{IsInRange}
use Rattle.paraid_image.specs.Rest.{AreLogGatesClosed, AreSynced}
use Rattle.paraid_txn.specs.Commit.{KeepsSlots, IsEachImage, ImageStandsFor}
use Rattle.paraid_image.specs.Out.{IsMissing, IsWeak, named_out, out_disk}
use Rattle.paraid_image.specs.Out.IsWeak.{out as out_weak}
use Rattle.paraid_txn.specs.Resume.{IsCatchUpImage, IsFallback, EndsResume, LeadsResume, ImageStandsForResumed, HoldsThroughResume}
use Rattle.paraid_image.specs.Sides.{Batch, LogState, Says, closed_over, is_open, stored_block, targets}
use Rattle.paraid_image.specs.Sound.{IsAhead, IsBatchInPlace, LogOk, Pairing}
use Rattle.paraid_image.specs.Sound.Pairing.{alike, first_ahead, second_ahead, first_done, second_done}
use Rattle.paraid_txn.specs.CommitStages.{CloseStage, KeepsSlotsAndLogs, IsLiveLog, IsSpelled, Job, IsLateImage, job_gone, job_named, open_with}
use Rattle.paraid_image.specs.Standing.{Stands, contents, overlaid_block, other_log, stands_before}
use Rattle.paraid_txn.proofs.CommitLemmas.{closed_said}
use Rattle.paraid_txn.proofs.WitnessLemmas.{AreWitnessesKept}
use Rattle.paraid_image.proofs.NeutralLemmas.{says_forth}
use Rattle.paraid_image.proofs.OpenLemmas.{greater_before}
use Rattle.paraid_image.proofs.OutLemmas.{missing_is_out, says_in_range, out_present}
use Rattle.paraid_image.proofs.SidesLemmas.{Says-same}
use Rattle.paraid_txn.proofs.SpokenLemmas.{IsBrought, after_epoch, aside_said, first_or_second, other_other, place_start, stands_alone, stands_over, stored_start}
use Rattle.paraid_txn.proofs.CommitImagesLemmas.{late_for, late_stands, log_in_order, new_brought, new_fresh, none_in_empty, present_place}
use Rattle.paraid_image.proofs.ContentsLemmas.{contents_here}
use Rattle.paraid_image.proofs.CallLemmas.{decide_some, out_named, says_of_lost}
use Rattle.paraid_txn.proofs.WholeLemmas.{closing_whole, stored_here}

abbrev pub IsSingle : Disks → Meta → Type 0
IsSingle i m = (d e : ℕ) → IsMissing i.power m d → IsMissing i.power m e → d ≡ e

-- How two sides are paired of which the first stands and is open, and the second is closed

same_not_first : (e : ℕ) → (nat_lt e e || (e == e && (not true || false))) ≡ false
same_not_first e = grind (arith, nat_tests)

same_first : (e : ℕ) → (nat_lt e e || (e == e && (not false || true))) ≡ true
same_first e = grind (arith, nat_tests)

done_not_first : (x : ℕ) (a b : LogState) → IsBatchInPlace a b → stands_before x a b ≡ true → ⊥
done_not_first zero a b p is =
    let e = ap (λ (m : Meta). m.epoch) p.meta in
    let at = subst (λ (n : ℕ). (nat_lt b.meta.epoch n || (n == b.meta.epoch && (not a.opened || b.opened))) ≡ true) e is in
    let on = subst (λ (o : Bool). (nat_lt b.meta.epoch b.meta.epoch || (b.meta.epoch == b.meta.epoch && (not o || b.opened))) ≡ true) p.opened at in
    let off = subst (λ (o : Bool). (nat_lt b.meta.epoch b.meta.epoch || (b.meta.epoch == b.meta.epoch && (not true || o))) ≡ true) p.closed on in
    true≢false (sym off ∙ same_not_first b.meta.epoch)
done_not_first (suc x) a b p is =
    let e = ap (λ (m : Meta). m.epoch) p.meta in
    let at = subst (λ (n : ℕ). not (nat_lt n b.meta.epoch || (b.meta.epoch == n && (not b.opened || a.opened))) ≡ true) e is in
    let on = subst (λ (o : Bool). not (nat_lt b.meta.epoch b.meta.epoch || (b.meta.epoch == b.meta.epoch && (not b.opened || o))) ≡ true) p.opened at in
    let off = subst (λ (o : Bool). not (nat_lt b.meta.epoch b.meta.epoch || (b.meta.epoch == b.meta.epoch && (not o || true))) ≡ true) p.closed on in
    false≢true (sym (ap not (same_first b.meta.epoch)) ∙ off)

-- log disks `x` and the other one say this at `s`, by which the log is in order
module _ (s : Disks) (x : ℕ) (a b : LogState) (k : ℕ) (log : LogOk s x a k) (says : Says s (other_log x) b) (out : named_out a.meta.out ≢ Some (other_log x)) where
  pub paired_here : Pairing a b ⊎ Pairing b a
  paired_here = elim (cases_eq x 0) [
    | inl first ↦
        let second : other_log x ≡ 1 = omega arith in
        inl (log.paired a b (subst (λ (z : ℕ). Says s z a) first log.stands.says) (subst (λ (z : ℕ). Says s z b) second says)
        (subst (λ (z : ℕ). out_disk s.power a.meta ≢ Some z) first here) (subst (λ (z : ℕ). out_disk s.power a.meta ≢ Some z) second there))
    | inr later ↦
        let low = log.stands.log_disk in
        let second : x ≡ 1 = omega arith in
        let first : other_log x ≡ 0 = omega arith in
        inr (log.paired b a (subst (λ (z : ℕ). Says s z b) first says) (subst (λ (z : ℕ). Says s z a) second log.stands.says)
        (subst (λ (z : ℕ). out_disk s.power a.meta ≢ Some z) first there) (subst (λ (z : ℕ). out_disk s.power a.meta ≢ Some z) second here))
  ]
    where
      here : out_disk s.power a.meta ≢ Some x
      here = out_present s.power a.meta x log.stands.says.present log.standing_in

      there : out_disk s.power a.meta ≢ Some (other_log x)
      there = out_present s.power a.meta (other_log x) says.present out

  first : stands_before x a b ≡ true
  first = log.stands.first b says

  -- the standing one open, the other one closed: it is a step ahead
  pub is_ahead : a.opened ≡ true → b.opened ≡ false → IsAhead a b
  is_ahead opened closed = elim paired_here [ inl p ↦ one p | inr p ↦ two p ]
    where
      no : {A : Type 0} (o : Bool) → o ≡ true → o ≡ false → A
      no o p q = absurd (true≢false (sym p ∙ q))

      one : Pairing a b → IsAhead a b
      one (alike e) = no b.opened (ap (λ (o : LogState). o.opened) (sym e) ∙ opened) closed
      one (first_ahead p) = p
      one (second_ahead p) = no b.opened p.opened closed
      one (first_done p) = absurd (done_not_first x a b p first)
      one (second_done p) = no b.opened p.opened closed

      two : Pairing b a → IsAhead a b
      two (alike e) = no b.opened (ap (λ (o : LogState). o.opened) e ∙ opened) closed
      two (first_ahead p) = no b.opened p.opened closed
      two (second_ahead p) = p
      two (first_done p) = no b.opened p.opened closed
      two (second_done p) = absurd (done_not_first x a b p first)

  -- the standing one closed: the other one says the same, or is open with its meta
  pub is_done : a.opened ≡ false → (b ≡ a) ⊎ IsBatchInPlace b a
  is_done closed = elim paired_here [ inl p ↦ one p | inr p ↦ two p ]
    where
      no : {A : Type 0} (o : Bool) → o ≡ true → o ≡ false → A
      no o p q = absurd (true≢false (sym p ∙ q))

      older : {A : Type 0} → IsAhead b a → A
      older p = let e = after_epoch x a b first in let n = p.epoch in absurd (omega arith)

      one : Pairing a b → (b ≡ a) ⊎ IsBatchInPlace b a
      one (alike e) = inl (sym e)
      one (first_ahead p) = no a.opened p.opened closed
      one (second_ahead p) = older p
      one (first_done p) = no a.opened p.opened closed
      one (second_done p) = inr p

      two : Pairing b a → (b ≡ a) ⊎ IsBatchInPlace b a
      two (alike e) = inl e
      two (first_ahead p) = older p
      two (second_ahead p) = no a.opened p.opened closed
      two (first_done p) = inr p
      two (second_done p) = no a.opened p.opened closed

-- both open: they say the same
module _ (s : Disks) (x : ℕ) (a b : LogState) (k : ℕ) (log : LogOk s x a k) (says : Says s (other_log x) b) (out : named_out a.meta.out ≢ Some (other_log x)) where
  pub is_alike : a.opened ≡ true → b.opened ≡ true → b ≡ a
  is_alike on_a on_b = elim (paired_here s x a b k log says out) [ inl p ↦ sym (one a b on_a on_b p) | inr p ↦ one b a on_b on_a p ]
    where
      one : (c d : LogState) → c.opened ≡ true → d.opened ≡ true → Pairing c d → c ≡ d
      one c d p q (alike e) = e
      one c d p q (first_ahead w) = absurd (true≢false (sym q ∙ w.closed))
      one c d p q (second_ahead w) = absurd (true≢false (sym p ∙ w.closed))
      one c d p q (first_done w) = absurd (true≢false (sym q ∙ w.closed))
      one c d p q (second_done w) = absurd (true≢false (sym p ∙ w.closed))

-- The log disk that stands is open

module _ (j : Job) (good : IsSpelled j) (names : job_named j ≡ named_out j.meta.out) (x : ℕ) (leads : LeadsResume j x) (log : LogOk j.start x (open_with j) j.meta.writes)
    (spins : (t : Target) → Contains (targets j.batch) t → job_gone j ≢ Some t.disk → IsPresent j.start t.disk → j.start.power t.disk ≡ Spinning) where
  abbrev y : ℕ
  y = other_log x

  abbrev new : LogState
  new = open_with j

  low : x < 2
  low = leads.live.0

  low_y : y < 2
  low_y = let l = leads.live.0 in omega arith

  enough : 3 ≤ j.meta.setup.geometry.disks
  enough = j.meta.setup.geometry.disks_low

  x_or_y : (z : ℕ) → z < 2 → z ≢ x → z ≡ y
  x_or_y z lz apart = let l = leads.live.0 in omega arith

  brought : IsBrought j
  brought = record {
    good = good;
    names = names;
    fresh_closed = log.fresh_closed;
    second = λ z o lz is says.
        let at = x_or_y z lz (λ e. leads.live.1 (is ∙ ap (λ (w : ℕ). Some w) e)) in
        subst (λ (w : ℕ). stands_before w new o ≡ true) (sym (ap other_log at ∙ other_other x low))
        (log.stands.first o (subst (λ (w : ℕ). Says j.start w o) at says));
    spins = spins;
  }

  module _ (i : Disks) (kept : KeepsSlotsAndLogs j i) (aside : (z p : ℕ) → z < 2 → job_named j ≡ Some z → p < log_least → IsPresent i z → i.block z p ≡ j.start.block z p) (single : IsSingle i j.meta) where
    x_missing : is_present (i.power x) ≡ false → IsMissing i.power j.meta x
    x_missing gone = record { disk = (let n = enough in let l = leads.live.0 in omega arith); is = inl gone }

    -- without it the other one is there and live
    y_there : is_present (i.power x) ≡ false → IsPresent i y × IsLiveLog j y
    y_there gone = (here, (low_y, λ is. apart (single x y (x_missing gone) (record { disk = y_disk; is = inr (sym names ∙ is) }))))
      where
        apart : x ≢ y
        apart e = let l = leads.live.0 in absurd (omega arith)

        y_disk : y < j.meta.setup.geometry.disks
        y_disk = let n = enough in let l = low_y in omega arith

        here : IsPresent i y
        here = elim (cases_Bool (is_present (i.power y))) [
          | inl is ↦ is
          | inr off ↦ absurd (apart (single x y (x_missing gone) (record { disk = y_disk; is = inl off })))
        ]

    -- where a live log disk stands that is open with the batch, and no target has been touched
    for_new : (P : LogState → Type 0) → ((a b : LogState) → P a → P b → Pairing a b) → ((z : ℕ) → IsLiveLog j z → IsPresent i z → (o : LogState) × Says i z o × P o)
        → ((d p : ℕ) → IsPresent i d → log_least ≤ p → i.block d p ≡ j.start.block d p)
        → (z : ℕ) (said : LogState) → Stands i z said → said ≡ new → IsLiveLog j z → ImageStandsFor j.start i j.meta j.batch
    for_new P pairs voices held z said s is live = record {
      kept = record { present = kept.present; power = kept.power; size = kept.size };
      disk = z;
      said = said;
      log = log_in_order j i kept P pairs z said j.meta s (ap (λ (o : LogState). o.meta) is) good.meta.in_range (λ e. live.1 (names ∙ e))
          (λ w l here not. voices w l here)
          (λ w lw name here out. absurd (out (sym names ∙ name))) single (new_fresh j brought i kept aside) (λ t c. new_brought j brought i kept aside said t is c);
      meta = ap (λ (o : LogState). o.meta) is;
      blocks = λ d p out there far.
          let here = present_place i d p there in
          ap (λ (o : LogState). contents i o.batch d p) is ∙ contents_here i j.batch d p far there ∙ ap (overlaid_block j.batch d p) (held d p here far)
          ∙ sym (contents_here j.start j.batch d p far (place_start j i kept d p there here));
    }

    -- what the other log disk says comes second
    module _ (caught : IsCatchUpImage j x i) (P : LogState → Type 0) (pairs : (a b : LogState) → P a → P b → Pairing a b) (is_new : P new)
        (y_says : IsLiveLog j y → IsPresent i y → (o : LogState) × Says i y o × P o × ((stands_before x new o ≡ true) ⊎ (o ≡ new))) where
      voices : (z : ℕ) → IsLiveLog j z → IsPresent i z → (o : LogState) × Says i z o × P o
      voices z live here = elim (cases_eq z x) [
        | inl is ↦ (new, subst (λ (w : ℕ). Says i w new) (sym is) (caught.first (subst (IsPresent i) is here)), is_new)
        | inr apart ↦
            let at = x_or_y z live.0 apart in
            let v = y_says (subst (IsLiveLog j) at live) (subst (IsPresent i) at here) in
            (v.0, subst (λ (w : ℕ). Says i w v.0) (sym at) v.1, v.2)
      ]

      stands_x : IsPresent i x → (z : ℕ) × (said : LogState) × Stands i z said × (said ≡ new) × IsLiveLog j z
      stands_x here = elim (cases_Bool (is_present (i.power y))) [
        | inr none ↦ (x, new, stands_alone i x new low (caught.first here) none, refl, leads.live)
        | inl there ↦ elim (decide_some (job_named j) y) [
          | inl is ↦ (
            x,
            new,
            record {
              log_disk = low;
              says = caught.first here;
              first = λ o says. log.stands.first o (aside_said j i kept y says.present (λ p lt. aside y p low_y is lt says.present) o says);
            },
            refl,
            leads.live,
          )
          | inr not ↦
              let v = y_says (low_y, not) there in
              elim v.3 [
                | inl before ↦ (x, new, stands_over i x new v.0 low (caught.first here) v.1 before, refl, leads.live)
                | inr same ↦ elim (first_or_second x new v.0 low) [
                  | inl before ↦ (x, new, stands_over i x new v.0 low (caught.first here) v.1 before, refl, leads.live)
                  | inr after ↦ (
                    y,
                    v.0,
                    stands_over i y v.0 new low_y v.1 (subst (λ (w : ℕ). Says i w new) (sym (other_other x low)) (caught.first here)) after,
                    same,
                    (low_y, not),
                  )
                ]
              ]
        ]
      ]

      with_x : IsPresent i x → ImageStandsFor j.start i j.meta j.batch
      with_x here = let s = stands_x here in for_new P pairs voices caught.held s.0 s.1 s.2 s.3 s.4

      -- without the log disk that stood, but with the other one open too
      without_x : is_present (i.power x) ≡ false → Says i y new → ImageStandsFor j.start i j.meta j.batch
      without_x gone says =
          let there = y_there gone in
          let none : is_present (i.power (other_log y)) ≡ false = ap (λ (w : ℕ). is_present (i.power w)) (other_other x low) ∙ gone in
          for_new P pairs voices caught.held y new (stands_alone i y new low_y says none) refl there.1

  -- what the other log disk said at the start, where its gate was closed
  module _ (there : IsPresent j.start y) (live_y : IsLiveLog j y) (closed : is_open (j.start.block y 0) ≡ false) where
    old_is : (o : LogState) × Says j.start y o × (o.opened ≡ false) × IsAhead new o
    old_is =
        let out : named_out j.meta.out ≢ Some y = λ e. live_y.1 (names ∙ e) in
        let f = log.formed y low_y there (out_present j.start.power j.meta y there out) in
        let large = leads.large y live_y there in
        let shut : f.0.opened ≡ false = sym f.1.gate ∙ ap is_open (stored_here j.start y 0 there (omega arith)) ∙ closed in
        (f.0, f.1, shut, is_ahead j.start x new f.0 j.meta.writes log f.1 out refl shut)

    abbrev old : LogState
    old = old_is.0

    -- it says so as long as its gate is closed over that meta
    still_old : (i : Disks) → KeepsSlotsAndLogs j i → IsPresent i y → is_open (i.block y 0) ≡ false → i.block y 1 ≡ j.start.block y 1 → Says i y old
    still_old i kept here shut same =
        let large = kept.large y live_y here in
        let before = leads.large y live_y there in
        says_forth j.start i y old (record {
          power = kept.power y here;
          gate = ap is_open (stored_here i y 0 here (omega arith)) ∙ shut ∙ sym closed ∙ ap is_open (sym (stored_here j.start y 0 there (omega arith)));
          meta = λ _. stored_start j i kept y 1 here same;
          rest = λ opened said _ q lo hi. absurd (true≢false (sym opened ∙ ap is_open (stored_here j.start y 0 there (omega arith)) ∙ closed));
        }) old_is.1

    abbrev IsEarly : LogState → Type 0
    IsEarly o = (o ≡ new) ⊎ (o ≡ old)

    early_pair : (a b : LogState) → IsEarly a → IsEarly b → Pairing a b
    early_pair a b (inl p) (inl q) = alike (p ∙ sym q)
    early_pair a b (inl p) (inr q) = first_ahead (subst (λ (v : LogState). IsAhead a v) (sym q) (subst (λ (v : LogState). IsAhead v old) (sym p) old_is.3))
    early_pair a b (inr p) (inl q) = second_ahead (subst (λ (v : LogState). IsAhead b v) (sym p) (subst (λ (v : LogState). IsAhead v old) (sym q) old_is.3))
    early_pair a b (inr p) (inr q) = alike (p ∙ sym q)

    -- without the log disk that stood it stands for what it stood for without it
    module _ (i : Disks) (kept : KeepsSlotsAndLogs j i) (single : IsSingle i j.meta) (held : (d p : ℕ) → IsPresent i d → log_least ≤ p → i.block d p ≡ j.start.block d p)
        (gone : is_present (i.power x) ≡ false) (says : Says i y old) where
      x_gone : is_present ((lose x j.start).power x) ≡ false
      x_gone = ap is_present (with_at_same j.start.power x Absent x refl)

      shut_old : old ≡ closed_over old.meta
      shut_old = closed_said j.start y old old.meta old_is.1 old_is.2 refl

      module _ (k : ℕ) (ok : LogOk (lose x j.start) y old k) where
        disks_same : old.meta.setup.geometry.disks ≡ j.meta.setup.geometry.disks
        disks_same = ap (λ s. s.geometry.disks) (sym old_is.3.setup)

        x_there : IsMissing (lose x j.start).power old.meta x
        x_there = record { disk = (let n = enough in let l = leads.live.0 in let s = disks_same in omega arith); is = inl x_gone }

        missing_x : (e : ℕ) → IsMissing i.power old.meta e → e ≡ x
        missing_x e m = elim m.is [
          | inr name ↦ ok.single e x (record { disk = m.disk; is = inr name }) x_there
          | inl off ↦ single e x (record { disk = (let s = disks_same in let l = m.disk in omega arith); is = inl off })
              (record { disk = (let n = enough in let l = leads.live.0 in omega arith); is = inl gone })
        ]

        single_old : IsSingle i old.meta
        single_old d e p q = missing_x d p ∙ sym (missing_x e q)

        only_y : (z : ℕ) → z < 2 → IsPresent i z → z ≡ y
        only_y z lz here = x_or_y z lz (λ e. false≢true (sym gone ∙ ap (λ (w : ℕ). is_present (i.power w)) (sym e) ∙ here))

        alone : is_present (i.power (other_log y)) ≡ false
        alone = ap (λ (w : ℕ). is_present (i.power w)) (other_other x low) ∙ gone

        for_old : ImageStandsFor j.start i old.meta old.batch
        for_old = record {
          kept = record { present = kept.present; power = kept.power; size = kept.size };
          disk = y;
          said = old;
          log = record {
            stands = stands_alone i y old low_y says alone;
            writes = refl;
            single = single_old;
            standing_in = ok.standing_in;
            fresh_closed = λ d rebuilt f ld. absurd (ok.standing_in (ap named_out f.is ∙ ap (λ (w : ℕ). Some w) (only_y d ld f.present)));
            targets_spin = λ t c out. absurd (none_in_empty t (subst (λ (o : LogState). Contains (targets o.batch) t) shut_old c));
            formed = λ z lz here out. (old, subst (λ (w : ℕ). Says i w old) (sym (only_y z lz here)) says);
            paired = λ a b p q out0 out1.
                let zero_is = only_y 0 (omega arith) p.present in
                let one_is = only_y 1 (omega arith) q.present in
                absurd (omega arith);
          };
          meta = refl;
          blocks = λ d p out there far.
              let here = present_place i d p there in
              ap (λ (o : LogState). contents i o.batch d p) shut_old ∙ contents_here i [] d p far there ∙ held d p here far
              ∙ sym (contents_here j.start [] d p far (place_start j i kept d p there here)) ∙ ap (λ (o : LogState). contents j.start o.batch d p) (sym shut_old);
        }

      fallback : IsFallback j.start x i
      fallback = record {
        gone = gone;
        stands = λ z o k ok.
            let apart : z ≢ x = λ e. false≢true (sym (ap is_present (with_at_same j.start.power x Absent z e)) ∙ ok.stands.says.present) in
            let at = x_or_y z ok.stands.log_disk apart in
            let is : old ≡ o = Says-same j.start y old o old_is.1 (subst (λ (w : ℕ). Says j.start w o) at (says_of_lost j.start x z o ok.stands.says)) in
            subst (λ (v : LogState). ImageStandsFor j.start i v.meta v.batch) is
            (for_old k (subst (λ (v : LogState). LogOk (lose x j.start) y v k) (sym is) (subst (λ (w : ℕ). LogOk (lose x j.start) w o k) at ok)));
        meta = λ z o p stands p_says.
            let at = x_or_y z stands.log_disk (λ e. false≢true (sym gone ∙ ap (λ (w : ℕ). is_present (i.power w)) (sym e) ∙ stands.says.present)) in
            ap (λ (v : LogState). v.meta) (Says-same i y o old (subst (λ (w : ℕ). Says i w o) at stands.says) says ∙ Says-same j.start y old p old_is.1 p_says);
      }

  -- before the targets are touched
  caught_stands : (i : Disks) → (caught : IsCatchUpImage j x i) → ((z p : ℕ) → z < 2 → job_named j ≡ Some z → p < log_least → IsPresent i z → i.block z p ≡ j.start.block z p)
      → IsSingle i j.meta → ImageStandsFor j.start i j.meta j.batch ⊎ IsFallback j.start x i
  caught_stands i caught aside single = elim (cases_Bool (is_present (i.power x))) [
    | inl here ↦ inl (elim (cases_Bool (is_present (i.power y))) [
      | inr none ↦ with_x i caught.kept aside single caught IsNew new_pair refl (λ l there. absurd (false≢true (sym none ∙ there))) here
      | inl there ↦ elim (decide_some (job_named j) y) [
        | inl is ↦ with_x i caught.kept aside single caught IsNew new_pair refl (λ l there. absurd (l.1 is)) here
        | inr not ↦ elim (caught.other (low_y, not) there) [
          | inr says ↦ with_x i caught.kept aside single caught IsNew new_pair refl (λ l there. (new, says, refl, inr refl)) here
          | inl shut ↦
              let was = caught.kept.present y there in
              let o = old_is was (low_y, not) shut.1 in
              with_x i caught.kept aside single caught (IsEarly was (low_y, not) shut.1) (early_pair was (low_y, not) shut.1) (inl refl)
              (λ l there_too. (
                o.0,
                still_old was (low_y, not) shut.1 i caught.kept there shut.0 shut.2,
                inr refl,
                inl (greater_before x new o.0 (let e = o.3.epoch in omega arith)),
              )) here
        ]
      ]
    ])
    | inr gone ↦
        let there = y_there i caught.kept aside single gone in
        elim (caught.other there.1 there.0) [
          | inr says ↦ inl (without_x i caught.kept aside single caught IsNew new_pair refl (λ l t. (new, says, refl, inr refl)) gone says)
          | inl shut ↦
              let was = caught.kept.present y there.0 in
              inr (fallback was there.1 shut.1 i caught.kept single caught.held gone (still_old was there.1 shut.1 i caught.kept there.0 shut.0 shut.2))
        ]
  ]
    where
      IsNew : LogState → Type 0
      IsNew o = o ≡ new

      new_pair : (a b : LogState) → a ≡ new → b ≡ new → Pairing a b
      new_pair a b p q = alike (p ∙ sym q)

  -- and from then on
  late_stands_for : (i : Disks) → IsLateImage j i → ((z p : ℕ) → z < 2 → job_named j ≡ Some z → p < log_least → IsPresent i z → i.block z p ≡ j.start.block z p)
      → IsSingle i j.meta → ImageStandsFor j.start i j.meta j.batch
  late_stands_for i late aside single = elim (cases_Bool (is_present (i.power x))) [
    | inl here ↦ by x leads.live here
    | inr gone ↦ let there = y_there i late.kept aside single gone in by y there.1 there.0
  ]
    where
      by : (z : ℕ) → IsLiveLog j z → IsPresent i z → ImageStandsFor j.start i j.meta j.batch
      by z live here =
          let s = late_stands j brought i late.kept aside late z live here in
          late_for j brought i late.kept aside late s.0 s.1 s.2 s.3 s.4 single

  -- no log disk says a new meta
  abbrev HasMeta : Meta → Type 0
  HasMeta m = (z : ℕ) × (p : LogState) × (z < 2) × Says j.start z p × (m ≡ p.meta)

  metas_by : (i : Disks) → KeepsSlotsAndLogs j i → ((z p : ℕ) → z < 2 → job_named j ≡ Some z → p < log_least → IsPresent i z → i.block z p ≡ j.start.block z p)
      → ((z : ℕ) (o : LogState) → IsLiveLog j z → Says i z o → HasMeta o.meta) → (z : ℕ) (o : LogState) → z < 2 → Says i z o → HasMeta o.meta
  metas_by i kept aside lives z o lz says = elim (decide_some (job_named j) z) [
    | inl is ↦ (z, o, lz, aside_said j i kept z says.present (λ p lt. aside z p lz is lt says.present) o says, refl)
    | inr not ↦ lives z o (lz, not) says
  ]

  new_meta : (i : Disks) (z : ℕ) (o v : LogState) → Says i z o → Says i z v → v.meta ≡ j.meta → HasMeta o.meta
  new_meta i z o v says there is = (x, new, low, log.stands.says, ap (λ (u : LogState). u.meta) (Says-same i z o v says there) ∙ is)

  caught_metas : (i : Disks) → IsCatchUpImage j x i → (z : ℕ) (o : LogState) → IsLiveLog j z → Says i z o → HasMeta o.meta
  caught_metas i caught z o live says = elim (cases_eq z x) [
    | inl is ↦ new_meta i z o new says (subst (λ (w : ℕ). Says i w new) (sym is) (caught.first (subst (IsPresent i) is says.present))) refl
    | inr apart ↦
        let at = x_or_y z live.0 apart in
        let live_y = subst (IsLiveLog j) at live in
        let there = subst (IsPresent i) at says.present in
        elim (caught.other live_y there) [
          | inr opened ↦ new_meta i z o new says (subst (λ (w : ℕ). Says i w new) (sym at) opened) refl
          | inl shut ↦
              let was = caught.kept.present y there in
              let v = old_is was live_y shut.1 in
              let now_says = still_old was live_y shut.1 i caught.kept there shut.0 shut.2 in
              (y, v.0, low_y, v.1, ap (λ (u : LogState). u.meta) (Says-same i z o v.0 says (subst (λ (w : ℕ). Says i w v.0) (sym at) now_says)))
        ]
  ]

  late_metas : (i : Disks) → IsLateImage j i → (z : ℕ) (o : LogState) → IsLiveLog j z → Says i z o → HasMeta o.meta
  late_metas i late z o live says = elim (late.sides z live says.present) [
    | inl opened ↦ new_meta i z o new says opened refl
    | inr shut ↦ new_meta i z o (closed_over j.meta) says shut refl
  ]

  pub resuming_each : (s : Disks) → HoldsThroughResume j x s → (i : Disks) → IsLeftByStop s i → IsSingle i j.meta → ImageStandsFor j.start i j.meta j.batch ⊎ IsFallback j.start x i
  resuming_each s r i left single = elim r.either [
    | inl caught ↦ caught_stands i (caught i left) (r.aside i left) single
    | inr late ↦ inl (late_stands_for i (late i left) (r.aside i left) single)
  ]

  pub resuming_metas : (s : Disks) → HoldsThroughResume j x s → (i : Disks) → IsLeftByStop s i → (z : ℕ) (o : LogState) → z < 2 → Says i z o → HasMeta o.meta
  resuming_metas s r i left = elim r.either [
    | inl caught ↦ metas_by i (caught i left).kept (r.aside i left) (caught_metas i (caught i left))
    | inr late ↦ metas_by i (late i left).kept (r.aside i left) (late_metas i (late i left))
  ]

  pub resuming_keeps : (s : Disks) → HoldsThroughResume j x s → (i : Disks) → IsLeftByStop s i → KeepsSlots j.start i
  resuming_keeps s r i left = elim r.either [
    | inl caught ↦ let k = (caught i left).kept in record { present = k.present; power = k.power; size = k.size }
    | inr late ↦ let k = (late i left).kept in record { present = k.present; power = k.power; size = k.size }
  ]

  -- at the end
  module _ (s : Disks) (c : CloseStage j 2 s) where
    self_left : IsLeftByStop s s
    self_left = record { present = λ d here. here; power = λ d here. refl; size = λ d here. refl; block = λ d p synced. refl }

    all_shut : AreLogGatesClosed s j.meta
    all_shut z lz here not =
        let live : IsLiveLog j z = (lz, λ e. not (sym names ∙ e)) in
        let large = c.core.beside.kept.large z live here in
        ap is_open (stored_here s z 0 here (omega arith)) ∙ ((c.core.shut z lz live).holds here).1

    all_synced : AreSynced s
    all_synced d p here = ((c.synced.synced d p).holds here).0

    -- the batch is laid
    pub open_stands : IsSingle s j.meta → ImageStandsFor j.start s j.meta j.batch
    open_stands single =
        let late = closing_whole j good 2 s c.core in
        late_stands_for s (late.late s self_left) (late.aside s self_left) single

    pub open_ends : EndsResume s j.meta
    open_ends = record {
      synced = all_synced;
      shut = all_shut;
      rest = λ one.
          let for = open_stands (λ d e p q. one.one d e (inl p) (inl q)) in
          let in_array : named_out j.meta.out ≢ Some for.disk = λ e. for.log.standing_in (ap (λ (m : Meta). named_out m.out) for.meta ∙ e) in
          let closed : for.said.opened ≡ false = sym for.log.stands.says.gate ∙ all_shut for.disk for.log.stands.log_disk for.log.stands.says.present in_array in
          record {
            synced = all_synced;
            disk = for.disk;
            log = subst (λ (o : LogState). LogOk s for.disk o j.meta.writes) (closed_said s for.disk for.said j.meta for.log.stands.says closed for.meta) for.log;
            shut = all_shut;
          };
    }

-- From each image to each that a stop leaves, with a disk lost

module _ (s0 : Disks) (x : ℕ) (low : x < 2) (m : Meta) (batch : Batch) (range : IsInRange m) (s : Disks)
    (each : (i : Disks) → IsLeftByStop s i → IsSingle i m → ImageStandsFor s0 i m batch ⊎ IsFallback s0 x i)
    (metas : (i : Disks) → IsLeftByStop s i → (z : ℕ) (o : LogState) → z < 2 → Says i z o → (w : ℕ) × (p : LogState) × (w < 2) × Says s0 w p × (o.meta ≡ p.meta))
    (keeps : (i : Disks) → IsLeftByStop s i → KeepsSlots s0 i) (witnesses : AreWitnessesKept s0 s) where
  abbrev Meant : Disks → Type 0
  Meant i = ImageStandsFor s0 i m batch ⊎ IsFallback s0 x i

  module _ (i : Disks) (d : ℕ) (image : IsImage s i) (single : IsSingle i m) (weak : (w : ℕ) → IsWeak i w → w ≡ d) where
    -- where it stands for this meta, the disk that is lost is the only one that is missing
    single_lost : ImageStandsFor s0 i m batch → IsSingle (lose d i) m
    single_lost for e f p q = missing_d e p ∙ sym (missing_d f q)
      where
        weak_is : (e : ℕ) → out_disk i.power m ≡ Some e → e ≡ d
        weak_is e is = weak e (out_weak for.disk for.said for.log.stands (ap (λ (n : Meta). out_disk i.power n) for.meta ∙ is))

        missing_d : (e : ℕ) → IsMissing (lose d i).power m e → e ≡ d
        missing_d e missing = elim missing.is [
          | inr name ↦ weak_is e (out_named i.power m e name)
          | inl gone ↦ at_use (λ (p : Power). is_present p ≡ false) (e ≡ d) i.power d Absent e (λ same now. same)
              (λ apart now. weak_is e (missing_is_out i.power m e range single (record { disk = missing.disk; is = inl now }) now)) gone
        ]

    -- where the log disk that stood was lost before, it is the only one
    single_again : is_present (i.power x) ≡ false → d ≡ x → IsSingle (lose d i) m
    single_again x_gone is e f p q = missing_x e p ∙ sym (missing_x f q)
      where
        x_is : IsMissing i.power m x
        x_is = record { disk = (let n = m.setup.geometry.disks_low in omega arith); is = inl x_gone }

        missing_x : (e : ℕ) → IsMissing (lose d i).power m e → e ≡ x
        missing_x e missing = elim missing.is [
          | inr name ↦ single e x (record { disk = missing.disk; is = inr name }) x_is
          | inl gone ↦ at_use (λ (p : Power). is_present p ≡ false) (e ≡ x) i.power d Absent e (λ same now. same ∙ is)
              (λ apart now. single e x (record { disk = missing.disk; is = inl now }) x_is) gone
        ]

    meant_lost : Meant i → Meant (lose d i)
    meant_lost (inl for) = each (lose d i) (lost_left s i d image) (single_lost for)
    meant_lost (inr f) = elim (cases_eq d x) [
      | inl is ↦ each (lose d i) (lost_left s i d image) (single_again f.gone is)
      | inr apart ↦ inr (record {
        gone = ap is_present (with_at_other i.power d Absent x (λ e. apart (sym e))) ∙ f.gone;
        stands = λ z o k ok.
            let for = f.stands z o k ok in
            let meta_range = says_in_range for.said.opened (stored_block i for.disk) for.said.meta for.said.batch for.log.stands.says.log in
            let n = for.said.meta.setup.geometry.disks_low in
            let out = missing_is_out i.power for.said.meta x meta_range for.log.single (record { disk = omega arith; is = inl f.gone }) f.gone in
            absurd (apart (sym (weak x (out_weak for.disk for.said for.log.stands out))));
        meta = λ z o p stands p_says.
            let says = says_of_lost i d z o stands.says in
            let x_or : z ≢ x = λ e. false≢true (sym f.gone ∙ ap (λ (w : ℕ). is_present (i.power w)) (sym e) ∙ says.present) in
            let none : is_present (i.power (other_log z)) ≡ false = (let e : other_log z ≡ x = (let l = stands.log_disk in omega arith) in ap (λ (w : ℕ). is_present (i.power w)) e ∙ f.gone) in
            f.meta z o p (stands_alone i z o stands.log_disk says none) p_says;
      })
    ]

  pub meant_images : (said : LogState) → said.meta ≡ m → said.batch ≡ batch → IsEachImage m m (ImageStandsForResumed s0 x said) s
  meant_images said is_m is_b = record {
    whole = λ i image one.
        let left = image_left s i image in
        record {
          stands = turn i (each i left (λ d e p q. one.one d e (inl p) (inl q)));
          metas = λ z o lz says. metas i left z o lz says;
          kept = keeps i left;
          witnesses = λ p lp here. left_sure (witnesses p lp) left here;
        };
    lost = λ i d image one weak.
        let left = image_left s i image in
        let single : IsSingle i m = λ d e p q. one.one d e (inl p) (inl q) in
        record {
          stands = turn (lose d i) (meant_lost i d image single weak (each i left single));
          metas = λ z o lz says. metas (lose d i) (lost_left s i d image) z o lz says;
          kept = keeps (lose d i) (lost_left s i d image);
          witnesses = λ p lp here. left_sure (witnesses p lp) (lost_left s i d image) here;
        };
  }
    where
      turn : (i : Disks) → Meant i → ImageStandsFor s0 i said.meta said.batch ⊎ IsFallback s0 x i
      turn i (inr f) = inr f
      turn i (inl for) = inl (subst (λ (b : Batch). ImageStandsFor s0 i said.meta b) (sym is_b) (subst (λ (n : Meta). ImageStandsFor s0 i n batch) (sym is_m) for))
