-- What an image stands for while a commit goes on.
use Rattle.std.specs.Prelude.{◌≡◌, ◌≢◌, ◌⊎◌, ℕ, ◌<◌, ◌≤◌, ◌==◌, ◌&&◌, ◌||◌, nat_lt, Bool, true, false, not, List, [], None, Some, Contains, length, slice_index_or}
use Rattle.std.proofs.Common.{refl, sym, ◌∙◌, ap, subst, arith, inl, inr, zero, suc}
use Rattle.std.proofs.lemmas.Bool.{cases_Bool, false≢true}
use Rattle.paraid_base.specs.declared.state.Out.{Out}
use Rattle.paraid_base.specs.declared.state.Out.TheVariants.{No, Gone, Fresh}
use Rattle.paraid_base.specs.Log.{log_least}
use Rattle.paraid_rack.specs.declared.call.Power.TheVariants.{Spinning}
use Rattle.paraid_rack.specs.Disks.{Disks, IsPresent, is_present}
use Rattle.paraid_record.specs.declared.meta.Meta.{Meta}
use Rattle.paraid_record.specs.declared.targets.Target.{Target}
use Rattle.paraid_record.specs.Range.{IsInRange}
use Rattle.paraid_record.specs.Targets.{IsTargetInRange}
use Rattle.paraid_txn.specs.Commit.{ImageStandsFor, gone_out}
use Rattle.paraid_image.specs.Out.{IsMissing, named_out, out_disk}
use Rattle.paraid_image.specs.Sides.{Batch, LogState, Says, closed_over, has_place, is_open, stored_block, targets}
use Rattle.paraid_image.specs.Sound.{IsAhead, IsBatchInPlace, IsFresh, LogOk, Pairing}
use Rattle.paraid_image.specs.Sound.Pairing.{alike, first_ahead, second_ahead, first_done, second_done}
use Rattle.paraid_txn.specs.CommitStages.{IsEarlyImage, KeepsSlotsAndLogs, IsLiveLog, Job, IsLateImage, job_gone, job_named, open_with}
use Rattle.paraid_image.specs.Standing.{Stands, contents, overlaid_block, other_log, stands_before}
use Rattle.paraid_image.proofs.OpenLemmas.{greater_before}
use Rattle.paraid_image.proofs.OutLemmas.{missing_is_out}
use Rattle.paraid_image.proofs.SidesLemmas.{Says-same}
use Rattle.paraid_txn.proofs.SpokenLemmas.{IsBegun, IsBrought, after_epoch, aside_said, aside_says, before_in_range, begun_brought, first_or_second, joining_second, live_says_old, other_other, place_start, stands_alone, stands_over, start_epoch, start_says, start_second, stored_start}
use Rattle.paraid_image.proofs.CallLemmas.{decide_some, out_named}
use Rattle.paraid_txn.proofs.WholeLemmas.{stored_here}
use Rattle.paraid_image.proofs.ContentsLemmas.{contents_here}

pub present_place : (i : Disks) (d p : ℕ) → has_place i d p ≡ true → IsPresent i d
present_place i d p there = split (is_present (i.power d)) refl there
  where
    split : (b : Bool) → is_present (i.power d) ≡ b → (b && nat_lt p (i.size d)) ≡ true → is_present (i.power d) ≡ true
    split true is h = is
    split false is h = absurd (false≢true h)

pub gone_named : (o : Out) (d : ℕ) → gone_out o ≡ Some d → named_out o ≡ Some d
gone_named No d is = cc
gone_named (Gone e) d is = is
gone_named (Fresh e rebuilt) d is = cc

pub none_in_empty : (t : Target) → Contains {X = Target} [] t → ⊥
none_in_empty t c = let lt : c.0 < 0 = c.1 in omega arith

pub all_contained : {X : Type 0} (P : X → Type 0) (xs : List X) (x : X) → ((k : ℕ) (d : X) → k < length xs → P (slice_index_or xs k d)) → Contains xs x → P x
all_contained P xs x all c = subst P c.2 (all c.0 x c.1)

-- a closed gate comes before the open one in place of it
more_before : (a b c : Bool) → (a || (b && c)) ≡ true → (a || (b && true)) ≡ true
more_before true b c h = refl
more_before false true c h = refl
more_before false false c h = h

less_before : (a b c : Bool) → not (a || (b && (c || true))) ≡ true → not (a || (b && (c || false))) ≡ true
less_before true b c h = h
less_before false false c h = refl
less_before false true true h = h
less_before false true false h = absurd (false≢true h)

shut_before : (x : ℕ) (m : Meta) (batch : Batch) (o : LogState) → stands_before x (record { opened = true; meta = m; batch = batch }) o ≡ true → stands_before x (closed_over m) o ≡ true
shut_before zero m batch o is = more_before (nat_lt o.meta.epoch m.epoch) (m.epoch == o.meta.epoch) o.opened is
shut_before (suc x) m batch o is = less_before (nat_lt m.epoch o.meta.epoch) (o.meta.epoch == m.epoch) (not o.opened) is

-- By what a log disk says the log is in order.
module _ (j : Job) (i : Disks) (kept : KeepsSlotsAndLogs j i)
    (P : LogState → Type 0) (pairs : (a b : LogState) → P a → P b → Pairing a b)
    (z : ℕ) (said : LogState) (m : Meta) (stands : Stands i z said) (is_meta : said.meta ≡ m)
    (range : IsInRange m) (in_array : named_out m.out ≢ Some z)
    (live_says : (x : ℕ) → IsLiveLog j x → IsPresent i x → named_out m.out ≢ Some x → (o : LogState) × Says i x o × P o)
    (aside_says_too : (y : ℕ) → y < 2 → job_named j ≡ Some y → IsPresent i y → named_out m.out ≢ Some y → (o : LogState) × Says i y o × P o)
    (single : (d e : ℕ) → IsMissing i.power m d → IsMissing i.power m e → d ≡ e)
    (fresh : (d rebuilt : ℕ) → IsFresh i.power m d rebuilt → d < 2 → is_open (stored_block i d 0) ≡ false)
    (brought : (t : Target) → Contains (targets said.batch) t → IsTargetInRange m.setup.geometry t
    × (named_out m.out ≢ Some t.disk → IsPresent j.start t.disk → j.start.power t.disk ≡ Spinning)) where
  voice : (y : ℕ) → y < 2 → IsPresent i y → out_disk i.power m ≢ Some y → (o : LogState) × Says i y o × P o
  voice y low here not = elim (decide_some (job_named j) y) [
    | inr live ↦ live_says y (low, live) here (λ e. not (out_named i.power m y e))
    | inl is ↦ aside_says_too y low is here (λ e. not (out_named i.power m y e))
  ]

  spins : (t : Target) → Contains (targets said.batch) t → out_disk i.power m ≢ Some t.disk → i.power t.disk ≡ Spinning
  spins t c not =
      let b = brought t c in
      elim (cases_Bool (is_present (i.power t.disk))) [
        | inl here ↦ kept.power t.disk here ∙ b.1 (λ e. not (out_named i.power m t.disk e)) (kept.present t.disk here)
        | inr gone ↦ absurd (not (missing_is_out i.power m t.disk range single (record { disk = b.0.disk; is = inl gone }) gone))
      ]

  pub log_in_order : LogOk i z said m.writes
  log_in_order = record {
    stands = stands;
    writes = ap (λ (n : Meta). n.writes) is_meta;
    single = subst (λ (n : Meta). (d e : ℕ) → IsMissing i.power n d → IsMissing i.power n e → d ≡ e) (sym is_meta) single;
    standing_in = subst (λ (n : Meta). named_out n.out ≢ Some z) (sym is_meta) in_array;
    fresh_closed = subst (λ (n : Meta). (d rebuilt : ℕ) → IsFresh i.power n d rebuilt → d < 2 → is_open (stored_block i d 0) ≡ false) (sym is_meta) fresh;
    targets_spin = subst (λ (n : Meta). (t : Target) → Contains (targets said.batch) t → out_disk i.power n ≢ Some t.disk → i.power t.disk ≡ Spinning) (sym is_meta) spins;
    formed = λ y low here not. let v = voice y low here (subst (λ (n : Meta). out_disk i.power n ≢ Some y) is_meta not) in (v.0, v.1);
    paired = λ a b p q out0 out1.
        let v = voice 0 (omega arith) p.present (subst (λ (n : Meta). out_disk i.power n ≢ Some 0) is_meta out0) in
        let w = voice 1 (omega arith) q.present (subst (λ (n : Meta). out_disk i.power n ≢ Some 1) is_meta out1) in
        pairs a b (subst P (Says-same i 0 v.0 a v.1 p) v.2) (subst P (Says-same i 1 w.0 b w.1 q) w.2);
  }

-- From when the batch stands in the log of each live log disk
module _ (j : Job) (b : IsBrought j) where
  abbrev new : LogState
  new = open_with j

  abbrev shut : LogState
  shut = closed_over j.meta

  -- what live log disks say after the targets are touched
  abbrev pub IsLate : LogState → Type 0
  IsLate o = (o ≡ new) ⊎ (o ≡ shut)

  done : IsBatchInPlace new shut
  done = record { opened = refl; closed = refl; meta = refl }

  pub late_pair : (a c : LogState) → IsLate a → IsLate c → Pairing a c
  late_pair a c (inl p) (inl q) = alike (p ∙ sym q)
  late_pair a c (inl p) (inr q) = first_done (subst (λ (v : LogState). IsBatchInPlace a v) (sym q) (subst (λ (v : LogState). IsBatchInPlace v shut) (sym p) done))
  late_pair a c (inr p) (inl q) = second_done (subst (λ (v : LogState). IsBatchInPlace c v) (sym p) (subst (λ (v : LogState). IsBatchInPlace v shut) (sym q) done))
  late_pair a c (inr p) (inr q) = alike (p ∙ sym q)

  late_meta : (said : LogState) → IsLate said → said.meta ≡ j.meta
  late_meta said (inl is) = ap (λ (o : LogState). o.meta) is
  late_meta said (inr is) = ap (λ (o : LogState). o.meta) is

  -- it stands before each that is left alone
  late_first : (x : ℕ) (a o : LogState) → IsLate a → stands_before x new o ≡ true → stands_before x a o ≡ true
  late_first x a o (inl is) before = ap (λ (s : LogState). stands_before x s o) is ∙ before
  late_first x a o (inr is) before = ap (λ (s : LogState). stands_before x s o) is ∙ shut_before x j.meta j.batch o before

  module _ (i : Disks) (kept : KeepsSlotsAndLogs j i) (aside : (y p : ℕ) → y < 2 → job_named j ≡ Some y → p < log_least → IsPresent i y → i.block y p ≡ j.start.block y p) where
    pub new_fresh : (d rebuilt : ℕ) → IsFresh i.power j.meta d rebuilt → d < 2 → is_open (stored_block i d 0) ≡ false
    new_fresh d rebuilt f low =
        let is : job_named j ≡ Some d = b.names ∙ ap named_out f.is in
        ap is_open (stored_start j i kept d 0 f.present (aside d 0 low is (omega arith) f.present))
        ∙ b.fresh_closed d rebuilt (record { is = f.is; present = kept.present d f.present }) low

    pub new_brought : (said : LogState) (t : Target) → said ≡ new → Contains (targets said.batch) t → IsTargetInRange j.meta.setup.geometry t
        × (named_out j.meta.out ≢ Some t.disk → IsPresent j.start t.disk → j.start.power t.disk ≡ Spinning)
    new_brought said t is c =
        let held = subst (λ (o : LogState). Contains (targets o.batch) t) is c in (
          all_contained (IsTargetInRange j.meta.setup.geometry) (targets j.batch) t b.good.in_range.each held,
          λ not here. b.spins t held (λ e. not (gone_named j.meta.out t.disk e)) here,
        )

    pub aside_before : (y : ℕ) (o : LogState) → y < 2 → job_named j ≡ Some y → Says i y o → stands_before (other_log y) new o ≡ true
    aside_before y o low is says = b.second y o low is (aside_said j i kept y says.present (λ p lt. aside y p low is lt says.present) o says)

    module _ (late : IsLateImage j i) where
      late_says : (x : ℕ) → IsLiveLog j x → IsPresent i x → (o : LogState) × Says i x o × IsLate o
      late_says x live here = elim (late.sides x live here) [
        | inl open_too ↦ (new, open_too, inl refl)
        | inr closed ↦ (shut, closed, inr refl)
      ]

      abbrev pub LateStands : Type 0
      LateStands = (z : ℕ) × (said : LogState) × Stands i z said × IsLate said × IsLiveLog j z

      late_both : (x : ℕ) → IsLiveLog j x → IsPresent i x → IsLiveLog j (other_log x) → IsPresent i (other_log x) → LateStands
      late_both x live here live_too there =
          let a = late_says x live here in
          let c = late_says (other_log x) live_too there in
          elim (first_or_second x a.0 c.0 live.0) [
            | inl first ↦ (x, a.0, stands_over i x a.0 c.0 live.0 a.1 c.1 first, a.2, live)
            | inr second ↦ (
              other_log x,
              c.0,
              stands_over i (other_log x) c.0 a.0 live_too.0 c.1 (subst (λ (w : ℕ). Says i w a.0) (sym (other_other x live.0)) a.1) second,
              c.2,
              live_too,
            )
          ]

      pub late_stands : (x : ℕ) → IsLiveLog j x → IsPresent i x → LateStands
      late_stands x live here = elim (cases_Bool (is_present (i.power (other_log x)))) [
        | inr none ↦ let a = late_says x live here in (x, a.0, stands_alone i x a.0 live.0 a.1 none, a.2, live)
        | inl there ↦ elim (decide_some (job_named j) (other_log x)) [
          | inr not ↦ late_both x live here (let low = live.0 in omega arith, not) there
          | inl is ↦
              let a = late_says x live here in (
                x,
                a.0,
                record {
                  log_disk = live.0;
                  says = a.1;
                  first = λ o says. late_first x a.0 o a.2
                      (subst (λ (w : ℕ). stands_before w new o ≡ true) (other_other x live.0)
                      (aside_before (other_log x) o (let l = live.0 in omega arith) is says));
                },
                a.2,
                live,
              )
        ]
      ]

      -- where no disk is out, the other log disk says the new meta too
      pub late_other : (x : ℕ) (said : LogState) → Stands i x said → said.meta ≡ j.meta → out_disk i.power said.meta ≡ None → (o : LogState) → Says i (other_log x) o → o.meta ≡ j.meta
      late_other x said s is none o says =
          let low : other_log x < 2 = (let l = s.log_disk in omega arith) in
          elim (decide_some (job_named j) (other_log x)) [
            | inl name ↦
                let out = out_named i.power said.meta (other_log x) (ap (λ (n : Meta). named_out n.out) is ∙ sym b.names ∙ name) in
                let z : None ≡ Some (other_log x) = sym none ∙ out in cc
            | inr live ↦
                let t = late_says (other_log x) (low, live) says.present in
                ap (λ (u : LogState). u.meta) (Says-same i (other_log x) o t.0 says t.1) ∙ late_meta_of t.0 t.2
          ]
        where
          late_meta_of : (u : LogState) → IsLate u → u.meta ≡ j.meta
          late_meta_of u (inl same) = ap (λ (v : LogState). v.meta) same
          late_meta_of u (inr same) = ap (λ (v : LogState). v.meta) same

      late_blocks : (z : ℕ) (said : LogState) → Says i z said → IsLate said → IsLiveLog j z → (d p : ℕ) → job_gone j ≢ Some d → has_place i d p ≡ true → log_least ≤ p
          → contents i said.batch d p ≡ contents j.start j.batch d p
      late_blocks z said says (inl is) live d p out there far =
          let here = present_place i d p there in
          ap (λ (o : LogState). contents i o.batch d p) is ∙ contents_here i j.batch d p far there ∙ late.held d p out here far
          ∙ sym (contents_here j.start j.batch d p far (place_start j i kept d p there here))
      late_blocks z said says (inr is) live d p out there far =
          let here = present_place i d p there in
          ap (λ (o : LogState). contents i o.batch d p) is ∙ contents_here i [] d p far there
          ∙ late.done z d p live says.present (subst (λ (o : LogState). Says i z o) is says) out here far
          ∙ sym (contents_here j.start j.batch d p far (place_start j i kept d p there here))

      late_brought : (said : LogState) → IsLate said → (t : Target) → Contains (targets said.batch) t → IsTargetInRange j.meta.setup.geometry t
          × (named_out j.meta.out ≢ Some t.disk → IsPresent j.start t.disk → j.start.power t.disk ≡ Spinning)
      late_brought said (inl is) t c = new_brought said t is c
      late_brought said (inr is) t c = absurd (none_in_empty t (subst (λ (o : LogState). Contains (targets o.batch) t) is c))

      pub late_for : (z : ℕ) (said : LogState) → Stands i z said → IsLate said → IsLiveLog j z
          → ((d e : ℕ) → IsMissing i.power j.meta d → IsMissing i.power j.meta e → d ≡ e) → ImageStandsFor j.start i j.meta j.batch
      late_for z said s kind live single = record {
        disk = z;
        said = said;
        log = log_in_order j i kept IsLate late_pair z said j.meta s (late_meta said kind) b.good.meta.in_range (λ e. live.1 (b.names ∙ e))
            (λ x l here not. late_says x l here) (λ y low name here out. absurd (out (sym b.names ∙ name))) single new_fresh (late_brought said kind);
        meta = late_meta said kind;
        kept = record { present = kept.present; power = kept.power; size = kept.size };
        blocks = late_blocks z said s.says kind live;
      }

-- Before the targets are touched
module _ (j : Job) (before : Meta) (begun : IsBegun j before) where
  abbrev old : LogState
  old = closed_over before

  abbrev brings : LogState
  brings = open_with j

  brought : IsBrought j
  brought = begun_brought j before begun

  -- what live log disks say
  abbrev pub IsEarly : LogState → Type 0
  IsEarly o = (o ≡ old) ⊎ (o ≡ brings)

  ahead : IsAhead brings old
  ahead = record { opened = refl; closed = refl; epoch = begun.next.epoch; setup = begun.next.setup; out = begun.next.out }

  pub early_pair : (a b : LogState) → IsEarly a → IsEarly b → Pairing a b
  early_pair a b (inl p) (inl q) = alike (p ∙ sym q)
  early_pair a b (inl p) (inr q) = second_ahead (subst (λ (v : LogState). IsAhead b v) (sym p) (subst (λ (v : LogState). IsAhead v old) (sym q) ahead))
  early_pair a b (inr p) (inl q) = first_ahead (subst (λ (v : LogState). IsAhead a v) (sym q) (subst (λ (v : LogState). IsAhead v old) (sym p) ahead))
  early_pair a b (inr p) (inr q) = alike (p ∙ sym q)

  module _ (i : Disks) (kept : KeepsSlotsAndLogs j i) (aside : (y p : ℕ) → y < 2 → job_named j ≡ Some y → p < log_least → IsPresent i y → i.block y p ≡ j.start.block y p) where
    -- a side that is left alone by an array that it was in says the old meta
    pub aside_old : (y : ℕ) → y < 2 → job_named j ≡ Some y → IsPresent i y → named_out before.out ≢ Some y → Says i y old
    aside_old y low is here not =
        aside_says j i kept y here (λ p lt. aside y p low is lt here) old (start_says j before begun y low (kept.present y here) not)

    -- and one that it was not in comes second
    pub aside_second : (y : ℕ) (o : LogState) → y < 2 → job_named j ≡ Some y → Says i y o → named_out before.out ≡ Some y → stands_before (other_log y) old o ≡ true
    aside_second y o low is says was =
        start_second j before begun y o low (aside_said j i kept y says.present (λ p lt. aside y p low is lt says.present) o says) was

    -- before the targets are touched
    module _ (early : IsEarlyImage j i) where
      -- closed, or open with the batch
      gate_shut : (x : ℕ) → IsLiveLog j x → IsPresent i x → stored_block i x 0 ≡ i.block x 0
      gate_shut x live here = let large = early.kept.large x live here in stored_here i x 0 here (omega arith)

      not_both : (x : ℕ) (o : LogState) → IsLiveLog j x → IsPresent i x → o ≡ brings → Says i x o → is_open (i.block x 0) ≡ false → ⊥
      not_both x o live here is says shut =
          false≢true (sym shut ∙ ap is_open (sym (gate_shut x live here)) ∙ says.gate ∙ ap (λ (s : LogState). s.opened) is)

      abbrev IsSaid : ℕ → Type 0
      IsSaid x = (o : LogState) × Says i x o × (((o ≡ old) × (named_out before.out ≢ Some x)) ⊎ (o ≡ brings))

      -- a log disk that comes in again, with its gate still closed
      abbrev pub IsJoining : ℕ → Type 0
      IsJoining q = (named_out before.out ≡ Some q) × (is_open (i.block q 0) ≡ false) × (i.block q 1 ≡ j.start.block q 1)

      early_said : (x : ℕ) → IsLiveLog j x → IsPresent i x → IsSaid x ⊎ IsJoining x
      early_said x live here = elim (early.sides x live here) [
        | inr open_too ↦ inl (brings, open_too, inr refl)
        | inl closed ↦ elim (decide_some (named_out before.out) x) [
          | inl is ↦ inr (is, closed.0, closed.1)
          | inr not ↦ inl (old, live_says_old j before begun i kept x live here not closed.0 closed.1, inl (refl, not))
        ]
      ]

      said_early : (x : ℕ) → IsSaid x → (o : LogState) × Says i x o × IsEarly o
      said_early x s = elim s.2 [ inl is ↦ (s.0, s.1, inl is.0) | inr is ↦ (s.0, s.1, inr is) ]

      -- its turn was to be the first
      joining_order : (q : ℕ) → IsLiveLog j q → IsPresent i q → IsJoining q → (y : ℕ) → IsLiveLog j y → IsPresent i y → is_open (i.block y 0) ≡ false
      joining_order q live here joining =
          let is = begun.joins_first q live.0 joining.0 (λ e. live.1 (begun.names ∙ e)) in
          early.in_order (subst (IsLiveLog j) (sym is) live) (subst (IsPresent i) (sym is) here) (ap (λ (x : ℕ). is_open (i.block x 0)) is ∙ joining.1)

      -- what stands is old, on a log disk that was in the array, or brings, on a live one
      abbrev pub EarlyStands : Type 0
      EarlyStands = (z : ℕ) × (said : LogState) × Stands i z said × (((said ≡ old) × (named_out before.out ≢ Some z)) ⊎ ((said ≡ brings) × IsLiveLog j z))

      early_here : (x : ℕ) (o : LogState) → IsLiveLog j x → Stands i x o → ((o ≡ old) × (named_out before.out ≢ Some x)) ⊎ (o ≡ brings) → EarlyStands
      early_here x o live s (inl is) = (x, o, s, inl is)
      early_here x o live s (inr is) = (x, o, s, inr (is, live))

      -- the other log disk stands where one comes in again with its gate still closed
      pub early_joining : (q : ℕ) → IsLiveLog j q → IsPresent i q → IsJoining q → IsPresent i (other_log q) → Stands i (other_log q) old × (named_out before.out ≢ Some (other_log q))
      early_joining q live here joining there =
          let low : other_log q < 2 = (let l = live.0 in omega arith) in
          let not : named_out before.out ≢ Some (other_log q) =
          (λ e. let k : Some q ≡ Some (other_log q) = sym joining.0 ∙ e in let same : q ≡ other_log q = cc in let l = live.0 in omega arith) in
          let says : Says i (other_log q) old = elim (decide_some (job_named j) (other_log q)) [
            | inl is ↦ aside_old (other_log q) low is there not
            | inr live_too ↦ elim (early_said (other_log q) (low, live_too) there) [
              | inr two ↦ absurd (not two.0)
              | inl s ↦ elim s.2 [
                | inl is ↦ subst (Says i (other_log q)) is.0 s.1
                | inr is ↦ absurd (not_both (other_log q) s.0 (low, live_too) there is s.1 (joining_order q live here joining (other_log q) (low, live_too) there))
              ]
            ]
          ] in (
            record {
              log_disk = low;
              says = says;
              first = λ o t. joining_second j before begun i kept q live here joining.0 joining.1 joining.2 o (subst (λ (w : ℕ). Says i w o) (other_other q live.0) t);
            },
            not,
          )

      -- with the other log disk there and live
      early_both : (x : ℕ) → IsLiveLog j x → IsSaid x → IsLiveLog j (other_log x) → IsSaid (other_log x) → EarlyStands
      early_both x live a live_too b =
          elim (first_or_second x a.0 b.0 live.0) [
            | inl first ↦ early_here x a.0 live (stands_over i x a.0 b.0 live.0 a.1 b.1 first) a.2
            | inr second ↦ early_here (other_log x) b.0 live_too
                (stands_over i (other_log x) b.0 a.0 live_too.0 b.1 (subst (λ (w : ℕ). Says i w a.0) (sym (other_other x live.0)) a.1) second) b.2
          ]

      -- with the other log disk left alone
      early_aside : (x : ℕ) → IsLiveLog j x → IsSaid x → job_named j ≡ Some (other_log x) → IsPresent i (other_log x) → EarlyStands
      early_aside x live a is there = elim (decide_some (named_out before.out) (other_log x)) [
        | inl was ↦ early_here x a.0 live (record {
          log_disk = live.0;
          says = a.1;
          first = λ o says. elim a.2 [
            | inl same ↦ ap (λ (s : LogState). stands_before x s o) same.0
                ∙ subst (λ (w : ℕ). stands_before w old o ≡ true) (other_other x live.0) (aside_second (other_log x) o (other_low) is says was)
            | inr same ↦ ap (λ (s : LogState). stands_before x s o) same
                ∙ greater_before x brings o (let low = start_epoch j before begun (other_log x) o other_low is (aside_said j i kept (other_log x) says.present (λ p lt. aside (other_log x) p other_low is lt says.present) o says) in let next = begun.next.epoch in omega arith)
          ];
        }) a.2
        | inr not ↦
            let b = aside_old (other_log x) other_low is there not in
            elim (first_or_second x a.0 old live.0) [
              | inl first ↦ early_here x a.0 live (stands_over i x a.0 old live.0 a.1 b first) a.2
              | inr second ↦ (
                other_log x,
                old,
                stands_over i (other_log x) old a.0 other_low b (subst (λ (w : ℕ). Says i w a.0) (sym (other_other x live.0)) a.1) second,
                inl (refl, not),
              )
            ]
      ]
        where
          other_low : other_log x < 2
          other_low = let low = live.0 in omega arith

      -- where one comes in again, the other one is there
      abbrev pub IsPaired : Type 0
      IsPaired = (q : ℕ) → IsLiveLog j q → IsPresent i q → IsJoining q → IsPresent i (other_log q)

      early_beside : (q : ℕ) → IsLiveLog j q → IsPresent i q → IsJoining q → IsPresent i (other_log q) → EarlyStands
      early_beside q live here joining there = let s = early_joining q live here joining there in (other_log q, old, s.0, inl (refl, s.1))

      pub early_stands : IsPaired → (x : ℕ) → IsLiveLog j x → IsPresent i x → EarlyStands
      early_stands pair x live here = elim (early_said x live here) [
        | inr joining ↦ early_beside x live here joining (pair x live here joining)
        | inl a ↦ elim (cases_Bool (is_present (i.power (other_log x)))) [
          | inr none ↦ early_here x a.0 live (stands_alone i x a.0 live.0 a.1 none) a.2
          | inl there ↦ elim (decide_some (job_named j) (other_log x)) [
            | inl is ↦ early_aside x live a is there
            | inr not ↦
                let live_too : IsLiveLog j (other_log x) = (let low = live.0 in omega arith, not) in
                elim (early_said (other_log x) live_too there) [
                  | inl b ↦ early_both x live a live_too b
                  | inr joining ↦ early_beside (other_log x) live_too there joining (subst (IsPresent i) (sym (other_other x live.0)) here)
                ]
          ]
        ]
      ]

      -- where no disk is out, what the other log disk says is old or new too
      pub early_other : (x : ℕ) (said : LogState) → Stands i x said → ((said ≡ old) × (named_out before.out ≢ Some x)) ⊎ ((said ≡ brings) × IsLiveLog j x)
          → out_disk i.power said.meta ≡ None → (o : LogState) → Says i (other_log x) o → IsEarly o
      early_other x said s kind none o says =
          let low : other_log x < 2 = (let l = s.log_disk in omega arith) in
          let none_named : (m : Meta) → said.meta ≡ m → named_out m.out ≢ Some (other_log x) = (λ m is e.
          let z : None ≡ Some (other_log x) = sym none ∙ out_named i.power said.meta (other_log x) (ap (λ (n : Meta). named_out n.out) is ∙ e) in cc) in
          elim (decide_some (job_named j) (other_log x)) [
            | inl is ↦ elim kind [
              | inr new_stands ↦ absurd (none_named j.meta (ap (λ (t : LogState). t.meta) new_stands.0) (sym begun.names ∙ is))
              | inl old_stands ↦
                  inl (Says-same i (other_log x) o old says (aside_old (other_log x) low is says.present (none_named before (ap (λ (t : LogState). t.meta) old_stands.0))))
            ]
            | inr live ↦ elim (early_said (other_log x) (low, live) says.present) [
              | inl t ↦ elim t.2 [
                | inl is ↦ inl (Says-same i (other_log x) o t.0 says t.1 ∙ is.0)
                | inr is ↦ inr (Says-same i (other_log x) o t.0 says t.1 ∙ is)
              ]
              | inr joining ↦ elim kind [
                | inl old_stands ↦ absurd (none_named before (ap (λ (t : LogState). t.meta) old_stands.0) joining.0)
                | inr new_stands ↦ absurd (not_both x said new_stands.1 s.says.present new_stands.0 s.says
                    (joining_order (other_log x) (low, live) says.present joining x new_stands.1 s.says.present))
              ]
            ]
          ]

      -- the gate of a log disk that comes in again is closed where the old contents stand
      old_shut : (z : ℕ) (said : LogState) → Stands i z said → said ≡ old → named_out before.out ≢ Some z
          → (x rebuilt : ℕ) → IsLiveLog j x → IsPresent i x → before.out ≡ Fresh x rebuilt → is_open (stored_block i x 0) ≡ false
      old_shut z said s is not x rebuilt live here out = elim (early.sides x live here) [
        | inl closed ↦ ap is_open (gate_shut x live here) ∙ closed.0
        | inr opened ↦
            let apart : x ≢ z = (λ same. not (ap named_out out ∙ ap Some same)) in
            let place : x ≡ other_log z = (let l = live.0 in let k = s.log_disk in omega arith) in
            let low = after_epoch z said brings (s.first brings (subst (λ (w : ℕ). Says i w brings) place opened)) in
            let same : said.meta.epoch ≡ before.epoch = ap (λ (t : LogState). t.meta.epoch) is in
            let next = begun.next.epoch in
            absurd (omega arith)
      ]

      old_fresh : (z : ℕ) (said : LogState) → Stands i z said → said ≡ old → named_out before.out ≢ Some z
          → (d rebuilt : ℕ) → IsFresh i.power before d rebuilt → d < 2 → is_open (stored_block i d 0) ≡ false
      old_fresh z said s is not d rebuilt f low = elim (decide_some (job_named j) d) [
        | inr live ↦ old_shut z said s is not d rebuilt (low, live) f.present f.is
        | inl name ↦
            ap is_open (stored_start j i kept d 0 f.present (aside d 0 low name (omega arith) f.present))
            ∙ begun.rest.log.fresh_closed d rebuilt (record { is = f.is; present = kept.present d f.present }) low
      ]

      old_says : (x : ℕ) → IsLiveLog j x → IsPresent i x → named_out before.out ≢ Some x → (o : LogState) × Says i x o × IsEarly o
      old_says x live here not = elim (early_said x live here) [ inl s ↦ said_early x s | inr joining ↦ absurd (not joining.0) ]

      new_says : (z : ℕ) (said : LogState) → Says i z said → said ≡ brings → IsLiveLog j z → (x : ℕ) → IsLiveLog j x → IsPresent i x → named_out j.meta.out ≢ Some x
          → (o : LogState) × Says i x o × IsEarly o
      new_says z said s is live_z x live here not = elim (early_said x live here) [
        | inl t ↦ said_early x t
        | inr joining ↦ absurd (not_both z said live_z s.present is s (joining_order x live here joining z live_z s.present))
      ]

      pub early_for_old : (z : ℕ) (said : LogState) → Stands i z said → said ≡ old → named_out before.out ≢ Some z
          → ((d e : ℕ) → IsMissing i.power before d → IsMissing i.power before e → d ≡ e) → ImageStandsFor j.start i before []
      early_for_old z said s is not single = record {
        disk = z;
        said = said;
        log = log_in_order j i kept IsEarly early_pair z said before s (ap (λ (o : LogState). o.meta) is) (before_in_range j before begun) not old_says
            (λ y low name here out. (old, aside_old y low name here out, inl refl)) single (old_fresh z said s is not)
            (λ t c. absurd (none_in_empty t (subst (λ (o : LogState). Contains (targets o.batch) t) is c)));
        meta = ap (λ (o : LogState). o.meta) is;
        kept = record { present = kept.present; power = kept.power; size = kept.size };
        blocks = λ d p out there far.
            let here = present_place i d p there in
            ap (λ (o : LogState). contents i o.batch d p) is ∙ contents_here i [] d p far there ∙ early.held d p here far
            ∙ sym (contents_here j.start [] d p far (place_start j i kept d p there here));
      }

      pub early_for_new : (z : ℕ) (said : LogState) → Stands i z said → said ≡ brings → IsLiveLog j z
          → ((d e : ℕ) → IsMissing i.power j.meta d → IsMissing i.power j.meta e → d ≡ e) → ImageStandsFor j.start i j.meta j.batch
      early_for_new z said s is live single = record {
        disk = z;
        said = said;
        log = log_in_order j i kept IsEarly early_pair z said j.meta s (ap (λ (o : LogState). o.meta) is) begun.good.meta.in_range (λ e. live.1 (begun.names ∙ e))
            (new_says z said s.says is live) (λ y low name here out. absurd (out (sym begun.names ∙ name))) single (new_fresh j brought i kept aside)
            (λ t c. new_brought j brought i kept aside said t is c);
        meta = ap (λ (o : LogState). o.meta) is;
        kept = record { present = kept.present; power = kept.power; size = kept.size };
        blocks = λ d p out there far.
            let here = present_place i d p there in
            ap (λ (o : LogState). contents i o.batch d p) is ∙ contents_here i j.batch d p far there ∙ ap (overlaid_block j.batch d p) (early.held d p here far)
            ∙ sym (contents_here j.start j.batch d p far (place_start j i kept d p there here));
      }
