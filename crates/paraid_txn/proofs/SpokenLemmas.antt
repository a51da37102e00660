-- What the log disks say while a commit goes on.
use Rattle.std.specs.Prelude.{◌≡◌, ◌≢◌, ◌⊎◌, ℕ, ◌<◌, ◌≤◌, ◌==◌, ◌&&◌, ◌||◌, nat_lt, Bool, true, false, not, Some, Contains, if◌then◌else◌}
use Rattle.std.proofs.Common.{refl, sym, ◌∙◌, ap, subst, arith, inl, inr, zero, suc}
use Rattle.std.proofs.lemmas.Bool.{cases_Bool, cases_eq, false≢true}
use Rattle.std.proofs.lemmas.Bool.Decides.{nat_tests}
use Rattle.paraid_base.specs.declared.block.Block.{Block}
use Rattle.paraid_base.specs.Log.{log_least}
use Rattle.paraid_base.specs.Xor.{zero_block}
use Rattle.paraid_rack.specs.declared.call.Power.{Power}
use Rattle.paraid_rack.specs.declared.call.Power.TheVariants.{Spinning}
use Rattle.paraid_rack.specs.Disks.{Disks, IsPresent, is_present}
use Rattle.paraid_record.specs.declared.meta.Meta.{Meta}
use Rattle.paraid_record.specs.declared.targets.Target.{Target}
use Rattle.paraid_record.specs.Range.{IsInRange}
use Rattle.paraid_image.specs.Rest.{IsAtRest}
use Rattle.paraid_txn.specs.Commit.{IsNext}
use Rattle.paraid_image.specs.Out.{named_out}
use Rattle.paraid_image.specs.Sides.{LogState, Says, Spells, closed_over, has_place, is_open, stored_block, targets}
use Rattle.paraid_image.specs.Sound.{IsFresh}
use Rattle.paraid_txn.specs.CommitStages.{KeepsSlotsAndLogs, IsLiveLog, IsSpelled, Job, job_gone, job_named, open_with}
use Rattle.paraid_image.specs.Standing.{Stands, is_first, other_log, stands_before}
use Rattle.paraid_image.proofs.NeutralLemmas.{SaysBy-kept, few_logged}
use Rattle.paraid_image.proofs.OpenLemmas.{greater_before}
use Rattle.paraid_image.proofs.OutLemmas.{out_present}
use Rattle.paraid_image.proofs.SidesLemmas.{Says-same}
use Rattle.paraid_image.proofs.CallLemmas.{decide_some}
use Rattle.paraid_image.proofs.UnseenLemmas.{pair_same}
use Rattle.paraid_txn.proofs.WholeLemmas.{stored_here}

-- which log disk stands

pub first_or_second : (x : ℕ) (a b : LogState) → x < 2 → (stands_before x a b ≡ true) ⊎ (stands_before (other_log x) b a ≡ true)
first_or_second zero a b low = elim (cases_Bool (is_first a b)) [ inl is ↦ inl is | inr off ↦ inr (ap not off) ]
first_or_second (suc zero) a b low = elim (cases_Bool (is_first b a)) [ inl is ↦ inr is | inr off ↦ inl (ap not off) ]
first_or_second (suc (suc x)) a b low = absurd (omega arith)

pub stands_over : (i : Disks) (x : ℕ) (a b : LogState) → x < 2 → Says i x a → Says i (other_log x) b → stands_before x a b ≡ true → Stands i x a
stands_over i x a b low p q before = record {
  log_disk = low;
  says = p;
  first = λ o r. ap (stands_before x a) (Says-same i (other_log x) o b r q) ∙ before;
}

pub other_other : (x : ℕ) → x < 2 → other_log (other_log x) ≡ x
other_other x low = omega arith

pub stands_alone : (i : Disks) (x : ℕ) (a : LogState) → x < 2 → Says i x a → (is_present (i.power (other_log x)) ≡ false) → Stands i x a
stands_alone i x a low p gone = record { log_disk = low; says = p; first = λ o r. absurd (false≢true (sym gone ∙ r.present)) }

-- what comes second has no greater epoch
second_epoch : (e f : ℕ) (rest : Bool) → (nat_lt f e || (e == f && rest)) ≡ true → f ≤ e
second_epoch e f rest is = grind (arith, nat_tests)

second_epoch_too : (e f : ℕ) (rest : Bool) → not (nat_lt e f || (f == e && rest)) ≡ true → f ≤ e
second_epoch_too e f rest is = grind (arith, nat_tests)

pub after_epoch : (x : ℕ) (a o : LogState) → stands_before x a o ≡ true → o.meta.epoch ≤ a.meta.epoch
after_epoch zero a o is = second_epoch a.meta.epoch o.meta.epoch _ is
after_epoch (suc x) a o is = second_epoch_too a.meta.epoch o.meta.epoch _ is

-- What is known of the disks with which the batch stands in the log of each live log disk: a log
-- disk that is left alone comes second.
pub record IsBrought (j : Job) : Type 0 where
  pub good : IsSpelled j
  pub names : job_named j ≡ named_out j.meta.out
  pub fresh_closed : (d rebuilt : ℕ) → IsFresh j.start.power j.meta d rebuilt → d < 2 → is_open (stored_block j.start d 0) ≡ false
  pub second : (y : ℕ) (o : LogState) → y < 2 → job_named j ≡ Some y → Says j.start y o → stands_before (other_log y) (open_with j) o ≡ true
  pub spins : (t : Target) → Contains (targets j.batch) t → job_gone j ≢ Some t.disk → IsPresent j.start t.disk → j.start.power t.disk ≡ Spinning

module _ (j : Job) (i : Disks) (kept : KeepsSlotsAndLogs j i) where
  -- the same block in a place that is there
  pub stored_start : (y p : ℕ) → IsPresent i y → i.block y p ≡ j.start.block y p → stored_block i y p ≡ stored_block j.start y p
  unfolding stored_block
  stored_start y p here same =
      ap (λ (t : Power). if (is_present t && nat_lt p (i.size y)) then i.block y p else zero_block) (kept.power y here)
      ∙ ap (λ (n : ℕ). if (is_present (j.start.power y) && nat_lt p n) then i.block y p else zero_block) (kept.size y here)
      ∙ ap (λ (b : Block). if (is_present (j.start.power y) && nat_lt p (j.start.size y)) then b else zero_block) same

  pub place_start : (d p : ℕ) → has_place i d p ≡ true → IsPresent i d → has_place j.start d p ≡ true
  place_start d p there here =
      ap (λ (t : Power). is_present t && nat_lt p (j.start.size d)) (sym (kept.power d here))
      ∙ ap (λ (n : ℕ). is_present (i.power d) && nat_lt p n) (sym (kept.size d here)) ∙ there

  -- a log disk that is left alone says what it said
  module _ (y : ℕ) (here : IsPresent i y) (same : (p : ℕ) → p < log_least → i.block y p ≡ j.start.block y p) where
    at : (p : ℕ) → p < log_least → stored_block i y p ≡ stored_block j.start y p
    at p lt = stored_start y p here (same p lt)

    pub aside_said : (o : LogState) → Says i y o → Says j.start y o
    aside_said o s = record {
      present = kept.present y here;
      gate = ap is_open (sym (at 0 (omega arith))) ∙ s.gate;
      log = SaysBy-kept o.opened (stored_block i y) (stored_block j.start y) o.meta o.batch (λ shut. sym (at 1 (omega arith)))
          (λ opened q low high. let few = few_logged o.opened (stored_block i y) o.meta o.batch s.log in sym (at q (omega arith))) s.log;
    }

    pub aside_says : (o : LogState) → Says j.start y o → Says i y o
    aside_says o s = record {
      present = here;
      gate = ap is_open (at 0 (omega arith)) ∙ s.gate;
      log = SaysBy-kept o.opened (stored_block j.start y) (stored_block i y) o.meta o.batch (λ shut. at 1 (omega arith))
          (λ opened q low high. let few = few_logged o.opened (stored_block j.start y) o.meta o.batch s.log in at q (omega arith)) s.log;
    }

-- what is known of the disks with which a commit begins
pub record IsBegun (j : Job) (before : Meta) : Type 0 where
  pub good : IsSpelled j
  pub names : job_named j ≡ named_out j.meta.out
  pub rest : IsAtRest j.start before
  pub next : IsNext j.start before j.meta
  pub joins_first : (x : ℕ) → x < 2 → named_out before.out ≡ Some x → named_out j.meta.out ≢ Some x → j.first ≡ x
  pub spins : (t : Target) → Contains (targets j.batch) t → job_gone j ≢ Some t.disk → IsPresent j.start t.disk → j.start.power t.disk ≡ Spinning

module _ (j : Job) (before : Meta) (begun : IsBegun j before) where
  abbrev old : LogState
  old = closed_over before

  pub before_in_range : IsInRange before
  before_in_range = begun.rest.log.stands.says.log.meta.in_range

  -- a log disk that comes in again has its gate closed
  pub joining_shut : (q : ℕ) → IsLiveLog j q → IsPresent j.start q → named_out before.out ≡ Some q → is_open (stored_block j.start q 0) ≡ false
  joining_shut q live here is =
      let was = begun.next.comes_in q live.0 here is (λ e. live.1 (begun.names ∙ e)) in
      begun.rest.log.fresh_closed q was.0 (record { is = was.1; present = here }) live.0

  -- a log disk that was in the array says the old meta
  pub start_says : (y : ℕ) → y < 2 → IsPresent j.start y → named_out before.out ≢ Some y → Says j.start y old
  start_says y low here not =
      let out = out_present j.start.power before y here not in
      let there = begun.rest.log.formed y low here out in
      let shut : there.0.opened ≡ false = sym there.1.gate ∙ begun.rest.shut y low here not in
      elim (cases_eq y begun.rest.disk) [
        | inl is ↦ subst (λ (z : ℕ). Says j.start z old) (sym is) begun.rest.log.stands.says
        | inr apart ↦ subst (λ (o : LogState). Says j.start y o) (pair_same j.start begun.rest.disk y old there.0 before.writes begun.rest.log there.1 low apart out refl shut) there.1
      ]

  -- a log disk that was not in the array came second
  pub start_second : (y : ℕ) (o : LogState) → y < 2 → Says j.start y o → named_out before.out ≡ Some y → stands_before (other_log y) old o ≡ true
  start_second y o low says is =
      let apart : begun.rest.disk ≢ y = λ e. begun.rest.log.standing_in (is ∙ ap Some (sym e)) in
      let low_too = begun.rest.log.stands.log_disk in
      let here : begun.rest.disk ≡ other_log y = omega arith in
      let back : other_log begun.rest.disk ≡ y = ap other_log here ∙ other_other y low in
      subst (λ (z : ℕ). stands_before z old o ≡ true) here (begun.rest.log.stands.first o (subst (λ (z : ℕ). Says j.start z o) (sym back) says))

  -- a live log disk that is closed as it was says the old meta
  module _ (i : Disks) (kept : KeepsSlotsAndLogs j i) where
    -- a live log disk that was in the array and is closed as it was says the old meta
    pub live_says_old : (x : ℕ) → IsLiveLog j x → IsPresent i x → named_out before.out ≢ Some x → is_open (i.block x 0) ≡ false → i.block x 1 ≡ j.start.block x 1
        → Says i x old
    live_says_old x live here not shut same =
        let large = kept.large x live here in
        let was = start_says x live.0 (kept.present x here) not in
        record {
          present = here;
          gate = ap is_open (stored_here i x 0 here (omega arith)) ∙ shut;
          log = record { meta = subst (λ (b : Block). Spells b before) (sym (stored_start j i kept x 1 here same)) was.log.meta; empty = refl };
        }

    -- and one that comes in again says what it said, which comes second
    pub joining_second : (q : ℕ) → IsLiveLog j q → IsPresent i q → named_out before.out ≡ Some q → is_open (i.block q 0) ≡ false → i.block q 1 ≡ j.start.block q 1
        → (o : LogState) → Says i q o → stands_before (other_log q) old o ≡ true
    joining_second q live here is shut same o s =
        let large = kept.large q live here in
        let closed : o.opened ≡ false = sym s.gate ∙ ap is_open (stored_here i q 0 here (omega arith)) ∙ shut in
        let was_shut = joining_shut q live (kept.present q here) is in
        start_second q o live.0 (record {
          present = kept.present q here;
          gate = was_shut ∙ sym closed;
          log = SaysBy-kept o.opened (stored_block i q) (stored_block j.start q) o.meta o.batch (λ z. sym (stored_start j i kept q 1 here same))
              (λ opened p low high. absurd (false≢true (sym closed ∙ opened))) s.log;
        }) is

  -- a log disk that is left alone has no greater epoch
  pub start_epoch : (y : ℕ) (o : LogState) → y < 2 → job_named j ≡ Some y → Says j.start y o → o.meta.epoch ≤ before.epoch
  start_epoch y o low is says = elim (decide_some (named_out before.out) y) [
    | inl was ↦ after_epoch (other_log y) old o (start_second y o low says was)
    | inr not ↦ let same = ap (λ (s : LogState). s.meta.epoch) (Says-same j.start y o old says (start_says y low says.present not)) in omega arith
  ]

  pub begun_brought : IsBrought j
  begun_brought = record {
    good = begun.good;
    names = begun.names;
    fresh_closed = begun.next.fresh_closed;
    second = λ y o low is says. greater_before (other_log y) (open_with j) o
        (let e = start_epoch y o low is says in let next = begun.next.epoch in omega arith);
    spins = begun.spins;
  }
