-- What no cause refuses can be resumed.
use Rattle.std.specs.Prelude.{◌≡◌, ◌≢◌, ℕ, ◌<◌, ◌≤◌, ◌&&◌, ◌||◌, ◌==◌, nat_lt, not, Bool, true, false, [], Option, Some, None, get_or}
use Rattle.std.proofs.Common.{refl, sym, ◌∙◌, ap, subst, arith, zero, suc}
use Rattle.std.proofs.lemmas.Bool.{true≢false}
use Rattle.std.proofs.lemmas.Bool.Decides.{nat_tests}
use Rattle.std.proofs.lemmas.List.Elements.{All-from_get_or, All-get_or}
use Rattle.paraid_base.specs.declared.state.Out.{Out}
use Rattle.paraid_base.specs.declared.state.Out.TheVariants.{No, Gone, Fresh}
use Rattle.paraid_base.specs.Regions.{disk_size}
use Rattle.paraid_rack.specs.declared.call.Power.{Power}
use Rattle.paraid_rack.specs.declared.call.Power.TheVariants.{Absent, Parked, Spinning}
use Rattle.paraid_rack.specs.Disks.{is_present}
use Rattle.paraid_rack.specs.Slots.{Slot}
use Rattle.paraid_rack.specs.Trail.{Trail}
use Rattle.paraid_record.specs.declared.meta.Meta.{Meta}
use Rattle.paraid_record.specs.declared.targets.Target.{Target}
use Rattle.paraid_record.specs.Range.{IsInRange}
use Rattle.paraid_record.specs.Targets.{AreTargets, IsTargetInRange, no_target}
use Rattle.paraid_recover.specs.declared.hearing.Heard.{Heard}
use Rattle.paraid_recover.specs.declared.hearing.Heard.TheVariants.{Blank, Bad, Formed}
use Rattle.paraid_recover.specs.HeardSides.{IsHeardBy, IsInForm, side_by}
use Rattle.paraid_image.specs.Out.{is_out, named_out}
use Rattle.paraid_image.specs.Sides.{Batch, LogState, targets, log_state}
use Rattle.paraid_image.specs.Sides.Side.{formed}
use Rattle.paraid_image.proofs.NeutralLemmas.{length-targets}
use Rattle.paraid_txn.specs.Commit.{gone_out}
use Rattle.paraid_txn.specs.Losses.{CanWrite}
use Rattle.paraid_txn.specs.Ready.{IsLogReady}
use Rattle.paraid_txn.specs.Resume.{CanResume}
use Rattle.paraid_image.specs.Batches.{names_disk}
use Rattle.paraid_image.proofs.BatchesLemmas.{names_disk-at}
use Rattle.paraid_recover.specs.Examined.{AreHeard, IsAgreed, IsServedAsHeard, Logs, side_of}
use Rattle.paraid_recover.specs.Order.{AreAwake, AreSlotsLarge}
use Rattle.paraid_recover.specs.Refusals.{is_asleep, is_fresh, is_gone, is_parked, is_small, must_spin}
use Rattle.paraid_recover.proofs.ExaminedLogLemmas.{standing_low}
use Rattle.paraid_recover.proofs.SizesLemmas.{large_enough}

not_less : (a b : ℕ) → nat_lt a b ≡ false → b ≤ a
not_less a b is = grind (arith, nat_tests)

apart_off : (d k : ℕ) → d ≢ k → d == k ≡ false
apart_off d k apart = grind arith

-- Sizes

not_gone : (o : Out) (d : ℕ) → gone_out o ≢ Some d → is_gone o d ≡ false
not_gone No d apart = refl
not_gone (Gone k) d apart = apart_off d k (λ same. apart (ap Some (sym same)))
not_gone (Fresh k rebuilt) d apart = refl

pub gone_named : (o : Out) (d : ℕ) → gone_out o ≡ Some d → named_out o ≡ Some d
gone_named No d is = is
gone_named (Gone k) d is = is
gone_named (Fresh k rebuilt) d is = cc

size_by : (slots there gone less : Bool) → not slots || (there && (not gone && less)) ≡ false → there ≡ true → gone ≡ false → less ≡ false
size_by true true false less is here out = is
size_by true true true less is here out = cc
size_by true false gone less is here out = cc
size_by false there gone less is here out = cc

pub large_at : (count : ℕ) (slot : ℕ → Slot) (m : Meta) → AreSlotsLarge count slot m → (d : ℕ) → d < m.setup.geometry.disks → gone_out m.out ≢ Some d
    → is_present (slot d).power ≡ true → disk_size m.setup.geometry ≤ (slot d).size
unfolding is_small
large_at count slot m large d low live here =
    not_less _ _ (size_by (nat_lt d count) (is_present (slot d).power) (is_gone m.out d) _ (large d low) here (not_gone m.out d live))

-- Powers

or_true : (x n : Bool) → n ≡ true → x || n ≡ true
or_true true n is = refl
or_true false n is = is

off_spins : (c x n : Bool) → c ≡ false → n ≡ true → not c && (x || n) ≡ true
off_spins false x n off is = or_true x n is
off_spins true x n off is = cc

fresh_spins : (c x n : Bool) → n ≡ true → c || (not c && (x || n)) ≡ true
fresh_spins true x n is = refl
fresh_spins false x n is = or_true x n is

named_spins : (o : Out) (d : ℕ) (x n : Bool) → n ≡ true → gone_out o ≢ Some d → is_fresh o d || (not (is_out (named_out o) d) && (x || n)) ≡ true
named_spins No d x n is live = or_true x n is
named_spins (Gone k) d x n is live = off_spins (d == k) x n (apart_off d k (λ same. live (ap Some (sym same)))) is
named_spins (Fresh k rebuilt) d x n is live = fresh_spins (d == k) x n is

spins_by : (p : Power) (m : Bool) → is_parked p && m ≡ false → m ≡ true → is_present p ≡ true → p ≡ Spinning
spins_by Spinning m is must here = refl
spins_by Absent m is must here = cc
spins_by Parked m is must here = cc

pub target_spins : (slot : ℕ → Slot) (m : Meta) (batch : Batch) (d : ℕ) → is_asleep slot m batch d ≡ false → names_disk batch d ≡ true → gone_out m.out ≢ Some d
    → is_present (slot d).power ≡ true → (slot d).power ≡ Spinning
unfolding is_asleep must_spin
target_spins slot m batch d awake named live here =
    spins_by (slot d).power _ awake (named_spins m.out d (nat_lt d m.gear) (names_disk batch d) named live) here

-- Resumed

log_spins : (h : Option Heard) (p : Power) → IsHeardBy h p → is_present p ≡ true → p ≡ Spinning
log_spins None p is here = absurd (true≢false (sym here ∙ ap is_present is))
log_spins (Some heard) p is here = is

-- what is said is in range
abbrev IsSaidInForm : LogState → Type 0
IsSaidInForm said = IsInRange said.meta × AreTargets said.meta.setup.geometry (targets said.batch) × (said.opened ≡ false → said.batch ≡ [])

in_form : (h : Option Heard) (b : Batch) (said : LogState) → side_by h b ≡ formed said → IsInForm h b → IsSaidInForm said
in_form None b said is form = cc
in_form (Some Blank) b said is form = cc
in_form (Some (Bad gate_open)) b said is form = cc
in_form (Some (Formed gate_open meta)) b said is form = let same : log_state gate_open meta b ≡ said = cc in subst IsSaidInForm same form

agreed_in_form : (told : Option Trail) (slot : ℕ → Slot) (logs : Logs) (x : ℕ) (said : LogState) → AreHeard told slot logs → IsAgreed logs x said → IsSaidInForm said
agreed_in_form told slot logs x said are agreed = at x (standing_low (side_of logs 0) (side_of logs 1) x agreed.standing.stands) agreed.standing.says
  where
    at : (y : ℕ) → y < 2 → side_of logs y ≡ formed said → IsSaidInForm said
    at zero less is = in_form logs.sides.first logs.first said is are.first_form
    at (suc zero) less is = in_form logs.sides.second logs.second said is are.second_form
    at (suc (suc y)) less is = absurd (omega arith)

pub agreed_in_range : (told : Option Trail) (slot : ℕ → Slot) (logs : Logs) (x : ℕ) (said : LogState) → AreHeard told slot logs → IsAgreed logs x said → IsInRange said.meta
agreed_in_range told slot logs x said are agreed = (agreed_in_form told slot logs x said are agreed).0

module _ (told : Option Trail) (count : ℕ) (slot : ℕ → Slot) (logs : Logs) (x : ℕ) (said : LogState) (are : AreHeard told slot logs) (served : IsServedAsHeard count slot logs x said) where
  awake : AreAwake count slot said.meta said.batch
  awake = served.served.0.0

  low : x < 2
  low = standing_low (side_of logs 0) (side_of logs 1) x served.agreed.standing.stands

  form : IsSaidInForm said
  form = agreed_in_form told slot logs x said are served.agreed

  spins : (y : ℕ) → y < 2 → is_present (slot y).power ≡ true → (slot y).power ≡ Spinning
  spins zero less here = log_spins logs.sides.first _ are.first_power here
  spins (suc zero) less here = log_spins logs.sides.second _ are.second_power here
  spins (suc (suc y)) less here = absurd (omega arith)

  log_ready : IsLogReady (named_out said.meta.out) slot
  log_ready = record {
    can = λ y less live. record {
      spins = spins y less;
      within = λ here.
          let n = said.meta.setup.geometry.disks_low in
          let large = large_at count slot said.meta awake.0 y (omega arith) (λ gone. live (gone_named said.meta.out y gone)) here in
          omega arith;
    };
  }

  can_write : (t : Target) → IsTargetInRange said.meta.setup.geometry t → names_disk said.batch t.disk ≡ true
      → (t.disk < count) × (gone_out said.meta.out ≢ Some t.disk → CanWrite slot t.disk t.place)
  can_write t range named =
      let fits = large_enough count slot said.meta said.meta.setup.geometry.disks awake.0 in
      let disk = range.disk in (
        omega arith,
        λ live. record {
          spins = target_spins slot said.meta said.batch t.disk (awake.1 t.disk range.disk) named live;
          within = λ here.
              let large = large_at count slot said.meta awake.0 t.disk range.disk live here in
              let place = range.within in
              omega arith;
        },
      )

  pub can_resume : CanResume count slot x said.opened said.batch said.meta
  can_resume = record {
    exists = large_enough count slot said.meta said.meta.setup.geometry.disks awake.0;
    log_disk = low;
    in_array = served.agreed.live;
    in_range = form.0;
    each = form.1.each;
    log = log_ready;
    ready = All-from_get_or (λ (t : Target). (t.disk < count) × (gone_out said.meta.out ≢ Some t.disk → CanWrite slot t.disk t.place)) (targets said.batch) no_target (λ k less.
        can_write (get_or (targets said.batch) k no_target)
        (All-get_or (IsTargetInRange said.meta.setup.geometry) (targets said.batch) k no_target less form.1.each)
        (names_disk-at said.batch k (subst (λ (n : ℕ). k < n) (length-targets said.batch) less)));
    empty = form.2;
  }
