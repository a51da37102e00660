-- The calls by which a witness is set.
use Rattle.std.specs.Prelude.{◌≡◌, ◌≢◌, ℕ, ◌<◌, ◌⊎◌, ◌++◌, Bool, true, false, List, [], ◌∷◌, Option, Some, None}
use Rattle.std.proofs.Common.{refl, sym, ◌∙◌, ap, subst, inl, inr, arith, Result}
use Rattle.std.proofs.lemmas.Bool.{cases_Bool, false≢true}
use Rattle.std.proofs.lemmas.List.{append_cancel_left}
use Rattle.paraid_base.specs.declared.block.Block.{Block}
use Rattle.paraid_base.specs.declared.fault.Two.{Two}
use Rattle.paraid_rack.specs.declared.call.Call.{Call}
use Rattle.paraid_rack.specs.declared.call.Call.TheVariants.{Read, Write, Sync, Park, SpinUp, Attach}
use Rattle.paraid_rack.specs.declared.call.Power.{Power}
use Rattle.paraid_rack.specs.declared.call.Power.TheVariants.{Absent, Spinning}
use Rattle.paraid_rack.specs.declared.rack.Rack.{Ghosts}
use Rattle.paraid_rack.specs.Disks.{Disks, is_present, power_after, step}
use Rattle.paraid_rack.specs.Slots.{Agrees, Slot}
use Rattle.paraid_rack.specs.Told.{Ran}
use Rattle.paraid_rack.specs.Trail.{Trail, extend, now}
use Rattle.paraid_rack.proofs.AtomsLemmas.{with_at_same}
use Rattle.paraid_rack.proofs.TrailsLemmas.{extend-extend, now-extend}
use Rattle.paraid_record.specs.declared.meta.Meta.{Meta}
use Rattle.paraid_image.specs.Calls.{disk_of}
use Rattle.paraid_image.specs.Lost.{TellsLosses, fails_on}
use Rattle.paraid_image.proofs.LostLemmas.{failing_fails}
use Rattle.paraid_image.specs.Out.{named_out, or_else}
use Rattle.paraid_image.specs.Sides.{Batch, is_open}
use Rattle.paraid_txn.specs.declared.losses.Losses.{Losses}
use Rattle.paraid_txn.specs.Commit.{gone_out}
use Rattle.paraid_txn.specs.CommitPart.{CommitPart}
use Rattle.paraid_txn.specs.Losses.{CanWrite, MayDo}
use Rattle.paraid_txn.specs.Losses.MayDo.{skipped, absent, called}
use Rattle.paraid_txn.specs.Uses.{EachCall, IsThisCall, UsesInCommit, UsesWitness}
use Rattle.paraid_txn.specs.Witness.{CannotSet, IsFirstWitness, IsLastWitness, MaySetAny, MaySetWitness, NoneJoins, SetsAfter, SetsBefore, SetsWitness}
use Rattle.paraid_txn.specs.Witness.CannotSet.{is_skipped, not_spinning, too_small}
use Rattle.paraid_txn.specs.Witness.MaySetWitness.{cannot, sets}
use Rattle.paraid_txn.specs.Witness.SetsAfter.{bears as bears_after, none as none_after}
use Rattle.paraid_txn.specs.Witness.SetsBefore.{bears, cannot_close, closes, none as none_before}
use Rattle.paraid_txn.specs.declared.bearing.Witness.{Witness}
use Rattle.paraid_txn.specs.Witness.SetsWitness.{ended, refused}
use Rattle.paraid_txn.proofs.CommitPartLemmas.{CommitPart_milder, ran_milder}

-- what is told of the same calls twice
pub told_calls : {Q : Disks → List Call → Type 0} {old new : Option Trail} → Ran old new Q → {t : Trail} → new ≡ Some t
    → {from : Trail} {calls : List Call} → old ≡ Some from → t ≡ extend from calls → Q (now from) calls
told_calls {Q} {old} {new} ran {t} tells {from} {calls} was is =
    let r = ran t tells in
    let same : r.from ≡ from = (let e : Some r.from ≡ Some from = sym r.was ∙ was in cc) in
    let all : from.calls ++ r.calls ≡ from.calls ++ calls = ap (λ (v : Trail). (extend v r.calls).calls) (sym same) ∙ ap (λ (v : Trail). v.calls) (sym r.is ∙ is) in
    subst (λ (cs : List Call). Q (now from) cs) (append_cancel_left from.calls r.calls calls all)
    (subst (λ (v : Trail). Q (now v) r.calls) same r.holds)

-- a disk that spins is not absent
not_absent : {p : Power} → p ≡ Spinning → p ≡ Absent → ⊥
not_absent spins gone = let z : Spinning ≡ Absent = sym spins ∙ gone in cc

-- the power after a write
power_written : (s : Disks) (x : ℕ) (b : Block) (done : Bool) → (step (Write 2 x b done) s).power 2 ≡ power_after done (s.power 2)
unfolding step
power_written s x b done = with_at_same s.power 2 (power_after done (s.power 2)) 2 refl

-- a write that failed
one_failed : (d x : ℕ) (b : Block) (done : Bool) → fails_on d (Write 2 x b done ∷ []) ≡ true → SetsWitness x (is_open b) (Write 2 x b done ∷ [])
one_failed d x b true fails = absurd (false≢true fails)
one_failed d x b false fails = refused b refl refl

one_absent : (s : Disks) (x : ℕ) (b : Block) (done : Bool) → s.power 2 ≡ Spinning → (step (Write 2 x b done) s).power 2 ≡ Absent → SetsWitness x (is_open b) (Write 2 x b done ∷ [])
one_absent s x b true spins gone = absurd (not_absent (power_written s x b true ∙ spins) gone)
one_absent s x b false spins gone = refused b refl refl

-- a write that was done, and the sync after it
both_made : (s : Disks) (x : ℕ) (b : Block) (done synced : Bool) → (step (Write 2 x b done) s).power 2 ≡ Spinning → SetsWitness x (is_open b) (Write 2 x b done ∷ Sync 2 synced ∷ [])
both_made s x b true synced spins = ended b synced refl refl
both_made s x b false synced spins = absurd (not_absent spins (power_written s x b false))

module _ {skip : Option ℕ} {slot : ℕ → Slot} {x : ℕ} {b : Block} {old mid : Option Trail} (unskipped : skip ≢ Some 2) (spins : (slot 2).power ≡ Spinning) where
  -- the write gives up
  pub witness_refused : {down : Option ℕ} {two : Two} → MayDo old mid slot skip 2 (λ done. Write 2 x b done) → Ran old mid (λ s cs. TellsLosses down two cs)
      → Ran old mid (λ s cs. SetsWitness x (is_open b) cs)
  witness_refused (skipped is same) order = absurd (unskipped is)
  witness_refused (absent gone same) order = absurd (not_absent spins gone)
  witness_refused {two = two} (called not done grows) order = λ t tells.
      let g = grows t tells in
      let ends = (told_calls order tells g.1 g.2).ends in
      record { from = g.0; was = g.1; calls = Write 2 x b done ∷ []; is = g.2; holds = one_failed two.second x b done (failing_fails two.second ends.before (Write 2 x b done ∷ []) ends.ends) }

  -- the write was made, and the sync too, unless the disk is absent by then
  pub witness_written : {new : Option Trail} {then : ℕ → Slot} → ((t : Trail) → old ≡ Some t → Agrees (now t) slot) → ((t : Trail) → mid ≡ Some t → Agrees (now t) then)
      → MayDo old mid slot skip 2 (λ done. Write 2 x b done) → MayDo mid new then skip 2 (λ done. Sync 2 done)
      → Ran mid new (EachCall (IsThisCall skip 2 (λ done. Sync 2 done))) → Ran old new (λ s cs. SetsWitness x (is_open b) cs)
  witness_written agrees agrees_then (skipped is same) second each = absurd (unskipped is)
  witness_written agrees agrees_then (absent gone same) second each = absurd (not_absent spins gone)
  witness_written agrees agrees_then (called not done grows) (skipped is same) each = absurd (unskipped is)
  witness_written agrees agrees_then (called not done grows) (absent gone same) each = λ t tells.
      let here = sym same ∙ tells in
      let g = grows t here in
      let power = sym (ap (λ (s : Disks). s.power 2) (ap now g.2 ∙ now-extend g.0 (Write 2 x b done ∷ []))) ∙ (agrees_then t here).power 2 ∙ gone in
      record { from = g.0; was = g.1; calls = Write 2 x b done ∷ []; is = g.2; holds = one_absent (now g.0) x b done ((agrees g.0 g.1).power 2 ∙ spins) power }
  witness_written agrees agrees_then (called not done grows) (called not_too synced grows_too) each = λ t tells.
      let h = grows_too t tells in
      let g = grows h.0 h.1 in
      let lawful = (told_calls each tells h.1 h.2).0 in
      let power = sym (ap (λ (s : Disks). s.power 2) (ap now g.2 ∙ now-extend g.0 (Write 2 x b done ∷ []))) ∙ lawful in
      record {
        from = g.0;
        was = g.1;
        calls = Write 2 x b done ∷ Sync 2 synced ∷ [];
        is = h.2 ∙ ap (λ (r : Trail). extend r (Sync 2 synced ∷ [])) g.2 ∙ extend-extend g.0 (Write 2 x b done ∷ []) (Sync 2 synced ∷ []);
        holds = both_made (now g.0) x b done synced power;
      }

-- what is told of the place that is written and of the block is told of the witness
pub witness_set : {slot : ℕ → Slot} {skip : Option ℕ} {x place : ℕ} {opened was : Bool} {old new : Option Trail} → place ≡ x → was ≡ opened
    → Ran old new (λ s cs. SetsWitness place was cs) → Ran old new (λ s cs. MaySetWitness slot skip x opened cs)
witness_set {x = x} {was = was} at is ran = ran_milder _ _ (λ s cs set. sets (subst (λ (o : Bool). SetsWitness x o cs) is (subst (λ (p : ℕ). SetsWitness p was cs) at set))) ran

-- of which kind they are
module _ {R A : Type 0} {g : Ghosts R} {skip : Option ℕ} {a b : Losses} {r s : R} {result : Result A Two} (m : Meta) (is : gone_out m.out ≡ skip) where
  pub writes_witness : (x : ℕ) {block : Block} → x < 2 → CommitPart g (IsThisCall skip 2 (λ done. Write 2 x block done)) a b r s result → CommitPart g (UsesWitness m) a b r s result
  writes_witness x low part = CommitPart_milder (λ c it. subst (UsesWitness m) (sym it.2) (refl, m.setup.geometry.disks_low, (λ e. it.0 (sym is ∙ e)), low)) part

  pub syncs_witness : CommitPart g (IsThisCall skip 2 (λ done. Sync 2 done)) a b r s result → CommitPart g (UsesWitness m) a b r s result
  syncs_witness part = CommitPart_milder (λ c it. subst (UsesWitness m) (sym it.2) (refl, m.setup.geometry.disks_low, (λ e. it.0 (sym is ∙ e)))) part

-- more follows of the calls where the slots are known as they begin
pub ran_agreed : {P Q : Disks → List Call → Type 0} {slot : ℕ → Slot} {old new : Option Trail} → ((t : Trail) → old ≡ Some t → Agrees (now t) slot)
    → ((s : Disks) (cs : List Call) → Agrees s slot → P s cs → Q s cs) → Ran old new P → Ran old new Q
ran_agreed agrees more ran t tells =
    let r = ran t tells in
    record { from = r.from; was = r.was; calls = r.calls; is = r.is; holds = more (now r.from) r.calls (agrees r.from r.was) r.holds }

-- where disk 2 could be written if it were there, what can not be written is gone or absent
cannot_is : (slot : ℕ → Slot) (skip : Option ℕ) (x : ℕ) → x < 2 → CanWrite slot 2 1 → CannotSet slot skip x → (is_present (slot 2).power ≡ false) ⊎ (skip ≡ Some 2)
cannot_is slot skip x low can (is_skipped is) = inr is
cannot_is slot skip x low can (not_spinning not) = elim (cases_Bool (is_present (slot 2).power)) [ inl here ↦ absurd (not (can.spins here)) | inr off ↦ inl off ]
cannot_is slot skip x low can (too_small small) = elim (cases_Bool (is_present (slot 2).power)) [
  | inl here ↦ let large = can.within here in absurd (omega arith)
  | inr off ↦ inl off
]

is_gone : (slot : ℕ → Slot) (s : Disks) → Agrees s slot → (d : ℕ) → is_present (slot d).power ≡ false → is_present (s.power d) ≡ false
is_gone slot s agree d gone = ap is_present (agree.power d) ∙ gone

none_joins : (m : Meta) (was now : Option ℕ) → now ≡ named_out m.out → NoneJoins was now → NoneJoins was (named_out m.out)
none_joins m was now names joins x low is = sym names ∙ joins x low is

module _ (m : Meta) (slot : ℕ → Slot) (absent was now borne : Option ℕ) (gone : (d : ℕ) → absent ≡ Some d → is_present (slot d).power ≡ false)
    (can : (x : ℕ) → x < 2 → was ≡ Some x → named_out m.out ≢ Some x → CanWrite slot 2 1) (names : now ≡ named_out m.out) where
  closing : (w : Witness) (s : Disks) (cs : List Call) → Agrees s slot → w.opened ≡ false → was ≡ Some w.disk → now ≢ Some w.disk
      → MaySetWitness slot (gone_out m.out) w.disk w.opened cs → SetsBefore m was borne s cs
  closing w s cs agree closed is not (cannot why nothing) =
      let not_then : named_out m.out ≢ Some w.disk = λ e. not (names ∙ e) in
      cannot_close w.disk w.log_disk is not_then (elim (cannot_is slot (gone_out m.out) w.disk w.log_disk (can w.disk w.log_disk is not_then) why) [
        | inl off ↦ inl (is_gone slot s agree 2 off)
        | inr skips ↦ inr skips
      ]) nothing
  closing w s cs agree closed is not (sets it) =
      closes w.disk w.log_disk is (λ e. not (names ∙ e)) (subst (λ (o : Bool). SetsWitness w.disk o cs) closed it)

  bearing : (w : Witness) (s : Disks) (cs : List Call) → Agrees s slot → w.opened ≡ true → NoneJoins was now → borne ≡ None → absent ≡ Some w.disk
      → MaySetWitness slot (gone_out m.out) w.disk w.opened cs → SetsBefore m was borne s cs
  bearing w s cs agree opened joins none off (cannot why nothing) = none_before (none_joins m was now names joins) nothing
  bearing w s cs agree opened joins none off (sets it) =
      bears w.disk w.log_disk none (is_gone slot s agree w.disk (gone w.disk off)) (none_joins m was now names joins)
      (subst (λ (o : Bool). SetsWitness w.disk o cs) opened it)

  before_by : (witness : Option Witness) (s : Disks) (cs : List Call) → IsFirstWitness absent was now borne witness → Agrees s slot
      → MaySetAny slot (gone_out m.out) witness cs → SetsBefore m was borne s cs
  before_by None s cs first agree set = none_before (none_joins m was now names first.0) set
  before_by (Some w) s cs (inl it) agree set = closing w s cs agree it.0 it.1 it.2 set
  before_by (Some w) s cs (inr it) agree set = bearing w s cs agree it.0 it.1 it.2 it.3 set

-- what is told of the first witness
pub tells_before : (m : Meta) {slot : ℕ → Slot} {old new : Option Trail} → ((t : Trail) → old ≡ Some t → Agrees (now t) slot)
    → (absent was named borne : Option ℕ) (witness : Option Witness) → IsFirstWitness absent was named borne witness
    → ((d : ℕ) → absent ≡ Some d → is_present (slot d).power ≡ false)
    → ((x : ℕ) → x < 2 → was ≡ Some x → named_out m.out ≢ Some x → CanWrite slot 2 1) → named ≡ named_out m.out
    → Ran old new (λ s cs. MaySetAny slot (gone_out m.out) witness cs) → Ran old new (SetsBefore m was borne)
tells_before m {slot} agrees out was named borne witness first gone can names ran =
    ran_agreed agrees (λ s cs agree set. before_by m slot out was named borne gone can names witness s cs first agree set) ran

-- the disk that was lost, or else the one that is named out
lost_or : (lost now : Option ℕ) (d : ℕ) → or_else lost now ≡ Some d → (lost ≡ Some d) ⊎ (now ≡ Some d)
lost_or None now d is = inr is
lost_or (Some e) now d is = inl is

module _ (m : Meta) (slot : ℕ → Slot) (lost now borne : Option ℕ) (gone : (d : ℕ) → lost ≡ Some d → (slot d).power ≡ Absent) (names : now ≡ named_out m.out) where
  after_one : (w : Witness) (s : Disks) (cs : List Call) → Agrees s slot → w.opened ≡ true → or_else lost now ≡ Some w.disk → borne ≢ Some w.disk
      → MaySetWitness slot (gone_out m.out) w.disk w.opened cs → SetsAfter m borne s cs
  after_one w s cs agree opened out not (cannot why nothing) = none_after nothing
  after_one w s cs agree opened out not (sets it) =
      bears_after w.disk w.log_disk not (record {
        disk = let low = w.log_disk in let many = m.setup.geometry.disks_low in omega arith;
        is = elim (lost_or lost now w.disk out) [
          | inl off ↦ inl (is_gone slot s agree w.disk (ap is_present (gone w.disk off)))
          | inr named ↦ inr (sym names ∙ named)
        ];
      }) (subst (λ (o : Bool). SetsWitness w.disk o cs) opened it)

  after_by : (witness : Option Witness) (s : Disks) (cs : List Call) → IsLastWitness lost now borne witness → Agrees s slot
      → MaySetAny slot (gone_out m.out) witness cs → SetsAfter m borne s cs
  after_by None s cs last agree set = none_after set
  after_by (Some w) s cs last agree set = after_one w s cs agree last.0 last.1 last.2 set

-- what is told of the last one
pub tells_after : (m : Meta) {slot : ℕ → Slot} {old new : Option Trail} → ((t : Trail) → old ≡ Some t → Agrees (now t) slot)
    → (lost named borne : Option ℕ) (witness : Option Witness) → IsLastWitness lost named borne witness
    → ((d : ℕ) → lost ≡ Some d → (slot d).power ≡ Absent) → named ≡ named_out m.out
    → Ran old new (λ s cs. MaySetAny slot (gone_out m.out) witness cs) → Ran old new (SetsAfter m borne)
tells_after m {slot} agrees lost named borne witness last gone names ran =
    ran_agreed agrees (λ s cs agree set. after_by m slot lost named borne gone names witness s cs last agree set) ran

-- each call of a commit is on a disk of the array
pub uses_below : (m : Meta) (batch : Batch) (c : Call) → UsesInCommit m batch c → disk_of c < m.setup.geometry.disks
uses_below m batch c (inl uses) = uses.0
uses_below m batch (Read d p done) (inr uses) = absurd uses
uses_below m batch (Write d p b done) (inr uses) = let at = uses.0 in let many = uses.1 in omega arith
uses_below m batch (Sync d done) (inr uses) = let at = uses.0 in let many = uses.1 in omega arith
uses_below m batch (Park d done) (inr uses) = absurd uses
uses_below m batch (SpinUp d done) (inr uses) = absurd uses
uses_below m batch (Attach d size done) (inr uses) = absurd uses
