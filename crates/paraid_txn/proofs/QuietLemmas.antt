-- The end of a commit that was not interrupted only reads.
use Rattle.std.specs.Prelude.{◌≡◌, ◌≢◌, ℕ, ◌<◌, Bool, true, false, Option, Some}
use Rattle.std.proofs.Common.{refl, arith, ap, subst, sym, ◌∙◌}
use Rattle.std.proofs.lemmas.Bool.{false≢true, true≢false}
use Rattle.paraid_base.specs.declared.block.Block.{Block}
use Rattle.paraid_rack.specs.declared.call.Call.{Call}
use Rattle.paraid_rack.specs.declared.call.Call.TheVariants.{Read}
use Rattle.paraid_rack.specs.Calls.{IsRead}
use Rattle.paraid_rack.specs.Disks.{is_present}
use Rattle.paraid_rack.specs.Slots.{Agrees, Slot}
use Rattle.paraid_rack.specs.Told.{Ran}
use Rattle.paraid_rack.specs.Trail.{Trail, now}
use Rattle.paraid_record.specs.declared.meta.Meta.{Meta}
use Rattle.paraid_image.specs.Out.{named_out}
use Rattle.paraid_image.specs.Rest.{AreLogGatesClosed}
use Rattle.paraid_image.specs.Sides.{Batch, closed_over, is_open, log_state}
use Rattle.paraid_txn.specs.Ready.{IsLogReady}
use Rattle.paraid_txn.specs.Resume.{OnlyReadsIfClosed}
use Rattle.paraid_txn.specs.Uses.{EachCall, IsThisCall, UsesLog}
use Rattle.paraid_txn.proofs.CommitPartLemmas.{EachCall-milder, ran_milder}
use Rattle.paraid_txn.proofs.WholeLemmas.{stored_here}

-- a read alone
this_read : (skip : Option ℕ) (d p : ℕ) (c : Call) → IsThisCall skip d (λ done. Read d p done) c → IsRead c
this_read skip d p c is = subst IsRead (sym is.2) tt

pub quiet_read : {skip : Option ℕ} {d p : ℕ} {old new : Option Trail} → Ran old new (EachCall (IsThisCall skip d (λ done. Read d p done))) → (m : Meta) → OnlyReadsIfClosed old new (closed_over m)
quiet_read {skip} {d} {p} ran m =
    ran_milder (EachCall (IsThisCall skip d (λ done. Read d p done))) (λ start calls. false ≡ false → AreLogGatesClosed start m → EachCall IsRead start calls)
    (λ s cs each closed shut. EachCall-milder (IsThisCall skip d (λ done. Read d p done)) IsRead (this_read skip d p) s cs each) ran

-- a gate is not closed
pub quiet_open : {skip : Option ℕ} {x : ℕ} {found : Block} {slot : ℕ → Slot} {old new : Option Trail} → Ran old new (EachCall (UsesLog skip))
    → x < 2 → skip ≢ Some x → IsLogReady skip slot → is_present (slot x).power ≡ true → ((t : Trail) → old ≡ Some t → Agrees (now t) slot)
    → ((t : Trail) → old ≡ Some t → found ≡ (now t).block x 0) → is_open found ≡ true → (m : Meta) → named_out m.out ≡ skip → OnlyReadsIfClosed old new (closed_over m)
quiet_open {skip} {x} {found} {slot} ran low not ready here agrees bytes opened m named t tells =
    let r = ran t tells in
    let same = agrees r.from r.was in
    let there = ap is_present (same.power x) ∙ here in
    let within = (ready.can x low not).within here in
    let size = same.size x in
    record {
      from = r.from;
      was = r.was;
      calls = r.calls;
      is = r.is;
      holds = λ closed shut.
          absurd (true≢false (sym opened ∙ ap is_open (bytes r.from r.was ∙ sym (stored_here (now r.from) x 0 there (omega arith))) ∙ shut x low there (λ e. not (sym named ∙ e))));
    }

-- what is said of a closed gate
pub quiet_closed : (opened : Bool) (m : Meta) (batch : Batch) (old new : Option Trail) → OnlyReadsIfClosed old new (closed_over m) → OnlyReadsIfClosed old new (log_state opened m batch)
quiet_closed opened m batch old new reads =
    ran_milder (λ start calls. false ≡ false → AreLogGatesClosed start m → EachCall IsRead start calls) (λ start calls. opened ≡ false → AreLogGatesClosed start m → EachCall IsRead start calls)
    (λ s cs reads closed shut. reads refl shut) reads

-- and of an open one
pub quiet_opened : (m : Meta) (batch : Batch) (opened : Bool) (uses : Call → Type 0) (old new : Option Trail) → opened ≡ true → Ran old new (EachCall uses) → OnlyReadsIfClosed old new (log_state opened m batch)
quiet_opened m batch opened uses old new is ran =
    ran_milder (EachCall uses) (λ start calls. opened ≡ false → AreLogGatesClosed start m → EachCall IsRead start calls) (λ s cs each closed shut. absurd (false≢true (sym closed ∙ is))) ran
