-- What the end of an interrupted commit leaves past the log.
use Rattle.std.specs.Prelude.{◌≡◌, ℕ, ◌≤◌, ◌⊎◌, Bool, List, [], ◌∷◌, Option, Contains}
use Rattle.std.proofs.Common.{refl, sym, ◌∙◌, subst, arith, inl, inr}
use Rattle.std.proofs.lemmas.Bool.{cases_eq}
use Rattle.paraid_base.specs.declared.block.Block.{Block}
use Rattle.paraid_base.specs.Log.{log_least}
use Rattle.paraid_rack.specs.declared.call.Call.{Call}
use Rattle.paraid_rack.specs.declared.call.Call.TheVariants.{Read, Write, Sync, Park, SpinUp, Attach}
use Rattle.paraid_rack.specs.Disks.{Disks, step}
use Rattle.paraid_rack.specs.Told.{Ran}
use Rattle.paraid_rack.specs.Trail.{Trail, run}
use Rattle.paraid_rack.proofs.AtomsLemmas.{write_block_other, write_block_same}
use Rattle.paraid_record.specs.declared.meta.Meta.{Meta}
use Rattle.paraid_image.specs.Sides.{Batch}
use Rattle.paraid_txn.specs.Uses.{EachCall, Uses}
use Rattle.paraid_txn.proofs.CommitPartLemmas.{ran_milder}
use Rattle.paraid_recover.specs.Map.{ChangesByBatch, KeepsFar}
use Rattle.paraid_recover.proofs.AttachLemmas.{ran_then}
use Rattle.paraid_recover.proofs.FarLemmas.{run_append}

-- the batch has this block for the place
abbrev pub IsOf : Batch → ℕ → ℕ → Block → Type 0
IsOf batch d p b = Contains batch (record { disk = d; place = p }, b)

-- the block is the one before, or that of the batch
abbrev IsOr : Batch → Disks → Disks → Type 0
IsOr batch a b = (d p : ℕ) → log_least ≤ p → (b.block d p ≡ a.block d p) ⊎ IsOf batch d p (b.block d p)

or_then : (batch : Batch) (a b e : Disks) → IsOr batch a b → IsOr batch b e → IsOr batch a e
or_then batch a b e first second d p far = elim (second d p far) [
  | inl same ↦ elim (first d p far) [
    | inl was ↦ inl (same ∙ was)
    | inr laid ↦ inr (subst (IsOf batch d p) (sym same) laid)
  ]
  | inr laid ↦ inr laid
]

laid_at : (batch : Batch) (s : Disks) (e q : ℕ) (b : Block) (done : Bool) → IsOf batch e q b → (d p : ℕ)
    → ((step (Write e q b done) s).block d p ≡ s.block d p) ⊎ IsOf batch d p ((step (Write e q b done) s).block d p)
laid_at batch s e q b done target d p = elim (cases_eq d e) [
  | inl disk ↦ elim (cases_eq p q) [
    | inl place ↦ inr (subst (λ (x : ℕ). IsOf batch x p ((step (Write e q b done) s).block x p)) (sym disk)
        (subst (λ (x : ℕ). IsOf batch e x ((step (Write e q b done) s).block e x)) (sym place)
        (subst (IsOf batch e q) (sym (write_block_same s e q b done)) target)))
    | inr not ↦ inl (write_block_other s e q b done d p (λ same. not))
  ]
  | inr not ↦ inl (write_block_other s e q b done d p (λ same. absurd (not same)))
]

uses_or : (m : Meta) (batch : Batch) (c : Call) (s : Disks) → Uses m batch c → IsOr batch s (step c s)
unfolding step
uses_or m batch (Read e q done) s uses d p far = inl refl
uses_or m batch (Write e q b done) s uses d p far = elim uses.1 [
  | inl log ↦ inl (write_block_other s e q b done d p (λ same at. let low = log.1 in absurd (omega arith)))
  | inr target ↦ laid_at batch s e q b done target.2 d p
]
uses_or m batch (Sync e done) s uses d p far = inl refl
uses_or m batch (Park e done) s uses d p far = elim uses.1 [ inl log ↦ absurd log | inr target ↦ absurd target ]
uses_or m batch (SpinUp e done) s uses d p far = elim uses.1 [ inl log ↦ absurd log | inr target ↦ absurd target ]
uses_or m batch (Attach e size done) s uses d p far = elim uses.1 [ inl log ↦ absurd log | inr target ↦ absurd target ]

each_or : (m : Meta) (batch : Batch) (s : Disks) (cs : List Call) → EachCall (Uses m batch) s cs → IsOr batch s (run s cs)
each_or m batch s [] each d p far = inl refl
each_or m batch s (c ∷ cs) each d p far = or_then batch s (step c s) (run (step c s) cs) (uses_or m batch c s each.1) (each_or m batch (step c s) cs each.2) d p far

pub batch_ran : (m : Meta) (batch : Batch) (old new : Option Trail) → Ran old new (EachCall (Uses m batch)) → ChangesByBatch batch old new
batch_ran m batch old new ran = ran_milder (EachCall (Uses m batch)) (λ s cs. IsOr batch s (run s cs)) (each_or m batch) ran

either_then : (batch : Batch) (old mid new : Option Trail) → ChangesByBatch batch old mid → ChangesByBatch batch mid new → ChangesByBatch batch old new
either_then batch old mid new first second =
    ran_then (λ s cs. IsOr batch s (run s cs)) (λ s cs. IsOr batch s (run s cs)) (λ s cs. IsOr batch s (run s cs))
    (λ s cs ds a b. subst (IsOr batch s) (sym (run_append s cs ds)) (or_then batch s (run s cs) (run (run s cs) ds) a b)) old mid new first second

far_either : (batch : Batch) (old new : Option Trail) → KeepsFar old new → ChangesByBatch batch old new
far_either batch old new ran t tells =
    let r = ran t tells in
    record { from = r.from; was = r.was; calls = r.calls; is = r.is; holds = λ d p far. inl (r.holds d p far) }

-- before and after it nothing past the log changes
pub far_before : (batch : Batch) (old mid new : Option Trail) → KeepsFar old mid → ChangesByBatch batch mid new → ChangesByBatch batch old new
far_before batch old mid new first second = either_then batch old mid new (far_either batch old mid first) second

pub far_after : (batch : Batch) (old mid new : Option Trail) → ChangesByBatch batch old mid → KeepsFar mid new → ChangesByBatch batch old new
far_after batch old mid new first second = either_then batch old mid new first (far_either batch mid new second)
