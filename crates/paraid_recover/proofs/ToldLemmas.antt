-- What is told of a mount, from the record at which it began.
use Rattle.std.proofs.Common.{◌≡◌, ℕ, ◌≤◌, List, [], ◌++◌, Option, Some, sym, ap, ◌∙◌, inl, inr, subst, arith, drop, length, take}
use Rattle.std.proofs.lemmas.List.{append-nil}
use Rattle.paraid_base.specs.History.{History}
use Rattle.paraid_base.specs.States.{gone_out}
use Rattle.paraid_rack.specs.declared.call.Call.{Call}
use Rattle.paraid_rack.specs.Disks.{Disks}
use Rattle.paraid_rack.specs.Told.{Ran}
use Rattle.paraid_rack.specs.Trail.{Trail, disks, extend, moments, now}
use Rattle.paraid_rack.proofs.TrailsLemmas.{extend-extend}
use Rattle.paraid_image.specs.HeldAt.{IsHeld}
use Rattle.paraid_image.specs.Looked.{IsLooked}
use Rattle.paraid_image.specs.Out.{IsWeak, out_disk}
use Rattle.paraid_image.specs.Rest.{IsAtRest}
use Rattle.paraid_image.specs.RunStart.{IsRunStart}
use Rattle.paraid_image.specs.Sides.{LogState}
use Rattle.paraid_image.specs.Standing.{Stands}
use Rattle.paraid_recover.specs.HeldMoments.{IsAbsentSince}
use Rattle.paraid_recover.specs.Mount.{HasRecovered}
use Rattle.paraid_recover.specs.MountCalls.{IsMountCall}
use Rattle.paraid_recover.specs.RecoveryMark.{with_mark}
use Rattle.paraid_recover.specs.StandingMetas.{IsPoweredFrom, StandsForeseen}
use Rattle.paraid_recover.proofs.RecoverLemmas.{disks_before, disks_last}
use Rattle.paraid_session.specs.Mount.{IsBase, mount_bounds, start_watch}
use Rattle.paraid_session.specs.Watch.{Each, watch_all}
use Rattle.paraid_recover.specs.HeardSides.{ReadsLogs}
use Rattle.paraid_recover.specs.StartCalls.{IsSpinUpRecorded}
use Rattle.paraid_recover.specs.StartParts.{AreMountCalls}
use Rattle.paraid_recover.specs.RecordedSpins.{StaysWithin}
use Rattle.paraid_recover.proofs.BaseLemmas.{some_base}
use Rattle.paraid_recover.proofs.BeganLemmas.{drop_past}
use Rattle.paraid_recover.proofs.PiecesLemmas.{parts_of}
use Rattle.paraid_recover.proofs.SpinsLemmas.{IsOneRecorded}
use Rattle.paraid_recover.proofs.WithinLemmas.{all_recorded, all_within, still_recorded, still_within}
use Rattle.paraid_txn.specs.Resume.{IsResumable}
use Rattle.paraid_txn.specs.Uses.{EachCall}

pub same_trail : (o : Option Trail) (a b : Trail) → o ≡ Some a → o ≡ Some b → a ≡ b
same_trail o a b p q = let z : Some a ≡ Some b = sym p ∙ q in cc

same_calls : (r : Trail) (cs ds : List Call) → extend r cs ≡ extend r ds → cs ≡ ds
same_calls r cs ds is = sym (drop_past r.calls cs) ∙ ap (λ (u : Trail). drop (length r.calls) u.calls) is ∙ drop_past r.calls ds

-- what is told from one record to another holds of the calls between them
pub ran_at : (Q : Disks → List Call → Type 0) (old new : Option Trail) → Ran old new Q → (t r : Trail) (cs : List Call) → new ≡ Some t → old ≡ Some r → t ≡ extend r cs → Q (now r) cs
ran_at Q old new ran t r cs tells was is =
    let c = ran t tells in
    let from : c.from ≡ r = same_trail old c.from r c.was was in
    let calls : c.calls ≡ cs = same_calls r c.calls cs (ap (λ (u : Trail). extend u c.calls) (sym from) ∙ sym c.is ∙ is) in
    subst (λ (u : Trail). Q (now u) cs) from (subst (Q (now c.from)) calls c.holds)

-- the disks and the calls from the moment on at which a record was this one
pub began_disks : (t f : Trail) (cs : List Call) (began : ℕ) → t ≡ extend f cs → began ≡ moments f → disks t began ≡ now f
began_disks t f cs began is at = ap (λ (u : Trail). disks u began) is ∙ ap (disks (extend f cs)) at ∙ disks_before f cs (moments f) (omega arith) ∙ disks_last f

pub began_calls : (t f : Trail) (cs : List Call) (began : ℕ) → t ≡ extend f cs → began ≡ moments f → drop began t.calls ≡ cs
began_calls t f cs began is at = ap (λ (u : Trail). drop began u.calls) is ∙ ap (λ (k : ℕ). drop k (f.calls ++ cs)) at ∙ drop_past f.calls cs

-- The record `t` of a mount that went on after the reads of the log disks: from `began` on these were
-- read, and from `read` on the other calls were made.
pub record IsToldOf (side : ℕ) (said : LogState) (old reading : Option Trail) (t : Trail) : Type 0 where
  pub began : Trail
  pub read : Trail
  pub rs : List Call
  pub ls : List Call
  pub was : old ≡ Some began
  pub reads : reading ≡ Some read
  pub read_is : read ≡ extend began rs
  pub t_is : t ≡ extend read ls
  pub each : EachCall ReadsLogs (now began) rs
  pub later : EachCall (IsMountCall said.meta.setup.geometry.disks (gone_out said.meta.out)) (now read) ls
  pub within : (slots : ℕ) (h : History) (lo : ℕ) (down : Option ℕ) → IsRunStart slots (now began) h lo down → (x : ℕ) (stood : LogState) → Stands (now began) x stood
      → (base : ℕ → ℕ) (ticks : ℕ) → IsBase (now began) x stood base ticks → Each (StaysWithin (mount_bounds stood ticks)) IsSpinUpRecorded (start_watch (now began) down base) (rs ++ ls)
  pub recorded : (slots : ℕ) (h : History) (lo : ℕ) (down : Option ℕ) → IsRunStart slots (now began) h lo down → (x : ℕ) (stood : LogState) → Stands (now began) x stood
      → (base : ℕ → ℕ) (ticks : ℕ) → IsBase (now began) x stood base ticks → (d : ℕ) → IsOneRecorded said.meta d (watch_all (rs ++ ls) (start_watch (now began) down base))

module _ (side : ℕ) (said : LogState) (old new : Option Trail) (it : HasRecovered side said old new) (t : Trail) (tells : new ≡ Some t) where
  foreseen_at : (slots : ℕ) (r : Trail) → it.read ≡ Some r
      → (h : History) (lo m : ℕ) (was down : Option ℕ) → IsResumable (now r) side said → IsHeld slots (now r) h lo was → moments r ≤ m → m ≤ moments t
      → IsAbsentSince said.meta.setup.geometry.disks t (moments r) m down → ((v : ℕ) → IsWeak (now r) v → down ≡ Some v)
      → (i : Disks) (z : ℕ) (o : LogState) → IsLooked (disks t m) i → Stands i z o → StandsForeseen (now r) side said i o.meta
  foreseen_at slots r was_r =
      let f = it.metas.foreseen slots t tells in
      subst (λ (u : Trail). (h : History) (lo m : ℕ) (was down : Option ℕ) → IsResumable (now u) side said → IsHeld slots (now u) h lo was → moments u ≤ m → m ≤ moments t
      → IsAbsentSince said.meta.setup.geometry.disks t (moments u) m down → ((v : ℕ) → IsWeak (now u) v → down ≡ Some v)
      → (i : Disks) (z : ℕ) (o : LogState) → IsLooked (disks t m) i → Stands i z o → StandsForeseen (now u) side said i o.meta)
      (same_trail it.read f.0 r f.1 was_r) f.3

  unpowered : new ≡ it.metas.settled → IsToldOf side said old it.read t
  unpowered same =
      let a = it.metas.still t (sym same ∙ tells) in
      let b = it.first_calls a.from a.was in
      record {
        began = b.from;
        read = a.from;
        rs = b.calls;
        ls = a.calls;
        was = b.was;
        reads = a.was;
        read_is = b.is;
        t_is = a.is;
        each = b.holds;
        later = ran_at (EachCall (IsMountCall said.meta.setup.geometry.disks (gone_out said.meta.out))) it.read new it.later_calls t a.from a.calls tells a.was a.is;
        within = λ slots h lo down start x stood stands base ticks is_base.
            still_within slots b.from a.from t t b.calls a.calls [] b.is a.is (ap (λ (cs : List Call). record t { calls = cs }) (sym (append-nil t.calls))) b.holds h lo down start x stood stands
            side said (it.stands a.from a.was) base ticks is_base (foreseen_at slots a.from a.was) a.holds;
        recorded = λ slots h lo down start x stood stands base ticks is_base d.
            still_recorded slots b.from a.from t t b.calls a.calls [] b.is a.is (ap (λ (cs : List Call). record t { calls = cs }) (sym (append-nil t.calls))) b.holds h lo down start x stood stands
            side said (it.stands a.from a.was) base ticks is_base (foreseen_at slots a.from a.was) a.holds d;
      }

  powered : IsPoweredFrom side said it.read it.metas.settled new → IsToldOf side said old it.read t
  powered pf =
      let e = pf.calls t tells in
      let a = it.metas.still e.from e.was in
      let b = it.first_calls a.from a.was in
      let all : t ≡ extend a.from (a.calls ++ e.calls) = e.is ∙ ap (λ (u : Trail). extend u e.calls) a.is ∙ extend-extend a.from a.calls e.calls in
      record {
        began = b.from;
        read = a.from;
        rs = b.calls;
        ls = a.calls ++ e.calls;
        was = b.was;
        reads = a.was;
        read_is = b.is;
        t_is = all;
        each = b.holds;
        later = ran_at (EachCall (IsMountCall said.meta.setup.geometry.disks (gone_out said.meta.out))) it.read new it.later_calls t a.from (a.calls ++ e.calls) tells a.was all;
        within = λ slots h lo down start x stood stands base ticks is_base.
            all_within slots b.from a.from e.from t b.calls a.calls e.calls b.is a.is e.is b.holds h lo down start x stood stands
            side said (it.stands a.from a.was) base ticks is_base (foreseen_at slots a.from a.was) a.holds
            pf.mark (rests_at slots a.from a.was e.from e.was pf) (pf.out e.from e.was) e.holds;
        recorded = λ slots h lo down start x stood stands base ticks is_base d.
            all_recorded slots b.from a.from e.from t b.calls a.calls e.calls b.is a.is e.is b.holds h lo down start x stood stands
            side said (it.stands a.from a.was) base ticks is_base (foreseen_at slots a.from a.was) a.holds
            pf.mark (rests_at slots a.from a.was e.from e.was pf) (pf.out e.from e.was) e.holds d;
      }
    where
      rests_at : (slots : ℕ) (r : Trail) → it.read ≡ Some r → (st : Trail) → it.metas.settled ≡ Some st → (q : IsPoweredFrom side said it.read it.metas.settled new)
          → (h : History) (lo : ℕ) (was down : Option ℕ) → IsResumable (now r) side said → IsHeld slots (now r) h lo was
          → IsAbsentSince said.meta.setup.geometry.disks st (moments r) (moments st) down → ((v : ℕ) → IsWeak (now r) v → down ≡ Some v)
          → IsAtRest (now st) (with_mark said.meta q.mark)
          × IsHeld slots (now st) (take (with_mark said.meta q.mark).writes h) (with_mark said.meta q.mark).writes (out_disk (now st).power (with_mark said.meta q.mark))
      rests_at slots r was_r st was_st q =
          let e = q.rests slots st was_st in
          subst (λ (u : Trail). (h : History) (lo : ℕ) (was down : Option ℕ) → IsResumable (now u) side said → IsHeld slots (now u) h lo was
          → IsAbsentSince said.meta.setup.geometry.disks st (moments u) (moments st) down → ((v : ℕ) → IsWeak (now u) v → down ≡ Some v)
          → IsAtRest (now st) (with_mark said.meta q.mark)
          × IsHeld slots (now st) (take (with_mark said.meta q.mark).writes h) (with_mark said.meta q.mark).writes (out_disk (now st).power (with_mark said.meta q.mark)))
          (same_trail it.read e.0 r e.1 was_r) e.2

  -- What is told of a mount that goes on after the reads.
  pub told_of : IsToldOf side said old it.read t
  told_of = elim it.metas.powers [ inl same ↦ unpowered same | inr pf ↦ powered pf ]

  recovers_at : (slots : ℕ) (r : Trail) → it.read ≡ Some r
      → (h : History) (lo m : ℕ) (was down : Option ℕ) → IsResumable (now r) side said → IsHeld slots (now r) h lo was → moments r ≤ m → m ≤ moments t
      → IsAbsentSince said.meta.setup.geometry.disks t (moments r) m down → ((v : ℕ) → IsWeak (now r) v → down ≡ Some v) → IsHeld slots (disks t m) h lo down
  recovers_at slots r was_r =
      let f = it.holds slots t tells in
      subst (λ (u : Trail). (h : History) (lo m : ℕ) (was down : Option ℕ) → IsResumable (now u) side said → IsHeld slots (now u) h lo was → moments u ≤ m → m ≤ moments t
      → IsAbsentSince said.meta.setup.geometry.disks t (moments u) m down → ((v : ℕ) → IsWeak (now u) v → down ≡ Some v) → IsHeld slots (disks t m) h lo down)
      (same_trail it.read f.0 r f.1 was_r) f.3

  -- Its calls are what is asked of those of a mount.
  pub told_parts : (told : IsToldOf side said old it.read t) (slots : ℕ) (h : History) (lo : ℕ) (down : Option ℕ) → IsRunStart slots (now told.began) h lo down → (x : ℕ) (stood : LogState)
      → Stands (now told.began) x stood → AreMountCalls slots (now told.began) x stood h lo down (told.rs ++ told.ls)
  told_parts told slots h lo down start x stood stands =
      let b = some_base slots (now told.began) h lo down start x stood stands in
      parts_of slots told.began told.read t told.rs told.ls told.read_is told.t_is told.each h lo down start x stood stands side said (it.stands told.read told.reads) b.0
      told.later (recovers_at slots told.read told.reads) b.1 b.2 (told.within slots h lo down start x stood stands b.0 b.1 b.2)
