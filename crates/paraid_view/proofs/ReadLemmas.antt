-- Some reads, one after the other.
use Rattle.std.specs.Prelude.{◌≡◌, ◌≢◌, ℕ, ◌<◌, ◌≤◌, Bool, true, false, List, [], ◌∷◌, ◌++◌, Option, Some, None, Result, Ok, Err, IsErrAnd, IsSome, ◌&&◌, nat_lt}
use Rattle.std.proofs.Common.{refl, sym, ◌∙◌, ap, subst, arith, inl, inr}
use Rattle.std.proofs.lemmas.Bool.{cases_eq, false≢true}
use Rattle.std.proofs.lemmas.Bool.Decides.{nat_tests}
use Rattle.std.proofs.lemmas.List.{append-nil}
use Rattle.paraid_base.specs.declared.block.Block.{Block}
use Rattle.paraid_base.specs.Log.{log_least}
use Rattle.paraid_rack.specs.declared.call.Call.{Call}
use Rattle.paraid_rack.specs.declared.call.Call.TheVariants.{Read, Write, Sync, Park, SpinUp, Attach}
use Rattle.paraid_rack.specs.declared.call.Power.{Power}
use Rattle.paraid_rack.specs.declared.call.Power.TheVariants.{Spinning, Absent}
use Rattle.paraid_rack.specs.Calls.{disk_of}
use Rattle.paraid_rack.specs.Disks.{Disks, is_present, power_after, size_after, step, with_at}
use Rattle.paraid_rack.specs.Slots.{Agrees, Slot, ChangesOneSlot}
use Rattle.paraid_rack.specs.Told.{GrowsByCall, Ran}
use Rattle.paraid_rack.specs.Trail.{Trail, now, run}
use Rattle.paraid_rack.proofs.AtomsLemmas.{read_block-same, with_at_other, with_at_same}
use Rattle.paraid_rack.proofs.TrailsLemmas.{Ran-call, Ran-none, Ran-then, now-extend}
use Rattle.paraid_txn.specs.declared.store.Store.{Store}
use Rattle.paraid_txn.specs.Losses.{IsLostNow}
use Rattle.paraid_image.specs.Lost.{EndsByLoss, first_lost}
use Rattle.paraid_image.specs.Sides.{Batch, has_place}
use Rattle.paraid_image.proofs.LostLemmas.{loss_failed, ran_ends}
use Rattle.paraid_image.specs.Standing.{Contents, overlaid_block}
use Rattle.paraid_txn.specs.Stores.{IsSameStore, store_rack}
use Rattle.paraid_view.specs.Reads.{AreLeft, AreArrayReads, AreOffDisk, HaveRead, ShowsContents, lost_by}

-- calls

AreArrayReads-append : (n : ℕ) (s : Disks) (cs ds : List Call) → AreArrayReads n s cs → AreArrayReads n (run s cs) ds → AreArrayReads n s (cs ++ ds)
AreArrayReads-append n s [] ds a b = b
AreArrayReads-append n s (c ∷ cs) ds a b = (a.0, AreArrayReads-append n (step c s) cs ds a.1 b)

pub ran_none : (told : Option Trail) (n : ℕ) → Ran told told (AreArrayReads n)
ran_none told n t tells = record {
  from = t;
  was = tells;
  calls = [];
  is = ap (λ (l : List Call). record { start = t.start; calls = l }) (sym (append-nil t.calls));
  holds = tt;
}

pub ran_one : (old new : Option Trail) (n d p : ℕ) (done : Bool) → d < n → ((t : Trail) → old ≡ Some t → (now t).power d ≡ Spinning)
    → GrowsByCall old new (Read d p done) → Ran old new (AreArrayReads n)
ran_one old new n d p done low spins grows t tells =
    let g = grows t tells in
    record {
      from = g.0;
      was = g.1;
      calls = Read d p done ∷ [];
      is = g.2;
      holds = ((low, spins g.0 g.1), tt);
    }

pub ran_then : (old mid new : Option Trail) (n : ℕ) → Ran old mid (AreArrayReads n) → Ran mid new (AreArrayReads n) → Ran old new (AreArrayReads n)
ran_then old mid new n first second = Ran-then (AreArrayReads n) (AreArrayReads-append n) old mid new first second

-- calls that are not on this disk

AreOffDisk-append : (out : Option ℕ) (s : Disks) (cs ds : List Call) → AreOffDisk out s cs → AreOffDisk out (run s cs) ds → AreOffDisk out s (cs ++ ds)
AreOffDisk-append out s [] ds a b = b
AreOffDisk-append out s (c ∷ cs) ds a b = (a.0, AreOffDisk-append out (step c s) cs ds a.1 b)

pub off_none : (out : Option ℕ) (told : Option Trail) → Ran told told (AreOffDisk out)
off_none out told = Ran-none (AreOffDisk out) (λ s. tt) told

pub off_one : (out : Option ℕ) (old new : Option Trail) (d p : ℕ) (done : Bool) → out ≢ Some d → GrowsByCall old new (Read d p done) → Ran old new (AreOffDisk out)
off_one out old new d p done not grows = Ran-call (AreOffDisk out) old new (Read d p done) grows (λ t is. (not, tt))

pub off_then : (out : Option ℕ) (old mid new : Option Trail) → Ran old mid (AreOffDisk out) → Ran mid new (AreOffDisk out) → Ran old new (AreOffDisk out)
off_then out old mid new first second = Ran-then (AreOffDisk out) (AreOffDisk-append out) old mid new first second

off_all : (s : Disks) (cs : List Call) → AreOffDisk None s cs
off_all s [] = tt
off_all s (c ∷ cs) = (λ is. let z : None ≡ Some (disk_of c) = is in cc, off_all (step c s) cs)

-- where this one is the other one
pub off_same : (out off : Option ℕ) (old new : Option Trail) → out ≡ off → Ran old new (AreOffDisk off) → Ran old new (AreOffDisk out)
off_same out off old new is ran = subst (λ (o : Option ℕ). Ran old new (AreOffDisk o)) (sym is) ran

-- where none is named, no call is on it
pub off_nobody : (out : Option ℕ) (Q : Disks → List Call → Type 0) (old new : Option Trail) → out ≡ None → Ran old new Q → Ran old new (AreOffDisk out)
off_nobody out Q old new none ran t tells =
    let r = ran t tells in
    record { from = r.from; was = r.was; calls = r.calls; is = r.is; holds = subst (λ (o : Option ℕ). AreOffDisk o (now r.from) r.calls) (sym none) (off_all (now r.from) r.calls) }

-- what is told now was told before
pub told_before : (old new : Option Trail) (Q : Disks → List Call → Type 0) → Ran old new Q → IsSome new → IsSome old
told_before old (Some t) Q ran some = let r = ran t refl in subst IsSome (sym r.was) refl
told_before old None Q ran some = absurd (false≢true some)

-- slots

pub left_none : (s : ℕ → Slot) → AreLeft None s s
left_none s = record {
  others = λ d not. refl;
  failed = λ d is. let z : None ≡ Some d = is in cc;
  later = λ d is. let z : None ≡ Some d = is in cc;
}

pub left_same : (old new : ℕ → Slot) → AreLeft None old new → new ≡ old
left_same old new left = λ t. λ d. (left.others d (λ is. let z : None ≡ Some d = is in cc)) t

pub left_then : (lost : Option ℕ) (a b c : ℕ → Slot) → AreLeft None a b → AreLeft lost b c → AreLeft lost a c
left_then lost a b c first second = subst (λ (s : ℕ → Slot). AreLeft lost s c) (left_same a b first) second

pub left_touched : (old new : ℕ → Slot) (d : ℕ) (result : Result (Unit {0}) ℕ) (done : Bool) → ChangesOneSlot old new d (old d) (old d).unsynced done
    → ((e : ℕ) → result ≡ Err e → (e ≡ d) × (done ≡ false)) → (result ≡ Ok tt → done ≡ true) → AreLeft (lost_by result) old new
left_touched old new d (Ok tt) done touched failed ok = record {
  others = λ e not. elim (cases_eq e d) [
    | inl is ↦ ap new is ∙ touched.done (ok refl) ∙ ap old (sym is)
    | inr apart ↦ touched.others e apart
  ];
  failed = λ e is. let z : None ≡ Some e = is in cc;
  later = λ e is. let z : None ≡ Some e = is in cc;
}
left_touched old new d (Err x) done touched failed ok =
    let f = failed x refl in
    record {
      others = λ e not. touched.others e (λ is. not (ap Some (f.0 ∙ sym is)));
      failed = λ e is.
          let z : Some x ≡ Some e = is in
          let y : x ≡ e = cc in
          subst (IsLostNow old new) (sym f.0 ∙ y) (record { risen = touched.risen f.1; absent = touched.absent f.1 });
      later = λ e is.
          let z : Some x ≡ Some e = is in
          let y : x ≡ e = cc in
          subst (λ (k : ℕ). (old k).faults ≤ (new k).faults) (sym f.0 ∙ y) (touched.later f.1);
    }

-- both

module _ {R : Type 0} {g : _} (count : R → ℕ) (slot : R → ℕ → Slot) (told : R → Option Trail) where
  pub read_none : (n : ℕ) (s : Store R g) → HaveRead count slot told n None s s
  read_none n s = record {
    slots = refl;
    same = record { disks = refl; epoch = refl; named = refl };
    left = left_none (slot (store_rack s));
    calls = ran_none (told (store_rack s)) n;
    ends = Ran-none (λ s cs. first_lost cs ≡ None) (λ s. refl) (told (store_rack s));
  }

  pub read_then : (n k : ℕ) (lost : Option ℕ) (a b c : Store R g) → k ≡ n → HaveRead count slot told n None a b → HaveRead count slot told k lost b c → HaveRead count slot told n lost a c
  read_then n k lost a b c is first second = record {
    slots = second.slots ∙ first.slots;
    same = record { disks = second.same.disks ∙ first.same.disks; epoch = second.same.epoch ∙ first.same.epoch; named = second.same.named ∙ first.same.named };
    left = left_then lost (slot (store_rack a)) (slot (store_rack b)) (slot (store_rack c)) first.left second.left;
    calls = ran_then (told (store_rack a)) (told (store_rack b)) (told (store_rack c)) n first.calls
        (subst (λ (m : ℕ). Ran (told (store_rack b)) (told (store_rack c)) (AreArrayReads m)) is second.calls);
    ends = ran_ends lost (told (store_rack a)) (told (store_rack b)) (told (store_rack c)) first.ends second.ends;
  }

-- what a `?` hands on
pub lost_again : (r : Result (Unit {0}) ℕ) (e : ℕ) → IsErrAnd r (λ x. x ≡ e) → lost_by r ≡ Some e
lost_again (Ok a) e is = absurd is
lost_again (Err x) e is = ap Some is

module _ {R : Type 0} {g : _} (count : R → ℕ) (slot : R → ℕ → Slot) (told : R → Option Trail) where
  pub read_failed : (n k e : ℕ) (r : Result (Unit {0}) ℕ) (a b c : Store R g) → k ≡ n → IsErrAnd r (λ x. x ≡ e) → HaveRead count slot told n None a b → HaveRead count slot told k (Some e) b c
      → HaveRead count slot told n (lost_by r) a c
  read_failed n k e r a b c is err first second =
      subst (λ (o : Option ℕ). HaveRead count slot told n o a c) (sym (lost_again r e err)) (read_then count slot told n k (Some e) a b c is first second)

-- A disk that is there after a read was there before, and all blocks are as before.
module _ (s : Disks) (e q : ℕ) where
  place_by : (s t : Disks) (d p : ℕ) → t.power d ≡ s.power d → t.size d ≡ s.size d → has_place t d p ≡ true → has_place s d p ≡ true
  place_by s t d p power size there = sym (ap (λ (w : Power). is_present w && nat_lt p (t.size d)) power ∙ ap (λ (z : ℕ). is_present (s.power d) && nat_lt p z) size) ∙ there

  read_place : (done : Bool) (d p : ℕ) → has_place (step (Read e q done) s) d p ≡ true → has_place s d p ≡ true
  unfolding step
  read_place done d p there = elim (cases_eq d e) [
    | inr apart ↦ place_by s (step (Read e q done) s) d p (with_at_other s.power e (power_after done (s.power e)) d apart) (with_at_other s.size e (size_after done (s.size e)) d apart) there
    | inl is ↦ by done is there
  ]
    where
      same : (d : ℕ) → d ≡ e → {A : Type 0} (f : ℕ → A) (v : A) → with_at f e v d ≡ v
      same d is f v = with_at_same f e v d is

      by : (done : Bool) → d ≡ e → has_place (step (Read e q done) s) d p ≡ true → has_place s d p ≡ true
      by true is there = place_by s (step (Read e q true) s) d p (same d is s.power (s.power e) ∙ ap s.power (sym is)) (same d is s.size (s.size e) ∙ ap s.size (sym is)) there
      by false is there = absurd (false≢true (sym (ap (λ (w : Power). is_present w && nat_lt p ((step (Read e q false) s).size d)) (same d is s.power Absent)) ∙ there))

reads_show : (n : ℕ) (batch : Batch) (f : Contents) (s : Disks) (cs : List Call) → AreArrayReads n s cs
    → ((d p : ℕ) → has_place s d p ≡ true → log_least ≤ p → overlaid_block batch d p (s.block d p) ≡ f d p)
    → (d p : ℕ) → has_place (run s cs) d p ≡ true → log_least ≤ p → overlaid_block batch d p ((run s cs).block d p) ≡ f d p
reads_show n batch f s [] are shows = shows
reads_show n batch f s (Read e q done ∷ cs) are shows =
    reads_show n batch f (step (Read e q done) s) cs are.1
    (λ d p there far. ap (λ (b : ℕ → ℕ → Block). overlaid_block batch d p (b d p)) (read_block-same s e q done) ∙ shows d p (read_place s e q done d p there) far)
reads_show n batch f s (Write e q b done ∷ cs) are shows = absurd are.0
reads_show n batch f s (Sync e done ∷ cs) are shows = absurd are.0
reads_show n batch f s (Park e done ∷ cs) are shows = absurd are.0
reads_show n batch f s (SpinUp e done ∷ cs) are shows = absurd are.0
reads_show n batch f s (Attach e size done ∷ cs) are shows = absurd are.0

pub shows_after : (n : ℕ) (old new : Option Trail) (batch : Batch) (f : Contents) → Ran old new (AreArrayReads n) → ShowsContents old batch f → ShowsContents new batch f
shows_after n old new batch f ran shows t tells =
    let r = ran t tells in
    let here : now t ≡ run (now r.from) r.calls = ap now r.is ∙ now-extend r.from r.calls in
    subst (λ (s : Disks). (d p : ℕ) → has_place s d p ≡ true → log_least ≤ p → overlaid_block batch d p (s.block d p) ≡ f d p) (sym here)
    (reads_show n batch f (now r.from) r.calls r.holds (shows r.from r.was))

-- the disk of one read that fails
one_lost : (d p : ℕ) (result : Result (Unit {0}) ℕ) (done : Bool) → ((e : ℕ) → result ≡ Err e → (e ≡ d) × (done ≡ false)) → (result ≡ Ok tt → done ≡ true) → EndsByLoss (lost_by result) (Read d p done ∷ [])
one_lost d p (Ok tt) done failed ok = rw (ok refl) refl
one_lost d p (Err x) done failed ok = let f = failed x refl in loss_failed x (Read d p done) f.1 (sym f.0)

-- one read
module _ {R : Type 0} {g : _} (count : R → ℕ) (slot : R → ℕ → Slot) (told : R → Option Trail) (agrees : (rack : R) (t : Trail) → told rack ≡ Some t → Agrees (now t) (slot rack)) where
  pub read_one : (n d p : ℕ) (result : Result (Unit {0}) ℕ) (done : Bool) (a b : Store R g) → d < n → count (store_rack b) ≡ count (store_rack a) → IsSameStore a b
      → ChangesOneSlot (slot (store_rack a)) (slot (store_rack b)) d (slot (store_rack a) d) (slot (store_rack a) d).unsynced done
      → GrowsByCall (told (store_rack a)) (told (store_rack b)) (Read d p done) → (slot (store_rack a) d).power ≡ Spinning
      → ((e : ℕ) → result ≡ Err e → (e ≡ d) × (done ≡ false)) → (result ≡ Ok tt → done ≡ true) → HaveRead count slot told n (lost_by result) a b
  read_one n d p result done a b low slots same touched grows spins failed ok = record {
    slots = slots;
    same = same;
    left = left_touched (slot (store_rack a)) (slot (store_rack b)) d result done touched failed ok;
    calls = ran_one (told (store_rack a)) (told (store_rack b)) n d p done low (λ t tells. (agrees (store_rack a) t tells).power d ∙ spins) grows;
    ends = Ran-call (λ s cs. EndsByLoss (lost_by result) cs) (told (store_rack a)) (told (store_rack b)) (Read d p done) grows (λ t is. one_lost d p result done failed ok);
  }

-- a place of a disk that spins is there
there : (s : Disks) (slot : ℕ → Slot) (d p : ℕ) → Agrees s slot → (slot d).power ≡ Spinning → p < (slot d).size → has_place s d p ≡ true
there s slot d p agrees spins within =
    let size = agrees.size d in
    let low : p < s.size d = omega arith in
    let here : is_present (s.power d) ≡ true = ap is_present (agrees.power d ∙ spins) in
    rw here (grind (arith, nat_tests))

-- What is read is what is shown.
pub value_laid : (batch : Batch) (f : Contents) (old new : Option Trail) (Q : Disks → List Call → Type 0) (slot : ℕ → Slot) (d p : ℕ) (b : Block)
    → ((t : Trail) → old ≡ Some t → Agrees (now t) slot) → (slot d).power ≡ Spinning → p < (slot d).size → log_least ≤ p → Ran old new Q
    → ShowsContents old batch f → IsSome new → ((t : Trail) → old ≡ Some t → b ≡ overlaid_block batch d p ((now t).block d p)) → b ≡ f d p
value_laid batch f (Some t) new Q slot d p b agrees spins within far ran shows some is = is t refl ∙ shows t refl d p (there (now t) slot d p (agrees t refl) spins within) far
value_laid batch f None new Q slot d p b agrees spins within far ran shows some is = let z : IsSome {T = Trail} None = told_before None new Q ran some in absurd (false≢true z)
