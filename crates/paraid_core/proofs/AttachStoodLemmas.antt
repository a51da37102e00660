-- What stands after an attach stood before it.
use Rattle.std.specs.Prelude.{◌≡◌, ◌≢◌, ℕ, Bool, true, false, List, [], Option}
use Rattle.std.proofs.Common.{refl, sym, ◌∙◌, ap, subst, inl, inr}
use Rattle.std.proofs.lemmas.Bool.{cases_Bool, false≢true}
use Rattle.paraid_base.specs.declared.block.Block.{Block}
use Rattle.paraid_base.specs.declared.state.Out.TheVariants.{Gone}
use Rattle.paraid_base.specs.History.{History}
use Rattle.paraid_base.specs.Xor.{zero_block}
use Rattle.paraid_rack.specs.declared.call.Call.TheVariants.{Attach}
use Rattle.paraid_rack.specs.declared.call.Power.TheVariants.{Absent, Parked, Spinning}
use Rattle.paraid_rack.specs.Disks.{Disks, IsImage, is_present, lose, step, with_at}
use Rattle.paraid_rack.proofs.AtomsLemmas.{at_case, with_at_other, with_at_same}
use Rattle.paraid_record.specs.declared.meta.Meta.{Meta}
use Rattle.paraid_image.specs.HeldAt.{IsHeld}
use Rattle.paraid_image.specs.LostDisk.{IsLoss}
use Rattle.paraid_image.specs.Looked.{IsLooked}
use Rattle.paraid_image.specs.Looked.IsLooked.{lost, whole}
use Rattle.paraid_image.specs.Out.{out_disk}
use Rattle.paraid_image.specs.Sides.{Batch, LogState, Says, closed_over, has_place, is_open, stored_block}
use Rattle.paraid_image.specs.Standing.{Stands}
use Rattle.paraid_image.proofs.CallLemmas.{says_not_lost, zeroed_closed}
use Rattle.paraid_image.proofs.FailedCallLemmas.{failed_is_loss, others_keep}
use Rattle.paraid_image.proofs.SidesLemmas.{blank_says_nothing}
use Rattle.paraid_image.proofs.StandingLemmas.{Stands-same}
use Rattle.paraid_image.proofs.SwapLemmas.{stands_now, weak_swapped}
use Rattle.paraid_moves.proofs.ChangedDiskLemmas.{attached_to}
use Rattle.paraid_moves.proofs.RunLemmas.{copies_held}
use Rattle.paraid_core.specs.CoreInvariant.{HoldsBetweenCalls}
use Rattle.paraid_core.specs.Replaced.{KeepsCommitted}
use Rattle.paraid_core.specs.Stood.{StoodBeside}

stored_zero : (j : Disks) (d p : ℕ) → j.block d p ≡ zero_block → stored_block j d p ≡ zero_block
unfolding stored_block
stored_zero j d p is = elim (cases_Bool (has_place j d p)) [ inl there ↦ rw there is | inr none ↦ rw none refl ]

-- a disk that is not there says nothing
absent_silent : (j : Disks) (d : ℕ) → is_present (j.power d) ≡ false → (said : LogState) → Says j d said → ⊥
absent_silent j d away said says = false≢true (sym away ∙ says.present)

-- Disk `d` is changed, which is gone by all that stands.
module _ (slots : ℕ) (s t : Disks) (h : History) (lo : ℕ) (down : Option ℕ) (d : ℕ) (gone : (i : Disks) (x : ℕ) (said : LogState) → IsImage s i → Stands i x said → said.meta.out ≡ Gone d)
    (held : IsHeld slots s h lo down) (power : (x : ℕ) → x ≢ d → t.power x ≡ s.power x) (size : (x : ℕ) → x ≢ d → t.size x ≡ s.size x)
    (block : (x p : ℕ) → x ≢ d → t.block x p ≡ s.block x p) (loose : (x p : ℕ) → x ≢ d → t.loose x p ≡ s.loose x p)
    (silent : (j : Disks) → IsImage t j → (said : LogState) → Says j d said → ⊥) (unparked : t.power d ≢ Parked) where
  abbrev before : Disks → Disks
  before j = record { power = s.power; size = s.size; block = with_at j.block d (s.block d); loose = j.loose }

  before_is : (j : Disks) → IsImage t j → IsImage s (before j)
  before_is j e = record {
    power = λ x. refl;
    size = λ x. refl;
    block = λ x q synced. at_case (λ (f : ℕ → Block). f q ≡ s.block x q) j.block d (s.block d) x
        (λ is. ap (λ (y : ℕ). s.block y q) (sym is))
        (λ not. e.block x q (loose x q not ∙ synced) ∙ block x q not);
    loose = e.loose;
  }

  block_back : (j : Disks) (x p : ℕ) → x ≢ d → j.block x p ≡ (before j).block x p
  block_back j x p not = sym (others_keep j.block d (s.block d) x p not)

  -- disks that agree with it but for `d`, which says nothing
  module _ (j u : Disks) (e : IsImage t j) (powers : (x : ℕ) → x ≢ d → u.power x ≡ s.power x) (sizes : (x : ℕ) → x ≢ d → u.size x ≡ s.size x)
      (blocks : (x p : ℕ) → x ≢ d → u.block x p ≡ (before j).block x p) (nothing : (said : LogState) → Says u d said → ⊥) (turns : u.power d ≢ Parked) where
    stood_swapped : (x : ℕ) (said : LogState) → Stands u x said → StoodBeside s d u x said
    stood_swapped x said stands =
        let was = held.whole (before j) (before_is j e) in
        let is_gone = gone (before j) was.sound.disk was.sound.said (before_is j e) was.sound.log.stands in
        let now = stands_now slots (before j) u h was.k d powers sizes blocks nothing turns was.sound is_gone in
        let same = Stands-same u x was.sound.disk said was.sound.said stands now in
        let stood : Stands (before j) x said =
        subst (λ (y : ℕ). Stands (before j) y said) (sym same.0) (subst (λ (o : LogState). Stands (before j) was.sound.disk o) (sym same.1) was.sound.log.stands) in
        record {
          image = before j;
          is = before_is j e;
          stands = stood;
          gone = gone (before j) x said (before_is j e) stood;
          power = λ y not. sym (powers y not);
        }

  stood_whole : (j : Disks) → IsImage t j → (x : ℕ) (said : LogState) → Stands j x said → StoodBeside s d j x said
  stood_whole j e =
      stood_swapped j j e (λ x not. e.power x ∙ power x not) (λ x not. e.size x ∙ size x not) (λ x p not. block_back j x p not) (silent j e) (λ parked. unparked (sym (e.power d) ∙ parked))

  stood_lost : (i : Disks) → IsImage t i → (x : ℕ) (said : LogState) → Stands (lose d i) x said → StoodBeside s d (lose d i) x said
  stood_lost i e =
      stood_swapped i (lose d i) e (λ x not. with_at_other i.power d Absent x not ∙ e.power x ∙ power x not) (λ x not. with_at_other i.size d 0 x not ∙ e.size x ∙ size x not)
      (λ x p not. block_back i x p not) (λ said says. says_not_lost i d d said says refl) (λ parked. let z : Absent ≡ Parked = sym (with_at_same i.power d Absent d refl) ∙ parked in cc)

  pub stood_changed : (j : Disks) (x : ℕ) (said : LogState) → IsLooked t j → Stands j x said → StoodBeside s d j x said
  stood_changed j x said (whole e) stands = stood_whole j e x said stands
  stood_changed j x said (lost i f e may is) stands =
      let was = held.whole (before i) (before_is i e) in
      let is_gone = gone (before i) was.sound.disk was.sound.said (before_is i e) was.sound.log.stands in
      let weak = weak_swapped slots (before i) i h was.k d (λ x not. e.power x ∙ power x not) (λ x not. e.size x ∙ size x not) (λ x p not. block_back i x p not) (silent i e)
      (λ parked. unparked (sym (e.power d) ∙ parked)) was.sound is_gone in
      let here : lose d i ≡ j = ap (λ (y : ℕ). lose y i) (may.weak d weak) ∙ is in
      subst (λ (k : Disks). StoodBeside s d k x said) here (stood_lost i e x said (subst (λ (k : Disks). Stands k x said) (sym here) stands))

module _ (slots : ℕ) (named : Option ℕ) (m : Meta) (table : List (List Bool)) (copied : List Bool) (h : History) (lo : ℕ) (s : Disks) (d size : ℕ) (kc : KeepsCommitted slots named m table copied h lo (Gone d) s) where
  abbrev k : HoldsBetweenCalls slots named m table [] copied h lo s
  k = kc.filled.keeps

  -- what stands is the meta of the last commit
  base_stands : (i : Disks) (x : ℕ) (said : LogState) → IsImage s i → Stands i x said → said ≡ closed_over k.base
  base_stands i x said e stands = let c = k.copies.copying i e in (Stands-same i x c.disk said (closed_over k.base) stands c.log.stands).1

  says_gone : (i : Disks) (x : ℕ) (said : LogState) → IsImage s i → Stands i x said → said.meta.out ≡ Gone d
  says_gone i x said e stands = ap (λ (o : LogState). o.meta.out) (base_stands i x said e stands) ∙ kc.marks

  held : IsHeld slots s h lo (out_disk s.power k.base)
  held = copies_held slots k.base k.held h lo s k.copies

  stood_done : (j : Disks) (x : ℕ) (said : LogState) → IsLooked (step (Attach d size true) s) j → Stands j x said → StoodBeside s d j x said
  stood_done =
      let a = attached_to s d size in
      stood_changed slots s (step (Attach d size true) s) h lo (out_disk s.power k.base) d says_gone held a.power a.sizes a.block a.loose
      (λ j e said says.
      let zeros : (q : ℕ) → j.block d q ≡ zero_block = (λ q. e.block d q (a.synced q) ∙ a.zeros q) in
      blank_says_nothing j d said (ap is_open (stored_zero j d 0 (zeros 0)) ∙ zeroed_closed) (stored_zero j d 1 (zeros 1)) says)
      (λ parked. let z : Spinning ≡ Parked = sym a.here ∙ parked in cc)

  stood_failed : (j : Disks) (x : ℕ) (said : LogState) → IsLooked (step (Attach d size false) s) j → Stands j x said → StoodBeside s d j x said
  stood_failed =
      let loss : IsLoss s (step (Attach d size false) s) d = failed_is_loss s (Attach d size false) refl in
      let away : (step (Attach d size false) s).power d ≡ Absent = loss.power d ∙ with_at_same s.power d Absent d refl in
      stood_changed slots s (step (Attach d size false) s) h lo (out_disk s.power k.base) d says_gone held
      (λ x not. loss.power x ∙ with_at_other s.power d Absent x not) (λ x not. loss.size x ∙ with_at_other s.size d 0 x not) loss.block loss.loose
      (λ j e. absent_silent j d (ap is_present (e.power d ∙ away)))
      (λ parked. let z : Absent ≡ Parked = sym away ∙ parked in cc)

  stood_by : (done : Bool) (j : Disks) (x : ℕ) (said : LogState) → IsLooked (step (Attach d size done) s) j → Stands j x said → StoodBeside s d j x said
  stood_by true = stood_done
  stood_by false = stood_failed

  -- so the last commit is the same
  base_by : (done : Bool) (slots_then : ℕ) (named_then : Option ℕ) (m_then : Meta) (table_then : List (List Bool)) (batch_then : Batch) (copied_then : List Bool) (h_then : History) (lo_then : ℕ)
      (z : HoldsBetweenCalls slots_then named_then m_then table_then batch_then copied_then h_then lo_then (step (Attach d size done) s)) → z.base ≡ k.base
  base_by done slots_then named_then m_then table_then batch_then copied_then h_then lo_then z =
      let t = step (Attach d size done) s in
      let i : Disks = record t { loose = λ x p. false } in
      let image : IsImage t i = record { power = λ x. refl; size = λ x. refl; block = λ x p not. refl; loose = λ x p. refl } in
      let c = z.copies.copying i image in
      let stood = stood_by done i c.disk (closed_over z.base) (whole image) c.log.stands in
      ap (λ (o : LogState). o.meta) (base_stands stood.image c.disk (closed_over z.base) stood.is stood.stands)

pub attach_stood : (slots : ℕ) (named : Option ℕ) (m : Meta) (table : List (List Bool)) (copied : List Bool) (h : History) (lo : ℕ) (s : Disks) (d size : ℕ) (done : Bool)
    → KeepsCommitted slots named m table copied h lo (Gone d) s → (j : Disks) (x : ℕ) (said : LogState) → IsLooked (step (Attach d size done) s) j → Stands j x said → StoodBeside s d j x said
attach_stood slots named m table copied h lo s d size done kc = stood_by slots named m table copied h lo s d size kc done

pub attach_base : (slots : ℕ) (named : Option ℕ) (m : Meta) (table : List (List Bool)) (copied : List Bool) (h : History) (lo : ℕ) (s : Disks) (d size : ℕ) (done : Bool)
    (kc : KeepsCommitted slots named m table copied h lo (Gone d) s) (slots_then : ℕ) (named_then : Option ℕ) (m_then : Meta) (table_then : List (List Bool)) (batch_then : Batch) (copied_then : List Bool) (h_then : History) (lo_then : ℕ)
    (z : HoldsBetweenCalls slots_then named_then m_then table_then batch_then copied_then h_then lo_then (step (Attach d size done) s)) → z.base ≡ kc.filled.keeps.base
attach_base slots named m table copied h lo s d size done kc = base_by slots named m table copied h lo s d size kc done
