-- Both log disks are read, and one of them or both may be lost.
use Rattle.std.specs.Prelude.{◌≡◌, ◌≢◌, ℕ, false, Option, Some, None, Result, Ok, Err, IfOk}
use Rattle.std.proofs.Common.{refl, sym, ◌∙◌, ap, subst, inl, inr}
use Rattle.paraid_rack.specs.Disks.{Disks, is_present, lose}
use Rattle.paraid_rack.specs.Trail.{Trail, now}
use Rattle.paraid_rack.specs.declared.call.Power.TheVariants.{Absent}
use Rattle.paraid_rack.proofs.AtomsLemmas.{with_at_same}
use Rattle.paraid_rack.proofs.TrailsLemmas.{now-extend}
use Rattle.paraid_recover.specs.declared.hearing.Heard.{Heard}
use Rattle.paraid_recover.specs.declared.hearing.Heard.TheVariants.{Blank, Bad, Formed}
use Rattle.paraid_recover.specs.HeardSides.{IsHeardAt, IsLosing, IsReadLosing, IsReadOnly, IsUnchanged}
use Rattle.paraid_image.specs.Sides.{Batch}
use Rattle.paraid_image.proofs.NeutralLemmas.{says_back, says_forth}
use Rattle.paraid_txn.proofs.StageCallsLemmas.{andthen, milder, upto}
use Rattle.paraid_image.proofs.CallLemmas.{lose_kept}

-- what a log disk says does not depend on another disk
pub heard_kept : (i : Disks) (e x : ℕ) → x ≢ e → (h : Option Heard) (b : Batch) → IsHeardAt i x h b → IsHeardAt (lose e i) x h b
heard_kept i e x not None b gone = ap is_present (lose_kept i e x not).power ∙ gone
heard_kept i e x not (Some Blank) b s =
    let kept = lose_kept i e x not in
    (ap is_present kept.power ∙ s.0, kept.gate ∙ s.1, kept.meta s.1 ∙ s.2)
heard_kept i e x not (Some (Bad o)) b s =
    let kept = lose_kept i e x not in (
      record {
        present = ap is_present kept.power ∙ s.0.present;
        silent = λ said says. s.0.silent said (says_back i (lose e i) x said kept says);
        written = λ shut zero. s.0.written (sym kept.gate ∙ shut) (sym (kept.meta (sym kept.gate ∙ shut)) ∙ zero);
      },
      kept.gate ∙ s.1,
    )
heard_kept i e x not (Some (Formed o m)) b s = says_forth i (lose e i) x (record { opened = o; meta = m; batch = b }) (lose_kept i e x not) s

pub gone_lost : (i : Disks) (e : ℕ) → is_present ((lose e i).power e) ≡ false
gone_lost i e = ap is_present (with_at_same i.power e Absent e refl)

-- at the end of a read that failed the disks are those before without that disk
pub losing_now : {old new : Option Trail} (d : ℕ) → IsLosing d old new → (t : Trail) → new ≡ Some t → (s : Trail) × (old ≡ Some s) × (now t ≡ lose d (now s))
losing_now {old} {new} d losing t tells =
    let any = losing (now t) t tells in
    let r = losing (now any.from) t tells in
    let one : r.from ≡ any.from = (let z : Some r.from ≡ Some any.from = sym r.was ∙ any.was in cc) in
    let b = r.holds.goes (ap now one) in
    (any.from, any.was, ap now r.is ∙ now-extend r.from r.calls ∙ b.1)

module _ {old mid new : Option Trail} where
  pub both_read : IsUnchanged old mid → IsUnchanged mid new → IsReadOnly old new
  both_read a b start = upto (λ s x. inl x) (milder (λ s x. inl x) (andthen (a start) (b start)))

  pub second_lost : IsUnchanged old mid → IsLosing 1 mid new → IsReadOnly old new
  second_lost a b start =
      upto (λ s x. inr (inr x)) (andthen (milder (λ s x. inl x) (a start)) (milder (λ s x. elim x [ inl p ↦ inl p | inr p ↦ inr (inr p) ]) (b start)))

  pub first_lost : IsLosing 0 old mid → IsUnchanged mid new → IsReadOnly old new
  first_lost a b start =
      upto (λ s x. inr (inl x)) (andthen (milder (λ s x. elim x [ inl p ↦ inl p | inr p ↦ inr (inl p) ]) (a start)) (milder (λ s x. inr (inl x)) (b (lose 0 start))))

  pub both_lost : IsLosing 0 old mid → IsLosing 1 mid new → IsReadLosing old new
  both_lost a b start =
      upto (λ s x. inr x)
      (andthen (milder (λ s x. inl (elim x [ inl p ↦ inl p | inr p ↦ inr (inl p) ])) (a start))
      (milder (λ s x. elim x [ inl p ↦ inl (inr (inl p)) | inr p ↦ inr p ]) (b (lose 0 start))))

pub one_of_two : {old new : Option Trail} → IsReadOnly old new → IsReadLosing old new
one_of_two only start = upto (λ s x. inl x) (milder (λ s x. inl x) (only start))

pub if_ok_is : {A E : Type 0} (P : A → Type 0) (r : Result A E) (a : A) → r ≡ Ok a → IfOk r P → P a
if_ok_is P (Ok b) a is p = let same : b ≡ a = cc in subst P same p
if_ok_is P (Err e) a is p = cc
