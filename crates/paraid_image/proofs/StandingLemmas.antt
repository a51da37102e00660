-- One log disk stands, and an image holds one number of writes.
use Rattle.std.specs.Prelude.{◌≡◌, ℕ, ◌<◌, Bool, true, false, not, Option, Some, None}
use Rattle.std.proofs.Common.{refl, sym, ◌∙◌, ap, subst, arith, zero, suc}
use Rattle.std.proofs.lemmas.Bool.{false≢true}
use Rattle.paraid_base.specs.History.{History}
use Rattle.paraid_rack.specs.Disks.{Disks}
use Rattle.paraid_image.specs.Out.{IsWeak, named_out, out_disk}
use Rattle.paraid_image.specs.Out.IsWeak.{out, named}
use Rattle.paraid_image.specs.Sides.{IsSide, LogState, Says, Side}
use Rattle.paraid_image.specs.Sides.Side.{absent, blank, bad, formed}
use Rattle.paraid_image.specs.Sound.{IsSoundAt}
use Rattle.paraid_image.specs.Standing.{Stands, is_first, other_log, standing}
use Rattle.paraid_image.proofs.SidesLemmas.{Says-same, is_formed, says_nothing}

both_first : (a b : LogState) → is_first a b ≡ true → not (is_first a b) ≡ true → ⊥
both_first a b p q = false≢true (sym (ap not p) ∙ q)

-- one log disk stands, and says one thing
pub Stands-same : (i : Disks) (x y : ℕ) (a b : LogState) → Stands i x a → Stands i y b → (x ≡ y) × (a ≡ b)
Stands-same i zero zero a b p q = (refl, Says-same i 0 a b p.says q.says)
Stands-same i zero (suc zero) a b p q = absurd (both_first a b (p.first b q.says) (q.first a p.says))
Stands-same i (suc zero) zero a b p q = absurd (both_first b a (q.first a p.says) (p.first b q.says))
Stands-same i (suc zero) (suc zero) a b p q = (refl, Says-same i 1 a b p.says q.says)
Stands-same i zero (suc (suc y)) a b p q = let l : suc (suc y) < 2 = q.log_disk in absurd (omega arith)
Stands-same i (suc zero) (suc (suc y)) a b p q = let l : suc (suc y) < 2 = q.log_disk in absurd (omega arith)
Stands-same i (suc (suc x)) y a b p q = let l : suc (suc x) < 2 = p.log_disk in absurd (omega arith)

-- an image holds a first part of one length
pub IsSoundAt-length : (slots : ℕ) (i : Disks) (h g : History) (k j : ℕ) → IsSoundAt slots i h k → IsSoundAt slots i g j → k ≡ j
IsSoundAt-length slots i h g k j p q =
    let same = Stands-same i p.disk q.disk p.said q.said p.log.stands q.log.stands in
    sym p.log.writes ∙ ap (λ (said : LogState). said.meta.writes) same.1 ∙ q.log.writes

stands_alone : (i : Disks) (x : ℕ) (said : LogState) → x < 2 → Says i x said → ((other : LogState) → Says i (other_log x) other → ⊥) → Stands i x said
stands_alone i x said l p silent = record { log_disk = l; says = p; first = λ other q. absurd (silent other q) }

stands_of_two : (i : Disks) (a b : LogState) → Says i 0 a → Says i 1 b → (first : Bool) → is_first a b ≡ first → (x : ℕ) → (if_first : Option ℕ) → if_first ≡ Some x
    → ((first ≡ true) → if_first ≡ Some 0) → ((first ≡ false) → if_first ≡ Some 1) → (said : LogState) × Stands i x said
stands_of_two i a b p q true is x o e first second =
    let at : 0 ≡ x = let k : Some 0 ≡ Some x = sym (first refl) ∙ e in cc in (
      a,
      subst (λ (y : ℕ). Stands i y a) at (record {
        log_disk = omega arith;
        says = p;
        first = λ other r. ap (is_first a) (Says-same i 1 other b r q) ∙ is;
      }),
    )
stands_of_two i a b p q false is x o e first second =
    let at : 1 ≡ x = let k : Some 1 ≡ Some x = sym (second refl) ∙ e in cc in (
      b,
      subst (λ (y : ℕ). Stands i y b) at (record {
        log_disk = omega arith;
        says = q;
        first = λ other r. ap (λ (s : LogState). not (is_first s b)) (Says-same i 0 other a r p) ∙ ap not is;
      }),
    )

first_alone : (i : Disks) (a : LogState) (b : Side) (x : ℕ) → Says i 0 a → IsSide i 1 b → is_formed b ≡ false → Some 0 ≡ Some x → (said : LogState) × Stands i x said
first_alone i a b x p q not e =
    let at : 0 ≡ x = cc in
    (a, subst (λ (y : ℕ). Stands i y a) at (stands_alone i 0 a (omega arith) p (says_nothing i 1 b q not)))

second_alone : (i : Disks) (a : Side) (b : LogState) (x : ℕ) → IsSide i 0 a → Says i 1 b → is_formed a ≡ false → Some 1 ≡ Some x → (said : LogState) × Stands i x said
second_alone i a b x p q not e =
    let at : 1 ≡ x = cc in
    (b, subst (λ (y : ℕ). Stands i y b) at (stands_alone i 1 b (omega arith) q (says_nothing i 0 a p not)))

-- the log disk that stands by the sides in short stands
pub stands-from_sides : (i : Disks) (a b : Side) (x : ℕ) → IsSide i 0 a → IsSide i 1 b → standing a b ≡ Some x → (said : LogState) × Stands i x said
stands-from_sides i (formed a) (formed b) x p q e =
    stands_of_two i a b p q (is_first a b) refl x (standing (formed a) (formed b)) e
    (λ is. rw is refl) (λ is. rw is refl)
stands-from_sides i (formed a) absent x p q e = first_alone i a absent x p q refl e
stands-from_sides i (formed a) blank x p q e = first_alone i a blank x p q refl e
stands-from_sides i (formed a) bad x p q e = first_alone i a bad x p q refl e
stands-from_sides i absent (formed b) x p q e = second_alone i absent b x p q refl e
stands-from_sides i blank (formed b) x p q e = second_alone i blank b x p q refl e
stands-from_sides i bad (formed b) x p q e = second_alone i bad b x p q refl e
stands-from_sides i absent absent x p q e = cc
stands-from_sides i absent blank x p q e = cc
stands-from_sides i absent bad x p q e = cc
stands-from_sides i blank absent x p q e = cc
stands-from_sides i blank blank x p q e = cc
stands-from_sides i blank bad x p q e = cc
stands-from_sides i bad absent x p q e = cc
stands-from_sides i bad blank x p q e = cc
stands-from_sides i bad bad x p q e = cc

-- where log disk `x` is out by its own meta
abbrev out_by : Disks → LogState → Option ℕ
out_by i said = out_disk i.power said.meta

none_is_some : (i : Disks) (a b : LogState) (w : ℕ) → a ≡ b → out_by i a ≡ Some w → out_by i b ≡ None → ⊥
none_is_some i a b w e p q = let k : Some w ≡ None = sym p ∙ ap (out_by i) e ∙ q in cc

-- an image has at most one weak disk
pub IsWeak-same : (i : Disks) (w v : ℕ) → IsWeak i w → IsWeak i v → w ≡ v
IsWeak-same i w v (out x a s e) (out y b t f) =
    let same = Stands-same i x y a b s t in
    let k : Some w ≡ Some v = sym e ∙ ap (out_by i) same.1 ∙ f in
    cc
IsWeak-same i w v (out x a s e) (named y b other t f r g) =
    absurd (none_is_some i a b w ((Stands-same i x y a b s t).1) e f)
IsWeak-same i w v (named x a other s e r g) (out y b t f) =
    absurd (none_is_some i b a v ((Stands-same i y x b a t s).1) f e)
IsWeak-same i w v (named x a c s e r g) (named y b d t f u h) =
    let same = Stands-same i x y a b s t in
    let one = Says-same i (other_log y) c d (subst (λ (z : ℕ). Says i (other_log z) c) same.0 r) u in
    let k : Some w ≡ Some v = sym g ∙ ap (λ (said : LogState). named_out said.meta.out) one ∙ h in
    cc
