-- The counts of the first members of all.
use Rattle.std.proofs.Common.{◌≡◌, ℕ, ◌+◌, ◌<◌, ◌≤◌, Bool, true, false, IsTrue, refl, sym, ap, ◌∙◌, subst, arith}
use Rattle.std.specs.Prelude.{not}
use Rattle.std.proofs.lemmas.Bool.{false≢true}
use Rattle.paraid_image.specs.Spot.{View}
use Rattle.paraid_scrub.specs.declared.kind.CheckReport.{CheckReport}
use Rattle.paraid_scrub.specs.declared.kind.Kind.{Kind}
use Rattle.paraid_scrub.specs.declared.kind.Kind.TheVariants.{Row, Stripe, Fill, Unit as RebuiltUnit, Mirror}
use Rattle.paraid_scrub.specs.Counts.{AreCounts, CountBelow, IsOff, all_members, part, total}
use Rattle.paraid_scrub.specs.Looks.{PartCount}
use Rattle.paraid_scrub.proofs.LookedLemmas.{count_none}

part_here : (from size s : ℕ) → s ≤ size → part (from + s) from size ≡ s
part_here from size s p = grind (arith)

part_before : (from size seen : ℕ) → from + size ≤ seen → part seen from size ≡ size
part_before from size seen p = grind (arith)

part_after : (from size seen : ℕ) → seen ≤ from → part seen from size ≡ 0
part_after from size seen p = grind (arith)

-- all of a kind was counted
whole_count : (v : View) (kind : Kind) (size found : ℕ) (whole : Bool) (p : PartCount v kind size found whole) → IsTrue whole → (from seen : ℕ) → from + size ≤ seen → CountBelow (IsOff v kind) (part seen from size) found
whole_count v kind size found whole p w from seen q = subst (λ (n : ℕ). CountBelow (IsOff v kind) n found) (p.all w ∙ sym (part_before from size seen q)) p.count

-- a first part of it was
first_count : (v : View) (kind : Kind) (size found : ℕ) (whole : Bool) (p : PartCount v kind size found whole) (from seen : ℕ) → seen ≡ from + p.seen → CountBelow (IsOff v kind) (part seen from size) found
first_count v kind size found whole p from seen e = subst (λ (n : ℕ). CountBelow (IsOff v kind) n found) (sym (ap (λ (n : ℕ). part n from size) e ∙ part_here from size p.seen p.within)) p.count

-- nothing of it was
no_count : (v : View) (kind : Kind) (from size seen : ℕ) → seen ≤ from → CountBelow (IsOff v kind) (part seen from size) 0
no_count v kind from size seen p = subst (λ (n : ℕ). CountBelow (IsOff v kind) n 0) (sym (part_after from size seen p)) (count_none (IsOff v kind))

-- the counts up to the rows
pub counts_1 : (v : View) (rows : ℕ) (w0 : Bool) (p0 : PartCount v Row (total v.meta v.out Row) rows w0) (report : CheckReport) → report.rows ≡ rows → report.stripes ≡ 0 → report.fill ≡ 0 → report.units ≡ 0 → report.mirrors ≡ 0
    → (last : Bool) → (IsTrue last → ⊥) → (seen : ℕ) × AreCounts v seen report × (IsTrue last → seen ≡ all_members v)
counts_1 v rows w0 p0 report e0 e1 e2 e3 e4 last ends =
    let seen : ℕ = p0.seen in (
      seen,
      record {
        rows = rw e0 (first_count v Row (total v.meta v.out Row) rows w0 p0 (0) seen (omega (arith)));
        stripes = rw e1 (no_count v Stripe (total v.meta v.out Row) (total v.meta v.out Stripe) seen (omega (arith, p0.within)));
        fill = rw e2 (no_count v Fill (total v.meta v.out Row + total v.meta v.out Stripe) (total v.meta v.out Fill) seen (omega (arith, p0.within)));
        units = rw e3 (no_count v RebuiltUnit (total v.meta v.out Row + total v.meta v.out Stripe + total v.meta v.out Fill) (total v.meta v.out RebuiltUnit) seen (omega (arith, p0.within)));
        mirrors = rw e4 (no_count v Mirror (total v.meta v.out Row + total v.meta v.out Stripe + total v.meta v.out Fill + total v.meta v.out RebuiltUnit) (total v.meta v.out Mirror) seen (omega (arith, p0.within)));
      },
      λ l. absurd (ends l),
    )

-- the counts up to the stripes
pub counts_2 : (v : View) (rows : ℕ) (stripes : ℕ) (w0 : Bool) (p0 : PartCount v Row (total v.meta v.out Row) rows w0) (t0 : IsTrue w0) (w1 : Bool) (p1 : PartCount v Stripe (total v.meta v.out Stripe) stripes w1) (report : CheckReport) → report.rows ≡ rows → report.stripes ≡ stripes → report.fill ≡ 0 → report.units ≡ 0 → report.mirrors ≡ 0
    → (last : Bool) → (IsTrue last → ⊥) → (seen : ℕ) × AreCounts v seen report × (IsTrue last → seen ≡ all_members v)
counts_2 v rows stripes w0 p0 t0 w1 p1 report e0 e1 e2 e3 e4 last ends =
    let seen : ℕ = total v.meta v.out Row + p1.seen in (
      seen,
      record {
        rows = rw e0 (whole_count v Row (total v.meta v.out Row) rows w0 p0 t0 (0) seen (omega (arith)));
        stripes = rw e1 (first_count v Stripe (total v.meta v.out Stripe) stripes w1 p1 (total v.meta v.out Row) seen (omega (arith)));
        fill = rw e2 (no_count v Fill (total v.meta v.out Row + total v.meta v.out Stripe) (total v.meta v.out Fill) seen (omega (arith, p1.within)));
        units = rw e3 (no_count v RebuiltUnit (total v.meta v.out Row + total v.meta v.out Stripe + total v.meta v.out Fill) (total v.meta v.out RebuiltUnit) seen (omega (arith, p1.within)));
        mirrors = rw e4 (no_count v Mirror (total v.meta v.out Row + total v.meta v.out Stripe + total v.meta v.out Fill + total v.meta v.out RebuiltUnit) (total v.meta v.out Mirror) seen (omega (arith, p1.within)));
      },
      λ l. absurd (ends l),
    )

-- the counts up to the fill
pub counts_3 : (v : View) (rows : ℕ) (stripes : ℕ) (fill : ℕ) (w0 : Bool) (p0 : PartCount v Row (total v.meta v.out Row) rows w0) (t0 : IsTrue w0) (w1 : Bool) (p1 : PartCount v Stripe (total v.meta v.out Stripe) stripes w1) (t1 : IsTrue w1) (w2 : Bool) (p2 : PartCount v Fill (total v.meta v.out Fill) fill w2) (report : CheckReport) → report.rows ≡ rows → report.stripes ≡ stripes → report.fill ≡ fill → report.units ≡ 0 → report.mirrors ≡ 0
    → (last : Bool) → (IsTrue last → ⊥) → (seen : ℕ) × AreCounts v seen report × (IsTrue last → seen ≡ all_members v)
counts_3 v rows stripes fill w0 p0 t0 w1 p1 t1 w2 p2 report e0 e1 e2 e3 e4 last ends =
    let seen : ℕ = total v.meta v.out Row + total v.meta v.out Stripe + p2.seen in (
      seen,
      record {
        rows = rw e0 (whole_count v Row (total v.meta v.out Row) rows w0 p0 t0 (0) seen (omega (arith)));
        stripes = rw e1 (whole_count v Stripe (total v.meta v.out Stripe) stripes w1 p1 t1 (total v.meta v.out Row) seen (omega (arith)));
        fill = rw e2 (first_count v Fill (total v.meta v.out Fill) fill w2 p2 (total v.meta v.out Row + total v.meta v.out Stripe) seen (omega (arith)));
        units = rw e3 (no_count v RebuiltUnit (total v.meta v.out Row + total v.meta v.out Stripe + total v.meta v.out Fill) (total v.meta v.out RebuiltUnit) seen (omega (arith, p2.within)));
        mirrors = rw e4 (no_count v Mirror (total v.meta v.out Row + total v.meta v.out Stripe + total v.meta v.out Fill + total v.meta v.out RebuiltUnit) (total v.meta v.out Mirror) seen (omega (arith, p2.within)));
      },
      λ l. absurd (ends l),
    )

-- the counts up to the units
pub counts_4 : (v : View) (rows : ℕ) (stripes : ℕ) (fill : ℕ) (units : ℕ) (w0 : Bool) (p0 : PartCount v Row (total v.meta v.out Row) rows w0) (t0 : IsTrue w0) (w1 : Bool) (p1 : PartCount v Stripe (total v.meta v.out Stripe) stripes w1) (t1 : IsTrue w1) (w2 : Bool) (p2 : PartCount v Fill (total v.meta v.out Fill) fill w2) (t2 : IsTrue w2) (w3 : Bool) (p3 : PartCount v RebuiltUnit (total v.meta v.out RebuiltUnit) units w3) (report : CheckReport) → report.rows ≡ rows → report.stripes ≡ stripes → report.fill ≡ fill → report.units ≡ units → report.mirrors ≡ 0
    → (last : Bool) → (IsTrue last → ⊥) → (seen : ℕ) × AreCounts v seen report × (IsTrue last → seen ≡ all_members v)
counts_4 v rows stripes fill units w0 p0 t0 w1 p1 t1 w2 p2 t2 w3 p3 report e0 e1 e2 e3 e4 last ends =
    let seen : ℕ = total v.meta v.out Row + total v.meta v.out Stripe + total v.meta v.out Fill + p3.seen in (
      seen,
      record {
        rows = rw e0 (whole_count v Row (total v.meta v.out Row) rows w0 p0 t0 (0) seen (omega (arith)));
        stripes = rw e1 (whole_count v Stripe (total v.meta v.out Stripe) stripes w1 p1 t1 (total v.meta v.out Row) seen (omega (arith)));
        fill = rw e2 (whole_count v Fill (total v.meta v.out Fill) fill w2 p2 t2 (total v.meta v.out Row + total v.meta v.out Stripe) seen (omega (arith)));
        units = rw e3 (first_count v RebuiltUnit (total v.meta v.out RebuiltUnit) units w3 p3 (total v.meta v.out Row + total v.meta v.out Stripe + total v.meta v.out Fill) seen (omega (arith)));
        mirrors = rw e4 (no_count v Mirror (total v.meta v.out Row + total v.meta v.out Stripe + total v.meta v.out Fill + total v.meta v.out RebuiltUnit) (total v.meta v.out Mirror) seen (omega (arith, p3.within)));
      },
      λ l. absurd (ends l),
    )

-- the counts up to the mirrors
pub counts_5 : (v : View) (rows : ℕ) (stripes : ℕ) (fill : ℕ) (units : ℕ) (mirrors : ℕ) (w0 : Bool) (p0 : PartCount v Row (total v.meta v.out Row) rows w0) (t0 : IsTrue w0) (w1 : Bool) (p1 : PartCount v Stripe (total v.meta v.out Stripe) stripes w1) (t1 : IsTrue w1) (w2 : Bool) (p2 : PartCount v Fill (total v.meta v.out Fill) fill w2) (t2 : IsTrue w2) (w3 : Bool) (p3 : PartCount v RebuiltUnit (total v.meta v.out RebuiltUnit) units w3) (t3 : IsTrue w3) (w4 : Bool) (p4 : PartCount v Mirror (total v.meta v.out Mirror) mirrors w4) (report : CheckReport) → report.rows ≡ rows → report.stripes ≡ stripes → report.fill ≡ fill → report.units ≡ units → report.mirrors ≡ mirrors
    → (last : Bool) → (IsTrue last → IsTrue w4) → (seen : ℕ) × AreCounts v seen report × (IsTrue last → seen ≡ all_members v)
counts_5 v rows stripes fill units mirrors w0 p0 t0 w1 p1 t1 w2 p2 t2 w3 p3 t3 w4 p4 report e0 e1 e2 e3 e4 last ends =
    let seen : ℕ = total v.meta v.out Row + total v.meta v.out Stripe + total v.meta v.out Fill + total v.meta v.out RebuiltUnit + p4.seen in (
      seen,
      record {
        rows = rw e0 (whole_count v Row (total v.meta v.out Row) rows w0 p0 t0 (0) seen (omega (arith)));
        stripes = rw e1 (whole_count v Stripe (total v.meta v.out Stripe) stripes w1 p1 t1 (total v.meta v.out Row) seen (omega (arith)));
        fill = rw e2 (whole_count v Fill (total v.meta v.out Fill) fill w2 p2 t2 (total v.meta v.out Row + total v.meta v.out Stripe) seen (omega (arith)));
        units = rw e3 (whole_count v RebuiltUnit (total v.meta v.out RebuiltUnit) units w3 p3 t3 (total v.meta v.out Row + total v.meta v.out Stripe + total v.meta v.out Fill) seen (omega (arith)));
        mirrors = rw e4 (first_count v Mirror (total v.meta v.out Mirror) mirrors w4 p4 (total v.meta v.out Row + total v.meta v.out Stripe + total v.meta v.out Fill + total v.meta v.out RebuiltUnit) seen (omega (arith)));
      },
      λ l. ap (λ (k : ℕ). total v.meta v.out Row + total v.meta v.out Stripe + total v.meta v.out Fill + total v.meta v.out RebuiltUnit + k) (p4.all (ends l)),
    )

-- a part that was looked at to its end
pub part_whole : (v : View) (kind : Kind) (at found size : ℕ) → at ≡ size → CountBelow (IsOff v kind) at found → PartCount v kind size found true
part_whole v kind at found size is c = record { seen = at; within = omega (arith, is); count = c; all = λ t. is }

-- and one that was not
pub part_first : (v : View) (kind : Kind) (at found size : ℕ) → at < size → CountBelow (IsOff v kind) at found → PartCount v kind size found false
part_first v kind at found size low c = record { seen = at; within = omega (arith, low); count = c; all = λ t. absurd (false≢true t) }

-- by whether all was looked at
pub told_by : {T : Type 0} (w : Bool) → (IsTrue w → T) → (w ≡ false → T) → T
told_by true done lost = done refl
told_by false done lost = lost refl

pub was_not_whole : (w : Bool) → not w ≡ true → w ≡ false
was_not_whole true e = sym e
was_not_whole false e = refl

pub was_whole : (w : Bool) → not w ≡ false → IsTrue w
was_whole true e = refl
was_whole false e = sym e
