-- The value of a cell, by what is stored, and which disks can be read.
use Rattle.std.specs.Prelude.{◌≡◌, ◌≢◌, ℕ, ◌<◌, ◌≤◌, ◌==◌, not, nat_lt, true, false, Option, Some, None}
use Rattle.std.proofs.Common.{refl, sym, ◌∙◌, ap, subst, arith}
use Rattle.std.proofs.lemmas.Bool.{false≢true}
use Rattle.std.proofs.lemmas.Bool.Decides.{nat_tests}
use Rattle.paraid_base.specs.declared.block.Block.{Block}
use Rattle.paraid_base.specs.Regions.{hard_place_of, soft_place_of}
use Rattle.paraid_base.specs.Soft.{soft_disk, soft_stripe}
use Rattle.paraid_base.specs.Sums.{without, xor_upto}
use Rattle.paraid_base.specs.Xor.{xor}
use Rattle.paraid_base.proofs.SumsLemmas.{without_other, without_same, xor_upto_same}
use Rattle.paraid_base.proofs.XorLemmas.{xor_zero_right}
use Rattle.paraid_record.specs.declared.meta.Meta.{Meta}
use Rattle.paraid_image.specs.Out.{is_out, named_out}
use Rattle.paraid_image.specs.Spot.{View, is_hard, rising_to}
use Rattle.paraid_image.specs.Value.{reconstructed_value, soft_value, stored_value, stripe, stripe_rest, value}
use Rattle.paraid_view.proofs.ValueLemmas.{near_hard, near_soft, soft_out, soft_there, value_far, value_near}

pub out_here : (o : Option ℕ) (d : ℕ) → is_out o d ≡ true → o ≡ Some d
out_here None d is = absurd (false≢true is)
out_here (Some x) d is = let e : d ≡ x = grind (arith, nat_tests) in ap Some (sym e)

pub out_other : (o : Option ℕ) (d : ℕ) → is_out o d ≡ false → o ≢ Some d
out_other None d not is = let z : None ≡ Some d = is in cc
out_other (Some x) d not is =
    let z : Some x ≡ Some d = is in
    let e : x ≡ d = cc in
    let t : (d == x) ≡ true = grind (arith, nat_tests) in
    false≢true (sym not ∙ t)

-- another disk than the one that is out
pub not_out : (o : Option ℕ) (out d : ℕ) → o ≡ Some out → d ≢ out → o ≢ Some d
not_out o out d is apart here = let z : Some out ≡ Some d = sym is ∙ here in let e : out ≡ d = cc in apart (sym e)

-- the block that is left out adds nothing
pub added_none : (f : ℕ → Block) (i d : ℕ) (sum : Block) → d ≡ i → sum ≡ xor sum (without f i d)
added_none f i d sum e = sym (ap (xor sum) (ap (without f i) e ∙ without_same f i) ∙ xor_zero_right sum)

pub added_one : (f : ℕ → Block) (i d : ℕ) (sum part after : Block) → d ≢ i → part ≡ f d → after ≡ xor sum part → after ≡ xor sum (without f i d)
added_one f i d sum part after ne is becomes = becomes ∙ ap (xor sum) (is ∙ sym (without_other f i d ne))

-- nothing is left out
pub all_added : (f : ℕ → Block) (n : ℕ) → xor_upto (without f n) n ≡ xor_upto f n
all_added f n = xor_upto_same (without f n) f n (λ d l. without_other f n d (λ e. absurd (omega arith)))

module _ (v : View) (m : Meta) (e : v.meta ≡ m) where
  pub hard_below : (r d : ℕ) → d < m.gear → is_hard v r d ≡ true
  unfolding is_hard
  hard_below r d l =
      let k : d < v.meta.gear = subst (λ (z : Meta). d < z.gear) (sym e) l in
      let t : nat_lt d v.meta.gear ≡ true = grind (arith, nat_tests) in
      rw t refl

  pub hard_high : (r d : ℕ) → m.gear ≤ d → rising_to m.phase ≤ d → is_hard v r d ≡ false
  unfolding is_hard
  hard_high r d l h =
      let kl : v.meta.gear ≤ d = subst (λ (z : Meta). z.gear ≤ d) (sym e) l in
      let kh : rising_to v.meta.phase ≤ d = subst (λ (z : Meta). rising_to z.phase ≤ d) (sym e) h in
      let t : nat_lt d v.meta.gear ≡ false = grind (arith, nat_tests) in
      let u : nat_lt d (rising_to v.meta.phase) ≡ false = grind (arith, nat_tests) in
      rw (t, u) refl

  pub hard_rising : (r d : ℕ) → m.gear ≤ d → d < rising_to m.phase → is_hard v r d ≡ not (v.dirty r d)
  unfolding is_hard
  hard_rising r d l h =
      let kl : v.meta.gear ≤ d = subst (λ (z : Meta). z.gear ≤ d) (sym e) l in
      let kh : d < rising_to v.meta.phase = subst (λ (z : Meta). d < rising_to z.phase) (sym e) h in
      let t : nat_lt d v.meta.gear ≡ false = grind (arith, nat_tests) in
      let u : nat_lt d (rising_to v.meta.phase) ≡ true = grind (arith, nat_tests) in
      rw (t, u) refl

  pub near_stored : (r d place : ℕ) (into : Block) → is_hard v r d ≡ true → place ≡ hard_place_of m.setup.geometry r → into ≡ v.block d place → into ≡ stored_value v r d
  near_stored r d place into h at is =
      is ∙ ap (v.block d) (at ∙ ap (λ (z : Meta). hard_place_of z.setup.geometry r) (sym e)) ∙ sym (near_hard v r d h)

  pub far_read : (r out : ℕ) (into : Block) → into ≡ xor_upto (without (stored_value v r) out) m.setup.geometry.disks → into ≡ reconstructed_value v r out
  unfolding reconstructed_value
  far_read r out into is = is ∙ ap (λ (z : Meta). xor_upto (without (stored_value v r) out) z.setup.geometry.disks) (sym e)

  module _ (o : v.out ≡ named_out m.out) where
    pub soft_rest : (r d s copy : ℕ) (into : Block) → s ≡ soft_stripe m.setup.geometry.disks m.gear r d → copy ≡ soft_disk m.setup.geometry.disks m.gear r d → is_out (named_out m.out) copy ≡ true
        → into ≡ xor_upto (without (stripe m.setup.geometry v.block m.gear s) copy) m.gear → into ≡ soft_value v r d
    soft_rest r d s copy into es ec lost is =
        is ∙ ap (λ (z : ℕ). stripe_rest m.setup.geometry v.block m.gear z copy) es
        ∙ ap (stripe_rest m.setup.geometry v.block m.gear (soft_stripe m.setup.geometry.disks m.gear r d)) ec
        ∙ ap (λ (z : Meta). stripe_rest z.setup.geometry v.block z.gear (soft_stripe z.setup.geometry.disks z.gear r d) (soft_disk z.setup.geometry.disks z.gear r d)) (sym e)
        ∙ sym (soft_out v r d (o ∙ out_here (named_out m.out) copy lost ∙ ap Some (ec ∙ ap (λ (z : Meta). soft_disk z.setup.geometry.disks z.gear r d) (sym e))))

    pub soft_stored : (r d s copy place : ℕ) (into : Block) → s ≡ soft_stripe m.setup.geometry.disks m.gear r d → copy ≡ soft_disk m.setup.geometry.disks m.gear r d → is_out (named_out m.out) copy ≡ false
        → place ≡ soft_place_of m.setup.geometry m.gear s → into ≡ v.block copy place → into ≡ soft_value v r d
    soft_stored r d s copy place into es ec there at is =
        is ∙ ap (v.block copy) (at ∙ ap (soft_place_of m.setup.geometry m.gear) es)
        ∙ ap (λ (z : ℕ). v.block z (soft_place_of m.setup.geometry m.gear (soft_stripe m.setup.geometry.disks m.gear r d))) ec
        ∙ ap (λ (z : Meta). v.block (soft_disk z.setup.geometry.disks z.gear r d) (soft_place_of z.setup.geometry z.gear (soft_stripe z.setup.geometry.disks z.gear r d))) (sym e)
        ∙ sym (soft_there v r d (λ is. out_other (named_out m.out) copy there (sym o ∙ is ∙ ap Some (ap (λ (z : Meta). soft_disk z.setup.geometry.disks z.gear r d) e ∙ sym ec))))

    -- the three ways to a value
    pub value_there : (r d : ℕ) (into : Block) → is_out (named_out m.out) d ≡ false → into ≡ stored_value v r d → into ≡ value v r d
    value_there r d into there is = is ∙ sym (value_near v r d (λ h out. out_other (named_out m.out) d there (sym o ∙ out)))

    pub value_lost : (r d : ℕ) (into : Block) → is_out (named_out m.out) d ≡ true → is_hard v r d ≡ true → into ≡ reconstructed_value v r d → into ≡ value v r d
    value_lost r d into lost h is = is ∙ sym (value_far v r d h (o ∙ out_here (named_out m.out) d lost))

    pub value_soft : (r d : ℕ) (into : Block) → is_hard v r d ≡ false → into ≡ soft_value v r d → into ≡ value v r d
    value_soft r d into h is = is ∙ sym (near_soft v r d h) ∙ sym (value_near v r d (λ t. absurd (false≢true (sym h ∙ t))))
