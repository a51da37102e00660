-- How calls keep what is held.
use Rattle.std.specs.Prelude.{◌≡◌, ◌≢◌, ℕ, ◌<◌, ◌&&◌, nat_lt, Bool, true, false, Option, Some, None, if◌then◌else◌, ◌⊎◌}
use Rattle.std.proofs.Common.{refl, sym, ◌∙◌, ap, subst, arith, inl, inr}
use Rattle.std.proofs.lemmas.Bool.{cases_eq, false≢true}
use Rattle.paraid_base.specs.declared.block.Block.{Block}
use Rattle.paraid_base.specs.History.{History}
use Rattle.paraid_base.specs.Xor.{zero_block}
use Rattle.paraid_rack.specs.declared.call.Power.{Power}
use Rattle.paraid_rack.specs.declared.call.Power.TheVariants.{Absent}
use Rattle.paraid_rack.specs.declared.call.Call.TheVariants.{Read, Write, Sync}
use Rattle.paraid_rack.specs.Disks.{Disks, IsImage, is_present, lose, step, with_at}
use Rattle.paraid_rack.proofs.AtomsLemmas.{at_case, with_at_other, with_at_same, write_block_other}
use Rattle.paraid_record.specs.declared.meta.Meta.{Meta}
use Rattle.paraid_image.specs.HeldAt.{IsHeld, MayLose}
use Rattle.paraid_image.specs.Neutral.{IsNeutral, names_place, overwrite}
use Rattle.paraid_image.specs.Neutral.IsNeutral.{nowhere, no_log, witness, shut, meta_under_open_gate, unused, target}
use Rattle.paraid_image.specs.Out.{named_out, or_else, out_disk, first_absent}
use Rattle.paraid_image.specs.Out.IsWeak.{out}
use Rattle.paraid_image.specs.Sides.{LogState, Says, has_place, is_open, stored_block}
use Rattle.paraid_image.specs.Standing.{Stands, other_log}
use Rattle.paraid_image.proofs.NeutralLemmas.{IsLogKept, Keeps, KeepsLog, keeps_no_log, keeps_nowhere, keeps_meta_under_open_gate, keeps_shut, keeps_target, keeps_unused, keeps_witness, overwritten_else, overwritten_here, says_back, says_forth, stands_back, target_past, weak_forth, with_blocks, written}
use Rattle.paraid_image.proofs.OutLemmas.{first_absent_is}
use Rattle.paraid_image.proofs.SidesLemmas.{Says-same}

-- where there are no more images, what is held is held
pub IsHeld-fewer : (slots : ℕ) (s t : Disks) (h : History) (lo : ℕ) (down : Option ℕ) → ((i : Disks) → IsImage t i → IsImage s i)
    → IsHeld slots s h lo down → IsHeld slots t h lo down
IsHeld-fewer slots s t h lo down fewer held = record {
  whole = λ i e. held.whole i (fewer i e);
  lost = λ i d e may. held.lost i d (fewer i e) may;
  weak = λ i w e weak. held.weak i w (fewer i e) weak;
}

with_at_self : {A : Type 0} (f : ℕ → A) (k j : ℕ) → with_at f k (f k) j ≡ f j
with_at_self f k j = at_case (λ v. v ≡ f j) f k (f k) j (λ is. ap f (sym is)) (λ not. refl)

pub read_images : (s : Disks) (d p : ℕ) (i : Disks) → IsImage (step (Read d p true) s) i → IsImage s i
unfolding step
read_images s d p i e = record {
  power = λ x. e.power x ∙ with_at_self s.power d x;
  size = λ x. e.size x ∙ with_at_self s.size d x;
  block = e.block;
  loose = e.loose;
}

pub sync_images : (s : Disks) (d : ℕ) (i : Disks) → IsImage (step (Sync d true) s) i → IsImage s i
unfolding step
sync_images s d i e = record {
  power = λ x. e.power x ∙ with_at_self s.power d x;
  size = λ x. e.size x ∙ with_at_self s.size d x;
  block = λ x q h. e.block x q (at_case (λ (f : ℕ → Bool). f q ≡ false) s.loose d (λ p. false) x (λ is. refl) (λ not. h));
  loose = e.loose;
}

loose_else : (s : Disks) (d p : ℕ) (b : Block) (x q : ℕ) → (x ≡ d → q ≢ p) → (step (Write d p b true) s).loose x q ≡ s.loose x q
unfolding step
loose_else s d p b x q apart =
    at_case (λ (f : ℕ → Bool). f q ≡ s.loose x q) s.loose d (with_at (s.loose d) p true) x
    (λ is. with_at_other (s.loose d) p true q (apart is) ∙ ap (λ (k : ℕ). s.loose k q) (sym is))
    (λ not. refl)

powers_after_write : (s : Disks) (d p : ℕ) (b : Block) (x : ℕ) → (step (Write d p b true) s).power x ≡ s.power x
unfolding step
powers_after_write s d p b x = with_at_self s.power d x

sizes_after_write : (s : Disks) (d p : ℕ) (b : Block) (x : ℕ) → (step (Write d p b true) s).size x ≡ s.size x
unfolding step
sizes_after_write s d p b x = with_at_self s.size d x

-- an image after a write, with the block put back, is one before it
pub write_image : (s : Disks) (d p : ℕ) (b : Block) (j : Disks) → IsImage (step (Write d p b true) s) j → IsImage s (overwrite j d p (s.block d p))
write_image s d p b j e = record {
  power = λ x. e.power x ∙ powers_after_write s d p b x;
  size = λ x. e.size x ∙ sizes_after_write s d p b x;
  block = λ x q h.
      let elsewhere : (x ≡ d → q ≢ p) → (overwrite j d p (s.block d p)).block x q ≡ s.block x q =
      λ apart. overwritten_else j d p (s.block d p) x q apart ∙ e.block x q (loose_else s d p b x q apart ∙ h) ∙ write_block_other s d p b true x q apart in
      elim (cases_eq x d) [
        | inl is ↦ elim (cases_eq q p) [
          | inl at ↦ overwritten_here j d p (s.block d p) x q is at ∙ ap (λ (y : ℕ). s.block y p) (sym is) ∙ ap (s.block x) (sym at)
          | inr off ↦ elsewhere (λ z. off)
        ]
        | inr off ↦ elsewhere (λ z. absurd (off z))
      ];
  loose = e.loose;
}

-- a block that is changed and put back
pub back_again : (j : Disks) (d p : ℕ) (b : Block) → overwrite (overwrite j d p b) d p (j.block d p) ≡ j
back_again j d p b = λ t. record {
  power = j.power;
  size = j.size;
  block = λ x q. (block_again x q) t;
  loose = j.loose;
}
  where
    block_again : (x q : ℕ) → (overwrite (overwrite j d p b) d p (j.block d p)).block x q ≡ j.block x q
    block_again x q =
        let elsewhere : (x ≡ d → q ≢ p) → (overwrite (overwrite j d p b) d p (j.block d p)).block x q ≡ j.block x q =
        λ apart. overwritten_else (overwrite j d p b) d p (j.block d p) x q apart ∙ overwritten_else j d p b x q apart in
        elim (cases_eq x d) [
          | inl is ↦ elim (cases_eq q p) [
            | inl at ↦ overwritten_here (overwrite j d p b) d p (j.block d p) x q is at ∙ ap (λ (y : ℕ). j.block y p) (sym is) ∙ ap (j.block x) (sym at)
            | inr off ↦ elsewhere (λ z. off)
          ]
          | inr off ↦ elsewhere (λ z. absurd (off z))
        ]

-- a lost disk

pub place_lost : (i : Disks) (e x q : ℕ) → x ≡ e → has_place (lose e i) x q ≡ false
place_lost i e x q is = ap (λ (w : Power). is_present w && nat_lt q (with_at i.size e 0 x)) (with_at_same i.power e Absent x is)

pub place_kept : (i : Disks) (e x q : ℕ) → x ≢ e → has_place (lose e i) x q ≡ has_place i x q
place_kept i e x q not =
    ap (λ (w : Power). is_present w && nat_lt q (with_at i.size e 0 x)) (with_at_other i.power e Absent x not)
    ∙ ap (λ (z : ℕ). is_present (i.power x) && nat_lt q z) (with_at_other i.size e 0 x not)

pub stored_lost : (i : Disks) (e x q : ℕ) → x ≡ e → stored_block (lose e i) x q ≡ zero_block
unfolding stored_block
stored_lost i e x q is = ap (λ (t : Bool). if t then i.block x q else zero_block) (place_lost i e x q is)

pub stored_kept : (i : Disks) (e x q : ℕ) → x ≢ e → stored_block (lose e i) x q ≡ stored_block i x q
unfolding stored_block
stored_kept i e x q not = ap (λ (t : Bool). if t then i.block x q else zero_block) (place_kept i e x q not)

pub zeroed_closed : is_open zero_block ≡ false
unfolding is_open zero_block
zeroed_closed = refl

pub lose_kept : (i : Disks) (e x : ℕ) → x ≢ e → IsLogKept i (lose e i) x
lose_kept i e x not = record {
  power = with_at_other i.power e Absent x not;
  gate = ap is_open (stored_kept i e x 0 not);
  meta = λ closed. stored_kept i e x 1 not;
  rest = λ opened said says q low high. stored_kept i e x q not;
}

pub says_not_lost : (i : Disks) (e x : ℕ) (said : LogState) → Says (lose e i) x said → x ≢ e
says_not_lost i e x said s is = false≢true (sym (ap is_present (with_at_same i.power e Absent x is)) ∙ s.present)

pub says_of_lost : (i : Disks) (e x : ℕ) (said : LogState) → Says (lose e i) x said → Says i x said
says_of_lost i e x said s = says_back i (lose e i) x said (lose_kept i e x (says_not_lost i e x said s)) s

pub decide_some : (o : Option ℕ) (y : ℕ) → (o ≡ Some y) ⊎ (o ≢ Some y)
decide_some None y = inr (λ e. cc)
decide_some (Some z) y = elim (cases_eq z y) [
  | inl is ↦ inl (ap Some is)
  | inr not ↦ inr (λ e. let k : z ≡ y = cc in not k)
]

pub out_named : (power : ℕ → Power) (m : Meta) (y : ℕ) → named_out m.out ≡ Some y → out_disk power m ≡ Some y
out_named power m y h = ap (λ o. or_else o (first_absent power m.setup.geometry.disks)) h

-- where the other disks can be spared, the standing batch names the place with a disk lost too
lost_names : (i : Disks) (e d p x : ℕ) (said : LogState) → MayLose i e → Stands i x said → names_place said.batch d p ≡ true
    → ((other : LogState) → Says i (other_log x) other → named_out said.meta.out ≢ Some (other_log x) → names_place other.batch d p ≡ true)
    → (y : ℕ) (other : LogState) → Stands (lose e i) y other → names_place other.batch d p ≡ true
lost_names i e d p x said may s is others y other t =
    let says = says_of_lost i e y other t.says in
    elim (cases_eq y x) [
      | inl same ↦ ap (λ (z : LogState). names_place z.batch d p) (Says-same i x other said (subst (λ (z : ℕ). Says i z other) same says) s.says) ∙ is
      | inr apart ↦
          let low : x < 2 = s.log_disk in
          let low_too : y < 2 = t.log_disk in
          let at : y ≡ other_log x = omega arith in
          elim (decide_some (named_out said.meta.out) (other_log x)) [
            | inl out_is ↦
                let weak = may.weak (other_log x) (out x said s (out_named i.power said.meta (other_log x) out_is)) in
                absurd (says_not_lost i e y other t.says (at ∙ weak))
            | inr not ↦ others other (subst (λ (z : ℕ). Says i z other) at says) not
          ]
    ]

-- with the disk lost that is out, it is out still
lost_out : (i : Disks) (e p x : ℕ) (said : LogState) → MayLose i e → Stands i x said → x ≢ p → out_disk i.power said.meta ≡ Some p → p < 2
    → (y : ℕ) (other : LogState) → Stands (lose e i) y other → out_disk (lose e i).power other.meta ≡ Some p
lost_out i e p x said may s apart is low y other t =
    let weak = may.weak p (out x said s is) in
    let says = says_of_lost i e y other t.says in
    let away = says_not_lost i e y other t.says in
    let log_disk = s.log_disk in
    let log_disk_too = t.log_disk in
    let at : y ≡ x = elim (cases_eq y p) [
      | inl here ↦ absurd (away (here ∙ weak))
      | inr not ↦ omega arith
    ] in
    let same : other ≡ said = Says-same i x other said (subst (λ (z : ℕ). Says i z other) at says) s.says in
    split (named_out other.meta.out) refl (ap (λ (z : LogState). out_disk i.power z.meta) same ∙ is) weak
  where
    split : (o : Option ℕ) → named_out other.meta.out ≡ o → or_else (named_out other.meta.out) (first_absent i.power other.meta.setup.geometry.disks) ≡ Some p → p ≡ e
        → out_disk (lose e i).power other.meta ≡ Some p
    split (Some q) named o weak = out_named (lose e i).power other.meta p (named ∙ sym (ap (λ z. or_else z (first_absent i.power other.meta.setup.geometry.disks)) named) ∙ o)
    split None named o weak =
        let absent = (first_absent_is i.power other.meta.setup.geometry.disks p (sym (ap (λ z. or_else z (first_absent i.power other.meta.setup.geometry.disks)) named) ∙ o)).1 in
        absurd (false≢true (sym absent ∙ ap (λ (z : ℕ). is_present (i.power z)) weak ∙ may.present))

-- a neutral place is neutral with a disk lost
pub keeps_lost : (i : Disks) (e d p : ℕ) (b : Block) → MayLose i e → IsNeutral i d p → Keeps (lose e i) (written i d p b)
keeps_lost i e d p b may (nowhere none) = elim (cases_eq d e) [
  | inl is ↦ keeps_nowhere (lose e i) d p b (place_lost i e d p is)
  | inr not ↦ keeps_nowhere (lose e i) d p b (place_kept i e d p not ∙ none)
]
keeps_lost i e d p b may (no_log far l off) = keeps_no_log (lose e i) d p b far l off
keeps_lost i e d p b may (witness x said s apart is second l) = keeps_witness (lose e i) d p b second l (lost_out i e p x said may s apart is l)
keeps_lost i e d p b may (shut closed far l) = elim (cases_eq d e) [
  | inl is ↦ keeps_shut (lose e i) d p b (ap is_open (stored_lost i e d 0 is) ∙ zeroed_closed) far l
  | inr not ↦ keeps_shut (lose e i) d p b (ap is_open (stored_kept i e d 0 not) ∙ closed) far l
]
keeps_lost i e d p b may (meta_under_open_gate log_disk opened one) = elim (cases_eq d e) [
  | inl is ↦ keeps_nowhere (lose e i) d p b (place_lost i e d p is)
  | inr not ↦ keeps_meta_under_open_gate (lose e i) d p b log_disk (ap is_open (stored_kept i e d 0 not) ∙ opened) one
]
keeps_lost i e d p b may (unused said s opened past l) = elim (cases_eq d e) [
  | inl is ↦ keeps_nowhere (lose e i) d p b (place_lost i e d p is)
  | inr not ↦ keeps_unused (lose e i) d p b said (says_forth i (lose e i) d said (lose_kept i e d not) s) opened past l
]
keeps_lost i e d p b may (target x said s is others) =
    keeps_target (lose e i) d p b (target_past said.opened (stored_block i x) said.meta said.batch d p s.says.log is)
    (lost_names i e d p x said may s is others)

pub may_lose_back : (i : Disks) (f : ℕ → ℕ → Block) (e : ℕ) → KeepsLog i f → MayLose (with_blocks i f) e → MayLose i e
may_lose_back i f e keeps may = record {
  standing = may.standing;
  said = may.said;
  stands = stands_back i f keeps may.standing may.said may.stands;
  disk = may.disk;
  present = may.present;
  weak = λ w weak. may.weak w (weak_forth i f keeps w weak);
}
