-- The words of slots, and lines one after the other.
use Rattle.std.proofs.Common.{◌≡◌, ℕ, zero, suc, ◌+◌, ◌<◌, ◌≤◌, List, ◌++◌, length, take, Option, Some, refl, sym, inl, inr, arith, subst, length-append, add-one, append_assoc}
use Rattle.std.specs.Prelude.{codes, decimal}
use Rattle.std.proofs.lemmas.List.{take-append-le, take_all}
use Rattle.std.proofs.Math.Seq.{take-append-add}
use Rattle.paraid_base.specs.declared.fault.Halt.{Halt}
use Rattle.paraid_base.specs.declared.fault.Halt.TheVariants.{Two as HaltTwo, Worn}
use Rattle.paraid_base.specs.Told.{GrowsByBytes}
use Rattle.paraid_base.proofs.ToldLemmas.{GrowsByBytes-then}
use Rattle.paraid_rack.specs.Slots.{Slot}
use Rattle.paraid_serve.specs.Ending.{EndsWithLine, halt_line, status_of_halt}
use Rattle.paraid_serve.specs.Lost.{HaltsBySecondLoss, HaltsByWear, NamesTwoLost, TellsWear}
use Rattle.paraid_sparing.specs.Texts.{slot_words, spares_line}

pub slots-more : (spins : ℕ → ℕ) (d : ℕ) → slot_words spins (d + 1) ≡ slot_words spins d ++ (codes " " ++ decimal (spins d))
slots-more spins d = rw add-one refl

slots_alike : (f g : ℕ → ℕ) (n : ℕ) → ((d : ℕ) → d < n → f d ≡ g d) → slot_words f n ≡ slot_words g n
slots_alike f g zero same = refl
slots_alike f g (suc n) same = rw (slots_alike f g n (λ d low. same d (omega (arith, low))), same n (omega arith)) refl

-- the line of a pool is that of its stock
pub line_alike : (left k : ℕ) (f g : ℕ → ℕ) (n m : ℕ) → left ≡ k → n ≡ m → n ≤ 8 → ((d : ℕ) → d < 8 → f d ≡ g d) → spares_line left f n ≡ spares_line k g m
line_alike left k f g n m is same few each = rw (is, slots_alike f g n (λ d low. each d (omega (arith, low, few))), same) refl

-- one line, and then the last one
pub ends_two : (a b c : Option (List ℕ)) (x y : List ℕ) (code status : ℕ) → GrowsByBytes a b x → EndsWithLine b c y code status → EndsWithLine a c (x ++ y) code status
ends_two a b c x y code status g e = record {
  count = length x + e.count;
  within = elim e.within [
    | inl short ↦ inl (omega (arith, short, length-append x y))
    | inr all ↦ inr (omega (arith, all.0, length-append x y), all.1)
  ];
  grows = subst (λ (t : List ℕ). GrowsByBytes a c t) (sym (take-append-add x y e.count)) (GrowsByBytes-then a b c x (take e.count y) g e.grows);
  whole = elim e.whole [
    | inl four ↦ inl four
    | inr all ↦ inr (omega (arith, all.0, length-append x y), all.1)
  ];
}

pub ends_part : (a b : Option (List ℕ)) (x y : List ℕ) (code : ℕ) → (n : ℕ) × (n < length x) × GrowsByBytes a b (take n x) → EndsWithLine a b (x ++ y) code 4
ends_part a b x y code part = record {
  count = part.0;
  within = inl (let short = part.1 in omega (arith, short, length-append x y));
  grows = subst (λ (t : List ℕ). GrowsByBytes a b t) (sym (take-append-le part.0 x y (let short = part.1 in omega (arith, short)))) part.2;
  whole = inl refl;
}

module _ (first before after : Option (List ℕ)) (text line : List ℕ) (halt : Halt) (status : ℕ) (grows : GrowsByBytes first before text) (e : EndsWithLine before after (line ++ halt_line halt) (status_of_halt halt) status) (high : 4 < status) where
  all_told : (e.count ≡ length (line ++ halt_line halt)) × (status ≡ status_of_halt halt)
  all_told = elim e.whole [ inl four ↦ absurd (omega (arith, four, high)) | inr all ↦ all ]

  told_whole : GrowsByBytes first after ((text ++ line) ++ halt_line halt)
  told_whole = subst (λ (x : List ℕ). GrowsByBytes first after x) (sym (append_assoc text line (halt_line halt)))
      (GrowsByBytes-then first before after text (line ++ halt_line halt) grows
      (subst (λ (x : List ℕ). GrowsByBytes before after x) (take_all e.count (line ++ halt_line halt) (let all = all_told.0 in omega (arith, all))) e.grows))

-- at 5 the last line names two disks, and at 12 it tells wear
pub names_two_after : (old new : ℕ → Slot) (first before after : Option (List ℕ)) (text line : List ℕ) (halt : Halt) (status : ℕ) → HaltsBySecondLoss old new (Some halt) → GrowsByBytes first before text
    → EndsWithLine before after (line ++ halt_line halt) (status_of_halt halt) status → status ≡ 5 → NamesTwoLost old new first after
names_two_after old new first before after text line (HaltTwo two) status lost grows e five = record {
  two = two;
  lost = lost two refl;
  text = text ++ line;
  line = told_whole first before after text line (HaltTwo two) status grows e (omega (arith, five));
}
names_two_after old new first before after text line (Worn count) status lost grows e five = absurd (let c = (all_told first before after text line (Worn count) status grows e (omega (arith, five))).1 in omega (arith, five, c))

pub tells_wear_after : (first before after : Option (List ℕ)) (text line : List ℕ) (halt : Halt) (status : ℕ) → HaltsByWear (Some halt) → GrowsByBytes first before text
    → EndsWithLine before after (line ++ halt_line halt) (status_of_halt halt) status → status ≡ 12 → TellsWear first after
tells_wear_after first before after text line (Worn count) status worn grows e twelve = record {
  count = count;
  many = worn count refl;
  text = text ++ line;
  line = told_whole first before after text line (Worn count) status grows e (omega (arith, twelve));
}
tells_wear_after first before after text line (HaltTwo two) status worn grows e twelve = absurd (let c = (all_told first before after text line (HaltTwo two) status grows e (omega (arith, twelve))).1 in omega (arith, twelve, c))
