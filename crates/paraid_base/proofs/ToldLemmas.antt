-- How pieces and counts add up over calls.
use Rattle.std.proofs.Common.{ℕ, ◌≤◌, List, [], ◌++◌, Option, arith, refl, inl, inr, sym, ◌∙◌, ap, append_assoc}
use Rattle.std.proofs.lemmas.List.{append-nil}
use Rattle.paraid_base.specs.Told.{told_bytes, Gives, GrowsByBytes, HasRisen}

pub HasRisen-later : (a b c : ℕ) → HasRisen a b → b ≤ c → HasRisen a c
HasRisen-later a b c h l = record { risen = elim h.risen [ inl x ↦ inl (omega arith) | inr y ↦ inr (omega arith) ] }

pub HasRisen-sooner : (a b c : ℕ) → a ≤ b → HasRisen b c → HasRisen a c
HasRisen-sooner a b c l h = record { risen = elim h.risen [ inl x ↦ inl (omega arith) | inr y ↦ inr (omega arith) ] }

pub Gives-none : (o : Option (List ℕ)) → Gives o o []
Gives-none o = record { before = λ h. h; bytes = λ h. refl }

pub Gives-then : (a b c : Option (List ℕ)) (p q : List ℕ) → Gives a b p → Gives b c q → Gives a c (p ++ q)
Gives-then a b c p q f g = record {
  before = λ h. f.before (g.before h);
  bytes = λ h. f.bytes (g.before h) ∙ ap (λ z. p ++ z) (g.bytes h) ∙ sym (append_assoc p q (told_bytes c));
}

pub GrowsByBytes-none : (o : Option (List ℕ)) → GrowsByBytes o o []
GrowsByBytes-none o = record { before = λ h. h; bytes = λ h. sym (append-nil (told_bytes o)) }

pub GrowsByBytes-then : (a b c : Option (List ℕ)) (p q : List ℕ) → GrowsByBytes a b p → GrowsByBytes b c q → GrowsByBytes a c (p ++ q)
GrowsByBytes-then a b c p q f g = record {
  before = λ h. f.before (g.before h);
  bytes = λ h. g.bytes h ∙ ap (λ z. z ++ q) (f.bytes (g.before h)) ∙ append_assoc (told_bytes a) p q;
}
