-- An option from its parts
use Rattle.std.proofs.Common.{◌≡◌, ℕ, ◌+◌, ◌<◌, ◌≤◌, List, [], ◌∷◌, ◌++◌, Option, true, false, length, arith, refl, sym, ◌∙◌, append_assoc, length-append, subst}
use Rattle.std.proofs.lemmas.List.{append-nil}
use Rattle.std.proofs.lemmas.Bool.{false≢true}
use Rattle.paraid_nbd.specs.declared.ending.NbdEnd.{NbdEnd}
use Rattle.paraid_nbd.specs.Options.{OptionParts, IsOption, IsOptionMagic, option_bytes, chooses, option_kind, option_number, option_length}
use Rattle.paraid_nbd.specs.Options.IsPartOption.{InContent}
use Rattle.paraid_nbd.specs.Options.IsWrongOption.{WrongRange, WrongChoice}
use Rattle.std.specs.List.{AllByRecursion}
use Rattle.paraid_nbd.specs.Handshake.{IsOther, StopsOption, TakesOption, TakesChoice, StopsChoice}
use Rattle.paraid_nbd.specs.Handshake.StopsOption.{CutOption, WrongOption}
use Rattle.paraid_nbd.specs.Handshake.StopsChoice.{WrongSize, CutChoice, NoChoice}
use Rattle.paraid_nbd.specs.Taking.{Takes, Lacks}
use Rattle.paraid_nbd.proofs.TakingLemmas.{Takes-then, IsCut-sooner}

pub Takes-last : {a c d : Option (List ℕ)} {i k l : ℕ} (m h got : List ℕ) → Takes a c i k (m ++ h) → Takes c d k l got → Takes a d i l (m ++ (h ++ got))
Takes-last {a} {c} {d} {i} {k} {l} m h got t u = subst (λ (x : List ℕ). Takes a d i l x) (append_assoc m h got) (Takes-then t u)

-- the content that chooses an export stops
pub choice_stops : {a c d : Option (List ℕ)} {i k l n place f g z : ℕ} {e : NbdEnd} (m h : List ℕ) → Takes a c i k (m ++ h) → IsOptionMagic m → length h ≡ 8
    → chooses (option_kind (option_number h)) ≡ true → n ≡ option_length h → place ≡ i + 12 → f ≤ g → StopsChoice c d k l n place g z e → StopsOption a d i l f z e
choice_stops {a} {c} {d} {i} {k} {l} {n} {place} m h t magic whole ch is at later (WrongSize not none end) =
    let r : ((6 ≤ option_length h) × (option_length h ≤ 8192)) → ⊥ = subst (λ (x : ℕ). ((6 ≤ x) × (x ≤ 8192)) → ⊥) is not in
    WrongOption (m ++ h) place (subst (λ (x : List ℕ). Takes a d i l x) (append-nil (m ++ h)) (Takes-then t none)) (WrongRange m h refl magic whole (λ range. r (range ch)) at) end
choice_stops {a} {c} {d} {i} {k} {l} {n} {place} {f} {g} {z} {e} m h t magic whole ch is at later (CutChoice range lacks) =
    let r : (6 ≤ option_length h) × (option_length h ≤ 8192) = subst (λ (x : ℕ). (6 ≤ x) × (x ≤ 8192)) is range in
    CutOption (m ++ (h ++ lacks.got)) (Takes-last m h lacks.got t lacks.takes) (InContent m h lacks.got refl magic whole (λ b. r) (omega (arith, lacks.few, is))) (IsCut-sooner e d l f g z later lacks.cause)
choice_stops {a} {c} {d} {i} {k} {l} {n} {place} m h t magic whole ch is at later (NoChoice content range size not takes end) =
    let r : (6 ≤ option_length h) × (option_length h ≤ 8192) = subst (λ (x : ℕ). (6 ≤ x) × (x ≤ 8192)) is range in
    WrongOption (m ++ (h ++ content)) place (Takes-last m h content t takes) (WrongChoice (record { magic = m; head = h; content = content }) refl magic whole (λ b. r) (size ∙ is) ch not at) end

pub option_chosen : {a c d : Option (List ℕ)} {i k l n number : ℕ} (m h : List ℕ) → Takes a c i k (m ++ h) → IsOptionMagic m → length h ≡ 8
    → n ≡ option_length h → option_number h ≡ number → TakesChoice c d k l n → TakesOption a d i l number
option_chosen {a} {c} {d} {i} {k} {l} {n} m h t magic whole is named choice =
    let r : (6 ≤ option_length h) × (option_length h ≤ 8192) = subst (λ (x : ℕ). (6 ≤ x) × (x ≤ 8192)) is choice.range in
    record {
      parts = record { magic = m; head = h; content = choice.content };
      is = record { magic = magic; head = whole; range = λ b. r; content = choice.whole ∙ is; choice = λ b. choice.choice };
      number_is = named;
      takes = Takes-last m h choice.content t choice.takes;
    }

pub option_skipped : {a c d : Option (List ℕ)} {i k l n number : ℕ} (m h got : List ℕ) → Takes a c i k (m ++ h) → IsOptionMagic m → length h ≡ 8
    → chooses (option_kind (option_number h)) ≡ false → n ≡ option_length h → option_number h ≡ number → length got ≡ n → Takes c d k l got → TakesOption a d i l number
option_skipped m h got t magic whole other is named many takes = record {
  parts = record { magic = m; head = h; content = got };
  is = record { magic = magic; head = whole; range = λ b. absurd (false≢true (sym other ∙ b)); content = many ∙ is; choice = λ b. absurd (false≢true (sym other ∙ b)) };
  number_is = named;
  takes = Takes-last m h got t takes;
}

pub skip_stops : {a c d : Option (List ℕ)} {i k l n f g z : ℕ} {e : NbdEnd} (m h : List ℕ) → Takes a c i k (m ++ h) → IsOptionMagic m → length h ≡ 8
    → chooses (option_kind (option_number h)) ≡ false → n ≡ option_length h → f ≤ g → Lacks c d k l n g z e → StopsOption a d i l f z e
skip_stops {a} {c} {d} {i} {k} {l} {n} {f} {g} {z} {e} m h t magic whole other is later lacks =
    CutOption (m ++ (h ++ lacks.got)) (Takes-last m h lacks.got t lacks.takes) (InContent m h lacks.got refl magic whole (λ b. absurd (false≢true (sym other ∙ b))) (omega (arith, lacks.few, is))) (IsCut-sooner e d l f g z later lacks.cause)

-- an option has some bytes
pub option_some : (p : OptionParts) → IsOption p → 0 < length (option_bytes p)
option_some p is = omega (arith, is.magic.0, length-append p.magic (p.head ++ p.content))

pub each_more : (ps : List OptionParts) (p : OptionParts) → AllByRecursion IsOther ps → IsOther p → AllByRecursion IsOther (ps ++ p ∷ [])
each_more [] p each is = (is, tt)
each_more (q ∷ ps) p each is = (each.0, each_more ps p each.1 is)
