-- The names and sizes of all volumes.
use Rattle.std.proofs.Common.{◌≡◌, ℕ, ◌+◌, ◌*◌, ◌<◌, ◌≤◌, ◌^◌, ◌∙◌, List, [], ◌++◌, length, ap, sym, subst, refl, arith}
use Rattle.std.specs.Prelude.{codes, decimal}
use Rattle.std.proofs.lemmas.Fmt.{length-decimal-le}
use Rattle.std.proofs.lemmas.List.{append_assoc}
use Rattle.paraid_base.specs.declared.block.Block.{Block}
use Rattle.paraid_volume.specs.declared.name.Name.{Name}
use Rattle.paraid_volume.specs.NameValues.{IsNameOf}
use Rattle.paraid_volume.specs.Tables.{IsLiveId, extent_count, extent_size, extents_owned, owner_in}
use Rattle.paraid_volume.proofs.ExtentLemmas.{extents_few, same_owned}
use Rattle.paraid_volume.proofs.RefusalLemmas.{name_has, named_live}
use Rattle.paraid_volume_lines.specs.Lists.{Lists, ListsFirst, TellsVolumes}
use Rattle.paraid_volume_lines.specs.Lists.Lists.{none, skips, tells}
use Rattle.paraid_volume_lines.specs.NameWords.{word_of}
use Rattle.paraid_volume_lines.proofs.NameWordLemmas.{spells, word_is_name}

-- a number below 2^32 takes at most 10 digits
pub number_few : (n : ℕ) → n < 2 ^ 32 → length (decimal n) ≤ 10
number_few n below = length-decimal-le 10 n (omega arith) (omega (arith, below)) (omega (arith, below))

module _ (count : ℕ) (table : ℕ → Block) where
  pub lists_none : ListsFirst count table 0 (codes "list")
  lists_none = record { text = []; printed = refl; short = omega arith; each = λ content s same shows. none }

  -- an id without a volume
  pub lists_skips : (n : ℕ) (told : List ℕ) → (IsLiveId table (n + 1) → ⊥) → ListsFirst count table n told → ListsFirst count table (n + 1) told
  lists_skips n told not l = record {
    text = l.text;
    printed = l.printed;
    short = let few = l.short in omega (arith, few);
    each = λ content s same shows. skips n l.text (l.each content s same shows) (λ named. not (named_live count table content s same shows (n + 1) named));
  }

  -- the volume of an id
  pub lists_tells : 7 ≤ count → (n : ℕ) (told : List ℕ) (name : Name) (size : ℕ) → IsLiveId table (n + 1) → IsNameOf table (n + 1) name → size ≡ extent_size count * extents_owned (owner_in table) (n + 1) (extent_count count)
      → (more : List ℕ) → more ≡ told ++ (codes " " ++ (word_of name ++ (codes " " ++ decimal size))) → length more ≤ length told + 28 → ListsFirst count table n told → ListsFirst count table (n + 1) more
  lists_tells large n told name size live is sized more printed few l = record {
    text = l.text ++ (codes " " ++ (word_of name ++ (codes " " ++ decimal size)));
    printed = printed ∙ ap (λ (x : List ℕ). x ++ (codes " " ++ (word_of name ++ (codes " " ++ decimal size)))) l.printed ∙ append_assoc (codes "list") l.text _;
    short = let before = l.short in omega (arith, few, before);
    each = λ content s same shows.
        let has = name_has count table content s same shows (n + 1) name live is in
        let shown : size ≡ s.size (n + 1) = sized ∙ ap (λ (x : ℕ). extent_size count * x) (same_owned table content same (n + 1) (extent_count count) (extents_few count large)) ∙ sym (shows.size (n + 1) live.low live.high) in
        subst (λ (x : ℕ). Lists s (n + 1) (l.text ++ (codes " " ++ (word_of name ++ (codes " " ++ decimal x))))) (sym shown)
        (tells n l.text (word_of name) (l.each content s same shows) (has.0, λ k below. spells name k below ∙ has.1 k below) (word_is_name name));
  }

  pub told_all : (told line : List ℕ) → ListsFirst count table 31 told → line ≡ told ++ codes "\n" → TellsVolumes count table line
  told_all told line l e = record { text = l.text; printed = e ∙ ap (λ (x : List ℕ). x ++ codes "\n") l.printed; each = l.each }
