-- What the words ask for, by the task that was read from them.
use Rattle.std.proofs.Common.{◌≡◌, ℕ, List, Option, Some, None, sym, ◌∙◌, subst}
use Rattle.paraid_words.specs.Words.{AskFor}
use Rattle.paraid_words.specs.declared.command.Command.{Command}

same_command : (a b : Command) → Some a ≡ Some b → a ≡ b
same_command a b e = cc

no_command : (a : Command) → None ≡ Some a → ⊥
no_command a e = cc

module _ (words : List (List ℕ)) (read : Option Command) (exact : (t : Command) → (read ≡ Some t → AskFor t words) × (AskFor t words → read ≡ Some t)) where
  pub asks : (t : Command) → read ≡ Some t → AskFor t words
  asks t is = (exact t).0 is

  -- what is done for the task that was read is done for each that is asked for
  pub does_it : (D : Command → Type 0) (t : Command) → read ≡ Some t → D t → (u : Command) → AskFor u words → D u
  does_it D t is d u asked = subst D (same_command t u (sym is ∙ (exact u).1 asked)) d

  pub nothing_asked : read ≡ None → (t : Command) → AskFor t words → ⊥
  nothing_asked is t asked = no_command t (sym is ∙ (exact t).1 asked)
