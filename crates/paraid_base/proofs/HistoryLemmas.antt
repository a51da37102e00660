-- What one more write does to what the blocks hold.
use Rattle.std.proofs.Common.{◌≡◌, ◌≢◌, ℕ, ◌≤◌, [], ◌∷◌, ◌++◌, length, refl, sym, ◌∙◌, ap, arith}
use Rattle.std.specs.Prelude.{◌==◌, if◌then◌else◌}
use Rattle.std.proofs.lemmas.Bool.Decides.{nat_tests}
use Rattle.std.proofs.lemmas.List.{take_all, append-nil, append_assoc, take-append-le}
use Rattle.paraid_base.specs.declared.block.Block.{Block}
use Rattle.paraid_base.specs.Xor.{zero_block}
use Rattle.paraid_base.specs.History.{Entry, History, joined_entries, last_of, after, after_all}

pub last_of-append : (b : ℕ) (bytes : Block) (a c : Entry) → last_of b bytes (a ++ c) ≡ last_of b (last_of b bytes a) c
last_of-append b bytes [] c = refl
last_of-append b bytes (pair ∷ pairs) c = last_of-append b (if pair.0 == b then pair.1 else bytes) pairs c

pub joined_entries-append : (h : History) (entry : Entry) → joined_entries (h ++ entry ∷ []) ≡ joined_entries h ++ entry
joined_entries-append [] entry = append-nil entry
joined_entries-append (e ∷ h) entry = ap (λ (x : Entry). e ++ x) (joined_entries-append h entry) ∙ sym (append_assoc e (joined_entries h) entry)

pub after_all-last_of : (h : History) (b : ℕ) → after_all h b ≡ last_of b zero_block (joined_entries h)
unfolding after
after_all-last_of h b = ap (λ (x : History). last_of b zero_block (joined_entries x)) (take_all (length h) h (omega arith))

-- an entry changes what is held as its pairs say
pub after_all-append : (h : History) (entry : Entry) (b : ℕ) → after_all (h ++ entry ∷ []) b ≡ last_of b (after_all h b) entry
after_all-append h entry b =
    after_all-last_of (h ++ entry ∷ []) b ∙ ap (last_of b zero_block) (joined_entries-append h entry) ∙ last_of-append b zero_block (joined_entries h) entry
    ∙ ap (λ (x : Block). last_of b x entry) (sym (after_all-last_of h b))

-- the block that was written holds its bytes
pub after_all-written : (h : History) (b : ℕ) (bytes : Block) → after_all (h ++ ((b, bytes) ∷ []) ∷ []) b ≡ bytes
after_all-written h b bytes = after_all-append h ((b, bytes) ∷ []) b ∙ here
  where
    here : (if b == b then bytes else after_all h b) ≡ bytes
    here = grind (arith, nat_tests)

-- each other block holds what it held
pub after_all-other : (h : History) (at b : ℕ) (bytes : Block) → at ≢ b → after_all (h ++ ((at, bytes) ∷ []) ∷ []) b ≡ after_all h b
after_all-other h at b bytes not = after_all-append h ((at, bytes) ∷ []) b ∙ there
  where
    there : (if at == b then bytes else after_all h b) ≡ after_all h b
    there = grind (arith, nat_tests)

pub after_all-none : (b : ℕ) → after_all [] b ≡ zero_block
after_all-none b = after_all-last_of [] b

-- what the writes before it left stays what they left
pub after-append : (h : History) (entry : Entry) (k b : ℕ) → k ≤ length h → after (h ++ entry ∷ []) k b ≡ after h k b
unfolding after
after-append h entry k b l = ap (λ (x : History). last_of b zero_block (joined_entries x)) (take-append-le k h (entry ∷ []) l)
