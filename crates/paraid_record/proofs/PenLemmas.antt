-- Bytes written after those that a pen has written
use Rattle.std.specs.Prelude.{◌≡◌, ℕ, ◌+◌, ◌-◌, ◌≤◌, List, ◌++◌, length, take, drop, replicate}
use Rattle.std.proofs.Common.{arith, ap, sym, ◌∙◌}
use Rattle.std.proofs.lemmas.List.{drop-drop, length-append, length-drop, length-take-le, take-append-drop, drop-replicate}
use Rattle.std.proofs.lemmas.Slice.{drop-put_mid}
use borrow.Rule.Slice.PartMut.{put_mid}
use Rattle.paraid_record.specs.Spelling.{zero_filled}

-- a pen that stands at `at` in a block whose rest is zeros
abbrev pub IsPen : ℕ → List ℕ → Type 0
IsPen at bytes = (at ≤ 512) × (length bytes ≡ 512) × (drop at bytes ≡ replicate (512 - at) 0)

pub length-put : (at k : ℕ) (bytes new : List ℕ) → IsPen at bytes → k ≡ length new → at + length new ≤ 512
    → length (put_mid at k bytes new) ≡ 512
length-put at k bytes new p e l =
    let front : length (take at bytes) ≡ at = length-take-le at bytes (omega arith) in
    let back : length (drop k (drop at bytes)) ≡ 512 - at - k = length-drop k (drop at bytes) ∙ ap (λ (n : ℕ). n - k) (length-drop at bytes ∙ ap (λ (n : ℕ). n - at) p.1) in
    let whole = length-append (take at bytes) (new ++ drop k (drop at bytes)) in
    let part = length-append new (drop k (drop at bytes)) in
    omega arith

pub pen_put : (at k end : ℕ) (bytes new : List ℕ) → IsPen at bytes → k ≡ length new → end ≡ at + length new → end ≤ 512
    → IsPen end (put_mid at k bytes new)
pen_put at k end bytes new p e f l =
    let back : drop end (put_mid at k bytes new) ≡ replicate (512 - end) 0 =
    drop-put_mid at k bytes new end (omega arith) (omega arith) (sym e)
    ∙ ap (λ (n : ℕ). drop n bytes) f
    ∙ sym (drop-drop (length new) at bytes)
    ∙ ap (drop (length new)) p.2
    ∙ drop-replicate (length new) (512 - at) 0
    ∙ ap (λ (n : ℕ). replicate n 0) (let d : 512 - at - length new ≡ 512 - end = omega arith in d) in
    (l, length-put at k bytes new p e (omega arith), back)

pub pen_finish : (at : ℕ) (bytes : List ℕ) → IsPen at bytes → bytes ≡ zero_filled 512 (take at bytes)
unfolding zero_filled
pen_finish at bytes p =
    let front : length (take at bytes) ≡ at = length-take-le at bytes (omega arith) in
    sym (take-append-drop at bytes) ∙ ap (λ (xs : List ℕ). take at bytes ++ xs) (p.2 ∙ ap (λ (n : ℕ). replicate (512 - n) 0) (sym front))
