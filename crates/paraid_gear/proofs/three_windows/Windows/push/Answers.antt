use Rattle.std.proofs.Common.{◌≡◌, ◌∷◌, ℕ, ◌+◌, ◌-◌, ◌≤◌, List, [], ◌++◌, length, drop, length-append, length-drop, ap, ◌∙◌, sym, arith}
use Rattle.std.proofs.lemmas.List.{drop-append-le, drop-drop}
use Rattle.circular_buffer.specs.Buffer.{keep_last}
use Rattle.paraid_gear.specs.ThreeWindows.{sample_of}
use Rattle.paraid_gear.specs.Window.{HoldsLast, SampleWindow, sample_window}
use Rattle.paraid_gear.proofs.three_windows.Windows.push.Goals as goal

-- what is kept of what was kept
kept_more : (n : ℕ) (xs : List ℕ) (x : ℕ) → keep_last n (keep_last n xs ++ x ∷ []) ≡ keep_last n (xs ++ x ∷ [])
kept_more n xs x =
    let a = length xs in
    let cut = a - n in
    let short : cut ≤ a = omega arith in
    let same : keep_last n xs ++ x ∷ [] ≡ drop cut (xs ++ x ∷ []) = sym (drop-append-le cut xs (x ∷ []) short) in
    let long = length-append xs (x ∷ []) in
    let all : cut + (length (drop cut (xs ++ x ∷ [])) - n) ≡ length (xs ++ x ∷ []) - n = omega (arith, length-drop cut (xs ++ x ∷ []), long) in
    ap (keep_last n) same ∙ drop-drop (length (drop cut (xs ++ x ∷ [])) - n) cut (xs ++ x ∷ []) ∙ ap (λ k. drop k (xs ++ x ∷ [])) all

holds_more : (old new : SampleWindow) (all : List ℕ) (x y : ℕ) → HoldsLast old all → y ≡ x → new ≡ sample_window old.span (keep_last old.span (old.samples ++ y ∷ [])) → HoldsLast new (all ++ x ∷ [])
holds_more old new all x y held same is = record {
  holds =
      let pushed : new.samples ≡ keep_last old.span (old.samples ++ y ∷ []) = ap (λ (w : SampleWindow). w.samples) is in
      let span : old.span ≡ new.span = sym (ap (λ (w : SampleWindow). w.span) is) in
      pushed
      ∙ ap (λ z. keep_last old.span (old.samples ++ z ∷ [])) same
      ∙ ap (λ zs. keep_last old.span (zs ++ x ∷ [])) held.holds
      ∙ kept_more old.span all x
      ∙ ap (λ n. keep_last n (all ++ x ∷ [])) span;
}

pub returns-clause-more : goal.returns-clause-more
returns-clause-more c = λ all held.
    let old = c.args.self.now in
    let x = sample_of c.args.count in
    let y = c.min-sample.result in
    let same = c.min-sample.ensures in
    record {
      first = holds_more old.first c.push.new.self all x y held.first same c.push.ensures;
      second = holds_more old.second c.push-2.new.self all x y held.second same c.push-2.ensures;
      third = holds_more old.third c.push-3.new.self all x y held.third same c.push-3.ensures;
    }
