-- Parts of a program, one after the other.
use Rattle.std.proofs.Common.{◌≡◌, ℕ, zero, suc, ◌+◌, ◌-◌, ◌≤◌, List, [], ◌∷◌, ◌++◌, length, take, Option, Some, refl, sym, ◌∙◌, ap, subst, arith, append_assoc, length-append}
use Rattle.std.proofs.lemmas.List.{append-nil}
use Rattle.paraid_rack.specs.Lawful.{AreLawful}
use Rattle.paraid_rack.specs.declared.call.Call.{Call}
use Rattle.paraid_rack.specs.Disks.{Disks, step}
use Rattle.paraid_rack.specs.Trail.{Trail, run, now, disks, initial, extend, moments}
use Rattle.paraid_rack.specs.Told.{GrowsByCall, Through, Ran, CrashTriple}

run-append : (s : Disks) (cs ds : List Call) → run s (cs ++ ds) ≡ run (run s cs) ds
run-append s [] ds = refl
run-append s (c ∷ cs) ds = run-append (step c s) cs ds

Through-append : (P : Disks → Type 0) (s : Disks) (cs ds : List Call) → Through P s cs → Through P (run s cs) ds → Through P s (cs ++ ds)
Through-append P s [] ds first second = second
Through-append P s (c ∷ cs) ds first second = (first.0, Through-append P (step c s) cs ds first.1 second)

Through-here : (P : Disks → Type 0) (s : Disks) (cs : List Call) → Through P s cs → P s
Through-here P s [] t = t
Through-here P s (c ∷ cs) t = t.0

pub extend-extend : (t : Trail) (cs ds : List Call) → extend (extend t cs) ds ≡ extend t (cs ++ ds)
extend-extend t cs ds = ap (λ (l : List Call). record { start = t.start; calls = l }) (append_assoc t.calls cs ds)

pub now-extend : (t : Trail) (cs : List Call) → now (extend t cs) ≡ run (now t) cs
now-extend t cs = run-append (initial t.start) t.calls cs

module _ (P : Disks → Type 0) where
  -- no call
  pub stays : (A B : Disks → Type 0) (told : Option Trail) → ((s : Disks) → B s → P s) → ((t : Trail) → told ≡ Some t → A (now t) → B (now t)) → Ran told told (CrashTriple P A B)
  stays A B told is go t tells = record {
    from = t;
    was = tells;
    calls = [];
    is = ap (λ (l : List Call). record { start = t.start; calls = l }) (sym (append-nil t.calls));
    holds = record { goes = λ a. let b = go t tells a in (is (now t) b, b) };
  }

  -- one call
  pub called : (A B : Disks → Type 0) (old new : Option Trail) (c : Call) → GrowsByCall old new c → ((s : Disks) → A s → P s) → ((s : Disks) → B s → P s) → ((s : Disks) → A s → B (step c s)) → Ran old new (CrashTriple P A B)
  called A B old new c grows is_a is_b go t tells =
      let g = grows t tells in
      record {
        from = g.0;
        was = g.1;
        calls = c ∷ [];
        is = g.2;
        holds = record { goes = λ a. let b = go (now g.0) a in ((is_a (now g.0) a, is_b (step c (now g.0)) b), b) };
      }

  -- one part after the other
  pub then : (A B C : Disks → Type 0) (old mid new : Option Trail) → Ran old mid (CrashTriple P A B) → Ran mid new (CrashTriple P B C) → Ran old new (CrashTriple P A C)
  then A B C old mid new first second t tells =
      let later = second t tells in
      let before = first later.from later.was in
      record {
        from = before.from;
        was = before.was;
        calls = before.calls ++ later.calls;
        is = later.is ∙ ap (λ (r : Trail). extend r later.calls) before.is ∙ extend-extend before.from before.calls later.calls;
        holds = record {
          goes = λ a.
              let s = now before.from in
              let here : now later.from ≡ run s before.calls = ap now before.is ∙ now-extend before.from before.calls in
              let b = before.holds.goes a in
              let c = later.holds.goes (subst B (sym here) b.1) in
              let c' = subst (λ (m : Disks). Through P m later.calls × C (run m later.calls)) here c in
              (Through-append P s before.calls later.calls b.0 c'.0, subst C (sym (run-append s before.calls later.calls)) c'.1);
        };
      }

  -- less is asked, and less is promised
  pub weaker : (A A' B B' : Disks → Type 0) (old new : Option Trail) → ((s : Disks) → A' s → A s) → ((s : Disks) → B s → B' s) → Ran old new (CrashTriple P A B) → Ran old new (CrashTriple P A' B')
  weaker A A' B B' old new ask promise ran t tells =
      let r = ran t tells in
      record {
        from = r.from;
        was = r.was;
        calls = r.calls;
        is = r.is;
        holds = record { goes = λ a. let b = r.holds.goes (ask (now r.from) a) in (b.0, promise (run (now r.from) r.calls) b.1) };
      }

-- by moments
at_moment : (P : Disks → Type 0) (s : Disks) (cs : List Call) (k : ℕ) → Through P s cs → P (run s (take k cs))
at_moment P s cs zero t = Through-here P s cs t
at_moment P s [] (suc k) t = t
at_moment P s (c ∷ cs) (suc k) t = at_moment P (step c s) cs k t.1

take_past : {A : Type 0} (xs ys : List A) (n : ℕ) → take (length xs + n) (xs ++ ys) ≡ xs ++ take n ys
take_past [] ys n = ap (λ (k : ℕ). take k ys) (omega arith)
take_past (x ∷ xs) ys n = let e : length (x ∷ xs) + n ≡ suc (length xs + n) = omega arith in ap (λ (k : ℕ). take k (x ∷ xs ++ ys)) e ∙ ap (λ l. x ∷ l) (take_past xs ys n)

pub moments_of : (P A B : Disks → Type 0) (old new : Option Trail) → Ran old new (CrashTriple P A B) → (t : Trail) → new ≡ Some t → (s : Trail) × (old ≡ Some s) × (moments s ≤ moments t) × (A (now s) → B (now t) × ((m : ℕ) → moments s ≤ m → m ≤ moments t → P (disks t m)))
moments_of P A B old new ran t tells =
    let r = ran t tells in
    let s = r.from in
    let size : moments t ≡ moments s + length r.calls = ap moments r.is ∙ length-append s.calls r.calls in (
      s,
      r.was,
      omega (arith, size),
      λ a.
          let b = r.holds.goes a in (
            subst B (sym (ap now r.is ∙ now-extend s r.calls)) b.1,
            λ m from to.
                let at : take m (s.calls ++ r.calls) ≡ s.calls ++ take (m - moments s) r.calls =
                (let e : m ≡ length s.calls + (m - moments s) = omega arith in ap (λ (k : ℕ). take k (s.calls ++ r.calls)) e ∙ take_past s.calls r.calls (m - moments s)) in
                let there : disks t m ≡ run (now s) (take (m - moments s) r.calls) =
                ap (λ (u : Trail). disks u m) r.is ∙ ap (run (initial s.start)) at ∙ run-append (initial s.start) s.calls (take (m - moments s) r.calls) in
                subst P (sym there) (at_moment P (now s) r.calls (m - moments s) b.0),
          ),
    )

-- the same, where what is said of the moments depends on the disks with which the part began
pub moments_from : (P A B : Disks → Disks → Type 0) (old new : Option Trail) → ((start : Disks) → Ran old new (CrashTriple (P start) (A start) (B start))) → (t : Trail) → new ≡ Some t
    → (s : Trail) × (old ≡ Some s) × (moments s ≤ moments t) × (A (now s) (now s) → B (now s) (now t) × ((m : ℕ) → moments s ≤ m → m ≤ moments t → P (now s) (disks t m)))
moments_from P A B old new ran t tells =
    let first = ran (initial []) t tells in
    let start = now first.from in
    let r = moments_of (P start) (A start) (B start) old new (ran start) t tells in
    let same : r.0 ≡ first.from = (let e : Some r.0 ≡ Some first.from = sym r.1 ∙ first.was in cc) in
    let here : now r.0 ≡ start = ap now same in (
      first.from,
      first.was,
      subst (λ (u : Trail). moments u ≤ moments t) same r.2,
      λ a.
          let b = r.3 (subst (λ (s : Disks). A start s) (sym here) a) in
          (b.0, λ m from to. b.1 m (subst (λ (u : Trail). moments u ≤ m) (sym same) from) to),
    )

-- calls that have Q, for any Q that holds of two parts where it holds of each
pub Ran-none : (Q : Disks → List Call → Type 0) → ((s : Disks) → Q s []) → (told : Option Trail) → Ran told told Q
Ran-none Q none told t tells = record {
  from = t;
  was = tells;
  calls = [];
  is = ap (λ (l : List Call). record { start = t.start; calls = l }) (sym (append-nil t.calls));
  holds = none (now t);
}

pub Ran-call : (Q : Disks → List Call → Type 0) (old new : Option Trail) (c : Call) → GrowsByCall old new c → ((s : Trail) → old ≡ Some s → Q (now s) (c ∷ [])) → Ran old new Q
Ran-call Q old new c grows has t tells =
    let g = grows t tells in
    record { from = g.0; was = g.1; calls = c ∷ []; is = g.2; holds = has g.0 g.1 }

pub Ran-then : (Q : Disks → List Call → Type 0) → ((s : Disks) (cs ds : List Call) → Q s cs → Q (run s cs) ds → Q s (cs ++ ds)) → (old mid new : Option Trail)
    → Ran old mid Q → Ran mid new Q → Ran old new Q
Ran-then Q both old mid new first second t tells =
    let later = second t tells in
    let before = first later.from later.was in
    let here : now later.from ≡ run (now before.from) before.calls = ap now before.is ∙ now-extend before.from before.calls in
    record {
      from = before.from;
      was = before.was;
      calls = before.calls ++ later.calls;
      is = later.is ∙ ap (λ (r : Trail). extend r later.calls) before.is ∙ extend-extend before.from before.calls later.calls;
      holds = both (now before.from) before.calls later.calls before.holds (subst (λ (s : Disks). Q s later.calls) here later.holds);
    }

-- the disks after one more call
pub now-more : (old new : Option Trail) (c : Call) → GrowsByCall old new c → (t : Trail) → new ≡ Some t → (s : Trail) × (old ≡ Some s) × (now t ≡ step c (now s))
now-more old new c grows t tells =
    let g = grows t tells in
    (g.0, g.1, ap now g.2 ∙ now-extend g.0 (c ∷ []))

pub AreLawful-append : (s : Disks) (cs ds : List Call) → AreLawful s cs → AreLawful (run s cs) ds → AreLawful s (cs ++ ds)
AreLawful-append s [] ds first second = second
AreLawful-append s (c ∷ cs) ds first second = (first.0, AreLawful-append (step c s) cs ds first.1 second)
