-- Records that are gathered: one group more, and what a stop at each moment leaves.
use Rattle.std.proofs.Common.{◌≡◌, ◌≤◌, ◌+◌, ◌-◌, inl, inr, ℕ, zero, suc, List, [], ◌∷◌, ◌++◌, length, take, refl, sym, ◌∙◌, ap, subst, arith, append_assoc, length-append}
use Rattle.std.proofs.lemmas.Bool.{cases_lt}
use Rattle.std.proofs.lemmas.List.{append-nil, take-append-le}
use Rattle.std.proofs.Math.Seq.{take-append-add, take-append_seam}
use Rattle.paraid_rack.specs.declared.call.Call.{Call}
use Rattle.paraid_rack.specs.Disks.{Disks, IsImage, step}
use Rattle.paraid_rack.specs.Told.{Through}
use Rattle.paraid_rack.specs.Trail.{Trail, run, now, disks, initial, extend, moments}
use Rattle.paraid_rack.proofs.TrailsLemmas.{extend-extend, now-extend}
use Rattle.paraid_gather.specs.Above.{LeavesImageOf}
use Rattle.paraid_gather.specs.PowerCalls.{power_calls}
use Rattle.paraid_gather.proofs.PowerCallsLemmas.{power_calls_append}
use Rattle.paraid_gather.specs.Gathering.{CallGroup, IsGathered, AreGathered, LeavesImage, calls_above, calls_below}

pub run_append : (s : Disks) (cs ds : List Call) → run s (cs ++ ds) ≡ run (run s cs) ds
run_append s [] ds = refl
run_append s (c ∷ cs) ds = run_append (step c s) cs ds

calls_above_append : (gs hs : List CallGroup) → calls_above (gs ++ hs) ≡ calls_above gs ++ calls_above hs
calls_above_append [] hs = refl
calls_above_append (x ∷ gs) hs = ap (λ (l : List Call). x.above ++ l) (calls_above_append gs hs) ∙ sym (append_assoc x.above (calls_above gs) (calls_above hs))

calls_below_append : (gs hs : List CallGroup) → calls_below (gs ++ hs) ≡ calls_below gs ++ calls_below hs
calls_below_append [] hs = refl
calls_below_append (x ∷ gs) hs = ap (λ (l : List Call). x.below ++ l) (calls_below_append gs hs) ∙ sym (append_assoc x.below (calls_below gs) (calls_below hs))

calls_above_push : (gs : List CallGroup) (g : CallGroup) → calls_above (gs ++ g ∷ []) ≡ calls_above gs ++ g.above
calls_above_push gs g = calls_above_append gs (g ∷ []) ∙ ap (λ (l : List Call). calls_above gs ++ l) (append-nil g.above)

calls_below_push : (gs : List CallGroup) (g : CallGroup) → calls_below (gs ++ g ∷ []) ≡ calls_below gs ++ g.below
calls_below_push gs g = calls_below_append gs (g ∷ []) ∙ ap (λ (l : List Call). calls_below gs ++ l) (append-nil g.below)

-- a part that is gathered from these disks is, from the same disks
from_same : (s s' b b' : Disks) (g : CallGroup) → s ≡ s' → b ≡ b' → LeavesImage s b → length g.above ≤ 1 → power_calls g.below ≡ power_calls g.above → Through (LeavesImageOf s' (run s' g.above)) b' g.below → LeavesImage (run s' g.above) (run b' g.below) → AreGathered s b (g ∷ [])
from_same s s' b b' g s_is b_is here one turned moments last = (
  here,
  one,
  turned,
  subst (λ (x : Disks). Through (LeavesImageOf x (run x g.above)) b g.below) (sym s_is) (subst (λ (y : Disks). Through (LeavesImageOf s' (run s' g.above)) y g.below) (sym b_is) moments),
  subst (λ (x : Disks). LeavesImage (run x g.above) (run b g.below)) (sym s_is) (subst (λ (y : Disks). LeavesImage (run s' g.above) (run y g.below)) (sym b_is) last),
)

gathered_push : (s b : Disks) (gs : List CallGroup) (g : CallGroup) (s' b' : Disks) → run s (calls_above gs) ≡ s' → run b (calls_below gs) ≡ b' → AreGathered s b gs → length g.above ≤ 1 → power_calls g.below ≡ power_calls g.above
    → Through (LeavesImageOf s' (run s' g.above)) b' g.below → LeavesImage (run s' g.above) (run b' g.below) → AreGathered s b (gs ++ g ∷ [])
gathered_push s b [] g s' b' s_is b_is it one turned moments last = from_same s s' b b' g s_is b_is it one turned moments last
gathered_push s b (x ∷ gs) g s' b' s_is b_is it one turned moments last = (
  it.0,
  it.1,
  it.2,
  it.3,
  gathered_push (run s x.above) (run b x.below) gs g s' b' (sym (run_append s x.above (calls_above gs)) ∙ s_is) (sym (run_append b x.below (calls_below gs)) ∙ b_is) it.4 one turned moments last,
)

-- nothing was called yet since the records were the same
pub gathered_none : (t : Trail) → IsGathered t t
gathered_none t = record {
  start = t;
  groups = [];
  above_is = ap (λ (l : List Call). record { start = t.start; calls = l }) (sym (append-nil t.calls));
  below_is = ap (λ (l : List Call). record { start = t.start; calls = l }) (sym (append-nil t.calls));
  gathered = λ i image. image;
}

-- one group more
pub gathered_more : (b a : Trail) (cs ds : List Call) → IsGathered b a → length ds ≤ 1 → power_calls cs ≡ power_calls ds → Through (LeavesImageOf (now a) (run (now a) ds)) (now b) cs → LeavesImage (run (now a) ds) (run (now b) cs)
    → IsGathered (extend b cs) (extend a ds)
gathered_more b a cs ds it one turned through last =
    let g : CallGroup = record { above = ds; below = cs } in
    record {
      start = it.start;
      groups = it.groups ++ g ∷ [];
      above_is = ap (λ (u : Trail). extend u ds) it.above_is ∙ extend-extend it.start (calls_above it.groups) ds ∙ ap (extend it.start) (sym (calls_above_push it.groups g));
      below_is = ap (λ (u : Trail). extend u cs) it.below_is ∙ extend-extend it.start (calls_below it.groups) cs ∙ ap (extend it.start) (sym (calls_below_push it.groups g));
      gathered = gathered_push (now it.start) (now it.start) it.groups g (now a) (now b)
          (sym (now-extend it.start (calls_above it.groups)) ∙ sym (ap now it.above_is)) (sym (now-extend it.start (calls_below it.groups)) ∙ sym (ap now it.below_is)) it.gathered one turned through last;
    }

at_moment : (P : Disks → Type 0) (s : Disks) (cs : List Call) (k : ℕ) → Through P s cs → P (run s (take k cs))
at_moment P s [] zero t = t
at_moment P s [] (suc k) t = t
at_moment P s (c ∷ cs) zero t = t.0
at_moment P s (c ∷ cs) (suc k) t = at_moment P (step c s) cs k t.1

-- between two groups
between : (s b : Disks) (before after : List CallGroup) → AreGathered s b (before ++ after) → LeavesImage (run s (calls_above before)) (run b (calls_below before))
between s b [] [] it = it
between s b [] (g ∷ after) it = it.0
between s b (x ∷ before) after it =
    subst (λ (y : Disks). LeavesImage (run s (x.above ++ calls_above before)) y) (sym (run_append b x.below (calls_below before)))
    (subst (λ (y : Disks). LeavesImage y (run (run b x.below) (calls_below before))) (sym (run_append s x.above (calls_above before))) (between (run s x.above) (run b x.below) before after it.4))

-- within a group
within : (s b : Disks) (before : List CallGroup) (g : CallGroup) (after : List CallGroup) (m : ℕ) → AreGathered s b (before ++ g ∷ after)
    → LeavesImageOf (run s (calls_above before)) (run (run s (calls_above before)) g.above) (run (run b (calls_below before)) (take m g.below))
within s b [] g after m it = at_moment (LeavesImageOf s (run s g.above)) b g.below m it.3
within s b (x ∷ before) g after m it =
    subst (λ (y : Disks). LeavesImageOf (run s (x.above ++ calls_above before)) (run (run s (x.above ++ calls_above before)) g.above) (run y (take m g.below))) (sym (run_append b x.below (calls_below before)))
    (subst (λ (y : Disks). LeavesImageOf y (run y g.above) (run (run (run b x.below) (calls_below before)) (take m g.below))) (sym (run_append s x.above (calls_above before)))
    (within (run s x.above) (run b x.below) before g after m it.4))

-- the disks at a moment past the start, after these calls and some of the next
disks_at : (t : Trail) (xs ys : List Call) (m : ℕ) → disks (extend t (xs ++ ys)) (moments t + length xs + m) ≡ run (run (now t) xs) (take m ys)
disks_at t xs ys m =
    let e : moments t + length xs + m ≡ length t.calls + (length xs + m) = omega arith in
    ap (λ (k : ℕ). run (initial t.start) (take k (t.calls ++ (xs ++ ys)))) e
    ∙ ap (run (initial t.start)) (take-append-add t.calls (xs ++ ys) (length xs + m) ∙ ap (λ (l : List Call). t.calls ++ l) (take-append-add xs ys m))
    ∙ run_append (initial t.start) t.calls (xs ++ take m ys) ∙ run_append (now t) xs (take m ys)

disks_here : (t : Trail) (xs ys : List Call) → disks (extend t (xs ++ ys)) (moments t + length xs) ≡ run (now t) xs
disks_here t xs ys =
    let e : moments t + length xs ≡ moments t + length xs + 0 = omega arith in
    ap (disks (extend t (xs ++ ys))) e ∙ disks_at t xs ys 0

disks_start : (t : Trail) (xs : List Call) (m : ℕ) → m ≤ moments t → disks (extend t xs) m ≡ disks t m
disks_start t xs m early = ap (run (initial t.start)) (take-append-le m t.calls xs early)

module _ (below above : Trail) (it : IsGathered below above) (before after : List CallGroup) (is : it.groups ≡ before ++ after) where
  above_splits : above ≡ extend it.start (calls_above before ++ calls_above after)
  above_splits = it.above_is ∙ ap (extend it.start) (ap calls_above is ∙ calls_above_append before after)

  below_splits : below ≡ extend it.start (calls_below before ++ calls_below after)
  below_splits = it.below_is ∙ ap (extend it.start) (ap calls_below is ∙ calls_below_append before after)

  here_above : disks above (moments it.start + length (calls_above before)) ≡ run (now it.start) (calls_above before)
  here_above = ap (λ (t : Trail). disks t (moments it.start + length (calls_above before))) above_splits ∙ disks_here it.start (calls_above before) (calls_above after)

  here_below : (m : ℕ) → disks below (moments it.start + length (calls_below before) + m) ≡ run (run (now it.start) (calls_below before)) (take m (calls_below after))
  here_below m = ap (λ (t : Trail). disks t (moments it.start + length (calls_below before) + m)) below_splits ∙ disks_at it.start (calls_below before) (calls_below after) m

  split : AreGathered (now it.start) (now it.start) (before ++ after)
  split = subst (λ (l : List CallGroup). AreGathered (now it.start) (now it.start) l) is it.gathered

  pub stop_between : LeavesImage (disks above (moments it.start + length (calls_above before))) (disks below (moments it.start + length (calls_below before)))
  stop_between =
      subst (λ (x : Disks). LeavesImage x (disks below (moments it.start + length (calls_below before)))) (sym here_above)
      (subst (λ (y : Disks). LeavesImage (run (now it.start) (calls_above before)) y)
      (sym (ap (λ (t : Trail). disks t (moments it.start + length (calls_below before))) below_splits ∙ disks_here it.start (calls_below before) (calls_below after)))
      (between (now it.start) (now it.start) before after split))

module _ (below above : Trail) (it : IsGathered below above) (before : List CallGroup) (g : CallGroup) (after : List CallGroup) (is : it.groups ≡ before ++ g ∷ after) where
  next_is : it.groups ≡ (before ++ g ∷ []) ++ after
  next_is = is ∙ sym (append_assoc before (g ∷ []) after)

  next_above : disks above (moments it.start + length (calls_above (before ++ g ∷ []))) ≡ run (run (now it.start) (calls_above before)) g.above
  next_above = here_above below above it (before ++ g ∷ []) after next_is ∙ ap (run (now it.start)) (calls_above_push before g) ∙ run_append (now it.start) (calls_above before) g.above

  pub stop_within : (m : ℕ) → m ≤ length g.below
      → LeavesImageOf (disks above (moments it.start + length (calls_above before))) (disks above (moments it.start + length (calls_above (before ++ g ∷ [])))) (disks below (moments it.start + length (calls_below before) + m))
  stop_within m inside =
      subst (λ (y : Disks). LeavesImageOf (disks above (moments it.start + length (calls_above before))) (disks above (moments it.start + length (calls_above (before ++ g ∷ [])))) y)
      (sym (here_below below above it before (g ∷ after) is m ∙ ap (run (run (now it.start) (calls_below before))) (take-append-le m g.below (calls_below after) inside)))
      (subst (λ (x : Disks). LeavesImageOf x (disks above (moments it.start + length (calls_above (before ++ g ∷ [])))) (run (run (now it.start) (calls_below before)) (take m g.below))) (sym (here_above below above it before (g ∷ after) is))
      (subst (λ (x : Disks). LeavesImageOf (run (now it.start) (calls_above before)) x (run (run (now it.start) (calls_below before)) (take m g.below))) (sym next_above)
      (within (now it.start) (now it.start) before g after m (split below above it before (g ∷ after) is))))

-- at any moment since the start
any_moment : (s b : Disks) (gs : List CallGroup) (m : ℕ) (i : Disks) → AreGathered s b gs → m ≤ length (calls_below gs) → IsImage (run b (take m (calls_below gs))) i
    → (k : ℕ) × (k ≤ length (calls_above gs)) × IsImage (run s (take k (calls_above gs))) i
any_moment s b [] zero i it inside image = (0, omega arith, it i image)
any_moment s b [] (suc m) i it inside image = (0, omega arith, it i image)
any_moment s b (g ∷ gs) m i it inside image = elim (cases_lt m (length g.below)) [
  | inl early ↦ elim (at_moment (LeavesImageOf s (run s g.above)) b g.below m it.3 i
      (subst (λ (l : List Call). IsImage (run b l) i) (take-append-le m g.below (calls_below gs) (omega (arith, early))) image)) [
        | inl old ↦ (0, omega arith, old)
        | inr new ↦ (
          length g.above,
          (let e = length-append g.above (calls_above gs) in omega (arith, e)),
          subst (λ (l : List Call). IsImage (run s l) i) (sym (take-append_seam g.above (calls_above gs))) new,
        )
      ]
  | inr late ↦
      let e : m ≡ length g.below + (m - length g.below) = omega (arith, late) in
      let sum = length-append g.below (calls_below gs) in
      let rest = any_moment (run s g.above) (run b g.below) gs (m - length g.below) i it.4 (omega (arith, sum, inside, late))
      (subst (λ (y : Disks). IsImage y i)
      (ap (λ (n : ℕ). run b (take n (g.below ++ calls_below gs))) e ∙ ap (run b) (take-append-add g.below (calls_below gs) (m - length g.below)) ∙ run_append b g.below (take (m - length g.below) (calls_below gs)))
      image) in (
        length g.above + rest.0,
        (let f = length-append g.above (calls_above gs) in let few = rest.1 in omega (arith, f, few)),
        subst (λ (y : Disks). IsImage y i) (sym (ap (run s) (take-append-add g.above (calls_above gs) rest.0) ∙ run_append s g.above (take rest.0 (calls_above gs)))) rest.2,
      )
]

stop_above : (t : Trail) (gs : List CallGroup) → AreGathered (now t) (now t) gs → (m : ℕ) → m ≤ moments (extend t (calls_below gs)) → (i : Disks) → IsImage (disks (extend t (calls_below gs)) m) i
    → (k : ℕ) × (k ≤ moments (extend t (calls_above gs))) × IsImage (disks (extend t (calls_above gs)) k) i
stop_above t gs it m inside i image = elim (cases_lt m (moments t)) [
  | inl early ↦ (
    m,
    (let e = length-append t.calls (calls_above gs) in omega (arith, e, early)),
    subst (λ (y : Disks). IsImage y i) (disks_start t (calls_below gs) m (omega (arith, early)) ∙ sym (disks_start t (calls_above gs) m (omega (arith, early)))) image,
  )
  | inr late ↦
      let e : m ≡ moments t + 0 + (m - moments t) = omega (arith, late) in
      let sum = length-append t.calls (calls_below gs) in
      let rest = any_moment (now t) (now t) gs (m - moments t) i it (omega (arith, sum, inside, late))
      (subst (λ (y : Disks). IsImage y i) (ap (disks (extend t (calls_below gs))) e ∙ disks_at t [] (calls_below gs) (m - moments t)) image) in (
        moments t + 0 + rest.0,
        (let f = length-append t.calls (calls_above gs) in let few = rest.1 in omega (arith, f, few)),
        subst (λ (y : Disks). IsImage y i) (sym (disks_at t [] (calls_above gs) rest.0)) rest.2,
      )
]

pub stop_of_gathered : (below above : Trail) → IsGathered below above → (m : ℕ) → m ≤ moments below → (i : Disks) → IsImage (disks below m) i → (k : ℕ) × (k ≤ moments above) × IsImage (disks above k) i
stop_of_gathered below above it m =
    subst (λ (u : Trail). m ≤ moments u → (i : Disks) → IsImage (disks u m) i → (k : ℕ) × (k ≤ moments above) × IsImage (disks above k) i) (sym it.below_is)
    (subst (λ (v : Trail). m ≤ moments (extend it.start (calls_below it.groups)) → (i : Disks) → IsImage (disks (extend it.start (calls_below it.groups)) m) i → (k : ℕ) × (k ≤ moments v) × IsImage (disks v k) i) (sym it.above_is)
    (stop_above it.start it.groups it.gathered m))

power_calls_of_groups : (s b : Disks) (gs : List CallGroup) → AreGathered s b gs → power_calls (calls_below gs) ≡ power_calls (calls_above gs)
power_calls_of_groups s b [] it = refl
power_calls_of_groups s b (g ∷ gs) it = power_calls_append g.below (calls_below gs) ∙ ap (λ (l : List Call). l ++ power_calls (calls_below gs)) it.2
    ∙ ap (λ (l : List Call). power_calls g.above ++ l) (power_calls_of_groups (run s g.above) (run b g.below) gs it.4) ∙ sym (power_calls_append g.above (calls_above gs))

pub power_calls_of_gathered : (below above : Trail) → IsGathered below above → power_calls below.calls ≡ power_calls above.calls
power_calls_of_gathered below above it = ap (λ (u : Trail). power_calls u.calls) it.below_is ∙ power_calls_append it.start.calls (calls_below it.groups)
    ∙ ap (λ (l : List Call). power_calls it.start.calls ++ l) (power_calls_of_groups (now it.start) (now it.start) it.groups it.gathered)
    ∙ sym (power_calls_append it.start.calls (calls_above it.groups)) ∙ sym (ap (λ (u : Trail). power_calls u.calls) it.above_is)
