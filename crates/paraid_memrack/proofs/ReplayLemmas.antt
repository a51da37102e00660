-- All slots as they were at an earlier moment: at the start, and one call later.
use Rattle.std.proofs.Common.{◌≡◌, ◌≢◌, inl, inr, ℕ, ◌+◌, ◌<◌, List, [], ◌∷◌, ◌++◌, length, map, get_or, set, take, refl, sym, ◌∙◌, ap, subst}
use Rattle.std.proofs.Math.ListN.{get_or-map as get_or-map_default}
use Rattle.std.proofs.lemmas.Bool.{cases_eq}
use Rattle.std.proofs.lemmas.List.{map-set, get_or-map, get_or-set_same, get_or-set_other, length-map, take_more}
use Rattle.paraid_base.specs.declared.block.Block.{Block}
use Rattle.paraid_base.specs.Xor.{zero_block}
use Rattle.paraid_rack.specs.declared.call.Call.{Call}
use Rattle.paraid_rack.specs.Disks.{Disks, step}
use Rattle.paraid_rack.specs.Trail.{Beginning, Trail, beginning, disks, initial, run}
use Rattle.paraid_rack.proofs.TrailsLemmas.{now-extend}
use Rattle.paraid_memrack.specs.declared.past.PastSlot.{PastSlot}
use Rattle.paraid_rack.specs.Calls.{disk_of}
use Rattle.paraid_memrack.specs.Stop.{kept_after, kept_by}
use Rattle.paraid_memrack.specs.Tells.{no_beginning}
use Rattle.paraid_memrack.specs.Versions.{synced_block}
use Rattle.paraid_memrack.specs.Past.{Past, past_of, past_at, past_start, no_past, IsPast, MakesPast, AllPast, AllPastAt}
use Rattle.paraid_memrack.proofs.PastLemmas.{past_other}

past_here : (slots : List PastSlot) (d : ℕ) (y : PastSlot) → d < length slots → y ≡ get_or slots d y → past_at slots d ≡ past_of y
unfolding past_at
past_here slots d y within is = get_or-map past_of slots d y no_past within ∙ ap past_of (sym is)

past_set_same : (slots : List PastSlot) (d : ℕ) (x : PastSlot) → d < length slots → past_at (set slots d x) d ≡ past_of x
unfolding past_at
past_set_same slots d x within =
    ap (λ (l : List Past). get_or l d no_past) (map-set past_of slots d x)
    ∙ get_or-set_same (map past_of slots) d (past_of x) no_past (simp length-map within)

past_set_other : (slots : List PastSlot) (d : ℕ) (x : PastSlot) (e : ℕ) → e ≢ d → past_at (set slots d x) e ≡ past_at slots e
unfolding past_at
past_set_other slots d x e not =
    ap (λ (l : List Past). get_or l e no_past) (map-set past_of slots d x)
    ∙ get_or-set_other (map past_of slots) d e (past_of x) no_past not

-- one slot follows a call on it, and so all do
pub all_follow : (c : Call) (slots : List PastSlot) (d : ℕ) (y x : PastSlot) → d ≡ disk_of c → d < length slots → y ≡ get_or slots d y → MakesPast c (past_of y) (past_of x)
    → (s : Disks) (kept : ℕ → ℕ → Block) → AllPast s kept slots → AllPast (step c s) (kept_after c s kept) (set slots d x)
all_follow c slots d y x on within read f s kept was e =
    let n : Disks = step c s in
    let keeps : ℕ → ℕ → Block = kept_after c s kept in
    elim (cases_eq e d) [
      | inl same ↦
          let before : IsPast s kept (disk_of c) (past_of y) =
          subst (λ (k : ℕ). IsPast s kept k (past_of y)) on (subst (IsPast s kept d) (past_here slots d y within read) (was d)) in
          let after : IsPast n keeps d (past_of x) = subst (λ (k : ℕ). IsPast n keeps k (past_of x)) (sym on) (f.follows s kept before) in
          subst (λ (k : ℕ). IsPast n keeps k (past_at (set slots d x) k)) (sym same) (subst (IsPast n keeps d) (sym (past_set_same slots d x within)) after)
      | inr not ↦ subst (IsPast n keeps e) (sym (past_set_other slots d x e not)) (past_other c s kept e (past_at slots e) (λ same. not (same ∙ sym on)) (was e))
    ]

-- at the start
past_begins : (start : List Beginning) (d : ℕ) → IsPast (initial start) (initial start).block d (past_start (beginning start d))
unfolding initial
past_begins start d =
    let blocks : List Block = (beginning start d).blocks in
    record {
      power = refl;
      size = sym (length-map blocks synced_block);
      blocks = λ p within. get_or-map_default synced_block blocks p zero_block;
    }

pub all_past_start : (slots : List PastSlot) (start : List Beginning) → map past_of slots ≡ map past_start start → AllPast (initial start) (initial start).block slots
unfolding past_at
all_past_start slots start same d =
    let is : past_at slots d ≡ past_start (beginning start d) = ap (λ (l : List Past). get_or l d no_past) same ∙ get_or-map_default past_start start d no_beginning in
    subst (IsPast (initial start) (initial start).block d) (sym is) (past_begins start d)

kept_by-push : (s : Disks) (kept : ℕ → ℕ → Block) (cs : List Call) (c : Call) → kept_by s kept (cs ++ c ∷ []) ≡ kept_after c (run s cs) (kept_by s kept cs)
kept_by-push s kept [] c = refl
kept_by-push s kept (b ∷ cs) c = kept_by-push (step b s) (kept_after b s kept) cs c

-- one call later
pub all_past_more : (t : Trail) (m : ℕ) (c : Call) (before after : List PastSlot) → m < length t.calls → c ≡ get_or t.calls m c
    → (AllPast (disks t m) (kept_by (initial t.start) (initial t.start).block (take m t.calls)) before
    → AllPast (step c (disks t m)) (kept_after c (disks t m) (kept_by (initial t.start) (initial t.start).block (take m t.calls))) after)
    → AllPastAt t m before → AllPastAt t (m + 1) after
all_past_more t m c before after within read follow was =
    let s : Disks = initial t.start in
    let calls : take (m + 1) t.calls ≡ take m t.calls ++ c ∷ [] = take_more t.calls m c within ∙ ap (λ (k : Call). take m t.calls ++ k ∷ []) (sym read) in
    let past : Trail = record { start = t.start; calls = take m t.calls } in
    let there : disks t (m + 1) ≡ step c (disks t m) = ap (run s) calls ∙ now-extend past (c ∷ []) in
    let keeps : kept_by s s.block (take (m + 1) t.calls) ≡ kept_after c (disks t m) (kept_by s s.block (take m t.calls)) =
    ap (kept_by s s.block) calls ∙ kept_by-push s s.block (take m t.calls) c in
    subst (λ (n : Disks). AllPast n (kept_by s s.block (take (m + 1) t.calls)) after) (sym there)
    (subst (λ (k : ℕ → ℕ → Block). AllPast (step c (disks t m)) k after) (sym keeps) (follow was))
