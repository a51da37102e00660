-- Blocks that follow one another are written one by one.
use Rattle.std.proofs.Common.{◌≡◌, ◌≢◌, ◌⊎◌, inl, inr, ℕ, ◌+◌, ◌-◌, ◌<◌, ◌≤◌, length, Bool, true, false, List, [], ◌∷◌, ◌++◌, Option, Some, None, refl, sym, ◌∙◌, ap, subst, arith}
use Rattle.std.proofs.lemmas.Bool.{cases_eq, cases_lt, false≢true, true≢false}
use Rattle.std.proofs.lemmas.Bool.Decides.{nat_tests}
use Rattle.std.proofs.lemmas.List.{append-nil}
use Rattle.std.proofs.lemmas.Option.{slice_get_within}
use Rattle.std.specs.List.{slice_get}
use Rattle.paraid_base.specs.declared.block.Block.{Block}
use Rattle.paraid_base.specs.Told.{HasRisen}
use Rattle.paraid_rack.specs.declared.rack.Rack.{Ghosts}
use Rattle.paraid_rack.specs.declared.call.Power.TheVariants.{Spinning, Absent}
use Rattle.paraid_rack.specs.declared.call.Call.{Call}
use Rattle.paraid_rack.specs.declared.call.Call.TheVariants.{Write}
use Rattle.paraid_rack.specs.Slots.{Slot, ChangesOneSlot}
use Rattle.paraid_rack.specs.Disks.{Disks, step, lose}
use Rattle.paraid_rack.specs.Told.{GrowsByCall, Through, Ran}
use Rattle.paraid_rack.specs.Trail.{Trail, run, now, extend}
use Rattle.paraid_rack.proofs.AtomsLemmas.{with_at_same, with_at_other}
use Rattle.paraid_rack.proofs.TrailsLemmas.{extend-extend}
use Rattle.paraid_gather.specs.PowerCalls.{power_calls}
use Rattle.paraid_gather.specs.Waiting.{Waiting, waiting}
use Rattle.paraid_gather.specs.Bulk.{HasPowersOf, IsBetween, WritesBlocks, left_by}
use Rattle.paraid_gather.proofs.AboveLemmas.{both_at, same_at, some_none}
use Rattle.paraid_gather.proofs.FollowsLemmas.{through_map}
use Rattle.paraid_gather.proofs.PowerCallsLemmas.{power_calls_append}

run_push : (s : Disks) (cs : List Call) (c : Call) → run s (cs ++ c ∷ []) ≡ step c (run s cs)
run_push s [] c = refl
run_push s (x ∷ cs) c = run_push (step x s) cs c

through_push : (P : Disks → Type 0) (s : Disks) (cs : List Call) (c : Call) → Through P s cs → P (step c (run s cs)) → Through P s (cs ++ c ∷ [])
through_push P s [] c before last = (before, last)
through_push P s (x ∷ cs) c before last = (before.0, through_push P (step x s) cs c before.1 last)

through_last : (P : Disks → Type 0) (s : Disks) (cs : List Call) → Through P s cs → P (run s cs)
through_last P s [] t = t
through_last P s (c ∷ cs) t = through_last P (step c s) cs t.1

-- one more call
ran_push : (Q Q' : Disks → List Call → Type 0) (old mid new : Option Trail) (c : Call) → ((s : Disks) (cs : List Call) → Q s cs → Q' s (cs ++ c ∷ [])) → Ran old mid Q → GrowsByCall mid new c → Ran old new Q'
ran_push Q Q' old mid new c more ran grows t told =
    let g = grows t told in
    let r = ran g.0 g.1 in
    record {
      from = r.from;
      was = r.was;
      calls = r.calls ++ c ∷ [];
      is = g.2 ∙ ap (λ (u : Trail). extend u (c ∷ [])) r.is ∙ extend-extend r.from r.calls (c ∷ []);
      holds = more (now r.from) r.calls r.holds;
    }

-- the blocks that wait for places below k are written
pub record WritesBelow (d : ℕ) (w : Waiting) (k : ℕ) (s : Disks) (cs : List Call) : Type 0 where
  pub moments : Through (IsBetween s d w true) s cs
  pub powers : HasPowersOf s (run s cs)
  pub turned : power_calls cs ≡ []
  pub bytes : (p : ℕ) (b : List ℕ) → p < k → waiting w p ≡ Some b → ((run s cs).block d p).bytes ≡ b

module _ (d : ℕ) (w : Waiting) where
  milder : (s t : Disks) → IsBetween s d w true t → IsBetween s d w false t
  milder s t between = record {
    block = between.block;
    loose = between.loose;
    powers = elim between.powers [ inl same ↦ inl same | inr same ↦ inl same ];
  }

  module _ (s t : Disks) (k : ℕ) (x : Block) (here : waiting w k ≡ Some x.bytes) (between : IsBetween s d w true t) (same : HasPowersOf s t) where
    step_block : (ok : Bool) (e p : ℕ) → (e ≡ d → waiting w p ≡ None) → (step (Write d k x ok) t).block e p ≡ s.block e p
    unfolding step
    step_block ok e p none = elim (cases_eq e d) [
      | inl at ↦ elim (cases_eq p k) [
        | inl is ↦ absurd (some_none here (ap (waiting w) (sym is) ∙ none at))
        | inr other ↦ ap (λ (f : ℕ → Block). f p) (with_at_same t.block d _ e at) ∙ with_at_other (t.block d) k x p other ∙ ap (λ (j : ℕ). t.block j p) (sym at) ∙ between.block e p none
      ]
      | inr not ↦ ap (λ (f : ℕ → Block). f p) (with_at_other t.block d _ e not) ∙ between.block e p none
    ]

    step_loose : (ok : Bool) (e p : ℕ) → (e ≡ d → waiting w p ≡ None) → (step (Write d k x ok) t).loose e p ≡ s.loose e p
    unfolding step
    step_loose ok e p none = elim (cases_eq e d) [
      | inl at ↦ elim (cases_eq p k) [
        | inl is ↦ absurd (some_none here (ap (waiting w) (sym is) ∙ none at))
        | inr other ↦ ap (λ (f : ℕ → Bool). f p) (with_at_same t.loose d _ e at) ∙ with_at_other (t.loose d) k true p other ∙ ap (λ (j : ℕ). t.loose j p) (sym at) ∙ between.loose e p none
      ]
      | inr not ↦ ap (λ (f : ℕ → Bool). f p) (with_at_other t.loose d _ e not) ∙ between.loose e p none
    ]

    step_powers : (ok : Bool) → HasPowersOf (left_by ok d s) (step (Write d k x ok) t)
    unfolding step
    step_powers true = record { power = λ e. same_at t.power d e ∙ same.power e; size = λ e. same_at t.size d e ∙ same.size e }
    step_powers false = record { power = both_at t.power s.power d Absent Absent same.power refl; size = both_at t.size s.size d 0 0 same.size refl }

    step_between : (ok : Bool) → IsBetween s d w ok (step (Write d k x ok) t)
    step_between ok = record { block = step_block ok; loose = step_loose ok; powers = inr (step_powers ok) }

    step_bytes : ((p : ℕ) (b : List ℕ) → p < k → waiting w p ≡ Some b → (t.block d p).bytes ≡ b) → (p : ℕ) (b : List ℕ) → p < k + 1 → waiting w p ≡ Some b → ((step (Write d k x true) t).block d p).bytes ≡ b
    unfolding step
    step_bytes before p b below is = elim (cases_eq p k) [
      | inl at ↦ ap (λ (f : ℕ → Block). (f p).bytes) (with_at_same t.block d _ d refl) ∙ ap (λ (y : Block). y.bytes) (with_at_same (t.block d) k x p at)
          ∙ (let e : Some x.bytes ≡ Some b = sym here ∙ ap (waiting w) (sym at) ∙ is in cc)
      | inr other ↦ ap (λ (f : ℕ → Block). (f p).bytes) (with_at_same t.block d _ d refl) ∙ ap (λ (y : Block). y.bytes) (with_at_other (t.block d) k x p other)
          ∙ before p b (omega (arith, below, other)) is
    ]

  module _ (s : Disks) (cs : List Call) (k : ℕ) (x : Block) (here : waiting w k ≡ Some x.bytes) (below : WritesBelow d w k s cs) where
    last : IsBetween s d w true (run s cs)
    last = through_last (IsBetween s d w true) s cs below.moments

    one_more : WritesBelow d w (k + 1) s (cs ++ Write d k x true ∷ [])
    one_more = record {
      moments = through_push (IsBetween s d w true) s cs (Write d k x true) below.moments (step_between s (run s cs) k x here last below.powers true);
      powers = subst (λ (z : Disks). HasPowersOf s z) (sym (run_push s cs (Write d k x true))) (step_powers s (run s cs) k x here last below.powers true);
      turned = power_calls_append cs (Write d k x true ∷ []) ∙ ap (λ (l : List Call). l ++ []) below.turned;
      bytes = λ p b is at. ap (λ (z : Disks). (z.block d p).bytes) (run_push s cs (Write d k x true)) ∙ step_bytes s (run s cs) k x here last below.powers below.bytes p b is at;
    }

    one_failed : WritesBlocks d w false s (cs ++ Write d k x false ∷ [])
    one_failed = record {
      moments = through_push (IsBetween s d w false) s cs (Write d k x false) (through_map (IsBetween s d w true) (IsBetween s d w false) (milder s) s cs below.moments)
          (step_between s (run s cs) k x here last below.powers false);
      powers = subst (λ (z : Disks). HasPowersOf (lose d s) z) (sym (run_push s cs (Write d k x false))) (step_powers s (run s cs) k x here last below.powers false);
      turned = power_calls_append cs (Write d k x false ∷ []) ∙ ap (λ (l : List Call). l ++ []) below.turned;
      bytes = λ is. absurd (false≢true is);
    }

  module _ {R : Type 0} (g : Ghosts R) where
    -- what has come of a rack where the places below k are written
    pub record IsWritten (old new : R) (k : ℕ) : Type 0 where
      pub slots : g.slot_count new ≡ g.slot_count old
      pub others : (e : ℕ) → e ≢ d → g.slot new e ≡ g.slot old e
      pub here : ((k ≡ w.first) × (g.slot new d ≡ g.slot old d)) ⊎ (g.slot new d ≡ record (g.slot old d) { unsynced = true })
      pub told : Ran (g.told old) (g.told new) (WritesBelow d w k)

    pub is_spinning : (old now : R) (k : ℕ) (it : IsWritten old now k) → (g.slot old d).power ≡ Spinning → (g.slot now d).power ≡ Spinning
    is_spinning old now k it spins = elim it.here [ inl same ↦ ap (λ (x : Slot). x.power) same.1 ∙ spins | inr dirty ↦ ap (λ (x : Slot). x.power) dirty ∙ spins ]

    pub is_sized : (old now : R) (k : ℕ) (it : IsWritten old now k) → (g.slot now d).size ≡ (g.slot old d).size
    is_sized old now k it = elim it.here [ inl same ↦ ap (λ (x : Slot). x.size) same.1 | inr dirty ↦ ap (λ (x : Slot). x.size) dirty ]

    -- nothing is written yet
    pub written_none : (old : R) → ((p : ℕ) → p < w.first → waiting w p ≡ None) → IsWritten old old w.first
    written_none old none = record {
      slots = refl;
      others = λ e not. refl;
      here = inl (refl, refl);
      told = λ t is. record {
        from = t;
        was = is;
        calls = [];
        is = ap (λ (l : List Call). record { start = t.start; calls = l }) (sym (append-nil t.calls));
        holds = record {
          moments = record { block = λ e p _. refl; loose = λ e p _. refl; powers = inl (record { power = λ _. refl; size = λ _. refl }) };
          powers = record { power = λ _. refl; size = λ _. refl };
          turned = refl;
          bytes = λ p b below at. absurd (some_none at (none p below));
        };
      };
    }

    module _ (old now next : R) (k : ℕ) (x : Block) (it : IsWritten old now k) (here : waiting w k ≡ Some x.bytes) (slots : g.slot_count next ≡ g.slot_count now) where
      dirty_now : record (g.slot now d) { unsynced = true } ≡ record (g.slot old d) { unsynced = true }
      dirty_now = elim it.here [ inl same ↦ ap (λ (y : Slot). record y { unsynced = true }) same.1 | inr dirty ↦ ap (λ (y : Slot). record y { unsynced = true }) dirty ]

      same_faults : (g.slot now d).faults ≡ (g.slot old d).faults
      same_faults = elim it.here [ inl same ↦ ap (λ (y : Slot). y.faults) same.1 | inr dirty ↦ ap (λ (y : Slot). y.faults) dirty ]

      pub written_more : ChangesOneSlot (g.slot now) (g.slot next) d (record (g.slot now d) { unsynced = true }) true true → GrowsByCall (g.told now) (g.told next) (Write d k x true) → IsWritten old next (k + 1)
      written_more call grows = record {
        slots = slots ∙ it.slots;
        others = λ e not. call.others e not ∙ it.others e not;
        here = inr (call.done refl ∙ dirty_now);
        told = ran_push (WritesBelow d w k) (WritesBelow d w (k + 1)) (g.told old) (g.told now) (g.told next) (Write d k x true) (λ s cs below. one_more s cs k x here below) it.told grows;
      }

      pub written_failed : ChangesOneSlot (g.slot now) (g.slot next) d (record (g.slot now d) { unsynced = true }) true false → ChangesOneSlot (g.slot old) (g.slot next) d (record (g.slot old d) { unsynced = true }) true false
      written_failed call = record {
        others = λ e not. call.others e not ∙ it.others e not;
        done = λ is. absurd (false≢true is);
        absent = call.absent;
        empty = call.empty;
        unsynced = call.unsynced;
        risen = λ is. subst (λ (n : ℕ). HasRisen n (g.slot next d).faults) same_faults (call.risen is);
        later = λ is. subst (λ (n : ℕ). n ≤ (g.slot next d).faults) same_faults (call.later is);
      }

      pub written_failed_calls : GrowsByCall (g.told now) (g.told next) (Write d k x false) → Ran (g.told old) (g.told next) (WritesBlocks d w false)
      written_failed_calls grows = ran_push (WritesBelow d w k) (WritesBlocks d w false) (g.told old) (g.told now) (g.told next) (Write d k x false) (λ s cs below. one_failed s cs k x here below) it.told grows

    module _ (old now : R) (k : ℕ) (it : IsWritten old now k) where
      -- all is written
      pub written_slot : (k ≡ w.first → ⊥) → ChangesOneSlot (g.slot old) (g.slot now) d (record (g.slot old d) { unsynced = true }) true true
      written_slot some = record {
        others = it.others;
        done = λ _. elim it.here [ inl same ↦ absurd (some same.0) | inr dirty ↦ dirty ];
        absent = λ is. absurd (true≢false is);
        empty = λ is. absurd (true≢false is);
        unsynced = λ is. absurd (true≢false is);
        risen = λ is. absurd (true≢false is);
        later = λ is. absurd (true≢false is);
      }

      pub written_calls : ((p : ℕ) (b : List ℕ) → waiting w p ≡ Some b → p < k) → Ran (g.told old) (g.told now) (WritesBlocks d w true)
      written_calls all t told =
          let r = it.told t told in
          record {
            from = r.from;
            was = r.was;
            calls = r.calls;
            is = r.is;
            holds = record { moments = r.holds.moments; powers = r.holds.powers; turned = r.holds.turned; bytes = λ _ p b is. r.holds.bytes p b (all p b is) is };
          }

-- what waits, by its list
module _ (first : ℕ) (blocks : List (List ℕ)) where
  pub waiting_before : (p : ℕ) → p < first → waiting (record { first = first; blocks = blocks }) p ≡ None
  unfolding waiting
  waiting_before p before = grind (arith, nat_tests, before)

  pub waiting_listed : (p : ℕ) (b : List ℕ) → first ≤ p → slice_get blocks (p - first) ≡ Some b → waiting (record { first = first; blocks = blocks }) p ≡ Some b
  unfolding waiting
  waiting_listed p b from is = grind (arith, nat_tests, from, is)

  pub waiting_within : (p : ℕ) (b : List ℕ) → waiting (record { first = first; blocks = blocks }) p ≡ Some b → p < first + length blocks
  unfolding waiting
  waiting_within p b is = elim (cases_lt p first) [
    | inl before ↦ absurd (some_none is (waiting_before p before))
    | inr past ↦ (let got : slice_get blocks (p - first) ≡ Some b = grind (arith, nat_tests, past, is) in
        let below = slice_get_within blocks (p - first) b got in omega (arith, below, past))
  ]
