-- What a stop leaves of a list of calls.
use Rattle.std.proofs.Common.{◌≡◌, ℕ, ◌+◌, ◌-◌, ◌≤◌, ◌∙◌, ◌++◌, ◌∷◌, [], length, take, refl, sym, ap, arith, subst, inl, inr}
use Rattle.std.specs.Prelude.{◌⊎◌}
use Rattle.std.proofs.lemmas.Bool.{cases_lt}
use Rattle.std.proofs.lemmas.List.{append-nil, append_assoc, take-append-le}
use Rattle.std.proofs.lemmas.List.Elements.{All-append, All-nil}
use Rattle.std.proofs.Math.Seq.{take-append-add}
use Rattle.paraid_base.specs.declared.block.Block.{Block}
use Rattle.paraid_base.specs.History.{History, after, after_all, joined_entries, last_of}
use Rattle.paraid_base.specs.Xor.{zero_block}
use Rattle.paraid_base.proofs.HistoryLemmas.{after_all-last_of}
use Rattle.paraid_base.proofs.PairsLemmas.{all_one}
use Rattle.paraid_volume.specs.Lives.{IsFlushedBy, IsLeftByLife, Life, VolumeStep, VolAnswer, VolCall, VolLog, begun, next, flushed, creates, deletes, reads, writes, flushes, refuses}
use Rattle.paraid_volume.specs.States.{ShowsVolumes, VolumeState}

after_first : (h more : History) (k : ℕ) → k ≤ length h → after (h ++ more) k ≡ after h k
unfolding after
after_first h more k l = λ i b. ap (λ (x : History). last_of b zero_block (joined_entries x)) (take-append-le k h more l) i

after_past : (h more : History) (j : ℕ) → after (h ++ more) (length h + j) ≡ after_all (h ++ take j more)
unfolding after
after_past h more j = λ i b. (ap (λ (x : History). last_of b zero_block (joined_entries x)) (take-append-add h more j) ∙ sym (after_all-last_of (h ++ take j more) b)) i

pub life_shows : (count start : ℕ) (h : History) (s : VolumeState) (log : VolLog) → Life count start h s log → ShowsVolumes count (after_all h) s
life_shows count start _ _ _ (begun h s is shows) = shows
life_shows count start _ _ _ (next h more s t log call answer life step during shows number) = shows

-- only a flush is answered with a number, and it leaves the state
flush_or_not : (count : ℕ) (s t : VolumeState) (call : VolCall) (answer : VolAnswer) → VolumeStep count s call answer t → (s ≡ t) ⊎ ((number : ℕ) → answer ≡ flushed number → ⊥)
flush_or_not count s _ _ _ (creates text extents id spells unused some least room) = inr (λ number is. cc)
flush_or_not count s _ _ _ (deletes id named) = inr (λ number is. cc)
flush_or_not count s _ _ _ (reads id v there) = inl refl
flush_or_not count s _ _ _ (writes id v bytes there) = inr (λ number is. cc)
flush_or_not count s _ _ _ (flushes number) = inl refl
flush_or_not count s _ _ _ (refuses call fault is) = inl refl

module _ (count start : ℕ) (h more : History) (s t : VolumeState) (log : VolLog) (call : VolCall) (answer : VolAnswer) (k : ℕ) where
  -- the call is not seen
  before_call : IsLeftByLife count start h k log → k ≤ length h → (IsFlushedBy k (call, answer) → ⊥) → IsLeftByLife count start (h ++ more) k (log ++ (call, answer) ∷ [])
  before_call left l not = record {
    done = left.done;
    rest = left.rest ++ (call, answer) ∷ [];
    parts = ap (λ (x : VolLog). x ++ (call, answer) ∷ []) left.parts ∙ append_assoc left.done left.rest ((call, answer) ∷ []);
    past = left.past;
    later = left.later ++ more;
    begins = ap (λ (x : History). x ++ more) left.begins ∙ append_assoc left.past left.later more;
    state = left.state;
    lived = left.lived;
    shows = subst (λ (c : ℕ → Block). ShowsVolumes count c left.state) (sym (after_first h more k l)) left.shows;
    flushed_all = All-append (λ (pair : VolCall × VolAnswer). IsFlushedBy k pair → ⊥) left.rest ((call, answer) ∷ []) left.flushed_all
        (all_one (λ (pair : VolCall × VolAnswer). IsFlushedBy k pair → ⊥) (call, answer) not);
  }

  -- all calls are seen
  with_call : Life count start (h ++ more) t (log ++ (call, answer) ∷ []) → ShowsVolumes count (after (h ++ more) k) t → IsLeftByLife count start (h ++ more) k (log ++ (call, answer) ∷ [])
  with_call life shows = record {
    done = log ++ (call, answer) ∷ [];
    rest = [];
    parts = sym (append-nil (log ++ (call, answer) ∷ []));
    past = h ++ more;
    later = [];
    begins = sym (append-nil (h ++ more));
    state = t;
    lived = life;
    shows = shows;
    flushed_all = All-nil (λ (pair : VolCall × VolAnswer). IsFlushedBy k pair → ⊥);
  }

  -- the call is under way
  in_call : Life count start h s log → ShowsVolumes count (after (h ++ more) k) s → (IsFlushedBy k (call, answer) → ⊥) → IsLeftByLife count start (h ++ more) k (log ++ (call, answer) ∷ [])
  in_call life shows not = record {
    done = log;
    rest = (call, answer) ∷ [];
    parts = refl;
    past = h;
    later = more;
    begins = refl;
    state = s;
    lived = life;
    shows = shows;
    flushed_all = all_one (λ (pair : VolCall × VolAnswer). IsFlushedBy k pair → ⊥) (call, answer) not;
  }

pub left_by : (count start : ℕ) (h : History) (s : VolumeState) (log : VolLog) → Life count start h s log → (k : ℕ) → start ≤ k → k ≤ length h → IsLeftByLife count start h k log
left_by count start _ _ _ (begun h s is shows) k low high =
    let at : length h ≡ k = omega (arith, is, low, high) in
    record {
      done = [];
      rest = [];
      parts = refl;
      past = h;
      later = [];
      begins = sym (append-nil h);
      state = s;
      lived = begun h s is shows;
      shows = subst (λ (n : ℕ). ShowsVolumes count (after h n) s) at shows;
      flushed_all = All-nil (λ (pair : VolCall × VolAnswer). IsFlushedBy k pair → ⊥);
    }
left_by count start _ _ _ (next h more s t log call answer life step during shows number) k low high = elim (cases_lt k (length h)) [
  | inl l ↦
      before_call count start h more s t log call answer k (left_by count start h s log life k low (omega (arith, l))) (omega (arith, l))
      (λ flush. let is = number flush.0 flush.1 in let few = flush.2 in omega (arith, is, few, l))
  | inr l ↦
      let sum : length h + (k - length h) ≡ k = omega (arith, l) in
      let at : after (h ++ more) k ≡ after_all (h ++ take (k - length h) more) = ap (after (h ++ more)) (sym sum) ∙ after_past h more (k - length h) in
      let whole = next h more s t log call answer life step during shows number in
      elim (during (k - length h)) [
        | inr new ↦ with_call count start h more s t log call answer k whole (subst (λ (c : ℕ → Block). ShowsVolumes count c t) (sym at) new)
        | inl old ↦ elim (flush_or_not count s t call answer step) [
          | inl same ↦ with_call count start h more s t log call answer k whole (subst (λ (c : ℕ → Block). ShowsVolumes count c t) (sym at) (subst (λ (x : VolumeState). ShowsVolumes count (after_all (h ++ take (k - length h) more)) x) same old))
          | inr not ↦ in_call count start h more s t log call answer k life (subst (λ (c : ℕ → Block). ShowsVolumes count c s) (sym at) old) (λ flush. not flush.0 flush.1)
        ]
      ]
]
