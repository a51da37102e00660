-- What a write of bytes does, block by block
use Rattle.std.proofs.Common.{◌≡◌, ℕ, ◌+◌, ◌-◌, ◌*◌, ◌/◌, ◌%◌, ◌<◌, ◌≤◌, ◌⊎◌, inl, inr, List, [], ◌∷◌, ◌++◌, Option, Some, None, length, take, drop, get_or, map, arith, refl, sym, ◌∙◌, ap, append_assoc, subst, zero, suc}
use Rattle.std.proofs.lemmas.Bool.Decides.{nat_tests}
use Rattle.std.proofs.lemmas.Bool.{cases_lt, cases_eq}
use Rattle.std.proofs.lemmas.List.{append-nil, length-take-le, length-drop, get_or_past, map-append, get_or-take, get_or-drop}
use Rattle.paraid_base.proofs.HistoryLemmas.{after_all-written, after_all-other}
use Rattle.paraid_base.specs.declared.block.Block.{Block}
use Rattle.paraid_base.specs.declared.event.Answer.TheVariants.{Halted as HaltedAnswer}
use Rattle.paraid_base.specs.declared.event.Event.{Event}
use Rattle.paraid_base.specs.declared.event.Event.TheVariants.{Write as WriteEvent}
use Rattle.paraid_base.specs.declared.fault.Halt.{Halt}
use Rattle.paraid_base.specs.BlockAnswers.{Answers}
use Rattle.paraid_base.specs.History.{Entry, History, after_all}
use Rattle.paraid_base.specs.Pairs.{single_pair}
use Rattle.paraid_nbd.specs.Export.{byte_at, byte_after, count_from, block_span, each_alone, AreBytesWritten, changes, write_events, IsDeviceState, HaltsHere, HasRest, HasBlock, HasPart, HasWritten, Stops, WrittenFirst, WritesBytes}
use Rattle.paraid_nbd.proofs.DeviceLemmas.{changes-append, AreBytesWritten-none}

pub part_written : {stands now_stands : History → Type 0} {halted now : Option Halt} {kept now_kept : Answers → Type 0} {s : Option History} {events : Answers} {number size : ℕ} {old : Block}
    (start : ℕ) (bytes : List ℕ) (block : Block) (r : HasRest stands halted kept s events number size old) → length bytes ≡ size → start + length bytes ≤ 512
    → ((k : ℕ) → k < length bytes → get_or block.bytes (start + k) 0 ≡ get_or bytes k 0)
    → ((k : ℕ) → (start ≤ k → k < start + length bytes → ⊥) → get_or block.bytes k 0 ≡ get_or old.bytes k 0)
    → HasBlock now_stands now now_kept s (events ++ r.new) number block → HasPart now_stands now now_kept s events number start bytes
part_written {now_kept = now_kept} {s = s} {events = events} {number = number} {size = size} {old = old} start bytes block r many within inside outside x = record {
  h = x.h;
  was = x.was;
  block = block;
  now = x.now;
  inside = inside;
  outside = λ k out. elim (cases_eq size 512) [
    | inl whole ↦ elim (cases_lt k 512) [
      | inl small ↦ absurd (out (omega arith) (omega arith))
      | inr large ↦ get_or_past block.bytes k 0 (omega (arith, block.whole)) ∙ sym (get_or_past (after_all x.h number).bytes k 0 (omega (arith, (after_all x.h number).whole)))
    ]
    | inr part ↦ outside k out ∙ ap (λ (y : Block). get_or y.bytes k 0) (r.value x.h x.was part)
  ];
  new = r.new ++ x.new;
  writes = changes-append r.new x.new ∙ ap (λ (y : List Event). y ++ changes x.new) r.reads ∙ x.writes;
  kept_is = subst now_kept (append_assoc events r.new x.new) x.kept_is;
}

count_from-more : (first m : ℕ) → count_from first (m + 1) ≡ count_from first m ++ (first + m) ∷ []
count_from-more first zero = ap (λ (x : ℕ). x ∷ []) (let e : first ≡ first + 0 = omega arith in e)
count_from-more first (suc m) =
    let e : suc m + 1 ≡ suc (m + 1) = omega arith in
    let f : (first + 1) + m ≡ first + suc m = omega arith in
    ap (count_from first) e ∙ ap (λ (x : List ℕ). first ∷ x) (count_from-more (first + 1) m ∙ ap (λ (x : ℕ). count_from (first + 1) m ++ x ∷ []) f)

-- one part more touches one block more
block_span-more : (offset d n b start : ℕ) → offset + d ≡ 512 * b + start → start + n ≤ 512 → 0 < n → (d ≡ 0) ⊎ (start ≡ 0)
    → (block_span offset (d + n) ≡ block_span offset d + 1) × (offset / 512 + block_span offset d ≡ b)
block_span-more offset d n b start at within some (inl first) = (grind (arith, nat_tests), grind (arith, nat_tests))
block_span-more offset d n b start at within some (inr whole) = elim (cases_eq d 0) [
  | inl none ↦ (grind (arith, nat_tests), grind (arith, nat_tests))
  | inr more ↦ (grind (arith, nat_tests), grind (arith, nat_tests))
]

after-in : (h : History) (offset : ℕ) (bytes : List ℕ) (k : ℕ) → offset ≤ k → k < offset + length bytes → byte_after h offset bytes k ≡ get_or bytes (k - offset) 0
unfolding byte_after
after-in h offset bytes k low high = grind (arith, nat_tests)

after-out : (h : History) (offset : ℕ) (bytes : List ℕ) (k : ℕ) → (offset ≤ k → k < offset + length bytes → ⊥) → byte_after h offset bytes k ≡ byte_at h k
unfolding byte_after
after-out h offset bytes k out = elim (cases_lt k offset) [
  | inl low ↦ grind (arith, nat_tests)
  | inr high ↦ let over : offset + length bytes ≤ k = elim (cases_lt k (offset + length bytes)) [ inl less ↦ absurd (out high less) | inr more ↦ more ] in grind (arith, nat_tests)
]

after-other : (h : History) (offset d n : ℕ) (from : List ℕ) (k : ℕ) → d + n ≤ length from → (offset + d ≤ k → k < offset + (d + n) → ⊥)
    → byte_after h offset (take d from) k ≡ byte_after h offset (take (d + n) from) k
after-other h offset d n from k within out =
    let short : length (take d from) ≡ d = length-take-le d from (omega arith) in
    let long : length (take (d + n) from) ≡ d + n = length-take-le (d + n) from within in
    elim (cases_lt k offset) [
      | inl low ↦ after-out h offset (take d from) k (λ p q. absurd (omega arith)) ∙ sym (after-out h offset (take (d + n) from) k (λ p q. absurd (omega arith)))
      | inr high ↦ elim (cases_lt k (offset + d)) [
        | inl in_it ↦ after-in h offset (take d from) k (omega arith) (omega (arith, short)) ∙ get_or-take d from (k - offset) 0 (omega arith)
            ∙ sym (get_or-take (d + n) from (k - offset) 0 (omega arith)) ∙ sym (after-in h offset (take (d + n) from) k (omega arith) (omega (arith, long)))
        | inr over ↦ after-out h offset (take d from) k (λ p q. absurd (omega (arith, short))) ∙ sym (after-out h offset (take (d + n) from) k (λ p q. absurd (out (omega arith) (omega (arith, long)))))
      ]
    ]

after-here : (h : History) (offset d n : ℕ) (from : List ℕ) (k : ℕ) → d + n ≤ length from → offset + d ≤ k → k < offset + (d + n)
    → byte_after h offset (take (d + n) from) k ≡ get_or from (k - offset) 0
after-here h offset d n from k within low high =
    let long : length (take (d + n) from) ≡ d + n = length-take-le (d + n) from within in
    after-in h offset (take (d + n) from) k (omega arith) (omega (arith, long)) ∙ get_or-take (d + n) from (k - offset) 0 (omega arith)

each_alone-append : (h : History) (a : Entry) (w : ℕ × Block) → h ++ each_alone (a ++ w ∷ []) ≡ (h ++ each_alone a) ++ (w ∷ []) ∷ []
each_alone-append h [] w = ap (λ (x : History). x ++ (w ∷ []) ∷ []) (sym (append-nil h))
each_alone-append h (v ∷ a) w =
    sym (append_assoc h ((v ∷ []) ∷ []) (each_alone (a ++ w ∷ []))) ∙ each_alone-append (h ++ (v ∷ []) ∷ []) a w ∙ ap (λ (x : History). x ++ (w ∷ []) ∷ []) (append_assoc h ((v ∷ []) ∷ []) (each_alone a))

pub AreBytesWritten-more : (h : History) (writes : Entry) (offset d n : ℕ) (from : List ℕ) (b start : ℕ) (block : Block) → AreBytesWritten h offset (take d from) writes
    → offset + d ≡ 512 * b + start → start + n ≤ 512 → 0 < n → d + n ≤ length from → (d ≡ 0) ⊎ (start ≡ 0)
    → ((k : ℕ) → k < n → get_or block.bytes (start + k) 0 ≡ get_or from (d + k) 0)
    → ((k : ℕ) → (start ≤ k → k < start + n → ⊥) → get_or block.bytes k 0 ≡ get_or (after_all (h ++ each_alone writes) b).bytes k 0)
    → AreBytesWritten h offset (take (d + n) from) (writes ++ (b, block) ∷ [])
unfolding byte_at
AreBytesWritten-more h writes offset d n from b start block w at within some few side inside outside =
    let long : length (take (d + n) from) ≡ d + n = length-take-le (d + n) from few in
    let short : length (take d from) ≡ d = length-take-le d from (omega arith) in
    let t = block_span-more offset d n b start at within some side in
    let numbers : List ℕ = map (λ (x : ℕ × Block). x.0) writes in
    record {
      blocks = map-append (λ (x : ℕ × Block). x.0) writes ((b, block) ∷ [])
          ∙ ap (λ (x : List ℕ). x ++ b ∷ []) (w.blocks ∙ ap (λ (x : ℕ). count_from (offset / 512) (block_span offset x)) short)
          ∙ ap (λ (x : ℕ). count_from (offset / 512) (block_span offset d) ++ x ∷ []) (sym t.1)
          ∙ sym (count_from-more (offset / 512) (block_span offset d))
          ∙ ap (count_from (offset / 512)) (sym t.0)
          ∙ ap (λ (x : ℕ). count_from (offset / 512) (block_span offset x)) (sym long);
      bytes_are = λ k.
          let old : History = h ++ each_alone writes in
          let all : History = h ++ each_alone (writes ++ (b, block) ∷ []) in
          let joined : after_all all (k / 512) ≡ after_all (old ++ ((b, block) ∷ []) ∷ []) (k / 512) = ap (λ (x : History). after_all x (k / 512)) (each_alone-append h writes (b, block)) in
          let at_k : get_or (after_all all (k / 512)).bytes (k % 512) 0 ≡ get_or (after_all (old ++ ((b, block) ∷ []) ∷ []) (k / 512)).bytes (k % 512) 0 = ap (λ (x : Block). get_or x.bytes (k % 512) 0) joined in
          elim (cases_eq (k / 512) b) [
            | inl here ↦
                let new : after_all (old ++ ((b, block) ∷ []) ∷ []) (k / 512) ≡ block = ap (after_all (old ++ ((b, block) ∷ []) ∷ [])) here ∙ after_all-written old b block in
                let now : get_or (after_all all (k / 512)).bytes (k % 512) 0 ≡ get_or block.bytes (k % 512) 0 = at_k ∙ ap (λ (x : Block). get_or x.bytes (k % 512) 0) new in
                elim (cases_lt (k % 512) start) [
                  | inl low ↦ now ∙ outside (k % 512) (λ p q. absurd (omega arith)) ∙ ap (λ (x : ℕ). get_or (after_all old x).bytes (k % 512) 0) (sym here) ∙ w.bytes_are k ∙ after-other h offset d n from k few (λ p q. absurd (omega arith))
                  | inr high ↦ elim (cases_lt (k % 512) (start + n)) [
                    | inl in_it ↦
                        let e : start + (k % 512 - start) ≡ k % 512 = omega arith in
                        let f : d + (k % 512 - start) ≡ k - offset = omega arith in
                        now ∙ ap (λ (x : ℕ). get_or block.bytes x 0) (sym e) ∙ inside (k % 512 - start) (omega arith) ∙ ap (λ (x : ℕ). get_or from x 0) f ∙ sym (after-here h offset d n from k few (omega arith) (omega arith))
                    | inr over ↦ now ∙ outside (k % 512) (λ p q. absurd (omega arith)) ∙ ap (λ (x : ℕ). get_or (after_all old x).bytes (k % 512) 0) (sym here) ∙ w.bytes_are k ∙ after-other h offset d n from k few (λ p q. absurd (omega arith))
                  ]
                ]
            | inr away ↦ at_k ∙ ap (λ (x : Block). get_or x.bytes (k % 512) 0) (after_all-other old b (k / 512) block (λ e. away (sym e))) ∙ w.bytes_are k ∙ after-other h offset d n from k few (λ p q. away (omega arith))
          ];
    }

write_events-append : (a b : Entry) → write_events (a ++ b) ≡ write_events a ++ write_events b
write_events-append [] b = refl
write_events-append (w ∷ a) b = ap (λ (x : List Event). WriteEvent (single_pair w.0 w.1) ∷ x) (write_events-append a b)

wrote_more : (s t : Option History) (h : History) (offset d n : ℕ) (from : List ℕ) (b start : ℕ) (block : Block) (new more : Answers) → WritesBytes s offset (take d from) t new → t ≡ Some h
    → offset + d ≡ 512 * b + start → start + n ≤ 512 → 0 < n → d + n ≤ length from → (d ≡ 0) ⊎ (start ≡ 0)
    → ((k : ℕ) → k < n → get_or block.bytes (start + k) 0 ≡ get_or from (d + k) 0)
    → ((k : ℕ) → (start ≤ k → k < start + n → ⊥) → get_or block.bytes k 0 ≡ get_or (after_all h b).bytes k 0)
    → changes more ≡ WriteEvent (single_pair b block) ∷ []
    → WritesBytes s offset (take (d + n) from) (Some (h ++ ((b, block) ∷ []) ∷ [])) (new ++ more)
wrote_more None t h offset d n from b start block new more w is at within some few side inside outside events = absurd (cc (w.1, is))
wrote_more (Some h0) t h offset d n from b start block new more w is at within some few side inside outside events =
    let same : h ≡ h0 ++ each_alone w.0 = cc (w.2, is) in
    let out : (k : ℕ) → (start ≤ k → k < start + n → ⊥) → get_or block.bytes k 0 ≡ get_or (after_all (h0 ++ each_alone w.0) b).bytes k 0 = λ k o. outside k o ∙ ap (λ (x : History). get_or (after_all x b).bytes k 0) same in (
      w.0 ++ (b, block) ∷ [],
      AreBytesWritten-more h0 w.0 offset d n from b start block w.1 at within some few side inside out,
      ap (λ (x : History). Some (x ++ ((b, block) ∷ []) ∷ [])) same ∙ ap Some (sym (each_alone-append h0 w.0 (b, block))),
      changes-append new more ∙ ap (λ (x : List Event). x ++ changes more) w.3 ∙ ap (λ (x : List Event). write_events w.0 ++ x) events ∙ sym (write_events-append w.0 ((b, block) ∷ [])),
    )

pub written_none : {stands : History → Type 0} {now : Option Halt} {kept : Answers → Type 0} (s : Option History) {events : Answers} (offset : ℕ)
    → IsDeviceState stands now s → kept events → HasWritten stands now kept s events offset []
written_none {kept = kept} None {events = events} offset is k = record { t = None; now = is; new = []; wrote = (refl, refl, refl); quiet = λ e. refl; kept_is = subst kept (sym (append-nil events)) k }
written_none {kept = kept} (Some h) {events = events} offset is k = record { t = Some h; now = is; new = []; wrote = ([], AreBytesWritten-none h offset, ap Some (sym (append-nil h)), refl); quiet = λ e. refl; kept_is = subst kept (sym (append-nil events)) k }

pub written_more : {stands now_stands : History → Type 0} {halted now : Option Halt} {kept now_kept : Answers → Type 0} {s : Option History} {events : Answers} {offset : ℕ} (d : ℕ) (from : List ℕ)
    (b start n : ℕ) (piece : List ℕ) (r : HasWritten stands halted kept s events offset (take d from)) → offset + d ≡ 512 * b + start → start + n ≤ 512 → 0 < n → d + n ≤ length from → (d ≡ 0) ⊎ (start ≡ 0)
    → piece ≡ take n (drop d from) → HasPart now_stands now now_kept r.t (events ++ r.new) b start piece → HasWritten now_stands now now_kept s events offset (take (d + n) from)
written_more {now_kept = now_kept} {s = s} {events = events} {offset = offset} d from b start n piece r at within some few side is x =
    let many : length piece ≡ n = ap length is ∙ length-take-le n (drop d from) (omega (arith, length-drop d from)) in
    record {
      t = Some (x.h ++ ((b, x.block) ∷ []) ∷ []);
      now = x.now;
      new = r.new ++ x.new;
      wrote = wrote_more s r.t x.h offset d n from b start x.block r.new x.new r.wrote x.was at within some few side
          (λ k lt. x.inside k (omega (arith, many)) ∙ ap (λ (y : List ℕ). get_or y k 0) is ∙ get_or-take n (drop d from) k 0 lt ∙ get_or-drop d from k 0)
          (λ k out. x.outside k (λ p q. out p (omega (arith, many))))
          x.writes;
      quiet = λ e. absurd (omega (arith, e, length-take-le (d + n) from few));
      kept_is = subst now_kept (append_assoc events r.new x.new) x.kept_is;
    }

part_ends : (offset d count : ℕ) → d < count → (d ≡ 0) ⊎ ((offset + d) % 512 ≡ 0) → (d ≡ 0) ⊎ ((d < count) × ((offset + d) % 512 ≡ 0))
part_ends offset d count few (inl none) = inl none
part_ends offset d count few (inr end) = inr (few, end)

first_after : (s t : Option History) (offset d : ℕ) (from : List ℕ) (new done : Answers) → d < length from → (d ≡ 0) ⊎ ((offset + d) % 512 ≡ 0) → WritesBytes s offset (take d from) t new → changes done ≡ [] → (t ≡ None → done ≡ [])
    → WrittenFirst s offset from (new ++ done)
first_after None t offset d from new done few side w reads quiet = ap (λ (x : Answers). x ++ done) w.2 ∙ quiet w.1
first_after (Some h) t offset d from new done few side w reads quiet = (w.0, d, part_ends offset d (length from) few side, w.1, changes-append new done ∙ ap (λ (x : List Event). changes new ++ x) reads ∙ append-nil (changes new) ∙ w.3)

pub stops_after : {stands now_stands : History → Type 0} {halted now : Option Halt} {kept now_kept : Answers → Type 0} {s : Option History} {events : Answers} {offset : ℕ} (d : ℕ) (from : List ℕ)
    (r : HasWritten stands halted kept s events offset (take d from)) → d < length from → (d ≡ 0) ⊎ ((offset + d) % 512 ≡ 0) → HaltsHere now_stands now now_kept r.t (events ++ r.new) → Stops now_stands now now_kept s events offset from
stops_after {now_kept = now_kept} {s = s} {events = events} {offset = offset} d from r few side x = record {
  now = x.now;
  done = r.new ++ x.done;
  first = first_after s r.t offset d from r.new x.done few side r.wrote x.reads x.quiet;
  halting = record {
    event = x.halting.event;
    halt = x.halting.halt;
    kept_is = subst now_kept (append_assoc events r.new (x.done ++ (x.halting.event, HaltedAnswer x.halting.halt) ∷ []) ∙ ap (λ (y : Answers). events ++ y) (sym (append_assoc r.new x.done ((x.halting.event, HaltedAnswer x.halting.halt) ∷ [])))) x.halting.kept_is;
  };
}
