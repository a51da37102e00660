-- From the causes of a line to those of all lines and of the whole text.
use Rattle.std.proofs.Common.{◌≡◌, ℕ, ◌-◌, ◌<◌, List, [], ◌∷◌, ◌++◌, length, take, codes, Option, Some, None, refl, sym, ap, ◌∙◌, inl, inr, arith, subst}
use Rattle.std.proofs.lemmas.List.{take_all}
use Rattle.paraid_base.specs.declared.event.Answer.{Answer}
use Rattle.paraid_base.specs.declared.event.Answer.TheVariants.{Flushed, Halted}
use Rattle.paraid_base.specs.declared.event.Event.{Event}
use Rattle.paraid_base.specs.declared.event.Event.TheVariants.{Replace}
use Rattle.paraid_base.specs.declared.fault.Halt.{Halt}
use Rattle.paraid_io.specs.Lines.{lines_of, whole_lines}
use Rattle.paraid_serve.specs.Causes.{HasCause, Shown}
use Rattle.paraid_serve.proofs.StatusLemmas.{cut_at}
use Rattle.paraid_serve.specs.Ending.{EndsWithLine, end_line, halt_line, status_of_halt}
use Rattle.paraid_serve.specs.Output.{first_line}
use Rattle.paraid_spare.specs.Pools.{left_of, spins_of}
use Rattle.paraid_spare.specs.declared.pool.Pool.{Pool}
use Rattle.paraid_sparing.specs.Serving.{Keeps}
use Rattle.paraid_sparing.specs.SparedCauses.{BeginsCauses, CausedText, CausesFlush, CausesLine, CausesLines, HasSparedCauses}
use Rattle.paraid_sparing.specs.SparedCauses.CausedText.{done as text_done, halted as text_halted, source as text_source, too_long as text_long}
use Rattle.paraid_sparing.specs.SparedCauses.HasLineCauses.{alone, spared}
use Rattle.paraid_sparing.specs.SparedCauses.HaveLineCauses.{more as one_more, none as no_line}
use Rattle.paraid_sparing.specs.SparedCauses.HasSparedCauses.{answers as caused_answers, at_first_line as caused_first, last_lines as caused_last, whole as caused_whole}
use Rattle.paraid_sparing.specs.Sparing.{Stock, due_when, spare_line, stock_line, stock_when, used}
use Rattle.paraid_sparing.specs.Texts.{spares_line}
use Rattle.paraid_sparing.proofs.TextLemmas.{line_alike}
use Rattle.paraid_trace.specs.LineEvents.{event_of}
use Rattle.paraid_trace.specs.Replies.{reply_of}

module _ (wait : ℕ) (x : Shown) (k : Stock) (event : Event) (line text : List ℕ) (answer : Answer) (y : Shown) (pool : Pool) (halt : Option Halt) (shows : y.halt ≡ halt) (told : text ≡ reply_of answer) where
  kept : (j : Stock) → Keeps pool wait (stock_when j answer halt y.meta.out) → Keeps pool wait (stock_when j answer y.halt y.meta.out)
  kept j keeps = subst (λ (h : Option Halt). Keeps pool wait (stock_when j answer h y.meta.out)) (sym shows) keeps

  pub causes_alone : (before : Option Halt) → x.halt ≡ before → line ≡ [] → due_when wait k before x.meta.out event ≡ None → HasCause x event answer y → Keeps pool wait (stock_when k answer halt y.meta.out)
      → CausesLine wait x k event (line ++ text) y pool
  causes_alone before was empty none cause keeps = rw (empty, told) (record {
    stock = stock_when k answer y.halt y.meta.out;
    line = alone answer y (ap (λ (h : Option Halt). due_when wait k h x.meta.out event) was ∙ none) cause;
    keeps = kept k keeps;
  })

  pub causes_spared : (before : Option Halt) (d left : ℕ) (spare : Answer) (mid : Shown) → x.halt ≡ before → left ≡ k.left → line ≡ spare_line spare (left - 1) → due_when wait k before x.meta.out event ≡ Some d
      → HasCause x (Replace d) spare mid → HasCause mid event answer y → Keeps pool wait (stock_when (used k) answer halt y.meta.out)
      → CausesLine wait x k event (line ++ text) y pool
  causes_spared before d left spare mid was same line_is due first second keeps = rw (line_is, told, same) (record {
    stock = stock_when (used k) answer y.halt y.meta.out;
    line = spared d spare answer mid y (ap (λ (h : Option Halt). due_when wait k h x.meta.out event) was ∙ due) first second;
    keeps = kept (used k) keeps;
  })

pub causes_none : (wait : ℕ) (x : Shown) (k : Stock) (pool : Pool) → Keeps pool wait k → CausesLines wait x k [] [] x pool
causes_none wait x k pool keeps = record { stock = k; all = no_line; keeps = keeps }

pub causes_push : (wait : ℕ) (x mid y : Shown) (k : Stock) (lines : List (List ℕ)) (text : List ℕ) (pool : Pool) (event : Event) (line told : List ℕ) (new_pool : Pool) → event ≡ event_of line → CausesLines wait x k lines text mid pool
    → ((w : ℕ) (j : Stock) → Keeps pool w j → CausesLine w mid j event told y new_pool) → CausesLines wait x k (lines ++ line ∷ []) (text ++ told) y new_pool
causes_push wait x mid y k lines text pool event line told new_pool is so_far goes =
    let l = subst (λ (e : Event). CausesLine wait mid so_far.stock e told y new_pool) is (goes wait so_far.stock so_far.keeps) in
    record { stock = l.stock; all = one_more lines text mid so_far.stock so_far.all line told y l.stock l.line; keeps = l.keeps }

-- a line whose text was written in part
pub causes_cut : (wait : ℕ) (x mid y : Shown) (k : Stock) (bytes : List ℕ) (lines more : List (List ℕ)) (text : List ℕ) (pool : Pool) (event : Event) (line told : List ℕ) (n : ℕ) (new_pool : Pool) → n < length told → lines_of bytes ≡ (lines ++ line ∷ []) ++ more → event ≡ event_of line
    → CausesLines wait x k lines text mid pool → ((w : ℕ) (j : Stock) → Keeps pool w j → CausesLine w mid j event told y new_pool) → (b : BeginsCauses wait x k bytes (text ++ take n told) y) × Keeps new_pool wait b.i
causes_cut wait x mid y k bytes lines more text pool event line told n new_pool short split is so_far goes =
    let l = subst (λ (e : Event). CausesLine wait mid so_far.stock e told y new_pool) is (goes wait so_far.stock so_far.keeps) in (
      record {
        before = lines;
        line = line;
        more = more;
        split = split;
        front = text;
        mid = mid;
        j = so_far.stock;
        all = so_far.all;
        told = told;
        i = l.stock;
        last = l.line;
        count = n;
        short = short;
        cut = refl;
      },
      l.keeps,
    )

-- the line of a pool is that of the stock that it keeps
pool_line : (pool : Pool) (wait : ℕ) (j : Stock) (x : Shown) (disks : ℕ) → Keeps pool wait j → disks ≡ x.setup.geometry.disks → spares_line (left_of pool) (spins_of pool) disks ≡ stock_line j x.setup
pool_line pool wait j x disks keeps same = line_alike (left_of pool) j.left (spins_of pool) j.spins disks x.setup.geometry.disks keeps.left same (let high = x.setup.geometry.disks_high in omega (arith, same, high)) keeps.spins

module _ (wait : ℕ) (x : Shown) (k : Stock) (y : Shown) (bytes : List ℕ) (pool : Pool) (disks : ℕ) (same : disks ≡ x.setup.geometry.disks) (head : List ℕ) (head_is : head ≡ first_line x) where
  pub done_caused : (writes : ℕ) (text : List ℕ) → CausesFlush wait x k (lines_of bytes) text (Flushed writes) y pool → CausedText wait x k y bytes 0 (head ++ text) (spares_line (left_of pool) (spins_of pool) disks ++ end_line writes)
  done_caused writes text f = rw head_is (subst (λ (l : List ℕ). CausedText wait x k y bytes 0 (first_line x ++ text) (l ++ end_line writes)) (sym (pool_line pool wait f.before.stock x disks f.before.keeps same))
      (text_done writes text f.mid f.before.stock f.before.all f.cause))

  pub halted_caused : (halt : Halt) (text : List ℕ) → CausesFlush wait x k (lines_of bytes) text (Halted halt) y pool
      → CausedText wait x k y bytes (status_of_halt halt) (head ++ text) (spares_line (left_of pool) (spins_of pool) disks ++ halt_line halt)
  halted_caused halt text f = rw head_is (subst (λ (l : List ℕ). CausedText wait x k y bytes (status_of_halt halt) (first_line x ++ text) (l ++ halt_line halt)) (sym (pool_line pool wait f.before.stock x disks f.before.keeps same))
      (text_halted halt text f.mid f.before.stock f.before.all f.cause))

module _ (wait : ℕ) (x : Shown) (k : Stock) (y : Shown) (bytes : List ℕ) (pool : Pool) (head : List ℕ) (head_is : head ≡ first_line x) where
  pub source_caused : (text : List ℕ) → CausesLines wait x k (whole_lines bytes) text y pool → CausedText wait x k y bytes 3 (head ++ text) (codes "source\n")
  source_caused text l = rw head_is (text_source text l.stock l.all)

  pub too_long_caused : (text : List ℕ) → CausesLines wait x k (whole_lines bytes) text y pool → CausedText wait x k y bytes 10 (head ++ text) (codes "toolong\n")
  too_long_caused text l = rw head_is (text_long text l.stock l.all)

  pub sink_caused : (text : List ℕ) → BeginsCauses wait x k bytes text y → HasSparedCauses wait x k y bytes 4 (head ++ text)
  sink_caused text b = caused_answers refl text b (ap (λ (l : List ℕ). l ++ text) head_is)

-- what was written of a text that ends with this line
pub last_caused : (wait : ℕ) (x : Shown) (k : Stock) (y : Shown) (bytes text line : List ℕ) (before after : Option (List ℕ)) (code status : ℕ) → CausedText wait x k y bytes code text line → (e : EndsWithLine before after line code status)
    → HasSparedCauses wait x k y bytes status (text ++ take e.count line)
last_caused wait x k y bytes text line before after code status out e = elim e.within [
  | inl short ↦ caused_last (cut_at before after line code status e short) code text line e.count out (short, refl)
  | inr all ↦ caused_whole text line (subst (λ (n : ℕ). CausedText wait x k y bytes n text line) (sym all.1) out)
      (ap (λ (l : List ℕ). text ++ l) (taken e.count line all.0))
]
  where
    taken : (n : ℕ) (line : List ℕ) → n ≡ length line → take n line ≡ line
    taken n line is = take_all n line (omega (arith, is))

-- the sink failed at the first line
pub first_caused : (wait : ℕ) (x : Shown) (k : Stock) (head : List ℕ) (n : ℕ) → n < length head → head ≡ first_line x → HasSparedCauses wait x k x [] 4 (take n head)
first_caused wait x k head n short is = caused_first refl refl refl n (subst (λ (l : List ℕ). n < length l) is short, ap (take n) is)
