-- The cells of a table in the bits of its words
use Rattle.std.specs.Prelude.{◌≡◌, ◌≢◌, ◌⊎◌, ℕ, ◌+◌, ◌*◌, ◌/◌, ◌%◌, ◌^◌, ◌<◌, ◌≤◌, ◌==◌, ◌&&◌, nat_le, nat_lt, Bool, true, false, List, [], length, get_or, replicate, if◌then◌else◌}
use Rattle.std.proofs.Common.{arith, ap, inl, inr, sym, ◌∙◌, bit_and, refl, zero, suc, zero-add}
use Rattle.std.specs.Int.{bit_at, byte_at, bytes_low_first, to_le_bytes, w64}
use Rattle.std.proofs.lemmas.Bool.{cases_lt, cases_eq}
use Rattle.std.proofs.lemmas.Bool.Decides.{nat_tests}
use Rattle.std.proofs.lemmas.List.{get_or_past, get_or-replicate, length-replicate}
use Rattle.std.proofs.lemmas.List.FromFn.{get_or-map-range_with_len, length-map-range_with_len}
use Rattle.std.proofs.lemmas.Nat.{and_le_r, and_mask, pow-add, shr-shr}
use Rattle.std.proofs.Math.Nat.{pow-suc}
use Rattle.std.proofs.lemmas.Nat.Bits.{bit_at_and, bit_at-lt, bit_at_above, bit_at_ones}
use Rattle.paraid_dirty.specs.Bits.{bit_of, bit_in, on_disks, AreClear, IsFirstBit}
use Rattle.paraid_dirty.specs.Table.{table_with_bit, is_dirty, row_bits, rows_of, IsCleanFrom, IsFirstFrom, IsFrom, IsDirtyTable}
use Rattle.paraid_dirty.proofs.BitsLemmas.{bit_false, bit_in-past, bit_of-zero, chosen_here, chosen_other}

pub is_dirty-bit : (words marks : List ℕ) (rows r d : ℕ) → IsDirtyTable words marks rows → d < 8 → is_dirty (rows_of words rows) r d ≡ bit_in words (8 * r + d)
unfolding is_dirty row_bits
is_dirty-bit words marks rows r d table low = elim (cases_lt r rows) [
  | inl row ↦
      ap (λ (bits : List Bool). get_or bits d false) (get_or-map-range_with_len (row_bits words) 0 rows r r [] row (zero-add r))
      ∙ get_or-map-range_with_len (λ e. bit_in words (8 * r + e)) 0 8 d d false low (zero-add d)
  | inr past ↦
      ap (λ (bits : List Bool). get_or bits d false) (get_or_past (rows_of words rows) r [] (rw (length-map-range_with_len (row_bits words) 0 rows) past))
      ∙ sym (table.unused (8 * r + d) (omega arith))
]

pub is_dirty-past_disk : (words : List ℕ) (rows r d : ℕ) → 8 ≤ d → is_dirty (rows_of words rows) r d ≡ false
unfolding is_dirty row_bits
is_dirty-past_disk words rows r d past = elim (cases_lt r rows) [
  | inl row ↦
      ap (λ (bits : List Bool). get_or bits d false) (get_or-map-range_with_len (row_bits words) 0 rows r r [] row (zero-add r))
      ∙ get_or_past (row_bits words r) d false (rw (length-map-range_with_len (λ e. bit_in words (8 * r + e)) 0 8) past)
  | inr out ↦ ap (λ (bits : List Bool). get_or bits d false) (get_or_past (rows_of words rows) r [] (rw (length-map-range_with_len (row_bits words) 0 rows) out))
]

changed_here : (dirty : ℕ → ℕ → Bool) (r d : ℕ) (bit : Bool) (q e : ℕ) → q ≡ r → e ≡ d → table_with_bit dirty r d bit q e ≡ bit
changed_here dirty r d bit q e row disk = grind (arith, nat_tests)

changed_other : (dirty : ℕ → ℕ → Bool) (r d : ℕ) (bit : Bool) (q e : ℕ) → (q ≡ r → e ≢ d) → table_with_bit dirty r d bit q e ≡ dirty q e
changed_other dirty r d bit q e other = grind (arith, nat_tests)

-- words that differ in one bit are tables that differ in one cell
pub cell_changed : (words after marks marks_after : List ℕ) (rows r d : ℕ) (bit : Bool) → IsDirtyTable words marks rows → IsDirtyTable after marks_after rows → d < 8
    → ((k : ℕ) → bit_in after k ≡ (if k == 8 * r + d then bit else bit_in words k))
    → (q e : ℕ) → is_dirty (rows_of after rows) q e ≡ table_with_bit (is_dirty (rows_of words rows)) r d bit q e
cell_changed words after marks marks_after rows r d bit table table_after low change q e = elim (cases_lt e 8) [
  | inr past ↦
      is_dirty-past_disk after rows q e past
      ∙ sym (changed_other (is_dirty (rows_of words rows)) r d bit q e (λ _ same. omega arith) ∙ is_dirty-past_disk words rows q e past)
  | inl disk ↦
      let now = is_dirty-bit after marks_after rows q e table_after disk ∙ change (8 * q + e) in
      elim (cases_eq (8 * q + e) (8 * r + d)) [
        | inl same ↦
            now ∙ chosen_here (8 * q + e) (8 * r + d) bit (bit_in words (8 * q + e)) same
            ∙ sym (changed_here (is_dirty (rows_of words rows)) r d bit q e (omega arith) (omega arith))
        | inr other ↦
            now ∙ chosen_other (8 * q + e) (8 * r + d) bit (bit_in words (8 * q + e)) other
            ∙ sym (is_dirty-bit words marks rows q e table disk)
            ∙ sym (changed_other (is_dirty (rows_of words rows)) r d bit q e (λ row disk_same. other (omega arith)))
      ]
]

pub word_of_cell : (r d : ℕ) → d < 8 → (8 * r + d) / 64 ≡ r / 8
word_of_cell r d low = omega arith

pub bit_of_cell : (r d : ℕ) → d < 8 → (8 * r + d) % 64 ≡ 8 * (r % 8) + d
bit_of_cell r d low = omega arith

-- a cell has a bit in the words, and its word one in the marks
pub cell_room : (words marks : List ℕ) (rows r d : ℕ) → IsDirtyTable words marks rows → r < rows → d < 8 → ((8 * r + d) / 64 < length words) × (r / 8 / 64 < length marks)
cell_room words marks rows r d table row low =
    let room = table.room in
    let marks_room = table.marks_room in
    (omega arith, omega arith)

pub set_table : (words after marks marks_after : List ℕ) (rows r d : ℕ) → IsDirtyTable words marks rows → r < rows → d < 8
    → length after ≡ length words → ((k : ℕ) → bit_in after k ≡ (if k == 8 * r + d then true else bit_in words k))
    → ((w : ℕ) → w ≢ (8 * r + d) / 64 → get_or after w 0 ≡ get_or words w 0)
    → length marks_after ≡ length marks → ((k : ℕ) → bit_in marks_after k ≡ (if k == r / 8 then true else bit_in marks k))
    → IsDirtyTable after marks_after rows
set_table words after marks marks_after rows r d table row low size bits others marks_size mark =
    let small = table.small in
    let room = table.room in
    let marks_small = table.marks_small in
    let marks_room = table.marks_room in
    record {
      few = table.few;
      small = omega arith;
      room = omega arith;
      marks_small = omega arith;
      marks_room = omega arith;
      unused = λ p past. bits p ∙ chosen_other p (8 * r + d) true (bit_in words p) (λ same. absurd (omega arith)) ∙ table.unused p past;
      marked = λ w none. elim (cases_eq w (r / 8)) [
        | inl same ↦ absurd (let yes_it = mark w ∙ chosen_here w (r / 8) true (bit_in marks w) same in cc)
        | inr other ↦
            let was : bit_in marks w ≡ false = sym (mark w ∙ chosen_other w (r / 8) true (bit_in marks w) other) ∙ none in
            others w (λ same. other (same ∙ word_of_cell r d low)) ∙ table.marked w was
      ];
    }

pub clear_table : (words after marks marks_after : List ℕ) (rows r d word : ℕ) → IsDirtyTable words marks rows → r < rows → d < 8
    → length after ≡ length words → ((k : ℕ) → bit_in after k ≡ (if k == 8 * r + d then false else bit_in words k))
    → ((w : ℕ) → get_or after w 0 ≤ get_or words w 0) → word ≡ get_or after (r / 8) 0
    → length marks_after ≡ length marks → ((w : ℕ) → bit_in marks_after w ≡ false → (bit_in marks w ≡ false) ⊎ ((w ≡ r / 8) × (word ≡ 0)))
    → IsDirtyTable after marks_after rows
clear_table words after marks marks_after rows r d word table row low size bits lower is_word marks_size mark =
    let small = table.small in
    let room = table.room in
    let marks_small = table.marks_small in
    let marks_room = table.marks_room in
    record {
      few = table.few;
      small = omega arith;
      room = omega arith;
      marks_small = omega arith;
      marks_room = omega arith;
      unused = λ p past. bits p ∙ chosen_other p (8 * r + d) false (bit_in words p) (λ same. absurd (omega arith)) ∙ table.unused p past;
      marked = λ w none. elim (mark w none) [
        | inl was ↦ (let before = table.marked w was in let under = lower w in omega arith)
        | inr is ↦ ap (λ (n : ℕ). get_or after n 0) is.0 ∙ sym is_word ∙ is.1
      ];
    }

pub zeros_read : (n i : ℕ) → ◌≡◌ {A = ℕ} (get_or (replicate n 0) i 0) 0
zeros_read n i = elim (cases_lt i n) [
  | inl inside ↦ get_or-replicate n i 0 0 inside
  | inr past ↦ get_or_past (replicate n 0) i 0 (rw (length-replicate {A = ℕ} n 0) past)
]

pub zeros_clear : (n p : ℕ) → bit_in (replicate n 0) p ≡ false
unfolding bit_in
zeros_clear n p = ap (λ (w : ℕ). bit_of w (p % 64)) (zeros_read n (p / 64)) ∙ bit_of-zero (p % 64)

pub new_table : (words marks : List ℕ) (count sets rows : ℕ) → words ≡ replicate count 0 → marks ≡ replicate sets 0 → rows ≤ 65536
    → count ≤ 8192 → rows ≤ 8 * count → sets ≤ 128 → count ≤ 64 * sets → IsDirtyTable words marks rows
new_table words marks count sets rows is_words is_marks few small room sets_small sets_room =
    let size : length words ≡ count = ap length is_words ∙ length-replicate {A = ℕ} count 0 in
    let marks_size : length marks ≡ sets = ap length is_marks ∙ length-replicate {A = ℕ} sets 0 in
    record {
      few = few;
      small = omega arith;
      room = omega arith;
      marks_small = omega arith;
      marks_room = omega arith;
      unused = λ p past. ap (λ (ws : List ℕ). bit_in ws p) is_words ∙ zeros_clear count p;
      marked = λ w none. ap (λ (ws : List ℕ). get_or ws w 0) is_words ∙ zeros_read count w;
    }

pub new_clean : (words marks : List ℕ) (count rows : ℕ) → words ≡ replicate count 0 → IsDirtyTable words marks rows → (r d : ℕ) → is_dirty (rows_of words rows) r d ≡ false
new_clean words marks count rows is table r d = elim (cases_lt d 8) [
  | inl low ↦ is_dirty-bit words marks rows r d table low ∙ ap (λ (ws : List ℕ). bit_in ws (8 * r + d)) is ∙ zeros_clear count (8 * r + d)
  | inr past ↦ is_dirty-past_disk words rows r d past
]

-- the bits of a row in its word
pub row_of_word : (words marks : List ℕ) (rows r d : ℕ) → IsDirtyTable words marks rows
    → bit_of (bit_and (get_or words (r / 8) 0 / 2 ^ (8 * (r % 8))) 255) d ≡ is_dirty (rows_of words rows) r d
unfolding bit_in
row_of_word words marks rows r d table =
    let word = get_or words (r / 8) 0 in
    let low_eight = and_le_r (word / 2 ^ (8 * (r % 8))) 255 in
    elim (cases_lt d 8) [
      | inr past ↦ bit_false _ d (bit_at_above _ 8 d (omega arith) past) ∙ sym (is_dirty-past_disk words rows r d past)
      | inl low ↦
          let both = bit_at_and (word / 2 ^ (8 * (r % 8))) 255 d in
          let ones = bit_at_ones 8 d low in
          let small = bit_at-lt (word / 2 ^ (8 * (r % 8))) d in
          let same : bit_at (bit_and (word / 2 ^ (8 * (r % 8))) 255) d ≡ bit_at (word / 2 ^ (8 * (r % 8))) d = omega arith in
          let moved : bit_at (word / 2 ^ (8 * (r % 8))) d ≡ bit_at word (8 * (r % 8) + d) = ap (λ (x : ℕ). x % 2) (shr-shr word (8 * (r % 8)) d) in
          ap (λ (b : ℕ). b == 1) (same ∙ moved)
          ∙ ap (λ (n : ℕ). bit_of word n) (sym (bit_of_cell r d low))
          ∙ ap (λ (n : ℕ). bit_of (get_or words n 0) ((8 * r + d) % 64)) (sym (word_of_cell r d low))
          ∙ sym (is_dirty-bit words marks rows r d table low)
    ]

-- byte `k` of a word
byte_read : (n i count k : ℕ) → k < count → get_or (bytes_low_first i count n) k 0 ≡ byte_at (i + k) n
byte_read n i zero k lt = absurd (omega arith)
byte_read n i (suc count) zero lt = ap (λ j. byte_at j n) (omega arith)
byte_read n i (suc count) (suc k) lt = byte_read n (suc i) count k (omega arith) ∙ ap (λ j. byte_at j n) (omega arith)

powers : (m : ℕ) → 256 ^ m ≡ 2 ^ (8 * m)
powers zero = refl
powers (suc m) = pow-suc 256 m ∙ ap (λ x. x * 256) (powers m) ∙ sym (pow-add 2 (8 * m) 8) ∙ ap (λ e. 2 ^ e) (omega arith)

byte_shifted : (n k : ℕ) → byte_at k n ≡ bit_and (n / 2 ^ (8 * k)) 255
byte_shifted n zero = ap (λ x. x % 256) (omega arith) ∙ sym (and_mask (n / 2 ^ (8 * 0)) 8)
byte_shifted n (suc k) = ap (λ p. n / p % 256) (powers (suc k)) ∙ sym (and_mask (n / 2 ^ (8 * suc k)) 8)

-- the bits of a row in its byte of a word
pub row_of_byte : (words marks : List ℕ) (rows at k d : ℕ) → IsDirtyTable words marks rows → k < 8
    → bit_of (get_or (to_le_bytes w64 (get_or words at 0)) k 0) d ≡ is_dirty (rows_of words rows) (8 * at + k) d
row_of_byte words marks rows at k d table lt =
    let word = get_or words at 0 in
    let place : (8 * at + k) / 8 ≡ at = omega arith in
    let turn : (8 * at + k) % 8 ≡ k = omega arith in
    ap (λ (x : ℕ). bit_of x d) (byte_read word 0 8 k lt ∙ ap (λ j. byte_at j word) (zero-add k) ∙ byte_shifted word k)
    ∙ (rw (place, turn) at (row_of_word words marks rows (8 * at + k) d table))

pub row_past : (words marks : List ℕ) (rows r d : ℕ) → IsDirtyTable words marks rows → length words ≤ r / 8 → bit_of 0 d ≡ is_dirty (rows_of words rows) r d
row_past words marks rows r d table past = bit_of-zero d ∙ sym (elim (cases_lt d 8) [
  | inl low ↦ is_dirty-bit words marks rows r d table low ∙ bit_in-past words (8 * r + d) (omega arith)
  | inr above ↦ is_dirty-past_disk words rows r d above
])

on_inside : (lo hi n : ℕ) (b : Bool) → lo ≤ n → n < hi → ((nat_le lo n && nat_lt n hi) && b) ≡ b
on_inside lo hi n b low high = grind (arith, nat_tests)

on_parts : (lo hi n : ℕ) (b : Bool) → ((nat_le lo n && nat_lt n hi) && b) ≡ true → (lo ≤ n) × (n < hi) × (b ≡ true)
on_parts lo hi n b is = grind (arith, nat_tests)

module _ (words marks : List ℕ) (rows r d lo hi : ℕ) (table : IsDirtyTable words marks rows) (few : d ≤ 8) (high : hi ≤ 8) where
  -- a cell from the given one on whose bit is known to be clear
  cell_clear : (q e : ℕ) → lo ≤ e → e < hi → on_disks lo hi (bit_in words) (8 * q + e) ≡ false → is_dirty (rows_of words rows) q e ≡ false
  cell_clear q e low under clear =
      let disk : (8 * q + e) % 8 ≡ e = omega arith in
      is_dirty-bit words marks rows q e table (omega arith)
      ∙ sym (on_inside lo hi ((8 * q + e) % 8) (bit_in words (8 * q + e)) (omega arith) (omega arith))
      ∙ clear

  start_before : (q e : ℕ) → IsFrom r d q e → 8 * r + d ≤ 8 * q + e
  start_before q e from = elim from [
    | inl below ↦ omega arith
    | inr same ↦ (let row = same.0 in let disk = same.1 in omega arith)
  ]

  pub cells_clean : AreClear (on_disks lo hi (bit_in words)) (8 * r + d) (64 * length words) → IsCleanFrom (is_dirty (rows_of words rows)) r d lo hi
  cells_clean none = record {
    clean = λ q e from low under. elim (cases_lt (8 * q + e) (64 * length words)) [
      | inl inside ↦ cell_clear q e low under (none.clear (8 * q + e) (start_before q e from) inside)
      | inr past ↦ is_dirty-bit words marks rows q e table (omega arith) ∙ bit_in-past words (8 * q + e) past
    ];
  }

  pub cell_first : (p : ℕ) → IsFirstBit (on_disks lo hi (bit_in words)) (8 * r + d) p → IsFirstFrom (is_dirty (rows_of words rows)) r d lo hi (p / 8) (p % 8) × (p / 8 < rows)
  cell_first p first =
      let on = on_parts lo hi (p % 8) (bit_in words p) first.is in
      let place : p ≡ 8 * (p / 8) + p % 8 = omega arith in
      let start = first.from_on in (
        record {
          low = on.0;
          high = on.1;
          from = elim (cases_lt r (p / 8)) [
            | inl below ↦ inl below
            | inr at ↦ inr (omega arith, omega arith)
          ];
          is = is_dirty-bit words marks rows (p / 8) (p % 8) table (omega arith) ∙ ap (bit_in words) (sym place) ∙ on.2;
          rows_before = λ q e from before low under. cell_clear q e low under (first.before (8 * q + e) (start_before q e from) (omega arith));
          disks_before = λ e from low before. cell_clear (p / 8) e low (omega (arith, on.1)) (first.before (8 * (p / 8) + e) (start_before (p / 8) e from) (omega arith));
        },
        elim (cases_lt (p / 8) rows) [
          | inl inside ↦ inside
          | inr past ↦ absurd (let none = table.unused p (omega arith) in let some = on.2 in cc)
        ],
      )

pub rows_length : (words : List ℕ) (rows : ℕ) → length (rows_of words rows) ≡ rows
rows_length words rows = length-map-range_with_len (row_bits words) 0 rows
