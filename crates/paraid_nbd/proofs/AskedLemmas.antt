-- What the calls of one part ask of a device, and the parts of a request together.
use Rattle.std.proofs.Common.{◌≡◌, ℕ, ◌+◌, ◌-◌, ◌/◌, ◌%◌, ◌<◌, ◌≤◌, ◌⊎◌, inl, inr, List, ◌++◌, length, take, drop, min, arith, refl, sym, ap, ◌∙◌, subst}
use Rattle.std.proofs.lemmas.Bool.{cases_lt}
use Rattle.std.proofs.lemmas.List.{append-nil, length-take-le, length-drop}
use Rattle.std.proofs.Math.Seq.{take-add}
use Rattle.paraid_base.specs.declared.block.Block.{Block}
use Rattle.paraid_base.specs.declared.event.Event.{Event}
use Rattle.paraid_base.specs.declared.event.Event.TheVariants.{Read as ReadEvent, Write as WriteEvent}
use Rattle.paraid_base.specs.BlockAnswers.{Answers}
use Rattle.paraid_base.specs.Pairs.{single_pair}
use Rattle.paraid_nbd.specs.Asked.{AreBytesRead, ArePartsWritten, HaltsAtOnce, IsNextPart, IsOneRead, IsOneWrite, IsPartHalted, IsPartWritten, IsReadHalted, IsReplaced, IsRestRead, IsWriteHalted}
use Rattle.paraid_nbd.specs.Asked.AreBytesRead.{One_read}
use Rattle.paraid_nbd.specs.Asked.ArePartsWritten.{One_written}
use Rattle.paraid_nbd.specs.Asked.IsPartHalted.{At_write}

-- after a part the next one begins a block, or there is none
pub at_start_next : (offset done size n : ℕ) → n ≡ min (size - done) (512 - (offset + done) % 512) → done < size → (done + n ≡ 0) ⊎ (((offset + (done + n)) % 512 ≡ 0) ⊎ (done + n ≡ size))
at_start_next offset done size n is lt = elim (cases_lt (size - done) (512 - (offset + done) % 512)) [
  | inl less ↦ inr (inr (omega arith))
  | inr more ↦ inr (inl (omega arith))
]

begins_part : (offset done size : ℕ) → done < size → (done ≡ 0) ⊎ (((offset + done) % 512 ≡ 0) ⊎ (done ≡ size)) → (done ≡ 0) ⊎ ((offset + done) % 512 ≡ 0)
begins_part offset done size lt (inl first) = inl first
begins_part offset done size lt (inr (inl whole)) = inr whole
begins_part offset done size lt (inr (inr last)) = absurd (omega arith)

pub next_part : (offset done size n : ℕ) → n ≡ min (size - done) (512 - (offset + done) % 512) → done < size → (done ≡ 0) ⊎ (((offset + done) % 512 ≡ 0) ⊎ (done ≡ size)) → IsNextPart offset done n
next_part offset done size n is lt side = record {
  some = omega arith;
  within = omega arith;
  begins = begins_part offset done size lt side;
}

-- a part of a read
pub asked_read : (offset d block start size : ℕ) (bytes : List ℕ) (value : Block) → length bytes ≡ d → block ≡ (offset + d) / 512 → start ≡ (offset + d) % 512 → IsNextPart offset d size
    → (a b : Answers) → AreBytesRead offset bytes a → IsOneRead block value b → AreBytesRead offset (bytes ++ take size (drop start value.bytes)) (a ++ b)
asked_read offset d block start size bytes value many block_is start_is part a b r one =
    let at : block ≡ (offset + length bytes) / 512 = block_is ∙ ap (λ (x : ℕ). (offset + x) / 512) (sym many) in
    let from : start ≡ (offset + length bytes) % 512 = start_is ∙ ap (λ (x : ℕ). (offset + x) % 512) (sym many) in
    subst (λ (x : ℕ). AreBytesRead offset (bytes ++ take size (drop x value.bytes)) (a ++ b)) (sym from)
    (One_read bytes a b size value r (subst (λ (x : ℕ). IsNextPart offset x size) (sym many) part) (subst (λ (x : ℕ). IsOneRead x value b) at one))

pub asked_read_halts : (offset d block size count : ℕ) (bytes : List ℕ) → length bytes ≡ d → block ≡ (offset + d) / 512 → d + size ≤ count → IsNextPart offset d size
    → (a b : Answers) (event : Event) → AreBytesRead offset bytes a → HaltsAtOnce (ReadEvent block) b event → IsReadHalted offset count (a ++ b) event
asked_read_halts offset d block size count bytes many block_is within part a b event r h =
    let at : block ≡ (offset + length bytes) / 512 = block_is ∙ ap (λ (x : ℕ). (offset + x) / 512) (sym many) in
    record {
      bytes = bytes;
      size = size;
      within = subst (λ (x : ℕ). x + size ≤ count) (sym many) within;
      part = subst (λ (x : ℕ). IsNextPart offset x size) (sym many) part;
      read = subst (AreBytesRead offset bytes) (sym (append-nil a) ∙ ap (λ (x : Answers). a ++ x) (sym h.0)) r;
      is = h.1 ∙ ap ReadEvent at;
    }

-- the calls of a part of a write
pub asked_part : (block start size : ℕ) (piece : List ℕ) (value bytes : Block) → length piece ≡ size → IsReplaced start piece value bytes
    → (a b : Answers) → IsRestRead size block value a → IsOneWrite block bytes b → IsPartWritten block start piece (a ++ b)
asked_part block start size piece value bytes many replaced a b rest one = record {
  value = value;
  bytes = bytes;
  reads = a;
  writes = b;
  read = subst (λ (x : ℕ). IsRestRead x block value a) (sym many) rest;
  replaced = replaced;
  written = one;
  is = refl;
}

pub asked_part_halts : (block start size : ℕ) (piece : List ℕ) (value bytes : Block) → length piece ≡ size → IsReplaced start piece value bytes
    → (a b : Answers) (event : Event) → IsRestRead size block value a → HaltsAtOnce (WriteEvent (single_pair block bytes)) b event → IsPartHalted block start piece (a ++ b) event
asked_part_halts block start size piece value bytes many replaced a b event rest h =
    let joined : a ++ b ≡ a = ap (λ (x : Answers). a ++ x) h.0 ∙ append-nil a in
    At_write value bytes (subst (λ (x : Answers). IsRestRead (length piece) block value x) (sym joined) (subst (λ (x : ℕ). IsRestRead x block value a) (sym many) rest)) replaced h.1

-- a part of a write
pub asked_write : (offset d block start size : ℕ) (from piece : List ℕ) → d + size ≤ length from → piece ≡ take size (drop d from) → block ≡ (offset + d) / 512 → start ≡ (offset + d) % 512 → IsNextPart offset d size
    → (a b : Answers) → ArePartsWritten offset (take d from) a → IsPartWritten block start piece b → ArePartsWritten offset (take (d + size) from) (a ++ b)
asked_write offset d block start size from piece within piece_is block_is start_is part a b w one =
    let many : length (take d from) ≡ d = length-take-le d from (omega arith) in
    let count : length piece ≡ size = ap length piece_is ∙ length-take-le size (drop d from) (omega (arith, length-drop d from)) in
    let at : block ≡ (offset + length (take d from)) / 512 = block_is ∙ ap (λ (x : ℕ). (offset + x) / 512) (sym many) in
    let start_at : start ≡ (offset + length (take d from)) % 512 = start_is ∙ ap (λ (x : ℕ). (offset + x) % 512) (sym many) in
    let all : take d from ++ piece ≡ take (d + size) from = ap (λ (x : List ℕ). take d from ++ x) piece_is ∙ sym (take-add d size from) in
    subst (λ (x : List ℕ). ArePartsWritten offset x (a ++ b)) all
    (One_written (take d from) piece a b w (subst (λ (x : ℕ). IsNextPart offset x (length piece)) (sym many) (subst (λ (x : ℕ). IsNextPart offset d x) (sym count) part))
    (subst (λ (x : ℕ). IsPartWritten x ((offset + length (take d from)) % 512) piece b) at (subst (λ (x : ℕ). IsPartWritten block x piece b) start_at one)))

pub asked_write_halts : (offset d block start size : ℕ) (from piece : List ℕ) → d + size ≤ length from → piece ≡ take size (drop d from) → block ≡ (offset + d) / 512 → start ≡ (offset + d) % 512 → IsNextPart offset d size
    → (a b : Answers) (event : Event) → ArePartsWritten offset (take d from) a → IsPartHalted block start piece b event → IsWriteHalted offset from (a ++ b) event
asked_write_halts offset d block start size from piece within piece_is block_is start_is part a b event w one = record {
  count = d;
  size = size;
  within = within;
  part = part;
  before = a;
  more = b;
  written = w;
  halted = subst (λ (x : List ℕ). IsPartHalted ((offset + d) / 512) ((offset + d) % 512) x b event) piece_is
      (subst (λ (x : ℕ). IsPartHalted x ((offset + d) % 512) piece b event) block_is (subst (λ (x : ℕ). IsPartHalted block x piece b event) start_is one));
  is = refl;
}
