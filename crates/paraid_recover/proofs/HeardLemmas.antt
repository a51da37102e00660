-- What a log disk says, by the blocks that were read of it.
use Rattle.std.specs.Prelude.{◌≡◌, ◌≢◌, ℕ, Bool, true, false, List, []}
use Rattle.std.proofs.Common.{refl, sym, ◌∙◌, ap, subst}
use Rattle.std.proofs.lemmas.Bool.{false≢true}
use Rattle.paraid_base.specs.declared.block.Block.{Block}
use Rattle.paraid_base.specs.declared.geometry.Geometry.{Geometry}
use Rattle.paraid_base.specs.Xor.{zero_block}
use Rattle.paraid_rack.specs.Disks.{Disks, IsPresent}
use Rattle.paraid_record.specs.declared.meta.Meta.{Meta}
use Rattle.paraid_record.specs.declared.targets.Target.{Target}
use Rattle.paraid_record.specs.Meta.{meta_bytes}
use Rattle.paraid_record.specs.Range.{IsInRange}
use Rattle.paraid_record.specs.Targets.{AreTargets, targets_bytes}
use Rattle.paraid_record.proofs.OneSpelling.{meta_bytes-cancel}
use Rattle.paraid_image.specs.Sides.{AreBlocksLogged, Batch, IsBad, LogState, Says, SaysBy, Spells, is_open, stored_block, targets}

-- no meta in range is spelled
abbrev pub IsNoMeta : Block → Type 0
IsNoMeta b = (m : Meta) → IsInRange m → b.bytes ≢ meta_bytes m

abbrev pub IsNoList : Geometry → Block → Type 0
IsNoList g b = (ts : List Target) → AreTargets g ts → b.bytes ≢ targets_bytes ts

module _ (i : Disks) (d : ℕ) (here : IsPresent i d) where
  spelled : (b : Block) (p : ℕ) (m : Meta) → b ≡ stored_block i d p → IsInRange m × (b.bytes ≡ meta_bytes m) → Spells (stored_block i d p) m
  spelled b p m is s = record { in_range = s.0; bytes = sym (ap (λ (c : Block). c.bytes) is) ∙ s.1 }

  -- what is said by a gate that is closed, or open
  said_closed : (said : LogState) → Says i d said → is_open (stored_block i d 0) ≡ false → SaysBy false (stored_block i d) said.meta said.batch
  said_closed said s shut = subst (λ (o : Bool). SaysBy o (stored_block i d) said.meta said.batch) (sym s.gate ∙ shut) s.log

  said_open : (said : LogState) → Says i d said → is_open (stored_block i d 0) ≡ true → SaysBy true (stored_block i d) said.meta said.batch
  said_open said s opened = subst (λ (o : Bool). SaysBy o (stored_block i d) said.meta said.batch) (sym s.gate ∙ opened) s.log

  pub closed_formed : (b : Block) (m : Meta) → is_open (stored_block i d 0) ≡ false → b ≡ stored_block i d 1 → IsInRange m × (b.bytes ≡ meta_bytes m)
      → Says i d (record { opened = false; meta = m; batch = [] })
  closed_formed b m shut is s = record { present = here; gate = shut; log = record { meta = spelled b 1 m is s; empty = refl } }

  pub closed_bad : (b : Block) → is_open (stored_block i d 0) ≡ false → b ≡ stored_block i d 1 → IsNoMeta b → b ≢ zero_block → IsBad i d × (is_open (stored_block i d 0) ≡ false)
  closed_bad b shut is none written = (
    record {
      present = here;
      silent = λ said s. let m = (said_closed said s shut).meta in none said.meta m.in_range (ap (λ (c : Block). c.bytes) is ∙ m.bytes);
      written = λ z zero. written (is ∙ zero);
    },
    shut,
  )

  pub open_bad_meta : (b : Block) → is_open (stored_block i d 0) ≡ true → b ≡ stored_block i d 2 → IsNoMeta b → IsBad i d × (is_open (stored_block i d 0) ≡ true)
  open_bad_meta b opened is none = (
    record {
      present = here;
      silent = λ said s. let m = (said_open said s opened).meta in none said.meta m.in_range (ap (λ (c : Block). c.bytes) is ∙ m.bytes);
      written = λ z. absurd (false≢true (sym z ∙ opened));
    },
    opened,
  )

  pub open_bad_list : (b l : Block) (m : Meta) → is_open (stored_block i d 0) ≡ true → b ≡ stored_block i d 2 → IsInRange m × (b.bytes ≡ meta_bytes m) → l ≡ stored_block i d 3
      → IsNoList m.setup.geometry l → IsBad i d × (is_open (stored_block i d 0) ≡ true)
  open_bad_list b l m opened is s is_list none = (
    record {
      present = here;
      silent = λ said says.
          let o = said_open said says opened in
          let mine = spelled b 2 m is s in
          let same : said.meta ≡ m = meta_bytes-cancel said.meta m o.meta.in_range mine.in_range (sym o.meta.bytes ∙ mine.bytes) in
          none (targets said.batch) (subst (λ (n : Meta). AreTargets n.setup.geometry (targets said.batch)) same o.in_range)
          (ap (λ (c : Block). c.bytes) is_list ∙ o.list);
      written = λ z. absurd (false≢true (sym z ∙ opened));
    },
    opened,
  )

  pub open_formed : (b l : Block) (m : Meta) (ts : List Target) (batch : Batch) → is_open (stored_block i d 0) ≡ true → b ≡ stored_block i d 2 → IsInRange m × (b.bytes ≡ meta_bytes m)
      → l ≡ stored_block i d 3 → AreTargets m.setup.geometry ts × (l.bytes ≡ targets_bytes ts) → targets batch ≡ ts → AreBlocksLogged (stored_block i d) 4 batch
      → Says i d (record { opened = true; meta = m; batch = batch })
  open_formed b l m ts batch opened is s is_list list named logged = record {
    present = here;
    gate = opened;
    log = record {
      meta = spelled b 2 m is s;
      in_range = subst (AreTargets m.setup.geometry) (sym named) list.0;
      list = sym (ap (λ (c : Block). c.bytes) is_list) ∙ list.1 ∙ ap targets_bytes (sym named);
      blocks = logged;
    };
  }
