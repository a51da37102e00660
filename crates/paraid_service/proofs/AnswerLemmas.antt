-- The answer to a line about volumes, by their table and by the events that their device kept for it.
use Rattle.std.proofs.Common.{arith, ◌≡◌, ℕ, ◌<◌, [], ◌∷◌, ◌++◌, List, ◌∙◌, refl, sym, subst, true}
use Rattle.std.specs.Prelude.{Option, Some, None, Result, Ok, Err, OnOk, OnErr, IfOk, IfErr, slice_index_or, codes}
use Rattle.std.proofs.lemmas.List.{append-nil}
use Rattle.paraid_base.specs.declared.block.Block.{Block}
use Rattle.paraid_base.specs.declared.event.Answer.TheVariants.{Value, Wrote, Flushed}
use Rattle.paraid_base.specs.declared.event.Event.TheVariants.{Read, Write, Flush}
use Rattle.paraid_base.specs.declared.fault.Halt.{Halt}
use Rattle.paraid_base.specs.BlockAnswers.{Answers}
use Rattle.paraid_base.specs.Pairs.{single_pair}
use Rattle.paraid_blocks.specs.declared.blocks.Blocks.{Ghosts}
use Rattle.paraid_volume.specs.declared.fault.VolFault.{VolFault}
use Rattle.paraid_volume.specs.declared.fault.VolFault.TheVariants.{Halt as VolHalt, Small, NotVolumes, Already, NoVolume, NoBlock, Exists, NoExtents, Names, Space}
use Rattle.paraid_volume.specs.declared.name.Name.{Name}
use Rattle.paraid_volume.specs.declared.volumes.Volumes.{Volumes}
use Rattle.paraid_volume.specs.Laid.{AreChanges, IsWith, IsWithout}
use Rattle.paraid_volume.specs.TableCalls.{AreOfCreate, IsTableWrite, KeepsThen}
use Rattle.paraid_volume.specs.Faults.{CanCreate, IsCreateFault, IsHalt, IsLeastFree, IsPlaceFault}
use Rattle.paraid_volume.specs.NameValues.{IsNameOf, letter_of}
use Rattle.paraid_volume.specs.Tables.{IsLiveId, extent_count, extent_size}
use Rattle.paraid_volume.specs.Values.{KeepsRead, KeepsWrite, device_of, halted_of, volume_table}
use Rattle.paraid_volume_lines.specs.Grammar.{VolLine, create, delete, flush, read, write}
use Rattle.paraid_volume_lines.specs.Texts.{created_text, deleted_text, flushed_text, read_text, written_text}
use Rattle.paraid_service.specs.LineSteps.{RepliesHeld}
use Rattle.paraid_service.specs.VolumeForms.{AreTabled, IsIdOf, IsLineRefused, IsNoName, IsReplyToLine}
use Rattle.paraid_service.specs.VolumeForms.IsLineRefused.{all_named, exists, no_extents, no_space, no_volume, past_read, past_write}
use Rattle.paraid_service.specs.VolumeForms.IsReplyToLine.{created, deleted, flushed, refused, told, wrote}
use Rattle.paraid_service.specs.VolumeLines.{named_in}
use Rattle.paraid_service.proofs.LineLemmas.{no_halt}

-- ---- a name in memory, and its word

module _ (table : ℕ → Block) (name : Name) (word : List ℕ) (spells : (k : ℕ) → k < 16 → slice_index_or word k 0 ≡ letter_of name k) where
  pub is_id : (id : ℕ) → IsLiveId table id → IsNameOf table id name → IsIdOf table word id
  is_id id live is = record { live = live; spells = λ k l. spells k l ∙ is k l }

  pub no_id : ((id : ℕ) → IsLiveId table id → IsNameOf table id name → ⊥) → IsNoName table word
  no_id none id n = none id n.live (λ k l. sym (spells k l) ∙ n.spells k l)

  create_refused : (count extents : ℕ) (halted : Option Halt) → halted ≡ None → (fault : VolFault) → IsCreateFault count table halted name extents fault → IsLineRefused count table (create word extents) fault
  create_refused count extents halted none (VolHalt halt) is = absurd (let no : Some halt ≡ None = sym is ∙ none in cc)
  create_refused count extents halted none (Small blocks) is = absurd is
  create_refused count extents halted none NotVolumes is = absurd is
  create_refused count extents halted none Already is = absurd is
  create_refused count extents halted none (NoVolume id) is = absurd is
  create_refused count extents halted none (NoBlock block) is = absurd is
  create_refused count extents halted none (Exists id) is = exists word extents id (is_id id is.0 is.1)
  create_refused count extents halted none NoExtents is = subst (λ (z : ℕ). IsLineRefused count table (create word z) NoExtents) (sym is.1) (no_extents word (no_id is.0))
  create_refused count extents halted none Names is = all_named word extents (no_id is.0) is.1 is.2
  create_refused count extents halted none (Space free) is =
      subst (λ (z : ℕ). IsLineRefused count table (create word extents) (Space z)) (sym is.2) (no_space word extents is.1.0 (no_id is.0) is.1.1 (subst (λ (z : ℕ). z < extents) is.2 is.3))

-- ---- a block that there is not

module _ (count : ℕ) (table : ℕ → Block) (word : List ℕ) (id block : ℕ) (halted : Option Halt) (n : IsIdOf table word id) (none : halted ≡ None) where
  read_refused : (fault : VolFault) → IsPlaceFault count table halted id block fault → IsLineRefused count table (read word block) fault
  read_refused (VolHalt halt) is = absurd (let no : Some halt ≡ None = sym is ∙ none in cc)
  read_refused (Small blocks) is = absurd is
  read_refused NotVolumes is = absurd is
  read_refused Already is = absurd is
  read_refused (NoVolume i) is = absurd (is.1 n.live)
  read_refused (NoBlock b) is = subst (λ (z : ℕ). IsLineRefused count table (read word block) (NoBlock z)) (sym is.0) (past_read word id block n is.2)
  read_refused (Exists i) is = absurd is
  read_refused NoExtents is = absurd is
  read_refused Names is = absurd is
  read_refused (Space free) is = absurd is

  write_refused : (bytes : Block) (fault : VolFault) → IsPlaceFault count table halted id block fault → IsLineRefused count table (write word block bytes) fault
  write_refused bytes (VolHalt halt) is = absurd (let no : Some halt ≡ None = sym is ∙ none in cc)
  write_refused bytes (Small blocks) is = absurd is
  write_refused bytes NotVolumes is = absurd is
  write_refused bytes Already is = absurd is
  write_refused bytes (NoVolume i) is = absurd (is.1 n.live)
  write_refused bytes (NoBlock b) is = subst (λ (z : ℕ). IsLineRefused count table (write word block bytes) (NoBlock z)) (sym is.0) (past_write word id block bytes n is.2)
  write_refused bytes (Exists i) is = absurd is
  write_refused bytes NoExtents is = absurd is
  write_refused bytes Names is = absurd is
  write_refused bytes (Space free) is = absurd is

-- ---- the answers

module _ {B : Type 0} (g : Ghosts B) (old new : Volumes B g) where
  abbrev blocks_of : ℕ
  blocks_of = g.block_count (device_of old)

  abbrev table_of : ℕ → Block
  table_of = volume_table old

  -- no event was made
  quiet : (line : VolLine) (said : List ℕ) → device_of new ≡ device_of old → volume_table new ≡ table_of → IsReplyToLine blocks_of (Some table_of) line said [] (Some table_of) → RepliesHeld g old new line said
  quiet line said same kept reply = record {
    grows = λ first events k. (
      [],
      subst (λ (d : B). g.kept first d (events ++ [])) (sym same) (subst (g.kept first (device_of old)) (sym (append-nil events)) k),
      subst (λ (t : ℕ → Block). IsReplyToLine blocks_of (Some table_of) line said [] (Some t)) (sym kept) reply,
    );
  }

  tabled : g.block_count (device_of new) ≡ blocks_of → AreTabled blocks_of (Some (volume_table new))
  tabled size = subst (λ (k : ℕ). AreTabled k (Some (volume_table new))) size (new.large, new.valid)

  module _ (word : List ℕ) (id block : ℕ) (bytes : Block) where
    pub read_replies : (r : Result (Unit {0}) VolFault) (X : Type 0) → IsIdOf table_of word id → halted_of old ≡ None → halted_of new ≡ None → IfErr r (IsPlaceFault blocks_of table_of (halted_of new) id block) → volume_table new ≡ table_of
        → OnOk r ((first : B) (events : Answers) → g.kept first (device_of old) events → KeepsRead (g.kept first (device_of new)) events blocks_of table_of id block bytes)
        → OnErr r (halted_of new ≡ halted_of old → (device_of new ≡ device_of old) × X) → RepliesHeld g old new (read word block) (read_text word block r bytes)
    read_replies (Ok done) X n was none fault kept event still = record {
      grows = λ first events k.
          let r = event first events k in
          let made : Answers = (Read r.place, Value r.place bytes) ∷ [] in
          (made, r.kept, subst (λ (t : ℕ → Block). IsReplyToLine blocks_of (Some table_of) (read word block) (read_text word block (Ok tt) bytes) made (Some t)) (sym kept) (told table_of word id block r.place bytes n r.is));
    }
    read_replies (Err fault) X n was none is kept event still =
        quiet (read word block) _ (still (none ∙ sym was)).0 kept (refused table_of (read word block) fault (read_refused blocks_of table_of word id block (halted_of new) n none fault is))

    pub write_replies : (r : Result (Unit {0}) VolFault) → IsIdOf table_of word id → halted_of old ≡ None → halted_of new ≡ None → IfErr r (IsPlaceFault blocks_of table_of (halted_of new) id block) → volume_table new ≡ table_of
        → OnOk r ((first : B) (events : Answers) → g.kept first (device_of old) events → KeepsWrite (g.kept first (device_of new)) events blocks_of table_of id block bytes)
        → OnErr r (halted_of new ≡ halted_of old → device_of new ≡ device_of old) → RepliesHeld g old new (write word block bytes) (written_text r)
    write_replies (Ok done) n was none fault kept event still = record {
      grows = λ first events k.
          let r = event first events k in
          let made : Answers = (Write (single_pair r.place bytes), Wrote r.number) ∷ [] in
          (made, r.kept, subst (λ (t : ℕ → Block). IsReplyToLine blocks_of (Some table_of) (write word block bytes) (codes "wrote") made (Some t)) (sym kept) (wrote table_of word id block r.place r.number bytes n r.is));
    }
    write_replies (Err fault) n was none is kept event still =
        quiet (write word block bytes) _ (still (none ∙ sym was)) kept (refused table_of (write word block bytes) fault (write_refused blocks_of table_of word id block (halted_of new) n none bytes fault is))

  pub create_replies : (name : Name) (word : List ℕ) (extents : ℕ) (r : Result ℕ VolFault) → ((k : ℕ) → k < 16 → slice_index_or word k 0 ≡ letter_of name k) → halted_of old ≡ None → halted_of new ≡ None → g.block_count (device_of new) ≡ blocks_of
      → IfErr r (IsCreateFault blocks_of table_of (halted_of new) name extents) → OnOk r (CanCreate blocks_of table_of name extents) → IfOk r (IsLeastFree table_of)
      → IfOk r (λ id. IsWith id name extents (extent_count blocks_of) table_of (volume_table new)) → IfOk r (λ id. KeepsThen g.kept (AreOfCreate id (extent_size blocks_of) (extent_count blocks_of) table_of (volume_table new)) (device_of old) (device_of new))
      → OnErr r (volume_table new ≡ table_of) → OnErr r (halted_of new ≡ halted_of old → device_of new ≡ device_of old) → RepliesHeld g old new (create word extents) (created_text word r)
  create_replies name word extents (Ok id) spells was none size fault can least with made kept still = record {
    grows = λ first events k. (
      made.made,
      made.grows first events k,
      created table_of (volume_table new) word extents id made.made (no_id table_of name word spells can.fresh) can.some least can.room (tabled size) name with
          (is_id (volume_table new) name word spells id (record { low = least.low; high = least.high; named = subst (λ (n : ℕ). 0 < n) (with.name 0 (omega arith)) name.some }) with.name) made.all,
    );
  }
  create_replies name word extents (Err fault) spells was none size is can least with made kept still =
      quiet (create word extents) _ (still (none ∙ sym was)) kept (refused table_of (create word extents) fault (create_refused table_of name word spells blocks_of extents (halted_of new) none fault is))

  pub delete_replies : (word : List ℕ) (id : ℕ) → IsIdOf table_of word id → g.block_count (device_of new) ≡ blocks_of → IsWithout id (extent_count blocks_of) table_of (volume_table new)
      → KeepsThen g.kept (IsTableWrite (AreChanges table_of (volume_table new) 6)) (device_of old) (device_of new) → RepliesHeld g old new (delete word) (deleted_text word true)
  delete_replies word id n size without made = record {
    grows = λ first events k. (made.made, made.grows first events k, deleted table_of (volume_table new) word id made.made n (tabled size) without made.all);
  }

  pub flush_replies : (r : Result ℕ VolFault) → halted_of new ≡ None → IfErr r (IsHalt (halted_of new)) → volume_table new ≡ table_of
      → IfOk r (λ number. (first : B) (events : Answers) → g.kept first (device_of old) events → g.kept first (device_of new) (events ++ (Flush, Flushed number) ∷ [])) → RepliesHeld g old new flush (flushed_text r)
  flush_replies (Ok number) none fault kept event = record {
    grows = λ first events k.
        let made : Answers = (Flush, Flushed number) ∷ [] in
        (made, event first events k, subst (λ (t : ℕ → Block). IsReplyToLine blocks_of (Some table_of) flush (codes "flushed") made (Some t)) (sym kept) (flushed table_of number));
  }
  flush_replies (Err fault) none is kept event = absurd (no_halt (halted_of new) fault is none)

-- a line that calls nothing
pub still_replies : {B : Type 0} (g : Ghosts B) (v : Volumes B g) (line : VolLine) (said : List ℕ) → IsReplyToLine (g.block_count (device_of v)) (Some (volume_table v)) line said [] (Some (volume_table v)) → RepliesHeld g v v line said
still_replies g v line said reply = quiet g v v line said refl refl reply

-- no volume has its name
pub absent_replies : {B : Type 0} (g : Ghosts B) (v : Volumes B g) (line : VolLine) (word : List ℕ) → named_in line ≡ Some word → IsNoName (volume_table v) word → RepliesHeld g v v line (codes "novolume")
absent_replies g v line word about none = still_replies g v line (codes "novolume") (refused (volume_table v) line (NoVolume 0) (no_volume line word 0 about none))
