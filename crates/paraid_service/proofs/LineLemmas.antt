-- Lines as steps of volumes.
use Rattle.std.proofs.Common.{◌≡◌, ℕ, ◌<◌, [], ◌∷◌, ◌++◌, List, length, true, refl, sym, ◌∙◌, subst}
use Rattle.paraid_base.specs.declared.fault.Halt.{Halt}
use Rattle.paraid_volume.specs.declared.fault.VolFault.TheVariants.{Halt as VolHalt, Small, NotVolumes, Already, NoVolume, NoBlock, Exists, NoExtents, Names, Space}
use Rattle.paraid_volume.specs.Faults.{IsHalt}
use Rattle.std.specs.Prelude.{Option, Some, None, Result, Ok, Err, OnOk, IfOk, IfErr, IsTrue, slice_index_or, codes}
use Rattle.paraid_volume.specs.declared.fault.VolFault.{VolFault}
use Rattle.std.proofs.lemmas.List.{append-nil}
use Rattle.paraid_base.specs.declared.block.Block.{Block}
use Rattle.paraid_base.specs.declared.event.Answer.TheVariants.{Flushed as FlushedAnswer}
use Rattle.paraid_base.specs.declared.event.Event.TheVariants.{Flush as FlushEvent}
use Rattle.paraid_base.specs.BlockAnswers.{Answers}
use Rattle.paraid_base.specs.History.{History, after_all}
use Rattle.paraid_blocks.specs.declared.blocks.Blocks.{Ghosts}
use Rattle.paraid_volume.specs.declared.volumes.Volumes.{Volumes}
use Rattle.paraid_volume.specs.Values.{VolumesStandFor, device_of, halted_of}
use Rattle.paraid_volume.specs.declared.name.Name.{Name}
use Rattle.paraid_volume.specs.Lives.{HasLived, HasName, Life, LivesMore, VolLog, create as CreateCall, delete as DeleteCall, read as ReadCall, write as WriteCall, flush as FlushCall, flushed, made, refused, removed, value, wrote}
use Rattle.paraid_volume.specs.NameValues.{IsNameOf, letter_of}
use Rattle.paraid_volume.specs.States.{ShowsVolumes}
use Rattle.paraid_volume.specs.Tables.{IsLiveId, IsSameTable}
use Rattle.paraid_volume.proofs.LivesLemmas.{life_shows}
use Rattle.paraid_volume.proofs.RefusalLemmas.{has_name, name_has, named_live}
use Rattle.paraid_service.specs.LineSteps.{AnswersLine, KeepsFlush}
use Rattle.paraid_volume_lines.specs.Texts.{created_text, deleted_text, flushed_text, read_text, written_text}
use Rattle.paraid_service.specs.VolumeLines.{named_in}
use Rattle.paraid_volume_lines.specs.Lists.{name_text}
use Rattle.paraid_volume_lines.specs.Grammar.{VolLine, create as CreateLine, delete as DeleteLine, flush as FlushLine, read as ReadLine, write as WriteLine}
use Rattle.paraid_service.specs.VolumeLines.LineStep.{calls, unknown}
use Rattle.paraid_service.specs.VolumeLines.IsCallOf.{creates, deletes, flushes, reads, writes}

pub if_ok_with : {T E : Type 0} (P Q : T → Type 0) (r : Result T E) → ((x : T) → P x → Q x) → IfOk r P → IfOk r Q
if_ok_with P Q (Ok x) f p = f x p
if_ok_with P Q (Err e) f p = tt

pub on_ok_with : {T E : Type 0} (P Q : Type 0) (r : Result T E) → (P → Q) → OnOk r P → OnOk r Q
on_ok_with P Q (Ok x) f p = f p
on_ok_with P Q (Err e) f p = tt

pub if_err_with : {T E : Type 0} (P Q : E → Type 0) (r : Result T E) → ((e : E) → P e → Q e) → IfErr r P → IfErr r Q
if_err_with P Q (Ok x) f p = tt
if_err_with P Q (Err e) f p = f e p

pub no_halt : (halted : Option Halt) (fault : VolFault) → IsHalt halted fault → halted ≡ None → ⊥
no_halt halted (VolHalt halt) is none = let z : Some halt ≡ None = sym is ∙ none in cc
no_halt halted (Small blocks) is none = is
no_halt halted NotVolumes is none = is
no_halt halted Already is none = is
no_halt halted (NoVolume id) is none = is
no_halt halted (NoBlock block) is none = is
no_halt halted (Exists id) is none = is
no_halt halted NoExtents is none = is
no_halt halted Names is none = is
no_halt halted (Space free) is none = is

module _ (old new : History → Type 0) (count start : ℕ) (log : VolLog) (lived : HasLived old count start log) (table : ℕ → Block) (same : IsSameTable table (after_all lived.writes)) (name : Name) (word : List ℕ)
    (spells : (k : ℕ) → k < 16 → slice_index_or word k 0 ≡ letter_of name k) where
  shows : ShowsVolumes count (after_all lived.writes) lived.state
  shows = life_shows count start lived.writes lived.state log lived.life

  -- the volume with this name in the table has it in the state
  named : (id : ℕ) → IsLiveId table id → IsNameOf table id name → HasName lived.state id (name_text word)
  named id live is =
      let has = name_has count table (after_all lived.writes) lived.state same shows id name live is in
      (has.0, λ k l. spells k l ∙ has.1 k l)

  pub deleted : (id : ℕ) → IsLiveId table id → IsNameOf table id name → LivesMore old new count start log lived (DeleteCall id) removed → AnswersLine old new count start log lived (DeleteLine word) (deleted_text word true)
  deleted id live is m = record {
    more = _;
    all = m.all;
    step = calls lived.state m.all.state (DeleteLine word) (DeleteCall id) removed refl (deletes word id (named id live is)) m.step;
  }

  -- no volume has this name
  pub not_there : (line : VolLine) → named_in line ≡ Some word → ((h : History) → old h → new h) → ((id : ℕ) → IsLiveId table id → IsNameOf table id name → ⊥) → AnswersLine old new count start log lived line (codes "novolume")
  not_there line about keeps none = record {
    more = [];
    all = record { writes = lived.writes; state = lived.state; stands = keeps lived.writes lived.stands; life = subst (λ (l : VolLog). Life count start lived.writes lived.state l) (sym (append-nil log)) lived.life };
    step = unknown lived.state line word refl about (λ id has.
        let back : HasName lived.state id (letter_of name) = (has.0, λ k l. sym (spells k l) ∙ has.1 k l) in
        none id (named_live count table (after_all lived.writes) lived.state same shows id has.0) (has_name count table (after_all lived.writes) lived.state same shows id name back));
  }

  pub read_line : (id block : ℕ) (bytes : Block) (r : Result (Unit {0}) VolFault) → IsLiveId table id → IsNameOf table id name
      → OnOk r (LivesMore old new count start log lived (ReadCall id block) (value bytes)) → IfErr r (λ fault. LivesMore old new count start log lived (ReadCall id block) (refused fault))
      → AnswersLine old new count start log lived (ReadLine word block) (read_text word block r bytes)
  read_line id block bytes (Ok done) live is ok err = record { more = _; all = ok.all; step = calls lived.state ok.all.state (ReadLine word block) (ReadCall id block) (value bytes) refl (reads word id block (named id live is)) ok.step }
  read_line id block bytes (Err fault) live is ok err = record { more = _; all = err.all; step = calls lived.state err.all.state (ReadLine word block) (ReadCall id block) (refused fault) refl (reads word id block (named id live is)) err.step }

  pub write_line : (id block : ℕ) (bytes : Block) (r : Result (Unit {0}) VolFault) → IsLiveId table id → IsNameOf table id name
      → OnOk r (LivesMore old new count start log lived (WriteCall id block bytes) wrote) → IfErr r (λ fault. LivesMore old new count start log lived (WriteCall id block bytes) (refused fault))
      → AnswersLine old new count start log lived (WriteLine word block bytes) (written_text r)
  write_line id block bytes (Ok done) live is ok err = record { more = _; all = ok.all; step = calls lived.state ok.all.state (WriteLine word block bytes) (WriteCall id block bytes) wrote refl (writes word id block bytes (named id live is)) ok.step }
  write_line id block bytes (Err fault) live is ok err = record { more = _; all = err.all; step = calls lived.state err.all.state (WriteLine word block bytes) (WriteCall id block bytes) (refused fault) refl (writes word id block bytes (named id live is)) err.step }

module _ (old new : History → Type 0) (count start : ℕ) (log : VolLog) (lived : HasLived old count start log) where
  pub create_line : (name : Name) (word : List ℕ) (extents : ℕ) (r : Result ℕ VolFault) → ((k : ℕ) → k < 16 → slice_index_or word k 0 ≡ letter_of name k)
      → IfOk r (λ id. LivesMore old new count start log lived (CreateCall (letter_of name) extents) (made id)) → IfErr r (λ fault. LivesMore old new count start log lived (CreateCall (letter_of name) extents) (refused fault))
      → AnswersLine old new count start log lived (CreateLine word extents) (created_text word r)
  create_line name word extents (Ok id) spells ok err = record { more = _; all = ok.all; step = calls lived.state ok.all.state (CreateLine word extents) (CreateCall (letter_of name) extents) (made id) refl (creates word extents (letter_of name) (λ k l. sym (spells k l))) ok.step }
  create_line name word extents (Err fault) spells ok err = record { more = _; all = err.all; step = calls lived.state err.all.state (CreateLine word extents) (CreateCall (letter_of name) extents) (refused fault) refl (creates word extents (letter_of name) (λ k l. sym (spells k l))) err.step }

  pub flush_line : (halted : Option Halt) (r : Result ℕ VolFault) → IfOk r (λ n. LivesMore old new count start log lived FlushCall (flushed n)) → IfErr r (IsHalt halted) → halted ≡ None
      → AnswersLine old new count start log lived FlushLine (flushed_text r)
  flush_line halted (Ok n) ok err none = record { more = _; all = ok.all; step = calls lived.state ok.all.state FlushLine FlushCall (flushed n) refl flushes ok.step }
  flush_line halted (Err fault) ok err none = absurd (no_halt halted fault err none)

-- a flush that was answered with a number
pub flush_keeps : {B : Type 0} (g : Ghosts B) (old new : Volumes B g) (r : Result ℕ VolFault) → IfErr r (IsHalt (halted_of new))
    → IfOk r (λ number. (h : History) → VolumesStandFor g.stands old h → IsTrue (g.tells (device_of new)) → (number ≡ length h) × VolumesStandFor g.stands new h)
    → IfOk r (λ number. (first : B) (events : Answers) → g.kept first (device_of old) events → g.kept first (device_of new) (events ++ (FlushEvent, FlushedAnswer number) ∷ []))
    → halted_of new ≡ None → KeepsFlush g old new × (flushed_text r ≡ codes "flushed")
flush_keeps g old new (Ok number) err stands kept none = (record { number = number; kept = kept; counts = λ h s t. (stands h s t).0; stands = λ h s t. (stands h s t).1 }, refl)
flush_keeps g old new (Err fault) err stands kept none = absurd (no_halt (halted_of new) fault err none)
