-- Lines of volumes with their texts.
use Rattle.std.proofs.Common.{◌≡◌, ℕ, [], List, ◌++◌, ◌∙◌, refl, sym, ap, subst}
use Rattle.std.specs.Prelude.{Option, Some, None, Result, Ok, Err, IsTrue, codes}
use Rattle.std.proofs.lemmas.List.{append-nil}
use Rattle.std.proofs.lemmas.Option.{same_Some}
use Rattle.paraid_base.specs.declared.block.Block.{Block}
use Rattle.paraid_base.specs.declared.fault.Halt.{Halt}
use Rattle.paraid_base.specs.History.{after_all}
use Rattle.paraid_blocks.specs.declared.blocks.Blocks.{Ghosts}
use Rattle.paraid_trace.specs.Replies.{halt_text}
use Rattle.paraid_volume.specs.declared.fault.VolFault.{VolFault}
use Rattle.paraid_volume.specs.declared.fault.VolFault.TheVariants.{Halt as VolHalt, Small, NotVolumes, Already, NoVolume, NoBlock, Exists, NoExtents, Names, Space}
use Rattle.paraid_volume.specs.declared.volumes.Volumes.{Volumes}
use Rattle.paraid_volume.specs.Device.{DeviceGoesOn, DeviceHolds, KeepsMore, SinceHistory}
use Rattle.paraid_volume.specs.Faults.{vol_halt_in}
use Rattle.paraid_volume.specs.Lives.{HasLived, Life, VolLog}
use Rattle.paraid_volume.specs.Values.{VolumesStandFor, device_of, halted_of, volume_table}
use Rattle.paraid_volume.proofs.DeviceLemmas.{DeviceGoesOn-none, KeepsMore-none}
use Rattle.paraid_volume.proofs.LivesLemmas.{life_shows}
use Rattle.paraid_volume_lines.specs.Grammar.{VolLine, bad, flush, list}
use Rattle.paraid_volume_lines.specs.Lists.{TellsVolumes}
use Rattle.paraid_volume_lines.specs.Texts.{created_text, fault_text, flushed_text, read_text, written_text}
use Rattle.paraid_service.specs.LineSteps.{AnswersLine, KeepsFlush, RepliesHeld, ServesHeld}
use Rattle.paraid_service.specs.VolumeLines.{IsEventOf, LineStep}
use Rattle.paraid_service.specs.VolumeForms.{IsReplyToLine}
use Rattle.paraid_service.specs.VolumeForms.IsReplyToLine.{listed}
use Rattle.paraid_service.specs.VolumeLines.LineStep.{lists}
use Rattle.paraid_service.proofs.AnswerLemmas.{still_replies}

-- ---- a refusal by a halt is told as the halt

pub fault_halts : (T : Type 0) (fault : VolFault) (own : Halt) → vol_halt_in {A = T} (Err fault) ≡ Some own → fault_text fault ≡ halt_text own
fault_halts T (VolHalt halt) own e = ap halt_text (same_Some _ _ e)
fault_halts T (Small blocks) own e = cc
fault_halts T NotVolumes own e = cc
fault_halts T Already own e = cc
fault_halts T (NoVolume id) own e = cc
fault_halts T (NoBlock block) own e = cc
fault_halts T (Exists id) own e = cc
fault_halts T NoExtents own e = cc
fault_halts T Names own e = cc
fault_halts T (Space free) own e = cc

pub created_halts : (name : List ℕ) (r : Result ℕ VolFault) (own : Halt) → vol_halt_in r ≡ Some own → created_text name r ≡ halt_text own
created_halts name (Ok id) own e = cc
created_halts name (Err fault) own e = fault_halts ℕ fault own e

pub read_halts : (name : List ℕ) (block : ℕ) (r : Result (Unit {0}) VolFault) (bytes : Block) (own : Halt) → vol_halt_in r ≡ Some own → read_text name block r bytes ≡ halt_text own
read_halts name block (Ok done) bytes own e = cc
read_halts name block (Err fault) bytes own e = fault_halts (Unit {0}) fault own e

pub written_halts : (r : Result (Unit {0}) VolFault) (own : Halt) → vol_halt_in r ≡ Some own → written_text r ≡ halt_text own
written_halts (Ok done) own e = cc
written_halts (Err fault) own e = fault_halts (Unit {0}) fault own e

pub flushed_halts : (r : Result ℕ VolFault) (own : Halt) → vol_halt_in r ≡ Some own → flushed_text r ≡ halt_text own
flushed_halts (Ok number) own e = cc
flushed_halts (Err fault) own e = fault_halts ℕ fault own e

module _ {B : Type 0} (g : Ghosts B) where
  pub serves : (old new : Volumes B g) (line : VolLine) (now halt : Option Halt) (said text : List ℕ) → halted_of new ≡ now → halt ≡ now → DeviceGoesOn g.block_count g.halts g.halted g.tells (device_of old) (device_of new) → KeepsMore g.kept g.tells (IsEventOf line) (device_of old) (device_of new)
      → text ≡ said ++ codes "\n" → (line ≡ bad → ⊥) → (line ≡ list → ⊥) → ((own : Halt) → now ≡ Some own → said ≡ halt_text own)
      → (halted_of new ≡ None → (from : SinceHistory B) (start : ℕ) (log : VolLog) → (lived : HasLived (VolumesStandFor (DeviceHolds g.stands g.kept from) old) (g.block_count (device_of old)) start log) → IsTrue (g.tells (device_of new))
      → AnswersLine (VolumesStandFor (DeviceHolds g.stands g.kept from) old) (VolumesStandFor (DeviceHolds g.stands g.kept from) new) (g.block_count (device_of old)) start log lived line said)
      → (halted_of new ≡ None → line ≡ flush → KeepsFlush g old new × (said ≡ codes "flushed")) → (halted_of new ≡ None → RepliesHeld g old new line said)
      → ServesHeld g old new line text halt
  serves old new line now halt said text halted is went keeps printed not_bad not_list says step kept_flush reply = record {
    halted = halted ∙ sym is;
    went = went;
    keeps = keeps;
    said = said;
    printed = printed;
    step = λ none. step (halted ∙ sym is ∙ none);
    reply = λ none. reply (halted ∙ sym is ∙ none);
    flushes = λ none. kept_flush (halted ∙ sym is ∙ none);
    halts = λ own e. (says own (sym is ∙ e), not_bad, not_list);
  }

  -- a line that calls nothing
  pub serves_none : (v : Volumes B g) (line : VolLine) (said text : List ℕ) → halted_of v ≡ None → text ≡ said ++ codes "\n" → (line ≡ flush → ⊥) → IsReplyToLine (g.block_count (device_of v)) (Some (volume_table v)) line said [] (Some (volume_table v))
      → ((from : SinceHistory B) (start : ℕ) (log : VolLog) (lived : HasLived (VolumesStandFor (DeviceHolds g.stands g.kept from) v) (g.block_count (device_of v)) start log) → LineStep (g.block_count (device_of v)) (Some lived.state) line said [] (Some lived.state))
      → ServesHeld g v v line text None
  serves_none v line said text going printed not_flush reply step = record {
    halted = going;
    went = DeviceGoesOn-none g.block_count g.halts g.halted g.tells (device_of v);
    keeps = KeepsMore-none g.kept g.tells (IsEventOf line) (device_of v);
    said = said;
    printed = printed;
    step = λ none from start log lived tells. record {
      more = [];
      all = record { writes = lived.writes; state = lived.state; stands = lived.stands; life = subst (λ (l : VolLog). Life (g.block_count (device_of v)) start lived.writes lived.state l) (sym (append-nil log)) lived.life };
      step = step from start log lived;
    };
    reply = λ none. still_replies g v line said reply;
    flushes = λ none is. absurd (not_flush is);
    halts = λ own e. absurd (let no : None ≡ Some own = e in cc);
  }

  pub serves_list : (v : Volumes B g) (text : List ℕ) → halted_of v ≡ None → TellsVolumes (g.block_count (device_of v)) (volume_table v) text → ServesHeld g v v list text None
  serves_list v text going tells = serves_none v list (codes "list" ++ tells.text) text going tells.printed (λ no. cc) (listed (volume_table v) tells.text tells.each) (λ from start log lived.
      let shows = life_shows (g.block_count (device_of v)) start lived.writes lived.state log lived.life in
      lists lived.state tells.text refl (tells.each (after_all lived.writes) lived.state lived.stands.1 shows))
