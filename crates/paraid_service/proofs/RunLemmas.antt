-- Lines, one after the other, on a device.
use Rattle.std.proofs.Common.{◌≡◌, ℕ, length, [], ◌∷◌, List, ◌++◌, ◌∙◌, refl, sym, ap, subst}
use Rattle.std.specs.Prelude.{Option, Some, None, IsTrue, codes}
use Rattle.std.proofs.lemmas.List.{append-nil, append_cancel_left}
use Rattle.paraid_base.specs.declared.fault.Halt.{Halt}
use Rattle.paraid_base.specs.BlockAnswers.{Answers}
use Rattle.paraid_base.specs.History.{History, after_all}
use Rattle.paraid_blocks.specs.declared.blocks.Blocks.{Ghosts}
use Rattle.paraid_volume.specs.Device.{IsReadEvent, entries_in}
use Rattle.paraid_volume.specs.Lives.{Life, VolLog}
use Rattle.paraid_volume.specs.States.{ShowsVolumes}
use Rattle.paraid_volume.proofs.LivesLemmas.{life_shows}
use Rattle.paraid_volume.proofs.DeviceLemmas.{DeviceGoesOn-then}
use Rattle.paraid_volume_lines.specs.Grammar.{AsksVolumes, VolLine}
use Rattle.paraid_service.specs.declared.shelf.Shelf.{Shelf}
use Rattle.paraid_service.specs.declared.shelf.Shelf.TheVariants.{Bare, Held as HeldShelf}
use Rattle.paraid_service.specs.LineRuns.{KeepsLines, RunsLines, RunsOn, SaysLines}
use Rattle.paraid_service.specs.Shelves.{OnFirst, OnShelf, OpensShelf, ServesShelf, StepsShelf, device_in, table_in}
use Rattle.paraid_service.specs.LineSteps.{KeepsReply}
use Rattle.paraid_service.specs.VolumeForms.{AreFirstReads, IsReplyToLine}
use Rattle.paraid_service.specs.VolumeLines.{Held, IsEventOf, LinesStep, halted_text}
use Rattle.paraid_service.specs.LineRuns.KeepsLines.{halting as form_halting, later as form_later, none_yet as form_none, one_more as form_more}
use Rattle.paraid_service.specs.VolumeLines.LinesStep.{halting, later, none_yet, one_more}
use Rattle.paraid_service.specs.VolumeSessions.{Holds, IsLifeOf, life_start}
use Rattle.paraid_service.specs.VolumeSessions.BeginsWith.{known, unknown}
use Rattle.paraid_service.specs.VolumeSessions.Holds.{volumes as volumes_held, no_table as none_held}
use Rattle.paraid_service.specs.VolumeSessions.IsLifeOf.{lives, waits}
use Rattle.paraid_nbd.proofs.DeviceLemmas.{keeps_then}
use Rattle.paraid_service.proofs.KeepLemmas.{keeps_more}

-- The events that were kept since the device was as `start` and stood for `h` are those of a life.
pub record LivesKept {B : Type 0} (g : Ghosts B) (start : B) (h : History) (was : Held) (device : B) (s : Held) (log : VolLog) : Type 0 where
  pub events : Answers
  pub kept : g.kept start device events
  pub life : IsLifeOf (g.block_count start) h was events s log

no_entries : (a b : History) → a ≡ a ++ b → b ≡ []
no_entries a b e = append_cancel_left a b [] (sym e ∙ sym (append-nil a))

-- a halt that has not come came of no line
no_cut : {count : ℕ} {s t : Held} {begun halt : Option Halt} {cut : Option VolLine} {lines : List (List ℕ)} {front reply : List ℕ} {log : VolLog} → LinesStep count s begun lines front reply log t halt cut → halt ≡ None → cut ≡ None
no_cut none_yet none = refl
no_cut (one_more t u lines line front reply said asked log more before ask step) none = refl
no_cut (halting t lines line front reply asked log halt before ask not_bad not_list) none = absurd (let no : Some halt ≡ None = none in cc)
no_cut (later t lines line front reply asked log halt cut before ask) none = absurd (let no : Some halt ≡ None = none in cc)

uncut : {count : ℕ} {s t : Held} {begun : Option Halt} {cut : Option VolLine} {lines : List (List ℕ)} {front reply : List ℕ} {log : VolLog} → LinesStep count s begun lines front reply log t None cut → LinesStep count s begun lines front reply log t None None
uncut {count} {s} {t} {begun} {cut} {lines} {front} {reply} {log} steps = subst (λ (c : Option VolLine). LinesStep count s begun lines front reply log t None c) (no_cut steps refl) steps

module _ {B : Type 0} (g : Ghosts B) where
  pub life_on : (start : B) (h : History) (was : Held) (shelf : Shelf B g) (s : Held) (log : VolLog) → OnShelf g start (g.block_count start) h was shelf s log → LivesKept g start h was (device_in shelf) s log
  life_on start h was (HeldShelf volumes) (Some s) log on = record {
    events = on.events;
    kept = on.kept;
    life = lives s log (subst (λ (w : History). Life (g.block_count start) (life_start was h) w s log) on.are on.life) on.flushes;
  }
  life_on start h was (HeldShelf volumes) None log on = absurd on
  life_on start h was (Bare blocks) (Some s) log on = absurd on
  life_on start h was (Bare blocks) None log on =
      let holds = on.holds in
      record { events = holds.1; kept = holds.2; life = subst (λ (l : VolLog). IsLifeOf (g.block_count start) h was holds.1 None l) (sym on.none) (waits on.bare (no_entries h (entries_in holds.1) holds.3)) }

  -- ---- a line more

  module _ (old new : Shelf B g) (asked : VolLine) (said : List ℕ) where
    more_says : (halt : Option Halt) (l : ServesShelf g old new asked said halt) (start : B) (lines : List (List ℕ)) (line front reply : List ℕ) → AsksVolumes line asked → (r : RunsLines g start lines front reply old None)
        → (h : History) → g.stands start h → IsTrue (g.tells (device_in new)) → SaysLines g start h (lines ++ line ∷ []) (front ++ reply) said new halt
    more_says None l start lines line front reply ask r h stands tells =
        let y = r.says h stands (l.went.told tells) in
        let step = subst (λ (k : ℕ). OnShelf g start k h y.first old y.last y.log → StepsShelf (OnShelf g start k h y.first new) k y.last asked l.said y.log) r.went.size (λ o. l.step refl start h y.first y.last y.log o tells) (y.on refl) in
        record {
          first = y.first;
          begun = y.begun;
          begins = y.begins;
          log = y.log ++ step.more;
          last = step.last;
          cut = None;
          steps = subst (λ (x : List ℕ). LinesStep (g.block_count start) y.first y.begun (lines ++ line ∷ []) (front ++ reply) x (y.log ++ step.more) step.last None None) (sym l.printed) (one_more y.last step.last lines line front reply l.said asked y.log step.more (uncut y.steps) ask step.step);
          on = λ none. step.on;
          broken = λ own e. absurd (let no : None ≡ Some own = e in cc);
        }
    more_says (Some own) l start lines line front reply ask r h stands tells =
        let y = r.says h stands (l.went.told tells) in
        let why = l.halts own refl in
        let life = life_on start h y.first old y.last y.log (y.on refl) in
        let kept = l.keeps.grows start life.events life.kept in
        record {
          first = y.first;
          begun = y.begun;
          begins = y.begins;
          log = y.log;
          last = y.last;
          cut = Some asked;
          steps = subst (λ (x : List ℕ). LinesStep (g.block_count start) y.first y.begun (lines ++ line ∷ []) (front ++ reply) x y.log y.last (Some own) (Some asked)) (sym (l.printed ∙ ap (λ (x : List ℕ). x ++ codes "\n") why.0))
              (halting y.last lines line front reply asked y.log own (uncut y.steps) ask why.1 why.2);
          on = λ none. absurd (let no : Some own ≡ None = none in cc);
          broken = λ other e. record { before = life.events; rest = kept.more; all = kept.kept; life = life.life; came = kept.all };
        }

    more_form : (halt : Option Halt) (l : ServesShelf g old new asked said halt) (start : B) (lines : List (List ℕ)) (line front reply : List ℕ) → AsksVolumes line asked → g.block_count (device_in old) ≡ g.block_count start → g.halted (device_in old) ≡ None
        → KeepsLines g start lines front reply old → KeepsLines g start (lines ++ line ∷ []) (front ++ reply) said new
    more_form None l start lines line front reply ask size none f =
        subst (λ (x : List ℕ). KeepsLines g start (lines ++ line ∷ []) (front ++ reply) x new) (sym l.printed)
        (form_more lines line front reply l.said asked old new f none ask
        (subst (λ (n : ℕ). KeepsReply g.kept (λ made. IsReplyToLine n (table_in old) asked l.said made (table_in new)) (device_in old) (device_in new)) size (l.reply refl)) (l.halted none))
    more_form (Some own) l start lines line front reply ask size none f =
        let why = l.halts own refl in
        subst (λ (x : List ℕ). KeepsLines g start (lines ++ line ∷ []) (front ++ reply) x new) (sym (l.printed ∙ ap (λ (x : List ℕ). x ++ codes "\n") why.0))
        (form_halting lines line front reply asked own old new f none ask why.1 why.2 l.keeps (l.halted none))

    pub runs_more : (halt : Option Halt) → ServesShelf g old new asked said halt → RunsOn g old new None halt asked said
    runs_more halt l start lines line front reply ask r = record {
      going = l.going;
      went = DeviceGoesOn-then g.block_count g.halts g.halted g.tells start (device_in old) (device_in new) r.went l.went;
      keeps = keeps_then g.kept start (device_in old) (device_in new) r.keeps (keeps_more g.kept g.tells (IsEventOf asked) (device_in old) (device_in new) l.keeps);
      form = λ none. more_form halt l start lines line front reply ask r.went.size (r.halted none) (r.form none);
      halted = λ going. l.halted (r.halted going);
      says = more_says halt l start lines line front reply ask r;
    }

  -- ---- a line after a halt

  pub runs_later : (shelf : Shelf B g) (asked : VolLine) (said : List ℕ) (own : Halt) → said ≡ halted_text own asked ++ codes "\n" → RunsOn g shelf shelf (Some own) (Some own) asked said
  runs_later shelf asked said own printed start lines line front reply ask r = record {
    going = r.going;
    went = r.went;
    keeps = r.keeps;
    form = λ none. subst (λ (x : List ℕ). KeepsLines g start (lines ++ line ∷ []) (front ++ reply) x shelf) (sym printed) (form_later lines line front reply asked own shelf (r.form none) (r.halted none) ask);
    halted = r.halted;
    says = λ h stands tells.
        let y = r.says h stands tells in
        record {
          first = y.first;
          begun = y.begun;
          begins = y.begins;
          log = y.log;
          last = y.last;
          cut = y.cut;
          steps = subst (λ (x : List ℕ). LinesStep (g.block_count start) y.first y.begun (lines ++ line ∷ []) (front ++ reply) x y.log y.last (Some own) y.cut) (sym printed) (later y.last lines line front reply asked y.log own y.cut y.steps ask);
          on = y.on;
          broken = y.broken;
        };
  }

  -- ---- before any line

  first_on : (start : B) (h : History) (shelf : Shelf B g) (s : Held) → OnFirst g start (g.block_count start) h shelf s → OnShelf g start (g.block_count start) h s shelf s []
  first_on start h (HeldShelf volumes) (Some s) on = on.0
  first_on start h (HeldShelf volumes) None on = absurd on
  first_on start h (Bare blocks) (Some s) on = absurd on
  first_on start h (Bare blocks) None on = on

  first_holds : (start : B) (h : History) (shelf : Shelf B g) (s : Held) → OnFirst g start (g.block_count start) h shelf s → Holds (g.block_count start) (after_all h) s
  first_holds start h (HeldShelf volumes) (Some s) on =
      let l = on.0 in
      volumes_held s (subst (λ (w : History). ShowsVolumes (g.block_count start) (after_all w) s) on.1 (life_shows (g.block_count start) (length h) l.writes s [] l.life))
  first_holds start h (HeldShelf volumes) None on = absurd on
  first_holds start h (Bare blocks) (Some s) on = absurd on
  first_holds start h (Bare blocks) None on = none_held on.no_table

  first_says : (start : B) (shelf : Shelf B g) (halt : Option Halt) (o : OpensShelf g start shelf halt) → g.kept start start [] → (h : History) → g.stands start h → IsTrue (g.tells (device_in shelf)) → SaysLines g start h [] [] [] shelf halt
  first_says start shelf None o begins h stands tells =
      let f = o.first refl start h (stands, [], begins, sym (append-nil h)) tells in
      record {
        first = f.0;
        begun = None;
        begins = known f.0 (first_holds start h shelf f.0 f.1);
        log = [];
        last = f.0;
        cut = None;
        steps = none_yet;
        on = λ none. first_on start h shelf f.0 f.1;
        broken = λ own e. absurd (let no : None ≡ Some own = e in cc);
      }
  first_says start shelf (Some own) o begins h stands tells =
      let kept = o.keeps.grows start [] begins in
      record {
        first = None;
        begun = Some own;
        begins = unknown own;
        log = [];
        last = None;
        cut = None;
        steps = none_yet;
        on = λ none. absurd (let no : Some own ≡ None = none in cc);
        broken = λ other e. record { before = []; rest = kept.more; all = kept.kept; life = waits refl refl; came = kept.all };
      }

  pub runs_first : (start : B) (shelf : Shelf B g) (halt : Option Halt) → OpensShelf g start shelf halt → g.kept start start [] → RunsLines g start [] [] [] shelf halt
  runs_first start shelf halt o begins = record { going = o.going; went = o.went; keeps = keeps_more g.kept g.tells IsReadEvent start (device_in shelf) o.keeps; form = λ none. form_none shelf (subst (λ (x : Option Halt). KeepsReply g.kept (λ made. AreFirstReads (g.block_count start) x made (table_in shelf)) start (device_in shelf)) (sym (o.halted none)) o.reads); halted = o.halted; says = first_says start shelf halt o begins }
