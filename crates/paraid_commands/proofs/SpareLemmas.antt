-- How a run with spares comes out, on a rack that held a history.
use Rattle.std.proofs.Common.{◌≡◌, ℕ, List, [], ◌∷◌, ◌++◌, Some, inl, refl, sym, subst, append_assoc}
use Rattle.paraid_base.specs.declared.event.Answer.TheVariants.{Halted}
use Rattle.paraid_base.specs.declared.event.Event.TheVariants.{Flush}
use Rattle.paraid_base.specs.Told.{GrowsByBytes, HasRisen}
use Rattle.paraid_rack.specs.declared.call.Call.{Call}
use Rattle.paraid_serve.specs.Uses.{RackUse, SinkUse, SourceUse}
use Rattle.paraid_rack.specs.Trail.{Trail, extend, now}
use Rattle.paraid_recover.specs.Mount.{IsUnstarted}
use Rattle.paraid_serve.specs.Ending.{end_line}
use Rattle.paraid_serve.specs.Output.{begins_with}
use Rattle.paraid_serve.specs.Stretch.{turn_with}
use Rattle.paraid_serve.proofs.StretchLemmas.{some_is}
use Rattle.paraid_session.specs.Mount.{IsBegun}
use Rattle.paraid_session.specs.Turn.{Point}
use Rattle.paraid_sparing.specs.Output.{FollowsSpared, SparedText, WritesSpared}
use Rattle.paraid_sparing.specs.Output.SparedText.{done as text_done, halted as text_halted, source as text_source, too_long as text_long}
use Rattle.paraid_sparing.specs.Output.WritesSpared.{answers as wrote_answers, at_first_line as wrote_first, last_lines as wrote_last, whole as wrote_whole}
use Rattle.paraid_sparing.specs.Sparing.{Supply, stock_line}
use Rattle.paraid_commands.specs.Complete.{Completes, HeldHistory, HindersRun, IsRunWhole}
use Rattle.paraid_commands.specs.Complete.Completes.{hindered, whole}
use Rattle.paraid_commands.specs.Complete.Hinders.{sink_failed}
use Rattle.paraid_commands.specs.Complete.HindersRun.{other, source_failed, too_long}
use Rattle.paraid_commands.specs.Ends.{BeginsAt, IsServed, MountsAndThen, ServiceStart, served_span}
use Rattle.paraid_commands.specs.Ends.MountsAndThen.{mounted, refused}
use Rattle.paraid_commands.specs.Spares.{ServesSpares}
use Rattle.paraid_commands.proofs.CompleteLemmas.{from_point, halted_comes, refused_comes}

module _ {rack : RackUse} (h : HeldHistory rack) (kept : SinkUse) (status : ℕ) (sunk : status ≡ 4 → HasRisen kept.faults_before kept.faults) (given : SourceUse) (heard : status ≡ 3 → HasRisen given.faults_before given.faults) (supply : Supply) where
  abbrev Hindered : Type 0
  Hindered = HindersRun h given kept status

  abbrev SparedComes : Type 0
  SparedComes = Completes (IsRunWhole given kept) (IsUnstarted rack.old rack.new rack.before rack.after) Hindered status

  module _ (service : ServiceStart) (stood : IsServed rack service) (begins : BeginsAt rack.before service.told rack.after service.began) (served : ServesSpares rack given kept supply status service) where
    by_text : (base : ℕ → ℕ) (t : Trail) (cs : List Call) (p : Point) → service.told ≡ Some t → t ≡ extend h.first cs → IsBegun rack.slots (now h.first) h.said h.history h.low h.down base cs p → h.said.meta.setup ≡ service.array.meta.setup
        → (code : ℕ) (front last : List ℕ) → SparedText (served_span rack service) supply p served.headline.bytes code front last → status ≡ code → GrowsByBytes kept.written_before kept.written (front ++ last) → SparedComes
    by_text base t cs p here split starts same code front last (text_done writes told e) is grows =
        whole is (
          (served.headline.all (inl is)).1,
          writes,
          record {
            text = (begins_with p ++ told) ++ stock_line e.lines.stock service.array.meta.setup;
            grows = subst (λ (x : List ℕ). GrowsByBytes kept.written_before kept.written x) (sym (append_assoc (begins_with p ++ told) (stock_line e.lines.stock service.array.meta.setup) (end_line writes))) grows;
          },
        )
    by_text base t cs p here split starts same code front last (text_halted halt told e) is grows =
        halted_comes h kept status (IsRunWhole given kept) Hindered other sunk service stood begins served.end
        base t cs p here split starts same (e.lines.put_in ++ Flush ∷ []) halt (record { all = e.all; before = e.lines.all.turns; last = turn_with Flush (Halted halt) e.calls; split = e.turns; answered = refl }) is
    by_text base t cs p here split starts same code front last (text_source told c) is grows = hindered (source_failed is (heard is))
    by_text base t cs p here split starts same code front last (text_long ten told c) is grows = hindered (too_long is served.headline.bytes served.headline.given ten)

    by_output : (base : ℕ → ℕ) (t : Trail) (cs : List Call) (p : Point) → service.told ≡ Some t → t ≡ extend h.first cs → IsBegun rack.slots (now h.first) h.said h.history h.low h.down base cs p → h.said.meta.setup ≡ service.array.meta.setup
        → WritesSpared (served_span rack service) supply p served.headline.bytes status served.headline.text → SparedComes
    by_output base t cs p here split starts same (wrote_whole front last out is) =
        by_text base t cs p here split starts same status front last out refl (subst (λ (x : List ℕ). GrowsByBytes kept.written_before kept.written x) is served.headline.grows)
    by_output base t cs p here split starts same (wrote_last four code front last count out is) = hindered (other (sink_failed four (sunk four)))
    by_output base t cs p here split starts same (wrote_first four none c rest is) = hindered (other (sink_failed four (sunk four)))
    by_output base t cs p here split starts same (wrote_answers four part c is) = hindered (other (sink_failed four (sunk four)))

  pub spared_comes : {U : Type 0} → MountsAndThen rack kept status U (ServesSpares rack given kept supply status) → SparedComes
  spared_comes (refused fault back end unheard) =
      refused_comes h kept status (IsRunWhole given kept) Hindered other sunk fault back.cause back.refused end.count _ end.whole
  spared_comes (mounted service stood begins served) =
      from_point h kept status (IsRunWhole given kept) Hindered other sunk service stood begins served.end
      (FollowsSpared (served_span rack service) supply served.headline.bytes status served.headline.text) (served.headline.said (some_is rack.after h.last h.at_last))
      (λ base t cs p here split starts same f. by_output service stood begins served base t cs p here split starts same f.wrote)
