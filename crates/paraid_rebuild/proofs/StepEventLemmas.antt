-- What the calls of a step of a rebuild are in an event of a session.
use Rattle.std.specs.Prelude.{length}
use Rattle.std.proofs.Common.{◌≡◌, ℕ, ◌+◌, ◌<◌, ◌≤◌, Bool, true, false, Option, Some, None, refl, sym, ap, ◌∙◌, inl, inr, subst, arith, if◌then◌else◌}
use Rattle.std.proofs.lemmas.Bool.{cases_Bool}
use Rattle.paraid_base.specs.declared.fault.Two.{Two}
use Rattle.paraid_base.specs.declared.state.Out.{Out}
use Rattle.paraid_base.specs.declared.state.Out.TheVariants.{Fresh, Gone}
use Rattle.paraid_base.specs.declared.state.Phase.{Phase}
use Rattle.paraid_base.specs.declared.state.Phase.TheVariants.{Down, Steady, Up}
use Rattle.paraid_base.specs.History.{History}
use Rattle.paraid_base.specs.States.{gone_out, has_out, is_down, named_out, phase_beside}
use Rattle.paraid_rack.specs.declared.call.Power.TheVariants.{Absent}
use Rattle.paraid_rack.specs.Disks.{Disks, is_present}
use Rattle.paraid_rack.specs.Slots.{Agrees, Slot}
use Rattle.paraid_rack.specs.Told.{CrashTriple, Ran}
use Rattle.paraid_rack.specs.Trail.{Trail, now, run}
use Rattle.paraid_rack.proofs.TrailsLemmas.{now-extend}
use Rattle.paraid_record.specs.declared.meta.Meta.{Meta}
use Rattle.paraid_record.specs.Range.{IsInRange, IsOutInRange}
use Rattle.paraid_image.specs.Mark.{meta_after_loss}
use Rattle.paraid_core.specs.Calls.{IsDataCall}
use Rattle.paraid_core.specs.CoreInvariant.{IsHeldWithOneMissing}
use Rattle.paraid_core.proofs.CommitLemmas.{both_of}
use Rattle.paraid_moves.specs.MoveMetas.{meta_with_out}
use Rattle.paraid_txn.specs.Uses.{EachCall}
use Rattle.paraid_event.specs.Lost.{TellsTwo}
use Rattle.paraid_event.specs.Marks.{IsMarkedBy, ShowsMeta}
use Rattle.paraid_event.specs.Parts.{LosesInEvent, ServesEvent}
use Rattle.paraid_event.specs.Parts.BringsMeta.{nothing}
use Rattle.paraid_event.specs.Service.{Service}
use Rattle.paraid_event.specs.Stands.{ServiceStandsFor}
use Rattle.paraid_event.specs.Steps.{IsSettled, LosesInSteps, MarksInMemory, ServesAndMarks, ServesMarked, ServesShown, StepsInEvent}
use Rattle.paraid_event.proofs.StepLemmas.{data_steps, follow, goes_bound, ran_both, ran_then}
use Rattle.paraid_event.proofs.StepMarkLemmas.{commit_loses_steps, commit_steps as mark_commits, copied_steps}
use Rattle.paraid_rebuild.specs.Replacing.{CommitsCopies, LosesCopies}

some_trail : (a b : Trail) → Some a ≡ Some b → a ≡ b
some_trail a b e = cc

-- beside a disk that is out there is no shift down
up_beside : (p : Phase) → is_down p ≡ false → phase_beside true p ≡ p
up_beside Steady is = refl
up_beside (Down to) is = let z : true ≡ false = is in absurd cc
up_beside (Up to) is = refl

-- a meta in range goes with the disk that it names out
pub range_settled : (m : Meta) (o : Out) → IsInRange m → has_out m.out ≡ true → has_out o ≡ true → IsSettled (meta_with_out m o)
range_settled m o range some has =
    let up : is_down m.phase ≡ false = elim (cases_Bool (is_down m.phase)) [
      | inl down ↦ let z : true ≡ false = sym some ∙ range.shift.down down in absurd cc
      | inr not ↦ not
    ] in
    record {
      phase = ap (λ (t : Bool). phase_beside t m.phase) has ∙ up_beside m.phase up;
      fill = ap (λ (t : Bool). if t then 0 else m.fill) has ∙ sym (range.shift.still some);
    }

-- the mark of units that are rebuilt
pub units_marked : (k j : Service) (disk u end : ℕ) → j ≡ record k { meta = meta_with_out k.meta (Fresh disk end) } → k.meta.out ≡ Fresh disk u → IsInRange k.meta → MarksInMemory k j
units_marked k j disk u end is fresh range = subst (MarksInMemory k) (sym is) (record {
  slots = refl;
  named = refl;
  setup = refl;
  ticks = refl;
  names = sym (ap named_out fresh);
  gone = sym (ap gone_out fresh);
  settled = range_settled k.meta (Fresh disk end) range (ap has_out fresh) refl;
  used = λ power d low. omega arith;
})

module _ (told told_then : Option Trail) (k k_then : Service) (h : History) (lo : ℕ) where
  abbrev P : Disks → Type 0
  P = IsHeldWithOneMissing k.slots k.meta.setup.geometry.disks k.named h lo

  -- a commit that brings a mark, where its disk is marked by what is told
  pub marked_serves : Ran told told_then (ServesEvent k k_then h lo h (length h)) → Ran told told_then (ServesMarked k k_then h lo (length h))
  marked_serves ran = ran_then (ServesEvent k k_then h lo h (length h)) (ServesMarked k k_then h lo (length h)) (λ s cs serves z fresh. serves z) told told_then ran

  module _ (A B : Disks → Type 0) (starts : (s : Disks) (z : ServiceStandsFor k h lo s) → ShowsMeta s.power z.base k.meta → A s) (calls : Ran told told_then (EachCall (IsDataCall k.meta.setup.geometry.disks (gone_out k.meta.out))))
      (stands : Ran told told_then (CrashTriple P A B)) (marked : (t : Trail) → told_then ≡ Some t → IsMarkedBy (now t).power k.meta k_then.meta) (slots : k_then.slots ≡ k.slots) where
    -- calls between two commits, from where the meta is shown
    copies_shown : ((t : Trail) → told_then ≡ Some t → B (now t) → ServiceStandsFor k_then h lo (now t)) → Ran told told_then (ServesShown k k_then h lo lo)
    copies_shown keeps t tells =
        let r = both_of (EachCall (IsDataCall k.meta.setup.geometry.disks (gone_out k.meta.out))) (CrashTriple P A B) told told_then calls stands t tells in
        let end : now t ≡ run (now r.from) r.calls = ap now r.is ∙ now-extend r.from r.calls in
        record {
          from = r.from;
          was = r.was;
          calls = r.calls;
          is = r.is;
          holds = λ z shows. let both = r.holds.1.goes (starts (now r.from) z shows) in (
            record { out = k.named; is_out = λ d is. inl is; held = both.0; brings = nothing r.holds.0 },
            record {
              keeps = subst (ServiceStandsFor k_then h lo) end (keeps t tells (subst B (sym end) both.1));
              marks = subst (λ (s : Disks). IsMarkedBy s.power k.meta k_then.meta) end (marked t tells);
            },
          );
        }

    -- they are a part of an event with no commit
    pub copies_step : ((t : Trail) → told_then ≡ Some t → B (now t) → ServiceStandsFor k_then h lo (now t)) → Ran told told_then (StepsInEvent k k_then h lo 0)
    copies_step keeps = ran_then (λ s cs. ServesShown k k_then h lo lo s cs × EachCall (IsDataCall k.meta.setup.geometry.disks (gone_out k.meta.out)) s cs) (StepsInEvent k k_then h lo 0)
        (λ s cs both. data_steps k k_then h lo lo (omega arith) slots s cs both) told told_then
        (both_of (ServesShown k k_then h lo lo) (EachCall (IsDataCall k.meta.setup.geometry.disks (gone_out k.meta.out))) told told_then (copies_shown keeps) calls)

    -- and a mark can follow them, with which the core stands
    module _ (j : Service) (keeps : (t : Trail) → told_then ≡ Some t → B (now t) → ServiceStandsFor k_then h lo (now t)) (with_mark : (t : Trail) → told_then ≡ Some t → B (now t) → ServiceStandsFor j h lo (now t)) where
      copies_marked : Ran told told_then (ServesAndMarks k k_then j h lo)
      copies_marked t tells =
          let r = both_of (EachCall (IsDataCall k.meta.setup.geometry.disks (gone_out k.meta.out))) (CrashTriple P A B) told told_then calls stands t tells in
          let end : now t ≡ run (now r.from) r.calls = ap now r.is ∙ now-extend r.from r.calls in
          record {
            from = r.from;
            was = r.was;
            calls = r.calls;
            is = r.is;
            holds = λ z shows.
                let both = r.holds.1.goes (starts (now r.from) z shows) in
                let there = subst B (sym end) both.1 in (
                  record { out = k.named; is_out = λ d is. inl is; held = both.0; brings = nothing r.holds.0 },
                  record {
                    keeps = subst (ServiceStandsFor k_then h lo) end (keeps t tells there);
                    marks = subst (λ (s : Disks). IsMarkedBy s.power k.meta k_then.meta) end (marked t tells);
                  },
                  subst (ServiceStandsFor j h lo) end (with_mark t tells there),
                );
          }

      pub copies_both : Ran told told_then (λ s cs. ServesAndMarks k k_then j h lo s cs × EachCall (IsDataCall k.meta.setup.geometry.disks (gone_out k.meta.out)) s cs)
      copies_both = both_of (ServesAndMarks k k_then j h lo) (EachCall (IsDataCall k.meta.setup.geometry.disks (gone_out k.meta.out))) told told_then copies_marked calls

    -- With a mark of them and the commit of it they are one with one commit,
    module _ (told_last : Option Trail) (j k_last : Service) (keeps : (t : Trail) → told_then ≡ Some t → B (now t) → ServiceStandsFor k_then h lo (now t)) (commits : CommitsCopies told_then told_last k_then j k_last h lo B) where
      pub copies_committed : Ran told told_last (StepsInEvent k k_last h lo 1)
      copies_committed = ran_both (λ s cs. ServesAndMarks k k_then j h lo s cs × EachCall (IsDataCall k.meta.setup.geometry.disks (gone_out k.meta.out)) s cs) (ServesMarked j k_last h lo (length h)) (StepsInEvent k k_last h lo 1)
          (λ s cs ds x y base w is at.
          let low = at.midway.stands.keeps.copies.low in
          let high = at.midway.stands.keeps.copies.high in
          mark_commits k j k_then.meta h lo 0 s cs ds (copied_steps k k_then j slots commits.mark h lo s cs x) k_last (length h) (omega (arith, low, high)) commits.slots commits.epoch
          (λ d. rw (commits.gear, commits.phase) refl) y base w is at)
          told told_then told_last (copies_both j keeps commits.stands) commits.ran

    -- also where a second disk is lost in the commit.
    module _ (told_last : Option Trail) (j : Service) (two : Two) (keeps : (t : Trail) → told_then ≡ Some t → B (now t) → ServiceStandsFor k_then h lo (now t)) (loses : LosesCopies told_then told_last k_then j h lo two B) where
      pub copies_lost : Ran told told_last (LosesInSteps k h lo 1 two)
      copies_lost = ran_both (λ s cs. ServesAndMarks k k_then j h lo s cs × EachCall (IsDataCall k.meta.setup.geometry.disks (gone_out k.meta.out)) s cs) (λ s cs. LosesInEvent j h lo s cs × TellsTwo j two s cs) (LosesInSteps k h lo 1 two)
          (λ s cs ds x y. commit_loses_steps k j k_then.meta h lo 0 s cs ds (copied_steps k k_then j slots loses.mark h lo s cs x) two y) told told_then told_last (copies_both j keeps loses.stands) loses.ran

-- a disk that is being rebuilt is of the array
pub fresh_low : (m : Meta) (d u : ℕ) → IsInRange m → m.out ≡ Fresh d u → d < m.setup.geometry.disks
fresh_low m d u range is = (subst (IsOutInRange m.setup.geometry m.gear) is range.out).0

-- a disk that was lost is marked by what is told
pub gone_told : (told_then : Option Trail) (slot_then : ℕ → Slot) → ((t : Trail) → told_then ≡ Some t → Agrees (now t) slot_then) → (m m_then : Meta) (disk : ℕ) → m_then ≡ meta_after_loss m disk → disk < m.setup.geometry.disks → named_out m.out ≡ Some disk
    → (slot_then disk).power ≡ Absent → ((d : ℕ) → d < m.setup.geometry.disks → is_present (slot_then d).power ≡ false → named_out m_then.out ≡ Some d) → (t : Trail) → told_then ≡ Some t → IsMarkedBy (now t).power m m_then
gone_told told_then slot_then agrees m m_then disk is low named away names t tells =
    let power = (agrees t tells).power in
    record {
      lost = Some disk;
      is = is ∙ ap (λ (z : Meta). record (meta_after_loss m disk) { epoch = z.epoch; writes = z.writes }) (sym is);
      disk = λ d lost. let z : Some disk ≡ Some d = lost in subst (λ (x : ℕ). x < m.setup.geometry.disks) (let same : disk ≡ d = cc in same) low;
      alone = λ d x lost was. let z : Some x ≡ Some d = sym was ∙ named ∙ lost in let same : x ≡ d = cc in same;
      absent = λ d lost. let z : Some disk ≡ Some d = lost in subst (λ (x : ℕ). is_present ((now t).power x) ≡ false) (let same : disk ≡ d = cc in same) (ap is_present (power disk ∙ away));
      named = λ d below gone. names d below (ap is_present (sym (power d)) ∙ gone);
      fresh = λ d u out. let z : Gone disk ≡ Fresh d u = sym (ap (λ (y : Meta). y.out) is) ∙ out in cc;
    }

-- and where none was, the meta is as it was
pub same_told : (told_then : Option Trail) (slot_then : ℕ → Slot) → ((t : Trail) → told_then ≡ Some t → Agrees (now t) slot_then) → (m m_then : Meta) → m_then ≡ m → ((d : ℕ) → d < m.setup.geometry.disks → is_present (slot_then d).power ≡ false → named_out m_then.out ≡ Some d)
    → ((d u : ℕ) → m_then.out ≡ Fresh d u → is_present (slot_then d).power ≡ true) → (t : Trail) → told_then ≡ Some t → IsMarkedBy (now t).power m m_then
same_told told_then slot_then agrees m m_then is names there t tells =
    let power = (agrees t tells).power in
    record {
      lost = None;
      is = is ∙ ap (λ (z : Meta). record m { epoch = z.epoch; writes = z.writes }) (sym is);
      disk = λ d lost. let z : None ≡ Some d = lost in cc;
      alone = λ d x lost was. let z : None ≡ Some d = lost in cc;
      absent = λ d lost. let z : None ≡ Some d = lost in cc;
      named = λ d below gone. names d below (ap is_present (sym (power d)) ∙ gone);
      fresh = λ d u out. ap is_present (power d) ∙ there d u out;
    }

-- parts of an event with room for more commits, and one after the other
pub steps_within : (told told_then : Option Trail) (k k_then : Service) (h : History) (lo most bound : ℕ) → most ≤ bound → Ran told told_then (StepsInEvent k k_then h lo most) → Ran told told_then (StepsInEvent k k_then h lo bound)
steps_within told told_then k k_then h lo most bound le ran = ran_then (StepsInEvent k k_then h lo most) (StepsInEvent k k_then h lo bound) (λ s cs x. goes_bound k k_then h lo most bound le s cs x) told told_then ran

pub steps_then : (told mid told_then : Option Trail) (k j k_then : Service) (h : History) (lo most more : ℕ) → Ran told mid (StepsInEvent k j h lo most) → Ran mid told_then (StepsInEvent j k_then h lo more) → Ran told told_then (StepsInEvent k k_then h lo (most + more))
steps_then told mid told_then k j k_then h lo most more one two = ran_both (StepsInEvent k j h lo most) (StepsInEvent j k_then h lo more) (StepsInEvent k k_then h lo (most + more)) (λ s cs ds x y. follow k j k_then h lo most more s cs ds x y) told mid told_then one two
