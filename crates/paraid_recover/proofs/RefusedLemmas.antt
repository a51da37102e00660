-- The end of a mount that is refused.
use Rattle.std.proofs.Common.{◌≡◌, ◌≢◌, ℕ, ◌-◌, ◌<◌, ◌≤◌, ◌⊎◌, true, false, List, [], ◌∷◌, ◌++◌, Option, Some, None, sym, ap, ◌∙◌, inl, inr, subst, arith, zero, suc}
use Rattle.std.proofs.lemmas.Bool.{cases_eq, false≢true}
use Rattle.paraid_base.specs.declared.fault.Two.{Two}
use Rattle.paraid_base.specs.History.{History}
use Rattle.paraid_base.specs.Log.{worn_at}
use Rattle.paraid_rack.specs.Calls.{AreReads}
use Rattle.paraid_rack.specs.declared.call.Call.{Call}
use Rattle.paraid_rack.specs.declared.call.Call.TheVariants.{Read, Write, Sync, Park, SpinUp, Attach}
use Rattle.paraid_rack.specs.declared.call.Power.{Power}
use Rattle.paraid_rack.specs.declared.call.Power.TheVariants.{Absent, Spinning}
use Rattle.paraid_rack.specs.Disks.{Disks, is_present, step}
use Rattle.paraid_rack.specs.Slots.{Agrees, Slot}
use Rattle.paraid_rack.specs.Trail.{Trail, now, run}
use Rattle.paraid_record.specs.declared.meta.Setup.{Setup}
use Rattle.paraid_image.specs.HeldAt.{IsHeld}
use Rattle.paraid_image.specs.Out.{named_out}
use Rattle.paraid_image.specs.Rest.{AreSynced}
use Rattle.paraid_image.specs.RunStart.{IsRunStart}
use Rattle.paraid_image.specs.Sides.{Batch, LogState, is_open, stored_block}
use Rattle.paraid_image.specs.Standing.{Stands, other_log}
use Rattle.paraid_recover.specs.declared.mount_fault.MountFault.{MountFault}
use Rattle.paraid_recover.specs.declared.mount_fault.MountFault.TheVariants.{NotFormatted, BadLog, BadMeta, Size, Power as Asleep, Two as BothMissing, Worn, NoMemory}
use Rattle.paraid_recover.specs.Examined.{IsExamined, IsRefused, IsRefusedByLogs, IsRefusedBySlots, Logs}
use Rattle.paraid_recover.specs.Examined.IsRefused.{by_slots, by_loss, as_heard}
use Rattle.paraid_recover.specs.Examined.IsRefusedAsHeard.{by_logs, by_meta}
use Rattle.paraid_recover.specs.Examined.IsRefusedByLogs.{by_sides, by_itself, unpaired}
use Rattle.paraid_recover.specs.Examined.IsRefusedBySlots.{asleep, few}
use Rattle.paraid_recover.proofs.ExaminedLogLemmas.{unpaired_worn, worn_stands}
use Rattle.paraid_recover.proofs.WearLemmas.{refused_for_wear}
use Rattle.paraid_session.specs.Mount.{IsBase, IsCauseOutsideDisks, Refusal, lacking, no_memory, start_watch, worn}
use Rattle.paraid_session.specs.Watch.{Down, IsAmongDown, IsServing, Watch, watch_all}
use Rattle.paraid_recover.specs.declared.hearing.Heard.{Heard}
use Rattle.paraid_recover.specs.HeardSides.{IsHeardAt, IsHeardBy, IsOneLost, ReadsLogs}
use Rattle.paraid_recover.specs.HeardSides.IsOneLost.{none, one}
use Rattle.paraid_recover.specs.StartParts.{EndsRefused}
use Rattle.paraid_recover.specs.StartRefusals.{refusal_by_fault}
use Rattle.paraid_recover.proofs.DownLemmas.{absent_weak, in_absent, in_stays, several_in, weak_in}
use Rattle.paraid_recover.proofs.ForeseenLemmas.{named_down}
use Rattle.paraid_recover.proofs.StartReadsLemmas.{reads_synced}
use Rattle.paraid_recover.proofs.ReadWithinLemmas.{beside, held}
use Rattle.paraid_recover.proofs.SetupLemmas.{setup_kept}
use Rattle.paraid_recover.specs.Witness.{IsWitnessRefusal}
use Rattle.paraid_recover.specs.Witness.IsWitnessRefusal.{opened as witness_open, lost as witness_lost}
use Rattle.paraid_recover.proofs.WitnessLemmas.{not_witnessed}
use Rattle.paraid_recover.proofs.StoryLemmas.{down_append, serving_before}
use Rattle.paraid_txn.specs.Losses.{AreGoneSince, IsGoneSince, IsOutOfCommit}
use Rattle.paraid_txn.specs.Losses.IsOutOfCommit.{is_absent, is_named, was_named}
use Rattle.paraid_txn.specs.Uses.{EachCall}

are_reads : (s : Disks) (cs : List Call) → EachCall ReadsLogs s cs → AreReads cs
are_reads s [] each = tt
are_reads s (Read d p done ∷ cs) each = (tt, are_reads (step (Read d p done) s) cs each.2)
are_reads s (Write d p b done ∷ cs) each = absurd each.1
are_reads s (Sync d done ∷ cs) each = absurd each.1
are_reads s (Park d done ∷ cs) each = absurd each.1
are_reads s (SpinUp d done ∷ cs) each = absurd each.1
are_reads s (Attach d size done ∷ cs) each = absurd each.1

-- only wear is told as wear
refusal_worn : (fault : MountFault) (k : ℕ) → refusal_by_fault fault ≡ worn k → fault ≡ Worn k
refusal_worn NotFormatted k is = absurd (let z : lacking ≡ worn k = is in cc)
refusal_worn (BadLog d) k is = absurd (let z : lacking ≡ worn k = is in cc)
refusal_worn (BadMeta d) k is = absurd (let z : lacking ≡ worn k = is in cc)
refusal_worn (Size d found needed) k is = absurd (let z : lacking ≡ worn k = is in cc)
refusal_worn (Asleep d) k is = absurd (let z : lacking ≡ worn k = is in cc)
refusal_worn (BothMissing two) k is = absurd (let z : lacking ≡ worn k = is in cc)
refusal_worn (Worn count) k is = ap Worn (let z : worn count ≡ worn k = is in cc)
refusal_worn NoMemory k is = absurd (let z : no_memory ≡ worn k = is in cc)

slots_worn : (count : ℕ) (slot : ℕ → Slot) (c : ℕ) → IsRefusedBySlots count slot (Worn c) → ⊥
slots_worn count slot c (asleep x least is) = cc
slots_worn count slot c (few awake low is) = cc

logs_worn : (logs : Logs) (c : ℕ) → IsRefusedByLogs logs (Worn c) → ⊥
logs_worn logs c (by_sides never) = never
logs_worn logs c (by_itself all x said stands name is) = cc
logs_worn logs c (unpaired all x said stands live pair is) = unpaired_worn pair.first.opened pair.second.opened (1 - x) c is

worn_many : (count : ℕ) (old new : ℕ → Slot) (told : Option Trail) (c : ℕ) → IsRefused count old new told (Worn c) → worn_at ≤ c
worn_many count old new told c (by_slots refused same) = absurd (slots_worn count old c refused)
worn_many count old new told c (by_loss readable two both is) = absurd (let z : Worn c ≡ BothMissing two = is in cc)
worn_many count old new told c (as_heard readable lost logs are (by_logs refused)) = absurd (logs_worn logs c refused)
worn_many count old new told c (as_heard readable lost logs are (by_meta y other agreed refused)) = refused.2

module _ (slots : ℕ) (s : Disks) (h : History) (lo : ℕ) (down : Option ℕ) (start : IsRunStart slots s h lo down) (x : ℕ) (said : LogState) (stood : Stands s x said)
    (base : ℕ → ℕ) (rs : List Call) (each : EachCall ReadsLogs s rs) where
  -- for want of memory
  pub without_memory : EndsRefused s down base rs no_memory
  without_memory = record {
    synced = λ serving. reads_synced s rs each start.synced;
    cause = λ serving. tt;
    worn_out = λ k is. absurd (let z : no_memory ≡ worn k = is in cc);
  }

  module _ (t : Trail) (t_is : now t ≡ run s rs) (told : Option Trail) (tells : told ≡ Some t) (old new : ℕ → Slot) (agrees : Agrees (now t) new) (fault : MountFault)
      (refused : IsRefused slots old new told fault) (ticks : ℕ) (is_base : IsBase s x said base ticks) where
    -- by what the reads found
    pub after_reads : EndsRefused s down base rs (refusal_by_fault fault)
    after_reads = record {
      synced = λ serving. reads_synced s rs each start.synced;
      cause = λ serving.
          let wear = refused_for_wear slots old new told t fault h lo (beside slots s h lo down start x said stood base ticks is_base rs each serving).0 tells agrees
          (subst (λ (u : Disks). AreSynced u) (sym t_is) (reads_synced s rs each start.synced))
          (subst (λ (u : Disks). IsHeld slots u h lo (beside slots s h lo down start x said stood base ticks is_base rs each serving).0) (sym t_is) (held slots s h lo down start x said stood base ticks is_base rs each serving))
          refused in
          subst (λ (f : MountFault). IsCauseOutsideDisks (refusal_by_fault f)) (sym wear.1) tt;
      worn_out = λ k is.
          let worn_is = subst (IsRefused slots old new told) (refusal_worn fault k is) refused in
          record {
            reads = are_reads s rs each;
            many = worn_many slots old new told k worn_is;
            is = λ z o stands. (worn_stands slots old new told k worn_is t tells z o (subst (λ (u : Disks). Stands u z o) (sym t_is) stands)).0;
          };
    }

absent_now : (p : Power) → p ≡ Absent → is_present p ≡ false
absent_now p is = ap is_present is

-- a disk that is there after the reads was so before
there_before : (old read : ℕ → Slot) (d : ℕ) → IsOneLost old read → is_present (read d).power ≡ true → is_present (old d).power ≡ true
there_before old read d (none same) here = ap (λ (k : Slot). is_present k.power) (sym (same d)) ∙ here
there_before old read d (one x low spun failed others spins) here = elim (cases_eq d x) [
  | inl is ↦ absurd (false≢true (sym (absent_now (read d).power (ap (λ (k : ℕ). (read k).power) is ∙ failed.gone)) ∙ here))
  | inr apart ↦ ap (λ (k : Slot). is_present k.power) (sym (others d apart)) ∙ here
]

-- a log disk whose slot is absent is so where the record is told
heard_absent : (u : Disks) (z : ℕ) (o : Option Heard) (batch : Batch) (power : Power) → IsHeardAt u z o batch → IsHeardBy o power → power ≡ Absent → is_present (u.power z) ≡ false
heard_absent u z None batch power heard by is = heard
heard_absent u z (Some it) batch power heard by is = absurd (let k : Spinning ≡ Absent = sym by ∙ is in cc)

module _ (slots : ℕ) (s : Disks) (h : History) (lo : ℕ) (down : Option ℕ) (start : IsRunStart slots s h lo down) (x : ℕ) (said : LogState) (stood : Stands s x said)
    (base : ℕ → ℕ) (rs ls : List Call) (each : EachCall ReadsLogs s rs) (side : ℕ) (then_said : LogState) (stands : Stands (run s rs) side then_said)
    (r : Trail) (r_is : now r ≡ run s rs) (told_read : Option Trail) (tells_read : told_read ≡ Some r) (old read new : ℕ → Slot) (agrees_old : Agrees s old)
    (end_disks : Disks) (end_is : end_disks ≡ run s (rs ++ ls)) (agrees : Agrees end_disks new) (count : ℕ) (examined : IsExamined count old read told_read side then_said) (two : Two)
    (gone : AreGoneSince (IsOutOfCommit (λ d. (read d).power) then_said.meta.setup.geometry.disks (named_out then_said.meta.out) None) read new two) (apart : two.first ≢ two.second) where
  abbrev watched : Watch
  watched = start_watch s down base

  module _ (serving : IsServing (watch_all (rs ++ ls) watched).down) where
    serving_reads : IsServing (watch_all rs watched).down
    serving_reads = serving_before (watch_all rs watched) ls (subst IsServing (down_append watched rs ls) serving)

    stays_in : (d : ℕ) → IsAmongDown (watch_all rs watched).down d → IsAmongDown (watch_all (rs ++ ls) watched).down d
    stays_in d is = subst (λ (k : Down). IsAmongDown k d) (sym (down_append watched rs ls)) (in_stays (watch_all rs watched) ls d is)

    -- one that is absent since has failed
    gone_in : (d : ℕ) → IsGoneSince read new d → IsAmongDown (watch_all (rs ++ ls) watched).down d
    gone_in d is =
        let here = ap is_present (agrees_old.power d) ∙ there_before old read d examined.lost is.there in
        in_absent watched (rs ++ ls) d (λ off. absurd (false≢true (sym off ∙ here)))
        (ap (λ (u : Disks). is_present (u.power d)) (sym end_is) ∙ ap is_present (agrees.power d) ∙ absent_now (new d).power is.absent)

    start_in : (d : ℕ) → d < said.meta.setup.geometry.disks → is_present (s.power d) ≡ false → IsAmongDown (watch_all rs watched).down d
    start_in d low off = in_stays watched rs d (weak_in slots s h lo down start d (absent_weak slots s h lo down start.synced start.held x said stood d low off))

    log_absent : (z : ℕ) → z < 2 → (read z).power ≡ Absent → is_present ((run s rs).power z) ≡ false
    log_absent zero low off = subst (λ (u : Disks). is_present (u.power 0) ≡ false) r_is
        (heard_absent (now r) 0 examined.logs.sides.first examined.logs.first (read 0).power (examined.heard.first r tells_read) examined.heard.first_power off)
    log_absent (suc zero) low off = subst (λ (u : Disks). is_present (u.power 1) ≡ false) r_is
        (heard_absent (now r) 1 examined.logs.sides.second examined.logs.second (read 1).power (examined.heard.second r tells_read) examined.heard.second_power off)
    log_absent (suc (suc z)) low off = absurd (omega (arith, low))

    off_in : (d : ℕ) → d < said.meta.setup.geometry.disks → (read d).power ≡ Absent → IsOneLost old read → IsAmongDown (watch_all rs watched).down d
    off_in d low off (none same) = start_in d low (ap is_present (agrees_old.power d) ∙ ap (λ (k : Slot). is_present k.power) (sym (same d)) ∙ absent_now (read d).power off)
    off_in d low off (one z few_z spun failed others spins) = elim (cases_eq d z) [
      | inl is ↦ in_absent watched rs d (λ gone_then. weak_in slots s h lo down start d (absent_weak slots s h lo down start.synced start.held x said stood d low gone_then))
          (log_absent d (subst (λ (k : ℕ). k < 2) (sym is) few_z) off)
      | inr not ↦ start_in d low (ap is_present (agrees_old.power d) ∙ ap (λ (k : Slot). is_present k.power) (sym (others d not)) ∙ absent_now (read d).power off)
    ]

    out_in : (d : ℕ) → IsOutOfCommit (λ e. (read e).power) then_said.meta.setup.geometry.disks (named_out then_said.meta.out) None d → IsAmongDown (watch_all (rs ++ ls) watched).down d
    out_in d (is_absent low off) = stays_in d (off_in d (subst (λ (z : Setup). d < z.geometry.disks) (setup_kept slots s h lo down start base rs each x said stood side then_said stands serving_reads) low) off examined.lost)
    out_in d (was_named name) = stays_in d (named_down slots s h lo down start x said stood base rs each side then_said stands serving_reads d name)
    out_in d (is_named name) = absurd (let z : None ≡ Some d = name in cc)

    two_are_down : ⊥
    two_are_down =
        let first = elim_first gone.first in
        apart (several_in (watch_all (rs ++ ls) watched).down two.first two.second serving first (gone_in two.second gone.second))
      where
        elim_first : (IsOutOfCommit (λ e. (read e).power) then_said.meta.setup.geometry.disks (named_out then_said.meta.out) None two.first ⊎ IsGoneSince read new two.first) → IsAmongDown (watch_all (rs ++ ls) watched).down two.first
        elim_first (inl out) = out_in two.first out
        elim_first (inr since) = gone_in two.first since

  -- because a second disk is down
  pub second_down : (why : Refusal) → why ≡ lacking → EndsRefused s down base (rs ++ ls) why
  second_down why is = record {
    synced = λ serving. absurd (two_are_down serving);
    cause = λ serving. absurd (two_are_down serving);
    worn_out = λ k worn_is. absurd (let z : lacking ≡ worn k = sym is ∙ worn_is in cc);
  }

-- by the witness
module _ (slots : ℕ) (s : Disks) (h : History) (lo : ℕ) (down : Option ℕ) (start : IsRunStart slots s h lo down) (x : ℕ) (said : LogState) (stood : Stands s x said)
    (base : ℕ → ℕ) (rs : List Call) (each : EachCall ReadsLogs s rs) (ticks : ℕ) (is_base : IsBase s x said base ticks) (t : Trail) (t_is : now t ≡ run s rs) (told : Option Trail) (tells : told ≡ Some t)
    (old new : ℕ → Slot) (agrees : Agrees (now t) new) (side : ℕ) (low : side < 2) (two : Two) where
  gone_at : (d : ℕ) → d < 3 → (new d).power ≡ Absent → IsAmongDown (watch_all rs (start_watch s down base)).down d
  gone_at d near off =
      let many = said.meta.setup.geometry.disks_low in
      in_absent (start_watch s down base) rs d (λ gone. weak_in slots s h lo down start d (absent_weak slots s h lo down start.synced start.held x said stood d (omega arith) gone))
      (ap (λ (u : Disks). is_present (u.power d)) (sym t_is) ∙ ap is_present (agrees.power d) ∙ absent_now (new d).power off)

  refuses_none : IsWitnessRefusal side old new told two → IsServing (watch_all rs (start_watch s down base)).down → ⊥
  refuses_none (witness_open gone other stands shown is) serving =
      not_witnessed slots (run s rs) h lo (beside slots s h lo down start x said stood base ticks is_base rs each serving).0 (reads_synced s rs each start.synced)
      (held slots s h lo down start x said stood base ticks is_base rs each serving) side other
      (subst (λ (u : Disks). Stands u side other) t_is (stands t tells)) (ap (λ (u : Disks). is_open (stored_block u 2 side)) (sym t_is) ∙ shown t tells)
  refuses_none (witness_lost gone failed is) serving =
      let same : other_log side ≡ 2 = several_in (watch_all rs (start_watch s down base)).down (other_log side) 2 serving (gone_at (other_log side) (omega arith) gone) (gone_at 2 (omega arith) failed.gone) in
      absurd (omega arith)

  pub witness_ends : IsWitnessRefusal side old new told two → (why : Refusal) → why ≡ lacking → EndsRefused s down base rs why
  witness_ends refuses why is = record {
    synced = λ serving. absurd (refuses_none refuses serving);
    cause = λ serving. absurd (refuses_none refuses serving);
    worn_out = λ k worn_is. absurd (let z : lacking ≡ worn k = sym is ∙ worn_is in cc);
  }
