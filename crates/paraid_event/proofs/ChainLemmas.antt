-- At each moment of the calls of an event: what is held, what stands, and that each call is allowed.
use Rattle.std.proofs.Common.{Bool, ◌≡◌, ℕ, ◌+◌, ◌<◌, ◌≤◌, ◌⊎◌, false, List, [], ◌∷◌, Option, Some, None, refl, sym, ap, ◌∙◌, inl, inr, subst, arith}
use Rattle.std.proofs.lemmas.Bool.{false≢true}
use Rattle.paraid_base.specs.History.{History}
use Rattle.paraid_base.specs.States.{gone_out, named_out}
use Rattle.paraid_rack.specs.declared.call.Call.{Call}
use Rattle.paraid_rack.specs.declared.call.Call.TheVariants.{Read, Write, Sync, Park, SpinUp, Attach}
use Rattle.paraid_rack.specs.Disks.{Disks, IsImage, IsPresent, is_present, lose, step}
use Rattle.paraid_rack.specs.Lawful.{IsLawful}
use Rattle.paraid_rack.specs.Told.{Through}
use Rattle.paraid_rack.specs.Calls.{IsTransfer}
use Rattle.paraid_record.specs.declared.meta.Meta.{Meta}
use Rattle.paraid_record.specs.declared.meta.Setup.{Setup}
use Rattle.paraid_image.specs.Calls.{disk_of, is_attach}
use Rattle.paraid_image.specs.Looked.{IsLooked}
use Rattle.paraid_image.specs.Looked.IsLooked.{lost, whole}
use Rattle.paraid_image.specs.Sides.{Batch, LogState}
use Rattle.paraid_image.specs.Standing.{Stands}
use Rattle.paraid_image.proofs.StandingLemmas.{Stands-same}
use Rattle.paraid_moves.specs.Copying.{IsCopying}
use Rattle.paraid_core.specs.Calls.{IsDataCall, IsPastLog, IsTransferCall}
use Rattle.paraid_core.specs.CoreInvariant.{IsHeldWithOneMissing}
use Rattle.paraid_session.specs.Watch.{Bounds, Each, HoldsWhileServing, IsAllowed, IsAmongDown, IsHeldWhileServing, IsServing, Watch, watch, watch_all}
use Rattle.paraid_session.proofs.LayerLemmas.{IsHeldMissing, each_both, each_held, each_map}
use Rattle.paraid_recover.specs.StartCalls.{IsSpinUpRecorded}
use Rattle.paraid_recover.specs.RecordedSpins.{IsWithinBoundsAt, StaysWithin, StaysWithinAt}
use Rattle.paraid_recover.proofs.CallsLemmas.{each_map as each_call_map}
use Rattle.paraid_recover.proofs.DownLemmas.{in_absent, in_stays, several_in}
use Rattle.paraid_recover.proofs.SpinsLemmas.{looked_power}
use Rattle.paraid_recover.proofs.StartStillLemmas.{each_still}
use Rattle.paraid_txn.specs.Commit.{ImageStandsFor, IsEitherMissing, IsOldOrNew, IsOneMissing}
use Rattle.paraid_txn.specs.Uses.{EachCall}
use Rattle.paraid_event.specs.Service.{Service}
use Rattle.paraid_event.specs.Stands.{IsRecordedBy, StandsIn}
use Rattle.paraid_event.proofs.LogsLemmas.{IsLogHeld, held_only, held_self, log_held, power_at}
use Rattle.paraid_event.proofs.MarksLemmas.{gone_is_named}

-- what each call keeps holds at each moment, and at the end
module _ (P : Call → Type 0) (I : Watch → Type 0) (keeps : (v : Watch) (c : Call) → IsLawful v.disks c → P c → I v → I (watch c v)) where
  pub kept_each : (w : Watch) (cs : List Call) → EachCall P w.disks cs → I w → Each I (λ (v : Watch) (c : Call). Unit {0}) w cs
  kept_each w [] each i = i
  kept_each w (c ∷ cs) each i = (i, tt, kept_each (watch c w) cs each.2 (keeps w c each.0 each.1 i))

  pub kept_end : (w : Watch) (cs : List Call) → EachCall P w.disks cs → I w → I (watch_all cs w)
  kept_end w [] each i = i
  kept_end w (c ∷ cs) each i = kept_end (watch c w) cs each.2 (keeps w c each.0 each.1 i)

pub past_transfer : (c : Call) → IsPastLog c → IsTransfer c
past_transfer (Read d p done) past = tt
past_transfer (Write d p b done) past = tt
past_transfer (Sync d done) past = tt
past_transfer (Park d done) past = absurd past
past_transfer (SpinUp d done) past = absurd past
past_transfer (Attach d size done) past = absurd past

pub no_attach : (c : Call) → IsTransfer c → is_attach c ≡ false
no_attach (Read d p done) is = refl
no_attach (Write d p b done) is = refl
no_attach (Sync d done) is = refl
no_attach (Park d done) is = absurd is
no_attach (SpinUp d done) is = absurd is
no_attach (Attach d size done) is = absurd is

no_spin : (c : Call) → IsTransfer c → (d : ℕ) (done : Bool) → c ≡ SpinUp d done → ⊥
no_spin (Read e p ok) is d done made = let z : Read e p ok ≡ SpinUp d done = made in cc
no_spin (Write e p b ok) is d done made = let z : Write e p b ok ≡ SpinUp d done = made in cc
no_spin (Sync e ok) is d done made = let z : Sync e ok ≡ SpinUp d done = made in cc
no_spin (Park e ok) is d done made = absurd is
no_spin (SpinUp e ok) is d done made = absurd is
no_spin (Attach e size ok) is d done made = absurd is

pub data_transfer : (n : ℕ) (gone : Option ℕ) (c : Call) → IsDataCall n gone c → IsTransferCall n gone c
data_transfer n out c is = (is.0, is.1, past_transfer c is.2)

transfer_power : (s : Disks) (c : Call) (x : ℕ) → IsTransfer c → IsPresent (step c s) x → (step c s).power x ≡ s.power x
unfolding step
transfer_power s (Read e p done) x is here = power_at s.power e x done here
transfer_power s (Write e p b done) x is here = power_at s.power e x done here
transfer_power s (Sync e done) x is here = power_at s.power e x done here
transfer_power s (Park e done) x is here = absurd is
transfer_power s (SpinUp e done) x is here = absurd is
transfer_power s (Attach e size done) x is here = absurd is

transfer_spun : (v : Watch) (c : Call) (d : ℕ) → IsTransfer c → (watch c v).spun d ≡ v.spun d
transfer_spun v (Read e p done) d is = refl
transfer_spun v (Write e p b done) d is = refl
transfer_spun v (Sync e done) d is = refl
transfer_spun v (Park e done) d is = absurd is
transfer_spun v (SpinUp e done) d is = absurd is
transfer_spun v (Attach e size done) d is = absurd is

awaited_same : (o : Option ℕ) (v : Watch) (c : Call) → v.awaited ≡ o → IsTransfer c → (watch c v).awaited ≡ o
awaited_same None v c at is = rw at refl
awaited_same (Some d) v (Read e p done) at is = rw at refl
awaited_same (Some d) v (Write e p b done) at is = rw at refl
awaited_same (Some d) v (Sync e done) at is = rw at refl
awaited_same (Some d) v (Park e done) at is = absurd is
awaited_same (Some d) v (SpinUp e done) at is = absurd is
awaited_same (Some d) v (Attach e size done) at is = absurd is

-- What reads, writes and syncs leave as it was.
pub record Follows (n : ℕ) (w v : Watch) : Type 0 where
  pub power : (d : ℕ) → IsPresent v.disks d → v.disks.power d ≡ w.disks.power d
  pub absent : (d : ℕ) → d < n → is_present (v.disks.power d) ≡ false → IsAmongDown v.down d
  pub down : (d : ℕ) → IsAmongDown w.down d → IsAmongDown v.down d
  pub spun : (d : ℕ) → v.spun d ≡ w.spun d
  pub awaited : v.awaited ≡ w.awaited

pub follows_self : (n : ℕ) (w : Watch) → ((d : ℕ) → d < n → is_present (w.disks.power d) ≡ false → IsAmongDown w.down d) → Follows n w w
follows_self n w absent = record { power = λ d h. refl; absent = absent; down = λ d i. i; spun = λ d. refl; awaited = refl }

pub follows_step : (n : ℕ) (w v : Watch) (c : Call) → IsTransfer c → Follows n w v → Follows n w (watch c v)
follows_step n w v c is f = record {
  power = λ d here. let e = transfer_power v.disks c d is here in e ∙ f.power d (ap is_present (sym e) ∙ here);
  absent = λ d low gone. in_absent v (c ∷ []) d (f.absent d low) gone;
  down = λ d i. in_stays v (c ∷ []) d (f.down d i);
  spun = λ d. transfer_spun v c d is ∙ f.spun d;
  awaited = awaited_same w.awaited v c f.awaited is;
}

-- and the log, where no block of it is written
pub record FollowsLog (n : ℕ) (w v : Watch) : Type 0 where
  pub follows : Follows n w v
  pub logs : (x : ℕ) → IsLogHeld w.disks v.disks x

pub follows_log_step : (n : ℕ) (w v : Watch) (c : Call) → IsPastLog c → FollowsLog n w v → FollowsLog n w (watch c v)
follows_log_step n w v c past f = record { follows = follows_step n w v c (past_transfer c past) f.follows; logs = λ x. log_held w.disks v.disks c x past (f.logs x) }

through_map : (P Q : Disks → Type 0) → ((s : Disks) → P s → Q s) → (s : Disks) (cs : List Call) → Through P s cs → Through Q s cs
through_map P Q f s [] p = f s p
through_map P Q f s (c ∷ cs) p = (f s p.0, through_map P Q f (step c s) cs p.1)

-- at each moment both
each_through : (P : Disks → Type 0) (A : Watch → Call → Type 0) (Q : Watch → Type 0) (w : Watch) (cs : List Call) → Through P w.disks cs → Each Q A w cs → Each (λ (v : Watch). P v.disks × Q v) A w cs
each_through P A Q w [] p q = (p, q)
each_through P A Q w (c ∷ cs) p q = ((p.0, q.0), q.1, each_through P A Q (watch c w) cs p.1 q.2)

held_missing : (slots n : ℕ) (out : Option ℕ) (h : History) (lo : ℕ) (s : Disks) → ((d : ℕ) → out ≡ Some d → d < n) → IsHeldWithOneMissing slots n out h lo s → IsHeldMissing slots n out h lo s
held_missing slots n out h lo s low is = record {
  held = λ down covers. is.held down
      (λ d below gone. covers d (record { disk = below; is = inl gone }))
      (λ d named. covers d (record { disk = low d named; is = inr named }));
}

module _ (k : Service) (h : History) (lo : ℕ) (base : Meta) (w : Watch) (at : StandsIn k h lo base w) where
  abbrev n : ℕ
  n = k.meta.setup.geometry.disks

  abbrev skip : Option ℕ
  skip = gone_out k.meta.out

  pub base_names : (d : ℕ) → named_out base.out ≡ Some d → named_out k.meta.out ≡ Some d
  base_names d is = at.stays d (sym at.keeps.named_by ∙ ap (λ (m : Meta). named_out m.out) at.is_base ∙ is)

  pub base_setup : base.setup ≡ k.meta.setup
  base_setup = ap (λ (m : Meta). m.setup) (sym at.is_base) ∙ sym at.keeps.next.setup

  abbrev many : 3 ≤ n
  many = k.meta.setup.geometry.disks_low

  pub start_follows : Follows n w w
  start_follows = follows_self n w at.absent_down

  pub start_follows_log : FollowsLog n w w
  start_follows_log = record { follows = start_follows; logs = λ x. held_self w.disks x }

  -- while no block of the log is written the meta stands
  pub only_base : (v : Watch) → FollowsLog n w v → IsServing v.down → (x : ℕ) (i : Disks) (said : LogState) → IsLooked v.disks i → Stands i x said → said.meta ≡ base
  only_base v f serving x i said looked stands =
      held_only w.disks v.disks base at.keeps.held (subst (λ (m : Meta). IsCopying w.disks m at.keeps.held) at.is_base at.keeps.copies.copying) f.logs
      (IsAmongDown v.down) (λ d e one two. several_in v.down d e serving one two)
      (λ y low gone. f.follows.absent y (omega (arith, low, many)) gone)
      (λ d named. f.follows.down d (at.named_down d (base_names d named))) x i said looked stands

  module _ (b : Bounds) (setup : k.meta.setup ≡ b.setup) (ticks : k.meta.ticks ≤ b.ticks) where
    base_within : (v : Watch) → Follows n w v → base.epoch ≤ b.epoch → (i : Disks) → IsLooked v.disks i → IsWithinBoundsAt b w.spun w.disks i base
    base_within v f epoch i looked = record {
      same_setup = base_setup ∙ setup;
      in_time = epoch;
      counted_ticks = let l = at.ticks in omega (arith, l, ticks);
      recorded = λ d low here not.
          let there = looked_power v.disks i d looked here in
          let was = f.power d (ap is_present (sym there) ∙ here) in
          at.recorded d (subst (λ (z : Setup). d < z.geometry.disks) (sym setup) low) (ap is_present (sym was) ∙ ap is_present (sym there) ∙ here) (λ gone. not (gone_is_named base.out d gone));
    }

    -- so is what stands, where no block of the log is written
    pub data_within : (cs : List Call) → base.epoch ≤ b.epoch → EachCall (IsDataCall n skip) w.disks cs → Each (StaysWithinAt b w.spun w.disks) (λ (v : Watch) (c : Call). Unit {0}) w cs
    data_within cs epoch calls =
        each_map (FollowsLog n w) (StaysWithinAt b w.spun w.disks) (λ (v : Watch) (c : Call). Unit {0}) (λ (v : Watch) (c : Call). Unit {0})
        (λ v f serving x i said looked stands. subst (IsWithinBoundsAt b w.spun w.disks i) (sym (only_base v f serving x i said looked stands)) (base_within v f.follows epoch i looked))
        (λ v c u. u) w cs
        (kept_each (IsDataCall n skip) (FollowsLog n w) (λ v c lawful is f. follows_log_step n w v c is.2 f) w cs calls start_follows_log)

    -- each call is allowed, where the spin-ups are recorded
    allowed_each : (asked : Option ℕ) (v : Watch) (cs : List Call) → Follows n w v → EachCall (IsTransferCall n skip) v.disks cs → Each (λ (v : Watch). Unit {0}) (λ (v : Watch) (c : Call). IsSpinUpRecorded v c → IsAllowed b.setup asked v c) v cs
    allowed_each asked v [] f calls = tt
    allowed_each asked v (c ∷ cs) f calls = (
      tt,
      (λ recorded. record {
        disk = subst (λ (z : Setup). disk_of c < z.geometry.disks) setup calls.1.0;
        power = calls.0;
        attach = λ d size done is. absurd (false≢true (sym (no_attach c calls.1.2) ∙ ap is_attach is));
        awaited = λ is. absurd (calls.1.1 (at.awaited (disk_of c) (sym f.awaited ∙ is)));
        serving = λ d done made. absurd (no_spin c calls.1.2 d done made);
        recorded = recorded.recorded;
      }),
      allowed_each asked (watch c v) cs (follows_step n w v c calls.1.2 f) calls.2,
    )

    -- What a session asks of each moment, where what stands is within the bounds.
    pub transfer_each : (asked : Option ℕ) (cs : List Call) (out : Option ℕ) (g : History) (low : ℕ) → ((d : ℕ) → out ≡ Some d → (d < n) × IsAmongDown w.down d) → EachCall (IsTransferCall n skip) w.disks cs
        → Through (IsHeldWithOneMissing k.slots n out g low) w.disks cs → Each (StaysWithinAt b w.spun w.disks) (λ (v : Watch) (c : Call). Unit {0}) w cs
        → Each (HoldsWhileServing k.slots g low b) (IsAllowed b.setup asked) w cs
    transfer_each asked cs out g low outs calls through within =
        let still = each_still b w.spun w.disks w cs (λ d. refl) (λ d h. refl) (each_call_map (IsTransferCall n skip) IsTransfer (λ c is. is.2) w.disks cs calls) within in
        let held = each_held k.slots n out g low w cs (through_map _ (IsHeldMissing k.slots n out g low) (λ s is. held_missing k.slots n out g low s (λ d named. (outs d named).0) is) w.disks cs through)
        (λ d missing. elim missing.is [ inl gone ↦ at.absent_down d missing.disk gone | inr named ↦ (outs d named).1 ]) in
        let allowed = allowed_each asked w cs start_follows calls in
        each_map _ (HoldsWhileServing k.slots g low b) _ (IsAllowed b.setup asked)
        (λ v is. record { held = is.0; within = is.1.0 })
        (λ v c is. is.1.1 is.1.0) w cs
        (each_both (λ (v : Watch). IsHeldWhileServing k.slots v.disks g low v.down) (λ (v : Watch). StaysWithin b v × Unit {0})
        (λ (v : Watch) (c : Call). Unit {0}) (λ (v : Watch) (c : Call). IsSpinUpRecorded v c × (IsSpinUpRecorded v c → IsAllowed b.setup asked v c)) w cs held
        (each_both (StaysWithin b) (λ (v : Watch). Unit {0}) IsSpinUpRecorded (λ (v : Watch) (c : Call). IsSpinUpRecorded v c → IsAllowed b.setup asked v c) w cs still allowed))

stood : (start i : Disks) (m : Meta) (batch : Batch) (x : ℕ) (said : LogState) → ImageStandsFor start i m batch → Stands i x said → said.meta ≡ m
stood start i m batch x said is stands = ap (λ (z : LogState). z.meta) (Stands-same i x is.disk said is.said stands is.log.stands).1 ∙ is.meta

-- In a commit what stands is the meta of the last one or the next one, `next`, with a batch laid over.
module _ (k : Service) (h : History) (lo : ℕ) (base : Meta) (w : Watch) (at : StandsIn k h lo base w) (next : Meta) (batch : Batch) (next_setup : next.setup ≡ k.meta.setup) (next_down : (d : ℕ) → named_out next.out ≡ Some d → IsAmongDown w.down d) where
  in_of : (v : Watch) → Follows k.meta.setup.geometry.disks w v → (i : Disks) → ((d : ℕ) → is_present (i.power d) ≡ false → is_present (v.disks.power d) ≡ false) → (d : ℕ) → IsEitherMissing i.power base next d → IsAmongDown v.down d
  in_of v f i off d missing = elim missing [
    | inl was ↦ elim was.is [
      | inl gone ↦ f.absent d (subst (λ (z : Setup). d < z.geometry.disks) (base_setup k h lo base w at) was.disk) (off d gone)
      | inr named ↦ f.down d (at.named_down d (base_names k h lo base w at d named))
    ]
    | inr then_missing ↦ elim then_missing.is [
      | inl gone ↦ f.absent d (subst (λ (z : Setup). d < z.geometry.disks) next_setup then_missing.disk) (off d gone)
      | inr named ↦ f.down d (next_down d named)
    ]
  ]

  one_missing : (v : Watch) → Follows k.meta.setup.geometry.disks w v → IsServing v.down → (i : Disks) → IsImage v.disks i → IsOneMissing i.power base next
  one_missing v f serving i image = record {
    one = λ d e a b. several_in v.down d e serving
        (in_of v f i (λ x gone. ap is_present (sym (image.power x)) ∙ gone) d a)
        (in_of v f i (λ x gone. ap is_present (sym (image.power x)) ∙ gone) e b);
  }

  pub next_stands : (v : Watch) → Follows k.meta.setup.geometry.disks w v → IsOldOrNew w.disks base next batch v.disks → IsServing v.down → (x : ℕ) (i : Disks) (said : LogState) → IsLooked v.disks i → Stands i x said
      → (said.meta ≡ base) ⊎ (said.meta ≡ next)
  next_stands v f old serving x i said (whole image) stands = elim (old.images.whole i image (one_missing v f serving i image)) [
    | inl a ↦ inl (stood w.disks i base [] x said a stands)
    | inr b ↦ inr (stood w.disks i next batch x said b stands)
  ]
  next_stands v f old serving x i said (lost j d image may is) stands =
      let there = subst (λ (z : Disks). Stands z x said) (sym is) stands in
      elim (old.images.lost j d image (one_missing v f serving j image) may.weak) [
        | inl a ↦ inl (stood w.disks (lose d j) base [] x said a there)
        | inr b ↦ inr (stood w.disks (lose d j) next batch x said b there)
      ]

  module _ (next_recorded : (d : ℕ) → d < k.meta.setup.geometry.disks → IsRecordedBy next w d) (b : Bounds) (setup : k.meta.setup ≡ b.setup) (ticks : k.meta.ticks ≤ b.ticks) (next_ticks : next.ticks ≤ b.ticks) (next_epoch : next.epoch ≤ base.epoch + 1) where
    next_within : (v : Watch) → Follows k.meta.setup.geometry.disks w v → base.epoch + 1 ≤ b.epoch → (i : Disks) → IsLooked v.disks i → IsWithinBoundsAt b w.spun w.disks i next
    next_within v f epoch i looked = record {
      same_setup = next_setup ∙ setup;
      in_time = omega (arith, next_epoch, epoch);
      counted_ticks = next_ticks;
      recorded = λ d low here not.
          let there = looked_power v.disks i d looked here in
          let was = f.power d (ap is_present (sym there) ∙ here) in
          next_recorded d (subst (λ (z : Setup). d < z.geometry.disks) (sym setup) low) (ap is_present (sym was) ∙ ap is_present (sym there) ∙ here) (λ gone. not (gone_is_named next.out d gone));
    }

    pub commit_within_by : (cs : List Call) → base.epoch + 1 ≤ b.epoch → EachCall (IsTransferCall k.meta.setup.geometry.disks (gone_out k.meta.out)) w.disks cs → Through (IsOldOrNew w.disks base next batch) w.disks cs
        → Each (StaysWithinAt b w.spun w.disks) (λ (v : Watch) (c : Call). Unit {0}) w cs
    commit_within_by cs epoch calls through =
        each_map (λ (v : Watch). IsOldOrNew w.disks base next batch v.disks × Follows k.meta.setup.geometry.disks w v) (StaysWithinAt b w.spun w.disks) (λ (v : Watch) (c : Call). Unit {0}) (λ (v : Watch) (c : Call). Unit {0})
        (λ v z serving x i said looked stands. elim (next_stands v z.1 z.0 serving x i said looked stands) [
          | inl old ↦ subst (IsWithinBoundsAt b w.spun w.disks i) (sym old) (base_within k h lo base w at b setup ticks v z.1 (omega (arith, epoch)) i looked)
          | inr new ↦ subst (IsWithinBoundsAt b w.spun w.disks i) (sym new) (next_within v z.1 epoch i looked)
        ])
        (λ v c u. u) w cs
        (each_through (IsOldOrNew w.disks base next batch) (λ (v : Watch) (c : Call). Unit {0}) (Follows k.meta.setup.geometry.disks w) w cs through
        (kept_each (IsTransferCall k.meta.setup.geometry.disks (gone_out k.meta.out)) (Follows k.meta.setup.geometry.disks w) (λ v c lawful is f. follows_step k.meta.setup.geometry.disks w v c is.2 f) w cs calls (start_follows k h lo base w at)))

-- So it is with all that its core has staged.
module _ (k : Service) (h : History) (lo : ℕ) (base : Meta) (w : Watch) (at : StandsIn k h lo base w) where
  abbrev after : Meta
  after = record k.meta { epoch = k.meta.epoch + 1 }

  pub either_stands : (v : Watch) → Follows k.meta.setup.geometry.disks w v → IsOldOrNew w.disks base after k.batch v.disks → IsServing v.down → (x : ℕ) (i : Disks) (said : LogState) → IsLooked v.disks i → Stands i x said
      → (said.meta ≡ base) ⊎ (said.meta ≡ after)
  either_stands v f old serving x i said looked stands = next_stands k h lo base w at after k.batch refl at.named_down v f old serving x i said looked stands

  pub commit_within : (b : Bounds) → k.meta.setup ≡ b.setup → k.meta.ticks ≤ b.ticks → (cs : List Call) → base.epoch + 1 ≤ b.epoch → EachCall (IsTransferCall k.meta.setup.geometry.disks (gone_out k.meta.out)) w.disks cs → Through (IsOldOrNew w.disks base after k.batch) w.disks cs
      → Each (StaysWithinAt b w.spun w.disks) (λ (v : Watch) (c : Call). Unit {0}) w cs
  commit_within b setup ticks cs epoch calls through =
      commit_within_by k h lo base w at after k.batch refl at.named_down at.recorded_next b setup ticks ticks (let e = at.keeps.epoch in let z = ap (λ (m : Meta). m.epoch) at.is_base in omega (arith, e, z)) cs epoch calls through
