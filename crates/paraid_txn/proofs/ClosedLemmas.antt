-- What an image stands for while the other log disk is closed over the meta that stands.
use Rattle.std.specs.Prelude.{◌≡◌, ◌≢◌, ◌⊎◌, ℕ, ◌<◌, ◌≤◌, Bool, true, false, not, [], Some, Contains, length, if◌then◌else◌}
use Rattle.std.proofs.Common.{refl, sym, ◌∙◌, ap, subst, arith, inl, inr}
use Rattle.std.proofs.lemmas.Bool.{cases_Bool, cases_eq, false≢true}
use Rattle.paraid_base.specs.declared.block.Block.{Block}
use Rattle.paraid_base.specs.Log.{batch_room, log_least}
use Rattle.paraid_base.specs.Xor.{zero_block}
use Rattle.paraid_rack.specs.declared.call.Power.TheVariants.{Absent, Spinning}
use Rattle.paraid_rack.specs.Disks.{Disks, IsPresent, is_present, lose}
use Rattle.paraid_rack.proofs.AtomsLemmas.{with_at_other, with_at_same}
use Rattle.paraid_record.specs.declared.meta.Meta.{Meta}
use Rattle.paraid_record.specs.declared.targets.Target.{Target}
use Rattle.paraid_record.specs.Range.{IsInRange}
use Rattle.paraid_record.specs.Targets.{IsTargetInRange}
use Rattle.paraid_image.specs.Rest.{AreLogGatesClosed, AreSynced}
use Rattle.paraid_txn.specs.Commit.{ImageStandsFor}
use Rattle.paraid_image.specs.Out.{IsMissing, named_out, out_disk}
use Rattle.paraid_txn.specs.Resume.{IsFallback, EndsResume, IsShutImage}
use Rattle.paraid_image.specs.Sides.{LogState, Says, SaysBy, Spells, closed_over, has_place, is_open, stored_block, targets}
use Rattle.paraid_image.specs.Sound.{IsBatchInPlace, IsFresh, LogOk, Pairing}
use Rattle.paraid_image.specs.Sound.Pairing.{alike, first_done, second_done}
use Rattle.paraid_txn.specs.CommitStages.{IsLiveLog, IsSpelled, Job, job_named}
use Rattle.paraid_image.specs.Standing.{Stands, contents, overlaid_block, other_log, stands_before}
use Rattle.paraid_txn.proofs.CommitLemmas.{closed_said}
use Rattle.paraid_image.proofs.NeutralLemmas.{few_logged, says_forth}
use Rattle.paraid_image.proofs.OutLemmas.{missing_is_out, out_present}
use Rattle.paraid_image.proofs.SidesLemmas.{Says-same}
use Rattle.paraid_txn.proofs.SpokenLemmas.{aside_said, aside_says, first_or_second, other_other, place_start, stands_alone, stands_over, stored_start}
use Rattle.paraid_txn.proofs.CommitImagesLemmas.{all_contained, log_in_order, none_in_empty, present_place}
use Rattle.paraid_image.proofs.ContentsLemmas.{contents_here}
use Rattle.paraid_image.proofs.CallLemmas.{decide_some, says_of_lost, zeroed_closed}
use Rattle.paraid_txn.proofs.WholeLemmas.{stored_here}
use Rattle.paraid_txn.proofs.ResumeImagesLemmas.{IsSingle, is_done}

-- The log disk that stands is closed

gate_shut : (there : Bool) (a : Block) → is_open a ≡ false → is_open (if there then a else zero_block) ≡ false
gate_shut true a shut = shut
gate_shut false a shut = zeroed_closed

pub stored_shut : (i : Disks) (z : ℕ) → is_open (i.block z 0) ≡ false → is_open (stored_block i z 0) ≡ false
unfolding stored_block
stored_shut i z shut = gate_shut (has_place i z 0) (i.block z 0) shut

module _ (j : Job) (good : IsSpelled j) (names : job_named j ≡ named_out j.meta.out) (x : ℕ) (live_x : IsLiveLog j x)
    (large : (z : ℕ) → IsLiveLog j z → IsPresent j.start z → log_least ≤ j.start.size z) (log : LogOk j.start x (closed_over j.meta) j.meta.writes) where
  abbrev other : ℕ
  other = other_log x

  abbrev shut : LogState
  shut = closed_over j.meta

  other_low : other < 2
  other_low = let l = live_x.0 in omega arith

  many : 3 ≤ j.meta.setup.geometry.disks
  many = j.meta.setup.geometry.disks_low

  x_or_other : (z : ℕ) → z < 2 → z ≢ x → z ≡ other
  x_or_other z lz apart = let l = live_x.0 in omega arith

  back : other_log other ≡ x
  back = other_other x live_x.0

  module _ (i : Disks) (c : IsShutImage j other i) where
    far_same : (d p : ℕ) → IsPresent i d → log_least ≤ p → i.block d p ≡ j.start.block d p
    far_same d p here far = c.rest d p here (λ _. omega arith)

    -- what the log disk that stood says
    x_says : IsPresent i x → Says i x shut
    x_says here = aside_says j i c.kept x here (λ p lt. c.rest x p here (λ e. let l = live_x.0 in absurd (omega arith))) shut log.stands.says

    -- what the other one says, if it is live: what it said, or this
    module _ (live : job_named j ≢ Some other) (here : IsPresent i other) where
      there : IsPresent j.start other
      there = c.kept.present other here

      at_start : (p : ℕ) → p < log_least → stored_block j.start other p ≡ j.start.block other p
      at_start p lt = let l = large other (other_low, live) there in stored_here j.start other p there (omega arith)

      at_now : (p : ℕ) → p < log_least → stored_block i other p ≡ i.block other p
      at_now p lt = let l = c.kept.large other (other_low, live) here in stored_here i other p here (omega arith)

      was : (o : LogState) × Says j.start other o × ((o ≡ shut) ⊎ IsBatchInPlace o shut)
      was =
          let out : named_out j.meta.out ≢ Some other = λ e. live (names ∙ e) in
          let f = log.formed other other_low there (out_present j.start.power j.meta other there out) in
          (f.0, f.1, is_done j.start x shut f.0 j.meta.writes log f.1 out refl)

      kept_says : (is_open (i.block other 0) ≡ is_open (j.start.block other 0)) → (is_open (i.block other 0) ≡ false → i.block other 1 ≡ j.start.block other 1) → Says i other was.0
      kept_says gate meta = says_forth j.start i other was.0 (record {
        power = c.kept.power other here;
        gate = ap is_open (at_now 0 (omega arith)) ∙ gate ∙ ap is_open (sym (at_start 0 (omega arith)));
        meta = λ closed. at_now 1 (omega arith) ∙ meta (gate ∙ ap is_open (sym (at_start 0 (omega arith))) ∙ closed) ∙ sym (at_start 1 (omega arith));
        rest = λ opened said says q lo hi.
            let few : length said.batch ≤ batch_room = elim says [
              | inl s ↦ few_logged said.opened (stored_block j.start other) said.meta said.batch s.log
              | inr s ↦ few_logged said.opened (stored_block i other) said.meta said.batch s.log
            ] in
            at_now q (omega arith) ∙ c.rest other q here (λ _. lo) ∙ sym (at_start q (omega arith));
      }) was.1

      shut_says : is_open (i.block other 0) ≡ false → i.block other 1 ≡ j.spelled → Says i other shut
      shut_says closed spelled = record {
        present = here;
        gate = ap is_open (at_now 0 (omega arith)) ∙ closed;
        log = record { meta = subst (λ (b : Block). Spells b j.meta) (sym (at_now 1 (omega arith) ∙ spelled)) good.meta; empty = refl };
      }

      voice : (o : LogState) × Says i other o × ((o ≡ shut) ⊎ (o ≡ was.0))
      voice = elim (c.log here) [
        | inl v ↦ (was.0, kept_says v.0 v.1, inr refl)
        | inr v ↦ (shut, shut_says v.1 v.2, inl refl)
      ]

      -- where its gate is closed it says this
      closed_voice : is_open (i.block other 0) ≡ false → Says i other shut
      closed_voice closed = elim (c.log here) [
        | inr v ↦ shut_says v.1 v.2
        | inl v ↦
            let says = kept_says v.0 v.1 in
            elim was.2 [
              | inl is ↦ subst (λ (o : LogState). Says i other o) is says
              | inr done ↦ absurd (false≢true (sym closed ∙ ap is_open (sym (at_now 0 (omega arith))) ∙ says.gate ∙ done.opened))
            ]
      ]

    module _ (single : IsSingle i j.meta) where
      shut_fresh : (d rebuilt : ℕ) → IsFresh i.power j.meta d rebuilt → d < 2 → is_open (stored_block i d 0) ≡ false
      shut_fresh d rebuilt f ld =
          let is : job_named j ≡ Some d = names ∙ ap named_out f.is in
          let at = x_or_other d ld (λ e. live_x.1 (is ∙ ap (λ (w : ℕ). Some w) e)) in
          let same : i.block d 0 ≡ j.start.block d 0 =
          subst (λ (w : ℕ). i.block w 0 ≡ j.start.block w 0) (sym at) (c.still 0 (is ∙ ap (λ (w : ℕ). Some w) at) (subst (IsPresent i) at f.present)) in
          ap is_open (stored_start j i c.kept d 0 f.present same) ∙ log.fresh_closed d rebuilt (record { is = f.is; present = c.kept.present d f.present }) ld

      -- where a live log disk stands that is closed over the meta
      for_shut : (P : LogState → Type 0) → ((a b : LogState) → P a → P b → Pairing a b) → ((z : ℕ) → IsLiveLog j z → IsPresent i z → (o : LogState) × Says i z o × P o)
          → (z : ℕ) (said : LogState) → Stands i z said → said ≡ shut → IsLiveLog j z → ImageStandsFor j.start i j.meta []
      for_shut P pairs voices z said s is live = record {
        kept = record { present = c.kept.present; power = c.kept.power; size = c.kept.size };
        disk = z;
        said = said;
        log = log_in_order j i c.kept P pairs z said j.meta s (ap (λ (o : LogState). o.meta) is) good.meta.in_range (λ e. live.1 (names ∙ e))
            (λ w l here not. voices w l here)
            (λ w lw name here out. absurd (out (sym names ∙ name))) single shut_fresh
            (λ t t_in. absurd (none_in_empty t (subst (λ (o : LogState). Contains (targets o.batch) t) is t_in)));
        meta = ap (λ (o : LogState). o.meta) is;
        blocks = λ d p out there far.
            let here = present_place i d p there in
            ap (λ (o : LogState). contents i o.batch d p) is ∙ contents_here i [] d p far there ∙ far_same d p here far
            ∙ sym (contents_here j.start [] d p far (place_start j i c.kept d p there here));
      }

      x_lacks : is_present (i.power x) ≡ false → IsMissing i.power j.meta x
      x_lacks gone = record { disk = (let n = many in let l = live_x.0 in omega arith); is = inl gone }

      other_there : is_present (i.power x) ≡ false → IsPresent i other × (job_named j ≢ Some other)
      other_there gone = (here, λ is. apart (single x other (x_lacks gone) (record { disk = other_disk; is = inr (sym names ∙ is) })))
        where
          apart : x ≢ other
          apart e = let l = live_x.0 in absurd (omega arith)

          other_disk : other < j.meta.setup.geometry.disks
          other_disk = let n = many in let l = other_low in omega arith

          here : IsPresent i other
          here = elim (cases_Bool (is_present (i.power other))) [
            | inl is ↦ is
            | inr off ↦ absurd (apart (single x other (x_lacks gone) (record { disk = other_disk; is = inl off })))
          ]

      only_shut : (a b : LogState) → a ≡ shut → b ≡ shut → Pairing a b
      only_shut a b p q = alike (p ∙ sym q)

      alike_pair : (v : LogState) → v ≡ shut → (a b : LogState) → (a ≡ shut) ⊎ (a ≡ v) → (b ≡ shut) ⊎ (b ≡ v) → Pairing a b
      alike_pair v is a b p q = alike (one a p ∙ sym (one b q))
        where
          one : (o : LogState) → (o ≡ shut) ⊎ (o ≡ v) → o ≡ shut
          one o (inl e) = e
          one o (inr e) = e ∙ is

      done_pair : (v : LogState) → IsBatchInPlace v shut → (a b : LogState) → (a ≡ shut) ⊎ (a ≡ v) → (b ≡ shut) ⊎ (b ≡ v) → Pairing a b
      done_pair v done a b (inl p) (inl q) = alike (p ∙ sym q)
      done_pair v done a b (inl p) (inr q) = second_done (subst (λ (o : LogState). IsBatchInPlace b o) (sym p) (subst (λ (o : LogState). IsBatchInPlace o shut) (sym q) done))
      done_pair v done a b (inr p) (inl q) = first_done (subst (λ (o : LogState). IsBatchInPlace a o) (sym q) (subst (λ (o : LogState). IsBatchInPlace o shut) (sym p) done))
      done_pair v done a b (inr p) (inr q) = alike (p ∙ sym q)

      none : is_present (i.power x) ≡ false → is_present (i.power (other_log other)) ≡ false
      none gone = ap (λ (w : ℕ). is_present (i.power w)) back ∙ gone

      -- without the log disk that stood, where the other one is closed
      shut_alone : is_present (i.power x) ≡ false → Says i other shut → ImageStandsFor j.start i j.meta []
      shut_alone gone says =
          let there = other_there gone in
          for_shut (λ o. o ≡ shut) only_shut (λ z l here.
          let at = x_or_other z l.0 (λ e. false≢true (sym gone ∙ ap (λ (w : ℕ). is_present (i.power w)) (sym e) ∙ here)) in
          (shut, subst (λ (w : ℕ). Says i w shut) (sym at) says, refl))
          other shut (stands_alone i other shut other_low says (none gone)) refl (other_low, there.1)

      -- with it
      module _ (here : IsPresent i x) where
        x_alone : ((o : LogState) → Says i other o → stands_before x shut o ≡ true) → Stands i x shut
        x_alone before = record { log_disk = live_x.0; says = x_says here; first = before }

        only_x : is_present (i.power other) ≡ false ⊎ (job_named j ≡ Some other) → (z : ℕ) → IsLiveLog j z → IsPresent i z → (o : LogState) × Says i z o × (o ≡ shut)
        only_x why z l there = elim (cases_eq z x) [
          | inl is ↦ (shut, subst (λ (w : ℕ). Says i w shut) (sym is) (x_says here), refl)
          | inr apart ↦
              let at = x_or_other z l.0 apart in
              elim why [
                | inl gone ↦ absurd (false≢true (sym gone ∙ subst (IsPresent i) at there))
                | inr is ↦ absurd (l.1 (is ∙ ap (λ (w : ℕ). Some w) (sym at)))
              ]
        ]

        with_x_shut : ImageStandsFor j.start i j.meta []
        with_x_shut = elim (cases_Bool (is_present (i.power other))) [
          | inr gone ↦ for_shut (λ o. o ≡ shut) only_shut (only_x (inl gone)) x shut (x_alone (λ o says. absurd (false≢true (sym gone ∙ says.present)))) refl live_x
          | inl there ↦ elim (decide_some (job_named j) other) [
            | inl is ↦ for_shut (λ o. o ≡ shut) only_shut (only_x (inr is)) x shut
                (x_alone (λ o says. log.stands.first o (aside_said j i c.kept other says.present (λ p lt. c.still p is says.present) o says))) refl live_x
            | inr not ↦ both there not
          ]
        ]
          where
            both : IsPresent i other → (job_named j ≢ Some other) → ImageStandsFor j.start i j.meta []
            both there not =
                let v = voice not there in
                let w = was not there in
                let kinds : (v.0 ≡ shut) ⊎ (IsBatchInPlace v.0 shut × (v.0 ≡ w.0)) = elim v.2 [
                  | inl is ↦ inl is
                  | inr is ↦ elim w.2 [ inl same ↦ inl (is ∙ same) | inr done ↦ inr (subst (λ (o : LogState). IsBatchInPlace o shut) (sym is) done, is) ]
                ] in
                let voices : (z : ℕ) → IsLiveLog j z → IsPresent i z → (o : LogState) × Says i z o × ((o ≡ shut) ⊎ (o ≡ v.0)) = λ z l z_there. elim (cases_eq z x) [
                  | inl is ↦ (shut, subst (λ (u : ℕ). Says i u shut) (sym is) (x_says here), inl refl)
                  | inr apart ↦ let at = x_or_other z l.0 apart in (v.0, subst (λ (u : ℕ). Says i u v.0) (sym at) v.1, inr refl)
                ] in
                elim kinds [
                  | inl is ↦ elim (first_or_second x shut v.0 live_x.0) [
                    | inl before ↦ for_shut (λ o. (o ≡ shut) ⊎ (o ≡ v.0)) (alike_pair v.0 is) voices x shut (stands_over i x shut v.0 live_x.0 (x_says here) v.1 before) refl live_x
                    | inr after ↦ for_shut (λ o. (o ≡ shut) ⊎ (o ≡ v.0)) (alike_pair v.0 is) voices other v.0
                        (stands_over i other v.0 shut other_low v.1 (subst (λ (u : ℕ). Says i u shut) (sym back) (x_says here)) after) is (other_low, not)
                  ]
                  | inr done ↦ for_shut (λ o. (o ≡ shut) ⊎ (o ≡ v.0)) (done_pair v.0 done.0) voices x shut
                      (x_alone (λ o says. log.stands.first o (subst (λ (u : LogState). Says j.start other u) (sym done.1 ∙ Says-same i other v.0 o v.1 says) w.1))) refl live_x
                ]

      -- without it, where the other one is still open, it stands for what it stood for without it
      module _ (gone : is_present (i.power x) ≡ false) (live : job_named j ≢ Some other) (here : IsPresent i other) where
        abbrev then_says : LogState
        then_says = (was live here).0

        module _ (done : IsBatchInPlace then_says shut) (says : Says i other then_says) (k : ℕ) (ok : LogOk (lose x j.start) other then_says k) where
          x_absent : is_present ((lose x j.start).power x) ≡ false
          x_absent = ap is_present (with_at_same j.start.power x Absent x refl)

          range : IsInRange then_says.meta
          range = subst IsInRange (sym done.meta) good.meta.in_range

          single_then : IsSingle i then_says.meta
          single_then = subst (IsSingle i) (sym done.meta) single

          x_low : x < then_says.meta.setup.geometry.disks
          x_low = let n = then_says.meta.setup.geometry.disks_low in let l = live_x.0 in omega arith

          -- while the log disk that stood is absent it is the out disk
          x_out : out_disk (lose x j.start).power then_says.meta ≡ Some x
          x_out = missing_is_out (lose x j.start).power then_says.meta x range ok.single (record { disk = x_low; is = inl x_absent }) x_absent

          only_other : (z : ℕ) → z < 2 → IsPresent i z → z ≡ other
          only_other z lz there = x_or_other z lz (λ e. false≢true (sym gone ∙ ap (λ (w : ℕ). is_present (i.power w)) (sym e) ∙ there))

          in_batch : (t : Target) → Contains (targets then_says.batch) t → t.disk < then_says.meta.setup.geometry.disks
          in_batch t t_in =
              let log_open : SaysBy true (stored_block i other) then_says.meta then_says.batch = subst (λ (o : Bool). SaysBy o (stored_block i other) then_says.meta then_says.batch) done.opened says.log in
              (all_contained (IsTargetInRange then_says.meta.setup.geometry) (targets then_says.batch) t log_open.in_range.each t_in).disk

          spins_then : (t : Target) → Contains (targets then_says.batch) t → out_disk i.power then_says.meta ≢ Some t.disk → i.power t.disk ≡ Spinning
          spins_then t t_in out = elim (cases_Bool (is_present (i.power t.disk))) [
            | inr off ↦ absurd (out (missing_is_out i.power then_says.meta t.disk range single_then (record { disk = in_batch t t_in; is = inl off }) off))
            | inl there ↦
                let apart : t.disk ≢ x = λ e. false≢true (sym gone ∙ ap (λ (w : ℕ). is_present (i.power w)) (sym e) ∙ there) in
                c.kept.power t.disk there ∙ sym (with_at_other j.start.power x Absent t.disk apart)
                ∙ ok.targets_spin t t_in (λ e. let same : Some x ≡ Some t.disk = sym x_out ∙ e in let is : t.disk ≡ x = cc in apart is)
          ]

          for_then : ImageStandsFor j.start i then_says.meta then_says.batch
          for_then = record {
            kept = record { present = c.kept.present; power = c.kept.power; size = c.kept.size };
            disk = other;
            said = then_says;
            log = record {
              stands = stands_alone i other then_says other_low says (none gone);
              writes = refl;
              single = single_then;
              standing_in = ok.standing_in;
              fresh_closed = λ d rebuilt f ld. absurd (ok.standing_in (ap named_out f.is ∙ ap (λ (w : ℕ). Some w) (only_other d ld f.present)));
              targets_spin = spins_then;
              formed = λ z lz there out. (then_says, subst (λ (w : ℕ). Says i w then_says) (sym (only_other z lz there)) says);
              paired = λ a b p q out0 out1.
                  let zero_is = only_other 0 (omega arith) p.present in
                  let one_is = only_other 1 (omega arith) q.present in
                  absurd (omega arith);
            };
            meta = refl;
            blocks = λ d p out there far.
                let present = present_place i d p there in
                contents_here i then_says.batch d p far there ∙ ap (overlaid_block then_says.batch d p) (far_same d p present far)
                ∙ sym (contents_here j.start then_says.batch d p far (place_start j i c.kept d p there present));
          }

        shut_fallback : IsBatchInPlace then_says shut → Says i other then_says → IsFallback j.start x i
        shut_fallback done says = record {
          gone = gone;
          stands = λ z o k ok.
              let apart : z ≢ x = λ e. false≢true (sym (ap is_present (with_at_same j.start.power x Absent z e)) ∙ ok.stands.says.present) in
              let at = x_or_other z ok.stands.log_disk apart in
              let is : then_says ≡ o = Says-same j.start other then_says o (was live here).1 (subst (λ (w : ℕ). Says j.start w o) at (says_of_lost j.start x z o ok.stands.says)) in
              subst (λ (v : LogState). ImageStandsFor j.start i v.meta v.batch) is
              (for_then done says k (subst (λ (v : LogState). LogOk (lose x j.start) other v k) (sym is) (subst (λ (w : ℕ). LogOk (lose x j.start) w o k) at ok)));
          meta = λ z o p stands p_says.
              let at = x_or_other z stands.log_disk (λ e. false≢true (sym gone ∙ ap (λ (w : ℕ). is_present (i.power w)) (sym e) ∙ stands.says.present)) in
              ap (λ (v : LogState). v.meta) (Says-same i other o then_says (subst (λ (w : ℕ). Says i w o) at stands.says) says ∙ Says-same j.start other then_says p (was live here).1 p_says);
        }

      pub shut_each : ImageStandsFor j.start i j.meta [] ⊎ IsFallback j.start x i
      shut_each = elim (cases_Bool (is_present (i.power x))) [
        | inl here ↦ inl (with_x_shut here)
        | inr gone ↦
            let there = other_there gone in
            let v = voice there.1 there.0 in
            let w = was there.1 there.0 in
            elim v.2 [
              | inl is ↦ inl (shut_alone gone (subst (λ (o : LogState). Says i other o) is v.1))
              | inr is ↦ elim w.2 [
                | inl same ↦ inl (shut_alone gone (subst (λ (o : LogState). Says i other o) (is ∙ same) v.1))
                | inr done ↦ inr (shut_fallback gone there.1 there.0 done (subst (λ (o : LogState). Says i other o) is v.1))
              ]
            ]
      ]

    pub shut_metas : (z : ℕ) (o : LogState) → z < 2 → Says i z o → (w : ℕ) × (p : LogState) × (w < 2) × Says j.start w p × (o.meta ≡ p.meta)
    shut_metas z o lz says = elim (cases_eq z x) [
      | inl is ↦ (x, shut, live_x.0, log.stands.says, ap (λ (u : LogState). u.meta) (Says-same i x o shut (subst (λ (w : ℕ). Says i w o) is says) (x_says (subst (IsPresent i) is says.present))))
      | inr apart ↦
          let at = x_or_other z lz apart in
          let says_too = subst (λ (w : ℕ). Says i w o) at says in
          elim (decide_some (job_named j) other) [
            | inl is ↦ (other, o, other_low, aside_said j i c.kept other says_too.present (λ p lt. c.still p is says_too.present) o says_too, refl)
            | inr not ↦
                let v = voice not says_too.present in
                let same = ap (λ (u : LogState). u.meta) (Says-same i other o v.0 says_too v.1) in
                elim v.2 [
                  | inl is ↦ (x, shut, live_x.0, log.stands.says, same ∙ ap (λ (u : LogState). u.meta) is)
                  | inr is ↦ (other, (was not says_too.present).0, other_low, (was not says_too.present).1, same ∙ ap (λ (u : LogState). u.meta) is)
                ]
          ]
    ]

  -- at the end
  module _ (s : Disks) (c : IsShutImage j other s) (synced : AreSynced s)
      (closed : job_named j ≢ Some other → IsPresent s other → is_open (s.block other 0) ≡ false) where
    end_shut : AreLogGatesClosed s j.meta
    end_shut z lz here not = elim (cases_eq z x) [
      | inl is ↦ subst (λ (w : ℕ). is_open (stored_block s w 0) ≡ false) (sym is) (x_says s c (subst (IsPresent s) is here)).gate
      | inr apart ↦
          let at = x_or_other z lz apart in
          let live : job_named j ≢ Some other = λ e. not (sym names ∙ e ∙ ap (λ (w : ℕ). Some w) (sym at)) in
          stored_shut s z (subst (λ (w : ℕ). is_open (s.block w 0) ≡ false) (sym at) (closed live (subst (IsPresent s) at here)))
    ]

    -- the blocks are as they were
    pub shut_stands : IsSingle s j.meta → ImageStandsFor j.start s j.meta []
    shut_stands single = elim (cases_Bool (is_present (s.power x))) [
      | inl here ↦ with_x_shut s c single here
      | inr gone ↦ let there = other_there s c single gone in shut_alone s c single gone (closed_voice s c there.1 there.0 (closed there.1 there.0))
    ]

    pub shut_ends : EndsResume s j.meta
    shut_ends = record {
      synced = synced;
      shut = end_shut;
      rest = λ one.
          let for = shut_stands (λ d e p q. one.one d e (inl p) (inl q)) in
          let in_array : named_out j.meta.out ≢ Some for.disk = λ e. for.log.standing_in (ap (λ (m : Meta). named_out m.out) for.meta ∙ e) in
          let closed_too : for.said.opened ≡ false = sym for.log.stands.says.gate ∙ end_shut for.disk for.log.stands.log_disk for.log.stands.says.present in_array in
          record {
            synced = synced;
            disk = for.disk;
            log = subst (λ (o : LogState). LogOk s for.disk o j.meta.writes) (closed_said s for.disk for.said j.meta for.log.stands.says closed_too for.meta) for.log;
            shut = end_shut;
          };
    }
