-- A spin-up or a park at rest, done or failed, leaves a rest and what is held.
use Rattle.std.specs.Prelude.{◌≡◌, ◌≢◌, ℕ, ◌<◌, ◌≤◌, Bool, true, false, List, [], ◌∷◌, Option, Some, None}
use Rattle.std.proofs.Common.{refl, sym, ◌∙◌, ap, subst, arith, inl, inr, length-append}
use Rattle.std.proofs.lemmas.Bool.{cases_Bool, cases_eq, cases_lt, false≢true}
use Rattle.paraid_base.specs.History.{History}
use Rattle.paraid_rack.specs.declared.call.Call.{Call}
use Rattle.paraid_rack.specs.declared.call.Call.TheVariants.{Read, Write, Sync, Park, SpinUp, Attach}
use Rattle.paraid_rack.specs.declared.call.Power.TheVariants.{Absent, Parked, Spinning}
use Rattle.paraid_rack.specs.Calls.{disk_of, is_done}
use Rattle.paraid_rack.specs.Disks.{Disks, is_present, power_after, step}
use Rattle.paraid_rack.specs.Lawful.{IsLawful}
use Rattle.paraid_rack.specs.Told.{Ran, CrashTriple, Through}
use Rattle.paraid_rack.specs.Trail.{Trail, disks, moments, now, run}
use Rattle.paraid_rack.proofs.AtomsLemmas.{with_at_other, with_at_same}
use Rattle.paraid_rack.proofs.TrailsLemmas.{moments_of}
use Rattle.paraid_record.specs.declared.meta.Meta.{Meta}
use Rattle.paraid_record.specs.Range.{IsInRange}
use Rattle.paraid_image.specs.HeldAt.{IsHeld}
use Rattle.paraid_image.specs.Out.{IsMissing, IsWeak, first_absent, named_out, or_else, out_disk}
use Rattle.paraid_image.specs.Out.IsWeak.{out as out_weak}
use Rattle.paraid_image.specs.Rest.{IsAtRest, AreSynced}
use Rattle.paraid_image.specs.Sides.{LogState}
use Rattle.paraid_image.proofs.OutLemmas.{first_absent_is}
use Rattle.paraid_image.proofs.CallLemmas.{out_named}
use Rattle.paraid_moves.specs.Copying.{without_disk}
use Rattle.paraid_moves.proofs.BetweenLemmas.{copies_parked, copies_spun}
use Rattle.paraid_moves.proofs.RunLemmas.{copies_lost}
use Rattle.paraid_txn.specs.Resume.{IsResumable}
use Rattle.paraid_txn.specs.Uses.{EachCall}
use Rattle.paraid_txn.proofs.CommitPartLemmas.{ran_milder}
use Rattle.paraid_recover.specs.HeldMoments.{EndsHeld, IsAbsentSince, IsOutAtEnd, RecoversHeld, RestsBeside}
use Rattle.paraid_recover.specs.Powers.{IsPowerCall}
use Rattle.paraid_recover.proofs.RecoverLemmas.{disks_before, disks_last}
use Rattle.paraid_recover.proofs.HeldAtRestLemmas.{rest_held}
use Rattle.paraid_recover.proofs.QuietCallsLemmas.{Resting, resting_from, resting_held, resting_rest}

-- the call

turn_low : (m : Meta) (c : Call) → IsPowerCall m c → disk_of c < m.setup.geometry.disks
turn_low m (Read d p done) turn = absurd turn
turn_low m (Write d p b done) turn = absurd turn
turn_low m (Sync d done) turn = absurd turn
turn_low m (Park d done) turn = turn.0
turn_low m (SpinUp d done) turn = turn.0
turn_low m (Attach d size done) turn = absurd turn

turn_present : (m : Meta) (c : Call) (s : Disks) → IsPowerCall m c → IsLawful s c → is_present (s.power (disk_of c)) ≡ true
turn_present m (Read d p done) s turn lawful = absurd turn
turn_present m (Write d p b done) s turn lawful = absurd turn
turn_present m (Sync d done) s turn lawful = absurd turn
turn_present m (Park d done) s turn lawful = ap is_present lawful.0
turn_present m (SpinUp d done) s turn lawful = ap is_present lawful
turn_present m (Attach d size done) s turn lawful = absurd turn

-- a disk whose call failed is absent
turn_lost : (m : Meta) (c : Call) (s : Disks) → IsPowerCall m c → is_done c ≡ false → (step c s).power (disk_of c) ≡ Absent
unfolding step
turn_lost m (Read d p done) s turn is = absurd turn
turn_lost m (Write d p b done) s turn is = absurd turn
turn_lost m (Sync d done) s turn is = absurd turn
turn_lost m (Park d true) s turn is = absurd (false≢true (sym is))
turn_lost m (Park d false) s turn is = with_at_same s.power d Absent d refl
turn_lost m (SpinUp d true) s turn is = absurd (false≢true (sym is))
turn_lost m (SpinUp d false) s turn is = with_at_same s.power d Absent d refl
turn_lost m (Attach d size done) s turn is = absurd turn

-- the other disks keep their power
turn_other : (m : Meta) (c : Call) (s : Disks) (e : ℕ) → IsPowerCall m c → e ≢ disk_of c → (step c s).power e ≡ s.power e
unfolding step
turn_other m (Read d p done) s e turn apart = absurd turn
turn_other m (Write d p b done) s e turn apart = absurd turn
turn_other m (Sync d done) s e turn apart = absurd turn
turn_other m (Park d done) s e turn apart = with_at_other s.power d (power_after done Parked) e apart
turn_other m (SpinUp d done) s e turn apart = with_at_other s.power d (power_after done Spinning) e apart
turn_other m (Attach d size done) s e turn apart = absurd turn

turn_loose : (m : Meta) (c : Call) (s : Disks) (e p : ℕ) → IsPowerCall m c → (step c s).loose e p ≡ s.loose e p
unfolding step
turn_loose m (Read d q done) s e p turn = absurd turn
turn_loose m (Write d q b done) s e p turn = absurd turn
turn_loose m (Sync d done) s e p turn = absurd turn
turn_loose m (Park d done) s e p turn = refl
turn_loose m (SpinUp d done) s e p turn = refl
turn_loose m (Attach d size done) s e p turn = absurd turn

pub absent_stays : (m : Meta) (c : Call) (s : Disks) (e : ℕ) → IsPowerCall m c → IsLawful s c → is_present (s.power e) ≡ false → is_present ((step c s).power e) ≡ false
absent_stays m c s e turn lawful off = elim (cases_eq e (disk_of c)) [
  | inl is ↦ absurd (false≢true (sym (ap (λ (k : ℕ). is_present (s.power k)) (sym is) ∙ off) ∙ turn_present m c s turn lawful))
  | inr apart ↦ ap is_present (turn_other m c s e turn apart) ∙ off
]

turn_drained : (m : Meta) (c : Call) (s : Disks) → IsPowerCall m c → IsLawful s c → AreSynced s → AreSynced (step c s)
turn_drained m c s turn lawful synced e p here = turn_loose m c s e p turn ∙ synced e p (split (is_present (s.power e)) refl)
  where
    split : (x : Bool) → is_present (s.power e) ≡ x → is_present (s.power e) ≡ true
    split true is = is
    split false off = absurd (false≢true (sym (absent_stays m c s e turn lawful off) ∙ here))

-- a gear is 3 or more
gear_high : (m : Meta) → IsInRange m → 3 ≤ m.gear
gear_high m range = m.setup.geometry.gears_low m.gear range.gear

module _ (slots : ℕ) (m : Meta) (h : History) (lo : ℕ) where
  resting_turned : (c : Call) (s : Disks) → IsPowerCall m c → IsLawful s c → is_done c ≡ true → IsInRange m → Resting slots m h lo s → Resting slots m h lo (step c s)
  resting_turned (Read d p done) s turn lawful is range r = absurd turn
  resting_turned (Write d p b done) s turn lawful is range r = absurd turn
  resting_turned (Sync d done) s turn lawful is range r = absurd turn
  resting_turned (Park d true) s turn lawful is range r =
      let high = gear_high m range in
      let low = turn.1 in
      record {
        synced = turn_drained m (Park d true) s turn lawful r.synced;
        f = r.f;
        copies = copies_parked slots m r.f h lo s d (ap is_present lawful.0) (omega arith) turn.1 turn.2
            (λ u fresh. turn.3 (ap named_out fresh)) r.copies;
      }
  resting_turned (Park d false) s turn lawful is range r = absurd (false≢true is)
  resting_turned (SpinUp d true) s turn lawful is range r = record {
    synced = turn_drained m (SpinUp d true) s turn lawful r.synced;
    f = r.f;
    copies = copies_spun slots m r.f h lo s d (ap is_present lawful) r.copies;
  }
  resting_turned (SpinUp d false) s turn lawful is range r = absurd (false≢true is)
  resting_turned (Attach d size done) s turn lawful is range r = absurd turn

  -- what is held beside a disk, where each that is absent or named out is this one
  held_beside : (s : Disks) (down : Option ℕ) → Resting slots m h lo s → ((d : ℕ) → d < m.setup.geometry.disks → is_present (s.power d) ≡ false → down ≡ Some d)
      → ((d : ℕ) → named_out m.out ≡ Some d → down ≡ Some d) → IsHeld slots s h lo down
  held_beside s down r absent named =
      let it = resting_held slots m h lo s r in
      record { whole = it.whole; lost = it.lost; weak = λ i w image is. out w (named_out m.out) refl (it.weak i w image is) }
    where
      out : (w : ℕ) (o : Option ℕ) → named_out m.out ≡ o → or_else o (first_absent s.power m.setup.geometry.disks) ≡ Some w → down ≡ Some w
      out w (Some u) name found = named w (name ∙ found)
      out w None name found = let gone = first_absent_is s.power m.setup.geometry.disks w found in absent w gone.0 gone.1

  rests_turned : (c : Call) (s : Disks) → IsPowerCall m c → IsLawful s c → RestsBeside slots m h lo s → RestsBeside slots m h lo (step c s)
  rests_turned c s turn lawful rests down absent named =
      let was = rests down (λ d low off. absent d low (absent_stays m c s d turn lawful off)) named in
      let range = was.0.log.stands.says.log.meta.in_range in
      let r = resting_from slots s m h lo down was.0 was.1 in
      let after : Resting slots m h lo (step c s) = elim (cases_Bool (is_done c)) [
        | inl done ↦ resting_turned c s turn lawful done range r
        | inr failed ↦
            let lost = absent (disk_of c) (turn_low m c turn) (ap is_present (turn_lost m c s turn failed)) in
            let missing : (e : ℕ) → IsMissing s.power m e → down ≡ Some e = λ e is. elim is.is [
              | inl off ↦ absent e is.disk (absent_stays m c s e turn lawful off)
              | inr name ↦ named e name
            ] in
            record {
              synced = turn_drained m c s turn lawful r.synced;
              f = without_disk r.f (disk_of c);
              copies = copies_lost slots m r.f h lo s c failed range
                  (record { copies = r.copies; disk = turn_low m c turn; others = λ e is. let z : Some e ≡ Some (disk_of c) = sym (missing e is) ∙ lost in cc });
            }
      ] in
      (resting_rest slots m h lo (step c s) after, held_beside (step c s) down after absent named)

  pub rests_through : (s : Disks) (cs : List Call) → EachCall (IsPowerCall m) s cs → RestsBeside slots m h lo s → Through (RestsBeside slots m h lo) s cs × RestsBeside slots m h lo (run s cs)
  rests_through s [] each rests = (rests, rests)
  rests_through s (c ∷ cs) each rests =
      let it = rests_through (step c s) cs each.2 (rests_turned c s each.1 each.0 rests) in
      ((rests, it.0), it.1)

  pub turns_ran : (old new : Option Trail) → Ran old new (EachCall (IsPowerCall m)) → Ran old new (CrashTriple (RestsBeside slots m h lo) (RestsBeside slots m h lo) (RestsBeside slots m h lo))
  turns_ran old new ran = ran_milder (EachCall (IsPowerCall m)) (CrashTriple (RestsBeside slots m h lo) (RestsBeside slots m h lo) (RestsBeside slots m h lo))
      (λ s cs each. record { goes = λ rests. rests_through s cs each rests }) ran

-- Spin-ups and parks after what was held while a commit was ended and an absent disk marked.
module _ (slots x : ℕ) (said : LogState) (m : Meta) (old mid new : Option Trail) (same_disks : m.setup.geometry.disks ≡ said.meta.setup.geometry.disks) (who : IsOutAtEnd said m mid)
    (ran : Ran mid new (EachCall (IsPowerCall m))) (holds : RecoversHeld slots x said old mid) (ends : EndsHeld slots x said m old mid) where
  abbrev n : ℕ
  n = said.meta.setup.geometry.disks

  module _ (t : Trail) (tells : new ≡ Some t) where
    abbrev end : Trail
    end = (ran t tells).from

    told : mid ≡ Some end
    told = (ran t tells).was

    abbrev start : Trail
    start = (holds end told).0

    longer : moments end ≤ moments t
    longer = let long = ap moments (ran t tells).is ∙ length-append end.calls (ran t tells).calls in omega arith

    at : (j : ℕ) → j ≤ moments end → disks t j ≡ disks end j
    at j le = ap (λ (u : Trail). disks u j) (ran t tells).is ∙ disks_before end (ran t tells).calls j le

    module _ (h : History) (lo : ℕ) (was down : Option ℕ) (broken : IsResumable (now start) x said) (held : IsHeld slots (now start) h lo was)
        (weak : (w : ℕ) → IsWeak (now start) w → down ≡ Some w) where
      earlier : (j : ℕ) → moments start ≤ j → j ≤ moments end → IsAbsentSince n t (moments start) j down → IsHeld slots (disks t j) h lo down
      earlier j from to absent =
          subst (λ (u : Disks). IsHeld slots u h lo down) (sym (at j to))
          ((holds end told).3 h lo j was down broken held from to
          (λ k d k_from k_to l gone. absent k d k_from k_to l (ap (λ (u : Disks). is_present (u.power d)) (at k (omega arith)) ∙ gone)) weak)

      module _ (j : ℕ) (to : j ≤ moments t) (from : moments end ≤ j) (absent : IsAbsentSince n t (moments start) j down) where
        absent_mid : IsAbsentSince n end (moments start) (moments end) down
        absent_mid k d k_from k_to l gone = absent k d k_from (omega arith) l (ap (λ (u : Disks). is_present (u.power d)) (at k k_to) ∙ gone)

        held_mid : IsHeld slots (now end) h lo down
        held_mid =
            subst (λ (u : Disks). IsHeld slots u h lo down) (disks_last end)
            ((holds end told).3 h lo (moments end) was down broken held (holds end told).2 (omega arith) absent_mid weak)

        same : (ends end told).0 ≡ start
        same = let z : Some (ends end told).0 ≡ Some start = sym (ends end told).1 ∙ (holds end told).1 in cc

        rest_mid : IsAtRest (now end) m
        rest_mid =
            (subst (λ (u : Trail). IsResumable (now u) x said → IsHeld slots (now u) h lo was → IsAbsentSince n end (moments u) (moments end) down
            → ((w : ℕ) → IsWeak (now u) w → down ≡ Some w) → IsAtRest (now end) m)
            same (λ b e a w. ((ends end told).2 h lo was down b e a w).0) broken held absent_mid weak)

        gone_mid : (d : ℕ) → d < n → is_present ((now end).power d) ≡ false → down ≡ Some d
        gone_mid d l off = absent_mid (moments end) d (holds end told).2 (omega arith) l (ap (λ (u : Disks). is_present (u.power d)) (disks_last end) ∙ off)

        named : (d : ℕ) → named_out m.out ≡ Some d → down ≡ Some d
        named d is = elim (who end told d is) [
          | inl name ↦ weak d (out_weak x said broken.log.stands (out_named (now start).power said.meta d name))
          | inr gone ↦ gone_mid d gone.0 gone.1
        ]

        rests : RestsBeside slots m h lo (now end)
        rests other absent_by named_by = (rest_mid, held_beside slots m h lo (now end) other (resting_from slots (now end) m h lo down rest_mid held_mid) absent_by named_by)

        turned : RestsBeside slots m h lo (disks t j)
        turned =
            let it = moments_of (RestsBeside slots m h lo) (RestsBeside slots m h lo) (RestsBeside slots m h lo) mid new (turns_ran slots m h lo mid new ran) t tells in
            let first : end ≡ it.0 = (let z : Some end ≡ Some it.0 = sym told ∙ it.1 in cc) in
            (it.3 (subst (λ (u : Trail). RestsBeside slots m h lo (now u)) first rests)).1 j (subst (λ (u : Trail). moments u ≤ j) first from) to

        later : IsAtRest (disks t j) m × IsHeld slots (disks t j) h lo down
        later =
            let high = (holds end told).2 in
            turned down (λ d l off. absent j d (omega arith) (omega arith) (let e = same_disks in omega arith) off) named

  pub turns_hold : RecoversHeld slots x said old new
  turns_hold t tells = (
    start t tells,
    (holds (end t tells) (told t tells)).1,
    (let from = (holds (end t tells) (told t tells)).2 in let more = longer t tells in omega arith),
    λ h lo j was down broken held from to absent weak. elim (cases_lt (moments (end t tells)) j) [
      | inr le ↦ earlier t tells h lo was down broken held weak j from le absent
      | inl gt ↦ (later t tells h lo was down broken held weak j to (omega arith) absent).1
    ],
  )

  pub turns_end : EndsHeld slots x said m old new
  turns_end t tells = (
    start t tells,
    (holds (end t tells) (told t tells)).1,
    λ h lo was down broken held absent weak.
        let it = later t tells h lo was down broken held weak (moments t) (omega arith) (longer t tells) absent in
        let rest = subst (λ (u : Disks). IsAtRest u m) (disks_last t) it.0 in
        let beside = subst (λ (u : Disks). IsHeld slots u h lo down) (disks_last t) it.1 in
        (rest, rest_held slots (now t) m h lo (out_disk (now t).power m) rest (resting_held slots m h lo (now t) (resting_from slots (now t) m h lo down rest beside))),
  )
