-- A read or a sync at rest, done or failed, leaves a rest and what is held.
use Rattle.std.specs.Prelude.{◌≡◌, ℕ, ◌+◌, ◌<◌, ◌≤◌, Bool, true, false, List, [], ◌∷◌, Option, Some, None, take}
use Rattle.std.proofs.Common.{refl, sym, ◌∙◌, ap, subst, arith, inl, inr, length-append}
use Rattle.std.proofs.lemmas.List.{append-nil}
use Rattle.std.proofs.lemmas.Bool.{cases_Bool, cases_eq, cases_lt, false≢true}
use Rattle.paraid_base.specs.History.{History}
use Rattle.paraid_rack.specs.declared.call.Call.{Call}
use Rattle.paraid_rack.specs.declared.call.Call.TheVariants.{Read, Write, Sync, Park, SpinUp, Attach}
use Rattle.paraid_rack.specs.declared.call.Power.TheVariants.{Absent}
use Rattle.paraid_rack.specs.Disks.{Disks, IsImage, is_present, loose_after, step}
use Rattle.paraid_rack.specs.Told.{GrowsByCall, Ran}
use Rattle.paraid_rack.specs.Trail.{Trail, disks, extend, moments, now}
use Rattle.paraid_rack.proofs.AtomsLemmas.{read_present, sync_present, with_at_other, with_at_same}
use Rattle.paraid_rack.proofs.TrailsLemmas.{Ran-then, extend-extend, now-extend}
use Rattle.paraid_record.specs.declared.meta.Meta.{Meta}
use Rattle.paraid_record.specs.Range.{IsInRange}
use Rattle.paraid_image.specs.Calls.{disk_of, is_done}
use Rattle.paraid_image.specs.Content.{view_by, view_of}
use Rattle.paraid_image.specs.HeldAt.{IsHeld}
use Rattle.paraid_image.specs.Out.{IsMissing, IsWeak, first_absent, named_out, or_else, out_disk}
use Rattle.paraid_image.specs.Out.IsWeak.{out as out_weak}
use Rattle.paraid_image.specs.Rest.{IsAtRest, AreSynced}
use Rattle.paraid_image.specs.Sides.{LogState, closed_over, stored_block}
use Rattle.paraid_image.specs.Sound.{ContentOk, AreWitnessesTrue}
use Rattle.paraid_image.specs.Standing.{Contents, contents}
use Rattle.paraid_image.proofs.OutLemmas.{first_absent_is}
use Rattle.paraid_image.proofs.CallLemmas.{out_named}
use Rattle.paraid_moves.specs.Copying.{HoldsWithCopies, without_disk}
use Rattle.paraid_moves.proofs.CopyCommitLemmas.{copying_from_rest, rest_from_copying}
use Rattle.paraid_moves.proofs.RunLemmas.{copies_held, copies_lost, copies_read, copies_sync}
use Rattle.paraid_txn.specs.Resume.{IsResumable}
use Rattle.paraid_txn.specs.Uses.{EachCall}
use Rattle.paraid_recover.specs.HeldMoments.{EndsHeld, IsAbsentSince, Recovers, RecoversHeld}
use Rattle.paraid_recover.specs.Quiet.{IsReadOrSync}
use Rattle.paraid_recover.proofs.RecoverLemmas.{disks_before, disks_last}
use Rattle.paraid_recover.proofs.HeldAtRestLemmas.{rest_held, said_whole}

-- nothing is loose, and the blocks hold the writes that the meta counts
pub record Resting (slots : ℕ) (m : Meta) (h : History) (lo : ℕ) (s : Disks) : Type 0 where
  pub synced : AreSynced s
  pub f : Contents
  pub copies : HoldsWithCopies slots m f h lo s

-- the contents do not depend on what is loose
same_contents : (s : Disks) → contents (record s { loose = λ d p. false }) [] ≡ contents s []
unfolding contents
same_contents s = refl

-- nothing loose makes no difference to witnesses
pub still_true : (s : Disks) (o : Option ℕ) → AreWitnessesTrue (record s { loose = λ d p. false }) o → AreWitnessesTrue s o
unfolding stored_block
still_true s o holds = holds

pub resting_from : (slots : ℕ) (s : Disks) (m : Meta) (h : History) (lo : ℕ) (down : Option ℕ) → IsAtRest s m → IsHeld slots s h lo down → Resting slots m h lo s
resting_from slots s m h lo down rest held =
    let i : Disks = record s { loose = λ d p. false } in
    let image : IsImage s i = record { power = λ d. refl; size = λ d. refl; block = λ d p not. refl; loose = λ d p. refl } in
    let it = held.whole i image in
    let said : it.sound.said ≡ closed_over m = said_whole slots s m h lo down rest held i it.sound.disk it.sound.said image it.sound.log.stands in
    let count : it.k ≡ m.writes = sym it.sound.log.writes ∙ ap (λ (o : LogState). o.meta.writes) said in
    let low = it.low in
    let high = it.high in
    record {
      synced = rest.synced;
      f = contents s [];
      copies = record {
        copying = copying_from_rest s m rest (still_true s (out_disk s.power m) (subst (λ (o : LogState). AreWitnessesTrue i (out_disk i.power o.meta)) said it.sound.witnesses));
        low = omega arith;
        high = omega arith;
        content = subst (λ (f : Contents). ContentOk slots s.power s.size (view_by m s.power f) h m.writes) (same_contents s)
            (subst (λ (n : ℕ). ContentOk slots s.power s.size (view_by m s.power (contents i [])) h n) count
            (subst (λ (o : LogState). ContentOk slots i.power i.size (view_of i o) h it.k) said it.sound.content));
      };
    }

-- what the blocks at rest stand for
pub content_at_rest : (slots : ℕ) (s : Disks) (m : Meta) (h : History) (lo : ℕ) (down : Option ℕ) → IsAtRest s m → IsHeld slots s h lo down
    → ContentOk slots s.power s.size (view_by m s.power (contents s [])) h m.writes
unfolding contents resting_from
content_at_rest slots s m h lo down rest held = (resting_from slots s m h lo down rest held).copies.content

module _ (slots : ℕ) (m : Meta) (h : History) (lo : ℕ) where
  pub resting_rest : (s : Disks) → Resting slots m h lo s → IsAtRest s m
  resting_rest s r = rest_from_copying s m r.f r.synced r.copies.copying

  pub resting_held : (s : Disks) → Resting slots m h lo s → IsHeld slots s h lo (out_disk s.power m)
  resting_held s r = copies_held slots m r.f h lo s r.copies

-- its disk is one of them
quiet_low : (n : ℕ) (c : Call) → IsReadOrSync n c → disk_of c < n
quiet_low n (Read d p done) quiet = quiet
quiet_low n (Write d p b done) quiet = absurd quiet
quiet_low n (Sync d done) quiet = quiet
quiet_low n (Park d done) quiet = absurd quiet
quiet_low n (SpinUp d done) quiet = absurd quiet
quiet_low n (Attach d size done) quiet = absurd quiet

-- a disk whose call failed is absent
lost_power : (n : ℕ) (c : Call) (s : Disks) → IsReadOrSync n c → is_done c ≡ false → (step c s).power (disk_of c) ≡ Absent
unfolding step
lost_power n (Read d p true) s quiet is = absurd (false≢true (sym is))
lost_power n (Read d p false) s quiet is = with_at_same s.power d Absent d refl
lost_power n (Write d p b done) s quiet is = absurd quiet
lost_power n (Sync d true) s quiet is = absurd (false≢true (sym is))
lost_power n (Sync d false) s quiet is = with_at_same s.power d Absent d refl
lost_power n (Park d done) s quiet is = absurd quiet
lost_power n (SpinUp d done) s quiet is = absurd quiet
lost_power n (Attach d size done) s quiet is = absurd quiet

synced_step : (n : ℕ) (c : Call) (s : Disks) → IsReadOrSync n c → AreSynced s → AreSynced (step c s)
unfolding step
synced_step n (Read e p done) s quiet synced d q here = synced d q (read_present s e p done d here)
synced_step n (Write e p b done) s quiet synced d q here = absurd quiet
synced_step n (Sync e done) s quiet synced d q here =
    let there = sync_present s e done d here in
    elim (cases_eq d e) [
      | inl is ↦ ap (λ (f : ℕ → Bool). f q) (with_at_same s.loose e (loose_after done (s.loose e)) d is)
          ∙ by done (subst (λ (k : ℕ). is_present (s.power k) ≡ true) is there)
      | inr not ↦ ap (λ (f : ℕ → Bool). f q) (with_at_other s.loose e (loose_after done (s.loose e)) d not) ∙ synced d q there
    ]
  where
    by : (done : Bool) → is_present (s.power e) ≡ true → loose_after done (s.loose e) q ≡ false
    by true there = refl
    by false there = synced e q there
synced_step n (Park e done) s quiet synced d q here = absurd quiet
synced_step n (SpinUp e done) s quiet synced d q here = absurd quiet
synced_step n (Attach e size done) s quiet synced d q here = absurd quiet

module _ (slots : ℕ) (m : Meta) (h : History) (lo : ℕ) where
  -- a call that is done
  pub resting_done : (c : Call) (s : Disks) → IsReadOrSync m.setup.geometry.disks c → is_done c ≡ true → Resting slots m h lo s → Resting slots m h lo (step c s)
  resting_done (Read d p true) s quiet is r = record { synced = synced_step m.setup.geometry.disks (Read d p true) s quiet r.synced; f = r.f; copies = copies_read slots m r.f h lo s d p r.copies }
  resting_done (Read d p false) s quiet is r = absurd (false≢true is)
  resting_done (Write d p b done) s quiet is r = absurd quiet
  resting_done (Sync d true) s quiet is r = record { synced = synced_step m.setup.geometry.disks (Sync d true) s quiet r.synced; f = r.f; copies = copies_sync slots m r.f h lo s d r.copies }
  resting_done (Sync d false) s quiet is r = absurd (false≢true is)
  resting_done (Park d done) s quiet is r = absurd quiet
  resting_done (SpinUp d done) s quiet is r = absurd quiet
  resting_done (Attach d size done) s quiet is r = absurd quiet

  -- a failed one loses its disk
  pub resting_lost : (c : Call) (s : Disks) → IsReadOrSync m.setup.geometry.disks c → is_done c ≡ false → IsInRange m
      → ((e : ℕ) → IsMissing s.power m e → e ≡ disk_of c) → Resting slots m h lo s → Resting slots m h lo (step c s)
  resting_lost c s quiet failed range others r = record {
    synced = synced_step m.setup.geometry.disks c s quiet r.synced;
    f = without_disk r.f (disk_of c);
    copies = copies_lost slots m r.f h lo s c failed range (record { copies = r.copies; disk = quiet_low m.setup.geometry.disks c quiet; others = others });
  }

-- A read or a sync after what was held while a commit was ended.
module _ (slots x : ℕ) (said : LogState) (old mid new : Option Trail) (c : Call) (quiet : IsReadOrSync said.meta.setup.geometry.disks c) (grows : GrowsByCall mid new c)
    (holds : RecoversHeld slots x said old mid) (ends : EndsHeld slots x said said.meta old mid) where
  abbrev n : ℕ
  n = said.meta.setup.geometry.disks

  module _ (t : Trail) (tells : new ≡ Some t) where
    abbrev before : Trail
    before = (grows t tells).0

    told : mid ≡ Some before
    told = (grows t tells).1

    abbrev start : Trail
    start = (holds before told).0

    last : now t ≡ step c (now before)
    last = ap now (grows t tells).2 ∙ now-extend before (c ∷ [])

    long : moments t ≡ moments before + 1
    long = ap moments (grows t tells).2 ∙ length-append before.calls (c ∷ [])

    at : (j : ℕ) → j ≤ moments before → disks t j ≡ disks before j
    at j le = ap (λ (u : Trail). disks u j) (grows t tells).2 ∙ disks_before before (c ∷ []) j le

    module _ (h : History) (lo : ℕ) (was down : Option ℕ) (broken : IsResumable (now start) x said) (held : IsHeld slots (now start) h lo was)
        (weak : (w : ℕ) → IsWeak (now start) w → down ≡ Some w) where
      earlier : (j : ℕ) → moments start ≤ j → j ≤ moments before → IsAbsentSince n t (moments start) j down → IsHeld slots (disks t j) h lo down
      earlier j from to absent =
          subst (λ (u : Disks). IsHeld slots u h lo down) (sym (at j to))
          ((holds before told).3 h lo j was down broken held from to
          (λ k d k_from k_to l gone. absent k d k_from k_to l (ap (λ (u : Disks). is_present (u.power d)) (at k (omega arith)) ∙ gone)) weak)

      module _ (absent : IsAbsentSince n t (moments start) (moments t) down) where
        absent_before : IsAbsentSince n before (moments start) (moments before) down
        absent_before k d from to l gone =
            let more = long in
            absent k d from (omega arith) l (ap (λ (u : Disks). is_present (u.power d)) (at k to) ∙ gone)

        held_before : IsHeld slots (now before) h lo down
        held_before =
            subst (λ (u : Disks). IsHeld slots u h lo down) (disks_last before)
            ((holds before told).3 h lo (moments before) was down broken held (holds before told).2 (omega arith) absent_before weak)

        same : (ends before told).0 ≡ start
        same = let z : Some (ends before told).0 ≡ Some start = sym (ends before told).1 ∙ (holds before told).1 in cc

        rest_before : IsAtRest (now before) said.meta
        rest_before =
            (subst (λ (u : Trail). IsResumable (now u) x said → IsHeld slots (now u) h lo was → IsAbsentSince n before (moments u) (moments before) down
            → ((w : ℕ) → IsWeak (now u) w → down ≡ Some w) → IsAtRest (now before) said.meta × IsHeld slots (now before) (take said.meta.writes h) said.meta.writes (out_disk (now before).power said.meta))
            same (λ b e a w. (ends before told).2 h lo was down b e a w) broken held absent_before weak).0

        named : (w : ℕ) → named_out said.meta.out ≡ Some w → down ≡ Some w
        named w is = weak w (out_weak x said broken.log.stands (out_named (now start).power said.meta w is))

        gone_before : (e : ℕ) → e < n → is_present ((now before).power e) ≡ false → down ≡ Some e
        gone_before e l off = absent_before (moments before) e (holds before told).2 (omega arith) l (ap (λ (u : Disks). is_present (u.power e)) (disks_last before) ∙ off)

        gone_after : (e : ℕ) → e < n → is_present ((step c (now before)).power e) ≡ false → down ≡ Some e
        gone_after e l off =
            let from = (holds before told).2 in
            let more = long in
            absent (moments t) e (omega arith) (omega arith) l (ap (λ (u : Disks). is_present (u.power e)) (disks_last t ∙ last) ∙ off)

        missing : (e : ℕ) → IsMissing (now before).power said.meta e → down ≡ Some e
        missing e is = elim is.is [ inl off ↦ gone_before e is.disk off | inr name ↦ named e name ]

        resting : Resting slots said.meta h lo (step c (now before))
        resting =
            let was = resting_from slots (now before) said.meta h lo down rest_before held_before in
            elim (cases_Bool (is_done c)) [
              | inl done ↦ resting_done slots said.meta h lo c (now before) quiet done was
              | inr failed ↦
                  let lost = gone_after (disk_of c) (quiet_low n c quiet) (ap is_present (lost_power n c (now before) quiet failed)) in
                  resting_lost slots said.meta h lo c (now before) quiet failed rest_before.log.stands.says.log.meta.in_range
                  (λ e is. let z : Some e ≡ Some (disk_of c) = sym (missing e is) ∙ lost in cc) was
            ]

        out : (w : ℕ) → out_disk (step c (now before)).power said.meta ≡ Some w → down ≡ Some w
        out w is = split (named_out said.meta.out) refl is
          where
            split : (o : Option ℕ) → named_out said.meta.out ≡ o → or_else o (first_absent (step c (now before)).power n) ≡ Some w → down ≡ Some w
            split (Some u) name found = named w (name ∙ found)
            split None name found = let gone = first_absent_is (step c (now before)).power n w found in gone_after w gone.0 gone.1

        held_after : IsHeld slots (step c (now before)) h lo down
        held_after =
            let it = resting_held slots said.meta h lo (step c (now before)) resting in
            record { whole = it.whole; lost = it.lost; weak = λ i w image is. out w (it.weak i w image is) }

        rest_after : IsAtRest (step c (now before)) said.meta
        rest_after = resting_rest slots said.meta h lo (step c (now before)) resting

  pub call_recovers : RecoversHeld slots x said old new
  call_recovers t tells = (
    start t tells,
    (holds (before t tells) (told t tells)).1,
    (let from = (holds (before t tells) (told t tells)).2 in let more = long t tells in omega arith),
    λ h lo j was down broken held from to absent weak. elim (cases_lt (moments (before t tells)) j) [
      | inr le ↦ earlier t tells h lo was down broken held weak j from le absent
      | inl gt ↦
          let more = long t tells in
          let end : j ≡ moments t = omega arith in
          let all = subst (λ (k : ℕ). IsAbsentSince n t (moments (start t tells)) k down) end absent in
          subst (λ (u : Disks). IsHeld slots u h lo down) (sym (ap (λ (k : ℕ). disks t k) end ∙ disks_last t ∙ last t tells)) (held_after t tells h lo was down broken held weak all)
    ],
  )

  pub call_ends : EndsHeld slots x said said.meta old new
  call_ends t tells = (
    start t tells,
    (holds (before t tells) (told t tells)).1,
    λ h lo was down broken held absent weak.
        let rest = subst (λ (u : Disks). IsAtRest u said.meta) (sym (last t tells)) (rest_after t tells h lo was down broken held weak absent) in
        let held_by = subst (λ (u : Disks). IsHeld slots u h lo (out_disk u.power said.meta)) (sym (last t tells))
        (resting_held slots said.meta h lo _ (resting t tells h lo was down broken held weak absent)) in
        (rest, rest_held slots (now t) said.meta h lo (out_disk (now t).power said.meta) rest held_by),
  )

-- Any reads and syncs after it.
calls_recover : (slots x : ℕ) (said : LogState) (old mid : Option Trail) (s : Trail) (cs : List Call) → mid ≡ Some s → EachCall (IsReadOrSync said.meta.setup.geometry.disks) (now s) cs
    → RecoversHeld slots x said old mid → EndsHeld slots x said said.meta old mid
    → RecoversHeld slots x said old (Some (extend s cs)) × EndsHeld slots x said said.meta old (Some (extend s cs))
calls_recover slots x said old mid s [] is each holds ends =
    subst (λ (o : Option Trail). RecoversHeld slots x said old o × EndsHeld slots x said said.meta old o)
    (is ∙ ap (λ (l : List Call). Some (record { start = s.start; calls = l })) (sym (append-nil s.calls))) (holds, ends)
calls_recover slots x said old mid s (c ∷ cs) is each holds ends =
    let next : Trail = extend s (c ∷ []) in
    let grows : GrowsByCall mid (Some next) c = (λ t e. let same : next ≡ t = cc in (s, is, sym same)) in
    let here : now next ≡ step c (now s) = now-extend s (c ∷ []) in
    subst (λ (u : Trail). RecoversHeld slots x said old (Some u) × EndsHeld slots x said said.meta old (Some u)) (extend-extend s (c ∷ []) cs)
    (calls_recover slots x said old (Some next) next cs refl (subst (λ (u : Disks). EachCall (IsReadOrSync said.meta.setup.geometry.disks) u cs) (sym here) each.2)
    (call_recovers slots x said old mid (Some next) c each.1 grows holds ends) (call_ends slots x said old mid (Some next) c each.1 grows holds ends))

pub quiet_recovers : (slots x : ℕ) (said : LogState) (old mid new : Option Trail) → Ran mid new (EachCall (IsReadOrSync said.meta.setup.geometry.disks))
    → Recovers slots x said old mid → Recovers slots x said old new
quiet_recovers slots x said old mid new ran r = record {
  grows = Ran-then (λ s cs. Unit {0}) (λ s cs ds a b. tt) old mid new r.grows
      (λ t tells. let it = ran t tells in record { from = it.from; was = it.was; calls = it.calls; is = it.is; holds = tt });
  holds = λ t tells. let it = ran t tells in (calls_recover slots x said old mid it.from it.calls it.was it.holds r.holds r.ends).0 t (ap Some (sym it.is));
  ends = λ t tells. let it = ran t tells in (calls_recover slots x said old mid it.from it.calls it.was it.holds r.holds r.ends).1 t (ap Some (sym it.is));
}
