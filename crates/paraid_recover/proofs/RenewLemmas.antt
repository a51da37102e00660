-- A meta of version 1 is brought to version 2.
use Rattle.std.specs.Prelude.{◌≡◌, ◌≢◌, ℕ, ◌+◌, ◌^◌, ◌<◌, ◌≤◌, ◌==◌, ◌⊎◌, Bool, true, false, [], Option, Some, None}
use Rattle.std.proofs.Common.{refl, sym, ◌∙◌, ap, subst, arith, inl, inr, length-append}
use Rattle.std.proofs.lemmas.Bool.{cases_lt}
use Rattle.std.proofs.lemmas.Bool.Decides.{nat_tests}
use Rattle.paraid_base.specs.History.{History}
use Rattle.paraid_rack.specs.Disks.{Disks, is_present}
use Rattle.paraid_rack.specs.Slots.{Slot}
use Rattle.paraid_rack.specs.Trail.{Trail, disks, moments, now}
use Rattle.paraid_record.specs.declared.meta.Meta.{Meta}
use Rattle.paraid_record.specs.declared.meta.Setup.{Setup}
use Rattle.paraid_record.specs.Range.{IsInRange, IsOutInRange, IsVersionInRange}
use Rattle.paraid_moves.proofs.NextLemmas.{witnesses_now}
use Rattle.paraid_image.specs.FirstWrites.{HoldsFirstWrites}
use Rattle.paraid_image.specs.HeldAt.{IsHeld}
use Rattle.paraid_image.specs.Out.{IsWeak, named_out}
use Rattle.paraid_image.specs.Out.IsWeak.{out as out_weak}
use Rattle.paraid_image.specs.Rest.{IsAtRest}
use Rattle.paraid_image.specs.Sides.{LogState}
use Rattle.paraid_image.specs.Standing.{contents}
use Rattle.paraid_image.proofs.CallLemmas.{decide_some, out_named}
use Rattle.paraid_moves.proofs.MoveLemmas.{fits_later}
use Rattle.paraid_moves.proofs.RangeLemmas.{later_in_range}
use Rattle.paraid_txn.specs.Commit.{EndsCommitted, IsEitherMissing, IsCommitted, IsNext, IsOldOrNew, IsWholeOrAbsent}
use Rattle.paraid_txn.specs.Losses.{IsAlone, IsOneOut, IsOutOfCommit, IsWell}
use Rattle.paraid_txn.specs.Losses.IsOutOfCommit.{is_absent, was_named, is_named}
use Rattle.paraid_txn.specs.Resume.{IsResumable}
use Rattle.paraid_txn.proofs.HeldCommitLemmas.{held_commits}
use Rattle.paraid_txn.proofs.RanLemmas.{commit_moments, commits_now}
use Rattle.paraid_recover.specs.HeldMoments.{EndsHeld, IsAbsentSince, RecoversHeld}
use Rattle.paraid_recover.specs.RecoveryMark.{renewed, renewed_by, with_mark}
use Rattle.paraid_recover.proofs.EndsLemmas.{at_end, at_start}
use Rattle.paraid_recover.proofs.RecoverLemmas.{disks_before, disks_last}
use Rattle.paraid_recover.proofs.QuietCallsLemmas.{content_at_rest, resting_from}

two_known : (s : Setup) → IsVersionInRange 2 s
two_known s = record {
  known = (omega arith, omega arith);
  burst = λ is. absurd (let z : 2 ≡ 1 = is in omega arith);
  period = λ is. absurd (let z : 2 ≡ 1 = is in omega arith);
}

-- version 2 is in range whatever version was
pub in_version_two : (m : Meta) (e : ℕ) → IsInRange m → 1 ≤ e → e < 2 ^ 64 → IsInRange (record m { version = 2; epoch = e })
in_version_two m e range first fits =
    later_in_range m (record m { version = 2; epoch = e }) range (record { setup = refl; gear = refl; phase = refl; fill = refl; out = refl; spins = refl })
    (two_known m.setup) (record { first = first; epoch_fits = fits; writes_fit = range.counters.writes_fit; ticks_fit = range.counters.ticks_fit }) (omega arith)

renewed_version : (m : Meta) (b : Bool) → IsInRange m → (m.version == 1) ≡ b → (renewed_by b m).version ≡ 2
renewed_version m true range is = refl
renewed_version m false range is =
    let apart : m.version ≢ 1 = grind (arith, nat_tests) in
    let low = range.version.known.0 in
    let high = range.version.known.1 in
    omega arith

-- the meta that stands at the end of a recovery has version 2
pub version_marked : (m : Meta) (o : Option ℕ) → IsInRange m → (with_mark m o).version ≡ 2
version_marked m None range = renewed_version m (m.version == 1) range refl
version_marked m (Some d) range = refl

renewed_setup_by : (m : Meta) (b : Bool) → (renewed_by b m).setup ≡ m.setup
renewed_setup_by m true = refl
renewed_setup_by m false = refl

renewed_out_by : (m : Meta) (b : Bool) → (renewed_by b m).out ≡ m.out
renewed_out_by m true = refl
renewed_out_by m false = refl

pub renewed_setup : (m : Meta) → (renewed m).setup ≡ m.setup
renewed_setup m = renewed_setup_by m (m.version == 1)

pub renewed_out : (m : Meta) → (renewed m).out ≡ m.out
renewed_out m = renewed_out_by m (m.version == 1)

-- a meta of version 1, and one that is not
pub renewed_one : (m : Meta) → m.version ≡ 1 → renewed m ≡ record m { version = 2; epoch = m.epoch + 1 }
renewed_one m is = let one : (m.version == 1) ≡ true = grind (arith, nat_tests) in ap (λ (b : Bool). renewed_by b m) one

pub renewed_two : (m : Meta) → m.version ≢ 1 → renewed m ≡ m
renewed_two m not = let other : (m.version == 1) ≡ false = grind (arith, nat_tests) in ap (λ (b : Bool). renewed_by b m) other

abbrev pub after : Meta → Meta
after m = record m { version = 2; epoch = m.epoch + 1 }

-- it can be the next meta
pub next_renewed : (m : Meta) (s : Disks) → IsAtRest s m → IsNext s m (after m)
next_renewed m s rest = record {
  epoch = refl;
  setup = refl;
  out = λ d e p q. let z : Some d ≡ Some e = sym p ∙ q in cc;
  comes_in = λ x l here is not. absurd (not is);
  fresh_closed = λ x u fresh l. rest.log.fresh_closed x u (record { is = fresh.is; present = fresh.present }) l;
}

-- one disk at most is out after a commit that names the same disk out
pub one_kept : (n : ℕ) (named lost : Option ℕ) (old new : ℕ → Slot) → ((d : ℕ) → lost ≢ Some d → IsWell (old d) (new d))
    → ((d : ℕ) → lost ≡ Some d → IsAlone n (IsOutOfCommit (λ e. (old e).power) n named named) d)
    → IsOneOut n named old → IsOneOut n named new
one_kept n named lost old new well alone one d e p q = both (is d p) (is e q)
  where
    is : (x : ℕ) → IsOutOfCommit (λ y. (new y).power) n named None x → (lost ≡ Some x) ⊎ IsOutOfCommit (λ y. (old y).power) n named None x
    is x (was_named name) = inr (was_named name)
    is x (is_named name) = inr (is_named name)
    is x (is_absent low gone) = elim (decide_some lost x) [
      | inl lost_is ↦ inl lost_is
      | inr not ↦ inr (is_absent low (sym (well x not).power ∙ gone))
    ]

    wide : (x : ℕ) → IsOutOfCommit (λ y. (old y).power) n named None x → IsOutOfCommit (λ y. (old y).power) n named named x
    wide x (was_named name) = was_named name
    wide x (is_named name) = absurd (let z : None ≡ Some x = name in cc)
    wide x (is_absent low gone) = is_absent low gone

    both : (lost ≡ Some d) ⊎ IsOutOfCommit (λ y. (old y).power) n named None d → (lost ≡ Some e) ⊎ IsOutOfCommit (λ y. (old y).power) n named None e → d ≡ e
    both (inl x) (inl y) = let z : Some d ≡ Some e = sym x ∙ y in cc
    both (inl x) (inr y) = sym ((alone d x).alone e (wide e y))
    both (inr x) (inl y) = (alone e y).alone d (wide d x)
    both (inr x) (inr y) = one d e x y

-- What is held at a moment of the commit, where the disk that is out by the meta is the one that is
-- down.
module _ (slots : ℕ) (s : Disks) (m : Meta) (h : History) (lo : ℕ) (down : Option ℕ) (rest : IsAtRest s m) (held : IsHeld slots s h lo down) where
  before_holds : HoldsFirstWrites slots s m [] h lo
  before_holds =
      let r = resting_from slots s m h lo down rest held in
      record { low = r.copies.low; high = r.copies.high; content = content_at_rest slots s m h lo down rest held }

  after_holds : HoldsFirstWrites slots s (after m) [] h lo
  after_holds = record {
    low = before_holds.low;
    high = before_holds.high;
    content = fits_later slots s.power s.size h m.writes m (after m) (contents s []) (record { setup = refl; gear = refl; phase = refl; fill = refl; out = refl; spins = refl })
        (λ d u fresh. (subst (IsOutInRange m.setup.geometry m.gear) fresh.is rest.log.stands.says.log.meta.in_range.out).0) before_holds.content;
  }

  pub renew_held : (t : Disks) → ((d : ℕ) → IsEitherMissing t.power m (after m) d → down ≡ Some d) → IsOldOrNew s m (after m) [] t → IsHeld slots t h lo down
  renew_held t one moment = held_commits slots s m (after m) [] h lo before_holds after_holds (let r = resting_from slots s m h lo down rest held in witnesses_now slots m r.f h lo s r.copies) t down one moment

-- The commit after a recovery.
module _ (slots x : ℕ) (said : LogState) (old mid new : Option Trail) (holds : RecoversHeld slots x said old mid) (ends : EndsHeld slots x said said.meta old mid)
    (whole : IsWholeOrAbsent mid new said.meta (after said.meta) []) where
  abbrev n : ℕ
  n = said.meta.setup.geometry.disks

  module _ (t : Trail) (tells : new ≡ Some t) where
    abbrev end : Trail
    end = (whole t tells).from

    told : mid ≡ Some end
    told = (whole t tells).was

    abbrev start : Trail
    start = (holds end told).0

    longer : moments end ≤ moments t
    longer = let long = ap moments (whole t tells).is ∙ length-append end.calls (whole t tells).calls in omega arith

    at : (j : ℕ) → j ≤ moments end → disks t j ≡ disks end j
    at j le = ap (λ (u : Trail). disks u j) (whole t tells).is ∙ disks_before end (whole t tells).calls j le

    module _ (h : History) (lo : ℕ) (was down : Option ℕ) (broken : IsResumable (now start) x said) (held : IsHeld slots (now start) h lo was)
        (weak : (w : ℕ) → IsWeak (now start) w → down ≡ Some w) where
      earlier : (j : ℕ) → moments start ≤ j → j ≤ moments end → IsAbsentSince n t (moments start) j down → IsHeld slots (disks t j) h lo down
      earlier j from to absent =
          subst (λ (u : Disks). IsHeld slots u h lo down) (sym (at j to))
          ((holds end told).3 h lo j was down broken held from to
          (λ k d k_from k_to l gone. absent k d k_from k_to l (ap (λ (u : Disks). is_present (u.power d)) (at k (omega arith)) ∙ gone)) weak)

      named : (d : ℕ) → named_out said.meta.out ≡ Some d → down ≡ Some d
      named d is = weak d (out_weak x said broken.log.stands (out_named (now start).power said.meta d is))

      module _ (j : ℕ) (to : j ≤ moments t) (from : moments end ≤ j) (absent : IsAbsentSince n t (moments start) j down) where
        absent_mid : IsAbsentSince n end (moments start) (moments end) down
        absent_mid k d k_from k_to l gone = absent k d k_from (omega arith) l (ap (λ (u : Disks). is_present (u.power d)) (at k k_to) ∙ gone)

        held_mid : IsHeld slots (now end) h lo down
        held_mid =
            subst (λ (u : Disks). IsHeld slots u h lo down) (disks_last end)
            ((holds end told).3 h lo (moments end) was down broken held (holds end told).2 (omega arith) absent_mid weak)

        same : (ends end told).0 ≡ start
        same = let z : Some (ends end told).0 ≡ Some start = sym (ends end told).1 ∙ (holds end told).1 in cc

        rest_mid : IsAtRest (now end) said.meta
        rest_mid = (at_start (ends end told).0 start end said same ((ends end told).2 h lo was down) broken held absent_mid weak).0

        -- a disk that is absent, or named out by one of the two metas
        missing : (d : ℕ) → IsEitherMissing (disks t j).power said.meta (after said.meta) d → down ≡ Some d
        missing d e = elim e [ inl p ↦ one p.disk p.is | inr p ↦ one p.disk p.is ]
          where
            one : d < n → (is_present ((disks t j).power d) ≡ false) ⊎ (named_out said.meta.out ≡ Some d) → down ≡ Some d
            one low is = elim is [
              | inl off ↦ let high = (holds end told).2 in absent j d (omega arith) (omega arith) low off
              | inr name ↦ named d name
            ]

        later : IsHeld slots (disks t j) h lo down
        later =
            let it = commit_moments mid new said.meta (after said.meta) [] whole t tells in
            let first : it.0 ≡ end = (let z : Some it.0 ≡ Some end = sym it.1 ∙ told in cc) in
            let moment : IsOldOrNew (now end) said.meta (after said.meta) [] (disks t j) = (subst (λ (u : Trail). IsAtRest (now u) said.meta → IsNext (now u) said.meta (after said.meta) → (k : ℕ)
            → moments u ≤ k → k ≤ moments t → IsOldOrNew (now u) said.meta (after said.meta) [] (disks t k)) first it.3) rest_mid (next_renewed said.meta (now end) rest_mid) j from to in
            renew_held slots (now end) said.meta h lo down rest_mid held_mid (disks t j) missing moment

  pub renew_recovers : RecoversHeld slots x said old new
  renew_recovers t tells = (
    start t tells,
    (holds (end t tells) (told t tells)).1,
    (let from = (holds (end t tells) (told t tells)).2 in let more = longer t tells in omega arith),
    λ h lo j was down broken held from to absent weak. elim (cases_lt (moments (end t tells)) j) [
      | inr le ↦ earlier t tells h lo was down broken held weak j from le absent
      | inl gt ↦ later t tells h lo was down broken held weak j to (omega arith) absent
    ],
  )

  pub renew_ends : EndsCommitted mid new said.meta (after said.meta) [] → EndsHeld slots x said (after said.meta) old new
  renew_ends commits t tells = (
    start t tells,
    (holds (end t tells) (told t tells)).1,
    λ h lo was down broken held absent weak.
        let c = commits_now mid new said.meta (after said.meta) [] commits t tells in
        let first : c.0 ≡ end t tells = (let z : Some c.0 ≡ Some (end t tells) = sym c.1 ∙ told t tells in cc) in
        let more = longer t tells in
        let rest_then = rest_mid t tells h lo was down broken held weak (moments t) (omega arith) more absent in
        let committed = (subst (λ (u : Trail). IsAtRest (now u) said.meta → IsNext (now u) said.meta (after said.meta) → IsCommitted (now u) (now t) said.meta (after said.meta) []) first c.2)
        rest_then (next_renewed said.meta (now (end t tells)) rest_then) in
        let held_end = subst (λ (u : Disks). IsHeld slots u h lo down) (disks_last t) (later t tells h lo was down broken held weak (moments t) (omega arith) more absent) in
        let missing_end : (d : ℕ) → IsEitherMissing (now t).power said.meta (after said.meta) d → down ≡ Some d =
        subst (λ (u : Disks). (d : ℕ) → IsEitherMissing u.power said.meta (after said.meta) d → down ≡ Some d) (disks_last t)
        (missing t tells h lo was down broken held weak (moments t) (omega arith) more absent) in
        let rest = committed.rest (record { one = λ a b p q. let z : Some a ≡ Some b = sym (missing_end a p) ∙ missing_end b q in cc }) in
        (rest, at_end slots (now t) (after said.meta) h lo down rest held_end),
  )
