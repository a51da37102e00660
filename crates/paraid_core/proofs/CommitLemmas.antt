-- What a commit leaves of what a core stands for.
use Rattle.paraid_image.proofs.AlikeLemmas.{stands_alike}
use Rattle.paraid_image.specs.Mark.{meta_after_loss, meta_with_lost}
use Rattle.std.specs.Prelude.{◌≡◌, ◌≢◌, ℕ, ◌+◌, ◌*◌, ◌<◌, ◌≤◌, ◌⊎◌, ◌&&◌, nat_lt, Bool, true, false, List, [], ◌∷◌, ◌++◌, drop, Option, Some, None, length}
use Rattle.std.proofs.Common.{refl, sym, ◌∙◌, ap, subst, arith, inl, inr}
use Rattle.std.proofs.lemmas.Bool.{cases_Bool}
use Rattle.std.proofs.lemmas.Bool.Decides.{nat_tests}
use Rattle.paraid_base.specs.declared.state.Out.{Out}
use Rattle.paraid_base.specs.declared.state.Out.TheVariants.{Fresh, Gone, No}
use Rattle.paraid_base.specs.History.{History}
use Rattle.paraid_base.proofs.StatesLemmas.{rising_to-beside}
use Rattle.paraid_base.specs.Log.{log_least}
use Rattle.paraid_base.specs.Regions.{map_count, map_place_of}
use Rattle.paraid_dirty.specs.Table.{is_dirty}
use Rattle.paraid_rack.specs.declared.call.Call.{Call}
use Rattle.paraid_rack.specs.declared.call.Power.{Power}
use Rattle.paraid_rack.specs.declared.call.Power.TheVariants.{Absent}
use Rattle.paraid_rack.specs.Disks.{Disks, IsImage, is_present, step}
use Rattle.paraid_rack.specs.Slots.{Agrees, Slot}
use Rattle.paraid_rack.specs.Told.{Ran, CrashTriple, Through}
use Rattle.paraid_rack.specs.Trail.{Trail, now, run}
use Rattle.paraid_rack.proofs.TrailsLemmas.{now-extend}
use Rattle.paraid_record.specs.declared.meta.Meta.{Meta}
use Rattle.paraid_record.specs.Range.{IsInRange}
use Rattle.paraid_image.specs.Rest.{IsAtRest}
use Rattle.paraid_txn.specs.Commit.{EndsCommitted, IsCommitted, IsEitherMissing, IsNext, IsOldOrNew, IsOneMissing, IsWholeOrAbsent, ImageStandsFor, gone_out}
use Rattle.paraid_image.specs.Content.{view_by}
use Rattle.paraid_image.specs.HeldAt.{IsSoundFrom}
use Rattle.paraid_image.specs.FirstWrites.{HoldsFirstWrites}
use Rattle.paraid_image.specs.Out.{is_out, named_out, or_else, out_disk}
use Rattle.paraid_image.specs.Sides.{Batch, LogState, closed_over, has_place, stored_block}
use Rattle.paraid_image.specs.Sound.{ContentOk, AreWitnessesTrue}
use Rattle.paraid_image.specs.Spot.{map_bit, map_disk}
use Rattle.paraid_image.specs.Standing.{Contents, contents, Stands}
use Rattle.paraid_image.proofs.OutLemmas.{missing_is_out, named_below}
use Rattle.paraid_image.proofs.StandingLemmas.{Stands-same}
use Rattle.paraid_image.proofs.ViewLemmas.{dirty_without, map_bit_same, map_disk_other}
use Rattle.paraid_txn.proofs.HeldCommitLemmas.{held_commits, stands_sound}
use Rattle.paraid_moves.specs.Copying.{HoldsWithCopies}
use Rattle.paraid_moves.proofs.CopyCommitLemmas.{copying_from_rest}
use Rattle.paraid_moves.proofs.FailLemmas.{marks_gone}
use Rattle.paraid_moves.proofs.MoveLemmas.{fits_later}
use Rattle.paraid_moves.proofs.NextLemmas.{holds_now, next_gone, next_same, rest_now, witnesses_now}
use Rattle.paraid_txn.specs.Losses.{CanWrite}
use Rattle.paraid_core.specs.Fills.{KeepsFilled}
use Rattle.paraid_core.specs.Replaced.{KeepsCommitted}
use Rattle.paraid_core.specs.CoreInvariant.{AreCopiesSynced, IsHeldWithOneMissing, IsWitnessBorne, HoldsBetweenCalls}
use Rattle.paraid_core.proofs.AfterLemmas.{down_named}
pub use Rattle.paraid_core.proofs.LostDiskLemmas.{out_all}
use Rattle.paraid_core.proofs.ReadsLemmas.{knows_named, through_last}
use Rattle.paraid_core.proofs.ReadyLemmas.{IsLostOnly, some_is}

through_map : (P Q : Disks → Type 0) → ((s : Disks) → P s → Q s) → (s : Disks) (cs : List Call) → Through P s cs → Through Q s cs
through_map P Q go s [] p = go s p
through_map P Q go s (c ∷ cs) p = (go s p.0, through_map P Q go (step c s) cs p.1)

cancel : (xs ys zs : List Call) → xs ++ ys ≡ xs ++ zs → ys ≡ zs
cancel [] ys zs e = e
cancel (x ∷ xs) ys zs e = cancel xs ys zs (ap (drop 1) e)

-- a promise for each meta that may have stood before, over the same calls
pub for_each_before : (named : Option ℕ) (Q : Meta → Disks → List Call → Type 0) (old new : Option Trail) (any : Meta) → named ≡ named_out any.out
    → ((before : Meta) → named ≡ named_out before.out → Ran old new (Q before))
    → Ran old new (λ s cs. (before : Meta) → named ≡ named_out before.out → Q before s cs)
for_each_before named Q old new any is each t tells =
    let r = each any is t tells in
    record {
      from = r.from;
      was = r.was;
      calls = r.calls;
      is = r.is;
      holds = λ before is_before.
          let q = each before is_before t tells in
          let z : Some q.from ≡ Some r.from = sym q.was ∙ r.was in
          let from : q.from ≡ r.from = cc in
          let both : q.from.calls ++ q.calls ≡ r.from.calls ++ r.calls = ap (λ (u : Trail). u.calls) (sym q.is ∙ r.is) in
          let calls : q.calls ≡ r.calls = cancel r.from.calls q.calls r.calls (ap (λ (u : Trail). u.calls ++ q.calls) (sym from) ∙ both) in
          subst (λ (u : Trail). Q before (now u) r.calls) from (subst (λ (cs : List Call). Q before (now q.from) cs) calls q.holds);
    }

-- two promises over the same calls
pub both_of : (Q R : Disks → List Call → Type 0) (old new : Option Trail) → Ran old new Q → Ran old new R → Ran old new (λ s cs. Q s cs × R s cs)
both_of Q R old new one two t tells =
    let r = one t tells in
    record {
      from = r.from;
      was = r.was;
      calls = r.calls;
      is = r.is;
      holds =
          let q = two t tells in
          let z : Some q.from ≡ Some r.from = sym q.was ∙ r.was in
          let from : q.from ≡ r.from = cc in
          let both : q.from.calls ++ q.calls ≡ r.from.calls ++ r.calls = ap (λ (u : Trail). u.calls) (sym q.is ∙ r.is) in
          let calls : q.calls ≡ r.calls = cancel r.from.calls q.calls r.calls (ap (λ (u : Trail). u.calls ++ q.calls) (sym from) ∙ both) in
          (r.holds, subst (λ (u : Trail). R (now u) r.calls) from (subst (λ (cs : List Call). R (now q.from) cs) calls q.holds));
    }

-- what a commit promises of its moments, and of its end, for the meta that stood before
abbrev pub AtEach : Meta → Batch → Meta → Disks → List Call → Type 0
AtEach after batch before start calls = IsAtRest start before → IsNext start before after → Through (IsOldOrNew start before after batch) start calls

-- nothing loose makes no difference to witnesses
still_true : (s : Disks) (o : Option ℕ) → AreWitnessesTrue (record s { loose = λ d p. false }) o → AreWitnessesTrue s o
unfolding stored_block
still_true s o holds = holds

abbrev pub AtLast : Meta → Batch → Meta → Disks → List Call → Type 0
AtLast after batch before start calls = IsAtRest start before → IsNext start before after → IsCommitted start (run start calls) before after batch

abbrev pub out_of : Option ℕ → Out
out_of None = No
out_of (Some d) = Gone d

pub out_of_named : (o : Option ℕ) → o ≡ named_out (out_of o)
out_of_named None = refl
out_of_named (Some d) = refl

pub map_disk_low : (o : Option ℕ) → map_disk o < 2
map_disk_low o = elim (cases_Bool (is_out o 0)) [ inl here ↦ rw here (omega arith) | inr not ↦ rw not (omega arith) ]

marked_epoch : (lost : Option ℕ) (m : Meta) → (meta_with_lost lost m).epoch ≡ m.epoch
marked_epoch None m = refl
marked_epoch (Some d) m = refl

marked_writes : (lost : Option ℕ) (m : Meta) → (meta_with_lost lost m).writes ≡ m.writes
marked_writes None m = refl
marked_writes (Some d) m = refl

marked_setup : (lost : Option ℕ) (m : Meta) → (meta_with_lost lost m).setup ≡ m.setup
marked_setup None m = refl
marked_setup (Some d) m = refl

gone_is_named : (o : Out) (x : ℕ) → gone_out o ≡ Some x → named_out o ≡ Some x
gone_is_named No x is = is
gone_is_named (Gone d) x is = is
gone_is_named (Fresh d u) x is = let z : None ≡ Some x = is in cc

module _ (slots : ℕ) (named : Option ℕ) (m : Meta) (table : List (List Bool)) (batch : Batch) (copied : List Bool) (copies_synced : AreCopiesSynced m.setup.geometry.disks copied) (h : History) (lo last : ℕ) (epoch_is : m.epoch ≡ last) (in_range : IsInRange m)
    (one : (d e : ℕ) → named ≡ Some d → named_out m.out ≡ Some e → d ≡ e) where
  abbrev after : Meta
  after = record m { epoch = last + 1 }

  abbrev P : Disks → Type 0
  P = IsHeldWithOneMissing slots m.setup.geometry.disks (or_else named (named_out m.out)) h lo

  module _ (s : Disks) (k : HoldsBetweenCalls slots named m table batch copied h lo s) where
    shape : m.setup.geometry.disks ≡ k.base.setup.geometry.disks
    shape = ap (λ (z : _). z.geometry.disks) k.next.setup

    pub rest : IsAtRest s k.base
    rest = rest_now slots k.base k.held h lo s k.copies (λ x p here. k.synced x p here (copies_synced x))

    pub next : IsNext s k.base after
    next = subst (λ (z : ℕ). IsNext s k.base (record m { epoch = z + 1 })) epoch_is k.next

    staged_then : ContentOk slots s.power s.size (view_by after s.power (contents s batch)) h m.writes
    staged_then =
        fits_later slots s.power s.size h m.writes m after (contents s batch) (record { setup = refl; gear = refl; phase = refl; fill = refl; out = refl; spins = refl })
        (λ d u fresh. named_below m.setup.geometry m.gear m.out d in_range.out (ap named_out fresh.is))
        (subst (λ (n : ℕ). ContentOk slots s.power s.size (view_by m s.power (contents s batch)) h n) (sym k.writes) k.staged)

    holds_then : HoldsFirstWrites slots s after batch h lo
    holds_then =
        let a = k.copies.low in let b = k.copies.high in let c = k.writes in
        record { low = omega arith; high = omega arith; content = staged_then }

    pub began : AreWitnessesTrue s (out_disk s.power k.base)
    began = witnesses_now slots k.base k.held h lo s k.copies

    either_down : (u : Disks) (down : Option ℕ) → ((d : ℕ) → d < m.setup.geometry.disks → is_present (u.power d) ≡ false → down ≡ Some d)
        → ((d : ℕ) → or_else named (named_out m.out) ≡ Some d → down ≡ Some d) → (d : ℕ) → IsEitherMissing u.power k.base after d → down ≡ Some d
    either_down u down absent known d (inl missing) = elim missing.is [
      | inl gone ↦ absent d (subst (λ (z : ℕ). d < z) (sym shape) missing.disk) gone
      | inr is ↦ known d (knows_named named (named_out m.out) d (sym k.named_by ∙ is))
    ]
    either_down u down absent known d (inr missing) = elim missing.is [
      | inl gone ↦ absent d missing.disk gone
      | inr is ↦ known d (down_named named m one d is)
    ]

    pub commit_through : (cs : List Call) → Through (IsOldOrNew s k.base after batch) s cs → Through P s cs
    commit_through cs th =
        through_map (IsOldOrNew s k.base after batch) P
        (λ u moment. record {
          held = λ down absent known.
              held_commits slots s k.base after batch h lo (holds_now slots k.base k.held h lo s k.copies) holds_then began u down (either_down u down absent known) moment;
        }) s cs th

  pub commit_moments : (old new : Option Trail) → ((before : Meta) → named ≡ named_out before.out → IsWholeOrAbsent old new before after batch)
      → Ran old new (CrashTriple P (HoldsBetweenCalls slots named m table batch copied h lo) P)
  commit_moments old new each t tells =
      let r = for_each_before named (AtEach after batch) old new (record m { out = out_of named }) (out_of_named named) each t tells in
      record {
        from = r.from;
        was = r.was;
        calls = r.calls;
        is = r.is;
        holds = record {
          goes = λ k.
              let th = commit_through (now r.from) k r.calls (r.holds k.base (sym k.named_by) (rest (now r.from) k) (next (now r.from) k)) in
              (th, through_last P (now r.from) r.calls th);
        };
      }

  -- the same of the metas that stand: the last one, or the next
  pub commit_whole : (old new : Option Trail) → ((before : Meta) → named ≡ named_out before.out → IsWholeOrAbsent old new before after batch)
      → Ran old new (λ start calls. (k : HoldsBetweenCalls slots named m table batch copied h lo start) → Through (IsOldOrNew start k.base (record m { epoch = m.epoch + 1 }) batch) start calls)
  commit_whole old new each t tells =
      let r = for_each_before named (AtEach after batch) old new (record m { out = out_of named }) (out_of_named named) each t tells in
      record {
        from = r.from;
        was = r.was;
        calls = r.calls;
        is = r.is;
        holds = λ k.
            subst (λ (z : ℕ). Through (IsOldOrNew (now r.from) k.base (record m { epoch = z + 1 }) batch) (now r.from) r.calls) (sym epoch_is)
            (r.holds k.base (sym k.named_by) (rest (now r.from) k) (next (now r.from) k));
      }

  -- the end, where one disk was lost, or none
  module _ (s t : Disks) (k : HoldsBetweenCalls slots named m table batch copied h lo s) (done : IsCommitted s t k.base after batch)
      (lost : Option ℕ) (known : (x d : ℕ) → named ≡ Some x → named_out (meta_with_lost lost m).out ≡ Some d → x ≡ d) (low : (d : ℕ) → lost ≡ Some d → d < m.setup.geometry.disks) (gone : (d : ℕ) → lost ≡ Some d → t.power d ≡ Absent)
      (alone : (d x : ℕ) → lost ≡ Some d → named_out m.out ≡ Some x → x ≡ d)
      (power : (x : ℕ) → x < m.setup.geometry.disks → lost ≢ Some x → t.power x ≡ s.power x) (size : (x : ℕ) → x < m.setup.geometry.disks → lost ≢ Some x → t.size x ≡ s.size x)
      (absent : (d : ℕ) → d < m.setup.geometry.disks → is_present (s.power d) ≡ false → named_out m.out ≡ Some d)
      (absent_then : (d : ℕ) → d < m.setup.geometry.disks → is_present (t.power d) ≡ false → named_out (meta_with_lost lost m).out ≡ Some d) (borne_then : IsWitnessBorne (named_out m.out) t) where
    named_by_lost : (o : Option ℕ) → lost ≡ o → (x : ℕ) → named_out m.out ≡ Some x → named_out (meta_with_lost o m).out ≡ Some x
    named_by_lost None is x k = k
    named_by_lost (Some d) is x k = ap Some (sym (alone d x is k))

    down_then : (d : ℕ) → IsEitherMissing t.power k.base after d → (named ≡ Some d) ⊎ (named_out (meta_with_lost lost m).out ≡ Some d)
    down_then d (inl missing) = elim missing.is [
      | inl g ↦ inr (absent_then d (subst (λ (z : ℕ). d < z) (sym (shape s k)) missing.disk) g)
      | inr is ↦ inl (sym k.named_by ∙ is)
    ]
    down_then d (inr missing) = inr (elim missing.is [ inl g ↦ absent_then d missing.disk g | inr is ↦ named_by_lost lost refl d is ])

    one_down : (d e : ℕ) → (named ≡ Some d) ⊎ (named_out (meta_with_lost lost m).out ≡ Some d) → (named ≡ Some e) ⊎ (named_out (meta_with_lost lost m).out ≡ Some e) → d ≡ e
    one_down d e (inl p) (inl q) = some_is d e (sym p ∙ q)
    one_down d e (inl p) (inr q) = known d e p q
    one_down d e (inr p) (inl q) = sym (known e d q p)
    one_down d e (inr p) (inr q) = some_is d e (sym p ∙ q)

    one_missing : IsOneMissing t.power k.base after
    one_missing = record { one = λ d e p q. one_down d e (down_then d p) (down_then e q) }

    rest_then : IsAtRest t after
    rest_then = done.rest one_missing

    abbrev i : Disks
    i = record t { loose = λ d p. false }

    image : IsImage t i
    image = record { power = λ d. refl; size = λ d. refl; block = λ d p not. refl; loose = λ d p. refl }

    stands : ImageStandsFor s i after batch
    stands = done.images.whole i image one_missing

    keeps : (y : ℕ) (said : LogState) → Stands i y said → AreWitnessesTrue i (out_disk i.power said.meta)
    keeps = done.witnesses.whole i image one_missing (began s k)

    sound : IsSoundFrom slots i h lo
    sound = stands_sound slots s i after batch h lo (holds_then s k) stands (keeps stands.disk stands.said stands.log.stands)

    stands_rest : Stands i rest_then.disk (closed_over after)
    stands_rest = stands_alike t i rest_then.disk (closed_over after)
        (record { power = λ d. refl; size = λ d. refl; block = λ d p there. refl; loose = λ d p there. sym (rest_then.synced d p there.present) }) rest_then.log.stands

    true_then : AreWitnessesTrue t (out_disk t.power after)
    true_then = still_true t (out_disk t.power after) (keeps rest_then.disk (closed_over after) stands_rest)

    said_is : sound.sound.said ≡ closed_over after
    said_is = (Stands-same i sound.sound.disk rest_then.disk sound.sound.said (closed_over after) sound.sound.log.stands stands_rest).1

    writes_are : sound.k ≡ m.writes
    writes_are = sym sound.sound.log.writes ∙ ap (λ (z : LogState). z.meta.writes) said_is

    same_contents : contents i [] ≡ contents t []
    unfolding contents
    same_contents = refl

    content : ContentOk slots t.power t.size (view_by after t.power (contents t [])) h m.writes
    content =
        subst (λ (f : Contents). ContentOk slots t.power t.size (view_by after t.power f) h m.writes) same_contents
        (subst (λ (n : ℕ). ContentOk slots i.power i.size (view_by after i.power (contents i [])) h n) writes_are
        (subst (λ (z : LogState). ContentOk slots i.power i.size (view_by z.meta i.power (contents i z.batch)) h sound.k) said_is sound.sound.content))

    copies_then : HoldsWithCopies slots after (contents t []) h (length h) t
    copies_then =
        let w = k.writes in
        record { copying = copying_from_rest t after rest_then true_then; low = omega arith; high = omega arith; content = content }

    next_then : (o : Option ℕ) → lost ≡ o → IsNext t after (record (meta_with_lost o after) { epoch = last + 1 + 1 })
    next_then None is = next_same t after (record after { epoch = last + 1 + 1 }) refl refl rest_then refl
    next_then (Some d) is = next_gone t after (record (meta_after_loss after d) { epoch = last + 1 + 1 }) refl refl rest_then d refl (λ e n. alone d e is n)

    out_then : (d : ℕ) → lost ≡ Some d → out_disk t.power after ≡ Some d
    out_then d is =
        missing_is_out t.power after d rest_then.log.stands.says.log.meta.in_range rest_then.log.single (record { disk = low d is; is = inl (ap is_present (gone d is)) }) (ap is_present (gone d is))

    staged_after : (o : Option ℕ) → lost ≡ o → ContentOk slots t.power t.size (view_by (meta_with_lost o after) t.power (contents t [])) h m.writes
    staged_after None is = content
    staged_after (Some d) is =
        marks_gone slots t.power t.size h m.writes after (contents t []) d m.spins (out_then d is) (λ e apart. refl) content

    -- past the log all is as it was staged
    place_then : (x q : ℕ) → x < m.setup.geometry.disks → lost ≢ Some x → has_place t x q ≡ has_place s x q
    place_then x q lx not =
        ap (λ (w : Power). is_present w && nat_lt q (t.size x)) (power x lx not) ∙ ap (λ (z : ℕ). is_present (s.power x) && nat_lt q z) (size x lx not)

    contents_by : (batch_then : Batch) → batch_then ≡ [] → ((d p : ℕ) → gone_out m.out ≢ Some d → has_place i d p ≡ true → log_least ≤ p → contents i batch_then d p ≡ contents s batch d p)
        → (x q : ℕ) → x < m.setup.geometry.disks → lost ≢ Some x → gone_out m.out ≢ Some x → contents t [] x q ≡ contents s batch x q
    unfolding contents
    contents_by batch_then none blocks x q lx not not_gone = elim (cases_Bool (nat_lt q log_least)) [
      | inl near ↦ rw near refl
      | inr far ↦ elim (cases_Bool (has_place t x q)) [
        | inl there ↦ rw none at (blocks x q not_gone there (grind (arith, nat_tests)))
        | inr nowhere ↦ rw (far, nowhere, sym (place_then x q lx not) ∙ nowhere) refl
      ]
    ]

    contents_then : (x q : ℕ) → x < m.setup.geometry.disks → lost ≢ Some x → gone_out m.out ≢ Some x → contents t [] x q ≡ contents s batch x q
    contents_then = contents_by stands.said.batch (ap (λ (z : LogState). z.batch) (Stands_batch)) stands.blocks
      where
        Stands_batch : stands.said ≡ closed_over after
        Stands_batch = (Stands-same i stands.disk rest_then.disk stands.said (closed_over after) stands.log.stands stands_rest).1

    was_out : (e : ℕ) → lost ≡ Some e → (named_out m.out ≡ None) ⊎ (named_out m.out ≡ Some e)
    was_out e is = by (named_out m.out) refl
      where
        by : (p : Option ℕ) → named_out m.out ≡ p → (named_out m.out ≡ None) ⊎ (named_out m.out ≡ Some e)
        by None at = inl at
        by (Some x) at = inr (at ∙ ap Some (alone e x is at))

    geometry_low : 3 ≤ m.setup.geometry.disks
    geometry_low = m.setup.geometry.disks_low

    -- the map that was looked at
    abbrev o : Option ℕ
    o = named_out m.out

    out_was : out_disk s.power m ≡ o
    out_was = out_all s.power m absent

    abbrev f : Contents
    f = contents s batch

    was_bit : (r d : ℕ) → r < 512 * map_count m.setup.geometry → is_dirty table r d ≡ map_bit m.setup.geometry (f (map_disk o)) r d
    was_bit r d l = k.dirty r d l ∙ ap (λ (z : Option ℕ). map_bit m.setup.geometry (f (map_disk z)) r d) out_was

    bit_by : (p : Option ℕ) → lost ≡ p → (r d : ℕ) → r < 512 * map_count m.setup.geometry
        → is_dirty table r d ≡ map_bit m.setup.geometry (contents t [] (map_disk (named_out (meta_with_lost p after).out))) r d
    bit_by None is r d l =
        let x : ℕ = map_disk o in
        let low_x : x < m.setup.geometry.disks = (let two = map_disk_low o in let three = geometry_low in omega arith) in
        let not_gone : gone_out m.out ≢ Some x = (λ g. map_disk_other x (ap map_disk (sym (gone_is_named m.out x g)))) in
        let not_lost : lost ≢ Some x = (λ g. let z : None ≡ Some x = sym is ∙ g in cc) in
        was_bit r d l ∙ map_bit_same m.setup.geometry (f x) (contents t [] x) r d (sym (contents_then x (map_place_of m.setup.geometry r) low_x not_lost not_gone))
    bit_by (Some e) is r d l =
        let x : ℕ = map_disk (Some e) in
        let low_x : x < m.setup.geometry.disks = (let two = map_disk_low (Some e) in let three = geometry_low in omega arith) in
        let not_gone : gone_out m.out ≢ Some x = (λ g. map_disk_other e (alone e x is (gone_is_named m.out x g))) in
        let not_lost : lost ≢ Some x = (λ g. map_disk_other e (some_is x e (sym g ∙ is))) in
        was_bit r d l
        ∙ sym (dirty_without m.setup.geometry o f f e (was_out e is) (λ y q apart. refl)
        (λ j lj none. k.staged.kept.map.mirrored j lj (λ z. let y : None ≡ Some 0 = sym none ∙ sym out_was ∙ z in cc) (λ z. let y : None ≡ Some 1 = sym none ∙ sym out_was ∙ z in cc)) r d l)
        ∙ map_bit_same m.setup.geometry (f x) (contents t [] x) r d (sym (contents_then x (map_place_of m.setup.geometry r) low_x not_lost not_gone))

    dirty_by : (p : Option ℕ) → lost ≡ p → (r d : ℕ) → r < 512 * map_count m.setup.geometry → is_dirty table r d ≡ (view_by (meta_with_lost p after) t.power (contents t [])).dirty r d
    dirty_by None is r d l =
        bit_by None is r d l ∙ ap (λ (z : Option ℕ). map_bit m.setup.geometry (contents t [] (map_disk z)) r d)
        (sym (out_all t.power after (λ e le g. subst (λ (p : Option ℕ). named_out (meta_with_lost p m).out ≡ Some e) is (absent_then e le g))))
    dirty_by (Some e) is r d l = bit_by (Some e) is r d l

    next_keeps : (p : Option ℕ) → lost ≡ p → IsNext t after (record (meta_with_lost p after) { epoch = (meta_with_lost p after).epoch + 1 })
    next_keeps None is = next_then None is
    next_keeps (Some d) is = next_then (Some d) is

    keeps_by : (p : Option ℕ) → lost ≡ p → HoldsBetweenCalls slots (named_out m.out) (meta_with_lost p after) table [] copied h (length h) t
    keeps_by None is = record {
      base = after;
      held = contents t [];
      copies = copies_then;
      synced = λ x p here is. done.synced x p here;
      named_by = refl;
      borne = borne_then;
      epoch = refl;
      next = next_keeps None is;
      writes = k.writes;
      brought = λ none. refl;
      staged = subst (λ (n : ℕ). ContentOk slots t.power t.size (view_by after t.power (contents t [])) h n) k.writes (staged_after None is);
      dirty = dirty_by None is;
    }
    keeps_by (Some d) is = record {
      base = after;
      held = contents t [];
      copies = copies_then;
      synced = λ x p here is. done.synced x p here;
      named_by = refl;
      borne = borne_then;
      epoch = refl;
      next = next_keeps (Some d) is;
      writes = k.writes;
      brought = λ none. refl;
      staged = subst (λ (n : ℕ). ContentOk slots t.power t.size (view_by (meta_after_loss after d) t.power (contents t [])) h n) k.writes (staged_after (Some d) is);
      dirty = dirty_by (Some d) is;
    }

    pub keeps_then : HoldsBetweenCalls slots (named_out m.out) (meta_with_lost lost after) table [] copied h (length h) t
    keeps_then = keeps_by lost refl

    filled_by : (p : Option ℕ) → lost ≡ p → KeepsFilled slots (named_out m.out) (meta_with_lost p after) table copied h (length h) (meta_with_lost p after).fill t
    unfolding keeps_by
    filled_by None is = record { keeps = keeps_by None is; shift = record { gear = refl; rises = refl; fresh = λ d u fresh. ap named_out fresh; phase = λ whole. refl; fill = λ whole. refl; rebuilt = λ d u is. is }; filled = λ x from l. absurd (omega arith) }
    filled_by (Some d) is = record {
      keeps = keeps_by (Some d) is;
      shift = record {
        gear = refl;
        rises = sym (rising_to-beside m.phase);
        fresh = λ x u fresh. ap Some (sym (alone d x is (ap named_out fresh)));
        phase = λ whole. let z : Gone d ≡ No = whole in cc;
        fill = λ whole. let z : Gone d ≡ No = whole in cc;
        rebuilt = λ x u is. let z : Gone d ≡ Fresh x u = is in absurd cc;
      };
      filled = λ x from l. absurd (omega arith);
    }

    marked_by : (p : Option ℕ) → lost ≡ p → KeepsCommitted slots (named_out m.out) (meta_with_lost p after) table copied h (length h) m.out t
    unfolding filled_by
    marked_by None is = record { filled = filled_by None is; marks = refl }
    marked_by (Some d) is = record { filled = filled_by (Some d) is; marks = refl }

    pub marked_then : KeepsCommitted slots (named_out m.out) (meta_with_lost lost after) table copied h (length h) m.out t
    marked_then = marked_by lost refl

    -- with nothing staged over it
    pub filled_then : KeepsFilled slots (named_out m.out) (meta_with_lost lost after) table copied h (length h) (meta_with_lost lost after).fill t
    filled_then = filled_by lost refl

  -- over the calls
  module _ (old new : Option Trail) (slot later_slot : ℕ → Slot) (before : (s : Trail) → old ≡ Some s → Agrees (now s) slot)
      (later : (s : Trail) → new ≡ Some s → Agrees (now s) later_slot) (lost : Option ℕ) (known : (x d : ℕ) → named ≡ Some x → named_out (meta_with_lost lost m).out ≡ Some d → x ≡ d) (low : (d : ℕ) → lost ≡ Some d → d < m.setup.geometry.disks)
      (only : IsLostOnly m.setup.geometry.disks lost slot later_slot) (alone : (d x : ℕ) → lost ≡ Some d → named_out m.out ≡ Some x → x ≡ d)
      (absent : (d : ℕ) → d < m.setup.geometry.disks → is_present (slot d).power ≡ false → named_out m.out ≡ Some d)
      (absent_then : (d : ℕ) → d < m.setup.geometry.disks → is_present (later_slot d).power ≡ false → named_out (meta_with_lost lost m).out ≡ Some d)
      (can_bear : (x : ℕ) → x < 2 → named_out m.out ≡ Some x → CanWrite slot 2 1) where
    -- the witness against a log disk that is named out then
    borne_at : (s t : Disks) → Agrees s slot → (k : HoldsBetweenCalls slots named m table batch copied h lo s) → IsCommitted s t k.base after batch → IsWitnessBorne (named_out m.out) t
    borne_at s t agrees k done x l names =
        let can = can_bear x l names in
        done.borne (λ here.
        let there = ap is_present (sym (agrees.power 2)) ∙ here in
        (agrees.power 2 ∙ can.spins there, subst (λ (z : ℕ). 1 < z) (sym (agrees.size 2)) (can.within there))) x l names

    commit_runs : (Q : Disks → Type 0)
        → ((s t : Disks) (k : HoldsBetweenCalls slots named m table batch copied h lo s) → IsCommitted s t k.base after batch → ((d : ℕ) → lost ≡ Some d → t.power d ≡ Absent)
        → ((x : ℕ) → x < m.setup.geometry.disks → lost ≢ Some x → t.power x ≡ s.power x) → ((x : ℕ) → x < m.setup.geometry.disks → lost ≢ Some x → t.size x ≡ s.size x)
        → ((d : ℕ) → d < m.setup.geometry.disks → is_present (s.power d) ≡ false → named_out m.out ≡ Some d)
        → ((d : ℕ) → d < m.setup.geometry.disks → is_present (t.power d) ≡ false → named_out (meta_with_lost lost m).out ≡ Some d) → IsWitnessBorne (named_out m.out) t → Q t)
        → ((before : Meta) → named ≡ named_out before.out → IsWholeOrAbsent old new before after batch) → ((before : Meta) → named ≡ named_out before.out → EndsCommitted old new before after batch)
        → Ran old new (CrashTriple P (HoldsBetweenCalls slots named m table batch copied h lo) Q)
    commit_runs Q go each last t tells =
        let any : Meta = record m { out = out_of named } in
        let r = both_of (λ s cs. (z : Meta) → named ≡ named_out z.out → AtEach after batch z s cs) (λ s cs. (z : Meta) → named ≡ named_out z.out → AtLast after batch z s cs) old new
        (for_each_before named (AtEach after batch) old new any (out_of_named named) each) (for_each_before named (AtLast after batch) old new any (out_of_named named) last) t tells in
        let here : now t ≡ run (now r.from) r.calls = ap now r.is ∙ now-extend r.from r.calls in
        let a = before r.from r.was in
        let b = subst (λ (u : Disks). Agrees u later_slot) here (later t tells) in
        record {
          from = r.from;
          was = r.was;
          calls = r.calls;
          is = r.is;
          holds = record {
            goes = λ k.
                let at_rest = rest (now r.from) k in
                let after_it = next (now r.from) k in
                let done = r.holds.1 k.base (sym k.named_by) at_rest after_it in (
                  commit_through (now r.from) k r.calls (r.holds.0 k.base (sym k.named_by) at_rest after_it),
                  go (now r.from) (run (now r.from) r.calls) k done
                      (λ d is. b.power d ∙ only.gone d is)
                      (λ x lx not. b.power x ∙ only.power x lx not ∙ sym (a.power x)) (λ x lx not. b.size x ∙ only.size x lx not ∙ sym (a.size x))
                      (λ d ld g. absent d ld (ap is_present (sym (a.power d)) ∙ g)) (λ d ld g. absent_then d ld (ap is_present (sym (b.power d)) ∙ g))
                      (borne_at (now r.from) (run (now r.from) r.calls) a k done),
                );
          };
        }

    pub commit_stands : (slots_then : ℕ) (named_then : Option ℕ) (m_then : Meta) (batch_then : Batch) → slots_then ≡ slots → named_then ≡ named_out m.out → m_then ≡ meta_with_lost lost after → batch_then ≡ []
        → ((before : Meta) → named ≡ named_out before.out → IsWholeOrAbsent old new before after batch) → ((before : Meta) → named ≡ named_out before.out → EndsCommitted old new before after batch)
        → Ran old new (CrashTriple P (HoldsBetweenCalls slots named m table batch copied h lo) (HoldsBetweenCalls slots_then named_then m_then table batch_then copied h (length h)))
    commit_stands slots_then named_then m_then batch_then es en em eb each last =
        commit_runs (HoldsBetweenCalls slots_then named_then m_then table batch_then copied h (length h)) (λ s t k done gone power size absent_at absent_now borne_now.
        subst (λ (z : ℕ). HoldsBetweenCalls z named_then m_then table batch_then copied h (length h) t) (sym es)
        (subst (λ (z : Option ℕ). HoldsBetweenCalls slots z m_then table batch_then copied h (length h) t) (sym en)
        (subst (λ (z : Meta). HoldsBetweenCalls slots (named_out m.out) z table batch_then copied h (length h) t) (sym em)
        (subst (λ (z : Batch). HoldsBetweenCalls slots (named_out m.out) (meta_with_lost lost after) table z copied h (length h) t) (sym eb)
        (keeps_then s t k done lost known low gone alone power size absent_at absent_now borne_now))))) each last

    -- with nothing staged over it
    pub commit_filled : (slots_then : ℕ) (named_then : Option ℕ) (m_then : Meta) → slots_then ≡ slots → named_then ≡ named_out m.out → m_then ≡ meta_with_lost lost after
        → ((before : Meta) → named ≡ named_out before.out → IsWholeOrAbsent old new before after batch) → ((before : Meta) → named ≡ named_out before.out → EndsCommitted old new before after batch)
        → Ran old new (CrashTriple P (HoldsBetweenCalls slots named m table batch copied h lo) (KeepsFilled slots_then named_then m_then table copied h (length h) m_then.fill))
    commit_filled slots_then named_then m_then es en em each last =
        commit_runs (KeepsFilled slots_then named_then m_then table copied h (length h) m_then.fill) (λ s t k done gone power size absent_at absent_now borne_now.
        subst (λ (z : ℕ). KeepsFilled z named_then m_then table copied h (length h) m_then.fill t) (sym es)
        (subst (λ (z : Option ℕ). KeepsFilled slots z m_then table copied h (length h) m_then.fill t) (sym en)
        (subst (λ (z : Meta). KeepsFilled slots (named_out m.out) z table copied h (length h) z.fill t) (sym em)
        (filled_then s t k done lost known low gone alone power size absent_at absent_now borne_now)))) each last

    -- with what it says of the disk that is out
    pub commit_marked : (slots_then : ℕ) (named_then : Option ℕ) (m_then : Meta) → slots_then ≡ slots → named_then ≡ named_out m.out → m_then ≡ meta_with_lost lost after
        → ((before : Meta) → named ≡ named_out before.out → IsWholeOrAbsent old new before after batch) → ((before : Meta) → named ≡ named_out before.out → EndsCommitted old new before after batch)
        → Ran old new (CrashTriple P (HoldsBetweenCalls slots named m table batch copied h lo) (KeepsCommitted slots_then named_then m_then table copied h (length h) m.out))
    commit_marked slots_then named_then m_then es en em each last =
        commit_runs (KeepsCommitted slots_then named_then m_then table copied h (length h) m.out) (λ s t k done gone power size absent_at absent_now borne_now.
        subst (λ (z : ℕ). KeepsCommitted z named_then m_then table copied h (length h) m.out t) (sym es)
        (subst (λ (z : Option ℕ). KeepsCommitted slots z m_then table copied h (length h) m.out t) (sym en)
        (subst (λ (z : Meta). KeepsCommitted slots (named_out m.out) z table copied h (length h) m.out t) (sym em)
        (marked_then s t k done lost known low gone alone power size absent_at absent_now borne_now)))) each last

    -- and the disks are at rest under it
    pub commit_rests : ((before : Meta) → named ≡ named_out before.out → IsWholeOrAbsent old new before after batch) → ((before : Meta) → named ≡ named_out before.out → EndsCommitted old new before after batch)
        → Ran old new (λ start calls. HoldsBetweenCalls slots named m table batch copied h lo start → IsAtRest (run start calls) (record m { epoch = m.epoch + 1 }))
    commit_rests each last t tells =
        let r = commit_runs (λ u. IsAtRest u (record m { epoch = m.epoch + 1 })) (λ s t k done gone power size absent_at absent_now borne_now.
        subst (λ (z : ℕ). IsAtRest t (record m { epoch = z + 1 })) (sym epoch_is) (rest_then s t k done lost known low gone alone power size absent_at absent_now borne_now)) each last t tells in
        record { from = r.from; was = r.was; calls = r.calls; is = r.is; holds = λ k. (r.holds.goes k).1 }
