-- Witness is borne at rest: what was held stays so, and what stood.
use Rattle.std.specs.Prelude.{◌≡◌, ◌≢◌, ℕ, ◌<◌, ◌≤◌, Bool, true, false, List, [], ◌∷◌, Option, Some}
use Rattle.std.proofs.Common.{refl, sym, ◌∙◌, ap, subst, arith, inl, inr, length-append}
use Rattle.std.proofs.lemmas.Bool.{cases_Bool, cases_eq, cases_lt, false≢true}
use Rattle.paraid_base.specs.declared.block.Block.{Block}
use Rattle.paraid_base.specs.History.{History}
use Rattle.paraid_rack.specs.declared.call.Call.{Call}
use Rattle.paraid_rack.specs.declared.call.Call.TheVariants.{Read, Write, Sync, Park, SpinUp, Attach}
use Rattle.paraid_rack.specs.declared.call.Power.{Power}
use Rattle.paraid_rack.specs.declared.call.Power.TheVariants.{Absent}
use Rattle.paraid_rack.specs.Atoms.{IsSure}
use Rattle.paraid_rack.specs.Disks.{Disks, IsPresent, is_present, step, with_at}
use Rattle.paraid_rack.specs.Told.{CrashTriple, Ran, Through}
use Rattle.paraid_rack.specs.Trail.{Trail, disks, moments, now, run}
use Rattle.paraid_rack.proofs.AtomsLemmas.{read_present, sync_present, with_at_other, with_at_same, write_present}
use Rattle.paraid_rack.proofs.EffectsLemmas.{synced_step, wrote_step}
use Rattle.paraid_rack.proofs.TrailsLemmas.{moments_of}
use Rattle.paraid_record.specs.declared.meta.Meta.{Meta}
use Rattle.paraid_image.specs.Calls.{disk_of, is_done}
use Rattle.paraid_image.specs.Content.{view_by}
use Rattle.paraid_image.specs.HeldAt.{IsHeld}
use Rattle.paraid_image.specs.Looked.{IsLooked}
use Rattle.paraid_image.specs.Looked.IsLooked.{lost, whole}
use Rattle.paraid_image.specs.Neutral.{overwrite}
use Rattle.paraid_image.specs.Out.{IsWeak, named_out, out_disk}
use Rattle.paraid_image.specs.Out.IsWeak.{out as out_weak}
use Rattle.paraid_image.specs.Rest.{IsAtRest}
use Rattle.paraid_image.specs.Sides.{LogState, Says, closed_over}
use Rattle.paraid_image.specs.Sound.{ContentOk}
use Rattle.paraid_image.specs.Standing.{Contents, Stands, other_log}
use Rattle.paraid_image.proofs.CallLemmas.{back_again, decide_some, out_named, says_not_lost, says_of_lost, write_image}
use Rattle.paraid_image.proofs.NeutralLemmas.{keeps_witness, log_forth, written}
use Rattle.paraid_image.proofs.SidesLemmas.{Says-same}
use Rattle.paraid_image.proofs.StandingLemmas.{Stands-same}
use Rattle.paraid_moves.specs.Copying.{HoldsWithCopies, IsCopyImage, IsCopying}
use Rattle.paraid_moves.proofs.RunLemmas.{copies_held, copies_read, copies_sync}
use Rattle.paraid_txn.proofs.CommitPartLemmas.{ran_milder}
use Rattle.paraid_txn.proofs.ResumeImagesLemmas.{is_done as is_done_or_ahead}
use Rattle.paraid_txn.specs.Resume.{IsResumable}
use Rattle.paraid_txn.specs.Uses.{EachCall}
use Rattle.paraid_recover.specs.Bearing.{BearsAgainst, IsNamedLog}
use Rattle.paraid_recover.specs.HeldMoments.{EndsHeld, IsAbsentSince, RecoversHeld}
use Rattle.paraid_recover.specs.StandingMetas.{StandsForeseen, StandsInMoments}
use Rattle.paraid_recover.proofs.HeldAtRestLemmas.{rest_held}
use Rattle.paraid_recover.proofs.QuietCallsLemmas.{Resting, resting_from, resting_held, resting_rest}
use Rattle.paraid_recover.proofs.RecoverLemmas.{disks_before, disks_last}

-- The place of the witness against the disk that is out may hold anything.
image_witnessed : (i : Disks) (m : Meta) (f : Contents) (y : ℕ) (b : Block) → y < 2 → out_disk i.power m ≡ Some y → IsCopyImage i m f → IsCopyImage (overwrite i 2 y b) m f
image_witnessed i m f y b low is c =
    let keeps = keeps_witness i 2 y b refl low (λ x said stands. ap (λ (o : LogState). out_disk i.power o.meta) (Stands-same i x c.disk said (closed_over m) stands c.log.stands).1 ∙ is) in
    record {
      disk = c.disk;
      log = log_forth i (written i 2 y b) keeps.log c.disk (closed_over m) m.writes c.log;
      gates = record { closed = λ z other l says not. c.gates.closed z other l (keeps.log.back z other l says) not };
      witnesses = keeps.witnesses c.disk (closed_over m) c.log.stands c.witnesses;
      only = λ x q. elim (c.only x q) [
        | inl free ↦ inl free
        | inr same ↦ inr (ap (λ (k : Contents). k x q) (keeps.contents c.disk (closed_over m) c.log.stands) ∙ same)
      ];
    }

copying_witnessed : (s : Disks) (m : Meta) (f : Contents) (y : ℕ) (b : Block) → y < 2 → out_disk s.power m ≡ Some y → IsCopying s m f → IsCopying (step (Write 2 y b true) s) m f
copying_witnessed s m f y b low is copying = λ j e.
    let was = write_image s 2 y b j e in
    let before : Disks = overwrite j 2 y (s.block 2 y) in
    let powers : before.power ≡ s.power = (λ t. λ d. (was.power d) t) in
    subst (λ (i : Disks). IsCopyImage i m f) (back_again j 2 y (s.block 2 y))
    (image_witnessed before m f y (j.block 2 y) low (ap (λ (p : ℕ → Power). out_disk p m) powers ∙ is) (copying before was))

-- a done call leaves the powers and the sizes
self_at : {A : Type 0} (p : ℕ → A) (d : ℕ) → with_at p d (p d) ≡ p
self_at {A} p d = λ t. λ x. (at x) t
  where
    at : (x : ℕ) → with_at p d (p d) x ≡ p x
    at x = elim (cases_eq x d) [
      | inl is ↦ with_at_same p d (p d) x is ∙ ap p (sym is)
      | inr apart ↦ with_at_other p d (p d) x apart
    ]

-- the disk of the call is 2, and a log disk is named
pub of_bearer : (o : Option ℕ) (c : Call) → BearsAgainst o c → (disk_of c ≡ 2) × (y : ℕ) × IsNamedLog o y
of_bearer o (Read d p done) bears = (bears.0, p, bears.1)
of_bearer o (Write d p b done) bears = (bears.0, p, bears.1)
of_bearer o (Sync d done) bears = bears
of_bearer o (Park d done) bears = absurd bears
of_bearer o (SpinUp d done) bears = absurd bears
of_bearer o (Attach d size done) bears = absurd bears

was_present : (o : Option ℕ) (c : Call) (s : Disks) (e : ℕ) → BearsAgainst o c → IsPresent (step c s) e → IsPresent s e
was_present o (Read d p done) s e bears here = read_present s d p done e here
was_present o (Write d p b done) s e bears here = write_present s d p b done e here
was_present o (Sync d done) s e bears here = sync_present s d done e here
was_present o (Park d done) s e bears here = absurd bears
was_present o (SpinUp d done) s e bears here = absurd bears
was_present o (Attach d size done) s e bears here = absurd bears

stays_gone : (o : Option ℕ) (c : Call) (s : Disks) (e : ℕ) → BearsAgainst o c → is_present (s.power e) ≡ false → is_present ((step c s).power e) ≡ false
stays_gone o c s e bears off = elim (cases_Bool (is_present ((step c s).power e))) [
  | inl here ↦ absurd (false≢true (sym off ∙ was_present o c s e bears here))
  | inr gone ↦ gone
]

-- a disk whose call failed is absent
bearer_lost : (o : Option ℕ) (c : Call) (s : Disks) → BearsAgainst o c → is_done c ≡ false → (step c s).power (disk_of c) ≡ Absent
unfolding step
bearer_lost o (Read d p true) s bears is = absurd (false≢true (sym is))
bearer_lost o (Read d p false) s bears is = with_at_same s.power d Absent d refl
bearer_lost o (Write d p b true) s bears is = absurd (false≢true (sym is))
bearer_lost o (Write d p b false) s bears is = with_at_same s.power d Absent d refl
bearer_lost o (Sync d true) s bears is = absurd (false≢true (sym is))
bearer_lost o (Sync d false) s bears is = with_at_same s.power d Absent d refl
bearer_lost o (Park d done) s bears is = absurd bears
bearer_lost o (SpinUp d done) s bears is = absurd bears
bearer_lost o (Attach d size done) s bears is = absurd bears

-- At rest but for what is loose on disk 2: the blocks hold the writes that the meta counts.
record Bearing (slots : ℕ) (m : Meta) (h : History) (lo : ℕ) (s : Disks) : Type 0 where
  f : Contents
  copies : HoldsWithCopies slots m f h lo s
  others : (d p : ℕ) → d ≢ 2 → IsSure s d p (λ b. Unit {0})

read_sure : (s : Disks) (d p : ℕ) (done : Bool) (e q : ℕ) (Q : Block → Type 0) → IsSure s e q Q → IsSure (step (Read d p done) s) e q Q
unfolding step
read_sure s d p done e q Q sure = record { holds = λ here. sure.holds (read_present s d p done e here) }

module _ (slots : ℕ) (m : Meta) (h : History) (lo : ℕ) where
  bearing_write : (s : Disks) (y : ℕ) (b : Block) → y < 2 → named_out m.out ≡ Some y → Bearing slots m h lo s → Bearing slots m h lo (step (Write 2 y b true) s)
  unfolding step
  bearing_write s y b low name r =
      let power = self_at s.power 2 in
      let size = self_at s.size 2 in
      record {
        f = r.f;
        copies = record {
          copying = copying_witnessed s m r.f y b low (out_named s.power m y name) r.copies.copying;
          low = r.copies.low;
          high = r.copies.high;
          content = subst (λ (p : ℕ → Power). ContentOk slots p (with_at s.size 2 (s.size 2)) (view_by m p r.f) h m.writes) (sym power)
              (subst (λ (z : ℕ → ℕ). ContentOk slots s.power z (view_by m s.power r.f) h m.writes) (sym size) r.copies.content);
        };
        others = λ d p apart. (wrote_step s 2 y b true).sure d p (λ k. Unit {0}) (λ is. absurd (apart is)) (r.others d p apart);
      }

  bearing_done : (o : Option ℕ) → ((y : ℕ) → o ≡ Some y → named_out m.out ≡ Some y) → (c : Call) (s : Disks) → BearsAgainst o c → is_done c ≡ true → Bearing slots m h lo s → Bearing slots m h lo (step c s)
  bearing_done o names (Read d p true) s bears is r = record { f = r.f; copies = copies_read slots m r.f h lo s d p r.copies; others = λ e q apart. read_sure s d p true e q (λ k. Unit {0}) (r.others e q apart) }
  bearing_done o names (Read d p false) s bears is r = absurd (false≢true is)
  bearing_done o names (Write d p b true) s bears is r =
      subst (λ (k : ℕ). Bearing slots m h lo (step (Write k p b true) s)) (sym bears.0) (bearing_write s p b bears.1.1 (names p bears.1.0) r)
  bearing_done o names (Write d p b false) s bears is r = absurd (false≢true is)
  bearing_done o names (Sync d true) s bears is r = record { f = r.f; copies = copies_sync slots m r.f h lo s d r.copies; others = λ e q apart. (synced_step s d true).sure e q (λ k. Unit {0}) (r.others e q apart) }
  bearing_done o names (Sync d false) s bears is r = absurd (false≢true is)
  bearing_done o names (Park d done) s bears is r = absurd bears
  bearing_done o names (SpinUp d done) s bears is r = absurd bears
  bearing_done o names (Attach d size done) s bears is r = absurd bears

  bearing_from : (s : Disks) → Resting slots m h lo s → Bearing slots m h lo s
  bearing_from s r = record { f = r.f; copies = r.copies; others = λ d p apart. record { holds = λ here. (r.synced d p here, tt) } }

  -- once disk 2 is synced
  bearing_rests : (s : Disks) → ((p : ℕ) → IsPresent s 2 → s.loose 2 p ≡ false) → Bearing slots m h lo s → Resting slots m h lo s
  bearing_rests s second r = record {
    synced = λ d p here. elim (cases_eq d 2) [
      | inl is ↦ subst (λ (k : ℕ). s.loose k p ≡ false) (sym is) (second p (subst (IsPresent s) is here))
      | inr apart ↦ ((r.others d p apart).holds here).0
    ];
    f = r.f;
    copies = r.copies;
  }

  -- what stands in an image that is looked at
  bearing_meta : (s : Disks) → Bearing slots m h lo s → (i : Disks) (z : ℕ) (o : LogState) → IsLooked s i → Stands i z o → o.meta ≡ m
  bearing_meta s r i z o (whole image) stands =
      let c = r.copies.copying i image in
      ap (λ (k : LogState). k.meta) (Stands-same i z c.disk o (closed_over m) stands c.log.stands).1
  bearing_meta s r i z o (lost j d image may is) stands =
      let c = r.copies.copying j image in
      let st = subst (λ (u : Disks). Stands u z o) (sym is) stands in
      let says = says_of_lost j d z o st.says in
      let there = c.log.stands in
      elim (cases_eq z c.disk) [
        | inl at ↦ ap (λ (k : LogState). k.meta) (Says-same j c.disk o (closed_over m) (subst (λ (y : ℕ). Says j y o) at says) there.says)
        | inr apart ↦
            let at : z ≡ other_log c.disk = (let l = st.log_disk in let k = there.log_disk in omega arith) in
            elim (decide_some (named_out m.out) z) [
              | inl name ↦ absurd (says_not_lost j d z o st.says (may.weak z (out_weak c.disk (closed_over m) there (out_named j.power m z name))))
              | inr not ↦ elim (is_done_or_ahead j c.disk (closed_over m) o m.writes c.log (subst (λ (y : ℕ). Says j y o) at says) (λ e. not (e ∙ ap (λ (y : ℕ). Some y) (sym at))) refl) [
                | inl same ↦ ap (λ (k : LogState). k.meta) same
                | inr done ↦ absurd (false≢true (sym (c.gates.closed z o st.log_disk says not) ∙ done.opened))
              ]
            ]
      ]

-- Where one disk at most is absent, and it is the one that is named if one is.
module _ (slots : ℕ) (m : Meta) (h : History) (lo : ℕ) (down o : Option ℕ) (enough : 3 ≤ m.setup.geometry.disks) (names : (y : ℕ) → o ≡ Some y → named_out m.out ≡ Some y) (named : (y : ℕ) → o ≡ Some y → down ≡ Some y) where
  Bears : Disks → Type 0
  Bears s = ((d : ℕ) → d < m.setup.geometry.disks → is_present (s.power d) ≡ false → down ≡ Some d) → Bearing slots m h lo s × IsHeld slots s h lo down

  bears_next : (c : Call) (s : Disks) → BearsAgainst o c → Bears s → Bears (step c s)
  unfolding Bears
  bears_next c s bears before absent =
      let was = before (λ d low off. absent d low (stays_gone o c s d bears off)) in
      let who = of_bearer o c bears in
      let is = named who.1 who.2.0 in
      elim (cases_Bool (is_done c)) [
        | inl done ↦
            let after = bearing_done slots m h lo o names c s bears done was.0 in
            (after, subst (IsHeld slots (step c s) h lo) (out_named (step c s).power m who.1 (names who.1 who.2.0) ∙ sym is) (copies_held slots m after.f h lo (step c s) after.copies))
        | inr failed ↦
            let gone = absent (disk_of c) (let e = who.0 in omega arith) (ap is_present (bearer_lost o c s bears failed)) in
            let same : who.1 ≡ disk_of c = (let z : Some who.1 ≡ Some (disk_of c) = sym is ∙ gone in cc) in
            let low = who.2.1 in
            let second = who.0 in
            absurd (omega arith)
      ]

  bears_through : (s : Disks) (cs : List Call) → EachCall (BearsAgainst o) s cs → Bears s → Through Bears s cs × Bears (run s cs)
  bears_through s [] each bears = (bears, bears)
  bears_through s (c ∷ cs) each bears =
      let it = bears_through (step c s) cs each.2 (bears_next c s each.1 bears) in
      ((bears, it.0), it.1)

  bears_ran : (mid new : Option Trail) → Ran mid new (EachCall (BearsAgainst o)) → Ran mid new (CrashTriple Bears Bears Bears)
  bears_ran mid new ran = ran_milder (EachCall (BearsAgainst o)) (CrashTriple Bears Bears Bears) (λ s cs each. record { goes = λ bears. bears_through s cs each bears }) ran

  bears_start : (s : Disks) → IsAtRest s m → IsHeld slots s h lo down → Bears s
  unfolding Bears
  bears_start s rest held = λ absent. (bearing_from slots m h lo s (resting_from slots s m h lo down rest held), held)

  bears_is : (s : Disks) → Bears s → ((d : ℕ) → d < m.setup.geometry.disks → is_present (s.power d) ≡ false → down ≡ Some d) → Bearing slots m h lo s × IsHeld slots s h lo down
  unfolding Bears
  bears_is s bears = bears

-- Witness is borne after what was held while a commit was ended and an absent disk marked.
module _ (slots x : ℕ) (said : LogState) (m : Meta) (o : Option ℕ) (old mid new : Option Trail) (same_disks : m.setup.geometry.disks ≡ said.meta.setup.geometry.disks)
    (names : (y : ℕ) → o ≡ Some y → named_out m.out ≡ Some y) (names_said : (y : ℕ) → o ≡ Some y → named_out said.meta.out ≡ Some y)
    (ran : Ran mid new (EachCall (BearsAgainst o))) (holds : RecoversHeld slots x said old mid) (ends : EndsHeld slots x said m old mid) where
  abbrev n : ℕ
  n = said.meta.setup.geometry.disks

  enough : 3 ≤ m.setup.geometry.disks
  enough = let low = m.setup.geometry.disks_low in omega arith

  module _ (t : Trail) (tells : new ≡ Some t) where
    abbrev end : Trail
    end = (ran t tells).from

    told : mid ≡ Some end
    told = (ran t tells).was

    abbrev start : Trail
    start = (holds end told).0

    longer : moments end ≤ moments t
    longer = let long = ap moments (ran t tells).is ∙ length-append end.calls (ran t tells).calls in omega arith

    at : (j : ℕ) → j ≤ moments end → disks t j ≡ disks end j
    at j le = ap (λ (u : Trail). disks u j) (ran t tells).is ∙ disks_before end (ran t tells).calls j le

    module _ (h : History) (lo : ℕ) (was down : Option ℕ) (broken : IsResumable (now start) x said) (held : IsHeld slots (now start) h lo was)
        (weak : (w : ℕ) → IsWeak (now start) w → down ≡ Some w) where
      earlier : (j : ℕ) → moments start ≤ j → j ≤ moments end → IsAbsentSince n t (moments start) j down → IsHeld slots (disks t j) h lo down
      earlier j from to absent =
          subst (λ (u : Disks). IsHeld slots u h lo down) (sym (at j to))
          ((holds end told).3 h lo j was down broken held from to
          (λ k d k_from k_to l gone. absent k d k_from k_to l (ap (λ (u : Disks). is_present (u.power d)) (at k (omega arith)) ∙ gone)) weak)

      named : (y : ℕ) → o ≡ Some y → down ≡ Some y
      named y is = weak y (out_weak x said broken.log.stands (out_named (now start).power said.meta y (names_said y is)))

      module _ (j : ℕ) (to : j ≤ moments t) (from : moments end ≤ j) (absent : IsAbsentSince n t (moments start) j down) where
        absent_mid : IsAbsentSince n end (moments start) (moments end) down
        absent_mid k d k_from k_to l gone = absent k d k_from (omega arith) l (ap (λ (u : Disks). is_present (u.power d)) (at k k_to) ∙ gone)

        held_mid : IsHeld slots (now end) h lo down
        held_mid =
            subst (λ (u : Disks). IsHeld slots u h lo down) (disks_last end)
            ((holds end told).3 h lo (moments end) was down broken held (holds end told).2 (omega arith) absent_mid weak)

        same : (ends end told).0 ≡ start
        same = let z : Some (ends end told).0 ≡ Some start = sym (ends end told).1 ∙ (holds end told).1 in cc

        rest_mid : IsAtRest (now end) m
        rest_mid =
            (subst (λ (u : Trail). IsResumable (now u) x said → IsHeld slots (now u) h lo was → IsAbsentSince n end (moments u) (moments end) down
            → ((w : ℕ) → IsWeak (now u) w → down ≡ Some w) → IsAtRest (now end) m)
            same (λ b e a w. ((ends end told).2 h lo was down b e a w).0) broken held absent_mid weak)

        borne : Bears slots m h lo down o enough names named (disks t j)
        borne =
            let P = Bears slots m h lo down o enough names named in
            let it = moments_of P P P mid new (bears_ran slots m h lo down o enough names named mid new ran) t tells in
            let first : end ≡ it.0 = (let z : Some end ≡ Some it.0 = sym told ∙ it.1 in cc) in
            (it.3 (subst (λ (u : Trail). P (now u)) first (bears_start slots m h lo down o enough names named (now end) rest_mid held_mid))).1 j (subst (λ (u : Trail). moments u ≤ j) first from) to

        later : Bearing slots m h lo (disks t j) × IsHeld slots (disks t j) h lo down
        later =
            let high = (holds end told).2 in
            bears_is slots m h lo down o enough names named (disks t j) borne (λ d l off. absent j d (omega arith) (omega arith) (let e = same_disks in omega arith) off)

  pub bearing_holds : RecoversHeld slots x said old new
  bearing_holds t tells = (
    start t tells,
    (holds (end t tells) (told t tells)).1,
    (let from = (holds (end t tells) (told t tells)).2 in let more = longer t tells in omega arith),
    λ h lo j was down broken held from to absent weak. elim (cases_lt (moments (end t tells)) j) [
      | inr le ↦ earlier t tells h lo was down broken held weak j from le absent
      | inl gt ↦ (later t tells h lo was down broken held weak j to (omega arith) absent).1
    ],
  )

  pub bearing_ends : ((t : Trail) → new ≡ Some t → (p : ℕ) → IsPresent (now t) 2 → (now t).loose 2 p ≡ false) → EndsHeld slots x said m old new
  bearing_ends second t tells = (
    start t tells,
    (holds (end t tells) (told t tells)).1,
    λ h lo was down broken held absent weak.
        let it = later t tells h lo was down broken held weak (moments t) (omega arith) (longer t tells) absent in
        let bearing = subst (λ (u : Disks). Bearing slots m h lo u) (disks_last t) it.0 in
        let resting = bearing_rests slots m h lo (now t) (second t tells) bearing in
        let rest = resting_rest slots m h lo (now t) resting in
        (rest, rest_held slots (now t) m h lo (out_disk (now t).power m) rest (resting_held slots m h lo (now t) resting)),
  )

  pub bearing_metas : ((s i : Disks) → StandsForeseen s x said i m) → StandsInMoments slots x said old mid → StandsInMoments slots x said old new
  bearing_metas allowed metas t tells =
      let first : (metas (end t tells) (told t tells)).0 ≡ start t tells = (let z : Some (metas (end t tells) (told t tells)).0 ≡ Some (start t tells) = sym (metas (end t tells) (told t tells)).1 ∙ (holds (end t tells) (told t tells)).1 in cc) in (
        start t tells,
        (holds (end t tells) (told t tells)).1,
        (let from = (holds (end t tells) (told t tells)).2 in let more = longer t tells in omega arith),
        λ h lo j was down broken held from to absent weak i z k looked stands. elim (cases_lt (moments (end t tells)) j) [
          | inr le ↦
              (subst (λ (u : Trail). IsResumable (now u) x said → IsHeld slots (now u) h lo was → moments u ≤ j → IsAbsentSince n (end t tells) (moments u) j down
              → ((w : ℕ) → IsWeak (now u) w → down ≡ Some w) → StandsForeseen (now u) x said i k.meta) first
              (λ b e f a w. (metas (end t tells) (told t tells)).3 h lo j was down b e f le a w i z k (subst (λ (u : Disks). IsLooked u i) (at t tells j le) looked) stands))
              broken held from (λ q d q_from q_to l gone. absent q d q_from q_to l (ap (λ (u : Disks). is_present (u.power d)) (at t tells q (omega arith)) ∙ gone)) weak
          | inl gt ↦
              let it = later t tells h lo was down broken held weak j to (omega arith) absent in
              subst (StandsForeseen (now (start t tells)) x said i) (sym (bearing_meta slots m h lo (disks t j) it.0 i z k looked stands)) (allowed (now (start t tells)) i)
        ],
      )
