-- Between two commits a disk is lost, or attached in the place of one that is gone.
use Rattle.std.specs.Prelude.{◌≡◌, ◌≢◌, ℕ, ◌<◌, ◌⊎◌, ◌==◌, ◌&&◌, nat_lt, Bool, true, false, [], Contains, Option, Some, None, if◌then◌else◌}
use Rattle.std.proofs.Common.{refl, sym, ◌∙◌, ap, subst, arith, inl, inr}
use Rattle.std.proofs.lemmas.Bool.{cases_Bool, cases_eq, false≢true}
use Rattle.std.proofs.lemmas.Bool.Decides.{nat_tests}
use Rattle.paraid_base.specs.declared.block.Block.{Block}
use Rattle.paraid_base.specs.declared.state.Out.TheVariants.{Gone, Fresh}
use Rattle.paraid_base.specs.History.{History}
use Rattle.paraid_base.specs.Log.{log_least, map_block_place}
use Rattle.paraid_base.specs.Regions.{map_count}
use Rattle.paraid_base.specs.Xor.{zero_block}
use Rattle.paraid_rack.specs.declared.call.Call.TheVariants.{Attach}
use Rattle.paraid_rack.specs.declared.call.Power.{Power}
use Rattle.paraid_rack.specs.declared.call.Power.TheVariants.{Spinning, Parked, Absent}
use Rattle.paraid_rack.specs.Disks.{Disks, IsImage, is_present, step}
use Rattle.paraid_rack.proofs.AtomsLemmas.{with_at_other, with_at_same}
use Rattle.paraid_record.specs.declared.meta.Meta.{Meta}
use Rattle.paraid_record.specs.declared.targets.Target.{Target}
use Rattle.paraid_record.specs.Range.{IsInRange}
use Rattle.paraid_image.specs.Content.{view_by}
use Rattle.paraid_image.specs.Free.{IsFree}
use Rattle.paraid_image.specs.Free.IsFree.{dirty_cell, unfilled, gone, row, stripe, map_block}
use Rattle.paraid_image.specs.LostDisk.{IsLoss}
use Rattle.paraid_image.specs.Out.{IsMissing, named_out, out_disk}
use Rattle.paraid_image.specs.Sides.{LogState, Says, closed_over, has_place, is_open, stored_block}
use Rattle.paraid_image.specs.Sound.{AreDisks, ContentOk, IsFresh, LogOk}
use Rattle.paraid_image.specs.Sound.Pairing.{alike}
use Rattle.paraid_image.specs.Spot.{map_bit, map_disk}
use Rattle.paraid_image.specs.Standing.{Contents, Stands, contents, other_log}
use Rattle.paraid_image.proofs.FailedCallLemmas.{others_keep}
use Rattle.paraid_image.proofs.NeutralLemmas.{IsLogKept, says_back, says_forth}
use Rattle.paraid_image.proofs.OutLemmas.{missing_is_out, named_below, out_missing}
use Rattle.paraid_image.proofs.SidesLemmas.{Says-same, blank_says_nothing}
use Rattle.paraid_image.proofs.CallLemmas.{out_named, zeroed_closed}
use Rattle.paraid_image.proofs.ViewLemmas.{content_without, dirty_without}
use Rattle.paraid_moves.specs.MoveMetas.{view_with_out}
use Rattle.paraid_moves.specs.Copying.{IsCopyImage, IsCopying, without_disk}
use Rattle.paraid_moves.proofs.CopyCommitLemmas.{all_say}
use Rattle.paraid_image.proofs.ContentsLemmas.{contents_none}

without_here : (f : Contents) (d x q : ℕ) → x ≡ d → without_disk f d x q ≡ zero_block
without_here f d x q is = let t : (x == d) ≡ true = grind (arith, nat_tests) in rw t refl

pub without_there : (f : Contents) (d x q : ℕ) → x ≢ d → without_disk f d x q ≡ f x q
without_there f d x q apart = let t : (x == d) ≡ false = grind (arith, nat_tests) in rw t refl

-- One disk of an image has changed: it says nothing, holds nothing, and is the one that is out.
module _ (i j : Disks) (m : Meta) (f : Contents) (d : ℕ) (c : IsCopyImage i m f)
    (power : (x : ℕ) → x ≢ d → j.power x ≡ i.power x) (size : (x : ℕ) → x ≢ d → j.size x ≡ i.size x) (block : (x q : ℕ) → x ≢ d → j.block x q ≡ i.block x q)
    (silent : (o : LogState) → Says j d o → ⊥) (shut : (q : ℕ) → is_open (stored_block j d q) ≡ false) (empty : (q : ℕ) → contents j [] d q ≡ zero_block)
    (was_missing : (e : ℕ) → IsMissing i.power m e → e ≡ d) (missing : (e : ℕ) → IsMissing j.power m e → e ≡ d) (out_now : out_disk j.power m ≡ Some d)
    (no_fresh : (e u : ℕ) → IsFresh j.power m e u → ⊥)
    (mirrored : (x : ℕ) → x < map_count m.setup.geometry → out_disk i.power m ≡ None → f 0 (map_block_place m.setup.geometry x) ≡ f 1 (map_block_place m.setup.geometry x)) where
  abbrev said : LogState
  said = closed_over m

  in_range : IsInRange m
  in_range = c.log.stands.says.log.meta.in_range

  place_same : (x p : ℕ) → x ≢ d → has_place j x p ≡ has_place i x p
  place_same x p not =
      ap (λ (w : Power). is_present w && nat_lt p (j.size x)) (power x not) ∙ ap (λ (n : ℕ). is_present (i.power x) && nat_lt p n) (size x not)

  stored_same : (x p : ℕ) → x ≢ d → stored_block j x p ≡ stored_block i x p
  unfolding stored_block
  stored_same x p not =
      ap (λ (t : Bool). if t then j.block x p else zero_block) (place_same x p not) ∙ ap (λ (b : Block). if has_place i x p then b else zero_block) (block x p not)

  contents_same : (x p : ℕ) → x ≢ d → contents j [] x p ≡ contents i [] x p
  unfolding contents
  contents_same x p not =
      ap (λ (t : Bool). if nat_lt p log_least then zero_block else (if t then j.block x p else zero_block)) (place_same x p not)
      ∙ ap (λ (b : Block). if nat_lt p log_least then zero_block else (if has_place i x p then b else zero_block)) (block x p not)

  kept : (x : ℕ) → x ≢ d → IsLogKept i j x
  kept x not = record {
    power = power x not;
    gate = ap is_open (stored_same x 0 not);
    meta = λ closed. stored_same x 1 not;
    rest = λ opened o says q low high. stored_same x q not;
  }

  not_d : (x : ℕ) (o : LogState) → Says j x o → x ≢ d
  not_d x o s is = silent o (subst (λ (y : ℕ). Says j y o) is s)

  says_then : (x : ℕ) (o : LogState) → Says j x o → Says i x o
  says_then x o s = says_back i j x o (kept x (not_d x o s)) s

  -- each other log disk says this
  says_now : (y : ℕ) → y < 2 → y ≢ d → Says j y said
  says_now y low not =
      says_forth i j y said (kept y not) (all_say i m f c y low (λ o. not (was_missing y (out_missing i.power m y in_range o))))

  is_said : (y : ℕ) (o : LogState) → y < 2 → Says j y o → o ≡ said
  is_said y o low s = Says-same j y o said s (says_now y low (not_d y o s))

  stands_now : (y : ℕ) × Stands j y said × (y ≢ d)
  stands_now = elim (cases_eq c.disk d) [
    | inr apart ↦ (
      c.disk,
      record {
        log_disk = c.log.stands.log_disk;
        says = says_now c.disk c.log.stands.log_disk apart;
        first = λ o s. c.log.stands.first o (says_then (other_log c.disk) o s);
      },
      apart,
    )
    | inl is ↦
        let low = c.log.stands.log_disk in
        let away : other_log d ≢ d = (λ e. absurd (omega arith)) in (
          other_log d,
          record {
            log_disk = omega arith;
            says = says_now (other_log d) (omega arith) away;
            first = λ o s. absurd (not_d (other_log (other_log d)) o s (omega arith));
          },
          away,
        )
  ]

  no_target : (t : Target) → Contains {X = Target} [] t → ⊥
  no_target t n = let lt : n.0 < 0 = n.1 in omega arith

  log_now : LogOk j stands_now.0 said m.writes
  log_now = record {
    stands = stands_now.1;
    writes = refl;
    single = λ e x p q. missing e p ∙ sym (missing x q);
    standing_in = λ named.
        let n = m.setup.geometry.disks_low in
        let low = stands_now.1.log_disk in
        stands_now.2 (missing stands_now.0 (record { disk = omega arith; is = inr named }));
    fresh_closed = λ e u fresh l. absurd (no_fresh e u fresh);
    targets_spin = λ t names not. absurd (no_target t names);
    formed = λ y l present not. (said, says_now y l (λ is. not (out_now ∙ ap Some (sym is))));
    paired = λ a b p q first second. alike (is_said 0 a (omega arith) p ∙ sym (is_said 1 b (omega arith) q));
  }

  was_out : (out_disk i.power m ≡ None) ⊎ (out_disk i.power m ≡ Some d)
  was_out = go (out_disk i.power m) refl
    where
      go : (o : Option ℕ) → out_disk i.power m ≡ o → (out_disk i.power m ≡ None) ⊎ (out_disk i.power m ≡ Some d)
      go None o = inl o
      go (Some e) o = inr (o ∙ ap Some (was_missing e (out_missing i.power m e in_range o)))

  abbrev bits : Option ℕ → Contents → ℕ → ℕ → Bool
  bits o x = map_bit m.setup.geometry (x (map_disk o))

  bits_same : (r e : ℕ) → r < m.setup.geometry.rows → bits (out_disk j.power m) (without_disk f d) r e ≡ bits (out_disk i.power m) f r e
  bits_same r e l =
      ap (λ (o : Option ℕ). bits o (without_disk f d) r e) out_now
      ∙ dirty_without m.setup.geometry (out_disk i.power m) f (without_disk f d) d was_out (λ x q apart. without_there f d x q apart) mirrored r e (omega arith)

  free_now : (x q : ℕ) → IsFree (view_by m i.power f) x q → IsFree (view_by m j.power (without_disk f d)) x q
  free_now x q (dirty_cell r l low bit at) = dirty_cell r l low (bits_same r x l ∙ bit) at
  free_now x q (unfilled to t shift past lt at) = unfilled to t shift past lt at
  free_now x q (gone is far) = gone is far
  free_now x q (row u r is past lr at) = row u r is past lr at
  free_now x q (stripe u t is past lt at) = stripe u t is past lt at
  free_now x q (map_block u t is lt past at) = map_block u t is lt past at

  pub image_changed : IsCopyImage j m (without_disk f d)
  image_changed = record {
    disk = stands_now.0;
    log = log_now;
    gates = record { closed = λ y other low says not. c.gates.closed y other low (says_then y other says) not };
    witnesses = λ y low opened. elim (cases_eq 2 d) [
      | inl is ↦ absurd (false≢true (sym (shut y) ∙ ap (λ (x : ℕ). is_open (stored_block j x y)) (sym is) ∙ opened))
      | inr not ↦
          let was = c.witnesses y low (ap is_open (sym (stored_same 2 y not)) ∙ opened) in
          out_now ∙ ap Some (sym (was_missing y (out_missing i.power m y in_range was)))
    ];
    only = λ x q. elim (cases_eq x d) [
      | inl is ↦ inr (ap (λ (y : ℕ). contents j [] y q) is ∙ empty q ∙ sym (without_here f d x q is))
      | inr apart ↦ elim (c.only x q) [
        | inl free ↦ inl (free_now x q free)
        | inr same ↦ inr (contents_same x q apart ∙ same ∙ sym (without_there f d x q apart))
      ]
    ];
  }

-- a disk that is absent
absent_missing : (power : ℕ → Power) (m : Meta) (d : ℕ) → IsInRange m → d < m.setup.geometry.disks → is_present (power d) ≡ false
    → ((e : ℕ) → IsMissing power m e → e ≡ d) → out_disk power m ≡ Some d
absent_missing power m d range ld none missing =
    missing_is_out power m d range (λ e x p q. missing e p ∙ sym (missing x q)) (record { disk = ld; is = inl none }) none

-- an absent disk stores nothing
shut_there : (j : Disks) (d q : ℕ) → is_present (j.power d) ≡ false → is_open (stored_block j d q) ≡ false
unfolding stored_block
shut_there j d q absent = ap (λ (b : Bool). is_open (if b && nat_lt q (j.size d) then j.block d q else zero_block)) absent ∙ zeroed_closed

-- A disk is lost in a failed call, and no other one was missing.
module _ (s t : Disks) (m : Meta) (f : Contents) (d : ℕ) (loss : IsLoss s t d) (ld : d < m.setup.geometry.disks)
    (others_there : (e : ℕ) → IsMissing s.power m e → e ≡ d) (copying : IsCopying s m f)
    (mirrored : (x : ℕ) → x < map_count m.setup.geometry → out_disk s.power m ≡ None → f 0 (map_block_place m.setup.geometry x) ≡ f 1 (map_block_place m.setup.geometry x)) where
  missing_lost : (p : ℕ → Power) → ((x : ℕ) → p x ≡ t.power x) → (e : ℕ) → IsMissing p m e → e ≡ d
  missing_lost p powers e missing = elim (cases_eq e d) [
    | inl is ↦ is
    | inr apart ↦ others_there e (record {
      disk = missing.disk;
      is = elim missing.is [
        | inl absent ↦ inl (ap is_present (sym (powers e ∙ loss.power e ∙ with_at_other s.power d Absent e apart)) ∙ absent)
        | inr name ↦ inr name
      ];
    })
  ]

  pub copying_lost : IsCopying t m (without_disk f d)
  copying_lost = λ j e.
      let i : Disks = record {
        power = s.power;
        size = s.size;
        block = λ x q. if x == d then s.block x q else j.block x q;
        loose = j.loose;
      } in
      let image : IsImage s i = record {
        power = λ x. refl;
        size = λ x. refl;
        block = λ x q synced. elim (cases_eq x d) [
          | inl is ↦ block_here j x q is
          | inr apart ↦ block_there j x q apart ∙ e.block x q (loss.loose x q apart ∙ synced) ∙ loss.block x q apart
        ];
        loose = e.loose;
      } in
      let absent : j.power d ≡ Absent = e.power d ∙ loss.power d ∙ with_at_same s.power d Absent d refl in
      let gone : is_present (j.power d) ≡ false = ap is_present absent in
      let c = copying i image in
      let lost_is = missing_lost j.power e.power in
      image_changed i j m f d c
      (λ x apart. e.power x ∙ loss.power x ∙ with_at_other s.power d Absent x apart)
      (λ x apart. e.size x ∙ loss.size x ∙ with_at_other s.size d 0 x apart)
      (λ x q apart. sym (block_there j x q apart))
      (λ o says. false≢true (sym gone ∙ says.present))
      (λ q. shut_there j d q gone)
      (λ q. contents_none j [] d q (ap (λ (b : Bool). b && nat_lt q (j.size d)) gone))
      others_there lost_is
      (absent_missing j.power m d c.log.stands.says.log.meta.in_range ld gone lost_is)
      (λ x u fresh.
      let n = named_low x u fresh.is c.log.stands.says.log.meta.in_range in
      let is : x ≡ d = lost_is x (record { disk = n; is = inr (ap named_out fresh.is) }) in
      false≢true (sym gone ∙ ap (λ (y : ℕ). is_present (j.power y)) (sym is) ∙ fresh.present))
      mirrored
    where
      block_here : (j : Disks) (x q : ℕ) → x ≡ d → (if x == d then s.block x q else j.block x q) ≡ s.block x q
      block_here j x q is = let b : (x == d) ≡ true = grind (arith, nat_tests) in rw b refl

      block_there : (j : Disks) (x q : ℕ) → x ≢ d → (if x == d then s.block x q else j.block x q) ≡ j.block x q
      block_there j x q apart = let b : (x == d) ≡ false = grind (arith, nat_tests) in rw b refl

      named_low : (x u : ℕ) → m.out ≡ Fresh x u → IsInRange m → x < m.setup.geometry.disks
      named_low x u is range = named_below m.setup.geometry m.gear m.out x range.out (ap named_out is)

  -- and what the blocks hold stays held
  pub content_lost : (slots : ℕ) (h : History) (k : ℕ) → IsInRange m → ContentOk slots s.power s.size (view_by m s.power f) h k
      → ContentOk slots t.power t.size (view_by m t.power (without_disk f d)) h k
  content_lost slots h k range ok =
      let gone : is_present (t.power d) ≡ false = ap is_present (loss.power d ∙ with_at_same s.power d Absent d refl) in
      let lost_is = missing_lost t.power (λ x. refl) in
      let out_now = absent_missing t.power m d range ld gone lost_is in
      let other : (x : ℕ) → x ≢ d → t.power x ≡ s.power x = (λ x apart. loss.power x ∙ with_at_other s.power d Absent x apart) in
      let no_fresh : (e u : ℕ) → IsFresh t.power m e u → ⊥ = (λ e u fresh.
      let is : e ≡ d = lost_is e (record { disk = named_below m.setup.geometry m.gear m.out e range.out (ap named_out fresh.is); is = inr (ap named_out fresh.is) }) in
      false≢true (sym gone ∙ ap (λ (y : ℕ). is_present (t.power y)) (sym is) ∙ fresh.present)) in
      let away : (e : ℕ) → Some d ≢ Some e → e ≢ d = (λ e not is. not (ap Some (sym is))) in
      let not_parked : (e : ℕ) → t.power e ≡ Parked → e ≢ d = (λ e parked is.
      false≢true (sym gone ∙ ap (λ (y : ℕ). is_present (t.power y)) (sym is) ∙ ap is_present parked)) in
      let not_was : (e : ℕ) → e ≢ d → out_disk s.power m ≢ Some e = (λ e apart o. apart (others_there e (out_missing s.power m e range o))) in
      let was = ok.kept.disks in
      let ready : AreDisks slots t.power t.size m (Some d) = record {
        enough = was.enough;
        log_disks = λ e l parked. was.log_disks e l (sym (other e (not_parked e parked)) ∙ parked);
        large = λ e l here not.
            let far = away e not in
            let size : t.size e ≡ s.size e = loss.size e ∙ with_at_other s.size d 0 e far in
            let large = was.large e l (ap is_present (sym (other e far)) ∙ here) (not_was e far) in rw size large;
        fresh_large = λ e u fresh. absurd (no_fresh e u fresh);
        below_gear = λ e l not. let far = away e not in other e far ∙ was.below_gear e l (not_was e far);
        fresh_spins = λ e u fresh. absurd (no_fresh e u fresh);
        recorded = λ to e up low high parked not. let far = away e not in was.recorded to e up low high (sym (other e far) ∙ parked) (not_was e far);
      } in
      let bits : Option ℕ → Contents → ℕ → ℕ → Bool = λ (o : Option ℕ) (x : Contents). map_bit m.setup.geometry (x (map_disk o)) in
      let same : (x q : ℕ) → x ≢ d → without_disk f d x q ≡ f x q = (λ x q apart. without_there f d x q apart) in
      subst (λ (o : Option ℕ). ContentOk slots t.power t.size (view_with_out m o (without_disk f d)) h k) (sym out_now)
      (content_without m (bits (out_disk s.power m) f) (bits (Some d) (without_disk f d)) (out_disk s.power m) f (without_disk f d) d (was_out range) same
      (dirty_without m.setup.geometry (out_disk s.power m) f (without_disk f d) d (was_out range) same mirrored) range
      slots s.power t.power s.size t.size h k no_fresh ready ok)
    where
      was_out : IsInRange m → (out_disk s.power m ≡ None) ⊎ (out_disk s.power m ≡ Some d)
      was_out range = go (out_disk s.power m) refl
        where
          go : (o : Option ℕ) → out_disk s.power m ≡ o → (out_disk s.power m ≡ None) ⊎ (out_disk s.power m ≡ Some d)
          go None o = inl o
          go (Some e) o = inr (o ∙ ap Some (others_there e (out_missing s.power m e range o)))

-- A disk is attached in the place of the gone one.
stored_zero : (j : Disks) (d p : ℕ) → j.block d p ≡ zero_block → stored_block j d p ≡ zero_block
unfolding stored_block
stored_zero j d p is = elim (cases_Bool (has_place j d p)) [ inl there ↦ rw there is | inr none ↦ rw none refl ]

contents_zero : (j : Disks) (d p : ℕ) → j.block d p ≡ zero_block → contents j [] d p ≡ zero_block
unfolding contents
contents_zero j d p is = rw is (pick (nat_lt p log_least) (has_place j d p))
  where
    pick : (b c : Bool) → (if b then zero_block else (if c then zero_block else zero_block)) ≡ zero_block
    pick true c = refl
    pick false true = refl
    pick false false = refl

pub record IsAttachedTo (s t : Disks) (d size : ℕ) : Type 0 where
  pub here : t.power d ≡ Spinning
  pub large : t.size d ≡ size
  pub power : (x : ℕ) → x ≢ d → t.power x ≡ s.power x
  pub sizes : (x : ℕ) → x ≢ d → t.size x ≡ s.size x
  pub block : (x q : ℕ) → x ≢ d → t.block x q ≡ s.block x q
  pub loose : (x q : ℕ) → x ≢ d → t.loose x q ≡ s.loose x q
  pub zeros : (q : ℕ) → t.block d q ≡ zero_block
  pub synced : (q : ℕ) → t.loose d q ≡ false

pub attached_to : (s : Disks) (d size : ℕ) → IsAttachedTo s (step (Attach d size true) s) d size
unfolding step
attached_to s d size = record {
  here = with_at_same s.power d Spinning d refl;
  large = with_at_same s.size d size d refl;
  power = λ x apart. with_at_other s.power d Spinning x apart;
  sizes = λ x apart. with_at_other s.size d size x apart;
  block = λ x q apart. others_keep s.block d (λ p. zero_block) x q apart;
  loose = λ x q apart. others_keep s.loose d (λ p. false) x q apart;
  zeros = λ q. ap (λ (f : ℕ → Block). f q) (with_at_same s.block d (λ p. zero_block) d refl);
  synced = λ q. ap (λ (f : ℕ → Bool). f q) (with_at_same s.loose d (λ p. false) d refl);
}

pub copying_attached : (s t : Disks) (m : Meta) (f : Contents) (d size : ℕ) → IsAttachedTo s t d size → m.out ≡ Gone d → ((e : ℕ) → IsMissing s.power m e → e ≡ d)
    → IsCopying s m f → IsCopying t m (without_disk f d)
copying_attached s t m f d size attached is_gone others_there copying = λ j e.
    let i : Disks = record {
      power = s.power;
      size = s.size;
      block = λ x q. if x == d then s.block x q else j.block x q;
      loose = j.loose;
    } in
    let image : IsImage s i = record {
      power = λ x. refl;
      size = λ x. refl;
      block = λ x q synced. elim (cases_eq x d) [
        | inl is ↦ block_here j x q is
        | inr apart ↦ block_there j x q apart ∙ e.block x q (attached.loose x q apart ∙ synced) ∙ attached.block x q apart
      ];
      loose = e.loose;
    } in
    let name : named_out m.out ≡ Some d = ap named_out is_gone in
    let zeros : (q : ℕ) → j.block d q ≡ zero_block = (λ q. e.block d q (attached.synced q) ∙ attached.zeros q) in
    let missing : (x : ℕ) → IsMissing j.power m x → x ≡ d = (λ x p. elim (cases_eq x d) [
      | inl is ↦ is
      | inr apart ↦ others_there x (record {
        disk = p.disk;
        is = elim p.is [ inl absent ↦ inl (ap is_present (sym (e.power x ∙ attached.power x apart)) ∙ absent) | inr n ↦ inr n ];
      })
    ]) in
    image_changed i j m f d (copying i image)
    (λ x apart. e.power x ∙ attached.power x apart)
    (λ x apart. e.size x ∙ attached.sizes x apart)
    (λ x q apart. sym (block_there j x q apart))
    (λ o says. blank_says_nothing j d o (ap is_open (stored_zero j d 0 (zeros 0)) ∙ zeroed_closed) (stored_zero j d 1 (zeros 1)) says)
    (λ q. ap is_open (stored_zero j d q (zeros q)) ∙ zeroed_closed)
    (λ q. contents_zero j d q (zeros q))
    others_there missing (out_named j.power m d name)
    (λ x u fresh. let z : Gone d ≡ Fresh x u = sym is_gone ∙ fresh.is in cc)
    (λ x l none. let z : None ≡ Some d = sym none ∙ out_named s.power m d name in cc)
  where
    block_here : (j : Disks) (x q : ℕ) → x ≡ d → (if x == d then s.block x q else j.block x q) ≡ s.block x q
    block_here j x q is = let b : (x == d) ≡ true = grind (arith, nat_tests) in rw b refl

    block_there : (j : Disks) (x q : ℕ) → x ≢ d → (if x == d then s.block x q else j.block x q) ≡ j.block x q
    block_there j x q apart = let b : (x == d) ≡ false = grind (arith, nat_tests) in rw b refl
