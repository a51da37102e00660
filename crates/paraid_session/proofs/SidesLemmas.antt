-- What two log disks may say while a commit without targets is on its way, in an array all of whose
-- disks are in order.
use Rattle.std.proofs.Common.{◌≡◌, ◌≢◌, ℕ, ◌+◌, ◌<◌, ◌≤◌, ◌⊎◌, Bool, true, false, [], length, Option, Some, None, refl, sym, ap, ◌∙◌, inl, inr, subst, arith, if◌then◌else◌}
use Rattle.std.specs.Prelude.{◌==◌, ◌&&◌, ◌||◌, Contains, nat_lt}
use Rattle.std.proofs.lemmas.Bool.{and_from, cases_Bool, cases_eq, false≢true}
use Rattle.std.proofs.lemmas.Bool.Decides.{nat_tests}
use Rattle.paraid_base.specs.declared.block.Block.{Block}
use Rattle.paraid_base.specs.declared.state.Out.TheVariants.{No, Fresh}
use Rattle.paraid_base.specs.History.{History}
use Rattle.paraid_base.specs.Log.{log_least}
use Rattle.paraid_base.specs.Xor.{zero_block}
use Rattle.paraid_rack.specs.declared.call.Power.{Power}
use Rattle.paraid_rack.specs.declared.call.Power.TheVariants.{Spinning, Absent}
use Rattle.paraid_rack.specs.Disks.{Disks, is_present, lose}
use Rattle.paraid_rack.proofs.AtomsLemmas.{with_at_same}
use Rattle.paraid_record.specs.declared.meta.Meta.{Meta}
use Rattle.paraid_record.specs.declared.meta.Setup.{Setup}
use Rattle.paraid_record.specs.Meta.{meta_bytes}
use Rattle.paraid_record.specs.Range.{IsInRange}
use Rattle.paraid_record.specs.declared.targets.Target.{Target}
use Rattle.paraid_record.specs.Targets.{targets_bytes}
use Rattle.paraid_image.specs.Content.{view_by, view_of}
use Rattle.paraid_image.specs.HeldAt.{IsSoundFrom, MayLose}
use Rattle.paraid_image.specs.Out.{IsMissing, IsWeak, first_absent, named_out, or_else, out_disk}
use Rattle.paraid_image.specs.Out.IsWeak.{named, out}
use Rattle.paraid_image.specs.Sides.{Batch, LogState, Says, closed_over, has_place, is_open, stored_block, targets}
use Rattle.paraid_image.specs.Sound.{ContentOk, IsFresh, LogOk, Pairing, IsSoundAt}
use Rattle.paraid_image.specs.Sound.Pairing.{alike, first_ahead, second_done}
use Rattle.paraid_image.specs.Standing.{Stands, contents, is_first, other_log}
use Rattle.paraid_session.specs.Course.{next_meta}
use Rattle.paraid_image.proofs.AlikeLemmas.{sound_alike}
use Rattle.paraid_image.proofs.CallLemmas.{zeroed_closed}
use Rattle.paraid_image.proofs.OneDiskLessLemmas.{IsSoundAt-lost}
use Rattle.paraid_image.proofs.OutLemmas.{first_absent_is}
use Rattle.paraid_image.proofs.SidesLemmas.{Says-same}

-- the next log, open, with no target
abbrev pub open_next : Meta → LogState
open_next m = record { opened = true; meta = next_meta m; batch = [] }

-- Disks like these in all but the first places of the log: all there and large enough, with the
-- same blocks past the log.
pub record IsLike (s i : Disks) : Type 0 where
  pub power : (d : ℕ) → i.power d ≡ s.power d
  pub size : (d : ℕ) → i.size d ≡ s.size d
  pub block : (d p : ℕ) → log_least ≤ p → i.block d p ≡ s.block d p
  pub witness : (p : ℕ) → p < 2 → i.block 2 p ≡ s.block 2 p

-- what the two log disks may say at once
pub data Fits (m : Meta) (a b : LogState) : Type 0 where
  old : a ≡ closed_over m → b ≡ closed_over m → Fits m a b
  ahead : a ≡ open_next m → b ≡ closed_over m → Fits m a b
  both : a ≡ open_next m → b ≡ open_next m → Fits m a b
  done : a ≡ closed_over (next_meta m) → b ≡ open_next m → Fits m a b
  new : a ≡ closed_over (next_meta m) → b ≡ closed_over (next_meta m) → Fits m a b

-- where a block is shut, so is what is stored
shut_stored : (i : Disks) (d p : ℕ) → is_open (i.block d p) ≡ false → is_open (stored_block i d p) ≡ false
unfolding stored_block
shut_stored i d p shut = elim (cases_Bool (has_place i d p)) [ inl there ↦ rw there shut | inr none ↦ rw none zeroed_closed ]

nothing : (t : Target) → Contains [] t → ⊥
nothing t inside = let none = inside.1 in omega arith

above : (q : ℕ) → nat_lt q log_least ≡ false → log_least ≤ q
above q h = grind (arith, nat_tests)

below : (q n : ℕ) → q < n → nat_lt q n ≡ true
below q n l = grind (arith, nat_tests)

same_first : (n : ℕ) (closed : Bool) → closed ≡ true → (nat_lt n n || (n == n && closed)) ≡ true
same_first n closed is = grind (arith, nat_tests)

next_first : (n : ℕ) (rest : Bool) → (nat_lt n (n + 1) || rest) ≡ true
next_first n rest = grind (arith, nat_tests)

past_log : (low there : Bool) (x y : Block) → (low ≡ false → x ≡ y) → (if low then zero_block else (if there then x else zero_block)) ≡ (if low then zero_block else (if there then y else zero_block))
past_log true there x y h = refl
past_log false true x y h = h refl
past_log false false x y h = refl

-- the blocks past the log are the same
like_contents : (s i : Disks) → IsLike s i → contents i [] ≡ contents s []
unfolding contents
like_contents s i like = λ t. λ d p. (past_log (nat_lt p log_least) (has_place i d p) (i.block d p) (s.block d p) (λ low. like.block d p (above p low))
    ∙ ap (λ (there : Bool). if nat_lt p log_least then zero_block else (if there then s.block d p else zero_block)) (ap (λ (w : Power). is_present w && nat_lt p (i.size d)) (like.power d) ∙ ap (λ (n : ℕ). is_present (s.power d) && nat_lt p n) (like.size d))) t

-- The array: all disks spin, nothing is out, and what it holds is kept well, with zeros in each block.
pub record IsInOrder (slots : ℕ) (s : Disks) (m : Meta) (h : History) : Type 0 where
  pub no_out : m.out ≡ No
  pub spinning : (d : ℕ) → d < m.setup.geometry.disks → s.power d ≡ Spinning
  pub large : (d : ℕ) → d < m.setup.geometry.disks → log_least ≤ s.size d
  pub writes : m.writes ≡ 0
  pub some : 1 ≤ length h
  pub old_content : ContentOk slots s.power s.size (view_by m s.power (contents s [])) h 0
  pub new_content : ContentOk slots s.power s.size (view_by (next_meta m) s.power (contents s [])) h 1
  pub old_range : IsInRange m
  pub new_range : IsInRange (next_meta m)
  pub no_witness : (p : ℕ) → p < 2 → is_open (s.block 2 p) ≡ false

module _ (slots : ℕ) (s : Disks) (m : Meta) (h : History) (order : IsInOrder slots s m h) where
  many : 3 ≤ m.setup.geometry.disks
  many = m.setup.geometry.disks_low

  not_named : (d : ℕ) → named_out m.out ≢ Some d
  not_named d e = let k : None ≡ Some d = sym (ap named_out order.no_out) ∙ e in cc

  module _ (i : Disks) (like : IsLike s i) where
    there : (d : ℕ) → d < m.setup.geometry.disks → is_present (i.power d) ≡ true
    there d l = ap is_present (like.power d ∙ order.spinning d l)

    nothing_missing : (d : ℕ) → IsMissing i.power m d → ⊥
    nothing_missing d missing = elim missing.is [
      | inl absent ↦ false≢true (sym absent ∙ there d missing.disk)
      | inr is ↦ not_named d is
    ]

    none_absent : first_absent i.power m.setup.geometry.disks ≡ None
    none_absent = split (first_absent i.power m.setup.geometry.disks) refl
      where
        split : (o : Option ℕ) → first_absent i.power m.setup.geometry.disks ≡ o → first_absent i.power m.setup.geometry.disks ≡ None
        split None is = is
        split (Some u) is = let found = first_absent_is i.power m.setup.geometry.disks u is in absurd (false≢true (sym found.1 ∙ there u found.0))

    none_out : out_disk i.power m ≡ None
    none_out = ap (λ (o : Option ℕ). or_else o (first_absent i.power m.setup.geometry.disks)) (ap named_out order.no_out) ∙ none_absent

    no_fresh : (d rebuilt : ℕ) → IsFresh i.power m d rebuilt → ⊥
    no_fresh d rebuilt fresh = let k : Fresh d rebuilt ≡ No = sym fresh.is ∙ order.no_out in cc

    stored_is : (x q : ℕ) → x < 2 → q < log_least → stored_block i x q ≡ i.block x q
    unfolding stored_block
    stored_is x q low lq =
        let n = many in
        let large = order.large x (omega (arith, n, low)) in
        let size = like.size x in
        let is : has_place i x q ≡ true = and_from (is_present (i.power x)) (nat_lt q (i.size x)) (there x (omega (arith, n, low))) (below q (i.size x) (omega (arith, large, size, lq))) in
        ap (λ (t : Bool). if t then i.block x q else zero_block) is

    -- what a log disk says, by its blocks
    pub says_closed : (x : ℕ) (z : Meta) → x < 2 → IsInRange z → is_open (i.block x 0) ≡ false → (i.block x 1).bytes ≡ meta_bytes z → Says i x (closed_over z)
    says_closed x z low range gate meta =
        let n = many in
        record {
          present = there x (omega (arith, n, low));
          gate = ap is_open (stored_is x 0 low (omega arith)) ∙ gate;
          log = record {
            meta = record { in_range = range; bytes = ap (λ (b : Block). b.bytes) (stored_is x 1 low (omega arith)) ∙ meta };
            empty = refl;
          };
        }

    pub says_open : (x : ℕ) → x < 2 → is_open (i.block x 0) ≡ true → (i.block x 2).bytes ≡ meta_bytes (next_meta m) → (i.block x 3).bytes ≡ targets_bytes [] → Says i x (open_next m)
    says_open x low gate meta list =
        let n = many in
        record {
          present = there x (omega (arith, n, low));
          gate = ap is_open (stored_is x 0 low (omega arith)) ∙ gate;
          log = record {
            meta = record { in_range = order.new_range; bytes = ap (λ (b : Block). b.bytes) (stored_is x 2 low (omega arith)) ∙ meta };
            in_range = record { few = omega arith; each = λ k z within. absurd (omega arith); distinct = λ j k z lt within. absurd (omega arith) };
            list = ap (λ (b : Block). b.bytes) (stored_is x 3 low (omega arith)) ∙ list;
            blocks = tt;
          };
        }

    content : (z : Meta) (k : ℕ) → ContentOk slots s.power s.size (view_by z s.power (contents s [])) h k → ContentOk slots i.power i.size (view_by z i.power (contents i [])) h k
    content z k c =
        let power : i.power ≡ s.power = λ t. λ d. like.power d t in
        let size : i.size ≡ s.size = λ t. λ d. like.size d t in
        rw (like_contents s i like, power, size) c

    no_witness : (p : ℕ) → p < 2 → is_open (stored_block i 2 p) ≡ false
    no_witness p low = shut_stored i 2 p (ap is_open (like.witness p low) ∙ order.no_witness p low)

    module _ (a b : LogState) (first : Says i 0 a) (last : Says i 1 b) (fits : Fits m a b) where
      log_of : (z : LogState) (k : ℕ) → z ≡ a → z.batch ≡ [] → z.meta.writes ≡ k → named_out z.meta.out ≡ named_out m.out → z.meta.setup ≡ m.setup → is_first z b ≡ true → Pairing z b → LogOk i 0 z k
      log_of z k is batch writes out_same setup wins pair =
          let says : Says i 0 z = subst (λ (y : LogState). Says i 0 y) (sym is) first in
          record {
            stands = record {
              log_disk = omega arith;
              says = says;
              first = λ other q. ap (is_first z) (Says-same i 1 other b q last) ∙ wins;
            };
            writes = writes;
            single = λ d e missing other. absurd (nothing_missing d (as_old d missing));
            standing_in = λ e. not_named 0 (sym out_same ∙ e);
            fresh_closed = λ d rebuilt fresh low. absurd (not_named d (sym out_same ∙ ap named_out fresh.is));
            targets_spin = λ t names not. absurd (nothing t (subst (λ (l : Batch). Contains (targets l) t) batch names));
            formed = λ y low here not. formed y low;
            paired = λ p q says_p says_q not_first not_last.
                subst (λ (y : LogState). Pairing y q) (Says-same i 0 z p says says_p) (subst (λ (y : LogState). Pairing z y) (Says-same i 1 b q last says_q) pair);
          }
        where
          as_old : (d : ℕ) → IsMissing i.power z.meta d → IsMissing i.power m d
          as_old d missing = record {
            disk = subst (λ (u : Setup). d < u.geometry.disks) setup missing.disk;
            is = elim missing.is [ inl absent ↦ inl absent | inr name ↦ inr (sym out_same ∙ name) ];
          }

          formed : (y : ℕ) → y < 2 → (other : LogState) × Says i y other
          formed y low = elim (cases_eq y 0) [
            | inl zero_is ↦ (a, subst (λ (v : ℕ). Says i v a) (sym zero_is) first)
            | inr apart ↦ let one_is : 1 ≡ y = omega (arith, low, apart) in (b, subst (λ (v : ℕ). Says i v b) one_is last)
          ]

      abbrev sound_of : (z : LogState) (k : ℕ) → z ≡ a → z.batch ≡ [] → z.meta.writes ≡ k → named_out z.meta.out ≡ named_out m.out → z.meta.setup ≡ m.setup → is_first z b ≡ true → Pairing z b
          → ContentOk slots i.power i.size (view_of i z) h k → IsSoundAt slots i h k
      sound_of z k is batch writes out_same setup wins pair c = record { disk = 0; said = z; log = log_of z k is batch writes out_same setup wins pair; content = c; witnesses = λ p low opened. absurd (false≢true (sym (no_witness p low) ∙ opened)) }

      one_write : (next_meta m).writes ≡ 1
      one_write = ap (λ (n : ℕ). n + 1) order.writes

      content_old : ContentOk slots i.power i.size (view_of i (closed_over m)) h 0
      content_old = content m 0 order.old_content

      content_new : ContentOk slots i.power i.size (view_by (next_meta m) i.power (contents i [])) h 1
      content_new = content (next_meta m) 1 order.new_content

      abbrev sound_old : a ≡ closed_over m → b ≡ closed_over m → IsSoundAt slots i h 0
      sound_old p q = sound_of (closed_over m) 0 (sym p) refl order.writes refl refl (ap (is_first (closed_over m)) q ∙ same_first m.epoch true refl) (alike (sym q)) content_old

      abbrev sound_ahead : a ≡ open_next m → b ≡ closed_over m → IsSoundAt slots i h 1
      sound_ahead p q = sound_of (open_next m) 1 (sym p) refl one_write refl refl (ap (is_first (open_next m)) q ∙ next_first m.epoch _)
          (subst (λ (z : LogState). Pairing (open_next m) z) (sym q) (first_ahead (record { opened = refl; closed = refl; epoch = refl; setup = refl; out = λ d e n o. let k : Some d ≡ Some e = sym n ∙ o in cc }))) content_new

      abbrev sound_both : a ≡ open_next m → b ≡ open_next m → IsSoundAt slots i h 1
      sound_both p q = sound_of (open_next m) 1 (sym p) refl one_write refl refl (ap (is_first (open_next m)) q ∙ same_first (m.epoch + 1) true refl) (alike (sym q)) content_new

      abbrev sound_done : a ≡ closed_over (next_meta m) → b ≡ open_next m → IsSoundAt slots i h 1
      sound_done p q = sound_of (closed_over (next_meta m)) 1 (sym p) refl one_write refl refl (ap (is_first (closed_over (next_meta m))) q ∙ same_first (m.epoch + 1) true refl)
          (subst (λ (z : LogState). Pairing (closed_over (next_meta m)) z) (sym q) (second_done (record { opened = refl; closed = refl; meta = refl }))) content_new

      abbrev sound_new : a ≡ closed_over (next_meta m) → b ≡ closed_over (next_meta m) → IsSoundAt slots i h 1
      sound_new p q = sound_of (closed_over (next_meta m)) 1 (sym p) refl one_write refl refl (ap (is_first (closed_over (next_meta m))) q ∙ same_first (m.epoch + 1) true refl) (alike (sym q)) content_new

      -- what a log disk says has this meta or the next one
      pub meta_of : (x : ℕ) (z : LogState) → x < 2 → Says i x z → (z.meta ≡ m) ⊎ (z.meta ≡ next_meta m)
      meta_of x z low says = elim (cases_eq x 0) [
        | inl zero_is ↦ first_by fits (Says-same i 0 z a (subst (λ (v : ℕ). Says i v z) zero_is says) first)
        | inr apart ↦ let one_is : x ≡ 1 = omega (arith, low, apart) in last_by fits (Says-same i 1 z b (subst (λ (v : ℕ). Says i v z) one_is says) last)
      ]
        where
          first_by : Fits m a b → z ≡ a → (z.meta ≡ m) ⊎ (z.meta ≡ next_meta m)
          first_by (old p q) is = inl (ap (λ (y : LogState). y.meta) (is ∙ p))
          first_by (ahead p q) is = inr (ap (λ (y : LogState). y.meta) (is ∙ p))
          first_by (both p q) is = inr (ap (λ (y : LogState). y.meta) (is ∙ p))
          first_by (done p q) is = inr (ap (λ (y : LogState). y.meta) (is ∙ p))
          first_by (new p q) is = inr (ap (λ (y : LogState). y.meta) (is ∙ p))

          last_by : Fits m a b → z ≡ b → (z.meta ≡ m) ⊎ (z.meta ≡ next_meta m)
          last_by (old p q) is = inl (ap (λ (y : LogState). y.meta) (is ∙ q))
          last_by (ahead p q) is = inl (ap (λ (y : LogState). y.meta) (is ∙ q))
          last_by (both p q) is = inr (ap (λ (y : LogState). y.meta) (is ∙ q))
          last_by (done p q) is = inr (ap (λ (y : LogState). y.meta) (is ∙ q))
          last_by (new p q) is = inr (ap (λ (y : LogState). y.meta) (is ∙ q))

      out_is_none : (z : LogState) → (z.meta ≡ m) ⊎ (z.meta ≡ next_meta m) → out_disk i.power z.meta ≡ None
      out_is_none z (inl is) = ap (out_disk i.power) is ∙ none_out
      out_is_none z (inr is) = ap (out_disk i.power) is ∙ none_out

      named_none : (z : LogState) → (z.meta ≡ m) ⊎ (z.meta ≡ next_meta m) → named_out z.meta.out ≡ None
      named_none z (inl is) = ap (λ (y : Meta). named_out y.out) is ∙ ap named_out order.no_out
      named_none z (inr is) = ap (λ (y : Meta). named_out y.out) is ∙ ap named_out order.no_out

      pub strong : (w : ℕ) → IsWeak i w → ⊥
      strong w (out x other stands e) = let k : None ≡ Some w = sym (out_is_none other (meta_of x other stands.log_disk stands.says)) ∙ e in cc
      strong w (named x other last_said stands e q n) =
          let low = stands.log_disk in
          let k : None ≡ Some w = sym (named_none last_said (meta_of (other_log x) last_said (omega arith) q)) ∙ n in cc

      -- with disk `d` lost, where the log disks say the same, or it is not disk 0
      lost_by : (d k : ℕ) (sound : IsSoundAt slots i h k) → MayLose i d → (d ≢ 0) ⊎ Says i 1 sound.said → sound.disk ≡ 0 → IsSoundAt slots (lose d i) h k
      lost_by d k sound may spare at = IsSoundAt-lost slots i h k d 0 sound.said sound (subst (λ (x : ℕ). Stands i x sound.said) at sound.log.stands) spare may

    if_high : (e p : ℕ) (x y : Block) → log_least ≤ p → (if e == 0 && nat_lt p log_least then x else y) ≡ y
    if_high e p x y high = grind (arith, nat_tests)

    if_apart : (e p : ℕ) (x y : Block) → e ≢ 0 → (if e == 0 && nat_lt p log_least then x else y) ≡ y
    if_apart e p x y apart = grind (arith, nat_tests)

    -- the image with the log of disk 0 as that of disk 1
    abbrev pub copied : Disks
    copied = record i { block = λ e p. if e == 0 && nat_lt p log_least then i.block 1 p else i.block e p }

    pub copied_like : IsLike s copied
    copied_like = record { power = like.power; size = like.size; block = λ d p high. if_high d p (i.block 1 p) (i.block d p) high ∙ like.block d p high; witness = λ p low. if_apart 2 p (i.block 1 p) (i.block 2 p) (λ is. absurd (omega arith)) ∙ like.witness p low }

    copied_lost : (k : ℕ) → IsSoundAt slots (lose 0 copied) h k → IsSoundAt slots (lose 0 i) h k
    copied_lost k sound = sound_alike slots (lose 0 copied) (lose 0 i) h k (record {
      power = λ d. refl;
      size = λ d. refl;
      block = λ d p place. sym (if_apart d p (i.block 1 p) (i.block d p) (λ is. false≢true (sym (ap is_present (with_at_same i.power 0 Absent d is)) ∙ place.present)));
      loose = λ d p place. refl;
    }) sound

  module _ (i : Disks) (like : IsLike s i) where
    zero_in : 0 < m.setup.geometry.disks
    zero_in = let n = many in omega (arith, n)

    old_lost : Says i 1 (closed_over m) → IsSoundAt slots (lose 0 i) h 0
    old_lost says =
        let gate : is_open (i.block 1 0) ≡ false = ap is_open (sym (stored_is i like 1 0 (omega arith) (omega arith))) ∙ says.gate in
        let meta : (i.block 1 1).bytes ≡ meta_bytes m = ap (λ (b : Block). b.bytes) (sym (stored_is i like 1 1 (omega arith) (omega arith))) ∙ says.log.meta.bytes in
        let first : Says (copied i like) 0 (closed_over m) = says_closed (copied i like) (copied_like i like) 0 m (omega arith) order.old_range gate meta in
        let last : Says (copied i like) 1 (closed_over m) = says_closed (copied i like) (copied_like i like) 1 m (omega arith) order.old_range gate meta in
        let sound = sound_old (copied i like) (copied_like i like) (closed_over m) (closed_over m) first last (old refl refl) refl refl in
        let may : MayLose (copied i like) 0 = record {
          standing = 0;
          said = closed_over m;
          stands = sound.log.stands;
          disk = zero_in;
          present = there (copied i like) (copied_like i like) 0 zero_in;
          weak = λ w weak. absurd (strong (copied i like) (copied_like i like) (closed_over m) (closed_over m) first last (old refl refl) w weak);
        } in
        copied_lost i like 0 (lost_by (copied i like) (copied_like i like) (closed_over m) (closed_over m) first last (old refl refl) 0 0 sound may (inr last) refl)

    open_lost : Says i 1 (open_next m) → IsSoundAt slots (lose 0 i) h 1
    open_lost says =
        let gate : is_open (i.block 1 0) ≡ true = ap is_open (sym (stored_is i like 1 0 (omega arith) (omega arith))) ∙ says.gate in
        let meta : (i.block 1 2).bytes ≡ meta_bytes (next_meta m) = ap (λ (b : Block). b.bytes) (sym (stored_is i like 1 2 (omega arith) (omega arith))) ∙ says.log.meta.bytes in
        let list : (i.block 1 3).bytes ≡ targets_bytes [] = ap (λ (b : Block). b.bytes) (sym (stored_is i like 1 3 (omega arith) (omega arith))) ∙ says.log.list in
        let first : Says (copied i like) 0 (open_next m) = says_open (copied i like) (copied_like i like) 0 (omega arith) gate meta list in
        let last : Says (copied i like) 1 (open_next m) = says_open (copied i like) (copied_like i like) 1 (omega arith) gate meta list in
        let sound = sound_both (copied i like) (copied_like i like) (open_next m) (open_next m) first last (both refl refl) refl refl in
        let may : MayLose (copied i like) 0 = record {
          standing = 0;
          said = open_next m;
          stands = sound.log.stands;
          disk = zero_in;
          present = there (copied i like) (copied_like i like) 0 zero_in;
          weak = λ w weak. absurd (strong (copied i like) (copied_like i like) (open_next m) (open_next m) first last (both refl refl) w weak);
        } in
        copied_lost i like 1 (lost_by (copied i like) (copied_like i like) (open_next m) (open_next m) first last (both refl refl) 0 1 sound may (inr last) refl)

    module _ (a b : LogState) (first : Says i 0 a) (last : Says i 1 b) where
      is_sound : (k : ℕ) → k ≤ 1 → (j : Disks) → IsSoundAt slots j h k → IsSoundFrom slots j h 0
      is_sound k low j sound = let some = order.some in record { k = k; low = omega arith; high = omega (arith, low, some); sound = sound }

      pub whole_sound : Fits m a b → IsSoundFrom slots i h 0
      whole_sound (old p q) = is_sound 0 (omega arith) i (sound_old i like a b first last (old p q) p q)
      whole_sound (ahead p q) = is_sound 1 (omega arith) i (sound_ahead i like a b first last (ahead p q) p q)
      whole_sound (both p q) = is_sound 1 (omega arith) i (sound_both i like a b first last (both p q) p q)
      whole_sound (done p q) = is_sound 1 (omega arith) i (sound_done i like a b first last (done p q) p q)
      whole_sound (new p q) = is_sound 1 (omega arith) i (sound_new i like a b first last (new p q) p q)

      at_last : (z : LogState) → b ≡ z → Says i 1 z
      at_last z is = subst (λ (y : LogState). Says i 1 y) is last

      pub lost_sound : (d : ℕ) → MayLose i d → Fits m a b → IsSoundFrom slots (lose d i) h 0
      lost_sound d may (old p q) = is_sound 0 (omega arith) (lose d i) (lost_by i like a b first last (old p q) d 0 (sound_old i like a b first last (old p q) p q) may (inr (at_last (closed_over m) q)) refl)
      lost_sound d may (both p q) = is_sound 1 (omega arith) (lose d i) (lost_by i like a b first last (both p q) d 1 (sound_both i like a b first last (both p q) p q) may (inr (at_last (open_next m) q)) refl)
      lost_sound d may (new p q) = is_sound 1 (omega arith) (lose d i) (lost_by i like a b first last (new p q) d 1 (sound_new i like a b first last (new p q) p q) may (inr (at_last (closed_over (next_meta m)) q)) refl)
      lost_sound d may (ahead p q) = elim (cases_eq d 0) [
        | inl zero_is ↦ subst (λ (e : ℕ). IsSoundFrom slots (lose e i) h 0) (sym zero_is) (is_sound 0 (omega arith) (lose 0 i) (old_lost (at_last (closed_over m) q)))
        | inr apart ↦ is_sound 1 (omega arith) (lose d i) (lost_by i like a b first last (ahead p q) d 1 (sound_ahead i like a b first last (ahead p q) p q) may (inl apart) refl)
      ]
      lost_sound d may (done p q) = elim (cases_eq d 0) [
        | inl zero_is ↦ subst (λ (e : ℕ). IsSoundFrom slots (lose e i) h 0) (sym zero_is) (is_sound 1 (omega arith) (lose 0 i) (open_lost (at_last (open_next m) q)))
        | inr apart ↦ is_sound 1 (omega arith) (lose d i) (lost_by i like a b first last (done p q) d 1 (sound_done i like a b first last (done p q) p q) may (inl apart) refl)
      ]
