-- A formatted array holds the history without a write.
use Rattle.std.specs.Prelude.{◌≡◌, ◌≢◌, ℕ, ◌*◌, ◌%◌, ◌<◌, ◌≤◌, ◌==◌, ◌&&◌, ◌||◌, nat_lt, Bool, true, false, not, [], Option, Some, None, replicate, slice_index, if◌then◌else◌}
use Rattle.std.specs.Int.{bit_at}
use Rattle.std.proofs.Common.{refl, sym, ◌∙◌, ap, subst, arith, inl, inr, zero, suc}
use Rattle.std.proofs.lemmas.Bool.{and_from, false≢true}
use Rattle.std.proofs.lemmas.Bool.Decides.{nat_tests}
use Rattle.std.proofs.lemmas.Nat.Bits.{bit_at-zero}
use Rattle.paraid_base.specs.declared.block.Block.{Block}
use Rattle.paraid_base.specs.declared.geometry.Geometry.{Geometry}
use Rattle.paraid_base.specs.declared.state.Out.TheVariants.{No, Fresh}
use Rattle.paraid_base.specs.declared.state.Phase.TheVariants.{Steady, Up}
use Rattle.paraid_base.specs.Cells.{home_disk, home_row}
use Rattle.paraid_base.specs.History.{after}
use Rattle.paraid_base.specs.Log.{log_least, map_block_place}
use Rattle.paraid_base.specs.Regions.{disk_size, hard_place_of, map_count, map_place_of, soft_place_of}
use Rattle.paraid_base.specs.Sums.{xor_upto}
use Rattle.paraid_base.specs.Xor.{xor, zero_block}
use Rattle.paraid_base.proofs.CellsLemmas.{home_disk_below, home_row_below}
use Rattle.paraid_base.proofs.RegionsLemmas.{hard_place_below, soft_place_below}
use Rattle.paraid_base.proofs.XorLemmas.{xor_zero}
use Rattle.paraid_rack.specs.declared.call.Power.{Power}
use Rattle.paraid_rack.specs.declared.call.Power.TheVariants.{Spinning, Parked}
use Rattle.paraid_rack.specs.Disks.{Disks, is_present, lose}
use Rattle.paraid_record.specs.declared.meta.Meta.{Meta}
use Rattle.paraid_record.specs.Range.{fill_limit}
use Rattle.paraid_image.specs.Rest.{IsAtRest}
use Rattle.paraid_image.specs.Formatted.{IsFormatted}
use Rattle.paraid_image.specs.HeldAt.{IsHeld, IsSoundFrom, MayLose}
use Rattle.paraid_image.specs.Out.{IsMissing, IsWeak, first_absent, named_out, or_else, out_disk}
use Rattle.paraid_image.specs.Out.IsWeak.{out, named}
use Rattle.paraid_image.specs.Sides.{LogState, Says, has_place, is_open, stored_block}
use Rattle.paraid_image.specs.Sound.{AreDisks, ContentOk, IsFresh, IsWellKept, LogOk, IsSoundAt}
use Rattle.paraid_image.specs.Sound.Pairing.{alike}
use Rattle.paraid_image.specs.Spot.{View, is_hard, map_bit, map_disk, rising_to}
use Rattle.paraid_image.specs.Standing.{Contents, Stands, contents, is_first, other_log}
use Rattle.paraid_image.specs.Value.{stored_value, stripe, value}
use Rattle.paraid_image.proofs.HeldLemmas.{image_is}
use Rattle.paraid_image.proofs.OneDiskLessLemmas.{IsSoundAt-lost}
use Rattle.paraid_image.proofs.OutLemmas.{first_absent_is}
use Rattle.paraid_image.proofs.SidesLemmas.{Says-same}

zeros_index : (n k : ℕ) → slice_index (replicate n 0) k ≡ 0
zeros_index zero k = refl
zeros_index (suc n) zero = refl
zeros_index (suc n) (suc k) = zeros_index n k

zeroed_index : (k : ℕ) → slice_index zero_block.bytes k ≡ 0
unfolding zero_block
zeroed_index k = zeros_index 512 k

xor_of_zeros : (f : ℕ → Block) (n : ℕ) → ((d : ℕ) → d < n → f d ≡ zero_block) → xor_upto f n ≡ zero_block
unfolding xor_upto
xor_of_zeros f zero h = refl
xor_of_zeros f (suc n) h =
    let before = xor_of_zeros f n (λ d l. h d (omega arith)) in
    let last = h n (omega arith) in
    ap (λ (b : Block). xor b (f n)) before ∙ ap (xor zero_block) last ∙ xor_zero zero_block

no_bit : (g : Geometry) (f : ℕ → Block) (r e : ℕ) → f (map_place_of g r) ≡ zero_block → map_bit g f r e ≡ false
unfolding map_bit
no_bit g f r e is =
    let byte : slice_index (f (map_place_of g r)).bytes (r % 512) ≡ 0 = ap (λ (b : Block). slice_index b.bytes (r % 512)) is ∙ zeroed_index (r % 512) in
    ap (λ (n : ℕ). bit_at n e == 1) byte ∙ ap (λ (n : ℕ). n == 1) (bit_at-zero e)

none_absent : (power : ℕ → Power) (n : ℕ) → ((d : ℕ) → d < n → is_present (power d) ≡ true) → first_absent power n ≡ None
none_absent power n h = split (first_absent power n) refl
  where
    split : (o : Option ℕ) → first_absent power n ≡ o → o ≡ None
    split None is = refl
    split (Some u) is = let found = first_absent_is power n u is in absurd (false≢true (sym found.1 ∙ h u found.0))

zero_past_log : (low there : Bool) (x : Block) → (low ≡ false → there ≡ true → x ≡ zero_block) → (if low then zero_block else (if there then x else zero_block)) ≡ zero_block
zero_past_log true there x h = refl
zero_past_log false true x h = h refl refl
zero_past_log false false x h = refl

above : (q : ℕ) → nat_lt q log_least ≡ false → log_least ≤ q
above q h = grind (arith, nat_tests)

below : (q n : ℕ) → q < n → nat_lt q n ≡ true
below q n l = grind (arith, nat_tests)

same_first : (n : ℕ) → (nat_lt n n || (n == n && true)) ≡ true
same_first n = grind (arith, nat_tests)

abbrev said_of : Meta → LogState
said_of m = record { opened = false; meta = m; batch = [] }

first_of_same : (m : Meta) → is_first (said_of m) (said_of m) ≡ true
first_of_same m = same_first m.epoch

module _ (slots : ℕ) (s : Disks) (m : Meta) (f : IsFormatted slots s m) where
  abbrev g : Geometry
  g = m.setup.geometry

  abbrev said : LogState
  said = said_of m

  present : (d : ℕ) → d < g.disks → is_present (s.power d) ≡ true
  present d l = ap is_present (f.spinning d l)

  stored_is : (x q : ℕ) → x < g.disks → q < disk_size g → stored_block s x q ≡ s.block x q
  unfolding stored_block
  stored_is x q lx lq =
      let large = f.large x lx in
      let there : has_place s x q ≡ true = and_from (is_present (s.power x)) (nat_lt q (s.size x)) (present x lx) (below q (s.size x) (omega arith)) in
      ap (λ (t : Bool). if t then s.block x q else zero_block) there

  says : (x : ℕ) → x < 2 → Says s x said
  says x l =
      let low = g.disks_low in
      record {
        present = present x (omega arith);
        gate = ap is_open (stored_is x 0 (omega arith) (omega arith)) ∙ f.closed x l;
        log = record {
          meta = record {
            in_range = f.in_range;
            bytes = ap (λ (b : Block). b.bytes) (stored_is x 1 (omega arith) (omega arith)) ∙ f.meta x l;
          };
          empty = refl;
        };
      }

  stands : Stands s 0 said
  stands = record {
    log_disk = omega arith;
    says = says 0 (omega arith);
    first = λ other q. ap (is_first said) (Says-same s 1 other said q (says 1 (omega arith))) ∙ first_of_same m;
  }

  nothing_named : (d : ℕ) → named_out m.out ≢ Some d
  nothing_named d e = let k : None ≡ Some d = sym (ap named_out f.out) ∙ e in cc

  none_out : out_disk s.power m ≡ None
  none_out = ap (λ (o : Option ℕ). or_else o (first_absent s.power g.disks)) (ap named_out f.out) ∙ none_absent s.power g.disks present

  no_fresh : (d rebuilt : ℕ) → IsFresh s.power m d rebuilt → ⊥
  no_fresh d rebuilt fresh = let k : Fresh d rebuilt ≡ No = sym fresh.is ∙ f.out in cc

  nothing_missing : (d : ℕ) → IsMissing s.power m d → ⊥
  nothing_missing d missing = elim missing.is [
    | inl absent ↦ false≢true (sym absent ∙ present d missing.disk)
    | inr is ↦ nothing_named d is
  ]

  log : LogOk s 0 said 0
  log = record {
    stands = stands;
    writes = f.writes;
    single = λ d e missing other. absurd (nothing_missing d missing);
    standing_in = nothing_named 0;
    fresh_closed = λ d rebuilt fresh l. absurd (no_fresh d rebuilt fresh);
    targets_spin = λ t names not. let none = names.1 in absurd (omega arith);
    formed = λ y l there not. (said, says y l);
    paired = λ a b p q first second. alike (Says-same s 0 a said p (says 0 (omega arith)) ∙ sym (Says-same s 1 b said q (says 1 (omega arith))));
  }

  abbrev block : Contents
  block = contents s []

  zero_at : (d p : ℕ) → d < g.disks → p < disk_size g → block d p ≡ zero_block
  unfolding contents
  zero_at d p ld lp = zero_past_log (nat_lt p log_least) (has_place s d p) (s.block d p) (λ low there. f.zeros d p ld (above p low) lp)

  abbrev v : View
  v = record { meta = m; dirty = map_bit g (block (map_disk None)); out = None; block = block }

  clean : (r e : ℕ) → r < 512 * map_count g → v.dirty r e ≡ false
  clean r e l = let low = g.disks_low in no_bit g (block 0) r e (zero_at 0 (map_place_of g r) (omega arith) (omega arith))

  hard : (r e : ℕ) → e < g.disks → is_hard v r e ≡ true
  unfolding is_hard
  hard r e l =
      let gear = f.gear in
      ap (λ (t : Bool). t || (nat_lt e (rising_to m.phase) && not (v.dirty r e))) (below e m.gear (omega arith))

  value_zero : (r e : ℕ) → r < g.rows → e < g.disks → value v r e ≡ zero_block
  unfolding value stored_value
  value_zero r e lr le = rw (hard r e le) (zero_at e (hard_place_of g r) le (hard_place_below g r lr))

  no_fill : (s : ℕ) → s < m.fill → ⊥
  no_fill s l =
      let limit = f.in_range.shift.fill in
      let none : fill_limit g m.phase ≡ 0 = ap (fill_limit g) f.phase in
      omega arith

  ready : AreDisks slots s.power s.size m None
  ready = record {
    enough = f.enough;
    log_disks = λ d l parked. let low = g.disks_low in let k : Spinning ≡ Parked = sym (f.spinning d (omega arith)) ∙ parked in cc;
    large = λ d l there not. f.large d l;
    fresh_large = λ d rebuilt fresh. absurd (no_fresh d rebuilt fresh);
    below_gear = λ d l not. let gear = f.gear in f.spinning d (omega arith);
    fresh_spins = λ d rebuilt fresh. absurd (no_fresh d rebuilt fresh);
    recorded = λ to d up low high parked not. let k : Up to ≡ Steady = sym up ∙ f.phase in cc;
  }

  kept : IsWellKept slots s.power s.size v
  kept = record {
    rows = λ r l. xor_of_zeros (value v r) g.disks (λ e le. value_zero r e l le);
    stripes = λ off t l. xor_of_zeros (stripe g block m.gear t) m.gear
        (λ e le. let gear = f.gear in zero_at e (soft_place_of g m.gear t) (omega arith) (soft_place_below g m.gear t f.in_range.gear l));
    filled = λ none t l. absurd (no_fill t l);
    clean = λ r e lr low le not is. let gear = f.gear in absurd (omega arith);
    rebuilt = λ d rebuilt fresh. absurd (no_fresh d rebuilt fresh);
    map = record {
      mirrored = λ j l first second.
          let low = g.disks_low in
          zero_at 0 (map_block_place g j) (omega arith) (omega arith) ∙ sym (zero_at 1 (map_block_place g j) (omega arith) (omega arith));
      rows = λ r e l bit. absurd (false≢true (sym (clean r e l) ∙ bit));
      parked = λ r e l bit. absurd (false≢true (sym (clean r e l) ∙ bit));
      disks = λ r e l bit. absurd (false≢true (sym (clean r e l) ∙ bit));
    };
    disks = ready;
  }

  content : ContentOk slots s.power s.size v [] 0
  unfolding after
  content = record {
    kept = kept;
    blocks = λ b l.
        let low = g.disks_low in
        value_zero (home_row g.disks b) (home_disk g.disks b) (home_row_below g.disks b g.rows (omega arith) l) (home_disk_below g.disks b (omega arith));
  }

  sound : IsSoundAt slots s [] 0
  sound = record {
    disk = 0;
    said = said;
    log = log;
    content = subst (λ (o : Option ℕ). ContentOk slots s.power s.size (record { meta = m; dirty = map_bit g (block (map_disk o)); out = o; block = block }) [] 0)
        (sym none_out) content;
    witnesses = λ x l opened.
        let low = g.disks_low in
        absurd (false≢true (sym (f.no_witness x l) ∙ sym (ap is_open (stored_is 2 x (omega arith) (omega arith))) ∙ opened));
  }

  is_sound : IsSoundFrom slots s [] 0
  is_sound = record { k = 0; low = omega arith; high = omega arith; sound = sound }

  meta_by_any : (x : ℕ) (other : LogState) → x < 2 → Says s x other → other ≡ said
  meta_by_any x other l q = Says-same s x other said q (says x l)

  strong : (w : ℕ) → IsWeak s w → ⊥
  strong w (out x other t e) =
      let is = meta_by_any x other t.log_disk t.says in
      let k : None ≡ Some w = sym none_out ∙ ap (λ (z : LogState). out_disk s.power z.meta) (sym is) ∙ e in cc
  strong w (named x other last t e q n) =
      let low = t.log_disk in
      let is = meta_by_any (other_log x) last (omega arith) q in
      nothing_named w (ap (λ (z : LogState). named_out z.meta.out) (sym is) ∙ n)

  lost_sound : (d : ℕ) → MayLose s d → IsSoundFrom slots (lose d s) [] 0
  lost_sound d may = record {
    k = 0;
    low = omega arith;
    high = omega arith;
    sound = IsSoundAt-lost slots s [] 0 d 0 said sound stands (inr (says 1 (omega arith))) may;
  }

  pub IsHeld-formatted : IsHeld slots s [] 0 None
  IsHeld-formatted = record {
    whole = λ i e. subst (λ (k : Disks). IsSoundFrom slots k [] 0) (sym (image_is s i f.synced e)) is_sound;
    lost = λ i d e may.
        let same = image_is s i f.synced e in
        subst (λ (k : Disks). IsSoundFrom slots (lose d k) [] 0) (sym same) (lost_sound d (subst (λ (k : Disks). MayLose k d) same may));
    weak = λ i w e weak. absurd (strong w (subst (λ (k : Disks). IsWeak k w) (image_is s i f.synced e) weak));
  }

  pub IsAtRest-formatted : IsAtRest s m
  IsAtRest-formatted = record {
    synced = λ d p here. f.synced d p;
    disk = 0;
    log = subst (λ (k : ℕ). LogOk s 0 said k) (sym f.writes) log;
    shut = λ x l here not. (says x l).gate;
  }
