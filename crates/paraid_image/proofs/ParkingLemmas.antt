-- Parking a disk and spinning it up leave what is held.
use Rattle.std.specs.Prelude.{◌≡◌, ◌≢◌, ℕ, ◌⊎◌, ◌&&◌, nat_lt, Bool, true, Contains, Option, Some, None, if◌then◌else◌}
use Rattle.std.proofs.Common.{refl, sym, ◌∙◌, ap, subst, arith, inl, inr, zero, suc}
use Rattle.std.proofs.lemmas.Bool.{cases_eq}
use Rattle.paraid_base.specs.declared.block.Block.{Block}
use Rattle.paraid_base.specs.declared.state.Out.TheVariants.{Fresh}
use Rattle.paraid_base.specs.History.{History}
use Rattle.paraid_base.specs.Log.{log_least}
use Rattle.paraid_base.specs.Xor.{zero_block}
use Rattle.paraid_rack.specs.declared.call.Call.TheVariants.{Park, SpinUp}
use Rattle.paraid_rack.specs.declared.call.Power.{Power}
use Rattle.paraid_rack.specs.declared.call.Power.TheVariants.{Spinning, Parked, Absent}
use Rattle.paraid_rack.specs.Disks.{Disks, IsImage, is_present, lose, step, with_at}
use Rattle.paraid_rack.proofs.AtomsLemmas.{at_case, with_at_other, with_at_same}
use Rattle.paraid_record.specs.declared.meta.Meta.{Meta}
use Rattle.paraid_record.specs.declared.targets.Target.{Target}
use Rattle.paraid_image.specs.Content.{view_of}
use Rattle.paraid_image.specs.HeldAt.{IsHeld, IsSoundFrom, MayLose}
use Rattle.paraid_image.specs.Out.{IsMissing, IsWeak, first_absent, named_out, or_else, out_disk}
use Rattle.paraid_image.specs.Out.IsWeak.{out, named}
use Rattle.paraid_image.specs.Sides.{Batch, LogState, Says, SaysBy, has_place, is_open, stored_block, targets}
use Rattle.paraid_image.specs.Sound.{AreDisks, ContentOk, IsFresh, LogOk}
use Rattle.paraid_image.specs.Spot.{map_bit, map_disk, rising_to}
use Rattle.paraid_image.specs.Standing.{Contents, Stands, contents, overlaid_block, other_log}
use Rattle.paraid_image.specs.Parking.{MayPark}

-- the disks with these powers
abbrev pub with_powers : Disks → (ℕ → Power) → Disks
with_powers i q = record i { power = q }

-- what a log disk says asks no more of the new powers than of the old ones
pub record AsksNoMore (said : LogState) (p q : ℕ → Power) : Type 0 where
  pub disks : (slots : ℕ) (size : ℕ → ℕ) (o : Option ℕ) → AreDisks slots p size said.meta o → AreDisks slots q size said.meta o
  pub spin : (t : Target) → Contains (targets said.batch) t → p t.disk ≡ Spinning → q t.disk ≡ Spinning

first_absent_same : (p q : ℕ → Power) (n : ℕ) → ((x : ℕ) → is_present (q x) ≡ is_present (p x)) → first_absent q n ≡ first_absent p n
unfolding first_absent
first_absent_same p q zero same = refl
first_absent_same p q (suc n) same =
    ap (λ (o : Option ℕ). or_else o (if is_present (q n) then None else Some n)) (first_absent_same p q n same)
    ∙ ap (λ (t : Bool). or_else (first_absent p n) (if t then None else Some n)) (same n)

module _ (i : Disks) (q : ℕ → Power) (same : (x : ℕ) → is_present (q x) ≡ is_present (i.power x)) where
  abbrev new : Disks
  new = with_powers i q

  place_same : (x p : ℕ) → has_place new x p ≡ has_place i x p
  place_same x p = ap (λ (t : Bool). t && nat_lt p (i.size x)) (same x)

  stored_same : (x p : ℕ) → stored_block new x p ≡ stored_block i x p
  unfolding stored_block
  stored_same x p = ap (λ (t : Bool). if t then i.block x p else zero_block) (place_same x p)

  log_same : (x : ℕ) → stored_block new x ≡ stored_block i x
  log_same x = λ t. λ p. stored_same x p t

  contents_same : (batch : Batch) → contents new batch ≡ contents i batch
  unfolding contents
  contents_same batch = λ t. λ x p.
      (ap (λ (there : Bool). if nat_lt p log_least then zero_block else (if there then overlaid_block batch x p (i.block x p) else zero_block)) (place_same x p)) t

  says_now : (x : ℕ) (said : LogState) → Says i x said → Says new x said
  says_now x said s = record {
    present = same x ∙ s.present;
    gate = ap is_open (stored_same x 0) ∙ s.gate;
    log = subst (λ (f : ℕ → Block). SaysBy said.opened f said.meta said.batch) (sym (log_same x)) s.log;
  }

  says_then : (x : ℕ) (said : LogState) → Says new x said → Says i x said
  says_then x said s = record {
    present = sym (same x) ∙ s.present;
    gate = ap is_open (sym (stored_same x 0)) ∙ s.gate;
    log = subst (λ (f : ℕ → Block). SaysBy said.opened f said.meta said.batch) (log_same x) s.log;
  }

  stands_now : (x : ℕ) (said : LogState) → Stands i x said → Stands new x said
  stands_now x said s = record {
    log_disk = s.log_disk;
    says = says_now x said s.says;
    first = λ other t. s.first other (says_then (other_log x) other t);
  }

  pub stands_then : (x : ℕ) (said : LogState) → Stands new x said → Stands i x said
  stands_then x said s = record {
    log_disk = s.log_disk;
    says = says_then x said s.says;
    first = λ other t. s.first other (says_now (other_log x) other t);
  }

  out_same : (m : Meta) → out_disk q m ≡ out_disk i.power m
  out_same m = ap (or_else (named_out m.out)) (first_absent_same i.power q m.setup.geometry.disks same)

  pub weak_now : (w : ℕ) → IsWeak i w → IsWeak new w
  weak_now w (out x said s e) = out x said (stands_now x said s) (out_same said.meta ∙ e)
  weak_now w (named x said other s none t e) = named x said other (stands_now x said s) (out_same said.meta ∙ none) (says_now (other_log x) other t) e

  pub weak_then : (w : ℕ) → IsWeak new w → IsWeak i w
  weak_then w (out x said s e) = out x said (stands_then x said s) (sym (out_same said.meta) ∙ e)
  weak_then w (named x said other s none t e) = named x said other (stands_then x said s) (sym (out_same said.meta) ∙ none) (says_then (other_log x) other t) e

  missing_then : (m : Meta) (d : ℕ) → IsMissing q m d → IsMissing i.power m d
  missing_then m d missing = record {
    disk = missing.disk;
    is = elim missing.is [ inl absent ↦ inl (sym (same d) ∙ absent) | inr is ↦ inr is ];
  }

  fresh_then : (m : Meta) (d rebuilt : ℕ) → IsFresh q m d rebuilt → IsFresh i.power m d rebuilt
  fresh_then m d rebuilt fresh = record { is = fresh.is; present = sym (same d) ∙ fresh.present }

  log_now : (x k : ℕ) (said : LogState) → AsksNoMore said i.power q → LogOk i x said k → LogOk new x said k
  log_now x k said asks ok = record {
    stands = stands_now x said ok.stands;
    writes = ok.writes;
    single = λ d e one two. ok.single d e (missing_then said.meta d one) (missing_then said.meta e two);
    standing_in = ok.standing_in;
    fresh_closed = λ d rebuilt fresh l. ap is_open (stored_same d 0) ∙ ok.fresh_closed d rebuilt (fresh_then said.meta d rebuilt fresh) l;
    targets_spin = λ t names not. asks.spin t names (ok.targets_spin t names (λ o. not (out_same said.meta ∙ o)));
    formed = λ y l present not.
        let was = ok.formed y l (sym (same y) ∙ present) (λ o. not (out_same said.meta ∙ o)) in (was.0, says_now y was.0 was.1);
    paired = λ a b p r first second.
        ok.paired a b (says_then 0 a p) (says_then 1 b r) (λ o. first (out_same said.meta ∙ o)) (λ o. second (out_same said.meta ∙ o));
  }

  abbrev Fits : (ℕ → Power) → ℕ → Meta → Option ℕ → Contents → History → ℕ → Type 0
  Fits p slots m o f h k = ContentOk slots p i.size (record { meta = m; dirty = map_bit m.setup.geometry (f (map_disk o)); out = o; block = f }) h k

  content_now : (slots k : ℕ) (h : History) (said : LogState) → AsksNoMore said i.power q
      → ContentOk slots i.power i.size (view_of i said) h k → ContentOk slots q i.size (view_of new said) h k
  content_now slots k h said asks c =
      let o : Option ℕ = out_disk i.power said.meta in
      let f : Contents = contents i said.batch in
      let now : Fits q slots said.meta o f h k = record {
        kept = record {
          rows = c.kept.rows;
          stripes = c.kept.stripes;
          filled = c.kept.filled;
          clean = c.kept.clean;
          rebuilt = λ d rebuilt fresh. c.kept.rebuilt d rebuilt (fresh_then said.meta d rebuilt fresh);
          map = c.kept.map;
          disks = asks.disks slots i.size o c.kept.disks;
        };
        blocks = c.blocks;
      } in
      subst (λ (z : Option ℕ). Fits q slots said.meta z (contents new said.batch) h k) (sym (out_same said.meta))
      (subst (λ (z : Contents). Fits q slots said.meta o z h k) (sym (contents_same said.batch)) now)

  pub is_sound_now : (slots : ℕ) (h : History) (lo : ℕ) → ((y : ℕ) (said : LogState) → Stands i y said → AsksNoMore said i.power q)
      → IsSoundFrom slots i h lo → IsSoundFrom slots new h lo
  is_sound_now slots h lo asks s =
      let stands = s.sound.log.stands in
      let no_more = asks s.sound.disk s.sound.said stands in
      record {
        k = s.k;
        low = s.low;
        high = s.high;
        sound = record {
          disk = s.sound.disk;
          said = s.sound.said;
          log = log_now s.sound.disk s.k s.sound.said no_more s.sound.log;
          content = content_now slots s.k h s.sound.said no_more s.sound.content;
          witnesses = λ y l opened. out_same s.sound.said.meta ∙ s.sound.witnesses y l (ap is_open (sym (stored_same 2 y)) ∙ opened);
        };
      }

-- one disk is turned from one power to another, or nothing is
pub record IsTurned (d : ℕ) (a b : Power) (p q : ℕ → Power) (x : ℕ) : Type 0 where
  pub is : x ≡ d
  pub was : p x ≡ a
  pub now : q x ≡ b

abbrev pub Turns : ℕ → Power → Power → (ℕ → Power) → (ℕ → Power) → Type 0
Turns d a b p q = (x : ℕ) → (q x ≡ p x) ⊎ IsTurned d a b p q x

turn_present : (d : ℕ) (a b : Power) (p q : ℕ → Power) → is_present a ≡ true → is_present b ≡ true → Turns d a b p q → (x : ℕ) → is_present (q x) ≡ is_present (p x)
turn_present d a b p q pa pb turns x = elim (turns x) [
  | inl same ↦ ap is_present same
  | inr turned ↦ ap is_present turned.now ∙ pb ∙ sym pa ∙ ap is_present (sym turned.was)
]

-- a lost disk is turned no more
turn_lost : (d : ℕ) (a b : Power) (p q : ℕ → Power) (e : ℕ) → Turns d a b p q → Turns d a b (with_at p e Absent) (with_at q e Absent)
turn_lost d a b p q e turns x = elim (cases_eq x e) [
  | inl is ↦ inl (with_at_same q e Absent x is ∙ sym (with_at_same p e Absent x is))
  | inr not ↦ elim (turns x) [
    | inl same ↦ inl (with_at_other q e Absent x not ∙ same ∙ sym (with_at_other p e Absent x not))
    | inr turned ↦ inr (record {
      is = turned.is;
      was = with_at_other p e Absent x not ∙ turned.was;
      now = with_at_other q e Absent x not ∙ turned.now;
    })
  ]
]

spin_asks : (d : ℕ) (said : LogState) (p q : ℕ → Power) → Turns d Parked Spinning p q → AsksNoMore said p q
spin_asks d said p q turns =
    let same = turn_present d Parked Spinning p q refl refl turns in
    let parked : (x : ℕ) → q x ≡ Parked → p x ≡ Parked = (λ x is. elim (turns x) [
      | inl kept ↦ sym kept ∙ is
      | inr turned ↦ turned.was
    ]) in
    let spinning : (x : ℕ) → p x ≡ Spinning → q x ≡ Spinning = (λ x is. elim (turns x) [
      | inl kept ↦ kept ∙ is
      | inr turned ↦ turned.now
    ]) in
    record {
      disks = λ slots size o was. record {
        enough = was.enough;
        log_disks = λ x l is. was.log_disks x l (parked x is);
        large = λ x l present not. was.large x l (sym (same x) ∙ present) not;
        fresh_large = λ x rebuilt fresh. was.fresh_large x rebuilt (record { is = fresh.is; present = sym (same x) ∙ fresh.present });
        below_gear = λ x l not. spinning x (was.below_gear x l not);
        fresh_spins = λ x rebuilt fresh. spinning x (was.fresh_spins x rebuilt (record { is = fresh.is; present = sym (same x) ∙ fresh.present }));
        recorded = λ to x up low high is not. was.recorded to x up low high (parked x is) not;
      };
      spin = λ t names is. spinning t.disk is;
    }

park_asks : (d : ℕ) (said : LogState) (p q : ℕ → Power) → MayPark said d → Turns d Spinning Parked p q → AsksNoMore said p q
park_asks d said p q may turns =
    let same = turn_present d Spinning Parked p q refl refl turns in
    let kept : (x : ℕ) → x ≢ d → q x ≡ p x = (λ x not. elim (turns x) [
      | inl kept ↦ kept
      | inr turned ↦ absurd (not turned.is)
    ]) in
    let far = may.no_log_disk in
    let high_gear = may.above_gear in
    record {
      disks = λ slots size o was. record {
        enough = was.enough;
        log_disks = λ x l is. was.log_disks x l (sym (kept x (λ e. absurd (omega arith))) ∙ is);
        large = λ x l present not. was.large x l (sym (same x) ∙ present) not;
        fresh_large = λ x rebuilt fresh. was.fresh_large x rebuilt (record { is = fresh.is; present = sym (same x) ∙ fresh.present });
        below_gear = λ x l not. kept x (λ e. absurd (omega arith)) ∙ was.below_gear x l not;
        fresh_spins = λ x rebuilt fresh.
            kept x (λ e. may.not_fresh rebuilt (subst (λ (y : ℕ). said.meta.out ≡ Fresh y rebuilt) e fresh.is))
            ∙ was.fresh_spins x rebuilt (record { is = fresh.is; present = sym (same x) ∙ fresh.present });
        recorded = λ to x up low high is not.
            let risen : rising_to said.meta.phase ≡ to = ap rising_to up in
            let above_new = may.above_new_gear in
            was.recorded to x up low high (sym (kept x (λ e. absurd (omega arith))) ∙ is) not;
      };
      spin = λ t names is. kept t.disk (may.no_target t names) ∙ is;
    }

-- disks whose powers alone have changed
module _ (slots : ℕ) (s t : Disks) (h : History) (lo : ℕ) (down : Option ℕ) (d : ℕ) (a b : Power) (pa : is_present a ≡ true) (pb : is_present b ≡ true)
    (turns : Turns d a b s.power t.power) (size : (x : ℕ) → t.size x ≡ s.size x) (block : (x p : ℕ) → t.block x p ≡ s.block x p)
    (loose : (x p : ℕ) → t.loose x p ≡ s.loose x p)
    (asks : (i : Disks) (y : ℕ) (said : LogState) → IsImage s i → Stands i y said → (p q : ℕ → Power) → Turns d a b p q → AsksNoMore said p q)
    (asks_lost : (i : Disks) (e y : ℕ) (said : LogState) → IsImage s i → MayLose i e → Stands (lose e i) y said → (p q : ℕ → Power) → Turns d a b p q → AsksNoMore said p q)
    (held : IsHeld slots s h lo down) where
  abbrev before : Disks → Disks
  before j = record { power = s.power; size = j.size; block = j.block; loose = j.loose }

  before_is : (j : Disks) → IsImage t j → IsImage s (before j)
  before_is j e = record {
    power = λ x. refl;
    size = λ x. e.size x ∙ size x;
    block = λ x p synced. e.block x p (loose x p ∙ synced) ∙ block x p;
    loose = e.loose;
  }

  turned : (j : Disks) → IsImage t j → Turns d a b s.power j.power
  turned j e x = elim (turns x) [
    | inl same ↦ inl (e.power x ∙ same)
    | inr turn ↦ inr (record { is = turn.is; was = turn.was; now = e.power x ∙ turn.now })
  ]

  same_present : (j : Disks) → IsImage t j → (x : ℕ) → is_present (j.power x) ≡ is_present (s.power x)
  same_present j e = turn_present d a b s.power j.power pa pb (turned j e)

  may_then : (j : Disks) (e : IsImage t j) (f : ℕ) → MayLose j f → MayLose (before j) f
  may_then j e f may = record {
    standing = may.standing;
    said = may.said;
    stands = stands_then (before j) j.power (same_present j e) may.standing may.said may.stands;
    disk = may.disk;
    present = sym (same_present j e f) ∙ may.present;
    weak = λ w weak. may.weak w (weak_now (before j) j.power (same_present j e) w weak);
  }

  pub IsHeld-turned : IsHeld slots t h lo down
  IsHeld-turned = record {
    whole = λ j e. is_sound_now (before j) j.power (same_present j e) slots h lo
        (λ y said st. asks (before j) y said (before_is j e) st s.power j.power (turned j e)) (held.whole (before j) (before_is j e));
    lost = λ j f e may.
        let turns_lost = turn_lost d a b s.power j.power f (turned j e) in
        is_sound_now (lose f (before j)) (with_at j.power f Absent)
        (turn_present d a b (with_at s.power f Absent) (with_at j.power f Absent) pa pb turns_lost) slots h lo
        (λ y said st. asks_lost (before j) f y said (before_is j e) (may_then j e f may) st
        (with_at s.power f Absent) (with_at j.power f Absent) turns_lost)
        (held.lost (before j) f (before_is j e) (may_then j e f may));
    weak = λ j w e weak. held.weak (before j) w (before_is j e) (weak_then (before j) j.power (same_present j e) w weak);
  }

with_at_turns : (p : ℕ → Power) (d : ℕ) (a b : Power) → p d ≡ a → Turns d a b p (with_at p d b)
with_at_turns p d a b is x = elim (cases_eq x d) [
  | inl here ↦ inr (record { is = here; was = ap p here ∙ is; now = with_at_same p d b x here })
  | inr not ↦ inl (with_at_other p d b x not)
]

with_at_self : {A : Type 0} (f : ℕ → A) (k j : ℕ) → with_at f k (f k) j ≡ f j
with_at_self f k j = at_case (λ v. v ≡ f j) f k (f k) j (λ is. ap f (sym is)) (λ not. refl)

pub spin_up_holds : (slots : ℕ) (s : Disks) (h : History) (lo : ℕ) (down : Option ℕ) (d : ℕ) → s.power d ≡ Parked
    → IsHeld slots s h lo down → IsHeld slots (step (SpinUp d true) s) h lo down
unfolding step
spin_up_holds slots s h lo down d parked held =
    IsHeld-turned slots s (step (SpinUp d true) s) h lo down d Parked Spinning refl refl (with_at_turns s.power d Parked Spinning parked)
    (λ x. with_at_self s.size d x) (λ x p. refl) (λ x p. refl) (λ i y said e st p q turns. spin_asks d said p q turns) (λ i e y said image may st p q turns. spin_asks d said p q turns) held

pub park_holds : (slots : ℕ) (s : Disks) (h : History) (lo : ℕ) (down : Option ℕ) (d : ℕ) → s.power d ≡ Spinning
    → ((i : Disks) (x : ℕ) (said : LogState) → IsImage s i → Stands i x said → MayPark said d)
    → ((i : Disks) (e x : ℕ) (said : LogState) → IsImage s i → MayLose i e → Stands (lose e i) x said → MayPark said d)
    → IsHeld slots s h lo down → IsHeld slots (step (Park d true) s) h lo down
unfolding step
park_holds slots s h lo down d spinning may may_lost held =
    IsHeld-turned slots s (step (Park d true) s) h lo down d Spinning Parked refl refl (with_at_turns s.power d Spinning Parked spinning)
    (λ x. with_at_self s.size d x) (λ x p. refl) (λ x p. refl) (λ i y said e st p q turns. park_asks d said p q (may i y said e st) turns)
    (λ i e y said image can st p q turns. park_asks d said p q (may_lost i e y said image can st) turns) held
