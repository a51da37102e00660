-- Between two commits disks are parked and spun up.
use Rattle.std.specs.Prelude.{◌≡◌, ◌≢◌, ℕ, ◌<◌, ◌≤◌, ◌⊎◌, ◌&&◌, nat_lt, Bool, true, [], Contains, Option, Some, None, if◌then◌else◌}
use Rattle.std.proofs.Common.{refl, sym, ◌∙◌, ap, subst, arith, inl, inr, zero, suc}
use Rattle.std.proofs.lemmas.Bool.{cases_eq}
use Rattle.paraid_base.specs.declared.block.Block.{Block}
use Rattle.paraid_base.specs.declared.state.Out.TheVariants.{Fresh}
use Rattle.paraid_base.specs.History.{History}
use Rattle.paraid_base.specs.Log.{log_least}
use Rattle.paraid_base.specs.Xor.{zero_block}
use Rattle.paraid_rack.specs.declared.call.Call.TheVariants.{Park, SpinUp}
use Rattle.paraid_rack.specs.declared.call.Power.{Power}
use Rattle.paraid_rack.specs.declared.call.Power.TheVariants.{Spinning, Parked}
use Rattle.paraid_rack.specs.Disks.{Disks, IsImage, IsPresent, is_present, step, with_at}
use Rattle.paraid_rack.proofs.AtomsLemmas.{with_at_other, with_at_same}
use Rattle.paraid_record.specs.declared.meta.Meta.{Meta}
use Rattle.paraid_record.specs.declared.targets.Target.{Target}
use Rattle.paraid_image.specs.Content.{view_by}
use Rattle.paraid_image.specs.Free.{IsFree}
use Rattle.paraid_image.specs.Out.{IsMissing, first_absent, named_out, or_else, out_disk}
use Rattle.paraid_image.specs.Sides.{LogState, Says, SaysBy, closed_over, has_place, is_open, stored_block}
use Rattle.paraid_image.specs.Sound.{AreDisks, ContentOk, IsFresh, LogOk}
use Rattle.paraid_image.specs.Spot.{map_bit, map_disk, rising_to}
use Rattle.paraid_image.specs.Standing.{Contents, contents, other_log}
use Rattle.paraid_moves.specs.Copying.{IsCopyImage, IsCopying}

-- the same disks are there
abbrev pub AreTurned : (ℕ → Power) → (ℕ → Power) → Type 0
AreTurned p q = (x : ℕ) → is_present (q x) ≡ is_present (p x)

first_absent_turned : (p q : ℕ → Power) (n : ℕ) → AreTurned p q → first_absent q n ≡ first_absent p n
unfolding first_absent
first_absent_turned p q zero same = refl
first_absent_turned p q (suc n) same =
    ap (λ (o : Option ℕ). or_else o (if is_present (q n) then None else Some n)) (first_absent_turned p q n same)
    ∙ ap (λ (t : Bool). or_else (first_absent p n) (if t then None else Some n)) (same n)

pub out_turned : (p q : ℕ → Power) (m : Meta) → AreTurned p q → out_disk q m ≡ out_disk p m
out_turned p q m same = ap (or_else (named_out m.out)) (first_absent_turned p q m.setup.geometry.disks same)

-- what the blocks hold does not change with it, if the disks are as they are to be
pub content_turned : (slots : ℕ) (p q : ℕ → Power) (size : ℕ → ℕ) (m : Meta) (f : Contents) (h : History) (k : ℕ) → AreTurned p q
    → AreDisks slots q size m (out_disk p m) → ContentOk slots p size (view_by m p f) h k → ContentOk slots q size (view_by m q f) h k
content_turned slots p q size m f h k same ready ok =
    subst (λ (o : Option ℕ). ContentOk slots q size (record { meta = m; dirty = map_by o; out = o; block = f }) h k) (sym (out_turned p q m same)) now
  where
    map_by : Option ℕ → ℕ → ℕ → Bool
    map_by o = map_bit m.setup.geometry (f (map_disk o))

    now : ContentOk slots q size (view_by m p f) h k
    now = record {
      kept = record {
        rows = ok.kept.rows;
        stripes = ok.kept.stripes;
        filled = ok.kept.filled;
        clean = ok.kept.clean;
        rebuilt = λ d u fresh. ok.kept.rebuilt d u (record { is = fresh.is; present = sym (same d) ∙ fresh.present });
        map = ok.kept.map;
        disks = ready;
      };
      blocks = ok.blocks;
    }

module _ (i : Disks) (q : ℕ → Power) (same : AreTurned i.power q) where
  abbrev pub new : Disks
  new = record i { power = q }

  place_turned : (x p : ℕ) → has_place new x p ≡ has_place i x p
  place_turned x p = ap (λ (t : Bool). t && nat_lt p (i.size x)) (same x)

  stored_turned : (x p : ℕ) → stored_block new x p ≡ stored_block i x p
  unfolding stored_block
  stored_turned x p = ap (λ (t : Bool). if t then i.block x p else zero_block) (place_turned x p)

  contents_turned : (x p : ℕ) → contents new [] x p ≡ contents i [] x p
  unfolding contents
  contents_turned x p = ap (λ (there : Bool). if nat_lt p log_least then zero_block else (if there then i.block x p else zero_block)) (place_turned x p)

  log_turned : (x : ℕ) → stored_block new x ≡ stored_block i x
  log_turned x = λ t. λ p. stored_turned x p t

  says_now : (x : ℕ) (said : LogState) → Says i x said → Says new x said
  says_now x said s = record {
    present = same x ∙ s.present;
    gate = ap is_open (stored_turned x 0) ∙ s.gate;
    log = subst (λ (f : ℕ → Block). SaysBy said.opened f said.meta said.batch) (sym (log_turned x)) s.log;
  }

  says_then : (x : ℕ) (said : LogState) → Says new x said → Says i x said
  says_then x said s = record {
    present = sym (same x) ∙ s.present;
    gate = ap is_open (sym (stored_turned x 0)) ∙ s.gate;
    log = subst (λ (f : ℕ → Block). SaysBy said.opened f said.meta said.batch) (log_turned x) s.log;
  }

  missing_then : (m : Meta) (d : ℕ) → IsMissing q m d → IsMissing i.power m d
  missing_then m d missing = record { disk = missing.disk; is = elim missing.is [ inl absent ↦ inl (sym (same d) ∙ absent) | inr is ↦ inr is ] }

  no_target : (t : Target) → Contains {X = Target} [] t → ⊥
  no_target t c = let lt : c.0 < 0 = c.1 in omega arith

  log_now : (x k : ℕ) (m : Meta) → LogOk i x (closed_over m) k → LogOk new x (closed_over m) k
  log_now x k m ok = record {
    stands = record {
      log_disk = ok.stands.log_disk;
      says = says_now x (closed_over m) ok.stands.says;
      first = λ other t. ok.stands.first other (says_then (other_log x) other t);
    };
    writes = ok.writes;
    single = λ d e one two. ok.single d e (missing_then m d one) (missing_then m e two);
    standing_in = ok.standing_in;
    fresh_closed = λ d u fresh l. ap is_open (stored_turned d 0) ∙ ok.fresh_closed d u (record { is = fresh.is; present = sym (same d) ∙ fresh.present }) l;
    targets_spin = λ t names not. absurd (no_target t names);
    formed = λ y l present not.
        let was = ok.formed y l (sym (same y) ∙ present) (λ o. not (out_turned i.power q m same ∙ o)) in (was.0, says_now y was.0 was.1);
    paired = λ a b p r first second.
        ok.paired a b (says_then 0 a p) (says_then 1 b r) (λ o. first (out_turned i.power q m same ∙ o)) (λ o. second (out_turned i.power q m same ∙ o));
  }

  free_now : (m : Meta) (f : Contents) (d p : ℕ) → IsFree (view_by m i.power f) d p → IsFree (view_by m q f) d p
  free_now m f d p free = subst (λ (o : Option ℕ). IsFree (record { meta = m; dirty = map_bit m.setup.geometry (f (map_disk o)); out = o; block = f }) d p) (sym (out_turned i.power q m same)) free

  pub image_turned : (m : Meta) (f : Contents) → IsCopyImage i m f → IsCopyImage new m f
  image_turned m f c = record {
    disk = c.disk;
    log = log_now c.disk m.writes m c.log;
    gates = record { closed = λ y other low says not. c.gates.closed y other low (says_then y other says) not };
    witnesses = λ y low opened. out_turned i.power q m same ∙ c.witnesses y low (ap is_open (sym (stored_turned 2 y)) ∙ opened);
    only = λ x p. elim (c.only x p) [
      | inl free ↦ inl (free_now m f x p free)
      | inr is ↦ inr (contents_turned x p ∙ is)
    ];
  }

-- Disks that differ from others in power alone, with the same ones there
pub record IsTurnedTo (s t : Disks) : Type 0 where
  pub present : AreTurned s.power t.power
  pub size : (x : ℕ) → t.size x ≡ s.size x
  pub block : (x q : ℕ) → t.block x q ≡ s.block x q
  pub loose : (x q : ℕ) → t.loose x q ≡ s.loose x q

pub copying_turned : (s t : Disks) (m : Meta) (f : Contents) → IsTurnedTo s t → IsCopying s m f → IsCopying t m f
copying_turned s t m f turned copying = λ j e.
    let i : Disks = record { power = s.power; size = s.size; block = j.block; loose = j.loose } in
    let image : IsImage s i = record {
      power = λ x. refl;
      size = λ x. refl;
      block = λ x q synced. e.block x q (turned.loose x q ∙ synced) ∙ turned.block x q;
      loose = e.loose;
    } in
    let present : AreTurned i.power j.power = (λ x. ap is_present (e.power x) ∙ turned.present x) in
    let same : record i { power = j.power } ≡ j = (λ u. record {
      power = j.power;
      size = λ x. (sym (e.size x ∙ turned.size x)) u;
      block = j.block;
      loose = j.loose;
    }) in
    subst (λ (d : Disks). IsCopyImage d m f) same (image_turned i j.power present m f (copying i image))

pub self_at : (f : ℕ → ℕ) (d x : ℕ) → with_at f d (f d) x ≡ f x
self_at f d x = elim (cases_eq x d) [
  | inl is ↦ with_at_same f d (f d) x is ∙ ap f (sym is)
  | inr apart ↦ with_at_other f d (f d) x apart
]

power_turned : (p : ℕ → Power) (d : ℕ) (a : Power) → is_present (p d) ≡ true → is_present a ≡ true → AreTurned p (with_at p d a)
power_turned p d a was now x = elim (cases_eq x d) [
  | inl is ↦ ap is_present (with_at_same p d a x is) ∙ now ∙ sym was ∙ ap (λ (y : ℕ). is_present (p y)) (sym is)
  | inr apart ↦ ap is_present (with_at_other p d a x apart)
]

pub parked_turned : (s : Disks) (d : ℕ) → IsPresent s d → IsTurnedTo s (step (Park d true) s)
unfolding step
parked_turned s d here = record {
  present = power_turned s.power d Parked here refl;
  size = self_at s.size d;
  block = λ x q. refl;
  loose = λ x q. refl;
}

pub spun_turned : (s : Disks) (d : ℕ) → IsPresent s d → IsTurnedTo s (step (SpinUp d true) s)
unfolding step
spun_turned s d here = record {
  present = power_turned s.power d Spinning here refl;
  size = self_at s.size d;
  block = λ x q. refl;
  loose = λ x q. refl;
}

-- a disk at or above the gear, and in a shift up the new gear, which is no log disk and is not being rebuilt, may be parked
pub disks_parked : (slots : ℕ) (p : ℕ → Power) (size : ℕ → ℕ) (m : Meta) (o : Option ℕ) (d : ℕ) → 2 ≤ d → m.gear ≤ d → rising_to m.phase ≤ d
    → ((u : ℕ) → m.out ≢ Fresh d u) → is_present (p d) ≡ true → AreDisks slots p size m o → AreDisks slots (with_at p d Parked) size m o
disks_parked slots p size m o d no_log low rises not_fresh here was =
    let other : (x : ℕ) → x ≢ d → with_at p d Parked x ≡ p x = (λ x apart. with_at_other p d Parked x apart) in
    let there : (x : ℕ) → is_present (with_at p d Parked x) ≡ is_present (p x) = power_turned p d Parked here refl in
    let fresh_was : (x u : ℕ) → IsFresh (with_at p d Parked) m x u → IsFresh p m x u =
    (λ x u fresh. record { is = fresh.is; present = sym (there x) ∙ fresh.present }) in
    record {
      enough = was.enough;
      log_disks = λ x l parked. was.log_disks x l (sym (other x (λ is. omega arith)) ∙ parked);
      large = λ x l present not. was.large x l (sym (there x) ∙ present) not;
      fresh_large = λ x u fresh. was.fresh_large x u (fresh_was x u fresh);
      below_gear = λ x l not. other x (λ is. omega arith) ∙ was.below_gear x l not;
      fresh_spins = λ x u fresh. other x (λ is. not_fresh u (fresh.is ∙ ap (λ (y : ℕ). Fresh y u) is)) ∙ was.fresh_spins x u (fresh_was x u fresh);
      recorded = λ to x up low_too high parked not. was.recorded to x up low_too high (sym (other x (λ is.
          let rise : rising_to m.phase ≡ to = ap rising_to up in omega arith)) ∙ parked) not;
    }

-- any disk may be spun up
pub disks_spun : (slots : ℕ) (p : ℕ → Power) (size : ℕ → ℕ) (m : Meta) (o : Option ℕ) (d : ℕ) → is_present (p d) ≡ true
    → AreDisks slots p size m o → AreDisks slots (with_at p d Spinning) size m o
disks_spun slots p size m o d here was =
    let at : (x : ℕ) → (with_at p d Spinning x ≡ Spinning) ⊎ (with_at p d Spinning x ≡ p x) = (λ x. elim (cases_eq x d) [
      | inl is ↦ inl (with_at_same p d Spinning x is)
      | inr apart ↦ inr (with_at_other p d Spinning x apart)
    ]) in
    let parked_was : (x : ℕ) → with_at p d Spinning x ≡ Parked → p x ≡ Parked = (λ x parked. elim (at x) [
      | inl spins ↦ let z : Spinning ≡ Parked = sym spins ∙ parked in cc
      | inr same ↦ sym same ∙ parked
    ]) in
    let spins_now : (x : ℕ) → p x ≡ Spinning → with_at p d Spinning x ≡ Spinning = (λ x spins. elim (at x) [
      | inl now ↦ now
      | inr same ↦ same ∙ spins
    ]) in
    let there : (x : ℕ) → is_present (with_at p d Spinning x) ≡ is_present (p x) = power_turned p d Spinning here refl in
    let fresh_was : (x u : ℕ) → IsFresh (with_at p d Spinning) m x u → IsFresh p m x u =
    (λ x u fresh. record { is = fresh.is; present = sym (there x) ∙ fresh.present }) in
    record {
      enough = was.enough;
      log_disks = λ x l parked. was.log_disks x l (parked_was x parked);
      large = λ x l present not. was.large x l (sym (there x) ∙ present) not;
      fresh_large = λ x u fresh. was.fresh_large x u (fresh_was x u fresh);
      below_gear = λ x l not. spins_now x (was.below_gear x l not);
      fresh_spins = λ x u fresh. spins_now x (was.fresh_spins x u (fresh_was x u fresh));
      recorded = λ to x up low high parked not. was.recorded to x up low high (parked_was x parked) not;
    }
