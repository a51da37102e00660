-- What the blocks stand for depends on the disks of the array alone.
use Rattle.std.specs.Prelude.{◌≡◌, ◌≢◌, ℕ, ◌<◌, ◌≤◌, true, false, Option, Some, None, if◌then◌else◌}
use Rattle.std.proofs.Common.{refl, sym, ◌∙◌, ap, subst, arith, zero, suc}
use Rattle.std.proofs.lemmas.Bool.{false≢true}
use Rattle.paraid_base.specs.History.{History}
use Rattle.paraid_base.specs.Log.{map_block_place}
use Rattle.paraid_base.specs.Regions.{disk_size, hard_place_of, soft_place_of}
use Rattle.paraid_base.specs.declared.state.Out.{Out}
use Rattle.paraid_base.specs.declared.state.Out.TheVariants.{No, Gone, Fresh}
use Rattle.paraid_rack.specs.declared.call.Power.{Power}
use Rattle.paraid_rack.specs.declared.call.Power.TheVariants.{Absent, Parked, Spinning}
use Rattle.paraid_rack.specs.Disks.{is_present}
use Rattle.paraid_record.specs.declared.meta.Meta.{Meta}
use Rattle.paraid_record.specs.Range.{IsInRange, IsPhaseInRange}
use Rattle.paraid_record.specs.Codes.{phase_to}
use Rattle.paraid_base.specs.declared.state.Phase.TheVariants.{Up}
use Rattle.paraid_txn.specs.Commit.{gone_out}
use Rattle.paraid_image.specs.Content.{view_by}
use Rattle.paraid_image.specs.Out.{first_absent, named_out, or_else, out_disk}
use Rattle.paraid_image.specs.Sound.{AreDisks, ContentOk, IsFresh}
use Rattle.paraid_image.specs.Spot.{map_bit, map_disk}
use Rattle.paraid_image.specs.Standing.{Contents}
use Rattle.paraid_image.proofs.AgreeLemmas.{AgreeSeen, content_agrees, fill_in_array, fresh_below}
use Rattle.paraid_txn.proofs.CommitImagesLemmas.{gone_named}
use Rattle.paraid_image.proofs.CallLemmas.{out_named}

pub absent_power : (p : Power) → is_present p ≡ false → p ≡ Absent
absent_power Absent off = refl
absent_power Parked off = absurd (false≢true (sym off))
absent_power Spinning off = absurd (false≢true (sym off))

pub first_absent_same : (p q : ℕ → Power) (n : ℕ) → ((e : ℕ) → e < n → q e ≡ p e) → first_absent q n ≡ first_absent p n
unfolding first_absent
first_absent_same p q zero same = refl
first_absent_same p q (suc n) same =
    ap (λ (o : Option ℕ). or_else o (if is_present (q n) then None else Some n)) (first_absent_same p q n (λ e l. same e (omega arith)))
    ∙ ap (λ (w : Power). or_else (first_absent p n) (if is_present w then None else Some n)) (same n (omega arith))

pub out_disk_same : (p q : ℕ → Power) (m : Meta) → ((e : ℕ) → e < m.setup.geometry.disks → q e ≡ p e) → out_disk q m ≡ out_disk p m
out_disk_same p q m same = ap (or_else (named_out m.out)) (first_absent_same p q m.setup.geometry.disks same)

gone_not_fresh : (o : Out) (e d rebuilt : ℕ) → o ≡ Fresh d rebuilt → gone_out o ≢ Some e
gone_not_fresh No e d rebuilt is = cc
gone_not_fresh (Gone g) e d rebuilt is = cc
gone_not_fresh (Fresh g r) e d rebuilt is = λ k. cc

module _ (slots : ℕ) (m : Meta) (range : IsInRange m) (p q : ℕ → Power) (size size' : ℕ → ℕ) (f t : Contents) (h : History) (k : ℕ)
    (powers : (e : ℕ) → e < m.setup.geometry.disks → q e ≡ p e)
    (sizes : (e : ℕ) → e < m.setup.geometry.disks → is_present (q e) ≡ true → size' e ≡ size e)
    (same : (e r : ℕ) → e < m.setup.geometry.disks → gone_out m.out ≢ Some e → t e r ≡ f e r) where
  out_same : out_disk q m ≡ out_disk p m
  out_same = out_disk_same p q m powers

  not_gone : (e : ℕ) → out_disk p m ≢ Some e → gone_out m.out ≢ Some e
  not_gone e not is = not (out_named p m e (gone_named m.out e is))

  fresh_in : (e rebuilt : ℕ) → IsFresh p m e rebuilt → e < m.setup.geometry.disks
  fresh_in e rebuilt fresh = fresh_below m.setup.geometry m.gear e rebuilt m.out range.out fresh.is

  gear_low : m.gear ≤ m.setup.geometry.disks
  gear_low = m.setup.geometry.gears_high m.gear range.gear

  agree : AgreeSeen (view_by m p f) p t
  agree = record {
    map_blocks = λ x j lx lj not. let n = m.setup.geometry.disks_low in same x (map_block_place m.setup.geometry j) (omega arith) (not_gone x not);
    hard = λ r e lr le not clean. same e (hard_place_of m.setup.geometry r) le (not_gone e not);
    soft = λ s e ls le not. let l = gear_low in same e (soft_place_of m.setup.geometry m.gear s) (omega arith) (not_gone e not);
    filled = λ s e none ls le. same e _ (to_low s ls e le) (not_gone e (λ is. let z : None ≡ Some e = sym none ∙ is in cc));
    fresh_rows = λ e u r fresh lr lu clean. same e (hard_place_of m.setup.geometry r) (fresh_in e u fresh) (gone_not_fresh m.out e e u fresh.is);
    fresh_stripes = λ e u s fresh ls lu. same e (soft_place_of m.setup.geometry m.gear s) (fresh_in e u fresh) (gone_not_fresh m.out e e u fresh.is);
    fresh_map = λ e u j fresh le lj lu. same e (map_block_place m.setup.geometry j) (fresh_in e u fresh) (gone_not_fresh m.out e e u fresh.is);
  }
    where
      to_low : (s : ℕ) → s < m.fill → (e : ℕ) → e < phase_to m.phase → e < m.setup.geometry.disks
      to_low s ls e le = let l = fill_in_array m.setup.geometry m.gear m.fill s m.phase range.phase range.shift.fill ls in omega arith

  fresh_out : (e rebuilt : ℕ) → IsFresh p m e rebuilt → out_disk p m ≡ Some e
  fresh_out e rebuilt fresh = out_named p m e (ap named_out fresh.is)

  fresh_back : (e rebuilt : ℕ) → IsFresh q m e rebuilt → IsFresh p m e rebuilt
  fresh_back e rebuilt fresh =
      let l = fresh_below m.setup.geometry m.gear e rebuilt m.out range.out fresh.is in
      record { is = fresh.is; present = ap is_present (sym (powers e l)) ∙ fresh.present }

  up_high : (to : ℕ) → m.phase ≡ Up to → to ≤ m.setup.geometry.disks
  up_high to is = let r : IsPhaseInRange m.setup.geometry m.gear (Up to) = subst (IsPhaseInRange m.setup.geometry m.gear) is range.phase in m.setup.geometry.gears_high to r.higher_gear

  disks_same : (o : Option ℕ) → AreDisks slots p size m o → AreDisks slots q size' m o
  disks_same o was = record {
    enough = was.enough;
    log_disks = λ d l parked. was.log_disks d l (sym (powers d (let n = m.setup.geometry.disks_low in omega arith)) ∙ parked);
    large = λ d l here not. subst (λ (n : ℕ). disk_size m.setup.geometry ≤ n) (sym (sizes d l here)) (was.large d l (ap is_present (sym (powers d l)) ∙ here) not);
    fresh_large = λ d u fresh.
        let l = fresh_below m.setup.geometry m.gear d u m.out range.out fresh.is in
        subst (λ (n : ℕ). disk_size m.setup.geometry ≤ n) (sym (sizes d l fresh.present)) (was.fresh_large d u (fresh_back d u fresh));
    below_gear = λ d l not. powers d (let n = gear_low in omega arith) ∙ was.below_gear d l not;
    fresh_spins = λ d u fresh. powers d (fresh_below m.setup.geometry m.gear d u m.out range.out fresh.is) ∙ was.fresh_spins d u (fresh_back d u fresh);
    recorded = λ to d up low high parked not.
        let n = up_high to up in
        was.recorded to d up low high (sym (powers d (omega arith)) ∙ parked) not;
  }

  -- the same blocks on the disks of the array, powered alike, stand for the same
  pub means_same : ContentOk slots p size (view_by m p f) h k → ContentOk slots q size' (view_by m q t) h k
  means_same c =
      let c1 = content_agrees m (out_disk p m) f t p range fresh_out agree slots size h k c in
      let c2 = subst (λ (o : Option ℕ). ContentOk slots p size (record { meta = m; dirty = map_bit m.setup.geometry (t (map_disk o)); out = o; block = t }) h k) (sym out_same) c1 in
      record {
        kept = record {
          rows = c2.kept.rows;
          stripes = c2.kept.stripes;
          filled = c2.kept.filled;
          clean = c2.kept.clean;
          rebuilt = λ e u fresh. c2.kept.rebuilt e u (fresh_back e u fresh);
          map = c2.kept.map;
          disks = disks_same (out_disk q m) c2.kept.disks;
        };
        blocks = c2.blocks;
      }
