-- Any bytes in a free place leave what an image holds.
use Rattle.std.specs.Prelude.{◌≡◌, ◌≢◌, ℕ, ◌+◌, ◌<◌, ◌≤◌, true, false, Some, None}
use Rattle.std.proofs.Common.{sym, ◌∙◌, ap, subst, arith, inl, inr}
use Rattle.std.proofs.lemmas.Bool.{false≢true}
use Rattle.paraid_base.specs.declared.block.Block.{Block}
use Rattle.paraid_base.specs.declared.geometry.Geometry.{Geometry}
use Rattle.paraid_base.specs.declared.state.Out.TheVariants.{Gone, Fresh}
use Rattle.paraid_base.specs.declared.state.Phase.{Phase}
use Rattle.paraid_base.specs.declared.state.Phase.TheVariants.{Steady, Down, Up}
use Rattle.paraid_base.specs.History.{History}
use Rattle.paraid_base.specs.Log.{log_least, map_block_place}
use Rattle.paraid_base.specs.Regions.{IsGear, hard_place_of, map_count, soft_place_of}
use Rattle.paraid_base.specs.Soft.{stripe_count}
use Rattle.paraid_base.proofs.RegionsLemmas.{hard_below_soft, soft_places_apart}
use Rattle.paraid_rack.specs.declared.call.Power.{Power}
use Rattle.paraid_rack.specs.Disks.{Disks}
use Rattle.paraid_record.specs.declared.meta.Meta.{Meta}
use Rattle.paraid_record.specs.Codes.{phase_to}
use Rattle.paraid_record.specs.Range.{IsInRange, IsPhaseInRange}
use Rattle.paraid_image.specs.Content.{view_of}
use Rattle.paraid_image.specs.Free.{IsFree, IsShiftTo}
use Rattle.paraid_image.specs.Free.IsFree.{dirty_cell, unfilled, gone, row, stripe, map_block}
use Rattle.paraid_image.specs.Neutral.{overwrite}
use Rattle.paraid_image.specs.Out.{named_out, out_disk}
use Rattle.paraid_image.specs.Sides.{LogState, is_open, stored_block}
use Rattle.paraid_image.specs.Sound.{IsFresh, IsSoundAt, stripes_on}
use Rattle.paraid_image.specs.Spot.{View}
use Rattle.paraid_image.specs.Standing.{Contents, Stands, contents}
use Rattle.paraid_image.proofs.AgreeLemmas.{AgreeSeen, content_agrees, stripes_gear}
use Rattle.paraid_image.proofs.NeutralLemmas.{KeepsLog, contents_else, keeps_log_by, log_forth, log_kept_past, stored_else, written}
use Rattle.paraid_image.proofs.OutLemmas.{says_in_range}
use Rattle.paraid_image.proofs.StandingLemmas.{Stands-same}
use Rattle.paraid_image.proofs.CallLemmas.{out_named}

-- a shift goes to another gear
record ShiftGear (g : Geometry) (gear : ℕ) (phase : Phase) (to : ℕ) : Type 0 where
  is_gear : IsGear g to
  other : gear ≢ to
  is : phase_to phase ≡ to

shift_gear : (g : Geometry) (gear : ℕ) (phase : Phase) (to : ℕ) → IsPhaseInRange g gear phase → IsShiftTo phase to → ShiftGear g gear phase to
shift_gear g gear Steady to range (inl e) = cc
shift_gear g gear Steady to range (inr e) = cc
shift_gear g gear (Down t) to range (inl e) =
    let same : t ≡ to = cc in
    let below = range.below in
    record { is_gear = subst (IsGear g) same range.lower_gear; other = λ k. absurd (omega arith); is = same }
shift_gear g gear (Down t) to range (inr e) = cc
shift_gear g gear (Up t) to range (inl e) = cc
shift_gear g gear (Up t) to range (inr e) =
    let same : t ≡ to = cc in
    let below = range.below in
    record { is_gear = subst (IsGear g) same range.higher_gear; other = λ k. absurd (omega arith); is = same }

module _ (v : View) (power : ℕ → Power) (after : Contents) (d p : ℕ)
    (same : (x q : ℕ) → (x ≡ d → q ≢ p) → after x q ≡ v.block x q) (in_range : IsInRange v.meta)
    (named : (e : ℕ) → named_out v.meta.out ≡ Some e → v.out ≡ Some e) where
  abbrev g : Geometry
  g = v.meta.setup.geometry

  in_stripes : (e s : ℕ) → s < stripes_on v e → s < stripe_count g.disks g.rows v.meta.gear
  in_stripes e s l = (stripes_gear e v.meta.gear (stripe_count g.disks g.rows v.meta.gear) s l).1

  dirty_not_clean : (r q e : ℕ) → v.dirty q d ≡ true → r ≡ q → e ≡ d → v.dirty r e ≡ false → ⊥
  dirty_not_clean r q e bit at is clean = false≢true (sym clean ∙ ap (λ (y : ℕ). v.dirty y e) at ∙ ap (v.dirty q) is ∙ bit)

  agrees_dirty : (q : ℕ) → q < g.rows → v.meta.gear ≤ d → v.dirty q d ≡ true → p ≡ hard_place_of g q → AgreeSeen v power after
  agrees_dirty q lq low bit at = record {
    map_blocks = λ x j lx lj not. same x (map_block_place g j) (λ is here. absurd (omega arith));
    hard = λ r e lr le not clean. same e (hard_place_of g r) (λ is here. dirty_not_clean r q e bit (omega arith) is (clean (omega arith)));
    soft = λ s e ls le not. same e (soft_place_of g v.meta.gear s) (λ is here. let b = hard_below_soft g q v.meta.gear s lq in absurd (omega arith));
    filled = λ s e none ls le. same e (soft_place_of g (phase_to v.meta.phase) s) (λ is here. let b = hard_below_soft g q (phase_to v.meta.phase) s lq in absurd (omega arith));
    fresh_rows = λ e u r fresh lr lu clean. same e (hard_place_of g r) (λ is here. dirty_not_clean r q e bit (omega arith) is (clean (omega arith)));
    fresh_stripes = λ e u s fresh ls lu. same e (soft_place_of g v.meta.gear s) (λ is here. let b = hard_below_soft g q v.meta.gear s lq in absurd (omega arith));
    fresh_map = λ e u j fresh le lj lu. same e (map_block_place g j) (λ is here. absurd (omega arith));
  }

  agrees_unfilled : (to t : ℕ) → IsShiftTo v.meta.phase to → v.meta.fill ≤ t → t < stripe_count g.disks g.rows to → p ≡ soft_place_of g to t → AgreeSeen v power after
  agrees_unfilled to t shift past lt at =
      let gears = shift_gear g v.meta.gear v.meta.phase to in_range.phase shift in
      let apart : (s : ℕ) → s < stripe_count g.disks g.rows v.meta.gear → soft_place_of g v.meta.gear s ≢ p =
      λ s ls here. gears.other ((soft_places_apart g v.meta.gear to s t in_range.gear gears.is_gear ls lt (here ∙ at)).0) in
      record {
        map_blocks = λ x j lx lj not. same x (map_block_place g j) (λ is here. absurd (omega arith));
        hard = λ r e lr le not clean. same e (hard_place_of g r) (λ is here. let b = hard_below_soft g r to t lr in absurd (omega arith));
        soft = λ s e ls le not. same e (soft_place_of g v.meta.gear s) (λ is. apart s ls);
        filled = λ s e none ls le. same e (soft_place_of g (phase_to v.meta.phase) s) (λ is here.
            let k : soft_place_of g to s ≡ soft_place_of g to t = ap (λ (a : ℕ). soft_place_of g a s) (sym gears.is) ∙ here ∙ at in
            absurd (omega arith));
        fresh_rows = λ e u r fresh lr lu clean. same e (hard_place_of g r) (λ is here. let b = hard_below_soft g r to t lr in absurd (omega arith));
        fresh_stripes = λ e u s fresh ls lu. same e (soft_place_of g v.meta.gear s) (λ is. apart s (in_stripes e s ls));
        fresh_map = λ e u j fresh le lj lu. same e (map_block_place g j) (λ is here. absurd (omega arith));
      }

  -- what is not on the out disk is not at the place
  off_out : (x q : ℕ) → v.out ≡ Some d → v.out ≢ Some x → after x q ≡ v.block x q
  off_out x q o not = same x q (λ is here. not (o ∙ ap Some (sym is)))

  some_none : v.out ≡ Some d → v.out ≡ None → ⊥
  some_none o none = let k : Some d ≡ None = sym o ∙ none in cc

  agrees_gone : v.meta.out ≡ Gone d → AgreeSeen v power after
  agrees_gone is_gone =
      let o = named d (ap named_out is_gone) in
      let no_fresh : (e u : ℕ) → IsFresh power v.meta e u → ⊥ = (λ e u fresh. let k : Fresh e u ≡ Gone d = sym fresh.is ∙ is_gone in cc) in
      record {
        map_blocks = λ x j lx lj not. off_out x (map_block_place g j) o not;
        hard = λ r e lr le not clean. off_out e (hard_place_of g r) o not;
        soft = λ s e ls le not. off_out e (soft_place_of g v.meta.gear s) o not;
        filled = λ s e none ls le. absurd (some_none o none);
        fresh_rows = λ e u r fresh lr lu clean. absurd (no_fresh e u fresh);
        fresh_stripes = λ e u s fresh ls lu. absurd (no_fresh e u fresh);
        fresh_map = λ e u j fresh le lj lu. absurd (no_fresh e u fresh);
      }

  same_rebuilt : (e u t : ℕ) → v.meta.out ≡ Fresh d t → IsFresh power v.meta e u → u ≡ t
  same_rebuilt e u t is fresh = let k : Fresh e u ≡ Fresh d t = sym fresh.is ∙ is in cc

  agrees_row : (u₀ q : ℕ) → v.meta.out ≡ Fresh d u₀ → u₀ ≤ q → q < g.rows → p ≡ hard_place_of g q → AgreeSeen v power after
  agrees_row u₀ q is_fresh past lq at =
      let o = named d (ap named_out is_fresh) in
      record {
        map_blocks = λ x j lx lj not. off_out x (map_block_place g j) o not;
        hard = λ r e lr le not clean. off_out e (hard_place_of g r) o not;
        soft = λ s e ls le not. off_out e (soft_place_of g v.meta.gear s) o not;
        filled = λ s e none ls le. absurd (some_none o none);
        fresh_rows = λ e u r fresh lr lu clean. same e (hard_place_of g r) (λ is here. let k = same_rebuilt e u u₀ is_fresh fresh in absurd (omega arith));
        fresh_stripes = λ e u s fresh ls lu. same e (soft_place_of g v.meta.gear s) (λ is here. let b = hard_below_soft g q v.meta.gear s lq in absurd (omega arith));
        fresh_map = λ e u j fresh le lj lu. same e (map_block_place g j) (λ is here. absurd (omega arith));
      }

  agrees_stripe : (u₀ t : ℕ) → v.meta.out ≡ Fresh d u₀ → u₀ ≤ g.rows + t → t < stripes_on v d → p ≡ soft_place_of g v.meta.gear t → AgreeSeen v power after
  agrees_stripe u₀ t is_fresh past lt at =
      let o = named d (ap named_out is_fresh) in
      record {
        map_blocks = λ x j lx lj not. off_out x (map_block_place g j) o not;
        hard = λ r e lr le not clean. off_out e (hard_place_of g r) o not;
        soft = λ s e ls le not. off_out e (soft_place_of g v.meta.gear s) o not;
        filled = λ s e none ls le. absurd (some_none o none);
        fresh_rows = λ e u r fresh lr lu clean. same e (hard_place_of g r) (λ is here. let b = hard_below_soft g r v.meta.gear t lr in absurd (omega arith));
        fresh_stripes = λ e u s fresh ls lu. same e (soft_place_of g v.meta.gear s) (λ is here. let k = same_rebuilt e u u₀ is_fresh fresh in absurd (omega arith));
        fresh_map = λ e u j fresh le lj lu. same e (map_block_place g j) (λ is here. absurd (omega arith));
      }

  agrees_map : (u₀ t : ℕ) → v.meta.out ≡ Fresh d u₀ → t < map_count g → u₀ ≤ g.rows + stripes_on v d + t → p ≡ map_block_place g t → AgreeSeen v power after
  agrees_map u₀ t is_fresh lt past at =
      let o = named d (ap named_out is_fresh) in
      record {
        map_blocks = λ x j lx lj not. off_out x (map_block_place g j) o not;
        hard = λ r e lr le not clean. off_out e (hard_place_of g r) o not;
        soft = λ s e ls le not. off_out e (soft_place_of g v.meta.gear s) o not;
        filled = λ s e none ls le. absurd (some_none o none);
        fresh_rows = λ e u r fresh lr lu clean. same e (hard_place_of g r) (λ is here. absurd (omega arith));
        fresh_stripes = λ e u s fresh ls lu. same e (soft_place_of g v.meta.gear s) (λ is here. absurd (omega arith));
        fresh_map = λ e u j fresh le lj lu. same e (map_block_place g j) (λ is here.
            let k = same_rebuilt e u u₀ is_fresh fresh in
            let m : stripes_on v e ≡ stripes_on v d = ap (stripes_on v) is in
            absurd (omega arith));
      }

  pub free_agrees : IsFree v d p → AgreeSeen v power after
  free_agrees (dirty_cell q lq low bit at) = agrees_dirty q lq low bit at
  free_agrees (unfilled to t shift past lt at) = agrees_unfilled to t shift past lt at
  free_agrees (gone is far) = agrees_gone is
  free_agrees (row u₀ q is past lq at) = agrees_row u₀ q is past lq at
  free_agrees (stripe u₀ t is past lt at) = agrees_stripe u₀ t is past lt at
  free_agrees (map_block u₀ t is lt past at) = agrees_map u₀ t is lt past at

pub free_past : (v : View) (d p : ℕ) → IsFree v d p → log_least ≤ p
free_past v d p (dirty_cell q lq low bit at) = omega arith
free_past v d p (unfilled to t shift past lt at) = omega arith
free_past v d p (gone is far) = far
free_past v d p (row u₀ q is past lq at) = omega arith
free_past v d p (stripe u₀ t is past lt at) = omega arith
free_past v d p (map_block u₀ t is lt past at) = omega arith

pub free_log : (i : Disks) (d p : ℕ) (b : Block) → log_least ≤ p → KeepsLog i (written i d p b)
free_log i d p b far = keeps_log_by i (written i d p b) (λ x l. log_kept_past i d p b far x)

-- an image holds what it held, whatever a free place holds
pub IsSoundAt-free : (slots : ℕ) (i : Disks) (d p : ℕ) (b : Block) (h : History) (k x : ℕ) (said : LogState) → Stands i x said
    → IsFree (view_of i said) d p → IsSoundAt slots i h k → IsSoundAt slots (overwrite i d p b) h k
IsSoundAt-free slots i d p b h k x said stands free s =
    let is = Stands-same i s.disk x s.said said s.log.stands stands in
    let now_free : IsFree (view_of i s.said) d p = subst (λ (z : LogState). IsFree (view_of i z) d p) (sym is.1) free in
    let m : Meta = s.said.meta in
    let in_range = says_in_range s.said.opened (stored_block i s.disk) s.said.meta s.said.batch s.log.stands.says.log in
    let after : Contents = contents (overwrite i d p b) s.said.batch in
    let named : (e : ℕ) → named_out s.said.meta.out ≡ Some e → out_disk i.power s.said.meta ≡ Some e = (λ e n. out_named i.power s.said.meta e n) in
    let agree = free_agrees (view_of i s.said) i.power after d p (λ y q apart. contents_else i d p b s.said.batch y q apart) in_range named now_free in
    record {
      disk = s.disk;
      said = s.said;
      log = log_forth i (written i d p b) (free_log i d p b (free_past (view_of i s.said) d p now_free)) s.disk s.said k s.log;
      content = content_agrees s.said.meta (out_disk i.power s.said.meta) (contents i s.said.batch) after i.power in_range
          (λ e u fresh. named e (ap named_out fresh.is)) agree slots i.size h k s.content;
      witnesses = λ y l opened.
          let far = free_past (view_of i s.said) d p now_free in
          s.witnesses y l (ap is_open (sym (stored_else i d p b 2 y (λ at here. absurd (omega arith)))) ∙ opened);
    }
