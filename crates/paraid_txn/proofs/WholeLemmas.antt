-- Each stage of a commit leaves the old contents or the new ones.
use Rattle.std.specs.Prelude.{◌≡◌, ℕ, ◌+◌, ◌<◌, ◌≤◌, ◌==◌, ◌&&◌, nat_lt, Bool, true, false, [], ◌∷◌, length, get_or, if◌then◌else◌, Some}
use Rattle.std.proofs.Common.{refl, sym, ◌∙◌, ap, subst, arith, inl, inr, suc}
use Rattle.std.proofs.lemmas.Bool.{cases_Bool, cases_eq, cases_lt, false≢true, and_from, lt-ltb, or_parts}
use Rattle.paraid_base.specs.declared.block.Block.{Block}
use Rattle.paraid_base.specs.Log.{batch_room, body_place, log_least}
use Rattle.paraid_base.specs.Xor.{zero_block}
use Rattle.paraid_rack.specs.Atoms.{IsLeftByStop, IsSure}
use Rattle.paraid_rack.specs.Disks.{Disks, IsPresent, is_present}
use Rattle.paraid_rack.proofs.AtomsLemmas.{left_sure}
use Rattle.paraid_image.specs.Neutral.{names_place}
use Rattle.paraid_image.specs.Sides.{AreBlocksLogged, Batch, Says, Spells, closed_over, is_open, stored_block}
use Rattle.paraid_image.specs.Batches.{batch_blocks}
use Rattle.paraid_image.specs.Standing.{overlaid_block, other_log}
use Rattle.paraid_txn.specs.CommitStages.{CloseCore, HoldsEarly, IsBlock, HoldsThroughout, KeepsSlotsAndLogs, IsLiveLog, IsSpelled, Job, IsLateImage, HoldsLate, LayCore, IsBatchLogged, LogCore, MarkCore, OpenCore, IsGateClosed, HoldsWhole, job_named, open_with, block_before}
use Rattle.paraid_image.proofs.NeutralLemmas.{overlaid_block-named, length-targets}

-- where no target is, the batch lays nothing
pub overlaid_block-unnamed : (batch : Batch) (d p : ℕ) (b : Block) → names_place batch d p ≡ false → overlaid_block batch d p b ≡ b
overlaid_block-unnamed [] d p b off = refl
overlaid_block-unnamed (w ∷ batch) d p b off =
    let parts = or_parts (w.0.disk == d && w.0.place == p) (names_place batch d p) off in
    ap (λ (t : Bool). overlaid_block batch d p (if t then w.1 else b)) parts.0 ∙ overlaid_block-unnamed batch d p b parts.1

-- what is laid again stays
pub overlaid_block-laid : (batch : Batch) (d p : ℕ) (b : Block) → overlaid_block batch d p (overlaid_block batch d p b) ≡ overlaid_block batch d p b
overlaid_block-laid batch d p b = elim (cases_Bool (names_place batch d p)) [
  | inl on ↦ overlaid_block-named batch d p (overlaid_block batch d p b) b on
  | inr off ↦ ap (overlaid_block batch d p) (overlaid_block-unnamed batch d p b off)
]

-- a place of the log, on a disk that is there and large enough
pub stored_here : (i : Disks) (x p : ℕ) → IsPresent i x → p < i.size x → stored_block i x p ≡ i.block x p
unfolding stored_block
stored_here i x p here lt =
    ap (λ (t : Bool). if t then i.block x p else zero_block) (and_from (is_present (i.power x)) (nat_lt p (i.size x)) here (lt-ltb p (i.size x) lt))

-- a batch that stands block by block from a place on is logged there
logged_from : (log : ℕ → Block) (p : ℕ) (batch : Batch) → ((k : ℕ) → k < length batch → log (p + k) ≡ get_or (batch_blocks batch) k zero_block) → AreBlocksLogged log p batch
logged_from log p [] each = tt
logged_from log p (w ∷ batch) each = (
  (let e : p ≡ p + 0 = omega arith in ap log e ∙ each 0 (omega arith)),
  logged_from log (suc p) batch (λ k lt. let e : suc p + k ≡ p + suc k = omega arith in ap log e ∙ each (suc k) (omega arith)),
)

pub left_kept : (j : Job) (s i : Disks) → KeepsSlotsAndLogs j s → IsLeftByStop s i → KeepsSlotsAndLogs j i
left_kept j s i k left = record {
  present = λ d here. k.present d (left.present d here);
  power = λ d here. left.power d here ∙ k.power d (left.present d here);
  size = λ d here. left.size d here ∙ k.size d (left.present d here);
  large = λ x live here. let a = k.large x live (left.present x here) in let b = left.size x here in omega arith;
}

left_aside : (j : Job) (s : Disks) → HoldsThroughout j s → (i : Disks) → IsLeftByStop s i → (y p : ℕ) → y < 2 → job_named j ≡ Some y → p < log_least → IsPresent i y → i.block y p ≡ j.start.block y p
left_aside j s beside i left y p log_disk is lt here = left_sure (beside.aside.log y p log_disk is lt) left here

module _ (j : Job) (good : IsSpelled j) (s i : Disks) (left : IsLeftByStop s i) where
  -- a live log disk whose log is the batch, by an open gate
  open_says : KeepsSlotsAndLogs j s → (x : ℕ) → IsLiveLog j x → IsPresent i x → IsBatchLogged j s x → is_open (i.block x 0) ≡ true → Says i x (open_with j)
  open_says kept x live here logged gate = record {
    present = here;
    gate = ap is_open (at 0 (omega arith)) ∙ gate;
    log = record {
      meta = subst (λ (b : Block). Spells b j.meta) (sym (at 2 (omega arith) ∙ left_sure logged.meta left here)) good.meta;
      in_range = good.in_range;
      list = ap (λ (b : Block). b.bytes) (at 3 (omega arith) ∙ left_sure logged.list left here) ∙ good.list;
      blocks = logged_from (stored_block i x) 4 j.batch (λ k lt.
          let few = few_targets in
          at (body_place k) (omega arith) ∙ left_sure (logged.blocks k lt) left here);
    };
  }
    where
      at : (p : ℕ) → p < log_least → stored_block i x p ≡ i.block x p
      at p lt = let large = (left_kept j s i kept left).large x live here in stored_here i x p here (omega arith)

      few_targets : length j.batch ≤ batch_room
      few_targets = let n = length-targets j.batch in let few = good.in_range.few in omega arith

  -- a live log disk that is closed over the new meta
  closed_says : KeepsSlotsAndLogs j s → (x : ℕ) → IsLiveLog j x → IsPresent i x → IsSure s x 1 (IsBlock j.spelled) → is_open (i.block x 0) ≡ false → Says i x (closed_over j.meta)
  closed_says kept x live here meta gate = record {
    present = here;
    gate = ap is_open (at 0 (omega arith)) ∙ gate;
    log = record { meta = subst (λ (b : Block). Spells b j.meta) (sym (at 1 (omega arith) ∙ left_sure meta left here)) good.meta; empty = refl };
  }
    where
      at : (p : ℕ) → p < log_least → stored_block i x p ≡ i.block x p
      at p lt = let large = (left_kept j s i kept left).large x live here in stored_here i x p here (omega arith)

  -- an open gate is not closed over the new meta
  not_closed : KeepsSlotsAndLogs j s → (x : ℕ) → IsLiveLog j x → IsPresent i x → is_open (i.block x 0) ≡ true → Says i x (closed_over j.meta) → ⊥
  not_closed kept x live here gate says =
      let large = (left_kept j s i kept left).large x live here in
      let at = stored_here i x 0 here (omega arith) in
      false≢true (sym says.gate ∙ ap is_open at ∙ gate)

module _ (j : Job) (good : IsSpelled j) where
  pub logging_whole : (k : ℕ) (s : Disks) → LogCore j k s → HoldsEarly j s
  logging_whole k s c = record {
    early = (λ i left. record {
      kept = left_kept j s i c.beside.kept left;
      sides = λ x live here. inl (left_sure (c.shut x live) left here, left_sure (c.meta x live) left here);
      in_order = λ live here shut y live_too here_too. left_sure (c.shut y live_too) left here_too;
      held = λ d p here far. left_sure (c.held d p far) left here;
    });
    aside = left_aside j s c.beside;
  }

  pub opening_whole : (k : ℕ) (s : Disks) → OpenCore j k s → HoldsEarly j s
  opening_whole k s c = record {
    early = (λ i left. record {
      kept = left_kept j s i c.beside.kept left;
      sides = λ x live here. elim (cases_Bool (is_open (i.block x 0))) [
        | inl gate ↦ inr (open_says j good s i left c.beside.kept x live here (c.logged x live) gate)
        | inr shut ↦ inl (shut, left_sure (c.meta x live) left here)
      ];
      in_order = λ live here shut y live_too here_too. elim (cases_eq y j.first) [
        | inl is ↦ ap (λ (z : ℕ). is_open (i.block z 0)) is ∙ shut
        | inr apart ↦ elim (cases_lt 0 k) [
          | inl begun ↦ absurd (false≢true (sym shut ∙ left_sure (c.opened 0 begun live) left here))
          | inr none ↦
              let low = good.first in
              let second : other_log j.first ≡ y = (let l = live_too.0 in omega arith) in
              let closed : IsGateClosed s y = subst (IsGateClosed s) second (c.waiting 1 (omega arith) (omega arith) (subst (IsLiveLog j) (sym second) live_too)) in
              left_sure closed left here_too
        ]
      ];
      held = λ d p here far. left_sure (c.held d p far) left here;
    });
    aside = left_aside j s c.beside;
  }

  pub laying_whole : (s : Disks) → LayCore j s → HoldsLate j s
  laying_whole s c = record {
    late = (λ i left. record {
      kept = left_kept j s i c.beside.kept left;
      sides = λ x live here. inl (open_says j good s i left c.beside.kept x live here (c.logged x live) (left_sure (c.opened x live) left here));
      held = λ d p ins here far. elim (c.others d p far) [
        | inl on ↦ overlaid_block-named j.batch d p (i.block d p) (block_before j d p) on
        | inr sure ↦ ap (overlaid_block j.batch d p) (left_sure sure left here)
      ];
      done = λ x d p live here says ins there far. absurd (not_closed j good s i left c.beside.kept x live here (left_sure (c.opened x live) left here) says);
    });
    aside = left_aside j s c.beside;
  }

  pub marking_whole : (k : ℕ) (s : Disks) → MarkCore j k s → HoldsLate j s
  marking_whole k s c = record {
    late = (λ i left. record {
      kept = left_kept j s i c.beside.kept left;
      sides = λ x live here. inl (open_says j good s i left c.beside.kept x live here (c.logged x live) (left_sure (c.opened x live) left here));
      held = λ d p ins here far. ap (overlaid_block j.batch d p) (left_sure (c.held d p ins far) left here) ∙ overlaid_block-laid j.batch d p (block_before j d p);
      done = λ x d p live here says ins there far. left_sure (c.held d p ins far) left there;
    });
    aside = left_aside j s c.beside;
  }

  pub closing_late : (k : ℕ) (s : Disks) → CloseCore j k s → (i : Disks) → IsLeftByStop s i → IsLateImage j i
  closing_late k s c i left = record {
    kept = left_kept j s i c.beside.kept left;
    sides = λ x live here. elim (cases_Bool (is_open (i.block x 0))) [
      | inl gate ↦ inl (open_says j good s i left c.beside.kept x live here (c.logged x live) gate)
      | inr shut ↦ inr (closed_says j good s i left c.beside.kept x live here (c.meta x live) shut)
    ];
    held = λ d p ins here far. ap (overlaid_block j.batch d p) (left_sure (c.held d p ins far) left here) ∙ overlaid_block-laid j.batch d p (block_before j d p);
    done = λ x d p live here says ins there far. left_sure (c.held d p ins far) left there;
  }

  pub closing_whole : (k : ℕ) (s : Disks) → CloseCore j k s → HoldsLate j s
  closing_whole k s c = record { late = closing_late k s c; aside = left_aside j s c.beside }

pub earlier_whole : (j : Job) (s : Disks) → HoldsEarly j s → HoldsWhole j s
earlier_whole j s e = record { either = inl e.early; aside = e.aside }

pub later_whole : (j : Job) (s : Disks) → HoldsLate j s → HoldsWhole j s
later_whole j s l = record { either = inr l.late; aside = l.aside }
