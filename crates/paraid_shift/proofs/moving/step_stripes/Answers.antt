use Rattle.std.specs.Prelude.{ℕ, ◌⊎◌, ◌-◌, Bool, List}
use Rattle.std.proofs.Common.{◌≡◌, ◌∙◌, ◌+◌, ◌<◌, ◌≤◌, ap, arith, inl, inr, refl, subst, sym}
use Rattle.std.proofs.lemmas.Bool.{cases_eq}
use Rattle.paraid_base.specs.Soft.{stripe_count}
use Rattle.paraid_base.specs.States.{phase_to}
use Rattle.paraid_base.specs.declared.state.Out.TheVariants.{No}
use Rattle.paraid_record.specs.declared.meta.Meta.{Meta}
use Rattle.paraid_shift.proofs.PartLemmas.{keeps_done, keeps_later, keeps_raised, keeps_spared}
use Rattle.paraid_core.proofs.ChainLemmas.{marked_epoch}
use Rattle.paraid_core.proofs.ErrLemmas.{none_done_if}
use Rattle.paraid_shift.specs.Units.{AreCellsDone, AreUnitsDone}
use Rattle.paraid_txn.specs.Stores.{store_rack}
use Rattle.paraid_shift.proofs.FitsLemmas.{fits_committed, fits_filled, fits_marked}
use Rattle.paraid_shift.proofs.MovedLossLemmas.{marks_lose}
use Rattle.paraid_shift.proofs.MovingLemmas.{core_moves_none, core_moves_same, core_moves_so, core_moves_then, core_stripes_move, done_committed, stripes_done}
use Rattle.paraid_shift.proofs.OutcomeLemmas.{serves_none}
use Rattle.paraid_event.proofs.CoreServingLemmas.{leaves_array_none, leaves_array_then, none_away}
use Rattle.paraid_shift.proofs.StepsLemmas.{core_steps_none, core_steps_within, core_waits_within, marks_committed}
use Rattle.paraid_shift.proofs.moving.step_stripes.Goals as goal
use Rattle.paraid_base.specs.Log.{epoch_limit}

lower_than : (m n : Meta) (end : ℕ) → m ≡ n → m.fill < end → n.fill < end
lower_than m n end same low = subst (λ (z : Meta). z.fill < end) same low

below_then : (a b : ℕ) → a < b → a ≤ b
below_then a b low = omega arith

few_of : (m n : Meta) (end most : ℕ) → m ≡ n → end ≤ n.fill + most → end - m.fill ≤ most
few_of m n end most same few = let fill = ap (λ (z : Meta). z.fill) same in omega arith

filled_of : (m n : Meta) (end : ℕ) → m ≡ n → end - n.fill ≡ end - m.fill
filled_of m n end same = ap (λ (z : Meta). end - z.fill) (sym same)

some_asked : (m n : Meta) (end most : ℕ) → m ≡ n → m.fill < end → end ≤ n.fill + most → 0 < most
some_asked m n end most same low few = let fill = ap (λ (z : Meta). z.fill) same in omega arith

all_asked : (m n : Meta) (end most : ℕ) → m ≡ n → end ≡ n.fill + most → end - m.fill ≡ most
all_asked m n end most same is = let fill = ap (λ (z : Meta). z.fill) same in omega arith

-- none is left where none is filled
none_left : (m n : Meta) (table : List (List Bool)) (end most : ℕ) → m ≡ n → end ≤ m.fill → n.fill ≤ end → (end ≡ n.fill + most) ⊎ (end ≡ stripe_count n.setup.geometry.disks n.setup.geometry.rows (phase_to n.phase))
    → (0 < most → AreCellsDone n table) → (◌≡◌ {A = ℕ} 0 most) ⊎ AreUnitsDone n table
none_left m n table end most same past from all clean =
    let fill = ap (λ (z : Meta). z.fill) same in
    elim all [
      | inl is ↦ inl (omega (arith, is))
      | inr is ↦ elim (cases_eq most 0) [
        | inl none ↦ inl (sym none)
        | inr some ↦ inr record { filled = omega (arith, is); clean = clean (omega (arith, some)) }
      ]
    ]

plus_none : (n : ℕ) → n + 0 ≡ n
plus_none n = omega arith

same_epoch : (a b : ℕ) → b ≡ a → b ≤ a + 1
same_epoch a b same = omega arith

epoch_kept : (a b : ℕ) → b ≡ a → a ≤ b
epoch_kept a b same = omega arith

epoch_next : (a b new : ℕ) → b ≡ a → new ≡ b + 1 → a ≤ new
epoch_next a b new same next = omega arith

next_epoch : (a b new : ℕ) → b ≡ a → new ≡ b + 1 → new ≤ a + 1
next_epoch a b new same next = omega arith

pub next_end-end-requires : goal.next_end-end-requires
next_end-end-requires g c = record { ready = c.requires.can.serving.ready }

pub move_stripes-requires : goal.move_stripes-requires
move_stripes-requires g c =
    let more = lower_than _ _ _ c.meta.ensures c.if-end-from.false in
    record {
      can = c.requires.can;
      stripes = c.next_end-end.ensures.some more;
    }

pub has_ended-requires : goal.has_ended-requires
has_ended-requires g c = record { ready = c.in_ok-done.ensures.marks.serving.ready }

pub commit-requires : goal.commit-requires
commit-requires g c =
    let marks = c.in_ok-done.ensures.marks in
    let same : c.move_stripes.new.core.meta.epoch ≡ c.args.core.now.meta.epoch = ap (λ (m : Meta). m.epoch) (marks.filled c.if-not-done.false) in
    record { serving = marks.serving; epoch = subst (λ (e : ℕ). e < epoch_limit) (sym same) c.requires.epoch }

pub overflow_sub-result : goal.overflow_sub-result
overflow_sub-result g c = below_then _ _ c.if-end-from.false

pub overflow_sub-result-2 : goal.overflow_sub-result-2
overflow_sub-result-2 g c = below_then _ _ c.if-end-from.false

pub returns-then-end-from : goal.returns-then-end-from
returns-then-end-from g c =
    let a = c.args.core.now in
    record {
      steps = record {
        serves = serves_none g.R.Rack.slot_count g.R.Rack.slot a 1 c.requires.can.serving;
        few = omega arith;
        moves = record {
          moves = core_moves_same g.R.Rack.slot_count a c.requires.can.whole;
          all = λ none. none_left _ _ a.dirty _ _ c.meta.ensures c.if-end-from.true c.next_end-end.ensures.from c.next_end-end.ensures.all c.requires.clean;
          ended = λ some. absurd (some c.requires.can.nothing);
        };
        steps = inl (core_steps_within g.R.Rack.slot_count g.R.Rack.slot g.R.Rack.told a a 0 1 (omega arith) (core_steps_none g.R.Rack.slot_count g.R.Rack.slot g.R.Rack.told a));
      };
      rack = keeps_done (leaves_array_none g.R.Rack.slot_count g.R.Rack.slot a);
    }

pub returns-in_err-done : goal.returns-in_err-done
returns-in_err-done g c = record {
  steps = none_done_if _ c.from_residual.result _ c.from_residual.ensures.1;
  rack = keeps_raised c.from_residual.result c.from_residual.ensures.1 (keeps_spared c.in_err-done.ensures.rack) c.in_err-done.ensures.rack.loses;
}

pub returns-then-not-done : goal.returns-then-not-done
returns-then-not-done g c =
    let a = c.args.core.now in
    let b = c.move_stripes.new.core in
    let marks = c.in_ok-done.ensures.marks in
    let failed = c.if-not-done.true in
    let lost = marks.lost failed in
    record {
      steps = record {
        serves = record {
          serving = marks.serving;
          leaves = marks.leaves;
          absent = marks.absent;
          fits = fits_marked (g.R.Rack.slot (store_rack a.store)) (g.R.Rack.slot (store_rack b.store)) a.meta b.meta c.in_ok-done.ensures.rack.spared lost marks.serving.ready.absent;
          later = epoch_kept a.meta.epoch b.meta.epoch (ap (λ (m : Meta). m.epoch) lost.is ∙ marked_epoch lost.lost a.meta);
          epoch = same_epoch a.meta.epoch b.meta.epoch (ap (λ (m : Meta). m.epoch) lost.is ∙ marked_epoch lost.lost a.meta);
        };
        few = omega arith;
        moves = record {
          moves = core_moves_none g.R.Rack.slot_count a b a.meta.epoch c.requires.can.whole lost marks.table;
          all = λ none. absurd (marks.gone failed none);
          ended = λ some. absurd (some marks.nothing);
        };
        steps = inl (core_steps_within g.R.Rack.slot_count g.R.Rack.slot g.R.Rack.told a b 0 1 (omega arith) (marks.steps failed));
      };
      rack = keeps_done marks.leaves;
    }

pub returns-then-has_ended : goal.returns-then-has_ended
returns-then-has_ended g c =
    let a = c.args.core.now in
    let b = c.move_stripes.new.core in
    let marks = c.in_ok-done.ensures.marks in
    let done = c.if-not-done.false in
    let meta = marks.filled done in
    let next = c.next_end-end.ensures in
    let ended = c.has_ended.ensures.done c.if-has_ended.true in
    let whole : b.meta.out ≡ No = ap (λ (m : Meta). m.out) meta ∙ c.requires.can.whole in
    let more = lower_than _ _ _ c.meta.ensures c.if-end-from.false in
    record {
      steps = record {
        serves = record {
          serving = marks.serving;
          leaves = marks.leaves;
          absent = marks.absent;
          fits = fits_filled (g.R.Rack.slot (store_rack a.store)) (g.R.Rack.slot (store_rack b.store)) a.meta b.meta _ c.in_ok-done.ensures.rack.spared meta marks.serving.ready.absent;
          later = epoch_kept a.meta.epoch b.meta.epoch (ap (λ (m : Meta). m.epoch) meta);
          epoch = same_epoch a.meta.epoch b.meta.epoch (ap (λ (m : Meta). m.epoch) meta);
        };
        few = few_of _ _ _ _ c.meta.ensures next.few;
        moves = record {
          moves = core_moves_so g.R.Rack.slot_count a b _ _ (filled_of _ _ c.next_end-end.result c.meta.ensures)
              (core_stripes_move g.R.Rack.slot_count a b c.next_end-end.result meta marks.table (c.requires.clean (some_asked _ _ _ _ c.meta.ensures c.if-end-from.false next.few)) c.requires.can.whole next.from (next.some more).stripe);
          all = λ none. inr ended;
          ended = λ some. ended;
        };
        steps = inr ((ended, whole), core_waits_within g.R.Rack.slot_count g.R.Rack.slot g.R.Rack.told a b b.meta 0 1 (omega arith) (marks.waits done));
      };
      rack = keeps_done marks.leaves;
    }

pub returns-in_err-commit : goal.returns-in_err-commit
returns-in_err-commit g c =
    let a = c.args.core.now in
    let b = c.move_stripes.new.core in
    let new = c.commit.new.core in
    let marks = c.in_ok-done.ensures.marks in
    let done = c.if-not-done.false in
    let whole : b.meta.out ≡ No = ap (λ (m : Meta). m.out) (marks.filled done) ∙ c.requires.can.whole in
    let from = c.from_residual-in_err-commit in
    let lost = c.in_err-commit.ensures.rack in
    record {
      steps = none_done_if _ from.result _ from.ensures.1;
      rack = keeps_later a b new from.result from.ensures.1 marks.leaves (keeps_spared lost)
          (marks_lose g.R.Rack.slot_count g.R.Rack.told a b new b.meta 0 _ (marks.waits done) (lost.loses.marked (none_away g.R.Rack.slot b whole)));
    }

pub returns : goal.returns
returns g c =
    let a = c.args.core.now in
    let b = c.move_stripes.new.core in
    let new = c.commit.new.core in
    let marks = c.in_ok-done.ensures.marks in
    let made = c.in_ok-commit.ensures.commits in
    let done = c.if-not-done.false in
    let meta = marks.filled done in
    let next = c.next_end-end.ensures in
    let more = lower_than _ _ _ c.meta.ensures c.if-end-from.false in
    let clean = c.requires.clean (some_asked _ _ _ _ c.meta.ensures c.if-end-from.false next.few) in
    let whole : b.meta.out ≡ No = ap (λ (m : Meta). m.out) meta ∙ c.requires.can.whole in
    record {
      steps = record {
        serves = record {
          serving = made.serving;
          leaves = leaves_array_then g.R.Rack.slot_count g.R.Rack.slot a b new marks.leaves made.leaves;
          absent = λ q. made.absent;
          fits = λ f. fits_committed (g.R.Rack.slot (store_rack b.store)) (g.R.Rack.slot (store_rack new.store)) b.meta new.meta (b.meta.epoch + 1) c.in_ok-commit.ensures.rack.spared made.meta made.serving.ready.absent
              (fits_filled (g.R.Rack.slot (store_rack a.store)) (g.R.Rack.slot (store_rack b.store)) a.meta b.meta _ c.in_ok-done.ensures.rack.spared meta marks.serving.ready.absent f);
          later = epoch_next a.meta.epoch b.meta.epoch new.meta.epoch (ap (λ (m : Meta). m.epoch) meta) made.epoch;
          epoch = next_epoch a.meta.epoch b.meta.epoch new.meta.epoch (ap (λ (m : Meta). m.epoch) meta) made.epoch;
        };
        few = few_of _ _ _ _ c.meta.ensures next.few;
        moves = record {
          moves = core_moves_so g.R.Rack.slot_count a new _ _ (plus_none _ ∙ filled_of _ _ c.next_end-end.result c.meta.ensures)
              (core_moves_then g.R.Rack.slot_count a b new (c.next_end-end.result - a.meta.fill) 0
              (core_stripes_move g.R.Rack.slot_count a b c.next_end-end.result meta marks.table clean c.requires.can.whole next.from (next.some more).stripe) whole marks.leaves.setup (made.moves whole));
          all = λ none. elim next.all [
            | inl full ↦ inl (all_asked _ _ _ _ c.meta.ensures full)
            | inr all ↦ inr (done_committed b.meta new.meta _ b.dirty new.dirty made.meta none c.commit.ensures.table (stripes_done g.R.Rack.slot_count a b c.next_end-end.result meta marks.table clean all))
          ];
          ended = λ some. absurd (some made.nothing);
        };
        steps = inl (marks_committed g.R.Rack.slot_count g.R.Rack.slot g.R.Rack.told a b new b.meta 0 (marks.waits done) made.leaves.slots made.epoch (λ d. refl) (made.marked (none_away g.R.Rack.slot b whole)));
      };
      rack = keeps_done (leaves_array_then g.R.Rack.slot_count g.R.Rack.slot a b new marks.leaves made.leaves);
    }
