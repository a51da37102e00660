-- What a plan over a core sees.
use Rattle.std.specs.Prelude.{◌≡◌, ◌≢◌, ℕ, ◌<◌, ◌==◌, ◌&&◌, Bool, List, [], ◌∷◌, ◌++◌, Option, Some, None, IsSome}
use Rattle.std.proofs.Common.{refl, sym, ◌∙◌, ap, subst, inl, inr}
use Rattle.std.proofs.lemmas.Bool.{and_parts, cases_Bool, eqb-true, false≢true}
use Rattle.paraid_base.specs.declared.block.Block.{Block}
use Rattle.paraid_dirty.specs.Table.{table_with_bit}
use Rattle.paraid_image.specs.Sides.{Batch}
use Rattle.paraid_image.specs.Standing.{Contents, contents, overlaid_block}
use Rattle.paraid_image.proofs.ContentsLemmas.{contents_here}
use Rattle.paraid_plan.specs.Desk.{Desk, desk_with_bit, with_targets}
use Rattle.paraid_plan.specs.WriteTargets.{overlaid_blocks}
use Rattle.paraid_plan.proofs.LayLemmas.{overlaid_blocks-append}
use Rattle.paraid_rack.specs.Disks.{Disks}
use Rattle.paraid_rack.specs.Slots.{Agrees, Slot}
use Rattle.paraid_rack.specs.Told.{Ran}
use Rattle.paraid_rack.specs.Trail.{Trail, now, run}
use Rattle.paraid_rack.proofs.TrailsLemmas.{now-extend}
use Rattle.paraid_record.specs.declared.targets.Target.{Target}
use Rattle.paraid_view.specs.Reads.{AreLeft, AreArrayReads, ShowsContents}
use Rattle.paraid_view.proofs.DraftLemmas.{laid_both}
use Rattle.paraid_core.specs.declared.changes.Change.{Change}
use Rattle.paraid_core.specs.Plans.{base_of}
use Rattle.paraid_core.specs.Undo.{AreOfTable, undo_changes}
use Rattle.paraid_core.proofs.ReadsLemmas.{reads_same}

-- the desk shows the disks
pub shows_desk : (told : Option Trail) (batch draft : Batch) → ShowsContents told (batch ++ draft) (overlaid_blocks draft (base_of told batch))
unfolding overlaid_blocks
shows_desk told batch draft t tells d p there far =
    laid_both batch draft d p ((now t).block d p)
    ∙ ap (overlaid_block draft d p) (sym (contents_here (now t) batch d p far there) ∙ ap (λ (o : Option Trail). base_of o batch d p) (sym tells))

-- reads that were done change nothing that is seen
pub base_same : (n : ℕ) (old new : Option Trail) (slot after : ℕ → Slot) (batch : Batch) → ((t : Trail) → old ≡ Some t → Agrees (now t) slot) → ((t : Trail) → new ≡ Some t → Agrees (now t) after)
    → AreLeft None slot after → Ran old new (AreArrayReads n) → IsSome new → base_of new batch ≡ base_of old batch
base_same n old new slot after batch before later left ran some = by new refl some
  where
    by : (o : Option Trail) → new ≡ o → IsSome o → base_of new batch ≡ base_of old batch
    by None is it = absurd (false≢true it)
    by (Some t) is it =
        let r = ran t is in
        let same = reads_same n (now r.from) r.calls r.holds in
        let here : now t ≡ run (now r.from) r.calls = ap now r.is ∙ now-extend r.from r.calls in
        let empty : (d : ℕ) → (after d).power ≡ (after d).power = λ d. refl in
        ap (λ (o : Option Trail). base_of o batch) is
        ∙ ap (λ (s : Disks). contents s batch) (here ∙ unmoved (now r.from) (run (now r.from) r.calls) (before r.from r.was) (subst (λ (u : Disks). Agrees u after) here (later t is)) same.0 same.1)
        ∙ sym (ap (λ (o : Option Trail). base_of o batch) r.was)
      where
        unmoved : (s u : Disks) → Agrees s slot → Agrees u after → u.block ≡ s.block → u.loose ≡ s.loose → u ≡ s
        unmoved s u a b block loose = λ i. record {
          power = λ x. (b.power x ∙ ap (λ (k : Slot). k.power) (left.others x (none x)) ∙ sym (a.power x)) i;
          size = λ x. (b.size x ∙ ap (λ (k : Slot). k.size) (left.others x (none x)) ∙ sym (a.size x)) i;
          block = block i;
          loose = loose i;
        }
          where
            none : (x : ℕ) → ◌≢◌ {A = Option ℕ} None (Some x)
            none x is_some = cc

pub desk_same : (dirty : ℕ → ℕ → Bool) (draft : Batch) (was now_is : Contents) → now_is ≡ was
    → ◌≡◌ {A = Desk} (record { block = overlaid_blocks draft now_is; dirty = dirty; staged = draft }) (record { block = overlaid_blocks draft was; dirty = dirty; staged = draft })
desk_same dirty draft was now_is e = λ i. record { block = overlaid_blocks draft (e i); dirty = dirty; staged = draft }

-- a block is drafted
pub desk_pushed : (base : Contents) (dirty : ℕ → ℕ → Bool) (draft longer : Batch) (w : Target × Block) → longer ≡ draft ++ w ∷ []
    → ◌≡◌ {A = Desk} (record { block = overlaid_blocks longer base; dirty = dirty; staged = longer }) (with_targets (record { block = overlaid_blocks draft base; dirty = dirty; staged = draft }) (w ∷ []))
unfolding with_targets
desk_pushed base dirty draft longer w e =
    (λ i. record { block = overlaid_blocks (e i) base; dirty = dirty; staged = e i })
    ∙ (λ i. record { block = overlaid_blocks-append draft (w ∷ []) base i; dirty = dirty; staged = draft ++ w ∷ [] })

-- a bit is set
pub desk_bit : (block : Contents) (dirty turned : ℕ → ℕ → Bool) (draft : Batch) (r d : ℕ) (bit : Bool) → ((q e : ℕ) → turned q e ≡ table_with_bit dirty r d bit q e)
    → ◌≡◌ {A = Desk} (record { block = block; dirty = turned; staged = draft }) (desk_with_bit (record { block = block; dirty = dirty; staged = draft }) r d bit)
unfolding desk_with_bit
desk_bit block dirty turned draft r d bit same = λ i. record { block = block; dirty = λ q. λ e. same q e i; staged = draft }

-- and can be undone
undone_push : (cs : List Change) (c : Change) (f : ℕ → ℕ → Bool) → undo_changes (cs ++ c ∷ []) f ≡ undo_changes cs (table_with_bit f c.row c.disk c.was)
undone_push [] c f = refl
undone_push (x ∷ cs) c f = ap (λ (z : ℕ → ℕ → Bool). table_with_bit z x.row x.disk x.was) (undone_push cs c f)

-- the last change is undone first
pub undone_last : (cs left : List Change) (c : Change) (f turned : ℕ → ℕ → Bool) → cs ≡ left ++ c ∷ [] → ((q e : ℕ) → turned q e ≡ table_with_bit f c.row c.disk c.was q e)
    → undo_changes left turned ≡ undo_changes cs f
undone_last cs left c f turned e same =
    ap (undo_changes left) (λ i. λ q. λ e. same q e i) ∙ sym (undone_push left c f) ∙ ap (λ (l : List Change). undo_changes l f) (sym e)

logged_push : (rows : ℕ) (cs : List Change) (c : Change) → AreOfTable rows cs → (c.row < rows) × (c.disk < 8) → AreOfTable rows (cs ++ c ∷ [])
logged_push rows [] c are is = (is, tt)
logged_push rows (x ∷ cs) c are is = (are.0, logged_push rows cs c are.1 is)

pub logged_more : (rows rows_then : ℕ) (cs longer : List Change) (c : Change) → rows_then ≡ rows → longer ≡ cs ++ c ∷ [] → (c.row < rows) × (c.disk < 8)
    → AreOfTable rows cs → AreOfTable rows_then longer
logged_more rows rows_then cs longer c same e is are =
    subst (λ (n : ℕ). AreOfTable n longer) (sym same) (subst (AreOfTable rows) (sym e) (logged_push rows cs c are is))

logged_parts : (rows : ℕ) (cs : List Change) (c : Change) → AreOfTable rows (cs ++ c ∷ []) → AreOfTable rows cs × ((c.row < rows) × (c.disk < 8))
logged_parts rows [] c are = (tt, are.0)
logged_parts rows (x ∷ cs) c are = let parts = logged_parts rows cs c are.1 in ((are.0, parts.0), parts.1)

pub logged_last : (rows : ℕ) (cs left : List Change) (c : Change) → cs ≡ left ++ c ∷ [] → AreOfTable rows cs → AreOfTable rows left × ((c.row < rows) × (c.disk < 8))
logged_last rows cs left c e are = logged_parts rows left c (subst (AreOfTable rows) e are)

changed_back : (f turned : ℕ → ℕ → Bool) (r d : ℕ) (bit was : Bool) → was ≡ f r d → ((q e : ℕ) → turned q e ≡ table_with_bit f r d bit q e) → table_with_bit turned r d was ≡ f
changed_back f turned r d bit was is same = λ i. λ q. λ e. point q e i
  where
    point : (q e : ℕ) → table_with_bit turned r d was q e ≡ f q e
    point q e = elim (cases_Bool (q == r && e == d)) [
      | inl at ↦
          let both = and_parts (q == r) (e == d) at in
          rw at (is ∙ ap (λ (x : ℕ). f x d) (sym (eqb-true q r both.0)) ∙ ap (f q) (sym (eqb-true e d both.1)))
      | inr off ↦ rw off (same q e ∙ rw off refl)
    ]

pub undone_change : (cs longer : List Change) (f turned : ℕ → ℕ → Bool) (c : Change) (bit : Bool) → longer ≡ cs ++ c ∷ [] → c.was ≡ f c.row c.disk
    → ((q e : ℕ) → turned q e ≡ table_with_bit f c.row c.disk bit q e) → undo_changes longer turned ≡ undo_changes cs f
undone_change cs longer f turned c bit e is same =
    ap (λ (l : List Change). undo_changes l turned) e ∙ undone_push cs c turned ∙ ap (undo_changes cs) (changed_back f turned c.row c.disk bit c.was is same)
