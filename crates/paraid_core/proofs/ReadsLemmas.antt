-- What reads leave of what a core stands for.
use Rattle.paraid_image.specs.Mark.{meta_after_loss, meta_with_lost}
use Rattle.std.specs.Prelude.{◌≡◌, ◌≢◌, ℕ, ◌-◌, ◌*◌, ◌<◌, nat_lt, Bool, true, false, List, [], ◌∷◌, Option, Some, None, length, if◌then◌else◌}
use Rattle.std.proofs.Common.{refl, sym, ◌∙◌, ap, subst, arith, inl, inr}
use Rattle.std.proofs.lemmas.Bool.{cases_eq}
use Rattle.std.proofs.lemmas.Bool.Decides.{nat_tests}
use Rattle.paraid_base.specs.declared.block.Block.{Block}
use Rattle.paraid_base.specs.Cells.{home_disk, home_row}
use Rattle.paraid_base.specs.History.{History, after_all}
use Rattle.paraid_base.specs.Log.{log_least}
use Rattle.paraid_base.specs.Regions.{map_count}
use Rattle.paraid_base.specs.Xor.{zero_block}
use Rattle.paraid_base.proofs.SumsLemmas.{xor_upto_same}
use Rattle.paraid_dirty.specs.Table.{is_dirty}
use Rattle.paraid_rack.specs.declared.call.Call.{Call}
use Rattle.paraid_rack.specs.declared.call.Call.TheVariants.{Read, Write, Sync, Park, SpinUp, Attach}
use Rattle.paraid_rack.specs.declared.call.Power.{Power}
use Rattle.paraid_rack.specs.declared.call.Power.TheVariants.{Absent}
use Rattle.paraid_rack.specs.Disks.{Disks, lose, step}
use Rattle.paraid_rack.specs.Slots.{Agrees, Slot}
use Rattle.paraid_rack.specs.Told.{Ran, CrashTriple, Through}
use Rattle.paraid_rack.specs.Trail.{Trail, now, run}
use Rattle.paraid_rack.proofs.AtomsLemmas.{with_at_other, with_at_same}
use Rattle.paraid_rack.proofs.TrailsLemmas.{now-extend}
use Rattle.paraid_record.specs.declared.meta.Meta.{Meta}
use Rattle.paraid_record.specs.Range.{IsInRange}
use Rattle.paraid_image.specs.Content.{view_by}
use Rattle.paraid_image.specs.Out.{named_out, or_else, out_disk}
use Rattle.paraid_image.specs.Sides.{Batch, has_place}
use Rattle.paraid_image.specs.Sound.{AreRowsZero, AreStripesZero, ContentOk}
use Rattle.paraid_image.specs.Standing.{Contents, contents, overlaid_block}
use Rattle.paraid_image.specs.Value.{value}
use Rattle.paraid_view.specs.Reads.{AreLeft, AreArrayReads, ShowsContents, seen_by}
use Rattle.paraid_core.specs.CoreInvariant.{IsHeldWithOneMissing, HoldsBetweenCalls, lost_in}
use Rattle.paraid_core.proofs.DirtyLemmas.{value_dirty}
use Rattle.paraid_core.proofs.LostDiskLemmas.{keeps_lost}
use Rattle.paraid_core.proofs.MomentLemmas.{reads_held}
use Rattle.paraid_core.proofs.MomentLemmas.Holding.{intact}

pub through_last : (P : Disks → Type 0) (s : Disks) (cs : List Call) → Through P s cs → P (run s cs)
through_last P s [] p = p
through_last P s (c ∷ cs) p = through_last P (step c s) cs p.1

-- reads change no block
pub reads_same : (n : ℕ) (s : Disks) (cs : List Call) → AreArrayReads n s cs → ((run s cs).block ≡ s.block) × ((run s cs).loose ≡ s.loose)
unfolding step
reads_same n s [] are = (refl, refl)
reads_same n s (Read e q done ∷ cs) are = reads_same n (step (Read e q done) s) cs are.1
reads_same n s (Write e q b done ∷ cs) are = absurd are.0
reads_same n s (Sync e done ∷ cs) are = absurd are.0
reads_same n s (Park e done ∷ cs) are = absurd are.0
reads_same n s (SpinUp e done ∷ cs) are = absurd are.0
reads_same n s (Attach e size done ∷ cs) are = absurd are.0

disks_same : (s t : Disks) → ((x : ℕ) → t.power x ≡ s.power x) → ((x : ℕ) → t.size x ≡ s.size x) → t.block ≡ s.block → t.loose ≡ s.loose → t ≡ s
disks_same s t power size block loose = λ i. record { power = λ x. power x i; size = λ x. size x i; block = block i; loose = loose i }

-- by what the slots tell, nothing has changed, or one disk is lost
module _ (s t : Disks) (old new : ℕ → Slot) (before : Agrees s old) (later : Agrees t new) (lost : Option ℕ) (left : AreLeft lost old new)
    (empty : (d : ℕ) → (new d).power ≡ Absent → (new d).size ≡ 0) (block : t.block ≡ s.block) (loose : t.loose ≡ s.loose) where
  power_kept : (x : ℕ) → lost ≢ Some x → t.power x ≡ s.power x
  power_kept x not = later.power x ∙ ap (λ (k : Slot). k.power) (left.others x not) ∙ sym (before.power x)

  size_kept : (x : ℕ) → lost ≢ Some x → t.size x ≡ s.size x
  size_kept x not = later.size x ∙ ap (λ (k : Slot). k.size) (left.others x not) ∙ sym (before.size x)

  pub unchanged : lost ≡ None → t ≡ s
  unchanged none = disks_same s t (λ x. power_kept x (not x)) (λ x. size_kept x (not x)) block loose
    where
      not : (x : ℕ) → lost ≢ Some x
      not x is = let z : None ≡ Some x = sym none ∙ is in cc

  is_lost : (d : ℕ) → lost ≡ Some d → t ≡ lose d s
  is_lost d is = disks_same (lose d s) t
      (λ x. elim (cases_eq x d) [
        | inl same ↦ later.power x ∙ (left.failed x (is ∙ ap Some (sym same))).absent ∙ sym (with_at_same s.power d Absent x same)
        | inr apart ↦ power_kept x (other x apart) ∙ sym (with_at_other s.power d Absent x apart)
      ])
      (λ x. elim (cases_eq x d) [
        | inl same ↦ later.size x ∙ empty x (left.failed x (is ∙ ap Some (sym same))).absent ∙ sym (with_at_same s.size d 0 x same)
        | inr apart ↦ size_kept x (other x apart) ∙ sym (with_at_other s.size d 0 x apart)
      ]) block loose
    where
      other : (x : ℕ) → x ≢ d → lost ≢ Some x
      other x apart k = let z : Some d ≡ Some x = sym is ∙ k in let y : x ≡ d = cc in apart y

-- the disk that the last commit names out is known
pub knows_named : (named : Option ℕ) (o : Option ℕ) (d : ℕ) → named ≡ Some d → or_else named o ≡ Some d
knows_named (Some e) o d is = is
knows_named None o d is = let z : None ≡ Some d = is in cc

module _ (slots : ℕ) (named : Option ℕ) (m : Meta) (table : List (List Bool)) (batch : Batch) (copied : List Bool) (h : History) (lo : ℕ) (known : Option ℕ) (knows : (d : ℕ) → named ≡ Some d → known ≡ Some d) where
  abbrev P : Disks → Type 0
  P = IsHeldWithOneMissing slots m.setup.geometry.disks known h lo

  pub reads_through : (s : Disks) (cs : List Call) → AreArrayReads m.setup.geometry.disks s cs → HoldsBetweenCalls slots named m table batch copied h lo s → Through P s cs
  reads_through s cs are k =
      subst (λ (z : ℕ). Through (IsHeldWithOneMissing slots z known h lo) s cs) (sym shape)
      (reads_held slots k.base h lo known (λ d is. knows d (sym k.named_by ∙ is)) s cs
      (subst (λ (z : ℕ). AreArrayReads z s cs) shape are) (intact k.held k.copies))
    where
      shape : m.setup.geometry.disks ≡ k.base.setup.geometry.disks
      shape = ap (λ (z : _). z.geometry.disks) k.next.setup

  -- at each moment of some reads
  pub reads_moments : (n : ℕ) (old new : Option Trail) → n ≡ m.setup.geometry.disks → Ran old new (AreArrayReads n) → Ran old new (CrashTriple P (HoldsBetweenCalls slots named m table batch copied h lo) P)
  reads_moments n old new is ran t tells =
      let r = ran t tells in
      record {
        from = r.from;
        was = r.was;
        calls = r.calls;
        is = r.is;
        holds = record {
          goes = λ k.
              let th = reads_through (now r.from) r.calls (subst (λ (z : ℕ). AreArrayReads z (now r.from) r.calls) is r.holds) k in
              (th, through_last P (now r.from) r.calls th);
        };
      }

  -- and at their end, where one disk was lost, or none
  module _ (n : ℕ) (old new : Option Trail) (slot after : ℕ → Slot) (lost : Option ℕ) (in_range : IsInRange m) (is : n ≡ m.setup.geometry.disks)
      (before : (t : Trail) → old ≡ Some t → Agrees (now t) slot) (later : (t : Trail) → new ≡ Some t → Agrees (now t) after) (left : AreLeft lost slot after)
      (empty : (d : ℕ) → (after d).power ≡ Absent → (after d).size ≡ 0) (low : (d : ℕ) → lost ≡ Some d → d < m.setup.geometry.disks)
      (none : (d : ℕ) → lost ≡ Some d → out_disk (λ x. (slot x).power) m ≡ None) (stays : (x : ℕ) → named ≡ Some x → named_out m.out ≡ Some x) where
    powers : (s : Disks) → Agrees s slot → (λ (x : ℕ). (slot x).power) ≡ s.power
    powers s agrees = λ t. λ x. sym (agrees.power x) t

    end_by : (o : Option ℕ) → lost ≡ o → (s t : Disks) → Agrees s slot → Agrees t after → t.block ≡ s.block → t.loose ≡ s.loose
        → HoldsBetweenCalls slots named m table batch copied h lo s → HoldsBetweenCalls slots named (meta_with_lost (lost_in m o) m) table batch copied h lo t
    end_by None is_none s t a b block loose k =
        subst (HoldsBetweenCalls slots named m table batch copied h lo) (sym {b = s} (unchanged s t slot after a b lost left empty block loose is_none)) k
    end_by (Some d) is_some s t a b block loose k =
        let there : nat_lt d m.setup.geometry.disks ≡ true = (let l = low d is_some in grind (arith, nat_tests)) in
        let out : out_disk s.power m ≡ None = ap (λ (p : ℕ → Power). out_disk p m) (sym (powers s a)) ∙ none d is_some in
        rw there
        (subst (HoldsBetweenCalls slots named (meta_after_loss m d) table batch copied h lo) (sym {b = lose d s} (is_lost s t slot after a b lost left empty block loose d is_some))
        (keeps_lost slots named m table batch copied h lo s d in_range (low d is_some) out stays k))

    pub reads_stand : (slots_after : ℕ) (named_after : Option ℕ) (m_after : Meta) → slots_after ≡ slots → named_after ≡ named → m_after ≡ meta_with_lost (lost_in m lost) m → Ran old new (AreArrayReads n)
        → Ran old new (CrashTriple P (HoldsBetweenCalls slots named m table batch copied h lo) (HoldsBetweenCalls slots_after named_after m_after table batch copied h lo))
    reads_stand slots_after named_after m_after es en em ran t tells =
        let r = ran t tells in
        let same = reads_same n (now r.from) r.calls r.holds in
        let here : now t ≡ run (now r.from) r.calls = ap now r.is ∙ now-extend r.from r.calls in
        record {
          from = r.from;
          was = r.was;
          calls = r.calls;
          is = r.is;
          holds = record {
            goes = λ k.
                let kept = end_by lost refl (now r.from) (run (now r.from) r.calls) (before r.from r.was) (subst (λ (s : Disks). Agrees s after) here (later t tells)) same.0 same.1 k in (
                  reads_through (now r.from) r.calls (subst (λ (z : ℕ). AreArrayReads z (now r.from) r.calls) is r.holds) k,
                  subst (λ (z : ℕ). HoldsBetweenCalls z named_after m_after table batch copied h lo (run (now r.from) r.calls)) (sym es)
                      (subst (λ (z : Option ℕ). HoldsBetweenCalls slots z m_after table batch copied h lo (run (now r.from) r.calls)) (sym en)
                      (subst (λ (z : Meta). HoldsBetweenCalls slots named z table batch copied h lo (run (now r.from) r.calls)) (sym em) kept)),
                );
          };
        }

-- the contents are shown
pub shows_contents : (told : Option Trail) (batch : Batch) (t : Trail) → told ≡ Some t → ShowsContents told batch (contents (now t) batch)
unfolding contents
shows_contents told batch t tells u tells_too d p there far =
    let z : Some u ≡ Some t = sym tells_too ∙ tells in
    let same : u ≡ t = cc in
    let past : nat_lt p log_least ≡ false = grind (arith, nat_tests) in
    subst (λ (w : Trail). overlaid_block batch d p ((now w).block d p) ≡ (if nat_lt p log_least then zero_block else (if has_place (now t) d p then overlaid_block batch d p ((now t).block d p) else zero_block))) (sym same)
    (rw (past, subst (λ (w : Trail). has_place (now w) d p ≡ true) same there) refl)

-- what is read is the last write
module _ (slots : ℕ) (named : Option ℕ) (m : Meta) (table : List (List Bool)) (batch : Batch) (copied : List Bool) (h : History) (lo : ℕ) (s : Disks) (k : HoldsBetweenCalls slots named m table batch copied h lo s)
    (power : ℕ → Power) (is : power ≡ s.power) where
  abbrev f : Contents
  f = contents s batch

  ok : ContentOk slots power s.size (view_by m power f) h (length h)
  ok = subst (λ (p : ℕ → Power). ContentOk slots p s.size (view_by m p f) h (length h)) (sym is) k.staged

  bits : (r d : ℕ) → r < 512 * map_count m.setup.geometry → is_dirty table r d ≡ (view_by m power f).dirty r d
  bits r d l = k.dirty r d l ∙ ap (λ (p : ℕ → Power). (view_by m p f).dirty r d) (sym is)

  mapped : (r : ℕ) → r < m.setup.geometry.rows → r < 512 * map_count m.setup.geometry
  mapped r l = omega arith

  values : (r d : ℕ) → r < m.setup.geometry.rows → value (seen_by m table (out_disk power m) f) r d ≡ value (view_by m power f) r d
  values r d l = value_dirty m (out_disk power m) f (is_dirty table) (view_by m power f).dirty r (λ e. bits r e (mapped r l)) d

  pub rows_zero : AreRowsZero (seen_by m table (out_disk power m) f)
  rows_zero r l =
      xor_upto_same (value (seen_by m table (out_disk power m) f) r) (value (view_by m power f) r) m.setup.geometry.disks (λ d ld. values r d l) ∙ ok.kept.rows r l

  pub stripes_zero : AreStripesZero (seen_by m table (out_disk power m) f)
  stripes_zero = ok.kept.stripes

  pub cell_value : (r d : ℕ) (into : Block) → r < m.setup.geometry.rows → into ≡ value (seen_by m table (out_disk power m) f) r d → into ≡ value (view_by m s.power f) r d
  cell_value r d into lr read = read ∙ values r d lr ∙ ap (λ (w : ℕ → Power). value (view_by m w f) r d) is

-- the value of its cell is the block
pub block_read : (slots : ℕ) (named : Option ℕ) (m : Meta) (table : List (List Bool)) (batch : Batch) (copied : List Bool) (h : History) (lo : ℕ) (s : Disks) → HoldsBetweenCalls slots named m table batch copied h lo s
    → (b r d : ℕ) (into : Block) → b < m.setup.geometry.rows * (m.setup.geometry.disks - 1) → r ≡ home_row m.setup.geometry.disks b → d ≡ home_disk m.setup.geometry.disks b
    → into ≡ value (view_by m s.power (contents s batch)) r d → into ≡ after_all h b
block_read slots named m table batch copied h lo s k b r d into lb er ed read =
    read ∙ ap (λ (x : ℕ). value (view_by m s.power (contents s batch)) x d) er ∙ ap (value (view_by m s.power (contents s batch)) (home_row m.setup.geometry.disks b)) ed ∙ k.staged.blocks b lb
