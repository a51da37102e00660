-- One read of a core.
use Rattle.std.specs.Prelude.{◌≡◌, ◌≢◌, ℕ, ◌<◌, ◌≤◌, nat_lt, Bool, true, false, List, [], Option, Some, None, IsSome}
use Rattle.std.proofs.Common.{refl, sym, ◌∙◌, ap, subst, arith, inl, inr}
use Rattle.std.proofs.lemmas.Bool.{false≢true}
use Rattle.std.proofs.lemmas.Bool.Decides.{nat_tests}
use Rattle.paraid_base.specs.declared.block.Block.{Block}
use Rattle.paraid_base.specs.declared.state.Out.TheVariants.{Fresh, Gone}
use Rattle.paraid_base.specs.Log.{log_least}
use Rattle.paraid_base.specs.Regions.{disk_size}
use Rattle.paraid_base.specs.States.{gone_out, rebuilt_count}
use Rattle.paraid_dirty.specs.Table.{is_dirty}
use Rattle.paraid_rack.specs.declared.call.Call.TheVariants.{Read}
use Rattle.paraid_rack.specs.declared.call.Power.TheVariants.{Absent, Spinning}
use Rattle.paraid_rack.specs.Disks.{Disks, is_present, step}
use Rattle.paraid_rack.specs.Slots.{Agrees, Slot}
use Rattle.paraid_rack.specs.Trail.{Trail, now, run}
use Rattle.paraid_rack.proofs.AtomsLemmas.{with_at_same}
use Rattle.paraid_rack.proofs.TrailsLemmas.{now-extend}
use Rattle.paraid_record.specs.declared.meta.Meta.{Meta}
use Rattle.paraid_record.specs.Range.{IsInRange, IsOutInRange}
use Rattle.paraid_image.specs.Out.{named_out}
use Rattle.paraid_image.specs.Sides.{has_place}
use Rattle.paraid_image.specs.Spot.{View}
use Rattle.paraid_image.specs.Standing.{Contents, contents}
use Rattle.paraid_image.specs.Mark.{meta_with_lost}
use Rattle.paraid_txn.specs.Losses.{IsWell, StaySynced}
use Rattle.paraid_txn.specs.Stores.{store_rack}
use Rattle.paraid_view.specs.Reads.{AreArrayReads}
use Rattle.paraid_core.specs.declared.staged.Core.{Core}
use Rattle.paraid_core.specs.Calls.{IsDataCall, IsOneCall, MakesDataCalls, MakesOneCall}
use Rattle.paraid_core.specs.Lost.{CoreMarksLost, MakesReads, MarksLost}
use Rattle.paraid_core.specs.Steps.{LeavesCore, StandsStill}
use Rattle.paraid_core.specs.Units.{IsRebuilding}
use Rattle.paraid_core.proofs.AfterLemmas.{gear_high, rise_high}
use Rattle.paraid_core.proofs.KindLemmas.{calls_are, gone_named, one_is_each}
use Rattle.paraid_core.proofs.ReadsLemmas.{shows_contents}
use Rattle.paraid_core.proofs.SettleLemmas.{self_at}
use Rattle.paraid_scrub.specs.Cores.{CanBeChecked, HasLooked, LooksOn, ShowsView}
use Rattle.paraid_scrub.specs.Looks.{IsReadable}
use Rattle.paraid_scrub.specs.Looks.IsReadable.{fresh, powered}

-- Which disks can be read

pub readable_low : (m : Meta) (d : ℕ) → IsInRange m → IsReadable m d → d < m.setup.geometry.disks
readable_low m d range (powered (inl low) there) = let high = gear_high m range in omega (arith, low, high)
readable_low m d range (powered (inr low) there) = let high = rise_high m.setup.geometry m.gear m.phase range.phase in omega (arith, low, high)
readable_low m d range (fresh u is) = (subst (IsOutInRange m.setup.geometry m.gear) is range.out).0

pub readable_there : (m : Meta) (d : ℕ) → IsReadable m d → gone_out m.out ≢ Some d
readable_there m d (powered low there) gone = there (gone_named m.out d gone)
readable_there m d (fresh u is) gone = let z : None ≡ Some d = sym (ap gone_out is) ∙ gone in cc

fresh_is : (m : Meta) (d u : ℕ) → m.out ≡ Fresh d u → IsRebuilding m d
fresh_is m d u is = is ∙ ap (Fresh d) (sym (ap rebuilt_count is))

module _ {R : Type 0} {g : _} (count : R → ℕ) (slot : R → ℕ → Slot) (a : Core R g) (can : CanBeChecked count slot a) where
  pub readable_spins : (d : ℕ) → IsReadable a.meta d → (slot (store_rack a.store) d).power ≡ Spinning
  readable_spins d (powered (inl low) there) = can.ready.spins d low there
  readable_spins d (powered (inr low) there) = can.serves.spins d low there
  readable_spins d (fresh u is) = can.fresh d (fresh_is a.meta d u is)

  pub readable_large : (d : ℕ) → IsReadable a.meta d → disk_size a.meta.setup.geometry ≤ (slot (store_rack a.store) d).size
  readable_large d (powered (inl low) there) = can.ready.large d low there
  readable_large d (powered (inr low) there) = can.serves.large d low there
  readable_large d (fresh u is) = can.ready.fresh_large d u is (ap is_present (can.fresh d (fresh_is a.meta d u is)))

-- where the meta is the same, no disk was lost that was not gone before
well_there : (old new : ℕ → Slot) (m z : Meta) → MarksLost old new m z → z ≡ m → (d : ℕ) → gone_out m.out ≢ Some d → IsWell (old d) (new d)
well_there old new m z marks same d there = marks.others d (λ is.
    let out : z.out ≡ Gone d = ap (λ (y : Meta). y.out) (marks.is ∙ ap (λ (o : Option ℕ). record (meta_with_lost o m) { epoch = z.epoch; writes = z.writes }) is) in
    there (ap (λ (y : Meta). gone_out y.out) (sym same) ∙ ap gone_out out))

read_is : (s : Disks) (d p : ℕ) → step (Read d p true) s ≡ s
unfolding step
read_is s d p = λ i. record { power = self_at s.power d i; size = self_at s.size d i; block = s.block; loose = s.loose }

failed_is : (s : Disks) (d p : ℕ) → (step (Read d p false) s).power d ≡ Absent
unfolding step
failed_is s d p = with_at_same s.power d Absent d refl

-- a read after which its disk spins was done, and has changed nothing
done_read : (s t : Disks) (d p : ℕ) (done : Bool) → t ≡ step (Read d p done) s → t.power d ≡ Spinning → t ≡ s
done_read s t d p true is spins = is ∙ read_is s d p
done_read s t d p false is spins =
    let z : Absent ≡ Spinning = sym (ap (λ (u : Disks). u.power d) is ∙ failed_is s d p) ∙ spins in absurd (absent_spins z)
  where
    absent_spins : Absent ≡ Spinning → ⊥
    absent_spins z = false≢true (ap is_present z)

some_same : {A : Type 0} (x y : A) (o : Option A) → o ≡ Some x → o ≡ Some y → x ≡ y
some_same x y o p q = let z : Some x ≡ Some y = sym p ∙ q in cc

-- what a disk of this size stores past the log
stored_is : (told : Option Trail) (t : Trail) → told ≡ Some t → (d p : ℕ) → has_place (now t) d p ≡ true → log_least ≤ p → (now t).block d p ≡ contents (now t) [] d p
stored_is told t tells d p there far = shows_contents told [] t tells t tells d p there far

place_there : (s : Disks) (slot : ℕ → Slot) → Agrees s slot → (d p : ℕ) → (slot d).power ≡ Spinning → p < (slot d).size → has_place s d p ≡ true
place_there s slot agrees d p spins within =
    let here : is_present (s.power d) ≡ true = ap is_present (agrees.power d ∙ spins) in
    let low : p < s.size d = subst (λ (n : ℕ). p < n) (sym (agrees.size d)) within in
    place_by s d p here low
  where
    place_by : (s : Disks) (d p : ℕ) → is_present (s.power d) ≡ true → p < s.size d → has_place s d p ≡ true
    place_by s d p here low = let t : nat_lt p (s.size d) ≡ true = grind (arith, nat_tests) in rw (here, t) refl

module _ {R : Type 0} {g : _} (count : R → ℕ) (slot : R → ℕ → Slot) (told : R → Option Trail) (a b : Core R g) (d p : ℕ) (can : CanBeChecked count slot a) (readable : IsReadable a.meta d)
    (calls : MakesOneCall told (λ done. Read d p done) a b) where
  -- its kind
  pub read_data : MakesDataCalls told a b
  read_data = one_is_each (λ done. Read d p done) (IsDataCall a.meta.setup.geometry.disks (gone_out a.meta.out)) (λ done. (readable_low a.meta d can.ready.in_range readable, readable_there a.meta d readable, tt))
      (told (store_rack a.store)) (told (store_rack b.store)) calls

  pub read_reads : MakesReads told a b
  read_reads = calls_are (IsOneCall (λ done. Read d p done)) (AreArrayReads a.meta.setup.geometry.disks)
      (λ s cs is. subst (AreArrayReads a.meta.setup.geometry.disks s) (sym is.1) ((readable_low a.meta d can.ready.in_range readable, is.2), tt)) (told (store_rack a.store)) (told (store_rack b.store)) calls

  module _ (leaves : LeavesCore count slot a b) (copied : b.copied ≡ a.copied) (synced : StaySynced (slot (store_rack a.store)) (slot (store_rack b.store))) (marks : CoreMarksLost slot a b) (stands : StandsStill count told a b) where
    pub read_looked : HasLooked count slot told a b
    read_looked = record { leaves = leaves; copied = copied; synced = synced; calls = read_data; reads = read_reads; marks = marks; stands = stands }

    module _ (same : b.meta ≡ a.meta) where
      pub read_on : LooksOn count slot told a b
      read_on = record { began = can.ready; looked = read_looked; same = same }

      pub read_can : CanBeChecked count slot b
      read_can = record {
        ready = leaves.ready;
        serves = leaves.serves can.serves;
        draft = leaves.draft ∙ can.draft;
        nothing = leaves.batch ∙ can.nothing;
        fresh = λ e is.
            let was : IsRebuilding a.meta e = subst (λ (z : Meta). IsRebuilding z e) same is in
            (well_there (slot (store_rack a.store)) (slot (store_rack b.store)) a.meta b.meta marks same e (λ gone. let z : None ≡ Some e = sym (ap gone_out was) ∙ gone in cc)).power ∙ can.fresh e was;
      }

      module _ (agrees : (rack : R) (t : Trail) → told rack ≡ Some t → Agrees (now t) (slot rack)) where
        spins_still : (slot (store_rack b.store) d).power ≡ Spinning
        spins_still = (well_there (slot (store_rack a.store)) (slot (store_rack b.store)) a.meta b.meta marks same d (readable_there a.meta d readable)).power ∙ readable_spins count slot a can d readable

        -- the record is longer, and the disks are as they were
        same_disks : (s t : Trail) → told (store_rack a.store) ≡ Some s → told (store_rack b.store) ≡ Some t → now t ≡ now s
        same_disks s t was is =
            let r = calls t is in
            let from : r.from ≡ s = some_same r.from s (told (store_rack a.store)) r.was was in
            let steps : now t ≡ step (Read d p r.holds.0) (now r.from) = ap now r.is ∙ now-extend r.from r.calls ∙ ap (run (now r.from)) r.holds.1 in
            done_read (now r.from) (now t) d p r.holds.0 steps ((agrees (store_rack b.store) t is).power d ∙ spins_still) ∙ ap now from

        shows_at : (v : View) (t : Trail) → told (store_rack b.store) ≡ Some t → ShowsView told a v → ShowsView told b v
        shows_at v t is shows = record {
          trail = t;
          tells = is;
          meta = shows.meta ∙ sym same;
          out = shows.out ∙ ap (λ (z : Meta). named_out z.out) (sym same);
          block = shows.block ∙ ap (λ (s : Disks). contents s []) (sym (same_disks shows.trail t shows.tells is));
          bits = λ r e low.
              ap (λ (table : List (List Bool)). is_dirty table r e) leaves.table ∙ shows.bits r e (subst (λ (z : Meta). r < z.setup.geometry.rows) same low);
        }

        pub read_shows : (v : View) → ShowsView told a v → IsSome (told (store_rack b.store)) → ShowsView told b v
        read_shows v shows some = by (told (store_rack b.store)) refl some
          where
            by : (o : Option Trail) → told (store_rack b.store) ≡ o → IsSome o → ShowsView told b v
            by (Some t) is some = shows_at v t is shows
            by None is some = absurd (false≢true some)

        pub read_block : (into : Block) → log_least ≤ p → p < disk_size a.meta.setup.geometry → ((t : Trail) → told (store_rack a.store) ≡ Some t → into ≡ (now t).block d p) → (v : View) → ShowsView told a v → into ≡ v.block d p
        read_block into far low value v shows =
            let t = shows.trail in
            let large = readable_large count slot a can d readable in
            let there = place_there (now t) (slot (store_rack a.store)) (agrees (store_rack a.store) t shows.tells) d p (readable_spins count slot a can d readable) (omega (arith, low, large)) in
            value t shows.tells ∙ stored_is (told (store_rack a.store)) t shows.tells d p there far ∙ ap (λ (f : Contents). f d p) (sym shows.block)
