-- A core that a mount gives is in service, and stands at the first point of its session.
use Rattle.std.proofs.Common.{◌≡◌, ◌≢◌, ℕ, ◌<◌, ◌≤◌, ◌⊎◌, Bool, true, false, List, [], Option, Some, None, refl, sym, ap, ◌∙◌, subst, arith, inl, inr, length, take, if◌then◌else◌}
use Rattle.std.proofs.lemmas.Bool.{false≢true}
use Rattle.paraid_base.specs.declared.state.Out.{Out}
use Rattle.paraid_base.specs.declared.state.Out.TheVariants.{No, Gone, Fresh}
use Rattle.paraid_base.specs.History.{History}
use Rattle.paraid_base.specs.Regions.{disk_size}
use Rattle.paraid_base.specs.States.{gone_out}
use Rattle.paraid_dirty.specs.Table.{is_dirty}
use Rattle.paraid_rack.specs.declared.call.Power.{Power}
use Rattle.paraid_rack.specs.Disks.{Disks, IsPresent, is_present}
use Rattle.paraid_rack.specs.Slots.{Agrees, Slot}
use Rattle.paraid_rack.specs.Trail.{Trail, moments, now}
use Rattle.paraid_record.specs.declared.meta.Meta.{Meta}
use Rattle.paraid_record.specs.declared.meta.Setup.{Setup}
use Rattle.paraid_image.specs.Content.{view_by}
use Rattle.paraid_image.specs.Out.{named_out}
use Rattle.paraid_image.specs.Sides.{Batch}
use Rattle.paraid_image.specs.Sound.{ContentOk}
use Rattle.paraid_image.specs.Spins.{made_spin_ups}
use Rattle.paraid_image.proofs.OutLemmas.{first_absent_is}
use Rattle.paraid_image.specs.Standing.{contents}
use Rattle.paraid_core.specs.declared.staged.Core.{Core}
use Rattle.paraid_core.specs.Begin.{IsPoweredBy}
use Rattle.paraid_core.specs.CoreInvariant.{AreCopiesSynced, HoldsBetweenCalls, is_copied}
use Rattle.paraid_recover.specs.Mount.{HasMounted}
use Rattle.paraid_recover.specs.Mounted.{IsServable, IsStandingWithLoss, with_loss}
use Rattle.paraid_recover.specs.RecoveryMark.{to_mark, to_mark_by}
use Rattle.paraid_session.specs.Mount.{IsMountedFromEach}
use Rattle.paraid_txn.specs.declared.store.Store.{Store}
use Rattle.paraid_txn.specs.Stores.{disks_of, epoch_of, named_of, store_rack}
use Rattle.paraid_session.specs.Turn.{IsMark, Point}
use Rattle.paraid_session.proofs.MountLemmas.{IsMountedFromEach-follows}
use Rattle.paraid_recover.specs.FirstPoint.{IsFirstPoint, first_point}
use Rattle.paraid_recover.proofs.ToldLemmas.{same_trail}
use Rattle.paraid_event.specs.First.{BeginsService}
use Rattle.paraid_event.specs.Service.{Service}
use Rattle.paraid_event.specs.Stands.{StandsAt}
use Rattle.paraid_event.proofs.FirstLemmas.{first_stands}
use Rattle.paraid_array.specs.Begun.{IsMountedCore, StandsAtFirst}
use Rattle.paraid_array.proofs.SettledLemmas.{content_at_rest, settled_keeps, witnesses_at_rest}

loss_setup : (m : Meta) (o : Option ℕ) → (with_loss m o).setup ≡ m.setup
loss_setup m None = refl
loss_setup m (Some d) = refl

loss_writes : (m : Meta) (o : Option ℕ) → (with_loss m o).writes ≡ m.writes
loss_writes m None = refl
loss_writes m (Some d) = refl

-- over every rack
module _ (count : ℕ) (slot : ℕ → Slot) (last array : ℕ) (named : Option ℕ) (m : Meta) (rows : ℕ) (servable : IsServable count slot last array named m rows) where
  pub powered_by : IsPoweredBy count slot named m
  powered_by = record {
    in_range = servable.fit.in_range;
    enough = servable.fit.enough;
    large = servable.fit.large;
    absent = servable.absent;
    stays = servable.stays;
    powers = servable.powers;
    fresh_spins = servable.fresh_spins;
  }

  gone_named : (o : Out) (d : ℕ) → gone_out o ≡ Some d → named_out o ≡ Some d
  gone_named No d is = is
  gone_named (Gone e) d is = is
  gone_named (Fresh e u) d is = let z : None ≡ Some d = is in cc

  pub begins_large : (d : ℕ) → d < m.setup.geometry.disks → named_out m.out ≢ Some d → disk_size m.setup.geometry ≤ (slot d).size
  begins_large d low not = split (is_present (slot d).power) refl
    where
      split : (b : Bool) → is_present (slot d).power ≡ b → disk_size m.setup.geometry ≤ (slot d).size
      split true here = servable.fit.large d low here (λ gone. not (gone_named m.out d gone))
      split false away = absurd (not (servable.absent d low away))

  -- nothing is unsynced of a disk that is there and not gone
  pub begins_synced : (copied : List Bool) (d : ℕ) → d < m.setup.geometry.disks → gone_out m.out ≢ Some d → is_present (slot d).power ≡ true → (slot d).unsynced ≡ true → is_copied copied d ≡ true
  begins_synced copied d low stays here wet = absurd (false≢true (sym (servable.synced d low stays here) ∙ wet))

-- a disk that is marked is absent
mark_absent : (o : Out) (power : ℕ → Power) (n d : ℕ) → to_mark_by o power n ≡ Some d → is_present (power d) ≡ false
mark_absent No power n d found = (first_absent_is power n d found).1
mark_absent (Gone x) power n d found = absurd (let z : None ≡ Some d = found in cc)
mark_absent (Fresh x u) power n d found = by (is_present (power x)) refl found
  where
    by : (b : Bool) → is_present (power x) ≡ b → (if b then None else Some x) ≡ Some d → is_present (power d) ≡ false
    by true here is = absurd (let z : None ≡ Some d = is in cc)
    by false off is =
        let same : x ≡ d = (let z : Some x ≡ Some d = is in cc) in
        subst (λ (k : ℕ). is_present (power k) ≡ false) same off

-- the disk that is out is the one that the last commit named, or it is absent
module _ (slot : ℕ → Slot) (named : Option ℕ) (standing m : Meta) (under : IsStandingWithLoss slot named standing m) where
  abbrev power : ℕ → Power
  power = λ d. (slot d).power

  out_by : (o : Option ℕ) → to_mark power standing ≡ o → (d : ℕ) → named_out (with_loss standing o).out ≡ Some d → (named ≡ Some d) ⊎ (is_present (slot d).power ≡ false)
  out_by None is d out = inl (under.named_by ∙ out)
  out_by (Some e) is d out =
      let same : e ≡ d = (let z : Some e ≡ Some d = out in cc) in
      inr (subst (λ (x : ℕ). is_present (slot x).power ≡ false) same (mark_absent standing.out power standing.setup.geometry.disks e is))

  pub out_known : (d : ℕ) → named_out m.out ≡ Some d → (named ≡ Some d) ⊎ (is_present (slot d).power ≡ false)
  out_known d out = out_by (to_mark power standing) refl d (ap (λ (x : Meta). named_out x.out) (sym under.is) ∙ out)

  fresh_there : (d : ℕ) (x : Out) (u : ℕ) → x ≡ Fresh d u → to_mark_by x power standing.setup.geometry.disks ≡ None → is_present (slot d).power ≡ true
  fresh_there d No u e found = absurd (let z : No ≡ Fresh d u = e in cc)
  fresh_there d (Gone y) u e found = absurd (let z : Gone y ≡ Fresh d u = e in cc)
  fresh_there d (Fresh y v) u e found =
      let same : y ≡ d = (let z : Fresh y v ≡ Fresh d u = e in cc) in
      subst (λ (x : ℕ). is_present (slot x).power ≡ true) same (by (is_present (slot y).power) refl found)
    where
      by : (b : Bool) → is_present (slot y).power ≡ b → (if b then None else Some y) ≡ None → is_present (slot y).power ≡ true
      by true at is = at
      by false at is = absurd (let z : Some y ≡ None = is in cc)

  fresh_by : (o : Option ℕ) → to_mark power standing ≡ o → (d u : ℕ) → (with_loss standing o).out ≡ Fresh d u → (named ≡ Some d) × (is_present (slot d).power ≡ true)
  fresh_by None is d u out = (under.named_by ∙ ap named_out out, fresh_there d standing.out u out is)
  fresh_by (Some e) is d u out = absurd (let z : Gone e ≡ Fresh d u = out in cc)

  pub fresh_known : (d u : ℕ) → m.out ≡ Fresh d u → (named ≡ Some d) × (is_present (slot d).power ≡ true)
  fresh_known d u out = fresh_by (to_mark power standing) refl d u (ap (λ (x : Meta). x.out) (sym under.is) ∙ out)

-- where the rack tells
module _ (count_then count : ℕ) (old slot : ℕ → Slot) (named : Option ℕ) (m : Meta) (table : List (List Bool)) (copied : List Bool) (before told : Option Trail)
    (it : HasMounted count_then old slot named m (is_dirty table) before told) (agrees : (t : Trail) → told ≡ Some t → Agrees (now t) slot)
    (last array rows : ℕ) (servable : IsServable count slot last array named m rows) (synced : AreCopiesSynced m.setup.geometry.disks copied) where
  abbrev standing : Meta
  standing = it.settled.standing

  -- the service that begins
  abbrev k : Service
  k = record { slots = count; named = named; meta = m; table = table; batch = []; copied = copied; samples = []; served = 0; energy = 0 }

  module _ (t : Trail) (tells : told ≡ Some t) where
    abbrev s : Disks
    s = now t

    meta_is : m ≡ with_loss standing (to_mark s.power standing)
    meta_is = it.settled.is ∙ ap (with_loss standing) (it.settled.lost_is t tells)

    setup_is : m.setup ≡ standing.setup
    setup_is = ap (λ (x : Meta). x.setup) meta_is ∙ loss_setup standing (to_mark s.power standing)

    module _ (p : Point) (first : IsFirstPoint standing (is_dirty table) told p) (mark : IsMark count m.setup p) where
      h : History
      h = first.history

      at : p ≡ first_point s standing first.history first.spun
      at = first.is t tells

      mark_at : IsMark count m.setup (first_point s standing first.history first.spun)
      mark_at = subst (IsMark count m.setup) at mark

      counted : length (take standing.writes first.history) ≡ standing.writes
      counted = ap (λ (q : Point). length q.history) (sym at) ∙ first.writes

      keeps : HoldsBetweenCalls count (named_out standing.out) (with_loss standing (to_mark s.power standing)) table [] copied (take standing.writes first.history) standing.writes s
      keeps =
          settled_keeps count s standing table copied (take standing.writes first.history) standing.writes mark_at.rest
          (witnesses_at_rest count s standing (take standing.writes first.history) standing.writes _ mark_at.rest mark_at.held) mark_at.borne (sym counted) (omega (arith, counted))
          (subst (λ (n : ℕ). ContentOk count s.power s.size (view_by standing s.power (contents s [])) (take standing.writes first.history) n) (sym counted) (content_at_rest count s standing (take standing.writes first.history) standing.writes _ mark_at.rest mark_at.held))
          (λ r d l. first.map r d l ∙ ap (λ (q : Point). (view_by standing q.disks.power (contents q.disks [])).dirty r d) at)

      begins : BeginsService s standing first.history first.spun k
      begins = record {
        rest = mark_at.rest;
        count = count;
        slot = slot;
        last = last;
        array = array;
        rows = rows;
        agrees = agrees t tells;
        servable = subst (λ (x : Meta). IsServable count slot last array named x rows) meta_is servable;
        meta = meta_is;
        keeps = subst (λ (x : Meta). HoldsBetweenCalls count named x table [] copied (take standing.writes first.history) standing.writes s) (sym meta_is)
            (subst (λ (o : Option ℕ). HoldsBetweenCalls count o (with_loss standing (to_mark s.power standing)) table [] copied (take standing.writes first.history) standing.writes s) (sym it.under.named_by) keeps);
        copies_synced = λ d low. synced d (subst (λ (z : Setup). d < z.geometry.disks) (sym setup_is) low);
        recorded = λ d here. subst (λ (q : Point). first.spun d ≤ made_spin_ups standing q.disks.power d) at (first.recorded d (subst (λ (q : Point). IsPresent q.disks d) (sym at) here));
        dirty = λ r d low. sym (first.cells r d low ∙ ap (λ (q : Point). q.state.dirty r d) at);
        samples = refl;
        served = refl;
        energy = refl;
      }

      point_stands : StandsAtFirst told k m.setup p
      point_stands = record {
        stands =
            subst (λ (z : Setup). StandsAt told k z p) (sym setup_is)
            (subst (StandsAt told k standing.setup) (sym at)
            (first_stands told s standing first.history first.spun k begins (λ u is. ap now (same_trail told u t is tells))));
        kept = ap (λ (q : Point). q.low) at ∙ sym (ap (λ (x : Meta). x.writes) meta_is ∙ loss_writes standing (to_mark s.power standing));
      }

  -- From each rack that held a history a session begins where the array stands.
  pub stands_from_each : (began : ℕ) → count ≡ count_then → IsMountedFromEach count m.setup began told (IsFirstPoint standing (is_dirty table) told)
      → IsMountedFromEach count_then m.setup began told (StandsAtFirst told k m.setup)
  stands_from_each began same mounted =
      subst (λ (n : ℕ). IsMountedFromEach n m.setup began told (StandsAtFirst told k m.setup)) same
      (λ t tells. IsMountedFromEach-follows count m.setup began told (IsFirstPoint standing (is_dirty table) told) (StandsAtFirst told k m.setup)
      (λ p mark here first. point_stands t tells p first mark) mounted t tells)

-- a core that took over what was mounted
module _ {R : Type 0} {g : _} (count : R → ℕ) (slot : R → ℕ → Slot) (told : R → Option Trail) (core : Core R g) (store : Store R g) (m : Meta) (table : List (List Bool))
    (store_is : core.store ≡ store) (meta_is : core.meta ≡ m) (table_is : core.dirty ≡ table) where
  abbrev Servable : Store R g → Meta → List (List Bool) → Type 0
  Servable z n rows = IsServable (count (store_rack z)) (slot (store_rack z)) (epoch_of z) (disks_of z) (named_of z) n (length rows)

  pub begun_servable : Servable store m table → Servable core.store core.meta core.dirty
  begun_servable it =
      subst (λ (z : Store R g). Servable z core.meta core.dirty) (sym store_is)
      (subst (λ (n : Meta). Servable store n core.dirty) (sym meta_is) (subst (λ (rows : List (List Bool)). Servable store m rows) (sym table_is) it))

  pub begun_under : (standing : Meta) → IsStandingWithLoss (slot (store_rack store)) (named_of store) standing m → IsStandingWithLoss (slot (store_rack core.store)) (named_of core.store) standing core.meta
  begun_under standing it =
      subst (λ (z : Store R g). IsStandingWithLoss (slot (store_rack z)) (named_of z) standing core.meta) (sym store_is)
      (subst (λ (n : Meta). IsStandingWithLoss (slot (store_rack store)) (named_of store) standing n) (sym meta_is) it)

  -- what was mounted is what the core serves
  module _ (slots : ℕ) (old : ℕ → Slot) (before : Option Trail) where
    abbrev Mounted : Store R g → Meta → List (List Bool) → Type 0
    Mounted z n rows = (it : HasMounted slots old (slot (store_rack z)) (named_of z) n (is_dirty rows) before (told (store_rack z)))
        × ((began : ℕ) → ((t : Trail) → before ≡ Some t → began ≡ moments t)
        → IsMountedFromEach slots n.setup began (told (store_rack z)) (IsFirstPoint it.settled.standing (is_dirty rows) (told (store_rack z))))

    moved : Mounted store m table → Mounted core.store core.meta core.dirty
    moved it =
        subst (λ (z : Store R g). Mounted z core.meta core.dirty) (sym store_is)
        (subst (λ (n : Meta). Mounted store n core.dirty) (sym meta_is) (subst (λ (rows : List (List Bool)). Mounted store m rows) (sym table_is) it))

    pub begun_mounted : count (store_rack store) ≡ slots → Servable store m table
        → (it : HasMounted slots old (slot (store_rack store)) (named_of store) m (is_dirty table) before (told (store_rack store)))
        → ((began : ℕ) → ((t : Trail) → before ≡ Some t → began ≡ moments t)
        → IsMountedFromEach slots m.setup began (told (store_rack store)) (IsFirstPoint it.settled.standing (is_dirty table) (told (store_rack store))))
        → IsMountedCore slot told slots old before core
    begun_mounted same fit it session =
        let both = moved (it, session) in
        record {
          servable = subst (λ (k : ℕ). IsServable k (slot (store_rack core.store)) (epoch_of core.store) (disks_of core.store) (named_of core.store) core.meta (length core.dirty))
              (ap (λ (z : Store R g). count (store_rack z)) store_is ∙ same) (begun_servable fit);
          mounted = both.0;
          session = both.1;
        }

  module _ (slots began : ℕ) (batch_is : core.batch ≡ []) where
    abbrev Stands : Store R g → Meta → List (List Bool) → Batch → Type 0
    Stands z n rows batch = IsMountedFromEach slots n.setup began (told (store_rack z))
        (StandsAtFirst (told (store_rack z))
        (record { slots = count (store_rack z); named = named_of z; meta = n; table = rows; batch = batch; copied = core.copied; samples = []; served = 0; energy = 0 }) n.setup)

    pub begun_stands : Stands store m table [] → Stands core.store core.meta core.dirty core.batch
    begun_stands it =
        subst (λ (z : Store R g). Stands z core.meta core.dirty core.batch) (sym store_is)
        (subst (λ (n : Meta). Stands store n core.dirty core.batch) (sym meta_is)
        (subst (λ (rows : List (List Bool)). Stands store m rows core.batch) (sym table_is)
        (subst (λ (batch : Batch). Stands store m table batch) (sym batch_is) it)))
