use Rattle.paraid_base.specs.declared.fault.Halt.{Halt}
use Rattle.paraid_volume.proofs.DeviceLemmas.{DeviceGoesOn-none, KeepsMore-none}
use Rattle.std.proofs.Common.{◌≡◌, ℕ, ◌+◌, ◌<◌, ◌≤◌, ◌^◌, ◌∙◌, ◌++◌, ◌∷◌, [], length, take, ◌*◌, ◌-◌, refl, sym, ap, subst, arith, Option, Some, None}
use Rattle.std.proofs.Math.Nat.{mul-div-le}
use Rattle.std.proofs.lemmas.List.{take_all}
use Rattle.paraid_base.specs.History.{History, after_all}
use Rattle.paraid_volume.specs.Device.{InExtent}
use Rattle.paraid_volume.specs.Laid.{IsWith}
use Rattle.paraid_volume.specs.TableBlocks.{in_table}
use Rattle.paraid_volume.specs.Tables.{IsSameTable, IsVolumeTable, extent_count, extent_size, extents_owned, owner_in}
use Rattle.std.specs.Prelude.{IfErr}
use Rattle.std.proofs.lemmas.Result.{IfErr-weaker, err_from_is_err_and}
use Rattle.paraid_volume.specs.Faults.{IsCreateFault}
use Rattle.paraid_volume.specs.Values.{device_of, halted_of, volume_table}
use Rattle.paraid_volume.proofs.CreateLemmas.{inside_moved, shows_new, shows_still, with_moved, with_table}
use Rattle.paraid_volume.proofs.ExtentLemmas.{back, extents_few, same_live, same_name, same_owned, same_owner, extent_some}
use Rattle.paraid_volume.proofs.LaidLemmas.{laid_rest, laid_table}
use Rattle.paraid_volume.specs.NameValues.{letter_of}
use Rattle.paraid_volume.specs.Lives.{create}
use Rattle.paraid_volume.proofs.OneCallLemmas.{lived_create, lived_refused}
use Rattle.paraid_volume.proofs.RefusalLemmas.{create_refused, free_is, least_unnamed, unused}
use Rattle.paraid_volume.specs.TableCalls.{AreOfCreate, KeepsThen}
use Rattle.paraid_volume.proofs.volumes.Volumes.create.Goals as goal

not_below : (n k : ℕ) → 6 + n ≤ k → k < 6 → ⊥
not_below n k low l = omega (arith, low, l)

itself : (n : ℕ) → n ≤ n
itself n = omega arith

few_of : (e n m : ℕ) → e < n → n ≡ m → m ≤ 2048 → e < 2048
few_of e n m below is few = omega (arith, below, is, few)

all_fit : (count size extents : ℕ) → 7 ≤ count → size ≡ extent_size count → extents ≡ extent_count count → 6 + size * extents ≤ count
all_fit count size extents large sized counted =
    subst (λ (x : ℕ). 6 + x * extents ≤ count) (sym sized)
    (subst (λ (n : ℕ). 6 + extent_size count * n ≤ count) (sym counted) (let all = mul-div-le (count - 6) (extent_size count) in omega (arith, all, large)))

-- a halt is no want of one
halts : (h : Halt) → ◌≡◌ {A = Option Halt} (Some h) None → ⊥
halts h e = cc

pub invariant_of-self : goal.invariant_of-self
invariant_of-self g c =
    let v = c.args.self.now in
    let count = g.B.Blocks.block_count (device_of v) in
    let size = c.make.ensures.went.size in
    let id = c.in_ok-id.id in
    let least = c.in_ok-id.ensures.id in
    let old = in_table v.table in
    let next = in_table c.with-next.result in
    let with = subst (λ (n : ℕ). IsWith id c.args.name.now c.args.extents n old next) v.counted c.with-next.ensures in
    record {
      large = subst (λ (n : ℕ). 7 ≤ n) (sym size) v.large;
      fits = subst (λ (n : ℕ). n < 2 ^ 32) (sym size) v.fits;
      sized = v.sized ∙ ap extent_size (sym size);
      counted = v.counted ∙ ap extent_count (sym size);
      valid = subst (λ (n : ℕ). IsVolumeTable n next) (sym size)
          (with_table count id c.args.extents c.args.name.now old next v.large v.valid least.low least.high least.free (c.in_ok-id.ensures.served.some) c.in_ok-id.ensures.served.room c.in_ok-id.ensures.served.fresh with);
      halted = c.in-Ok.ensures.halt ∙ c.in_ok-id.ensures.halt;
    }

pub invariant_of-self-in-Err : goal.invariant_of-self-in-Err
invariant_of-self-in-Err g c =
    let v = c.args.self.now in
    let size = c.make.ensures.went.size in
    record {
      large = subst (λ (n : ℕ). 7 ≤ n) (sym size) v.large;
      fits = subst (λ (n : ℕ). n < 2 ^ 32) (sym size) v.fits;
      sized = v.sized ∙ ap extent_size (sym size);
      counted = v.counted ∙ ap extent_count (sym size);
      valid = subst (λ (n : ℕ). IsVolumeTable n (in_table v.table)) (sym size) v.valid;
      halted = c.in-Err.ensures.halt;
    }

pub returns-in-Ok-clause-makes : goal.returns-in-Ok-clause-makes
returns-in-Ok-clause-makes g c = λ from h s stands shows tells.
    let v = c.args.self.now in
    let count = g.B.Blocks.block_count (device_of v) in
    let id = c.in_ok-id.id in
    let n = c.args.extents in
    let text = c.args.name.now in
    let least = c.in_ok-id.ensures.id in
    let old = in_table v.table in
    let next = in_table c.with-next.result in
    let with : IsWith c.in_ok-id.id c.args.name.now c.args.extents (extent_count count) old next =
    subst (λ (m : ℕ). IsWith id c.args.name.now c.args.extents m old next) v.counted c.with-next.ensures in
    let some : 1 ≤ c.args.extents = c.in_ok-id.ensures.served.some in
    let made = c.in-Ok.ensures.makes from h stands.0 tells in
    let mid = h ++ made.more in
    let new = (h ++ made.more) ++ made.entry ∷ [] in
    let low = λ (k : ℕ) (l : k < 6) (inside : InExtent (owner_in next) id v.size v.extents k). not_below _ k inside.of.1.0 l in
    let all = λ (b : ℕ) (out : InExtent (owner_in next) id v.size v.extents b → ⊥).
    ap (λ (x : History). after_all (h ++ x) b) (sym (take_all (length made.more) made.more (itself (length made.more)))) ∙ made.rest (length made.more) b out in
    let same_mid : IsSameTable old (after_all mid) = λ k l. stands.1 k l ∙ sym (all k (low k l)) in
    let same : IsSameTable next (after_all new) = laid_table mid made.entry old next made.laid same_mid in
    let moved = with_moved id n (extent_count count) text old next (after_all h) (after_all new) stands.1 same with in
    let few = extents_few count v.large in
    let counted = v.counted in
    let into = λ (b : ℕ) (inside : InExtent (owner_in next) id v.size v.extents b).
    inside_moved (owner_in next) (owner_in (after_all new)) id v.size (extent_size count) v.extents (extent_count count) b v.sized v.counted
    (λ e l. same_owner next (after_all new) same e (few_of e _ _ l counted few)) inside in
    let from = λ (b : ℕ) (inside : InExtent (owner_in (after_all new)) id (extent_size count) (extent_count count) b).
    inside_moved (owner_in (after_all new)) (owner_in next) id (extent_size count) v.size (extent_count count) v.extents b (sym v.sized) (sym v.counted)
    (λ e l. sym (same_owner next (after_all new) same e (few_of e _ _ l refl few))) inside in
    let free = λ (live : _). least.free (same_live (after_all h) old (back old (after_all h) stands.1) id live) in
    let fresh = λ (i : ℕ) (live : _) (named : _).
    c.in_ok-id.ensures.served.fresh i (same_live (after_all h) old (back old (after_all h) stands.1) i live) (λ k l. named k l ∙ sym (same_name old (after_all h) stands.1 i k)) in
    let owned_same = same_owned old (after_all h) stands.1 0 (extent_count count) few in
    let room : c.args.extents ≤ extents_owned (owner_in (after_all h)) 0 (extent_count count) = subst (λ (n : ℕ). c.args.extents ≤ n) owned_same c.in_ok-id.ensures.served.room in
    record {
      more = made.more;
      entry = made.entry;
      stands = (made.stands, same);
      during = λ k.
          shows_still count id n text (after_all h) (after_all new) v.large shows.table least.low least.high free some room fresh moved (after_all (h ++ take k made.more))
          (λ p out. made.rest k p (λ inside. out (into p inside))) s shows;
      shows = shows_new count id n text (after_all h) (after_all new) v.large shows.table least.low least.high free some room fresh moved
          (λ p past out. laid_rest mid made.entry old next made.laid p past ∙ all p (λ inside. out (into p inside)))
          (λ p past inside. laid_rest mid made.entry old next made.laid p past ∙ made.zeros p (from p inside)) s shows;
    }

pub returns-in-Ok-clause-lived : goal.returns-in-Ok-clause-lived
returns-in-Ok-clause-lived g c = λ from start log lived tells.
    let v = c.args.self.now in
    lived_create _ _ _ start log lived (letter_of c.args.name.now) c.args.extents c.in_ok-id.id (record { field = c.args.name.now.field; some = c.args.name.now.some })
    (c.in_ok-id.ensures.served.some)
    (λ h s stands shows.
    let free = free_is _ (in_table v.table) (after_all h) s stands.1 shows v.large in (
      unused _ (in_table v.table) (after_all h) s stands.1 shows c.args.name.now c.in_ok-id.ensures.served.fresh,
      least_unnamed _ (in_table v.table) (after_all h) s stands.1 shows c.in_ok-id.id c.in_ok-id.ensures.id,
      subst (λ (n : ℕ). c.args.extents ≤ n) (sym free) c.in_ok-id.ensures.served.room,
    ))
    (λ h s stands shows. returns-in-Ok-clause-makes g c from h s stands shows tells)

pub returns-in_err-id : goal.returns-in_err-id
returns-in_err-id g c =
    let v = c.args.self.now in
    let p = err_from_is_err_and c.from_residual.result c.from_residual.ensures.1 in
    let due : IfErr c.from_residual.result (IsCreateFault (g.B.Blocks.block_count (device_of v)) (volume_table v) (halted_of v) c.args.name.now c.args.extents) = rw (p.1, p.2) c.in_err-id.ensures.fault in
    record {
      fault = due;
      served = rw p.1 tt;
      halt = rw (p.1, p.2) (sym c.in_err-id.ensures.halt);
      went = DeviceGoesOn-none _ _ _ _ _;
      grown = KeepsMore-none _ _ _ _;
      refused = rw p.1 refl;
      id = rw p.1 tt;
      makes = rw p.1 tt;
      stands = rw p.1 (λ none from h stands tells. stands);
      untouched = rw p.1 (λ same. refl);
      lived = rw p.1 tt;
      lived_refused = IfErr-weaker c.from_residual.result _ _
          (λ fault is none from start log lived tells. lived_refused _ _ _ start log lived (create (letter_of c.args.name.now) c.args.extents) fault (λ h stands. stands)
          (λ h s stands shows. create_refused _ (in_table v.table) (after_all h) s stands.1 shows v.large (halted_of v) none c.args.name.now c.args.extents fault is)) due;
      next = rw p.1 tt;
      events = rw p.1 tt;
    }

pub returns-in-Err : goal.returns-in-Err
returns-in-Err g c = record {
  fault = refl;
  served = tt;
  halt = refl;
  went = c.make.ensures.went;
  grown = c.make.ensures.grown;
  refused = refl;
  id = tt;
  makes = tt;
  stands = λ none. absurd (halts _ none);
  untouched = λ same. absurd (halts _ (same ∙ sym {a = None} c.in_ok-id.ensures.halt));
  lived = tt;
  lived_refused = λ none. absurd (halts _ none);
  next = tt;
  events = tt;
}

pub returns-in-Ok-clause-next : goal.returns-in-Ok-clause-next
returns-in-Ok-clause-next g c =
    subst (λ (n : ℕ). IsWith c.in_ok-id.id c.args.name.now c.args.extents n (in_table c.args.self.now.table) (in_table c.with-next.result)) c.args.self.now.counted c.with-next.ensures

pub returns-in-Ok-clause-events : goal.returns-in-Ok-clause-events
returns-in-Ok-clause-events g c =
    let v = c.args.self.now in
    let old = in_table v.table in
    let next = in_table c.with-next.result in
    subst (λ (x : ℕ). KeepsThen g.B.Blocks.kept (AreOfCreate c.in_ok-id.id x (extent_count (g.B.Blocks.block_count (device_of v))) old next) (device_of v) c.make.new.device) v.sized
    (subst (λ (n : ℕ). KeepsThen g.B.Blocks.kept (AreOfCreate c.in_ok-id.id v.size n old next) (device_of v) c.make.new.device) v.counted c.in-Ok.ensures.events)

pub returns-in-Ok-clause-halt : goal.returns-in-Ok-clause-halt
returns-in-Ok-clause-halt g c = sym c.in_ok-id.ensures.halt

pub returns-in-Ok-clause-fault : goal.returns-in-Ok-clause-fault
returns-in-Ok-clause-fault g c = tt

pub returns-in-Ok-clause-refused : goal.returns-in-Ok-clause-refused
returns-in-Ok-clause-refused g c = tt

pub returns-in-Ok-clause-stands : goal.returns-in-Ok-clause-stands
returns-in-Ok-clause-stands g c = tt

pub returns-in-Ok-clause-untouched : goal.returns-in-Ok-clause-untouched
returns-in-Ok-clause-untouched g c = tt

pub returns-in-Ok-clause-lived_refused : goal.returns-in-Ok-clause-lived_refused
returns-in-Ok-clause-lived_refused g c = tt

pub returns-in-Ok-clause-served : goal.returns-in-Ok-clause-served
returns-in-Ok-clause-served g c = c.in_ok-id.ensures.served

pub returns-in-Ok-clause-id : goal.returns-in-Ok-clause-id
returns-in-Ok-clause-id g c = c.in_ok-id.ensures.id

pub returns-in-Ok-clause-went : goal.returns-in-Ok-clause-went
returns-in-Ok-clause-went g c = c.make.ensures.went

pub returns-in-Ok-clause-grown : goal.returns-in-Ok-clause-grown
returns-in-Ok-clause-grown g c = c.make.ensures.grown

pub with-next-requires : goal.with-next-requires
with-next-requires g c = record {
  id = (c.in_ok-id.ensures.id.low, c.in_ok-id.ensures.id.high);
  few = subst (λ (n : ℕ). n ≤ 2048) (sym c.args.self.now.counted) (extents_few _ c.args.self.now.large);
}

pub make-requires : goal.make-requires
make-requires g c = record {
  none = c.args.self.now.halted ∙ sym c.in_ok-id.ensures.halt;
  large = c.args.self.now.large;
  size = subst (λ (n : ℕ). 1 ≤ n) (sym c.args.self.now.sized) (extent_some _ c.args.self.now.large);
  few = subst (λ (n : ℕ). n ≤ 2048) (sym c.args.self.now.counted) (extents_few _ c.args.self.now.large);
  fits = all_fit _ _ _ c.args.self.now.large c.args.self.now.sized c.args.self.now.counted;
  small = c.args.self.now.fits;
  head = sym c.with-next.ensures.head;
}
