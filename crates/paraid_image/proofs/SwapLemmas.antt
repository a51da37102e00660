-- A disk that is out and gone may become another one.
use Rattle.std.specs.Prelude.{◌≡◌, ◌≢◌, ℕ, ◌&&◌, nat_lt, Bool, true, false, Option, Some, None, if◌then◌else◌}
use Rattle.std.proofs.Common.{refl, sym, ◌∙◌, ap, subst, inl, inr}
use Rattle.std.proofs.lemmas.Bool.{cases_Bool, cases_eq, false≢true}
use Rattle.paraid_base.specs.declared.block.Block.{Block}
use Rattle.paraid_base.specs.declared.state.Out.TheVariants.{Gone, Fresh}
use Rattle.paraid_base.specs.History.{History}
use Rattle.paraid_base.specs.Log.{log_least}
use Rattle.paraid_base.specs.Xor.{zero_block}
use Rattle.paraid_rack.specs.declared.call.Call.TheVariants.{Attach}
use Rattle.paraid_rack.specs.declared.call.Power.{Power}
use Rattle.paraid_rack.specs.declared.call.Power.TheVariants.{Spinning, Parked, Absent}
use Rattle.paraid_rack.specs.Disks.{Disks, IsImage, is_present, lose, step, with_at}
use Rattle.paraid_rack.proofs.AtomsLemmas.{at_case, with_at_other, with_at_same}
use Rattle.paraid_image.specs.Content.{view_of}
use Rattle.paraid_image.specs.HeldAt.{IsHeld, IsSoundFrom}
use Rattle.paraid_image.specs.Out.{IsMissing, IsWeak, named_out, out_disk}
use Rattle.paraid_image.specs.Out.IsWeak.{out}
use Rattle.paraid_image.specs.Sides.{Batch, LogState, Says, has_place, is_open, stored_block}
use Rattle.paraid_image.specs.Sound.{AreDisks, ContentOk, IsFresh, LogOk, IsSoundAt}
use Rattle.paraid_image.specs.Spot.{map_bit, map_disk}
use Rattle.paraid_image.specs.Standing.{Contents, Stands, contents, overlaid_block, other_log}
use Rattle.paraid_image.proofs.FailedCallLemmas.{others_keep}
use Rattle.paraid_image.proofs.NeutralLemmas.{IsLogKept, says_back, says_forth}
use Rattle.paraid_image.proofs.OutLemmas.{says_in_range}
use Rattle.paraid_image.proofs.SidesLemmas.{blank_says_nothing}
use Rattle.paraid_image.proofs.StandingLemmas.{IsWeak-same}
use Rattle.paraid_image.proofs.CallLemmas.{out_named, says_not_lost, stored_lost, zeroed_closed}
use Rattle.paraid_image.proofs.ViewLemmas.{content_without, dirty_without}

module _ (slots : ℕ) (i j : Disks) (h : History) (k d : ℕ) (power : (x : ℕ) → x ≢ d → j.power x ≡ i.power x) (size : (x : ℕ) → x ≢ d → j.size x ≡ i.size x)
    (block : (x p : ℕ) → x ≢ d → j.block x p ≡ i.block x p) (silent : (said : LogState) → Says j d said → ⊥) (not_parked : j.power d ≢ Parked)
    (sound : IsSoundAt slots i h k) (is_gone : sound.said.meta.out ≡ Gone d) where
  abbrev said : LogState
  said = sound.said

  abbrev z : ℕ
  z = sound.disk

  named : named_out said.meta.out ≡ Some d
  named = ap named_out is_gone

  place_same : (x p : ℕ) → x ≢ d → has_place j x p ≡ has_place i x p
  place_same x p not =
      ap (λ (w : Power). is_present w && nat_lt p (j.size x)) (power x not) ∙ ap (λ (n : ℕ). is_present (i.power x) && nat_lt p n) (size x not)

  stored_same : (x p : ℕ) → x ≢ d → stored_block j x p ≡ stored_block i x p
  unfolding stored_block
  stored_same x p not =
      ap (λ (t : Bool). if t then j.block x p else zero_block) (place_same x p not) ∙ ap (λ (b : Block). if has_place i x p then b else zero_block) (block x p not)

  contents_same : (batch : Batch) (x p : ℕ) → x ≢ d → contents j batch x p ≡ contents i batch x p
  unfolding contents
  contents_same batch x p not =
      ap (λ (t : Bool). if nat_lt p log_least then zero_block else (if t then overlaid_block batch x p (j.block x p) else zero_block)) (place_same x p not)
      ∙ ap (λ (b : Block). if nat_lt p log_least then zero_block else (if has_place i x p then overlaid_block batch x p b else zero_block)) (block x p not)

  kept : (x : ℕ) → x ≢ d → IsLogKept i j x
  kept x not = record {
    power = power x not;
    gate = ap is_open (stored_same x 0 not);
    meta = λ closed. stored_same x 1 not;
    rest = λ opened o says q low high. stored_same x q not;
  }

  not_d : (x : ℕ) (o : LogState) → Says j x o → x ≢ d
  not_d x o s is = silent o (subst (λ (y : ℕ). Says j y o) is s)

  says_then : (x : ℕ) (o : LogState) → Says j x o → Says i x o
  says_then x o s = says_back i j x o (kept x (not_d x o s)) s

  z_not_d : z ≢ d
  z_not_d is = sound.log.standing_in (named ∙ ap Some (sym is))

  pub stands_now : Stands j z said
  stands_now = record {
    log_disk = sound.log.stands.log_disk;
    says = says_forth i j z said (kept z z_not_d) sound.log.stands.says;
    first = λ o s. sound.log.stands.first o (says_then (other_log z) o s);
  }

  out_then : out_disk i.power said.meta ≡ Some d
  out_then = out_named i.power said.meta d named

  pub out_now : out_disk j.power said.meta ≡ Some d
  out_now = out_named j.power said.meta d named

  missing_then : (e : ℕ) → IsMissing j.power said.meta e → IsMissing i.power said.meta e
  missing_then e missing = elim (cases_eq e d) [
    | inl is ↦ record { disk = missing.disk; is = inr (named ∙ ap Some (sym is)) }
    | inr not ↦ record {
      disk = missing.disk;
      is = elim missing.is [ inl absent ↦ inl (ap is_present (sym (power e not)) ∙ absent) | inr n ↦ inr n ];
    }
  ]

  no_fresh : (p : ℕ → Power) (e rebuilt : ℕ) → IsFresh p said.meta e rebuilt → ⊥
  no_fresh p e rebuilt fresh = let w : Fresh e rebuilt ≡ Gone d = sym fresh.is ∙ is_gone in cc

  away : (e : ℕ) → out_disk j.power said.meta ≢ Some e → e ≢ d
  away e not is = not (out_now ∙ ap Some (sym is))

  not_then : (e : ℕ) → e ≢ d → out_disk i.power said.meta ≢ Some e
  not_then e not o = let w : Some d ≡ Some e = sym out_then ∙ o in let is : e ≡ d = cc in not is

  log_now : LogOk j z said k
  log_now = record {
    stands = stands_now;
    writes = sound.log.writes;
    single = λ e f p q. sound.log.single e f (missing_then e p) (missing_then f q);
    standing_in = sound.log.standing_in;
    fresh_closed = λ e rebuilt fresh l. absurd (no_fresh j.power e rebuilt fresh);
    targets_spin = λ t names not. let far = away t.disk not in power t.disk far ∙ sound.log.targets_spin t names (not_then t.disk far);
    formed = λ y l present not.
        let far = away y not in
        let was = sound.log.formed y l (ap is_present (sym (power y far)) ∙ present) (not_then y far) in
        (was.0, says_forth i j y was.0 (kept y far) was.1);
    paired = λ a b p q first second.
        sound.log.paired a b (says_then 0 a p) (says_then 1 b q) (not_then 0 (away 0 first)) (not_then 1 (away 1 second));
  }

  ready : AreDisks slots j.power j.size said.meta (Some d)
  ready =
      let was = sound.content.kept.disks in
      let far : (e : ℕ) → Some d ≢ Some e → e ≢ d = (λ e not is. not (ap Some (sym is))) in
      record {
        enough = was.enough;
        log_disks = λ e l parked. elim (cases_eq e d) [
          | inl is ↦ not_parked (ap j.power (sym is) ∙ parked)
          | inr not ↦ was.log_disks e l (sym (power e not) ∙ parked)
        ];
        large = λ e l present not.
            let n = far e not in let same = size e n in
            let large = was.large e l (ap is_present (sym (power e n)) ∙ present) (not_then e n) in rw same large;
        fresh_large = λ e rebuilt fresh. absurd (no_fresh j.power e rebuilt fresh);
        below_gear = λ e l not. let n = far e not in power e n ∙ was.below_gear e l (not_then e n);
        fresh_spins = λ e rebuilt fresh. absurd (no_fresh j.power e rebuilt fresh);
        recorded = λ to e up low high parked not. let n = far e not in was.recorded to e up low high (sym (power e n) ∙ parked) (not_then e n);
      }

  abbrev dirty_by : Option ℕ → Contents → ℕ → ℕ → Bool
  dirty_by o f = map_bit said.meta.setup.geometry (f (map_disk o))

  content_now : ContentOk slots j.power j.size (view_of j said) h k
  content_now =
      let f : Contents = contents i said.batch in
      let t : Contents = contents j said.batch in
      let o : Option ℕ = out_disk i.power said.meta in
      let same : (e q : ℕ) → e ≢ d → t e q ≡ f e q = (λ e q not. contents_same said.batch e q not) in
      subst (λ (w : Option ℕ). ContentOk slots j.power j.size (record { meta = said.meta; dirty = dirty_by w t; out = w; block = t }) h k)
      (sym out_now)
      (content_without said.meta (dirty_by o f) (dirty_by (Some d) t) o f t d (inr out_then) same
      (dirty_without said.meta.setup.geometry o f t d (inr out_then) same (λ q l none. let w : None ≡ Some d = sym none ∙ out_then in cc))
      (says_in_range said.opened (stored_block i z) said.meta said.batch sound.log.stands.says.log)
      slots i.power j.power i.size j.size h k (no_fresh j.power) ready sound.content)

  pub IsSoundAt-swapped : ((p : ℕ) → is_open (stored_block j d p) ≡ false) → IsSoundAt slots j h k
  IsSoundAt-swapped zeroed = record {
    disk = z;
    said = said;
    log = log_now;
    content = content_now;
    witnesses = λ y l opened. elim (cases_eq 2 d) [
      | inl is ↦ absurd (false≢true (sym (zeroed y) ∙ ap (λ (x : ℕ). is_open (stored_block j x y)) (sym is) ∙ opened))
      | inr not ↦ out_now ∙ sym out_then ∙ sound.witnesses y l (ap is_open (sym (stored_same 2 y not)) ∙ opened)
    ];
  }

  pub weak_swapped : IsWeak j d
  weak_swapped = out z said stands_now out_now

stored_zero : (j : Disks) (d p : ℕ) → j.block d p ≡ zero_block → stored_block j d p ≡ zero_block
unfolding stored_block
stored_zero j d p is = elim (cases_Bool (has_place j d p)) [ inl there ↦ rw there is | inr none ↦ rw none refl ]

-- a fresh disk says nothing
zeros_say_nothing : (j : Disks) (d : ℕ) → ((p : ℕ) → j.block d p ≡ zero_block) → (said : LogState) → Says j d said → ⊥
zeros_say_nothing j d zeros said s =
    blank_says_nothing j d said (ap is_open (stored_zero j d 0 (zeros 0)) ∙ zeroed_closed) (stored_zero j d 1 (zeros 1)) s

attached_block : (s : Disks) (d size p : ℕ) → ((step (Attach d size true) s).loose d p ≡ false) × ((step (Attach d size true) s).block d p ≡ zero_block)
unfolding step
attached_block s d size p = (ap (λ f. f p) (with_at_same s.loose d (λ q. false) d refl), ap (λ f. f p) (with_at_same s.block d (λ q. zero_block) d refl))

attached_power : (s : Disks) (d size : ℕ) → (step (Attach d size true) s).power d ≡ Spinning
unfolding step
attached_power s d size = with_at_same s.power d Spinning d refl

-- what an attach leaves of the other disks
record LeavesOthers (s t : Disks) (d : ℕ) : Type 0 where
  power : (x : ℕ) → x ≢ d → t.power x ≡ s.power x
  size : (x : ℕ) → x ≢ d → t.size x ≡ s.size x
  block : (x p : ℕ) → x ≢ d → t.block x p ≡ s.block x p
  loose : (x p : ℕ) → x ≢ d → t.loose x p ≡ s.loose x p

attach_leaves : (s : Disks) (d size : ℕ) → LeavesOthers s (step (Attach d size true) s) d
unfolding step
attach_leaves s d size = record {
  power = λ x not. with_at_other s.power d Spinning x not;
  size = λ x not. with_at_other s.size d size x not;
  block = λ x p not. others_keep s.block d (λ q. zero_block) x p not;
  loose = λ x p not. others_keep s.loose d (λ q. false) x p not;
}

module _ (slots : ℕ) (s : Disks) (h : History) (lo : ℕ) (down : Option ℕ) (d size : ℕ)
    (gone : (i : Disks) (x : ℕ) (said : LogState) → IsImage s i → Stands i x said → said.meta.out ≡ Gone d) (held : IsHeld slots s h lo down) where
  abbrev t : Disks
  t = step (Attach d size true) s

  others : LeavesOthers s t d
  others = attach_leaves s d size

  abbrev before : Disks → Disks
  before j = record {
    power = s.power;
    size = s.size;
    block = with_at j.block d (s.block d);
    loose = j.loose;
  }

  before_is : (j : Disks) → IsImage t j → IsImage s (before j)
  before_is j e = record {
    power = λ x. refl;
    size = λ x. refl;
    block = λ x q synced. at_case (λ (f : ℕ → Block). f q ≡ s.block x q) j.block d (s.block d) x
        (λ is. ap (λ (y : ℕ). s.block y q) (sym is))
        (λ not. e.block x q (others.loose x q not ∙ synced) ∙ others.block x q not);
    loose = e.loose;
  }

  was : (j : Disks) → IsImage t j → IsSoundFrom slots (before j) h lo
  was j e = held.whole (before j) (before_is j e)

  is_gone : (j : Disks) (e : IsImage t j) → (was j e).sound.said.meta.out ≡ Gone d
  is_gone j e = gone (before j) (was j e).sound.disk (was j e).sound.said (before_is j e) (was j e).sound.log.stands

  powers : (j : Disks) → IsImage t j → (x : ℕ) → x ≢ d → j.power x ≡ s.power x
  powers j e x not = e.power x ∙ others.power x not

  sizes : (j : Disks) → IsImage t j → (x : ℕ) → x ≢ d → j.size x ≡ s.size x
  sizes j e x not = e.size x ∙ others.size x not

  blocks : (j : Disks) (x p : ℕ) → x ≢ d → j.block x p ≡ (before j).block x p
  blocks j x p not = sym (others_keep j.block d (s.block d) x p not)

  silent : (j : Disks) → IsImage t j → (said : LogState) → Says j d said → ⊥
  silent j e said says = zeros_say_nothing j d (λ p. let at = attached_block s d size p in e.block d p at.0 ∙ at.1) said says

  spins : (j : Disks) → IsImage t j → j.power d ≢ Parked
  spins j e parked = let w : Spinning ≡ Parked = sym (attached_power s d size) ∙ sym (e.power d) ∙ parked in cc

  zeroed : (j : Disks) → IsImage t j → (p : ℕ) → is_open (stored_block j d p) ≡ false
  zeroed j e p = let at = attached_block s d size p in ap is_open (stored_zero j d p (e.block d p at.0 ∙ at.1)) ∙ zeroed_closed

  now : (j : Disks) → IsImage t j → IsSoundFrom slots j h lo
  now j e = record {
    k = (was j e).k;
    low = (was j e).low;
    high = (was j e).high;
    sound = IsSoundAt-swapped slots (before j) j h (was j e).k d (powers j e) (sizes j e) (blocks j) (silent j e) (spins j e) (was j e).sound (is_gone j e) (zeroed j e);
  }

  weak_now : (j : Disks) → IsImage t j → IsWeak j d
  weak_now j e = weak_swapped slots (before j) j h (was j e).k d (powers j e) (sizes j e) (blocks j) (silent j e) (spins j e) (was j e).sound (is_gone j e)

  lost_absent : (j : Disks) → (lose d j).power d ≢ Parked
  lost_absent j parked = let w : Absent ≡ Parked = sym (with_at_same j.power d Absent d refl) ∙ parked in cc

  lost_now : (j : Disks) → IsImage t j → IsSoundFrom slots (lose d j) h lo
  lost_now j e = record {
    k = (was j e).k;
    low = (was j e).low;
    high = (was j e).high;
    sound = IsSoundAt-swapped slots (before j) (lose d j) h (was j e).k d
        (λ x not. with_at_other j.power d Absent x not ∙ powers j e x not)
        (λ x not. with_at_other j.size d 0 x not ∙ sizes j e x not)
        (blocks j) (λ said says. says_not_lost j d d said says refl) (lost_absent j) (was j e).sound (is_gone j e)
        (λ p. ap is_open (stored_lost j d d p refl) ∙ zeroed_closed);
  }

  weak_then : (j : Disks) (e : IsImage t j) → IsWeak (before j) d
  weak_then j e =
      let sound = (was j e).sound in
      out sound.disk sound.said sound.log.stands (out_named s.power sound.said.meta d (ap named_out (is_gone j e)))

  pub IsHeld-attached : IsHeld slots t h lo down
  IsHeld-attached = record {
    whole = now;
    lost = λ j f e may. subst (λ (x : ℕ). IsSoundFrom slots (lose x j) h lo) (may.weak d (weak_now j e)) (lost_now j e);
    weak = λ j w e weak.
        held.weak (before j) d (before_is j e) (weak_then j e) ∙ ap Some (IsWeak-same j d w (weak_now j e) weak);
  }
