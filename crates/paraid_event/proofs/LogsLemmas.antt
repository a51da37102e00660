-- While no block of the log is written, the meta of the last commit stands in all that is looked at.
use Rattle.std.proofs.Common.{◌≡◌, ◌≢◌, ℕ, ◌<◌, ◌≤◌, ◌⊎◌, Bool, true, false, Some, refl, sym, ap, ◌∙◌, inl, inr, subst, arith, if◌then◌else◌, length}
use Rattle.std.specs.Prelude.{◌&&◌, nat_lt}
use Rattle.std.proofs.lemmas.Bool.{cases_eq, false≢true}
use Rattle.std.proofs.lemmas.Bool.Decides.{nat_tests}
use Rattle.paraid_base.specs.Log.{batch_room, log_least}
use Rattle.paraid_rack.specs.declared.call.Call.{Call}
use Rattle.paraid_rack.specs.declared.call.Call.TheVariants.{Read, Write, Sync, Park, SpinUp, Attach}
use Rattle.paraid_rack.specs.declared.call.Power.{Power}
use Rattle.paraid_rack.specs.declared.call.Power.TheVariants.{Absent}
use Rattle.paraid_rack.specs.Disks.{Disks, IsImage, IsPresent, is_present, lose, loose_after, power_after, size_after, step, with_at}
use Rattle.paraid_rack.proofs.AtomsLemmas.{with_at_other, with_at_same}
use Rattle.paraid_record.specs.declared.meta.Meta.{Meta}
use Rattle.paraid_image.specs.HeldAt.{MayLose}
use Rattle.paraid_image.specs.Looked.{IsLooked}
use Rattle.paraid_image.specs.Looked.IsLooked.{lost, whole}
use Rattle.paraid_image.specs.Out.{named_out, out_disk}
use Rattle.paraid_image.specs.Out.IsWeak.{out}
use Rattle.paraid_image.specs.Rest.{IsAtRest}
use Rattle.paraid_image.specs.Sides.{LogState, Says, closed_over, is_open, stored_block}
use Rattle.paraid_image.specs.Sound.{Pairing}
use Rattle.paraid_image.specs.Sound.Pairing.{alike, first_ahead, first_done, second_ahead, second_done}
use Rattle.paraid_image.specs.Standing.{Contents, Stands, other_log}
use Rattle.paraid_image.proofs.CallLemmas.{lose_kept, says_of_lost}
use Rattle.paraid_image.proofs.NeutralLemmas.{IsLogKept, few_logged, says_back, says_forth}
use Rattle.paraid_image.proofs.OutLemmas.{out_present}
use Rattle.paraid_image.proofs.SidesLemmas.{Says-same}
use Rattle.paraid_image.proofs.StandingLemmas.{Stands-same}
use Rattle.paraid_moves.specs.Copying.{IsCopying}
use Rattle.paraid_moves.proofs.CopyCommitLemmas.{rest_from_copying}
use Rattle.paraid_core.specs.Calls.{IsPastLog}
use Rattle.paraid_recover.proofs.RestLemmas.{out_by_name}
use Rattle.paraid_recover.proofs.SetupLemmas.{self_at}

-- The log of disk `x` is as it was, where the disk is there: what was not loose is so still, and is the same.
pub record IsLogHeld (s t : Disks) (x : ℕ) : Type 0 where
  pub present : IsPresent t x → IsPresent s x
  pub power : IsPresent t x → t.power x ≡ s.power x
  pub size : IsPresent t x → t.size x ≡ s.size x
  pub block : IsPresent t x → (q : ℕ) → q < log_least → s.loose x q ≡ false → (t.loose x q ≡ false) × (t.block x q ≡ s.block x q)

touched : (p : ℕ → Power) (e x : ℕ) (done : Bool) → is_present (with_at p e (power_after done (p e)) x) ≡ true → (done ≡ true) ⊎ (x ≢ e)
touched p e x true here = inl refl
touched p e x false here = elim (cases_eq x e) [
  | inl is ↦ absurd (false≢true (sym (ap is_present (with_at_same p e Absent x is)) ∙ here))
  | inr apart ↦ inr apart
]

pub power_at : (p : ℕ → Power) (e x : ℕ) (done : Bool) → is_present (with_at p e (power_after done (p e)) x) ≡ true → with_at p e (power_after done (p e)) x ≡ p x
power_at p e x true here = self_at p e x
power_at p e x false here = elim (touched p e x false here) [
  | inl never ↦ absurd (false≢true never)
  | inr apart ↦ with_at_other p e Absent x apart
]

size_at : (f : ℕ → ℕ) (p : ℕ → Power) (e x : ℕ) (done : Bool) → is_present (with_at p e (power_after done (p e)) x) ≡ true → with_at f e (size_after done (f e)) x ≡ f x
size_at f p e x true here = self_at f e x
size_at f p e x false here = elim (touched p e x false here) [
  | inl never ↦ absurd (false≢true never)
  | inr apart ↦ with_at_other f e 0 x apart
]

-- one place of one disk is written
written_away : {A : Type 0} (f : ℕ → ℕ → A) (e p : ℕ) (v : A) (x q : ℕ) → q ≢ p → with_at f e (with_at (f e) p v) x q ≡ f x q
written_away {A} f e p v x q apart = elim (cases_eq x e) [
  | inl is ↦ ap (λ (g : ℕ → A). g q) (with_at_same f e (with_at (f e) p v) x is) ∙ with_at_other (f e) p v q apart ∙ ap (λ (k : ℕ). f k q) (sym is)
  | inr other ↦ ap (λ (g : ℕ → A). g q) (with_at_other f e (with_at (f e) p v) x other)
]

dry_at : (f : ℕ → Bool) (done : Bool) (q : ℕ) → f q ≡ false → loose_after done f q ≡ false
dry_at f true q dry = refl
dry_at f false q dry = dry

dry_after : (f : ℕ → ℕ → Bool) (e : ℕ) (done : Bool) (x q : ℕ) → f x q ≡ false → with_at f e (loose_after done (f e)) x q ≡ false
dry_after f e done x q dry = elim (cases_eq x e) [
  | inl is ↦ ap (λ (g : ℕ → Bool). g q) (with_at_same f e (loose_after done (f e)) x is) ∙ dry_at (f e) done q (ap (λ (k : ℕ). f k q) (sym is) ∙ dry)
  | inr other ↦ ap (λ (g : ℕ → Bool). g q) (with_at_other f e (loose_after done (f e)) x other) ∙ dry
]

one_step : (s t : Disks) (c : Call) (x : ℕ) → IsPastLog c → IsLogHeld t (step c t) x
unfolding step
one_step s t (Read e p done) x past = record {
  present = λ here. ap is_present (sym (power_at t.power e x done here)) ∙ here;
  power = power_at t.power e x done;
  size = size_at t.size t.power e x done;
  block = λ here q low dry. (dry, refl);
}
one_step s t (Write e p b done) x past = record {
  present = λ here. ap is_present (sym (power_at t.power e x done here)) ∙ here;
  power = power_at t.power e x done;
  size = size_at t.size t.power e x done;
  block = λ here q low dry. (written_away t.loose e p true x q (λ is. omega (arith, past, low, is)) ∙ dry, written_away t.block e p b x q (λ is. omega (arith, past, low, is)));
}
one_step s t (Sync e done) x past = record {
  present = λ here. ap is_present (sym (power_at t.power e x done here)) ∙ here;
  power = power_at t.power e x done;
  size = size_at t.size t.power e x done;
  block = λ here q low dry. (dry_after t.loose e done x q dry, refl);
}
one_step s t (Park e done) x past = absurd past
one_step s t (SpinUp e done) x past = absurd past
one_step s t (Attach e size done) x past = absurd past

pub held_then : (s t u : Disks) (x : ℕ) → IsLogHeld s t x → IsLogHeld t u x → IsLogHeld s u x
held_then s t u x first next = record {
  present = λ here. first.present (next.present here);
  power = λ here. next.power here ∙ first.power (next.present here);
  size = λ here. next.size here ∙ first.size (next.present here);
  block = λ here q low dry.
      let a = first.block (next.present here) q low dry in
      let b = next.block here q low a.0 in
      (b.0, b.1 ∙ a.1);
}

pub held_self : (s : Disks) (x : ℕ) → IsLogHeld s s x
held_self s x = record { present = λ h. h; power = λ h. refl; size = λ h. refl; block = λ h q low dry. (dry, refl) }

pub log_held : (s t : Disks) (c : Call) (x : ℕ) → IsPastLog c → IsLogHeld s t x → IsLogHeld s (step c t) x
log_held s t c x past first = held_then s t (step c t) x first (one_step s t c x past)

low_test : (a b : ℕ) → a < b → nat_lt a b ≡ true
low_test a b l = grind (arith, nat_tests)

both_true : (a b : Bool) → (a && b) ≡ true → (a ≡ true) × (b ≡ true)
both_true true b e = (refl, e)
both_true false b e = absurd (false≢true e)

below_of : (a b : ℕ) → nat_lt a b ≡ true → a < b
below_of a b e = grind (arith, nat_tests)

-- the image of `s` that has the log of image `i` of `t`
before : Disks → Disks → Disks
before s i = record {
  power = s.power;
  size = s.size;
  block = λ x q. if nat_lt q log_least && is_present (i.power x) then i.block x q else s.block x q;
  loose = λ x q. false;
}

-- of two closed logs that fit together both say the same
closed_pair : (a b : LogState) → Pairing a b → a.opened ≡ false → b.opened ≡ false → a ≡ b
closed_pair a b (alike is) p q = is
closed_pair a b (first_ahead is) p q = absurd (false≢true (sym p ∙ is.opened))
closed_pair a b (second_ahead is) p q = absurd (false≢true (sym q ∙ is.opened))
closed_pair a b (first_done is) p q = absurd (false≢true (sym p ∙ is.opened))
closed_pair a b (second_done is) p q = absurd (false≢true (sym q ∙ is.opened))

-- at rest the other log disk says the same, unless it is out
other_same : (t : Disks) (m : Meta) (rest : IsAtRest t m) (z : ℕ) (o : LogState) → z < 2 → z ≢ rest.disk → Says t z o → out_disk t.power m ≢ Some z → o ≡ closed_over m
other_same t m rest z o z_low apart says not =
    let x : ℕ = rest.disk in
    let shut : o.opened ≡ false = sym says.gate ∙ rest.shut z z_low says.present (λ named. not (out_by_name t.power m z named)) in
    let not_x = out_present t.power m x rest.log.stands.says.present rest.log.standing_in in
    let mine = rest.log.stands.says in
    let l : x < 2 = rest.log.stands.log_disk in
    elim (cases_eq x 0) [
      | inl zero_is ↦
          let one_is : z ≡ 1 = omega (arith, z_low, apart, zero_is) in
          sym (closed_pair (closed_over m) o (rest.log.paired (closed_over m) o (subst (λ (y : ℕ). Says t y (closed_over m)) zero_is mine) (subst (λ (y : ℕ). Says t y o) one_is says)
          (subst (λ (y : ℕ). out_disk t.power m ≢ Some y) zero_is not_x) (subst (λ (y : ℕ). out_disk t.power m ≢ Some y) one_is not)) refl shut)
      | inr later ↦
          let one_is : x ≡ 1 = omega (arith, l, later) in
          let zero_is : z ≡ 0 = omega (arith, z_low, apart, one_is) in
          closed_pair o (closed_over m) (rest.log.paired o (closed_over m) (subst (λ (y : ℕ). Says t y o) zero_is says) (subst (λ (y : ℕ). Says t y (closed_over m)) one_is mine)
          (subst (λ (y : ℕ). out_disk t.power m ≢ Some y) zero_is not) (subst (λ (y : ℕ). out_disk t.power m ≢ Some y) one_is not_x)) shut refl
    ]

module _ (s t i : Disks) (image : IsImage t i) (held : (x : ℕ) → IsLogHeld s t x) where
  there : (x : ℕ) → IsPresent i x → IsPresent t x
  there x here = ap is_present (sym (image.power x)) ∙ here

  before_image : IsImage s (before s i)
  unfolding before
  before_image = record {
    power = λ x. refl;
    size = λ x. refl;
    block = λ x q dry. by (nat_lt q log_least && is_present (i.power x)) refl x q refl dry;
    loose = λ x q. refl;
  }
    where
      by : (b : Bool) → b ≡ b → (x q : ℕ) → (nat_lt q log_least && is_present (i.power x)) ≡ b → s.loose x q ≡ false → (if b then i.block x q else s.block x q) ≡ s.block x q
      by true e x q is dry =
          let two = both_true (nat_lt q log_least) (is_present (i.power x)) is in
          let at = (held x).block (there x two.1) q (below_of q log_least two.0) dry in
          image.block x q at.0 ∙ at.1
      by false e x q is dry = refl

  log_of : (x q : ℕ) → IsPresent i x → q < log_least → stored_block (before s i) x q ≡ stored_block i x q
  unfolding stored_block before
  log_of x q here low =
      let power = (held x).power (there x here) in
      let size = (held x).size (there x here) in
      rw (image.power x, image.size x, power, size, low_test q log_least low, sym (ap is_present (image.power x ∙ power)) ∙ here) refl

  kept_log : (x : ℕ) → IsPresent i x → IsLogKept i (before s i) x
  unfolding before
  kept_log x here = record {
    power = sym ((held x).power (there x here)) ∙ sym (image.power x);
    gate = ap is_open (log_of x 0 here (omega arith));
    meta = λ shut. log_of x 1 here (omega arith);
    rest = λ opened said says q low high. log_of x q here (
        let few : length said.batch ≤ batch_room = elim says [
          | inl a ↦ few_logged said.opened _ said.meta said.batch a.log
          | inr b ↦ few_logged said.opened _ said.meta said.batch b.log
        ] in
        omega (arith, few, high));
  }

  back : (x : ℕ) (said : LogState) → Says i x said → Says (before s i) x said
  back x said says = says_forth i (before s i) x said (kept_log x says.present) says

  forth : (x : ℕ) (said : LogState) → IsPresent i x → Says (before s i) x said → Says i x said
  forth x said here says = says_back i (before s i) x said (kept_log x here) says

  module _ (m : Meta) (f : Contents) (copying : IsCopying s m f) where
    abbrev j : Disks
    j = before s i

    j_synced : (x q : ℕ) → IsPresent j x → j.loose x q ≡ false
    unfolding before
    j_synced x q here = refl

    self_image : IsImage j j
    unfolding before
    self_image = record { power = λ x. refl; size = λ x. refl; block = λ x q dry. refl; loose = λ x q. refl }

    again : (k : Disks) → IsImage j k → IsImage s k
    unfolding before
    again k is = record {
      power = is.power;
      size = is.size;
      block = λ x q dry. is.block x q refl ∙ before_image.block x q dry;
      loose = is.loose;
    }

    at_rest : IsAtRest j m
    at_rest = rest_from_copying j m f j_synced (λ k is. copying k (again k is))

    abbrev y : ℕ
    y = at_rest.disk

    -- where the other log disk says something here only if it did before, what stands is this
    both_there : (x : ℕ) (o : LogState) → Stands i x o → IsPresent i (other_log x) → o ≡ closed_over m
    both_there x o stands here =
        let was : Stands j x o = record { log_disk = stands.log_disk; says = back x o stands.says; first = λ p q. stands.first p (forth (other_log x) p here q) } in
        (Stands-same j x y o (closed_over m) was at_rest.log.stands).1

    -- a log disk that is not out says this
    says_base : (x : ℕ) (o : LogState) → x < 2 → Says i x o → named_out m.out ≢ Some x → o ≡ closed_over m
    says_base x o low says not = elim (cases_eq x y) [
      | inl same ↦ Says-same j y o (closed_over m) (subst (λ (z : ℕ). Says j z o) same (back x o says)) at_rest.log.stands.says
      | inr apart ↦ other_same j m at_rest x o low apart (back x o says) (out_present j.power m x (back x o says).present not)
    ]

    module _ (down : ℕ → Type 0) (one : (d e : ℕ) → down d → down e → d ≡ e) (absent : (x : ℕ) → x < 2 → is_present (t.power x) ≡ false → down x) (named : (d : ℕ) → named_out m.out ≡ Some d → down d) where
      off : (b : Bool) (x : ℕ) → is_present (i.power x) ≡ b → (IsPresent i x) ⊎ (is_present (t.power x) ≡ false)
      off true x is = inl is
      off false x is = inr (ap is_present (sym (image.power x)) ∙ is)

      whole_only : (x : ℕ) (o : LogState) → Stands i x o → o ≡ closed_over m
      whole_only x o stands =
          let low = stands.log_disk in
          elim (off (is_present (i.power (other_log x))) (other_log x) refl) [
            | inl here ↦ both_there x o stands here
            | inr gone ↦ says_base x o low stands.says (λ is. absurd (let same = one x (other_log x) (named x is) (absent (other_log x) (omega arith) gone) in omega (arith, same, low)))
          ]

      lost_by : (x d : ℕ) (o : LogState) → MayLose i d → Stands (lose d i) x o → IsPresent i (other_log x) → other_log x ≡ d → o ≡ closed_over m
      lost_by x d o may stands here same =
          let low = stands.log_disk in
          let says = says_of_lost i d x o stands.says in
          says_base x o low says (λ is.
          let base_at = at_rest.log.stands in
          let y_low = base_at.log_disk in
          let not_x : y ≢ x = (λ e. at_rest.log.standing_in (is ∙ ap (λ (z : ℕ). Some z) (sym e))) in
          let y_is : y ≡ other_log x = omega (arith, low, y_low, not_x) in
          let says_y : Says i y (closed_over m) = forth y (closed_over m) (subst (λ (z : ℕ). IsPresent i z) (sym y_is) here) base_at.says in
          let there_y : Stands i y (closed_over m) = record { log_disk = y_low; says = says_y; first = λ p q. base_at.first p (back (other_log y) p q) } in
          let e = may.weak x (out y (closed_over m) there_y (out_by_name i.power m x is)) in
          absurd (omega (arith, e, same, low)))

      lost_only : (x d : ℕ) (o : LogState) → MayLose i d → Stands (lose d i) x o → o ≡ closed_over m
      lost_only x d o may stands =
          let low = stands.log_disk in
          let whole_it : ((p : LogState) → Says i (other_log x) p → Says (lose d i) (other_log x) p) → o ≡ closed_over m = (λ f. whole_only x o (record { log_disk = low; says = says_of_lost i d x o stands.says; first = λ p q. stands.first p (f p q) })) in
          elim (cases_eq (other_log x) d) [
            | inr apart ↦ whole_it (λ p q. says_forth i (lose d i) (other_log x) p (lose_kept i d (other_log x) apart) q)
            | inl same ↦ elim (off (is_present (i.power (other_log x))) (other_log x) refl) [
              | inl here ↦ lost_by x d o may stands here same
              | inr gone ↦ whole_it (λ p q. absurd (false≢true (sym (ap is_present (image.power (other_log x)) ∙ gone) ∙ q.present)))
            ]
          ]

-- While one disk at most is down, this meta stands in all that is looked at, where the logs are as they were.
pub held_only : (s t : Disks) (m : Meta) (f : Contents) → IsCopying s m f → ((x : ℕ) → IsLogHeld s t x) → (down : ℕ → Type 0) → ((d e : ℕ) → down d → down e → d ≡ e)
    → ((x : ℕ) → x < 2 → is_present (t.power x) ≡ false → down x) → ((d : ℕ) → named_out m.out ≡ Some d → down d)
    → (x : ℕ) (i : Disks) (o : LogState) → IsLooked t i → Stands i x o → o.meta ≡ m
held_only s t m f copying held down one absent named x i o (whole image) stands = ap (λ (k : LogState). k.meta) (whole_only s t i image held m f copying down one absent named x o stands)
held_only s t m f copying held down one absent named x i o (lost j d image may is) stands =
    ap (λ (k : LogState). k.meta) (lost_only s t j image held m f copying down one absent named x d o may (subst (λ (z : Disks). Stands z x o) (sym is) stands))
