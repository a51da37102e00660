-- Opening a gate makes an image hold what the log brings.
use Rattle.std.specs.Prelude.{◌≡◌, ◌≢◌, ℕ, ◌<◌, ◌==◌, ◌&&◌, ◌||◌, nat_lt, Bool, true, false, not, Some, if◌then◌else◌, Option}
use Rattle.std.proofs.Common.{refl, sym, ◌∙◌, ap, subst, arith, inl, inr, zero, suc}
use Rattle.std.proofs.lemmas.Bool.{cases_Bool, cases_eq}
use Rattle.std.proofs.lemmas.Bool.Decides.{nat_tests}
use Rattle.paraid_base.specs.declared.block.Block.{Block}
use Rattle.paraid_base.specs.History.{History}
use Rattle.paraid_base.specs.Xor.{zero_block}
use Rattle.paraid_rack.specs.declared.call.Call.TheVariants.{Write}
use Rattle.paraid_rack.specs.Disks.{Disks, IsImage, IsPresent, lose, step}
use Rattle.paraid_image.specs.Content.{view_by, view_of}
use Rattle.paraid_image.specs.Neutral.{overwrite}
use Rattle.paraid_image.specs.Gate.{MayToggleGate}
use Rattle.paraid_image.specs.HeldAt.{IsHeld, IsSoundFrom, MayLose}
use Rattle.paraid_image.specs.Open.{CanOpen, IsLoggedNext}
use Rattle.paraid_image.specs.Out.{named_out, out_disk}
use Rattle.paraid_image.specs.Sides.{LogState, Says, SaysBy, is_open, stored_block}
use Rattle.paraid_image.specs.Sound.{ContentOk, IsAhead, LogOk, Pairing, IsSoundAt}
use Rattle.paraid_image.specs.Sound.Pairing.{alike, first_ahead, second_ahead}
use Rattle.paraid_image.specs.Standing.{Contents, Stands, is_first, other_log, stands_before}
use Rattle.paraid_image.proofs.GateLemmas.{gate_write_holds}
use Rattle.paraid_image.proofs.FailedCallLemmas.{keeps_others}
use Rattle.paraid_image.proofs.NeutralLemmas.{IsLogKept, SaysBy-kept, contents_over, few_logged, is_sound_forth, overwritten_else, overwritten_here, says_back, says_forth, stored_else, written}
use Rattle.paraid_image.proofs.SidesLemmas.{Says-same}

greater_first : (e f : ℕ) (rest : Bool) → f < e → (nat_lt f e || rest) ≡ true
greater_first e f rest l = grind (arith, nat_tests)

greater_second : (e f : ℕ) (rest : Bool) → f < e → not (nat_lt e f || (f == e && rest)) ≡ true
greater_second e f rest l = grind (arith, nat_tests)

pub greater_before : (x : ℕ) (new o : LogState) → o.meta.epoch < new.meta.epoch → stands_before x new o ≡ true
greater_before zero new o l = greater_first new.meta.epoch o.meta.epoch _ l
greater_before (suc x) new o l = greater_second new.meta.epoch o.meta.epoch _ l

same_before : (e : ℕ) (opened : Bool) → (nat_lt e e || (e == e && (not opened || opened))) ≡ true
same_before e true = grind (arith, nat_tests)
same_before e false = grind (arith, nat_tests)

module _ (slots : ℕ) (i : Disks) (h : History) (k x : ℕ) (new : LogState) (b : Block) (next : IsLoggedNext slots i x new h k) (opened : is_open b ≡ true) where
  abbrev now : Disks
  now = overwrite i x 0 b

  abbrev y : ℕ
  y = other_log x

  low : x < 2
  low = next.log_disk

  y_not_x : y ≢ x
  y_not_x = λ e. let l = low in absurd (omega arith)

  gate_here : is_open (stored_block now x 0) ≡ true
  unfolding stored_block
  gate_here =
      ap (λ (t : Bool). is_open (if t then now.block x 0 else zero_block)) next.place
      ∙ ap is_open (overwritten_here i x 0 b x 0 refl refl) ∙ opened

  says_x : Says now x new
  says_x =
      let logged : SaysBy true (stored_block i x) new.meta new.batch = next.logged in
      let there : SaysBy true (stored_block now x) new.meta new.batch = SaysBy-kept true (stored_block i x) (stored_block now x) new.meta new.batch
      (λ c. stored_else i x 0 b x 1 (λ is at. absurd (omega arith)))
      (λ c q lo hi. stored_else i x 0 b x q (λ is at. absurd (omega arith))) logged in
      record {
        present = next.present;
        gate = gate_here ∙ sym next.opened;
        log = subst (λ (o : Bool). SaysBy o (stored_block now x) new.meta new.batch) (sym next.opened) there;
      }

  kept : (z : ℕ) → z ≢ x → IsLogKept i now z
  kept z not = record {
    power = refl;
    gate = ap is_open (stored_else i x 0 b z 0 (λ is at. absurd (not is)));
    meta = λ c. stored_else i x 0 b z 1 (λ is at. absurd (not is));
    rest = λ c o says q lo hi. stored_else i x 0 b z q (λ is at. absurd (not is));
  }

  y_then : (o : LogState) → Says now y o → Says i y o
  y_then o s = says_back i now y o (kept y y_not_x) s

  y_now : (o : LogState) → Says i y o → Says now y o
  y_now o s = says_forth i now y o (kept y y_not_x) s

  abbrev StandsIn : Type 0
  StandsIn = (z : ℕ) × Stands now z new × (named_out new.meta.out ≢ Some z)

  both : Says i y new → StandsIn
  both s = elim (cases_eq x 0) [
    | inl is ↦ (
      0,
      record {
        log_disk = omega arith;
        says = subst (λ (z : ℕ). Says now z new) is says_x;
        first = λ o t.
            let there : Says now y o = subst (λ (z : ℕ). Says now z o) (let l = low in omega arith) t in
            ap (is_first new) (Says-same now y o new there (y_now new s)) ∙ same_before new.meta.epoch new.opened;
      },
      subst (λ (z : ℕ). named_out new.meta.out ≢ Some z) is next.in_array,
    )
    | inr not ↦
        let l = low in
        let y_is : y ≡ 0 = omega arith in
        let x_is : x ≡ 1 = omega arith in (
          0,
          record {
            log_disk = omega arith;
            says = subst (λ (z : ℕ). Says now z new) y_is (y_now new s);
            first = λ o t.
                let there : Says now x o = subst (λ (z : ℕ). Says now z o) (sym x_is) t in
                ap (is_first new) (Says-same now x o new there says_x) ∙ same_before new.meta.epoch new.opened;
          },
          subst (λ (z : ℕ). named_out new.meta.out ≢ Some z) y_is (next.other_in s),
        )
  ]

  by_standing : StandsIn
  by_standing = elim next.latest [
    | inl s ↦ both s
    | inr older ↦ (
      x,
      record {
        log_disk = low;
        says = says_x;
        first = λ o s. greater_before x new o (older o (y_then o s));
      },
      next.in_array,
    )
  ]

  pair : (a c : LogState) → Says now 0 a → Says now 1 c → out_disk i.power new.meta ≢ Some 0 → out_disk i.power new.meta ≢ Some 1 → Pairing a c
  pair a c p q first second = elim (cases_eq x 0) [
    | inl is ↦
        let l = low in
        let y_is : y ≡ 1 = omega arith in
        let a_is = Says-same now x a new (subst (λ (z : ℕ). Says now z a) (sym is) p) says_x in
        let there = y_then c (subst (λ (z : ℕ). Says now z c) (sym y_is) q) in
        elim (next.paired c there (λ o. second (o ∙ ap Some y_is))) [
          | inl e ↦ alike (a_is ∙ sym e)
          | inr ahead ↦ first_ahead (subst (λ (z : LogState). IsAhead z c) (sym a_is) ahead)
        ]
    | inr not ↦
        let l = low in
        let y_is : y ≡ 0 = omega arith in
        let x_is : x ≡ 1 = omega arith in
        let c_is = Says-same now x c new (subst (λ (z : ℕ). Says now z c) (sym x_is) q) says_x in
        let there = y_then a (subst (λ (z : ℕ). Says now z a) (sym y_is) p) in
        elim (next.paired a there (λ o. first (o ∙ ap Some y_is))) [
          | inl e ↦ alike (e ∙ sym c_is)
          | inr ahead ↦ second_ahead (subst (λ (z : LogState). IsAhead z a) (sym c_is) ahead)
        ]
  ]

  log_now : (z : ℕ) → Stands now z new → named_out new.meta.out ≢ Some z → LogOk now z new k
  log_now z s z_in = record {
    stands = s;
    writes = next.writes;
    single = next.single;
    standing_in = z_in;
    fresh_closed = λ d rebuilt fresh l.
        let away : d ≢ x = (λ e. next.in_array (ap named_out fresh.is ∙ ap Some e)) in
        ap is_open (stored_else i x 0 b d 0 (λ is at. absurd (away is))) ∙ next.fresh_closed d rebuilt fresh l;
    targets_spin = next.targets_spin;
    formed = λ w l there not. elim (cases_eq w x) [
      | inl is ↦ (new, subst (λ (q : ℕ). Says now q new) (sym is) says_x)
      | inr apart ↦
          let l_too = low in
          let is : y ≡ w = omega arith in
          let was = next.formed (subst (λ (q : ℕ). IsPresent i q) (sym is) there) (λ o. not (o ∙ ap Some is)) in
          (was.0, subst (λ (q : ℕ). Says now q was.0) is (y_now was.0 was.1))
    ];
    paired = pair;
  }

  content : ContentOk slots now.power now.size (view_of now new) h k
  content =
      let few = few_logged true (stored_block i x) new.meta new.batch next.logged in
      subst (λ (f : Contents). ContentOk slots i.power i.size (view_by new.meta i.power f) h k)
      (sym (contents_over i x 0 b new.batch (λ z q is at past there. absurd (omega arith)))) next.content

  pub IsSoundAt-opened : IsSoundAt slots now h k
  IsSoundAt-opened = record {
    disk = by_standing.0;
    said = new;
    log = log_now by_standing.0 by_standing.1 by_standing.2;
    content = content;
    witnesses = λ z l is. let log_disk = low in next.witnesses z l (ap is_open (sym (stored_else i x 0 b 2 z (λ here at. absurd (omega arith)))) ∙ is);
  }

-- opening the gate, as the image is and with a disk lost
turns_opened : (slots : ℕ) (i : Disks) (h : History) (k lo : ℕ) (down : Option ℕ) (x : ℕ) (new : LogState) → CanOpen slots i x new h k lo down
    → ((e : ℕ) → MayLose i e → IsSoundFrom slots (lose e i) h lo) → MayToggleGate slots i x h lo down
turns_opened slots i h k lo down x new can lost b turned =
    let opened : is_open b ≡ true = elim (cases_Bool (is_open b)) [
      | inl opened ↦ opened
      | inr shut ↦ absurd (turned (shut ∙ sym can.shut))
    ] in
    record {
      whole = record { k = k; low = can.low; high = can.high; sound = IsSoundAt-opened slots i h k x new b can.next opened };
      lost = λ e may. elim (cases_eq x e) [
        | inl is ↦
            let here = can.spare b opened (subst (λ (z : ℕ). MayLose (overwrite i x 0 b) z) (sym is) may) in
            is_sound_forth (lose e i) (written i x 0 b)
            (keeps_others i e (written i x 0 b) (λ z q not. overwritten_else i x 0 b z q (λ at. absurd (not (at ∙ is))))) slots h lo
            (lost e (subst (MayLose i) is here))
        | inr not ↦ record {
          k = k;
          low = can.low;
          high = can.high;
          sound = IsSoundAt-opened slots (lose e i) h k x new b (can.lost b e opened may (λ is. not (sym is))) opened;
        }
      ];
      weak = λ w is. can.weak b w opened is;
    }

pub open_holds : (slots : ℕ) (s : Disks) (h : History) (k lo : ℕ) (down : Option ℕ) (x : ℕ) (b : Block) (new : LogState)
    → ((i : Disks) → IsImage s i → CanOpen slots i x new h k lo down)
    → IsHeld slots s h lo down → IsHeld slots (step (Write x 0 b true) s) h lo down
open_holds slots s h k lo down x b new can held =
    gate_write_holds slots s h lo down x b (λ i e. turns_opened slots i h k lo down x new (can i e) (λ f may. held.lost i f e may)) held
