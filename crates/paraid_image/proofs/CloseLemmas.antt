-- A gate that is closed over what it brought leaves what an image holds.
use Rattle.std.specs.Prelude.{◌≡◌, ◌≢◌, ℕ, ◌<◌, ◌≤◌, ◌⊎◌, ◌==◌, ◌&&◌, ◌||◌, nat_lt, Bool, true, false, not, [], Option, Some, None}
use Rattle.std.proofs.Common.{refl, sym, ◌∙◌, ap, subst, arith, inl, inr, zero, suc}
use Rattle.std.proofs.lemmas.Bool.{cases_Bool, cases_eq}
use Rattle.std.proofs.lemmas.Bool.Decides.{nat_tests}
use Rattle.paraid_base.specs.declared.block.Block.{Block}
use Rattle.paraid_base.specs.History.{History}
use Rattle.paraid_rack.specs.declared.call.Call.TheVariants.{Write}
use Rattle.paraid_rack.specs.Disks.{Disks, IsImage, IsPresent, lose, step}
use Rattle.paraid_record.specs.declared.meta.Meta.{Meta}
use Rattle.paraid_image.specs.Close.{IsLaidBelow}
use Rattle.paraid_image.specs.Content.{view_by, view_of}
use Rattle.paraid_image.specs.Gate.{MayToggleGate}
use Rattle.paraid_image.specs.HeldAt.{IsHeld, IsSoundFrom, MayLose}
use Rattle.paraid_image.specs.Neutral.{overwrite}
use Rattle.paraid_image.specs.Out.{IsMissing, IsWeak, named_out, out_disk}
use Rattle.paraid_image.specs.Out.IsWeak.{out, named}
use Rattle.paraid_image.specs.Sides.{closed_over, LogState, Says, Spells, has_place, is_open, stored_block}
use Rattle.paraid_image.specs.Sound.{ContentOk, IsBatchInPlace, IsFresh, LogOk, Pairing, IsSoundAt}
use Rattle.paraid_image.specs.Sound.Pairing.{alike, first_done, second_done}
use Rattle.paraid_image.specs.Standing.{Contents, Stands, contents, is_first, other_log, stands_before}
use Rattle.paraid_image.proofs.GateLemmas.{gate_write_holds}
use Rattle.paraid_image.proofs.FailedCallLemmas.{keeps_others}
use Rattle.paraid_image.proofs.NeutralLemmas.{IsLogKept, contents_over, overwritten_else, overwritten_here, is_sound_forth, written, says_back, says_forth, stored_else}
use Rattle.paraid_image.proofs.SidesLemmas.{Says-same}
use Rattle.paraid_image.proofs.StandingLemmas.{Stands-same}
use Rattle.paraid_image.proofs.CallLemmas.{out_named, zeroed_closed}

-- what stands says at least so many writes
pub IsHeld-raised : (slots : ℕ) (s : Disks) (h : History) (lo high : ℕ) (down : Option ℕ)
    → ((i : Disks) (x : ℕ) (said : LogState) → IsImage s i → Stands i x said → high ≤ said.meta.writes)
    → ((i : Disks) (d x : ℕ) (said : LogState) → IsImage s i → MayLose i d → Stands (lose d i) x said → high ≤ said.meta.writes)
    → IsHeld slots s h lo down → IsHeld slots s h high down
IsHeld-raised slots s h lo high down whole lost held = record {
  whole = λ i e.
      let was = held.whole i e in
      let at = whole i was.sound.disk was.sound.said e was.sound.log.stands in
      let writes = was.sound.log.writes in
      record { k = was.k; low = omega arith; high = was.high; sound = was.sound };
  lost = λ i d e may.
      let was = held.lost i d e may in
      let at = lost i d was.sound.disk was.sound.said e may was.sound.log.stands in
      let writes = was.sound.log.writes in
      record { k = was.k; low = omega arith; high = was.high; sound = was.sound };
  weak = held.weak;
}

-- a closed side comes before what the open one came before
closed_first : (e f : ℕ) (open_b : Bool) → (nat_lt f e || (e == f && (false || open_b))) ≡ true → (nat_lt f e || (e == f && (true || open_b))) ≡ true
closed_first e f true h = h
closed_first e f false h = grind (arith, nat_tests)

closed_second : (e f : ℕ) (open_b : Bool) → not (nat_lt f e || (e == f && (not open_b || true))) ≡ true → not (nat_lt f e || (e == f && (not open_b || false))) ≡ true
closed_second e f true h = grind (arith, nat_tests)
closed_second e f false h = h

first_shut : (x : ℕ) (said other : LogState) → said.opened ≡ true → stands_before x said other ≡ true → stands_before x (closed_over said.meta) other ≡ true
first_shut zero said other opened h =
    closed_first said.meta.epoch other.meta.epoch other.opened
    (ap (λ (t : Bool). nat_lt other.meta.epoch said.meta.epoch || (said.meta.epoch == other.meta.epoch && (not t || other.opened))) (sym opened) ∙ h)
first_shut (suc x) said other opened h =
    closed_second other.meta.epoch said.meta.epoch other.opened
    (ap (λ (t : Bool). not (nat_lt said.meta.epoch other.meta.epoch || (other.meta.epoch == said.meta.epoch && (not other.opened || t)))) (sym opened) ∙ h)

same_epoch : (n : ℕ) (b : Bool) → (nat_lt n n || (n == n && (true || b))) ≡ true
same_epoch n b = grind (arith, nat_tests)

same_epoch_open : (n : ℕ) → not (nat_lt n n || (n == n && (not true || false))) ≡ true
same_epoch_open n = grind (arith, nat_tests)

-- what the log asks of a meta that stands
record LogFacts (i : Disks) (m : Meta) (k : ℕ) : Type 0 where
  writes : m.writes ≡ k
  single : (d e : ℕ) → IsMissing i.power m d → IsMissing i.power m e → d ≡ e
  fresh_closed : (d rebuilt : ℕ) → IsFresh i.power m d rebuilt → d < 2 → is_open (stored_block i d 0) ≡ false
  formed : (y : ℕ) → y < 2 → IsPresent i y → out_disk i.power m ≢ Some y → (other : LogState) × Says i y other

log_facts : (i : Disks) (z : ℕ) (o : LogState) (k : ℕ) → LogOk i z o k → LogFacts i o.meta k
log_facts i z o k ok = record { writes = ok.writes; single = ok.single; fresh_closed = ok.fresh_closed; formed = ok.formed }

module _ (slots : ℕ) (i : Disks) (h : History) (k x : ℕ) (said : LogState) (b : Block) (laid : IsLaidBelow i x said) (closed : is_open b ≡ false)
    (sound : IsSoundAt slots i h k) where
  abbrev now : Disks
  now = overwrite i x 0 b

  abbrev shut : LogState
  shut = closed_over said.meta

  abbrev y : ℕ
  y = other_log x

  low : x < 2
  low = laid.log_disk

  gate_here : is_open (stored_block now x 0) ≡ false
  unfolding stored_block
  gate_here = elim (cases_Bool (has_place i x 0)) [
    | inl there ↦ rw there (ap is_open (overwritten_here i x 0 b x 0 refl refl) ∙ closed)
    | inr none ↦ rw none zeroed_closed
  ]

  says_x : Says now x shut
  says_x = record {
    present = laid.says.present;
    gate = gate_here;
    log = record {
      meta = subst (λ (c : Block). Spells c said.meta) (sym (stored_else i x 0 b x 1 (λ is at. absurd (omega arith)))) laid.meta;
      empty = refl;
    };
  }

  kept : (z : ℕ) → z ≢ x → IsLogKept i now z
  kept z not = record {
    power = refl;
    gate = ap is_open (stored_else i x 0 b z 0 (λ is at. absurd (not is)));
    meta = λ c. stored_else i x 0 b z 1 (λ is at. absurd (not is));
    rest = λ c o says q lo hi. stored_else i x 0 b z q (λ is at. absurd (not is));
  }

  y_not_x : y ≢ x
  y_not_x = λ e. let l = low in absurd (omega arith)

  y_then : (o : LogState) → Says now y o → Says i y o
  y_then o s = says_back i now y o (kept y y_not_x) s

  y_now : (o : LogState) → Says i y o → Says now y o
  y_now o s = says_forth i now y o (kept y y_not_x) s

  is_said : (o : LogState) → (o ≡ said) ⊎ (o ≡ shut) → o.meta ≡ said.meta
  is_said o (inl e) = ap (λ (z : LogState). z.meta) e
  is_said o (inr e) = ap (λ (z : LogState). z.meta) e

  stood : (sound.said ≡ said) ⊎ (sound.said ≡ shut)
  stood = laid.stands sound.disk sound.said sound.log.stands

  meta_is : sound.said.meta ≡ said.meta
  meta_is = is_said sound.said stood

  facts : LogFacts i said.meta k
  facts = subst (λ (m : Meta). LogFacts i m k) meta_is (log_facts i sound.disk sound.said k sound.log)

  blocks_are : contents now [] ≡ contents i sound.said.batch
  blocks_are =
      contents_over i x 0 b [] (λ z q is at past there. absurd (omega arith))
      ∙ elim stood [
        | inl e ↦ sym laid.laid ∙ ap (λ (z : LogState). contents i z.batch) (sym e)
        | inr e ↦ ap (λ (z : LogState). contents i z.batch) (sym e)
      ]

  content : ContentOk slots now.power now.size (view_of now shut) h k
  content =
      subst (λ (f : Contents). ContentOk slots i.power i.size (view_by said.meta i.power f) h k) (sym blocks_are)
      (subst (λ (m : Meta). ContentOk slots i.power i.size (view_by m i.power (contents i sound.said.batch)) h k) meta_is sound.content)

  x_in : named_out said.meta.out ≢ Some x
  x_in n = laid.in_array (out_named i.power said.meta x n)

  -- the log disk that stands now, which is not out
  abbrev StandsIn : Type 0
  StandsIn = (z : ℕ) × Stands now z shut × (named_out said.meta.out ≢ Some z)

  x_stands : ((o : LogState) → Says i y o → stands_before x shut o ≡ true) → StandsIn
  x_stands first = (x, record { log_disk = low; says = says_x; first = λ o s. first o (y_then o s) }, x_in)

  -- both are closed over the same meta
  both_shut : Says i y shut → named_out said.meta.out ≢ Some y → StandsIn
  both_shut s y_in = elim (cases_eq x 0) [
    | inl is ↦ (
      0,
      record {
        log_disk = omega arith;
        says = subst (λ (z : ℕ). Says now z shut) is says_x;
        first = λ o t.
            let there : Says now y o = subst (λ (z : ℕ). Says now z o) (let l = low in omega arith) t in
            ap (is_first shut) (Says-same now y o shut there (y_now shut s)) ∙ same_epoch said.meta.epoch false;
      },
      subst (λ (z : ℕ). named_out said.meta.out ≢ Some z) is x_in,
    )
    | inr not ↦
        let l = low in
        let y_is : y ≡ 0 = omega arith in
        let x_is : x ≡ 1 = omega arith in (
          0,
          record {
            log_disk = omega arith;
            says = subst (λ (z : ℕ). Says now z shut) y_is (y_now shut s);
            first = λ o t.
                let there : Says now x o = subst (λ (z : ℕ). Says now z o) (sym x_is) t in
                ap (is_first shut) (Says-same now x o shut there says_x) ∙ same_epoch said.meta.epoch false;
          },
          subst (λ (z : ℕ). named_out said.meta.out ≢ Some z) y_is y_in,
        )
  ]

  -- the closed one stands before the open one
  before_open : (z : ℕ) (o : LogState) → z < 2 → o ≡ said → stands_before z shut o ≡ true
  before_open zero o l e = ap (is_first shut) e ∙ same_epoch said.meta.epoch said.opened
  before_open (suc z) o l e =
      ap (λ (s : LogState). not (is_first s shut)) e
      ∙ ap (λ (t : Bool). not (nat_lt said.meta.epoch said.meta.epoch || (said.meta.epoch == said.meta.epoch && (not t || false)))) laid.opened
      ∙ same_epoch_open said.meta.epoch

  by_standing : StandsIn
  by_standing = elim (cases_eq sound.disk x) [
    | inl is ↦
        let here = subst (λ (z : ℕ). Stands i z sound.said) is sound.log.stands in
        let same = Says-same i x sound.said said here.says laid.says in
        x_stands (λ o s. first_shut x said o laid.opened (ap (λ (z : LogState). stands_before x z o) (sym same) ∙ here.first o s))
    | inr not ↦
        let l = low in
        let l_too = sound.log.stands.log_disk in
        let at : sound.disk ≡ y = omega arith in
        let says_y : Says i y sound.said = subst (λ (z : ℕ). Says i z sound.said) at sound.log.stands.says in
        let y_in : named_out said.meta.out ≢ Some y = (λ n. sound.log.standing_in (ap (λ (m : Meta). named_out m.out) meta_is ∙ n ∙ ap Some (sym at))) in
        elim stood [
          | inl e ↦ x_stands (λ o s. before_open x o low (Says-same i y o sound.said s says_y ∙ e))
          | inr e ↦ both_shut (subst (Says i y) e says_y) y_in
        ]
  ]

  -- the other log disk, where it is not out
  other_is : (o : LogState) → Says now y o → out_disk i.power said.meta ≢ Some y → (o ≡ said) ⊎ (o ≡ shut)
  other_is o s not = laid.other o (y_then o s) not

  done : (o : LogState) → o ≡ said → (a : LogState) → a ≡ shut → IsBatchInPlace o a
  done o e a f = record {
    opened = ap (λ (z : LogState). z.opened) e ∙ laid.opened;
    closed = ap (λ (z : LogState). z.opened) f;
    meta = ap (λ (z : LogState). z.meta) e ∙ ap (λ (z : LogState). z.meta) (sym f);
  }

  pair : (a c : LogState) → Says now 0 a → Says now 1 c → out_disk i.power said.meta ≢ Some 0 → out_disk i.power said.meta ≢ Some 1 → Pairing a c
  pair a c p q first second = elim (cases_eq x 0) [
    | inl is ↦
        let l = low in
        let y_is : y ≡ 1 = omega arith in
        let a_is = Says-same now x a shut (subst (λ (z : ℕ). Says now z a) (sym is) p) says_x in
        elim (other_is c (subst (λ (z : ℕ). Says now z c) (sym y_is) q) (λ o. second (o ∙ ap Some y_is))) [
          | inl e ↦ second_done (done c e a a_is)
          | inr e ↦ alike (a_is ∙ sym e)
        ]
    | inr not ↦
        let l = low in
        let y_is : y ≡ 0 = omega arith in
        let x_is : x ≡ 1 = omega arith in
        let c_is = Says-same now x c shut (subst (λ (z : ℕ). Says now z c) (sym x_is) q) says_x in
        elim (other_is a (subst (λ (z : ℕ). Says now z a) (sym y_is) p) (λ o. first (o ∙ ap Some y_is))) [
          | inl e ↦ first_done (done a e c c_is)
          | inr e ↦ alike (e ∙ sym c_is)
        ]
  ]

  log_now : (z : ℕ) → Stands now z shut → named_out said.meta.out ≢ Some z → LogOk now z shut k
  log_now z s z_in = record {
    stands = s;
    writes = facts.writes;
    single = facts.single;
    standing_in = z_in;
    fresh_closed = λ d rebuilt fresh l.
        let away : d ≢ x = (λ e. x_in (ap named_out fresh.is ∙ ap Some e)) in
        ap is_open (stored_else i x 0 b d 0 (λ is at. absurd (away is))) ∙ facts.fresh_closed d rebuilt fresh l;
    targets_spin = λ t names not. let none = names.1 in absurd (omega arith);
    formed = λ w l there not. elim (cases_eq w x) [
      | inl is ↦ (shut, subst (λ (q : ℕ). Says now q shut) (sym is) says_x)
      | inr apart ↦ let was = facts.formed w l there not in (was.0, says_forth i now w was.0 (kept w apart) was.1)
    ];
    paired = pair;
  }

  pub IsSoundAt-closed : IsSoundAt slots now h k
  IsSoundAt-closed = record {
    disk = by_standing.0;
    said = shut;
    log = log_now by_standing.0 by_standing.1 by_standing.2;
    content = content;
    witnesses = λ z l is.
        let log_disk = low in
        ap (out_disk i.power) (sym meta_is) ∙ sound.witnesses z l (ap is_open (sym (stored_else i x 0 b 2 z (λ here at. absurd (omega arith)))) ∙ is);
  }

  -- where no disk is out, every log disk says this meta
  then_meta : (z : ℕ) (o : LogState) → z < 2 → Says i z o → out_disk i.power said.meta ≡ None → o.meta ≡ said.meta
  then_meta z o l s none = elim (cases_eq z x) [
    | inl is ↦ ap (λ (q : LogState). q.meta) (Says-same i x o said (subst (λ (q : ℕ). Says i q o) is s) laid.says)
    | inr not ↦
        let l_too = low in
        let at : z ≡ y = omega arith in
        is_said o (laid.other o (subst (λ (q : ℕ). Says i q o) at s) (λ e. let w : None ≡ Some y = sym none ∙ e in cc))
  ]

  now_meta : (z : ℕ) (o : LogState) → z < 2 → Says now z o → out_disk i.power said.meta ≡ None → o.meta ≡ said.meta
  now_meta z o l s none = elim (cases_eq z x) [
    | inl is ↦ ap (λ (q : LogState). q.meta) (Says-same now x o shut (subst (λ (q : ℕ). Says now q o) is s) says_x)
    | inr not ↦
        let l_too = low in
        let at : z ≡ y = omega arith in
        then_meta y o (omega arith) (y_then o (subst (λ (q : ℕ). Says now q o) at s)) none
  ]

  none_named : (o : LogState) (w : ℕ) → o.meta ≡ said.meta → out_disk i.power said.meta ≡ None → named_out o.meta.out ≡ Some w → ⊥
  none_named o w is none n =
      let out_is = out_named i.power said.meta w (ap (λ (m : Meta). named_out m.out) (sym is) ∙ n) in
      let k : None ≡ Some w = sym none ∙ out_is in
      cc

  pub weak_then : (w : ℕ) → IsWeak now w → IsWeak i w
  weak_then w (out z o s e) =
      let is = (Stands-same now z by_standing.0 o shut s by_standing.1).1 in
      out sound.disk sound.said sound.log.stands
      (ap (out_disk i.power) meta_is ∙ ap (λ (q : LogState). out_disk i.power q.meta) (sym is) ∙ e)
  weak_then w (named z o other s none t n) =
      let is = (Stands-same now z by_standing.0 o shut s by_standing.1).1 in
      let nobody : out_disk i.power said.meta ≡ None = ap (λ (q : LogState). out_disk i.power q.meta) (sym is) ∙ none in
      absurd (none_named other w (now_meta (other_log z) other (let l = s.log_disk in omega arith) t nobody) nobody n)

  pub weak_now : (w : ℕ) → IsWeak i w → IsWeak now w
  weak_now w (out z o s e) =
      let is = is_said o (laid.stands z o s) in
      out by_standing.0 shut by_standing.1 (ap (out_disk i.power) (sym is) ∙ e)
  weak_now w (named z o other s none t n) =
      let is = is_said o (laid.stands z o s) in
      let nobody : out_disk i.power said.meta ≡ None = ap (out_disk i.power) (sym is) ∙ none in
      absurd (none_named other w (then_meta (other_log z) other (let l = s.log_disk in omega arith) t nobody) nobody n)

  pub may_then : (e : ℕ) → MayLose now e → MayLose i e
  may_then e may = record {
    standing = sound.disk;
    said = sound.said;
    stands = sound.log.stands;
    disk =
        let is = (Stands-same now may.standing by_standing.0 may.said shut may.stands by_standing.1).1 in
        subst (λ (m : Meta). e < m.setup.geometry.disks) (ap (λ (q : LogState). q.meta) is ∙ sym meta_is) may.disk;
    present = may.present;
    weak = λ w weak. may.weak w (weak_now w weak);
  }

-- closing the gate, as the image is and with a disk lost
turns_closed : (slots : ℕ) (i : Disks) (h : History) (lo : ℕ) (down : Option ℕ) (x : ℕ) (said : LogState) → IsLaidBelow i x said
    → ((e : ℕ) → MayLose i e → e ≢ x → IsLaidBelow (lose e i) x said) → IsSoundFrom slots i h lo
    → ((e : ℕ) → MayLose i e → IsSoundFrom slots (lose e i) h lo) → ((w : ℕ) → IsWeak i w → down ≡ Some w) → MayToggleGate slots i x h lo down
turns_closed slots i h lo down x said laid laid_lost s lost weak b turned =
    let was_open : is_open (stored_block i x 0) ≡ true = laid.says.gate ∙ laid.opened in
    let closed : is_open b ≡ false = elim (cases_Bool (is_open b)) [
      | inl opened ↦ absurd (turned (opened ∙ sym was_open))
      | inr shut ↦ shut
    ] in
    record {
      whole = record { k = s.k; low = s.low; high = s.high; sound = IsSoundAt-closed slots i h s.k x said b laid closed s.sound };
      lost = λ e may.
          let may_i = may_then slots i h s.k x said b laid closed s.sound e may in
          let l = lost e may_i in
          elim (cases_eq x e) [
            | inl is ↦
                is_sound_forth (lose e i) (written i x 0 b)
                (keeps_others i e (written i x 0 b) (λ z q not. overwritten_else i x 0 b z q (λ at. absurd (not (at ∙ is))))) slots h lo l
            | inr not ↦ record {
              k = l.k;
              low = l.low;
              high = l.high;
              sound = IsSoundAt-closed slots (lose e i) h l.k x said b (laid_lost e may_i (λ is. not (sym is))) closed l.sound;
            }
          ];
      weak = λ w is. weak w (weak_then slots i h s.k x said b laid closed s.sound w is);
    }

pub close_holds : (slots : ℕ) (s : Disks) (h : History) (lo : ℕ) (down : Option ℕ) (x : ℕ) (b : Block) (said : LogState)
    → ((i : Disks) → IsImage s i → IsLaidBelow i x said)
    → ((i : Disks) (e : ℕ) → IsImage s i → MayLose i e → e ≢ x → IsLaidBelow (lose e i) x said)
    → IsHeld slots s h lo down → IsHeld slots (step (Write x 0 b true) s) h lo down
close_holds slots s h lo down x b said laid laid_lost held =
    gate_write_holds slots s h lo down x b (λ i e. turns_closed slots i h lo down x said (laid i e) (λ f may. laid_lost i f e may)
    (held.whole i e) (λ f may. held.lost i f e may) (λ w weak. held.weak i w e weak)) held
