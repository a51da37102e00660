-- A write of a place that is not seen leaves what is held.
use Rattle.std.specs.Prelude.{◌≡◌, ◌≢◌, ℕ, ◌<◌, ◌⊎◌, true, false, Option, Some, None}
use Rattle.std.proofs.Common.{refl, sym, ◌∙◌, ap, subst, arith, inl, inr}
use Rattle.std.proofs.lemmas.Bool.{cases_eq, false≢true}
use Rattle.paraid_base.specs.declared.block.Block.{Block}
use Rattle.paraid_base.specs.History.{History}
use Rattle.paraid_rack.specs.declared.call.Call.TheVariants.{Write}
use Rattle.paraid_rack.specs.Disks.{Disks, IsImage, lose, step}
use Rattle.paraid_image.specs.Content.{view_of}
use Rattle.paraid_image.specs.Free.{AreSidesClosed, IsFree, IsUnseen}
use Rattle.paraid_image.specs.Free.IsFree.{dirty_cell, unfilled, gone, row, stripe, map_block}
use Rattle.paraid_image.specs.Free.IsUnseen.{neutral, free}
use Rattle.paraid_image.specs.HeldAt.{IsHeld, IsSoundFrom, MayLose}
use Rattle.paraid_image.specs.Neutral.{overwrite}
use Rattle.paraid_image.specs.Neutral.IsNeutral.{witness}
use Rattle.paraid_image.specs.Out.{IsWeak, first_absent, named_out, or_else, out_disk}
use Rattle.paraid_image.specs.Out.IsWeak.{out}
use Rattle.paraid_image.specs.Sides.{LogState, Says}
use Rattle.paraid_image.specs.Sound.{LogOk, Pairing}
use Rattle.paraid_image.specs.Sound.Pairing.{alike, first_ahead, second_ahead, first_done, second_done}
use Rattle.paraid_image.specs.Standing.{Stands, other_log}
use Rattle.paraid_image.proofs.FreeLemmas.{IsSoundAt-free, free_log, free_past}
use Rattle.paraid_image.proofs.OneDiskLessLemmas.{dirty_still}
use Rattle.paraid_image.proofs.NeutralLemmas.{KeepsLog, is_sound_forth, keeps_neutral, weak_back, written}
use Rattle.paraid_image.proofs.OutLemmas.{first_absent_is}
use Rattle.paraid_image.proofs.SidesLemmas.{Says-same}
use Rattle.paraid_image.proofs.StandingLemmas.{Stands-same}
use Rattle.paraid_image.proofs.CallLemmas.{back_again, keeps_lost, may_lose_back, out_named, says_not_lost, says_of_lost, write_image}

pub pairing_closed : (a b : LogState) → Pairing a b → a.opened ≡ false → b.opened ≡ false → a ≡ b
pairing_closed a b (alike e) p q = e
pairing_closed a b (first_ahead s) p q = absurd (false≢true (sym p ∙ s.opened))
pairing_closed a b (second_ahead s) p q = absurd (false≢true (sym q ∙ s.opened))
pairing_closed a b (first_done s) p q = absurd (false≢true (sym p ∙ s.opened))
pairing_closed a b (second_done s) p q = absurd (false≢true (sym q ∙ s.opened))

-- the log disk that stands is not out
pub standing_not_out : (i : Disks) (x : ℕ) (said : LogState) (k : ℕ) → LogOk i x said k → out_disk i.power said.meta ≢ Some x
standing_not_out i x said k ok = split (named_out said.meta.out) refl
  where
    split : (o : Option ℕ) → named_out said.meta.out ≡ o → or_else o (first_absent i.power said.meta.setup.geometry.disks) ≡ Some x → ⊥
    split (Some e) is same = ok.standing_in (is ∙ same)
    split None is same =
        let absent = (first_absent_is i.power said.meta.setup.geometry.disks x same).1 in
        false≢true (sym absent ∙ ok.stands.says.present)

-- two log disks that are not out and are closed say the same
pub pair_same : (i : Disks) (x y : ℕ) (a b : LogState) (k : ℕ) → LogOk i x a k → Says i y b → y < 2 → y ≢ x
    → out_disk i.power a.meta ≢ Some y → a.opened ≡ false → b.opened ≡ false → b ≡ a
pair_same i x y a b k ok says low apart not p q = elim (cases_eq x 0) [
  | inl first ↦
      let second : y ≡ 1 = omega arith in
      sym (pairing_closed a b (ok.paired a b
      (subst (λ (z : ℕ). Says i z a) first ok.stands.says) (subst (λ (z : ℕ). Says i z b) second says)
      (subst (λ (z : ℕ). out_disk i.power a.meta ≢ Some z) first (standing_not_out i x a k ok))
      (subst (λ (z : ℕ). out_disk i.power a.meta ≢ Some z) second not)) p q)
  | inr later ↦
      let low_too : x < 2 = ok.stands.log_disk in
      let second : x ≡ 1 = omega arith in
      let first : y ≡ 0 = omega arith in
      pairing_closed b a (ok.paired b a
      (subst (λ (z : ℕ). Says i z b) first says) (subst (λ (z : ℕ). Says i z a) second ok.stands.says)
      (subst (λ (z : ℕ). out_disk i.power a.meta ≢ Some z) first not)
      (subst (λ (z : ℕ). out_disk i.power a.meta ≢ Some z) second (standing_not_out i x a k ok))) q p
]

-- with closed gates, and with a disk lost, the same is said
said_of_lost : (i : Disks) (e x y k : ℕ) (said other : LogState) → LogOk i x said k → AreSidesClosed i said → MayLose i e → Stands (lose e i) y other → other ≡ said
said_of_lost i e x y k said other ok gates may t =
    let says = says_of_lost i e y other t.says in
    let apart = says_not_lost i e y other t.says in
    elim (cases_eq y x) [
      | inl is ↦ Says-same i x other said (subst (λ (z : ℕ). Says i z other) is says) ok.stands.says
      | inr not ↦
          let not_out : out_disk i.power said.meta ≢ Some y = (λ o. apart (may.weak y (out x said ok.stands o))) in
          pair_same i x y said other k ok says t.log_disk not not_out
          (gates.closed x said ok.stands.log_disk ok.stands.says ok.standing_in)
          (gates.closed y other t.log_disk says (λ n. not_out (out_named i.power said.meta y n)))
    ]

spare_of_lost : (i : Disks) (e x y : ℕ) (said other : LogState) → Stands i x said → Stands (lose e i) y other → other ≡ said → (e ≢ x) ⊎ Says i (other_log x) said
spare_of_lost i e x y said other s t same = elim (cases_eq e x) [
  | inr not ↦ inl not
  | inl is ↦
      let apart = says_not_lost i e y other t.says in
      let low : x < 2 = s.log_disk in
      let low_too : y < 2 = t.log_disk in
      let at : y ≡ other_log x = omega arith in
      let says = says_of_lost i e y other t.says in
      inr (subst (λ (z : ℕ). Says i z said) at (subst (Says i y) same says))
]

free_lost : (i : Disks) (e d p : ℕ) (said : LogState)
    → ((r q : ℕ) → r < said.meta.setup.geometry.rows → (view_of (lose e i) said).dirty r q ≡ (view_of i said).dirty r q)
    → IsFree (view_of i said) d p → IsFree (view_of (lose e i) said) d p
free_lost i e d p said same (dirty_cell r l low bit at) = dirty_cell r l low (same r d l ∙ bit) at
free_lost i e d p said same (unfilled to t shift past lt at) = unfilled to t shift past lt at
free_lost i e d p said same (gone is far) = gone is far
free_lost i e d p said same (row u r is past lr at) = row u r is past lr at
free_lost i e d p said same (stripe u t is past lt at) = stripe u t is past lt at
free_lost i e d p said same (map_block u t is lt past at) = map_block u t is lt past at

free_sound_lost : (slots : ℕ) (i : Disks) (d p : ℕ) (b : Block) (h : History) (lo e x : ℕ) (said : LogState) → Stands i x said → AreSidesClosed i said
    → IsFree (view_of i said) d p → MayLose i e → IsSoundFrom slots i h lo → IsSoundFrom slots (lose e i) h lo → IsSoundFrom slots (overwrite (lose e i) d p b) h lo
free_sound_lost slots i d p b h lo e x said s gates is may was lost =
    let one = Stands-same i was.sound.disk x was.sound.said said was.sound.log.stands s in
    let ok : LogOk i x said was.k = subst (λ (y : ℕ). LogOk i y said was.k) one.0 (subst (λ (z : LogState). LogOk i was.sound.disk z was.k) one.1 was.sound.log) in
    let t = lost.sound.log.stands in
    let same = said_of_lost i e x lost.sound.disk was.k said lost.sound.said ok gates may t in
    let spare = spare_of_lost i e x lost.sound.disk said lost.sound.said s t same in
    let dirty = dirty_still slots i h was.k e x said was.sound s spare may in
    let free_now = free_lost i e d p said (λ r q l. dirty r q (omega arith)) is in
    record {
      k = lost.k;
      low = lost.low;
      high = lost.high;
      sound = IsSoundAt-free slots (lose e i) d p b h lost.k lost.sound.disk said (subst (Stands (lose e i) lost.sound.disk) same t) free_now lost.sound;
    }

-- what a write of a place that is not seen keeps
record KeepsUnseen (slots : ℕ) (i : Disks) (d p : ℕ) (b : Block) (h : History) (lo : ℕ) : Type 0 where
  log : KeepsLog i (written i d p b)
  sound : IsSoundFrom slots i h lo → IsSoundFrom slots (overwrite i d p b) h lo
  lost : (e : ℕ) → MayLose i e → IsSoundFrom slots i h lo → IsSoundFrom slots (lose e i) h lo → IsSoundFrom slots (lose e (overwrite i d p b)) h lo

keeps_unseen : (slots : ℕ) (i : Disks) (d p : ℕ) (b : Block) (h : History) (lo : ℕ) → IsUnseen i d p → KeepsUnseen slots i d p b h lo
keeps_unseen slots i d p b h lo (neutral is) =
    let keeps = keeps_neutral i d p b is in
    record {
      log = keeps.log;
      sound = λ s. is_sound_forth i (written i d p b) keeps slots h lo s;
      lost = λ e may was s. is_sound_forth (lose e i) (written i d p b) (keeps_lost i e d p b may is) slots h lo s;
    }
keeps_unseen slots i d p b h lo (free x said stands gates is) = record {
  log = free_log i d p b (free_past (view_of i said) d p is);
  sound = λ s. record { k = s.k; low = s.low; high = s.high; sound = IsSoundAt-free slots i d p b h s.k x said stands is s.sound };
  lost = λ e may was s. free_sound_lost slots i d p b h lo e x said stands gates is may was s;
}

pub unseen_write_holds : (slots : ℕ) (s : Disks) (h : History) (lo : ℕ) (down : Option ℕ) (d p : ℕ) (b : Block)
    → ((i : Disks) → IsImage s i → IsUnseen i d p) → IsHeld slots s h lo down → IsHeld slots (step (Write d p b true) s) h lo down
unseen_write_holds slots s h lo down d p b unseen held =
    let before : Disks → Disks = λ (j : Disks). overwrite j d p (s.block d p) in
    let image : (j : Disks) → IsImage (step (Write d p b true) s) j → IsImage s (before j) = λ j e. write_image s d p b j e in
    let is : (j : Disks) → overwrite (before j) d p (j.block d p) ≡ j = λ (j : Disks). back_again j d p (s.block d p) in
    let keeps : (j : Disks) → IsImage (step (Write d p b true) s) j → KeepsUnseen slots (before j) d p (j.block d p) h lo =
    λ j e. keeps_unseen slots (before j) d p (j.block d p) h lo (unseen (before j) (image j e)) in
    record {
      whole = λ j e. subst (λ (k : Disks). IsSoundFrom slots k h lo) (is j) ((keeps j e).sound (held.whole (before j) (image j e)));
      lost = λ j f e may.
          let spare = may_lose_back (before j) (written (before j) d p (j.block d p)) f ((keeps j e).log) (subst (λ (k : Disks). MayLose k f) (sym (is j)) may) in
          subst (λ (k : Disks). IsSoundFrom slots (lose f k) h lo) (is j)
          ((keeps j e).lost f spare (held.whole (before j) (image j e)) (held.lost (before j) f (image j e) spare));
      weak = λ j w e weak. held.weak (before j) w (image j e)
          (weak_back (before j) (written (before j) d p (j.block d p)) ((keeps j e).log) w (subst (λ (k : Disks). IsWeak k w) (sym (is j)) weak));
    }

-- the place of the witness against the disk that is out is not seen
pub witness_holds : (slots : ℕ) (s : Disks) (h : History) (lo : ℕ) (down : Option ℕ) (x : ℕ) (b : Block) → x < 2
    → ((i : Disks) (y : ℕ) (said : LogState) → IsImage s i → Stands i y said → out_disk i.power said.meta ≡ Some x)
    → IsHeld slots s h lo down → IsHeld slots (step (Write 2 x b true) s) h lo down
witness_holds slots s h lo down x b low is_out held =
    unseen_write_holds slots s h lo down 2 x b (λ i e.
    let it = held.whole i e in
    let log = it.sound.log in
    let is = is_out i it.sound.disk it.sound.said e log.stands in
    neutral (witness it.sound.disk it.sound.said log.stands (λ at. standing_not_out i it.sound.disk it.sound.said it.k log (is ∙ ap Some (sym at))) is refl low)) held
