-- A commit without targets, call by call: at each moment each stop leaves the writes.
use Rattle.std.proofs.Common.{◌≡◌, ℕ, ◌+◌, ◌<◌, ◌≤◌, ◌⊎◌, Bool, true, false, List, [], ◌∷◌, ◌++◌, Some, None, refl, sym, ap, ◌∙◌, inl, inr, subst, arith}
use Rattle.std.specs.Prelude.{slice_index}
use Rattle.std.proofs.lemmas.Bool.{cases_eq}
use Rattle.paraid_base.specs.declared.block.Block.{Block}
use Rattle.paraid_base.specs.declared.state.Phase.TheVariants.{Steady}
use Rattle.paraid_base.specs.History.{History}
use Rattle.paraid_base.specs.Log.{log_least}
use Rattle.paraid_rack.specs.declared.call.Call.{Call}
use Rattle.paraid_rack.specs.declared.call.Call.TheVariants.{Write, Sync, SpinUp, Attach}
use Rattle.paraid_rack.specs.declared.call.Power.{Power}
use Rattle.paraid_rack.specs.Disks.{Disks, IsImage, step, with_at}
use Rattle.paraid_rack.specs.Trail.{run}
use Rattle.paraid_rack.proofs.AtomsLemmas.{at_case, with_at_other}
use Rattle.paraid_record.specs.declared.meta.Meta.{Meta}
use Rattle.paraid_record.specs.Meta.{meta_bytes}
use Rattle.paraid_record.specs.Targets.{targets_bytes}
use Rattle.paraid_image.specs.Formatted.{IsFormatted}
use Rattle.paraid_image.specs.HeldAt.{IsHeld}
use Rattle.paraid_image.specs.Looked.{IsLooked}
use Rattle.paraid_image.specs.Looked.IsLooked.{lost, whole}
use Rattle.paraid_image.specs.Sides.{LogState, Says, closed_over, is_open}
use Rattle.paraid_image.specs.Standing.{Stands}
use Rattle.paraid_image.proofs.CallLemmas.{says_of_lost}
use Rattle.paraid_session.specs.Course.{next_meta}
use Rattle.paraid_session.specs.Watch.{Bounds, Each, IsAllowed, HoldsWhileServing, IsWithinBounds, Watch, nobody}
use Rattle.paraid_session.proofs.CalmLemmas.{used_is}
use Rattle.paraid_session.proofs.SidesLemmas.{Fits, IsInOrder, IsLike, lost_sound, meta_of, open_next, says_closed, says_open, strong, whole_sound}
use Rattle.paraid_session.proofs.SidesLemmas.Fits.{old as fits_old, ahead, both, done as fits_done, new as fits_new}

-- disks like these, with nothing loose past the log
pub record IsLogged (s t : Disks) : Type 0 where
  pub like : IsLike s t
  pub synced : (d p : ℕ) → log_least ≤ p → t.loose d p ≡ false
  pub others : (d p : ℕ) → 2 ≤ d → t.loose d p ≡ false

-- a place of the log is written
logged_write : (s t : Disks) (d p : ℕ) (b : Block) → d < 2 → p < log_least → IsLogged s t → IsLogged s (step (Write d p b true) t)
unfolding step
logged_write s t d p b log_disk low l = record {
  like = record {
    power = λ e. at_case (λ (w : Power). w ≡ s.power e) t.power d (t.power d) e (λ is. ap t.power (sym is) ∙ l.like.power e) (λ not. l.like.power e);
    size = λ e. at_case (λ (n : ℕ). n ≡ s.size e) t.size d (t.size d) e (λ is. ap t.size (sym is) ∙ l.like.size e) (λ not. l.like.size e);
    block = λ e q high. at_case (λ (g : ℕ → Block). g q ≡ s.block e q) t.block d (with_at (t.block d) p b) e
        (λ is. with_at_other (t.block d) p b q (λ same. omega (arith, high, low, same)) ∙ ap (λ (k : ℕ). t.block k q) (sym is) ∙ l.like.block e q high) (λ not. l.like.block e q high);
    witness = λ q first. at_case (λ (g : ℕ → Block). g q ≡ s.block 2 q) t.block d (with_at (t.block d) p b) 2 (λ is. absurd (omega (arith, is, log_disk))) (λ not. l.like.witness q first);
  };
  synced = λ e q high. at_case (λ (g : ℕ → Bool). g q ≡ false) t.loose d (with_at (t.loose d) p true) e
      (λ is. with_at_other (t.loose d) p true q (λ same. omega (arith, high, low, same)) ∙ l.synced d q high) (λ not. l.synced e q high);
  others = λ e q high. at_case (λ (g : ℕ → Bool). g q ≡ false) t.loose d (with_at (t.loose d) p true) e
      (λ is. absurd (omega (arith, is, high, log_disk))) (λ not. l.others e q high);
}

logged_sync : (s t : Disks) (d : ℕ) → d < 2 → IsLogged s t → IsLogged s (step (Sync d true) t)
unfolding step
logged_sync s t d log_disk l = record {
  like = record {
    power = λ e. at_case (λ (w : Power). w ≡ s.power e) t.power d (t.power d) e (λ is. ap t.power (sym is) ∙ l.like.power e) (λ not. l.like.power e);
    size = λ e. at_case (λ (n : ℕ). n ≡ s.size e) t.size d (t.size d) e (λ is. ap t.size (sym is) ∙ l.like.size e) (λ not. l.like.size e);
    block = l.like.block;
    witness = l.like.witness;
  };
  synced = λ e q high. at_case (λ (g : ℕ → Bool). g q ≡ false) t.loose d (λ p. false) e (λ is. refl) (λ not. l.synced e q high);
  others = λ e q high. at_case (λ (g : ℕ → Bool). g q ≡ false) t.loose d (λ p. false) e (λ is. refl) (λ not. l.others e q high);
}

image_like : (s t i : Disks) → IsLogged s t → IsImage t i → IsLike s i
image_like s t i l image = record {
  power = λ d. image.power d ∙ l.like.power d;
  size = λ d. image.size d ∙ l.like.size d;
  block = λ d p high. image.block d p (l.synced d p high) ∙ l.like.block d p high;
  witness = λ p low. image.block 2 p (l.others 2 p (omega arith)) ∙ l.like.witness p low;
}

-- the first meta, under a closed gate
pub data Old (m : Meta) (t : Disks) (x : ℕ) : Type 0 where
  old : t.loose x 0 ≡ false → is_open (t.block x 0) ≡ false → t.loose x 1 ≡ false → (t.block x 1).bytes ≡ meta_bytes m → Old m t x

-- the next meta lies beside it, under a gate that a stop may leave open
pub data Opening (m : Meta) (t : Disks) (x : ℕ) : Type 0 where
  opening : t.loose x 1 ≡ false → (t.block x 1).bytes ≡ meta_bytes m → t.loose x 2 ≡ false → (t.block x 2).bytes ≡ meta_bytes (next_meta m)
      → t.loose x 3 ≡ false → (t.block x 3).bytes ≡ targets_bytes [] → Opening m t x

-- the next meta, under an open gate
pub data Opened (m : Meta) (t : Disks) (x : ℕ) : Type 0 where
  opened : t.loose x 0 ≡ false → is_open (t.block x 0) ≡ true → t.loose x 2 ≡ false → (t.block x 2).bytes ≡ meta_bytes (next_meta m)
      → t.loose x 3 ≡ false → (t.block x 3).bytes ≡ targets_bytes [] → Opened m t x

-- the next meta in both places, under a gate that a stop may leave open
pub data Closing (m : Meta) (t : Disks) (x : ℕ) : Type 0 where
  closing : t.loose x 1 ≡ false → (t.block x 1).bytes ≡ meta_bytes (next_meta m) → t.loose x 2 ≡ false → (t.block x 2).bytes ≡ meta_bytes (next_meta m)
      → t.loose x 3 ≡ false → (t.block x 3).bytes ≡ targets_bytes [] → Closing m t x

-- the next meta, under a closed gate
pub data New (m : Meta) (t : Disks) (x : ℕ) : Type 0 where
  new : t.loose x 0 ≡ false → is_open (t.block x 0) ≡ false → t.loose x 1 ≡ false → (t.block x 1).bytes ≡ meta_bytes (next_meta m) → New m t x

-- how far the two log disks are
pub data Sides (m : Meta) (t : Disks) : Type 0 where
  before : Old m t 0 → Old m t 1 → Sides m t
  first_opens : Opening m t 0 → Old m t 1 → Sides m t
  first_open : Opened m t 0 → Old m t 1 → Sides m t
  last_opens : Opened m t 0 → Opening m t 1 → Sides m t
  open_both : Opened m t 0 → Opened m t 1 → Sides m t
  first_closes : Closing m t 0 → Opened m t 1 → Sides m t
  first_closed : New m t 0 → Opened m t 1 → Sides m t
  last_closes : New m t 0 → Closing m t 1 → Sides m t
  after : New m t 0 → New m t 1 → Sides m t

-- a write to the log of a log disk, or a sync of one
pub data IsLogCall : Call → Type 0 where
  writes : (d p : ℕ) (y : Block) → d < 2 → p < log_least → IsLogCall (Write d p y true)
  syncs : (d : ℕ) → d < 2 → IsLogCall (Sync d true)

-- how far the log disks are at each moment of calls on the log
abbrev pub AreStages : Meta → Disks → List Call → Type 0
AreStages m t [] = Sides m t
AreStages m t (call ∷ calls) = Sides m t × IsLogCall call × AreStages m (step call t) calls

open_or_not : (b : Bool) → (b ≡ false) ⊎ (b ≡ true)
open_or_not false = inl refl
open_or_not true = inr refl

module _ (slots : ℕ) (s : Disks) (m : Meta) (h : History) (order : IsInOrder slots s m h) where
  module _ (t : Disks) (l : IsLogged s t) (i : Disks) (image : IsImage t i) where
    like : IsLike s i
    like = image_like s t i l image

    -- what a stop leaves of a block that is not loose
    left : (x p : ℕ) → t.loose x p ≡ false → (bytes : List ℕ) → (t.block x p).bytes ≡ bytes → (i.block x p).bytes ≡ bytes
    left x p firm bytes is = ap (λ (y : Block). y.bytes) (image.block x p firm) ∙ is

    left_gate : (x : ℕ) → t.loose x 0 ≡ false → (b : Bool) → is_open (t.block x 0) ≡ b → is_open (i.block x 0) ≡ b
    left_gate x firm b is = ap is_open (image.block x 0 firm) ∙ is

    says_old : (x : ℕ) → x < 2 → Old m t x → Says i x (closed_over m)
    says_old x low (old a b c d) = says_closed slots s m h order i like x m low order.old_range (left_gate x a false b) (left x 1 c _ d)

    says_opened : (x : ℕ) → x < 2 → Opened m t x → Says i x (open_next m)
    says_opened x low (opened a b c d e f) = says_open slots s m h order i like x low (left_gate x a true b) (left x 2 c _ d) (left x 3 e _ f)

    -- with its gate closed over the next meta a log disk says this alone
    pub says_new : (x : ℕ) → x < 2 → New m t x → Says i x (closed_over (next_meta m))
    says_new x low (new a b c d) = says_closed slots s m h order i like x (next_meta m) low order.new_range (left_gate x a false b) (left x 1 c _ d)

    says_opening : (x : ℕ) → x < 2 → Opening m t x → Says i x (closed_over m) ⊎ Says i x (open_next m)
    says_opening x low (opening a b c d e f) = elim (open_or_not (is_open (i.block x 0))) [
      | inl shut ↦ inl (says_closed slots s m h order i like x m low order.old_range shut (left x 1 a _ b))
      | inr gate ↦ inr (says_open slots s m h order i like x low gate (left x 2 c _ d) (left x 3 e _ f))
    ]

    says_closing : (x : ℕ) → x < 2 → Closing m t x → Says i x (open_next m) ⊎ Says i x (closed_over (next_meta m))
    says_closing x low (closing a b c d e f) = elim (open_or_not (is_open (i.block x 0))) [
      | inl shut ↦ inr (says_closed slots s m h order i like x (next_meta m) low order.new_range shut (left x 1 a _ b))
      | inr gate ↦ inl (says_open slots s m h order i like x low gate (left x 2 c _ d) (left x 3 e _ f))
    ]

    -- what a stop leaves of both fits
    both_say : Sides m t → (a b : LogState) × Says i 0 a × Says i 1 b × Fits m a b
    both_say (before a b) = (_, _, says_old 0 (omega arith) a, says_old 1 (omega arith) b, fits_old refl refl)
    both_say (first_opens a b) = elim (says_opening 0 (omega arith) a) [
      | inl is ↦ (_, _, is, says_old 1 (omega arith) b, fits_old refl refl)
      | inr is ↦ (_, _, is, says_old 1 (omega arith) b, ahead refl refl)
    ]
    both_say (first_open a b) = (_, _, says_opened 0 (omega arith) a, says_old 1 (omega arith) b, ahead refl refl)
    both_say (last_opens a b) = elim (says_opening 1 (omega arith) b) [
      | inl is ↦ (_, _, says_opened 0 (omega arith) a, is, ahead refl refl)
      | inr is ↦ (_, _, says_opened 0 (omega arith) a, is, both refl refl)
    ]
    both_say (open_both a b) = (_, _, says_opened 0 (omega arith) a, says_opened 1 (omega arith) b, both refl refl)
    both_say (first_closes a b) = elim (says_closing 0 (omega arith) a) [
      | inl is ↦ (_, _, is, says_opened 1 (omega arith) b, both refl refl)
      | inr is ↦ (_, _, is, says_opened 1 (omega arith) b, fits_done refl refl)
    ]
    both_say (first_closed a b) = (_, _, says_new 0 (omega arith) a, says_opened 1 (omega arith) b, fits_done refl refl)
    both_say (last_closes a b) = elim (says_closing 1 (omega arith) b) [
      | inl is ↦ (_, _, says_new 0 (omega arith) a, is, fits_done refl refl)
      | inr is ↦ (_, _, says_new 0 (omega arith) a, is, fits_new refl refl)
    ]
    both_say (after a b) = (_, _, says_new 0 (omega arith) a, says_new 1 (omega arith) b, fits_new refl refl)

  -- The two log disks are so far, and nothing else is changed.
  pub record IsStage (t : Disks) : Type 0 where
    pub logged : IsLogged s t
    pub sides : Sides m t

  pub stage_held : (t : Disks) → IsStage t → IsHeld slots t h 0 None
  stage_held t g = record {
    whole = λ i image.
        let both = both_say t g.logged i image g.sides in
        whole_sound slots s m h order i (image_like s t i g.logged image) both.0 both.1 both.2 both.3 both.4;
    lost = λ i d image may.
        let both = both_say t g.logged i image g.sides in
        lost_sound slots s m h order i (image_like s t i g.logged image) both.0 both.1 both.2 both.3 d may both.4;
    weak = λ i w image weak.
        let both = both_say t g.logged i image g.sides in
        absurd (strong slots s m h order i (image_like s t i g.logged image) both.0 both.1 both.2 both.3 both.4 w weak);
  }

  image_meta : (t : Disks) → IsStage t → (i : Disks) (x : ℕ) (z : LogState) → IsImage t i → x < 2 → Says i x z → (z.meta ≡ m) ⊎ (z.meta ≡ next_meta m)
  image_meta t g i x z image low says_z =
      let both = both_say t g.logged i image g.sides in
      meta_of slots s m h order i (image_like s t i g.logged image) both.0 both.1 both.2 both.3 both.4 x z low says_z

  pub stage_meta : (t : Disks) → IsStage t → (i : Disks) (x : ℕ) (z : LogState) → IsLooked t i → Stands i x z → (z.meta ≡ m) ⊎ (z.meta ≡ next_meta m)
  stage_meta t g i x z (whole image) stands = image_meta t g i x z image stands.log_disk stands.says
  stage_meta t g i x z (lost j d image may is) stands = image_meta t g j x z image stands.log_disk (says_of_lost j d x z (subst (λ (y : Disks). Says y x z) (sym is) stands.says))

  module _ (steady : m.phase ≡ Steady) (b : Bounds) (setup : m.setup ≡ b.setup) (epoch : m.epoch + 1 ≤ b.epoch) (ticks : m.ticks ≤ b.ticks) where
    within : (i : Disks) (z : Meta) → (z ≡ m) ⊎ (z ≡ next_meta m) → IsWithinBounds b (λ d. slice_index m.spins d) i z
    within i z (inl is) = subst (IsWithinBounds b (λ d. slice_index m.spins d) i) (sym is) (record {
      same_setup = setup;
      in_time = omega (arith, epoch);
      counted_ticks = ticks;
      recorded = λ d low here not. omega (arith, used_is m i.power d steady);
    })
    within i z (inr is) = subst (IsWithinBounds b (λ d. slice_index m.spins d) i) (sym is) (record {
      same_setup = setup;
      in_time = epoch;
      counted_ticks = ticks;
      recorded = λ d low here not. omega (arith, used_is (next_meta m) i.power d steady);
    })

    stage_kept : (w : Watch) → IsStage w.disks → w.down ≡ nobody → ((d : ℕ) → w.spun d ≡ slice_index m.spins d) → HoldsWhileServing slots h 0 b w
    stage_kept w g down spins = record {
      held = rw down (stage_held w.disks g);
      within = λ serving x i z looked stands.
          let spun : w.spun ≡ (λ d. slice_index m.spins d) = λ u. λ d. spins d u in
          subst (λ (f : ℕ → ℕ). IsWithinBounds b f i z.meta) (sym spun) (within i z.meta (stage_meta w.disks g i x z looked stands));
    }

    allowed_log : (w : Watch) (call : Call) → IsLogCall call → IsLogged s w.disks → w.awaited ≡ None → IsAllowed m.setup None w call
    allowed_log w call (writes d p y low small) l none =
        let n = m.setup.geometry.disks_low in
        record {
          disk = omega (arith, n, low);
          power = l.like.power d ∙ order.spinning d (omega (arith, n, low));
          attach = λ e size ok is. let k : Write d p y true ≡ Attach e size ok = is in cc;
          awaited = λ is. let k : None ≡ Some d = sym none ∙ is in cc;
          serving = λ e ok is. let k : Write d p y true ≡ SpinUp e ok = is in cc;
          recorded = λ e ok is. let k : Write d p y true ≡ SpinUp e ok = is in cc;
        }
    allowed_log w call (syncs d low) l none =
        let n = m.setup.geometry.disks_low in
        record {
          disk = omega (arith, n, low);
          power = l.like.power d ∙ order.spinning d (omega (arith, n, low));
          attach = λ e size ok is. let k : Sync d true ≡ Attach e size ok = is in cc;
          awaited = λ is. let k : None ≡ Some d = sym none ∙ is in cc;
          serving = λ e ok is. let k : Sync d true ≡ SpinUp e ok = is in cc;
          recorded = λ e ok is. let k : Sync d true ≡ SpinUp e ok = is in cc;
        }

    -- the watch over these disks, with nothing down
    abbrev pub watched : Disks → Watch
    watched t = record { disks = t; down = nobody; spun = λ d. slice_index m.spins d; awaited = None }

    -- each moment and each call of calls on the log, by its stages
    pub each_stage : (t : Disks) (calls : List Call) → IsLogged s t → AreStages m t calls → Each (HoldsWhileServing slots h 0 b) (IsAllowed m.setup None) (watched t) calls
    each_stage t [] l sides = stage_kept (watched t) (record { logged = l; sides = sides }) refl (λ d. refl)
    each_stage t (call ∷ calls) l (sides, writes d p y low small, rest) = (
      stage_kept (watched t) (record { logged = l; sides = sides }) refl (λ d. refl),
      allowed_log (watched t) (Write d p y true) (writes d p y low small) l refl,
      each_stage (step (Write d p y true) t) calls (logged_write s t d p y low small l) rest,
    )
    each_stage t (call ∷ calls) l (sides, syncs d low, rest) = (
      stage_kept (watched t) (record { logged = l; sides = sides }) refl (λ d. refl),
      allowed_log (watched t) (Sync d true) (syncs d low) l refl,
      each_stage (step (Sync d true) t) calls (logged_sync s t d low l) rest,
    )

-- after calls on the log nothing else is changed
logged_after : (s : Disks) (m : Meta) (t : Disks) (calls : List Call) → IsLogged s t → AreStages m t calls → IsLogged s (run t calls)
logged_after s m t [] l sides = l
logged_after s m t (call ∷ calls) l (sides, writes d p y low small, rest) = logged_after s m (step (Write d p y true) t) calls (logged_write s t d p y low small l) rest
logged_after s m t (call ∷ calls) l (sides, syncs d low, rest) = logged_after s m (step (Sync d true) t) calls (logged_sync s t d low l) rest

-- how far the log disks are at the end
sides_after : (m : Meta) (t : Disks) (calls : List Call) → AreStages m t calls → Sides m (run t calls)
sides_after m t [] sides = sides
sides_after m t (call ∷ calls) (sides, is, rest) = sides_after m (step call t) calls rest

-- the next meta and an empty list of targets on a log disk
abbrev log_calls : Block → Block → ℕ → List Call
log_calls b1 b3 x = Write x 2 b1 true ∷ Write x 3 b3 true ∷ Sync x true ∷ []

-- a block of the log, kept
abbrev put_calls : Block → ℕ → ℕ → List Call
put_calls b x p = Write x p b true ∷ Sync x true ∷ []

-- the calls of a commit without targets, with the next meta, an empty list and an open and a closed gate
abbrev pub commit_calls : Block → Block → Block → Block → List Call
commit_calls b1 b3 go gc = log_calls b1 b3 0 ++ log_calls b1 b3 1 ++ put_calls go 0 0 ++ put_calls go 1 0 ++ put_calls b1 0 1 ++ put_calls b1 1 1 ++ put_calls gc 0 0 ++ put_calls gc 1 0

zero_low : 0 < 2
zero_low = omega arith

one_low : 1 < 2
one_low = omega arith

module _ (slots : ℕ) (s : Disks) (m : Meta) (h : History) (order : IsInOrder slots s m h) (f : IsFormatted slots s m)
    (b1 b3 go gc : Block) (meta_is : b1.bytes ≡ meta_bytes (next_meta m)) (list_is : b3.bytes ≡ targets_bytes []) (open_is : is_open go ≡ true) (closed_is : is_open gc ≡ false) where
  -- the disks after the commit
  abbrev pub committed : Disks
  committed = run s (commit_calls b1 b3 go gc)

  pub logged_first : IsLogged s s
  logged_first = record { like = record { power = λ d. refl; size = λ d. refl; block = λ d p high. refl; witness = λ p low. refl }; synced = λ d p high. f.synced d p; others = λ d p high. f.synced d p }

  -- the stages of the commit, and what each call is
  pub stages : AreStages m s (commit_calls b1 b3 go gc)
  unfolding step with_at
  stages = (
    before (old (f.synced 0 0) (f.closed 0 zero_low) (f.synced 0 1) (f.meta 0 zero_low)) (old (f.synced 1 0) (f.closed 1 one_low) (f.synced 1 1) (f.meta 1 one_low)),
    writes 0 _ _ zero_low (omega arith),
    (
      before (old (f.synced 0 0) (f.closed 0 zero_low) (f.synced 0 1) (f.meta 0 zero_low)) (old (f.synced 1 0) (f.closed 1 one_low) (f.synced 1 1) (f.meta 1 one_low)),
      writes 0 _ _ zero_low (omega arith),
      (
        before (old (f.synced 0 0) (f.closed 0 zero_low) (f.synced 0 1) (f.meta 0 zero_low)) (old (f.synced 1 0) (f.closed 1 one_low) (f.synced 1 1) (f.meta 1 one_low)),
        syncs 0 zero_low,
        (
          before (old refl (f.closed 0 zero_low) refl (f.meta 0 zero_low)) (old (f.synced 1 0) (f.closed 1 one_low) (f.synced 1 1) (f.meta 1 one_low)),
          writes 1 _ _ one_low (omega arith),
          (
            before (old refl (f.closed 0 zero_low) refl (f.meta 0 zero_low)) (old (f.synced 1 0) (f.closed 1 one_low) (f.synced 1 1) (f.meta 1 one_low)),
            writes 1 _ _ one_low (omega arith),
            (
              before (old refl (f.closed 0 zero_low) refl (f.meta 0 zero_low)) (old (f.synced 1 0) (f.closed 1 one_low) (f.synced 1 1) (f.meta 1 one_low)),
              syncs 1 one_low,
              (
                before (old refl (f.closed 0 zero_low) refl (f.meta 0 zero_low)) (old refl (f.closed 1 one_low) refl (f.meta 1 one_low)),
                writes 0 _ _ zero_low (omega arith),
                (
                  first_opens (opening refl (f.meta 0 zero_low) refl meta_is refl list_is) (old refl (f.closed 1 one_low) refl (f.meta 1 one_low)),
                  syncs 0 zero_low,
                  (
                    first_open (opened refl open_is refl meta_is refl list_is) (old refl (f.closed 1 one_low) refl (f.meta 1 one_low)),
                    writes 1 _ _ one_low (omega arith),
                    (
                      last_opens (opened refl open_is refl meta_is refl list_is) (opening refl (f.meta 1 one_low) refl meta_is refl list_is),
                      syncs 1 one_low,
                      (
                        open_both (opened refl open_is refl meta_is refl list_is) (opened refl open_is refl meta_is refl list_is),
                        writes 0 _ _ zero_low (omega arith),
                        (
                          open_both (opened refl open_is refl meta_is refl list_is) (opened refl open_is refl meta_is refl list_is),
                          syncs 0 zero_low,
                          (
                            open_both (opened refl open_is refl meta_is refl list_is) (opened refl open_is refl meta_is refl list_is),
                            writes 1 _ _ one_low (omega arith),
                            (
                              open_both (opened refl open_is refl meta_is refl list_is) (opened refl open_is refl meta_is refl list_is),
                              syncs 1 one_low,
                              (
                                open_both (opened refl open_is refl meta_is refl list_is) (opened refl open_is refl meta_is refl list_is),
                                writes 0 _ _ zero_low (omega arith),
                                (
                                  first_closes (closing refl meta_is refl meta_is refl list_is) (opened refl open_is refl meta_is refl list_is),
                                  syncs 0 zero_low,
                                  (
                                    first_closed (new refl closed_is refl meta_is) (opened refl open_is refl meta_is refl list_is),
                                    writes 1 _ _ one_low (omega arith),
                                    (
                                      last_closes (new refl closed_is refl meta_is) (closing refl meta_is refl meta_is refl list_is),
                                      syncs 1 one_low,
                                      after (new refl closed_is refl meta_is) (new refl closed_is refl meta_is),
                                    ),
                                  ),
                                ),
                              ),
                            ),
                          ),
                        ),
                      ),
                    ),
                  ),
                ),
              ),
            ),
          ),
        ),
      ),
    ),
  )

  pub logged_last : IsLogged s committed
  logged_last = logged_after s m s (commit_calls b1 b3 go gc) logged_first stages

  pub stage_last : IsStage slots s m h order committed
  stage_last = record { logged = logged_last; sides = sides_after m s (commit_calls b1 b3 go gc) stages }

  pub new_first : New m committed 0
  unfolding step with_at
  new_first = new refl closed_is refl meta_is

  pub new_last : New m committed 1
  unfolding step with_at
  new_last = new refl closed_is refl meta_is

  synced_first : (p : ℕ) → committed.loose 0 p ≡ false
  unfolding step with_at
  synced_first p = refl

  synced_last : (p : ℕ) → committed.loose 1 p ≡ false
  unfolding step with_at
  synced_last p = refl

  -- nothing is loose after the commit
  pub all_synced : (d p : ℕ) → committed.loose d p ≡ false
  all_synced d p = elim (cases_eq d 0) [
    | inl zero_is ↦ ap (λ (e : ℕ). committed.loose e p) zero_is ∙ synced_first p
    | inr apart ↦ elim (cases_eq d 1) [
      | inl one_is ↦ ap (λ (e : ℕ). committed.loose e p) one_is ∙ synced_last p
      | inr other ↦ logged_last.others d p (omega (arith, apart, other))
    ]
  ]
