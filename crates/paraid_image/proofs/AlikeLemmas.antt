-- Blocks that do not exist do not matter: no definition here looks at one.
use Rattle.std.specs.Prelude.{◌≡◌, ℕ, ◌<◌, nat_lt, ◌&&◌, Bool, true, false, Option}
use Rattle.std.proofs.Common.{refl, sym, ◌∙◌, ap, subst, arith}
use Rattle.std.proofs.lemmas.Bool.{false≢true}
use Rattle.std.proofs.lemmas.Bool.Decides.{nat_tests}
use Rattle.paraid_base.specs.declared.block.Block.{Block}
use Rattle.paraid_base.specs.History.{History}
use Rattle.paraid_base.specs.Log.{log_least}
use Rattle.paraid_rack.specs.Alike.{IsAlike}
use Rattle.paraid_rack.specs.Disks.{Disks, IsImage, IsPresent, is_present, lose}
use Rattle.paraid_rack.specs.Trail.{Trail, disks, initial}
use Rattle.paraid_rack.proofs.AlikeLemmas.{HasPlace-same, IsAlike-sym, lose_alike, stopped_alike}
use Rattle.paraid_image.specs.Content.{view_by}
use Rattle.paraid_image.specs.HeldAt.{IsHeldAt, IsHeld, IsSoundFrom, MayLose}
use Rattle.paraid_image.specs.Out.{IsWeak}
use Rattle.paraid_image.specs.Out.IsWeak.{out, named}
use Rattle.paraid_image.specs.Sides.{Batch, LogState, Says, has_place, is_open, stored_block}
use Rattle.paraid_image.specs.Sound.{ContentOk, LogOk, IsSoundAt}
use Rattle.paraid_image.specs.Standing.{Contents, Stands, contents, overlaid_block, other_log}
use Rattle.paraid_image.proofs.HeldLemmas.{IsHeld-image}
use Rattle.paraid_image.proofs.NeutralLemmas.{IsLogKept, past_log, says_back, says_forth, where_there}

place_of : (there : Bool) (p n : ℕ) → (there && nat_lt p n) ≡ true → (there ≡ true) × (p < n)
place_of true p n h = (refl, grind (arith, nat_tests))
place_of false p n h = absurd (false≢true h)

-- the same disks with these blocks and this looseness, and the same blocks where there are any
module _ (j : Disks) (f : ℕ → ℕ → Block) (l : ℕ → ℕ → Bool) (same : (d p : ℕ) → has_place j d p ≡ true → j.block d p ≡ f d p) where
  abbrev before : Disks
  before = record j { block = f; loose = l }

  stored_same : (d p : ℕ) → stored_block j d p ≡ stored_block before d p
  unfolding stored_block
  stored_same d p = where_there (has_place j d p) (j.block d p) (f d p) (same d p)

  contents_now : (batch : Batch) → contents j batch ≡ contents before batch
  unfolding contents
  contents_now batch = λ t d p. past_log (nat_lt p log_least) (has_place j d p) (overlaid_block batch d p (j.block d p)) (overlaid_block batch d p (f d p)) (λ high there. ap (overlaid_block batch d p) (same d p there)) t

  log_kept : (x : ℕ) → IsLogKept before j x
  log_kept x = record {
    power = refl;
    gate = ap is_open (stored_same x 0);
    meta = λ closed. stored_same x 1;
    rest = λ opened said says q low high. stored_same x q;
  }

  says_now : (x : ℕ) (said : LogState) → Says before x said → Says j x said
  says_now x said s = says_forth before j x said (log_kept x) s

  says_then : (x : ℕ) (said : LogState) → Says j x said → Says before x said
  says_then x said s = says_back before j x said (log_kept x) s

  stands_now : (x : ℕ) (said : LogState) → Stands before x said → Stands j x said
  stands_now x said s = record {
    log_disk = s.log_disk;
    says = says_now x said s.says;
    first = λ other q. s.first other (says_then (other_log x) other q);
  }

  weak_now : (w : ℕ) → IsWeak before w → IsWeak j w
  weak_now w (out x said s e) = out x said (stands_now x said s) e
  weak_now w (named x said other s none q e) = named x said other (stands_now x said s) none (says_now (other_log x) other q) e

  log_now : (x : ℕ) (said : LogState) (k : ℕ) → LogOk before x said k → LogOk j x said k
  log_now x said k ok = record {
    stands = stands_now x said ok.stands;
    writes = ok.writes;
    single = ok.single;
    standing_in = ok.standing_in;
    fresh_closed = λ e rebuilt fresh low. ap is_open (stored_same e 0) ∙ ok.fresh_closed e rebuilt fresh low;
    targets_spin = ok.targets_spin;
    formed = λ y low present in_array. let was = ok.formed y low present in_array in (was.0, says_now y was.0 was.1);
    paired = λ a c says_a says_c in_first in_second. ok.paired a c (says_then 0 a says_a) (says_then 1 c says_c) in_first in_second;
  }

  sound_now : (slots : ℕ) (h : History) (k : ℕ) → IsSoundAt slots before h k → IsSoundAt slots j h k
  sound_now slots h k s = record {
    disk = s.disk;
    said = s.said;
    log = log_now s.disk s.said k s.log;
    content = subst (λ (g : Contents). ContentOk slots j.power j.size (view_by s.said.meta j.power g) h k) (sym (contents_now s.said.batch)) s.content;
    witnesses = λ y low opened. s.witnesses y low (ap is_open (sym (stored_same 2 y)) ∙ opened);
  }

-- what holds of disks holds of disks that are alike, if it goes from blocks to blocks
alike_by : (Q : Disks → Type 0) (i j : Disks) → IsAlike i j
    → ((f : ℕ → ℕ → Block) (l : ℕ → ℕ → Bool) → ((d p : ℕ) → has_place j d p ≡ true → j.block d p ≡ f d p) → Q (record j { block = f; loose = l }) → Q j) → Q i → Q j
alike_by Q i j a go q =
    let is : i ≡ record j { block = i.block; loose = i.loose } =
    λ t. record { power = λ d. (sym (a.power d)) t; size = λ d. (sym (a.size d)) t; block = i.block; loose = i.loose } in
    let same : (d p : ℕ) → has_place j d p ≡ true → j.block d p ≡ i.block d p = λ d p there.
    let place = place_of (is_present (j.power d)) p (j.size d) there in
    a.block d p (HasPlace-same i j d p (a.power d) (a.size d) (record { present = place.0; within = place.1 }))
    in
    go i.block i.loose same (subst Q is q)

pub stands_alike : (i j : Disks) (x : ℕ) (said : LogState) → IsAlike i j → Stands i x said → Stands j x said
stands_alike i j x said a s = alike_by (λ k. Stands k x said) i j a (λ f l same q. stands_now j f l same x said q) s

pub weak_alike : (i j : Disks) (w : ℕ) → IsAlike i j → IsWeak i w → IsWeak j w
weak_alike i j w a s = alike_by (λ k. IsWeak k w) i j a (λ f l same q. weak_now j f l same w q) s

pub sound_alike : (slots : ℕ) (i j : Disks) (h : History) (k : ℕ) → IsAlike i j → IsSoundAt slots i h k → IsSoundAt slots j h k
sound_alike slots i j h k a s = alike_by (λ d. IsSoundAt slots d h k) i j a (λ f l same q. sound_now j f l same slots h k q) s

pub contents_alike : (i j : Disks) (batch : Batch) → IsAlike i j → contents j batch ≡ contents i batch
contents_alike i j batch a = alike_by (λ k. contents k batch ≡ contents i batch) i j a (λ f l same q. contents_now j f l same batch ∙ q) refl

is_sound_alike : (slots : ℕ) (i j : Disks) (h : History) (lo : ℕ) → IsAlike i j → IsSoundFrom slots i h lo → IsSoundFrom slots j h lo
is_sound_alike slots i j h lo a s = record { k = s.k; low = s.low; high = s.high; sound = sound_alike slots i j h s.k a s.sound }

may_lose_alike : (i j : Disks) (d : ℕ) → IsAlike i j → MayLose i d → MayLose j d
may_lose_alike i j d a may = record {
  standing = may.standing;
  said = may.said;
  stands = stands_alike i j may.standing may.said a may.stands;
  disk = may.disk;
  present = alike_by (λ k. IsPresent k d) i j a (λ f l same q. q) may.present;
  weak = λ w weak. may.weak w (weak_alike j i w (IsAlike-sym i j a) weak);
}

pub held_alike : (slots : ℕ) (i j : Disks) (h : History) (lo : ℕ) (down : Option ℕ) → IsAlike i j → IsHeld slots i h lo down → IsHeld slots j h lo down
held_alike slots i j h lo down a held =
    let like : (n : Disks) → IsImage j n → (m : Disks) × IsImage i m × IsAlike m n = λ n e. stopped_alike i j n a e in
    record {
      whole = λ n e. let m = like n e in is_sound_alike slots m.0 n h lo m.2 (held.whole m.0 m.1);
      lost = λ n d e may.
          let m = like n e in
          is_sound_alike slots (lose d m.0) (lose d n) h lo (lose_alike d m.0 n m.2) (held.lost m.0 d m.1 (may_lose_alike n m.0 d (IsAlike-sym m.0 n m.2) may));
      weak = λ n w e weak. let m = like n e in held.weak m.0 w m.1 (weak_alike n m.0 w (IsAlike-sym m.0 n m.2) weak);
    }

pub held_start : (slots : ℕ) (t u : Trail) (m : ℕ) (i : Disks) (h : History) (lo : ℕ) (down : Option ℕ) → IsImage (disks t m) i → IsAlike i (initial u.start)
    → IsHeldAt slots t m h lo down → IsHeldAt slots u 0 h lo down
held_start slots t u m i h lo down image a held = held_alike slots i (initial u.start) h lo down a (IsHeld-image slots (disks t m) i h lo down image held)
