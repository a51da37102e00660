-- Calls that only read or sync leave what is held, whichever of them fail.
use Rattle.std.proofs.Common.{◌≡◌, ◌≢◌, ℕ, ◌<◌, Bool, true, false, List, [], ◌∷◌, Option, Some, None, refl, sym, ◌∙◌, subst, arith, if◌then◌else◌}
use Rattle.std.specs.Prelude.{◌==◌}
use Rattle.std.proofs.lemmas.Bool.{false≢true}
use Rattle.std.proofs.lemmas.Bool.Decides.{nat_tests}
use Rattle.std.proofs.lemmas.Option.{none-some}
use Rattle.paraid_base.specs.History.{History}
use Rattle.paraid_rack.specs.declared.call.Call.{Call}
use Rattle.paraid_rack.specs.declared.call.Call.TheVariants.{Read, Write, Sync, Park, SpinUp, Attach}
use Rattle.paraid_rack.specs.declared.call.Power.{Power}
use Rattle.paraid_rack.specs.declared.call.Power.TheVariants.{Spinning, Absent}
use Rattle.paraid_rack.specs.Disks.{Disks, IsImage, IsPresent, is_present, step, with_at}
use Rattle.paraid_rack.specs.Lawful.{IsLawful, AreLawful}
use Rattle.paraid_rack.proofs.AtomsLemmas.{at_case}
use Rattle.paraid_image.specs.Calls.{disk_of, is_done}
use Rattle.paraid_image.specs.HeldAt.{IsHeld}
use Rattle.paraid_image.specs.Sides.{LogState, Says}
use Rattle.paraid_image.proofs.FailedCallLemmas.{IsHeld-lost, failed_is_loss}
use Rattle.paraid_image.proofs.CallLemmas.{IsHeld-fewer, read_images, sync_images}
use Rattle.paraid_session.specs.Watch.{Down, Each, IsHeldWhileServing, Watch, down_after, nobody, only, several, watch, with_down}

-- a call that reads or syncs a disk of the array
abbrev pub IsGentle : ℕ → Call → Type 0
IsGentle n (Read d p done) = d < n
IsGentle n (Write d p b done) = ⊥
IsGentle n (Sync d done) = d < n
IsGentle n (Park d done) = ⊥
IsGentle n (SpinUp d done) = ⊥
IsGentle n (Attach d size done) = ⊥

abbrev pub AreGentle : ℕ → List Call → Type 0
AreGentle n [] = Unit {0}
AreGentle n (c ∷ cs) = IsGentle n c × AreGentle n cs

-- each log disk says that the array has so many disks
abbrev pub HasDisks : ℕ → Disks → Type 0
HasDisks n s = (i : Disks) (x : ℕ) (said : LogState) → IsImage s i → x < 2 → Says i x said → said.meta.setup.geometry.disks ≡ n

-- no disk was lost yet in these calls; or this one, which is absent; or there are several
pub data IsGoing (slots n : ℕ) (h : History) (lo : ℕ) (s : Disks) (down : Down) : Type 0 where
  before : IsHeldWhileServing slots s h lo down → HasDisks n s → IsGoing slots n h lo s down
  after : (d : ℕ) → down ≡ only d → is_present (s.power d) ≡ false → IsHeld slots s h lo (Some d) → IsGoing slots n h lo s down
  over : down ≡ several → IsGoing slots n h lo s down

beside_map : (slots : ℕ) (s t : Disks) (h : History) (lo : ℕ) (down : Down) → ((lost : Option ℕ) → IsHeld slots s h lo lost → IsHeld slots t h lo lost) → IsHeldWhileServing slots s h lo down → IsHeldWhileServing slots t h lo down
beside_map slots s t h lo nobody f held = f None held
beside_map slots s t h lo (only d) f held = f (Some d) held
beside_map slots s t h lo several f held = tt

-- what holds of a going part holds at its moment
going_held : (slots n : ℕ) (h : History) (lo : ℕ) (s : Disks) (down : Down) → IsGoing slots n h lo s down → IsHeldWhileServing slots s h lo down
going_held slots n h lo s down (before held has) = held
going_held slots n h lo s down (after d is gone held) = subst (λ (x : Down). IsHeldWhileServing slots s h lo x) (sym is) held
going_held slots n h lo s down (over is) = subst (λ (x : Down). IsHeldWhileServing slots s h lo x) (sym is) tt

spins_present : (p : Power) → p ≡ Spinning → is_present p ≡ true
spins_present p is = rw is refl

same_if : (d f : ℕ) → (d == f) ≡ true → d ≡ f
same_if d f e = grind (arith, nat_tests)

some_same : (a b : ℕ) → Some a ≡ Some b → b ≡ a
some_same a b e = cc

-- disk `e` fails, where at most one disk was down
lose_first : (slots n : ℕ) (h : History) (lo : ℕ) (s : Disks) (c : Call) (down : Down) → is_done c ≡ false → disk_of c < n → IsPresent s (disk_of c) → is_present ((step c s).power (disk_of c)) ≡ false
    → IsHeldWhileServing slots s h lo down → HasDisks n s → IsGoing slots n h lo (step c s) (with_down (disk_of c) down)
lose_first slots n h lo s c nobody failed below present gone held has = after (disk_of c) refl gone
    (IsHeld-lost slots s (step c s) h lo None (disk_of c) (failed_is_loss s c failed) present (λ i x said image log says. rw (has i x said image log says) below) (λ i w image weak. absurd (none-some w (held.weak i w image weak))) held)
lose_first slots n h lo s c (only f) failed below present gone held has = either (disk_of c == f) (same_if (disk_of c) f)
  where
    either : (same : Bool) → (same ≡ true → disk_of c ≡ f) → IsGoing slots n h lo (step c s) (if same then only f else several)
    either true is =
        let e : disk_of c ≡ f = is refl in
        after f refl (subst (λ (x : ℕ). is_present ((step c s).power x) ≡ false) e gone)
        (subst (λ (x : ℕ). IsHeld slots (step c s) h lo (Some x)) e
        (IsHeld-lost slots s (step c s) h lo (Some f) (disk_of c) (failed_is_loss s c failed) present (λ i x said image log says. rw (has i x said image log says) below)
        (λ i w image weak. some_same f w (held.weak i w image weak) ∙ sym e) held))
    either false is = over refl
lose_first slots n h lo s c several failed below present gone held has = over refl

-- a second one fails
lose_second : (slots n : ℕ) (h : History) (lo : ℕ) (t : Disks) (e d : ℕ) (down : Down) → down ≡ only d → e ≢ d → IsGoing slots n h lo t (with_down e down)
lose_second slots n h lo t e d down is apart = subst (λ (x : Down). IsGoing slots n h lo t (with_down e x)) (sym is) (either (e == d) (same_if e d))
  where
    either : (same : Bool) → (same ≡ true → e ≡ d) → IsGoing slots n h lo t (if same then only d else several)
    either true same = absurd (apart (same refl))
    either false same = over refl

lose_more : (slots n : ℕ) (h : History) (lo : ℕ) (t : Disks) (e : ℕ) (down : Down) → down ≡ several → IsGoing slots n h lo t (with_down e down)
lose_more slots n h lo t e down is = over (rw is refl)

two_powers : (s : Disks) (e d : ℕ) → s.power e ≡ Spinning → is_present (s.power d) ≡ false → e ≢ d
two_powers s e d spins gone same = false≢true (sym gone ∙ subst (λ (x : ℕ). is_present (s.power x) ≡ true) same (spins_present (s.power e) spins))

-- one disk is absent, and stays so
still_gone : (s : Disks) (e d : ℕ) → is_present (s.power d) ≡ false → is_present (with_at s.power e (s.power e) d) ≡ false
still_gone s e d gone = at_case (λ (p : Power). is_present p ≡ false) s.power e (s.power e) d (λ same. subst (λ (x : ℕ). is_present (s.power x) ≡ false) same gone) (λ other. gone)

gone_now : (s : Disks) (e : ℕ) → is_present (with_at s.power e Absent e) ≡ false
gone_now s e = at_case (λ (p : Power). is_present p ≡ false) s.power e Absent e (λ same. refl) (λ other. absurd (other refl))

read_step : (slots n : ℕ) (h : History) (lo : ℕ) (s : Disks) (down : Down) (e p : ℕ) (done : Bool) → e < n → s.power e ≡ Spinning → IsGoing slots n h lo s down
    → IsGoing slots n h lo (step (Read e p done) s) (down_after down (Read e p done))
unfolding step
read_step slots n h lo s down e p true below spins (before held has) =
    before (beside_map slots s (step (Read e p true) s) h lo down (λ lost is. IsHeld-fewer slots s (step (Read e p true) s) h lo lost (read_images s e p) is) held)
    (λ i x said image log says. has i x said (read_images s e p i image) log says)
read_step slots n h lo s down e p true below spins (after d is gone held) = after d is (still_gone s e d gone) (IsHeld-fewer slots s (step (Read e p true) s) h lo (Some d) (read_images s e p) held)
read_step slots n h lo s down e p true below spins (over is) = over is
read_step slots n h lo s down e p false below spins (before held has) = lose_first slots n h lo s (Read e p false) down refl below (spins_present (s.power e) spins) (gone_now s e) held has
read_step slots n h lo s down e p false below spins (after d is gone held) = lose_second slots n h lo (step (Read e p false) s) e d down is (two_powers s e d spins gone)
read_step slots n h lo s down e p false below spins (over is) = lose_more slots n h lo (step (Read e p false) s) e down is

sync_step : (slots n : ℕ) (h : History) (lo : ℕ) (s : Disks) (down : Down) (e : ℕ) (done : Bool) → e < n → s.power e ≡ Spinning → IsGoing slots n h lo s down
    → IsGoing slots n h lo (step (Sync e done) s) (down_after down (Sync e done))
unfolding step
sync_step slots n h lo s down e true below spins (before held has) =
    before (beside_map slots s (step (Sync e true) s) h lo down (λ lost is. IsHeld-fewer slots s (step (Sync e true) s) h lo lost (sync_images s e) is) held)
    (λ i x said image log says. has i x said (sync_images s e i image) log says)
sync_step slots n h lo s down e true below spins (after d is gone held) = after d is (still_gone s e d gone) (IsHeld-fewer slots s (step (Sync e true) s) h lo (Some d) (sync_images s e) held)
sync_step slots n h lo s down e true below spins (over is) = over is
sync_step slots n h lo s down e false below spins (before held has) = lose_first slots n h lo s (Sync e false) down refl below (spins_present (s.power e) spins) (gone_now s e) held has
sync_step slots n h lo s down e false below spins (after d is gone held) = lose_second slots n h lo (step (Sync e false) s) e d down is (two_powers s e d spins gone)
sync_step slots n h lo s down e false below spins (over is) = lose_more slots n h lo (step (Sync e false) s) e down is

gentle_step : (slots n : ℕ) (h : History) (lo : ℕ) (s : Disks) (down : Down) (c : Call) → IsGentle n c → IsLawful s c → IsGoing slots n h lo s down → IsGoing slots n h lo (step c s) (down_after down c)
gentle_step slots n h lo s down (Read d p done) gentle lawful going = read_step slots n h lo s down d p done gentle lawful going
gentle_step slots n h lo s down (Write d p b done) gentle lawful going = absurd gentle
gentle_step slots n h lo s down (Sync d done) gentle lawful going = sync_step slots n h lo s down d done gentle lawful going
gentle_step slots n h lo s down (Park d done) gentle lawful going = absurd gentle
gentle_step slots n h lo s down (SpinUp d done) gentle lawful going = absurd gentle
gentle_step slots n h lo s down (Attach d size done) gentle lawful going = absurd gentle

-- Each moment of calls that only read or sync leaves the writes, whichever of them fail.
pub gentle_held : (slots n : ℕ) (h : History) (lo : ℕ) (w : Watch) (cs : List Call) → AreGentle n cs → AreLawful w.disks cs → IsGoing slots n h lo w.disks w.down
    → Each (λ (v : Watch). IsHeldWhileServing slots v.disks h lo v.down) (λ (v : Watch) (c : Call). Unit {0}) w cs
gentle_held slots n h lo w [] gentle lawful going = going_held slots n h lo w.disks w.down going
gentle_held slots n h lo w (c ∷ cs) gentle lawful going = (
  going_held slots n h lo w.disks w.down going,
  tt,
  gentle_held slots n h lo (watch c w) cs gentle.1 lawful.1 (gentle_step slots n h lo w.disks w.down c gentle.0 lawful.0 going),
)
