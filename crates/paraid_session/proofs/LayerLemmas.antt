-- From what the layers below say of the disks to what a session says of its calls.
use Rattle.std.proofs.Common.{◌≡◌, ℕ, ◌<◌, ◌⊎◌, Bool, true, false, List, [], ◌∷◌, Option, Some, None, refl, sym, ap, inl, inr, subst, arith, if◌then◌else◌, zero, suc, take, ◌++◌}
use Rattle.std.specs.Prelude.{◌==◌}
use Rattle.std.proofs.lemmas.Bool.{false≢true}
use Rattle.std.proofs.lemmas.Bool.Decides.{nat_tests}
use Rattle.paraid_base.specs.History.{History}
use Rattle.paraid_rack.specs.declared.call.Call.{Call}
use Rattle.paraid_rack.specs.Disks.{Disks, is_present, step}
use Rattle.paraid_rack.specs.Lawful.{IsLawful, AreLawful}
use Rattle.paraid_rack.specs.Told.{Through}
use Rattle.paraid_rack.specs.Trail.{run}
use Rattle.paraid_image.specs.Calls.{disk_of, is_done}
use Rattle.paraid_image.specs.HeldAt.{IsHeld}
pub use Rattle.paraid_image.proofs.LostLemmas.{absent_before, absent_failed, fails_first, first_fails, only_lost}
use Rattle.paraid_session.specs.Watch.{Down, Each, IsAmongDown, IsHeldWhileServing, Watch, down_after, nobody, only, several, watch, watch_all, with_down}

-- disk `d` of the array is absent, or it is the one that is out or is taken out
pub record IsMissingBeside (n : ℕ) (out : Option ℕ) (s : Disks) (d : ℕ) : Type 0 where
  pub disk : d < n
  pub is : (is_present (s.power d) ≡ false) ⊎ (out ≡ Some d)

-- what the layers say of one moment, by the disks alone: where one disk at most is missing, each
-- stop leaves the writes
pub record IsHeldMissing (slots n : ℕ) (out : Option ℕ) (h : History) (lo : ℕ) (s : Disks) : Type 0 where
  pub held : (down : Option ℕ) → ((d : ℕ) → IsMissingBeside n out s d → down ≡ Some d) → IsHeld slots s h lo down

-- a missing disk is down
abbrev pub Covers : ℕ → Option ℕ → Disks → Down → Type 0
Covers n out s down = (d : ℕ) → IsMissingBeside n out s d → IsAmongDown down d

pub held_beside : (slots n : ℕ) (out : Option ℕ) (h : History) (lo : ℕ) (s : Disks) (down : Down) → IsHeldMissing slots n out h lo s → Covers n out s down → IsHeldWhileServing slots s h lo down
held_beside slots n out h lo s nobody m covers = m.held None (λ d is. absurd (covers d is))
held_beside slots n out h lo s (only e) m covers = m.held (Some e) (λ d is. ap (λ (x : ℕ). Some x) (sym (covers d is)))
held_beside slots n out h lo s several m covers = tt

in_with_by : (e f d : ℕ) (same : Bool) → d ≡ f → IsAmongDown (if same then only f else several) d
in_with_by e f d true is = is
in_with_by e f d false is = tt

in_with : (e : ℕ) (down : Down) (d : ℕ) → IsAmongDown down d → IsAmongDown (with_down e down) d
in_with e nobody d is = absurd is
in_with e (only f) d is = in_with_by e f d (e == f) is
in_with e several d is = tt

in_with_self_by : (d f : ℕ) (same : Bool) → (same ≡ true → d ≡ f) → IsAmongDown (if same then only f else several) d
in_with_self_by d f true is = is refl
in_with_self_by d f false is = tt

same_if : (d f : ℕ) → (d == f) ≡ true → d ≡ f
same_if d f e = grind (arith, nat_tests)

in_with_self : (d : ℕ) (down : Down) → IsAmongDown (with_down d down) d
in_with_self d nobody = refl
in_with_self d (only f) = in_with_self_by d f (d == f) (same_if d f)
in_with_self d several = tt

after_call : (done : Bool) (e : ℕ) (down : Down) (d : ℕ) → IsAmongDown down d ⊎ ((done ≡ false) × (d ≡ e)) → IsAmongDown (if done then down else with_down e down) d
after_call true e down d is = elim is [ inl before ↦ before | inr failed ↦ absurd (false≢true (sym failed.0)) ]
after_call false e down d is = elim is [
  | inl before ↦ in_with e down d before
  | inr failed ↦ subst (λ (x : ℕ). IsAmongDown (with_down x down) d) failed.1 (in_with_self d down)
]

covers_step : (n : ℕ) (out : Option ℕ) (s : Disks) (down : Down) (c : Call) → Covers n out s down → Covers n out (step c s) (down_after down c)
covers_step n out s down c covers d missing = after_call (is_done c) (disk_of c) down d (elim missing.is [
  | inl gone ↦ elim (absent_before s c d gone) [
    | inl before ↦ inl (covers d (record { disk = missing.disk; is = inl before }))
    | inr failed ↦ inr failed
  ]
  | inr named ↦ inl (covers d (record { disk = missing.disk; is = inr named }))
])

-- What the layers say of each moment by the disks alone is what a session says of it.
pub each_held : (slots n : ℕ) (out : Option ℕ) (h : History) (lo : ℕ) (w : Watch) (cs : List Call) → Through (IsHeldMissing slots n out h lo) w.disks cs → Covers n out w.disks w.down
    → Each (λ (v : Watch). IsHeldWhileServing slots v.disks h lo v.down) (λ (v : Watch) (c : Call). Unit {0}) w cs
each_held slots n out h lo w [] through covers = held_beside slots n out h lo w.disks w.down through covers
each_held slots n out h lo w (c ∷ cs) through covers = (
  held_beside slots n out h lo w.disks w.down through.0 covers,
  tt,
  each_held slots n out h lo (watch c w) cs through.1 (covers_step n out w.disks w.down c covers),
)

pub each_lawful : (w : Watch) (cs : List Call) → AreLawful w.disks cs → Each (λ (v : Watch). Unit {0}) (λ (v : Watch) (c : Call). IsLawful v.disks c) w cs
each_lawful w [] lawful = tt
each_lawful w (c ∷ cs) lawful = (tt, lawful.0, each_lawful (watch c w) cs lawful.1)

-- two things hold of each moment and call
pub each_both : (P Q : Watch → Type 0) (A B : Watch → Call → Type 0) (w : Watch) (cs : List Call) → Each P A w cs → Each Q B w cs → Each (λ (v : Watch). P v × Q v) (λ (v : Watch) (c : Call). A v c × B v c) w cs
each_both P Q A B w [] first second = (first, second)
each_both P Q A B w (c ∷ cs) first second = ((first.0, second.0), (first.1, second.1), each_both P Q A B (watch c w) cs first.2 second.2)

pub each_map : (P Q : Watch → Type 0) (A B : Watch → Call → Type 0) → ((v : Watch) → P v → Q v) → ((v : Watch) (c : Call) → A v c → B v c) → (w : Watch) (cs : List Call) → Each P A w cs → Each Q B w cs
each_map P Q A B f g w [] each = f w each
each_map P Q A B f g w (c ∷ cs) each = (f w each.0, g w c each.1, each_map P Q A B f g (watch c w) cs each.2)

-- What holds at each moment of some calls, by the number of the moment.
pub through_of : (P : Disks → Type 0) (s : Disks) (cs : List Call) → ((k : ℕ) → P (run s (take k cs))) → Through P s cs
through_of P s [] each = each zero
through_of P s (c ∷ cs) each = (each zero, through_of P (step c s) cs (λ k. each (suc k)))

-- A watch at each moment: what holds of each holds after a first part of the calls.
pub each_at : (P : Watch → Type 0) (Allowed : Watch → Call → Type 0) (w : Watch) (done rest : List Call) → Each P Allowed w (done ++ rest) → P (watch_all done w)
each_at P Allowed w [] [] each = each
each_at P Allowed w [] (c ∷ rest) each = each.0
each_at P Allowed w (c ∷ done) rest each = each_at P Allowed (watch c w) done rest each.2
