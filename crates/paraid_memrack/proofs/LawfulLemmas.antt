-- What a rack in memory tells stays lawful.
use Rattle.std.proofs.Common.{◌≡◌, ℕ, Bool, true, false, List, [], ◌∷◌, Option, Some, refl, sym, ◌∙◌, ap, subst}
use Rattle.paraid_rack.specs.declared.call.Call.{Call}
use Rattle.paraid_rack.specs.Disks.{Disks}
use Rattle.paraid_rack.specs.Lawful.{IsLawful, AreLawful}
use Rattle.paraid_rack.specs.Trail.{Trail, initial, now}
use Rattle.paraid_rack.proofs.TrailsLemmas.{AreLawful-append}
use Rattle.paraid_memrack.specs.Slots.{FullSlot}
use Rattle.paraid_memrack.specs.Tells.{told_after, IsSlotOf}
use Rattle.paraid_memrack.specs.ToldLawful.{AreToldLawful}
use Rattle.paraid_memrack.proofs.NoteLemmas.{grows_told, some_same}

-- after one more call
pub lawful_after : {old new : Option Trail} (more : Bool) (c : Call) → new ≡ told_after more old c → AreToldLawful old → ((t : Trail) → old ≡ Some t → IsLawful (now t) c) → AreToldLawful new
lawful_after {old} {new} more c is was here t tells =
    let g = grows_told old new more c is t tells in
    subst (λ (u : Trail). AreLawful (initial u.start) u.calls) (sym g.2) (AreLawful-append (initial g.0.start) g.0.calls (c ∷ []) (was g.0 g.1) (here g.0 g.1, tt))

-- before any call
pub lawful_untouched : {told : Option Trail} (t : Trail) → told ≡ Some t → t.calls ≡ [] → AreToldLawful told
lawful_untouched t is none u tells =
    let same = some_same (sym is ∙ tells) in
    subst (λ (l : List Call). AreLawful (initial u.start) l) (sym (ap (λ (x : Trail). x.calls) (sym same) ∙ none)) tt

-- a disk of which nothing is unsynced has no loose block
pub none_loose : (s : Disks) (d : ℕ) (v : FullSlot) → IsSlotOf s d v → v.unsynced ≡ false → (p : ℕ) → s.loose d p ≡ false
none_loose s d v h synced p = by_case (s.loose d p) (h.loose p)
  where
    by_case : (b : Bool) → (b ≡ true → v.unsynced ≡ true) → b ≡ false
    by_case true bad = let z : false ≡ true = sym synced ∙ bad refl in absurd cc
    by_case false bad = refl
