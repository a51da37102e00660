-- The fields of each part of a meta before the rest of the block, and equal metas
use Rattle.std.specs.Prelude.{◌≡◌, ℕ, ◌+◌, ◌-◌, ◌≤◌, ◌<◌, Bool, true, false, if◌then◌else◌, List, [], ◌∷◌, ◌++◌, length, replicate, refl, nat_lt, slice_index, Option, Some, None, IfNone}
use Rattle.std.proofs.Common.{arith, inl, inr, zero, suc, sym, ◌∙◌}
use Rattle.std.proofs.lemmas.List.{append_assoc, append-nil, length-append, length-replicate, get_or_past}
use Rattle.std.proofs.lemmas.List.Sums.{count_by-le-length}
use Rattle.std.proofs.lemmas.Bool.{cases_lt}
use Rattle.std.proofs.Math.Nat.{div-le_self}
use Rattle.paraid_base.specs.Regions.{IsGear}
use Rattle.paraid_base.specs.Soft.{stripe_count}
use Rattle.paraid_base.specs.declared.state.Phase.{Phase}
use Rattle.paraid_base.specs.declared.state.Phase.TheVariants.{Steady, Down, Up}
use Rattle.paraid_base.specs.declared.state.Out.{Out}
use Rattle.paraid_base.specs.declared.state.Out.TheVariants.{No, Gone, Fresh}
use Rattle.paraid_base.proofs.RegionsLemmas.{stripe_count_small}
use Rattle.paraid_ration.proofs.AllowanceLemmas.{allowance-le}
use Rattle.paraid_record.specs.declared.meta.Mode.{Mode}
use Rattle.paraid_record.specs.declared.meta.Mode.TheVariants.{Whole, Access}
use Rattle.paraid_record.specs.Range.{AreWindows, IsInRange, IsOutInRange, IsPhaseInRange, IsSetupInRange, fill_limit}
use Rattle.paraid_base.specs.declared.geometry.Geometry.{Geometry}
use Rattle.paraid_record.specs.declared.meta.Setup.{Setup}
use Rattle.paraid_record.specs.declared.meta.Meta.{Meta}
use Rattle.paraid_record.specs.Codes.{mode_code, phase_code, phase_to, out_code, fresh_code, rebuilt_count, gear_list, window_count, burst_code, period_code}
use Rattle.paraid_record.specs.Spelling.{big_endian, joined_parts, zero_filled, shorts}
use Rattle.paraid_record.specs.Meta.{clock_bytes, count_bytes, energy_bytes, geometry_bytes, growth_bytes, heading_bytes, meta_bytes, policy_bytes, state_bytes}

pub same_some : {A : Type 0} (found : Option A) (a b : A) → found ≡ Some a → found ≡ Some b → a ≡ b
same_some found a b x y = cc

pub not_some : {A : Type 0} (found : Option A) (a : A) → found ≡ Some a → found ≡ None → ⊥
not_some found a x y = cc

-- parts written one after the other behind a text
abbrev pub pushed : List ℕ → List (List ℕ) → List ℕ
pushed text [] = text
pushed text (part ∷ parts) = pushed (text ++ part) parts

pub pushed-parts : (text : List ℕ) (parts : List (List ℕ)) → pushed text parts ≡ text ++ joined_parts parts
pushed-parts text [] = sym (append-nil text)
pushed-parts text (part ∷ parts) = pushed-parts (text ++ part) parts ∙ append_assoc text part (joined_parts parts)

pub length-filled : (size : ℕ) (xs : List ℕ) → length xs ≤ size → length (zero_filled size xs) ≡ size
unfolding zero_filled
length-filled size xs l = omega (arith, length-append xs (replicate (size - length xs) 0), length-replicate {A = ℕ} (size - length xs) 0)

pub geometry-parts : (g : Geometry) (rest : List ℕ) → geometry_bytes g ++ rest
    ≡ big_endian 1 g.disks ++ (big_endian 1 (length (gear_list g)) ++ (zero_filled 8 (gear_list g) ++ (big_endian 4 g.rows ++ rest)))
unfolding geometry_bytes
geometry-parts g rest = simp (append_assoc, append-nil)

pub policy-parts : (s : Setup) (rest : List ℕ) → policy_bytes s ++ rest
    ≡ big_endian 4 s.rate ++ (big_endian 4 s.service ++ (big_endian 1 s.up ++ (big_endian 1 s.down ++ (big_endian 1 (mode_code s.mode)
    ++ (big_endian 1 (window_count s.windows) ++ (shorts s.windows ++ (big_endian 2 s.ration ++ rest)))))))
unfolding policy_bytes
policy-parts s rest = simp (append_assoc, append-nil)

pub clock-parts : (m : Meta) (rest : List ℕ) → clock_bytes m ++ rest ≡ big_endian 8 m.epoch ++ (big_endian 8 m.writes ++ (big_endian 8 m.ticks ++ rest))
unfolding clock_bytes
clock-parts m rest = simp (append_assoc, append-nil)

pub state-parts : (m : Meta) (rest : List ℕ) → state_bytes m ++ rest
    ≡ big_endian 1 m.gear ++ (big_endian 1 (phase_code m.phase) ++ (big_endian 1 (phase_to m.phase)
    ++ (big_endian 1 (out_code m.out) ++ (big_endian 1 (fresh_code m.out) ++ (replicate 3 0 ++ rest)))))
unfolding state_bytes
state-parts m rest = simp (append_assoc, append-nil)

pub count-parts : (m : Meta) (rest : List ℕ) → count_bytes m ++ rest ≡ big_endian 4 m.fill ++ (big_endian 4 (rebuilt_count m.out) ++ (shorts m.spins ++ rest))
unfolding count_bytes
count-parts m rest = simp (append_assoc, append-nil)

pub energy-parts : (s : Setup) (rest : List ℕ) → energy_bytes s ++ rest ≡ big_endian 4 s.spinning_mj ++ (big_endian 4 s.parked_mj ++ (big_endian 4 s.spinup_mj ++ rest))
unfolding energy_bytes
energy-parts s rest = simp (append_assoc, append-nil)

pub growth-parts : (version : ℕ) (s : Setup) (rest : List ℕ) → growth_bytes version s ++ rest ≡ big_endian 2 (burst_code version s) ++ (big_endian 4 (period_code version s) ++ rest)
unfolding growth_bytes
growth-parts version s rest = simp (append_assoc, append-nil)

-- the bytes after the fields of a meta
pub zeros_after : Meta → List ℕ
zeros_after m = replicate (512 - length (heading_bytes m.version ++ (geometry_bytes m.setup.geometry ++ (policy_bytes m.setup
    ++ (clock_bytes m ++ (state_bytes m ++ (count_bytes m ++ (energy_bytes m.setup ++ (growth_bytes m.version m.setup ++ []))))))))) 0

pub meta-parts : (m : Meta) → meta_bytes m
    ≡ heading_bytes m.version ++ (geometry_bytes m.setup.geometry ++ (policy_bytes m.setup
    ++ (clock_bytes m ++ (state_bytes m ++ (count_bytes m ++ (energy_bytes m.setup ++ (growth_bytes m.version m.setup ++ zeros_after m)))))))
unfolding meta_bytes zero_filled zeros_after
meta-parts m = simp append_assoc

pub mode_code_small : (mode : Mode) → mode_code mode < 256
mode_code_small Whole = omega arith
mode_code_small Access = omega arith

pub phase_code_small : (phase : Phase) → phase_code phase < 256
phase_code_small Steady = omega arith
phase_code_small (Down to) = omega arith
phase_code_small (Up to) = omega arith

pub phase_to_small : (g : Geometry) (gear : ℕ) (phase : Phase) → IsPhaseInRange g gear phase → phase_to phase < 256
phase_to_small g gear Steady range = omega arith
phase_to_small g gear (Down to) range = let a = g.gears_high to range.lower_gear in let b = g.disks_high in omega arith
phase_to_small g gear (Up to) range = let a = g.gears_high to range.higher_gear in let b = g.disks_high in omega arith

pub out_code_small : (g : Geometry) (gear : ℕ) (out : Out) → IsOutInRange g gear out → out_code out < 256
out_code_small g gear No range = omega arith
out_code_small g gear (Gone disk) range = let b = g.disks_high in omega arith
out_code_small g gear (Fresh disk rebuilt) range = let b = g.disks_high in omega arith

pub fresh_code_small : (out : Out) → fresh_code out < 256
fresh_code_small No = omega arith
fresh_code_small (Gone disk) = omega arith
fresh_code_small (Fresh disk rebuilt) = omega arith

stripes_small : (g : Geometry) (a : ℕ) → IsGear g a → stripe_count g.disks g.rows a ≤ 400000
stripes_small g a gear = stripe_count_small g.disks g.rows a (g.gears_low a gear) (g.gears_high a gear) g.disks_high g.rows_high

pub rebuilt_small : (g : Geometry) (gear : ℕ) (out : Out) → IsGear g gear → IsOutInRange g gear out → rebuilt_count out < 4294967296
rebuilt_small g gear No member range = omega arith
rebuilt_small g gear (Gone disk) member range = omega arith
rebuilt_small g gear (Fresh disk rebuilt) member range =
    let stripes = stripes_small g gear member in
    let rows = g.rows_high in
    let map = div-le_self (g.rows + 511) 512 in
    let most = range.1 in
    grind arith

pub fill_small : (g : Geometry) (gear fill : ℕ) (phase : Phase) → IsPhaseInRange g gear phase → fill ≤ fill_limit g phase → fill < 4294967296
fill_small g gear fill Steady range l = omega arith
fill_small g gear fill (Down to) range l = let s = stripes_small g to range.lower_gear in omega arith
fill_small g gear fill (Up to) range l = let s = stripes_small g to range.higher_gear in omega arith

pub window_count_small : (windows : List ℕ) → AreWindows windows → window_count windows < 256
window_count_small windows range = let few = count_by-le-length (nat_lt 0) windows in omega (arith, range.three)

pub windows_small : (windows : List ℕ) → AreWindows windows → (k : ℕ) → slice_index windows k < 65536
windows_small windows range zero = omega (arith, range.first)
windows_small windows range (suc zero) = omega (arith, range.second)
windows_small windows range (suc (suc zero)) = omega (arith, range.third)
windows_small windows range (suc (suc (suc k))) =
    let past : slice_index windows (suc (suc (suc k))) ≡ 0 = get_or_past windows (suc (suc (suc k))) 0 (omega (arith, range.three)) in
    omega arith

pub spins_small : (m : Meta) → IsInRange m → (k : ℕ) → slice_index m.spins k < 65536
spins_small m range k = elim (cases_lt k 8) [
  | inl h ↦ let w = (range.spins k h).within in
      let most = allowance-le m.setup.ration m.setup.burst m.setup.period m.ticks in
      let r = range.setup.ration in
      omega arith
  | inr h ↦ let past : slice_index m.spins k ≡ 0 = get_or_past m.spins k 0 (omega (arith, range.eight)) in omega arith
]

pub gear_small : (g : Geometry) (gear : ℕ) → IsGear g gear → gear < 256
gear_small g gear member = let a = g.gears_high gear member in let b = g.disks_high in omega arith

-- the clocks, the state and the counts of a meta, field by field
pub state_left : (m : Meta) (rest : List ℕ) → clock_bytes m ++ (state_bytes m ++ (count_bytes m ++ rest))
    ≡ big_endian 8 m.epoch ++ (big_endian 8 m.writes ++ (big_endian 8 m.ticks ++ (big_endian 1 m.gear ++ (big_endian 1 (phase_code m.phase) ++ (big_endian 1 (phase_to m.phase)
    ++ (big_endian 1 (out_code m.out) ++ (big_endian 1 (fresh_code m.out) ++ (replicate 3 0 ++ (big_endian 4 m.fill ++ (big_endian 4 (rebuilt_count m.out) ++ (shorts m.spins ++ rest)))))))))))
state_left m rest = rw (count-parts m rest, state-parts m _, clock-parts m _) refl

chosen_small : (is : Bool) (x most : ℕ) → x < most → (if is then x else 0) < most
chosen_small true x most l = l
chosen_small false x most l = omega arith

pub burst_code_small : (version : ℕ) (s : Setup) → s.burst < 65536 → burst_code version s < 65536
burst_code_small version s l = chosen_small (nat_lt 1 version) s.burst 65536 l

pub period_code_small : (version : ℕ) (s : Setup) → s.period < 4294967296 → period_code version s < 4294967296
period_code_small version s l = chosen_small (nat_lt 1 version) s.period 4294967296 l

pub burst_small : (s : Setup) → IsSetupInRange s → s.burst < 65536
burst_small s range = let b = range.burst in let r = range.ration in omega arith

pub period_small : (s : Setup) → IsSetupInRange s → s.period < 4294967296
period_small s range = let p = range.period in omega arith

pub figure_small : (x : ℕ) → x ≤ 1048576 → x < 4294967296
figure_small x l = omega arith

pub holds_if_none : {A : Type 0} (o : Option A) (Q : Type 0) → Q → IfNone o Q
holds_if_none (Some x) Q q = tt
holds_if_none None Q q = q
