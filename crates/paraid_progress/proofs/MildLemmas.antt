-- What is read and written between ticks leaves no more to move.
use Rattle.std.proofs.Common.{◌≡◌, ℕ, zero, suc, ◌+◌, ◌<◌, ◌≤◌, Bool, true, false, List, [], ◌∷◌, length, Option, Some, None, refl, sym, ap, ◌∙◌, subst, arith, inl, inr, if◌then◌else◌}
use Rattle.std.specs.Prelude.{◌==◌, ◌&&◌, nat_le, nat_lt, slice_index_or, Contains}
use Rattle.std.proofs.lemmas.Bool.{cases_eq, false≢true}
use Rattle.std.proofs.lemmas.Bool.Decides.{nat_tests}
use Rattle.paraid_base.specs.Cells.{home_disk, home_row, parity_disk}
use Rattle.paraid_base.specs.declared.event.Answer.{Answer}
use Rattle.paraid_base.specs.declared.event.Answer.TheVariants.{Value, NoBlock, Wrote, Flushed, State as IsState, Energy as EnergyUsed, Bad as IsBad}
use Rattle.paraid_base.specs.declared.event.Event.{Event}
use Rattle.paraid_base.specs.declared.event.Event.TheVariants.{Read, Write, Flush, Tick, Up as AskUp, Down as AskDown, Fail, Replace, State as AskState, Energy as AskEnergy, Bad}
use Rattle.paraid_base.specs.declared.state.Out.TheVariants.{No}
use Rattle.paraid_base.specs.History.{History, after_all}
use Rattle.paraid_base.specs.Pairs.{pairs_of}
use Rattle.paraid_base.specs.States.{has_out, named_out, rising_to}
use Rattle.paraid_dirty.specs.Table.{table_with_bit}
use Rattle.paraid_image.specs.Out.{is_out}
use Rattle.paraid_image.specs.Power.{PowerState}
use Rattle.paraid_machine.specs.Machine.{IsEventStep, block_count, blocks_named, first_missing, outcomes, serve, state_status}
use Rattle.paraid_machine.specs.Moves.{all_written, bit_written, block_read, block_written, cell_written, state_with_bit, units_left, with_one_served}
use Rattle.paraid_record.specs.Modes.{is_access}
use Rattle.paraid_record.specs.declared.meta.Setup.{Setup}
use Rattle.paraid_progress.specs.Progress.{is_mild, counts_as_tick}
use Rattle.paraid_progress.proofs.CountLemmas.{count_no_more}
use Rattle.paraid_progress.proofs.UnitLemmas.{KeepsShift, keeps_none, keeps_then}

-- The shift is as it was; while no disk is out no more units of it are left.
pub record IsCalm (setup : Setup) (s new : PowerState) : Type 0 where
  pub keeps : KeepsShift s new
  pub left : s.out ≡ No → units_left setup new ≤ units_left setup s

calm_none : (setup : Setup) (s : PowerState) → IsCalm setup s s
calm_none setup s = record { keeps = keeps_none s; left = λ whole. omega arith }

calm_then : (setup : Setup) (s t u : PowerState) → IsCalm setup s t → IsCalm setup t u → IsCalm setup s u
calm_then setup s t u first second = record {
  keeps = keeps_then s t u first.keeps second.keeps;
  left = λ whole. (let a = first.left whole in let b = second.left (first.keeps.out ∙ whole) in omega (arith, a, b));
}

-- a bit that is changed was set before if it is set now
pick : (q e r d : ℕ) (bit was : Bool) → (e ≡ d → bit ≡ false) → (if q == r && e == d then bit else was) ≡ true → was ≡ true
pick q e r d bit was clear is = elim (cases_eq e d) [
  | inl same ↦ cleared bit (clear same) is
  | inr apart ↦ grind (arith, nat_tests)
]
  where
    cleared : (b : Bool) → b ≡ false → (if q == r && e == d then b else was) ≡ true → was ≡ true
    cleared b none is = grind (arith, nat_tests)

bit_calm : (setup : Setup) (s : PowerState) (r d : ℕ) (bit : Bool) → (s.out ≡ No → s.gear ≤ d → d < rising_to s.phase → bit ≡ false) → IsCalm setup s (state_with_bit s r d bit)
bit_calm setup s r d bit clear = record {
  keeps = record { gear = refl; phase = refl; out = refl };
  left = λ whole.
      (let few =
      count_no_more (table_with_bit s.dirty r d bit) s.dirty setup.geometry.rows s.gear (rising_to s.phase)
      (λ q e low high is. pick q e r d bit (s.dirty q e) (λ same. clear whole (subst (λ (x : ℕ). s.gear ≤ x) same low) (subst (λ (x : ℕ). x < rising_to s.phase) same high)) is) in
      omega (arith, few));
}

cell_calm : (setup : Setup) (s : PowerState) (r d : ℕ) → IsCalm setup s (cell_written r d s)
cell_calm setup s r d = bit_calm setup s r d (bit_written s d (s.dirty r d)) (λ whole low high. by s.gear (rising_to s.phase) (named_out s.out) (s.dirty r d) (ap named_out whole) low high)
  where
    by : (lo hi : ℕ) (out : Option ℕ) (b : Bool) → out ≡ None → lo ≤ d → d < hi → (if nat_lt d lo then false else (if nat_lt d hi then is_out out d && b else true)) ≡ false
    by lo hi None b none low high = grind (arith, nat_tests)
    by lo hi (Some e) b none low high = absurd (some_none none)
      where
        some_none : ◌≡◌ {A = Option ℕ} (Some e) None → ⊥
        some_none k = cc

written_calm : (setup : Setup) (n : ℕ) (blocks : List ℕ) (s : PowerState) → IsCalm setup s (all_written n blocks s)
written_calm setup n [] s = calm_none setup s
written_calm setup n (b ∷ blocks) s =
    let r = home_row n b in
    let one = cell_written r (home_disk n b) s in
    calm_then setup s (block_written n b s) _
    (calm_then setup s one (block_written n b s) (cell_calm setup s r (home_disk n b)) (cell_calm setup one r (parity_disk n r)))
    (written_calm setup n blocks (block_written n b s))

if_calm : (setup : Setup) (s : PowerState) (b : Bool) (t u : PowerState) → IsCalm setup s t → IsCalm setup s u → IsCalm setup s (if b then t else u)
if_calm setup s true t u first second = first
if_calm setup s false t u first second = second

read_calm : (setup : Setup) (b : ℕ) (s : PowerState) → IsCalm setup s (block_read setup b s)
read_calm setup b s =
    let d = home_disk setup.geometry.disks b in
    let r = home_row setup.geometry.disks b in
    let cleaned = state_with_bit s r d false in
    if_calm setup s (is_access setup.mode && nat_le s.gear d && nat_lt d (rising_to s.phase)) (if has_out s.out then s else cleaned) s
    (if_calm setup s (has_out s.out) s cleaned (calm_none setup s) (bit_calm setup s r d false (λ whole low high. refl)))
    (calm_none setup s)

served_calm : (setup : Setup) (s new : PowerState) → IsCalm setup s new → IsCalm setup s (with_one_served new)
served_calm setup s new calm = record {
  keeps = record { gear = calm.keeps.gear; phase = calm.keeps.phase; out = calm.keeps.out };
  left = calm.left;
}

-- the one outcome that there is
pub only : (one it : Answer × PowerState) → Contains (one ∷ []) it → one ≡ it
only one it among = at among.0 among.1 among.2
  where
    at : (k : ℕ) → k < 1 → slice_index_or (one ∷ []) k it ≡ it → one ≡ it
    at zero low is = is
    at (suc k) low is = absurd (omega arith)

quiet_calm : (setup : Setup) (s : PowerState) (it a : Answer × PowerState) → IsCalm setup s a.1 → Contains (a ∷ []) it → IsCalm setup s it.1
quiet_calm setup s it a calm among = subst (λ (x : Answer × PowerState). IsCalm setup s x.1) (only a it among) calm

serve_calm : (setup : Setup) (s : PowerState) (missing : Option ℕ) (f : PowerState → Answer × PowerState) (it : Answer × PowerState) → IsCalm setup s (f s).1 → Contains (serve missing None s f) it → IsCalm setup s it.1
serve_calm setup s None f it calm among = quiet_calm setup s it (f s) calm among
serve_calm setup s (Some b) f it calm among = quiet_calm setup s it (NoBlock b, s) (calm_none setup s) among

-- events between ticks that ask for no shift and change whole disk
pub event_calm : (setup : Setup) (h : History) (used : ℕ) (s : PowerState) (event : Event) (answer : Answer) (new : PowerState) → is_mild event ≡ true → counts_as_tick event ≡ false
    → IsEventStep setup h used s event None answer new → IsCalm setup s new
unfolding outcomes
event_calm setup h used s (Read b) answer new mild calm is =
    serve_calm setup s (first_missing (block_count setup) (b ∷ [])) (λ s. (Value b (after_all h b), with_one_served (block_read setup b s))) (answer, new)
    (served_calm setup s (block_read setup b s) (read_calm setup b s)) is.among
event_calm setup h used s (Write pairs) answer new mild calm is =
    let blocks = blocks_named (pairs_of pairs) in
    serve_calm setup s (first_missing (block_count setup) blocks) (λ s. (Wrote (length h + 1), with_one_served (all_written setup.geometry.disks blocks s))) (answer, new)
    (served_calm setup s (all_written setup.geometry.disks blocks s) (written_calm setup setup.geometry.disks blocks s)) is.among
event_calm setup h used s Flush answer new mild calm is = quiet_calm setup s (answer, new) (Flushed (length h), s) (calm_none setup s) is.among
event_calm setup h used s Tick answer new mild calm is = absurd (false≢true (sym calm))
event_calm setup h used s AskUp answer new mild calm is = absurd (false≢true mild)
event_calm setup h used s AskDown answer new mild calm is = absurd (false≢true mild)
event_calm setup h used s (Fail d) answer new mild calm is = absurd (false≢true mild)
event_calm setup h used s (Replace d) answer new mild calm is = absurd (false≢true mild)
event_calm setup h used s AskState answer new mild calm is = quiet_calm setup s (answer, new) (IsState (state_status setup (length h) s) setup.geometry.disks, s) (calm_none setup s) is.among
event_calm setup h used s AskEnergy answer new mild calm is = quiet_calm setup s (answer, new) (EnergyUsed used, s) (calm_none setup s) is.among
event_calm setup h used s Bad answer new mild calm is = quiet_calm setup s (answer, new) (IsBad, s) (calm_none setup s) is.among
