-- The calls of a mount after an interrupted commit was ended leave all blocks past the log.
use Rattle.std.specs.Prelude.{◌≡◌, ℕ, ◌<◌, ◌≤◌, ◌⊎◌, Bool, List, [], ◌∷◌, ◌++◌, Option, Some, None, IsSome}
use Rattle.std.proofs.Common.{refl, sym, ◌∙◌, ap, subst, arith, inl, inr}
use Rattle.std.proofs.lemmas.Bool.{cases_eq}
use Rattle.paraid_base.specs.declared.block.Block.{Block}
use Rattle.paraid_base.specs.declared.geometry.Geometry.{Geometry}
use Rattle.paraid_base.specs.Log.{log_least}
use Rattle.paraid_base.specs.Regions.{map_place_of}
use Rattle.paraid_rack.specs.declared.call.Call.{Call}
use Rattle.paraid_rack.specs.declared.call.Call.TheVariants.{Read, Write, Sync, Park, SpinUp, Attach}
use Rattle.paraid_rack.specs.declared.call.Power.TheVariants.{Absent}
use Rattle.paraid_rack.specs.Disks.{Disks, step}
use Rattle.paraid_rack.specs.Slots.{Slot}
use Rattle.paraid_rack.specs.Told.{Ran}
use Rattle.paraid_rack.specs.Trail.{Trail, now, run}
use Rattle.paraid_rack.proofs.AtomsLemmas.{write_block_other}
use Rattle.paraid_rack.proofs.TrailsLemmas.{Ran-then, now-extend}
use Rattle.paraid_record.specs.declared.meta.Meta.{Meta}
use Rattle.paraid_image.specs.Out.{or_else}
use Rattle.paraid_image.specs.Spot.{map_disk}
use Rattle.paraid_image.specs.Standing.{Contents}
use Rattle.paraid_txn.specs.Uses.{EachCall}
use Rattle.paraid_txn.proofs.CommitPartLemmas.{ran_milder}
use Rattle.paraid_view.specs.Reads.{ShowsContents}
use Rattle.paraid_recover.specs.Map.{HasMap, KeepsFar, ShowsMap}
use Rattle.paraid_recover.specs.Powers.{IsPowerCall}
use Rattle.paraid_recover.specs.HeardSides.{ReadsLogs}
use Rattle.paraid_recover.specs.Quiet.{IsInLog, IsReadOrSync, WritesOnlyLogs}
use Rattle.paraid_recover.proofs.MapEndLemmas.{bit_same, map_disk_zero}

abbrev pub IsFar : (Call → Type 0) → Type 0
IsFar uses = (c : Call) (s : Disks) → uses c → (d p : ℕ) → log_least ≤ p → (step c s).block d p ≡ s.block d p

pub log_far : (n : ℕ) → IsFar (IsInLog n)
unfolding step
log_far n (Read e q done) s uses d p far = refl
log_far n (Write e q b done) s uses d p far = write_block_other s e q b done d p (λ same at. let low = uses.1 in absurd (omega arith))
log_far n (Sync e done) s uses d p far = refl
log_far n (Park e done) s uses d p far = absurd uses
log_far n (SpinUp e done) s uses d p far = absurd uses
log_far n (Attach e size done) s uses d p far = absurd uses

pub quiet_far : (n : ℕ) → IsFar (IsReadOrSync n)
unfolding step
quiet_far n (Read e q done) s uses d p far = refl
quiet_far n (Write e q b done) s uses d p far = absurd uses
quiet_far n (Sync e done) s uses d p far = refl
quiet_far n (Park e done) s uses d p far = absurd uses
quiet_far n (SpinUp e done) s uses d p far = absurd uses
quiet_far n (Attach e size done) s uses d p far = absurd uses

pub logs_far : IsFar WritesOnlyLogs
unfolding step
logs_far (Read e q done) s uses d p far = refl
logs_far (Write e q b done) s uses d p far = write_block_other s e q b done d p (λ same at. let low : q < log_least = uses in absurd (omega arith))
logs_far (Sync e done) s uses d p far = refl
logs_far (Park e done) s uses d p far = absurd uses
logs_far (SpinUp e done) s uses d p far = absurd uses
logs_far (Attach e size done) s uses d p far = absurd uses

pub reads_far : IsFar ReadsLogs
unfolding step
reads_far (Read e q done) s uses d p far = refl
reads_far (Write e q b done) s uses d p far = absurd uses
reads_far (Sync e done) s uses d p far = absurd uses
reads_far (Park e done) s uses d p far = absurd uses
reads_far (SpinUp e done) s uses d p far = absurd uses
reads_far (Attach e size done) s uses d p far = absurd uses

pub turn_far : (m : Meta) → IsFar (IsPowerCall m)
unfolding step
turn_far m (Read e q done) s uses d p far = absurd uses
turn_far m (Write e q b done) s uses d p far = absurd uses
turn_far m (Sync e done) s uses d p far = absurd uses
turn_far m (Park e done) s uses d p far = refl
turn_far m (SpinUp e done) s uses d p far = refl
turn_far m (Attach e size done) s uses d p far = absurd uses

abbrev far_by : Disks → List Call → Type 0
far_by start calls = (d p : ℕ) → log_least ≤ p → (run start calls).block d p ≡ start.block d p

each_far : (uses : Call → Type 0) → IsFar uses → (s : Disks) (cs : List Call) → EachCall uses s cs → far_by s cs
each_far uses is s [] each d p far = refl
each_far uses is s (c ∷ cs) each d p far = each_far uses is (step c s) cs each.2 d p far ∙ is c s each.1 d p far

pub far_ran : (uses : Call → Type 0) (old new : Option Trail) → IsFar uses → Ran old new (EachCall uses) → KeepsFar old new
far_ran uses old new is ran = ran_milder (EachCall uses) far_by (each_far uses is) ran

pub run_append : (s : Disks) (cs ds : List Call) → run s (cs ++ ds) ≡ run (run s cs) ds
run_append s [] ds = refl
run_append s (c ∷ cs) ds = run_append (step c s) cs ds

pub far_then : (old mid new : Option Trail) → KeepsFar old mid → KeepsFar mid new → KeepsFar old new
far_then old mid new first second =
    Ran-then far_by (λ s cs ds a b d p far. ap (λ (u : Disks). u.block d p) (run_append s cs ds) ∙ b d p far ∙ a d p far) old mid new first second

-- the record before, and its blocks
pub far_now : (old new : Option Trail) → KeepsFar old new → (t : Trail) → new ≡ Some t → (s : Trail) × (old ≡ Some s) × ((d p : ℕ) → log_least ≤ p → (now t).block d p ≡ (now s).block d p)
far_now old new ran t tells =
    let r = ran t tells in
    (r.from, r.was, λ d p far. ap (λ (u : Disks). u.block d p) (ap now r.is ∙ now-extend r.from r.calls) ∙ r.holds d p far)

shows_by : (g : Geometry) (a b : ℕ → Block) (dirty : ℕ → ℕ → Bool) → ((p : ℕ) → log_least ≤ p → b p ≡ a p) → ShowsMap g a dirty → ShowsMap g b dirty
shows_by g a b dirty same shows r d low = shows r d low ∙ bit_same g a b r d (sym (same (map_place_of g r) (omega arith)))

pub map_on : (g : Geometry) (out : Option ℕ) (a b : ℕ → Slot) (dirty : ℕ → ℕ → Bool) (old mid new : Option Trail) → ((a 0).power ≡ Absent → (b 0).power ≡ Absent)
    → KeepsFar mid new → HasMap g out a dirty old mid → HasMap g out b dirty old new
map_on g out a b dirty old mid new stays far has = record {
  far = far_then old mid new has.far far;
  disk = has.disk;
  which = elim has.which [ inl same ↦ inl same | inr second ↦ inr (second.0, second.1, stays second.2) ];
  shows = λ t tells.
      let s = far_now mid new far t tells in
      shows_by g ((now s.0).block has.disk) ((now t).block has.disk) dirty (s.2 has.disk) (has.shows s.0 s.1);
}

or_else_none : (o : Option ℕ) → or_else o None ≡ o
or_else_none None = refl
or_else_none (Some d) = refl

-- what was read of the map
pub map_read : (g : Geometry) (out lost : Option ℕ) (slot : ℕ → Slot) (dirty : ℕ → ℕ → Bool) (old new : Option Trail) → KeepsFar old new → ((e : ℕ) → lost ≡ Some e → out ≡ None)
    → ((e : ℕ) → lost ≡ Some e → (slot e).power ≡ Absent) → ((f : Contents) → ShowsContents old [] f → IsSome new → ShowsMap g (f (map_disk (or_else out lost))) dirty)
    → HasMap g out slot dirty old new
map_read g out lost slot dirty old new far alone gone shows = record {
  far = far;
  disk = map_disk (or_else out lost);
  which = split lost refl;
  shows = λ t tells.
      let s = far_now old new far t tells in
      shows_by g ((now s.0).block (map_disk (or_else out lost))) ((now t).block (map_disk (or_else out lost))) dirty (s.2 (map_disk (or_else out lost)))
      (shows (now s.0).block (λ u told d p there past. let z : Some u ≡ Some s.0 = sym told ∙ s.1 in let same : u ≡ s.0 = cc in ap (λ (v : Trail). (now v).block d p) same)
      (subst IsSome (sym tells) refl));
}
  where
    split : (o : Option ℕ) → lost ≡ o → (map_disk (or_else out lost) ≡ map_disk out) ⊎ ((out ≡ None) × (map_disk (or_else out lost) ≡ 1) × ((slot 0).power ≡ Absent))
    split None is = inl (ap (λ (o : Option ℕ). map_disk (or_else out o)) is ∙ ap map_disk (or_else_none out))
    split (Some e) is =
        let none = alone e is in
        let at : map_disk (or_else out lost) ≡ map_disk (Some e) = ap (λ (o : Option ℕ). map_disk (or_else o lost)) none ∙ ap map_disk is in
        elim (cases_eq e 0) [
          | inl first ↦ inr (none, at ∙ ap (λ (k : ℕ). map_disk (Some k)) first, subst (λ (k : ℕ). (slot k).power ≡ Absent) first (gone e is))
          | inr not ↦ inl (at ∙ map_disk_zero (Some e) (λ some. let z : Some e ≡ Some 0 = some in let y : e ≡ 0 = cc in not y) ∙ sym (ap map_disk none))
        ]
