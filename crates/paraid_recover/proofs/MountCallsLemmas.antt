-- The calls of the parts of a mount are such as a mount may make.
use Rattle.std.specs.Prelude.{◌≡◌, ◌≢◌, ℕ, ◌<◌, ◌≤◌, ◌==◌, nat_lt, Bool, true, false, List, [], ◌∷◌, ◌++◌, Option, Some, None}
use Rattle.std.proofs.Common.{refl, sym, ◌∙◌, ap, subst, arith, inl, inr}
use Rattle.std.proofs.lemmas.Bool.Decides.{nat_tests}
use Rattle.paraid_base.specs.declared.geometry.Geometry.{Geometry}
use Rattle.paraid_base.specs.declared.state.Out.{Out}
use Rattle.paraid_base.specs.Log.{log_least}
use Rattle.paraid_base.specs.States.{gone_out, named_out}
use Rattle.paraid_rack.specs.declared.call.Call.{Call}
use Rattle.paraid_rack.specs.declared.call.Call.TheVariants.{Read, Write, Sync, Park, SpinUp, Attach}
use Rattle.paraid_rack.specs.Disks.{Disks, step}
use Rattle.paraid_rack.specs.Told.{Ran}
use Rattle.paraid_rack.specs.Trail.{Trail, run}
use Rattle.paraid_rack.proofs.TrailsLemmas.{Ran-none, Ran-then}
use Rattle.paraid_record.specs.declared.meta.Meta.{Meta}
use Rattle.paraid_image.specs.Calls.{disk_of, is_attach}
use Rattle.paraid_image.specs.Mark.{marked_gone}
use Rattle.paraid_image.specs.Out.{or_else}
use Rattle.paraid_image.specs.Sides.{Batch}
use Rattle.paraid_recover.specs.HeardSides.{ReadsLogs}
use Rattle.paraid_txn.specs.Uses.{EachCall, Uses, UsesInCommit, UsesLog, UsesSync, UsesTarget, UsesWitness}
use Rattle.paraid_txn.proofs.CommitPartLemmas.{EachCall-milder, ran_milder}
use Rattle.paraid_recover.specs.Map.{ReadsMap, ReadsMapOf}
use Rattle.paraid_recover.specs.MountCalls.{IsMountCall, OnlyMountCalls}
use Rattle.paraid_recover.specs.Powers.{IsPowerCall}
use Rattle.paraid_recover.specs.RecoveryMark.{of_version_two, renewed_by, with_mark}
use Rattle.paraid_recover.proofs.FitLemmas.{gone_named}

low_place : (p : ℕ) → p < log_least → nat_lt p log_least ≡ true
low_place p l = grind (arith, nat_tests)

pub reads_mount : (n : ℕ) (gone : Option ℕ) (c : Call) → 3 ≤ n → ReadsLogs c → IsMountCall n gone c
reads_mount n skip (Read d p done) two is = record { disk = omega (arith, is.0, two); attaches = refl; aside = λ at. low_place p is.1 }
reads_mount n skip (Write d p b done) two is = absurd is
reads_mount n skip (Sync d done) two is = absurd is
reads_mount n skip (Park d done) two is = absurd is
reads_mount n skip (SpinUp d done) two is = absurd is
reads_mount n skip (Attach d size done) two is = absurd is

log_apart : (o : Out) (c : Call) → UsesLog (named_out o) c → (is_attach c ≡ false) × (gone_out o ≢ Some (disk_of c))
log_apart o (Read d p done) is = (refl, λ at. is.0.1 (gone_named o d at))
log_apart o (Write d p b done) is = (refl, λ at. is.0.1 (gone_named o d at))
log_apart o (Sync d done) is = (refl, λ at. is.1 (gone_named o d at))
log_apart o (Park d done) is = absurd is
log_apart o (SpinUp d done) is = absurd is
log_apart o (Attach d size done) is = absurd is

target_apart : (o : Out) (batch : Batch) (c : Call) → UsesTarget (gone_out o) batch c → (is_attach c ≡ false) × (gone_out o ≢ Some (disk_of c))
target_apart o batch (Read d p done) is = absurd is
target_apart o batch (Write d p b done) is = (refl, is.0)
target_apart o batch (Sync d done) is = (refl, is.0)
target_apart o batch (Park d done) is = absurd is
target_apart o batch (SpinUp d done) is = absurd is
target_apart o batch (Attach d size done) is = absurd is

apart_mount : (n : ℕ) (gone : Option ℕ) (c : Call) → disk_of c < n → (is_attach c ≡ false) × (gone ≢ Some (disk_of c)) → IsMountCall n gone c
apart_mount n skip c low is = record { disk = low; attaches = is.0; aside = λ at. absurd (is.1 at) }

pub commit_mount : (m : Meta) (batch : Batch) (c : Call) → Uses m batch c → IsMountCall m.setup.geometry.disks (gone_out m.out) c
commit_mount m batch c is = elim is.1 [
  | inl log ↦ apart_mount m.setup.geometry.disks (gone_out m.out) c is.0 (log_apart m.out c log)
  | inr target ↦ apart_mount m.setup.geometry.disks (gone_out m.out) c is.0 (target_apart m.out batch c target)
]

-- also with the witness that it sets
witness_mount : (m : Meta) (c : Call) → UsesWitness m c → IsMountCall m.setup.geometry.disks (gone_out m.out) c
witness_mount m (Read d p done) is = absurd is
witness_mount m (Write d p b done) is = apart_mount m.setup.geometry.disks (gone_out m.out) (Write d p b done) (let at = is.0 in let low = is.1 in omega arith) (refl, λ gone. is.2 (gone ∙ ap Some is.0))
witness_mount m (Sync d done) is = apart_mount m.setup.geometry.disks (gone_out m.out) (Sync d done) (let at = is.0 in let low = is.1 in omega arith) (refl, λ gone. is.2 (gone ∙ ap Some is.0))
witness_mount m (Park d done) is = absurd is
witness_mount m (SpinUp d done) is = absurd is
witness_mount m (Attach d size done) is = absurd is

whole_mount : (m : Meta) (batch : Batch) (c : Call) → UsesInCommit m batch c → IsMountCall m.setup.geometry.disks (gone_out m.out) c
whole_mount m batch c is = elim is [ inl uses ↦ commit_mount m batch c uses | inr witness ↦ witness_mount m c witness ]

-- so it is where fewer disks are gone
fewer_gone : (n : ℕ) (gone more : Option ℕ) (c : Call) → ((d : ℕ) → gone ≡ Some d → more ≡ Some d) → IsMountCall n more c → IsMountCall n gone c
fewer_gone n skip more c fewer it = record { disk = it.disk; attaches = it.attaches; aside = λ at. it.aside (fewer (disk_of c) at) }

-- where no disk was gone, the commit that marks one is on any
pub mark_mount : (m : Meta) (batch : Batch) (c : Call) → UsesInCommit m batch c → IsMountCall m.setup.geometry.disks None c
mark_mount m batch c is = fewer_gone m.setup.geometry.disks None (gone_out m.out) c (λ d at. (let z : None ≡ Some d = at in cc)) (whole_mount m batch c is)

pub sync_mount : (n : ℕ) (gone : Option ℕ) (c : Call) → UsesSync n gone c → IsMountCall n gone c
sync_mount n skip (Read d p done) is = absurd is
sync_mount n skip (Write d p b done) is = absurd is
sync_mount n skip (Sync d done) is = apart_mount n skip (Sync d done) is.0 (refl, is.1)
sync_mount n skip (Park d done) is = absurd is
sync_mount n skip (SpinUp d done) is = absurd is
sync_mount n skip (Attach d size done) is = absurd is

pub power_mount : (m : Meta) (c : Call) → IsPowerCall m c → IsMountCall m.setup.geometry.disks (gone_out m.out) c
power_mount m (Read d p done) is = absurd is
power_mount m (Write d p b done) is = absurd is
power_mount m (Sync d done) is = absurd is
power_mount m (Park d done) is = apart_mount m.setup.geometry.disks (gone_out m.out) (Park d done) is.0 (refl, λ at. is.3 (gone_named m.out d at))
power_mount m (SpinUp d done) is = apart_mount m.setup.geometry.disks (gone_out m.out) (SpinUp d done) is.0 (refl, λ at. is.3 (gone_named m.out d at))
power_mount m (Attach d size done) is = absurd is

-- reads of the map

pub of_map : (g : Geometry) (out : Option ℕ) (x : ℕ) (c : Call) → x < 2 → out ≢ Some x → ReadsMapOf g x c → ReadsMap g out c
of_map g out x (Read d p done) low not is = (omega (arith, is.0, low), λ at. not (at ∙ ap Some is.0), is.1, is.2)
of_map g out x (Write d p b done) low not is = absurd is
of_map g out x (Sync d done) low not is = absurd is
of_map g out x (Park d done) low not is = absurd is
of_map g out x (SpinUp d done) low not is = absurd is
of_map g out x (Attach d size done) low not is = absurd is

map_mount : (n : ℕ) (g : Geometry) (gone out : Option ℕ) (c : Call) → 2 ≤ n → ((d : ℕ) → gone ≡ Some d → out ≡ Some d) → ReadsMap g out c → IsMountCall n gone c
map_mount n g skip out (Read d p done) two is_out is = apart_mount n skip (Read d p done) (omega (arith, is.0, two)) (refl, λ at. is.1 (is_out d at))
map_mount n g skip out (Write d p b done) two is_out is = absurd is
map_mount n g skip out (Sync d done) two is_out is = absurd is
map_mount n g skip out (Park d done) two is_out is = absurd is
map_mount n g skip out (SpinUp d done) two is_out is = absurd is
map_mount n g skip out (Attach d size done) two is_out is = absurd is

-- what is told of the parts

EachCall-append : (u : Call → Type 0) (s : Disks) (cs ds : List Call) → EachCall u s cs → EachCall u (run s cs) ds → EachCall u s (cs ++ ds)
EachCall-append u s [] ds first second = second
EachCall-append u s (c ∷ cs) ds first second = (first.0, first.1, EachCall-append u (step c s) cs ds first.2 second)

-- such calls after others
pub calls_then : (u : Call → Type 0) (old mid new : Option Trail) → Ran old mid (EachCall u) → Ran mid new (EachCall u) → Ran old new (EachCall u)
calls_then u old mid new first second = Ran-then (EachCall u) (EachCall-append u) old mid new first second

pub calls_milder : (u v : Call → Type 0) (old new : Option Trail) → ((c : Call) → u c → v c) → Ran old new (EachCall u) → Ran old new (EachCall v)
calls_milder u v old new more ran = ran_milder (EachCall u) (EachCall v) (EachCall-milder u v more) ran

-- no call
pub no_calls : (m : Meta) (told : Option Trail) → OnlyMountCalls m told told
no_calls m told = Ran-none (EachCall (IsMountCall m.setup.geometry.disks (gone_out m.out))) (λ s. tt) told

-- one part after the other
pub mount_then : (m : Meta) (old mid new : Option Trail) → OnlyMountCalls m old mid → OnlyMountCalls m mid new → OnlyMountCalls m old new
mount_then m old mid new first second = calls_then (IsMountCall m.setup.geometry.disks (gone_out m.out)) old mid new first second

-- the parts of a mount of an array of which this meta stood
module _ (m : Meta) (old new : Option Trail) where
  abbrev n : ℕ
  n = m.setup.geometry.disks

  abbrev allowed : Call → Type 0
  allowed = IsMountCall n (gone_out m.out)

  two_disks : 2 ≤ n
  two_disks = let l = m.setup.geometry.disks_low in omega arith

  pub read_calls : Ran old new (EachCall ReadsLogs) → OnlyMountCalls m old new
  read_calls ran = calls_milder ReadsLogs allowed old new (λ c is. reads_mount n (gone_out m.out) c (let l = m.setup.geometry.disks_low in omega arith) is) ran

  pub resume_calls : (batch : Batch) → Ran old new (EachCall (Uses m batch)) → OnlyMountCalls m old new
  resume_calls batch ran = calls_milder (Uses m batch) allowed old new (commit_mount m batch) ran

  pub map_calls : (out rest : Option ℕ) → out ≡ or_else (named_out m.out) rest → Ran old new (EachCall (ReadsMap m.setup.geometry out)) → OnlyMountCalls m old new
  map_calls out rest is ran =
      calls_milder (ReadsMap m.setup.geometry out) allowed old new
      (λ c reads. map_mount n m.setup.geometry (gone_out m.out) out c two_disks (λ d gone. is ∙ ap (λ (o : Option ℕ). or_else o rest) (gone_named m.out d gone)) reads) ran

  pub sync_calls : (k : ℕ) (skip : Option ℕ) → k ≡ n → skip ≡ gone_out m.out → Ran old new (EachCall (UsesSync k skip)) → OnlyMountCalls m old new
  sync_calls k skip count is ran =
      calls_milder (UsesSync n (gone_out m.out)) allowed old new (sync_mount n (gone_out m.out))
      (subst (λ (o : Option ℕ). Ran old new (EachCall (UsesSync n o))) is (subst (λ (x : ℕ). Ran old new (EachCall (UsesSync x skip))) count ran))

  pub renew_calls : Ran old new (EachCall (UsesInCommit (of_version_two m) [])) → OnlyMountCalls m old new
  renew_calls ran = calls_milder (UsesInCommit (of_version_two m) []) allowed old new (whole_mount (of_version_two m) []) ran

  pub mark_calls : (d epoch : ℕ) → ((e : ℕ) → named_out m.out ≡ Some e → e ≡ d) → Ran old new (EachCall (UsesInCommit (marked_gone (of_version_two m) d epoch) [])) → OnlyMountCalls m old new
  mark_calls d epoch only ran =
      let next = marked_gone (of_version_two m) d epoch in
      calls_milder (UsesInCommit next []) allowed old new
      (λ c uses. fewer_gone n (gone_out m.out) (Some d) c (λ e gone. ap Some (sym (only e (gone_named m.out e gone)))) (whole_mount next [] c uses)) ran

  renewed_turn : (b : Bool) (c : Call) → IsPowerCall (renewed_by b m) c → allowed c
  renewed_turn false c is = power_mount m c is
  renewed_turn true c is = power_mount (renewed_by true m) c is

  pub power_calls : (mark : Option ℕ) → ((d e : ℕ) → mark ≡ Some d → named_out m.out ≡ Some e → e ≡ d) → Ran old new (EachCall (IsPowerCall (with_mark m mark))) → OnlyMountCalls m old new
  power_calls None only ran = calls_milder (IsPowerCall (with_mark m None)) allowed old new (renewed_turn (m.version == 1)) ran
  power_calls (Some d) only ran =
      let next = with_mark m (Some d) in
      calls_milder (IsPowerCall next) allowed old new
      (λ c is. fewer_gone n (gone_out m.out) (Some d) c (λ e gone. ap Some (sym (only d e refl (gone_named m.out e gone)))) (power_mount next c is)) ran

-- what a mount makes after the reads of the logs
pub reads_then : (m : Meta) (old read new : Option Trail) → Ran old read (EachCall ReadsLogs) → OnlyMountCalls m read new → OnlyMountCalls m old new
reads_then m old read new first later = mount_then m old read new (read_calls m old read first) later
