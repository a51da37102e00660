-- The calls of the parts of a mount, and what a session allows of them.
use Rattle.std.proofs.Common.{◌≡◌, ℕ, ◌<◌, Bool, false, List, [], ◌∷◌, Option, Some, None, refl, sym, ap, ◌∙◌, subst}
use Rattle.std.proofs.lemmas.Bool.{false≢true}
use Rattle.paraid_base.specs.States.{gone_out}
use Rattle.paraid_rack.specs.declared.call.Call.{Call}
use Rattle.paraid_rack.specs.declared.call.Call.TheVariants.{Attach}
use Rattle.paraid_rack.specs.Disks.{Disks, step}
use Rattle.paraid_image.specs.Calls.{disk_of, is_attach}
use Rattle.paraid_image.specs.Sides.{LogState}
use Rattle.paraid_session.specs.Mount.{IsAllowedInMount}
use Rattle.paraid_session.specs.Watch.{Each, Watch, watch}
pub use Rattle.paraid_recover.proofs.MountCallsLemmas.{commit_mount, mark_mount, power_mount, reads_mount, sync_mount}
use Rattle.paraid_recover.specs.MountCalls.{IsMountCall}
use Rattle.paraid_recover.specs.StartCalls.{IsSpinUpRecorded, MakesMountCall}
use Rattle.paraid_txn.specs.Uses.{EachCall}

pub each_map : (P Q : Call → Type 0) → ((c : Call) → P c → Q c) → (s : Disks) (cs : List Call) → EachCall P s cs → EachCall Q s cs
each_map P Q f s [] each = tt
each_map P Q f s (c ∷ cs) each = (each.0, f c each.1, each_map P Q f (step c s) cs each.2)

-- an attach is none of these calls
no_attach : (c : Call) (d size : ℕ) (done : Bool) → is_attach c ≡ false → c ≡ Attach d size done → ⊥
no_attach c d size done not is = false≢true (sym not ∙ ap is_attach is)

one_allowed : (said : LogState) (n : ℕ) (w : Watch) (c : Call) → n ≡ said.meta.setup.geometry.disks → w.awaited ≡ None → MakesMountCall n (gone_out said.meta.out) w c → IsSpinUpRecorded w c → IsAllowedInMount said w c
one_allowed said n w c same none is recorded = record {
  power = is.power;
  attaches = is.attaches;
  allowed = λ serving. record {
    disk = subst (λ (k : ℕ). disk_of c < k) same (is.serving serving).disk;
    power = is.power;
    attach = λ d size done at. absurd (no_attach c d size done is.attaches at);
    awaited = λ at. absurd (let z : None ≡ Some (disk_of c) = sym none ∙ at in cc);
    serving = λ d done at. serving;
    recorded = recorded.recorded;
  };
  gone = λ serving at. (is.serving serving).aside (ap gone_out at);
}

-- nothing is awaited in a mount
still_none : (w : Watch) (c : Call) → w.awaited ≡ None → (watch c w).awaited ≡ None
still_none w c none = rw none refl

-- Such calls are those that a session allows a mount.
pub each_allowed : (said : LogState) (n : ℕ) (w : Watch) (cs : List Call) → n ≡ said.meta.setup.geometry.disks → w.awaited ≡ None
    → Each (λ (v : Watch). Unit {0}) (MakesMountCall n (gone_out said.meta.out)) w cs
    → Each (λ (v : Watch). Unit {0}) IsSpinUpRecorded w cs → Each (λ (v : Watch). Unit {0}) (IsAllowedInMount said) w cs
each_allowed said n w [] same none each recorded = tt
each_allowed said n w (c ∷ cs) same none each recorded = (
  tt,
  one_allowed said n w c same none each.1 recorded.1,
  each_allowed said n (watch c w) cs same (still_none w c none) each.2 recorded.2,
)

-- calls of a mount are such at each moment
pub each_makes : (n : ℕ) (gone : Option ℕ) (w : Watch) (cs : List Call) → EachCall (IsMountCall n gone) w.disks cs → Each (λ (v : Watch). Unit {0}) (MakesMountCall n gone) w cs
each_makes n skip w [] each = tt
each_makes n skip w (c ∷ cs) each = (tt, record { power = each.0; attaches = each.1.attaches; serving = λ serving. each.1 }, each_makes n skip (watch c w) cs each.2)
