-- While one disk at most is down, what stands after the reads of the log disks has the setup of what
-- stood before them.
use Rattle.std.proofs.Common.{◌≡◌, ◌≢◌, ℕ, Bool, true, false, List, [], ◌∷◌, Option, Some, refl, sym, ap, ◌∙◌, inl, inr, subst, arith}
use Rattle.std.proofs.lemmas.Bool.{cases_eq, false≢true}
use Rattle.paraid_base.specs.History.{History}
use Rattle.paraid_rack.specs.declared.call.Call.{Call}
use Rattle.paraid_rack.specs.declared.call.Call.TheVariants.{Read, Write, Sync, Park, SpinUp, Attach}
use Rattle.paraid_rack.specs.declared.call.Power.TheVariants.{Absent}
use Rattle.paraid_rack.specs.Disks.{Disks, IsPresent, is_present, step, with_at}
use Rattle.paraid_rack.specs.Trail.{run}
use Rattle.paraid_rack.proofs.AtomsLemmas.{at_case, with_at_other, with_at_same}
use Rattle.paraid_record.specs.declared.meta.Setup.{Setup}
use Rattle.paraid_image.specs.Out.{out_disk}
use Rattle.paraid_image.specs.Out.IsWeak.{out}
use Rattle.paraid_image.specs.RunStart.{IsRunStart}
use Rattle.paraid_image.specs.Sides.{LogState, Says, is_open, stored_block}
use Rattle.paraid_image.specs.Sound.{Pairing, LogOk}
use Rattle.paraid_image.specs.Sound.Pairing.{alike, first_ahead, first_done, second_ahead, second_done}
use Rattle.paraid_image.specs.Standing.{Stands, other_log}
use Rattle.paraid_image.proofs.NeutralLemmas.{IsLogKept, says_back, says_forth}
use Rattle.paraid_image.proofs.OutLemmas.{out_present}
use Rattle.paraid_image.proofs.StandingLemmas.{Stands-same}
use Rattle.paraid_session.specs.Mount.{start_watch}
use Rattle.paraid_session.specs.Watch.{IsAmongDown, IsServing, watch_all}
use Rattle.paraid_recover.specs.HeardSides.{ReadsLogs}
use Rattle.paraid_recover.proofs.DownLemmas.{in_absent, in_stays, several_in, stood_log, weak_in}
use Rattle.paraid_txn.specs.Uses.{EachCall}

-- a disk that is there after some reads is as it was
pub record IsKept (s t : Disks) (x : ℕ) : Type 0 where
  pub power : t.power x ≡ s.power x
  pub size : t.size x ≡ s.size x
  pub block : (p : ℕ) → t.block x p ≡ s.block x p

pub self_at : {A : Type 0} (f : ℕ → A) (k j : ℕ) → with_at f k (f k) j ≡ f j
self_at f k j = at_case (λ v. v ≡ f j) f k (f k) j (λ is. ap f (sym is)) (λ not. refl)

kept_by_read : (s : Disks) (d p x : ℕ) (done : Bool) → IsPresent (step (Read d p done) s) x → IsKept s (step (Read d p done) s) x
unfolding step
kept_by_read s d p x true here = record { power = self_at s.power d x; size = self_at s.size d x; block = λ q. refl }
kept_by_read s d p x false here = elim (cases_eq x d) [
  | inl is ↦ absurd (false≢true (sym (ap is_present (with_at_same s.power d Absent x is)) ∙ here))
  | inr apart ↦ record { power = with_at_other s.power d Absent x apart; size = with_at_other s.size d 0 x apart; block = λ q. refl }
]

pub kept_by_reads : (s : Disks) (cs : List Call) (x : ℕ) → EachCall ReadsLogs s cs → IsPresent (run s cs) x → IsKept s (run s cs) x
kept_by_reads s [] x each here = record { power = refl; size = refl; block = λ q. refl }
kept_by_reads s (Read d p done ∷ cs) x each here =
    let later = kept_by_reads (step (Read d p done) s) cs x each.2 here in
    let first = kept_by_read s d p x done (ap is_present (sym later.power) ∙ here) in
    record { power = later.power ∙ first.power; size = later.size ∙ first.size; block = λ q. later.block q ∙ first.block q }
kept_by_reads s (Write d p b done ∷ cs) x each here = absurd each.1
kept_by_reads s (Sync d done ∷ cs) x each here = absurd each.1
kept_by_reads s (Park d done ∷ cs) x each here = absurd each.1
kept_by_reads s (SpinUp d done ∷ cs) x each here = absurd each.1
kept_by_reads s (Attach d size done ∷ cs) x each here = absurd each.1

stored_kept : (s t : Disks) (x q : ℕ) → IsKept s t x → stored_block t x q ≡ stored_block s x q
unfolding stored_block
stored_kept s t x q k = rw (k.power, k.size, k.block q) refl

pub log_kept : (s t : Disks) (x : ℕ) → IsKept s t x → IsLogKept s t x
log_kept s t x k = record {
  power = k.power;
  gate = ap is_open (stored_kept s t x 0 k);
  meta = λ closed. stored_kept s t x 1 k;
  rest = λ opened said says q low high. stored_kept s t x q k;
}

abbrev setup_of : LogState → Setup
setup_of a = a.meta.setup

pub paired_setup : (a b : LogState) → Pairing a b → a.meta.setup ≡ b.meta.setup
paired_setup a b (alike is) = ap setup_of is
paired_setup a b (first_ahead is) = is.setup
paired_setup a b (second_ahead is) = sym is.setup
paired_setup a b (first_done is) = ap (λ m. m.setup) is.meta
paired_setup a b (second_done is) = sym (ap (λ m. m.setup) is.meta)

module _ (slots : ℕ) (s : Disks) (h : History) (lo : ℕ) (down : Option ℕ) (start : IsRunStart slots s h lo down) (base : ℕ → ℕ) (rs : List Call) (each : EachCall ReadsLogs s rs)
    (x : ℕ) (said : LogState) (stands : Stands s x said) (side : ℕ) (then_said : LogState) (then_stands : Stands (run s rs) side then_said) where
  abbrev t : Disks
  t = run s rs

  log : LogOk s x said said.meta.writes
  log = stood_log slots s h lo down start.synced start.held x said stands

  pub back : (y : ℕ) (z : LogState) → Says t y z → Says s y z
  back y z says = says_back s t y z (log_kept s t y (kept_by_reads s rs y each says.present)) says

  -- the log disk that stood is still there
  pub still_both : IsPresent t x → (side ≡ x) × (then_said ≡ said)
  still_both here =
      let says = says_forth s t x said (log_kept s t x (kept_by_reads s rs x each here)) stands.says in
      let at : Stands t x said = record { log_disk = stands.log_disk; says = says; first = λ other q. stands.first other (back (other_log x) other q) } in
      Stands-same t side x then_said said then_stands at

  pub still_stands : IsPresent t x → then_said ≡ said
  still_stands here = (still_both here).1

  both : Says s side then_said → out_disk s.power said.meta ≢ Some x → out_disk s.power said.meta ≢ Some side → side ≢ x → then_said.meta.setup ≡ said.meta.setup
  both says not_x not_side apart = elim (cases_eq x 0) [
    | inl zero_is ↦
        let low = then_stands.log_disk in
        let one_is : side ≡ 1 = omega (arith, low, apart, zero_is) in
        sym (paired_setup said then_said (log.paired said then_said (subst (λ (y : ℕ). Says s y said) zero_is stands.says) (subst (λ (y : ℕ). Says s y then_said) one_is says)
        (subst (λ (y : ℕ). out_disk s.power said.meta ≢ Some y) zero_is not_x) (subst (λ (y : ℕ). out_disk s.power said.meta ≢ Some y) one_is not_side)))
    | inr later ↦
        let low = then_stands.log_disk in
        let high = stands.log_disk in
        let one_is : x ≡ 1 = omega (arith, high, later) in
        let zero_is : side ≡ 0 = omega (arith, low, apart, one_is) in
        paired_setup then_said said (log.paired then_said said (subst (λ (y : ℕ). Says s y then_said) zero_is says) (subst (λ (y : ℕ). Says s y said) one_is stands.says)
        (subst (λ (y : ℕ). out_disk s.power said.meta ≢ Some y) zero_is not_side) (subst (λ (y : ℕ). out_disk s.power said.meta ≢ Some y) one_is not_x))
  ]

  -- The setup is that of what stood.
  pub setup_kept : IsServing (watch_all rs (start_watch s down base)).down → then_said.meta.setup ≡ said.meta.setup
  setup_kept serving = split (is_present (t.power x)) refl
    where
      split : (there : Bool) → is_present (t.power x) ≡ there → then_said.meta.setup ≡ said.meta.setup
      split true here = ap setup_of (still_stands here)
      split false off =
          let w = start_watch s down base in
          let says = back side then_said then_stands.says in
          let apart : side ≢ x = λ is. false≢true (sym (subst (λ (y : ℕ). is_present (t.power y) ≡ false) (sym is) off) ∙ then_stands.says.present) in
          let lost : IsAmongDown (watch_all rs w).down x = in_absent w rs x (λ gone. absurd (false≢true (sym gone ∙ stands.says.present))) off in
          both says (out_present s.power said.meta x stands.says.present log.standing_in)
          (λ named. apart (several_in (watch_all rs w).down side x serving (in_stays w rs side (weak_in slots s h lo down start side (out x said stands named))) lost)) apart
