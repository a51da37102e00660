-- Where the core stands after some calls of an event.
use Rattle.std.proofs.Common.{◌≡◌, ◌≢◌, ℕ, ◌<◌, ◌≤◌, ◌⊎◌, Bool, true, false, List, [], ◌∷◌, Option, Some, None, refl, sym, ap, ◌∙◌, inl, inr, subst, arith, if◌then◌else◌}
use Rattle.std.specs.Prelude.{◌==◌}
use Rattle.std.proofs.lemmas.Bool.{false≢true}
use Rattle.std.proofs.lemmas.Bool.Decides.{nat_tests}
use Rattle.paraid_base.specs.History.{History}
use Rattle.paraid_base.specs.States.{gone_out, named_out}
use Rattle.paraid_rack.specs.declared.call.Call.{Call}
use Rattle.paraid_rack.specs.declared.call.Power.TheVariants.{Absent}
use Rattle.paraid_rack.specs.Disks.{Disks, IsImage, IsPresent, is_present, step}
use Rattle.paraid_rack.proofs.AtomsLemmas.{with_at_same}
use Rattle.paraid_record.specs.declared.meta.Meta.{Meta}
use Rattle.paraid_record.specs.declared.meta.Setup.{Setup}
use Rattle.paraid_image.specs.Calls.{disk_of, is_done}
use Rattle.paraid_image.specs.Looked.IsLooked.{whole}
use Rattle.paraid_rack.specs.Told.{Through}
use Rattle.paraid_rack.specs.Trail.{run}
use Rattle.paraid_image.specs.Spins.{made_spin_ups}
use Rattle.paraid_image.specs.Sides.{closed_over}
use Rattle.paraid_image.proofs.FailedCallLemmas.{failed_is_loss}
use Rattle.paraid_core.specs.Calls.{IsDataCall, IsTransferCall}
use Rattle.paraid_session.specs.Watch.{Down, IsAmongDown, IsServing, Watch, down_from_out, fails_on, nobody, only, several, watch, watch_all, with_down}
use Rattle.paraid_recover.proofs.DownLemmas.{watched_disks}
use Rattle.paraid_txn.specs.Commit.{IsOldOrNew}
use Rattle.paraid_recover.proofs.SpinsLemmas.{same_used}
use Rattle.paraid_txn.specs.Uses.{EachCall}
use Rattle.paraid_event.proofs.ApartLemmas.{no_one}
use Rattle.paraid_event.specs.Marks.{IsMarkedBy}
use Rattle.paraid_event.specs.Parts.{BringsMeta, committed_meta}
use Rattle.paraid_event.specs.Parts.BringsMeta.{commit, nothing}
use Rattle.paraid_event.specs.Service.{Service}
pub use Rattle.paraid_event.specs.Steps.{IsOnly}
use Rattle.paraid_event.specs.Stands.{ServiceStandsFor, StandsIn}
use Rattle.paraid_event.proofs.ChainLemmas.{Follows, FollowsLog, base_names, either_stands, follows_log_step, follows_step, kept_end, only_base, start_follows, start_follows_log}
use Rattle.paraid_event.proofs.MarksLemmas.{marked_setup, marked_used, newly_named, same_ticks, still_gone, still_named}

pub self_image : (s : Disks) → IsImage s (record s { loose = λ d p. false })
self_image s = record { power = λ d. refl; size = λ d. refl; block = λ d p dry. refl; loose = λ d p. refl }

pub through_last : (P : Disks → Type 0) (s : Disks) (cs : List Call) → Through P s cs → P (run s cs)
through_last P s [] p = p
through_last P s (c ∷ cs) p = through_last P (step c s) cs p.1

pub only_serving : (o : Option ℕ) (down : Down) → IsOnly o down → IsServing down
only_serving o nobody is = tt
only_serving o (only d) is = tt
only_serving o several is = is

pub only_from : (o : Option ℕ) → IsOnly o (down_from_out o)
only_from None = tt
only_from (Some d) = refl

-- so it is that one
pub only_is : (o : Option ℕ) (down : Down) → IsOnly o down → ((d : ℕ) → o ≡ Some d → IsAmongDown down d) → down ≡ down_from_out o
only_is None nobody is has = refl
only_is None (only d) is has = absurd (no_one is)
only_is None several is has = absurd is
only_is (Some d) nobody is has = absurd (has d refl)
only_is (Some d) (only e) is has = let z : Some d ≡ Some e = is in ap only (let same : e ≡ d = cc in same)
only_is (Some d) several is has = absurd is

pub only_after : (o : Option ℕ) (done : Bool) (e : ℕ) (down : Down) → (done ≡ false → o ≡ Some e) → IsOnly o down → IsOnly o (if done then down else with_down e down)
only_after o true e down failed is = is
only_after o false e nobody failed is = failed refl
only_after o false e (only d) failed is = by (e == d) refl
  where
    by : (b : Bool) → (e == d) ≡ b → IsOnly o (if b then only d else several)
    by true same = is
    by false apart = let z : Some e ≡ Some d = sym (failed refl) ∙ is in absurd (let same : e ≡ d = cc in let w : (e == d) ≡ true = test e d same in false≢true (sym apart ∙ w))
      where
        test : (a b : ℕ) → a ≡ b → (a == b) ≡ true
        test a b same = grind (arith, nat_tests)
only_after o false e several failed is = absurd is

failed_off : (s : Disks) (c : Call) → is_done c ≡ false → is_present ((step c s).power (disk_of c)) ≡ false
failed_off s c failed = let l = failed_is_loss s c failed in ap is_present (l.power (disk_of c) ∙ with_at_same s.power (disk_of c) Absent (disk_of c) refl)

same_if : (a b : ℕ) → (a == b) ≡ true → a ≡ b
same_if a b k = grind (arith, nat_tests)

-- the call itself failed on the disk, or a later one
pub fails_split : (c : Call) (cs : List Call) (e : ℕ) → fails_on e (c ∷ cs) ≡ true → ((is_done c ≡ false) × (disk_of c ≡ e)) ⊎ (fails_on e cs ≡ true)
fails_split c cs e is = by (is_done c) (disk_of c == e) refl refl is
  where
    by : (done same : Bool) → is_done c ≡ done → (disk_of c == e) ≡ same → (if done then fails_on e cs else (if same then true else fails_on e cs)) ≡ true → ((is_done c ≡ false) × (disk_of c ≡ e)) ⊎ (fails_on e cs ≡ true)
    by true same d t f = inr f
    by false true d t f = inl (d, same_if (disk_of c) e t)
    by false false d t f = inr f

module _ (n : ℕ) (out : Option ℕ) where
  follow : (w v : Watch) (c : Call) → IsTransferCall n out c → Follows 0 w v → Follows 0 w (watch c v)
  follow w v c is f = follows_step 0 w v c is.2 f

  self_zero : (w : Watch) → Follows 0 w w
  self_zero w = record { power = λ d h. refl; absent = λ d low gone. absurd (omega (arith, low)); down = λ d i. i; spun = λ d. refl; awaited = refl }

  pub stays_off : (w : Watch) (cs : List Call) (d : ℕ) → EachCall (IsTransferCall n out) w.disks cs → is_present (w.disks.power d) ≡ false → is_present ((watch_all cs w).disks.power d) ≡ false
  stays_off w cs d calls off = by (is_present ((watch_all cs w).disks.power d)) refl
    where
      by : (b : Bool) → is_present ((watch_all cs w).disks.power d) ≡ b → is_present ((watch_all cs w).disks.power d) ≡ false
      by false is = is
      by true is =
          let f = kept_end (IsTransferCall n out) (Follows 0 w) (λ v c lawful k f. follow w v c k f) w cs calls (self_zero w) in
          absurd (false≢true (sym off ∙ ap is_present (sym (f.power d is)) ∙ is))

  -- a disk on which a call failed is absent
  pub failed_absent : (w : Watch) (cs : List Call) (e : ℕ) → EachCall (IsTransferCall n out) w.disks cs → fails_on e cs ≡ true → is_present ((watch_all cs w).disks.power e) ≡ false
  failed_absent w [] e calls is = absurd (false≢true is)
  failed_absent w (c ∷ cs) e calls is = elim (fails_split c cs e is) [
    | inl here ↦ stays_off (watch c w) cs e calls.2 (subst (λ (x : ℕ). is_present ((step c w.disks).power x) ≡ false) here.1 (failed_off w.disks c here.0))
    | inr later ↦ failed_absent (watch c w) cs e calls.2 later
  ]

  -- and of the array
  pub fails_below : (s : Disks) (cs : List Call) (e : ℕ) → EachCall (IsTransferCall n out) s cs → fails_on e cs ≡ true → e < n
  fails_below s [] e calls is = absurd (false≢true is)
  fails_below s (c ∷ cs) e calls is = elim (fails_split c cs e is) [
    | inl here ↦ subst (λ (x : ℕ). x < n) here.1 calls.1.0
    | inr later ↦ fails_below (step c s) cs e calls.2 later
  ]

pub fails_head : (c : Call) (cs : List Call) → is_done c ≡ false → fails_on (disk_of c) (c ∷ cs) ≡ true
fails_head c cs failed = rw failed (self (disk_of c))
  where
    self : (d : ℕ) → (if d == d then true else fails_on d cs) ≡ true
    self d = grind (arith, nat_tests)

pub fails_tail : (c : Call) (cs : List Call) (e : ℕ) → fails_on e cs ≡ true → fails_on e (c ∷ cs) ≡ true
fails_tail c cs e is = by (is_done c)
  where
    inner : (b : Bool) → (if b then true else fails_on e cs) ≡ true
    inner true = refl
    inner false = is

    by : (b : Bool) → (if b then fails_on e cs else (if disk_of c == e then true else fails_on e cs)) ≡ true
    by true = is
    by false = inner (disk_of c == e)

-- where each disk on which a call failed is this one, at most this one is down
pub only_end : (o : Option ℕ) (w : Watch) (cs : List Call) → IsOnly o w.down → ((e : ℕ) → fails_on e cs ≡ true → o ≡ Some e) → IsOnly o (watch_all cs w).down
only_end o w [] is failed = is
only_end o w (c ∷ cs) is failed = only_end o (watch c w) cs (only_after o (is_done c) (disk_of c) w.down (λ f. failed (disk_of c) (fails_head c cs f)) is) (λ e k. failed e (fails_tail c cs e k))

module _ (k k_then : Service) (h h_then : History) (lo lo_then : ℕ) (base : Meta) (w : Watch) (at : StandsIn k h lo base w) (cs : List Call) (calls : EachCall (IsTransferCall k.meta.setup.geometry.disks (gone_out k.meta.out)) w.disks cs) where
  abbrev v : Watch
  v = watch_all cs w

  abbrev n : ℕ
  n = k.meta.setup.geometry.disks

  pub end_follows : Follows n w v
  end_follows = kept_end (IsTransferCall n (gone_out k.meta.out)) (Follows n w) (λ v c lawful is f. follows_step n w v c is.2 f) w cs calls (start_follows k h lo base w at)

  module _ (marks : IsMarkedBy v.disks.power k.meta k_then.meta) where
    -- each disk on which a call failed is the one that is out
    pub one_failed : IsOnly (named_out k_then.meta.out) w.down → IsOnly (named_out k_then.meta.out) v.down
    one_failed is = only_end (named_out k_then.meta.out) w cs is (λ e failed. marks.named e (fails_below n (gone_out k.meta.out) w.disks cs e calls failed) (failed_absent n (gone_out k.meta.out) w cs e calls failed))

    low_then : (d : ℕ) → d < k_then.meta.setup.geometry.disks → d < n
    low_then d low = subst (λ (z : Setup). d < z.geometry.disks) (marked_setup v.disks.power k.meta k_then.meta marks) low

    not_then : (d : ℕ) → gone_out k_then.meta.out ≢ Some d → gone_out k.meta.out ≢ Some d
    not_then d not gone = not (still_gone v.disks.power k.meta k_then.meta marks d gone)

    then_named : (d : ℕ) → named_out k_then.meta.out ≡ Some d → IsAmongDown v.down d
    then_named d is = elim (newly_named v.disks.power k.meta k_then.meta marks d is) [
      | inl was ↦ end_follows.down d (at.named_down d was)
      | inr gone ↦ end_follows.absent d gone.0 gone.1
    ]

    recorded_by : (m : Meta) → ((d : ℕ) → d < n → IsPresent w.disks d → gone_out m.out ≢ Some d → w.spun d ≤ made_spin_ups m w.disks.power d) → (d : ℕ) → d < n → IsPresent v.disks d → gone_out m.out ≢ Some d → v.spun d ≤ made_spin_ups m v.disks.power d
    recorded_by m was d low here not =
        let power = end_follows.power d here in
        let count = end_follows.spun d in
        let before = was d low (ap is_present (sym power) ∙ here) not in
        let used = same_used m v.disks.power w.disks.power d power in
        omega (arith, count, before, used)

    then_recorded : (d : ℕ) → d < k_then.meta.setup.geometry.disks → IsPresent v.disks d → gone_out k_then.meta.out ≢ Some d → v.spun d ≤ made_spin_ups k_then.meta v.disks.power d
    then_recorded d low here not =
        let was = recorded_by k.meta at.recorded_next d (low_then d low) here (not_then d not) in
        let used = marked_used v.disks.power k.meta k_then.meta marks v.disks.power d in
        omega (arith, was, used)

    then_awaited : (d : ℕ) → v.awaited ≡ Some d → gone_out k_then.meta.out ≡ Some d
    then_awaited d is = still_gone v.disks.power k.meta k_then.meta marks d (at.awaited d (sym end_follows.awaited ∙ is))

    -- what stands after calls that write no block of the log
    pub data_base : (keeps : ServiceStandsFor k_then h_then lo_then v.disks) → EachCall (IsDataCall n (gone_out k.meta.out)) w.disks cs → IsServing v.down → keeps.base ≡ base
    data_base keeps past serving =
        let f = kept_end (IsDataCall n (gone_out k.meta.out)) (FollowsLog n w) (λ u c lawful is g. follows_log_step n w u c is.2 g) w cs past (start_follows_log k h lo base w at) in
        let i = keeps.copies.copying (record v.disks { loose = λ d p. false }) (self_image v.disks) in
        only_base k h lo base w at v f serving i.disk (record v.disks { loose = λ d p. false }) (closed_over keeps.base) (whole (self_image v.disks)) i.log.stands

    -- and after those of a commit
    commit_base : (keeps : ServiceStandsFor k_then h_then lo_then v.disks) → IsOldOrNew w.disks base (committed_meta k) k.batch v.disks → IsServing v.down → (keeps.base ≡ base) ⊎ (keeps.base ≡ committed_meta k)
    commit_base keeps old serving =
        let i = keeps.copies.copying (record v.disks { loose = λ d p. false }) (self_image v.disks) in
        either_stands k h lo base w at v end_follows old serving i.disk (record v.disks { loose = λ d p. false }) (closed_over keeps.base) (whole (self_image v.disks)) i.log.stands

    pub end_base : (keeps : ServiceStandsFor k_then h_then lo_then v.disks) → BringsMeta k base w.disks cs → IsServing v.down → (keeps.base ≡ base) ⊎ (keeps.base ≡ committed_meta k)
    end_base keeps (nothing past) serving = inl (data_base keeps past serving)
    end_base keeps (commit all through) serving = commit_base keeps (subst (IsOldOrNew w.disks base (committed_meta k) k.batch) (sym (watched_disks w cs)) (through_last (IsOldOrNew w.disks base (committed_meta k) k.batch) w.disks cs through)) serving

    -- The core stands after them, by the meta that stands then.
    pub end_stands : (keeps : ServiceStandsFor k_then h_then lo_then v.disks) → (keeps.base ≡ base) ⊎ (keeps.base ≡ committed_meta k) → StandsIn k_then h_then lo_then keeps.base v
    end_stands keeps which = record {
      keeps = keeps;
      is_base = refl;
      absent_down = λ d low gone. end_follows.absent d (low_then d low) gone;
      named_down = then_named;
      stays = λ d said. still_named v.disks.power k.meta k_then.meta marks d (named_base d (keeps.named_by ∙ said));
      recorded = λ d low here not. recorded_base d (low_then d low) here not which;
      recorded_next = then_recorded;
      awaited = then_awaited;
      ticks = let e = same_ticks v.disks.power k.meta k_then.meta marks in let l = base_ticks which in omega (arith, l, e);
    }
      where
        named_base : (d : ℕ) → named_out keeps.base.out ≡ Some d → named_out k.meta.out ≡ Some d
        named_base d is = elim which [
          | inl old ↦ base_names k h lo base w at d (ap (λ (m : Meta). named_out m.out) (sym old) ∙ is)
          | inr new ↦ ap (λ (m : Meta). named_out m.out) (sym new) ∙ is
        ]

        base_ticks : (keeps.base ≡ base) ⊎ (keeps.base ≡ committed_meta k) → keeps.base.ticks ≤ k.meta.ticks
        base_ticks (inl old) = let z = ap (λ (m : Meta). m.ticks) old in let l = at.ticks in omega (arith, z, l)
        base_ticks (inr new) = let z = ap (λ (m : Meta). m.ticks) new in omega (arith, z)

        recorded_base : (d : ℕ) → d < n → IsPresent v.disks d → gone_out keeps.base.out ≢ Some d → (keeps.base ≡ base) ⊎ (keeps.base ≡ committed_meta k) → v.spun d ≤ made_spin_ups keeps.base v.disks.power d
        recorded_base d low here not (inl old) =
            let was = recorded_by base at.recorded d low here (λ is. not (ap (λ (m : Meta). gone_out m.out) old ∙ is)) in
            let used = ap (λ (m : Meta). made_spin_ups m v.disks.power d) old in
            omega (arith, was, used)
        recorded_base d low here not (inr new) =
            let was = recorded_by k.meta at.recorded_next d low here (λ is. not (ap (λ (m : Meta). gone_out m.out) new ∙ is)) in
            let used = ap (λ (m : Meta). made_spin_ups m v.disks.power d) new in
            omega (arith, was, used)
