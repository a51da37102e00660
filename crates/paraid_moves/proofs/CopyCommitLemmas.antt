-- From a commit over copies into free places to the next commit.
use Rattle.std.specs.Prelude.{◌≡◌, ◌≢◌, ℕ, ◌<◌, ◌≤◌, ◌⊎◌, ◌&&◌, nat_lt, Bool, true, false, [], Option, Some, None, length, if◌then◌else◌}
use Rattle.std.proofs.Common.{refl, sym, ◌∙◌, ap, subst, arith, inl, inr}
use Rattle.std.proofs.lemmas.Bool.{cases_Bool, cases_eq, false≢true}
use Rattle.paraid_base.specs.declared.block.Block.{Block}
use Rattle.paraid_base.specs.History.{History}
use Rattle.paraid_base.specs.Log.{log_least}
use Rattle.paraid_base.specs.Xor.{zero_block}
use Rattle.paraid_rack.specs.declared.call.Call.TheVariants.{Read, Sync, Write}
use Rattle.paraid_rack.specs.declared.call.Power.{Power}
use Rattle.paraid_rack.specs.Disks.{Disks, IsImage, IsPresent, is_present, lose, step}
use Rattle.paraid_record.specs.declared.meta.Meta.{Meta}
use Rattle.paraid_record.specs.Range.{IsInRange}
use Rattle.paraid_image.specs.Rest.{IsAtRest, AreSynced}
use Rattle.paraid_image.specs.Content.{view_by}
use Rattle.paraid_image.specs.Free.{IsFree}
use Rattle.paraid_image.specs.HeldAt.{IsHeld, MayLose}
use Rattle.paraid_image.specs.Neutral.{overwrite}
use Rattle.paraid_image.specs.Out.{IsMissing, IsWeak, named_out, out_disk}
use Rattle.paraid_image.specs.Out.IsWeak.{out, named}
use Rattle.paraid_image.specs.Sides.{LogState, Says, closed_over, has_place, is_open, stored_block}
use Rattle.paraid_image.specs.Sound.{AreWitnessesTrue, ContentOk, LogOk, IsSoundAt}
use Rattle.paraid_image.specs.Standing.{Contents, contents, other_log}
use Rattle.paraid_image.proofs.AgreeLemmas.{content_agrees}
use Rattle.paraid_image.proofs.FreeLemmas.{free_log, free_past}
use Rattle.paraid_image.proofs.OneDiskLessLemmas.{IsSoundAt-lost}
use Rattle.paraid_image.proofs.NeutralLemmas.{stored_else, IsLogKept, contents_else, log_forth, past_log, says_back, says_forth, where_there, written}
use Rattle.paraid_image.proofs.OutLemmas.{missing_is_out, out_present}
use Rattle.paraid_image.proofs.StandingLemmas.{Stands-same}
use Rattle.paraid_image.proofs.SidesLemmas.{Says-same}
use Rattle.paraid_image.proofs.CallLemmas.{back_again, out_named, read_images, sync_images, write_image}
use Rattle.paraid_image.proofs.UnseenLemmas.{pair_same}
use Rattle.paraid_moves.specs.Copying.{IsCopyImage, IsCopying}
use Rattle.paraid_moves.proofs.FreePlaceLemmas.{free_places_agree}

powers_are : (s i : Disks) → IsImage s i → i.power ≡ s.power
powers_are s i e = λ t. λ d. e.power d t

sizes_are : (s i : Disks) → IsImage s i → i.size ≡ s.size
sizes_are s i e = λ t. λ d. e.size d t

-- The log of disks that have the same powers and say the same is in order.
module _ (s i : Disks) (powers : i.power ≡ s.power) (forth : (x : ℕ) (said : LogState) → x < 2 → Says s x said → Says i x said)
    (back : (x : ℕ) (said : LogState) → x < 2 → Says i x said → Says s x said) (gate : (x : ℕ) → x < 2 → is_open (stored_block i x 0) ≡ is_open (stored_block s x 0)) where
  pub log_between : (x : ℕ) (said : LogState) (k : ℕ) → LogOk s x said k → LogOk i x said k
  log_between x said k ok = record {
    stands = record {
      log_disk = ok.stands.log_disk;
      says = forth x said ok.stands.log_disk ok.stands.says;
      first = λ other q. let low = ok.stands.log_disk in ok.stands.first other (back (other_log x) other (omega arith) q);
    };
    writes = ok.writes;
    single = λ d e p q. ok.single d e (missing d p) (missing e q);
    standing_in = ok.standing_in;
    fresh_closed = λ e u fresh l. gate e l ∙ ok.fresh_closed e u (record { is = fresh.is; present = at e ∙ fresh.present }) l;
    targets_spin = λ t is not. ap (λ (p : ℕ → Power). p t.disk) powers ∙ ok.targets_spin t is (λ o. not (ap (λ (p : ℕ → Power). out_disk p said.meta) powers ∙ o));
    formed = λ y l present not.
        let was = ok.formed y l (at y ∙ present) (λ o. not (ap (λ (p : ℕ → Power). out_disk p said.meta) powers ∙ o)) in
        (was.0, forth y was.0 l was.1);
    paired = λ a b p q first second.
        ok.paired a b (back 0 a (omega arith) p) (back 1 b (omega arith) q)
        (λ o. first (ap (λ (p : ℕ → Power). out_disk p said.meta) powers ∙ o)) (λ o. second (ap (λ (p : ℕ → Power). out_disk p said.meta) powers ∙ o));
  }
    where
      at : (d : ℕ) → is_present (s.power d) ≡ is_present (i.power d)
      at d = ap (λ (p : ℕ → Power). is_present (p d)) (sym powers)

      missing : (d : ℕ) → IsMissing i.power said.meta d → IsMissing s.power said.meta d
      missing d p = subst (λ (f : ℕ → Power). IsMissing f said.meta d) powers p

-- An image in which copies are made
module _ (i : Disks) (m : Meta) (f : Contents) (c : IsCopyImage i m f) where
  abbrev said : LogState
  said = closed_over m

  in_range : IsInRange m
  in_range = c.log.stands.says.log.meta.in_range

  abbrev out_is : Option ℕ
  out_is = out_disk i.power m

  -- each log disk that is not out says the same
  pub all_say : (y : ℕ) → y < 2 → out_is ≢ Some y → Says i y said
  all_say y low not = elim (cases_Bool (is_present (i.power y))) [
    | inr gone ↦
        let n = m.setup.geometry.disks_low in
        absurd (not (missing_is_out i.power m y in_range c.log.single (record { disk = omega arith; is = inl gone }) gone))
    | inl here ↦ elim (cases_eq y c.disk) [
      | inl is ↦ subst (λ (z : ℕ). Says i z said) (sym is) c.log.stands.says
      | inr apart ↦
          let other = c.log.formed y low here not in
          let closed = c.gates.closed y other.0 low other.1 (λ n. not (out_named i.power m y n)) in
          subst (Says i y) (pair_same i c.disk y said other.0 m.writes c.log other.1 low apart not refl closed) other.1
    ]
  ]

  -- the weak disk is the out disk
  weak_out : (w : ℕ) → IsWeak i w → out_is ≡ Some w
  weak_out w (out x other s is) =
      let same = (Stands-same i x c.disk other said s c.log.stands).1 in
      ap (λ (t : LogState). out_disk i.power t.meta) (sym same) ∙ is
  weak_out w (named x first other s none says is) =
      let same = Stands-same i x c.disk first said s c.log.stands in
      let none_out : out_is ≡ None = ap (λ (t : LogState). out_disk i.power t.meta) (sym same.1) ∙ none in
      let low = s.log_disk in
      let not : out_is ≢ Some (other_log x) = (λ o. let z : None ≡ Some (other_log x) = sym none_out ∙ o in cc) in
      let again = Says-is (other_log x) other says (all_say (other_log x) (omega arith) not) in
      out_named i.power m w (ap (λ (t : LogState). named_out t.meta.out) (sym again) ∙ is)
    where
      Says-is : (y : ℕ) (o : LogState) → Says i y o → Says i y said → o ≡ said
      Says-is y o p q = Says-same i y o said p q

  -- so the other log disk says the same where the standing one may be lost
  spare : (d : ℕ) → MayLose i d → (d ≢ c.disk) ⊎ Says i (other_log c.disk) said
  spare d may = elim (cases_eq d c.disk) [
    | inr apart ↦ inl apart
    | inl is ↦
        let low = c.log.stands.log_disk in
        inr (all_say (other_log c.disk) (omega arith) (λ o.
        let w = may.weak (other_log c.disk) (out c.disk said c.log.stands o) in absurd (omega arith)))
  ]

  named_is_out : (e : ℕ) → named_out m.out ≡ Some e → out_is ≡ Some e
  named_is_out e n = out_named i.power m e n

  module _ (slots : ℕ) (h : History) (ok : ContentOk slots i.power i.size (view_by m i.power f) h m.writes) where
    -- the copies leave what is held
    pub copies_hold : ContentOk slots i.power i.size (view_by m i.power (contents i [])) h m.writes
    copies_hold = content_agrees m (out_disk i.power m) f (contents i []) i.power in_range (λ e u fresh. named_is_out e (ap named_out fresh.is))
        (free_places_agree (view_by m i.power f) i.power (contents i []) in_range named_is_out c.only) slots i.size h m.writes ok

    pub copies_sound : IsSoundAt slots i h m.writes
    copies_sound = record { disk = c.disk; said = said; log = c.log; content = copies_hold; witnesses = c.witnesses }

    pub copies_sound_lost : (d : ℕ) → MayLose i d → IsSoundAt slots (lose d i) h m.writes
    copies_sound_lost d may = IsSoundAt-lost slots i h m.writes d c.disk said copies_sound c.log.stands (spare d may) may

-- So the history is held at each moment while copies are made.
pub copying_holds : (slots : ℕ) (s : Disks) (m : Meta) (f : Contents) (h : History) (lo : ℕ) → lo ≤ m.writes → m.writes ≤ length h
    → ContentOk slots s.power s.size (view_by m s.power f) h m.writes → IsCopying s m f → IsHeld slots s h lo (out_disk s.power m)
copying_holds slots s m f h lo low high ok copying = record {
  whole = λ i e. record { k = m.writes; low = low; high = high; sound = copies_sound i m f (copying i e) slots h (ok_at i e) };
  lost = λ i d e may. record { k = m.writes; low = low; high = high; sound = copies_sound_lost i m f (copying i e) slots h (ok_at i e) d may };
  weak = λ i w e weak. ap (λ (p : ℕ → Power). out_disk p m) (sym (powers_are s i e)) ∙ weak_out i m f (copying i e) w weak;
}
  where
    ok_at : (i : Disks) → IsImage s i → ContentOk slots i.power i.size (view_by m i.power f) h m.writes
    ok_at i e =
        subst (λ (p : ℕ → Power). ContentOk slots p i.size (view_by m p f) h m.writes) (sym (powers_are s i e))
        (subst (λ (z : ℕ → ℕ). ContentOk slots s.power z (view_by m s.power f) h m.writes) (sym (sizes_are s i e)) ok)

-- A done read and a done sync leave fewer images.
pub copying_read : (s : Disks) (m : Meta) (f : Contents) (d p : ℕ) → IsCopying s m f → IsCopying (step (Read d p true) s) m f
copying_read s m f d p copying = λ i e. copying i (read_images s d p i e)

pub copying_sync : (s : Disks) (m : Meta) (f : Contents) (d : ℕ) → IsCopying s m f → IsCopying (step (Sync d true) s) m f
copying_sync s m f d copying = λ i e. copying i (sync_images s d i e)

-- this place, or another
same_or_apart : (d p d0 p0 : ℕ) → ((d ≡ d0) × (p ≡ p0)) ⊎ (d ≡ d0 → p ≢ p0)
same_or_apart d p d0 p0 = elim (cases_eq d d0) [
  | inl is ↦ elim (cases_eq p p0) [ inl there ↦ inl (is, there) | inr not ↦ inr (λ _. not) ]
  | inr not ↦ inr (λ is. absurd (not is))
]

-- One more copy is made.
image_written : (i : Disks) (m : Meta) (f : Contents) (d p : ℕ) (b : Block) → IsFree (view_by m i.power f) d p → IsCopyImage i m f → IsCopyImage (overwrite i d p b) m f
image_written i m f d p b free c =
    let keeps = free_log i d p b (free_past (view_by m i.power f) d p free) in
    record {
      disk = c.disk;
      log = log_forth i (written i d p b) keeps c.disk (closed_over m) m.writes c.log;
      gates = record { closed = λ y other low says not. c.gates.closed y other low (keeps.back y other low says) not };
      witnesses = λ y low opened.
          let far = free_past (view_by m i.power f) d p free in
          c.witnesses y low (ap is_open (sym (stored_else i d p b 2 y (λ at here. absurd (omega arith)))) ∙ opened);
      only = λ x q. elim (same_or_apart x q d p) [
        | inl at ↦ inl (subst (λ (y : ℕ). IsFree (view_by m i.power f) y q) (sym at.0) (subst (IsFree (view_by m i.power f) d) (sym at.1) free))
        | inr apart ↦ elim (c.only x q) [
          | inl is ↦ inl is
          | inr same ↦ inr (contents_else i d p b [] x q apart ∙ same)
        ]
      ];
    }

pub copying_write : (s : Disks) (m : Meta) (f : Contents) (d p : ℕ) (b : Block) → IsFree (view_by m s.power f) d p → IsCopying s m f
    → IsCopying (step (Write d p b true) s) m f
copying_write s m f d p b free copying = λ j e.
    let was = write_image s d p b j e in
    let before : Disks = overwrite j d p (s.block d p) in
    let free_then = subst (λ (q : ℕ → Power). IsFree (view_by m q f) d p) (sym (powers_are s before was)) free in
    subst (λ (i : Disks). IsCopyImage i m f) (back_again j d p (s.block d p))
    (image_written before m f d p (j.block d p) free_then (copying before was))

-- at a rest no copy is made yet
module _ (s i : Disks) (synced : AreSynced s) (e : IsImage s i) where
  place_same : (x p : ℕ) → has_place i x p ≡ has_place s x p
  place_same x p =
      ap (λ (q : ℕ → Power). is_present (q x) && nat_lt p (i.size x)) (powers_are s i e)
      ∙ ap (λ (n : ℕ → ℕ). is_present (s.power x) && nat_lt p (n x)) (sizes_are s i e)

  there_present : (x p : ℕ) → has_place s x p ≡ true → IsPresent s x
  there_present x p there = go (is_present (s.power x)) refl there
    where
      go : (b : Bool) → is_present (s.power x) ≡ b → (b && nat_lt p (s.size x)) ≡ true → is_present (s.power x) ≡ true
      go true is h = is
      go false is h = absurd (false≢true h)

  stored_same : (x p : ℕ) → stored_block i x p ≡ stored_block s x p
  unfolding stored_block
  stored_same x p =
      ap (λ (t : Bool). if t then i.block x p else zero_block) (place_same x p)
      ∙ where_there (has_place s x p) (i.block x p) (s.block x p) (λ there. e.block x p (synced x p (there_present x p there)))

  contents_same : (x p : ℕ) → contents i [] x p ≡ contents s [] x p
  unfolding contents
  contents_same x p =
      ap (λ (t : Bool). if nat_lt p log_least then zero_block else (if t then i.block x p else zero_block)) (place_same x p)
      ∙ past_log (nat_lt p log_least) (has_place s x p) (i.block x p) (s.block x p) (λ far there. e.block x p (synced x p (there_present x p there)))

  log_kept : (x : ℕ) → IsLogKept s i x
  log_kept x = record {
    power = e.power x;
    gate = ap is_open (stored_same x 0);
    meta = λ shut. stored_same x 1;
    rest = λ opened o says q low high. stored_same x q;
  }

pub copying_from_rest : (s : Disks) (m : Meta) → IsAtRest s m → AreWitnessesTrue s (out_disk s.power m) → IsCopying s m (contents s [])
copying_from_rest s m rest witnesses = λ i e.
    let forth : (x : ℕ) (o : LogState) → x < 2 → Says s x o → Says i x o = (λ x o l. says_forth s i x o (log_kept s i rest.synced e x)) in
    let back : (x : ℕ) (o : LogState) → x < 2 → Says i x o → Says s x o = (λ x o l. says_back s i x o (log_kept s i rest.synced e x)) in
    record {
      disk = rest.disk;
      log = log_between s i (powers_are s i e) forth back (λ x l. ap is_open (stored_same s i rest.synced e x 0)) rest.disk (closed_over m) m.writes rest.log;
      gates = record {
        closed = λ y other low says not.
            let was = back y other low says in
            sym was.gate ∙ rest.shut y low was.present not;
      };
      witnesses = λ y low opened.
          ap (λ (p : ℕ → Power). out_disk p m) (powers_are s i e) ∙ witnesses y low (ap is_open (sym (stored_same s i rest.synced e 2 y)) ∙ opened);
      only = λ x q. inr (contents_same s i rest.synced e x q);
    }

-- Where all copies are synced, the next commit can begin.
pub rest_from_copying : (s : Disks) (m : Meta) (f : Contents) → AreSynced s → IsCopying s m f → IsAtRest s m
rest_from_copying s m f synced copying =
    let i : Disks = record s { loose = λ d p. false } in
    let e : IsImage s i = record { power = λ d. refl; size = λ d. refl; block = λ d p not. refl; loose = λ d p. refl } in
    let c = copying i e in
    let forth : (x : ℕ) (o : LogState) → x < 2 → Says i x o → Says s x o = (λ x o l. says_back s i x o (log_kept s i synced e x)) in
    let back : (x : ℕ) (o : LogState) → x < 2 → Says s x o → Says i x o = (λ x o l. says_forth s i x o (log_kept s i synced e x)) in
    record {
      synced = synced;
      disk = c.disk;
      log = log_between i s refl forth back (λ x l. ap is_open (sym (stored_same s i synced e x 0))) c.disk (closed_over m) m.writes c.log;
      shut = λ x low here not.
          let other = c.log.formed x low here (out_present s.power m x here not) in
          ap is_open (sym (stored_same s i synced e x 0)) ∙ other.1.gate ∙ c.gates.closed x other.0 low other.1 not;
    }
