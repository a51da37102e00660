-- Any bytes in a neutral place leave what an image stands for as it is.
use Rattle.std.specs.Prelude.{◌≡◌, ◌≢◌, ℕ, ◌+◌, ◌<◌, ◌≤◌, ◌==◌, ◌&&◌, ◌||◌, nat_lt, Bool, true, false, not, [], ◌∷◌, All, Some, length, if◌then◌else◌, ◌⊎◌}
use Rattle.std.proofs.Common.{refl, sym, ◌∙◌, ap, subst, arith, inl, inr, suc}
use Rattle.std.proofs.lemmas.Bool.{cases_Bool, cases_eq, false≢true}
use Rattle.std.proofs.lemmas.Bool.Decides.{nat_tests}
use Rattle.paraid_base.specs.declared.block.Block.{Block}
use Rattle.paraid_base.specs.declared.geometry.Geometry.{Geometry}
use Rattle.paraid_base.specs.History.{History}
use Rattle.paraid_base.specs.Log.{batch_room, body_place, log_least}
use Rattle.paraid_base.specs.Xor.{zero_block}
use Rattle.paraid_rack.specs.Disks.{Disks, with_at}
use Rattle.paraid_rack.proofs.AtomsLemmas.{at_case, with_at_other, with_at_same}
use Rattle.paraid_record.specs.declared.meta.Meta.{Meta}
use Rattle.paraid_record.specs.Targets.{IsTargetInRange, no_target}
use Rattle.paraid_image.specs.Content.{view_by}
use Rattle.paraid_image.specs.HeldAt.{IsSoundFrom}
use Rattle.paraid_image.specs.Neutral.{IsNeutral, names_place, overwrite}
use Rattle.paraid_image.specs.Neutral.IsNeutral.{nowhere, no_log, witness, shut, meta_under_open_gate, unused, target}
use Rattle.paraid_image.specs.Out.{IsWeak, out_disk}
use Rattle.paraid_image.specs.Out.IsWeak.{out, named}
use Rattle.paraid_image.specs.Sides.{AreBlocksLogged, Batch, LogState, Says, SaysBy, Spells, has_place, is_open, stored_block, targets}
use Rattle.paraid_image.specs.Sound.{AreWitnessesTrue, ContentOk, LogOk, IsSoundAt}
use Rattle.paraid_image.specs.Standing.{Contents, Stands, contents, overlaid_block, other_log}
use Rattle.paraid_image.proofs.SidesLemmas.{Says-same}
use Rattle.paraid_image.proofs.StandingLemmas.{Stands-same}

-- one place is written

pub overwritten_here : (i : Disks) (d p : ℕ) (b : Block) (x q : ℕ) → x ≡ d → q ≡ p → (overwrite i d p b).block x q ≡ b
overwritten_here i d p b x q is at =
    ap (λ (f : ℕ → Block). f q) (with_at_same i.block d (with_at (i.block d) p b) x is) ∙ with_at_same (i.block d) p b q at

pub overwritten_else : (i : Disks) (d p : ℕ) (b : Block) (x q : ℕ) → (x ≡ d → q ≢ p) → (overwrite i d p b).block x q ≡ i.block x q
overwritten_else i d p b x q apart =
    at_case (λ (f : ℕ → Block). f q ≡ i.block x q) i.block d (with_at (i.block d) p b) x
    (λ is. with_at_other (i.block d) p b q (apart is) ∙ ap (λ (k : ℕ). i.block k q) (sym is))
    (λ not. refl)

pub where_there : (there : Bool) (x y : Block) → (there ≡ true → x ≡ y) → (if there then x else zero_block) ≡ (if there then y else zero_block)
where_there true x y h = h refl
where_there false x y h = refl

pub past_log : (low there : Bool) (x y : Block) → (low ≡ false → there ≡ true → x ≡ y)
    → (if low then zero_block else (if there then x else zero_block)) ≡ (if low then zero_block else (if there then y else zero_block))
past_log true there x y h = refl
past_log false there x y h = where_there there x y (h refl)

pub stored_else : (i : Disks) (d p : ℕ) (b : Block) (x q : ℕ) → (x ≡ d → q ≡ p → has_place i d p ≡ false) → stored_block (overwrite i d p b) x q ≡ stored_block i x q
unfolding stored_block
stored_else i d p b x q apart = where_there (has_place i x q) _ _ (λ there.
    overwritten_else i d p b x q (λ is at. let none : has_place i x q ≡ false = rw (is, at) (apart is at) in false≢true (sym none ∙ there)))

stored_written : (i : Disks) (d : ℕ) (b : Block) → has_place i d 0 ≡ true → stored_block (overwrite i d 0 b) d 0 ≡ b
unfolding stored_block
stored_written i d b there =
    ap (λ (t : Bool). if t then (overwrite i d 0 b).block d 0 else zero_block) there ∙ overwritten_here i d 0 b d 0 refl refl

above : (q : ℕ) → nat_lt q log_least ≡ false → log_least ≤ q
above q h = grind (arith, nat_tests)

pub contents_over : (i : Disks) (d p : ℕ) (b : Block) (batch : Batch)
    → ((x q : ℕ) → x ≡ d → q ≡ p → log_least ≤ q → has_place i x q ≡ true → overlaid_block batch x q b ≡ overlaid_block batch x q (i.block x q))
    → contents (overwrite i d p b) batch ≡ contents i batch
unfolding contents
contents_over i d p b batch h = λ t. λ x q. (past_log (nat_lt q log_least) (has_place i x q)
    (overlaid_block batch x q ((overwrite i d p b).block x q)) (overlaid_block batch x q (i.block x q)) (λ low there.
    elim (cases_eq x d) [
      | inl is ↦ elim (cases_eq q p) [
        | inl at ↦ ap (overlaid_block batch x q) (overwritten_here i d p b x q is at) ∙ h x q is at (above q low) there
        | inr off ↦ ap (overlaid_block batch x q) (overwritten_else i d p b x q (λ e. off))
      ]
      | inr off ↦ ap (overlaid_block batch x q) (overwritten_else i d p b x q (λ e. absurd (off e)))
    ])) t

pub contents_else : (i : Disks) (d p : ℕ) (b : Block) (batch : Batch) (x q : ℕ) → (x ≡ d → q ≢ p) → contents (overwrite i d p b) batch x q ≡ contents i batch x q
unfolding contents
contents_else i d p b batch x q apart = past_log (nat_lt q log_least) (has_place i x q)
    (overlaid_block batch x q ((overwrite i d p b).block x q)) (overlaid_block batch x q (i.block x q))
    (λ low there. ap (overlaid_block batch x q) (overwritten_else i d p b x q apart))

-- what log disks say

AreBlocksLogged-kept : (f g : ℕ → Block) (p : ℕ) (batch : Batch) → ((q : ℕ) → p ≤ q → q < p + length batch → g q ≡ f q) → AreBlocksLogged f p batch → AreBlocksLogged g p batch
AreBlocksLogged-kept f g p [] h logged = tt
AreBlocksLogged-kept f g p (w ∷ batch) h logged =
    (h p (omega arith) (omega arith) ∙ logged.0, AreBlocksLogged-kept f g (suc p) batch (λ q low high. h q (omega arith) (omega arith)) logged.1)

pub SaysBy-kept : (opened : Bool) (f g : ℕ → Block) (m : Meta) (batch : Batch) → (opened ≡ false → g 1 ≡ f 1)
    → (opened ≡ true → (q : ℕ) → 2 ≤ q → q < body_place (length batch) → g q ≡ f q) → SaysBy opened f m batch → SaysBy opened g m batch
SaysBy-kept false f g m batch one rest s = record {
  meta = subst (λ (b : Block). Spells b m) (sym (one refl)) s.meta;
  empty = s.empty;
}
SaysBy-kept true f g m batch one rest s = record {
  meta = subst (λ (b : Block). Spells b m) (sym (rest refl 2 (omega arith) (omega arith))) s.meta;
  in_range = s.in_range;
  list = ap (λ (b : Block). b.bytes) (rest refl 3 (omega arith) (omega arith)) ∙ s.list;
  blocks = AreBlocksLogged-kept f g 4 batch (λ q low high. rest refl q (omega arith) high) s.blocks;
}

pub length-targets : (batch : Batch) → length (targets batch) ≡ length batch
length-targets [] = refl
length-targets (w ∷ batch) = ap suc (length-targets batch)

pub few_logged : (opened : Bool) (log : ℕ → Block) (m : Meta) (batch : Batch) → SaysBy opened log m batch → length batch ≤ batch_room
few_logged false log m batch s = rw s.empty (omega arith)
few_logged true log m batch s = let few = s.in_range.few in let same = length-targets batch in omega arith

-- the places that are looked at of the log of disk `x` hold the same
pub record IsLogKept (i j : Disks) (x : ℕ) : Type 0 where
  pub power : j.power x ≡ i.power x
  pub gate : is_open (stored_block j x 0) ≡ is_open (stored_block i x 0)
  pub meta : is_open (stored_block i x 0) ≡ false → stored_block j x 1 ≡ stored_block i x 1
  pub rest : is_open (stored_block i x 0) ≡ true → (said : LogState) → (Says i x said ⊎ Says j x said) → (q : ℕ) → 2 ≤ q → q < body_place (length said.batch) → stored_block j x q ≡ stored_block i x q

pub says_forth : (i j : Disks) (x : ℕ) (said : LogState) → IsLogKept i j x → Says i x said → Says j x said
says_forth i j x said kept s = record {
  present = rw kept.power s.present;
  gate = kept.gate ∙ s.gate;
  log = SaysBy-kept said.opened (stored_block i x) (stored_block j x) said.meta said.batch
      (λ closed. kept.meta (s.gate ∙ closed)) (λ opened. kept.rest (s.gate ∙ opened) said (inl s)) s.log;
}

pub says_back : (i j : Disks) (x : ℕ) (said : LogState) → IsLogKept i j x → Says j x said → Says i x said
says_back i j x said kept s =
    let gate : is_open (stored_block i x 0) ≡ said.opened = sym kept.gate ∙ s.gate in
    record {
      present = rw (sym kept.power) s.present;
      gate = gate;
      log = SaysBy-kept said.opened (stored_block j x) (stored_block i x) said.meta said.batch
          (λ closed. sym (kept.meta (gate ∙ closed))) (λ opened q low high. sym (kept.rest (gate ∙ opened) said (inr s) q low high)) s.log;
    }

-- the disks with these blocks
abbrev pub with_blocks : Disks → (ℕ → ℕ → Block) → Disks
with_blocks i f = record i { block = f }

abbrev pub written : Disks → ℕ → ℕ → Block → ℕ → ℕ → Block
written i d p b = with_at i.block d (with_at (i.block d) p b)

-- other blocks leave what log disks say
pub record KeepsLog (i : Disks) (f : ℕ → ℕ → Block) : Type 0 where
  pub forth : (x : ℕ) (said : LogState) → x < 2 → Says i x said → Says (with_blocks i f) x said
  pub back : (x : ℕ) (said : LogState) → x < 2 → Says (with_blocks i f) x said → Says i x said
  pub gate : (x : ℕ) → x < 2 → is_open (stored_block (with_blocks i f) x 0) ≡ is_open (stored_block i x 0)

-- and the contents and the witnesses too
pub record Keeps (i : Disks) (f : ℕ → ℕ → Block) : Type 0 where
  pub log : KeepsLog i f
  pub contents : (x : ℕ) (said : LogState) → Stands i x said → contents (with_blocks i f) said.batch ≡ contents i said.batch
  pub witnesses : (x : ℕ) (said : LogState) → Stands i x said → AreWitnessesTrue i (out_disk i.power said.meta)
      → AreWitnessesTrue (with_blocks i f) (out_disk i.power said.meta)

-- the places of the witnesses are open where they were
abbrev pub SameWitnesses : Disks → (ℕ → ℕ → Block) → Type 0
SameWitnesses i f = (x : ℕ) → x < 2 → is_open (stored_block (with_blocks i f) 2 x) ≡ is_open (stored_block i 2 x)

module _ (i : Disks) (f : ℕ → ℕ → Block) (keeps : KeepsLog i f) where
  abbrev new : Disks
  new = with_blocks i f

  pub stands_forth : (x : ℕ) (said : LogState) → Stands i x said → Stands new x said
  stands_forth x said s = record {
    log_disk = s.log_disk;
    says = keeps.forth x said s.log_disk s.says;
    first = λ other q. s.first other (keeps.back (other_log x) other (omega arith) q);
  }

  pub stands_back : (x : ℕ) (said : LogState) → Stands new x said → Stands i x said
  stands_back x said s = record {
    log_disk = s.log_disk;
    says = keeps.back x said s.log_disk s.says;
    first = λ other q. s.first other (keeps.forth (other_log x) other (omega arith) q);
  }

  pub weak_forth : (w : ℕ) → IsWeak i w → IsWeak new w
  weak_forth w (out x said s e) = out x said (stands_forth x said s) e
  weak_forth w (named x said other s none q e) = named x said other (stands_forth x said s) none (keeps.forth (other_log x) other (omega arith) q) e

  pub weak_back : (w : ℕ) → IsWeak new w → IsWeak i w
  weak_back w (out x said s e) = out x said (stands_back x said s) e
  weak_back w (named x said other s none q e) = named x said other (stands_back x said s) none (keeps.back (other_log x) other (omega arith) q) e

  pub log_forth : (x : ℕ) (said : LogState) (k : ℕ) → LogOk i x said k → LogOk new x said k
  log_forth x said k ok = record {
    stands = stands_forth x said ok.stands;
    writes = ok.writes;
    single = ok.single;
    standing_in = ok.standing_in;
    fresh_closed = λ e rebuilt fresh l. keeps.gate e l ∙ ok.fresh_closed e rebuilt fresh l;
    targets_spin = ok.targets_spin;
    formed = λ y l present in_array. let was = ok.formed y l present in_array in (was.0, keeps.forth y was.0 l was.1);
    paired = λ a c says_a says_c in_first in_second.
        ok.paired a c (keeps.back 0 a (omega arith) says_a) (keeps.back 1 c (omega arith) says_c) in_first in_second;
  }

module _ (i : Disks) (f : ℕ → ℕ → Block) (keeps : Keeps i f) where
  pub sound_forth : (slots : ℕ) (h : History) (k : ℕ) → IsSoundAt slots i h k → IsSoundAt slots (with_blocks i f) h k
  sound_forth slots h k s = record {
    disk = s.disk;
    said = s.said;
    log = log_forth i f keeps.log s.disk s.said k s.log;
    content = subst (λ (g : Contents). ContentOk slots i.power i.size (view_by s.said.meta i.power g) h k)
        (sym (keeps.contents s.disk s.said s.log.stands)) s.content;
    witnesses = keeps.witnesses s.disk s.said s.log.stands s.witnesses;
  }

  pub is_sound_forth : (slots : ℕ) (h : History) (lo : ℕ) → IsSoundFrom slots i h lo → IsSoundFrom slots (with_blocks i f) h lo
  is_sound_forth slots h lo s = record { k = s.k; low = s.low; high = s.high; sound = sound_forth slots h s.k s.sound }

pub keeps_log_by : (i : Disks) (f : ℕ → ℕ → Block) → ((x : ℕ) → x < 2 → IsLogKept i (with_blocks i f) x) → KeepsLog i f
keeps_log_by i f kept = record {
  forth = λ x said l s. says_forth i (with_blocks i f) x said (kept x l) s;
  back = λ x said l s. says_back i (with_blocks i f) x said (kept x l) s;
  gate = λ x l. (kept x l).gate;
}

pub keeps_by : (i : Disks) (f : ℕ → ℕ → Block) → ((x : ℕ) → x < 2 → IsLogKept i (with_blocks i f) x)
    → ((x : ℕ) (said : LogState) → Stands i x said → contents (with_blocks i f) said.batch ≡ contents i said.batch)
    → SameWitnesses i f → Keeps i f
keeps_by i f kept same seen = record {
  log = keeps_log_by i f kept;
  contents = same;
  witnesses = λ x said s true y l opened. true y l (sym (seen y l) ∙ opened);
}

-- a write of the log leaves the contents
pub contents_log : (i : Disks) (d p : ℕ) (b : Block) → p < log_least → (x : ℕ) (said : LogState) → Stands i x said → contents (overwrite i d p b) said.batch ≡ contents i said.batch
contents_log i d p b l x said s = contents_over i d p b said.batch (λ y q is at past there. absurd (omega arith))

pub keeps_nowhere : (i : Disks) (d p : ℕ) (b : Block) → has_place i d p ≡ false → Keeps i (written i d p b)
keeps_nowhere i d p b none = keeps_by i (written i d p b)
    (λ x l. record {
      power = refl;
      gate = ap is_open (stored_else i d p b x 0 (λ is at. none));
      meta = λ closed. stored_else i d p b x 1 (λ is at. none);
      rest = λ opened said says q low high. stored_else i d p b x q (λ is at. none);
    })
    (λ x said s. contents_over i d p b said.batch (λ y q is at past there.
    let not_there : has_place i y q ≡ false = rw (is, at) none in absurd (false≢true (sym not_there ∙ there))))
    (λ x l. ap is_open (stored_else i d p b 2 x (λ is at. none)))

no_log_kept : (i : Disks) (d p : ℕ) (b : Block) → 2 ≤ d → (x : ℕ) → x < 2 → IsLogKept i (overwrite i d p b) x
no_log_kept i d p b far x low = record {
  power = refl;
  gate = ap is_open (stored_else i d p b x 0 (λ is at. absurd (omega arith)));
  meta = λ closed. stored_else i d p b x 1 (λ is at. absurd (omega arith));
  rest = λ opened said says q lower high. stored_else i d p b x q (λ is at. absurd (omega arith));
}

pub keeps_no_log : (i : Disks) (d p : ℕ) (b : Block) → 2 ≤ d → p < log_least → (d ≡ 2 → 2 ≤ p) → Keeps i (written i d p b)
keeps_no_log i d p b far l off = keeps_by i (written i d p b) (no_log_kept i d p b far) (contents_log i d p b l)
    (λ x low. ap is_open (stored_else i d p b 2 x (λ is at. let past = off (sym is) in absurd (omega arith))))

-- a place of a witness may hold anything where it is true by all that stands
pub keeps_witness : (i : Disks) (d p : ℕ) (b : Block) → d ≡ 2 → p < 2
    → ((x : ℕ) (said : LogState) → Stands i x said → out_disk i.power said.meta ≡ Some p) → Keeps i (written i d p b)
keeps_witness i d p b second l is_out = record {
  log = keeps_log_by i (written i d p b) (no_log_kept i d p b (omega arith));
  contents = contents_log i d p b (omega arith);
  witnesses = λ x said s true y low opened. elim (cases_eq y p) [
    | inl here ↦ is_out x said s ∙ ap Some (sym here)
    | inr off ↦ true y low (ap is_open (sym (stored_else i d p b 2 y (λ is at. absurd (off at)))) ∙ opened)
  ];
}

pub keeps_shut : (i : Disks) (d p : ℕ) (b : Block) → is_open (stored_block i d 0) ≡ false → 2 ≤ p → p < log_least → Keeps i (written i d p b)
keeps_shut i d p b closed far l = keeps_by i (written i d p b)
    (λ x low. record {
      power = refl;
      gate = ap is_open (stored_else i d p b x 0 (λ is at. absurd (omega arith)));
      meta = λ shut_too. stored_else i d p b x 1 (λ is at. absurd (omega arith));
      rest = λ opened said says q lower high. stored_else i d p b x q (λ is at.
          absurd (false≢true (sym closed ∙ ap (λ (y : ℕ). is_open (stored_block i y 0)) (sym is) ∙ opened)));
    })
    (contents_log i d p b l)
    (λ x low. ap is_open (stored_else i d p b 2 x (λ is at. absurd (omega arith))))

pub keeps_meta_under_open_gate : (i : Disks) (d p : ℕ) (b : Block) → d < 2 → is_open (stored_block i d 0) ≡ true → p ≡ 1 → Keeps i (written i d p b)
keeps_meta_under_open_gate i d p b log_disk opened one = keeps_by i (written i d p b)
    (λ x low. record {
      power = refl;
      gate = ap is_open (stored_else i d p b x 0 (λ is at. absurd (omega arith)));
      meta = λ closed. stored_else i d p b x 1 (λ is at.
          absurd (false≢true (sym closed ∙ ap (λ (y : ℕ). is_open (stored_block i y 0)) is ∙ opened)));
      rest = λ opened_too said says q lower high. stored_else i d p b x q (λ is at. absurd (omega arith));
    })
    (contents_log i d p b (omega arith))
    (λ x low. ap is_open (stored_else i d p b 2 x (λ is at. absurd (omega arith))))

-- the disk that is written says the same before and after
unused_forth : (i : Disks) (d p : ℕ) (b : Block) (said : LogState) → Says i d said → said.opened ≡ true → body_place (length said.batch) ≤ p → Says (overwrite i d p b) d said
unused_forth i d p b said s opened past = record {
  present = s.present;
  gate = ap is_open (stored_else i d p b d 0 (λ is at. absurd (omega arith))) ∙ s.gate;
  log = SaysBy-kept said.opened (stored_block i d) (stored_block (overwrite i d p b) d) said.meta said.batch
      (λ closed. stored_else i d p b d 1 (λ is at. absurd (omega arith)))
      (λ is_opened q low high. stored_else i d p b d q (λ is at. absurd (omega arith))) s.log;
}

same_said : (i : Disks) (d p : ℕ) (b : Block) (said other : LogState) → Says i d said → Says (overwrite i d p b) d said
    → (Says i d other ⊎ Says (overwrite i d p b) d other) → length other.batch ≡ length said.batch
same_said i d p b said other s t (inl u) = ap (λ (z : LogState). length z.batch) (Says-same i d other said u s)
same_said i d p b said other s t (inr u) = ap (λ (z : LogState). length z.batch) (Says-same (overwrite i d p b) d other said u t)

pub keeps_unused : (i : Disks) (d p : ℕ) (b : Block) (said : LogState) → Says i d said → said.opened ≡ true → body_place (length said.batch) ≤ p → p < log_least → Keeps i (written i d p b)
keeps_unused i d p b said s opened past l =
    let t = unused_forth i d p b said s opened past in
    keeps_by i (written i d p b)
    (λ x low. record {
      power = refl;
      gate = ap is_open (stored_else i d p b x 0 (λ is at. absurd (omega arith)));
      meta = λ closed. stored_else i d p b x 1 (λ is at. absurd (omega arith));
      rest = λ opened_too other says q lower high. stored_else i d p b x q (λ is at.
          let there = subst (λ (y : ℕ). Says i y other ⊎ Says (overwrite i d p b) y other) is says in
          let long = same_said i d p b said other s t there in
          absurd (omega arith));
    })
    (contents_log i d p b l)
    (λ x low. ap is_open (stored_else i d p b 2 x (λ is at. absurd (omega arith))))

-- a gate is only open or closed
gate_written : (i : Disks) (d : ℕ) (b : Block) → is_open b ≡ is_open (stored_block i d 0) → is_open (stored_block (overwrite i d 0 b) d 0) ≡ is_open (stored_block i d 0)
gate_written i d b same = elim (cases_Bool (has_place i d 0)) [
  | inl there ↦ ap is_open (stored_written i d b there) ∙ same
  | inr none ↦ ap is_open (stored_else i d 0 b d 0 (λ is at. none))
]

pub keeps_gate : (i : Disks) (d : ℕ) (b : Block) → is_open b ≡ is_open (stored_block i d 0) → Keeps i (written i d 0 b)
keeps_gate i d b same = keeps_by i (written i d 0 b)
    (λ x l. record {
      power = refl;
      gate = gate_same x;
      meta = λ closed. stored_else i d 0 b x 1 (λ is at. absurd (omega arith));
      rest = λ opened said says q low high. stored_else i d 0 b x q (λ is at. absurd (omega arith));
    })
    (contents_log i d 0 b (omega arith))
    (λ x l. elim (cases_eq x 0) [
      | inl first ↦ subst (λ (z : ℕ). is_open (stored_block (overwrite i d 0 b) 2 z) ≡ is_open (stored_block i 2 z)) (sym first) (gate_same 2)
      | inr not ↦ ap is_open (stored_else i d 0 b 2 x (λ is at. absurd (not at)))
    ])
  where
    gate_same : (x : ℕ) → is_open (stored_block (overwrite i d 0 b) x 0) ≡ is_open (stored_block i x 0)
    gate_same x = elim (cases_eq x d) [
      | inl is ↦ ap (λ (z : ℕ). is_open (stored_block (overwrite i d 0 b) z 0)) is ∙ gate_written i d b same ∙ ap (λ (z : ℕ). is_open (stored_block i z 0)) (sym is)
      | inr not ↦ ap is_open (stored_else i d 0 b x 0 (λ is at. absurd (not is)))
    ]

-- targets

pub overlaid_block-named : (batch : Batch) (d p : ℕ) (b c : Block) → names_place batch d p ≡ true → overlaid_block batch d p b ≡ overlaid_block batch d p c
overlaid_block-named [] d p b c h = absurd (false≢true h)
overlaid_block-named (w ∷ batch) d p b c h = elim (cases_Bool (w.0.disk == d && w.0.place == p)) [
  | inl is ↦ rw is refl
  | inr not ↦ let later : names_place batch d p ≡ true = ap (λ (t : Bool). t || names_place batch d p) (sym not) ∙ h in rw not (overlaid_block-named batch d p b c later)
]

named_place : (d e p q : ℕ) → (d == e && p == q) ≡ true → p ≡ q
named_place d e p q h = grind (arith, nat_tests)

pub named_past : (g : Geometry) (batch : Batch) (d p : ℕ) → All (IsTargetInRange g) (targets batch) → names_place batch d p ≡ true → log_least ≤ p
named_past g [] d p all h = absurd (false≢true h)
named_past g (w ∷ batch) d p all h = elim (cases_Bool (w.0.disk == d && w.0.place == p)) [
  | inl is ↦ let at = named_place w.0.disk d w.0.place p is in let low = (all 0 no_target (omega arith)).past_log in omega arith
  | inr not ↦ let later : names_place batch d p ≡ true = ap (λ (t : Bool). t || names_place batch d p) (sym not) ∙ h in
      named_past g batch d p (λ k e l. all (suc k) e (omega arith)) later
]

pub target_past : (opened : Bool) (log : ℕ → Block) (m : Meta) (batch : Batch) (d p : ℕ) → SaysBy opened log m batch → names_place batch d p ≡ true → log_least ≤ p
target_past false log m batch d p s h =
    absurd (false≢true (ap (λ (ws : Batch). names_place ws d p) (sym s.empty) ∙ h))
target_past true log m batch d p s h = named_past m.setup.geometry batch d p s.in_range.each h

-- a place past the log is in no log
pub log_kept_past : (i : Disks) (d p : ℕ) (b : Block) → log_least ≤ p → (x : ℕ) → IsLogKept i (overwrite i d p b) x
log_kept_past i d p b far x = record {
  power = refl;
  gate = ap is_open (stored_else i d p b x 0 (λ is at. absurd (omega arith)));
  meta = λ closed. stored_else i d p b x 1 (λ is at. absurd (omega arith));
  rest = λ opened said says q low high. stored_else i d p b x q (λ is at.
      let few : length said.batch ≤ batch_room = elim says [
        | inl s ↦ few_logged said.opened (stored_block i x) said.meta said.batch s.log
        | inr s ↦ few_logged said.opened (stored_block (overwrite i d p b) x) said.meta said.batch s.log
      ] in
      absurd (omega arith));
}

-- every standing batch names the place
pub keeps_target : (i : Disks) (d p : ℕ) (b : Block) → log_least ≤ p
    → ((x : ℕ) (said : LogState) → Stands i x said → names_place said.batch d p ≡ true) → Keeps i (written i d p b)
keeps_target i d p b far all = keeps_by i (written i d p b) (λ x low. log_kept_past i d p b far x)
    (λ x said s. contents_over i d p b said.batch (λ y q is at past there.
    overlaid_block-named said.batch y q b (i.block y q) (rw (is, at) (all x said s))))
    (λ x low. ap is_open (stored_else i d p b 2 x (λ is at. absurd (omega arith))))

pub keeps_neutral : (i : Disks) (d p : ℕ) (b : Block) → IsNeutral i d p → Keeps i (written i d p b)
keeps_neutral i d p b (nowhere none) = keeps_nowhere i d p b none
keeps_neutral i d p b (no_log far l off) = keeps_no_log i d p b far l off
keeps_neutral i d p b (witness x said s apart is second l) = keeps_witness i d p b second l
    (λ y other t. ap (λ (z : LogState). out_disk i.power z.meta) ((Stands-same i y x other said t s).1) ∙ is)
keeps_neutral i d p b (shut closed far l) = keeps_shut i d p b closed far l
keeps_neutral i d p b (meta_under_open_gate log_disk opened one) = keeps_meta_under_open_gate i d p b log_disk opened one
keeps_neutral i d p b (unused said s opened past l) = keeps_unused i d p b said s opened past l
keeps_neutral i d p b (target x said s is others) =
    keeps_target i d p b (target_past said.opened (stored_block i x) said.meta said.batch d p s.says.log is)
    (λ y other t. ap (λ (z : LogState). names_place z.batch d p) ((Stands-same i y x other said t s).1) ∙ is)
