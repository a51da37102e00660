-- One call more.
use Rattle.std.proofs.Common.{◌≡◌, ℕ, ◌<◌, ◌≤◌, ◌∙◌, ◌++◌, ◌∷◌, [], length, take, sym, ap, arith, subst, inl, inr, zero, suc}
use Rattle.std.specs.Prelude.{◌⊎◌}
use Rattle.std.proofs.lemmas.Bool.{cases_lt}
use Rattle.std.proofs.lemmas.List.{append-nil, append_assoc, take-append-le, take_all, length-append}
use Rattle.paraid_base.specs.declared.block.Block.{Block}
use Rattle.paraid_base.specs.History.{History, after_all}
use Rattle.paraid_volume.specs.declared.fault.VolFault.{VolFault}
use Rattle.paraid_volume.specs.Lives.{HasLived, LivesMore, VolumeStep, VolAnswer, VolCall, VolLog, next, create, delete, read, write, flush, made, removed, value, wrote, flushed, refused, creates, deletes, reads, writes, flushes, refuses, IsBlockOf, IsLeastUnnamed, IsNamedId, IsCallRefused, IsNameText, IsUnused}
use Rattle.paraid_volume.specs.States.{Adds, Makes, ShowsVolumes, VolumeState, with_volume, without_volume, with_block}
use Rattle.paraid_volume.specs.Tables.{extent_size}
use Rattle.paraid_volume.proofs.LivesLemmas.{life_shows}

module _ (old new : History → Type 0) (count start : ℕ) (log : VolLog) (lived : HasLived old count start log) where
  shown : ShowsVolumes count (after_all lived.writes) lived.state
  shown = life_shows count start lived.writes lived.state log lived.life

  nothing : (k : ℕ) → lived.writes ++ take k [] ≡ lived.writes
  nothing zero = append-nil lived.writes
  nothing (suc k) = append-nil lived.writes

  -- a call that adds no write
  same : (call : VolCall) (answer : VolAnswer) → new lived.writes → VolumeStep count lived.state call answer lived.state → ((number : ℕ) → answer ≡ flushed number → number ≡ length lived.writes)
      → LivesMore old new count start log lived call answer
  same call answer stands step number = record {
    all = record {
      writes = lived.writes ++ [];
      state = lived.state;
      stands = subst new (sym (append-nil lived.writes)) stands;
      life = next lived.writes [] lived.state lived.state log call answer lived.life step
          (λ k. inl (subst (λ (x : History). ShowsVolumes count (after_all x) lived.state) (sym (nothing k)) shown))
          (subst (λ (x : History). ShowsVolumes count (after_all x) lived.state) (sym (append-nil lived.writes)) shown) number;
    };
    step = step;
  }

  -- what holds of each state that is shown
  seen : (P : VolumeState → Type 0) → ((h : History) (s : VolumeState) → old h → ShowsVolumes count (after_all h) s → P s) → P lived.state
  seen P each = each lived.writes lived.state lived.stands shown

  pub lived_refused : (call : VolCall) (fault : VolFault) → ((h : History) → old h → new h) → ((h : History) (s : VolumeState) → old h → ShowsVolumes count (after_all h) s → IsCallRefused s call fault)
      → LivesMore old new count start log lived call (refused fault)
  lived_refused call fault keeps is =
      same call (refused fault) (keeps lived.writes lived.stands) (refuses call fault (seen (λ (s : VolumeState). IsCallRefused s call fault) is)) (λ number e. cc)

  pub lived_read : (id v : ℕ) (bytes : Block) → ((h : History) (s : VolumeState) → old h → ShowsVolumes count (after_all h) s → IsBlockOf s id v) → ((h : History) → old h → new h) → ((h : History) (s : VolumeState) → old h → ShowsVolumes count (after_all h) s → bytes ≡ s.block id v) → LivesMore old new count start log lived (read id v) (value bytes)
  lived_read id v bytes there keeps is =
      subst (λ (x : Block). LivesMore old new count start log lived (read id v) (value x)) (sym (is lived.writes lived.state lived.stands shown))
      (same (read id v) (value (lived.state.block id v)) (keeps lived.writes lived.stands) (reads id v (seen (λ (s : VolumeState). IsBlockOf s id v) there)) (λ number is. cc))

  pub lived_flush : (number : ℕ) → ((h : History) → old h → (number ≡ length h) × new h) → LivesMore old new count start log lived flush (flushed number)
  lived_flush number keeps =
      let kept = keeps lived.writes lived.stands in
      same flush (flushed number) kept.1 (flushes number) (λ n is. (let e : number ≡ n = cc in sym e) ∙ kept.0)

  -- a call that adds writes
  grown : (call : VolCall) (answer : VolAnswer) (t : VolumeState) → VolumeStep count lived.state call answer t → ((number : ℕ) → answer ≡ flushed number → ⊥) → Makes new count lived.writes lived.state t
      → LivesMore old new count start log lived call answer
  grown call answer t step not makes = record {
    all = record {
      writes = lived.writes ++ (makes.more ++ makes.entry ∷ []);
      state = t;
      stands = subst new (append_assoc lived.writes makes.more (makes.entry ∷ [])) makes.stands;
      life = next lived.writes (makes.more ++ makes.entry ∷ []) lived.state t log call answer lived.life step during all (λ number is. absurd (not number is));
    };
    step = step;
  }
    where
      all : ShowsVolumes count (after_all (lived.writes ++ (makes.more ++ makes.entry ∷ []))) t
      all = subst (λ (x : History). ShowsVolumes count (after_all x) t) (append_assoc lived.writes makes.more (makes.entry ∷ [])) makes.shows

      during : (k : ℕ) → ShowsVolumes count (after_all (lived.writes ++ take k (makes.more ++ makes.entry ∷ []))) lived.state ⊎ ShowsVolumes count (after_all (lived.writes ++ take k (makes.more ++ makes.entry ∷ []))) t
      during k = elim (cases_lt (length makes.more) k) [
        | inl l ↦
            let long = length-append makes.more (makes.entry ∷ []) in
            inr (subst (λ (x : History). ShowsVolumes count (after_all (lived.writes ++ x)) t) (sym (take_all k (makes.more ++ makes.entry ∷ []) (omega (arith, l, long)))) all)
        | inr l ↦ inl (subst (λ (x : History). ShowsVolumes count (after_all (lived.writes ++ x)) lived.state) (sym (take-append-le k makes.more (makes.entry ∷ []) l)) (makes.during k))
      ]

  one_entry : (t : VolumeState) → Adds new count lived.writes t → Makes new count lived.writes lived.state t
  one_entry t adds = record {
    more = [];
    entry = adds.entry;
    stands = subst new (ap (λ (x : History). x ++ adds.entry ∷ []) (sym (append-nil lived.writes))) adds.stands;
    during = λ k. subst (λ (x : History). ShowsVolumes count (after_all x) lived.state) (sym (nothing k)) shown;
    shows = subst (λ (x : History). ShowsVolumes count (after_all x) t) (ap (λ (x : History). x ++ adds.entry ∷ []) (sym (append-nil lived.writes))) adds.shows;
  }

  pub lived_write : (id v : ℕ) (bytes : Block) → ((h : History) (s : VolumeState) → old h → ShowsVolumes count (after_all h) s → IsBlockOf s id v) → ((h : History) (s : VolumeState) → old h → ShowsVolumes count (after_all h) s → Adds new count h (with_block s id v bytes)) → LivesMore old new count start log lived (write id v bytes) wrote
  lived_write id v bytes there adds =
      grown (write id v bytes) wrote (with_block lived.state id v bytes) (writes id v bytes (seen (λ (s : VolumeState). IsBlockOf s id v) there)) (λ number is. cc) (one_entry _ (adds lived.writes lived.state lived.stands shown))

  pub lived_delete : (id : ℕ) → ((h : History) (s : VolumeState) → old h → ShowsVolumes count (after_all h) s → IsNamedId s id) → ((h : History) (s : VolumeState) → old h → ShowsVolumes count (after_all h) s → Adds new count h (without_volume (extent_size count) s id)) → LivesMore old new count start log lived (delete id) removed
  lived_delete id named adds =
      grown (delete id) removed (without_volume (extent_size count) lived.state id) (deletes id (seen (λ (s : VolumeState). IsNamedId s id) named)) (λ number is. cc) (one_entry _ (adds lived.writes lived.state lived.stands shown))

  pub lived_create : (text : ℕ → ℕ) (extents id : ℕ) → IsNameText text → 0 < extents
      → ((h : History) (s : VolumeState) → old h → ShowsVolumes count (after_all h) s → IsUnused s text × IsLeastUnnamed s id × (extents ≤ s.free)) → ((h : History) (s : VolumeState) → old h → ShowsVolumes count (after_all h) s → Makes new count h s (with_volume (extent_size count) s id text extents))
      → LivesMore old new count start log lived (create text extents) (made id)
  lived_create text extents id spells some there makes =
      let is = seen (λ (s : VolumeState). IsUnused s text × IsLeastUnnamed s id × (extents ≤ s.free)) there in
      grown (create text extents) (made id) (with_volume (extent_size count) lived.state id text extents) (creates text extents id spells is.0 some is.1 is.2) (λ number is. cc) (makes lived.writes lived.state lived.stands shown)
