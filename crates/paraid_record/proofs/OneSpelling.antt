-- Values with the same spelling are the same
use Rattle.std.specs.Prelude.{◌≡◌, ℕ, ◌≤◌, ◌<◌, List, [], ◌∷◌, ◌++◌, All, length, take, drop, slice_index, refl}
use Rattle.std.proofs.Common.{arith, ap, inl, inr, sym, subst, suc, ◌∙◌}
use Rattle.std.proofs.lemmas.Bool.{cases_lt}
use Rattle.std.proofs.lemmas.List.{append_assoc, drop_at, take_at}
use Rattle.paraid_base.specs.declared.geometry.Geometry.{Geometry}
use Rattle.paraid_base.specs.declared.state.Phase.{Phase}
use Rattle.paraid_base.specs.declared.state.Phase.TheVariants.{Steady, Down, Up}
use Rattle.paraid_base.specs.declared.state.Out.{Out}
use Rattle.paraid_base.specs.declared.state.Out.TheVariants.{No, Gone, Fresh}
use Rattle.paraid_base.specs.Gears.{AreFlagsOf}
use Rattle.paraid_base.specs.Log.{batch_room}
use Rattle.paraid_record.specs.declared.meta.Mode.{Mode}
use Rattle.paraid_record.specs.declared.meta.Mode.TheVariants.{Whole, Access}
use Rattle.paraid_record.specs.declared.meta.Setup.{Setup}
use Rattle.paraid_record.specs.declared.meta.Meta.{Meta}
use Rattle.paraid_record.specs.declared.targets.Target.{Target}
use Rattle.paraid_record.specs.Codes.{mode_code, phase_code, phase_to, out_code, fresh_code, rebuilt_count, gear_list, window_count, burst_code, period_code}
use Rattle.paraid_record.specs.Range.{IsInRange, IsOutInRange, IsSetupInRange, IsVersionInRange}
use Rattle.paraid_record.specs.Spelling.{big_endian, zero_filled, shorts}
use Rattle.paraid_record.specs.Meta.{clock_bytes, count_bytes, geometry_bytes, growth_bytes, heading_bytes, meta_bytes, policy_bytes, state_bytes}
use Rattle.paraid_record.specs.Targets.{FitsBytes, no_target, places_bytes, targets_bytes}
use Rattle.paraid_record.proofs.GearLemmas.{ascends, length-gears_below}
use Rattle.paraid_record.proofs.GeometryLemmas.{same_flags, same_geometry}
use Rattle.paraid_record.proofs.PartLemmas.{burst_code_small, burst_small, energy-parts, figure_small, fill_small, fresh_code_small, gear_small, geometry-parts, growth-parts, length-filled, meta-parts, mode_code_small, out_code_small, period_code_small, period_small, phase_code_small, phase_to_small, policy-parts, rebuilt_small, spins_small, state_left, window_count_small, windows_small}
use Rattle.paraid_record.proofs.SpellingLemmas.{big_endian-cancel, heading-dropped}
use Rattle.paraid_record.proofs.TargetLemmas.{targets-parts}

same_front : (xs ys r s : List ℕ) → length xs ≡ length ys → xs ++ r ≡ ys ++ s → (xs ≡ ys) × (r ≡ s)
same_front xs ys r s l e = (
  sym (take_at xs r (length xs) refl) ∙ ap (take (length xs)) e ∙ take_at ys s (length xs) (sym l),
  sym (drop_at xs r (length xs) refl) ∙ ap (drop (length xs)) e ∙ drop_at ys s (length xs) (sym l),
)

shorts-cancel : (xs ys r s : List ℕ) → length xs ≡ length ys → ((k : ℕ) → slice_index xs k < 65536) → ((k : ℕ) → slice_index ys k < 65536)
    → shorts xs ++ r ≡ shorts ys ++ s → (xs ≡ ys) × (r ≡ s)
shorts-cancel [] [] r s l f g e = (refl, e)
shorts-cancel [] (y ∷ ys) r s l f g e = absurd (omega arith)
shorts-cancel (x ∷ xs) [] r s l f g e = absurd (omega arith)
shorts-cancel (x ∷ xs) (y ∷ ys) r s l f g e =
    let head = big_endian-cancel 2 x y (shorts xs ++ r) (shorts ys ++ s) (f 0) (g 0)
    (sym (append_assoc (big_endian 2 x) (shorts xs) r) ∙ e ∙ append_assoc (big_endian 2 y) (shorts ys) s) in
    let tail = shorts-cancel xs ys r s (omega arith) (λ k. f (suc k)) (λ k. g (suc k)) head.1 in
    ((λ i. head.0 i ∷ tail.0 i), tail.1)

zero_filled-cancel : (xs ys : List ℕ) → length xs ≡ length ys → zero_filled 8 xs ≡ zero_filled 8 ys → xs ≡ ys
unfolding zero_filled
zero_filled-cancel xs ys l e = (same_front xs ys _ _ l e).0

same_mode : (a b : Mode) → mode_code a ≡ mode_code b → a ≡ b
same_mode Whole Whole e = refl
same_mode Access Access e = refl
same_mode Whole Access e = absurd (omega arith)
same_mode Access Whole e = absurd (omega arith)

same_phase : (a b : Phase) → phase_code a ≡ phase_code b → phase_to a ≡ phase_to b → a ≡ b
same_phase Steady Steady e f = refl
same_phase Steady (Down b) e f = absurd (omega arith)
same_phase Steady (Up b) e f = absurd (omega arith)
same_phase (Down a) Steady e f = absurd (omega arith)
same_phase (Down a) (Down b) e f = ap Down f
same_phase (Down a) (Up b) e f = absurd (omega arith)
same_phase (Up a) Steady e f = absurd (omega arith)
same_phase (Up a) (Down b) e f = absurd (omega arith)
same_phase (Up a) (Up b) e f = ap Up f

same_out : (g h : Geometry) (p q : ℕ) (a b : Out) → IsOutInRange g p a → IsOutInRange h q b
    → out_code a ≡ out_code b → fresh_code a ≡ fresh_code b → rebuilt_count a ≡ rebuilt_count b → a ≡ b
same_out g h p q No No r s e f k = refl
same_out g h p q No (Gone d) r s e f k = let top = h.disks_high in absurd (omega arith)
same_out g h p q No (Fresh d u) r s e f k = absurd (omega arith)
same_out g h p q (Gone d) No r s e f k = let top = g.disks_high in absurd (omega arith)
same_out g h p q (Gone c) (Gone d) r s e f k = ap Gone e
same_out g h p q (Gone c) (Fresh d u) r s e f k = absurd (omega arith)
same_out g h p q (Fresh d u) No r s e f k = absurd (omega arith)
same_out g h p q (Fresh c t) (Gone d) r s e f k = absurd (omega arith)
same_out g h p q (Fresh c t) (Fresh d u) r s e f k = λ i. Fresh (e i) (k i)

marks_of : (h : Geometry) → AreFlagsOf (gear_list h) (length (gear_list h)) h.gears
marks_of h =
    let up = ascends h 9 in
    record {
      each = up.member;
      only = λ a e. up.has a (let l = h.gears_high a e in let t = h.disks_high in omega arith) e;
    }

geometry-cancel : (g h : Geometry) (r s : List ℕ) → geometry_bytes g ++ r ≡ geometry_bytes h ++ s → (g ≡ h) × (r ≡ s)
geometry-cancel g h r s e =
    let a = length-gears_below g 9 in
    let b = length-gears_below h 9 in
    let disks = big_endian-cancel 1 g.disks h.disks _ _ (let t = g.disks_high in omega arith) (let t = h.disks_high in omega arith)
    (sym (geometry-parts g r) ∙ e ∙ geometry-parts h s) in
    let count = big_endian-cancel 1 (length (gear_list g)) (length (gear_list h)) _ _ (omega arith) (omega arith) disks.1 in
    let gears = same_front (zero_filled 8 (gear_list g)) (zero_filled 8 (gear_list h)) _ _
    (length-filled 8 (gear_list g) (omega arith) ∙ sym (length-filled 8 (gear_list h) (omega arith))) count.1 in
    let rows = big_endian-cancel 4 g.rows h.rows r s (let t = g.rows_high in omega arith) (let t = h.rows_high in omega arith) gears.1 in
    let list = zero_filled-cancel (gear_list g) (gear_list h) count.0 gears.0 in
    let P : List ℕ → Type 0 = λ xs. AreFlagsOf xs (length xs) h.gears in
    let flags = same_flags g h (subst P (sym list) (marks_of h)) in
    (same_geometry g h disks.0 rows.0 (sym flags), rows.1)

-- what a setup says but its energy figures, the burst and the period
record SamePolicy (a b : Setup) : Type 0 where
  rate : a.rate ≡ b.rate
  service : a.service ≡ b.service
  up : a.up ≡ b.up
  down : a.down ≡ b.down
  mode : a.mode ≡ b.mode
  windows : a.windows ≡ b.windows
  ration : a.ration ≡ b.ration

policy-cancel : (a b : Setup) (r s : List ℕ) → IsSetupInRange a → IsSetupInRange b → policy_bytes a ++ r ≡ policy_bytes b ++ s → SamePolicy a b × (r ≡ s)
policy-cancel a b r s f g e =
    let rate = big_endian-cancel 4 a.rate b.rate _ _ (omega (arith, f.rate)) (omega (arith, g.rate)) (sym (policy-parts a r) ∙ e ∙ policy-parts b s) in
    let service = big_endian-cancel 4 a.service b.service _ _ (omega (arith, f.service)) (omega (arith, g.service)) rate.1 in
    let up = big_endian-cancel 1 a.up b.up _ _ (omega (arith, f.up)) (omega (arith, g.up)) service.1 in
    let down = big_endian-cancel 1 a.down b.down _ _ (omega (arith, f.down)) (omega (arith, g.down)) up.1 in
    let mode = big_endian-cancel 1 (mode_code a.mode) (mode_code b.mode) _ _ (mode_code_small a.mode) (mode_code_small b.mode) down.1 in
    let count = big_endian-cancel 1 (window_count a.windows) (window_count b.windows) _ _ (window_count_small a.windows f.windows) (window_count_small b.windows g.windows) mode.1 in
    let windows = shorts-cancel a.windows b.windows _ _ (f.windows.three ∙ sym g.windows.three) (windows_small a.windows f.windows) (windows_small b.windows g.windows) count.1 in
    let ration = big_endian-cancel 2 a.ration b.ration r s (omega (arith, f.ration)) (omega (arith, g.ration)) windows.1 in (
      record {
        rate = rate.0;
        service = service.0;
        up = up.0;
        down = down.0;
        mode = same_mode a.mode b.mode mode.0;
        windows = windows.0;
        ration = ration.0;
      },
      ration.1,
    )

-- the state of an array but its setup
record SameState (a b : Meta) : Type 0 where
  epoch : a.epoch ≡ b.epoch
  writes : a.writes ≡ b.writes
  ticks : a.ticks ≡ b.ticks
  gear : a.gear ≡ b.gear
  phase : a.phase ≡ b.phase
  fill : a.fill ≡ b.fill
  out : a.out ≡ b.out
  spins : a.spins ≡ b.spins

state-cancel : (a b : Meta) (r s : List ℕ) → IsInRange a → IsInRange b
    → clock_bytes a ++ (state_bytes a ++ (count_bytes a ++ r)) ≡ clock_bytes b ++ (state_bytes b ++ (count_bytes b ++ s)) → SameState a b × (r ≡ s)
state-cancel a b r s f g e =
    let ga = a.setup.geometry in
    let gb = b.setup.geometry in
    let epoch = big_endian-cancel 8 a.epoch b.epoch _ _ f.counters.epoch_fits g.counters.epoch_fits (sym (state_left a r) ∙ e ∙ state_left b s) in
    let writes = big_endian-cancel 8 a.writes b.writes _ _ f.counters.writes_fit g.counters.writes_fit epoch.1 in
    let ticks = big_endian-cancel 8 a.ticks b.ticks _ _ f.counters.ticks_fit g.counters.ticks_fit writes.1 in
    let gear = big_endian-cancel 1 a.gear b.gear _ _ (gear_small ga a.gear f.gear) (gear_small gb b.gear g.gear) ticks.1 in
    let code = big_endian-cancel 1 (phase_code a.phase) (phase_code b.phase) _ _ (phase_code_small a.phase) (phase_code_small b.phase) gear.1 in
    let to = big_endian-cancel 1 (phase_to a.phase) (phase_to b.phase) _ _ (phase_to_small ga a.gear a.phase f.phase) (phase_to_small gb b.gear b.phase g.phase) code.1 in
    let disk = big_endian-cancel 1 (out_code a.out) (out_code b.out) _ _ (out_code_small ga a.gear a.out f.out) (out_code_small gb b.gear b.out g.out) to.1 in
    let fresh = big_endian-cancel 1 (fresh_code a.out) (fresh_code b.out) _ _ (fresh_code_small a.out) (fresh_code_small b.out) disk.1 in
    let fill = big_endian-cancel 4 a.fill b.fill _ _ (fill_small ga a.gear a.fill a.phase f.phase f.shift.fill) (fill_small gb b.gear b.fill b.phase g.phase g.shift.fill) (ap (drop 3) fresh.1) in
    let rebuilt = big_endian-cancel 4 (rebuilt_count a.out) (rebuilt_count b.out) _ _ (rebuilt_small ga a.gear a.out f.gear f.out) (rebuilt_small gb b.gear b.out g.gear g.out) fill.1 in
    let spins = shorts-cancel a.spins b.spins r s (f.eight ∙ sym g.eight) (spins_small a f) (spins_small b g) rebuilt.1 in (
      record {
        epoch = epoch.0;
        writes = writes.0;
        ticks = ticks.0;
        gear = gear.0;
        phase = same_phase a.phase b.phase code.0 to.0;
        fill = fill.0;
        out = same_out ga gb a.gear b.gear a.out b.out f.out g.out disk.0 fresh.0 rebuilt.0;
        spins = spins.0;
      },
      spins.1,
    )

heading-cancel : (a b : ℕ) (r s : List ℕ) (c : Setup) (d : Setup) → IsVersionInRange a c → IsVersionInRange b d
    → heading_bytes a ++ r ≡ heading_bytes b ++ s → (a ≡ b) × (r ≡ s)
heading-cancel a b r s c d f g e =
    let low = f.known in
    let high = g.known in
    big_endian-cancel 2 a b r s (omega arith) (omega arith) (sym (heading-dropped a r) ∙ ap (drop 8) e ∙ heading-dropped b s)

-- the burst and the period: of version 1 they are known, and version 2 spells them
growth_of : (version : ℕ) (a b : Setup) → a.ration ≡ b.ration → IsVersionInRange version a → IsVersionInRange version b
    → burst_code version a ≡ burst_code version b → period_code version a ≡ period_code version b → (a.burst ≡ b.burst) × (a.period ≡ b.period)
growth_of version a b same f g e h =
    let known = f.known in
    elim (cases_lt 1 version) [
      | inl more ↦
          let two : version ≡ 2 = omega arith in
          let burst : ℕ → Type 0 = λ n. burst_code n a ≡ burst_code n b in
          let period : ℕ → Type 0 = λ n. period_code n a ≡ period_code n b in
          (subst burst two e, subst period two h)
      | inr less ↦
          let one : version ≡ 1 = omega arith in
          (f.burst one ∙ same ∙ sym (g.burst one), f.period one ∙ sym (g.period one))
    ]

growth-cancel : (v w : ℕ) (a b : Setup) (r s : List ℕ) → v ≡ w → a.ration ≡ b.ration → IsSetupInRange a → IsSetupInRange b
    → IsVersionInRange v a → IsVersionInRange w b → growth_bytes v a ++ r ≡ growth_bytes w b ++ s → (a.burst ≡ b.burst) × (a.period ≡ b.period)
growth-cancel v w a b r s same ration fa fb f g e =
    let burst = big_endian-cancel 2 (burst_code v a) (burst_code w b) _ _ (burst_code_small v a (burst_small a fa)) (burst_code_small w b (burst_small b fb))
    (sym (growth-parts v a r) ∙ e ∙ growth-parts w b s) in
    let period = big_endian-cancel 4 (period_code v a) (period_code w b) r s (period_code_small v a (period_small a fa)) (period_code_small w b (period_small b fb)) burst.1 in
    let back : ℕ → Type 0 = λ n. IsVersionInRange n b in
    growth_of v a b ration f (subst back (sym same) g) (burst.0 ∙ ap (λ (n : ℕ). burst_code n b) (sym same)) (period.0 ∙ ap (λ (n : ℕ). period_code n b) (sym same))

pub meta_bytes-cancel : (a b : Meta) → IsInRange a → IsInRange b → meta_bytes a ≡ meta_bytes b → a ≡ b
meta_bytes-cancel a b f g e =
    let heading = heading-cancel a.version b.version _ _ a.setup b.setup f.version g.version (sym (meta-parts a) ∙ e ∙ meta-parts b) in
    let geometry = geometry-cancel a.setup.geometry b.setup.geometry _ _ heading.1 in
    let policy = policy-cancel a.setup b.setup _ _ f.setup g.setup geometry.1 in
    let state = state-cancel a b _ _ f g policy.1 in
    let spinning = big_endian-cancel 4 a.setup.spinning_mj b.setup.spinning_mj _ _ (figure_small _ f.setup.spinning) (figure_small _ g.setup.spinning)
    (sym (energy-parts a.setup _) ∙ state.1 ∙ energy-parts b.setup _) in
    let parked = big_endian-cancel 4 a.setup.parked_mj b.setup.parked_mj _ _ (figure_small _ f.setup.parked) (figure_small _ g.setup.parked) spinning.1 in
    let spinup = big_endian-cancel 4 a.setup.spinup_mj b.setup.spinup_mj _ _ (figure_small _ f.setup.spinup) (figure_small _ g.setup.spinup) parked.1 in
    let growth = growth-cancel a.version b.version a.setup b.setup _ _ heading.0 policy.0.ration f.setup g.setup f.version g.version spinup.1 in
    λ i. record {
      setup = record {
        geometry = geometry.0 i;
        mode = policy.0.mode i;
        rate = policy.0.rate i;
        service = policy.0.service i;
        up = policy.0.up i;
        down = policy.0.down i;
        windows = policy.0.windows i;
        ration = policy.0.ration i;
        burst = growth.0 i;
        period = growth.1 i;
        spinning_mj = spinning.0 i;
        parked_mj = parked.0 i;
        spinup_mj = spinup.0 i;
      };
      version = heading.0 i;
      epoch = state.0.epoch i;
      writes = state.0.writes i;
      ticks = state.0.ticks i;
      gear = state.0.gear i;
      phase = state.0.phase i;
      fill = state.0.fill i;
      out = state.0.out i;
      spins = state.0.spins i;
    }

places-cancel : (a b : List Target) (r s : List ℕ) → length a ≡ length b → All FitsBytes a → All FitsBytes b
    → places_bytes a ++ r ≡ places_bytes b ++ s → a ≡ b
places-cancel [] [] r s l f g e = refl
places-cancel [] (y ∷ b) r s l f g e = absurd (omega arith)
places-cancel (x ∷ a) [] r s l f g e = absurd (omega arith)
places-cancel (x ∷ a) (y ∷ b) r s l f g e =
    let fx = f 0 no_target (omega arith) in
    let fy = g 0 no_target (omega arith) in
    let first : (t : Target) (ts : List Target) (rest : List ℕ) → places_bytes (t ∷ ts) ++ rest ≡ big_endian 1 t.disk ++ (big_endian 4 t.place ++ (places_bytes ts ++ rest)) =
    λ t ts rest. append_assoc (big_endian 1 t.disk) (big_endian 4 t.place ++ places_bytes ts) rest
    ∙ ap (λ (xs : List ℕ). big_endian 1 t.disk ++ xs) (append_assoc (big_endian 4 t.place) (places_bytes ts) rest) in
    let disk = big_endian-cancel 1 x.disk y.disk _ _ fx.0 fy.0 (sym (first x a r) ∙ e ∙ first y b s) in
    let place = big_endian-cancel 4 x.place y.place _ _ fx.1 fy.1 disk.1 in
    let tail = places-cancel a b r s (omega arith) (λ k d h. f (suc k) d (omega arith)) (λ k d h. g (suc k) d (omega arith)) place.1 in
    λ i. record { disk = disk.0 i; place = place.0 i } ∷ tail i

pub targets_bytes-cancel : (a b : List Target) → length a ≤ batch_room → length b ≤ batch_room → All FitsBytes a → All FitsBytes b → targets_bytes a ≡ targets_bytes b → a ≡ b
targets_bytes-cancel a b la lb f g e =
    let count = big_endian-cancel 2 (length a) (length b) _ _ (omega arith) (omega arith) (sym (targets-parts a) ∙ e ∙ targets-parts b) in
    places-cancel a b _ _ count.0 f g count.1
