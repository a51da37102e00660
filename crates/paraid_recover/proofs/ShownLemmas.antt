-- At the end of a mount the table shows the map.
use Rattle.std.specs.Prelude.{◌≡◌, ℕ, ◌<◌, ◌≤◌, ◌⊎◌, Bool, false, List, [], Option, Some, None, length, slice_index_or, take}
use Rattle.std.proofs.Common.{sym, ◌∙◌, ap, subst, arith, inl, inr, length-append}
use Rattle.std.proofs.lemmas.List.{get_or_past}
use Rattle.paraid_base.specs.declared.geometry.Geometry.{Geometry}
use Rattle.paraid_base.specs.Log.{log_least}
use Rattle.paraid_dirty.specs.Table.{is_dirty}
use Rattle.paraid_rack.specs.Disks.{Disks, is_present}
use Rattle.paraid_rack.specs.Slots.{Slot}
use Rattle.paraid_rack.specs.Trail.{Trail, disks, moments, now}
use Rattle.paraid_record.specs.declared.meta.Meta.{Meta}
use Rattle.paraid_record.specs.declared.meta.Setup.{Setup}
use Rattle.paraid_image.specs.HeldAt.{IsHeld}
use Rattle.paraid_image.specs.Out.{IsMissing, IsWeak, out_disk}
use Rattle.paraid_image.specs.Rest.{IsAtRest}
use Rattle.paraid_image.specs.Sides.{LogState}
use Rattle.paraid_image.specs.Spot.{map_disk}
use Rattle.paraid_txn.specs.Resume.{IsResumable}
use Rattle.paraid_recover.specs.HeldMoments.{EndsHeld, IsAbsentSince, Recovers, ShowsAtEnd}
use Rattle.paraid_recover.specs.Map.{HasMap, ShowsMap}
use Rattle.paraid_rack.proofs.TrailsLemmas.{now-extend}
use Rattle.paraid_recover.proofs.MapEndLemmas.{map_shown}
use Rattle.paraid_recover.proofs.QuietCallsLemmas.{content_at_rest}
use Rattle.paraid_recover.proofs.RecoverLemmas.{disks_before}

-- what is outside a table is clean
past_table : (table : List (List Bool)) (r d : ℕ) → length table ≤ r → is_dirty table r d ≡ false
unfolding is_dirty
past_table table r d past = ap (λ (row : List Bool). slice_index_or row d false) (get_or_past table r [] past)

module _ (slots x : ℕ) (said : LogState) (m : Meta) (table : List (List Bool)) (out : Option ℕ) (slot : ℕ → Slot) (old mid new : Option Trail) (recovered : Recovers slots x said old mid)
    (ends : EndsHeld slots x said m old new) (setup : m.setup ≡ said.meta.setup) (rows : length table ≡ said.meta.setup.geometry.rows) (has : HasMap said.meta.setup.geometry out slot (is_dirty table) mid new)
    (out_is : (u : Trail) → mid ≡ Some u → out ≡ out_disk (now u).power said.meta)
    (stays : (u t : Trail) → mid ≡ Some u → new ≡ Some t → (d : ℕ) → IsMissing (now u).power said.meta d → IsMissing (now t).power m d) where
  pub shown : ShowsAtEnd slots x said m (is_dirty table) old new
  shown t tells = (
    (ends t tells).0,
    (ends t tells).1,
    λ h lo was down broken held absent weak r d below.
        let first = (recovered.ends u told) in
        let same : first.0 ≡ (ends t tells).0 = (let z : Some first.0 ≡ Some (ends t tells).0 = sym first.1 ∙ (ends t tells).1 in cc) in
        let absent_mid : IsAbsentSince said.meta.setup.geometry.disks u (moments (ends t tells).0) (moments u) down = (λ k e from to low gone.
        absent k e from (let more = longer in omega arith) low (ap (λ (v : Disks). is_present (v.power e)) (at k to) ∙ gone)) in
        let rest_mid = (subst (λ (v : Trail). IsResumable (now v) x said → IsHeld slots (now v) h lo was → IsAbsentSince said.meta.setup.geometry.disks u (moments v) (moments u) down
        → ((w : ℕ) → IsWeak (now v) w → down ≡ Some w) → IsAtRest (now u) said.meta × IsHeld slots (now u) (take said.meta.writes h) said.meta.writes (out_disk (now u).power said.meta)) same
        (first.2 h lo was down)) broken held absent_mid weak in
        let rest_end = (ends t tells).2 h lo was down broken held absent weak in
        let mid_content = content_at_rest slots (now u) said.meta (take said.meta.writes h) said.meta.writes (out_disk (now u).power said.meta) rest_mid.0 rest_mid.1 in
        let end_content = content_at_rest slots (now t) m (take m.writes h) m.writes (out_disk (now t).power m) rest_end.0 rest_end.1 in
        map_shown slots said.meta m (take said.meta.writes h) (take m.writes h) said.meta.writes m.writes (now u) (now t) setup
        rest_mid.0.log.stands.says.log.meta.in_range rest_end.0.log.stands.says.log.meta.in_range rest_mid.0.log.single rest_end.0.log.single mid_content end_content
        far_u (stays u t told tells) has.disk (is_dirty table)
        (which (out_is u told))
        (subst (λ (g : Geometry). ShowsMap g ((now t).block has.disk) (is_dirty table)) (sym geometry) (has.shows t tells))
        (λ q e past. past_table table q e (let a = ap (λ (g : Geometry). g.rows) geometry in omega arith)) r d below,
  )
    where
      geometry : m.setup.geometry ≡ said.meta.setup.geometry
      geometry = ap (λ (s : Setup). s.geometry) setup

      u : Trail
      u = (has.far t tells).from

      told : mid ≡ Some u
      told = (has.far t tells).was

      far_u : (d p : ℕ) → log_least ≤ p → (now t).block d p ≡ (now u).block d p
      far_u d p far = ap (λ (v : Disks). v.block d p) (ap now (has.far t tells).is ∙ now-extend (has.far t tells).from (has.far t tells).calls) ∙ (has.far t tells).holds d p far

      which : out ≡ out_disk (now u).power said.meta → ((out_disk (now u).power said.meta ≡ None) × (has.disk < 2)) ⊎ (has.disk ≡ map_disk (out_disk (now u).power said.meta))
      which is = subst (λ (o : Option ℕ). ((o ≡ None) × (has.disk < 2)) ⊎ (has.disk ≡ map_disk o)) is (elim has.which [ inl same ↦ inr same | inr second ↦ inl (second.0, (let one = second.1 in omega arith)) ])

      at : (k : ℕ) → k ≤ moments u → disks t k ≡ disks u k
      at k le = ap (λ (v : Trail). disks v k) (has.far t tells).is ∙ disks_before (has.far t tells).from (has.far t tells).calls k le

      longer : moments u ≤ moments t
      longer = let long = ap moments (has.far t tells).is ∙ length-append (has.far t tells).from.calls (has.far t tells).calls in omega arith
