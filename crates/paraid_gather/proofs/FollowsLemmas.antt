-- Parts of a call of the rack above, one after the other.
use Rattle.std.proofs.Common.{◌≡◌, ◌≢◌, inl, inr, ℕ, Bool, true, false, List, [], ◌∷◌, Option, Some, None, refl, sym, ap, subst}
use Rattle.std.proofs.lemmas.List.{append-nil}
use Rattle.paraid_rack.specs.declared.call.Call.{Call}
use Rattle.paraid_rack.specs.Disks.{Disks, IsPresent, IsImage, step}
use Rattle.paraid_rack.specs.Told.{GrowsByCall, Through, Ran, CrashTriple}
use Rattle.paraid_rack.specs.Trail.{Trail, run, now}
use Rattle.paraid_rack.proofs.TrailsLemmas.{Ran-call, then}
use Rattle.paraid_gather.specs.Waiting.{Waiting, waiting}
use Rattle.paraid_gather.specs.Bulk.{WritesBlocks, left_by}
use Rattle.paraid_gather.specs.Above.{IsAbove, LeavesImageOf, Follows}
use Rattle.paraid_gather.proofs.AboveLemmas.{above_image, present_above}
use Rattle.paraid_gather.proofs.OutLemmas.{out_moment, out_done, out_failed}

pub through_map : (P P' : Disks → Type 0) → ((s : Disks) → P s → P' s) → (s : Disks) (cs : List Call) → Through P s cs → Through P' s cs
through_map P P' f s [] t = f s t
through_map P P' f s (c ∷ cs) t = (f s t.0, through_map P P' f (step c s) cs t.1)

-- calls that have Q have Q' too, by what is told where they begin
pub ran_map : (Q Q' : Disks → List Call → Type 0) (old new : Option Trail) → ((t : Trail) → old ≡ Some t → (cs : List Call) → Q (now t) cs → Q' (now t) cs) → Ran old new Q → Ran old new Q'
ran_map Q Q' old new f ran t told =
    let r = ran t told in
    record { from = r.from; was = r.was; calls = r.calls; is = r.is; holds = f r.from r.was r.calls r.holds }

module _ (old new : Option Trail) (w w' : ℕ → Waiting) (s s' : Disks) where
  -- one call of the rack below
  pub follows_call : (c : Call) → GrowsByCall old new c → ((t : Trail) → old ≡ Some t → IsAbove (now t) w s → IsAbove (step c (now t)) w' s') → Follows old new w w' s s'
  follows_call c grows go = Ran-call (CrashTriple (LeavesImageOf s s') (λ b. IsAbove b w s) (λ b. IsAbove b w' s')) old new c grows
      (λ t is. record {
        goes = λ a.
            let z = go t is a in
            ((λ i image. inl (above_image (now t) w s i a image), λ i image. inr (above_image (step c (now t)) w' s' i z image)), z);
      })

  -- the rack above becomes what leaves no less
  pub follows_onto : (w'' : ℕ → Waiting) (s'' : Disks) → ((i : Disks) → IsImage s' i → IsImage s'' i) → ((b : Disks) → IsAbove b w' s' → IsAbove b w'' s'') → Follows old new w w' s s' → Follows old new w w'' s s''
  follows_onto w'' s'' leaves becomes = ran_map (CrashTriple (LeavesImageOf s s') (λ b. IsAbove b w s) (λ b. IsAbove b w' s'))
      (CrashTriple (LeavesImageOf s s'') (λ b. IsAbove b w s) (λ b. IsAbove b w'' s'')) old new
      (λ t is cs it. record {
        goes = λ a.
            let z = it.goes a in (
              through_map (LeavesImageOf s s') (LeavesImageOf s s'') (λ b f i image. elim (f i image) [ inl x ↦ inl x | inr y ↦ inr (leaves i y) ]) (now t) cs z.0,
              becomes (run (now t) cs) z.1,
            );
      })

  -- what waits for a disk is written
  pub follows_out : (d : ℕ) (ok : Bool) → ((e : ℕ) → e ≢ d → w' e ≡ w e) → (ok ≡ true → (p : ℕ) → waiting (w' d) p ≡ None) → ((t : Trail) → old ≡ Some t → IsPresent (now t) d)
      → s' ≡ left_by ok d s → Ran old new (WritesBlocks d (w d) ok) → Follows old new w w' s s'
  follows_out d true others none there is = ran_map (WritesBlocks d (w d) true)
      (CrashTriple (LeavesImageOf s s') (λ b. IsAbove b w s) (λ b. IsAbove b w' s')) old new
      (λ t told cs it. record {
        goes = λ a.
            let here = present_above (now t) w s a d (there t told) in (
              through_map _ _ (λ b between. subst (λ (z : Disks). LeavesImageOf s z b) (sym is) (out_moment (now t) w s a d here true b between)) (now t) cs it.moments,
              subst (λ (z : Disks). IsAbove (run (now t) cs) w' z) (sym is) (out_done (now t) w s a d here w' others cs it (none refl)),
            );
      })
  follows_out d false others none there is = ran_map (WritesBlocks d (w d) false)
      (CrashTriple (LeavesImageOf s s') (λ b. IsAbove b w s) (λ b. IsAbove b w' s')) old new
      (λ t told cs it. record {
        goes = λ a.
            let here = present_above (now t) w s a d (there t told) in (
              through_map _ _ (λ b between. subst (λ (z : Disks). LeavesImageOf s z b) (sym is) (out_moment (now t) w s a d here false b between)) (now t) cs it.moments,
              subst (λ (z : Disks). IsAbove (run (now t) cs) w' z) (sym is) (out_failed (now t) w s a d here w' others cs it),
            );
      })

-- no call of the rack below
pub follows_none : (told : Option Trail) (w w' : ℕ → Waiting) (s s' : Disks) → ((t : Trail) → told ≡ Some t → IsAbove (now t) w s → IsAbove (now t) w' s') → Follows told told w w' s s'
follows_none told w w' s s' go t is = record {
  from = t;
  was = is;
  calls = [];
  is = ap (λ (l : List Call). record { start = t.start; calls = l }) (sym (append-nil t.calls));
  holds = record { goes = λ a. (λ i image. inl (above_image (now t) w s i a image), go t is a) };
}

-- a part that leaves the rack above as it is, and then another
pub follows_then : (old mid new : Option Trail) (w w' w'' : ℕ → Waiting) (s s' : Disks) → Follows old mid w w' s s → Follows mid new w' w'' s s' → Follows old new w w'' s s'
follows_then old mid new w w' w'' s s' first second =
    then (LeavesImageOf s s') (λ b. IsAbove b w s) (λ b. IsAbove b w' s) (λ b. IsAbove b w'' s') old mid new
    (ran_map (CrashTriple (LeavesImageOf s s) (λ b. IsAbove b w s) (λ b. IsAbove b w' s)) (CrashTriple (LeavesImageOf s s') (λ b. IsAbove b w s) (λ b. IsAbove b w' s)) old mid
    (λ t is cs it. record {
      goes = λ a.
          let z = it.goes a in
          (through_map (LeavesImageOf s s) (LeavesImageOf s s') (λ b f i image. elim (f i image) [ inl x ↦ inl x | inr y ↦ inl y ]) (now t) cs z.0, z.1);
    }) first) second
