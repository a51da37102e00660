-- The calls below with which what waits is written out.
use Rattle.std.proofs.Common.{◌≡◌, inl, inr, ℕ, Bool, true, false, if◌then◌else◌, List, [], ◌∷◌, ◌++◌, Option, Some, refl, sym, ◌∙◌, ap, subst, append_assoc}
use Rattle.std.proofs.lemmas.List.{map-append}
use Rattle.paraid_rack.specs.declared.call.Call.{Call}
use Rattle.paraid_rack.specs.declared.call.Call.TheVariants.{Sync}
use Rattle.paraid_rack.specs.Disks.{Disks, IsImage, IsPresent, is_present, lose, step}
use Rattle.paraid_rack.specs.Told.{Ran, Through, CrashTriple}
use Rattle.paraid_rack.specs.Trail.{Trail, run, now, extend}
use Rattle.paraid_rack.proofs.TrailsLemmas.{Ran-none, extend-extend, now-extend}
use Rattle.paraid_gather.specs.Above.{Follows, IsAbove, LeavesImageOf}
use Rattle.paraid_gather.specs.Bulk.{left_by}
use Rattle.paraid_gather.specs.Finish.{LeavesImageWithout, WritesWhatWaits, failed_syncs}
use Rattle.paraid_gather.specs.PowerCalls.{PowersAs, power_calls}
use Rattle.paraid_gather.specs.Waiting.{Waiting, none_waits, waits}
use Rattle.paraid_gather.proofs.AboveLemmas.{above_image, some_none}
use Rattle.paraid_gather.proofs.DoesLemmas.{none_waiting}
use Rattle.paraid_gather.proofs.FollowsLemmas.{follows_onto, ran_map, through_map}
use Rattle.paraid_gather.proofs.GatheringLemmas.{run_append}
use Rattle.paraid_gather.proofs.OutLemmas.{lost_sync_image, lost_sync}
use Rattle.paraid_gather.proofs.PowerCallsLemmas.{power_calls_append, ran_each}

through_append : (P : Disks → Type 0) (s : Disks) (cs ds : List Call) → Through P s cs → Through P (run s cs) ds → Through P s (cs ++ ds)
through_append P s [] ds first second = second
through_append P s (c ∷ cs) ds first second = (first.0, through_append P (step c s) cs ds first.1 second)

-- no call
pub writes_none : (told : Option Trail) (w : ℕ → Waiting) → Ran told told (WritesWhatWaits [] w w)
writes_none told w = Ran-none (WritesWhatWaits [] w w) (λ b. record { turned = refl; moments = λ s a i image. ([], [], refl, above_image b w s i a image); above = λ s a. a }) told

module _ (old new : Option Trail) (w w' : ℕ → Waiting) (d : ℕ) where
  -- what waits for one disk is written out
  pub writes_one : (ok : Bool) → Ran old new (PowersAs []) → ((s : Disks) → Follows old new w w' s (left_by ok d s)) → Ran old new (WritesWhatWaits (if ok then [] else d ∷ []) w w')
  writes_one true turned follows = ran_map _ (WritesWhatWaits [] w w') old new
      (λ t is cs it. record {
        turned = it.0;
        moments = λ s a. through_map (LeavesImageOf s s) (LeavesImageWithout [] s) (λ b f i image. ([], [], refl, elim (f i image) [ inl x ↦ x | inr y ↦ y ])) (now t) cs ((it.1 s).goes a).0;
        above = λ s a. ((it.1 s).goes a).1;
      })
      (ran_each (PowersAs []) (λ s. CrashTriple (LeavesImageOf s s) (λ b. IsAbove b w s) (λ b. IsAbove b w' s)) old new turned follows)
  writes_one false turned follows = ran_map _ (WritesWhatWaits (d ∷ []) w w') old new
      (λ t is cs it. record {
        turned = it.0;
        moments = λ s a. through_map (LeavesImageOf s (step (Sync d false) s)) (LeavesImageWithout (d ∷ []) s)
            (λ b f i image. elim (f i image) [ inl x ↦ ([], d ∷ [], refl, x) | inr y ↦ (d ∷ [], [], refl, y) ]) (now t) cs ((it.1 s).goes a).0;
        above = λ s a. ((it.1 s).goes a).1;
      })
      (ran_each (PowersAs []) (λ s. CrashTriple (LeavesImageOf s (step (Sync d false) s)) (λ b. IsAbove b w s) (λ b. IsAbove b w' (step (Sync d false) s))) old new turned
      (λ s. follows_onto old new w w' s (lose d s) w' (step (Sync d false) s) (lost_sync_image s d) (λ b. lost_sync s d b w') (follows s)))

run_lost : (s : Disks) (first second : List ℕ) → run (run s (failed_syncs first)) (failed_syncs second) ≡ run s (failed_syncs (first ++ second))
run_lost s first second = sym (run_append s (failed_syncs first) (failed_syncs second)) ∙ ap (run s) (sym (map-append _ first second))

module _ (first second : List ℕ) (w w' w'' : ℕ → Waiting) (b : Disks) (cs ds : List Call) (one : WritesWhatWaits first w w' b cs) (two : WritesWhatWaits second w' w'' (run b cs) ds) where
  both_writes : WritesWhatWaits (first ++ second) w w'' b (cs ++ ds)
  both_writes = record {
    turned = power_calls_append cs ds ∙ ap (λ (l : List Call). l ++ power_calls ds) one.turned ∙ two.turned;
    moments = λ s a. through_append (LeavesImageWithout (first ++ second) s) b cs ds
        (through_map (LeavesImageWithout first s) (LeavesImageWithout (first ++ second) s)
        (λ t f i image. let x = f i image in (x.0, x.1 ++ second, ap (λ (l : List ℕ). l ++ second) x.2 ∙ append_assoc x.0 x.1 second, x.3)) b cs (one.moments s a))
        (through_map (LeavesImageWithout second (run s (failed_syncs first))) (LeavesImageWithout (first ++ second) s)
        (λ t f i image.
        let x = f i image in
        (first ++ x.0, x.1, ap (λ (l : List ℕ). first ++ l) x.2 ∙ sym (append_assoc first x.0 x.1), subst (λ (y : Disks). IsImage y i) (run_lost s first x.0) x.3)) (run b cs) ds (two.moments (run s (failed_syncs first)) (one.above s a)));
    above = λ s a. subst (λ (x : Disks). IsAbove x w'' (run s (failed_syncs (first ++ second)))) (sym (run_append b cs ds))
        (subst (λ (y : Disks). IsAbove (run (run b cs) ds) w'' y) (run_lost s first second) (two.above (run s (failed_syncs first)) (one.above s a)));
  }

-- one part after the other
pub writes_then : (old mid new : Option Trail) (first second : List ℕ) (w w' w'' : ℕ → Waiting) → Ran old mid (WritesWhatWaits first w w') → Ran mid new (WritesWhatWaits second w' w'') → Ran old new (WritesWhatWaits (first ++ second) w w'')
writes_then old mid new first second w w' w'' one two t tells =
    let later = two t tells in
    let before = one later.from later.was in
    let here : now later.from ≡ run (now before.from) before.calls = ap now before.is ∙ now-extend before.from before.calls in
    record {
      from = before.from;
      was = before.was;
      calls = before.calls ++ later.calls;
      is = later.is ∙ ap (λ (r : Trail). extend r later.calls) before.is ∙ extend-extend before.from before.calls later.calls;
      holds = both_writes first second w w' w'' (now before.from) before.calls later.calls before.holds (subst (λ (b : Disks). WritesWhatWaits second w' w'' b later.calls) here later.holds);
    }

-- where nothing waits for a disk that is there, nothing need wait
pub above_none : (b : Disks) (w : ℕ → Waiting) (s : Disks) → IsAbove b w s → ((d : ℕ) → IsPresent s d → waits (w d) ≡ false) → IsAbove b (λ _. none_waits) s
above_none b w s above none = record {
  power = above.power;
  size = above.size;
  sure = above.sure;
  kept = above.kept;
  bytes = λ d p x here is. absurd (some_none is (none_waiting none_waits refl p));
  loose = λ d p x here is. absurd (some_none is (none_waiting none_waits refl p));
  rests = λ d p here is. above.rests d p here (none_waiting (w d) (none d here) p);
}

pub writes_all : (old new : Option Trail) (lost : List ℕ) (w w' : ℕ → Waiting) → ((t : Trail) → new ≡ Some t → (d : ℕ) → IsPresent (now t) d → waits (w' d) ≡ false) → Ran old new (WritesWhatWaits lost w w') → Ran old new (WritesWhatWaits lost w (λ _. none_waits))
writes_all old new lost w w' none ran t tells =
    let r = ran t tells in
    let here : now t ≡ run (now r.from) r.calls = ap now r.is ∙ now-extend r.from r.calls in
    record {
      from = r.from;
      was = r.was;
      calls = r.calls;
      is = r.is;
      holds = record {
        turned = r.holds.turned;
        moments = r.holds.moments;
        above = λ s a.
            let z = r.holds.above s a in
            above_none (run (now r.from) r.calls) w' (run s (failed_syncs lost)) z (λ d there. none t tells d (subst (λ (x : Disks). IsPresent x d) (sym here) (ap is_present (sym (z.power d)) ∙ there)));
      };
    }
