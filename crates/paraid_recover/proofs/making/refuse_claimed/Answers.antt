use Rattle.std.proofs.Common.{refl, sym, ◌∙◌, subst, ◌≡◌, Option, [], true, ℕ}
use Rattle.std.proofs.lemmas.Bool.{false≢true}
use Rattle.paraid_rack.specs.Trail.{now}
use Rattle.paraid_recover.specs.Calls.{AreHeadReads}
use Rattle.paraid_recover.specs.FormatRefusals.IsDiskRefused.{unread}
use Rattle.paraid_recover.specs.Found.{IsGreatestOf}
use Rattle.paraid_rack.proofs.TrailsLemmas.{Ran-none}
use Rattle.paraid_recover.proofs.ReadsLemmas.{quiet_none}
use Rattle.paraid_recover.proofs.AttachLemmas.{ran_weaker}
use Rattle.paraid_recover.proofs.FoundLemmas.{free_before}
use Rattle.paraid_recover.proofs.HeadLemmas.{greatest_before, no_heads}
use Rattle.paraid_recover.proofs.making.refuse_claimed.Goals as goal

pub returns-in-Ok-None : goal.returns-in-Ok-None
returns-in-Ok-None g c = record {
  slots = c.greatest_epoch.ensures.slots;
  same = c.in-Ok-None.ensures.same;
  others = c.greatest_epoch.ensures.others;
  reads =
      ran_weaker (λ start calls. AreHeadReads calls) (λ start calls. AreHeadReads calls × (c.args.force ≡ true → calls ≡ []))
      (λ s cs are. (are, λ forced. absurd (false≢true (sym c.if-force.false ∙ forced)))) _ _ c.greatest_epoch.ensures.reads;
  quiet = c.in-Ok-None.ensures.quiet;
  free = λ not.
      free_before c.in-Ok-None.ensures.quiet (λ t tells. subst (λ (o : Option ℕ). IsGreatestOf (now t) o) c.in-Ok-None.field-0-is (c.in-Ok-None.ensures.heard t tells));
  refused = tt;
}

pub returns-in-Ok-Some : goal.returns-in-Ok-Some
returns-in-Ok-Some g c = record {
  slots = c.greatest_epoch.ensures.slots;
  same = tt;
  others = c.greatest_epoch.ensures.others;
  reads =
      ran_weaker (λ start calls. AreHeadReads calls) (λ start calls. AreHeadReads calls × (c.args.force ≡ true → calls ≡ []))
      (λ s cs are. (are, λ forced. absurd (false≢true (sym c.if-force.false ∙ forced)))) _ _ c.greatest_epoch.ensures.reads;
  quiet = tt;
  free = tt;
  refused = λ count slots. (
    c.if-force.false,
    c.in-Ok-Some.ensures.same,
    greatest_before c.in-Ok-Some.epoch c.greatest_epoch.ensures.reads c.in-Ok-Some.ensures.quiet
        (λ t tells. subst (λ (o : Option ℕ). IsGreatestOf (now t) o) c.in-Ok-Some.field-0-is (c.in-Ok-Some.ensures.heard t tells)),
  );
}

pub returns-in-Err : goal.returns-in-Err
returns-in-Err g c = record {
  slots = c.greatest_epoch.ensures.slots;
  same = tt;
  others = c.greatest_epoch.ensures.others;
  reads =
      ran_weaker (λ start calls. AreHeadReads calls) (λ start calls. AreHeadReads calls × (c.args.force ≡ true → calls ≡ []))
      (λ s cs are. (are, λ forced. absurd (false≢true (sym c.if-force.false ∙ forced)))) _ _ c.greatest_epoch.ensures.reads;
  quiet = tt;
  free = tt;
  refused = λ count slots. unread c.if-force.false c.in-Err.ensures.log_disk c.in-Err.ensures.risen c.in-Err.ensures.alone c.greatest_epoch.ensures.reads;
}

pub returns-then-force : goal.returns-then-force
returns-then-force g c = record {
  slots = refl;
  same = λ d. refl;
  others = λ d high. refl;
  reads = Ran-none (λ start calls. AreHeadReads calls × (c.args.force ≡ true → calls ≡ [])) (λ s. (no_heads, λ forced. refl)) (g.R.Rack.told c.args.rack.now);
  quiet = quiet_none (g.R.Rack.told c.args.rack.now);
  free = λ not. absurd (false≢true (sym not ∙ c.if-force.true));
  refused = tt;
}
