use Rattle.std.proofs.Common.{◌≤◌, ◌∙◌, sym, subst, arith, rules}
use Rattle.paraid_record.specs.declared.meta.Meta.{Meta}
use Rattle.paraid_scrub.proofs.unit.is_copy_alone.Goals as goal

pub returns-then-disk-meta : goal.returns-then-disk-meta
returns-then-disk-meta g c = record {
  alone = search rules;
  stored = λ is v s high.
      let past : c.meta.result.gear ≤ c.args.disk = subst (λ (z : Meta). z.gear ≤ c.args.disk) (sym c.meta.ensures.value) high in
      let low = c.if-disk-meta.true in
      absurd (omega (arith, past, low));
}

pub returns : goal.returns
returns g c = record {
  alone = λ is v s.
      let past : c.meta.result.gear ≤ c.args.disk = omega arith in
      (subst (λ (z : Meta). z.gear ≤ c.args.disk) c.meta.ensures.value past, sym (c.is_dirty.ensures v s) ∙ is);
  stored = λ is v s high. sym (c.is_dirty.ensures v s) ∙ is;
}
