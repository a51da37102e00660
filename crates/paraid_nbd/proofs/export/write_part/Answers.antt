use Rattle.std.proofs.lemmas.Result.{err_from_is_err_and, on_ok_weaker, on_err_weaker}
use Rattle.std.proofs.Common.{ℕ, ◌+◌, ◌<◌, ◌≤◌, ◌++◌, ◌∙◌, subst, sym, rules}
use Rattle.paraid_nbd.proofs.DeviceLemmas.{halts_later, keeps_then}
use Rattle.paraid_nbd.proofs.ErrorLemmas.{by_then, halts_on_then, halts_weaker}
use Rattle.paraid_nbd.proofs.AskedLemmas.{asked_part, asked_part_halts}
use Rattle.paraid_nbd.specs.Asked.{IsRestHalted}
use Rattle.paraid_nbd.specs.Asked.IsPartHalted.{At_read}
use Rattle.paraid_nbd.proofs.WriteLemmas.{part_written}
use Rattle.paraid_nbd.proofs.export.write_part.Goals as goal

pub returns : goal.returns
returns g c = record {
  size = c.write_block.ensures.size ∙ c.read_rest.ensures.size;
  told = λ tells. c.read_rest.ensures.told (c.write_block.ensures.told tells);
  keeps = keeps_then _ _ _ _ c.read_rest.ensures.keeps c.write_block.ensures.keeps;
  serves = on_ok_weaker c.write_block.result (λ f. by_then _ _ _ _
      (asked_part c.args.part.block c.args.part.start c.args.part.length c.args.bytes.now c.read_rest.new.into c.replaced-new.result c.requires.length (record { inside = c.replaced-new.ensures.inside; outside = c.replaced-new.ensures.outside }))
      c.in_ok-read_rest.ensures.serves f) c.write_block.ensures.serves;
  halts = on_err_weaker c.write_block.result (λ f. halts_on_then _ _ _ _
      (asked_part_halts c.args.part.block c.args.part.start c.args.part.length c.args.bytes.now c.read_rest.new.into c.replaced-new.result c.requires.length (record { inside = c.replaced-new.ensures.inside; outside = c.replaced-new.ensures.outside }))
      c.in_ok-read_rest.ensures.serves f) c.write_block.ensures.halts;
  written = on_ok_weaker c.write_block.result (λ f first tells s events is kept.
      let r = c.in_ok-read_rest.ensures.read first (c.write_block.ensures.told tells) s events is kept in
      part_written c.args.part.start c.args.bytes.now c.replaced-new.result r c.requires.length c.requires.within c.replaced-new.ensures.inside c.replaced-new.ensures.outside (f first tells s (events ++ r.new) r.now r.kept_is)) c.write_block.ensures.written;
  stops = on_err_weaker c.write_block.result (λ f first tells s events is kept.
      let r = c.in_ok-read_rest.ensures.read first (c.write_block.ensures.told tells) s events is kept in
      halts_later r.new r.reads r.quiet (f first tells s (events ++ r.new) r.now r.kept_is)) c.write_block.ensures.stops;
}

pub read_rest-requires : goal.read_rest-requires
read_rest-requires g c = record {
  block = c.requires.block;
  within = subst (λ (n : ℕ). c.args.part.start + n ≤ 512) c.requires.length c.requires.within;
}

pub write_block-requires : goal.write_block-requires
write_block-requires g c = subst (λ (n : ℕ). c.args.part.block < n) (sym c.read_rest.ensures.size) c.requires.block

pub returns-in_err-read_rest : goal.returns-in_err-read_rest
returns-in_err-read_rest g c = record {
  size = c.read_rest.ensures.size;
  told = c.read_rest.ensures.told;
  keeps = c.read_rest.ensures.keeps;
  serves =
      let p = err_from_is_err_and c.from_residual.result c.from_residual.ensures.1 in
      rw p.1 tt;
  halts =
      let p = err_from_is_err_and c.from_residual.result c.from_residual.ensures.1 in
      rw p.1 (halts_weaker _ _ _ (λ a event h. At_read (subst (λ (n : ℕ). IsRestHalted n c.args.part.block a event) (sym c.requires.length) h)) c.in_err-read_rest.ensures.halts);
  written =
      let p = err_from_is_err_and c.from_residual.result c.from_residual.ensures.1 in
      rw p.1 tt;
  stops = search rules;
}
