use Rattle.std.specs.Prelude.{◌==◌, ◌&&◌, ◌≡◌, ℕ, Bool, Some}
use Rattle.std.proofs.Common.{◌∙◌, ap, refl, subst, arith}
use Rattle.paraid_base.specs.Pairs.{pairs_of}
use Rattle.paraid_dirty.specs.Bits.{bit_of}
use Rattle.paraid_plan.specs.RowBits.{TurnsBits, names_cell}
use Rattle.paraid_plan.proofs.GrowthLemmas.{row_grows}
use Rattle.paraid_plan.proofs.LeavesLemmas.{failed}
use Rattle.paraid_plan.proofs.RowBitsLemmas.{bits_cell, bits_then, row_turns}
use Rattle.paraid_plan.proofs.WrittenBitsLemmas.{map_bits}
use Rattle.paraid_plan.proofs.RowLemmas.{row_from_calls}
use Rattle.paraid_plan.proofs.write.write_row_in.Goals as goal

pub write_pairs-requires : goal.write_pairs-requires
write_pairs-requires g c =
    record {
      serves = c.in_ok-read_row.ensures.reads.ok.goes_on;
      in_range = c.requires.in_range;
      row = c.requires.row;
      kept = λ soft. c.in_ok-read_row.ensures.kept ∙ c.requires.kept soft;
      blocks = c.requires.blocks;
      room = (let a = c.in_ok-read_row.ensures.reads.ok.staged in let room = c.requires.room in omega (arith, a, room));
      bits = (let a = c.in_ok-read_row.ensures.reads.ok.changes in let bits = c.requires.bits in omega (arith, a, bits));
    }

pub write_cell-requires : goal.write_cell-requires
write_cell-requires g c =
    record {
      serves = c.in_ok-write_pairs.ensures.ok.goes_on;
      in_range = c.requires.in_range;
      row = c.requires.row;
      disk = c.parity_disk-p.ensures.disk_in;
      room = (let a = c.in_ok-read_row.ensures.reads.ok.staged in
          let b = c.in_ok-write_pairs.ensures.ok.room in
          let room = c.requires.room in
          let some = c.requires.some in
          omega (arith, a, b, room, some));
      few = (let a = c.in_ok-read_row.ensures.reads.ok.changes in
          let b = c.in_ok-write_pairs.ensures.ok.changes in
          let bits = c.requires.bits in
          let some = c.requires.some in
          omega (arith, a, b, bits, some));
    }

pub stage_map-requires : goal.stage_map-requires
stage_map-requires g c =
    record {
      in_range = c.requires.in_range;
      row = c.requires.row;
      room = (let a = c.in_ok-read_row.ensures.reads.ok.staged in
          let b = c.in_ok-write_pairs.ensures.ok.room in
          let d = c.in_ok-write_cell.ensures.room in
          let room = c.requires.room in
          let some = c.requires.some in
          omega (arith, a, b, d, room, some));
    }

pub dirty_row-was-requires : goal.dirty_row-was-requires
dirty_row-was-requires g c =
    record {
      serves = c.in_ok-read_row.ensures.reads.ok.goes_on;
      row = c.requires.row;
    }

pub has_changed-staged-requires : goal.has_changed-staged-requires
has_changed-staged-requires g c =
    record {
      serves = c.in_ok-write_cell.ensures.goes_on;
      row = c.requires.row;
    }

pub returns-in_err-read_row : goal.returns-in_err-read_row
returns-in_err-read_row g c = failed g.P.WritePlan _ _ _ _ c.from_residual.ensures.1 c.in_err-read_row.ensures.reads.fails c.read_row.ensures.reads.leads

pub returns-in_err-write_pairs : goal.returns-in_err-write_pairs
returns-in_err-write_pairs g c =
    failed g.P.WritePlan _ _ _ _ c.from_residual-in_err-write_pairs.ensures.1 c.in_err-write_pairs.ensures.fails
    (g.met.P.WritePlan.then _ _ _ c.read_row.ensures.reads.leads c.write_pairs.ensures.leads)

pub returns-in_err-write_cell : goal.returns-in_err-write_cell
returns-in_err-write_cell g c =
    let then = g.met.P.WritePlan.then in
    failed g.P.WritePlan _ _ _ _ c.from_residual-in_err-write_cell.ensures.1 c.in_err-write_cell.ensures.fails
    (then _ _ _ c.read_row.ensures.reads.leads (then _ _ _ c.write_pairs.ensures.leads c.write_cell.ensures.leads))

pub returns : goal.returns
returns g c =
    let m = c.args.m.now in
    let n = m.setup.geometry.disks in
    let ws = pairs_of c.args.pairs.now in
    let p : c.parity_disk-p.result ≡ _ = c.parity_disk-p.ensures.value in
    let s = g.P.WritePlan.desk c.args.plan.now in
    let read = g.P.WritePlan.desk c.read_row.new.plan in
    let mid = g.P.WritePlan.desk c.write_pairs.new.plan in
    let cell = g.P.WritePlan.desk c.write_cell.new.plan in
    let last = g.P.WritePlan.desk c.stage_map.new.plan in
    let law = g.met.P.WritePlan.told in
    let then = g.met.P.WritePlan.then in
    let t3 = law c.write_cell.new.plan c.stage_map.new.plan c.stage_map.ensures.leads in
    let t2 = law c.write_pairs.new.plan c.write_cell.new.plan c.in_ok-write_cell.ensures.leads in
    let t1 = law c.read_row.new.plan c.write_pairs.new.plan c.in_ok-write_pairs.ensures.leads in
    let staged1 = c.in_ok-read_row.ensures.reads.ok.staged in
    let staged2 = c.in_ok-write_pairs.ensures.ok.room in
    let staged3 = c.in_ok-write_cell.ensures.room in
    let staged4 = c.stage_map.ensures.room in
    let set1 = c.in_ok-read_row.ensures.reads.ok.changes in
    let set2 = c.in_ok-write_pairs.ensures.ok.changes in
    let set3 = c.in_ok-write_cell.ensures.changes in
    let set4 = c.stage_map.ensures.changes in
    let some = c.requires.some in
    record {
      ok = record {
        write = λ tells.
            row_from_calls m s read mid cell last
            c.args.r c.parity_disk-p.result ws c.read_row.new.old c.write_pairs.new.old c.kept_or.result.now c.read_row.new.fixed (bit_of c.dirty_row-was.result) c.has_changed-staged.result
            c.requires.in_range c.requires.row p (c.in_ok-read_row.ensures.reads.ok.same (t1 (t2 (t3 tells)))) (c.in_ok-read_row.ensures.old (t1 (t2 (t3 tells)))) (c.in_ok-read_row.ensures.fixed (t1 (t2 (t3 tells))))
            (λ e le. c.dirty_row-was.ensures e) (c.in_ok-write_pairs.ensures.ok.adds (t2 (t3 tells))) (c.in_ok-write_pairs.ensures.ok.turns (t2 (t3 tells))) (c.in_ok-write_pairs.ensures.ok.reads (t2 (t3 tells))) (c.in_ok-write_pairs.ensures.ok.parity (t2 (t3 tells)))
            c.kept_or.ensures (c.in_ok-write_cell.ensures.desk (t3 tells))
            (λ same e le. c.has_changed-staged.ensures same e) c.stage_map.ensures.map;
        bits = bits_then m s.dirty mid.dirty last.dirty (λ q e. q == c.args.r && names_cell n ws c.args.r e) (λ q e. q == c.args.r && e == c.parity_disk-p.result) _
            (λ q e. row_turns n ws c.args.r c.parity_disk-p.result q e p)
            (subst (λ (z : ℕ → ℕ → Bool). TurnsBits m z mid.dirty (λ q e. q == c.args.r && names_cell n ws c.args.r e)) c.in_ok-read_row.ensures.reads.ok.bits c.in_ok-write_pairs.ensures.ok.bits)
            (bits_cell m c.args.r c.parity_disk-p.result mid.dirty last.dirty _
            (map_bits m cell last _ c.has_changed-staged.result c.stage_map.ensures.map ∙ c.in_ok-write_cell.ensures.bits) (λ q e. refl));
        few = omega (arith, staged1, staged2, staged3, staged4, some);
        grows = λ tells some.
            row_grows m s read mid cell last
            c.args.r c.parity_disk-p.result _ _ _ _ _ staged1 (c.in_ok-write_pairs.ensures.ok.adds (t2 (t3 tells))) (λ out. c.in_ok-write_pairs.ensures.ok.some (t2 (t3 tells)) (out ∙ ap Some p)) some
            (c.in_ok-write_cell.ensures.desk (t3 tells)) c.stage_map.ensures.map;
        changes = omega (arith, set1, set2, set3, set4, some);
        goes_on = c.stage_map.ensures.goes_on m c.in_ok-write_cell.ensures.goes_on;
      };
      fails = tt;
      leads = then _ _ _ c.read_row.ensures.reads.leads (then _ _ _ c.write_pairs.ensures.leads (then _ _ _ c.write_cell.ensures.leads c.stage_map.ensures.leads));
    }

pub read_row-requires : goal.read_row-requires
read_row-requires g c =
    record {
      serves = c.requires.serves;
      in_range = c.requires.in_range;
      row = c.requires.row;
      parity_disk = c.parity_disk-p.ensures.disk_in;
      empty = c.zero-fixed.ensures;
      parity = c.parity_disk-p.ensures.value;
      given = c.given_cells-given.ensures;
      kept = c.requires.kept;
    }
