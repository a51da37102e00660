use Rattle.std.proofs.Common.{[], ◌∷◌, replicate}
use Rattle.paraid_record.specs.Codes.{phase_code, phase_to, out_code, fresh_code}
use Rattle.paraid_record.specs.Meta.{state_bytes}
use Rattle.paraid_record.specs.Spelling.{big_endian}
use Rattle.paraid_record.proofs.PartLemmas.{pushed-parts}
use Rattle.paraid_record.proofs.write.put_state.Goals as goal

pub returns-clause-value : goal.returns-clause-value
unfolding state_bytes
returns-clause-value c =
    let m = c.args.meta.now in
    rw (c.put_bytes.ensures.value, c.put_u8-5.ensures.value, c.put_u8-4.ensures.value, c.put_u8-3.ensures.value, c.put_u8-2.ensures.value, c.put_u8.ensures.value, c.phase_code.ensures, c.to.ensures, c.out_code.ensures, c.fresh_code.ensures)
    (pushed-parts c.args.pen.now (big_endian 1 m.gear ∷ big_endian 1 (phase_code m.phase) ∷ big_endian 1 (phase_to m.phase)
    ∷ big_endian 1 (out_code m.out) ∷ big_endian 1 (fresh_code m.out) ∷ replicate 3 0 ∷ []))
