use Rattle.std.proofs.Common.{[], ◌∷◌}
use Rattle.paraid_record.specs.Codes.{mode_code, window_count}
use Rattle.paraid_record.specs.Meta.{policy_bytes}
use Rattle.paraid_record.specs.Spelling.{big_endian, shorts}
use Rattle.paraid_record.proofs.PartLemmas.{pushed-parts}
use Rattle.paraid_record.proofs.write.put_policy.Goals as goal

pub returns-clause-value : goal.returns-clause-value
unfolding policy_bytes
returns-clause-value c =
    let s = c.args.setup.now in
    rw (c.put_u16.ensures.value, c.put_shorts.ensures.value, c.put_u8-4.ensures.value, c.put_u8-3.ensures.value, c.put_u8-2.ensures.value, c.put_u8.ensures.value, c.put_u32-2.ensures.value, c.put_u32.ensures.value, c.mode_code.ensures, c.window_count.ensures)
    (pushed-parts c.args.pen.now (big_endian 4 s.rate ∷ big_endian 4 s.service ∷ big_endian 1 s.up ∷ big_endian 1 s.down
    ∷ big_endian 1 (mode_code s.mode) ∷ big_endian 1 (window_count s.windows) ∷ shorts s.windows ∷ big_endian 2 s.ration ∷ []))
