use Rattle.std.proofs.Common.{refl}
use Rattle.paraid_moves.proofs.UnitLemmas.{map_rebuilt, row_passed, row_rebuilt, stripe_rebuilt}
use Rattle.paraid_moves.proofs.between.a_unit_is_rebuilt.Goals as goal

pub returns : goal.returns
returns c = record {
  passed = λ m d row f range low below gear bit was. row_passed m d 0 f f range low (λ x q not. refl) row below gear bit was;
  row = λ m d p row f after range low same rows stripes below at stored was. row_rebuilt m d p f after range low same rows stripes row below at stored was;
  stripe = λ m d p s f after range low same rows stripes below at stored was. stripe_rebuilt m d p f after range low same rows stripes s below at stored was;
  map_block = λ m d p j f after range low same rows stripes log below at stored was. map_rebuilt m d p f after range low same rows stripes j log below at stored was;
}
