use Rattle.schubert_laws.proofs.Blocks.{block_product, stanley_block}
use Rattle.schubert_laws.proofs.block_laws.block_product_law.Goals as goal

pub returns-clause-schubert : goal.returns-clause-schubert
returns-clause-schubert c = block_product

pub returns-clause-stanley : goal.returns-clause-stanley
returns-clause-stanley c = stanley_block
