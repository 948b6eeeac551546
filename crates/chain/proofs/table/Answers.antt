use Rattle.std.proofs.Common.{rules}
use Rattle.chain.proofs.Found.{table_from}
use Rattle.chain.proofs.table.Goals as goal

pub returns : goal.returns
returns c = table_from _ _ _ _ _ c.place.ensures c.map.ensures.cases (λ p t k. search rules)
