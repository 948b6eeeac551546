use borrow.Author.Rules.{rules}
use Rattle.runs.proofs.Output.{next_parts}
use Rattle.runs.proofs.next_piece.Goals as goal

pub returns : goal.returns
returns c = next_parts _ _ _ _ _ _ _ (search rules) _ _ _ _ _ _ c.print_piece.ensures
