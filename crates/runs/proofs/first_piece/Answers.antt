use borrow.Author.Rules.{rules}
use Rattle.runs.proofs.Output.{first_parts}
use Rattle.runs.proofs.first_piece.Goals as goal

pub returns : goal.returns
returns c =
    let begun = c.first-ran in
    let blanks = c.blank_places in
    first_parts _ _ _ _ blanks.result _ (search rules) blanks.ensures _ _ _ _ _ (begun.ensures blanks.result) _ _ _ _ _ _ c.print_piece.ensures
