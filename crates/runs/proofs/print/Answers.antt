use Rattle.operations.specs.{none_open}
use Rattle.chain.specs.{empty_cells}
use Rattle.runs.proofs.Output.{print_holds}
use Rattle.runs.proofs.print.Goals as goal

pub returns : goal.returns
unfolding empty_cells none_open
returns c =
    let begun = c.first-ran in
    let blanks = c.blank_places in
    let all = c.print_piece-all.ensures in
    print_holds _ _ _ _ _ blanks.result _ _ blanks.ensures (begun.ensures blanks.result) _ _ all.place all.there
