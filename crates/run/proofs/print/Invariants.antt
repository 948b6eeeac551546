use Rattle.run.proofs.print.Given as goal

-- the turns that are left
abbrev pub decreases-loop-switch : goal.decreases-loop-switch
decreases-loop-switch g l = l.piece.run.left
