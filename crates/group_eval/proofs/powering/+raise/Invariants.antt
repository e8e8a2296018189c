use Rattle.group_eval.proofs.powering.+raise.Given as goal

abbrev pub decreases-raise : goal.decreases-raise
decreases-raise l = l.e
