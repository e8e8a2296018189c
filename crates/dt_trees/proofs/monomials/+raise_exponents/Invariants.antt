use Rattle.dt_trees.proofs.monomials.+raise_exponents.Given as goal

abbrev pub decreases-raise_exponents : goal.decreases-raise_exponents
decreases-raise_exponents l = l.a.place
