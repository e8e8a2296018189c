use Rattle.integer.proofs.Sums.{sum_from-same, sum_from-add, sum_from-scale, sum_from-append}
use Rattle.integer.proofs.sum_laws.finite_sums.Goals as goal

pub returns : goal.returns
returns c = record { same = sum_from-same; add = sum_from-add; scale = sum_from-scale; append = sum_from-append }
