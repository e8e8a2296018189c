-- Each clause is a theorem of Theorems.
use Rattle.hall_law.proofs.Theorems.{phi_joins, phi_takes_once, images_move, summed_table}
use Rattle.hall_law.proofs.Stepping.{are_images}
use Rattle.hall_law.proofs.laws.plans.agreement.Goals as goal

pub returns-clause-joins : goal.returns-clause-joins
returns-clause-joins c = λ rels factors i f Q ready agree. phi_joins rels factors i f Q ready agree

pub returns-clause-takes_once : goal.returns-clause-takes_once
returns-clause-takes_once c = λ rels factors i f Q ready agree.
    phi_takes_once rels factors i f Q ready agree

pub returns-clause-images : goal.returns-clause-images
returns-clause-images c = λ rels factors i f Q ready agree A images.
    images_move rels factors i f Q ready agree A images

pub returns-clause-table : goal.returns-clause-table
returns-clause-table c = λ rels factors i f Q ready agree A images.
    summed_table rels factors i f Q ready agree A images

pub returns-clause-stepped : goal.returns-clause-stepped
returns-clause-stepped c = λ rels factors i f Q ready A stepped.
    are_images rels factors i f Q ready A stepped
