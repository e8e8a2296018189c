use Rattle.std.proofs.Common.{refl}
use Rattle.std.specs.Int.{w128}
use Rattle.std.proofs.lemmas.Int.{to_z-of_z}
use Rattle.hall_table.proofs.Covering.{x_positive}
use Rattle.hall_table.proofs.Orders.{put_fits, put_overflows}
use Rattle.hall_table.proofs.Putting.{HasRows-with_value}
use Rattle.hall_table.proofs.table.Table.set_x.Goals as goal

pub returns-in-Ok-clause-wide : goal.returns-in-Ok-clause-wide
returns-in-Ok-clause-wide c =
    put_fits c.args.x _ _ _ (to_z-of_z w128 c.args.x c.ranges.x) (c.requires.rows.width c.args.k) c.in-Ok.ensures.wide

pub returns-in-Ok-clause-rows : goal.returns-in-Ok-clause-rows
returns-in-Ok-clause-rows c =
    HasRows-with_value c.args.self.now c.args.rows.now c.put.new.self c.args.k _
    (x_positive c.args.self.now c.args.rows.now c.args.k c.requires.rows c.requires.least c.requires.most)
    c.in-Ok.ensures.ok c.requires.rows

pub returns-in-Err-clause-wide : goal.returns-in-Err-clause-wide
returns-in-Err-clause-wide c =
    (refl, put_overflows c.args.x _ _ _ (to_z-of_z w128 c.args.x c.ranges.x) (c.requires.rows.width c.args.k) c.in-Err.ensures.wide)

pub returns-in-Err-clause-rows : goal.returns-in-Err-clause-rows
returns-in-Err-clause-rows c =
    HasRows-with_value c.args.self.now c.args.rows.now c.put.new.self c.args.k _
    (x_positive c.args.self.now c.args.rows.now c.args.k c.requires.rows c.requires.least c.requires.most)
    c.in-Err.ensures.err c.requires.rows
