use Rattle.nil_pres.specs.Relations.{relations_of}
use Rattle.hall_table.specs.Values.{values}
use Rattle.group_eval.proofs.Replies.{right_reply}
use Rattle.group_eval.proofs.laws.replies.Goals as goal

pub returns : goal.returns
returns c = λ d lawful tabled checked q level shaped narrow.
    let presentation = c.relations.ensures.presentation d.pres lawful in
    right_reply d record {
      level = level;
      expressions = c.expressions.ensures d lawful tabled checked;
      solutions = c.elements.ensures.solutions d lawful tabled checked;
      quotients = c.elements.ensures.quotients d lawful tabled checked;
      consistent = c.uniqueness.ensures.consistent (relations_of d.pres) d.table.level
          (values d.table) presentation checked.multiplies;
      equations = c.elements-2.ensures.solutions (relations_of d.pres) d.table.level
          (values d.table) presentation checked.multiplies;
      once = c.uniqueness.ensures.solution (relations_of d.pres) d.table.level (values d.table)
          presentation checked.multiplies;
    } q shaped narrow
