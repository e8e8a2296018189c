use Rattle.std.proofs.Common.{rules}
use Rattle.nil_word.proofs.Expanding.{letters_of-Pow, letters_of-Conj, letters_of-Comm}
use Rattle.nil_word.proofs.unrolling.+letters_up_to.Goals as goal

pub returns-in-Pow : goal.returns-in-Pow
returns-in-Pow m c =
    letters_of-Pow c.args.cap c.args.expr.now c.in-Pow.base c.in-Pow.exponent c.letters_up_to-in-Pow.result c.unsigned_abs.result _ c.in-Pow.is (search rules) (search rules)
    c.multiple_up_to.ensures

pub returns-in-Conj : goal.returns-in-Conj
returns-in-Conj m c =
    letters_of-Conj c.args.cap c.args.expr.now c.in-Conj.u c.in-Conj.v c.letters_up_to-in-Conj.result c.letters_up_to-in-Conj-2.result _ c.in-Conj.is (search rules) (search rules)
    c.min-in-Conj.ensures

pub returns-in-Comm : goal.returns-in-Comm
returns-in-Comm m c =
    letters_of-Comm c.args.cap c.args.expr.now c.in-Comm.u c.in-Comm.v c.letters_up_to-in-Comm.result c.letters_up_to-in-Comm-2.result _ c.in-Comm.is (search rules) (search rules)
    c.min-in-Comm.ensures
