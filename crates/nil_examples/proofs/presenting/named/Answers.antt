use Rattle.std.proofs.Common.{◌≡◌, ◌+◌, ap, sym, ◌∙◌, arith}
use Rattle.nil_pres.specs.Presented.{Draft, with_name}
use Rattle.nil_examples.specs.Powers.{name_of, numbered}
use Rattle.nil_examples.specs.Building.{named}
use Rattle.nil_examples.proofs.Numbering.{one_less}
use Rattle.nil_examples.proofs.Rows.{named-start, named-next}
use Rattle.nil_examples.proofs.presenting.named.Goals as goal

pub loop-k-init : goal.loop-k-init
loop-k-init c =
    named-start c.in_ok-builder.builder c.in_ok-builder.ensures.names c.in_ok-builder.ensures.rights

pub add_name-requires-clause-before : goal.add_name-requires-clause-before
add_name-requires-clause-before c =
    ap (λ (d : Draft). d.names) c.loop-k.invariant ∙ ap numbered (sym (one_less c.loop-k.k))

-- one name more
pub loop-k-preserved : goal.loop-k-preserved
loop-k-preserved c =
    c.in_ok-add_name.ensures.ok
    ∙ ap (λ (d : Draft). with_name d (name_of (c.loop-k.k + 1))) c.loop-k.invariant
    ∙ named-next c.loop-k.k

pub returns-clause-ok : goal.returns-clause-ok
returns-clause-ok c =
    let all : c.loop-k.k ≡ c.args.count = omega arith in
    c.loop-k.invariant ∙ ap named all
