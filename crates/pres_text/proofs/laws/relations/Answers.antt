use Rattle.std.proofs.Common.{◌≡◌, List, Option, Some, None, refl, sym, ◌∙◌}
use Rattle.line_tokens.specs.declared.kind.Kind.{Kind}
use Rattle.pres_text.specs.Relation.{Spelled, IsSpelled, spelled_by}
use Rattle.pres_text.proofs.Grammar.{spelled_by-sound, spelled_by-complete}
use Rattle.pres_text.proofs.laws.relations.Goals as goal

pub returns-clause-spelled : goal.returns-clause-spelled
returns-clause-spelled c = λ ks s. (spelled_by-complete ks s, spelled_by-sound ks s)

-- what isn't spelled isn't read
unspelled : (ks : List Kind) (o : Option Spelled) → spelled_by ks ≡ o
    → ((s : Spelled) → IsSpelled ks s → ⊥) → o ≡ None
unspelled ks None e h = refl
unspelled ks (Some s) e h = absurd (h s (spelled_by-sound ks s e))

pub returns-clause-none : goal.returns-clause-none
returns-clause-none c = λ ks. (
  unspelled ks (spelled_by ks) refl,
  λ e s d. let no : None ≡ Some s = sym e ∙ spelled_by-complete ks s d in cc,
)
