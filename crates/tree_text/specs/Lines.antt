-- The lines of the least trees of a type, and of their polynomial.
--   AreLeastTrees p k ts    ts are the least trees of type k whose leaves have types from 1 on,
--                           each once, in the order of lists
--   PolyOverflows p k       the polynomial of these trees overflows
--   tree_lines ts           each tree by its text
--   poly_line k cs          fK = and the polynomial cs
--   trees_lines p k ts      the trees, and behind them the polynomial of their terms
--   IsTreesText p k text    the polynomial doesn't overflow, and the text has these lines
-- p presentation · k type · t tree · ts trees · cs terms
use Rattle.std.specs.Prelude.{◌≡◌, ◌↔◌, ℕ, List, [], ◌∷◌, ◌++◌, map, codes}
use Rattle.std.specs.Fmt.{decimal}
use Rattle.binom_poly.specs.declared.term.Term.{Term}
use Rattle.binom_poly.specs.Collected.{collected}
use Rattle.binom_poly.specs.Text.{polynomial_text}
use Rattle.nil_pres.specs.Presented.{Presented}
use Rattle.dt_letters.specs.Letters.{Letter, kind_of}
use Rattle.dt_letters.specs.Allowed.{exponents_of, IsLetter, IsFrom}
use Rattle.dt_letters.specs.Least.{IsLeast}
use Rattle.dt_letters.specs.Listing.{trees, IsIn, AreOnce}
use Rattle.dt_letters.specs.Text.{text_of, AreListed}
use Rattle.dt_trees.specs.Polynomials.{terms_of, TreesOverflow}
use Rattle.session_io.specs.Lines.{as_lines}

pub record AreLeastTrees (p : Presented) (k : ℕ) (ts : List Letter) : Type 0 where
  pub least : (t : Letter) → IsIn t ts
      ↔ (IsLetter (exponents_of p) t × IsFrom 1 t × IsLeast t × (kind_of t ≡ k))
  pub once : AreOnce ts
  pub listed : AreListed ts

abbrev pub PolyOverflows : Presented → ℕ → Type 0
PolyOverflows p k = TreesOverflow (exponents_of p) (trees (exponents_of p) 1 k)

abbrev pub tree_lines : List Letter → List (List ℕ)
tree_lines ts = map text_of ts

abbrev pub poly_line : ℕ → List Term → List ℕ
poly_line k cs = codes "f" ++ decimal k ++ codes " = " ++ polynomial_text cs

abbrev pub trees_lines : Presented → ℕ → List Letter → List (List ℕ)
trees_lines p k ts =
    tree_lines ts ++ poly_line k (collected (terms_of (exponents_of p) ts)) ∷ []

pub record IsTreesText (p : Presented) (k : ℕ) (text : List ℕ) : Type 0 where
  pub list : List Letter
  pub least : AreLeastTrees p k list
  pub fits : ¬ PolyOverflows p k
  pub lines : text ≡ as_lines (trees_lines p k list)
