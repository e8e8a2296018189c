-- What is said of the listed trees and of their text, from what its parts say.
--   p q presentations · k type · t tree · ts trees · O fact · fault, made faults · old middle new texts
use Rattle.std.proofs.Common.{◌≡◌, ◌↔◌, ℕ, List, [], ◌∷◌, ◌++◌, sym, ap, ◌∙◌, subst, append_assoc, arith}
use Rattle.std.specs.Prelude.{IfSome, Result, IsErrAnd, IsErrOf}
use Rattle.std.proofs.lemmas.List.{append-nil}
use Rattle.binom_poly.specs.declared.fault.PolyFault.{PolyFault}
use Rattle.binom_poly.specs.declared.fault.PolyFault.TheVariants as poly
use Rattle.binom_poly.specs.Fault.{wide_of}
use Rattle.nil_pres.specs.Presented.{Presented, IsPresented}
use Rattle.dt_letters.specs.Letters.{Letter, kind_of}
use Rattle.dt_letters.specs.Allowed.{exponents_of, IsLetter, IsFrom}
use Rattle.dt_letters.specs.Least.{IsLeast}
use Rattle.dt_letters.specs.Listing.{trees, IsIn, AreOnce}
use Rattle.dt_letters.specs.Text.{AreListed}
use Rattle.dt_letters.proofs.Presentations.{rising}
use Rattle.dt_letters.proofs.Trees.{lists_least_trees}
use Rattle.dt_trees.specs.Polynomials.{TreesOverflow}
use Rattle.session_io.specs.Lines.{as_line, as_lines}
use Rattle.tree_text.specs.declared.trees_fault.TreesFault.{TreesFault}
use Rattle.tree_text.specs.declared.trees_fault.TreesFault.TheVariants as fault
use Rattle.tree_text.specs.Faults.{fault_of}
use Rattle.tree_text.specs.Lines.{AreLeastTrees, PolyOverflows}
use Rattle.tree_text.proofs.Included.{overflow-included}

-- ---- the trees
pub are_least_trees : (p q : Presented) (k : ℕ) (ts : List Letter) → q ≡ p
    → ((t : Letter) → IsIn t ts
    ↔ (IsLetter (exponents_of q) t × IsFrom 1 t × IsLeast t × (kind_of t ≡ k)))
    → AreOnce ts → AreListed ts → AreLeastTrees p k ts
are_least_trees p q k ts same least once listed =
    subst (λ (r : Presented). AreLeastTrees r k ts) same
    record { least = least; once = once; listed = listed }

-- ---- the listed trees overflow exactly where the trees overflow as they grow
module _ (p : Presented) (k : ℕ) (ts : List Letter) (is : IsPresented p)
    (least : AreLeastTrees p k ts) where
  pub overflow-grown : TreesOverflow (exponents_of p) ts → PolyOverflows p k
  overflow-grown o =
      let e = exponents_of p in
      let own = lists_least_trees e 1 k (rising p is) (omega arith) in
      overflow-included e ts (trees e 1 k) least.once
      (λ t h. (own.0 t).1 ((least.least t).0 h)) o

  pub overflow-listed : PolyOverflows p k → TreesOverflow (exponents_of p) ts
  overflow-listed o =
      let e = exponents_of p in
      let own = lists_least_trees e 1 k (rising p is) (omega arith) in
      overflow-included e (trees e 1 k) ts own.1
      (λ t h. (least.least t).1 ((own.0 t).0 h)) o

-- ---- faults
wide-named : (O : Type 0) (f : PolyFault) → fault.Wide ≡ fault_of f → IfSome (wide_of f) (λ _. O) → O
wide-named O poly.Wide e h = h
wide-named O poly.Memory e h = absurd (cc e)

pub wide-told : (O : Type 0) (A : Type 0) (f : PolyFault) (r : Result A TreesFault)
    → IsErrAnd r (λ made. made ≡ fault_of f) → IfSome (wide_of f) (λ _. O)
    → IsErrOf r fault.Wide → O
wide-told O A f r made h is =
    wide-named O f (subst (λ (s : Result A TreesFault). IsErrAnd s (λ m. m ≡ fault_of f)) is made) h

-- ---- the text
as_lines-append_line : (lines : List (List ℕ)) (line : List ℕ)
    → as_lines (lines ++ line ∷ []) ≡ as_lines lines ++ as_line line
as_lines-append_line [] line = append-nil (as_line line)
as_lines-append_line (x ∷ xs) line =
    ap (λ t. as_line x ++ t) (as_lines-append_line xs line)
    ∙ sym (append_assoc (as_line x) (as_lines xs) (as_line line))

pub lines-put : (old middle new : List ℕ) (lines : List (List ℕ)) (line : List ℕ) → old ≡ []
    → middle ≡ old ++ as_lines lines → new ≡ middle ++ as_line line
    → new ≡ as_lines (lines ++ line ∷ [])
lines-put old middle new lines line none first second =
    second ∙ ap (λ t. t ++ as_line line) (first ∙ ap (λ t. t ++ as_lines lines) none)
    ∙ sym (as_lines-append_line lines line)
