-- The same of the terms of a polynomial, and of the polynomials of a table.
--   n generators · ds values · b the monomial before · ts us terms · ps qs polynomials · f g faults
use Rattle.std.proofs.Common.{◌≡◌, ℕ, ◌≤◌, List, [], ◌∷◌, Option, Some, None, inl, inr, refl, sym, ◌∙◌, ap, subst}
use Rattle.serde_json.specs.Data.{Data}
use Rattle.binom_poly.specs.declared.part.Part.{Part}
use Rattle.binom_poly.specs.declared.term.Term.{Term}
use Rattle.table_json.specs.declared.table_fault.TableFault.{TableFault}
use Rattle.table_json.specs.Refusing.{SaysTerms, RefusesTerms, SaysPoly, RefusesPoly, SaysPolys, RefusesPolys}
use Rattle.table_json.proofs.Arrays.{array_of-same}
use Rattle.table_json.proofs.Single.{says_term-same, refuses_term-no, refuses_term-same}

pub says_terms-same : (n : ℕ) (b c : Option (List Part)) (ds : List Data) (ts us : List Term)
    → n ≤ 48
    → SaysTerms n b ds ts → SaysTerms n c ds us → ts ≡ us
says_terms-same n b c [] [] [] most g h = refl
says_terms-same n b c [] [] (u ∷ us) most g h = absurd h
says_terms-same n b c [] (t ∷ ts) us most g h = absurd g
says_terms-same n b c (d ∷ ds) [] us most g h = absurd g
says_terms-same n b c (d ∷ ds) (t ∷ ts) [] most g h = absurd h
says_terms-same n b c (d ∷ ds) (t ∷ ts) (u ∷ us) most g h =
    ap (λ v. v ∷ ts) (says_term-same n b c d t u most g.0 h.0)
    ∙ ap (λ vs. u ∷ vs) (says_terms-same n (Some t.monomial) (Some u.monomial) ds ts us most g.1
    h.1)

pub refuses_terms-no : (n : ℕ) (b : Option (List Part)) (ds : List Data) (ts : List Term)
    (f : TableFault) → n ≤ 48 → SaysTerms n b ds ts → RefusesTerms n b ds f → ⊥
refuses_terms-no n b [] ts f most g h = h
refuses_terms-no n b (d ∷ ds) [] f most g h = g
refuses_terms-no n b (d ∷ ds) (t ∷ ts) f most g (inl r) = refuses_term-no n b d t f most g.0 r
refuses_terms-no n b (d ∷ ds) (t ∷ ts) f most g (inr later) =
    let same = says_term-same n b b d later.0 t most later.1 g.0 in
    refuses_terms-no n (Some t.monomial) ds ts f most g.1
    (subst (λ (u : Term). RefusesTerms n (Some u.monomial) ds f) same later.2)

pub refuses_terms-same : (n : ℕ) (b : Option (List Part)) (ds : List Data) (f g : TableFault)
    → n ≤ 48
    → RefusesTerms n b ds f → RefusesTerms n b ds g → f ≡ g
refuses_terms-same n b [] f g most h k = absurd h
refuses_terms-same n b (d ∷ ds) f g most (inl r) (inl s) = refuses_term-same n b d f g r s
refuses_terms-same n b (d ∷ ds) f g most (inl r) (inr later) =
    absurd (refuses_term-no n b d later.0 f most later.1 r)
refuses_terms-same n b (d ∷ ds) f g most (inr later) (inl r) =
    absurd (refuses_term-no n b d later.0 g most later.1 r)
refuses_terms-same n b (d ∷ ds) f g most (inr one) (inr two) =
    let same = says_term-same n b b d two.0 one.0 most two.1 one.1 in
    refuses_terms-same n (Some one.0.monomial) ds f g most one.2
    (subst (λ (u : Term). RefusesTerms n (Some u.monomial) ds g) same two.2)

-- ---- polynomials
says_poly-same : (n : ℕ) (d : Data) (p q : List Term) → n ≤ 48 → SaysPoly n d p → SaysPoly n d q
    → p ≡ q
says_poly-same n d p q most g h =
    let same = array_of-same g.0 h.0 (sym g.1 ∙ h.1) in
    says_terms-same n None None h.0 p q most (subst (λ ds. SaysTerms n None ds p) same g.2) h.2

refuses_poly-no : (n : ℕ) (d : Data) (p : List Term) (f : TableFault) → n ≤ 48 → SaysPoly n d p
    → RefusesPoly n d f → ⊥
refuses_poly-no n d p f most g h =
    let same = array_of-same g.0 h.0 (sym g.1 ∙ h.1) in
    refuses_terms-no n None h.0 p f most (subst (λ ds. SaysTerms n None ds p) same g.2) h.2

refuses_poly-same : (n : ℕ) (d : Data) (f g : TableFault) → n ≤ 48 → RefusesPoly n d f
    → RefusesPoly n d g → f ≡ g
refuses_poly-same n d f g most h k =
    let same = array_of-same h.0 k.0 (sym h.1 ∙ k.1) in
    refuses_terms-same n None k.0 f g most (subst (λ ds. RefusesTerms n None ds f) same h.2) k.2

pub says_polys-same : (n : ℕ) (ds : List Data) (ps qs : List (List Term)) → n ≤ 48
    → SaysPolys n ds ps
    → SaysPolys n ds qs → ps ≡ qs
says_polys-same n [] [] [] most g h = refl
says_polys-same n [] [] (q ∷ qs) most g h = absurd h
says_polys-same n [] (p ∷ ps) qs most g h = absurd g
says_polys-same n (d ∷ ds) [] qs most g h = absurd g
says_polys-same n (d ∷ ds) (p ∷ ps) [] most g h = absurd h
says_polys-same n (d ∷ ds) (p ∷ ps) (q ∷ qs) most g h =
    ap (λ r. r ∷ ps) (says_poly-same n d p q most g.0 h.0)
    ∙ ap (λ rs. q ∷ rs) (says_polys-same n ds ps qs most g.1 h.1)

pub refuses_polys-no : (n : ℕ) (ds : List Data) (ps : List (List Term)) (f : TableFault) → n ≤ 48
    → SaysPolys n ds ps → RefusesPolys n ds f → ⊥
refuses_polys-no n [] ps f most g h = h
refuses_polys-no n (d ∷ ds) [] f most g h = g
refuses_polys-no n (d ∷ ds) (p ∷ ps) f most g (inl r) = refuses_poly-no n d p f most g.0 r
refuses_polys-no n (d ∷ ds) (p ∷ ps) f most g (inr later) =
    refuses_polys-no n ds ps f most g.1 later.2

pub refuses_polys-same : (n : ℕ) (ds : List Data) (f g : TableFault) → n ≤ 48 → RefusesPolys n ds f
    → RefusesPolys n ds g → f ≡ g
refuses_polys-same n [] f g most h k = absurd h
refuses_polys-same n (d ∷ ds) f g most (inl r) (inl s) = refuses_poly-same n d f g most r s
refuses_polys-same n (d ∷ ds) f g most (inl r) (inr later) =
    absurd (refuses_poly-no n d later.0 f most later.1 r)
refuses_polys-same n (d ∷ ds) f g most (inr later) (inl r) =
    absurd (refuses_poly-no n d later.0 g most later.1 r)
refuses_polys-same n (d ∷ ds) f g most (inr one) (inr two) =
    refuses_polys-same n ds f g most one.2 two.2
