-- Reading terms, and polynomials, one after another.
--   SaysOn n all done rest      what is still to be read gives all, behind the terms that were read
--   RefusesOn n all done rest   a fault of what is still to be read is the fault of all
--   SaysPolysOn, RefusesPolysOn the same of polynomials
--   n generators · vs all the values · i how many were read · done what was read · v value
use Rattle.std.proofs.Common.{◌≡◌, ℕ, zero, suc, ◌+◌, ◌<◌, ◌≤◌, List, [], ◌∷◌, ◌++◌, length, get_or, drop, None, inl, inr, refl, sym, ◌∙◌, ap, subst, append_assoc, append-nil, arith}
use Rattle.std.specs.Prelude.{All}
use Rattle.std.proofs.lemmas.List.Elements.{All-head, All-tail}
use Rattle.serde_json.specs.Data.{Data}
use Rattle.serde_json.specs.View.{view}
use Rattle.serde_json.specs.declared.value.Value.{Value}
use Rattle.binom_poly.specs.declared.term.Term.{Term}
use Rattle.table_json.specs.declared.table_fault.TableFault.{TableFault}
use Rattle.table_json.specs.Refusing.{IsArray, SaysTerms, RefusesTerms, SaysPoly, RefusesPoly, SaysPolys, RefusesPolys}
use Rattle.table_json.specs.TermRules.{SaysTerm, RefusesTerm}
use Rattle.table_json.specs.Reading.{data_of, last_monomial}
use Rattle.table_json.proofs.Behind.{last_monomial-append}

drop_view : (vs : List Value) (i : ℕ) (v : Value) → i < length vs
    → drop i (data_of vs) ≡ view (get_or vs i v) ∷ drop (i + 1) (data_of vs)
drop_view [] i v h = absurd (omega arith)
drop_view (u ∷ vs) zero v h = refl
drop_view (u ∷ vs) (suc i) v h =
    let e : suc (i + 1) ≡ suc i + 1 = omega arith in
    drop_view vs i v (omega arith)
    ∙ ap (λ j. view (get_or vs i v) ∷ drop j (data_of (u ∷ vs))) e

drop_at : (vs : List Value) (i : ℕ) (v : Value) → i < length vs → v ≡ get_or vs i v
    → drop i (data_of vs) ≡ view v ∷ drop (i + 1) (data_of vs)
drop_at vs i v h e =
    drop_view vs i v h ∙ ap (λ u. view u ∷ drop (i + 1) (data_of vs)) (sym e)

drop_all : (vs : List Value) (i : ℕ) → length vs ≤ i → drop i (data_of vs) ≡ []
drop_all [] zero h = refl
drop_all [] (suc i) h = refl
drop_all (v ∷ vs) zero h = absurd (omega arith)
drop_all (v ∷ vs) (suc i) h = drop_all vs i (omega arith)

-- ---- terms
abbrev pub SaysOn : ℕ → List Value → ℕ → List Term → Type 0
SaysOn n vs i done = (ts : List Term) → SaysTerms n (last_monomial done) (drop i (data_of vs)) ts
    → SaysTerms n None (data_of vs) (done ++ ts)

abbrev pub RefusesOn : ℕ → List Value → ℕ → List Term → Type 0
RefusesOn n vs i done = (f : TableFault)
    → RefusesTerms n (last_monomial done) (drop i (data_of vs)) f
    → RefusesTerms n None (data_of vs) f

pub says_on-more : (n : ℕ) (vs : List Value) (i : ℕ) (done : List Term) (v : Value) (t : Term)
    → i < length vs → v ≡ get_or vs i v → SaysTerm n (last_monomial done) (view v) t
    → SaysOn n vs i done → SaysOn n vs (i + 1) (done ++ t ∷ [])
says_on-more n vs i done v t l e says on ts h =
    let rest = subst (λ b. SaysTerms n b (drop (i + 1) (data_of vs)) ts) (last_monomial-append done
    t) h in
    subst (SaysTerms n None (data_of vs)) (sym (append_assoc done (t ∷ []) ts))
    (on (t ∷ ts)
    (subst (λ ds. SaysTerms n (last_monomial done) ds (t ∷ ts)) (sym (drop_at vs i v l e)) (
      says,
      rest,
    )))

pub refuses_on-more : (n : ℕ) (vs : List Value) (i : ℕ) (done : List Term) (v : Value) (t : Term)
    → i < length vs → v ≡ get_or vs i v → SaysTerm n (last_monomial done) (view v) t
    → RefusesOn n vs i done → RefusesOn n vs (i + 1) (done ++ t ∷ [])
refuses_on-more n vs i done v t l e says on f h =
    let rest = subst (λ b. RefusesTerms n b (drop (i + 1) (data_of vs)) f) (last_monomial-append
    done t) h in
    on f
    (subst (λ ds. RefusesTerms n (last_monomial done) ds f) (sym (drop_at vs i v l e))
    (inr (t, says, rest)))

pub refuses_on-here : (n : ℕ) (vs : List Value) (i : ℕ) (done : List Term) (v : Value) (f :
    TableFault)
    → i < length vs → v ≡ get_or vs i v → RefusesTerm n (last_monomial done) (view v) f
    → RefusesOn n vs i done → RefusesTerms n None (data_of vs) f
refuses_on-here n vs i done v f l e refuses on =
    on f
    (subst (λ ds. RefusesTerms n (last_monomial done) ds f) (sym (drop_at vs i v l e)) (inl
    refuses))

pub says_on-end : (n : ℕ) (vs : List Value) (i : ℕ) (done : List Term) → length vs ≤ i
    → SaysOn n vs i done
    → SaysTerms n None (data_of vs) done
says_on-end n vs i done l on =
    subst (SaysTerms n None (data_of vs)) (append-nil done)
    (on [] (subst (λ ds. SaysTerms n (last_monomial done) ds []) (sym (drop_all vs i l)) tt))

-- ---- polynomials
abbrev pub SaysPolysOn : ℕ → List Value → ℕ → List (List Term) → Type 0
SaysPolysOn n vs i done = (ps : List (List Term)) → SaysPolys n (drop i (data_of vs)) ps
    → SaysPolys n (data_of vs) (done ++ ps)

abbrev pub RefusesPolysOn : ℕ → List Value → ℕ → Type 0
RefusesPolysOn n vs i = (f : TableFault) → RefusesPolys n (drop i (data_of vs)) f
    → RefusesPolys n (data_of vs) f

pub says_polys_on-more : (n : ℕ) (vs : List Value) (i : ℕ) (done : List (List Term)) (v : Value)
    (p : List Term) → i < length vs → v ≡ get_or vs i v → SaysPoly n (view v) p
    → SaysPolysOn n vs i done → SaysPolysOn n vs (i + 1) (done ++ p ∷ [])
says_polys_on-more n vs i done v p l e says on ps h =
    subst (SaysPolys n (data_of vs)) (sym (append_assoc done (p ∷ []) ps))
    (on (p ∷ ps) (subst (λ ds. SaysPolys n ds (p ∷ ps)) (sym (drop_at vs i v l e)) (says, h)))

pub refuses_polys_on-more : (n : ℕ) (vs : List Value) (i : ℕ) (v : Value) (p : List Term)
    → i < length vs
    → v ≡ get_or vs i v → SaysPoly n (view v) p → RefusesPolysOn n vs i
    → RefusesPolysOn n vs (i + 1)
refuses_polys_on-more n vs i v p l e says on f h =
    on f (subst (λ ds. RefusesPolys n ds f) (sym (drop_at vs i v l e)) (inr (p, says, h)))

pub refuses_polys_on-here : (n : ℕ) (vs : List Value) (i : ℕ) (v : Value) (f : TableFault)
    → i < length vs
    → v ≡ get_or vs i v → RefusesPoly n (view v) f → RefusesPolysOn n vs i
    → RefusesPolys n (data_of vs) f
refuses_polys_on-here n vs i v f l e refuses on =
    on f (subst (λ ds. RefusesPolys n ds f) (sym (drop_at vs i v l e)) (inl refuses))

pub says_polys_on-end : (n : ℕ) (vs : List Value) (i : ℕ) (done : List (List Term)) → length vs ≤ i
    → SaysPolysOn n vs i done → SaysPolys n (data_of vs) done
says_polys_on-end n vs i done l on =
    subst (SaysPolys n (data_of vs)) (append-nil done)
    (on [] (subst (λ ds. SaysPolys n ds []) (sym (drop_all vs i l)) tt))

-- ---- values that are arrays
pub array_at : (vs : List Value) (i : ℕ) (v : Value) → i < length vs → v ≡ get_or vs i v
    → All IsArray (data_of vs) → IsArray (view v)
array_at [] i v h e all = absurd (omega arith)
array_at (u ∷ vs) zero v h e all =
    subst (λ w. IsArray (view w)) (sym e) (All-head IsArray (view u) (data_of vs) all)
array_at (u ∷ vs) (suc i) v h e all =
    array_at vs i v (omega arith) e (All-tail IsArray (view u) (data_of vs) all)

pub says_polys-length : (n : ℕ) (ds : List Data) (ps : List (List Term)) → SaysPolys n ds ps
    → length ds ≡ length ps
says_polys-length n [] [] h = refl
says_polys-length n [] (p ∷ ps) h = absurd h
says_polys-length n (d ∷ ds) [] h = absurd h
says_polys-length n (d ∷ ds) (p ∷ ps) h = ap suc (says_polys-length n ds ps h.1)
