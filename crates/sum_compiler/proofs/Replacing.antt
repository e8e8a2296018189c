-- What stands for each variable where polynomials are put in place of the variables of generators.
--   v w variables · ps xs ys zs s polynomials · list ss us what is put in · k generator · a point
use Rattle.std.proofs.Common.{◌≡◌, ◌≢◌, ℕ, suc, ◌+◌, ◌-◌, ◌<◌, ◌≤◌, List, [], ◌∷◌, ◌++◌, length, get_or, refl, sym, ap, ◌∙◌, arith, inl, inr}
use Rattle.std.specs.Prelude.{Option, Some, None, ◌⊎◌}
use Rattle.std.proofs.lemmas.Bool.{eq-eqb, ne_eqb}
use Rattle.std.proofs.lemmas.Bool.Decides.{eqb_tells}
use lib.IntN.{ℤ}
use Rattle.binom_poly.specs.declared.term.Term.{Term}
use Rattle.binom_poly.specs.Polynomial.{value_of}
use Rattle.binom_poly.specs.Variable.{y_of, z_of, step_variable}
use Rattle.poly_subst.specs.declared.assign.Assign.{Assign}
use Rattle.poly_subst.specs.Substitute.{assigned, value_by, replaced}
use Rattle.poly_subst.specs.Family.{poly_from}
use Rattle.sum_compiler.specs.Putting.{in_place, into, to_power}

here : (s : Assign) (ss : List Assign) (v : ℕ) → s.var ≡ v → assigned (s ∷ ss) v ≡ Some s.to
here s ss v e = rw (eq-eqb s.var v e) refl

there : (s : Assign) (ss : List Assign) (v : ℕ) → s.var ≢ v → assigned (s ∷ ss) v ≡ assigned ss v
there s ss v n = rw (ne_eqb s.var v n) refl

assigned-left : (ss us : List Assign) (v : ℕ) (p : List Term) → assigned ss v ≡ Some p
    → assigned (ss ++ us) v ≡ Some p
assigned-left [] us v p e = absurd (let f : None ≡ Some p = e in cc)
assigned-left (s ∷ ss) us v p e =
    elim (eqb_tells s.var v) [
      | inl same ↦ here s (ss ++ us) v same.1 ∙ sym (here s ss v same.1) ∙ e
      | inr other ↦
          there s (ss ++ us) v other.1
          ∙ assigned-left ss us v p (sym (there s ss v other.1) ∙ e)
    ]

assigned-right : (ss us : List Assign) (v : ℕ) → assigned ss v ≡ None
    → assigned (ss ++ us) v ≡ assigned us v
assigned-right [] us v e = refl
assigned-right (s ∷ ss) us v e =
    elim (eqb_tells s.var v) [
      | inl same ↦ absurd (let f : Some s.to ≡ None = sym (here s ss v same.1) ∙ e in cc)
      | inr other ↦
          there s (ss ++ us) v other.1
          ∙ assigned-right ss us v (sym (there s ss v other.1) ∙ e)
    ]

inside : (v : ℕ) (ps : List (List Term)) (w : ℕ) → v ≤ w → w < v + length ps
    → assigned (in_place v ps) w ≡ Some (get_or ps (w - v) [])
unfolding in_place
inside v [] w l u = absurd (omega arith)
inside v (p ∷ ps) w l u =
    elim (eqb_tells v w) [
      | inl same ↦
          (let e : v ≡ w = same.1 in
          here record { var = v; to = p } (in_place (suc v) ps) w e
          ∙ ap (λ (i : ℕ). Some (get_or (p ∷ ps) i [])) (let z : 0 ≡ w - v = omega arith in z))
      | inr other ↦
          (let n : v ≢ w = other.1 in
          there record { var = v; to = p } (in_place (suc v) ps) w n
          ∙ inside (suc v) ps w (omega arith) (omega arith)
          ∙ ap (λ (i : ℕ). Some (get_or (p ∷ ps) i []))
          (let z : suc (w - suc v) ≡ w - v = omega arith in z))
    ]

outside : (v : ℕ) (ps : List (List Term)) (w : ℕ) → (w < v) ⊎ (v + length ps ≤ w)
    → assigned (in_place v ps) w ≡ None
unfolding in_place
outside v [] w o = refl
outside v (p ∷ ps) w (inl l) =
    there record { var = v; to = p } (in_place (suc v) ps) w (λ e. omega arith)
    ∙ outside (suc v) ps w (inl (omega arith))
outside v (p ∷ ps) w (inr l) =
    there record { var = v; to = p } (in_place (suc v) ps) w (λ e. omega arith)
    ∙ outside (suc v) ps w (inr (omega arith))

by_some : (list : List Assign) (a : ℕ → ℤ) (v : ℕ) (p : List Term) → assigned list v ≡ Some p
    → replaced list a v ≡ value_of a p
by_some list a v p e = ap (λ (o : Option (List Term)). value_by o a v) e

by_none : (list : List Assign) (a : ℕ → ℤ) (v : ℕ) → assigned list v ≡ None → replaced list a v ≡ a v
by_none list a v e = ap (λ (o : Option (List Term)). value_by o a v) e

-- ---- xs in place of the x, and ys in place of the y
pub replaced-x : (level : ℕ) (xs ys : List (List Term)) (a : ℕ → ℤ) (k : ℕ) → level ≤ k
    → k < level + length xs → k < 64
    → replaced (into level xs ys) a k ≡ value_of a (poly_from level xs k)
replaced-x level xs ys a k l u s =
    by_some (into level xs ys) a k (poly_from level xs k)
    (assigned-right (in_place (64 + level) ys) (in_place level xs) k
    (outside (64 + level) ys k (inl (omega arith)))
    ∙ inside level xs k l u)

pub replaced-y : (level : ℕ) (xs ys : List (List Term)) (a : ℕ → ℤ) (k : ℕ) → level ≤ k
    → k < level + length ys
    → replaced (into level xs ys) a (y_of k) ≡ value_of a (poly_from level ys k)
replaced-y level xs ys a k l u =
    by_some (into level xs ys) a (64 + k) (poly_from level ys k)
    (assigned-left (in_place (64 + level) ys) (in_place level xs) (64 + k) (poly_from level ys k)
    (inside (64 + level) ys (64 + k) (omega arith) (omega arith)
    ∙ ap (λ (i : ℕ). Some (get_or ys i [])) (let z : 64 + k - (64 + level) ≡ k - level = omega arith in z)))

-- where nothing is put in place of the y
pub replaced-y_none : (level : ℕ) (xs : List (List Term)) (a : ℕ → ℤ) (k : ℕ)
    → level + length xs ≤ 64 → replaced (into level xs []) a (y_of k) ≡ a (y_of k)
unfolding in_place
replaced-y_none level xs a k u =
    by_none (into level xs []) a (64 + k) (outside level xs (64 + k) (inr (omega arith)))

-- ---- zs in place of the z, and s in place of t
pub replaced-z : (level : ℕ) (zs : List (List Term)) (s : List Term) (a : ℕ → ℤ) (v : ℕ)
    → z_of level ≤ v → v < z_of level + length zs
    → replaced (to_power level zs s) a v ≡ value_of a (get_or zs (v - z_of level) [])
replaced-z level zs s a v l u =
    by_some (to_power level zs s) a v (get_or zs (v - z_of level) [])
    (assigned-left (in_place (128 + level) zs) (record { var = 200; to = s } ∷ []) v
    (get_or zs (v - z_of level) []) (inside (128 + level) zs v l u))

pub replaced-t : (level : ℕ) (zs : List (List Term)) (s : List Term) (a : ℕ → ℤ)
    → level + length zs ≤ 49 → replaced (to_power level zs s) a step_variable ≡ value_of a s
replaced-t level zs s a u =
    by_some (to_power level zs s) a 200 s
    (assigned-right (in_place (128 + level) zs) (record { var = 200; to = s } ∷ []) 200
    (outside (128 + level) zs 200 (inr (omega arith)))
    ∙ here record { var = 200; to = s } [] 200 refl)

pub replaced-other : (level : ℕ) (zs : List (List Term)) (s : List Term) (a : ℕ → ℤ) (v : ℕ)
    → v ≢ step_variable → (v < z_of level) ⊎ (z_of level + length zs ≤ v)
    → replaced (to_power level zs s) a v ≡ a v
replaced-other level zs s a v n o =
    by_none (to_power level zs s) a v
    (assigned-right (in_place (128 + level) zs) (record { var = 200; to = s } ∷ []) v
    (outside (128 + level) zs v o)
    ∙ there record { var = 200; to = s } [] v (λ e. n (sym e)))
