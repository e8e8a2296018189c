-- The step polynomials that were made.
--   t table · j k generators · up a generator, or its inverse · vs variables · p q polynomials
--   list what is put in
use Rattle.std.proofs.Common.{◌≡◌, ℕ, ◌-◌, Bool, true, false, List, [], ◌++◌, map, sym, ap, ◌∙◌, subst, arith}
use Rattle.nil_word.specs.Congruence.{Relations}
use Rattle.nil_word.specs.Exponents.{numbers}
use Rattle.std.proofs.lemmas.List.Elements.{All-append}
use Rattle.binom_poly.specs.declared.term.Term.{Term}
use Rattle.binom_poly.specs.Variable.{y_of}
use Rattle.poly_subst.specs.declared.assign.Assign.{Assign}
use Rattle.poly_subst.specs.Renaming.{without, IsInX}
use Rattle.poly_subst.specs.Substitute.{substituted, SubstituteOverflows}
use Rattle.poly_subst.specs.Walk.{by_number, in_x, in_y}
use Rattle.hall_table.specs.Tabled.{Tabled, IsTabled, poly_at}
use Rattle.identity_check.specs.Sides.{other_ys, step}
use Rattle.identity_check.specs.Overflowing.{StepOverflows}
use Rattle.identity_check.specs.Signs.{number_of}
use Rattle.identity_check.specs.Events.{Event, at_each, Stops}
use Rattle.identity_check.proofs.Agreeing.{IsOf}
use Rattle.identity_check.proofs.ByNumber.{IsUnit, unit_up, unit_down, is_step}
use Rattle.identity_check.proofs.StepConditions.{in_x_alone}
use Rattle.identity_check.proofs.MadeSides.{kept_overflows, kept_same}
use Rattle.identity_check.proofs.Halting.{NoneOf}
use Rattle.identity_check.proofs.Stretches.{none_begins}

pub unit_of : (up : Bool) → IsUnit (number_of up)
unit_of true = unit_up
unit_of false = unit_down

pub record MadeStep (t : Tabled) (j k : ℕ) (up : Bool) (q : List Term) : Type 0 where
  pub is : q ≡ step t j (number_of up) k
  pub fits : ¬ StepOverflows t j (number_of up) k
  pub in_x : IsInX q

pub made_step : (t : Tabled) (j k : ℕ) (up : Bool) (vs : List ℕ) (p : List Term) (list : List Assign)
    (q : List Term) → IsTabled t → IsOf t k → vs ≡ other_ys t j → p ≡ poly_at t k
    → list ≡ by_number (y_of j) (number_of up) → q ≡ substituted (without vs p) list
    → ¬ SubstituteOverflows (without vs p) list → MadeStep t j k up q
made_step t j k up vs p list q h o a b d e n =
    let more = by_number (y_of j) (number_of up) in
    let is : q ≡ step t j (number_of up) k =
    e ∙ kept_same vs (other_ys t j) p (poly_at t k) list more a b d in
    let fits : ¬ StepOverflows t j (number_of up) k =
    λ w. n (kept_overflows (other_ys t j) vs (poly_at t k) p more list (sym a) (sym b) (sym d) w) in
    record {
      is = is;
      fits = fits;
      in_x = subst IsInX (sym is)
          (in_x_alone t j k (number_of up) h o
          (is_step t k (other_ys t j) (y_of j) (number_of up) h o (unit_of up) fits));
    }

-- ---- where a loop begins
pub polys_begin : (low first : ℕ) (h : ℕ → List Term) (ps : List (List Term)) → first ≡ low → ps ≡ []
    → ps ≡ map h (numbers low (first - low))
polys_begin low first h ps e n =
    n ∙ ap (λ (d : ℕ). map h (numbers low d)) (let z : 0 ≡ first - low = omega arith in z)

pub list_begins : (low first : ℕ) (h : ℕ → List Term) (ss : List Assign) → first ≡ low → ss ≡ []
    → ss ≡ in_y low (first - low) h
unfolding in_y
list_begins low first h ss e n =
    n ∙ ap (λ (d : ℕ). in_y low d h) (let z : 0 ≡ first - low = omega arith in z)

pub x_begins : (low first : ℕ) (h : ℕ → List Term) (ss : List Assign) → first ≡ low → ss ≡ []
    → ss ≡ in_x low (first - low) h
unfolding in_x
x_begins low first h ss e n =
    n ∙ ap (λ (d : ℕ). in_x low d h) (let z : 0 ≡ first - low = omega arith in z)

pub walk_begins : (rels : Relations) (t : Tabled) (e : ℕ → Event) (first : ℕ) → first ≡ t.level
    → NoneOf rels t (at_each (numbers t.level (first - t.level)) e)
walk_begins rels t e first s =
    subst (λ (m : ℕ). NoneOf rels t (at_each (numbers t.level (m - t.level)) e)) (sym s)
    (none_begins rels t e t.level)

pub both_walked : (rels : Relations) (t : Tabled) (es ds : List Event) → NoneOf rels t es
    → NoneOf rels t ds → NoneOf rels t (es ++ ds)
both_walked rels t es ds h k = All-append (λ (d : Event). ¬ Stops rels t d) es ds h k

-- ---- what is made of equal things
pub put_overflows : (p q : List Term) (list more : List Assign) → p ≡ q → list ≡ more
    → SubstituteOverflows p list → SubstituteOverflows q more
put_overflows p q list more e f h =
    subst (λ (r : List Term). SubstituteOverflows r more) e (subst (SubstituteOverflows p) f h)

pub put_same : (p q : List Term) (list more : List Assign) → p ≡ q → list ≡ more
    → substituted p list ≡ substituted q more
put_same p q list more e f =
    ap (λ (r : List Term). substituted r list) e ∙ ap (substituted q) f
