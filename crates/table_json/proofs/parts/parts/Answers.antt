use Rattle.std.proofs.Common.{◌≡◌, ◌<◌, ◌==◌, true, false, List, [], ◌∷◌, length, refl, sym, ap, subst, arith}
use Rattle.std.proofs.lemmas.Bool.Decides.{nat_tests}
use Rattle.serde_json.specs.View.{view}
use Rattle.serde_json.specs.declared.value.Value.{Value}
use Rattle.binom_poly.specs.declared.part.Part.{Part}
use Rattle.table_json.specs.Reading.{data_of}
use Rattle.table_json.proofs.Pairs.{Joins, Leaves, joins_end, joins_more, leaves_more, none_odd, none_with}
use Rattle.table_json.proofs.parts.parts.Goals as goal

none : (vs : List Value) → true ≡ (length vs == 0) → data_of vs ≡ []
none [] h = refl
none (v ∷ vs) h = absurd (grind (arith, nat_tests))

one : (vs : List Value) → length vs < 2 → false ≡ (length vs == 0)
    → (v : Value) × (data_of vs ≡ view v ∷ [])
one [] h k = absurd (grind (arith, nat_tests))
one (v ∷ []) h k = (v, refl)
one (v ∷ w ∷ vs) h k = absurd (omega arith)

-- two values that are no part
pub returns-in_default-part : goal.returns-in_default-part
returns-in_default-part c =
    none_with c.args.n (data_of c.args.values.now) (view c.in-Some.variable_value.now)
    (view c.in-Some.exponent_value.now) (data_of c.in-Some.more.now) c.in_default-part.ensures
    (subst (Leaves c.args.n (data_of c.args.values.now)) (ap data_of c.in-Some.ensures)
    c.parts.invariant.leaves)

-- a part more was read
pub parts-preserved : goal.parts-preserved
parts-preserved c =
    let all = data_of c.args.values.now in
    let rest = data_of c.in-Some.more.now in
    let cut = ap data_of c.in-Some.ensures in
    let is = c.in-Some-part.ensures in
    record {
      joins =
          subst (λ (done : List Part). Joins c.args.n all done rest) (sym
          c.in_ok-push.ensures.items)
          (joins_more c.args.n all c.parts.found.items (view c.in-Some.variable_value.now)
          (view c.in-Some.exponent_value.now) rest c.in-Some-part.part is.0 is.1 is.2
          (subst (Joins c.args.n all c.parts.found.items) cut c.parts.invariant.joins));
      leaves =
          leaves_more c.args.n all (view c.in-Some.variable_value.now)
          (view c.in-Some.exponent_value.now) rest
          (subst (Leaves c.args.n all) cut c.parts.invariant.leaves);
    }

-- nothing is left
pub returns-then-is_empty : goal.returns-then-is_empty
returns-then-is_empty c =
    joins_end c.args.n (data_of c.args.values.now) c.parts.found.items
    (subst (Joins c.args.n (data_of c.args.values.now) c.parts.found.items)
    (none c.parts.rest.now c.if-is_empty.ensures) c.parts.invariant.joins)

-- one value is left
pub returns-else-is_empty : goal.returns-else-is_empty
returns-else-is_empty c =
    let last = one c.parts.rest.now c.in_default.ensures c.if-is_empty.ensures in
    none_odd c.args.n (data_of c.args.values.now) (view last.0)
    (subst (Leaves c.args.n (data_of c.args.values.now)) last.1 c.parts.invariant.leaves)
