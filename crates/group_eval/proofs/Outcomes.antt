-- What an outcome that is a vector says of the outcomes that it is made of.
--   r s outcomes · f what follows · t table · a b x vectors
use Rattle.std.proofs.Common.{◌≡◌, ℕ, Bool, true, false, ℤ, List, ◌⊎◌, inl, inr, refl}
use Rattle.std.specs.Prelude.{Option, Some, None, Ok, Err, if◌then◌else◌}
use Rattle.nil_num.specs.First.{first_from}
use Rattle.hall_table.specs.declared.wide_at.WideAt.{WideAt}
use Rattle.hall_table.specs.declared.wide_at.WideAt.TheVariants.{RowX, RowY, Sum}
use Rattle.hall_table.specs.Tabled.{Tabled}
use Rattle.hall_table.specs.Values.{values}
use Rattle.hall_table.specs.Order.{generators, named, multiplied, x_overflows, y_overflows, sum_at_overflows}
use Rattle.group_eval.specs.Order.{Outcome, and_then, unless}

pub named_ok : (place : ℕ → WideAt) (found : Option ℕ) (r : Outcome) (x : List ℤ)
    → named place found r ≡ Ok x → r ≡ Ok x
named_ok place None r x h = h
named_ok place (Some k) r x h = cc

pub unless_ok : (wide : Bool) (at : WideAt) (r : Outcome) (x : List ℤ) → unless wide at r ≡ Ok x
    → r ≡ Ok x
unless_ok true at r x h = cc
unless_ok false at r x h = h

-- the vector in between
pub and_then_ok : (r : Outcome) (f : List ℤ → Outcome) (x : List ℤ) → and_then r f ≡ Ok x
    → (a : List ℤ) × (r ≡ Ok a) × (f a ≡ Ok x)
and_then_ok (Ok a) f x h = (a, refl, h)
and_then_ok (Err at) f x h = cc

-- the side that was chosen
pub if_ok : (b : Bool) (r s : Outcome) (x : List ℤ) → (if b then r else s) ≡ Ok x
    → ((b ≡ true) × (r ≡ Ok x)) ⊎ ((b ≡ false) × (s ≡ Ok x))
if_ok true r s x h = inl (refl, h)
if_ok false r s x h = inr (refl, h)

pub multiplied_ok : (t : Tabled) (a b x : List ℤ) → multiplied t a b ≡ Ok x → values t a b ≡ x
multiplied_ok t a b x h =
    let sums : Outcome = named Sum (first_from t.level (generators t) (sum_at_overflows t a b))
    (Ok (values t a b)) in
    let rows : Outcome = named RowY (first_from t.level (generators t) (y_overflows t b)) sums in
    let made : Ok (values t a b) ≡ Ok x =
    named_ok Sum (first_from t.level (generators t) (sum_at_overflows t a b)) (Ok (values t a b)) x
    (named_ok RowY (first_from t.level (generators t) (y_overflows t b)) sums x
    (named_ok RowX (first_from t.level (generators t) (x_overflows t a)) rows x h)) in
    cc
