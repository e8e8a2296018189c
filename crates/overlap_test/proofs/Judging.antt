-- What the two ways of an overlap are, by what they say.
--   i level · j < k generators · r s outcomes · a b vectors · o overlap
use Rattle.std.proofs.Common.{◌≡◌, ◌≢◌, ℕ, Bool, true, false, ℤ, List, refl, sym, ◌∙◌, ap, inl, inr}
use Rattle.std.specs.Prelude.{Ok, Err, cond}
use Rattle.std.specs.Cmp.Lexicographic.{pointwise}
use Rattle.std.specs.Cmp.Rules.{signed_items}
use Rattle.std.specs.Ordering.{int_eq}
use Rattle.std.proofs.lemmas.Bool.{cases_Bool}
use Rattle.group_eval.specs.Order.{Outcome}
use Rattle.overlap_test.specs.declared.overlap.Overlap.{Overlap}
use Rattle.overlap_test.specs.declared.level_result.LevelResult.TheVariants.{Agree, Differ}
use Rattle.overlap_test.specs.Verdict.{overlap_of, judged}

pub record AreEqualAt (r s : Outcome) : Type 0 where
  pub way : List ℤ
  pub first : r ≡ Ok way
  pub second : s ≡ Ok way

pub record DifferAt (i j k : ℕ) (r s : Outcome) (o : Overlap) : Type 0 where
  pub left : List ℤ
  pub right : List ℤ
  pub first : r ≡ Ok left
  pub second : s ≡ Ok right
  pub different : left ≢ right
  pub is : o ≡ overlap_of i j k left right

pub judged_agree : (i j k : ℕ) (r s : Outcome) → judged i j k r s ≡ Agree → AreEqualAt r s
judged_agree i j k (Ok a) (Ok b) h =
    elim (cases_Bool (pointwise int_eq a b)) [
      | inl t ↦
          let e : a ≡ b = (signed_items a b).0 t in
          record { way = a; first = refl; second = ap (λ (v : List ℤ). Ok v) (sym e) }
      | inr f ↦
          let g : Differ (overlap_of i j k a b) ≡ Agree =
          sym (ap (λ (t : Bool). cond t Agree (Differ (overlap_of i j k a b))) f) ∙ h in
          absurd (cc)
    ]
judged_agree i j k (Ok a) (Err at) h = absurd (cc)
judged_agree i j k (Err at) s h = absurd (cc)

pub judged_differ : (i j k : ℕ) (r s : Outcome) (o : Overlap) → judged i j k r s ≡ Differ o
    → DifferAt i j k r s o
judged_differ i j k (Ok a) (Ok b) o h =
    elim (cases_Bool (pointwise int_eq a b)) [
      | inl t ↦
          let g : Agree ≡ Differ o =
          sym (ap (λ (u : Bool). cond u Agree (Differ (overlap_of i j k a b))) t) ∙ h in
          absurd (cc)
      | inr f ↦
          let g : Differ (overlap_of i j k a b) ≡ Differ o =
          sym (ap (λ (u : Bool). cond u Agree (Differ (overlap_of i j k a b))) f) ∙ h in
          record {
            left = a;
            right = b;
            first = refl;
            second = refl;
            different = λ e.
                let t : true ≡ false = sym ((signed_items a b).1 e) ∙ f in absurd (cc);
            is = cc;
          }
    ]
judged_differ i j k (Ok a) (Err at) o h = absurd (cc)
judged_differ i j k (Err at) s o h = absurd (cc)
