-- The two ways of an overlap (i, j, k) by the written order: their vectors above level i, or the
-- first place that overflows 128 bits.
--   image p i l            p_l = e_l + w_il, what a_l becomes behind a_i
--   images p i             those of the generators above i, in their order
--   joined_to t v r        v times what r gives
--   collected_written      v, and then for each factor the power of its image, and the product of
--                          what stands with it
--   power_joined c i v s   one such step
--   first_written          f(p_j, p_k) collected with the factors of w_jk
--   second_written         f(p_k, p_j)
-- c a presentation with a table above level i · p presentation · i level · j < k, l generators
-- s syllable, or factor · v vector · r outcome · t table
use Rattle.std.specs.Prelude.{ℕ, suc, ◌-◌, List, [], ◌∷◌, length, map, ℤ, Ok}
use Rattle.nil_word.specs.Exponents.{numbers}
use Rattle.nil_word.specs.Factors.{Factor}
use Rattle.nil_pres.specs.declared.syllable.Syllable.{Syllable}
use Rattle.nil_pres.specs.Presented.{Presented}
use Rattle.nil_pres.specs.Relations.{relations_of, between}
use Rattle.hall_law.specs.Plan.{image_of}
use Rattle.hall_table.specs.Tabled.{Tabled}
use Rattle.hall_table.specs.Multiplies.{Paired}
use Rattle.hall_table.specs.Order.{multiplied}
use Rattle.group_eval.specs.Order.{Outcome, and_then, powered}

abbrev pub image : Presented → ℕ → ℕ → List ℤ
image p i l = image_of (relations_of p) i l

abbrev pub images : Presented → ℕ → List (List ℤ)
images p i = map (image p i) (numbers (suc i) (length p.names - i))

abbrev pub joined_to : Tabled → List ℤ → Outcome → Outcome
joined_to t v r = and_then r (λ z. multiplied t v z)

abbrev pub collected_written : Tabled → (ℕ → List ℤ) → List Factor → List ℤ → Outcome
collected_written t image [] v = Ok v
collected_written t image (s ∷ ss) v =
    and_then (joined_to t v (powered t (image s.number) s.exp))
    (λ w. collected_written t image ss w)

abbrev pub power_joined : Paired → ℕ → List ℤ → Syllable → Outcome
power_joined c i v s = joined_to c.table v (powered c.table (image c.pres i s.number) s.exp)

abbrev pub first_written : Paired → ℕ → ℕ → ℕ → Outcome
first_written c i j k =
    and_then (multiplied c.table (image c.pres i j) (image c.pres i k))
    (λ v. collected_written c.table (image c.pres i) (between c.pres j k) v)

abbrev pub second_written : Paired → ℕ → ℕ → ℕ → Outcome
second_written c i j k = multiplied c.table (image c.pres i k) (image c.pres i j)
