-- The images that a checked table gives.
--   c presentation with a table of the level above i · Q powers of the table · b a point of the other
--   variables · made the images that were made, the last generator's first · vs these turned round
use Rattle.std.proofs.Common.{◌≡◌, ℕ, suc, ◌+◌, ◌-◌, ◌<◌, ◌≤◌, List, [], ◌∷◌, length, map, get_or, reverse, sym, ap, ◌∙◌, subst, arith}
use Rattle.std.specs.Prelude.{All}
use Rattle.std.proofs.lemmas.List.{get_or-map, get_or-reverse, length-reverse, length-map}
use lib.IntN.{ℤ}
use Rattle.nil_word.specs.Factors.{IsFactored}
use Rattle.hall_law.specs.Plan.{Powers, IsPower, AreImages, IsPlanned}
use Rattle.hall_law.specs.Table.{IsPresentation, IsTable}
use Rattle.nil_pres.specs.Relations.{relations_of, between}
use Rattle.binom_poly.specs.declared.term.Term.{Term}
use Rattle.hall_table.specs.Agreement.{IsPowerOf}
use Rattle.hall_table.specs.Multiplies.{Paired, IsChecked}
use Rattle.hall_table.specs.Order.{generators}
use Rattle.hall_table.specs.Tabled.{IsTabled, last_of}
use Rattle.hall_table.specs.Values.{values}
use Rattle.sum_compiler.specs.Calls.{IsMade}
use Rattle.sum_compiler.specs.Powers.{power_plan}
use Rattle.sum_compiler.specs.Images.{all_images, image_plan}
use Rattle.sum_compiler.specs.Readings.{read, at_time, images_at}
use Rattle.sum_compiler.proofs.ReadAt.{bounds_of}
use Rattle.sum_compiler.proofs.ImageEntries.{length-images}
use Rattle.sum_compiler.proofs.ImagesAre.{images_are}

pub planned_of : (c : Paired) (i : ℕ) (Q : Powers) → IsPresentation (relations_of c.pres)
    → IsFactored (relations_of c.pres) (between c.pres) → c.table.level ≡ i + 1 → 1 ≤ i → IsChecked c
    → IsPowerOf c Q → IsPlanned (relations_of c.pres) (between c.pres) i (values c.table) Q
planned_of c i Q presented factored level least checked is_power =
    let e : c.table.level ≡ suc i = omega arith in
    record {
      presentation = presented;
      factored = factored;
      least = least;
      table = subst (λ (m : ℕ). IsTable (relations_of c.pres) m (values c.table)) e checked.multiplies;
      powers = subst (λ (m : ℕ). IsPower (length c.pres.names) m (values c.table) Q) e is_power;
    }

-- lists that are turned round
pub reversed_at : {X Y : Type 0} (f : X → Y) (xs : List X) (k : ℕ) (y : Y) → k < length xs
    → get_or (map f (reverse xs)) k y ≡ get_or (map f xs) (length xs - 1 - k) y
reversed_at f [] k y l = absurd (omega arith)
reversed_at f (x ∷ xs) k y l =
    get_or-map f (reverse (x ∷ xs)) k x y (omega (arith, length-reverse (x ∷ xs)))
    ∙ ap f (get_or-reverse (x ∷ xs) k x l)
    ∙ sym (get_or-map f (x ∷ xs) (length (x ∷ xs) - 1 - k) x y (omega arith))

pub conjugates_are : {X : Type 0} (items : X → List (List Term)) (c : Paired) (i : ℕ) (Q : Powers)
    (made vs : List X) (b : ℕ → ℤ)
    → IsPlanned (relations_of c.pres) (between c.pres) i (values c.table) Q
    → IsTabled c.table → IsChecked c → c.table.level ≡ i + 1
    → All IsMade (power_plan c.table) → All IsMade (image_plan c.table (between c.pres i))
    → map items made ≡ all_images c.table (between c.pres i) → vs ≡ reverse made
    → AreImages (relations_of c.pres) (between c.pres) i (values c.table) Q
    (images_at c.table b (map items vs))
conjugates_are items c i Q made vs b planned h checked level powers_made images_made is turned =
    let t = c.table in
    let bounds = bounds_of t h in
    let end : t.level + length t.polys ≡ suc (last_of t) = bounds.end in
    let size : length made ≡ generators t =
    sym (length-map made items) ∙ ap length is ∙ length-images t (between c.pres i) (generators t) in
    images_are (relations_of c.pres) (between c.pres) i t Q planned h (omega arith) checked.last powers_made
    images_made b (images_at t b (map items vs))
    (λ j s low high.
    ap (λ (xs : List (List (List Term))). read t (at_time b s) (get_or xs (j - t.level) []))
    (ap (map items) turned)
    ∙ ap (read t (at_time b s))
    (reversed_at items made (j - t.level) [] (omega arith)
    ∙ ap (λ (xs : List (List (List Term))). get_or xs (length made - 1 - (j - t.level)) []) is
    ∙ ap (λ (m : ℕ). get_or (all_images t (between c.pres i)) m [])
    (let e : length made - 1 - (j - t.level) ≡ last_of t - j = omega arith in e)))
