-- What the overlaps of a level say.
--   row n j            (j, k) for each k above j
--   overlaps n i       (j, k) for each overlap (i, j, k) of level i, j ascending and then k
--   overlap_of         an overlap with the vectors of its two ways, and 1 put at place i
--   judged i j k r s   what two ways say: Wide where one overflows, else whether they are equal
--   tried c i o        what an overlap says
--   or_later r s       r, and s where r is Agree
--   first_event rs     the first of results that isn't Agree, and Agree where each is
--   verdict c i        what the overlaps of a level say in their order
--   IsFirst c i r      r is what one of them says, and all before it agree
--   IsVerdict c i r    r is Agree exactly where all agree, and Differ or Wide exactly where that is
--                      what the first says that doesn't agree
--   IfAgree r P        P where r is Agree
--   IfDiffer r P       P of the overlap where r is Differ
-- c a presentation with a table above level i · n generators · i level · j < k generators
-- o overlap, in tried as (j, k) · a b vectors, r s their outcomes, or results
use Rattle.std.specs.Prelude.{◌≡◌, ◌↔◌, ℕ, suc, ◌-◌, ℤ, pos, List, [], ◌∷◌, ◌++◌, All, length, map, flat_map, Ok, Err, if◌then◌else◌}
use Rattle.std.specs.Ordering.{int_eq}
use Rattle.std.specs.Cmp.Lexicographic.{pointwise}
use Rattle.nil_word.specs.Exponents.{numbers}
use Rattle.hall_law.specs.Plan.{put}
use Rattle.hall_table.specs.Multiplies.{Paired}
use Rattle.group_eval.specs.Order.{Outcome}
use Rattle.overlap_test.specs.declared.overlap.Overlap.{Overlap}
use Rattle.overlap_test.specs.declared.level_result.LevelResult.{LevelResult}
use Rattle.overlap_test.specs.declared.level_result.LevelResult.TheVariants.{Agree, Differ, Wide}
use Rattle.overlap_test.specs.Ways.{first_written, second_written}

abbrev pub row : ℕ → ℕ → List (ℕ × ℕ)
row n j = map (λ k. (j, k)) (numbers (suc j) (n - j))

abbrev pub overlaps : ℕ → ℕ → List (ℕ × ℕ)
overlaps n i = flat_map (row n) (numbers (suc i) (n - i))

abbrev pub overlap_of : ℕ → ℕ → ℕ → List ℤ → List ℤ → Overlap
overlap_of i j k a b =
    record { i = i; j = j; k = k; left = put a i (pos 1); right = put b i (pos 1) }

abbrev pub judged : ℕ → ℕ → ℕ → Outcome → Outcome → LevelResult
judged i j k (Ok a) (Ok b) =
    if pointwise int_eq a b then Agree else Differ (overlap_of i j k a b)
judged i j k (Ok a) (Err at) = Wide j k
judged i j k (Err at) s = Wide j k

abbrev pub tried : Paired → ℕ → ℕ × ℕ → LevelResult
tried c i o = judged i o.0 o.1 (first_written c i o.0 o.1) (second_written c i o.0 o.1)

abbrev pub or_later : LevelResult → LevelResult → LevelResult
or_later Agree s = s
or_later (Differ o) s = Differ o
or_later (Wide j k) s = Wide j k

abbrev pub first_event : List LevelResult → LevelResult
first_event [] = Agree
first_event (r ∷ rs) = or_later r (first_event rs)

abbrev pub verdict : Paired → ℕ → LevelResult
verdict c i = first_event (map (tried c i) (overlaps (length c.pres.names) i))

pub record IsFirst (c : Paired) (i : ℕ) (r : LevelResult) : Type 0 where
  pub before : List (ℕ × ℕ)
  pub overlap : ℕ × ℕ
  pub after : List (ℕ × ℕ)
  pub listed : overlaps (length c.pres.names) i ≡ before ++ overlap ∷ after
  pub agree : All (λ o. tried c i o ≡ Agree) before
  pub says : tried c i overlap ≡ r

pub record IsVerdict (c : Paired) (i : ℕ) (r : LevelResult) : Type 0 where
  pub agree : (r ≡ Agree) ↔ All (λ o. tried c i o ≡ Agree) (overlaps (length c.pres.names) i)
  pub differ : (o : Overlap) → (r ≡ Differ o) ↔ IsFirst c i (Differ o)
  pub wide : (j k : ℕ) → (r ≡ Wide j k) ↔ IsFirst c i (Wide j k)

abbrev pub IfAgree : LevelResult → Type 0 → Type 0
IfAgree Agree P = P
IfAgree (Differ o) P = Unit {0}
IfAgree (Wide j k) P = Unit {0}

abbrev pub IfDiffer : LevelResult → (Overlap → Type 0) → Type 0
IfDiffer Agree P = Unit {0}
IfDiffer (Differ o) P = P o
IfDiffer (Wide j k) P = Unit {0}
