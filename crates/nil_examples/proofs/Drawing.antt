-- States after several draws, and lines after several queries.
use Rattle.std.proofs.Common.{◌≡◌, ℕ, zero, suc, ◌+◌, ◌*◌, ◌≤◌, Option, Some, None, List, ◌++◌, refl, sym, ap, ◌∙◌, add-zero, add-suc, arith}
use Rattle.std.specs.Option.{option_or}
use Rattle.nil_examples.specs.declared.example_fault.ExampleFault.{ExampleFault}
use Rattle.nil_examples.specs.Draws.{next, later}
use Rattle.nil_examples.specs.Sizes.{size_fault}
use Rattle.nil_examples.specs.Loads.{word, line, query, queries, load_fault}
use Rattle.nil_examples.proofs.Numbering.{one_less, one_more, one_first, flat_map-more}
use Rattle.nil_examples.proofs.Sized.{in_range}

pub later-later : (s a b : ℕ) → later (later s a) b ≡ later s (a + b)
later-later s a zero = ap (λ (k : ℕ). later s k) (sym (add-zero a))
later-later s a (suc b) = ap next (later-later s a b) ∙ ap (λ (k : ℕ). later s k) (sym (add-suc a b))

-- the state after one query more
pub state-next : (seed k state after : ℕ) → state ≡ later seed (8 * k) → after ≡ later (later state 4) 4 → after ≡ later seed (8 * (k + 1))
state-next seed k state after before is =
    let eight : 8 * k + 8 ≡ 8 * (k + 1) = omega arith in
    is ∙ ap (λ (s : ℕ). later (later s 4) 4) before
    ∙ later-later seed (8 * k) 8
    ∙ ap (λ (i : ℕ). later seed i) eight

-- the text after one query more
pub queries-next : (n seed k state : ℕ) (before : List ℕ) → before ≡ queries n seed k → state ≡ later seed (8 * k) → before ++ line (k + 1) (word n state) (word n (later state 4)) ≡ queries n seed (k + 1)
queries-next n seed k state before text is =
    ap (λ (s : ℕ). before ++ line (k + 1) (word n s) (word n (later s 4)))
    (is ∙ ap (λ (i : ℕ). later seed (8 * i)) (sym (one_less k)))
    ∙ ap (λ (t : List ℕ). t ++ query n seed (k + 1)) text
    ∙ ap (λ (q : ℕ). queries n seed k ++ query n seed q) (sym (one_first k))
    ∙ flat_map-more (query n seed) 1 k
    ∙ ap (λ (i : ℕ). queries n seed i) (one_more k)

none_left : (a b : Option ExampleFault) → None ≡ option_or a b → None ≡ a
none_left None b h = refl
none_left (Some f) b h = cc

none_right : (a b : Option ExampleFault) → None ≡ option_or a b → None ≡ b
none_right None b h = h
none_right (Some f) b h = cc

pub record AreInRange (m count seed : ℕ) : Type 0 where
  pub least : 2 ≤ m
  pub most : m ≤ 10
  pub few : count ≤ 1000000
  pub seed_most : seed ≤ 2147483647

pub load_in_range : (m count seed : ℕ) → None ≡ load_fault m count seed → AreInRange m count seed
load_in_range m count seed h =
    let rest = none_right (size_fault 2 10 m) (option_or (size_fault 1 1000000 count) (size_fault 0 2147483647 seed)) h in
    let rows = in_range 2 10 m (none_left (size_fault 2 10 m) (option_or (size_fault 1 1000000 count) (size_fault 0 2147483647 seed)) h) in
    let counts = in_range 1 1000000 count (none_left (size_fault 1 1000000 count) (size_fault 0 2147483647 seed) rest) in
    let seeds = in_range 0 2147483647 seed (none_right (size_fault 1 1000000 count) (size_fault 0 2147483647 seed) rest) in
    record { least = rows.0; most = rows.1; few = counts.1; seed_most = seeds.1 }
