-- Any point agrees, at the variables of a table, with two vectors.
--   t table · k m generators · a point
use Rattle.std.proofs.Common.{◌≡◌, ℕ, ◌-◌, ◌<◌, ◌≤◌, List, sym, ◌∙◌, arith}
use Rattle.std.proofs.lemmas.List.{get_or_past}
use lib.IntN.{ℤ, pos}
use Rattle.nil_word.specs.Words.{IsVector}
use Rattle.nil_word.specs.Exponents.{entry}
use Rattle.hall_law.specs.Table.{zeros, from_entries}
use Rattle.hall_law.proofs.Grading.{IsClosed-from_entries, entry-from_entries}
use Rattle.hall_law.proofs.Vectors.{at_of}
use Rattle.binom_poly.specs.Variable.{y_of}
use Rattle.hall_table.specs.Tabled.{Tabled, last_of}
use Rattle.hall_table.specs.Values.{point_of}
use Rattle.identity_check.proofs.Agreeing.{Bounds, IsOf, AgreeOn, point-x, point-y}
use Rattle.identity_check.proofs.UnitConditions.{vector_zeros}

pub entries_of : Tabled → (ℕ → ℤ) → List ℤ
entries_of t a =
    from_entries (last_of t) t.level (λ k x y. a k) (zeros (last_of t)) (zeros (last_of t))

pub vector-entries_of : (t : Tabled) (a : ℕ → ℤ) → Bounds t
    → IsVector (last_of t) t.level (entries_of t a)
unfolding entries_of
vector-entries_of t a b =
    let z = vector_zeros (last_of t) t.level b.most in
    IsClosed-from_entries (last_of t) t.level (λ k x y. a k) b.most (zeros (last_of t))
    (zeros (last_of t)) z z

pub entry-entries_of : (t : Tabled) (a : ℕ → ℤ) (k : ℕ) → Bounds t → IsOf t k
    → entry (entries_of t a) k ≡ a k
unfolding entries_of
entry-entries_of t a k b o =
    let least : 1 ≤ t.level = b.least in
    entry-from_entries (last_of t) t.level (λ m x y. a m) (zeros (last_of t)) (zeros (last_of t)) k
    (omega (arith, o.low)) o.low o.high

pub entry-past : (n level : ℕ) (x : List ℤ) (m : ℕ) → IsVector n level x → n < m
    → entry x m ≡ pos 0
entry-past n level x m h l =
    get_or_past x (m - 1) (pos 0) (omega (arith, (at_of n level x h).size))

pub agree_entries : (t : Tabled) (a : ℕ → ℤ) → Bounds t
    → AgreeOn t a (point_of (entries_of t a) (entries_of t (λ k. a (y_of k))))
agree_entries t a b =
    let x = entries_of t a in
    let y = entries_of t (λ k. a (y_of k)) in
    record {
      x = λ m o. sym (point-x t x y m b o ∙ entry-entries_of t a m b o);
      y = λ m o. sym (point-y x y m ∙ entry-entries_of t (λ k. a (y_of k)) m b o);
    }
