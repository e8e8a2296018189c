-- What contracts see of the plain proposers.
--   Listing                    a label, and offers in order
--   Forgetting                 a proposer with offers, the number of calls from one that forgets to
--                              the next, and how many calls there were
--   first_offer offers level   the table of the first offer with a level, and none without one
--   next calls                 the number of the next call, which stops at its last value
--   forgets s                  the next call answers want of memory by itself
use Rattle.std.specs.Prelude.{ℕ, ◌+◌, ◌-◌, ◌^◌, ◌%◌, ◌==◌, ◌||◌, Bool, min, List, Option, find, option_map}
use Rattle.hall_table.specs.Tabled.{Tabled}
use Rattle.nil_propose.specs.declared.offer.Offer.{Offer}

pub record Listing : Type 0 where
  pub label : ℕ
  pub offers : List Offer

pub record Forgetting : Type 0 where
  pub inner : Listing
  pub every : ℕ
  pub calls : ℕ

abbrev pub first_offer : List Offer → ℕ → Option Tabled
first_offer offers level =
    option_map (λ offer. offer.table) (find (λ offer. offer.level == level) offers)

abbrev pub next : ℕ → ℕ
next calls = min (calls + 1) (2 ^ 64 - 1)

abbrev pub forgets : Forgetting → Bool
forgets s = next s.calls == 2 ^ 64 - 1 || next s.calls % s.every == 0
