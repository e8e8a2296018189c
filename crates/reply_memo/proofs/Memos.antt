-- What is kept stays within its room, of different lines.
use Rattle.std.proofs.Common.{◌≡◌, ℕ, ◌≤◌, min, not, List, [], ◌∷◌, length, take, refl, arith, length-append}
use Rattle.std.specs.List.{IsDistinct}
use Rattle.std.proofs.lemmas.List.{length-take}
use Rattle.std.proofs.lemmas.List.Filters.{length-filter_both}
use Rattle.reply_memo.specs.Room.{room}
use Rattle.reply_memo.specs.Kept.{Kept, kept, is_of, of_line, without, in_front, AreApart}
use Rattle.reply_memo.specs.Memo.{after_keeping, IsMemo}
use Rattle.reply_memo.proofs.Lines.{AreApart-filter, AreApart-take, AreApart-in_front, NoneOf-without}

pub IsMemo-nil : IsMemo []
unfolding IsDistinct
IsMemo-nil = record { few = omega arith; apart = tt }

module _ (line : List ℕ) (pairs : List Kept) where
  length-in_front : length (in_front line pairs) ≡ length pairs
  length-in_front =
      omega (
        arith,
        length-append (of_line line pairs) (without line pairs),
        length-filter_both (is_of line) (λ k. not (is_of line k)) (λ k. refl) pairs,
      )

  pub IsMemo-in_front : IsMemo pairs → IsMemo (in_front line pairs)
  IsMemo-in_front memo = record {
    few = omega (arith, length-in_front, memo.few);
    apart = AreApart-in_front line pairs memo.apart;
  }

  AreApart-cons : (reply : List ℕ) → AreApart pairs
      → AreApart (kept line reply ∷ without line pairs)
  unfolding IsDistinct
  AreApart-cons reply apart =
      (NoneOf-without line pairs, AreApart-filter (λ k. not (is_of line k)) pairs apart)

  length-after_keeping : (reply : List ℕ) → length (after_keeping line reply pairs) ≤ room
  length-after_keeping reply =
      let all = kept line reply ∷ without line pairs in
      let taken : length (take room all) ≡ min room (length all) = length-take room all in
      omega arith

  pub IsMemo-after_keeping : (reply : List ℕ) → IsMemo pairs
      → IsMemo (after_keeping line reply pairs)
  IsMemo-after_keeping reply memo = record {
    few = length-after_keeping reply;
    apart =
        AreApart-take room (kept line reply ∷ without line pairs) (AreApart-cons reply memo.apart);
  }
