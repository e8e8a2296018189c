-- The vector that a word is collected to stands for it.
--   p presentation · w word · v vector
use Rattle.std.proofs.Common.{◌≡◌, ℕ, ◌^◌, ℤ, pos, List, length, replicate, Option, Some, None, option_map, refl, ap, subst, arith}
use Rattle.nil_word.specs.declared.letter.Letter.{Letter}
use Rattle.nil_word.specs.Words.{IsWordIn}
use Rattle.nil_pres.specs.Presented.{Presented, IsPresented}
use Rattle.nil_pres.specs.Relations.{relations_of}
use Rattle.left_collect.specs.Collected.{collected, collection}
use Rattle.left_collect.proofs.Kept.{word_kept}
use Rattle.collect_text.specs.Right.{IsVectorOf}

module _ (p : Presented) (lawful : IsPresented p) (w : List Letter)
    (inside : IsWordIn 1 (length p.names) w) where
  abbrev run : Option (List ℤ × ℕ)
  run = collected (relations_of p) (2 ^ 24) (replicate (length p.names) (pos 0)) w

  of_run : (v : List ℤ) (left : ℕ) → run ≡ Some (v, left) → IsVectorOf p w v
  of_run v left e =
      let kept = word_kept p lawful 1 (omega arith) lawful.some (2 ^ 24) w v left inside e in
      record {
        collects = ap (option_map (λ done. done.0)) e;
        vector = kept.0;
        stands = kept.1;
      }

  pub IsVectorOf-collection : (v : List ℤ) → collection (relations_of p) w ≡ Some v
      → IsVectorOf p w v
  IsVectorOf-collection v c = at run refl c
    where
      at : (found : Option (List ℤ × ℕ)) → run ≡ found
          → option_map (λ done. done.0) found ≡ Some v → IsVectorOf p w v
      at None e h = cc
      at (Some done) e h =
          let first : done.0 ≡ v = cc in
          subst (IsVectorOf p w) first (of_run done.0 done.1 e)
