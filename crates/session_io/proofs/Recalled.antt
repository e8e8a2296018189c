-- What is recalled of the lines of bytes.
use Rattle.std.proofs.Common.{◌≡◌, ℕ, List, [], ◌∷◌, ◌++◌, take, drop, sym, subst, append-nil, take-append-drop}
use Rattle.session_io.specs.declared.end.End.{End}
use Rattle.session_io.specs.declared.end.End.TheVariants as end
use Rattle.line_tokens.specs.Lines.{lines_of}
use Rattle.session_io.specs.Asked.{Fed}
use Rattle.session_io.specs.Lines.{whole_lines}
use Rattle.session_io.specs.Taking.{IsTaken}
use Rattle.session_io.specs.Answers.{kept}
use Rattle.session_io.specs.Recalling.{last_line, IsRecalled}
use Rattle.session_io.proofs.Lines.{lines_of-split}
use Rattle.session_io.proofs.Unended.{lines_of-append}

module _ (recalls : List (List ℕ) → Type 0)
    (widens : (lines more : List (List ℕ)) → recalls lines → recalls (lines ++ more)) where
  -- the whole lines of a front are lines of all
  recalls-front : (front rest : List ℕ) → recalls (whole_lines front)
      → recalls (lines_of (front ++ rest))
  recalls-front front rest h =
      let split = lines_of-split front in
      subst recalls (sym (lines_of-append front rest split.0 (whole_lines front) split.1))
      (widens (whole_lines front) (lines_of (split.0 ++ rest)) h)

  pub recalls-take : (n : ℕ) (bytes : List ℕ) → recalls (whole_lines (take n bytes))
      → recalls (lines_of bytes)
  recalls-take n bytes h =
      subst (λ (all : List ℕ). recalls (lines_of all)) (take-append-drop n bytes)
      (recalls-front (take n bytes) (drop n bytes) h)

  recalls-whole : (bytes : List ℕ) → recalls (whole_lines bytes ++ []) → recalls (lines_of bytes)
  recalls-whole bytes h =
      subst (λ (all : List ℕ). recalls (lines_of all)) (append-nil bytes)
      (recalls-front bytes [] (subst recalls (append-nil (whole_lines bytes)) h))

  recalls-ended : (limit : ℕ) (taken : List ℕ) (e : End) (line : List ℕ)
      → lines_of (kept limit e taken) ≡ whole_lines (kept limit e taken) ++ line ∷ []
      → recalls (whole_lines (kept limit e taken) ++ last_line line e) → recalls (lines_of taken)
  recalls-ended limit taken end.Finished line last h = subst recalls (sym last) h
  recalls-ended limit taken end.Failed line last h = recalls-whole taken h
  recalls-ended limit taken end.Long line last h =
      recalls-take limit taken
      (subst recalls (append-nil (whole_lines (take limit taken))) h)

  module _ (limit : ℕ) (f : Fed) (taken more : List ℕ) (took : IsTaken limit f taken more) where
    -- behind the piece behind the last line feed
    pub IsRecalled-ended : (e : End) (line : List ℕ)
        → lines_of (kept limit e taken) ≡ whole_lines (kept limit e taken) ++ line ∷ []
        → recalls (whole_lines (kept limit e taken) ++ last_line line e)
        → IsRecalled recalls limit f
    IsRecalled-ended e line last h = record {
      taken = taken;
      more = more;
      took = took;
      of_lines = recalls-ended limit taken e line last h;
    }

    -- where the reading stops
    pub IsRecalled-stopped : recalls (whole_lines (take limit taken)) → IsRecalled recalls limit f
    IsRecalled-stopped h =
        record { taken = taken; more = more; took = took; of_lines = recalls-take limit taken h }

    pub IsRecalled-none : recalls [] → IsRecalled recalls limit f
    IsRecalled-none h =
        record { taken = taken; more = more; took = took; of_lines = widens [] (lines_of taken) h }
