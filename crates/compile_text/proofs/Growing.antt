-- Lines that grow by one entry.
--   i level · k place in a list · d any origin
use Rattle.std.proofs.Common.{◌≡◌, ℕ, suc, ◌+◌, ◌<◌, List, [], ◌∷◌, ◌++◌, length, drop, get_or, refl, sym, ap, ◌∙◌, add-one, append_assoc, length-drop, drop-cons, arith}
use Rattle.session_io.specs.Lines.{as_line, as_lines}
use Rattle.hall_compile.specs.declared.asked.Asked.{Asked}
use Rattle.hall_compile.specs.declared.origin.Origin.{Origin}
use Rattle.compile_text.specs.Lines.{level_lines, levels_lines}

pub as_lines-append : (xs ys : List (List ℕ)) → as_lines (xs ++ ys) ≡ as_lines xs ++ as_lines ys
as_lines-append [] ys = refl
as_lines-append (x ∷ xs) ys =
    ap (λ t. as_line x ++ t) (as_lines-append xs ys)
    ∙ sym (append_assoc (as_line x) (as_lines xs) (as_lines ys))

-- behind the lines of the levels above a level come its own
pub levels_lines-next : (asked : List Asked) (by : List Origin) (k i : ℕ) (d : Origin)
    → k < length by → i + k ≡ length by
    → as_lines (levels_lines asked (drop k by))
    ≡ as_lines (level_lines asked i (get_or by k d))
    ++ as_lines (levels_lines asked (drop (k + 1) by))
levels_lines-next asked by k i d h e =
    let o : Origin = get_or by k d in
    let rest : List Origin = drop (suc k) by in
    let count : length (o ∷ rest) ≡ i =
    ap (λ (x : List Origin). length x) (sym (drop-cons by k d h))
    ∙ length-drop k by ∙ omega (arith, e) in
    ap (λ (x : List Origin). as_lines (levels_lines asked x)) (drop-cons by k d h)
    ∙ as_lines-append (level_lines asked (length (o ∷ rest)) o) (levels_lines asked rest)
    ∙ ap (λ n. as_lines (level_lines asked n o) ++ as_lines (levels_lines asked rest)) count
    ∙ ap (λ n. as_lines (level_lines asked i o) ++ as_lines (levels_lines asked (drop n by)))
    (sym (add-one k))
