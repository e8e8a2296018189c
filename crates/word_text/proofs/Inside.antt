-- Inside brackets a line neither goes on as it does outside, nor ends.
use Rattle.std.proofs.Common.{◌≡◌, Bool, false, List, [], ◌∷◌, reverse, length, Option, None, IsTrue, ◌↔◌, refl, sym, ◌∙◌, ap}
use Rattle.std.proofs.lemmas.List.{length-reverse, nil_from_length}
use Rattle.word_text.specs.declared.frame.Frame.{Frame}
use Rattle.word_text.specs.declared.head.Head.{Head}
use Rattle.word_text.specs.declared.now.Now.{Now}
use Rattle.word_text.specs.Machine.{next_part}
use Rattle.word_text.specs.Running.{whole_at}

is_off : (b : Bool) → b ≡ false → IsTrue b → ⊥
is_off b e h = cc

is_inside : (fs : List Frame) (b : Bool) → b ≡ false → IsTrue b ↔ (fs ≡ []) → reverse fs ≡ [] → ⊥
is_inside fs b e outside n = let none : fs ≡ [] = nil_from_length fs (sym (length-reverse fs) ∙ ap length n) in is_off b e (outside.1 none)

no_part : (fs : List Frame) (o : Option Head) → (fs ≡ [] → ⊥) → None ≡ next_part fs o
no_part [] o h = absurd (h refl)
no_part (f ∷ fs) o h = refl

no_end : (fs : List Frame) (n : Now) → (fs ≡ [] → ⊥) → None ≡ whole_at fs n
no_end [] n h = absurd (h refl)
no_end (f ∷ fs) n h = refl

-- no second expression of the line begins
pub next_part-inside : (fs : List Frame) (o : Option Head) (b : Bool) → b ≡ false → IsTrue b ↔ (fs ≡ []) → None ≡ next_part (reverse fs) o
next_part-inside fs o b e outside = no_part (reverse fs) o (is_inside fs b e outside)

-- no expression ends the line
pub whole_at-inside : (fs : List Frame) (n : Now) (b : Bool) → b ≡ false → IsTrue b ↔ (fs ≡ []) → None ≡ whole_at (reverse fs) n
whole_at-inside fs n b e outside = no_end (reverse fs) n (is_inside fs b e outside)
