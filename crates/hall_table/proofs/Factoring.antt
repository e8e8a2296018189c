-- The right sides of a presentation are ascending factors above their pair.
use Rattle.std.proofs.Common.{◌≡◌, ℕ, ◌<◌, ◌≤◌, Bool, true, nat_le, nat_lt, ◌&&◌, if◌then◌else◌, List, [], ◌∷◌, length, sym, ◌∙◌, ap, subst}
use Rattle.std.proofs.lemmas.Bool.{le-leb, lt-ltb}
use Rattle.nil_word.specs.Factors.{IsAscending}
use Rattle.nil_pres.specs.declared.syllable.Syllable.{Syllable}
use Rattle.nil_pres.specs.Rights.{IsRight}
use Rattle.nil_pres.specs.Presented.{Presented, IsPresented, right_of}
use Rattle.nil_pres.specs.Relations.{factors_of, is_pair, between}

IsAscending-factors_of : (low high : ℕ) (right : List Syllable) → IsRight low high right → IsAscending low high (factors_of right)
IsAscending-factors_of low high [] h = tt
IsAscending-factors_of low high (s ∷ rest) h = (h.0, h.1, IsAscending-factors_of s.number high rest h.4)

pub is_pair_between : (p : Presented) (j l : ℕ) → 1 ≤ j → j < l → l ≤ length p.names → is_pair p j l ≡ true
is_pair_between p j l a b d = ap (λ (t : Bool). t && nat_lt j l && nat_le l (length p.names)) (le-leb 1 j a) ∙ (ap (λ (t : Bool). t && nat_le l (length p.names)) (lt-ltb j l b) ∙ le-leb l (length p.names) d)

pub ascends : (p : Presented) → IsPresented p → (j l : ℕ) → 1 ≤ j → j < l → l ≤ length p.names → IsAscending l (length p.names) (between p j l)
ascends p h j l a b d =
    let is : between p j l ≡ factors_of (right_of p j l) = ap (λ (t : Bool). if t then factors_of (right_of p j l) else []) (is_pair_between p j l a b d) in
    subst (IsAscending l (length p.names)) (sym is) (IsAscending-factors_of l (length p.names) (right_of p j l) (h.lawful j l a b))
