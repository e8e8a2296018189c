-- Letters that stand before a half of the nodes of a group: none of the group is in them.
--   fs forms · l r places of the halves · p q places · k m types · i n numbers
use Rattle.std.proofs.Common.{◌≡◌, ℕ, zero, suc, ◌<◌, ◌≤◌, List, [], length, Bool, true, false, ◌&&◌, nat_eq, max, ◌⊎◌, inl, inr, if◌then◌else◌, refl, sym, ap, ◌∙◌, subst, arith}
use Rattle.dt_letters.specs.declared.side.Side.{Side}
use Rattle.dt_letters.specs.declared.form.Form.{Form}
use Rattle.dt_letters.specs.declared.form.Form.TheVariants as form
use Rattle.dt_letters.specs.Letters.{Letter, leaf, node, nodes, group_of}
use Rattle.dt_letters.specs.Meeting.{same_letter, same_group}
use Rattle.dt_letters.specs.Least.{greatest_in, own_number}
use Rattle.dt_letters.specs.Growth.{raise, raised}
use Rattle.dt_letters.specs.Arena.{letter_at, letter_of, letters_of, IsFormAt, AreForms, AreDifferent}
use Rattle.dt_letters.proofs.Arenas.{letters-at, form-at}
use Rattle.dt_letters.proofs.Parts.{same_letter-true}
use Rattle.dt_letters.proofs.Raising.{raise-other}
use Rattle.dt_letters.proofs.Different.{letters-differ, form_there}

own-other : (b : Bool) (i : ℕ) → b ≡ false → (if b then i else 0) ≡ 0
own-other b i e = grind (arith, e)

no_first : (x y z : Bool) → x ≡ false → (x && (y && z)) ≡ false
no_first x y z e = grind (arith, e)

no_second : (x y z : Bool) → y ≡ false → (x && (y && z)) ≡ false
no_second x y z e = grind (arith, e)

told_false : (b : Bool) → (b ≡ true → ⊥) → b ≡ false
told_false true h = absurd (h refl)
told_false false h = refl

zeros : (a b c : ℕ) → a ≡ 0 → b ≡ 0 → c ≡ 0 → max a (max b c) ≡ 0
zeros a b c x y z = grind (arith, x, y, z)

module _ (fs : List Form) (good : AreForms 0 fs) (differ : AreDifferent fs) (l r k : ℕ)
    (left : l < length fs) (right : r < length fs) where
  abbrev at : ℕ → Letter
  at p = letter_at (letters_of fs) p

  abbrev HasNone : Letter → Type 0
  HasNone a =
      ((n : ℕ) → raised (nodes (at l) (at r) k) n a ≡ a) × (greatest_in (nodes (at l) (at r) k) a ≡ 0)

  abbrev IsEarly : ℕ → Type 0
  IsEarly p = (p ≤ l) ⊎ (p ≤ r)

  early-less : (p q : ℕ) → q < p → IsEarly p → IsEarly q
  early-less p q h (inl e) = inl (omega (arith, h, e))
  early-less p q h (inr e) = inr (omega (arith, h, e))

  other : (p q m : ℕ) → p < length fs → q < length fs → (p < l) ⊎ (q < r)
      → same_group (nodes (at l) (at r) k) (nodes (at p) (at q) m) ≡ false
  other p q m a b (inl h) =
      no_first (same_letter (at l) (at p)) (same_letter (at r) (at q)) (nat_eq k m)
      (told_false (same_letter (at l) (at p))
      (λ e. let s = letters-differ fs good differ l p left a (same_letter-true (at l) (at p) e) in
      omega (arith, h, s)))
  other p q m a b (inr h) =
      no_second (same_letter (at l) (at p)) (same_letter (at r) (at q)) (nat_eq k m)
      (told_false (same_letter (at r) (at q))
      (λ e. let s = letters-differ fs good differ r q right b (same_letter-true (at r) (at q) e) in
      omega (arith, h, s)))

  before_half : (p c d : ℕ) → c < p → d < p → IsEarly p → (c < l) ⊎ (d < r)
  before_half p c d x y (inl e) = inl (omega (arith, x, e))
  before_half p c d x y (inr e) = inr (omega (arith, y, e))

  none-leaf : (s : Side) (m i : ℕ) → HasNone (leaf s m i)
  none-leaf s m i = (λ n. refl, refl)

  none-node : (c d m i : ℕ) → same_group (nodes (at l) (at r) k) (nodes (at c) (at d) m) ≡ false
      → HasNone (at c) → HasNone (at d) → HasNone (node (at c) (at d) m i)
  none-node c d m i e x y = (
    λ n. ap (λ (z : Letter). node z (raised (nodes (at l) (at r) k) n (at d)) m
        (raise (nodes (at l) (at r) k) n (nodes (at c) (at d) m) i)) (x.0 n)
        ∙ ap (λ (z : Letter). node (at c) z m (raise (nodes (at l) (at r) k) n (nodes (at c) (at d) m) i)) (y.0 n)
        ∙ ap (node (at c) (at d) m)
        (raise-other (nodes (at l) (at r) k) (nodes (at c) (at d) m) n i e),
    zeros (own_number (nodes (at l) (at r) k) (nodes (at c) (at d) m) i)
        (greatest_in (nodes (at l) (at r) k) (at c)) (greatest_in (nodes (at l) (at r) k) (at d))
        (own-other (same_group (nodes (at l) (at r) k) (nodes (at c) (at d) m)) i e) x.1 y.1,
  )

  none-form : (n : ℕ) → ((p : ℕ) → p < n → p < length fs → IsEarly p → HasNone (at p)) → (p : ℕ)
      → p < suc n → p < length fs → IsEarly p → (f : Form) → IsFormAt p f → HasNone (letter_of (letters_of fs) f)
  none-form n ih p small a e (form.Leaf s m i) h = none-leaf s m i
  none-form n ih p small a e (form.Node c d m i) h =
      none-node c.place d.place m i
      (other c.place d.place m (omega (arith, h.0, a)) (omega (arith, h.1, a))
      (before_half p c.place d.place h.0 h.1 e))
      (ih c.place (omega (arith, h.0, small)) (omega (arith, h.0, a)) (early-less p c.place h.0 e))
      (ih d.place (omega (arith, h.1, small)) (omega (arith, h.1, a)) (early-less p d.place h.1 e))

  none-below : (n p : ℕ) → p < n → p < length fs → IsEarly p → HasNone (at p)
  none-below zero p small a e = absurd (omega (arith, small))
  none-below (suc n) p small a e =
      let f = form_there fs p a in
      let h = form-at 0 fs good p f.0 f.1 in
      subst HasNone (sym (ap at (omega arith) ∙ letters-at [] fs good p f.0 f.1))
      (none-form n (none-below n) p small a e f.0 (subst (λ (m : ℕ). IsFormAt m f.0) (omega arith) h.0))

  pub none-early : (p : ℕ) → p < length fs → IsEarly p → HasNone (at p)
  none-early p a e = none-below (suc p) p (omega arith) a e

-- the same, where the node is a member of the group
pub none-of-member : (fs : List Form) → AreForms 0 fs → AreDifferent fs → (l r k i p : ℕ) (m : Letter)
    → l < length fs → r < length fs → p < length fs
    → node (letter_at (letters_of fs) l) (letter_at (letters_of fs) r) k i ≡ m → (p ≤ l) ⊎ (p ≤ r)
    → ((n : ℕ) → raised (group_of m) n (letter_at (letters_of fs) p) ≡ letter_at (letters_of fs) p)
    × (greatest_in (group_of m) (letter_at (letters_of fs) p) ≡ 0)
none-of-member fs good differ l r k i p m a b c e h =
    let x = letter_at (letters_of fs) p in
    subst (λ (z : Letter). ((n : ℕ) → raised (group_of z) n x ≡ x) × (greatest_in (group_of z) x ≡ 0)) e
    (none-early fs good differ l r k a b p c h)
