-- Rows of trees, with their leaves and texts, sorted: the letters of the trees are in order.
--   a letter · r x y rows · rs rows · ts trees · k j places
use Rattle.std.proofs.Common.{◌≡◌, ℕ, ◌+◌, ◌<◌, ◌≤◌, List, [], ◌∷◌, length, map, string_bytes, get_or, take, sym, ◌∙◌, ap, subst, arith}
use Rattle.std.specs.Prelude.{All}
use Rattle.std.specs.declared.cmp.Ordering.{Ordering}
use Rattle.std.specs.Ordering.{is_lt, nat_cmp, ordering_then}
use Rattle.std.specs.Cmp.{IsTotalOrder}
use Rattle.std.specs.Cmp.Lexicographic.{slice_cmp}
use Rattle.std.specs.List.Sorted.{IsSortedBy, IsPermutation}
use Rattle.std.proofs.lemmas.List.Sorted.{IsPermutation-map, All-permutation}
use Rattle.std.proofs.lemmas.Cmp.{nat_cmp_total, on_total, then_total, nat_list_cmp_total}
use Rattle.std.proofs.lemmas.List.{get_or-map, length-map, length-append, take_all}
use Rattle.std.proofs.lemmas.List.Elements.{All-get_or}
use Rattle.dt_letters.specs.declared.side.Side.TheVariants as side
use Rattle.dt_letters.specs.declared.tree.Tree.{Tree}
use Rattle.dt_letters.specs.declared.letters.listing.Row.{Row}
use Rattle.dt_letters.specs.Letters.{Letter, leaf, node, leaf_count}
use Rattle.dt_letters.specs.Text.{text_of, listed_order, AreListed}

-- a text has a byte for each leaf
pub leaf_count-text_of : (a : Letter) → leaf_count a ≤ length (text_of a)
leaf_count-text_of (leaf side.X k i) = omega arith
leaf_count-text_of (leaf side.Y k i) = omega arith
leaf_count-text_of (node l r k i) =
    simp length-append (omega (arith, leaf_count-text_of l, leaf_count-text_of r))

-- the row is of its tree
pub record IsRow (letter : Tree → Letter) (r : Row) : Type 0 where
  pub leaves : r.leaves ≡ leaf_count (letter r.tree)
  pub text : string_bytes r.text ≡ text_of (letter r.tree)

abbrev pub tree_of : Row → Tree
tree_of r = r.tree

abbrev pub row_order : Row → Row → Ordering
row_order x y =
    ordering_then (nat_cmp x.leaves y.leaves)
    (slice_cmp nat_cmp (string_bytes x.text) (string_bytes y.text))

pub row_order_total : IsTotalOrder row_order
row_order_total =
    then_total (on_total (λ (r : Row). r.leaves) nat_cmp_total)
    (on_total (λ (r : Row). string_bytes r.text) nat_list_cmp_total)

module _ (letter : Tree → Letter) where
  row_order-is : (x y : Row) → IsRow letter x → IsRow letter y
      → row_order x y ≡ listed_order (letter x.tree) (letter y.tree)
  row_order-is x y a b =
      let texts = slice_cmp nat_cmp (string_bytes x.text) (string_bytes y.text) in
      ap (λ (n : ℕ). ordering_then (nat_cmp n y.leaves) texts) a.leaves
      ∙ ap (λ (n : ℕ). ordering_then (nat_cmp (leaf_count (letter x.tree)) n) texts) b.leaves
      ∙ ap (λ (s : List ℕ).
      ordering_then (nat_cmp (leaf_count (letter x.tree)) (leaf_count (letter y.tree)))
      (slice_cmp nat_cmp s (string_bytes y.text))) a.text
      ∙ ap (λ (s : List ℕ).
      ordering_then (nat_cmp (leaf_count (letter x.tree)) (leaf_count (letter y.tree)))
      (slice_cmp nat_cmp (text_of (letter x.tree)) s)) b.text

  letter-at : (rs : List Row) (j : ℕ) (d : Letter) (r : Row) → j < length rs
      → get_or (map letter (map tree_of rs)) j d ≡ letter (get_or rs j r).tree
  letter-at rs j d r h =
      get_or-map letter (map tree_of rs) j r.tree d
      (subst (λ (n : ℕ). j < n) (sym (length-map rs tree_of)) h)
      ∙ ap letter (get_or-map tree_of rs j r r.tree h)

  pub rows-listed : (rs : List Row) → All (IsRow letter) rs
      → IsSortedBy (λ x y. is_lt (row_order x y)) rs → AreListed (map letter (map tree_of rs))
  rows-listed [] h s = λ k d z l. absurd (omega arith)
  rows-listed (r ∷ rs) h s = λ k d z l.
      let xs : List Row = r ∷ rs in
      let long : k + 1 < length (r ∷ rs) =
      omega (arith, length-map (map tree_of (r ∷ rs)) letter, length-map (r ∷ rs) tree_of, l) in
      let short : k < length (r ∷ rs) = omega arith in
      let all = map letter (map tree_of (r ∷ rs)) in
      let later = get_or (r ∷ rs) (k + 1) r in
      let sooner = get_or (r ∷ rs) k r in
      ap (λ (a : Letter). is_lt (listed_order a (get_or all k d)))
      (letter-at (r ∷ rs) (k + 1) d r long)
      ∙ ap (λ (a : Letter). is_lt (listed_order (letter later.tree) a))
      (letter-at (r ∷ rs) k d r short)
      ∙ ap is_lt (sym (row_order-is later sooner
      (All-get_or (IsRow letter) (r ∷ rs) (k + 1) r long h)
      (All-get_or (IsRow letter) (r ∷ rs) k r short h)))
      ∙ s k r z long

  -- the trees of sorted rows, where the rows are those of the trees ts
  pub listed : (ts us : List Tree) (n : ℕ) (rs ss : List Row) → map tree_of rs ≡ take n ts
      → length ts ≤ n → All (IsRow letter) rs → IsPermutation rs ss
      → IsSortedBy (λ x y. is_lt (row_order x y)) ss → us ≡ map tree_of ss
      → IsPermutation ts us × AreListed (map letter us)
  listed ts us n rs ss trees all good p s is = (
    subst (λ (x : List Tree). IsPermutation x us) (trees ∙ take_all n ts all)
        (subst (λ (x : List Tree). IsPermutation (map tree_of rs) x) (sym is)
        (IsPermutation-map tree_of rs ss p)),
    subst (λ (x : List Tree). AreListed (map letter x)) (sym is)
        (rows-listed ss (All-permutation (IsRow letter) rs ss p good) s),
  )
