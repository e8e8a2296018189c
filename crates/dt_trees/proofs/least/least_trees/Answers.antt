-- The trees that grew from nothing, in the order of lists.
use Rattle.std.proofs.Common.{◌≡◌, ◌≤◌, ◌∙◌, [], length, map, refl, sym, ap, subst, arith, ◌↔◌}
use Rattle.std.specs.Prelude.{All}
use Rattle.std.specs.List.Sorted.{IsPermutation}
use Rattle.std.proofs.lemmas.Result.{IfOk-weaker}
use Rattle.std.proofs.lemmas.List.Sorted.{All-permutation}
use Rattle.nil_pres.specs.Presented.{IsPresented}
use Rattle.dt_letters.specs.Letters.{Letter, kind_of}
use Rattle.dt_letters.specs.Allowed.{exponents_of, IsLetter, IsFrom}
use Rattle.dt_letters.specs.Least.{IsLeast}
use Rattle.dt_letters.specs.Listing.{trees, IsIn, AreOnce}
use Rattle.dt_letters.specs.Arena.{letter_in, IsTreeOf}
use Rattle.dt_letters.proofs.Presentations.{rising}
use Rattle.dt_letters.proofs.Trees.{lists_least_trees}
use Rattle.dt_trees.specs.Polynomials.{IsOver}
use Rattle.dt_trees.proofs.Permuted.{in-permuted, once-permuted, trees-of_ways, all-of, trees-permuted, from-more}
use Rattle.dt_trees.proofs.least.least_trees.Goals as goal

pub sorted-requires : goal.sorted-requires
sorted-requires c =
    subst (All (IsTreeOf c.ways_from_nothing.new.letters))
    (sym (c.deref-2.ensures.value ∙ c.in_ok-trees.ensures ∙ ap (map (λ w. w.tree)) c.deref.ensures.value))
    (trees-of_ways c.ways_from_nothing.new.letters c.in_ok-ways.ways.items c.in_ok-ways.ensures.ways.ways)

pub returns-clause-trees : goal.returns-clause-trees
returns-clause-trees c =
    let a = c.args.letters.now in
    let b = c.ways_from_nothing.new.letters in
    let e = exponents_of a.pres in
    let level = c.args.level in
    let k = c.args.k in
    let ts = c.deref-2.result.now in
    let same = c.deref-2.ensures.value ∙ c.in_ok-trees.ensures ∙ ap (map (λ w. w.tree)) c.deref.ensures.value in
    IfOk-weaker c.sorted.result (λ v. IsPermutation ts v.items) (λ v. All (IsTreeOf b) v.items)
    (λ v p. All-permutation (IsTreeOf b) ts v.items p
    (subst (All (IsTreeOf b)) (sym same)
    (trees-of_ways b c.in_ok-ways.ways.items c.in_ok-ways.ensures.ways.ways)))
    c.sorted.ensures.permutation

pub returns-clause-least : goal.returns-clause-least
returns-clause-least c =
    let a = c.args.letters.now in
    let b = c.ways_from_nothing.new.letters in
    let e = exponents_of a.pres in
    let level = c.args.level in
    let k = c.args.k in
    let ts = c.deref-2.result.now in
    let same = c.deref-2.ensures.value ∙ c.in_ok-trees.ensures ∙ ap (map (λ w. w.tree)) c.deref.ensures.value in
    let least = lists_least_trees e level k
    (rising a.pres (subst IsPresented c.pres.ensures c.count-generators.ensures.lawful)) c.requires.level in
    IfOk-weaker c.sorted.result (λ v. IsPermutation ts v.items)
    (λ v. (t : Letter) → IsIn t (map (letter_in b) v.items)
    ↔ (IsLetter e t × IsFrom level t × IsLeast t × (kind_of t ≡ k)))
    (λ v p. let perm = trees-permuted e level k a b c.in_ok-ways.ways.items [] ts v.items
    refl c.in_ok-ways.ensures.ways same p in
    λ t. let i = in-permuted (trees e level k) (map (letter_in b) v.items) t perm in
    let l = least.0 t in (λ h. l.0 (i.0 h), λ h. i.1 (l.1 h)))
    c.sorted.ensures.permutation

pub returns-clause-over : goal.returns-clause-over
returns-clause-over c =
    let a = c.args.letters.now in
    let b = c.ways_from_nothing.new.letters in
    let e = exponents_of a.pres in
    let level = c.args.level in
    let k = c.args.k in
    let ts = c.deref-2.result.now in
    let same = c.deref-2.ensures.value ∙ c.in_ok-trees.ensures ∙ ap (map (λ w. w.tree)) c.deref.ensures.value in
    let least = lists_least_trees e level k
    (rising a.pres (subst IsPresented c.pres.ensures c.count-generators.ensures.lawful)) c.requires.level in
    let few : k ≤ length a.pres.names = c.requires.most in
    IfOk-weaker c.sorted.result (λ v. IsPermutation ts v.items)
    (λ v. All (IsOver (exponents_of b.pres) (length b.pres.names)) (map (letter_in b) v.items))
    (λ v p. let perm = trees-permuted e level k a b c.in_ok-ways.ways.items [] ts v.items
    refl c.in_ok-ways.ensures.ways same p in
    subst (λ r. All (IsOver (exponents_of r) (length r.names)) (map (letter_in b) v.items))
    (sym c.ways_from_nothing.ensures.kept.0)
    (all-of (IsOver e (length a.pres.names)) (map (letter_in b) v.items)
    (λ t h. let i = in-permuted (trees e level k) (map (letter_in b) v.items) t perm in
    let q = (least.0 t).0 (i.0 h) in
    record {
      letter = q.0;
      leaves = from-more 1 level t c.requires.level q.1;
      kind = omega (arith, q.3, few);
    })))
    c.sorted.ensures.permutation

pub returns-clause-once : goal.returns-clause-once
returns-clause-once c =
    let a = c.args.letters.now in
    let b = c.ways_from_nothing.new.letters in
    let e = exponents_of a.pres in
    let level = c.args.level in
    let k = c.args.k in
    let ts = c.deref-2.result.now in
    let same = c.deref-2.ensures.value ∙ c.in_ok-trees.ensures ∙ ap (map (λ w. w.tree)) c.deref.ensures.value in
    let least = lists_least_trees e level k
    (rising a.pres (subst IsPresented c.pres.ensures c.count-generators.ensures.lawful)) c.requires.level in
    IfOk-weaker c.sorted.result (λ v. IsPermutation ts v.items)
    (λ v. AreOnce (map (letter_in b) v.items))
    (λ v p. let perm = trees-permuted e level k a b c.in_ok-ways.ways.items [] ts v.items
    refl c.in_ok-ways.ensures.ways same p in
    once-permuted (trees e level k) (map (letter_in b) v.items) perm least.1)
    c.sorted.ensures.permutation
