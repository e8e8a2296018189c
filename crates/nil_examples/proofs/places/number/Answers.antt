use Rattle.std.proofs.Common.{◌≡◌, ℕ, ◌+◌, Option, option_map, unwrap_or, position, sym, ap, ◌∙◌, rules, tests}
use Rattle.std.proofs.lemmas.Iterator.{YieldsList-from_slice}
use Rattle.std.proofs.lemmas.Iterator.Search.{position_from_yields_List}
use Rattle.nil_examples.specs.Places.{is_at}
use Rattle.nil_examples.proofs.places.number.Goals as goal

pub returns-in-Some : goal.returns-in-Some
returns-in-Some c =
    let xs = c.args.places.now in
    let found : c.position.result ≡ position (is_at c.args.row c.args.column) xs = position_from_yields_List (is_at c.args.row c.args.column) _ _ c.position.result c.position.ensures.ran (YieldsList-from_slice xs cc) (λ x b q k. search (rules, tests)) in
    ap (λ (o : Option ℕ). unwrap_or (option_map (λ index. index + 1) o) 0) (sym c.in-Some.is ∙ found)

pub returns-in-None : goal.returns-in-None
returns-in-None c =
    let xs = c.args.places.now in
    let found : c.position.result ≡ position (is_at c.args.row c.args.column) xs = position_from_yields_List (is_at c.args.row c.args.column) _ _ c.position.result c.position.ensures.ran (YieldsList-from_slice xs cc) (λ x b q k. search (rules, tests)) in
    ap (λ (o : Option ℕ). unwrap_or (option_map (λ index. index + 1) o) 0) (sym c.in-None.is ∙ found)
