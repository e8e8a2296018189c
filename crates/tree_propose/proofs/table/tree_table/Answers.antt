-- The polynomials have the shape of a table, so no fault of a shape comes.
use Rattle.std.proofs.Common.{◌≡◌, ℕ, ◌≤◌, ◌+◌, length, Vec, Global, Some, List, arith, sym, ap, ◌∙◌, subst}
use Rattle.binom_poly.specs.declared.poly.Poly.{Poly}
use Rattle.binom_poly.specs.declared.term.Term.{Term}
use Rattle.nil_pres.specs.Presented.{Presented, IsPresented}
use Rattle.hall_table.specs.Tabled.{Tabled, AreShaped}
use Rattle.dt_letters.specs.Allowed.{exponents_of}
use Rattle.dt_letters.proofs.Presentations.{rising}
use Rattle.dt_trees.specs.Polynomials.{polys_of}
use Rattle.tree_propose.specs.Giving.{types_from, AnyOverflows}
use Rattle.tree_propose.proofs.Giving.{at_none, at_some, length-polys_of, shapes-polys_of, tree_table-none, tree_table-some}
use Rattle.tree_propose.proofs.table.tree_table.Goals as goal

abbrev AreGiven : Presented → ℕ → Vec Poly Global → Type 0
AreGiven p level ps =
    (ps.items ≡ polys_of (exponents_of p) level (types_from p level)) × (AnyOverflows p level → ⊥)

pub returns-in_default : goal.returns-in_default
returns-in_default c =
    let p = c.args.letters.now.pres in
    let level = c.args.level in
    sym (tree_table-none p level
    (at_none (AnyOverflows p level) (AreGiven p level) c.in_ok-polys.field-0 c.in_default.is
    c.in_ok-polys.ensures.polys))

pub of-requires-clause-nonempty : goal.of-requires-clause-nonempty
of-requires-clause-nonempty c =
    let p = c.args.letters.now.pres in
    let level = c.args.level in
    let is = at_some (AnyOverflows p level) (AreGiven p level) c.in_ok-polys.field-0 c.in-Some.polys c.in-Some.is
    c.in_ok-polys.ensures.polys in
    omega (arith, ap length is.0, length-polys_of (exponents_of p) level (types_from p level), c.requires.most)

pub of-requires-clause-most : goal.of-requires-clause-most
of-requires-clause-most c =
    let p = c.args.letters.now.pres in
    let level = c.args.level in
    let is = at_some (AnyOverflows p level) (AreGiven p level) c.in_ok-polys.field-0 c.in-Some.polys c.in-Some.is
    c.in_ok-polys.ensures.polys in
    omega (
      arith,
      ap length is.0,
      length-polys_of (exponents_of p) level (types_from p level),
      c.requires.most,
      c.count-generators.ensures.count,
      c.count-generators.ensures.most,
      ap (λ (q : Presented). length q.names) c.pres.ensures,
    )

pub unreachable-requires : goal.unreachable-requires
unreachable-requires c =
    let p = c.args.letters.now.pres in
    let level = c.args.level in
    let e = exponents_of p in
    let n = types_from p level in
    let is = at_some (AnyOverflows p level) (AreGiven p level) c.in_ok-polys.field-0 c.in-Some.polys c.in-Some.is
    c.in_ok-polys.ensures.polys in
    let lawful = subst IsPresented c.pres.ensures c.count-generators.ensures.lawful in
    let few : level + n ≤ 49 = omega (arith, lawful.names.few, c.requires.most) in
    let shapes = subst (AreShaped level) (sym is.0) (shapes-polys_of e level n (rising p lawful) c.requires.least few is.1) in
    let unshaped = c.in-Err-Shape.ensures.unshaped c.in-Err-Shape.field-0-0 c.in-Err-Shape.field-0-is in
    unshaped.breaks (shapes c.in-Err-Shape.field-0-0 unshaped.from unshaped.to)

pub returns-in-Ok : goal.returns-in-Ok
returns-in-Ok c =
    let p = c.args.letters.now.pres in
    let level = c.args.level in
    let is = at_some (AnyOverflows p level) (AreGiven p level) c.in_ok-polys.field-0 c.in-Some.polys c.in-Some.is
    c.in_ok-polys.ensures.polys in
    ap Some (c.in-Ok.ensures.table
    ∙ ap (λ (ps : List (List Term)). let t : Tabled = record { level = level; polys = ps } in t) is.0)
    ∙ sym (tree_table-some p level is.1)
