-- The test decides what is allowed.
use Rattle.std.proofs.Common.{◌≡◌, true, arith}
use Rattle.dt_letters.specs.Allowed.{exponents_of}
use Rattle.dt_letters.specs.Arena.{letter_in}
use Rattle.dt_letters.proofs.Allowing.{allowed_decided}
use Rattle.dt_letters.proofs.letters.Letters.node.Goals as goal

pub returns-then-not-is_allowed-clause-given : goal.returns-then-not-is_allowed-clause-given
returns-then-not-is_allowed-clause-given c = λ allowed.
    let l = letter_in c.args.self.now c.args.left in
    let r = letter_in c.args.self.now c.args.right in
    let d = allowed_decided (exponents_of c.args.self.now.pres) l r c.args.kind c.args.number
    c.is_allowed.result c.is_allowed.ensures in
    let t : c.is_allowed.result ≡ true = d.1 allowed in
    absurd (grind (arith, t, c.if-not-is_allowed.true))

pub returns-in-Ok-clause-refused : goal.returns-in-Ok-clause-refused
returns-in-Ok-clause-refused c = λ no.
    let l = letter_in c.args.self.now c.args.left in
    let r = letter_in c.args.self.now c.args.right in
    let d = allowed_decided (exponents_of c.args.self.now.pres) l r c.args.kind c.args.number
    c.is_allowed.result c.is_allowed.ensures in
    let t : c.is_allowed.result ≡ true = grind (arith, c.if-not-is_allowed.false) in
    absurd (no (d.0 t))

pub returns-in-Err-clause-refused : goal.returns-in-Err-clause-refused
returns-in-Err-clause-refused c = λ no.
    let l = letter_in c.args.self.now c.args.left in
    let r = letter_in c.args.self.now c.args.right in
    let d = allowed_decided (exponents_of c.args.self.now.pres) l r c.args.kind c.args.number
    c.is_allowed.result c.is_allowed.ensures in
    let t : c.is_allowed.result ≡ true = grind (arith, c.if-not-is_allowed.false) in
    absurd (no (d.0 t))
