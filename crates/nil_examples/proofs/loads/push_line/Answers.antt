use Rattle.std.proofs.Common.{◌≡◌, ◌++◌, ◌%◌, string_bytes, OnOk, ℕ, List, sym, subst, arith}
use Rattle.nil_examples.proofs.Lines.{line-product, line-equation, line-solve, line-commutator}
use Rattle.nil_examples.proofs.loads.push_line.Goals as goal

pub returns-in-1 : goal.returns-in-1
returns-in-1 c =
    subst (λ (t : List ℕ). OnOk c.write.result (string_bytes c.write.new.self ≡ string_bytes c.args.text.now ++ t))
    (sym (line-product c.args.q c.args.u.now c.args.v.now c.in-1.is)) c.write.ensures.bytes

pub returns-in_ok-write-in-2 : goal.returns-in_ok-write-in-2
returns-in_ok-write-in-2 c =
    subst (λ (t : List ℕ). OnOk c.write-in-2-2.result (string_bytes c.write-in-2-2.new.self ≡ t))
    (line-equation c.args.q c.args.u.now c.args.v.now (string_bytes c.args.text.now) (string_bytes c.write-in-2.new.self) c.in-2.is c.in_ok-write-in-2.ensures.bytes)
    c.write-in-2-2.ensures.bytes

pub returns-in-3 : goal.returns-in-3
returns-in-3 c =
    subst (λ (t : List ℕ). OnOk c.write-in-3.result (string_bytes c.write-in-3.new.self ≡ string_bytes c.args.text.now ++ t))
    (sym (line-solve c.args.q c.args.u.now c.args.v.now c.in-3.is)) c.write-in-3.ensures.bytes

pub returns-in_default : goal.returns-in_default
returns-in_default c =
    let rest : c.args.q % 4 ≡ 0 = omega arith in
    subst (λ (t : List ℕ). OnOk c.write-in_default.result (string_bytes c.write-in_default.new.self ≡ string_bytes c.args.text.now ++ t))
    (sym (line-commutator c.args.q c.args.u.now c.args.v.now rest)) c.write-in_default.ensures.bytes
