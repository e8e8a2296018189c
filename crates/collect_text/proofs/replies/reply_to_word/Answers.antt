use Rattle.std.proofs.Common.{◌≡◌, ℕ, ◌≤◌, Bool, cond, ℤ, List, length, Option, Some, None, IfSome, refl, sym, ◌∙◌, ap, subst, string_bytes, IfOk, codes}
use Rattle.std.proofs.lemmas.Bool.{le-ltb}
use Rattle.nil_word.specs.declared.letter.Letter.{Letter}
use Rattle.nil_pres.specs.Presented.{Presented}
use Rattle.nil_pres.specs.Relations.{relations_of}
use Rattle.left_collect.specs.declared.collect_fault.CollectFault.{CollectFault}
use Rattle.left_collect.specs.declared.collect_fault.CollectFault.TheVariants as fault
use Rattle.left_collect.specs.Collected.{collection}
use Rattle.session_io.specs.Lines.{as_line}
use Rattle.collect_text.specs.Limits.{letter_limit}
use Rattle.collect_text.specs.Replies.{vector_reply, word_reply}
use Rattle.collect_text.proofs.replies.reply_to_word.Goals as goal

-- a vector is refused for want of memory alone
not_taken : (found : Option (List ℤ)) (f : CollectFault) → f ≡ fault.Steps
    → IfSome found (λ v. f ≡ fault.Memory) → found ≡ None
not_taken None f e h = refl
not_taken (Some v) f e h = let other : f ≡ fault.Memory = h in cc

word_reply-spent : (p : Presented) (w : List Letter) → length w ≤ letter_limit
    → collection (relations_of p) w ≡ None → word_reply p w ≡ as_line (codes "steps")
word_reply-spent p w few e =
    ap (λ (b : Bool). cond b (as_line (codes "longword"))
    (vector_reply (collection (relations_of p) w))) (le-ltb letter_limit (length w) few)
    ∙ ap vector_reply e

pub returns-in-Err-Steps : goal.returns-in-Err-Steps
returns-in-Err-Steps c =
    let p = c.args.pres.now in
    let w = c.args.word.now in
    let none : collection (relations_of p) w ≡ None =
    not_taken (collection (relations_of p) w) c.in-Err-Steps.field-0 c.in-Err-Steps.field-0-is
    (c.in-Err-Steps.ensures.taken c.requires.few) in
    subst (λ (t : List ℕ). IfOk c.from_str.result (λ text. string_bytes text ≡ t))
    (sym (word_reply-spent p w c.requires.few none)) c.from_str.ensures.ok
