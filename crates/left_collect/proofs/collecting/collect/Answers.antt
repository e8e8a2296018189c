use Rattle.std.proofs.Common.{◌≡◌, ℕ, ◌+◌, ◌<◌, ◌^◌, ℤ, List, [], ◌∷◌, ◌++◌, length, drop, get_or, replicate, pos, false, sym, ◌∙◌, ap, subst, arith}
use Rattle.std.proofs.lemmas.List.{drop_more, drop_all}
use Rattle.nil_word.specs.declared.letter.Letter.{Letter}
use Rattle.nil_pres.specs.Relations.{relations_of}
use Rattle.left_collect.specs.Collected.{collected, collection}
use Rattle.left_collect.specs.Pieces.{IsReady}
use Rattle.left_collect.proofs.Steps.{goes_on, stops, ready_zeros}
use Rattle.left_collect.proofs.Kept.{word_kept, none_taken, collection_some, collection_none}
use Rattle.left_collect.proofs.collecting.collect.Goals as goal

none : Letter
none = record { number = 0; up = false }

pub loop-letter-init : goal.loop-letter-init
loop-letter-init c =
    let p = c.args.pres.now in
    let zeros = c.in_ok-vector.ensures
    ∙ ap (λ (n : ℕ). replicate n (pos 0)) c.count.ensures.count in
    record {
      ready = subst (λ (v : List ℤ). IsReady p v (2 ^ 24)) (sym zeros)
          (ready_zeros p c.count.ensures.lawful);
      rest = ap (λ (v : List ℤ). collected (relations_of p) (2 ^ 24) v c.args.word.now)
          (sym zeros);
    }

-- the next letter and those behind it
next_letter : (word items : List Letter) (i : ℕ) → items ≡ word → i < length items
    → drop i word ≡ (get_or items i none ∷ []) ++ drop (i + 1) word
unfolding none
next_letter word items i e h =
    subst (λ (w : List Letter). drop i w ≡ (get_or items i none ∷ []) ++ drop (i + 1) w) e
    (drop_more items i none h)

pub loop-letter-preserved : goal.loop-letter-preserved
unfolding none
loop-letter-preserved c =
    let word = c.args.word.now in
    let items = c.letters-letter-items.result.now in
    let i = c.loop-letter.letter-index in
    record {
      ready = c.in-Ok.ensures.ready;
      rest = c.loop-letter.invariant.rest
          ∙ goes_on (relations_of c.args.pres.now) c.loop-letter.left c.loop-letter.vector
          (drop i word) (get_or items i none ∷ []) (drop (i + 1) word)
          (next_letter word items i c.letters-letter-items.ensures c.loop-letter-test.true)
          c.append_letter.new.v c.append_letter.new.left c.in-Ok.ensures.ok;
    }

pub returns-in_default-clause-taken : goal.returns-in_default-clause-taken
unfolding none
returns-in_default-clause-taken c =
    let rels = relations_of c.args.pres.now in
    let word = c.args.word.now in
    let items = c.letters-letter-items.result.now in
    let i = c.loop-letter.letter-index in
    λ few. none_taken _ (collection rels word)
    (collection_none c.args.pres.now word
    (c.loop-letter.invariant.rest
    ∙ stops rels c.loop-letter.left c.loop-letter.vector (drop i word) (get_or items i none ∷ [])
    (drop (i + 1) word)
    (next_letter word items i c.letters-letter-items.ensures c.loop-letter-test.true)
    c.in_default.ensures.spent))

pub returns-clause-stands : goal.returns-clause-stands
returns-clause-stands c = λ i low high inside.
    word_kept c.args.pres.now c.count.ensures.lawful i low high (2 ^ 24) c.args.word.now
    c.loop-letter.vector c.loop-letter.left inside
    (c.loop-letter.invariant.rest
    ∙ ap (collected (relations_of c.args.pres.now) c.loop-letter.left c.loop-letter.vector)
    (drop_all c.loop-letter.letter-index c.args.word.now
    (omega (arith, c.loop-letter-test.false, ap length c.letters-letter-items.ensures))))

pub returns-clause-ok : goal.returns-clause-ok
returns-clause-ok c =
    collection_some c.args.pres.now c.args.word.now c.loop-letter.vector c.loop-letter.left
    (c.loop-letter.invariant.rest
    ∙ ap (collected (relations_of c.args.pres.now) c.loop-letter.left c.loop-letter.vector)
    (drop_all c.loop-letter.letter-index c.args.word.now
    (omega (arith, c.loop-letter-test.false, ap length c.letters-letter-items.ensures))))
