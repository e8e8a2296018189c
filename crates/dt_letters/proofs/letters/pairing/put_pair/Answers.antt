-- The row of the syllable's type has the pair behind, and the others stay.
use Rattle.std.proofs.Common.{◌∷◌, [], ◌++◌, ◌<◌, length, length-set, get_or, pos, refl, sym, ap, ◌∙◌, arith}
use Rattle.std.specs.Prelude.{List}
use Rattle.nil_pres.specs.declared.syllable.Syllable.{Syllable}
use Rattle.dt_letters.specs.declared.pair.Pair.{Pair}
use Rattle.dt_letters.proofs.Paired.{put-named, row_in-at}
use Rattle.dt_letters.proofs.letters.pairing.put_pair.Goals as goal

pub loop-syllable-preserved : goal.loop-syllable-preserved
loop-syllable-preserved c =
    let rows = c.loop-syllable.rows.items in
    let n = c.loop-syllable.syllable-index in
    let d : Syllable = record { number = 0; exp = pos 0 } in
    let s = get_or c.args.right.now n d in
    let less : s.number < length rows =
    (let t = c.requires.types n d (omega arith) in omega (arith, t, c.loop-syllable.invariant.count)) in
    record {
      count = length-set rows s.number c.push.new.self ∙ c.loop-syllable.invariant.count;
      rows = λ k lt. put-named rows c.args.rows.now.items c.push.new.self s.number k n c.args.pair c.args.right.now s d
          (omega arith) refl refl less
          (c.in_ok-push.ensures.items
          ∙ ap (λ (ps : List Pair). ps ++ c.args.pair ∷ [])
          (sym (row_in-at rows s.number c.index_mut.result.now less c.index_mut.ensures.value)))
          (c.loop-syllable.invariant.rows k lt);
    }
