use Rattle.std.proofs.Common.{◌∙◌, ◌≡◌, sym, ap, subst, true, false, List, length, Ok, IfOk, IfErr, IfSome}
use Rattle.line_tokens.specs.declared.token.Token.{Token}
use Rattle.line_tokens.specs.Tokens.{is_silent}
use Rattle.word_text.specs.Words.{query_tokens}
use Rattle.word_text.specs.Faults.{IsRead, IsFirstFault}
use Rattle.word_text.specs.Lines.{blank}
use Rattle.word_text.specs.Seen.{fault_place}
use Rattle.word_text.proofs.Deciding.{silent_reads, silent_fails, tokens_read, reads_tokens, fails_tokens}
use Rattle.word_text.proofs.Bounded.{result_shaped}
use Rattle.word_text.proofs.reading.read_query.Goals as goal

-- a silent line is the blank query, and nothing else
pub returns-then-silent : goal.returns-then-silent
returns-then-silent c =
    let silent : is_silent c.args.line.now ≡ true = sym c.silent.ensures ∙ c.if-silent.true in
    record {
      read = blank silent;
      shaped = tt;
      fault = tt;
      only = λ q h. ap Ok (silent_reads c.args.pres.now.names c.args.line.now q silent h);
      only_fault = λ f h. absurd (silent_fails c.args.pres.now.names c.args.line.now f silent h);
    }

-- any other line is what its tokens are
pub returns : goal.returns
returns c =
    let says : is_silent c.args.line.now ≡ false = sym c.silent.ensures ∙ c.if-silent.false in
    let own : c.as_slice.result.now ≡ query_tokens c.args.pres.now.names c.args.line.now = c.as_slice.ensures.value ∙ c.in_ok-tokens.ensures in
    let read = subst (λ (ts : List Token). IfOk c.read_tokens.result (λ q. IsRead ts q)) own c.read_tokens.ensures.read in
    let fault = subst (λ (ts : List Token). IfErr c.read_tokens.result (λ f. IfSome (fault_place f) (IsFirstFault ts (length c.args.line.now)))) own c.read_tokens.ensures.fault in
    let reads = reads_tokens c.args.pres.now.names c.args.line.now c.read_tokens.result says read in
    record {
      read = reads;
      shaped = result_shaped c.args.pres.now.names c.args.line.now c.read_tokens.result reads;
      fault = fails_tokens c.args.pres.now.names c.args.line.now c.read_tokens.result says fault;
      only = λ q h. c.read_tokens.ensures.only q (subst (λ (ts : List Token). IsRead ts q) (sym own) (tokens_read c.args.pres.now.names c.args.line.now q says h));
      only_fault = λ f h. c.read_tokens.ensures.only_fault f (subst (λ (ts : List Token). IsFirstFault ts (length c.args.line.now) f) (sym own) h.first);
    }
