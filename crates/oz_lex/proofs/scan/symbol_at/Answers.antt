use Rattle.std.proofs.Common.{◌∙◌, sym, arith}
use Rattle.oz_lex.proofs.Longest.{fits, symbol_longest, symbol_none, past_two, past_one, past_none}
use Rattle.oz_lex.proofs.scan.symbol_at.Goals as goal

pub returns-then-begins_symbol : goal.returns-then-begins_symbol
returns-then-begins_symbol c =
    symbol_longest c.args.text.now c.requires 3 (omega arith) (sym c.begins_symbol.ensures ∙ c.if-begins_symbol.true) (λ k l i. absurd (omega arith))

pub returns-then-begins_symbol-2 : goal.returns-then-begins_symbol-2
returns-then-begins_symbol-2 c =
    symbol_longest c.args.text.now c.requires 2 (omega arith) (sym c.begins_symbol-2.ensures ∙ c.if-begins_symbol-2.true)
    (past_two (fits c.args.text.now) (sym c.begins_symbol.ensures ∙ c.if-begins_symbol.false))

pub returns-then-begins_symbol-3 : goal.returns-then-begins_symbol-3
returns-then-begins_symbol-3 c =
    symbol_longest c.args.text.now c.requires 1 (omega arith) (sym c.begins_symbol-3.ensures ∙ c.if-begins_symbol-3.true)
    (past_one (fits c.args.text.now) (sym c.begins_symbol.ensures ∙ c.if-begins_symbol.false) (sym c.begins_symbol-2.ensures ∙ c.if-begins_symbol-2.false))

pub returns : goal.returns
returns c =
    symbol_none c.args.text.now c.requires
    (past_none (fits c.args.text.now) (sym c.begins_symbol.ensures ∙ c.if-begins_symbol.false) (sym c.begins_symbol-2.ensures ∙ c.if-begins_symbol-2.false) (sym c.begins_symbol-3.ensures ∙ c.if-begins_symbol-3.false))
