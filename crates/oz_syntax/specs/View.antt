-- The phrase of the grammar that a tree stands for.
use Rattle.std.specs.Prelude.{List, map}
use Rattle.oz_language.specs.Grammar.{Phrase, of_list, var, any, int, string, literal, rec, keyed, list, paren, binary, bars, hashes, select, access, skip, fail, raise, connected, relate, call, dollar, head, proc, fun, local, thread, choice, when, choose, arm, cases, cases_or, clause, attempt, body}
use Rattle.oz_syntax.specs.declared.phrase.Phrase.{fold-Phrase}
use Rattle.oz_syntax.specs.declared.phrase.Phrase.{Phrase as Tree}
use Rattle.oz_syntax.specs.declared.phrase.Phrase.TheOpen.{Phrase-F}

-- one level, with each phrase inside already seen
abbrev pub view_step : Phrase-F Phrase → Phrase
view_step (Phrase-F.Var a b) = var a b
view_step (Phrase-F.Any a) = any a
view_step (Phrase-F.Int a b) = int a b
view_step (Phrase-F.String a b) = string a b
view_step (Phrase-F.Literal a b) = literal a b
view_step (Phrase-F.Record a b xs) = rec a b (of_list xs.items)
view_step (Phrase-F.Keyed a b c) = keyed a b c.value
view_step (Phrase-F.List a xs) = list a (of_list xs.items)
view_step (Phrase-F.Paren a xs) = paren a (of_list xs.items)
view_step (Phrase-F.Binary a b c) = binary a b.value c.value
view_step (Phrase-F.Bars xs) = bars (of_list xs.items)
view_step (Phrase-F.Hashes xs) = hashes (of_list xs.items)
view_step (Phrase-F.Select a b) = select a.value b.value
view_step (Phrase-F.Access a b) = access a b.value
view_step Phrase-F.Skip = skip
view_step (Phrase-F.Fail a) = fail a
view_step (Phrase-F.Raise a b) = raise a b.value
view_step (Phrase-F.Connected a b c) = connected a b.value c.value
view_step (Phrase-F.Relate a b c) = relate a b.value c.value
view_step (Phrase-F.Call a xs) = call a (of_list xs.items)
view_step Phrase-F.Dollar = dollar
view_step (Phrase-F.Head a xs) = head a (of_list xs.items)
view_step (Phrase-F.Proc a b c) = proc a b.value c.value
view_step (Phrase-F.Fun a b c d) = fun a b c.value d.value
view_step (Phrase-F.Local a xs c) = local a (of_list xs.items) c.value
view_step (Phrase-F.Thread a b) = thread a b.value
view_step (Phrase-F.Choice a xs) = choice a (of_list xs.items)
view_step (Phrase-F.If a xs) = when a (of_list xs.items)
view_step (Phrase-F.IfElse a xs c) = choose a (of_list xs.items) c.value
view_step (Phrase-F.Arm a b) = arm a.value b.value
view_step (Phrase-F.Case a b xs) = cases a b.value (of_list xs.items)
view_step (Phrase-F.CaseElse a b xs d) = cases_or a b.value (of_list xs.items) d.value
view_step (Phrase-F.Clause a b) = clause a.value b.value
view_step (Phrase-F.Try a xs) = attempt a.value (of_list xs.items)
view_step (Phrase-F.Body xs ys) = body (of_list xs.items) (of_list ys.items)

abbrev pub view : Tree → Phrase
view = fold-Phrase Phrase view_step

abbrev pub views : List Tree → List Phrase
views ps = map view ps
