-- The machine accepts exactly the programs, and goes through exactly what begins one.
use Rattle.std.proofs.Common.{◌≡◌, List, ◌++◌, Option, Some, None, refl, sym, ap, ◌∙◌, subst}
use Rattle.oz_language.specs.declared.token.Token.{Token}
use Rattle.oz_language.specs.Grammar.{Phrase, Derives, Begins}
use Rattle.reader_law.specs.Machine.{Stack, bind, run, start, finish, parse}
use Rattle.reader_law.specs.Laws.{ParsesLaw, BeginsLaw}
use Rattle.reader_law.proofs.Basics.{run_append, run_none}
use Rattle.reader_law.proofs.Good.{Good, Leads}
use Rattle.reader_law.proofs.Complete.{parses}
use Rattle.reader_law.proofs.Sound.{run_leads, parse_sound, good_start}
use Rattle.reader_law.proofs.Viable.{Completes, complete}

parse_complete : (ts : List Token) (p : Phrase) → Derives ts p → parse ts ≡ Some p
parse_complete ts p a = ap parse (sym a.spelled) ∙ parses p a.program

pub parses_law : ParsesLaw
parses_law ts p = (parse_complete ts p, parse_sound ts p)

-- ---- beginnings

-- a run that goes on to its end has gone through its beginning
goes_through : (us : List Token) (p : Phrase) (o : Option Stack) → bind (run o us) finish ≡ Some p → (k : Stack) × (o ≡ Some k)
goes_through us p None e = let h : None ≡ Some p = sym (ap (λ o. bind o finish) (run_none us)) ∙ e in absurd (cc)
goes_through us p (Some k) e = (k, refl)

runs : (ts : List Token) → Begins ts → (k : Stack) × (run (Some start) ts ≡ Some k)
runs ts b = goes_through b.rest b.program (run (Some start) ts) (ap (λ o. bind o finish) (sym (run_append (Some start) ts b.rest)) ∙ parse_complete (ts ++ b.rest) b.program b.derived)

begins_from : (ts : List Token) (k : Stack) → run (Some start) ts ≡ Some k → Completes k → Begins ts
begins_from ts k e c = record {
  program = c.program;
  rest = c.by;
  derived = parse_sound (ts ++ c.by) c.program (ap (λ o. bind o finish) (run_append (Some start) ts c.by ∙ ap (λ o. run o c.by) e) ∙ c.ends);
}

-- what is open after a run is good
good_after : (j : Stack) (ts : List Token) (o : Option Stack) (k : Stack) → Leads j ts o → o ≡ Some k → Good k
good_after j ts (Some m) k l e = let h : m ≡ k = cc in subst Good h l.1
good_after j ts None k l e = absurd (cc)

begins : (ts : List Token) (k : Stack) → run (Some start) ts ≡ Some k → Begins ts
begins ts k e = begins_from ts k e (complete k (good_after start ts (run (Some start) ts) k (run_leads ts start good_start) e))

pub begins_law : BeginsLaw
begins_law ts = (runs ts, λ r. begins ts r.0 r.1)
