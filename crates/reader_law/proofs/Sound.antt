-- What is open spells the tokens that were read, and stays good.
use Rattle.std.proofs.Common.{◌≡◌, ℕ, arith, zero, ◌+◌, List, [], ◌∷◌, ◌++◌, Option, Some, None, Bool, true, false, ◌&&◌, ◌||◌, nat_eq, nat_le, nat_lt, if◌then◌else◌, refl, sym, ap, ◌∙◌, subst, append_assoc}
use Rattle.std.proofs.lemmas.List.{append-nil}
use Rattle.std.proofs.lemmas.Bool.{eqb-true}
use Rattle.std.proofs.lemmas.Bool.Decides.{nat_tests}
use Rattle.oz_language.specs.Grammar.{level_of_hashes, level_of_selection, Phrase, Phrases, of_list, var, any, int, literal, rec, keyed, list, paren, raise, connected, relate, call, dollar, head, connective_token, tokens_of, each, declared, is_more, is_var, is_parameter, is_named_head, is_value_head, is_side, terms_in, terms_limit, term, terms, fields as are_fields, feature, stmt, stmts, decl, decls, expr, pattern as is_pattern, Derives}
use Rattle.oz_language.specs.Wording.{lazy_word}
use Rattle.oz_language.specs.declared.token.Literal.{Literal}
use Rattle.oz_language.specs.declared.token.Literal.TheVariants.{Atom}
use Rattle.oz_language.specs.declared.kernel.Constant.{Constant}
use Rattle.oz_language.specs.declared.token.Comparison.{Comparison}
use Rattle.oz_language.specs.declared.token.Token.{Token}
use Rattle.oz_language.specs.declared.token.Connective.{Connective}
use Rattle.oz_language.specs.declared.token.Token.TheVariants.{Var, Any, Literal as Lit, Label, CloseParen, OpenBracket, CloseBracket, OpenBrace, CloseBrace, Colon, Equals, Assign, Domain, Domains, Dollar, Relates, End, Fun, Of, Then}
use Rattle.oz_language.specs.declared.token.Connective.TheVariants.{Equates, Assigns, Bounds, BoundsEach}
use Rattle.reader_law.specs.Machine.{Opener, program, Maker, making_proc, making_fun, block, whole, dotted, accessing, connecting, relating, fields, key, listing, enclosing, parts, heading, heads, raising, testing, matching, patterns, catching, accepted, Stack, guard, bind, is_some_item, body_of, opened, may_state, in_block, may_value, expression, kind_by, kind_of, had, value, binds, reduce, right_level, shift_in, is_operator, item, declares, item_over, behind_item, next_field, turn_key, behind_field, behind_value, next_element, next_part, close_paren, raised, tested, subjected, claused, caught, open_head, made, first_head, next_head, behind, settled, step, run, start, accepted_of, finish, parse}
use Rattle.reader_law.proofs.Basics.{split, both, or_true, each_snoc, term_at, terms_snoc, is_field, fields_snoc, term_field, named_snoc, value_snoc, run_none}
use Rattle.reader_law.proofs.Good.{maker_tokens, spelled, Says, Stands, Makes, GoodItems, GoodOpener, Connects, connected_level, Has, Under, Good, Leads, spot_stands}
use Rattle.reader_law.proofs.SoundBasics.{told, leads_from, guard_leads, fresh_items, term_of, value_leads}
use Rattle.reader_law.proofs.SoundTerms.{operand_leads, select_leads, feature_leads, accessed_leads, access_leads, reduces}
use Rattle.reader_law.proofs.SoundOperators.{operator_leads}
use Rattle.reader_law.proofs.SoundBlocks.{Tells, Is, some_more, var_stands, item_leads, other_flags, tells_snoc, spelled_snoc, over_leads}

-- ---- parts of records, lists and calls

-- what records and lists are, as patterns and as expressions
rec_term : (w : Bool) (l : Literal) (at : ℕ) (fs : Phrases) → are_fields w fs ≡ true → term w zero (rec l at fs) ≡ true
rec_term true l at fs h = h
rec_term false l at fs h = h

list_term : (w : Bool) (at : ℕ) (es : Phrases) → is_more es && terms w zero es ≡ true → term w zero (list at es) ≡ true
list_term true at es h = h
list_term false at es h = h

-- the next token of a record
field_leads : (t : Token) (w : Bool) (l : Literal) (at : ℕ) (fs : List Phrase) (k : Stack) → Good (fields w l at fs ∷ k) → Leads (fields w l at fs ∷ k) (t ∷ []) (next_field (Some t) w l at fs k)
field_leads CloseParen w l at fs k g = value_leads w (rec l at (of_list fs)) false k (fields w l at fs ∷ k) (CloseParen ∷ []) (simp append_assoc) g.0.1 tt (rec_term w l at (of_list fs) g.0.0) tt refl g.1
field_leads t w l at fs k g = operand_leads t (fields w l at fs ∷ k) tt g

-- one more field
field_added : (t : Token) (p : Phrase) (w : Bool) (l : Literal) (at : ℕ) (fs : List Phrase) (j k : Stack) → spelled (fields w l at fs ∷ k) ++ tokens_of p ≡ spelled j → is_field w p ≡ true → Good (fields w l at fs ∷ k)
    → Leads j (t ∷ []) (next_field (Some t) w l at (fs ++ p ∷ []) k)
field_added t p w l at fs j k q h g =
    leads_from (fields w l at (fs ++ p ∷ []) ∷ k) j (t ∷ []) (t ∷ []) (next_field (Some t) w l at (fs ++ p ∷ []) k)
    (ap (λ ts. ts ++ t ∷ []) (ap (λ ts. spelled k ++ Label l at ∷ ts) (each_snoc fs p) ∙ sym (append_assoc (spelled k) (Label l at ∷ each (of_list fs)) (tokens_of p)) ∙ q))
    (field_leads t w l at (fs ++ p ∷ []) k ((fields_snoc w fs p g.0.0 h, g.0.1), g.1))

-- an integer or a literal turns out to be a key
key_leads : (p : Phrase) (s e w : Bool) (l : Literal) (at : ℕ) (fs : List Phrase) (k : Stack) → Good (fields w l at fs ∷ k) → Leads (whole p s e ∷ fields w l at fs ∷ k) (Colon ∷ []) (turn_key p w (fields w l at fs ∷ k))
key_leads (int i place) s e w l at fs k g = (simp append_assoc, (refl, g))
key_leads (literal m place) s e w l at fs k g = (simp append_assoc, (refl, g))
key_leads p s e w l at fs k g = tt

-- a field ends, without a key or with one
behind_field_leads : (t : Token) (p : Phrase) (s e w : Bool) (l : Literal) (at : ℕ) (fs : List Phrase) (k : Stack) → Has p s e (fields w l at fs ∷ k) → Good (fields w l at fs ∷ k)
    → Leads (whole p s e ∷ fields w l at fs ∷ k) (t ∷ []) (behind_field (Some t) p w l at fs k)
behind_field_leads Colon p s e w l at fs k h g = key_leads p s e w l at fs k g
behind_field_leads t p s e w l at fs k h g =
    field_added t p w l at fs (whole p s e ∷ fields w l at fs ∷ k) k refl (term_field w p (term_of w zero p (kind_by w) refl (told e _ h.1 h.3))) g

behind_value_leads : (t : Token) (p : Phrase) (s e w : Bool) (c : Constant) (place : ℕ) (k : Stack) → Has p s e (key w c place ∷ k) → Good (key w c place ∷ k) → Leads (whole p s e ∷ key w c place ∷ k) (t ∷ []) (behind_value (Some t) p c place k)
behind_value_leads t p s e w c place (fields v l at fs ∷ k) h g =
    field_added t (keyed c place p) v l at fs (whole p s e ∷ key w c place ∷ fields v l at fs ∷ k) k (simp append_assoc)
    (subst (λ q. term q zero p ≡ true) g.0 (term_of w zero p (kind_by w) refl (told e _ h.1 h.3))) g.1
behind_value_leads t p s e w c place [] h g = tt
behind_value_leads t p s e w c place (f ∷ k) h g = tt

-- the next token of a list and of a call
element_leads : (t : Token) (w : Bool) (at : ℕ) (es : List Phrase) (k : Stack) → Good (listing w at es ∷ k) → Leads (listing w at es ∷ k) (t ∷ []) (next_element (Some t) w at es k)
element_leads CloseBracket w at es k g =
    guard_leads (is_some_item es) (listing w at es ∷ k) (CloseBracket ∷ []) (value (list at (of_list es)) k) (λ h.
    value_leads w (list at (of_list es)) false k (listing w at es ∷ k) (CloseBracket ∷ []) (simp append_assoc) g.0.1 tt (list_term w at (of_list es) (both (is_more (of_list es)) (terms w zero (of_list es)) (some_more es h) g.0.0)) tt refl g.1)
element_leads t w at es k g = operand_leads t (listing w at es ∷ k) tt g

part_leads : (t : Token) (at : ℕ) (es : List Phrase) (k : Stack) → Good (parts at es ∷ k) → Leads (parts at es ∷ k) (t ∷ []) (next_part (Some t) at es k)
part_leads CloseBrace at es k g =
    guard_leads (is_some_item es) (parts at es ∷ k) (CloseBrace ∷ []) (Some (had (call at (of_list es)) true true k)) (λ h.
    let i = both (is_more (of_list es)) (terms false zero (of_list es)) (some_more es h) g.0.0 in
    value_leads false (call at (of_list es)) true k (parts at es ∷ k) (CloseBrace ∷ []) (simp append_assoc) g.0.1 i i tt refl g.1)
part_leads t at es k g = operand_leads t (parts at es ∷ k) tt g

-- one more element, and one more part
element_added : (t : Token) (p : Phrase) (s e w : Bool) (at : ℕ) (es : List Phrase) (k : Stack) → Has p s e (listing w at es ∷ k) → Good (listing w at es ∷ k) → Leads (whole p s e ∷ listing w at es ∷ k) (t ∷ []) (next_element (Some t) w at (es ++ p ∷ []) k)
element_added t p s e w at es k h g =
    leads_from (listing w at (es ++ p ∷ []) ∷ k) (whole p s e ∷ listing w at es ∷ k) (t ∷ []) (t ∷ []) (next_element (Some t) w at (es ++ p ∷ []) k)
    (ap (λ ts. (spelled k ++ OpenBracket at ∷ ts) ++ t ∷ []) (each_snoc es p) ∙ simp append_assoc)
    (element_leads t w at (es ++ p ∷ []) k ((terms_snoc w zero es p g.0.0 (term_of w zero p (kind_by w) refl (told e _ h.1 h.3)), g.0.1), g.1))

part_added : (t : Token) (p : Phrase) (s e : Bool) (at : ℕ) (es : List Phrase) (k : Stack) → Has p s e (parts at es ∷ k) → Good (parts at es ∷ k) → Leads (whole p s e ∷ parts at es ∷ k) (t ∷ []) (next_part (Some t) at (es ++ p ∷ []) k)
part_added t p s e at es k h g =
    leads_from (parts at (es ++ p ∷ []) ∷ k) (whole p s e ∷ parts at es ∷ k) (t ∷ []) (t ∷ []) (next_part (Some t) at (es ++ p ∷ []) k)
    (ap (λ ts. (spelled k ++ OpenBrace at ∷ ts) ++ t ∷ []) (each_snoc es p) ∙ simp append_assoc)
    (part_leads t at (es ++ p ∷ []) k ((terms_snoc false zero es p g.0.0 (told e _ h.1 h.3), g.0.1), g.1))

-- ---- parentheses

-- what one phrase in parentheses is
single_feature : (at : ℕ) (p : Phrase) → expr p ≡ true → feature (paren at (of_list (p ∷ []))) ≡ true
single_feature at p h = both (expr p) true h refl

single_state : (s : Bool) (at : ℕ) (p : Phrase) → Says s (stmt p ≡ true) → Says s (stmt (paren at (of_list (p ∷ []))) ≡ true)
single_state true at p h = both (stmt p) true h refl
single_state false at p h = tt

single_term : (w : Bool) (at : ℕ) (p : Phrase) → term w zero p ≡ true → term w zero (paren at (of_list (p ∷ []))) ≡ true
single_term true at p h = both (is_pattern p) true h refl
single_term false at p h = both (expr p) true h refl

-- the parenthesis ends, also behind `.` and `@`
enclosed_leads : (p : Phrase) (s e w : Bool) (at : ℕ) (k : Stack) → Has p s e (enclosing w at ∷ k) → Good (enclosing w at ∷ k) → Leads (whole p s e ∷ enclosing w at ∷ k) (CloseParen ∷ []) (Some (had (paren at (of_list (p ∷ []))) s true k))
enclosed_leads p s e w at (dotted a ∷ k) h g =
    let t = subst (λ v. term v zero p ≡ true) g.0 (term_of w zero p (kind_by w) refl (told e _ h.1 h.3)) in
    leads_from (dotted a ∷ k) (whole p s e ∷ enclosing w at ∷ dotted a ∷ k) (tokens_of (paren at (of_list (p ∷ [])))) (CloseParen ∷ []) (Some (had (paren at (of_list (p ∷ []))) s true (dotted a ∷ k))) (simp (append_assoc, append-nil))
    (select_leads a (paren at (of_list (p ∷ []))) k (single_feature at p t) g.1)
enclosed_leads p s e w at (accessing place ∷ k) h g =
    let t = subst (λ v. term v zero p ≡ true) g.0 (term_of w zero p (kind_by w) refl (told e _ h.1 h.3)) in
    leads_from (accessing place ∷ k) (whole p s e ∷ enclosing w at ∷ accessing place ∷ k) (tokens_of (paren at (of_list (p ∷ [])))) (CloseParen ∷ []) (Some (had (paren at (of_list (p ∷ []))) s true (accessing place ∷ k))) (simp (append_assoc, append-nil))
    (accessed_leads place (paren at (of_list (p ∷ []))) k (single_feature at p t) g.1)
enclosed_leads p s e w at [] h g = elim g.0.0 [ ]
enclosed_leads p s e w at (f ∷ k) h g =
    let t = term_of w zero p (kind_by w) refl (told e _ h.1 h.3) in
    value_leads w (paren at (of_list (p ∷ []))) s (f ∷ k) (whole p s e ∷ enclosing w at ∷ f ∷ k) (CloseParen ∷ []) (simp (append_assoc, append-nil)) g.0 (single_state s at p h.0) (single_term w at p t) tt refl g.1

paren_leads : (t : Token) (p : Phrase) (s e w : Bool) (at : ℕ) (k : Stack) → Has p s e (enclosing w at ∷ k) → Good (enclosing w at ∷ k) → Leads (whole p s e ∷ enclosing w at ∷ k) (t ∷ []) (close_paren (Some t) p s at k)
paren_leads CloseParen p s e w at k h g = enclosed_leads p s e w at k h g
paren_leads t p s e w at k h g = tt

-- ---- `raise`, `if`, `case` and `catch`

raised_leads : (t : Token) (p : Phrase) (s e : Bool) (at : ℕ) (k : Stack) → Has p s e (raising at ∷ k) → Good (raising at ∷ k) → Leads (whole p s e ∷ raising at ∷ k) (t ∷ []) (raised (Some t) p at k)
raised_leads End p s e at k h g =
    let i = told e _ h.1 h.3 in
    value_leads false (raise at p) true k (whole p s e ∷ raising at ∷ k) (End ∷ []) (simp append_assoc) g.0 i i tt refl g.1
raised_leads t p s e at k h g = tt

tested_leads : (t : Token) (p : Phrase) (s e : Bool) (at : ℕ) (sb eb : Bool) (bs : List Phrase) (k : Stack) → Has p s e (testing at sb eb bs ∷ k) → Good (testing at sb eb bs ∷ k)
    → Leads (whole p s e ∷ testing at sb eb bs ∷ k) (t ∷ []) (tested (Some t) p at sb eb bs k)
tested_leads Then p s e at sb eb bs k h g = (simp (append_assoc, append-nil), ((fresh_items, (g.0.0, g.0.1, g.0.2, told e _ h.1 h.3)), g.1))
tested_leads t p s e at sb eb bs k h g = tt

subjected_leads : (t : Token) (p : Phrase) (s e : Bool) (at : ℕ) (k : Stack) → Has p s e (matching at ∷ k) → Good (matching at ∷ k) → Leads (whole p s e ∷ matching at ∷ k) (t ∷ []) (subjected (Some t) p at k)
subjected_leads Of p s e at k h g = (simp append_assoc, (((g.0, or_true (may_state k && true)), refl, refl, told e _ h.1 h.3), g.1))
subjected_leads t p s e at k h g = tt

claused_leads : (t : Token) (p : Phrase) (s e : Bool) (at : ℕ) (c : Phrase) (sb eb : Bool) (cs : List Phrase) (k : Stack) → Has p s e (patterns at c sb eb cs ∷ k) → Good (patterns at c sb eb cs ∷ k)
    → Leads (whole p s e ∷ patterns at c sb eb cs ∷ k) (t ∷ []) (claused (Some t) p at c sb eb cs k)
claused_leads Then p s e at c sb eb cs k h g = (simp (append_assoc, append-nil), ((fresh_items, (g.0.0, g.0.1, g.0.2, g.0.3, told e _ h.1 h.3)), g.1))
claused_leads t p s e at c sb eb cs k h g = tt

caught_leads : (t : Token) (p : Phrase) (s e : Bool) (b : Phrase) (cs : List Phrase) (k : Stack) → Has p s e (catching b cs ∷ k) → Good (catching b cs ∷ k) → Leads (whole p s e ∷ catching b cs ∷ k) (t ∷ []) (caught (Some t) p b cs k)
caught_leads Then p s e b cs k h g = (simp (append_assoc, append-nil), ((fresh_items, (g.0.0, g.0.1, g.0.2, told e _ h.1 h.3)), g.1))
caught_leads t p s e b cs k h g = tt

-- ---- heads

-- `lazy` behind `fun`
lazy_leads : (n at place : ℕ) (k : Stack) → Good (heading (making_fun at None) ∷ k) → Leads (heading (making_fun at None) ∷ k) (Lit (Atom n) place ∷ []) (guard (nat_eq n lazy_word) (Some (heading (making_fun at (Some place)) ∷ k)))
lazy_leads n at place k g =
    guard_leads (nat_eq n lazy_word) (heading (making_fun at None) ∷ k) (Lit (Atom n) place ∷ []) (Some (heading (making_fun at (Some place)) ∷ k)) (λ q. (
      ap (λ m. spelled k ++ (Fun at ∷ Lit (Atom m) place ∷ [])) (sym (eqb-true n lazy_word q)) ∙ simp append_assoc,
      (g.0, g.1),
    ))

open_leads : (t : Token) (m : Maker) (k : Stack) → Good (heading m ∷ k) → Leads (heading m ∷ k) (t ∷ []) (open_head (Some t) m k)
open_leads (OpenBrace at) m k g = (simp append_assoc, (g.0, g.1))
open_leads (Lit (Atom n) place) (making_fun at None) k g = lazy_leads n at place k g
open_leads (Lit (Atom n) place) (making_fun at (Some p)) k g = tt
open_leads (Lit (Atom n) place) (making_proc at) k g = tt
open_leads (Lit l place) m k g = tt
open_leads t m k g = tt

-- a procedure with a name stands in a block, one without where a value may
named_stands : (k : Stack) → Under k → in_block k ≡ true → Stands true true false k × (kind_of k ≡ expression)
named_stands (block o d s ds ps ∷ k) u h = (var_stands d s u.0.0.3, refl)
named_stands [] u h = absurd (cc)
named_stands (f ∷ k) u h = absurd (cc)

value_stands : (k : Stack) → Makes k → may_value k ≡ true → Stands false false true k × (kind_of k ≡ expression)
value_stands (block o d s ds ps ∷ k) g h = (spot_stands false false (block o d s ds ps ∷ k) h, refl)
value_stands [] g h = (spot_stands false false [] g.0, g.1)
value_stands (f ∷ k) g h = (spot_stands false false (f ∷ k) g.0, g.1)

-- the first part of a head
first_leads : (t : Token) (m : Maker) (at : ℕ) (k : Stack) → Good (heads m at [] ∷ k) → Leads (heads m at [] ∷ k) (t ∷ []) (first_head (Some t) m at k)
first_leads (Var name place) m at k g =
    guard_leads (in_block k) (heads m at [] ∷ k) (Var name place ∷ []) (Some (heads m at (var name place ∷ []) ∷ k)) (λ h. (simp append_assoc, (named_stands k g.1 h, g.1)))
first_leads Dollar m at k g = guard_leads (may_value k) (heads m at [] ∷ k) (Dollar ∷ []) (Some (heads m at (dollar ∷ []) ∷ k)) (λ h. (simp append_assoc, (value_stands k g.0 h, g.1)))
first_leads t m at k g = tt

-- one more parameter
parameter_leads : (p : Phrase) (m : Maker) (at : ℕ) (h : Phrase) (hs : List Phrase) (k : Stack) → is_parameter p ≡ true → Good (heads m at (h ∷ hs) ∷ k) → Leads (heads m at (h ∷ hs) ∷ k) (tokens_of p) (Some (heads m at (h ∷ hs ++ p ∷ []) ∷ k))
parameter_leads p m at h hs k i g =
    let n = named_snoc at h hs p i in
    let v = value_snoc at h hs p i in (
      ap (λ ts. spelled k ++ (maker_tokens m ++ OpenBrace at ∷ (tokens_of h ++ ts))) (each_snoc hs p) ∙ simp append_assoc,
      ((subst (λ b. Stands (is_named_head (head at (of_list (h ∷ hs ++ p ∷ [])))) (is_named_head (head at (of_list (h ∷ hs ++ p ∷ [])))) b k) (sym v) (subst (λ b. Stands b b (is_value_head (head at (of_list (h ∷ hs)))) k) (sym n) g.0.0), g.0.1), g.1),
    )

-- a head ends, and a body begins
made_leads : (m : Maker) (at : ℕ) (h : Phrase) (hs : List Phrase) (k : Stack) → Good (heads m at (h ∷ hs) ∷ k) → Leads (heads m at (h ∷ hs) ∷ k) (CloseBrace ∷ []) (Some (opened (made m (head at (of_list (h ∷ hs)))) k))
made_leads (making_proc place) at h hs k g = (simp (append_assoc, append-nil), ((fresh_items, g.0), g.1))
made_leads (making_fun place lazy) at h hs k g = (simp (append_assoc, append-nil), ((fresh_items, g.0), g.1))

head_leads : (t : Token) (m : Maker) (at : ℕ) (hs : List Phrase) (k : Stack) → Good (heads m at hs ∷ k) → Leads (heads m at hs ∷ k) (t ∷ []) (next_head (Some t) m at hs k)
head_leads t m at [] k g = first_leads t m at k g
head_leads (Var name place) m at (h ∷ hs) k g = parameter_leads (var name place) m at h hs k refl g
head_leads (Any place) m at (h ∷ hs) k g = parameter_leads (any place) m at h hs k refl g
head_leads CloseBrace m at (h ∷ hs) k g = made_leads m at h hs k g
head_leads t m at (h ∷ hs) k g = tt

-- ---- phrases of blocks

-- what is known of a phrase that stands in a block
is_has : (p : Phrase) (s e : Bool) (o : Opener) (d b : Bool) (ds ps : List Phrase) (k : Stack) → Has p s e (block o d b ds ps ∷ k) → Is p s e
is_has p s e o d b ds ps k h = (h.0, h.1, h.2)

first : (a b : Bool) → a && b ≡ true → a ≡ true
first a b h = let j = split a b h in j.fst

second : (a b : Bool) → a && b ≡ true → b ≡ true
second a b h = let j = split a b h in j.snd

zero_le : (n : ℕ) → nat_le zero n ≡ true
zero_le n = grind (arith, nat_tests)

-- the left side of a statement with two sides. The flag tells whether it may be one
connecting_leads : (c : Connective) (p : Phrase) (s e q : Bool) (o : Opener) (d b : Bool) (ds ps : List Phrase) (k : Stack) → Has p s e (block o d b ds ps ∷ k) → Good (block o d b ds ps ∷ k)
    → (q ≡ true → nat_le (connected_level c) (binds p) ≡ true) → (q ≡ true → Connects c p (block o d b ds ps ∷ k))
    → Leads (whole p s e ∷ block o d b ds ps ∷ k) (connective_token c ∷ []) (guard (e && q) (Some (connecting c p ∷ block o d b ds ps ∷ k)))
connecting_leads c p s e q o d b ds ps k h g f n =
    guard_leads (e && q) (whole p s e ∷ block o d b ds ps ∷ k) (connective_token c ∷ []) (Some (connecting c p ∷ block o d b ds ps ∷ k)) (λ x.
    let y = split e q x in
    (simp append_assoc, ((term_at false (connected_level c) p (told e _ h.1 y.fst) (f y.snd), n y.snd), g)))

-- what comes behind the first expression of a block's phrase
behind_item_leads : (t : Token) (p : Phrase) (s e : Bool) (o : Opener) (d b : Bool) (ds ps : List Phrase) (k : Stack) → Has p s e (block o d b ds ps ∷ k) → Good (block o d b ds ps ∷ k)
    → Leads (whole p s e ∷ block o d b ds ps ∷ k) (t ∷ []) (behind_item (Some t) p s e o d b ds ps k)
behind_item_leads Equals p s e o d b ds ps k h g = connecting_leads Equates p s e (b || (d && is_var p)) o d b ds ps k h g (λ i. zero_le (binds p)) (λ i. i)
behind_item_leads Assign p s e o d b ds ps k h g = connecting_leads Assigns p s e b o d b ds ps k h g (λ i. zero_le (binds p)) (λ i. i)
behind_item_leads Domain p s e o d b ds ps k h g = connecting_leads Bounds p s e (b && nat_le level_of_selection (binds p)) o d b ds ps k h g (second b (nat_le level_of_selection (binds p))) (first b (nat_le level_of_selection (binds p)))
behind_item_leads Domains p s e o d b ds ps k h g = connecting_leads BoundsEach p s e (b && nat_le level_of_selection (binds p)) o d b ds ps k h g (second b (nat_le level_of_selection (binds p))) (first b (nat_le level_of_selection (binds p)))
behind_item_leads (Relates r) p s e o d b ds ps k h g =
    guard_leads (e && (b && (is_side p && nat_lt (terms_in p) terms_limit))) (whole p s e ∷ block o d b ds ps ∷ k) (Relates r ∷ []) (Some (relating r p ∷ block o d b ds ps ∷ k)) (λ x.
    let y = split e (b && (is_side p && nat_lt (terms_in p) terms_limit)) x in
    let z = split b (is_side p && nat_lt (terms_in p) terms_limit) y.snd in
    let v = split (is_side p) (nat_lt (terms_in p) terms_limit) z.snd in
    (simp append_assoc, ((told e _ h.1 y.fst, v.fst, v.snd, z.fst), g)))
behind_item_leads t p s e o d b ds ps k h g = over_leads t p s e o d b ds ps k (whole p s e ∷ block o d b ds ps ∷ k) refl (is_has p s e o d b ds ps k h) g

-- ---- statements with two sides

-- what statements with two sides are
connected_stmt : (c : Connective) (a p : Phrase) → term false (connected_level c) a ≡ true → expr p ≡ true → nat_le (right_level c) (binds p) ≡ true → stmt (connected c a p) ≡ true
connected_stmt Equates a p h i b = both (expr a) (expr p) h i
connected_stmt Assigns a p h i b = both (expr a) (expr p) h i
connected_stmt Bounds a p h i b = both (term false level_of_selection a) (term false level_of_hashes p) h (term_at false level_of_hashes p i b)
connected_stmt BoundsEach a p h i b = both (term false level_of_selection a) (term false level_of_hashes p) h (term_at false level_of_hashes p i b)

connected_decl : (c : Connective) (a p : Phrase) → expr p ≡ true → Says (declares (connected c a p)) (decl (connected c a p) ≡ true)
connected_decl Equates (var name at) p h = h
connected_decl Equates a p h = tt
connected_decl c a p h = tt

connected_is : (c : Connective) (a p : Phrase) (s e : Bool) (k : Stack) → Has p s e (connecting c a ∷ k) → Good (connecting c a ∷ k) → Is (connected c a p) true false
connected_is c a p s e k h g =
    let i = told e _ h.1 h.3 in
    (connected_stmt c a p g.0.0 i h.4, tt, connected_decl c a p i)

right_leads : (t : Token) (c : Connective) (a p : Phrase) (s e : Bool) (k : Stack) → Has p s e (connecting c a ∷ k) → Good (connecting c a ∷ k) → Leads (whole p s e ∷ connecting c a ∷ k) (t ∷ []) (item_over (Some t) (connected c a p) true false k)
right_leads t c a p s e (block o d b ds ps ∷ k) h g =
    over_leads t (connected c a p) true false o d b ds ps k (whole p s e ∷ connecting c a ∷ block o d b ds ps ∷ k) (simp append_assoc) (connected_is c a p s e (block o d b ds ps ∷ k) h g) g.1
right_leads t c a p s e [] h g = tt
right_leads t c a p s e (f ∷ k) h g = tt

related_is : (r : Comparison) (a p : Phrase) (s e : Bool) (k : Stack) → Has p s e (relating r a ∷ k) → Good (relating r a ∷ k) → Is (relate r a p) true false
related_is r a p s e k h g =
    let j = split (is_side p) (nat_le (terms_in a + terms_in p) terms_limit) h.5 in (
      both (expr a && expr p) ((is_side a && is_side p) && nat_le (terms_in a + terms_in p) terms_limit) (both (expr a) (expr p) g.0.0 (told e _ h.1 h.3))
          (both (is_side a && is_side p) (nat_le (terms_in a + terms_in p) terms_limit) (both (is_side a) (is_side p) g.0.1 j.fst) j.snd),
      tt,
      tt,
    )

related_leads : (t : Token) (r : Comparison) (a p : Phrase) (s e : Bool) (k : Stack) → Has p s e (relating r a ∷ k) → Good (relating r a ∷ k) → Leads (whole p s e ∷ relating r a ∷ k) (t ∷ []) (item_over (Some t) (relate r a p) true false k)
related_leads t r a p s e (block o d b ds ps ∷ k) h g =
    over_leads t (relate r a p) true false o d b ds ps k (whole p s e ∷ relating r a ∷ block o d b ds ps ∷ k) (simp append_assoc) (related_is r a p s e (block o d b ds ps ∷ k) h g) g.1
related_leads t r a p s e [] h g = tt
related_leads t r a p s e (f ∷ k) h g = tt

-- ---- behind a phrase that is whole

behind_leads : (t : Token) (p : Phrase) (s e : Bool) (k : Stack) → Has p s e k → Under k → Leads (whole p s e ∷ k) (t ∷ []) (behind (Some t) p s e k)
behind_leads t p s e (block o d b ds ps ∷ k) h u = behind_item_leads t p s e o d b ds ps k h u
behind_leads t p s e (connecting c a ∷ k) h u = right_leads t c a p s e k h u
behind_leads t p s e (relating r a ∷ k) h u = related_leads t r a p s e k h u
behind_leads t p s e (fields w l at fs ∷ k) h u = behind_field_leads t p s e w l at fs k h u
behind_leads t p s e (key w c place ∷ k) h u = behind_value_leads t p s e w c place k h u
behind_leads t p s e (listing w at es ∷ k) h u = element_added t p s e w at es k h u
behind_leads t p s e (enclosing w at ∷ k) h u = paren_leads t p s e w at k h u
behind_leads t p s e (parts at es ∷ k) h u = part_added t p s e at es k h u
behind_leads t p s e (raising at ∷ k) h u = raised_leads t p s e at k h u
behind_leads t p s e (testing at sb eb bs ∷ k) h u = tested_leads t p s e at sb eb bs k h u
behind_leads t p s e (matching at ∷ k) h u = subjected_leads t p s e at k h u
behind_leads t p s e (patterns at c sb eb cs ∷ k) h u = claused_leads t p s e at c sb eb cs k h u
behind_leads t p s e (catching b cs ∷ k) h u = caught_leads t p s e b cs k h u
behind_leads t p s e [] h u = tt
behind_leads t p s e (f ∷ k) h u = tt

-- no operator follows
settled_leads : (t : Token) (p : Phrase) (s e : Bool) (k : Stack) → Good (whole p s e ∷ k) → Leads (whole p s e ∷ k) (t ∷ []) (settled (Some t) p s e k)
settled_leads t p s e k g =
    let h = reduces zero p s e k g.0.0 g.1 (zero_le (binds p)) in
    let r = reduce zero p s k in
    leads_from (whole r.phrase r.states e ∷ r.rest) (whole p s e ∷ k) (t ∷ []) (t ∷ []) (behind (Some t) r.phrase r.states e r.rest) (ap (λ ts. ts ++ t ∷ []) h.same)
    (behind_leads t r.phrase r.states e r.rest h.has h.under)

after_if : (q : Bool) (t : Token) (p : Phrase) (s e : Bool) (k : Stack) → Good (whole p s e ∷ k) → Leads (whole p s e ∷ k) (t ∷ []) (if q then guard e (shift_in (kind_of k) t p s k) else settled (Some t) p s e k)
after_if true t p s e k g = operator_leads t p s e k g
after_if false t p s e k g = settled_leads t p s e k g

-- ---- runs

items_tell : (d s : Bool) (ds ps : List Phrase) → GoodItems d s ds ps → Tells d s false ds ps
items_tell d s ds ps g = (g.0, g.1, tt, g.2)

-- each step spells its token, and keeps what is open good
pub step_leads : (t : Token) (k : Stack) → Good k → Leads k (t ∷ []) (step t k)
step_leads t [] g = elim g [ ]
step_leads t (block o d s ds ps ∷ k) g = item_leads t o d s false ds ps k g.0.1 g.1 (items_tell d s ds ps g.0.0)
step_leads t (whole p s e ∷ k) g = after_if (is_operator t) t p s e k g
step_leads t (fields w l at fs ∷ k) g = field_leads t w l at fs k g
step_leads t (listing w at es ∷ k) g = element_leads t w at es k g
step_leads t (parts at es ∷ k) g = part_leads t at es k g
step_leads t (dotted a ∷ k) g = feature_leads t a k g
step_leads t (accessing at ∷ k) g = access_leads t at k g
step_leads t (heading m ∷ k) g = open_leads t m k g
step_leads t (heads m at hs ∷ k) g = head_leads t m at hs k g
step_leads t (accepted p ∷ k) g = tt
step_leads t (f ∷ k) g = operand_leads t (f ∷ k) tt g

run_leads_from : (ts : List Token) (t : Token) (k : Stack) (o : Option Stack) → Leads k (t ∷ []) o → ((j : Stack) → Good j → Leads j ts (run (Some j) ts)) → Leads k (t ∷ ts) (run o ts)
run_leads_from ts t k None l f = subst (Leads k (t ∷ ts)) (sym (run_none ts)) tt
run_leads_from ts t k (Some j) l f = leads_from j k ts (t ∷ ts) (run (Some j) ts) (ap (λ us. us ++ ts) l.0 ∙ append_assoc (spelled k) (t ∷ []) ts) (f j l.1)

pub run_leads : (ts : List Token) (k : Stack) → Good k → Leads k ts (run (Some k) ts)
run_leads [] k g = (sym (append-nil (spelled k)), g)
run_leads (t ∷ ts) k g = run_leads_from ts t k (step t k) (step_leads t k g) (run_leads ts)

pub good_start : Good start
good_start = ((fresh_items, tt), tt)

-- ---- at the end

-- a program ends with its block
finish_item : (o : Opener) (d b s e : Bool) (ds ps : List Phrase) (k : Stack) (p : Phrase) → GoodOpener o d b ds k → Tells d s e ds ps → bind (item None o d b e ds ps k) accepted_of ≡ Some p → b ≡ s → Derives (spelled (block o d b ds ps ∷ k)) p
finish_item program d true s e ds ps [] p g i h q =
    let x = body_of ds ps in
    let m : x ≡ p = cc in
    subst (Derives (declared (of_list ds) ++ each (of_list ps))) m (record { program = both (decls (of_list ds)) (stmts (of_list ps)) i.3 (told s _ i.1 (sym q)); spelled = refl })
finish_item program d b s e ds ps (f ∷ k) p g i h q = elim g [ ]
finish_item program d false s e ds ps [] p g i h q = absurd (cc)
finish_item o d b s e ds ps k p g i h q = absurd (cc)

-- and with the last phrase of its block
finish_over : (q : Phrase) (s e : Bool) (o : Opener) (d b : Bool) (ds ps : List Phrase) (k : Stack) (us : List Token) (p : Phrase) → spelled (block o d b ds ps ∷ k) ++ tokens_of q ≡ us → Is q s e → Good (block o d b ds ps ∷ k)
    → bind (item_over None q s e (block o d b ds ps ∷ k)) accepted_of ≡ Some p → Derives us p
finish_over q s e o d b ds ps k us p m i g h =
    let d' = d && declares q in
    let b' = b && s in
    subst (λ ts. Derives ts p) (spelled_snoc o d' b' d b ds ps q k ∙ m)
    (finish_item o d' b' b' (b && e) ds (ps ++ q ∷ []) k p (other_flags o d b (declares q) s ds k g.0.1) (tells_snoc q s e d b ds ps g.0.0 i) h refl)

-- and with what is whole there
finish_behind : (q : Phrase) (s e : Bool) (k : Stack) (p : Phrase) → Has q s e k → Under k → bind (behind None q s e k) accepted_of ≡ Some p → Derives (spelled k ++ tokens_of q) p
finish_behind q s e (block o d b ds ps ∷ k) p i u h = finish_over q s e o d b ds ps k (spelled (block o d b ds ps ∷ k) ++ tokens_of q) p refl (is_has q s e o d b ds ps k i) u h
finish_behind q s e (connecting c a ∷ block o d b ds ps ∷ k) p i u h =
    finish_over (connected c a q) true false o d b ds ps k (spelled (connecting c a ∷ block o d b ds ps ∷ k) ++ tokens_of q) p (simp append_assoc) (connected_is c a q s e (block o d b ds ps ∷ k) i u) u.1 h
finish_behind q s e (relating r a ∷ block o d b ds ps ∷ k) p i u h =
    finish_over (relate r a q) true false o d b ds ps k (spelled (relating r a ∷ block o d b ds ps ∷ k) ++ tokens_of q) p (simp append_assoc) (related_is r a q s e (block o d b ds ps ∷ k) i u) u.1 h
finish_behind q s e (connecting c a ∷ k) p i u h = absurd (cc)
finish_behind q s e (relating r a ∷ k) p i u h = absurd (cc)
finish_behind q s e (key w c place ∷ fields v l at fs ∷ k) p i u h = absurd (cc)
finish_behind q s e (key w c place ∷ k) p i u h = elim u.0 [ ]
finish_behind q s e [] p i u h = absurd (cc)
finish_behind q s e (f ∷ k) p i u h = absurd (cc)

finish_sound : (k : Stack) (p : Phrase) → Good k → finish k ≡ Some p → Derives (spelled k) p
finish_sound (block o d s ds ps ∷ k) p g h = finish_item o d s s false ds ps k p g.0.1 (items_tell d s ds ps g.0.0) h refl
finish_sound (whole q s e ∷ k) p g h =
    let i = reduces zero q s e k g.0.0 g.1 (zero_le (binds q)) in
    let r = reduce zero q s k in
    subst (λ ts. Derives ts p) i.same (finish_behind r.phrase r.states e r.rest p i.has i.under h)
finish_sound (heads m at [] ∷ k) p g h = absurd (cc)
finish_sound (heads m at (x ∷ hs) ∷ k) p g h = absurd (cc)
finish_sound [] p g h = elim g [ ]
finish_sound (f ∷ k) p g h = absurd (cc)

parse_sound_from : (ts : List Token) (o : Option Stack) (p : Phrase) → Leads start ts o → bind o finish ≡ Some p → Derives ts p
parse_sound_from ts None p l e = absurd (cc)
parse_sound_from ts (Some k) p l e = subst (λ us. Derives us p) l.0 (finish_sound k p l.1 e)

-- what is read as a program is spelled so
pub parse_sound : (ts : List Token) (p : Phrase) → parse ts ≡ Some p → Derives ts p
parse_sound ts p e = parse_sound_from ts (run (Some start) ts) p (run_leads ts start good_start) e
