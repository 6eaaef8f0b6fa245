-- A script from the call of its procedure to the distribution of its variables.
use Rattle.std.proofs.Common.{◌≡◌, inl, inr, ℕ, zero, suc, ◌+◌, ◌-◌, ◌<◌, nat_eq, Bool, true, false, List, [], ◌∷◌, ◌++◌, length, map, flat_map, Contains, slice_index_or, refl, sym, ◌∙◌, ap, subst, arith}
use Rattle.std.proofs.lemmas.Bool.Decides.{nat_tests}
use Rattle.std.proofs.lemmas.List.{append-nil, length-map}
use Rattle.environments.specs.Environments.{Environment, bound, binding_all}
use Rattle.oz_base.specs.declared.names.Ident.{Ident}
use Rattle.oz_domains.specs.Positions.{domain}
use Rattle.oz_language.specs.declared.token.Literal.{Literal}
use Rattle.oz_language.specs.declared.kernel.Constant.{Constant}
use Rattle.oz_language.specs.declared.kernel.Identifier.{Identifier}
use Rattle.oz_language.specs.declared.kernel.Identifier.TheVariants.{Word}
use Rattle.oz_language.specs.declared.kernel.Kernel.{Kernel}
use Rattle.oz_language.specs.Kernels.{Stmts, followed, numbers, inside as kernel_inside}
use Rattle.kernel_form.proofs.Standing.{split_statement}
use Rattle.oz_language.specs.Translation.{scoped, record_or_label}
use Rattle.oz_semantics.specs.Names.{named}
use Rattle.oz_semantics.specs.Store.{View, Same, is_consistent, named_by}
use Rattle.oz_semantics.specs.Inputs.{Known}
use Rattle.oz_semantics.specs.Vectors.{vector}
use Rattle.oz_semantics.specs.Configurations.{frames_of, applying}
use Rattle.oz_semantics.specs.Answers.{GoesOn}
use Rattle.oz_semantics.specs.Runs.{fd_number}
use Rattle.oz_semantics.specs.Search.{script_variable}
use Rattle.oz_semantics.specs.Spaces.{goes_on}
use Rattle.oz_semantics.specs.declared.value.Value.{Value}
use Rattle.oz_semantics.specs.declared.configuration.Frame.{Frame}
use Rattle.oz_semantics.specs.declared.configuration.Configuration.{Configuration}
use Rattle.fd_problems.specs.declared.problem.Item.{Item}
use Rattle.fd_problems.specs.declared.problem.Distribution.{Distribution}
use Rattle.fd_stores.specs.Stores.{Store, Constraint, Runs, Fails}
use Rattle.fd_stores.specs.Laws.{AreOver}
use Rattle.fd_stores.proofs.RunLaws.{runs_law}
use Rattle.fd_stores.proofs.Lists.{contains_none, contains_mapped}
use Rattle.fd_trees.specs.Scripts.{constraints_from, products_in, IsItem}
use Rattle.fd_views.specs.Views.{all_values, IsPlain, StandsFor, HasValue}
use Rattle.fd_views.proofs.SameLaws.{unnamed_free}
use Rattle.fd_form.specs.Parts.{fd_word}
use Rattle.fd_form_law.specs.Shapes.{Differ}
use Rattle.fd_codes.specs.Codes.{named_field, ScriptCode}
use Rattle.fd_turns.specs.Nodes.{Top, node_space, own, failed_config}
use Rattle.fd_steps.specs.States.{State, with_room, node_of, view_of, IsGood, IsLater}
use Rattle.fd_steps.proofs.DueTurns.{MovesTo, Nothing, runs_then}
use Rattle.fd_steps.proofs.ActTurns as turns
use Rattle.fd_opening.specs.Opened.{IsTop}
use Rattle.fd_opening.proofs.RootLaws.{script_called}
use Rattle.fd_execution.specs.Further.{root_value, IsLast}
use Rattle.fd_execution.proofs.ScopeLaws.{AreAt, block, bound_here, bound_other}
use Rattle.fd_execution.proofs.UntoldLaws.{value_stays, IsUntold, untold_new, untold_later}
use Rattle.fd_execution.proofs.NameLaws.{named_scope, name_other, numbers_of, numbers_long, numbers_ranged, numbers_once, variables_bound, words_bound}
use Rattle.fd_execution.proofs.StatementLaws as single
use Rattle.fd_execution.proofs.CompareLaws.{join_all}
use Rattle.fd_execution.proofs.ItemLaws.{IsScope, IsAt}
use Rattle.fd_execution.proofs.RecordLaws as record_laws
use Rattle.fd_execution.proofs.DistributeLaws as distribute

-- ---- the start

-- nothing was told, and only the root variable was given out
abbrev pub start_state : Store → State
start_state s = record { tells = []; propagators = []; next = 1; variables = []; posted = []; store = s }

-- all domain values, and constraints over them
pub record IsStart (cs : List Constraint) (s : Store) : Type 0 where
  pub over : AreOver cs s
  pub all : (x : ℕ) → x < length s → domain s x ≡ all_values

module _ (t : Top) (cs : List Constraint) (s : Store) (start : IsStart cs s) (plain : IsPlain t.tells []) (named : (x : Ident) → Contains (flat_map named_by t.tells) x → x.space ≡ []) where
  abbrev sees : View
  sees = view_of t (start_state s)

  same_view : sees ≡ t.tells
  same_view = append-nil t.tells

  start_stands : StandsFor sees [] s
  start_stands = record {
    plain = subst (λ ts. IsPlain ts []) (sym same_view) plain;
    once = λ i j d l m. absurd (omega (arith, m));
    fits = omega arith;
    told = λ x l. absurd (omega (arith, l));
    rest = λ x l m. start.all x m;
  }

  start_named : (x : Ident) → Contains (flat_map named_by sees) x → x.space ≡ []
  start_named x c = named x (subst (λ ts. Contains (flat_map named_by ts) x) same_view c)

  pub start_good : IsGood t cs (start_state s)
  start_good = record {
    stands = start_stands;
    over = start.over;
    posts = λ p c. absurd (contains_none p c);
    done = λ c d. absurd (contains_none c d);
    named = λ x c. inl (start_named x c);
    given = λ x c. absurd (contains_none x c);
    above = λ x y a b q. subst (λ ts. Same ts x y) same_view q;
  }

  pub root_untold : IsUntold t (start_state s) 0
  root_untold = record {
    inside = omega arith;
    free = unnamed_free sees (own 0) (λ c. no_top (start_named (own 0) c));
    other = λ c. contains_none (own 0) c;
  } where
    no_top : node_space ≡ [] → ⊥
    no_top e = cc

-- ---- the whole

-- no statement stands inside that of a record
nothing_inside : (x : Identifier) (l : Literal) (fs : List (Constant × Identifier)) → kernel_inside (record_or_label x l fs) ≡ 0
nothing_inside x l [] = refl
nothing_inside x l (f ∷ fs) = refl

-- the names that a script declares are those of its variables, none of them that of its root or of `FD`
pub record IsScript (root : ℕ) (names vs : List ℕ) : Type 0 where
  pub differ : Differ vs
  pub all : (x : ℕ) → x < length vs → Contains names (slice_index_or vs x 0)
  pub root_other : Contains names root → ⊥
  pub fd_other : Contains names fd_word → ⊥
  pub apart : nat_eq root fd_word ≡ false

module _ (k : Kernel) (t : Top) (cs : List Constraint) (top_fits : is_consistent t.tells ≡ true) (R : Configuration → Store → Type 0)
    (back : (c d : Configuration) (s m : Store) → goes_on k.statements c.layers node_space ≡ true → MovesTo k c d → Runs cs s m → R d m → R c s)
    (failing : (c : Configuration) (n : ℕ) (s : Store) → goes_on k.statements c.layers node_space ≡ true → MovesTo k c (failed_config t n) → Fails cs s → R c s) where
  abbrev Ready : State → List Frame → Type 0
  Ready st frames = single.Ready k t cs top_fits R back failing st frames

  module _ (root : ℕ) (names vs : List ℕ) (e : Environment) (script : IsScript root names vs) (l : Literal) (fs : List (Constant × ℕ)) (fields : map (λ (f : Constant × ℕ). f.1) fs ≡ vs)
      (is : List Item) (d : Distribution) (statements : Stmts) (coded : ScriptCode root vs is d statements) where
    abbrev record_then : Stmts
    record_then = followed (record_or_label (Word root) l (map named_field fs)) statements

    abbrev code : Stmts
    code = scoped (map Word names) record_then

    module _ (top : IsTop t root (numbers 0 code) e) (at : AreAt k.statements 0 code) (s : Store) (start : IsStart cs s) (long : length s ≡ length vs + products_in is)
        (items : (i : Item) → Contains is i → IsItem (length vs) i) (among : (c : Constraint) → Contains (constraints_from (length vs) is) c → Contains cs c)
        (reads : (base : List Ident) → length base ≡ length vs → (v : View) (xs : List Ident) → IsPlain v xs → HasValue v (own 0) (root_value l fs base) → vector v (own 0) ≡ Known base) where
      -- the state in which the script distributes
      abbrev Last : State → Frame → Type 0
      Last last f = IsLast k.statements t cs (constraints_from (length vs) is) d l fs (length vs) s last f

      abbrev outer : Environment
      outer = binding_all (Word root ∷ []) (own 0 ∷ []) e

      root_bound : bound outer (Word root) ≡ own 0
      root_bound = bound_here (Word root) (own 0) e

      fd_bound : bound outer (Word fd_word) ≡ named [] fd_number
      fd_bound = bound_other (Word root) (Word fd_word) (own 0) e (λ g. different (nat_eq root fd_word) (other g) script.apart) ∙ top.fd_is where
        same_word : (a b : ℕ) → Word a ≡ Word b → a ≡ b
        same_word a b g = cc

        other : Word fd_word ≡ Word root → nat_eq root fd_word ≡ true
        other g = grind (arith, nat_tests, same_word fd_word root g)

        different : (b : Bool) → b ≡ true → b ≡ false → ⊥
        different b p q = cc

      abbrev first : State
      first = start_state s

      first_good : IsGood t cs first
      first_good = start_good t cs s start top.known.plain top.names

      -- the names are declared, and are the first variables of the search
      module _ (st : State) (h : IsGood t cs st) (on : IsLater t cs Nothing first st) (made : State) (good : IsGood t cs made) (later : IsLater t cs Nothing st made) (room : IsLater t cs Nothing (with_room (length names) st) made)
          (inside : AreAt k.statements 0 record_then) (then : (last : State) (f : Frame) → Last last f → Ready last (f ∷ [])) where
        abbrev inner : Environment
        inner = named_scope names st.next outer

        abbrev js : List ℕ
        js = numbers_of names st.next vs

        abbrev base : List Ident
        base = map own js

        abbrev joined : State
        joined = record made { variables = made.variables ++ base }

        none_yet : made.variables ≡ []
        none_yet = later.variables ∙ on.variables

        base_long : length base ≡ length vs
        base_long = length-map js own ∙ numbers_long names st.next vs script.all

        stored : length made.store ≡ length s
        stored = (let a = (runs_law cs s made.store start.over (runs_then cs on.runs later.runs)).1 in a.long)

        joined_good : IsGood t cs joined
        joined_good =
            join_all t cs js made good
            (λ j c.
            let r = numbers_ranged names st.next vs script.all j c in
            let back' : st.next + (j - st.next) ≡ j = omega (arith, r.0) in
            subst (IsUntold t made) back' (untold_new t cs st made (length names) (j - st.next) h room (omega (arith, r.0, r.1))))
            (numbers_once names st.next vs script.all script.differ)
            (let a = ap length none_yet in let b = numbers_long names st.next vs script.all in let c = stored in omega (arith, a, b, c, long))

        joined_variables : joined.variables ≡ base
        joined_variables = ap (λ xs. xs ++ base) none_yet

        scope : IsScope root vs base inner
        scope = record {
          differ = script.differ;
          long = base_long;
          words = variables_bound names st.next vs script.all outer;
          root_is = name_other names st.next root outer script.root_other ∙ root_bound;
          fd_is = name_other names st.next fd_word outer script.fd_other ∙ fd_bound;
        }

        root_still : IsUntold t joined 0
        root_still =
            let u = untold_later t cs Nothing st made 0 (untold_later t cs Nothing first st 0 (root_untold t cs s start top.known.plain top.names) on (λ z. z)) later (λ z. z) in
            record {
              inside = u.inside;
              free = u.free;
              other = λ c. (
                  let r = contains_mapped own js (own 0) (subst (λ xs. Contains xs (own 0)) joined_variables c) in
                  let w = numbers_ranged names st.next vs script.all r.0 r.1 in
                  let same : r.0 ≡ 0 = ap (λ (x : Ident). x.number) r.2 in
                  let old = on.next in
                  absurd (omega (arith, w.0, same, old)));
            }

        all_bound : map (λ w. bound inner (Word w)) (map (λ (f : Constant × ℕ). f.1) fs) ≡ joined.variables
        all_bound = ap (map (λ w. bound inner (Word w))) fields ∙ words_bound names st.next outer vs member ∙ sym joined_variables where
          member : (w : ℕ) → Contains vs w → Contains names w
          member w c = (let there = script.all c.0 c.1 in subst (Contains names) (sym (any_default vs c.0 w 0 c.1) ∙ c.2) there) where
            any_default : (xs : List ℕ) (i d e : ℕ) → i < length xs → slice_index_or xs i d ≡ slice_index_or xs i e
            any_default [] i d e m = absurd (omega (arith, m))
            any_default (x ∷ xs) zero d e m = refl
            any_default (x ∷ xs) (suc i) d e m = any_default xs i d e (omega (arith, m))

        abbrev rv : Value
        rv = root_value l fs base

        at_first : (q : State) → IsLater t cs (λ j. j ≡ 0) joined q → HasValue (view_of t q) (own 0) (root_value l fs joined.variables) → IsAt t base rv (length vs) q
        at_first q l1 v = record {
          more = [];
          variables = l1.variables ∙ joined_variables ∙ sym (append-nil base);
          many = ap length (l1.variables ∙ joined_variables) ∙ base_long;
          rooted = subst (λ xs. HasValue (view_of t q) (own 0) (root_value l fs xs)) joined_variables v;
        }

        behind_record : AreAt k.statements 1 statements
        behind_record =
            let s' = record_or_label (Word root) l (map named_field fs) in
            let more : 0 + suc (kernel_inside s') ≡ 1 = (let e' = nothing_inside (Word root) l (map named_field fs) in omega (arith, e')) in
            subst (λ n. AreAt k.statements n statements) more (split_statement k.statements s' statements 0 inside).2

        inside_ready : Ready made (block inner 0 record_then [])
        inside_ready =
            record_laws.record_ready k t cs top_fits R back failing joined joined_good inner [] 0 root scope.root_is root_still l statements fs all_bound inside
            (λ q good1 l1 v.
            let at = at_first q l1 v in
            let all_runs = runs_then cs (runs_then cs on.runs later.runs) l1.runs in
            let room1 = (runs_law cs s q.store start.over all_runs).1 in
            let y1 = top.distinct in
            let y2 = top.distribute in
            distribute.script_ready k t cs top_fits R back failing root vs base rv inner scope (reads base base_long) top.fd_told y2.variable y2.top y2.told y2.finds [] y1.variable y1.top y1.told y1.finds (λ x. refl)
            (length vs) q good1 at 1 is d statements coded behind_record (let a = room1.long in omega (arith, a, long)) items among
            (λ last f good2 far dist. then last f (record {
              base = base;
              more = far.more;
              good = good2;
              variables = far.variables ∙ ap (λ xs. xs ++ far.more) (l1.variables ∙ joined_variables);
              count = base_long;
              rooted = value_stays (view_of t q) (view_of t last) (own 0) rv far.keeps at.rooted;
              posted = λ c i. far.posted c (inr i);
              distributes = dist;
              runs = runs_then cs all_runs far.runs;
            })))

      -- the script comes to what is shown, where each state in which it distributes does
      pub script_ready : ((last : State) (f : Frame) → Last last f → Ready last (f ∷ [])) → Ready first (applying script_variable (own 0) ∷ [])
      script_ready then =
          let f = applying script_variable (own 0) in
          let gs = frames_of outer (numbers 0 code) in
          let plain = (let s' = first_good.stands in s'.plain) in
          let answer = script_called k.statements t root (numbers 0 code) e top (node_of first []) [] [] plain in (
            turns.acts_plain k t cs top_fits R back failing first (f ∷ []) (GoesOn gs) answer,
            λ rests. turns.proceeds k t cs top_fits R back failing Nothing first first_good f [] rests gs answer
                (λ st h on. record_laws.names_ready k t cs top_fits R back failing st h outer [] 0 names record_then at
                (λ made good later room inside. inside_ready st h on made good later room inside then)),
          )
