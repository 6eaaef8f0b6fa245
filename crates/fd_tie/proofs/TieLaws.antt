-- The tie of a script's run to the search of its problem.
use Rattle.std.proofs.Common.{◌≡◌, ℕ, ◌+◌, ◌<◌, ◌≤◌, true, List, [], ◌∷◌, ◌++◌, codes, length, map, replicate, Contains, All, refl, sym, ◌∙◌, ap, subst, arith}
use Rattle.std.proofs.lemmas.List.{length-append, length-map, length-replicate, get_or-replicate}
use Rattle.std.proofs.lemmas.List.Elements.{All-weaker}
use Rattle.std.specs.List.{range_with_len}
use Rattle.std.specs.FinSet as set
use Rattle.environments.specs.Environments.{Environment, nowhere}
use Rattle.oz_base.specs.declared.names.Ident.{Ident}
use Rattle.oz_domains.specs.Positions.{all_single}
use Rattle.oz_language.specs.Refusals.{Program}
use Rattle.oz_language.specs.Wording.{bar_word}
use Rattle.oz_language.specs.declared.kernel.Constant.{Constant}
use Rattle.oz_language.specs.declared.kernel.Identifier.TheVariants.{Word}
use Rattle.oz_language.specs.declared.kernel.Kernel.{Kernel}
use Rattle.oz_language.specs.Kernels.{Stmts, followed, just, word_text, numbers, numbered, ◌⨾◌}
use Rattle.oz_language.specs.Kernels as kernel
use Rattle.oz_language.specs.Translation.{Made, translated_each, scoped, record_or_label, statements_of, kernel_of}
use Rattle.oz_language.specs.SimpleTexts.{form_of, is_bars}
use Rattle.oz_semantics.specs.Store.{View}
use Rattle.oz_semantics.specs.Inputs.{Known}
use Rattle.oz_semantics.specs.Vectors.{vector}
use Rattle.oz_semantics.specs.Configurations.{applying}
use Rattle.oz_semantics.specs.Spaces.{goes_on}
use Rattle.oz_semantics.specs.Texts.{term_text}
use Rattle.oz_semantics.specs.Search.{script_variable, with_root, search_space}
use Rattle.oz_semantics.specs.declared.configuration.Frame.{Frame}
use Rattle.oz_semantics.specs.declared.configuration.Configuration.{Configuration}
use Rattle.text_laws.proofs.OwnWords.{words_stand}
use Rattle.text_laws.specs.Laws.{AreWords}
use Rattle.fd_stores.specs.Stores.{Store, Constraint, Runs, Fails}
use Rattle.fd_stores.proofs.RunLaws.{runs_law}
use Rattle.propagators.proofs.StepLaws.{parts_refl}
use Rattle.fd_trees.specs.Trees.{Tree}
use Rattle.fd_problems.specs.declared.problem.Item.{Item}
use Rattle.fd_trees.specs.Scripts.{IsProblem, IsItem, constraints, constraints_from, products_in, start, tuple_at}
use Rattle.fd_trees.proofs.ScriptLaws as scripts
use Rattle.fd_nodes.specs.Nodes.{ShowsTree}
use Rattle.fd_views.specs.Views.{variables_at, all_values, IsPlain, HasValue}
use Rattle.fd_form.specs.declared.script.FdScript.{FdScript}
use Rattle.fd_form.specs.FdScripts.{answer_text}
use Rattle.fd_form.specs.Parts.{script_word, fd_word}
use Rattle.fd_form_law.specs.Laws.{Shows, shown, Tie}
use Rattle.fd_form_law.specs.Shapes.{IsShaped}
use Rattle.fd_form_law.proofs.ProgramLaws.{form_is_problem}
use Rattle.fd_form_law.proofs.AnswerLaws.{tie_suffices}
use Rattle.fd_form_law.specs.FdCompleteness.{FdReply}
use Rattle.fd_form_law.proofs.ShapeLaws.{scripts_shaped}
use Rattle.fd_form_law.proofs.VariableLaws.{names_all, names_other}
use Rattle.fd_codes.specs.Codes.{named_field, ScriptCode}
use Rattle.fd_codes.proofs.RecordCodes.{record_code}
use Rattle.fd_codes.proofs.StatementCodes.{scripts_coded}
use Rattle.fd_turns.specs.Nodes.{Top, node_space, own, config, failed_config}
use Rattle.fd_steps.specs.States.{State, node_of, view_of, IsGood}
use Rattle.fd_steps.proofs.DueTurns.{MovesTo}
use Rattle.fd_opening.specs.Opened.{IsTop, Begins}
use Rattle.fd_opening.proofs.ScriptLaws.{script_begins, body_stands}
use Rattle.fd_execution.specs.Further.{root_value, IsLast}
use Rattle.fd_execution.proofs.ItemLaws.{all_in_front, range_below, base_is}
use Rattle.fd_execution.proofs.StatementLaws.{Ready}
use Rattle.fd_execution.proofs.ScopeLaws.{AreAt}
use Rattle.fd_execution.proofs.ScriptLaws.{start_state, IsStart, IsScript, script_ready}
use Rattle.fd_search.specs.Laws.{Setting, IsSearched, Stands, Arrives, StepsTo, ShowsSearch}
use Rattle.fd_search.proofs.TextLaws.{texts_law}
use Rattle.fd_search.proofs.BackLaws as back_laws
use Rattle.fd_search.proofs.OfferLaws.{plain_here}
use Rattle.fd_search.proofs.RunLaws.{full_stands, run_law}
use Rattle.fd_search.proofs.TreeLaws.{tree_law}
use Rattle.fd_tie.proofs.ReadLaws.{root_reads, root_text}

-- ---- a script, its kernel and its top

module _ (p : Program) (s : FdScript) (h : IsShaped p s) (problem : IsProblem s.problem) (bar : word_text p.words bar_word ≡ codes "|") where
  abbrev pub fields : List (Constant × ℕ)
  fields = (h.recorded).fields

  abbrev vs : List ℕ
  vs = s.variables

  abbrev pub count : ℕ
  count = s.problem.count

  abbrev cs : List Constraint
  cs = constraints s.problem

  abbrev items : List Item
  items = s.problem.items

  abbrev pub first : Store
  first = start s.problem

  abbrev pub k : Kernel
  k = kernel_of p

  abbrev statements : Stmts
  statements = (translated_each p.words 1 h.statements).code

  abbrev pub body : Stmts
  body = scoped (map Word h.names) (followed (record_or_label (Word h.root) s.label (map named_field fields)) statements)

  pub fields_long : length fields ≡ count
  fields_long = (let r = h.recorded in sym (length-map fields (λ (f : Constant × ℕ). f.1)) ∙ ap length r.variables ∙ sym h.count)

  -- its code
  pub code_is : statements_of p ≡ just (kernel.bind_procedure (Word script_word) (Word h.root ∷ []) body)
  code_is =
      let r = h.recorded in
      h.code ∙ ap (λ (m : Made). just (kernel.bind_procedure (Word script_word) (Word h.root ∷ []) (scoped (map Word h.names) (m.code ⨾ (translated_each p.words m.next h.statements).code))))
      (record_code p.words h.answer s.label fields r.read (Word h.root) 1)

  coded : ScriptCode h.root vs items s.problem.distribution statements
  coded = scripts_coded p.words h.root vs 1 h.statements items s.problem.distribution h.states

  words_are : k.words ≡ p.words
  unfolding kernel_of
  words_are = refl

  script : IsScript h.root h.names vs
  script =
      let others = names_other h.root script_word fd_word h.names h.apart in
      record {
        differ = h.different;
        all = names_all (h.root ∷ script_word ∷ fd_word ∷ []) h.names vs h.apart h.declared;
        root_other = others.0;
        fd_other = others.1;
        apart = h.other;
      }

  -- its start
  start_long : length first ≡ count + products_in items
  start_long = length-replicate (count + products_in items) all_values

  begin : IsStart cs first
  begin = record {
    over = scripts.over s.problem problem;
    all = λ x l. get_or-replicate (count + products_in items) x all_values set.empty (let e = start_long in omega (arith, l, e));
  }

  -- its record, as a vector
  reads : (base : List Ident) → length base ≡ length vs → (v : View) (xs : List Ident) → IsPlain v xs → HasValue v (own 0) (root_value s.label fields base) → vector v (own 0) ≡ Known base
  reads base e =
      let r = h.recorded in
      root_reads p.words bar s.label fields (own 0) base (e ∙ sym h.count ∙ sym fields_long) (ap (λ fs. is_bars (form_of p.words s.label fs)) r.features ∙ r.no_cell)

  module _ (t : Top) (e0 : Environment) (top : IsTop t h.root (numbers 0 body) e0) where
    -- ---- the search, over these variables, of which the first are those of the problem

    abbrev pub its : List Ident → List Ident → Setting
    its base more = record {
      kernel = k;
      top = t;
      constraints = cs;
      distribution = s.problem.distribution;
      start = first;
      variables = base ++ more;
      root = root_value s.label fields base;
      shown = λ m. answer_text p.words s (tuple_at s.problem m);
    }

    module _ (base more : List Ident) (long : length base ≡ count) where
      base_at : variables_at (base ++ more) (range_with_len 0 count) ≡ base
      base_at =
          let below : All (λ x. x < length base) (range_with_len 0 count) = range_below (length base) 0 count (omega (arith, long)) in
          all_in_front base more (range_with_len 0 count) below
          ∙ ap (λ n. variables_at base (range_with_len 0 n)) h.count ∙ base_is vs base (long ∙ h.count)

      text : (st : State) → IsGood t cs st → st.variables ≡ base ++ more → HasValue (view_of t st) (own 0) (root_value s.label fields base) → all_single st.store ≡ true
          → (term_text k.words (view_of t st) (own 0)).bytes ≡ answer_text p.words s (tuple_at s.problem st.store)
      text st good same has single =
          let r = h.recorded in
          let stands = good.stands in
          let joined = length-append base more in
          let variables_long : length st.variables ≡ length base + length more = ap length same ∙ joined in
          let stored : count ≤ length st.store = (let f = stands.fits in omega (arith, f, variables_long, long)) in
          let inside = range_below (length st.variables) 0 count (omega (arith, variables_long, long)) in
          let here : base ≡ variables_at st.variables (range_with_len 0 count) = sym base_at ∙ ap (λ xs. variables_at xs (range_with_len 0 count)) (sym same) in
          ap (λ ws. (term_text ws (view_of t st) (own 0)).bytes) words_are
          ∙ root_text p.words s (view_of t st) st.variables st.store (own 0) (texts_law p.words (view_of t st) st.variables st.store (own 0) stands) count single stored inside fields fields_long r.features
          (subst (λ xs. HasValue (view_of t st) (own 0) (root_value s.label fields xs)) here has)

      pub searched : IsSearched (its base more)
      searched = record {
        known = top.known;
        search = scripts.search s.problem problem;
        inside = All-weaker (λ x. x < count) (λ x. x < length (base ++ more)) (λ x l. (let e = length-append base more in omega (arith, l, e, long))) s.problem.distribution.over problem.over;
        follows = scripts.follows s.problem problem;
        text = text;
      }

    last_stands : (last : State) (f : Frame) (w : IsLast k.statements t cs (constraints_from (length vs) items) s.problem.distribution s.label fields (length vs) first last f)
        → Stands (its w.base w.more) (config k.statements t (node_of last (f ∷ []))) last.store
    last_stands last f w = record {
      state = last;
      frame = f;
      good = w.good;
      distributes = w.distributes;
      posted = λ c i. w.posted c (subst (λ n. Contains (constraints_from n items) c) h.count i);
      parts = (runs_law cs first last.store (scripts.over s.problem problem) w.runs).1;
      variables = w.variables;
      rooted = w.rooted;
      here = refl;
      store = refl;
    }

    -- the space calls the script
    abbrev root_frames : List Frame
    root_frames = applying script_variable (own 0) ∷ []

    abbrev pub begins : Configuration
    begins = config k.statements t (node_of (start_state first) root_frames)

    -- ---- what is shown of the run of the space, over some such variables

    module _ (A : List Ident → List Ident → Configuration → Store → Type 0)
        (before : (base more : List Ident) (c d : Configuration) (a m : Store) → StepsTo k c d → Runs cs a m → A base more d m → A base more c a)
        (fails : (base more : List Ident) (c : Configuration) (n : ℕ) (a : Store) → StepsTo k c (failed_config t n) → Fails cs a → A base more c a)
        (runs : (base more : List Ident) (c : Configuration) (a : Store) → length base ≡ count → IsSearched (its base more) → Stands (its base more) c a → A base more c a)
        (stand : AreAt k.statements 0 body) where
      abbrev R : Configuration → Store → Type 0
      R c m = (base : List Ident) × (more : List Ident) × (length base ≡ count) × A base more c m

      back : (c d : Configuration) (a m : Store) → goes_on k.statements c.layers node_space ≡ true → MovesTo k c d → Runs cs a m → R d m → R c a
      back c d a m g moves r q = (q.0, q.1, q.2, before q.0 q.1 c d a m (g, moves) r q.3)

      failing : (c : Configuration) (n : ℕ) (a : Store) → goes_on k.statements c.layers node_space ≡ true → MovesTo k c (failed_config t n) → Fails cs a → R c a
      failing c n a g moves f = (replicate count nowhere, [], length-replicate count nowhere, fails (replicate count nowhere) [] c n a (g, moves) f)

      -- ---- from where the script distributes

      last_ready : (last : State) (f : Frame) → IsLast k.statements t cs (constraints_from (length vs) items) s.problem.distribution s.label fields (length vs) first last f → Ready k t cs top.known.fits R back failing last (f ∷ [])
      unfolding last_stands
      last_ready last f w =
          let long : length w.base ≡ count = w.count ∙ sym h.count in
          let its' = its w.base w.more in
          let stands = last_stands last f w in
          let is_searched = searched w.base w.more long in (
            plain_here its' is_searched last (full_stands its' (config k.statements t (node_of last (f ∷ []))) last.store stands) f w.distributes,
            λ rests. (w.base, w.more, long, runs w.base w.more (config k.statements t (node_of last (f ∷ []))) last.store long is_searched stands),
          )

      -- ---- from the call of the script

      pub arrives : R begins first
      arrives =
          let items_fit : (i : Item) → Contains items i → IsItem (length vs) i = λ i c. subst (λ n. IsItem n i) h.count (problem.items i c) in
          let among : (c : Constraint) → Contains (constraints_from (length vs) items) c → Contains cs c = λ c i. subst (λ n. Contains (constraints_from n items) c) (sym h.count) i in
          let long : length first ≡ length vs + products_in items = start_long ∙ ap (λ n. n + products_in items) h.count in
          (script_ready k t cs top.known.fits R back failing h.root h.names vs e0 script s.label fields (let r = h.recorded in r.variables) items s.problem.distribution statements coded top stand first begin long items_fit among reads last_ready).1 refl

    -- ---- the search for all leaves

    shows_search : (base more : List Ident) → length base ≡ count → Arrives (its base more) begins first → ShowsSearch (its base more) begins first
    shows_search base more long a =
        let over = scripts.over s.problem problem in
        tree_law (its base more) begins first (searched base more long) (parts_refl first) over.domains a

    all_arrive : AreAt k.statements 0 body → (base : List Ident) × (more : List Ident) × (length base ≡ count) × Arrives (its base more) begins first
    all_arrive =
        arrives (λ base more. Arrives (its base more)) (λ base more. back_laws.back (its base more)) (λ base more. back_laws.failing (its base more)) (λ base more c a long. run_law (its base more) c a)

  -- ---- the tie

  module _ (top : Configuration) (b : Begins k h.root (numbers 0 body) top) (stand : AreAt k.statements 0 body) where
    abbrev root : Configuration
    root = begins b.top b.environment b.is_top

    shows_at : (tree : Tree) (steps : ℕ) → ShowsTree k node_space (shown p.words s) root tree steps → ShowsTree k (search_space top) (shown p.words s) (with_root k.statements script_variable top) tree steps
    shows_at tree steps w =
        subst (λ c. ShowsTree k (search_space top) (shown p.words s) c tree steps) (sym b.begins)
        (subst (λ sp. ShowsTree k sp (shown p.words s) root tree steps) (sym b.space) w)

    pub shows : Shows p.words s k top
    shows =
        let a = all_arrive b.top b.environment b.is_top stand in
        let w = shows_search b.top b.environment b.is_top a.0 a.1 a.2 a.3 in
        record { tree = w.tree; is_tree = w.is_tree; steps = w.steps; shows = shows_at w.tree w.steps w.shows; quiet = b.quiet }

pub tie : Tie
tie text p s budget left top acc e ran =
    let h = scripts_shaped p s e in
    let problem = form_is_problem p s acc.derived.program e in
    let words = subst AreWords (sym acc.words) (words_stand text acc.lexemes) in
    let bar : word_text p.words bar_word ≡ codes "|" = ap (λ ws. word_text ws bar_word) words.given in
    let code = code_is p s h problem bar in
    let whole = body p s h problem bar in
    shows p s h problem bar top (script_begins p h.root whole code budget left top ran) (body_stands p h.root whole code)

-- so what is written of a script is the lines of its answers
pub fd_reply : FdReply
fd_reply = (tie_suffices form_is_problem).reply tie
