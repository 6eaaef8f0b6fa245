-- The top at which a program with a script comes to rest, and the root of its search.
use Rattle.std.proofs.Common.{◌≡◌, ℕ, suc, ◌+◌, ◌-◌, List, [], ◌∷◌, ◌++◌, Contains, None, Some, slice_get, refl, sym, ◌∙◌, ap, subst}
use Rattle.std.proofs.lemmas.List.{append-nil}
use Rattle.std.proofs.lemmas.List.Elements.{Contains-append_right}
use Rattle.environments.specs.Environments.{Environment, bound, binding_all}
use Rattle.oz_base.specs.declared.names.Ident.{Ident}
use Rattle.oz_language.specs.declared.kernel.Identifier.TheVariants.{Word}
use Rattle.oz_language.specs.declared.kernel.Statement.{Statement}
use Rattle.oz_language.specs.declared.kernel.Statement.TheVariants.{BindProcedure}
use Rattle.oz_language.specs.declared.kernel.Kernel.{Kernel}
use Rattle.oz_semantics.specs.Names.{named}
use Rattle.oz_semantics.specs.Store.{itself, is_consistent}
use Rattle.oz_semantics.specs.Configurations.{frames_of, spawning, applying}
use Rattle.oz_semantics.specs.Answers.{Acts, GoesOn, given}
use Rattle.oz_semantics.specs.Statements.{value_called}
use Rattle.oz_semantics.specs.Settling.{queue_after, settled}
use Rattle.oz_semantics.specs.Schedule.{turn}
use Rattle.oz_semantics.specs.Runs.{Ended, fd_number, top_layer, left_by, opening, run}
use Rattle.oz_semantics.specs.Search.{script_variable, with_root}
use Rattle.oz_semantics.specs.declared.value.Value.{Value}
use Rattle.oz_semantics.specs.declared.value.Value.TheVariants as value
use Rattle.oz_semantics.specs.declared.value.Tell.{Tell}
use Rattle.oz_semantics.specs.declared.value.Tell.TheVariants.{Is}
use Rattle.oz_semantics.specs.declared.configuration.Frame.{Frame}
use Rattle.oz_semantics.specs.declared.configuration.Next.{Next}
use Rattle.oz_semantics.specs.declared.configuration.Thread.{Thread}
use Rattle.oz_semantics.specs.declared.configuration.Configuration.{Configuration}
use Rattle.oz_semantics.specs.declared.outcome.Stepped.TheVariants.{Moved}
use Rattle.view_laws.specs.Readies.{seeing}
use Rattle.fd_stores.proofs.Lists.{contains_none, contains_head}
use Rattle.fd_views.specs.Views.{IsPlain}
use Rattle.fd_views.proofs.ValueLaws.{value_is, value_more}
use Rattle.fd_form.specs.Parts.{script_word}
use Rattle.fd_turns.specs.Nodes.{Top, Node, node_space, own, seen, answered, config}
use Rattle.fd_turns.proofs.SettleLaws.{IsPlainAnswer}
use Rattle.fd_turns.proofs.ChoiceLaws.{first_node, top_alone, root_is}
use Rattle.fd_opening.specs.Opened.{IsTop, Begins}
use Rattle.fd_opening.proofs.ValueTells.{FieldsTop}
use Rattle.fd_opening.proofs.TopLaws.{alone, top_thread, settled_alone, can_run, runs_on, turn_is, rests_alone, turn_ends, one_turn}
use Rattle.fd_opening.proofs.OpeningLaws.{opening_tells, opening_scope, opening_fits, opening_is, script_is, fd_is, with_script, script_fits, script_plain, script_known, script_named, fd_told, row_told, distinct_told, distribute_told, distinct_found, distribute_found}

-- ---- the call of the script

module _ (statements : List Statement) (t : Top) (root : ℕ) (body : List ℕ) (e : Environment) (h : IsTop t root body e) where
  abbrev script : Value
  script = value.Procedure (record { name = h.script.0; parameters = Word root ∷ []; body = body; environment = e })

  -- where no variable has a domain, and equal variables one value at most, it goes on with the body, in which the parameter is the root
  -- variable
  pub script_called : (s : Node) (rest : List Frame) (xs : List Ident) → IsPlain (seen t s) xs → answered statements t (record s { frames = applying script_variable (own 0) ∷ rest }) ≡ Acts (GoesOn (frames_of (binding_all (Word root ∷ []) (own 0 ∷ []) e) body))
  script_called s rest xs plain =
      ap (λ o. given script_variable o (value_called (seeing statements node_space (seen t s)) (own 0 ∷ [])))
      (value_is (seen t s) xs script_variable script plain (value_more t.tells s.tells script_variable script (record { variable = script_variable; equal = itself; told = h.script.1 })))

-- ---- the top

module _ (k : Kernel) (root : ℕ) (body : List ℕ) (number : ℕ) (starts : k.body ≡ number ∷ []) (here : slice_get k.statements number ≡ Some (BindProcedure (Word script_word) (Word root ∷ []) body)) where
  abbrev made : Value
  made = value.Procedure (record { name = named [] 1; parameters = Word root ∷ []; body = body; environment = opening_scope })

  made_top : FieldsTop made
  made_top y c = absurd (contains_none y c)

  abbrev told : List Tell
  told = with_script made

  script_there : Contains told (Is script_variable made)
  script_there = Contains-append_right opening_tells (Is script_variable made ∷ []) (Is script_variable made) (contains_head (Is script_variable made) [])

  -- its next numbers, before and after
  abbrev open_next : Next
  open_next = record { variable = 1 + fd_number; thread = 2; procedure = 1; name = 1; child = 1 }

  abbrev script_next : ℕ → Next
  script_next child = record { variable = 1 + fd_number; thread = 2; procedure = 2; name = 1; child = child }

  abbrev open_threads : List Thread
  open_threads = record { number = 1; frames = frames_of opening_scope (number ∷ []) } ∷ []

  abbrev script_top : ℕ → Top
  script_top child = record { tells = told; next = script_next child }

  opened : opening k ≡ alone opening_tells open_threads open_next (top_thread ∷ [])
  opened =
      opening_is k
      ∙ ap (λ ns. left_by (settled k.statements None 0 (record { layers = spawning (frames_of opening_scope ns) (record top_layer { tells = opening_tells }) ∷ []; queue = []; shown = [] }))) starts
      ∙ ap left_by (settled_alone k.statements opening_tells open_threads open_next opening_fits None 0 [])
      ∙ ap (λ ids. alone opening_tells open_threads open_next (queue_after ids None [])) (can_run k opening_tells opening_scope number (Word script_word) (Word root ∷ []) body here (1 + fd_number) 2 1 1 1)

  told_at : opening_tells ++ Is (bound opening_scope (Word script_word)) made ∷ [] ≡ told
  told_at = ap (λ x. opening_tells ++ Is x made ∷ []) script_is

  turned : turn k (alone opening_tells open_threads open_next (top_thread ∷ [])) ≡ (Moved 1, top_alone (script_top 1))
  turned =
      turn_is k opening_tells opening_scope number (Word script_word) (Word root ∷ []) body here (1 + fd_number) 2 1 1 1 (ap is_consistent told_at ∙ script_fits made made_top)
      ∙ ap (λ ts. (Moved 1, alone ts [] (script_next 1) [])) told_at

  top_is : (budget left : ℕ) (top : Configuration) → run k [] (opening k) budget ≡ Ended top left → top_alone (script_top 1) ≡ top
  top_is budget left top ran =
      one_turn k (alone opening_tells open_threads open_next (top_thread ∷ [])) (top_alone (script_top 1)) budget left top
      (runs_on k opening_tells opening_scope number (Word script_word) (Word root ∷ []) body here (1 + fd_number) 2 1 1 1) turned (rests_alone k.statements told (script_next 1))
      (ap (λ c. run k [] c budget) (sym opened) ∙ ran)

  -- it comes to rest there in one step
  pub rests : (b : ℕ) → run k [] (opening k) (suc b) ≡ Ended (top_alone (script_top 1)) (suc b - 1)
  rests b =
      ap (λ c. run k [] c (suc b)) opened
      ∙ turn_ends k (alone opening_tells open_threads open_next (top_thread ∷ [])) (top_alone (script_top 1)) b
      (runs_on k opening_tells opening_scope number (Word script_word) (Word root ∷ []) body here (1 + fd_number) 2 1 1 1) turned (rests_alone k.statements told (script_next 1))

  is_top : IsTop (script_top 2) root body opening_scope
  is_top = record {
    known = record { fits = script_fits made made_top; plain = script_plain made made_top; known = script_known made made_top };
    names = script_named made made_top;
    script = (named [] 1, script_there);
    fd_told = fd_told made made_top;
    distinct = record { variable = named [] 35; top = refl; told = row_told made made_top _ distinct_told; finds = distinct_found };
    distribute = record { variable = named [] 36; top = refl; told = row_told made made_top _ distribute_told; finds = distribute_found };
    fd_is = fd_is;
  }

  root_plain : IsPlain (seen (script_top 2) (first_node script_variable)) []
  root_plain = subst (λ ts. IsPlain ts []) (sym (append-nil told)) (script_plain made made_top)

  begun : with_root k.statements script_variable (top_alone (script_top 1)) ≡ config k.statements (script_top 2) (first_node script_variable)
  begun =
      root_is k script_variable told (1 + fd_number) 2 2 1 (script_fits made made_top) (ap is_consistent (append-nil told) ∙ script_fits made made_top)
      (subst IsPlainAnswer (sym (script_called k.statements (script_top 2) root body opening_scope is_top (first_node script_variable) [] [] root_plain)) tt)

  pub begins : (budget left : ℕ) (top : Configuration) → run k [] (opening k) budget ≡ Ended top left → Begins k root body top
  begins budget left top ran =
      let e = top_is budget left top ran in
      subst (Begins k root body) e (record {
        top = script_top 2;
        environment = opening_scope;
        is_top = is_top;
        space = refl;
        quiet = refl;
        begins = begun;
      })
