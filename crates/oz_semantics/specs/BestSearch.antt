-- Best search by branch and bound (Schulte, LNCS 2302, on search; CTM 12.4): a space that is committed to an alternative is told
-- besides that its cost is below a bound. The cost is a field of the root variable.
use Rattle.std.specs.Prelude.{ℕ, ℤ, pos, ◌-ℤ◌, List, [], Option, Some, None, option_map}
use Rattle.std.specs.Int.{int_min, int_max}
use Rattle.std.specs.Option.{option_and_then, option_to_list}
use Rattle.oz_base.specs.declared.names.Ident.{Ident}
use Rattle.oz_base.specs.declared.interval.Interval.{Interval}
use Rattle.oz_base.specs.declared.interval.TheConstants.{LEAST_VALUE, GREATEST_VALUE}
use Rattle.oz_language.specs.declared.kernel.Constant.{Constant}
use Rattle.oz_language.specs.declared.kernel.Kernel.{Kernel}
use Rattle.oz_language.specs.declared.kernel.Statement.{Statement}
use Rattle.oz_search.specs.Trees.{Tree, report}
use Rattle.oz_search.specs.Nodes.{Reached, Maker, Fuelled, tree}
use Rattle.oz_search.specs.Best.{best, cost_by}
use Rattle.oz_search.specs.declared.best.Bounded.{Bounded}
use Rattle.oz_search.specs.declared.best.Costed.{Costed}
use Rattle.oz_search.specs.declared.leaf.Outcome.{Outcome}
use Rattle.oz_search.specs.declared.tree.Kind.{Kind}
use Rattle.oz_search.specs.declared.tree.Kind.TheVariants as kinds
use Rattle.oz_semantics.specs.Names.{root_of}
use Rattle.oz_semantics.specs.Values.{integer_in, fields_of}
use Rattle.oz_semantics.specs.Store.{View, value_of}
use Rattle.oz_semantics.specs.Builtins.{arity_in, field_at, interval_news}
use Rattle.oz_semantics.specs.Configurations.{view, in_layer, telling}
use Rattle.oz_semantics.specs.Edits.{committed}
use Rattle.oz_semantics.specs.Search.{script_variable, followed, with_root, search_space, node_at}
use Rattle.oz_semantics.specs.declared.value.Value.{Value}
use Rattle.oz_semantics.specs.declared.value.Tell.{Tell}
use Rattle.oz_semantics.specs.declared.configuration.Layer.{Layer}
use Rattle.oz_semantics.specs.declared.configuration.Configuration.{Configuration}

-- The field of the root variable at a feature, as the space sees it

abbrev pub field_of : Constant → Value → Option Ident
field_of feature v = option_and_then (λ features. field_at features (fields_of v) feature) (arity_in v)

abbrev pub root_field : View → List ℕ → Constant → Option Ident
root_field view space feature = option_and_then (field_of feature) (value_of view (root_of space))

-- the integer at it
abbrev pub field_in : View → List ℕ → Constant → Option ℤ
field_in view space feature = option_and_then (λ x. option_and_then integer_in (value_of view x)) (root_field view space feature)

-- Bounds

-- the domain values below a bound; an empty interval where there are none
abbrev pub values_below : ℤ → Interval
values_below bound = record { low = LEAST_VALUE; high = int_min (int_max bound LEAST_VALUE -ℤ pos 1) GREATEST_VALUE }

-- what a space is told of its cost: that it is below the bound, as far as that is news
abbrev pub bound_tells : View → List ℕ → Constant → Option ℤ → List Tell
bound_tells view space feature None = []
bound_tells view space feature (Some bound) = interval_news view (option_to_list (root_field view space feature)) (values_below bound)

-- the space is told that, where there is a bound
abbrev pub told_below : List ℕ → Constant → Option ℤ → List Layer → List Layer
told_below space feature bound layers = in_layer space (telling (bound_tells (view layers space) space feature bound)) layers

-- the space committed to the alternative of a branch and told its bound, and then what follows a step: where no value that the cost
-- may have is below the bound, the space fails
abbrev pub chosen_below : List Statement → List ℕ → Constant → Bounded → Configuration → Configuration
chosen_below statements space feature b c = followed statements c (told_below space feature b.bound (committed statements space b.alternative c.layers))

-- Nodes

-- a solved leaf with its cost, as the configuration in which it has stopped has it
abbrev pub costed_kind : Option ℤ → Kind Outcome → Kind Costed
costed_kind cost (kinds.Alternatives n) = kinds.Alternatives n
costed_kind cost (kinds.End outcome) = kinds.End (record { outcome = outcome; cost = cost_by outcome cost })

abbrev pub costed : List ℕ → Constant → Reached Configuration Outcome → Reached Configuration Costed
costed space feature r =
    record { config = r.config; report = report (costed_kind (field_in (view r.config.layers space) space feature) r.report.kind) r.report.steps }

-- the machine makes the nodes of a best search
abbrev pub best_maker : Kernel → List ℕ → Constant → Maker Bounded Costed Configuration
best_maker k space feature =
    record { run = λ fuel c. option_map (costed space feature) (node_at k space fuel c); commit = chosen_below k.statements space feature }

-- the tree below a configuration in which the space was just made, as far as each node takes no more steps than the fuel
abbrev pub best_tree : Kernel → List ℕ → Constant → Configuration → ℕ → Tree Bounded Costed
best_tree k space feature c fuel = tree best (best_maker k space feature) fuel c

-- the tree of the script, where the top has come to rest
abbrev pub script_best : Kernel → Constant → Configuration → Fuelled Bounded Costed
script_best k feature c = best_tree k (search_space c) feature (with_root k.statements script_variable c)
