use Rattle.std.proofs.Common.{sym, ap, ◌∙◌, ◌++◌, List, option_map, option_copied, arith}
use Rattle.oz_base.specs.declared.names.Ident.{Ident}
use Rattle.oz_raise.specs.Nodes.{node_of, term_of}
use Rattle.oz_semantics.specs.Terms.{read_term}
use Rattle.operations.proofs.ReadLaws.{all_read, limit_reached, place_no_value, place_no_node, read_more, pushed_nodes}
use Rattle.operations.proofs.reading.read_term.Goals as goal

pub returns-then-place-len : goal.returns-then-place-len
returns-then-place-len c =
    all_read c.args.store.now c.args.most c.nodes.place (term_of c.nodes.nodes.items) c.nodes.pending.items (read_term c.args.store.now c.args.most c.args.variable.now) (omega arith) c.nodes.invariant.whole

pub returns-in_default : goal.returns-in_default
returns-in_default c =
    place_no_value c.args.store.now c.args.most c.nodes.place (term_of c.nodes.nodes.items) c.nodes.pending.items c.index.result.now (read_term c.args.store.now c.args.most c.args.variable.now)
    (omega arith) (omega arith) c.index.ensures c.nodes.invariant.whole (sym c.value.ensures ∙ ap option_copied c.in_default.is)

pub returns-in_default-2 : goal.returns-in_default-2
returns-in_default-2 c =
    place_no_node c.args.store.now c.args.most c.nodes.place (term_of c.nodes.nodes.items) c.nodes.pending.items c.index.result.now (read_term c.args.store.now c.args.most c.args.variable.now)
    c.in-Some.value.now (omega arith) (omega arith) c.index.ensures c.nodes.invariant.whole (sym c.value.ensures ∙ ap option_copied c.in-Some.is)
    (sym c.in_ok-node.ensures ∙ ap (option_map node_of) c.in_default-2.is)

pub nodes-preserved : goal.nodes-preserved
nodes-preserved c =
    record {
      within = omega (arith, c.in_ok-append.ensures.len);
      whole =
          read_more c.args.store.now c.args.most c.nodes.place (term_of c.nodes.nodes.items) c.nodes.pending.items c.index.result.now (read_term c.args.store.now c.args.most c.args.variable.now)
          c.in-Some.value.now (node_of c.in-Some-2.node) (omega arith) (omega arith) c.index.ensures c.nodes.invariant.whole (sym c.value.ensures ∙ ap option_copied c.in-Some.is)
          (sym c.in_ok-node.ensures ∙ ap (option_map node_of) c.in-Some-2.is) (term_of c.push-in-nodes.new.self.items) c.append.new.self.items
          (pushed_nodes c.nodes.nodes.items c.push-in-nodes.new.self.items c.in-Some-2.node c.in_ok-push-2.ensures.items)
          (c.in_ok-append.ensures.items ∙ ap (λ (xs : List Ident). c.nodes.pending.items ++ xs) (c.in_ok-fields.ensures ∙ c.fields_of.ensures));
    }

pub returns-then-most-len : goal.returns-then-most-len
returns-then-most-len c =
    limit_reached c.args.store.now c.args.most c.nodes.place (term_of c.nodes.nodes.items) c.nodes.pending.items (read_term c.args.store.now c.args.most c.args.variable.now) (omega arith) (omega arith)
    c.nodes.invariant.whole

pub returns : goal.returns
returns c =
    all_read c.args.store.now c.args.most c.nodes.place (term_of c.nodes.nodes.items) c.nodes.pending.items (read_term c.args.store.now c.args.most c.args.variable.now) (omega arith) c.nodes.invariant.whole
