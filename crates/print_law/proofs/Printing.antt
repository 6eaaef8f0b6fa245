-- A tree is printed as its text.
use Rattle.std.proofs.Common.{◌≡◌, ◌∙◌, ℕ, zero, suc, ◌+◌, ◌<◌, false, List, [], ◌∷◌, Some, None, map, position, refl, sym, ap, subst, arith}
use Rattle.std.specs.List.{zip, list_any}
use Rattle.oz_base.specs.declared.names.Ident.{Ident}
use Rattle.oz_language.specs.SimpleTexts.{record_text}
use Rattle.oz_language.specs.declared.text.Form.{Form}
use Rattle.oz_semantics.specs.Store.{same, value_of, domain_of}
use Rattle.oz_semantics.specs.Texts.{Printed, printed, count_nodes, record_printed, form_unless_open, value_printed}
use Rattle.oz_semantics.specs.Texts as texts
use Rattle.oz_semantics.specs.declared.value.Record.{Record}
use Rattle.oz_semantics.specs.declared.value.Value.{Value}
use Rattle.oz_semantics.specs.declared.value.Value.TheVariants as value
use Rattle.oz_semantics.specs.declared.value.Tell.{Tell}
use Rattle.oz_laws.proofs.StoreLaws.{record_told}
use Rattle.oz_laws.proofs.OpeningLaws.{left_of, one_opened}
use Rattle.text_laws.specs.Terms.{Term, Terms, simple, compound, no_term, beside, form_in, term_text, field_texts}
use Rattle.print_law.specs.Trees.{IsTree, AreTrees, of_constant, of_record, no_trees, tree_beside, nodes_of, nodes_among}
use Rattle.print_law.specs.Laws.{IsPrintOf}
use Rattle.print_law.proofs.Openings.{Inside, one_open, inside_less, is_apart, no_position}

-- fields are printed, each in its form
record ArePrintsOf (words : List (List ℕ)) (forms : Ident → Form) (print : Ident → Printed) (xs : List Ident) (ts : Terms) : Type 0 where
  texts : zip (map forms xs) (map (λ (p : Printed). p.bytes) (map print xs)) ≡ field_texts words ts
  nodes : count_nodes (map print xs) ≡ nodes_among ts

module _ (words : List (List ℕ)) where
  no_prints : (forms : Ident → Form) (print : Ident → Printed) → ArePrintsOf words forms print [] no_term
  no_prints forms print = record { texts = refl; nodes = refl }

  print_beside : (forms : Ident → Form) (print : Ident → Printed) (x : Ident) (t : Term) (xs : List Ident) (ts : Terms) → forms x ≡ form_in words t → IsPrintOf words (print x) t
      → ArePrintsOf words forms print xs ts → ArePrintsOf words forms print (x ∷ xs) (beside t ts)
  print_beside forms print x t xs ts f p ps =
      record {
        texts =
            ap (λ g. (g, (print x).bytes) ∷ zip (map forms xs) (map (λ (q : Printed). q.bytes) (map print xs))) f
            ∙ ap (λ b. (form_in words t, b) ∷ zip (map forms xs) (map (λ (q : Printed). q.bytes) (map print xs))) p.text
            ∙ ap (λ row. (form_in words t, term_text words t) ∷ row) ps.texts;
        nodes = ap (λ n. n + count_nodes (map print xs)) p.nodes ∙ ap (λ n. nodes_of t + n) ps.nodes;
      }

  print_record : (forms : Ident → Form) (print : Ident → Printed) (r : Record) (ts : Terms) → ArePrintsOf words forms print r.fields ts
      → IsPrintOf words (record_printed words r.label r.features (map forms r.fields) (map print r.fields)) (compound r.label r.features ts)
  print_record forms print r ts ps = record { text = ap (record_text words r.label r.features) ps.texts; nodes = ap suc ps.nodes }

module _ (words : List (List ℕ)) (view : List Tell) where
  printed_suc : (n : ℕ) (up : List Ident) (x : Ident)
      → printed words view (suc n) up x ≡ value_printed words (texts.form_in words view (x ∷ up)) (printed words view n (x ∷ up)) (position (same view x) up) (domain_of view x) (value_of view x)
  unfolding printed
  printed_suc n up x = refl

  -- the form of a tree that is not open
  tree_form : {x : Ident} {t : Term} → IsTree view x t → (up : List Ident) → list_any (same view x) up ≡ false → texts.form_in words view up x ≡ form_in words t
  tree_form {x} (of_constant {c = c} e) up a =
      ap (form_unless_open words (position (same view x) up)) e ∙ ap (λ o. form_unless_open words o (Some (value.Constant c))) (no_position (same view x) up a)
  tree_form {x} (of_record {r = r} e hs) up a =
      ap (form_unless_open words (position (same view x) up)) e ∙ ap (λ o. form_unless_open words o (Some (value.Record r))) (no_position (same view x) up a)

  -- what is printed, by the value and by what is open
  print_by : (n : ℕ) (up : List Ident) (x : Ident) (v : Value) (t : Term) → value_of view x ≡ Some v → list_any (same view x) up ≡ false
      → IsPrintOf words (value_printed words (texts.form_in words view (x ∷ up)) (printed words view n (x ∷ up)) None (domain_of view x) (Some v)) t → IsPrintOf words (printed words view (suc n) up x) t
  print_by n up x v t e a p =
      subst (λ q. IsPrintOf words q t)
      (sym (
      printed_suc n up x
      ∙ ap (value_printed words (texts.form_in words view (x ∷ up)) (printed words view n (x ∷ up)) (position (same view x) up) (domain_of view x)) e
      ∙ ap (λ o. value_printed words (texts.form_in words view (x ∷ up)) (printed words view n (x ∷ up)) o (domain_of view x) (Some v)) (no_position (same view x) up a)
      )) p

  mutual
    print_tree : {x : Ident} {t : Term} → IsTree view x t → (n : ℕ) (up : List Ident) → Inside view (nodes_of t) up → left_of view up < n → IsPrintOf words (printed words view n up x) t
    print_tree h zero up i l = absurd (omega (arith, l))
    print_tree {x} (of_constant {c = c} e) (suc n) up i l =
        print_by n up x (value.Constant c) (simple c) e (is_apart view x (simple c) (of_constant e) i) (record { text = refl; nodes = refl })
    print_tree {x} (of_record {r = r} {ts = ts} e hs) (suc n) up i l =
        let t = compound r.label r.features ts in
        let a = is_apart view x t (of_record e hs) i in
        let m = one_opened view x up (value.Record r) (record_told view x r e) a in
        print_by n up x (value.Record r) t e a
        (print_record words (texts.form_in words view (x ∷ up)) (printed words view n (x ∷ up)) r ts
        (print_trees hs n (x ∷ up) (one_open (of_record e hs) (omega arith) (inside_less view (nodes_among ts) (suc (nodes_among ts)) (omega arith) i)) (omega (arith, l, m))))

    print_trees : {xs : List Ident} {ts : Terms} → AreTrees view xs ts → (n : ℕ) (up : List Ident) → Inside view (nodes_among ts) up → left_of view up < n
        → ArePrintsOf words (texts.form_in words view up) (printed words view n up) xs ts
    print_trees no_trees n up i l = no_prints words (texts.form_in words view up) (printed words view n up)
    print_trees (tree_beside {x = x} {t = t} {xs = xs} {ts = ts} h hs) n up i l =
        let j = inside_less view (nodes_of t) (nodes_of t + nodes_among ts) (omega arith) i in
        print_beside words (texts.form_in words view up) (printed words view n up) x t xs ts (tree_form h up (is_apart view x t h j))
        (print_tree h n up j l)
        (print_trees hs n up (inside_less view (nodes_among ts) (nodes_of t + nodes_among ts) (omega arith) i) l)

  pub tree_printed : {x : Ident} {t : Term} → IsTree view x t → (n : ℕ) (up : List Ident) → Inside view (nodes_of t) up → left_of view up < n → IsPrintOf words (printed words view n up x) t
  tree_printed h n up i l = print_tree h n up i l
