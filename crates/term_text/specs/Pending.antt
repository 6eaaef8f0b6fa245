-- What is left to print while some records are open.
use Rattle.std.specs.Prelude.{ℕ, ◌+◌, ◌≡◌, Bool, false, List, [], ◌∷◌, ◌++◌, Option, Some, None, map, position}
use Rattle.oz_base.specs.declared.names.Ident.{Ident}
use Rattle.oz_semantics.specs.Store.{same, domain_of, value_of}
use Rattle.oz_language.specs.SimpleTexts.{fields_text}
use Rattle.oz_semantics.specs.Texts.{Printed, no_text, printed, form_in, count_nodes, record_printed, record_or_up, value_printed}
use Rattle.oz_language.specs.declared.kernel.Constant.{Constant}
use Rattle.oz_semantics.specs.declared.value.Record.{Record}
use Rattle.oz_semantics.specs.declared.value.Tell.{Tell}
use Rattle.oz_language.specs.declared.text.Form.{Form}
use Rattle.term_text.specs.Operands.{gap_of, gap_before, ending, right_paren, operand_texts, led_by}
use Rattle.term_text.specs.declared.printer.Open.{Open}
use Rattle.term_text.specs.declared.printer.Printer.{Printer}
use Rattle.term_text.specs.declared.printer.Term.{Term}

-- the classes that are open
abbrev pub variables_of : List Open → List Ident
variables_of [] = []
variables_of (o ∷ os) = o.variable.now ∷ variables_of os

abbrev pub beside : Printed → Printed → Printed
beside p q = record { bytes = p.bytes ++ q.bytes; nodes = p.nodes + q.nodes }

-- up to the parenthesis that is owed behind it
abbrev pub closed : Bool → Printed → Printed
closed owed p = record { bytes = p.bytes ++ right_paren owed; nodes = p.nodes }

-- fields with these features, from the first or a later one on, where n is the next feature to be left out, up to the end of the record
abbrev pub rest_printed : Form → Bool → Bool → List (List ℕ) → ℕ → List Constant → (Ident → Form) → (Ident → Printed) → List Ident → Printed
rest_printed g first owed words n fs forms print ys =
    record {
      bytes = led_by (gap_before g first) (gap_of g) (fields_text words n fs (operand_texts g first forms print ys)) ++ (ending g ++ right_paren owed);
      nodes = count_nodes (map print ys);
    }

-- what is left of a record inside those that are open
abbrev pub record_left : Bool → List (List ℕ) → List Tell → List Open → Open → Printed
record_left first words view os o =
    rest_printed o.form first o.owed words o.next o.features.now (form_in words view (o.variable.now ∷ variables_of os)) (printed words view o.bound (o.variable.now ∷ variables_of os)) o.fields.now

-- what is left of the records that are open
abbrev pub pending : List (List ℕ) → List Tell → List Open → Printed
pending words view [] = no_text
pending words view (o ∷ os) = beside (record_left false words view os o) (pending words view os)

-- what is left of a record, and what follows it
abbrev pub with_rest : Bool → List (List ℕ) → List Tell → List Open → Open → Printed
with_rest first words view os o = beside (record_left first words view os o) (pending words view os)

-- a term, and what follows it
abbrev pub with_term : List (List ℕ) → List Tell → List Open → Term → Printed
with_term words view os t = beside (closed t.owed (printed words view t.bound (variables_of os) t.variable.now)) (pending words view os)

-- from here on the bound of a term is that of the terms inside it

-- a record that is the value of a term, written in full, and what follows it
abbrev pub with_fields : List (List ℕ) → List Tell → List Open → Term → Record → Printed
with_fields words view os t r =
    beside (closed t.owed (record_printed words r.label r.features (map (form_in words view (t.variable.now ∷ variables_of os)) r.fields) (map (printed words view t.bound (t.variable.now ∷ variables_of os)) r.fields)))
    (pending words view os)

-- a record that is the value of a term, and what follows it
abbrev pub with_record : List (List ℕ) → List Tell → List Open → Term → Record → Printed
with_record words view os t r =
    beside (closed t.owed (record_or_up words (form_in words view (t.variable.now ∷ variables_of os)) (printed words view t.bound (t.variable.now ∷ variables_of os)) r (position (same view t.variable.now) (variables_of os))))
    (pending words view os)

-- the value of a term, and what follows it
abbrev pub with_value : List (List ℕ) → List Tell → List Open → Term → Printed
with_value words view os t =
    beside
    (closed t.owed
    (value_printed words (form_in words view (t.variable.now ∷ variables_of os)) (printed words view t.bound (t.variable.now ∷ variables_of os)) (position (same view t.variable.now) (variables_of os)) (domain_of view t.variable.now)
    (value_of view t.variable.now)))
    (pending words view os)

-- what is left after a node: the term that comes next, if it lies in the record that was opened last
abbrev pub after_node : List (List ℕ) → List Tell → List Open → Option Term → Printed
after_node words view os None = pending words view os
after_node words view os (Some t) = with_term words view os t

-- what is left once the next term is found: nothing where all records are closed
abbrev pub after_move : List (List ℕ) → List Tell → List Open → Option Term → Printed
after_move words view os None = no_text
after_move words view os (Some t) = with_term words view os t

-- bytes are written and nodes printed, so that what is printed and what is left make up the same as before
abbrev pub Prints : ℕ → Printer → Printed → Printer → Printed → Type 0
Prints nodes old left new still = (new.bytes.items ++ still.bytes ≡ old.bytes.items ++ left.bytes) × (nodes + still.nodes ≡ left.nodes)

-- what is printed and what is left make up a text
abbrev pub MakesUp : ℕ → Printer → Printed → Printed → Type 0
MakesUp nodes printer still text = (printer.bytes.items ++ still.bytes ≡ text.bytes) × (nodes + still.nodes ≡ text.nodes)
