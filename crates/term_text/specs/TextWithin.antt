-- What is given of a text within a number of nodes.
use Rattle.std.specs.Prelude.{ℕ, ◌≡◌, ◌<◌, ◌≤◌, Option, Some, None}
use Rattle.oz_semantics.specs.Texts.{Printed}
use Rattle.term_text.specs.declared.terms.Text.{Text}

-- the text, or none exactly where there are more nodes than the fuel
abbrev pub IsTextWithin : Printed → ℕ → Option Text → Type 0
IsTextWithin printed fuel None = fuel < printed.nodes
IsTextWithin printed fuel (Some text) = (text.bytes ≡ printed.bytes) × (text.nodes ≡ printed.nodes) × (printed.nodes ≤ fuel)
