-- A map in which each value gives way to another.
use Rattle.std.specs.Prelude.{ℕ, map, Option, option_map}
use Rattle.std.specs.Ordering.{nat_cmp}
use Rattle.std.specs.FinMap as maps

-- a function in which each value gives way to another
abbrev pub changed_at : {V : Type 0} → (V → V) → (ℕ → Option V) → ℕ → Option V
changed_at f g = λ k. option_map f (g k)

abbrev pub changed_values : {V : Type 0} → (V → V) → maps.FinMap nat_cmp V → maps.FinMap nat_cmp V
changed_values {V} f m = maps.from_entries (map (λ (e : ℕ × V). (e.0, f e.1)) (maps.entries m))
