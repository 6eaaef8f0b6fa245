-- Parameters that are bound from the last one on.
use Rattle.std.proofs.Common.{◌≡◌, ◌<◌, ◌≤◌, ◌-◌, ◌∷◌, [], ℕ, zero, suc, refl, ap, ◌∙◌, List, length, drop, get_or, arith}
use Rattle.oz_base.specs.declared.names.Ident.{Ident}
use Rattle.environments.specs.Environments.{Environment, binding, binding_all}
use Rattle.oz_language.specs.declared.kernel.Identifier.{Identifier}
use Rattle.oz_semantics.specs.Answers.{argument}

bind_at : (ns : List Identifier) (xs : List Ident) (e : Environment) (k : ℕ) (d : Identifier) → k < length ns → length ns ≡ length xs
    → binding (get_or ns k d) (argument xs k) (binding_all (drop (suc k) ns) (drop (suc k) xs) e) ≡ binding_all (drop k ns) (drop k xs) e
bind_at [] xs e k d h l = absurd (omega arith)
bind_at (n ∷ ns) [] e k d h l = absurd (omega arith)
bind_at (n ∷ ns) (x ∷ xs) e zero d h l = refl
bind_at (n ∷ ns) (x ∷ xs) e (suc k) d h l = bind_at ns xs e k d (omega arith) (omega arith)

pub bind_front : (ns : List Identifier) (xs : List Ident) (e : Environment) (left : ℕ) (d : Identifier) → 0 < left → left ≤ length ns → length ns ≡ length xs
    → binding (get_or ns (left - 1) d) (argument xs (left - 1)) (binding_all (drop left ns) (drop left xs) e) ≡ binding_all (drop (left - 1) ns) (drop (left - 1) xs) e
bind_front ns xs e left d p h l =
    let k : left ≡ suc (left - 1) = omega arith in
    let b : left - 1 < length ns = omega arith in
    ap (λ n. binding (get_or ns (left - 1) d) (argument xs (left - 1)) (binding_all (drop n ns) (drop n xs) e)) k ∙ bind_at ns xs e (left - 1) d b l
