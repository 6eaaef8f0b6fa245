-- What is written in open cells.
use Rattle.std.proofs.Common.{◌≡◌, ℕ, suc, pos, ◌+◌, ◌<◌, ◌≤◌, List, [], ◌∷◌, length, get_or, drop, refl, ap, sym, ◌∙◌}
use Rattle.std.proofs.lemmas.List.{drop_more, drop_all}
use Rattle.oz_language.specs.declared.kernel.Identifier.{Identifier}
use Rattle.oz_language.specs.declared.kernel.Identifier.TheVariants.{Fresh}
use Rattle.oz_language.specs.declared.kernel.Constant.TheVariants.{Int}
use Rattle.oz_language.specs.declared.kernel.Statement.TheVariants as numbered
use Rattle.oz_language.specs.Kernels.{Stmt, Stmts, none, just, ◌⨾◌}
use Rattle.oz_language.specs.Kernels as k
use Rattle.oz_language.specs.Translation.{atom, cell_bound, scoped, fresh_among, codes_made, nil_constant}
use Rattle.oz_language.specs.Wording.{bar_word}
use Rattle.kernel_output.specs.declared.cells.Cell.{Cell}
use Rattle.kernel_output.specs.declared.output.Output.{Output}
use Rattle.kernel_output.specs.Outputs.{with_statement, with_all}
use Rattle.kernel_output.specs.Cells.{with_cell, in_cell, cell_begun, all_closed, code_cells, code_begun}
use Rattle.kernel_output.proofs.Writing.{with_both, with_outer, record_written}

pub cell_written : (o : Output) (x y z : Identifier) →
    with_all o (just (cell_bound x y z)) ≡ with_statement o (numbered.BindRecord x (atom bar_word) (Int (pos 1) ∷ Int (pos 2) ∷ []) (y ∷ z ∷ []))
cell_written o x y z = record_written o x (atom bar_word) ((Int (pos 1), y) ∷ (Int (pos 2), z) ∷ [])

-- what is written in a cell that then ends has its scope
scope_closed : (xs : List Identifier) (o : Output) (cells : List Cell) (ss : Stmts) →
    all_closed (with_cell xs o cells) (with_all (in_cell xs o) ss) ≡ all_closed cells (with_all o (scoped xs ss))
unfolding with_all
scope_closed [] o cells ss = refl
scope_closed (x ∷ xs) o cells ss = ap (all_closed cells) (with_outer o (k.local (x ∷ xs) ss))

-- a cell is begun, its head is written and then its tail
pub cell_closed : (o : Output) (cells : List Cell) (x y z : Identifier) (heads tails : Stmts) →
    all_closed (with_cell (fresh_among (y ∷ z ∷ [])) o cells) (with_all (with_all (cell_begun x y z o) heads) tails)
    ≡ all_closed cells (with_all o (scoped (fresh_among (y ∷ z ∷ [])) (k.followed (cell_bound x y z) (heads ⨾ tails))))
cell_closed o cells x y z heads tails =
    let xs = fresh_among (y ∷ z ∷ []) in
    ap (all_closed (with_cell xs o cells)) (with_both (cell_begun x y z o) heads tails ∙ with_both (in_cell xs o) (just (cell_bound x y z)) (heads ⨾ tails))
    ∙ scope_closed xs o cells (k.followed (cell_bound x y z) (heads ⨾ tails))

-- Strings

-- one code, and those behind it
code_closed : (o : Output) (cells : List Cell) (x : Identifier) (c n : ℕ) (cs : List ℕ) →
    all_closed (code_cells n o cells) (with_all (code_begun x c n o) (codes_made (Fresh (suc n)) cs (suc (suc n))).code)
    ≡ all_closed cells (with_all o (codes_made x (c ∷ cs) n).code)
code_closed o cells x c n cs =
    cell_closed o cells x (Fresh n) (Fresh (suc n)) (just (k.bind (Fresh n) (Int (pos c)))) (codes_made (Fresh (suc n)) cs (suc (suc n))).code

pub codes_loop : (o o' f : Output) (cells cells' : List Cell) (x x' : Identifier) (bs : List ℕ) (i n n' : ℕ) → i < length bs →
    cells' ≡ code_cells n o cells → o' ≡ code_begun x (get_or bs i 0) n o → n' ≡ suc (suc n) → x' ≡ Fresh (suc n) →
    all_closed cells (with_all o (codes_made x (drop i bs) n).code) ≡ f →
    all_closed cells' (with_all o' (codes_made x' (drop (i + 1) bs) n').code) ≡ f
codes_loop o o' f cells cells' x x' bs i n n' lt ec eo en ex h =
    let c = get_or bs i 0 in
    let rest = drop (i + 1) bs in
    let e : drop i bs ≡ get_or bs i 0 ∷ rest = drop_more bs i 0 lt in
    ap (λ q. all_closed q (with_all o' (codes_made x' rest n').code)) ec
    ∙ ap (λ q. all_closed (code_cells n o cells) (with_all q (codes_made x' rest n').code)) eo
    ∙ ap (λ q. all_closed (code_cells n o cells) (with_all (code_begun x c n o) (codes_made q rest n').code)) ex
    ∙ ap (λ q. all_closed (code_cells n o cells) (with_all (code_begun x c n o) (codes_made (Fresh (suc n)) rest q).code)) en
    ∙ code_closed o cells x c n rest
    ∙ sym (ap (λ q. all_closed cells (with_all o (codes_made x q n).code)) e)
    ∙ h

pub codes_next : (f n n' : ℕ) (x x' : Identifier) (bs : List ℕ) (i : ℕ) → i < length bs → n' ≡ suc (suc n) → x' ≡ Fresh (suc n) →
    (codes_made x (drop i bs) n).next ≡ f → (codes_made x' (drop (i + 1) bs) n').next ≡ f
codes_next f n n' x x' bs i lt en ex h =
    let rest = drop (i + 1) bs in
    let e : drop i bs ≡ get_or bs i 0 ∷ rest = drop_more bs i 0 lt in
    ap (λ q. (codes_made q rest n').next) ex ∙ ap (λ q. (codes_made (Fresh (suc n)) rest q).next) en
    ∙ sym (ap (λ q. (codes_made x q n).next) e) ∙ h

pub codes_end : (o o1 o2 f : Output) (cells : List Cell) (x : Identifier) (bs : List ℕ) (i n : ℕ) → length bs ≤ i →
    o1 ≡ with_all o (just (k.bind x nil_constant)) → o2 ≡ all_closed cells o1 →
    all_closed cells (with_all o (codes_made x (drop i bs) n).code) ≡ f → o2 ≡ f
codes_end o o1 o2 f cells x bs i n le e1 e2 h =
    e2 ∙ ap (all_closed cells) e1 ∙ sym (ap (λ q. all_closed cells (with_all o (codes_made x q n).code)) (drop_all i bs le)) ∙ h

pub codes_over : (f n : ℕ) (x : Identifier) (bs : List ℕ) (i : ℕ) → length bs ≤ i → (codes_made x (drop i bs) n).next ≡ f → n ≡ f
codes_over f n x bs i le h = sym (ap (λ q. (codes_made x q n).next) (drop_all i bs le)) ∙ h
