-- Each step keeps what is printed and what is left together the text.
use Rattle.std.proofs.Common.{◌≡◌, ◌∙◌, ℕ, suc, ◌+◌, List, [], ◌∷◌, ◌++◌, Option, Some, map, codes, slice_get, ap, refl, sym, subst}
use Rattle.std.proofs.lemmas.List.{append_assoc, append-nil}
use Rattle.oz_language.specs.Kernels.{Stmt, skip, fail, local, equate, bind, bind_record, bind_procedure, call, choice, test, matching, no_match, operate, thread, attempt, raise, post, post_times, Stmts, none, followed, Bodies, no_body, body, inside, count, statement_at, listed_inside, listed_all, numbers, numbered}
use Rattle.oz_language.specs.KernelTexts.{kernel_text, statement_text, statement_texts, body_texts, name_text, spaced, pattern_text}
use Rattle.oz_language.specs.SimpleTexts.{gapped, joined}
use Rattle.oz_language.specs.declared.kernel.Identifier.{Identifier}
use Rattle.oz_language.specs.declared.kernel.Statement.{Statement}
use Rattle.oz_language.specs.declared.kernel.Kernel.{Kernel}
use Rattle.kernel_form.specs.declared.entries.Entry.{Entry}
use Rattle.kernel_form.specs.Whole.{IsWhole, AreWhole}
use Rattle.kernel_form.specs.Entries.{Left, lined, left_of, catch_text, printed_now, found_in, left_behind}
use Rattle.kernel_form.specs.Heads.{head_text, left_in}
use Rattle.kernel_form.specs.Pending.{Tree, fixed_tree, body_tree, branches_tree, caught_tree, lines_tree, left_of_tree, tree_text, trees_text, led_by, lines_text, Stand, Fits, Fit, Leads, Finds, GoesOn}
use Rattle.kernel_form.proofs.Standing.{all_stand, split_statement, split_two, split_body}
use Rattle.kernel_form.proofs.Noding.{whole_pattern, whole_record}

led_by_gap : (gap : List ℕ) (ts : List (List ℕ)) → led_by gap gap ts ≡ gapped gap ts
led_by_gap gap [] = refl
led_by_gap gap (t ∷ ts) = refl

led_by_none : (gap : List ℕ) (ts : List (List ℕ)) → led_by [] gap ts ≡ joined gap ts
led_by_none gap [] = refl
led_by_none gap (t ∷ ts) = refl

-- An entry is begun

none_left : (out after text : List ℕ) → out ++ after ≡ text → (out ++ []) ++ after ≡ text
none_left out after text e = rw (append-nil out) e

enter_tree : (words : List (List ℕ)) (all : List Statement) (t : Tree) (ts : List Tree) (out text : List ℕ)
    → Fits all t → Fit all ts → out ++ (tree_text words t ++ trees_text words ts) ≡ text
    → GoesOn words all (found_in (left_of_tree t)) (left_behind (left_of_tree t) ++ map left_of_tree ts) (out ++ printed_now words (left_of_tree t)) text
enter_tree words all (fixed_tree u) ts out text f fs e =
    record { trees = ts; same = refl; fit = fs; made = append_assoc out u (trees_text words ts) ∙ e }
enter_tree words all (body_tree gap n none) ts out text f fs e =
    record { trees = ts; same = refl; fit = fs; made = none_left out (trees_text words ts) text e }
enter_tree words all (body_tree gap n (followed s ss)) ts out text f fs e =
    let parts = split_statement all s ss n f.0 in
    record {
      base = n;
      tree = s;
      trees = body_tree (codes " ") (n + suc (inside s)) ss ∷ ts;
      here = parts.1;
      around = parts.0;
      is_whole = f.1.0;
      same = refl;
      fit = ((parts.2, f.1.1), fs);
      made = rw (led_by_gap (codes " ") (statement_texts words ss)) (simp append_assoc (simp append_assoc at e));
    }
enter_tree words all (branches_tree gap n no_body) ts out text f fs e =
    record { trees = ts; same = refl; fit = fs; made = none_left out (trees_text words ts) text e }
enter_tree words all (branches_tree gap n (body ss bs)) ts out text f fs e =
    let parts = split_body all ss bs n f.0 in
    record {
      trees = body_tree [] n ss ∷ branches_tree (codes " [] ") (n + count ss) bs ∷ ts;
      same = refl;
      fit = ((parts.0, f.1.0), ((parts.1, f.1.1), fs));
      made = rw (led_by_none (codes " ") (statement_texts words ss), led_by_gap (codes " [] ") (body_texts words bs)) (simp append_assoc (simp append_assoc at e));
    }
enter_tree words all (caught_tree x) ts out text f fs e =
    record { trees = ts; same = refl; fit = fs; made = append_assoc out (catch_text words x) (trees_text words ts) ∙ e }
enter_tree words all (lines_tree n none) ts out text f fs e =
    record { trees = ts; same = refl; fit = fs; made = none_left out (trees_text words ts) text e }
enter_tree words all (lines_tree n (followed s ss)) ts out text f fs e =
    let parts = split_statement all s ss n f.0 in
    record {
      base = n;
      tree = s;
      trees = fixed_tree (10 ∷ []) ∷ lines_tree (n + suc (inside s)) ss ∷ ts;
      here = parts.1;
      around = parts.0;
      is_whole = f.1.0;
      same = refl;
      fit = (tt, ((parts.2, f.1.1), fs));
      made = rw (append-nil out) (simp append_assoc at e);
    }

enter_left : (words : List (List ℕ)) (all : List Statement) (e : Left) (es : List Left) (ts : List Tree) (out text : List ℕ)
    → e ∷ es ≡ map left_of_tree ts → Fit all ts → out ++ trees_text words ts ≡ text
    → GoesOn words all (found_in e) (left_behind e ++ es) (out ++ printed_now words e) text
enter_left words all e es [] out text same fs made = absurd (cc)
enter_left words all e es (t ∷ ts) out text same fs made =
    let first : e ≡ left_of_tree t = cc in
    let others : es ≡ map left_of_tree ts = cc in
    rw (first, others) (enter_tree words all t ts out text fs.0 fs.1 made)

pub entered : (words : List (List ℕ)) (all : List Statement) (old mid new : List Entry) (e : Entry) (found : Option ℕ) (out out' text : List ℕ)
    → old ≡ e ∷ mid → map left_of new ≡ left_behind (left_of e) ++ map left_of mid → out' ≡ out ++ printed_now words (left_of e) → found ≡ found_in (left_of e)
    → Leads words all (map left_of old) out text → GoesOn words all found (map left_of new) out' text
entered words all old mid new e found out out' text top pushed written next leads =
    rw (pushed, written, next)
    (enter_left words all (left_of e) (map left_of mid) leads.trees out text (sym (ap (map left_of) top) ∙ leads.same) leads.fit leads.made)

nothing_left : (words : List (List ℕ)) (ts : List Tree) (out text : List ℕ) → [] ≡ map left_of_tree ts → out ++ trees_text words ts ≡ text → out ≡ text
nothing_left words [] out text same made = sym (append-nil out) ∙ made
nothing_left words (t ∷ ts) out text same made = absurd (cc)

pub ended : (words : List (List ℕ)) (all : List Statement) (es : List Entry) (out text : List ℕ) → es ≡ [] → Leads words all (map left_of es) out text → out ≡ text
ended words all es out text empty leads = nothing_left words leads.trees out text (sym (ap (map left_of) empty) ∙ leads.same) leads.made

-- A statement is begun

abbrev trees_before : ℕ → Stmt → List Tree → List Tree
trees_before n (local xs ss) ts = body_tree [] n ss ∷ fixed_tree (codes " end") ∷ ts
trees_before n (bind_procedure x xs ss) ts = body_tree [] n ss ∷ fixed_tree (codes " end") ∷ ts
trees_before n (choice bs) ts = branches_tree [] n bs ∷ fixed_tree (codes " end") ∷ ts
trees_before n (test x ss us) ts = body_tree [] n ss ∷ fixed_tree (codes " else ") ∷ body_tree [] (n + count ss) us ∷ fixed_tree (codes " end") ∷ ts
trees_before n (matching x p ss us) ts = body_tree [] n ss ∷ fixed_tree (codes " else ") ∷ body_tree [] (n + count ss) us ∷ fixed_tree (codes " end") ∷ ts
trees_before n (thread ss) ts = body_tree [] n ss ∷ fixed_tree (codes " end") ∷ ts
trees_before n (attempt ss x us) ts = body_tree [] n ss ∷ caught_tree x ∷ body_tree [] (n + count ss) us ∷ fixed_tree (codes " end") ∷ ts
trees_before n s ts = ts

left_before : (s : Stmt) (n : ℕ) (ts : List Tree) → left_in (statement_at n s) ++ map left_of_tree ts ≡ map left_of_tree (trees_before n s ts)
left_before skip n ts = refl
left_before fail n ts = refl
left_before (local xs ss) n ts = refl
left_before (equate x y) n ts = refl
left_before (bind x v) n ts = refl
left_before (bind_record x l fs xs) n ts = refl
left_before (bind_procedure x xs ss) n ts = refl
left_before (call x xs) n ts = refl
left_before (choice bs) n ts = refl
left_before (test x ss us) n ts = refl
left_before (matching x p ss us) n ts = refl
left_before no_match n ts = refl
left_before (operate op xs) n ts = refl
left_before (thread ss) n ts = refl
left_before (attempt ss x us) n ts = refl
left_before (raise x) n ts = refl
left_before (post s c us) n ts = refl
left_before (post_times x y z) n ts = refl

fit_before : (all : List Statement) (s : Stmt) (n : ℕ) (ts : List Tree) → Stand all n (listed_inside n s) → IsWhole s → Fit all ts → Fit all (trees_before n s ts)
fit_before all skip n ts h w fs = fs
fit_before all fail n ts h w fs = fs
fit_before all (local xs ss) n ts h w fs = ((h, w), (tt, fs))
fit_before all (equate x y) n ts h w fs = fs
fit_before all (bind x v) n ts h w fs = fs
fit_before all (bind_record x l fs xs) n ts h w gs = gs
fit_before all (bind_procedure x xs ss) n ts h w fs = ((h, w), (tt, fs))
fit_before all (call x xs) n ts h w fs = fs
fit_before all (choice bs) n ts h w fs = ((h, w), (tt, fs))
fit_before all (test x ss us) n ts h w fs = let parts = split_two all ss us n h in ((parts.0, w.0), (tt, ((parts.1, w.1), (tt, fs))))
fit_before all (matching x p ss us) n ts h w fs = let parts = split_two all ss us n h in ((parts.0, w.1.0), (tt, ((parts.1, w.1.1), (tt, fs))))
fit_before all no_match n ts h w fs = fs
fit_before all (operate op xs) n ts h w fs = fs
fit_before all (thread ss) n ts h w fs = ((h, w), (tt, fs))
fit_before all (attempt ss x us) n ts h w fs = let parts = split_two all ss us n h in ((parts.0, w.0), (tt, ((parts.1, w.1), (tt, fs))))
fit_before all (raise x) n ts h w fs = fs
fit_before all (post s c us) n ts h w fs = fs
fit_before all (post_times x y z) n ts h w fs = fs

block_law : (head text ending after : List ℕ) → head ++ (text ++ (ending ++ after)) ≡ (head ++ text ++ ending) ++ after
block_law head text ending after = simp append_assoc

with_block : (words : List (List ℕ)) (head : List ℕ) (ss : Stmts) (after : List ℕ)
    → head ++ (led_by [] (codes " ") (statement_texts words ss) ++ (codes " end" ++ after)) ≡ (head ++ spaced (statement_texts words ss) ++ codes " end") ++ after
with_block words head ss after = rw (led_by_none (codes " ") (statement_texts words ss)) (block_law head (spaced (statement_texts words ss)) (codes " end") after)

with_alternatives : (words : List (List ℕ)) (head : List ℕ) (bs : Bodies) (after : List ℕ)
    → head ++ (led_by [] (codes " [] ") (body_texts words bs) ++ (codes " end" ++ after)) ≡ (head ++ joined (codes " [] ") (body_texts words bs) ++ codes " end") ++ after
with_alternatives words head bs after = rw (led_by_none (codes " [] ") (body_texts words bs)) (block_law head (joined (codes " [] ") (body_texts words bs)) (codes " end") after)

branches_law : (head text middle other ending after : List ℕ) → head ++ (text ++ (middle ++ (other ++ (ending ++ after)))) ≡ (head ++ text ++ middle ++ other ++ ending) ++ after
branches_law head text middle other ending after = simp append_assoc

with_branches : (words : List (List ℕ)) (head : List ℕ) (ss us : Stmts) (after : List ℕ)
    → head ++ (led_by [] (codes " ") (statement_texts words ss) ++ (codes " else " ++ (led_by [] (codes " ") (statement_texts words us) ++ (codes " end" ++ after))))
    ≡ (head ++ spaced (statement_texts words ss) ++ codes " else " ++ spaced (statement_texts words us) ++ codes " end") ++ after
with_branches words head ss us after =
    rw (led_by_none (codes " ") (statement_texts words ss), led_by_none (codes " ") (statement_texts words us))
    (branches_law head (spaced (statement_texts words ss)) (codes " else ") (spaced (statement_texts words us)) (codes " end") after)

attempt_law : (head text before name behind other ending after : List ℕ)
    → head ++ (text ++ ((before ++ name ++ behind) ++ (other ++ (ending ++ after)))) ≡ (head ++ text ++ before ++ name ++ behind ++ other ++ ending) ++ after
attempt_law head text before name behind other ending after = simp append_assoc

with_handler : (words : List (List ℕ)) (x : Identifier) (ss us : Stmts) (after : List ℕ)
    → codes "try " ++ (led_by [] (codes " ") (statement_texts words ss) ++ (catch_text words x ++ (led_by [] (codes " ") (statement_texts words us) ++ (codes " end" ++ after))))
    ≡ (codes "try " ++ spaced (statement_texts words ss) ++ codes " catch " ++ name_text words x ++ codes " then " ++ spaced (statement_texts words us) ++ codes " end") ++ after
with_handler words x ss us after =
    rw (led_by_none (codes " ") (statement_texts words ss), led_by_none (codes " ") (statement_texts words us))
    (attempt_law (codes "try ") (spaced (statement_texts words ss)) (codes " catch ") (name_text words x) (codes " then ") (spaced (statement_texts words us)) (codes " end") after)

text_before : (words : List (List ℕ)) (s : Stmt) (n : ℕ) (ts : List Tree) → IsWhole s → head_text words (statement_at n s) ++ trees_text words (trees_before n s ts) ≡ statement_text words s ++ trees_text words ts
text_before words skip n ts w = refl
text_before words fail n ts w = refl
text_before words (local xs ss) n ts w = with_block words (head_text words (statement_at n (local xs ss))) ss (trees_text words ts)
text_before words (equate x y) n ts w = refl
text_before words (bind x v) n ts w = refl
text_before words (bind_record x l fs xs) n ts w = ap (λ t. (name_text words x ++ codes "=" ++ t) ++ trees_text words ts) (whole_record words l fs xs w)
text_before words (bind_procedure x xs ss) n ts w = with_block words (head_text words (statement_at n (bind_procedure x xs ss))) ss (trees_text words ts)
text_before words (call x xs) n ts w = refl
text_before words (choice bs) n ts w = with_alternatives words (codes "choice ") bs (trees_text words ts)
text_before words (test x ss us) n ts w = with_branches words (head_text words (statement_at n (test x ss us))) ss us (trees_text words ts)
text_before words (matching x p ss us) n ts w =
    ap (λ t. (codes "case " ++ name_text words x ++ codes " of " ++ t ++ codes " then ") ++ trees_text words (trees_before n (matching x p ss us) ts)) (whole_pattern words p w.0)
    ∙ with_branches words (codes "case " ++ name_text words x ++ codes " of " ++ (pattern_text words p).1 ++ codes " then ") ss us (trees_text words ts)
text_before words no_match n ts w = refl
text_before words (operate op xs) n ts w = refl
text_before words (thread ss) n ts w = with_block words (codes "thread ") ss (trees_text words ts)
text_before words (attempt ss x us) n ts w = with_handler words x ss us (trees_text words ts)
text_before words (raise x) n ts w = refl
text_before words (post s c us) n ts w = refl
text_before words (post_times x y z) n ts w = refl

begin_statement : (words : List (List ℕ)) (all : List Statement) (s : Stmt) (n : ℕ) (ts : List Tree) (out text : List ℕ)
    → Stand all n (listed_inside n s) → IsWhole s → Fit all ts → out ++ (statement_text words s ++ trees_text words ts) ≡ text
    → Leads words all (left_in (statement_at n s) ++ map left_of_tree ts) (out ++ head_text words (statement_at n s)) text
begin_statement words all s n ts out text h w fs made =
    record {
      trees = trees_before n s ts;
      same = left_before s n ts;
      fit = fit_before all s n ts h w fs;
      made = append_assoc out (head_text words (statement_at n s)) (trees_text words (trees_before n s ts)) ∙ ap (λ t. out ++ t) (text_before words s n ts w) ∙ made;
    }

pub begun : (words : List (List ℕ)) (all : List Statement) (number : ℕ) (left left' : List Left) (s : Statement) (out out' text : List ℕ)
    → slice_get all number ≡ Some s → left' ≡ left_in s ++ left → out' ≡ out ++ head_text words s
    → Finds words all number left out text → Leads words all left' out' text
begun words all number left left' s out out' text here pushed written finds =
    let e : s ≡ statement_at finds.base finds.tree = cc (here, finds.here) in
    rw (pushed, written, e, finds.same) (begin_statement words all finds.tree finds.base finds.trees out text finds.around finds.is_whole finds.fit finds.made)

-- A program is begun

pub started : (k : Kernel) (ss : Stmts) (es : List Entry) (out : List ℕ) → AreWhole ss → k ≡ numbered k.words ss → map left_of es ≡ lined k.body ∷ [] → out ≡ []
    → Leads k.words k.statements (map left_of es) out (kernel_text k.words ss)
unfolding kernel_text
started k ss es out whole same pushed empty =
    let statements : k.statements ≡ listed_all 0 ss = ap (λ (j : Kernel). j.statements) same in
    let body : k.body ≡ numbers 0 ss = ap (λ (j : Kernel). j.body) same in
    record {
      trees = lines_tree 0 ss ∷ [];
      same = pushed ∙ ap (λ ns. lined ns ∷ []) body;
      fit = ((subst (λ (xs : List Statement). Stand k.statements 0 xs) statements (all_stand k.statements), whole), tt);
      made = rw empty (append-nil (lines_text (statement_texts k.words ss)));
    }
