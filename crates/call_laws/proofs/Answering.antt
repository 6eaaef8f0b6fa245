-- Which answer a text has, and what a call that ends with it has read and written.
use Rattle.std.proofs.Common.{◌≡◌, ◌≢◌, ◌⊎◌, inl, inr, ℕ, ◌+◌, ◌<◌, ◌≤◌, Bool, true, false, cond, List, [], ◌++◌, Option, Some, None, length, drop, nat_le, codes, refl, sym, subst, ap, arith, ◌∙◌, append-nil, length-append, lit≤}
use Rattle.std.proofs.KnownBytes.{Consumes-nil}
use Rattle.std.proofs.lemmas.List.{drop_all}
use Rattle.std.proofs.Math.Seq.{drop-append_seam}
use Rattle.std.specs.Io.KnownBytes.{Appends, Consumes, IsAtEnd}
use Rattle.oz_search.specs.Trees.{Found}
use Rattle.oz_search.specs.declared.leaf.Outcome.{Outcome}
use Rattle.oz_semantics.specs.Configurations.{view}
use Rattle.oz_semantics.specs.Texts.{Printed, term_text}
use Rattle.oz_semantics.specs.Runs.{Ran, Ended, TopRaised, Over, run, opening}
use Rattle.oz_semantics.specs.Search.{has_script, script_found}
use Rattle.oz_language.specs.Refusals.{Program, Accepts, IsRefused}
use Rattle.oz_language.specs.Translation.{kernel_of}
use Rattle.oz_commands.specs.Commands.{Spells, IsUsage}
use Rattle.oz_replies.specs.Replies.{Answer, Searches, line, shown_lines, spent, text_limit, usage_reply, too_large_reply, refused_answer, answer_of_tree, answer_of_raise, searched, answer_of_top, all_answer, run_answer, kernel_answer}
use Rattle.oz_replies.specs.BestReplies.{BestAnswer, NotFd, Best, NoSolution, Spent, IsBestAnswer, IsBestReply, IsTextAnswer, best_cause, best_reply}
use Rattle.oz_replies.specs.Calls.{IsReply}
use Rattle.oz_commands.specs.declared.command.Command.{Command}
use Rattle.oz_commands.specs.declared.command.Command.TheVariants as commands
use Rattle.oz_language.specs.declared.kernel.Kernel.{Kernel}
use Rattle.oz_language.specs.declared.fault.Fault.{Fault}
use Rattle.oz_semantics.specs.declared.configuration.Configuration.{Configuration}
use Rattle.oz_replies.specs.declared.cause.Cause.{Cause}
use Rattle.oz_replies.specs.declared.cause.Cause.TheVariants as causes
use Rattle.call_laws.specs.Call.{IsAnswered, Reading, Writing, HasRead, ProgramGives, TextGives, ReadGives, AsText, IsCommand, Plans, IsDue, IsRead, IsBounded, Ends, IsExcused}

-- a text gives the plan of the call
pub plans_text : (words : List (List ℕ)) (old new : Reading) (text : List ℕ) (k : Command) (cause : Cause) (reply : List ℕ) → IsCommand words k → HasRead old new text → TextGives text k cause reply → Plans words old new cause reply
plans_text words old new text k cause reply w r g = by cause (record { asked = k; spelled = w.spelled; text = text; read = r; gives = g }) g
  where
    by : (c : Cause) → ReadGives words old new c reply → TextGives text k c reply → Plans words old new c reply
    by causes.Done r g = r
    by (causes.Raised shown) r g = r
    by (causes.Refused fault) r g = r
    by (causes.Spent total) r g = r
    by (causes.SpentBest total entries) r g = r
    by causes.NoScript r g = r
    by causes.NotFd r g = r
    by causes.NoMemory r g = g
    by causes.Usage r g = absurd g
    by causes.ReadFault r g = absurd g
    by causes.WriteFault r g = absurd g
    by (causes.TooLarge count) r g = absurd g

-- The answer to a program has one of six causes

abbrev IsOwn : Answer → Type 0
IsOwn (causes.Done, reply) = Unit {0}
IsOwn (causes.Raised shown, reply) = Unit {0}
IsOwn (causes.Spent total, reply) = Unit {0}
IsOwn (causes.SpentBest total entries, reply) = Unit {0}
IsOwn (causes.NoScript, reply) = Unit {0}
IsOwn (causes.NotFd, reply) = Unit {0}
IsOwn (causes.Refused fault, reply) = ⊥
IsOwn (causes.NoMemory, reply) = ⊥
IsOwn (causes.Usage, reply) = ⊥
IsOwn (causes.ReadFault, reply) = ⊥
IsOwn (causes.WriteFault, reply) = ⊥
IsOwn (causes.TooLarge count, reply) = ⊥

own_if : (b : Bool) (x y : Answer) → IsOwn x → IsOwn y → IsOwn (cond b x y)
own_if true x y h k = h
own_if false x y h k = k

own_tree : (shown : List ℕ) (budget : ℕ) (f : Found (List ℕ × Outcome)) → IsOwn (answer_of_tree shown budget f)
own_tree shown budget None = tt
own_tree shown budget (Some found) = tt

own_raise : (shown : List ℕ) (budget left : ℕ) (printed : Printed) → IsOwn (answer_of_raise shown budget left printed)
own_raise shown budget left printed =
    own_if (nat_le printed.nodes left) (causes.Raised printed.bytes, shown ++ line (codes "raised " ++ printed.bytes)) (spent shown budget) tt tt

own_searched : (k : Kernel) (budget : ℕ) (c : Configuration) (left : ℕ) → IsOwn (searched k budget c left)
own_searched k budget c left =
    own_if (has_script c) _ _ (own_tree (shown_lines c) budget (script_found k c left)) tt

own_top : (k : Kernel) (rest : Configuration → ℕ → Answer) (budget : ℕ) → ((c : Configuration) (left : ℕ) → IsOwn (rest c left)) → (r : Ran) → IsOwn (answer_of_top k rest budget r)
own_top k rest budget h (Over c) = tt
own_top k rest budget h (TopRaised c left exception) = own_raise (shown_lines c) budget left (term_text k.words (view c.layers []) exception)
own_top k rest budget h (Ended c left) = h c left

own_all : (k : Kernel) (budget : ℕ) → IsOwn (all_answer k budget)
unfolding all_answer
own_all k budget = own_top k (searched k budget) budget (own_searched k budget) (run k [] (opening k) budget)

own_run : (k : Kernel) (budget : ℕ) → IsOwn (run_answer k budget)
unfolding run_answer
own_run k budget = own_top k (λ c left. (causes.Done, shown_lines c)) budget (λ c left. tt) (run k [] (opening k) budget)

own_best : (budget : ℕ) (a : BestAnswer) → IsOwn (best_cause a, best_reply budget a)
own_best budget NotFd = tt
own_best budget (Best text cost) = tt
own_best budget NoSolution = tt
own_best budget (Spent total entries) = tt

own_same : (answer x : Answer) → answer ≡ x → IsOwn x → IsOwn answer
own_same answer x e h = subst (λ (y : Answer). IsOwn y) (sym e) h

own_answer : (c : Command) (p : Program) (answer : Answer) → IsAnswered c p answer → IsOwn answer
own_answer (commands.All workers budget) p answer h = own_same answer (all_answer (kernel_of p) budget) h (own_all (kernel_of p) budget)
own_answer (commands.Run budget) p answer h = own_same answer (run_answer (kernel_of p) budget) h (own_run (kernel_of p) budget)
own_answer (commands.Best workers budget) p answer h = own_same answer (best_cause h.0, best_reply budget h.0) h.2 (own_best budget h.0)
own_answer commands.Kernel p answer h = own_same answer (kernel_answer p) h tt

gives_own : (text : List ℕ) (c : Command) (cause : Cause) (reply : List ℕ) → IsOwn (cause, reply) → ProgramGives text c (cause, reply) → TextGives text c cause reply
gives_own text c causes.Done reply o g = g
gives_own text c (causes.Raised shown) reply o g = g
gives_own text c (causes.Spent total) reply o g = g
gives_own text c (causes.SpentBest total entries) reply o g = g
gives_own text c causes.NoScript reply o g = g
gives_own text c causes.NotFd reply o g = g
gives_own text c (causes.Refused fault) reply o g = absurd o
gives_own text c causes.NoMemory reply o g = absurd o
gives_own text c causes.Usage reply o g = absurd o
gives_own text c causes.ReadFault reply o g = absurd o
gives_own text c causes.WriteFault reply o g = absurd o
gives_own text c (causes.TooLarge count) reply o g = absurd o

-- an accepted text
pub accepted_gives : (text : List ℕ) (c : Command) (p : Program) (cause : Cause) (reply : List ℕ) → Accepts text p
    → IsAnswered c p (cause, reply) → TextGives text c cause reply
accepted_gives text c p cause reply a h = gives_own text c cause reply (own_answer c p (cause, reply) h) (p, a, h)

pub accepted_due : (text : List ℕ) (c : Command) (p : Program) (answer : Answer) → ((q : Program) → Accepts text q → q ≡ p) → ((f : Fault) → IsRefused text f → ⊥)
    → IsAnswered c p answer → AsText text c answer
accepted_due text c p answer only unrefused h = record {
  refused = λ n f r. absurd (unrefused f r);
  accepted = λ n q b. subst (λ (x : Program). IsAnswered c x answer) (sym (only q b)) h;
}

-- a refused text
pub refused_gives : (text : List ℕ) (c : Command) (fault : Fault) (cause : Cause) (reply : List ℕ) → IsRefused text fault → ◌≡◌ {A = Answer} (cause, reply) (refused_answer fault) → TextGives text c cause reply
refused_gives text c fault cause reply r is = subst (λ (x : Answer). TextGives text c x.0 x.1) (sym is) (r, refl)

pub refused_due : (text : List ℕ) (c : Command) (fault : Fault) (answer : Answer) → ((g : Fault) → IsRefused text g → g ≡ fault) → ((p : Program) → Accepts text p → ⊥) → answer ≡ refused_answer fault → AsText text c answer
refused_due text c fault answer only unaccepted is = record {
  refused = λ n f r. is ∙ ap (λ (x : Fault). refused_answer x) (sym (only f r));
  accepted = λ n p a. absurd (unaccepted p a);
}

-- no memory for a text
pub memory_gives : (text : List ℕ) (c : Command) (cause : Cause) (reply : List ℕ) → cause ≡ causes.NoMemory → reply ≡ [] → TextGives text c cause reply
memory_gives text c cause reply is e = subst (λ (x : Cause). TextGives text c x reply) (sym is) e

pub memory_due : (text : List ℕ) (c : Command) (cause : Cause) (reply : List ℕ) → cause ≡ causes.NoMemory → AsText text c (cause, reply)
memory_due text c cause reply is = record { refused = λ n f r. absurd (n is); accepted = λ n p a. absurd (n is) }

-- Words

-- words that spell a command are no usage
pub no_usage : (words : List (List ℕ)) (c : Command) → Spells words c → IsUsage words → ⊥
no_usage words c w u = u c w

-- no command
pub usage_due : (words : List (List ℕ)) (bytes : List ℕ) (cause : Cause) (reply : List ℕ) → IsUsage words
    → ((cause ≡ causes.Usage) × (reply ≡ usage_reply)) ⊎ ((cause ≡ causes.NoMemory) × (reply ≡ [])) → IsDue words bytes cause reply
usage_due words bytes cause reply u (inr h) = λ read memory. absurd (memory h.0)
usage_due words bytes cause reply u (inl h) = λ read memory. record {
  usage = λ v. ap (λ (x : Cause). (x, reply)) h.0 ∙ ap (λ (x : List ℕ). (causes.Usage, x)) h.1;
  all = λ budget asked. absurd (u (commands.All asked.workers budget) asked.spelled);
  run = λ budget asked. absurd (u (commands.Run budget) asked);
  best = λ workers budget asked. absurd (u (commands.Best workers budget) asked);
  kernel = λ asked. absurd (u commands.Kernel asked);
}

-- what the one command that the words spell answers to the bytes
is_reply : (words : List (List ℕ)) (bytes : List ℕ) (c : Command) (answer : Answer) → IsCommand words c → IsTextAnswer bytes (IsAnswered c) answer → IsReply words bytes answer
is_reply words bytes c answer w h = record {
  usage = λ u. absurd (no_usage words c w.spelled u);
  all = λ budget asked. let t = for (commands.All asked.workers budget) asked.spelled in record { too_large = t.too_large; refused = t.refused; accepted = t.accepted };
  run = λ budget asked. let t = for (commands.Run budget) asked in record { too_large = t.too_large; refused = t.refused; accepted = t.accepted };
  best = λ workers budget asked. for (commands.Best workers budget) asked;
  kernel = λ asked. let t = for commands.Kernel asked in record { too_large = t.too_large; refused = t.refused; accepted = t.accepted };
}
  where
    for : (d : Command) → Spells words d → IsTextAnswer bytes (IsAnswered d) answer
    for d spelled = subst (λ (x : Command). IsTextAnswer bytes (IsAnswered x) answer) (sym (w.only d spelled)) h

-- and the other way round
text_reply : (words : List (List ℕ)) (bytes : List ℕ) (c : Command) (answer : Answer) → Spells words c → IsReply words bytes answer → IsTextAnswer bytes (IsAnswered c) answer
text_reply words bytes (commands.All workers budget) answer w r =
    let t = r.all budget (record { workers = workers; spelled = w }) in record { too_large = t.too_large; refused = t.refused; accepted = t.accepted }
text_reply words bytes (commands.Run budget) answer w r = let t = r.run budget w in record { too_large = t.too_large; refused = t.refused; accepted = t.accepted }
text_reply words bytes (commands.Best workers budget) answer w r = r.best workers budget w
text_reply words bytes commands.Kernel answer w r = let t = r.kernel w in record { too_large = t.too_large; refused = t.refused; accepted = t.accepted }

usage_planned : (words : List (List ℕ)) (old new : Reading) (planned : Cause) (reply : List ℕ) → IsUsage words → Plans words old new planned reply → (planned ≡ causes.Usage) ⊎ (planned ≡ causes.NoMemory)
usage_planned words old new causes.Usage reply u p = inl refl
usage_planned words old new causes.NoMemory reply u p = inr refl
usage_planned words old new causes.ReadFault reply u p = absurd (no_usage words p.0.0 p.0.1 u)
usage_planned words old new (causes.TooLarge count) reply u p = absurd (no_usage words p.0.0 p.0.1 u)
usage_planned words old new causes.WriteFault reply u p = absurd p
usage_planned words old new (causes.Refused fault) reply u p = absurd (no_usage words p.asked p.spelled u)
usage_planned words old new causes.Done reply u p = absurd (no_usage words p.asked p.spelled u)
usage_planned words old new (causes.Raised shown) reply u p = absurd (no_usage words p.asked p.spelled u)
usage_planned words old new (causes.Spent total) reply u p = absurd (no_usage words p.asked p.spelled u)
usage_planned words old new (causes.SpentBest total entries) reply u p = absurd (no_usage words p.asked p.spelled u)
usage_planned words old new causes.NoScript reply u p = absurd (no_usage words p.asked p.spelled u)
usage_planned words old new causes.NotFd reply u p = absurd (no_usage words p.asked p.spelled u)

-- a call with words that are no command
pub usage_ended : (words : List (List ℕ)) (old new : Reading) (before after : Writing) (planned cause : Cause) (reply : List ℕ) → IsUsage words → Plans words old new planned reply → Ends planned reply before after cause
    → (cause ≡ causes.Usage) ⊎ IsExcused cause
usage_ended words old new before after planned cause reply u p (inr e) = inr (inr (inl e.0))
usage_ended words old new before after planned cause reply u p (inl e) =
    elim (usage_planned words old new planned reply u p) [
      | inl h ↦ inl (e.0 ∙ h)
      | inr h ↦ inr (inr (inr (e.0 ∙ h)))
    ]

-- Reading

-- what was read to the end is all that there was
whole_read : (before after : Option (List ℕ)) (bytes text : List ℕ) → before ≡ Some bytes → Consumes before after text → IsAtEnd after → (text ≡ bytes) × (after ≡ Some [])
whole_read None after bytes text b c e = cc
whole_read (Some xs) None bytes text b c e = absurd c
whole_read (Some xs) (Some ys) bytes text b c e =
    let same : xs ≡ bytes = cc in
    let all : xs ≡ text = c ∙ ap (λ zs. text ++ zs) e ∙ append-nil text in
    (sym all ∙ same, ap Some e)

part_read : (before after : Option (List ℕ)) (bytes text : List ℕ) → before ≡ Some bytes → length text ≡ text_limit + 1 → Consumes before after text → (text_limit < length bytes) × (after ≡ Some (drop (text_limit + 1) bytes))
part_read None after bytes text b l c = cc
part_read (Some xs) None bytes text b l c = absurd c
part_read (Some xs) (Some ys) bytes text b l c =
    let same : xs ≡ bytes = cc in
    let long = ap length c ∙ length-append text ys in
    let size = ap length same in (
      omega arith,
      ap Some (sym (drop-append_seam text ys) ∙ ap (λ n. drop n (text ++ ys)) l ∙ ap (drop (text_limit + 1)) (sym c ∙ same)),
    )

-- where the source is as it was, nothing was taken
pub bounded_unread : (old new : Option (List ℕ)) → new ≡ old → IsBounded old new
bounded_unread old new e = ([], lit≤ tt, subst (λ x. Consumes old x []) (sym e) (Consumes-nil old))

-- a text that was read to its end
pub due_text : (words : List (List ℕ)) (bytes text : List ℕ) (c : Command) (before after : Option (List ℕ)) (answer : Answer) → IsCommand words c → before ≡ Some bytes → Consumes before after text → IsAtEnd after → length text ≤ text_limit
    → AsText text c answer → IsDue words bytes answer.0 answer.1
due_text words bytes text k before after answer w b c e l a =
    let same = (whole_read before after bytes text b c e).0 in
    let d = subst (λ (xs : List ℕ). AsText xs k answer) same a in
    λ read memory. is_reply words bytes k answer w (record {
      too_large = λ long. absurd (let k = ap length same in omega arith);
      refused = λ short f r. d.refused memory f r;
      accepted = λ short p q. d.accepted memory p q;
    })

pub read_text : (bytes text : List ℕ) (before after : Option (List ℕ)) (cause : Cause) → before ≡ Some bytes → Consumes before after text → IsAtEnd after → length text ≤ text_limit → IsRead bytes after cause
read_text bytes text before after cause b c e l =
    let all = whole_read before after bytes text b c e in
    let k = ap length all.0 in
    λ read memory. all.1 ∙ ap Some (sym (drop_all (text_limit + 1) bytes (omega arith)))

-- a text that is too large
pub plans_large : (words : List (List ℕ)) (old new : Reading) (c : Command) (cause : Cause) (reply : List ℕ) → IsCommand words c → ((bytes : List ℕ) × (length bytes ≡ text_limit + 1) × Consumes old.left new.left bytes)
    → ((cause ≡ causes.TooLarge (text_limit + 1)) × (reply ≡ too_large_reply)) ⊎ ((cause ≡ causes.NoMemory) × (reply ≡ [])) → Plans words old new cause reply
plans_large words old new c cause reply w r (inl h) = subst (λ (x : Cause). Plans words old new x reply) (sym h.0) ((c, w.spelled), refl, r, h.1)
plans_large words old new c cause reply w r (inr h) = subst (λ (x : Cause). Plans words old new x reply) (sym h.0) h.1

pub due_large : (words : List (List ℕ)) (bytes text : List ℕ) (c : Command) (before after : Option (List ℕ)) (cause : Cause) (reply : List ℕ) → IsCommand words c → before ≡ Some bytes → length text ≡ text_limit + 1 → Consumes before after text
    → ((cause ≡ causes.TooLarge (text_limit + 1)) × (reply ≡ too_large_reply)) ⊎ ((cause ≡ causes.NoMemory) × (reply ≡ [])) → IsDue words bytes cause reply
due_large words bytes text k before after cause reply w b l c (inr h) = λ read memory. absurd (memory h.0)
due_large words bytes text k before after cause reply w b l c (inl h) =
    let long = (part_read before after bytes text b l c).0 in
    λ read memory. is_reply words bytes k (cause, reply) w (record {
      too_large = λ q. ap (λ (x : Cause). (x, reply)) h.0 ∙ ap (λ (x : List ℕ). (causes.TooLarge (text_limit + 1), x)) h.1;
      refused = λ short f r. absurd (omega arith);
      accepted = λ short p q. absurd (omega arith);
    })

pub read_large : (bytes text : List ℕ) (before after : Option (List ℕ)) (cause : Cause) → before ≡ Some bytes → length text ≡ text_limit + 1 → Consumes before after text → IsRead bytes after cause
read_large bytes text before after cause b l c = λ read memory. (part_read before after bytes text b l c).1

-- Writing

nothing_less : (n : ℕ) (reply : List ℕ) → reply ≡ [] → n < length reply → ⊥
nothing_less n reply e h = let k = ap length e in omega arith

-- what writes nothing ends as planned
pub ends_silent : (planned : Cause) (reply : List ℕ) (before after : Writing) (cause : Cause) → reply ≡ [] → Ends planned reply before after cause → cause ≡ planned
ends_silent planned reply before after cause e (inl h) = h.0
ends_silent planned reply before after cause e (inr h) = absurd (nothing_less h.2.0 reply e h.2.1)

whole_written : (old new : Option (List ℕ)) (before reply : List ℕ) → old ≡ Some before → Appends old new reply → new ≡ Some (before ++ reply)
whole_written None new before reply o h = cc
whole_written (Some xs) None before reply o h = absurd h
whole_written (Some xs) (Some ys) before reply o h = let k : xs ≡ before = cc in ap Some (h ∙ ap (λ zs. zs ++ reply) k)

-- The whole call

-- a planned cause that is no fault and no want of memory
sound : (words : List (List ℕ)) (old new : Reading) (before after : Writing) (planned cause : Cause) (reply : List ℕ) → Plans words old new planned reply → Ends planned reply before after cause
    → cause ≢ causes.ReadFault → cause ≢ causes.NoMemory → (planned ≢ causes.ReadFault) × (planned ≢ causes.NoMemory)
sound words old new before after planned cause reply p e f m = (
  λ k. f (ends_silent planned reply before after cause (subst (λ (x : Cause). Plans words old new x reply) k p).2 e ∙ k),
  λ k. m (ends_silent planned reply before after cause (subst (λ (x : Cause). Plans words old new x reply) k p) e ∙ k),
)

-- The answer to words and bytes
pub replied : (words : List (List ℕ)) (old new : Reading) (before after : Writing) (planned cause : Cause) (reply bytes : List ℕ) → Plans words old new planned reply → Ends planned reply before after cause
    → IsDue words bytes planned reply → cause ≢ causes.ReadFault → cause ≢ causes.NoMemory
    → (c : Cause) × (r : List ℕ) × IsReply words bytes (c, r) × Ends c r before after cause
replied words old new before after planned cause reply bytes p e d f m =
    let s = sound words old new before after planned cause reply p e f m in
    (planned, reply, d s.0 s.1, e)

pub read_by : (words : List (List ℕ)) (old new : Reading) (before after : Writing) (planned cause : Cause) (reply bytes : List ℕ) (left : Option (List ℕ)) → Plans words old new planned reply → Ends planned reply before after cause
    → IsRead bytes left planned → IsRead bytes left cause
read_by words old new before after planned cause reply bytes left p e r = λ f m.
    let s = sound words old new before after planned cause reply p e f m in
    r s.0 s.1

-- a cause is excused, or it is no fault and no want of memory
abbrev IsNoExcuse : Cause → Type 0
IsNoExcuse cause = (cause ≢ causes.ReadFault) × (cause ≢ causes.WriteFault) × (cause ≢ causes.NoMemory)

excused_or : (cause : Cause) → IsNoExcuse cause ⊎ IsExcused cause
excused_or causes.ReadFault = inr (inl refl)
excused_or causes.WriteFault = inr (inr (inl refl))
excused_or causes.NoMemory = inr (inr (inr refl))
excused_or causes.Done = inl (λ k. cc, λ k. cc, λ k. cc)
excused_or causes.Usage = inl (λ k. cc, λ k. cc, λ k. cc)
excused_or causes.NoScript = inl (λ k. cc, λ k. cc, λ k. cc)
excused_or causes.NotFd = inl (λ k. cc, λ k. cc, λ k. cc)
excused_or (causes.Raised shown) = inl (λ k. cc, λ k. cc, λ k. cc)
excused_or (causes.Refused fault) = inl (λ k. cc, λ k. cc, λ k. cc)
excused_or (causes.Spent total) = inl (λ k. cc, λ k. cc, λ k. cc)
excused_or (causes.SpentBest total entries) = inl (λ k. cc, λ k. cc, λ k. cc)
excused_or (causes.TooLarge count) = inl (λ k. cc, λ k. cc, λ k. cc)

abbrev pub Replied : List (List ℕ) → List ℕ → Writing → Writing → Cause → Type 0
Replied words bytes before after cause = cause ≢ causes.ReadFault → cause ≢ causes.NoMemory → (c : Cause) × (r : List ℕ) × IsReply words bytes (c, r) × Ends c r before after cause

-- where words and bytes ask for one answer
answered_with : (words : List (List ℕ)) (bytes : List ℕ) (before after : Writing) (cause : Cause) (answer : Answer) → ((x : Answer) → IsReply words bytes x → x ≡ answer) → Replied words bytes before after cause
    → cause ≢ causes.ReadFault → cause ≢ causes.WriteFault → cause ≢ causes.NoMemory → (cause ≡ answer.0) × Appends before.written after.written answer.1
answered_with words bytes before after cause answer only h f w m = go (h f m)
  where
    go : ((c : Cause) × (r : List ℕ) × IsReply words bytes (c, r) × Ends c r before after cause) → (cause ≡ answer.0) × Appends before.written after.written answer.1
    go (c, r, reply, inl e) =
        let same : ◌≡◌ {A = Answer} (c, r) answer = only (c, r) reply in
        (e.0 ∙ ap (λ (x : Answer). x.0) same, subst (λ (x : Answer). Appends before.written after.written x.1) same e.1)
    go (c, r, reply, inr e) = absurd (w e.0)

asked : (words : List (List ℕ)) (bytes : List ℕ) (before after : Writing) (cause : Cause) (answer : Answer) → ((x : Answer) → IsReply words bytes x → x ≡ answer) → Replied words bytes before after cause
    → (cause ≡ answer.0) ⊎ IsExcused cause
asked words bytes before after cause answer only h = go (excused_or cause)
  where
    go : IsNoExcuse cause ⊎ IsExcused cause → (cause ≡ answer.0) ⊎ IsExcused cause
    go (inr e) = inr e
    go (inl n) = inl (answered_with words bytes before after cause answer only h n.0 n.1 n.2).0

-- where it is one of several answers
replied_with : (words : List (List ℕ)) (bytes : List ℕ) (before after : Writing) (cause : Cause) (IsRight : Answer → Type 0) → ((x : Answer) → IsReply words bytes x → IsRight x) → Replied words bytes before after cause
    → cause ≢ causes.ReadFault → cause ≢ causes.WriteFault → cause ≢ causes.NoMemory → (x : Answer) × IsRight x × (cause ≡ x.0) × Appends before.written after.written x.1
replied_with words bytes before after cause IsRight right h f w m = go (h f m)
  where
    go : ((c : Cause) × (r : List ℕ) × IsReply words bytes (c, r) × Ends c r before after cause) → (x : Answer) × IsRight x × (cause ≡ x.0) × Appends before.written after.written x.1
    go (c, r, reply, inl e) = ((c, r), right (c, r) reply, e.0, e.1)
    go (c, r, reply, inr e) = absurd (w e.0)

-- what is done is no fault, and no want of memory
done_no_excuse : {cause : Cause} → cause ≡ causes.Done → IsNoExcuse cause
done_no_excuse is = (λ k. cc, λ k. cc, λ k. cc)

-- Where they spell a command

module _ (words : List (List ℕ)) (c : Command) (bytes : List ℕ) (before after : Writing) (cause : Cause) (w : Spells words c) (h : Replied words bytes before after cause) where
  pub asked_large : text_limit < length bytes → (cause ≡ causes.TooLarge (text_limit + 1)) ⊎ IsExcused cause
  asked_large l = asked words bytes before after cause (causes.TooLarge (text_limit + 1), too_large_reply) (λ x r. (text_reply words bytes c x w r).too_large l) h

  pub asked_refused : (f : Fault) → length bytes ≤ text_limit → IsRefused bytes f → (cause ≡ causes.Refused f) ⊎ IsExcused cause
  asked_refused f l q = asked words bytes before after cause (refused_answer f) (λ x r. (text_reply words bytes c x w r).refused l f q) h

  module _ (p : Program) (l : length bytes ≤ text_limit) (a : Accepts bytes p) where
    right_answer : (x : Answer) → IsReply words bytes x → IsAnswered c p x
    right_answer x r = (text_reply words bytes c x w r).accepted l p a

    -- a right answer was written whole
    pub written_right : (front : List ℕ) → before.written ≡ Some front → cause ≢ causes.ReadFault → cause ≢ causes.WriteFault → cause ≢ causes.NoMemory
        → (x : Answer) × IsAnswered c p x × (cause ≡ x.0) × (after.written ≡ Some (front ++ x.1))
    written_right front o f n m =
        let d = replied_with words bytes before after cause (IsAnswered c p) right_answer h f n m in
        (d.0, d.1, d.2, whole_written before.written after.written front d.0.1 o d.3)

    -- the call ended as done: that is a right answer, and it was written whole
    pub done_written : (front : List ℕ) → cause ≡ causes.Done → before.written ≡ Some front
        → (reply : List ℕ) × IsAnswered c p (causes.Done, reply) × (after.written ≡ Some (front ++ reply))
    done_written front is o =
        let n = done_no_excuse is in
        let all = written_right front o n.0 n.1 n.2 in
        let same : ◌≡◌ {A = Answer} all.0 (causes.Done, all.0.1) = ap (λ (x : Cause). (x, all.0.1)) (sym all.2 ∙ is) in
        (all.0.1, subst (λ (x : Answer). IsAnswered c p x) same all.1, all.3)

    -- where there is one right answer
    pub asked_accepted : (answer : Answer) → ((x : Answer) → IsAnswered c p x → x ≡ answer) → (cause ≡ answer.0) ⊎ IsExcused cause
    asked_accepted answer only = asked words bytes before after cause answer (λ x r. only x (right_answer x r)) h

    -- what is written of it
    pub written : (front : List ℕ) (answer : Answer) → ((x : Answer) → IsAnswered c p x → x ≡ answer) → before.written ≡ Some front
        → cause ≢ causes.ReadFault → cause ≢ causes.WriteFault → cause ≢ causes.NoMemory → (cause ≡ answer.0) × (after.written ≡ Some (front ++ answer.1))
    written front answer only o f n m =
        let d = answered_with words bytes before after cause answer (λ x r. only x (right_answer x r)) h f n m in
        (d.0, whole_written before.written after.written front answer.1 o d.1)

-- `best`, where they spell it
module _ (words : List (List ℕ)) (workers budget : ℕ) (bytes : List ℕ) (before after : Writing) (cause : Cause) (w : Spells words (commands.Best workers budget)) (h : Replied words bytes before after cause)
    (p : Program) (l : length bytes ≤ text_limit) (a : Accepts bytes p) where
  -- one of the right answers was written whole
  pub best_written : (front : List ℕ) → before.written ≡ Some front → cause ≢ causes.ReadFault → cause ≢ causes.WriteFault → cause ≢ causes.NoMemory
      → (x : BestAnswer) × IsBestAnswer p workers budget x × (cause ≡ best_cause x) × (after.written ≡ Some (front ++ best_reply budget x))
  best_written front o f n m =
      let d = written_right words (commands.Best workers budget) bytes before after cause w h p l a front o f n m in
      let is : ◌≡◌ {A = Answer} d.0 (best_cause d.1.0, best_reply budget d.1.0) = d.1.2 in
      (d.1.0, d.1.1, d.2 ∙ ap (λ (x : Answer). x.0) is, d.3 ∙ ap (λ (x : Answer). Some (front ++ x.1)) is)

  -- the cause is that of a right answer
  pub asked_best : ((x : BestAnswer) × IsBestAnswer p workers budget x × (cause ≡ best_cause x)) ⊎ IsExcused cause
  asked_best = go (excused_or cause)
    where
      go : IsNoExcuse cause ⊎ IsExcused cause → ((x : BestAnswer) × IsBestAnswer p workers budget x × (cause ≡ best_cause x)) ⊎ IsExcused cause
      go (inr e) = inr e
      go (inl n) =
          let d = replied_with words bytes before after cause (IsBestReply best_cause workers budget p) (right_answer words (commands.Best workers budget) bytes before after cause w h p l a) h n.0 n.1 n.2 in
          inl (d.1.0, d.1.1, d.2 ∙ ap (λ (x : Answer). x.0) d.1.2)

-- the tree of the script is searched
pub searched_all : (k : Kernel) (budget : ℕ) (found : Found (List ℕ × Outcome)) (s : Searches k budget found) → all_answer k budget ≡ answer_of_tree (shown_lines s.top) budget found
unfolding all_answer
searched_all k budget found s = rw (s.ended, s.script, s.searched) refl

-- the top comes to rest
pub ended_run : (k : Kernel) (budget left : ℕ) (top : Configuration) → run k [] (opening k) budget ≡ Ended top left → run_answer k budget ≡ (causes.Done, shown_lines top)
unfolding run_answer
ended_run k budget left top e = ap (answer_of_top k (λ c left. (causes.Done, shown_lines c)) budget) e
