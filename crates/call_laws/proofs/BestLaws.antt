-- What a call of `best` writes of a script with a cost, where it is done.
use Rattle.std.proofs.Common.{◌≡◌, ℕ, ◌≤◌, List, [], ◌++◌, Some, length, sym, subst, ap}
use Rattle.oz_language.specs.Refusals.{Program, Accepts}
use Rattle.oz_language.specs.Translation.{kernel_of}
use Rattle.oz_language.specs.declared.kernel.Constant.{Constant}
use Rattle.oz_semantics.specs.Runs.{Ended, run, opening}
use Rattle.oz_semantics.specs.declared.configuration.Configuration.{Configuration}
use Rattle.fd_form.specs.Costs.{HasCost}
use Rattle.fd_form.specs.declared.script.FdScript.{FdScript}
use Rattle.oz_commands.specs.Commands.{Spells}
use Rattle.oz_commands.specs.declared.command.Command.TheVariants as commands
use Rattle.oz_replies.specs.Replies.{Answer, text_limit}
use Rattle.oz_replies.specs.BestReplies.{BestAnswer, IsBestAnswer, IsFound, optimum, no_solution, exceeded, ShowsOptimum, shows_best, shows_none, best_cause, best_reply}
use Rattle.oz_replies.specs.declared.cause.Cause.{Cause}
use Rattle.oz_replies.specs.declared.cause.Cause.TheVariants as causes
use Rattle.call_laws.specs.Call.{Writing}
use Rattle.call_laws.proofs.Answering.{Replied, done_written}

-- a right answer whose cause is that the search is done
done_shows : (p : Program) (s : FdScript) (place : ℕ) (feature : Constant) (top : Configuration) (left workers budget : ℕ) (a : BestAnswer) → IsFound p s place feature top left workers budget a → best_cause a ≡ causes.Done
    → ShowsOptimum p.words s place (best_reply budget a)
done_shows p s place feature top left workers budget a (optimum t best) done = shows_best t best
done_shows p s place feature top left workers budget a (no_solution none) done = shows_none none
done_shows p s place feature top left workers budget a (exceeded total entries more) done = absurd (cc)

answer_shows : (p : Program) (s : FdScript) (place workers budget : ℕ) (feature : Constant) (top : Configuration) (left : ℕ) (a : BestAnswer) (reply : List ℕ) → HasCost p s place feature
    → run (kernel_of p) [] (opening (kernel_of p)) budget ≡ Ended top left → IsBestAnswer p workers budget a → ◌≡◌ {A = Answer} (causes.Done, reply) (best_cause a, best_reply budget a) → ShowsOptimum p.words s place reply
answer_shows p s place workers budget feature top left a reply cost ran right is =
    subst (λ (x : List ℕ). ShowsOptimum p.words s place x) (sym (ap (λ (x : Answer). x.1) is))
    (done_shows p s place feature top left workers budget a (right.found s place feature top left cost ran) (sym (ap (λ (x : Answer). x.0) is)))

-- the call ended as done, and the top has come to rest: an optimum was written whole, or that there is none
pub optimum_written : (words : List (List ℕ)) (workers budget : ℕ) (bytes : List ℕ) (before after : Writing) (cause : Cause) → Spells words (commands.Best workers budget) → Replied words bytes before after cause
    → (p : Program) → length bytes ≤ text_limit → Accepts bytes p → (s : FdScript) (place : ℕ) (feature : Constant) → HasCost p s place feature
    → (top : Configuration) (left : ℕ) → run (kernel_of p) [] (opening (kernel_of p)) budget ≡ Ended top left → (front : List ℕ) → cause ≡ causes.Done → before.written ≡ Some front
    → (reply : List ℕ) × ShowsOptimum p.words s place reply × (after.written ≡ Some (front ++ reply))
optimum_written words workers budget bytes before after cause w h p l a s place feature cost top left ran front is o =
    let d = done_written words (commands.Best workers budget) bytes before after cause w h p l a front is o in
    (d.0, answer_shows p s place workers budget feature top left d.1.0 d.0 cost ran d.1.1 d.1.2, d.2)
