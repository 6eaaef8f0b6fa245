-- The clauses of the call that follow from its plan and from how the writing ended.
use Rattle.std.proofs.Common.{ℕ, List, Some, None, map, ◌≡◌, ◌++◌, ◌-◌, ◌∙◌, ap, sym, subst, append_assoc}
use Rattle.std.specs.String.{string_bytes}
use Rattle.oz_commands.specs.Commands.{InRange}
use Rattle.oz_replies.specs.Replies.{shown_lines, spent, leaves_reply, all_answer, run_answer}
use Rattle.oz_search.specs.declared.leaf.Outcome.{Outcome}
use Rattle.oz_language.specs.Translation.{statements_of, kernel_of}
use Rattle.oz_language.specs.KernelTexts.{kernel_text}
use Rattle.oz_commands.specs.declared.command.Command.TheVariants as commands
use Rattle.oz_replies.specs.declared.cause.Cause.TheVariants as causes
use Rattle.call_laws.specs.Call.{Reading, Writing, Plans, Ends}
use Rattle.call_laws.proofs.Answering.{Replied, replied, read_by, usage_ended, asked_large, asked_refused, asked_accepted, written, done_written, best_written, asked_best, searched_all, ended_run}
use Rattle.call_laws.proofs.BestLaws.{optimum_written}
use Rattle.command_line.proofs.Numbers.{spelled_ranges}
use Rattle.fd_opening.proofs.ScriptLaws.{top_rests}
use Rattle.fd_tie.proofs.TieLaws.{fd_reply}
use Rattle.oz_top.proofs.call.oz_call.Given as given
use Rattle.oz_top.proofs.call.oz_call.Goals as goal

abbrev leaves_alone_of : List (List ℕ × Outcome) → List Outcome
leaves_alone_of found = map (λ (leaf : List ℕ × Outcome). leaf.1) found

abbrev words_of : (g : given.Over) → goal.After-drop-reply g → List (List ℕ)
words_of g c = map string_bytes c.args.words.now

abbrev old_of : (g : given.Over) → goal.After-drop-reply g → Reading
old_of g c = record { left = g.S.Source.left c.args.source.now; faults = g.S.Source.faults c.args.source.now }

abbrev new_of : (g : given.Over) → goal.After-drop-reply g → Reading
new_of g c = record { left = g.S.Source.left c.plan_words-cause.new.source; faults = g.S.Source.faults c.plan_words-cause.new.source }

abbrev before_of : (g : given.Over) → goal.After-drop-reply g → Writing
before_of g c = record { written = g.K.Sink.written c.args.sink.now; faults = g.K.Sink.faults c.args.sink.now }

abbrev after_of : (g : given.Over) → goal.After-drop-reply g → Writing
after_of g c = record { written = g.K.Sink.written c.finish.new.sink; faults = g.K.Sink.faults c.finish.new.sink }

planned : (g : given.Over) (c : goal.After-drop-reply g) → Plans (words_of g c) (old_of g c) (new_of g c) c.plan_words-cause.result.cause c.plan_words-cause.result.reply.items
planned g c = c.plan_words-cause.ensures.plans

ended : (g : given.Over) (c : goal.After-drop-reply g) → Ends c.plan_words-cause.result.cause c.plan_words-cause.result.reply.items (before_of g c) (after_of g c) c.finish.result.cause
ended g c = subst (λ (r : List ℕ). Ends c.plan_words-cause.result.cause r (before_of g c) (after_of g c) c.finish.result.cause) c.as_slice.ensures.value c.finish.ensures.ends

replies : (g : given.Over) (c : goal.After-drop-reply g) (bytes : List ℕ) → g.S.Source.left c.args.source.now ≡ Some bytes → Replied (words_of g c) bytes (before_of g c) (after_of g c) c.finish.result.cause
replies g c bytes told f m =
    replied (words_of g c) (old_of g c) (new_of g c) (before_of g c) (after_of g c) c.plan_words-cause.result.cause c.finish.result.cause c.plan_words-cause.result.reply.items bytes
    (planned g c) (ended g c) (c.plan_words-cause.ensures.due bytes told) f m

pub returns-clause-reply : goal.returns-clause-reply
returns-clause-reply g c bytes told f m = replies g c bytes told f m

pub returns-clause-leaves : goal.returns-clause-leaves
returns-clause-leaves g c budget bytes before p found steps w told o l a s f n m =
    let d = written (words_of g c) (commands.All w.workers budget) bytes (before_of g c) (after_of g c) c.finish.result.cause w.spelled (replies g c bytes told) p l a before (causes.Done, shown_lines s.top ++ leaves_reply (leaves_alone_of found))
    (λ x e. e ∙ searched_all (kernel_of p) budget (Some (found, steps)) s) o f n m in
    (d.0, d.1 ∙ ap Some (sym (append_assoc before (shown_lines s.top) (leaves_reply (leaves_alone_of found)))))

pub returns-clause-spent : goal.returns-clause-spent
returns-clause-spent g c budget bytes p w told l a s =
    asked_accepted (words_of g c) (commands.All w.workers budget) bytes (before_of g c) (after_of g c) c.finish.result.cause w.spelled (replies g c bytes told) p l a (spent (shown_lines s.top) budget)
    (λ x e. e ∙ searched_all (kernel_of p) budget None s)

pub returns-clause-assignments : goal.returns-clause-assignments
returns-clause-assignments g c budget bytes before p script w told o l a form is =
    let d = done_written (words_of g c) (commands.All w.workers budget) bytes (before_of g c) (after_of g c) c.finish.result.cause w.spelled (replies g c bytes told) p l a before is o in
    let r = fd_reply bytes p script budget d.0 a form (sym d.1) in
    (r.0, r.1, d.2 ∙ ap (λ (x : List ℕ). Some (before ++ x)) r.2)

pub returns-clause-shown : goal.returns-clause-shown
returns-clause-shown g c budget bytes before p top left w told o l a e f n m =
    written (words_of g c) (commands.Run budget) bytes (before_of g c) (after_of g c) c.finish.result.cause w (replies g c bytes told) p l a before (causes.Done, shown_lines top)
    (λ x is. is ∙ ended_run (kernel_of p) budget left top e) o f n m

pub returns-clause-read : goal.returns-clause-read
returns-clause-read g c asked bytes w told =
    read_by (words_of g c) (old_of g c) (new_of g c) (before_of g c) (after_of g c) c.plan_words-cause.result.cause c.finish.result.cause c.plan_words-cause.result.reply.items bytes (g.S.Source.left c.plan_words-cause.new.source)
    (planned g c) (ended g c) (c.plan_words-cause.ensures.read asked bytes w told)

pub returns-clause-too_large : goal.returns-clause-too_large
returns-clause-too_large g c asked bytes w told l = asked_large (words_of g c) asked bytes (before_of g c) (after_of g c) c.finish.result.cause w (replies g c bytes told) l

pub returns-clause-refused : goal.returns-clause-refused
returns-clause-refused g c asked bytes fault w told l r = asked_refused (words_of g c) asked bytes (before_of g c) (after_of g c) c.finish.result.cause w (replies g c bytes told) fault l r

pub returns-clause-accepted : goal.returns-clause-accepted
returns-clause-accepted g c budget bytes p w told l a =
    asked_accepted (words_of g c) (commands.All w.workers budget) bytes (before_of g c) (after_of g c) c.finish.result.cause w.spelled (replies g c bytes told) p l a (all_answer (kernel_of p) budget)
    (λ x e. e)

pub returns-clause-accepted_run : goal.returns-clause-accepted_run
returns-clause-accepted_run g c budget bytes p w told l a =
    asked_accepted (words_of g c) (commands.Run budget) bytes (before_of g c) (after_of g c) c.finish.result.cause w (replies g c bytes told) p l a (run_answer (kernel_of p) budget)
    (λ x e. e)

pub returns-clause-accepted_best : goal.returns-clause-accepted_best
returns-clause-accepted_best g c workers budget bytes p w told l a =
    asked_best (words_of g c) workers budget bytes (before_of g c) (after_of g c) c.finish.result.cause w (replies g c bytes told) p l a

pub returns-clause-best : goal.returns-clause-best
returns-clause-best g c workers budget bytes before p w told o l a f n m =
    best_written (words_of g c) workers budget bytes (before_of g c) (after_of g c) c.finish.result.cause w (replies g c bytes told) p l a before o f n m

-- the top of a script comes to rest, for the budget is 1 at least
pub returns-clause-optimum : goal.returns-clause-optimum
returns-clause-optimum g c workers budget bytes before p script place feature w told o l a cost is =
    let range : InRange (commands.Best workers budget) = spelled_ranges (words_of g c) (Some (commands.Best workers budget)) w in
    let rests = top_rests bytes p script budget a cost.script range.2 in
    optimum_written (words_of g c) workers budget bytes (before_of g c) (after_of g c) c.finish.result.cause w (replies g c bytes told) p l a script place feature cost rests.0 (budget - 1) rests.1 before is o

pub returns-clause-kernel : goal.returns-clause-kernel
returns-clause-kernel g c bytes before p w told o l a f n m =
    written (words_of g c) commands.Kernel bytes (before_of g c) (after_of g c) c.finish.result.cause w (replies g c bytes told) p l a before (causes.Done, kernel_text p.words (statements_of p))
    (λ x e. e) o f n m

pub returns-clause-usage : goal.returns-clause-usage
returns-clause-usage g c u =
    usage_ended (words_of g c) (old_of g c) (new_of g c) (before_of g c) (after_of g c) c.plan_words-cause.result.cause c.finish.result.cause c.plan_words-cause.result.reply.items u (planned g c) (ended g c)
