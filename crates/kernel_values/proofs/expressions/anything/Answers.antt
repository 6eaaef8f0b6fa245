use Rattle.kernel_writer.specs.Tasks.{state_of, written, begun, closed, all_done}
use Rattle.oz_language.specs.Kernels.{just}
use Rattle.oz_language.specs.declared.kernel.Identifier.TheVariants.{Fresh}
use Rattle.oz_language.specs.Translation.{made}
use Rattle.std.proofs.Common.{ap, ◌∙◌, ◌∷◌, [], suc}
use Rattle.kernel_writer.proofs.Outcomes.{outcome_by, numbered_to, wrote}
use Rattle.kernel_writer.proofs.Laws.{local_law}
use Rattle.kernel_writer.specs.declared.tasks.Closing.TheVariants as closing
use Rattle.oz_language.specs.Kernels as k
use Rattle.kernel_values.proofs.expressions.anything.Goals as goal

pub returns : goal.returns
returns c words =
    let w = c.args.writer.now in
    let n = w.numbers.next in
    let is = c.in_ok-other.ensures.name in
    let base = numbered_to (state_of w) (suc n) in
    outcome_by words c.close.new.self
    (ap (all_done words w.tasks) (local_law base (Fresh n ∷ []) (made (just (k.equate c.args.name (Fresh n))) (suc n))))
    (c.in_ok-close.ensures.tasks ∙ c.in_ok-begin.ensures.tasks)
    (c.in_ok-close.ensures.state
    ∙ ap (λ q. closed (closing.Local c.in_ok-names.names) q) (wrote (state_of c.begin.new.self) (just (k.equate c.args.name c.in_ok-other.other)) c.in_ok-equate.ensures
    ∙ ap (λ q. written q (made (just (k.equate c.args.name c.in_ok-other.other)) q.next)) (c.in_ok-begin.ensures.state ∙ ap (λ m. begun (numbered_to (state_of w) m)) c.in_ok-other.ensures.next))
    ∙ (λ i. closed (closing.Local ((c.in_ok-names.ensures ∙ ap (λ q. q ∷ []) is) i)) (written (begun base) (made (just (k.equate c.args.name (is i))) (suc n)))))
