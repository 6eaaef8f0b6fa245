use Rattle.std.proofs.Common.{◌≡◌, map}
use Rattle.oz_language.specs.Kernels.{Stmts, numbered}
use Rattle.oz_language.specs.KernelTexts.{kernel_text}
use Rattle.kernel_form.specs.Whole.{AreWhole}
use Rattle.kernel_form.specs.Entries.{left_of}
use Rattle.kernel_form.specs.Pending.{Leads}
use Rattle.kernel_form.proofs.program.kernel_text.Given as goal

abbrev pub invariant-statements : goal.invariant-statements
invariant-statements l =
    (ss : Stmts) → AreWhole ss → l.kernel ≡ numbered l.kernel.words ss
    → Leads l.kernel.words l.kernel.statements (map left_of l.pending) l.out.items (kernel_text l.kernel.words ss)
