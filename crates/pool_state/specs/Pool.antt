-- The pool as callers see it, what a claim answers, and what a stop leaves.
use Rattle.std.specs.Prelude.{◌≡◌, ℕ, true, List, [], ◌∷◌, ◌++◌, Option, Some, None}
use Rattle.oz_search.specs.declared.history.Entry.TheVariants.{Claim, Stop}
use Rattle.oz_search.specs.declared.history.Halt.{Halt}
use Rattle.oz_search.specs.declared.history.StopCause.{StopCause}
use Rattle.oz_search.specs.declared.history.StopCause.TheVariants.{Memory, Fuel, Total}
use Rattle.oz_search.specs.Searches.{Search}
use Rattle.oz_search.specs.Histories.{History, IsNothingOpen, IsNothingOut, IsLeftmost, is_out, claim_of, stop_of}
use Rattle.pool_state.specs.declared.pool.Claimed.{Claimed}
use Rattle.pool_state.specs.declared.pool.Claimed.TheVariants.{Node, Idle, Finished, Stopped}

-- what contracts see of a pool. The budget is in steps
pub record Pool (B L : Type 0) : Type 0 where
  pub budget : ℕ
  pub history : History B L

-- what a claim of w answers at the history h, and the history after
abbrev pub AnswersClaim : {B L : Type 0} → Search B L → History B L → ℕ → Claimed (List B) → History B L → Type 0
AnswersClaim k h w (Node p) after = (stop_of h ≡ None) × IsLeftmost k h p × (after ≡ h ++ Claim w p ∷ [])
AnswersClaim {B} k h w Idle after = (stop_of h ≡ None) × IsNothingOpen k h × ((p : List B) × (is_out k h p ≡ true)) × (after ≡ h)
AnswersClaim k h w Finished after = (stop_of h ≡ None) × IsNothingOpen k h × IsNothingOut k h × (after ≡ h)
AnswersClaim k h w (Stopped e) after = (stop_of h ≡ Some e) × (after ≡ h)

-- w may stop for this cause by itself. A stop by the total comes from a split or a leaf alone
abbrev pub MayAsk : {B L : Type 0} → History B L → ℕ → StopCause → Type 0
MayAsk h w Memory = Unit {0}
MayAsk {B} h w Fuel = (p : List B) × (claim_of h w ≡ Some p)
MayAsk h w (Total t) = ⊥

-- w stops for this cause
abbrev pub halt : ℕ → StopCause → Halt
halt w cause = record { worker = w; cause = cause }

-- h, where it had this stop, and else h with the stop x
abbrev pub unless_stopped : {B L : Type 0} → Option Halt → History B L → Halt → History B L
unless_stopped None h x = h ++ Stop x ∷ []
unless_stopped (Some e) h x = h

-- the first stop counts
abbrev pub after_stop : {B L : Type 0} → History B L → Halt → History B L
after_stop h x = unless_stopped (stop_of h) h x
