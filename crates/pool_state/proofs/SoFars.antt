-- What is so far, after one entry more.
use Rattle.std.proofs.Common.{◌≡◌, List, [], ◌∷◌, ◌++◌, ap, sym, ◌∙◌}
use Rattle.oz_search.specs.declared.history.Entry.{Entry}
use Rattle.oz_search.specs.Histories.{History}
use Rattle.search_law.proofs.Booleans.{fold_push}
use Rattle.pool_state.specs.Branching.{so_far, so_far_after}

module _ {B L C : Type 0} (more : C → L → C) (c : C) where
  -- now, which was so far at h, becomes next by the entry e
  pub so_far_push : (h h' : History B L) (e : Entry (List B) L) (now next : C) → now ≡ so_far more c h → h' ≡ h ++ e ∷ [] → next ≡ so_far_after more now e → next ≡ so_far more c h'
  so_far_push h h' e now next was pushed after =
      after ∙ (ap (λ z. so_far_after more z e) was ∙ (sym (fold_push (so_far_after more) c h e) ∙ ap (so_far more c) (sym pushed)))
