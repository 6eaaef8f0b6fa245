-- Edits of one layer.
use Rattle.std.proofs.Common.{ℕ, refl, ap, ◌∙◌, Option, length, unwrap_or, drop}
use Rattle.oz_base.specs.Lists.{list_eq}
use Rattle.oz_semantics.specs.Configurations.{is_of, layer_of, with_frames, telling, giving_out, new_layer}
use Rattle.oz_semantics.specs.Changes.{Change}
use Rattle.oz_semantics.specs.Exceptions.{new_term_tells, with_term}
use Rattle.oz_semantics.specs.declared.configuration.Layer.{Layer}
use Rattle.settle_laws.specs.Settles.{IsQuiet}
use Rattle.settle_laws.specs.Edits.{EditsJoin, EditsAgree, TermSettles, CommittingParts, AreQuiet, QuietThere, QuietView, PopView}
use Rattle.settle_laws.proofs.ListEdits.{edit_twice, edit_agree, is_found_edit}
use Rattle.view_laws.proofs.SightLaws.{quiet_unseen}
use Rattle.view_laws.proofs.ChangeLaws.{edit_of, edit_keeps}

pub edits_join : EditsJoin
edits_join space f g layers keeps = edit_twice (is_of space) f g (λ l. ap (λ s. list_eq s space) (keeps l)) layers

pub edits_agree : EditsAgree
edits_agree space f g layers h = edit_agree (is_of space) f g layers h

pub term_settles : TermSettles
term_settles space t layers l at =
    edits_join space (giving_out (length t)) (telling (new_term_tells (layer_of layers space) t)) layers (λ m. refl)
    ∙ edits_agree space (λ m. giving_out (length t) (telling (new_term_tells (layer_of layers space) t) m)) (with_term t) layers
    (λ m e. ap (λ (n : Layer). giving_out (length t) (telling (new_term_tells n t) m)) (ap (λ (o : Option Layer). unwrap_or o (new_layer space)) e))

pub committing_parts : CommittingParts
committing_parts s i l = refl

pub are_quiet : AreQuiet
are_quiet = record {
  frames = λ number change. record { space = λ l. refl; status = λ l. refl; tells = λ l. refl };
  terminated = record { space = λ l. refl; status = λ l. refl; tells = λ l. refl };
  variables = λ n. record { space = λ l. refl; status = λ l. refl; tells = λ l. refl };
  procedure = record { space = λ l. refl; status = λ l. refl; tells = λ l. refl };
  name = record { space = λ l. refl; status = λ l. refl; tells = λ l. refl };
  child = record { space = λ l. refl; status = λ l. refl; tells = λ l. refl };
  choice = λ s i. record { space = λ l. refl; status = λ l. refl; tells = λ l. refl };
  threads = λ fs. record { space = λ l. refl; status = λ l. refl; tells = λ l. refl };
  cell = λ content. record { space = λ l. refl; status = λ l. refl; tells = λ l. refl };
  content = λ number content. record { space = λ l. refl; status = λ l. refl; tells = λ l. refl };
  port = λ end. record { space = λ l. refl; status = λ l. refl; tells = λ l. refl };
  end = λ number end. record { space = λ l. refl; status = λ l. refl; tells = λ l. refl };
  trigger = λ procedure variable. record { space = λ l. refl; status = λ l. refl; tells = λ l. refl };
  propagator = λ r xs. record { space = λ l. refl; status = λ l. refl; tells = λ l. refl };
  noted = λ v ds. record { space = λ l. refl; status = λ l. refl; tells = λ l. refl };
  both = λ f g p q. record {
    space = λ l. p.space (g l) ∙ q.space l;
    status = λ l. p.status (g l) ∙ q.status l;
    tells = λ l. p.tells (g l) ∙ q.tells l;
  };
}

-- in particular each change of a step
pub edit_quiet : (number : ℕ) (change : Change) → IsQuiet (edit_of number change)
edit_quiet number change = let kept = edit_keeps number change in record { space = kept.space; status = kept.status; tells = kept.tells }

pub quiet_there : QuietThere
quiet_there change layers space other q = is_found_edit (is_of other) (is_of space) change (λ l. ap (λ s. list_eq s other) (q.space l)) layers

pub quiet_view : QuietView
quiet_view change layers space other q = quiet_unseen change layers space other (λ l e. q.space l) (λ l e. q.tells l)

pub pop_view : PopView
pop_view id layers other = quiet_view (with_frames id.number (λ frames. drop 1 frames)) layers id.space other (are_quiet.frames id.number (λ frames. drop 1 frames))
