-- Threads that wait for variables alone.
use Rattle.std.proofs.Common.{◌≡◌, true, false, List, refl, sym, ap, subst, ◌∙◌, Contains, Some}
use Rattle.std.specs.List.{list_any}
use Rattle.oz_base.specs.declared.names.Ident.{Ident}
use Rattle.oz_semantics.specs.Store.{same, itself}
use Rattle.oz_semantics.specs.Sights.{Sight, States, Readiness, Steps, Waits, WaitsForState, Offers, can_step}
use Rattle.oz_semantics.specs.Answers.{Answer, Acts, Edits, RaisesKind, RaisesTerm, Operates, Widens, Rests}
use Rattle.oz_semantics.specs.Operations.{by_state}
use Rattle.oz_semantics.specs.Statements.{stack_answer}
use Rattle.oz_semantics.specs.Readiness.{answer_ready}
use Rattle.oz_semantics.specs.Spaces.{sight}
use Rattle.oz_semantics.specs.declared.value.Tell.{Tell}
use Rattle.oz_semantics.specs.declared.configuration.Layer.{Layer}
use Rattle.oz_laws.proofs.SameLaws.{tests_same}
use Rattle.view_laws.specs.Readies.{IsUnmoved, SameClasses, SameReadiness, watched, seeing}
use Rattle.view_laws.proofs.Members.{some_of, by_some}
use Rattle.view_laws.proofs.ViewLaws.{determined_same}
use Rattle.view_laws.proofs.StayLaws.{readiness_stays}
use Rattle.view_laws.proofs.WakeLaws.{untouched_unmoved}
use Rattle.sleep_laws.specs.Asleep.{waits_only, rests_for, AsleepRests, StaysAsleep}

-- Answers that rest

rests_ready : (layers : List Layer) (s : Sight) (known : States) (a : Answer) (xs : List Ident) → rests_for a ≡ Some xs → can_step (answer_ready (by_state layers s known a)) ≡ false
rests_ready layers s known (Rests (Waits ys)) xs e = refl
rests_ready layers s known (Rests (Offers offer ys)) xs e = refl
rests_ready layers s known (Rests Steps) xs e = absurd (cc)
rests_ready layers s known (Rests (WaitsForState space)) xs e = refl
rests_ready layers s known (Acts act) xs e = absurd (cc)
rests_ready layers s known (Edits edit) xs e = absurd (cc)
rests_ready layers s known (RaisesKind kind) xs e = absurd (cc)
rests_ready layers s known (RaisesTerm x) xs e = absurd (cc)
rests_ready layers s known (Operates op space x) xs e = absurd (cc)
rests_ready layers s known (Widens ts) xs e = absurd (cc)

pub asleep_rests : AsleepRests
asleep_rests statements layers states space t xs h = rests_ready layers (sight statements layers space) states (stack_answer (sight statements layers space) t.frames) xs h.waits

-- the readiness alone tells for what
pub rests_by : (a : Answer) → rests_for a ≡ waits_only (answer_ready a)
rests_by (Acts act) = refl
rests_by (Edits edit) = refl
rests_by (RaisesKind kind) = refl
rests_by (RaisesTerm x) = refl
rests_by (Operates op space x) = refl
rests_by (Widens ts) = refl
rests_by (Rests ready) = refl

-- such an answer watches what it waits for
rests_watched : (a : Answer) (xs : List Ident) → rests_for a ≡ Some xs → watched a ≡ xs
rests_watched (Rests (Waits ys)) xs e = cc
rests_watched (Rests (Offers offer ys)) xs e = cc
rests_watched (Rests Steps) xs e = absurd (cc)
rests_watched (Rests (WaitsForState space)) xs e = absurd (cc)
rests_watched (Acts act) xs e = absurd (cc)
rests_watched (Edits edit) xs e = absurd (cc)
rests_watched (RaisesKind kind) xs e = absurd (cc)
rests_watched (RaisesTerm x) xs e = absurd (cc)
rests_watched (Operates op space x) xs e = absurd (cc)
rests_watched (Widens ts) xs e = absurd (cc)

-- what is the same readiness waits for variables of the same classes
waits_same : (view : List Tell) (one other : Readiness) (xs : List Ident) → waits_only one ≡ Some xs → SameReadiness view one other → (ys : List Ident) × (waits_only other ≡ Some ys) × SameClasses view xs ys
waits_same view Steps other xs e h = absurd (cc)
waits_same view (WaitsForState space) other xs e h = absurd (cc)
waits_same view (Waits us) other xs e h = let is : us ≡ xs = cc in (h.0, ap waits_only h.1, subst (λ (zs : List Ident). SameClasses view zs h.0) is h.2)
waits_same view (Offers offer us) other xs e h = let is : us ≡ xs = cc in (h.1, ap waits_only h.2, subst (λ (zs : List Ident). SameClasses view zs h.1) is h.4)

-- Where more is told

pub stays_asleep : StaysAsleep
stays_asleep statements space before more after touched xs t sees consistent touches asleep apart =
    let one : Answer = stack_answer (seeing statements space before) t.frames in
    let other : Answer = stack_answer (seeing statements space after) t.frames in
    let unmoved : (x : Ident) → Contains xs x → IsUnmoved before after x = λ x c. untouched_unmoved before more after touched x sees touches (apart x c) (asleep.free x c) in
    let still : (x : Ident) → Contains (watched one) x → IsUnmoved before after x = λ x c. unmoved x (subst (λ (ys : List Ident). Contains ys x) (rests_watched one xs asleep.waits) c) in
    let stays = readiness_stays statements space before after t sees.kept consistent still in
    let waits = waits_same after (answer_ready one) (answer_ready other) xs (sym (rests_by one) ∙ asleep.waits) stays in
    record {
      variables = waits.0;
      asleep = record {
        waits = rests_by other ∙ waits.1;
        free = λ y c.
            let here : list_any (same after y) waits.0 ≡ true = by_some (same after y) waits.0 y c ((tests_same after y y).1 itself) in
            let there = some_of (same after y) xs (waits.2 y ∙ here) in
            determined_same after y there.0 ((tests_same after y there.0).0 there.2) ∙ (unmoved there.0 there.1).free;
      };
      same = waits.2;
    }
