-- Declarations on top of a stack.
use Rattle.std.proofs.Common.{◌≡◌, ◌∙◌, ◌<◌, ◌≤◌, ◌+◌, ◌-◌, ◌++◌, ℕ, zero, suc, List, [], ◌∷◌, Option, Some, unwrap_or, length, map, drop, get_or, refl, sym, ap, arith}
use Rattle.std.proofs.lemmas.List.{length-map}
use Rattle.std.proofs.lemmas.List.FromFn.{get_or-map-range_with_len, length-map-range_with_len}
use Rattle.std.specs.List.{range_with_len}
use Rattle.oz_base.specs.Lists.{first}
use Rattle.oz_base.specs.declared.names.Ident.{Ident}
use Rattle.environments.specs.Environments.{Environment, binding, binding_all, nowhere}
use Rattle.oz_language.specs.declared.kernel.Identifier.{Identifier}
use Rattle.oz_semantics.specs.Names.{named}
use Rattle.oz_semantics.specs.Configurations.{frames_of, frames_in, thread_at, stack_of, layer_at, layer_of, new_layer, in_layer, fresh_variables, giving_out}
use Rattle.oz_semantics.specs.Changes.{changed_all}
use Rattle.oz_semantics.specs.Effects.{declared_changes}
use Rattle.oz_semantics.specs.Steps.{without_top}
use Rattle.oz_semantics.specs.declared.configuration.Code.TheVariants as code
use Rattle.oz_semantics.specs.declared.configuration.Frame.{Frame}
use Rattle.oz_semantics.specs.declared.configuration.Layer.{Layer}
use Rattle.settle_laws.proofs.EditLaws.{edits_agree}
use Rattle.space_core.specs.Giving.{declaring, declaring_in}
use Rattle.space_core.specs.Levels.{replacing}
use Rattle.space_core.specs.Stacks.{cut_out, declared_on}
use Rattle.space_core.proofs.LayerLaws.{cut_handler, frames_agree, own_stack, declare_is}

-- Identifiers that are bound from the last one on

bind_at : (ns : List Identifier) (xs : List Ident) (e : Environment) (k : ℕ) (d : Identifier) → k < length ns → length ns ≡ length xs
    → binding (get_or ns k d) (get_or xs k nowhere) (binding_all (drop (suc k) ns) (drop (suc k) xs) e) ≡ binding_all (drop k ns) (drop k xs) e
bind_at [] xs e k d h l = absurd (omega (arith, h))
bind_at (n ∷ ns) [] e k d h l = absurd (omega (arith, l))
bind_at (n ∷ ns) (x ∷ xs) e zero d h l = refl
bind_at (n ∷ ns) (x ∷ xs) e (suc k) d h l = bind_at ns xs e k d (omega (arith, h)) (omega (arith, l))

-- the last variable but those that are bound
pub bound_next : (names : List Identifier) (space : List ℕ) (from left number : ℕ) (e : Environment) (d : Identifier) → 0 < left → left ≤ length names → number ≡ from + (left - 1)
    → binding (get_or names (left - 1) d) (named space number) (binding_all (drop left names) (drop left (map (named space) (range_with_len from (length names)))) e)
    ≡ binding_all (drop (left - 1) names) (drop (left - 1) (map (named space) (range_with_len from (length names)))) e
bound_next names space from left number e d p h n =
    let xs = map (named space) (range_with_len from (length names)) in
    let step : left ≡ suc (left - 1) = omega (arith, p) in
    let within : left - 1 < length names = omega (arith, p, h) in
    let there : get_or xs (left - 1) nowhere ≡ named space number = get_or-map-range_with_len (named space) from (length names) (left - 1) number nowhere within (sym n) in
    ap (λ x. binding (get_or names (left - 1) d) x (binding_all (drop left names) (drop left xs) e)) (sym there)
    ∙ ap (λ k. binding (get_or names (left - 1) d) (get_or xs (left - 1) nowhere) (binding_all (drop k names) (drop k xs) e)) step
    ∙ bind_at names xs e (left - 1) d within (sym (length-map-range_with_len (named space) from (length names)))

-- The statement that gives way to them

module _ (inner : Environment) (names : List Identifier) (xs : List Ident) (body : List ℕ) (h : ℕ) (long : h ≡ length body) where
  abbrev frames : List Frame
  frames = frames_of inner body

  as_many : h ≡ length frames
  as_many = long ∙ sym (length-map body (λ (n : ℕ). record { code = code.Statement n; environment = inner }))

  -- it is cut out below them
  pub given_way : (frame : Frame) (old stack : List Frame) → Some frame ≡ first old → inner ≡ binding_all names xs frame.environment → stack ≡ frames ++ old → cut_out h 1 stack ≡ declared_on names xs body old
  given_way frame [] stack t b e = absurd (cc)
  given_way frame (other ∷ rest) stack t b e =
      let same : frame ≡ other = cc in
      ap (cut_out h 1) e
      ∙ cut_handler frames (other ∷ rest) h 1 as_many
      ∙ ap (λ (inside : Environment). frames_of inside body ++ rest) (b ∙ ap (λ (f : Frame). binding_all names xs f.environment) same)

-- it comes to the same as what goes on in its place
declared_goes_on : (names : List Identifier) (xs : List Ident) (body : List ℕ) (frame : Frame) (stack : List Frame) → Some frame ≡ first stack
    → declared_on names xs body stack ≡ replacing (frames_of (binding_all names xs frame.environment) body) stack
declared_goes_on names xs body frame [] e = absurd (cc)
declared_goes_on names xs body frame (other ∷ rest) e = let same : other ≡ frame = cc in ap (λ (f : Frame). frames_of (binding_all names xs f.environment) body ++ rest) same

-- The layers of a thread that declares

pub declare_in_is : (id : Ident) (value : List Layer) (names : List Identifier) (body : List ℕ) (frame : Frame) → Some frame ≡ first (stack_of value id)
    → in_layer id.space (declaring_in id.number names body) value ≡ changed_all id (declared_changes (layer_of value id.space) frame.environment names body) (without_top id value)
declare_in_is id value names body frame e = edits_agree id.space (declaring_in id.number names body) (declaring id.number (frames value_layer) (length names)) value here ∙ declare_is id value (frames value_layer) (length names)
  where
    value_layer : Layer
    value_layer = layer_of value id.space

    frames : Layer → List Frame
    frames l = frames_of (binding_all names (fresh_variables l (length names)) frame.environment) body

    here : (l : Layer) → layer_at value id.space ≡ Some l → declaring_in id.number names body l ≡ declaring id.number (frames value_layer) (length names) l
    here l at =
        let own : value_layer ≡ l = ap (λ (o : Option Layer). unwrap_or o (new_layer id.space)) at in
        let top : Some frame ≡ first (frames_in (thread_at l.threads id.number)) = e ∙ ap first (sym (own_stack id value l at)) in
        ap (giving_out (length names)) (frames_agree id.number (declared_on names (fresh_variables l (length names)) body) (replacing (frames value_layer)) l
        (declared_goes_on names (fresh_variables l (length names)) body frame (frames_in (thread_at l.threads id.number)) top
        ∙ ap (λ (k : Layer). replacing (frames k) (frames_in (thread_at l.threads id.number))) (sym own)))
