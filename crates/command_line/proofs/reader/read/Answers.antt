use Rattle.std.proofs.Common.{◌≡◌, ◌∙◌, ap, sym, subst, true≢false, false, [], map}
use Rattle.std.specs.List.{list_any}
use Rattle.std.specs.String.{string_bytes}
use denote.Enum.Bare.{sameb}
use Rattle.clap.specs.contracts.error.kind.ErrorKind.{the_type}
use Rattle.clap.specs.declared.error.ErrorKind.TheVariants.{OutOfMemory}
use Rattle.clap.specs.Words.{HasKind, app_of, fault_of, is_simple, is_simple_and_free, subcommand_of}
use Rattle.command_line.specs.Reading.{is_odd}
use Rattle.command_line.specs.Table.{oz_app}
use Rattle.command_line.proofs.WholeLine.{simple, simple_and_free}
use Rattle.command_line.proofs.Parses.{gives, odd_map, taken, refused_by}
use Rattle.command_line.proofs.ReadingLaws.{odd_lost}
use Rattle.command_line.proofs.reader.read.Goals as goal

pub returns-then-has_odd : goal.returns-then-has_odd
returns-then-has_odd c =
    let words = map string_bytes c.args.words.now in
    sym (odd_lost words (odd_map is_odd string_bytes c.args.words.now ∙ sym c.has_odd.ensures ∙ c.if-has_odd.true))

pub returns-in-Ok : goal.returns-in-Ok
returns-in-Ok c =
    let words = map string_bytes c.args.words.now in
    let app : app_of c.in_ok-program.field-0 ≡ oz_app = c.in_ok-program.ensures in
    let odd : list_any is_odd words ≡ false = odd_map is_odd string_bytes c.args.words.now ∙ sym c.has_odd.ensures ∙ c.if-has_odd.false in
    let none : fault_of oz_app words ≡ [] = ap (λ a. fault_of a words) (sym app) ∙ c.in-Ok.ensures.kinds (ap is_simple_and_free app ∙ simple_and_free) in
    taken words c.found_command.result odd none
    (λ v given found. c.found_command.ensures v given ((c.in-Ok.ensures.matches (ap is_simple app ∙ simple)).1 ∙ ap (λ a. subcommand_of a words) app ∙ found.0, found.1))

pub returns-in-Err-2 : goal.returns-in-Err-2
returns-in-Err-2 c =
    let words = map string_bytes c.args.words.now in
    let app : app_of c.in_ok-program.field-0 ≡ oz_app = c.in_ok-program.ensures in
    let odd : list_any is_odd words ≡ false = odd_map is_odd string_bytes c.args.words.now ∙ sym c.has_odd.ensures ∙ c.if-has_odd.false in
    let kinds : HasKind (fault_of oz_app words) c.in-Err.error
    = subst (λ a. HasKind (fault_of a words) c.in-Err.error) app (c.in-Err.ensures.kinds (ap is_simple_and_free app ∙ simple_and_free)) in
    refused_by words c.in-Err.error odd kinds
    (λ m. true≢false (ap (λ k. sameb the_type k OutOfMemory) (sym (c.kind.ensures ∙ m)) ∙ sym c.eq.ensures ∙ c.if-eq.false))

pub found_command-requires : goal.found_command-requires
found_command-requires c =
    let words = map string_bytes c.args.words.now in
    let app : app_of c.in_ok-program.field-0 ≡ oz_app = c.in_ok-program.ensures in
    let odd : list_any is_odd words ≡ false = odd_map is_odd string_bytes c.args.words.now ∙ sym c.has_odd.ensures ∙ c.if-has_odd.false in
    let none : fault_of oz_app words ≡ [] = ap (λ a. fault_of a words) (sym app) ∙ c.in-Ok.ensures.kinds (ap is_simple_and_free app ∙ simple_and_free) in
    let (v, given, found) = gives words odd none in
    (v, given, ((c.in-Ok.ensures.matches (ap is_simple app ∙ simple)).1 ∙ ap (λ a. subcommand_of a words) app ∙ found.0, found.1))
