use Rattle.std.proofs.Common.{◌≡◌, ◌+◌, ◌≤◌, List, ℤ, length, map, Some, IsSome, refl, sym, ap, ◌∙◌, arith}
use Rattle.std.specs.Fmt.{signed_decimal}
use Rattle.std.proofs.lemmas.List.{length-map}
use Rattle.std.proofs.lemmas.Grind.{common_steps}
use Rattle.tariff.specs.Sheets.{values_of as figure_values}
use Rattle.tariff.specs.declared.figure.Figure.{Figure}
use Rattle.journal.specs.Drafts.{complete_figures, line_order, sheet_order}
use Rattle.journal.specs.Tokens.{parsed_figure, parsed_values}
use Rattle.journal.proofs.LineOrder.{figures_again}
use Rattle.journal.proofs.drafts.write_draft.Goals as goal

pub returns-clause-again : goal.returns-clause-again
returns-clause-again g c =
    let draft = c.args.draft.now in
    let kind = g.K.SheetKind.kind_of draft in
    let own = g.K.SheetKind.own kind in
    let figures : List ℤ = figure_values (g.K.SheetKind.figures draft) in
    let published : List ℤ = figure_values (g.K.SheetKind.figures (g.K.SheetKind.published kind)) in
    let count =
    length-map (g.K.SheetKind.figures (g.K.SheetKind.published kind)) (λ (figure : Figure). figure.value) in
    let back = g.met.K.SheetKind.read_back draft in
    let named : g.K.NamedKind.named (g.K.NamedKind.word kind) ≡ Some kind =
    rw (c.of-kind.ensures) at c.word.ensures.again in
    let parsed : parsed_values parsed_figure (map signed_decimal (line_order own figures))
    ≡ Some (line_order own figures) =
    grind (arith, common_steps, c.in_ok-write_all.ensures.again) in
    let some : IsSome (g.K.SheetKind.from_figures kind figures) = rw back refl in
    let same : length figures ≡ length published =
    (g.met.K.SheetKind.complete kind figures).0 some
    ∙ sym count in
    let within : own.first + own.count ≤ length figures =
    omega (arith, g.met.K.NamedKind.own_within kind, count) in
    let again : sheet_order own (complete_figures own published (line_order own figures)) ≡ figures =
    figures_again own published figures within (sym same) in
    rw (named, parsed) (ap (g.K.SheetKind.from_figures kind) again ∙ back)
