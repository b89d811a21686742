use Rattle.std.proofs.Common.{◌≡◌, ◌<◌, ◌≤◌, None, refl, ◌∙◌, sym, ⊎_elim}
use Rattle.std.specs.List.{slice_get}
use Rattle.std.proofs.lemmas.Bool.{cases_lt}
use Rattle.std.proofs.lemmas.Option.{slice_get-get_or}
use Rattle.card.specs.Cases.{all_lines}
use Rattle.sheet.specs.Tables.{line_count}
use Rattle.c_api.proofs.suhluva_line.Goals as goal

pub returns-in_default : goal.returns-in_default
returns-in_default c =
    let none : slice_get all_lines c.args.index ≡ None = sym c.line_at.ensures.line ∙ c.in_default.is in
    let past : line_count ≤ c.args.index = ⊎_elim
    (λ (l : c.args.index < line_count). let some = slice_get-get_or all_lines c.args.index (0, 0) l in absurd (cc))
    (λ (l : line_count ≤ c.args.index). l)
    (cases_lt c.args.index line_count) in
    rw c.from.ensures (refl, past, refl)
