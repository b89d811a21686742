use Rattle.std.proofs.Common.{rules}
use Rattle.std.specs.Option.{option_copied}
use Rattle.card.specs.Cards.{template_tag_of}
use Rattle.card.specs.Profiles.{required}
use Rattle.cases.specs.Templates.{OpensAt}
use Rattle.cases.proofs.Structures.{untiled}
use Rattle.cases.proofs.structure.open_file.Goals as goal

pub returns-in-Err : goal.returns-in-Err
returns-in-Err c =
    let bytes = c.in_ok-bytes.bytes.now in
    let reader = c.in_ok-reader.reader in
    let opened : OpensAt (template_tag_of c.args.file) bytes reader = search rules in
    rw c.into.ensures
    (untiled (template_tag_of c.args.file) c.in-Err.failure.place (required c.args.profile c.args.file) (option_copied c.args.content) bytes
    reader (rw c.required.ensures at c.in_ok-bytes.ensures) opened.0 opened.1 c.in-Err.ensures)
