use Rattle.std.proofs.Common.{refl, ◌∙◌}
use Rattle.card.specs.Cards.{files_at}
use Rattle.card.specs.Sheets.{passing, failing, unapplied, blocked}
use Rattle.sheet.specs.Sheets.{line_on}
use Rattle.sheet.proofs.Rows.{count_same}
use Rattle.cases.proofs.Cards.{card_lines, card_given, card_held}
use Rattle.c_api.specs.Exports.{state_of, place_of}
use Rattle.c_api.proofs.Filling.{by_place}
use Rattle.c_api.proofs.suhluva_sheet.Goals as goal

pub returns : goal.returns
returns c =
    let profile = c.in-Ok.profile in
    let files = files_at c.in-Ok-files_of.files.by_number in
    let sheet = c.judge_card.new.sheet in
    let holds = c.judge_card.ensures.holds in
    let lines = card_lines profile files (line_on sheet) holds in
    let held = card_held profile files (line_on sheet) holds in
    let t = c.tally.ensures in
    let n = c.into.ensures in
    let w = c.write_lines.ensures in
    record {
      profile = profile;
      asked = c.in-Ok.ensures.made;
      files = files;
      image = c.in-Ok-files_of.ensures;
      lines = lines;
      given = card_given profile files (line_on sheet) holds;
      states = by_place state_of sheet c.lines.result.now lines c.write_lines.new.states c.lines.ensures held w.states;
      places = by_place place_of sheet c.lines.result.now lines c.write_lines.new.places c.lines.ensures held w.places;
      counts = record {
        pass = n.pass ∙ t.pass ∙ count_same passing (line_on sheet) lines held;
        fail = n.fail ∙ t.fail ∙ count_same failing (line_on sheet) lines held;
        not_applicable = n.not_applicable ∙ t.not_applicable ∙ count_same unapplied (line_on sheet) lines held;
        blocked = n.blocked ∙ t.blocked ∙ count_same blocked (line_on sheet) lines held;
      };
      position = refl;
    }
