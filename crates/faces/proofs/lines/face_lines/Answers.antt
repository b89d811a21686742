use Rattle.std.proofs.Common.{ap, refl, rules}
use Rattle.object.specs.Readers.{rest_of}
use Rattle.faces.specs.declared.lines.FaceLines.{FaceLines}
use Rattle.faces.specs.Faces.{Entry, Described}
use Rattle.faces.proofs.Rows.{row_all, each_of, fails_at}
use Rattle.faces.proofs.lines.face_lines.Goals as goal

pub check_entries-requires-clause-tagged : goal.check_entries-requires-clause-tagged
check_entries-requires-clause-tagged c = row_all _ _ _ c.in-Some.ensures.group.row

pub check_entries-requires-2-clause-tagged : goal.check_entries-requires-2-clause-tagged
check_entries-requires-2-clause-tagged c = row_all _ _ _ c.in-Some.ensures.group.row

pub returns-in-Err : goal.returns-in-Err
returns-in-Err c =
    let f = c.in-Some.ensures in
    let s = fails_at Entry (λ v p. search rules) (λ v p. search rules) f.at c.in-Err.ensures in
    ((f.count, f.inside, rest_of c.in-Some.entries, f.group), (s.0, (_, s.1, refl), ap (λ (l : FaceLines). l.features) c.unjudged-in-Err.ensures))

pub returns-in-Ok : goal.returns-in-Ok
returns-in-Ok c =
    let f = c.in-Some.ensures in
    ((f.count, f.inside, rest_of c.in-Some.entries, f.group), (each_of (λ v p. search rules) c.in_default-check_entries.ensures, each_of (λ v p. search rules) c.in-Ok.ensures))

pub returns-in-Err-check_entries : goal.returns-in-Err-check_entries
returns-in-Err-check_entries c =
    let f = c.in-Some.ensures in
    let s = fails_at Described (λ v p. search rules) (λ v p. search rules) f.at c.in-Err-check_entries.ensures in
    ((f.count, f.inside, rest_of c.in-Some.entries, f.group), (each_of (λ v p. search rules) c.in_default-check_entries.ensures, (s.0, (_, s.1, refl))))
