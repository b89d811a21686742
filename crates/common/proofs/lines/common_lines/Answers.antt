use Rattle.std.proofs.Common.{refl}
use Rattle.std.proofs.lemmas.Bool.Decides.{Decides-eqb}
use Rattle.std.proofs.lemmas.Slice.Eq.{slice_eq-Decides}
use Rattle.object.specs.Readers.{rest_of}
use Rattle.common.proofs.Holding.{text_line, with_contents}
use Rattle.common.proofs.lines.common_lines.Goals as goal

pub returns : goal.returns
returns c =
    let k = c.in-Some.field-0 in
    let v = slice_eq-Decides Decides-eqb k.version.bytes.now c.as_slice.result.now c.eq.result c.eq.ensures in
    let u = slice_eq-Decides Decides-eqb k.unicode.bytes.now c.as_slice-2.result.now c.eq-2.result c.eq-2.ensures in
    with_contents c.args.profile c.args.reader.position (rest_of c.args.reader) k _ c.in-Some.ensures refl
    (text_line _ _ _ c.judged.ensures (rw c.as_slice.ensures at v)) (text_line _ _ _ c.judged-2.ensures (rw c.as_slice-2.ensures at u)) c.tag_lines-tags.ensures
