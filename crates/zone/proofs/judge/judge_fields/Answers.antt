use Rattle.std.proofs.Common.{rules}
use Rattle.text.specs.Names.{Name}
use Rattle.zone.specs.Fields.{Code, State, Number, Dated, Optional}
use Rattle.zone.proofs.Saying.{says, says_part, says_field}
use Rattle.zone.proofs.judge.judge_fields.Goals as goal
use Rattle.zone.proofs.judge.judge_fields.Goals.{in-Some, in-None}

pub returns-clause-lines : goal.returns-clause-lines
returns-clause-lines c = record {
  code = says_part (Code c.args.places.passport) c.judge_part.ensures (λ x h k. search rules);
  issuer = says_part State c.judge_part-2.ensures (λ x h k. k);
  name = says_part Name c.judge_part-3.ensures (λ x h k. k);
  number = says_field Number c.judge_field.ensures;
  nationality = says_part State c.judge_part-4.ensures (λ x h k. k);
  birth = says_field Dated c.judge_field-2.ensures;
  sex = says _ _ _ c.judged.ensures c.is_sex.ensures;
  expiry = says_field Dated c.judge_field-3.ensures;
  optional = elim c.match-places.branch [
    | in-Some w ↦ rw (w.in-Some.is, w.result-is) (says_field Optional w.judge_field-in-Some.ensures)
    | in-None w ↦ rw w.in-None.is w.result-is
  ];
  composite = says _ _ _ c.judged-2.ensures c.is_composite.ensures;
}
