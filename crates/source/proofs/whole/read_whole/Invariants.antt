use Rattle.std.proofs.Common.{◌≡◌, ◌-◌}
use Rattle.source.specs.Whole.{WholeAnswer}
use Rattle.source.specs.Outcomes.{next_read, ReadsOn, ReadsWhole}
use Rattle.source.proofs.ReadingOn.{SoFar}
use Rattle.source.proofs.whole.read_whole.Given as goal

abbrev pub invariant-loop-have : goal.invariant-loop-have
invariant-loop-have g l =
    let m = g.S.Source in
    record {
      files : m.files l.source ≡ m.files l.initial.source;
      so_far : SoFar (m.files l.initial.source l.file) (m.lost l.initial.source) (m.lost l.source) l.have l.initial.buffer l.buffer;
      outcome : (answer : WholeAnswer) (t : g.row.S.Denot) → ReadsOn (λ have s answer t. m.outcomes s (next_read l.file have) answer t) l.have l.source answer t
          → ReadsWhole m.outcomes l.file l.initial.source answer t;
    }

abbrev pub decreases-loop-have : goal.decreases-loop-have
decreases-loop-have g l = 32767 - l.have
