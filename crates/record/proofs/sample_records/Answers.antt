use Rattle.record.proofs.Samples.{sample_records_hold}
use Rattle.record.proofs.sample_records.Goals as goal

pub returns : goal.returns
returns c = sample_records_hold
