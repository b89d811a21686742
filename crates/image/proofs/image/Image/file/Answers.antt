use Rattle.std.proofs.Common.{rules}
use borrow.Author.Tests.{tests}
use Rattle.image.proofs.Passing.{sought}
use Rattle.image.proofs.image.Image.file.Goals as goal

pub returns : goal.returns
returns c =
    let is = sought c.args.file (λ x q k. search (rules, tests)) (λ x q k. search (rules, tests)) _ c.find.new.self c.find.result c.find.ensures.ran in
    search (rules, tests)
