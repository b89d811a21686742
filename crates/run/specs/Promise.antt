-- The whole promise of a run.
use Rattle.std.specs.Prelude.{◌≡◌, Bool, true, List, ◌≢◌}
use Rattle.card.specs.Cards.{Files}
use Rattle.card.specs.Profiles.{kind_of}
use Rattle.card.specs.declared.profile.Profile.{Profile}
use Rattle.record.specs.CardLaws.{CardChanged}
use Rattle.record.specs.Laws.{Iff}
use Rattle.record.specs.Records.{Record, WritesCard, WrittenUnder}
use Rattle.run.specs.Histories.{Event, Counted, Basis, LawfulRun, LawfulHistory, Accepted}
use Rattle.run.specs.Steps.{history, SameCalls}
use Rattle.run.specs.declared.promise.Step.{Step}
use Rattle.run.specs.declared.run.Summary.{Summary}

-- no lawful history over these files, under any profile, has a close that says clean
abbrev pub NeverClosesClean : Files → Type 0
NeverClosesClean files = (profile : Profile) (lost lost' : Bool) (events : List Event)
    → LawfulHistory files profile lost events lost'
    → (answer : Summary) → Accepted answer events → answer.clean ≢ true

-- What an accepted close means, over a card's files and under a profile.
pub record CloseMeans (files : Files) (profile : Profile) (summary : Summary) : Type 0 where
  -- it says clean if some record of this profile writes the files, and only then
  pub clean_exactly_when_written : Iff (summary.clean ≡ true) (WrittenUnder profile files)
  -- it counts the lines that follow by the cases from these files under this profile
  pub counts_of_the_cases : Counted files profile summary.tally
  -- at most one record writes these files, whichever profile it has
  pub written_by_one_record_only : (r other : Record)
      → WritesCard r files → WritesCard other files → r ≡ other
  -- where a record writes them, replace a digit by another at a checked place of the zone: over the files that result,
  -- no lawful history has a close that says clean, whatever the profile
  pub changed_digit_never_closes_clean : (r : Record) (changed : Files) → WritesCard r files
      → CardChanged (kind_of r.profile) files changed → NeverClosesClean changed

-- What a list of calls on a new run is promised: there are what the run stands on, the source before and after, and the
-- steps before and after.
pub record Promise {S : Type 0} (b : Basis S) (source source' : S) (before after : List Step)
    : Type 0 where
  -- the steps are the same calls as before, with their answers and buffers
  pub same_calls : SameCalls before after
  -- the rules hold of every call: of whether it went through, of its answer, of what it left in each buffer, and of
  -- which reads it made of the source
  pub lawful_throughout : LawfulRun b source (history before after) source'
  -- told of the link alone, this is a lawful history, and the last moment's link is that of the source handed back
  pub lawful_history : LawfulHistory b.files b.profile (b.lost source) (history before after)
      (b.lost source')
  -- wherever a close was accepted
  pub every_close : (summary : Summary) → Accepted summary (history before after)
      → CloseMeans b.files b.profile summary
