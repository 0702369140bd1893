-- The migration of a journal line by line: its work and its output.
use Rattle.std.specs.Prelude.{ℕ, List, [], Some, None, ⊤}
use Rattle.std.specs.declared.convert.Infallible.{Infallible}
use Rattle.pol_jobs.specs.LineWork.{Line, LineWork, Output, texts_of, work_of}
use Rattle.pol_migration.specs.Migration.{migrated, migrated_line, short_meaning_of_version_1}

-- what a line becomes, as a job meets it; a line that is too long becomes nothing
abbrev pub migrated_met : Line → List ℕ
migrated_met None = []
migrated_met (Some text) = migrated_line text (short_meaning_of_version_1 text)

-- what a migration does with each line; at the end it writes nothing
abbrev pub migrating_work : LineWork ⊤ Infallible
migrating_work = work_of (λ state line. migrated_met line) (λ state line. state) (λ state. [])

-- the output of a migration: what the lines become, and nothing more at the end
abbrev pub migrating : Output Infallible
migrating = texts_of migrated (λ bytes. [])
